-- A tree that stands in a list of nodes is no deeper than the list is long.
use Rattle.std.proofs.Common.{◌≡◌, ℕ, suc, ◌+◌, ◌<◌, ◌≤◌, true, false, List, [], ◌∷◌, length, refl, sym, ap, subst}
use Rattle.std.proofs.Common.{arith}
use Rattle.std.specs.Prelude.{Bool, ◌||◌, max, ◌==◌}
use Rattle.std.specs.List.{AllByRecursion, IsDistinct, list_any}
use Rattle.std.proofs.lemmas.Bool.{eqb-true}
use Rattle.std.proofs.lemmas.Option.{slice_get_within}
use Rattle.std.proofs.lemmas.Map.Steps.{length-le_from_distinct_below}
use Rattle.std.proofs.lemmas.Map.Keys.{IsDistinct-cons}
use Rattle.c_tree.specs.declared.syntax.Node.{Node}
use Rattle.c_tree.specs.Syntax.{Syn, Syns, node, StandsAt, StandAt, stands, none, next}
use Rattle.c_plain_rules.specs.Depths.{depth, depths}

-- what stands at a number is as deep, whatever its tokens are
mutual
  same_depth : (nodes : List Node) (i : ℕ) (x y : Syn) → StandsAt nodes i x → StandsAt nodes i y → depth x ≡ depth y
  same_depth nodes i x y (stands {n = n} {xs = xs} e p s f a) (stands {n = m} {xs = ys} e' p' s' f' b) =
      let same : m ≡ n = cc in
      ap suc (same_depths nodes n.kids xs ys a (subst (λ (z : Node). StandAt nodes z.kids ys) same b))

  same_depths : (nodes : List Node) (ks : List ℕ) (xs ys : Syns) → StandAt nodes ks xs → StandAt nodes ks ys →
      depths xs ≡ depths ys
  same_depths nodes ks xs ys none none = refl
  same_depths nodes ks xs ys (next {i = i} {is = is} {x = x} {xs = us} a b) (next {x = y} {xs = vs} c d) =
      let p = same_depth nodes i x y a c in
      let q = same_depths nodes is us vs b d in
      omega arith

-- nodes of which each goes deeper than so many
record Deeper (nodes : List Node) (d q : ℕ) : Type 0 where
  there : q < length nodes
  deeper : (y : Syn) → StandsAt nodes q y → d < depth y

abbrev AreDeeper : List Node → ℕ → List ℕ → Type 0
AreDeeper nodes d [] = Unit {0}
AreDeeper nodes d (q ∷ qs) = Deeper nodes d q × AreDeeper nodes d qs

weaker : (nodes : List Node) (d e : ℕ) (qs : List ℕ) → e ≤ d → AreDeeper nodes d qs → AreDeeper nodes e qs
weaker nodes d e [] le h = tt
weaker nodes d e (q ∷ qs) le h = (
  record { there = h.0.there; deeper = λ y s. let lt = h.0.deeper y s in omega arith },
  weaker nodes d e qs le h.1,
)

below_one : (n q k : ℕ) (b c : Bool) → k < n → (c ≡ true → q < n) → (q == k) ≡ b → (b || c) ≡ true → q < n
below_one n q k true c lt h e t = subst (λ z. z < n) (sym (eqb-true q k e)) lt
below_one n q k false c lt h e t = h t

below : (nodes : List Node) (d : ℕ) (qs : List ℕ) → AreDeeper nodes d qs → (q : ℕ) →
    list_any (λ k. q == k) qs ≡ true → q < length nodes
below nodes d [] h q e = absurd cc
below nodes d (k ∷ qs) h q e =
    below_one (length nodes) q k (q == k) (list_any (λ k. q == k) qs) h.0.there (below nodes d qs h.1 q) refl e

-- the one at work is none of them
unequal : (i q : ℕ) (b : Bool) → (i == q) ≡ b → (i ≡ q → ⊥) → b ≡ false
unequal i q true e h = absurd (h (eqb-true i q e))
unequal i q false e h = refl

apart : (nodes : List Node) (i : ℕ) (x : Syn) (qs : List ℕ) → StandsAt nodes i x → AreDeeper nodes (depth x) qs →
    AllByRecursion (λ k. (i == k) ≡ false) qs
apart nodes i x [] s h = tt
apart nodes i x (q ∷ qs) s h = (
  unequal i q (i == q) refl
      (λ e. let lt = h.0.deeper x (subst (λ (k : ℕ). StandsAt nodes k x) e s) in omega arith),
  apart nodes i x qs s h.1,
)

mutual
  fits : (nodes : List Node) (i : ℕ) (x : Syn) (qs : List ℕ) → StandsAt nodes i x → IsDistinct (λ j k. j == k) qs →
      AreDeeper nodes (depth x) qs → depth x + length qs ≤ length nodes
  fits nodes i x qs (stands {n = n} {t = t} {xs = xs} e p s f a) d h =
      let own : StandsAt nodes i (node n.kind t xs) = stands e p s f a in
      let alone = IsDistinct-cons (λ j k. j == k) i qs (apart nodes i (node n.kind t xs) qs own h) d in
      let all = all_fit nodes n.kids xs (i ∷ qs) a alone (
        record {
          there = slice_get_within nodes i n e;
          deeper = λ y z. let same = same_depth nodes i (node n.kind t xs) y own z in omega arith;
        },
        weaker nodes (suc (depths xs)) (depths xs) qs (omega arith) h,
      ) in
      omega arith

  all_fit : (nodes : List Node) (ks : List ℕ) (xs : Syns) (qs : List ℕ) → StandAt nodes ks xs →
      IsDistinct (λ j k. j == k) qs → AreDeeper nodes (depths xs) qs → depths xs + length qs ≤ length nodes
  all_fit nodes ks xs qs none d h =
      let few = length-le_from_distinct_below qs (length nodes) d (below nodes 0 qs h) in omega arith
  all_fit nodes ks xs qs (next {i = i} {is = is} {x = x} {xs = ys} a b) d h =
      let p = fits nodes i x qs a d (weaker nodes (max (depth x) (depths ys)) (depth x) qs (omega arith) h) in
      let q = all_fit nodes is ys qs b d (weaker nodes (max (depth x) (depths ys)) (depths ys) qs (omega arith) h) in
      omega arith

pub depth_few : (nodes : List Node) (i : ℕ) (x : Syn) → StandsAt nodes i x → depth x ≤ length nodes
unfolding IsDistinct
depth_few nodes i x s = let h = fits nodes i x [] s tt tt in omega arith
