-- A tree that stands in a list of nodes has no more levels than the list has nodes: on the way down no node comes
-- twice.
use Rattle.std.proofs.Common.{◌≡◌, ℕ, zero, suc, ◌+◌, ◌-◌, ◌<◌, ◌≤◌, Bool, true, false, eqb, List, [], ◌∷◌, length}
use Rattle.std.proofs.Common.{Some, refl, sym, ap, subst, ⊎_elim, arith}
use Rattle.std.specs.Prelude.{slice_get, ◌||◌}
use Rattle.std.specs.List.{IsDistinct, AllByRecursion, list_any}
use Rattle.std.proofs.lemmas.Bool.{eqb-true, or_cases}
use Rattle.std.proofs.lemmas.Option.{slice_get_within}
use Rattle.std.proofs.lemmas.Map.Keys.{IsDistinct-cons}
use Rattle.std.proofs.lemmas.Map.Steps.{length-le_from_distinct_below}
use Rattle.c_tree.specs.declared.syntax.Node.{Node}
use Rattle.c_tree.specs.declared.syntax.Tree.{Tree}
use Rattle.c_tree.specs.Syntax.{Syn, Syns, node, nil, more, StandsAt, StandAt, stands, none, next}
use Rattle.c_passing.specs.Named.{levels, deepest, IsWithin, HasSyntax}

mutual
  same_levels : (ns : List Node) (k : ℕ) (x y : Syn) → StandsAt ns k x → StandsAt ns k y → levels x ≡ levels y
  same_levels ns k x y (stands {n = m} {xs = xs} e p s f a) (stands {n = n} {xs = ys} g q t h b) =
      let same : m ≡ n = cc in
      ap (λ d. d + 1) (same_deepest ns n.kids xs ys (subst (λ (z : Node). StandAt ns z.kids xs) same a) b)

  same_deepest : (ns : List Node) (ks : List ℕ) (xs ys : Syns) → StandAt ns ks xs → StandAt ns ks ys →
      deepest xs ≡ deepest ys
  same_deepest ns [] nil nil none none = refl
  same_deepest ns [] nil (more y ys) s t = elim t [ ]
  same_deepest ns [] (more x xs) ys s t = elim s [ ]
  same_deepest ns (k ∷ ks) nil ys s t = elim s [ ]
  same_deepest ns (k ∷ ks) (more x xs) nil s t = elim t [ ]
  same_deepest ns (k ∷ ks) (more x xs) (more y ys) (next a b) (next c d) =
      rw (same_levels ns k x y a c, same_deepest ns ks xs ys b d) refl

pub node_there : (ns : List Node) (k : ℕ) (x : Syn) → StandsAt ns k x → k < length ns
node_there ns k x (stands {n = n} e p s f a) = slice_get_within ns k n e

has_level : (x : Syn) → 0 < levels x
has_level (node k t xs) = omega arith

pub some_levels : (tree : Tree) (k n : ℕ) → IsWithin tree k n → 0 < n
some_levels tree k n h = let a = has_level h.syntax in let b : levels h.syntax ≤ n = h.within in omega arith

-- different nodes, with more levels each than so many
pub record AreAbove (ns : List Node) (ks : List ℕ) (n : ℕ) : Type 0 where
  pub distinct : IsDistinct eqb ks
  pub higher : (q : ℕ) → list_any (eqb q) ks ≡ true → (y : Syn) × StandsAt ns q y × (n < levels y)

lower : (ns : List Node) (ks : List ℕ) (m n : ℕ) → m ≤ n → AreAbove ns ks n → AreAbove ns ks m
lower ns ks m n l h = record {
  distinct = h.distinct;
  higher = λ q e. let y = h.higher q e in
      (y.0, y.1, let b : n < levels y.0 = y.2 in omega arith);
}

apart : (k : ℕ) (ks : List ℕ) → (list_any (eqb k) ks ≡ true → ⊥) → AllByRecursion (λ y. eqb k y ≡ false) ks
apart k [] f = tt
apart k (j ∷ ks) f =
    let e = no_either (eqb k j) (list_any (eqb k) ks) f in
    (e.0, apart k ks e.1)
  where
    no_either : (a b : Bool) → ((a || b) ≡ true → ⊥) → (a ≡ false) × (b ≡ true → ⊥)
    no_either true b g = absurd (g refl)
    no_either false b g = (refl, g)

-- a part is below itself and what is above it
one_lower : (ns : List Node) (k : ℕ) (ks : List ℕ) (x : Syn) (n : ℕ) → StandsAt ns k x → n < levels x →
    AreAbove ns ks (levels x) → AreAbove ns (k ∷ ks) n
one_lower ns k ks x n s l h = record {
  distinct = IsDistinct-cons eqb k ks (apart k ks
      (λ e. let y = h.higher k e in let same = same_levels ns k x y.0 s y.1 in let b : levels x < levels y.0 = y.2 in
      omega arith)) h.distinct;
  higher = λ q e. ⊎_elim (λ i. (x, subst (λ j. StandsAt ns j x) (sym (eqb-true q k i)) s, l))
      (λ i. let y = h.higher q i in (y.0, y.1, let b : levels x < levels y.0 = y.2 in omega arith))
      (or_cases (eqb q k) (list_any (eqb q) ks) e);
}

mutual
  few_below : (ns : List Node) (k : ℕ) (x : Syn) (ks : List ℕ) → StandsAt ns k x → AreAbove ns ks (levels x) →
      levels x + length ks ≤ length ns
  few_below ns k (node c t xs) ks (stands {n = n} e p s f a) h =
      let all : deepest xs + length (k ∷ ks) ≤ length ns =
      few_parts ns n.kids xs (k ∷ ks) a (one_lower ns k ks (node n.kind t xs) (deepest xs) (stands e p s f a)
      (omega arith) h) in
      omega arith

  few_parts : (ns : List Node) (is : List ℕ) (xs : Syns) (ks : List ℕ) → StandAt ns is xs →
      AreAbove ns ks (deepest xs) → deepest xs + length ks ≤ length ns
  few_parts ns [] (more x xs) ks s h = elim s [ ]
  few_parts ns (i ∷ is) nil ks s h = elim s [ ]
  few_parts ns [] nil ks none h =
      (let few : length ks ≤ length ns = length-le_from_distinct_below ks (length ns) h.distinct
      (λ q e. let y = h.higher q e in node_there ns q y.0 y.1) in omega arith)
  few_parts ns (i ∷ is) (more x xs) ks (next a b) h =
      let first : levels x + length ks ≤ length ns =
      few_below ns i x ks a (lower ns ks (levels x) (deepest (more x xs)) (omega arith) h) in
      let others : deepest xs + length ks ≤ length ns =
      few_parts ns is xs ks b (lower ns ks (deepest xs) (deepest (more x xs)) (omega arith) h) in
      omega arith

pub whole_within : (tree : Tree) (n : ℕ) → HasSyntax tree → n ≡ length tree.nodes → IsWithin tree tree.root n
unfolding IsDistinct
whole_within tree n h e =
    let few : levels h.syntax + 0 ≤ length tree.nodes =
    few_below tree.nodes tree.root h.syntax [] h.stands (record { distinct = tt; higher = λ q e. absurd cc }) in
    record { syntax = h.syntax; stands = h.stands; within = omega arith }

-- ---- the parts of a node

kid_stands : (ns : List Node) (ks : List ℕ) (xs : Syns) (j k : ℕ) → StandAt ns ks xs → slice_get ks j ≡ Some k →
    (y : Syn) × StandsAt ns k y × (levels y ≤ deepest xs)
kid_stands ns [] nil j k none e = absurd cc
kid_stands ns [] (more x xs) j k s e = elim s [ ]
kid_stands ns (i ∷ is) nil j k s e = elim s [ ]
kid_stands ns (i ∷ is) (more x xs) zero k (next a b) e =
    let same : i ≡ k = cc in (x, subst (λ z. StandsAt ns z x) same a, omega arith)
kid_stands ns (i ∷ is) (more x xs) (suc j) k (next a b) e =
    let y = kid_stands ns is xs j k b e in
    (y.0, y.1, let l : levels y.0 ≤ deepest xs = y.2 in omega arith)

pub kid_within : (tree : Tree) (k : ℕ) (n : Node) (m j kid : ℕ) → IsWithin tree k m → slice_get tree.nodes k ≡ Some n →
    slice_get n.kids j ≡ Some kid → IsWithin tree kid (m - 1)
kid_within tree k n m j kid h e g = within h.syntax h.stands h.within
  where
    within : (x : Syn) → StandsAt tree.nodes k x → levels x ≤ m → IsWithin tree kid (m - 1)
    within x (stands {n = o} {xs = xs} d p s f a) l =
        let same : o ≡ n = cc in
        let y = kid_stands tree.nodes n.kids xs j kid (subst (λ (z : Node). StandAt tree.nodes z.kids xs) same a) g in
        record { syntax = y.0; stands = y.1; within = let b : levels y.0 ≤ deepest xs = y.2 in omega arith }
