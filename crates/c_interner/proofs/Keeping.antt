-- What is kept of pairs of types, as types are added and answers found.
use Rattle.std.proofs.Common.{◌≡◌, ℕ, ◌+◌, ◌<◌, ◌≤◌, Bool, true, false, cond, eqb, List, [], ◌∷◌, ◌++◌, length, get_or}
use Rattle.std.proofs.Common.{take, map, zero, suc, ◌-◌, ◌^◌, Option, Some, None, refl, sym, ap, subst, ◌∙◌, arith}
use Rattle.std.proofs.Common.{append_assoc}
use Rattle.std.proofs.Common.{length-append, eq-eqb}
use Rattle.std.proofs.Math.Seq.{get_or-append_seam}
use Rattle.std.proofs.Math.ListN.{get_or-append}
use Rattle.std.specs.Prelude.{◌&&◌, ◌||◌, if◌then◌else◌, is_some, IfSome, IfNone, Result, Ok, Err, IfOk, All}
use Rattle.std.specs.Map.{lookup}
use Rattle.std.proofs.lemmas.Bool.{eqb-true}
use Rattle.std.proofs.lemmas.List.{append-nil, map-append, take_more, same_from_push}
use Rattle.std.proofs.lemmas.List.Elements.{All-nil, All-append}
use Rattle.c_tree.specs.declared.typed.CType.{CType}
use Rattle.c_tree.specs.declared.typed.Typed.{Typed}
use Rattle.c_tree.specs.Types.{Ty, agree, composite}
use Rattle.c_tree.specs.Views.{type_from}
use Rattle.c_type_levels.specs.declared.agreement.Lengths.{Lengths}
use Rattle.c_type_levels.specs.declared.agreement.Lengths.TheVariants.{Equal, Compatible}
use Rattle.c_interner.specs.declared.composites.Composites.{Composites}
use Rattle.c_type_levels.specs.declared.heads.Head.{Head}
use Rattle.c_type_levels.specs.Heads.{built}
use Rattle.c_type_levels.specs.Agreement.{lengths_of}
use Rattle.c_type_levels.specs.Levels.{parts_of, levels_agree, pair_composite}
use Rattle.c_interner.specs.Levels.{same_pair, rank, pairs_agree, AreBelow}
use Rattle.c_interner.specs.Known.{type_in, has_answer, answers_left, LastIsOpen, IsComposite, AreComposites}
use Rattle.c_interner.specs.Known.{NamesComposites}
use Rattle.c_interner.specs.Numbers.{IsPlain, AddsTypes, IsNumberOf}
use Rattle.c_interner.proofs.Growing.{type_at-longer}
use Rattle.c_interner.proofs.Pairing.{agree-built, composite_self, below_end}

-- ---- answers by pairs

pub same_pair_is : (p q : ℕ × ℕ) → same_pair p q ≡ true → p ≡ q
same_pair_is p q e = by (eqb p.0 q.0) (eqb p.1 q.1) refl refl e
  where
    by : (a b : Bool) → eqb p.0 q.0 ≡ a → eqb p.1 q.1 ≡ b → (a && b) ≡ true → p ≡ q
    by true true i j h = ap (λ k. (k, p.1)) (eqb-true p.0 q.0 i) ∙ ap (λ k. (q.0, k)) (eqb-true p.1 q.1 j)
    by true false i j h = absurd cc
    by false b i j h = absurd cc

pub if_some : {V : Type 0} (o : Option V) (P : V → Type 0) → ((r : V) → o ≡ Some r → P r) → IfSome o P
if_some None P h = tt
if_some (Some r) P h = h r refl

pub if_ok_some : {V E : Type 0} (r : Result (Option V) E) (P Q : V → Type 0) → ((v : V) → P v → Q v) →
    IfOk r (λ o. IfSome o P) → IfOk r (λ o. IfSome o Q)
if_ok_some (Ok None) P Q h i = tt
if_ok_some (Ok (Some v)) P Q h i = h v i
if_ok_some (Err e) P Q h i = tt

pub none_kept : {V : Type 0} (P : ℕ × ℕ → V → Type 0) (es : List ((ℕ × ℕ) × V)) → es ≡ [] → (q : ℕ × ℕ) (r : V) →
    lookup (same_pair q) es ≡ Some r → P q r
none_kept P [] e q r h = absurd cc
none_kept P (x ∷ es) e q r h = absurd cc

-- what holds of each kept answer holds with one more
pub kept_more : {V : Type 0} (P : ℕ × ℕ → V → Type 0) (es new : List ((ℕ × ℕ) × V)) (key : ℕ × ℕ) (v : V) →
    ((q : ℕ × ℕ) → lookup (same_pair q) new ≡ cond (same_pair key q) (Some v) (lookup (same_pair q) es)) → P key v →
    ((q : ℕ × ℕ) (r : V) → lookup (same_pair q) es ≡ Some r → P q r) →
    (q : ℕ × ℕ) (r : V) → lookup (same_pair q) new ≡ Some r → P q r
kept_more {V = V} P es new key v u p h q r e = by (same_pair key q) refl (sym (u q) ∙ e)
  where
    by : (b : Bool) → same_pair key q ≡ b → cond b (Some v) (lookup (same_pair q) es) ≡ Some r → P q r
    by true i j = let x = same_pair_is key q i in let y : v ≡ r = cc in subst (λ s. P q s) y (subst (λ s. P s v) x p)
    by false i j = h q r j

-- ---- pairs with no answer

pub answer_plain : {V : Type 0} (es : List ((ℕ × ℕ) × V)) (q : ℕ × ℕ) → q.0 ≡ q.1 → has_answer es q ≡ true
answer_plain es q e = ap (λ b. b || is_some (lookup (same_pair q) es)) (eq-eqb q.0 q.1 e)

pub answer_kept : {V : Type 0} (es : List ((ℕ × ℕ) × V)) (q : ℕ × ℕ) (o : Option V) → (q.0 ≡ q.1 → ⊥) →
    o ≡ lookup (same_pair q) es → is_some o ≡ has_answer es q
answer_kept es q o n e = by (eqb q.0 q.1) refl
  where
    by : (b : Bool) → eqb q.0 q.1 ≡ b → is_some o ≡ (b || is_some (lookup (same_pair q) es))
    by true i = absurd (n (eqb-true q.0 q.1 i))
    by false i = ap is_some e

none_kept_of : (a b : Bool) → (a || b) ≡ false → b ≡ false
none_kept_of true b e = absurd cc
none_kept_of false b e = e

less_left : (m a b : ℕ) → b ≡ a + 1 → a < m → m - b < m - a
less_left m a b e l = omega arith

-- one more answer
pub fewer_left : {V : Type 0} (es new : List ((ℕ × ℕ) × V)) (q : ℕ × ℕ) (old : Option V) → has_answer es q ≡ false →
    old ≡ lookup (same_pair q) es → length new ≡ length es + (if is_some old then 0 else 1) → length es < 2 ^ 63 →
    answers_left new < answers_left es
fewer_left es new q old h e l small =
    let n : is_some old ≡ false = ap is_some e ∙ none_kept_of (eqb q.0 q.1) (is_some (lookup (same_pair q) es)) h in
    less_left (2 ^ 63) (length es) (length new) (l ∙ ap (λ b. length es + cond b 0 1) n) small

pub last_there : {V : Type 0} (es : List ((ℕ × ℕ) × V)) (void n : ℕ) (ws : List (ℕ × ℕ)) → LastIsOpen es void n ws →
    0 < length ws
last_there es void n ws h = rw h.are (omega (arith, length-append h.others (h.last ∷ [])))

pub last_taken : {V : Type 0} (es : List ((ℕ × ℕ) × V)) (void n : ℕ) (ws rest : List (ℕ × ℕ)) (q : ℕ × ℕ) →
    LastIsOpen es void n ws → ws ≡ rest ++ q ∷ [] → (has_answer es q ≡ false) × (rank void q.0 < n)
last_taken es void n ws rest q h e =
    let s = same_from_push h.others rest h.last q (sym h.are ∙ e) in (
      subst (λ (p : ℕ × ℕ). has_answer es p ≡ false) s.1 h.unknown,
      subst (λ (p : ℕ × ℕ). rank void p.0 < n) s.1 h.below,
    )

pub if_ok_none : {V E : Type 0} (r : Result (Option V) E) (P Q : Type 0) → (P → Q) → IfOk r (λ o. IfNone o P) →
    IfOk r (λ o. IfNone o Q)
if_ok_none (Ok None) P Q h i = h i
if_ok_none (Ok (Some v)) P Q h i = tt
if_ok_none (Err e) P Q h i = tt

pub if_none : {V : Type 0} (o : Option V) (P : Type 0) → ((v : V) → o ≡ Some v → ⊥) → IfNone o P → P
if_none None P n h = h
if_none (Some v) P n h = absurd (n v refl)

-- ---- agreement

pub lengths_self : (how : Lengths) (n : ℕ) → lengths_of how n n ≡ true
lengths_self Equal n = eq-eqb n n refl
lengths_self Compatible n = ap (λ b. (b || eqb n 0) || eqb n 0) (eq-eqb n n refl)

pub judged : (lengths : ℕ → ℕ → Bool) (go : ℕ → Ty) (x y : ℕ) (h : Head) (ps : List ℕ) (g : Head) (qs : List ℕ)
    (l r : Bool) → go x ≡ built h ps go → go y ≡ built g qs go → levels_agree lengths h ps g qs ≡ l →
    (l && pairs_agree lengths go (parts_of h ps g qs)) ≡ r → agree lengths (go x) (go y) ≡ r
judged lengths go x y h ps g qs l r a b c d =
    ap (λ t. agree lengths t (go y)) a ∙ ap (λ t. agree lengths (built h ps go) t) b ∙ agree-built lengths go h ps g qs
    ∙ ap (λ m. m && pairs_agree lengths go (parts_of h ps g qs)) c ∙ d

-- ---- more types

pub adds_none : (p : Typed) → AddsTypes p p
adds_none p = record { added = []; types = sym (append-nil p.types); plain = All-nil IsPlain; rest = refl }

pub adds_then : (p q r : Typed) → AddsTypes p q → AddsTypes q r → AddsTypes p r
adds_then p q r a b = record {
  added = a.added ++ b.added;
  types = b.types ∙ ap (λ ts. ts ++ b.added) a.types ∙ append_assoc p.types a.added b.added;
  plain = All-append IsPlain a.added b.added a.plain b.plain;
  rest = b.rest ∙ ap (λ (s : Typed). record s { types = r.types }) a.rest;
}

pub adds_more : (p q : Typed) → AddsTypes p q → length p.types ≤ length q.types
adds_more p q a = rw (a.types) (omega (arith, length-append p.types a.added))

pub adds_keep : (p q : Typed) (k : ℕ) → AddsTypes p q → k < length p.types → type_in q.types k ≡ type_in p.types k
adds_keep p q k a lt = rw (a.types) (type_at-longer p.types a.added k lt)

composite_more : (p q : Typed) (x : ℕ × ℕ) (k : ℕ) → AddsTypes p q → IsComposite p.types x k → IsComposite q.types x k
composite_more p q x k a h =
    let m = adds_more p q a in
    record {
      first = let l = h.first in omega arith;
      second = let l = h.second in omega arith;
      there = let l = h.there in omega arith;
      is =
          adds_keep p q k a h.there ∙ h.is
          ∙ ap (λ t. composite t (type_in p.types x.1)) (sym (adds_keep p q x.0 a h.first))
          ∙ ap (λ t. composite (type_in q.types x.0) t) (sym (adds_keep p q x.1 a h.second));
    }

pub composites_more : (p q : Typed) (c : Composites) → AddsTypes p q → AreComposites p.types c → AreComposites q.types c
composites_more p q c a h =
    let m = adds_more p q a in
    record {
      there = let l = h.there in omega arith;
      void = adds_keep p q c.void a h.there ∙ h.void;
      known = λ x k e. composite_more p q x k a (h.known x k e);
    }

pub below_more : (m n : ℕ) (qs : List (ℕ × ℕ)) → m ≤ n → AreBelow m qs → AreBelow n qs
below_more m n qs l h k d lt = let i = h k d lt in (omega arith, omega arith)

pub below_last : (n : ℕ) (qs ws : List (ℕ × ℕ)) (q : ℕ × ℕ) → ws ≡ qs ++ q ∷ [] → AreBelow n ws →
    (q.0 < n) × (q.1 < n) × AreBelow n qs
below_last n qs ws q e h =
    let all : AreBelow n (qs ++ q ∷ []) = subst (λ (v : List (ℕ × ℕ)). AreBelow n v) e h in
    let long = length-append qs (q ∷ []) in
    let last = subst (λ (v : ℕ × ℕ). (v.0 < n) × (v.1 < n)) (get_or-append_seam qs q [] q)
    (all (length qs) q (omega arith)) in (
      last.0,
      last.1,
      λ k d lt. subst (λ (v : ℕ × ℕ). (v.0 < n) × (v.1 < n)) (get_or-append qs (q ∷ []) d k lt)
          (all k d (omega arith)),
    )

-- ---- composites

one_below : (n v : ℕ) → v < n → All (λ k. k < n) (v ∷ [])
one_below n v l zero d h = l
one_below n v l (suc k) d h = absurd (omega arith)

pub names_more : (types : List CType) (qs : List (ℕ × ℕ)) (k : ℕ) (d : ℕ × ℕ) (ks : List ℕ) (v : ℕ) → k < length qs →
    NamesComposites types (take k qs) ks → IsComposite types (get_or qs k d) v →
    NamesComposites types (take (k + 1) qs) (ks ++ v ∷ [])
names_more types qs k d ks v l h i =
    let f = pair_composite (type_in types) in
    record {
      there = All-append (λ (j : ℕ). j < length types) ks (v ∷ []) h.there (one_below (length types) v i.there);
      are =
          map-append (type_in types) ks (v ∷ []) ∙ ap (λ ts. ts ++ type_in types v ∷ []) h.are
          ∙ ap (λ t. map f (take k qs) ++ t ∷ []) i.is
          ∙ sym (map-append f (take k qs) (get_or qs k d ∷ [])) ∙ ap (map f) (sym (take_more qs k d l));
    }

pub self_composite : (types : List CType) (x : ℕ × ℕ) → x.0 ≡ x.1 → x.0 < length types → IsComposite types x x.0
self_composite types x e l = record {
  first = l;
  second = omega arith;
  there = l;
  is = sym (ap (λ k. composite (type_in types x.0) (type_in types k)) (sym e) ∙ composite_self (type_in types x.0));
}

pub first_composite : (types : List CType) (x : ℕ × ℕ) (h : Head) (ps : List ℕ) (g : Head) (qs : List ℕ) →
    x.0 < length types → x.1 < length types → type_in types x.0 ≡ built h ps (type_in types) →
    type_in types x.1 ≡ built g qs (type_in types) →
    composite (built h ps (type_in types)) (built g qs (type_in types)) ≡ built h ps (type_in types) →
    IsComposite types x x.0
first_composite types x h ps g qs l m a b c = record {
  first = l;
  second = m;
  there = l;
  is = a ∙ sym c ∙ ap (λ t. composite t (built g qs (type_in types))) (sym a)
      ∙ ap (λ t. composite (type_in types x.0) t) (sym b);
}

pub new_composite : (p q : Typed) (x : ℕ × ℕ) (k : ℕ) (t : CType) (h : Head) (ps : List ℕ) (g : Head) (rs : List ℕ) →
    AddsTypes p q → IsNumberOf p q k t → x.0 < length p.types → x.1 < length p.types →
    type_in p.types x.0 ≡ built h ps (type_in p.types) → type_in p.types x.1 ≡ built g rs (type_in p.types) →
    type_from t (type_in p.types) ≡ composite (built h ps (type_in p.types)) (built g rs (type_in p.types)) →
    IsComposite q.types x k
new_composite p q x k t h ps g rs a n l m b c e =
    let more = adds_more p q a in
    record {
      first = omega arith;
      second = omega arith;
      there = n.there;
      is =
          n.is ∙ e ∙ ap (λ u. composite u (built g rs (type_in p.types))) (sym b ∙ sym (adds_keep p q x.0 a l))
          ∙ ap (λ u. composite (type_in q.types x.0) u) (sym c ∙ sym (adds_keep p q x.1 a m));
    }

pub composite_named : (p q : Typed) (x : ℕ × ℕ) (k : ℕ) → AddsTypes p q → x.0 < length p.types → x.1 < length p.types →
    IsComposite q.types x k → type_in q.types k ≡ composite (type_in p.types x.0) (type_in p.types x.1)
composite_named p q x k a l m h =
    h.is ∙ ap (λ t. composite t (type_in q.types x.1)) (adds_keep p q x.0 a l)
    ∙ ap (λ t. composite (type_in p.types x.0) t) (adds_keep p q x.1 a m)

pub below_next : (n : ℕ) (qs : List (ℕ × ℕ)) (k : ℕ) (d : ℕ × ℕ) (ws : List (ℕ × ℕ)) → k < length qs → AreBelow n qs →
    AreBelow n ws → AreBelow n (ws ++ get_or qs k d ∷ [])
below_next n qs k d ws l h i = below_end n ws (get_or qs k d) (h k d l).0 (h k d l).1 i

pub if_ok : {V E : Type 0} (r : Result V E) (P Q : V → Type 0) → ((v : V) → P v → Q v) → IfOk r P → IfOk r Q
if_ok (Ok v) P Q h p = h v p
if_ok (Err e) P Q h p = tt
