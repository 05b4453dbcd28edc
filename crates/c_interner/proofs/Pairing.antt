-- Two types by their levels.
use Rattle.std.proofs.Common.{◌≡◌, ℕ, zero, suc, ◌+◌, ◌<◌, ◌≤◌, Bool, true, false, cond, ltb, eqb, List, [], ◌∷◌, ◌++◌}
use Rattle.std.proofs.Common.{length, get_or, take, drop, map, min, max, Some, refl, sym, ap, subst, ◌∙◌, arith}
use Rattle.std.proofs.Common.{add-one}
use Rattle.std.proofs.Common.{eq-eqb}
use Rattle.std.specs.Prelude.{slice_get, ◌&&◌, All}
use Rattle.std.proofs.Math.Dec.{eqb-zero-suc, eqb-suc-zero, eqb-suc-suc}
use Rattle.std.proofs.lemmas.Bool.{ltb-true, ltb-false, eqb-true}
use Rattle.std.proofs.lemmas.List.{take_more}
use Rattle.std.proofs.lemmas.List.Elements.{All-append, All-nil, All-cons}
use Rattle.std.proofs.lemmas.Option.{slice_get_within}
use Rattle.ck_int.specs.declared.kinds.IntKind.{IntKind}
use Rattle.ck_int.specs.declared.kinds.IntKind.TheVariants as kind
use Rattle.c_tree.specs.declared.typed.CType.{CType}
use Rattle.c_tree.specs.Types as types
use Rattle.c_tree.specs.Types.{Ty, Tys, no_types, also, Void, agree, all_agree, composite, composites}
use Rattle.c_tree.specs.Views.{type_from, type_at, types_of, tys}
use Rattle.c_type_levels.specs.declared.heads.Head.{Head}
use Rattle.c_type_levels.specs.declared.heads.Head.TheVariants as heads
use Rattle.c_type_levels.specs.Heads.{built, OfPart}
use Rattle.c_type_levels.specs.Levels.{pairs_of, parts_of, levels_agree}
use Rattle.c_interner.specs.Numbers.{SeesBefore}
use Rattle.c_interner.specs.Known.{type_in}
use Rattle.c_interner.specs.Levels.{part_of, rank, pairs_agree, AreBelow, RankBelow}
use Rattle.c_interner.proofs.Growing.{type_at-level, sees_before}

-- ---- a level over the whole list

pub tys-map : (f : ℕ → ℕ) (go : ℕ → Ty) (ps : List ℕ) → tys (map (λ j. go (f j)) ps) ≡ tys (map go (map f ps))
tys-map f go [] = refl
tys-map f go (p ∷ ps) = ap (λ ts. also (go (f p)) ts) (tys-map f go ps)

tys_alike : (f g : ℕ → Ty) (ps : List ℕ) → ((j : ℕ) → f j ≡ g j) → tys (map f ps) ≡ tys (map g ps)
tys_alike f g [] e = refl
tys_alike f g (p ∷ ps) e = let a = e p in let b = tys_alike f g ps e in cc

built_alike : (h : Head) (ps : List ℕ) (f g : ℕ → Ty) → ((j : ℕ) → f j ≡ g j) → built h ps f ≡ built h ps g
built_alike heads.Void ps f g e = refl
built_alike (heads.Int i n) ps f g e = refl
built_alike (heads.Cap s) ps f g e = refl
built_alike (heads.Pointer t) ps f g e = ap types.Pointer (e t)
built_alike (heads.Array t n) ps f g e = ap (λ x. types.Array x n) (e t)
built_alike (heads.Tagged n) ps f g e = refl
built_alike (heads.Function t) ps f g e = let x = e t in let y = tys_alike f g ps e in cc
built_alike (heads.Const t) ps f g e = ap types.Const (e t)

part_seen : (cs : List CType) (void k : ℕ) (seen : ℕ → Ty) → type_in cs void ≡ Void → SeesBefore cs k seen → (j : ℕ) →
    seen j ≡ type_in cs (part_of void k j)
part_seen cs void k seen v s j = by (ltb j k) refl
  where
    by : (b : Bool) → ltb j k ≡ b → seen j ≡ type_in cs (cond b j void)
    by true e = s.below j (ltb-true j k e)
    by false e = s.past j (ltb-false j k e) ∙ sym v

pub level_is : (cs : List CType) (void k : ℕ) (c : CType) (h l : Head) (ps qs : List ℕ) → slice_get cs k ≡ Some c →
    type_in cs void ≡ Void →
    ((go : ℕ → Ty) → type_from c go ≡ built h ps go) →
    ((go : ℕ → Ty) (rs : List ℕ) → built h rs (λ j. go (part_of void k j)) ≡ built l (map (part_of void k) rs) go) →
    qs ≡ map (part_of void k) ps →
    type_in cs k ≡ built l qs (type_in cs)
level_is cs void k c h l ps qs e v t u q =
    let lt = slice_get_within cs k c e in
    let seen = type_at (types_of (take k cs)) in
    type_at-level cs k c e ∙ t seen
    ∙ built_alike h ps seen (λ j. type_in cs (part_of void k j))
    (part_seen cs void k seen v (sees_before cs k (omega arith))) ∙ u (type_in cs) ps
    ∙ ap (λ rs. built l rs (type_in cs)) (sym q)

-- ---- ranks

rank_most : (void k : ℕ) → rank void k ≤ k + 1
rank_most void k = by (eqb k void)
  where
    by : (b : Bool) → cond b 0 (k + 1) ≤ k + 1
    by true = omega arith
    by false = omega arith

rank_void : (void : ℕ) → rank void void ≡ 0
rank_void void = ap (λ b. cond b 0 (void + 1)) (eq-eqb void void refl)

pub rank_part : (void k j : ℕ) → rank void (part_of void k j) ≤ k
rank_part void k j = by (ltb j k) refl
  where
    by : (b : Bool) → ltb j k ≡ b → rank void (cond b j void) ≤ k
    by true e = let l = ltb-true j k e in let r = rank_most void j in omega arith
    by false e = let r = rank_void void in omega arith

pub ranks_of : (void k : ℕ) (ps : List ℕ) → All (λ t. rank void t ≤ k) (map (part_of void k) ps)
ranks_of void k [] j d l = absurd (omega arith)
ranks_of void k (p ∷ ps) zero d l = rank_part void k p
ranks_of void k (p ∷ ps) (suc j) d l = ranks_of void k ps j d (omega arith)

rank_below : (void k n t : ℕ) → void < n → k ≤ n → rank void t ≤ k → t < n
rank_below void k n t v l h = by (eqb t void) refl h
  where
    by : (b : Bool) → eqb t void ≡ b → cond b 0 (t + 1) ≤ k → t < n
    by true e r = let q = eqb-true t void e in omega arith
    by false e r = omega arith

rank_rises : (types : List CType) (void x r : ℕ) → type_in types void ≡ Void → (type_in types x ≡ Void → ⊥) → r ≤ x →
    r < rank void x
rank_rises types void x r v n l = by (eqb x void) refl
  where
    by : (b : Bool) → eqb x void ≡ b → r < cond b 0 (x + 1)
    by true e = absurd (n (subst (λ (k : ℕ). type_in types k ≡ Void) (sym (eqb-true x void e)) v))
    by false e = omega arith

-- ---- pairs of parts

pairs-next : (ps qs : List ℕ) (k p q : ℕ) → k < length ps → k < length qs → p ≡ get_or ps k p → q ≡ get_or qs k q →
    pairs_of (take (suc k) ps) (take (suc k) qs) ≡ pairs_of (take k ps) (take k qs) ++ (p, q) ∷ []
pairs-next [] qs k p q a b c d = absurd (omega arith)
pairs-next (x ∷ ps) [] k p q a b c d = absurd (omega arith)
pairs-next (x ∷ ps) (y ∷ qs) zero p q a b c d = ap (λ u. (u, y) ∷ []) (sym c) ∙ ap (λ u. (p, u) ∷ []) (sym d)
pairs-next (x ∷ ps) (y ∷ qs) (suc k) p q a b c d =
    ap (λ r. (x, y) ∷ r) (pairs-next ps qs k p q (omega arith) (omega arith) c d)

pub pairs-more : (ps qs : List ℕ) (k p q : ℕ) → k < length ps → k < length qs → p ≡ get_or ps k p → q ≡ get_or qs k q →
    pairs_of (take (k + 1) ps) (take (k + 1) qs) ≡ pairs_of (take k ps) (take k qs) ++ (p, q) ∷ []
pairs-more ps qs k p q a b c d = rw (add-one k) (pairs-next ps qs k p q a b c d)

-- the pairs of two lists stand within the length of the shorter
pub pairs_whole : (ps qs : List ℕ) (k : ℕ) → min (length ps) (length qs) ≤ k →
    pairs_of (take k ps) (take k qs) ≡ pairs_of ps qs
pairs_whole [] qs zero h = refl
pairs_whole [] qs (suc k) h = refl
pairs_whole (p ∷ ps) [] zero h = refl
pairs_whole (p ∷ ps) [] (suc k) h = refl
pairs_whole (p ∷ ps) (q ∷ qs) zero h = absurd (omega arith)
pairs_whole (p ∷ ps) (q ∷ qs) (suc k) h = ap (λ r. (p, q) ∷ r) (pairs_whole ps qs k (omega arith))

-- ---- agreement

same_kind_self : (k : IntKind) → types.same_kind k k ≡ true
same_kind_self kind.Bool = refl
same_kind_self kind.I8 = refl
same_kind_self kind.U8 = refl
same_kind_self kind.I16 = refl
same_kind_self kind.U16 = refl
same_kind_self kind.I32 = refl
same_kind_self kind.U32 = refl
same_kind_self kind.I64 = refl
same_kind_self kind.U64 = refl

and-true : (b : Bool) → (b && true) ≡ b
and-true true = refl
and-true false = refl

and-false : (b : Bool) → (b && false) ≡ false
and-false true = refl
and-false false = refl

and-assoc : (a b c : Bool) → ((a && b) && c) ≡ (a && (b && c))
and-assoc true b c = refl
and-assoc false b c = refl

and_swap : (a b c : Bool) → (a && (b && c)) ≡ (b && (a && c))
and_swap true b c = refl
and_swap false true c = refl
and_swap false false c = refl

all_agree-map : (lengths : ℕ → ℕ → Bool) (go : ℕ → Ty) (ps qs : List ℕ) →
    all_agree lengths (tys (map go ps)) (tys (map go qs))
    ≡ (eqb (length ps) (length qs) && pairs_agree lengths go (pairs_of ps qs))
all_agree-map lengths go [] [] = refl
all_agree-map lengths go [] (q ∷ qs) = rw (eqb-zero-suc (length qs)) refl
all_agree-map lengths go (p ∷ ps) [] = rw (eqb-suc-zero (length ps)) refl
all_agree-map lengths go (p ∷ ps) (q ∷ qs) =
    ap (λ b. agree lengths (go p) (go q) && b) (all_agree-map lengths go ps qs)
    ∙ and_swap (agree lengths (go p) (go q)) (eqb (length ps) (length qs)) (pairs_agree lengths go (pairs_of ps qs))
    ∙ ap (λ b. b && pairs_agree lengths go (pairs_of (p ∷ ps) (q ∷ qs))) (sym (eqb-suc-suc (length ps) (length qs)))

-- two levels agree where they do but for their parts, and all of their parts do
pub agree-built : (lengths : ℕ → ℕ → Bool) (go : ℕ → Ty) (h : Head) (ps : List ℕ) (g : Head) (qs : List ℕ) →
    agree lengths (built h ps go) (built g qs go)
    ≡ (levels_agree lengths h ps g qs && pairs_agree lengths go (parts_of h ps g qs))
agree-built lengths go heads.Void ps heads.Void qs = refl
agree-built lengths go (heads.Int j m) ps (heads.Int k n) qs = sym (and-true (types.same_kind j k && eqb m n))
agree-built lengths go (heads.Cap a) ps (heads.Cap b) qs = sym (and-true (types.same_truth a b))
agree-built lengths go (heads.Pointer s) ps (heads.Pointer t) qs = sym (and-true (agree lengths (go s) (go t)))
agree-built lengths go (heads.Array s m) ps (heads.Array t n) qs = grind arith
agree-built lengths go (heads.Tagged m) ps (heads.Tagged n) qs = sym (and-true (eqb m n))
agree-built lengths go (heads.Function r) ps (heads.Function s) qs =
    ap (λ b. agree lengths (go r) (go s) && b) (all_agree-map lengths go ps qs)
    ∙ and_swap (agree lengths (go r) (go s)) (eqb (length ps) (length qs)) (pairs_agree lengths go (pairs_of ps qs))
agree-built lengths go (heads.Const s) ps (heads.Const t) qs = sym (and-true (agree lengths (go s) (go t)))
agree-built lengths go h ps g qs = refl

-- a type agrees with itself
mutual
  pub agree_self : (lengths : ℕ → ℕ → Bool) → ((n : ℕ) → lengths n n ≡ true) → (t : Ty) → agree lengths t t ≡ true
  agree_self lengths l Void = refl
  agree_self lengths l (types.Int k n) = ap (λ b. b && eqb n n) (same_kind_self k) ∙ eq-eqb n n refl
  agree_self lengths l (types.Cap true) = refl
  agree_self lengths l (types.Cap false) = refl
  agree_self lengths l (types.Pointer t) = agree_self lengths l t
  agree_self lengths l (types.Array t n) = ap (λ b. b && lengths n n) (agree_self lengths l t) ∙ l n
  agree_self lengths l (types.Tagged n) = eq-eqb n n refl
  agree_self lengths l (types.Function r ps) =
      ap (λ b. b && all_agree lengths ps ps) (agree_self lengths l r) ∙ all_agree_self lengths l ps
  agree_self lengths l (types.Const t) = agree_self lengths l t

  all_agree_self : (lengths : ℕ → ℕ → Bool) → ((n : ℕ) → lengths n n ≡ true) → (ts : Tys) →
      all_agree lengths ts ts ≡ true
  all_agree_self lengths l no_types = refl
  all_agree_self lengths l (also t ts) =
      ap (λ b. b && all_agree lengths ts ts) (agree_self lengths l t) ∙ all_agree_self lengths l ts

pairs_agree-append : (lengths : ℕ → ℕ → Bool) (go : ℕ → Ty) (xs ys : List (ℕ × ℕ)) →
    pairs_agree lengths go (xs ++ ys) ≡ (pairs_agree lengths go xs && pairs_agree lengths go ys)
pairs_agree-append lengths go [] ys = refl
pairs_agree-append lengths go (x ∷ xs) ys =
    ap (λ b. agree lengths (go x.0) (go x.1) && b) (pairs_agree-append lengths go xs ys)
    ∙ sym (and-assoc (agree lengths (go x.0) (go x.1)) (pairs_agree lengths go xs) (pairs_agree lengths go ys))

-- where one pair does not agree, not all of them do
pub pairs_agree_false : (lengths : ℕ → ℕ → Bool) (go : ℕ → Ty) (qs : List (ℕ × ℕ)) (k : ℕ) (d : ℕ × ℕ) → k < length qs →
    agree lengths (go (get_or qs k d).0) (go (get_or qs k d).1) ≡ false → pairs_agree lengths go qs ≡ false
pairs_agree_false lengths go [] k d l e = absurd (omega arith)
pairs_agree_false lengths go (x ∷ qs) zero d l e = ap (λ b. b && pairs_agree lengths go qs) e
pairs_agree_false lengths go (x ∷ qs) (suc k) d l e =
    ap (λ b. agree lengths (go x.0) (go x.1) && b) (pairs_agree_false lengths go qs k d (omega arith) e)
    ∙ and-false (agree lengths (go x.0) (go x.1))

pub pairs_agree_next : (lengths : ℕ → ℕ → Bool) (go : ℕ → Ty) (qs : List (ℕ × ℕ)) (k : ℕ) (d : ℕ × ℕ) → k < length qs →
    pairs_agree lengths go (take k qs) ≡ true → agree lengths (go (get_or qs k d).0) (go (get_or qs k d).1) ≡ true →
    pairs_agree lengths go (take (k + 1) qs) ≡ true
pairs_agree_next lengths go qs k d l h e =
    let a = agree lengths (go (get_or qs k d).0) (go (get_or qs k d).1) in
    ap (pairs_agree lengths go) (take_more qs k d l) ∙ pairs_agree-append lengths go (take k qs) (get_or qs k d ∷ [])
    ∙ ap (λ b. b && (a && true)) h ∙ and-true a ∙ e

-- ---- composites

mutual
  pub composite_self : (t : Ty) → composite t t ≡ t
  composite_self Void = refl
  composite_self (types.Int k n) = refl
  composite_self (types.Cap b) = refl
  composite_self (types.Pointer t) = ap types.Pointer (composite_self t)
  composite_self (types.Array t n) = let m : max n n ≡ n = omega arith in let c = composite_self t in cc
  composite_self (types.Tagged n) = refl
  composite_self (types.Function r ps) = let c = composite_self r in let d = composites_self ps in cc
  composite_self (types.Const t) = ap types.Const (composite_self t)

  composites_self : (ts : Tys) → composites ts ts ≡ ts
  composites_self no_types = refl
  composites_self (also t ts) = let c = composite_self t in let d = composites_self ts in cc

-- ---- numbers of parts

pairs_are : (P Q : ℕ → Type 0) (ps qs : List ℕ) → All P ps → All Q qs →
    All (λ (q : ℕ × ℕ). P q.0 × Q q.1) (pairs_of ps qs)
pairs_are P Q [] qs a b k d l = absurd (omega arith)
pairs_are P Q (p ∷ ps) [] a b k d l = absurd (omega arith)
pairs_are P Q (p ∷ ps) (q ∷ qs) a b zero d l = (a 0 p (omega arith), b 0 q (omega arith))
pairs_are P Q (p ∷ ps) (q ∷ qs) a b (suc k) d l =
    pairs_are P Q ps qs (λ j e m. a (suc j) e (omega arith)) (λ j e m. b (suc j) e (omega arith)) k d (omega arith)

pair_is : (P Q : ℕ → Type 0) (s t : ℕ) (qs : List (ℕ × ℕ)) → P s → Q t → All (λ (q : ℕ × ℕ). P q.0 × Q q.1) qs →
    All (λ (q : ℕ × ℕ). P q.0 × Q q.1) ((s, t) ∷ qs)
pair_is P Q s t qs a b h = All-cons (λ (q : ℕ × ℕ). P q.0 × Q q.1) (s, t) qs (a, b) h

-- what holds of the parts of two types holds of their pairs
parts_are : (P Q : ℕ → Type 0) (h : Head) (ps : List ℕ) (g : Head) (qs : List ℕ) → OfPart P h → All P ps →
    OfPart Q g → All Q qs → All (λ (q : ℕ × ℕ). P q.0 × Q q.1) (parts_of h ps g qs)
parts_are P Q (heads.Pointer s) ps (heads.Pointer t) qs a b c d =
    pair_is P Q s t [] a c (All-nil (λ (q : ℕ × ℕ). P q.0 × Q q.1))
parts_are P Q (heads.Array s i) ps (heads.Array t j) qs a b c d =
    pair_is P Q s t [] a c (All-nil (λ (q : ℕ × ℕ). P q.0 × Q q.1))
parts_are P Q (heads.Function r) ps (heads.Function s) qs a b c d =
    pair_is P Q r s (pairs_of ps qs) a c (pairs_are P Q ps qs b d)
parts_are P Q (heads.Const s) ps (heads.Const t) qs a b c d =
    pair_is P Q s t [] a c (All-nil (λ (q : ℕ × ℕ). P q.0 × Q q.1))
parts_are P Q h ps g qs a b c d = All-nil (λ (q : ℕ × ℕ). P q.0 × Q q.1)

-- the parts of two types of a list are types of the list
pub parts_are_below : (n void x y : ℕ) (h : Head) (ps : List ℕ) (g : Head) (qs : List ℕ) → void < n → x < n → y < n →
    OfPart (λ t. rank void t ≤ x) h → All (λ t. rank void t ≤ x) ps →
    OfPart (λ t. rank void t ≤ y) g → All (λ t. rank void t ≤ y) qs → AreBelow n (parts_of h ps g qs)
parts_are_below n void x y h ps g qs v l m a b c d k e w =
    let i = parts_are (λ t. rank void t ≤ x) (λ t. rank void t ≤ y) h ps g qs a b c d k e w in
    (rank_below void x n _ v (omega arith) i.0, rank_below void y n _ v (omega arith) i.1)

fall : (types : List CType) (void x : ℕ) (rs : List (ℕ × ℕ)) → type_in types void ≡ Void →
    (type_in types x ≡ Void → ⊥) → RankBelow void (x + 1) rs → RankBelow void (rank void x) rs
fall types void x rs v n h k d l =
    let i = h k d l in rank_rises types void x (rank void (get_or rs k d).0) v n (omega arith)

falls : (types : List CType) (void x : ℕ) (h : Head) (ps : List ℕ) (g : Head) (qs : List ℕ) →
    type_in types void ≡ Void → type_in types x ≡ built h ps (type_in types) →
    RankBelow void (x + 1) (parts_of h ps g qs) → RankBelow void (rank void x) (parts_of h ps g qs)
falls types void x (heads.Pointer s) ps (heads.Pointer t) qs v e b = fall types void x ((s, t) ∷ []) v (λ u. cc) b
falls types void x (heads.Array s i) ps (heads.Array t j) qs v e b = fall types void x ((s, t) ∷ []) v (λ u. cc) b
falls types void x (heads.Function r) ps (heads.Function s) qs v e b =
    fall types void x ((r, s) ∷ pairs_of ps qs) v (λ u. cc) b
falls types void x (heads.Const s) ps (heads.Const t) qs v e b = fall types void x ((s, t) ∷ []) v (λ u. cc) b
falls types void x h ps g qs v e b = All-nil (λ (q : ℕ × ℕ). rank void q.0 < rank void x)

-- the parts of two types nest less deep than the first
pub parts_fall : (types : List CType) (void x y : ℕ) (h : Head) (ps : List ℕ) (g : Head) (qs : List ℕ) →
    type_in types void ≡ Void → type_in types x ≡ built h ps (type_in types) →
    OfPart (λ t. rank void t ≤ x) h → All (λ t. rank void t ≤ x) ps →
    OfPart (λ t. rank void t ≤ y) g → All (λ t. rank void t ≤ y) qs → RankBelow void (rank void x) (parts_of h ps g qs)
parts_fall types void x y h ps g qs v e a b c d =
    falls types void x h ps g qs v e (λ k f w.
    let i = parts_are (λ t. rank void t ≤ x) (λ t. rank void t ≤ y) h ps g qs a b c d k f w in
    let j = i.0 in omega arith)

pub below_end : (n : ℕ) (qs : List (ℕ × ℕ)) (q : ℕ × ℕ) → q.0 < n → q.1 < n → AreBelow n qs → AreBelow n (qs ++ q ∷ [])
below_end n qs q a b h = All-append (λ (x : ℕ × ℕ). (x.0 < n) × (x.1 < n)) qs (q ∷ []) h
    (All-cons (λ (x : ℕ × ℕ). (x.0 < n) × (x.1 < n)) q [] (a, b) (All-nil (λ (x : ℕ × ℕ). (x.0 < n) × (x.1 < n))))
