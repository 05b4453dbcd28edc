-- Words among specifiers, counted in the list of nodes.
use Rattle.std.proofs.Common.{◌≡◌, ℕ, suc, ◌+◌, ◌<◌, Bool, true, false, List, ◌∷◌, length, drop, get_or, drop-cons}
use Rattle.std.proofs.Common.{refl, sym, ap, ◌∙◌, arith}
use Rattle.std.specs.Prelude.{if◌then◌else◌, slice_get, nat_lt}
use Rattle.c_tree.specs.declared.syntax.Node.{Node}
use Rattle.c_tree.specs.declared.syntax.NodeKind.{NodeKind}
use Rattle.c_tree.specs.declared.syntax.NodeKind.TheVariants as Kinds
use Rattle.c_tree.specs.declared.syntax.SpecifierWord.{SpecifierWord}
use Rattle.c_tree.specs.declared.syntax.SpecifierWord.TheVariants as words
use Rattle.c_tree.specs.Syntax.{Syn, Syns, node, nil, more, StandsAt, stands, StandAt, none, next}
use Rattle.c_tree.specs.Declarators.{times_there, has_register, parts_const}
use Rattle.ck_base.specs.Tokens.{Lexeme}
use Rattle.c_declarators.specs.Words.{is_of, is_of_kind, times_at, first_has, FirstHas}

-- ---- one node more

pub found : (w : SpecifierWord) (nodes : List Node) (ks : List ℕ) (i k : ℕ) → i < length ks → k ≡ get_or ks i k →
    is_of w (slice_get nodes k) ≡ true → times_at w nodes (drop i ks) ≡ times_at w nodes (drop (i + 1) ks) + 1
found w nodes ks i k lt e t =
    let d : drop i ks ≡ k ∷ drop (suc i) ks = drop-cons ks i k lt ∙ ap (λ m. m ∷ drop (suc i) ks) (sym e) in
    let s : i + 1 ≡ suc i = omega arith in
    rw (d, s, t) refl

pub passed : (w : SpecifierWord) (nodes : List Node) (ks : List ℕ) (i k : ℕ) → i < length ks → k ≡ get_or ks i k →
    is_of w (slice_get nodes k) ≡ false → times_at w nodes (drop i ks) ≡ times_at w nodes (drop (i + 1) ks)
passed w nodes ks i k lt e t =
    let d : drop i ks ≡ k ∷ drop (suc i) ks = drop-cons ks i k lt ∙ ap (λ m. m ∷ drop (suc i) ks) (sym e) in
    let s : i + 1 ≡ suc i = omega arith in
    rw (d, s, t) refl

-- ---- the syntax that stands there

times-one : (w : SpecifierWord) (k : NodeKind) (t : Lexeme) (ys xs : Syns) →
    times_there w (more (node k t ys) xs) ≡ (if is_of_kind w k then times_there w xs + 1 else times_there w xs)
times-one w (Kinds.Specifier v) t ys xs = refl
times-one w _ t ys xs = refl

times-more : (w : SpecifierWord) (nodes : List Node) (i : ℕ) (x : Syn) (xs : Syns) (m : ℕ) → StandsAt nodes i x →
    times_there w xs ≡ m → times_there w (more x xs) ≡ (if is_of w (slice_get nodes i) then m + 1 else m)
times-more w nodes i x xs m (stands {n = n} {t = t} {xs = ys} g p s f kids) e = rw (g, ← e) (times-one w n.kind t ys xs)

pub times_stand : (w : SpecifierWord) (nodes : List Node) (ks : List ℕ) (xs : Syns) → StandAt nodes ks xs →
    times_there w xs ≡ times_at w nodes ks
times_stand w nodes ks xs none = refl
times_stand w nodes ks xs (next {i = i} {is = is} {x = x} {xs = ys} a b) =
    times-more w nodes i x ys (times_at w nodes is) a (times_stand w nodes is ys b)

-- ---- the first part

part-first : (w : SpecifierWord) (nodes : List Node) (i : ℕ) (x : Syn) (is : List ℕ) (xs : Syns) (r : Bool) →
    StandsAt nodes i x → FirstHas w nodes (i ∷ is) r → r ≡ first_has w (more x xs)
part-first w nodes i x is xs r (stands {n = n} {t = t} {xs = ys} g p s f kids) h =
    h.some i is n refl g ∙ ap (nat_lt 0) (sym (times_stand w nodes n.kids ys kids))

pub first_stand : (w : SpecifierWord) (nodes : List Node) (ks : List ℕ) (xs : Syns) (r : Bool) → StandAt nodes ks xs →
    FirstHas w nodes ks r → r ≡ first_has w xs
first_stand w nodes ks xs r none h = h.none refl
first_stand w nodes ks xs r (next {i = i} {is = is} {x = x} {xs = ys} a b) h = part-first w nodes i x is ys r a h

pub register_first : (xs : Syns) → first_has words.Register xs ≡ has_register xs
register_first nil = refl
register_first (more (node k t ys) xs) = refl

pub const_first : (xs : Syns) → first_has words.Const xs ≡ parts_const xs
const_first nil = refl
const_first (more (node k t ys) xs) = refl
