-- The parts of objects.
use Rattle.std.proofs.Common.{◌≡◌, ℕ, zero, suc, ◌+◌, ◌-◌, ◌*◌, ◌^◌, ◌<◌, ◌≤◌, ◌≢◌, Bool, true, false, List, [], ◌++◌}
use Rattle.std.proofs.Common.{length, map, Option, Some, None, refl, sym, ap, subst, ◌∙◌, arith}
use Rattle.std.specs.Prelude.{slice_get, option_map, nat_lt, ◌==◌, ◌||◌, if◌then◌else◌}
use Rattle.std.specs.List.{All}
use Rattle.std.specs.Global.{Vec}
use Rattle.std.proofs.lemmas.Nat.{mul-le}
use Rattle.std.proofs.lemmas.Option.{slice_get_within, get_or_from_slice_get}
use Rattle.c_tree.specs.declared.syntax.RecordKind.TheVariants.{Struct}
use Rattle.c_tree.specs.Types.{Ty, Tys, Void, Int, Cap, Pointer, Array, Tagged, Function, Const}
use Rattle.c_tree.specs.Layout.{member_offset}
use Rattle.c_tree.specs.Scopes.{State, size}
use Rattle.c_tree.specs.Initializers.{item_place, tag_places, scalars_of, all_scalars, tag_scalars, scalars}
use Rattle.c_tree.specs.Initializers.{with_count}
use Rattle.c_tree.specs.Statics as statics
use Rattle.c_tree.specs.Statics.{offset_in, record_offset, tag_offset}
use Rattle.c_types.specs.Stands.{starts_in}
use Rattle.c_node_facts.specs.declared.classes.Class.{Class}
use Rattle.c_node_facts.specs.declared.classes.Class.TheVariants as classes
use Rattle.c_expressions.specs.Classes.{class_type}
use Rattle.c_elaborator.specs.declared.work.Work.{Work}
use Rattle.c_plain_rules.specs.Place.{Place}
use Rattle.c_plain_rules.specs.Record.{Record}
use Rattle.c_initializers.specs.Places.{stripped, AreNear}
use Rattle.c_plain_rules.specs.Members.{place_in, members_of, IsRecordOf, IsClose}
use Rattle.c_plain_rules.proofs.MemberLaws.{slice_get-map}
pub use Rattle.c_plain_rules.proofs.MemberLaws.{drop-next}
use Rattle.c_initializers.specs.declared.places.Places.TheVariants.{Elements, Members, Alone}

-- ---- types without the words `const` before them

-- how many there are
abbrev pub words : Ty → ℕ
words (Const t) = words t + 1
words t = 0

pub stripped_base : (t u : Ty) → stripped t ≡ Const u → ⊥
stripped_base (Const t) u e = stripped_base t u e
stripped_base Void u e = cc
stripped_base (Int k n) u e = cc
stripped_base (Cap s) u e = cc
stripped_base (Pointer t) u e = cc
stripped_base (Array t n) u e = cc
stripped_base (Tagged n) u e = cc
stripped_base (Function r ps) u e = cc

pub item_place-stripped : (s : State) (t : Ty) (k : ℕ) → item_place s (stripped t) k ≡ item_place s t k
item_place-stripped s (Const t) k = item_place-stripped s t k
item_place-stripped s Void k = refl
item_place-stripped s (Int j n) k = refl
item_place-stripped s (Cap c) k = refl
item_place-stripped s (Pointer t) k = refl
item_place-stripped s (Array t n) k = refl
item_place-stripped s (Tagged n) k = refl
item_place-stripped s (Function r ps) k = refl

-- ---- scalars

pub no-depth : (s : State) (n at : ℕ) → tag_scalars 0 s n at ≡ []
unfolding tag_scalars
no-depth s n at = refl

pub one-depth : (d e : ℕ) (s : State) (n at : ℕ) → 0 < d → e ≡ d - 1 →
    tag_scalars d s n at ≡ all_scalars s (tag_scalars e s) (members_of s n) at
unfolding tag_scalars
one-depth zero e s n at l h = absurd (omega arith)
one-depth (suc d) e s n at l h = let z : e ≡ d = omega arith in rw z refl

-- ---- the parts of types

pub array-place : (s : State) (t : Ty) (n k size' : ℕ) → size s t ≡ size' →
    item_place s (Array t n) k ≡ (if nat_lt k n || n == 0 then Some (k * size', t) else None)
array-place s t n k size' e = ap (λ m. (if nat_lt k n || n == 0 then Some (k * m, t) else None)) e

pub option_map-if : {A B : Type 0} (f : A → B) (b : Bool) (x : A) →
    option_map f (if b then Some x else None) ≡ (if b then Some (f x) else None)
option_map-if f true x = refl
option_map-if f false x = refl

pub with_count-known : (t : Ty) (m n : ℕ) → m ≢ 0 → with_count (Array t m) n ≡ Array t m
with_count-known t zero n h = absurd (h refl)
with_count-known t (suc m) n h = refl

pub with_count-other : (c : Class) (go : ℕ → Ty) (ps : Tys) (n : ℕ) → ((e m : ℕ) → c ≡ classes.Array e m → ⊥) →
    with_count (class_type c go ps) n ≡ class_type c go ps
with_count-other classes.Void go ps n h = refl
with_count-other (classes.Int k m) go ps n h = refl
with_count-other (classes.Cap s) go ps n h = refl
with_count-other (classes.Pointer t) go ps n h = refl
with_count-other (classes.Array t m) go ps n h = absurd (h t m refl)
with_count-other (classes.Tagged m) go ps n h = refl
with_count-other (classes.Function t) go ps n h = refl
with_count-other (classes.Const t) go ps n h = refl

-- what is no array, struct or union is a part by itself
pub alone-place : (s : State) (c : Class) (go : ℕ → Ty) (ps : Tys) (k : ℕ) → ((e m : ℕ) → c ≡ classes.Array e m → ⊥) →
    ((n : ℕ) → c ≡ classes.Tagged n → ⊥) → ((u : Ty) → class_type c go ps ≡ Const u → ⊥) →
    item_place s (class_type c go ps) k ≡ (if k == 0 then Some (0, class_type c go ps) else None)
alone-place s classes.Void go ps k h i j = refl
alone-place s (classes.Int b m) go ps k h i j = refl
alone-place s (classes.Cap b) go ps k h i j = refl
alone-place s (classes.Pointer t) go ps k h i j = refl
alone-place s (classes.Array t m) go ps k h i j = absurd (h t m refl)
alone-place s (classes.Tagged m) go ps k h i j = absurd (i m refl)
alone-place s (classes.Function t) go ps k h i j = refl
alone-place s (classes.Const t) go ps k h i j = absurd (j (go t) refl)

-- ---- how far on parts begin

pub all-at : {A : Type 0} (P : A → Type 0) (xs : List A) (k : ℕ) (x : A) → All P xs → slice_get xs k ≡ Some x → P x
all-at P xs k x h e = subst P (get_or_from_slice_get xs k x x e) (h k x (slice_get_within xs k x e))

pub if-some : {A : Type 0} (P : A → Type 0) (b : Bool) (x y : A) → P x → (if b then Some x else None) ≡ Some y → P y
if-some P true x y h e = let i : x ≡ y = cc in subst P i h
if-some P false x y h e = absurd cc

pub elements-near : (of size' count : ℕ) → size' ≤ 2 ^ 27 → AreNear (Elements of size' count)
elements-near of size' count l = λ k p e.
    if-some (λ (q : Place). q.at ≤ suc k * 2 ^ 27) (nat_lt k count || count == 0)
    (record { at = k * size'; of = of }) p (mul-le k size' (suc k) (2 ^ 27) (omega arith) l) e

pub members-near : (ps : Vec Place) → All IsClose ps.items → AreNear (Members ps)
members-near ps h = λ k p e. let c : p.at ≤ 2 ^ 27 = all-at IsClose ps.items k p h e in omega arith

pub alone-near : (of : ℕ) → AreNear (Alone of)
alone-near of = λ k p e.
    if-some (λ (q : Place). q.at ≤ suc k * 2 ^ 27) (k == 0) (record { at = 0; of = of }) p (omega arith) e

-- ---- the scalars of a type

pub scalars-all : (w : Work) (s : State) (t : Ty) (tags : ℕ) (old : List Place) → old ≡ [] → tags ≡ length s.tags →
    map (place_in w) old ++ scalars_of s (tag_scalars tags s) t 0 ≡ scalars s t
unfolding scalars
scalars-all w s t tags old e h =
    ap (λ xs. map (place_in w) xs ++ scalars_of s (tag_scalars tags s) t 0) e
    ∙ ap (λ d. scalars_of s (tag_scalars d s) t 0) h

pub all-none : {X : Type 0} (P : X → Type 0) (xs : List X) → xs ≡ [] → All P xs
all-none {X} P xs e = subst (λ (l : List X). All P l) (sym e) (λ k d l. absurd (omega arith))

-- ---- the offsets of members

offset-of : (w : Work) (o : Option Place) → offset_in (option_map (place_in w) o) ≡ option_map (λ (p : Place). p.at) o
offset-of w None = refl
offset-of w (Some p) = refl

pub member-offset : (w : Work) (s : State) (t : Ty) (tag k : ℕ) (r : Record) (places : List Place) → t ≡ Tagged tag →
    IsRecordOf w s tag r → r.kind ≡ Struct → map (place_in w) places ≡ members_of s tag →
    statics.member_offset s t k ≡ option_map (λ (p : Place). p.at) (slice_get places k)
member-offset w s t tag k r places e i d m =
    ap (λ u. statics.member_offset s u k) e ∙ ap (λ o. tag_offset s o k) i.is
    ∙ ap (λ b. record_offset s b i.state k) (i.kind ∙ d)
    ∙ ap (λ o. offset_in (slice_get (tag_places s.tags o) k)) (sym i.is) ∙ ap (λ ps. offset_in (slice_get ps k)) (sym m)
    ∙ ap offset_in (slice_get-map (place_in w) places k) ∙ offset-of w (slice_get places k)

offset-first : (o : Option (ℕ × Ty)) → offset_in o ≡ option_map (λ (x : ℕ × Ty). x.0) o
offset-first None = refl
offset-first (Some x) = refl

-- an offset that is known by itself
pub offset-known : (w : Work) (s : State) (t : Ty) (tag k z : ℕ) (r : Record) → t ≡ Tagged tag →
    IsRecordOf w s tag r → r.kind ≡ Struct → slice_get (starts_in s.tags (slice_get s.tags tag)) k ≡ Some z →
    statics.member_offset s t k ≡ Some z
offset-known w s t tag k z r e i d h =
    ap (λ u. statics.member_offset s u k) e ∙ ap (λ o. tag_offset s o k) i.is
    ∙ ap (λ b. record_offset s b i.state k) (i.kind ∙ d)
    ∙ ap (λ o. offset_in (slice_get (tag_places s.tags o) k)) (sym i.is)
    ∙ offset-first (slice_get (members_of s tag) k)
    ∙ sym (slice_get-map (λ (x : ℕ × Ty). x.0) (members_of s tag) k) ∙ h
