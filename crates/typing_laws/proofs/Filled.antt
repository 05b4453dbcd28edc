-- Initializers: each value lies in the object and has the type of its part (C11 6.7.9).
use Rattle.std.proofs.Common.{◌≡◌, ℕ, zero, suc, ◌+◌, ◌-◌, ◌*◌, ◌<◌, ◌≤◌, Bool, true, false, List, [], ◌∷◌, ◌++◌}
use Rattle.std.proofs.Common.{length, Option, Some, None, Ok, refl, sym, ap, subst, ◌∙◌, inl, inr, ◌⊎◌, ⊎_elim, arith}
use Rattle.std.proofs.Common.{pos}
use Rattle.std.specs.Prelude.{slice_get, ◌&&◌, ◌||◌, ◌==◌, nat_lt, nat_le, if◌then◌else◌, flat_map, find}
use Rattle.std.proofs.lemmas.Bool.{false≢true, or_cases, ltb-true, eqb-true}
use Rattle.std.proofs.lemmas.Option.{none-some, same_Some}
use Rattle.ck_base.specs.declared.positions.Pos.{Pos}
use Rattle.ck_base.specs.Tokens.{Lexeme}
use Rattle.ck_int.specs.declared.kinds.IntKind.TheVariants as kind
use Rattle.ck_int.specs.declared.kinds.IntKind.{IntKind}
use Rattle.ck_int.specs.Kinds.{wrapped, reduced, kept_of}
use Rattle.ck_int.proofs.Laws.{IsKept-wrapped}
use Rattle.c_tree.specs.declared.syntax.NodeKind.{NodeKind}
use Rattle.c_tree.specs.declared.syntax.NodeKind.TheVariants as Kinds
use Rattle.c_tree.specs.Layout.{Extent, with_extent, times, size_of}
use Rattle.c_tree.specs.Syntax.{Syns}
use Rattle.c_tree.proofs.Sizes.{size_same}
use Rattle.c_tree.specs.Types.{Ty, Void, Int, Cap, Pointer, Array, Tagged, Function, Const, bare, is_scalar}
use Rattle.c_tree.specs.Terms.{Constant, Load, Convert, Term, type_of, pos_of, leaf, step}
use Rattle.c_tree.specs.Scopes.{TagState, State, Doing, give, look, ◌>>=◌, ◌>>◌, type_extent, size}
use Rattle.c_tree.specs.Constants.{kind_of}
use Rattle.c_tree.specs.Conversions.{Operand, operand_type, designates, value, value_at, is_readable, converted_term}
use Rattle.c_tree.specs.Conversions.{assigned, goes_to}
use Rattle.c_tree.specs.Readings.{Slot, Filled, Reading}
use Rattle.c_tree.specs.Expressions.{text_bytes, expression_of}
use Rattle.c_tree.specs.Initializers.{tag_places, item_place, is_character, takes_string, byte_slots, taken}
use Rattle.c_tree.specs.Initializers.{string_initializer, plain_initializer, items, braced_initializer, repeat}
use Rattle.c_tree.specs.Initializers.{scalars_of, all_scalars, tag_scalars, scalars, covers, zero_slot, scalar_slot}
use Rattle.c_tree.specs.Initializers.{every_slot, with_count}
use Rattle.c_tree.specs.Programs.{is_text, initializer_of}
use Rattle.typing_laws.specs.Fitting.{KindFits}
use Rattle.c_tree.specs.WellTyped.{holds}
use Rattle.typing_laws.proofs.Facts.{Complete, TypeOk, scalar, ValueOk, TagsGrow, Refers, Inv, Kept}
use Rattle.typing_laws.proofs.Growing.{extent_kept, type_kept, complete_kept, value_kept, refers_self, refers_on}
use Rattle.typing_laws.proofs.Growing.{grows_self, grows_on}
use Rattle.typing_laws.proofs.Steps.{ok_is, given, needed, found, first_then, either}
use Rattle.typing_laws.proofs.Scalars.{branched, bare_extent}
use Rattle.typing_laws.proofs.Converted.{Operands, IsAssigned, value_ok, assigned_ok}
use Rattle.typing_laws.proofs.Operators.{onward}
use Rattle.typing_laws.proofs.Evaluated.{ReadAll, expression_ok}
use Rattle.typing_laws.proofs.Extents.{AllTags}
use Rattle.typing_laws.proofs.Numbers.{extent_within_limit}
use Rattle.typing_laws.proofs.Divides.{Multiple, multiple_self, multiple_sum, multiple_on}
use Rattle.typing_laws.proofs.Parts.{Within, tag_place, item_of_array}

-- ---- slots

-- a value lies in an object with an extent at an offset
pub record SlotOk (s : State) (at : ℕ) (z : Extent) (x : Slot) : Type 0 where
  pub value : ValueOk true s x.value
  pub type : type_of x.value ≡ x.of
  pub read : designates x.value ≡ false
  pub extent : Extent
  pub is : type_extent s.tags x.of ≡ Some extent
  pub from : at ≤ x.at
  pub inside : x.at + extent.size ≤ at + z.size
  pub aligned : Multiple at z.align → Multiple x.at extent.align

abbrev pub AllSlots : State → ℕ → Extent → List Slot → Type 0
AllSlots s at z [] = Unit {0}
AllSlots s at z (x ∷ xs) = SlotOk s at z x × AllSlots s at z xs

slot_kept : (s r : State) → Refers s r → (at : ℕ) (z : Extent) (x : Slot) → SlotOk s at z x → SlotOk r at z x
slot_kept s r g at z x h = record {
  value = value_kept true s r g x.value h.value;
  type = h.type;
  read = h.read;
  extent = h.extent;
  is = extent_kept s.tags r.tags g.tags x.of h.extent h.is;
  from = h.from;
  inside = h.inside;
  aligned = h.aligned;
}

pub slots_kept : (s r : State) → Refers s r → (at : ℕ) (z : Extent) (xs : List Slot) → AllSlots s at z xs →
    AllSlots r at z xs
slots_kept s r g at z [] h = tt
slots_kept s r g at z (x ∷ xs) h = (slot_kept s r g at z x h.0, slots_kept s r g at z xs h.1)

slots_both : (s : State) (at : ℕ) (z : Extent) (xs ys : List Slot) → AllSlots s at z xs → AllSlots s at z ys →
    AllSlots s at z (xs ++ ys)
slots_both s at z [] ys h k = k
slots_both s at z (x ∷ xs) ys h k = (h.0, slots_both s at z xs ys h.1 k)

-- the slots of a part are slots of the whole
wider : (s : State) (at o : ℕ) (y z : Extent) (u : Ty) (w : Within s.tags z o u) → w.extent ≡ y → (xs : List Slot) →
    AllSlots s (at + o) y xs → AllSlots s at z xs
wider s at o y z u w e [] h = tt
wider s at o y z u w e (x ∷ xs) h =
    let p = h.0 in
    let i = subst (λ (y : Extent). o + y.size ≤ z.size) e w.inside in (
      record {
        value = p.value;
        type = p.type;
        read = p.read;
        extent = p.extent;
        is = p.is;
        from = omega (arith, p.from);
        inside = omega (arith, p.inside, i);
        aligned = λ m. p.aligned (multiple_sum at o y.align
            (subst (λ (y : Extent). Multiple at y.align) e (multiple_on at z.align w.extent.align m w.divides))
            (subst (λ (y : Extent). Multiple o y.align) e w.aligned));
      },
      wider s at o y z u w e xs h.1,
    )

-- the values are of a type
abbrev pub AllOf : Ty → List Slot → Type 0
AllOf t [] = Unit {0}
AllOf t (x ∷ xs) = (x.of ≡ t) × AllOf t xs

of_both : (t : Ty) (xs ys : List Slot) → AllOf t xs → AllOf t ys → AllOf t (xs ++ ys)
of_both t [] ys h k = k
of_both t (x ∷ xs) ys h k = (h.0, of_both t xs ys h.1 k)

-- a scalar has values of its own type alone
abbrev pub OwnScalar : Ty → List Slot → Type 0
OwnScalar t xs = holds (is_scalar (bare t)) → AllOf (bare t) xs

-- what may be initialised: a complete type, or an array whose length is not known
abbrev pub Fillable : List TagState → Ty → Type 0
Fillable ts t = Complete ts t ⊎ ((e : Ty) × (t ≡ Array e 0))

abbrev pub FilledOk : State → ℕ → Ty → Filled → Type 0
FilledOk s at t f = ((z : Extent) → type_extent s.tags (with_count t f.count) ≡ Some z → AllSlots s at z f.slots) ×
    OwnScalar t f.slots

-- a complete type stays as it is
complete_count : (ts : List TagState) (t : Ty) (n : ℕ) → Complete ts t → with_count t n ≡ t
complete_count ts (Array t zero) n c = absurd (no_length (type_extent ts t) c.0 c.1)
  where
    no_length : (o : Option Extent) (x : Extent) → with_extent o (times 0) ≡ Some x → ⊥
    no_length None x e = none-some x e
    no_length (Some y) x e = none-some x e
complete_count ts (Array t (suc k)) n c = refl
complete_count ts Void n c = refl
complete_count ts (Int k m) n c = refl
complete_count ts (Cap b) n c = refl
complete_count ts (Pointer t) n c = refl
complete_count ts (Tagged k) n c = refl
complete_count ts (Function r ps) n c = refl
complete_count ts (Const t) n c = refl

-- what is known later of such a type is known before
open_extent : (ts us : List TagState) → TagsGrow ts us → (e : Ty) (n : ℕ) (x z : Extent) → type_extent ts e ≡ Some x →
    type_extent us (Array e n) ≡ Some z → type_extent ts (Array e n) ≡ Some z
open_extent ts us g e n x z h k =
    let l = extent_kept ts us g e x h in
    ap (λ o. with_extent o (times n)) (h ∙ sym l) ∙ k

fill_extent : (ts us : List TagState) → TagsGrow ts us → (t : Ty) (n : ℕ) (z : Extent) → TypeOk ts t → Fillable ts t →
    type_extent us (with_count t n) ≡ Some z → type_extent ts (with_count t n) ≡ Some z
fill_extent ts us g t n z h (inl c) e =
    let i = complete_count ts t n c in
    let l = extent_kept ts us g t c.0 c.1 in
    ap (type_extent ts) i ∙ c.1 ∙ sym l ∙ ap (type_extent us) (sym i) ∙ e
fill_extent ts us g t n z h (inr a) e =
    let k : TypeOk ts (Array a.0 0) = subst (TypeOk ts) a.1 h in
    let q : type_extent us (Array a.0 n) ≡ Some z = subst (λ t. type_extent us (with_count t n) ≡ Some z) a.1 e in
    subst (λ t. type_extent ts (with_count t n) ≡ Some z) (sym a.1) (open_extent ts us g a.0 n k.1 z k.2 q)

-- ---- items

pub record Item (ts : List TagState) (t : Ty) (k : ℕ) (o : ℕ) (u : Ty) : Type 0 where
  pub type : TypeOk ts u
  pub complete : Complete ts u
  pub within : (n : ℕ) (z : Extent) → k < n → type_extent ts (with_count t n) ≡ Some z → Within ts z o u

pub chosen : {A : Type 0} (b : Bool) (x y : A) → (if b then Some x else None) ≡ Some y → (b ≡ true) × (x ≡ y)
chosen true x y e = (refl, same_Some x y e)
chosen false x y e = absurd (none-some y e)

-- the only part of a scalar
only_item : (ts : List TagState) (t : Ty) (k : ℕ) → TypeOk ts t → Complete ts t → ((n : ℕ) → with_count t n ≡ t) →
    Item ts t k 0 t
only_item ts t k h c f = record {
  type = h;
  complete = c;
  within = λ n z l q. record {
    extent = z;
    is = ap (type_extent ts) (sym (f n)) ∙ q;
    inside = omega arith;
    aligned = (0, omega arith);
    divides = multiple_self z.align;
    type = h;
  };
}

only_part : (ts : List TagState) (t : Ty) (k o : ℕ) (u : Ty) → TypeOk ts t → Complete ts t →
    ((n : ℕ) → with_count t n ≡ t) → (let p : ℕ × Ty = (0, t) in (if k == 0 then Some p else None) ≡ Some (o, u)) →
    Item ts t k o u
only_part ts t k o u h c f e =
    let p : ℕ × Ty = (0, t) in
    let q = chosen (k == 0) p (o, u) e in
    subst (λ (p : ℕ × Ty). Item ts t k p.0 p.1) q.1 (only_item ts t k h c f)

length_of : (ts : List TagState) → AllTags ts → (t : Ty) (n k m : ℕ) (z : Extent) → TypeOk ts (Array t n) →
    (nat_lt k n || n == 0) ≡ true → k < m → type_extent ts (with_count (Array t n) m) ≡ Some z →
    Within ts z (k * size_of (type_extent ts t)) t
length_of ts all t zero k m z h i l q = item_of_array ts all t m k h.1 z h.0 h.2 l q
length_of ts all t (suc n) k m z h i l q =
    let below : k < suc n = ⊎_elim (λ a. ltb-true k (suc n) a)
    (λ a. absurd (let w : suc n ≡ 0 = eqb-true (suc n) 0 a in omega (arith, w)))
    (or_cases (nat_lt k (suc n)) (suc n == 0) i) in
    item_of_array ts all t (suc n) k h.1 z h.0 h.2 below q

array_item : (ts : List TagState) → AllTags ts → (t : Ty) (n k o : ℕ) (u : Ty) → TypeOk ts (Array t n) →
    (let p : ℕ × Ty = (k * size_of (type_extent ts t), t) in
    (if nat_lt k n || n == 0 then Some p else None) ≡ Some (o, u)) → Item ts (Array t n) k o u
array_item ts all t n k o u h e =
    let p : ℕ × Ty = (k * size_of (type_extent ts t), t) in
    let q = chosen (nat_lt k n || n == 0) p (o, u) e in
    subst (λ (p : ℕ × Ty). Item ts (Array t n) k p.0 p.1) q.1
    (record { type = h.0; complete = (h.1, h.2); within = λ m z l r. length_of ts all t n k m z h q.0 l r })

complete_fill : (ts : List TagState) (t : Ty) → Fillable ts t → ((e : Ty) → t ≡ Array e 0 → ⊥) → Complete ts t
complete_fill ts t (inl c) f = c
complete_fill ts t (inr a) f = absurd (f a.0 a.1)

tagged_item : (ts : List TagState) → AllTags ts → (n k o : ℕ) (u : Ty) → Complete ts (Tagged n) →
    slice_get (tag_places ts (slice_get ts n)) k ≡ Some (o, u) → Item ts (Tagged n) k o u
tagged_item ts all n k o u c e =
    let w = tag_place ts all n (slice_get ts n) c.0 k o u refl c.1 e in
    record {
      type = w.type;
      complete = (w.extent, w.is);
      within = λ m z l q. subst (λ (z : Extent). Within ts z o u) (same_Some c.0 z (sym c.1 ∙ q)) w;
    }

pub item_ok : (s : State) → AllTags s.tags → (t : Ty) (k o : ℕ) (u : Ty) → TypeOk s.tags t → Fillable s.tags t →
    item_place s t k ≡ Some (o, u) → Item s.tags t k o u
item_ok s all (Array t n) k o u h f e = array_item s.tags all t n k o u h e
item_ok s all (Tagged n) k o u h f e =
    tagged_item s.tags all n k o u (complete_fill s.tags (Tagged n) f (λ a q. absurd cc)) e
item_ok s all (Const t) k o u h f e =
    let c = complete_fill s.tags (Const t) f (λ a q. absurd cc) in
    let i = item_ok s all t k o u h.0 (inl c) e in
    record {
      type = i.type;
      complete = i.complete;
      within = λ n z l q. i.within n z l (ap (type_extent s.tags) (complete_count s.tags t n c) ∙ q);
    }
item_ok s all Void k o u h f e =
    only_part s.tags Void k o u h (complete_fill s.tags Void f (λ a q. absurd cc)) (λ n. refl) e
item_ok s all (Int i n) k o u h f e =
    only_part s.tags (Int i n) k o u h (complete_fill s.tags (Int i n) f (λ a q. absurd cc)) (λ n. refl) e
item_ok s all (Cap b) k o u h f e =
    only_part s.tags (Cap b) k o u h (complete_fill s.tags (Cap b) f (λ a q. absurd cc)) (λ n. refl) e
item_ok s all (Pointer t) k o u h f e =
    only_part s.tags (Pointer t) k o u h (complete_fill s.tags (Pointer t) f (λ a q. absurd cc)) (λ n. refl) e
item_ok s all (Function r ps) k o u h f e =
    only_part s.tags (Function r ps) k o u h (complete_fill s.tags (Function r ps) f (λ a q. absurd cc)) (λ n. refl) e

-- a scalar has no part but itself
scalar_part : (t : Ty) (k o : ℕ) (u : Ty) →
    (let p : ℕ × Ty = (0, t) in (if k == 0 then Some p else None) ≡ Some (o, u)) → bare u ≡ bare t
scalar_part t k o u e = let p : ℕ × Ty = (0, t) in ap (λ (p : ℕ × Ty). bare p.1) (sym (chosen (k == 0) p (o, u) e).1)

item_scalar : (s : State) (t : Ty) (k o : ℕ) (u : Ty) → is_scalar (bare t) ≡ true → item_place s t k ≡ Some (o, u) →
    bare u ≡ bare t
item_scalar s (Int i n) k o u c e = scalar_part (Int i n) k o u e
item_scalar s (Cap b) k o u c e = scalar_part (Cap b) k o u e
item_scalar s (Pointer t) k o u c e = scalar_part (Pointer t) k o u e
item_scalar s (Const (Int i n)) k o u c e = scalar_part (Int i n) k o u e
item_scalar s (Const (Cap b)) k o u c e = scalar_part (Cap b) k o u e
item_scalar s (Const (Pointer t)) k o u c e = scalar_part (Pointer t) k o u e
item_scalar s t k o u c e = absurd (false≢true c)

-- ---- the readings

-- what is asked of a slot changes nothing
abbrev pub AskedStill : (Slot → Doing Unit) → Type 0
AskedStill asked = (y : Slot) (s : State) (x : Unit × State) → asked y s ≡ Ok x → x.1 ≡ s

abbrev pub Initializes : (r : Reading) → Type 0
Initializes r = (asked : Slot → Doing Unit) (whole : Pos) (of : Ty) (at : ℕ) (s : State) → AskedStill asked →
    Inv true s → TypeOk s.tags of → Fillable s.tags of → (x : Filled × State) →
    r.initializer asked whole of at s ≡ Ok x → Kept true true s (λ q f. FilledOk q at of f) x

abbrev pub AllInitialize : List Reading → Type 0
AllInitialize [] = Unit {0}
AllInitialize (r ∷ rs) = Initializes r × AllInitialize rs

-- the values of a list of items, whatever the whole's extent is
abbrev ItemsFill : State → ℕ → Ty → ℕ → State → List Slot → Type 0
ItemsFill s at t n r xs =
    ((z : Extent) → type_extent s.tags (with_count t n) ≡ Some z → AllSlots r at z xs) × OwnScalar t xs

items_ok : (rs : List Reading) (s : State) (asked : Slot → Doing Unit) (whole : Pos) (of : Ty) (at : ℕ) (brace : Pos)
    (k n : ℕ) (r : State) → AllInitialize rs → AskedStill asked → k + length rs ≤ n → AllTags s.tags →
    TypeOk s.tags of → Fillable s.tags of → TagsGrow s.tags r.tags → Inv true r →
    (x : List Slot × State) → items s asked whole of at brace k rs r ≡ Ok x → Kept true true r (ItemsFill s at of n) x
items_ok [] s asked whole of at brace k n r j a l all h f g i x e =
    given (Kept true true r (ItemsFill s at of n)) [] r x e
    (record { inv = i; grown = grows_self true r; post = (λ z q. tt, λ c. tt) })
items_ok (r₀ ∷ rs) s asked whole of at brace k n r j a l all h f g i x e =
    let rest : List Slot → Filled → List Slot = λ slots y. y.slots ++ slots in
    let p = found (item_place s of k) 133 brace
    (λ p. r₀.initializer asked whole p.1 (at + p.0) >>= λ y. items s asked whole of at brace (k + 1) rs
    >>= λ slots. give (y.slots ++ slots)) r x e in
    let o = p.0.0 in let u = p.0.1 in
    let it = item_ok s all of k o u h f p.1 in
    let y = first_then (r₀.initializer asked whole u (at + o) r)
    (λ y. items s asked whole of at brace (k + 1) rs >>= λ slots. give (y.slots ++ slots)) x p.2 in
    let c = complete_kept s.tags r.tags g u it.complete in
    let b = j.0 asked whole u (at + o) r a i (type_kept s.tags r.tags g u it.type) (inl c) y.0 y.1 in
    let q = y.0.1 in
    let w = first_then (items s asked whole of at brace (k + 1) rs q) (λ slots. give (y.0.0.slots ++ slots)) x y.2 in
    let d = items_ok rs s asked whole of at brace (k + 1) n q j.1 a (omega (arith, l)) all h f
    (grow_on s.tags r.tags q.tags g b.grown.refers.tags) b.inv w.0 w.1 in
    let v = w.0.1 in
    onward true true r y.0 x b (given (Kept true true q (ItemsFill s at of n)) (y.0.0.slots ++ w.0.0) v x w.2 (record {
      inv = d.inv;
      grown = d.grown;
      post = (
        λ z m.
            let in_whole = it.within n z (omega (arith, l)) m in
            let own : type_extent q.tags (with_count u y.0.0.count) ≡ Some in_whole.extent =
            ap (type_extent q.tags) (complete_count s.tags u y.0.0.count it.complete)
            ∙ extent_kept s.tags q.tags (grow_on s.tags r.tags q.tags g b.grown.refers.tags) u in_whole.extent
            in_whole.is in
            let part = slots_kept q v d.grown.refers (at + o) in_whole.extent y.0.0.slots
            (b.post.0 in_whole.extent own) in
            slots_both v at z y.0.0.slots w.0.0 (wider v at o in_whole.extent z u
            (within_kept s.tags v.tags (grow_on s.tags q.tags v.tags
            (grow_on s.tags r.tags q.tags g b.grown.refers.tags) d.grown.refers.tags) z o u in_whole) refl
            y.0.0.slots part) (d.post.0 z m),
        λ c.
            let same = item_scalar s of k o u c p.1 in
            of_both (bare of) y.0.0.slots w.0.0 (subst (λ t. AllOf t y.0.0.slots) same
            (b.post.1 (ap is_scalar same ∙ c))) (d.post.1 c),
      );
    }))
  where
    grow_on : (ts us vs : List TagState) → TagsGrow ts us → TagsGrow us vs → TagsGrow ts vs
    grow_on ts us vs g h = Rattle.typing_laws.proofs.Growing.tags_on ts us vs g h

    within_kept : (ts us : List TagState) → TagsGrow ts us → (z : Extent) (o : ℕ) (u : Ty) → Within ts z o u →
        Within us z o u
    within_kept ts us g z o u w =
        record {
          extent = w.extent;
          is = extent_kept ts us g u w.extent w.is;
          inside = w.inside;
          aligned = w.aligned;
          divides = w.divides;
          type = type_kept ts us g u w.type;
        }

-- the items' count is the array's
list_filled : (s q : State) (at : ℕ) (of : Ty) (n : ℕ) (xs : List Slot) → TagsGrow s.tags q.tags → TypeOk s.tags of →
    Fillable s.tags of → ItemsFill s at of n q xs → FilledOk q at of (record { slots = xs; count = n })
list_filled s q at of n xs g h f k = (λ z e. k.0 z (fill_extent s.tags q.tags g of n z h f e), k.1)

braced_items : (rs : List Reading) (n : ℕ) (asked : Slot → Doing Unit) (whole : Pos) (of : Ty) (at : ℕ) (brace : Pos)
    (s : State) → length rs ≤ n → AllInitialize rs → AskedStill asked → Inv true s → TypeOk s.tags of →
    Fillable s.tags of →
    (x : Filled × State) → (items s asked whole of at brace 0 rs
    >>= λ slots. give (record { slots = slots; count = n })) s ≡ Ok x →
    Kept true true s (λ q f. FilledOk q at of f) x
braced_items rs n asked whole of at brace s l j a i h f x e =
    let y = first_then (items s asked whole of at brace 0 rs s)
    (λ slots. give (record { slots = slots; count = n })) x e in
    let k = items_ok rs s asked whole of at brace 0 n s j a (omega (arith, l)) i.tags h f
    (Rattle.typing_laws.proofs.Growing.tags_self s.tags) i y.0 y.1 in
    onward true true s y.0 x k (given (Kept true true y.0.1 (λ q f. FilledOk q at of f))
    (record { slots = y.0.0; count = n }) y.0.1 x y.2
    (record {
      inv = k.inv;
      grown = grows_self true y.0.1;
      post = list_filled s y.0.1 at of n y.0.0 k.grown.refers.tags h f k.post;
    }))

braced_ok : (brace : Lexeme) (text : Bool) (rs : List Reading) (asked : Slot → Doing Unit) (whole : Pos) (of : Ty)
    (at : ℕ) (s : State) → AllInitialize rs → AskedStill asked → Inv true s → TypeOk s.tags of → Fillable s.tags of →
    (x : Filled × State) → braced_initializer brace text rs asked whole of at s ≡ Ok x →
    Kept true true s (λ q f. FilledOk q at of f) x
unfolding braced_initializer
braced_ok brace text (r ∷ []) asked whole of at s j a i h f x e =
    either (text && takes_string of) (r.initializer asked whole of at)
    (look >>= λ s. items s asked whole of at brace.pos 0 (r ∷ [])
    >>= λ slots. give (record { slots = slots; count = 1 })) s x (Kept true true s (λ q f. FilledOk q at of f) x)
    (λ _ g. j.0 asked whole of at s a i h f x g)
    (λ _ g. braced_items (r ∷ []) 1 asked whole of at brace.pos s (omega arith) j a i h f x g) e
braced_ok brace text [] asked whole of at s j a i h f x e =
    braced_items [] 0 asked whole of at brace.pos s (omega arith) j a i h f x e
braced_ok brace text (r ∷ q ∷ rs) asked whole of at s j a i h f x e =
    braced_items (r ∷ q ∷ rs) (length (r ∷ q ∷ rs)) asked whole of at brace.pos s (omega arith) j a i h f x e

-- ---- strings

-- the value of a character at its type
character_slot : (s : State) (at : ℕ) (z : Extent) (t : Ty) (whole : Pos) (p : ℕ) (v : ℕ) → is_character t ≡ true →
    at ≤ p → p + 1 ≤ at + z.size →
    SlotOk s at z (record {
      at = p;
      of = t;
      value = leaf (Constant (wrapped (kind_of t) (pos v))) t whole;
      first = whole;
    })
character_slot s at z (Int kind.U8 n) whole p v c l m = record {
  value = record { fits = (tt, (IsKept-wrapped kind.U8 (pos v), refl, tt)); type = tt; value = scalar refl };
  type = refl;
  read = refl;
  extent = record { size = 1; align = 1 };
  is = refl;
  from = l;
  inside = m;
  aligned = λ _. (p, omega arith);
}
character_slot s at z (Int kind.I8 n) whole p v c l m = record {
  value = record { fits = (tt, (IsKept-wrapped kind.I8 (pos v), refl, tt)); type = tt; value = scalar refl };
  type = refl;
  read = refl;
  extent = record { size = 1; align = 1 };
  is = refl;
  from = l;
  inside = m;
  aligned = λ _. (p, omega arith);
}
character_slot s at z t whole p v c l m = absurd (false≢true c)

bytes_ok : (s : State) (at : ℕ) (z : Extent) (t : Ty) (whole : Pos) (bs : List ℕ) (p : ℕ) → is_character t ≡ true →
    at ≤ p → p + length bs ≤ at + z.size → AllSlots s at z (byte_slots whole t p bs)
bytes_ok s at z t whole [] p c l m = tt
bytes_ok s at z t whole (b ∷ bs) p c l m = (
  character_slot s at z t whole p b c l (omega (arith, m)),
  bytes_ok s at z t whole bs (p + 1) c (omega (arith, l)) (omega (arith, m)),
)

taken_few : (n : ℕ) (bs : List ℕ) → length (taken n bs) ≤ n
taken_few zero bs = omega arith
taken_few (suc n) [] = omega arith
taken_few (suc n) (b ∷ bs) = let h = taken_few n bs in omega (arith, h)

character_size : (ts : List TagState) (t : Ty) → is_character t ≡ true →
    type_extent ts t ≡ Some (record { size = 1; align = 1 })
character_size ts (Int kind.U8 n) c = refl
character_size ts (Int kind.I8 n) c = refl
character_size ts t c = absurd (false≢true c)

array_size : (ts : List TagState) (t : Ty) (n : ℕ) (z : Extent) → is_character (bare t) ≡ true →
    type_extent ts (Array t n) ≡ Some z → z.size ≡ n
array_size ts t n z c e =
    sized n (subst (λ o. with_extent o (times n) ≡ Some z) (sym (bare_extent ts t) ∙ character_size ts (bare t) c) e)
  where
    sized : (n : ℕ) → with_extent (Some (record { size = 1; align = 1 })) (times n) ≡ Some z → z.size ≡ n
    sized zero e = absurd (none-some z e)
    sized (suc n) e = ap (λ (y : Extent). y.size) (sym (same_Some (record { size = suc n * 1; align = 1 }) z e))
        ∙ omega arith

-- the number of elements that a string fills
string_by : (ts : List TagState) (t : Ty) (k : ℕ) (bytes : List ℕ) (z : Extent) → is_character (bare t) ≡ true →
    type_extent ts (with_count (Array t k) (length bytes)) ≡ Some z →
    length (taken (if k == 0 then length bytes else k) bytes) ≤ z.size
string_by ts t zero bytes z c e =
    let a = array_size ts t (length bytes) z c e in let b = taken_few (length bytes) bytes in omega (arith, a, b)
string_by ts t (suc k) bytes z c e =
    let a = array_size ts t (suc k) z c e in let b = taken_few (suc k) bytes in
    branched (λ n. length (taken n bytes) ≤ z.size) (suc k == 0) (length bytes) (suc k)
    (λ q. absurd (let w : suc k ≡ 0 = eqb-true (suc k) 0 q in omega (arith, w))) (λ _. omega (arith, a, b))

string_ok : (t : Lexeme) (xs : Syns) (whole : Pos) (of : Ty) (at : ℕ) (s : State) → takes_string of ≡ true →
    Inv true s → (x : Filled × State) → string_initializer t xs whole of at s ≡ Ok x →
    Kept true true s (λ q f. FilledOk q at of f) x
unfolding string_initializer
string_ok t xs whole (Array u k) at s c i x e =
    let bytes = text_bytes t xs in
    let n = (if k == 0 then length bytes else k) in
    let f : Filled = record { slots = byte_slots whole (bare u) at (taken n bytes); count = length bytes } in
    let a = needed (nat_le (length bytes) (n + 1)) 133 t.pos (give f) s x e in
    given (Kept true true s (λ q f. FilledOk q at (Array u k) f)) f s x a.1 (record {
      inv = i;
      grown = grows_self true s;
      post = (
        λ z m. let l = string_by s.tags u k bytes z c m in
            bytes_ok s at z (bare u) whole (taken n bytes) at c (omega arith) (omega (arith, l)),
        λ q. absurd (false≢true q),
      );
    })
string_ok t xs whole of at s c i x e = absurd (false≢true c)

-- ---- one value

-- a value that is read is no place
value_read : (t : Ty) (x : Term) → designates (value_at t x) ≡ false
value_read (Array e n) x = refl
value_read (Function r ps) x = refl
value_read Void x = branched (λ y. designates y ≡ false) (designates x) (step Load x (bare Void) (pos_of x)) x
    (λ _. refl) (λ d. d)
value_read (Int k n) x = branched (λ y. designates y ≡ false) (designates x) (step Load x (bare (Int k n)) (pos_of x)) x
    (λ _. refl) (λ d. d)
value_read (Cap b) x = branched (λ y. designates y ≡ false) (designates x) (step Load x (bare (Cap b)) (pos_of x)) x
    (λ _. refl) (λ d. d)
value_read (Pointer t) x =
    branched (λ y. designates y ≡ false) (designates x) (step Load x (bare (Pointer t)) (pos_of x)) x (λ _. refl)
    (λ d. d)
value_read (Tagged n) x =
    branched (λ y. designates y ≡ false) (designates x) (step Load x (bare (Tagged n)) (pos_of x)) x (λ _. refl)
    (λ d. d)
value_read (Const t) x = branched (λ y. designates y ≡ false) (designates x) (step Load x (bare (Const t)) (pos_of x)) x
    (λ _. refl) (λ d. d)

read_by_value : (a : Operand) (s : State) (x : Operand × State) → value a s ≡ Ok x → designates x.0.is ≡ false
read_by_value a s x e =
    let b : Operand = record a { is = value_at (type_of a.is) a.is } in
    let n = needed (is_readable s a.is) 132 a.first (λ r. Ok (b, r)) s x e in
    subst (λ (y : Operand × State). designates y.0.is ≡ false) (ok_is (b, s) x n.1) (value_read (type_of a.is) a.is)

converted_read : (t : Ty) (x : Term) → designates x ≡ false → designates (converted_term t x) ≡ false
converted_read t x d = branched (λ y. designates y ≡ false) (Rattle.c_tree.specs.Types.same (type_of x) t) x
    (step Convert x t (pos_of x)) (λ _. d) (λ _. refl)

read_by_assigned : (t : Ty) (a : Operand) (s : State) (x : Term × State) → designates a.is ≡ false →
    assigned t a s ≡ Ok x → designates x.0 ≡ false
read_by_assigned t a s x d e =
    let n = needed (goes_to (bare t) (operand_type a) a.is) 133 a.first (give (converted_term (bare t) a.is)) s x e in
    subst (λ (y : Term × State). designates y.0 ≡ false) (ok_is (converted_term (bare t) a.is, s) x n.1)
    (converted_read (bare t) a.is d)

count_none : (ts : List TagState) (t : Ty) (z : Extent) → type_extent ts (with_count t 0) ≡ Some z →
    type_extent ts t ≡ Some z
count_none ts (Array t zero) z e = e
count_none ts (Array t (suc k)) z e = e
count_none ts Void z e = e
count_none ts (Int k n) z e = e
count_none ts (Cap b) z e = e
count_none ts (Pointer t) z e = e
count_none ts (Tagged n) z e = e
count_none ts (Function r ps) z e = e
count_none ts (Const t) z e = e

-- one value fills the whole
whole_slot : (s : State) (at : ℕ) (of : Ty) (z : Extent) (y : Term) (first : Pos) → IsAssigned true s of y →
    designates y ≡ false → type_extent s.tags of ≡ Some z →
    SlotOk s at z (record { at = at; of = bare of; value = y; first = first })
whole_slot s at of z y first h d e = record {
  value = h.value;
  type = h.type;
  read = d;
  extent = z;
  is = bare_extent s.tags of ∙ e;
  from = omega arith;
  inside = omega arith;
  aligned = λ m. m;
}

plain_ok : (d : Doing Operand) (asked : Slot → Doing Unit) (whole : Pos) (of : Ty) (at : ℕ) (s : State) →
    ((x : Operand × State) → d s ≡ Ok x → Operands true s x) → AskedStill asked → Inv true s → TypeOk s.tags of →
    (x : Filled × State) → plain_initializer d asked whole of at s ≡ Ok x →
    Kept true true s (λ q f. FilledOk q at of f) x
unfolding plain_initializer
plain_ok d asked whole of at s h a i k x e =
    let last : Operand → Term → Doing Filled =
    λ v y. asked (record { at = at; of = bare of; value = y; first = v.first })
    >> give (record { slots = record { at = at; of = bare of; value = y; first = v.first } ∷ []; count = 0 }) in
    let f = first_then ((d >>= value) s) (λ v. assigned of v >>= last v) x e in
    let g = first_then (d s) value f.0 f.1 in
    let l = h g.0 g.1 in
    let v = value_ok true g.0.1 l.inv g.0.0 l.post f.0 g.2 in
    let w = onward true true s g.0 f.0 l v in
    let b = f.0.1 in
    let n = first_then (assigned of f.0.0 b) (last f.0.0) x f.2 in
    let r = read_by_assigned of f.0.0 b n.0 (read_by_value g.0.0 g.0.1 f.0 g.2) n.1 in
    let p = assigned_ok true b w.inv of f.0.0 (type_kept s.tags b.tags w.grown.refers.tags of k) w.post n.0 n.1 in
    let c = n.0.1 in
    let slot : Slot = record { at = at; of = bare of; value = n.0.0; first = f.0.0.first } in
    let filled : Filled = record { slots = slot ∷ []; count = 0 } in
    let q = first_then (asked slot c) (λ _. give filled) x n.2 in
    let still : c ≡ q.0.1 = sym (a slot c q.0 q.1) in
    onward true true s f.0 x w (onward true true b n.0 x p
    (given (Kept true true c (λ q f. FilledOk q at of f)) filled q.0.1 x q.2
    (subst (λ (t : State). Kept true true c (λ q f. FilledOk q at of f) (filled, t)) still
    (record {
      inv = p.inv;
      grown = grows_self true c;
      post = (
        λ z m. (whole_slot c at of z n.0.0 f.0.0.first p.post r (count_none c.tags of z m), tt),
        λ _. (refl, tt),
      );
    }))))

-- an initializer of any kind
pub initializer_ok : (k : NodeKind) (t : Lexeme) (xs : Syns) (rs : List Reading) → KindFits k t xs → ReadAll rs →
    AllInitialize rs → (asked : Slot → Doing Unit) (whole : Pos) (of : Ty) (at : ℕ) (s : State) → AskedStill asked →
    Inv true s → TypeOk s.tags of → Fillable s.tags of →
    (x : Filled × State) → initializer_of k t xs rs asked whole of at s ≡ Ok x →
    Kept true true s (λ q f. FilledOk q at of f) x
initializer_ok Kinds.BracedInitializer t xs rs c r j asked whole of at s a i h f x e =
    braced_ok t (is_text xs) rs asked whole of at s j a i h f x e
initializer_ok Kinds.Text t xs rs c r j asked whole of at s a i h f x e =
    either (takes_string of) (string_initializer t xs whole of at)
    (plain_initializer (expression_of Kinds.Text t xs rs) asked whole of at) s x
    (Kept true true s (λ q f. FilledOk q at of f) x)
    (λ w g. string_ok t xs whole of at s w i x g)
    (λ _ g. plain_ok (expression_of Kinds.Text t xs rs) asked whole of at s
    (λ y q. expression_ok true Kinds.Text t xs rs s c i r y q) a i h x g) e
initializer_ok k t xs rs c r j asked whole of at s a i h f x e =
    plain_ok (expression_of k t xs rs) asked whole of at s (λ y q. expression_ok true k t xs rs s c i r y q) a i h x e

-- ---- the whole object

-- a scalar in an object
pub record ScalarIn (ts : List TagState) (at : ℕ) (z : Extent) (p : ℕ × Ty) : Type 0 where
  pub kind : is_scalar p.1 ≡ true
  pub type : TypeOk ts p.1
  pub extent : Extent
  pub is : type_extent ts p.1 ≡ Some extent
  pub from : at ≤ p.0
  pub inside : p.0 + extent.size ≤ at + z.size

abbrev AllIn : List TagState → ℕ → Extent → List (ℕ × Ty) → Type 0
AllIn ts at z [] = Unit {0}
AllIn ts at z (p ∷ ps) = ScalarIn ts at z p × AllIn ts at z ps

both_in : (ts : List TagState) (at : ℕ) (z : Extent) (ps qs : List (ℕ × Ty)) → AllIn ts at z ps → AllIn ts at z qs →
    AllIn ts at z (ps ++ qs)
both_in ts at z [] qs h k = k
both_in ts at z (p ∷ ps) qs h k = (h.0, both_in ts at z ps qs h.1 k)

wider_in : (ts : List TagState) (at o : ℕ) (y z : Extent) (ps : List (ℕ × Ty)) → o + y.size ≤ z.size →
    AllIn ts (at + o) y ps → AllIn ts at z ps
wider_in ts at o y z [] l h = tt
wider_in ts at o y z (p ∷ ps) l h = (
  record {
    kind = h.0.kind;
    type = h.0.type;
    extent = h.0.extent;
    is = h.0.is;
    from = omega (arith, h.0.from);
    inside = omega (arith, h.0.inside, l);
  },
  wider_in ts at o y z ps l h.1,
)

one_in : (ts : List TagState) (t : Ty) (at : ℕ) (z : Extent) → is_scalar t ≡ true → TypeOk ts t →
    type_extent ts t ≡ Some z → AllIn ts at z ((at, t) ∷ [])
one_in ts t at z s h e = (
  record { kind = s; type = h; extent = z; is = e; from = omega arith; inside = omega arith },
  tt,
)

-- n elements, each of which has its scalars in it
repeat_in : (ts : List TagState) (n step : ℕ) (f : ℕ → List (ℕ × Ty)) (y : Extent) (at base : ℕ) (z : Extent) →
    y.size ≡ step → ((b : ℕ) → AllIn ts b y (f b)) → base ≤ at → at + n * step ≤ base + z.size →
    AllIn ts base z (repeat n step f at)
repeat_in ts zero step f y at base z e h l m = tt
repeat_in ts (suc n) step f y at base z e h l m =
    let o : base + (at - base) ≡ at = omega arith in
    both_in ts base z (f at) (repeat n step f (at + step))
    (wider_in ts base (at - base) y z (f at) (omega (arith, e, m, l)) (subst (λ b. AllIn ts b y (f at)) (sym o) (h at)))
    (repeat_in ts n step f y (at + step) base z e h (omega (arith, l)) (omega (arith, m)))

-- the scalars of a struct or union at an offset lie in it
abbrev TagsIn : State → (ℕ → ℕ → List (ℕ × Ty)) → Type 0
TagsIn s go = (n b : ℕ) (z : Extent) → type_extent s.tags (Tagged n) ≡ Some z → AllIn s.tags b z (go n b)

array_in : (s : State) (go : ℕ → ℕ → List (ℕ × Ty)) (t : Ty) (n b : ℕ) (y z : Extent) → size s t ≡ y.size →
    ((b : ℕ) → AllIn s.tags b y (scalars_of s go t b)) → with_extent (Some y) (times n) ≡ Some z →
    AllIn s.tags b z (repeat n (size s t) (scalars_of s go t) b)
array_in s go t zero b y z e f m = absurd (none-some z m)
array_in s go t (suc n) b y z e f m =
    let whole : suc n * y.size ≡ z.size =
    ap (λ (x : Extent). x.size) (same_Some (record { size = suc n * y.size; align = y.align }) z m) in
    repeat_in s.tags (suc n) (size s t) (scalars_of s go t) y b b z (sym e) f (omega arith)
    (rw (e, whole) (omega arith))

scalars_in : (s : State) (go : ℕ → ℕ → List (ℕ × Ty)) → AllTags s.tags → TagsIn s go → (t : Ty) (b : ℕ) (z : Extent) →
    TypeOk s.tags t → type_extent s.tags t ≡ Some z → AllIn s.tags b z (scalars_of s go t b)
scalars_in s go all h (Array t n) b z k e =
    array_in s go t n b k.1 z (size_same (type_extent s.tags t) k.1 k.2 (extent_within_limit s.tags all t k.1 k.0 k.2))
    (λ c. scalars_in s go all h t c k.1 k.0 k.2)
    (subst (λ o. with_extent o (times n) ≡ Some z) k.2 e)
scalars_in s go all h (Tagged n) b z k e = h n b z e
scalars_in s go all h (Const t) b z k e = scalars_in s go all h t b z k.0 e
scalars_in s go all h Void b z k e = absurd (none-some z e)
scalars_in s go all h (Int i n) b z k e = one_in s.tags (Int i n) b z refl tt e
scalars_in s go all h (Cap c) b z k e = one_in s.tags (Cap c) b z refl tt e
scalars_in s go all h (Pointer t) b z k e = one_in s.tags (Pointer t) b z refl k e
scalars_in s go all h (Function r ps) b z k e = absurd (none-some z e)

places_in : (s : State) (go : ℕ → ℕ → List (ℕ × Ty)) → AllTags s.tags → TagsIn s go → (ps : List (ℕ × Ty)) (b : ℕ)
    (z : Extent) → ((j o : ℕ) (u : Ty) → slice_get ps j ≡ Some (o, u) → Within s.tags z o u) →
    AllIn s.tags b z (all_scalars s go ps b)
places_in s go all h [] b z f = tt
places_in s go all h (p ∷ ps) b z f =
    let w = f 0 p.0 p.1 refl in
    both_in s.tags b z (scalars_of s go p.1 (b + p.0)) (all_scalars s go ps b)
    (wider_in s.tags b p.0 w.extent z (scalars_of s go p.1 (b + p.0)) w.inside
    (scalars_in s go all h p.1 (b + p.0) w.extent w.type w.is))
    (places_in s go all h ps b z (λ j o u e. f (suc j) o u e))

tags_in : (d : ℕ) (s : State) → AllTags s.tags → TagsIn s (tag_scalars d s)
unfolding tag_scalars
tags_in zero s all n b z e = tt
tags_in (suc d) s all n b z e =
    places_in s (tag_scalars d s) all (tags_in d s all) (tag_places s.tags (slice_get s.tags n)) b z
    (λ j o u q. tag_place s.tags all n (slice_get s.tags n) z j o u refl e q)

-- a scalar without a value is zero
zero_kept : (k : IntKind) → wrapped k (pos 0) ≡ 0
unfolding wrapped reduced kept_of
zero_kept kind.Bool = refl
zero_kept kind.I8 = refl
zero_kept kind.U8 = refl
zero_kept kind.I16 = refl
zero_kept kind.U16 = refl
zero_kept kind.I32 = refl
zero_kept kind.U32 = refl
zero_kept kind.I64 = refl
zero_kept kind.U64 = refl

zero_fits : (t : Ty) → is_scalar t ≡ true → Rattle.c_tree.specs.WellTyped.ConstantFits (bare t) 0
zero_fits (Int k n) e = record { kept = zero_kept k }
zero_fits (Cap b) e = omega arith
zero_fits (Pointer t) e = omega arith
zero_fits t e = absurd (false≢true e)

-- what a variable is initialised with, in an object with an extent
pub record Initialises (s : State) (z : Extent) (x : Slot) : Type 0 where
  pub value : ValueOk true s x.value
  pub extent : Extent
  pub is : type_extent s.tags (type_of x.value) ≡ Some extent
  pub inside : x.at + extent.size ≤ z.size

abbrev pub AllInit : State → Extent → List Slot → Type 0
AllInit s z [] = Unit {0}
AllInit s z (x ∷ xs) = Initialises s z x × AllInit s z xs

init_both : (s : State) (z : Extent) (xs ys : List Slot) → AllInit s z xs → AllInit s z ys → AllInit s z (xs ++ ys)
init_both s z [] ys h k = k
init_both s z (x ∷ xs) ys h k = (h.0, init_both s z xs ys h.1 k)

found_or : (P : Slot → Type 0) (b : Bool) (y : Slot) (o : Option Slot) (x : Slot) → P y → (o ≡ Some x → P x) →
    Rattle.std.proofs.Common.cond b (Some y) o ≡ Some x → P x
found_or P true y o x h f e = subst P (same_Some y x e) h
found_or P false y o x h f e = f e

found_slot : (s : State) (z : Extent) (p : Slot → Bool) (slots : List Slot) (x : Slot) → AllSlots s 0 z slots →
    find p slots ≡ Some x → SlotOk s 0 z x
found_slot s z p [] x h e = absurd (none-some x e)
found_slot s z p (y ∷ ys) x h e = found_or (SlotOk s 0 z) (p y) y (find p ys) x h.0 (λ q. found_slot s z p ys x h.1 q) e

zero_slot_ok : (s : State) (whole : Pos) (z : Extent) (p : ℕ × Ty) → ScalarIn s.tags 0 z p →
    Initialises s z (zero_slot whole p)
zero_slot_ok s whole z p h = record {
  value = record { fits = (tt, (zero_fits p.1 h.kind, h.kind, h.type)); type = h.type; value = scalar h.kind };
  extent = h.extent;
  is = h.is;
  inside = omega (arith, h.inside);
}

slot_initialises : (s : State) (z : Extent) (x : Slot) → SlotOk s 0 z x → Initialises s z x
slot_initialises s z x h =
    record {
      value = h.value;
      extent = h.extent;
      is = ap (type_extent s.tags) h.type ∙ h.is;
      inside = omega (arith, h.inside);
    }

every_by : (s : State) (whole : Pos) (z : Extent) (slots : List Slot) → AllSlots s 0 z slots → (ps : List (ℕ × Ty)) →
    AllIn s.tags 0 z ps → AllInit s z (flat_map (λ p. scalar_slot whole p (find (covers s p.0) slots)) ps)
every_by s whole z slots h [] k = tt
every_by s whole z slots h (p ∷ ps) k =
    init_both s z (scalar_slot whole p (find (covers s p.0) slots))
    (flat_map (λ p. scalar_slot whole p (find (covers s p.0) slots)) ps)
    (one_slot (find (covers s p.0) slots) (λ x e. found_slot s z (covers s p.0) slots x h e) k.0)
    (every_by s whole z slots h ps k.1)
  where
    one_slot : (o : Option Slot) → ((x : Slot) → o ≡ Some x → SlotOk s 0 z x) → ScalarIn s.tags 0 z p →
        AllInit s z (scalar_slot whole p o)
    one_slot None f k = (zero_slot_ok s whole z p k, tt)
    one_slot (Some x) f k = branched (AllInit s z) (x.at == p.0) (x ∷ []) []
        (λ _. (slot_initialises s z x (f x refl), tt)) (λ _. tt)

pub every_ok : (s : State) (whole : Pos) (t : Ty) (z : Extent) (slots : List Slot) → AllTags s.tags → TypeOk s.tags t →
    type_extent s.tags t ≡ Some z → AllSlots s 0 z slots → AllInit s z (every_slot s whole t slots)
unfolding every_slot scalars
every_ok s whole t z slots all k e h =
    every_by s whole z slots h (scalars s t) (scalars_in s (tag_scalars (length s.tags) s) all
    (tags_in (length s.tags) s all) t 0 z k e)

-- ---- scalars

-- what a scalar is initialised with: a value of its type, as a whole
pub record IsWhole (t : Ty) (x : Slot) : Type 0 where
  pub at : x.at ≡ 0
  pub type : type_of x.value ≡ t

abbrev pub AllWhole : Ty → List Slot → Type 0
AllWhole t [] = Unit {0}
AllWhole t (x ∷ xs) = IsWhole t x × AllWhole t xs

found_of : (t : Ty) (p : Slot → Bool) (slots : List Slot) (x : Slot) → AllOf t slots → find p slots ≡ Some x → x.of ≡ t
found_of t p [] x h e = absurd (none-some x e)
found_of t p (y ∷ ys) x h e =
    found_or (λ (x : Slot). x.of ≡ t) (p y) y (find p ys) x h.0 (λ q. found_of t p ys x h.1 q) e

one_scalar : (s : State) (go : ℕ → ℕ → List (ℕ × Ty)) (t : Ty) → is_scalar (bare t) ≡ true →
    scalars_of s go t 0 ≡ (0, bare t) ∷ []
one_scalar s go (Int i n) c = refl
one_scalar s go (Cap b) c = refl
one_scalar s go (Pointer t) c = refl
one_scalar s go (Const (Int i n)) c = refl
one_scalar s go (Const (Cap b)) c = refl
one_scalar s go (Const (Pointer t)) c = refl
one_scalar s go t c = absurd (false≢true c)

pub every_whole : (s : State) (whole : Pos) (t : Ty) (z : Extent) (slots : List Slot) → AllSlots s 0 z slots →
    AllOf (bare t) slots → is_scalar (bare t) ≡ true → AllWhole (bare t) (every_slot s whole t slots)
unfolding every_slot scalars
every_whole s whole t z slots h k c =
    let give : List (ℕ × Ty) → List Slot =
    λ ps. flat_map (λ (p : ℕ × Ty). scalar_slot whole p (find (covers s p.0) slots)) ps in
    subst (λ ps. AllWhole (bare t) (give ps)) (sym (one_scalar s (tag_scalars (length s.tags) s) t c))
    (by (find (covers s 0) slots) (λ x e. (found_slot s z (covers s 0) slots x h e).type
    ∙ found_of (bare t) (covers s 0) slots x k e))
  where
    by : (o : Option Slot) → ((x : Slot) → o ≡ Some x → type_of x.value ≡ bare t) →
        AllWhole (bare t) (scalar_slot whole (0, bare t) o ++ [])
    by None f = (record { at = refl; type = refl }, tt)
    by (Some x) f = branched (λ ys. AllWhole (bare t) (ys ++ [])) (x.at == 0) (x ∷ []) []
        (λ q. (record { at = eqb-true x.at 0 q; type = f x refl }, tt)) (λ _. tt)

-- a scalar has no length to be filled in
pub scalar_count : (t : Ty) (n : ℕ) → is_scalar (bare (with_count t n)) ≡ true → with_count t n ≡ t
scalar_count (Array t zero) n c = absurd (false≢true c)
scalar_count (Array t (suc k)) n c = refl
scalar_count Void n c = refl
scalar_count (Int k m) n c = refl
scalar_count (Cap b) n c = refl
scalar_count (Pointer t) n c = refl
scalar_count (Tagged k) n c = refl
scalar_count (Function r ps) n c = refl
scalar_count (Const t) n c = refl
