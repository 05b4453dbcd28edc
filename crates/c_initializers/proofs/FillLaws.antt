-- Values for the parts of an object.
use Rattle.std.proofs.Common.{◌≡◌, ℕ, zero, suc, ◌+◌, ◌-◌, ◌<◌, ◌≤◌, min, Bool, true, false, cond, not, List, [], ◌∷◌}
use Rattle.std.proofs.Common.{◌++◌, length, get_or, take, drop, map, Some, None, refl, sym, ap, subst, ◌∙◌, inl}
use Rattle.std.proofs.Common.{inr, arith, append_assoc}
use Rattle.std.specs.Prelude.{Option, slice_get, option_map, flat_map, find, position, nat_lt, nat_le, ◌&&◌, ◌==◌}
use Rattle.std.specs.Prelude.{if◌then◌else◌, pos}
use Rattle.std.specs.List.{All, position_or_len}
use Rattle.std.proofs.lemmas.Bool.{cases_lt}
use Rattle.std.proofs.lemmas.Bool.Decides.{nat_tests}
use Rattle.std.proofs.lemmas.Grind.{common_steps}
use Rattle.std.proofs.lemmas.List.{map_push, append-nil}
use Rattle.std.proofs.lemmas.List.Elements.{All-push}
use Rattle.std.proofs.lemmas.List.Folds.{find_at}
use Rattle.std.proofs.lemmas.Option.{slice_get_past, slice_get-get_or}
use Rattle.ck_base.specs.declared.positions.Pos.{Pos}
use Rattle.c_tree.specs.Types.{Ty}
use Rattle.ck_int.specs.Kinds.{wrapped}
use Rattle.c_tree.specs.Constants.{kind_of}
use Rattle.c_tree.specs.Terms.{Constant, leaf}
use Rattle.c_tree.specs.Readings as meant
use Rattle.c_tree.specs.Scopes.{State, give}
use Rattle.c_tree.specs.Initializers.{covers, scalar_slot, zero_slot, every_slot, scalars, byte_slots, taken, element}
use Rattle.c_tree.specs.Initializers.{array_count}
use Rattle.c_expressions.specs.declared.nodes.Nodes.{Nodes}
use Rattle.c_expressions.specs.Nodes.{IsWhole, Keeps, HasTerm, type_in, term_in, type_count, term_count}
use Rattle.c_expressions.proofs.Keeping.{keeps_same, keeps_then, refused}
use Rattle.c_expressions.proofs.Keeping as keeping
use Rattle.c_expressions.specs.Answers.{Given, Refuses}
use Rattle.c_initializers.specs.declared.slots.Slot.{Slot}
use Rattle.c_initializers.specs.declared.slots.Filled.{Filled}
use Rattle.c_plain_rules.specs.Place.{Place}
use Rattle.c_initializers.specs.declared.covering.Extent.{Extent}
use Rattle.c_initializers.specs.Covering.{covers_place}
use Rattle.c_initializers.specs.Slots.{slot_in, slots_in, IsSlotThere, AreSlotsThere, HasSlots, AddsSlots, chosen}
use Rattle.c_initializers.specs.Slots.{place_of, extent_of, scalars_given, IsFilledIn, string_filled, begins_at}
use Rattle.c_initializers.specs.Slots.{is_needed, needed}
use Rattle.c_initializers.specs.Slots.{HaveExtents, every_slot_of, SlotsThere, AreSlots}
use Rattle.c_plain_rules.specs.Members.{ArePartsOf}
use Rattle.c_elaborator.specs.declared.work.Work.{Work}
use Rattle.c_elaborator.specs.Answers.{Done, Quiet, quietly}
use Rattle.c_elaborator.specs.Work.{Shows}
use Rattle.c_elaborator.proofs.Growing.{quiet_nodes, shows_nodes}
use Rattle.c_elaborator.proofs.Sequencing.{still_same}
use Rattle.std.specs.Global.{Vec}
use Rattle.c_plain_rules.proofs.MemberLaws.{drop-next, shifted, slice_get-map}

-- ---- values that stay while the nodes grow

pub slot_kept : (m n : Nodes) (x : Slot) → Keeps m n → IsSlotThere m x → slot_in n x ≡ slot_in m x
slot_kept m n x k h =
    let a : type_in n x.of ≡ type_in m x.of = k.types x.of h.of in
    let b : term_in n x.value ≡ term_in m x.value = k.terms x.value h.value in
    cc

pub slot_there_kept : (m n : Nodes) (x : Slot) → Keeps m n → IsSlotThere m x → IsSlotThere n x
slot_there_kept m n x k h =
    let a : x.of < type_count m = h.of in
    let b : x.value < term_count m = h.value in
    let c : type_count m ≤ type_count n = k.more_types in
    let d : term_count m ≤ term_count n = k.more_terms in
    record { of = omega arith; value = omega arith }

all-tail : {X : Type 0} (P : X → Type 0) (x : X) (xs : List X) → All P (x ∷ xs) → All P xs
all-tail P x xs h = λ k d l. h (suc k) d (omega arith)

pub slots_kept : (m n : Nodes) (xs : List Slot) → Keeps m n → AreSlotsThere m xs → slots_in n xs ≡ slots_in m xs
slots_kept m n [] k h = refl
slots_kept m n (x ∷ xs) k h =
    let a : slot_in n x ≡ slot_in m x = slot_kept m n x k (h 0 x (omega arith)) in
    let b : slots_in n xs ≡ slots_in m xs = slots_kept m n xs k (all-tail (IsSlotThere m) x xs h) in
    cc

pub slots_there_kept : (m n : Nodes) (xs : List Slot) → Keeps m n → AreSlotsThere m xs → AreSlotsThere n xs
slots_there_kept m n xs k h = λ i d l. slot_there_kept m n _ k (h i d l)

-- one more value, where this is what all of them come to
pub slots-pushed : (m n : Nodes) (xs : List Slot) (x : Slot) (y : meant.Slot) (rest all : List meant.Slot) → Keeps m n →
    AreSlotsThere m xs → slot_in n x ≡ y → slots_in m xs ++ y ∷ rest ≡ all →
    slots_in n (xs ++ x ∷ []) ++ rest ≡ all
slots-pushed m n xs x y rest all k t h e =
    let f : slots_in n (xs ++ x ∷ []) ≡ slots_in m xs ++ y ∷ [] =
    map_push (slot_in n) xs x ∙ ap (λ ys. ys ++ slot_in n x ∷ []) (slots_kept m n xs k t)
    ∙ ap (λ z. slots_in m xs ++ z ∷ []) h in
    ap (λ ys. ys ++ rest) f ∙ sym (shifted (slots_in m xs) y rest) ∙ e

pub there-pushed : (m n : Nodes) (xs : List Slot) (x : Slot) → Keeps m n → AreSlotsThere m xs → IsSlotThere n x →
    AreSlotsThere n (xs ++ x ∷ [])
there-pushed m n xs x k t h = All-push (IsSlotThere n) xs x (slots_there_kept m n xs k t) h

-- ---- values that are added

pub adds-none : (m : Nodes) (xs : List Slot) → IsWhole m → AddsSlots m m xs xs []
adds-none m xs w = record { keeps = keeps_same m w; there = λ t. t; are = λ t. sym (append-nil (slots_in m xs)) }

pub adds-one : (m n : Nodes) (xs zs : List Slot) (x : Slot) (y : meant.Slot) → zs ≡ xs ++ x ∷ [] → Keeps m n →
    IsSlotThere n x → slot_in n x ≡ y → AddsSlots m n xs zs (y ∷ [])
adds-one m n xs zs x y e k t h = record {
  keeps = k;
  there = λ u. subst (λ (l : List Slot). AreSlotsThere n l) (sym e) (there-pushed m n xs x k u t);
  are = λ u. ap (slots_in n) e ∙ map_push (slot_in n) xs x ∙ ap (λ ys. ys ++ slot_in n x ∷ []) (slots_kept m n xs k u)
      ∙ ap (λ z. slots_in m xs ++ z ∷ []) h;
}

-- a zero
pub zero-is : (m n : Nodes) (p : Place) (value : ℕ) (whole : Pos) →
    HasTerm m n value (leaf (Constant 0) (type_in m p.of) whole) → p.of < type_count m →
    slot_in n (record { at = p.at; of = p.of; value = value; first = whole }) ≡ zero_slot whole (place_of m p)
zero-is m n p value whole h l =
    let a : type_in n p.of ≡ type_in m p.of = h.keeps.types p.of l in
    let b : term_in n value ≡ leaf (Constant 0) (type_in m p.of) whole = h.is.is in
    ap (λ t. (let y : meant.Slot = record { at = p.at; of = t; value = term_in n value; first = whole } in y)) a
    ∙ ap (λ t. (let y : meant.Slot = record { at = p.at; of = type_in m p.of; value = t; first = whole } in y)) b

pub zero-there : (m n : Nodes) (p : Place) (value : ℕ) (whole : Pos) →
    HasTerm m n value (leaf (Constant 0) (type_in m p.of) whole) → p.of < type_count m →
    IsSlotThere n (record { at = p.at; of = p.of; value = value; first = whole })
zero-there m n p value whole h l =
    record { of = let k : type_count m ≤ type_count n = h.keeps.more_types in omega arith; value = h.is.there }

pub chosen-at : (m : Nodes) (xs : List Slot) (k : ℕ) (d : Slot) → k < length xs →
    chosen (slots_in m xs) (Some k) ≡ Some (slot_in m (get_or xs k d))
chosen-at m xs k d l = slice_get-map (slot_in m) xs k ∙ ap (option_map (slot_in m)) (slice_get-get_or xs k d l)

-- one more scalar
pub scalars-more : (a m n : Nodes) (whole : Pos) (given : List meant.Slot) (es : List Extent) (places : List Place)
    (i : ℕ) (d : Place) (xs zs : List Slot) (all : List meant.Slot) → i < length places →
    AddsSlots m n xs zs (scalar_slot whole (place_of a (get_or places i d))
    (chosen given (position (covers_place (get_or places i d).at) es))) → AreSlotsThere m xs →
    slots_in m xs ++ scalars_given whole given es (map (place_of a) (drop i places)) ≡ all →
    slots_in n zs ++ scalars_given whole given es (map (place_of a) (drop (i + 1) places)) ≡ all
scalars-more a m n whole given es places i d xs zs all l h t e =
    let p = get_or places i d in
    let v = scalar_slot whole (place_of a p) (chosen given (position (covers_place p.at) es)) in
    let rest = scalars_given whole given es (map (place_of a) (drop (i + 1) places)) in
    ap (λ ys. ys ++ rest) (h.are t) ∙ append_assoc (slots_in m xs) v rest
    ∙ ap (λ ps. slots_in m xs ++ scalars_given whole given es (map (place_of a) ps)) (sym (drop-next places i d l)) ∙ e

-- the values that stand for the old nodes' are the same for the new ones
pub given_kept : (a m : Nodes) (given : List Slot) (p : Place) (es : List Extent) (whole : Pos) → Keeps a m →
    AreSlotsThere a given → p.of < type_count a →
    scalar_slot whole (place_of m p) (chosen (slots_in m given) (position (covers_place p.at) es))
    ≡ scalar_slot whole (place_of a p) (chosen (slots_in a given) (position (covers_place p.at) es))
given_kept a m given p es whole k t l =
    ap (λ u. scalar_slot whole (p.at, u) (chosen (slots_in m given) (position (covers_place p.at) es))) (k.types p.of l)
    ∙ ap (λ ys. scalar_slot whole (place_of a p) (chosen ys (position (covers_place p.at) es)))
    (slots_kept a m given k t)

-- ---- which value covers a scalar

abbrev spans : ℕ → ℕ × ℕ → Bool
spans at p = nat_le p.0 at && nat_lt at p.1

same-first : (s : State) (at : ℕ) (es : List Extent) (xs : List meant.Slot) →
    map (λ (e : Extent). (e.from, e.to)) es ≡ map (extent_of s) xs →
    position_or_len (covers_place at) es ≡ position_or_len (covers s at) xs
same-first s at [] [] h = refl
same-first s at [] (x ∷ xs) h = absurd cc
same-first s at (e ∷ es) [] h = absurd cc
same-first s at (e ∷ es) (x ∷ xs) h =
    let a : (e.from, e.to) ≡ extent_of s x = cc in
    let b : map (λ (e : Extent). (e.from, e.to)) es ≡ map (extent_of s) xs = cc in
    let r = same-first s at es xs b in
    let c : covers_place at e ≡ covers s at x = ap (spans at) a in
    ap (λ t. cond (not t) (1 + position_or_len (covers_place at) es) 0) c
    ∙ ap (λ n. cond (not (covers s at x)) (1 + n) 0) r

at-first : {A : Type 0} (xs : List A) (n : ℕ) → slice_get xs n ≡ chosen xs (cond (nat_lt n (length xs)) (Some n) None)
at-first xs n = by_value (nat_lt n (length xs)) refl
  where
    by_value : (b : Bool) → nat_lt n (length xs) ≡ b →
        slice_get xs n ≡ chosen xs (cond (nat_lt n (length xs)) (Some n) None)
    by_value true e = rw e refl
    by_value false e = let l : length xs ≤ n = grind (arith, nat_tests) in rw e (slice_get_past xs n l)

pub find-chosen : (s : State) (at : ℕ) (es : List Extent) (xs : List meant.Slot) → length es ≡ length xs →
    map (λ (e : Extent). (e.from, e.to)) es ≡ map (extent_of s) xs →
    find (covers s at) xs ≡ chosen xs (position (covers_place at) es)
find-chosen s at es xs l h =
    find_at (covers s at) xs ∙ at-first xs (position_or_len (covers s at) xs)
    ∙ ap (λ n. chosen xs (cond (nat_lt n (length xs)) (Some n) None)) (sym (same-first s at es xs h))
    ∙ ap (λ m. chosen xs (cond (nat_lt (position_or_len (covers_place at) es) m)
    (Some (position_or_len (covers_place at) es)) None)) (sym l)

flat_map-alike : {A B : Type 0} (f g : A → List B) (xs : List A) → ((x : A) → f x ≡ g x) → flat_map f xs ≡ flat_map g xs
flat_map-alike f g [] h = refl
flat_map-alike f g (x ∷ xs) h = let a = h x in let b = flat_map-alike f g xs h in cc

-- what every scalar gets
pub every_slot-is : (s : State) (whole : Pos) (t : Ty) (slots : List meant.Slot) (es : List Extent)
    (places : List (ℕ × Ty)) → length es ≡ length slots →
    map (λ (e : Extent). (e.from, e.to)) es ≡ map (extent_of s) slots → places ≡ scalars s t →
    every_slot s whole t slots ≡ flat_map (λ p. scalar_slot whole p (chosen slots (position (covers_place p.0) es)))
    places
unfolding every_slot
every_slot-is s whole t slots es places l h e =
    flat_map-alike (λ p. scalar_slot whole p (find (covers s p.0) slots))
    (λ p. scalar_slot whole p (chosen slots (position (covers_place p.0) es))) (scalars s t)
    (λ p. ap (scalar_slot whole p) (find-chosen s p.0 es slots l h))
    ∙ ap (flat_map (λ p. scalar_slot whole p (chosen slots (position (covers_place p.0) es)))) (sym e)

-- ---- the scalars that get a value

-- values begin where their bytes do
StartsSame : List Extent → List meant.Slot → Type 0
StartsSame es xs = (k : ℕ) → option_map (λ (e : Extent). e.from) (slice_get es k)
    ≡ option_map (λ (x : meant.Slot). x.at) (slice_get xs k)

starts-same : (s : State) (es : List Extent) (xs : List meant.Slot) →
    map (λ (e : Extent). (e.from, e.to)) es ≡ map (extent_of s) xs → StartsSame es xs
unfolding StartsSame
starts-same s [] [] h k = refl
starts-same s [] (x ∷ xs) h k = absurd cc
starts-same s (e ∷ es) [] h k = absurd cc
starts-same s (e ∷ es) (x ∷ xs) h zero =
    let a : (e.from, e.to) ≡ extent_of s x = cc in ap (λ (p : ℕ × ℕ). Some p.0) a
starts-same s (e ∷ es) (x ∷ xs) h (suc k) =
    let b : map (λ (e : Extent). (e.from, e.to)) es ≡ map (extent_of s) xs = cc in starts-same s es xs b k

-- any other scalar gets none
unneeded : (whole : Pos) (p : ℕ × Ty) (a : Option Extent) (b : Option meant.Slot) →
    option_map (λ (e : Extent). e.from) a ≡ option_map (λ (x : meant.Slot). x.at) b → begins_at p.0 a ≡ false →
    scalar_slot whole p b ≡ []
unneeded whole p None b h f = absurd cc
unneeded whole p (Some e) None h f = absurd cc
unneeded whole p (Some e) (Some x) h f =
    let i : e.from ≡ x.at = cc in
    ap (λ (t : Bool). if t then x ∷ [] else []) (sym (ap (λ (n : ℕ). n == p.0) i) ∙ f)

chosen-starts : (es : List Extent) (xs : List meant.Slot) (o : Option ℕ) → StartsSame es xs →
    option_map (λ (e : Extent). e.from) (chosen es o) ≡ option_map (λ (x : meant.Slot). x.at) (chosen xs o)
unfolding StartsSame
chosen-starts es xs None h = refl
chosen-starts es xs (Some k) h = h k

needed-given : (whole : Pos) (given : List meant.Slot) (es : List Extent) (ps : List (ℕ × Ty)) → StartsSame es given →
    scalars_given whole given es (needed es ps) ≡ scalars_given whole given es ps
needed-given whole given es [] h = refl
needed-given whole given es (p ∷ ps) h = by_need (needed-given whole given es ps h) (is_needed es p.0) refl
  where
    by_need : scalars_given whole given es (needed es ps) ≡ scalars_given whole given es ps → (b : Bool) →
        is_needed es p.0 ≡ b → scalars_given whole given es (if b then p ∷ needed es ps else needed es ps)
        ≡ scalars_given whole given es (p ∷ ps)
    by_need r true e = ap (λ ys. scalar_slot whole p (chosen given (position (covers_place p.0) es)) ++ ys) r
    by_need r false e =
        let o = position (covers_place p.0) es in
        r
        ∙ ap (λ ys. ys ++ scalars_given whole given es ps)
        (sym (unneeded whole p (chosen es o) (chosen given o) (chosen-starts es given o h) e))

-- ---- strings

pub taken-take : (n : ℕ) (bs : List ℕ) → taken n bs ≡ take n bs
taken-take zero bs = refl
taken-take (suc n) [] = refl
taken-take (suc n) (b ∷ bs) = ap (λ xs. b ∷ xs) (taken-take n bs)

pub taken-most : (n m : ℕ) (bs : List ℕ) → m ≡ min (length bs) n → taken n bs ≡ take m bs
taken-most n m bs e =
    elim (cases_lt n (length bs)) as (λ _. taken n bs ≡ take m bs) [
      | inl l ↦ let f : m ≡ n = omega arith in taken-take n bs ∙ ap (λ k. take k bs) (sym f)
      | inr l ↦ let f : take n bs ≡ bs = grind (arith, common_steps) in
          let g : take m bs ≡ bs = grind (arith, common_steps) in taken-take n bs ∙ f ∙ sym g
    ]

pub string-given : (old new : Nodes) (bytes : List ℕ) (q whole : Pos) (t : Ty) (at : ℕ) (f : Filled)
    (el room most : ℕ) → room ≡ (if array_count t == 0 then length bytes else array_count t) →
    nat_le (length bytes) (room + 1) ≡ true → most ≡ min (length bytes) room →
    type_in old el ≡ element t →
    HasSlots old new f.slots.items (byte_slots whole (type_in old el) at (take most bytes)) →
    f.count ≡ length bytes → Given old new (string_filled bytes q whole t at) IsFilledIn f
string-given old new bytes q whole t at f el room most r e m h g c =
    let n = (if array_count t == 0 then length bytes else array_count t) in
    let b : nat_le (length bytes) (n + 1) ≡ true = ap (λ k. nat_le (length bytes) (k + 1)) (sym r) ∙ e in
    let v : meant.Filled = record { slots = byte_slots whole (element t) at (taken n bytes); count = length bytes } in
    let same : slots_in new f.slots.items ≡ byte_slots whole (element t) at (taken n bytes) =
    g.are ∙ ap (λ u. byte_slots whole u at (take most bytes)) h
    ∙ ap (λ bs. byte_slots whole (element t) at bs)
    (sym (taken-most n most bytes (m ∙ ap (min (length bytes)) r))) in
    record {
      value = v;
      is = λ s. keeping.needed (nat_le (length bytes) (n + 1)) 133 q (give v) s b;
      keeps = g.keeps;
      shows = record {
        there = g.there;
        is = ap (λ ys. (let y : meant.Filled = record { slots = ys; count = length bytes } in y)) (sym same)
            ∙ ap (λ k. (let y : meant.Filled = record { slots = slots_in new f.slots.items; count = k } in y))
            (sym c);
      };
    }

pub string-refused : (bytes : List ℕ) (q whole : Pos) (t : Ty) (at room : ℕ) →
    room ≡ (if array_count t == 0 then length bytes else array_count t) → nat_le (length bytes) (room + 1) ≡ false →
    Refuses (string_filled bytes q whole t at) 133 q
string-refused bytes q whole t at room r e =
    let n = (if array_count t == 0 then length bytes else array_count t) in
    let b : nat_le (length bytes) (n + 1) ≡ false = ap (λ k. nat_le (length bytes) (k + 1)) (sym r) ∙ e in
    refused (nat_le (length bytes) (n + 1)) 133 q
    (give (record { slots = byte_slots whole (element t) at (taken n bytes); count = length bytes })) b

pub no-slots : (n : Nodes) (xs : List Slot) → xs ≡ [] → AreSlotsThere n xs
no-slots n xs e = subst (λ (l : List Slot). AreSlotsThere n l) (sym e) (λ k d l. absurd (omega arith))

-- one more byte
pub record BytesTo (a n : Nodes) (whole : Pos) (t : Ty) (place : ℕ) (rest : List ℕ) (zs : List Slot)
    (all : List meant.Slot) : Type 0 where
  pub keeps : Keeps a n
  pub there : AreSlotsThere n zs
  pub are : slots_in n zs ++ byte_slots whole t place rest ≡ all

pub bytes-more : (a m n : Nodes) (whole : Pos) (of number value : ℕ) (bytes : List ℕ) (i place next : ℕ)
    (xs zs : List Slot) (all : List meant.Slot) → i < length bytes → of < type_count a →
    BytesTo a m whole (type_in a of) place (drop i bytes) xs all →
    HasTerm m n value (leaf (Constant number) (type_in m of) whole) →
    number ≡ wrapped (kind_of (type_in a of)) (pos (get_or bytes i 0)) →
    zs ≡ xs ++ record { at = place; of = of; value = value; first = whole } ∷ [] → next ≡ place + 1 →
    BytesTo a n whole (type_in a of) next (drop (i + 1) bytes) zs all
bytes-more a m n whole of number value bytes i place next xs zs all l o h g e z q =
    let t = type_in a of in
    let x : Slot = record { at = place; of = of; value = value; first = whole } in
    let y : meant.Slot = record {
      at = place;
      of = t;
      value = leaf (Constant (wrapped (kind_of t) (pos (get_or bytes i 0)))) t whole;
      first = whole;
    } in
    let more : type_count a ≤ type_count m = h.keeps.more_types in
    let more' : type_count m ≤ type_count n = g.keeps.more_types in
    let tm : type_in m of ≡ t = h.keeps.types of o in
    let tn : type_in n of ≡ t = g.keeps.types of (omega arith) ∙ tm in
    let v : term_in n value ≡ leaf (Constant (wrapped (kind_of t) (pos (get_or bytes i 0)))) t whole =
    g.is.is ∙ ap (λ u. leaf (Constant number) u whole) tm ∙ ap (λ k. leaf (Constant k) t whole) e in
    let s : slot_in n x ≡ y =
    ap (λ u. (let q : meant.Slot = record { at = place; of = u; value = term_in n value; first = whole } in q)) tn
    ∙ ap (λ u. (let q : meant.Slot = record { at = place; of = t; value = u; first = whole } in q)) v in
    let d : byte_slots whole t place (drop i bytes) ≡ y ∷ byte_slots whole t (place + 1) (drop (i + 1) bytes) =
    ap (byte_slots whole t place) (drop-next bytes i 0 l) in
    let r : BytesTo a n whole t (place + 1) (drop (i + 1) bytes) zs all = record {
      keeps = keeps_then a m n h.keeps g.keeps;
      there = subst (λ (l : List Slot). AreSlotsThere n l) (sym z)
          (there-pushed m n xs x g.keeps h.there (record { of = omega arith; value = g.is.there }));
      are = ap (λ l. slots_in n l ++ byte_slots whole t (place + 1) (drop (i + 1) bytes)) z
          ∙ slots-pushed m n xs x y (byte_slots whole t (place + 1) (drop (i + 1) bytes)) all g.keeps h.there s
          (ap (λ r. slots_in m xs ++ r) (sym d) ∙ h.are);
    }
    in subst (λ k. BytesTo a n whole t k (drop (i + 1) bytes) zs all) (sym q) r

-- ---- the whole object

length-slots : (n : Nodes) (xs : List Slot) → length (slots_in n xs) ≡ length xs
length-slots n [] = refl
length-slots n (x ∷ xs) = ap suc (length-slots n xs)

-- what was elaborated is the same with another count of scalars
quiet-counted : (w v : Work) (k : ℕ) → Quiet w v → Quiet w (record v { scalars = k })
quiet-counted w v k q = record {
  keeps = record {
    more_types = q.keeps.more_types;
    more_terms = q.keeps.more_terms;
    more_actions = q.keeps.more_actions;
    types = q.keeps.types;
    terms = q.keeps.terms;
    values = q.keeps.values;
    actions = q.keeps.actions;
    file = q.keeps.file;
    tree = q.keeps.tree;
  };
  literals = q.literals;
  uses = q.uses;
  addressed = q.addressed;
  fillings = q.fillings;
  definitions = q.definitions;
  waiting = q.waiting;
}

shows-counted : (w : Work) (k : ℕ) (s : State) → Shows w s → Shows (record w { scalars = k }) s
shows-counted w k s h = record {
  stands = h.stands;
  texts = h.texts;
  used_objects = h.used_objects;
  used_functions = h.used_functions;
  addressed = h.addressed;
  fillings = h.fillings;
  definitions = h.definitions;
  waiting = h.waiting;
  closed = record {
    file = h.closed.file;
    members = h.closed.members;
    values = h.closed.values;
    uses = h.closed.uses;
    addressed = h.closed.addressed;
    fillings = h.closed.fillings;
    definitions = λ j d g. let t = h.closed.definitions j d g in
        record { function = t.function; body = t.body; vars = t.vars };
  };
}

pub every-slot : (w : Work) (n : Nodes) (k : ℕ) (whole : Pos) (of : ℕ) (slots : List Slot) (es fs gs : List Extent)
    (places others : List Place) (out : Vec Slot) → HaveExtents w slots es →
    ArePartsOf w places (λ s. needed gs (scalars s (type_in w.nodes of))) → fs ≡ es → gs ≡ es → others ≡ places →
    HasSlots w.nodes n out.items (scalars_given whole (slots_in w.nodes slots) fs (map (place_of w.nodes) others)) →
    Done quietly w (record w { nodes = n; scalars = k })
    (every_slot_of whole (type_in w.nodes of) (slots_in w.nodes slots))
    (SlotsThere (record w { nodes = n; scalars = k }) out) (AreSlots (record w { nodes = n; scalars = k }) out)
every-slot w n count whole of slots es fs gs places others out e p f g o h =
    let given = slots_in w.nodes slots in
    let t = type_in w.nodes of in
    let l : length es ≡ length given = e.0 ∙ sym (length-slots w.nodes slots) in
    let r : slots_in n out.items ≡ scalars_given whole given es (map (place_of w.nodes) places) =
    h.are ∙ ap (λ xs. scalars_given whole given xs (map (place_of w.nodes) others)) f
    ∙ ap (λ ps. scalars_given whole given es (map (place_of w.nodes) ps)) o in
    record {
      whole = h.keeps.whole;
      grows = quiet-counted w (record w { nodes = n }) count (quiet_nodes w n h.keeps);
      there = h.there;
      gives = λ s k. record {
        value = every_slot s whole t given;
        state = s;
        is = refl;
        stays = still_same s;
        shows = shows-counted (record w { nodes = n }) count s (shows_nodes w n s h.keeps k);
        fits = every_slot-is s whole t given es (scalars s t) l (e.1 s k) refl
            ∙ sym (needed-given whole given es (scalars s t) (starts-same s es given (e.1 s k)))
            ∙ ap (λ xs. scalars_given whole given es (needed xs (scalars s t))) (sym g)
            ∙ ap (scalars_given whole given es) (sym (p.are s k)) ∙ sym r;
      };
    }
