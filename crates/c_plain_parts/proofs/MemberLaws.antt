-- The members of structs and unions, one after another.
use Rattle.std.proofs.Common.{◌≡◌, ℕ, zero, suc, ◌+◌, ◌-◌, ◌<◌, min, List, [], ◌∷◌, ◌++◌, length, get_or, take, drop}
use Rattle.std.proofs.Common.{drop-cons, add-one, map, Option, Some, None, Result, Ok, Err, refl, sym, ap, ◌∙◌, inl}
use Rattle.std.proofs.Common.{inr, arith, append_assoc}
use Rattle.std.specs.Prelude.{slice_get, option_map, IfOk}
use Rattle.std.specs.Global.{Vec}
use Rattle.ck_base.specs.declared.refusal.NoMemory.{NoMemory}
use Rattle.std.proofs.lemmas.Bool.{cases_lt}
use Rattle.std.proofs.lemmas.Grind.{common_steps}
use Rattle.std.proofs.lemmas.List.{map_push}
use Rattle.cap_layout.specs.Answers.{extent_is}
use Rattle.cap_layout.specs.declared.answers.Layout.{Layout}
use Rattle.c_tree.specs.declared.syntax.RecordKind.{RecordKind}
use Rattle.c_tree.specs.declared.syntax.RecordKind.TheVariants.{Struct, Union}
use Rattle.c_tree.specs.declared.typed.Member.{Member}
use Rattle.c_tree.specs.Types.{Ty}
use Rattle.c_tree.specs.Layout.{Extent, member_offset, behind, no_members}
use Rattle.c_tree.specs.Scopes.{State, TagState, type_extent}
use Rattle.c_tree.specs.Initializers.{or_none, next_within}
use Rattle.c_expressions.specs.Nodes.{type_in}
use Rattle.c_elaborator.specs.declared.work.Work.{Work}
use Rattle.c_plain_parts.specs.declared.members.Place.{Place}
use Rattle.c_plain_parts.specs.declared.members.Next.{Next}
use Rattle.c_plain_parts.specs.declared.members.Record.{Record}
use Rattle.c_plain_parts.specs.Members.{place_in, numbered_places, places_in, IsRecord, AreMembers, AreFirstMembers}

-- ---- lists

pub slice_get-map : {A B : Type 0} (f : A → B) (xs : List A) (k : ℕ) →
    slice_get (map f xs) k ≡ option_map f (slice_get xs k)
slice_get-map f [] k = refl
slice_get-map f (x ∷ xs) zero = refl
slice_get-map f (x ∷ xs) (suc k) = slice_get-map f xs k

pub drop-next : {A : Type 0} (xs : List A) (i : ℕ) (d : A) → i < length xs → drop i xs ≡ get_or xs i d ∷ drop (i + 1) xs
drop-next xs i d l = rw add-one (drop-cons xs i d l)

pub shifted : {A : Type 0} (xs : List A) (x : A) (ys : List A) → xs ++ x ∷ ys ≡ (xs ++ x ∷ []) ++ ys
shifted xs x ys = sym (append_assoc xs (x ∷ []) ys)

-- ---- members

-- how far a walk over the members of a struct has come
abbrev pub PlacedTo : Work → State → List Member → ℕ → Layout → List Place → Type 0
PlacedTo w s ms i end places =
    numbered_places w s.tags ms no_members ≡ map (place_in w) places
    ++ numbered_places w s.tags (drop i ms) (extent_is end)

pub placed-more : (w : Work) (s : State) (ms : List Member) (i : ℕ) (d : Member) (end : Layout) (n : Next)
    (places : List Place) (y : Extent) → i < length ms →
    next_within (extent_is end) (type_extent s.tags (type_in w.nodes (get_or ms i d).of)) ≡ Some y →
    place_in w n.place ≡ (member_offset y (extent_is end), type_in w.nodes (get_or ms i d).of) →
    extent_is n.end ≡ behind y (extent_is end) →
    PlacedTo w s ms i end places → PlacedTo w s ms (i + 1) n.end (places ++ n.place ∷ [])
placed-more w s ms i d end n places y l x p b h =
    let m = get_or ms i d in
    let f : numbered_places w s.tags (m ∷ drop (i + 1) ms) (extent_is end)
    ≡ (member_offset y (extent_is end), type_in w.nodes m.of)
    ∷ numbered_places w s.tags (drop (i + 1) ms) (behind y (extent_is end)) =
    ap (λ o. or_none o (λ y. (member_offset y (extent_is end), type_in w.nodes m.of)
    ∷ numbered_places w s.tags (drop (i + 1) ms) (behind y (extent_is end)))) x in
    let q : numbered_places w s.tags (drop i ms) (extent_is end)
    ≡ place_in w n.place ∷ numbered_places w s.tags (drop (i + 1) ms) (extent_is n.end) =
    ap (λ l. numbered_places w s.tags l (extent_is end)) (drop-next ms i d l) ∙ f
    ∙ ap (λ z. z ∷ numbered_places w s.tags (drop (i + 1) ms) (behind y (extent_is end))) (sym p)
    ∙ ap (λ z. place_in w n.place ∷ numbered_places w s.tags (drop (i + 1) ms) z) (sym b) in
    h ∙ ap (λ r. map (place_in w) places ++ r) q
    ∙ shifted (map (place_in w) places) (place_in w n.place)
    (numbered_places w s.tags (drop (i + 1) ms) (extent_is n.end))
    ∙ ap (λ r. r ++ numbered_places w s.tags (drop (i + 1) ms) (extent_is n.end))
    (sym (map_push (place_in w) places n.place))

-- the first so many members have the same places without the others
stepped : (o : Option Extent) (f g : Extent → List (ℕ × Ty)) (k : ℕ) →
    ((y : Extent) → slice_get (f y) k ≡ slice_get (g y) k) → slice_get (or_none o f) k ≡ slice_get (or_none o g) k
stepped None f g k h = refl
stepped (Some y) f g k h = h y

numbered-front : (w : Work) (tags : List TagState) (ms : List Member) (x : Extent) (n k : ℕ) → k < n →
    slice_get (numbered_places w tags (take n ms) x) k ≡ slice_get (numbered_places w tags ms x) k
numbered-front w tags ms x zero k h = absurd (omega arith)
numbered-front w tags [] x (suc n) k h = refl
numbered-front w tags (m ∷ ms) x (suc n) zero h =
    stepped (next_within x (type_extent tags (type_in w.nodes m.of)))
    (λ y. (member_offset y x, type_in w.nodes m.of) ∷ numbered_places w tags (take n ms) (behind y x))
    (λ y. (member_offset y x, type_in w.nodes m.of) ∷ numbered_places w tags ms (behind y x)) 0 (λ y. refl)
numbered-front w tags (m ∷ ms) x (suc n) (suc k) h =
    stepped (next_within x (type_extent tags (type_in w.nodes m.of)))
    (λ y. (member_offset y x, type_in w.nodes m.of) ∷ numbered_places w tags (take n ms) (behind y x))
    (λ y. (member_offset y x, type_in w.nodes m.of) ∷ numbered_places w tags ms (behind y x)) (suc k)
    (λ y. numbered-front w tags ms (behind y x) n k (omega arith))

places-front : (w : Work) (tags : List TagState) (kind : RecordKind) (ms : List Member) (n k : ℕ) → k < n →
    slice_get (places_in w tags kind (take n ms)) k ≡ slice_get (places_in w tags kind ms) k
places-front w tags Struct ms n k h = numbered-front w tags ms no_members n k h
places-front w tags Union ms zero k h = absurd (omega arith)
places-front w tags Union [] (suc n) k h = refl
places-front w tags Union (m ∷ ms) (suc n) k h = refl

pub places-first : (w : Work) (tags : List TagState) (kind : RecordKind) (ms : List Member) (n m k : ℕ) →
    m ≡ min (length ms) n → k < n →
    slice_get (places_in w tags kind (take m ms)) k ≡ slice_get (places_in w tags kind ms) k
places-first w tags kind ms n m k e h =
    elim (cases_lt k (length ms)) as (λ _. slice_get (places_in w tags kind (take m ms)) k
    ≡ slice_get (places_in w tags kind ms) k) [
      | inl l ↦ places-front w tags kind ms m k (omega arith)
      | inr l ↦ let f : take m ms ≡ ms = grind (arith, common_steps) in
          ap (λ xs. slice_get (places_in w tags kind xs) k) f
    ]

-- ---- the members of a struct or union by its tag

pub first-members : (w : Work) (tag count m : ℕ) (r : Record) (o : Result (Vec Place) NoMemory) →
    IsRecord w tag (Some r) → m ≡ min (length r.members.now) count →
    IfOk o (λ places. AreMembers w r.kind (take m r.members.now) places.items) →
    IfOk o (λ places. AreFirstMembers w tag count places.items)
first-members w tag count m r (Ok v) i e a = record {
  there = a.there;
  are = λ s h k l. ap (λ xs. slice_get xs k) ((i s h).places)
      ∙ sym (places-first w s.tags r.kind r.members.now count m k e l) ∙ ap (λ xs. slice_get xs k) (sym (a.are s h))
      ∙ slice_get-map (place_in w) v.items k;
}
first-members w tag count m r (Err e) i f a = tt
