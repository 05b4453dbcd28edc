-- The entries of a table are stored, and stay as they are behind the pointers of globals.
use Rattle.std.proofs.Common.{◌≡◌, ℕ, zero, suc, ◌+◌, ◌*◌, ◌%◌, ◌<◌, ◌≤◌, true, List, [], ◌∷◌, ◌++◌, length, Some, refl}
use Rattle.std.proofs.Common.{sym, ap, ◌∙◌, arith, length-append}
use Rattle.std.specs.Prelude.{All, slice_get}
use Rattle.std.proofs.lemmas.List.Elements.{All-cons, All-nil}
use Rattle.tag_mem.specs.Areas.{Area, IsMemory, is_inside}
use Rattle.tag_mem.proofs.Laws.{is_inside-written}
use Rattle.elf_file.specs.declared.image.Reloc.{Reloc}
use Rattle.image_load.specs.State.{relocated}
use Rattle.obj_mem.specs.declared.map.Map.{Map}
use Rattle.obj_mem.specs.Agreement.{Paired}
use Rattle.obj_mem.specs.Legal.{ObjectNeed, Needs}
use Rattle.obj_mem.specs.Table.{Start, Holds, WholeHeap, pointer_to, pointers_to, sentries_from, table_starts}
use Rattle.obj_mem.specs.Table.{start_capability, addresses_of, object_base, heap_entry, function_entry}
use Rattle.obj_mem.specs.Values.{Int, Live, Fun, Raw}
use Rattle.cap_reloc.specs.Begins.{Begun, entries_from, relocation_of, IsRelocation, IsInside}
use Rattle.placement.proofs.Lists.{front_get, back_get}
use Rattle.place_inject.specs.Parts.{kept_at}
use Rattle.image_starts.proofs.Relocated.{bytes_of, stored, stored_memory, AreElsewhere, kept_behind, kept_here}

-- ---- where which entry stands

pointers_get : (ns : List ObjectNeed) (j k : ℕ) (n : ObjectNeed) → slice_get ns k ≡ Some n
    → slice_get (pointers_to ns j) k ≡ Some (pointer_to n (j + k))
pointers_get [] j k n e = absurd cc
pointers_get (o ∷ ns) j zero n e =
    let same : o ≡ n = cc in
    let at : j ≡ j + 0 = omega arith in
    ap (λ v. Some (pointer_to v j)) same ∙ ap (λ i. Some (pointer_to n i)) at
pointers_get (o ∷ ns) j (suc k) n e =
    let at : suc j + k ≡ j + suc k = omega arith in
    pointers_get ns (suc j) k n e ∙ ap (λ i. Some (pointer_to n i)) at

pointers_length : (ns : List ObjectNeed) (j : ℕ) → length (pointers_to ns j) ≡ length ns
pointers_length [] j = refl
pointers_length (n ∷ ns) j = ap suc (pointers_length ns (suc j))

pointers_join : (ns ms : List ObjectNeed) (j : ℕ)
    → pointers_to (ns ++ ms) j ≡ pointers_to ns j ++ pointers_to ms (j + length ns)
pointers_join [] ms j = let at : j ≡ j + 0 = omega arith in ap (pointers_to ms) at
pointers_join (n ∷ ns) ms j =
    let at : suc j + length ns ≡ j + suc (length ns) = omega arith in
    ap (λ t. pointer_to n j ∷ t) (pointers_join ns ms (suc j))
    ∙ ap (λ i. pointer_to n j ∷ (pointers_to ns (suc j) ++ pointers_to ms i)) at

sentries_get : (count j f : ℕ) → f < count → slice_get (sentries_from count j) f ≡ Some (Holds (Fun (j + f)))
sentries_get zero j f lt = absurd (omega arith)
sentries_get (suc n) j zero lt = let at : j ≡ j + 0 = omega arith in ap (λ i. Some (Holds (Fun i))) at
sentries_get (suc n) j (suc f) lt =
    let at : suc j + f ≡ j + suc f = omega arith in
    sentries_get n (suc j) f (omega arith) ∙ ap (λ i. Some (Holds (Fun i))) at

sentries_length : (count j : ℕ) → length (sentries_from count j) ≡ count
sentries_length zero j = refl
sentries_length (suc n) j = ap suc (sentries_length n (suc j))

module _ (n : Needs) where
  abbrev objects : List Start
  objects = pointers_to n.globals 0 ++ pointers_to n.literals (length n.globals)

  abbrev sentries : List Start
  sentries = sentries_from (length n.functions) 0

  objects_are : objects ≡ pointers_to (n.globals ++ n.literals) 0
  objects_are =
      let z : length n.globals ≡ 0 + length n.globals = omega arith in
      ap (λ j. pointers_to n.globals 0 ++ pointers_to n.literals j) z ∙ sym (pointers_join n.globals n.literals 0)

  objects_length : length objects ≡ length n.globals + length n.literals
  objects_length =
      ap length objects_are ∙ pointers_length (n.globals ++ n.literals) 0 ∙ length-append n.globals n.literals

  both_length : length (objects ++ sentries) ≡ heap_entry n
  both_length = omega (
    arith,
    length-append objects sentries,
    objects_length,
    sentries_length (length n.functions) 0,
  )

  pub starts_length : length (table_starts n) ≡ heap_entry n + 1
  starts_length = omega (arith, length-append (objects ++ sentries) (WholeHeap ∷ []), both_length)

  pub object_start : (k : ℕ) (need : ObjectNeed) → slice_get (n.globals ++ n.literals) k ≡ Some need
      → slice_get (table_starts n) k ≡ Some (pointer_to need k)
  object_start k need e =
      let z : 0 + k ≡ k = omega arith in
      front_get (objects ++ sentries) (WholeHeap ∷ []) k (pointer_to need k)
      (front_get objects sentries k (pointer_to need k)
      (ap (λ ss. slice_get ss k) objects_are ∙ pointers_get (n.globals ++ n.literals) 0 k need e
      ∙ ap (λ j. Some (pointer_to need j)) z))

  pub function_start : (f : ℕ) → f < length n.functions
      → slice_get (table_starts n) (function_entry n f) ≡ Some (Holds (Fun f))
  function_start f lt =
      let z : 0 + f ≡ f = omega arith in
      front_get (objects ++ sentries) (WholeHeap ∷ []) (function_entry n f) (Holds (Fun f))
      (ap (λ v. slice_get (objects ++ sentries) (v + f)) (sym objects_length) ∙ back_get objects sentries f
      ∙ sentries_get (length n.functions) 0 f lt ∙ ap (λ j. Some (Holds (Fun j))) z)

  pub heap_start : slice_get (table_starts n) (heap_entry n) ≡ Some WholeHeap
  heap_start =
      let at : heap_entry n ≡ length (objects ++ sentries) + 0 = omega (arith, both_length) in
      ap (slice_get (table_starts n)) at ∙ back_get (objects ++ sentries) (WholeHeap ∷ []) 0

-- ---- relocations

pub record Split {A B : Type 0} (R : A → B → Type 0) (xs ys : List A) (zs : List B) : Type 0 where
  pub front : List B
  pub back : List B
  pub is : zs ≡ front ++ back
  pub first : Paired R xs front
  pub second : Paired R ys back

pub split : {A B : Type 0} (R : A → B → Type 0) (xs ys : List A) (zs : List B) → Paired R (xs ++ ys) zs
    → Split R xs ys zs
split R [] ys zs h = record { front = []; back = zs; is = refl; first = tt; second = h }
split R (x ∷ xs) ys [] h = absurd h
split R (x ∷ xs) ys (z ∷ zs) h =
    let s = split R xs ys zs h.1 in
    record { front = z ∷ s.front; back = s.back; is = ap (λ t. z ∷ t) s.is; first = (h.0, s.first); second = s.second }

module _ (map : Map) where
  place_is : (at : ℕ) (s : Start) → (relocation_of map at s).place ≡ at
  unfolding relocation_of
  place_is at (Holds (Int n)) = refl
  place_is at (Holds (Live object low high offset permissions)) = refl
  place_is at (Holds (Fun f)) = refl
  place_is at (Holds (Raw address upper)) = refl
  place_is at WholeHeap = refl

  pub place_of : (b : Begun) (r : Reloc) → IsRelocation map b r → r.place ≡ b.place
  place_of b r h = ap (λ (x : Reloc). x.place) h.is ∙ place_is b.place b.start

  -- ---- the entries from a place on

  entries_above : (ss : List Start) (place low : ℕ) (rs : List Reloc) → low < place → place % 16 ≡ 0
      → Paired (IsRelocation map) (entries_from place ss) rs → AreElsewhere low rs
  unfolding entries_from
  entries_above [] place low [] lt even h = tt
  entries_above [] place low (r ∷ rs) lt even h = absurd h
  entries_above (s ∷ ss) place low [] lt even h = absurd h
  entries_above (s ∷ ss) place low (r ∷ rs) lt even h =
      let is = place_of (record { place = place; start = s }) r h.0 in (
        omega (arith, is),
        λ e. absurd (omega (arith, is, e)),
        entries_above ss (place + 16) low rs (omega arith) (omega arith) h.1,
      )

  pub entries_inside : (ss : List Start) (place from size : ℕ) (rs : List Reloc) → place % 16 ≡ 0 → from ≤ place
      → place + 16 * length ss ≤ from + size → Paired (IsRelocation map) (entries_from place ss) rs
      → All (IsInside from size) rs
  unfolding entries_from
  entries_inside [] place from size [] even low high h = All-nil (IsInside from size)
  entries_inside [] place from size (r ∷ rs) even low high h = absurd h
  entries_inside (s ∷ ss) place from size [] even low high h = absurd h
  entries_inside (s ∷ ss) place from size (r ∷ rs) even low high h =
      let is = place_of (record { place = place; start = s }) r h.0 in
      All-cons (IsInside from size) r rs
      (record { aligned = omega (arith, is); above = omega (arith, is); below = omega (arith, is) })
      (entries_inside ss (place + 16) from size rs (omega arith) (omega arith) (omega arith) h.1)

  pub entries_kept : (ss : List Start) (place : ℕ) (rs : List Reloc) (m : List Area)
      → Paired (IsRelocation map) (entries_from place ss) rs → IsMemory m → place % 16 ≡ 0
      → ((x : ℕ) → place ≤ x → x < place + 16 * length ss → is_inside m x ≡ true)
      → (k : ℕ) (s : Start) → slice_get ss k ≡ Some s
      → kept_at (relocated m rs) (place + 16 * k) ≡ Some (start_capability (addresses_of map) (object_base map) s)
  unfolding entries_from relocated
  entries_kept [] place rs m h memory even there k s e = absurd cc
  entries_kept (t ∷ ss) place [] m h memory even there k s e = absurd h
  entries_kept (t ∷ ss) place (r ∷ rs) m h memory even there zero s e =
      let same : t ≡ s = cc in
      let is = place_of (record { place = place; start = t }) r h.0 in
      let at : place + 16 * 0 ≡ r.place = omega (arith, is) in
      let aligned : r.place % 16 ≡ 0 = omega (arith, is) in
      let inside : is_inside m r.place ≡ true = there r.place (omega (arith, is)) (omega (arith, is)) in
      ap (kept_at (relocated (stored m r) rs)) at
      ∙ kept_behind r.place rs (stored m r) (stored_memory m r memory) aligned
      (entries_above ss (place + 16) r.place rs (omega (arith, is)) (omega arith) h.1)
      ∙ kept_here m r memory inside aligned
      ∙ ap (λ c. Some c) h.0.capability
      ∙ ap (λ v. Some (start_capability (addresses_of map) (object_base map) v)) same
  entries_kept (t ∷ ss) place (r ∷ rs) m h memory even there (suc k) s e =
      let at : place + 16 * suc k ≡ place + 16 + 16 * k = omega arith in
      ap (kept_at (relocated (stored m r) rs)) at
      ∙ entries_kept ss (place + 16) rs (stored m r) h.1 (stored_memory m r memory) (omega arith)
      (λ x low high. is_inside-written m r.place (bytes_of r) true x ∙ there x (omega arith) (omega arith)) k s e
