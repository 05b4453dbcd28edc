-- The table's entries are read back.
use Rattle.std.proofs.Common.{◌≡◌, ℕ, ◌+◌, ◌*◌, ◌%◌, ◌<◌, ◌^◌, true, ℤ, List, [], ◌∷◌, ◌++◌, length, refl, sym, ap, ◌∙◌}
use Rattle.std.proofs.Common.{arith, Option, Some}
use Rattle.std.specs.Prelude.{slice_get}
use Rattle.std.proofs.lemmas.List.{length-append}
use Rattle.std.proofs.lemmas.Option.{slice_get_within, slice_get-get_or}
use Rattle.cap_ops.specs.declared.capability.Cap.{Cap}
use Rattle.cap_ops.specs.declared.capability.TheConstants.{UNSEALED}
use Rattle.cap_ops.specs.Bounded.{bounded}
use Rattle.cap_machine.specs.declared.machine.Machine.{Machine}
use Rattle.cap_machine.specs.State.{register}
use Rattle.cap_machine.specs.Rows.{plus, set, clc_row}
use Rattle.obj_mem.specs.Legal.{ObjectNeed, IsLegal, AreAligned, owned_of}
use Rattle.obj_mem.specs.Objects.{Shape, base_in, owned_of_shape, whole_pointer}
use Rattle.obj_mem.specs.Pointers.{keeps}
use Rattle.obj_mem.specs.Table.{addresses_of, object_base, heap_entry, function_entry}
use Rattle.obj_mem.specs.Values.{Live, Fun, Addresses, capability_of}
use Rattle.cheri_c_sem.specs.Modes.{Store}
use Rattle.cheri_c_sem.specs.Steps.{State}
use Rattle.place_inject.specs.Parts.{kept_at}
use Rattle.place_inject.specs.Frames.{Setting, Point, IsAt}
use Rattle.place_inject.specs.Fits.{Fits}
use Rattle.place_inject.specs.Tables.{TableIsThere, TableReadsBack, EntriesAreRead, table_pointer, table_top}
use Rattle.place_inject.proofs.Elsewhere.{kept_same}
use Rattle.place_inject.proofs.Known.{base_is}
use Rattle.place_inject.proofs.ReadBack.{loads_kept}

-- ---- one base for each object

pub as_many : (needs : List ObjectNeed) (bases : List ℕ) → AreAligned needs bases → length needs ≡ length bases
as_many [] [] h = refl
as_many [] (b ∷ bs) h = absurd h
as_many (n ∷ ns) [] h = absurd h
as_many (n ∷ ns) (b ∷ bs) h = let r = as_many ns bs h.1 in omega (arith, r)

-- a pointer by the bases of its object in two ways
live_alike : (a : Addresses) (b c : ℕ → ℕ) (object low high offset permissions : ℕ) → b object ≡ c object
    → capability_of a b (Live object low high offset permissions) ≡ capability_of a c
    (Live object low high offset permissions)
unfolding capability_of
live_alike a b c object low high offset permissions e =
    ap (λ x. bounded (x + low) (x + high) permissions UNSEALED ((x + offset) % 2 ^ 64)) e

fun_alike : (a : Addresses) (b c : ℕ → ℕ) (f : ℕ) → capability_of a b (Fun f) ≡ capability_of a c (Fun f)
unfolding capability_of
fun_alike a b c f = refl

module _ (s : Setting) (legal : IsLegal s.needs s.map) (loaded : TableIsThere s) (p : Option Point) (t : State Store)
    (m : Machine)
    (f : Fits s p t m) where
  abbrev shapes : List Shape
  shapes = t.mem.memory.shapes

  -- the entries before that of the heap are as loaded
  as_loaded : (k : ℕ) → k < heap_entry s.needs → kept_at m.mem (s.map.table.0 + 16 * k) ≡ kept_at s.loaded.mem
      (s.map.table.0 + 16 * k)
  as_loaded k l =
      let aligned = legal.table_aligned in
      kept_same s.map.table.0 (16 * heap_entry s.needs) (s.map.table.0 + 16 * k) s.loaded.mem m.mem loaded.areas
      f.objects.areas
      f.table.before (omega arith) (omega arith) (omega arith)

  bases_as_many : length (s.needs.globals ++ s.needs.literals) ≡ length (s.map.globals ++ s.map.literals)
  bases_as_many =
      let g = as_many s.needs.globals s.map.globals legal.globals in
      let l = as_many s.needs.literals s.map.literals legal.literals in
      length-append s.needs.globals s.needs.literals ∙ omega (arith, g, l) ∙ sym
      (length-append s.map.globals s.map.literals)

  object_below : (k : ℕ) (need : ObjectNeed) → slice_get (s.needs.globals ++ s.needs.literals) k ≡ Some need
      → k < heap_entry s.needs
  object_below k need has =
      let l = slice_get_within (s.needs.globals ++ s.needs.literals) k need has in
      omega (arith, l, length-append s.needs.globals s.needs.literals)

  -- a global or a literal stands where the map says
  pub object_stands : (k : ℕ) (need : ObjectNeed) → slice_get (s.needs.globals ++ s.needs.literals) k ≡ Some need
      → IsAt shapes k need (object_base s.map k)
  object_stands k need has =
      let l = slice_get_within (s.needs.globals ++ s.needs.literals) k need has in
      f.globals.each k (object_base s.map k) need
      (slice_get-get_or (s.map.globals ++ s.map.literals) k 0 (omega (arith, l, bases_as_many))) has

  whole_is : (k : ℕ) (need : ObjectNeed) → slice_get (s.needs.globals ++ s.needs.literals) k ≡ Some need
      → capability_of (addresses_of s.map) (object_base s.map) (Live k 0 (owned_of need) 0 need.permissions)
      ≡ capability_of (addresses_of s.map) (base_in shapes) (whole_pointer shapes k need.permissions)
  whole_is k need has =
      let i = object_stands k need has in
      let based = f.objects.spread.placed k i.shape i.there in
      let owned : owned_of_shape (slice_get shapes k) ≡ owned_of need =
      ap owned_of_shape i.there ∙ based.owned_is ∙ ap Rattle.cap_concentrate.specs.Rounding.owned i.length in
      live_alike (addresses_of s.map) (object_base s.map) (base_in shapes) k 0 (owned_of need) 0 need.permissions
      (sym (base_is shapes k i.shape i.there ∙ i.base_is))
      ∙ ap (λ n. capability_of (addresses_of s.map) (base_in shapes) (Live k 0 n 0 need.permissions)) (sym owned)

  module _ (n : Machine) (same : n.mem ≡ m.mem) (to from y : ℕ) (z : ℤ) (holds : register n from ≡ table_pointer s y)
      (keep : keeps s.map.table.0 (table_top s) y ≡ true) where
    entry : (k : ℕ) → k < heap_entry s.needs → plus y z ≡ s.map.table.0 + 16 * k → (d : Cap)
        → kept_at s.loaded.mem (s.map.table.0 + 16 * k) ≡ Some d → clc_row n to from z ≡ set n to d
    entry k l place d kept =
        let room = f.table.room in
        let aligned = legal.table_aligned in
        loads_kept s.map.table.0 (table_top s) y (s.map.table.0 + 16 * k) n to from z d holds keep place (omega arith)
        (omega arith) (omega arith) (ap (λ x. kept_at x (s.map.table.0 + 16 * k)) same ∙ as_loaded k l ∙ kept)

    entries : EntriesAreRead s t n to from z (plus y z)
    entries = record {
      objects = λ k need has place. entry k (object_below k need has) place _ (loaded.objects k need has)
          ∙ ap (set n to) (whole_is k need has);
      functions = λ g l place. entry (function_entry s.needs g) (omega (arith, l)) place _ (loaded.functions g l)
          ∙ ap (set n to) (fun_alike (addresses_of s.map) (object_base s.map) (base_in shapes) g);
    }

pub table_reads_back_law : TableReadsBack
table_reads_back_law s legal loaded p t m f n same to from y z holds keep =
    entries s legal loaded p t m f n same to from y z holds keep
