-- For which function words are chosen, and where its temps are.
use Rattle.std.specs.Prelude.{◌≡◌, ℕ, ◌+◌, ◌*◌, ◌<◌, List, [], ◌∷◌, Option, Some, None, slice_get, length}
use Rattle.cap_machine.specs.Integers.{extended}
use Rattle.obj_mem.specs.declared.map.Frame.{Frame}
use Rattle.reg_alloc.specs.declared.places.Home as places
use Rattle.reg_alloc.specs.declared.places.Home.{Home}
use Rattle.purecap_abi.specs.Saving.{slots_at}
use Rattle.rv_instr.specs.declared.instr.Instr.{Instr}
use Rattle.tac_ir.specs.declared.code.LibOp.{LibOp}
use Rattle.tac_ir.specs.declared.code.LibOp.TheVariants as lib
use Rattle.tac_ir.specs.declared.code.Amount.{Amount}
use Rattle.tac_ir.specs.declared.code.Amount.TheVariants as amount
use Rattle.select_words.specs.Selecting.{Selecting}
use Rattle.select_words.specs.Emitted.{IsNumber, IsIn, IsSpilled}
use Rattle.select_words.specs.Heap.{Mallocs}
use Rattle.select_words.specs.Services.{Asks}
use Rattle.rv_select.specs.declared.function.Entries.{Entries}
use Rattle.rv_select.specs.declared.function.Function.{Function}
use Rattle.rv_select.specs.declared.homes.Place.{Place}
use Rattle.rv_select.specs.declared.homes.Place.TheVariants as place
use Rattle.rv_select.specs.declared.numbers.Written.{Written}
use Rattle.rv_select.specs.declared.numbers.Written.TheVariants as written
use Rattle.rv_emit.specs.Growing.{reach}

-- the number that is all that a temp holds
abbrev pub number_in : Option Written → Option ℕ
number_in (Some (written.Number v)) = Some (extended v)
number_in w = None

-- one with such homes and such a frame, that writes such to its temps
abbrev pub choosing : List Home → Frame → List Written → Entries → Selecting
choosing homes frame temps table = record {
  frame = Some frame;
  homes = homes;
  numbers = λ t. number_in (slice_get temps t);
  literals = table.literals;
  functions = table.functions;
  heap = table.heap;
}

-- words reach its homes: they are registers but x0, and slots that two words lead to
pub record AreReached (s : Selecting) : Type 0 where
  pub registers : (t r : ℕ) → IsIn s t r → (0 < r) × (r < 32)
  pub slots : (t at : ℕ) → IsSpilled s t at → at < reach

-- where a home is
abbrev pub HasHome : List Home → Frame → ℕ → Place → Type 0
HasHome homes frame t (place.Number v) = ⊥
HasHome homes frame t (place.Register r) = slice_get homes t ≡ Some (places.TheVariants.Register r)
HasHome homes frame t (place.Slot at) =
    (k : ℕ) × (slice_get homes t ≡ Some (places.TheVariants.Slot k)) × (at ≡ slots_at homes frame + 16 * k)

-- and where a temp is found
abbrev pub IsFound : Selecting → ℕ → Place → Type 0
IsFound s t (place.Number v) = IsNumber s t (extended v)
IsFound s t (place.Register r) = IsIn s t r
IsFound s t (place.Slot at) = IsSpilled s t at

-- ---- of the function at hand

abbrev pub chosen : Function → Selecting
chosen f = choosing f.places.now.homes f.frame.now f.written.now f.entries

-- words for a temp are chosen where it has a home that they reach
pub record Chooses (f : Function) (t : ℕ) : Type 0 where
  pub reached : AreReached (chosen f)
  pub homed : t < length f.places.now.homes

abbrev pub ChoosesSome : Function → Option ℕ → Type 0
ChoosesSome f None = Unit {0}
ChoosesSome f (Some t) = Chooses f t

abbrev pub ChoosesFirst : Function → List ℕ → Type 0
ChoosesFirst f [] = Unit {0}
ChoosesFirst f (t ∷ ts) = Chooses f t

abbrev pub ChoosesAmount : Function → Amount → Type 0
ChoosesAmount f (amount.Temp t) = Chooses f t
ChoosesAmount f (amount.Number n) = Unit {0}

-- a temp that is no number, and one that is no other than this
abbrev pub Stands : Selecting → ℕ → Type 0
Stands s t = s.numbers t ≡ None

abbrev pub IsOnly : Selecting → (t value : ℕ) → Type 0
IsOnly s t value = (n : ℕ) → IsNumber s t n → n ≡ value

-- ---- calls of the library

-- `malloc` has an argument, and words lead to the heap's entry
abbrev pub ReachesHeap : Function → LibOp → List ℕ → Type 0
ReachesHeap f lib.Malloc (a ∷ more) = 16 * f.entries.heap < reach
ReachesHeap f lib.Malloc [] = ⊥
ReachesHeap f op args = Unit {0}

abbrev pub ServiceWords : Selecting → LibOp → Option ℕ → List ℕ → List Instr → Type 0
ServiceWords s lib.PutChar to args words = Asks s args 1 to words
ServiceWords s lib.GetChar to args words = Asks s [] 2 to words
ServiceWords s lib.Exit to args words = Asks s args 3 None words
ServiceWords s lib.Malloc to (a ∷ more) words = Mallocs s a to words
ServiceWords s lib.Malloc to [] words = ⊥
