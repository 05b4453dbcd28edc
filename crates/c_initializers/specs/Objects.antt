-- What objects and locals get from what their initializers give.
use Rattle.std.specs.Prelude.{◌≡◌, ℕ, ◌<◌, List, Some, slice_get}
use Rattle.ck_base.specs.declared.positions.Pos.{Pos}
use Rattle.ck_base.specs.Tokens.{Lexeme}
use Rattle.c_tree.specs.Types.{Ty}
use Rattle.c_tree.specs.Readings.{Slot, Filled}
use Rattle.c_tree.specs.Scopes.{Local, StaticState, State, Aiming, Doing, give, look, change, ◌>>=◌, ◌>>◌, bind_name}
use Rattle.c_tree.specs.Scopes.{changed_at, change_static}
use Rattle.c_tree.specs.Initializers.{every_slot, with_count}
use Rattle.c_tree.specs.Statics.{Found, start_slots, initial_bytes}
use Rattle.c_tree.specs.Declarations.{complete_now, static_of}
use Rattle.c_elaborator.specs.declared.work.Filling.{Filling}

-- ---- an object of static storage duration

-- its type, where its initializer gives so many elements
abbrev pub counted : ℕ → StaticState → StaticState
counted n g = record g { of = with_count g.of n }

abbrev pub completes_object : ℕ → ℕ → Doing Unit
completes_object k n = change (change_static k (λ g. record g { of = with_count g.of n }))

-- it is complete then, and within the limit
abbrev pub object_complete : ℕ → Pos → Doing Unit
object_complete k p = look >>= λ s. complete_now (static_of (slice_get s.statics k)) p

-- its initial bytes and pointers
abbrev pub filled : List ℕ → List Aiming → StaticState → StaticState
filled bytes starts g = record g { initial = Some (bytes, starts) }

abbrev pub fills_object : ℕ → List ℕ → List Aiming → Doing Unit
fills_object k bytes starts = change (change_static k (λ g. record g { initial = Some (bytes, starts) }))

abbrev pub fills_found : ℕ → Found → Doing Unit
fills_found k found = fills_object k (initial_bytes found.0 found.1) found.1

-- an object gets what its initializer gives
abbrev pub static_filled : ℕ → Pos → Filled → Doing Unit
static_filled k p f =
    change (change_static k (λ g. record g { of = with_count g.of f.count })) >>
    start_slots f.slots >>= λ found. look >>= λ s.
    complete_now (static_of (slice_get s.statics k)) p >>
    change (change_static k (λ g. record g { initial = Some (initial_bytes found.0 found.1, found.1) }))

-- initial values are of objects that are there
abbrev pub AreBelow : ℕ → List Filling → Type 0
AreBelow n fs = (j : ℕ) (x : Filling) → slice_get fs j ≡ Some x → x.object < n

-- ---- a local

-- it gets another type, and its name denotes it with that
abbrev pub local_completed : ℕ → Ty → List ℕ → State → State
local_completed k u name s =
    bind_name name (Local k u) (record s { locals = changed_at (λ v. record v { of = u }) s.locals k })

abbrev pub completes_local : ℕ → Ty → List ℕ → Doing Ty
completes_local k u name = change (local_completed k u name) >> give u

-- a local gets what its initializer gives: the values of all its scalars
abbrev pub local_filled : ℕ → Lexeme → Ty → Pos → Filled → Doing (List Slot)
local_filled k t of whole f =
    let u = with_count of f.count in
    change (λ s. bind_name t.text (Local k u) (record s { locals = changed_at (λ v. record v { of = u }) s.locals k }))
    >>
    complete_now u t.pos >> look >>= λ s. give (every_slot s whole u f.slots)
