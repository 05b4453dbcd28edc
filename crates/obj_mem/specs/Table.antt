-- The table of pointers with which a program begins, and the pointers in its initial data.
use Rattle.std.specs.Prelude.{ℕ, zero, suc, ◌+◌, ◌*◌, List, [], ◌∷◌, ◌++◌, length, Option, Some, None, slice_get}
use Rattle.std.specs.Prelude.{slice_index_or}
use Rattle.ck_int.specs.Kinds.{kept_of}
use Rattle.cap_concentrate.specs.Rounding.{owned}
use Rattle.cap_ops.specs.declared.capability.Cap.{Cap}
use Rattle.cap_ops.specs.declared.capability.TheConstants.{UNSEALED}
use Rattle.cap_ops.specs.Bounded.{bounded}
use Rattle.cap_ops.specs.Permissions.{data_permissions, const_permissions}
use Rattle.c_tree.specs.declared.typed.Link.{Link}
use Rattle.c_tree.specs.declared.typed.Target.{Target}
use Rattle.c_tree.specs.declared.typed.Target.TheVariants as target
use Rattle.obj_mem.specs.declared.map.Map.{Map}
use Rattle.obj_mem.specs.Values.{Value, Live, Fun, Addresses, capability_of}
use Rattle.obj_mem.specs.Legal.{ObjectNeed, Needs, owned_of}

-- ---- the table: 16 bytes for each global, each literal and each function, for the heap and for the allocator's own
-- state

abbrev pub entry_count : Needs → ℕ
entry_count n = length n.globals + length n.literals + length n.functions + 2

-- filled to the owned length of the sum
abbrev pub table_length : Needs → ℕ
table_length n = owned (16 * entry_count n)

-- which entry is a global's, a literal's, a function's, the heap's, and the allocator's
abbrev pub global_entry : ℕ → ℕ
global_entry k = k

abbrev pub literal_entry : Needs → ℕ → ℕ
literal_entry n k = length n.globals + k

abbrev pub function_entry : Needs → ℕ → ℕ
function_entry n f = length n.globals + length n.literals + f

abbrev pub heap_entry : Needs → ℕ
heap_entry n = length n.globals + length n.literals + length n.functions

abbrev pub allocator_entry : Needs → ℕ
allocator_entry n = heap_entry n + 1

-- ---- addresses by a map

abbrev pub addresses_of : Map → Addresses
addresses_of m = record {
  text = m.text.0;
  text_end = m.text.0 + m.text.1;
  entry = λ f. slice_index_or m.entries f 0;
  heap = m.heap.0;
  heap_end = m.heap.0 + m.heap.1;
}

-- objects are numbered: the globals, and then the literals
abbrev pub object_base : Map → ℕ → ℕ
object_base m object = slice_index_or (m.globals ++ m.literals) object 0

-- ---- what they begin with

-- what a pointer or a capability of the initial data begins as
pub data Start : Type 0 where
  Holds : Value → Start
  WholeHeap : Start

-- the pointer to a whole object
abbrev pub pointer_to : ObjectNeed → ℕ → Start
pointer_to n object = Holds (Live object 0 (owned_of n) 0 n.permissions)

-- the pointers to objects, the first of which has this number
abbrev pub pointers_to : List ObjectNeed → ℕ → List Start
pointers_to [] object = []
pointers_to (n ∷ ns) object = pointer_to n object ∷ pointers_to ns (suc object)

-- so many sentries, from that of function f on
abbrev pub sentries_from : ℕ → ℕ → List Start
sentries_from zero f = []
sentries_from (suc k) f = Holds (Fun f) ∷ sentries_from k (suc f)

-- the entries of the table that don't begin as zeros
abbrev pub table_starts : Needs → List Start
table_starts n =
    pointers_to n.globals 0 ++ pointers_to n.literals (length n.globals) ++ sentries_from (length n.functions) 0
    ++ WholeHeap ∷ []

-- the permissions of an object's pointers
abbrev pub permissions_of : Option ObjectNeed → ℕ
permissions_of None = 0
permissions_of (Some n) = n.permissions

abbrev pub pointer_by : Link → (object permissions : ℕ) → Start
pointer_by l object permissions = Holds (Live object l.low (l.low + l.length) (kept_of l.offset) permissions)

-- the pointer with which a link's place begins
abbrev pub start_at : Needs → Link → Target → Start
start_at n l (target.Global g) = pointer_by l g (permissions_of (slice_get n.globals g))
start_at n l (target.Literal k) = pointer_by l (length n.globals + k) const_permissions
start_at n l (target.Fun f) = Holds (Fun f)

abbrev pub start_of : Needs → Link → Start
start_of n l = start_at n l l.target

-- ---- as capabilities

-- the capability of the whole heap
abbrev pub heap_capability : Addresses → Cap
heap_capability a = bounded a.heap a.heap_end data_permissions UNSEALED a.heap

abbrev pub start_capability : Addresses → (ℕ → ℕ) → Start → Cap
start_capability a base (Holds v) = capability_of a base v
start_capability a base WholeHeap = heap_capability a
