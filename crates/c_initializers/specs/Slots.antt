-- What an initializer gives.
use Rattle.std.specs.Prelude.{◌≡◌, ℕ, ◌+◌, ◌<◌, Bool, true, ◌==◌, nat_le, if◌then◌else◌, filter, List, ◌++◌, length}
use Rattle.std.specs.Prelude.{map, flat_map}
use Rattle.std.specs.Prelude.{position, Option, Some, None, slice_get}
use Rattle.std.specs.List.{All}
use Rattle.std.specs.Global.{Vec}
use Rattle.ck_base.specs.declared.positions.Pos.{Pos}
use Rattle.c_tree.specs.Types.{Ty, bare}
use Rattle.c_tree.specs.Terms.{Term}
use Rattle.c_tree.specs.Readings as meant
use Rattle.c_tree.specs.Scopes.{State, Doing, give, look, need, ◌>>=◌, ◌>>◌}
use Rattle.c_tree.specs.Conversions.{Operand, assigned}
use Rattle.c_tree.specs.Initializers.{array_count, byte_slots, element, taken, every_slot, scalar_slot}
use Rattle.c_expressions.specs.declared.nodes.Nodes.{Nodes}
use Rattle.c_expressions.specs.Nodes.{Keeps, type_in, term_in, type_count, term_count}
use Rattle.c_elaborator.specs.declared.work.Work.{Work}
use Rattle.c_elaborator.specs.Work.{Shows}
use Rattle.c_tree.specs.Scopes.{size}
use Rattle.c_initializers.specs.declared.covering.Extent.{Extent}
use Rattle.c_initializers.specs.Covering.{covers_place}
use Rattle.c_plain_rules.specs.Place.{Place}
use Rattle.c_initializers.specs.declared.slots.Slot.{Slot}
use Rattle.c_initializers.specs.declared.slots.Filled.{Filled}

abbrev pub slot_in : Nodes → Slot → meant.Slot
slot_in n x = record { at = x.at; of = type_in n x.of; value = term_in n x.value; first = x.first }

abbrev pub slots_in : Nodes → List Slot → List meant.Slot
slots_in n xs = map (slot_in n) xs

abbrev pub filled_in : Nodes → Filled → meant.Filled
filled_in n f = record { slots = slots_in n f.slots.items; count = f.count }

pub record IsSlotThere (n : Nodes) (x : Slot) : Type 0 where
  pub of : x.of < type_count n
  pub value : x.value < term_count n

abbrev pub AreSlotsThere : Nodes → List Slot → Type 0
AreSlotsThere n xs = All (IsSlotThere n) xs

-- beside what stood in the old nodes, the new ones have these values
pub record HasSlots (old new : Nodes) (xs : List Slot) (ys : List meant.Slot) : Type 0 where
  pub keeps : Keeps old new
  pub there : AreSlotsThere new xs
  pub are : slots_in new xs ≡ ys

-- a value, and what an initializer gives, of the nodes
pub record IsSlotIn (n : Nodes) (x : Slot) (y : meant.Slot) : Type 0 where
  pub there : IsSlotThere n x
  pub is : y ≡ slot_in n x

pub record IsFilledIn (n : Nodes) (f : Filled) (y : meant.Filled) : Type 0 where
  pub there : AreSlotsThere n f.slots.items
  pub is : y ≡ filled_in n f

-- ---- answers

abbrev pub SlotThere : Work → Slot → Type 0
SlotThere w x = IsSlotThere w.nodes x

abbrev pub IsSlot : Work → Slot → State → meant.Slot → Type 0
IsSlot w x s y = y ≡ slot_in w.nodes x

abbrev pub FilledThere : Work → Filled → Type 0
FilledThere w f = AreSlotsThere w.nodes f.slots.items

abbrev pub IsFilled : Work → Filled → State → meant.Filled → Type 0
IsFilled w f s y = y ≡ filled_in w.nodes f

-- ---- strings

-- an array of characters from the bytes of a string
abbrev pub string_filled : List ℕ → Pos → Pos → Ty → ℕ → Doing meant.Filled
string_filled bytes pos whole of at =
    let n = (if array_count of == 0 then length bytes else array_count of) in
    need (nat_le (length bytes) (n + 1)) 133 pos >>
    give (record { slots = byte_slots whole (element of) at (taken n bytes); count = length bytes })

-- ---- scalars

abbrev pub chosen : {A : Type 0} → List A → Option ℕ → Option A
chosen xs None = None
chosen xs (Some k) = slice_get xs k

-- one value for a part of an object, without a qualifier of its own
abbrev pub slot_of : ℕ → Ty → Term → Pos → meant.Slot
slot_of at of y first = record { at = at; of = bare of; value = y; first = first }

-- a value as by assignment to a type
abbrev pub plain_slot : Ty → ℕ → Operand → Doing meant.Slot
plain_slot of at x = assigned of x >>= λ y. give (slot_of at of y x.first)

abbrev pub place_of : Nodes → Place → ℕ × Ty
place_of n p = (p.at, type_in n p.of)

-- the bytes that values have
abbrev pub extent_of : State → meant.Slot → ℕ × ℕ
extent_of s x = (x.at, x.at + size s x.of)

abbrev pub HaveExtents : Work → List Slot → List Extent → Type 0
HaveExtents w xs es = (length es ≡ length xs) ×
    ((s : State) → Shows w s → map (λ (e : Extent). (e.from, e.to)) es ≡ map (extent_of s) (slots_in w.nodes xs))

-- the value that has the byte at a place begins there, or there is none
abbrev pub begins_at : ℕ → Option Extent → Bool
begins_at at None = true
begins_at at (Some e) = e.from == at

-- a scalar gets a value: none does to which an earlier one goes on
abbrev pub is_needed : List Extent → ℕ → Bool
is_needed es at = begins_at at (chosen es (position (covers_place at) es))

abbrev pub needed : List Extent → List (ℕ × Ty) → List (ℕ × Ty)
needed es ps = filter (λ p. is_needed es p.0) ps

-- what the scalars at these places get
abbrev pub scalars_given : Pos → List meant.Slot → List Extent → List (ℕ × Ty) → List meant.Slot
scalars_given whole given es places =
    flat_map (λ p. scalar_slot whole p (chosen given (position (covers_place p.0) es))) places

-- these values were added behind those that were there
pub record AddsSlots (old new : Nodes) (xs zs : List Slot) (ys : List meant.Slot) : Type 0 where
  pub keeps : Keeps old new
  pub there : AreSlotsThere old xs → AreSlotsThere new zs
  pub are : AreSlotsThere old xs → slots_in new zs ≡ slots_in old xs ++ ys

-- every scalar of a type gets a value, where some were given
abbrev pub every_slot_of : Pos → Ty → List meant.Slot → Doing (List meant.Slot)
every_slot_of whole t slots = look >>= λ s. give (every_slot s whole t slots)

abbrev pub SlotsThere : Work → Vec Slot → Type 0
SlotsThere w xs = AreSlotsThere w.nodes xs.items

abbrev pub AreSlots : Work → Vec Slot → State → List meant.Slot → Type 0
AreSlots w xs s ys = ys ≡ slots_in w.nodes xs.items
