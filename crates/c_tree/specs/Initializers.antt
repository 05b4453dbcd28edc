-- The typing of initializers (C11 6.7.9): what value each part of an object gets.
use Rattle.std.specs.Prelude.{ℕ, zero, suc, pos, ◌+◌, ◌*◌, Bool, true, false, ◌&&◌, ◌||◌, ◌==◌, nat_lt, nat_le}
use Rattle.std.specs.Prelude.{if◌then◌else◌, List, [], ◌∷◌, ◌++◌, length, Option, Some, None, slice_get, flat_map, find}
use Rattle.ck_base.specs.declared.positions.Pos.{Pos}
use Rattle.ck_base.specs.Tokens.{Lexeme}
use Rattle.ck_int.specs.declared.kinds.IntKind.TheVariants as kind
use Rattle.ck_int.specs.Kinds.{wrapped}
use Rattle.c_tree.specs.declared.syntax.RecordKind.{RecordKind}
use Rattle.c_tree.specs.declared.syntax.RecordKind.TheVariants.{Struct, Union}
use Rattle.c_tree.specs.Layout.{Extent, behind, member_offset, no_members, within, size_limit}
use Rattle.c_tree.specs.Syntax.{Syns}
use Rattle.c_tree.specs.Types.{Ty, Int, Array, Tagged, Const, bare}
use Rattle.c_tree.specs.Terms.{Constant, leaf}
use Rattle.c_tree.specs.Scopes.{Part, TagState, State, Doing, give, need, look, some_or, ◌>>=◌, ◌>>◌, type_extent, size}
use Rattle.c_tree.specs.Constants.{kind_of}
use Rattle.c_tree.specs.Conversions.{Operand, value, assigned}
use Rattle.c_tree.specs.Readings.{Slot, Filled, Reading}
use Rattle.c_tree.specs.Expressions.{text_bytes}

-- ---- the parts of an object

abbrev pub or_none : {A : Type 0} → Option Extent → (Extent → List A) → List A
or_none None f = []
or_none (Some y) f = f y

-- the extent of the next member, if it and those before it are within the limit
abbrev pub next_within : Extent → Option Extent → Option Extent
next_within before o = (if nat_le before.size size_limit then within o else None)

-- the members of a struct with their offsets. (A struct over the limit, which is refused, can lack its last ones)
abbrev pub struct_places : List TagState → List Part → Extent → List (ℕ × Ty)
struct_places tags [] x = []
struct_places tags (m ∷ ms) x =
    or_none (next_within x (type_extent tags m.of))
    (λ y. (member_offset y x, m.of) ∷ struct_places tags ms (behind y x))

-- of a union the first member alone counts, if it is within the limit
abbrev pub first_place : List TagState → List Part → List (ℕ × Ty)
first_place tags [] = []
first_place tags (m ∷ ms) = or_none (within (type_extent tags m.of)) (λ y. (0, m.of) ∷ [])

abbrev pub record_places : List TagState → RecordKind → List Part → List (ℕ × Ty)
record_places tags Struct ms = struct_places tags ms no_members
record_places tags Union ms = first_place tags ms

abbrev pub known_places : List TagState → RecordKind → Option (List Part) → List (ℕ × Ty)
known_places tags k None = []
known_places tags k (Some ms) = record_places tags k ms

abbrev pub tag_places : List TagState → Option TagState → List (ℕ × Ty)
tag_places tags None = []
tag_places tags (Some t) = known_places tags t.kind t.members

-- the place and the type of item k of a list in braces: an element, a member, or the scalar itself
abbrev pub item_place : State → Ty → ℕ → Option (ℕ × Ty)
item_place s (Array t n) k = (if nat_lt k n || n == 0 then Some (k * size s t, t) else None)
item_place s (Tagged n) k = slice_get (tag_places s.tags (slice_get s.tags n)) k
item_place s (Const t) k = item_place s t k
item_place s t k = (if k == 0 then Some (0, t) else None)

-- ---- strings (6.7.9p14)

abbrev pub is_character : Ty → Bool
is_character (Int kind.U8 n) = true
is_character (Int kind.I8 n) = true
is_character t = false

abbrev pub takes_string : Ty → Bool
takes_string (Array t n) = is_character (bare t)
takes_string t = false

abbrev pub element : Ty → Ty
element (Array t n) = bare t
element t = t

abbrev pub array_count : Ty → ℕ
array_count (Array t n) = n
array_count t = 0

-- the bytes one by one, as constants of the element's type at the first byte of the whole initializer
abbrev pub byte_slots : Pos → Ty → ℕ → List ℕ → List Slot
byte_slots whole t at [] = []
byte_slots whole t at (b ∷ bs) =
    record { at = at; of = t; value = leaf (Constant (wrapped (kind_of t) (pos b))) t whole; first = whole }
    ∷ byte_slots whole t (at + 1) bs

abbrev pub taken : ℕ → List ℕ → List ℕ
taken zero bs = []
taken (suc n) [] = []
taken (suc n) (b ∷ bs) = b ∷ taken n bs

-- a string may lack room for its last zero byte only
unfoldable pub string_initializer : Lexeme → Syns → Pos → Ty → ℕ → Doing Filled
string_initializer t xs whole of at =
    let bytes = text_bytes t xs in
    let n = (if array_count of == 0 then length bytes else array_count of) in
    need (nat_le (length bytes) (n + 1)) 133 t.pos >>
    give (record { slots = byte_slots whole (element of) at (taken n bytes); count = length bytes })

-- ---- one value, and braces

-- an expression for a scalar, a struct or a union, as by assignment
unfoldable pub plain_initializer : Doing Operand → (Slot → Doing Unit) → Pos → Ty → ℕ → Doing Filled
plain_initializer d asked whole of at =
    (d >>= value) >>= λ x. assigned of x >>= λ y.
    let slot : Slot = record { at = at; of = bare of; value = y; first = x.first } in
    asked slot >> give (record { slots = slot ∷ []; count = 0 })

-- Each item initialises the next part. There are at most as many items as parts
abbrev pub items : State → (Slot → Doing Unit) → Pos → Ty → ℕ → Pos → ℕ → List Reading → Doing (List Slot)
items s asked whole of at brace k [] = give []
items s asked whole of at brace k (r ∷ rs) =
    some_or (item_place s of k) 133 brace >>= λ p.
    r.initializer asked whole p.1 (at + p.0) >>= λ f.
    items s asked whole of at brace (k + 1) rs >>= λ slots. give (f.slots ++ slots)

-- `{ "ab" }` is the string
unfoldable pub braced_initializer : Lexeme → Bool → List Reading → (Slot → Doing Unit) → Pos → Ty → ℕ → Doing Filled
braced_initializer brace text (r ∷ []) asked whole of at =
    (if text && takes_string of then r.initializer asked whole of at
    else look >>= λ s. items s asked whole of at brace.pos 0 (r ∷ [])
    >>= λ slots. give (record { slots = slots; count = 1 }))
braced_initializer brace text rs asked whole of at =
    look >>= λ s. items s asked whole of at brace.pos 0 rs
    >>= λ slots. give (record { slots = slots; count = length rs })

-- ---- the whole object

-- the scalars of a type from an offset on; `go` gives those of a struct or union
abbrev pub repeat : ℕ → ℕ → (ℕ → List (ℕ × Ty)) → ℕ → List (ℕ × Ty)
repeat zero step scalars at = []
repeat (suc n) step scalars at = scalars at ++ repeat n step scalars (at + step)

abbrev pub scalars_of : State → (ℕ → ℕ → List (ℕ × Ty)) → Ty → ℕ → List (ℕ × Ty)
scalars_of s go (Array t n) at = repeat n (size s t) (scalars_of s go t) at
scalars_of s go (Tagged n) at = go n at
scalars_of s go (Const t) at = scalars_of s go t at
scalars_of s go t at = (at, t) ∷ []

abbrev pub all_scalars : State → (ℕ → ℕ → List (ℕ × Ty)) → List (ℕ × Ty) → ℕ → List (ℕ × Ty)
all_scalars s go [] at = []
all_scalars s go (p ∷ ps) at = scalars_of s go p.1 (at + p.0) ++ all_scalars s go ps at

-- structs and unions lie at most so many deep in one another
unfoldable pub tag_scalars : ℕ → State → ℕ → ℕ → List (ℕ × Ty)
tag_scalars zero s n at = []
tag_scalars (suc d) s n at = all_scalars s (tag_scalars d s) (tag_places s.tags (slice_get s.tags n)) at

unfoldable pub scalars : State → Ty → List (ℕ × Ty)
scalars s t = scalars_of s (tag_scalars (length s.tags) s) t 0

-- a slot has the scalar at an offset, perhaps in a struct or union
abbrev pub covers : State → ℕ → Slot → Bool
covers s at x = nat_le x.at at && nat_lt at (x.at + size s x.of)

-- 6.7.9p10, p21: a scalar that no value is given to is zero
abbrev pub zero_slot : Pos → ℕ × Ty → Slot
zero_slot whole p = record { at = p.0; of = p.1; value = leaf (Constant 0) p.1 whole; first = whole }

-- the slot of a scalar; one that goes on from an earlier scalar stands there already
abbrev pub scalar_slot : Pos → ℕ × Ty → Option Slot → List Slot
scalar_slot whole p None = zero_slot whole p ∷ []
scalar_slot whole p (Some x) = (if x.at == p.0 then x ∷ [] else [])

-- every scalar of an object of automatic storage duration, in the order of offsets
unfoldable pub every_slot : State → Pos → Ty → List Slot → List Slot
every_slot s whole t slots = flat_map (λ p. scalar_slot whole p (find (covers s p.0) slots)) (scalars s t)

-- 6.7.9p22: an array whose length is not known gets it
abbrev pub with_count : Ty → ℕ → Ty
with_count (Array t zero) n = Array t n
with_count t n = t
