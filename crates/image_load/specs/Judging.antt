-- Which images are refused, and by which refusal: the tests in their order, the first that fails decides.
use Rattle.std.specs.Prelude.{ℕ, ◌+◌, ◌/◌, ◌%◌, ◌^◌, ◌==◌, ◌&&◌, ◌||◌, not, nat_lt, nat_le, nat_eq, Bool, List, [], ◌∷◌}
use Rattle.std.specs.Prelude.{length, Result, Ok, Err, if◌then◌else◌}
use Rattle.cap_ops.specs.declared.capability.Cap.{Cap}
use Rattle.cap_ops.specs.declared.capability.TheConstants.{UNSEALED, SENTRY}
use Rattle.cap_ops.specs.Capability.{base, top}
use Rattle.cap_ops.specs.Bounded.{bounded}
pub use Rattle.image_load.specs.Extents.{Extent, end_of}
unfoldable pub use Rattle.image_load.specs.Extents.{is_encodable}
use Rattle.elf_file.specs.declared.image.Image.{Image}
use Rattle.elf_file.specs.declared.image.Reloc.{Reloc}
use Rattle.image_load.specs.declared.refusal.LoadRefusal.{LoadRefusal}
use Rattle.image_load.specs.declared.refusal.LoadRefusal.TheVariants as refusal

-- ---- extents

abbrev pub text_of : Image → Extent
text_of i = (i.text_base, length i.text)

abbrev pub initial_of : Image → Extent
initial_of i = (i.initial_base, length i.initial)

-- the four segments: text, initial data, heap and stack
abbrev pub segments_of : Image → List Extent
segments_of i = text_of i ∷ initial_of i ∷ i.heap ∷ i.stack ∷ []

-- whole granules, from 65,536 to 2^40
unfoldable pub lies_well : Extent → Bool
lies_well e = e.0 % 16 == 0 && e.1 % 16 == 0 && nat_le 65536 e.0 && nat_le (end_of e) (2 ^ 40)

-- the most bytes of a text, and of all segments together
abbrev pub text_limit : ℕ
text_limit = 33554432

abbrev pub segments_limit : ℕ
segments_limit = 268435456

-- each segment lies well, and neither the text nor all together are too long
unfoldable pub segments_fit : Extent → Extent → Extent → Extent → Bool
segments_fit text initial heap stack =
    lies_well text && lies_well initial && lies_well heap && lies_well stack && nat_le text.1 text_limit
    && nat_le (text.1 + initial.1 + heap.1 + stack.1) segments_limit

-- some address lies in both: neither is empty, and each begins before the other ends
unfoldable pub overlap : Extent → Extent → Bool
overlap a b = nat_lt 0 a.1 && nat_lt 0 b.1 && nat_lt a.0 (end_of b) && nat_lt b.0 (end_of a)

-- some address lies in two of them
unfoldable pub some_overlap : Extent → Extent → Extent → Extent → Bool
some_overlap text initial heap stack =
    overlap text initial || overlap text heap || overlap text stack || overlap initial heap || overlap initial stack
    || overlap heap stack

-- the first lies inside the second
unfoldable pub lies_inside : Extent → Extent → Bool
lies_inside a b = nat_le b.0 a.0 && nat_le (end_of a) (end_of b)

-- an instruction's place in the text
unfoldable pub is_entry : ℕ → Extent → Bool
is_entry at text = nat_le text.0 at && nat_lt at (end_of text) && at % 4 == 0

-- ---- capabilities

-- the permission word: bits 0 to 6 are permissions, bit 63 says sentry, and the others are 0; a sentry has Execute
abbrev pub is_sentry : ℕ → Bool
is_sentry word = nat_le (2 ^ 63) word

unfoldable pub is_permission_word : ℕ → Bool
is_permission_word word = nat_lt (word % 2 ^ 63) 128 && (not (is_sentry word) || word / 2 % 2 == 1)

-- the address of a relocation's capability
abbrev pub address_of : Reloc → ℕ
address_of r = (r.base + r.offset) % 2 ^ 64

-- the capability that a relocation stores
abbrev pub capability_of : Reloc → Cap
capability_of r = bounded r.base (r.base + r.length) (r.perms % 128) (if is_sentry r.perms then SENTRY else UNSEALED)
    (address_of r)

-- it has the bounds of the relocation at its address
unfoldable pub keeps_extent : Reloc → Bool
keeps_extent r = nat_eq (base (capability_of r)) r.base && nat_eq (top (capability_of r)) (r.base + r.length)

-- a granule of the initial data
unfoldable pub is_place : ℕ → Extent → Bool
is_place at initial = at % 16 == 0 && nat_le initial.0 at && nat_le (at + 16) (end_of initial)

unfoldable pub is_capability : Reloc → Bool
is_capability r = is_permission_word r.perms && is_encodable (r.base, r.length) && keeps_extent r

-- ---- the tests

abbrev pub Judged : Type 0
Judged = Result (Unit {0}) LoadRefusal

abbrev pub guard : Bool → LoadRefusal → Judged → Judged
guard test refused rest = if test then rest else Err refused

-- relocation by relocation, its place and then its capability
unfoldable pub judged_relocs : Extent → List Reloc → Judged → Judged
judged_relocs initial [] rest = rest
judged_relocs initial (r ∷ rs) rest =
    guard (is_place r.place initial) refusal.Place
    (guard (is_capability r) refusal.Bounds (judged_relocs initial rs rest))

abbrev pub then_judged : Judged → Judged → Judged
then_judged (Ok fine) rest = rest
then_judged (Err e) rest = Err e

unfoldable pub judged : Image → Judged
judged i =
    guard (segments_fit (text_of i) (initial_of i) i.heap i.stack) refusal.Segment
    (guard (not (some_overlap (text_of i) (initial_of i) i.heap i.stack)) refusal.Overlap
    (guard (lies_inside i.table (initial_of i)) refusal.Overlap
    (guard (is_entry i.entry (text_of i)) refusal.Entry
    (then_judged (judged_relocs (initial_of i) i.relocs (Ok tt))
    (guard (is_encodable (text_of i) && is_encodable i.table && is_encodable i.stack) refusal.Bounds (Ok tt))))))
