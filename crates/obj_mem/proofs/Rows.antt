-- Small runs of the definitions, by computation.
use Rattle.std.specs.Prelude.{◌≡◌, ℕ, ◌+◌, ◌-◌, ◌*◌, ◌^◌, true, false, [], ◌∷◌, Result, Ok, Err, refl}
use Rattle.cap_concentrate.specs.Decoding.{exponent, mantissa, whole_top, high, placed, corrected, base_of, top_of}
use Rattle.cap_concentrate.specs.Encoding.{length_exponent, encoded_internal, encoded_t, encoded_b, with_bounds}
use Rattle.cap_concentrate.specs.Packing.{bits_of}
use Rattle.cap_concentrate.specs.Rounding.{first_from, alignment, owned, bounds_exponent, least_base, least_top}
use Rattle.ck_int.specs.Arithmetic.{binary_of}
use Rattle.ck_int.specs.Kinds.{wrapped, value_of, reduced, kept_of}
use Rattle.cap_ops.specs.declared.access.Cause.TheVariants as C
use Rattle.obj_mem.specs.declared.ending.Reason.TheVariants as R
use Rattle.obj_mem.specs.declared.ending.Fault.{Fault}
use Rattle.obj_mem.specs.declared.ending.Fault.TheVariants as F
use Rattle.obj_mem.specs.Values.{Value, Int, Live, Raw, Addresses, capability_of, bits}
use Rattle.obj_mem.specs.Objects.{Active, Memory, Mode, Placed, Strict, no_objects, add, end, leave}
use Rattle.obj_mem.specs.Access.{onward, load, store}
use Rattle.obj_mem.specs.Pointers.{keeps, move, narrow, get_address}
use Rattle.obj_mem.specs.Comparisons.{equal, difference}
use Rattle.obj_mem.specs.Heap.{allocate, heap_start}

abbrev map : Addresses
map = record { text = 65536; text_end = 66560; entry = λ f. 65536 + f * 4; heap = 16777216; heap_end = 33554432 }

-- three objects: of 40, of 16 and of 32 bytes
abbrev start : Mode → Memory
start d = add d (add d (add d no_objects 40 131072) 16 131120) 32 131136

abbrev a : ℕ → Value
a at = Live 0 0 40 at 125

abbrev p : ℕ → Value
p at = Live 2 0 32 at 125

abbrev x : Value
x = Live 1 0 16 0 125

-- ---- bounds: the tenth of ten integers is there, and the eleventh isn't
inside : onward (store Strict (start Strict) (a 36) 4 (Int 9)) (λ m. load Strict m (a 36) 4) ≡ Ok (Int 9)
unfolding store load owned alignment first_from
inside = refl

outside : onward (store Strict (start Strict) (a 36) 4 (Int 9)) (λ m. load Strict m (a 40) 4) ≡ Err (F.Cause C.Bounds)
unfolding store load owned alignment first_from
outside = refl

-- four bytes before the base
before : load (Placed map) (start (Placed map)) (a (2 ^ 64 - 4)) 4 ≡ Err (F.Cause C.Bounds)
unfolding load owned alignment first_from
before = refl

-- zeros in the placed mode, and not written in the strict one
zeros : load (Placed map) (start (Placed map)) (a 8) 8 ≡ Ok (Int 0)
unfolding load owned alignment first_from
zeros = refl

not_written : load Strict (start Strict) (a 8) 8 ≡ Err (F.Unspecified R.Unwritten)
unfolding load owned alignment first_from
not_written = refl

-- ---- a stored pointer, with its tag; and one byte of it stored over itself
abbrev with_pointer : Mode → Result Memory Fault
with_pointer d = store d (start d) (p 16) 16 x

pointer_back : onward (with_pointer (Placed map)) (λ m. load (Placed map) m (p 16) 16) ≡ Ok x
unfolding store load owned alignment first_from
pointer_back = refl

abbrev overwritten : Mode → Result Memory Fault
overwritten d = onward (with_pointer d) (λ m. onward (load d m (p 16) 1) (λ v. store d m (p 16) 1 v))

abbrev read_again : Mode → Result Value Fault
read_again d = onward (overwritten d) (λ m. load d m (p 16) 16)

address_stays : onward (read_again (Placed map)) (λ v. get_address (Placed map) [] v) ≡ Ok 131120
unfolding store load owned alignment first_from bits capability_of bits_of with_bounds encoded_internal encoded_t
    encoded_b length_exponent
address_stays = refl

tag_goes : onward (read_again (Placed map)) (λ v. onward (with_pointer (Placed map)) (λ m. load (Placed map) m v 4))
    ≡ Err (F.Cause C.Tag)
unfolding store load owned alignment first_from bits capability_of bits_of with_bounds encoded_internal encoded_t
    encoded_b length_exponent
tag_goes = refl

byte_of_pointer : overwritten Strict ≡ Err (F.Unspecified R.Address)
unfolding store load owned alignment first_from
byte_of_pointer = refl

-- partly written over, without a look at it
abbrev half : Mode → Result Memory Fault
half d = onward (with_pointer d) (λ m. store d m (p 24) 8 (Int 0))

half_is_address : onward (half Strict) (λ m. load Strict m (p 16) 16) ≡ Err (F.Unspecified R.Address)
unfolding store load owned alignment first_from
half_is_address = refl

-- copies: 16 bytes keep the pointer, and bytes that were not written are carried on
copied : onward (with_pointer Strict) (λ m. onward (store Strict m (a 0) 8 (Int 3)) (λ n. load Strict n (p 16) 16))
    ≡ Ok x
unfolding store load owned alignment first_from
copied = refl

abbrev without_store : Value
without_store = Live 1 0 16 0 21

-- a string literal can be read and not written
read_only : store Strict (start Strict) without_store 1 (Int 65) ≡ Err (F.Cause C.Store)
unfolding store owned alignment first_from
read_only = refl

-- ---- padding: the last byte of 100096 lies inside the bounds and past the length
abbrev large : Memory
large = record {
  shapes = record { length = 100000; owned = 100096; life = Active; base = 0 } ∷ [];
  contents = record { cells = []; values = [] } ∷ [];
  notes = [];
}

in_padding : store Strict large (Live 0 0 100096 100095 125) 1 (Int 1) ≡ Err (F.Unspecified R.Padding)
unfolding store
in_padding = refl

past_padding : store Strict large (Live 0 0 100096 100096 125) 1 (Int 1) ≡ Err (F.Cause C.Bounds)
unfolding store
past_padding = refl

-- ---- moves: out and back, near and far
near : move Strict [] (a 0) 1063 ≡ Ok (a 1063)
near = refl

far : move Strict [] (a 0) 1064 ≡ Err (F.Unspecified R.Excursion)
far = refl

back : onward (move (Placed map) (start (Placed map)).shapes (a 0) 400)
    (λ v. move (Placed map) (start (Placed map)).shapes v (2 ^ 64 - 400)) ≡ Ok (a 0)
unfolding keeps owned alignment first_from encoded_internal encoded_t encoded_b length_exponent base_of top_of placed
    corrected exponent mantissa whole_top high
back = refl

-- 20000 bytes away the tag is lost; the address comes back, and the tag doesn't
lost : onward (move (Placed map) (start (Placed map)).shapes (a 0) 20000)
    (λ v. onward (move (Placed map) (start (Placed map)).shapes v (2 ^ 64 - 20000))
    (λ w. load (Placed map) (start (Placed map)) w 1)) ≡ Err (F.Cause C.Tag)
unfolding load keeps owned alignment first_from bits capability_of bits_of with_bounds encoded_internal encoded_t
    encoded_b length_exponent base_of top_of placed corrected exponent mantissa whole_top high
lost = refl

-- ---- narrowing to a member
member : narrow Strict [] (a 4) 8 true ≡ Ok (Live 0 4 12 4 125)
unfolding least_base least_top
member = refl

not_inside : narrow Strict [] (a 36) 8 true ≡ Err (F.Unspecified R.Address)
unfolding least_base least_top
not_inside = refl

depends : narrow Strict [] (Live 0 0 100096 3 125) 5000 false ≡ Err (F.Unspecified R.Rounding)
unfolding least_base least_top bounds_exponent alignment owned first_from
depends = refl

-- ---- comparisons
apart : equal Strict (start Strict).shapes (a 0) x ≡ Ok false
unfolding owned alignment first_from
apart = refl

one_past : equal Strict (start Strict).shapes (a 40) x ≡ Err (F.Unspecified R.Address)
unfolding owned alignment first_from
one_past = refl

ended : equal Strict (end (start Strict) 1).shapes (a 0) x ≡ Err (F.Unspecified R.Address)
unfolding owned alignment first_from
ended = refl

elements : difference Strict [] 4 (a 8) (a 20) ≡ Ok (2 ^ 64 - 3)
unfolding binary_of wrapped value_of reduced kept_of
elements = refl

-- ---- a local of a function that has returned, or whose block was left
returned : load Strict (end (start Strict) 1) x 4 ≡ Err F.Outside
unfolding load owned alignment first_from
returned = refl

left_block : load Strict (leave Strict (start Strict) 1) x 4 ≡ Err F.Outside
unfolding load owned alignment first_from
left_block = refl

-- ---- the heap: null where the owned length doesn't fit in the rest
too_large : onward (allocate (Placed map) no_objects (heap_start (Placed map)) 16777217) (λ r. Ok r.pointer)
    ≡ Ok (Raw 0 0)
unfolding owned alignment first_from
too_large = refl

all_of_it : onward (allocate (Placed map) no_objects (heap_start (Placed map)) 16777216) (λ r. Ok r.heap) ≡ Ok 33554432
unfolding owned alignment first_from
all_of_it = refl

strict_sum : onward (allocate Strict no_objects (heap_start Strict) 16777216) (λ r. Ok r.heap)
    ≡ Err (F.Unspecified R.Heap)
unfolding owned alignment first_from
strict_sum = refl
