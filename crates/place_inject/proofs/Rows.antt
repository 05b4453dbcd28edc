-- Small memories of the machine in which objects stand, by computation.
use Rattle.std.specs.Prelude.{◌≡◌, ◌+◌, ◌*◌, true, false, List, [], ◌∷◌, Some, refl, replicate}
use Rattle.cap_concentrate.specs.Encoding.{length_exponent, encoded_internal, encoded_t, encoded_b, with_bounds}
use Rattle.cap_concentrate.specs.Packing.{bits_of}
use Rattle.cap_concentrate.specs.Rounding.{first_from}
use Rattle.tag_mem.specs.Areas.{Area, byte_at, tag_at}
use Rattle.tag_mem.specs.Memory.{capability_at, written}
use Rattle.tag_mem.specs.Numbers.{little_bytes}
use Rattle.obj_mem.specs.Values.{Value, Live, Addresses, capability_of, bits, memory_bits}
use Rattle.obj_mem.specs.Objects as object
use Rattle.obj_mem.specs.Objects.{Active, Byte, Shape, Content, Placed, base_in, blank, with_value, with_bytes}
use Rattle.obj_mem.specs.Access.{bytes_of}
use Rattle.place_inject.specs.Objects.{number_in}

abbrev map : Addresses
map = record { text = 65536; text_end = 66560; entry = λ f. 65536 + f * 4; heap = 16777216; heap_end = 33554432 }

-- an object of 16 bytes and behind it one of 32
abbrev shapes : List Shape
shapes = record { length = 16; owned = 16; life = Active; base = 131072 } ∷ record {
  length = 32;
  owned = 32;
  life =
      Active;
  base = 131088;
} ∷ []

-- a pointer to the first, at its fourth byte
abbrev pointer : Value
pointer = Live 0 0 16 4 125

-- the second object with the pointer in its second granule
abbrev content : Content
content = with_value (blank (Placed map) 32) 16 pointer

-- the machine's memory, of 48 bytes, behind a `csc` of that pointer
abbrev empty : List Area
empty = record { base = 131072; bytes = replicate 48 0; tags = replicate 3 false } ∷ []

abbrev memory : List Area
memory = written empty 131104 (little_bytes 16 (memory_bits map (base_in shapes) pointer)) true

-- the byte of the address is that of the meaning, and the others are zero
address_byte : byte_at memory 131104 ≡ number_in (object.byte_at (Placed map) shapes content 16)
unfolding byte_at written little_bytes bits capability_of bits_of with_bounds encoded_internal encoded_t encoded_b
    length_exponent first_from
address_byte = refl

address_is : byte_at memory 131104 ≡ Some 4
unfolding byte_at written little_bytes bits capability_of bits_of with_bounds encoded_internal encoded_t encoded_b
    length_exponent first_from
address_is = refl

upper_byte : byte_at memory 131119 ≡ number_in (object.byte_at (Placed map) shapes content 31)
unfolding byte_at written little_bytes bits capability_of bits_of with_bounds encoded_internal encoded_t encoded_b
    length_exponent first_from
upper_byte = refl

zero_byte : byte_at memory 131090 ≡ number_in (object.byte_at (Placed map) shapes content 2)
unfolding byte_at written little_bytes
zero_byte = refl

-- its granule alone is tagged
tagged : tag_at memory 131110 ≡ Some true
unfolding tag_at written little_bytes
tagged = refl

untagged : tag_at memory 131100 ≡ Some false
unfolding tag_at written little_bytes
untagged = refl

-- what `clc` reads: the pointer's bits, and its tag
read_back : capability_at memory 131104 ≡ Some (memory_bits map (base_in shapes) pointer, true)
unfolding capability_at written little_bytes bits capability_of bits_of with_bounds encoded_internal encoded_t encoded_b
    length_exponent first_from
read_back = refl

-- a byte stored over the pointer clears the tag, and the other bytes stay its bytes
abbrev over : List Area
over = written memory 131105 (little_bytes 1 7) false

tag_goes : tag_at over 131110 ≡ Some false
unfolding tag_at written little_bytes
tag_goes = refl

byte_there : byte_at over 131105 ≡ number_in (object.byte_at (Placed map) shapes
    (with_bytes (Placed map) shapes content 17 (bytes_of 1 7)) 17)
unfolding byte_at written little_bytes
byte_there = refl

byte_beside : byte_at over 131104 ≡ number_in (object.byte_at (Placed map) shapes
    (with_bytes (Placed map) shapes content 17 (bytes_of 1 7)) 16)
unfolding byte_at written little_bytes bits capability_of bits_of with_bounds encoded_internal encoded_t encoded_b
    length_exponent first_from
byte_beside = refl
