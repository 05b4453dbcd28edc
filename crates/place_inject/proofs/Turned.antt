-- A capability that loses its tag and gets another address: its upper bits stay.
use Rattle.std.proofs.Common.{◌≡◌, ℕ, ◌+◌, ◌*◌, ◌/◌, ◌^◌, ◌<◌, sym, ap, ◌∙◌, arith, bit_xor}
use Rattle.std.specs.Int.Bits.{xor_assoc, xor_self, xor_zero_r}
use Rattle.std.proofs.lemmas.Nat.{xor_block}
use Rattle.cap_concentrate.specs.declared.fields.Fields.{Fields}
use Rattle.cap_concentrate.specs.declared.packing.TheConstants.{NULL_BITS}
use Rattle.cap_concentrate.specs.Decoding.{one_where}
use Rattle.cap_concentrate.specs.Packing.{bits_of, fields_of, flipped}
use Rattle.cap_concentrate.proofs.Packed.{fields_of-bits_of, bits_of-fields_of}
use Rattle.cap_ops.specs.Capability.{with_address}
use Rattle.place_inject.proofs.Bits.{flipped_back, flipped_small}

null_upper : ℕ
null_upper = NULL_BITS / 2 ^ 64

-- the low 64 bits of null are 0
turned : (n r : ℕ) → r < 2 ^ 64 → flipped (n * 2 ^ 64 + r) ≡ bit_xor n null_upper * 2 ^ 64 + r
unfolding null_upper
turned n r h = xor_block 64 n (NULL_BITS / 2 ^ 64) r 0 h (omega arith)
    ∙ ap (λ x. bit_xor n (NULL_BITS / 2 ^ 64) * 2 ^ 64 + x) (xor_zero_r r)

turned_back : (n : ℕ) → bit_xor (bit_xor n null_upper) null_upper ≡ n
turned_back n = xor_assoc n null_upper null_upper ∙ ap (bit_xor n) (xor_self null_upper) ∙ xor_zero_r n

upper_of : Fields → ℕ
upper_of f = f.b + 2 ^ 14 * f.t + 2 ^ 26 * one_where f.internal + 2 ^ 27 * f.otype + 2 ^ 45 * one_where f.flag
    + 2 ^ 46 * f.reserved + 2 ^ 48 * f.perms + 2 ^ 60 * f.user

split : (f : Fields) → bits_of f ≡ upper_of f * 2 ^ 64 + f.address
unfolding bits_of upper_of
split f = omega arith

split_at : (f : Fields) (x : ℕ) → bits_of (with_address f x) ≡ upper_of f * 2 ^ 64 + x
unfolding bits_of upper_of
split_at f x = omega arith

pub raw_at : (f : Fields) (x : ℕ) → f.address < 2 ^ 64 → x < 2 ^ 64
    → fields_of (flipped (flipped (bits_of f) / 2 ^ 64 * 2 ^ 64 + x)) ≡ with_address f x
raw_at f x small below =
    let u : ℕ = upper_of f in
    let own : flipped (bits_of f) ≡ bit_xor u null_upper * 2 ^ 64 + f.address = ap flipped (split f)
    ∙ turned u f.address small in
    let high : flipped (bits_of f) / 2 ^ 64 ≡ bit_xor u null_upper = omega arith in
    let back : flipped (bit_xor u null_upper * 2 ^ 64 + x) ≡ bits_of (with_address f x) =
    turned (bit_xor u null_upper) x below ∙ ap (λ y. y * 2 ^ 64 + x) (turned_back u) ∙ sym (split_at f x) in
    ap (λ y. fields_of (flipped (y * 2 ^ 64 + x))) high ∙ ap fields_of back ∙ fields_of-bits_of (with_address f x) below

address_below : (n : ℕ) → (fields_of n).address < 2 ^ 64
unfolding fields_of
address_below n = omega arith

-- a value without a tag gets another address
pub raw_moved : (y z x : ℕ) → y < 2 ^ 64 → z < 2 ^ 64 → x < 2 ^ 64
    → fields_of (flipped (z * 2 ^ 64 + x)) ≡ with_address (fields_of (flipped (z * 2 ^ 64 + y))) x
raw_moved y z x ly lz lx =
    let n : ℕ = z * 2 ^ 64 + y in
    let f : Fields = fields_of (flipped n) in
    let own : flipped (bits_of f) ≡ n = ap flipped (bits_of-fields_of (flipped n) (flipped_small n (omega arith)))
    ∙ flipped_back n in
    let high : z ≡ flipped (bits_of f) / 2 ^ 64 = omega arith in
    let small : f.address < 2 ^ 64 = address_below (flipped n) in
    ap (λ w. fields_of (flipped (w * 2 ^ 64 + x))) high ∙ raw_at f x small lx
