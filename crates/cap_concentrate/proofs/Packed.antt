-- Packing and unpacking undo each other.
use Rattle.std.proofs.Common.{◌≡◌, ℕ, ◌/◌, ◌%◌, ◌^◌, ◌<◌, ◌==◌, Bool, true, false, refl, arith, inl, inr}
use Rattle.std.proofs.lemmas.Bool.{cond_both, cases_lt}
use Rattle.cap_concentrate.specs.declared.fields.Fields.{Fields}
use Rattle.cap_concentrate.specs.Decoding.{one_where}
use Rattle.cap_concentrate.specs.Packing.{bits_of, fields_of, same_fields}

one_where_small : (p : Bool) → one_where p < 2
one_where_small p = cond_both p 1 0 (λ v. v < 2) (λ e. omega arith) (λ e. omega arith)

-- a bit as a test, and back
test_of : (p : Bool) (n : ℕ) → n ≡ one_where p → (n == 1) ≡ p
test_of true n e = rw e refl
test_of false n e = rw e refl

one_where_bit : (n : ℕ) → n < 2 → one_where (n == 1) ≡ n
one_where_bit n h = elim (cases_lt n 1) as (λ _. one_where (n == 1) ≡ n) [
  | inl none ↦ let e : n ≡ 0 = omega arith in rw e refl
  | inr one ↦ let e : n ≡ 1 = omega arith in rw e refl
]

pub bits_of_below : (f : Fields) → f.address < 2 ^ 64 → bits_of f < 2 ^ 128
unfolding bits_of
bits_of_below f h = omega (arith, one_where_small f.internal, one_where_small f.flag)

pub fields_of-bits_of : (f : Fields) → f.address < 2 ^ 64 → fields_of (bits_of f) ≡ f
unfolding bits_of fields_of
fields_of-bits_of f h =
    let l : one_where f.internal < 2 = one_where_small f.internal in
    let g : one_where f.flag < 2 = one_where_small f.flag in
    same_fields (fields_of (bits_of f)) f (record {
      user = omega arith;
      perms = omega arith;
      reserved = omega arith;
      flag = test_of f.flag _ (omega arith);
      otype = omega arith;
      internal = test_of f.internal _ (omega arith);
      t = omega arith;
      b = omega arith;
      address = omega arith;
    })

pub bits_of-fields_of : (bits : ℕ) → bits < 2 ^ 128 → bits_of (fields_of bits) ≡ bits
unfolding bits_of fields_of
bits_of-fields_of bits h =
    omega (arith, one_where_bit (bits / 2 ^ 90 % 2) (omega arith), one_where_bit (bits / 2 ^ 109 % 2) (omega arith))
