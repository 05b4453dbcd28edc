-- Values that are known before the program runs.
use Rattle.std.proofs.Common.{◌≡◌, ℕ, ◌-◌, ◌%◌, ◌<◌}
use Rattle.std.proofs.Common.{Bool, true, false, sym, ap, ◌∙◌, arith}
use Rattle.std.specs.Prelude.{ℤ, pos, negsuc}
use Rattle.ck_int.specs.declared.kinds.IntKind.TheVariants as kind
use Rattle.ck_int.specs.Kinds.{wrapped, reduced, kept_of, value_of, twos_complement, is_signed, form_of}
use Rattle.ck_int.specs.Kinds.{Represents}
use Rattle.ck_int.specs.declared.kinds.IntKind.{IntKind}
use Rattle.ck_int.proofs.Laws.{Represents-value_of}
use Rattle.std.proofs.lemmas.Int.{ints}

twice : (n : ℕ) → n % 18446744073709551616 % 18446744073709551616 ≡ n % 18446744073709551616
twice n = omega arith

once : (n : ℕ) → (18446744073709551615 - n % 18446744073709551616) % 18446744073709551616
    ≡ 18446744073709551615 - n % 18446744073709551616
once n = omega arith

-- a number of 64 bits is kept as it is
pub wrapped-word : (z : ℤ) → wrapped kind.U64 z ≡ kept_of z
unfolding wrapped reduced kept_of
wrapped-word (pos n) = twice n
wrapped-word (negsuc n) = once n

-- ---- numbers

small : (n : ℕ) → n < 18446744073709551616 → n % 18446744073709551616 ≡ n
small n h = omega arith

value-signed : (w : ℕ) → w < 18446744073709551616 → value_of kind.I64 w ≡ twos_complement 64 w
unfolding value_of reduced
value-signed w h = ap (twos_complement 64) (small w h)

value-unsigned : (w : ℕ) → w < 18446744073709551616 → value_of kind.U64 w ≡ pos w
unfolding value_of reduced
value-unsigned w h = ap (λ n. pos n) (small w h)

wide-signed : (k : IntKind) (z : ℤ) → is_signed (form_of k) ≡ true → Represents k z → Represents kind.I64 z
wide-signed kind.Bool z e r = absurd cc
wide-signed kind.U8 z e r = absurd cc
wide-signed kind.U16 z e r = absurd cc
wide-signed kind.U32 z e r = absurd cc
wide-signed kind.U64 z e r = absurd cc
wide-signed kind.I64 z e r = r
wide-signed kind.I8 z e r =
    let l = r.low in let h = r.high in record { low = omega (arith, ints); high = omega (arith, ints) }
wide-signed kind.I16 z e r =
    let l = r.low in let h = r.high in record { low = omega (arith, ints); high = omega (arith, ints) }
wide-signed kind.I32 z e r =
    let l = r.low in let h = r.high in record { low = omega (arith, ints); high = omega (arith, ints) }

wide-unsigned : (k : IntKind) (z : ℤ) → is_signed (form_of k) ≡ false → Represents k z → Represents kind.U64 z
wide-unsigned kind.I8 z e r = absurd cc
wide-unsigned kind.I16 z e r = absurd cc
wide-unsigned kind.I32 z e r = absurd cc
wide-unsigned kind.I64 z e r = absurd cc
wide-unsigned kind.U64 z e r = r
wide-unsigned kind.Bool z e r =
    let l = r.low in let h = r.high in record { low = omega (arith, ints); high = omega (arith, ints) }
wide-unsigned kind.U8 z e r =
    let l = r.low in let h = r.high in record { low = omega (arith, ints); high = omega (arith, ints) }
wide-unsigned kind.U16 z e r =
    let l = r.low in let h = r.high in record { low = omega (arith, ints); high = omega (arith, ints) }
wide-unsigned kind.U32 z e r =
    let l = r.low in let h = r.high in record { low = omega (arith, ints); high = omega (arith, ints) }

pub number-signed : (k : IntKind) (v w : ℕ) → is_signed (form_of k) ≡ true → w < 18446744073709551616 →
    (Represents kind.I64 (value_of k v) → value_of kind.I64 w ≡ value_of k v) → twos_complement 64 w ≡ value_of k v
number-signed k v w e l h = sym (value-signed w l) ∙ h (wide-signed k (value_of k v) e (Represents-value_of k v))

pub number-unsigned : (k : IntKind) (v w : ℕ) → is_signed (form_of k) ≡ false → w < 18446744073709551616 →
    (Represents kind.U64 (value_of k v) → value_of kind.U64 w ≡ value_of k v) → pos w ≡ value_of k v
number-unsigned k v w e l h = sym (value-unsigned w l) ∙ h (wide-unsigned k (value_of k v) e (Represents-value_of k v))
