-- Laws of conversion, for the crates above: which numbers a kind keeps, and conversions one after another.
use Rattle.std.proofs.Common.{◌≡◌, ℕ, ◌^◌, ◌<◌, ◌≤◌, ℤ, pos, ap, ◌∙◌, lit<, subst, false}
use Rattle.ck_int.specs.declared.kinds.IntKind.{IntKind}
use Rattle.ck_int.specs.declared.kinds.IntOp.{IntOp}
use Rattle.ck_int.specs.Kinds.{unsigned, modulo, form_of, width_of, is_signed, Represents, IsKept, reduced, kept_of}
use Rattle.ck_int.specs.Kinds.{wrapped, value_of, converted}
use Rattle.ck_int.specs.Arithmetic.{binary_of}
use Rattle.ck_int.proofs.Modulo.{modulo-below}
use Rattle.ck_int.proofs.Forms.{kept-unsigned, kept-unsigned_below, form_of-IsForm, converted_to-kept}
use Rattle.ck_int.proofs.Forms.{converted_to-itself, least-converted_to, converted_to-greatest, converted_to-narrower}
use Rattle.ck_int.proofs.Forms.{modulo-converted_to, width_of-IsForm}

-- ---- numbers of a kind

-- what a number is reduced to is a number of the kind
pub Represents-reduced : (k : IntKind) (z : ℤ) → Represents k (reduced k z)
unfolding reduced
Represents-reduced k z = record {
  low = least-converted_to (form_of k) z (form_of-IsForm k);
  high = converted_to-greatest (form_of k) z (form_of-IsForm k);
}

pub Represents-value_of : (k : IntKind) (v : ℕ) → Represents k (value_of k v)
unfolding value_of
Represents-value_of k v = Represents-reduced k (pos v)

-- a number that the kind has is unchanged (C11 6.3.1.3p1)
pub reduced-represented : (k : IntKind) (z : ℤ) → Represents k z → reduced k z ≡ z
unfolding reduced
reduced-represented k z h = converted_to-itself (form_of k) z (form_of-IsForm k) h.low h.high

-- and another differs from what it is reduced to by a multiple of 2 ^ width (C11 6.3.1.3p2)
pub modulo-reduced : (k : IntKind) (z : ℤ) → 1 < width_of (form_of k) →
    modulo (reduced k z) (2 ^ width_of (form_of k)) ≡ modulo z (2 ^ width_of (form_of k))
unfolding reduced
modulo-reduced k z h = modulo-converted_to (form_of k) z h

-- ---- kept numbers

pub kept_of-below : (z : ℤ) → kept_of z < 2 ^ 64
unfolding kept_of
kept_of-below z = modulo-below z (2 ^ 64) (lit< tt)

pub wrapped-below : (k : IntKind) (z : ℤ) → wrapped k z < 2 ^ 64
unfolding wrapped
wrapped-below k z = kept_of-below (reduced k z)

pub value_of-wrapped : (k : IntKind) (z : ℤ) → value_of k (wrapped k z) ≡ reduced k z
unfolding value_of wrapped kept_of reduced
value_of-wrapped k z = converted_to-kept (form_of k) z (form_of-IsForm k)

-- reducing a number that the kind has keeps it
pub value_of-represented : (k : IntKind) (z : ℤ) → Represents k z → value_of k (wrapped k z) ≡ z
value_of-represented k z h = value_of-wrapped k z ∙ reduced-represented k z h

-- to reduce the number that 64 bits stand for is to reduce the bits
pub wrapped-value_of : (k : IntKind) (v : ℕ) → wrapped k (value_of k v) ≡ wrapped k (pos v)
unfolding value_of wrapped
wrapped-value_of k v = ap kept_of (reduced-represented k (reduced k (pos v)) (Represents-reduced k (pos v)))

-- and where they are kept, it gives them back
pub wrapped-kept : (k : IntKind) (v : ℕ) → IsKept k v → wrapped k (value_of k v) ≡ v
wrapped-kept k v h = wrapped-value_of k v ∙ h.kept

pub IsKept-wrapped : (k : IntKind) (z : ℤ) → IsKept k (wrapped k z)
unfolding value_of wrapped
IsKept-wrapped k z = record { kept = ap kept_of (value_of-wrapped k z) }

pub IsKept-converted : (from to : IntKind) (v : ℕ) → IsKept to (converted from to v)
unfolding converted
IsKept-converted from to v = IsKept-wrapped to (value_of from v)

pub IsKept-binary_of : (op : IntOp) (k : IntKind) (a b : ℕ) → IsKept k (binary_of op k a b)
unfolding binary_of
IsKept-binary_of op k a b = IsKept-wrapped k _

pub IsKept-below : (k : IntKind) (v : ℕ) → IsKept k v → v < 2 ^ 64
IsKept-below k v h = let below : wrapped k (pos v) < 2 ^ 64 = wrapped-below k (pos v) in rw (h.kept) at below

-- a kind without a sign keeps the numbers of its width, as they are
pub IsKept-unsigned : (k : IntKind) (v : ℕ) → is_signed (form_of k) ≡ false → v < 2 ^ width_of (form_of k) → IsKept k v
unfolding wrapped reduced kept_of
IsKept-unsigned k v s h = record { kept = kept-unsigned (form_of k) v (form_of-IsForm k) s h }

pub IsKept-unsigned_below : (k : IntKind) (v : ℕ) → is_signed (form_of k) ≡ false → IsKept k v →
    v < 2 ^ width_of (form_of k)
unfolding wrapped reduced kept_of
IsKept-unsigned_below k v s h =
    subst (λ n. n < 2 ^ width_of (form_of k)) h.kept (kept-unsigned_below (form_of k) (pos v) s)

-- ---- conversions

pub converted-below : (from to : IntKind) (v : ℕ) → converted from to v < 2 ^ 64
unfolding converted
converted-below from to v = wrapped-below to (value_of from v)

pub value_of-converted : (from to : IntKind) (v : ℕ) → value_of to (converted from to v) ≡ reduced to (value_of from v)
unfolding converted
value_of-converted from to v = value_of-wrapped to (value_of from v)

-- the conversion of a kind to itself
pub converted-same : (k : IntKind) (v : ℕ) → IsKept k v → converted k k v ≡ v
unfolding converted
converted-same k v h = wrapped-kept k v h

-- a conversion through a kind that has the number
pub converted-through : (from by to : IntKind) (v : ℕ) → Represents by (value_of from v) →
    converted by to (converted from by v) ≡ converted from to v
unfolding converted
converted-through from by to v h = ap (wrapped to) (value_of-represented by (value_of from v) h)

-- a conversion to a kind that is no wider than the one before it
pub reduced-narrower : (by to : IntKind) (z : ℤ) → 1 < width_of (form_of to) →
    width_of (form_of to) ≤ width_of (form_of by) → reduced to (reduced by z) ≡ reduced to z
unfolding reduced
reduced-narrower by to z h le = converted_to-narrower (form_of by) (form_of to) z h le

pub converted-narrower : (from by to : IntKind) (v : ℕ) → 1 < width_of (form_of to) →
    width_of (form_of to) ≤ width_of (form_of by) → converted by to (converted from by v) ≡ converted from to v
unfolding converted wrapped
converted-narrower from by to v h le =
    ap (wrapped to) (value_of-wrapped by (value_of from v)) ∙ ap kept_of (reduced-narrower by to (value_of from v) h le)

-- the low 64 bits of a number are enough to reduce it to a kind other than `_Bool`
pub wrapped-kept_of : (k : IntKind) (z : ℤ) → 1 < width_of (form_of k) → wrapped k (pos (kept_of z)) ≡ wrapped k z
unfolding wrapped reduced kept_of
wrapped-kept_of k z h = ap kept_of (converted_to-narrower (unsigned 64) (form_of k) z h
    (width_of-IsForm (form_of k) (form_of-IsForm k)))
