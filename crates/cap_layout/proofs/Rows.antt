-- Rows of rows of elements.
use Rattle.std.proofs.Common.{◌≡◌, ℕ, zero, suc, ◌-◌, ◌*◌, ◌<◌, ◌≤◌, List, Option, Some, None, Result, Err, refl, sym}
use Rattle.std.proofs.Common.{ap, subst, ◌∙◌, arith, inl, inr}
use Rattle.std.specs.Prelude.{slice_get}
use Rattle.std.proofs.Math.Nat.{mul_assoc, mul_comm, mul-le-mul_left}
use Rattle.std.proofs.lemmas.Bool.{cases_lt}
use Rattle.c_tree.specs.declared.typed.CType.{CType}
use Rattle.c_tree.specs.Layout.{Extent, size_limit, with_extent, times, extent_of, extent_within}
use Rattle.cap_layout.specs.declared.answers.LayoutFault.{LayoutFault}
use Rattle.cap_layout.specs.declared.answers.LayoutFault.TheVariants.{TooLarge, Incomplete}
use Rattle.cap_layout.specs.Answers.{Layout, Fits, Exceeds, IsLayout, extent_is, greatest_align}
use Rattle.cap_layout.specs.Walks.{capped, IsRow}

pub extent_step : (types : List CType) (d t : ℕ) → 0 < d →
    extent_within d types t ≡ extent_of (slice_get types t) (extent_within (d - 1) types)
unfolding extent_within
extent_step types zero t h = absurd (omega arith)
extent_step types (suc d) t h = let e : suc d - 1 ≡ d = omega arith in rw e refl

pub times_positive : (k : ℕ) (x : Extent) → 0 < k → times k x ≡ Some (record { size = k * x.size; align = x.align })
times_positive zero x h = absurd (omega arith)
times_positive (suc k) x h = refl

pub extent_zero : (types : List CType) (d t : ℕ) → d ≤ 0 → extent_within d types t ≡ None
unfolding extent_within
extent_zero types zero t h = refl
extent_zero types (suc d) t h = absurd (omega arith)

pub row_none : (o e : Option Extent) (c : ℕ) → IsRow o e c → e ≡ None → o ≡ None
row_none o e c r h = r.is ∙ ap (λ p. with_extent p (times r.number)) h

none_row : (e : Option Extent) (n : ℕ) → n ≡ 0 → with_extent e (times n) ≡ None
none_row None n h = refl
none_row (Some x) n h = ap (λ m. times m x) h

pub row_zero : (o e f : Option Extent) (c n : ℕ) → IsRow o e c → e ≡ with_extent f (times n) → n ≡ 0 → o ≡ None
row_zero o e f c n r h z = row_none o e c r (h ∙ none_row f n z)

once : (o : Option Extent) → o ≡ with_extent o (times 1)
once None = refl
once (Some x) = let e : x.size ≡ 1 * x.size = omega arith in
    ap (λ (n : ℕ). Some (record { size = n; align = x.align })) e

pub row_start : (o : Option Extent) → IsRow o o 1
row_start o = record { number = 1; positive = omega arith; count_is = refl; is = once o }

pub row_at : (o e f : Option Extent) (c : ℕ) → IsRow o e c → e ≡ f → IsRow o f c
row_at o e f c r h = subst (λ p. IsRow o p c) h r

twice : (e : Option Extent) (k n : ℕ) → 0 < k → 0 < n →
    with_extent (with_extent e (times n)) (times k) ≡ with_extent e (times (k * n))
twice None k n p q = refl
twice (Some x) k n p q =
    let r : 0 < k * n = omega (arith, mul-le-mul_left k q) in
    ap (λ o. with_extent o (times k)) (times_positive n x q) ∙ times_positive k _ p
    ∙ ap (λ (m : ℕ). Some (record { size = m; align = x.align })) (sym (mul_assoc k n x.size))
    ∙ sym (times_positive (k * n) x r)

pub row_more : (o e f : Option Extent) (c n d : ℕ) → IsRow o e c → e ≡ with_extent f (times n) → 0 < n →
    ((k : ℕ) → c ≡ capped k → 0 < n → d ≡ capped (k * n)) → IsRow o f d
row_more o e f c n d r h p g =
    record {
      number = r.number * n;
      positive = omega (arith, mul-le-mul_left r.number p, r.positive);
      count_is = g r.number r.count_is p;
      is = r.is ∙ ap (λ q. with_extent q (times r.number)) h ∙ twice f r.number n r.positive p;
    }

-- ---- answers

pub layout_at : (o p : Option Extent) (r : Result Layout LayoutFault) → o ≡ p → IsLayout p r → IsLayout o r
layout_at o p r e h = subst (λ q. IsLayout q r) (sym e) h

pub row_layout : (o e : Option Extent) (c : ℕ) (x : Extent) (r : Result Layout LayoutFault) → IsRow o e c → e ≡ Some x →
    ((k : ℕ) → 0 < k → c ≡ capped k → IsLayout (times k x) r) → IsLayout o r
row_layout o e c x r w h g =
    layout_at o (times w.number x) r (w.is ∙ ap (λ p. with_extent p (times w.number)) h)
    (g w.number w.positive w.count_is)

over : (k : ℕ) (x : Extent) → 0 < k → size_limit < x.size → Exceeds (times k x)
over k x p h =
    record {
      extent = record { size = k * x.size; align = x.align };
      is = times_positive k x p;
      over = omega (arith, h, mul-le-mul_left x.size p, mul_comm k x.size);
    }

-- a fault of the element is one of the row
pub row_fault : (o e : Option Extent) (c : ℕ) (f : LayoutFault) → IsRow o e c → IsLayout e (Err f) → IsLayout o (Err f)
row_fault o e c TooLarge r h =
    layout_at o (times r.number h.extent) (Err TooLarge) (r.is ∙ ap (λ p. with_extent p (times r.number)) h.is)
    (over r.number h.extent r.positive h.over)
row_fault o e c Incomplete r h = row_none o e c r h

-- the size of a row, where the code's number of elements is within the limit or the elements have no bytes
pub row_size : (s k c : ℕ) → c ≡ capped k → s * c ≤ size_limit → k * s ≡ s * c
row_size s k c e h =
    elim (cases_lt k 67108866) as (λ _. k * s ≡ s * c) [
      | inl lt ↦ let f : c ≡ k = omega arith in mul_comm k s ∙ ap (λ n. s * n) (sym f)
      | inr le ↦
          let f : c ≡ 67108865 = omega arith in
          let g : s * 67108865 ≤ size_limit = subst (λ n. s * n ≤ size_limit) f h in
          let z : s ≡ 0 = omega arith in
          rw z (omega arith)
    ]

pub row_fits : (l : Layout) (c : ℕ) → l.size * c ≤ size_limit → 0 < l.align → l.align ≤ greatest_align → (k : ℕ) →
    0 < k → c ≡ capped k → Fits (times k (extent_is l)) (record { size = l.size * c; align = l.align })
row_fits l c h p a k q e =
    record {
      is = times_positive k (extent_is l) q
          ∙ ap (λ (n : ℕ). Some (record { size = n; align = l.align })) (row_size l.size k c e h);
      size = h;
      positive = p;
      align = a;
    }
