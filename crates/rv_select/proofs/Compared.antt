-- What is appended for comparisons.
use Rattle.std.proofs.Common.{◌≡◌, ℕ, ℤ, pos, Bool, true, refl, subst}
use Rattle.std.specs.Prelude.{Some}
use Rattle.ck_int.specs.Kinds.{kept_of}
use Rattle.ck_int.specs.declared.kinds.CmpOp.{CmpOp}
use Rattle.ck_int.specs.declared.kinds.CmpOp.TheVariants as test
use Rattle.cap_machine.specs.Integers.{extended}
use Rattle.tac_ir.specs.declared.code.TacKind.{TacKind}
use Rattle.select_words.specs.Selecting.{Selecting}
use Rattle.select_words.specs.Emitted.{IsNumber}
use Rattle.select_words.specs.Forms.{OfOne, OfTwo, Other}
use Rattle.select_words.specs.Operations as words
use Rattle.select_words.specs.Operations.{compares_signed, compare_code, compare_number, compare_zero, ComparisonWords}
use Rattle.rv_emit.specs.Growing.{Size, Puts}
use Rattle.rv_select.specs.Work.{is_equality, takes_number}
use Rattle.rv_idioms.specs.Operations.{zero_code, number_code}
use Rattle.rv_emit.proofs.Appended.{puts_map}

-- the words of an operation that has such a form
pub zero_form : (o : CmpOp) (r x : ℕ) → is_equality o ≡ true → Some (zero_code o r x) ≡ compare_zero o r x
zero_form test.Eq r x e = refl
zero_form test.Ne r x e = refl
zero_form test.Lt r x e = absurd cc
zero_form test.Gt r x e = absurd cc
zero_form test.Le r x e = absurd cc
zero_form test.Ge r x e = absurd cc

pub number_form : (o : CmpOp) (signed : Bool) (z : ℤ) (r x : ℕ) → takes_number o ≡ true
    → Some (number_code o signed z r x) ≡ compare_number o signed z r x
number_form test.Eq signed z r x e = refl
number_form test.Ne signed z r x e = refl
number_form test.Lt signed z r x e = refl
number_form test.Ge signed z r x e = refl
number_form test.Gt signed z r x e = absurd cc
number_form test.Le signed z r x e = absurd cc

module _ (s : Selecting) (o : CmpOp) (k : TacKind) (to a b : ℕ) (old new : Size) where
  pub with_zero : (z : ℤ) → z ≡ pos 0 → IsNumber s b (extended z)
      → Puts (OfOne s to a (λ r x ws. Some ws ≡ compare_zero o r x)) old new
      → Puts (ComparisonWords s o k to a b) old new
  unfolding kept_of
  with_zero z e n p = puts_map (OfOne s to a (λ r x ws. Some ws ≡ compare_zero o r x)) (ComparisonWords s o k to a b)
      old new (λ ws w. words.Zero (subst (λ v. IsNumber s b (extended v)) e n) w) p

  pub with_number : (z : ℤ) (signed : Bool) → signed ≡ compares_signed k → IsNumber s b (extended z)
      → Puts (OfOne s to a (λ r x ws. Some ws ≡ compare_number o signed z r x)) old new
      → Puts (ComparisonWords s o k to a b) old new
  with_number z signed e n p = puts_map (OfOne s to a (λ r x ws. Some ws ≡ compare_number o signed z r x))
      (ComparisonWords s o k to a b) old new
      (λ ws w. words.Number (extended z) z n refl
      (subst (λ g. OfOne s to a (λ r x vs. Some vs ≡ compare_number o g z r x) ws) e w)) p

  pub of_registers : (signed : Bool) → signed ≡ compares_signed k
      → Puts (OfTwo s to a (Other s b) (λ r x y ws. ws ≡ compare_code o signed r x y)) old new
      → Puts (ComparisonWords s o k to a b) old new
  of_registers signed e p = puts_map (OfTwo s to a (Other s b) (λ r x y ws. ws ≡ compare_code o signed r x y))
      (ComparisonWords s o k to a b) old new
      (λ ws w. words.Both (subst (λ g. OfTwo s to a (Other s b) (λ r x y vs. vs ≡ compare_code o g r x y) ws) e w)) p
