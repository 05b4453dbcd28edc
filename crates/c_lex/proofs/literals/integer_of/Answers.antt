use Rattle.std.proofs.Common.{◌≡◌, ℕ, ◌≤◌, List, false, length, refl, ap, sym, ◌∙◌, arith}
use Rattle.std.specs.Prelude.{Some, nat_eq}
use Rattle.std.proofs.lemmas.Bool.{eqb-true, eqb-false}
use Rattle.std.proofs.lemmas.Option.{none-some}
use Rattle.ck_base.specs.declared.tokens.Integer.{Integer}
use Rattle.c_lex.specs.Spelled.{suffix_at, has_type}
use Rattle.c_lex.proofs.Tables.{never}
use Rattle.c_lex.proofs.Integers.{Found, run_at, behind_at, reading, made, found_reading, found_only}
use Rattle.c_lex.proofs.literals.integer_of.Goals as goal
use Rattle.c_lex.proofs.literals.integer_of.Goals.{In_ok-unsigned}

-- what was found, where the digits have a value and the suffix is one
constant : (c : In_ok-unsigned) → Integer
constant c = record {
  value = c.in_ok-value.value;
  unsigned = c.in_ok-unsigned.unsigned;
  longs = c.in_ok-unsigned.longs;
  decimal = nat_eq c.digits_of-base.result.0 10;
}

found : (c : In_ok-unsigned) →
    Found c.args.text.now (constant c) c.digits_of-base.result.0 c.split_at.result.0.now c.split_at.result.1.now
unfolding constant
found c =
    let part = c.digits_of-base.ensures in
    record {
      based = part.base;
      run = run_at _ _ _ _ _ c.split_at.ensures.front c.digits_length.ensures.value part.base part.digits;
      rest = behind_at _ _ _ _ _ c.split_at.ensures.back c.digits_length.ensures.value part.base part.digits;
      value = c.in_ok-value.ensures.1;
      suffix = c.in_ok-unsigned.ensures;
      ten = refl;
    }

pub returns-then-is_empty-clause-only : goal.returns-then-is_empty-clause-only
returns-then-is_empty-clause-only c = λ n is.
    let part = c.digits_of-base.ensures in
    let run = run_at _ _ _ _ _ c.split_at.ensures.front c.digits_length.ensures.value part.base part.digits in
    let none : length c.split_at.result.0.now ≡ 0 = eqb-true _ 0 (sym c.is_empty.ensures ∙ c.if-is_empty.true) in
    absurd (omega (arith, (reading c.args.text.now n is).some, ap length run, none))

pub returns-in_err-value-clause-only : goal.returns-in_err-value-clause-only
returns-in_err-value-clause-only c = λ n is.
    let part = c.digits_of-base.ensures in
    let run = run_at _ _ _ _ _ c.split_at.ensures.front c.digits_length.ensures.value part.base part.digits in
    let parts = reading c.args.text.now n is in
    absurd ((rw (part.base, run, ← parts.value) at c.in_err-value.ensures) parts.fits)

pub returns-in_err-unsigned-clause-only : goal.returns-in_err-unsigned-clause-only
returns-in_err-unsigned-clause-only c = λ n is.
    let part = c.digits_of-base.ensures in
    let rest = behind_at _ _ _ _ _ c.split_at.ensures.back c.digits_length.ensures.value part.base part.digits in
    let said : suffix_at c.split_at.result.1.now ≡ Some (n.unsigned, n.longs) =
    ap suffix_at rest ∙ (reading c.args.text.now n is).suffix in
    absurd (none-some (n.unsigned, n.longs) (sym c.in_err-unsigned.was ∙ c.suffix_of.ensures ∙ said))

pub returns-then-not-has_type-clause-only : goal.returns-then-not-has_type-clause-only
unfolding constant
returns-then-not-has_type-clause-only c = λ n is.
    let parts = reading c.args.text.now n is in
    let same = found_only _ _ n _ _ _ (found (goal.at.returns-then-not-has_type-clause-only c).In_ok-unsigned) parts in
    let typed = ap (λ (m : Integer). has_type m.value m.unsigned m.decimal) same ∙ parts.typed in
    let untyped = sym c.has_type.ensures ∙ c.if-not-has_type.true in
    absurd (never _ untyped typed)

pub returns-clause-found : goal.returns-clause-found
unfolding constant
returns-clause-found c =
    made c.args.text.now _ (found_reading _ _ _ _ _ (found (goal.at.returns-clause-found c).In_ok-unsigned)
    (some c.split_at.result.0.now (sym c.is_empty.ensures ∙ c.if-is_empty.false)) c.in_ok-value.ensures.0
    (sym c.has_type.ensures ∙ c.if-not-has_type.false))
  where
    some : (front : List ℕ) → nat_eq (length front) 0 ≡ false → 1 ≤ length front
    some front e = let h = eqb-false (length front) 0 e in omega (arith, h)

pub returns-clause-only : goal.returns-clause-only
unfolding constant
returns-clause-only c = λ n is. ap Some (found_only _ _ n _ _ _ (found (goal.at.returns-clause-only c).In_ok-unsigned)
    (reading c.args.text.now n is))
