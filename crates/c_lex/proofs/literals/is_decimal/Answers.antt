use Rattle.std.proofs.Common.{◌≡◌, ℕ, false, nat_eq, List, [], ◌∷◌, length, sym, ◌∙◌}
use Rattle.std.specs.Char.{is_digit}
use Rattle.std.specs.List.{prefix_len}
use Rattle.ck_base.specs.Literals.{are_digits}
use Rattle.c_lex.proofs.Runs.{run_whole}
use Rattle.c_lex.proofs.literals.is_decimal.Goals as goal

digits : (text : List ℕ) → nat_eq (length text) 0 ≡ false →
    nat_eq (prefix_len (λ b. is_digit b 10) text) (length text) ≡ are_digits 10 text
digits [] some = cc
digits (d ∷ ds) some = run_whole (λ b. is_digit b 10) (d ∷ ds)

pub returns-then-not-is_empty : goal.returns-then-not-is_empty
returns-then-not-is_empty c =
    rw c.digits_length.ensures.value (digits c.args.text.now (sym c.is_empty.ensures ∙ c.if-not-is_empty.true))
