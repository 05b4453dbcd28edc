use Rattle.std.proofs.Common.{◌≡◌, ℕ, false, nat_eq, List, [], ◌∷◌, length, refl, sym, ◌∙◌}
use Rattle.std.specs.Char.{is_digit}
use Rattle.std.specs.List.{list_all}
use Rattle.ck_base.specs.Literals.{are_digits}
use Rattle.line_marks.proofs.markers.is_decimal.Goals as goal

digits : (word : List ℕ) → nat_eq (length word) 0 ≡ false → list_all (λ b. is_digit b 10) word ≡ are_digits 10 word
digits [] some = cc
digits (d ∷ ds) some = refl

pub returns-then-not-is_empty : goal.returns-then-not-is_empty
returns-then-not-is_empty c =
    c.are_all_digits.ensures ∙ digits c.args.word.now (sym c.is_empty.ensures ∙ c.if-not-is_empty.true)
