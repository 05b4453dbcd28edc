-- How many brackets a token opens, and how many it closes.
use Rattle.std.specs.Prelude.{ℕ, ℤ, pos, ◌+ℤ◌}
use Rattle.std.proofs.Common.{neg_ℤ}
use Rattle.c_tree.specs.declared.syntax.Symbol.{Symbol}
use Rattle.c_tree.specs.declared.syntax.Symbol.TheVariants.{OpenParenthesis, CloseParenthesis, OpenBracket}
use Rattle.c_tree.specs.declared.syntax.Symbol.TheVariants.{CloseBracket, OpenBrace, CloseBrace}

abbrev pub opening : Symbol → ℕ
opening OpenParenthesis = 1
opening OpenBracket = 1
opening OpenBrace = 1
opening _ = 0

abbrev pub closing : Symbol → ℕ
closing CloseParenthesis = 1
closing CloseBracket = 1
closing CloseBrace = 1
closing _ = 0

-- so many more were opened than closed
abbrev pub gap : ℕ → ℕ → ℤ
gap o c = pos o +ℤ neg_ℤ (pos c)
