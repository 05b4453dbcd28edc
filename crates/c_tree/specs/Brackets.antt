-- How deep brackets stand in one another.
use Rattle.std.specs.Prelude.{ℕ, ◌+◌, ℤ, pos, negsuc, ◌+ℤ◌, if◌then◌else◌, List, [], ◌∷◌, Option, Some, None}
use Rattle.std.specs.Ordering.{int_eq}
use Rattle.ck_base.specs.declared.positions.Pos.{Pos}
use Rattle.ck_base.specs.Tokens.{Lexeme}
use Rattle.c_tree.specs.declared.syntax.Symbol.{Symbol}
use Rattle.c_tree.specs.declared.syntax.Symbol.TheVariants.{OpenParenthesis, CloseParenthesis, OpenBracket}
use Rattle.c_tree.specs.declared.syntax.Symbol.TheVariants.{CloseBracket, OpenBrace, CloseBrace}
use Rattle.c_tree.specs.Symbols.{symbol}

-- the greatest height of a tree, and the greatest excess of brackets
abbrev pub height_limit : ℕ
height_limit = 200

-- how a token changes the excess of opening over closing brackets, of all three kinds
abbrev pub opens : Symbol → ℤ
opens OpenParenthesis = pos 1
opens OpenBracket = pos 1
opens OpenBrace = pos 1
opens CloseParenthesis = negsuc 0
opens CloseBracket = negsuc 0
opens CloseBrace = negsuc 0
opens s = pos 0

-- the first bracket with which the excess reaches one more than the limit, from an excess on
abbrev pub excess_from : ℤ → List Lexeme → Option Pos
excess_from z [] = None
excess_from z (t ∷ ts) =
    (if int_eq (z +ℤ opens (symbol t)) (pos (height_limit + 1)) then Some t.pos
    else excess_from (z +ℤ opens (symbol t)) ts)

abbrev pub excess : List Lexeme → Option Pos
excess tokens = excess_from (pos 0) tokens
