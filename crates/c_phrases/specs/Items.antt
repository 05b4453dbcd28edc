-- Tokens with what they are to the grammar.
use Rattle.std.specs.Prelude.{◌≡◌, ℕ, ◌+◌, ◌<◌, ◌^◌, List, length}
use Rattle.ck_base.specs.declared.tokens.TokenKind.{TokenKind}
use Rattle.c_tree.specs.declared.syntax.Symbol.{Symbol}
use Rattle.c_tree.specs.Symbols.{symbol_of}

-- the symbol is that of the token, which ends within the range of places
pub record IsItem (kind : TokenKind) (symbol : Symbol) (start : ℕ) (text : List ℕ) : Type 0 where
  pub known : symbol ≡ symbol_of kind text
  pub within : start + length text < 2 ^ 32
