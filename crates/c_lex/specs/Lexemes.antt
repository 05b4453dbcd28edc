-- The tokens of the reader, as the definitions see them.
use Rattle.ck_base.specs.Tokens.{Lexeme}
use Rattle.c_lex.specs.declared.tokens.Token.{Token}

-- a token without where its bytes lie in memory
abbrev pub lexeme_of : Token → Lexeme
lexeme_of token = record { kind = token.kind; text = token.text.now; span = token.span; pos = token.pos }
