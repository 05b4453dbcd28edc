-- The first of some tokens.
use Rattle.std.specs.Prelude.{◌≡◌, List, [], ◌∷◌, Option, MatchOption}
use Rattle.std.specs.Borrow.{Bor}
use Rattle.ck_base.specs.Tokens.{Lexeme}
use Rattle.c_phrases.specs.Reading.{past}

-- the tokens begin with this one, or there are none
abbrev pub Begins : List Lexeme → Option (Bor Lexeme) → Type 0
Begins ts first = MatchOption first (ts ≡ []) (λ t. ts ≡ t.now ∷ past ts)
