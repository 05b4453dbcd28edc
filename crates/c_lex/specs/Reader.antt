-- What contracts see of a reader of tokens.
use Rattle.std.specs.Prelude.{ℕ, ◌≤◌, List, length}
use Rattle.c_lex.specs.declared.places.Place.{Place}
use Rattle.c_lex.specs.Pieces.{IsPlaceOf}

-- the file, and how many of its bytes were read
pub record Reader : Type 0 where
  pub file : List ℕ
  pub at : ℕ

-- the file is small enough, and the place is one of it
pub record IsReader (file : List ℕ) (place : Place) : Type 0 where
  pub small : length file ≤ 4_194_304
  pub of_file : IsPlaceOf file place
