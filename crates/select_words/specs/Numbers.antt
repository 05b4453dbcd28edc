-- Words that make a number.
use Rattle.std.specs.Prelude.{◌≡◌, ℕ, ◌<◌, List, [], ◌∷◌, length}
use Rattle.rv_instr.specs.declared.instr.Instr.{Instr}
use Rattle.purecap_abi.specs.Numbers.{number_after, IsNumberWord}

-- words of which numbers are made, all in a register
abbrev pub AreNumberWords : ℕ → List Instr → Type 0
AreNumberWords to [] = Unit {0}
AreNumberWords to (i ∷ is) = IsNumberWord to i × AreNumberWords to is

-- they make this number of the register, whatever it was
pub record MakesNumber (to value : ℕ) (words : List Instr) : Type 0 where
  pub own : AreNumberWords to words
  pub some : 0 < length words
  pub made : (x : ℕ) → number_after words x ≡ value
