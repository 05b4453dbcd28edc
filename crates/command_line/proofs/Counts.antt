-- A word that is a number of functions.
use Rattle.std.proofs.Common.{◌≡◌, ℕ, ◌≤◌, ◌<◌, ◌^◌, List, Result, Ok, false, true, sym, ◌∙◌, arith, decimal}
use Rattle.std.proofs.lemmas.Bool.{false≢true}
use Rattle.std.proofs.lemmas.Fmt.{parse-decimal}
use Rattle.std.proofs.lemmas.Slice.Eq.{bytes_eq-Decides}
use Rattle.std.specs.Str.{bytes_eq}
use Rattle.std.specs.Str.Parse.{ParsesUnsigned}
use Rattle.command_line.specs.Lines.{IsCount}

-- is read as that number
pub count_read : {E : Type 0} (word : List ℕ) (n : ℕ) (r : Result ℕ E) → ParsesUnsigned 32 10 word r → IsCount word n →
    r ≡ Ok n
count_read word n r parsed count =
    let small = count.at_most in
    parse-decimal 32 n word r (omega arith) (omega arith) count.is parsed

-- texts that differ are not equal
pub differ : (xs ys : List ℕ) → bytes_eq xs ys ≡ false → xs ≡ ys → ⊥
differ xs ys other same = false≢true (sym other ∙ (bytes_eq-Decides xs ys).1 same)
