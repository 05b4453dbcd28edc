use Rattle.std.proofs.Common.{◌≡◌, ℕ, ◌+◌, ◌≤◌, List, length, drop, sym, arith, length-drop}
use Rattle.std.specs.Prelude.{Some}
use Rattle.std.proofs.lemmas.List.{take_rest}
use Rattle.c_lex.specs.Spelled.{escape_at}
use Rattle.c_lex.proofs.Escapes.{escape_found, escape_within}
use Rattle.c_lex.proofs.literals.character.Goals as goal

-- an escape sequence lies in the bytes behind its backslash
within : (bytes : List ℕ) (value n : ℕ) → 1 ≤ length bytes → Some (value, n) ≡ escape_at (drop 1 bytes) →
    n + 1 ≤ length bytes
within bytes value n some found =
    omega (arith, escape_within (escape_found (drop 1 bytes) (value, n) (sym found)), length-drop 1 bytes)

pub overflow_add-result : goal.overflow_add-result
overflow_add-result c =
    let fits = within c.args.bytes.now _ _ (omega arith) (rw (take_rest c.args.bytes.now 1) at c.in-Some.ensures) in
    omega arith

pub returns-in-Some-clause-within : goal.returns-in-Some-clause-within
returns-in-Some-clause-within c =
    let fits = within c.args.bytes.now _ _ (omega arith) (rw (take_rest c.args.bytes.now 1) at c.in-Some.ensures) in
    (omega arith, fits)
