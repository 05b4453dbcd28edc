-- The integer types.
use Rattle.std.proofs.Common.{◌≡◌, ℕ, ◌+◌, false, ltb, ap, arith, cond}
use Rattle.std.proofs.lemmas.Bool.{le-ltb}
use Rattle.c_tree.specs.Types.{Int, int, promoted}
use Rattle.ck_int.specs.declared.kinds.IntKind.TheVariants as kind

high : (n : ℕ) → ltb (4 + n) 3 ≡ false
high n = le-ltb (4 + n) 3 (omega arith)

pub promoted_long : (n : ℕ) → promoted (Int kind.I64 n) ≡ Int kind.I64 n
promoted_long n = ap (λ b. cond b int (Int kind.I64 n)) (high n)

pub promoted_unsigned_long : (n : ℕ) → promoted (Int kind.U64 n) ≡ Int kind.U64 n
promoted_unsigned_long n = ap (λ b. cond b int (Int kind.U64 n)) (high n)
