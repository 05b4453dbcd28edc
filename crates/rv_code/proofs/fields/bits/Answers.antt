use Rattle.std.proofs.Common.{◌≡◌, ◌<◌, ◌+◌, ◌-◌, ◌*◌, ◌%◌, ◌^◌, ℕ, refl, arith}
use Rattle.std.proofs.lemmas.Nat.{and_mask, pow_below}
use Rattle.rv_code.proofs.fields.bits.Goals as goal

pub returns-clause-value : goal.returns-clause-value
returns-clause-value c =
    let k : ℕ = c.args.high + 1 - c.args.low in
    let below : 2 ^ k < 2 ^ 32 = pow_below k 32 (omega arith) in
    let mask : 1 * 2 ^ k % 4294967296 ≡ 2 ^ k = omega arith in
    rw (mask, and_mask) refl
