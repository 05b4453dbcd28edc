use Rattle.std.proofs.Common.{◌≡◌, ◌<◌, ◌*◌, ◌%◌, ◌^◌, arith}
use Rattle.std.proofs.lemmas.Int.{ints}
use Rattle.std.proofs.lemmas.Nat.{pow_below}
use Rattle.rv_code.proofs.decoding.sign_extended.Goals as goal

pub overflow_sub-result : goal.overflow_sub-result
overflow_sub-result c =
    let below : 2 ^ c.args.width < 2 ^ 31 = pow_below c.args.width 31 (omega arith) in
    let power : 1 * 2 ^ c.args.width % 4294967296 ≡ 2 ^ c.args.width = omega arith in
    rw power (search (arith, ints))
