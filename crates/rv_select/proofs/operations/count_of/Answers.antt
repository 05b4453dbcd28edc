use Rattle.std.proofs.Common.{ℤ, w32, of_z, ap, sym, ◌∙◌, ◌%◌}
use Rattle.std.proofs.lemmas.Int.{to_z-of_z}
use Rattle.cap_machine.specs.Integers.{extended}
use Rattle.rv_select.proofs.Planned.{low_six, low_five, wide_width, word_width}
use Rattle.rv_select.proofs.operations.count_of.Goals as goal

pub returns-in-I64 : goal.returns-in-I64
returns-in-I64 c = λ h.
    let z = c.args.number in
    ap (λ n. n % 64) c.cast_unsigned.ensures ∙ ap (λ (x : ℤ). of_z w32 x % 64) (to_z-of_z w32 z c.ranges.number)
    ∙ low_six z c.ranges.number ∙ ap (λ n. extended z % n) (sym (wide_width c.args.kind c.in-I64.is))

pub returns-in_default : goal.returns-in_default
returns-in_default c = λ h.
    let z = c.args.number in
    ap (λ n. n % 32) c.cast_unsigned-in_default.ensures
    ∙ ap (λ (x : ℤ). of_z w32 x % 32) (to_z-of_z w32 z c.ranges.number) ∙ low_five z c.ranges.number
    ∙ ap (λ n. extended z % n) (sym (word_width c.args.kind c.in_default.not-I64 c.in_default.not-U64 h))
