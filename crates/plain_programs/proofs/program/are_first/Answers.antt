use Rattle.std.proofs.Common.{◌≡◌, ℕ, get_or, arith}
use Rattle.std.proofs.lemmas.Option.{slice_get-get_or}
use Rattle.ordered_programs.proofs.Each.{one_more, all_come}
use Rattle.plain_programs.proofs.program.are_first.Goals as goal

pub loop-k-preserved : goal.loop-k-preserved
loop-k-preserved c =
    let ks = c.args.params.now in
    let i = c.loop-k.k in
    one_more (λ (j k : ℕ). k ≡ j) ks i (get_or ks i 0) (slice_get-get_or ks i 0 c.loop-k-test.true) c.loop-k.invariant
    (omega arith)

pub returns : goal.returns
returns c = λ e. all_come (λ (j k : ℕ). k ≡ j) c.args.params.now c.loop-k.k c.loop-k-test.false c.loop-k.invariant
