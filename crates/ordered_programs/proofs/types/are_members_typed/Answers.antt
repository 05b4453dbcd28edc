use Rattle.std.proofs.Common.{ℕ, ◌<◌, get_or, arith}
use Rattle.std.proofs.lemmas.Option.{slice_get-get_or}
use Rattle.c_tree.specs.declared.typed.Member.{Member}
use Rattle.ordered_programs.proofs.Each.{one_more, all_come}
use Rattle.ordered_programs.proofs.types.are_members_typed.Goals as goal

pub loop-m-preserved : goal.loop-m-preserved
loop-m-preserved c =
    let xs = c.args.members.now in
    let i = c.loop-m.m-index in
    let d : Member = record { name = record { start = 0; end = 0 }; of = 0 } in
    one_more (λ (j : ℕ) (x : Member). x.of < c.args.n) xs i (get_or xs i d) (slice_get-get_or xs i d c.loop-m-test.true)
    c.loop-m.invariant (omega arith)

pub returns : goal.returns
returns c = λ e.
    all_come (λ (j : ℕ) (x : Member). x.of < c.args.n) c.args.members.now c.loop-m.m-index
    c.loop-m-test.false c.loop-m.invariant
