use Rattle.std.proofs.Common.{ℕ, ◌<◌, false, get_or, arith}
use Rattle.std.proofs.lemmas.Option.{slice_get-get_or}
use Rattle.c_tree.specs.declared.typed.VarDef.{VarDef}
use Rattle.ordered_programs.proofs.Each.{one_more, all_come}
use Rattle.ordered_programs.proofs.types.are_vars_typed.Goals as goal

pub loop-v-preserved : goal.loop-v-preserved
loop-v-preserved c =
    let xs = c.args.vars.now in
    let i = c.loop-v.v-index in
    let d : VarDef = record {
      name = record { start = 0; end = 0 };
      pos = record { line = 0; col = 0 };
      of = 0;
      simple = false;
    } in
    one_more (λ (j : ℕ) (x : VarDef). x.of < c.args.n) xs i (get_or xs i d) (slice_get-get_or xs i d c.loop-v-test.true)
    c.loop-v.invariant (omega arith)

pub returns : goal.returns
returns c = λ e.
    all_come (λ (j : ℕ) (x : VarDef). x.of < c.args.n) c.args.vars.now c.loop-v.v-index
    c.loop-v-test.false c.loop-v.invariant
