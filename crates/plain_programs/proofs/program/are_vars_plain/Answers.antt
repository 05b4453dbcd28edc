use Rattle.std.proofs.Common.{◌≡◌, ℕ, ◌<◌, false, get_or}
use Rattle.std.proofs.lemmas.Option.{slice_get-get_or}
use Rattle.c_tree.specs.declared.typed.VarDef.{VarDef}
use Rattle.c_tree.specs.Passed.{by_pointer}
use Rattle.passing_steps.specs.Numbered.{type_in}
use Rattle.ordered_programs.proofs.Each.{one_more, all_come}
use Rattle.plain_programs.proofs.program.are_vars_plain.Goals as goal

pub loop-k-preserved : goal.loop-k-preserved
loop-k-preserved c =
    let xs = c.args.vars.now in
    let i = c.loop-k.k in
    let d : VarDef = record {
      name = record { start = 0; end = 0 };
      pos = record { line = 0; col = 0 };
      of = 0;
      simple = false;
    } in
    one_more (λ (j : ℕ) (v : VarDef). j < c.args.count → by_pointer (type_in c.args.types.now v.of) ≡ false) xs i
    (get_or xs i d) (slice_get-get_or xs i d c.loop-k-test.true) c.loop-k.invariant
    (c.is_var_plain.ensures c.if-not-is_var_plain.false)

pub returns : goal.returns
returns c = λ e.
    all_come (λ (j : ℕ) (v : VarDef). j < c.args.count → by_pointer (type_in c.args.types.now v.of) ≡ false)
    c.args.vars.now c.loop-k.k c.loop-k-test.false c.loop-k.invariant
