use Rattle.std.proofs.Common.{◌≡◌, List, false, length, map, take, get_or, sym, ap, subst, ◌∙◌, ◌+◌, arith}
use Rattle.std.specs.Prelude.{All}
use Rattle.std.proofs.lemmas.List.{take_more, take_all}
use Rattle.std.proofs.lemmas.List.Elements.{All-push}
use Rattle.c_tree.specs.declared.typed.VarDef.{VarDef}
use Rattle.c_elab.specs.Functions.{VariableThere, variable_seen, variables_from}
use Rattle.c_elab.proofs.Ending.{one_variable, taken_count}
use Rattle.c_elab.proofs.bodies.variables.Goals as goal

pub loop-v-preserved : goal.loop-v-preserved
loop-v-preserved c =
    let w = c.args.work.now in
    let i = c.loop-v.v-index in
    let vs = c.args.locals.now in
    let d : VarDef = record {
      name = record { start = 0; end = 0 };
      pos = record { line = 0; col = 0 };
      of = 0;
      simple = false;
    } in
    let n = c.loop-v.invariant.count in
    let x : VarDef = c.variable-x.result in
    let all = c.loop-v.all.items in
    record {
      count = c.in_ok-next.ensures ∙ ap (λ m. m + 1) n;
      there = subst (λ (xs : List VarDef). All (VariableThere w) xs) (sym c.in_ok-push_variable.ensures)
          (All-push (VariableThere w) all x c.loop-v.invariant.there c.variable-x.ensures.there);
      are = ap (map (variable_seen w)) c.in_ok-push_variable.ensures
          ∙ one_variable w (take i vs) c.loop-v.k (get_or vs i d) x all
          (taken_count vs i (omega arith) ∙ sym n) c.loop-v.invariant.are c.variable-x.ensures.is
          ∙ ap (λ (ys : List VarDef). map (variable_seen w) (variables_from w 0 ys))
          (sym (take_more vs i d c.loop-v-test.true));
    }

pub returns-clause-are : goal.returns-clause-are
returns-clause-are c = c.loop-v.invariant.are
    ∙ ap (λ (ys : List VarDef). map (variable_seen c.args.work.now) (variables_from c.args.work.now 0 ys))
    (take_all c.loop-v.v-index c.args.locals.now c.loop-v-test.false)

pub variable-x-requires-clause-marked : goal.variable-x-requires-clause-marked
variable-x-requires-clause-marked c =
    let a : c.loop-v.k ≡ c.loop-v.v-index = c.loop-v.invariant.count in
    let b : length c.in_ok-marks.marks.items ≡ length c.args.locals.now = c.in_ok-marks.ensures.count in
    let d : c.as_slice.result.now ≡ c.in_ok-marks.marks.items = c.as_slice.ensures.value in
    omega (arith, ap length d)
