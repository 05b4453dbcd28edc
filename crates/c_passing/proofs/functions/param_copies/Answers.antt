use Rattle.std.proofs.Common.{◌+◌, false, get_or, map, arith, refl, sym, ap, subst, ◌∙◌}
use Rattle.std.proofs.lemmas.List.{take_all}
use Rattle.c_tree.specs.declared.typed.VarDef.{VarDef}
use Rattle.c_tree.specs.Passed.{by_pointer}
use Rattle.c_passing.specs.Routines.{source_variable, AreParamCopies}
use Rattle.c_passing.proofs.Returning.{Copies, no_copies, copies_pointed, copies_plain, copies_at}
use Rattle.c_passing.proofs.functions.param_copies.Goals as goal
use Rattle.c_passing.proofs.functions.param_copies.Goals.{then-by_pointer+in_ok-copy+in_ok-push+in_ok-to}
use Rattle.c_passing.proofs.functions.param_copies.Goals.{else-by_pointer}
use Rattle.passing_steps.specs.Numbered.{type_in}

pub loop-v-init : goal.loop-v-init
loop-v-init c = record {
  from = omega arith;
  to = omega arith;
  are = no_copies c.args.source.now c.args.out.now c.args.first c.args.local c.args.body.now.items;
}

pub loop-v-preserved : goal.loop-v-preserved
loop-v-preserved c =
    let a = c.args in
    let s = a.source.now in
    let l = c.loop-v in
    let i = l.v-index in
    let d : VarDef = record {
      name = record { start = 0; end = 0 };
      pos = record { line = 0; col = 0 };
      of = 0;
      simple = false;
    } in
    let now : Copies s a.out.now l.out a.first a.local a.params.now i l.from l.to a.body.now.items l.body.items =
    record {
      from_is = l.invariant.from;
      to_is = l.invariant.to;
      are = l.invariant.are;
    } in
    let all : Copies s a.out.now c.if-by_pointer.out a.first a.local a.params.now (i + 1) c.in_ok-from.from
    c.if-by_pointer.to a.body.now.items c.if-by_pointer.body.items =
    elim c.if-by_pointer.branch [
      | then-by_pointer+in_ok-copy+in_ok-push+in_ok-to w ↦
          copies_at s a.out.now w.param_copy.new.out _ a.first a.local a.params.now (i + 1) (l.from + 1)
          (l.to + 1) _ _ a.body.now.items w.push.new.self.items _
          (copies_pointed s a.out.now l.out w.param_copy.new.out a.first a.local a.params.now i l.from l.to d _
          a.body.now.items l.body.items w.push.new.self.items w.in_ok-copy.copy now c.loop-v-test.true refl
          (ap (λ ts. by_pointer (type_in ts (get_or a.params.now i d).of)) (sym c.written_types.ensures)
          ∙ sym c.by_pointer.ensures ∙ w.if-by_pointer.true) w.in_ok-copy.ensures w.in_ok-push.ensures.items)
          w.out-is c.in_ok-from.ensures (w.to-is ∙ w.in_ok-to.ensures) (ap (λ z. z.items) w.body-is)
      | else-by_pointer w ↦
          copies_at s a.out.now l.out _ a.first a.local a.params.now (i + 1)
          (l.from + 1) l.to _ _ a.body.now.items l.body.items _
          (copies_plain s a.out.now l.out a.first a.local a.params.now i l.from l.to d _ a.body.now.items l.body.items
          now c.loop-v-test.true refl
          (ap (λ ts. by_pointer (type_in ts (get_or a.params.now i d).of)) (sym c.written_types.ensures)
          ∙ sym c.by_pointer.ensures ∙ w.if-by_pointer.false))
          w.out-is c.in_ok-from.ensures w.to-is (ap (λ z. z.items) w.body-is)
    ] in
    record { from = all.from_is; to = all.to_is; are = all.are }

pub returns : goal.returns
returns c =
    let s = c.args.source.now in
    let l = c.loop-v in
    subst (λ vs. AreParamCopies s c.args.out.now l.out c.args.first c.args.local (map (source_variable s) vs)
    c.args.body.now.items l.body.items) (take_all l.v-index c.args.params.now c.loop-v-test.false) l.invariant.are
