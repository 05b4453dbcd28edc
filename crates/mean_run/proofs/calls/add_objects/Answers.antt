use Rattle.std.proofs.Common.{false, ◌+◌, ◌<◌, get_or, length, refl, sym, ap, ◌∙◌, arith}
use Rattle.std.proofs.lemmas.Option.{slice_get-get_or}
use Rattle.c_tree.specs.declared.typed.VarDef.{VarDef}
use Rattle.mean_run.proofs.Calling.{one_added}
use Rattle.mean_run.proofs.Counts.{before_more, before_none, few, own_count}
use Rattle.mean_run.proofs.calls.add_objects.Goals as goal

pub vars-init : goal.vars-init
vars-init g c = record { same = refl; count = sym (before_none c.args.vars.now); left = λ sized. refl }

pub add_object-requires-clause-entered : goal.add_object-requires-clause-entered
add_object-requires-clause-entered g c = rw c.vars.invariant.same c.requires.entered

pub vars-preserved : goal.vars-preserved
vars-preserved g c =
    let vars = c.args.vars.now in
    let i = c.vars.v-index in
    let none : VarDef = record {
      name = record { start = 0; end = 0 };
      pos = record { line = 0; col = 0 };
      of = 0;
      simple = false;
    } in
    let v = get_or vars i none in
    let within : i < length vars = omega arith in
    let few_before = few vars i in
    let count = c.vars.invariant.count in
    let next = c.in-Ok.ensures.next (omega arith) in
    record {
      same = c.add_object.ensures.same ∙ c.vars.invariant.same;
      count = next ∙ (ap (λ n. n + own_count v) count
          ∙ sym (before_more vars i v (slice_get-get_or vars i none within)));
      left = λ sized. c.vars.invariant.left sized
          ∙ one_added (g.B.Operations.meaning c.args.m.now) c.args.s.now.p.now c.args.frame c.args.g vars i v none
          within refl _ _
          c.vars.n _ next (rw c.vars.invariant.same at c.in-Ok.ensures.did
          (sized i v (slice_get-get_or vars i none within)));
    }
