use Rattle.std.proofs.Common.{◌≡◌, ◌+◌, ◌<◌, false, length, get_or, sym, ap, ◌∙◌, arith}
use Rattle.std.proofs.lemmas.Option.{slice_get-get_or}
use Rattle.c_tree.specs.declared.typed.VarDef.{VarDef}
use Rattle.cheri_c_sem.specs.Types.{objects_before}
use Rattle.mean_run.proofs.Counts.{before_more, before_none, counted_more, counted_none, few, own_count}
use Rattle.mean_run.proofs.locals.counts_of.Goals as goal

pub vars-init : goal.vars-init
vars-init c = record {
  counted = rw (c.in_ok-push.ensures.items, c.new-counts.ensures.items) (counted_none c.args.vars.now);
  before = sym (before_none c.args.vars.now);
}

pub vars-preserved : goal.vars-preserved
vars-preserved c =
    let vars = c.args.vars.now in
    let i = c.vars.v-index in
    let few_before = few vars i in
    let known = c.vars.invariant.before in
    let within : i < length vars = omega arith in
    let none : VarDef = record {
      name = record { start = 0; end = 0 };
      pos = record { line = 0; col = 0 };
      of = 0;
      simple = false;
    } in
    let v = get_or vars i none in
    let more = before_more vars i v (slice_get-get_or vars i none within) in
    let before : c.more-before.result ≡ objects_before vars (i + 1) =
    c.more-before.ensures (omega arith) ∙ (ap (λ n. n + own_count v) known ∙ sym more) in
    record {
      counted = rw c.in_ok-push-2.ensures.items
          (counted_more vars c.vars.counts.items i _ c.vars.invariant.counted before);
      before = before;
    }
