use Rattle.std.proofs.Common.{◌+◌, ◌<◌, length, sym, ap, ◌∙◌, subst}
use Rattle.cheri_c_sem.specs.Calls.{add_locals}
use Rattle.cheri_c_sem.specs.Programs.{lengths_of}
use Rattle.tac_steps.specs.Machine.{Caller}
use Rattle.tac_run.specs.Holdings.{Holding, ops_of}
use Rattle.tac_run.specs.Views.{vars_of}
use Rattle.tac_run.proofs.Calling.{objects_at, waits, same_moment}
use Rattle.tac_run.proofs.run.Run.open.Goals as goal

pub add_locals-requires-clause-room : goal.add_locals-requires-clause-room
add_locals-requires-clause-room c = λ n h.
    let p = c.args.program.p.now in
    c.requires.room n (subst (λ ls. n < length ls)
    (ap (lengths_of p) c.variables.ensures ∙ sym (objects_at p c.args.fun)) h)

pub returns : goal.returns
returns c =
    let p = c.args.program.p.now in
    let s = c.args.self.now in
    let m = s.now.memory in
    let caller = ap (λ vs. let k : Caller = record {
      fun = s.fun;
      at = s.at + 1;
      vars = vs;
      first = s.now.first;
      frame = s.now.frame;
      to = c.args.to;
    } in k) (ap (λ ts. vars_of ts.items) c.replace-temps.ensures.value) in
    let added = ap (λ (h : Holding). h.store) c.in_ok-add_locals.ensures
    ∙ ap (add_locals (ops_of m) m.store c.args.address c.args.fun 0)
    (ap (lengths_of p) c.variables.ensures ∙ sym (objects_at p c.args.fun)) in (
      same_moment c.args.fun 0 c.args.address s.now.left _ _ _ _ _ _ _ _ _ _ c.requires.straight
          (waits s.callers.items c.push.new.self.items _ _ c.in_ok-push.ensures.items caller)
          (ap (λ ts. vars_of ts.items) c.replace-temps.ensures.after ∙ c.in_ok-temps.ensures) c.count-first.ensures
          added,
      ap (λ (h : Holding). h.map) c.in_ok-add_locals.ensures,
    )
