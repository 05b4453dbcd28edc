use Rattle.std.proofs.Common.{Bool, false, map, sym, ap, ◌∙◌, length, arith}
use Rattle.std.specs.Prelude.{reverse}
use Rattle.cheri_c_sem.specs.Calls.{end_locals}
use Rattle.cheri_c_sem.specs.Modes.{Store}
use Rattle.cheri_c_sem.specs.Programs.{lengths_of}
use Rattle.obj_mem.specs.Values.{value_of}
use Rattle.mean_steps.specs.Parts.{Now}
use Rattle.tac_ir.specs.Meaning.{with_result}
use Rattle.tac_steps.specs.Machine.{Moment}
use Rattle.tac_run.specs.Holdings.{Holding, ops_of}
use Rattle.tac_run.specs.Views.{caller_of, vars_of, now_of}
use Rattle.tac_run.proofs.Calling.{objects_at}
use Rattle.tac_run.proofs.run.Run.resume.Goals as goal

pub end_locals-requires : goal.end_locals-requires
end_locals-requires c =
    let p = c.args.program.p.now in
    let here = ap length (ap (lengths_of p) c.variables.ensures) in
    let own = ap length (objects_at p c.args.self.now.fun) in
    let room = c.requires.room in
    omega arith

pub returns-clause-moment : goal.returns-clause-moment
returns-clause-moment c =
    let p = c.args.program.p.now in
    let s = c.args.self.now in
    let k = c.args.caller in
    let m = s.now.memory in
    let go : Bool → Now Store → Moment Store = λ b n. record {
      fun = k.fun;
      at = k.at;
      turned = b;
      callers = map caller_of (reverse s.callers.items);
      now = n;
    } in
    let ended = ap (λ (h : Holding). h.store) c.end_locals.ensures
    ∙ ap (end_locals (ops_of m) m.store s.now.first)
    (ap (lengths_of p) c.variables.ensures ∙ sym (objects_at p s.fun)) in
    ap (λ b. go b (now_of c.set_optional.new.self)) c.requires.straight
    ∙ ap (go false) (c.set_optional.ensures.now ∙ ap (λ x. let n : Now Store = record {
      vars = with_result (vars_of k.temps.items) k.to (value_of c.args.v);
      first = k.first;
      mem = x;
      frame = k.frame;
      left = s.now.left;
    } in n) ended)
