use Rattle.std.proofs.Common.{None, Some, sym, ap, subst, length}
use Rattle.c_passing.specs.Numbered.{IsGivenIn}
use Rattle.c_passing.proofs.Standing.{no_result, one_result, result_run, none_run, run_same}
use Rattle.c_passing.proofs.functions.result_pointer.Goals as goal

pub returns-in-None : goal.returns-in-None
returns-in-None c =
    let w = c.args.whole.now in
    let given : IsGivenIn w.program.now.types c.args.f.now.of None =
    subst (λ ts. IsGivenIn ts c.args.f.now.of None) c.as_slice.ensures c.in-None.ensures in
    let e = no_result w c.args.f.now given in
    record {
      count = ap length (sym e);
      vars = run_same w c.args.vars.now.items _ _ (sym e) (none_run w c.args.vars.now.items c.requires);
    }

pub returns-in_ok-push-in-Some : goal.returns-in_ok-push-in-Some
returns-in_ok-push-in-Some c =
    let w = c.args.whole.now in
    let k = c.in-Some.gives in
    let given : IsGivenIn w.program.now.types c.args.f.now.of (Some k) =
    subst (λ ts. IsGivenIn ts c.args.f.now.of (Some k)) c.as_slice.ensures c.in-Some.ensures in
    record {
      count = ap length (sym (one_result w c.args.f.now k given));
      vars = result_run w c.args.f.now k c.pointer-of.result c.args.vars.now.items c.push.new.self.items given
          c.pointer-of.ensures c.requires c.in_ok-push-in-Some.ensures.items;
    }
