use Rattle.std.proofs.Common.{refl, subst}
use Rattle.c_tree.specs.Passed.{call_name, calls_in}
use Rattle.c_plain_rules.specs.MainFunction.{IsMain}
use Rattle.c_finish.proofs.Ending.{no_main}
use Rattle.c_finish.proofs.file_end.ending.Goals as goal

pub returns-in-None : goal.returns-in-None
returns-in-None c = λ s x h y. no_main c.args.work.now s (call_name (calls_in x))
    (subst (IsMain c.args.work.now) c.in-None.is c.in_ok-found.ensures) h

pub parts_of-requires-clause-main : goal.parts_of-requires-clause-main
parts_of-requires-clause-main c = subst (IsMain c.args.work.now) c.in-Some.is c.in_ok-found.ensures

pub returns-in_ok-p-in-Some : goal.returns-in_ok-p-in-Some
returns-in_ok-p-in-Some c = (
  λ s h. refl,
  record {
    main = c.in-Some.main;
    is = subst (IsMain c.args.work.now) c.in-Some.is c.in_ok-found.ensures;
    parts = c.in_ok-p-in-Some.ensures;
  },
)
