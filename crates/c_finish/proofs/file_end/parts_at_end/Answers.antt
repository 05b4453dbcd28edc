use Rattle.std.proofs.Common.{◌∙◌, sym, ap}
use Rattle.c_tree.specs.Passed.{call_name, calls_in}
use Rattle.c_tree.specs.Programs.{ended}
use Rattle.c_plain_rules.specs.Faults.{found}
use Rattle.c_finish.proofs.Ending.{ends_without_fault}
use Rattle.c_finish.proofs.file_end.parts_at_end.Goals as goal

pub returns-in-Some : goal.returns-in-Some
returns-in-Some c = λ s x h y. ap (λ o. ended (call_name (calls_in x)) o s)
    (sym (ap found (sym c.in-Some.is) ∙ c.in_ok-first.ensures s h))

pub returns : goal.returns
returns c =
    ends_without_fault c.args.work.now _ c.ending.result
    (λ s h. sym (ap found (sym c.in-None.is) ∙ c.in_ok-first.ensures s h)) c.ending.ensures

pub ending-requires-clause-faultless : goal.ending-requires-clause-faultless
ending-requires-clause-faultless c = λ s h. sym (ap found (sym c.in-None.is) ∙ c.in_ok-first.ensures s h)
