use Rattle.std.proofs.Common.{sym}
use Rattle.c_finish.proofs.Functions.{routines_skip, routines_push, bodies_push}
use Rattle.c_finish.proofs.routines.add_routine.Goals as goal

pub returns-in-None-clause-adds : goal.returns-in-None-clause-adds
returns-in-None-clause-adds c = λ s h lt a. routines_skip c.args.work.now s c.args.k _ h lt
    (sym (rw c.in-None.is at c.definition-found.ensures)) a

pub returns-in_ok-push-in-Some-clause-adds : goal.returns-in_ok-push-in-Some-clause-adds
returns-in_ok-push-in-Some-clause-adds c = λ s h lt a.
    routines_push c.args.work.now s c.args.k c.args.list.now.items _ c.in_ok-f-in-Some.f h lt
    c.in_ok-push-in-Some.ensures.items c.in_ok-f-in-Some.ensures.is a

pub returns-in_ok-push-in-Some-clause-bodies : goal.returns-in_ok-push-in-Some-clause-bodies
returns-in_ok-push-in-Some-clause-bodies c =
    bodies_push c.args.work.now c.args.list.now.items _ c.in_ok-f-in-Some.f c.in_ok-f-in-Some.ensures.there
    c.in_ok-push-in-Some.ensures.items

pub routine-requires-clause-definition : goal.routine-requires-clause-definition
routine-requires-clause-definition c = sym (rw c.in-Some.is at c.definition-found.ensures)
