use Rattle.std.proofs.Common.{◌∙◌}
use Rattle.c_interner.specs.Numbers.{type_named}
use Rattle.c_types.proofs.Looking.{there_at}
use Rattle.c_types.proofs.Judged.{named_there}
use Rattle.c_types.proofs.Seeing.{routine_some}
use Rattle.c_types.proofs.scopes.Scopes.routine_agrees.Goals as goal

pub returns-in_ok-agrees-in-Some : goal.returns-in_ok-agrees-in-Some
returns-in_ok-agrees-in-Some c s h lt =
    let p = c.args.p.now in
    c.agree_with.ensures
    ∙ routine_some c.args.self.now p s c.args.k c.in-Some.function.now _
    (type_named p c.args.of) c.in_ok-agrees-in-Some.agrees c.is_begun.result c.args.defines h
    (there_at p.funs _ c.args.k c.in-Some.function.now c.as_slice.ensures c.in-Some.ensures.lookup.0
    c.in-Some.ensures.lookup.1)
    (named_there p c.args.of lt) c.in_ok-agrees-in-Some.ensures c.is_begun.ensures
