use Rattle.std.proofs.Common.{◌*◌, ◌<◌, length, arith}
use Rattle.std.proofs.lemmas.Option.{slice_get_within}
use Rattle.rv_words.specs.Leading.{IsEnteredAt}
use Rattle.rv_words.proofs.Targets.{entered_target}
use Rattle.rv_words.proofs.Led.{jump_not}
use Rattle.rv_words.proofs.jumps.lead_to_entry.Goals as goal

pub lead-requires-clause-target : goal.lead-requires-clause-target
lead-requires-clause-target c =
    let found = c.in-Some.ensures.lookup in
    entered_target _ _ _ _ c.requires.entries found.3.0 found.1

pub returns-in_default-clause-there : goal.returns-in_default-clause-there
returns-in_default-clause-there c = jump_not (IsEnteredAt c.args.entries.now) c.args.call _ (λ place e.
    let lt : c.args.call.to < length c.args.entries.now = slice_get_within c.args.entries.now c.args.call.to
    (4 * place) e in
    let past = c.in_default.ensures.lookup in
    omega (arith, lt, past))
