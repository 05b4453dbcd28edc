use Rattle.std.proofs.Common.{◌++◌, map, reverse, ap, ◌∙◌, arith}
use Rattle.std.proofs.lemmas.List.{take_all}
use Rattle.c_phrases.specs.Got.{in_force}
use Rattle.c_parse.proofs.Answering.{names_taken}
use Rattle.c_parse.proofs.files.declare_all.Goals as goal

pub loop-name-preserved : goal.loop-name-preserved
loop-name-preserved c = names_taken (λ name. name.now) c.args.names.now c.loop-name.name-index _
    (in_force c.args.types.now) (in_force c.loop-name.types) (in_force c.push.new.self)
    (omega arith) c.loop-name.invariant c.in_ok-push.ensures

pub returns : goal.returns
returns c = c.loop-name.invariant
    ∙ ap (λ v. reverse (map (λ name. name.now) v) ++ in_force c.args.types.now)
    (take_all c.loop-name.name-index c.args.names.now (omega (arith, c.loop-name-test.false)))
