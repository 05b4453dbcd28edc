use Rattle.c_elaborator.specs.Answers.{freely}
use Rattle.c_elaborator.specs.Items.{OnlyThere, IsItems}
use Rattle.c_statements.specs.Statements.{evaluate_one}
use Rattle.c_statements.proofs.Stating.{from_one, not_one}
use Rattle.c_readings.proofs.Within.{one_within}
use Rattle.c_statements.proofs.simple.evaluate.Goals as goal

pub evaluate_one-requires : goal.evaluate_one-requires
evaluate_one-requires c =
    record {
      whole = c.requires.whole;
      part = one_within c.args.work.now c.args.kids.now c.in-Some.k c.in-Some.ensures c.requires.parts;
    }

pub returns-in-None : goal.returns-in-None
returns-in-None c = not_one c.args.work.now c.args.kids.now
    (λ r. evaluate_one r c.args.pos) c.args.pos c.in-None.ensures

pub returns-in-Some : goal.returns-in-Some
returns-in-Some c = from_one freely c.args.work.now _ c.args.kids.now c.in-Some.k
    (λ r. evaluate_one r c.args.pos) c.args.pos OnlyThere IsItems _ c.in-Some.ensures c.evaluate_one.ensures
