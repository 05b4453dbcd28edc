use Rattle.std.proofs.Common.{ℕ, List, subst}
use Rattle.c_elaborator.specs.Answers.{freely}
use Rattle.c_elaborator.specs.Items.{context_in, OnlyThere, IsItems}
use Rattle.c_statements.specs.Statements.{return_of}
use Rattle.c_statements.proofs.Parting.{at_none, at_some}
use Rattle.c_readings.specs.Within.{PartsWithin}
use Rattle.c_readings.proofs.Within.{first_within}
use Rattle.c_statements.proofs.simple.return_at.Goals as goal

pub return_value-requires : goal.return_value-requires
return_value-requires c =
    let u = c.args.work.now in
    record {
      whole = c.requires.whole;
      context = c.requires.context;
      part = first_within u c.in-Some.x.first c.in-Some.x.others.now
          (subst (λ (z : List ℕ). PartsWithin u c.args.depth z) c.in-Some.ensures c.requires.parts);
    }

pub returns-in-None : goal.returns-in-None
returns-in-None c =
    let u = c.args.work.now in
    at_none freely u c.return_nothing.new.work
    (return_of (context_in u c.args.context) c.args.pos) OnlyThere IsItems c.return_nothing.result c.args.kids.now
    c.in-None.ensures c.return_nothing.ensures

pub returns-in-Some : goal.returns-in-Some
returns-in-Some c =
    let u = c.args.work.now in
    at_some freely u c.return_value.new.work (return_of (context_in u c.args.context) c.args.pos) OnlyThere IsItems
    c.return_value.result c.args.kids.now c.in-Some.x.first c.in-Some.x.others.now c.in-Some.ensures
    (λ x xs p q. c.return_value.ensures x p)
