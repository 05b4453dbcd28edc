use Rattle.std.proofs.Common.{ℕ, List, Option, None, Ok, subst, sym}
use Rattle.c_tree.specs.Scopes.{Doing}
use Rattle.c_tree.specs.Statements.{case_label}
use Rattle.c_expressions.specs.Nodes.{type_in}
use Rattle.c_elaborator.specs.Answers.{Answers, quietly}
use Rattle.c_elaborator.proofs.Sequencing.{quiet_law, gave}
use Rattle.c_statements.specs.Statements.{LabelThere, IsLabel}
use Rattle.c_statements.proofs.Parting.{at_none, at_some, label_none_is, label_some_is}
use Rattle.c_readings.specs.Within.{PartsWithin}
use Rattle.c_readings.proofs.Within.{first_within}
use Rattle.c_statements.proofs.labels.label.Goals as goal

pub case_value-requires : goal.case_value-requires
case_value-requires c =
    let u = c.args.work.now in
    record {
      whole = c.requires.whole;
      there = c.requires.there;
      part = first_within u c.in-Some.x.first c.in-Some.x.others.now
          (subst (λ (z : List ℕ). PartsWithin u c.args.depth z) c.in-Some.ensures c.requires.parts);
    }

pub returns-in-None : goal.returns-in-None
returns-in-None c =
    let u = c.args.work.now in
    let of = type_in u.nodes c.args.of in
    let none : Option ℕ = None in
    at_none quietly u u (λ rs. case_label rs of) LabelThere IsLabel (Ok none) c.args.kids.now c.in-None.ensures
    (subst (λ (d : Doing (Option ℕ)). Answers quietly u u d LabelThere IsLabel (Ok none)) (sym (label_none_is of))
    (gave quietly quiet_law u none (LabelThere u none) c.requires.whole tt))

pub returns-in-Some : goal.returns-in-Some
returns-in-Some c =
    let u = c.args.work.now in
    let of = type_in u.nodes c.args.of in
    at_some quietly u c.case_value.new.work (λ rs. case_label rs of) LabelThere IsLabel c.case_value.result
    c.args.kids.now c.in-Some.x.first c.in-Some.x.others.now c.in-Some.ensures
    (λ x xs p q. subst (λ (d : Doing _). Answers quietly u c.case_value.new.work d LabelThere IsLabel
    c.case_value.result) (sym (label_some_is of _ _)) (c.case_value.ensures x p))
