-- What stands in the braces of a switch, in a scope of its own.
use Rattle.std.proofs.Common.{Ok, sym, ap, ◌∙◌, map}
use Rattle.c_tree.specs.Readings as meant
use Rattle.c_tree.specs.Statements as statements
use Rattle.c_tree.specs.Views.{label_of}
use Rattle.c_tree.specs.Scopes.{Doing, give, enter, leave, in_scope, ◌>>◌}
use Rattle.c_elaborator.specs.declared.work.Work.{Work}
use Rattle.c_elaborator.specs.Answers.{Done, freely}
use Rattle.c_elaborator.proofs.Sequencing.{free_law, then_by, also_then, gave}
use Rattle.c_elaborator.specs.Scoped.{Leaves}
use Rattle.c_elaborator.proofs.Going.{items_kept, actions_there}
use Rattle.c_plain_rules.specs.Cases.{Cases}
use Rattle.c_plain_rules.specs.Control.{labels_in}
use Rattle.c_statements.specs.Statements.{CasesThere, IsCases, cases_in}

-- what stands in the braces of a `switch`
pub in_scope_cases : (u v w x : Work) (d : Doing statements.Cases) (i : Cases) →
    Done freely u v enter (Unit {0}) (λ s a. Unit {0}) → Done freely v w d (CasesThere w i) (IsCases w i) → Leaves w x →
    Done freely u x (in_scope d) (CasesThere x i) (IsCases x i)
in_scope_cases u v w x d i e a l =
    let there : CasesThere x i = actions_there w x i.items.actions.items l.grows a.there in
    then_by freely free_law u w x (enter >> d) (λ b. leave >> give b) (leave >> give (cases_in x i)) (CasesThere w i)
    (IsCases w i) CasesThere IsCases (Ok i)
    (also_then freely free_law u v w enter d (Unit {0}) (λ s b. Unit {0}) CasesThere IsCases (Ok i) e a)
    (λ s b t q. ap (λ (z : statements.Cases). (leave >> give z) s)
    (q ∙ sym (ap
    (λ (y : meant.Items).
    (let z : statements.Cases = record { items = y; labels = map label_of (labels_in i) } in z))
    (items_kept w x i.items l.grows t.closed.values a.there))))
    (also_then freely free_law w x x leave (give (cases_in x i)) (Unit {0}) (λ s b. Unit {0}) CasesThere IsCases
    (Ok i) l (gave freely free_law x (cases_in x i) (CasesThere x i) l.whole there))
