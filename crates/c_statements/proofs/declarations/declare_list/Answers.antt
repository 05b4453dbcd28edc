use Rattle.std.proofs.lemmas.Result.{err_from_is_err_and}
use Rattle.std.proofs.Common.{◌≡◌, Bool, true, false, Some, None, List, ℕ, [], ◌∷◌, Ok, Err, refl, sym, ap, subst, ◌∙◌}
use Rattle.c_tree.specs.Readings as meant
use Rattle.c_tree.specs.Syntax.{Syns, nil, more}
use Rattle.c_tree.specs.Declarations.{declaration, declare_all, is_alone}
use Rattle.c_tree.specs.Programs.{reading, readings}
use Rattle.c_elaborator.specs.declared.work.Work.{Work}
use Rattle.c_elaborator.specs.Answers.{Answers, freely, quietly}
use Rattle.c_elaborator.proofs.Sequencing.{free_law, freed, failed}
use Rattle.c_declarators.specs.Parts.{SpecifiedThere, IsSpecified, in_any}
use Rattle.c_readings.proofs.Kids.{parts_kept}
use Rattle.c_elaborator.specs.Items.{ItemsThere, IsItems}
use Rattle.c_elaborator.proofs.Shown.{then_for}
use Rattle.c_statements.proofs.Following.{for_each}
use Rattle.c_statements.proofs.Named.{list_unspecified}
use Rattle.c_statements.proofs.Standing.{declaration_none, declaration_is, alone_is, some_specified, is_some_specified}
use Rattle.c_readings.proofs.Within.{within_kept}
use Rattle.c_statements.proofs.declarations.declare_list.Goals as goal

pub declare_all-requires : goal.declare_all-requires
declare_all-requires c =
    let u : Work = c.args.work.now in
    let v : Work = c.specified.new.work in
    let a = c.in_ok-s.ensures c.requires.part.syntax c.requires.part.is in
    record {
      whole = a.whole;
      specified = a.there;
      parts = within_kept u v c.args.others.now a.grows.keeps c.requires.parts;
    }

pub returns-in_err-s : goal.returns-in_err-s
returns-in_err-s c = let q = err_from_is_err_and c.from_residual.result c.from_residual.ensures.1 in λ x ys hx hys.
    let u : Work = c.args.work.now in
    let v : Work = c.specified.new.work in
    rw (q.1, q.2) (list_unspecified u v v x ys c.is_empty.result _
    (alone_is u c.args.others.now ys hys c.is_empty.result c.is_empty.ensures) (c.in_err-s.ensures x hx))

pub returns : goal.returns
returns c = λ x ys hx hys.
    let u : Work = c.args.work.now in
    let v : Work = c.specified.new.work in
    let w : Work = c.declare_all.new.work in
    let rest = c.args.others.now in
    let s = c.in_ok-s.s in
    let d = (reading x).specified c.is_empty.result in
    let b = c.in_ok-s.ensures x hx in
    rw (alone_is u rest ys hys c.is_empty.result c.is_empty.ensures)
    (then_for freely free_law u v w d (λ y. declare_all y (readings ys)) (SpecifiedThere v s)
    (in_any IsSpecified v s) ItemsThere IsItems c.declare_all.result
    (freed u v d SpecifiedThere (in_any IsSpecified) (Ok s) b)
    (for_each freely v w (in_any IsSpecified v s) (IsSpecified v s)
    (λ y. declare_all y (readings ys)) ItemsThere IsItems c.declare_all.result (some_specified v s)
    (is_some_specified v s) (λ st y h. h)
    (λ y h. c.declare_all.ensures y ys h (parts_kept u v rest ys b.grows.keeps hys))))
