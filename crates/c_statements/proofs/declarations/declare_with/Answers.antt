use Rattle.std.proofs.lemmas.Result.{err_from_is_err_and}
use Rattle.std.proofs.Common.{◌≡◌, Some, Ok, Err, refl, sym, ap, subst, ◌∙◌}
use Rattle.c_tree.specs.Readings as meant
use Rattle.c_tree.specs.Scopes.{State}
use Rattle.c_tree.specs.Declarations.{declare_named}
use Rattle.c_tree.specs.Programs.{reading}
use Rattle.c_elaborator.specs.declared.work.Work.{Work}
use Rattle.c_elaborator.specs.Answers.{freely}
use Rattle.c_elaborator.proofs.Sequencing.{free_law, freed, type_there}
use Rattle.c_declarators.specs.Parts.{DerivedThere, ShowsDerived, IsDerived, any_scope, shown_in}
use Rattle.c_declarators.proofs.Deriving.{derived_weaker}
use Rattle.c_elaborator.specs.Items.{ItemsThere, IsItems}
use Rattle.c_elaborator.proofs.Shown.{then_for}
use Rattle.c_statements.specs.Declaring.{behind_in}
use Rattle.c_statements.proofs.Following.{for_each, fails_freed}
use Rattle.c_statements.proofs.Standing.{has_behind_kept, behind_kept, specified_kept, some_derived, is_some_derived}
use Rattle.c_readings.proofs.Within.{have_parts}
use Rattle.c_statements.proofs.declarations.declare_with.Goals as goal

pub behind_of-behind-requires : goal.behind_of-behind-requires
behind_of-behind-requires c = have_parts c.args.work.now c.args.others.now c.requires.parts

pub declare_named-requires : goal.declare_named-requires
declare_named-requires c =
    let u : Work = c.args.work.now in
    let v : Work = c.derived.new.work in
    let a = c.in_ok-d.ensures c.requires.part.syntax c.requires.part.is in
    record {
      whole = a.whole;
      specified = type_there u v c.args.s.of a.grows.keeps c.requires.specified;
      derived = a.there;
      behind =
          has_behind_kept c.args.depth u v c.behind_of-behind.result a.grows.keeps
          (c.behind_of-behind.ensures.there c.args.depth c.requires.parts);
    }

pub returns-in_err-d : goal.returns-in_err-d
returns-in_err-d c = let q = err_from_is_err_and c.from_residual.result c.from_residual.ensures.1 in
    λ y x ys hy hx hys.
    let u : Work = c.args.work.now in
    let v : Work = c.derived.new.work in
    rw (q.1, q.2) (fails_freed u v v (reading x).derived
    (λ d. declare_named y d d.name (behind_in ys)) DerivedThere ShowsDerived ItemsThere IsItems _
    (c.in_err-d.ensures x hx))

pub returns : goal.returns
returns c = λ y x ys hy hx hys.
    let u : Work = c.args.work.now in
    let v : Work = c.derived.new.work in
    let d = c.in_ok-d.d in
    let a = c.in_ok-d.ensures x hx in
    let k = a.grows.keeps in
    then_for freely free_law u v c.declare_named.new.work (reading x).derived
    (λ e. declare_named y e e.name (behind_in ys)) (DerivedThere v d)
    (ShowsDerived v d) ItemsThere IsItems c.declare_named.result
    (freed u v (reading x).derived DerivedThere ShowsDerived (Ok d) a)
    (for_each freely v c.declare_named.new.work (ShowsDerived v d) (IsDerived any_scope v d)
    (λ e. declare_named y e e.name (behind_in ys)) ItemsThere IsItems c.declare_named.result (some_derived v d)
    (is_some_derived v d)
    (λ s e h. derived_weaker (shown_in v s) any_scope v d e (λ m n i. tt) h)
    (λ e h. c.declare_named.ensures y e (behind_in ys) (specified_kept u v c.args.s y k c.requires.specified hy) h
    (behind_kept u v c.behind_of-behind.result (behind_in ys) k (c.behind_of-behind.ensures.is ys hys))))
