use Rattle.std.proofs.lemmas.Result.{err_from_is_err_and}
use Rattle.std.proofs.Common.{◌≡◌, Some, None, List, refl, sym, ap, subst, ◌∙◌}
use Rattle.std.specs.Prelude.{reverse}
use Rattle.c_tree.specs.Readings as meant
use Rattle.c_tree.specs.Scopes.{refuse}
use Rattle.c_tree.specs.Declarations.{declare_named}
use Rattle.c_types.specs.declared.entries.Decl.{Decl}
use Rattle.c_elaborator.specs.declared.work.Work.{Work}
use Rattle.c_elaborator.specs.Answers.{Done, Answers, freely, quietly}
use Rattle.c_elaborator.proofs.Sequencing.{keeps_then, type_there}
use Rattle.c_expressions.specs.Nodes.{type_in}
use Rattle.c_declarators.specs.declared.parts.Wrap.{Wrap}
use Rattle.c_declarators.specs.Parts.{AreWraps, any_scope, FormedThere, IsFormed, in_any, name_token}
use Rattle.c_declarators.specs.Steps.{forms}
use Rattle.c_statements.proofs.Named.{decl_of, named_unformed, named_refused, named_answers}
use Rattle.c_statements.proofs.Standing.{some_wraps, are_some_wraps, has_behind_kept, behind_kept, behind_given}
use Rattle.c_statements.proofs.declarations.declare_so.Goals as goal

pub declare_name-requires : goal.declare_name-requires
declare_name-requires c =
    let u : Work = c.args.work.now in
    let a = c.in_ok-f.ensures (some_wraps u c.args.wraps.now) (are_some_wraps u c.args.wraps.now) in
    record {
      whole = a.whole;
      there = rw c.declared_as.ensures a.there;
      what = ap (λ (x : Decl). x.what) c.declared_as.ensures;
    }

pub initialize-requires : goal.initialize-requires
initialize-requires c =
    let u : Work = c.args.work.now in
    let v : Work = c.formed.new.work in
    let w : Work = c.declare_name.new.work in
    let a = c.in_ok-f.ensures (some_wraps u c.args.wraps.now) (are_some_wraps u c.args.wraps.now) in
    let b = c.in_ok-entity.ensures in
    record {
      whole = b.whole;
      there = type_there v w c.in_ok-f.f.of b.grows a.there;
      behind = has_behind_kept c.args.depth u w c.args.behind (keeps_then u v w a.grows.keeps b.grows)
          c.requires.behind;
    }

pub returns-in_err-f : goal.returns-in_err-f
returns-in_err-f c = let q = err_from_is_err_and c.from_residual.result c.from_residual.ensures.1 in
    λ y e b hy hn he hb.
    let u : Work = c.args.work.now in
    let v : Work = c.formed.new.work in
    rw (q.1, q.2) (named_unformed u v v c.args.s y e b c.args.name _ hy hn (c.in_err-f.ensures e.wraps he))

pub returns-in_err-entity : goal.returns-in_err-entity
returns-in_err-entity c =
    let q = err_from_is_err_and c.from_residual-in_err-entity.result c.from_residual-in_err-entity.ensures.1 in
    λ y e b hy hn he hb.
    let u : Work = c.args.work.now in
    let v : Work = c.formed.new.work in
    let w : Work = c.declare_name.new.work in
    rw (q.1, q.2) (named_refused u v w w c.args.s y e b c.args.name c.in_ok-f.f c.is_some.result c.declared_as.result _
    hy hn (behind_given u c.args.behind b hb ∙ sym c.is_some.ensures)
    (c.in_ok-f.ensures e.wraps he) c.declared_as.ensures c.in_err-entity.ensures)

pub returns : goal.returns
returns c = λ y e b hy hn he hb.
    let u : Work = c.args.work.now in
    let v : Work = c.formed.new.work in
    let w : Work = c.declare_name.new.work in
    let a = c.in_ok-f.ensures e.wraps he in
    named_answers u v w c.initialize.new.work c.args.s y e b c.args.name c.in_ok-f.f c.is_some.result
    c.in_ok-entity.entity c.initialize.result hy hn (behind_given u c.args.behind b hb ∙ sym c.is_some.ensures) a
    (rw c.declared_as.ensures at c.in_ok-entity.ensures)
    (c.initialize.ensures b (behind_kept u w c.args.behind b
    (keeps_then u v w a.grows.keeps c.in_ok-entity.ensures.grows) hb))
