use Rattle.std.proofs.Common.{ap, ◌∙◌}
use Rattle.c_tree.specs.declared.typed.Typed.{Typed}
use Rattle.c_tree.specs.Programs.{beginning}
use Rattle.c_elaborator.proofs.Begun.{shows_beginning}
use Rattle.c_elaborator.proofs.work.Work.new.Goals as goal

pub returns-clause-shows : goal.returns-clause-shows
returns-clause-shows c =
    let e = c.no_program-p.ensures in
    shows_beginning _ c.no_program-p.result c.new.new.p (c.in_ok-nodes.ensures.file ∙ c.in_ok-scopes.ensures.file)
    (ap (λ (p : Typed). p.literals) e) (ap (λ (p : Typed). p.stmts) e) c.new.ensures.adds c.in_ok-nodes.ensures.adds
    (c.in_ok-nodes.ensures.keeps beginning (c.in_ok-scopes.ensures.ok (ap (λ (p : Typed). p.types) e)
    (ap (λ (p : Typed). p.globals) e) (ap (λ (p : Typed). p.funs) e)))
    c.new-3.ensures.items c.new-4.ensures.items c.new-5.ensures.items c.new-6.ensures.items c.new-7.ensures.items
