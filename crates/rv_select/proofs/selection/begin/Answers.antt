use Rattle.std.proofs.Common.{[], ◌∷◌, ◌++◌, pos, ◌∙◌, ap}
use Rattle.rv_instr.specs.declared.instr.Instr.{Instr}
use Rattle.rv_instr.specs.declared.instr.Instr.TheVariants.{Cjal, Cjalr}
use Rattle.select_words.specs.Services.{ask}
use Rattle.rv_emit.proofs.Appended.{more, on_both}
use Rattle.rv_select.specs.Following.{ByJump, ByEntry}
use Rattle.rv_select.proofs.selection.begin.Goals as goal

pub returns-then-is_far-clause-begun : goal.returns-then-is_far-clause-begun
returns-then-is_far-clause-begun c =
    on_both c.ask.result _ _ _ c.ask.ensures.size c.ask.ensures.text
    (λ size text near.
    let p = c.in_ok-find.ensures.words near in
    let jumps = c.in_ok-put.ensures.text ∙ ap (λ (i : Instr). c.find.new.code.text ++ i ∷ [])
    (c.jump_through.ensures.is ∙ ap (λ r. Cjalr 1 r (pos 0)) c.way.ensures) in
    ByEntry p.added p.are
    (more c.args.code.now.text p.added (Cjalr 1 31 (pos 0) ∷ ask 3) _ _ p.is
    (more c.find.new.code.text (Cjalr 1 31 (pos 0) ∷ []) (ask 3) _ _ jumps text))
    (size.1 ∙ c.in_ok-put.ensures.size.1 ∙ c.in_ok-find.ensures.size.2))

pub returns-clause-begun : goal.returns-clause-begun
returns-clause-begun c =
    on_both c.ask-2.result _ _ _ c.ask-2.ensures.size c.ask-2.ensures.text
    (λ size text near. ByJump
    (more c.args.code.now.text (Cjal 1 (pos 0) ∷ []) (ask 3) _ _ c.in_ok-call.ensures.text text)
    (size.1 ∙ c.in_ok-call.ensures.links))
