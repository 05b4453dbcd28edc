use Rattle.std.proofs.Common.{false, sym, ap, ◌∙◌}
use Rattle.std.specs.Prelude.{slice_index_or}
use Rattle.c_tree.specs.Layout.{bare}
use Rattle.cheri_c_sem.specs.Expressions.{fits}
use Rattle.cheri_c_sem.specs.Types.{pointee_of}
use Rattle.mean_steps.specs.Parts.{compatible}
use Rattle.mean_run.proofs.calls.called.Goals as goal

pub returns-then-is_compatible : goal.returns-then-is_compatible
returns-then-is_compatible c = λ ops vars n.
    let p = c.args.s.now.p.now in
    let target = c.facts-of.ensures.own.target
    ∙ ap (λ t. pointee_of (bare p.types t)) c.type_of.ensures in
    let fits_is = ap (λ t. slice_index_or (fits p vars t) c.in-Fun.g false) target in
    rw c.in-Fun.is (ap (λ b. compatible ops c.args.pos c.in-Fun.g b n)
    (sym fits_is ∙ (sym (c.is_compatible.ensures vars) ∙ c.if-is_compatible.true)))

pub returns-else-is_compatible : goal.returns-else-is_compatible
returns-else-is_compatible c = λ ops vars n.
    let p = c.args.s.now.p.now in
    let target = c.facts-of.ensures.own.target
    ∙ ap (λ t. pointee_of (bare p.types t)) c.type_of.ensures in
    let fits_is = ap (λ t. slice_index_or (fits p vars t) c.in-Fun.g false) target in
    rw c.in-Fun.is (ap (λ b. compatible ops c.args.pos c.in-Fun.g b n)
    (sym fits_is ∙ (sym (c.is_compatible.ensures vars) ∙ c.if-is_compatible.false)))
