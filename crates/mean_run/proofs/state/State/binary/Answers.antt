use Rattle.std.proofs.Common.{◌≡◌, true, false, refl, sym, ◌∙◌}
use Rattle.mean_run.proofs.state.State.binary.Goals as goal

pub returns-in-None : goal.returns-in-None
returns-in-None g c = λ fit vars sized h.
    absurd (let e : false ≡ true = sym (c.in-None.ensures fit vars sized) ∙ h in cc)

pub returns-in-Some : goal.returns-in-Some
returns-in-Some g c = λ fit vars sized h.
    let (x, y, e) = c.in-Some.ensures fit vars sized in
    rw e (c.operate.ensures c.args.s.now.p.now _ x y refl)
