use Rattle.std.proofs.Common.{[], ◌∷◌, ◌++◌, take, sym, ap, subst, ◌∙◌}
use Rattle.std.proofs.lemmas.List.{take_more, take_all}
use Rattle.c_passing.specs.Routines.{AreObjects}
use Rattle.c_passing.proofs.Programs.{no_objects, objects_push}
use Rattle.c_passing.proofs.program.objects.Goals as goal

pub loop-g-init : goal.loop-g-init
loop-g-init c = rw (c.new-list.ensures.items) (no_objects c.args.numbers.now)

pub loop-g-preserved : goal.loop-g-preserved
loop-g-preserved c =
    let gs = c.args.globals.now in
    let i = c.loop-g.g-index in
    let g = c.g-item.result in
    subst (λ zs. AreObjects c.args.numbers.now zs c.push.new.self.items)
    (sym (take_more gs i g c.loop-g-test.true ∙ ap (λ z. take i gs ++ z ∷ []) (sym c.g-item.is)))
    (objects_push c.args.numbers.now (take i gs) c.loop-g.list.items c.push.new.self.items g c.in_ok-g.g
    c.loop-g.invariant c.in_ok-g.ensures c.in_ok-push.ensures.items)

pub returns : goal.returns
returns c = subst (λ zs. AreObjects c.args.numbers.now zs c.loop-g.list.items)
    (take_all c.loop-g.g-index c.args.globals.now c.loop-g-test.false) c.loop-g.invariant
