use Rattle.std.proofs.Common.{length, Some, ap, sym, ◌∙◌}
use Rattle.std.proofs.lemmas.Bool.{ltb-true, ltb-false}
use Rattle.std.proofs.lemmas.Option.{slice_get-get_or, slice_get_past}
use Rattle.c_operators.specs.declared.services.Service.{Service}
use Rattle.c_operators.proofs.services.service_in.Goals as goal

pub returns-in-None : goal.returns-in-None
returns-in-None c = sym (slice_get_past c.args.services.now c.args.k
    (ltb-false c.args.k (length c.args.services.now) (sym c.in-None.ensures.lookup.0)))

pub returns-in-Some : goal.returns-in-Some
returns-in-Some c =
    let x : Service = c.in-Some.service.now in
    sym (slice_get-get_or c.args.services.now c.args.k x
    (ltb-true c.args.k (length c.args.services.now) (sym c.in-Some.ensures.lookup.0))
    ∙ ap (λ y. Some y) (sym c.in-Some.ensures.lookup.1))
