use Rattle.std.proofs.Common.{◌≡◌, length, refl, ap, subst, ◌∙◌}
use Rattle.std.proofs.lemmas.List.{length-take-le}
use Rattle.c_tree.specs.Passed.{result_pointer}
use Rattle.c_passing.specs.Routines.{written_routine, HasParams, HasLocals, IsNamed, named_so_far}
use Rattle.c_passing.proofs.Standing.{begins_named}
use Rattle.c_passing.proofs.functions.named.Goals as goal

pub returns : goal.returns
returns c =
    let w = c.args.whole.now in
    let f = c.args.f.now in
    let r = written_routine w f in
    let p = c.written_vars.ensures in
    let params : HasParams w f c.written_vars.result.0.now = (p.params, c.requires) in
    let locals : HasLocals w f c.written_vars.result.1.now = (p.locals, c.requires) in
    let size : length c.written_vars.result.0.now ≡ length f.params =
    ap length p.params ∙ length-take-le (length f.params) f.vars c.requires in
    let start =
    begins_named w f c.written_vars.result.0.now _ params c.in_ok-before.ensures.count refl c.new.ensures.items
    (c.in_ok-params_as_run.ensures (result_pointer r) c.in_ok-before.ensures.vars) in
    let mid : IsNamed w f (length f.params) c.copied_params.new.into (named_so_far r (length f.params)) =
    subst (λ k. IsNamed w f k c.copied_params.new.into (named_so_far r k)) size
    (c.in_ok-copied_params.ensures f params start) in
    c.in_ok-other_locals.ensures f locals mid
