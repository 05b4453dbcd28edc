use Rattle.std.proofs.Common.{None, false, take, get_or, sym, subst}
use Rattle.std.proofs.lemmas.List.{take_more, take_all}
use Rattle.c_declarators.specs.declared.parts.Param.{Param}
use Rattle.c_elab.specs.Functions.{AddsParameters}
use Rattle.c_elab.proofs.Opening.{adds_none, adds_one}
use Rattle.c_elab.proofs.parameters.add_parameters.Goals as goal

pub loop-p-init : goal.loop-p-init
loop-p-init c = adds_none c.args.scopes.now

pub loop-p-preserved : goal.loop-p-preserved
loop-p-preserved c =
    let i = c.loop-p.p-index in
    let ps = c.args.params.now in
    let d : Param = record {
      name = None;
      at = record { span = record { start = 0; end = 0 }; pos = record { line = 0; col = 0 } };
      of = 0;
      nothing =
          false;
    } in
    subst (AddsParameters c.args.scopes.now c.add_parameter.new.self) (sym (take_more ps i d c.loop-p-test.true))
    (adds_one c.args.scopes.now c.loop-p.scopes c.add_parameter.new.self (take i ps)
    (get_or ps i d) c.parameter.result c.loop-p.invariant c.parameter.ensures c.add_parameter.ensures.file
    c.in_ok-add_parameter.ensures.ok)

pub returns : goal.returns
returns c = subst (AddsParameters c.args.scopes.now c.loop-p.scopes)
    (take_all c.loop-p.p-index c.args.params.now c.loop-p-test.false) c.loop-p.invariant
