use Rattle.std.proofs.Common.{refl}
use Rattle.c_elaborator.specs.declared.work.Definition.{Definition}
use Rattle.c_elaborator.specs.declared.work.Work.{Work}
use Rattle.c_elab.proofs.Ending.{body_ends}
use Rattle.c_elab.proofs.bodies.define_end.Goals as goal

pub returns : goal.returns
returns c =
    let w : Work = c.args.work.now in
    let d : Definition = record {
      function = c.args.k;
      params = c.in_ok-params.params;
      vars = c.in_ok-vars.vars;
      body = c.args.body;
    } in
    body_ends w c.take_locals-locals.new.self c.leave.new.self c.add_definition.new.definitions c.clear.new.self
    c.take_locals-locals.result.items c.args.k c.args.count c.args.body d c.requires.whole
    c.requires.known c.in_ok-add_definition.ensures refl
    c.in_ok-params.ensures refl
    (rw c.as_slice.ensures.value at c.in_ok-vars.ensures.are) c.in_ok-vars.ensures.there c.requires.there
    c.clear.ensures.items c.take_locals-locals.ensures.file c.leave.ensures.file
    (c.take_locals-locals.ensures.seen w.nodes.p) (c.take_locals-locals.ensures.none w.nodes.p)
    (c.leave.ensures.is w.nodes.p)
