use Rattle.std.proofs.Common.{get_or, arith}
use Rattle.c_tree.specs.declared.typed.Member.{Member}
use Rattle.std.proofs.lemmas.Option.{slice_get-get_or}
use Rattle.cap_layout.specs.Answers.{extent_is}
use Rattle.c_types.proofs.Growth.{slice_get-longer}
use Rattle.c_types.proofs.Sizing.{next_fits}
use Rattle.c_types.proofs.Starting.{starts_turn}
use Rattle.c_types.proofs.scopes.Scopes.starts_of.Goals as goal

pub loop-m-preserved : goal.loop-m-preserved
loop-m-preserved c =
    let ms = c.args.ms.now in
    let i = c.loop-m.m-index in
    let d : Member = record { name = record { start = 0; end = 0 }; of = 0 } in
    record {
      starts = λ s parts h has.
          starts_turn s.tags c.args.p.now.types parts ms i (get_or ms i d) (extent_is c.loop-m.end)
          (extent_is c.in-Ok.l)
          _ c.loop-m.starts.items c.push.new.self.items c.start_of.result has
          (slice_get-get_or ms i d c.loop-m-test.true)
          (next_fits (extent_is c.loop-m.end) _ c.in-Ok.l (omega arith) (c.in-Ok.ensures.is s h)) c.start_of.ensures.is
          c.placed-end.ensures.is c.in_ok-push-in-Ok.ensures.items
          (c.loop-m.invariant.starts s parts h has);
      positive = c.placed-end.ensures.positive;
      align = c.placed-end.ensures.align;
    }

pub returns : goal.returns
returns c s parts h has k z e = rw (c.loop-m.invariant.starts s parts h has) (slice_get-longer _ _ k z e)

pub returns-in-Err : goal.returns-in-Err
returns-in-Err c s parts h has k z e = rw (c.loop-m.invariant.starts s parts h has) (slice_get-longer _ _ k z e)

pub returns-then-end-gt-LIMIT : goal.returns-then-end-gt-LIMIT
returns-then-end-gt-LIMIT c s parts h has k z e =
    rw (c.loop-m.invariant.starts s parts h has) (slice_get-longer _ _ k z e)
