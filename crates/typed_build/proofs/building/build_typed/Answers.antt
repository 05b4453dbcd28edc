use Rattle.std.proofs.Common.{Result, Ok, Err, refl, inr}
use Rattle.std.specs.Prelude.{OnOk}
use Rattle.typed_build.proofs.Rooms.{has_room}
use Rattle.typed_build.proofs.building.build_typed.Goals as goal

on_ok : {A E P : Type 0} (r : Result A E) → P → OnOk r P
on_ok (Ok a) p = p
on_ok (Err e) p = tt

pub is_light-requires : goal.is_light-requires
is_light-requires c = c.requires.sound.types.types.ordered

pub returns-then-not-light-clause-refused : goal.returns-then-not-light-clause-refused
returns-then-not-light-clause-refused c = (
  refl,
  inr (
    refl,
    has_room c.args.p.now c.requires.sound c.in_ok-limit.ensures.within,
    λ light. let is = c.in_ok-light.ensures.1 light in absurd cc,
  ),
)

pub build_whole-requires-clause-light : goal.build_whole-requires-clause-light
build_whole-requires-clause-light c = c.in_ok-light.ensures.0 c.if-not-light.false

pub returns-clause-light : goal.returns-clause-light
returns-clause-light c = on_ok c.build_whole.result (c.in_ok-light.ensures.0 c.if-not-light.false)
