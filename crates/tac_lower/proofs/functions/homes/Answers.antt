use Rattle.std.proofs.Common.{◌+◌, length, refl, ap, sym, subst, arith}
use Rattle.tac_lower.proofs.Homes.{HomesTo, variable_at, object_among, objects_at, homes_none, homes_at, homes_all}
use Rattle.tac_lower.proofs.Homes.{homes_add, parameters_kept, parameters_there, taken_few}
use Rattle.tac_emit.proofs.Spending.{spent_within}
use Rattle.tac_lower.proofs.Zeroing.{Apart, apart_none, apart_more}
use Rattle.tac_lower.proofs.functions.homes.Goals as goal

pub loop-v-init : goal.loop-v-init
loop-v-init c =
    let p = c.args.program.p.now in
    let d = c.args.d.now in
    let a = c.args.out.now in
    record {
      homes = subst (λ z. HomesTo p d a a z 0) (sym c.new-found.ensures.items) (homes_none p d a);
      parameters = c.requires.parameters;
      apart = subst (λ z. Apart z 0) (sym c.new-found.ensures.items) (apart_none 0);
      variable = refl;
      objects = refl;
    }

pub next_home-requires-clause-parameters : goal.next_home-requires-clause-parameters
next_home-requires-clause-parameters c = c.loop-v.invariant.parameters

pub next_home-requires-clause-there : goal.next_home-requires-clause-there
next_home-requires-clause-there c =
    variable_at c.args.program.p.now _ c.args.d.now.vars c.loop-v.v-index _ c.as_slice-v-items.ensures
    c.loop-v-test.true _ c.loop-v.invariant.variable

pub next_home-requires-clause-object : goal.next_home-requires-clause-object
next_home-requires-clause-object c =
    object_among c.args.program.p.now _ c.args.d.now.vars c.loop-v.v-index _ c.as_slice-v-items.ensures
    c.loop-v-test.true _ c.loop-v.invariant.objects

pub next_home-requires-clause-room : goal.next_home-requires-clause-room
next_home-requires-clause-room c =
    let same = ap length c.as_slice-v-items.ensures in
    let n = c.requires.room in
    let so_far = c.loop-v.invariant.homes in
    record { temps = omega (arith, so_far.temps, n.temps); labels = omega (arith, so_far.labels, n.labels) }

pub with-count-requires-clause-variable : goal.with-count-requires-clause-variable
with-count-requires-clause-variable c =
    let same = ap length c.as_slice-v-items.ensures in
    let i = c.loop-v.invariant.variable in
    omega arith

pub with-count-requires-clause-objects : goal.with-count-requires-clause-objects
with-count-requires-clause-objects c =
    let same = ap length c.as_slice-v-items.ensures in
    let n = c.loop-v.invariant.objects in
    omega (arith, taken_few c.args.program.p.now c.args.d.now.vars c.loop-v.v-index)

pub loop-v-preserved : goal.loop-v-preserved
loop-v-preserved c =
    let p = c.args.program.p.now in
    let d = c.args.d.now in
    let i = c.loop-v.v-index in
    let e = c.next_home.new.out in
    let given = c.in_ok-home.ensures in
    let so_far = c.loop-v.invariant in
    let same = c.as_slice-v-items.ensures in
    let one = c.with-count.ensures in
    record {
      homes =
          subst (λ z. HomesTo p d c.args.out.now e z (i + 1)) (sym c.in_ok-push.ensures.items)
          (homes_at p _ d.vars i _ same c.loop-v-test.true d c.args.out.now c.loop-v.out e c.loop-v.found.items
          c.in_ok-home.home refl so_far.homes given.grown given.adds given.home given.spent
          given.added c.loop-v.count.variable c.loop-v.count.objects so_far.variable so_far.objects
          (parameters_there p d c.loop-v.out so_far.parameters) given.next);
      parameters = parameters_kept p d c.loop-v.out e so_far.parameters given.grown.keeps;
      apart = subst (λ z. Apart z c.with-count.result.objects) (sym c.in_ok-push.ensures.items)
          (apart_more c.loop-v.found.items c.in_ok-home.home _ c.loop-v.count.objects c.with-count.result.objects
          so_far.apart given.numbered one.simple one.object);
      variable = omega (arith, one.variable, so_far.variable);
      objects = objects_at p _ d.vars i _ same c.loop-v-test.true c.loop-v.count.objects c.with-count.result.objects
          one.simple one.object so_far.objects;
    }

pub returns : goal.returns
returns c =
    record {
      housed = (let same = ap length c.as_slice-v-items.ensures in
          homes_all c.args.program.p.now c.args.d.now c.args.out.now c.loop-v.out c.loop-v.found.items c.loop-v.v-index
          c.loop-v.invariant.homes (omega arith));
      homes = c.loop-v.invariant.homes.homed;
      added = c.loop-v.invariant.homes.added;
      grown = c.loop-v.invariant.homes.grown;
      adds = (let same = ap length c.as_slice-v-items.ensures in
          homes_add c.args.program.p.now c.args.d.now c.args.out.now c.loop-v.out c.loop-v.found.items
          c.loop-v.v-index _
          c.loop-v.invariant.homes (omega arith));
      spent = (let same = ap length c.as_slice-v-items.ensures in
          spent_within c.loop-v.invariant.homes.spent (omega arith) (omega arith));
      apart = c.loop-v.invariant.apart.once;
    }
