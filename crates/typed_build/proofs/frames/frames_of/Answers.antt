use Rattle.std.proofs.Common.{◌≡◌, ◌<◌, [], ◌∷◌, length, length-append, sym, ap, ◌∙◌, arith}
use Rattle.std.specs.Prelude.{slice_get}
use Rattle.typed_build.specs.Frames.{FrameFits}
use Rattle.typed_build.proofs.Growing.{grown_beside, read_in}
use Rattle.typed_build.proofs.Locals.{locals_within}
use Rattle.typed_build.proofs.frames.frames_of.Goals as goal

pub frame_of-requires-clause-homes : goal.frame_of-requires-clause-homes
frame_of-requires-clause-homes c =
    let k = c.loop-k.k in
    let funs = c.as_slice-funs in
    let homes = c.as_slice-homes in
    let places = c.args.places.now in
    let fun_lt : k < length funs.result.now =
    omega (arith, c.loop-k-test.true, c.requires.funs, ap length c.as_slice-defs.ensures, ap length funs.ensures) in
    let home_lt : k < length homes.result.now =
    omega (
      arith,
      c.loop-k-test.true,
      c.requires.places,
      places.ok,
      ap length homes.ensures.value,
      ap length c.as_slice-defs.ensures,
    ) in
    c.requires.homes k c.index-funs-k.result c.index-homes-k.result
    (read_in funs.result.now c.args.t.now.funs k c.index-funs-k.result funs.ensures fun_lt c.index-funs-k.is)
    (read_in homes.result.now places.items k c.index-homes-k.result homes.ensures.value home_lt c.index-homes-k.is)

pub frame_of-requires-clause-costs : goal.frame_of-requires-clause-costs
frame_of-requires-clause-costs c =
    let k = c.loop-k.k in
    let defs = c.as_slice-defs in
    let funs = c.as_slice-funs in
    let lt : k < length defs.result.now = omega (arith, c.loop-k-test.true) in
    let fun_lt : k < length funs.result.now =
    omega (arith, c.loop-k-test.true, c.requires.funs, ap length defs.ensures, ap length funs.ensures) in
    let d = read_in defs.result.now c.args.p.now.funs k c.index-defs-k.result defs.ensures lt c.index-defs-k.is in
    let f = read_in funs.result.now c.args.t.now.funs k c.index-funs-k.result funs.ensures fun_lt c.index-funs-k.is in
    (c.requires.costs k c.index-funs-k.result c.index-defs-k.result f d).0

pub frame_of-requires-clause-light : goal.frame_of-requires-clause-light
frame_of-requires-clause-light c =
    let k = c.loop-k.k in
    let defs = c.as_slice-defs in
    let funs = c.as_slice-funs in
    let lt : k < length defs.result.now = omega (arith, c.loop-k-test.true) in
    let fun_lt : k < length funs.result.now =
    omega (arith, c.loop-k-test.true, c.requires.funs, ap length defs.ensures, ap length funs.ensures) in
    let d = read_in defs.result.now c.args.p.now.funs k c.index-defs-k.result defs.ensures lt c.index-defs-k.is in
    let f = read_in funs.result.now c.args.t.now.funs k c.index-funs-k.result funs.ensures fun_lt c.index-funs-k.is in
    (c.requires.costs k c.index-funs-k.result c.index-defs-k.result f d).1

pub frame_of-requires-clause-within : goal.frame_of-requires-clause-within
frame_of-requires-clause-within c =
    let k = c.loop-k.k in
    let defs = c.as_slice-defs in
    let lt : k < length defs.result.now = omega (arith, c.loop-k-test.true) in
    locals_within c.args.p.now k c.index-defs-k.result c.requires.within
    (read_in defs.result.now c.args.p.now.funs k c.index-defs-k.result defs.ensures lt c.index-defs-k.is)

pub loop-k-preserved : goal.loop-k-preserved
loop-k-preserved c =
    let k = c.loop-k.k in
    let p = c.args.p.now in
    let all = c.args.t.now.funs in
    let defs = c.as_slice-defs in
    let funs = c.as_slice-funs in
    let homes = c.as_slice-homes in
    let frames = c.loop-k.frames.items in
    let places = c.args.places.now.items in
    let lt : k < length defs.result.now = omega (arith, c.loop-k-test.true) in
    let fun_lt : k < length funs.result.now =
    omega (arith, c.loop-k-test.true, c.requires.funs, ap length defs.ensures, ap length funs.ensures) in
    let home_lt : k < length homes.result.now =
    omega (
      arith,
      c.loop-k-test.true,
      c.requires.places,
      c.args.places.now.ok,
      ap length homes.ensures.value,
      ap length defs.ensures,
    ) in
    let d = read_in defs.result.now p.funs k c.index-defs-k.result defs.ensures lt c.index-defs-k.is in
    let f = read_in funs.result.now all k c.index-funs-k.result funs.ensures fun_lt c.index-funs-k.is in
    let l = read_in homes.result.now places k c.index-homes-k.result homes.ensures.value home_lt c.index-homes-k.is in
    let last : k ≡ length frames = sym c.loop-k.invariant.len in
    record {
      len =
          omega (
            arith,
            c.loop-k.invariant.len,
            ap length c.in_ok-add.ensures,
            length-append frames (c.in_ok-g.g ∷ []),
          );
      fit = λ j d' f' l' g a b e h.
          grown_beside (FrameFits p) p.funs all places frames c.index-defs-k.result c.index-funs-k.result
          c.index-homes-k.result c.in_ok-g.g c.loop-k.invariant.fit (ap (slice_get p.funs) (sym last) ∙ d)
          (ap (slice_get all) (sym last) ∙ f) (ap (slice_get places) (sym last) ∙ l)
          c.in_ok-g.ensures j d' f' l' g a b e (ap (λ xs. slice_get xs j) (sym c.in_ok-add.ensures) ∙ h);
    }
