use Rattle.std.proofs.Common.{take, drop, length-take-le, sym, arith}
use Rattle.std.proofs.lemmas.List.{take_rest}
use Rattle.ck_base.specs.Lexes.{Gap, Separates, begins_line}
use Rattle.c_lex.proofs.Positions.{place_begins, place_moved, place_part}
use Rattle.c_lex.proofs.Stands.{separator_some, separator_within, gap_push}
use Rattle.c_lex.proofs.pieces.find.Goals as goal
use Rattle.c_lex.proofs.pieces.find.Goals.{In-Separator}

pub loop-n-init : goal.loop-n-init
loop-n-init c = record { of_file = c.requires.of_file; passed = Gap.none }

-- the separator that stands here
separates : (c : In-Separator) →
    Separates (begins_line (take c.loop-n.place.at c.args.file.now))
    (drop c.loop-n.place.at c.args.file.now) c.in-Separator.n
separates c = rw (
  take_rest c.args.file.now c.loop-n.place.at,
  place_begins c.args.file.now c.loop-n.place c.loop-n.invariant.of_file,
) at c.in-Separator.ensures

pub slice_bounds-behind-end : goal.slice_bounds-behind-end
slice_bounds-behind-end c =
    let within = separator_within (separates (goal.at.slice_bounds-behind-end c).In-Separator) in
    sym (rw (take_rest c.args.file.now c.loop-n.place.at)
    (length-take-le c.in-Separator.n (drop c.loop-n.place.at c.args.file.now) within))

pub behind-place-requires : goal.behind-place-requires
behind-place-requires c =
    rw (take_rest c.args.file.now c.loop-n.place.at)
    (place_part c.args.file.now c.loop-n.place c.in-Separator.n c.requires.small c.loop-n.invariant.of_file
    (separator_within (separates (goal.at.behind-place-requires c).In-Separator)))

pub loop-n-smaller : goal.loop-n-smaller
loop-n-smaller c =
    let here = separates (goal.at.loop-n-smaller c).In-Separator in
    let behind = place_moved c.args.file.now c.loop-n.place c.behind-place.result c.in-Separator.n
    c.loop-n.invariant.of_file (separator_within here)
    (rw (take_rest c.args.file.now c.loop-n.place.at) at c.behind-place.ensures) in
    omega (arith, behind.0, behind.1.within, separator_some here)

pub loop-n-preserved : goal.loop-n-preserved
loop-n-preserved c =
    let here = separates (goal.at.loop-n-preserved c).In-Separator in
    let behind = place_moved c.args.file.now c.loop-n.place c.behind-place.result c.in-Separator.n
    c.loop-n.invariant.of_file (separator_within here)
    (rw (take_rest c.args.file.now c.loop-n.place.at) at c.behind-place.ensures) in
    record { of_file = behind.1; passed = rw behind.0 (gap_push c.in-Separator.n c.loop-n.invariant.passed here) }

pub returns-in-Other-clause-found : goal.returns-in-Other-clause-found
returns-in-Other-clause-found c =
    rw (
      take_rest c.args.file.now c.loop-n.place.at,
      place_begins c.args.file.now c.loop-n.place c.loop-n.invariant.of_file,
    ) at c.in-Other.ensures
