use Rattle.std.proofs.Common.{◌+◌, ◌*◌, ◌<◌, ◌≤◌, ◌∙◌, ap, arith, set}
use Rattle.std.proofs.lemmas.List.Sums.{get_or-le-sum_by}
use Rattle.cap_concentrate.specs.Rounding.{rounded_up}
use Rattle.purecap_abi.specs.Frames.{room}
use Rattle.purecap_abi.specs.Placing.{greatest_of}
use Rattle.purecap_abi.proofs.Placing.{first_round, turn_at, turn_skip, turn_take, next_round, done, round_fits}
use Rattle.purecap_abi.proofs.Placing.{turn_fits}
use Rattle.purecap_abi.proofs.Powers.{sum_multiple}
use Rattle.purecap_abi.proofs.frames.place.Goals as goal
use Rattle.purecap_abi.proofs.frames.place.Goals.{then-o-align, else-o-align}

pub loop-half-init : goal.loop-half-init
loop-half-init c = first_round c.args.locals.now c.args.starts.now.items c.args.from c.requires.locals.each
    c.requires.starts c.requires.from

pub overflow_mul-align : goal.overflow_mul-align
overflow_mul-align c =
    let f = round_fits c.args.locals.now c.loop-half.starts.items c.args.from c.loop-half.next c.loop-half.half
    c.requires.locals c.loop-half.invariant in
    omega (arith, f.0)

pub rounded-next-requires-clause-fits : goal.rounded-next-requires-clause-fits
rounded-next-requires-clause-fits c =
    let f = round_fits c.args.locals.now c.loop-half.starts.items c.args.from c.loop-half.next c.loop-half.half
    c.requires.locals c.loop-half.invariant in
    omega (arith, f.0, f.1)

pub overflow_add-next : goal.overflow_add-next
overflow_add-next c =
    let os = c.args.locals.now in
    let f = round_fits os c.loop-half.starts.items c.args.from c.loop-half.next c.loop-half.half c.requires.locals
    c.loop-half.invariant in
    let g = turn_fits os c.loop-k.starts.items c.args.from c.loop-k.next
    (2 * c.loop-half.half) c.loop-k.k c.rounded-next.result c.requires.locals c.loop-k.invariant in
    let s = get_or-le-sum_by room os c.loop-k.k (record { length = 0; align = 0 }) c.loop-k-test.true in
    omega (arith, f.0, f.1, g, s, c.rounded-next.ensures.below, c.rounded-next-then-o-align.ensures.below)

pub loop-k-preserved : goal.loop-k-preserved
loop-k-preserved c =
    let os = c.args.locals.now in
    let align = 2 * c.loop-half.half in
    let k = c.loop-k.k in
    elim c.if-o-align.branch [
      | then-o-align w ↦
          let size = w.rounded-next-then-o-align.result in
          let r = w.rounded-next-then-o-align.ensures in
          let positive : 0 < align = let l = c.loop-half.invariant.least in omega arith in
          turn_at os (set c.loop-k.starts.items k c.loop-k.next) c.if-o-align.starts.items c.args.from
          (c.loop-k.next + size) c.if-o-align.next align (k + 1) c.rounded-next.result
          (ap (λ v. v.items) w.starts-is) w.next-is
          (turn_take os c.loop-k.starts.items c.args.from c.loop-k.next align k c.rounded-next.result size
          c.loop-k-test.true positive w.if-o-align.true
          (r.is ∙ ap (λ n. rounded_up n align) (omega (arith, w.max.ensures))) r.multiple
          (sum_multiple c.loop-k.next size align c.loop-k.invariant.multiple r.multiple) c.loop-k.invariant)
      | else-o-align w ↦
          turn_at os c.loop-k.starts.items c.if-o-align.starts.items c.args.from c.loop-k.next c.if-o-align.next align
          (k + 1) c.rounded-next.result
          (ap (λ v. v.items) w.starts-is) w.next-is
          (turn_skip os c.loop-k.starts.items c.args.from c.loop-k.next align k c.rounded-next.result c.loop-k-test.true
          w.if-o-align.false c.loop-k.invariant)
    ]

pub loop-half-preserved : goal.loop-half-preserved
loop-half-preserved c =
    let less : c.loop-half.half < greatest_of c.args.locals.now = omega (arith, c.greatest-most.ensures) in
    next_round c.args.locals.now c.loop-k.starts.items c.args.from c.loop-half.next c.loop-half.half
    c.rounded-next.result c.loop-k.next c.loop-k.k c.loop-half.starts.items c.requires.locals.each
    c.loop-half.invariant less c.rounded-next.ensures.below c.rounded-next.ensures.multiple c.loop-k-test.false
    c.loop-k.invariant

pub returns-clause-placed : goal.returns-clause-placed
returns-clause-placed c =
    let last : greatest_of c.args.locals.now ≤ c.loop-half.half = omega (arith, c.greatest-most.ensures) in
    (done c.args.locals.now c.loop-half.starts.items c.args.from c.loop-half.next c.loop-half.half
    c.requires.locals.each c.loop-half.invariant last).placed

pub returns-clause-multiple : goal.returns-clause-multiple
returns-clause-multiple c =
    let last : greatest_of c.args.locals.now ≤ c.loop-half.half = omega (arith, c.greatest-most.ensures) in
    (done c.args.locals.now c.loop-half.starts.items c.args.from c.loop-half.next c.loop-half.half
    c.requires.locals.each c.loop-half.invariant last).multiple

pub returns-clause-most : goal.returns-clause-most
returns-clause-most c =
    let last : greatest_of c.args.locals.now ≤ c.loop-half.half = omega (arith, c.greatest-most.ensures) in
    (done c.args.locals.now c.loop-half.starts.items c.args.from c.loop-half.next c.loop-half.half
    c.requires.locals.each c.loop-half.invariant last).most
