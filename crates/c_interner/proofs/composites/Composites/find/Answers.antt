use Rattle.std.proofs.Common.{◌<◌, length, sym, ap, ◌∙◌, arith}
use Rattle.std.specs.Prelude.{is_some}
use Rattle.c_interner.proofs.Keeping.{adds_more, adds_then, below_more}
use Rattle.c_interner.proofs.composites.Composites.find.Goals as goal

pub returns-in-Some-clause-is : goal.returns-in-Some-clause-is
returns-in-Some-clause-is c =
    let types = c.steps.p.types in
    let more = adds_more c.args.p.now c.steps.p c.steps.invariant.adds in
    let first : c.args.a < length types = omega arith in
    c.in-Some.ensures.is types c.steps.invariant.known first

pub next_open-pair-requires : goal.next_open-pair-requires
next_open-pair-requires c = sym c.look.ensures.known ∙ ap is_some c.in-None.is

pub settle-requires : goal.settle-requires
settle-requires c =
    let n = length c.steps.p.types in
    let more = adds_more c.args.p.now c.steps.p c.steps.invariant.adds in
    let a : c.args.a < n = omega arith in
    let b : c.args.b < n = omega arith in
    let below = c.next_open-pair.ensures.below n a b c.steps.invariant.waiting in
    record {
      known = c.steps.invariant.known;
      first = below.0;
      second = below.1;
      waiting = below.2;
      unknown = c.next_open-pair.ensures.unknown;
    }

pub steps-preserved : goal.steps-preserved
steps-preserved c =
    let adds = c.in_ok-settle-in-None.ensures.adds in
    record {
      known = c.in_ok-settle-in-None.ensures.known;
      adds = adds_then c.args.p.now c.steps.p c.settle.new.p c.steps.invariant.adds adds;
      waiting =
          below_more (length c.steps.p.types) (length c.settle.new.p.types) c.settle.new.waiting.items
          (adds_more c.steps.p c.settle.new.p adds) c.in_ok-settle-in-None.ensures.waiting;
    }

pub returns-in_err-settle-in-None-clause-adds : goal.returns-in_err-settle-in-None-clause-adds
returns-in_err-settle-in-None-clause-adds c =
    adds_then c.args.p.now c.steps.p c.settle.new.p c.steps.invariant.adds c.in_err-settle-in-None.ensures.adds
