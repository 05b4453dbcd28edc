use Rattle.std.proofs.Common.{ℕ, ◌<◌, List, length, sym, subst, ◌∙◌}
use Rattle.std.proofs.lemmas.List.Elements.{All-take}
use Rattle.c_tree.specs.declared.typed.Typed.{Typed}
use Rattle.c_interner.specs.Levels.{rank, AreBelow}
use Rattle.c_interner.specs.Known.{AreComposites}
use Rattle.c_interner.specs.Numbers.{AddsTypes}
use Rattle.c_interner.proofs.Pairing.{below_end}
use Rattle.c_interner.proofs.Keeping.{adds_none, below_last, last_there, last_taken}
use Rattle.c_interner.proofs.composites.Composites.make_in.Goals as goal

pub make-requires : goal.make-requires
make-requires c =
    let n = length c.args.p.now.types in
    let e = sym c.parts.invariant.same in
    let below : AreBelow n c.push.new.self.items =
    subst (λ (qs : List (ℕ × ℕ)). AreBelow n qs) (sym c.in_ok-push.ensures.items)
    (below_end n c.parts.waiting.items c.parts.part c.parts.invariant.first c.parts.invariant.second
    c.parts.invariant.waiting) in
    record {
      known = subst (λ (p : Typed). AreComposites p.types c.args.self.now) e c.requires.known;
      first = subst (λ (p : Typed). c.parts.part.0 < length p.types) e c.parts.invariant.first;
      second = subst (λ (p : Typed). c.parts.part.1 < length p.types) e c.parts.invariant.second;
      waiting = subst (λ (p : Typed). AreBelow (length p.types) c.push.new.self.items) e below;
    }

pub take_last-part-requires : goal.take_last-part-requires
take_last-part-requires c =
    last_there c.args.self.now.known.entries c.args.self.now.void (rank c.args.self.now.void c.parts.part.0)
    c.make.new.waiting.items (rw c.in-None.is at c.in_ok-k.ensures.last)

pub parts-preserved : goal.parts-preserved
parts-preserved c =
    let n = length c.args.p.now.types in
    let made : AreBelow n c.make.new.waiting.items =
    subst (λ (p : Typed). AreBelow (length p.types) c.make.new.waiting.items) c.parts.invariant.same
    c.in_ok-k.ensures.waiting in
    let below = below_last n c.take_last-part.new.pairs.items c.make.new.waiting.items c.take_last-part.result c.take_last-part.ensures
    made in
    record {
      same = (rw c.in-None.is at c.in_ok-k.ensures.same) ∙ c.parts.invariant.same;
      first = below.0;
      second = below.1;
      waiting = below.2;
      unknown = (last_taken c.args.self.now.known.entries c.args.self.now.void
          (rank c.args.self.now.void c.parts.part.0) c.make.new.waiting.items c.take_last-part.new.pairs.items
          c.take_last-part.result (rw c.in-None.is at c.in_ok-k.ensures.last) c.take_last-part.ensures).0;
    }

pub parts-smaller : goal.parts-smaller
parts-smaller c =
    (last_taken c.args.self.now.known.entries c.args.self.now.void (rank c.args.self.now.void c.parts.part.0)
    c.make.new.waiting.items c.take_last-part.new.pairs.items c.take_last-part.result
    (rw c.in-None.is at c.in_ok-k.ensures.last) c.take_last-part.ensures).1

pub returns-in-Some-clause-is : goal.returns-in-Some-clause-is
returns-in-Some-clause-is c = rw c.in-Some.is at c.in_ok-k.ensures.is

pub returns-in-Some-clause-adds : goal.returns-in-Some-clause-adds
returns-in-Some-clause-adds c =
    subst (λ (p : Typed). AddsTypes p c.make.new.p) c.parts.invariant.same c.in_ok-k.ensures.adds

pub returns-in-Some-clause-waiting : goal.returns-in-Some-clause-waiting
returns-in-Some-clause-waiting c =
    let n = length c.args.p.now.types in
    let made : AreBelow n c.make.new.waiting.items =
    subst (λ (p : Typed). AreBelow (length p.types) c.make.new.waiting.items) c.parts.invariant.same
    c.in_ok-k.ensures.waiting in
    rw c.truncate.ensures.items (All-take (λ (q : ℕ × ℕ). (q.0 < n) × (q.1 < n)) c.len-others.result
    c.make.new.waiting.items made)

pub returns-in_err-k-clause-adds : goal.returns-in_err-k-clause-adds
returns-in_err-k-clause-adds c =
    subst (λ (p : Typed). AddsTypes p c.make.new.p) c.parts.invariant.same c.in_err-k.ensures.adds

pub returns-in_err-push-clause-adds : goal.returns-in_err-push-clause-adds
returns-in_err-push-clause-adds c =
    subst (λ (p : Typed). AddsTypes c.args.p.now p) (sym c.parts.invariant.same) (adds_none c.args.p.now)
