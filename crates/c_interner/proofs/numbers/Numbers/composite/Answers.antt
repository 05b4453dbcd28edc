use Rattle.std.proofs.Common.{◌≡◌, ℕ, ◌<◌, length, arith}
use Rattle.c_tree.specs.Types.{composite}
use Rattle.c_interner.specs.Known.{IsComposite}
use Rattle.c_interner.specs.Numbers.{type_named}
use Rattle.c_interner.proofs.Keeping.{if_ok, adds_more, adds_then, composite_named}
use Rattle.c_interner.proofs.numbers.Numbers.composite.Goals as goal

pub find-requires : goal.find-requires
find-requires c =
    let more = adds_more c.args.p.now c.number_of.new.p c.in_ok-void.ensures.adds in
    record {
      known = c.new.ensures c.number_of.new.p.types c.in_ok-void.ensures.ok.there c.in_ok-void.ensures.ok.is;
      first = omega (arith, more, c.requires.first);
      second = omega (arith, more, c.requires.second);
    }

pub returns-clause-adds : goal.returns-clause-adds
returns-clause-adds c =
    adds_then c.args.p.now c.number_of.new.p c.find.new.p c.in_ok-void.ensures.adds c.find.ensures.adds

pub returns-clause-ok : goal.returns-clause-ok
returns-clause-ok c =
    let old = c.args.p.now in
    let new = c.find.new.p in
    let adds = adds_then old c.number_of.new.p new c.in_ok-void.ensures.adds c.find.ensures.adds in
    if_ok c.find.result (λ (k : ℕ). IsComposite new.types (c.args.a, c.args.b) k)
    (λ (k : ℕ). (k < length new.types) ×
    (type_named new k ≡ composite (type_named old c.args.a) (type_named old c.args.b)))
    (λ k h. (h.there, composite_named old new (c.args.a, c.args.b) k adds c.requires.first c.requires.second h))
    c.find.ensures.is
