use Rattle.std.proofs.Common.{arith}
use Rattle.c_interner.specs.Known.{IsComposite}
use Rattle.c_interner.proofs.Keeping.{composites_more, kept_more, fewer_left}
use Rattle.c_interner.proofs.composites.Composites.settle.Goals as goal

pub returns-clause-known : goal.returns-clause-known
returns-clause-known c =
    let more = composites_more c.args.p.now c.make_in.new.p c.args.self.now c.in_ok-found.ensures.adds
    c.requires.known in
    record {
      there = more.there;
      void = more.void;
      known =
          kept_more (IsComposite c.make_in.new.p.types) c.args.self.now.known.entries c.insert.new.self.entries
          c.in_ok-found.found.0 c.in_ok-found.found.1 (λ q. c.in_ok-insert.ensures.updates.0 q)
          c.in_ok-found.ensures.is more.known;
    }

pub returns-clause-more : goal.returns-clause-more
returns-clause-more c =
    fewer_left c.args.self.now.known.entries c.insert.new.self.entries c.in_ok-found.found.0 c.in_ok-insert.field-0
    c.in_ok-found.ensures.unknown c.in_ok-insert.ensures.old c.in_ok-insert.ensures.len (omega arith)
