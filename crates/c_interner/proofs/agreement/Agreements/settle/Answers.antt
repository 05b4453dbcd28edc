use Rattle.std.proofs.Common.{◌≡◌, ℕ, Bool, arith}
use Rattle.c_tree.specs.Types.{agree}
use Rattle.c_type_levels.specs.Agreement.{lengths_of}
use Rattle.c_interner.specs.Known.{type_in}
use Rattle.c_interner.proofs.Keeping.{kept_more, fewer_left}
use Rattle.c_interner.proofs.agreement.Agreements.settle.Goals as goal

pub returns-clause-right : goal.returns-clause-right
returns-clause-right c =
    let types = c.args.self.now.types.now in
    record {
      void = c.requires.right.void;
      known =
          kept_more (λ (q : ℕ × ℕ) (r : Bool). agree (lengths_of c.args.self.now.how) (type_in types q.0)
          (type_in types q.1) ≡ r) c.args.self.now.known.entries c.insert.new.self.entries c.in_ok-found.found.0
          c.in_ok-found.found.1 (λ q. c.in_ok-insert.ensures.updates.0 q) c.in_ok-found.ensures.agree
          c.requires.right.known;
    }

pub returns-clause-more : goal.returns-clause-more
returns-clause-more c =
    fewer_left c.args.self.now.known.entries c.insert.new.self.entries c.in_ok-found.found.0 c.in_ok-insert.field-0
    c.in_ok-found.ensures.unknown c.in_ok-insert.ensures.old c.in_ok-insert.ensures.len (omega arith)
