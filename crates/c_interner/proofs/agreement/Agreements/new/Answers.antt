use Rattle.std.proofs.Common.{◌≡◌, ◌≤◌, length, arith}
use Rattle.c_tree.specs.Types.{agree}
use Rattle.c_type_levels.specs.Agreement.{lengths_of}
use Rattle.c_interner.specs.Known.{type_in}
use Rattle.c_interner.proofs.Growing.{type_at-past}
use Rattle.c_interner.proofs.Keeping.{none_kept}
use Rattle.c_interner.proofs.agreement.Agreements.new.Goals as goal

pub returns-clause-right : goal.returns-clause-right
returns-clause-right c =
    let types = c.args.types.now in
    let past : length types ≤ c.in_ok-next_number.field-0 = omega (arith, c.in_ok-next_number.ensures) in
    record {
      void = type_at-past types c.in_ok-next_number.field-0 past;
      known = none_kept (λ q r. agree (lengths_of c.args.how) (type_in types q.0) (type_in types q.1) ≡ r)
          c.new.result.entries c.new.ensures.empty;
    }
