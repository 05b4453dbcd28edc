use Rattle.c_interner.proofs.Keeping.{adds_none}
use Rattle.c_interner.proofs.numbers.Numbers.number_of.Goals as goal

pub returns-in_err-key-clause-adds : goal.returns-in_err-key-clause-adds
returns-in_err-key-clause-adds c = adds_none c.args.p.now

pub returns-in-Some : goal.returns-in-Some
returns-in-Some c =
    let at = rw c.as_slice.ensures at c.in-Some.ensures in
    record { adds = adds_none c.args.p.now; ok = record { there = at.there; is = at.is }; err = tt }

pub returns-in-None : goal.returns-in-None
returns-in-None c = record { adds = c.add.ensures.adds; ok = c.add.ensures.ok; err = c.add.ensures.err }
