use Rattle.std.proofs.Common.{ap, ◌∙◌, length}
use Rattle.c_interner.proofs.Growing.{is_number_of}
use Rattle.c_interner.proofs.Keeping.{adds_none}
use Rattle.c_interner.proofs.numbers.Numbers.add.Goals as goal

pub returns-in_err-k-clause-adds : goal.returns-in_err-k-clause-adds
returns-in_err-k-clause-adds c = adds_none c.args.p.now

pub returns-in_err-reserve-clause-adds : goal.returns-in_err-reserve-clause-adds
returns-in_err-reserve-clause-adds c = adds_none c.args.p.now

pub returns-clause-ok : goal.returns-clause-ok
returns-clause-ok c = is_number_of c.args.p.now _ _ _ c.in_ok-append.ensures.ok
    (c.in_ok-k.ensures ∙ ap length c.as_slice.ensures)
