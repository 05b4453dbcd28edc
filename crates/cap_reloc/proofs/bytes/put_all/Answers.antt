use Rattle.std.proofs.Common.{sym, subst}
use Rattle.cap_reloc.specs.Pointers.{LiteralsLieIn}
use Rattle.cap_reloc.proofs.bytes.put_all.Goals as goal

pub put_literals-requires-clause-lie : goal.put_literals-requires-clause-lie
put_literals-requires-clause-lie c =
    subst (λ n. LiteralsLieIn c.args.from n c.args.p.now.literals c.args.m.now.literals)
    (sym c.put_globals.ensures.length) c.requires.literals
