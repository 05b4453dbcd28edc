use Rattle.std.proofs.Common.{◌≡◌, length, subst}
use Rattle.cap_reloc.specs.Pointers.{GlobalsLieIn, LiteralsLieIn}
use Rattle.cap_reloc.proofs.bytes.initial_bytes.Goals as goal

pub put_all-requires-clause-globals : goal.put_all-requires-clause-globals
put_all-requires-clause-globals c =
    let made = c.in_ok-bytes.ensures in
    let e : c.args.s.length ≡ length c.deref_mut.result.now = cc in
    subst (λ n. GlobalsLieIn c.args.s.base n c.args.p.now.globals c.args.m.now.globals) e c.requires.globals

pub put_all-requires-clause-literals : goal.put_all-requires-clause-literals
put_all-requires-clause-literals c =
    let made = c.in_ok-bytes.ensures in
    let e : c.args.s.length ≡ length c.deref_mut.result.now = cc in
    subst (λ n. LiteralsLieIn c.args.s.base n c.args.p.now.literals c.args.m.now.literals) e c.requires.literals
