use Rattle.std.proofs.Common.{sym}
use Rattle.ck_base.proofs.NamedFiles.{PutsFile-set, PutsFile-push}
use Rattle.ck_base.proofs.table.Table.put.Goals as goal

pub returns-in-Some-clause-puts : goal.returns-in-Some-clause-puts
returns-in-Some-clause-puts c =
    rw (c.replace.ensures, c.in_ok-bytes.ensures.items)
    (PutsFile-set c.args.self.now c.args.name.now c.args.bytes.now c.in-Some.place c.in-Some.ensures.same_length
    (sym c.in-Some.ensures.first))

pub returns-in_ok-add-in-None-clause-puts : goal.returns-in_ok-add-in-None-clause-puts
returns-in_ok-add-in-None-clause-puts c =
    rw (c.in_ok-add-in-None.ensures.added, c.in_ok-bytes.ensures.items, c.in_ok-from_str-in-None.ensures.ok)
    (PutsFile-push c.args.self.now c.args.name.now c.args.bytes.now c.in-None.ensures.same_length
    (sym c.in-None.ensures.first))
