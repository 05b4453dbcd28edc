use Rattle.std.proofs.lemmas.List.{map-set}
use Rattle.ck_base.proofs.table.Table.replace.Goals as goal

pub returns : goal.returns
returns c = rw (← c.self.view_is) (simp map-set)
