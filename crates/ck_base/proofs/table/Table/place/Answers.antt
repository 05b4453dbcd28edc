use Rattle.std.proofs.Common.{string_bytes}
use Rattle.std.specs.Prelude.{bytes_eq}
use Rattle.ck_base.proofs.NamedFiles.{position-map}
use Rattle.ck_base.proofs.table.Table.place.Goals as goal

pub returns-clause-first : goal.returns-clause-first
returns-clause-first c = rw (
  ← c.self.view_is,
  position-map string_bytes (λ other. bytes_eq other c.args.name.now) c.self.inside.names.items,
  ← c.deref.ensures.value,
) c.position_of.ensures
