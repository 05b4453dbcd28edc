-- The law that other crates cite: what typing gives is well typed.
use Rattle.c_tree.specs.declared.typed.Typed.{Typed}
use Rattle.c_tree.specs.Typing.{Sound}
use Rattle.c_tree.specs.WellTyped.{WellTyped}
use Rattle.typing_laws.proofs.Accepted.{fit_of_reads}
use Rattle.typing_laws.proofs.Final.{sound_well_typed}

pub well_typed : (p : Typed) → Sound p → WellTyped p
well_typed p h = sound_well_typed p h (fit_of_reads h.tree h.bytes h.types.syntax h.types.reads)
