-- Where structs and unions are copied to.
use Rattle.std.specs.Prelude.{◌≡◌, true, false}
use Rattle.tac_ir.specs.WellFormed.{units_fit}
use Rattle.tac_ir.specs.declared.code.TacKind.TheVariants as kinds
use Rattle.tac_emit.specs.declared.emitter.Emitter.{Emitter}
use Rattle.tac_lower.specs.declared.places.Destination.{Destination}
use Rattle.tac_lower.specs.declared.places.Target.{Target}
use Rattle.tac_lower.specs.declared.places.Target.TheVariants as target
use Rattle.tac_emit.specs.Emitted.{HasKind}

-- the pointer is in a temp
abbrev pub TargetFits : Emitter → Target → Type 0
TargetFits e (target.At t) = HasKind e t (kinds.Cap false)
TargetFits e (target.Within base offset) = HasKind e base (kinds.Cap false)

-- and so many bytes are whole units
pub record DestinationFits (e : Emitter) (d : Destination) : Type 0 where
  pub target : TargetFits e d.to
  pub units : units_fit d.bytes d.unit ≡ true
