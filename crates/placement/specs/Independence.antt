-- Placement independence: where the meaning without addresses is defined, it is the meaning at the addresses of each
-- legal map.
use Rattle.std.specs.Prelude.{ℕ}
use Rattle.ck_base.specs.World.{World, GivesBytes}
use Rattle.c_tree.specs.declared.typed.Typed.{Typed}
use Rattle.c_tree.specs.Typing.{Sound}
use Rattle.obj_mem.specs.declared.map.Map.{Map}
use Rattle.obj_mem.specs.Needs.{Legal}
use Rattle.cheri_c_sem.specs.Runs.{placed, strict}
use Rattle.placement.specs.Endings.{IsDefined, IsAsMeant}

-- Of every sound program, legal map, input and number of turns
abbrev pub PlacementIndependence : Type 0
PlacementIndependence = (p : Typed) → Sound p → (m : Map) → Legal p m → (w : World) → GivesBytes w → (turns : ℕ)
    → IsDefined (strict p w turns).ending → IsAsMeant (strict p w turns) (placed p m w turns)
