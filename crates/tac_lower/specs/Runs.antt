-- Code does what a program means.
use Rattle.std.specs.Prelude.{◌≡◌, ℕ}
use Rattle.ck_base.specs.World.{World, GivesBytes}
use Rattle.c_tree.specs.declared.typed.Typed.{Typed}
use Rattle.obj_mem.specs.Needs.{Legal}
use Rattle.obj_mem.specs.declared.map.Map.{Map}
use Rattle.cheri_c_sem.specs.Runs.{placed}
use Rattle.tac_ir.specs.Meaning.{tac}
use Rattle.tac_ir.specs.declared.code.Tac.{Tac}

-- under each legal map, in each world that gives bytes, for any number of turns
abbrev pub RunsAs : Typed → Tac → Type 0
RunsAs p t = (m : Map) → Legal p m → (w : World) → GivesBytes w → (turns : ℕ) → tac t p m w turns ≡ placed p m w turns
