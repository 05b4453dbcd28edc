-- The initialisation of a struct or union in an object.
use Rattle.std.proofs.Common.{◌≡◌, ℕ, zero, suc, ◌+◌, ◌≤◌, Bool, true, List, ◌∷◌, Option}
use Rattle.std.proofs.Common.{Some, None, sym, ap, ◌∙◌, arith}
use Rattle.std.specs.Prelude.{◌/◌, slice_get, slice_set}
use Rattle.ck_base.specs.World.{World}
use Rattle.ck_base.specs.declared.positions.Pos.{Pos}
use Rattle.cap_ops.specs.Permissions.{data_permissions}
use Rattle.c_tree.specs.declared.typed.Typed.{Typed}
use Rattle.obj_mem.specs.Values.{Value}
use Rattle.cheri_c_sem.specs.Meaning.{Place, At, copy, copy_units}
use Rattle.cheri_c_sem.specs.Modes.{Store}
use Rattle.cheri_c_sem.specs.Operations.{Operations}
use Rattle.cheri_c_sem.specs.Statements.{Goes, part_of_local}
use Rattle.cheri_c_sem.specs.Steps.{State, Fate, Then, answer}
use Rattle.cheri_c_sem.specs.Tree.{Ex, Fill}
use Rattle.tac_ir.specs.Effects.{held}
use Rattle.tac_ir.specs.Meaning.{Running, Runs, turns}
use Rattle.tac_ir.specs.declared.code.Tac.{Tac}
use Rattle.tac_ir.specs.declared.code.TacInstr.TheVariants as instr
use Rattle.tac_ir.specs.declared.code.TacKind.{TacKind}
use Rattle.lower_runs.specs.States.{Scene, IsScene, IsPlaced}
use Rattle.lower_runs.specs.Operating.{Code}
use Rattle.lower_runs.specs.Expressions.{Mark, spares, Within}
use Rattle.lower_runs.specs.Statements.{Exits}
use Rattle.lower_runs.specs.Simulation.{Done, CopyRuns, Finishes}
use Rattle.lower_runs.specs.Following.{StatementRuns}
use Rattle.lower_runs.proofs.Agreement.{get_set_same, get_set_other, agrees_scratch, went_set, done_start}
use Rattle.lower_runs.proofs.Steps.{held_is}
use Rattle.lower_runs.proofs.Assignments.{done_memory}
use Rattle.lower_runs.proofs.Structs.{units_same}
use Rattle.lower_runs.proofs.Statements.{came_done}
use Rattle.lower_runs.proofs.Moves.{offset_by}

module _ (ops : Operations Store) (placed : IsPlaced ops) (w : World) (t : Tac) (p : Typed)
    (objects : ℕ → List ℕ) (r : Running) (call : ℕ → List Value → Then Store Value) where
  module _ (g : Scene) (scene : IsScene g) (q : Pos) (o base bytes unit : ℕ) (spot : g.spot o ≡ Some base)
      (keeps : ℕ → Bool) (m : Mark) (room : g.fixed ≤ m.temps) (s : State Store) (ts : List (Option Value))
      (l : Unit {0} → State Store → Fate) where
    -- the last step: a copy to a part of the object
    abbrev fill : ℕ → Place → Then Store (Unit {0})
    fill offset from u k = part_of_local ops w q o offset u (λ to z. copy ops w q bytes unit from to z k)

    fills : (offset : ℕ) →
        Finishes ops w t p objects r call g (Within base offset) q bytes unit keeps m s ts (fill offset) l
    fills zero pos v at k u us rest done mk size lt value go =
        let whole = ops.whole u.mem (u.first + o) data_permissions in
        let units : Value → Value → Fate = λ x y. copy_units ops w (bytes / unit) unit 0 (At pos x) (At q y)
        (record u { vars = us }) (λ i. turns ops w t p objects u.left rest Runs r) in
        ap (λ z. answer q z u (λ y z2. copy ops w q bytes unit (At pos v) (At q y) z2 l))
        (placed.offset_none u.mem (u.first + o) data_permissions done.agrees.sound
        (let all = done.agrees.there in let below = scene.spot_counted o base spot in omega arith))
        ∙ ap (λ i. answer q i u (λ i2 z2. copy_units ops w (bytes / unit) unit 0 (At pos v) (At q whole) z2 l))
        (placed.overlap v whole bytes)
        ∙ units_same ops placed w t p objects r call g scene (bytes / unit) unit 0 (At pos v) (At q whole) u us l
        (λ i. turns ops w t p objects u.left rest Runs r)
        (λ mem on. go (record u { mem = mem }) us (done_memory ops placed w t p objects r call g scene
        (λ i. true) k u u us us mem on (done_start ops g scene (λ i. true) k u us done.agrees)))
        ∙ ap (λ i. units i whole) (sym (held_is ops w t p objects r call g scene us at v value))
        ∙ ap (units (held (slice_get us at)))
        (sym (held_is ops w t p objects r call g scene us base whole (done.agrees.object o base spot)))
    fills (suc j) pos v at k u us rest done mk size lt value go =
        let whole = ops.whole u.mem (u.first + o) data_permissions in
        let y = placed.offset u.mem whole (suc j) in
        let vs = slice_set us k.temps (Some y.0) in
        let is = done.agrees.room in
        let there = done.agrees.object o base spot in
        let low : g.fixed ≤ k.temps = omega arith in
        let later : Done ops g (λ i. true) k u us u vs = record {
          agrees = agrees_scratch ops g scene u us k.temps (Some y.0) low done.agrees;
          went = went_set ops g scene (λ i. true) (λ i. true) k.temps k.temps None None u u us us k.temps (Some y.0)
              (λ i z. z) (omega arith) (λ i lt2 z. (tt, λ e. absurd (omega arith)))
              (done_start ops g scene (λ i. true) k u us done.agrees).went;
        } in
        let units : Value → Value → Fate = λ x z. copy_units ops w (bytes / unit) unit 0 (At pos x) (At q z)
        (record u { vars = vs }) (λ i. turns ops w t p objects u.left rest Runs r) in
        ap (λ z. answer q z u (λ y2 z2. copy ops w q bytes unit (At pos v) (At q y2) z2 l)) y.1
        ∙ ap (λ i. answer q i u (λ i2 z2. copy_units ops w (bytes / unit) unit 0 (At pos v) (At q y.0) z2 l))
        (placed.overlap v y.0 bytes)
        ∙ units_same ops placed w t p objects r call g scene (bytes / unit) unit 0 (At pos v) (At q y.0) u vs l
        (λ i. turns ops w t p objects u.left rest Runs r)
        (λ mem on. go (record u { mem = mem }) vs (done_memory ops placed w t p objects r call g scene
        (λ i. true) k u u us vs mem on later))
        ∙ ap (λ i. units i y.0) (sym (held_is ops w t p objects r call g scene vs at v
        (get_set_other us k.temps at (Some y.0) (λ e. absurd (omega arith)) ∙ value)))
        ∙ ap (units (held (slice_get vs at))) (sym (held_is ops w t p objects r call g scene vs k.temps y.0
        (get_set_same us k.temps (Some y.0) (omega arith))))
        ∙ sym (offset_by ops placed w t p objects r call g scene k.temps base (suc j) whole y.0 u us
        (instr.CopyUnits at k.temps bytes unit pos q ∷ rest) there y.1)

  pub struct_statement : (result : Option TacKind) (g : Scene) → IsScene g →
      (x : Exits) (q : Pos) (o base offset bytes unit : ℕ) (e : Ex) (m n : Mark) (c : Code) → g.spot o ≡ Some base →
      CopyRuns ops w t p objects r call g (Within base offset) q bytes unit e m n c
      → StatementRuns ops w t p objects r call result g x (Fill q o offset bytes unit e) m n c
  struct_statement result g scene x q o base offset bytes unit e m n c spot h = record {
    piece = h.piece;
    runs = λ s ts l rest room before known ag follows.
        h.runs (fill g scene q o base bytes unit spot (λ i. spares i e) m room.low s ts (λ i z. l Goes z) offset) s ts
        (λ i z. l Goes z) rest room ag
        (fills g scene q o base bytes unit spot (λ i. spares i e) m room.low s ts (λ i z. l Goes z) offset)
        (λ u us d. follows.goes_on u us
        (came_done ops placed w t p objects r call result g (λ i. spares i e) m s u ts us d) d.agrees);
  }
