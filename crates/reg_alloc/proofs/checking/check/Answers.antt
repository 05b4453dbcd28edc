use Rattle.std.proofs.Common.{rules, arith, ◌≡◌, ℕ, length}
use Rattle.reg_alloc.specs.Placed.{FitsAt}
use Rattle.reg_alloc.proofs.Checked.{placed_iff}
use Rattle.reg_alloc.proofs.checking.check.Goals as goal
use Rattle.reg_alloc.proofs.checking.check.Goals.{then-homes-live, else-homes-live}

pub returns-then-all_fit : goal.returns-then-all_fit
returns-then-all_fit c =
    let live = c.as_slice-live.result.now in
    let homes = c.as_slice-homes.result.now in
    let facts : (length homes ≡ length live) × ((i : ℕ) → FitsAt live c.as_slice-calls.result.now homes i) =
    elim c.if-homes-live.branch [
      | then-homes-live w ↦
          (w.if-homes-live.true, w.all_fit.ensures.0 (search rules))
      | else-homes-live w ↦ absurd (grind arith)
    ] in
    rw (← c.as_slice-live.ensures.value, ← c.as_slice-calls.ensures.value, ← c.as_slice-homes.ensures)
    (placed_iff _ _ _ _ facts.0 facts.1 c.all_apart.ensures)
