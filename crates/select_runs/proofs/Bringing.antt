-- A temp comes to a register.
use Rattle.std.proofs.Common.{◌≡◌, ℕ, ◌+◌, ◌<◌, ◌≤◌, List, length, refl, sym, ap, subst, arith}
use Rattle.cap_ops.specs.declared.capability.Cap.{Cap}
use Rattle.rv_instr.specs.declared.instr.Instr.{Instr}
use Rattle.rv_instr.specs.declared.instr.Instr.TheVariants.{CapGet}
use Rattle.rv_instr.specs.declared.ops.CapGetOp.TheVariants.{Cmove}
use Rattle.cap_machine.specs.declared.machine.Machine.{Machine}
use Rattle.cap_machine.specs.Rows.{row, cap_get_row, set}
use Rattle.cap_machine.specs.State.{register}
use Rattle.cheri_c_sem.specs.Modes.{Store}
use Rattle.cheri_c_sem.specs.Steps.{State}
use Rattle.obj_mem.specs.Objects.{base_in}
use Rattle.obj_mem.specs.Table.{addresses_of}
use Rattle.obj_mem.specs.Values.{capability_of}
use Rattle.tac_ir.specs.Effects.{temp_in}
use Rattle.place_inject.specs.Frames.{Setting, Point, IsLive}
use Rattle.place_inject.proofs.Results.{numbers_read_back_law, registers_read_back_law}
use Rattle.select_words.specs.Standing.{HasAt}
use Rattle.select_words.specs.Words as words
use Rattle.select_words.specs.Words.{Bring}
use Rattle.select_runs.specs.Acts.{Ground, Holds, Leads}
use Rattle.select_runs.specs.Operands.{ground_of, IsText, IsAtPoint}
use Rattle.select_runs.proofs.Acts.{begins, one_set}
use Rattle.select_runs.proofs.Numbers.{numbers_are_made_law}
use Rattle.select_runs.proofs.Operands.{load_slot}
use Rattle.select_runs.proofs.Points.{laid, there}
use Rattle.select_runs.proofs.Working.{Got, got}
use Rattle.select_runs.specs.Selecting.{selecting}

module _ (s : Setting) (code : List Instr) (x : IsText s code) (p : Point) (t : State Store) (n : Machine) (at : ℕ)
    (point : IsAtPoint s code p at t n) (temp r : ℕ) (live : IsLive s p temp) (above : 2 < r) (below : r < 32) where
  abbrev g : Ground
  g = ground_of s code

  abbrev value : Cap
  value = capability_of (addresses_of s.map) (base_in t.mem.memory.shapes) (temp_in t temp)

  there_already : register n r ≡ value → Holds g n 0 (at + 0) r r value
  there_already is =
      let e : at ≡ at + 0 = omega arith in
      subst (λ k. Holds g n 0 k r r value) e
      (subst (Holds g n 0 at r r) is (begins g (laid s code x) n at r r (there s code x p at t n point)))

  -- to any register but x0 to c2
  pub brought : (ws : List Instr) → Bring (selecting s p.running.fun) temp r ws → HasAt code at ws
      → Holds g n (length ws) (at + length ws) r r value
  unfolding row cap_get_row
  brought ws (words.Made v e makes few) has =
      subst (Holds g n (length ws) (at + length ws) r r)
      (sym (numbers_read_back_law s p t n point.fits temp v live e).0)
      (numbers_are_made_law g (laid s code x) n at (there s code x p at t n point) r v (omega arith) below ws makes has)
  brought ws (words.There i e) has =
      subst (λ u. Holds g n (length u) (at + length u) r r value) (sym e)
      (there_already (registers_read_back_law s p t n point.fits temp r live i.stands i.home).0)
  brought ws (words.Moved q i d e) has =
      let here = subst (HasAt code at) e has in
      subst (λ u. Holds g n (length u) (at + length u) r r value) (sym e)
      (one_set g (laid s code x) n at (there s code x p at t n point) (CapGet Cmove r q) r value here.0 refl
      (omega arith) below (ap (set n r) (registers_read_back_law s p t n point.fits temp q live i.stands i.home).0))
  brought ws (words.Loaded offset i e) has =
      load_slot s code x p t n point.fits temp r offset above below i live n at
      (there s code x p at t n point) refl refl
      ws e has

-- to a scratch register, which the machine still stands for the state behind
pub brings : (s : Setting) (code : List Instr) (x : IsText s code) (p : Point) (t : State Store) (m n : Machine)
    (count at : ℕ) → Leads count m n → IsAtPoint s code p at t n → (temp r : ℕ) → IsLive s p temp → 28 ≤ r → r < 32
    → (ws : List Instr) → Bring (selecting s p.running.fun) temp r ws → HasAt code at ws
    → Got s code p t m n (count + length ws) (at + length ws) r r
    (capability_of (addresses_of s.map) (base_in t.mem.memory.shapes) (temp_in t temp))
brings s code x p t m n count at leads point temp r live above below ws b has =
    got s code x p t m n count at leads point r r (length ws)
    (capability_of (addresses_of s.map) (base_in t.mem.memory.shapes) (temp_in t temp)) above
    (brought s code x p t n at point temp r live (omega arith) below ws b has)
