-- Calls through values.
use Rattle.std.proofs.Common.{◌≡◌, ℕ, zero, suc, ◌+◌, ◌≤◌, Bool, true, false, pos, List, ◌++◌, length, refl, sym}
use Rattle.std.proofs.Common.{ap, ◌∙◌, subst, arith, Option}
use Rattle.std.specs.Prelude.{slice_index_or}
use Rattle.ck_base.specs.World.{World}
use Rattle.ck_base.specs.declared.positions.Pos.{Pos}
use Rattle.cap_ops.specs.declared.access.Cause.{Cause}
use Rattle.cap_ops.specs.declared.access.Cause.TheVariants as cause
use Rattle.cap_ops.specs.declared.capability.Cap.{Cap}
use Rattle.rv_instr.specs.declared.instr.Instr.{Instr}
use Rattle.rv_instr.specs.declared.instr.Instr.TheVariants.{Cjalr}
use Rattle.cap_machine.specs.declared.machine.Machine.{Machine}
use Rattle.cap_machine.specs.Rows.{row, cjalr_row, trap}
use Rattle.c_tree.specs.declared.typed.Typed.{Typed}
use Rattle.cheri_c_sem.specs.Meaning.{called}
use Rattle.cheri_c_sem.specs.Modes.{Store, operations, placed_plan}
use Rattle.cheri_c_sem.specs.Steps.{State, Fate, over}
use Rattle.obj_mem.specs.declared.ending.Ending.TheVariants as ending
use Rattle.obj_mem.specs.Comparisons.{callee}
use Rattle.obj_mem.specs.Objects.{base_in}
use Rattle.obj_mem.specs.Table.{addresses_of}
use Rattle.obj_mem.specs.Values.{Value, Int, Live, Fun, Raw, capability_of}
use Rattle.tac_ir.specs.Costs.{cost}
use Rattle.tac_ir.specs.Effects.{Next, Into, effect, fits, temp_in}
use Rattle.tac_ir.specs.Meaning.{Running}
use Rattle.tac_ir.specs.Temps.{now, IsIn as IsAmong}
use Rattle.tac_ir.specs.declared.code.TacInstr.{TacInstr}
use Rattle.place_inject.specs.Calling.{CallAnswers}
use Rattle.place_inject.specs.Frames.{Setting, Point, IsLive, functions_of}
use Rattle.place_inject.specs.Values.{IsKnown}
use Rattle.place_inject.specs.Spills.{StackIsThere}
use Rattle.place_inject.proofs.Calling.{FirstLies, callees_answer}
use Rattle.select_words.specs.Standing.{HasAt}
use Rattle.select_words.specs.Through.{ThroughWords, through}
use Rattle.select_runs.specs.Accesses.{TrapsWithin}
use Rattle.select_runs.specs.Calling.{HasWords, MayCall, values}
use Rattle.select_runs.specs.Operands.{IsText, IsAtPoint}
use Rattle.select_runs.specs.Results.{before, kinds_in}
use Rattle.select_runs.specs.Through.{IsCallee, IsCalled, CallsThrough, Enters, Stops, Leaves, CallsThroughValuesRun}
use Rattle.select_runs.proofs.Acts.{has_front}
use Rattle.select_runs.proofs.Bringing.{brings}
use Rattle.select_runs.proofs.Calling.{awaiting}
use Rattle.select_runs.proofs.Sentries.{ComesToJump, comes_to_jump, jump_word}
use Rattle.select_runs.proofs.Simple.{bring_few}
use Rattle.select_runs.proofs.Points.{traps_at}
use Rattle.select_runs.proofs.Working.{Got}
use Rattle.select_runs.specs.Selecting.{selecting}

module _ (s : Setting) (code : List Instr) (x : IsText s code) (stack : StackIsThere s)
    (w : World) (p : Typed) (running : Running) (to : Option ℕ)
    (v of : ℕ) (args : List ℕ) (source : Pos) (rest : List TacInstr) (at : ℕ) (t : State Store) (m : Machine)
    (point : IsAtPoint s code (before running (through to v of args source) rest) at t m) (words64 : HasWords m)
    (callees : (f : ℕ) → IsCalled s w p v of t f → IsCallee s code running to args rest t f)
    (words : List Instr) (form : ThroughWords (selecting s running.fun) v args words) (has : HasAt code at words)
    (may : MayCall s code running to args rest (at + length words) t) where
  abbrev i : TacInstr
  i = through to v of args source

  abbrev here : Point
  here = before running i rest

  abbrev bits : Value → Cap
  bits = capability_of (addresses_of s.map) (base_in t.mem.memory.shapes)

  live_callee : IsLive s here v
  live_callee = now (zero, refl)

  lives : (temp : ℕ) → IsAmong temp args → IsLive s here temp
  lives temp h = now (suc h.0, h.1)

  -- c31 has the value
  found : Got s code here t m m (0 + length form.finds) (at + length form.finds) 31 31 (bits (temp_in t v))
  found = brings s code x here t m m 0 at refl point v 31 live_callee (omega arith) (omega arith) form.finds form.found
      (has_front code at form.finds (form.passes ++ jump_word) (subst (HasAt code at) form.are has))

  few : 0 + length form.finds ≤ 3
  few = let finding_few = bring_few s running.fun v 31 form.finds form.found in omega (arith, finding_few)

  abbrev word : ℕ
  word = at + length form.finds + length form.passes

  comes : ComesToJump s code running to args rest word t m (bits (temp_in t v))
  comes = comes_to_jump s code x stack running i refl to refl args rest at t m words64 lives point words form.finds
      form.passes form.are has may form.passed (0 + length form.finds) few (bits (temp_in t v)) found

  known : IsKnown t.mem.memory.shapes (functions_of s) (temp_in t v)
  known = point.fits.calls.1.known v live_callee

  -- ---- a trap

  stops : (c : Cause) → cjalr_row comes.to_jump 1 31 (pos 0) ≡ trap comes.to_jump c
      → ((k : Next → State Store → Fate)
      → effect (operations (placed_plan s.map)) w p (kinds_in s running) i t k ≡ over (ending.Trap c source) t)
      → TrapsWithin (cost i) s code w p running i source word t m
  unfolding row
  stops c does means =
      let few = comes.few in
      record {
        cause = c;
        means = means;
        count = comes.count;
        to = comes.to_jump;
        lt = omega (arith, few);
        leads = comes.leads;
        ends = traps_at s code x (awaiting running to rest) word t comes.to_jump comes.point
            (Cjalr 1 31 (pos 0)) comes.jump_here refl c does;
      }

  -- the row's answer, where the value is no function
  answers : (y : Value) → temp_in t v ≡ y → ((f : ℕ) → y ≡ Fun f → FirstLies (addresses_of s.map) f)
      → CallAnswers comes.to_jump 1 (addresses_of s.map) (callee y) (cjalr_row comes.to_jump 1 31 (pos 0))
  answers y e lies = callees_answer (functions_of s) (addresses_of s.map) t.mem.memory comes.to_jump
      comes.point.fits.objects 1 31 y (subst (IsKnown t.mem.memory.shapes (functions_of s)) e known) lies
      (comes.holds ∙ ap bits e)

  -- ---- by the value

  abbrev Result_is : Type 0
  Result_is = CallsThrough s code w p running i to args rest source word t m (IsCalled s w p v of t) callees

  -- what the meaning does of a value
  abbrev means_of : (k : Next → State Store → Fate) → Value → Fate
  means_of k y =
      called (operations (placed_plan s.map)) w source (fits (operations (placed_plan s.map)) w p of) y t
      (λ f u. k (Into f (values t args) to) u)

  by_value : (y : Value) → temp_in t v ≡ y → Result_is
  by_value (Int a) e =
      Stops (stops cause.Tag (answers (Int a) e (λ f q. let z = sym q in absurd cc)) (λ k. ap (means_of k) e))
  by_value (Raw a upper) e =
      Stops (stops cause.Tag (answers (Raw a upper) e (λ f q. let z = sym q in absurd cc)) (λ k. ap (means_of k) e))
  by_value (Live object low high offset permissions) e =
      Stops (stops cause.Execute
      (answers (Live object low high offset permissions) e (λ f q. let z = sym q in absurd cc))
      (λ k. ap (means_of k) e))
  by_value (Fun f) e = by (slice_index_or (fits (operations (placed_plan s.map)) w p of) f false) refl
    where
      by : (b : Bool) → slice_index_or (fits (operations (placed_plan s.map)) w p of) f false ≡ b → Result_is
      by true q =
          Enters f (e, q) (λ k. ap (means_of k) e ∙ ap (λ b. Rattle.cheri_c_sem.specs.Meaning.compatible
          (operations (placed_plan s.map)) w source f b t (λ g u. k (Into g (values t args) to) u)) q)
          (comes.enters f (subst (IsKnown t.mem.memory.shapes (functions_of s)) e known) (ap bits e) (callees f (e, q)))
      by false q =
          Leaves (λ k. ap (means_of k) e ∙ ap (λ b. Rattle.cheri_c_sem.specs.Meaning.compatible
          (operations (placed_plan s.map)) w source f b t (λ g u. k (Into g (values t args) to) u)) q)

pub calls_through_values_run_law : CallsThroughValuesRun
calls_through_values_run_law s code x stack w p running to v of args source rest at t m point words64 callees words
    form has may =
    by_value s code x stack w p running to v of args source rest at t m point words64 callees words form has may
    (temp_in t v) refl
