-- A step of a run: which instruction it does, and what that asks of a sound moment.
use Rattle.std.proofs.Common.{◌≡◌, ℕ, ◌+◌, ◌^◌, ◌<◌, true, false, ltb, List, length, get_or, Option, Some, None}
use Rattle.std.proofs.Common.{sym, ap, ◌∙◌, arith}
use Rattle.std.specs.Prelude.{slice_get}
use Rattle.std.proofs.lemmas.Bool.{ltb-true, ltb-false}
use Rattle.std.proofs.lemmas.Option.{slice_get-get_or, slice_get_past}
use Rattle.ck_base.specs.Runs.{Ends}
use Rattle.c_tree.specs.declared.typed.Typed.{Typed}
use Rattle.obj_mem.specs.declared.ending.Ending.TheVariants as ending
use Rattle.obj_mem.specs.declared.map.Map.{Map}
use Rattle.obj_mem.specs.Objects.{Shape}
use Rattle.obj_mem.specs.Values.{Value, Int, Live, Fun, Raw}
use Rattle.cheri_c_sem.specs.Modes.{Store, operations, placed_plan}
use Rattle.cheri_c_sem.specs.Operations.{Operations}
use Rattle.object_memory.specs.Answers.{HasBase}
use Rattle.tac_ir.specs.declared.code.Tac.{Tac}
use Rattle.tac_ir.specs.declared.code.TacInstr.{TacInstr}
use Rattle.tac_ir.specs.declared.code.TacInstr.TheVariants as instr
use Rattle.tac_steps.specs.Machine.{Moment, effect, code_at, kinds_at, act_on, act_at, act}
use Rattle.tac_run.specs.Bases.{IsBased, KeepBases}
use Rattle.tac_run.specs.Moments.{IsSound, Names}
use Rattle.tac_run.specs.Ready.{IsRoomy, objects_by}
use Rattle.tac_run.specs.Views.{Asks}
use Rattle.tac_run.specs.declared.faults.Stop.TheVariants as stop
use Rattle.tac_run.proofs.Keeps.{maps_keep_bases_law}
use Rattle.tac_run.proofs.Sounding.{ComesSound, effect_sound}
use Rattle.tac_run.proofs.Temps.{held_based}

-- ---- lists

pub there : {A : Type 0} (xs : List A) (k : ℕ) (x : A) → true ≡ ltb k (length xs) → x ≡ get_or xs k x →
    slice_get xs k ≡ Some x
there xs k x lt e = slice_get-get_or xs k x (ltb-true k (length xs) (sym lt)) ∙ ap Some (sym e)

pub past : {A : Type 0} (xs : List A) (k : ℕ) → false ≡ ltb k (length xs) → slice_get xs k ≡ None
past xs k lt = slice_get_past xs k (ltb-false k (length xs) (sym lt))

-- ---- the instruction

module _ (ops : Operations Store) (t : Tac) (p : Typed) (x : Moment Store) where
  act_is : (o : Option TacInstr) → slice_get (code_at ops t (objects_by p) x.fun) x.at ≡ o →
      act ops t (objects_by p) p x ≡ act_at ops t (objects_by p) p o x
  unfolding act
  act_is o e = ap (λ o. act_at ops t (objects_by p) p o x) e

  pub act_past : slice_get (code_at ops t (objects_by p) x.fun) x.at ≡ None →
      act ops t (objects_by p) p x ≡ Ends ending.Turns
  act_past e = act_is None e

  pub act_there : (i : TacInstr) → slice_get (code_at ops t (objects_by p) x.fun) x.at ≡ Some i →
      act ops t (objects_by p) p x ≡ act_on ops t (objects_by p) p i x
  act_there i e = act_is (Some i) e

-- ---- what it asks

has_base : (shapes : List Shape) (v : Value) → IsBased shapes v → HasBase shapes v
has_base shapes (Int n) h = tt
has_base shapes (Live object low high offset permissions) h = h.1
has_base shapes (Fun f) h = tt
has_base shapes (Raw address upper) h = tt

module _ (p : Typed) (m : Map) (roomy : IsRoomy p m) (x : Moment Store) (sound : IsSound p x) where
  keep : KeepBases m (operations (placed_plan m))
  keep = let small = roomy.heap in maps_keep_bases_law m (omega arith)

  -- what an instruction comes to is as sound
  pub comes_sound : (t : Tac) (i : TacInstr) → Names p (length (objects_by p x.fun)) i →
      ComesSound x.now (effect (operations (placed_plan m)) p
      (kinds_at (operations (placed_plan m)) t (objects_by p) x.fun) i x.now)
  comes_sound t i h =
      effect_sound m (operations (placed_plan m)) keep p (length (objects_by p x.fun)) x.now sound.memory
      sound.now.temps sound.now.room sound.program
      (kinds_at (operations (placed_plan m)) t (objects_by p) x.fun) i h

  module _ (few : (operations (placed_plan m)).count x.now.mem < 2 ^ 64) where
    pub room : x.now.first + length (objects_by p x.fun) < 2 ^ 64
    room = let own = sound.now.room in omega (arith, keep.count x.now.mem)

    local : (var : ℕ) → var < length (objects_by p x.fun) → x.now.first + var < 2 ^ 64
    local var h = let here = room in omega arith

    pub asks : (i : TacInstr) → Names p (length (objects_by p x.fun)) i → Asks p m i x.now
    asks (instr.Cap op to a b) h = has_base x.now.mem.memory.shapes _
        (held_based x.now.mem.memory.shapes x.now.vars a sound.now.temps)
    asks (instr.Local to var) h = local var h
    asks (instr.Zero var) h = local var h
    asks (instr.CopyUnits from to bytes unit from_pos to_pos) h = h
    asks (instr.Lib op to args) h = roomy.heap
    asks i h = tt
