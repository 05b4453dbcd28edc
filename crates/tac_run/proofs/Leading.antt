-- What an instruction comes to, and where it leads a run.
use Rattle.std.proofs.Common.{◌≡◌, ℕ, suc, ◌+◌, List, Option, Result, Ok, Err, refl, sym, ap}
use Rattle.std.proofs.Common.{◌∙◌}
use Rattle.std.proofs.Common.{subst}
use Rattle.ck_base.specs.Runs.{Act, Goes, Puts, Reads, Ends}
use Rattle.ck_base.specs.declared.positions.Pos.{Pos}
use Rattle.c_tree.specs.declared.typed.Typed.{Typed}
use Rattle.obj_mem.specs.declared.ending.Ending.{Ending}
use Rattle.obj_mem.specs.declared.ending.UnitFault.{UnitFault}
use Rattle.obj_mem.specs.declared.map.Map.{Map}
use Rattle.obj_mem.specs.Values.{Value}
use Rattle.cheri_c_sem.specs.Meaning.{At, further}
use Rattle.cheri_c_sem.specs.Modes.{Store, operations, placed_plan}
use Rattle.cheri_c_sem.specs.Operations.{Operations}
use Rattle.mean_steps.specs.Parts.{Now, Came, On as Gives, Over, next_of as and_then, unit_answer, give, copy_units}
use Rattle.tac_ir.specs.Effects.{Next, Into}
use Rattle.tac_ir.specs.declared.code.LibOp.TheVariants as lib
use Rattle.tac_ir.specs.declared.code.Tac.{Tac}
use Rattle.tac_ir.specs.declared.code.TacInstr.{TacInstr}
use Rattle.tac_ir.specs.declared.code.TacInstr.TheVariants as instr
use Rattle.tac_steps.specs.Machine.{Moment, effect, kinds_at, leads, led, act_on}
use Rattle.tac_run.specs.Holdings.{Holding, Changes}
use Rattle.tac_run.specs.Ready.{objects_by}
use Rattle.tac_run.specs.Views.{next_of, now_of, moment_of, ops_in, Comes, Finds, Led, IsInside}
use Rattle.tac_run.specs.declared.faults.Stop.{Stop}
use Rattle.tac_run.specs.declared.faults.Stop.TheVariants as stop
use Rattle.tac_run.specs.declared.run.Run.{Run}
use Rattle.tac_run.specs.declared.state.Next as code
use Rattle.tac_run.specs.declared.state.Next.TheVariants as next
use Rattle.tac_run.specs.declared.state.State.{State}
use Rattle.tac_run.proofs.Sounding.{ComesSound}

-- ---- a struct is copied

module _ (ops : Operations Store) (unit at : ℕ) (fp tp : Pos) (from to : Value) where
  copied_by : (j : ℕ) (n : Now Store) (r : Result Store UnitFault) (old new : Holding) →
      ops.copy_unit n.mem (further from at) (further to at) unit ≡ r → Changes r old (Ok (tt {0})) new →
      copy_units ops (suc j) unit at (At fp from) (At tp to) n
      ≡ copy_units ops j unit (at + unit) (At fp from) (At tp to) (record n { mem = new.store })
  copied_by j n (Ok s) old new e h =
      let same : new.store ≡ s = ap (λ (x : Holding). x.store) h in
      ap (λ r. and_then (unit_answer fp tp r n)
      (λ m. λ n'. and_then (let c : Came Store (Unit {0}) = Gives tt (record n' { mem = m }) in c)
      (λ u. copy_units ops j unit (at + unit) (At fp from) (At tp to)))) e
      ∙ ap (λ m. copy_units ops j unit (at + unit) (At fp from) (At tp to) (record n { mem = m })) (sym same)
  copied_by j n (Err f) old new e h = absurd h

  pub one_copied : (left j : ℕ) (n : Now Store) (old new : Holding) → left ≡ suc j →
      Changes (ops.copy_unit n.mem (further from at) (further to at) unit) old (Ok (tt {0})) new →
      copy_units ops left unit at (At fp from) (At tp to) n
      ≡ copy_units ops j unit (at + unit) (At fp from) (At tp to) (record n { mem = new.store })
  one_copied left j n old new is h =
      ap (λ k. copy_units ops k unit at (At fp from) (At tp to) n) is
      ∙ copied_by j n (ops.copy_unit n.mem (further from at) (further to at) unit) old new refl h

pub same_map : {E : Type 0} (r : Result Store E) (old new : Holding) → Changes r old (Ok (tt {0})) new →
    new.map ≡ old.map
same_map (Ok s) old new h = ap (λ (x : Holding). x.map) h
same_map (Err e) old new h = absurd h

-- ---- a function is called through a value

pub found : (c : Came Store ℕ) (n : Now Store) (g : ℕ) (vs : List Value) (to : Option ℕ) (m : Map)
    (r : Result code.Next Stop) (new : State) → Finds c n (Ok g) → Comes next_of (Gives (Into g vs to) n) m r new →
    Comes next_of (and_then c (λ f. give (Into f vs to))) m r new
found (Gives f n') n g vs to m r new e h =
    subst (λ x. Comes next_of (Gives (Into f vs to) x) m r new) (sym e.1)
    (subst (λ x. Comes next_of (Gives (Into x vs to) n) m r new) e.0 h)
found (Over x) n g vs to m r new e h = absurd e

pub found_not : (c : Came Store ℕ) (n : Now Store) (s : Stop) (vs : List Value) (to : Option ℕ) (m : Map)
    (new : State) →
    Finds c n (Err s) → Comes next_of (and_then c (λ f. give (Into f vs to))) m (Err s) new
found_not (Gives f n') n stop.NoMemory vs to m new e = absurd e
found_not (Gives f n') n (stop.Ended x) vs to m new e = absurd e
found_not (Over x) n stop.NoMemory vs to m new e = absurd e
found_not (Over x) n (stop.Ended y) vs to m new e = e

-- ---- where it leads

pub first_kept : (n : Now Store) (c : Came Store Next) (m : Map) (y : code.Next) (new : State) → ComesSound n c →
    Comes next_of c m (Ok y) new → new.first ≡ n.first
first_kept n (Gives x n') m y new sound h = ap (λ (z : Now Store). z.first) h.1 ∙ sound.0.first
first_kept n (Over e) m y new sound h = absurd h

module _ (ops : Operations Store) (t : Tac) (p : Typed) where
  -- all but `putchar` and `getchar`
  pub act_inside : (i : TacInstr) (x : Moment Store) → IsInside i →
      act_on ops t (objects_by p) p i x
      ≡ led ops t (objects_by p) x (effect ops p (kinds_at ops t (objects_by p) x.fun) i x.now)
  act_inside (instr.Lib lib.PutChar to args) x h = absurd h
  act_inside (instr.Lib lib.GetChar to args) x h = absurd h
  act_inside i x h = refl

module _ (U : Type 0) (old : Run) where
  no_memory : (a : Act (Moment Store) Ending) (new : Run) → Led {U = U} a old (Err stop.NoMemory) new
  no_memory (Goes m) new = tt
  no_memory (Puts b m) new = tt
  no_memory (Reads to) new = tt
  no_memory (Ends e) new = tt

  under : (a : Act (Moment Store) Ending) (now : Run) (r : Result U Stop) (new : Run) →
      now.now.memory.map ≡ old.now.memory.map → Led a now r new → Led a old r new
  under (Goes m) now (Ok u) new e h = (h.0, h.1 ∙ e)
  under (Goes m) now (Err (stop.Ended x)) new e h = absurd h
  under (Goes m) now (Err stop.NoMemory) new e h = tt
  under (Puts b m) now (Ok u) new e h = absurd h
  under (Puts b m) now (Err (stop.Ended x)) new e h = absurd h
  under (Puts b m) now (Err stop.NoMemory) new e h = tt
  under (Reads to) now (Ok u) new e h = absurd h
  under (Reads to) now (Err (stop.Ended x)) new e h = absurd h
  under (Reads to) now (Err stop.NoMemory) new e h = tt
  under (Ends x) now (Ok u) new e h = absurd h
  under (Ends x) now (Err (stop.Ended y)) new e h = h
  under (Ends x) now (Err stop.NoMemory) new e h = tt

  module _ (t : Tac) (p : Typed) where
    pub led_not : (c : Came Store Next) (s : Stop) (state : State) (new : Run) →
        Comes next_of c old.now.memory.map (Err s) state →
        Led {U = U} (led (ops_in old) t (objects_by p) (moment_of old) c) old (Err s) new
    led_not (Gives x n) stop.NoMemory state new h = no_memory _ new
    led_not (Gives x n) (stop.Ended e) state new h = absurd h
    led_not (Over e) stop.NoMemory state new h = tt
    led_not (Over e) (stop.Ended e') state new h = h

    -- from what the instruction left
    pub led_on : (c : Came Store Next) (y : code.Next) (now : Run) (r : Result U Stop) (new : Run) →
        Comes next_of c old.now.memory.map (Ok y) now.now →
        moment_of now ≡ record (moment_of old) { now = now_of now.now } →
        Led (leads (ops_in now) t (objects_by p) (next_of y) (moment_of now)) now r new →
        Led (led (ops_in old) t (objects_by p) (moment_of old) c) old r new
    led_on (Gives x n) y now r new came is h =
        let ops : Map → Operations Store = λ m. operations (placed_plan m) in
        subst (λ z. Led (leads (ops_in old) t (objects_by p) z (record (moment_of old) { now = n })) old r new) came.0
        (subst (λ z. Led (leads (ops_in old) t (objects_by p) (next_of y) (record (moment_of old) { now = z })) old r
        new)
        came.1
        (subst (λ m. Led (leads (ops m) t (objects_by p) (next_of y) (record (moment_of old) { now = now_of now.now }))
        old r new) came.2
        (under _ now r new came.2
        (subst (λ z. Led (leads (ops_in now) t (objects_by p) (next_of y) z) now r new) is h))))
    led_on (Over e) y now r new came is h = absurd came
