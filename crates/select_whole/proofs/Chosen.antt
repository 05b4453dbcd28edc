-- Where selection chose words as the laws ask for, each instruction runs.
use Rattle.std.proofs.Common.{pos, refl, ℕ, zero, suc, ◌+◌, ◌/◌, ◌<◌, ◌≤◌, Bool, true, false, List, [], ◌∷◌, length}
use Rattle.std.proofs.Common.{Option, ap, subst, arith, ◌≡◌, ◌∙◌, sym, Some, None}
use Rattle.std.specs.Prelude.{slice_get}
use Rattle.std.proofs.lemmas.List.{length-append}
use Rattle.std.proofs.lemmas.Bool.{and_parts}
use Rattle.ck_base.specs.World.{World}
use Rattle.ck_base.specs.declared.positions.Pos.{Pos}
use Rattle.rv_instr.specs.declared.instr.Instr.{Instr}
use Rattle.rv_instr.specs.declared.instr.Instr.TheVariants.{Branch, Cjal}
use Rattle.cap_machine.specs.declared.machine.Machine.{Machine}
use Rattle.cap_machine.specs.declared.end.End.TheVariants as end
use Rattle.cheri_c_sem.specs.Kinds.{number_of}
use Rattle.cheri_c_sem.specs.Modes.{Store, operations, frame_within}
use Rattle.cheri_c_sem.specs.Meaning.{At, copy_units}
use Rattle.cheri_c_sem.specs.Steps.{State, Fate, ◌>>=◌, give, over}
use Rattle.obj_mem.specs.declared.ending.Ending.TheVariants as ending
use Rattle.tac_ir.specs.Costs.{cost, prologue_cost}
use Rattle.obj_mem.specs.declared.map.Frame.{Frame}
use Rattle.obj_mem.specs.Values.{Value, Int}
use Rattle.purecap_abi.specs.Ends.{before_store}
use Rattle.tac_ir.specs.Meaning.{Caller, Running, entry_temps}
use Rattle.tac_ir.specs.Temps.{behind}
use Rattle.tac_ir.specs.Effects.{Into, Next, On, temp_in}
use Rattle.tac_ir.specs.WellFormed.{call_fits, has_capability, int_result, signature_of, signature_of_def}
use Rattle.tac_ir.specs.WellFormed.{signature_of_function}
use Rattle.tac_ir.specs.declared.code.LibOp.TheVariants as lib
use Rattle.tac_ir.specs.declared.code.TacInstr.{TacInstr}
use Rattle.tac_ir.specs.declared.code.TacInstr.TheVariants as instr
use Rattle.tac_ir.specs.declared.code.TacKind.{TacKind}
use Rattle.place_inject.specs.Entering.{caller_of, entered, entry_of}
use Rattle.place_inject.specs.Frames.{Setting}
use Rattle.place_inject.specs.Homes.{CallersKeep}
use Rattle.place_inject.specs.Leaving.{OthersAreOlder, caller_at}
use Rattle.place_inject.proofs.Older.{others_are_older_at_entries_law}
use Rattle.select_words.specs.Selecting.{Selecting}
use Rattle.select_words.specs.Accesses.{IsAccess, place_of}
use Rattle.select_words.specs.Capabilities.{IsNarrow, NarrowWords, IsOffset, OffsetWords, IsIntrinsic, CapWords}
use Rattle.select_words.specs.Capabilities.{IsPointing}
use Rattle.select_words.specs.Jumps.{inverted}
use Rattle.select_words.specs.Operations.{OperationWords, IsComparison, CompareWords, IsConversion, ConversionWords}
use Rattle.select_words.specs.Services.{putting, taking, leaving}
use Rattle.select_runs.specs.Accesses.{TrapsWithin}
use Rattle.select_runs.specs.Through as through
use Rattle.select_words.specs.Through.{through}
use Rattle.select_words.specs.Words as words
use Rattle.select_words.specs.Words.{IsConst, ConstantWords, IsCopy, IsPassed, NoWords}
use Rattle.select_words.specs.Heap.{allocating}
use Rattle.select_runs.specs.Acts.{place}
use Rattle.select_runs.specs.Calling.{begin_words, values, CallsInto, EntersWithin}
use Rattle.select_runs.specs.Operands.{ground_of, IsAtPoint}
use Rattle.select_runs.specs.Returning.{value_of}
use Rattle.select_runs.specs.Jumps.{Branches}
use Rattle.select_runs.specs.Instructions.{IsOperation}
use Rattle.select_runs.specs.Results.{before, EachGoesOn, GoesOnWithin}
use Rattle.select_runs.specs.Kinds.{AreOfKinds}
use Rattle.select_runs.specs.Through.{IsCalled, IsCallee, CallsThrough, Enters, Stops}
use Rattle.select_runs.proofs.Through.{calls_through_values_run_law}
use Rattle.select_runs.proofs.Simple.{constants_run_law, copies_run_law, labels_run_law}
use Rattle.select_runs.proofs.Integers.{operations_run_law}
use Rattle.select_runs.proofs.Comparisons.{comparisons_run_law}
use Rattle.select_runs.proofs.Conversions.{conversions_run_law}
use Rattle.select_runs.proofs.Intrinsics.{intrinsics_run_law}
use Rattle.select_runs.proofs.Pointing.{offsets_run_law, narrows_run_law}
use Rattle.select_runs.proofs.Pointers.{pointers_run_law}
use Rattle.select_runs.proofs.Zeroing.{zeroes_run_law}
use Rattle.select_runs.proofs.Accesses.{accesses_run_law}
use Rattle.select_runs.proofs.Copying.{struct_copies_run_law}
use Rattle.select_runs.proofs.Jumps.{jumps_run_law, branches_run_law}
use Rattle.select_runs.proofs.Services.{puts_run_law, takes_run_law, exits_run_law}
use Rattle.select_runs.proofs.Calling.{calls_run_law}
use Rattle.select_runs.proofs.FarCalls.{far_calls_run_law}
use Rattle.select_runs.proofs.Returning.{returns_run_law, last_returns_run_law}
use Rattle.select_heap.proofs.Heap.{allocations_run_law}
use Rattle.select_whole.specs.Visited.{Whole, ops_of, tac_at, kinds_at, locals_of, in_frame_of, called_by, back_in}
use Rattle.select_whole.specs.Visited.{Means, gives_by, gives_at}
use Rattle.select_whole.specs.Runs.{Here, here, Each, searched, IsAllocation, IsInteger, IsZero, IsStructCopy, Goes}
use Rattle.select_whole.specs.Runs.{Accessed, Copied, IsCall, Called, Entered, Returned, Left, Takes, IsValueCall}
use Rattle.select_whole.specs.Runs.{ValueCalled, Calls, Traps, Leaves, Jumped, Branched, Put, Taken, Exited}
use Rattle.select_whole.specs.Runs.{InstructionsRun}
use Rattle.select_whole.specs.Chosen.{CalleeStands, ValueCallStands, EachStands, BranchStands, Chosen, ChosenCodeRuns}
use Rattle.select_whole.specs.Chosen.{CallLeads, CallStands, ChosenCodeMatches, Far, Near}
use Rattle.select_whole.proofs.Kinded.{call_kinded, int_given, return_kinded}
use Rattle.select_whole.proofs.Matching.{whole_runs_match_law}
use Rattle.select_whole.proofs.Moves.{has_words}

within_more : (most more : ℕ) (s : Setting) (code : List Instr) (w : World) (p : _) (r : Running) (i : TacInstr)
    (rest : List TacInstr) (ws : List Instr) (at : ℕ) (t : State Store) (m : Machine) → most ≤ more
    → GoesOnWithin most s code w p r i rest ws at t m → GoesOnWithin more s code w p r i rest ws at t m
within_more most more s code w p r i rest ws at t m less d =
    let le = d.does.le in
    record {
      next = d.next;
      means = d.means;
      kinded = d.kinded;
      does = record {
        count = d.does.count;
        to = d.does.to;
        ge = d.does.ge;
        le = omega arith;
        leads = d.does.leads;
        point = d.does.point;
      };
    }

module _ (g : Whole) (w : World) (c : Chosen g w) where
  plain : (Is : TacInstr → Type 0) (Form : Selecting → TacInstr → List Instr → Type 0) → EachGoesOn Is Form
      → EachStands g w Is Form → Each g w Is (Goes g w)
  plain Is Form law stands r i rest t m is h =
      let x = stands r i rest t m is h in
      record {
        words = x.words;
        then_on = x.then_on;
        does = within_more (cost i) (g.dear r.fun i) g.setting g.code w g.program r i rest x.words
            (here g w r (i ∷ rest)) t m x.cheap
            (law g.setting g.code c.text c.stack w g.program r i rest is (c.selectable r false i rest t m h)
            (here g w r (i ∷ rest)) t m h.point h.kinded x.words x.form x.has);
      }

  integers : Each g w IsInteger (Goes g w)
  integers r i rest t m is h =
      plain IsOperation OperationWords operations_run_law c.operations r i rest t m (c.promoted r i rest t m is h) h

  pointers : Each g w IsPointing (Goes g w)
  pointers r i rest t m is h =
      let x = c.pointers r i rest t m is h in
      record {
        words = x.words;
        then_on = x.then_on;
        does = within_more (cost i) (g.dear r.fun i) g.setting g.code w g.program r i rest x.words
            (here g w r (i ∷ rest)) t m x.cheap
            (pointers_run_law g.setting g.code c.text c.stack c.table w g.program c.asked r i rest is
            (c.selectable r false i rest t m h) (here g w r (i ∷ rest)) t m h.point h.kinded x.words x.form x.has);
      }

  zeroes : Each g w IsZero (Goes g w)
  zeroes r (instr.Zero var) rest t m is h =
      let i = instr.Zero var in
      let x = c.zeroes var r rest t m h in
      record {
        words = x.words;
        then_on = x.then_on;
        does = within_more _ (g.dear r.fun i) g.setting g.code w g.program r i rest x.words (here g w r (i ∷ rest)) t m
            x.cheap
            (zeroes_run_law g.setting g.code c.text c.stack w g.program c.asked r var rest
            (c.selectable r false i rest t m h) (here g w r (i ∷ rest)) t m h.point h.kinded x.words x.form x.has);
      }
  zeroes r i rest t m is h = absurd is

  accesses : Each g w IsAccess (Accessed g w)
  accesses r i rest t m is h =
      let x = c.accesses r i rest t m is h in
      record {
        words = x.words;
        then_on = x.then_on;
        source = place_of i;
        word = here g w r (i ∷ rest) + x.skip;
        does = accesses_run_law g.setting g.code c.text c.stack w g.program r i rest is
            (c.selectable r false i rest t m h)
            (here g w r (i ∷ rest)) t m h.point h.kinded x.skip x.words x.form x.has;
        reports = x.reports;
        dear = x.cheap;
      }

  -- a copy of no units doesn't trap
  module _ (from to bytes unit : ℕ) (from_pos to_pos : Pos) (r : Running) (t : State Store) where
    abbrev copy : TacInstr
    copy = instr.CopyUnits from to bytes unit from_pos to_pos

    nothing_copied : bytes / unit ≡ 0 → Means g w r.fun copy t On t
    nothing_copied e k =
        ap (λ n. (copy_units (ops_of g) w n unit 0 (At from_pos (temp_in t from)) (At to_pos (temp_in t to))
        >>= λ _. give On) t k) e

    abbrev turning : Next → State Store → Fate
    turning n u = over ending.Turns u

    some_units : (most word : ℕ) (source : Pos) (m : Machine)
        → TrapsWithin most g.setting g.code w g.program r copy source word t m → 0 < bytes / unit
    some_units most word source m z = by (bytes / unit) refl
      where
        by : (n : ℕ) → bytes / unit ≡ n → 0 < bytes / unit
        by zero e =
            let same : ending.Trap z.cause source ≡ ending.Turns =
            ap (λ (f : Fate). f.ending) (sym (z.means turning) ∙ nothing_copied e turning) in
            cc
        by (suc n) e = omega (arith, e)

  struct_copies : Each g w IsStructCopy (Copied g w)
  struct_copies r (instr.CopyUnits from to bytes unit from_pos to_pos) rest t m is h =
      let i = instr.CopyUnits from to bytes unit from_pos to_pos in
      let x = c.struct_copies from to bytes unit from_pos to_pos r rest t m h in
      record {
        words = x.words;
        then_on = x.then_on;
        from_pos = from_pos;
        to_pos = to_pos;
        word = here g w r (i ∷ rest) + x.skip;
        does = struct_copies_run_law g.setting g.code c.text w g.program r from to bytes unit from_pos to_pos rest
            (c.selectable r false i rest t m h) (here g w r (i ∷ rest)) t m h.point h.kinded x.skip x.words x.form
            x.has;
        reports_reading = λ z. x.reports_reading (some_units from to bytes unit from_pos to_pos r t _ _ _ m z);
        reports_writing = λ z. x.reports_writing (some_units from to bytes unit from_pos to_pos r t _ _ _ m z);
        dear = x.cheap;
      }
  struct_copies r i rest t m is h = absurd is

  jumps : (b : Bool) (l : ℕ) (r : Running) (rest : List TacInstr) (t : State Store) (m : Machine)
      → Here g w r b (instr.Jump l ∷ rest) t m → Jumped g w b l r rest t m
  jumps true l r rest t m h =
      let x = c.jumps true l r rest t m h in
      record {
        has = x.has_it;
        does = (jumps_run_law g.setting g.code c.text w g.program r l rest (here g w r (instr.Jump l ∷ rest))
            (here g w r (behind l (searched g w r.fun true rest))) x.offset x.leads x.has t m).back h.point;
        dear = x.cheap;
      }
  jumps false l r rest t m h =
      let x = c.jumps false l r rest t m h in
      record {
        has = x.has_it;
        does = (jumps_run_law g.setting g.code c.text w g.program r l rest (here g w r (instr.Jump l ∷ rest))
            (here g w r (behind l rest)) x.offset x.leads x.has t m).ahead h.point;
        dear = x.cheap;
      }

  -- a branch has words
  further : (b : Bool) (on : ℕ) (when : Bool) (l : ℕ) (r : Running) (rest : List TacInstr)
      → BranchStands g w b on when l r rest → here g w r (instr.Branch on when l ∷ rest) < here g w r rest
  further b on when l r rest x =
      let next = x.then_on.next in
      let long = ap length x.form.are in
      let sum = length-append x.finds (Branch (inverted when) x.form.a 0 (pos 8) ∷ Cjal 0 x.offset ∷ []) in
      omega (arith, next, long, sum)

  branches : (b : Bool) (on : ℕ) (when : Bool) (l : ℕ) (r : Running) (rest : List TacInstr) (t : State Store)
      (m : Machine) → Here g w r b (instr.Branch on when l ∷ rest) t m → Branched g w b on when l r rest t m
  branches true on when l r rest t m h =
      let i = instr.Branch on when l in
      let x = c.branches true on when l r rest t m h in
      let to = behind l (searched g w r.fun true rest) in
      record {
        has = x.has_it;
        further = further true on when l r rest x;
        does = subst (λ k. Branches g.setting g.code w g.program r i l to rest (here g w r to) k t m) x.then_on.next
            ((branches_run_law g.setting g.code c.text w g.program r on when l rest x.is_temp (here g w r (i ∷ rest))
            (here g w r to) x.offset x.finds x.words x.form x.has x.leads t m h.kinded).back h.point);
        dear = x.cheap;
      }
  branches false on when l r rest t m h =
      let i = instr.Branch on when l in
      let x = c.branches false on when l r rest t m h in
      let to = behind l rest in
      record {
        has = x.has_it;
        further = further false on when l r rest x;
        does = subst (λ k. Branches g.setting g.code w g.program r i l to rest (here g w r to) k t m) x.then_on.next
            ((branches_run_law g.setting g.code c.text w g.program r on when l rest x.is_temp (here g w r (i ∷ rest))
            (here g w r to) x.offset x.finds x.words x.form x.has x.leads t m h.kinded).ahead h.point);
        dear = x.cheap;
      }

  puts : (to : Option ℕ) (a : ℕ) (r : Running) (rest : List TacInstr) (t : State Store) (m : Machine)
      → Here g w r false (putting to a ∷ rest) t m → Put g w to a r rest t m
  puts to a r rest t m h =
      let i = putting to a in
      let x = c.puts to a r rest t m h in
      record {
        words = x.words;
        then_on = x.then_on;
        does = puts_run_law to a g.setting g.code c.text c.stack w g.program r rest (c.selectable r false i rest t m h)
            x.aside (here g w r (i ∷ rest)) t m h.point h.kinded x.words x.form x.has;
        dear = x.cheap;
      }

  takes : (to : Option ℕ) (r : Running) (rest : List TacInstr) (t : State Store) (m : Machine)
      → Here g w r false (taking to ∷ rest) t m → Taken g w to r rest t m
  takes to r rest t m h =
      let i = taking to in
      let x = c.takes to r rest t m h in
      record {
        words = x.words;
        then_on = x.then_on;
        does = takes_run_law to g.setting g.code c.text c.stack w g.program r rest (c.selectable r false i rest t m h)
            x.aside (here g w r (i ∷ rest)) t m h.point h.kinded x.words x.form x.has;
        dear = x.cheap;
      }

  exits : (a : ℕ) (r : Running) (rest : List TacInstr) (t : State Store) (m : Machine)
      → Here g w r false (leaving a ∷ rest) t m → Exited g w a r t m
  exits a r rest t m h =
      let i = leaving a in
      let x = c.exits a r rest t m h in
      record {
        does = exits_run_law a g.setting g.code c.text c.stack w g.program r rest (c.selectable r false i rest t m h)
            x.aside (here g w r (i ∷ rest)) t m h.point h.kinded x.words x.form x.has;
        dear = x.cheap;
      }

  allocations : Each g w IsAllocation (Goes g w)
  allocations r (instr.Lib lib.Malloc to (a ∷ [])) rest t m is h =
      let i = allocating to a in
      let x = c.allocations to a r rest t m h in
      record {
        words = x.words;
        then_on = x.then_on;
        does = within_more (cost i) (g.dear r.fun i) g.setting g.code w g.program r i rest x.words
            (here g w r (i ∷ rest)) t m x.cheap
            (allocations_run_law to a g.setting g.code c.text c.stack c.table w g.program r rest
            (c.selectable r false i rest t m h) x.beside (here g w r (i ∷ rest)) t m h.point h.kinded x.words x.form
            x.has);
      }
  allocations r i rest t m is h = absurd is

  -- ---- calls and returns

  -- the callee's state, in both words
  entry_is : (fun place : ℕ) (lengths : List ℕ) (kinds : List TacKind) (vs : List Value) (t : State Store)
      → lengths ≡ locals_of g fun → kinds ≡ kinds_at g fun
      → entered g.setting fun place lengths (entry_temps kinds vs) t ≡ in_frame_of g w place fun vs t
  unfolding operations
  entry_is fun place lengths kinds vs t e f =
      ap (λ xs. entered g.setting fun place xs (entry_temps kinds vs) t) e
      ∙ ap (λ ks. entered g.setting fun place (locals_of g fun) (entry_temps ks vs) t) f

  enter_is : (fun at : ℕ) (frame : Frame) → slice_get g.setting.map.frames fun ≡ Some frame
      → (ops_of g).enter fun at ≡ frame_within g.setting.map.stack.0 at (Some frame)
  unfolding operations
  enter_is fun at frame e = ap (frame_within g.setting.map.stack.0 at) e

  count_is : (t : State Store) → length t.mem.memory.shapes ≡ (ops_of g).count t.mem
  unfolding operations
  count_is t = refl

  module _ (most : ℕ) (to : Option ℕ) (fun : ℕ) (args : List ℕ) (r : Running) (rest : List TacInstr) (t : State Store)
      (x : CalleeStands g w to fun args r rest t) where
    abbrev entry_end : ℕ
    entry_end = x.begins.entry + length (begin_words g.setting fun x.begins.frame x.begins.words)

    abbrev EntersAs : Machine → Option ℕ → Type 0
    EntersAs m o =
        EntersWithin g.setting g.code most x.begins.entry entry_end x.begins.frame
        (entry_of fun (caller_of r rest to t) r.callers (tac_at g fun))
        (λ place. entered g.setting fun place x.begins.lengths (entry_temps x.begins.kinds (values t args)) t) m o

    entered_by : (m : Machine) (more : ℕ) → most < more → (o : Option ℕ) → EntersAs m o
        → Entered g w more fun (called_by fun r rest to t) o (values t args) t m
    entered_by m more less (Some place) a =
        let le = a.le in
        let same = entry_is fun place x.begins.lengths x.begins.kinds (values t args) t x.lengths x.kinds in
        record {
          count = a.count;
          to = a.to;
          ge = a.ge;
          le = omega arith;
          leads = a.leads;
          point = subst (λ k. IsAtPoint g.setting g.code
              (entry_of fun (caller_of r rest to t) r.callers (tac_at g fun)) k
              (in_frame_of g w place fun (values t args) t) a.to) x.there
              (subst (λ u. IsAtPoint g.setting g.code
              (entry_of fun (caller_of r rest to t) r.callers (tac_at g fun)) entry_end u a.to) same a.point);
        }
    entered_by m more less None a =
        let few = a.few in (
          end.Trap a.cause
              (place (ground_of g.setting g.code) (x.begins.entry + length (before_store x.begins.frame))),
          record { count = a.count; to = a.sinks; lt = omega arith; leads = a.leads; ends = a.ends },
          x.reports a.cause,
        )

    -- a call of it, at an instruction whose arguments are of their kinds
    called_so : (i : TacInstr) (m : Machine) → most < g.dear r.fun i + g.setup fun → Here g w r false (i ∷ rest) t m
        → Means g w r.fun i t (Into fun (values t args) to) t
        → (AreOfKinds (kinds_at g fun) (entry_temps (kinds_at g fun) (values t args))
        × Takes (kinds_at g r.fun) to (gives_at g fun))
        → CallersKeep g.setting (caller_of r rest to t ∷ r.callers)
        → EntersAs m (frame_within g.setting.map.stack.0 t.frame (Some x.begins.frame)) → Called g w r i rest t m
    called_so i m less h means k keeps does = record {
      fun = fun;
      vs = values t args;
      to = to;
      is = x.is;
      means = means;
      kinded = k.0;
      takes = k.1;
      older = subst (λ n. OthersAreOlder g.setting n (caller_of r rest to t ∷ r.callers)) (count_is t)
          (others_are_older_at_entries_law g.setting c.text.legal (before r i rest) t m h.point.fits rest to);
      keeps = keeps;
      does = subst (λ o. Entered g w (g.dear r.fun i + g.setup fun) fun (called_by fun r rest to t) o (values t args) t
          m) (sym (enter_is fun t.frame x.begins.frame x.begins.is_frame.is))
          (entered_by m (g.dear r.fun i + g.setup fun) less
          (frame_within g.setting.map.stack.0 t.frame (Some x.begins.frame)) does);
    }

  calls : Each g w IsCall (Called g w)
  calls r (instr.Call to fun args) rest t m is h =
      let i = instr.Call to fun args in
      let x = stands in
      let own = c.selectable r false i rest t m h in
      let d = called_by_words x.leads in
      let own_cheap = x.cheap in
      let cheap = x.callee.cheap in
      called_so (cost i + prologue_cost (length args)) to fun args r rest t x.callee i m (omega arith) h d.means
      (call_kinded g.program own.d (kinds_at g r.fun) (tac_at g r.fun) t h.kinded (kinds_at g fun)
      (signature_of_function g.program fun) to args own.fits (c.parameters fun)) x.may.keeps d.does
    where
      stands : CallStands g w to fun args r rest t
      stands = c.calls to fun args r rest t m h

      called_by_words : CallLeads g w fun args r (here g w r (instr.Call to fun args ∷ rest))
          stands.callee.begins.entry stands.words
          → CallsInto g.setting g.code w g.program r (instr.Call to fun args) to fun args rest (tac_at g fun)
          (cost (instr.Call to fun args) + prologue_cost (length args)) t m stands.callee.begins
      called_by_words (Near offset form leads) =
          calls_run_law g.setting g.code c.text c.stack w g.program r to fun args rest (tac_at g fun)
          (here g w r (instr.Call to fun args ∷ rest)) t m h.point (has_words w m t.done h.addresses)
          stands.callee.begins offset stands.words form stands.has leads stands.may
      called_by_words (Far form leads) =
          far_calls_run_law g.setting g.code c.text c.stack c.table w g.program r to fun args rest (tac_at g fun)
          (here g w r (instr.Call to fun args ∷ rest)) t m h.point (has_words w m t.done h.addresses)
          stands.callee.begins stands.words form stands.has leads stands.may
  calls r i rest t m is h = absurd is

  module _ (to : Option ℕ) (v of : ℕ) (args : List ℕ) (source : Pos) (r : Running) (rest : List TacInstr)
      (t : State Store) (m : Machine) (h : Here g w r false (through to v of args source ∷ rest) t m) where
    abbrev i : TacInstr
    i = through to v of args source

    abbrev stands : ValueCallStands g w to v of args source r rest t
    stands = c.value_calls to v of args source r rest t m h

    abbrev callees : (f : ℕ) → IsCalled g.setting w g.program v of t f → IsCallee g.setting g.code r to args rest t f
    callees f is = record {
      body = tac_at g f;
      begins = (stands.callees f is).begins;
      leads = stands.leads f is;
    }

    abbrev jump : ℕ
    jump = here g w r (i ∷ rest) + length stands.form.finds + length stands.form.passes

    value_called : CallsThrough g.setting g.code w g.program r i to args rest source jump t m
        (IsCalled g.setting w g.program v of t) callees → ValueCalled g w r i rest t m
    value_called (Enters f is means does) =
        let own = c.selectable r false i rest t m h in
        let alike = c.alike f of is.1 in
        let fit = (and_parts (has_capability g.program own.d (kinds_at g r.fun) (tac_at g r.fun) v)
        (call_fits g.program own.d (kinds_at g r.fun) (tac_at g r.fun) (signature_of g.program of) to args)
        own.fits).1 in
        let own_cheap = stands.cheap in
        let cheap = (stands.callees f is).cheap in
        Calls (called_so (cost i + prologue_cost (length args)) to f args r rest t (stands.callees f is) i m
        (omega arith) h means
        (call_kinded g.program own.d (kinds_at g r.fun) (tac_at g r.fun) t h.kinded (kinds_at g f)
        (signature_of_function g.program f) to args
        (subst (λ o. call_fits g.program own.d (kinds_at g r.fun) (tac_at g r.fun) o to args ≡ true) (sym alike) fit)
        (c.parameters f)) stands.may.keeps does)
    value_called (Stops x) =
        let lt = x.lt in
        let less = stands.cheap in
        Traps x.cause source (end.Trap x.cause (place (ground_of g.setting g.code) jump)) x.means
        (record { count = x.count; to = x.to; lt = omega arith; leads = x.leads; ends = x.ends })
        (stands.reports x.cause)
    value_called (through.Leaves means) = Leaves source means

  value_calls : Each g w IsValueCall (ValueCalled g w)
  value_calls r (instr.CallValue to v of args source) rest t m is h =
      let x = stands to v of args source r rest t m h in
      value_called to v of args source r rest t m h
      (calls_through_values_run_law g.setting g.code c.text c.stack w g.program r to v of args source rest
      (here g w r (through to v of args source ∷ rest)) t m h.point (has_words w m t.done h.addresses)
      (callees to v of args source r rest t m h) x.words x.form x.has x.may)
  value_calls r i rest t m is h = absurd is

  returns : (fun : ℕ) (b : Caller) (bs : List Caller) (v : Option ℕ) (rest : List TacInstr) (t : State Store)
      (m : Machine) → Here g w (record { fun = fun; callers = b ∷ bs }) false (instr.Return v ∷ rest) t m
      → Returned g w fun b bs v t m
  returns fun b bs v rest t m h =
      let x = c.returns fun b bs v rest t m h in
      let own = c.selectable (record { fun = fun; callers = b ∷ bs }) false (instr.Return v) rest t m h in
      let kept = h.callers.0 in
      let k = return_kinded g.program own.d (kinds_at g fun) (tac_at g fun) t h.kinded (kinds_at g b.fun) b.vars
      kept.kinded (signature_of g.program own.d.of) v b.to own.fits
      (subst (λ o. Takes (kinds_at g b.fun) b.to (gives_by (signature_of_def g.program o))) own.is kept.takes) in
      let d = returns_run_law g.setting g.code c.text c.stack w g.program fun v b bs rest
      (g.word fun (instr.Return v ∷ rest)) t m h.point kept.keeps kept.older k.1 x.words x.form x.has x.to x.keep
      x.resumes in
      let a = d.does (locals_of g fun) x.locals in
      let le = a.le in
      let less = x.cheap in
      record {
        value = value_of t v;
        means = d.means;
        kinded = k.0;
        does = record {
          count = a.count;
          to = a.to;
          ge = a.ge;
          le = omega arith;
          leads = a.leads;
          point = subst (λ k. IsAtPoint g.setting g.code (caller_at b bs b.rest) k (back_in g fun b (value_of t v) t)
              a.to) x.there a.point;
        };
      }

  last_by : (fun temp : ℕ) (rest : List TacInstr) (t : State Store) (m : Machine)
      → Here g w (record { fun = fun; callers = [] }) false (instr.Return (Some temp) ∷ rest) t m
      → value_of t (Some temp) ≡ Int (number_of (value_of t (Some temp))) → Left g w fun (Some temp) t m
  last_by fun temp rest t m h integer =
      let x = c.last_returns fun (Some temp) rest t m h in
      let d = last_returns_run_law g.setting g.code c.text c.stack w g.program fun temp rest
      (g.word fun (instr.Return (Some temp) ∷ rest)) t m h.point integer x.words x.form x.has x.to x.stub in
      let few = d.few in
      let less = x.cheap in
      record {
        value = value_of t (Some temp);
        means = d.means;
        does = record { count = d.count; to = d.asks; lt = omega arith; leads = d.leads; ends = d.ends };
      }

  last_returns : (fun : ℕ) (v : Option ℕ) (rest : List TacInstr) (t : State Store) (m : Machine)
      → Here g w (record { fun = fun; callers = [] }) false (instr.Return v ∷ rest) t m → Left g w fun v t m
  last_returns fun v rest t m h =
      let own = c.selectable (record { fun = fun; callers = [] }) false (instr.Return v) rest t m h in
      let gives = subst (λ o. gives_by (signature_of_def g.program o) ≡ Some int_result) own.is
      (ap (gives_at g) h.callers ∙ c.main_gives) in
      let k = int_given g.program own.d (kinds_at g fun) (tac_at g fun) t h.kinded (signature_of g.program own.d.of) v
      own.fits gives in
      subst (λ y. Left g w fun y t m) (sym k.1)
      (last_by fun k.0 rest t m
      (subst (λ y. Here g w (record { fun = fun; callers = [] }) false (instr.Return y ∷ rest) t m) k.1 h) k.2)

  runs : InstructionsRun g w
  runs = record {
    constants = plain IsConst ConstantWords constants_run_law c.constants;
    copies = plain IsCopy words.CopyWords copies_run_law c.copies;
    labels = plain IsPassed NoWords labels_run_law c.labels;
    operations = integers;
    comparisons = plain IsComparison CompareWords comparisons_run_law c.comparisons;
    conversions = plain IsConversion ConversionWords conversions_run_law c.conversions;
    intrinsics = plain IsIntrinsic CapWords intrinsics_run_law c.intrinsics;
    offsets = plain IsOffset OffsetWords offsets_run_law c.offsets;
    narrows = plain IsNarrow NarrowWords narrows_run_law c.narrows;
    pointers = pointers;
    zeroes = zeroes;
    allocations = allocations;
    accesses = accesses;
    struct_copies = struct_copies;
    jumps = jumps;
    branches = branches;
    turns = c.turns;
    puts = puts;
    takes = takes;
    exits = exits;
    strange = c.strange;
    calls = calls;
    value_calls = value_calls;
    returns = returns;
    last_returns = last_returns;
  }

pub chosen_code_runs_law : ChosenCodeRuns
chosen_code_runs_law g w c = runs g w c

pub chosen_code_matches_law : ChosenCodeMatches
chosen_code_matches_law g reports fine w bytes c = whole_runs_match_law g reports fine w bytes (runs g w c)
