-- Words that were selected for a function's instructions stand at the places to which runs come.
use Rattle.std.proofs.Common.{◌≡◌, ℕ, ◌+◌, ◌/◌, ◌<◌, ◌≤◌, Bool, true, false, List, [], ◌∷◌, ◌++◌, length}
use Rattle.std.proofs.Common.{Option, Some, None, refl, sym, ap, ◌∙◌, subst, arith, inl, inr}
use Rattle.std.proofs.lemmas.Option.{get_or_from_slice_get, slice_get_within}
use Rattle.std.proofs.Common.{zero, suc, ℤ, pos, if◌then◌else◌}
use Rattle.std.specs.Prelude.{◌||◌, not, nat_lt, slice_get}
use Rattle.std.proofs.lemmas.Bool.{and_parts, ltb-true}
use Rattle.std.proofs.lemmas.List.{append_assoc, length-append, length-map}
use Rattle.std.proofs.lemmas.List.Elements.{Contains-append_right}
use Rattle.std.specs.List.{Contains}
use Rattle.ck_base.specs.World.{World}
use Rattle.ck_base.specs.declared.positions.Pos.{Pos}
use Rattle.cap_machine.specs.declared.machine.Machine.{Machine}
use Rattle.rv_instr.specs.declared.instr.Instr.{Instr}
use Rattle.rv_instr.specs.declared.instr.Instr.TheVariants.{Branch, Cjal, Cjalr}
use Rattle.obj_mem.specs.Legal.{ObjectNeed}
use Rattle.cheri_c_sem.specs.Modes.{Store}
use Rattle.cheri_c_sem.specs.Steps.{State}
use Rattle.reg_alloc.specs.declared.places.Home.TheVariants.{Register}
use Rattle.reg_alloc.specs.Placed.{IsKept}
use Rattle.tac_ir.specs.Meaning.{Caller, Running, code_of, is_label, kinds_of, name_of}
use Rattle.tac_ir.specs.Temps.{Awaits, IsIn, in_option, reads, writes}
use Rattle.tac_ir.specs.Temps.{behind as behind_label}
use Rattle.tac_ir.specs.WellFormed.{all_have, has, instruction_fits, int_result, word}
use Rattle.tac_ir.specs.WellFormed.{has_capability, signature_of, signature_of_function}
use Rattle.tac_ir.specs.WellFormed.{has_label, is_turn, labels_differ, turn_fits, turns_fit}
use Rattle.tac_ir.specs.declared.code.LibOp.TheVariants as lib
use Rattle.tac_ir.specs.declared.code.TacFun.{TacFun}
use Rattle.tac_ir.specs.declared.code.TacInstr.{TacInstr}
use Rattle.tac_ir.specs.declared.code.TacInstr.TheVariants as instr
use Rattle.tac_ir.specs.declared.code.TacKind.{TacKind}
use Rattle.c_tree.specs.declared.typed.FunDef.{FunDef}
use Rattle.place_inject.specs.Entering.{caller_of, entry_of}
use Rattle.place_inject.specs.Frames.{IsLive, homes_of, locals_by}
use Rattle.place_inject.specs.Homes.{CallersKeep}
use Rattle.place_inject.specs.Registers.{CallersUseOnly}
use Rattle.select_words.specs.Accesses.{IsAccess}
use Rattle.select_words.specs.Capabilities.{IsNarrow, NarrowWords, IsOffset, OffsetWords, IsIntrinsic, CapWords}
use Rattle.select_words.specs.Capabilities.{IsPointing, PointingWords}
use Rattle.select_words.specs.Heap.{allocating}
use Rattle.select_words.specs.Jumps.{inverted}
use Rattle.select_words.specs.Standing.{HasAt}
use Rattle.select_runs.specs.Jumps.{LeadsTo}
use Rattle.cheri_c_sem.specs.Compatible.{same_bool}
use Rattle.select_words.specs.Operations.{OperationWords, IsComparison, CompareWords, IsConversion, ConversionWords}
use Rattle.select_words.specs.Selecting.{Selecting}
use Rattle.select_words.specs.Services.{IsAside, KeepSome, putting, taking, leaving}
use Rattle.select_words.specs.Words as words
use Rattle.select_words.specs.Words.{IsConst, ConstantWords, IsCopy, IsPassed, NoWords}
use Rattle.select_runs.specs.Instructions.{IsOperation}
use Rattle.select_runs.specs.Results.{IsConstant, IsSelectable, MayTake, behind}
use Rattle.select_runs.proofs.Acts.{has_back, has_front}
use Rattle.select_runs.specs.Calling.{Begins, MayCall}
use Rattle.select_runs.specs.Through.{IsCalled}
use Rattle.select_words.specs.Entries.{ParameterWords, stack_place}
use Rattle.select_words.specs.Through.{through}
use Rattle.purecap_abi.specs.Saving.{registers_at}
use Rattle.tac_ir.specs.Costs.{prologue_cost}
use Rattle.obj_mem.specs.declared.ending.Ending.TheVariants as ending
use Rattle.select_runs.specs.Selecting.{selecting}
use Rattle.select_heap.specs.Heap.{IsBeside}
use Rattle.lower_runs.proofs.Fitting.{sound_calls_fit}
use Rattle.select_whole.specs.Chosen.{Stand, EachStands, ZeroStands, AccessStands, CopyStands, ServiceStands}
use Rattle.select_whole.specs.Chosen.{BranchStands, CalleeStands, CallStands, JumpStands, ReturnStands, ValueCallStands}
use Rattle.select_whole.specs.Chosen.{CallLeads, Chosen, Far, LastStands, MallocStands, Near, copying}
use Rattle.select_whole.specs.Runs.{CallersKept, Each, Here, IsInteger, IsStrange, here}
use Rattle.select_whole.specs.Runs.{searched}
use Rattle.select_whole.specs.Visited.{Whole, kinds_at, locals_of, tac_at}
use Rattle.image_runs.specs.Asked.{Enters, Has, IsAt, IsCode, IsLoaded, IsSelected, Says, called_to}
use Rattle.rv_emit.specs.Leading.{IsHop}
use Rattle.rv_select.specs.Selected.{AreAside, Stands, Ways, WordsOf, noted_copy, ways}
use Rattle.tac_live.specs.Calls.{arguments, is_call}
use Rattle.temp_homes.specs.Keeping.{Reaches}
use Rattle.image_runs.proofs.Formed.{code_there, formed_at, instruction_at, parts_of, taken, turned_at}
use Rattle.image_runs.proofs.Labels.{hops, is_ahead, skips}
use Rattle.image_runs.proofs.Placed.{Ends, InCode, in_code, past, past_turn}

-- ---- registers that functions keep

kept_aside : (q : ℕ) → IsKept q → IsAside q
kept_aside q (inl e) = inl (omega (arith, e))
kept_aside q (inr (inl e)) = inl (omega (arith, e))
kept_aside q (inr (inr e)) = let lo = e.0 in inr (omega arith)

kept_beside : (q : ℕ) → IsKept q → IsBeside q
kept_beside q (inl e) = (kept_aside q (inl e), λ z. omega (arith, z, e), omega (arith, e))
kept_beside q (inr (inl e)) = (kept_aside q (inr (inl e)), λ z. omega (arith, z, e), omega (arith, e))
kept_beside q (inr (inr e)) =
    let lo = e.0 in let hi = e.1 in (kept_aside q (inr (inr e)), λ z. omega (arith, z), omega arith)

-- ---- calls

same_some : (x y : Option ℕ) → Some x ≡ Some y → x ≡ y
same_some x y e = cc

-- the words of a call, and those that keep what it gives
record CalledWith (s : Selecting) (to : Option ℕ) (all : List Instr) : Type 0 where
  call : List Instr
  keep : List Instr
  kept : KeepSome s to keep
  are : all ≡ call ++ keep

call_words : (y : Ways) (s : Selecting) (i : TacInstr) (to : Option ℕ) → called_to i ≡ Some to → (all : List Instr)
    → WordsOf y s i all → CalledWith s to all
call_words y s (instr.Call to' fun args) to e all (inl h) =
    record {
      call = h.passes ++ Cjal 1 h.offset ∷ [];
      keep = h.keep;
      kept = subst (λ z. KeepSome s z h.keep) (same_some to' to e) h.kept;
      are = h.are;
    }
call_words y s (instr.Call to' fun args) to e all (inr h) =
    record {
      call = h.1.finds ++ (h.1.passes ++ Cjalr 1 31 (pos 0) ∷ []);
      keep = h.1.keep;
      kept = subst (λ z. KeepSome s z h.1.keep) (same_some to' to e) h.1.kept;
      are = h.1.are;
    }
call_words y s (instr.CallValue to' v of args source) to e all h =
    record {
      call = h.finds ++ (h.passes ++ Cjalr 1 31 (pos 0) ∷ []);
      keep = h.keep;
      kept = subst (λ z. KeepSome s z h.keep) (same_some to' to e) h.kept;
      are = h.are;
    }
call_words y s i to e all h = cc

in_result : (to : Option ℕ) (temp : ℕ) → to ≡ Some temp → IsIn temp (in_option to)
in_result to temp e = subst (λ z. IsIn temp (in_option z)) (sym e) (0, refl)

call_writes : (i : TacInstr) (to : Option ℕ) (temp : ℕ) → called_to i ≡ Some to → to ≡ Some temp → IsIn temp (writes i)
call_writes (instr.Call to' fun args) to temp e q = in_result to' temp (same_some to' to e ∙ q)
call_writes (instr.CallValue to' v of args source) to temp e q = in_result to' temp (same_some to' to e ∙ q)
call_writes i to temp e q = cc

no_constant : (i : TacInstr) (to : Option ℕ) (n : ℕ) → called_to i ≡ Some to → IsConstant i n → ⊥
no_constant (instr.Call to' fun args) to n e k = absurd k
no_constant (instr.CallValue to' v of args source) to n e k = absurd k
no_constant i to n e k = cc

not_result : (to : Option ℕ) (temp : ℕ) → (to ≡ Some temp → ⊥) → IsIn temp (in_option to) → ⊥
not_result None temp other (j, e) = cc
not_result (Some n) temp other (zero, e) = other e
not_result (Some n) temp other (suc j, e) = cc

a_call : (i : TacInstr) (to : Option ℕ) → called_to i ≡ Some to → is_call i ≡ true
a_call (instr.Call to' fun args) to e = refl
a_call (instr.CallValue to' v of args source) to e = refl
a_call i to e = cc

module _ (g : Whole) (a : IsSelected g) (c : IsCode g) (l : IsLoaded g) (w : World) where
  -- ---- an instruction to which a run comes is one of a function

  record Stood (fun : ℕ) (i : TacInstr) (rest : List TacInstr) : Type 0 where
    f : TacFun
    is : Has g fun f
    at : IsAt f i rest
    reached : Reaches f.code (i ∷ rest)

  stood_by : (fun : ℕ) (i : TacInstr) (rest : List TacInstr) (o : Option TacFun)
      → slice_get g.setting.code.funs fun ≡ o → Ends (code_of o) (i ∷ rest) → Reaches (code_of o) (i ∷ rest)
      → Stood fun i rest
  stood_by fun i rest None e k reached =
      let q : 0 ≡ length (k.before ++ i ∷ rest) = ap length k.is in
      let s = length-append k.before (i ∷ rest) in
      absurd (omega (arith, q, s))
  stood_by fun i rest (Some f) e k reached =
      record { f = f; is = e; at = record { before = k.before; is = k.is }; reached = reached }

  contained : (fun : ℕ) (i : TacInstr) (rest : List TacInstr) (x : Stood fun i rest) → Contains x.f.code i
  contained fun i rest x =
      subst (λ z. Contains z i) (sym x.at.is)
      (Contains-append_right x.at.before (i ∷ rest) i (0, omega arith, refl))

  turned_in : (fun : ℕ) → turns_fit false (tac_at g fun) ≡ true
  turned_in fun = turned_at g.program g.setting.code fun c.formed (slice_get g.setting.code.funs fun) refl

  came : (r : Running) (b : Bool) (is : List TacInstr) (t : State Store) (m : Machine) → Here g w r b is t m
      → InCode g w turned_in r b is
  came r b is t m h = in_code g w turned_in r b is t h.visited

  stood : (r : Running) (b : Bool) (i : TacInstr) (rest : List TacInstr) (t : State Store) (m : Machine)
      → Here g w r b (i ∷ rest) t m → Stood r.fun i rest
  stood r b i rest t m h =
      let k = came r b (i ∷ rest) t m h in
      stood_by r.fun i rest (slice_get g.setting.code.funs r.fun) refl k.own
      (past_turn (tac_at g r.fun) b (i ∷ rest) k.reached)

  -- its words
  words_at : (fun : ℕ) (i : TacInstr) (rest : List TacInstr) (x : Stood fun i rest)
      → Stands g.code (Says g) (Enters g) (selecting g.setting fun) x.f (g.word fun) i rest
  words_at fun i rest x = (a.functions fun x.f x.is).stands.each x.at.before i rest x.at.is

  stand : (Form : Selecting → TacInstr → List Instr → Type 0) (r : Running) (i : TacInstr) (rest : List TacInstr)
      (x : Stood r.fun i rest) → Form (selecting g.setting r.fun) i (words_at r.fun i rest x).words
      → Stand g w Form r i rest
  stand Form r i rest x form =
      let y = words_at r.fun i rest x in
      record {
        words = y.words;
        form = form;
        has = y.has;
        then_on = record { next = y.next };
        cheap = a.dear.each r.fun i;
      }

  constants : EachStands g w IsConst ConstantWords
  constants r (instr.Const to k v) rest t m is h =
      let i = instr.Const to k v in
      let x = stood r false i rest t m h in stand ConstantWords r i rest x (words_at r.fun i rest x).are.1
  constants r i rest t m is h = absurd is

  copies : EachStands g w IsCopy words.CopyWords
  copies r (instr.Copy to from) rest t m is h =
      let i = instr.Copy to from in
      let x = stood r false i rest t m h in stand words.CopyWords r i rest x (words_at r.fun i rest x).are.1
  copies r i rest t m is h = absurd is

  labels : EachStands g w IsPassed NoWords
  labels r (instr.Label k) rest t m is h =
      let i = instr.Label k in
      let x = stood r false i rest t m h in stand NoWords r i rest x (words_at r.fun i rest x).are.1
  labels r i rest t m is h = absurd is

  operations : EachStands g w IsOperation OperationWords
  operations r (instr.Int o k to p q) rest t m is h =
      let i = instr.Int o k to p q in
      let x = stood r false i rest t m h in stand OperationWords r i rest x (words_at r.fun i rest x).are.1
  operations r i rest t m is h = absurd is

  comparisons : EachStands g w IsComparison CompareWords
  comparisons r (instr.Cmp o k to p q) rest t m is h =
      let i = instr.Cmp o k to p q in
      let x = stood r false i rest t m h in stand CompareWords r i rest x (words_at r.fun i rest x).are.1
  comparisons r i rest t m is h = absurd is

  conversions : EachStands g w IsConversion ConversionWords
  conversions r (instr.Convert to from old new) rest t m is h =
      let i = instr.Convert to from old new in
      let x = stood r false i rest t m h in stand ConversionWords r i rest x (words_at r.fun i rest x).are.1
  conversions r i rest t m is h = absurd is

  intrinsics : EachStands g w IsIntrinsic CapWords
  intrinsics r (instr.Cap o to p q) rest t m is h =
      let i = instr.Cap o to p q in
      let x = stood r false i rest t m h in stand CapWords r i rest x (words_at r.fun i rest x).are.1
  intrinsics r i rest t m is h = absurd is

  offsets : EachStands g w IsOffset OffsetWords
  offsets r (instr.Offset to base by) rest t m is h =
      let i = instr.Offset to base by in
      let x = stood r false i rest t m h in stand OffsetWords r i rest x (words_at r.fun i rest x).are.1
  offsets r i rest t m is h = absurd is

  narrows : EachStands g w IsNarrow NarrowWords
  narrows r (instr.Narrow to base long exact) rest t m is h =
      let i = instr.Narrow to base long exact in
      let x = stood r false i rest t m h in stand NarrowWords r i rest x (words_at r.fun i rest x).are.1
  narrows r i rest t m is h = absurd is

  pointers : EachStands g w IsPointing PointingWords
  pointers r (instr.Local to var) rest t m is h =
      let i = instr.Local to var in
      let x = stood r false i rest t m h in stand PointingWords r i rest x (words_at r.fun i rest x).are.1
  pointers r (instr.Global to number literal) rest t m is h =
      let i = instr.Global to number literal in
      let x = stood r false i rest t m h in stand PointingWords r i rest x (words_at r.fun i rest x).are.1
  pointers r (instr.Function to fun) rest t m is h =
      let i = instr.Function to fun in
      let x = stood r false i rest t m h in stand PointingWords r i rest x (words_at r.fun i rest x).are.1
  pointers r i rest t m is h = absurd is

  promoted : Each g w IsInteger (λ r i rest t m. IsOperation i)
  promoted r i rest t m is h =
      let x = stood r false i rest t m h in c.promoted r.fun x.f x.is i rest x.at is

  zeroes : (var : ℕ) (r : Running) (rest : List TacInstr) (t : State Store) (m : Machine)
      → Here g w r false (instr.Zero var ∷ rest) t m → ZeroStands g w var r rest
  zeroes var r rest t m h =
      let i = instr.Zero var in
      let x = stood r false i rest t m h in
      let y = words_at r.fun i rest x in
      record {
        words = y.words;
        form = y.are.1;
        has = y.has;
        then_on = record { next = y.next };
        cheap = a.dear.zeroes r.fun var y.words y.are.1;
      }

  accesses : Each g w IsAccess (λ r i rest t m. AccessStands g w r i rest)
  accesses r (instr.Load to from k source) rest t m is h =
      let i = instr.Load to from k source in
      let x = stood r false i rest t m h in
      let y = words_at r.fun i rest x in
      record {
        skip = y.are.0;
        words = y.words;
        form = y.are.1;
        has = y.has;
        then_on = record { next = y.next };
        cheap = a.dear.each r.fun i;
        reports = y.are.2;
      }
  accesses r (instr.Store to v k source) rest t m is h =
      let i = instr.Store to v k source in
      let x = stood r false i rest t m h in
      let y = words_at r.fun i rest x in
      record {
        skip = y.are.0;
        words = y.words;
        form = y.are.1;
        has = y.has;
        then_on = record { next = y.next };
        cheap = a.dear.each r.fun i;
        reports = y.are.2;
      }
  accesses r i rest t m is h = absurd is

  noted : (r : Running) (i : TacInstr) (rest : List TacInstr) (x : Stood r.fun i rest) (skip : ℕ) (from to : Pos)
      (n : ℕ) → 0 < n → noted_copy (ways g.code (Says g) (Enters g) (selecting g.setting r.fun) x.f (g.word r.fun)
      (g.word r.fun (i ∷ rest))) n skip from to
      → Says g (g.word r.fun (i ∷ rest) + skip) from × Says g (g.word r.fun (i ∷ rest) + skip + 1) to
  noted r i rest x skip from to zero lt h = absurd (omega (arith, lt))
  noted r i rest x skip from to (suc n) lt h = h

  struct_copies : (from to bytes unit : ℕ) (from_pos to_pos : Pos) (r : Running) (rest : List TacInstr)
      (t : State Store) (m : Machine) → Here g w r false (copying g w from to bytes unit from_pos to_pos ∷ rest) t m
      → CopyStands g w from to bytes unit from_pos to_pos r (copying g w from to bytes unit from_pos to_pos) rest
  struct_copies from to bytes unit from_pos to_pos r rest t m h =
      let i = instr.CopyUnits from to bytes unit from_pos to_pos in
      let x = stood r false i rest t m h in
      let y = words_at r.fun i rest x in
      record {
        skip = y.are.0;
        words = y.words;
        form = y.are.1;
        has = y.has;
        then_on = record { next = y.next };
        cheap = a.dear.copies r.fun i;
        reports_reading = λ some. (noted r i rest x y.are.0 from_pos to_pos (bytes / unit) some y.are.2).0;
        reports_writing = λ some. (noted r i rest x y.are.0 from_pos to_pos (bytes / unit) some y.are.2).1;
      }

  turns : (r : Running) (rest : List TacInstr) (t : State Store) (m : Machine)
      → Here g w r false (instr.Turn ∷ rest) t m → here g w r (instr.Turn ∷ rest) ≡ here g w r rest
  turns r rest t m h =
      let i = instr.Turn in
      let x = stood r false i rest t m h in
      let y = words_at r.fun i rest x in
      let none : length y.words ≡ 0 = ap length y.are.1 in
      let next = y.next in
      omega (arith, none, next)

  -- ---- homes

  keeps_of : (fun least : ℕ) (cs : List Caller) → CallersKept g w fun least cs → CallersKeep g.setting cs
  keeps_of fun least [] h = tt
  keeps_of fun least (k ∷ cs) h = h.0.keeps

  callers_use : (Used : ℕ → Type 0) → ((q : ℕ) → IsKept q → Used q) → (cs : List Caller)
      → CallersKeep g.setting cs → CallersUseOnly g.setting Used cs
  callers_use Used allow [] h = tt
  callers_use Used allow (k ∷ cs) h = (λ t r live e. allow r (h.0 t r live e), callers_use Used allow cs h.1)

  may_take : (fun : ℕ) (cs : List Caller) → CallersKeep g.setting cs → (i : TacInstr) (rest : List TacInstr)
      (x : Stood fun i rest) (temp : ℕ) → IsIn temp (writes i) → g.setting.numbers fun temp ≡ None
      → MayTake g.setting (behind (record { fun = fun; callers = cs }) rest) temp
  may_take fun cs keeps i rest x temp among none =
      let homes = a.homes fun x.f x.is in
      let live : (other : ℕ) → Awaits reads writes (tac_at g fun) rest other → Awaits reads writes x.f.code rest other =
      λ other. subst (λ z. Awaits reads writes (code_of z) rest other) x.is in
      record {
        stands = none;
        register = λ r home. record {
          home = home;
          stands = none;
          usable = homes.usable temp r home;
          alone = λ other now no same.
              homes.free i rest x.reached temp other among (live other now) no (same ∙ sym home);
          callers = keeps;
        };
        slot = λ k home. record {
          home = home;
          stands = none;
          alone = λ other now no same.
              homes.free i rest x.reached temp other among (live other now) no (same ∙ sym home);
        };
      }

  -- a temp that is a number is written by its constants
  its_constant : (i : TacInstr) (temp n : ℕ) → (k : TacKind) × (i ≡ instr.Const temp k n) → IsConstant i n
  its_constant i temp n (k, e) = subst (λ z. IsConstant z n) (sym e) refl

  numbered : (fun : ℕ) (i : TacInstr) (rest : List TacInstr) (x : Stood fun i rest) (temp n : ℕ)
      → IsIn temp (writes i) → g.setting.numbers fun temp ≡ Some n → IsConstant i n
  numbered fun i rest x temp n among e =
      its_constant i temp n ((a.numbers fun x.f x.is).constants i (contained fun i rest x) temp n among e)

  selectable : (r : Running) (b : Bool) (i : TacInstr) (rest : List TacInstr) (t : State Store) (m : Machine)
      → Here g w r b (i ∷ rest) t m → IsSelectable g.setting g.program r i rest
  selectable r b i rest t m h =
      let x = stood r b i rest t m h in
      let d = formed_at g.program g.setting.code r.fun x.f c.formed x.is in
      record {
        d = d.function;
        is = d.there;
        fits = subst (λ z. instruction_fits g.program d.function (kinds_of z) (code_of z) i ≡ true) (sym x.is)
            (instruction_at g.program d.function x.f i rest d.fits x.at);
        numbers = numbered r.fun i rest x;
        free = λ temp among none. may_take r.fun r.callers (keeps_of r.fun t.first r.callers h.callers) i rest x temp
            among none;
      }

  -- temps that are read behind a call stand in registers that functions keep
  behind_calls : (r : Running) (i : TacInstr) (rest : List TacInstr) (x : Stood r.fun i rest) → is_call i ≡ true
      → (k q : ℕ) → (IsIn k (writes i) → ⊥) → Awaits reads writes (tac_at g r.fun) rest k
      → slice_get (homes_of g.setting r.fun) k ≡ Some (Register q) → IsKept q
  behind_calls r i rest x call k q out live home =
      (a.homes r.fun x.f x.is).kept i rest x.reached call k q out
      (subst (λ z. Awaits reads writes (code_of z) rest k) x.is live) home

  -- ---- the outside

  puts : (to : Option ℕ) (v : ℕ) (r : Running) (rest : List TacInstr) (t : State Store) (m : Machine)
      → Here g w r false (putting to v ∷ rest) t m → ServiceStands g w (v ∷ []) 1 to r (putting to v) rest
  puts to v r rest t m h =
      let i = putting to v in
      let x = stood r false i rest t m h in
      let y = words_at r.fun i rest x in
      record {
        words = y.words;
        form = y.are.1;
        aside = record {
          own = λ k q live home. kept_aside q (behind_calls r i rest x refl k q live.0 live.1 home);
          callers = callers_use IsAside kept_aside r.callers (keeps_of r.fun t.first r.callers h.callers);
        };
        has = y.has;
        then_on = record { next = y.next };
        cheap = a.dear.each r.fun i;
      }

  takes : (to : Option ℕ) (r : Running) (rest : List TacInstr) (t : State Store) (m : Machine)
      → Here g w r false (taking to ∷ rest) t m → ServiceStands g w [] 2 to r (taking to) rest
  takes to r rest t m h =
      let i = taking to in
      let x = stood r false i rest t m h in
      let y = words_at r.fun i rest x in
      record {
        words = y.words;
        form = y.are.1;
        aside = record {
          own = λ k q live home. kept_aside q (behind_calls r i rest x refl k q live.0 live.1 home);
          callers = callers_use IsAside kept_aside r.callers (keeps_of r.fun t.first r.callers h.callers);
        };
        has = y.has;
        then_on = record { next = y.next };
        cheap = a.dear.each r.fun i;
      }

  exits : (v : ℕ) (r : Running) (rest : List TacInstr) (t : State Store) (m : Machine)
      → Here g w r false (leaving v ∷ rest) t m → ServiceStands g w (v ∷ []) 3 None r (leaving v) rest
  exits v r rest t m h =
      let i = leaving v in
      let x = stood r false i rest t m h in
      let y = words_at r.fun i rest x in
      record {
        words = y.words;
        form = y.are.1;
        aside = record {
          own = λ k q live home. kept_aside q (behind_calls r i rest x refl k q live.0 live.1 home);
          callers = callers_use IsAside kept_aside r.callers (keeps_of r.fun t.first r.callers h.callers);
        };
        has = y.has;
        then_on = record { next = y.next };
        cheap = a.dear.each r.fun i;
      }

  allocations : (to : Option ℕ) (v : ℕ) (r : Running) (rest : List TacInstr) (t : State Store) (m : Machine)
      → Here g w r false (allocating to v ∷ rest) t m → MallocStands g w to v r rest
  allocations to v r rest t m h =
      let i = allocating to v in
      let x = stood r false i rest t m h in
      let y = words_at r.fun i rest x in
      record {
        words = y.words;
        form = y.are.1;
        beside = record {
          own = λ k q live home. kept_beside q (behind_calls r i rest x refl k q live.0 live.1 home);
          callers = callers_use IsBeside kept_beside r.callers (keeps_of r.fun t.first r.callers h.callers);
        };
        has = y.has;
        then_on = record { next = y.next };
        cheap = a.dear.each r.fun i;
      }

  -- ---- jumps and branches

  -- a word of the code leads to the words behind a label
  leads_to : (fun : ℕ) (f : TacFun) → Has g fun f → (at : ℕ) (to : List TacInstr) (z : ℤ) → at ≤ length g.code
      → Ends f.code to → IsHop at (g.word fun to) z → LeadsTo g.setting g.code at (g.word fun to) z
  leads_to fun f is at to z le k hop =
      let inside = (a.functions fun f is).stands.inside k.before to k.is in
      let room = l.text.room in
      let top = l.text.legal.in_range.1 in
      record {
        from = le;
        inside = omega arith;
        there = hops g.setting.map.text.0 at (g.word fun to) z (omega arith) (omega arith) hop;
      }

  -- the place behind the label is the same from the start of the code and from there
  same_place : (r : Running) (b : Bool) (i : TacInstr) (rest : List TacInstr) (x : Stood r.fun i rest) (l : ℕ)
      → is_label i l ≡ false → labels_differ x.f.code ≡ true → has_label (searched g w r.fun b rest) l ≡ true
      → behind_label l x.f.code ≡ behind_label l (searched g w r.fun b rest)
  same_place r true i rest x l plain differ h = ap (λ z. behind_label l (code_of z)) (sym x.is)
  same_place r false i rest x l plain differ h =
      let has : has_label (i ∷ rest) l ≡ true = subst (λ v. (v || has_label rest l) ≡ true) (sym plain) h in
      ap (behind_label l) x.at.is
      ∙ skips l x.at.before (i ∷ rest) (subst (λ z. labels_differ z ≡ true) x.at.is differ) has
      ∙ ap (λ v. if v then rest else behind_label l rest) plain

  has_searched : (r : Running) (b : Bool) (rest : List TacInstr) (l : ℕ) → has_label (tac_at g r.fun) l ≡ true
      → same_bool b (not (has_label rest l)) ≡ true → has_label (searched g w r.fun b rest) l ≡ true
  has_searched r true rest l whole turned = whole
  has_searched r false rest l whole turned = is_ahead (has_label rest l) turned

  labels_in : (fun : ℕ) (f : TacFun) → Has g fun f → labels_differ f.code ≡ true
  labels_in fun f is =
      let d = formed_at g.program g.setting.code fun f c.formed is in (parts_of g.program d.function f d.fits).labels

  jumps : (b : Bool) (l : ℕ) (r : Running) (rest : List TacInstr) (t : State Store) (m : Machine)
      → Here g w r b (instr.Jump l ∷ rest) t m → JumpStands g w b l r rest
  jumps b l r rest t m h =
      let i = instr.Jump l in
      let x = stood r b i rest t m h in
      let y = words_at r.fun i rest x in
      let whole : has_label (tac_at g r.fun) l ≡ true = (selectable r b i rest t m h).fits in
      let own : has_label x.f.code l ≡ true = subst (λ z. has_label (code_of z) l ≡ true) x.is whole in
      let turned = (and_parts (turn_fits b i rest) (turns_fit (is_turn i) rest) (came r b (i ∷ rest) t m h).turned).0 in
      let has = has_searched r b rest l whole turned in
      let differ = labels_in r.fun x.f x.is in
      let same = same_place r b i rest x l refl differ has in
      let inside = (a.functions r.fun x.f x.is).stands.inside x.at.before (i ∷ rest) x.at.is in
      let hop = subst (λ k. IsHop k (g.word r.fun (behind_label l x.f.code)) y.are.offset) (omega arith)
      (y.are.leads own differ) in
      record {
        has_it = has;
        offset = y.are.offset;
        leads = subst (λ k. LeadsTo g.setting g.code (g.word r.fun (i ∷ rest)) (g.word r.fun k) y.are.offset) same
            (leads_to r.fun x.f x.is (g.word r.fun (i ∷ rest)) (behind_label l x.f.code) y.are.offset (omega arith)
            (past l x.f.code) hop);
        has = subst (HasAt g.code (g.word r.fun (i ∷ rest))) y.are.are y.has;
        cheap = a.dear.each r.fun i;
      }

  branches : (b : Bool) (on : ℕ) (when : Bool) (l : ℕ) (r : Running) (rest : List TacInstr) (t : State Store)
      (m : Machine) → Here g w r b (instr.Branch on when l ∷ rest) t m → BranchStands g w b on when l r rest
  branches b on when l r rest t m h =
      let i = instr.Branch on when l in
      let x = stood r b i rest t m h in
      let y = words_at r.fun i rest x in
      let fits = and_parts (nat_lt on (length (kinds_at g r.fun))) (has_label (tac_at g r.fun) l)
      (selectable r b i rest t m h).fits in
      let own : has_label x.f.code l ≡ true = subst (λ z. has_label (code_of z) l ≡ true) x.is fits.1 in
      let turned = (and_parts (turn_fits b i rest) (turns_fit (is_turn i) rest) (came r b (i ∷ rest) t m h).turned).0 in
      let has = has_searched r b rest l fits.1 turned in
      let differ = labels_in r.fun x.f x.is in
      let same = same_place r b i rest x l refl differ has in
      let after = (a.functions r.fun x.f x.is).stands.inside (x.at.before ++ i ∷ []) rest
      (x.at.is ∙ sym (append_assoc x.at.before (i ∷ []) rest)) in
      let next = y.next in
      let long = ap length y.are.branches.are
      ∙ length-append y.are.finds (Branch (inverted when) y.are.branches.a 0 (pos 8) ∷ Cjal 0 y.are.offset ∷ []) in
      let at = g.word r.fun (i ∷ rest) + length y.are.finds + 1 in
      let hop = subst (λ k. IsHop k (g.word r.fun (behind_label l x.f.code)) y.are.offset) (omega arith)
      (y.are.leads own differ) in
      record {
        has_it = has;
        is_temp = ltb-true on (length (kinds_at g r.fun)) fits.0;
        offset = y.are.offset;
        finds = y.are.finds;
        words = y.words;
        form = y.are.branches;
        has = y.has;
        leads = subst (λ k. LeadsTo g.setting g.code at (g.word r.fun k) y.are.offset) same
            (leads_to r.fun x.f x.is at (behind_label l x.f.code) y.are.offset (omega (arith, next, long))
            (past l x.f.code) hop);
        then_on = record { next = y.next };
        cheap = a.dear.each r.fun i;
      }

  -- ---- calls

  -- a function with so many parameters, from which it starts where these temps are to be read
  abbrev pub begins_with : (fun : ℕ) (f : TacFun) → Has g fun f → (params : ℕ) → f.params ≡ params → (live : ℕ → Type 0)
      → ((temp : ℕ) → live temp → Awaits reads writes (tac_at g fun) (tac_at g fun) temp)
      → Begins g.setting g.code fun params (tac_at g fun) live
  begins_with fun f is params count live reads_it =
      let q = a.functions fun f is in
      let homes = a.homes fun f is in
      let d = formed_at g.program g.setting.code fun f c.formed is in
      let few = (parts_of g.program d.function f d.fits).few in
      let all : length (kinds_at g fun) ≡ length f.kinds = ap (λ z. length (kinds_of z)) is in
      record {
        lengths = locals_of g fun;
        frame = q.frame;
        is_frame = q.framed;
        parameters = record {
          stand = λ k lt. (a.numbers fun f is).parameters k (omega (arith, count));
          usable = λ k n lt at. homes.usable k n at.home;
          apart = λ j k lj lk. homes.apart j k (omega (arith, count)) (omega (arith, count));
        };
        reads = λ temp now.
            subst (λ n. temp < n) count
            (c.writes_first fun f is temp
            (subst (λ z. Awaits reads writes (code_of z) (code_of z) temp) is (reads_it temp now)));
        kinds = kinds_at g fun;
        one_each = homes.one_each ∙ sym (parts_of g.program d.function f d.fits).kinds ∙ sym all;
        enough = omega (arith, count, all);
        entry = q.entry;
        words = q.stands.parameters;
        parameter_words = subst (λ n. ParameterWords (selecting g.setting fun) n q.stands.parameters) count
            q.stands.parameter_words;
        has = q.stands.begins;
      }

  -- a function that is called with as many arguments as it has parameters
  callee : (fun : ℕ) (f : TacFun) → Has g fun f → (args : List ℕ) → f.params ≡ length args → (to : Option ℕ)
      (r : Running) (rest : List TacInstr) (t : State Store) → CalleeStands g w to fun args r rest t
  callee fun f is args count to r rest t =
      let q = a.functions fun f is in
      record {
        is = slice_get_within g.setting.code.funs fun f is;
        begins = begins_with fun f is (length args) count
            (IsLive g.setting (entry_of fun (caller_of r rest to t) r.callers (tac_at g fun))) (λ temp now. now);
        lengths = refl;
        kinds = refl;
        there = sym q.stands.first ∙ ap (λ z. g.word fun (code_of z)) (sym is);
        reports = λ cause. q.stands.sinks cause ∙ ap (λ z. Some (ending.Stack (name_of z))) (sym is);
        cheap = subst (λ n. prologue_cost n < g.setup fun) count (a.dear.entered fun f is);
      }

  -- what a caller has ready
  may_call : (r : Running) (i : TacInstr) (rest : List TacInstr) (x : Stood r.fun i rest) (to : Option ℕ)
      (args : List ℕ) → called_to i ≡ Some to → arguments i ≡ args → writes i ≡ in_option to
      → (t : State Store) → CallersKeep g.setting r.callers → (keep : List Instr)
      → KeepSome (selecting g.setting r.fun) to keep → (at : ℕ) → at + length keep ≡ g.word r.fun rest
      → MayCall g.setting g.code r to args rest at t
  may_call r i rest x to args e same result t keeps keep kept at there =
      let q = a.functions r.fun x.f x.is in
      record {
        frame = q.frame;
        is = q.framed.is;
        room = subst (λ z. stack_place (length z) ≤ registers_at (homes_of g.setting r.fun) q.frame) same
            (q.room i (contained r.fun i rest x) to e);
        keeps = (
          λ temp n waits home. behind_calls r i rest x (a_call i to e) temp n
              (λ among. not_result to temp waits.0 (subst (λ z. IsIn temp z) result among)) waits.1 home,
          keeps,
        );
        back = q.back i rest x.at to e keep kept at there;
      }

  -- no argument of a call to which control comes stands where arguments are passed
  aside : (fun : ℕ) (i : TacInstr) (rest : List TacInstr) (x : Stood fun i rest)
      → AreAside (selecting g.setting fun) (arguments i)
  aside fun i rest x v q among home = (a.homes fun x.f x.is).aside i rest x.reached v q among home

  -- the words of a call of a function that stands at a word
  module _ (to : Option ℕ) (fun : ℕ) (args : List ℕ) (r : Running) (rest : List TacInstr)
      (x : Stood r.fun (instr.Call to fun args) rest) (f : TacFun) (is : Has g fun f) where
    abbrev the_call : TacInstr
    the_call = instr.Call to fun args

    abbrev from : ℕ
    from = g.word r.fun (the_call ∷ rest)

    abbrev own : Selecting
    own = selecting g.setting r.fun

    abbrev ways_here : Ways
    ways_here = ways g.code (Says g) (Enters g) own x.f (g.word r.fun) from

    abbrev entry : ℕ
    entry = (a.functions fun f is).entry

    call_leads : (ws : List Instr) (h : WordsOf ways_here own the_call ws) → from + length ws ≤ length g.code
        → CallLeads g w fun args r from entry (call_words ways_here own the_call to refl ws h).call
    unfolding call_words
    call_leads ws (inl h) inside =
        let q = a.functions fun f is in
        let long = ap length h.are ∙ length-append (h.passes ++ Cjal 1 h.offset ∷ []) h.keep in
        let size = length-append h.passes (Cjal 1 h.offset ∷ []) in
        let body = q.stands.inside [] f.code refl in
        let begins = q.stands.first in
        let room = l.text.room in
        let top = l.text.legal.in_range.1 in
        Near h.offset (record { passes = h.passes; passed = h.passed (aside r.fun the_call rest x); are = refl })
        (record {
          from = omega (arith, inside, long, size);
          inside = omega (arith, begins, body);
          there = hops g.setting.map.text.0 (from + length h.passes) entry h.offset
              (omega (arith, inside, long, size)) (omega (arith, begins, body)) (h.leads entry q.enters);
        })
    call_leads ws (inr h) inside =
        Far (record {
          finds = h.1.finds;
          found = h.1.found;
          passes = h.1.passes;
          passed = h.1.passed (aside r.fun the_call rest x);
          are = refl;
        }) (get_or_from_slice_get g.setting.map.entries fun _ 0 (a.functions fun f is).enters)

  calls : (to : Option ℕ) (fun : ℕ) (args : List ℕ) (r : Running) (rest : List TacInstr) (t : State Store)
      (m : Machine) → Here g w r false (instr.Call to fun args ∷ rest) t m → CallStands g w to fun args r rest t
  unfolding callee
  calls to fun args r rest t m h =
      let i = instr.Call to fun args in
      let x = stood r false i rest t m h in
      let y = words_at r.fun i rest x in
      let s = selectable r false i rest t m h in
      let z = taken g.program s.d (kinds_at g r.fun) (tac_at g r.fun) (signature_of_function g.program fun) to args
      s.fits in
      let f = code_there g.program g.setting.code fun z.of c.formed z.is in
      let at = g.word r.fun (i ∷ rest) in
      let p = call_words (ways_here to fun args r rest x f.f f.is) (selecting g.setting r.fun) i to refl y.words
      y.are in
      let long = ap length p.are ∙ length-append p.call p.keep in
      let next = y.next in
      let after = (a.functions r.fun x.f x.is).stands.inside (x.at.before ++ i ∷ []) rest
      (x.at.is ∙ sym (append_assoc x.at.before (i ∷ []) rest)) in
      record {
        callee = callee fun f.f f.is args (c.counts fun f.f z.of f.is z.is ∙ sym z.same) to r rest t;
        words = p.call;
        leads = call_leads to fun args r rest x f.f f.is y.words y.are (omega (arith, next, after));
        has = has_front g.code at p.call p.keep (subst (HasAt g.code at) p.are y.has);
        may = may_call r i rest x to args refl refl refl t (keeps_of r.fun t.first r.callers h.callers) p.keep p.kept
            (at + length p.call) (omega (arith, next, long));
        cheap = a.dear.each r.fun i;
      }

  value_calls : (to : Option ℕ) (v of : ℕ) (args : List ℕ) (source : Pos) (r : Running) (rest : List TacInstr)
      (t : State Store) (m : Machine) → Here g w r false (through to v of args source ∷ rest) t m
      → ValueCallStands g w to v of args source r rest t
  unfolding callee
  value_calls to v of args source r rest t m h =
      let i = through to v of args source in
      let x = stood r false i rest t m h in
      let y = words_at r.fun i rest x in
      let s = selectable r false i rest t m h in
      let fits = and_parts (has_capability g.program s.d (kinds_at g r.fun) (tac_at g r.fun) v) _ s.fits in
      let z = taken g.program s.d (kinds_at g r.fun) (tac_at g r.fun) (signature_of g.program of) to args fits.1 in
      let signed : (f : ℕ) → IsCalled g.setting w g.program v of t f
      → signature_of_function g.program f ≡ Some z.of =
      λ f called. (sound_calls_fit g.program c.sound).signatures f of called.1 ∙ z.is in
      let from = g.word r.fun (i ∷ rest) in
      let p = y.are in
      let call = p.finds ++ (p.passes ++ Cjalr 1 31 (pos 0) ∷ []) in
      let whole = subst (HasAt g.code from) p.are y.has in
      let long = ap length p.are ∙ length-append call p.keep in
      let next = y.next in
      let at : from + (length p.finds + length p.passes) ≡ from + length p.finds + length p.passes = omega arith in
      record {
        callees = λ f called.
            let k = code_there g.program g.setting.code f z.of c.formed (signed f called) in
            callee f k.f k.is args (c.counts f k.f z.of k.is (signed f called) ∙ sym z.same) to r rest t;
        leads = λ f called.
            let k = code_there g.program g.setting.code f z.of c.formed (signed f called) in
            get_or_from_slice_get g.setting.map.entries f _ 0 (a.functions f k.f k.is).enters;
        words = call;
        form = record {
          finds = p.finds;
          found = p.found;
          passes = p.passes;
          passed = p.passed (aside r.fun i rest x);
          are = refl;
        };
        has = has_front g.code from call p.keep whole;
        may = may_call r i rest x to args refl refl refl t (keeps_of r.fun t.first r.callers h.callers) p.keep p.kept
            (from + length call) (omega (arith, next, long));
        cheap = a.dear.each r.fun i;
        reports = subst (λ k. Says g k source) at p.reports;
      }

  -- ---- returns

  -- a call's result has a home
  not_number : (fun : ℕ) (i : TacInstr) (rest : List TacInstr) (x : Stood fun i rest) (to : Option ℕ)
      → called_to i ≡ Some to → (temp : ℕ) → IsIn temp (writes i) → g.setting.numbers fun temp ≡ None
  not_number fun i rest x to e temp among = by (g.setting.numbers fun temp) refl
    where
      by : (o : Option ℕ) → g.setting.numbers fun temp ≡ o → g.setting.numbers fun temp ≡ None
      by None q = q
      by (Some n) q = absurd (no_constant i to n e (numbered fun i rest x temp n among q))

  locals_same : (fun : ℕ) (f : TacFun) → Has g fun f
      → length (locals_of g fun) ≡ length (locals_by (slice_get g.setting.needs.functions fun))
  locals_same fun f is =
      ap length (a.functions fun f is).framed.needed
      ∙ length-map (locals_by (slice_get g.setting.needs.functions fun)) (λ (n : ObjectNeed). n.length)

  returns : (fun : ℕ) (k : Caller) (cs : List Caller) (v : Option ℕ) (rest : List TacInstr) (t : State Store)
      (m : Machine) → Here g w (record { fun = fun; callers = k ∷ cs }) false (instr.Return v ∷ rest) t m
      → ReturnStands g w fun k cs v rest t
  returns fun k cs v rest t m h =
      let r : Running = record { fun = fun; callers = k ∷ cs } in
      let i = instr.Return v in
      let x = stood r false i rest t m h in
      let y = words_at fun i rest x in
      let b = (came r false (i ∷ rest) t m h).callers.0 in
      let xc = stood_by k.fun b.call k.rest (slice_get g.setting.code.funs k.fun) refl b.ends b.reached in
      let yc = words_at k.fun b.call k.rest xc in
      let own = selecting g.setting k.fun in
      let from = g.word k.fun (b.call ∷ k.rest) in
      let p = call_words (ways g.code (Says g) (Enters g) own xc.f (g.word k.fun) from) own b.call k.to b.to yc.words
      yc.are in
      let long = ap length p.are ∙ length-append p.call p.keep in
      let next = yc.next in
      let there : from + length p.call + length p.keep ≡ g.word k.fun k.rest = omega (arith, long, next) in
      let own_cheap = a.dear.each fun i in
      let entered = a.dear.entered k.fun xc.f xc.is in
      let inside = (a.functions k.fun xc.f xc.is).stands.inside (xc.at.before ++ b.call ∷ []) k.rest
      (xc.at.is ∙ sym (append_assoc xc.at.before (b.call ∷ []) k.rest)) in
      record {
        words = y.words;
        form = y.are.1;
        has = y.has;
        to = from + length p.call;
        keep = p.keep;
        resumes = record {
          is = (a.functions k.fun xc.f xc.is).back b.call k.rest xc.at k.to b.to p.keep p.kept (from + length p.call)
              there;
          inside = omega (arith, there);
          kept = p.kept;
          words = has_back g.code from p.call p.keep (subst (HasAt g.code from) p.are yc.has);
          free = λ temp e. may_take k.fun cs (keeps_of k.fun k.first cs h.callers.1) b.call k.rest xc temp
              (call_writes b.call k.to temp b.to e)
              (not_number k.fun b.call k.rest xc k.to b.to temp (call_writes b.call k.to temp b.to e));
        };
        there = there;
        locals = locals_same fun x.f x.is;
        cheap = omega (arith, own_cheap, entered);
      }

  -- ---- the last return

  last_returns : (fun : ℕ) (v : Option ℕ) (rest : List TacInstr) (t : State Store) (m : Machine)
      → Here g w (record { fun = fun; callers = [] }) false (instr.Return v ∷ rest) t m → LastStands g w fun v rest
  last_returns fun v rest t m h =
      let i = instr.Return v in
      let x = stood (record { fun = fun; callers = [] }) false i rest t m h in
      let y = words_at fun i rest x in
      record {
        words = y.words;
        form = y.are.1;
        has = y.has;
        to = a.stub;
        stub = a.ends;
        cheap = a.dear.each fun i;
      }

  -- ---- a call of the library with other arguments than it takes

  abbrev Fits : FunDef → List TacKind → List TacInstr → TacInstr → Type 0
  Fits d kinds code i = instruction_fits g.program d kinds code i ≡ true

  strange_one : (d : FunDef) (kinds : List TacKind) (code : List TacInstr) (i : TacInstr) → IsStrange i
      → Fits d kinds code i → ⊥
  strange_one d kinds code (instr.Lib lib.PutChar to []) s e = cc
  strange_one d kinds code (instr.Lib lib.PutChar to (x ∷ [])) s e = absurd s
  strange_one d kinds code (instr.Lib lib.PutChar to (x ∷ y ∷ more)) s e =
      let q = (and_parts (has g.program d kinds code x int_result) false
      (and_parts (all_have (has g.program d kinds code) (x ∷ y ∷ more) (int_result ∷ [])) _ e).0).1 in
      cc
  strange_one d kinds code (instr.Lib lib.GetChar to []) s e = absurd s
  strange_one d kinds code (instr.Lib lib.GetChar to (x ∷ more)) s e = cc
  strange_one d kinds code (instr.Lib lib.Malloc to []) s e = cc
  strange_one d kinds code (instr.Lib lib.Malloc to (x ∷ [])) s e = absurd s
  strange_one d kinds code (instr.Lib lib.Malloc to (x ∷ y ∷ more)) s e =
      let q = (and_parts (has g.program d kinds code x word) false
      (and_parts (all_have (has g.program d kinds code) (x ∷ y ∷ more) (word ∷ [])) _ e).0).1 in
      cc
  strange_one d kinds code (instr.Lib lib.Exit (Some to) args) s e =
      let q = (and_parts (all_have (has g.program d kinds code) args (int_result ∷ [])) false e).1 in cc
  strange_one d kinds code (instr.Lib lib.Exit None []) s e = cc
  strange_one d kinds code (instr.Lib lib.Exit None (x ∷ [])) s e = absurd s
  strange_one d kinds code (instr.Lib lib.Exit None (x ∷ y ∷ more)) s e =
      let q = (and_parts (has g.program d kinds code x int_result) false
      (and_parts (all_have (has g.program d kinds code) (x ∷ y ∷ more) (int_result ∷ [])) _ e).0).1 in
      cc
  strange_one d kinds code i s e = absurd s

  strange : Each g w IsStrange (λ r i rest t m. ⊥)
  strange r i rest t m is h =
      let s = selectable r false i rest t m h in
      strange_one s.d (kinds_of (slice_get g.setting.code.funs r.fun)) (tac_at g r.fun) i is s.fits

  -- ---- all

  pub chosen : Chosen g w
  chosen = record {
    text = l.text;
    stack = l.stack;
    table = l.table;
    asked = record { weight = Rattle.obj_mem.specs.Needs.weight_in g.program; needs = l.needs };
    selectable = selectable;
    parameters = c.parameters;
    main_gives = c.main_gives;
    alike = λ fun of e. (sound_calls_fit g.program c.sound).signatures fun of e;
    constants = constants;
    copies = copies;
    labels = labels;
    promoted = promoted;
    operations = operations;
    comparisons = comparisons;
    conversions = conversions;
    intrinsics = intrinsics;
    offsets = offsets;
    narrows = narrows;
    pointers = pointers;
    zeroes = zeroes;
    accesses = accesses;
    struct_copies = struct_copies;
    jumps = jumps;
    branches = branches;
    turns = turns;
    puts = puts;
    takes = takes;
    exits = exits;
    strange = strange;
    allocations = allocations;
    calls = calls;
    value_calls = value_calls;
    returns = returns;
    last_returns = last_returns;
  }
