-- An act of well-formed code leads from a sound moment to a sound moment.
use Rattle.std.proofs.Common.{◌≡◌, ℕ, zero, suc, ◌+◌, ◌-◌, ◌*◌, ◌/◌, ◌^◌, ◌<◌, ◌≤◌, ◌==◌, ◌||◌, Bool, true, false}
use Rattle.std.proofs.Common.{List, [], ◌∷◌, length, refl, sym, ap, ◌∙◌, subst, arith, Option, Some, None, inl}
use Rattle.std.proofs.Common.{inr}
use Rattle.std.specs.Prelude.{nat_lt, slice_get, if◌then◌else◌}
use Rattle.std.proofs.lemmas.Bool.{and_parts, or_cases, ltb-true, ltb-false, eqb-true}
use Rattle.std.proofs.lemmas.Option.{none-some}
use Rattle.std.proofs.Math.Nat.{div-mul-le_self}
use Rattle.c_tree.specs.declared.typed.FunDef.{FunDef}
use Rattle.c_tree.specs.declared.typed.Typed.{Typed}
use Rattle.obj_mem.specs.declared.map.Frame.{Frame}
use Rattle.obj_mem.specs.declared.map.Map.{Map}
use Rattle.obj_mem.specs.Values.{Value}
use Rattle.cheri_c_sem.specs.Calls.{add_locals, end_locals}
use Rattle.cheri_c_sem.specs.Modes.{Store, operations, placed_plan, local_offset, frame_within, below}
use Rattle.cheri_c_sem.specs.Operations.{Operations}
use Rattle.cheri_c_sem.specs.Programs.{lengths_of, function_trees, program_tree}
use Rattle.cheri_c_sem.specs.Steps.{byte_or_end}
use Rattle.mean_steps.specs.Parts.{Now, Came, On as Gives, Over}
use Rattle.object_memory.specs.Memories.{IsSize}
use Rattle.tac_ir.specs.Effects.{Next, On, To, Pause, Back, Into}
use Rattle.tac_ir.specs.Meaning.{code_of, kinds_of, objects_of, with_result}
use Rattle.tac_ir.specs.WellFormed.{all_of, is_unit, instruction_fits, function_fits, functions_fit}
use Rattle.tac_ir.specs.WellFormed.{is_well_formed}
use Rattle.tac_ir.specs.declared.code.LibOp.TheVariants as lib
use Rattle.tac_ir.specs.declared.code.Tac.{Tac}
use Rattle.tac_ir.specs.declared.code.TacFun.{TacFun}
use Rattle.tac_ir.specs.declared.code.TacInstr.{TacInstr}
use Rattle.tac_ir.specs.declared.code.TacInstr.TheVariants as instr
use Rattle.tac_ir.specs.declared.code.TacKind.{TacKind}
use Rattle.tac_steps.specs.Machine.{Caller, Moment, effect, code_at, kinds_at, spent, arrived, paused}
use Rattle.tac_steps.specs.Machine.{entered, calls, returns_to, called_behind, returned_behind, leads, led, with_answer}
use Rattle.tac_steps.specs.Machine.{act_on, act_at, act}
use Rattle.tac_run.specs.Bases.{IsBased, AreBased, Lasts, KeepBases}
use Rattle.tac_run.specs.Moments.{AreValuesBased, AreCallers, IsSound, Leads, Names, ActsStaySound}
use Rattle.tac_run.specs.Ready.{IsRoomy, objects_by}
use Rattle.tac_run.proofs.Accesses.{stays}
use Rattle.tac_run.proofs.Sounding.{Onward, IsNextBased, ComesSound, effect_sound}
use Rattle.tac_run.proofs.Keeps.{maps_keep_bases_law}
use Rattle.tac_run.proofs.Objects.{later, grows_on}
use Rattle.tac_run.proofs.Temps.{result_based, entry_based, values_later, call_later, callers_later}

-- ---- what well-formed code names

all_at : {A : Type 0} (test : A → Bool) (xs : List A) (k : ℕ) (x : A) → all_of test xs ≡ true →
    slice_get xs k ≡ Some x → test x ≡ true
all_at test [] k x e q = absurd (none-some x q)
all_at test (y ∷ ys) zero x e q = let same : y ≡ x = cc in subst (λ z. test z ≡ true) same (and_parts _ _ e).0
all_at test (y ∷ ys) (suc k) x e q = all_at test ys k x (and_parts _ _ e).1 q

unit_size : (n : ℕ) → is_unit n ≡ true → IsSize n
unit_size n e = elim (or_cases (n == 1 || n == 2 || n == 4 || n == 8) (n == 16) e) as (λ _. IsSize n) [
  | inr q ↦ inr (inr (inr (inr (eqb-true n 16 q))))
  | inl e ↦ elim (or_cases (n == 1 || n == 2 || n == 4) (n == 8) e) as (λ _. IsSize n) [
    | inr q ↦ inr (inr (inr (inl (eqb-true n 8 q))))
    | inl e ↦ elim (or_cases (n == 1 || n == 2) (n == 4) e) as (λ _. IsSize n) [
      | inr q ↦ inr (inr (inl (eqb-true n 4 q)))
      | inl e ↦ elim (or_cases (n == 1) (n == 2) e) as (λ _. IsSize n) [
        | inr q ↦ inr (inl (eqb-true n 2 q))
        | inl q ↦ inl (eqb-true n 1 q)
      ]
    ]
  ]
]

module _ (p : Typed) where
  names : (d : FunDef) (kinds : List TacKind) (code : List TacInstr) (i : TacInstr) →
      instruction_fits p d kinds code i ≡ true → Names p (length (lengths_of p d.vars)) i
  names d kinds code (instr.Local to var) e = ltb-true _ _ (and_parts _ _ e).1
  names d kinds code (instr.Zero var) e = ltb-true _ _ e
  names d kinds code (instr.Global to number true) e = ltb-true _ _ (and_parts _ _ e).1
  names d kinds code (instr.Global to number false) e = ltb-true _ _ (and_parts _ _ e).1
  names d kinds code (instr.CopyUnits from to bytes unit fp tp) e = unit_size unit (and_parts _ _ (and_parts _ _ e).1).0
  names d kinds code i e = tt

  record Fitting (ds : List FunDef) (f : ℕ) (g : TacFun) : Type 0 where
    function : FunDef
    there : slice_get ds f ≡ Some function
    fits : function_fits p function g ≡ true

  fitting : (ds : List FunDef) (fs : List TacFun) (f : ℕ) (g : TacFun) → functions_fit p ds fs ≡ true →
      slice_get fs f ≡ Some g → Fitting ds f g
  fitting [] [] f g e q = absurd (none-some g q)
  fitting [] (h ∷ fs) f g e q = absurd (let z : false ≡ true = e in cc)
  fitting (d ∷ ds) [] f g e q = absurd (none-some g q)
  fitting (d ∷ ds) (h ∷ fs) zero g e q =
      let same : h ≡ g = cc in record {
        function = d;
        there = refl;
        fits = subst (λ y. function_fits p d y ≡ true) same (and_parts _ _ e).0;
      }
  fitting (d ∷ ds) (h ∷ fs) (suc f) g e q =
      let x = fitting ds fs f g (and_parts _ _ e).1 q in
      record { function = x.function; there = x.there; fits = x.fits }

  trees_at : (fs : List FunDef) (j i : ℕ) (d : FunDef) → slice_get fs i ≡ Some d →
      objects_of (slice_get (function_trees p j fs) i) ≡ lengths_of p d.vars
  trees_at [] j i d e = absurd (none-some d e)
  trees_at (x ∷ fs) j zero d e = let same : x ≡ d = cc in ap (λ (y : FunDef). lengths_of p y.vars) same
  trees_at (x ∷ fs) j (suc i) d e = trees_at fs (suc j) i d e

  pub objects_are : (f : ℕ) (d : FunDef) → slice_get p.funs f ≡ Some d → objects_by p f ≡ lengths_of p d.vars
  unfolding program_tree
  objects_are f d e = trees_at p.funs 0 f d e

  names_in : (f : ℕ) (g : TacFun) (at : ℕ) (i : TacInstr) → Fitting p.funs f g → slice_get g.code at ≡ Some i →
      Names p (length (objects_by p f)) i
  names_in f g at i x q =
      let code = (and_parts _ _ (and_parts _ _ (and_parts _ _ (and_parts _ _ x.fits).0).0).0).1 in
      subst (λ n. Names p (length n) i) (sym (objects_are f x.function x.there))
      (names x.function g.kinds g.code i (all_at (instruction_fits p x.function g.kinds g.code) g.code at i code q))

pub names_at : (t : Tac) (p : Typed) (f at : ℕ) (i : TacInstr) → is_well_formed t p ≡ true →
    slice_get (code_of (slice_get t.funs f)) at ≡ Some i → Names p (length (objects_by p f)) i
unfolding is_well_formed
names_at t p f at i e q = by (slice_get t.funs f) refl q where
  by : (o : Option TacFun) → slice_get t.funs f ≡ o → slice_get (code_of o) at ≡ Some i →
      Names p (length (objects_by p f)) i
  by None z q = absurd (none-some i q)
  by (Some g) z q = names_in p f g at i (fitting p p.funs t.funs f g e z) q

-- ---- frames

-- a frame, and each of so many locals in it, below an address
pub record IsBelow (m : Map) (count f to address : ℕ) : Type 0 where
  pub frame : to ≤ address
  pub locals : (k : ℕ) → k < count → to + local_offset (slice_get m.frames f) k ≤ address

module _ (p : Typed) (m : Map) (roomy : IsRoomy p m) where
  rounded : (n align : ℕ) → n / align * align ≤ n
  rounded n align = div-mul-le_self n align

  within : (f address to : ℕ) (o : Option Frame) → slice_get m.frames f ≡ o →
      frame_within m.stack.0 address o ≡ Some to → IsBelow m (length (objects_by p f)) f to address
  within f address to None e q = absurd (none-some to q)
  within f address to (Some g) e q = go (nat_lt address g.size) (nat_lt (below address g) m.stack.0) refl q where
    go : (b c : Bool) → nat_lt address g.size ≡ b → (if b || c then None else Some (below address g)) ≡ Some to →
        IsBelow m (length (objects_by p f)) f to address
    go true c z q = absurd (none-some to q)
    go false true z q = absurd (none-some to q)
    go false false z q =
        let same : below address g ≡ to = cc in
        let down = rounded (address - g.size) g.align in
        let room = ltb-false _ _ z in
        record {
          frame = omega (arith, same);
          locals = λ k l. let inside = roomy.frames f k g e l in
              subst (λ o. to + local_offset o k ≤ address) (sym e) (omega (arith, same));
        }

  pub entered_below : (f address to : ℕ) → (operations (placed_plan m)).enter f address ≡ Some to →
      IsBelow m (length (objects_by p f)) f to address
  unfolding operations
  entered_below f address to q = within f address to (slice_get m.frames f) refl q

-- ---- moments

module _ (t : Tac) (p : Typed) (m : Map) (formed : is_well_formed t p ≡ true) (roomy : IsRoomy p m) where
  abbrev ops : Operations Store
  ops = operations (placed_plan m)

  keep : KeepBases m (operations (placed_plan m))
  keep = let small = roomy.heap in maps_keep_bases_law m (omega arith)

  -- ---- objects of calls

  pub record Longer (s s' : Store) (count : ℕ) : Type 0 where
    pub lasts : Lasts s s'
    pub more : length s'.memory.shapes ≡ length s.memory.shapes + count

  pub locals_last : (frame f count : ℕ) →
      ((k : ℕ) → k < count → frame + local_offset (slice_get m.frames f) k < 2 ^ 64) →
      (ls : List ℕ) (s : Store) (k : ℕ) → k + length ls ≤ count → AreBased s.memory
      → Longer s (add_locals ops s frame f k ls) (length ls)
  locals_last frame f count small [] s k room based =
      record { lasts = record { based = based; grows = stays s.memory.shapes }; more = omega arith }
  locals_last frame f count small (l ∷ ls) s k room based =
      let s' = ops.add_local s frame f k l in
      let one = keep.add_local s frame f k l based (small k (omega arith)) in
      let more = locals_last frame f count small ls s' (suc k) (omega arith) one.based in
      let longer : length s'.memory.shapes ≡ suc (length s.memory.shapes) =
      sym (keep.count s') ∙ keep.count_local s frame f k l ∙ ap suc (keep.count s) in
      record {
        lasts = record { based = more.lasts.based; grows = grows_on _ _ _ one.grows more.lasts.grows };
        more = omega (arith, longer, more.more);
      }

  ends_last : (ls : List ℕ) (s : Store) (object : ℕ) → AreBased s.memory → Lasts s (end_locals ops s object ls)
  ends_last [] s object based = record { based = based; grows = stays s.memory.shapes }
  ends_last (l ∷ ls) s object based =
      let one = keep.end s object based in
      let more = ends_last ls (ops.end s object) (suc object) one.based in
      record { based = more.based; grows = grows_on _ _ _ one.grows more.grows }

  -- ---- where a run goes on

  module _ (x : Moment Store) (sound : IsSound p x) where
    moved : (at left : ℕ) (turned : Bool) →
        IsSound p (record x { at = at; turned = turned; now = record x.now { left = left } })
    moved at left turned = record {
      memory = sound.memory;
      program = sound.program;
      now = sound.now;
      callers = sound.callers;
    }

    spent_sound : (left at : ℕ) → IsSound p (spent ops t (objects_by p) left at x)
    spent_sound zero at = moved _ x.now.left false
    spent_sound (suc j) at = moved at j false

    arrived_sound : (turned : Bool) (at : ℕ) → IsSound p (arrived ops t (objects_by p) turned at x)
    arrived_sound true at = spent_sound x.now.left at
    arrived_sound false at = moved at x.now.left x.turned

    paused_sound : (turned : Bool) → IsSound p (paused ops t (objects_by p) turned x)
    paused_sound true = moved _ x.now.left false
    paused_sound false = moved (x.at + 1) x.now.left true

    entered_sound : (f left : ℕ) (vs : List Value) (to : Option ℕ) (address : Option ℕ) →
        ops.enter f x.now.frame ≡ address → AreValuesBased x.now.mem.memory.shapes vs
        → Leads (IsSound p) (entered ops t (objects_by p) address f vs
        (record {
          fun = x.fun;
          at = x.at + 1;
          vars = x.now.vars;
          first = x.now.first;
          frame = x.now.frame;
          to = to;
        } ∷ x.callers) (record x.now { left = left }))
    entered_sound f left vs to None e h = tt
    entered_sound f left vs to (Some address) e h =
        let below = entered_below p m roomy f x.now.frame address e in
        let small = sound.now.frame in
        let lower = below.frame in
        let mem = add_locals ops x.now.mem address f 0 (objects_by p f) in
        let more = locals_last address f (length (objects_by p f))
        (λ k l. let lower = below.locals k l in omega arith) (objects_by p f) x.now.mem 0 (omega arith) sound.memory in
        let grows = more.lasts.grows in
        let longer = grows.longer in
        let before = sound.program in
        let room : ops.count x.now.mem + length (objects_by p f) ≤ length mem.memory.shapes =
        omega (arith, keep.count x.now.mem, more.more) in
        record {
          memory = more.lasts.based;
          program = omega arith;
          now = record {
            temps = entry_based mem.memory.shapes (kinds_of (slice_get t.funs f)) vs
                (values_later x.now.mem.memory.shapes mem.memory.shapes grows vs h);
            room = room;
            frame = omega arith;
          };
          callers = (
            call_later x.now.mem.memory.shapes mem.memory.shapes grows
                (length (objects_by p x.fun)) x.now.vars x.now.first x.now.frame sound.now,
            callers_later x.now.mem.memory.shapes mem.memory.shapes grows (objects_by p) x.callers sound.callers,
          );
        }

    calls_sound : (left f : ℕ) (vs : List Value) (to : Option ℕ) → AreValuesBased x.now.mem.memory.shapes vs →
        Leads (IsSound p) (calls ops t (objects_by p) left f vs to x)
    calls_sound zero f vs to h = tt
    calls_sound (suc j) f vs to h = entered_sound f j vs to (ops.enter f x.now.frame) refl h

    behind_call : (turned : Bool) (f : ℕ) (vs : List Value) (to : Option ℕ) →
        AreValuesBased x.now.mem.memory.shapes vs →
        Leads (IsSound p) (called_behind ops t (objects_by p) turned f vs to x)
    behind_call true f vs to h = tt
    behind_call false f vs to h = calls_sound x.now.left f vs to h

    returns_sound : (cs : List Caller) (left : ℕ) (v : Value) → AreCallers x.now.mem.memory.shapes (objects_by p) cs →
        IsBased x.now.mem.memory.shapes v → Leads (IsSound p) (returns_to ops t (objects_by p) cs left v x)
    returns_sound [] left v h b = tt
    returns_sound (c ∷ cs) zero v h b = tt
    returns_sound (c ∷ cs) (suc j) v h b =
        let mem = end_locals ops x.now.mem x.now.first (objects_by p x.fun) in
        let gone = ends_last (objects_by p x.fun) x.now.mem x.now.first sound.memory in
        let grows = gone.grows in
        let longer = grows.longer in
        let before = sound.program in
        let own = call_later x.now.mem.memory.shapes mem.memory.shapes grows
        (length (objects_by p c.fun)) c.vars c.first c.frame h.0 in
        record {
          memory = gone.based;
          program = omega arith;
          now = record {
            temps = result_based mem.memory.shapes c.vars c.to v own.temps
                (later x.now.mem.memory.shapes mem.memory.shapes v grows b);
            room = own.room;
            frame = own.frame;
          };
          callers = callers_later x.now.mem.memory.shapes mem.memory.shapes grows (objects_by p) cs h.1;
        }

    behind_return : (turned : Bool) (v : Value) → IsBased x.now.mem.memory.shapes v →
        Leads (IsSound p) (returned_behind ops t (objects_by p) turned v x)
    behind_return true v h = tt
    behind_return false v h = returns_sound x.callers x.now.left v sound.callers h

    leads_sound : (next : Next) → IsNextBased x.now.mem.memory.shapes next →
        Leads (IsSound p) (leads ops t (objects_by p) next x)
    leads_sound On h = arrived_sound x.turned (x.at + 1)
    leads_sound (To l) h = arrived_sound x.turned _
    leads_sound Pause h = paused_sound x.turned
    leads_sound (Back v) h = behind_return x.turned v h
    leads_sound (Into f vs to) h = behind_call x.turned f vs to h

    after : (n : Now Store) → Onward x.now n → IsSound p (record x { now = n })
    after n h =
        let grows = h.lasts.grows in
        let longer = grows.longer in
        let before = sound.program in
        let room = sound.now.room in
        let small = sound.now.frame in
        record {
          memory = h.lasts.based;
          program = omega arith;
          now = record { temps = h.temps; room = omega (arith, h.first); frame = omega (arith, h.frame) };
          callers = callers_later x.now.mem.memory.shapes n.mem.memory.shapes grows
              (objects_by p) x.callers sound.callers;
        }

  led_sound : (x : Moment Store) → IsSound p x → (c : Came Store Next) → ComesSound x.now c →
      Leads (IsSound p) (led ops t (objects_by p) x c)
  led_sound x sound (Gives next n) h = leads_sound (record x { now = n }) (after x sound n h.0) next h.1
  led_sound x sound (Over e) h = tt

  answered_sound : (x : Moment Store) → IsSound p x → (to : Option ℕ) (v : Value) → IsBased x.now.mem.memory.shapes v →
      IsSound p (with_answer ops t (objects_by p) to v x)
  answered_sound x sound to v h =
      let answered : Moment Store = record x { now = record x.now { vars = with_result x.now.vars to v } } in
      let own = sound.now in
      arrived_sound answered
      (record {
        memory = sound.memory;
        program = sound.program;
        now = record {
          temps = result_based x.now.mem.memory.shapes x.now.vars to v own.temps h;
          room = own.room;
          frame = own.frame;
        };
        callers = sound.callers;
      }) x.turned (x.at + 1)

  module _ (x : Moment Store) (sound : IsSound p x) where
    effects_sound : (i : TacInstr) → Names p (length (objects_by p x.fun)) i →
        Leads (IsSound p) (led ops t (objects_by p) x (effect ops p (kinds_at ops t (objects_by p) x.fun) i x.now))
    effects_sound i h =
        led_sound x sound _
        (effect_sound m ops keep p (length (objects_by p x.fun)) x.now sound.memory sound.now.temps sound.now.room
        sound.program (kinds_at ops t (objects_by p) x.fun) i h)

    end_based : (byte : Option ℕ) → IsBased x.now.mem.memory.shapes (byte_or_end byte)
    end_based None = tt
    end_based (Some b) = tt

    act_on_sound : (i : TacInstr) → Names p (length (objects_by p x.fun)) i →
        Leads (IsSound p) (act_on ops t (objects_by p) p i x)
    act_on_sound (instr.Lib lib.PutChar to args) h = answered_sound x sound to _ tt
    act_on_sound (instr.Lib lib.GetChar to args) h =
        λ byte. answered_sound x sound to (byte_or_end byte) (end_based byte)
    act_on_sound i h = effects_sound i h

    act_at_sound : (o : Option TacInstr) → slice_get (code_at ops t (objects_by p) x.fun) x.at ≡ o →
        Leads (IsSound p) (act_at ops t (objects_by p) p o x)
    act_at_sound None e = tt
    act_at_sound (Some i) e = act_on_sound i (names_at t p x.fun x.at i formed e)

    pub act_sound : Leads (IsSound p) (act ops t (objects_by p) p x)
    unfolding act
    act_sound = act_at_sound (slice_get (code_at ops t (objects_by p) x.fun) x.at) refl

pub acts_stay_sound_law : ActsStaySound
acts_stay_sound_law t p m x formed roomy sound = act_sound t p m formed roomy x sound
