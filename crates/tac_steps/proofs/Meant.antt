-- Runs of the machine are those of the meaning.
use Rattle.std.proofs.Common.{◌≡◌, ℕ, zero, suc, ◌+◌, ◌%◌, Bool, true, false, cond, List, [], ◌∷◌, length, map, drop}
use Rattle.std.proofs.Common.{Option, Some, None, refl, sym, ap, ◌∙◌, arith}
use Rattle.std.specs.Prelude.{slice_get, if◌then◌else◌}
use Rattle.std.proofs.lemmas.List.{drop-drop}
use Rattle.ck_base.specs.Runs.{Act, Goes, Puts, Reads, Ends, Stopped, with_put, with_read}
use Rattle.ck_base.specs.World.{World, Done, fails_after}
use Rattle.c_tree.specs.declared.typed.Typed.{Typed}
use Rattle.obj_mem.specs.Values as value
use Rattle.obj_mem.specs.Values.{Value}
use Rattle.obj_mem.specs.declared.ending.Ending.{Ending}
use Rattle.obj_mem.specs.declared.ending.Ending.TheVariants as ending
use Rattle.cheri_c_sem.specs.Calls.{end_locals}
use Rattle.cheri_c_sem.specs.Kinds.{number_of}
use Rattle.cheri_c_sem.specs.Meaning.{first_of}
use Rattle.cheri_c_sem.specs.Operations.{Operations}
use Rattle.cheri_c_sem.specs.Steps.{State, Fate, over, ends, choose, byte_or_end}
use Rattle.mean_steps.specs.Parts.{Now, Came, On as Gives, Over}
use Rattle.mean_steps.proofs.Alike.{state_of, follow as done_with}
use Rattle.tac_ir.specs.Effects.{Next, On, To, Pause, Back, Into}
use Rattle.tac_ir.specs.Effects as effects
use Rattle.tac_ir.specs.Meaning.{Going, Runs, Seeks, Turned, Running, is_label, seek, name_of, with_result, behind_turn}
use Rattle.tac_ir.specs.Meaning.{pass, follow, turned, back, into, enters, fate, up_to}
use Rattle.tac_ir.specs.Meaning as meaning
use Rattle.tac_ir.specs.declared.code.LibOp.TheVariants as lib
use Rattle.tac_ir.specs.declared.code.Tac.{Tac}
use Rattle.tac_ir.specs.declared.code.TacInstr.{TacInstr}
use Rattle.tac_ir.specs.declared.code.TacInstr.TheVariants as instr
use Rattle.tac_steps.specs.Machine.{Caller, Moment, value_in, effect, code_at, kinds_at, spent, onward, jumped, paused}
use Rattle.tac_steps.specs.Machine.{caller_of, entered, calls, returns_to, leads, led, with_answer, act_on, act_at, act}
use Rattle.tac_steps.proofs.Kept.{Stays, IsInside, kept_effect}

-- ---- lists

drop-past : {A : Type 0} (xs : List A) → drop (length xs) xs ≡ []
drop-past [] = refl
drop-past (x ∷ xs) = drop-past xs

drop-next : {A : Type 0} (xs : List A) (k : ℕ) (x : A) → slice_get xs k ≡ Some x → drop k xs ≡ x ∷ drop (k + 1) xs
drop-next [] k x e = absurd (let h : ◌≡◌ {A = Option _} None (Some x) = e in cc)
drop-next (y ∷ ys) zero x e = let h : y ≡ x = cc in ap (λ z. z ∷ ys) h
drop-next (y ∷ ys) (suc k) x e = let one : suc k + 1 ≡ suc (k + 1) = omega arith in rw one (drop-next ys k x e)

drop-none : {A : Type 0} (xs : List A) (k : ℕ) → slice_get xs k ≡ None → drop k xs ≡ []
drop-none [] zero e = refl
drop-none [] (suc k) e = refl
drop-none (y ∷ ys) zero e = absurd (let h : ◌≡◌ {A = Option _} (Some y) None = e in cc)
drop-none (y ∷ ys) (suc k) e = drop-none ys k e

-- where a run stopped, as what it came to
abbrev fate_of : {S : Type 0} → Stopped S Ending → Fate
fate_of r = record { done = r.done; ending = r.ending }

module _ {M : Type 0} (ops : Operations M) (w : World) (t : Tac) (p : Typed) (objects : ℕ → List ℕ) where
  abbrev code_of_fun : ℕ → List TacInstr
  code_of_fun f = code_at ops t objects f

  abbrev again : ℕ → List TacInstr → Going → Running → State M → Fate
  again j = behind_turn ops w t p objects j

  abbrev mode : Bool → Going
  mode false = Runs
  mode true = Turned

  abbrev caller_meant : Caller → meaning.Caller
  caller_meant c = record {
    fun = c.fun;
    vars = c.vars;
    first = c.first;
    frame = c.frame;
    rest = drop c.at (code_of_fun c.fun);
    to = c.to;
  }

  abbrev running : ℕ → List Caller → Running
  running f cs = record { fun = f; callers = map caller_meant cs }

  abbrev passes : ℕ → List TacInstr → Going → Running → State M → Fate
  passes j is g r s = pass ops w t p objects (again j) is g r s

  -- what a moment leads to
  abbrev pub meant_of : Moment M → Done → Fate
  meant_of m d = passes m.now.left (drop m.at (code_of_fun m.fun)) (mode m.turned) (running m.fun m.callers)
      (state_of m.now d)

  -- what follows an instruction, before these instructions, with so many turns left
  abbrev leads_meant : Bool → ℕ → List TacInstr → Running → Next → State M → Fate
  leads_meant false j is r = follow ops w t p objects (again j) (pass ops w t p objects (again j) is) is r
  leads_meant true j is r = turned ops w t p objects (again j) is r

  -- what an act leads to
  abbrev pub acted : Done → Act (Moment M) Ending → Fate
  acted d (Goes m) = meant_of m d
  acted d (Puts b m) = if fails_after w.failing_put (length d.output)
      then record { done = d; ending = ending.WriteFault } else meant_of m (with_put d b)
  acted d (Reads to) = if fails_after w.failing_read d.reads then record { done = d; ending = ending.ReadFault }
      else meant_of (to (slice_get w.bytes d.reads)) (with_read d)
  acted d (Ends e) = record { done = d; ending = e }

  abbrev Moves : Type 0
  Moves = Moment M → Moment M

  -- ---- where a run goes on

  ended : (j f : ℕ) (cs : List Caller) (s : State M) →
      over ending.Turns s ≡ passes j (drop (length (code_of_fun f)) (code_of_fun f)) Runs (running f cs) s
  ended j f cs s = sym (ap (λ is. passes j is Runs (running f cs) s) (drop-past (code_of_fun f)))

  sought : (j l : ℕ) (is : List TacInstr) (r : Running) (s : State M) →
      passes j is (Seeks l) r s ≡ passes j (drop (up_to l is) is) Runs r s
  sought j l [] r s = refl
  sought j l (i ∷ is) r s = here (is_label i l) (sought j l is r s)
    where
      here : (b : Bool) → passes j is (Seeks l) r s ≡ passes j (drop (up_to l is) is) Runs r s →
          passes j is (seek b l) r s ≡ passes j (drop (cond b 1 (suc (up_to l is))) (i ∷ is)) Runs r s
      here true later = refl
      here false later = later

  abbrev rest : Moment M → List TacInstr
  rest m = drop (m.at + 1) (code_of_fun m.fun)

  abbrev leads_from : Moment M → Next → State M → Fate
  leads_from m = leads_meant m.turned m.now.left (rest m) (running m.fun m.callers)

  abbrev moment : ℕ → ℕ → Bool → List Caller → Now M → Moment M
  moment f a b cs n = record { fun = f; at = a; turned = b; callers = cs; now = n }

  spent_meant : (left f a at : ℕ) (b : Bool) (cs : List Caller) (n : Now M) (d : Done) →
      again left (drop at (code_of_fun f)) Runs (running f cs) (state_of n d)
      ≡ meant_of (spent ops t objects left at (moment f a b cs (record n { left = left }))) d
  spent_meant zero f a at b cs n d = ended 0 f cs (state_of (record n { left = 0 }) d)
  spent_meant (suc j) f a at b cs n d = refl

  on_leads : (f a : ℕ) (b : Bool) (cs : List Caller) (n : Now M) (d : Done) →
      leads_from (moment f a b cs n) On (state_of n d) ≡ meant_of (onward ops t objects (moment f a b cs n)) d
  on_leads f a false cs n d = refl
  on_leads f a true cs n d = spent_meant n.left f a (a + 1) true cs n d

  to_leads : (f a : ℕ) (b : Bool) (cs : List Caller) (n : Now M) (d : Done) (l : ℕ) →
      leads_from (moment f a b cs n) (To l) (state_of n d) ≡ meant_of (jumped ops t objects (moment f a b cs n) l) d
  to_leads f a false cs n d l =
      sought n.left l (drop (a + 1) (code_of_fun f)) (running f cs) (state_of n d)
      ∙ ap (λ is. passes n.left is Runs (running f cs) (state_of n d))
      (drop-drop (up_to l (drop (a + 1) (code_of_fun f))) (a + 1) (code_of_fun f))
  to_leads f a true cs n d l = behind n.left
    where
      behind : (left : ℕ) → again left (code_of_fun f) (Seeks l) (running f cs) (state_of n d)
          ≡ meant_of (spent ops t objects left (up_to l (code_of_fun f))
          (moment f a true cs (record n { left = left }))) d
      behind zero = ended 0 f cs (state_of (record n { left = 0 }) d)
      behind (suc j) = sought j l (code_of_fun f) (running f cs) (state_of (record n { left = j }) d)

  pause_leads : (f a : ℕ) (b : Bool) (cs : List Caller) (n : Now M) (d : Done) →
      leads_from (moment f a b cs n) Pause (state_of n d) ≡ meant_of (paused ops t objects b (moment f a b cs n)) d
  pause_leads f a false cs n d = refl
  pause_leads f a true cs n d = ended n.left f cs (state_of n d)

  -- ---- calls

  returns_meant : (f a : ℕ) (cs : List Caller) (n : Now M) (d : Done) (v : Value) →
      back ops w t p objects (again n.left) v f (map caller_meant cs) (state_of n d)
      ≡ acted d (returns_to ops t objects cs n.left v (moment f a false cs n))
  returns_meant f a [] n d v = refl
  returns_meant f a (c ∷ cs) n d v = behind n.left
    where
      behind : (left : ℕ) →
          again left (drop c.at (code_of_fun c.fun)) Runs (running c.fun cs)
          (record (state_of n d) {
            vars = with_result c.vars c.to v;
            first = c.first;
            mem = end_locals ops n.mem n.first (objects f);
            frame = c.frame;
          })
          ≡ acted d (returns_to ops t objects (c ∷ cs) left v (moment f a false (c ∷ cs) n))
      behind zero = refl
      behind (suc j) = refl

  enters_meant : (f a g j : ℕ) (o : Option ℕ) (vs : List Value) (cs : List Caller) (n : Now M) (d : Done) →
      enters ops w t p objects (again (suc j)) o g vs (running g cs) (state_of n d)
      ≡ acted d (entered ops t objects o g vs cs (record n { left = j }))
  enters_meant f a g j None vs cs n d = refl
  enters_meant f a g j (Some address) vs cs n d = refl

  no_turns : (g : ℕ) (o : Option ℕ) (vs : List Value) (r : Running) (s : State M) →
      enters ops w t p objects (again 0) o g vs r s ≡ over ending.Turns s
  no_turns g None vs r s = refl
  no_turns g (Some address) vs r s = refl

  calls_meant : (f a g : ℕ) (to : Option ℕ) (vs : List Value) (cs : List Caller) (n : Now M) (d : Done) →
      into ops w t p objects (again n.left) (drop (a + 1) (code_of_fun f)) g vs to (running f cs) (state_of n d)
      ≡ acted d (calls ops t objects n.left g vs to (moment f a false cs n))
  calls_meant f a g to vs cs n d = behind n.left
    where
      behind : (left : ℕ) →
          enters ops w t p objects (again left) (ops.enter g n.frame) g vs
          (running g (caller_of ops t objects (moment f a false cs n) to ∷ cs)) (state_of n d)
          ≡ acted d (calls ops t objects left g vs to (moment f a false cs n))
      behind zero = no_turns g (ops.enter g n.frame) vs _ (state_of n d)
      behind (suc j) = enters_meant f a g j (ops.enter g n.frame) vs
          (caller_of ops t objects (moment f a false cs n) to ∷ cs) n d

  leads_kept : (next : Next) (f a : ℕ) (b : Bool) (cs : List Caller) (n : Now M) (d : Done) →
      leads_from (moment f a b cs n) next (state_of n d) ≡ acted d (leads ops t objects next (moment f a b cs n))
  leads_kept On f a b cs n d = on_leads f a b cs n d
  leads_kept (To l) f a b cs n d = to_leads f a b cs n d l
  leads_kept Pause f a b cs n d = pause_leads f a b cs n d
  leads_kept (Back v) f a true cs n d = refl
  leads_kept (Back v) f a false cs n d = returns_meant f a cs n d v
  leads_kept (Into g vs to) f a true cs n d = refl
  leads_kept (Into g vs to) f a false cs n d = calls_meant f a g to vs cs n d

  -- ---- acts

  led_kept : (r : Came M Next) (f a : ℕ) (b : Bool) (cs : List Caller) (n : Now M) (d : Done) → Stays n.left r →
      done_with r d (leads_from (moment f a b cs n)) ≡ acted d (led ops t objects (moment f a b cs n) r)
  led_kept (Over e) f a b cs n d h = refl
  led_kept (Gives next n') f a b cs n d h =
      ap (λ left. leads_meant b left (drop (a + 1) (code_of_fun f)) (running f cs) next (state_of n' d)) (sym h)
      ∙ leads_kept next f a b cs n' d

  inside_kept : (i : TacInstr) (f a : ℕ) (b : Bool) (cs : List Caller) (n : Now M) (d : Done) → IsInside ops w i →
      effects.effect ops w p (kinds_at ops t objects f) i (state_of n d) (leads_from (moment f a b cs n))
      ≡ acted d (led ops t objects (moment f a b cs n) (effect ops p (kinds_at ops t objects f) i n))
  inside_kept i f a b cs n d h =
      let k = kept_effect ops w p (kinds_at ops t objects f) i h in
      k.alike.at n d (leads_from (moment f a b cs n))
      ∙ led_kept (effect ops p (kinds_at ops t objects f) i n) f a b cs n d (k.stays n)

  answered : (to : Option ℕ) (v : Value) (f a : ℕ) (b : Bool) (cs : List Caller) (n : Now M) (d : Done) →
      effects.set_optional to v (state_of n d) (leads_from (moment f a b cs n))
      ≡ meant_of (with_answer ops t objects to v (moment f a b cs n)) d
  answered None v f a b cs n d = on_leads f a b cs n d
  answered (Some x) v f a b cs n d = on_leads f a b cs (record n { vars = with_result n.vars (Some x) v }) d

  put_kept : (fails : Bool) (to : Option ℕ) (byte f a : ℕ) (b : Bool) (cs : List Caller) (n : Now M) (d : Done) →
      choose fails (ends ending.WriteFault) (λ s k. k (tt {0}) (record s { done = with_put s.done byte }))
      (state_of n d) (λ _ s. effects.set_optional to (value.Int byte) s (leads_from (moment f a b cs n)))
      ≡ (if fails then record { done = d; ending = ending.WriteFault }
      else meant_of (with_answer ops t objects to (value.Int byte) (moment f a b cs n)) (with_put d byte))
  put_kept true to byte f a b cs n d = refl
  put_kept false to byte f a b cs n d = answered to (value.Int byte) f a b cs n (with_put d byte)

  get_kept : (fails : Bool) (to : Option ℕ) (f a : ℕ) (b : Bool) (cs : List Caller) (n : Now M) (d : Done) →
      choose fails (ends ending.ReadFault) (λ s k.
      k (slice_get w.bytes s.done.reads) (record s { done = with_read s.done })) (state_of n d)
      (λ o s. effects.set_optional to (byte_or_end o) s (leads_from (moment f a b cs n)))
      ≡ (if fails then record { done = d; ending = ending.ReadFault }
      else meant_of (with_answer ops t objects to (byte_or_end (slice_get w.bytes d.reads)) (moment f a b cs n))
      (with_read d))
  get_kept true to f a b cs n d = refl
  get_kept false to f a b cs n d = answered to (byte_or_end (slice_get w.bytes d.reads)) f a b cs n (with_read d)

  effect_kept : (i : TacInstr) (f a : ℕ) (b : Bool) (cs : List Caller) (n : Now M) (d : Done) →
      effects.effect ops w p (kinds_at ops t objects f) i (state_of n d) (leads_from (moment f a b cs n))
      ≡ acted d (act_on ops t objects p i (moment f a b cs n))
  effect_kept (instr.Lib lib.PutChar to args) f a b cs n d =
      put_kept (fails_after w.failing_put (length d.output)) to
      (number_of (first_of (map (value_in n) args)) % 256) f a b cs n d
  effect_kept (instr.Lib lib.GetChar to args) f a b cs n d =
      get_kept (fails_after w.failing_read d.reads) to f a b cs n d
  effect_kept (instr.Lib lib.Malloc to args) f a b cs n d = inside_kept (instr.Lib lib.Malloc to args) f a b cs n d tt
  effect_kept (instr.Lib lib.Exit to args) f a b cs n d = inside_kept (instr.Lib lib.Exit to args) f a b cs n d tt
  effect_kept i f a b cs n d = inside_kept i f a b cs n d tt

  first_instruction : (i : TacInstr) (is : List TacInstr) (b : Bool) (j : ℕ) (r : Running) (s : State M) →
      passes j (i ∷ is) (mode b) r s ≡ effects.effect ops w p (kinds_at ops t objects r.fun) i s (leads_meant b j is r)
  first_instruction i is false j r s = refl
  first_instruction i is true j r s = refl

  no_instruction : (b : Bool) (j : ℕ) (r : Running) (s : State M) → passes j [] (mode b) r s ≡ over ending.Turns s
  no_instruction false j r s = refl
  no_instruction true j r s = refl

  kept_at : (m : Moment M) (d : Done) (o : Option TacInstr) → slice_get (code_of_fun m.fun) m.at ≡ o →
      meant_of m d ≡ acted d (act_at ops t objects p o m)
  kept_at m d None e = ap (λ is. passes m.now.left is (mode m.turned) (running m.fun m.callers) (state_of m.now d))
      (drop-none (code_of_fun m.fun) m.at e)
      ∙ no_instruction m.turned m.now.left (running m.fun m.callers) (state_of m.now d)
  kept_at m d (Some i) e =
      ap (λ is. passes m.now.left is (mode m.turned) (running m.fun m.callers) (state_of m.now d))
      (drop-next (code_of_fun m.fun) m.at i e)
      ∙ first_instruction i (rest m) m.turned m.now.left (running m.fun m.callers) (state_of m.now d)
      ∙ effect_kept i m.fun m.at m.turned m.callers m.now d

  -- an act keeps what a moment leads to
  pub kept : (m : Moment M) (d : Done) → meant_of m d ≡ acted d (act ops t objects p m)
  unfolding act
  kept m d = kept_at m d (slice_get (code_of_fun m.fun) m.at) refl
