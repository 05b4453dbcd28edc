-- Fewer acts are left after each act, and the machine's own endings are no faults of the outside.
use Rattle.std.proofs.Common.{◌≡◌, ◌≢◌, ℕ, zero, suc, ◌+◌, ◌-◌, ◌*◌, ◌<◌, ◌≤◌, Bool, true, false, List, [], ◌∷◌, length}
use Rattle.std.proofs.Common.{drop, Option, Some, None, refl, sym, subst, inl, inr, arith}
use Rattle.std.specs.Prelude.{slice_get}
use Rattle.std.proofs.lemmas.Option.{slice_get_within}
use Rattle.ck_base.specs.Calls.{Seen, Acted}
use Rattle.ck_base.specs.RunLaws.{HasOwnEndings}
use Rattle.ck_base.specs.Runs.{Act, Goes, Puts, Reads, Ends}
use Rattle.ck_base.specs.World.{World}
use Rattle.c_tree.specs.declared.typed.Typed.{Typed}
use Rattle.obj_mem.specs.Values.{Value}
use Rattle.obj_mem.specs.declared.ending.Ending.{Ending}
use Rattle.obj_mem.specs.declared.ending.Ending.TheVariants as ending
use Rattle.cheri_c_sem.specs.Operations.{Operations}
use Rattle.mean_steps.specs.Parts.{Now, Came, On as Gives, Over}
use Rattle.mean_steps.specs.Machine.{no_world}
use Rattle.mean_steps.proofs.Steady.{IsOwn, own_turns}
use Rattle.tac_ir.specs.Effects.{Next, On, To, Pause, Back, Into}
use Rattle.tac_ir.specs.Meaning.{code_of, with_result, up_to}
use Rattle.tac_ir.specs.declared.code.LibOp.TheVariants as lib
use Rattle.tac_ir.specs.declared.code.Tac.{Tac}
use Rattle.tac_ir.specs.declared.code.TacFun.{TacFun}
use Rattle.tac_ir.specs.declared.code.TacInstr.{TacInstr}
use Rattle.tac_ir.specs.declared.code.TacInstr.TheVariants as instr
use Rattle.tac_steps.specs.Machine.{Caller, Moment, effect, code_at, kinds_at, spent, arrived, onward, place_of, paused}
use Rattle.tac_steps.specs.Machine.{entered, calls, returns_to, called_behind, returned_behind, leads, led, with_answer}
use Rattle.tac_steps.specs.Machine.{act_on, act_at, act, limits}
use Rattle.tac_steps.specs.Weights.{longest, acts_left}
use Rattle.tac_steps.proofs.Kept.{Stays, IsInside, kept_effect}

code_within : (fs : List TacFun) (f : ℕ) → length (code_of (slice_get fs f)) ≤ longest fs
code_within [] f = omega arith
code_within (g ∷ fs) zero = omega arith
code_within (g ∷ fs) (suc f) = let h = code_within fs f in omega arith

module _ {M : Type 0} (ops : Operations M) (t : Tac) (p : Typed) (objects : ℕ → List ℕ) where
  abbrev L : ℕ
  L = longest t.funs

  -- the next instruction is there
  abbrev IsThere : Moment M → Type 0
  IsThere m = m.at < length (code_at ops t objects m.fun)

  -- all that may follow has fewer acts left than these
  abbrev pub Falls : ℕ → Act (Moment M) Ending → Type 0
  Falls n (Goes m) = acts_left t m < n
  Falls n (Puts b m) = acts_left t m < n
  Falls n (Reads to) = (b : Option ℕ) → acts_left t (to b) < n
  Falls n (Ends e) = IsOwn e

  spent_fewer : (left at : ℕ) (m : Moment M) → IsThere m → m.now.left ≡ left →
      acts_left t (spent ops t objects left at m) < acts_left t m
  spent_fewer zero at m h e = let c = code_within t.funs m.fun in omega arith
  spent_fewer (suc j) at m h e =
      let q : m.now.left * (L + 1) ≡ j * (L + 1) + (L + 1) = rw e (omega arith) in omega arith

  arrived_fewer : (b : Bool) (at : ℕ) (m : Moment M) → IsThere m → m.at < at →
      acts_left t (arrived ops t objects b at m) < acts_left t m
  arrived_fewer false at m h more = let c = code_within t.funs m.fun in omega arith
  arrived_fewer true at m h more = spent_fewer m.now.left at m h refl

  onward_fewer : (m : Moment M) → IsThere m → acts_left t (onward ops t objects m) < acts_left t m
  onward_fewer m h = arrived_fewer m.turned (m.at + 1) m h (omega arith)

  jumped_by : (b : Bool) (m : Moment M) (l : ℕ) → IsThere m →
      acts_left t (arrived ops t objects b (place_of ops t objects b m.fun (m.at + 1) l) m) < acts_left t m
  jumped_by false m l h = arrived_fewer false (m.at + 1 + up_to l (drop (m.at + 1) (code_at ops t objects m.fun))) m h
      (omega arith)
  jumped_by true m l h = spent_fewer m.now.left (up_to l (code_at ops t objects m.fun)) m h refl

  paused_fewer : (b : Bool) (m : Moment M) → IsThere m → acts_left t (paused ops t objects b m) < acts_left t m
  paused_fewer false m h = let c = code_within t.funs m.fun in omega arith
  paused_fewer true m h = let c = code_within t.funs m.fun in omega arith

  entered_falls : (o : Option ℕ) (f : ℕ) (vs : List Value) (cs : List Caller) (n : Now M) (most : ℕ) →
      n.left * (L + 1) + L < most → Falls most (entered ops t objects o f vs cs n)
  entered_falls None f vs cs n most h = ((λ h. cc), (λ h. cc))
  entered_falls (Some address) f vs cs n most h = omega arith

  calls_falls : (left f : ℕ) (vs : List Value) (to : Option ℕ) (m : Moment M) → m.now.left ≡ left →
      Falls (acts_left t m) (calls ops t objects left f vs to m)
  calls_falls zero f vs to m e = own_turns
  calls_falls (suc j) f vs to m e =
      let q : m.now.left * (L + 1) ≡ j * (L + 1) + (L + 1) = rw e (omega arith) in
      entered_falls (ops.enter f m.now.frame) f vs _ (record m.now { left = j }) (acts_left t m) (omega arith)

  returns_falls : (cs : List Caller) (left : ℕ) (v : Value) (m : Moment M) → m.now.left ≡ left →
      Falls (acts_left t m) (returns_to ops t objects cs left v m)
  returns_falls [] left v m e = ((λ h. cc), (λ h. cc))
  returns_falls (c ∷ cs) zero v m e = own_turns
  returns_falls (c ∷ cs) (suc j) v m e =
      let q : m.now.left * (L + 1) ≡ j * (L + 1) + (L + 1) = rw e (omega arith) in omega arith

  called_falls : (b : Bool) (f : ℕ) (vs : List Value) (to : Option ℕ) (m : Moment M) →
      Falls (acts_left t m) (called_behind ops t objects b f vs to m)
  called_falls true f vs to m = own_turns
  called_falls false f vs to m = calls_falls m.now.left f vs to m refl

  returned_falls : (b : Bool) (v : Value) (m : Moment M) → Falls (acts_left t m) (returned_behind ops t objects b v m)
  returned_falls true v m = own_turns
  returned_falls false v m = returns_falls m.callers m.now.left v m refl

  leads_falls : (next : Next) (m : Moment M) → IsThere m → Falls (acts_left t m) (leads ops t objects next m)
  leads_falls On m h = onward_fewer m h
  leads_falls (To l) m h = jumped_by m.turned m l h
  leads_falls Pause m h = paused_fewer m.turned m h
  leads_falls (Back v) m h = returned_falls m.turned v m
  leads_falls (Into f vs to) m h = called_falls m.turned f vs to m

  led_falls : (m : Moment M) (r : Came M Next) → IsThere m → Stays m.now.left r →
      Falls (acts_left t m) (led ops t objects m r)
  led_falls m (Over e) h s = s
  led_falls m (Gives next n) h s =
      subst (λ left. Falls (left * (L + 1) + (L - m.at)) (leads ops t objects next (record m { now = n }))) s
      (leads_falls next (record m { now = n }) h)

  inside_falls : (m : Moment M) (i : TacInstr) (w : World) → IsThere m → IsInside ops w i →
      Falls (acts_left t m) (led ops t objects m (effect ops p (kinds_at ops t objects m.fun) i m.now))
  inside_falls m i w h q = led_falls m _ h ((kept_effect ops w p (kinds_at ops t objects m.fun) i q).stays m.now)

  answer_fewer : (to : Option ℕ) (v : Value) (m : Moment M) → IsThere m →
      acts_left t (with_answer ops t objects to v m) < acts_left t m
  answer_fewer to v m h = onward_fewer (record m { now = record m.now { vars = with_result m.now.vars to v } }) h

  on_falls : (m : Moment M) (i : TacInstr) → IsThere m → Falls (acts_left t m) (act_on ops t objects p i m)
  on_falls m (instr.Lib lib.PutChar to args) h = answer_fewer to _ m h
  on_falls m (instr.Lib lib.GetChar to args) h = λ byte. answer_fewer to _ m h
  on_falls m (instr.Lib lib.Malloc to args) h = inside_falls m (instr.Lib lib.Malloc to args) no_world h tt
  on_falls m (instr.Lib lib.Exit to args) h = inside_falls m (instr.Lib lib.Exit to args) no_world h tt
  on_falls m i h = inside_falls m i no_world h tt

  at_falls : (m : Moment M) (o : Option TacInstr) → slice_get (code_at ops t objects m.fun) m.at ≡ o →
      Falls (acts_left t m) (act_at ops t objects p o m)
  at_falls m None e = own_turns
  at_falls m (Some i) e = on_falls m i (slice_get_within (code_at ops t objects m.fun) m.at i e)

  pub falls : (m : Moment M) → Falls (acts_left t m) (act ops t objects p m)
  unfolding act
  falls m = at_falls m (slice_get (code_at ops t objects m.fun) m.at) refl

  -- ---- the acts of a run

  fewer_by : (n : ℕ) (a : Act (Moment M) Ending) (before after : Seen) (m m' : Moment M) → Falls n a →
      Acted limits a before after m m' None → acts_left t m' < n
  fewer_by n (Goes s) before after m m' h acted = subst (λ s. acts_left t s < n) (sym acted.1) h
  fewer_by n (Ends e) before after m m' h acted = absurd (let e : None ≡ Some e = acted.0 in cc)
  fewer_by n (Puts b s) before after m m' h (inl acted) = subst (λ s. acts_left t s < n) (sym acted.1) h
  fewer_by n (Puts b s) before after m m' h (inr acted) =
      absurd (let e : None ≡ Some limits.write_fault = acted.0 in cc)
  fewer_by n (Reads to) before after m m' h (inl acted) = subst (λ s. acts_left t s < n) (sym acted.2) (h acted.0)
  fewer_by n (Reads to) before after m m' h (inr acted) = absurd (let e : None ≡ Some limits.read_fault = acted.0 in cc)

  pub fewer : (before after : Seen) (m m' : Moment M) → Acted limits (act ops t objects p m) before after m m' None →
      acts_left t m' < acts_left t m
  fewer before after m m' acted = fewer_by (acts_left t m) (act ops t objects p m) before after m m' (falls m) acted

  same_end : (e f : Ending) → ◌≡◌ {A = Act (Moment M) Ending} (Ends e) (Ends f) → e ≡ f
  same_end e f h = cc

  own_by : (n : ℕ) (a : Act (Moment M) Ending) → Falls n a → (a ≢ Ends ending.ReadFault) × (a ≢ Ends ending.WriteFault)
  own_by n (Goes s) h = ((λ h. cc), (λ h. cc))
  own_by n (Puts b s) h = ((λ h. cc), (λ h. cc))
  own_by n (Reads to) h = ((λ h. cc), (λ h. cc))
  own_by n (Ends e) h = ((λ q. h.0 (same_end e ending.ReadFault q)), (λ q. h.1 (same_end e ending.WriteFault q)))

  pub own_endings : HasOwnEndings limits (act ops t objects p)
  own_endings = record {
    read = λ m. (own_by (acts_left t m) (act ops t objects p m) (falls m)).0;
    write = λ m. (own_by (acts_left t m) (act ops t objects p m) (falls m)).1;
    apart = λ h. cc;
    steps_read = λ h. cc;
    steps_write = λ h. cc;
  }
