-- Runs come to places in the code of functions, whose callers wait behind their calls.
use Rattle.std.proofs.Common.{◌≡◌, ℕ, Bool, true, false, List, [], ◌∷◌, ◌++◌, Option, Some, refl, sym, ap, ◌∙◌}
use Rattle.std.proofs.Common.{subst, if◌then◌else◌}
use Rattle.std.proofs.lemmas.List.{append_assoc}
use Rattle.ck_base.specs.World.{World}
use Rattle.cheri_c_sem.specs.Modes.{Store}
use Rattle.cheri_c_sem.specs.Steps.{State}
use Rattle.tac_ir.specs.Meaning.{Caller, Running, is_label}
use Rattle.std.proofs.lemmas.Bool.{and_parts}
use Rattle.tac_ir.specs.Effects.{On, To, Pause, Into}
use Rattle.tac_ir.specs.Temps.{behind, falls}
use Rattle.tac_ir.specs.WellFormed.{is_turn, turn_fits, turns_fit}
use Rattle.tac_ir.specs.declared.code.TacInstr.{TacInstr}
use Rattle.tac_ir.specs.declared.code.TacInstr.TheVariants as instr
use Rattle.select_whole.specs.Visited as visit
use Rattle.select_whole.specs.Visited.{Whole, Visited, looked_at, tac_at}
use Rattle.temp_homes.specs.Keeping.{Reaches, begins, onward, ahead, back}
use Rattle.image_runs.specs.Asked.{called_to}
use Rattle.image_runs.proofs.Leading.{leads_so}

-- the end of a function's code
pub record Ends (whole end : List TacInstr) : Type 0 where
  pub before : List TacInstr
  pub is : whole ≡ before ++ end

pub next : (whole : List TacInstr) (i : TacInstr) (rest : List TacInstr) → Ends whole (i ∷ rest) → Ends whole rest
next whole i rest e =
    record { before = e.before ++ i ∷ []; is = e.is ∙ sym (append_assoc e.before (i ∷ []) rest) }

pub past : (l : ℕ) (is : List TacInstr) → Ends is (behind l is)
past l [] = record { before = []; is = refl }
past l (i ∷ is) = by (is_label i l) (past l is)
  where
    by : (b : Bool) → Ends is (behind l is) → Ends (i ∷ is) (if b then is else behind l is)
    by true e = record { before = i ∷ []; is = refl }
    by false e = record { before = i ∷ e.before; is = ap (λ z. i ∷ z) e.is }

further : (whole is rest : List TacInstr) → Ends whole is → Ends is rest → Ends whole rest
further whole is rest a b =
    record {
      before = a.before ++ b.before;
      is = a.is ∙ ap (λ z. a.before ++ z) b.is ∙ sym (append_assoc a.before b.before rest);
    }

-- ---- Turns stand before jumps and branches back

label_turn : (i : TacInstr) (l : ℕ) → is_label i l ≡ true → is_turn i ≡ false
label_turn (instr.Label k) l h = refl
label_turn i l h = cc

call_turn : (i : TacInstr) (to : Option ℕ) → called_to i ≡ Some to → is_turn i ≡ false
call_turn (instr.Call to' fun args) to h = refl
call_turn (instr.CallValue to' v of args source) to h = refl
call_turn i to h = cc

call_falls : (i : TacInstr) (to : Option ℕ) → called_to i ≡ Some to → falls i ≡ true
call_falls (instr.Call to' fun args) to h = refl
call_falls (instr.CallValue to' v of args source) to h = refl
call_falls i to h = cc

-- control that looks back at a Turn comes to the instruction behind it
pub past_turn : (whole : List TacInstr) (b : Bool) (is : List TacInstr) → Reaches whole (looked_at b is)
    → Reaches whole is
past_turn whole true is h = onward refl h
past_turn whole false is h = h

rest_turned : (b v : Bool) (i : TacInstr) (is : List TacInstr) → turns_fit b (i ∷ is) ≡ true → is_turn i ≡ v
    → turns_fit v is ≡ true
rest_turned b v i is h e =
    subst (λ x. turns_fit x is ≡ true) e (and_parts (turn_fits b i is) (turns_fit (is_turn i) is) h).1

past_turned : (l : ℕ) (b : Bool) (is : List TacInstr) → turns_fit b is ≡ true → turns_fit false (behind l is) ≡ true
past_turned l b [] h = refl
past_turned l b (i ∷ is) h =
    by (is_label i l) refl (past_turned l (is_turn i) is (rest_turned b (is_turn i) i is h refl))
  where
    by : (v : Bool) → is_label i l ≡ v → turns_fit false (behind l is) ≡ true
        → turns_fit false (if v then is else behind l is) ≡ true
    by true e k = rest_turned b false i is h (label_turn i l e)
    by false e k = k

module _ (g : Whole) (w : World) (fits : (fun : ℕ) → turns_fit false (tac_at g fun) ≡ true) where
  -- a caller waits behind a call, for whose result it has this temp
  pub record WaitsBehind (c : Caller) : Type 0 where
    pub call : TacInstr
    pub ends : Ends (tac_at g c.fun) (call ∷ c.rest)
    pub to : called_to call ≡ Some c.to
    pub turned : turns_fit false c.rest ≡ true
    pub reached : Reaches (tac_at g c.fun) (call ∷ c.rest)

  abbrev pub AreBehind : List Caller → Type 0
  AreBehind [] = Unit {0}
  AreBehind (c ∷ cs) = WaitsBehind c × AreBehind cs

  pub record InCode (r : Running) (b : Bool) (is : List TacInstr) : Type 0 where
    pub own : Ends (tac_at g r.fun) is
    pub turned : turns_fit b is ≡ true
    pub reached : Reaches (tac_at g r.fun) (looked_at b is)
    pub callers : AreBehind r.callers

  pub in_code : (r : Running) (b : Bool) (is : List TacInstr) (t : State Store) → Visited g w r b is t → InCode r b is
  in_code r b is t (visit.begun address turns e) =
      record { own = record { before = []; is = refl }; turned = fits r.fun; reached = begins; callers = tt }
  in_code r b is t (visit.on {b = v} {i = i} {t = old} {u = new} at means) =
      let k = in_code _ _ _ _ at in
      let so = leads_so g w r.fun i old new On means in
      record {
        own = next (tac_at g r.fun) i is k.own;
        turned = rest_turned v false i is k.turned so.0;
        reached = onward so.1 (past_turn (tac_at g r.fun) v (i ∷ is) k.reached);
        callers = k.callers;
      }
  in_code r b is t (visit.ahead {i = i} {rest = rest} {t = old} {u = new} l at means) =
      let k = in_code _ _ _ _ at in
      let so = leads_so g w r.fun i old new (To l) means in
      record {
        own = further (tac_at g r.fun) rest is (next (tac_at g r.fun) i rest k.own) (past l rest);
        turned = past_turned l false rest (rest_turned false false i rest k.turned so.0);
        reached = ahead l so.1 k.reached;
        callers = k.callers;
      }
  in_code r b is t (visit.again {i = i} {t = old} {u = new} l at means) =
      let k = in_code _ _ _ _ at in
      record {
        own = past l (tac_at g r.fun);
        turned = past_turned l false (tac_at g r.fun) (fits r.fun);
        reached = back l (leads_so g w r.fun i old new (To l) means).1 k.reached;
        callers = k.callers;
      }
  in_code r b is t (visit.paused {i = i} {t = old} {u = new} at means) =
      let k = in_code _ _ _ _ at in
      let so = leads_so g w r.fun i old new Pause means in
      record {
        own = next (tac_at g r.fun) i is k.own;
        turned = rest_turned false true i is k.turned (ap is_turn so);
        reached = subst (λ j. Reaches (tac_at g r.fun) (j ∷ is)) so k.reached;
        callers = k.callers;
      }
  in_code r b is t (visit.called {r = q} {i = i} {rest = rest} {t = old} {u = new} fun vs to address at means e) =
      let k = in_code _ _ _ _ at in
      let called = leads_so g w q.fun i old new (Into fun vs to) means in
      record {
        own = record { before = []; is = refl };
        turned = fits fun;
        reached = begins;
        callers = (
          record {
            call = i;
            ends = k.own;
            to = called;
            turned = rest_turned false false i rest k.turned (call_turn i to called);
            reached = k.reached;
          },
          k.callers,
        );
      }
  in_code r b is t (visit.returned {c = c} value at means) =
      let k = in_code _ _ _ _ at in
      record {
        own = next (tac_at g c.fun) k.callers.0.call c.rest k.callers.0.ends;
        turned = k.callers.0.turned;
        reached = onward (call_falls k.callers.0.call c.to k.callers.0.to) k.callers.0.reached;
        callers = k.callers.1;
      }
  in_code r b is t (visit.turn left at) =
      let k = in_code _ _ _ _ at in record { own = k.own; turned = k.turned; reached = k.reached; callers = k.callers }
