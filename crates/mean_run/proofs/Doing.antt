-- What follows a part whose outcome is known.
use Rattle.std.proofs.Common.{◌≡◌, inl, inr, Bool, true, false, Result, Ok, Err, ap, sym, ◌∙◌}
use Rattle.std.specs.Prelude.{map, if◌then◌else◌}
use Rattle.ck_base.specs.Runs.{Act, Ends}
use Rattle.ck_base.specs.declared.positions.Pos.{Pos}
use Rattle.obj_mem.specs.declared.ending.Ending.{Ending}
use Rattle.obj_mem.specs.declared.ending.Fault.{Fault}
use Rattle.obj_mem.specs.Values.{Value, value_of}
use Rattle.cheri_c_sem.specs.Kinds.{Kind}
use Rattle.cheri_c_sem.specs.Meaning.{first_of}
use Rattle.cheri_c_sem.specs.Modes.{Store}
use Rattle.cheri_c_sem.specs.Operations.{Operations, is_true}
use Rattle.cheri_c_sem.specs.Steps.{fault_end}
use Rattle.mean_steps.specs.Machine.{Moment, behind, done_in}
use Rattle.mean_steps.specs.Parts.{Now, Came, On, Over, answer, test}
use Rattle.mean_run.specs.declared.branches.Next.{Next}
use Rattle.mean_run.specs.declared.state.State.{State}
use Rattle.mean_work.specs.declared.work.Stop.{Stop}
use Rattle.mean_work.specs.declared.work.Stop.TheVariants as stop
use Rattle.mean_run.specs.Branches.{Branched, after}
use Rattle.mean_run.specs.Parts.{Unless_wanting}
use Rattle.mean_run.specs.Views.{now_of}

module _ {A : Type 0} (m : Moment Store) (k : A → Moment Store → Act (Moment Store) Ending) where
  pub on : (c : Came Store A) (x : A) (n : Now Store) → c ≡ On x n → done_in m k c ≡ k x (record m { now = n })
  on c x n e = ap (done_in m k) e

  pub over : (c : Came Store A) (e : Ending) → c ≡ Over e → done_in m k c ≡ Ends e
  over c e h = ap (done_in m k) h

  -- an answer at a position
  pub ok : (pos : Pos) (r : Result A Fault) (n : Now Store) (x : A) → r ≡ Ok x →
      done_in m k (answer pos r n) ≡ k x (record m { now = n })
  ok pos r n x e = ap (λ s. done_in m k (answer pos s n)) e

  pub err : (pos : Pos) (r : Result A Fault) (n : Now Store) (f : Fault) (e : Ending) → r ≡ Err f →
      e ≡ fault_end f pos →
      done_in m k (answer pos r n) ≡ Ends e
  err pos r n f e h g = rw g (ap (λ s. done_in m k (answer pos s n)) h)

-- ---- tests

-- the truth of the value on top, as the code found it
module _ (ops : Operations Store) (held : Store) (old : State) (pos : Pos) (j k : Kind) (v : Value) (is_kind : j ≡ k)
    (is_top : v ≡ first_of (map value_of old.values)) where
  abbrev tested : Came Store Bool
  tested = test ops pos k (first_of (map value_of old.values)) (now_of old held)

  truth_is : is_true ops held j v ≡ is_true ops held k (first_of (map value_of old.values))
  truth_is = ap (λ x. is_true ops held x v) is_kind ∙ ap (is_true ops held k) is_top

  pub tested_on : (b : Bool) → Ok b ≡ is_true ops held j v → tested ≡ On b (now_of old held)
  tested_on b h = ap (λ r. answer pos r (now_of old held)) (sym (h ∙ truth_is))

  pub tested_over : (f : Fault) (e : Ending) → Err f ≡ is_true ops held j v → e ≡ fault_end f pos → tested ≡ Over e
  tested_over f e h g = ap (λ r. answer pos r (now_of old held)) (sym (h ∙ truth_is)) ∙ ap Over (sym g)

module _ (c : Came Store Bool) (n : Now Store) (first second : Next) (old s new : State) where
  -- one thing was done or the other
  pub went_by : (b : Bool) (r : Result (Unit {0}) Stop) → c ≡ On b n → s ≡ record old { values = behind old.values } →
      Unless_wanting r (new ≡ after (if b then first else second) s) → Branched c n first second old new r
  went_by true (Ok u) e q h = inl (e, h ∙ ap (after first) q)
  went_by false (Ok u) e q h = inr (e, h ∙ ap (after second) q)
  went_by b (Err stop.NoMemory) e q h = tt
  went_by b (Err (stop.Ended x)) e q h = absurd h
