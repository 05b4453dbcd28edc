-- A jump goes over the work that is left as the machine does.
use Rattle.std.proofs.Common.{◌≡◌, ℕ, Bool, List, [], ◌∷◌, refl, sym, ap, subst, ◌∙◌}
use Rattle.std.specs.Prelude.{map, slice_get}
use Rattle.ck_base.specs.Runs.{Act, Goes}
use Rattle.c_tree.specs.declared.typed.Typed.{Typed}
use Rattle.obj_mem.specs.declared.ending.Ending.{Ending}
use Rattle.obj_mem.specs.Values.{Value}
use Rattle.cheri_c_sem.specs.Modes.{Store}
use Rattle.cheri_c_sem.specs.Operations.{Operations}
use Rattle.cheri_c_sem.specs.Programs.{stmt_tree}
use Rattle.cheri_c_sem.specs.Statements as flow
use Rattle.cheri_c_sem.specs.Tree.{Declared, Fun}
use Rattle.mean_steps.specs.Machine.{Loop, Item, Again, Switch_end, Leave, Leave_function, Moment, closed, jumped}
use Rattle.mean_steps.specs.Machine.{done_in}
use Rattle.mean_steps.specs.Parts.{Now, On, leave}
use Rattle.mean_run.specs.declared.blocks.Met.{Met}
use Rattle.mean_run.specs.declared.blocks.Met.TheVariants as met
use Rattle.mean_run.specs.declared.state.State.{State}
use Rattle.mean_work.specs.declared.work.Work.{Work}
use Rattle.mean_work.specs.declared.work.Work.TheVariants as work
use Rattle.mean_run.specs.Jumps.{met_of}
use Rattle.mean_run.specs.Views.{vars_at, caller_of, item_of, declared_of, fun_of, funs_of, moment_of, now_of}

-- an item over which each jump goes
abbrev IsPassed : Item → Type 0
IsPassed i = (ops : Operations Store) (funs : List Fun) (is : List Item) (m : Moment Store) →
    (jumped ops funs flow.Breaks (i ∷ is) m ≡ jumped ops funs flow.Breaks is m) ×
    (jumped ops funs flow.Continues (i ∷ is) m ≡ jumped ops funs flow.Continues is m) ×
    ((v : Value) → jumped ops funs (flow.Returns v) (i ∷ is) m ≡ jumped ops funs (flow.Returns v) is m)

abbrev IsMet : Typed → Work → Met → Type 0
IsMet p w (met.Block f k) = item_of p w ≡ Leave (declared_of (stmt_tree p (vars_at p f) k))
IsMet p w met.Loop = (l : Loop) × (item_of p w ≡ Again l)
IsMet p w met.Switch = item_of p w ≡ Switch_end
IsMet p w (met.Function g first) = item_of p w ≡ Leave_function first (fun_of p g (slice_get p.funs g))
IsMet p w met.Other = IsPassed (item_of p w)

met_is : (p : Typed) (w : Work) → IsMet p w (met_of w)
met_is p (work.Leave f k) = refl
met_is p (work.Again f k) = (_, refl)
met_is p work.SwitchEnd = refl
met_is p (work.Return g first) = refl
met_is p (work.Value f k) = λ ops funs is m. (refl, refl, λ v. refl)
met_is p (work.Place f k) = λ ops funs is m. (refl, refl, λ v. refl)
met_is p work.One = λ ops funs is m. (refl, refl, λ v. refl)
met_is p work.Drop = λ ops funs is m. (refl, refl, λ v. refl)
met_is p (work.Finish f k) = λ ops funs is m. (refl, refl, λ v. refl)
met_is p (work.FinishPlace f k) = λ ops funs is m. (refl, refl, λ v. refl)
met_is p (work.Choose f k) = λ ops funs is m. (refl, refl, λ v. refl)
met_is p (work.ChoosePlace f k) = λ ops funs is m. (refl, refl, λ v. refl)
met_is p (work.Decide f k) = λ ops funs is m. (refl, refl, λ v. refl)
met_is p (work.Begin f) = λ ops funs is m. (refl, refl, λ v. refl)
met_is p (work.Statement f k) = λ ops funs is m. (refl, refl, λ v. refl)
met_is p work.Nothing = λ ops funs is m. (refl, refl, λ v. refl)
met_is p (work.Rest f k n) = λ ops funs is m. (refl, refl, λ v. refl)
met_is p (work.Initialize f k) = λ ops funs is m. (refl, refl, λ v. refl)
met_is p (work.Branch f k) = λ ops funs is m. (refl, refl, λ v. refl)
met_is p (work.Test f k) = λ ops funs is m. (refl, refl, λ v. refl)
met_is p (work.Tested f k) = λ ops funs is m. (refl, refl, λ v. refl)
met_is p (work.Turn f k) = λ ops funs is m. (refl, refl, λ v. refl)
met_is p (work.Switch f k) = λ ops funs is m. (refl, refl, λ v. refl)
met_is p work.Give = λ ops funs is m. (refl, refl, λ v. refl)

met_by : (p : Typed) (w : Work) (k : Met) → k ≡ met_of w → IsMet p w k
met_by p w k h = subst (IsMet p w) (sym h) (met_is p w)

-- a jump
abbrev Jump : flow.Flow → Type 0
Jump flow.Goes = ⊥
Jump flow.Breaks = Unit {0}
Jump flow.Continues = Unit {0}
Jump (flow.Returns v) = Unit {0}

module _ (ops : Operations Store) (funs : List Fun) (is : List Item) (m : Moment Store) where
  left_block : (fl : flow.Flow) → Jump fl → (ds : List Declared) (n : Now Store) → leave ops ds m.now ≡ On tt n →
      jumped ops funs fl (Leave ds ∷ is) m ≡ jumped ops funs fl is (record m { now = n })
  left_block flow.Goes j ds n e = absurd j
  left_block flow.Breaks j ds n e = ap (done_in m (λ _ t. jumped ops funs flow.Breaks is t)) e
  left_block flow.Continues j ds n e = ap (done_in m (λ _ t. jumped ops funs flow.Continues is t)) e
  left_block (flow.Returns v) j ds n e = ap (done_in m (λ _ t. jumped ops funs (flow.Returns v) is t)) e

  passed_over : (fl : flow.Flow) → Jump fl → (i : Item) → IsPassed i →
      jumped ops funs fl (i ∷ is) m ≡ jumped ops funs fl is m
  passed_over flow.Goes j i h = absurd j
  passed_over flow.Breaks j i h = (h ops funs is m).0
  passed_over flow.Continues j i h = (h ops funs is m).1
  passed_over (flow.Returns v) j i h = (h ops funs is m).2 v

-- ---- the state of a jump: what was there at first, and what is left

module _ (ops : Operations Store) (p : Typed) (ws : List Work) where
  -- a state, with the work that there was at first
  abbrev pub before : State → Store → Moment Store
  before s held = record (moment_of p s held) { work = map (item_of p) ws }

  abbrev pub jumps : flow.Flow → State → Store → Act (Moment Store) Ending
  jumps fl s held = jumped ops (funs_of p) fl (map (item_of p) s.work) (before s held)

  module _ (s t : State) (held : Store) (w : Work) (popped : s.work ≡ w ∷ t.work)
      (same : t ≡ record s { work = t.work }) where
    top : (fl : flow.Flow) → jumps fl s held
        ≡ jumped ops (funs_of p) fl (item_of p w ∷ map (item_of p) t.work) (before t held)
    top fl = rw (popped, same) refl

    pub block_left : (fl : flow.Flow) → Jump fl → (left : Store) (f k : ℕ) → met.Block f k ≡ met_of w →
        leave ops (declared_of (stmt_tree p (vars_at p f) k)) (now_of t held) ≡ On tt (now_of t left) →
        jumps fl s held ≡ jumps fl t left
    block_left fl j left f k h e =
        top fl ∙ (ap (λ i. jumped ops (funs_of p) fl (i ∷ map (item_of p) t.work) (before t held))
        (met_by p w (met.Block f k) h)
        ∙ left_block ops (funs_of p) (map (item_of p) t.work) (before t held) fl j _ (now_of t left) e)

    pub other_passed : (fl : flow.Flow) → Jump fl → met.Other ≡ met_of w → jumps fl s held ≡ jumps fl t held
    other_passed fl j h =
        top fl ∙ passed_over ops (funs_of p) (map (item_of p) t.work) (before t held) fl j _ (met_by p w met.Other h)

    pub loop_breaks : met.Loop ≡ met_of w → jumps flow.Breaks s held ≡ Goes (moment_of p t held)
    loop_breaks h = let (l, e) = met_by p w met.Loop h in top flow.Breaks ∙ rw e refl

    pub switch_breaks : met.Switch ≡ met_of w → jumps flow.Breaks s held ≡ Goes (moment_of p t held)
    switch_breaks h = top flow.Breaks ∙ rw (met_by p w met.Switch h) refl

    pub switch_goes_on : met.Switch ≡ met_of w → jumps flow.Continues s held ≡ jumps flow.Continues t held
    switch_goes_on h = top flow.Continues ∙ rw (met_by p w met.Switch h) refl

    pub function_breaks : (g : ℕ) (first : Bool) → met.Function g first ≡ met_of w →
        jumps flow.Breaks s held ≡ Goes (moment_of p (record t { work = w ∷ t.work }) held)
    function_breaks g first h = top flow.Breaks ∙ rw (met_by p w (met.Function g first) h) refl

    pub loop_goes_on : met.Loop ≡ met_of w →
        jumps flow.Continues s held ≡ Goes (moment_of p (record t { work = w ∷ t.work }) held)
    loop_goes_on h = let (l, e) = met_by p w met.Loop h in top flow.Continues ∙ rw e refl

    pub function_goes_on : (g : ℕ) (first : Bool) → met.Function g first ≡ met_of w →
        jumps flow.Continues s held ≡ Goes (moment_of p (record t { work = w ∷ t.work }) held)
    function_goes_on g first h = top flow.Continues ∙ rw (met_by p w (met.Function g first) h) refl

    pub loop_returned : (v : Value) → met.Loop ≡ met_of w →
        jumps (flow.Returns v) s held ≡ jumps (flow.Returns v) t held
    loop_returned v h = let (l, e) = met_by p w met.Loop h in top (flow.Returns v) ∙ rw e refl

    pub switch_returned : (v : Value) → met.Switch ≡ met_of w →
        jumps (flow.Returns v) s held ≡ jumps (flow.Returns v) t held
    switch_returned v h = top (flow.Returns v) ∙ rw (met_by p w met.Switch h) refl

    pub function_returned : (v : Value) (g : ℕ) (first : Bool) → met.Function g first ≡ met_of w →
        jumps (flow.Returns v) s held
        ≡ closed ops (funs_of p) first (fun_of p g (slice_get p.funs g)) v (map caller_of t.callers)
        (moment_of p t held)
    function_returned v g first h = top (flow.Returns v) ∙ rw (met_by p w (met.Function g first) h) refl

  pub all_returned : (v : Value) (s t : State) (held : Store) → s.work ≡ [] → t ≡ record s { work = [] } →
      jumps (flow.Returns v) s held ≡ Goes (moment_of p t held)
  all_returned v s t held e h = rw (e, h) refl

  -- no work is left
  pub all_broken : (s t : State) (held : Store) → s.work ≡ [] → t ≡ record s { work = [] } →
      jumps flow.Breaks s held ≡ Goes (moment_of p t held)
  all_broken s t held e h = rw (e, h) refl

  pub all_gone : (s t : State) (held : Store) → s.work ≡ [] → t ≡ record s { work = [] } →
      jumps flow.Continues s held ≡ Goes (moment_of p t held)
  all_gone s t held e h = rw (e, h) refl
