-- What stands behind a return, where no label stands among it, may be left out.
use Rattle.std.proofs.Common.{◌≡◌, ℕ, zero, suc, List, [], ◌∷◌, ◌++◌, Option, Some, None, refl, ap, ◌∙◌}
use Rattle.std.proofs.Math.Path.{fun_ext}
use Rattle.std.specs.Prelude.{slice_get}
use Rattle.ck_base.specs.World.{World}
use Rattle.c_tree.specs.declared.typed.Typed.{Typed}
use Rattle.obj_mem.specs.Values.{Value}
use Rattle.obj_mem.specs.declared.ending.Ending.TheVariants as ending
use Rattle.cheri_c_sem.specs.Kinds.{nothing}
use Rattle.cheri_c_sem.specs.Modes.{Store, operations, placed_plan}
use Rattle.cheri_c_sem.specs.Operations.{Operations}
use Rattle.cheri_c_sem.specs.Programs.{program_tree}
use Rattle.cheri_c_sem.specs.Steps.{State, Fate, outcome_of, over}
use Rattle.cheri_c_sem.specs.Tree.{Program}
use Rattle.tac_ir.specs.Effects.{Next, On, To, Pause, Back, Into, effect, temp_in}
use Rattle.tac_ir.specs.Meaning.{Caller, Running, Going, Runs, Seeks, Turned, Sinks, Again, code_of, kinds_of, name_of}
use Rattle.tac_ir.specs.Meaning.{back, behind_turn, code_at, enters, entry_temps, fate, first_entry, first_state}
use Rattle.tac_ir.specs.Meaning.{follow, in_frame, is_label, objects_in, pass, seek, turned, turns}
use Rattle.tac_ir.specs.declared.code.Tac.{Tac}
use Rattle.tac_ir.specs.declared.code.TacFun.{TacFun}
use Rattle.tac_ir.specs.declared.code.TacInstr.{TacInstr}
use Rattle.tac_ir.specs.declared.code.TacInstr.TheVariants as instr
use Rattle.lower_runs.specs.Shortened.{AreNeedless, IsShort, IsShortFun, AreShort, ShortCodeRuns}
use Rattle.lower_runs.specs.Shortened as short

-- ---- lists, from any place on

data IsCut : List TacInstr → List TacInstr → Type 0 where
  end : IsCut [] []
  left : {v : Option ℕ} {is : List TacInstr} → AreNeedless is → IsCut (instr.Return v ∷ []) (instr.Return v ∷ is)
  next : {i : TacInstr} {is js : List TacInstr} → IsCut is js → IsCut (i ∷ is) (i ∷ js)

cut_same : (is : List TacInstr) → IsCut is is
cut_same [] = end
cut_same (i ∷ is) = next (cut_same is)

cut_left : (front is : List TacInstr) (v : Option ℕ) → AreNeedless is →
    IsCut (front ++ instr.Return v ∷ []) (front ++ instr.Return v ∷ is)
cut_left [] is v h = left h
cut_left (i ∷ front) is v h = next (cut_left front is v h)

cut_of : (is js : List TacInstr) → IsShort is js → IsCut is js
cut_of is js short.same = cut_same is
cut_of is js (short.left front ks v h) = cut_left front ks v h

-- ---- functions

fun_cut : (fs gs : List TacFun) → AreShort fs gs → (n : ℕ) →
    IsCut (code_of (slice_get fs n)) (code_of (slice_get gs n))
fun_cut [] [] h n = end
fun_cut [] (g ∷ gs) h n = absurd h
fun_cut (f ∷ fs) [] h n = absurd h
fun_cut (f ∷ fs) (g ∷ gs) h zero = cut_of f.code g.code h.0.code
fun_cut (f ∷ fs) (g ∷ gs) h (suc n) = fun_cut fs gs h.1 n

fun_same : (fs gs : List TacFun) → AreShort fs gs → (n : ℕ) →
    (kinds_of (slice_get fs n) ≡ kinds_of (slice_get gs n)) × (name_of (slice_get fs n) ≡ name_of (slice_get gs n))
fun_same [] [] h n = (refl, refl)
fun_same [] (g ∷ gs) h n = absurd h
fun_same (f ∷ fs) [] h n = absurd h
fun_same (f ∷ fs) (g ∷ gs) h zero = (h.0.kinds, h.0.name)
fun_same (f ∷ fs) (g ∷ gs) h (suc n) = fun_same fs gs h.1 n

-- ---- runs

-- callers that go on alike
data AreAlike : List Caller → List Caller → Type 0 where
  none : AreAlike [] []
  more : {c : Caller} {is : List TacInstr} {cs ds : List Caller} → IsCut c.rest is → AreAlike cs ds →
      AreAlike (c ∷ cs) (record c { rest = is } ∷ ds)

module _ (ops : Operations Store) (w : World) (p : Typed) (objects : ℕ → List ℕ) (t u : Tac)
    (h : AreShort t.funs u.funs) where
  abbrev GoAlike : Again ops w t p objects → Again ops w u p objects → Type 0
  GoAlike a b = (is js : List TacInstr) → IsCut is js → (cs ds : List Caller) → AreAlike cs ds →
      (g : Going) (f : ℕ) (s : State Store) →
      a is g (record { fun = f; callers = cs }) s ≡ b js g (record { fun = f; callers = ds }) s

  effects_alike : (i : TacInstr) (f : ℕ) (s : State Store) (k l : Next → State Store → Fate) →
      ((n : Next) (z : State Store) → k n z ≡ l n z) → effect ops w p (kinds_of (slice_get t.funs f)) i s k
      ≡ effect ops w p (kinds_of (slice_get u.funs f)) i s l
  effects_alike i f s k l e =
      ap (λ z. effect ops w p z i s k) (fun_same t.funs u.funs h f).0
      ∙ ap (effect ops w p (kinds_of (slice_get u.funs f)) i s) (fun_ext (λ n. fun_ext (λ z. e n z)))

  module _ (a : Again ops w t p objects) (b : Again ops w u p objects) (alike : GoAlike a b) where
    -- a label is not found in what was left out
    not_found : (is : List TacInstr) → AreNeedless is → (l : ℕ) (r : Running) (s : State Store) →
        over ending.Turns s ≡ pass ops w u p objects b is (Seeks l) r s
    not_found [] e l r s = refl
    not_found (instr.Label k ∷ is) e l r s = absurd e
    not_found (instr.Zero v ∷ is) e l r s = absurd e
    not_found (i ∷ is) e l r s = not_found is e l r s

    backs_alike : (v : Value) (f : ℕ) (cs ds : List Caller) → AreAlike cs ds → (s : State Store) →
        back ops w t p objects a v f cs s ≡ back ops w u p objects b v f ds s
    backs_alike v f [] [] none s = refl
    backs_alike v f [] (d ∷ ds) e s = elim e [ ]
    backs_alike v f (c ∷ cs) ds (more e more_alike) s = alike c.rest _ e cs _ more_alike Runs c.fun _

    enters_alike : (o : Option ℕ) (f : ℕ) (vs : List Value) (cs ds : List Caller) → AreAlike cs ds →
        (s : State Store) → enters ops w t p objects a o f vs (record { fun = f; callers = cs }) s
        ≡ enters ops w u p objects b o f vs (record { fun = f; callers = ds }) s
    enters_alike None f vs cs ds e s = alike [] [] end cs ds e (Sinks f) f s
    enters_alike (Some address) f vs cs ds e s =
        alike _ _ (fun_cut t.funs u.funs h f) cs ds e Runs f (in_frame ops w t p objects address f vs s)
        ∙ ap (λ ks. b (code_at ops w u p objects f) Runs (record { fun = f; callers = ds })
        (record (in_frame ops w t p objects address f vs s) { vars = entry_temps ks vs }))
        (fun_same t.funs u.funs h f).0

    turned_alike : (is js : List TacInstr) → IsCut is js → (cs ds : List Caller) → AreAlike cs ds → (f : ℕ)
        (n : Next) (s : State Store) →
        turned ops w t p objects a is (record { fun = f; callers = cs }) n s
        ≡ turned ops w u p objects b js (record { fun = f; callers = ds }) n s
    turned_alike is js e cs ds d f On s = alike is js e cs ds d Runs f s
    turned_alike is js e cs ds d f (To l) s = alike _ _ (fun_cut t.funs u.funs h f) cs ds d (Seeks l) f s
    turned_alike is js e cs ds d f Pause s = refl
    turned_alike is js e cs ds d f (Back v) s = refl
    turned_alike is js e cs ds d f (Into o vs to) s = refl

    follows_alike : (is js : List TacInstr) → IsCut is js → (cs ds : List Caller) → AreAlike cs ds → (f : ℕ)
        → ((g : Going) (s : State Store) → pass ops w t p objects a is g (record { fun = f; callers = cs }) s
        ≡ pass ops w u p objects b js g (record { fun = f; callers = ds }) s)
        → (n : Next) (s : State Store) →
        follow ops w t p objects a (pass ops w t p objects a is) is (record { fun = f; callers = cs }) n s
        ≡ follow ops w u p objects b (pass ops w u p objects b js) js (record { fun = f; callers = ds }) n s
    follows_alike is js e cs ds d f go On s = go Runs s
    follows_alike is js e cs ds d f go (To l) s = go (Seeks l) s
    follows_alike is js e cs ds d f go Pause s = go Turned s
    follows_alike is js e cs ds d f go (Back v) s = backs_alike v f cs ds d s
    follows_alike is js e cs ds d f go (Into o vs to) s = enters_alike (ops.enter o s.frame) o vs _ _ (more e d) s

    passes_alike : GoAlike (pass ops w t p objects a) (pass ops w u p objects b)
    passes_alike is js e cs ds d (Sinks f) g s = ap (λ z. over (ending.Stack z) s) (fun_same t.funs u.funs h f).1
    passes_alike [] [] end cs ds d Runs f s = refl
    passes_alike [] [] end cs ds d (Seeks l) f s = refl
    passes_alike [] [] end cs ds d Turned f s = refl
    passes_alike is js (left {v = None} e) cs ds d Runs f s = backs_alike nothing f cs ds d s
    passes_alike is js (left {v = Some v} e) cs ds d Runs f s = backs_alike (temp_in s v) f cs ds d s
    passes_alike is js (left {v = v} {is = ks} e) cs ds d (Seeks l) f s = not_found ks e l _ s
    passes_alike is js (left {v = None} e) cs ds d Turned f s = refl
    passes_alike is js (left {v = Some v} e) cs ds d Turned f s = refl
    passes_alike is js (next {i = i} {is = ks} {js = ls} e) cs ds d (Seeks l) f s =
        passes_alike ks ls e cs ds d (seek (is_label i l) l) f s
    passes_alike is js (next {i = i} {is = ks} {js = ls} e) cs ds d Turned f s =
        effects_alike i f s (turned ops w t p objects a ks (record { fun = f; callers = cs }))
        (turned ops w u p objects b ls (record { fun = f; callers = ds })) (turned_alike ks ls e cs ds d f)
    passes_alike is js (next {i = i} {is = ks} {js = ls} e) cs ds d Runs f s =
        effects_alike i f s
        (follow ops w t p objects a (pass ops w t p objects a ks) ks (record { fun = f; callers = cs }))
        (follow ops w u p objects b (pass ops w u p objects b ls) ls (record { fun = f; callers = ds }))
        (follows_alike ks ls e cs ds d f (λ y v. passes_alike ks ls e cs ds d y f v))

  behind_alike : (m : ℕ) → GoAlike (behind_turn ops w t p objects m) (behind_turn ops w u p objects m)
  behind_alike zero is js e cs ds d g f s = refl
  behind_alike (suc m) is js e cs ds d g f s =
      passes_alike (behind_turn ops w t p objects m) (behind_turn ops w u p objects m)
      (behind_alike m) is js e cs ds d g f
      (record s { left = m })

  fates_alike : (program : Program) (m : ℕ) →
      fate ops w t p objects program m ≡ fate ops w u p objects program m
  unfolding fate
  fates_alike program m = by (ops.enter program.main ops.stack_top)
    where
      s : State Store
      s = first_state ops w t p objects program m

      f : ℕ
      f = program.main

      by : (o : Option ℕ) → first_entry ops w t p objects m o f s ≡ first_entry ops w u p objects m o f s
      by None = ap (λ z. over (ending.Stack z) s) (fun_same t.funs u.funs h f).1
      by (Some address) = passes_alike (behind_turn ops w t p objects m) (behind_turn ops w u p objects m)
          (behind_alike m) _ _ (fun_cut t.funs u.funs h f) [] [] none Runs f _
          ∙ ap (λ ks. turns ops w u p objects m (code_at ops w u p objects f) Runs (record { fun = f; callers = [] })
          (record (in_frame ops w t p objects address f [] s) { vars = entry_temps ks [] }))
          (fun_same t.funs u.funs h f).0

pub short_code_runs : ShortCodeRuns
short_code_runs t u h p m w n =
    ap (outcome_of w) (fates_alike (operations (placed_plan m)) w p (objects_in (program_tree p)) t u h
    (program_tree p) n)
