-- Functions run as their calls mean.
use Rattle.std.proofs.Common.{◌≡◌, ℕ, zero, suc, ◌+◌, ◌≤◌, List, [], ◌∷◌, ◌++◌, length, map, Option, Some, None}
use Rattle.std.proofs.Common.{replicate, refl, sym, ap, subst, ◌∙◌, arith}
use Rattle.std.specs.Prelude.{slice_get, drop}
use Rattle.std.proofs.lemmas.List.{length-map}
use Rattle.ck_base.specs.declared.positions.Pos.{Pos}
use Rattle.obj_mem.specs.Values.{Value}
use Rattle.obj_mem.specs.declared.ending.Ending.TheVariants as ending
use Rattle.cheri_c_sem.specs.Calls.{add_locals, frame, pass}
use Rattle.cheri_c_sem.specs.Calls as calls
use Rattle.cheri_c_sem.specs.Kinds.{zero_of}
use Rattle.cheri_c_sem.specs.Modes.{Store}
use Rattle.cheri_c_sem.specs.Statements.{exec}
use Rattle.cheri_c_sem.specs.Steps.{State, ◌>>=◌, ◌>>◌, give, over}
use Rattle.cheri_c_sem.specs.Tree.{Parameter}
use Rattle.tac_ir.specs.Effects.{kind_of}
use Rattle.tac_ir.specs.Meaning.{Running, Runs, turns, entry_temps, kinds_of}
use Rattle.tac_ir.specs.Temps.{behind}
use Rattle.tac_ir.specs.declared.code.TacInstr.{TacInstr}
use Rattle.tac_ir.specs.declared.code.TacKind.{TacKind}
use Rattle.lower_runs.specs.States.{Scene, IsScene, Agrees, or_zero}
use Rattle.lower_runs.specs.Operating.{Code}
use Rattle.lower_runs.specs.Statements.{Exits}
use Rattle.lower_runs.specs.Simulation.{goes}
use Rattle.lower_runs.specs.Calling.{AreOf, entered, CallsRun}
use Rattle.lower_runs.specs.Functions.{AreTaken, AreFrom, FunctionsRun, HasEndTemp, behind_body, end_code}
use Rattle.lower_runs.specs.Functions as taken
use Rattle.lower_runs.proofs.Agreement.{onward_then}
use Rattle.lower_runs.proofs.Bodies.{statements_are_run}
use Rattle.lower_runs.proofs.Ends.{functions_end}
use Rattle.lower_runs.proofs.Entries.{arguments_taken}

-- ---- the temps at the entry

abbrev zero_temp : TacKind → Option Value
zero_temp k = Some (zero_of (kind_of k))

as_many : (ks : List TacKind) (vs : List Value) → AreOf ks vs → length vs ≡ length ks
as_many [] [] h = refl
as_many [] (v ∷ vs) h = absurd h
as_many (k ∷ ks) [] h = absurd h
as_many (k ∷ ks) (v ∷ vs) h = ap suc (as_many ks vs h.1)

entry_room : (ks : List TacKind) (vs : List Value) → length vs ≤ length ks → length (entry_temps ks vs) ≡ length ks
entry_room ks [] le = length-map ks zero_temp
entry_room [] (v ∷ vs) le = absurd (omega arith)
entry_room (k ∷ ks) (v ∷ vs) le = ap suc (entry_room ks vs (omega arith))

some_kind : (j k : TacKind) → Some j ≡ Some k → j ≡ k
some_kind j k e = cc

entry_zero : (ks : List TacKind) (vs : List Value) (i : ℕ) (k : TacKind) → length vs ≤ i → slice_get ks i ≡ Some k →
    slice_get (entry_temps ks vs) i ≡ Some (zero_temp k)
entry_zero [] [] i k le e = absurd cc
entry_zero (j ∷ ks) [] zero k le e = ap (λ z. Some (zero_temp z)) (some_kind j k e)
entry_zero (j ∷ ks) [] (suc i) k le e = entry_zero ks [] i k (omega arith) e
entry_zero [] (v ∷ vs) i k le e = absurd cc
entry_zero (j ∷ ks) (v ∷ vs) zero k le e = absurd (omega arith)
entry_zero (j ∷ ks) (v ∷ vs) (suc i) k le e = entry_zero ks vs i k (omega arith) e

all_from : (vs : List Value) (rest xs : List (Option Value)) (i : ℕ) →
    ((j : ℕ) → slice_get xs (i + j) ≡ slice_get (map Some vs ++ rest) j) → AreFrom i vs xs
all_from [] rest xs i h = tt
all_from (v ∷ vs) rest xs i h = (
  subst (λ z. slice_get xs z ≡ Some (Some v)) (none i) (h 0),
  all_from vs rest xs (i + 1) (λ j. subst (λ z. slice_get xs z ≡ slice_get (map Some vs ++ rest) j) (next i j)
      (h (suc j))),
)
  where
    none : (i : ℕ) → i + 0 ≡ i
    none i = omega arith

    next : (i j : ℕ) → i + suc j ≡ i + 1 + j
    next i j = omega arith

-- ---- the variables at the entry

abbrev unset : ℕ → List (Option Value)
unset n = replicate n None

unset_room : (n : ℕ) → length (unset n) ≡ n
unset_room zero = refl
unset_room (suc n) = ap suc (unset_room n)

some_none : (o : Option Value) → Some None ≡ Some o → o ≡ None
some_none o e = cc

unset_none : (n x : ℕ) (o : Option Value) → slice_get (unset n) x ≡ Some o → o ≡ None
unset_none zero x o e = absurd cc
unset_none (suc n) zero o e = some_none o e
unset_none (suc n) (suc x) o e = unset_none n x o e

not_set : (v : Value) → Some v ≡ None → ⊥
not_set v e = cc

-- ---- the parameters

module _ (q : Pos) where
  taken_scene : (g h : Scene) (i : ℕ) (ps : List Parameter) (ks : List TacKind) (c : Code) → IsScene g →
      AreTaken q g i ps ks h c → IsScene h
  taken_scene g h i ps ks c scene taken.none = scene
  taken_scene g h i ps ks c scene (taken.variable more e) = taken_scene _ h _ _ _ _ more e
  taken_scene g h i ps ks c scene (taken.object more le e) = taken_scene _ h _ _ _ _ more e

  taken_same : (g h : Scene) (i : ℕ) (ps : List Parameter) (ks : List TacKind) (c : Code) →
      AreTaken q g i ps ks h c → (h.fixed ≡ g.fixed) × (h.size ≡ g.size) × (h.limit ≡ g.limit)
  taken_same g h i ps ks c taken.none = (refl, refl, refl)
  taken_same g h i ps ks c (taken.variable more e) = taken_same _ h _ _ _ _ e
  taken_same g h i ps ks c (taken.object more le e) = taken_same _ h _ _ _ _ e

  taken_plain : (g h : Scene) (i : ℕ) (ps : List Parameter) (ks : List TacKind) (c : Code) →
      AreTaken q g i ps ks h c → (o : ℕ) (rest : List TacInstr) → behind o (c rest) ≡ behind o rest
  taken_plain g h i ps ks c taken.none o rest = refl
  taken_plain g h i ps ks c (taken.variable more e) o rest = taken_plain _ h _ _ _ _ e o rest
  taken_plain g h i ps ks c (taken.object more le e) o rest = taken_plain _ h _ _ _ _ e o rest

pub functions_run : FunctionsRun
functions_run ops placed w bytes t p objects frames call signs funs n f limit own is runs vs s callers k le sound high
    typed
    goes_back = by (ops.enter n s.frame) refl
  where
    r : Running
    r = record { fun = n; callers = callers }

    from_start : (j : ℕ) → 0 + j ≡ j
    from_start j = omega arith

    kinds : List TacKind
    kinds = kinds_of (slice_get t.funs n)

    exits : Exits
    exits = record { breaks = None; continues = None }

    same : (is.inner.fixed ≡ is.entry.fixed) × (is.inner.size ≡ is.entry.size) × (is.inner.limit ≡ is.entry.limit)
    same = taken_same f.name is.entry is.inner 0 f.params (signs n).takes is.take is.taken

    inner : IsScene is.inner
    inner = taken_scene f.name is.entry is.inner 0 f.params (signs n).takes is.take is.start.scene is.taken

    at_entry : (a : ℕ) → List ℕ → State Store
    at_entry a ls = record s {
      vars = unset f.vars;
      first = ops.count s.mem;
      mem = add_locals ops s.mem a n 0 ls;
      frame = a;
    }

    agrees : (a : ℕ) → ops.enter n s.frame ≡ Some a →
        Agrees ops is.entry None (at_entry a (objects n)) (entry_temps kinds vs)
    agrees a e = record {
      room = let many = as_many (signs n).takes vs typed in let few = is.start.few in
          entry_room kinds vs (omega arith) ∙ sym is.start.size;
      count = unset_room f.vars ∙ sym is.start.count;
      variable = λ x h q z o e2. let hs = is.start.homes x h q in
          let many = as_many (signs n).takes vs typed in let ge = hs.0 in
          entry_zero kinds vs h.temp h.kind (omega arith) hs.1
          ∙ ap (λ y. Some (Some (or_zero h.kind y))) (sym (unset_none f.vars x o e2));
      typed = λ x h q v e2. absurd (not_set v (unset_none f.vars x (Some v) e2));
      object = λ i j q. absurd (is.start.spots i j q);
      there = let many = frames.count s.mem n a in let so = is.start.objects in
          let also : length f.objects ≡ length (objects n) = ap length own in omega arith;
      sound = (frames.onward s.mem n s.frame a high e).sound sound;
      within = let l = is.start.limited in omega arith;
      high = let low = frames.below n s.frame a e in omega arith;
    }

    inside : (a : ℕ) → ops.enter n s.frame ≡ Some a →
        pass ops w f.name f.params vs (at_entry a (objects n))
        (λ x u. exec ops w call f.body u (λ fl y. behind_body ops w f s k fl y))
        ≡ goes ops w t p objects r call is.entry (is.take (is.body (end_code (signs n).gives is.at)))
        (at_entry a (objects n)) (entry_temps kinds vs)
    inside a e =
        arguments_taken ops placed w t p objects r call (signs n).gives f.name is.entry is.inner 0 f.params
        (signs n).takes is.take is.start.scene is.taken (at_entry a (objects n)) (entry_temps kinds vs) vs
        (λ x u. exec ops w call f.body u (λ fl y. behind_body ops w f s k fl y))
        (is.body (end_code (signs n).gives is.at)) (agrees a e) typed
        (all_from vs (map zero_temp (drop (length vs) kinds)) (entry_temps kinds vs) 0
        (λ j. ap (slice_get (entry_temps kinds vs)) (from_start j)))
        (λ u us came ag.
        let low = is.low in let top = is.high in let fixed = same.0 in let size = same.1 in
        let entered_frame = frames.onward s.mem n s.frame a high e in
        let statement = statements_are_run ops placed w t p objects r call signs (signs n).gives is.inner inner bytes
        (subst (CallsRun ops w t p objects call signs) (sym (same.2 ∙ is.start.limited)) runs) exits f.body is.from
        is.to
        is.body is.statement in
        statement.runs u us (λ fl y. behind_body ops w f s k fl y) (end_code (signs n).gives is.at)
        (record { low = omega arith; high = omega arith }) (record { breaks = tt; continues = tt })
        (λ o ge lt. ap (behind o) is.code
        ∙ taken_plain f.name is.entry is.inner 0 f.params (signs n).takes is.take is.taken o
        (is.body (end_code (signs n).gives is.at))) ag
        (functions_end ops placed w t p objects call signs n callers is.inner inner f is.at
        (subst (HasEndTemp (signs n).gives is.at) (sym size) is.room) is.ends own
        s u (onward_then ops s.mem (at_entry a (objects n)).mem u.mem entered_frame came.onward) came.left k
        goes_back))

    by : (o : Option ℕ) → ops.enter n s.frame ≡ o →
        (do
          frame ops w o n f
          pass ops w f.name f.params vs
          flow ← exec ops w call f.body
          v ← calls.result_of ops w f flow
          calls.close ops w f
          calls.back ops w s
          give v) s k
        ≡ entered ops w t p objects call signs o n vs r s
    by None e = ap (λ z. over (ending.Stack z) s) (sym is.name)
    by (Some a) e =
        ap (λ z. pass ops w f.name f.params vs (at_entry a z)
        (λ x u. exec ops w call f.body u (λ fl y. behind_body ops w f s k fl y))) own
        ∙ inside a e
        ∙ ap (λ z. turns ops w t p objects s.left z Runs r
        (record (at_entry a (objects n)) { vars = entry_temps kinds vs })) (sym is.code)
