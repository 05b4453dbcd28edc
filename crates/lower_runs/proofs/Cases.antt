-- The labels of a `switch` are compared, and it goes on behind the one that has the value.
use Rattle.std.proofs.Common.{◌≡◌, ◌≢◌, ℕ, suc, ◌+◌, ◌≤◌, ◌<◌, Bool, true, false, List, [], ◌∷◌, Option}
use Rattle.std.proofs.Common.{Some, None, Result, Ok, refl, sym, ap, ◌∙◌, arith, if◌then◌else◌, length-set}
use Rattle.std.specs.Prelude.{slice_get, slice_set, pos}
use Rattle.ck_base.specs.World.{World}
use Rattle.ck_base.specs.declared.positions.Pos.{Pos}
use Rattle.ck_int.specs.Arithmetic.{compare_of, comparison_of}
use Rattle.ck_int.specs.Kinds.{value_of}
use Rattle.ck_int.specs.declared.kinds.CmpOp.TheVariants.{Eq}
use Rattle.ck_int.proofs.Laws.{value_of-wrapped}
use Rattle.c_tree.specs.declared.typed.Typed.{Typed}
use Rattle.obj_mem.specs.Values.{Value}
use Rattle.obj_mem.specs.declared.ending.Fault.{Fault}
use Rattle.cheri_c_sem.specs.Kinds.{number_of, truth}
use Rattle.cheri_c_sem.specs.Meaning.{test}
use Rattle.cheri_c_sem.specs.Modes.{Store}
use Rattle.cheri_c_sem.specs.Operations.{Operations, compare_by}
use Rattle.cheri_c_sem.specs.Statements.{find_label, label_value}
use Rattle.cheri_c_sem.specs.Steps.{State, Fate, Then, answer, choose, give}
use Rattle.cheri_c_sem.specs.Tree.{Label, Case, Default}
use Rattle.tac_ir.specs.Effects as effects
use Rattle.tac_ir.specs.Effects.{kind_of, kind_at, held, no_position, way}
use Rattle.tac_ir.specs.Meaning.{Running, Runs, turns, behind_turn, pass, follow}
use Rattle.tac_ir.specs.Temps.{behind}
use Rattle.tac_ir.specs.declared.code.Tac.{Tac}
use Rattle.tac_ir.specs.declared.code.TacInstr.{TacInstr}
use Rattle.tac_ir.specs.declared.code.TacInstr.TheVariants as instr
use Rattle.tac_ir.specs.declared.code.TacKind.{TacKind}
use Rattle.tac_ir.specs.declared.code.TacKind.TheVariants as kind
use Rattle.lower_runs.specs.States.{Scene, IsScene, IsPlaced, Agrees}
use Rattle.lower_runs.specs.Expressions.{int_kind}
use Rattle.lower_runs.specs.Statements.{cases_code, kept_number, stands_before}
use Rattle.lower_runs.specs.Simulation.{goes, kinds}
use Rattle.lower_runs.proofs.Agreement.{get_set_same, get_set_other, agrees_scratch}
use Rattle.lower_runs.proofs.Steps.{compares, constant, constant_runs, held_is}
use Rattle.lower_runs.proofs.Conditions.{went_by, truth_test}

-- no label stands among the comparisons
pub cases_own : (k : TacKind) (at v label : ℕ) (ls : List Label) (o : ℕ) (rest : List TacInstr) →
    behind o (cases_code k at v label ls rest) ≡ behind o rest
cases_own k at v label [] o rest = refl
cases_own k at v label (Case n before ∷ ls) o rest = cases_own k at v (label + 1) ls o rest
cases_own k at v label (Default before ∷ ls) o rest = cases_own k at v (label + 1) ls o rest

module _ (ops : Operations Store) (placed : IsPlaced ops) (w : World) (t : Tac) (p : Typed)
    (objects : ℕ → List ℕ) (r : Running) (call : ℕ → List Value → Then Store Value) (g : Scene)
    (scene : IsScene g) where
  abbrev run : List TacInstr → State Store → List (Option Value) → Fate
  run = goes ops w t p objects r call g

  abbrev sets : ℕ → ℕ → Value → List TacInstr → State Store → Fate
  sets n to v rest s = turns ops w t p objects n rest Runs r (record s { vars = slice_set s.vars to (Some v) })

  -- a label's value as its kind keeps it is compared alike
  label_same : (m : Store) (k : TacKind) (x : Value) (n : ℕ) →
      compare_by ops m Eq (kind_of k) x (constant k (kept_number k n))
      ≡ compare_by ops m Eq (kind_of k) x (label_value (kind_of k) n)
  unfolding compare_of value_of
  label_same m (kind.Int k) x n =
      ap (λ z. Ok (comparison_of Eq (value_of k (number_of x)) z)) (value_of-wrapped k (pos n))
  label_same m (kind.Cap s) x n = refl

  compare_runs : (k : TacKind) (to a b : ℕ) (x y : Value) (c : Bool) (u : State Store) (us : List (Option Value))
      (rest : List TacInstr) → slice_get us a ≡ Some (Some x) → slice_get us b ≡ Some (Some y) →
      compare_by ops u.mem Eq (kind_of k) x y ≡ Ok c
      → run (instr.Cmp Eq k to a b ∷ rest) u us ≡ run rest u (slice_set us to (Some (truth c)))
  compare_runs k to a b x y c u us rest hx hy e =
      let next : Result Bool Fault → Fate =
      λ z. answer no_position z (record u { vars = us }) (λ i. sets u.left to (truth i) rest) in
      ap next (ap (λ z. compare_by ops u.mem Eq (kind_of k) z (held (slice_get us b)))
      (held_is ops w t p objects r call g scene us a x hx)
      ∙ ap (compare_by ops u.mem Eq (kind_of k) x) (held_is ops w t p objects r call g scene us b y hy) ∙ e)

  branch_runs : (at label : ℕ) (c : Bool) (u : State Store) (us : List (Option Value)) (rest : List TacInstr) →
      slice_get us at ≡ Some (Some (truth c)) →
      kind_at (kinds ops w t p objects r call g) at ≡ kind_of int_kind
      → run (instr.Branch at true label ∷ rest) u us ≡ run (if c then behind label rest else rest) u us
  branch_runs at label c u us rest h hk =
      let next : Bool → State Store → Fate =
      λ b. follow ops w t p objects (behind_turn ops w t p objects u.left)
      (pass ops w t p objects (behind_turn ops w t p objects u.left) rest) rest r
      (way ops w p (effects.same ops w p true b) label) in
      ap (λ z. test ops w no_position z (held (slice_get us at)) (record u { vars = us }) next) hk
      ∙ ap (λ z. test ops w no_position (kind_of int_kind) z (record u { vars = us }) next)
      (held_is ops w t p objects r call g scene us at (truth c) h)
      ∙ truth_test ops placed w t p objects r call g scene no_position c (record u { vars = us }) next
      ∙ sym (went_by ops placed w t p objects r call g scene true c label rest u us)

  -- the labels from one on are compared
  pub cases_run : (q : Pos) (k : TacKind) (at v label : ℕ) (ls : List Label) (o : Option ℕ) (x : Value)
      (s : State Store) (rest : List TacInstr) (next : Option ℕ → State Store → Fate) → g.fixed ≤ v → v + 1 < g.size →
      at ≢ v → at ≢ v + 1 → kind_at (kinds ops w t p objects r call g) (v + 1) ≡ kind_of int_kind
      → ((i : ℕ) (b : Label) (us : List (Option Value)) → slice_get ls i ≡ Some b → Agrees ops g None s us →
      next (Some (stands_before b)) s ≡ run (behind (label + i) rest) s us)
      → ((us : List (Option Value)) → Agrees ops g None s us → next o s ≡ run rest s us) →
      (ts : List (Option Value)) → Agrees ops g None s ts → slice_get ts at ≡ Some (Some x)
      → find_label ops w q (kind_of k) x ls o s next ≡ run (cases_code k at v label ls rest) s ts
  cases_run q k at v label [] o x s rest next low high nv nw hk found none ts ag h = none ts ag
  cases_run q k at v label (Default n ∷ ls) o x s rest next low high nv nw hk found none ts ag h =
      cases_run q k at v (label + 1) ls o x s rest next low high nv nw hk
      (λ i b us e a. found (suc i) b us e a ∙ ap (λ z. run (behind z rest) s us) (omega arith)) none ts ag h
  cases_run q k at v label (Case c n ∷ ls) o x s rest next low high nv nw hk found none ts ag h =
      let y = constant k (kept_number k c) in
      let d = compares ops placed s.mem Eq (kind_of k) x (label_value (kind_of k) c) in
      let us = slice_set ts v (Some y) in
      let vs = slice_set us (v + 1) (Some (truth d.0)) in
      let size = ag.room in
      let long = length-set ts v (Some y) in
      let more = cases_code k at v (label + 1) ls rest in
      let ag2 = agrees_scratch ops g scene s us (v + 1) (Some (truth d.0)) (omega arith)
      (agrees_scratch ops g scene s ts v (Some y) low ag) in
      ap (λ z. answer q z s (λ b u. choose b (give (Some n)) (find_label ops w q (kind_of k) x ls o) u next)) d.1
      ∙ which d.0 vs ag2
      (cases_run q k at v (label + 1) ls o x s rest next low high nv nw hk
      (λ i b us2 e a. found (suc i) b us2 e a ∙ ap (λ z. run (behind z rest) s us2) (omega arith)) none vs ag2
      (get_set_other us (v + 1) at (Some (truth d.0)) nw ∙ get_set_other ts v at (Some y) nv ∙ h))
      ∙ sym (branch_runs (v + 1) label d.0 s vs more
      (get_set_same us (v + 1) (Some (truth d.0)) (omega arith)) hk)
      ∙ sym (compare_runs k (v + 1) at v x y d.0 s us (instr.Branch (v + 1) true label ∷ more)
      (get_set_other ts v at (Some y) nv ∙ h) (get_set_same ts v (Some y) (omega arith))
      (label_same s.mem k x c ∙ d.1))
      ∙ sym (constant_runs ops w t p objects r call g scene k v (kept_number k c)
      (instr.Cmp Eq k (v + 1) at v ∷ instr.Branch (v + 1) true label ∷ more) s ts)
    where
      which : (b : Bool) (vs : List (Option Value)) → Agrees ops g None s vs →
          find_label ops w q (kind_of k) x ls o s next ≡ run (cases_code k at v (label + 1) ls rest) s vs
          → choose b (give (Some n)) (find_label ops w q (kind_of k) x ls o) s next
          ≡ run (if b then behind label (cases_code k at v (label + 1) ls rest)
          else cases_code k at v (label + 1) ls rest) s vs
      which true vs a e = found 0 (Case c n) vs refl a
          ∙ ap (λ z. run (behind z rest) s vs) (omega arith)
          ∙ ap (λ z. run z s vs) (sym (cases_own k at v (label + 1) ls label rest))
      which false vs a e = e
