-- A `switch`.
use Rattle.std.proofs.Common.{◌≡◌, ℕ, zero, suc, ◌+◌, ◌≤◌, List, [], ◌∷◌, Option}
use Rattle.std.proofs.Common.{Some, None, refl, sym, ap, subst, ◌∙◌, arith, ◌⊎◌, inl, inr, ⊎_elim}
use Rattle.std.specs.Prelude.{slice_get}
use Rattle.ck_base.specs.World.{World}
use Rattle.ck_base.specs.declared.positions.Pos.{Pos}
use Rattle.c_tree.specs.declared.typed.Typed.{Typed}
use Rattle.obj_mem.specs.Values.{Value}
use Rattle.cheri_c_sem.specs.Modes.{Store}
use Rattle.cheri_c_sem.specs.Operations.{Operations}
use Rattle.cheri_c_sem.specs.Statements.{Flow, execs_from, find_label, jump, after_switch, leave, default_of}
use Rattle.cheri_c_sem.specs.Statements.{switch_on}
use Rattle.cheri_c_sem.specs.Steps.{State, Fate, Then}
use Rattle.cheri_c_sem.specs.Tree.{Ex, Nil, Declared, Label, Case, Default, Sts, Switch}
use Rattle.tac_ir.specs.Effects.{kind_of, kind_at}
use Rattle.tac_ir.specs.Meaning.{Running}
use Rattle.tac_ir.specs.Temps.{behind}
use Rattle.tac_ir.specs.declared.code.Tac.{Tac}
use Rattle.tac_ir.specs.declared.code.TacInstr.{TacInstr}
use Rattle.tac_ir.specs.declared.code.TacInstr.TheVariants as instr
use Rattle.tac_ir.specs.declared.code.TacKind.{TacKind}
use Rattle.lower_runs.specs.States.{Scene, IsScene, IsPlaced, Agrees}
use Rattle.lower_runs.specs.Operating.{Code}
use Rattle.lower_runs.specs.Expressions.{Mark, more, labelled, int_kind, spares}
use Rattle.lower_runs.specs.Statements.{Exits, in_switch, cases_code, otherwise, count_labels, count_statements}
use Rattle.lower_runs.specs.Statements.{IsBeside}
use Rattle.lower_runs.specs.Statements.{IsOnce, AreAmong, stands_before}
use Rattle.lower_runs.specs.Simulation.{IsPiece, HasRoom, OperandRuns, goes, kinds}
use Rattle.lower_runs.specs.Following.{AreBefore, Came, Known, Follows, StatementRuns, EnterRuns, BodyRuns}
use Rattle.lower_runs.proofs.Agreement.{stays_below}
use Rattle.lower_runs.proofs.Labels.{pass_label, found_label, jumps}
use Rattle.lower_runs.proofs.Statements.{came_same, came_then, came_done, before_more, before_some}
use Rattle.lower_runs.proofs.Loops.{inside}
use Rattle.lower_runs.proofs.Cases.{cases_own, cases_run}

-- ---- where none of the labels has the value

pub record Found (label : ℕ) (ls : List Label) (goes_to : ℕ) : Type 0 where
  pub index : ℕ
  pub one : Label
  pub there : slice_get ls index ≡ Some one
  pub default : default_of ls ≡ Some (stands_before one)
  pub leads : goes_to ≡ label + index

default_is : (label end : ℕ) (ls : List Label) → IsOnce ls →
    ((default_of ls ≡ None) × (otherwise label end ls ≡ end)) ⊎ Found label ls (otherwise label end ls)
default_is label end [] once = inl (refl, refl)
default_is label end (Case n before ∷ ls) once =
    ⊎_elim (λ h. inl h) (λ h. inr (record {
      index = suc h.index;
      one = h.one;
      there = h.there;
      default = h.default;
      leads = h.leads ∙ omega arith;
    })) (default_is (label + 1) end ls once)
default_is label end (Default before ∷ ls) once =
    inr (record {
      index = 0;
      one = Default before;
      there = refl;
      default = refl;
      leads = none_is (label + 1) label ls once.0 (default_is (label + 1) label ls once.1) ∙ omega arith;
    })
  where
    none_is : (label end : ℕ) (ls : List Label) → default_of ls ≡ None →
        ((default_of ls ≡ None) × (otherwise label end ls ≡ end)) ⊎ Found label ls (otherwise label end ls) →
        otherwise label end ls ≡ end
    none_is label2 end2 ls2 e (inl h) = h.1
    none_is label2 end2 ls2 e (inr h) = absurd (no (stands_before h.one) (sym e ∙ h.default))
      where
        no : (n : ℕ) → None ≡ Some n → ⊥
        no n q = cc

among_is : (ls : List Label) (n i : ℕ) (b : Label) → AreAmong ls n → slice_get ls i ≡ Some b → stands_before b ≤ n
among_is [] n i b h e = absurd cc
among_is (x ∷ ls) n zero b h e = subst (λ z. stands_before z ≤ n) (same x b e) h.0
  where
    same : (x y : Label) → Some x ≡ Some y → x ≡ y
    same x2 y e2 = cc
among_is (x ∷ ls) n (suc i) b h e = among_is ls n i b h.1 e

module _ (ops : Operations Store) (placed : IsPlaced ops) (w : World) (t : Tac) (p : Typed)
    (objects : ℕ → List ℕ) (r : Running) (call : ℕ → List Value → Then Store Value) (result : Option TacKind) where
  abbrev run : Scene → List TacInstr → State Store → List (Option Value) → Fate
  run = goes ops w t p objects r call

  abbrev Follow : (g : Scene) (x : Exits) (rest : List TacInstr) (s : State Store) (l : Flow → State Store → Fate) →
      Type 0
  Follow = Follows ops w t p objects r call result

  module _ (g h : Scene) (scene : IsScene g) (x : Exits) (j : TacKind) (e : Ex) (ds : List Declared) (ls : List Label)
      (ss : Sts) (v : ℕ) (q : Pos) (l m n : Mark) (a c d : Code)
      (f : OperandRuns ops w t p objects r call g Nil j e v l m c)
      (enters : EnterRuns ops w t p objects r call result g ds h a) (beside : IsBeside h ds v)
      (hk : kind_at (kinds ops w t p objects r call g) (m.temps + 1) ≡ kind_of int_kind) (once : IsOnce ls)
      (among : AreAmong ls (count_statements ss))
      (body : BodyRuns ops w t p objects r call result h (in_switch m.labels x) (m.labels + 1) ls 0 ss
      (labelled (1 + count_labels ls) (more 2 m)) n d) where
    abbrev end : List TacInstr → List TacInstr
    end rest = instr.Label m.labels ∷ rest

    abbrev tail : Code
    tail rest = instr.Jump (otherwise (m.labels + 1) m.labels ls) ∷ d (end rest)

    abbrev whole_code : Code
    whole_code rest = c (a (cases_code j v m.temps (m.labels + 1) ls (tail rest)))

    -- the labels of the statements, and the end
    behind_all : (o : ℕ) (rest : List TacInstr) → m.labels ≤ o ⊎ (l.labels ≤ o → m.labels ≤ o) →
        behind o (whole_code rest) ≡ behind o (d (end rest))
    behind_all o rest k =
        f.piece.own o (a (cases_code j v m.temps (m.labels + 1) ls (tail rest))) (⊎_elim (λ le le2. le) (λ i. i) k)
        ∙ enters.plain o (cases_code j v m.temps (m.labels + 1) ls (tail rest))
        ∙ cases_own j v m.temps (m.labels + 1) ls o (tail rest)

    piece : IsPiece l n whole_code
    piece = record {
      temps = let lm = f.piece.temps in let mn = body.temps in omega arith;
      labels = let lm = f.piece.labels in let mn = body.labels in omega arith;
      own = λ o rest k. let lm = f.piece.labels in let mn = body.labels in
          behind_all o rest (inr (λ le. let z = k le in omega arith))
          ∙ body.own o (end rest) (λ le. k (omega arith)) (λ le. let z = k (omega arith) in omega arith)
          ∙ pass_label m.labels o rest (λ z. let y = k (omega arith) in omega arith);
    }

    module _ (s : State Store) (ts : List (Option Value)) (next : Flow → State Store → Fate) (rest : List TacInstr)
        (room : HasRoom g l n) (before : AreBefore l x)
        (known : Known ops w t p objects r call result l n (whole_code rest))
        (go : Follow g x rest s next) where
      -- what follows a statement of the body
      abbrev last : Flow → State Store → Fate
      last fl u = after_switch fl u (λ f2 u2. leave ops w ds u2 (λ i. next f2))

      abbrev goes_to : Option ℕ → State Store → Fate
      goes_to to u = jump to (execs_from ops w call ss) u (λ fl u2. leave ops w ds u2 (λ i. next fl))

      follows : (u : State Store) → Came ops w t p objects r call result s u →
          Follow h (in_switch m.labels x) (end rest) u last
      follows u came =
          let inner = inside ops placed w t p objects r call result g h x ds a enters s u next rest came go in
          let lm = f.piece.labels in
          record {
            goes_on = λ y ys c2 a2. inner.goes_on y ys c2 a2;
            breaks = λ b e2 y ys c2 a2. inner.goes_on y ys c2 a2
                ∙ ap (λ z. run h z y ys) (sym (found_label m.labels rest)
                ∙ ap (λ z. behind z (end rest)) (same m.labels b e2));
            continues = λ b e2 y ys c2 a2. inner.continues b e2 y ys c2 a2
                ∙ ap (λ z. run h z y ys) (sym (pass_label m.labels b rest
                (λ z. let lt = before_some ops placed w t p objects r call result l x.continues b before.continues e2 in
                absurd (omega arith))));
            returns = λ y2 y ys c2 i. inner.returns y2 y ys c2 i;
          }
        where
          same : (i k : ℕ) → Some i ≡ Some k → i ≡ k
          same i k e2 = cc

      before_body : AreBefore (record (labelled (1 + count_labels ls) (more 2 m)) { labels = m.labels + 1 })
          (in_switch m.labels x)
      before_body = let lm = f.piece.labels in record {
        breaks = omega arith;
        continues = (before_more ops placed w t p objects r call result l
            (record (labelled (1 + count_labels ls) (more 2 m)) { labels = m.labels + 1 }) x
            (omega arith) before).continues;
      }

      known_body : Known ops w t p objects r call result (labelled (1 + count_labels ls) (more 2 m)) n (d (end rest))
      known_body o ge lt = let lm = f.piece.labels in
          known o (omega arith) lt ∙ behind_all o rest (inl (omega arith))

      room_body : HasRoom h (labelled (1 + count_labels ls) (more 2 m)) n
      room_body = let low = room.low in let high = room.high in let lm = f.piece.temps in
          let same_fixed = enters.fixed in let same_size = enters.size in
          record { low = omega arith; high = omega arith }

      found : (u : State Store) → Came ops w t p objects r call result s u → (i : ℕ) (b : Label)
          (us : List (Option Value)) → slice_get ls i ≡ Some b → Agrees ops h None u us →
          goes_to (Some (stands_before b)) u ≡ run h (behind (m.labels + 1 + i) (tail rest)) u us
      found u came i b us there ag =
          body.enters i (stands_before b) b there (omega arith) (among_is ls (count_statements ss) i b among there) u us
          last (end rest) room_body before_body known_body ag (follows u came)

      none : (u : State Store) → Came ops w t p objects r call result s u → (us : List (Option Value)) →
          Agrees ops h None u us → goes_to (default_of ls) u ≡ run h (tail rest) u us
      none u came us ag = by (default_is (m.labels + 1) m.labels ls once)
          ∙ sym (jumps ops w t p objects r call h (otherwise (m.labels + 1) m.labels ls) (d (end rest)) u us)
        where
          by : ((default_of ls ≡ None) × (otherwise (m.labels + 1) m.labels ls ≡ m.labels))
              ⊎ Found (m.labels + 1) ls (otherwise (m.labels + 1) m.labels ls)
              → goes_to (default_of ls) u
              ≡ run h (behind (otherwise (m.labels + 1) m.labels ls) (d (end rest))) u us
          by (inl k) = ap (λ z. goes_to z u) k.0
              ∙ (follows u came).goes_on u us (came_same ops placed w t p objects r call result u) ag
              ∙ ap (λ z. run h z u us) (sym (body.own m.labels (end rest) (λ le. absurd (omega arith))
              (λ le. absurd (omega arith)) ∙ found_label m.labels rest))
              ∙ ap (λ z. run h (behind z (d (end rest))) u us) (sym k.1)
          by (inr k) = ap (λ z. goes_to z u) k.default ∙ found u came k.index k.one us k.there ag
              ∙ ap (λ z. run h (behind z (d (end rest))) u us) (sym k.leads)

    pub switch_statement : StatementRuns ops w t p objects r call result g x (Switch q (kind_of j) e ds ls ss) l n
        whole_code
    switch_statement = record {
      piece = piece;
      runs = λ s ts next rest room before known ag go.
          let low = room.low in let high = room.high in let lm = f.piece.temps in let mn = body.temps in
          let same_fixed = enters.fixed in let same_size = enters.size in
          f.runs s ts (λ y u. switch_on ops w q (kind_of j) y ds ls (execs_from ops w call ss) u next)
          (a (cases_code j v m.temps (m.labels + 1) ls (tail rest))) (record { low = low; high = omega arith }) ag
          (λ y u us held.
          let below = stays_below ops g scene Nil l.temps m.temps v (omega arith) held.stays in
          enters.runs u us (λ i u2. find_label ops w q (kind_of j) y ls (default_of ls) u2
          (goes_to s ts next rest room before known go))
          (cases_code j v m.temps (m.labels + 1) ls (tail rest)) held.done.agrees
          (λ u2 us2 came ag2 kept.
          let whole_way = came_then ops placed w t p objects r call result s u u2
          (came_done ops placed w t p objects r call result g (λ i. spares i e) l s u ts us held.done) came in
          cases_run ops placed w t p objects r call h enters.scene q j v m.temps (m.labels + 1) ls (default_of ls) y u2
          (tail rest) (goes_to s ts next rest room before known go) (omega arith) (omega arith)
          (λ z. absurd (omega arith)) (λ z. absurd (omega arith)) hk
          (λ i b us3 there ag3. found s ts next rest room before known go u2 whole_way i b us3 there ag3)
          (λ us3 ag3. none s ts next rest room before known go u2 whole_way us3 ag3) us2 ag2
          (kept v beside ∙ held.value)));
    }
