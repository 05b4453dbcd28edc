-- Statements.
use Rattle.std.proofs.Common.{◌≡◌, ℕ, ◌+◌, ◌≤◌, ◌<◌, Bool, true, false, List, ◌∷◌}
use Rattle.std.proofs.Common.{Option, Some, None, refl, sym, ap, subst, ◌∙◌, arith, if◌then◌else◌}
use Rattle.std.specs.Prelude.{slice_set}
use Rattle.ck_base.specs.World.{World}
use Rattle.ck_base.specs.declared.positions.Pos.{Pos}
use Rattle.c_tree.specs.declared.typed.Typed.{Typed}
use Rattle.obj_mem.specs.Values.{Value}
use Rattle.cheri_c_sem.specs.Kinds.{nothing}
use Rattle.cheri_c_sem.specs.Modes.{Store}
use Rattle.cheri_c_sem.specs.Operations.{Operations}
use Rattle.cheri_c_sem.specs.Statements.{Flow, Goes, Returns, after}
use Rattle.cheri_c_sem.specs.Statements.{exec, execs}
use Rattle.cheri_c_sem.specs.Steps.{State, Fate, Then, choose}
use Rattle.cheri_c_sem.specs.Tree.{Ex, Nil, St, Do, Give, If}
use Rattle.cheri_c_sem.specs.Tree.{Break, Continue, Return, Empty, Sts, End, Seq}
use Rattle.tac_ir.specs.Effects.{kind_of}
use Rattle.tac_ir.specs.Meaning.{Running, behind_turn, back}
use Rattle.tac_ir.specs.Temps.{behind}
use Rattle.tac_ir.specs.declared.code.Tac.{Tac}
use Rattle.tac_ir.specs.declared.code.TacInstr.{TacInstr}
use Rattle.tac_ir.specs.declared.code.TacInstr.TheVariants as instr
use Rattle.tac_ir.specs.declared.code.TacKind.{TacKind}
use Rattle.lower_runs.specs.States.{Home, Scene, IsScene, IsPlaced}
use Rattle.lower_runs.specs.Operating.{Code}
use Rattle.lower_runs.specs.Expressions.{Mark, labelled, spares, same, choice_code, guarded_code}
use Rattle.lower_runs.specs.Statements.{Exits}
use Rattle.lower_runs.specs.Simulation.{IsPiece, Done, ValueRuns, OperandRuns, EffectRuns, ConditionRuns, goes}
use Rattle.lower_runs.specs.Following.{IsBefore, AreBefore, given_back, IsGiven, Came, Known, Follows}
use Rattle.lower_runs.specs.Following.{StatementRuns, StatementsRun}
use Rattle.lower_runs.proofs.Agreement.{onward_same, onward_then}
use Rattle.lower_runs.proofs.Labels.{pass_label, found_label, nothing_own, both_own, then_own, choice_own, guarded_own}
use Rattle.lower_runs.proofs.Labels.{to_other, to_end, jumps}
use Rattle.lower_runs.proofs.Steps.{held_is}
use Rattle.lower_runs.proofs.Assignments.{variable_done, home_target}

module _ (ops : Operations Store) (placed : IsPlaced ops) (w : World) (t : Tac) (p : Typed)
    (objects : ℕ → List ℕ) (r : Running) (call : ℕ → List Value → Then Store Value) (result : Option TacKind) where
  abbrev run : Scene → List TacInstr → State Store → List (Option Value) → Fate
  run = goes ops w t p objects r call

  abbrev Comes : State Store → State Store → Type 0
  Comes = Came ops w t p objects r call result

  abbrev Is_known : Mark → Mark → List TacInstr → Type 0
  Is_known = Known ops w t p objects r call result

  abbrev Follow : (g : Scene) (x : Exits) (rest : List TacInstr) (s : State Store) (l : Flow → State Store → Fate) →
      Type 0
  Follow = Follows ops w t p objects r call result

  abbrev Statement_runs : (g : Scene) (x : Exits) (a : St) (m n : Mark) (c : Code) → Type 0
  Statement_runs = StatementRuns ops w t p objects r call result

  abbrev Statements_run : (g : Scene) (x : Exits) (ss : Sts) (m n : Mark) (c : Code) → Type 0
  Statements_run = StatementsRun ops w t p objects r call result

  -- ---- states in one call

  pub came_same : (s : State Store) → Comes s s
  came_same s = record { left = omega arith; first = refl; frame = refl; onward = onward_same ops s.mem }

  pub came_then : (s u v : State Store) → Comes s u → Comes u v → Comes s v
  came_then s u v a b = record {
    left = let x = a.left in let y = b.left in
        omega arith;
    first = b.first ∙ a.first;
    frame = b.frame ∙ a.frame;
    onward =
        onward_then ops s.mem u.mem v.mem a.onward b.onward;
  }

  pub came_done : (g : Scene) (f : ℕ → Bool) (m : Mark) (s u : State Store) (ts us : List (Option Value)) →
      Done ops g f m s ts u us → Comes s u
  came_done g f m s u ts us a =
      record { left = a.went.left; first = a.went.first; frame = a.went.frame; onward = a.went.onward }

  -- ---- what follows

  pub before_some : (m : Mark) (o : Option ℕ) (b : ℕ) → IsBefore m o → o ≡ Some b → b < m.labels
  before_some m (Some c) b h e = let q : c ≡ b = cc in let h2 : c < m.labels = h in omega arith
  before_some m None b h e = absurd cc

  pub before_more : (l m : Mark) (x : Exits) → l.labels ≤ m.labels → AreBefore l x → AreBefore m x
  before_more l m x le h = record { breaks = by x.breaks h.breaks; continues = by x.continues h.continues }
    where
      by : (o : Option ℕ) → IsBefore l o → IsBefore m o
      by None i = tt
      by (Some b) i = let lt : b < l.labels = i in omega arith

  -- it follows from a later state, behind instructions that lead there too
  follows_over : (g : Scene) (x : Exits) (m : Mark) (rest over : List TacInstr) (s u : State Store)
      (l : Flow → State Store → Fate) → AreBefore m x →
      ((v : State Store) (vs : List (Option Value)) → run g over v vs ≡ run g rest v vs)
      → ((b : ℕ) → b < m.labels → behind b over ≡ behind b rest) → Comes s u → Follow g x rest s l → Follow g x over u l
  follows_over g x m rest over s u l before alike labels came h = record {
    goes_on = λ v vs c a. h.goes_on v vs (came_then s u v came c) a ∙ sym (alike v vs);
    breaks = λ b e v vs c a. h.breaks b e v vs (came_then s u v came c) a
        ∙ ap (λ z. run g z v vs) (sym (labels b (before_some m x.breaks b before.breaks e)));
    continues = λ b e v vs c a. h.continues b e v vs (came_then s u v came c) a
        ∙ ap (λ z. run g z v vs) (sym (labels b (before_some m x.continues b before.continues e)));
    returns = λ y v vs c i. h.returns y v vs (came_then s u v came c) i;
  }

  pub follows_from : (g : Scene) (x : Exits) (rest : List TacInstr) (s u : State Store)
      (l : Flow → State Store → Fate) →
      Comes s u → Follow g x rest s l → Follow g x rest u l
  follows_from g x rest s u l came h = record {
    goes_on = λ v vs c a. h.goes_on v vs (came_then s u v came c) a;
    breaks = λ b e v vs c a. h.breaks b e v vs (came_then s u v came c) a;
    continues = λ b e v vs c a. h.continues b e v vs (came_then s u v came c) a;
    returns = λ y v vs c i. h.returns y v vs (came_then s u v came c) i;
  }

  -- ---- labels of the whole code

  pub known_within : (l m n o : Mark) (is : List TacInstr) → l.labels ≤ m.labels → n.labels ≤ o.labels →
      Is_known l o is → Is_known m n is
  known_within l m n o is a b h i ge lt = h i (omega arith) (omega arith)

  pub known_behind : (l m n : Mark) (c : Code) (is : List TacInstr) → IsPiece l m c → Is_known m n (c is) →
      Is_known m n is
  known_behind l m n c is a h i ge lt = h i ge lt ∙ a.own i is (λ le. ge)

  -- ---- statements one behind the other

  pub end_statements : (g : Scene) (x : Exits) (m : Mark) → Statements_run g x End m m (λ rest. rest)
  end_statements g x m = record {
    piece = nothing_own m;
    runs = λ s ts l rest room before known ag h. h.goes_on s ts (came_same s) ag;
  }

  pub seq_statements : (g : Scene) (x : Exits) (a : St) (ss : Sts) (l m n : Mark) (c d : Code) →
      Statement_runs g x a l m c → Statements_run g x ss m n d → Statements_run g x (Seq a ss) l n (λ rest. c (d rest))
  seq_statements g x a ss l m n c d f h = record {
    piece = both_own l m n c d f.piece h.piece;
    runs = λ s ts next rest room before known ag go.
        let low = room.low in let high = room.high in let lm = f.piece.temps in let mn = h.piece.temps in
        let llm = f.piece.labels in let lmn = h.piece.labels in
        let labels : (b : ℕ) → b < l.labels → behind b (d rest) ≡ behind b rest =
        λ b lt. h.piece.own b rest (λ le. absurd (omega arith)) in
        f.runs s ts (λ y u. after y (execs ops w call ss) u next) (d rest)
        (record { low = low; high = omega arith }) before
        (known_within l l m n (c (d rest)) (omega arith) lmn known) ag (record {
          goes_on = λ u us came a. h.runs u us next rest (record { low = omega arith; high = high })
              (before_more l m x llm before)
              (known_behind l m n c (d rest) f.piece (known_within l m n n (c (d rest)) llm (omega arith) known)) a
              (follows_from g x rest s u next came go);
          breaks = λ b e u us came a. go.breaks b e u us came a
              ∙ ap (λ z. run g z u us) (sym (labels b (before_some l x.breaks b before.breaks e)));
          continues = λ b e u us came a. go.continues b e u us came a
              ∙ ap (λ z. run g z u us) (sym (labels b (before_some l x.continues b before.continues e)));
          returns = λ v u us came i. go.returns v u us came i;
        });
  }

  -- ---- simple statements

  pub evaluated_statement : (g : Scene) (x : Exits) (e : Ex) (m n : Mark) (c : Code) →
      EffectRuns ops w t p objects r call g e m n c → Statement_runs g x (Do e) m n c
  evaluated_statement g x e m n c h = record {
    piece = h.piece;
    runs = λ s ts l rest room before known ag go.
        h.runs s ts (λ v u. l Goes u) rest room ag
        (λ v u us d. go.goes_on u us (came_done g (λ i. spares i e) m s u ts us d) d.agrees);
  }

  pub variable_statement : (g : Scene) → IsScene g →
      (x : Exits) (v at : ℕ) (k : TacKind) (e : Ex) (m n : Mark) (c : Code) →
      g.home v ≡ Some (record { temp = at; kind = k }) → ValueRuns ops w t p objects r call g k e at m n c →
      Statement_runs g x (Give v e) m n c
  variable_statement g scene x v at k e m n c home h = record {
    piece = h.piece;
    runs = λ s ts l rest room before known ag go.
        let place : Home = record { temp = at; kind = k } in
        h.runs s ts (λ y u. l Goes (record u { vars = slice_set u.vars v (Some y) })) rest room
        (home_target ops placed w t p objects r call g scene v place m home room.low) ag
        (λ y u us a.
        let d = variable_done ops placed w t p objects r call g scene v place (λ i. spares i e)
        (λ i. false) m s u ts us y home room.low (λ i q. absurd (never q)) (λ i q. absurd (never q)) a in
        go.goes_on (record u { vars = slice_set u.vars v (Some y) }) us
        (came_done g (λ i. false) m s (record u { vars = slice_set u.vars v (Some y) }) ts us d) d.agrees);
  }
    where
      never : false ≡ true → ⊥
      never e = cc

  pub empty_statement : (g : Scene) (x : Exits) (m : Mark) → Statement_runs g x Empty m m (λ rest. rest)
  empty_statement g x m = record {
    piece = nothing_own m;
    runs = λ s ts l rest room before known ag go. go.goes_on s ts (came_same s) ag;
  }

  -- ---- jumps

  pub break_statement : (g : Scene) (x : Exits) (b : ℕ) (m : Mark) → x.breaks ≡ Some b →
      Statement_runs g x Break m m (λ rest. instr.Jump b ∷ rest)
  break_statement g x b m e = record {
    piece = then_own m m m (λ rest. rest) (λ rest. instr.Jump b ∷ rest) (omega arith) refl (λ o rest. refl)
        (nothing_own m);
    runs = λ s ts l rest room before known ag go. go.breaks b e s ts (came_same s) ag
        ∙ sym (jumps ops w t p objects r call g b rest s ts);
  }

  pub continue_statement : (g : Scene) (x : Exits) (b : ℕ) (m : Mark) → x.continues ≡ Some b →
      Statement_runs g x Continue m m (λ rest. instr.Jump b ∷ rest)
  continue_statement g x b m e = record {
    piece = then_own m m m (λ rest. rest) (λ rest. instr.Jump b ∷ rest) (omega arith) refl (λ o rest. refl)
        (nothing_own m);
    runs = λ s ts l rest room before known ag go. go.continues b e s ts (came_same s) ag
        ∙ sym (jumps ops w t p objects r call g b rest s ts);
  }

  -- a return
  gives_back : (v : Value) (u : State Store) (us : List (Option Value)) → Fate
  gives_back v u us = back ops w t p objects (behind_turn ops w t p objects u.left) v r.fun r.callers
      (record u { vars = us })

  pub return_statement : (g : Scene) (x : Exits) (m : Mark) → result ≡ None →
      Statement_runs g x (Return None) m m (λ rest. instr.Return None ∷ rest)
  unfolding gives_back
  return_statement g x m e = record {
    piece = then_own m m m (λ rest. rest) (λ rest. instr.Return None ∷ rest) (omega arith) refl (λ o rest. refl)
        (nothing_own m);
    runs = λ s ts l rest room before known ag go.
        go.returns nothing s ts (came_same s) (subst (λ z. IsGiven z nothing) (sym e) tt)
        ∙ ap (λ z. gives_back (given_back z nothing) s ts) e;
  }

  pub return_nothing_statement : (g : Scene) (x : Exits) (e : Ex) (m n : Mark) (c : Code) → result ≡ None →
      EffectRuns ops w t p objects r call g e m n c →
      Statement_runs g x (Return (Some e)) m n (λ rest. c (instr.Return None ∷ rest))
  unfolding gives_back
  return_nothing_statement g x e m n c none h = record {
    piece = then_own m n n c (λ rest. instr.Return None ∷ rest) (omega arith) refl (λ o rest. refl) h.piece;
    runs = λ s ts l rest room before known ag go.
        h.runs s ts (λ v u. l (Returns v) u) (instr.Return None ∷ rest) room ag
        (λ v u us d. go.returns v u us (came_done g (λ i. spares i e) m s u ts us d)
        (subst (λ z. IsGiven z v) (sym none) tt) ∙ ap (λ z. gives_back (given_back z v) u us) none);
  }

  pub return_value_statement : (g : Scene) → IsScene g →
      (x : Exits) (k : TacKind) (e : Ex) (at : ℕ) (m n : Mark) (c : Code) → result ≡ Some k →
      OperandRuns ops w t p objects r call g Nil k e at m n c
      → Statement_runs g x (Return (Some e)) m n (λ rest. c (instr.Return (Some at) ∷ rest))
  unfolding gives_back
  return_value_statement g scene x k e at m n c some h = record {
    piece = then_own m n n c (λ rest. instr.Return (Some at) ∷ rest) (omega arith) refl (λ o rest. refl) h.piece;
    runs = λ s ts l rest room before known ag go.
        h.runs s ts (λ v u. l (Returns v) u) (instr.Return (Some at) ∷ rest) room ag
        (λ v u us a. go.returns v u us (came_done g (λ i. spares i e) m s u ts us a.done)
        (subst (λ z. IsGiven z v) (sym some) a.typed)
        ∙ ap (λ z. gives_back (given_back z v) u us) some
        ∙ ap (λ z. gives_back z u us) (sym (held_is ops w t p objects r call g scene us at v a.value)));
  }

  -- ---- choices

  module _ (g : Scene) (x : Exits) (q : Pos) (j : TacKind) (e : Ex) (a b : St) where
    done_as : (n : ℕ) (l : Mark) (s u : State Store) (ts us : List (Option Value)) →
        Done ops g (λ i. spares i e) (labelled n l) s ts u us → Comes s u
    done_as n l s u ts us d = came_done g (λ i. spares i e) (labelled n l) s u ts us d

    pub choice_statement : (l m n o : Mark) (c d f : Code) →
        ConditionRuns ops w t p objects r call g j e false l.labels (labelled 2 l) m c → Statement_runs g x a m n d →
        Statement_runs g x b n o f
        → Statement_runs g x (If q (kind_of j) e a b) l o (choice_code l.labels c d f)
    choice_statement l m n o c d f h y z = record {
      piece = choice_own l m n o c d f h.piece y.piece z.piece;
      runs = λ s ts next rest room before known ag go.
          let low = room.low in let high = room.high in let lm = h.piece.temps in let mn = y.piece.temps in
          let no = z.piece.temps in let lbl = h.piece.labels in let dlbl = y.piece.labels in
          let flbl = z.piece.labels in
          let last = instr.Label (l.labels + 1) ∷ rest in
          let way_one = instr.Jump (l.labels + 1) ∷ instr.Label l.labels ∷ f last in
          let over_last : (i : ℕ) → i < l.labels → behind i last ≡ behind i rest =
          λ i lt. pass_label (l.labels + 1) i rest (λ k. absurd (omega arith)) in
          let over_one : (i : ℕ) → i < l.labels → behind i way_one ≡ behind i rest =
          λ i lt. pass_label l.labels i (f last) (λ k. absurd (omega arith))
          ∙ z.piece.own i last (λ k. absurd (omega arith)) ∙ over_last i lt in
          let known_d : Is_known m n (d way_one) =
          known_behind (labelled 2 l) m n c (d way_one) h.piece
          (known_within l m n o (c (d way_one)) (omega arith) (omega arith) known) in
          let known_f : Is_known n o (f last) = λ i ge lt. known_behind m n o d way_one y.piece (λ k ge2 lt2.
          known_behind (labelled 2 l) m o c (d way_one) h.piece (known_within l m o o (c (d way_one)) (omega
          arith) (omega arith) known) k (omega arith) lt2) i ge lt
          ∙ pass_label l.labels i (f last) (λ k. absurd (omega arith)) in
          h.runs q s ts (λ k u. choose k (exec ops w call a) (exec ops w call b) u next) (d way_one)
          (record { low = low; high = omega arith }) (omega arith) ag (λ k u us one.
          let came = done_as 2 l s u ts us one in
          let by : (k : Bool) → choose k (exec ops w call a) (exec ops w call b) u next
          ≡ run g (if same false k then behind l.labels (d way_one) else d way_one) u us = elim [
            | true ↦ y.runs u us next way_one (record { low = omega arith; high = omega arith })
                (before_more l m x (omega arith) before) known_d one.agrees
                (follows_over g x l rest way_one s u next before
                (λ v vs. jumps ops w t p objects r call g (l.labels + 1) (instr.Label l.labels ∷ f last) v vs
                ∙ ap (λ i. run g i v vs) (to_end l n o f rest (omega arith) z.piece)) over_one came go)
            | false ↦ z.runs u us next last (record { low = omega arith; high = omega arith })
                (before_more l n x (omega arith) before) known_f one.agrees
                (follows_over g x l rest last s u next before (λ v vs. refl) over_last came go)
                ∙ ap (λ i. run g i u us) (sym (to_other l m n o d f rest (omega arith) y.piece))
          ] in by k);
    }

    pub guarded_statement : (l m n : Mark) (c d : Code) →
        ConditionRuns ops w t p objects r call g j e false l.labels (labelled 1 l) m c → Statement_runs g x a m n d →
        Statement_runs g x (If q (kind_of j) e a Empty) l n (guarded_code l.labels c d)
    guarded_statement l m n c d h y = record {
      piece = guarded_own l m n c d h.piece y.piece;
      runs = λ s ts next rest room before known ag go.
          let low = room.low in let high = room.high in let lm = h.piece.temps in let mn = y.piece.temps in
          let lbl = h.piece.labels in let dlbl = y.piece.labels in
          let last = instr.Label l.labels ∷ rest in
          h.runs q s ts (λ k u. choose k (exec ops w call a) (exec ops w call Empty) u next) (d last)
          (record { low = low; high = omega arith }) (omega arith) ag (λ k u us one.
          let came = done_as 1 l s u ts us one in
          let by : (k : Bool) → choose k (exec ops w call a) (exec ops w call Empty) u next
          ≡ run g (if same false k then behind l.labels (d last) else d last) u us = elim [
            | true ↦ y.runs u us next last (record { low = omega arith; high = high })
                (before_more l m x (omega arith) before)
                (known_behind (labelled 1 l) m n c (d last) h.piece
                (known_within l m n n (c (d last)) (omega arith) (omega arith) known)) one.agrees
                (follows_over g x l rest last s u next before (λ v vs. refl)
                (λ i lt. pass_label l.labels i rest (λ z. absurd (omega arith))) came go)
            | false ↦ go.goes_on u us came one.agrees
                ∙ ap (λ i. run g i u us) (sym (y.piece.own l.labels last (λ z. absurd (omega arith))
                ∙ found_label l.labels rest))
          ] in by k);
    }
