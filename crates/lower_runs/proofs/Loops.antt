-- Loops and blocks.
use Rattle.std.proofs.Common.{◌≡◌, ◌≢◌, ℕ, zero, suc, ◌+◌, ◌≤◌, ◌<◌, Bool, true, false, List, [], ◌∷◌, length}
use Rattle.std.proofs.Common.{Option, Some, None, refl, sym, ap, ◌∙◌, arith, if◌then◌else◌}
use Rattle.std.proofs.Common.{length-set}
use Rattle.std.specs.Prelude.{slice_get, slice_set, ◌==◌}
use Rattle.std.proofs.lemmas.Bool.Decides.{nat_tests}
use Rattle.ck_base.specs.World.{World}
use Rattle.ck_base.specs.declared.positions.Pos.{Pos}
use Rattle.cap_ops.specs.Permissions.{data_permissions}
use Rattle.c_tree.specs.declared.typed.Typed.{Typed}
use Rattle.obj_mem.specs.Values.{Value}
use Rattle.cheri_c_sem.specs.Kinds.{Kind}
use Rattle.cheri_c_sem.specs.Modes.{Store}
use Rattle.cheri_c_sem.specs.Meaning.{At, test, store}
use Rattle.cheri_c_sem.specs.Operations.{Operations}
use Rattle.cheri_c_sem.specs.Statements.{Flow, Goes, Breaks, Continues, Returns, after, after_body, loop, repeat}
use Rattle.cheri_c_sem.specs.Statements.{leave, exec, execs, test_of, step_of, part_of_local}
use Rattle.cheri_c_sem.specs.Steps.{State, Fate, Then, ◌>>=◌, ◌>>◌, answer, give, choose, turn, turn_from}
use Rattle.cheri_c_sem.specs.Tree.{Ex, Nil, Declared, Simple, Objects, St, Init, Block, While, Do_while}
use Rattle.cheri_c_sem.specs.Tree.{For, Sts}
use Rattle.tac_ir.specs.Effects.{kind_of, no_position}
use Rattle.tac_ir.specs.Meaning.{Running, Runs, turns, behind_turn}
use Rattle.tac_ir.specs.Temps.{behind}
use Rattle.tac_ir.specs.declared.code.Tac.{Tac}
use Rattle.tac_ir.specs.declared.code.TacInstr.{TacInstr}
use Rattle.tac_ir.specs.declared.code.TacInstr.TheVariants as instr
use Rattle.tac_ir.specs.declared.code.TacKind.{TacKind}
use Rattle.lower_runs.specs.States.{Home, Scene, IsScene, IsOf, IsPlaced, Agrees, or_zero}
use Rattle.lower_runs.specs.Operating.{Code}
use Rattle.lower_runs.specs.Expressions.{Mark, labelled, spares, same, within, within_temp, within_mark}
use Rattle.lower_runs.specs.Statements.{Exits, in_loop, with_spot, loop_code, repeat_code}
use Rattle.lower_runs.specs.Simulation.{IsPiece, HasRoom, Done, OperandRuns, EffectRuns, ConditionRuns, goes}
use Rattle.lower_runs.specs.Following.{AreBefore, Came, Known, whole, Follows}
use Rattle.lower_runs.specs.Following.{StatementRuns, StatementsRun, TestRuns, StepRuns, EnterRuns}
use Rattle.lower_runs.proofs.Agreement.{get_set_same, get_set_other, onward_then, stays_below}
use Rattle.lower_runs.proofs.Agreement.{agrees_scratch, agrees_memory, went_set}
use Rattle.lower_runs.proofs.Labels.{pass_label, found_label, nothing_own, both_own, then_own, seeks}
use Rattle.lower_runs.proofs.Steps.{held_is, constant_runs, constant_zero, constant}
use Rattle.lower_runs.proofs.Assignments.{stored, done_memory}
use Rattle.lower_runs.proofs.Statements.{came_same, came_then, came_done, before_more, before_some, follows_from}
use Rattle.lower_runs.proofs.Statements.{known_within, known_behind}

module _ (ops : Operations Store) (placed : IsPlaced ops) (w : World) (t : Tac) (p : Typed)
    (objects : ℕ → List ℕ) (r : Running) (call : ℕ → List Value → Then Store Value) (result : Option TacKind) where
  abbrev run : Scene → List TacInstr → State Store → List (Option Value) → Fate
  run = goes ops w t p objects r call

  abbrev Comes : State Store → State Store → Type 0
  Comes = Came ops w t p objects r call result

  abbrev Is_known : Mark → Mark → List TacInstr → Type 0
  Is_known = Known ops w t p objects r call result

  abbrev Follow : (g : Scene) (x : Exits) (rest : List TacInstr) (s : State Store) (l : Flow → State Store → Fate) →
      Type 0
  Follow = Follows ops w t p objects r call result

  abbrev Statement_runs : (g : Scene) (x : Exits) (a : St) (m n : Mark) (c : Code) → Type 0
  Statement_runs = StatementRuns ops w t p objects r call result

  abbrev Test_runs : (g : Scene) (o : Option (Pos × Kind × Ex)) (label : ℕ) (m n : Mark) (c : Code) → Type 0
  Test_runs = TestRuns ops w t p objects r call result

  abbrev Step_runs : (g : Scene) (o : Option Ex) (m n : Mark) (c : Code) → Type 0
  Step_runs = StepRuns ops w t p objects r call result

  -- ---- tests and steps

  pub no_test : (g : Scene) (label : ℕ) (m : Mark) → Test_runs g None label m m (λ rest. rest)
  no_test g label m = record {
    piece = nothing_own m;
    runs = λ s ts l rest room lt ag go. go true s ts (came_same ops placed w t p objects r call result s) ag;
  }

  pub some_test : (g : Scene) (q : Pos) (j : TacKind) (e : Ex) (label : ℕ) (m n : Mark) (c : Code) →
      ConditionRuns ops w t p objects r call g j e false label m n c → Test_runs g (Some (q, kind_of j, e)) label m n c
  some_test g q j e label m n c h = record {
    piece = h.piece;
    runs = λ s ts l rest room lt ag go. h.runs q s ts l rest room lt ag
        (λ b u us d. go b u us (came_done ops placed w t p objects r call result g (λ i. spares i e) m s u ts us d)
        d.agrees);
  }

  pub no_step : (g : Scene) (m : Mark) → Step_runs g None m m (λ rest. rest)
  no_step g m = record {
    piece = nothing_own m;
    runs = λ s ts l rest room ag go. go s ts (came_same ops placed w t p objects r call result s) ag;
  }

  pub some_step : (g : Scene) (e : Ex) (m n : Mark) (c : Code) → EffectRuns ops w t p objects r call g e m n c →
      Step_runs g (Some e) m n c
  some_step g e m n c h = record {
    piece = h.piece;
    runs = λ s ts l rest room ag go. h.runs s ts (λ v u. l tt u) rest room ag
        (λ v u us d. go u us (came_done ops placed w t p objects r call result g (λ i. spares i e) m s u ts us d)
        d.agrees);
  }

  -- ---- a turn

  -- behind a turn a label of the whole code is looked for
  turn_back : (g : Scene) (l : ℕ) (rest head : List TacInstr) (s : State Store) (ts : List (Option Value))
      (k : Unit {0} → State Store → Fate) → behind l (whole ops w t p objects r call result) ≡ head
      → ((j : ℕ) → s.left ≡ suc j → k tt (record s { left = j }) ≡ run g head (record s { left = j }) ts) →
      turn s k ≡ run g (instr.Turn ∷ instr.Jump l ∷ rest) s ts
  turn_back g l rest head s ts k e h = by s.left refl
    where
      by : (n : ℕ) → s.left ≡ n →
          turn_from n s k ≡ turns ops w t p objects n (instr.Turn ∷ instr.Jump l ∷ rest) Runs r (record s { vars = ts })
      by zero is = refl
      by (suc j) is =
          h j is ∙ ap (λ z. turns ops w t p objects j z Runs r (record s { vars = ts; left = j })) (sym e)
          ∙ sym (seeks ops w t p objects (behind_turn ops w t p objects j) (whole ops w t p objects r call result) l r
          (record s { vars = ts; left = j }))

  -- a later state with fewer turns
  came_turned : (s u : State Store) (j : ℕ) → u.left ≡ suc j → Comes s u → Comes s (record u { left = j })
  came_turned s u j e c = record {
    left = let le = c.left in
        omega arith;
    first = c.first;
    frame = c.frame;
    onward = c.onward;
  }

  agrees_turned : (g : Scene) (u : State Store) (us : List (Option Value)) (j : ℕ) → u.left ≡ suc j →
      Agrees ops g None u us → Agrees ops g None (record u { left = j }) us
  agrees_turned g u us j e a =
      record {
        room = a.room;
        count = a.count;
        variable = a.variable;
        typed = a.typed;
        object = a.object;
        there = a.there;
        sound = a.sound;
        within = let le = a.within in omega arith;
        high = a.high;
      }

  -- ---- loops with the test in front

  module _ (g : Scene) (x : Exits) (test : Option (Pos × Kind × Ex)) (step : Option Ex) (b : St) (l m n o : Mark)
      (c d f : Code)
      (h : Test_runs g test (l.labels + 2) (labelled 3 l) m c)
      (y : Statement_runs g (in_loop (l.labels + 2) (l.labels + 1)) b m n d) (z : Step_runs g step n o f) where
    loop_own : IsPiece l o (loop_code l.labels c d f)
    loop_own = record {
      temps = let lm = h.piece.temps in let mn = y.piece.temps in let no = z.piece.temps in omega arith;
      labels = let lm = h.piece.labels in let mn = y.piece.labels in let no = z.piece.labels in omega arith;
      own = λ i rest k.
          let lm = h.piece.labels in let mn = y.piece.labels in let no = z.piece.labels in
          let end = instr.Turn ∷ instr.Jump l.labels ∷ instr.Label (l.labels + 2) ∷ rest in
          pass_label l.labels i (c (d (instr.Label (l.labels + 1) ∷ f end)))
          (λ e. let q = k (omega arith) in omega arith)
          ∙ h.piece.own i (d (instr.Label (l.labels + 1) ∷ f end)) (λ e. let q = k (omega arith) in omega arith)
          ∙ y.piece.own i (instr.Label (l.labels + 1) ∷ f end) (λ e. let q = k (omega arith) in omega arith)
          ∙ pass_label (l.labels + 1) i (f end) (λ e. let q = k (omega arith) in omega arith)
          ∙ z.piece.own i end (λ e. k (omega arith))
          ∙ pass_label (l.labels + 2) i rest (λ e. let q = k (omega arith) in omega arith);
    }

    module _ (rest : List TacInstr) (room : HasRoom g l o) (before : AreBefore l x)
        (known : Is_known l o (loop_code l.labels c d f rest)) where
      abbrev end : List TacInstr
      end = instr.Turn ∷ instr.Jump l.labels ∷ instr.Label (l.labels + 2) ∷ rest

      abbrev next : List TacInstr
      next = instr.Label (l.labels + 1) ∷ f end

      abbrev head : List TacInstr
      head = c (d next)

      labels_m : l.labels + 3 ≤ m.labels
      labels_m = let e = h.piece.labels in omega arith

      out_of_step : behind (l.labels + 2) (f end) ≡ rest
      out_of_step = z.piece.own (l.labels + 2) end
          (λ e. let a = labels_m in let q = y.piece.labels in absurd (omega arith)) ∙ found_label (l.labels + 2) rest

      out_of_next : behind (l.labels + 2) next ≡ rest
      out_of_next = pass_label (l.labels + 1) (l.labels + 2) (f end) (λ e. absurd (omega arith)) ∙ out_of_step

      out_of_body : behind (l.labels + 2) (d next) ≡ rest
      out_of_body = y.piece.own (l.labels + 2) next (λ e. let a = labels_m in absurd (omega arith)) ∙ out_of_next

      to_head : behind l.labels (whole ops w t p objects r call result) ≡ head
      to_head = known l.labels (omega arith) (let a = labels_m in let q = y.piece.labels in let i = z.piece.labels in
          omega arith) ∙ found_label l.labels head

      known_body : Is_known m n (d next)
      known_body i ge lt =
          known i (let a = labels_m in omega arith) (let q = z.piece.labels in omega arith)
          ∙ pass_label l.labels i head (λ e. let a = labels_m in absurd (omega arith))
          ∙ h.piece.own i (d next) (λ le. ge)

      abbrev rounds : ℕ → Then Store Flow
      rounds k = loop k (test_of ops w call test) (exec ops w call b) (step_of ops w call step)

      module _ (go : Flow → State Store → Fate) where
        Loops : ℕ → Type 0
        Loops k = (s : State Store) (ts : List (Option Value)) → s.left < k → Agrees ops g None s ts →
            Follow g x rest s go → rounds k s go ≡ run g head s ts

        -- behind the body
        again : (k : ℕ) → Loops k → (s u : State Store) (us : List (Option Value)) → s.left < suc k →
            Follow g x rest s go →
            Comes s u → Agrees ops g None u us →
            (step_of ops w call step >> (turn >> rounds k)) u go ≡ run g (f end) u us
        unfolding Loops
        again k ih s u us lt fo came ag =
            let lm = h.piece.temps in let mn = y.piece.temps in let low = room.low in
            z.runs u us (λ i v. turn v (λ q e. rounds k e go)) end (record { low = omega arith; high = room.high }) ag
            (λ v vs c2 a2. turn_back g l.labels (instr.Label (l.labels + 2) ∷ rest) head v vs
            (λ q e. rounds k e go) to_head
            (λ j is. ih (record v { left = j }) vs (let q = c2.left in let i = came.left in omega arith)
            (agrees_turned g v vs j is a2)
            (follows_from ops placed w t p objects r call result g x rest s (record v { left = j }) go
            (came_turned s v j is (came_then ops placed w t p objects r call result s u v came c2)) fo)))

        round : (k : ℕ) → Loops k → (s u : State Store) (us : List (Option Value)) → s.left < suc k →
            Follow g x rest s go →
            Comes s u → Agrees ops g None u us → (i : Bool)
            → choose i (exec ops w call b >>= λ q. after_body q (step_of ops w call step >> (turn >> rounds k)))
            (give Goes) u go ≡ run g (if same false i then behind (l.labels + 2) (d next) else d next) u us
        round k ih s u us lt fo came ag false = fo.goes_on u us came ag ∙ ap (λ e. run g e u us) (sym out_of_body)
        round k ih s u us lt fo came ag true =
            let lm = h.piece.temps in let no = z.piece.temps in let low = room.low in let high = room.high in
            let a = labels_m in
            y.runs u us (λ q v. after_body q (step_of ops w call step >> (turn >> rounds k)) v go) next
            (record { low = omega arith; high = omega arith })
            (record { breaks = omega arith; continues = omega arith }) known_body ag (record {
              goes_on = λ v vs c2 a2. again k ih s v vs lt fo
                  (came_then ops placed w t p objects r call result s u v came c2) a2;
              breaks = λ e q v vs c2 a2. fo.goes_on v vs
                  (came_then ops placed w t p objects r call result s u v came c2) a2
                  ∙ ap (λ i. run g i v vs) (sym (ap (λ i. behind i next) (some_same (l.labels + 2) e q) ∙ out_of_next));
              continues = λ e q v vs c2 a2. again k ih s v vs lt fo
                  (came_then ops placed w t p objects r call result s u v came c2) a2
                  ∙ ap (λ i. run g i v vs) (sym (ap (λ i. behind i next) (some_same (l.labels + 1) e q)
                  ∙ found_label (l.labels + 1) (f end)));
              returns = λ e v vs c2 i. fo.returns e v vs
                  (came_then ops placed w t p objects r call result s u v came c2) i;
            })
          where
            some_same : (i e : ℕ) → Some i ≡ Some e → e ≡ i
            some_same i e q = cc

        loops : (k : ℕ) → Loops k
        unfolding Loops
        loops zero s ts lt ag fo = absurd (omega arith)
        loops (suc k) s ts lt ag fo =
            let mn = y.piece.temps in let no = z.piece.temps in let low = room.low in let high = room.high in
            h.runs s ts (λ i u. choose i (exec ops w call b
            >>= λ q. after_body q (step_of ops w call step >> (turn >> rounds k))) (give Goes) u go) (d next)
            (record { low = low; high = omega arith }) (omega arith) ag
            (λ i u us came a. round k (loops k) s u us lt fo came a i)

        pub looped : (s : State Store) (ts : List (Option Value)) → Agrees ops g None s ts → Follow g x rest s go →
            rounds (suc s.left) s go ≡ run g (loop_code l.labels c d f rest) s ts
        unfolding Loops
        looped s ts ag fo = loops (suc s.left) s ts (omega arith) ag fo

  pub while_statement : (g : Scene) (x : Exits) (k : Kind) (e : Ex) (b : St) (q : Pos) (l m n : Mark) (c d : Code) →
      Test_runs g (Some (q, k, e)) (l.labels + 2) (labelled 3 l) m c
      → Statement_runs g (in_loop (l.labels + 2) (l.labels + 1)) b m n d →
      Statement_runs g x (While q k e b) l n (loop_code l.labels c d (λ rest. rest))
  while_statement g x k e b q l m n c d h y = record {
    piece = loop_own g x (Some (q, k, e)) None b l m n n c d (λ rest. rest) h y (no_step g n);
    runs = λ s ts go rest room before known ag fo.
        looped g x (Some (q, k, e)) None b l m n n c d (λ i. i) h y (no_step g n) rest room before known go s ts ag fo;
  }

  -- ---- `do` loops

  module _ (g : Scene) (x : Exits) (q : Pos) (j : TacKind) (e : Ex) (b : St) (l m n : Mark) (c d : Code)
      (y : Statement_runs g (in_loop (l.labels + 2) (l.labels + 1)) b (labelled 3 l) m d)
      (h : ConditionRuns ops w t p objects r call g j e false (l.labels + 2) m n c) where
    repeat_own : IsPiece l n (repeat_code l.labels d c)
    repeat_own = record {
      temps = let lm = y.piece.temps in let mn = h.piece.temps in omega arith;
      labels = let lm = y.piece.labels in let mn = h.piece.labels in omega arith;
      own = λ i rest k.
          let lm = y.piece.labels in let mn = h.piece.labels in
          let end = instr.Turn ∷ instr.Jump l.labels ∷ instr.Label (l.labels + 2) ∷ rest in
          pass_label l.labels i (d (instr.Label (l.labels + 1) ∷ c end)) (λ z. let a = k (omega arith) in omega arith)
          ∙ y.piece.own i (instr.Label (l.labels + 1) ∷ c end) (λ z. let a = k (omega arith) in omega arith)
          ∙ pass_label (l.labels + 1) i (c end) (λ z. let a = k (omega arith) in omega arith)
          ∙ h.piece.own i end (λ z. k (omega arith))
          ∙ pass_label (l.labels + 2) i rest (λ z. let a = k (omega arith) in omega arith);
    }

    module _ (rest : List TacInstr) (room : HasRoom g l n) (known : Is_known l n (repeat_code l.labels d c rest)) where
      abbrev last : List TacInstr
      last = instr.Turn ∷ instr.Jump l.labels ∷ instr.Label (l.labels + 2) ∷ rest

      abbrev behind_body : List TacInstr
      behind_body = instr.Label (l.labels + 1) ∷ c last

      three : l.labels + 3 ≤ m.labels
      three = let a = y.piece.labels in omega arith

      out_of_last : behind (l.labels + 2) last ≡ rest
      out_of_last = found_label (l.labels + 2) rest

      out_of_behind : behind (l.labels + 2) behind_body ≡ rest
      out_of_behind = pass_label (l.labels + 1) (l.labels + 2) (c last) (λ z. absurd (omega arith))
          ∙ h.piece.own (l.labels + 2) last (λ z. let a = three in absurd (omega arith)) ∙ out_of_last

      to_top : behind l.labels (whole ops w t p objects r call result) ≡ d behind_body
      to_top = known l.labels (omega arith) (let a = three in let i = h.piece.labels in omega arith)
          ∙ found_label l.labels (d behind_body)

      known_d : Is_known (labelled 3 l) m (d behind_body)
      known_d i ge lt = known i (omega arith) (let a = h.piece.labels in omega arith)
          ∙ pass_label l.labels i (d behind_body) (λ z. absurd (omega arith))

      abbrev times : ℕ → Then Store Flow
      times k = repeat k (exec ops w call b) (test_of ops w call (Some (q, kind_of j, e)))

      module _ (go : Flow → State Store → Fate) where
        Repeats : ℕ → Type 0
        Repeats k = (s : State Store) (ts : List (Option Value)) → s.left < k → Agrees ops g None s ts →
            Follow g x rest s go → times k s go ≡ run g (d behind_body) s ts

        -- behind the body
        tested : (k : ℕ) → Repeats k → (s u : State Store) (us : List (Option Value)) → s.left < suc k →
            Follow g x rest s go → Comes s u → Agrees ops g None u us
            → (test_of ops w call (Some (q, kind_of j, e)) >>= λ i. choose i (turn >> times k) (give Goes)) u go
            ≡ run g (c last) u us
        unfolding Repeats
        tested k ih s u us lt fo came ag =
            let lm = y.piece.temps in let low = room.low in
            h.runs q u us (λ i v. choose i (turn >> times k) (give Goes) v go) last
            (record { low = omega arith; high = room.high }) (let a = three in omega arith) ag (λ i v vs dn.
            let c2 = came_done ops placed w t p objects r call result g (λ z. spares z e) m u v us vs dn in
            let all = came_then ops placed w t p objects r call result s u v came c2 in
            let by : (i : Bool) → choose i (turn >> times k) (give Goes) v go
            ≡ run g (if same false i then behind (l.labels + 2) last else last) v vs = elim [
              | true ↦ turn_back g l.labels (instr.Label (l.labels + 2) ∷ rest) (d behind_body) v vs
                  (λ z z2. times k z2 go) to_top
                  (λ z is. ih (record v { left = z }) vs (let le = all.left in omega arith)
                  (agrees_turned g v vs z is dn.agrees)
                  (follows_from ops placed w t p objects r call result g x rest s (record v { left = z }) go
                  (came_turned s v z is all) fo))
              | false ↦ fo.goes_on v vs all dn.agrees ∙ ap (λ z. run g z v vs) (sym out_of_last)
            ] in by i)

        repeats : (k : ℕ) → Repeats k
        unfolding Repeats
        repeats zero s ts lt ag fo = absurd (omega arith)
        repeats (suc k) s ts lt ag fo =
            let lm = y.piece.temps in let mn = h.piece.temps in let low = room.low in let high = room.high in
            let a = three in
            y.runs s ts (λ z v. after_body z (test_of ops w call (Some (q, kind_of j, e))
            >>= λ i. choose i (turn >> times k) (give Goes)) v go) behind_body
            (record { low = low; high = omega arith })
            (record { breaks = omega arith; continues = omega arith }) known_d ag (record {
              goes_on = λ v vs c2 a2. tested k (repeats k) s v vs lt fo c2 a2;
              breaks = λ z z2 v vs c2 a2. fo.goes_on v vs c2 a2
                  ∙ ap (λ i. run g i v vs) (sym (ap (λ i. behind i behind_body) (some_same (l.labels + 2) z z2)
                  ∙ out_of_behind));
              continues = λ z z2 v vs c2 a2. tested k (repeats k) s v vs lt fo c2 a2
                  ∙ ap (λ i. run g i v vs) (sym (ap (λ i. behind i behind_body) (some_same (l.labels + 1) z z2)
                  ∙ found_label (l.labels + 1) (c last)));
              returns = λ z v vs c2 i. fo.returns z v vs c2 i;
            })
          where
            some_same : (i z : ℕ) → Some i ≡ Some z → z ≡ i
            some_same i z z2 = cc

        pub repeated : (s : State Store) (ts : List (Option Value)) → Agrees ops g None s ts → Follow g x rest s go →
            times (suc s.left) s go ≡ run g (repeat_code l.labels d c rest) s ts
        unfolding Repeats
        repeated s ts ag fo = repeats (suc s.left) s ts (omega arith) ag fo

  pub do_statement : (g : Scene) (x : Exits) (q : Pos) (j : TacKind) (e : Ex) (b : St) (l m n : Mark) (c d : Code) →
      Statement_runs g (in_loop (l.labels + 2) (l.labels + 1)) b (labelled 3 l) m d
      → ConditionRuns ops w t p objects r call g j e false (l.labels + 2) m n c →
      Statement_runs g x (Do_while q (kind_of j) b e) l n (repeat_code l.labels d c)
  do_statement g x q j e b l m n c d y h = record {
    piece = repeat_own g x q j e b l m n c d y h;
    runs = λ s ts go rest room before known ag fo. repeated g x q j e b l m n c d y h rest room known go s ts ag fo;
  }

  -- ---- blocks

  abbrev Enter_runs : (g : Scene) (ds : List Declared) (h : Scene) (c : Code) → Type 0
  Enter_runs = EnterRuns ops w t p objects r call result

  pub enter_none : (g : Scene) → IsScene g → Enter_runs g [] g (λ rest. rest)
  enter_none g scene = record {
    scene = scene;
    fixed = refl;
    size = refl;
    plain = λ o rest. refl;
    home = λ x. refl;
    spots = λ n at e. e;
    outward = λ s ts a. a;
    leaves = λ s l. refl;
    runs = λ s ts l rest ag go. go s ts (came_same ops placed w t p objects r call result s) ag (λ j b. refl);
  }

  -- a variable without a value: its home is 0 or null
  agrees_unset : (g : Scene) → IsScene g → (x : ℕ) (h : Home) (s : State Store) (ts : List (Option Value)) →
      g.home x ≡ Some h → Agrees ops g None s ts
      → Agrees ops g None (record s { vars = slice_set s.vars x None }) (slice_set ts h.temp (Some (constant h.kind 0)))
  agrees_unset g scene x h s ts home a = record {
    room = length-set ts h.temp (Some (constant h.kind 0)) ∙ a.room;
    count = length-set s.vars x None ∙ a.count;
    variable = λ y i e z o q. by y i e o q (y == x) refl;
    typed = λ y i e v q. of y i e v q (y == x) refl;
    object = λ n k e. get_set_other ts h.temp k (Some (constant h.kind 0)) (scene.apart x n k h home e)
        ∙ a.object n k e;
    there = a.there;
    sound = a.sound;
    within = a.within;
    high = a.high;
  }
    where
      lt : x < length s.vars
      lt = let below = scene.home_counted x h home in let is = a.count in omega arith

      there : h.temp < length ts
      there = let below = scene.home_below x h home in let is = a.room in let le = scene.room in omega arith

      some_home : (i j : Home) → Some i ≡ Some j → i ≡ j
      some_home i j e = cc

      some_option : (i j : Option Value) → Some i ≡ Some j → i ≡ j
      some_option i j e = cc

      not_some : (v : Value) (o : Option (Option Value)) → o ≡ Some None → o ≡ Some (Some v) → ⊥
      not_some v o e i = cc

      by : (y : ℕ) (i : Home) → g.home y ≡ Some i → (o : Option Value) →
          slice_get (slice_set s.vars x None) y ≡ Some o → (b : Bool) → (y == x) ≡ b →
          slice_get (slice_set ts h.temp (Some (constant h.kind 0))) i.temp ≡ Some (Some (or_zero i.kind o))
      by y i e o q true k =
          let yx : y ≡ x = grind (arith, nat_tests) in
          let hi : h ≡ i = some_home h i (sym home ∙ ap g.home (sym yx) ∙ e) in
          let no : None ≡ o = some_option None o (sym (get_set_same s.vars x None lt)
          ∙ ap (slice_get (slice_set s.vars x None)) (sym yx) ∙ q) in
          ap (λ z. slice_get (slice_set ts h.temp (Some (constant h.kind 0))) z.temp) (sym hi)
          ∙ get_set_same ts h.temp (Some (constant h.kind 0)) there ∙ ap (λ z. Some (Some z)) (constant_zero h.kind)
          ∙ ap (λ z. Some (Some (or_zero z.kind None))) hi ∙ ap (λ z. Some (Some (or_zero i.kind z))) no
      by y i e o q false k =
          let yx : y ≢ x = λ z. absurd (differ (y == x) k (grind (arith, nat_tests))) in
          get_set_other ts h.temp i.temp (Some (constant h.kind 0)) (λ z. yx (scene.homes_differ y x i h e home z))
          ∙ a.variable y i e tt o (sym (get_set_other s.vars x y None yx) ∙ q)
        where
          differ : (b : Bool) → b ≡ false → b ≡ true → ⊥
          differ true i j = cc
          differ false i j = cc

      of : (y : ℕ) (i : Home) → g.home y ≡ Some i → (v : Value) →
          slice_get (slice_set s.vars x None) y ≡ Some (Some v) → (b : Bool) → (y == x) ≡ b → IsOf (kind_of i.kind) v
      of y i e v q true k =
          let yx : y ≡ x = grind (arith, nat_tests) in
          absurd (not_some v (slice_get (slice_set s.vars x None) x) (get_set_same s.vars x None lt)
          (ap (slice_get (slice_set s.vars x None)) (sym yx) ∙ q))
      of y i e v q false k =
          let yx : y ≢ x = λ z. absurd (differ (y == x) k (grind (arith, nat_tests))) in
          a.typed y i e v (sym (get_set_other s.vars x y None yx) ∙ q)
        where
          differ : (b : Bool) → b ≡ false → b ≡ true → ⊥
          differ true i j = cc
          differ false i j = cc

  pub enter_simple : (g h : Scene) → IsScene g → (x at : ℕ) (k : TacKind) (ds : List Declared) (c : Code) →
      g.home x ≡ Some (record { temp = at; kind = k }) → Enter_runs g ds h c →
      Enter_runs g (Simple x ∷ ds) h (λ rest. instr.Const at k 0 ∷ c rest)
  enter_simple g h scene x at k ds c home e = record {
    scene = e.scene;
    fixed = e.fixed;
    size = e.size;
    plain = λ o rest. e.plain o rest;
    home = e.home;
    spots = e.spots;
    outward = e.outward;
    leaves = λ s l. e.leaves s l;
    runs = λ s ts l rest ag go.
        let u = record s { vars = slice_set s.vars x None } in
        let us = slice_set ts at (Some (constant k 0)) in
        e.runs u us l rest (agrees_unset g scene x (record { temp = at; kind = k }) s ts home ag)
        (λ v vs came a kept. go v vs (record {
          left = came.left;
          first = came.first;
          frame = came.frame;
          onward = came.onward;
        }) a (λ j b. kept j b.1 ∙ get_set_other ts at j (Some (constant k 0))
        (b.0 (record { temp = at; kind = k }) (e.home x ∙ home))))
        ∙ sym (constant_runs ops w t p objects r call g scene k at 0 (c rest) s ts);
  }

  -- a pointer to an object stands in its temp from here on
  pub spot_here : (g : Scene) (n at : ℕ) → (with_spot n at g).spot n ≡ Some at
  spot_here g n at = let e : (n == n) ≡ true = grind (arith, nat_tests) in ap (λ b. if b then Some at else g.spot n) e

  some_spot : (i j : ℕ) → Some i ≡ Some j → i ≡ j
  some_spot i j e = cc

  pub agrees_spot : (g : Scene) (n at : ℕ) → IsScene (with_spot n at g) → (s : State Store) (ts : List (Option Value)) →
      Agrees ops g None s ts → Agrees ops (with_spot n at g) None s
      (slice_set ts at (Some (ops.whole s.mem (s.first + n) data_permissions)))
  agrees_spot g n at scene s ts a = record {
    room = length-set ts at (Some pointer) ∙ a.room;
    count = a.count;
    variable = λ x h e z o q. get_set_other ts at h.temp (Some pointer)
        (λ i. scene.apart x n at h e (spot_here g n at) (sym i)) ∙ a.variable x h e z o q;
    typed = a.typed;
    object = λ o i e. by o i (o == n) refl e;
    there = a.there;
    sound = a.sound;
    within = a.within;
    high = a.high;
  }
    where
      pointer : Value
      pointer = ops.whole s.mem (s.first + n) data_permissions

      by : (o i : ℕ) (b : Bool) → (o == n) ≡ b → (if b then Some at else g.spot o) ≡ Some i →
          slice_get (slice_set ts at (Some pointer)) i ≡ Some (Some (ops.whole s.mem (s.first + o) data_permissions))
      by o i true k e =
          let on : o ≡ n = grind (arith, nat_tests) in
          ap (slice_get (slice_set ts at (Some pointer))) (sym (some_spot at i e))
          ∙ get_set_same ts at (Some pointer) (let lt = scene.spot_below n at (spot_here g n at) in
          let le = scene.room in let is = a.room in omega arith)
          ∙ ap (λ z. Some (Some (ops.whole s.mem (s.first + z) data_permissions))) (sym on)
      by o i false k e =
          let e2 : (with_spot n at g).spot o ≡ Some i = ap (λ b. if b then Some at else g.spot o) k ∙ e in
          get_set_other ts at i (Some pointer) (λ z.
          no (o == n) k (grind (arith, nat_tests, scene.spots_differ o n i at e2 (spot_here g n at) z)))
          ∙ a.object o i e
        where
          no : (b : Bool) → b ≡ false → b ≡ true → ⊥
          no true i2 j = cc
          no false i2 j = cc

  -- what agrees with a pointer more agrees with the others
  agrees_without : (g : Scene) (n at : ℕ) → ((i : ℕ) → g.spot n ≡ Some i → i ≡ at) →
      (s : State Store) (ts : List (Option Value)) → Agrees ops (with_spot n at g) None s ts → Agrees ops g None s ts
  agrees_without g n at same_temp s ts a = record {
    room = a.room;
    count = a.count;
    variable = a.variable;
    typed = a.typed;
    object = λ o i e. by o i e (o == n) refl;
    there = a.there;
    sound = a.sound;
    within = a.within;
    high = a.high;
  }
    where
      by : (o i : ℕ) → g.spot o ≡ Some i → (b : Bool) → (o == n) ≡ b →
          slice_get ts i ≡ Some (Some (ops.whole s.mem (s.first + o) data_permissions))
      by o i e true k =
          let on : o ≡ n = grind (arith, nat_tests) in
          ap (slice_get ts) (same_temp i (ap g.spot (sym on) ∙ e)) ∙ a.object n at (spot_here g n at)
          ∙ ap (λ z. Some (Some (ops.whole s.mem (s.first + z) data_permissions))) (sym on)
      by o i e false k = a.object o i (ap (λ b. if b then Some at else g.spot o) k ∙ e)

  pub enter_object : (g h : Scene) (n at : ℕ) (ds : List Declared) (c : Code) → IsScene g → IsScene (with_spot n at g) →
      ((i : ℕ) → g.spot n ≡ Some i → i ≡ at) → Enter_runs (with_spot n at g) ds h c →
      Enter_runs g (Objects n ∷ ds) h (λ rest. instr.Zero n ∷ instr.Local at n ∷ c rest)
  enter_object g h n at ds c scene more_scene same_temp e = record {
    scene = e.scene;
    fixed = e.fixed;
    size = e.size;
    plain = λ o rest. e.plain o rest;
    home = e.home;
    spots = λ i j q. e.spots i j (by i j q (i == n) refl);
    outward = λ s ts a. agrees_without g n at same_temp s ts (e.outward s ts a);
    leaves = λ s l. e.leaves (record s { mem = ops.leave s.mem (s.first + n) }) l
        ∙ ap (λ m. l tt (record s { mem = m })) (placed.leave s.mem (s.first + n));
    runs = λ s ts l rest ag go.
        let u = record s { mem = ops.zero s.mem (s.first + n) } in
        let on = placed.zero s.mem (s.first + n) in
        e.runs u (slice_set ts at (Some (ops.whole u.mem (u.first + n) data_permissions))) l rest
        (agrees_spot g n at more_scene u ts (agrees_memory ops g scene None s ts u.mem on ag))
        (λ v vs came a kept. go v vs (record {
          left = came.left;
          first = came.first;
          frame = came.frame;
          onward = onward_then ops s.mem u.mem v.mem on came.onward;
        }) a (λ j b. kept j b.1 ∙ get_set_other ts at j (Some (ops.whole u.mem (u.first + n) data_permissions))
        (b.0 at (e.spots n at (spot_here g n at)))));
  }
    where
      by : (i j : ℕ) → g.spot i ≡ Some j → (b : Bool) → (i == n) ≡ b → (with_spot n at g).spot i ≡ Some j
      by i j q true k =
          let here : i ≡ n = grind (arith, nat_tests) in
          ap (λ b. if b then Some at else g.spot i) k ∙ ap Some (sym (same_temp j (ap g.spot (sym here) ∙ q)))
      by i j q false k = ap (λ b. if b then Some at else g.spot i) k ∙ q

  -- what follows a block follows its statements
  pub inside : (g h : Scene) (x : Exits) (ds : List Declared) (c : Code) → Enter_runs g ds h c →
      (s u : State Store) (next : Flow → State Store → Fate) (rest : List TacInstr) → Comes s u →
      Follow g x rest s next →
      Follow h x rest u (λ fl v. leave ops w ds v (λ q. next fl))
  inside g h x ds c e s u next rest came go = record {
    goes_on = λ v vs c2 a. e.leaves v (λ q. next Goes)
        ∙ go.goes_on v vs (came_then ops placed w t p objects r call result s u v came c2) (e.outward v vs a);
    breaks = λ b q v vs c2 a. e.leaves v (λ i. next Breaks)
        ∙ go.breaks b q v vs (came_then ops placed w t p objects r call result s u v came c2) (e.outward v vs a);
    continues = λ b q v vs c2 a. e.leaves v (λ i. next Continues)
        ∙ go.continues b q v vs (came_then ops placed w t p objects r call result s u v came c2) (e.outward v vs a);
    returns = λ y2 v vs c2 i. e.leaves v (λ q. next (Returns y2))
        ∙ go.returns y2 v vs (came_then ops placed w t p objects r call result s u v came c2) i;
  }

  pub block_statement : (g h : Scene) (x : Exits) (ds : List Declared) (ss : Sts) (m n : Mark) (c d : Code) →
      Enter_runs g ds h c → StatementsRun ops w t p objects r call result h x ss m n d →
      Statement_runs g x (Block ds ss) m n (λ rest. c (d rest))
  block_statement g h x ds ss m n c d e y = record {
    piece = both_own m m n c d (record { temps = omega arith; labels = omega arith; own = λ o rest k. e.plain o rest })
        y.piece;
    runs = λ s ts next rest room before known ag go.
        let low = room.low in let high = room.high in let same_fixed = e.fixed in let same_size = e.size in
        e.runs s ts (λ i u. execs ops w call ss u (λ fl v. leave ops w ds v (λ q. next fl))) (d rest) ag
        (λ u us came a kept. y.runs u us (λ fl v. leave ops w ds v (λ q. next fl)) rest
        (record { low = omega arith; high = omega arith }) before
        (λ o ge lt. known o ge lt ∙ e.plain o (d rest)) a (inside g h x ds c e s u next rest came go));
  }

  pub for_statement : (g h : Scene) (x : Exits) (ds : List Declared) (first : Sts) (test : Option (Pos × Kind × Ex))
      (step : Option Ex) (b : St) (k l m n o : Mark) (a c d f i : Code) → Enter_runs g ds h a →
      StatementsRun ops w t p objects r call result h x first k l i
      → Test_runs h test (l.labels + 2) (labelled 3 l) m c →
      Statement_runs h (in_loop (l.labels + 2) (l.labels + 1)) b m n d → Step_runs h step n o f →
      Statement_runs g x (For ds first test step b) k o (λ rest. a (i (loop_code l.labels c d f rest)))
  for_statement g h x ds first test step b k l m n o a c d f i e y tr br sr = record {
    piece = both_own k k o a (λ rest. i (loop_code l.labels c d f rest))
        (record { temps = omega arith; labels = omega arith; own = λ z rest q. e.plain z rest })
        (both_own k l o i (loop_code l.labels c d f) y.piece (loop_own h x test step b l m n o c d f tr br sr));
    runs = λ s ts next rest room before known ag go.
        let low = room.low in let high = room.high in let same_fixed = e.fixed in let same_size = e.size in
        let own = loop_own h x test step b l m n o c d f tr br sr in
        let kl = y.piece.temps in let lo = own.temps in let kll = y.piece.labels in let llo = own.labels in
        let all = loop_code l.labels c d f rest in
        let known_i : Is_known k o (i all) = λ z ge lt. known z ge lt ∙ e.plain z (i all) in
        let over : (z : ℕ) → z < k.labels → behind z all ≡ behind z rest =
        λ z lt. own.own z rest (λ q. absurd (omega arith)) in
        let last : Flow → State Store → Fate = λ fl v. leave ops w ds v (λ q. next fl) in
        let body : Then Store Flow = λ u. loop (suc u.left) (test_of ops w call test) (exec ops w call b)
        (step_of ops w call step) u in
        e.runs s ts (λ q u. execs ops w call first u (λ fl v. after fl body v last)) (i all) ag (λ u us came a2 kept.
        let fo = inside g h x ds a e s u next rest came go in
        y.runs u us (λ fl v. after fl body v last) all (record { low = omega arith; high = omega arith }) before
        (known_within ops placed w t p objects r call result k k l o (i all) (omega arith) llo known_i) a2 (record {
          goes_on = λ v vs c2 a3. looped h x test step b l m n o c d f tr br sr rest
              (record { low = omega arith; high = omega arith })
              (before_more ops placed w t p objects r call result k l x kll before)
              (known_behind ops placed w t p objects r call result k l o i all y.piece
              (known_within ops placed w t p objects r call result k l o o (i all) kll (omega arith) known_i))
              last v vs a3
              (follows_from ops placed w t p objects r call result h x rest u v last c2 fo);
          breaks = λ z q v vs c2 a3. fo.breaks z q v vs c2 a3
              ∙ ap (λ j. run h j v vs) (sym (over z (before_some ops placed w t p objects r call result k x.breaks z
              before.breaks q)));
          continues = λ z q v vs c2 a3. fo.continues z q v vs c2 a3
              ∙ ap (λ j. run h j v vs) (sym (over z (before_some ops placed w t p objects r call result k x.continues z
              before.continues q)));
          returns = λ z v vs c2 j. fo.returns z v vs c2 j;
        }));
  }

  -- ---- the initialisation of a scalar in an object

  within_plain : (base offset : ℕ) (m : Mark) (o : ℕ) (rest : List TacInstr) →
      behind o (within base offset m rest) ≡ behind o rest
  within_plain base zero m o rest = refl
  within_plain base (suc n) m o rest = refl

  within_more : (offset : ℕ) (m : Mark) →
      (m.temps ≤ (within_mark offset m).temps) × (m.labels ≡ (within_mark offset m).labels)
  within_more zero m = (omega arith, refl)
  within_more (suc n) m = (omega arith, refl)

  -- the value in a temp is stored in a part of an object
  placed_part : (g : Scene) → IsScene g →
      (q : Pos) (o base offset from : ℕ) (k : TacKind) (m n : Mark) (f : ℕ → Bool) (s u : State Store)
      (ts us : List (Option Value)) (v : Value) (l : State Store → Fate) (rest : List TacInstr) → g.spot o ≡ Some base →
      IsOf (kind_of k) v →
      HasRoom g m (within_mark offset n)
      → m.temps ≤ n.temps → from < n.temps → slice_get us from ≡ Some (Some v) → Done ops g f m s ts u us →
      ((z : State Store) (zs : List (Option Value)) → Comes s z → Agrees ops g None z zs → l z ≡ run g rest z zs)
      → part_of_local ops w q o offset u (λ pl y. store ops w (kind_of k) pl v y (λ i z. l z))
      ≡ run g (within base offset n (instr.Store (within_temp base offset n) from k q ∷ rest)) u us
  placed_part g scene q o base zero from k m n f s u ts us v l rest spot typed room le lt hv done go =
      let whole_one = ops.whole u.mem (u.first + o) data_permissions in
      ap (λ z. answer q z u (λ y s2. store ops w (kind_of k) (At q y) v s2 (λ i z2. l z2)))
      (placed.offset_none u.mem (u.first + o) data_permissions done.agrees.sound
      (let all = done.agrees.there in let below = scene.spot_counted o base spot in omega arith))
      ∙ stored ops placed w t p objects r call g scene k base from q q whole_one v u us rest l refl typed
      (done.agrees.object o base spot) hv
      (λ mem on. let d2 = done_memory ops placed w t p objects r call g scene f m s u ts us mem on done in
      go (record u { mem = mem }) us (came_done ops placed w t p objects r call result g f m s
      (record u { mem = mem }) ts us d2) d2.agrees)
  placed_part g scene q o base (suc j) from k m n f s u ts us v l rest spot typed room le lt hv done go =
      let low = room.low in let high = room.high in
      let whole_one = ops.whole u.mem (u.first + o) data_permissions in
      let y = placed.offset u.mem whole_one (suc j) in
      let vs = slice_set us n.temps (Some y.0) in
      let is = done.agrees.room in
      let done2 : Done ops g f m s ts u vs = record {
        agrees = agrees_scratch ops g scene u us n.temps (Some y.0) (omega arith) done.agrees;
        went = went_set ops g scene f f m.temps m.temps None None s u ts us n.temps (Some y.0) (λ i z. z) (omega arith)
            (λ i lt2 z. (tt, λ e. absurd (omega arith))) done.went;
      } in
      let after : Value → Fate = λ z. answer no_position (ops.offset u.mem z (suc j)) (record u { vars = us })
      (λ y2 s2. turns ops w t p objects u.left (instr.Store n.temps from k q ∷ rest) Runs r
      (record s2 { vars = slice_set s2.vars n.temps (Some y2) })) in
      ap (λ z. answer q z u (λ y2 s2. store ops w (kind_of k) (At q y2) v s2 (λ i z2. l z2))) y.1
      ∙ stored ops placed w t p objects r call g scene k n.temps from q q y.0 v u vs rest l refl typed
      (get_set_same us n.temps (Some y.0) (omega arith))
      (get_set_other us n.temps from (Some y.0) (λ e. absurd (omega arith)) ∙ hv)
      (λ mem on. let d2 = done_memory ops placed w t p objects r call g scene f m s u ts vs mem on done2 in
      go (record u { mem = mem }) vs (came_done ops placed w t p objects r call result g f m s
      (record u { mem = mem }) ts vs d2) d2.agrees)
      ∙ sym (ap after (held_is ops w t p objects r call g scene us base whole_one (done.agrees.object o base spot))
      ∙ ap (λ z. answer no_position z (record u { vars = us })
      (λ y2 s2. turns ops w t p objects u.left (instr.Store n.temps from k q ∷ rest) Runs r
      (record s2 { vars = slice_set s2.vars n.temps (Some y2) }))) y.1)

  pub object_statement : (g : Scene) → IsScene g →
      (x : Exits) (q : Pos) (o base offset from : ℕ) (k : TacKind) (e : Ex) (m n : Mark) (c : Code) →
      g.spot o ≡ Some base → OperandRuns ops w t p objects r call g Nil k e from m n c
      → Statement_runs g x (Init q o offset (kind_of k) e) m (within_mark offset n)
      (λ rest. c (within base offset n (instr.Store (within_temp base offset n) from k q ∷ rest)))
  object_statement g scene x q o base offset from k e m n c spot h = record {
    piece = let i = within_more offset n in
        then_own m n (within_mark offset n) c (λ rest.
        within base offset n (instr.Store (within_temp base offset n) from k q ∷ rest)) i.0 i.1
        (λ z rest. within_plain base offset n z (instr.Store (within_temp base offset n) from k q ∷ rest)) h.piece;
    runs = λ s ts l rest room before known ag go.
        let i = within_more offset n in let low = room.low in let high = room.high in let le = i.0 in
        let mn = h.piece.temps in
        h.runs s ts (λ v u. part_of_local ops w q o offset u
        (λ pl y. store ops w (kind_of k) pl v y (λ z z2. l Goes z2)))
        (within base offset n (instr.Store (within_temp base offset n) from k q ∷ rest))
        (record { low = low; high = omega arith }) ag
        (λ v u us a. placed_part g scene q o base offset from k m n (λ z. spares z e) s u ts us v
        (l Goes) rest spot a.typed room mn (stays_below ops g scene Nil m.temps n.temps from (omega arith) a.stays)
        a.value a.done
        (λ z zs came a2. go.goes_on z zs came a2));
  }
