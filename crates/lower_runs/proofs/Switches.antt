-- The body of a `switch`.
use Rattle.std.proofs.Common.{◌≡◌, ◌≢◌, ℕ, zero, suc, ◌+◌, ◌≤◌, ◌<◌, Bool, true, false, List, [], ◌∷◌, Option, Some}
use Rattle.std.proofs.Common.{None, refl, sym, ap, ◌∙◌, arith, if◌then◌else◌}
use Rattle.std.specs.Prelude.{slice_get, ◌==◌}
use Rattle.std.proofs.lemmas.Bool.Decides.{nat_tests}
use Rattle.ck_base.specs.World.{World}
use Rattle.c_tree.specs.declared.typed.Typed.{Typed}
use Rattle.obj_mem.specs.Values.{Value}
use Rattle.cheri_c_sem.specs.Modes.{Store}
use Rattle.cheri_c_sem.specs.Operations.{Operations}
use Rattle.cheri_c_sem.specs.Statements.{Flow, after, execs, execs_from}
use Rattle.cheri_c_sem.specs.Steps.{State, Fate, Then}
use Rattle.cheri_c_sem.specs.Tree.{Label, St, Sts, End, Seq}
use Rattle.tac_ir.specs.Meaning.{Running}
use Rattle.tac_ir.specs.Temps.{behind}
use Rattle.tac_ir.specs.declared.code.Tac.{Tac}
use Rattle.tac_ir.specs.declared.code.TacInstr.{TacInstr}
use Rattle.tac_ir.specs.declared.code.TacInstr.TheVariants as instr
use Rattle.tac_ir.specs.declared.code.TacKind.{TacKind}
use Rattle.lower_runs.specs.States.{Scene, IsPlaced, Agrees}
use Rattle.lower_runs.specs.Operating.{Code}
use Rattle.lower_runs.specs.Expressions.{Mark}
use Rattle.lower_runs.specs.Statements.{Exits, stands_before, stand_code, count_labels, count_statements}
use Rattle.lower_runs.specs.Simulation.{HasRoom, goes}
use Rattle.lower_runs.specs.Following.{AreBefore, Known, Follows, StatementRuns, BodyRuns}
use Rattle.lower_runs.proofs.Labels.{pass_label, found_label}
use Rattle.lower_runs.proofs.Statements.{came_same, before_more, before_some, follows_from, known_within, known_behind}

same_label : (x y : Label) → Some x ≡ Some y → x ≡ y
same_label x y e = cc

index_below : (ls : List Label) (i : ℕ) (b : Label) → slice_get ls i ≡ Some b → i < count_labels ls
index_below [] i b e = absurd cc
index_below (x ∷ ls) zero b e = omega arith
index_below (x ∷ ls) (suc i) b e = let lt = index_below ls i b e in omega arith

-- ---- labels before a statement

-- other labels are looked for behind them
stand_own : (label number : ℕ) (ls : List Label) (o : ℕ) (rest : List TacInstr) →
    (label ≤ o → label + count_labels ls ≤ o) → behind o (stand_code label number ls rest) ≡ behind o rest
stand_own label number [] o rest h = refl
stand_own label number (x ∷ ls) o rest h =
    by (stands_before x == number)
    (stand_own (label + 1) number ls o rest (λ le. let q = h (omega arith) in omega arith))
  where
    by : (b : Bool) → behind o (stand_code (label + 1) number ls rest) ≡ behind o rest →
        behind o (if b then instr.Label label ∷ stand_code (label + 1) number ls rest
        else stand_code (label + 1) number ls rest) ≡ behind o rest
    by true more = pass_label label o (stand_code (label + 1) number ls rest)
        (λ e. let q = h (omega arith) in absurd (omega arith)) ∙ more
    by false more = more

-- one that stands before another statement too
stand_skips : (label number : ℕ) (ls : List Label) (i : ℕ) (b : Label) (rest : List TacInstr) →
    slice_get ls i ≡ Some b → stands_before b ≢ number →
    behind (label + i) (stand_code label number ls rest) ≡ behind (label + i) rest
stand_skips label number [] i b rest e ne = absurd cc
stand_skips label number (x ∷ ls) zero b rest e ne = by (stands_before x == number) refl
  where
    by : (c : Bool) → (stands_before x == number) ≡ c →
        behind (label + 0) (if c then instr.Label label ∷ stand_code (label + 1) number ls rest
        else stand_code (label + 1) number ls rest) ≡ behind (label + 0) rest
    by true q = absurd (ne (ap stands_before (sym (same_label x b e)) ∙ equal (stands_before x) number q))
      where
        equal : (i j : ℕ) → (i == j) ≡ true → i ≡ j
        equal i j h = grind (arith, nat_tests)
    by false q = stand_own (label + 1) number ls (label + 0) rest (λ le. absurd (omega arith))
stand_skips label number (x ∷ ls) (suc i) b rest e ne =
    let next : label + suc i ≡ label + 1 + i = omega arith in
    by (stands_before x == number)
    (ap (λ z. behind z (stand_code (label + 1) number ls rest)) next ∙ stand_skips (label + 1) number ls i b rest e ne
    ∙ ap (λ z. behind z rest) (sym next))
  where
    by : (c : Bool) → behind (label + suc i) (stand_code (label + 1) number ls rest) ≡ behind (label + suc i) rest →
        behind (label + suc i) (if c then instr.Label label ∷ stand_code (label + 1) number ls rest
        else stand_code (label + 1) number ls rest) ≡ behind (label + suc i) rest
    by true more =
        pass_label label (label + suc i) (stand_code (label + 1) number ls rest) (λ q. absurd (omega arith)) ∙ more
    by false more = more

module _ (ops : Operations Store) (placed : IsPlaced ops) (w : World) (t : Tac) (p : Typed)
    (objects : ℕ → List ℕ) (r : Running) (call : ℕ → List Value → Then Store Value) (result : Option TacKind) where
  abbrev run : Scene → List TacInstr → State Store → List (Option Value) → Fate
  run = goes ops w t p objects r call

  abbrev Body_runs : (g : Scene) (x : Exits) (label : ℕ) (ls : List Label) (number : ℕ) (ss : Sts) (m n : Mark)
      (c : Code) → Type 0
  Body_runs = BodyRuns ops w t p objects r call result

  -- labels are passed
  stand_passes : (g : Scene) (label number : ℕ) (ls : List Label) (rest : List TacInstr) (s : State Store)
      (ts : List (Option Value)) → run g (stand_code label number ls rest) s ts ≡ run g rest s ts
  stand_passes g label number [] rest s ts = refl
  stand_passes g label number (x ∷ ls) rest s ts =
      by (stands_before x == number) (stand_passes g (label + 1) number ls rest s ts)
    where
      by : (b : Bool) → run g (stand_code (label + 1) number ls rest) s ts ≡ run g rest s ts →
          run g (if b then instr.Label label ∷ stand_code (label + 1) number ls rest
          else stand_code (label + 1) number ls rest) s ts ≡ run g rest s ts
      by true more = more
      by false more = more

  -- one of them leads behind it, and so to the statement
  stand_leads : (g : Scene) (label number : ℕ) (ls : List Label) (i : ℕ) (b : Label) (rest : List TacInstr)
      (s : State Store) (ts : List (Option Value)) → slice_get ls i ≡ Some b → stands_before b ≡ number →
      run g (behind (label + i) (stand_code label number ls rest)) s ts ≡ run g rest s ts
  stand_leads g label number [] i b rest s ts e is = absurd cc
  stand_leads g label number (x ∷ ls) zero b rest s ts e is = by (stands_before x == number) refl
    where
      equal : (i j : ℕ) → i ≡ j → (i == j) ≡ true
      equal i j h = grind (arith, nat_tests)

      no : (c : Bool) → c ≡ true → c ≡ false → ⊥
      no true h k = cc
      no false h k = cc

      here : label + 0 ≡ label
      here = omega arith

      by : (c : Bool) → (stands_before x == number) ≡ c →
          run g (behind (label + 0) (if c then instr.Label label ∷ stand_code (label + 1) number ls rest
          else stand_code (label + 1) number ls rest)) s ts ≡ run g rest s ts
      by true q = ap (λ z. run g (behind z (instr.Label label ∷ stand_code (label + 1) number ls rest)) s ts) here
          ∙ ap (λ z. run g z s ts) (found_label label (stand_code (label + 1) number ls rest))
          ∙ stand_passes g (label + 1) number ls rest s ts
      by false q = absurd (no (stands_before x == number)
          (equal (stands_before x) number (ap stands_before (same_label x b e) ∙ is)) q)
  stand_leads g label number (x ∷ ls) (suc i) b rest s ts e is =
      let next : label + suc i ≡ label + 1 + i = omega arith in
      by (stands_before x == number)
      (ap (λ z. run g (behind z (stand_code (label + 1) number ls rest)) s ts) next
      ∙ stand_leads g (label + 1) number ls i b rest s ts e is)
    where
      by : (c : Bool) → run g (behind (label + suc i) (stand_code (label + 1) number ls rest)) s ts ≡ run g rest s ts →
          run g (behind (label + suc i) (if c then instr.Label label ∷ stand_code (label + 1) number ls rest
          else stand_code (label + 1) number ls rest)) s ts ≡ run g rest s ts
      by true more = ap (λ z. run g z s ts)
          (pass_label label (label + suc i) (stand_code (label + 1) number ls rest) (λ q. absurd (omega arith))) ∙ more
      by false more = more

  -- ---- behind the last statement

  pub body_end : (g : Scene) (x : Exits) (label number : ℕ) (ls : List Label) (m : Mark) →
      Body_runs g x label ls number End m m (stand_code label number ls)
  body_end g x label number ls m = record {
    temps = omega arith;
    labels = omega arith;
    own = λ o rest h k. stand_own label number ls o rest k;
    runs = λ s ts l rest room before known ag go.
        go.goes_on s ts (came_same ops placed w t p objects r call result s) ag
        ∙ sym (stand_passes g label number ls rest s ts);
    enters = λ i j b e is le s ts l rest room before known ag go.
        go.goes_on s ts (came_same ops placed w t p objects r call result s) ag
        ∙ sym (stand_leads g label number ls i b rest s ts e (is ∙ omega arith));
  }

  -- ---- a statement and those that follow

  module _ (g : Scene) (x : Exits) (label number : ℕ) (ls : List Label) (a : St) (ss : Sts) (l m n : Mark) (c d : Code)
      (below : label + count_labels ls ≤ l.labels) (f : StatementRuns ops w t p objects r call result g x a l m c)
      (h : Body_runs g x label ls (number + 1) ss m n d) where
    abbrev Knows : Mark → Mark → List TacInstr → Type 0
    Knows = Known ops w t p objects r call result

    -- the labels of the statements are not those of the `switch`
    known_in : (rest : List TacInstr) → Knows l n (stand_code label number ls (c (d rest))) → Knows l n (c (d rest))
    known_in rest known o ge lt = known o ge lt ∙ stand_own label number ls o (c (d rest)) (λ le. omega arith)

    known_later : (rest : List TacInstr) → Knows l n (stand_code label number ls (c (d rest))) → Knows m n (d rest)
    known_later rest known = let llm = f.piece.labels in
        known_behind ops placed w t p objects r call result l m n c (d rest) f.piece
        (known_within ops placed w t p objects r call result l m n n (c (d rest)) llm (omega arith)
        (known_in rest known))

    in_order : (s : State Store) (ts : List (Option Value)) (next : Flow → State Store → Fate) (rest : List TacInstr) →
        HasRoom g l n → AreBefore (record l { labels = label }) x →
        Knows l n (stand_code label number ls (c (d rest))) → Agrees ops g None s ts →
        Follows ops w t p objects r call result g x rest s next
        → execs ops w call (Seq a ss) s next ≡ run g (c (d rest)) s ts
    in_order s ts next rest room before known ag go =
        let low = room.low in let high = room.high in let lm = f.piece.temps in let mn = h.temps in
        let llm = f.piece.labels in let lmn = h.labels in
        let labels : (b : ℕ) → b < label → behind b (d rest) ≡ behind b rest =
        λ b lt. h.own b rest (λ le. absurd (omega arith)) (λ le. absurd (omega arith)) in
        f.runs s ts (λ y u. after y (execs ops w call ss) u next) (d rest)
        (record { low = low; high = omega arith })
        (before_more ops placed w t p objects r call result (record l { labels = label }) l x (omega arith) before)
        (known_within ops placed w t p objects r call result l l m n (c (d rest)) (omega arith) lmn
        (known_in rest known)) ag (record {
          goes_on = λ u us came a2. h.runs u us next rest (record { low = omega arith; high = high })
              (before_more ops placed w t p objects r call result (record l { labels = label })
              (record m { labels = label }) x (omega arith) before) (known_later rest known) a2
              (follows_from ops placed w t p objects r call result g x rest s u next came go);
          breaks = λ b e u us came a2. go.breaks b e u us came a2
              ∙ ap (λ z. run g z u us) (sym (labels b (before_some ops placed w t p objects r call result
              (record l { labels = label }) x.breaks b before.breaks e)));
          continues = λ b e u us came a2. go.continues b e u us came a2
              ∙ ap (λ z. run g z u us) (sym (labels b (before_some ops placed w t p objects r call result
              (record l { labels = label }) x.continues b before.continues e)));
          returns = λ v u us came i. go.returns v u us came i;
        })

    pub body_among : Body_runs g x label ls number (Seq a ss) l n (λ rest. stand_code label number ls (c (d rest)))
    body_among = record {
      temps = let lm = f.piece.temps in let mn = h.temps in omega arith;
      labels = let llm = f.piece.labels in let lmn = h.labels in omega arith;
      own = λ o rest i k. let llm = f.piece.labels in let lmn = h.labels in
          stand_own label number ls o (c (d rest)) k
          ∙ f.piece.own o (d rest) (λ le. let q = i le in omega arith)
          ∙ h.own o rest (λ le. i (omega arith)) k;
      runs = λ s ts next rest room before known ag go.
          in_order s ts next rest room before known ag go
          ∙ sym (stand_passes g label number ls (c (d rest)) s ts);
      enters = λ i j b e is le s ts next rest room before known ag go.
          entered i j b e is le s ts next rest room before known ag go;
    }
      where
        entered : (i j : ℕ) (b : Label) → slice_get ls i ≡ Some b → stands_before b ≡ number + j →
            j ≤ count_statements (Seq a ss) → (s : State Store) (ts : List (Option Value))
            (next : Flow → State Store → Fate) (rest : List TacInstr) → HasRoom g l n →
            AreBefore (record l { labels = label }) x → Knows l n (stand_code label number ls (c (d rest))) →
            Agrees ops g None s ts → Follows ops w t p objects r call result g x rest s next
            → execs_from ops w call (Seq a ss) j s next
            ≡ run g (behind (label + i) (stand_code label number ls (c (d rest)))) s ts
        entered i zero b e is le s ts next rest room before known ag go =
            in_order s ts next rest room before known ag go
            ∙ sym (stand_leads g label number ls i b (c (d rest)) s ts e (is ∙ omega arith))
        entered i (suc j) b e is le s ts next rest room before known ag go =
            let low = room.low in let high = room.high in let lm = f.piece.temps in
            let lt = index_below ls i b e in
            h.enters i j b e (is ∙ omega arith) (omega arith) s ts next rest
            (record { low = omega arith; high = high })
            (before_more ops placed w t p objects r call result (record l { labels = label })
            (record m { labels = label }) x (omega arith) before) (known_later rest known) ag go
            ∙ ap (λ z. run g z s ts) (sym (stand_skips label number ls i b (c (d rest)) e
            (λ q. absurd (omega arith)) ∙ f.piece.own (label + i) (d rest) (λ le2. absurd (omega arith))))
