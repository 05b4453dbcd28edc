-- Copies of structs and unions.
use Rattle.std.proofs.Common.{◌≡◌, ℕ, zero, suc, ◌+◌, ◌≤◌, Bool, true, false, List, ◌∷◌}
use Rattle.std.proofs.Common.{Option, Some, None, Result, Ok, Err, refl, sym, ap, ◌∙◌, arith}
use Rattle.std.specs.Prelude.{◌/◌, slice_get, slice_set, ◌&&◌}
use Rattle.ck_base.specs.World.{World}
use Rattle.ck_base.specs.declared.positions.Pos.{Pos}
use Rattle.c_tree.specs.declared.typed.Typed.{Typed}
use Rattle.obj_mem.specs.Values.{Value}
use Rattle.obj_mem.specs.declared.ending.UnitFault.{UnitFault}
use Rattle.cheri_c_sem.specs.Kinds.{nothing}
use Rattle.cheri_c_sem.specs.Modes.{Store}
use Rattle.cheri_c_sem.specs.Meaning.{copy, copy_units, further, position_of, Place, At, capability_of}
use Rattle.cheri_c_sem.specs.Meaning.{place_of}
use Rattle.cheri_c_sem.specs.Operations.{Operations}
use Rattle.cheri_c_sem.specs.Steps.{unit_answer, State, Fate, Then, answer}
use Rattle.cheri_c_sem.specs.Tree.{Copy, Ex, Exs, Nil, Cons, Aggregate}
use Rattle.cheri_c_sem.specs.Tree.{Conditional, Comma}
use Rattle.tac_ir.specs.Effects.{kind_of, held}
use Rattle.tac_ir.specs.Meaning.{Running, Runs, turns}
use Rattle.tac_ir.specs.Temps.{behind}
use Rattle.tac_ir.specs.declared.code.Tac.{Tac}
use Rattle.tac_ir.specs.declared.code.TacInstr.{TacInstr}
use Rattle.tac_ir.specs.declared.code.TacInstr.TheVariants as instr
use Rattle.tac_ir.specs.declared.code.TacKind.{TacKind}
use Rattle.lower_runs.specs.States.{Scene, IsScene, IsOnward, IsPlaced}
use Rattle.lower_runs.specs.Operating.{Code, transfer}
use Rattle.lower_runs.specs.Expressions as code
use Rattle.lower_runs.specs.Expressions.{Target, target_mark, target_code, target_temp, Mark, more, labelled, spares}
use Rattle.lower_runs.specs.Expressions.{spare, position_in, int_kind, pointer_kind, is_still, is_still_place}
use Rattle.lower_runs.specs.Expressions.{is_variable, same, choice_code, guarded_code, IsBase, IsOwn}
use Rattle.lower_runs.specs.Simulation as stay
use Rattle.lower_runs.specs.Simulation.{CopyRuns, Finishes, IsPiece, HasRoom, IsTarget, IsTargetIfAny, Stays, Done}
use Rattle.lower_runs.specs.Simulation.{Valued, Held, Reached, Pointed, Assigned, ValueRuns, OperandRuns, PairRuns}
use Rattle.lower_runs.specs.Simulation.{EffectRuns, PlaceEffectRuns, ConditionRuns, PlaceRuns, PointerRuns}
use Rattle.lower_runs.specs.Simulation.{AssignmentRuns, goes, kinds}
use Rattle.lower_runs.proofs.Agreement.{onward_same, onward_then, stays_below, and_left, and_right}
use Rattle.lower_runs.proofs.Agreement.{stays, done_start, done_then}
use Rattle.lower_runs.proofs.Labels.{both_own, then_own, choice_own}
use Rattle.lower_runs.proofs.Steps.{held_is, transfer_runs}
use Rattle.lower_runs.proofs.Operations.{transfer_plain}
use Rattle.lower_runs.proofs.Conditions.{chosen}
use Rattle.lower_runs.proofs.Places.{lands_there}

module _ (ops : Operations Store) (placed : IsPlaced ops) (w : World) (t : Tac) (p : Typed)
    (objects : ℕ → List ℕ) (r : Running) (call : ℕ → List Value → Then Store Value) (g : Scene)
    (scene : IsScene g) where
  abbrev run : List TacInstr → State Store → List (Option Value) → Fate
  run = goes ops w t p objects r call g

  abbrev Value_runs : (k : TacKind) (e : Ex) (to : ℕ) (m n : Mark) (c : Code) → Type 0
  Value_runs = ValueRuns ops w t p objects r call g

  abbrev Operand_runs : (later : Exs) (k : TacKind) (e : Ex) (at : ℕ) (m n : Mark) (c : Code) → Type 0
  Operand_runs = OperandRuns ops w t p objects r call g

  abbrev Effect_runs : (e : Ex) (m n : Mark) (c : Code) → Type 0
  Effect_runs = EffectRuns ops w t p objects r call g

  abbrev Place_effect_runs : (e : Ex) (m n : Mark) (c : Code) → Type 0
  Place_effect_runs = PlaceEffectRuns ops w t p objects r call g

  abbrev Condition_runs : (k : TacKind) (e : Ex) (when : Bool) (label : ℕ) (m n : Mark) (c : Code) → Type 0
  Condition_runs = ConditionRuns ops w t p objects r call g

  abbrev Place_runs : (e : Ex) (to : ℕ) (m n : Mark) (c : Code) → Type 0
  Place_runs = PlaceRuns ops w t p objects r call g

  abbrev Pointer_runs : (later : Exs) (e : Ex) (at : ℕ) (m n : Mark) (c : Code) → Type 0
  Pointer_runs = PointerRuns ops w t p objects r call g

  -- ---- copies

  -- units are copied alike whatever the variables are
  pub units_same : (n unit i : ℕ) (from to : Place) (u : State Store) (us : List (Option Value))
      (k l : Unit {0} → State Store → Fate) →
      ((m : Store) → IsOnward ops u.mem m → k tt (record u { mem = m }) ≡ l tt (record u { mem = m; vars = us }))
      → copy_units ops w n unit i from to u k ≡ copy_units ops w n unit i from to (record u { vars = us }) l
  units_same zero unit i from to u us k l h = h u.mem (onward_same ops u.mem)
  units_same (suc n) unit i from to u us k l h =
      by (λ m on. units_same n unit (i + unit) from to (record u { mem = m }) us k l
      (λ m2 on2. h m2 (onward_then ops u.mem m m2 on on2)))
      (ops.copy_unit u.mem (further (capability_of from) i) (further (capability_of to) i) unit) refl
    where
      by : ((m : Store) → IsOnward ops u.mem m →
          copy_units ops w n unit (i + unit) from to (record u { mem = m }) k
          ≡ copy_units ops w n unit (i + unit) from to (record u { mem = m; vars = us }) l)
          → (x : Result Store UnitFault) →
          ops.copy_unit u.mem (further (capability_of from) i) (further (capability_of to) i) unit ≡ x
          → unit_answer (position_of from) (position_of to) x u
          (λ m y. copy_units ops w n unit (i + unit) from to (record y { mem = m }) k)
          ≡ unit_answer (position_of from) (position_of to) x (record u { vars = us })
          (λ m y. copy_units ops w n unit (i + unit) from to (record y { mem = m }) l)
      by ih (Err f) is = refl
      by ih (Ok m) is = ih m (placed.copy_unit u.mem m (further (capability_of from) i)
          (further (capability_of to) i) unit is)

  abbrev Copy_runs : Target → Pos → ℕ → ℕ → Ex → Mark → Mark → Code → Type 0
  Copy_runs = CopyRuns ops w t p objects r call g

  pub plain_copy : (to : Target) (s q : Pos) (bytes unit at : ℕ) (e : Ex) (m n : Mark) (c : Code) →
      position_in e ≡ Some q → Pointer_runs Nil e at m n c →
      Copy_runs to s bytes unit e m (target_mark to n)
      (λ rest. c (target_code to n (instr.CopyUnits at (target_temp to n) bytes unit q s ∷ rest)))
  plain_copy to s q bytes unit at e m n c position h = record {
    piece = let i = target_more to n in
        then_own m n (target_mark to n) c (λ rest.
        target_code to n (instr.CopyUnits at (target_temp to n) bytes unit q s ∷ rest)) i.0 i.1
        (λ o rest. target_plain to n o (instr.CopyUnits at (target_temp to n) bytes unit q s ∷ rest)) h.piece;
    runs = λ last st ts l rest room ag finish go.
        let i = target_more to n in let le = i.0 in let low = room.low in let high = room.high in
        let mn = h.piece.temps in
        h.runs st ts (λ from u. last from u l) (target_code to n
        (instr.CopyUnits at (target_temp to n) bytes unit q s ∷ rest))
        (record { low = low; high = omega arith }) ag
        (λ o v u us a. ap (λ z. last (At z v) u l) (a.position q position)
        ∙ finish q v at n u us rest a.done mn high
        (stays_below ops g scene Nil m.temps n.temps at (omega arith) a.stays) a.value
        (λ z zs two. go z zs (done_then ops g scene (λ x. spares x e) (λ x. true) (λ x. spares x e) m n st u z ts us zs
        (λ x i. i) (λ x i. refl) mn a.done two)));
  }
    where
      target_more : (to : Target) (n : Mark) →
          (n.temps ≤ (target_mark to n).temps) × (n.labels ≡ (target_mark to n).labels)
      target_more (code.Reaches i) n = (omega arith, refl)
      target_more (code.Within base zero) n = (omega arith, refl)
      target_more (code.Within base (suc offset)) n = (omega arith, refl)

      target_plain : (to : Target) (n : Mark) (o : ℕ) (rest : List TacInstr) →
          behind o (target_code to n rest) ≡ behind o rest
      target_plain (code.Reaches i) n o rest = refl
      target_plain (code.Within base zero) n o rest = refl
      target_plain (code.Within base (suc offset)) n o rest = refl

  pub aggregate_copy : (to : Target) (s : Pos) (bytes unit : ℕ) (e : Ex) (m n : Mark) (c : Code) →
      Copy_runs to s bytes unit e m n c → Copy_runs to s bytes unit (Aggregate e) m n c
  aggregate_copy to s bytes unit e m n c h =
      record {
        piece = h.piece;
        runs = λ last st ts l rest room ag finish go. h.runs last st ts l rest room ag finish go;
      }

  -- the last step goes on alike from a later state
  finishes_later : (to : Target) (q : Pos) (bytes unit : ℕ) (f h k : ℕ → Bool) (l m : Mark) (s u : State Store)
      (ts us : List (Option Value)) (last : Place → Then Store (Unit {0})) (next : Unit {0} → State Store → Fate) →
      ((x : ℕ) → k x ≡ true → f x ≡ true) → ((x : ℕ) → k x ≡ true → h x ≡ true)
      → l.temps ≤ m.temps → Done ops g f l s ts u us →
      Finishes ops w t p objects r call g to q bytes unit k l s ts last next →
      Finishes ops w t p objects r call g to q bytes unit h m u us last next
  finishes_later to q bytes unit f h k l m s u ts us last next kf kh le one finish =
      λ o v at i z zs rest two mi size lt value go.
      finish o v at i z zs rest (done_then ops g scene f h k l m s u z ts us zs kf kh le one two)
      (omega arith) size lt value go

  pub comma_copy : (to : Target) (s : Pos) (bytes unit : ℕ) (a b : Ex) (l m n : Mark) (c d : Code) →
      Effect_runs a l m c → Copy_runs to s bytes unit b m n d →
      Copy_runs to s bytes unit (Comma a b) l n (λ rest. c (d rest))
  comma_copy to s bytes unit a b l m n c d f h = record {
    piece = both_own l m n c d f.piece h.piece;
    runs = λ last st ts next rest room ag finish go.
        let low = room.low in let high = room.high in let lm = f.piece.temps in let mn = h.piece.temps in
        f.runs st ts (λ v u. place_of ops w call b u (λ from z. last from z next)) (d rest)
        (record { low = low; high = omega arith }) ag
        (λ v u us one. h.runs last u us next rest (record { low = omega arith; high = high }) one.agrees
        (finishes_later to s bytes unit (λ i. spares i a) (λ i. spares i b)
        (λ i. spares i a && spares i b) l m st u ts us last next (λ i e. and_left (spares i a) (spares i b) e)
        (λ i e. and_right (spares i a) (spares i b) e) lm one finish)
        (λ z zs two. go z zs (done_then ops g scene (λ i. spares i a) (λ i. spares i b)
        (λ i. spares i a && spares i b) l m st u z ts us zs (λ i e. and_left (spares i a) (spares i b) e)
        (λ i e. and_right (spares i a) (spares i b) e) lm one two)));
  }

  pub choice_copy : (to : Target) (s q : Pos) (bytes unit : ℕ) (j : TacKind) (e a b : Ex) (l m n o : Mark)
      (c d f : Code) → Condition_runs j e false l.labels (labelled 2 l) m c → Copy_runs to s bytes unit a m n d →
      Copy_runs to s bytes unit b n o f
      → Copy_runs to s bytes unit (Conditional q (kind_of j) e a b) l o (choice_code l.labels c d f)
  choice_copy to s q bytes unit j e a b l m n o c d f h x y = record {
    piece = choice_own l m n o c d f h.piece x.piece y.piece;
    runs = λ last st ts next rest room ag finish go.
        let low = room.low in let high = room.high in let lm = h.piece.temps in let mn = x.piece.temps in
        let no = y.piece.temps in
        let one_way : (i : ℕ) → (spares i e && (spares i a && spares i b)) ≡ true → spares i a ≡ true =
        λ i k. and_left (spares i a) (spares i b) (and_right (spares i e) (spares i a && spares i b) k) in
        let two_way : (i : ℕ) → (spares i e && (spares i a && spares i b)) ≡ true → spares i b ≡ true =
        λ i k. and_right (spares i a) (spares i b) (and_right (spares i e) (spares i a && spares i b) k) in
        let test_way : (i : ℕ) → (spares i e && (spares i a && spares i b)) ≡ true → spares i e ≡ true =
        λ i k. and_left (spares i e) (spares i a && spares i b) k in
        chosen ops placed w t p objects r call g scene j q e (place_of ops w call a)
        (place_of ops w call b) l m n o c d f h x.piece y.piece st ts (λ from u. last from u next) rest room ag
        (λ u us after one alike. x.runs last u us next after
        (record { low = omega arith; high = omega arith }) one.agrees
        (finishes_later to s bytes unit (λ i. spares i e) (λ i. spares i a)
        (λ i. spares i e && (spares i a && spares i b)) l m st u ts us last next test_way one_way lm one finish)
        (λ z zs two. go z zs (done_then ops g scene (λ i. spares i e) (λ i. spares i a)
        (λ i. spares i e && (spares i a && spares i b)) l m st u z ts us zs test_way one_way lm one two)
        ∙ sym (alike z zs)))
        (λ u us after one alike. y.runs last u us next after
        (record { low = omega arith; high = omega arith }) one.agrees
        (finishes_later to s bytes unit (λ i. spares i e) (λ i. spares i b)
        (λ i. spares i e && (spares i a && spares i b)) l n st u ts us last next test_way two_way
        (omega arith) one finish)
        (λ z zs two. go z zs (done_then ops g scene (λ i. spares i e) (λ i. spares i b)
        (λ i. spares i e && (spares i a && spares i b)) l n st u z ts us zs test_way two_way
        (omega arith) one two) ∙ sym (alike z zs)));
  }

  -- ---- struct assignments

  -- without the place; and its pointer in a temp that was given
  pub effect_of_copy : (q : Pos) (bytes unit at : ℕ) (a b : Ex) (m n : Mark) (c : Code) →
      Pointer_runs Nil (Copy q bytes unit a b) at m n c → Effect_runs (Copy q bytes unit a b) m n c
  effect_of_copy q bytes unit at a b m n c h = record {
    piece = h.piece;
    runs = λ st ts l rest room ag go. h.runs st ts (λ pl u. l nothing u) rest room ag
        (λ o v u us x. go nothing u us x.done);
  }

  pub place_of_pointer : (e : Ex) (at to : ℕ) (m n : Mark) (c : Code) → Pointer_runs Nil e at m n c →
      Place_runs e to m n (λ rest. c (transfer to at rest))
  place_of_pointer e at to m n c h = record {
    piece = then_own m n n c (transfer to at) (omega arith) refl (λ o rest. transfer_plain to at o rest) h.piece;
    runs = λ st ts l rest room target ag go. h.runs st ts l (transfer to at rest) room ag
        (λ o v u us x. go o v u (slice_set us to (Some v)) (lands_there ops placed w t p objects r call g scene e
        (λ i. spares i e) to m n st u ts us o v (λ i z. z) target room h.piece.temps x.position x.pointer x.done)
        ∙ sym (transfer_runs ops w t p objects r call g scene to at rest u us v x.value));
  }

  pub struct_copy : (bytes unit at : ℕ) (a b : Ex) (q s : Pos) (l m n : Mark) (c d : Code) → position_in a ≡ Some s →
      Pointer_runs (Cons b Nil) a at l m c → Copy_runs (code.Reaches at) s bytes unit b m n d →
      Pointer_runs Nil (Copy q bytes unit a b) at l n (λ rest. c (d rest))
  struct_copy bytes unit at a b q s l m n c d position f h = record {
    piece = both_own l m n c d f.piece h.piece;
    runs = λ st ts next rest room ag go.
        let low = room.low in let high = room.high in let lm = f.piece.temps in let mn = h.piece.temps in
        f.runs st ts (λ to u. place_of ops w call b u (λ from z. copy ops w q bytes unit from to z (λ i. next to)))
        (d rest) (record { low = low; high = omega arith }) ag
        (λ o v u us one.
        let here : (z : State Store) (zs : List (Option Value)) → Done ops g (λ i. spares i b) m u us z zs →
        slice_get zs at ≡ Some (Some v) = λ z zs two.
        stays ops g scene (Cons b Nil) (λ i. spares i b) l.temps m.temps at None u z us zs v low one.stays
        (λ i e. and_left (spares i b) true e) (λ i e k. tt) one.done.agrees two.agrees two.went one.value in
        h.runs (λ from. copy ops w q bytes unit from (At o v)) u us (λ i. next (At o v)) rest
        (record { low = omega arith; high = high }) one.done.agrees
        (λ pos y from k z zs rest2 two mk size lt value2 go2.
        let whole : Value → Value → Fate =
        λ x1 x2. copy_units ops w (bytes / unit) unit 0 (At pos x1) (At s x2) (record z { vars = zs })
        (λ i. turns ops w t p objects z.left rest2 Runs r) in
        ap (λ i. answer q i z (λ i2 z2. copy_units ops w (bytes / unit) unit 0 (At pos y) (At o v) z2
        (λ i3. next (At o v)))) (placed.overlap y v bytes)
        ∙ units_same (bytes / unit) unit 0 (At pos y) (At o v) z zs (λ i. next (At o v))
        (λ i. turns ops w t p objects z.left rest2 Runs r)
        (λ mem on. go2 (record z { mem = mem }) zs
        (Rattle.lower_runs.proofs.Assignments.done_memory ops placed w t p objects r call g scene
        (λ i. true) k z z zs zs mem on (done_start ops g scene (λ i. true) k z zs two.agrees)))
        ∙ ap (λ i. copy_units ops w (bytes / unit) unit 0 (At pos y) (At i v) (record z { vars = zs })
        (λ i2. turns ops w t p objects z.left rest2 Runs r)) (one.position s position)
        ∙ ap (λ i. whole i v) (sym (held_is ops w t p objects r call g scene zs from y value2))
        ∙ ap (whole (held (slice_get zs from)))
        (sym (held_is ops w t p objects r call g scene zs at v (here z zs two))))
        (λ z zs two. go o v z zs (record {
          done = done_then ops g scene (λ i. spares i a) (λ i. spares i b)
              (λ i. spares i a && spares i b) l m st u z ts us zs (λ i e. and_left (spares i a) (spares i b) e)
              (λ i e. and_right (spares i a) (spares i b) e) lm one.done two;
          value = here z zs two;
          pointer = one.pointer;
          position = one.position;
          stays = stays_longer (Cons b Nil) l.temps m.temps n.temps at mn one.stays;
        })));
  }
    where
      stays_longer : (later : Exs) (low x y at2 : ℕ) → x ≤ y → Stays g later low x at2 → Stays g Nil low y at2
      stays_longer later low x y at2 le (stay.own ge lt) = stay.own ge (omega arith)
      stays_longer later low x y at2 le (stay.variable home sp) = stay.variable home refl
      stays_longer later low x y at2 le (stay.object spot) = stay.object spot
