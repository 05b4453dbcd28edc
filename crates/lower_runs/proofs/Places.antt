-- Places: the pointers to them, and what is read and written there.
use Rattle.std.proofs.Common.{◌≡◌, ℕ, ◌+◌, ◌≤◌, ◌<◌, Bool, true, false, List, [], ◌∷◌, length, Option, Some}
use Rattle.std.proofs.Common.{None, Ok, refl, sym, ap, ◌∙◌, arith, if◌then◌else◌}
use Rattle.std.specs.Prelude.{slice_get, slice_set, ◌&&◌}
use Rattle.ck_base.specs.World.{World}
use Rattle.ck_base.specs.declared.positions.Pos.{Pos}
use Rattle.cap_ops.specs.Permissions.{data_permissions, const_permissions}
use Rattle.c_tree.specs.declared.typed.GlobalDef.{GlobalDef}
use Rattle.obj_mem.specs.Needs.{is_const}
use Rattle.lower_runs.specs.Sound.{IsPointer, IsSound}
use Rattle.c_tree.specs.declared.typed.Typed.{Typed}
use Rattle.obj_mem.specs.Values.{Value}
use Rattle.obj_mem.specs.Values as value
use Rattle.cheri_c_sem.specs.Expressions.{permissions_of}
use Rattle.cheri_c_sem.specs.Kinds.{bytes_of, read_as}
use Rattle.cheri_c_sem.specs.Modes.{Store}
use Rattle.cheri_c_sem.specs.Meaning.{Place, At, capability_of, place_of, point_to, load}
use Rattle.cheri_c_sem.specs.Operations.{Operations}
use Rattle.cheri_c_sem.specs.Steps.{State, Fate, Then, answer}
use Rattle.cheri_c_sem.specs.Tree.{Ex, Exs, Nil, Narrowing, Load, Aggregate, Pointer_to}
use Rattle.cheri_c_sem.specs.Tree.{Conditional, Comma, Local, Object, Function}
use Rattle.cheri_c_sem.specs.Tree.{Deref, Member}
use Rattle.tac_ir.specs.Effects.{kind_of, no_position}
use Rattle.tac_ir.specs.Meaning.{Running, Runs, turns}
use Rattle.tac_ir.specs.Temps.{behind}
use Rattle.tac_ir.specs.declared.code.Amount.TheVariants as amount
use Rattle.tac_ir.specs.declared.code.Tac.{Tac}
use Rattle.tac_ir.specs.declared.code.TacInstr.{TacInstr}
use Rattle.tac_ir.specs.declared.code.TacInstr.TheVariants as instr
use Rattle.tac_ir.specs.declared.code.TacKind.{TacKind}
use Rattle.lower_runs.specs.States.{Scene, IsScene, IsPlaced, Agrees}
use Rattle.lower_runs.specs.Operating.{Code, transfer}
use Rattle.lower_runs.specs.Expressions as code
use Rattle.lower_runs.specs.Expressions.{Mark, more, labelled, spares, spare, position_in, int_kind, pointer_kind}
use Rattle.lower_runs.specs.Expressions.{is_still, is_still_place, is_variable, same, choice_code, guarded_code, IsBase}
use Rattle.lower_runs.specs.Expressions.{IsOwn}
use Rattle.lower_runs.specs.Simulation as stay
use Rattle.lower_runs.specs.Simulation.{IsPiece, HasRoom, IsTarget, IsTargetIfAny, Stays, Done, Valued, Held, Reached}
use Rattle.lower_runs.specs.Simulation.{Pointed, Assigned, ValueRuns, OperandRuns, PairRuns, EffectRuns}
use Rattle.lower_runs.specs.Simulation.{PlaceEffectRuns, ConditionRuns, PlaceRuns, PointerRuns, AssignmentRuns, goes}
use Rattle.lower_runs.specs.Simulation.{kinds}
use Rattle.lower_runs.proofs.Agreement.{and_left, and_right, get_set_same, get_set_other, free_own, agrees_any}
use Rattle.lower_runs.proofs.Agreement.{agrees_own, agrees_memory, agrees_variable, went_less, went_memory, went_then}
use Rattle.lower_runs.proofs.Agreement.{stays, done_start, done_less, done_then, done_valued, done_labelled}
use Rattle.lower_runs.proofs.Labels.{nothing_own, both_own, then_own, choice_own}
use Rattle.lower_runs.proofs.Steps.{data_twelve_bits, loaded_is_of, same_answer}
use Rattle.lower_runs.proofs.Steps.{held_is, transfer_runs, lands}
use Rattle.lower_runs.proofs.Operations.{transfer_plain}
use Rattle.lower_runs.proofs.Operands.{in_place}
use Rattle.lower_runs.proofs.Conditions.{chosen}

module _ (ops : Operations Store) (placed : IsPlaced ops) (w : World) (t : Tac) (p : Typed)
    (objects : ℕ → List ℕ) (r : Running) (call : ℕ → List Value → Then Store Value) (g : Scene)
    (scene : IsScene g) where
  abbrev run : List TacInstr → State Store → List (Option Value) → Fate
  run = goes ops w t p objects r call g

  abbrev Value_runs : (k : TacKind) (e : Ex) (to : ℕ) (m n : Mark) (c : Code) → Type 0
  Value_runs = ValueRuns ops w t p objects r call g

  abbrev Operand_runs : (later : Exs) (k : TacKind) (e : Ex) (at : ℕ) (m n : Mark) (c : Code) → Type 0
  Operand_runs = OperandRuns ops w t p objects r call g

  abbrev Effect_runs : (e : Ex) (m n : Mark) (c : Code) → Type 0
  Effect_runs = EffectRuns ops w t p objects r call g

  abbrev Place_effect_runs : (e : Ex) (m n : Mark) (c : Code) → Type 0
  Place_effect_runs = PlaceEffectRuns ops w t p objects r call g

  abbrev Condition_runs : (k : TacKind) (e : Ex) (when : Bool) (label : ℕ) (m n : Mark) (c : Code) → Type 0
  Condition_runs = ConditionRuns ops w t p objects r call g

  abbrev Place_runs : (e : Ex) (to : ℕ) (m n : Mark) (c : Code) → Type 0
  Place_runs = PlaceRuns ops w t p objects r call g

  abbrev Pointer_runs : (later : Exs) (e : Ex) (at : ℕ) (m n : Mark) (c : Code) → Type 0
  Pointer_runs = PointerRuns ops w t p objects r call g

  same_position : (o q : Pos) → Some q ≡ Some o → q ≡ o
  same_position o q e = cc

  no_position_in : {A : Type 0} (o : Pos) → None ≡ Some o → A
  no_position_in o e = absurd cc

  -- a temp that was given has the pointer
  pub lands_there : (e : Ex) (f : ℕ → Bool) (to : ℕ) (m n : Mark) (s u : State Store) (ts us : List (Option Value))
      (q : Pos)
      (v : Value) → ((x : ℕ) → spares x e ≡ true → f x ≡ true) → IsTarget g m to → HasRoom g m n → m.temps ≤ n.temps
      → ((o : Pos) → position_in e ≡ Some o → q ≡ o) → IsPointer v → Done ops g f m s ts u us →
      Reached ops g e to m s ts q v u (slice_set us to (Some v))
  lands_there e f to m n s u ts us q v sp target room le at word done =
      let i = lands ops w t p objects r call g scene pointer_kind f
      (λ x. spares x e) to m n s u ts us v sp target room le word done in
      record { agrees = i.agrees; went = i.went; value = i.value; pointer = word; position = at }

  global_twelve_bits : (o : Option GlobalDef) → permissions_of p [] o < 4096
  global_twelve_bits None = omega arith
  global_twelve_bits (Some d) = by (is_const p.types d.of)
    where
      by : (b : Bool) → (if b then const_permissions else data_permissions) < 4096
      by true = omega arith
      by false = omega arith

  -- ---- places that are there

  pub local_place : (o at to : ℕ) (q : Pos) (m : Mark) → g.spot o ≡ Some at →
      Place_runs (Local q o) to m m (transfer to at)
  local_place o at to q m spot = record {
    piece = then_own m m m (λ rest. rest) (transfer to at) (omega arith) refl (λ i rest. transfer_plain to at i rest)
        (nothing_own m);
    runs = λ s ts l rest room target ag go.
        let v = ops.whole s.mem (s.first + o) data_permissions in
        go q v s (slice_set ts to (Some v)) (lands_there (Local q o) (λ i. true) to m m s s ts ts q v
        (λ i e. refl) target room (omega arith) (λ i e. same_position i q e)
        (placed.whole_pointer s.mem (s.first + o) data_permissions ag.sound data_twelve_bits)
        (done_start ops g scene (λ i. true) m s ts ag))
        ∙ sym (transfer_runs ops w t p objects r call g scene to at rest s ts v (ag.object o at spot));
  }

  -- the pointer that an instruction makes of no temp
  made_place : (e : Ex) (to : ℕ) (q : Pos) (m : Mark) (i : TacInstr) (v : State Store → Value) →
      ((o : ℕ) (rest : List TacInstr) → behind o (i ∷ rest) ≡ behind o rest)
      → ((s : State Store) (l : Place → State Store → Fate) → place_of ops w call e s l ≡ l (At q (v s)) s) →
      ((s : State Store) (ts : List (Option Value)) (rest : List TacInstr) →
      run (i ∷ rest) s ts ≡ run rest s (slice_set ts to (Some (v s))))
      → position_in e ≡ Some q → ((s : State Store) → IsSound s.mem → IsPointer (v s)) →
      Place_runs e to m m (λ rest. i ∷ rest)
  made_place e to q m i v plain means runs position word = record {
    piece = then_own m m m (λ rest. rest) (λ rest. i ∷ rest) (omega arith) refl plain (nothing_own m);
    runs = λ s ts l rest room target ag go.
        means s l ∙ go q (v s) s (slice_set ts to (Some (v s)))
        (lands_there e (λ x. spares x e) to m m s s ts ts q (v s) (λ x z. z) target room (omega arith)
        (λ o z. same_position o q (sym position ∙ z)) (word s ag.sound)
        (done_start ops g scene (λ x. spares x e) m s ts ag))
        ∙ sym (runs s ts rest);
  }

  pub global_place : (o to : ℕ) (q : Pos) (m : Mark) →
      Place_runs (Object q o (permissions_of p [] (slice_get p.globals o))) to m m
      (λ rest. instr.Global to o false ∷ rest)
  global_place o to q m =
      made_place (Object q o (permissions_of p [] (slice_get p.globals o))) to q m (instr.Global to o false)
      (λ s. ops.whole s.mem o (permissions_of p [] (slice_get p.globals o))) (λ i rest. refl) (λ s l. refl)
      (λ s ts rest. refl) refl (λ s sound. placed.whole_pointer s.mem o
      (permissions_of p [] (slice_get p.globals o)) sound (global_twelve_bits (slice_get p.globals o)))

  pub literal_place : (o to : ℕ) (q : Pos) (m : Mark) →
      Place_runs (Object q (length p.globals + o) const_permissions) to m m (λ rest. instr.Global to o true ∷ rest)
  literal_place o to q m =
      made_place (Object q (length p.globals + o) const_permissions) to q m (instr.Global to o true)
      (λ s. ops.whole s.mem (length p.globals + o) const_permissions) (λ i rest. refl) (λ s l. refl)
      (λ s ts rest. refl) refl
      (λ s sound. placed.whole_pointer s.mem (length p.globals + o) const_permissions sound (omega arith))

  pub function_place : (f to : ℕ) (q : Pos) (m : Mark) →
      Place_runs (Function q f) to m m (λ rest. instr.Function to f ∷ rest)
  function_place f to q m =
      made_place (Function q f) to q m (instr.Function to f) (λ s. value.Fun f) (λ i rest. refl) (λ s l. refl)
      (λ s ts rest. refl) refl (λ s sound. tt)

  -- ---- places by values and places

  pub deref_place : (e : Ex) (to : ℕ) (q : Pos) (m n : Mark) (c : Code) → Value_runs pointer_kind e to m n c →
      Place_runs (Deref q e) to m n c
  deref_place e to q m n c h = record {
    piece = h.piece;
    runs = λ s ts l rest room target ag go. h.runs s ts (λ v u. l (At q v) u) rest room target ag
        (λ v u us a. go q v u us (record {
          agrees = a.agrees;
          went = a.went;
          value = a.value;
          pointer = a.typed;
          position = λ o e. same_position o q e;
        }));
  }

  pub aggregate_place : (e : Ex) (to : ℕ) (m n : Mark) (c : Code) → Place_runs e to m n c →
      Place_runs (Aggregate e) to m n c
  aggregate_place e to m n c h = record {
    piece = h.piece;
    runs = λ s ts l rest room target ag go. h.runs s ts l rest room target ag
        (λ q v u us a. go q v u us (record {
          agrees = a.agrees;
          went = a.went;
          value = a.value;
          pointer = a.pointer;
          position = a.position;
        }));
  }

  -- the place is reached from another state that went a way
  reached_after : (e f : Ex) (h : ℕ → Bool) (to : ℕ) (l m : Mark) (s u z : State Store) (ts us zs : List (Option Value))
      (q : Pos) (v : Value) → ((x : ℕ) → spares x e ≡ true → h x ≡ true) →
      ((x : ℕ) → spares x e ≡ true → spares x f ≡ true) → l.temps ≤ m.temps
      → ((o : Pos) → position_in e ≡ Some o → position_in f ≡ Some o) → Done ops g h l s ts u us →
      Reached ops g f to m u us q v z zs → Reached ops g e to l s ts q v z zs
  reached_after e f h to l m s u z ts us zs q v eh ef le at one two = record {
    agrees = two.agrees;
    went = went_then ops g scene h (λ x. spares x f) (λ x. spares x e) l.temps m.temps
        (Some to) s u z ts us zs eh ef le one.went two.went;
    value = two.value;
    pointer = two.pointer;
    position = λ o i. two.position o (at o i);
  }

  pub comma_place : (a b : Ex) (to : ℕ) (l m n : Mark) (c d : Code) → Effect_runs a l m c → Place_runs b to m n d →
      Place_runs (Comma a b) to l n (λ rest. c (d rest))
  comma_place a b to l m n c d f h = record {
    piece = both_own l m n c d f.piece h.piece;
    runs = λ s ts next rest room target ag go.
        let low = room.low in let high = room.high in let lm = f.piece.temps in let mn = h.piece.temps in
        let lt = target.there in
        f.runs s ts (λ v u. place_of ops w call b u next) (d rest) (record { low = low; high = omega arith }) ag
        (λ v u us one. h.runs u us next rest (record { low = omega arith; high = high })
        (record { there = omega arith; free = target.free }) one.agrees
        (λ q y z zs two. go q y z zs (reached_after (Comma a b) b (λ i. spares i a) to l m s u z ts us zs q y
        (λ i e. and_left (spares i a) (spares i b) e) (λ i e. and_right (spares i a) (spares i b) e) lm
        (λ o e. e) one two)));
  }

  pub choice_place : (q : Pos) (j : TacKind) (e a b : Ex) (to : ℕ) (l m n o : Mark) (c d f : Code) →
      Condition_runs j e false l.labels (labelled 2 l) m c → Place_runs a to m n d → Place_runs b to n o f →
      Place_runs (Conditional q (kind_of j) e a b) to l o (choice_code l.labels c d f)
  choice_place q j e a b to l m n o c d f h x y = record {
    piece = choice_own l m n o c d f h.piece x.piece y.piece;
    runs = λ s ts next rest room target ag go.
        let low = room.low in let high = room.high in let lm = h.piece.temps in let mn = x.piece.temps in
        let no = y.piece.temps in let lt = target.there in
        chosen ops placed w t p objects r call g scene j q e (place_of ops w call a)
        (place_of ops w call b) l m n o c d f h x.piece y.piece s ts next rest room ag
        (λ u us after one alike. x.runs u us next after (record { low = omega arith; high = omega arith })
        (record { there = omega arith; free = target.free }) one.agrees
        (λ i v z zs two. go i v z zs (reached_after (Conditional q (kind_of j) e a b) a
        (λ k. spares k e) to l m s u z ts us zs i v
        (λ k z2. and_left (spares k e) (spares k a && spares k b) z2)
        (λ k z2. and_left (spares k a) (spares k b) (and_right (spares k e) (spares k a && spares k b) z2)) lm
        (λ k z2. no_position_in k z2) one two) ∙ sym (alike z zs)))
        (λ u us after one alike. y.runs u us next after (record { low = omega arith; high = omega arith })
        (record { there = omega arith; free = target.free }) one.agrees
        (λ i v z zs two. go i v z zs (reached_after (Conditional q (kind_of j) e a b) b
        (λ k. spares k e) to l n s u z ts us zs i v
        (λ k z2. and_left (spares k e) (spares k a && spares k b) z2)
        (λ k z2. and_right (spares k a) (spares k b) (and_right (spares k e) (spares k a && spares k b) z2))
        (omega arith) (λ k z2. no_position_in k z2) one two) ∙ sym (alike z zs)));
  }

  -- ---- members

  -- behind an instruction that gives a temp its value, where so many turns are left
  abbrev sets : ℕ → ℕ → Value → List TacInstr → State Store → Fate
  sets n to v rest s = turns ops w t p objects n rest Runs r (record s { vars = slice_set s.vars to (Some v) })

  offset_runs : (to base n : ℕ) (rest : List TacInstr) (u : State Store) (us : List (Option Value)) (v y : Value) →
      slice_get us base ≡ Some (Some v) → ops.offset u.mem v n ≡ Ok y →
      run (instr.Offset to base (amount.Number n) ∷ rest) u us ≡ run rest u (slice_set us to (Some y))
  offset_runs to base n rest u us v y e o =
      ap (λ a. answer no_position a (record u { vars = us }) (λ z. sets u.left to z rest))
      (ap (λ z. ops.offset u.mem z n) (held_is ops w t p objects r call g scene us base v e) ∙ o)

  narrow_runs : (to base n : ℕ) (exact : Bool) (rest : List TacInstr) (u : State Store) (us : List (Option Value))
      (v y : Value) → slice_get us base ≡ Some (Some v) → ops.narrow u.mem v n exact ≡ Ok y
      → run (instr.Narrow to base (amount.Number n) exact ∷ rest) u us ≡ run rest u (slice_set us to (Some y))
  narrow_runs to base n exact rest u us v y e o =
      ap (λ a. answer no_position a (record u { vars = us }) (λ z. sets u.left to z rest))
      (ap (λ z. ops.narrow u.mem z n exact) (held_is ops w t p objects r call g scene us base v e) ∙ o)

  -- the pointer in a temp is replaced by another one
  again : (e f : Ex) (to : ℕ) (m n : Mark) (s u : State Store) (ts us : List (Option Value)) (q o : Pos) (v y : Value) →
      IsTarget g m to → HasRoom g m n → m.temps ≤ n.temps → ((x : ℕ) → spares x e ≡ true → spares x f ≡ true) →
      ((i : Pos) → position_in e ≡ Some i → q ≡ i) → IsPointer y
      → Reached ops g f to m s ts o v u us → Reached ops g e to m s ts q y u (slice_set us to (Some y))
  again e f to m n s u ts us q o v y target room le ef at word h = record {
    agrees = Rattle.lower_runs.proofs.Agreement.agrees_set ops g scene (Some to) (Some to) u us to (Some y) target.free
        (λ x i z k. (k, k)) h.agrees;
    went = Rattle.lower_runs.proofs.Agreement.went_set ops g scene (λ x. spares x f) (λ x. spares x e) m.temps m.temps
        (Some to) (Some to) s u ts us to (Some y) ef (omega arith) (λ i lt k. (k, k)) h.went;
    value = get_set_same us to (Some y) (let is = h.agrees.room in let lt = target.there in let high = room.high in
        omega arith);
    pointer = word;
    position = at;
  }

  pub member_place : (e : Ex) (to offset : ℕ) (q : Pos) (m n : Mark) (c : Code) → Place_runs e to m n c →
      Place_runs (Member q offset e) to m n (λ rest. c (instr.Offset to to (amount.Number offset) ∷ rest))
  member_place e to offset q m n c h = record {
    piece = then_own m n n c (λ rest. instr.Offset to to (amount.Number offset) ∷ rest) (omega arith) refl
        (λ o rest. refl) h.piece;
    runs = λ s ts l rest room target ag go.
        h.runs s ts (λ v u. answer q (ops.offset u.mem (capability_of v) offset) u (λ z. l (At q z)))
        (instr.Offset to to (amount.Number offset) ∷ rest) room target ag
        (λ o v u us a. let y = placed.offset u.mem v offset in
        ap (λ z. answer q z u (λ i. l (At q i))) y.1
        ∙ go q y.0 u (slice_set us to (Some y.0))
        (again (Member q offset e) e to m n s u ts us q o v y.0 target room h.piece.temps (λ x z. z)
        (λ i z. same_position i q z) (placed.offset_pointer u.mem v y.0 offset a.pointer y.1) a)
        ∙ sym (offset_runs to to offset rest u us v y.0 a.value y.1));
  }

  -- a pointer that stands in a temp already
  pub base : (e : Ex) (at : ℕ) → IsBase g e at → (s : State Store) (ts : List (Option Value)) → Agrees ops g None s ts
      → (q : Pos) × (v : Value) × (slice_get ts at ≡ Some (Some v)) × IsPointer v ×
      ((l : Place → State Store → Fate) → place_of ops w call e s l ≡ l (At q v) s)
  base e at (code.deref {e = e2} {t = at2} {q = q} i) s ts ag =
      let h = in_place ops placed w t p objects r call g scene Nil pointer_kind e2 at2 i s ts ag in
      (q, h.0, h.1, h.2, λ l. h.3 (λ v u. l (At q v) u))
  base e at (code.local {n = n} {t = at2} {q = q} spot) s ts ag = (
    q,
    _,
    ag.object n at2 spot,
    placed.whole_pointer s.mem (s.first + n) data_permissions ag.sound data_twelve_bits,
    λ l. refl,
  )
  base e at (code.aggregate {e = e2} {t = at2} i) s ts ag = base e2 at2 i s ts ag

  pub member_of_place : (e : Ex) (at to offset : ℕ) (q : Pos) (m : Mark) → IsBase g e at →
      Place_runs (Member q offset e) to m m (λ rest. instr.Offset to at (amount.Number offset) ∷ rest)
  member_of_place e at to offset q m h = record {
    piece = then_own m m m (λ rest. rest) (λ rest. instr.Offset to at (amount.Number offset) ∷ rest) (omega arith) refl
        (λ o rest. refl) (nothing_own m);
    runs = λ s ts l rest room target ag go.
        let b = base e at h s ts ag in
        let y = placed.offset s.mem b.1 offset in
        b.4 (λ v u. answer q (ops.offset u.mem (capability_of v) offset) u (λ z. l (At q z)))
        ∙ ap (λ z. answer q z s (λ i. l (At q i))) y.1
        ∙ go q y.0 s (slice_set ts to (Some y.0))
        (lands_there (Member q offset e) (λ x. spares x e) to m m s s ts ts q y.0 (λ x z. z) target room
        (omega arith) (λ i z. same_position i q z) (placed.offset_pointer s.mem b.1 y.0 offset b.3 y.1)
        (done_start ops g scene (λ x. spares x e) m s ts ag))
        ∙ sym (offset_runs to at offset rest s ts b.1 y.0 b.2 y.1);
  }

  -- ---- pointers in temps that stay

  pub deref_pointer : (later : Exs) (e : Ex) (at : ℕ) (q : Pos) (m n : Mark) (c : Code) →
      Operand_runs later pointer_kind e at m n c → Pointer_runs later (Deref q e) at m n c
  deref_pointer later e at q m n c h = record {
    piece = h.piece;
    runs = λ s ts l rest room ag go. h.runs s ts (λ v u. l (At q v) u) rest room ag
        (λ v u us a. go q v u us (record {
          done = record { agrees = a.done.agrees; went = a.done.went };
          value = a.value;
          pointer = a.typed;
          position = λ o z. same_position o q z;
          stays = a.stays;
        }));
  }

  pub local_pointer : (later : Exs) (o at : ℕ) (q : Pos) (m : Mark) → g.spot o ≡ Some at →
      Pointer_runs later (Local q o) at m m (λ rest. rest)
  local_pointer later o at q m spot = record {
    piece = nothing_own m;
    runs = λ s ts l rest room ag go.
        go q (ops.whole s.mem (s.first + o) data_permissions) s ts
        (record {
          done = done_start ops g scene (λ x. true) m s ts ag;
          value = ag.object o at spot;
          pointer = placed.whole_pointer s.mem (s.first + o) data_permissions ag.sound data_twelve_bits;
          position = λ i z. same_position i q z;
          stays = stay.object spot;
        });
  }

  pub aggregate_pointer : (later : Exs) (e : Ex) (at : ℕ) (m n : Mark) (c : Code) → Pointer_runs later e at m n c →
      Pointer_runs later (Aggregate e) at m n c
  aggregate_pointer later e at m n c h = record {
    piece = h.piece;
    runs = λ s ts l rest room ag go. h.runs s ts l rest room ag
        (λ q v u us a. go q v u us (record {
          done = record { agrees = a.done.agrees; went = a.done.went };
          value = a.value;
          pointer = a.pointer;
          position = a.position;
          stays = a.stays;
        }));
  }

  pub fresh_pointer : (later : Exs) (e : Ex) (m n : Mark) (c : Code) → Place_runs e m.temps (more 1 m) n c →
      Pointer_runs later e m.temps m n c
  fresh_pointer later e m n c h = record {
    piece = record { temps = let le = h.piece.temps in omega arith; labels = h.piece.labels; own = h.piece.own };
    runs = λ s ts l rest room ag go.
        let low = room.low in
        h.runs s ts l rest (record { low = omega arith; high = room.high })
        (record { there = omega arith; free = free_own ops g scene m.temps low }) ag
        (λ q v u us a. go q v u us (record {
          done = record {
            agrees = agrees_own ops g scene m.temps u us low a.agrees;
            went = went_less ops g scene (λ x. spares x e) (λ x. spares x e) m.temps (m.temps + 1)
                (Some m.temps) None s u ts us (λ x z. z) (omega arith) (λ i lt z k. absurd (omega arith)) a.went;
          };
          value = a.value;
          pointer = a.pointer;
          position = a.position;
          stays = stay.own (omega arith) (let le = h.piece.temps in omega arith);
        }));
  }

  -- ---- values by places

  pub load_value : (k : TacKind) (e : Ex) (at to : ℕ) (q : Pos) (m n : Mark) (c : Code) → position_in e ≡ Some q →
      Pointer_runs Nil e at m n c → Value_runs k (Load (kind_of k) e) to m n (λ rest. c (instr.Load to at k q ∷ rest))
  load_value k e at to q m n c position h = record {
    piece = then_own m n n c (λ rest. instr.Load to at k q ∷ rest) (omega arith) refl (λ o rest. refl) h.piece;
    runs = λ s ts l rest room target ag go.
        h.runs s ts (λ from u. load ops w (kind_of k) from u l) (instr.Load to at k q ∷ rest) room ag
        (λ o v u us a.
        let after : Value → Fate =
        λ z. load ops w (kind_of k) (At q z) (record u { vars = us }) (λ y. sets u.left to y rest) in
        ap (λ z. load ops w (kind_of k) (At z v) u l) (a.position q position)
        ∙ same_answer q (ops.load u.mem v (bytes_of (kind_of k))) u us (λ z. l (read_as (kind_of k) z))
        (λ z. sets u.left to (read_as (kind_of k) z) rest)
        (λ z is. go (read_as (kind_of k) z) u (slice_set us to (Some (read_as (kind_of k) z)))
        (lands ops w t p objects r call g scene k (λ x. spares x e) (λ x. spares x e) to m n s u ts us
        (read_as (kind_of k) z) (λ x i. i) target room h.piece.temps
        (loaded_is_of ops placed (kind_of k) u.mem v z a.done.agrees.sound is) a.done))
        ∙ ap after (sym (held_is ops w t p objects r call g scene us at v a.value)));
  }

  pub address_value : (e : Ex) (to : ℕ) (q : Pos) (m n : Mark) (c : Code) → Place_runs e to m n c →
      Value_runs pointer_kind (Pointer_to q None e) to m n c
  address_value e to q m n c h = record {
    piece = h.piece;
    runs = λ s ts l rest room target ag go. h.runs s ts (λ v u. point_to ops w q None v u l) rest room target ag
        (λ o v u us a. go v u us (record { agrees = a.agrees; went = a.went; value = a.value; typed = a.pointer }));
  }

  pub narrowed_value : (e : Ex) (to : ℕ) (q : Pos) (i : Narrowing) (m n : Mark) (c : Code) → Place_runs e to m n c →
      Value_runs pointer_kind (Pointer_to q (Some i) e) to m n
      (λ rest. c (instr.Narrow to to (amount.Number i.owned) true ∷ rest))
  narrowed_value e to q i m n c h = record {
    piece = then_own m n n c (λ rest. instr.Narrow to to (amount.Number i.owned) true ∷ rest) (omega arith) refl
        (λ o rest. refl) h.piece;
    runs = λ s ts l rest room target ag go.
        h.runs s ts (λ v u. point_to ops w q (Some i) v u l)
        (instr.Narrow to to (amount.Number i.owned) true ∷ rest) room target ag
        (λ o v u us a. let y = placed.narrow u.mem v i.owned true in
        let there = again e e to m n s u ts us o o v y.0 target room h.piece.temps (λ x z. z) a.position
        (placed.narrow_pointer u.mem v y.0 i.owned true a.pointer y.1) a in
        ap (λ z. answer q z u (λ d x. l d (record x { mem = ops.note_member x.mem d i.own }))) y.1
        ∙ ap (λ z. l y.0 (record u { mem = z })) (placed.note_member u.mem y.0 i.own)
        ∙ go y.0 u (slice_set us to (Some y.0)) (record
        { agrees = there.agrees; went = there.went; value = there.value; typed = there.pointer })
        ∙ sym (narrow_runs to to i.owned true rest u us v y.0 a.value y.1));
  }
