-- Compound assignments, and steps by one.
use Rattle.std.proofs.Common.{◌≡◌, ◌≢◌, ℕ, ◌≤◌, ◌<◌, Bool, true, false, not, List, [], ◌∷◌, length, Option, Some}
use Rattle.std.proofs.Common.{None, refl, sym, ap, ◌∙◌, arith, if◌then◌else◌, length-set, ◌⊎◌}
use Rattle.std.proofs.Common.{inl, inr, ⊎_elim}
use Rattle.std.specs.Prelude.{slice_get, slice_set, ◌&&◌, ◌==◌}
use Rattle.ck_base.specs.World.{World}
use Rattle.ck_base.specs.declared.positions.Pos.{Pos}
use Rattle.c_tree.specs.declared.typed.Typed.{Typed}
use Rattle.obj_mem.specs.Values.{Value}
use Rattle.obj_mem.specs.Values as value
use Rattle.cheri_c_sem.specs.Kinds.{Kind, bytes_of, read_as}
use Rattle.cheri_c_sem.specs.Meaning.{In, At, value_of, load, store}
use Rattle.cheri_c_sem.specs.Modes.{Store}
use Rattle.cheri_c_sem.specs.Operations.{Operations}
use Rattle.cheri_c_sem.specs.Steps.{State, Fate, Then}
use Rattle.cheri_c_sem.specs.Tree.{Operation, Whole, Derived, Moved, Apart, Ex, Exs, Nil, Cons, Number, Load, Compound}
use Rattle.cheri_c_sem.specs.Tree.{Variable}
use Rattle.tac_ir.specs.Effects.{kind_of}
use Rattle.tac_ir.specs.Meaning.{Running, Runs, turns}
use Rattle.tac_ir.specs.declared.code.Tac.{Tac}
use Rattle.tac_ir.specs.declared.code.TacInstr.{TacInstr}
use Rattle.tac_ir.specs.declared.code.TacInstr.TheVariants as instr
use Rattle.tac_ir.specs.declared.code.TacKind.{TacKind}
use Rattle.lower_runs.specs.States.{Home, Scene, IsScene, IsOf, IsPlaced, Agrees, Went}
use Rattle.lower_runs.specs.Operating.{Code, AreInts, transfer, give, changed, changed_temps, stepped, stepped_temps}
use Rattle.lower_runs.specs.Expressions as code
use Rattle.lower_runs.specs.Expressions.{Mark, more, spares, is_variable, position_in, asks_old, IsChange, IsStep}
use Rattle.lower_runs.specs.Expressions.{IsOwn}
use Rattle.lower_runs.specs.Simulation as stay
use Rattle.lower_runs.specs.Simulation.{HasRoom, IsTarget, IsTargetIfAny, Stays, Holds, Scratched, Operated, Done}
use Rattle.lower_runs.specs.Simulation.{Valued, Assigned, OperandRuns, PointerRuns, AssignmentRuns, goes, kinds}
use Rattle.lower_runs.proofs.Agreement.{and_left, and_right, get_set_same, get_set_other, agrees_set, agrees_scratch}
use Rattle.lower_runs.proofs.Agreement.{agrees_memory, went_set, went_less, went_memory, stays, stays_below, done_start}
use Rattle.lower_runs.proofs.Agreement.{done_then}
use Rattle.lower_runs.proofs.Labels.{nothing_own, both_own, then_own}
use Rattle.lower_runs.proofs.Steps.{same_answer, loaded_is_of, held_is, transfer_runs}
use Rattle.lower_runs.proofs.Operations.{transfer_plain}
use Rattle.lower_runs.proofs.Operands.{in_place, operated, agrees_scratched}
use Rattle.lower_runs.proofs.Assignments.{given_out, give_plain, other_variable, variable_done, home_target, stored}
use Rattle.lower_runs.proofs.Assignments.{own_temp, own_apart, turned_test}
use Rattle.lower_runs.proofs.Changes.{change, changed_runs, stepped_runs}

asks_new : (to : Option ℕ) → asks_old false to ≡ false
asks_new None = refl
asks_new (Some to) = refl

module _ (ops : Operations Store) (placed : IsPlaced ops) (w : World) (t : Tac) (p : Typed)
    (objects : ℕ → List ℕ) (r : Running) (call : ℕ → List Value → Then Store Value) (g : Scene)
    (scene : IsScene g) where
  abbrev run : List TacInstr → State Store → List (Option Value) → Fate
  run = goes ops w t p objects r call g

  abbrev sets : ℕ → ℕ → Value → List TacInstr → State Store → Fate
  sets n to v rest s = turns ops w t p objects n rest Runs r (record s { vars = slice_set s.vars to (Some v) })

  abbrev Ints : List TacInstr → Type 0
  Ints = AreInts (kinds ops w t p objects r call g)

  abbrev Assignment_runs : (k : TacKind) (e : Ex) (to : Option ℕ) (m n : Mark) (c : Code) → Type 0
  Assignment_runs = AssignmentRuns ops w t p objects r call g

  abbrev Operating : (k : TacKind) (to from : ℕ) (part : Then Store Value) (d : Code) (u : State Store)
      (us : List (Option Value)) → Type 0
  Operating = Operated ops w t p objects r call g

  abbrev one : Value
  one = value.Int 1

  abbrev Goes_on : (k : TacKind) (e : Ex) (to : Option ℕ) (m : Mark) (s : State Store) (ts : List (Option Value))
      (l : Value → State Store → Fate) (rest : List TacInstr) → Type 0
  Goes_on k e to m s ts l rest =
      (z : Value) (y : State Store) (ys : List (Option Value)) → Assigned ops g k e to m s ts z y ys →
      l z y ≡ run rest y ys

  -- ---- a temp of its own

  own_marks : (to : Option ℕ) (at : ℕ) (m n : Mark) → IsOwn g to at m n → (m.temps ≤ n.temps) × (m.labels ≡ n.labels)
  own_marks to at m n (code.given ge) = (omega arith, refl)
  own_marks to at m n (code.fresh {m = m2}) = (omega arith, refl)

  own_none : (at : ℕ) (m n : Mark) → IsOwn g None at m n → at ≡ m.temps
  own_none at m n (code.fresh {m = m2}) = refl

  -- ---- variables

  -- A variable's value is changed in its home; the old one is not asked for
  changed_home : (e : Ex) (x at : ℕ) (q : Pos) (j : TacKind) (f : ℕ → Bool) (to : Option ℕ) (m n : Mark) (extra : ℕ)
      (part : Value → Then Store Value) (d : Code) (old : Bool) (s u : State Store) (ts us : List (Option Value))
      (l : Value → State Store → Fate) (rest : List TacInstr) → g.home x ≡ Some (record { temp = at; kind = j }) →
      IsTargetIfAny g m to → HasRoom g m (more extra n) → m.temps ≤ n.temps → asks_old old to ≡ false
      → ((i : ℕ) → spares i e ≡ true → f i ≡ true) → ((i : ℕ) → spares i e ≡ true → i ≢ x) →
      Done ops g f m s ts u us
      → ((v : Value) → Holds n.temps j at v us → Operating j at n.temps (part v) d u us) → Goes_on j e to m s ts l rest
      → load ops w (kind_of j) (In q x) u (λ v y. part v y (λ z o. l (if old then v else z)
      (record o { vars = slice_set o.vars x (Some z) }))) ≡ run (d (give to at rest)) u us
  changed_home e x at q j f to m n extra part d old s u ts us l rest home target room le new ef away done op go =
      let low = room.low in
      let i = in_place ops placed w t p objects r call g scene Nil j (Load (kind_of j) (Variable q x)) at
      (code.variable home refl) u us done.agrees in
      i.3 (λ v y. part v y (λ z o. l (if old then v else z) (record o { vars = slice_set o.vars x (Some z) })))
      ∙ operated ops placed w t p objects r call g scene j f f at extra m n (part i.0) d s u ts us
      (λ z o. l (if old then i.0 else z) (record o { vars = slice_set o.vars x (Some z) })) (give to at rest)
      (λ y h. h) le room (home_target ops placed w t p objects r call g scene x place m home low) done
      (op i.0 (record {
        value = i.1;
        typed = i.2;
        below = let lt = scene.home_below x place home in omega arith;
      }))
      (λ z y ys a. last to old new target go i.0 z y ys a)
    where
      place : Home
      place = record { temp = at; kind = j }

      last : (to : Option ℕ) (old : Bool) → asks_old old to ≡ false → IsTargetIfAny g m to →
          Goes_on j e to m s ts l rest → (v z : Value) (y : State Store) (ys : List (Option Value)) →
          Valued ops g j f at m s ts z y ys
          → l (if old then v else z) (record y { vars = slice_set y.vars x (Some z) })
          ≡ run (give to at rest) (record y { vars = slice_set y.vars x (Some z) }) ys
      last None old new target go v z y ys a =
          go (if old then v else z) (record y { vars = slice_set y.vars x (Some z) }) ys
          (variable_done ops placed w t p objects r call g scene x place f
          (λ i. spares i e) m s y ts ys z home room.low ef
          away a)
      last (Some to2) true new target go v z y ys a = absurd cc
      last (Some to2) false new target go v z y ys a =
          given_out ops placed w t p objects r call g scene j e (Some to2) at m (more extra n) s
          (record y { vars = slice_set y.vars x (Some z) }) ts ys z rest l target room (omega arith) a.typed
          (variable_done ops placed w t p objects r call g scene x place f
          (λ i. spares i e) m s y ts ys z home room.low ef
          away a) a.value go

  pub changed_variable : (op : Operation) (computed : Kind) (j k : TacKind) (b : Ex) (x at y : ℕ) (to : Option ℕ)
      (q s : Pos) (m n : Mark) (c : Code) → g.home x ≡ Some (record { temp = at; kind = j }) →
      IsChange op j k computed → OperandRuns ops w t p objects r call g Nil k b y m n c →
      Ints (changed op j k at at y n.temps [])
      → Assignment_runs j (Compound q op (kind_of j) computed false (Variable s x) b) to m
      (more (changed_temps op j k) n) (λ rest. c (changed op j k at at y n.temps (give to at rest)))
  changed_variable op computed j k b x at y to q s m n c home change_fits h ints =
      let change_op = changed_runs ops placed w t p objects r call g scene q op j k computed at at y n.temps change_fits
      ints in
      let e = Compound q op (kind_of j) computed false (Variable s x) b in
      record {
        piece = then_own m n (more (changed_temps op j k) n) c
            (λ rest. changed op j k at at y n.temps (give to at rest)) (omega arith) refl
            (λ o rest. change_op.plain o (give to at rest)
            ∙ give_plain ops placed w t p objects r call g scene to at o rest) h.piece;
        runs = λ st ts l rest room target ag go.
            let low = room.low in let high = room.high in let le = h.piece.temps in
            h.runs st ts (λ z u. load ops w (kind_of j) (In s x) u (λ v u2. change ops placed w t p objects r call g
            scene q op j computed v z u2 (λ i o. l i (record o { vars = slice_set o.vars x (Some i) }))))
            (changed op j k at at y n.temps (give to at rest)) (record { low = low; high = omega arith }) ag
            (λ z u us a. changed_home e x at s j (λ i. spares i b) to m n (changed_temps op j k)
            (λ v. change ops placed w t p objects r call g scene q op j computed v z)
            (changed op j k at at y n.temps) false st u ts us l rest home target room le (asks_new to)
            (λ i i2. and_right true (spares i b) (and_right (not (i == x)) (true && spares i b) i2))
            (λ i i2. other_variable ops placed w t p objects r call g scene i x
            (ap not (turned_test x i) ∙ and_left (not (i == x)) (true && spares i b) i2)) a.done
            (λ v hv. change_op.runs v z u us hv (record {
              value = a.value;
              typed = a.typed;
              below = stays_below ops g scene Nil m.temps n.temps y (omega arith) a.stays;
            }) (let is = a.done.agrees.room in omega arith) a.done.agrees.sound) go);
      }

  pub stepped_variable : (op : Operation) (computed : Kind) (j : TacKind) (x at : ℕ) (to : Option ℕ) (old : Bool)
      (q s : Pos) (m : Mark) → g.home x ≡ Some (record { temp = at; kind = j }) → IsStep op j computed →
      asks_old old to ≡ false → Ints (stepped op j at at m.temps [])
      → Assignment_runs j (Compound q op (kind_of j) computed old (Variable s x) (Number 1)) to m
      (more (stepped_temps op) m) (λ rest. stepped op j at at m.temps (give to at rest))
  stepped_variable op computed j x at to old q s m home step new ints =
      let step_op = stepped_runs ops placed w t p objects r call g scene q op j computed at at m.temps step ints in
      let e = Compound q op (kind_of j) computed old (Variable s x) (Number 1) in
      record {
        piece = then_own m m (more (stepped_temps op) m) (λ rest. rest)
            (λ rest. stepped op j at at m.temps (give to at rest)) (omega arith) refl
            (λ o rest. step_op.plain o (give to at rest)
            ∙ give_plain ops placed w t p objects r call g scene to at o rest) (nothing_own m);
        runs = λ st ts l rest room target ag go.
            let high = room.high in
            changed_home e x at s j (λ i. true) to m m (stepped_temps op)
            (λ v. change ops placed w t p objects r call g scene q op j computed v one)
            (stepped op j at at m.temps) old st st ts ts l rest home target room (omega arith) new (λ i i2. refl)
            (λ i i2. other_variable ops placed w t p objects r call g scene i x
            (ap not (turned_test x i) ∙ and_left (not (i == x)) (true && true) i2))
            (done_start ops g scene (λ i. true) m st ts ag)
            (λ v hv. step_op.runs v st ts hv (let is = ag.room in omega arith) ag.sound) go;
      }

  -- the old value is kept in a temp of its own
  pub stepped_variable_old : (op : Operation) (computed : Kind) (j : TacKind) (x at v to : ℕ) (q s : Pos) (m n : Mark)
      → g.home x ≡ Some (record { temp = at; kind = j }) → IsStep op j computed → IsOwn g (Some to) v m n →
      Ints (stepped op j at at n.temps [])
      → Assignment_runs j (Compound q op (kind_of j) computed true (Variable s x) (Number 1)) (Some to) m
      (more (stepped_temps op) n) (λ rest. instr.Copy v at ∷ stepped op j at at n.temps (transfer to v rest))
  stepped_variable_old op computed j x at v to q s m n home step own ints =
      let step_op = stepped_runs ops placed w t p objects r call g scene q op j computed at at n.temps step ints in
      let e = Compound q op (kind_of j) computed true (Variable s x) (Number 1) in
      let place : Home = record { temp = at; kind = j } in
      let marks = own_marks (Some to) v m n own in
      record {
        piece = then_own m m (more (stepped_temps op) n) (λ rest. rest)
            (λ rest. instr.Copy v at ∷ stepped op j at at n.temps (transfer to v rest))
            (let le = marks.0 in omega arith) marks.1
            (λ o rest. step_op.plain o (transfer to v rest) ∙ transfer_plain to v o rest) (nothing_own m);
        runs = λ st ts l rest room target ag go.
            let low = room.low in let high = room.high in let mn = marks.0 in
            let mine = own_temp ops placed w t p objects r call g scene (Some to) v m n own m
            (omega arith) low target in
            let ge = mine.0 in let lt = mine.1 in let below = scene.home_below x place home in let size = ag.room in
            let i = in_place ops placed w t p objects r call g scene Nil j (Load (kind_of j) (Variable s x)) at
            (code.variable home refl) st ts ag in
            let us = slice_set ts v (Some i.0) in
            let ag2 = agrees_scratch ops g scene st ts v (Some i.0) ge ag in
            let apart : at ≢ v = λ k. absurd (omega arith) in
            i.3 (λ a y. change ops placed w t p objects r call g scene q op j computed a one y
            (λ z o. l a (record o { vars = slice_set o.vars x (Some z) })))
            ∙ operated ops placed w t p objects r call g scene j (λ k. true) (λ k. true) at (stepped_temps op) n n
            (change ops placed w t p objects r call g scene q op j computed i.0 one) (stepped op j at at n.temps)
            st st us us (λ z o. l i.0 (record o { vars = slice_set o.vars x (Some z) })) (transfer to v rest)
            (λ y h. h) (omega arith) (record { low = omega arith; high = high })
            (home_target ops placed w t p objects r call g scene x place n home (omega arith))
            (done_start ops g scene (λ k. true) n st us ag2)
            (step_op.runs i.0 st us (record {
              value = get_set_other ts v at (Some i.0) apart ∙ i.1;
              typed = i.2;
              below = omega arith;
            }) (let long = length-set ts v (Some i.0) in omega arith) ag2.sound)
            (λ z y ys a.
            let o = record y { vars = slice_set y.vars x (Some z) } in
            let d = variable_done ops placed w t p objects r call g scene x place (λ k. true) (λ k. spares k e) n st y
            us ys z home (omega arith) (λ k k2. refl)
            (λ k k2. other_variable ops placed w t p objects r call g scene k x
            (ap not (turned_test x k) ∙ and_left (not (k == x)) (true && true) k2)) a in
            let there : slice_get ys v ≡ Some (Some i.0) =
            d.went.kept v ge lt tt ∙ get_set_same ts v (Some i.0) (omega arith) in
            go i.0 o (slice_set ys to (Some i.0)) (record {
              agrees = agrees_set ops g scene None (Some to) o ys to (Some i.0) target.free (λ k k2 k3 k4. (tt, k4))
                  d.agrees;
              went = record {
                left = d.went.left;
                first = d.went.first;
                frame = d.went.frame;
                onward = d.went.onward;
                spared = d.went.spared;
                kept = λ k k2 k3 k4. get_set_other ys to k (Some i.0) k4 ∙ d.went.kept k k2 (omega arith) tt
                    ∙ get_set_other ts v k (Some i.0)
                    (own_apart ops placed w t p objects r call g scene to v m n own m (omega arith) k k3 k4);
              };
              value = get_set_same ys to (Some i.0) (let long = d.agrees.room in let there2 = target.there in
                  omega arith);
              typed = i.2;
            }) ∙ sym (transfer_runs ops w t p objects r call g scene to v rest o ys i.0 there))
            ∙ ap (λ k. run (stepped op j at at n.temps (transfer to v rest)) st (slice_set ts v (Some k)))
            (sym (held_is ops w t p objects r call g scene ts at i.0 i.1));
      }

  -- ---- objects

  -- a temp that stays is not the one of the assignment's own
  stays_apart : (later : Exs) (to : Option ℕ) (at own low high : ℕ) (l m n : Mark) → IsOwn g to own m n →
      l.temps ≤ m.temps → g.fixed ≤ l.temps → IsTargetIfAny g l to → l.temps ≤ low → high ≤ m.temps →
      Stays g later low high at → at ≢ own
  stays_apart later to at own low high l m n o le fixed target ll hh (stay.own ge lt) =
      (own_temp ops placed w t p objects r call g scene to own m n o l le fixed target).4 at (omega arith) (omega arith)
  stays_apart later to at own low high l m n o le fixed target ll hh (stay.variable {x = x} {h = h} home sp) =
      λ e. let ge = (own_temp ops placed w t p objects r call g scene to own m n o l le fixed target).0 in
      let lt = scene.home_below x h home in absurd (omega arith)
  stays_apart later to at own low high l m n o le fixed target ll hh (stay.object {o = i} {t = at2} spot) =
      λ e. let ge = (own_temp ops placed w t p objects r call g scene to own m n o l le fixed target).0 in
      let lt = scene.spot_below i at2 spot in absurd (omega arith)

  -- the value in the assignment's own temp is given out
  given_own : (k : TacKind) (e : Ex) (to : Option ℕ) (at : ℕ) (l m n o : Mark) → IsOwn g to at m n →
      (s u : State Store) (ts us : List (Option Value)) (v : Value) (old : Bool) (z : Value)
      (next : Value → State Store → Fate)
      (rest : List TacInstr) → IsTargetIfAny g l to → HasRoom g l o → l.temps ≤ m.temps → m.temps ≤ o.temps →
      asks_old old to ≡ false → IsOf (kind_of k) v
      → Agrees ops g None u us → Went ops g (λ x. spares x e) l.temps (Some at) s ts u us →
      slice_get us at ≡ Some (Some v) → Goes_on k e to l s ts next rest
      → next (if old then z else v) u ≡ run (give to at rest) u us
  given_own k e None at l m n o own s u ts us v old z next rest target room lm mo new typed agrees went is go =
      go (if old then z else v) u us (record {
        agrees = agrees;
        went = went_less ops g scene (λ x. spares x e) (λ x. spares x e) l.temps l.temps (Some at) None s u ts us
            (λ x i. i) (omega arith) (λ i lt i2 i3. let fresh = own_none at m n own in absurd (omega arith)) went;
      })
  given_own k e (Some to) at l m n o own s u ts us v true z next rest target room lm mo new typed agrees went is go =
      absurd cc
  given_own k e (Some to) at l m n o own s u ts us v false z next rest target room lm mo new typed agrees went is go =
      go v u (slice_set us to (Some v)) (record {
        agrees = agrees_set ops g scene None (Some to) u us to (Some v) target.free (λ x i i2 i3. (tt, i3)) agrees;
        went = went_set ops g scene (λ x. spares x e) (λ x. spares x e) l.temps l.temps (Some at) (Some to) s u ts us to
            (Some v) (λ x i. i) (omega arith)
            (λ i lt i2. (own_apart ops placed w t p objects r call g scene to at m n own l lm i lt i2, i2)) went;
        value = get_set_same us to (Some v) (let is2 = agrees.room in let there = target.there in
            let high = room.high in
            let low = room.low in omega arith);
        typed = typed;
      }) ∙ sym (transfer_runs ops w t p objects r call g scene to at rest u us v is)

  -- A place's value is loaded into a temp, changed into one, and stored from that; one of these is given out
  module _ (e : Ex) (j : TacKind) (f : ℕ → Bool) (to : Option ℕ) (at own into : ℕ) (l m n o : Mark)
      (part : Value → Then Store Value) (d : Code) (old : Bool) (q s : Pos) (st u : State Store)
      (ts us : List (Option Value)) (pointer : Value) (next : Value → State Store → Fate) (rest : List TacInstr)
      (same_place : q ≡ s) (owned : IsOwn g to own m n) (target : IsTargetIfAny g l to) (room : HasRoom g l o)
      (lm : l.temps ≤ m.temps) (no : n.temps ≤ o.temps) (ef : (i : ℕ) → spares i e ≡ true → f i ≡ true)
      (done : Done ops g f l st ts u us) (here : slice_get us at ≡ Some (Some pointer)) (apart : at ≢ own)
      (below : at < n.temps) (go : Goes_on j e to l st ts next rest) where
    changed_there : (from : ℕ) → n.temps ≤ from → (into ≡ own) ⊎ ((into ≡ n.temps) × (into < o.temps))
        → ((v : Value) (vs : List (Option Value)) → Holds from j own v vs → length vs ≡ length us →
        ((i : ℕ) → i ≢ own → slice_get vs i ≡ slice_get us i) → Operating j into from (part v) d u vs)
        → ((v z : Value) (y : State Store) (ys : List (Option Value)) → IsOf (kind_of j) v → IsOf (kind_of j) z →
        Agrees ops g None y ys → Went ops g (λ x. spares x e) l.temps (Some own) st ts y ys →
        slice_get ys into ≡ Some (Some z) → (into ≢ own → slice_get ys own ≡ Some (Some v)) →
        next (if old then v else z) y ≡ run (give to own rest) y ys)
        → load ops w (kind_of j) (At q pointer) u (λ v y. part v y (λ z y2.
        store ops w (kind_of j) (At q pointer) z y2 (λ i y3. next (if old then v else z) y3)))
        ≡ run (instr.Load own at j s ∷ d (instr.Store at into j s ∷ give to own rest)) u us
    changed_there from le where_into op last =
        let after : Value → Fate = λ z. load ops w (kind_of j) (At s z) (record u { vars = us })
        (λ y. sets u.left own y (d (instr.Store at into j s ∷ give to own rest))) in
        ap (λ z. load ops w (kind_of j) (At z pointer) u whole) same_place
        ∙ same_answer s (ops.load u.mem pointer (bytes_of (kind_of j))) u us (λ z. whole (read_as (kind_of j) z))
        (λ z. sets u.left own (read_as (kind_of j) z) (d (instr.Store at into j s ∷ give to own rest)))
        (λ z is. loaded (read_as (kind_of j) z) (loaded_is_of ops placed
        (kind_of j) u.mem pointer z done.agrees.sound is))
        ∙ ap after (sym (held_is ops w t p objects r call g scene us at pointer here))
      where
        whole : Value → State Store → Fate
        whole v y = part v y (λ z y2.
            store ops w (kind_of j) (At q pointer) z y2 (λ i y3. next (if old then v else z) y3))

        mine : (g.fixed ≤ own) × (own < n.temps) × (m.temps ≤ n.temps) × (m.labels ≡ n.labels) ×
            ((i : ℕ) → l.temps ≤ i → i < m.temps → i ≢ own)
        mine = own_temp ops placed w t p objects r call g scene to own m n owned l lm room.low target

        into_high : g.fixed ≤ into
        into_high = ⊎_elim (λ e. let ge = mine.0 in omega arith)
            (λ e. let ge = mine.0 in let lt = mine.1 in let is = e.0 in omega arith) where_into

        into_apart : at ≢ into
        into_apart = ⊎_elim (λ e k. apart (k ∙ e)) (λ e k. let is = e.0 in absurd (omega arith)) where_into

        loaded : (v : Value) → IsOf (kind_of j) v →
            whole v u ≡ run (d (instr.Store at into j s ∷ give to own rest)) u (slice_set us own (Some v))
        loaded v typed =
            let vs = slice_set us own (Some v) in
            let size = done.agrees.room in let lt = mine.1 in let high = room.high in
            let c = op v vs (record {
              value = get_set_same us own (Some v) (omega arith);
              typed = typed;
              below = omega arith;
            }) (length-set us own (Some v)) (λ i ne. get_set_other us own i (Some v) ne) in
            let ws = slice_set c.temps into (Some c.value) in
            c.means (λ z y2. store ops w (kind_of j) (At q pointer) z y2 (λ i y3. next (if old then v else z) y3))
            ∙ stored ops placed w t p objects r call g scene j at into q s pointer c.value u ws (give to own rest)
            (next (if old then v else c.value)) same_place c.typed
            (get_set_other c.temps into at (Some c.value) into_apart ∙ c.scratched.same at (omega arith)
            ∙ get_set_other us own at (Some v) apart ∙ here)
            (get_set_same c.temps into (Some c.value) (let is = c.scratched.room in
            let long = length-set us own (Some v) in let lt2 = into_below in omega arith))
            (λ mem on. last v c.value (record u { mem = mem }) ws typed c.typed
            (agrees_memory ops g scene None u ws mem on
            (agrees_scratch ops g scene u c.temps into (Some c.value) into_high
            (agrees_scratched ops placed w t p objects r call g scene from u vs c.temps
            (let ge = mine.0 in omega arith) c.scratched
            (agrees_scratch ops g scene u us own (Some v) mine.0 done.agrees))))
            (went_memory ops g scene (λ x. spares x e) l.temps (Some own) st u ts ws mem on (record {
              left = done.went.left;
              first = done.went.first;
              frame = done.went.frame;
              onward = done.went.onward;
              spared = λ x i. done.went.spared x (ef x i);
              kept = λ i ge2 lt2 ne. get_set_other c.temps into i (Some c.value) (into_not i lt2 ne)
                  ∙ c.scratched.same i (let mn = mine.2 in omega arith) ∙ get_set_other us own i (Some v) ne
                  ∙ done.went.kept i ge2 lt2 tt;
            })) (get_set_same c.temps into (Some c.value) (let is = c.scratched.room in
            let long = length-set us own (Some v) in let lt2 = into_below in omega arith))
            (λ ne. get_set_other c.temps into own (Some c.value) (λ k. ne (sym k)) ∙ c.scratched.same own (omega arith)
            ∙ get_set_same us own (Some v) (omega arith)))
            ∙ sym (c.runs (instr.Store at into j s ∷ give to own rest))
          where
            into_below : into < length us
            into_below = let size = done.agrees.room in let lt = mine.1 in let high = room.high in
                ⊎_elim (λ e. omega arith) (λ e. let is = e.1 in omega arith) where_into

            into_not : (i : ℕ) → i < l.temps → i ≢ own → i ≢ into
            into_not i lt ne = ⊎_elim (λ e k. ne (k ∙ e))
                (λ e k. let is = e.0 in let mn = mine.2 in absurd (omega arith)) where_into

  pub changed_object : (op : Operation) (computed : Kind) (j k : TacKind) (a b : Ex) (at own x : ℕ) (to : Option ℕ)
      (q s : Pos) (l m n o : Mark) (c d : Code) → position_in a ≡ Some s → IsChange op j k computed →
      PointerRuns ops w t p objects r call g (Cons b Nil) a at l m c →
      OperandRuns ops w t p objects r call g Nil k b x m n d → IsOwn g to own n o →
      Ints (changed op j k own own x o.temps [])
      → Assignment_runs j (Compound q op (kind_of j) computed false a b) to l (more (changed_temps op j k) o)
      (λ rest. c (d (instr.Load own at j s
      ∷ changed op j k own own x o.temps (instr.Store at own j s ∷ give to own rest))))
  changed_object op computed j k a b at own x to q s l m n o c d position change_fits f h owned ints =
      let change_op = changed_runs ops placed w t p objects r call g scene q op j k computed own own x o.temps
      change_fits ints in
      let e = Compound q op (kind_of j) computed false a b in
      let extra = changed_temps op j k in
      let marks = own_marks to own n o owned in
      record {
        piece = both_own l m (more extra o) c (λ rest. d (instr.Load own at j s
            ∷ changed op j k own own x o.temps (instr.Store at own j s ∷ give to own rest))) f.piece
            (then_own m n (more extra o) d (λ rest. instr.Load own at j s
            ∷ changed op j k own own x o.temps (instr.Store at own j s ∷ give to own rest))
            (let le = marks.0 in omega arith) marks.1
            (λ i rest. change_op.plain i (instr.Store at own j s ∷ give to own rest)
            ∙ give_plain ops placed w t p objects r call g scene to own i rest) h.piece);
        runs = λ st ts next rest room target ag go.
            let low = room.low in let high = room.high in let lm = f.piece.temps in let mn = h.piece.temps in
            let no = marks.0 in
            f.runs st ts (λ pl u. value_of ops w call b u (λ z y. load ops w (kind_of j) pl y (λ v y2.
            change ops placed w t p objects r call g scene q op j computed v z y2
            (λ i y3. store ops w (kind_of j) pl i y3 (λ i2 y4. next i y4)))))
            (d (instr.Load own at j s ∷ changed op j k own own x o.temps (instr.Store at own j s ∷ give to own rest)))
            (record { low = low; high = omega arith }) ag
            (λ pos pointer u us one. h.runs u us (λ z y. load ops w (kind_of j) (At pos pointer) y (λ v y2.
            change ops placed w t p objects r call g scene q op j computed v z y2
            (λ i y3. store ops w (kind_of j) (At pos pointer) i y3 (λ i2 y4. next i y4))))
            (instr.Load own at j s ∷ changed op j k own own x o.temps (instr.Store at own j s ∷ give to own rest))
            (record { low = omega arith; high = omega arith }) one.done.agrees
            (λ z y ys two.
            let here = stays ops g scene (Cons b Nil) (λ i. spares i b) l.temps m.temps at None u y us ys pointer low
            one.stays (λ i i2. and_left (spares i b) true i2) (λ i i2 i3. tt) one.done.agrees two.done.agrees
            two.done.went one.value in
            let at_below = stays_below ops g scene (Cons b Nil) l.temps m.temps at (omega arith) one.stays in
            let x_below = stays_below ops g scene Nil m.temps n.temps x (omega arith) two.stays in
            changed_there e j (λ i. spares i a && spares i b) to at own own l n o (more extra o)
            (λ v. change ops placed w t p objects r call g scene q op j computed v z)
            (changed op j k own own x o.temps) false pos s st y ts ys pointer next rest (one.position s position) owned
            target room (omega arith) (omega arith)
            (λ i i2. and_right (not (is_variable i a)) (spares i a && spares i b) i2)
            (done_then ops g scene (λ i. spares i a) (λ i. spares i b)
            (λ i. spares i a && spares i b) l m st u y ts us ys
            (λ i i2. and_left (spares i a) (spares i b) i2) (λ i i2. and_right (spares i a) (spares i b) i2) lm one.done
            two.done) here
            (stays_apart (Cons b Nil) to at own l.temps m.temps l n o owned (omega arith) low target (omega arith) mn
            one.stays) (omega arith) go o.temps (omega arith) (inl refl)
            (λ v vs hv long alike. change_op.runs v z y vs hv (record {
              value = alike x (stays_apart Nil to x own m.temps n.temps l n o owned (omega arith) low target lm
                  (omega arith) two.stays) ∙ two.value;
              typed = two.typed;
              below = omega arith;
            }) (let size = two.done.agrees.room in omega arith) two.done.agrees.sound)
            (λ v i y2 ys2 tv ti ag2 went is keep. given_own j e to own l n o (more extra o) owned st y2 ts ys2 i false v
            next rest target room (omega arith) (omega arith) (asks_new to) ti ag2 went is go)));
      }

  pub stepped_object : (op : Operation) (computed : Kind) (j : TacKind) (a : Ex) (at own : ℕ) (to : Option ℕ)
      (old : Bool) (q s : Pos) (l m n : Mark) (c : Code) → position_in a ≡ Some s → IsStep op j computed →
      asks_old old to ≡ false → PointerRuns ops w t p objects r call g Nil a at l m c → IsOwn g to own m n →
      Ints (stepped op j own own n.temps [])
      → Assignment_runs j (Compound q op (kind_of j) computed old a (Number 1)) to l (more (stepped_temps op) n)
      (λ rest. c (instr.Load own at j s
      ∷ stepped op j own own n.temps (instr.Store at own j s ∷ give to own rest)))
  stepped_object op computed j a at own to old q s l m n c position step new f owned ints =
      let step_op = stepped_runs ops placed w t p objects r call g scene q op j computed own own n.temps step ints in
      let e = Compound q op (kind_of j) computed old a (Number 1) in
      let extra = stepped_temps op in
      let marks = own_marks to own m n owned in
      record {
        piece = then_own l m (more extra n) c (λ rest. instr.Load own at j s
            ∷ stepped op j own own n.temps (instr.Store at own j s ∷ give to own rest))
            (let le = marks.0 in omega arith) marks.1
            (λ i rest. step_op.plain i (instr.Store at own j s ∷ give to own rest)
            ∙ give_plain ops placed w t p objects r call g scene to own i rest) f.piece;
        runs = λ st ts next rest room target ag go.
            let low = room.low in let high = room.high in let lm = f.piece.temps in let mn = marks.0 in
            f.runs st ts (λ pl u. load ops w (kind_of j) pl u (λ v y2.
            change ops placed w t p objects r call g scene q op j computed v one y2
            (λ i y3. store ops w (kind_of j) pl i y3 (λ i2 y4. next (if old then v else i) y4))))
            (instr.Load own at j s ∷ stepped op j own own n.temps (instr.Store at own j s ∷ give to own rest))
            (record { low = low; high = omega arith }) ag
            (λ pos pointer u us first.
            let at_below = stays_below ops g scene Nil l.temps m.temps at (omega arith) first.stays in
            changed_there e j (λ i. spares i a) to at own own l m n (more extra n)
            (λ v. change ops placed w t p objects r call g scene q op j computed v one)
            (stepped op j own own n.temps) old pos s st u ts us pointer next rest (first.position s position) owned
            target room lm (omega arith)
            (λ i i2. and_left (spares i a) true (and_right (not (is_variable i a)) (spares i a && true) i2)) first.done
            first.value (stays_apart Nil to at own l.temps m.temps l m n owned lm low target (omega arith) (omega arith)
            first.stays) (omega arith) go n.temps (omega arith) (inl refl)
            (λ v vs hv long alike. step_op.runs v u vs hv (let size = first.done.agrees.room in omega arith)
            first.done.agrees.sound)
            (λ v i y2 ys2 tv ti ag2 went is keep. given_own j e to own l m n (more extra n) owned st y2 ts ys2 i old v
            next rest target room lm (omega arith) new ti ag2 went is go));
      }

  -- a step takes one temp at most
  few_stepped : (op : Operation) → stepped_temps op ≤ 1
  few_stepped (Whole op i count) = omega arith
  few_stepped (Derived op s count right plain) = omega arith
  few_stepped (Moved size minus left count) = omega arith
  few_stepped (Apart size) = omega arith

  -- the old value stays in the temp that it was loaded into
  pub stepped_object_old : (op : Operation) (computed : Kind) (j : TacKind) (a : Ex) (at own to : ℕ) (q s : Pos)
      (l m n : Mark) (c : Code) → position_in a ≡ Some s → IsStep op j computed →
      PointerRuns ops w t p objects r call g Nil a at l m c → IsOwn g (Some to) own m n →
      Ints (stepped op j n.temps own n.temps [])
      → Assignment_runs j (Compound q op (kind_of j) computed true a (Number 1)) (Some to) l
      (more 1 n) (λ rest. c (instr.Load own at j s
      ∷ stepped op j n.temps own n.temps (instr.Store at n.temps j s ∷ transfer to own rest)))
  stepped_object_old op computed j a at own to q s l m n c position step f owned ints =
      let step_op = stepped_runs ops placed w t p objects r call g scene q op j computed n.temps own n.temps step
      ints in
      let e = Compound q op (kind_of j) computed true a (Number 1) in
      let few = few_stepped op in
      let marks = own_marks (Some to) own m n owned in
      record {
        piece = then_own l m (more 1 n) c (λ rest. instr.Load own at j s
            ∷ stepped op j n.temps own n.temps (instr.Store at n.temps j s ∷ transfer to own rest))
            (let le = marks.0 in omega arith) marks.1
            (λ i rest. step_op.plain i (instr.Store at n.temps j s ∷ transfer to own rest)
            ∙ transfer_plain to own i rest) f.piece;
        runs = λ st ts next rest room target ag go.
            let low = room.low in let high = room.high in let lm = f.piece.temps in let mn = marks.0 in
            f.runs st ts (λ pl u. load ops w (kind_of j) pl u (λ v y2.
            change ops placed w t p objects r call g scene q op j computed v one y2
            (λ i y3. store ops w (kind_of j) pl i y3 (λ i2 y4. next v y4))))
            (instr.Load own at j s
            ∷ stepped op j n.temps own n.temps (instr.Store at n.temps j s ∷ transfer to own rest))
            (record { low = low; high = omega arith }) ag
            (λ pos pointer u us first.
            let mine = own_temp ops placed w t p objects r call g scene (Some to) own m n owned l lm low target in
            let own_below = mine.1 in
            let at_below = stays_below ops g scene Nil l.temps m.temps at (omega arith) first.stays in
            changed_there e j (λ i. spares i a) (Some to) at own n.temps l m n (more 1 n)
            (λ v. change ops placed w t p objects r call g scene q op j computed v one)
            (stepped op j n.temps own n.temps) true pos s st u ts us pointer next rest (first.position s position)
            owned target room lm (omega arith)
            (λ i i2. and_left (spares i a) true (and_right (not (is_variable i a)) (spares i a && true) i2)) first.done
            first.value (stays_apart Nil (Some to) at own l.temps m.temps l m n owned lm low target (omega arith)
            (omega arith) first.stays) (omega arith) go n.temps (omega arith) (inr (refl, omega arith))
            (λ v vs hv long alike. step_op.runs v u vs hv (let size = first.done.agrees.room in omega arith)
            first.done.agrees.sound)
            (λ v i y2 ys2 tv ti ag2 went is keep. given_own j e (Some to) own l m n (more 1 n) owned st y2 ts ys2 v
            false v next rest target room lm (omega arith) refl tv ag2 went
            (keep (λ e2. absurd (omega arith))) go));
      }
