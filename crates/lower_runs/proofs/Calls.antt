-- Calls.
use Rattle.std.proofs.Common.{◌≡◌, ℕ, zero, suc, ◌≤◌, ◌<◌, length, Bool, true, false, List, [], ◌∷◌, map}
use Rattle.std.proofs.Common.{Option, Some, None, refl, sym, ap, subst, ◌∙◌, arith}
use Rattle.std.specs.Prelude.{slice_get, slice_index_or, ◌&&◌}
use Rattle.std.proofs.lemmas.List.{length-map}
use Rattle.ck_base.specs.World.{World}
use Rattle.ck_base.specs.declared.positions.Pos.{Pos}
use Rattle.c_tree.specs.declared.typed.Typed.{Typed}
use Rattle.obj_mem.specs.Values.{Value}
use Rattle.obj_mem.specs.Values as value
use Rattle.cheri_c_sem.specs.Expressions.{fits}
use Rattle.cheri_c_sem.specs.Modes.{Store}
use Rattle.cheri_c_sem.specs.Meaning.{values_of, called, compatible}
use Rattle.cheri_c_sem.specs.Operations.{Operations}
use Rattle.cheri_c_sem.specs.Steps.{State, Fate, Then, turn, turn_from, over, choose, give, ends}
use Rattle.obj_mem.specs.declared.ending.Ending.TheVariants as ending
use Rattle.cheri_c_sem.specs.Tree.{Ex, Exs, Nil, Cons, Pointer_to, Call, Function}
use Rattle.tac_ir.specs.Effects.{kind_of, temp_in}
use Rattle.tac_ir.specs.Meaning.{Caller, Running, Runs, behind_turn, with_result, into, enters}
use Rattle.tac_ir.specs.declared.code.Tac.{Tac}
use Rattle.tac_ir.specs.declared.code.TacInstr.{TacInstr}
use Rattle.tac_ir.specs.declared.code.TacInstr.TheVariants as instr
use Rattle.tac_ir.specs.declared.code.TacKind.{TacKind}
use Rattle.lower_runs.specs.States.{Scene, IsScene, IsOnward, IsPlaced}
use Rattle.lower_runs.specs.Operating.{Code}
use Rattle.lower_runs.specs.Expressions.{Mark, Signature, spares, spare}
use Rattle.lower_runs.specs.Simulation.{HasRoom, IsTargetIfAny, Done, OperandRuns, goes}
use Rattle.lower_runs.specs.Following.{given_back, IsGiven}
use Rattle.lower_runs.specs.Calling.{AreOf, AreIn, Back, entered, backs, CallsRun, ArgumentsRun}
use Rattle.lower_runs.specs.Calling.{Resulted, CallRuns, IsAsked}
use Rattle.lower_runs.proofs.Agreement.{and_left, and_right, onward_then, agrees_memory, stays, done_start}
use Rattle.lower_runs.proofs.Agreement.{done_then}
use Rattle.lower_runs.proofs.Labels.{nothing_own, both_own, then_own}
use Rattle.lower_runs.proofs.Steps.{lands}

index_there : (xs : List Bool) (i : ℕ) → slice_index_or xs i false ≡ true → i < length xs
index_there [] i e = absurd cc
index_there (x ∷ xs) zero e = omega arith
index_there (x ∷ xs) (suc i) e = let lt = index_there xs i e in omega arith

module _ (ops : Operations Store) (placed : IsPlaced ops) (w : World) (t : Tac) (p : Typed)
    (objects : ℕ → List ℕ) (call : ℕ → List Value → Then Store Value) (signs : ℕ → Signature) (r : Running) (g : Scene)
    (scene : IsScene g) where
  abbrev run : List TacInstr → State Store → List (Option Value) → Fate
  run = goes ops w t p objects r call g

  abbrev Arguments_run : (es : Exs) (ks : List TacKind) (ts : List ℕ) (m n : Mark) (c : Code) → Type 0
  Arguments_run = ArgumentsRun ops w t p objects call signs r g

  abbrev Call_runs : (k : Option TacKind) (e : Ex) (to : Option ℕ) (m n : Mark) (c : Code) → Type 0
  Call_runs = CallRuns ops w t p objects call signs r g

  -- ---- arguments

  pub no_arguments : (m : Mark) → Arguments_run Nil [] [] m m (λ rest. rest)
  no_arguments m = record {
    piece = nothing_own m;
    runs = λ s ts l rest room ag go. go [] s ts
        (record { done = done_start ops g scene (λ x. true) m s ts ag; values = tt; typed = tt });
  }

  pub one_argument : (e : Ex) (es : Exs) (k : TacKind) (ks : List TacKind) (at : ℕ) (ts : List ℕ) (l m n : Mark)
      (c d : Code) → OperandRuns ops w t p objects r call g es k e at l m c → Arguments_run es ks ts m n d
      → Arguments_run (Cons e es) (k ∷ ks) (at ∷ ts) l n (λ rest. c (d rest))
  one_argument e es k ks at ts l m n c d f h = record {
    piece = both_own l m n c d f.piece h.piece;
    runs = λ s temps next rest room ag go.
        let low = room.low in let high = room.high in let lm = f.piece.temps in let mn = h.piece.temps in
        f.runs s temps (λ v u. values_of ops w call es u (λ vs. next (v ∷ vs))) (d rest)
        (record { low = low; high = omega arith }) ag
        (λ v u us one. h.runs u us (λ vs. next (v ∷ vs)) rest
        (record { low = omega arith; high = high }) one.done.agrees
        (λ vs z zs two. go (v ∷ vs) z zs (record {
          done = done_then ops g scene (λ x. spares x e) (λ x. spare x es)
              (λ x. spares x e && spare x es) l m s u z temps us zs (λ x i. and_left (spares x e) (spare x es) i)
              (λ x i. and_right (spares x e) (spare x es) i) lm one.done two.done;
          values = (
            stays ops g scene es (λ x. spare x es) l.temps m.temps at None u z us zs v low one.stays (λ x i. i)
                (λ i j k2. tt) one.done.agrees two.done.agrees two.done.went one.value,
            two.values,
          );
          typed = (one.typed, two.typed);
        })));
  }

  pub arguments_are : (ts : List ℕ) (vs : List Value) (s : State Store) → AreIn ts vs s.vars → map (temp_in s) ts ≡ vs
  arguments_are [] [] s h = refl
  arguments_are [] (v ∷ vs) s h = absurd h
  arguments_are (i ∷ ts) [] s h = absurd h
  arguments_are (i ∷ ts) (v ∷ vs) s h =
      ap (λ z. z ∷ map (temp_in s) ts) (ap Rattle.tac_ir.specs.Effects.held h.0)
      ∙ ap (λ z. v ∷ z) (arguments_are ts vs s h.1)

  -- ---- the call and the return

  -- behind a call: memory, turns and what was done are other ones
  abbrev after : State Store → Store → ℕ → Rattle.ck_base.specs.World.Done → State Store
  after s m n d = record s { mem = m; left = n; done = d }

  back_is : (s u : State Store) → Back ops w t p objects call signs s u → u ≡ after s u.mem u.left u.done
  back_is s u b = ap (λ z. record u { vars = z }) b.vars ∙ ap (λ z. record u { vars = s.vars; first = z }) b.first
      ∙ ap (λ z. record u { vars = s.vars; first = s.first; frame = z }) b.frame

  done_after : (f : ℕ → Bool) (m : Mark) (s u : State Store) (ts us : List (Option Value)) (mem : Store) (n : ℕ)
      (d : Rattle.ck_base.specs.World.Done) → IsOnward ops u.mem mem → n ≤ u.left → Done ops g f m s ts u us →
      Done ops g f m s ts (after u mem n d) us
  done_after f m s u ts us mem n d on le a = record {
    agrees =
        let b = agrees_memory ops g scene None u us mem on a.agrees in
        record {
          room = b.room;
          count = b.count;
          variable = b.variable;
          typed = b.typed;
          object = b.object;
          there = b.there;
          sound = b.sound;
          within = let lt = a.agrees.within in omega arith;
          high = b.high;
        };
    went = record {
      left = let lt = a.went.left in
          omega arith;
      first = a.went.first;
      frame = a.went.frame;
      onward =
          onward_then ops s.mem u.mem mem a.went.onward on;
      spared = a.went.spared;
      kept = a.went.kept;
    };
  }

  -- what a call gives comes into the temp for it
  pub resulted : (k : Option TacKind) (e : Ex) (to : Option ℕ) (m n : Mark) (s u : State Store)
      (ts us : List (Option Value))
      (v : Value) → IsAsked to k → IsTargetIfAny g m to → HasRoom g m n → m.temps ≤ n.temps → IsGiven k v
      → Done ops g (λ x. spares x e) m s ts u us →
      Resulted ops w t p objects call signs r g k e to m s ts v u (with_result us to (given_back k v))
  resulted None e None m n s u ts us v asked target room le given d = d
  resulted (Some k) e None m n s u ts us v asked target room le given d = d
  resulted None e (Some to) m n s u ts us v asked target room le given d = absurd asked
  resulted (Some k) e (Some to) m n s u ts us v asked target room le given d =
      lands ops w t p objects r call g scene k (λ x. spares x e) (λ x. spares x e) to m n s u ts us v
      (λ x i. i) target room le given d

  abbrev caller : State Store → List (Option Value) → List TacInstr → Option ℕ → Caller
  caller u us rest to = record { fun = r.fun; vars = us; first = u.first; frame = u.frame; rest = rest; to = to }

  -- the turns of the call and of the return, and between them the function
  passes : CallsRun ops w t p objects call signs g.limit → (f : ℕ) → f < length p.funs →
      (k : Option TacKind) (ks : List TacKind) →
      signs f ≡ record { gives = k; takes = ks } →
      (e : Ex) (to : Option ℕ) (m n : Mark) (s u : State Store) (ts us : List (Option Value)) (vs : List Value)
      (l : Value → State Store → Fate) (rest : List TacInstr) → IsAsked to k → IsTargetIfAny g m to → HasRoom g m n →
      m.temps ≤ n.temps → AreOf ks vs → Done ops g (λ x. spares x e) m s ts u us
      → ((v : Value) (z : State Store) (zs : List (Option Value)) →
      Resulted ops w t p objects call signs r g k e to m s ts v z zs → l v z ≡ run rest z zs)
      → turn u (λ i x. call f vs x (λ v y. turn y (λ j. l v)))
      ≡ into ops w t p objects (behind_turn ops w t p objects u.left) rest f vs to r (record u { vars = us })
  passes runs f inside k ks sign e to m n s u ts us vs l rest asked target room le typed d go = by u.left refl
    where
      returned : (j : ℕ) → u.left ≡ suc j → (v : Value) (mem : Store) (i : ℕ) (dn : Rattle.ck_base.specs.World.Done) →
          IsGiven k v → IsOnward ops u.mem mem → i ≤ j
          → turn_from i (after u mem i dn) (λ q. l v)
          ≡ behind_turn ops w t p objects i rest Runs r
          (record (after u mem i dn) { vars = with_result us to (given_back k v) })
      returned j is v mem zero dn given on lt = refl
      returned j is v mem (suc i) dn given on lt =
          go v (after u mem i dn) (with_result us to (given_back k v))
          (resulted k e to m n s (after u mem i dn) ts us v asked target room le given
          (done_after (λ x. spares x e) m s u ts us mem i dn on (omega arith) d))

      returns : (j : ℕ) → u.left ≡ suc j → (v : Value) (y : State Store) → IsGiven (signs f).gives v →
          Back ops w t p objects call signs (record u { left = j }) y
          → turn y (λ q. l v) ≡ backs ops w t p objects call signs (caller u us rest to ∷ r.callers)
          (given_back (signs f).gives v) y
      returns j is v y given b =
          subst (λ z. turn z (λ q. l v) ≡ backs ops w t p objects call signs (caller u us rest to ∷ r.callers)
          (given_back (signs f).gives v) z) (sym (back_is (record u { left = j }) y b))
          (returned j is v y.mem y.left y.done (subst (λ z. IsGiven z v) (ap (λ z. z.gives) sign) given) b.onward b.left
          ∙ ap (λ z. behind_turn ops w t p objects y.left rest Runs r
          (record (after u y.mem y.left y.done) { vars = with_result us to (given_back z v) }))
          (sym (ap (λ z. z.gives) sign)))

      by : (i : ℕ) → u.left ≡ i →
          turn_from i u (λ q x. call f vs x (λ v y. turn y (λ j. l v)))
          ≡ into ops w t p objects (behind_turn ops w t p objects i) rest f vs to r (record u { vars = us })
      by zero is = stops (ops.enter f u.frame)
        where
          stops : (o : Option ℕ) → over ending.Turns u
              ≡ enters ops w t p objects (behind_turn ops w t p objects zero) o f vs
              (record { fun = f; callers = caller u us rest to ∷ r.callers }) (record u { vars = us })
          stops None = refl
          stops (Some a) = refl
      by (suc j) is =
          runs.runs f vs (record u { left = j }) (caller u us rest to ∷ r.callers) (λ v y. turn y (λ q. l v))
          inside (let lt = d.agrees.within in omega arith) d.agrees.sound d.agrees.high
          (subst (λ z. AreOf z vs) (sym (ap (λ z. z.takes) sign)) typed)
          (returns j is)
          ∙ starts (ops.enter f u.frame)
        where
          starts : (o : Option ℕ) →
              entered ops w t p objects call signs o f vs
              (record { fun = f; callers = caller u us rest to ∷ r.callers }) (record u { left = j })
              ≡ enters ops w t p objects (behind_turn ops w t p objects (suc j)) o f vs
              (record { fun = f; callers = caller u us rest to ∷ r.callers }) (record u { vars = us })
          starts None = refl
          starts (Some a) = refl

  -- ---- calls

  module _ (runs : CallsRun ops w t p objects call signs g.limit) where
    -- what is called is a function that the call names
    pub named_call : (k : Option TacKind) (to : Option ℕ) (f : ℕ) (fitting : List Bool) (es : Exs) (ks : List TacKind)
        (ts : List ℕ) (q i j : Pos) (m n : Mark) (c : Code) → IsAsked to k → slice_index_or fitting f false ≡ true →
        f < length p.funs →
        signs f ≡ record { gives = k; takes = ks }
        → Arguments_run es ks ts m n c →
        Call_runs k (Call q fitting (Pointer_to i None (Function j f)) es) to m n
        (λ rest. c (instr.Call to f ts ∷ rest))
    named_call k to f fitting es ks ts q i j m n c asked fit inside sign h = record {
      piece = then_own m n n c (λ rest. instr.Call to f ts ∷ rest) (omega arith) refl (λ o rest. refl) h.piece;
      runs = λ s temps l rest room target ag go.
          h.runs s temps (λ vs u. called ops w q fitting (value.Fun f) u
          (λ o y. turn y (λ b x. call o vs x (λ v y2. turn y2 (λ b2. l v))))) (instr.Call to f ts ∷ rest) room ag
          (λ vs u us a.
          ap (λ z. choose z (give f) (ends (ending.Outside q)) u
          (λ o y. turn y (λ b x. call o vs x (λ v y2. turn y2 (λ b2. l v))))) fit
          ∙ passes runs f inside k ks sign (Call q fitting (Pointer_to i None (Function j f)) es) to m n s u temps us vs
          l rest
          asked target room h.piece.temps a.typed a.done go
          ∙ ap (λ z. into ops w t p objects (behind_turn ops w t p objects u.left) rest f z to r
          (record u { vars = us })) (sym (arguments_are ts vs (record u { vars = us }) a.values)));
    }

    -- or a value, where its type fits
    pub value_call : (k : Option TacKind) (to : Option ℕ) (at of : ℕ) (e : Ex) (es : Exs) (ks : List TacKind)
        (ts : List ℕ) (q : Pos) (l m n : Mark) (c d : Code) → IsAsked to k
        → ((f : ℕ) → slice_index_or (fits p [] of) f false ≡ true → signs f ≡ record { gives = k; takes = ks }) →
        OperandRuns ops w t p objects r call g es Rattle.lower_runs.specs.Expressions.pointer_kind e at l m c →
        Arguments_run es ks ts m n d
        → Call_runs k (Call q (fits p [] of) e es) to l n (λ rest. c (d (instr.CallValue to at of ts q ∷ rest)))
    value_call k to at of e es ks ts q l m n c d asked sign f h = record {
      piece = both_own l m n c (λ rest. d (instr.CallValue to at of ts q ∷ rest)) f.piece
          (then_own m n n d (λ rest. instr.CallValue to at of ts q ∷ rest) (omega arith) refl (λ o rest. refl) h.piece);
      runs = λ s temps next rest room target ag go.
          let low = room.low in let high = room.high in let lm = f.piece.temps in let mn = h.piece.temps in
          f.runs s temps (λ v u. values_of ops w call es u
          (λ vs y. called ops w q (fits p [] of) v y
          (λ o y2. turn y2 (λ b x. call o vs x (λ i y3. turn y3 (λ b2. next i))))))
          (d (instr.CallValue to at of ts q ∷ rest)) (record { low = low; high = omega arith }) ag
          (λ v u us one. h.runs u us (λ vs y. called ops w q (fits p [] of) v y
          (λ o y2. turn y2 (λ b x. call o vs x (λ i y3. turn y3 (λ b2. next i)))))
          (instr.CallValue to at of ts q ∷ rest) (record { low = omega arith; high = high }) one.done.agrees
          (λ vs z zs two.
          let done = done_then ops g scene (λ x. spares x e) (λ x. spare x es)
          (λ x. spares x e && spare x es) l m s u z temps us zs (λ x i. and_left (spares x e) (spare x es) i)
          (λ x i. and_right (spares x e) (spare x es) i) lm one.done two.done in
          let there = stays ops g scene es (λ x. spare x es) l.temps m.temps at None u z us zs v low one.stays
          (λ x i. i) (λ i j k2. tt) one.done.agrees two.done.agrees two.done.went one.value in
          let after_called : Value → List Value → Fate =
          λ x ys. called ops w q (fits p [] of) x (record z { vars = zs })
          (λ o y. into ops w t p objects (behind_turn ops w t p objects z.left) rest o ys to r y) in
          by v s z temps zs vs next rest room target (omega arith) two.typed done go
          ∙ ap (λ x. after_called x vs) (sym (ap Rattle.tac_ir.specs.Effects.held there))
          ∙ ap (after_called (Rattle.tac_ir.specs.Effects.held (slice_get zs at)))
          (sym (arguments_are ts vs (record z { vars = zs }) two.values))));
    }
      where
        by : (v : Value) (s z : State Store) (temps zs : List (Option Value)) (vs : List Value)
            (next : Value → State Store → Fate) (rest : List TacInstr) → HasRoom g l n → IsTargetIfAny g l to →
            l.temps ≤ n.temps → AreOf ks vs
            → Done ops g (λ x. spares x (Call q (fits p [] of) e es)) l s temps z zs →
            ((i : Value) (y : State Store) (ys : List (Option Value)) →
            Resulted ops w t p objects call signs r g k (Call q (fits p [] of) e es) to l s temps i y ys →
            next i y ≡ run rest y ys)
            → called ops w q (fits p [] of) v z (λ o y2. turn y2 (λ b x. call o vs x (λ i y3. turn y3 (λ b2. next i))))
            ≡ called ops w q (fits p [] of) v (record z { vars = zs })
            (λ o y. into ops w t p objects (behind_turn ops w t p objects z.left) rest o vs to r y)
        by (value.Int n2) s z temps zs vs next rest room target le typed done go = refl
        by (value.Live object low high offset permissions) s z temps zs vs next rest room target le typed done go = refl
        by (value.Raw address upper) s z temps zs vs next rest room target le typed done go = refl
        by (value.Fun o) s z temps zs vs next rest room target le typed done go =
            which (slice_index_or (fits p [] of) o false) refl
          where
            which : (b : Bool) → slice_index_or (fits p [] of) o false ≡ b
                → compatible ops w q o b z (λ i y2. turn y2 (λ b2 x. call i vs x (λ j y3. turn y3 (λ b3. next j))))
                ≡ compatible ops w q o b (record z { vars = zs })
                (λ i y. into ops w t p objects (behind_turn ops w t p objects z.left) rest i vs to r y)
            which false is = refl
            which true is = passes runs o
                (subst (λ x. o < x) (length-map p.funs _) (index_there (fits p [] of) o is))
                k ks (sign o is)
                (Call q (fits p [] of) e es) to l n s z temps zs vs next rest asked target room le typed done go
