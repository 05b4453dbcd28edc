-- Library functions and intrinsics.
use Rattle.std.proofs.Common.{◌≡◌, ℕ, ◌≤◌, ◌<◌, Bool, true, false, List, [], ◌∷◌, length, Option, Some}
use Rattle.std.proofs.Common.{None, Result, Ok, refl, sym, ap, subst, ◌∙◌, arith}
use Rattle.std.specs.Prelude.{slice_get, slice_set, slice_index_or, ◌-◌, ◌%◌, ◌^◌}
use Rattle.ck_base.specs.World.{World, Done as Did, GivesBytes, fails_after}
use Rattle.ck_base.specs.Runs.{with_put, with_read}
use Rattle.ck_base.specs.declared.positions.Pos.{Pos}
use Rattle.ck_int.specs.Kinds.{IsKept, wrapped, kept_of, reduced}
use Rattle.ck_int.specs.declared.kinds.IntKind.TheVariants as int
use Rattle.ck_int.proofs.Laws.{IsKept-below}
use Rattle.ck_int.proofs.OperationLaws.{IsKept-64}
use Rattle.c_tree.specs.declared.typed.Typed.{Typed}
use Rattle.obj_mem.specs.Values.{Value}
use Rattle.obj_mem.specs.Values as value
use Rattle.obj_mem.specs.declared.ending.Fault.{Fault}
use Rattle.obj_mem.specs.declared.ending.Ending.TheVariants as ending
use Rattle.cheri_c_sem.specs.Kinds.{Kind, Plain, Capability, number_of, nothing}
use Rattle.cheri_c_sem.specs.Meaning.{first_of, serve}
use Rattle.cheri_c_sem.specs.Modes.{Store}
use Rattle.cheri_c_sem.specs.Operations as work
use Rattle.cheri_c_sem.specs.Operations.{Operations, Work, on_ok, convert_by}
use Rattle.cheri_c_sem.specs.Steps.{State, Fate, Then, answer, choose, ends, byte_or_end}
use Rattle.cheri_c_sem.specs.Tree.{Service, Put_char, Get_char, Malloc, Exit, Address, Bounds, Works, Ex, Exs, Library}
use Rattle.tac_ir.specs.Effects.{kind_of, held, no_position, temp_in, set_optional, work_of}
use Rattle.tac_ir.specs.Meaning.{Running, Runs, turns, behind_turn, pass, follow, with_result}
use Rattle.tac_ir.specs.Temps.{behind}
use Rattle.tac_ir.specs.declared.code.Amount.TheVariants as amount
use Rattle.tac_ir.specs.declared.code.LibOp.{LibOp}
use Rattle.tac_ir.specs.declared.code.LibOp.TheVariants as lib
use Rattle.tac_ir.specs.declared.code.Tac.{Tac}
use Rattle.tac_ir.specs.declared.code.TacInstr.{TacInstr}
use Rattle.tac_ir.specs.declared.code.TacInstr.TheVariants as instr
use Rattle.tac_ir.specs.declared.code.TacKind.{TacKind}
use Rattle.tac_ir.specs.declared.code.TacKind.TheVariants as kind
use Rattle.lower_runs.specs.States.{Scene, IsScene, IsOf, IsOnward, IsPlaced, IsWorkedOn, kind_given}
use Rattle.lower_runs.specs.Operating.{Code, word}
use Rattle.lower_runs.specs.Expressions.{Mark, Signature, spares, int_kind, pointer_kind, cap_of, intrinsic}
use Rattle.lower_runs.specs.Expressions.{serves}
use Rattle.lower_runs.specs.Expressions.{served, first_kind, Takes}
use Rattle.lower_runs.specs.Following.{IsGiven}
use Rattle.lower_runs.specs.Simulation.{HasRoom, IsTargetIfAny, Done, goes}
use Rattle.lower_runs.specs.Calling.{AreOf, AreIn, ArgumentsRun, CallRuns, Resulted, IsAsked}
use Rattle.lower_runs.proofs.Labels.{then_own}
use Rattle.lower_runs.proofs.Steps.{held_is}
use Rattle.lower_runs.proofs.Assignments.{done_memory}
use Rattle.lower_runs.proofs.Calls.{arguments_are, resulted}
use Rattle.lower_runs.proofs.Addresses.{as_number, convert_runs}
use Rattle.lower_runs.proofs.Words.{byte_kept}

-- the number of a value, where it is one
pub number_below : (k : Kind) (v : Value) → IsOf k v → number_of v < 2 ^ 64
number_below (Plain k) v h =
    subst (λ z. number_of z < 2 ^ 64) (sym h.1) (IsKept-below k h.0 h.2)
number_below (Capability s) (value.Int n) h = absurd h
number_below (Capability s) (value.Live object low high offset permissions) h = omega arith
number_below (Capability s) (value.Fun f) h = omega arith
number_below (Capability s) (value.Raw address upper) h = omega arith

-- the end of what is read is -1
end_kept : IsKept int.I32 (2 ^ 64 - 1)
unfolding wrapped kept_of reduced
end_kept = record { kept = refl }

serves_plain : (service : Service) (to : Option ℕ) (k : TacKind) (ts : List ℕ) (o : ℕ) (rest : List TacInstr) →
    behind o (serves service to k ts rest) ≡ behind o rest
serves_plain Put_char to k ts o rest = refl
serves_plain Get_char to k ts o rest = refl
serves_plain Malloc to k ts o rest = refl
serves_plain Exit to k ts o rest = refl
serves_plain Address None k ts o rest = refl
serves_plain Address (Some to) k ts o rest = refl
serves_plain (Bounds exact) None k ts o rest = refl
serves_plain (Bounds exact) (Some to) k ts o rest = by (slice_get ts 1)
  where
    by : (b : Option ℕ) → behind o (intrinsic (Bounds exact) (Some to) k (slice_index_or ts 0 0) b rest) ≡ behind o rest
    by None = refl
    by (Some b) = refl
serves_plain (Works z) None k ts o rest = refl
serves_plain (Works z) (Some to) k ts o rest = refl

work_same : (o : Work) → work_of (cap_of o) ≡ o
work_same work.Base = refl
work_same work.Offset = refl
work_same work.Length = refl
work_same work.Tag = refl
work_same work.Perms = refl
work_same work.Clear = refl
work_same work.Set_address = refl
work_same work.And_perms = refl
work_same work.Equal_exact = refl
work_same work.Rounded = refl
work_same work.Mask = refl

module _ (ops : Operations Store) (placed : IsPlaced ops) (w : World) (t : Tac) (p : Typed) (objects : ℕ → List ℕ)
    (call : ℕ → List Value → Then Store Value) (signs : ℕ → Signature) (r : Running) (g : Scene)
    (scene : IsScene g) where
  abbrev run : List TacInstr → State Store → List (Option Value) → Fate
  run = goes ops w t p objects r call g

  abbrev sets : ℕ → ℕ → Value → List TacInstr → State Store → Fate
  sets n to v rest s = turns ops w t p objects n rest Runs r (record s { vars = slice_set s.vars to (Some v) })

  abbrev Call_runs : (k : Option TacKind) (e : Ex) (to : Option ℕ) (m n : Mark) (c : Code) → Type 0
  Call_runs = CallRuns ops w t p objects call signs r g

  something_taken : (o : Work) → Takes (Works o) [] → ⊥
  something_taken work.Base h = h
  something_taken work.Offset h = h
  something_taken work.Length h = h
  something_taken work.Tag h = h
  something_taken work.Perms h = h
  something_taken work.Clear h = h
  something_taken work.Set_address h = h
  something_taken work.And_perms h = h
  something_taken work.Equal_exact h = h
  something_taken work.Rounded h = h
  something_taken work.Mask h = h

  -- what an intrinsic gives has the kind that it is served with
  work_kind : (o : Work) (k : TacKind) (ks : List TacKind) (v : Value) → Takes (Works o) (k ∷ ks) →
      IsOf (kind_given o) v → IsGiven (served (Works o) k) v
  work_kind work.Base k ks v takes h = h
  work_kind work.Offset k ks v takes h = h
  work_kind work.Length k ks v takes h = h
  work_kind work.Tag k ks v takes h = h
  work_kind work.Perms k ks v takes h = h
  work_kind work.Clear (kind.Cap s) ks v takes h = h
  work_kind work.Set_address (kind.Cap s) ks v takes h = h
  work_kind work.And_perms (kind.Cap s) ks v takes h = h
  work_kind work.Equal_exact k ks v takes h = h
  work_kind work.Rounded k ks v takes h = h
  work_kind work.Mask k ks v takes h = h
  work_kind o k ks v takes h = absurd takes

  worked_on : (o : Work) (k : TacKind) (ks : List TacKind) (v : Value) → Takes (Works o) (k ∷ ks) →
      IsOf (kind_of k) v → IsWorkedOn o v
  worked_on work.Rounded k ks v takes h = tt
  worked_on work.Mask k ks v takes h = tt
  worked_on work.Base (kind.Cap s) ks v takes h = h
  worked_on work.Offset (kind.Cap s) ks v takes h = h
  worked_on work.Length (kind.Cap s) ks v takes h = h
  worked_on work.Tag (kind.Cap s) ks v takes h = h
  worked_on work.Perms (kind.Cap s) ks v takes h = h
  worked_on work.Clear (kind.Cap s) ks v takes h = h
  worked_on work.Set_address (kind.Cap s) ks v takes h = h
  worked_on work.And_perms (kind.Cap s) ks v takes h = h
  worked_on work.Equal_exact (kind.Cap s) ks v takes h = h
  worked_on o k ks v takes h = absurd takes

  -- the outside, too, is no part of what agrees
  done_did : (f : ℕ → Bool) (m : Mark) (s u : State Store) (ts us : List (Option Value)) (d : Did) →
      Done ops g f m s ts u us → Done ops g f m s ts (record u { done = d }) us
  done_did f m s u ts us d a = record {
    agrees = record {
      room = a.agrees.room;
      count = a.agrees.count;
      variable = a.agrees.variable;
      typed = a.agrees.typed;
      object = a.agrees.object;
      there = a.agrees.there;
      sound = a.agrees.sound;
      within = a.agrees.within;
      high = a.agrees.high;
    };
    went = record {
      left = a.went.left;
      first = a.went.first;
      frame = a.went.frame;
      onward = a.went.onward;
      spared = a.went.spared;
      kept = a.went.kept;
    };
  }

  -- what goes on with a value, where there is one and it is asked for
  abbrev with_value : Option ℕ → Value → List TacInstr → State Store → Fate
  with_value to v rest s = turns ops w t p objects s.left rest Runs r (record s { vars = with_result s.vars to v })

  module _ (k : Option TacKind) (e : Ex) (to : Option ℕ) (m n : Mark) (s u : State Store)
      (temps us : List (Option Value)) (l : Value → State Store → Fate) (rest : List TacInstr) (asked : IsAsked to k)
      (target : IsTargetIfAny g m to) (room : HasRoom g m n) (le : m.temps ≤ n.temps)
      (done : Done ops g (λ x. spares x e) m s temps u us)
      (go : (v : Value) (y : State Store) (ys : List (Option Value)) →
      Resulted ops w t p objects call signs r g k e to m s temps v y ys → l v y ≡ run rest y ys) where
    finish : (v : Value) (mem : Store) (d : Did) → IsGiven k v → IsOnward ops u.mem mem
        → l v (record u { mem = mem; done = d }) ≡ with_value to v rest (record u { mem = mem; done = d; vars = us })
    finish v mem d given on =
        by to asked target go
      where
        y : State Store
        y = record u { mem = mem; done = d }

        later : Done ops g (λ x. spares x e) m s temps y us
        later = done_did (λ x. spares x e) m s (record u { mem = mem }) temps us d
            (done_memory ops placed w t p objects r call g scene (λ x. spares x e) m s u temps us mem on done)

        by : (to : Option ℕ) → IsAsked to k → IsTargetIfAny g m to
            → ((v : Value) (y : State Store) (ys : List (Option Value)) →
            Resulted ops w t p objects call signs r g k e to m s temps v y ys → l v y ≡ run rest y ys)
            → l v y ≡ with_value to v rest (record y { vars = us })
        by None i j go2 = go2 v y us
            (resulted ops placed w t p objects call signs r g scene k e None m n s y temps us v i j room le given later)
        by (Some at) i j go2 = some k i go2 given
          where
            some : (k : Option TacKind) → IsAsked (Some at) k
                → ((v : Value) (y : State Store) (ys : List (Option Value)) →
                Resulted ops w t p objects call signs r g k e (Some at) m s temps v y ys → l v y ≡ run rest y ys)
                → IsGiven k v → l v y ≡ with_value (Some at) v rest (record y { vars = us })
            some None i2 go3 given2 = absurd i2
            some (Some k2) i2 go3 given2 = go3 v y (slice_set us at (Some v))
                (resulted ops placed w t p objects call signs r g scene (Some k2) e
                (Some at) m n s y temps us v i2 j room
                le given2 later)

    -- ---- library functions

    abbrev after : LibOp → List Value → Fate
    after op vs = serve ops w no_position (Rattle.tac_ir.specs.Effects.service_of op) vs (record u { vars = us })
        (λ v y. set_optional to v y (follow ops w t p objects (behind_turn ops w t p objects u.left)
        (pass ops w t p objects (behind_turn ops w t p objects u.left) rest) rest r))

    -- a value comes into the temp for it, and the run goes on
    optional_runs : (v : Value) (mem : Store) (d : Did)
        → with_value to v rest (record u { mem = mem; done = d; vars = us })
        ≡ set_optional to v (record u { mem = mem; done = d; vars = us })
        (follow ops w t p objects (behind_turn ops w t p objects u.left)
        (pass ops w t p objects (behind_turn ops w t p objects u.left) rest) rest r)
    optional_runs v mem d = by to
      where
        by : (to : Option ℕ) → with_value to v rest (record u { mem = mem; done = d; vars = us })
            ≡ set_optional to v (record u { mem = mem; done = d; vars = us })
            (follow ops w t p objects (behind_turn ops w t p objects u.left)
            (pass ops w t p objects (behind_turn ops w t p objects u.left) rest) rest r)
        by None = refl
        by (Some at) = refl

    put_runs : (q : Pos) (ts : List ℕ) (vs : List Value) → AreIn ts vs us → (k ≡ Some int_kind) →
        serve ops w q Put_char vs u l ≡ run (instr.Lib lib.PutChar to ts ∷ rest) u us
    put_runs q ts vs values is =
        by (fails_after w.failing_put (length u.done.output))
        ∙ ap (after lib.PutChar)
        (sym (arguments_are ops placed w t p objects call signs r g scene ts vs (record u { vars = us }) values))
      where
        b : ℕ
        b = number_of (first_of vs) % 256

        by : (c : Bool)
            → choose {A = Unit {0}} c (ends ending.WriteFault)
            (λ t2 k2. k2 tt (record t2 { done = with_put t2.done b })) u
            (λ i y. l (value.Int b) y)
            ≡ choose {A = Unit {0}} c (ends ending.WriteFault)
            (λ t2 k2. k2 tt (record t2 { done = with_put t2.done b }))
            (record u { vars = us }) (λ i y. set_optional to (value.Int b) y
            (follow ops w t p objects (behind_turn ops w t p objects u.left)
            (pass ops w t p objects (behind_turn ops w t p objects u.left) rest) rest r))
        by true = refl
        by false = finish (value.Int b) u.mem (with_put u.done b)
            (subst (λ z. IsGiven z (value.Int b)) (sym is) (b, refl, byte_kept b (omega arith)))
            (Rattle.lower_runs.proofs.Agreement.onward_same ops u.mem)
            ∙ optional_runs (value.Int b) u.mem (with_put u.done b)

    get_runs : GivesBytes w → (q : Pos) (ts : List ℕ) (vs : List Value) → AreIn ts vs us → (k ≡ Some int_kind) →
        serve ops w q Get_char vs u l ≡ run (instr.Lib lib.GetChar to ts ∷ rest) u us
    get_runs bytes q ts vs values is =
        by (fails_after w.failing_read u.done.reads)
        ∙ ap (after lib.GetChar)
        (sym (arguments_are ops placed w t p objects call signs r g scene ts vs (record u { vars = us }) values))
      where
        read : Value
        read = byte_or_end (slice_get w.bytes u.done.reads)

        typed : (o : Option ℕ) → slice_get w.bytes u.done.reads ≡ o → IsOf (Plain int.I32) (byte_or_end o)
        typed None e = (2 ^ 64 - 1, refl, end_kept)
        typed (Some b) e = (b, refl, byte_kept b (bytes u.done.reads b e))

        by : (c : Bool)
            → choose c (ends ending.ReadFault)
            (λ t2 k2. k2 (slice_get w.bytes t2.done.reads) (record t2 { done = with_read t2.done })) u
            (λ o y. l (byte_or_end o) y)
            ≡ choose c (ends ending.ReadFault)
            (λ t2 k2. k2 (slice_get w.bytes t2.done.reads) (record t2 { done = with_read t2.done }))
            (record u { vars = us }) (λ o y. set_optional to (byte_or_end o) y
            (follow ops w t p objects (behind_turn ops w t p objects u.left)
            (pass ops w t p objects (behind_turn ops w t p objects u.left) rest) rest r))
        by true = refl
        by false = finish read u.mem (with_read u.done)
            (subst (λ z. IsGiven z read) (sym is) (typed (slice_get w.bytes u.done.reads) refl))
            (Rattle.lower_runs.proofs.Agreement.onward_same ops u.mem) ∙ optional_runs read u.mem (with_read u.done)

    malloc_runs : (q : Pos) (ts : List ℕ) (vs : List Value) → AreIn ts vs us → (k ≡ Some pointer_kind) →
        serve ops w q Malloc vs u l ≡ run (instr.Lib lib.Malloc to ts ∷ rest) u us
    malloc_runs q ts vs values is =
        let a = placed.allocate u.mem (number_of (first_of vs)) done.agrees.sound in
        ap (λ z. answer q z u (λ x y. l x.0 (record y { mem = x.1 }))) a.1
        ∙ finish a.0.0 a.0.1 u.done (subst (λ z. IsGiven z a.0.0) (sym is) a.2) a.3
        ∙ optional_runs a.0.0 a.0.1 u.done
        ∙ sym (ap (λ z. answer no_position z (record u { vars = us })
        (λ x y. set_optional to x.0 (record y { mem = x.1 })
        (follow ops w t p objects (behind_turn ops w t p objects u.left)
        (pass ops w t p objects (behind_turn ops w t p objects u.left) rest) rest r))) a.1)
        ∙ ap (after lib.Malloc)
        (sym (arguments_are ops placed w t p objects call signs r g scene ts vs (record u { vars = us }) values))

    exit_runs : (q : Pos) (ts : List ℕ) (vs : List Value) → AreIn ts vs us →
        serve ops w q Exit vs u l ≡ run (instr.Lib lib.Exit None ts ∷ rest) u us
    exit_runs q ts vs values =
        ap (λ z. Rattle.cheri_c_sem.specs.Steps.over (ending.Exit (number_of (first_of z) % 256))
        (record u { vars = us }))
        (sym (arguments_are ops placed w t p objects call signs r g scene ts vs (record u { vars = us }) values))

    -- ---- intrinsics: each gives a value without a change

    abbrev asks_of : Option ℕ → (ℕ → Code) → List TacInstr
    asks_of None d = rest
    asks_of (Some at) d = d at rest

    -- the value of one is asked for, or it is not
    intrinsic_runs : (q : Pos) (answered : Result Value Fault) (d : ℕ → Code) (v : Value) → answered ≡ Ok v →
        IsGiven k v
        → ((at : ℕ) → run (d at rest) u us ≡ run rest u (slice_set us at (Some v)))
        → answer q answered u l ≡ run (asks_of to d) u us
    intrinsic_runs q answered d v e given runs =
        ap (λ z. answer q z u l) e
        ∙ finish v u.mem u.done given (Rattle.lower_runs.proofs.Agreement.onward_same ops u.mem)
        ∙ by to
      where
        by : (to : Option ℕ) → with_value to v rest (record u { vars = us })
            ≡ run (asks_of to d) u us
        by None = refl
        by (Some at) = sym (runs at)

    narrow_temp : (to base i : ℕ) (exact : Bool) (v z y : Value) → slice_get us base ≡ Some (Some v) →
        slice_get us i ≡ Some (Some z) → ops.narrow u.mem v (number_of z) exact ≡ Ok y
        → run (instr.Narrow to base (amount.Temp i) exact ∷ rest) u us ≡ run rest u (slice_set us to (Some y))
    narrow_temp to base i exact v z y hv hz e =
        ap (λ a. answer no_position a (record u { vars = us }) (λ d. sets u.left to d rest))
        (ap (λ a. ops.narrow u.mem a (number_of (held (slice_get us i))) exact)
        (held_is ops w t p objects r call g scene us base v hv)
        ∙ ap (λ a. ops.narrow u.mem v (number_of a) exact) (held_is ops w t p objects r call g scene us i z hz) ∙ e)

    -- a second operand, where there is one
    abbrev second_in : Option ℕ → Value
    second_in None = nothing
    second_in (Some i) = held (slice_get us i)

    second_is : (ts : List ℕ) (vs : List Value) → AreIn ts vs us → second_in (slice_get ts 0) ≡ first_of vs
    second_is [] [] h = refl
    second_is [] (v ∷ vs) h = absurd h
    second_is (i ∷ ts) [] h = absurd h
    second_is (i ∷ ts) (v ∷ vs) h = ap held h.0

    second_below : (ks : List TacKind) (vs : List Value) → AreOf ks vs → number_of (first_of vs) < 2 ^ 64
    second_below [] [] h = omega arith
    second_below [] (v ∷ vs) h = absurd h
    second_below (j ∷ ks) [] h = absurd h
    second_below (j ∷ ks) (v ∷ vs) h = number_below (kind_of j) v h.0

    work_runs : (o : Work) (at a : ℕ) (b : Option ℕ) (v z y : Value) → slice_get us a ≡ Some (Some v) →
        second_in b ≡ z → ops.work u.mem o v z ≡ Ok y
        → run (instr.Cap (cap_of o) at a b ∷ rest) u us ≡ run rest u (slice_set us at (Some y))
    work_runs o at a None v z y hv hz e =
        ap (λ d. answer no_position d (record u { vars = us }) (λ i. sets u.left at i rest))
        (ap (λ d. ops.work u.mem d (held (slice_get us a)) nothing) (work_same o)
        ∙ ap (λ d. ops.work u.mem o d nothing) (held_is ops w t p objects r call g scene us a v hv)
        ∙ ap (ops.work u.mem o v) hz ∙ e)
    work_runs o at a (Some b) v z y hv hz e =
        ap (λ d. answer no_position d (record u { vars = us }) (λ i. sets u.left at i rest))
        (ap (λ d. ops.work u.mem d (held (slice_get us a)) (held (slice_get us b))) (work_same o)
        ∙ ap (λ d. ops.work u.mem o d (held (slice_get us b))) (held_is ops w t p objects r call g scene us a v hv)
        ∙ ap (ops.work u.mem o v) hz ∙ e)

    -- ---- all services

    intrinsic_is : (service : Service) (j : TacKind) (a : ℕ) (b : Option ℕ) (d : ℕ → Code) →
        ((at : ℕ) → intrinsic service (Some at) j a b rest ≡ d at rest) → intrinsic service None j a b rest ≡ rest
        → run (asks_of to d) u us ≡ run (intrinsic service to j a b rest) u us
    intrinsic_is service j a b d some none = by to
      where
        by : (to : Option ℕ) → run (asks_of to d) u us ≡ run (intrinsic service to j a b rest) u us
        by None = ap (λ z. run z u us) (sym none)
        by (Some at) = ap (λ z. run z u us) (sym (some at))

    serve_runs : GivesBytes w → (service : Service) (ks : List TacKind) (ts : List ℕ) (vs : List Value) (q : Pos) →
        Takes service ks → AreOf ks vs → AreIn ts vs us → k ≡ served service (first_kind ks)
        → serve ops w q service vs u l ≡ run (serves service to (first_kind ks) ts rest) u us
    serve_runs bytes Put_char ks ts vs q takes typed values is = put_runs q ts vs values is
    serve_runs bytes Get_char ks ts vs q takes typed values is = get_runs bytes q ts vs values is
    serve_runs bytes Malloc ks ts vs q takes typed values is = malloc_runs q ts vs values is
    serve_runs bytes Exit ks ts vs q takes typed values is = exit_runs q ts vs values
    serve_runs bytes Address (kind.Cap z ∷ ks) (a ∷ ts) (v ∷ vs) q takes typed values is =
        let n = as_number ops placed u.mem (kind.Cap z) int.U64 v refl typed.0 in
        intrinsic_runs q (on_ok ops (λ i. Ok (value.Int i)) (ops.address u.mem v))
        (λ at after2. instr.Convert at a (kind.Cap z) word ∷ after2) (value.Int n.number)
        (ap (on_ok ops (λ i. Ok (value.Int i))) n.means)
        (subst (λ i. IsGiven i (value.Int n.number)) (sym is) (n.number, refl, IsKept-64 int.U64 n.number refl n.below))
        (λ at. convert_runs ops placed w t p objects r call g scene at a (kind.Cap z) word v
        (value.Int n.number) u us rest
        values.0 n.converts)
        ∙ intrinsic_is Address (kind.Cap z) a (slice_get ts 0)
        (λ at after2. instr.Convert at a (kind.Cap z) word ∷ after2) (λ at. refl) refl
    serve_runs bytes (Bounds exact) (kind.Cap z ∷ j ∷ ks) (a ∷ b ∷ ts) (v ∷ x ∷ vs) q takes typed values is =
        let o = placed.narrow u.mem v (number_of x) exact in
        intrinsic_runs q (ops.narrow u.mem v (number_of x) exact)
        (λ at after2. instr.Narrow at a (amount.Temp b) exact ∷ after2) o.0 o.1
        (subst (λ i. IsGiven i o.0) (sym is) (placed.narrow_pointer u.mem v o.0 (number_of x) exact typed.0 o.1))
        (λ at. narrow_temp at a b exact v x o.0 values.0 values.1.0 o.1)
        ∙ intrinsic_is (Bounds exact) (kind.Cap z) a (Some b)
        (λ at after2. instr.Narrow at a (amount.Temp b) exact ∷ after2) (λ at. refl) refl
    serve_runs bytes (Works o) (j ∷ ks) (a ∷ ts) (v ∷ vs) q takes typed values is =
        let x = placed.work u.mem o v (first_of vs) in
        intrinsic_runs q (ops.work u.mem o v (first_of vs))
        (λ at after2. instr.Cap (cap_of o) at a (slice_get ts 0) ∷ after2) x.0 x.1
        (subst (λ i. IsGiven i x.0) (sym is) (work_kind o j ks x.0 takes
        (placed.work_of_kind u.mem o v (first_of vs) x.0 done.agrees.sound (worked_on o j ks v takes typed.0)
        (second_below ks vs typed.1) x.1)))
        (λ at. work_runs o at a (slice_get ts 0) v (first_of vs) x.0 values.0 (second_is ts vs values.1) x.1)
        ∙ intrinsic_is (Works o) j a (slice_get ts 0)
        (λ at after2. instr.Cap (cap_of o) at a (slice_get ts 0) ∷ after2) (λ at. refl) refl
    serve_runs bytes Address [] ts vs q takes typed values is = absurd takes
    serve_runs bytes Address (kind.Int c ∷ ks) ts vs q takes typed values is = absurd takes
    serve_runs bytes Address (kind.Cap z ∷ ks) ts [] q takes typed values is = absurd typed
    serve_runs bytes Address (kind.Cap z ∷ ks) [] (v ∷ vs) q takes typed values is = absurd values
    serve_runs bytes (Bounds exact) [] ts vs q takes typed values is = absurd takes
    serve_runs bytes (Bounds exact) (kind.Int c ∷ ks) ts vs q takes typed values is = absurd takes
    serve_runs bytes (Bounds exact) (kind.Cap z ∷ []) ts vs q takes typed values is = absurd takes
    serve_runs bytes (Bounds exact) (kind.Cap z ∷ j ∷ ks) ts [] q takes typed values is = absurd typed
    serve_runs bytes (Bounds exact) (kind.Cap z ∷ j ∷ ks) ts (v ∷ []) q takes typed values is = absurd typed.1
    serve_runs bytes (Bounds exact) (kind.Cap z ∷ j ∷ ks) [] (v ∷ x ∷ vs) q takes typed values is = absurd values
    serve_runs bytes (Bounds exact) (kind.Cap z ∷ j ∷ ks) (a ∷ []) (v ∷ x ∷ vs) q takes typed values is =
        absurd values.1
    serve_runs bytes (Works o) [] ts vs q takes typed values is = absurd (something_taken o takes)
    serve_runs bytes (Works o) (j ∷ ks) ts [] q takes typed values is = absurd typed
    serve_runs bytes (Works o) (j ∷ ks) [] (v ∷ vs) q takes typed values is = absurd values

  pub library_call : GivesBytes w →
      (k : Option TacKind) (to : Option ℕ) (service : Service) (es : Exs) (ks : List TacKind)
      (ts : List ℕ) (q : Pos) (m n : Mark) (c : Code) → IsAsked to k → served service (first_kind ks) ≡ k →
      Takes service ks → ArgumentsRun ops w t p objects call signs r g es ks ts m n c
      → Call_runs k (Library q service es) to m n (λ rest. c (serves service to (first_kind ks) ts rest))
  library_call bytes k to service es ks ts q m n c asked is takes h = record {
    piece = then_own m n n c (λ rest. serves service to (first_kind ks) ts rest) (omega arith) refl
        (λ o rest. serves_plain service to (first_kind ks) ts o rest) h.piece;
    runs = λ s temps l rest room target ag go.
        h.runs s temps (λ vs u. serve ops w q service vs u l) (serves service to (first_kind ks) ts rest) room ag
        (λ vs u us a. serve_runs k (Library q service es) to m n s u temps us l rest asked target room h.piece.temps
        a.done
        go bytes service ks ts vs q takes a.typed a.values (sym is));
  }
