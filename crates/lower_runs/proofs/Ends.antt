-- The end of a function.
use Rattle.std.proofs.Common.{◌≡◌, ℕ, suc, ◌≤◌, length, List, [], ◌∷◌, Option, Some, None, refl, sym, ap, subst}
use Rattle.std.proofs.Common.{◌∙◌, arith}
use Rattle.std.specs.Prelude.{slice_set}
use Rattle.ck_base.specs.World.{World}
use Rattle.c_tree.specs.declared.typed.Typed.{Typed}
use Rattle.obj_mem.specs.Values.{Value}
use Rattle.cheri_c_sem.specs.Calls.{end_locals, at_end, close}
use Rattle.cheri_c_sem.specs.Calls as calls
use Rattle.cheri_c_sem.specs.Kinds.{nothing, zero_of}
use Rattle.cheri_c_sem.specs.Modes.{Store}
use Rattle.cheri_c_sem.specs.Operations.{Operations}
use Rattle.cheri_c_sem.specs.Steps.{State, Fate, Then, ◌>>=◌, ◌>>◌, give, answer}
use Rattle.cheri_c_sem.specs.Tree.{At_end, Gives_nothing, Gives_zero, Lacks, Fun}
use Rattle.tac_ir.specs.Effects.{kind_of}
use Rattle.tac_ir.specs.Meaning.{Caller, Running, Runs, behind_turn, back, with_result}
use Rattle.tac_ir.specs.declared.code.Tac.{Tac}
use Rattle.tac_ir.specs.declared.code.TacInstr.TheVariants as instr
use Rattle.tac_ir.specs.declared.code.TacKind.{TacKind}
use Rattle.lower_runs.specs.States.{Scene, IsScene, IsOf, IsOnward, IsPlaced}
use Rattle.lower_runs.specs.Expressions.{Signature}
use Rattle.lower_runs.specs.Simulation.{goes}
use Rattle.lower_runs.specs.Following.{given_back, IsGiven, Came}
use Rattle.lower_runs.specs.Calling.{Back, backs}
use Rattle.lower_runs.specs.Functions.{end_code, HasEndTemp, IsEnd, FunctionsEnd}
use Rattle.lower_runs.proofs.Agreement.{get_set_same, onward_same, onward_then}
use Rattle.lower_runs.proofs.Steps.{zero_is_of, constant, constant_zero, constant_runs, held_is}

module _ (ops : Operations Store) (placed : IsPlaced ops) (w : World) (t : Tac) (p : Typed)
    (objects : ℕ → List ℕ) (call : ℕ → List Value → Then Store Value) (signs : ℕ → Signature) (n : ℕ)
    (callers : List Caller) (g : Scene) (scene : IsScene g) (f : Fun) (gives : Option TacKind) (at : ℕ)
    (there : HasEndTemp gives at g.size)
    (own : f.objects ≡ objects n) (caller s : State Store) (on : IsOnward ops caller.mem s.mem)
    (fewer : s.left ≤ caller.left) (k : Value → State Store → Fate)
    (goes_back : (v : Value) (u : State Store) → IsGiven gives v → Back ops w t p objects call signs caller u →
    k v u ≡ backs ops w t p objects call signs callers (given_back gives v) u) where
  abbrev r : Running
  r = record { fun = n; callers = callers }

  abbrev Comes : State Store → Type 0
  Comes u = Came ops w t p objects r call gives s u

  -- the locals have ended, in the caller
  abbrev closed : State Store → State Store
  closed u = record u {
    vars = caller.vars;
    first = caller.first;
    mem = end_locals ops u.mem u.first f.objects;
    frame = caller.frame;
  }

  abbrev returned : Value → State Store → List (Option Value) → Fate
  returned v u us = back ops w t p objects (behind_turn ops w t p objects u.left) v n callers (record u { vars = us })

  -- whatever is in its temps
  returned_alike : (v : Value) (u : State Store) (us vs : List (Option Value)) → returned v u us ≡ returned v u vs
  returned_alike v u us vs = by callers
    where
      by : (cs : List Caller) → back ops w t p objects (behind_turn ops w t p objects u.left) v n cs
          (record u { vars = us })
          ≡ back ops w t p objects (behind_turn ops w t p objects u.left) v n cs (record u { vars = vs })
      by [] = refl
      by (c ∷ cs) = refl

  all_end : (ls : List ℕ) (m : Store) (object : ℕ) → IsOnward ops m (end_locals ops m object ls)
  all_end [] m object = onward_same ops m
  all_end (l ∷ ls) m object =
      onward_then ops m (ops.end m object) (end_locals ops (ops.end m object) (suc object) ls) (placed.end m object)
      (all_end ls (ops.end m object) (suc object))

  pub leaves : (v : Value) (u : State Store) (us : List (Option Value)) → Comes u → IsGiven gives v →
      k v (closed u) ≡ returned (given_back gives v) u us
  leaves v u us came given =
      goes_back v (closed u) given (record {
        vars = refl;
        first = refl;
        frame = refl;
        left = let le = came.left in omega arith;
        onward = onward_then ops caller.mem s.mem (closed u).mem on
            (onward_then ops s.mem u.mem (closed u).mem came.onward (all_end f.objects u.mem u.first));
      })
      ∙ by callers
    where
      by : (cs : List Caller) → backs ops w t p objects call signs cs (given_back gives v) (closed u)
          ≡ back ops w t p objects (behind_turn ops w t p objects u.left) (given_back gives v) n cs
          (record u { vars = us })
      by [] = refl
      by (c ∷ cs) = ap (λ z. behind_turn ops w t p objects u.left c.rest Runs
          (record { fun = c.fun; callers = cs }) (record u {
            vars = with_result c.vars c.to (given_back gives v);
            first = c.first;
            mem = end_locals ops u.mem u.first z;
            frame = c.frame;
          })) own

  gives_zero : (j : TacKind) → gives ≡ Some j → (u : State Store) (us : List (Option Value)) → length us ≡ g.size →
      Comes u → k (constant j 0) (closed u)
      ≡ goes ops w t p objects r call g (instr.Const at j 0 ∷ instr.Return (Some at) ∷ []) u us
  gives_zero j e u us room came =
      leaves (constant j 0) u us came (subst (λ z. IsGiven z (constant j 0)) (sym e)
      (subst (IsOf (kind_of j)) (sym (constant_zero j)) (zero_is_of (kind_of j))))
      ∙ ap (λ z. returned (given_back z (constant j 0)) u us) e
      ∙ returned_alike (constant j 0) u us (slice_set us at (Some (constant j 0)))
      ∙ ap (λ z. returned z u (slice_set us at (Some (constant j 0)))) (sym (held_is ops w t p objects r call g scene
      (slice_set us at (Some (constant j 0))) at (constant j 0)
      (get_set_same us at (Some (constant j 0)) (let lt = subst (λ z. HasEndTemp z at g.size) e there in omega arith))))
      ∙ sym (constant_runs ops w t p objects r call g scene j at 0 (instr.Return (Some at) ∷ []) u us)

  pub ends : (o : Option TacKind) (e : At_end) → gives ≡ o → IsEnd o e → (u : State Store)
      (us : List (Option Value)) → length us ≡ g.size → Comes u
      → (at_end ops w f.name e >>= λ v. close ops w f >> (calls.back ops w caller >> give v)) u k
      ≡ goes ops w t p objects r call g (end_code o at) u us
  ends None Gives_nothing e h u us room came =
      leaves nothing u us came (subst (λ z. IsGiven z nothing) (sym e) tt)
      ∙ ap (λ z. returned (given_back z nothing) u us) e
  ends None Gives_zero e h u us room came = absurd h
  ends None (Lacks j) e h u us room came =
      ap (λ z. (answer f.name z >>= λ v. close ops w f >> (calls.back ops w caller >> give v)) u k) (placed.falls j)
      ∙ leaves (zero_of j) u us came (subst (λ z. IsGiven z (zero_of j)) (sym e) tt)
      ∙ ap (λ z. returned (given_back z (zero_of j)) u us) e
  ends (Some j) Gives_nothing e h u us room came = absurd h
  ends (Some j) Gives_zero e h u us room came =
      ap (λ z. k z (closed u)) (ap (λ z. constant z 0) (sym h)) ∙ gives_zero j e u us room came
  ends (Some j) (Lacks i) e h u us room came =
      ap (λ z. (answer f.name z >>= λ v. close ops w f >> (calls.back ops w caller >> give v)) u k) (placed.falls i)
      ∙ ap (λ z. k z (closed u)) (ap zero_of (sym h) ∙ sym (constant_zero j)) ∙ gives_zero j e u us room came

pub functions_end : FunctionsEnd
functions_end ops placed w t p objects call signs n callers g scene f at there end own caller s on fewer k goes_back =
    record {
      goes_on = λ u us came ag. ended f.at_end u us end ag.room came;
      breaks = λ b e. absurd cc;
      continues = λ b e. absurd cc;
      returns = λ v u us came given. leaves ops placed w t p objects call signs n callers g scene f
          (signs n).gives at there own caller
          s
          on
          fewer k goes_back v u us came given;
    }
  where
    ended : (e : At_end) (u : State Store) (us : List (Option Value)) → IsEnd (signs n).gives e →
        length us ≡ g.size → Came ops w t p objects (record { fun = n; callers = callers }) call (signs n).gives s u
        → (at_end ops w f.name e >>= λ v. close ops w f >> (calls.back ops w caller >> give v)) u k
        ≡ goes ops w t p objects (record { fun = n; callers = callers }) call g (end_code (signs n).gives at) u us
    ended e u us h room came =
        ends ops placed w t p objects call signs n callers g scene f (signs n).gives at there own caller s on fewer
        k goes_back (signs n).gives e refl h u us room came
