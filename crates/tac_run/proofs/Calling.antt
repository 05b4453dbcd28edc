-- The calls that wait, as the code keeps them: the newest last; and the objects of a function.
use Rattle.std.proofs.Common.{◌≡◌, ℕ, zero, suc, Bool, List, [], ◌∷◌, ◌++◌, map, Option, refl, ap, ◌∙◌}
use Rattle.std.specs.Prelude.{reverse, slice_get}
use Rattle.std.proofs.lemmas.List.{reverse-append}
use Rattle.c_tree.specs.declared.typed.FunDef.{FunDef}
use Rattle.c_tree.specs.declared.typed.Typed.{Typed}
use Rattle.obj_mem.specs.Values.{Value}
use Rattle.cheri_c_sem.specs.Modes.{Store}
use Rattle.cheri_c_sem.specs.Programs.{function_trees, lengths_of, program_tree}
use Rattle.tac_ir.specs.Meaning.{objects_of}
use Rattle.tac_steps.specs.Machine.{Caller as Waiting, Moment}
use Rattle.tac_run.specs.Lists.{vars_of}
use Rattle.tac_run.specs.Ready.{objects_by}
use Rattle.tac_run.specs.Views.{caller_of}
use Rattle.tac_run.specs.declared.run.Caller.{Caller}

pub pushed : (cs : List Caller) (c : Caller) →
    map caller_of (reverse (cs ++ c ∷ [])) ≡ caller_of c ∷ map caller_of (reverse cs)
pushed cs c = ap (map caller_of) (reverse-append cs (c ∷ []))

pub popped : (old new : List Caller) (c : Caller) → old ≡ new ++ c ∷ [] →
    map caller_of (reverse old) ≡ caller_of c ∷ map caller_of (reverse new)
popped old new c e = ap (λ cs. map caller_of (reverse cs)) e ∙ pushed new c

pub none_waits : (old : List Caller) → old ≡ [] → map caller_of (reverse old) ≡ []
none_waits old e = ap (λ cs. map caller_of (reverse cs)) e

pub waits : (cs new : List Caller) (k : Caller) (c : Waiting) → new ≡ cs ++ k ∷ [] → caller_of k ≡ c →
    map caller_of (reverse new) ≡ c ∷ map caller_of (reverse cs)
waits cs new k c e is = popped new cs k e ∙ ap (λ x. x ∷ map caller_of (reverse cs)) is

-- moments with equal parts
pub same_moment : (fun at frame left first first' : ℕ) (turned turned' : Bool) (cs cs' : List Waiting)
    (vars vars' : List (Option Value)) (mem mem' : Store) → turned ≡ turned' → cs ≡ cs' → vars ≡ vars' →
    first ≡ first' → mem ≡ mem' →
    (let m : Moment Store = record {
      fun = fun;
      at = at;
      turned = turned;
      callers = cs;
      now = record { vars = vars; first = first; mem = mem; frame = frame; left = left };
    } in m)
    ≡ record {
      fun = fun;
      at = at;
      turned = turned';
      callers = cs';
      now = record { vars = vars'; first = first'; mem = mem'; frame = frame; left = left };
    }
same_moment fun at frame left first first' turned turned' cs cs' vars vars' mem mem' a b c d e =
    let go : Bool → List Waiting → List (Option Value) → ℕ → Store → Moment Store = λ t k v f x. record {
      fun = fun;
      at = at;
      turned = t;
      callers = k;
      now = record { vars = v; first = f; mem = x; frame = frame; left = left };
    } in
    ap (λ t. go t cs vars first mem) a ∙ (ap (λ k. go turned' k vars first mem) b
    ∙ (ap (λ v. go turned' cs' v first mem) c ∙ (ap (λ f. go turned' cs' vars' f mem) d
    ∙ ap (λ x. go turned' cs' vars' first' x) e)))

-- ---- objects

objects_from : (p : Typed) (fs : List FunDef) (j f : ℕ) →
    objects_of (slice_get (function_trees p j fs) f) ≡ lengths_of p (vars_of (slice_get fs f))
objects_from p [] j f = refl
objects_from p (d ∷ fs) j zero = refl
objects_from p (d ∷ fs) j (suc f) = objects_from p fs (suc j) f

pub objects_at : (p : Typed) (f : ℕ) → objects_by p f ≡ lengths_of p (vars_of (slice_get p.funs f))
unfolding program_tree
objects_at p f = objects_from p p.funs 0 f
