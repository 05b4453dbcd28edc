-- The finished program is that of the state.
use Rattle.std.proofs.Common.{◌≡◌, ℕ, Bool, List, length, map, Option, Some, None, Ok, Err, sym, ap}
use Rattle.std.proofs.Common.{subst, ◌∙◌, arith}
use Rattle.std.specs.Prelude.{Result, flat_map, if◌then◌else◌}
use Rattle.ck_base.specs.declared.refusal.Refusal.{Refusal}
use Rattle.std.proofs.lemmas.List.{take_all}
use Rattle.c_tree.specs.declared.syntax.Tree.{Tree}
use Rattle.c_tree.specs.declared.typed.Typed.{Typed}
use Rattle.c_tree.specs.Syntax.{Syn, StandsAt}
use Rattle.c_tree.specs.Scopes.{Fault, State}
use Rattle.c_tree.specs.Passed.{Names, passed_program, call_name, calls_in}
use Rattle.c_tree.specs.Views.{types_of, routine_of}
use Rattle.c_tree.specs.Views as views
use Rattle.c_tree.specs.Terms.{Action}
use Rattle.c_tree.specs.Programs.{fault, file_begins, numbers_of, program_of, ended}
use Rattle.c_tree.specs.Programs as programs
use Rattle.c_elaborator.specs.declared.work.Work.{Work}
use Rattle.c_elaborator.specs.Work.{Shows}
use Rattle.c_copy.specs.Copying.{AreNumbers}
use Rattle.c_copy.proofs.Renumbering.{actions_renumbered}
use Rattle.c_passing.specs.Routines.{IsPassedProgram}
use Rattle.c_finish.specs.declared.file_end.Parts.{Parts}
use Rattle.c_plain_rules.specs.MainFunction.{IsMain}
use Rattle.c_finish.specs.Finished.{IsFinished, Finished, IsShown, IsWritten, IsSyntax, IsProgram, HaveNumbers}
use Rattle.c_finish.specs.Finished.{AreObjects, AreRoutines, program_with, IsAssembled, AreParts, EndsIn}
use Rattle.c_finish.proofs.Bodies.{BodiesIn}
use Rattle.c_finish.proofs.Records.{tag_agrees}

-- the program of the parts is that of the state
pub parts_shown : (w : Work) (x : Parts) (k : ℕ) (s : State) → HaveNumbers w x.numbers →
    ((n : programs.Numbers) → AreNumbers x.numbers n → n.1 k ≡ x.main) → IsMain w (Some k) →
    AreObjects w x.globals.items → AreRoutines w s (length s.routines) x.funs.items → Shows w s →
    views.Shows (program_with w x (numbers_of s)) (program_of s)
unfolding program_of
parts_shown w x k s n e m o r h =
    let ts = types_of w.nodes.p.types in
    record {
      tags = λ j c g. tag_agrees w s j c h g;
      objects = o s h;
      texts = h.texts;
      routines = ap (λ (xs : List Action). map (routine_of ts xs) x.funs.items)
          (actions_renumbered (numbers_of s) ts w.nodes.p.exprs w.nodes.p.stmts)
          ∙ r ∙ ap (flat_map (programs.routine_of s)) (take_all (length s.routines) s.routines (omega arith));
      main = sym (e (numbers_of s) (n s h)) ∙ ap (numbers_of s).1 (sym (m s h).1);
    }

pub written_is : (w : Work) (x : Parts) (p : Typed) → AreParts w x → IsAssembled w x p → IsWritten w p
written_is w x p a e = λ s h.
    subst (λ (q : Typed). views.Shows q (program_of s)) (sym (e (numbers_of s) (a.numbers s h))) (a.written s h)

pub bodies_are : (w : Work) (x : Parts) (p : Typed) → IsShown w → AreParts w x → IsAssembled w x p → BodiesIn p
bodies_are w x p h a e = subst BodiesIn (sym (e (numbers_of h.state) (a.numbers h.state h.shows))) a.bodies

pub program_is : (w : Work) (tree : Tree) (p q : Typed) → tree ≡ w.tree.now → IsWritten w p → IsPassedProgram tree p q →
    IsProgram w q
program_is w tree p q t a b = record {
  shows = λ s x h y. b.shows x (program_of s) (subst (λ (u : Tree). StandsAt u.nodes u.root x) (sym t) y) (a s h);
  ordered = b.ordered;
}

pub no_main : (w : Work) (s : State) (names : Names) → IsMain w None → Shows w s →
    ended names None s ≡ Err (fault 135 file_begins)
no_main w s names m h = ap (λ (b : Bool). if b then Ok (passed_program names (program_of s))
    else Err (fault 135 file_begins)) (m s h)

with_main : (w : Work) (s : State) (x : Syn) (k : ℕ) (p : Typed) → IsMain w (Some k) → Shows w s → IsSyntax w x →
    IsProgram w p → IsFinished (ended (call_name (calls_in x)) None s) p
with_main w s x k p m h y q = record {
  program = passed_program (call_name (calls_in x)) (program_of s);
  is = ap (λ (b : Bool). if b then Ok (passed_program (call_name (calls_in x)) (program_of s))
      else Err (fault 135 file_begins)) (m s h).0;
  shows = q.shows s x h y;
  ordered = q.ordered;
}

-- where no fault is found
pub ends_without_fault : (w : Work) (f : State → Option Fault) (r : Result Parts Refusal) →
    ((s : State) → Shows w s → f s ≡ None) → EndsIn w (λ s. None) r → EndsIn w f r
ends_without_fault w f (Ok p) n h = (n, h.1)
ends_without_fault w f (Err e) n h = λ s x g y.
    subst (λ o. Finished (ended (call_name (calls_in x)) o s) (Err e)) (sym (n s g)) (h s x g y)

pub at_end : (w : Work) (f : State → Option Fault) (parts : Parts) (p : Typed) → EndsIn w f (Ok parts) →
    IsProgram w p → (s : State) (x : Syn) → Shows w s → IsSyntax w x →
    Finished (ended (call_name (calls_in x)) (f s) s) (Ok p)
at_end w f parts p e q = λ s x h y.
    subst (λ o. IsFinished (ended (call_name (calls_in x)) o s) p) (sym (e.0 s h))
    (with_main w s x e.1.main p e.1.is h y q)
