-- Programs that stand for one program are light together.
use Rattle.std.proofs.Common.{◌≡◌, ℕ, ◌≤◌, List, Some, sym, ap, subst, ◌∙◌, arith}
use Rattle.std.specs.Prelude.{slice_get}
use Rattle.std.proofs.lemmas.List.{length-map}
use Rattle.c_tree.specs.declared.typed.FunDef.{FunDef}
use Rattle.c_tree.specs.declared.typed.Typed.{Typed}
use Rattle.c_tree.specs.Terms.{Routine, Program}
use Rattle.c_tree.specs.TreeWeight.{function_weight, function_limit, routine_weight}
use Rattle.c_tree.specs.Views.{types_of, actions_of, variable_of, routine_of, Shows, IsOrdered}
use Rattle.c_tree.proofs.Weighed.{weight_of_program}
use Rattle.c_tree.proofs.ViewRoom.{routine_from, function_from}
use Rattle.accepted_files.specs.Accepted.{IsLight}

abbrev routine : Typed → FunDef → Routine
routine p = routine_of (types_of p.types) (actions_of p)

weighs : (p : Typed) (f : FunDef) → routine_weight (routine p f) ≡ function_weight p f
weighs p f = omega (arith, length-map f.vars (variable_of (types_of p.types)))

pub same_light : (p q : Typed) (r : Program) → IsOrdered p → IsOrdered q → Shows p r → Shows q r → IsLight p → IsLight q
same_light p q r o u s t h = record {
  each = record { each = each };
  all = omega (arith, h.all, weight_of_program p r o s, weight_of_program q r u t);
}
  where
    each : (k : ℕ) (f : FunDef) → slice_get q.funs k ≡ Some f → function_weight q f ≤ function_limit
    each k f e =
        let there = subst (λ (rs : List Routine). slice_get rs k ≡ Some (routine q f)) (t.routines ∙ sym s.routines)
        (routine_from q r u t 0 q.funs k f e) in
        let g = function_from p r o s 0 p.funs k (routine q f) there in
        omega (arith, h.each.each k g.0 g.1, weighs p g.0, weighs q f, ap routine_weight g.2)
