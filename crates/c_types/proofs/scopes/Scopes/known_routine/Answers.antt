use Rattle.std.proofs.Common.{◌≡◌, Some, sym, ap, ◌∙◌, refl}
use Rattle.std.specs.Prelude.{slice_get}
use Rattle.c_tree.specs.declared.typed.FunDef.{FunDef}
use Rattle.c_tree.specs.declared.typed.Typed.{Typed}
use Rattle.c_interner.specs.Numbers.{type_named}
use Rattle.c_types.proofs.Extending.{extends_after, extends_types, fun_changed}
use Rattle.c_types.proofs.Judged.{named_there}
use Rattle.c_types.proofs.Routines.{again_given, routine_changed, routine_type}
use Rattle.c_types.proofs.scopes.Scopes.known_routine.Goals as goal

pub returns-clause-ok : goal.returns-clause-ok
returns-clause-ok c s h lt =
    let p = c.args.p.now in
    let k = c.args.k in
    let t = type_named p c.args.d.of in
    let same = ap (λ (x : Typed). x.funs) c.in_ok-of.ensures.adds.rest in
    again_given _ _ s k t
    (routine_changed _ c.merged_routine.new.p _ s k c.in_ok-of.of t (c.in_ok-of.ensures.keeps s h) c.set_type.ensures
    (λ x y a b.
    let there : slice_get p.funs k ≡ Some x = ap (λ fs. slice_get fs k) (sym same) ∙ a in
    c.in_ok-of.ensures.ok x y.of t there (routine_type c.args.self.now p s k x y h there b)
    (named_there p c.args.d.of lt)))

pub returns-clause-extends : goal.returns-clause-extends
returns-clause-extends c =
    extends_after c.args.p.now c.merged_routine.new.p _
    (extends_types c.args.p.now c.merged_routine.new.p c.in_ok-of.ensures.adds)
    (fun_changed c.merged_routine.new.p _ (λ (f : FunDef). record f { of = c.in_ok-of.of }) c.args.k c.set_type.ensures
    (λ x. refl))

pub returns-in_err-of-clause-extends : goal.returns-in_err-of-clause-extends
returns-in_err-of-clause-extends c =
    extends_types c.args.p.now c.merged_routine.new.p c.in_err-of.ensures.adds
