-- In a well-typed program the operands that are to be pointers are, and so is what is called.
use Rattle.std.proofs.Common.{◌≡◌, Some, sym, ap, subst, ◌∙◌, inl, inr, ⊎_elim}
use Rattle.std.specs.Prelude.{slice_get}
use Rattle.c_tree.specs.declared.typed.Typed.{Typed}
use Rattle.c_tree.specs.Types.{Ty, Pointer}
use Rattle.c_tree.specs.Terms as tree
use Rattle.c_tree.specs.Terms.{Shape, Term, term, Terms, no_terms, with_term, type_of, Action, action, Actions}
use Rattle.c_tree.specs.Terms.{no_actions, with_action, Program}
use Rattle.c_tree.specs.Views.{Shows}
use Rattle.c_tree.specs.WellTyped.{Frame, Inside, inside_of, ShapeFits, TermFits, TermsFit}
use Rattle.c_tree.specs.WellTyped.{ActionFits}
use Rattle.c_tree.specs.WellTyped.{ActionsFit, WellTyped}
use Rattle.c_tree.proofs.ViewRoom.{function_from}
use Rattle.same_programs.specs.Points.{PointsTo, ShapePoints, TermPoints, TermsPoint, ActionPoints, ActionsPoint}
use Rattle.same_programs.specs.Points.{RoutinePoints, ProgramPoints}
use Rattle.same_programs.specs.Types.{peeled}

points : (s u : Ty) → s ≡ Pointer u → PointsTo s
unfolding peeled
points s u e = (u, ap peeled e)

shape_points : (f : Frame) (n : Shape) (xs : Terms) (t : Ty) → ShapeFits f n xs t → ShapePoints n xs
shape_points f (tree.Plus minus) (with_term a (with_term b no_terms)) t z =
    let v = z.0.0 in
    ⊎_elim (λ l. inl (points (type_of a) v (l.0 ∙ z.0.1))) (λ r. inr (points (type_of b) v (r.2 ∙ z.0.1))) z.1
shape_points f tree.Difference (with_term a (with_term b no_terms)) t z = points (type_of a) z.0.0 z.0.1
shape_points f tree.Call (with_term g xs) t z = points (type_of g) _ z.2
shape_points f n xs t z = tt

mutual
  unfolding TermFits TermsFit

  term_points : (f : Frame) (x : Term) → TermFits f x → TermPoints x
  term_points f (term n xs t p) z = (terms_point f xs z.0, shape_points f n xs t z.1)

  terms_point : (f : Frame) (xs : Terms) → TermsFit f xs → TermsPoint xs
  terms_point f no_terms z = tt
  terms_point f (with_term x xs) z = (term_points f x z.0, terms_point f xs z.1)

mutual
  unfolding ActionFits ActionsFit

  action_points : (f : Frame) (i : Inside) (x : Action) → ActionFits f i x → ActionPoints x
  action_points f i (action x xs ys p) z = (terms_point f xs z.0, actions_point f (inside_of x i) ys z.2)

  actions_point : (f : Frame) (i : Inside) (xs : Actions) → ActionsFit f i xs → ActionsPoint xs
  actions_point f i no_actions z = tt
  actions_point f i (with_action x xs) z = (action_points f i x z.0, actions_point f i xs z.1)

pub program_points : (p : Typed) (q : Program) → WellTyped p → Shows p q → ProgramPoints q
unfolding peeled
program_points p q w s k r e =
    let g = function_from p q w.ordered s 0 p.funs k r
    (subst (λ rs. slice_get rs k ≡ Some r) (sym s.routines) e) in
    let f = w.funs k g.0 g.1 in
    subst RoutinePoints g.2 (record {
      result = f.result;
      takes = f.takes;
      of = ap peeled f.type_is;
      body = action_points _ _ _ f.body;
    })
