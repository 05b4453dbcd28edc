-- Programs that stand for one program have the same room.
use Rattle.std.proofs.Common.{◌≡◌, ℕ, zero, suc, ◌+◌, ◌<◌, Bool, cond, List, [], ◌∷◌, length, Some, refl, sym, ap}
use Rattle.std.proofs.Common.{subst, ◌∙◌, arith}
use Rattle.std.specs.Prelude.{slice_get, sum_by, map, option_map, if◌then◌else◌}
use Rattle.std.proofs.lemmas.List.Sums.{sum_by-cons}
use Rattle.c_tree.specs.declared.typed.FunDef.{FunDef}
use Rattle.c_tree.specs.declared.typed.Typed.{Typed}
use Rattle.c_tree.specs.Layout.{extent}
use Rattle.c_tree.specs.Types.{Ty}
use Rattle.c_tree.specs.Terms.{Tag, Object, Text, Variable, Routine, Program}
use Rattle.c_tree.specs.TreeLayout.{tree_extent}
use Rattle.c_tree.specs.Views.{types_of, type_at, object_of, text_of, variable_of, routine_of, actions_of, Shows}
use Rattle.c_tree.specs.Views.{IsOrdered}
use Rattle.c_tree.specs.File.{object_room, global_room, literal_room, static_room, var_room, local_room, HasRoom}
use Rattle.c_tree.proofs.ViewLayout.{extent_is}

-- the room of a type, of an object, a literal and a variable, by its type
abbrev type_room : List Tag → ℕ → Ty → ℕ
type_room tags d t = object_room (tree_extent d tags t)

abbrev tree_global : List Tag → ℕ → Object → ℕ
tree_global tags d g = type_room tags d g.of

abbrev tree_text : Text → ℕ
tree_text t = object_room (Some (record { size = length t.bytes; align = 1 }))

abbrev tree_var : List Tag → ℕ → Variable → ℕ
tree_var tags d v = (if v.simple then 0 else type_room tags d v.of)

sum_map_same : {X Y : Type 0} (g : X → ℕ) (f : Y → ℕ) (h : X → Y) (es : List X) →
    ((k : ℕ) (e : X) → slice_get es k ≡ Some e → g e ≡ f (h e)) → sum_by g es ≡ sum_by f (map h es)
sum_map_same g f h [] p = refl
sum_map_same g f h (e ∷ es) p =
    omega (
      arith,
      sum_by-cons g e es,
      sum_by-cons f (h e) (map h es),
      p 0 e refl,
      sum_map_same g f h es (λ k x q. p (suc k) x q),
    )

var_same : (b : Bool) (m n : ℕ) → m ≡ n → cond b 0 m ≡ cond b 0 n
var_same b m n e = ap (cond b 0) e

module _ (p : Typed) (q : Program) (o : IsOrdered p) (s : Shows p q) (d : ℕ) where
  room_is : (t : ℕ) → t < length p.types →
      object_room (extent p.types t) ≡ type_room q.tags (length p.types + d) (type_at (types_of p.types) t)
  room_is t lt = ap object_room (extent_is p q o s d t lt)

  pub static_is : static_room p ≡ sum_by (tree_global q.tags (length p.types + d)) q.objects + sum_by tree_text q.texts
  static_is =
      let a = sum_map_same (global_room p.types) (tree_global q.tags (length p.types + d))
      (object_of (types_of p.types)) p.globals (λ k g e. room_is g.of (o.globals k g e)) in
      let b = sum_map_same literal_room tree_text text_of p.literals (λ k l e. refl) in
      let c = ap (sum_by (tree_global q.tags (length p.types + d))) s.objects in
      let e = ap (sum_by tree_text) s.texts in
      omega (arith, a, b, c, e)

  pub local_is : (k : ℕ) (f : FunDef) → slice_get p.funs k ≡ Some f →
      local_room p.types f ≡ sum_by (tree_var q.tags (length p.types + d)) (map (variable_of (types_of p.types)) f.vars)
  local_is k f g =
      sum_map_same (var_room p.types) (tree_var q.tags (length p.types + d)) (variable_of (types_of p.types)) f.vars
      (λ j v e. var_same v.simple (object_room (extent p.types v.of))
      (type_room q.tags (length p.types + d) (type_at (types_of p.types) v.of))
      (room_is v.of (o.vars k j f v g e)))

  -- the function behind a routine
  pub routine_from : (fs : List FunDef) (k : ℕ) (f : FunDef) → slice_get fs k ≡ Some f →
      slice_get (map (routine_of (types_of p.types) (actions_of p)) fs) k
      ≡ Some (routine_of (types_of p.types) (actions_of p) f)
  routine_from [] k f e = absurd cc
  routine_from (g ∷ fs) zero f e = ap (option_map (routine_of (types_of p.types) (actions_of p))) e
  routine_from (g ∷ fs) (suc k) f e = routine_from fs k f e

  pub function_from : (fs : List FunDef) (k : ℕ) (r : Routine) →
      slice_get (map (routine_of (types_of p.types) (actions_of p)) fs) k ≡ Some r →
      (f : FunDef) × (slice_get fs k ≡ Some f) × (routine_of (types_of p.types) (actions_of p) f ≡ r)
  function_from [] k r e = absurd cc
  function_from (g ∷ fs) zero r e = (g, refl, cc)
  function_from (g ∷ fs) (suc k) r e = function_from fs k r e

vars_of : Routine → List Variable
vars_of r = r.vars

-- a program with room has it under all numbers of its types
pub same_room : (p p' : Typed) (q : Program) → IsOrdered p → IsOrdered p' → Shows p q → Shows p' q → HasRoom p →
    HasRoom p'
unfolding vars_of
same_room p p' q o o' s s' h =
    let n = length p.types in
    let n' = length p'.types in
    let z : n' + n ≡ n + n' = omega arith in
    let a = static_is p q o s n' in
    let b = static_is p' q o' s' n in
    let c = ap (λ d. sum_by (tree_global q.tags d) q.objects + sum_by tree_text q.texts) z in
    record {
      statics = omega (arith, h.statics, a, b, c);
      locals = λ f' k e.
          let r' = routine_from p' q o' s' n p'.funs k f' e in
          let r = subst (λ rs. slice_get rs k ≡ Some (routine_of (types_of p'.types) (actions_of p') f'))
          (s'.routines ∙ sym s.routines) r' in
          let f = function_from p q o s n' p.funs k (routine_of (types_of p'.types) (actions_of p') f') r in
          let l = local_is p q o s n' k f.0 f.1 in
          let l' = local_is p' q o' s' n k f' e in
          let v = ap (λ x. sum_by (tree_var q.tags (n + n')) (vars_of x)) f.2 in
          let w = ap (λ d. sum_by (tree_var q.tags d) (map (variable_of (types_of p'.types)) f'.vars)) z in
          omega (arith, h.locals f.0 k f.1, l, l', v, w);
    }
