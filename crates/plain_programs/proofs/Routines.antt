-- Functions that take and give no struct or union stand for themselves.
use Rattle.std.proofs.Common.{◌≡◌, ℕ, suc, ◌+◌, ◌<◌, Bool, true, false, List, [], ◌∷◌, ◌++◌, length, take, drop, map}
use Rattle.std.proofs.Common.{Option, Some, None, refl, sym, ap, subst, ◌∙◌, ⊎_elim, arith}
use Rattle.std.specs.Prelude.{slice_get, flat_map, nat_lt, if◌then◌else◌}
use Rattle.std.proofs.lemmas.Bool.{cases_Bool, ltb-true}
use Rattle.std.proofs.lemmas.List.{append-nil, take-append-drop}
use Rattle.c_tree.specs.declared.typed.FunDef.{FunDef}
use Rattle.c_tree.specs.declared.typed.Typed.{Typed}
use Rattle.c_tree.specs.Types.{Ty, Pointer, bare}
use Rattle.c_tree.specs.Terms as tree
use Rattle.c_tree.specs.Terms.{numbers_from, Variable, Action, action, Actions, with_action, Routine}
use Rattle.c_tree.specs.Views.{types_of, actions_of, variable_of, routine_of, IsOrdered}
use Rattle.c_tree.specs.Passed.{Names, by_pointer, passed, hidden_of, passed_action, passed_variable, result_variable}
use Rattle.c_tree.specs.Passed.{result_pointer, written_params, passed_param, copied_param, copied_params}
use Rattle.c_tree.specs.Passed.{named_variables, param_number, passing, param_copy, param_copies}
use Rattle.c_tree.specs.Passed.{opened, passed_body, passed_routine}
use Rattle.plain_programs.specs.Plain.{IsPlain}
use Rattle.plain_programs.proofs.Lists.{map_same, from_map, from_take, each_dropped, numbers_in_order}
use Rattle.plain_programs.proofs.TypeLaws.{TypeStays, types_stay}
use Rattle.plain_programs.proofs.Expressions.{SameNumbers}
use Rattle.plain_programs.proofs.Statements.{ActionStays, statements_stay}

pub record RoutinePlain (r : Routine) : Type 0 where
  pub of : TypeStays r.of
  pub params : r.params ≡ numbers_from 0 (length r.params)
  pub vars : (j : ℕ) (v : Variable) → slice_get r.vars j ≡ Some v → passed v.of ≡ v.of
  pub plain : (j : ℕ) (v : Variable) → slice_get r.vars j ≡ Some v → j < length r.params → by_pointer v.of ≡ false
  pub body : ActionStays r.body

-- ---- variables

abbrev NoneGoes : List Variable → Type 0
NoneGoes vs = (j : ℕ) (v : Variable) → slice_get vs j ≡ Some v → by_pointer v.of ≡ false

abbrev Same : Variable → Type 0
Same v = passed v.of ≡ v.of

variable_same : (v : Variable) → Same v → passed_variable v ≡ v
variable_same v e = ap (λ (t : Ty). record v { of = t }) e

param_same : (v : Variable) → by_pointer v.of ≡ false → Same v → passed_param v ≡ v
param_same v n e =
    ap (λ (b : Bool). if b then record v { of = Pointer (bare v.of); simple = true } else passed_variable v) n
    ∙ variable_same v e

none_copied : (vs : List Variable) → NoneGoes vs → flat_map copied_param vs ≡ []
none_copied [] n = refl
none_copied (v ∷ vs) n =
    ap (λ (b : Bool). (if b then v ∷ [] else []) ++ flat_map copied_param vs) (n 0 v refl)
    ∙ none_copied vs (λ j w e. n (suc j) w e)

no_copies : (k j : ℕ) (vs : List Variable) (ys : Actions) → NoneGoes vs → param_copies k j vs ys ≡ ys
no_copies k j [] ys n = refl
no_copies k j (v ∷ vs) ys n =
    ap (λ (b : Bool). if b then with_action (param_copy k j v) (param_copies (k + 1) (j + 1) vs ys)
    else param_copies (k + 1) j vs ys) (n 0 v refl)
    ∙ no_copies (k + 1) j vs ys (λ i w e. n (suc i) w e)

params_go : (r : Routine) → RoutinePlain r → NoneGoes (written_params r)
params_go r h = λ j v e. let t = from_take (length r.params) r.vars j v e in h.plain j v t.1 t.0

no_result : (r : Routine) → RoutinePlain r → result_pointer r ≡ []
no_result r h = ap (map (result_variable r)) h.of.gives

named_same : (r : Routine) → RoutinePlain r → named_variables r ≡ r.vars
named_same r h =
    let ws = written_params r in
    let ds = drop (length r.params) r.vars in
    let kept : map passed_param ws ≡ ws =
    map_same passed_param ws
    (λ j v e. param_same v (params_go r h j v e) (h.vars j v (from_take (length r.params) r.vars j v e).1)) in
    let left : map passed_variable ds ≡ ds =
    map_same passed_variable ds (λ j v e. variable_same v (each_dropped Same (length r.params) r.vars h.vars j v e)) in
    ap (λ zs. ((zs ++ map passed_param ws) ++ copied_params r) ++ map passed_variable ds) (no_result r h)
    ∙ ap (λ zs. (zs ++ copied_params r) ++ map passed_variable ds) kept
    ∙ ap (λ zs. (ws ++ zs) ++ map passed_variable ds) (none_copied ws (params_go r h))
    ∙ ap (λ zs. zs ++ map passed_variable ds) (append-nil ws)
    ∙ ap (λ zs. ws ++ zs) left ∙ take-append-drop (length r.params) r.vars

-- ---- their numbers

param_kept : (r : Routine) → RoutinePlain r → (k : ℕ) → k < length r.params → (o : Option Variable) →
    slice_get r.vars k ≡ o → param_number r k o ≡ k
param_kept r h k lt None e = refl
param_kept r h k lt (Some v) e =
    let none : length (result_pointer r) ≡ 0 = ap length (no_result r h) in
    ap (λ (b : Bool). length (result_pointer r)
    + (if b then length r.params + length (flat_map copied_param (take k (written_params r))) else k))
    (h.plain k v e lt)
    ∙ omega arith

numbers_kept : (names : Names) (r : Routine) → RoutinePlain r → SameNumbers (passing names r)
numbers_kept names r h = λ k.
    let none : length (result_pointer r) ≡ 0 = ap length (no_result r h) in
    let copied : length (copied_params r) ≡ 0 = ap length (none_copied (written_params r) (params_go r h)) in
    let other = length (result_pointer r) + length (copied_params r) + k in
    let last : other ≡ k = omega arith in
    ⊎_elim
    (λ e. ap (λ (b : Bool). if b then param_number r k (slice_get r.vars k) else other) e
    ∙ param_kept r h k (ltb-true k (length r.params) e) (slice_get r.vars k) refl)
    (λ e. ap (λ (b : Bool). if b then param_number r k (slice_get r.vars k) else other) e ∙ last)
    (cases_Bool (nat_lt k (length r.params)))

-- ---- the body

opened_same : (copies : Actions → Actions) → ((ys : Actions) → copies ys ≡ ys) → (x : Action) →
    opened [] [] copies x ≡ x
opened_same copies h (action (tree.Block vars) xs ys p) =
    ap (λ vs. action (tree.Block vs) xs (copies ys) p) (append-nil vars)
    ∙ ap (λ zs. action (tree.Block vars) xs zs p) (h ys)
opened_same copies h (action f xs ys p) = refl

body_same : (names : Names) (r : Routine) → RoutinePlain r → passed_body names r ≡ r.body
body_same names r h =
    let result = length (result_pointer r) in
    let copied = result + length r.params in
    let hidden = length (named_variables r) in
    let ws = written_params r in
    let x = passed_action (passing names r) hidden r.body in
    ap (λ (vs : List Variable). opened (numbers_from copied (length vs))
    (numbers_from hidden (length (hidden_of names r.body))) (param_copies result copied ws) x)
    (none_copied ws (params_go r h))
    ∙ ap (λ (vs : List Variable). opened [] (numbers_from hidden (length vs)) (param_copies result copied ws) x)
    (h.body.hides names)
    ∙ ap (opened [] [] (param_copies result copied ws))
    (h.body.is (passing names r) hidden (numbers_kept names r h))
    ∙ opened_same (param_copies result copied ws) (λ ys. no_copies result copied ws ys (params_go r h)) r.body

-- ---- the function

abbrev made : Routine → Ty → List ℕ → List Variable → Action → Routine
made r t ps vs b = record { name = r.name; place = r.place; of = t; params = ps; vars = vs; body = b }

pub routine_same : (names : Names) (r : Routine) → RoutinePlain r → passed_routine names r ≡ r
routine_same names r h =
    let none : length (result_pointer r) ≡ 0 = ap length (no_result r h) in
    let count : length (result_pointer r) + length r.params ≡ length r.params = omega arith in
    let params = numbers_from 0 (length (result_pointer r) + length r.params) in
    let vars = named_variables r ++ hidden_of names r.body in
    let body = passed_body names r in
    ap (λ (t : Ty). made r t params vars body) h.of.same
    ∙ ap (λ (ks : List ℕ). made r r.of ks vars body) (ap (numbers_from 0) count ∙ sym h.params)
    ∙ ap (λ (vs : List Variable). made r r.of r.params vs body)
    (ap (λ vs. named_variables r ++ vs) (h.body.hides names) ∙ append-nil (named_variables r) ∙ named_same r h)
    ∙ ap (λ (b : Action). made r r.of r.params r.vars b) (body_same names r h)

pub routine_plain : (p : Typed) → IsOrdered p → IsPlain p → (k : ℕ) (f : FunDef) → slice_get p.funs k ≡ Some f →
    RoutinePlain (routine_of (types_of p.types) (actions_of p) f)
routine_plain p o h k f e =
    let ts = types_of p.types in
    let g = h.params k f e in
    record {
      of = types_stay p o h f.of;
      params = numbers_in_order 0 f.params (λ j i q. g.first j i q ∙ omega arith);
      vars = λ j v q.
          let w = from_map (variable_of ts) f.vars j v q in
          subst (λ (u : Variable). passed u.of ≡ u.of) w.2 (types_stay p o h w.0.of).same;
      plain = λ j v q lt.
          let w = from_map (variable_of ts) f.vars j v q in
          subst (λ (u : Variable). by_pointer u.of ≡ false) w.2 (g.plain j w.0 w.1 lt);
      body = statements_stay p o h f.body;
    }
