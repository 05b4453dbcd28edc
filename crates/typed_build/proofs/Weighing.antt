-- What the costs of a program's code come to, by the weights of its functions.
use Rattle.std.proofs.Common.{◌≡◌, ℕ, suc, ◌*◌, ◌≤◌, true, List, [], ◌∷◌, length, Some, refl, ap, arith}
use Rattle.std.specs.Prelude.{slice_get, ◌&&◌, Bool, false}
use Rattle.std.specs.List.{sum_by}
use Rattle.std.proofs.lemmas.List.Sums.{sum_by-cons}
use Rattle.accepted_files.specs.Accepted.{weight_limit}
use Rattle.c_tree.specs.TreeWeight.{function_limit, function_weight, HasLightFunctions}
use Rattle.c_tree.specs.Views.{IsOrdered}
use Rattle.c_tree.specs.Weight.{weight}
use Rattle.c_tree.specs.declared.typed.FunDef.{FunDef}
use Rattle.c_tree.specs.declared.typed.Typed.{Typed}
use Rattle.c_tree.proofs.Weighed.{weight_of_functions}
use Rattle.obj_mem.specs.Needs.{weight_by, weight_in}
use Rattle.tac_ir.specs.Costs.{function_cost}
use Rattle.tac_ir.specs.WellFormed.{is_well_formed, functions_fit}
use Rattle.tac_ir.specs.Within.{FunctionCosts, WithinCosts}
use Rattle.tac_ir.specs.declared.code.Tac.{Tac}
use Rattle.tac_ir.specs.declared.code.TacFun.{TacFun}

-- ---- sums

sum_below : {A B : Type 0} (f : A → ℕ) (g : B → ℕ) (xs : List A) (ys : List B) → length xs ≡ length ys
    → ((k : ℕ) (a : A) (b : B) → slice_get xs k ≡ Some a → slice_get ys k ≡ Some b → f a ≤ 32 * g b)
    → sum_by f xs ≤ 32 * sum_by g ys
sum_below f g [] [] n h = omega arith
sum_below f g [] (y ∷ ys) n h = absurd (omega (arith, n))
sum_below f g (x ∷ xs) [] n h = absurd (omega (arith, n))
sum_below f g (x ∷ xs) (y ∷ ys) n h =
    omega (
      arith,
      sum_by-cons f x xs,
      sum_by-cons g y ys,
      h 0 x y refl refl,
      sum_below f g xs ys (omega (arith, n)) (λ k. h (suc k)),
    )

sum_least : {A : Type 0} (f : A → ℕ) (xs : List A) → ((x : A) → 8 ≤ f x) → 8 * length xs ≤ sum_by f xs
sum_least f [] h = omega arith
sum_least f (x ∷ xs) h = omega (arith, sum_by-cons f x xs, h x, sum_least f xs h)

-- ---- functions

both : (a b : Bool) → (a && b) ≡ true → (a ≡ true) × (b ≡ true)
both true b h = (refl, h)
both false b h = absurd cc

as_many : (p : Typed) (ds : List FunDef) (fs : List TacFun) → functions_fit p ds fs ≡ true → length fs ≡ length ds
as_many p [] [] h = refl
as_many p [] (g ∷ gs) h = absurd cc
as_many p (d ∷ ds) [] h = absurd cc
as_many p (d ∷ ds) (g ∷ gs) h = ap suc (as_many p ds gs (both _ _ h).1)

-- well-formed code has as many functions as its program
pub same_count : (t : Tac) (p : Typed) → is_well_formed t p ≡ true → length t.funs ≡ length p.funs
unfolding is_well_formed
same_count t p h = as_many p p.funs t.funs h

-- a function weighs 8 at least
pub few_functions : (p : Typed) → IsOrdered p → weight p ≤ weight_limit → 8 * length p.funs ≤ weight_limit
few_functions p o all =
    omega (arith, sum_least (function_weight p) p.funs (λ d. omega arith), weight_of_functions p o, all)

module _ (p : Typed) (o : IsOrdered p) (light : HasLightFunctions p) where
  module _ (t : Tac) (within : WithinCosts t p) (formed : is_well_formed t p ≡ true) where
    pub one_within : (k : ℕ) (f : TacFun) (d : FunDef) → slice_get t.funs k ≡ Some f → slice_get p.funs k ≡ Some d
        → FunctionCosts (function_weight p d) f × (function_weight p d ≤ function_limit)
    one_within k f d e g =
        let own : weight_in p k ≡ function_weight p d = ap (weight_by p) g in
        let c = within.functions k f e in
        (record { cost = omega (arith, c.cost, own); temps = omega (arith, c.temps, own) }, light.each k d g)

    pub total : sum_by function_cost t.funs ≤ 32 * weight p
    total =
        omega (
          arith,
          weight_of_functions p o,
          sum_below function_cost (function_weight p) t.funs p.funs (same_count t p formed)
              (λ k f d e g. (one_within k f d e g).0.cost),
        )
