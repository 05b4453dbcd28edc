-- What functions cost, one after another.
use Rattle.std.proofs.Common.{◌≡◌, ℕ, zero, suc, ◌+◌, ◌<◌, ◌≤◌, List, [], ◌∷◌, ◌++◌, length, take, get_or, Some, refl}
use Rattle.std.proofs.Common.{sym, ap, subst, arith, length-append}
use Rattle.std.specs.List.{sum_by}
use Rattle.std.proofs.lemmas.List.Sums.{sum_by_push, sum_by_more}
use Rattle.std.specs.Prelude.{slice_get, ◌^◌}
use Rattle.c_tree.specs.TreeWeight.{function_weight}
use Rattle.c_tree.specs.declared.typed.FunDef.{FunDef}
use Rattle.c_tree.specs.declared.typed.Typed.{Typed}
use Rattle.obj_mem.specs.Needs.{weight_by, weight_in}
use Rattle.tac_ir.specs.Within.{FunctionCosts, function_copies}
use Rattle.tac_lower.specs.Copied.{part_copies}
use Rattle.tac_lower.specs.Zeroed.{ZeroesOnce}
use Rattle.tac_ir.specs.declared.code.TacFun.{TacFun}

-- the first functions, so many
pub record CostsTo (p : Typed) (fs : List TacFun) (i : ℕ) : Type 0 where
  pub count : length fs ≡ i
  pub each : (k : ℕ) (f : TacFun) → slice_get fs k ≡ Some f → FunctionCosts (weight_in p k) f

pub costs_none : (p : Typed) → CostsTo p [] 0
costs_none p = record { count = refl; each = λ k f e. absurd cc }

pushed : (xs : List TacFun) (y : TacFun) (P : ℕ → TacFun → Type 0) →
    ((k : ℕ) (f : TacFun) → slice_get xs k ≡ Some f → P k f)
    → P (length xs) y → (k : ℕ) (f : TacFun) → slice_get (xs ++ y ∷ []) k ≡ Some f → P k f
pushed [] y P h q zero f e = let z : y ≡ f = cc in subst (λ v. P zero v) z q
pushed [] y P h q (suc k) f e = absurd cc
pushed (x ∷ xs) y P h q zero f e = h zero f e
pushed (x ∷ xs) y P h q (suc k) f e = pushed xs y (λ n. P (suc n)) (λ n. h (suc n)) q k f e

pub costs_more : (p : Typed) (d : FunDef) (fs : List TacFun) (f : TacFun) (i : ℕ) → CostsTo p fs i →
    slice_get p.funs i ≡ Some d
    → FunctionCosts (function_weight p d) f → CostsTo p (fs ++ f ∷ []) (i + 1)
costs_more p d fs f i h there q = record {
  count = omega (arith, h.count, length-append fs (f ∷ []));
  each = pushed fs f (λ k g. FunctionCosts (weight_in p k) g) h.each
      (subst (λ z. FunctionCosts (weight_by p (slice_get p.funs z)) f) (sym h.count)
      (subst (λ z. FunctionCosts (weight_by p z) f) (sym there) q));
}

-- ---- what the first functions copy

abbrev pub copied_by : Typed → List FunDef → ℕ
copied_by p ds = sum_by (λ (d : FunDef). part_copies p d.body) ds

pub copies_more : (p : Typed) (xs : List FunDef) (i : ℕ) (d : FunDef) (fs : List TacFun) (f : TacFun) → i < length xs →
    d ≡ get_or xs i d → sum_by function_copies fs ≤ copied_by p (take i xs) →
    function_copies f ≤ part_copies p d.body →
    sum_by function_copies (fs ++ f ∷ []) ≤ copied_by p (take (i + 1) xs)
copies_more p xs i d fs f lt there h q =
    omega (
      arith,
      h,
      q,
      sum_by_push function_copies fs f,
      sum_by_more (λ (e : FunDef). part_copies p e.body) xs i d lt,
      ap (λ (e : FunDef). part_copies p e.body) there,
    )

-- ---- no object becomes zero twice

abbrev pub AllZeroOnce : List TacFun → Type 0
AllZeroOnce fs = (k : ℕ) (f : TacFun) → slice_get fs k ≡ Some f → ZeroesOnce f

-- nor is any code too long

abbrev pub AllShort : List TacFun → Type 0
AllShort fs = (k : ℕ) (f : TacFun) → slice_get fs k ≡ Some f → length f.code < 2 ^ 32

pub short_none : AllShort []
short_none k f e = absurd cc

pub short_more : (fs : List TacFun) (f : TacFun) → AllShort fs → length f.code < 2 ^ 32 → AllShort (fs ++ f ∷ [])
short_more fs f h q = pushed fs f (λ k g. length g.code < 2 ^ 32) h q

pub zeros_none : AllZeroOnce []
zeros_none k f e = absurd cc

pub zeros_more : (fs : List TacFun) (f : TacFun) → AllZeroOnce fs → ZeroesOnce f → AllZeroOnce (fs ++ f ∷ [])
zeros_more fs f h q = pushed fs f (λ k g. ZeroesOnce g) h q
