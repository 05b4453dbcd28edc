-- One level of the agreement of types.
use Rattle.std.proofs.Common.{◌≡◌, ℕ, zero, suc, ◌-◌, Bool, true, false, List, Option, Some, None, refl, sym, ap, ◌∙◌}
use Rattle.std.proofs.Common.{arith}
use Rattle.c_tree.specs.declared.typed.CType.{CType}
use Rattle.c_tree.specs.declared.typed.CType.TheVariants.{Void, Int, Cap, Pointer, Array, Struct, Union, Function}
use Rattle.c_tree.specs.declared.typed.CType.TheVariants.{Const, Incomplete}
use Rattle.cheri_c_sem.specs.Compatible.{agree_of, agree_within}
use Rattle.mean_types.specs.Parameters.{looked_up}

level : (n : ℕ) (types : List CType) (b : Bool) (t u : ℕ) → (n ≡ 0 → ⊥)
    → agree_within n types b t u ≡ agree_of (agree_within (n - 1) types false) (agree_within (n - 1) types true)
    (looked_up types b t) (looked_up types b u)
unfolding agree_within
level zero types b t u e = absurd (e refl)
level (suc n) types true t u e = let less : suc n - 1 ≡ n = omega arith in rw less refl
level (suc n) types false t u e = let less : suc n - 1 ≡ n = omega arith in rw less refl

no_second : (f g : ℕ → ℕ → Bool) (a : Option CType) → agree_of f g a None ≡ false
no_second f g None = refl
no_second f g (Some Void) = refl
no_second f g (Some (Int k n)) = refl
no_second f g (Some (Cap s)) = refl
no_second f g (Some (Pointer t)) = refl
no_second f g (Some (Array t n)) = refl
no_second f g (Some (Struct t ms)) = refl
no_second f g (Some (Union t ms)) = refl
no_second f g (Some (Function t ps)) = refl
no_second f g (Some (Const t)) = refl
no_second f g (Some (Incomplete t)) = refl

module _ (n : ℕ) (types : List CType) (b : Bool) (t u : ℕ) where
  abbrev below : Option CType → Option CType → Bool
  below x y = agree_of (agree_within (n - 1) types false) (agree_within (n - 1) types true) x y

  pub none_within : n ≡ 0 → false ≡ agree_within n types b t u
  unfolding agree_within
  none_within e = rw e refl

  pub none_first : (n ≡ 0 → ⊥) → looked_up types b t ≡ None → false ≡ agree_within n types b t u
  none_first e x = sym (level n types b t u e ∙ ap (λ o. below o (looked_up types b u)) x)

  pub none_second : (n ≡ 0 → ⊥) → looked_up types b u ≡ None → false ≡ agree_within n types b t u
  none_second e y = sym (level n types b t u e ∙ ap (λ o. below (looked_up types b t) o) y
      ∙ no_second (agree_within (n - 1) types false) (agree_within (n - 1) types true) (looked_up types b t))

  pub both_there : (c d : CType) (r : Bool) → (n ≡ 0 → ⊥) → looked_up types b t ≡ Some c →
      looked_up types b u ≡ Some d → r ≡ below (Some c) (Some d) → r ≡ agree_within n types b t u
  both_there c d r e x y same =
      same ∙ sym (level n types b t u e ∙ ap (λ o. below o (looked_up types b u)) x ∙ ap (λ o. below (Some c) o) y)
