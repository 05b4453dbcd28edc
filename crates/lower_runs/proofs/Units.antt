-- A struct or union is whole units of at most 16 bytes, and at most its alignment.
use Rattle.std.proofs.Common.{◌≡◌, ℕ, zero, suc, ◌+◌, ◌*◌, ◌%◌, ◌^◌, ◌<◌, min, true, List, Option, Some, None, refl}
use Rattle.std.proofs.Common.{sym, ap}
use Rattle.std.proofs.Common.{subst, ◌∙◌, arith}
use Rattle.std.specs.Prelude.{slice_get}
use Rattle.std.proofs.lemmas.Bool.{and_from, eq-eqb}
use Rattle.std.proofs.lemmas.Nat.{pow-add, pow_pos}
use Rattle.std.proofs.Math.Nat.{mul-mod_left}
use Rattle.typing_laws.proofs.Divides.{Multiple, multiple_self, multiple_on, multiple_times}
use Rattle.c_tree.specs.Layout.{Extent, bytes_of, with_extent, behind, beside, no_members, members, whole, times}
use Rattle.c_tree.specs.Layout.{extent_of, extent_within}
use Rattle.c_tree.specs.declared.typed.CType.{CType}
use Rattle.c_tree.specs.declared.typed.CType.TheVariants as types
use Rattle.c_tree.proofs.Aligned.{IsPower, extent_aligned}
use Rattle.cheri_c_sem.specs.Types.{unit_of}
use Rattle.tac_ir.specs.WellFormed.{is_unit, units_fit}
use Rattle.lower_runs.specs.Fitting.{CopiesFit}
use Rattle.lower_runs.proofs.Placed.{same_some}

-- the size of an extent, if there is one, is a multiple of its alignment
abbrev IsWhole : Option Extent → Type 0
IsWhole o = (x : Extent) → o ≡ Some x → Multiple x.size x.align

some_whole : (y : Extent) → Multiple y.size y.align → IsWhole (Some y)
some_whole y h x e = subst (λ (z : Extent). Multiple z.size z.align) (same_some y x e) h

none_whole : IsWhole None
none_whole x e = absurd cc

times_whole : (n : ℕ) (o : Option Extent) → IsWhole o → IsWhole (with_extent o (times n))
times_whole n None h = none_whole
times_whole zero (Some y) h = none_whole
times_whole (suc n) (Some y) h =
    some_whole (record { size = suc n * y.size; align = y.align }) (multiple_times (suc n) y.size y.align (h y refl))

rounded_whole : (o : Option Extent) → IsWhole (with_extent o whole)
rounded_whole None = none_whole
rounded_whole (Some y) = some_whole _ (_, refl)

level_whole : (c : Option CType) (go : ℕ → Option Extent) → ((t : ℕ) → IsWhole (go t)) → IsWhole (extent_of c go)
level_whole None go h = none_whole
level_whole (Some types.Void) go h = none_whole
level_whole (Some (types.Int k n)) go h = some_whole _ (multiple_self (bytes_of k))
level_whole (Some (types.Cap s)) go h = some_whole _ (multiple_self 16)
level_whole (Some (types.Pointer t)) go h = some_whole _ (multiple_self 16)
level_whole (Some (types.Array t n)) go h = times_whole n (go t) (h t)
level_whole (Some (types.Struct tag ms)) go h = rounded_whole (members behind go ms no_members)
level_whole (Some (types.Union tag ms)) go h = rounded_whole (members beside go ms no_members)
level_whole (Some (types.Function t ps)) go h = none_whole
level_whole (Some (types.Const t)) go h = h t
level_whole (Some (types.Incomplete tag)) go h = none_whole

extent_whole : (d : ℕ) (all : List CType) (t : ℕ) → IsWhole (extent_within d all t)
unfolding extent_within
extent_whole zero all t = none_whole
extent_whole (suc d) all t = level_whole (slice_get all t) (extent_within d all) (extent_whole d all)

unit_fits : (size u : ℕ) → is_unit u ≡ true → Multiple size u → units_fit size u ≡ true
unit_fits size u h m = and_from (is_unit u) _ h (eq-eqb (size % u) 0 (ap (λ z. z % u) m.1 ∙ mul-mod_left m.0 u))

power_fits : (k size : ℕ) → Multiple size (2 ^ k) → units_fit size (min 16 (2 ^ k)) ≡ true
power_fits zero size m = unit_fits size 1 refl m
power_fits (suc zero) size m = unit_fits size 2 refl m
power_fits (suc (suc zero)) size m = unit_fits size 4 refl m
power_fits (suc (suc (suc zero))) size m = unit_fits size 8 refl m
power_fits (suc (suc (suc (suc j)))) size m =
    let n : suc (suc (suc (suc j))) ≡ j + 4 = omega arith in
    let e : 2 ^ suc (suc (suc (suc j))) ≡ 2 ^ j * 16 = ap (λ z. 2 ^ z) n ∙ pow-add 2 j 4 in
    let some : 0 < 2 ^ j = pow_pos j in
    let least : min 16 (2 ^ suc (suc (suc (suc j)))) ≡ 16 = omega (arith, e, some) in
    subst (λ z. units_fit size z ≡ true) (sym least)
    (unit_fits size 16 refl (multiple_on size (2 ^ j * 16) 16 (subst (Multiple size) e m) (2 ^ j, refl)))

pub copies_fit : CopiesFit
copies_fit all t x e =
    let p : IsPower x.align = extent_aligned _ all t x e in
    subst (λ z. units_fit x.size (unit_of z) ≡ true) (sym p.1)
    (power_fits p.0 x.size (subst (Multiple x.size) p.1 (extent_whole _ all t x e)))
