-- One level of a const type.
use Rattle.std.proofs.Common.{◌≡◌, ℕ, zero, suc, ◌-◌, ◌<◌, ◌≤◌, List, false, refl, sym, ap, arith}
use Rattle.std.specs.Prelude.{slice_get}
use Rattle.c_tree.specs.declared.typed.CType.{CType}
use Rattle.obj_mem.specs.Needs.{is_const_of, is_const_within}

pub none_left : (ts : List CType) (left t : ℕ) → left ≤ 0 → is_const_within left ts t ≡ false
unfolding is_const_within
none_left ts zero t h = refl
none_left ts (suc d) t h = absurd (omega arith)

pub const_step : (ts : List CType) (d t : ℕ) → 0 < d →
    is_const_within d ts t ≡ is_const_of (slice_get ts t) (is_const_within (d - 1) ts)
unfolding is_const_within
const_step ts zero t h = absurd (omega arith)
const_step ts (suc d) t h =
    let e : suc d - 1 ≡ d = omega arith in ap (λ n. is_const_of (slice_get ts t) (is_const_within n ts)) (sym e)
