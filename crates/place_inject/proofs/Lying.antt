-- Where frames lie.
use Rattle.std.proofs.Common.{◌≡◌, ℕ, ◌+◌, ◌-◌, ◌≤◌, ◌||◌, nat_lt, cond, sym, ap, ◌∙◌, arith, Some, None, inl, inr}
use Rattle.std.proofs.lemmas.Bool.{cases_Bool, or_parts, ltb-false}
use Rattle.std.proofs.lemmas.Option.{same_Some, none-some}
use Rattle.obj_mem.specs.declared.map.Frame.{Frame}
use Rattle.cheri_c_sem.specs.Modes.{below, frame_within}

pub record Lies (low above at : ℕ) (f : Frame) : Type 0 where
  pub from : low ≤ at
  pub to : at + f.size ≤ above
  pub is : below above f ≡ at

pub within : (low above at : ℕ) (f : Frame) → frame_within low above (Some f) ≡ Some at → Lies low above at f
within low above at f e = elim (cases_Bool
    (nat_lt above f.size || nat_lt (below above f) low)) as (λ _. Lies low above at f) [
      | inl out ↦ absurd (none-some at (sym (ap (λ b. cond b None (Some (below above f))) out) ∙ e))
      | inr is ↦
          let q = or_parts _ _ is in
          let same : below above f ≡ at = same_Some (below above f) at (sym
          (ap (λ b. cond b None (Some (below above f))) is) ∙ e) in
          let room = ltb-false above f.size q.0 in
          let low_is = ltb-false (below above f) low q.1 in
          let down : below above f ≤ above - f.size = omega arith in
          record { from = omega arith; to = omega arith; is = same }
    ]
