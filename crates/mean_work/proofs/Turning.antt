-- A turn is used where one is left.
use Rattle.std.proofs.Common.{◌≡◌, ℕ, zero, suc, ◌-◌, ◌<◌, Bool, true, false, Result, ap, refl, ◌∙◌, arith}
use Rattle.obj_mem.specs.declared.ending.Ending.TheVariants as ending
use Rattle.cheri_c_sem.specs.Modes.{Store}
use Rattle.mean_steps.specs.Machine.{turn_behind}
use Rattle.mean_steps.specs.Parts.{Now, On, Over, turn, turn_from}
use Rattle.mean_work.specs.declared.work.Stop.{Stop}
use Rattle.mean_work.specs.Turns.{LeavesTurns}

some_from : (n : Now Store) (k : ℕ) → 0 < k → turn_from k n ≡ On tt (record n { left = k - 1 })
some_from n zero h = absurd (omega arith)
some_from n (suc j) h = let e : j ≡ suc j - 1 = omega arith in ap (λ i. On tt (record n { left = i })) e

some_at : (n : Now Store) (m k : ℕ) → m ≡ k → 0 < k → turn_from m n ≡ On tt (record n { left = k - 1 })
some_at n m k e h = rw e (some_from n k h)

pub turn_some : (n : Now Store) (k : ℕ) → n.left ≡ k → 0 < k → turn n ≡ On tt (record n { left = k - 1 })
turn_some n k e h = some_at n n.left k e h

none_from : (n : Now Store) (k : ℕ) → k ≡ 0 → turn_from k n ≡ Over ending.Turns
none_from n zero h = refl
none_from n (suc j) h = absurd (omega arith)

pub turn_none : (n : Now Store) (k : ℕ) → n.left ≡ k → k ≡ 0 → turn n ≡ Over ending.Turns
turn_none n k e h = none_from n n.left (e ∙ h)

pub turned_behind : (first : Bool) (n : Now Store) (left : ℕ) (r : Result (Unit {0}) Stop) → first ≡ false →
    LeavesTurns (turn n) n left r → LeavesTurns (turn_behind first n) n left r
turned_behind first n left r e h = rw e h

pub none_behind : (first : Bool) (n : Now Store) (left : ℕ) → first ≡ true → n.left ≡ left →
    turn_behind first n ≡ On tt (record n { left = left })
none_behind first n left e h = rw e (ap (λ i. On tt (record n { left = i })) h)
