-- Parts of a run that come to the same where few turns are left.
use Rattle.std.proofs.Common.{◌≡◌, ℕ, zero, suc, ◌<◌, ◌≤◌, Bool, true, false, length, Option, Result, Ok, Err, refl}
use Rattle.std.proofs.Common.{arith}
use Rattle.std.specs.Prelude.{slice_get}
use Rattle.ck_base.specs.World.{World, fails_after}
use Rattle.ck_base.specs.Runs.{with_put, with_read}
use Rattle.ck_base.specs.declared.positions.Pos.{Pos}
use Rattle.obj_mem.specs.declared.ending.Fault.{Fault}
use Rattle.obj_mem.specs.declared.ending.UnitFault.{UnitFault}
use Rattle.obj_mem.specs.declared.ending.Ending.{Ending}
use Rattle.obj_mem.specs.declared.ending.Ending.TheVariants as ending
use Rattle.obj_mem.specs.Values.{Value}
use Rattle.cheri_c_sem.specs.Steps.{State, Fate, Then, ◌>>=◌, ◌>>◌, give, ends, answer, unit_answer, ask, choose}
use Rattle.cheri_c_sem.specs.Steps.{turn_from, turn, set_memory, change_memory, set_variable, put, get}

-- where at most n turns are left, c and d come to the same, if what follows does where no more turns are left than
-- before
pub record Same {M A : Type 0} (n : ℕ) (c d : Then M A) : Type 0 where
  pub at : (s : State M) → s.left ≤ n → (k l : A → State M → Fate) →
      ((x : A) (t : State M) → t.left ≤ s.left → k x t ≡ l x t) → c s k ≡ d s l

module _ {M : Type 0} where
  pub same_give : {A : Type 0} (n : ℕ) (x : A) → Same {M = M} n (give x) (give x)
  same_give n x = record { at = λ s le k l h. h x s (omega arith) }

  pub same_ends : {A : Type 0} (n : ℕ) (e : Ending) → Same {M = M} {A = A} n (ends e) (ends e)
  same_ends n e = record { at = λ s le k l h. refl }

  pub same_bind : {A B : Type 0} (n : ℕ) (c d : Then M A) (f g : A → Then M B) → Same n c d →
      ((x : A) → Same n (f x) (g x)) → Same n (c >>= f) (d >>= g)
  same_bind n c d f g cd fg =
      record {
        at = λ s le k l h. cd.at s le _ _
            (λ x t lt. (fg x).at t (omega arith) k l (λ y u lu. h y u (omega arith)));
      }

  pub same_then : {A B : Type 0} (n : ℕ) (c d : Then M A) (f g : Then M B) → Same n c d → Same n f g →
      Same n (c >> f) (d >> g)
  same_then n c d f g cd fg =
      record { at = λ s le k l h. cd.at s le _ _ (λ x t lt. fg.at t (omega arith) k l (λ y u lu. h y u (omega arith))) }

  pub same_answer : {A : Type 0} (n : ℕ) (pos : Pos) (r : Result A Fault) → Same {M = M} n (answer pos r) (answer pos r)
  same_answer n pos (Ok x) = same_give n x
  same_answer n pos (Err f) = record { at = λ s le k l h. refl }

  pub same_unit_answer : {A : Type 0} (n : ℕ) (from to : Pos) (r : Result A UnitFault) →
      Same {M = M} n (unit_answer from to r) (unit_answer from to r)
  same_unit_answer n from to (Ok x) = same_give n x
  same_unit_answer n from to (Err f) = record { at = λ s le k l h. refl }

  pub same_ask : {A : Type 0} (n : ℕ) (pos : Pos) (f : M → Result A Fault) → Same n (ask pos f) (ask pos f)
  same_ask n pos f = record { at = λ s le k l h. (same_answer n pos (f s.mem)).at s le k l h }

  pub same_choose : {A : Type 0} (n : ℕ) (v : Bool) (a b c d : Then M A) → Same n a c → Same n b d →
      Same n (choose v a b) (choose v c d)
  same_choose n true a b c d ac bd = ac
  same_choose n false a b c d ac bd = bd

  pub same_set_memory : (n : ℕ) (m : M) → Same n (set_memory m) (set_memory m)
  same_set_memory n m = record { at = λ s le k l h. h tt (record s { mem = m }) (omega arith) }

  pub same_change_memory : (n : ℕ) (f : M → M) → Same n (change_memory f) (change_memory f)
  same_change_memory n f = record { at = λ s le k l h. h tt (record s { mem = f s.mem }) (omega arith) }

  pub same_set_variable : (n x : ℕ) (v : Option Value) → Same {M = M} n (set_variable x v) (set_variable x v)
  same_set_variable n x v = record { at = λ s le k l h. h tt (record s { vars = _ }) (omega arith) }

  pub same_below : {A : Type 0} (n m : ℕ) (c d : Then M A) → m ≤ n → Same n c d → Same m c d
  same_below n m c d le h = record { at = λ s lm k l hk. h.at s (omega arith) k l hk }

  turn_at : {A : Type 0} (n j : ℕ) (s : State M) (c d : Then M A) → j ≤ n → j ≤ s.left →
      ((m : ℕ) → m < n → Same m c d) → (k l : A → State M → Fate) →
      ((x : A) (t : State M) → t.left ≤ s.left → k x t ≡ l x t) → (turn_from j >> c) s k ≡ (turn_from j >> d) s l
  turn_at n zero s c d le ls h k l hk = refl
  turn_at n (suc j) s c d le ls h k l hk =
      (h j (omega arith)).at (record s { left = j }) (omega arith) k l (λ x t lt. hk x t (omega arith))

  -- after a turn there are fewer
  pub same_turn : {A : Type 0} (n : ℕ) (c d : Then M A) → ((m : ℕ) → m < n → Same m c d) →
      Same n (turn >> c) (turn >> d)
  same_turn n c d h = record { at = λ s le k l hk. turn_at n s.left s c d le (omega arith) h k l hk }

  module _ (w : World) where
    pub same_put : (n b : ℕ) → Same {M = M} n (put w b) (put w b)
    same_put n b = record {
      at = λ s le k l h. (same_choose n (fails_after w.failing_put (length s.done.output)) (ends ending.WriteFault)
          (λ t k. k tt (record t { done = with_put t.done b })) (ends ending.WriteFault)
          (λ t k. k tt (record t { done = with_put t.done b }))
          (same_ends n ending.WriteFault) (record
          { at = λ t lt k l h. h tt (record t { done = with_put t.done b }) (omega arith) })).at s le k l h;
    }

    pub same_get : (n : ℕ) → Same {M = M} n (get w) (get w)
    same_get n = record {
      at = λ s le k l h. (same_choose n (fails_after w.failing_read s.done.reads) (ends ending.ReadFault)
          (λ t k. k (slice_get w.bytes t.done.reads) (record t { done = with_read t.done })) (ends ending.ReadFault)
          (λ t k. k (slice_get w.bytes t.done.reads) (record t { done = with_read t.done }))
          (same_ends n ending.ReadFault) (record {
            at = λ t lt k l h.
                h (slice_get w.bytes t.done.reads) (record t { done = with_read t.done }) (omega arith);
          })).at s le k
          l h;
    }
