-- What the code of expressions and statements takes, in a function whose first temps, so many, belong to its variables.
use Rattle.std.specs.Prelude.{◌≡◌, ℕ, ◌+◌, ◌-◌, ◌*◌, ◌≤◌, ◌⊎◌, nat_lt, length, Option, Some, None}
use Rattle.std.specs.Prelude.{if◌then◌else◌}
use Rattle.tac_emit.specs.declared.emitter.Emitter.{Emitter}
use Rattle.tac_emit.specs.Spent.{Takes, Spent, Enters}

-- 1 where a value gets a temp of its own beside the one in which it is asked for: that one is a variable's, or there is
-- none
unfoldable pub extra : (fixed : ℕ) → Option ℕ → ℕ
extra fixed None = 1
extra fixed (Some t) = if nat_lt t fixed then 1 else 0

-- where the temps of the variables are there
pub record Spends (fixed : ℕ) (old new : Emitter) (m n c : ℕ) : Type 0 where
  pub spent : fixed ≤ length old.kinds.items → Takes old new m n c

pub record Consumes (fixed : ℕ) (old new : Emitter) (m n c : ℕ) (z : ℕ → ℕ) : Type 0 where
  pub spent : fixed ≤ length old.kinds.items → Enters old new m n c z

-- the value of an expression of a weight and of so many copies, which may need a temp beside the one in which it is
-- asked for
abbrev pub SpendsValue : (fixed weight copies beside : ℕ) → (old new : Emitter) → Type 0
SpendsValue fixed w c x old new = Spends fixed old new (2 * w - 2 + x) (32 * w - 21 + 6 * x) c

-- the same in a new temp
abbrev pub SpendsOperand : (fixed weight copies : ℕ) → (old new : Emitter) → Type 0
SpendsOperand fixed w c old new = Spends fixed old new (2 * w - 1) (32 * w - 21) c

-- the pointer to a place, and in a new temp
abbrev pub SpendsPlace : (fixed weight copies : ℕ) → (old new : Emitter) → Type 0
SpendsPlace fixed w c old new = Spends fixed old new (2 * w - 2) (32 * w - 26) c

abbrev pub SpendsPointer : (fixed weight copies : ℕ) → (old new : Emitter) → Type 0
SpendsPointer fixed w c old new = Spends fixed old new (2 * w - 1) (32 * w - 26) c

-- a branch by the truth of an expression, and by that of `&&` or `||`
abbrev pub SpendsCondition : (fixed weight copies : ℕ) → (old new : Emitter) → Type 0
SpendsCondition fixed w c old new = Spends fixed old new (2 * w - 1) (32 * w - 16) c

abbrev pub SpendsJunction : (fixed weight copies : ℕ) → (old new : Emitter) → Type 0
SpendsJunction fixed w c old new = Spends fixed old new (2 * w - 4) (32 * w - 64) c

-- the copy of a struct or union
abbrev pub SpendsCopy : (fixed weight copies : ℕ) → (old new : Emitter) → Type 0
SpendsCopy fixed w c old new = Spends fixed old new (2 * w) (32 * w + 3) c

-- what enters no variable, by its weight and its copies
abbrev pub SpendsFlat : (fixed heft copies : ℕ) → (old new : Emitter) → Type 0
SpendsFlat fixed h c old new = Spends fixed old new (2 * h) (32 * h) c

-- a statement, by its weight, its copies, and the variables and the objects that it enters
abbrev pub SpendsPart : (fixed heft copies variables : ℕ) → (objects : ℕ → ℕ) → (old new : Emitter) → Type 0
SpendsPart fixed h c e z old new = Consumes fixed old new (2 * h) (32 * h + 19 * e) c z

-- a temp for a value that is changed in steps, and the copy from there to where the value is asked for
pub record Owns (fixed : ℕ) (to : Option ℕ) (old new : Emitter) (t : ℕ) : Type 0 where
  pub spent : fixed ≤ length old.kinds.items → Spent old new (extra fixed to) 0
  pub own : fixed ≤ length old.kinds.items → extra fixed (Some t) ≡ 0
  pub given : (extra fixed to ≡ 1) ⊎ (to ≡ Some t)
