-- What code that is added takes: places of the function's frame, words of machine code, parts of 16 bytes that are
-- copied, and objects that become zero.
use Rattle.std.specs.Prelude.{◌≡◌, ℕ, ◌+◌, ◌≤◌, Bool, true, false, length, None}
use Rattle.std.specs.Prelude.{List, flat_map}
use Rattle.c_tree.specs.Views.{times_in}
use Rattle.std.specs.List.{sum_by}
use Rattle.tac_ir.specs.Costs.{cost, outgoing}
use Rattle.tac_ir.specs.Temps.{zeros}
use Rattle.tac_ir.specs.Within.{copied_parts}
use Rattle.tac_ir.specs.declared.code.Amount.{Amount}
use Rattle.tac_ir.specs.declared.code.Amount.TheVariants as amount
use Rattle.tac_emit.specs.declared.emitter.Emitter.{Emitter}
use Rattle.tac_emit.specs.Lone.{lone_behind}

-- the temps, with the places of arguments past eight
unfoldable pub places : Emitter → ℕ
places e = length e.kinds.items + outgoing e.code.items

unfoldable pub words : Emitter → ℕ
words e = sum_by cost e.code.items

unfoldable pub copying : Emitter → ℕ
copying e = sum_by copied_parts e.code.items

-- the objects that become zero
unfoldable pub zeroing : Emitter → List ℕ
zeroing e = flat_map zeros e.code.items

unfoldable pub lone : Emitter → ℕ
lone e = lone_behind None e.code.items

-- code is added that takes so many places and words, and copies so many parts at most; no object becomes zero
pub record Takes (old new : Emitter) (m n c : ℕ) : Type 0 where
  pub grows : length old.kinds.items ≤ length new.kinds.items
  pub places : places new ≤ places old + m
  pub words : words new ≤ words old + n
  pub copies : copying new ≤ copying old + c
  pub zeros : zeroing new ≡ zeroing old
  pub lone : lone new ≤ lone old

-- and that copies nothing
abbrev pub Spent : (old new : Emitter) → (m n : ℕ) → Type 0
Spent old new m n = Takes old new m n 0

-- code is added that lets each object become zero so often at most
pub record Enters (old new : Emitter) (m n c : ℕ) (z : ℕ → ℕ) : Type 0 where
  pub grows : length old.kinds.items ≤ length new.kinds.items
  pub places : places new ≤ places old + m
  pub words : words new ≤ words old + n
  pub copies : copying new ≤ copying old + c
  pub zeros : (v : ℕ) → times_in v (zeroing new) ≤ times_in v (zeroing old) + z v
  pub lone : lone new ≤ lone old

abbrev pub no_zeros : ℕ → ℕ
no_zeros v = 0

abbrev pub is_number : Amount → Bool
is_number (amount.Temp t) = false
is_number (amount.Number n) = true
