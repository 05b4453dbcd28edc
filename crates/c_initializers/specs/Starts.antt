-- Values that are known before the program runs.
use Rattle.std.specs.Prelude.{◌≡◌, ℕ, ◌≤◌, ℤ, pos, neg_ℤ, ◌≤ℤ◌, List, reverse, Option, Some, None, option_map}
use Rattle.c_tree.specs.Statics as meant
use Rattle.c_tree.specs.Statics.{Known}
use Rattle.c_tree.specs.Views.{aim_of}
use Rattle.c_elaborator.specs.declared.work.Bounds.{Bounds}
use Rattle.c_elaborator.specs.declared.work.Bounds.TheVariants.{Whole, Part}
use Rattle.c_elaborator.specs.Work.{reach_of}
use Rattle.c_initializers.specs.declared.starts.Value.{Value}
use Rattle.c_initializers.specs.declared.starts.Value.TheVariants.{Number, There, Entry}
use Rattle.c_initializers.specs.declared.starts.Known.{Known as Kept}

abbrev pub start_of : Value → meant.Start
start_of (Number n) = meant.Number n
start_of (There p) = meant.There (aim_of p.target) (reach_of p.bounds) p.offset
start_of (Entry k) = meant.Entry k

-- the newest first
abbrev pub known_of : Kept → meant.Start × List ℤ
known_of k = (start_of k.value, reverse k.asks.items)

abbrev pub IsKnown : Known → Option Kept → Type 0
IsKnown k r = k ≡ option_map known_of r

-- ---- how far addresses are from the beginning of what they point to

-- where bounds begin, at most
abbrev pub BoundsWithin : ℕ → Bounds → Type 0
BoundsWithin n Whole = Unit {0}
BoundsWithin n (Part low length) = low ≤ n

abbrev pub IsWithin : ℕ → Value → Type 0
IsWithin n (Number v) = Unit {0}
IsWithin n (There p) = BoundsWithin n p.bounds × (neg_ℤ (pos n) ≤ℤ p.offset) × (p.offset ≤ℤ pos n)
IsWithin n (Entry k) = Unit {0}

abbrev pub AreWithin : ℕ → Option Kept → Type 0
AreWithin n None = Unit {0}
AreWithin n (Some k) = IsWithin n k.value

-- a place with these bounds at this offset, if anything is known
abbrev pub PointsAt : Bounds → ℤ → Value → Type 0
PointsAt b z (There p) = (p.bounds ≡ b) × (p.offset ≡ z)
PointsAt b z v = ⊥

abbrev pub Points : Bounds → ℤ → Option Kept → Type 0
Points b z None = Unit {0}
Points b z (Some k) = PointsAt b z k.value
