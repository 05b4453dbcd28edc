-- Which instructions name a temp, up to some instruction.
use Rattle.std.specs.Prelude.{◌≡◌, ℕ, ◌<◌, ◌≤◌, ◌&&◌, ◌==◌, ◌⊎◌, nat_le, Bool, true, false, List, [], ◌∷◌, Option, Some}
use Rattle.std.specs.Prelude.{None, if◌then◌else◌}
use Rattle.tac_ir.specs.Intervals.{IsAt, NamesAt, ReadsAt, is_control}
use Rattle.tac_ir.specs.declared.code.TacInstr.{TacInstr}
use Rattle.tac_live.specs.declared.uses.Uses.{Uses}
use Rattle.tac_live.specs.declared.uses.Place.{Place}

-- the uses of a temp with one more
abbrev pub with_use : Option Uses → Place → (writes : Bool) → Uses
with_use None p writes = record { first = p.at; last = p.at; straight = writes }
with_use (Some u) p writes = record { first = u.first; last = p.at; straight = u.straight && nat_le p.control u.first }

-- those of temp t after some temps are named in turn
abbrev pub noted : Place → (writes : Bool) → List ℕ → ℕ → Option Uses → Option Uses
noted p writes [] t u = u
noted p writes (k ∷ ks) t u = noted p writes ks t (if k == t then Some (with_use u p writes) else u)

-- a label, jump or branch strictly between two instructions
pub record IsDivided (code : List TacInstr) (first last : ℕ) : Type 0 where
  pub at : ℕ
  pub control : TacInstr
  pub stands : IsAt code at control
  pub divides : is_control control ≡ true
  pub behind : first < at
  pub before : at < last

-- the uses of a temp by the instructions up to a number
pub record AreUses (code : List TacInstr) (upto t : ℕ) (u : Uses) : Type 0 where
  pub first : NamesAt code t u.first
  pub last : NamesAt code t u.last
  pub bound : u.last ≤ upto
  pub between : (n : ℕ) → NamesAt code t n → n ≤ upto → (u.first ≤ n) × (n ≤ u.last)
  pub written_first : u.straight ≡ true → ReadsAt code t u.first → ⊥
  pub undivided : u.straight ≡ true → IsDivided code u.first u.last → ⊥
  pub bent : u.straight ≡ false → ReadsAt code t u.first ⊎ IsDivided code u.first u.last

abbrev pub MatchUses : List TacInstr → (upto t : ℕ) → Option Uses → Type 0
MatchUses code upto t None = (n : ℕ) → NamesAt code t n → n ≤ upto → ⊥
MatchUses code upto t (Some u) = AreUses code upto t u
