-- What integer constant expressions and lengths of arrays stand for, and the steps of typing that give them.
use Rattle.std.specs.Prelude.{◌≡◌, ℕ, ℤ, pos, ◌<ℤ◌, ◌^◌}
use Rattle.ck_base.specs.declared.positions.Pos.{Pos}
use Rattle.c_tree.specs.Types.{bare}
use Rattle.c_tree.specs.Constants.{constant_of}
use Rattle.c_tree.specs.Conversions.{Operand, operand_type}
use Rattle.c_tree.specs.Scopes.{State, Doing, give, some_or, ◌>>=◌}
use Rattle.c_tree.specs.Declarators as meant
use Rattle.c_elaborator.specs.declared.work.Work.{Work}
use Rattle.c_plain_rules.specs.declared.constants.Constant.{Constant}

-- whatever the state
abbrev pub in_any : {A X : Type 0} → (Work → X → A → Type 0) → Work → X → State → A → Type 0
in_any Is w x s a = Is w x a

-- ---- what they stand for

-- a value of an integer type
abbrev pub ConstantThere : Work → Constant → Type 0
ConstantThere w c = c.number <ℤ pos (2 ^ 64)

abbrev pub IsConstant : Work → Constant → meant.Constant → Type 0
IsConstant w c x = x ≡ record { number = c.number; first = c.first }

abbrev pub CountThere : Work → ℕ → Type 0
CountThere w n = Unit {0}

abbrev pub IsCount : Work → ℕ → ℕ → Type 0
IsCount w n x = x ≡ n

-- ---- steps

-- an integer constant expression that was read as a value
abbrev pub constant : Operand → Doing meant.Constant
constant x = some_or (constant_of x.is) 134 x.first
    >>= λ v. give (record { number = meant.number_of (bare (operand_type x)) v; first = x.first })

abbrev pub array_length : ℤ → Pos → Doing ℕ
array_length z p = some_or (meant.positive z) 134 p
