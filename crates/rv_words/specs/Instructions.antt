-- What instructions reach, and which make sentries.
use Rattle.std.specs.Prelude.{ℕ, ◌-◌, ◌^◌, Bool, true, false}
use Rattle.rv_instr.specs.declared.ops.CapGetOp.{CapGetOp}
use Rattle.rv_instr.specs.declared.ops.CapGetOp.TheVariants.{Csealentry}

-- two words lead to offsets below it
abbrev pub reach : ℕ
reach = 2 ^ 31 - 2048

-- it makes a sentry
abbrev pub seals : CapGetOp → Bool
seals Csealentry = true
seals op = false
