-- The code of a `switch`: its comparisons, and where its labels stand among its statements.
use Rattle.std.specs.Prelude.{◌≡◌, ℕ, ◌+◌, ◌≤◌, ◌==◌, nat_lt, List, [], ◌∷◌, ◌++◌, length, drop, filter, map, Option}
use Rattle.std.specs.Prelude.{true, Some, None, if◌then◌else◌}
use Rattle.ck_int.specs.declared.kinds.CmpOp.TheVariants.{Eq}
use Rattle.ck_int.specs.declared.kinds.IntKind.TheVariants as int
use Rattle.c_tree.specs.WellTyped.{Inside}
use Rattle.c_tree.specs.declared.typed.SwitchLabel.{SwitchLabel}
use Rattle.cheri_c_sem.specs.Programs.{label_of, statements}
use Rattle.cheri_c_sem.specs.Tree.{Label}
use Rattle.tac_ir.specs.declared.code.TacInstr.TheVariants as instr
use Rattle.tac_ir.specs.declared.code.TacKind.{TacKind}
use Rattle.tac_ir.specs.declared.code.TacKind.TheVariants as kinds
use Rattle.lower_runs.specs.Expressions.{Mark}
use Rattle.lower_runs.specs.Operating.{Code}
use Rattle.lower_runs.specs.States.{Scene}
use Rattle.lower_runs.specs.Statements.{Exits, in_switch, kept_number, cases_code, otherwise, stands_before}
use Rattle.lower_runs.specs.Statements.{count_labels, IsBody}
use Rattle.tac_emit.specs.declared.emitter.Emitter.{Emitter}
use Rattle.tac_lower.specs.declared.switches.Case.{Case}
use Rattle.tac_lower.specs.declared.switches.Cases.{Cases}
use Rattle.tac_lower.specs.declared.switches.Switched.{Switched}
use Rattle.tac_lower.specs.declared.writes.Written.TheVariants as write
use Rattle.tac_emit.specs.Emitted.{HasKind, Keeps, Labelled}
use Rattle.tac_emit.specs.Adding.{Added, Emits, mark}
use Rattle.tac_lower.specs.Trees.{ShowsOperand, signatures}
use Rattle.tac_lower.specs.Stating.{Routine, stmt, Sited, DoAll, Leads, ShowsEntered}

abbrev pub labels_as : List SwitchLabel → List Label
labels_as ls = map (λ (s : SwitchLabel). label_of s.value s.before) ls

-- ---- comparisons

-- with a label's value, if it has one
abbrev pub compare_code : Switched → Option ℕ → ℕ → Code
compare_code s None label rest = rest
compare_code s (Some n) label rest =
    instr.Const s.value s.kind (kept_number s.kind n) ∷ instr.Cmp Eq s.kind s.answer s.temp s.value
    ∷ instr.Branch s.answer true label ∷ rest

-- labels with their numbers, from one on
abbrev pub numbered : ℕ → List Label → List Case
numbered l [] = []
numbered l (s ∷ ls) = record { before = stands_before s; label = l } ∷ numbered (l + 1) ls

-- the comparisons of a value with some labels, so far
pub record Compared (ls : List Label) (k : TacKind) (at end : ℕ) (s : Switched) (last : ℕ) (cs : List Case)
    (old new : Emitter) : Type 0 where
  pub temp : s.temp ≡ at
  pub kind : s.kind ≡ k
  pub value : s.value ≡ length old.kinds.items
  pub answer : s.answer ≡ length old.kinds.items + 1
  pub integer : HasKind new s.answer (kinds.Int int.I32)
  pub added : Added old new (cases_code k at (length old.kinds.items) old.labels ls)
  pub keeps : Keeps old.kinds.items new.kinds.items
  pub temps : length new.kinds.items ≡ length old.kinds.items + 2
  pub labels : new.labels ≡ old.labels + count_labels ls
  pub last_is : last ≡ otherwise old.labels end ls
  pub cases : cs ≡ numbered old.labels ls

-- and the jump behind them
pub record Compares (ls : List Label) (k : TacKind) (at end : ℕ) (old new : Emitter) : Type 0 where
  pub integer : HasKind new (length old.kinds.items + 1) (kinds.Int int.I32)
  pub added : Added old new (λ r. cases_code k at (length old.kinds.items) old.labels ls
      (instr.Jump (otherwise old.labels end ls) ∷ r))
  pub keeps : Keeps old.kinds.items new.kinds.items
  pub temps : length new.kinds.items ≡ length old.kinds.items + 2
  pub labels : new.labels ≡ old.labels + count_labels ls

-- ---- where labels stand

-- these labels stand
abbrev pub standing : List Case → Code
standing [] rest = rest
standing (c ∷ cs) rest = instr.Label c.label ∷ standing cs rest

-- the first labels, which stand before statement n or earlier ones, and those behind them
abbrev pub up_to : ℕ → List Case → List Case
up_to n [] = []
up_to n (c ∷ cs) = if nat_lt n c.before then [] else c ∷ up_to n cs

abbrev pub past : ℕ → List Case → List Case
past n [] = []
past n (c ∷ cs) = if nat_lt n c.before then c ∷ cs else past n cs

-- labels stand from one on, so far
pub record StandSo (some : List Case → List Case) (cs : List Case) (first at : ℕ) (old new : Emitter) : Type 0 where
  pub code : Code
  pub emits : Emits old new 0 code
  pub same : ◌≡◌ {A = Code} (standing (some (drop first cs))) (λ r. code (standing (some (drop at cs)) r))

-- labels stand from one on, up to those of statement n
pub record StandAt (cs : List Case) (first n at : ℕ) (old new : Emitter) : Type 0 where
  pub emits : Emits old new 0 (standing (up_to n (drop first cs)))
  pub left : drop at cs ≡ past n (drop first cs)

-- those that stand before statement n
abbrev pub here : ℕ → List Case → List Case
here n cs = filter (λ (c : Case). c.before == n) cs

-- they stand one behind another, at statement n or later
abbrev pub Rise : ℕ → List Case → Type 0
Rise n [] = Unit {0}
Rise n (c ∷ cs) = (n ≤ c.before) × Rise c.before cs

-- of the labels of a `switch`, which have their numbers from one on, these are left, at statement n or later
pub record Wait (ls : List Label) (label : ℕ) (cs : List Case) (n : ℕ) : Type 0 where
  pub rise : Rise n cs
  pub same : (m : ℕ) → n ≤ m → here m cs ≡ here m (numbered label ls)

-- the comparisons, and the labels that are to stand
pub record ShowsCases (ls : List Label) (k : TacKind) (at end : ℕ) (c : Cases) (old new : Emitter) : Type 0 where
  pub compares : Compares ls k at end old new
  pub waits : Wait ls old.labels c.cases.items 0

-- ---- the statements

-- The first statements of a `switch`, among its labels: they are its first statements, whatever follows them
pub record ShowsAmong (r : Routine) (ls : List Label) (label : ℕ) (x : Exits) (ks : List ℕ) (old new : Emitter) :
    Type 0 where
  pub code : Code
  pub added : Added old new code
  pub keeps : Keeps old.kinds.items new.kinds.items
  pub is : (g : Scene) (kinds : List TacKind) → Sited r.setting g → Keeps new.kinds.items kinds → (i : Inside) →
      Leads i x → DoAll r i g (statements (stmt r.setting) ks) → (js : List ℕ) (n : Mark) (d : Code) →
      IsBody r.setting.program (signatures r.setting.program) kinds r.gives g x label ls (length ks)
      (statements (stmt r.setting) js) (mark new) n d →
      IsBody r.setting.program (signatures r.setting.program) kinds r.gives g x label ls 0
      (statements (stmt r.setting) (ks ++ js)) (mark old) n (λ q. code (d q))

-- a `switch` so far: its value, its block, its comparisons and some statements; and the labels that are left
pub record ShowsSwitch (r : Routine) (on : ℕ) (xs : List ℕ) (ls : List Label) (x : Exits) (k : TacKind) (v end : ℕ)
    (cs : List Case) (ks : List ℕ) (old new : Emitter) : Type 0 where
  pub valued : Emitter
  pub entry : Emitter
  pub made : Emitter
  pub compared : Emitter
  pub operand : ShowsOperand r.setting write.Nothing on v old valued
  pub entered : ShowsEntered r xs valued entry
  pub label : Labelled entry made end
  pub compares : Compares ls k v end made compared
  pub body : ShowsAmong r ls made.labels (in_switch end x) ks compared new
  pub waits : Wait ls made.labels cs (length ks)
