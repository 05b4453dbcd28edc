-- What code keeps as more is appended to it, and what of it stands in the whole code.
use Rattle.std.specs.Prelude.{◌≡◌, ℕ, ◌+◌, ◌*◌, ◌<◌, ◌≤◌, ℤ, pos, List, [], ◌∷◌, ◌++◌, length, Option, Some, slice_get}
use Rattle.std.specs.List.{All, Contains}
use Rattle.elf_file.specs.declared.image.Line.{Line}
use Rattle.obj_mem.specs.declared.map.Frame.{Frame}
use Rattle.rv_instr.specs.declared.instr.Instr.{Instr}
use Rattle.rv_instr.specs.declared.instr.Instr.TheVariants.{Cjal, Cjalr}
use Rattle.reg_alloc.specs.declared.places.Home.{Home}
use Rattle.reg_alloc.specs.declared.places.Places.{Places}
use Rattle.select_words.specs.Calling.{FindsEntry}
use Rattle.select_words.specs.Selecting.{Selecting}
use Rattle.select_words.specs.Services.{ask}
use Rattle.tac_ir.specs.declared.code.TacFun.{TacFun}
use Rattle.tac_ir.specs.declared.code.TacInstr.{TacInstr}
use Rattle.rv_emit.specs.Growing.{Size, calling}
use Rattle.rv_emit.specs.Leading.{IsHop, JumpsTo, NoJump, IsEnteredAt}
use Rattle.rv_select.specs.Selected.{AreNumbers, Before, EndsAt, FunctionStands, in_function, is_entered, is_said}
use Rattle.rv_select.specs.Selected.{is_sunk}
use Rattle.rv_emit.specs.Jump.{Jump}

-- ---- what is appended

pub record Continues {A : Type 0} (old new : List A) : Type 0 where
  pub added : List A
  pub is : new ≡ old ++ added

-- jumps from words between two places
pub record Appends (from to : ℕ) (old new : List Jump) : Type 0 where
  pub added : List Jump
  pub is : new ≡ old ++ added
  pub inside : All (λ j. (from ≤ j.at) × (j.at < to)) added

-- words, lines, and calls from these words, if not far ones
pub record Follows (old new : Size) : Type 0 where
  pub text : Continues old.text new.text
  pub lines : Continues old.links.lines new.links.lines
  pub calls : Appends (length old.text) (length new.text) old.links.calls new.links.calls
  pub far : new.links.far ≡ old.links.far

-- ---- what becomes of it

-- a jump there leads to a place
pub record LeadsTo (Place : (place : ℕ) → Type 0) (code : List Instr) (at link : ℕ) : Type 0 where
  pub by : ℤ
  pub there : slice_get code at ≡ Some (Cjal link by)
  pub leads : (place : ℕ) → Place place → IsHop at place by

-- The whole code has the words of the code so far and others behind them, but that its calls lead to where functions
-- are entered, and it has its lines
pub record Becomes (old : Size) (code : List Instr) (lines : List Line) (entries : List ℕ) : Type 0 where
  pub kept : (k : ℕ) (i : Instr) → slice_get old.text k ≡ Some i → NoJump old.links.calls k → slice_get code k ≡ Some i
  pub called : (at fun link : ℕ) (z : ℤ) → slice_get old.text at ≡ Some (Cjal link z) → JumpsTo old.links.calls at fun
      → LeadsTo (IsEnteredAt entries fun) code at link
  pub said : (l : Line) → Contains old.links.lines l → Contains lines l
  pub longer : length old.text < length code

-- ---- the call with which a text begins

-- one that is noted, or one by an entry of the table
pub data Begins (entry main : ℕ) (old new : Size) : Type 0 where
  ByJump : new.text ≡ old.text ++ Cjal 1 (pos 0) ∷ ask 3 → new.links ≡ calling old.links (length old.text) main
      → Begins entry main old new
  ByEntry : (finds : List Instr) → FindsEntry entry finds → new.text ≡ old.text ++ (finds ++ Cjalr 1 31 (pos 0) ∷ ask 3)
      → new.links ≡ old.links → Begins entry main old new

-- ---- functions

-- no function is at hand: no labels or jumps are noted, and calls from words that stand there alone
pub record IsBetween (c : Size) : Type 0 where
  pub marks : c.links.marks ≡ []
  pub jumps : c.links.jumps ≡ []
  pub calls : All (λ j. j.at < length c.text) c.links.calls

-- A function was appended, which is entered at its first word, and its words are all that was. Whatever whole code the
-- code becomes, it stands there
pub record FunctionIsPut (s : Selecting) (frame : Frame) (t : TacFun) (old new : Size) : Type 0 where
  pub follows : Follows old new
  pub between : IsBetween new
  pub entered : new.links.entered ≡ old.links.entered ++ 4 * length old.text ∷ []
  pub word : List TacInstr → ℕ
  pub ends : word [] ≡ length new.text
  pub stands : (code : List Instr) (lines : List Line) (entries : List ℕ) → Becomes new code lines entries
      → FunctionStands code (is_said lines) (is_sunk lines) (is_entered entries) s frame t word (length old.text)

-- and some temps are found to be numbers
pub record IsPut (table : Before) (t : TacFun) (homes : List Home) (frame : Frame) (old new : Size) : Type 0 where
  pub numbers : (temp : ℕ) → Option ℕ
  pub numbered : AreNumbers t numbers
  pub put : FunctionIsPut (in_function table homes frame numbers) frame t old new

-- so are functions, one behind the other
pub record ArePut (table : Before) (funs : List TacFun) (places : List Places) (frames : List Frame)
    (old new : Size) : Type 0 where
  pub follows : Follows old new
  pub between : IsBetween new
  pub numbers : (fun temp : ℕ) → Option ℕ
  pub numbered : (fun : ℕ) (t : TacFun) → slice_get funs fun ≡ Some t → AreNumbers t (numbers fun)
  pub word : (fun : ℕ) → List TacInstr → ℕ
  pub ends : (fun : ℕ) → fun < length funs
      → EndsAt new.links.entered (length new.text) (length old.links.entered + fun) (word fun [])
  pub stand : (fun at : ℕ) (t : TacFun) (l : Places) (frame : Frame) → slice_get funs fun ≡ Some t
      → slice_get places fun ≡ Some l → slice_get frames fun ≡ Some frame
      → IsEnteredAt new.links.entered (length old.links.entered + fun) at
      → (code : List Instr) (lines : List Line) (entries : List ℕ) → Becomes new code lines entries
      → FunctionStands code (is_said lines) (is_sunk lines) (is_entered entries)
      (in_function table l.homes frame (numbers fun)) frame t (word fun) at
