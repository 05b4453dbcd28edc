-- Selected code, whole: for each function what it begins with, and then the words of each of its instructions in order,
-- at ascending places, with jumps and calls that lead to the places of labels and functions.
use Rattle.std.specs.Prelude.{◌≡◌, ◌⊎◌, ℕ, ◌+◌, ◌-◌, ◌*◌, ◌/◌, ◌<◌, ℤ, Bool, true, List, [], ◌∷◌, ◌++◌, length, zero, suc}
use Rattle.std.specs.Prelude.{pos, Option, Some, None, slice_get}
use Rattle.std.specs.List.{Contains}
use Rattle.ck_base.specs.declared.positions.Pos.{Pos}
use Rattle.elf_file.specs.declared.image.Line.{Line}
use Rattle.rv_instr.specs.declared.instr.Instr.{Instr}
use Rattle.rv_instr.specs.declared.instr.Instr.TheVariants.{Cjal, Cjalr}
use Rattle.obj_mem.specs.declared.map.Frame.{Frame}
use Rattle.reg_alloc.specs.declared.places.Home.{Home}
use Rattle.reg_alloc.specs.declared.places.Home.TheVariants.{Register}
use Rattle.reg_alloc.specs.declared.places.Places.{Places}
use Rattle.purecap_abi.specs.Ends.{before_store, prologue_code}
use Rattle.tac_ir.specs.Temps.{behind, writes, IsIn}
use Rattle.tac_ir.specs.WellFormed.{has_label, labels_differ}
use Rattle.tac_ir.specs.declared.code.LibOp.{LibOp}
use Rattle.tac_ir.specs.declared.code.LibOp.TheVariants as lib
use Rattle.tac_ir.specs.declared.code.TacFun.{TacFun}
use Rattle.tac_ir.specs.declared.code.TacInstr.{TacInstr}
use Rattle.tac_ir.specs.declared.code.TacInstr.TheVariants as instr
use Rattle.tac_ir.specs.declared.code.TacKind.{TacKind}
use Rattle.select_words.specs.Accesses.{AccessWords}
use Rattle.select_words.specs.Calling.{FindsEntry}
use Rattle.select_words.specs.Capabilities.{NarrowWords, OffsetWords, CapWords, PointingWords}
use Rattle.select_words.specs.Copying as copying
use Rattle.select_words.specs.Entries.{ParameterWords}
use Rattle.select_words.specs.Heap.{Mallocs}
use Rattle.select_words.specs.Jumps.{BranchWords}
use Rattle.select_words.specs.Operations.{OperationWords, CompareWords, ConversionWords}
use Rattle.select_words.specs.Passing.{ArgumentWords}
use Rattle.select_words.specs.Returning.{ReturnWords}
use Rattle.select_words.specs.Selecting.{Selecting}
use Rattle.select_words.specs.Services.{Asks, KeepSome, IsAside, ask}
use Rattle.select_words.specs.Standing.{HasAt}
use Rattle.select_words.specs.Words.{Bring, ConstantWords, CopyWords}
use Rattle.select_words.specs.Zeroing.{ZeroWords}
use Rattle.rv_emit.specs.Growing.{line_at}
use Rattle.rv_emit.specs.Leading.{IsHop}

-- ---- the words of an instruction

-- What is known of the words that lead elsewhere: so many words behind an instruction's first stands one that leads by
-- so many bytes to a label, or to a function, or one at which a trap is reported at a place in the source, or two one
-- behind the other; and of an instruction that is a label, or of which nothing is noted
pub record Ways : Type 1 where
  pub Jumps : (label skip : ℕ) → ℤ → Type 0
  pub Calls : (fun skip : ℕ) → ℤ → Type 0
  pub Traps : (skip : ℕ) → Pos → Type 0
  pub TrapsTwice : (skip : ℕ) → (first second : Pos) → Type 0
  pub Labels : (label : ℕ) → Type 0
  pub Passes : Type 0

pub record JumpWords (Jumps : (skip : ℕ) → ℤ → Type 0) (words : List Instr) : Type 0 where
  pub offset : ℤ
  pub leads : Jumps 0 offset
  pub are : words ≡ Cjal 0 offset ∷ []

-- the last word jumps
pub record BranchesBy (Jumps : (skip : ℕ) → ℤ → Type 0) (s : Selecting) (on : ℕ) (when : Bool)
    (words : List Instr) : Type 0 where
  pub offset : ℤ
  pub finds : List Instr
  pub branches : BranchWords s on when offset finds words
  pub leads : Jumps (length finds + 1) offset

-- no argument stands in a register in which arguments are passed
abbrev pub AreAside : Selecting → List ℕ → Type 0
AreAside s args = (a r : ℕ) → IsIn a args → slice_get s.homes a ≡ Some (Register r) → IsAside r

-- the word behind the arguments jumps, and what it gives is kept behind it
pub record CallsBy (Calls : (skip : ℕ) → ℤ → Type 0) (s : Selecting) (to : Option ℕ) (args : List ℕ)
    (words : List Instr) : Type 0 where
  pub offset : ℤ
  pub passes : List Instr
  pub passed : AreAside s args → ArgumentWords s args passes
  pub leads : Calls (length passes) offset
  pub keep : List Instr
  pub kept : KeepSome s to keep
  pub are : words ≡ (passes ++ Cjal 1 offset ∷ []) ++ keep

-- the function's sentry comes from the table to c31, and the word behind that and the arguments jumps to it
pub record FarCallsBy (fun : ℕ) (s : Selecting) (to : Option ℕ) (args : List ℕ) (words : List Instr) : Type 0 where
  pub finds : List Instr
  pub found : FindsEntry (s.functions + fun) finds
  pub passes : List Instr
  pub passed : AreAside s args → ArgumentWords s args passes
  pub keep : List Instr
  pub kept : KeepSome s to keep
  pub are : words ≡ (finds ++ (passes ++ Cjalr 1 31 (pos 0) ∷ [])) ++ keep

-- the word behind the value and the arguments jumps to it
pub record CallsThrough (Traps : (skip : ℕ) → Type 0) (s : Selecting) (to : Option ℕ) (v : ℕ) (args : List ℕ)
    (words : List Instr) : Type 0 where
  pub finds : List Instr
  pub found : Bring s v 31 finds
  pub passes : List Instr
  pub passed : AreAside s args → ArgumentWords s args passes
  pub reports : Traps (length finds + length passes)
  pub keep : List Instr
  pub kept : KeepSome s to keep
  pub are : words ≡ (finds ++ (passes ++ Cjalr 1 31 (pos 0) ∷ [])) ++ keep

-- those of the library, with the arguments that it takes
abbrev pub LibraryWords : Selecting → LibOp → Option ℕ → List ℕ → List Instr → Type 0
LibraryWords s lib.PutChar to (a ∷ []) words = Asks s (a ∷ []) 1 to words
LibraryWords s lib.GetChar to [] words = Asks s [] 2 to words
LibraryWords s lib.Exit None (a ∷ []) words = Asks s (a ∷ []) 3 None words
LibraryWords s lib.Malloc to (a ∷ []) words = Mallocs s a to words
LibraryWords s op to args words = Unit {0}

-- the access is so many words behind the first
abbrev pub Accesses : ((skip : ℕ) → Type 0) → Selecting → TacInstr → List Instr → Type 0
Accesses Traps s i words = (skip : ℕ) × AccessWords s i skip words × Traps skip

-- of a copy of so many units, where there are any
abbrev pub noted_copy : Ways → (units skip : ℕ) → Pos → Pos → Type 0
noted_copy y zero skip first second = y.Passes
noted_copy y (suc n) skip first second = y.TrapsTwice skip first second

abbrev pub WordsOf : Ways → Selecting → TacInstr → List Instr → Type 0
WordsOf y s (instr.Const to k v) words = y.Passes × ConstantWords s (instr.Const to k v) words
WordsOf y s (instr.Copy to from) words = y.Passes × CopyWords s (instr.Copy to from) words
WordsOf y s (instr.Int o k to a b) words = y.Passes × OperationWords s (instr.Int o k to a b) words
WordsOf y s (instr.Cmp o k to a b) words = y.Passes × CompareWords s (instr.Cmp o k to a b) words
WordsOf y s (instr.Convert to from old new) words = y.Passes × ConversionWords s (instr.Convert to from old new) words
WordsOf y s (instr.Cap o to a b) words = y.Passes × CapWords s (instr.Cap o to a b) words
WordsOf y s (instr.Offset to base by) words = y.Passes × OffsetWords s (instr.Offset to base by) words
WordsOf y s (instr.Narrow to base length exact) words =
    y.Passes × NarrowWords s (instr.Narrow to base length exact) words
WordsOf y s (instr.Load to from k place) words =
    Accesses (λ n. y.Traps n place) s (instr.Load to from k place) words
WordsOf y s (instr.Store at v k place) words =
    Accesses (λ n. y.Traps n place) s (instr.Store at v k place) words
WordsOf y s (instr.Local to var) words = y.Passes × PointingWords s (instr.Local to var) words
WordsOf y s (instr.Global to number literal) words = y.Passes × PointingWords s (instr.Global to number literal) words
WordsOf y s (instr.Function to fun) words = y.Passes × PointingWords s (instr.Function to fun) words
WordsOf y s (instr.Zero var) words = y.Passes × ZeroWords s var words
WordsOf y s (instr.CopyUnits from to bytes unit from_pos to_pos) words =
    (skip : ℕ) × copying.CopyWords s from to (bytes / unit) unit skip words
    × noted_copy y (bytes / unit) skip from_pos to_pos
WordsOf y s (instr.Label l) words = y.Labels l × (words ≡ [])
WordsOf y s (instr.Jump l) words = JumpWords (y.Jumps l) words
WordsOf y s (instr.Branch on when l) words = BranchesBy (y.Jumps l) s on when words
WordsOf y s (instr.Call to fun args) words =
    CallsBy (y.Calls fun) s to args words ⊎ (y.Passes × FarCallsBy fun s to args words)
WordsOf y s (instr.CallValue to v of args place) words =
    CallsThrough (λ n. y.Traps n place) s to v args words
WordsOf y s (instr.Lib o to args) words = y.Passes × LibraryWords s o to args words
WordsOf y s instr.Turn words = y.Passes × (words ≡ [])
WordsOf y s (instr.Return v) words = y.Passes × ReturnWords s v words

-- ---- a function

module _ (code : List Instr) (Says : (word : ℕ) → Pos → Type 0) (Entered : (fun at : ℕ) → Type 0) (s : Selecting)
    (t : TacFun) (word : List TacInstr → ℕ) where
  -- where the words from a place on lead: behind a label of the function, and to where functions are entered
  abbrev pub ways : (at : ℕ) → Ways
  ways at = record {
    Jumps = λ l skip z. has_label t.code l ≡ true → labels_differ t.code ≡ true
        → IsHop (at + skip) (word (behind l t.code)) z;
    Calls = λ fun skip z. (to : ℕ) → Entered fun to → IsHop (at + skip) to z;
    Traps = λ skip place. Says (at + skip) place;
    TrapsTwice = λ skip first second. Says (at + skip) first × Says (at + skip + 1) second;
    Labels = λ l. Unit {0};
    Passes = Unit {0};
  }

  -- the words of an instruction stand where those of the function from there on begin, and those of the rest behind
  -- them
  pub record Stands (i : TacInstr) (rest : List TacInstr) : Type 0 where
    pub words : List Instr
    pub are : WordsOf (ways (word (i ∷ rest))) s i words
    pub has : HasAt code (word (i ∷ rest)) words
    pub next : word (i ∷ rest) + length words ≡ word rest

-- Of a function: its frame, the word at which it is entered, the words of its parameters, and for each rest of its
-- instructions the word at which those of the rest begin
pub record FunctionStands (code : List Instr) (Says : (word : ℕ) → Pos → Type 0) (Sinks : (word : ℕ) → Pos → Type 0)
    (Entered : (fun at : ℕ) → Type 0) (s : Selecting) (frame : Frame) (t : TacFun) (word : List TacInstr → ℕ)
    (entry : ℕ) : Type 0 where
  pub parameters : List Instr
  pub parameter_words : ParameterWords s t.params parameters
  -- it begins with its prologue and its parameters, and a trap at the prologue's first store is for want of stack
  pub begins : HasAt code entry (prologue_code s.homes frame ++ parameters)
  pub sinks : Sinks (entry + length (before_store frame)) t.name
  pub first : word t.code ≡ entry + length (prologue_code s.homes frame ++ parameters)
  -- and then come the words of each instruction
  pub each : (before : List TacInstr) (i : TacInstr) (rest : List TacInstr) → t.code ≡ before ++ i ∷ rest
      → Stands code Says Entered s t word i rest
  -- all of them in the code, at whose end stands one more word
  pub inside : (before rest : List TacInstr) → t.code ≡ before ++ rest → word rest < length code

-- ---- the whole

-- how many entries stand in the table before those of literals, of functions and of the heap
pub record Before : Type 0 where
  pub literals : ℕ
  pub functions : ℕ
  pub heap : ℕ

-- what a function's words depend on
abbrev pub in_function : Before → (homes : List Home) → Frame → (numbers : ℕ → Option ℕ) → Selecting
in_function table homes frame numbers = record {
  frame = Some frame;
  homes = homes;
  numbers = numbers;
  literals = table.literals;
  functions = table.functions;
  heap = table.heap;
}

abbrev pub is_entered : List ℕ → (fun at : ℕ) → Type 0
is_entered entries fun at = slice_get entries fun ≡ Some (4 * at)

-- a line says that a trap at a word is one at a place in the source, or one for want of stack
abbrev pub is_said : List Line → (word : ℕ) → Pos → Type 0
is_said lines word place = Contains lines (line_at word place 0)

abbrev pub is_sunk : List Line → (word : ℕ) → Pos → Type 0
is_sunk lines word name = Contains lines (line_at word name 1)

-- a temp that is a number is no parameter, and is written by constants alone that are it
pub record AreNumbers (t : TacFun) (numbers : (temp : ℕ) → Option ℕ) : Type 0 where
  pub parameters : (k : ℕ) → k < t.params → numbers k ≡ None
  pub constants : (i : TacInstr) → Contains t.code i → (temp n : ℕ) → IsIn temp (writes i) → numbers temp ≡ Some n
      → (k : TacKind) × (i ≡ instr.Const temp k n)

-- the words of function `fun` end where those of the next one begin, and those of the last where so many words do
pub record EndsAt (entries : List ℕ) (words fun end : ℕ) : Type 0 where
  pub next : (at : ℕ) → is_entered entries (suc fun) at → end ≡ at
  pub last : suc fun ≡ length entries → end ≡ words

-- The words with which a text begins: they call the first function, which lies so many bytes ahead, or whose sentry is
-- an entry of the table, and behind the call the run ends
pub data StartWords (Leads : ℤ → Type 0) (entry : ℕ) (words : List Instr) : Type 0 where
  Near : (offset : ℤ) → Leads offset → words ≡ Cjal 1 offset ∷ ask 3 → StartWords Leads entry words
  Far : (finds : List Instr) → FindsEntry entry finds → words ≡ finds ++ (Cjalr 1 31 (pos 0) ∷ ask 3)
      → StartWords Leads entry words

-- The words of a program: each function stands where it is entered, in the order of its instructions, and nothing stands
-- between two functions, nor behind the last one but one word
pub record IsSelected (funs : List TacFun) (places : List Places) (frames : List Frame) (table : Before) (main : ℕ)
    (code : List Instr) (lines : List Line) (entries : List ℕ) : Type 0 where
  pub start : List Instr
  pub begins : HasAt code 0 start
  pub starts : StartWords (λ z. (at : ℕ) → is_entered entries main at → IsHop 0 at z) (table.functions + main) start
  pub numbers : (fun temp : ℕ) → Option ℕ
  pub numbered : (fun : ℕ) (t : TacFun) → slice_get funs fun ≡ Some t → AreNumbers t (numbers fun)
  pub word : (fun : ℕ) → List TacInstr → ℕ
  pub functions : (fun at : ℕ) (t : TacFun) (l : Places) (frame : Frame) → slice_get funs fun ≡ Some t
      → slice_get places fun ≡ Some l → slice_get frames fun ≡ Some frame → is_entered entries fun at
      → FunctionStands code (is_said lines) (is_sunk lines) (is_entered entries)
      (in_function table l.homes frame (numbers fun)) frame t (word fun) at
  pub ends : (fun : ℕ) → fun < length funs → EndsAt entries (length code - 1) fun (word fun [])
