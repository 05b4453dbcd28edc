-- What is made of a program: code, homes, words and a map, and what runs of its machine are compared with.
use Rattle.std.specs.Prelude.{◌≡◌, ℕ, suc, ◌+◌, ◌-◌, ◌*◌, ◌==◌, ◌≤◌, ℤ, List, [], length, map, Option, Some, None}
use Rattle.std.specs.Prelude.{slice_get, slice_index_or, if◌then◌else◌}
use Rattle.std.specs.List.{Contains}
use Rattle.ck_base.specs.declared.positions.Pos.{Pos}
use Rattle.elf_file.specs.declared.image.Line.{Line}
use Rattle.rv_instr.specs.declared.instr.Instr.{Instr}
use Rattle.cap_ops.specs.declared.access.Cause.{Cause}
use Rattle.cap_machine.specs.declared.end.End.{End}
use Rattle.cap_machine.specs.declared.end.End.TheVariants as end
use Rattle.cap_machine.specs.declared.machine.Machine.{Machine}
use Rattle.c_tree.specs.Counts.{copies, granules}
use Rattle.c_tree.specs.Weight.{weight}
use Rattle.c_tree.specs.declared.typed.Typed.{Typed}
use Rattle.obj_mem.specs.Legal.{Needs, slot_of}
use Rattle.obj_mem.specs.Needs.{needs_of, weight_in}
use Rattle.obj_mem.specs.Table.{heap_entry}
use Rattle.obj_mem.specs.declared.ending.Ending.{Ending}
use Rattle.obj_mem.specs.declared.ending.Ending.TheVariants as ending
use Rattle.obj_mem.specs.declared.map.Frame.{Frame}
use Rattle.obj_mem.specs.declared.map.Map.{Map}
use Rattle.obj_mem.specs.declared.map.Slot.{Slot}
use Rattle.reg_alloc.specs.declared.places.Home.{Home}
use Rattle.reg_alloc.specs.declared.places.Home.TheVariants as home
use Rattle.reg_alloc.specs.declared.places.Places.{Places}
use Rattle.purecap_abi.specs.Saving.{registers_at, slots_at}
use Rattle.purecap_abi.specs.Words.{store_code}
use Rattle.tac_ir.specs.Costs.{cost, outgoing, prologue_cost}
use Rattle.tac_ir.specs.Meaning.{code_of}
use Rattle.tac_ir.specs.Within.{copied_parts}
use Rattle.tac_ir.specs.declared.code.Tac.{Tac}
use Rattle.tac_ir.specs.declared.code.TacFun.{TacFun}
use Rattle.tac_ir.specs.declared.code.TacInstr.{TacInstr}
use Rattle.tac_ir.specs.declared.code.TacInstr.TheVariants as instr
use Rattle.place_inject.specs.Entering.{IsFrameOf}
use Rattle.place_inject.specs.Frames.{Setting}
use Rattle.select_words.specs.Selecting.{Selecting}
use Rattle.select_words.specs.Zeroing as zeroing
use Rattle.select_whole.specs.Visited.{Whole, locals_of}
use Rattle.select_runs.specs.Returning.{StubAt}
use Rattle.rv_emit.specs.Growing.{AreEntries}
use Rattle.rv_select.specs.Selected.{AreNumbers, Before, Far, IsSelected, Near, StartWords}
use Rattle.image_runs.specs.Asked.{FunctionIs, Has, called_to}
use Rattle.image_runs.specs.Starting.{CallsFirst}

-- The program, its three-address code, the homes of each function's temps, the map, the words with the lines of their
-- traps and the offsets at which functions are entered, the machine that was loaded, and what its endings report
pub record Made : Type 0 where
  pub program : Typed
  pub code : Tac
  pub places : List Places
  pub map : Map
  pub words : List Instr
  pub lines : List Line
  pub entries : List ℕ
  pub machine : Machine
  pub report : End → Option Ending

-- ---- the words behind a call, which keep what it gives

-- how many they are, where a temp is a number or not, by its home
abbrev pub kept_by : List Home → Option Frame → Option ℕ → Option Home → ℕ
kept_by homes frame (Some n) h = 0
kept_by homes frame None (Some (home.Register r)) = if r == 10 then 0 else 1
kept_by homes (Some f) None (Some (home.Slot k)) = length (store_code 10 2 (slots_at homes f + 16 * k) 31)
kept_by homes frame None h = 0

abbrev pub keep_length : Selecting → Option ℕ → ℕ
keep_length s None = 0
keep_length s (Some t) = kept_by s.homes s.frame (s.numbers t) (slice_get s.homes t)

-- the temp for what a call gives
abbrev pub result_by : Option (Option ℕ) → Option ℕ
result_by None = None
result_by (Some to) = to

abbrev pub result_of : Option TacInstr → Option ℕ
result_of None = None
result_of (Some i) = result_by (called_to i)

-- the instruction before the end of some code
abbrev pub before_rest : (code rest : List TacInstr) → Option TacInstr
before_rest code rest = slice_get code (length code - suc (length rest))

-- ---- acts

-- the granules of a slot that is made zero
abbrev pub slot_granules : Option Slot → ℕ
slot_granules None = 0
slot_granules (Some s) = zeroing.granules s

abbrev pub zeroed_in : Option Frame → ℕ → ℕ
zeroed_in None var = 0
zeroed_in (Some f) var = slot_granules (slot_of f var)

abbrev pub zeroed : Option Frame → TacInstr → ℕ
zeroed frame (instr.Zero var) = zeroed_in frame var
zeroed frame i = 0

abbrev pub dear_in : Option Frame → TacInstr → ℕ
dear_in frame i = cost i + 128 * copied_parts i + 8 * zeroed frame i

-- with one act more, by which a function for which the stack has no room ends
abbrev pub setup_by : Option TacFun → ℕ
setup_by None = 0
setup_by (Some f) = prologue_cost f.params + 1

-- ---- the setting of its runs

-- the word behind the call of the first function
abbrev pub stub_by : {Leads : ℤ → Type 0} {entry : ℕ} {words : List Instr} → StartWords Leads entry words → ℕ
stub_by (Near offset leads are) = 1
stub_by (Far finds found are) = length finds + 1

abbrev pub needs_in : Made → Needs
needs_in m = needs_of (weight_in m.program) m.program

abbrev pub table_in : Made → Before
table_in m = record {
  literals = length (needs_in m).globals;
  functions = length (needs_in m).globals + length (needs_in m).literals;
  heap = heap_entry (needs_in m);
}

abbrev pub AreSelected : Made → Type 0
AreSelected m =
    IsSelected m.code.funs m.places m.map.frames (table_in m) m.program.main m.words m.lines m.entries

module _ (m : Made) (s : AreSelected m) where
  abbrev pub homes_in : List (List Home)
  homes_in = map (λ (l : Places). l.homes) m.places

  abbrev pub selecting_in : (fun : ℕ) → Selecting
  selecting_in fun = record {
    frame = slice_get m.map.frames fun;
    homes = slice_index_or homes_in fun [];
    numbers = s.numbers fun;
    literals = (table_in m).literals;
    functions = (table_in m).functions;
    heap = (table_in m).heap;
  }

  -- the word behind a call
  abbrev pub behind_call : (fun : ℕ) → (rest : List TacInstr) → ℕ
  behind_call fun rest =
      s.word fun rest
      - keep_length (selecting_in fun) (result_of (before_rest (code_of (slice_get m.code.funs fun)) rest))

  abbrev pub stub_of : ℕ
  stub_of = stub_by s.starts

  abbrev pub setting_of : Setting
  setting_of = record {
    needs = needs_in m;
    map = m.map;
    code = m.code;
    homes = homes_in;
    numbers = s.numbers;
    loaded = m.machine;
    back = λ fun rest. m.map.text.0 + 4 * behind_call fun rest;
    stub = m.map.text.0 + 4 * stub_of;
  }

  abbrev pub whole_of : Whole
  whole_of = record {
    program = m.program;
    code = m.words;
    setting = setting_of;
    word = s.word;
    dear = λ fun i. dear_in (slice_get m.map.frames fun) i;
    setup = λ fun. setup_by (slice_get m.code.funs fun);
    most = 32 * weight m.program + 8 * granules m.program + 128 * copies m.program + 1;
    report = m.report;
  }

-- ---- what is known of it

abbrev pub place_in : Line → Pos
place_in l = record { line = l.line; col = l.col }

-- a line of kind 0 is the place of an access or a call, one of kind 1 that of a prologue's first store
pub record LinesReport (m : Made) : Type 0 where
  pub traps : (c : Cause) (l : Line) → Contains m.lines l → l.kind ≡ 0
      → m.report (end.Trap c (m.map.text.0 + l.at)) ≡ Some (ending.Trap c (place_in l))
  pub sinks : (c : Cause) (l : Line) → Contains m.lines l → l.kind ≡ 1
      → m.report (end.Trap c (m.map.text.0 + l.at)) ≡ Some (ending.Stack (place_in l))

-- There are homes, a frame and an entry for each function; its frame is one for its locals and its homes, with places
-- for the arguments of its calls; and the map's entries and the lines are those of the words
pub record AreMade (m : Made) (s : AreSelected m) : Type 0 where
  pub places : length m.places ≡ length m.code.funs
  pub entered : length m.entries ≡ length m.code.funs
  pub entries : AreEntries (length m.words) m.entries
  pub map : m.map.entries ≡ Rattle.std.specs.Prelude.map (λ n. m.map.text.0 + n) m.entries
  pub frames : (fun : ℕ) (f : TacFun) → slice_get m.code.funs fun ≡ Some f
      → (frame : Frame) × IsFrameOf (setting_of m s) fun (locals_of (whole_of m s) fun) frame
  pub room : (fun : ℕ) (f : TacFun) (l : Places) (frame : Frame) → slice_get m.code.funs fun ≡ Some f
      → slice_get m.places fun ≡ Some l → slice_get m.map.frames fun ≡ Some frame
      → 16 + 16 * outgoing f.code ≤ registers_at l.homes frame
  pub lines : LinesReport m

-- ---- what is then known

pub record AreStanding (m : Made) (s : AreSelected m) : Type 0 where
  pub functions : (fun : ℕ) (f : TacFun) → Has (whole_of m s) fun f → FunctionIs (whole_of m s) fun f
  pub numbers : (fun : ℕ) (f : TacFun) → Has (whole_of m s) fun f → AreNumbers f (s.numbers fun)
  pub stub : StubAt (setting_of m s) m.words (stub_of m s)
  pub first : CallsFirst (whole_of m s)

-- Functions stand as they were selected
abbrev pub SelectedFunctions : Type 0
SelectedFunctions = (m : Made) (s : AreSelected m) → AreMade m s → AreStanding m s
