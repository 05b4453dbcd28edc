-- A function whose sentry is in c31 is entered by a jump to it.
use Rattle.std.proofs.Common.{◌≡◌, ℕ, ◌+◌, ◌<◌, ◌≤◌, pos, List, [], ◌∷◌, ◌++◌, length, Option, Some, refl, ap, ◌∙◌}
use Rattle.std.proofs.Common.{subst, arith, true}
use Rattle.std.specs.Prelude.{slice_get, slice_set}
use Rattle.std.proofs.lemmas.List.{length-append}
use Rattle.std.proofs.lemmas.Option.{slice_get_within}
use Rattle.ck_base.specs.Runs.{Goes}
use Rattle.cap_ops.specs.declared.capability.Cap.{Cap}
use Rattle.cap_ops.specs.Capability.{sealed, added}
use Rattle.rv_instr.specs.declared.instr.Instr.{Instr}
use Rattle.rv_instr.specs.declared.instr.Instr.TheVariants.{Cjalr, CapGet}
use Rattle.rv_instr.specs.declared.ops.CapGetOp.TheVariants.{Cmove}
use Rattle.cap_machine.specs.declared.machine.Machine.{Machine}
use Rattle.cap_machine.specs.State.{register}
use Rattle.cap_machine.specs.Rows.{row, cjalr_row, jump}
use Rattle.cap_machine.specs.Step.{act, act_of}
use Rattle.cheri_c_sem.specs.Modes.{Store, frame_within}
use Rattle.cheri_c_sem.specs.Steps.{State}
use Rattle.obj_mem.specs.Objects.{base_in}
use Rattle.obj_mem.specs.Table.{addresses_of}
use Rattle.obj_mem.specs.Values.{Value, Fun, capability_of}
use Rattle.tac_ir.specs.Costs.{places_cost, prologue_cost}
use Rattle.tac_ir.specs.Meaning.{Running, entry_temps}
use Rattle.tac_ir.specs.Temps.{in_option, IsIn as IsAmong}
use Rattle.tac_ir.specs.Temps as temps
use Rattle.tac_ir.specs.declared.code.TacInstr.{TacInstr}
use Rattle.place_inject.specs.Calling.{code_at}
use Rattle.place_inject.specs.Entering.{caller_of, entry_of, entered}
use Rattle.place_inject.specs.Fits.{Fits}
use Rattle.place_inject.specs.Frames.{Setting, Point, IsLive, functions_of, homes_of, return_sentry}
use Rattle.place_inject.specs.Spills.{StackIsThere}
use Rattle.place_inject.proofs.Calling.{FirstLies, callees_answer}
use Rattle.select_words.specs.Passing.{ArgumentWords}
use Rattle.select_words.specs.Services.{taking}
use Rattle.select_words.specs.Standing.{HasAt}
use Rattle.select_runs.specs.Acts.{Ground, IsThere, Leads, counter_at, place}
use Rattle.select_runs.specs.Calling.{begin_words, HasWords, EntersWithin, MayCall, values}
use Rattle.select_runs.specs.Operands.{ground_of, IsText, IsAtPoint}
use Rattle.select_runs.specs.Passing.{GoesOnAside, PassesArguments}
use Rattle.select_runs.specs.Results.{before}
use Rattle.select_runs.specs.Selecting.{selecting}
use Rattle.select_runs.specs.Through.{IsCallee}
use Rattle.select_runs.proofs.Acts.{has_front, has_back, join, act_on_row, fetched_here, counter_moved}
use Rattle.select_runs.proofs.Calling.{sealed_is, jumped, awaiting, goes_aside, whole}
use Rattle.select_runs.proofs.Costs.{arguments_few, begins_few}
use Rattle.select_runs.proofs.Passing.{numbers, arguments_pass_law}
use Rattle.select_runs.proofs.Points.{laid, there}
use Rattle.select_runs.proofs.Working.{Got}

-- ---- the jump

abbrev function_of : Value → ℕ
function_of (Fun f) = f
function_of v = 0

pub sentry_goes : (s : Setting) (code : List Instr) (x : IsText s code) (p : Option Point) (t : State Store)
    (n : Machine) → Fits s p t n → (mid : ℕ) → IsThere (ground_of s code) n mid
    → slice_get code mid ≡ Some (Cjalr 1 31 (pos 0)) → (f : ℕ) → f < functions_of s
    → register n 31 ≡ capability_of (addresses_of s.map) (base_in t.mem.memory.shapes) (Fun f)
    → (entry : ℕ) (i : Instr) → slice_get code entry ≡ Some i
    → (addresses_of s.map).entry f ≡ place (ground_of s code) entry → act n ≡ Goes (jumped s code x n mid entry)
unfolding row
sentry_goes s code x p t n fits mid n_there jump_here f known holds entry i first leads =
    let l = slice_get_within code mid (Cjalr 1 31 (pos 0)) jump_here in
    let room = x.room in let below = x.legal.in_range.1 in
    let next : added n.pc 4 ≡ counter_at ground (mid + 1) =
    ap (λ c. added c 4) n_there.counter
    ∙ counter_moved ground (laid s code x) mid (mid + 1) 4 (omega arith) (omega arith) (omega arith) in
    fetched_here ground (laid s code x) n mid (Cjalr 1 31 (pos 0)) n_there.counter n_there.text jump_here
    ∙ act_on_row n (Cjalr 1 31 (pos 0)) refl ∙ ap act_of row_is
    ∙ ap (λ c. Goes (record n {
      regs = slice_set n.regs 1 c;
      pc = code_at (addresses_of s.map) ((addresses_of s.map).entry f);
    })) (ap sealed next ∙ sealed_is s.map.text.0 (s.map.text.0 + s.map.text.1) (place ground (mid + 1)))
    ∙ ap (λ y. Goes (record n {
      regs = slice_set n.regs 1 (return_sentry s (place ground (mid + 1)));
      pc = code_at (addresses_of s.map) y;
    })) leads
  where
    ground : Ground
    ground = ground_of s code

    own : FirstLies (addresses_of s.map) f
    own =
        let l = slice_get_within code entry i first in
        let room = x.room in let even = x.legal.text_aligned in
        record { exact = x.legal.text_exact; within = omega (arith, leads); aligned = omega (arith, leads) }

    row_is : cjalr_row n 1 31 (pos 0) ≡ jump n 1 (code_at (addresses_of s.map) ((addresses_of s.map).entry f))
    row_is = callees_answer (functions_of s) (addresses_of s.map) t.mem.memory n fits.objects 1 31 (Fun f) known
        (λ g e. subst (FirstLies (addresses_of s.map)) (ap function_of e) own) holds

-- ---- a call by c31

abbrev pub jump_word : List Instr
jump_word = Cjalr 1 31 (pos 0) ∷ []

-- The machine comes to the jump, where c31 has a capability; where that is a function's sentry, the function is entered
pub record ComesToJump (s : Setting) (code : List Instr) (running : Running) (to : Option ℕ) (args : List ℕ)
    (rest : List TacInstr) (word : ℕ) (t : State Store) (m : Machine) (c : Cap) : Type 0 where
  pub count : ℕ
  pub few : count ≤ 3 + places_cost (length args)
  pub to_jump : Machine
  pub leads : Leads count m to_jump
  pub point : IsAtPoint s code (awaiting running to rest) word t to_jump
  pub jump_here : slice_get code word ≡ Some (Cjalr 1 31 (pos 0))
  pub holds : register to_jump 31 ≡ c
  pub enters : (f : ℕ) → f < functions_of s
      → c ≡ capability_of (addresses_of s.map) (base_in t.mem.memory.shapes) (Fun f)
      → (own : IsCallee s code running to args rest t f) → EntersWithin s code
      (7 + places_cost (length args) + prologue_cost (length args)) own.begins.entry
      (own.begins.entry + length (begin_words s f own.begins.frame own.begins.words)) own.begins.frame
      (entry_of f (caller_of running rest to t) running.callers own.body)
      (λ place'. entered s f place' own.begins.lengths (entry_temps own.begins.kinds (values t args)) t) m
      (frame_within s.map.stack.0 t.frame (Some own.begins.frame))

-- Words that bring a capability to c31, those of the arguments, and the jump
module _ (s : Setting) (code : List Instr) (x : IsText s code) (stack : StackIsThere s) (running : Running)
    (i : TacInstr) (falls_on : temps.falls i ≡ true) (to : Option ℕ) (wrote : temps.writes i ≡ in_option to)
    (args : List ℕ) (rest : List TacInstr) (at : ℕ) (t : State Store) (m : Machine) (words64 : HasWords m)
    (lives : (temp : ℕ) → IsAmong temp args → IsLive s (before running i rest) temp)
    (point : IsAtPoint s code (before running i rest) at t m) (words finds passes : List Instr)
    (are : words ≡ finds ++ (passes ++ jump_word)) (has : HasAt code at words)
    (may : MayCall s code running to args rest (at + length words) t)
    (passed_by : ArgumentWords (selecting s running.fun) args passes) (begun : ℕ) (few : begun ≤ 3) (c : Cap)
    (found : Got s code (before running i rest) t m m begun (at + length finds) 31 31 c) where
  abbrev ground : Ground
  ground = ground_of s code

  abbrev here : Point
  here = before running i rest

  abbrev begin : ℕ
  begin = at + length finds

  abbrev mid : ℕ
  mid = begin + length passes

  long_words : length words ≡ length finds + (length passes + 1)
  long_words =
      ap (λ ws. length ws) are
      ∙ (let a = length-append finds (passes ++ jump_word) in let d = length-append passes jump_word in
      omega (arith, a, d))

  later_words : HasAt code begin (passes ++ jump_word)
  later_words = has_back code at finds (passes ++ jump_word) (subst (HasAt code at) are has)

  jump_here : slice_get code mid ≡ Some (Cjalr 1 31 (pos 0))
  jump_here = (has_back code begin passes jump_word later_words).0

  aside : GoesOnAside s here (taking to ∷ rest)
  aside = goes_aside s running i to rest t may.keeps falls_on wrote

  passed : PassesArguments s code here (taking to ∷ rest) args mid (length passes) t found.to
  passed = arguments_pass_law s code x stack here (taking to ∷ rest) aside may.frame may.is args lives may.room begin t
      found.to found.point passes passed_by (has_front code begin passes jump_word later_words)

  n_there : IsThere ground passed.to mid
  n_there = there s code x (awaiting running to rest) mid t passed.to passed.point

  leads_on : Leads (begun + passed.count) m passed.to
  leads_on = join begun passed.count m found.to passed.to found.leads passed.leads

  acts_few : begun + passed.count ≤ 3 + places_cost (length args)
  acts_few =
      let less = passed.few in
      let passing_few = arguments_few s running.fun args passes passed_by in
      omega (arith, few, less, passing_few)

  holds : register passed.to 31 ≡ c
  holds = passed.way ∙ found.holds

  pub comes_to_jump : ComesToJump s code running to args rest mid t m c
  comes_to_jump = record {
    count = begun + passed.count;
    few = acts_few;
    to_jump = passed.to;
    leads = leads_on;
    point = passed.point;
    jump_here = jump_here;
    holds = holds;
    enters = λ f known is own.
        let y = numbers s code x stack here (taking to ∷ rest) aside may.frame may.is args lives may.room t found.to
        found.point.fits in
        let l = long_words in let less = acts_few in
        let begin_few = begins_few s f (homes_of s f) own.begins.frame (length args) own.begins.words
        own.begins.parameter_words in
        let back_place : at + length words ≡ mid + 1 = omega (arith, l) in
        whole s code x stack running to f args rest own.body t m words64 own.begins may.keeps
        (λ temp h. point.fits.calls.1.known temp (lives temp h)) y.low y.up y.even (begun + passed.count) passed.to
        leads_on mid passed.point passed.registers passed.stack
        (sentry_goes s code x (Some (awaiting running to rest)) t passed.to passed.point.fits mid n_there jump_here f
        known (holds ∙ is) own.begins.entry (CapGet Cmove 28 2) own.begins.has.0 own.leads)
        (may.back ∙ ap (place ground) back_place)
        (7 + places_cost (length args) + prologue_cost (length args)) (omega (arith, less, begin_few))
        (frame_within s.map.stack.0 t.frame (Some own.begins.frame)) refl;
  }
