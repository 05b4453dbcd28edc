-- From the start the machine tracks what is meant, so whole runs match.
use Rattle.std.proofs.Common.{◌≡◌, ℕ, ◌+◌, ◌*◌, ◌≤◌, Option, Some, None, refl, arith, mul-le-mul_left}
use Rattle.std.specs.Prelude.{slice_get}
use Rattle.ck_base.specs.Agreement.{DoesWhatIsMeant}
use Rattle.ck_base.specs.World.{World, GivesBytes, nothing_done}
use Rattle.cap_machine.specs.declared.machine.Machine.{Machine}
use Rattle.cap_machine.specs.Step.{act, limits}
use Rattle.obj_mem.specs.declared.ending.Ending.TheVariants as meant
use Rattle.cheri_c_sem.specs.Modes.{Store}
use Rattle.cheri_c_sem.specs.Programs.{program_tree}
use Rattle.cheri_c_sem.specs.Steps.{State, Fate}
use Rattle.tac_ir.specs.Meaning.{fate, first_entry, first_state, name_of}
use Rattle.tracked_runs.specs.Matching.{IsReport, Reports, course_of}
use Rattle.tracked_runs.specs.Tracking.{Moment, moment, Tracks}
use Rattle.tracked_runs.proofs.Follow.{after}
use Rattle.tracked_runs.proofs.Matching.{tracked_runs_match_law}
use Rattle.select_whole.specs.Visited as visit
use Rattle.select_whole.specs.Visited.{Whole, ops_of, tac_at, locals_of, main_of, entry_of, first_running}
use Rattle.select_whole.specs.Runs.{InstructionsRun, last_acts}
use Rattle.select_whole.specs.Matching.{AreFine, Starts, Started, WholeRunsMatch, code_sides, dear_of}
use Rattle.select_whole.proofs.Kinded.{zeros_kinded}
use Rattle.select_whole.proofs.Moves.{leads_reach, stops_by, words_on}
use Rattle.select_whole.proofs.Passes.{turns_ok}

module _ (g : Whole) (reports : IsReport g.report) (fine : AreFine g) (w : World) (bytes : GivesBytes w)
    (run : InstructionsRun g w) (first count : ℕ) (enough : first + last_acts + g.most ≤ count) (m : Machine)
    (starts : Starts g w first m) where
  abbrev start : Moment Machine
  start = moment m nothing_done

  abbrev fate_of : ℕ → Fate
  fate_of n = fate (ops_of g) w g.setting.code g.program (locals_of g) (program_tree g.program) n

  abbrev Follows : ℕ → Fate → Type 0
  Follows n x = Tracks limits act w (Reports g.report) n ((n + 1) * count) (course_of x) start

  abbrev state : ℕ → State Store
  state n = first_state (ops_of g) w g.setting.code g.program (locals_of g) (program_tree g.program) n

  room : (n b : ℕ) → b ≤ g.most → first + (last_acts + b + n * g.most) ≤ (n + 1) * count
  room n b le =
      let less : g.most ≤ count = omega arith in
      let each : n * g.most ≤ n * count = mul-le-mul_left n less in
      omega arith

  abbrev setup : ℕ
  setup = g.setup (main_of g)

  entered : (n : ℕ) (o : Option ℕ) → (ops_of g).enter (main_of g) (ops_of g).stack_top ≡ o
      → Started g w (first + setup) n o m
      → Follows n (first_entry (ops_of g) w g.setting.code g.program (locals_of g) n o (main_of g) (state n))
  entered n (Some address) e a =
      let known = fine (main_of g) starts.main in
      let le = a.le in
      let cheap = known.cheap in
      let all = room n (setup + dear_of g (main_of g) (tac_at g (main_of g))) cheap in
      let steps = leads_reach w a.count m a.to nothing_done a.leads in
      after limits act w (Reports g.report) n n
      (last_acts + dear_of g (main_of g) (tac_at g (main_of g)) + n * g.most) ((n + 1) * count) a.count
      (course_of (first_entry (ops_of g) w g.setting.code g.program (locals_of g) n (Some address) (main_of g)
      (state n))) start (moment a.to nothing_done) (omega arith) (omega arith)
      steps
      (turns_ok g reports fine w bytes run n (first_running g) (tac_at g (main_of g)) (entry_of g w address n) a.to
      (record {
        at = record {
          visited = visit.begun address n e;
          point = a.point;
          kinded = zeros_kinded _;
          callers = refl;
          addresses = words_on w a.count start (moment a.to nothing_done) steps starts.addresses;
        };
        is_function = starts.main;
        fine_code = known;
        callers = tt;
      }))
  entered n None e a =
      let cheap = (fine (main_of g) starts.main).cheap in
      let s = stops_by g reports w bytes run (first + setup) m nothing_done
      (meant.Stack (name_of (slice_get g.setting.code.funs (main_of g)))) a.0 a.2 a.1 in
      let lt = s.lt in
      let all = room n setup (omega arith) in
      (s.count, omega arith, s.to, s.end, s.steps, s.ended, s.reports_it, s.done_is)

  tracks : (n : ℕ) → Follows n (fate_of n)
  unfolding fate
  tracks n = entered n ((ops_of g).enter (main_of g) (ops_of g).stack_top) refl (starts.each n)

  matches : DoesWhatIsMeant (code_sides g w m) count
  matches = tracked_runs_match_law g.report reports w fate_of count m tracks

pub whole_runs_match_law : WholeRunsMatch
whole_runs_match_law g reports fine w bytes run first count enough m starts =
    matches g reports fine w bytes run first count enough m starts
