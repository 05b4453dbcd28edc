-- The machine goes through functions as three-address code does, turn by turn.
use Rattle.std.proofs.Common.{◌≡◌, ℕ, zero, suc, ◌+◌, ◌*◌, ◌%◌, ◌<◌, ◌≤◌, Bool, true, false, List, [], ◌∷◌, length}
use Rattle.std.proofs.Common.{Option, Some, None, refl, sym, ap, ◌∙◌, subst, arith, if◌then◌else◌}
use Rattle.std.specs.Prelude.{◌||◌, slice_get}
use Rattle.std.proofs.lemmas.Bool.{and_parts}
use Rattle.ck_base.specs.World.{World, Done, GivesBytes}
use Rattle.cap_machine.specs.declared.machine.Machine.{Machine}
use Rattle.cap_machine.specs.Step.{act, limits}
use Rattle.obj_mem.specs.Values.{Value}
use Rattle.obj_mem.specs.declared.ending.Ending.{Ending}
use Rattle.obj_mem.specs.declared.ending.Ending.TheVariants as ending
use Rattle.cheri_c_sem.specs.Kinds.{number_of}
use Rattle.cheri_c_sem.specs.Modes.{Store}
use Rattle.cheri_c_sem.specs.Steps.{State, Fate}
use Rattle.tac_ir.specs.Effects.{Next, On, To, Back, Into, effect}
use Rattle.tac_ir.specs.Meaning.{Caller, Running, Going, Runs, Seeks, Turned, Sinks, follow, turned, pass, behind_turn}
use Rattle.tac_ir.specs.Meaning.{turns, seek, is_label, back, enters, name_of, with_result}
use Rattle.tac_ir.specs.Temps.{behind}
use Rattle.tac_ir.specs.WellFormed.{is_turn, has_label, turns_fit, turn_fits, ends_well, ends_there}
use Rattle.tac_ir.specs.declared.code.TacInstr.{TacInstr}
use Rattle.tac_ir.specs.declared.code.TacInstr.TheVariants as instr
use Rattle.place_inject.proofs.Registers.{done_keeps_fits_law}
use Rattle.select_runs.specs.Kinds.{AreOfKinds}
use Rattle.select_runs.specs.Operands.{IsAtPoint}
use Rattle.select_runs.specs.Results as at_place
use Rattle.tracked_runs.specs.Matching.{IsReport, Reports, course_of, course_by}
use Rattle.tracked_runs.specs.Tracking.{Moment, moment, Reaches, Tracks, Finished}
use Rattle.tracked_runs.proofs.Follow.{after}
use Rattle.select_whole.specs.Visited as visit
use Rattle.select_whole.specs.Visited.{Whole, Means, Visited, ops_of, kinds_at, tac_at, locals_of, called_by}
use Rattle.select_whole.specs.Visited.{in_frame_of, back_in, looked_at}
use Rattle.select_whole.specs.Runs.{AreWords, CallersKept, here, Here, Called, Entered, InstructionsRun, last_acts}
use Rattle.select_whole.specs.Matching.{dear_of, IsFine, AreFine}
use Rattle.select_whole.proofs.Moves.{Comes, Stops, Did, Onward, Jumps, Pauses, Enters, Returns, Leaves, Over, Outside}
use Rattle.select_whole.proofs.Moves.{does, leads_reach, stops_by, words_on}
use Rattle.select_whole.proofs.Steady.{first_stays}

abbrev mode_of : Bool → Going
mode_of true = Turned
mode_of false = Runs

-- ---- the end of a function's code

ends_rest : (i : TacInstr) (is : List TacInstr) → ends_there i ≡ false → ends_well (i ∷ is) ≡ true
    → ends_well is ≡ true
ends_rest i [] no_end h = let x : true ≡ false = sym h ∙ no_end in cc
ends_rest i (j ∷ is) no_end h = h

ends_some : (i : TacInstr) (is : List TacInstr) (l : ℕ) → has_label is l ≡ true → ends_well (i ∷ is) ≡ true
    → ends_well is ≡ true
ends_some i [] l has h = cc
ends_some i (j ∷ is) l has h = h

label_goes_on : (i : TacInstr) (l : ℕ) → is_label i l ≡ true → (ends_there i ≡ false) × (is_turn i ≡ false)
label_goes_on (instr.Label k) l h = (refl, refl)
label_goes_on i l h = cc

module _ (g : Whole) where
  fine_tail : (fun : ℕ) (b : Bool) (i : TacInstr) (is : List TacInstr) → IsFine g fun b (i ∷ is) → ends_well is ≡ true
      → IsFine g fun (is_turn i) is
  fine_tail fun b i is f ends =
      let cheap = f.cheap in
      record {
        ends = ends;
        turned = (and_parts (turn_fits b i is) (turns_fit (is_turn i) is) f.turned).1;
        cheap = omega arith;
      }

  fine_rest : (fun : ℕ) (b : Bool) (i : TacInstr) (is : List TacInstr) → IsFine g fun b (i ∷ is)
      → ends_there i ≡ false → is_turn i ≡ false → IsFine g fun false is
  fine_rest fun b i is f falls plain =
      subst (λ v. IsFine g fun v is) plain (fine_tail fun b i is f (ends_rest i is falls f.ends))

  -- behind a label
  fine_there : (fun l : ℕ) (b : Bool) (is : List TacInstr) → IsFine g fun b is → has_label is l ≡ true
      → IsFine g fun false (behind l is)
  fine_there fun l b [] f has = cc
  fine_there fun l b (i ∷ is) f has =
      by (is_label i l) refl has
      (λ h. fine_there fun l (is_turn i) is (fine_tail fun b i is f (ends_some i is l h f.ends)) h)
    where
      by : (v : Bool) → is_label i l ≡ v → (v || has_label is l) ≡ true
          → (has_label is l ≡ true → IsFine g fun false (behind l is))
          → IsFine g fun false (if v then is else behind l is)
      by true e h rest = let p = label_goes_on i l e in fine_rest fun b i is f p.0 p.1
      by false e h rest = rest h

-- ---- passes

module _ (g : Whole) (reports : IsReport g.report) (fine : AreFine g) (w : World) (bytes : GivesBytes w)
    (run : InstructionsRun g w) where
  abbrev Again : Type 0
  Again = List TacInstr → Going → Running → State Store → Fate

  abbrev pass_of : Again → Again
  pass_of again = pass (ops_of g) w g.setting.code g.program (locals_of g) again

  abbrev follow_of : Again → List TacInstr → Running → Next → State Store → Fate
  follow_of again is r = follow (ops_of g) w g.setting.code g.program (locals_of g) again (pass_of again is) is r

  abbrev turned_of : Again → List TacInstr → Running → Next → State Store → Fate
  turned_of again is r = turned (ops_of g) w g.setting.code g.program (locals_of g) again is r

  abbrev Follows : ℕ → ℕ → Fate → Moment Machine → Type 0
  Follows m b x s = Tracks limits act w (Reports g.report) m b (course_of x) s

  abbrev most : ℕ
  most = g.most

  abbrev CallersFine : List Caller → Type 0
  CallersFine [] = Unit {0}
  CallersFine (c ∷ cs) = (c.fun < length g.setting.code.funs) × IsFine g c.fun false c.rest × CallersFine cs

  -- a run is there, the machine stands for it, and the code ends well
  pub record Stands (r : Running) (b : Bool) (is : List TacInstr) (t : State Store) (m : Machine) : Type 0 where
    pub at : Here g w r b is t m
    pub is_function : r.fun < length g.setting.code.funs
    pub fine_code : IsFine g r.fun b is
    pub callers : CallersFine r.callers

  -- another number of turns that are left doesn't matter
  with_left : (r : Running) (b : Bool) (is : List TacInstr) (t : State Store) (m : Machine) (left : ℕ)
      → Stands r b is t m → Stands r b is (record t { left = left }) m
  with_left r b is t m left s = record {
    at = record {
      visited = visit.turn left s.at.visited;
      kinded = s.at.kinded;
      callers = s.at.callers;
      addresses = s.at.addresses;
      point = record {
        fits = done_keeps_fits_law g.setting (Some (at_place.behind r (looked_at b is))) t m s.at.point.fits t.done
            left;
        counter = s.at.point.counter;
      };
    };
    is_function = s.is_function;
    fine_code = s.fine_code;
    callers = s.callers;
  }

  -- ---- a stretch of acts, and then what tracks

  stretch : (m n b e j : ℕ) (x : Fate) (s u : Moment Machine) → n ≤ j + m → j + b ≤ e
      → Reaches limits act w j s u → Follows m b x u → Follows n e x s
  stretch m n b e j x s u ge le steps h =
      after limits act w (Reports g.report) m n b e j (course_of x) s u ge le steps h

  finished : (m b hi : ℕ) (e : Ending) (d : Done) (s : Machine) (d0 : Done) → Stops g reports w bytes run hi s d0 e d
      → course_by d e ≡ Finished d e → hi ≤ b → Follows m b (record { done = d; ending = e }) (moment s d0)
  finished m b hi e d s d0 a is le =
      let q = a.lt in
      subst (λ c. Tracks limits act w (Reports g.report) m b c (moment s d0)) (sym is)
      (a.count, omega arith, a.to, a.end, a.steps, a.ended, a.reports_it, a.done_is)

  -- ---- what is asked of the run with one turn less

  record AgainOk (m : ℕ) (again : Again) : Type 0 where
    runs : (r : Running) (is : List TacInstr) (t : State Store) (s u : Machine) (j e : ℕ) → 1 ≤ j
        → Reaches limits act w j (moment s t.done) (moment u t.done) → Stands r false is t u
        → ((n : ℕ) → m ≡ suc n → j + (last_acts + dear_of g r.fun is + n * most) ≤ e)
        → Follows m e (again is Runs r t) (moment s t.done)
    seeks : (r : Running) (l : ℕ) (t : State Store) (s u : Machine) (j e : ℕ) → 1 ≤ j
        → Reaches limits act w j (moment s t.done) (moment u t.done)
        → Stands r false (behind l (tac_at g r.fun)) t u → has_label (tac_at g r.fun) l ≡ true
        → ((n : ℕ) → m ≡ suc n → j + (last_acts + most + n * most) ≤ e)
        → Follows m e (again (tac_at g r.fun) (Seeks l) r t) (moment s t.done)
    sinks : (r : Running) (f : ℕ) (t : State Store) (s : Machine) (hi e : ℕ)
        → Stops g reports w bytes run hi s t.done (ending.Stack (name_of (slice_get g.setting.code.funs f))) t.done
        → ((n : ℕ) → m ≡ suc n → hi ≤ e) → Follows m e (again [] (Sinks f) r t) (moment s t.done)

  -- what is shown of a list of instructions
  record PassOk (m : ℕ) (again : Again) (r : Running) (is : List TacInstr) : Type 0 where
    runs : (b : Bool) (t : State Store) (s : Machine) → Stands r b is t s
        → Follows m (last_acts + dear_of g r.fun is + m * most) (pass_of again is (mode_of b) r t) (moment s t.done)
    seeks : (l : ℕ) (t : State Store) (s : Machine) → Stands r false (behind l is) t s → has_label is l ≡ true
        → Follows m (last_acts + dear_of g r.fun is + m * most) (pass_of again is (Seeks l) r t) (moment s t.done)

  -- acts beside those of a turn's instructions are counted in the next one
  most_turn : (n m j a more b rest : ℕ) → m ≡ suc n → j ≤ a + more → more + b ≤ most
      → j + (last_acts + b + n * most) ≤ last_acts + (a + rest) + m * most
  most_turn n m j a more b rest e lo hi = let q : m * most ≡ suc n * most = ap (λ k. k * most) e in omega arith

  sinks_turn : (n m a more rest : ℕ) → m ≡ suc n → more ≤ most → a + more ≤ last_acts + (a + rest) + m * most
  sinks_turn n m a more rest e hi = let q : m * most ≡ suc n * most = ap (λ k. k * most) e in omega arith

  module _ (m : ℕ) (again : Again) (ok : AgainOk m again) (r : Running) (i : TacInstr) (is : List TacInstr) where
    abbrev all : ℕ
    all = last_acts + dear_of g r.fun (i ∷ is) + m * most

    abbrev Means_so : State Store → Next → State Store → Type 0
    Means_so t next u = Means g w r.fun i t next u

    -- behind what the meaning says
    by_means : (t u : State Store) (next : Next) (k : Next → State Store → Fate) (s : Machine) → Means_so t next u
        → Follows m all (k next u) (moment s t.done)
        → Follows m all (effect (ops_of g) w g.program (kinds_at g r.fun) i t k) (moment s t.done)
    by_means t u next k s means h = subst (λ y. Follows m all y (moment s t.done)) (sym (means k)) h

    -- ---- calls

    calls : (t : State Store) (s : Machine) → Stands r false (i ∷ is) t s → Called g w r i is t s
        → ends_there i ≡ false → is_turn i ≡ false
        → Follows m all (effect (ops_of g) w g.program (kinds_at g r.fun) i t (follow_of again is r))
        (moment s t.done)
    calls t s h c falls plain =
        by_means t t (Into c.fun c.vs c.to) (follow_of again is r) s c.means
        (by ((ops_of g).enter c.fun t.frame) refl c.does)
      where
        by : (o : Option ℕ) → (ops_of g).enter c.fun t.frame ≡ o
            → Entered g w (g.dear r.fun i + g.setup c.fun) c.fun (called_by c.fun r is c.to t) o c.vs t s
            → Follows m all (enters (ops_of g) w g.setting.code g.program (locals_of g) again o c.fun c.vs
            (called_by c.fun r is c.to t) t) (moment s t.done)
        by (Some address) e a =
            let u = in_frame_of g w address c.fun c.vs t in
            let known = fine c.fun c.is in
            let steps = leads_reach w a.count s a.to t.done a.leads in
            ok.runs (called_by c.fun r is c.to t) (tac_at g c.fun) u s a.to a.count all a.ge
            steps
            (record {
              at = record {
                visited = visit.called c.fun c.vs c.to address h.at.visited c.means e;
                point = a.point;
                kinded = c.kinded;
                callers = (
                  record { kinded = h.at.kinded; takes = c.takes; older = c.older; keeps = c.keeps },
                  h.at.callers,
                );
                addresses = words_on w a.count (moment s t.done) (moment a.to t.done) steps h.at.addresses;
              };
              is_function = c.is;
              fine_code = known;
              callers = (h.is_function, fine_rest g r.fun false i is h.fine_code falls plain, h.callers);
            })
            (λ n q. most_turn n m a.count (g.dear r.fun i) (g.setup c.fun) (dear_of g c.fun (tac_at g c.fun))
            (dear_of g r.fun is) q a.le known.cheap)
        by None e a =
            let cheap = (fine c.fun c.is).cheap in
            ok.sinks (called_by c.fun r is c.to t) c.fun t s (g.dear r.fun i + g.setup c.fun) all
            (stops_by g reports w bytes run (g.dear r.fun i + g.setup c.fun) s t.done
            (ending.Stack (name_of (slice_get g.setting.code.funs c.fun))) a.0 a.2 a.1)
            (λ n q. sinks_turn n m (g.dear r.fun i) (g.setup c.fun) (dear_of g r.fun is) q (omega arith))

    -- ---- returns

    returns : (t : State Store) (s : Machine) → Stands r false (i ∷ is) t s → (c : Caller) (cs : List Caller)
        → r.callers ≡ c ∷ cs → (v : Value) → Means_so t (Back v) t
        → AreOfKinds (kinds_at g c.fun) (with_result c.vars c.to v)
        → Comes g reports w bytes run 1 (g.dear r.fun i + g.setup c.fun) s t.done
        (record { fun = c.fun; callers = cs }) c.rest (back_in g r.fun c v t)
        → Follows m all (effect (ops_of g) w g.program (kinds_at g r.fun) i t (follow_of again is r))
        (moment s t.done)
    returns t s h c cs e v means kinded a =
        let u = back_in g r.fun c v t in
        let caller : Running = record { fun = c.fun; callers = cs } in
        let callers = subst CallersFine e h.callers in
        let there = subst (λ y. Visited g w (record { fun = r.fun; callers = y }) false (i ∷ is) t) e h.at.visited in
        by_means t t (Back v) (follow_of again is r) s means
        (subst (λ y. Follows m all (back (ops_of g) w g.setting.code g.program (locals_of g) again v r.fun y t)
        (moment s t.done)) (sym e)
        (ok.runs caller c.rest u s a.to a.count all a.ge a.steps
        (record {
          at = record {
            visited = visit.returned v there means;
            point = a.point;
            kinded = kinded;
            callers = (subst (CallersKept g w r.fun t.first) e h.at.callers).1;
            addresses = words_on w a.count (moment s t.done) (moment a.to t.done) a.steps h.at.addresses;
          };
          is_function = callers.0;
          fine_code = callers.1;
          callers = callers.2;
        })
        (λ n q. most_turn n m a.count (g.dear r.fun i) (g.setup c.fun) (dear_of g c.fun c.rest) (dear_of g r.fun is) q
        a.le callers.1.cheap)))

    ends_run : (t : State Store) (s : Machine) → r.callers ≡ [] → (v : Value) → Means_so t (Back v) t
        → Stops g reports w bytes run (last_acts + g.dear r.fun i) s t.done (ending.Exit (number_of v % 256)) t.done
        → Follows m all (effect (ops_of g) w g.program (kinds_at g r.fun) i t (follow_of again is r))
        (moment s t.done)
    ends_run t s e v means a =
        by_means t t (Back v) (follow_of again is r) s means
        (subst (λ y. Follows m all (back (ops_of g) w g.setting.code g.program (locals_of g) again v r.fun y t)
        (moment s t.done)) (sym e)
        (finished m all (last_acts + g.dear r.fun i) (ending.Exit (number_of v % 256)) t.done s t.done a refl
        (omega arith)))

    -- ---- endings

    over_by : (t : State Store) (s : Machine) (k : Next → State Store → Fate) (e : Ending) (d : Done)
        → course_by d e ≡ Finished d e
        → ((c : Next → State Store → Fate) → effect (ops_of g) w g.program (kinds_at g r.fun) i t c
        ≡ record { done = d; ending = e })
        → Stops g reports w bytes run (g.dear r.fun i) s t.done e d
        → Follows m all (effect (ops_of g) w g.program (kinds_at g r.fun) i t k) (moment s t.done)
    over_by t s k e d is means a =
        subst (λ y. Follows m all y (moment s t.done)) (sym (means k))
        (finished m all (g.dear r.fun i) e d s t.done a is (omega arith))

    outside_by : (t : State Store) (s : Machine) (k : Next → State Store → Fate) (pos : _)
        → ((c : Next → State Store → Fate) → effect (ops_of g) w g.program (kinds_at g r.fun) i t c
        ≡ record { done = t.done; ending = ending.Outside pos })
        → Follows m all (effect (ops_of g) w g.program (kinds_at g r.fun) i t k) (moment s t.done)
    outside_by t s k pos means =
        subst (λ y. Follows m all y (moment s t.done)) (sym (means k))
        (0, omega arith, moment s t.done, refl, refl)

    -- ---- one instruction

    on_stands : (b : Bool) (t u : State Store) (s to : Machine) → Stands r b (i ∷ is) t s → Means_so t On u
        → AreOfKinds (kinds_at g r.fun) u.vars
        → IsAtPoint g.setting g.code (at_place.behind r is) (g.word r.fun is) u to → ends_there i ≡ false
        → is_turn i ≡ false → AreWords w (moment to u.done) → Stands r false is u to
    on_stands b t u s to h means kinded there falls plain addresses = record {
      at = record {
        visited = visit.on h.at.visited means;
        point = there;
        kinded = kinded;
        callers = subst (λ k. CallersKept g w r.fun k r.callers) (sym (first_stays g w r.fun i t u On means))
            h.at.callers;
        addresses = addresses;
      };
      is_function = h.is_function;
      fine_code = fine_rest g r.fun b i is h.fine_code falls plain;
      callers = h.callers;
    }

    run_plain : PassOk m again r is → (t : State Store) (s : Machine) → Stands r false (i ∷ is) t s
        → Did g reports w bytes run r false i is t s
        → Follows m all (effect (ops_of g) w g.program (kinds_at g r.fun) i t (follow_of again is r))
        (moment s t.done)
    run_plain rest t s h (Onward u means kinded c quiet falls plain) =
        let le = c.le in
        by_means t u On (follow_of again is r) s means
        (stretch m m (last_acts + dear_of g r.fun is + m * most) all c.count (pass_of again is Runs r u)
        (moment s t.done) (moment c.to u.done) (omega arith) (omega arith) c.steps
        (rest.runs false u c.to (on_stands false t u s c.to h means kinded c.point falls plain
        (words_on w c.count (moment s t.done) (moment c.to u.done) c.steps h.at.addresses))))
    run_plain rest t s h (Jumps l means has c) =
        let le = c.le in
        by_means t t (To l) (follow_of again is r) s means
        (stretch m m (last_acts + dear_of g r.fun is + m * most) all c.count (pass_of again is (Seeks l) r t)
        (moment s t.done)
        (moment c.to t.done) (omega arith) (omega arith) c.steps
        (rest.seeks l t c.to (record {
          at = record {
            visited = visit.ahead l h.at.visited means;
            point = c.point;
            kinded = h.at.kinded;
            callers = h.at.callers;
            addresses = words_on w c.count (moment s t.done) (moment c.to t.done) c.steps h.at.addresses;
          };
          is_function = h.is_function;
          fine_code = fine_there g r.fun l (is_turn i) is
              (fine_tail g r.fun false i is h.fine_code (ends_some i is l has h.fine_code.ends)) has;
          callers = h.callers;
        }) has))
    run_plain rest t s h (Pauses turn plain there) =
        paused i turn h there
      where
        paused : (j : TacInstr) → j ≡ instr.Turn → Stands r false (j ∷ is) t s
            → here g w r (j ∷ is) ≡ here g w r is
            → Follows m (last_acts + dear_of g r.fun (j ∷ is) + m * most)
            (effect (ops_of g) w g.program (kinds_at g r.fun) j t (follow_of again is r)) (moment s t.done)
        paused j e h' there' =
            let h'' = subst (λ v. Stands r false (v ∷ is) t s) e h' in
            let there'' = subst (λ v. here g w r (v ∷ is) ≡ here g w r is) e there' in
            subst (λ v. Follows m (last_acts + dear_of g r.fun (v ∷ is) + m * most)
            (effect (ops_of g) w g.program (kinds_at g r.fun) v t (follow_of again is r)) (moment s t.done)) (sym e)
            (stretch m m (last_acts + dear_of g r.fun is + m * most)
            (last_acts + dear_of g r.fun (instr.Turn ∷ is) + m * most) 0
            (pass_of again is Turned r t) (moment s t.done) (moment s t.done) (omega arith) (omega arith) refl
            (rest.runs true t s (record {
              at = record {
                visited = visit.paused h''.at.visited (λ k. refl);
                kinded = h''.at.kinded;
                callers = h''.at.callers;
                addresses = h''.at.addresses;
                point = record {
                  fits = h''.at.point.fits;
                  counter = h''.at.point.counter
                      ∙ ap (Rattle.select_runs.specs.Acts.counter_at
                      (Rattle.select_runs.specs.Operands.ground_of g.setting g.code)) there'';
                };
              };
              is_function = h''.is_function;
              fine_code = fine_tail g r.fun false instr.Turn is h''.fine_code
                  (ends_rest instr.Turn is refl h''.fine_code.ends);
              callers = h''.callers;
            })))
    run_plain rest t s h (Enters b c falls plain) = calls t s h c falls plain
    run_plain rest t s h (Returns b c cs e v means kinded a) = returns t s h c cs e v means kinded a
    run_plain rest t s h (Leaves b e v means a) = ends_run t s e v means a
    run_plain rest t s h (Over e d final means a) = over_by t s (follow_of again is r) e d final means a
    run_plain rest t s h (Outside pos means) = outside_by t s (follow_of again is r) pos means

    -- what was done with the outside is the same
    same_start : (u t : State Store) (x : Fate) (s : Machine) → u.done ≡ t.done → Follows m all x (moment s u.done)
        → Follows m all x (moment s t.done)
    same_start u t x s e h = subst (λ d. Follows m all x (moment s d)) e h

    -- behind a Turn
    run_turned : (t : State Store) (s : Machine) → Stands r true (i ∷ is) t s
        → Did g reports w bytes run r true i is t s
        → Follows m all (effect (ops_of g) w g.program (kinds_at g r.fun) i t (turned_of again is r))
        (moment s t.done)
    run_turned t s h (Onward u means kinded c quiet falls plain) =
        let same = quiet refl in
        let there = on_stands true t u s c.to h means kinded c.point falls plain
        (words_on w c.count (moment s t.done) (moment c.to u.done) c.steps h.at.addresses) in
        by_means t u On (turned_of again is r) s means
        (same_start u t (again is Runs r u) s same
        (ok.runs r is u s c.to c.count all c.ge
        (subst (λ d. Reaches limits act w c.count (moment s d) (moment c.to u.done)) (sym same) c.steps) there
        (λ n q. let cheap = there.fine_code.cheap in let le = c.le in
        most_turn n m c.count (g.dear r.fun i) 0 (dear_of g r.fun is) (dear_of g r.fun is) q (omega arith)
        (omega arith))))
    run_turned t s h (Jumps l means has c) =
        let known = fine r.fun h.is_function in
        by_means t t (To l) (turned_of again is r) s means
        (ok.seeks r l t s c.to c.count all c.ge c.steps
        (record {
          at = record {
            visited = visit.again l h.at.visited means;
            point = c.point;
            kinded = h.at.kinded;
            callers = h.at.callers;
            addresses = words_on w c.count (moment s t.done) (moment c.to t.done) c.steps h.at.addresses;
          };
          is_function = h.is_function;
          fine_code = fine_there g r.fun l false (tac_at g r.fun) known has;
          callers = h.callers;
        }) has
        (λ n q. let le = c.le in
        most_turn n m c.count (g.dear r.fun i) 0 most (dear_of g r.fun is) q (omega arith) (omega arith)))
    run_turned t s h (Pauses turn plain there) = absurd (let e : true ≡ false = plain in cc)
    run_turned t s h (Enters b c falls plain) = absurd (let e : true ≡ false = b in cc)
    run_turned t s h (Returns b c cs e v means kinded a) = absurd (let e : true ≡ false = b in cc)
    run_turned t s h (Leaves b e v means a) = absurd (let e : true ≡ false = b in cc)
    run_turned t s h (Over e d final means a) = over_by t s (turned_of again is r) e d final means a
    run_turned t s h (Outside pos means) = outside_by t s (turned_of again is r) pos means

    run_by : PassOk m again r is → (b : Bool) (t : State Store) (s : Machine) → Stands r b (i ∷ is) t s
        → Follows m all (pass_of again (i ∷ is) (mode_of b) r t) (moment s t.done)
    run_by rest false t s h =
        run_plain rest t s h
        (does g reports w bytes run false i is r t s h.at
        (and_parts (turn_fits false i is) (turns_fit (is_turn i) is) h.fine_code.turned).0)
    run_by rest true t s h =
        run_turned t s h
        (does g reports w bytes run true i is r t s h.at
        (and_parts (turn_fits true i is) (turns_fit (is_turn i) is) h.fine_code.turned).0)

    -- a label is looked for
    seek_by : PassOk m again r is → (l : ℕ) (t : State Store) (s : Machine) (found : Bool) → is_label i l ≡ found
        → Stands r false (if found then is else behind l is) t s → (found || has_label is l) ≡ true
        → Follows m all (pass_of again is (seek found l) r t) (moment s t.done)
    seek_by rest l t s true e h has =
        stretch m m (last_acts + dear_of g r.fun is + m * most) all 0 (pass_of again is Runs r t) (moment s t.done)
        (moment s t.done) (omega arith) (omega arith) refl (rest.runs false t s h)
    seek_by rest l t s false e h has =
        stretch m m (last_acts + dear_of g r.fun is + m * most) all 0 (pass_of again is (Seeks l) r t) (moment s t.done)
        (moment s t.done) (omega arith) (omega arith) refl (rest.seeks l t s h has)

  module _ (m : ℕ) (again : Again) (ok : AgainOk m again) (r : Running) where
    pass_ok : (is : List TacInstr) → PassOk m again r is
    pass_ok [] = record {
      runs = λ b t s h. let e : false ≡ true = h.fine_code.ends in cc;
      seeks = λ l t s h has. let e : false ≡ true = has in cc;
    }
    pass_ok (i ∷ is) = record {
      runs = λ b t s h. run_by m again ok r i is (pass_ok is) b t s h;
      seeks = λ l t s h has. seek_by m again ok r i is (pass_ok is) l t s (is_label i l) refl h has;
    }

  -- ---- turns

  abbrev turn_of : ℕ → Again
  turn_of m = behind_turn (ops_of g) w g.setting.code g.program (locals_of g) m

  -- the last way through, behind which no turn is left
  again_none : AgainOk 0 (turn_of 0)
  again_none = record {
    runs = λ r is t s u j e one steps h b. (0, omega arith, omega arith, moment s t.done, refl, refl);
    seeks = λ r l t s u j e one steps h has b. (0, omega arith, omega arith, moment s t.done, refl, refl);
    sinks = λ r f t s hi e a le. (0, omega arith, omega arith, moment s t.done, refl, refl);
  }

  again_more : (m : ℕ) → AgainOk m (turn_of m) → AgainOk (suc m) (turn_of (suc m))
  again_more m ok = record {
    runs = λ r is t s u j e one steps h b.
        stretch m (suc m) (last_acts + dear_of g r.fun is + m * most) e j
        (pass_of (turn_of m) is Runs r (record t { left = m })) (moment s t.done) (moment u t.done) (omega arith)
        (b m refl) steps
        ((pass_ok m (turn_of m) ok r is).runs false (record t { left = m }) u (with_left r false is t u m h));
    seeks = λ r l t s u j e one steps h has b.
        let z = b m refl in
        let cheap = (fine r.fun h.is_function).cheap in
        stretch m (suc m) (last_acts + dear_of g r.fun (tac_at g r.fun) + m * most) e j
        (pass_of (turn_of m) (tac_at g r.fun) (Seeks l) r (record t { left = m })) (moment s t.done)
        (moment u t.done) (omega arith) (omega arith) steps
        ((pass_ok m (turn_of m) ok r (tac_at g r.fun)).seeks l (record t { left = m }) u
        (with_left r false (behind l (tac_at g r.fun)) t u m h) has);
    sinks = λ r f t s hi e a le.
        finished (suc m) e hi (ending.Stack (name_of (slice_get g.setting.code.funs f))) t.done s t.done a refl
        (le m refl);
  }

  again_ok : (m : ℕ) → AgainOk m (turn_of m)
  again_ok zero = again_none
  again_ok (suc m) = again_more m (again_ok m)

  pub turns_ok : (m : ℕ) (r : Running) (is : List TacInstr) (t : State Store) (s : Machine) → Stands r false is t s
      → Follows m (last_acts + dear_of g r.fun is + m * most)
      (turns (ops_of g) w g.setting.code g.program (locals_of g) m is Runs r t) (moment s t.done)
  turns_ok m r is t s h = (pass_ok m (turn_of m) (again_ok m) r is).runs false t s h
