-- What each instruction does at a place: one of few moves, in the meaning and on the machine.
use Rattle.std.proofs.Common.{◌≡◌, ℕ, zero, suc, ◌+◌, ◌*◌, ◌%◌, ◌<◌, ◌≤◌, Bool, true, false, List, [], ◌∷◌, length}
use Rattle.std.proofs.Common.{Option, Some, None, refl, sym, ap, ◌∙◌, subst, arith, if◌then◌else◌}
use Rattle.std.specs.Prelude.{slice_get}
use Rattle.ck_base.specs.Runs.{with_put, with_read}
use Rattle.ck_base.specs.World.{World, Done, GivesBytes, fails_after}
use Rattle.ck_base.specs.declared.positions.Pos.{Pos}
use Rattle.cap_machine.specs.declared.end.End.{End}
use Rattle.cap_machine.specs.declared.end.End.TheVariants as end
use Rattle.cap_machine.specs.declared.machine.Machine.{Machine}
use Rattle.cap_machine.specs.State.{counter}
use Rattle.cap_machine.specs.Step.{act, limits}
use Rattle.rv_instr.specs.declared.instr.Instr.{Instr}
use Rattle.obj_mem.specs.Values.{Value, Int}
use Rattle.obj_mem.specs.declared.ending.Ending.{Ending}
use Rattle.obj_mem.specs.declared.ending.Ending.TheVariants as ending
use Rattle.cheri_c_sem.specs.Modes.{Store}
use Rattle.cheri_c_sem.specs.Kinds.{number_of}
use Rattle.cheri_c_sem.specs.Steps.{State, Fate, choose, ends, byte_or_end}
use Rattle.mean_steps.specs.Parts.{Came, Over as Ends_it, On as Gives}
use Rattle.mean_steps.proofs.Alike.{now_of, follow as followed}
use Rattle.tac_steps.proofs.Kept.{IsInside, kept_effect}
use Rattle.tac_steps.specs.Machine as steps
use Rattle.tac_ir.specs.Costs.{cost}
use Rattle.tac_ir.specs.Effects.{Next, On, To, Back, effect, set_optional}
use Rattle.tac_ir.specs.Meaning.{Caller, Running, with_result}
use Rattle.tac_ir.specs.Temps.{behind}
use Rattle.tac_ir.specs.WellFormed.{has_label, is_turn, ends_there, turn_fits}
use Rattle.tac_ir.specs.declared.code.LibOp.TheVariants as lib
use Rattle.tac_ir.specs.declared.code.TacInstr.{TacInstr}
use Rattle.tac_ir.specs.declared.code.TacInstr.TheVariants as instr
use Rattle.tracked_runs.specs.Matching.{IsReport, course_by}
use Rattle.tracked_runs.specs.Tracking.{Moment, Stepped, Next as Steps_to, Ended, moment, stepped, step, Reaches}
use Rattle.tracked_runs.specs.Tracking.{Finished}
use Rattle.tracked_runs.proofs.Follow.{join}
use Rattle.select_runs.specs.Accesses as access
use Rattle.select_runs.specs.Copying as copying
use Rattle.select_words.specs.Services.{putting, taking, leaving}
use Rattle.select_runs.specs.Acts.{Leads, place, counter_at}
use Rattle.select_runs.specs.Accesses.{Accesses, TrapsWithin}
use Rattle.select_runs.specs.Calling.{HasWords}
use Rattle.select_runs.specs.Copying.{StructCopied, copy_cost}
use Rattle.select_runs.specs.Jumps.{Branches, Taken, Passed}
use Rattle.select_runs.specs.Kinds.{AreOfKinds}
use Rattle.select_runs.specs.Operands.{ground_of, IsAtPoint}
use Rattle.select_runs.specs.Results.{Arrives, GoesOnWithin}
use Rattle.select_runs.specs.Results as at_place
use Rattle.select_runs.specs.Services.{IsByteOrEnd, served}
use Rattle.select_runs.proofs.Acts.{counter_place}
use Rattle.select_whole.specs.Visited.{Whole, Means, ops_of, kinds_at, back_in}
use Rattle.select_whole.specs.Runs.{here, Here, Accessed, Copied, Called, Calls, ValueCalled, StopsBy, InstructionsRun}
use Rattle.select_whole.specs.Runs.{AreWords, Put, Exited, searched, Reports_at, last_acts}
use Rattle.select_whole.specs.Runs as runs

-- a word in its text
place_apart : (start a b : ℕ) → start + 4 * a ≡ start + 4 * b → a ≡ b
place_apart start a b e = omega (arith, e)

-- ---- steps in a world

module _ (w : World) where
  pub leads_reach : (j : ℕ) (m n : Machine) (d : Done) → Leads j m n
      → Reaches limits act w j (moment m d) (moment n d)
  leads_reach zero m n d e = ap (λ x. moment x d) e
  leads_reach (suc j) m n d (u, e, q) = (
    moment u d,
    ap (stepped limits w d) e,
    leads_reach j u n d q,
  )

  -- addresses have 64 bits further on
  pub words_on : (j : ℕ) (s t : Moment Machine) → Reaches limits act w j s t → AreWords w s → AreWords w t
  words_on j s t steps words k n more = words (j + k) n (join limits act w j k s t n steps more)

  pub has_words : (m : Machine) (d : Done) → AreWords w (moment m d) → HasWords m
  has_words m d words k n leads = words k (moment n d) (leads_reach k m n d leads)

module _ (g : Whole) (reports : IsReport g.report) (w : World) (bytes : GivesBytes w) (run : InstructionsRun g w) where
  -- so many acts lead to a machine that stands for a state at a place
  pub record Comes (lo hi : ℕ) (m : Machine) (d : Done) (r : Running) (is : List TacInstr) (u : State Store) :
      Type 0 where
    pub count : ℕ
    pub to : Machine
    pub ge : lo ≤ count
    pub le : count ≤ hi
    pub steps : Reaches limits act w count (moment m d) (moment to u.done)
    pub point : IsAtPoint g.setting g.code (at_place.behind r is) (g.word r.fun is) u to

  -- fewer lead to an ending that reports this
  pub record Stops (hi : ℕ) (m : Machine) (d : Done) (e : Ending) (d' : Done) : Type 0 where
    pub count : ℕ
    pub to : Moment Machine
    pub end : End
    pub lt : count < hi
    pub steps : Reaches limits act w count (moment m d) to
    pub ended : step limits act w to ≡ Ended end
    pub reports_it : g.report end ≡ Some e
    pub done_is : to.done ≡ d'

  pub comes_by : (lo hi hi' at : ℕ) (m : Machine) (d : Done) (r : Running) (is : List TacInstr) (u : State Store)
      → u.done ≡ d → hi ≤ hi' → at ≡ g.word r.fun is
      → Arrives g.setting g.code (at_place.behind r is) lo hi at u m → Comes lo hi' m d r is u
  comes_by lo hi hi' at m d r is u same more there a =
      let le = a.le in
      record {
        count = a.count;
        to = a.to;
        ge = a.ge;
        le = omega arith;
        steps = subst (λ x. Reaches limits act w a.count (moment m d) (moment a.to x)) (sym same)
            (leads_reach w a.count m a.to d a.leads);
        point = subst (λ k. IsAtPoint g.setting g.code (at_place.behind r is) k u a.to) there a.point;
      }

  pub stops_by : (hi : ℕ) (m : Machine) (d : Done) (e : Ending) (x : End) → g.report x ≡ Some e → StopsBy g w hi m x
      → Stops hi m d e d
  stops_by hi m d e x is s = record {
    count = s.count;
    to = moment s.to d;
    end = x;
    lt = s.lt;
    steps = leads_reach w s.count m s.to d s.leads;
    ended = ap (stepped limits w d) s.ends;
    reports_it = is;
    done_is = refl;
  }

  -- ---- what was done with the outside

  came_done : (x : Came Store Next) (d : Done)
      → (followed x d (λ n u. record { done = u.done; ending = ending.Turns })).done ≡ d
  came_done (Gives n u) d = refl
  came_done (Ends_it e) d = refl

  quiet : (fun : ℕ) (i : TacInstr) (t u : State Store) (next : Next) → IsInside (ops_of g) w i
      → Means g w fun i t next u → u.done ≡ t.done
  quiet fun i t u next inside means =
      let k : Next → State Store → Fate = λ n v. record { done = v.done; ending = ending.Turns } in
      let x = steps.effect (ops_of g) g.program (kinds_at g fun) i (now_of t) in
      ap (λ (f : Fate). f.done) (sym (means k))
      ∙ ap (λ (f : Fate). f.done) ((kept_effect (ops_of g) w g.program (kinds_at g fun) i inside).alike.at (now_of t)
      t.done k)
      ∙ came_done x t.done

  -- ---- moves

  abbrev pub least : Bool → ℕ
  least true = 1
  least false = 0

  pub data Did (r : Running) (b : Bool) (i : TacInstr) (rest : List TacInstr) (t : State Store) (m : Machine) :
      Type 0 where
    Onward : (u : State Store) → Means g w r.fun i t On u → AreOfKinds (kinds_at g r.fun) u.vars →
        Comes (least b) (g.dear r.fun i) m t.done r rest u
        → (b ≡ true → u.done ≡ t.done) → ends_there i ≡ false → is_turn i ≡ false → Did r b i rest t m
    Jumps : (l : ℕ) → Means g w r.fun i t (To l) t → has_label (searched g w r.fun b rest) l ≡ true
        → Comes 1 (g.dear r.fun i) m t.done r (behind l (searched g w r.fun b rest)) t → Did r b i rest t m
    Pauses : i ≡ instr.Turn → b ≡ false → here g w r (i ∷ rest) ≡ here g w r rest → Did r b i rest t m
    Enters : b ≡ false → Called g w r i rest t m → ends_there i ≡ false → is_turn i ≡ false → Did r b i rest t m
    Returns : b ≡ false → (c : Caller) (cs : List Caller) → r.callers ≡ c ∷ cs → (v : Value)
        → Means g w r.fun i t (Back v) t → AreOfKinds (kinds_at g c.fun) (with_result c.vars c.to v)
        → Comes 1 (g.dear r.fun i + g.setup c.fun) m t.done (record { fun = c.fun; callers = cs }) c.rest
        (back_in g r.fun c v t)
        → Did r b i rest t m
    Leaves : b ≡ false → r.callers ≡ [] → (v : Value) → Means g w r.fun i t (Back v) t
        → Stops (last_acts + g.dear r.fun i) m t.done (ending.Exit (number_of v % 256)) t.done
        → Did r b i rest t m
    Over : (e : Ending) (d : Done) → course_by d e ≡ Finished d e
        → ((k : Next → State Store → Fate) → effect (ops_of g) w g.program (kinds_at g r.fun) i t k
        ≡ record { done = d; ending = e })
        → Stops (g.dear r.fun i) m t.done e d → Did r b i rest t m
    Outside : (pos : Pos)
        → ((k : Next → State Store → Fate) → effect (ops_of g) w g.program (kinds_at g r.fun) i t k
        ≡ record { done = t.done; ending = ending.Outside pos })
        → Did r b i rest t m

  -- ---- instructions that go on

  goes_within : (r : Running) (i : TacInstr) (rest : List TacInstr) (t : State Store) (m : Machine) (most : ℕ)
      → most ≤ g.dear r.fun i → IsInside (ops_of g) w i → ends_there i ≡ false → is_turn i ≡ false
      → (words : List Instr) → here g w r (i ∷ rest) + length words ≡ here g w r rest
      → GoesOnWithin most g.setting g.code w g.program r i rest words (here g w r (i ∷ rest)) t m
      → Did r false i rest t m
  goes_within r i rest t m most less inside falls plain words there d =
      Onward d.next d.means d.kinded
      (comes_by 0 most (g.dear r.fun i) (here g w r (i ∷ rest) + length words) m t.done r rest d.next
      (quiet r.fun i t d.next On inside d.means) less there d.does)
      (λ e. absurd cc) falls plain

  from_goes : (r : Running) (i : TacInstr) (rest : List TacInstr) (t : State Store) (m : Machine)
      → IsInside (ops_of g) w i → ends_there i ≡ false → is_turn i ≡ false → runs.Goes g w r i rest t m
      → Did r false i rest t m
  from_goes r i rest t m inside falls plain x =
      goes_within r i rest t m (g.dear r.fun i) (omega arith) inside falls plain x.words x.then_on.next x.does

  -- ---- instructions that may trap

  from_trap : (r : Running) (i : TacInstr) (rest : List TacInstr) (t : State Store) (m : Machine) (most : ℕ)
      (source : Pos) (word : ℕ) → most ≤ g.dear r.fun i → Reports_at g w word source
      → TrapsWithin most g.setting g.code w g.program r i source word t m → Did r false i rest t m
  from_trap r i rest t m most source word less says x =
      let lt = x.lt in
      Over (ending.Trap x.cause source) t.done refl x.means (record {
        count = x.count;
        to = moment x.to t.done;
        end = end.Trap x.cause (place (ground_of g.setting g.code) word);
        lt = omega arith;
        steps = leads_reach w x.count m x.to t.done x.leads;
        ended = ap (stepped limits w t.done) x.ends;
        reports_it = says x.cause;
        done_is = refl;
      })

  from_access : (r : Running) (i : TacInstr) (rest : List TacInstr) (t : State Store) (m : Machine)
      → IsInside (ops_of g) w i → ends_there i ≡ false → is_turn i ≡ false → Accessed g w r i rest t m
      → Did r false i rest t m
  from_access r i rest t m inside falls plain x = by x.does
    where
      by : Accesses g.setting g.code w g.program r i rest x.words x.source x.word (here g w r (i ∷ rest)) t m
          → Did r false i rest t m
      by (access.Goes d) =
          goes_within r i rest t m (cost i) x.dear inside falls plain x.words x.then_on.next d
      by (access.Stops z) = from_trap r i rest t m (cost i) x.source x.word x.dear x.reports z
      by (access.Leaves means) = Outside x.source means

  from_copy : (r : Running) (i : TacInstr) (rest : List TacInstr) (t : State Store) (m : Machine)
      → IsInside (ops_of g) w i → ends_there i ≡ false → is_turn i ≡ false → Copied g w r i rest t m
      → Did r false i rest t m
  from_copy r i rest t m inside falls plain x = by x.does
    where
      by : StructCopied g.setting g.code w g.program r i rest x.words x.from_pos x.to_pos x.word
          (here g w r (i ∷ rest)) t m → Did r false i rest t m
      by (copying.Goes d) =
          goes_within r i rest t m (copy_cost i) x.dear inside falls plain x.words x.then_on.next d
      by (copying.StopsReading z) =
          from_trap r i rest t m (copy_cost i) x.from_pos x.word x.dear (x.reports_reading z) z
      by (copying.StopsWriting z) =
          from_trap r i rest t m (copy_cost i) x.to_pos (x.word + 1) x.dear (x.reports_writing z) z
      by (copying.Leaves source means) = Outside source means

  -- ---- jumps and branches

  from_jump : (b : Bool) (l : ℕ) (r : Running) (rest : List TacInstr) (t : State Store) (m : Machine)
      → runs.Jumped g w b l r rest t m → Did r b (instr.Jump l) rest t m
  from_jump b l r rest t m x =
      let to = behind l (searched g w r.fun b rest) in
      Jumps l x.does.means x.has
      (comes_by 1 (cost (instr.Jump l)) (g.dear r.fun (instr.Jump l)) (here g w r to) m t.done r to t refl x.dear refl
      x.does.does)

  -- some act leads to another word
  some_acts : (n : ℕ) (m to : Machine) (at next : ℕ) → at < next
      → m.pc ≡ counter_at (ground_of g.setting g.code) at → to.pc ≡ counter_at (ground_of g.setting g.code) next
      → Leads n m to → 0 < n
  some_acts zero m to at next less from there e =
      let ground = ground_of g.setting g.code in
      let same : place ground at ≡ place ground next =
      sym (counter_place ground m at from) ∙ ap counter e ∙ counter_place ground to next there in
      absurd (omega (arith, less, place_apart ground.text at next same))
  some_acts (suc n) m to at next less from there e = omega arith

  least_le : (b : Bool) (n : ℕ) → 0 < n → least b ≤ n
  least_le true n h = omega arith
  least_le false n h = omega arith

  from_branch : (b : Bool) (on : ℕ) (when : Bool) (l : ℕ) (r : Running) (rest : List TacInstr) (t : State Store)
      (m : Machine) → Here g w r b (instr.Branch on when l ∷ rest) t m → runs.Branched g w b on when l r rest t m
      → Did r b (instr.Branch on when l) rest t m
  from_branch b on when l r rest t m h x = by x.does
    where
      by : Branches g.setting g.code w g.program r (instr.Branch on when l) l
          (behind l (searched g w r.fun b rest)) rest
          (here g w r (behind l (searched g w r.fun b rest))) (here g w r rest) t m
          → Did r b (instr.Branch on when l) rest t m
      by (Taken d) =
          let to = behind l (searched g w r.fun b rest) in
          Jumps l d.means x.has
          (comes_by 1 (cost (instr.Branch on when l)) (g.dear r.fun (instr.Branch on when l)) (here g w r to) m t.done r
          to t refl x.dear refl d.does)
      by (Passed means a) =
          let le = a.le in
          let dear = x.dear in
          Onward t means h.kinded (record {
            count = a.count;
            to = a.to;
            ge = least_le b a.count
                (some_acts a.count m a.to (here g w r (instr.Branch on when l ∷ rest)) (here g w r rest) x.further
                h.point.counter a.point.counter a.leads);
            le = omega arith;
            steps = leads_reach w a.count m a.to t.done a.leads;
            point = a.point;
          }) (λ e. refl) refl refl

  -- ---- the outside

  -- a temp gets the answer
  optional_is : (to : Option ℕ) (v : Value) (u : State Store) (k : Next → State Store → Fate)
      → set_optional to v u k ≡ k On (record u { vars = with_result u.vars to v })
  optional_is None v u k = refl
  optional_is (Some temp) v u k = refl

  -- behind an act that speaks with the outside
  comes_behind : (r : Running) (rest : List TacInstr) (m asks after : Machine) (d d' : Done) (count most hi : ℕ)
      (u : State Store) → u.done ≡ d' → count + 1 + most ≤ hi → Leads count m asks
      → step limits act w (moment asks d) ≡ Steps_to (moment after d')
      → (at : ℕ) → at ≡ g.word r.fun rest
      → Arrives g.setting g.code (at_place.behind r rest) 0 most at u after → Comes 0 hi m d r rest u
  comes_behind r rest m asks after d d' count most hi u same few leads goes at there a =
      let le = a.le in
      let last : Reaches limits act w (suc a.count) (moment asks d) (moment a.to d') =
      (moment after d', goes, leads_reach w a.count after a.to d' a.leads) in
      record {
        count = count + suc a.count;
        to = a.to;
        ge = omega arith;
        le = omega arith;
        steps = subst (λ x. Reaches limits act w (count + suc a.count) (moment m d) (moment a.to x)) (sym same)
            (join limits act w count (suc a.count) (moment m d) (moment asks d) (moment a.to d')
            (leads_reach w count m asks d leads) last);
        point = subst (λ k. IsAtPoint g.setting g.code (at_place.behind r rest) k u a.to) there a.point;
      }

  from_put : (to : Option ℕ) (a : ℕ) (r : Running) (rest : List TacInstr) (t : State Store) (m : Machine)
      → Put g w to a r rest t m → Did r false (putting to a) rest t m
  from_put to a r rest t m x = by (fails_after w.failing_put (length t.done.output)) refl
    where
      puts_by : (Next → State Store → Fate) → Bool → Fate
      puts_by k v =
          choose {M = Store} {A = Unit {0}} v (ends ending.WriteFault)
          (λ s c. c tt (record s { done = with_put s.done x.does.byte })) t
          (λ _ u. set_optional to (Int x.does.byte) u k)

      steps_by : Bool → Stepped Machine End
      steps_by v =
          if v then Ended limits.write_fault else Steps_to (moment x.does.after (with_put t.done x.does.byte))

      by : (v : Bool) → fails_after w.failing_put (length t.done.output) ≡ v → Did r false (putting to a) rest t m
      by true e =
          let few = x.does.few in
          let dear = x.dear in
          Over ending.WriteFault t.done refl (λ k. x.does.means k ∙ ap (puts_by k) e) (record {
            count = x.does.count;
            to = moment x.does.asks t.done;
            end = end.WriteFault;
            lt = omega arith;
            steps = leads_reach w x.does.count m x.does.asks t.done x.does.leads;
            ended = ap (stepped limits w t.done) x.does.puts ∙ ap steps_by e;
            reports_it = reports.write_fault;
            done_is = refl;
          })
      by false e =
          let done' = with_put t.done x.does.byte in
          let few = x.does.few in
          let dear = x.dear in
          Onward (served t to done' (Int x.does.byte))
          (λ k. x.does.means k ∙ ap (puts_by k) e
          ∙ optional_is to (Int x.does.byte) (record t { done = done' }) k)
          x.does.kinded
          (comes_behind r rest m x.does.asks x.does.after t.done done' x.does.count x.does.most
          (g.dear r.fun (putting to a)) (served t to done' (Int x.does.byte)) refl (omega arith) x.does.leads
          (ap (stepped limits w t.done) x.does.puts ∙ ap steps_by e)
          (here g w r (putting to a ∷ rest) + length x.words) x.then_on.next (x.does.goes done'))
          (λ z. absurd cc) refl refl

  byte_or : (o : Option ℕ) → ((b : ℕ) → o ≡ Some b → b < 256) → IsByteOrEnd o
  byte_or None h = tt
  byte_or (Some b) h = h b refl

  from_take : (to : Option ℕ) (r : Running) (rest : List TacInstr) (t : State Store) (m : Machine)
      → runs.Taken g w to r rest t m → Did r false (taking to) rest t m
  from_take to r rest t m x = by (fails_after w.failing_read t.done.reads) refl
    where
      takes_by : (Next → State Store → Fate) → Bool → Fate
      takes_by k v =
          choose {M = Store} {A = Option ℕ} v (ends ending.ReadFault)
          (λ s c. c (slice_get w.bytes s.done.reads) (record s { done = with_read s.done })) t
          (λ b u. set_optional to (byte_or_end b) u k)

      steps_by : Bool → Stepped Machine End
      steps_by v =
          if v then Ended limits.read_fault
          else Steps_to (moment (x.does.after (slice_get w.bytes t.done.reads)) (with_read t.done))

      by : (v : Bool) → fails_after w.failing_read t.done.reads ≡ v → Did r false (taking to) rest t m
      by true e =
          let few = x.does.few in
          let dear = x.dear in
          Over ending.ReadFault t.done refl (λ k. x.does.means k ∙ ap (takes_by k) e) (record {
            count = x.does.count;
            to = moment x.does.asks t.done;
            end = end.ReadFault;
            lt = omega arith;
            steps = leads_reach w x.does.count m x.does.asks t.done x.does.leads;
            ended = ap (stepped limits w t.done) x.does.reads ∙ ap steps_by e;
            reports_it = reports.read_fault;
            done_is = refl;
          })
      by false e =
          let done' = with_read t.done in
          let b = slice_get w.bytes t.done.reads in
          let few = x.does.few in
          let dear = x.dear in
          Onward (served t to done' (byte_or_end b))
          (λ k. x.does.means k ∙ ap (takes_by k) e
          ∙ optional_is to (byte_or_end b) (record t { done = done' }) k)
          (x.does.kinded b (byte_or b (bytes t.done.reads)))
          (comes_behind r rest m x.does.asks (x.does.after b) t.done done' x.does.count x.does.most
          (g.dear r.fun (taking to)) (served t to done' (byte_or_end b)) refl (omega arith) x.does.leads
          (ap (stepped limits w t.done) x.does.reads ∙ ap steps_by e)
          (here g w r (taking to ∷ rest) + length x.words) x.then_on.next
          (x.does.goes b done' (byte_or b (bytes t.done.reads))))
          (λ z. absurd cc) refl refl

  from_exit : (a : ℕ) (r : Running) (rest : List TacInstr) (t : State Store) (m : Machine) → Exited g w a r t m
      → Did r false (leaving a) rest t m
  from_exit a r rest t m x =
      let d = x.does in
      let lt = d.lt in
      let dear = x.dear in
      Over (ending.Exit d.byte) t.done refl d.means (record {
        count = d.count;
        to = moment d.asks t.done;
        end = end.Exit d.byte;
        lt = omega arith;
        steps = leads_reach w d.count m d.asks t.done d.leads;
        ended = ap (stepped limits w t.done) d.ends;
        reports_it = reports.exit d.byte;
        done_is = refl;
      })

  -- ---- calls and returns

  from_value_call : (r : Running) (i : TacInstr) (rest : List TacInstr) (t : State Store) (m : Machine)
      → ends_there i ≡ false → is_turn i ≡ false → ValueCalled g w r i rest t m → Did r false i rest t m
  from_value_call r i rest t m falls plain (Calls c) = Enters refl c falls plain
  from_value_call r i rest t m falls plain (runs.Traps c source e means s is) =
      Over (ending.Trap c source) t.done refl means (stops_by (g.dear r.fun i) m t.done (ending.Trap c source) e is s)
  from_value_call r i rest t m falls plain (runs.Leaves source means) = Outside source means

  from_return : (r : Running) (v : Option ℕ) (rest : List TacInstr) (t : State Store) (m : Machine)
      → Here g w r false (instr.Return v ∷ rest) t m → Did r false (instr.Return v) rest t m
  from_return r v rest t m h = by r.callers refl
    where
      by : (cs : List Caller) → r.callers ≡ cs → Did r false (instr.Return v) rest t m
      by [] e =
          let x = run.last_returns r.fun v rest t m
          (subst (λ y. Here g w (record { fun = r.fun; callers = y }) false (instr.Return v ∷ rest) t m) e h) in
          Leaves refl e x.value x.means
          (stops_by (last_acts + g.dear r.fun (instr.Return v)) m t.done (ending.Exit (number_of x.value % 256))
          (end.Exit (number_of x.value % 256)) (reports.exit (number_of x.value % 256)) x.does)
      by (c ∷ cs) e =
          let x = run.returns r.fun c cs v rest t m
          (subst (λ y. Here g w (record { fun = r.fun; callers = y }) false (instr.Return v ∷ rest) t m) e h) in
          Returns refl c cs e x.value x.means x.kinded
          (comes_by 1 (g.dear r.fun (instr.Return v) + g.setup c.fun) (g.dear r.fun (instr.Return v) + g.setup c.fun)
          (g.word c.fun c.rest) m t.done (record { fun = c.fun; callers = cs }) c.rest (back_in g r.fun c x.value t)
          refl (omega arith) refl x.does)

  -- ---- all of them

  pub does : (b : Bool) (i : TacInstr) (rest : List TacInstr) (r : Running) (t : State Store) (m : Machine)
      → Here g w r b (i ∷ rest) t m → turn_fits b i rest ≡ true → Did r b i rest t m
  does b (instr.Jump l) rest r t m h turned = from_jump b l r rest t m (run.jumps b l r rest t m h)
  does b (instr.Branch on when l) rest r t m h turned =
      from_branch b on when l r rest t m h (run.branches b on when l r rest t m h)
  does false (instr.Const to k v) rest r t m h turned =
      from_goes r (instr.Const to k v) rest t m tt refl refl (run.constants r (instr.Const to k v) rest t m tt h)
  does false (instr.Copy to from) rest r t m h turned =
      from_goes r (instr.Copy to from) rest t m tt refl refl (run.copies r (instr.Copy to from) rest t m tt h)
  does false (instr.Int op k to x y) rest r t m h turned =
      from_goes r (instr.Int op k to x y) rest t m tt refl refl
      (run.operations r (instr.Int op k to x y) rest t m tt h)
  does false (instr.Cmp op k to x y) rest r t m h turned =
      from_goes r (instr.Cmp op k to x y) rest t m tt refl refl
      (run.comparisons r (instr.Cmp op k to x y) rest t m tt h)
  does false (instr.Convert to from old new) rest r t m h turned =
      from_goes r (instr.Convert to from old new) rest t m tt refl refl
      (run.conversions r (instr.Convert to from old new) rest t m tt h)
  does false (instr.Cap op to x y) rest r t m h turned =
      from_goes r (instr.Cap op to x y) rest t m tt refl refl
      (run.intrinsics r (instr.Cap op to x y) rest t m tt h)
  does false (instr.Offset to base by) rest r t m h turned =
      from_goes r (instr.Offset to base by) rest t m tt refl refl
      (run.offsets r (instr.Offset to base by) rest t m tt h)
  does false (instr.Narrow to base long exact) rest r t m h turned =
      from_goes r (instr.Narrow to base long exact) rest t m tt refl refl
      (run.narrows r (instr.Narrow to base long exact) rest t m tt h)
  does false (instr.Load to from k pos) rest r t m h turned =
      from_access r (instr.Load to from k pos) rest t m tt refl refl
      (run.accesses r (instr.Load to from k pos) rest t m tt h)
  does false (instr.Store at v k pos) rest r t m h turned =
      from_access r (instr.Store at v k pos) rest t m tt refl refl
      (run.accesses r (instr.Store at v k pos) rest t m tt h)
  does false (instr.Local to var) rest r t m h turned =
      from_goes r (instr.Local to var) rest t m tt refl refl (run.pointers r (instr.Local to var) rest t m tt h)
  does false (instr.Global to number literal) rest r t m h turned =
      from_goes r (instr.Global to number literal) rest t m tt refl refl
      (run.pointers r (instr.Global to number literal) rest t m tt h)
  does false (instr.Function to fun) rest r t m h turned =
      from_goes r (instr.Function to fun) rest t m tt refl refl
      (run.pointers r (instr.Function to fun) rest t m tt h)
  does false (instr.Zero var) rest r t m h turned =
      from_goes r (instr.Zero var) rest t m tt refl refl (run.zeroes r (instr.Zero var) rest t m tt h)
  does false (instr.CopyUnits from to bytes unit from_pos to_pos) rest r t m h turned =
      from_copy r (instr.CopyUnits from to bytes unit from_pos to_pos) rest t m tt refl refl
      (run.struct_copies r (instr.CopyUnits from to bytes unit from_pos to_pos) rest t m tt h)
  does false (instr.Label l) rest r t m h turned =
      from_goes r (instr.Label l) rest t m tt refl refl (run.labels r (instr.Label l) rest t m tt h)
  does false (instr.Call to fun args) rest r t m h turned =
      Enters refl (run.calls r (instr.Call to fun args) rest t m tt h) refl refl
  does false (instr.CallValue to v of args pos) rest r t m h turned =
      from_value_call r (instr.CallValue to v of args pos) rest t m refl refl
      (run.value_calls r (instr.CallValue to v of args pos) rest t m tt h)
  does false (instr.Lib lib.Malloc to (a ∷ [])) rest r t m h turned =
      from_goes r (instr.Lib lib.Malloc to (a ∷ [])) rest t m tt refl refl
      (run.allocations r (instr.Lib lib.Malloc to (a ∷ [])) rest t m tt h)
  does false (instr.Lib lib.Malloc to []) rest r t m h turned =
      absurd (run.strange r (instr.Lib lib.Malloc to []) rest t m tt h)
  does false (instr.Lib lib.Malloc to (a ∷ c ∷ more)) rest r t m h turned =
      absurd (run.strange r (instr.Lib lib.Malloc to (a ∷ c ∷ more)) rest t m tt h)
  does false (instr.Lib lib.PutChar to (a ∷ [])) rest r t m h turned =
      from_put to a r rest t m (run.puts to a r rest t m h)
  does false (instr.Lib lib.PutChar to []) rest r t m h turned =
      absurd (run.strange r (instr.Lib lib.PutChar to []) rest t m tt h)
  does false (instr.Lib lib.PutChar to (a ∷ c ∷ more)) rest r t m h turned =
      absurd (run.strange r (instr.Lib lib.PutChar to (a ∷ c ∷ more)) rest t m tt h)
  does false (instr.Lib lib.GetChar to []) rest r t m h turned =
      from_take to r rest t m (run.takes to r rest t m h)
  does false (instr.Lib lib.GetChar to (a ∷ more)) rest r t m h turned =
      absurd (run.strange r (instr.Lib lib.GetChar to (a ∷ more)) rest t m tt h)
  does false (instr.Lib lib.Exit None (a ∷ [])) rest r t m h turned =
      from_exit a r rest t m (run.exits a r rest t m h)
  does false (instr.Lib lib.Exit None []) rest r t m h turned =
      absurd (run.strange r (instr.Lib lib.Exit None []) rest t m tt h)
  does false (instr.Lib lib.Exit None (a ∷ c ∷ more)) rest r t m h turned =
      absurd (run.strange r (instr.Lib lib.Exit None (a ∷ c ∷ more)) rest t m tt h)
  does false (instr.Lib lib.Exit (Some to) args) rest r t m h turned =
      absurd (run.strange r (instr.Lib lib.Exit (Some to) args) rest t m tt h)
  does false instr.Turn rest r t m h turned = Pauses refl refl (run.turns r rest t m h)
  does false (instr.Return v) rest r t m h turned = from_return r v rest t m h
  does true i rest r t m h turned = cc
