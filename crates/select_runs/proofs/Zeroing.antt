-- A local's block is entered: the machine makes its granules zero, one after another.
use Rattle.std.proofs.Common.{◌≡◌, ℕ, zero, suc, ◌+◌, ◌-◌, ◌*◌, ◌/◌, ◌%◌, ◌^◌, ◌<◌, ◌≤◌, ℤ, pos, negsuc, true, List}
use Rattle.std.proofs.Common.{◌++◌, length, Some, refl, sym, ap, ◌∙◌, subst, arith, inl, inr}
use Rattle.std.specs.Prelude.{slice_get}
use Rattle.std.proofs.lemmas.Bool.{ltb-true}
use Rattle.std.proofs.lemmas.List.{length-append}
use Rattle.std.proofs.lemmas.Option.{slice_get_within}
use Rattle.ck_base.specs.Runs.{Goes}
use Rattle.ck_base.specs.World.{World}
use Rattle.ck_int.specs.Kinds.{kept_of}
use Rattle.cap_concentrate.specs.Rounding.{owned}
use Rattle.cap_ops.specs.Capability.{null_at}
use Rattle.c_tree.specs.declared.typed.Typed.{Typed}
use Rattle.rv_instr.specs.declared.instr.Instr.{Instr}
use Rattle.rv_instr.specs.declared.instr.Instr.TheVariants.{Store}
use Rattle.rv_instr.specs.declared.ops.StoreOp.TheVariants.{Csc}
use Rattle.tag_mem.specs.Areas.{Area}
use Rattle.tag_mem.proofs.Laws.{number_at-same_bytes}
use Rattle.cap_machine.specs.declared.machine.Machine.{Machine}
use Rattle.cap_machine.specs.Integers.{extended}
use Rattle.cap_machine.specs.Rows.{row, plus}
use Rattle.cap_machine.specs.State.{register, next}
use Rattle.cap_machine.specs.Step.{act, act_of}
use Rattle.cheri_c_sem.specs.Modes as modes
use Rattle.cheri_c_sem.specs.Modes.{operations, with_memory}
use Rattle.cheri_c_sem.specs.Programs.{lengths_of}
use Rattle.cheri_c_sem.specs.Steps.{State}
use Rattle.obj_mem.specs.Legal.{Apart}
use Rattle.obj_mem.specs.Objects.{Placed, zero_object}
use Rattle.obj_mem.specs.Pointers.{keeps}
use Rattle.obj_mem.specs.Table.{addresses_of}
use Rattle.purecap_abi.specs.Words.{moved_code}
use Rattle.tac_ir.specs.Meaning.{Running}
use Rattle.tac_ir.specs.declared.code.TacInstr.{TacInstr}
use Rattle.tac_ir.specs.declared.code.TacInstr.TheVariants as instr
use Rattle.place_inject.specs.Changes.{Zeroed}
use Rattle.place_inject.specs.Frames.{Setting, Point, stack_top, stack_pointer}
use Rattle.place_inject.specs.Fits.{Fits}
use Rattle.place_inject.specs.Spills.{StackIsThere}
use Rattle.place_inject.specs.Zeroing.{IsZeroed}
use Rattle.place_inject.proofs.Granules.{granules_are_zeroed_law, zeroed_none, zeroed_on}
use Rattle.place_inject.proofs.Reaching.{stack_reaches_law}
use Rattle.place_inject.proofs.Results.{moves_on_law}
use Rattle.place_inject.proofs.Zeroing.{zero_keeps_fits_law}
use Rattle.select_words.specs.Standing.{HasAt}
use Rattle.select_words.specs.Numbers.{MakesNumber}
use Rattle.select_words.specs.Zeroing.{stores_at, zero_loop, Zeroes, Each, Round, granules, ZeroWords}
use Rattle.select_runs.specs.Acts.{Ground, HasText, IsThere, Leads, counter_at, place}
use Rattle.select_runs.specs.Instructions.{IsAskedBy}
use Rattle.select_runs.specs.Operands.{ground_of, IsText, IsAtPoint}
use Rattle.select_runs.specs.Results.{Arrives, IsSelectable, before, behind}
use Rattle.select_runs.specs.Zeroing.{ZeroesRun}
use Rattle.select_runs.proofs.Acts.{fetched_here, act_on_row, next_is, has_front, has_back, join, still}
use Rattle.select_runs.proofs.Far.{moves, near_low, pointer_moved}
use Rattle.select_runs.proofs.Jumps.{landed}
use Rattle.select_runs.proofs.Locals.{LocalLies, local_lies, local_reach, base_keeps}
use Rattle.select_runs.proofs.Loops.{counts_down, moves_by, goes_back, goes_past}
use Rattle.select_runs.proofs.Numbers.{numbers_are_made_law}
use Rattle.select_runs.proofs.Pointers.{moved_few}
use Rattle.select_runs.proofs.Points.{laid, there, text_there}
use Rattle.select_runs.proofs.Results.{reads_as_before}
use Rattle.select_runs.specs.Selecting.{selecting}

minus_twelve : extended (negsuc 11) ≡ 18446744073709551604
unfolding kept_of
minus_twelve = refl

stores_long : (at parts : ℕ) → length (stores_at at parts) ≡ parts
stores_long at zero = refl
stores_long at (suc k) = ap suc (stores_long (at + 16) k)

-- granules from an offset in the frame on, of a machine that stands for a state
module _ (s : Setting) (code : List Instr) (x : IsText s code) (stack : StackIsThere s) (p : Point)
    (t : State modes.Store) (m : Machine) (fits : Fits s (Some p) t m) (offset parts : ℕ)
    (aligned : (t.frame + offset) % 16 ≡ 0) (low : s.map.stack.0 ≤ t.frame)
    (high : t.frame + offset + 16 * parts ≤ stack_top s) (top_is : stack_top s ≤ 2 ^ 40) where
  abbrev g : Ground
  g = ground_of s code

  abbrev base : ℕ
  base = t.frame + offset

  -- so many of them are zero, and else only the counter and c28 to c31 changed
  record Zeroing (u : Machine) (j : ℕ) : Type 0 where
    registers : length u.regs ≡ 32
    alike : (r : ℕ) → r < 28 → register u r ≡ register m r
    memory : Zeroed base j m.mem u.mem

  begun : Zeroing m 0
  begun = record {
    registers = fits.registers;
    alike = λ r l. refl;
    memory = zeroed_none base m.mem fits.objects.areas;
  }

  stack_keeps : (y : ℕ) → s.map.stack.0 ≤ y → y < stack_top s + 4096 → keeps s.map.stack.0 (stack_top s) y ≡ true
  stack_keeps y from below = stack_reaches_law s x.legal y from below

  off_text : (y : ℕ) → Apart s.map.text.0 s.map.text.1 s.map.stack.0 s.map.stack.1 → y < s.map.text.0 + s.map.text.1
      → s.map.text.0 ≤ y → base ≤ y → base + 16 * parts ≤ y
  off_text y (inl before) to from h = absurd (omega arith)
  off_text y (inr behind) to from h = omega arith

  text_stays : (j : ℕ) (new : List Area) → j ≤ parts → Zeroed base j m.mem new → HasText g new
  text_stays j new few z k i has =
      let within = slice_get_within code k i has in
      let room = x.room in
      let text_aligned = x.legal.text_aligned in
      number_at-same_bytes m.mem new (s.map.text.0 + 4 * k) 4 fits.objects.areas z.areas (omega arith) (omega arith)
      (λ b lt. z.same.bytes (s.map.text.0 + 4 * k + b)
      (λ from. let q = off_text (s.map.text.0 + 4 * k + b) x.legal.apart.0.1.1.0 (omega arith) (omega arith) from in
      omega arith))
      ∙ text_there s code x (Some p) t m fits k i has

  here : (u : Machine) (mid j : ℕ) → j ≤ parts → Zeroing u j → u.pc ≡ counter_at g mid → IsThere g u mid
  here u mid j few h counter = record {
    counter = counter;
    registers = h.registers;
    text = text_stays j u.mem few h.memory;
  }

  -- ---- one store

  record Stored (u : Machine) (mid j : ℕ) : Type 0 where
    to : Machine
    goes : act u ≡ Goes to
    counter : to.pc ≡ counter_at g (mid + 1)
    zeroing : Zeroing to (j + 1)
    same : (r : ℕ) → register to r ≡ register u r

  store_word : (u : Machine) (mid j from y : ℕ) (z : ℤ) → Zeroing u j → u.pc ≡ counter_at g mid → j < parts
      → slice_get code mid ≡ Some (Store Csc 0 from z) → register u from ≡ stack_pointer s y
      → keeps s.map.stack.0 (stack_top s) y ≡ true → plus y z ≡ base + 16 * j → Stored u mid j
  unfolding row
  store_word u mid j from y z h counter less has holds keep sum =
      let q = granules_are_zeroed_law s x.legal stack u h.memory.areas
      (λ k. h.memory.same.places k ∙ fits.places k) from y z holds keep (base + 16 * j) sum (omega arith) (omega arith)
      (omega arith) in
      let i = Store Csc 0 from z in
      let n : Machine = record u { mem = q.memory } in
      let now = here u mid j (omega arith) h counter in
      record {
        to = next n;
        goes = fetched_here g (laid s code x) u mid i counter now.text has ∙ act_on_row u i refl ∙ ap act_of q.goes;
        counter = ap (λ (v : Machine). v.pc)
            (next_is g (laid s code x) n mid counter (slice_get_within code mid i has));
        zeroing = record {
          registers = h.registers;
          alike = h.alike;
          memory = zeroed_on base j m.mem u.mem q.memory aligned h.memory q.zeroed;
        };
        same = λ r. refl;
      }

  -- so many acts lead to a word, where all are zero
  record AllZeroed (u : Machine) (count end : ℕ) : Type 0 where
    to : Machine
    leads : Leads count u to
    counter : to.pc ≡ counter_at g end
    zeroing : Zeroing to parts

  -- ---- a store for each

  each : (k j mid near : ℕ) (u : Machine) → Zeroing u j → u.pc ≡ counter_at g mid → j + k ≡ parts
      → near ≡ offset + 16 * j → HasAt code mid (stores_at near k) → AllZeroed u k (mid + k)
  each zero j mid near u h counter sum is has =
      let end : mid ≡ mid + 0 = omega arith in
      let all : j ≡ parts = omega arith in
      record { to = u; leads = refl; counter = counter ∙ ap (counter_at g) end; zeroing = subst (Zeroing u) all h }
  each (suc k) j mid near u h counter sum is has =
      let q = store_word u mid j 2 t.frame (pos near) h counter (omega arith) has.0
      (h.alike 2 (omega arith) ∙ fits.stack.stack) (stack_keeps t.frame low (omega arith))
      (near_low t.frame near (omega arith) ∙ omega arith) in
      let r = each k (j + 1) (mid + 1) (near + 16) q.to q.zeroing q.counter (omega arith) (omega arith) has.1 in
      let end : mid + 1 + k ≡ mid + suc k = omega arith in
      record {
        to = r.to;
        leads = (q.to, q.goes, r.leads);
        counter = r.counter ∙ ap (counter_at g) end;
        zeroing = r.zeroing;
      }

  -- ---- the loop

  -- so many granules are left, before a word of the loop
  record InLoop (u : Machine) (mid j k : ℕ) : Type 0 where
    counter : u.pc ≡ counter_at g mid
    way : register u 28 ≡ stack_pointer s (base + 16 * j)
    left : register u 29 ≡ null_at k
    zeroing : Zeroing u j

  module _ (top : ℕ) (has : HasAt code top zero_loop) where
    abbrev last : ℕ
    last = top + 1 + 1 + 1

    record Rounded (u : Machine) (j k : ℕ) : Type 0 where
      to : Machine
      leads : Leads 3 u to
      state : InLoop to last (j + 1) k

    -- the round up to its branch
    round : (u : Machine) (j k : ℕ) → InLoop u top j (suc k) → j + suc k ≡ parts → Rounded u j k
    round u j k h sum =
        let q = store_word u top j 28 (base + 16 * j) (pos 0) h.zeroing h.counter (omega arith) has.0 h.way
        (stack_keeps (base + 16 * j) (omega arith) (omega arith))
        (near_low (base + 16 * j) 0 (omega arith) ∙ omega arith) in
        let now = here q.to (top + 1) (j + 1) (omega arith) q.zeroing q.counter in
        let moved_is = pointer_moved s.map.stack.0 (stack_top s) (base + 16 * j) (base + 16 * (j + 1))
        (extended (pos 16)) (stack_keeps (base + 16 * j) (omega arith) (omega arith))
        (stack_keeps (base + 16 * (j + 1)) (omega arith) (omega arith))
        (near_low (base + 16 * j) 16 (omega arith) ∙ omega arith) in
        let c = stack_pointer s (base + 16 * (j + 1)) in
        let a = moves_by s code x q.to (top + 1) 28 (pos 16) (stack_pointer s (base + 16 * j)) c now has.1.0
        (omega arith) (omega arith) (q.same 28 ∙ h.way) moved_is in
        let b = counts_down s code x a.to (top + 1 + 1) 29 k
        (still g (laid s code x) q.to (top + 1 + 1) (top + 1) 28 28 1 c now a) has.1.1.0 (omega arith) (omega arith)
        (omega arith) (a.others 29 (λ e. absurd (omega (arith, e))) ∙ q.same 29 ∙ h.left) in
        record {
          to = b.to;
          leads = (q.to, q.goes, join 1 1 q.to a.to b.to a.leads b.leads);
          state = record {
            counter = b.counter;
            way = b.others 28 (λ e. absurd (omega (arith, e))) ∙ a.holds;
            left = b.holds;
            zeroing = record {
              registers = b.registers;
              alike = λ r l. b.others r (λ e. absurd (omega (arith, e, l)))
                  ∙ a.others r (λ e. absurd (omega (arith, e, l))) ∙ q.zeroing.alike r l;
              memory = subst (Zeroed base (j + 1) m.mem) (sym (b.memory ∙ a.memory)) q.zeroing.memory;
            };
          };
        }

    hopped : (u : Machine) (to j : ℕ) → Zeroing u j → Zeroing (landed s code x u to) j
    hopped u to j h = record { registers = h.registers; alike = h.alike; memory = h.memory }

    rounds : (k j : ℕ) (u : Machine) → InLoop u top j (suc k) → j + suc k ≡ parts
        → AllZeroed u (4 * suc k) (last + 1)
    rounds zero j u h sum =
        let r = round u j zero h sum in
        let now = here r.to last (j + 1) (omega arith) r.state.zeroing r.state.counter in
        let past = goes_past s code x r.to last 29 (negsuc 11) now has.1.1.1.0 r.state.left in
        let n : Machine = landed s code x r.to (last + 1) in
        let all : j + 1 ≡ parts = omega arith in
        record {
          to = n;
          leads = join 3 1 u r.to n r.leads (n, past, refl);
          counter = refl;
          zeroing = subst (Zeroing n) all (hopped r.to (last + 1) (j + 1) r.state.zeroing);
        }
    rounds (suc k) j u h sum =
        let r = round u j (suc k) h sum in
        let now = here r.to last (j + 1) (omega arith) r.state.zeroing r.state.counter in
        let inside = slice_get_within code last _ has.1.1.1.0 in
        let room = x.room in
        let text_top = x.legal.in_range.1 in
        let n : Machine = landed s code x r.to top in
        let back = goes_back s code x r.to last top 29 k (negsuc 11) now has.1.1.1.0 (omega arith) r.state.left
        (omega arith)
        (ap (λ e. (place g last + e) % 2 ^ 64) minus_twelve ∙ omega (arith, inside, room, text_top)) in
        let on = rounds k (j + 1) n (record {
          counter = refl;
          way = r.state.way;
          left = r.state.left;
          zeroing = hopped r.to top (j + 1) r.state.zeroing;
        }) (omega arith) in
        let count : 4 + 4 * suc k ≡ 4 * suc (suc k) = omega arith in
        record {
          to = on.to;
          leads = subst (λ c. Leads c u on.to) count
              (join 4 (4 * suc k) u n on.to (join 3 1 u r.to n r.leads (n, back, refl)) on.leads);
          counter = on.counter;
          zeroing = on.zeroing;
        }

-- ---- all of it

module _ (s : Setting) (code : List Instr) (x : IsText s code) (stack : StackIsThere s) (w : World) (p : Typed)
    (asked : IsAskedBy s p) (running : Running) (var : ℕ) (rest : List TacInstr)
    (sel : IsSelectable s p running (instr.Zero var) rest) (at : ℕ) (t : State modes.Store) (m : Machine)
    (point : IsAtPoint s code (before running (instr.Zero var) rest) at t m) (words : List Instr)
    (form : ZeroWords (selecting s running.fun) var words) (has_words : HasAt code at words) where
  abbrev zero_i : TacInstr
  zero_i = instr.Zero var

  abbrev start : Point
  start = before running zero_i rest

  abbrev parts : ℕ
  parts = granules form.slot

  abbrev place_at : ℕ
  place_at = form.slot.at

  lies : LocalLies s t var form.slot
  lies = local_lies s x.legal p asked start t m point.fits sel.d sel.is var
      (ltb-true var (length (lengths_of p sel.d.vars)) sel.fits) form.frame form.is form.slot form.has

  aligned : (t.frame + place_at) % 16 ≡ 0
  aligned =
      subst (λ b. b % 16 ≡ 0) lies.stands.base_is
      (point.fits.objects.aligned (t.first + var) lies.stands.shape lies.stands.there)

  high : t.frame + place_at + 16 * parts ≤ stack_top s
  high =
      let z = x.legal.stack_base in
      let y = x.legal.stack_length in
      let end = lies.end in
      let a = aligned in
      omega arith

  abbrev Done : ℕ → ℕ → Type 0
  Done count end = AllZeroed s code x stack start t m point.fits place_at parts aligned lies.low high lies.top m count
      end

  -- in at most so many acts
  abbrev Finished : Type 0
  Finished = (count : ℕ) × (count ≤ 10 + 8 * parts) × Done count (at + length words)

  one_each : words ≡ stores_at place_at parts → Finished
  one_each e =
      let low = lies.low in
      let q = each s code x stack start t m point.fits place_at parts aligned low high lies.top parts 0 at place_at m
      (begun s code x stack start t m point.fits place_at parts aligned lies.low high lies.top) point.counter
      (omega arith) (omega arith) (subst (HasAt code at) e has_words) in
      let end : at + parts ≡ at + length words =
      sym (ap (λ y. at + length y) e ∙ ap (λ k. at + k) (stores_long place_at parts)) in
      (parts, omega arith, subst (Done parts) end q)

  by_rounds : (number : List Instr) → MakesNumber 29 parts number → length number ≤ 2 → 0 < parts
      → words ≡ moved_code 28 2 place_at ++ (number ++ zero_loop) → Finished
  by_rounds number makes few some e =
      let g = ground_of s code in
      let front = moved_code 28 2 place_at in
      let q = subst (HasAt code at) e has_words in
      let late : ℕ = at + length front in
      let top : ℕ = late + length number in
      let behind_it = has_back code at front (number ++ zero_loop) q in
      let now = there s code x start at t m point in
      let c = stack_pointer s (t.frame + place_at) in
      let a = moves g (laid s code x) s.map.stack.0 (stack_top s) t.frame place_at 2 28
      (local_reach s x.legal t var form.slot lies) (λ z. absurd (omega (arith, z))) (omega arith) (omega arith) m at now
      point.fits.stack.stack (base_keeps s x.legal t var form.slot lies)
      (has_front code at front (number ++ zero_loop) q)
      in
      let b = numbers_are_made_law g (laid s code x) a.to late
      (still g (laid s code x) m late at 28 28 (length front) c now a) 29 parts (omega arith) (omega arith) number makes
      (has_front code late number zero_loop behind_it) in
      let first = begun s code x stack start t m point.fits place_at parts aligned lies.low high lies.top in
      let left_is : parts ≡ suc (parts - 1) = omega arith in
      let base_is : t.frame + place_at ≡ t.frame + place_at + 16 * 0 = omega arith in
      let r = rounds s code x stack start t m point.fits place_at parts aligned lies.low high lies.top top
      (has_back code late number zero_loop behind_it) (parts - 1) 0 b.to (record {
        counter = b.counter;
        way = b.others 28 (λ e. absurd (omega (arith, e))) ∙ a.holds ∙ ap (stack_pointer s) base_is;
        left = b.holds ∙ ap null_at left_is;
        zeroing = record {
          registers = b.registers;
          alike = λ r l. b.others r (λ e. absurd (omega (arith, e, l))) ∙ a.others r
              (λ e. absurd (omega (arith, e, l)));
          memory = subst (Zeroed (t.frame + place_at) 0 m.mem) (sym (b.memory ∙ a.memory)) first.memory;
        };
      }) (omega arith) in
      let less = moved_few 28 2 place_at in
      let long = length-append front (number ++ zero_loop) in
      let long' = length-append number zero_loop in
      let end : top + 1 + 1 + 1 + 1 ≡ at + length words =
      sym (ap (λ y. at + length y) e ∙ omega (arith, long, long')) in
      let count : ℕ = length front + length number + 4 * suc (parts - 1) in (
        count,
        omega arith,
        record {
          to = r.to;
          leads = join (length front + length number) (4 * suc (parts - 1)) m b.to r.to
              (join (length front) (length number) m a.to b.to a.leads b.leads) r.leads;
          counter = r.counter ∙ ap (counter_at g) end;
          zeroing = r.zeroing;
        },
      )

  finished : Finished
  finished = by form.zeroes
    where
      by : Zeroes place_at parts words → Finished
      by (Each e) = one_each e
      by (Round number makes few some e) = by_rounds number makes few some e

  abbrev zeroed_state : State modes.Store
  zeroed_state = record t {
    mem = with_memory t.mem (zero_object (Placed (addresses_of s.map)) t.mem.memory (t.first + var));
  }

  owned_is : lies.stands.shape.owned ≡ form.slot.length
  owned_is =
      (point.fits.objects.spread.placed (t.first + var) lies.stands.shape lies.stands.there).owned_is
      ∙ ap owned lies.stands.length ∙ sym lies.length_is

  arrives : Arrives s code (behind running rest) 0 (10 + 8 * parts) (at + length words) zeroed_state m
  arrives =
      let f = finished in
      let le = f.1 in
      let z = f.2 in
      let shape = lies.stands.shape in
      let is : IsZeroed m z.to shape = record {
        registers = z.zeroing.registers;
        alike = z.zeroing.alike;
        memory = subst (λ n. Zeroed shape.base ((n + 15) / 16) m.mem z.to.mem) (sym owned_is)
            (subst (λ b. Zeroed b parts m.mem z.to.mem) (sym lies.stands.base_is) z.zeroing.memory);
      } in
      let fit = zero_keeps_fits_law s x.legal x.usable (Some start) t m point.fits (t.first + var) shape
      lies.stands.there lies.stands.stays z.to is in
      record {
        count = f.0;
        to = z.to;
        ge = omega arith;
        le = le;
        leads = z.leads;
        point = record {
          fits = moves_on_law s start zeroed_state z.to fit rest
              (λ temp live. reads_as_before s running zero_i rest refl refl temp live);
          counter = z.counter;
        };
      }

pub zeroes_run_law : ZeroesRun
unfolding operations
zeroes_run_law s code x stack w p asked running var rest sel at t m point kinded words form has = record {
  next = zeroed_state s code x stack w p asked running var rest sel at t m point words form has;
  means = λ k. refl;
  kinded = kinded;
  does = arrives s code x stack w p asked running var rest sel at t m point words form has;
}
