-- Arguments come to their places.
use Rattle.std.proofs.Common.{◌≡◌, ℕ, zero, suc, ◌+◌, ◌-◌, ◌%◌, ◌^◌, ◌<◌, ◌≤◌, ◌⊎◌, Bool, true, false, List, [], ◌∷◌}
use Rattle.std.proofs.Common.{◌++◌, length, refl, sym, ap, ◌∙◌, subst, arith, Option, Some, None, inl, inr}
use Rattle.std.proofs.Common.{if◌then◌else◌}
use Rattle.std.specs.Prelude.{min, nat_lt, slice_get, ◌||◌}
use Rattle.std.specs.List.{filter}
use Rattle.std.proofs.lemmas.Bool.{cases_eq, lt-ltb, ltb-true}
use Rattle.std.proofs.lemmas.Option.{same_Some, none-some, slice_get_within}
use Rattle.cap_concentrate.specs.Packing.{fields_of}
use Rattle.cap_ops.specs.declared.capability.Cap.{Cap}
use Rattle.rv_instr.specs.declared.instr.Instr.{Instr}
use Rattle.tag_mem.specs.Areas.{IsMemory, is_inside}
use Rattle.cap_machine.specs.declared.machine.Machine.{Machine}
use Rattle.cap_machine.specs.State.{register}
use Rattle.cheri_c_sem.specs.Modes.{Store}
use Rattle.cheri_c_sem.specs.Steps.{State}
use Rattle.obj_mem.specs.declared.map.Frame.{Frame}
use Rattle.obj_mem.specs.Objects.{base_in}
use Rattle.obj_mem.specs.Table.{addresses_of}
use Rattle.obj_mem.specs.Values.{Value, Int, Live, Fun, Raw, Addresses, capability_of}
use Rattle.reg_alloc.specs.declared.places.Home.{Home}
use Rattle.reg_alloc.specs.declared.places.Home.TheVariants.{Register, Slot}
use Rattle.purecap_abi.specs.Saving.{registers_at}
use Rattle.purecap_abi.specs.Words.{store_code}
use Rattle.tac_ir.specs.Effects.{temp_in}
use Rattle.tac_ir.specs.Meaning.{Caller}
use Rattle.tac_ir.specs.Temps.{Awaits, now, ahead, back, IsIn as IsAmong}
use Rattle.tac_ir.specs.Temps as temps
use Rattle.tac_ir.specs.declared.code.TacInstr.{TacInstr}
use Rattle.tac_ir.specs.declared.code.TacInstr.TheVariants as instr
use Rattle.place_inject.specs.Values.{IsKnown}
use Rattle.place_inject.specs.Objects.{SameOutside}
use Rattle.place_inject.specs.Parts.{kept_at}
use Rattle.place_inject.specs.Frames.{Setting, Point, IsLive, homes_of, functions_of, stack_top}
use Rattle.place_inject.specs.Fits.{Fits, registers_in}
use Rattle.place_inject.specs.Homes.{onward}
use Rattle.place_inject.specs.Registers.{UsesOnly, CallersUseOnly}
use Rattle.place_inject.specs.Spills.{StackIsThere}
use Rattle.place_inject.proofs.Known.{capability_word, integer_address}
use Rattle.place_inject.proofs.Outgoing.{outgoing_keeps_fits_law}
use Rattle.place_inject.proofs.ReadBack.{newest, under}
use Rattle.place_inject.proofs.Registers.{registers_keep}
use Rattle.place_inject.proofs.Results.{moves_on_law, numbers_read_back_law, registers_read_back_law}
use Rattle.select_words.specs.Standing.{HasAt}
use Rattle.select_words.specs.Emitted.{IsIn, Operand}
use Rattle.select_words.specs.Emitted as emitted
use Rattle.select_words.specs.Entries.{stack_place, ForEach, AreMovesTo, moved_from}
use Rattle.select_words.specs.Passing as passing
use Rattle.select_words.specs.Passing.{StackedWords, IsPassing, BroughtWords, MayCarry, ArgumentWords}
use Rattle.select_words.specs.Services.{IsAside}
use Rattle.select_words.specs.Words as words
use Rattle.select_words.specs.Words.{Bring}
use Rattle.select_runs.specs.Acts.{Ground, IsThere, Holds}
use Rattle.select_runs.specs.Operands.{ground_of, IsText, IsAtPoint}
use Rattle.select_runs.specs.Passing.{GoesOnAside, PassesArguments, ArgumentsPass}
use Rattle.select_runs.proofs.Acts.{has_front, has_back}
use Rattle.select_runs.proofs.Bringing.{brought}
use Rattle.select_runs.proofs.Keeping.{kept_still}
use Rattle.select_runs.proofs.Moves.{Moved, moves_run, not_moved}
use Rattle.select_runs.proofs.Numbers.{numbers_are_made_law}
use Rattle.select_runs.proofs.Operands.{holds_by}
use Rattle.select_runs.proofs.Points.{laid, there}
use Rattle.select_runs.proofs.Saving.{Stores, stores_far}
use Rattle.select_runs.proofs.Stretches.{Reached, Sets, gone, reached, reached_with, reached_full, reached_both}
use Rattle.select_runs.proofs.Stretches.{reached_nowhere}
use Rattle.select_runs.specs.Selecting.{selecting}

-- ---- members that pass a test

among_filter : (test : ℕ → Bool) (xs : List ℕ) (a : ℕ) → IsAmong a xs → test a ≡ true → IsAmong a (filter test xs)
among_filter test [] a h passes_it = absurd (none-some a h.1)
among_filter test (x ∷ xs) a (zero, e) passes_it = first (same_Some x a e)
  where
    first : x ≡ a → IsAmong a (filter test (x ∷ xs))
    first same = subst (λ b. IsAmong a (if b then x ∷ filter test xs else filter test xs))
        (sym (ap test same ∙ passes_it))
        (zero, e)
among_filter test (x ∷ xs) a (suc j, e) passes_it = later (test x) (among_filter test xs a (j, e) passes_it)
  where
    later : (b : Bool) → IsAmong a (filter test xs) → IsAmong a (if b then x ∷ filter test xs else filter test xs)
    later true h = (suc h.0, h.1)
    later false h = h

filter_among : (test : ℕ → Bool) (xs : List ℕ) (a : ℕ) → IsAmong a (filter test xs) → IsAmong a xs × (test a ≡ true)
filter_among test [] a h = absurd (none-some a h.1)
filter_among test (x ∷ xs) a h = by (test x) refl h (filter_among test xs a)
  where
    by : (b : Bool) → test x ≡ b → IsAmong a (if b then x ∷ filter test xs else filter test xs)
        → (IsAmong a (filter test xs) → IsAmong a xs × (test a ≡ true)) → IsAmong a (x ∷ xs) × (test a ≡ true)
    by true passes_it (zero, e) rest = ((zero, e), ap test (sym (same_Some x a e)) ∙ passes_it)
    by true passes_it (suc j, e) rest = let r = rest (j, e) in ((suc r.0.0, r.0.1), r.1)
    by false fails_it q rest = let r = rest q in ((suc r.0.0, r.0.1), r.1)

-- homes aside
abbrev aside_home : Option Home → Bool
aside_home (Some (Register r)) = nat_lt r 10 || nat_lt 17 r
aside_home (Some (Slot k)) = true
aside_home None = true

aside_true : (r : ℕ) → IsAside r → (nat_lt r 10 || nat_lt 17 r) ≡ true
aside_true r (inl l) = ap (λ b. b || nat_lt 17 r) (lt-ltb r 10 l)
aside_true r (inr l) = by (nat_lt r 10) (lt-ltb 17 r l)
  where
    by : (b : Bool) → nat_lt 17 r ≡ true → (b || nat_lt 17 r) ≡ true
    by true e = refl
    by false e = e

aside_from : (r : ℕ) → (nat_lt r 10 || nat_lt 17 r) ≡ true → IsAside r
aside_from r e = by (nat_lt r 10) (nat_lt 17 r) refl refl e
  where
    by : (a b : Bool) → nat_lt r 10 ≡ a → nat_lt 17 r ≡ b → (a || b) ≡ true → IsAside r
    by true b p q h = inl (ltb-true r 10 p)
    by false true p q h = inr (ltb-true 17 r q)
    by false false p q h = absurd cc

not_passing : (r : ℕ) → IsAside r → IsPassing r → ⊥
not_passing r (inl l) p = let from = p.0 in absurd (omega (arith, l, from))
not_passing r (inr l) p = let to = p.1 in absurd (omega (arith, l, to))

-- ---- addresses of values

raw_small : (a : Addresses) (base : ℕ → ℕ) (address upper : ℕ)
    → (capability_of a base (Raw address upper)).fields.address < 2 ^ 64
unfolding capability_of fields_of
raw_small a base address upper = omega arith

pub value_small : (s : Setting) (p : Option Point) (t : State Store) (m : Machine) → Fits s p t m → (v : Value)
    → IsKnown t.mem.memory.shapes (functions_of s) v
    → (capability_of (addresses_of s.map) (base_in t.mem.memory.shapes) v).fields.address < 2 ^ 64
value_small s p t m f (Int n) k =
    subst (λ y. y < 2 ^ 64) (sym (integer_address (addresses_of s.map) (base_in t.mem.memory.shapes) n)) k
value_small s p t m f (Raw address upper) k = raw_small (addresses_of s.map) (base_in t.mem.memory.shapes) address upper
value_small s p t m f (Live o low high offset permissions) k =
    capability_word (functions_of s) (addresses_of s.map) t.mem.memory m.mem f.objects
    (Live o low high offset permissions) refl k
value_small s p t m f (Fun g) k =
    capability_word (functions_of s) (addresses_of s.map) t.mem.memory m.mem f.objects (Fun g) refl k

-- ---- registers of homes

abbrev Beside : ℕ → Type 0
Beside r = IsAside r × (r < 28)

beside_callers : (s : Setting) (code : List Instr) → IsText s code → (cs : List Caller) → CallersUseOnly s IsAside cs
    → CallersUseOnly s Beside cs
beside_callers s code x [] h = tt
beside_callers s code x (c ∷ cs) h = (λ t r l e. (h.0 t r l e, x.usable c.fun t r e), beside_callers s code x cs h.1)

module _ (s : Setting) (code : List Instr) (x : IsText s code) (stack : StackIsThere s) (p : Point)
    (left : List TacInstr) (aside : GoesOnAside s p left) (frame : Frame)
    (is : slice_get s.map.frames p.running.fun ≡ Some frame) (args : List ℕ)
    (lives : (temp : ℕ) → IsAmong temp args → IsLive s p temp)
    (room : stack_place (length args) ≤ registers_at (homes_of s p.running.fun) frame) (t : State Store)
    (m : Machine) (fits : Fits s (Some p) t m) where
  abbrev g : Ground
  g = ground_of s code

  abbrev bits : Value → Cap
  bits = capability_of (addresses_of s.map) (base_in t.mem.memory.shapes)

  abbrev homes : List Home
  homes = homes_of s p.running.fun

  known : (temp : ℕ) → IsAmong temp args → IsKnown t.mem.memory.shapes (functions_of s) (temp_in t temp)
  known temp a = fits.calls.1.known temp (lives temp a)

  -- ---- where the frame lies

  pub record Numbers : Type 0 where
    pub low : s.map.stack.0 ≤ t.frame
    pub up : t.frame + stack_place (length args) ≤ stack_top s
    pub even : t.frame % 16 ≡ 0
    pub small : stack_place (length args) < 2 ^ 31 - 2048

  pub numbers : Numbers
  numbers =
      let own = newest s t.mem.memory.shapes m.mem (registers_in m) p.running.fun t.first t.frame p.running.callers
      fits.calls.2 in
      let fr = own.frame in
      let lies = under s t.mem.memory.shapes m.mem p.running.fun t.first t.frame own.above own.link fr in
      let same : registers_at homes frame ≡ registers_at homes fr.frame =
      ap (registers_at homes) (same_Some frame fr.frame (sym is ∙ fr.is)) in
      let saved = fr.for_homes.saved in let inside = fr.for_homes.inside in let small_is = fr.for_homes.small in
      let from = lies.from in let to = lies.to in let top_is = own.inside in
      record {
        low = from;
        up = omega (arith, same);
        even = fr.aligned;
        small = omega (arith, same);
      }

  -- ---- those past eight

  abbrev Stacked : ℕ → Machine → Type 0
  Stacked k n = (j temp : ℕ) → 8 ≤ j → j < k → slice_get args j ≡ Some temp
      → kept_at n.mem (t.frame + stack_place j) ≡ Some (bits (temp_in t temp))

  record Begun (k : ℕ) (n : Machine) : Type 0 where
    fits_still : Fits s (Some p) t n
    way : register n 31 ≡ register m 31
    stacked : Stacked k n

  one_stacked : (k : ℕ) → 8 ≤ k → k < length args → (n : Machine) (mid : ℕ) → IsThere g n mid → Begun k n
      → (ws : List Instr) → StackedWords (selecting s p.running.fun) args k ws → HasAt code mid ws
      → Reached g n (length ws) (mid + length ws) (Begun (k + 1))
  one_stacked k far l n mid there b ws form has =
      let q = subst (HasAt code mid) form.are has in
      let live = lives form.temp (k, form.is) in
      let point : IsAtPoint s code p mid t n = record { fits = b.fits_still; counter = there.counter } in
      let low_is = numbers.low in let up = numbers.up in let even = numbers.even in let small = numbers.small in
      subst (λ v. Reached g n (length v) (mid + length v) (Begun (k + 1))) (sym form.are)
      (reached_both g n mid form.finds (store_code form.r 2 (stack_place k) 29) Found (Begun (k + 1))
      (reached g n mid (length form.finds) (mid + length form.finds) there
      (Sets n 28 form.r (bits (temp_in t form.temp)))
      Found
      (gone g n (length form.finds) (mid + length form.finds) 28 form.r (bits (temp_in t form.temp))
      (holds_by s code x p mid t n point form.temp 28 form.r live (omega arith) (omega arith) form.finds
      (has_front code mid form.finds (store_code form.r 2 (stack_place k) 29) q) form.found))
      (λ a mem h. (mem, h)))
      (λ a there' h.
      reached_with g a (length (store_code form.r 2 (stack_place k) 29))
      (mid + length form.finds + length (store_code form.r 2 (stack_place k) 29))
      (Stores (t.frame + stack_place k) 29 (register a form.r) a) (Begun (k + 1))
      (stores_far s code x stack t.frame low_is (omega arith) a (mid + length form.finds)
      (record {
        there = there';
        areas = subst IsMemory (sym h.0) b.fits_still.objects.areas;
        places = λ y. ap (λ v. is_inside v y) h.0 ∙ b.fits_still.places y;
      }) (h.1.1 2 (λ e. absurd (omega (arith, e))) ∙ b.fits_still.stack.stack) form.r (stack_place k) 29
      (unscratched form.r form.finds form.found) (omega arith) (omega arith) (omega arith) (omega arith)
      (omega arith) (subst (λ (c : Cap). c.fields.address < 2 ^ 64) (sym h.1.0)
      (value_small s (Some p) t m fits (temp_in t form.temp) (known form.temp (k, form.is))))
      (has_back code mid form.finds (store_code form.r 2 (stack_place k) 29) q))
      (λ to there'' w. stored a to h there''.registers w)))
    where
      Found : Machine → Type 0
      Found a = (a.mem ≡ n.mem) × Sets n 28 form.r (bits (temp_in t form.temp)) a

      unscratched : (r : ℕ) (finds : List Instr) → Operand (selecting s p.running.fun) form.temp 28 finds r → r ≡ 29 → ⊥
      unscratched r finds (emitted.Nothing z e q) y = absurd (omega (arith, q, y))
      unscratched r finds (emitted.Made v z makes few e) y = absurd (omega (arith, e, y))
      unscratched r finds (emitted.AtHome i e) y = let u = x.usable p.running.fun form.temp r i.home in
          absurd (omega (arith, u, y))
      unscratched r finds (emitted.Loaded o i e q) y = absurd (omega (arith, q, y))

      stored : (a to : Machine) → Found a → length to.regs ≡ 32
          → Stores (t.frame + stack_place k) 29 (register a form.r) a to → Begun (k + 1) to
      stored a to h long w =
          let even = numbers.even in
          let same : SameOutside (t.frame + stack_place k) 16 n.mem to.mem =
          subst (λ v. SameOutside (t.frame + stack_place k) 16 v to.mem) h.0 w.same in
          record {
            fits_still = outgoing_keeps_fits_law s x.legal x.usable p t n b.fits_still frame is (stack_place k)
                (omega arith) (omega arith) (omega arith) to (record {
                  registers = long;
                  alike = λ r lr. w.registers r (λ e. absurd (omega (arith, e, lr)))
                      ∙ h.1.1 r (λ e. absurd (omega (arith, e, lr)));
                  areas = w.areas;
                  same = same;
                });
            way = w.registers 31 (λ e. absurd (omega (arith, e))) ∙ h.1.1 31 (λ e. absurd (omega (arith, e))) ∙ b.way;
            stacked = λ j temp fj lj e. by same w.areas (w.kept ∙ ap (λ c. Some c) h.1.0) j temp fj lj e (cases_eq j k);
          }
        where
          by : SameOutside (t.frame + stack_place k) 16 n.mem to.mem → IsMemory to.mem
              → kept_at to.mem (t.frame + stack_place k) ≡ Some (bits (temp_in t form.temp)) → (j temp : ℕ) → 8 ≤ j
              → j < k + 1 → slice_get args j ≡ Some temp → ((j ≡ k) ⊎ (j ≡ k → ⊥))
              → kept_at to.mem (t.frame + stack_place j) ≡ Some (bits (temp_in t temp))
          by same areas kept j temp fj lj e (inl q) =
              let one : form.temp ≡ temp = same_Some form.temp temp (sym form.is ∙ ap (slice_get args) (sym q) ∙ e) in
              ap (λ i. kept_at to.mem (t.frame + stack_place i)) q ∙ kept ∙ ap (λ i. Some (bits (temp_in t i))) one
          by same areas kept j temp fj lj e (inr d) =
              let even = numbers.even in
              kept_still (t.frame + stack_place k) 16 (t.frame + stack_place j) n.mem to.mem
              b.fits_still.objects.areas areas (omega arith) (omega arith) (inr (omega (arith, lj, d, fj, far))) same
              ∙ b.stacked j temp fj (omega (arith, lj, d)) e

  all_stacked : (cnt k : ℕ) → 8 ≤ k → (0 < cnt → k + cnt ≡ length args) → length args ≤ k + cnt →
      (n : Machine) (mid : ℕ)
      → IsThere g n mid → Begun k n → (ws : List Instr) →
      ForEach (StackedWords (selecting s p.running.fun) args) k cnt ws
      → HasAt code mid ws → Reached g n (length ws) (mid + length ws) (Begun (length args))
  all_stacked zero k far sum end n mid there b ws none has =
      subst (λ y. Reached g n (length y) (mid + length y) (Begun (length args))) (sym none)
      (reached_nowhere g n mid (Begun (length args)) there (record {
        fits_still = b.fits_still;
        way = b.way;
        stacked = λ j temp fj lj e. b.stacked j temp fj (omega arith) e;
      }))
  all_stacked (suc cnt) k far sum end n mid there b ws form has =
      let q = subst (HasAt code mid) form.4 has in let total = sum (omega arith) in
      subst (λ y. Reached g n (length y) (mid + length y) (Begun (length args))) (sym form.4)
      (reached_both g n mid form.0 form.1 (Begun (k + 1)) (Begun (length args))
      (one_stacked k far (omega arith) n mid there b form.0 form.2 (has_front code mid form.0 form.1 q))
      (λ a there' b'. all_stacked cnt (k + 1) (omega arith) (λ z. omega arith) (omega arith) a
      (mid + length form.0) there'
      b' form.1 form.3 (has_back code mid form.0 form.1 q)))

  -- ---- what is to be read from the moves on

  abbrev stands_aside : ℕ → Bool
  stands_aside a = aside_home (slice_get homes a)

  abbrev others : List ℕ
  others = filter stands_aside args

  -- a place at which those arguments are read, and then what the function goes on with
  abbrev bringing : List TacInstr
  bringing = instr.Call None 0 others ∷ left

  abbrev p' : Point
  p' = onward p bringing

  live_there : (temp : ℕ) → IsLive s p' temp → IsAmong temp others ⊎ IsLive s (onward p left) temp
  live_there temp (now h) = inl h
  live_there temp (temps.onward goes not_written live) = inr live
  live_there temp (ahead l h live) = absurd (none-some l h.1)

  live_here : (temp : ℕ) → IsLive s p' temp → IsLive s p temp
  live_here temp live = by (live_there temp live)
    where
      by : IsAmong temp others ⊎ IsLive s (onward p left) temp → IsLive s p temp
      by (inl a) = lives temp (filter_among stands_aside args temp a).0
      by (inr l) = aside.reads temp l

  own_there : UsesOnly Beside homes (IsLive s p')
  own_there temp r live e = by (live_there temp live)
    where
      by : IsAmong temp others ⊎ IsLive s (onward p left) temp → Beside r
      by (inl a) = (
        aside_from r (ap aside_home (sym e) ∙ (filter_among stands_aside args temp a).1),
        x.usable p.running.fun temp r e,
      )
      by (inr l) = (aside.own temp r l e, x.usable p.running.fun temp r e)

  -- registers in which no argument is passed are as they were
  keeps_there : (n to : Machine) → Fits s (Some p') t n → length to.regs ≡ 32 → to.mem ≡ n.mem
      → ((r : ℕ) → Beside r → register to r ≡ register n r) → Fits s (Some p') t to
  keeps_there n to f long mem alike =
      registers_keep s Beside (inl (omega arith), omega arith) (inl (omega arith), omega arith) p' t n f own_there
      (beside_callers s code x p.running.callers aside.callers) to long mem alike

  record Carried (k : ℕ) (n : Machine) : Type 0 where
    fits_there : Fits s (Some p') t n
    way : register n 31 ≡ register m 31
    stacked : Stacked (length args) n
    moved : (j temp q : ℕ) → j < 8 → slice_get args j ≡ Some temp → IsIn (selecting s p.running.fun) temp q →
        IsPassing q
        → register n (10 + j) ≡ bits (temp_in t temp)
    done : (j temp : ℕ) → j < k → j < 8 → slice_get args j ≡ Some temp → register n (10 + j) ≡ bits (temp_in t temp)

  usable_target : (r : ℕ) → MayCarry r → (0 < r) × (r < 32)
  usable_target r (inl q) = let from = q.0 in let to = q.1 in (omega (arith, from), omega (arith, to))
  usable_target r (inr q) = (omega (arith, q), omega (arith, q))

  beside_stays : (r : ℕ) → Beside r → MayCarry r → ⊥
  beside_stays r b (inl q) = not_passing r b.0 q
  beside_stays r b (inr q) = let l = b.1 in absurd (omega (arith, l, q))

  way_stays : MayCarry 31 → ⊥
  way_stays (inl q) = let to = q.1 in absurd (omega (arith, to))
  way_stays (inr q) = absurd (omega (arith, q))

  carried : (ws : List Instr) → AreMovesTo MayCarry ws
      → ((k temp q : ℕ) → k < 8 → slice_get args k ≡ Some temp → IsIn (selecting s p.running.fun) temp q → IsPassing q
      → moved_from ws (10 + k) ≡ q) → (n : Machine) (mid : ℕ) → IsThere g n mid → Begun (length args) n
      → HasAt code mid ws → Reached g n (length ws) (mid + length ws) (Carried 0)
  carried ws own made n mid there b has =
      reached_full g n mid (length ws) (mid + length ws) there (Moved g (laid s code x) MayCarry usable_target ws n)
      (Carried 0) (moves_run g (laid s code x) MayCarry usable_target ws own n mid there has)
      (λ to long mem w. record {
        fits_there = keeps_there n to (moves_on_law s p t n b.fits_still bringing live_here) long mem
            (λ r l. w r
            ∙ ap (register n) (not_moved g (laid s code x) MayCarry usable_target ws own r (beside_stays r l)));
        way = w 31 ∙ ap (register n) (not_moved g (laid s code x) MayCarry usable_target ws own 31 way_stays) ∙ b.way;
        stacked = λ j temp fj lj e. ap (λ v. kept_at v (t.frame + stack_place j)) mem ∙ b.stacked j temp fj lj e;
        moved = λ j temp q l e i pass.
            w (10 + j) ∙ ap (register n) (made j temp q l e i pass)
            ∙ (registers_read_back_law s p t n b.fits_still temp q (lives temp (j, e)) i.stands i.home).0;
        done = λ j temp lj l e. absurd (omega (arith, lj));
      })

  -- ---- what is brought

  among_others : (temp k : ℕ) → slice_get args k ≡ Some temp → stands_aside temp ≡ true → IsAmong temp others
  among_others temp k e passes_it = among_filter stands_aside args temp (k, e) passes_it

  module _ (k temp : ℕ) (few : k < 8) (e : slice_get args k ≡ Some temp)
      (apart : (q : ℕ) → IsIn (selecting s p.running.fun) temp q → IsAside q) (n : Machine) (mid : ℕ)
      (there_n : IsThere g n mid)
      (c : Carried k n) where
    point : IsAtPoint s code p' mid t n
    point = record { fits = c.fits_there; counter = there_n.counter }

    by_point : stands_aside temp ≡ true → (ws : List Instr) → Bring (selecting s p.running.fun) temp (10 + k) ws →
        HasAt code mid ws
        → Holds g n (length ws) (mid + length ws) (10 + k) (10 + k) (bits (temp_in t temp))
    by_point passes_it ws b has =
        brought s code x p' t n mid point temp (10 + k) (now (among_others temp k e passes_it)) (omega arith)
        (omega arith) ws b
        has

    holds : (ws : List Instr) → Bring (selecting s p.running.fun) temp (10 + k) ws → HasAt code mid ws
        → Holds g n (length ws) (mid + length ws) (10 + k) (10 + k) (bits (temp_in t temp))
    holds ws (words.Made v z makes less) has =
        subst (Holds g n (length ws) (mid + length ws) (10 + k) (10 + k))
        (sym (numbers_read_back_law s p t m fits temp v (lives temp (k, e)) z).0)
        (numbers_are_made_law g (laid s code x) n mid there_n (10 + k) v (omega arith) (omega arith) ws makes has)
    holds ws (words.There i z) has =
        by_point (ap aside_home i.home ∙ aside_true (10 + k) (apart (10 + k) i)) ws (words.There i z) has
    holds ws (words.Moved q i d z) has =
        by_point (ap aside_home i.home ∙ aside_true q (apart q i)) ws (words.Moved q i d z) has
    holds ws (words.Loaded offset i z) has = by_point (ap aside_home i.home) ws (words.Loaded offset i z) has

    brings : (ws : List Instr) → Bring (selecting s p.running.fun) temp (10 + k) ws → HasAt code mid ws
        → Reached g n (length ws) (mid + length ws) (Carried (k + 1))
    brings ws b has =
        reached_full g n mid (length ws) (mid + length ws) there_n
        (Sets n (10 + k) (10 + k) (bits (temp_in t temp))) (Carried (k + 1))
        (gone g n (length ws) (mid + length ws) (10 + k) (10 + k) (bits (temp_in t temp)) (holds ws b has))
        (λ to long mem h. record {
          fits_there = keeps_there n to c.fits_there long mem
              (λ r l. h.1 r (λ same. not_passing r l.0 (omega (arith, same), omega (arith, same, few))));
          way = h.1 31 (λ same. absurd (omega (arith, same, few))) ∙ c.way;
          stacked = λ j temp' fj lj e'. ap (λ v. kept_at v (t.frame + stack_place j)) mem ∙ c.stacked j temp' fj lj e';
          moved = λ j temp' q l e' i pass. moved_by to h j temp' q l e' i pass (cases_eq j k);
          done = λ j temp' lj l e'. done_by to h j temp' lj l e' (cases_eq j k);
        })
      where
        same_temp : (j temp' : ℕ) → j ≡ k → slice_get args j ≡ Some temp' → temp' ≡ temp
        same_temp j temp' q e' = same_Some temp' temp (sym e' ∙ ap (slice_get args) q ∙ e)

        moved_by : (to : Machine) → Sets n (10 + k) (10 + k) (bits (temp_in t temp)) to → (j temp' q : ℕ) → j < 8
            → slice_get args j ≡ Some temp' → IsIn (selecting s p.running.fun) temp' q → IsPassing q →
            ((j ≡ k) ⊎ (j ≡ k → ⊥))
            → register to (10 + j) ≡ bits (temp_in t temp')
        moved_by to h j temp' q l e' i pass (inl same) =
            absurd (not_passing q (apart q (subst (λ y. IsIn (selecting s p.running.fun) y q)
            (same_temp j temp' same e') i)) pass)
        moved_by to h j temp' q l e' i pass (inr d) =
            h.1 (10 + j) (λ z. d (let w : j ≡ k = omega (arith, z) in w)) ∙ c.moved j temp' q l e' i pass

        done_by : (to : Machine) → Sets n (10 + k) (10 + k) (bits (temp_in t temp)) to → (j temp' : ℕ) → j < k + 1 →
            j < 8
            → slice_get args j ≡ Some temp' → ((j ≡ k) ⊎ (j ≡ k → ⊥)) → register to (10 + j) ≡ bits (temp_in t temp')
        done_by to h j temp' lj l e' (inl same) =
            ap (λ i. register to (10 + i)) same ∙ h.0
            ∙ ap (λ i. bits (temp_in t i)) (sym (same_temp j temp' same e'))
        done_by to h j temp' lj l e' (inr d) =
            h.1 (10 + j) (λ z. d (let w : j ≡ k = omega (arith, z) in w)) ∙ c.done j temp' (omega (arith, lj, d)) l e'

  one_brought : (k : ℕ) → k < 8 → (n : Machine) (mid : ℕ) → IsThere g n mid → Carried k n → (ws : List Instr)
      → BroughtWords (selecting s p.running.fun) args k ws → HasAt code mid ws
      → Reached g n (length ws) (mid + length ws) (Carried (k + 1))
  one_brought k few n mid there c ws (passing.Moved temp q e i pass none) has =
      subst (λ y. Reached g n (length y) (mid + length y) (Carried (k + 1))) (sym none)
      (reached_nowhere g n mid (Carried (k + 1)) there (record {
        fits_there = c.fits_there;
        way = c.way;
        stacked = c.stacked;
        moved = c.moved;
        done = λ j temp' lj l e'. done_by j temp' lj l e' (cases_eq j k);
      }))
    where
      done_by : (j temp' : ℕ) → j < k + 1 → j < 8 → slice_get args j ≡ Some temp' → ((j ≡ k) ⊎ (j ≡ k → ⊥))
          → register n (10 + j) ≡ bits (temp_in t temp')
      done_by j temp' lj l e' (inl same) =
          let one : temp ≡ temp' = same_Some temp temp' (sym e ∙ ap (slice_get args) (sym same) ∙ e') in
          c.moved j temp' q l e' (subst (λ y. IsIn (selecting s p.running.fun) y q) one i) pass
      done_by j temp' lj l e' (inr d) = c.done j temp' (omega (arith, lj, d)) l e'
  one_brought k few n mid there c ws (passing.Brought temp e apart b) has =
      brings k temp few e apart n mid there c ws b has

  all_brought : (cnt k : ℕ) → k + cnt ≡ min (length args) 8 → (n : Machine) (mid : ℕ) → IsThere g n mid → Carried k n
      → (ws : List Instr) → ForEach (BroughtWords (selecting s p.running.fun) args) k cnt ws → HasAt code mid ws
      → Reached g n (length ws) (mid + length ws) (Carried (min (length args) 8))
  all_brought zero k sum n mid there c ws none has =
      let all : k ≡ min (length args) 8 = omega arith in
      subst (λ y. Reached g n (length y) (mid + length y) (Carried (min (length args) 8))) (sym none)
      (reached_nowhere g n mid (Carried (min (length args) 8)) there (subst (λ i. Carried i n) all c))
  all_brought (suc cnt) k sum n mid there c ws form has =
      let q = subst (HasAt code mid) form.4 has in
      subst (λ y. Reached g n (length y) (mid + length y) (Carried (min (length args) 8))) (sym form.4)
      (reached_both g n mid form.0 form.1 (Carried (k + 1)) (Carried (min (length args) 8))
      (one_brought k (omega arith) n mid there c form.0 form.2 (has_front code mid form.0 form.1 q))
      (λ a there' c'. all_brought cnt (k + 1) (omega arith) a (mid + length form.0) there' c' form.1 form.3
      (has_back code mid form.0 form.1 q)))

  -- ---- all of it

  all : (at : ℕ) → IsThere g m at → (ws : List Instr) → ArgumentWords (selecting s p.running.fun) args ws →
      HasAt code at ws
      → Reached g m (length ws) (at + length ws) (Carried (min (length args) 8))
  all at there ws form has =
      let q = subst (HasAt code at) form.are has in
      let h1 = has_back code at form.stores (form.moves ++ form.brings) q in
      subst (λ y. Reached g m (length y) (at + length y) (Carried (min (length args) 8))) (sym form.are)
      (reached_both g m at form.stores (form.moves ++ form.brings) (Begun (length args)) (Carried (min (length args) 8))
      (all_stacked (length args - 8) 8 (omega arith) (λ z. omega (arith, z)) (omega arith) m at there
      (record { fits_still = fits; way = refl; stacked = λ j temp fj lj e. absurd (omega (arith, fj, lj)) }) form.stores
      form.stacked (has_front code at form.stores (form.moves ++ form.brings) q))
      (λ a there_a ba.
      reached_both g a (at + length form.stores) form.moves form.brings (Carried 0) (Carried (min (length args) 8))
      (carried form.moves form.own form.moved a (at + length form.stores) there_a ba
      (has_front code (at + length form.stores) form.moves form.brings h1))
      (λ b there_b cb.
      all_brought (min (length args) 8) 0 (omega arith) b (at + length form.stores + length form.moves) there_b cb
      form.brings form.brought (has_back code (at + length form.stores) form.moves form.brings h1))))

  passes : (at : ℕ) → IsAtPoint s code p at t m → (ws : List Instr) → ArgumentWords (selecting s p.running.fun) args ws
      → HasAt code at ws → PassesArguments s code p left args (at + length ws) (length ws) t m
  passes at point ws form has =
      let r = all at (there s code x p at t m point) ws form has in
      record {
        count = length ws;
        few = omega arith;
        to = r.to;
        leads = r.leads;
        point = record {
          fits = moves_on_law s p' t r.to r.has.fits_there left
              (λ temp live. temps.onward refl (λ h. none-some temp h.1) live);
          counter = r.there.counter;
        };
        registers = λ k temp few e. r.has.done k temp
            (let l = slice_get_within args k temp e in omega (arith, l, few)) few
            e;
        stack = λ k temp far e. r.has.stacked k temp far (slice_get_within args k temp e) e;
        way = r.has.way;
      }

pub arguments_pass_law : ArgumentsPass
arguments_pass_law s code x stack p left aside frame is args lives room at t m point ws form has =
    passes s code x stack p left aside frame is args lives room t m point.fits at point ws form has
