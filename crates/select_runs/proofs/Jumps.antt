-- Jumps and branches to a label of the function.
use Rattle.std.proofs.Common.{◌≡◌, ℕ, zero, ◌+◌, ◌%◌, ◌^◌, ◌<◌, ◌≤◌, ℤ, pos, Bool, true, false, not, List, [], ◌∷◌}
use Rattle.std.proofs.Common.{length, Some, refl, sym, ap, ◌∙◌, subst, arith, if◌then◌else◌}
use Rattle.std.specs.Prelude.{slice_get, ◌==◌, Result, Ok}
use Rattle.std.proofs.lemmas.List.{length-append}
use Rattle.std.proofs.lemmas.Option.{slice_get_within}
use Rattle.ck_base.specs.Runs.{Goes}
use Rattle.ck_base.specs.World.{World}
use Rattle.ck_int.specs.declared.kinds.IntKind.TheVariants as int
use Rattle.ck_int.specs.Kinds.{IsKept, kept_of}
use Rattle.ck_int.proofs.OperationLaws.{IsKept-64, compare_of-Eq_kept, compare_of-Ne}
use Rattle.cap_ops.specs.declared.capability.Cap.{Cap}
use Rattle.cap_ops.specs.Capability.{added}
use Rattle.rv_instr.specs.declared.instr.Instr.{Instr}
use Rattle.rv_instr.specs.declared.instr.Instr.TheVariants.{Branch, Cjal}
use Rattle.cap_machine.specs.Integers.{extended, is_taken}
use Rattle.cap_machine.specs.declared.machine.Machine.{Machine}
use Rattle.cap_machine.specs.declared.end.Step.TheVariants.{Next}
use Rattle.cap_machine.specs.Rows.{row, cjal_row, branch_row}
use Rattle.cap_machine.specs.State.{integer}
use Rattle.cap_machine.specs.Step.{act, act_of, is_call}
use Rattle.c_tree.specs.declared.typed.Typed.{Typed}
use Rattle.obj_mem.specs.declared.ending.Fault.{Fault}
use Rattle.obj_mem.specs.Objects.{base_in}
use Rattle.obj_mem.specs.Table.{addresses_of}
use Rattle.obj_mem.specs.Values.{Value, Int, Live, Fun, Raw, address_of, capability_of}
use Rattle.cheri_c_sem.specs.Kinds.{Kind, Plain, Capability}
use Rattle.cheri_c_sem.specs.Modes.{Store, operations, placed_plan}
use Rattle.cheri_c_sem.specs.Operations.{is_true}
use Rattle.cheri_c_sem.specs.Steps.{State, Fate, answer}
use Rattle.tac_ir.specs.Effects.{Next as Way, effect, way, same, kind_at, temp_in, no_position}
use Rattle.tac_ir.specs.Meaning.{Running}
use Rattle.tac_ir.specs.Temps.{now, ahead, back, onward as further, IsIn as IsAmong}
use Rattle.tac_ir.specs.Temps as temps
use Rattle.tac_ir.specs.declared.code.TacInstr.{TacInstr}
use Rattle.tac_ir.specs.declared.code.TacInstr.TheVariants as instr
use Rattle.place_inject.specs.Values.{IsKnown}
use Rattle.place_inject.specs.Steps.{is_integer}
use Rattle.place_inject.specs.Frames.{Setting, Point, IsLive, functions_of}
use Rattle.place_inject.specs.Homes.{onward}
use Rattle.place_inject.proofs.Getting.{getting_fits_law}
use Rattle.place_inject.proofs.Results.{moves_on_law}
use Rattle.place_inject.proofs.StoresKeep.{scratch_keeps_law}
use Rattle.select_words.specs.Standing.{HasAt}
use Rattle.select_words.specs.Jumps.{inverted, BranchWords}
use Rattle.select_runs.specs.Acts.{Ground, IsThere, Leads, counter_at, place}
use Rattle.select_runs.specs.Kinds.{IsOfKind, AreOfKinds}
use Rattle.select_runs.specs.Operands.{ground_of, IsText, IsAtPoint}
use Rattle.select_runs.specs.Results.{Arrives, before, behind, code_in, kinds_in}
use Rattle.select_runs.specs.Jumps.{LeadsTo, JumpsRun, Branches, Taken, Passed, BranchesRun}
use Rattle.select_runs.proofs.Acts.{counter_moved, fetched_here, act_on_row, has_front, has_back, join}
use Rattle.select_runs.proofs.Numbers.{null_address}
use Rattle.select_runs.proofs.Points.{laid, there}
use Rattle.select_runs.proofs.Results.{reads_as_before}
use Rattle.select_runs.proofs.Simple.{operand_few}
use Rattle.select_runs.proofs.Working.{Got, operand_got, integer_bits}
use Rattle.select_runs.specs.Selecting.{selecting}

module _ (s : Setting) (code : List Instr) (x : IsText s code) where
  abbrev g : Ground
  g = ground_of s code

  abbrev pub landed : Machine → ℕ → Machine
  landed m to = record m { pc = counter_at g to }

  -- a word that changes the counter alone
  pub hops : (m : Machine) (at to by : ℕ) (i : Instr) → IsThere g m at → slice_get code at ≡ Some i → is_call i ≡ false
      → row m i ≡ (Next, record m { pc = added m.pc by }) → to ≤ length code
      → (place g at + by) % 2 ^ 64 ≡ place g to → act m ≡ Goes (landed m to)
  hops m at to by i h has plain does inside sum =
      let from = slice_get_within code at i has in
      fetched_here g (laid s code x) m at i h.counter h.text has ∙ act_on_row m i plain ∙ ap act_of does
      ∙ ap (λ (c : Cap). Goes (record m { pc = c }))
      (ap (λ c. added c by) h.counter ∙ counter_moved g (laid s code x) at to by (omega arith) inside sum)

  jumps : (m : Machine) (at to : ℕ) (z : ℤ) → IsThere g m at → LeadsTo s code at to z → slice_get code at ≡ Some
      (Cjal 0 z)
      → act m ≡ Goes (landed m to)
  unfolding row cjal_row
  jumps m at to z h leads has = hops m at to (extended z) (Cjal 0 z) h has refl refl leads.inside leads.there

  -- the machine still stands for the state, at what is read no more than before
  pub lands : (p : Point) (rest : List TacInstr) → ((temp : ℕ) → IsLive s (onward p rest) temp → IsLive s p temp) →
      (at to : ℕ)
      → (t : State Store) (m : Machine) → IsAtPoint s code p at t m → IsAtPoint s code (onward p rest) to t
      (landed m to)
  lands p rest reads at to t m point = record {
    fits = scratch_keeps_law s x.usable (Some (onward p rest)) t m (moves_on_law s p t m point.fits rest reads)
        (landed m to)
        point.fits.registers refl (λ r l. refl);
    counter = refl;
  }

  arrives : (p : Point) (rest : List TacInstr) → ((temp : ℕ) → IsLive s (onward p rest) temp → IsLive s p temp)
      → (count least most at to : ℕ) (z : ℤ) (t : State Store) (m n : Machine) → Leads count m n
      → IsAtPoint s code p at t n
      → LeadsTo s code at to z → slice_get code at ≡ Some (Cjal 0 z) → least ≤ count + 1 → count + 1 ≤ most
      → Arrives s code (onward p rest) least most to t m
  arrives p rest reads count least most at to z t m n leads point leads_to has ge le = record {
    count = count + 1;
    to = landed n to;
    ge = ge;
    le = le;
    leads = join count 1 m n (landed n to) leads (
      landed n to,
      jumps n at to z
          (there s code x p at t n point) leads_to has,
      refl,
    );
    point = lands p rest reads at to t n point;
  }

pub jumps_run_law : JumpsRun
jumps_run_law s code x w p running l rest at to z leads has t m = record {
  ahead = λ point. record {
    means = λ k. refl;
    does = arrives s code x (before running (instr.Jump l) rest) (temps.behind l rest) (λ temp live. ahead l
        (zero, refl) live)
        0 1 1 at to z t m m refl point leads has.0 (omega arith) (omega arith);
  };
  back = λ point. record {
    means = λ k. refl;
    does = arrives s code x (before running instr.Turn (instr.Jump l ∷ rest)) (temps.behind l (code_in s running))
        (λ temp live. back l (zero, refl) live) 0 1 1 at to z t m m refl point leads has.0 (omega arith) (omega arith);
  };
}

-- ---- truth

-- the address that a value's capability has
pub address_there : (s : Setting) (code : List Instr) (x : IsText s code) (p : Point) (at : ℕ) (t : State Store)
    (m : Machine)
    → IsAtPoint s code p at t m → (v : Value) → IsKnown t.mem.memory.shapes (functions_of s) v
    → (capability_of (addresses_of s.map) (base_in t.mem.memory.shapes) v).fields.address
    ≡ address_of (addresses_of s.map) (base_in t.mem.memory.shapes) v
address_there s code x p at t m point v known = by v known
  where
    number_in : Result ℕ Fault → ℕ
    number_in (Ok n) = n
    number_in e = 0

    pointer : (u : Value) → is_integer u ≡ false → IsKnown t.mem.memory.shapes (functions_of s) u
        → (capability_of (addresses_of s.map) (base_in t.mem.memory.shapes) u).fields.address
        ≡ address_of (addresses_of s.map) (base_in t.mem.memory.shapes) u
    pointer u i k = ap number_in (sym ((getting_fits_law (functions_of s)
        (addresses_of s.map) t.mem.memory m.mem point.fits.objects
        x.legal.text_exact).getters u (i, k)).addresses)

    by : (u : Value) → IsKnown t.mem.memory.shapes (functions_of s) u
        → (capability_of (addresses_of s.map) (base_in t.mem.memory.shapes) u).fields.address
        ≡ address_of (addresses_of s.map) (base_in t.mem.memory.shapes) u
    by (Int n) k = ap (λ (c : Cap). c.fields.address) (integer_bits (addresses_of s.map)
        (base_in t.mem.memory.shapes) n) ∙ null_address n
    by (Live object low high offset permissions) k = pointer (Live object low high offset permissions) refl k
    by (Fun f) k = pointer (Fun f) refl k
    by (Raw address upper) k = pointer (Raw address upper) refl k

-- a value has an address of 64 bits
pub address_below : (s : Setting) (code : List Instr) (x : IsText s code) (p : Point) (at : ℕ) (t : State Store)
    (m : Machine)
    → IsAtPoint s code p at t m → (v : Value) → IsKnown t.mem.memory.shapes (functions_of s) v
    → address_of (addresses_of s.map) (base_in t.mem.memory.shapes) v < 2 ^ 64
address_below s code x p at t m point (Int n) k = k
address_below s code x p at t m point (Live object low high offset permissions) k = omega arith
address_below s code x p at t m point (Fun f) k =
    let spread = point.fits.objects.spread in
    let inside = spread.in_text f k in
    let below = inside.1 in
    let top = spread.text_to in
    omega arith
address_below s code x p at t m point (Raw address upper) k = k.0

pub zero_kept : (k : _) → IsKept k 0
unfolding Rattle.ck_int.specs.Kinds.wrapped Rattle.ck_int.specs.Kinds.reduced kept_of
zero_kept int.Bool = record { kept = refl }
zero_kept int.I8 = record { kept = refl }
zero_kept int.U8 = record { kept = refl }
zero_kept int.I16 = record { kept = refl }
zero_kept int.U16 = record { kept = refl }
zero_kept int.I32 = record { kept = refl }
zero_kept int.U32 = record { kept = refl }
zero_kept int.I64 = record { kept = refl }
zero_kept int.U64 = record { kept = refl }

-- a value is true where its address is other than 0
pub truth_is : (s : Setting) (t : State Store) (k : Kind) (v : Value) → IsOfKind k v
    → is_true (operations (placed_plan s.map)) t.mem k v
    ≡ Ok (not (address_of (addresses_of s.map) (base_in t.mem.memory.shapes) v == 0))
unfolding operations
truth_is s t (Plain k) (Int n) o =
    ap (λ b. Ok b) (compare_of-Ne k n 0 ∙ ap not (compare_of-Eq_kept k n 0 o (zero_kept k)))
truth_is s t (Plain k) (Live object low high offset permissions) o = absurd o
truth_is s t (Plain k) (Fun f) o = absurd o
truth_is s t (Plain k) (Raw address upper) o = absurd o
truth_is s t (Capability signed) v o = refl

not_not : (b : Bool) → not (not b) ≡ b
not_not true = refl
not_not false = refl

-- ---- branches

module _ (s : Setting) (code : List Instr) (x : IsText s code) (w : World) (p : Typed) (running : Running) (on : ℕ)
    (when : Bool)
    (l : ℕ) (rest : List TacInstr) (below : on < length (kinds_in s running)) (at to : ℕ) (z : ℤ)
    (finds words : List Instr)
    (form : BranchWords (selecting s running.fun) on when z finds words) (has : HasAt code at words)
    (leads : LeadsTo s code (at + length finds + 1) to z) (t : State Store) (m : Machine)
    (kinded : AreOfKinds (kinds_in s running) t.vars) where
  abbrev branch : TacInstr
  branch = instr.Branch on when l

  -- the address that is tested, and what the test says
  abbrev number : ℕ
  number = address_of (addresses_of s.map) (base_in t.mem.memory.shapes) (temp_in t on)

  abbrev goes : Bool
  goes = same (operations (placed_plan s.map)) w p when (not (number == 0))

  taken_is : number < 2 ^ 64 → (b : Bool) → when ≡ b → is_taken (inverted when) number 0 ≡ not goes
  unfolding is_taken
  taken_is small true e =
      rw e (compare_of-Eq_kept int.I64 number 0 (IsKept-64 int.I64 number refl small) (zero_kept int.I64) ∙ sym
      (not_not (number == 0)))
  taken_is small false e =
      rw e (compare_of-Ne int.I64 number 0
      ∙ ap not (compare_of-Eq_kept int.I64 number 0 (IsKept-64 int.I64 number refl small) (zero_kept int.I64))
      ∙ sym (not_not (not (number == 0))))

  -- what the instruction leads to, by the test
  by_test : (c : Bool) → goes ≡ c → (k : Way → State Store → Fate)
      → effect (operations (placed_plan s.map)) w p (kinds_in s running) branch t k ≡ k (way (operations
      (placed_plan s.map)) w p c l) t
  by_test c e k =
      ap (λ r. answer no_position r t (λ b u. k (way (operations (placed_plan s.map)) w p (same (operations
      (placed_plan s.map)) w p when b) l) u))
      (truth_is s t (kind_at (kinds_in s running) on) (temp_in t on) (kinded.each on below))
      ∙ ap (λ b. k (way (operations (placed_plan s.map)) w p b l) t) e

  -- from a point at which the branch's operand is to be read
  module _ (front then_on : List TacInstr) (live : IsLive s (behind running front) on)
      (to_label : (temp : ℕ) → IsLive s (behind running then_on) temp → IsLive s (behind running front) temp)
      (onwards : (temp : ℕ) → IsLive s (behind running rest) temp → IsLive s (behind running front) temp)
      (point : IsAtPoint s code (behind running front) at t m) where
    abbrev here : Point
    here = behind running front

    abbrev mid : ℕ
    mid = at + length finds

    ends : HasAt code mid (Branch (inverted when) form.a 0 (pos 8) ∷ Cjal 0 z ∷ [])
    ends = has_back code at finds _ (subst (HasAt code at) form.are has)

    found : Got s code here t m m (length finds) mid 28 form.a
        (capability_of (addresses_of s.map) (base_in t.mem.memory.shapes) (temp_in t on))
    found =
        let e : 0 + length finds ≡ length finds = omega arith in
        subst (λ k. Got s code here t m m k mid 28 form.a (capability_of (addresses_of s.map)
        (base_in t.mem.memory.shapes) (temp_in t on))) e
        (operand_got s code x here t m m 0 at refl point on 28 form.a live (omega arith) (omega arith) finds form.found
        (has_front code at finds _ (subst (HasAt code at) form.are has)))

    known : IsKnown t.mem.memory.shapes (functions_of s) (temp_in t on)
    known = point.fits.calls.1.known on live

    number_there : integer found.to form.a ≡ number
    number_there = ap (λ (c : Cap). c.fields.address) found.holds ∙ address_there s code x here at t m point
        (temp_in t on) known

    tested : (c : Bool) → goes ≡ c → row found.to (Branch (inverted when) form.a 0 (pos 8))
        ≡ (Next, record found.to { pc = added found.to.pc (if not c then extended (pos 8) else 4) })
    unfolding row branch_row
    tested c e =
        ap (λ n. (
          Next,
          record found.to {
            pc = added found.to.pc (if is_taken (inverted when) n
                (integer found.to 0) then extended (pos 8) else 4);
          },
        ))
        number_there
        ∙ ap (λ n. (
          Next,
          record found.to {
            pc = added found.to.pc (if is_taken (inverted when) number n then extended
                (pos 8) else 4);
          },
        ))
        (null_address 0)
        ∙ ap (λ b. (Next, record found.to { pc = added found.to.pc (if b then extended (pos 8) else 4) }))
        (taken_is (address_below s code x here at t m point (temp_in t on) known) when refl ∙ ap not e)

    eight : extended (pos 8) ≡ 8
    unfolding kept_of
    eight = refl

    few : length finds ≤ 3
    few = operand_few s running.fun on 28 finds form.a form.found

    here_now : IsThere (ground_of s code) found.to mid
    here_now = there s code x here mid t found.to found.point

    inside : mid + 1 < length code
    inside = slice_get_within code (mid + 1) (Cjal 0 z) ends.1.0

    goes_there : goes ≡ true → Arrives s code (behind running then_on) 1 5 to t m
    goes_there e =
        let room = x.room in let top = x.legal.in_range.1 in
        let n : Machine = landed s code x found.to (mid + 1) in
        let hop = hops s code x found.to mid (mid + 1) 4 (Branch (inverted when) form.a 0
        (pos 8)) here_now ends.0 refl (tested true e)
        (omega (arith, inside)) (omega (arith, inside, room, top)) in
        arrives s code x here then_on to_label (length finds + 1) 1 5 (mid + 1) to z t m n
        (join (length finds) 1 m found.to n found.leads (n, hop, refl))
        (lands s code x here front (λ temp h. h) mid (mid + 1) t found.to found.point) leads ends.1.0 (omega arith)
        (omega (arith, few))

    passes : goes ≡ false → Arrives s code (behind running rest) 0 5 (at + length words) t m
    passes e =
        let room = x.room in let top = x.legal.in_range.1 in
        let end : at + length words ≡ mid + 2 =
        ap (λ y. at + length y) form.are
        ∙ omega (arith, length-append finds (Branch (inverted when) form.a 0 (pos 8) ∷ Cjal 0 z ∷ [])) in
        let n : Machine = landed s code x found.to (mid + 2) in
        let hop = hops s code x found.to mid (mid + 2) 8 (Branch (inverted when) form.a 0 (pos 8)) here_now ends.0 refl
        (tested false e ∙ ap (λ k. (Next, record found.to { pc = added found.to.pc k })) eight)
        (omega (arith, inside)) (omega (arith, inside, room, top)) in
        record {
          count = length finds + 1;
          to = n;
          ge = omega arith;
          le = omega (arith, few);
          leads = join (length finds) 1 m found.to n found.leads (n, hop, refl);
          point = subst (λ k. IsAtPoint s code (behind running rest) k t n) (sym end)
              (lands s code x here rest onwards mid (mid + 2) t found.to found.point);
        }

    branches : Branches s code w p running branch l then_on rest to (at + length words) t m
    branches = by goes refl
      where
        by : (c : Bool) → goes ≡ c → Branches s code w p running branch l then_on rest to (at + length words) t m
        by true e = Taken (record { means = by_test true e; does = goes_there e })
        by false e = Passed (by_test false e) (passes e)

pub branches_run_law : BranchesRun
branches_run_law s code x w p running on when l rest below at to z finds words form has leads t m kinded = record {
  ahead = λ point. branches s code x w p running on when l rest below at to z finds words form has leads t m kinded
      (instr.Branch on when l ∷ rest) (temps.behind l rest) (now (zero, refl)) (λ temp live. ahead l (zero, refl) live)
      (λ temp live. reads_as_before s running (instr.Branch on when l) rest refl refl temp live) point;
  back = λ point. branches s code x w p running on when l rest below at to z finds words form has leads t m kinded
      (instr.Turn ∷ instr.Branch on when l ∷ rest) (temps.behind l (code_in s running))
      (turned on (now (zero, refl)))
      (λ temp live. back l (zero, refl) live)
      (λ temp live. turned temp (reads_as_before s running (instr.Branch on when l) rest refl refl temp live)) point;
}
  where
    turned : (temp : ℕ) → IsLive s (before running (instr.Branch on when l) rest) temp
        → IsLive s (before running instr.Turn (instr.Branch on when l ∷ rest)) temp
    turned temp live = reads_as_before s running instr.Turn (instr.Branch on when l ∷ rest) refl refl temp live
