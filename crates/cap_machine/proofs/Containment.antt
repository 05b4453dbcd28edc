-- An act keeps a contained state, and so does a run of any length in any world of bytes.
use Rattle.std.proofs.Common.{◌≡◌, ℕ, zero, suc, ◌-◌, ◌^◌, ◌<◌, inl, inr, Bool, true, false, List, Option, Some, None}
use Rattle.std.proofs.Common.{Result, Ok, Err, refl, sym, ap, ◌∙◌, subst, arith}
use Rattle.std.specs.Prelude.{IfSome, slice_get, length, ◌==◌, if◌then◌else◌}
use Rattle.std.proofs.lemmas.Bool.{false≢true, eq-eqb}
use Rattle.std.proofs.lemmas.Option.{same_Some}
use Rattle.ck_base.specs.World.{World, Done, GivesBytes, fails_after, nothing_done}
use Rattle.ck_base.specs.Runs.{Act, Goes, Puts, Reads, Ends, Stopped, stopped, with_put, with_read, act_in, run}
use Rattle.cap_ops.specs.declared.access.Access.TheVariants as access
use Rattle.cap_ops.specs.declared.access.Cause.{Cause}
use Rattle.cap_ops.specs.Access.{checked}
use Rattle.rv_instr.specs.declared.instr.Instr.{Instr}
use Rattle.rv_instr.specs.declared.instr.Instr.TheVariants.{Upper, Cjal, Cjalr, Branch, Load, Store, Clc, Imm, Shift}
use Rattle.rv_instr.specs.declared.instr.Instr.TheVariants.{Op, Ecall, Ebreak, CapImm, CapReg, CapGet}
use Rattle.rv_code.specs.Decoding.{decode_of}
use Rattle.tag_mem.specs.Memory.{number_at}
use Rattle.cap_machine.specs.declared.machine.Machine.{Machine}
use Rattle.cap_machine.specs.declared.end.End.{End}
use Rattle.cap_machine.specs.declared.end.End.TheVariants.{Exit, Illegal, Steps, ReadFault, WriteFault}
use Rattle.cap_machine.specs.State.{integer, counter}
use Rattle.cap_machine.specs.Rows.{row}
use Rattle.cap_machine.specs.Step.{decoded, read, fetch_checked, fetched, low_byte, answered, read_value, call, act_of}
use Rattle.cap_machine.specs.Step.{act_on, act_fetched, act, limits, ending_of}
use Rattle.cap_machine.specs.ContainedText.{Text, LiesWell, word_at, instr_at, Stands, is_allowed, IsContainedText}
use Rattle.cap_machine.specs.Containment.{IsContained, IsProper, Keeps, LeavesContained, RunsContained}
use Rattle.cap_machine.specs.declared.end.Step.{Step}
use Rattle.cap_machine.specs.declared.end.Step.TheVariants.{Next, Ended}
use Rattle.cap_machine.proofs.Endings.{EndsWell}
use Rattle.cap_machine.proofs.Passed.{checked_passes}
use Rattle.cap_machine.proofs.TextMemory.{word_read}
use Rattle.cap_machine.proofs.KeptRows.{set_integer_kept, upper_kept, op_kept, shift_kept, imm_kept, branch_kept}
use Rattle.cap_machine.proofs.KeptRows.{cjal_kept, cjalr_kept, load_kept, clc_kept, store_kept, cap_imm_kept}
use Rattle.cap_machine.proofs.KeptRows.{cap_reg_kept, cap_get_kept}

pub byte_read : (w : World) → GivesBytes w → (k : ℕ) (o : Option ℕ) → slice_get w.bytes k ≡ o → IfSome o (λ b. b < 256)
byte_read w bytes k None e = tt
byte_read w bytes k (Some b) e = bytes k b e

module _ (t : Text) (well : LiesWell t) (text : IsContainedText t) where
  module _ (m : Machine) (has : IsContained t m) where
    -- ---- environment calls

    answered_kept : Stands t (counter m) Ecall → (n : ℕ) → n < 2 ^ 64 → IsContained t (answered m n)
    answered_kept s n below = set_integer_kept t well text m has Ecall s refl refl 10 n below

    read_kept : Stands t (counter m) Ecall → (o : Option ℕ) → IfSome o (λ b. b < 256) →
        IsContained t (answered m (read_value o))
    read_kept s None h = answered_kept s (2 ^ 64 - 1) (omega arith)
    read_kept s (Some b) h = answered_kept s b (omega arith)

    call_kept : Stands t (counter m) Ecall → Keeps t (call m)
    unfolding call
    call_kept s = by (integer m 17 == 1) (integer m 17 == 2) (integer m 17 == 3) refl refl refl
      where
        by : (a b c : Bool) → (integer m 17 == 1) ≡ a → (integer m 17 == 2) ≡ b → (integer m 17 == 3) ≡ c
            → Keeps t (if a then Puts (low_byte m) (answered m (low_byte m)) else if b
            then Reads (λ byte. answered m (read_value byte)) else if c then Ends (Exit (low_byte m))
            else Ends (Illegal (counter m)))
        by true b c one two three = answered_kept s (low_byte m) (omega arith)
        by false true c one two three = λ o h. read_kept s o h
        by false false true one two three = tt
        by false false false one two three = elim (has.service s) [
          | inl e ↦ false≢true (sym one ∙ eq-eqb (integer m 17) 1 e)
          | inr more ↦ elim more [
            | inl e ↦ false≢true (sym two ∙ eq-eqb (integer m 17) 2 e)
            | inr e ↦ false≢true (sym three ∙ eq-eqb (integer m 17) 3 e)
          ]
        ]

    -- ---- each instruction

    act_on_kept : (i : Instr) → Stands t (counter m) i → is_allowed i ≡ true → Keeps t (act_on m i)
    unfolding row
    act_on_kept (Upper op rd n) s a = upper_kept t well text m has op rd n s a
    act_on_kept (Cjal rd z) s a = cjal_kept t well text m has rd z s
    act_on_kept (Cjalr rd rs1 z) s a = cjalr_kept t well text m has rd rs1 z s
    act_on_kept (Branch op rs1 rs2 z) s a = branch_kept t well text m has op rs1 rs2 z s
    act_on_kept (Load op rd rs1 z) s a = load_kept t well text m has op rd rs1 z s
    act_on_kept (Store op rs2 rs1 z) s a = store_kept t well text m has op rs2 rs1 z s
    act_on_kept (Clc rd rs1 z) s a = clc_kept t well text m has rd rs1 z s
    act_on_kept (Imm op rd rs1 z) s a = imm_kept t well text m has op rd rs1 z s
    act_on_kept (Shift op rd rs1 n) s a = shift_kept t well text m has op rd rs1 n s
    act_on_kept (Op op rd rs1 rs2) s a = op_kept t well text m has op rd rs1 rs2 s
    act_on_kept (CapImm op rd rs1 z) s a = cap_imm_kept t well text m has op rd rs1 z s
    act_on_kept (CapReg op rd rs1 rs2) s a = cap_reg_kept t well text m has op rd rs1 rs2 s
    act_on_kept (CapGet op rd rs1) s a = cap_get_kept t well text m has op rd rs1 s a
    act_on_kept Ebreak s a = absurd (false≢true a)
    act_on_kept Ecall s a = call_kept s

    -- ---- what is fetched is the instruction of the text

    read_by : (o : Option ℕ) → number_at m.mem (counter m) 4 ≡ o → Keeps t (act_fetched m (read m o))
    unfolding instr_at
    read_by None e = tt
    read_by (Some w) e =
        let place = has.pc.place in
        let word : w ≡ word_at t (counter m) =
        same_Some w (word_at t (counter m)) (sym e ∙ word_read t m.mem (counter m) well has.memory place) in
        let found = text.decodes (counter m) place in
        let s : Stands t (counter m) found.0 = record { place = place; is = found.1 } in
        let is : decode_of w ≡ Some found.0 = ap decode_of word ∙ found.1 in
        subst (λ o. Keeps t (act_fetched m (decoded m o))) (sym is)
        (act_on_kept found.0 s (text.allowed (counter m) found.0 s))

    checked_by : (r : Result ℕ Cause) → checked m.pc (counter m) access.Jump ≡ r →
        Keeps t (act_fetched m (fetch_checked m r))
    checked_by (Err e) is = tt
    checked_by (Ok at) is = read_by (number_at m.mem at 4)
        (ap (λ x. number_at m.mem x 4) (checked_passes m.pc (counter m) at access.Jump is).0)

    -- one act keeps containment, and ends neither by Illegal nor by Break
    pub act_kept : Keeps t (act m)
    unfolding act fetched
    act_kept = checked_by (checked m.pc (counter m) access.Jump) refl

  -- ---- runs

  abbrev StopsContained : Stopped Machine End → Type 0
  StopsContained r = LeavesContained t r.state (Some r.ending)

  stops : (m : Machine) (d : Done) (e : End) → IsContained t m → IsProper e → StopsContained (stopped m d e)
  stops m d e has proper = record { state = has; proper = proper }

  acted_kept : (w : World) → GivesBytes w → (m : Machine) (d : Done) → IsContained t m →
      (go : Machine → Done → Stopped Machine End) →
      ((m' : Machine) (d' : Done) → IsContained t m' → StopsContained (go m' d'))
      → (a : Act Machine End) → Keeps t a → StopsContained (act_in limits w m d go a)
  acted_kept w bytes m d has go again (Goes m') kept = again m' d kept
  acted_kept w bytes m d has go again (Puts b m') kept = by (fails_after w.failing_put (length d.output))
    where
      by : (f : Bool) → StopsContained (if f then stopped m d WriteFault else go m' (with_put d b))
      by true = stops m d WriteFault has tt
      by false = again m' (with_put d b) kept
  acted_kept w bytes m d has go again (Reads to) kept = by (fails_after w.failing_read d.reads)
    where
      by : (f : Bool) → StopsContained (if f then stopped m d ReadFault
          else go (to (slice_get w.bytes d.reads)) (with_read d))
      by true = stops m d ReadFault has tt
      by false = again (to (slice_get w.bytes d.reads)) (with_read d)
          (kept (slice_get w.bytes d.reads) (byte_read w bytes d.reads _ refl))
  acted_kept w bytes m d has go again (Ends e) kept = stops m d e has kept

  run_kept : (w : World) → GivesBytes w → (n : ℕ) (m : Machine) (d : Done) → IsContained t m →
      StopsContained (run limits act w n m d)
  unfolding run
  run_kept w bytes zero m d has = stops m d Steps has tt
  run_kept w bytes (suc n) m d has =
      acted_kept w bytes m d has (run limits act w n) (λ m' d' has'. run_kept w bytes n m' d' has') (act m)
      (act_kept m has)

  -- each state of a run up to its end: that after any number of acts
  pub runs_contained : (m : Machine) → IsContained t m → RunsContained t m
  runs_contained m has w bytes steps = run_kept w bytes steps m nothing_done has

-- ---- what a step did

-- a row that was done
pub row_leaves : (t : Text) (m : Machine) (s : Step) (after : Machine) (r : Step × Machine) → IsContained t m →
    EndsWell m r → Keeps t (act_of r) → (s, after) ≡ r → LeavesContained t after (ending_of s)
row_leaves t m s after (Next, to) has well kept e =
    let same : after ≡ to = ap (λ p. p.1) e in
    let how : ending_of s ≡ None = ap (λ p. ending_of p.0) e in
    subst (λ a. LeavesContained t after a) (sym how)
    (record { state = subst (λ n. IsContained t n) (sym same) kept; proper = tt })
row_leaves t m s after (Ended end, to) has well kept e =
    let same : after ≡ m = ap (λ p. p.1) e ∙ well.0 in
    let how : ending_of s ≡ Some end = ap (λ p. ending_of p.0) e in
    subst (λ a. LeavesContained t after a) (sym how)
    (record { state = subst (λ n. IsContained t n) (sym same) has; proper = kept })
