-- Moves among registers, and loads from the frame of a caller.
use Rattle.std.proofs.Common.{◌≡◌, ℕ, ◌+◌, ◌-◌, ◌%◌, ◌^◌, ◌<◌, ◌≤◌, ◌==◌, pos, Bool, true, false, List, [], ◌∷◌, ◌++◌}
use Rattle.std.proofs.Common.{length, refl, sym, ap, ◌∙◌, subst, arith, Some, inl, inr, if◌then◌else◌}
use Rattle.std.specs.Prelude.{nat_lt, slice_get}
use Rattle.std.proofs.lemmas.Bool.{cases_eq, eq-eqb, ne_eqb}
use Rattle.cap_ops.specs.declared.capability.Cap.{Cap}
use Rattle.rv_instr.specs.Range.{InRange}
use Rattle.rv_instr.specs.declared.instr.Instr.{Instr}
use Rattle.rv_instr.specs.declared.instr.Instr.TheVariants.{Clc, CapGet}
use Rattle.rv_instr.specs.declared.ops.CapGetOp.TheVariants.{Cmove}
use Rattle.tag_mem.specs.Areas.{is_inside}
use Rattle.cap_machine.specs.declared.machine.Machine.{Machine}
use Rattle.cap_machine.specs.State.{register}
use Rattle.cap_machine.specs.Rows.{row, cap_get_row}
use Rattle.obj_mem.specs.Pointers.{keeps}
use Rattle.purecap_abi.specs.Words.{low, near_code, load_code}
use Rattle.place_inject.specs.Parts.{kept_at}
use Rattle.place_inject.specs.Frames.{Setting, stack_top, stack_pointer}
use Rattle.place_inject.specs.Spills.{StackIsThere}
use Rattle.place_inject.proofs.Reaching.{stack_reaches_law}
use Rattle.select_words.specs.Standing.{HasAt}
use Rattle.select_words.specs.Entries.{moved_from, AreMovesTo}
use Rattle.select_runs.specs.Acts.{Ground, Laid, Holds, IsThere}
use Rattle.select_runs.specs.Operands.{ground_of, IsText}
use Rattle.select_runs.proofs.Acts.{has_back, one_set}
use Rattle.select_runs.proofs.Epilogue.{one_load}
use Rattle.select_runs.proofs.Far.{far, far_low, near_low, near as far_near}
use Rattle.select_runs.proofs.Points.{laid}
use Rattle.select_runs.proofs.Stretches.{Gone, Sets, gone, gone_as, gone_both, gone_nowhere}

-- ---- moves

module _ (g : Ground) (laid_out : Laid g) (Is : ℕ → Type 0) (usable : (r : ℕ) → Is r → (0 < r) × (r < 32)) where
  -- each register has what the register had that it comes from
  abbrev pub Moved : List Instr → Machine → Machine → Type 0
  Moved ws n to = (r : ℕ) → register to r ≡ register n (moved_from ws r)

  pub moves_run : (ws : List Instr) → AreMovesTo Is ws → (n : Machine) (mid : ℕ) → IsThere g n mid → HasAt g.code mid ws
      → Gone g n (length ws) (mid + length ws) (Moved ws n)
  unfolding moved_from row cap_get_row
  moves_run [] own n mid there has = gone_nowhere g n mid (Moved [] n) there (λ r. refl)
  moves_run (CapGet Cmove to from ∷ is) own n mid there has =
      gone_both g n mid there (CapGet Cmove to from ∷ []) is (Sets n to to (register n from))
      (Moved (CapGet Cmove to from ∷ is) n)
      (gone g n 1 (mid + 1) to to (register n from) (one_set g laid_out n mid there (CapGet Cmove to from) to
      (register n from) has.0 refl (usable to own.0).0 (usable to own.0).1 refl))
      (λ a there' mem h.
      gone_as g a (length is) (mid + 1 + length is) (Moved is a) (Moved (CapGet Cmove to from ∷ is) n)
      (moves_run is own.1 a (mid + 1) there' has.1)
      (λ b w r. w r ∙ one a h (moved_from is r)))
    where
      one : (a : Machine) → Sets n to to (register n from) a → (q : ℕ)
          → register a q ≡ register n (if q == to then from else q)
      one a h q = elim (cases_eq q to) as (λ _. register a q ≡ register n (if q == to then from else q)) [
        | inl same ↦
            ap (register a) same ∙ h.0
            ∙ ap (λ b. register n (if b then from else q)) (sym (eq-eqb q to same))
        | inr other ↦ h.1 q other ∙ ap (λ b. register n (if b then from else q)) (sym (ne_eqb q to other))
      ]
  moves_run (i ∷ is) own n mid there has = absurd own.0

  pub not_moved : (ws : List Instr) → AreMovesTo Is ws → (r : ℕ) → (Is r → ⊥) → moved_from ws r ≡ r
  unfolding moved_from
  not_moved [] own r apart = refl
  not_moved (CapGet Cmove to from ∷ is) own r apart =
      ap (λ q. if q == to then from else q) (not_moved is own.1 r apart)
      ∙ ap (λ b. if b then from else r) (ne_eqb r to (λ e. apart (subst Is (sym e) own.0)))
  not_moved (i ∷ is) own r apart = absurd own.0

-- ---- a load from the stack, at any distance

module _ (s : Setting) (code : List Instr) (x : IsText s code) (stack : StackIsThere s) (n : Machine) (mid : ℕ)
    (there : IsThere (ground_of s code) n mid) (places : (y : ℕ) → is_inside n.mem y ≡ is_inside s.loaded.mem y)
    (base y to offset scratch : ℕ) (d : Cap) (holds : register n base ≡ stack_pointer s y) (low_is : s.map.stack.0 ≤ y)
    (up : y + offset + 16 ≤ stack_top s) (aligned : (y + offset) % 16 ≡ 0) (small : offset < 2 ^ 31 - 2048)
    (kept : kept_at n.mem (y + offset) ≡ Some d) (to_some : 0 < to) (to_below : to < 32) (some : 0 < scratch)
    (below : scratch < 32) (other : base ≡ scratch → ⊥) where
  abbrev g : Ground
  g = ground_of s code

  -- the register has it, and no other but the scratch register is another
  abbrev pub Gets : Machine → Type 0
  Gets a = (register a to ≡ d) × ((q : ℕ) → (q ≡ to → ⊥) → (q ≡ scratch → ⊥) → register a q ≡ register n q)

  inside : (at : ℕ) → s.map.stack.0 ≤ at → at < stack_top s → is_inside n.mem at ≡ true
  inside at l u = places at ∙ stack at l u

  stack_keeps : (at : ℕ) → s.map.stack.0 ≤ at → at < stack_top s + 4096 → keeps s.map.stack.0 (stack_top s) at ≡ true
  stack_keeps at l h = stack_reaches_law s x.legal at l h

  top_most : stack_top s ≤ 2 ^ 40
  top_most = x.legal.in_range.2.2.2.1

  pub loads_far : HasAt code mid (load_code to base offset scratch)
      → Gone g n (length (load_code to base offset scratch)) (mid + length (load_code to base offset scratch)) Gets
  unfolding InRange
  loads_far has = by (nat_lt offset 2048) has
    where
      last : HasAt code mid (near_code scratch base offset ++ Clc to scratch (low offset) ∷ [])
          → slice_get code (mid + 2) ≡ Some (Clc to scratch (low offset))
      last h = (has_back code mid (near_code scratch base offset) (Clc to scratch (low offset) ∷ []) h).0

      by : (b : Bool) → HasAt code mid (if b then Clc to base (pos offset) ∷ []
          else near_code scratch base offset ++ Clc to scratch (low offset) ∷ [])
          → Gone g n (length (if b then Clc to base (pos offset) ∷ []
          else near_code scratch base offset ++ Clc to scratch (low offset) ∷ []))
          (mid + length (if b then Clc to base (pos offset) ∷ []
          else near_code scratch base offset ++ Clc to scratch (low offset) ∷ [])) Gets
      by true h =
          let end = top_most in
          gone_as g n 1 (mid + 1) (Sets n to to d) Gets
          (gone g n 1 (mid + 1) to to d (one_load s code x n inside to base y (y + offset) mid (pos offset) d n to_some
          to_below there refl holds (stack_keeps y low_is (omega arith)) (near_low y offset (omega arith))
          (omega arith) up
          aligned kept h.0))
          (λ a k. (k.0, λ q e f. k.1 q e))
      by false h =
          let end = top_most in
          let far_keeps : keeps s.map.stack.0 (stack_top s) (y + far offset) ≡ true =
          stack_keeps (y + far offset) (omega arith) (omega arith) in
          let two : mid + 1 + 1 ≡ mid + 2 = omega arith in
          gone_both g n mid there (near_code scratch base offset) (Clc to scratch (low offset) ∷ [])
          (Sets n scratch scratch (stack_pointer s (y + far offset))) Gets
          (gone g n 2 (mid + 2) scratch scratch (stack_pointer s (y + far offset))
          (subst (λ k. Holds g n 2 k scratch scratch (stack_pointer s (y + far offset))) two
          (far_near g (laid s code x) s.map.stack.0 (stack_top s) y offset base scratch (record {
            small = small;
            below = omega arith;
            here = stack_keeps y low_is (omega arith);
            near = far_keeps;
          }) other some below n mid there holds h.0 h.1.0)))
          (λ a there' mem near.
          gone_as g a 1 (mid + 2 + 1) (Sets a to to d) Gets
          (gone g a 1 (mid + 2 + 1) to to d (one_load s code x n inside to scratch (y + far offset) (y + offset)
          (mid + 2)
          (low offset) d a to_some to_below there' mem near.0 far_keeps
          (far_low y offset (omega arith) (x.in_range (mid + 2) (Clc to scratch (low offset)) (last h)).2)
          (omega arith) up
          aligned kept (last h)))
          (λ b k. (k.0, λ q e f. k.1 q e ∙ near.1 q f)))
