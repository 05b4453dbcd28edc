-- Registers are saved in the frame, near or far.
use Rattle.std.proofs.Common.{◌≡◌, ℕ, ◌+◌, ◌-◌, ◌*◌, ◌%◌, ◌^◌, ◌<◌, ◌≤◌, ◌==◌, ◌⊎◌, pos, Bool, true, false, List, []}
use Rattle.std.proofs.Common.{◌∷◌, ◌++◌, length, refl, sym, ap, ◌∙◌, subst, arith, Option, Some, None, inl, inr}
use Rattle.std.proofs.Common.{if◌then◌else◌}
use Rattle.std.specs.Prelude.{nat_lt, nat_le, position, slice_get}
use Rattle.std.specs.Option.{option_map}
use Rattle.std.proofs.lemmas.Bool.{cases_Bool, eqb-true}
use Rattle.std.proofs.lemmas.Option.{same_Some, none-some}
use Rattle.cap_ops.specs.declared.capability.Cap.{Cap}
use Rattle.rv_instr.specs.Range.{InRange}
use Rattle.rv_instr.specs.declared.instr.Instr.{Instr}
use Rattle.rv_instr.specs.declared.instr.Instr.TheVariants.{Store}
use Rattle.rv_instr.specs.declared.ops.StoreOp.TheVariants.{Csc}
use Rattle.tag_mem.specs.Areas.{IsMemory, is_inside}
use Rattle.cap_machine.specs.declared.machine.Machine.{Machine}
use Rattle.cap_machine.specs.State.{register}
use Rattle.obj_mem.specs.Pointers.{keeps}
use Rattle.purecap_abi.specs.declared.taking.Way.TheVariants.{ToFrame}
use Rattle.purecap_abi.specs.Ends.{keep_from, keep_code}
use Rattle.purecap_abi.specs.Words.{low, near_code, store_code, moved_code}
use Rattle.place_inject.specs.Objects.{SameOutside}
use Rattle.place_inject.specs.Parts.{kept_at}
use Rattle.place_inject.specs.Frames.{Setting, stack_top, stack_pointer}
use Rattle.place_inject.specs.Spills.{StackIsThere}
use Rattle.place_inject.proofs.Reaching.{stack_reaches_law}
use Rattle.select_words.specs.Standing.{HasAt}
use Rattle.select_runs.specs.Acts.{Ground, IsThere}
use Rattle.select_runs.specs.Operands.{ground_of, IsText}
use Rattle.select_runs.proofs.Acts.{has_front, has_back}
use Rattle.select_runs.proofs.Epilogue.{Rising}
use Rattle.select_runs.proofs.Far.{far, far_low, near_low, moves, near as far_near}
use Rattle.select_runs.proofs.Keeping.{Keeps, one_store, same_here, same_twice, same_wider, kept_still}
use Rattle.select_runs.proofs.Points.{laid}
use Rattle.select_runs.proofs.Stretches.{Reached, Sets, gone, reached, reached_as, reached_both, reached_nowhere}
use Rattle.select_runs.proofs.Stretches.{place_here, place_later}

-- A granule holds a capability, memory is as it was else, and no register but one is another
pub record Stores (place changed : ℕ) (c : Cap) (n to : Machine) : Type 0 where
  pub areas : IsMemory to.mem
  pub same : SameOutside place 16 n.mem to.mem
  pub kept : kept_at to.mem place ≡ Some c
  pub registers : (r : ℕ) → (r ≡ changed → ⊥) → register to r ≡ register n r

-- So do granules from a place on, for registers in order
pub record Saved (place : ℕ) (rs : List ℕ) (n to : Machine) : Type 0 where
  pub areas : IsMemory to.mem
  pub same : SameOutside place (16 * length rs) n.mem to.mem
  pub registers : (r : ℕ) → (r ≡ 29 → ⊥) → register to r ≡ register n r
  pub kept : (q j : ℕ) → q < 28 → position (λ z. z == q) rs ≡ Some j
      → kept_at to.mem (place + 16 * j) ≡ Some (register n q)

-- A machine at a word of the code, whose memory has the places that were loaded
pub record Ready (s : Setting) (code : List Instr) (n : Machine) (mid : ℕ) : Type 0 where
  pub there : IsThere (ground_of s code) n mid
  pub areas : IsMemory n.mem
  pub places : (at : ℕ) → is_inside n.mem at ≡ is_inside s.loaded.mem at

module _ (s : Setting) (code : List Instr) (x : IsText s code) (stack : StackIsThere s) (y : ℕ)
    (low_is : s.map.stack.0 ≤ y) (top_is : y ≤ stack_top s) where
  abbrev g : Ground
  g = ground_of s code

  stack_keeps : (at : ℕ) → s.map.stack.0 ≤ at → at < stack_top s + 4096 → keeps s.map.stack.0 (stack_top s) at ≡ true
  stack_keeps at l h = stack_reaches_law s x.legal at l h

  top_most : stack_top s ≤ 2 ^ 40
  top_most = x.legal.in_range.2.2.2.1

  -- ---- one register, at any distance

  module _ (n : Machine) (mid : ℕ) (ready : Ready s code n mid) (holds : register n 2 ≡ stack_pointer s y)
      (from offset scratch : ℕ) (other : from ≡ scratch → ⊥) (some : 2 < scratch) (below : scratch < 32)
      (small : offset < 2 ^ 31 - 2048) (up : y + offset + 16 ≤ stack_top s) (aligned : (y + offset) % 16 ≡ 0)
      (word : (register n from).fields.address < 2 ^ 64) where
    abbrev There : Machine → Type 0
    There to = Stores (y + offset) scratch (register n from) n to

    pub stores_far : HasAt code mid (store_code from 2 offset scratch)
        → Reached g n (length (store_code from 2 offset scratch))
        (mid + length (store_code from 2 offset scratch)) There
    unfolding InRange
    stores_far has = by (nat_lt offset 2048) has
      where
        last : HasAt code mid (near_code scratch 2 offset ++ Store Csc from scratch (low offset) ∷ [])
            → slice_get code (mid + 2) ≡ Some (Store Csc from scratch (low offset))
        last h = (has_back code mid (near_code scratch 2 offset) (Store Csc from scratch (low offset) ∷ []) h).0

        by : (b : Bool) → HasAt code mid (if b then Store Csc from 2 (pos offset) ∷ []
            else near_code scratch 2 offset ++ Store Csc from scratch (low offset) ∷ [])
            → Reached g n (length (if b then Store Csc from 2 (pos offset) ∷ []
            else near_code scratch 2 offset ++ Store Csc from scratch (low offset) ∷ []))
            (mid + length (if b then Store Csc from 2 (pos offset) ∷ []
            else near_code scratch 2 offset ++ Store Csc from scratch (low offset) ∷ [])) There
        by true h =
            let end = top_most in
            reached_as g n 1 (mid + 1) (Keeps (y + offset) (register n from) n) There
            (one_store s code x stack n mid ready.there ready.areas ready.places from 2 y (y + offset)
            (pos offset) holds
            (stack_keeps y low_is (omega arith)) (near_low y offset (omega arith)) aligned (omega arith) up word h.0)
            (λ to k. record { areas = k.areas; same = k.same; kept = k.kept; registers = λ r d. k.registers r })
        by false h =
            let end = top_most in
            let far_keeps : keeps s.map.stack.0 (stack_top s) (y + far offset) ≡ true =
            stack_keeps (y + far offset) (omega arith) (omega arith) in
            let two : mid + 1 + 1 ≡ mid + 2 = omega arith in
            reached_both g n mid (near_code scratch 2 offset) (Store Csc from scratch (low offset) ∷ []) Near There
            (reached g n mid 2 (mid + 2) ready.there (Sets n scratch scratch (stack_pointer s (y + far offset))) Near
            (gone g n 2 (mid + 2) scratch scratch (stack_pointer s (y + far offset))
            (subst (λ k. Rattle.select_runs.specs.Acts.Holds g n 2 k scratch scratch (stack_pointer s (y + far offset)))
            two
            (far_near g (laid s code x) s.map.stack.0 (stack_top s) y offset 2 scratch (record {
              small = small;
              below = omega arith;
              here = stack_keeps y low_is (omega arith);
              near = far_keeps;
            }) (λ e. absurd (omega (arith, some, e))) (omega (arith, some)) below n mid ready.there holds h.0 h.1.0)))
            (λ to mem k. (mem, k)))
            (λ a there' k.
            reached_as g a 1 (mid + 2 + 1) (Keeps (y + offset) (register a from) a) There
            (one_store s code x stack a (mid + 2) there' (subst IsMemory (sym k.0) ready.areas)
            (λ at. ap (λ v. is_inside v at) k.0 ∙ ready.places at) from scratch (y + far offset) (y + offset)
            (low offset)
            k.1.0 far_keeps (far_low y offset (omega arith)
            (x.in_range (mid + 2) (Store Csc from scratch (low offset)) (last h)).2) aligned (omega arith) up
            (subst (λ (c : Cap). c.fields.address < 2 ^ 64) (sym (k.1.1 from other)) word) (last h))
            (λ to w. record {
              areas = w.areas;
              same = subst (λ v. SameOutside (y + offset) 16 v to.mem) k.0 w.same;
              kept = w.kept ∙ ap (λ c. Some c) (k.1.1 from other);
              registers = λ r d. w.registers r ∙ k.1.1 r d;
            }))
          where
            Near : Machine → Type 0
            Near to = (to.mem ≡ n.mem) × Sets n scratch scratch (stack_pointer s (y + far offset)) to

  -- ---- registers in order

  later_place : (p : Option ℕ) (j : ℕ) → option_map (λ k. 1 + k) p ≡ Some j → (k : ℕ) × (p ≡ Some k) × (j ≡ 1 + k)
  later_place None j e = absurd (none-some j e)
  later_place (Some k) j e = (k, refl, sym (same_Some (1 + k) j e))

  module _ (base z : ℕ) (at_two : base ≡ 2 ⊎ base ≡ 29) (from_z : y ≤ z) where
    saves : (rs : List ℕ) (o first mid : ℕ) → 8 ≤ first → Rising first rs → (n : Machine) → Ready s code n mid
        → register n base ≡ stack_pointer s z → z + o + 16 * length rs ≤ stack_top s → (z + o) % 16 ≡ 0
        → ((r : ℕ) → r < 28 → (register n r).fields.address < 2 ^ 64)
        → HasAt code mid (keep_from ToFrame base o rs)
        → Reached g n (length (keep_from ToFrame base o rs)) (mid + length (keep_from ToFrame base o rs))
        (Saved (z + o) rs n)
    unfolding keep_from
    saves [] o first mid some rise n ready holds up aligned words has =
        reached_nowhere g n mid (Saved (z + o) [] n) ready.there (record {
          areas = ready.areas;
          same = same_here (z + o) (16 * 0) n.mem;
          registers = λ r d. refl;
          kept = λ q j l e. absurd (none-some j e);
        })
    saves (r ∷ rs) o first mid some rise n ready holds up aligned words has =
        let r_from = rise.0 in let r_to = rise.1 in let end = top_most in
        reached_both g n mid (Store Csc r base (pos o) ∷ []) (keep_from ToFrame base (o + 16) rs)
        (Keeps (z + o) (register n r) n) (Saved (z + o) (r ∷ rs) n)
        (one_store s code x stack n mid ready.there ready.areas ready.places r base z (z + o) (pos o) holds
        (stack_keeps z (omega arith) (omega arith)) (near_low z o (omega arith)) aligned (omega arith) (omega arith)
        (words r r_to) has.0)
        (λ a there' k.
        reached_as g a (length (keep_from ToFrame base (o + 16) rs))
        (mid + 1 + length (keep_from ToFrame base (o + 16) rs)) (Saved (z + (o + 16)) rs a) (Saved (z + o) (r ∷ rs) n)
        (saves rs (o + 16) (r + 1) (mid + 1) (omega arith) rise.2 a
        (record { there = there'; areas = k.areas; places = λ at. k.same.places at ∙ ready.places at })
        (k.registers base ∙ holds) (omega arith) (omega arith)
        (λ q l. subst (λ (c : Cap). c.fields.address < 2 ^ 64) (sym (k.registers q)) (words q l)) has.1)
        (λ to w. record {
          areas = w.areas;
          same = same_twice (z + o) (16 * length (r ∷ rs)) n.mem a.mem to.mem
              (same_wider (z + o) (16 * length (r ∷ rs)) (z + o) 16 n.mem a.mem (omega arith) (omega arith) k.same)
              (same_wider (z + o) (16 * length (r ∷ rs)) (z + (o + 16)) (16 * length rs) a.mem to.mem (omega arith)
              (omega arith) w.same);
          registers = λ q d. w.registers q d ∙ k.registers q;
          kept = λ q j l e. each a to k w q j l e (cases_Bool (r == q));
        }))
      where
        each : (a to : Machine) → Keeps (z + o) (register n r) n a → Saved (z + (o + 16)) rs a to → (q j : ℕ) → q < 28
            → position (λ i. i == q) (r ∷ rs) ≡ Some j → ((r == q) ≡ true) ⊎ ((r == q) ≡ false)
            → kept_at to.mem (z + o + 16 * j) ≡ Some (register n q)
        each a to k w q j l e (inl is) =
            let first_place : 0 ≡ j = same_Some 0 j (sym (place_here (λ i. i == q) r rs is) ∙ e) in
            let place : z + o + 16 * j ≡ z + o = omega arith in
            ap (kept_at to.mem) place
            ∙ kept_still (z + (o + 16)) (16 * length rs) (z + o) a.mem to.mem k.areas w.areas (omega arith) aligned
            (inr (omega arith)) w.same ∙ k.kept ∙ ap (λ i. Some (register n i)) (eqb-true r q is)
        each a to k w q j l e (inr is) =
            let p = later_place (position (λ i. i == q) rs) j (sym (place_later (λ i. i == q) r rs is) ∙ e) in
            let next_is = p.2 in
            let place : z + o + 16 * j ≡ z + (o + 16) + 16 * p.0 = omega (arith, next_is) in
            ap (kept_at to.mem) place ∙ w.kept q p.0 l p.1 ∙ ap (λ c. Some c) (k.registers q)

  -- by c2, or by c29 where they are far
  pub all_saves : (at : ℕ) → at < 2 ^ 31 - 2048 → (y + at) % 16 ≡ 0 → (rs : List ℕ) → Rising 8 rs → length rs ≤ 12
      → (n : Machine) (mid : ℕ) → Ready s code n mid → register n 2 ≡ stack_pointer s y
      → y + at + 16 * length rs ≤ stack_top s → ((r : ℕ) → r < 28 → (register n r).fields.address < 2 ^ 64)
      → HasAt code mid (keep_code ToFrame at rs)
      → Reached g n (length (keep_code ToFrame at rs)) (mid + length (keep_code ToFrame at rs)) (Saved (y + at) rs n)
  all_saves at small aligned [] rise few n mid ready holds up words has =
      reached_nowhere g n mid (Saved (y + at) [] n) ready.there (record {
        areas = ready.areas;
        same = same_here (y + at) (16 * 0) n.mem;
        registers = λ r d. refl;
        kept = λ q j l e. absurd (none-some j e);
      })
  all_saves at small aligned (r ∷ rs) rise few n mid ready holds up words has = by (nat_le at 1856) has
    where
      Moved : Machine → Type 0
      Moved to = (to.mem ≡ n.mem) × Sets n 29 29 (stack_pointer s (y + at)) to

      by : (b : Bool) → HasAt code mid (if b then keep_from ToFrame 2 at (r ∷ rs)
          else moved_code 29 2 at ++ keep_from ToFrame 29 0 (r ∷ rs))
          → Reached g n (length (if b then keep_from ToFrame 2 at (r ∷ rs)
          else moved_code 29 2 at ++ keep_from ToFrame 29 0 (r ∷ rs)))
          (mid + length (if b then keep_from ToFrame 2 at (r ∷ rs)
          else moved_code 29 2 at ++ keep_from ToFrame 29 0 (r ∷ rs))) (Saved (y + at) (r ∷ rs) n)
      by true h = saves 2 y (inl refl) (omega arith) (r ∷ rs) at 8 mid
          (omega arith) rise n ready holds up aligned words h
      by false h =
          let end = top_most in
          reached_both g n mid (moved_code 29 2 at) (keep_from ToFrame 29 0 (r ∷ rs)) Moved (Saved (y + at) (r ∷ rs) n)
          (reached g n mid (length (moved_code 29 2 at)) (mid + length (moved_code 29 2 at)) ready.there
          (Sets n 29 29 (stack_pointer s (y + at))) Moved
          (gone g n (length (moved_code 29 2 at)) (mid + length (moved_code 29 2 at)) 29 29 (stack_pointer s (y + at))
          (moves g (laid s code x) s.map.stack.0 (stack_top s) y at 2 29 (record {
            small = small;
            below = omega arith;
            here = stack_keeps y low_is (omega arith);
            near = stack_keeps (y + far at) (omega arith) (omega arith);
          }) (λ e. absurd (omega (arith, e))) (omega arith) (omega arith) n mid ready.there holds
          (stack_keeps (y + at) (omega arith) (omega arith))
          (has_front code mid (moved_code 29 2 at) (keep_from ToFrame 29 0 (r ∷ rs)) h)))
          (λ to mem k. (mem, k)))
          (λ a there' k.
          reached_as g a (length (keep_from ToFrame 29 0 (r ∷ rs)))
          (mid + length (moved_code 29 2 at) + length (keep_from ToFrame 29 0 (r ∷ rs)))
          (Saved (y + at + 0) (r ∷ rs) a) (Saved (y + at) (r ∷ rs) n)
          (saves 29 (y + at) (inr refl) (omega arith) (r ∷ rs) 0 8 (mid + length (moved_code 29 2 at))
          (omega arith) rise a
          (record {
            there = there';
            areas = subst IsMemory (sym k.0) ready.areas;
            places = λ i. ap (λ v. is_inside v i) k.0 ∙ ready.places i;
          }) k.1.0 (omega arith) (omega arith)
          (λ q l. subst (λ (c : Cap). c.fields.address < 2 ^ 64)
          (sym (k.1.1 q (λ e. absurd (omega (arith, l, e))))) (words q l))
          (has_back code mid (moved_code 29 2 at) (keep_from ToFrame 29 0 (r ∷ rs)) h))
          (λ to w.
          let e : y + at + 0 ≡ y + at = omega arith in
          record {
            areas = w.areas;
            same = subst (λ i. SameOutside i (16 * length (r ∷ rs)) n.mem to.mem) e
                (subst (λ v. SameOutside (y + at + 0) (16 * length (r ∷ rs)) v to.mem) k.0 w.same);
            registers = λ q d. w.registers q d ∙ k.1.1 q d;
            kept = λ q j l p. ap (λ i. kept_at to.mem (i + 16 * j)) (sym e) ∙ w.kept q j l p
                ∙ ap (λ c. Some c) (k.1.1 q (λ i. absurd (omega (arith, l, i))));
          }))
