-- The words with which a function ends: the registers that it kept, the link and the caller's stack come back, and the
-- machine goes to the link.
use Rattle.std.proofs.Common.{◌≡◌, ℕ, ◌+◌, ◌-◌, ◌*◌, ◌/◌, ◌%◌, ◌^◌, ◌<◌, ◌≤◌, ◌==◌, ℤ, pos, Bool, true, false, List, []}
use Rattle.std.proofs.Common.{◌∷◌, ◌++◌, length, refl, sym, ap, ◌∙◌, subst, arith, Option, Some, None, inl, inr}
use Rattle.std.proofs.Common.{if◌then◌else◌, ◌⊎◌}
use Rattle.std.specs.Prelude.{nat_lt, nat_le, position, slice_get}
use Rattle.std.specs.List.{filter}
use Rattle.std.specs.Option.{option_map}
use Rattle.std.proofs.lemmas.Bool.{cases_Bool, ne_eqb, eq-eqb, eqb-true, ltb-false}
use Rattle.std.proofs.lemmas.Bool.Decides.{nat_tests}
use Rattle.std.proofs.lemmas.List.{length-append}
use Rattle.std.proofs.lemmas.Option.{same_Some}
use Rattle.ck_base.specs.Runs.{Goes}
use Rattle.cap_ops.specs.declared.capability.Cap.{Cap}
use Rattle.cap_ops.specs.Capability.{added, null_at}
use Rattle.rv_instr.specs.Range.{InRange}
use Rattle.rv_instr.specs.declared.instr.Instr.{Instr}
use Rattle.rv_instr.specs.declared.instr.Instr.TheVariants.{Cjalr, Clc, CapImm, CapReg}
use Rattle.rv_instr.specs.declared.ops.CapImmOp.TheVariants.{Cincoffsetimm}
use Rattle.rv_instr.specs.declared.ops.CapRegOp.TheVariants.{Cincoffset}
use Rattle.tag_mem.specs.Areas.{Area, area_at, is_inside}
use Rattle.tag_mem.proofs.Reading.{is_inside-nowhere, capability_at-found}
use Rattle.cap_machine.specs.declared.machine.Machine.{Machine}
use Rattle.cap_machine.specs.Integers.{extended}
use Rattle.cap_machine.specs.State.{register, integer}
use Rattle.cap_machine.specs.Rows.{row, cap_imm_row, cap_reg_row, plus, set}
use Rattle.cap_machine.specs.Step.{act, act_of}
use Rattle.obj_mem.specs.Objects.{Shape}
use Rattle.obj_mem.specs.Pointers.{keeps}
use Rattle.obj_mem.specs.declared.map.Frame.{Frame}
use Rattle.reg_alloc.specs.declared.places.Home.{Home}
use Rattle.reg_alloc.specs.Placed.{IsKept}
use Rattle.purecap_abi.specs.declared.taking.Way.TheVariants.{FromFrame}
use Rattle.purecap_abi.specs.Ends.{keep_from, keep_code, give_plain, give_code, epilogue_code}
use Rattle.purecap_abi.specs.Numbers.{number_after}
use Rattle.purecap_abi.specs.Saving.{kept_homes, kept_registers, is_home, keeps_stack, stack_bytes, registers_at}
use Rattle.purecap_abi.specs.Saving.{stack_at, behind_registers}
use Rattle.purecap_abi.specs.Words.{low, high, is_word, wide_code, load_code, near_code, moved_code}
use Rattle.purecap_abi.proofs.FrameLaws.{kept_most}
use Rattle.purecap_abi.proofs.Numbers.{word_made}
use Rattle.place_inject.specs.Parts.{capability_in, kept_at}
use Rattle.place_inject.specs.Frames.{Setting, FrameFits, homes_of, stack_top, stack_pointer, from_place, kept_place}
use Rattle.place_inject.specs.Frames.{behind_return, return_sentry}
use Rattle.place_inject.specs.Fits.{registers_in}
use Rattle.place_inject.proofs.Calling.{sentry_enters}
use Rattle.place_inject.proofs.FramesKept.{stack_multiple}
use Rattle.place_inject.proofs.Lying.{Lies, within}
use Rattle.place_inject.proofs.ReadBack.{loads_kept}
use Rattle.place_inject.proofs.Reaching.{stack_reaches_law}
use Rattle.select_words.specs.Standing.{HasAt}
use Rattle.select_words.specs.Numbers.{MakesNumber}
use Rattle.select_runs.specs.Acts.{Ground, Holds, IsThere, Leads, place, counter_at}
use Rattle.select_runs.specs.Operands.{ground_of, IsText}
use Rattle.select_runs.proofs.Acts.{has_front, has_back, join, one_set, act_on_row, fetched_here}
use Rattle.select_runs.proofs.Far.{far, far_low, near_low, Reach, pointer_moved, moves, near as far_near}
use Rattle.select_runs.proofs.Numbers.{null_address, numbers_are_made_law}
use Rattle.select_runs.proofs.Points.{laid}
use Rattle.select_runs.proofs.Stretches.{Gone, Sets, gone_nowhere, gone, gone_as, gone_both, place_here, stays_there}
use Rattle.select_runs.proofs.Stretches.{place_later}

-- ---- registers in rising order

abbrev pub Rising : ℕ → List ℕ → Type 0
Rising low [] = Unit {0}
Rising low (r ∷ rs) = (low ≤ r) × (r < 28) × Rising (r + 1) rs

rising_from : (low high : ℕ) (rs : List ℕ) → low ≤ high → Rising high rs → Rising low rs
rising_from low high [] l h = tt
rising_from low high (r ∷ rs) l h = let a = h.0 in (omega (arith, a, l), h.1, h.2)

rising_filter : (test : ℕ → Bool) (first : ℕ) (rs : List ℕ) → Rising first rs → Rising first (filter test rs)
rising_filter test first [] h = tt
rising_filter test first (r ∷ rs) h = by (test r) (rising_filter test (r + 1) rs h.2)
  where
    by : (b : Bool) → Rising (r + 1) (filter test rs)
        → Rising first (if b then r ∷ filter test rs else filter test rs)
    by true q = (h.0, h.1, q)
    by false q = let a = h.0 in rising_from first (r + 1) (filter test rs) (omega (arith, a)) q

all_rise : Rising 8 kept_registers
all_rise = (
  omega arith,
  omega arith,
  (
    omega arith,
    omega arith,
    (
      omega arith,
      omega arith,
      (
        omega arith,
        omega arith,
        (
          omega arith,
          omega arith,
          (
            omega arith,
            omega arith,
            (
              omega arith,
              omega arith,
              (
                omega arith,
                omega arith,
                (
                  omega arith,
                  omega arith,
                  (omega arith, omega arith, (omega arith, omega arith, (omega arith, omega arith, tt))),
                ),
              ),
            ),
          ),
        ),
      ),
    ),
  ),
)

pub homes_rise : (homes : List Home) → Rising 8 (kept_homes homes)
unfolding kept_homes
homes_rise homes = rising_filter (is_home homes) 8 kept_registers all_rise

pub not_among : (q low : ℕ) (rs : List ℕ) → ((r : ℕ) → low ≤ r → r < 28 → r ≡ q → ⊥) → Rising low rs
    → position (λ x. x == q) rs ≡ None
not_among q low [] apart h = refl
not_among q low (r ∷ rs) apart h =
    let a = h.0 in
    place_later (λ x. x == q) r rs (ne_eqb r q (apart r h.0 h.1))
    ∙ ap (option_map (λ k. 1 + k))
    (not_among q (r + 1) rs (λ i l u. apart i (omega (arith, a, l)) u) h.2)

abbrev Differ : ℕ → List ℕ → Type 0
Differ q [] = Unit {0}
Differ q (r ∷ rs) = ((r == q) ≡ false) × Differ q rs

not_in : (test : ℕ → Bool) (q : ℕ) (rs : List ℕ) → Differ q rs → position (λ z. z == q) (filter test rs) ≡ None
not_in test q [] d = refl
not_in test q (r ∷ rs) d = by (test r) (not_in test q rs d.1)
  where
    by : (b : Bool) → position (λ z. z == q) (filter test rs) ≡ None
        → position (λ z. z == q) (if b then r ∷ filter test rs else filter test rs) ≡ None
    by true e = place_later (λ z. z == q) r (filter test rs) d.0 ∙ ap (option_map (λ k. 1 + k)) e
    by false e = e

ten_not_kept : (homes : List Home) → position (λ z. z == 10) (kept_homes homes) ≡ None
unfolding kept_homes
ten_not_kept homes = not_in (is_home homes) 10 kept_registers
    (refl, (refl, (refl, (refl, (refl, (refl, (refl, (refl, (refl, (refl, (refl, (refl, tt))))))))))))

pub kept_range : (r : ℕ) → IsKept r → (8 ≤ r) × (r < 28)
kept_range r (inl e) = (omega (arith, e), omega (arith, e))
kept_range r (inr (inl e)) = (omega (arith, e), omega (arith, e))
kept_range r (inr (inr l)) = let a = l.0 in let b = l.1 in (omega (arith, a), omega (arith, b))

-- ---- what a place holds

pub kept_there : (memory : List Area) (y : ℕ) → is_inside memory y ≡ true → (d : Cap) × (kept_at memory y ≡ Some d)
kept_there memory y e = go (area_at memory y) refl
  where
    go : (o : Option Area) → area_at memory y ≡ o → (d : Cap) × (kept_at memory y ≡ Some d)
    go None q = let z : false ≡ true = is_inside-nowhere memory y q ∙ e in absurd cc
    go (Some a) q = (_, ap (option_map capability_in) (capability_at-found memory y a q))

-- ---- numbers of 32 bits

pub makes_wide : (to n : ℕ) → n < 2 ^ 64 → is_word n ≡ true → 0 < to → MakesNumber to n (wide_code to n)
unfolding number_after
makes_wide to n small w some = record {
  own = (refl, ((refl, inl refl), tt));
  some = omega arith;
  made = λ y. ap (λ b. number_after [] (Rattle.purecap_abi.specs.Numbers.signed_word
      (Rattle.purecap_abi.specs.Numbers.plus (if b then 0
      else Rattle.purecap_abi.specs.Numbers.signed_word (high n % 2 ^ 20 * 4096)) (low n)))) (ne_eqb to 0 (omega arith))
      ∙ word_made n small w;
}

-- ---- loads

module _ (s : Setting) (code : List Instr) (x : IsText s code) (m : Machine)
    (inside : (y : ℕ) → s.map.stack.0 ≤ y → y < stack_top s → is_inside m.mem y ≡ true) where
  abbrev g : Ground
  g = ground_of s code

  stack_keeps : (y : ℕ) → s.map.stack.0 ≤ y → y < stack_top s + 4096 → keeps s.map.stack.0 (stack_top s) y ≡ true
  stack_keeps y l h = stack_reaches_law s x.legal y l h

  top_most : stack_top s ≤ 2 ^ 40
  top_most = x.legal.in_range.2.2.2.1

  -- what a register has where these were loaded from places of the stack
  abbrev pub loaded_from : (at : ℕ) → List ℕ → (q : ℕ) → Option Cap → Option Cap
  loaded_from at rs q now = from_place m.mem (option_map (λ k. at + 16 * k) (position (λ z. z == q) rs)) now

  abbrev pub Loaded : (at : ℕ) → List ℕ → Machine → Machine → Type 0
  Loaded at rs n to = (q : ℕ) → Some (register to q) ≡ loaded_from at rs q (Some (register n q))

  -- a capability that stands in the stack is loaded, by an address that keeps the stack's bounds
  pub one_load : (to base y at mid : ℕ) (z : ℤ) (d : Cap) (n : Machine) → 0 < to → to < 32 → IsThere g n mid
      → n.mem ≡ m.mem → register n base ≡ stack_pointer s y → keeps s.map.stack.0 (stack_top s) y ≡ true
      → plus y z ≡ at → s.map.stack.0 ≤ at → at + 16 ≤ stack_top s → at % 16 ≡ 0 → kept_at m.mem at ≡ Some d
      → slice_get code mid ≡ Some (Clc to base z) → Holds g n 1 (mid + 1) to to d
  unfolding row
  one_load to base y at mid z d n some small there mem holds keep sum from up aligned kept has =
      one_set g (laid s code x) n mid there (Clc to base z) to d has refl some small
      (loads_kept s.map.stack.0 (stack_top s) y at n to base z d holds keep sum from up aligned
      (ap (λ u. kept_at u at) mem ∙ kept))

  module _ (base y : ℕ) (apart : (r : ℕ) → 8 ≤ r → r < 28 → r ≡ base → ⊥) (low_is : s.map.stack.0 ≤ y) where
    loads : (rs : List ℕ) (o first mid : ℕ) → 8 ≤ first → Rising first rs → (n : Machine) → IsThere g n mid →
        n.mem ≡ m.mem
        → register n base ≡ stack_pointer s y → y + o + 16 * length rs ≤ stack_top s → (y + o) % 16 ≡ 0
        → HasAt code mid (keep_from FromFrame base o rs)
        → Gone g n (length (keep_from FromFrame base o rs)) (mid + length (keep_from FromFrame base o rs))
        (Loaded (y + o) rs n)
    unfolding keep_from
    loads [] o first mid some rise n there mem holds up aligned has =
        gone_nowhere g n mid (Loaded (y + o) [] n) there (λ q. refl)
    loads (r ∷ rs) o first mid some rise n there mem holds up aligned has =
        let r_from = rise.0 in let r_to = rise.1 in let top_is = top_most in
        let d = kept_there m.mem (y + o) (inside (y + o) (omega arith) (omega arith)) in
        gone_both g n mid there (Clc r base (pos o) ∷ []) (keep_from FromFrame base (o + 16) rs) (Sets n r r d.0)
        (Loaded (y + o) (r ∷ rs) n)
        (gone g n 1 (mid + 1) r r d.0 (one_load r base y (y + o) mid (pos o) d.0 n (omega arith) (omega arith) there mem
        holds (stack_keeps y low_is (omega arith)) (near_low y o (omega arith)) (omega arith) (omega arith) aligned d.1
        has.0))
        (λ a there' mem' h.
        gone_as g a (length (keep_from FromFrame base (o + 16) rs))
        (mid + 1 + length (keep_from FromFrame base (o + 16) rs)) (Loaded (y + (o + 16)) rs a)
        (Loaded (y + o) (r ∷ rs) n)
        (loads rs (o + 16) (r + 1) (mid + 1) (omega arith) rise.2 a there' (mem' ∙ mem)
        (h.1 base (λ q. apart r (omega (arith, some, r_from)) r_to (sym q)) ∙ holds) (omega arith) (omega arith) has.1)
        (λ to l q. each d.0 d.1 a h to l q (cases_Bool (r == q))))
      where
        later : (p : Option ℕ) (now : Option Cap) → from_place m.mem (option_map (λ k. y + (o + 16) + 16 * k) p) now
            ≡ from_place m.mem (option_map (λ k. y + o + 16 * k) (option_map (λ k. 1 + k) p)) now
        later None now = refl
        later (Some k) now = ap (kept_at m.mem) (omega arith)

        each : (c : Cap) → kept_at m.mem (y + o) ≡ Some c → (a : Machine) → Sets n r r c a → (to : Machine)
            → Loaded (y + (o + 16)) rs a to → (q : ℕ) → ((r == q) ≡ true) ⊎ ((r == q) ≡ false)
            → Some (register to q) ≡ loaded_from (y + o) (r ∷ rs) q (Some (register n q))
        each c kept a h to l q (inl e) =
            let same : r ≡ q = eqb-true r q e in
            let none : position (λ z. z == q) rs ≡ None =
            not_among q (r + 1) rs (λ i low_i u f. absurd (omega (arith, low_i, f, same))) rise.2 in
            let first : y + o ≡ y + o + 16 * 0 = omega arith in
            let now : Some (register to q) ≡ Some (register a q) =
            l q ∙ ap (λ p. from_place m.mem (option_map (λ k. y + (o + 16) + 16 * k) p) (Some (register a q))) none in
            let own : Some (register a q) ≡ kept_at m.mem (y + o + 16 * 0) =
            ap (λ i. Some (register a i)) (sym same) ∙ ap (λ v. Some v) h.0 ∙ sym kept ∙ ap (kept_at m.mem) first in
            now ∙ own ∙ ap (λ p. from_place m.mem (option_map (λ k. y + o + 16 * k) p) (Some (register n q)))
            (sym (place_here (λ z. z == q) r rs e))
        each c kept a h to l q (inr e) =
            let now : Some (register to q) ≡ loaded_from (y + (o + 16)) rs q (Some (register n q)) =
            l q ∙ ap (λ v. loaded_from (y + (o + 16)) rs q (Some v))
            (h.1 q (λ f. let t : (r == q) ≡ true = eq-eqb r q (sym f) in absurd cc)) in
            now ∙ later (position (λ z. z == q) rs) (Some (register n q))
            ∙ ap (λ p. from_place m.mem (option_map (λ k. y + o + 16 * k) p) (Some (register n q)))
            (sym (place_later (λ z. z == q) r rs e))

  -- ---- all kept registers

  module _ (y at : ℕ) (low_is : s.map.stack.0 ≤ y) (far_is : at < 2 ^ 31 - 2048) (aligned : (y + at) % 16 ≡ 0) where
    reach : y + at ≤ stack_top s → Reach s.map.stack.0 (stack_top s) y at
    reach up =
        let top_is = top_most in
        record {
          small = far_is;
          below = omega arith;
          here = stack_keeps y low_is (omega arith);
          near = stack_keeps (y + far at) (omega arith) (omega arith);
        }

    -- from a place of the frame, to all but c29
    abbrev pub All_loaded : List ℕ → Machine → Machine → Type 0
    All_loaded rs n to =
        (q : ℕ) → (q ≡ 29 → ⊥) → Some (register to q) ≡ loaded_from (y + at) rs q (Some (register n q))

    pub all_loads : (rs : List ℕ) → Rising 8 rs → length rs ≤ 12 → (n : Machine) (mid : ℕ) → IsThere g n mid
        → n.mem ≡ m.mem → register n 2 ≡ stack_pointer s y → y + at + 16 * length rs ≤ stack_top s
        → HasAt code mid (keep_code FromFrame at rs)
        → Gone g n (length (keep_code FromFrame at rs)) (mid + length (keep_code FromFrame at rs)) (All_loaded rs n)
    all_loads [] rise few n mid there mem holds up has =
        gone_nowhere g n mid (All_loaded [] n) there (λ q d. refl)
    all_loads (r ∷ rs) rise few n mid there mem holds up has = by (nat_le at 1856) refl has
      where
        near_two : (i : ℕ) → 8 ≤ i → i < 28 → i ≡ 2 → ⊥
        near_two i l u e = absurd (omega (arith, l, e))

        far_base : (i : ℕ) → 8 ≤ i → i < 28 → i ≡ 29 → ⊥
        far_base i l u e = absurd (omega (arith, u, e))

        by : (b : Bool) → nat_le at 1856 ≡ b
            → HasAt code mid (if b then keep_from FromFrame 2 at (r ∷ rs)
            else moved_code 29 2 at ++ keep_from FromFrame 29 0 (r ∷ rs))
            → Gone g n (length (if b then keep_from FromFrame 2 at (r ∷ rs)
            else moved_code 29 2 at ++ keep_from FromFrame 29 0 (r ∷ rs)))
            (mid + length (if b then keep_from FromFrame 2 at (r ∷ rs)
            else moved_code 29 2 at ++ keep_from FromFrame 29 0 (r ∷ rs))) (All_loaded (r ∷ rs) n)
        by true e h =
            gone_as g n (length (keep_from FromFrame 2 at (r ∷ rs))) (mid + length (keep_from FromFrame 2 at (r ∷ rs)))
            (Loaded (y + at) (r ∷ rs) n) (All_loaded (r ∷ rs) n)
            (loads 2 y near_two low_is (r ∷ rs) at 8 mid (omega arith) rise n there mem holds up aligned h)
            (λ to l q d. l q)
        by false e h =
            gone_both g n mid there (moved_code 29 2 at) (keep_from FromFrame 29 0 (r ∷ rs))
            (Sets n 29 29 (stack_pointer s (y + at))) (All_loaded (r ∷ rs) n)
            (gone g n (length (moved_code 29 2 at)) (mid + length (moved_code 29 2 at)) 29 29 (stack_pointer s (y + at))
            (moves g (laid s code x) s.map.stack.0 (stack_top s) y at 2 29 (reach (omega arith))
            (λ z. absurd (omega (arith, z))) (omega arith) (omega arith) n mid there holds
            (stack_keeps (y + at) (omega arith) (omega arith))
            (has_front code mid (moved_code 29 2 at) (keep_from FromFrame 29 0 (r ∷ rs)) h)))
            (λ a there' mem' moved.
            gone_as g a (length (keep_from FromFrame 29 0 (r ∷ rs)))
            (mid + length (moved_code 29 2 at) + length (keep_from FromFrame 29 0 (r ∷ rs)))
            (Loaded (y + at + 0) (r ∷ rs) a) (All_loaded (r ∷ rs) n)
            (loads 29 (y + at) far_base (omega arith) (r ∷ rs) 0 8 (mid + length (moved_code 29 2 at))
            (omega arith) rise
            a there' (mem' ∙ mem) moved.0 (omega arith) (omega arith)
            (has_back code mid (moved_code 29 2 at) (keep_from FromFrame 29 0 (r ∷ rs)) h))
            (λ to l q d.
            let e0 : y + at + 0 ≡ y + at = omega arith in
            l q ∙ ap (λ i. loaded_from i (r ∷ rs) q (Some (register a q))) e0
            ∙ ap (λ c. loaded_from (y + at) (r ∷ rs) q (Some c)) (moved.1 q d)))

  -- ---- the caller's stack

  module _ (fun first at above link : ℕ) (shapes : List Shape)
      (fr : FrameFits s shapes m.mem fun first at above link) (up : above ≤ stack_top s) (whole : above % 16 ≡ 0) where
    abbrev homes : List Home
    homes = homes_of s fun

    abbrev frame : Frame
    frame = fr.frame

    lies : Lies s.map.stack.0 above at frame
    lies = within s.map.stack.0 above at frame fr.below

    abbrev size : ℕ
    size = frame.size

    -- what a stretch does that gives c2 another address, by c29
    abbrev pub Given : Machine → Machine → Type 0
    Given n to =
        (register to 2 ≡ stack_pointer s above)
        × ((q : ℕ) → (q ≡ 2 → ⊥) → (q ≡ 29 → ⊥) → register to q ≡ register n q)

    -- words that change nothing else
    given_by : (n : Machine) (k end : ℕ) → Holds g n k end 2 2 (stack_pointer s above) → Gone g n k end (Given n)
    given_by n k end h =
        gone_as g n k end (Sets n 2 2 (stack_pointer s above)) (Given n)
        (gone g n k end 2 2 (stack_pointer s above) h) (λ to is. (is.0, λ q d e. is.1 q d))

    -- ---- by the size

    plain_size : keeps_stack frame.align ≡ false → at + size ≡ above
    plain_size none =
        let l = lies.is in let fits = fr.for_homes in
        let room = lies.to in
        let least = fits.least in let multiple = fits.multiple in
        let most = ltb-false 16 frame.align none in
        let is : frame.align ≡ 16 = omega arith in
        let down : (above - size) / 16 * 16 ≡ at = ap (λ a. (above - size) / a * a) (sym is) ∙ l in
        let even : size % 16 ≡ 0 = ap (λ a. size % a) (sym is) ∙ multiple in
        omega arith

    module _ (n : Machine) (mid : ℕ) (there : IsThere g n mid) (mem : n.mem ≡ m.mem)
        (holds : register n 2 ≡ stack_pointer s at) where
      here : keeps s.map.stack.0 (stack_top s) at ≡ true
      here = let l = lies.from in let t = lies.to in stack_keeps at l (omega arith)

      goes : keeps s.map.stack.0 (stack_top s) above ≡ true
      goes = let l = lies.from in let t = lies.to in stack_keeps above (omega arith) (omega arith)

      plain : at + size ≡ above → HasAt code mid (give_plain size)
          → Gone g n (length (give_plain size)) (mid + length (give_plain size)) (Given n)
      unfolding row cap_imm_row cap_reg_row InRange
      plain is has = by (nat_lt size 2048) has
        where
          wide_words : List Instr
          wide_words = wide_code 29 size

          by : (b : Bool) → HasAt code mid (if b then CapImm Cincoffsetimm 2 2 (pos size) ∷ []
              else wide_code 29 size ++ CapReg Cincoffset 2 2 29 ∷ [])
              → Gone g n (length (if b then CapImm Cincoffsetimm 2 2 (pos size) ∷ []
              else wide_code 29 size ++ CapReg Cincoffset 2 2 29 ∷ []))
              (mid + length (if b then CapImm Cincoffsetimm 2 2 (pos size) ∷ []
              else wide_code 29 size ++ CapReg Cincoffset 2 2 29 ∷ [])) (Given n)
          by true h =
              let top_is = top_most in
              let sum : plus at (pos size) ≡ above = near_low at size (omega arith) ∙ is in
              given_by n 1 (mid + 1) (one_set g (laid s code x) n mid there (CapImm Cincoffsetimm 2 2 (pos size)) 2
              (stack_pointer s above) h.0 refl (omega arith) (omega arith)
              (ap (λ c. set n 2 (added c (extended (pos size)))) holds
              ∙ ap (set n 2) (pointer_moved s.map.stack.0 (stack_top s) at above (extended (pos size)) here goes sum)))
          by false h =
              let top_is = top_most in let small = fr.for_homes.small in
              gone_both g n mid there (wide_code 29 size) (CapReg Cincoffset 2 2 29 ∷ []) (Sets n 29 29 (null_at size))
              (Given n) (gone g n 2 (mid + 2) 29 29 (null_at size)
              (numbers_are_made_law g (laid s code x) n mid there 29 size (omega arith) (omega arith)
              (wide_code 29 size)
              (makes_wide 29 size (omega arith) (grind (arith, nat_tests)) (omega arith))
              (has_front code mid (wide_code 29 size) (CapReg Cincoffset 2 2 29 ∷ []) h)))
              (λ a there' mem' number.
              gone_as g a 1 (mid + 2 + 1) (Given a) (Given n)
              (given_by a 1 (mid + 2 + 1) (one_set g (laid s code x) a (mid + 2) there' (CapReg Cincoffset 2 2 29) 2
              (stack_pointer s above) (has_back code mid (wide_code 29 size) (CapReg Cincoffset 2 2 29 ∷ []) h).0 refl
              (omega arith) (omega arith) (by_number a number)))
              (λ to given. (given.0, λ q d e. given.1 q d e ∙ number.1 q e)))
            where
              by_number : (a : Machine) → Sets n 29 29 (null_at size) a
                  → cap_reg_row a Cincoffset 2 2 29 ≡ set a 2 (stack_pointer s above)
              by_number a number =
                  ap (λ c. set a 2 (added c (integer a 29))) (number.1 2 (λ e. absurd (omega (arith, e))) ∙ holds)
                  ∙ ap (λ (c : Cap). set a 2 (added (stack_pointer s at) c.fields.address)) number.0
                  ∙ ap (λ k. set a 2 (added (stack_pointer s at) k)) (null_address size)
                  ∙ ap (set a 2) (pointer_moved s.map.stack.0 (stack_top s) at above size here goes
                  (let top_is = top_most in let room = lies.to in omega (arith, is)))

      -- ---- or from the frame

      kept_stack : (offset : ℕ) → offset + 16 ≤ frame.saved → offset % 16 ≡ 0
          → kept_at m.mem (at + offset) ≡ Some (stack_pointer s above) → HasAt code mid (load_code 2 2 offset 29)
          → Gone g n (length (load_code 2 2 offset 29)) (mid + length (load_code 2 2 offset 29)) (Given n)
      unfolding InRange
      kept_stack offset inner even kept has = by (nat_lt offset 2048) has
        where
          last : HasAt code mid (near_code 29 2 offset ++ Clc 2 29 (low offset) ∷ [])
              → slice_get code (mid + 2) ≡ Some (Clc 2 29 (low offset))
          last h = (has_back code mid (near_code 29 2 offset) (Clc 2 29 (low offset) ∷ []) h).0

          by : (b : Bool) → HasAt code mid (if b then Clc 2 2 (pos offset) ∷ []
              else near_code 29 2 offset ++ Clc 2 29 (low offset) ∷ [])
              → Gone g n (length (if b then Clc 2 2 (pos offset) ∷ []
              else near_code 29 2 offset ++ Clc 2 29 (low offset) ∷ []))
              (mid + length (if b then Clc 2 2 (pos offset) ∷ []
              else near_code 29 2 offset ++ Clc 2 29 (low offset) ∷ [])) (Given n)
          by true h =
              let top_is = top_most in let from = lies.from in let to = lies.to in let z = fr.aligned in
              let in_it = fr.for_homes.inside in
              given_by n 1 (mid + 1) (one_load 2 2 at (at + offset) mid (pos offset) (stack_pointer s above) n
              (omega arith)
              (omega arith) there mem holds here (near_low at offset (omega arith)) (omega arith) (omega arith)
              (omega arith) kept h.0)
          by false h =
              let top_is = top_most in let from = lies.from in let to = lies.to in let z = fr.aligned in
              let in_it = fr.for_homes.inside in let small = fr.for_homes.small in
              let two : mid + 1 + 1 ≡ mid + 2 = omega arith in
              let far_keeps : keeps s.map.stack.0 (stack_top s) (at + far offset) ≡ true =
              stack_keeps (at + far offset) (omega arith) (omega arith) in
              gone_both g n mid there (near_code 29 2 offset) (Clc 2 29 (low offset) ∷ [])
              (Sets n 29 29 (stack_pointer s (at + far offset))) (Given n)
              (gone g n 2 (mid + 2) 29 29 (stack_pointer s (at + far offset))
              (subst (λ k. Holds g n 2 k 29 29 (stack_pointer s (at + far offset))) two
              (far_near g (laid s code x) s.map.stack.0 (stack_top s) at offset 2 29
              (record { small = omega arith; below = omega arith; here = here; near = far_keeps })
              (λ e. absurd (omega (arith, e))) (omega arith) (omega arith) n mid there holds h.0 h.1.0)))
              (λ a there' mem' near.
              gone_as g a 1 (mid + 2 + 1) (Given a) (Given n)
              (given_by a 1 (mid + 2 + 1) (one_load 2 29 (at + far offset) (at + offset) (mid + 2) (low offset)
              (stack_pointer s above) a (omega arith) (omega arith) there' (mem' ∙ mem) near.0 far_keeps
              (far_low at offset (omega arith) (x.in_range (mid + 2) (Clc 2 29 (low offset)) (last h)).2) (omega arith)
              (omega arith) (omega arith) kept (last h)))
              (λ to given. (given.0, λ q d e. given.1 q d e ∙ near.1 q e)))

      pub gives : HasAt code mid (give_code (stack_at homes frame) size)
          → Gone g n (length (give_code (stack_at homes frame) size))
          (mid + length (give_code (stack_at homes frame) size)) (Given n)
      gives has = by (keeps_stack frame.align) refl (λ e. fr.stack_kept (behind_registers homes frame) e) has
        where
          by : (b : Bool) → keeps_stack frame.align ≡ b
              → ((if b then Some (behind_registers homes frame) else None) ≡ Some (behind_registers homes frame)
              → kept_at m.mem (at + behind_registers homes frame) ≡ Some (stack_pointer s above))
              → HasAt code mid (give_code (if b then Some (behind_registers homes frame) else None) size)
              → Gone g n (length (give_code (if b then Some (behind_registers homes frame) else None) size))
              (mid + length (give_code (if b then Some (behind_registers homes frame) else None) size)) (Given n)
          by true e kept h =
              let bytes : stack_bytes frame.align ≡ 16 = ap (λ b. if b then 16 else 0) e in
              let saved = fr.for_homes.saved in
              kept_stack (behind_registers homes frame) (omega arith) (omega arith) (kept refl) h
          by false e kept h = plain (plain_size e) h

    -- ---- the whole end

    -- c2 is the caller's stack, and the registers that functions keep are as the frame and the registers say
    pub record Ended (n to : Machine) : Type 0 where
      pub stack : register to 2 ≡ stack_pointer s above
      pub table : register to 3 ≡ register n 3
      pub value : register to 10 ≡ register n 10
      pub kept : (r : ℕ) → IsKept r → Some (register to r) ≡ behind_return s m.mem fun at (registers_in n) r

    abbrev kept_words : List Instr
    kept_words = keep_code FromFrame (registers_at homes frame) (kept_homes homes)

    abbrev link_word : List Instr
    link_word = Clc 1 2 (pos 0) ∷ []

    abbrev given_words : List Instr
    given_words = give_code (stack_at homes frame) size

    -- behind the kept registers
    abbrev Kept_back : Machine → Machine → Type 0
    Kept_back n to =
        (q : ℕ) → (q ≡ 29 → ⊥) → Some (register to q)
        ≡ loaded_from (at + registers_at homes frame) (kept_homes homes) q (Some (register n q))

    -- behind the link
    abbrev Linked : Machine → Machine → Type 0
    Linked n to =
        (register to 1 ≡ return_sentry s link)
        × ((q : ℕ) → (q ≡ 29 → ⊥) → (q ≡ 1 → ⊥) → Some (register to q)
        ≡ loaded_from (at + registers_at homes frame) (kept_homes homes) q (Some (register n q)))

    -- and behind the stack
    record Back_again (n to : Machine) : Type 0 where
      linked_to : register to 1 ≡ return_sentry s link
      stack : register to 2 ≡ stack_pointer s above
      others : (q : ℕ) → (q ≡ 29 → ⊥) → (q ≡ 1 → ⊥) → (q ≡ 2 → ⊥) → Some (register to q)
          ≡ loaded_from (at + registers_at homes frame) (kept_homes homes) q (Some (register n q))

    -- a register that no function keeps is as it was
    not_kept : (q : ℕ) → ((r : ℕ) → 8 ≤ r → r < 28 → r ≡ q → ⊥) → (c : Option Cap)
        → loaded_from (at + registers_at homes frame) (kept_homes homes) q c ≡ c
    not_kept q apart c =
        ap (λ k. from_place m.mem (option_map (λ j. at + registers_at homes frame + 16 * j) k) c)
        (not_among q 8 (kept_homes homes) apart (homes_rise homes))

    module _ (n : Machine) (mid : ℕ) (there : IsThere g n mid) (mem : n.mem ≡ m.mem)
        (holds : register n 2 ≡ stack_pointer s at) where
      kept_again : HasAt code mid kept_words → Gone g n (length kept_words) (mid + length kept_words) (Kept_back n)
      kept_again has =
          let l = lies.from in let t = lies.to in let z = fr.aligned in
          let saved = fr.for_homes.saved in let in_it = fr.for_homes.inside in let few = fr.for_homes.few in
          let bytes = stack_multiple frame.align in
          all_loads at (registers_at homes frame) l (omega arith) (omega arith) (kept_homes homes) (homes_rise homes)
          (kept_most homes) n mid there mem holds (omega arith) has

      linked : HasAt code mid (kept_words ++ link_word)
          → Gone g n (length (kept_words ++ link_word)) (mid + length (kept_words ++ link_word)) (Linked n)
      linked has =
          let l = lies.from in let t = lies.to in let z = fr.aligned in let top_is = top_most in
          let saved = fr.for_homes.saved in let in_it = fr.for_homes.inside in
          gone_both g n mid there kept_words link_word (Kept_back n) (Linked n)
          (kept_again (has_front code mid kept_words link_word has))
          (λ a there' mem' back.
          gone_as g a 1 (mid + length kept_words + 1) (Sets a 1 1 (return_sentry s link)) (Linked n)
          (gone g a 1 (mid + length kept_words + 1) 1 1 (return_sentry s link)
          (one_load 1 2 at at (mid + length kept_words) (pos 0) (return_sentry s link) a (omega arith)
          (omega arith) there'
          (mem' ∙ mem) (stack_still a back) (stack_keeps at l (omega arith))
          (let e : at + 0 ≡ at = omega arith in near_low at 0 (omega arith) ∙ e) l (omega arith) z fr.link_kept
          (has_back code mid kept_words link_word has).0))
          (λ to is. (is.0, λ q d e. ap (λ c. Some c) (is.1 q e) ∙ back q d)))
        where
          stack_still : (a : Machine) → Kept_back n a → register a 2 ≡ stack_pointer s at
          stack_still a back =
              same_Some (register a 2) (stack_pointer s at) (back 2 (λ e. absurd (omega (arith, e)))
              ∙ not_kept 2 (λ r low_r u e. absurd (omega (arith, low_r, e))) (Some (register n 2))
              ∙ ap (λ c. Some c) holds)

      back_again : HasAt code mid (kept_words ++ link_word ++ given_words)
          → Gone g n (length (kept_words ++ link_word ++ given_words))
          (mid + length (kept_words ++ link_word ++ given_words)) (Back_again n)
      back_again has =
          let words = kept_words ++ link_word in
          gone_both g n mid there (kept_words ++ link_word) given_words (Linked n) (Back_again n)
          (linked (has_front code mid (kept_words ++ link_word) given_words has))
          (λ a there' mem' is.
          gone_as g a (length given_words) (mid + length (kept_words ++ link_word) + length given_words) (Given a)
          (Back_again n)
          (gives a (mid + length (kept_words ++ link_word)) there' (mem' ∙ mem) (stack_still a is)
          (has_back code mid (kept_words ++ link_word) given_words has))
          (λ to given. record {
            linked_to = given.1 1 (λ e. absurd (omega (arith, e))) (λ e. absurd (omega (arith, e))) ∙ is.0;
            stack = given.0;
            others = λ q d e f. ap (λ c. Some c) (given.1 q f d) ∙ is.1 q d e;
          }))
        where
          stack_still : (a : Machine) → Linked n a → register a 2 ≡ stack_pointer s at
          stack_still a is =
              same_Some (register a 2) (stack_pointer s at) (is.1 2 (λ e. absurd (omega (arith, e)))
              (λ e. absurd (omega (arith, e)))
              ∙ not_kept 2 (λ r low_r u e. absurd (omega (arith, low_r, e))) (Some (register n 2))
              ∙ ap (λ c. Some c) holds)

      -- the jump
      jumps : (a : Machine) (from to : ℕ) → IsThere g a from → slice_get code from ≡ Some (Cjalr 0 1 (pos 0))
          → register a 1 ≡ return_sentry s link → link ≡ place g to → to < length code
          → act a ≡ Goes (record a { pc = counter_at g to })
      unfolding row
      jumps a from to there' has holds' is in_code =
          let room = x.room in let text = x.legal.text_aligned in
          fetched_here g (laid s code x) a from (Cjalr 0 1 (pos 0)) there'.counter there'.text has
          ∙ act_on_row a (Cjalr 0 1 (pos 0)) refl
          ∙ ap act_of (sentry_enters s.map.text.0 (s.map.text.0 + s.map.text.1) (place g to) x.legal.text_exact
          (omega arith) (omega arith) (omega arith) x.legal.in_range.1 a 0 1 (holds' ∙ ap (return_sentry s) is))

      pub ends : HasAt code mid (epilogue_code homes frame) → (to : ℕ) → link ≡ place g to → to < length code
          → Gone g n (length (epilogue_code homes frame)) to (Ended n)
      ends has to is in_code =
          let words = kept_words ++ link_word ++ given_words in
          let b = back_again (has_front code mid (kept_words ++ link_word ++ given_words) (Cjalr 0 1 (pos 0) ∷ []) has)
          in
          leave b.to b.leads b.counter b.registers b.memory b.has
        where
          no_ten : position (λ z. z == 10) (kept_homes homes) ≡ None
          no_ten = ten_not_kept homes

          leave : (a : Machine) → Leads (length (kept_words ++ link_word ++ given_words)) n a
              → a.pc ≡ counter_at g (mid + length (kept_words ++ link_word ++ given_words)) → length a.regs ≡ 32
              → a.mem ≡ n.mem → Back_again n a → Gone g n (length (epilogue_code homes frame)) to (Ended n)
          leave a leads counter registers memory back =
              let there' = stays_there g n a mid (mid + length (kept_words ++ link_word ++ given_words)) there counter
              registers memory in
              let goes = jumps a (mid + length (kept_words ++ link_word ++ given_words)) to there'
              (has_back code mid (kept_words ++ link_word ++ given_words) (Cjalr 0 1 (pos 0) ∷ []) has).0 back.linked_to
              is
              in_code in
              let count : length (kept_words ++ link_word ++ given_words) + 1 ≡ length (epilogue_code homes frame) =
              sym (length-append (kept_words ++ link_word ++ given_words) (Cjalr 0 1 (pos 0) ∷ [])) in
              record {
                to = record a { pc = counter_at g to };
                leads = subst (λ k. Leads k n (record a { pc = counter_at g to })) count
                    (join (length (kept_words ++ link_word ++ given_words)) 1 n a
                    (record a { pc = counter_at g to }) leads
                    (record a { pc = counter_at g to }, goes, refl));
                counter = refl;
                registers = registers;
                memory = memory;
                has = record {
                  stack = back.stack;
                  table = same_Some (register a 3) (register n 3) (back.others 3 (λ e. absurd (omega (arith, e)))
                      (λ e. absurd (omega (arith, e))) (λ e. absurd (omega (arith, e)))
                      ∙ not_kept 3 (λ r low_r u e. absurd (omega (arith, low_r, e))) (Some (register n 3)));
                  value = same_Some (register a 10) (register n 10) (back.others 10 (λ e. absurd (omega (arith, e)))
                      (λ e. absurd (omega (arith, e))) (λ e. absurd (omega (arith, e)))
                      ∙ ap (λ k. from_place m.mem (option_map (λ j. at + registers_at homes frame + 16 * j) k)
                      (Some (register n 10))) no_ten);
                  kept = λ r k.
                      let range = kept_range r k in let from = range.0 in let up_to = range.1 in
                      back.others r (λ e. absurd (omega (arith, up_to, e))) (λ e. absurd (omega (arith, from, e)))
                      (λ e. absurd (omega (arith, from, e)))
                      ∙ sym (ap (λ o. from_place m.mem (kept_place o homes at r) (Some (register n r))) fr.is);
                };
              }
