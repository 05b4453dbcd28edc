-- A frame is taken: c2 moves down by its size, and down to its alignment.
use Rattle.std.proofs.Common.{◌≡◌, ℕ, zero, suc, ◌+◌, ◌-◌, ◌*◌, ◌/◌, ◌%◌, ◌^◌, ◌<◌, ◌≤◌, pos, neg_ℤ, Bool, true, false}
use Rattle.std.proofs.Common.{bit_and, List, [], ◌∷◌, ◌++◌, length, Some, refl, sym, ap, ◌∙◌, subst, arith}
use Rattle.std.proofs.Common.{if◌then◌else◌, inl, inr}
use Rattle.std.specs.Prelude.{nat_le, slice_get}
use Rattle.std.proofs.Math.Nat.{div-add-mod, mod-lt, mul_comm, pow-le-pow_right}
use Rattle.std.proofs.lemmas.Bool.{cases_lt, leb-true, ltb-false}
use Rattle.std.proofs.lemmas.Bool.Decides.{nat_tests}
use Rattle.std.proofs.lemmas.Nat.Bits.{and_high_mask}
use Rattle.ck_int.specs.declared.kinds.IntKind.TheVariants as int
use Rattle.ck_int.proofs.OperationLaws.{binary_of-Sub, binary_of-And}
use Rattle.cap_ops.specs.declared.capability.Cap.{Cap}
use Rattle.cap_ops.specs.Capability.{moved, added, null_at}
use Rattle.rv_instr.specs.Range.{InRange}
use Rattle.rv_instr.specs.declared.instr.Instr.{Instr}
use Rattle.rv_instr.specs.declared.instr.Instr.TheVariants.{Op, CapImm, CapReg, CapGet}
use Rattle.rv_instr.specs.declared.ops.RegOp.TheVariants.{Sub, And}
use Rattle.rv_instr.specs.declared.ops.CapImmOp.TheVariants.{Cincoffsetimm}
use Rattle.rv_instr.specs.declared.ops.CapRegOp.TheVariants.{Cincoffset, Csetaddr}
use Rattle.rv_instr.specs.declared.ops.CapGetOp.TheVariants.{Cmove}
use Rattle.cap_machine.specs.declared.machine.Machine.{Machine}
use Rattle.cap_machine.specs.Integers.{extended, result_of}
use Rattle.cap_machine.specs.State.{register, integer}
use Rattle.cap_machine.specs.Rows.{row, op_row, cap_imm_row, cap_reg_row, cap_get_row, set, set_integer}
use Rattle.obj_mem.specs.declared.map.Frame.{Frame}
use Rattle.reg_alloc.specs.declared.places.Home.{Home}
use Rattle.purecap_abi.specs.Ends.{negative, take_plain, take_aligned, take_code, before_store}
use Rattle.purecap_abi.specs.Numbers as numbers
use Rattle.purecap_abi.specs.Saving.{IsFor, keeps_stack}
use Rattle.purecap_abi.specs.Words.{wide_code}
use Rattle.place_inject.specs.Frames.{Setting, stack_top, stack_pointer}
use Rattle.place_inject.proofs.ReadBack.{address_of}
use Rattle.select_words.specs.Standing.{HasAt}
use Rattle.select_runs.specs.Acts.{Ground, IsThere}
use Rattle.select_runs.specs.Operands.{ground_of, IsText}
use Rattle.select_runs.proofs.Acts.{has_front, has_back, one_set}
use Rattle.select_runs.proofs.Epilogue.{makes_wide}
use Rattle.select_runs.proofs.Numbers.{number_at, numbers_are_made_law, plus_extended}
use Rattle.select_runs.proofs.Points.{laid}
use Rattle.select_runs.proofs.Stretches.{Gone, Sets, gone, gone_as, gone_both}

-- ---- numbers

-- so many bytes down, in 64 bits, and down to a multiple
abbrev pub less : (above size : ℕ) → ℕ
less above size = (above + (2 ^ 64 - size)) % 2 ^ 64

abbrev pub down : ℕ → Frame → ℕ
down above f = less above f.size / f.align * f.align

-- how far a number is above a multiple
pub rounded : (n by : ℕ) → 0 < by → (n / by * by ≤ n) × (n < n / by * by + by)
rounded n by some =
    let sum : n / by * by + n % by ≡ n = ap (λ v. v + n % by) (mul_comm (n / by) by) ∙ div-add-mod n by in
    let small = mod-lt n some in
    (omega (arith, sum), omega (arith, sum, small))

power_few : (k : ℕ) → 2 ^ k ≤ 67108864 → k ≤ 64
power_few k small = elim (cases_lt k 65) as (λ _. k ≤ 64) [
  | inl less_than ↦ omega (arith, less_than)
  | inr more ↦ let big : 27 ≤ k = omega (arith, more) in
      let l : 2 ^ 27 ≤ 2 ^ k = pow-le-pow_right {n = 2} (omega arith) {i = 27} {j = k} big in
      absurd (omega (arith, l, small))
]

pub sixteen_down : (above : ℕ) (f : Frame) → f.align ≡ 16 → above % 16 ≡ 0 → f.size % 16 ≡ 0 → f.size < 2 ^ 31
    → down above f ≡ less above f.size
sixteen_down above f is whole even small = ap (λ a. less above f.size / a * a) is ∙ omega arith

module _ (s : Setting) (code : List Instr) (x : IsText s code) (homes : List Home) (f : Frame) (fits : IsFor homes f)
    (above : ℕ) (top_is : above ≤ 2 ^ 40) (whole : above % 16 ≡ 0) where
  abbrev g : Ground
  g = ground_of s code

  abbrev size : ℕ
  size = f.size

  abbrev stack_was : Cap
  stack_was = stack_pointer s above

  size_some : 0 < size
  size_some = let saved = fits.saved in let inside = fits.inside in omega arith

  -- c2 is the stack there; no register up to c27 but c2 is another
  abbrev pub Taken : Machine → Machine → Type 0
  Taken n to =
      (register to 2 ≡ moved stack_was (down above f)) × (register to 28 ≡ stack_was)
      × ((r : ℕ) → r < 28 → (r ≡ 2 → ⊥) → register to r ≡ register n r)

  plain_align : keeps_stack f.align ≡ false → (f.align ≡ 16) × (size % 16 ≡ 0)
  plain_align none =
      let most = ltb-false 16 f.align none in let least = fits.least in let multiple = fits.multiple in
      let is : f.align ≡ 16 = omega arith in
      (is, ap (λ a. size % a) (sym is) ∙ multiple)

  module _ (n : Machine) (mid : ℕ) (there : IsThere g n mid) (stack_is : register n 2 ≡ stack_was)
      (caller : register n 28 ≡ stack_was) where
    -- a last word that sets c2
    sets_two : (a : Machine) (at : ℕ) → IsThere g a at → (i : Instr) → slice_get code at ≡ Some i
        → Rattle.cap_machine.specs.Step.is_call i ≡ false → row a i ≡ set a 2 (moved stack_was (down above f))
        → register a 28 ≡ stack_was → ((r : ℕ) → r < 28 → (r ≡ 2 → ⊥) → register a r ≡ register n r)
        → Gone g a 1 (at + 1) (Taken n)
    sets_two a at there' i has plain does caller' others =
        gone_as g a 1 (at + 1) (Sets a 2 2 (moved stack_was (down above f))) (Taken n)
        (gone g a 1 (at + 1) 2 2 (moved stack_was (down above f)) (one_set g (laid s code x) a at there' i 2
        (moved stack_was (down above f)) has plain (omega arith) (omega arith) does))
        (λ to h. (h.0, h.1 28 (λ e. absurd (omega (arith, e))) ∙ caller', λ r l d. h.1 r d ∙ others r l d))

    -- by a number that an instruction holds
    by_step : keeps_stack f.align ≡ false → size ≤ 2048 →
        HasAt code mid (CapImm Cincoffsetimm 2 2 (neg_ℤ (pos size)) ∷ [])
        → Gone g n 1 (mid + 1) (Taken n)
    unfolding row cap_imm_row InRange numbers.plus
    by_step none small has =
        sets_two n mid there (CapImm Cincoffsetimm 2 2 (neg_ℤ (pos size))) has.0 refl
        (ap (λ c. set n 2 (added c (extended (neg_ℤ (pos size))))) stack_is
        ∙ ap (λ a. set n 2 (moved stack_was ((a + extended (neg_ℤ (pos size))) % 2 ^ 64)))
        (address_of s.map.stack.0 (stack_top s) above)
        ∙ ap (λ a. set n 2 (moved stack_was a)) (is size size_some small refl)) caller (λ r l d. refl)
      where
        is : (k : ℕ) → 0 < k → k ≤ 2048 → size ≡ k → (above + extended (neg_ℤ (pos k))) % 2 ^ 64 ≡ down above f
        is zero some l e = absurd (omega (arith, some))
        is (suc k) some l e =
            let a = plain_align none in
            plus_extended above (neg_ℤ (pos (suc k)))
            ((subst (λ i. InRange (CapImm Cincoffsetimm 2 2 (neg_ℤ (pos i)))) e
            (x.in_range mid (CapImm Cincoffsetimm 2 2 (neg_ℤ (pos size))) has.0)).2)
            ∙ ap (less above) (sym e) ∙ sym (sixteen_down above f a.0 whole a.1 (omega (arith, e, l)))

    -- by a number of 32 bits
    by_number : keeps_stack f.align ≡ false
        → HasAt code mid (wide_code 29 (negative size) ++ CapReg Cincoffset 2 2 29 ∷ [])
        → Gone g n 3 (mid + 3) (Taken n)
    unfolding row cap_reg_row
    by_number none has =
        let small = fits.small in let some = size_some in
        gone_both g n mid there (wide_code 29 (negative size)) (CapReg Cincoffset 2 2 29 ∷ [])
        (Sets n 29 29 (null_at (negative size))) (Taken n)
        (gone g n 2 (mid + 2) 29 29 (null_at (negative size))
        (numbers_are_made_law g (laid s code x) n mid there 29 (negative size) (omega arith) (omega arith)
        (wide_code 29 (negative size)) (makes_wide 29 (negative size) (omega arith) (grind (arith, nat_tests))
        (omega arith))
        (has_front code mid (wide_code 29 (negative size)) (CapReg Cincoffset 2 2 29 ∷ []) has)))
        (λ a there' mem h.
        sets_two a (mid + 2) there' (CapReg Cincoffset 2 2 29)
        (has_back code mid (wide_code 29 (negative size)) (CapReg Cincoffset 2 2 29 ∷ []) has).0 refl (does a h)
        (h.1 28 (λ e. absurd (omega (arith, e))) ∙ caller) (λ r l d. h.1 r (λ e. absurd (omega (arith, e, l)))))
      where
        does : (a : Machine) → Sets n 29 29 (null_at (negative size)) a
            → row a (CapReg Cincoffset 2 2 29) ≡ set a 2 (moved stack_was (down above f))
        does a h =
            let e = plain_align none in let small = fits.small in
            ap (λ c. set a 2 (added c (integer a 29))) (h.1 2 (λ e. absurd (omega (arith, e))) ∙ stack_is)
            ∙ ap (λ k. set a 2 (added stack_was k)) (number_at a 29 (negative size) h.0)
            ∙ ap (λ k. set a 2 (moved stack_was ((k + negative size) % 2 ^ 64)))
            (address_of s.map.stack.0 (stack_top s) above)
            ∙ ap (λ k. set a 2 (moved stack_was k)) (sym (sixteen_down above f e.0 whole e.1 (omega arith)))

    -- ---- to a greater alignment

    abbrev low_word : List Instr
    low_word = Op Sub 29 28 29 ∷ []

    abbrev mask_words : List Instr
    mask_words = wide_code 30 (negative f.align)

    abbrev and_word : List Instr
    and_word = Op And 29 29 30 ∷ []

    abbrev set_word : List Instr
    set_word = CapReg Csetaddr 2 2 29 ∷ []

    -- c29 and c30 have numbers
    abbrev Counts : (a b : ℕ) → Machine → Type 0
    Counts a b to =
        (register to 29 ≡ null_at a) × (register to 30 ≡ null_at b)
        × ((r : ℕ) → (r ≡ 29 → ⊥) → (r ≡ 30 → ⊥) → register to r ≡ register n r)

    abbrev Count : ℕ → Machine → Type 0
    Count a to = (register to 29 ≡ null_at a) × ((r : ℕ) → (r ≡ 29 → ⊥) → register to r ≡ register n r)

    -- and c29 another
    abbrev Count_on : ℕ → Machine → Type 0
    Count_on k to =
        (register to 29 ≡ null_at k) × ((r : ℕ) → (r ≡ 29 → ⊥) → (r ≡ 30 → ⊥) → register to r ≡ register n r)

    lowered : (a : Machine) (at : ℕ) → IsThere g a at → slice_get code at ≡ Some (Op Sub 29 28 29) → Count size a
        → Gone g a 1 (at + 1) (Count (less above size))
    unfolding row op_row result_of
    lowered a at there' has h =
        let small = fits.small in
        gone_as g a 1 (at + 1) (Sets a 29 29 (null_at (less above size))) (Count (less above size))
        (gone g a 1 (at + 1) 29 29 (null_at (less above size))
        (one_set g (laid s code x) a at there' (Op Sub 29 28 29) 29 (null_at (less above size)) has refl (omega arith)
        (omega arith)
        (ap (λ (c : Cap). set_integer a 29 (result_of Sub c.fields.address (integer a 29)))
        (h.1 28 (λ e. absurd (omega (arith, e))) ∙ caller)
        ∙ ap (λ k. set_integer a 29 (result_of Sub k (integer a 29))) (address_of s.map.stack.0 (stack_top s) above)
        ∙ ap (λ k. set_integer a 29 (result_of Sub above k)) (number_at a 29 size h.0)
        ∙ ap (set_integer a 29) (binary_of-Sub int.I64 above size refl (omega arith) (omega arith)))))
        (λ to k. (k.0, λ r d. k.1 r d ∙ h.1 r d))

    masks : (a : Machine) (at : ℕ) → IsThere g a at → HasAt code at mask_words → Count (less above size) a
        → Gone g a 2 (at + 2) (Counts (less above size) (negative f.align))
    masks a at there' has h =
        let most = fits.most in let least = fits.least in
        gone_as g a 2 (at + 2) (Sets a 30 30 (null_at (negative f.align))) (Counts (less above size) (negative f.align))
        (gone g a 2 (at + 2) 30 30 (null_at (negative f.align))
        (numbers_are_made_law g (laid s code x) a at there' 30 (negative f.align) (omega arith) (omega arith) mask_words
        (makes_wide 30 (negative f.align) (omega arith) (grind (arith, nat_tests)) (omega arith)) has))
        (λ to k. (k.1 29 (λ e. absurd (omega (arith, e))) ∙ h.0, k.0, λ r d e. k.1 r e ∙ h.1 r d))

    masked : bit_and (less above size) (negative f.align) ≡ down above f
    masked =
        let power = fits.power in let is = power.1 in
        ap (λ a. bit_and (less above size) (2 ^ 64 - a)) is
        ∙ and_high_mask 64 power.0 (power_few power.0 (let most = fits.most in omega (arith, most, is)))
        (less above size)
        (omega arith) ∙ ap (λ a. less above size / a * a) (sym is)

    ands : (a : Machine) (at : ℕ) → IsThere g a at → slice_get code at ≡ Some (Op And 29 29 30)
        → Counts (less above size) (negative f.align) a → Gone g a 1 (at + 1) (Count_on (down above f))
    unfolding row op_row result_of
    ands a at there' has h =
        let most = fits.most in let least = fits.least in
        gone_as g a 1 (at + 1) (Sets a 29 29 (null_at (down above f))) (Count_on (down above f))
        (gone g a 1 (at + 1) 29 29 (null_at (down above f))
        (one_set g (laid s code x) a at there' (Op And 29 29 30) 29 (null_at (down above f)) has refl (omega arith)
        (omega arith)
        (ap (λ k. set_integer a 29 (result_of And k (integer a 30))) (number_at a 29 (less above size) h.0)
        ∙ ap (λ k. set_integer a 29 (result_of And (less above size) k)) (number_at a 30 (negative f.align) h.1)
        ∙ ap (set_integer a 29) (binary_of-And int.I64 (less above size) (negative f.align) refl (omega arith)
        (omega arith) ∙ masked))))
        (λ to k. (k.0, λ r d e. k.1 r d ∙ h.2 r d e))

    by_alignment : HasAt code mid (take_aligned size f.align) → Gone g n 7 (mid + 7) (Taken n)
    unfolding row cap_reg_row
    by_alignment has =
        let small = fits.small in
        let h1 = has_back code mid (wide_code 29 size) (low_word ++ (mask_words ++ (and_word ++ set_word))) has in
        let h2 = has_back code (mid + 2) low_word (mask_words ++ (and_word ++ set_word)) h1 in
        let h3 = has_back code (mid + 2 + 1) mask_words (and_word ++ set_word) h2 in
        let h4 = has_back code (mid + 2 + 1 + 2) and_word set_word h3 in
        gone_both g n mid there (wide_code 29 size) (low_word ++ (mask_words ++ (and_word ++ set_word))) (Count size)
        (Taken n)
        (gone g n 2 (mid + 2) 29 29 (null_at size)
        (numbers_are_made_law g (laid s code x) n mid there 29 size (omega arith) (omega arith) (wide_code 29 size)
        (makes_wide 29 size (omega arith) (grind (arith, nat_tests)) (omega arith)) (has.0, (has.1.0, tt))))
        (λ a there_a mem_a ha.
        gone_both g a (mid + 2) there_a low_word (mask_words ++ (and_word ++ set_word)) (Count (less above size))
        (Taken n)
        (lowered a (mid + 2) there_a h1.0 ha)
        (λ b there_b mem_b hb.
        gone_both g b (mid + 2 + 1) there_b mask_words (and_word ++ set_word)
        (Counts (less above size) (negative f.align)) (Taken n)
        (masks b (mid + 2 + 1) there_b (has_front code (mid + 2 + 1) mask_words (and_word ++ set_word) h2) hb)
        (λ c there_c mem_c hc.
        gone_both g c (mid + 2 + 1 + 2) there_c and_word set_word (Count_on (down above f)) (Taken n)
        (ands c (mid + 2 + 1 + 2) there_c h3.0 hc)
        (λ d there_d mem_d hd.
        sets_two d (mid + 2 + 1 + 2 + 1) there_d (CapReg Csetaddr 2 2 29) h4.0 refl
        (ap (λ k. set d 2 (moved k (integer d 29))) (hd.1 2 (λ e. absurd (omega (arith, e)))
        (λ e. absurd (omega (arith, e))) ∙ stack_is)
        ∙ ap (λ k. set d 2 (moved stack_was k)) (number_at d 29 (down above f) hd.0))
        (hd.1 28 (λ e. absurd (omega (arith, e))) (λ e. absurd (omega (arith, e))) ∙ caller)
        (λ r l e. hd.1 r (λ q. absurd (omega (arith, q, l))) (λ q. absurd (omega (arith, q, l))))))))

    pub takes : HasAt code mid (take_code f)
        → Gone g n (length (take_code f)) (mid + length (take_code f)) (Taken n)
    takes has = by (keeps_stack f.align) refl has
      where
        plain : (b : Bool) → nat_le size 2048 ≡ b → keeps_stack f.align ≡ false
            → HasAt code mid (if b then CapImm Cincoffsetimm 2 2 (neg_ℤ (pos size)) ∷ []
            else wide_code 29 (negative size) ++ CapReg Cincoffset 2 2 29 ∷ [])
            → Gone g n (length (if b then CapImm Cincoffsetimm 2 2 (neg_ℤ (pos size)) ∷ []
            else wide_code 29 (negative size) ++ CapReg Cincoffset 2 2 29 ∷ []))
            (mid + length (if b then CapImm Cincoffsetimm 2 2 (neg_ℤ (pos size)) ∷ []
            else wide_code 29 (negative size) ++ CapReg Cincoffset 2 2 29 ∷ [])) (Taken n)
        plain true e none h = by_step none (leb-true size 2048 e) h
        plain false e none h = by_number none h

        by : (b : Bool) → keeps_stack f.align ≡ b
            → HasAt code mid (if b then take_aligned size f.align else take_plain size)
            → Gone g n (length (if b then take_aligned size f.align else take_plain size))
            (mid + length (if b then take_aligned size f.align else take_plain size)) (Taken n)
        by true e h = by_alignment h
        by false e h = plain (nat_le size 2048) refl e h

  -- ---- with c28 as the caller's stack before

  pub takes_frame : (m : Machine) (at : ℕ) → IsThere g m at → register m 2 ≡ stack_was → HasAt code at (before_store f)
      → Gone g m (length (before_store f)) (at + length (before_store f)) (Taken m)
  unfolding row cap_get_row
  takes_frame m at there stack_is has =
      gone_both g m at there (CapGet Cmove 28 2 ∷ []) (take_code f) (Sets m 28 28 stack_was) (Taken m)
      (gone g m 1 (at + 1) 28 28 stack_was (one_set g (laid s code x) m at there (CapGet Cmove 28 2) 28 stack_was has.0
      refl (omega arith) (omega arith) (ap (set m 28) stack_is)))
      (λ n there' mem h.
      gone_as g n (length (take_code f)) (at + 1 + length (take_code f)) (Taken n) (Taken m)
      (takes n (at + 1) there' (h.1 2 (λ e. absurd (omega (arith, e))) ∙ stack_is) h.0 has.1)
      (λ to t. (t.0, t.1, λ r l d. t.2 r l d ∙ h.1 r (λ e. absurd (omega (arith, e, l))))))
