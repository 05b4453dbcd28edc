-- Each word that is appended is plain.
use Rattle.std.proofs.Common.{◌≡◌, ℕ, zero, suc, ◌+◌, ◌%◌, ◌^◌, ◌<◌, ◌≤◌, ℤ, pos, ◌-ℤ◌, Bool, true, false, List, []}
use Rattle.std.proofs.Common.{◌∷◌, ◌++◌, length, refl, sym, ap, ◌∙◌, subst, arith, if◌then◌else◌, inl, inr}
use Rattle.std.proofs.Common.{append_assoc}
use Rattle.std.specs.Prelude.{nat_lt, Result, Ok, Err, OnOk}
use Rattle.std.specs.List.{All}
use Rattle.std.proofs.lemmas.Bool.{cases_lt}
use Rattle.std.proofs.lemmas.Bool.Decides.{nat_tests}
use Rattle.std.proofs.lemmas.Int.{ints}
use Rattle.std.proofs.lemmas.List.{length-append}
use Rattle.std.proofs.lemmas.List.Elements.{All-append}
use Rattle.rv_instr.specs.declared.instr.Instr.{Instr}
use Rattle.rv_instr.specs.declared.instr.Instr.TheVariants.{Store, Clc, Imm, Shift, CapImm, CapReg}
use Rattle.rv_instr.specs.declared.ops.ImmOp.{ImmOp}
use Rattle.rv_instr.specs.declared.ops.ImmOp.TheVariants.{Addiw}
use Rattle.rv_instr.specs.declared.ops.StoreOp.TheVariants.{Csc}
use Rattle.rv_instr.specs.declared.ops.CapImmOp.TheVariants.{Cincoffsetimm}
use Rattle.rv_instr.specs.declared.ops.CapRegOp.{CapRegOp}
use Rattle.rv_instr.specs.declared.ops.CapRegOp.TheVariants.{Cincoffset}
use Rattle.rv_instr.specs.declared.ops.ShiftOp.TheVariants.{Slli}
use Rattle.rv_instr.specs.Range.{InRange, FitsBits}
use Rattle.purecap_abi.specs.Words.{IsPlainWord, Appends, low, high, is_short, is_word, most_words, upper, wide_code}
use Rattle.purecap_abi.specs.Words.{near_code, load_code, store_code, low_code, low_move, moved_code}

-- ---- lists

pub all_none : All IsPlainWord []
all_none k d h = absurd (omega arith)

pub all_cons : (i : Instr) (is : List Instr) → IsPlainWord i → All IsPlainWord is → All IsPlainWord (i ∷ is)
all_cons i is h hs zero d j = h
all_cons i is h hs (suc k) d j = hs k d (omega arith)

pub all_one : (i : Instr) → IsPlainWord i → All IsPlainWord (i ∷ [])
all_one i h = all_cons i [] h all_none

-- ---- what was appended

pub appends_code : (most : ℕ) (old new code : List Instr) → new ≡ old ++ code → length code ≤ most →
    All IsPlainWord code → Appends most old new
appends_code most old new code e h r = record { added = code; is = e; few = h; plain = r }

pub appends_one : (old new : List Instr) (i : Instr) → new ≡ old ++ i ∷ [] → IsPlainWord i → Appends 1 old new
appends_one old new i e r = appends_code 1 old new (i ∷ []) e (omega arith) (all_one i r)

pub appends_then : (a b c : ℕ) (x y z : List Instr) → Appends a x y → Appends b y z → a + b ≤ c → Appends c x z
appends_then a b c x y z p q h = record {
  added = p.added ++ q.added;
  is = q.is ∙ ap (λ v. v ++ q.added) p.is ∙ append_assoc x p.added q.added;
  few = let f = p.few in let g = q.few in omega (arith, length-append p.added q.added);
  plain = All-append IsPlainWord p.added q.added p.plain q.plain;
}

pub appends_more : (a b : ℕ) (x y : List Instr) → Appends a x y → a ≤ b → Appends b x y
appends_more a b x y p h = record { added = p.added; is = p.is; few = let f = p.few in omega arith; plain = p.plain }

pub on_ok : {T E : Type 0} (r : Result T E) (P Q : Type 0) → OnOk r P → (P → Q) → OnOk r Q
on_ok (Ok x) P Q p f = f p
on_ok (Err e) P Q p f = p

-- ---- immediates

pub fits_pos : (n : ℕ) → n < 2048 → FitsBits 12 (pos n)
fits_pos n h = (omega (arith, ints), omega (arith, ints))

pub fits_low : (n : ℕ) → FitsBits 12 (low n)
fits_low n = elim (cases_lt (n % 4096) 2048) as (λ _. FitsBits 12 (low n)) [
  | inl less ↦ let e : low n ≡ pos (n % 4096) = grind (arith, nat_tests) in
      subst (FitsBits 12) (sym e) (fits_pos (n % 4096) less)
  | inr more ↦ let e : low n ≡ pos (n % 4096) -ℤ pos 4096 = grind (arith, nat_tests) in
      subst (FitsBits 12) (sym e) (omega (arith, ints), omega (arith, ints))
]

-- ---- instructions

pub r_upper : (to n : ℕ) → to < 32 → IsPlainWord (upper to n)
unfolding InRange
r_upper to n h = record { in_range = (h, omega arith); anywhere = refl }

pub r_imm : (o : ImmOp) (to from n : ℕ) → to < 32 → from < 32 → IsPlainWord (Imm o to from (low n))
unfolding InRange
r_imm o to from n h j = record { in_range = (h, j, fits_low n); anywhere = refl }

pub r_shift : (to : ℕ) → to < 32 → IsPlainWord (Shift Slli to to 12)
unfolding InRange
r_shift to h = record { in_range = (h, h, omega arith); anywhere = refl }

pub r_register : (o : CapRegOp) (to base by : ℕ) → to < 32 → base < 32 → by < 32 → IsPlainWord (CapReg o to base by)
unfolding InRange
r_register o to base by h j k = record { in_range = (h, j, k); anywhere = refl }

pub r_clc : (to base : ℕ) (z : ℤ) → to < 32 → base < 32 → FitsBits 12 z → IsPlainWord (Clc to base z)
unfolding InRange
r_clc to base z h j k = record { in_range = (h, j, k); anywhere = refl }

pub r_csc : (from base : ℕ) (z : ℤ) → from < 32 → base < 32 → FitsBits 12 z → IsPlainWord (Store Csc from base z)
unfolding InRange
r_csc from base z h j k = record { in_range = (h, j, k); anywhere = refl }

pub r_move : (to base : ℕ) (z : ℤ) → to < 32 → base < 32 → FitsBits 12 z → IsPlainWord (CapImm Cincoffsetimm to base z)
unfolding InRange
r_move to base z h j k = record { in_range = (h, j, k); anywhere = refl }

-- ---- the words of this crate

pub r_wide : (to n : ℕ) → to < 32 → All IsPlainWord (wide_code to n)
r_wide to n h = all_cons (upper to n) (Imm Addiw to to (low n) ∷ []) (r_upper to n h)
    (all_one (Imm Addiw to to (low n)) (r_imm Addiw to to n h h))

pub r_near : (to base offset : ℕ) → to < 32 → base < 32 → All IsPlainWord (near_code to base offset)
r_near to base offset h j =
    all_cons (upper to offset) (CapReg Cincoffset to base to ∷ []) (r_upper to offset h)
    (all_one (CapReg Cincoffset to base to) (r_register Cincoffset to base to h j h))

-- one word, or at most three
pub record AreFew (near : Bool) (code : List Instr) : Type 0 where
  pub few : length code ≤ (if near then 1 else 3)
  pub plain : All IsPlainWord code

pub appends_few : (near : Bool) (old new code : List Instr) → new ≡ old ++ code → AreFew near code →
    Appends (if near then 1 else 3) old new
appends_few near old new code e f = appends_code _ old new code e f.few f.plain

pub load_few : (to base offset scratch : ℕ) → to < 32 → base < 32 → scratch < 32 →
    AreFew (nat_lt offset 2048) (load_code to base offset scratch)
load_few to base offset scratch h j k = by (nat_lt offset 2048) refl
  where
    by : (b : Bool) → nat_lt offset 2048 ≡ b
        → AreFew b (if b then Clc to base (pos offset) ∷ []
        else near_code scratch base offset ++ Clc to scratch (low offset) ∷ [])
    by true e = record {
      few = omega arith;
      plain = all_one _ (r_clc to base (pos offset) h j (fits_pos offset (grind (arith, nat_tests))));
    }
    by false e = record {
      few = omega arith;
      plain = All-append IsPlainWord (near_code scratch base offset) (Clc to scratch (low offset) ∷ [])
          (r_near scratch base offset k j) (all_one _ (r_clc to scratch (low offset) h k (fits_low offset)));
    }

pub store_few : (from base offset scratch : ℕ) → from < 32 → base < 32 → scratch < 32 →
    AreFew (nat_lt offset 2048) (store_code from base offset scratch)
store_few from base offset scratch h j k = by (nat_lt offset 2048) refl
  where
    by : (b : Bool) → nat_lt offset 2048 ≡ b
        → AreFew b (if b then Store Csc from base (pos offset) ∷ []
        else near_code scratch base offset ++ Store Csc from scratch (low offset) ∷ [])
    by true e = record {
      few = omega arith;
      plain = all_one _ (r_csc from base (pos offset) h j (fits_pos offset (grind (arith, nat_tests))));
    }
    by false e = record {
      few = omega arith;
      plain = All-append IsPlainWord (near_code scratch base offset) (Store Csc from scratch (low offset) ∷ [])
          (r_near scratch base offset k j) (all_one _ (r_csc from scratch (low offset) h k (fits_low offset)));
    }

pub record AreAtMost (most : ℕ) (code : List Instr) : Type 0 where
  pub few : length code ≤ most
  pub plain : All IsPlainWord code

low_move_few : (to offset : ℕ) → to < 32 → AreAtMost 1 (low_move to offset)
low_move_few to offset h = by (nat_lt 0 (offset % 4096))
  where
    by : (b : Bool) → AreAtMost 1 (if b then CapImm Cincoffsetimm to to (low offset) ∷ [] else [])
    by true = record { few = omega arith; plain = all_one _ (r_move to to (low offset) h h (fits_low offset)) }
    by false = record { few = omega arith; plain = all_none }

pub moved_few : (to base offset : ℕ) → to < 32 → base < 32 → AreFew (nat_lt offset 2048) (moved_code to base offset)
moved_few to base offset h j = by (nat_lt offset 2048) refl
  where
    by : (b : Bool) → nat_lt offset 2048 ≡ b
        → AreFew b (if b then CapImm Cincoffsetimm to base (pos offset) ∷ []
        else near_code to base offset ++ low_move to offset)
    by true e = record {
      few = omega arith;
      plain = all_one _ (r_move to base (pos offset) h j (fits_pos offset (grind (arith, nat_tests))));
    }
    by false e =
        let l = low_move_few to offset h in
        record {
          few = let f = l.few in omega (arith, length-append (near_code to base offset) (low_move to offset));
          plain = All-append IsPlainWord (near_code to base offset) (low_move to offset)
              (r_near to base offset h j) l.plain;
        }

-- ---- numbers

pub low_few : (op : ImmOp) (to n : ℕ) → to < 32 → AreAtMost 1 (low_code op to n)
low_few op to n h = by (nat_lt 0 (n % 4096))
  where
    by : (b : Bool) → AreAtMost 1 (if b then Imm op to to (low n) ∷ [] else [])
    by true = record { few = omega arith; plain = all_one (Imm op to to (low n)) (r_imm op to to n h h) }
    by false = record { few = omega arith; plain = all_none }

pub appends_most : (most : ℕ) (old new code : List Instr) → new ≡ old ++ code → AreAtMost most code →
    Appends most old new
appends_most most old new code e a = appends_code most old new code e a.few a.plain

-- a number of more than 32 bits takes two words more than what is left over its low 12
pub most_high : (n : ℕ) → n < 2 ^ 64 → is_short n ≡ false → is_word n ≡ false → most_words (high n) + 2 ≤ most_words n
unfolding most_words
most_high n h s w = grind (arith, nat_tests)

pub most_short : (n : ℕ) → 1 ≤ most_words n
unfolding most_words
most_short n = grind (arith, nat_tests)

pub most_word : (n : ℕ) → is_short n ≡ false → 2 ≤ most_words n
unfolding most_words
most_word n e = grind (arith, nat_tests)
