-- The words with which functions begin and end are few, and each is plain.
use Rattle.std.proofs.Common.{◌≡◌, ℕ, suc, ◌+◌, ◌*◌, ◌<◌, ◌≤◌, pos, neg_ℤ, Bool, true, false, List, [], ◌∷◌, ◌++◌}
use Rattle.std.proofs.Common.{length, take, get_or, Option, Some, None, refl, sym, ap, ◌∙◌, arith, if◌then◌else◌}
use Rattle.std.proofs.Common.{append_assoc}
use Rattle.std.specs.Prelude.{nat_lt, nat_le}
use Rattle.std.specs.List.{filter}
use Rattle.std.proofs.lemmas.Bool.Decides.{nat_tests}
use Rattle.std.proofs.lemmas.Int.{ints}
use Rattle.std.proofs.lemmas.List.{length-append, length-take}
use Rattle.std.proofs.lemmas.List.Elements.{All-append, filter_more}
use Rattle.rv_instr.specs.declared.instr.Instr.{Instr}
use Rattle.rv_instr.specs.declared.instr.Instr.TheVariants.{Cjalr, Clc, Op, CapImm, CapReg, CapGet}
use Rattle.rv_instr.specs.declared.ops.RegOp.{RegOp}
use Rattle.rv_instr.specs.declared.ops.RegOp.TheVariants.{Sub, And}
use Rattle.rv_instr.specs.declared.ops.CapImmOp.TheVariants.{Cincoffsetimm}
use Rattle.rv_instr.specs.declared.ops.CapRegOp.TheVariants.{Cincoffset, Csetaddr}
use Rattle.rv_instr.specs.declared.ops.CapGetOp.TheVariants.{Cmove}
use Rattle.rv_instr.specs.Range.{InRange, FitsBits}
use Rattle.reg_alloc.specs.declared.places.Home.{Home}
use Rattle.obj_mem.specs.declared.map.Frame.{Frame}
use Rattle.purecap_abi.specs.declared.taking.Way.{Way}
use Rattle.purecap_abi.specs.declared.taking.Way.TheVariants.{ToFrame, FromFrame}
use Rattle.purecap_abi.specs.Words.{IsPlainWord, wide_code, load_code, store_code, moved_code}
use Rattle.purecap_abi.specs.Saving.{kept_homes, kept_registers, is_home, keeps_stack, registers_at, stack_at}
use Rattle.purecap_abi.specs.Ends.{negative, take_plain, take_aligned, take_code, give_plain, give_code, stack_code}
use Rattle.purecap_abi.specs.Ends.{keep, keep_from, keep_at, keep_code, before_store, link_store, prologue_code}
use Rattle.purecap_abi.specs.Ends.{epilogue_code}
use Rattle.purecap_abi.proofs.Ranges.{all_none, all_cons, all_one, fits_pos, AreAtMost, AreFew, r_wide, r_clc, r_csc}
use Rattle.purecap_abi.proofs.Ranges.{r_move, r_register, load_few, store_few, moved_few}
use Rattle.purecap_abi.proofs.Counts.{kept_most, length_filter}

-- ---- lists of words

at_none : AreAtMost 0 []
at_none = record { few = omega arith; plain = all_none }

at_one : (i : Instr) → IsPlainWord i → AreAtMost 1 (i ∷ [])
at_one i h = record { few = omega arith; plain = all_one i h }

at_cons : (n : ℕ) (i : Instr) (is : List Instr) → IsPlainWord i → AreAtMost n is → AreAtMost (suc n) (i ∷ is)
at_cons n i is h a = record { few = let f = a.few in omega arith; plain = all_cons i is h a.plain }

at_both : (m n : ℕ) (is js : List Instr) → AreAtMost m is → AreAtMost n js → AreAtMost (m + n) (is ++ js)
at_both m n is js a b = record {
  few = let f = a.few in let g = b.few in omega (arith, length-append is js);
  plain = All-append IsPlainWord is js a.plain b.plain;
}

at_more : (m n : ℕ) (is : List Instr) → m ≤ n → AreAtMost m is → AreAtMost n is
at_more m n is h a = record { few = let f = a.few in omega arith; plain = a.plain }

at_three : (near : Bool) (is : List Instr) → AreFew near is → AreAtMost 3 is
at_three true is f = record { few = let g = f.few in omega arith; plain = f.plain }
at_three false is f = record { few = let g = f.few in omega arith; plain = f.plain }

at_wide : (to n : ℕ) → to < 32 → AreAtMost 2 (wide_code to n)
at_wide to n h = record { few = omega arith; plain = r_wide to n h }

-- ---- words

r_op : (o : RegOp) (to a b : ℕ) → to < 32 → a < 32 → b < 32 → IsPlainWord (Op o to a b)
unfolding InRange
r_op o to a b h j k = record { in_range = (h, j, k); anywhere = refl }

r_get : (to from : ℕ) → to < 32 → from < 32 → IsPlainWord (CapGet Cmove to from)
unfolding InRange
r_get to from h j = record { in_range = (h, j); anywhere = refl }

r_return : IsPlainWord (Cjalr 0 1 (pos 0))
unfolding InRange
r_return = record { in_range = (omega arith, omega arith, fits_pos 0 (omega arith)); anywhere = refl }

fits_down : (n : ℕ) → n ≤ 2048 → FitsBits 12 (neg_ℤ (pos n))
fits_down n h = (omega (arith, ints), omega (arith, ints))

-- ---- the frame

moves_stack : (n : ℕ) → AreAtMost 3 (wide_code 29 n ++ CapReg Cincoffset 2 2 29 ∷ [])
moves_stack n = at_both 2 1 (wide_code 29 n) (CapReg Cincoffset 2 2 29 ∷ []) (at_wide 29 n (omega arith))
    (at_one (CapReg Cincoffset 2 2 29) (r_register Cincoffset 2 2 29 (omega arith) (omega arith) (omega arith)))

takes_plain : (size : ℕ) → AreAtMost 3 (take_plain size)
takes_plain size = by (nat_le size 2048) refl
  where
    by : (b : Bool) → nat_le size 2048 ≡ b →
        AreAtMost 3 (if b then CapImm Cincoffsetimm 2 2 (neg_ℤ (pos size)) ∷ []
        else wide_code 29 (negative size) ++ CapReg Cincoffset 2 2 29 ∷ [])
    by true e = at_more 1 3 (CapImm Cincoffsetimm 2 2 (neg_ℤ (pos size)) ∷ []) (omega arith)
        (at_one (CapImm Cincoffsetimm 2 2 (neg_ℤ (pos size)))
        (r_move 2 2 (neg_ℤ (pos size)) (omega arith) (omega arith) (fits_down size (grind (arith, nat_tests)))))
    by false e = moves_stack (negative size)

takes_aligned : (size align : ℕ) → AreAtMost 7 (take_aligned size align)
takes_aligned size align =
    at_both 5 2 (wide_code 29 size ++ Op Sub 29 28 29 ∷ wide_code 30 (negative align))
    (Op And 29 29 30 ∷ CapReg Csetaddr 2 2 29 ∷ [])
    (at_both 2 3 (wide_code 29 size) (Op Sub 29 28 29 ∷ wide_code 30 (negative align)) (at_wide 29 size (omega arith))
    (at_cons 2 (Op Sub 29 28 29) (wide_code 30 (negative align))
    (r_op Sub 29 28 29 (omega arith) (omega arith) (omega arith)) (at_wide 30 (negative align) (omega arith))))
    (at_cons 1 (Op And 29 29 30) (CapReg Csetaddr 2 2 29 ∷ [])
    (r_op And 29 29 30 (omega arith) (omega arith) (omega arith))
    (at_one (CapReg Csetaddr 2 2 29) (r_register Csetaddr 2 2 29 (omega arith) (omega arith) (omega arith))))

takes : (f : Frame) → AreAtMost 7 (take_code f)
takes f = by (keeps_stack f.align)
  where
    by : (b : Bool) → AreAtMost 7 (if b then take_aligned f.size f.align else take_plain f.size)
    by true = takes_aligned f.size f.align
    by false = at_more 3 7 (take_plain f.size) (omega arith) (takes_plain f.size)

gives_plain : (size : ℕ) → AreAtMost 3 (give_plain size)
gives_plain size = by (nat_lt size 2048) refl
  where
    by : (b : Bool) → nat_lt size 2048 ≡ b →
        AreAtMost 3 (if b then CapImm Cincoffsetimm 2 2 (pos size) ∷ []
        else wide_code 29 size ++ CapReg Cincoffset 2 2 29 ∷ [])
    by true e = at_more 1 3 (CapImm Cincoffsetimm 2 2 (pos size) ∷ []) (omega arith)
        (at_one (CapImm Cincoffsetimm 2 2 (pos size))
        (r_move 2 2 (pos size) (omega arith) (omega arith) (fits_pos size (grind (arith, nat_tests)))))
    by false e = moves_stack size

gives : (at : Option ℕ) (size : ℕ) → AreAtMost 3 (give_code at size)
gives None size = gives_plain size
gives (Some at) size = at_three (nat_lt at 2048) (load_code 2 2 at 29)
    (load_few 2 2 at 29 (omega arith) (omega arith) (omega arith))

keeps : (at : Option ℕ) → AreAtMost 3 (stack_code at)
keeps None = at_more 0 3 [] (omega arith) at_none
keeps (Some at) = at_three (nat_lt at 2048) (store_code 28 2 at 29)
    (store_few 28 2 at 29 (omega arith) (omega arith) (omega arith))

-- ---- the kept registers

abbrev AreRegisters : List ℕ → Type 0
AreRegisters [] = Unit {0}
AreRegisters (r ∷ rs) = (r < 32) × AreRegisters rs

filtered : (p : ℕ → Bool) (rs : List ℕ) → AreRegisters rs → AreRegisters (filter p rs)
filtered p [] h = tt
filtered p (r ∷ rs) h = by (p r) (filtered p rs h.1)
  where
    by : (b : Bool) → AreRegisters (filter p rs) → AreRegisters (if b then r ∷ filter p rs else filter p rs)
    by true j = (h.0, j)
    by false j = j

all_kept : AreRegisters kept_registers
all_kept = (
  omega arith,
  (
    omega arith,
    (
      omega arith,
      (
        omega arith,
        (
          omega arith,
          (
            omega arith,
            (omega arith, (omega arith, (omega arith, (omega arith, (omega arith, (omega arith, tt)))))),
          ),
        ),
      ),
    ),
  ),
)

homes_kept : (homes : List Home) → AreRegisters (kept_homes homes)
unfolding kept_homes
homes_kept homes = filtered (is_home homes) kept_registers all_kept

r_keep : (way : Way) (register base at : ℕ) → register < 32 → base < 32 → at < 2048 →
    IsPlainWord (keep way register base at)
r_keep ToFrame register base at h j k = r_csc register base (pos at) h j (fits_pos at k)
r_keep FromFrame register base at h j k = r_clc register base (pos at) h j (fits_pos at k)

kept_from : (way : Way) (base at : ℕ) (rs : List ℕ) → AreRegisters rs → base < 32 → at + 16 * length rs ≤ 2048 →
    AreAtMost (length rs) (keep_from way base at rs)
unfolding keep_from
kept_from way base at [] h j k = at_none
kept_from way base at (r ∷ rs) h j k =
    at_cons (length rs) (keep way r base at) (keep_from way base (at + 16) rs)
    (r_keep way r base at h.0 j (omega arith)) (kept_from way base (at + 16) rs h.1 j (omega arith))

kept_at : (way : Way) (at : ℕ) (rs : List ℕ) → AreRegisters rs → length rs ≤ 12 → AreAtMost 15 (keep_at way at rs)
kept_at way at rs h few = by (nat_le at 1856) refl
  where
    by : (b : Bool) → nat_le at 1856 ≡ b →
        AreAtMost 15 (if b then keep_from way 2 at rs else moved_code 29 2 at ++ keep_from way 29 0 rs)
    by true e =
        let near : at ≤ 1856 = grind (arith, nat_tests) in
        at_more (length rs) 15 (keep_from way 2 at rs) (omega arith)
        (kept_from way 2 at rs h (omega arith) (omega arith))
    by false e =
        at_more (3 + length rs) 15 (moved_code 29 2 at ++ keep_from way 29 0 rs) (omega arith)
        (at_both 3 (length rs) (moved_code 29 2 at) (keep_from way 29 0 rs)
        (at_three (nat_lt at 2048) (moved_code 29 2 at) (moved_few 29 2 at (omega arith) (omega arith)))
        (kept_from way 29 0 rs h (omega arith) (omega arith)))

kept_all : (way : Way) (at : ℕ) (rs : List ℕ) → AreRegisters rs → length rs ≤ 12 → AreAtMost 15 (keep_code way at rs)
kept_all way at [] h few = at_more 0 15 [] (omega arith) at_none
kept_all way at (r ∷ rs) h few = kept_at way at (r ∷ rs) h few

-- ---- whole

before_most : (f : Frame) → AreAtMost 8 (before_store f)
before_most f = at_cons 7 (CapGet Cmove 28 2) (take_code f) (r_get 28 2 (omega arith) (omega arith)) (takes f)

pub prologue_most : (homes : List Home) (f : Frame) → AreAtMost 27 (prologue_code homes f)
prologue_most homes f =
    let registers = keep_code ToFrame (registers_at homes f) (kept_homes homes) in
    at_both 12 15 (before_store f ++ link_store ∷ [] ++ stack_code (stack_at homes f)) registers
    (at_both 9 3 (before_store f ++ link_store ∷ []) (stack_code (stack_at homes f))
    (at_both 8 1 (before_store f) (link_store ∷ []) (before_most f)
    (at_one link_store (r_csc 1 2 (pos 0) (omega arith) (omega arith) (fits_pos 0 (omega arith)))))
    (keeps (stack_at homes f)))
    (kept_all ToFrame (registers_at homes f) (kept_homes homes) (homes_kept homes) (kept_most homes))

pub epilogue_most : (homes : List Home) (f : Frame) → AreAtMost 20 (epilogue_code homes f)
epilogue_most homes f =
    let registers = keep_code FromFrame (registers_at homes f) (kept_homes homes) in
    let link = Clc 1 2 (pos 0) in
    let given = give_code (stack_at homes f) f.size in
    at_both 19 1 (registers ++ link ∷ [] ++ given) (Cjalr 0 1 (pos 0) ∷ [])
    (at_both 16 3 (registers ++ link ∷ []) given
    (at_both 15 1 registers (link ∷ []) (kept_all FromFrame (registers_at homes f) (kept_homes homes) (homes_kept homes)
    (kept_most homes)) (at_one link (r_clc 1 2 (pos 0) (omega arith) (omega arith) (fits_pos 0 (omega arith)))))
    (gives (stack_at homes f) f.size))
    (at_one (Cjalr 0 1 (pos 0)) r_return)

-- ---- one kept register after the other

append_none : (xs : List Instr) → xs ≡ xs ++ []
append_none [] = refl
append_none (x ∷ xs) = ap (λ v. x ∷ v) (append_none xs)

pub none_kept : (home : Bool) (way : Way) (r base at : ℕ) (xs : List Instr) → home ≡ false →
    xs ≡ xs ++ keep_from way base at (if home then r ∷ [] else [])
unfolding keep_from
none_kept true way r base at xs e = absurd cc
none_kept false way r base at xs e = append_none xs

pub one_kept : (home : Bool) (way : Way) (r base at : ℕ) (xs ys : List Instr) → home ≡ true →
    ys ≡ xs ++ keep way r base at ∷ [] → ys ≡ xs ++ keep_from way base at (if home then r ∷ [] else [])
unfolding keep_from
one_kept true way r base at xs ys e f = f
one_kept false way r base at xs ys e f = absurd cc

kept_append : (way : Way) (base at : ℕ) (rs ss : List ℕ) →
    keep_from way base at (rs ++ ss) ≡ keep_from way base at rs ++ keep_from way base (at + 16 * length rs) ss
unfolding keep_from
kept_append way base at [] ss = let e : at ≡ at + 16 * 0 = omega arith in ap (λ x. keep_from way base x ss) e
kept_append way base at (r ∷ rs) ss =
    let e : (at + 16) + 16 * length rs ≡ at + 16 * suc (length rs) = omega arith in
    ap (λ v. keep way r base at ∷ v) (kept_append way base (at + 16) rs ss
    ∙ ap (λ x. keep_from way base (at + 16) rs ++ keep_from way base x ss) e)

-- the homes among the first registers
abbrev pub first_homes : List Home → ℕ → List ℕ
first_homes homes i = filter (is_home homes) (take i kept_registers)

abbrev pub home_at : List Home → ℕ → List ℕ
home_at homes i = if is_home homes (get_or kept_registers i 0) then get_or kept_registers i 0 ∷ [] else []

homes_more : (homes : List Home) (i : ℕ) → i < 12 → first_homes homes (i + 1) ≡ first_homes homes i ++ home_at homes i
homes_more homes i h = filter_more (is_home homes) kept_registers i 0 h

pub kept_more : (homes : List Home) (way : Way) (base from at i : ℕ) (old code new : List Instr) → i < 12 →
    code ≡ old ++ keep_from way base from (first_homes homes i) → at ≡ from + 16 * length (first_homes homes i)
    → new ≡ code ++ keep_from way base at (home_at homes i) →
    new ≡ old ++ keep_from way base from (first_homes homes (i + 1))
kept_more homes way base from at i old code new h e f g =
    g ∙ ap (λ v. v ++ keep_from way base at (home_at homes i)) e
    ∙ append_assoc old (keep_from way base from (first_homes homes i)) (keep_from way base at (home_at homes i))
    ∙ ap (λ x. old ++ (keep_from way base from (first_homes homes i) ++ keep_from way base x (home_at homes i))) f
    ∙ ap (λ v. old ++ v) (sym (kept_append way base from (first_homes homes i) (home_at homes i)))
    ∙ ap (λ rs. old ++ keep_from way base from rs) (sym (homes_more homes i h))

pub at_more_homes : (homes : List Home) (from at next i : ℕ) → i < 12 → at ≡ from + 16 * length (first_homes homes i) →
    next ≡ at + 16 * length (home_at homes i) → next ≡ from + 16 * length (first_homes homes (i + 1))
at_more_homes homes from at next i h e f =
    omega (arith, ap (λ rs. length rs) (homes_more homes i h), length-append (first_homes homes i) (home_at homes i))

pub few_homes : (homes : List Home) (i : ℕ) → length (first_homes homes i) ≤ i
few_homes homes i = omega (arith, length_filter (is_home homes) (take i kept_registers), length-take i kept_registers)

pub nothing_kept : (way : Way) (base at : ℕ) (xs : List Instr) → xs ≡ xs ++ keep_from way base at []
unfolding keep_from
nothing_kept way base at xs = append_none xs

pub whole_homes : (homes : List Home) (i : ℕ) → i ≡ 12 → first_homes homes i ≡ kept_homes homes
unfolding kept_homes
whole_homes homes i e = ap (λ n. first_homes homes n) e
