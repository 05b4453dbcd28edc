-- What a function stores where it begins, and loads where it begins and ends.
use Rattle.std.proofs.Common.{◌≡◌, ℕ, zero, suc, ◌+◌, ◌-◌, ◌%◌, ◌≤◌, pos, Bool, true, false, List, [], ◌∷◌, ◌++◌}
use Rattle.std.proofs.Common.{length, refl, sym, ap, ◌∙◌, subst, arith, if◌then◌else◌}
use Rattle.std.specs.Prelude.{nat_lt, nat_le, neg_ℤ, min, Option, Some, None}
use Rattle.std.specs.List.{All}
use Rattle.obj_mem.specs.declared.map.Frame.{Frame}
use Rattle.purecap_abi.proofs.FrameLaws.{kept_most}
use Rattle.purecap_abi.specs.Ends.{before_store, epilogue_code, give_code, give_plain, keep, keep_at, keep_code}
use Rattle.purecap_abi.specs.Ends.{keep_from, link_store, negative, prologue_code, stack_code, take_aligned, take_code}
use Rattle.purecap_abi.specs.Saving.{behind_registers, keeps_stack, kept_homes, registers_at, stack_at}
use Rattle.purecap_abi.specs.Words.{load_code, low, moved_code, near_code, wide_code}
use Rattle.purecap_abi.specs.declared.taking.Way.{Way}
use Rattle.purecap_abi.specs.declared.taking.Way.TheVariants.{ToFrame, FromFrame}
use Rattle.reg_alloc.specs.Placed.{IsRegister}
use Rattle.reg_alloc.specs.declared.places.Home.{Home}
use Rattle.rv_instr.specs.declared.instr.Instr.{Instr}
use Rattle.rv_instr.specs.declared.instr.Instr.TheVariants.{CapImm, CapReg, Cjalr, Clc}
use Rattle.rv_instr.specs.declared.ops.CapImmOp.TheVariants.{Cincoffsetimm}
use Rattle.rv_instr.specs.declared.ops.CapRegOp.TheVariants.{Cincoffset}
use Rattle.select_words.specs.Entries as entries
use Rattle.select_words.specs.Entries.{ForEach, MayGet, ParameterWords, SlotWords, StackWords, stack_place}
use Rattle.select_words.specs.Returning.{ReturnWords}
use Rattle.select_words.specs.Selecting.{Selecting}
use Rattle.tac_ir.specs.Temps.{in_option}
use Rattle.plain_functions.proofs.Quiet.{Touches, argument, moves, no_slot, quiet, quiet_both, quiet_touches}
use Rattle.plain_functions.proofs.Quiet.{touch_both, touch_more, touch_none, touch_parts}

-- ---- the kept registers: each is stored, or loaded

abbrev stores_by : Way → ℕ → ℕ
stores_by ToFrame n = n
stores_by FromFrame n = 0

abbrev loads_by : Way → ℕ → ℕ
loads_by ToFrame n = 0
loads_by FromFrame n = n

abbrev Keeps : Way → ℕ → List Instr → Type 0
Keeps way n ws = Touches (stores_by way n) (loads_by way n) ws

keeps_less : (way : Way) (m n : ℕ) (ws : List Instr) → m ≤ n → Keeps way m ws → Keeps way n ws
keeps_less ToFrame m n ws le h = touch_more m 0 n 0 ws le (omega arith) h
keeps_less FromFrame m n ws le h = touch_more 0 m 0 n ws (omega arith) le h

keeps_one : (way : Way) (r base at : ℕ) → Keeps way 1 (keep way r base at ∷ [])
keeps_one ToFrame r base at = record { stored = omega arith; loaded = omega arith }
keeps_one FromFrame r base at = record { stored = omega arith; loaded = omega arith }

keeps_both : (way : Way) (l m n : ℕ) (xs ys : List Instr) → l + m ≤ n → Keeps way l xs → Keeps way m ys
    → Keeps way n (xs ++ ys)
keeps_both ToFrame l m n xs ys le h k = touch_both l 0 m 0 n 0 xs ys le (omega arith) h k
keeps_both FromFrame l m n xs ys le h k = touch_both 0 l 0 m 0 n xs ys (omega arith) le h k

keeps_none : (way : Way) (n : ℕ) (ws : List Instr) → quiet ws ≡ true → Keeps way n ws
keeps_none ToFrame n ws q = touch_more 0 0 n 0 ws (omega arith) (omega arith) (quiet_touches ws q)
keeps_none FromFrame n ws q = touch_more 0 0 0 n ws (omega arith) (omega arith) (quiet_touches ws q)

all_kept : (way : Way) (base at : ℕ) (rs : List ℕ) → Keeps way (length rs) (keep_from way base at rs)
unfolding keep_from
all_kept way base at [] = keeps_none way 0 [] refl
all_kept way base at (r ∷ rs) =
    keeps_both way 1 (length rs) (suc (length rs)) (keep way r base at ∷ []) (keep_from way base (at + 16) rs)
    (omega arith) (keeps_one way r base at) (all_kept way base (at + 16) rs)

moved_quiet : (to base offset : ℕ) → quiet (moved_code to base offset) ≡ true
moved_quiet to base offset = by (nat_lt offset 2048) (nat_lt 0 (offset % 4096))
  where
    by : (b c : Bool) → quiet (if b then CapImm Cincoffsetimm to base (pos offset) ∷ []
        else near_code to base offset ++ (if c then CapImm Cincoffsetimm to to (low offset) ∷ [] else [])) ≡ true
    by true c = refl
    by false true = refl
    by false false = refl

kept_at : (way : Way) (at : ℕ) (rs : List ℕ) → Keeps way (length rs) (keep_at way at rs)
kept_at way at rs = by (nat_le at 1856)
  where
    by : (b : Bool) → Keeps way (length rs)
        (if b then keep_from way 2 at rs else moved_code 29 2 at ++ keep_from way 29 0 rs)
    by true = all_kept way 2 at rs
    by false =
        keeps_both way 0 (length rs) (length rs) (moved_code 29 2 at) (keep_from way 29 0 rs) (omega arith)
        (keeps_none way 0 (moved_code 29 2 at) (moved_quiet 29 2 at)) (all_kept way 29 0 rs)

kept_coded : (way : Way) (at : ℕ) (rs : List ℕ) → Keeps way (length rs) (keep_code way at rs)
kept_coded way at [] = keeps_none way 0 [] refl
kept_coded way at (r ∷ rs) = kept_at way at (r ∷ rs)

kept_twelve : (way : Way) (at : ℕ) (homes : List Home) → Keeps way 12 (keep_code way at (kept_homes homes))
kept_twelve way at homes =
    keeps_less way (length (kept_homes homes)) 12 (keep_code way at (kept_homes homes)) (kept_most homes)
    (kept_coded way at (kept_homes homes))

-- ---- the beginning and the end

take_quiet : (f : Frame) → quiet (take_code f) ≡ true
take_quiet f = by (keeps_stack f.align) (nat_le f.size 2048)
  where
    by : (b c : Bool) → quiet (if b then take_aligned f.size f.align
        else (if c then CapImm Cincoffsetimm 2 2 (neg_ℤ (pos f.size)) ∷ []
        else wide_code 29 (negative f.size) ++ CapReg Cincoffset 2 2 29 ∷ [])) ≡ true
    by true c = refl
    by false true = refl
    by false false = refl

give_quiet : (size : ℕ) → quiet (give_plain size) ≡ true
give_quiet size = by (nat_lt size 2048)
  where
    by : (b : Bool) → quiet (if b then CapImm Cincoffsetimm 2 2 (pos size) ∷ []
        else wide_code 29 size ++ CapReg Cincoffset 2 2 29 ∷ []) ≡ true
    by true = refl
    by false = refl

module _ (homes : List Home) (f : Frame) (none : keeps_stack f.align ≡ false) where
  no_stack : stack_at homes f ≡ None
  no_stack = ap (λ b. if b then Some (behind_registers homes f) else None) none

  pub prologue_touches : Touches 13 0 (prologue_code homes f)
  prologue_touches =
      let kept = keep_code ToFrame (registers_at homes f) (kept_homes homes) in
      subst (λ o. Touches 13 0 (before_store f ++ link_store ∷ [] ++ stack_code o ++ kept)) (sym no_stack)
      (touch_both 1 0 12 0 13 0 (before_store f ++ link_store ∷ [] ++ []) kept (omega arith) (omega arith)
      (touch_both 1 0 0 0 1 0 (before_store f ++ link_store ∷ []) [] (omega arith) (omega arith)
      (touch_both 0 0 1 0 1 0 (before_store f) (link_store ∷ []) (omega arith) (omega arith)
      (quiet_touches (before_store f) (take_quiet f)) (record { stored = omega arith; loaded = omega arith }))
      touch_none)
      (kept_twelve ToFrame (registers_at homes f) homes))

  pub epilogue_touches : Touches 0 13 (epilogue_code homes f)
  epilogue_touches =
      let kept = keep_code FromFrame (registers_at homes f) (kept_homes homes) in
      let link = Clc 1 2 (pos 0) in
      let back = Cjalr 0 1 (pos 0) in
      subst (λ o. Touches 0 13 (kept ++ link ∷ [] ++ give_code o f.size ++ back ∷ [])) (sym no_stack)
      (touch_both 0 13 0 0 0 13 (kept ++ link ∷ [] ++ give_plain f.size) (back ∷ []) (omega arith) (omega arith)
      (touch_both 0 13 0 0 0 13 (kept ++ link ∷ []) (give_plain f.size) (omega arith) (omega arith)
      (touch_both 0 12 0 1 0 13 kept (link ∷ []) (omega arith) (omega arith)
      (kept_twelve FromFrame (registers_at homes f) homes) (record { stored = omega arith; loaded = omega arith }))
      (quiet_touches (give_plain f.size) (give_quiet f.size)))
      (quiet_touches (back ∷ []) refl))

-- ---- in a function whose homes are registers

module _ (s : Selecting) (registers : All IsRegister s.homes) where
  -- a return loads what its function keeps
  pub returned : (v : Option ℕ) (ws : List Instr)
      → ((f : Frame) → s.frame ≡ Some f → keeps_stack f.align ≡ false) → ReturnWords s v ws → Touches 0 13 ws
  returned v ws none r =
      touch_parts 0 0 0 13 0 13 ws r.finds (epilogue_code s.homes r.frame) r.are (omega arith) (omega arith)
      (quiet_touches r.finds (argument s registers (in_option v) r.finds r.found))
      (epilogue_touches s.homes r.frame (none r.frame r.is))

  slots_quiet : (n k : ℕ) (ws : List Instr) → ForEach (SlotWords s) k n ws → quiet ws ≡ true
  slots_quiet zero k ws e = ap quiet e
  slots_quiet (suc n) k ws (first, rest, w, more, e) =
      ap quiet e ∙ quiet_both first rest (one first w) (slots_quiet n (k + 1) rest more)
    where
      one : (us : List Instr) → SlotWords s k us → quiet us ≡ true
      one us (entries.Later r i e) = ap quiet e
      one us (entries.Stored at i e) = absurd (no_slot s registers k at i)

  load_touches : (to base offset scratch : ℕ) → Touches 0 1 (load_code to base offset scratch)
  load_touches to base offset scratch = by (nat_lt offset 2048)
    where
      by : (b : Bool) → Touches 0 1 (if b then Clc to base (pos offset) ∷ []
          else near_code scratch base offset ++ Clc to scratch (low offset) ∷ [])
      by true = record { stored = omega arith; loaded = omega arith }
      by false = record { stored = omega arith; loaded = omega arith }

  loads_touch : (n k : ℕ) (ws : List Instr) → ForEach (StackWords s) k n ws → Touches 0 n ws
  loads_touch zero k ws e = subst (Touches 0 0) (sym e) touch_none
  loads_touch (suc n) k ws (first, rest, w, more, e) =
      touch_parts 0 1 0 n 0 (suc n) ws first rest e (omega arith) (omega arith) (one first w)
      (loads_touch n (k + 1) rest more)
    where
      one : (us : List Instr) → StackWords s k us → Touches 0 1 us
      one us (entries.Loaded r i e) = subst (Touches 0 1) (sym e) (load_touches r 28 (stack_place k) 29)
      one us (entries.Spilled at i e) = absurd (no_slot s registers k at i)

  -- each parameter is loaded once at most
  pub parameters_touch : (count : ℕ) (ws : List Instr) → ParameterWords s count ws → Touches 0 count ws
  parameters_touch count ws p =
      touch_parts 0 0 0 count 0 count ws p.stores (p.moves ++ p.loads) p.are (omega arith) (omega arith)
      (quiet_touches p.stores (slots_quiet (min count 8) 0 p.stores p.stored))
      (touch_both 0 0 0 (count - 8) 0 count p.moves p.loads (omega arith) (omega arith)
      (quiet_touches p.moves (moves (MayGet s count) p.moves p.own)) (loads_touch (count - 8) 8 p.loads p.loaded))
