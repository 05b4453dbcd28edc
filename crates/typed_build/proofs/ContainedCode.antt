-- The text of contained code is a contained text, wherever it stands.
use Rattle.std.proofs.Common.{◌≡◌, ℕ, zero, suc, ◌+◌, ◌-◌, ◌*◌, ◌/◌, ◌%◌, ◌^◌, ◌<◌, ◌≤◌, ◌⊎◌, inl, ⊎_elim, ℤ, pos}
use Rattle.std.proofs.Common.{negsuc, Bool, true, false, if◌then◌else◌, List, [], ◌∷◌, ◌++◌, length, Some, refl, sym}
use Rattle.std.proofs.Common.{ap, ◌∙◌, subst, arith, length-append}
use Rattle.std.specs.Prelude.{◌+ℤ◌, Contains, slice_get, map}
use Rattle.std.specs.List.{All, filter}
use Rattle.std.proofs.lemmas.Int.{ints}
use Rattle.std.proofs.lemmas.List.Elements.{All-cons}
use Rattle.std.proofs.lemmas.List.{length-replicate}
use Rattle.std.proofs.lemmas.Option.{same_Some, slice_get_within}
use Rattle.ck_int.specs.Kinds.{kept_of}
use Rattle.rv_instr.specs.Range.{InRange}
use Rattle.rv_instr.specs.declared.instr.Instr.{Instr}
use Rattle.rv_instr.specs.declared.instr.Instr.TheVariants.{Branch, Cjal, Ecall}
use Rattle.rv_code.specs.Decoding.{decode_of}
use Rattle.cap_machine.specs.Rows.{plus}
use Rattle.cap_machine.specs.ContainedText.{Text, end_of, IsPlace, word_at, instr_at, Stands, target, IsContainedText}
use Rattle.elf_file.specs.declared.image.Image.{Image}
use Rattle.elf_file.specs.declared.image.Reloc.{Reloc}
use Rattle.image_load.specs.Contained.{executes, entries_of}
use Rattle.image_load.specs.Judging.{address_of}
use Rattle.select_words.specs.ContainedCode.{offset_of, AreContained, IsTarget, IsEntry, EndsInPlainJump}
use Rattle.select_words.specs.ContainedCode.{IsContainedCode}
use Rattle.rv_emit.proofs.Contained.{get_right, contained_still, contained_append, no_first, target_left}
use Rattle.tag_mem.specs.Numbers.{word_in}
use Rattle.typed_build.specs.Text.{code_bytes, filler, missing, text_of}
use Rattle.typed_build.proofs.Texts.{length-code_bytes, decodes, filled, text_is, front_get, filled_in_range, there}

-- ---- the filler

filler_is : (n k : ℕ) (i : Instr) → slice_get (filler n) k ≡ Some i → Cjal 0 (pos 0) ≡ i
filler_is zero k i e = absurd cc
filler_is (suc n) zero i e = cc
filler_is (suc n) (suc k) i e = filler_is n k i e

filler_at : (n k : ℕ) → k < n → slice_get (filler n) k ≡ Some (Cjal 0 (pos 0))
filler_at zero k h = absurd (omega arith)
filler_at (suc n) zero h = refl
filler_at (suc n) (suc k) h = filler_at n k (omega arith)

filler_contained : (n : ℕ) → AreContained (length (filler n)) (filler n)
filler_contained n = contained_still (filler n) (λ k i e. ap offset_of (sym (filler_is n k i e)))

filler_in_range : (n k : ℕ) (i : Instr) → slice_get (filler n) k ≡ Some i → InRange i
unfolding InRange
filler_in_range n k i e =
    let one : InRange (Cjal 0 (pos 0)) = (omega arith, (omega (arith, ints), omega (arith, ints)), refl) in
    subst InRange (filler_is n k i e) one

-- ---- with a filler behind it

filled_contained : (code : List Instr) (n : ℕ) → AreContained (length code) code
    → AreContained (length (code ++ filler n)) (code ++ filler n)
filled_contained code n c =
    contained_append code (filler n) (length code) (length (filler n)) (length (code ++ filler n)) c
    (filler_contained n) (omega arith) (omega (arith, length-append code (filler n)))
    (omega (arith, length-append code (filler n)))

filled_target : (code : List Instr) (n k : ℕ) → IsTarget (length code) code k
    → IsTarget (length (code ++ filler n)) (code ++ filler n) k
filled_target code n k t =
    target_left code (filler n) (length code) (length (code ++ filler n)) k t (omega arith)
    (omega (arith, length-append code (filler n))) (no_first (length (filler n)) (filler n) (filler_contained n))

filled_end : (code : List Instr) (n : ℕ) → EndsInPlainJump code → EndsInPlainJump (code ++ filler n)
filled_end code zero l = record {
  last = l.last;
  at = l.at;
  end = let h = l.end in omega (arith, length-append code []);
  is = front_get code [] l.at l.last l.is;
  plain = l.plain;
}
filled_end code (suc n) l = record {
  last = Cjal 0 (pos 0);
  at = length code + n;
  end = omega (arith, length-append code (filler (suc n)), length-replicate (suc n) (Cjal 0 (pos 0)));
  is = get_right code (filler (suc n)) n ∙ filler_at (suc n) n (omega arith);
  plain = refl;
}

-- ---- where a jump leads

target_offset : (i : Instr) (x y : ℕ) → target i x ≡ Some y → (z : ℤ) × (offset_of i ≡ Some z) × (plus x z ≡ y)
target_offset (Branch op a b z) x y e = (z, refl, same_Some (plus x z) y e)
target_offset (Cjal rd z) x y e = (z, refl, same_Some (plus x z) y e)
target_offset i x y e = absurd cc

plus_word : (base k w : ℕ) (z : ℤ) → pos (4 * w) ≡ pos (4 * k) +ℤ z → base + 4 * k < 2 ^ 63 → base + 4 * w < 2 ^ 63
    → plus (base + 4 * k) z ≡ base + 4 * w
unfolding kept_of
plus_word base k w (pos n) e h j = let s : 4 * w ≡ 4 * k + n = omega (arith, ints, e) in omega arith
plus_word base k w (negsuc n) e h j = let s : 4 * w + suc n ≡ 4 * k = omega (arith, ints, e) in omega arith

-- ---- the text

abbrev pub text_at : (base : ℕ) (bytes places : List ℕ) → Text
text_at base bytes places = record { base = base; bytes = bytes; entries = places }

-- an entry of the code, or its start, from the text's base on
pub record IsEnteredAt (base : ℕ) (entries : List ℕ) (start x : ℕ) : Type 0 where
  pub offset : ℕ
  pub is : x ≡ base + offset
  pub among : (offset ≡ start) ⊎ Contains entries offset

-- all of the text's words
module _ (all : List Instr) (base : ℕ) (places : List ℕ) (whole : base % 16 ≡ 0)
    (high : base + 4 * length all ≤ 2 ^ 40)
    (in_range : (k : ℕ) (i : Instr) → slice_get all k ≡ Some i → InRange i) where
  abbrev t : Text
  t = text_at base (code_bytes all) places

  end_is : end_of t ≡ base + 4 * length all
  end_is = ap (λ n. base + n) (length-code_bytes all)

  place : (k : ℕ) → k < length all → IsPlace t (base + 4 * k)
  place k h = record { from = omega arith; below = omega (arith, end_is); even = omega arith }

  instr_is : (k : ℕ) → instr_at t (base + 4 * k) ≡ decode_of (word_in (code_bytes all) k)
  unfolding instr_at word_at
  instr_is k = let e : base + 4 * k - base ≡ 4 * k = omega arith in rw e refl

  stands : (k : ℕ) (i : Instr) → slice_get all k ≡ Some i → Stands t (base + 4 * k) i
  stands k i e = record {
    place = place k (slice_get_within all k i e);
    is = instr_is k ∙ decodes all k i e (in_range k i e);
  }

  -- the word that stands at a place
  record Found (x : ℕ) (i : Instr) : Type 0 where
    word : ℕ
    at : x ≡ base + 4 * word
    is : slice_get all word ≡ Some i

  word_of_place : (x : ℕ) → IsPlace t x → (k : ℕ) × (k < length all) × (x ≡ base + 4 * k)
  word_of_place x p = let a = p.from in
      let b = p.below in let c = p.even in ((x - base) / 4, omega (arith, end_is), omega arith)

  found : (x : ℕ) (i : Instr) → Stands t x i → Found x i
  found x i s =
      let w = word_of_place x s.place in
      let h = there all w.0 w.1 in
      let same : h.0 ≡ i = same_Some h.0 i (sym ((stands w.0 h.0 h.1).is) ∙ ap (instr_at t) (sym w.2) ∙ s.is) in
      record { word = w.0; at = w.2; is = h.1 ∙ ap (λ (j : Instr). Some j) same }

  module _ (c : AreContained (length all) all) (end : EndsInPlainJump all)
      (entered : (x : ℕ) → Contains places x → (k : ℕ) × (x ≡ base + 4 * k) × IsTarget (length all) all k) where
    -- where a jump leads
    record Led (x y : ℕ) : Type 0 where
      word : ℕ
      at : y ≡ base + 4 * word
      to : IsTarget (length all) all word

    led : (x y : ℕ) (i : Instr) → Stands t x i → target i x ≡ Some y → Led x y
    led x y i s e =
        let f = found x i s in
        let o = target_offset i x y e in
        let l = c.leads f.word i o.0 f.is o.1 in
        let below = l.target.below in
        let within = slice_get_within all f.word i f.is in
        let p = plus_word base f.word l.word o.0 l.there (omega arith) (omega arith) in
        record { word = l.word; at = sym o.2 ∙ ap (λ n. plus n o.0) f.at ∙ p; to = l.target }

    no_call : (x k : ℕ) → x ≡ base + 4 * k → IsTarget (length all) all k → Stands t x Ecall → ⊥
    no_call x k e g s =
        let f = found x Ecall s in
        let a = f.at in
        let same : f.word ≡ k = omega arith in
        g.no_call (ap (slice_get all) (sym same) ∙ f.is)

    pub all_contained : IsContainedText t
    all_contained = record {
      decodes = λ x p. let w = word_of_place x p in
          let h = there all w.0 w.1 in (h.0, ap (instr_at t) w.2 ∙ (stands w.0 h.0 h.1).is);
      allowed = λ x i s. let f = found x i s in c.allowed f.word i f.is;
      targets = λ x y i s e. let l = led x y i s e in subst (IsPlace t) (sym l.at) (place l.word l.to.below);
      numbered = λ x s.
          let f = found x Ecall s in
          let g = c.numbered f.word f.is in
          let n = g.next in
          let a = f.at in
          record {
            sets = g.sets;
            service = g.service;
            before = base + 4 * g.before;
            next = omega arith;
            stands = stands g.before g.sets g.is;
          };
      no_target = λ x y i s e d. let l = led x y i s e in no_call y l.word l.at l.to d;
      no_entry = λ x h s. let n = entered x h in no_call x n.0 n.1 n.2 s;
      last = let n = end.end in record {
        last = end.last;
        plain = end.plain;
        at = base + 4 * end.at;
        end = omega (arith, end_is);
        stands = stands end.at end.last end.is;
      };
    }

all_among : (P : ℕ → Type 0) (xs : List ℕ) (x : ℕ) → All P xs → Contains xs x → P x
all_among P xs x h m = subst P m.2 (h m.0 x m.1)

-- The text of contained code, at a base of whole granules: where each of its entry places is an entry of the code or
-- its start, it is contained
pub contained_text : (code : List Instr) (entries places : List ℕ) (start base : ℕ)
    → IsContainedCode code entries start → ((k : ℕ) (i : Instr) → slice_get code k ≡ Some i → InRange i)
    → base % 16 ≡ 0 → base + length (text_of code) ≤ 2 ^ 40
    → ((x : ℕ) → Contains places x → IsEnteredAt base entries start x)
    → IsContainedText (text_at base (text_of code) places)
contained_text code entries places start base c in_range whole high entered =
    let n = missing (length code) in
    let all = filled code in
    let size : length (text_of code) ≡ 4 * length all = ap length (text_is code) ∙ length-code_bytes all in
    let word : (at : ℕ) → IsEntry (length code) code at → (k : ℕ) × (base + at ≡ base + 4 * k) × IsTarget
    (length all) all k =
    λ at e. (e.word, ap (λ m. base + m) e.is, filled_target code n e.word e.target) in
    let at : (x : ℕ) → Contains places x → (k : ℕ) × (x ≡ base + 4 * k) × IsTarget (length all) all k =
    λ x h.
    let g = entered x h in
    let w = word g.offset
    (⊎_elim (λ (p : g.offset ≡ start). subst (IsEntry (length code) code) (sym p) c.started)
    (λ (q : Contains entries g.offset). all_among
    (IsEntry (length code) code) entries g.offset c.entered q) g.among) in
    (w.0, g.is ∙ w.1, w.2) in
    subst (λ bytes. IsContainedText (text_at base bytes places)) (sym (text_is code))
    (all_contained all base places whole (omega (arith, size, high))
    (filled_in_range code (filler n) in_range (filler_in_range n)) (filled_contained code n c.words)
    (filled_end code n c.last) at)

-- ---- an image

-- what holds of the addresses of those that execute
of_executing : (P : ℕ → Type 0) (rs : List Reloc) → All (λ r. executes r ≡ true → P (address_of r)) rs
    → All P (map address_of (filter executes rs))
of_executing P [] h = λ k d lt. absurd (omega arith)
of_executing P (r ∷ rs) h = by (executes r) refl (of_executing P rs (λ k d lt. h (suc k) d (omega arith)))
  where
    by : (b : Bool) → executes r ≡ b → All P (map address_of (filter executes rs))
        → All P (map address_of (if b then r ∷ filter executes rs else filter executes rs))
    by true e rest = All-cons P (address_of r) (map address_of (filter executes rs)) (h 0 r (omega arith) e) rest
    by false e rest = rest

-- the entry places of an image that is entered at the code's start, and whose relocations with Execute point to its
-- entries
pub entered_places : (i : Image) (entries : List ℕ) (start : ℕ) → i.entry ≡ i.text_base + start
    → All (λ r. executes r ≡ true → IsEnteredAt i.text_base entries start (address_of r)) i.relocs
    → (x : ℕ) → Contains (entries_of i) x → IsEnteredAt i.text_base entries start x
entered_places i entries start e h x (zero, lt, is) =
    record { offset = start; is = sym is ∙ e; among = inl refl }
entered_places i entries start e h x (suc k, lt, is) =
    let P = IsEnteredAt i.text_base entries start in
    let all = of_executing P i.relocs h in
    let more : suc k < suc (length (map address_of (filter executes i.relocs))) = lt in
    subst P is (all k x (omega arith))
