-- What jumps may be led to, and what was led.
use mir.Val.{SFits}
use Rattle.std.proofs.Common.{◌≡◌, ℕ, ◌+◌, ◌*◌, ◌/◌, ◌<◌, ◌≤◌, ℤ, pos, negsuc, List, length, get_or, to_z, of_z, w32}
use Rattle.std.proofs.Common.{refl, sym, ◌∙◌, subst, arith}
use Rattle.std.specs.Prelude.{◌+ℤ◌}
use Rattle.std.specs.List.{All}
use Rattle.std.proofs.lemmas.Int.{ints, to_z-of_z}
use Rattle.std.proofs.lemmas.List.Elements.{All-set}
use Rattle.std.proofs.lemmas.Option.{slice_get_read}
use Rattle.std.proofs.Math.ListN.{set, length-set}
use Rattle.rv_instr.specs.Range.{InRange, FitsBits}
use Rattle.rv_instr.specs.declared.instr.Instr.{Instr}
use Rattle.select_words.specs.ContainedCode.{IsTarget, IsEntry, AreContained}
use Rattle.rv_words.specs.declared.jumps.Mark.{Mark}
use Rattle.rv_words.specs.Leading.{AreSound, IsSoFar, AreMarks, AreEntered, IsLed, IsMarked, AreLed}
use Rattle.rv_words.proofs.Contained.{all_get, contained_led, target_led}

-- ---- targets

entry_keeps : (a b : List Instr) → ((k : ℕ) → IsSoFar a k → IsSoFar b k) → (at : ℕ) → IsEntry (length a + 1) a at
    → IsEntry (length b + 1) b at
entry_keeps a b f at e = record { word = e.word; is = e.is; target = f e.word e.target }

pub all_keep : {A : Type 0} (P Q : A → Type 0) (xs : List A) → ((x : A) → P x → Q x) → All P xs → All Q xs
all_keep P Q xs f h k d lt = f _ (h k d lt)

pub marks_keep : (a b : List Instr) (ms : List Mark) → ((k : ℕ) → IsSoFar a k → IsSoFar b k) → AreMarks a ms
    → AreMarks b ms
marks_keep a b ms f h = all_keep (λ m. IsSoFar a m.at) (λ m. IsSoFar b m.at) ms (λ m. f m.at) h

pub entered_keep : (a b : List Instr) (es : List ℕ) → ((k : ℕ) → IsSoFar a k → IsSoFar b k) → AreEntered a es
    → AreEntered b es
entered_keep a b es f h = all_keep (IsEntry (length a + 1) a) (IsEntry (length b + 1) b) es (entry_keeps a b f) h

pub marked_target : (a : List Instr) (ms : List Mark) (at : ℕ) → AreMarks a ms → IsMarked ms at → IsSoFar a at
marked_target a ms at h m = subst (IsSoFar a) m.there (all_get (λ n. IsSoFar a n.at) ms m.number m.mark h m.is)

pub entered_target : (a : List Instr) (es : List ℕ) (k at : ℕ) → AreEntered a es → k < length es → at ≡ get_or es k at
    → IsSoFar a (at / 4)
entered_target a es k at h lt e =
    let n = all_get (IsEntry (length a + 1) a) es k at h (slice_get_read es (length es) k at refl lt e) in
    let w = n.is in
    let same : n.word ≡ at / 4 = omega arith in
    subst (IsSoFar a) same n.target

-- ---- what was led

-- a number of few bits as it is stored
fits_word : (z : ℤ) → FitsBits 21 z → SFits w32 z
fits_word (pos n) h = let high = h.1 in record { sfits = omega (arith, ints, high) }
fits_word (negsuc n) h = let low = h.0 in record { sfits = omega (arith, ints, low) }

pub word_again : (z : ℤ) → FitsBits 21 z → to_z w32 (of_z w32 z) ≡ z
word_again z h = to_z-of_z w32 z (fits_word z h)

pub led_none : (a : List Instr) → AreSound a → AreLed a a
led_none a s = record { sound = s; len = refl; keeps = λ k t. t }

pub led_then : (a b c : List Instr) → AreLed a b → AreLed b c → AreLed a c
led_then a b c p q = record { sound = q.sound; len = q.len ∙ p.len; keeps = λ k t. q.keeps k (p.keeps k t) }

pub led_one : (a : List Instr) (k w : ℕ) (i j : Instr) (z : ℤ) → AreSound a → k < length a → i ≡ get_or a k i
    → IsLed i (to_z w32 (of_z w32 z)) j → InRange j → IsSoFar a w → FitsBits 21 z → pos (4 * w) ≡ pos (4 * k) +ℤ z
    → AreLed a (set a k j)
led_one a k w i j z s lt e l r t fits h =
    let at = slice_get_read a (length a) k i refl lt e in
    let by = subst (λ (y : ℤ). IsLed i y j) (word_again z fits) l in
    record {
      sound = record {
        in_range = All-set InRange a k j r s.in_range;
        contained = subst (λ n. AreContained (n + 1) (set a k j)) (sym (length-set a k j))
            (contained_led a (length a + 1) k w i j z s.contained at by t h);
      };
      len = length-set a k j;
      keeps = λ m g. subst (λ n. IsTarget (n + 1) (set a k j) m) (sym (length-set a k j))
          (target_led a (length a + 1) k m i j z at by g);
    }
