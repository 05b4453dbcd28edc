-- The code stays what it is as words, lines, labels and entries are added and jumps are led.
use Rattle.std.proofs.Common.{◌≡◌, ℕ, zero, suc, ◌+◌, ◌*◌, ◌/◌, ◌<◌, ◌≤◌, ℤ, pos, negsuc, true, List, [], ◌∷◌, ◌++◌}
use Rattle.std.proofs.Common.{length, get_or, to_z, of_z, w32, Some, refl, sym, ap, ◌∙◌, subst, arith}
use Rattle.std.specs.Prelude.{◌+ℤ◌, slice_get}
use Rattle.std.specs.List.{All}
use Rattle.std.proofs.lemmas.Int.{ints, to_z-of_z}
use Rattle.std.proofs.lemmas.List.{length-append}
use Rattle.std.proofs.lemmas.List.Elements.{All-append, All-set, All-push}
use Rattle.std.proofs.lemmas.Option.{slice_get_past, slice_get_read}
use Rattle.std.proofs.Math.ListN.{set, length-set}
use Rattle.rv_instr.specs.Range.{InRange, FitsBits}
use Rattle.rv_instr.specs.declared.instr.Instr.{Instr}
use Rattle.rv_instr.specs.declared.instr.Instr.TheVariants.{Ecall, Imm, Cjal}
use Rattle.rv_instr.specs.declared.ops.ImmOp.TheVariants.{Addi}
use Rattle.cap_machine.specs.ContainedText.{sets_service}
use Rattle.elf_file.specs.declared.image.Line.{Line}
use Rattle.elf_file.specs.Image.{lines_ok}
use Rattle.purecap_abi.specs.Words.{IsPlainWord}
use Rattle.select_words.specs.ContainedCode.{offset_of, IsTarget, IsEntry, AreContained, IsContainedCode}
use Rattle.rv_emit.specs.Growing.{Size, IsText, AreEntries}
use Rattle.rv_emit.specs.Leading.{AreLedTo, IsEnteredAt, IsCompleted}
use Rattle.rv_emit.specs.Leading.{AreSound, IsSoFar, AreMarks, AreEntered, AreTargets, IsGrowing, IsStill, AreLed}
use Rattle.rv_words.specs.declared.jumps.Mark.{Mark}
use Rattle.rv_words.specs.declared.jumps.Jump.{Jump}
use Rattle.rv_words.proofs.Contained.{contained_plain, contained_still, contained_service, sets_one}
use Rattle.rv_words.proofs.Contained.{contained_append, no_first, target_left}
use Rattle.rv_words.proofs.Targets.{all_keep, marks_keep, entered_keep, word_again}
use Rattle.rv_emit.proofs.Entries.{entries_more, entries_push}
use Rattle.rv_emit.proofs.Texts.{lines_more, lines_add}

-- ---- targets

targets_keep : (a b : List Instr) (ms : List Mark) (es : List ℕ) (top : ℕ) → ((k : ℕ) → IsSoFar a k → IsSoFar b k)
    → AreTargets a ms es top → AreTargets b ms es top
targets_keep a b ms es top f t = record {
  labels = marks_keep a b ms f t.labels;
  entered = entered_keep a b es f t.entered;
  loop = f top t.loop;
}

-- the next word
pub next_target : (a : List Instr) → IsSoFar a (length a)
next_target a = record {
  below = omega arith;
  no_call = λ e. let n = slice_get_past a (length a) (omega arith) in absurd (cc (n, e));
}

-- ---- sound words

pub sound_plain : (xs : List Instr) → All IsPlainWord xs → AreSound xs
sound_plain xs h = record {
  in_range = λ k d lt. (h k d lt).in_range;
  contained = contained_plain (length xs + 1) xs h;
}

one_plain : (i : Instr) → IsPlainWord i → All IsPlainWord (i ∷ [])
one_plain i h zero d lt = h
one_plain i h (suc k) d lt = absurd (omega arith)

widened : (a : List Instr) (near end : ℕ) → near ≤ end → AreContained near a → AreContained end a
widened a near end h c = record {
  allowed = c.allowed;
  leads = λ k i z e o. let l = c.leads k i z e o in record {
    word = l.word;
    there = l.there;
    target = record { below = let b = l.target.below in omega arith; no_call = l.target.no_call };
  };
  numbered = c.numbered;
}

pub contained_one : (i : Instr) → offset_of i ≡ Some (pos 0) → AreContained 1 (i ∷ [])
contained_one i s = contained_still (i ∷ []) still
  where
    still : (k : ℕ) (j : Instr) → slice_get (i ∷ []) k ≡ Some j → offset_of j ≡ Some (pos 0)
    still zero j e = let q : i ≡ j = cc in subst (λ (x : Instr). offset_of x ≡ Some (pos 0)) q s
    still (suc k) j e = absurd cc

pub sound_still : (i : Instr) → IsStill i → AreSound (i ∷ [])
sound_still i s = record {
  in_range = λ k d lt. one k d lt;
  contained = widened (i ∷ []) 1 2 (omega arith) (contained_one i s.still);
}
  where
    one : All InRange (i ∷ [])
    one zero d lt = s.in_range
    one (suc k) d lt = absurd (omega arith)

call_in_range : InRange Ecall
unfolding InRange
call_in_range = tt

pub sound_service : (i : Instr) → IsPlainWord i → sets_service i ≡ true → AreSound (i ∷ Ecall ∷ [])
sound_service i p s = record { in_range = both; contained = contained_service 3 i p s }
  where
    both : All InRange (i ∷ Ecall ∷ [])
    both zero d lt = p.in_range
    both (suc zero) d lt = call_in_range
    both (suc (suc k)) d lt = absurd (omega arith)

-- the two words that ask for a service
r_service : (n : ℕ) → n ≤ 3 → InRange (Imm Addi 17 0 (pos n))
unfolding InRange
r_service n h = (omega arith, omega arith, (omega (arith, ints), omega (arith, ints)))

pub sound_ask : (z : ℤ) (n : ℕ) → z ≡ pos n → 1 ≤ n → n ≤ 3
    → AreSound (Imm Addi 17 0 (to_z w32 (of_z w32 z)) ∷ Ecall ∷ [])
sound_ask z n e h j =
    let same : to_z w32 (of_z w32 z) ≡ pos n = ap (λ y. to_z w32 (of_z w32 y)) e ∙ word_again (pos n)
    (omega (arith, ints), omega (arith, ints)) in
    subst (λ (y : ℤ). AreSound (Imm Addi 17 0 y ∷ Ecall ∷ [])) (sym same)
    (sound_service (Imm Addi 17 0 (pos n)) (record { in_range = r_service n j; anywhere = refl }) (sets_one n h j))

sound_append : (a b : List Instr) → AreSound a → AreSound b → AreSound (a ++ b)
sound_append a b s t = record {
  in_range = All-append InRange a b s.in_range t.in_range;
  contained = contained_append a b (length a + 1) (length b + 1) (length (a ++ b) + 1) s.contained t.contained
      (omega arith) (omega (arith, length-append a b)) (omega (arith, length-append a b));
}

keeps_append : (a b : List Instr) → AreSound b → (k : ℕ) → IsSoFar a k → IsSoFar (a ++ b) k
keeps_append a b t k h = target_left a b (length a + 1) (length (a ++ b) + 1) k h (omega arith)
    (omega (arith, length-append a b)) (no_first (length b + 1) b t.contained)

-- ---- the code

module _ (ls : List Line) (ms : List Mark) (es : List ℕ) (top : ℕ) where
  pub growing_append : (a b c : List Instr) → c ≡ a ++ b → IsGrowing a ls ms es top → AreSound b
      → IsGrowing c ls ms es top
  growing_append a b c e g s = subst (λ w. IsGrowing w ls ms es top) (sym e) (record {
    sound = sound_append a b g.sound s;
    ordered = lines_more 0 (4 * length a) (4 * length (a ++ b)) ls (omega (arith, length-append a b)) g.ordered;
    ascend = entries_more (length a) (length (a ++ b)) es g.ascend (omega (arith, length-append a b));
    targets = targets_keep a (a ++ b) ms es top (keeps_append a b s) g.targets;
  })

  pub growing_all : (a b c : List Instr) → c ≡ a ++ b → IsGrowing a ls ms es top → All IsPlainWord b
      → IsGrowing c ls ms es top
  growing_all a b c e g h = growing_append a b c e g (sound_plain b h)

  pub growing_put : (a c : List Instr) (i : Instr) → c ≡ a ++ i ∷ [] → IsGrowing a ls ms es top → IsPlainWord i
      → IsGrowing c ls ms es top
  growing_put a c i e g h = growing_all a (i ∷ []) c e g (one_plain i h)

  pub growing_still : (a c : List Instr) (i : Instr) → c ≡ a ++ i ∷ [] → IsGrowing a ls ms es top → IsStill i
      → IsGrowing c ls ms es top
  growing_still a c i e g h = growing_append a (i ∷ []) c e g (sound_still i h)

  -- a label stands, or a loop begins, before the next word
  pub growing_label : (a : List Instr) (m : Mark) (ns : List Mark) → ns ≡ ms ++ m ∷ [] → m.at ≡ length a
      → IsGrowing a ls ms es top → IsGrowing a ls ns es top
  growing_label a m ns e at g =
      let next = subst (IsSoFar a) (sym at) (next_target a) in
      record {
        sound = g.sound;
        ordered = g.ordered;
        ascend = g.ascend;
        targets = record {
          labels = subst (AreMarks a) (sym e) (All-push (λ (n : Mark). IsSoFar a n.at) ms m g.targets.labels next);
          entered = g.targets.entered;
          loop = g.targets.loop;
        };
      }

  pub growing_loop : (a : List Instr) (n : ℕ) → n ≡ length a → IsGrowing a ls ms es top → IsGrowing a ls ms es n
  growing_loop a n at g = record {
    sound = g.sound;
    ordered = g.ordered;
    ascend = g.ascend;
    targets = record {
      labels = g.targets.labels;
      entered = g.targets.entered;
      loop = subst (IsSoFar a) (sym at) (next_target a);
    };
  }

  pub growing_line : (a c : List Instr) (i : Instr) (ks : List Line) (l : Line) → c ≡ a ++ i ∷ [] → ks ≡ ls ++ l ∷ []
      → l.at ≡ 4 * length a → l.kind < 2 → IsGrowing a ls ms es top → IsPlainWord i → IsGrowing c ks ms es top
  growing_line a c i ks l e f at kind g h =
      let size : length c ≡ length a + 1 = ap length e ∙ length-append a (i ∷ []) in
      let w = growing_put a c i e g h in
      let more = lines_add 0 (length a) ls l at kind (omega arith) g.ordered in
      record {
        sound = w.sound;
        ordered = subst (λ n. lines_ok 0 (4 * n) ks ≡ true) (sym size)
            (subst (λ k. lines_ok 0 (4 * (length a + 1)) k ≡ true) (sym f) more);
        ascend = w.ascend;
        targets = w.targets;
      }

  pub growing_enter : (a c : List Instr) (i : Instr) (fs : List ℕ) (at : ℕ) → c ≡ a ++ i ∷ [] → fs ≡ es ++ at ∷ []
      → at ≡ 4 * length a → IsGrowing a ls ms es top → IsPlainWord i → IsGrowing c ls ms fs top
  growing_enter a c i fs at e f is g h =
      let size : length c ≡ length a + 1 = ap length e ∙ length-append a (i ∷ []) in
      let w = growing_put a c i e g h in
      let whole : fs ≡ es ++ 4 * length a ∷ [] = f ∙ ap (λ n. es ++ n ∷ []) is in
      let keep : (k : ℕ) → IsSoFar a k → IsSoFar c k = subst (λ v. (k : ℕ) → IsSoFar a k → IsSoFar v k) (sym e)
      (keeps_append a (i ∷ []) (sound_plain (i ∷ []) (one_plain i h))) in
      let entry : IsEntry (length c + 1) c at = record {
        word = length a;
        is = is;
        target = keep (length a) (next_target a);
      } in
      record {
        sound = w.sound;
        ordered = w.ordered;
        ascend = subst (AreEntries (length c)) (sym whole)
            (entries_push (length a) (length c) es g.ascend (omega (arith, size)));
        targets = record {
          labels = w.targets.labels;
          entered = subst (AreEntered c) (sym f) (All-push (IsEntry (length c + 1) c) es at w.targets.entered entry);
          loop = w.targets.loop;
        };
      }

  pub growing_led : (a b : List Instr) → AreLed a b → IsGrowing a ls ms es top → IsGrowing b ls ms es top
  growing_led a b l g = record {
    sound = l.sound;
    ordered = subst (λ n. lines_ok 0 (4 * n) ls ≡ true) (sym l.len) g.ordered;
    ascend = subst (λ n. AreEntries n es) (sym l.len) g.ascend;
    targets = targets_keep a b ms es top l.keeps g.targets;
  }

-- ---- the whole

-- the jump to itself behind all other words
abbrev last_jump : Instr
last_jump = Cjal 0 (pos 0)

last_in_range : InRange last_jump
unfolding InRange
last_in_range = (omega arith, (omega (arith, ints), omega (arith, ints)), refl)

last_still : IsStill last_jump
last_still = record { in_range = last_in_range; still = refl }

at_end : (xs : List Instr) (x : Instr) → slice_get (xs ++ x ∷ []) (length xs) ≡ Some x
at_end [] x = refl
at_end (y ∷ ys) x = at_end ys x

module _ (ls : List Line) (ms : List Mark) (es : List ℕ) (top : ℕ) where
  pub text_whole : (a b c : List Instr) → c ≡ b ++ last_jump ∷ [] → IsGrowing a ls ms es top → AreLed a b
      → IsText c ls
  text_whole a b c e g l =
      let w = growing_still ls ms es top b c last_jump e (growing_led ls ms es top a b l g) last_still in
      record { in_range = w.sound.in_range; lines = w.ordered }

  -- the code leads to its own words alone
  pub contained_whole : (a b c : List Instr) → c ≡ b ++ last_jump ∷ [] → IsGrowing a ls ms es top → AreLed a b
      → IsContainedCode c es 0
  contained_whole a b c e g l =
      let end = length (b ++ last_jump ∷ []) in
      let size : end ≡ length b + 1 = length-append b (last_jump ∷ []) in
      let one = contained_one last_jump refl in
      let keep : (k : ℕ) → IsSoFar b k → IsTarget end (b ++ last_jump ∷ []) k = λ k t. target_left b (last_jump ∷ [])
      (length b + 1) end k t (omega arith) (omega (arith, size)) (no_first 1 (last_jump ∷ []) one) in
      let first : IsSoFar b 0 = record {
        below = omega arith;
        no_call = no_first (length b + 1) b l.sound.contained;
      } in
      let entered = entered_keep a b es l.keeps g.targets.entered in
      subst (λ v. IsContainedCode v es 0) (sym e) (record {
        words = contained_append b (last_jump ∷ []) (length b + 1) 1 end l.sound.contained one (omega arith)
            (omega (arith, size)) (omega (arith, size));
        entered = all_keep (IsEntry (length b + 1) b) (IsEntry end (b ++ last_jump ∷ [])) es
            (λ at n. record { word = n.word; is = n.is; target = keep n.word n.target }) entered;
        started = record { word = 0; is = omega arith; target = keep 0 first };
        last = record { last = last_jump; at = length b; end = sym size; is = at_end b last_jump; plain = refl };
      })

pub completed : (old : Size) (text front code : List Instr) (calls cs : List Jump) (entries es : List ℕ)
    → old.text ≡ text → old.links.calls ≡ calls → old.links.entered ≡ entries → cs ≡ calls → es ≡ entries
    → code ≡ front ++ Cjal 0 (pos 0) ∷ [] → AreLedTo (IsEnteredAt es) cs text front → IsCompleted old code
completed old text front code calls cs entries es d e f g h i l = record {
  front = front;
  are = i;
  led = rw (d, e, f, ← g, ← h) l;
}
