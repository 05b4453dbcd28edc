-- The words of arguments and parameters, one after another.
use Rattle.std.proofs.Common.{◌≡◌, ℕ, zero, suc, ◌+◌, ◌-◌, ◌*◌, ◌<◌, ◌≤◌, ⊎_elim, pos, Bool, true, false, List, [], ◌∷◌}
use Rattle.std.proofs.Common.{◌++◌, length, get_or, Some, refl, sym, ap, ◌∙◌, subst, arith, append_assoc, if◌then◌else◌}
use Rattle.std.specs.Prelude.{slice_get, nat_lt, min}
use Rattle.std.proofs.Math.Nat.{mul-suc}
use Rattle.std.proofs.lemmas.List.{append-nil, length-append}
use Rattle.std.proofs.lemmas.Option.{slice_get-get_or, get_or_from_slice_get}
use Rattle.rv_instr.specs.declared.instr.Instr.{Instr}
use Rattle.rv_instr.specs.declared.instr.Instr.TheVariants.{Clc}
use Rattle.purecap_abi.specs.Words.{low, near_code, load_code, store_code}
use Rattle.select_words.specs.Selecting.{Selecting}
use Rattle.select_words.specs.Emitted.{Operand}
use Rattle.select_words.specs.Entries.{ForEach, AreMovesTo, stack_place}
use Rattle.select_words.specs.Passing as passing
use Rattle.select_words.specs.Passing.{StackedWords, BroughtWords, ArgumentWords, IsPassing, MayCarry}
use Rattle.select_words.specs.Services.{IsAside}
use Rattle.select_words.specs.Words as words
use Rattle.select_words.specs.Words.{Bring}
use Rattle.rv_select.specs.declared.calls.Bring as calls
use Rattle.rv_select.specs.declared.calls.Placed.{Placed}
use Rattle.rv_select.specs.declared.function.Function.{Function}
use Rattle.rv_select.specs.Choosing.{chosen, Chooses}
use Rattle.rv_emit.specs.Growing.{Size, Puts, reach}
use Rattle.rv_select.specs.Passed.{AreChosen, ArePlaced}
use Rattle.rv_select.specs.Selected.{AreAside}
use Rattle.rv_emit.proofs.Appended.{puts_then, more}

module _ (Words : ℕ → List Instr → Type 0) where
  pub for_each_more : (k n : ℕ) (ws xs : List Instr) → ForEach Words k n ws → Words (k + n) xs
      → ForEach Words k (suc n) (ws ++ xs)
  for_each_more k zero ws xs h w =
      let here : k + 0 ≡ k = omega arith in
      (xs, [], subst (λ m. Words m xs) here w, refl, ap (λ y. y ++ xs) h ∙ sym (append-nil xs))
  for_each_more k (suc n) ws xs h w =
      let next : k + suc n ≡ k + 1 + n = omega arith in (
        h.0,
        h.1 ++ xs,
        h.2,
        for_each_more (k + 1) n h.1 xs h.3 (subst (λ m. Words m xs) next w),
        ap (λ y. y ++ xs) h.4 ∙ append_assoc h.0 h.1 xs,
      )

  -- from a number on up to another
  pub puts_next : (from k : ℕ) (old mid new : Size) → from ≤ k → Puts (ForEach Words from (k - from)) old mid
      → Puts (Words k) mid new → Puts (ForEach Words from (k + 1 - from)) old new
  puts_next from k old mid new le p q =
      let here : k ≡ from + (k - from) = omega arith in
      let more : suc (k - from) ≡ k + 1 - from = omega arith in
      subst (λ n. Puts (ForEach Words from n) old new) more
      (puts_then (ForEach Words from (k - from)) (Words (from + (k - from))) (ForEach Words from (suc (k - from))) old
      mid new p (subst (λ n. Puts (Words n) mid new) here q) (for_each_more from (k - from)))

pub stacked : (s : Selecting) (args : List ℕ) (k t r at left right : ℕ) (old mid new : Size)
    → slice_get args k ≡ Some t → left ≡ 28 → right ≡ 29 → Puts (λ ws. Operand s t left ws r) old mid
    → at ≡ stack_place k → k ≤ 4194304 → (at < reach → new.text ≡ mid.text ++ store_code r 2 at right)
    → Puts (StackedWords s args k) old new
stacked s args k t r at left right old mid new is e f p h le store =
    let near : at < reach = omega (arith, h) in
    puts_then (λ ws. Operand s t left ws r) (λ ws. ws ≡ store_code r 2 (stack_place k) 29) (StackedWords s args k) old
    mid new p (record {
      added = store_code r 2 (stack_place k) 29;
      is = store near ∙ ap (λ x. mid.text ++ store_code r 2 x right) h
          ∙ ap (λ x. mid.text ++ store_code r 2 (stack_place k) x) f;
      are = refl;
    })
    (λ fs ws o w. record {
      temp = t;
      is = is;
      r = r;
      finds = fs;
      found = subst (λ y. Operand s t y fs r) e o;
      are = ap (λ x. fs ++ x) w;
    })

-- ---- how many words there are

for_each_few : (Words : ℕ → List Instr → Type 0) (most : ℕ)
    → ((k : ℕ) (ws : List Instr) → Words k ws → length ws ≤ most) → (count k : ℕ) (ws : List Instr)
    → ForEach Words k count ws → length ws ≤ most * count
for_each_few Words most each zero k ws none = subst (λ y. length y ≤ most * 0) (sym none) (omega arith)
for_each_few Words most each (suc n) k ws form =
    let a = each k form.0 form.2 in let b = for_each_few Words most each n (k + 1) form.1 form.3 in
    let l = length-append form.0 form.1 in
    let size = mul-suc most n in
    subst (λ y. length y ≤ most * suc n) (sym form.4) (omega (arith, a, b, l, size))

far_loads : (to base offset scratch : ℕ) → length (load_code to base offset scratch) ≤ 3
far_loads to base offset scratch = by (nat_lt offset 2048)
  where
    by : (b : Bool) → length (if b then Clc to base (pos offset) ∷ []
        else near_code scratch base offset ++ Clc to scratch (low offset) ∷ []) ≤ 3
    by true = omega arith
    by false = omega arith

bring_few : (s : Selecting) (t r : ℕ) (ws : List Instr) → Bring s t r ws → length ws ≤ 3
bring_few s t r ws (words.Made v n m few) = omega (arith, few)
bring_few s t r ws (words.There i e) = subst (λ x. length x ≤ 3) (sym e) (omega arith)
bring_few s t r ws (words.Moved q i d e) = subst (λ x. length x ≤ 3) (sym e) (omega arith)
bring_few s t r ws (words.Loaded at i e) = subst (λ x. length x ≤ 3) (sym e) (far_loads r 2 at r)

brought_few : (s : Selecting) (args : List ℕ) (k : ℕ) (ws : List Instr) → BroughtWords s args k ws → length ws ≤ 3
brought_few s args k ws (passing.Moved t q i d p e) = subst (λ x. length x ≤ 3) (sym e) (omega arith)
brought_few s args k ws (passing.Brought t i a b) = bring_few s t (10 + k) ws b

-- ---- the first eight arguments

-- where a text is as it was, nothing was appended to it
none_appended : {A : Type 0} (old more new : List A) → new ≡ old ++ more → new ≡ old → more ≡ []
none_appended old [] new e f = refl
none_appended old (x ∷ xs) new e f =
    let size = ap length (sym f ∙ e) ∙ length-append old (x ∷ xs) in absurd (omega (arith, size))

module _ (f : Function) (args : List ℕ) where
  abbrev Brought : ℕ → List Instr → Type 0
  Brought n ws = AreAside (chosen f) args → ForEach (BroughtWords (chosen f) args) 0 n ws

  -- the next comes to its register
  module _ (all : Placed) (items : List calls.Bring) (n : ℕ) (b : calls.Bring) (placed : AreAside (chosen f) args
      → ArePlaced args (min (length args) 8) all) (same : items ≡ all.others.items) (lt : n < length items)
      (e : b ≡ get_or items n b) where
    brought_more : (xs ys : List Instr) → Brought n xs → Bring (chosen f) b.temp b.to ys → Brought (n + 1) (xs ++ ys)
    brought_more xs ys brought brings aside =
        let a = placed aside in
        let long = ap length same ∙ a.len in
        let below : n < min (length args) 8 = omega (arith, lt, long) in
        let t = get_or args n 0 in
        let is : slice_get args n ≡ Some t = slice_get-get_or args n 0 (omega (arith, below)) in
        let there = ap (λ (x : List calls.Bring). slice_get x n) same ∙ a.each n t below is in
        let item = e ∙ get_or_from_slice_get items n (record { to = 10 + n; temp = t }) b there in
        let to = ap (λ (x : calls.Bring). x.to) item in
        let temp = ap (λ (x : calls.Bring). x.temp) item in
        let comes : Bring (chosen f) t (10 + n) ys = subst (λ x. Bring (chosen f) x (10 + n) ys) temp
        (subst (λ x. Bring (chosen f) b.temp x ys) to brings) in
        let here : n ≡ 0 + n = omega arith in
        let next : suc n ≡ n + 1 = omega arith in
        subst (λ m. ForEach (BroughtWords (chosen f) args) 0 m (xs ++ ys)) next
        (for_each_more (BroughtWords (chosen f) args) 0 n xs ys (brought aside)
        (subst (λ m. BroughtWords (chosen f) args m ys) here
        (passing.Brought t is (λ q i. aside t q (n, is) i.home) comes)))

    pub brought_next : (old mid new : Size) → AreChosen f all.others.items → Puts (Brought n) old mid
        → (0 < b.to → Chooses f b.temp → Puts (Bring (chosen f) b.temp b.to) mid new) → Puts (Brought (n + 1)) old new
    brought_next old mid new are p w =
        let Chosen : calls.Bring → Type 0 = λ x. (0 < x.to) × Chooses f x.temp in
        let one = subst Chosen (sym e) (subst (λ (x : List calls.Bring). AreChosen f x) (sym same) are n b lt) in
        puts_then (Brought n) (Bring (chosen f) b.temp b.to) (Brought (n + 1)) old mid new p (w one.0 one.1)
        brought_more

  -- all arguments
  pub arguments_passed : (all : Placed) (items : List calls.Bring) (n : ℕ) (old stored moved new : Size)
      → (AreAside (chosen f) args → ArePlaced args (min (length args) 8) all) → items ≡ all.others.items
      → length items ≤ n → n ≤ length items
      → Puts (ForEach (StackedWords (chosen f) args) 8 (length args - 8)) old stored
      → Puts (λ ws. Unit {0}) stored moved → (all.moves.items ≡ [] → moved.text ≡ stored.text)
      → Puts (Brought n) moved new → Puts (λ ws. AreAside (chosen f) args → ArgumentWords (chosen f) args ws) old new
  arguments_passed all items n old stored moved new placed same more_than less p m e q = record {
    added = p.added ++ (m.added ++ q.added);
    is = more old.text p.added (m.added ++ q.added) stored.text new.text p.is
        (more stored.text m.added q.added moved.text new.text m.is q.is);
    are = λ aside.
        let a = placed aside in
        let long = ap length same ∙ a.len in
        let count : n ≡ min (length args) 8 = omega (arith, more_than, less, long) in
        let none : m.added ≡ [] = none_appended stored.text m.added moved.text m.is (e a.none) in
        let brings = subst (λ k. ForEach (BroughtWords (chosen f) args) 0 k q.added) count (q.are aside) in
        let few = for_each_few (BroughtWords (chosen f) args) 3 (brought_few (chosen f) args) (min (length args) 8) 0
        q.added brings in
        let size = ap length none in
        record {
          stores = p.added;
          moves = m.added;
          brings = q.added;
          stacked = p.are;
          own = subst (AreMovesTo MayCarry) (sym none) tt;
          moved = λ k t r lt is i passes. absurd (never r passes (aside t r (k, is) i.home));
          brought = brings;
          few = omega (arith, few, size);
          are = refl;
        };
  }
    where
      never : (r : ℕ) → IsPassing r → IsAside r → ⊥
      never r p a = ⊎_elim (λ (l : r < 10). omega (arith, l, p.0)) (λ (l : 17 < r). omega (arith, l, p.1)) a
