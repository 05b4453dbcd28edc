-- Lines that ascend: what a binary search finds among them.
use Rattle.std.proofs.Common.{◌≡◌, ℕ, zero, suc, ◌+◌, ◌<◌, ◌≤◌, Bool, true, false, eqb, leb, ltb, List, [], ◌∷◌, length}
use Rattle.std.proofs.Common.{slice_index, get_or, map, Some, None, Result, Ok, Err, inl, inr, refl, sym, ap, ◌∙◌}
use Rattle.std.proofs.Common.{add-one, arith}
use Rattle.std.specs.Prelude.{◌&&◌, ◌⊎◌, MatchResult}
use Rattle.std.specs.List.{All, find}
use Rattle.std.specs.List.Sorted.{IsSearchInRange, IsBinarySearchResult, IsNonDecreasingBy, IsStrictlyIncreasing}
use Rattle.std.specs.Ordering.{nat_cmp, ordering_index}
use Rattle.std.proofs.lemmas.Bool.{and_parts, and_from, cases_lt, le-leb, lt-ltb, leb-true, ltb-true, eq-eqb, ne_eqb}
use Rattle.std.proofs.lemmas.Bool.Decides.{nat_tests}
use Rattle.std.proofs.lemmas.Cmp.{ranked}
use Rattle.std.proofs.lemmas.List.{get_or-map, length-map}
use Rattle.std.proofs.lemmas.List.Elements.{All-nil, All-cons, All-head, All-tail}
use Rattle.std.proofs.lemmas.List.Sorted.{IsNonDecreasingBy-from_default}
use Rattle.elf_file.specs.declared.image.Line.{Line}
use Rattle.elf_file.specs.Image.{line_of, lines_ok}

-- the parts of a line's test
record FirstOk (least size : ℕ) (l : Line) (ls : List Line) : Type 0 where
  above : least ≤ l.at
  in_text : l.at < size
  kind : l.kind < 2
  rest : lines_ok (l.at + 1) size ls ≡ true

first_ok : (least size : ℕ) (l : Line) (ls : List Line) → lines_ok least size (l ∷ ls) ≡ true → FirstOk least size l ls
first_ok least size l ls h =
    let a = and_parts (leb least l.at && ltb l.at size && ltb l.kind 2) (lines_ok (l.at + 1) size ls) h in
    let b = and_parts (leb least l.at && ltb l.at size) (ltb l.kind 2) a.0 in
    let c = and_parts (leb least l.at) (ltb l.at size) b.0 in
    record {
      above = leb-true least l.at c.0;
      in_text = ltb-true l.at size c.1;
      kind = ltb-true l.kind 2 b.1;
      rest = a.1;
    }

abbrev no_line : Line
no_line = record { at = 0; line = 0; col = 0; kind = 0 }

lines_least : (least size : ℕ) (ls : List Line) (k : ℕ) (d : Line) → lines_ok least size ls ≡ true → k < length ls →
    least ≤ (get_or ls k d).at
lines_least least size [] k d h lt = absurd (omega arith)
lines_least least size (l ∷ ls) zero d h lt = (first_ok least size l ls h).above
lines_least least size (l ∷ ls) (suc k) d h lt =
    let one = first_ok least size l ls h in
    omega (arith, one.above, lines_least (l.at + 1) size ls k d one.rest (omega arith))

lines_rise : (least size : ℕ) (ls : List Line) (j k : ℕ) (d : Line) → lines_ok least size ls ≡ true → j < k →
    k < length ls → (get_or ls j d).at < (get_or ls k d).at
lines_rise least size [] j k d h lt in_range = absurd (omega arith)
lines_rise least size (l ∷ ls) j zero d h lt in_range = absurd (omega arith)
lines_rise least size (l ∷ ls) zero (suc k) d h lt in_range =
    omega (arith, lines_least (l.at + 1) size ls k d (first_ok least size l ls h).rest (omega arith))
lines_rise least size (l ∷ ls) (suc j) (suc k) d h lt in_range =
    lines_rise (l.at + 1) size ls j k d (first_ok least size l ls h).rest (omega arith) (omega arith)

-- ---- the rules, and the test

kinds_of : (least size : ℕ) (ls : List Line) → lines_ok least size ls ≡ true →
    All (λ l. l.at < size) ls × All (λ l. l.kind < 2) ls
kinds_of least size [] h = (All-nil (λ l. l.at < size), All-nil (λ l. l.kind < 2))
kinds_of least size (l ∷ ls) h =
    let one = first_ok least size l ls h in
    let others = kinds_of (l.at + 1) size ls one.rest in
    (All-cons (λ l. l.at < size) l ls one.in_text others.0, All-cons (λ l. l.kind < 2) l ls one.kind others.1)

at_in : (ls : List Line) (k : ℕ) (d : Line) → k < length ls → slice_index (map (λ l. l.at) ls) k ≡ (get_or ls k d).at
at_in ls k d lt = get_or-map (λ l. l.at) ls k d 0 lt

-- lines that pass the test ascend, lie in the text and are of kind 0 or 1
pub rules_from_test : (least size : ℕ) (ls : List Line) → lines_ok least size ls ≡ true →
    IsStrictlyIncreasing (map (λ l. l.at) ls) × All (λ l. l.at < size) ls × All (λ l. l.kind < 2) ls
rules_from_test least size ls h =
    let others = kinds_of least size ls h in (
      λ k lt.
          let next : k + 1 < length ls = omega (arith, length-map ls (λ (l : Line). l.at)) in
          omega (
            arith,
            at_in ls k no_line (omega arith),
            at_in ls (k + 1) no_line next,
            lines_rise least size ls k (k + 1) no_line h (omega arith) next,
          ),
      others.0,
      others.1,
    )

abbrev pub StartsFrom : ℕ → List Line → Type 0
StartsFrom least [] = Unit {0}
StartsFrom least (l ∷ ls) = least ≤ l.at

pub starts_from_none : (ls : List Line) → StartsFrom 0 ls
starts_from_none [] = tt
starts_from_none (l ∷ ls) = omega arith

starts_after : (l : Line) (ls : List Line) → IsStrictlyIncreasing (map (λ l. l.at) (l ∷ ls)) → StartsFrom (l.at + 1) ls
starts_after l [] up = tt
starts_after l (m ∷ ms) up = let less : l.at < m.at = up 0 (omega arith) in omega arith

increasing_tail : (x : ℕ) (xs : List ℕ) → IsStrictlyIncreasing (x ∷ xs) → IsStrictlyIncreasing xs
increasing_tail x xs up k lt = rw add-one (rw add-one at (up (suc k) (omega arith)))

-- and the other way round
pub test_from_rules : (least size : ℕ) (ls : List Line) → StartsFrom least ls →
    IsStrictlyIncreasing (map (λ l. l.at) ls) → All (λ l. l.at < size) ls → All (λ l. l.kind < 2) ls →
    lines_ok least size ls ≡ true
test_from_rules least size [] start up in_text kinds = refl
test_from_rules least size (l ∷ ls) start up in_text kinds =
    let below = All-head (λ l. l.at < size) l ls in_text in
    let kind = All-head (λ l. l.kind < 2) l ls kinds in
    and_from (leb least l.at && ltb l.at size && ltb l.kind 2) (lines_ok (l.at + 1) size ls)
    (and_from (leb least l.at && ltb l.at size) (ltb l.kind 2)
    (and_from (leb least l.at) (ltb l.at size) (le-leb _ _ start) (lt-ltb _ _ below)) (lt-ltb _ _ kind))
    (test_from_rules (l.at + 1) size ls (starts_after l ls up) (increasing_tail l.at (map (λ l. l.at) ls) up)
    (All-tail (λ l. l.at < size) l ls in_text) (All-tail (λ l. l.kind < 2) l ls kinds))

-- ---- a binary search

-- the first item that passes a test
find_first : {X : Type 0} (p : X → Bool) (xs : List X) (k : ℕ) (d : X) → k < length xs → p (get_or xs k d) ≡ true →
    ((j : ℕ) → j < k → p (get_or xs j d) ≡ false) → find p xs ≡ Some (get_or xs k d)
find_first p [] k d lt here before = absurd (omega arith)
find_first p (x ∷ xs) zero d lt here before = rw here refl
find_first p (x ∷ xs) (suc k) d lt here before =
    rw (before 0 (omega arith)) (find_first p xs k d (omega arith) here (λ j h. before (suc j) (omega arith)))

find_none : {X : Type 0} (p : X → Bool) (xs : List X) (d : X) → ((j : ℕ) → j < length xs → p (get_or xs j d) ≡ false) →
    find p xs ≡ None
find_none p [] d never = refl
find_none p (x ∷ xs) d never = rw (never 0 (omega arith)) (find_none p xs d (λ j h. never (suc j) (omega arith)))

-- an address before the text has no line
pub none_before : (ls : List Line) (base pc : ℕ) → pc < base → find (λ l. eqb (base + l.at) pc) ls ≡ None
none_before [] base pc before = refl
none_before (l ∷ ls) base pc before = rw (ne_eqb (base + l.at) pc (λ same. omega arith)) (none_before ls base pc before)

module _ (xs : List (List ℕ)) (size base pc at : ℕ) (ordered : lines_ok 0 size (map line_of xs) ≡ true)
    (offset : base + at ≡ pc) where
  line_there : (k : ℕ) → k < length xs → get_or (map line_of xs) k (line_of []) ≡ line_of (get_or xs k [])
  line_there k lt = get_or-map line_of xs k [] (line_of []) lt

  rises : (j k : ℕ) → j < k → k < length xs → (line_of (get_or xs j [])).at < (line_of (get_or xs k [])).at
  rises j k lt in_range =
      let e = ap (λ (l : Line). l.at) (line_there j (omega arith)) in
      let f = ap (λ (l : Line). l.at) (line_there k in_range) in
      omega (
        arith,
        e,
        f,
        lines_rise 0 size (map line_of xs) j k (line_of []) ordered lt
            (omega (arith, length-map xs line_of)),
      )

  -- the comparisons with the offset rise along the lines, as a binary search asks
  comparisons_rise : IsNonDecreasingBy (λ b. ordering_index (nat_cmp (line_of b).at at)) xs
  comparisons_rise = IsNonDecreasingBy-from_default (λ b. ordering_index (nat_cmp (line_of b).at at)) xs []
      (λ i j le in_range.
      let up : (line_of (get_or xs i [])).at ≤ (line_of (get_or xs j [])).at =
      grind (arith, rises i j, λ (same : i ≡ j). ap (λ (k : ℕ). (line_of (get_or xs k [])).at) same) in
      grind (arith, nat_tests))

  pub found : (r : Result ℕ ℕ) → IsSearchInRange r (length xs) →
      IsBinarySearchResult (λ b. nat_cmp (line_of b).at at) xs r
      → MatchResult r (λ k. find (λ l. eqb (base + l.at) pc) (map line_of xs) ≡ Some (line_of (get_or xs k [])))
      (λ k. find (λ l. eqb (base + l.at) pc) (map line_of xs) ≡ None)
  found (Ok k) in_range equal =
      let here : (line_of (get_or xs k [])).at ≡ at = ranked _ at _ (sym (equal [])) in
      let line : get_or (map line_of xs) k (line_of []) ≡ line_of (get_or xs k []) = line_there k in_range in
      find_first (λ l. eqb (base + l.at) pc) (map line_of xs) k (line_of []) (omega (arith, length-map xs line_of))
      (ap (λ (l : Line). eqb (base + l.at) pc) line ∙ eq-eqb _ _ (omega arith))
      (λ j lt. ap (λ (l : Line). eqb (base + l.at) pc) (line_there j (omega arith))
      ∙ ne_eqb _ _ (λ same. omega (arith, rises j k lt in_range)))
      ∙ ap (λ (l : Line). Some l) line
  found (Err k) in_range parted =
      find_none (λ l. eqb (base + l.at) pc) (map line_of xs) (line_of []) (λ j lt.
      let inside : j < length xs = omega (arith, length-map xs line_of) in
      ap (λ (l : Line). eqb (base + l.at) pc) (line_there j inside) ∙ ne_eqb _ _ (never j inside (cases_lt j k)))
    where
      never : (j : ℕ) → j < length xs → (j < k) ⊎ (k ≤ j) → base + (line_of (get_or xs j [])).at ≡ pc → ⊥
      never j inside (inl below) same =
          let less : (line_of (get_or xs j [])).at < at =
          ranked _ at _ (sym ((parted comparisons_rise).0 j [] (omega arith) below)) in
          omega arith
      never j inside (inr above) same =
          let more : at < (line_of (get_or xs j [])).at =
          ranked _ at _ (sym ((parted comparisons_rise).1 j [] above inside)) in
          omega arith
