-- The comparisons of a `switch`, and its labels, which are sorted by where they stand.
use Rattle.std.proofs.Common.{◌≡◌, ℕ, zero, suc, ◌+◌, ◌≤◌, ◌<◌, Bool, true, false, List, [], ◌∷◌, ◌++◌, length, drop}
use Rattle.std.proofs.Common.{Option, Some, None, refl, sym, ap, ◌∙◌, subst, arith, if◌then◌else◌}
use Rattle.std.specs.Prelude.{◌==◌, ◌&&◌, not, nat_lt, slice_get, slice_index_or, filter}
use Rattle.std.specs.List.Sorted.{ties, IsStableByKey, IsNonDecreasingBy}
use Rattle.std.specs.Ordering.{nat_cmp, is_lt}
use Rattle.std.proofs.lemmas.Bool.Decides.{nat_tests}
use Rattle.ck_int.specs.declared.kinds.IntKind.TheVariants as int
use Rattle.ck_int.specs.declared.kinds.CmpOp.TheVariants.{Eq}
use Rattle.c_tree.specs.declared.typed.SwitchLabel.{SwitchLabel}
use Rattle.cheri_c_sem.specs.Programs.{label_of}
use Rattle.cheri_c_sem.specs.Tree.{Label, Default}
use Rattle.cheri_c_sem.specs.Tree as tree
use Rattle.tac_ir.specs.declared.code.TacInstr.{TacInstr}
use Rattle.tac_ir.specs.declared.code.TacInstr.TheVariants as instr
use Rattle.tac_ir.specs.declared.code.TacKind.{TacKind}
use Rattle.tac_ir.specs.declared.code.TacKind.TheVariants as kinds
use Rattle.lower_runs.specs.Operating.{Code}
use Rattle.lower_runs.specs.Statements.{kept_number, cases_code, otherwise, stands_before, stand_code, count_labels}
use Rattle.lower_runs.specs.Statements.{AreAmong}
use Rattle.tac_emit.specs.declared.emitter.Emitter.{Emitter}
use Rattle.tac_lower.specs.declared.switches.Case.{Case}
use Rattle.tac_lower.specs.declared.switches.Cases.{Cases}
use Rattle.tac_lower.specs.declared.switches.Switched.{Switched}
use Rattle.tac_emit.specs.Emitted.{HasKind, Keeps, Pushed, Labelled}
use Rattle.tac_emit.specs.Adding.{Added, Emits, none, one}
use Rattle.tac_lower.specs.Cases.{labels_as, numbered, standing, up_to, past, here, Rise, Wait, StandSo, StandAt}
use Rattle.tac_lower.specs.Cases.{compare_code, Compared, ShowsCases}
use Rattle.tac_emit.proofs.Emitting.{none_emits, one_emits, emits_and, emits_then, added_then}
use Rattle.tac_emit.proofs.Wells.{keeps_then}

-- ---- one label more

pub cases_both : (k : TacKind) (at v l : ℕ) (ls ms : List Label) (r : List TacInstr) →
    cases_code k at v l (ls ++ ms) r ≡ cases_code k at v l ls (cases_code k at v (l + count_labels ls) ms r)
cases_both k at v l [] ms r = ap (λ n. cases_code k at v n ms r) (let e : l ≡ l + 0 = omega arith in e)
cases_both k at v l (tree.Case n b ∷ ls) ms r =
    let e : l + 1 + count_labels ls ≡ l + suc (count_labels ls) = omega arith in
    ap (λ z. instr.Const v k (kept_number k n) ∷ instr.Cmp Eq k (v + 1) at v ∷ instr.Branch (v + 1) true l ∷ z)
    (cases_both k at v (l + 1) ls ms r ∙ ap (λ n. cases_code k at v (l + 1) ls (cases_code k at v n ms r)) e)
cases_both k at v l (Default b ∷ ls) ms r =
    let e : l + 1 + count_labels ls ≡ l + suc (count_labels ls) = omega arith in
    cases_both k at v (l + 1) ls ms r ∙ ap (λ n. cases_code k at v (l + 1) ls (cases_code k at v n ms r)) e

pub otherwise_both : (l end : ℕ) (ls ms : List Label) →
    otherwise l end (ls ++ ms) ≡ otherwise (l + count_labels ls) (otherwise l end ls) ms
otherwise_both l end [] ms = ap (λ n. otherwise n end ms) (let e : l ≡ l + 0 = omega arith in e)
otherwise_both l end (tree.Case n b ∷ ls) ms =
    let e : l + 1 + count_labels ls ≡ l + suc (count_labels ls) = omega arith in
    otherwise_both (l + 1) end ls ms ∙ ap (λ n. otherwise n (otherwise (l + 1) end ls) ms) e
otherwise_both l end (Default b ∷ ls) ms =
    let e : l + 1 + count_labels ls ≡ l + suc (count_labels ls) = omega arith in
    otherwise_both (l + 1) l ls ms ∙ ap (λ n. otherwise n (otherwise (l + 1) l ls) ms) e

pub numbered_both : (l : ℕ) (ls ms : List Label) →
    numbered l (ls ++ ms) ≡ numbered l ls ++ numbered (l + count_labels ls) ms
numbered_both l [] ms = ap (λ n. numbered n ms) (let e : l ≡ l + 0 = omega arith in e)
numbered_both l (s ∷ ls) ms =
    let e : l + 1 + count_labels ls ≡ l + suc (count_labels ls) = omega arith in
    ap (λ z. record { before = stands_before s; label = l } ∷ z)
    (numbered_both (l + 1) ls ms ∙ ap (λ n. numbered (l + 1) ls ++ numbered n ms) e)

pub count_both : (ls ms : List Label) → count_labels (ls ++ ms) ≡ count_labels ls + count_labels ms
count_both [] ms = omega arith
count_both (s ∷ ls) ms = omega (arith, count_both ls ms)

pub labels_both : (ls ms : List SwitchLabel) → labels_as (ls ++ ms) ≡ labels_as ls ++ labels_as ms
labels_both [] ms = refl
labels_both (s ∷ ls) ms = ap (λ z. label_of s.value s.before ∷ z) (labels_both ls ms)

-- ---- labels stand one by one

drop_at : (cs : List Case) (i : ℕ) (c : Case) → slice_get cs i ≡ Some c → drop i cs ≡ c ∷ drop (i + 1) cs
drop_at [] i c e = absurd cc
drop_at (x ∷ cs) zero c e = let q : x ≡ c = cc in ap (λ z. z ∷ cs) q
drop_at (x ∷ cs) (suc i) c e = let q : suc (i + 1) ≡ suc i + 1 = omega arith in drop_at cs i c e
    ∙ ap (λ z. c ∷ drop z (x ∷ cs)) q

pub drop_none : (cs : List Case) (i : ℕ) → None ≡ slice_get cs i → drop i cs ≡ []
drop_none [] zero e = refl
drop_none [] (suc i) e = refl
drop_none (c ∷ cs) zero e = absurd cc
drop_none (c ∷ cs) (suc i) e = drop_none cs i e

pub stand_none : (some : List Case → List Case) (cs : List Case) (i : ℕ) (a : Emitter) → StandSo some cs i i a a
stand_none some cs i a = record { code = none; emits = none_emits a; same = refl }

pub stand_more : {some : List Case → List Case} {cs : List Case} {first i : ℕ} {a b e : Emitter} (c : Case) →
    StandSo some cs first i a b → slice_get cs i ≡ Some c →
    some (c ∷ drop (i + 1) cs) ≡ c ∷ some (drop (i + 1) cs) → Pushed b e (instr.Label c.label) →
    StandSo some cs first (i + 1) a e
stand_more {some = some} {cs = cs} {i = i} {b = b} {e = e} c h there first push = record {
  code = λ r. h.code (instr.Label c.label ∷ r);
  emits = emits_and h.emits (one_emits b e (instr.Label c.label) refl push);
  same = h.same
      ∙ ap (λ z r. h.code (standing (some z) r)) (drop_at cs i c there) ∙ ap (λ z r. h.code (standing z r)) first;
}

-- the last label stands
pub stand_all : {some : List Case → List Case} {cs : List Case} {first i : ℕ} {a b : Emitter} →
    StandSo some cs first i a b → some (drop i cs) ≡ [] → Emits a b 0 (standing (some (drop first cs)))
stand_all {a = a} {b = b} h e =
    subst (λ z. Emits a b 0 z) (sym (h.same ∙ ap (λ z r. h.code (standing z r)) e)) h.emits

-- a label that stands later is not among the first ones
pub later_up : (n : ℕ) (c : Case) (cs : List Case) → n < c.before → up_to n (c ∷ cs) ≡ []
later_up n c cs h = let q : nat_lt n c.before ≡ true = grind (arith, nat_tests) in
    ap {B = List Case} (λ b. if b then [] else c ∷ up_to n cs) q

pub later_past : (n : ℕ) (c : Case) (cs : List Case) → n < c.before → past n (c ∷ cs) ≡ c ∷ cs
later_past n c cs h = let q : nat_lt n c.before ≡ true = grind (arith, nat_tests) in
    ap {B = List Case} (λ b. if b then c ∷ cs else past n cs) q

pub first_up : (n : ℕ) (c : Case) (cs : List Case) → c.before ≤ n → up_to n (c ∷ cs) ≡ c ∷ up_to n cs
first_up n c cs h = let q : nat_lt n c.before ≡ false = grind (arith, nat_tests) in
    ap {B = List Case} (λ b. if b then [] else c ∷ up_to n cs) q

pub first_past : (n : ℕ) (c : Case) (cs : List Case) → c.before ≤ n → past n (c ∷ cs) ≡ past n cs
first_past n c cs h = let q : nat_lt n c.before ≡ false = grind (arith, nat_tests) in
    ap {B = List Case} (λ b. if b then c ∷ cs else past n cs) q

pub past_more : (cs : List Case) (first i n : ℕ) (c : Case) → past n (drop first cs) ≡ past n (drop i cs) →
    slice_get cs i ≡ Some c → c.before ≤ n → past n (drop first cs) ≡ past n (drop (i + 1) cs)
past_more cs first i n c h there le =
    h ∙ ap (past n) (drop_at cs i c there) ∙ first_past n c (drop (i + 1) cs) le

-- at a label that stands later, or behind the last
pub stands_later : (cs : List Case) (first i n : ℕ) {a b : Emitter} (c : Case) → StandSo (up_to n) cs first i a b →
    past n (drop first cs) ≡ past n (drop i cs) → slice_get cs i ≡ Some c → n < c.before → StandAt cs first n i a b
stands_later cs first i n c h left there later = record {
  emits = stand_all h (ap (up_to n) (drop_at cs i c there) ∙ later_up n c (drop (i + 1) cs) later);
  left = sym (left ∙ ap (past n) (drop_at cs i c there) ∙ later_past n c (drop (i + 1) cs) later
      ∙ sym (drop_at cs i c there));
}

pub stands_last : (cs : List Case) (first i n : ℕ) {a b : Emitter} → StandSo (up_to n) cs first i a b →
    past n (drop first cs) ≡ past n (drop i cs) → None ≡ slice_get cs i → StandAt cs first n i a b
stands_last cs first i n h left none = record {
  emits = stand_all h (ap (up_to n) (drop_none cs i none));
  left = sym (left ∙ ap (past n) (drop_none cs i none) ∙ sym (drop_none cs i none));
}

-- ---- sorted labels

rises_at : (n m : ℕ) (cs : List Case) → n ≤ m → Rise m cs → Rise n cs
rises_at n m [] le h = tt
rises_at n m (c ∷ cs) le h = (omega (arith, h.0), h.1)

equal_at : (m n : ℕ) → m ≡ n → (m == n) ≡ true
equal_at m n e = grind (arith, nat_tests)

unequal_at : (m n : ℕ) → n < m → (m == n) ≡ false
unequal_at m n l = grind (arith, nat_tests)

here_first : (n : ℕ) (c : Case) (cs : List Case) → c.before ≡ n → here n (c ∷ cs) ≡ c ∷ here n cs
here_first n c cs e = ap {B = List Case} (λ b. if b then c ∷ here n cs else here n cs) (equal_at c.before n e)

here_none : (n m : ℕ) (cs : List Case) → n < m → Rise m cs → here n cs ≡ []
here_none n m [] l h = refl
here_none n m (c ∷ cs) l h =
    ap {B = List Case} (λ b. if b then c ∷ here n cs else here n cs)
    (unequal_at c.before n (omega (arith, h.0))) ∙ here_none n c.before cs (omega (arith, h.0)) h.1

either : {A : Type 0} (n m : ℕ) → n ≤ m → (n ≡ m → A) → (n < m → A) → A
either {A = A} n m le e l = by (nat_lt n m) refl
  where
    by : (b : Bool) → nat_lt n m ≡ b → A
    by true h = l (grind (arith, nat_tests))
    by false h = e (let q : m ≤ n = grind (arith, nat_tests) in omega (arith, le, q))

-- those that stand first are those of statement n
up_is_here : (n : ℕ) (cs : List Case) → Rise n cs → up_to n cs ≡ here n cs
up_is_here n [] h = refl
up_is_here n (c ∷ cs) h = either n c.before h.0
    (λ e. first_up n c cs (omega (arith, e)) ∙ ap (λ z. c ∷ z) (up_is_here n cs (rises_at n c.before cs h.0 h.1))
    ∙ sym (here_first n c cs (sym e)))
    (λ l. later_up n c cs l ∙ sym (here_none n c.before (c ∷ cs) l (omega arith, h.1)))

past_rises : (n : ℕ) (cs : List Case) → Rise n cs → Rise (n + 1) (past n cs)
past_rises n [] h = tt
past_rises n (c ∷ cs) h = either n c.before h.0
    (λ e. subst (λ z. Rise (n + 1) z) (sym (first_past n c cs (omega (arith, e))))
    (past_rises n cs (rises_at n c.before cs h.0 h.1)))
    (λ l. subst (λ z. Rise (n + 1) z) (sym (later_past n c cs l)) (omega (arith, l), h.1))

past_keeps : (n m : ℕ) (cs : List Case) → n < m → Rise n cs → here m (past n cs) ≡ here m cs
past_keeps n m [] l h = refl
past_keeps n m (c ∷ cs) l h = either n c.before h.0
    (λ e. ap (here m) (first_past n c cs (omega (arith, e)))
    ∙ past_keeps n m cs l (rises_at n c.before cs h.0 h.1)
    ∙ sym (ap {B = List Case} (λ b. if b then c ∷ here m cs else here m cs) (before_not e)))
    (λ g. ap (here m) (later_past n c cs g))
  where
    before_not : n ≡ c.before → (c.before == m) ≡ false
    before_not e = grind (arith, nat_tests)

-- the labels of statement n in their order
pub stand_here : (l n : ℕ) (ls : List Label) → standing (here n (numbered l ls)) ≡ stand_code l n ls
stand_here l n [] = refl
stand_here l n (s ∷ ls) = by (stands_before s == n)
    ∙ λ i r. if stands_before s == n then instr.Label l ∷ stand_here (l + 1) n ls i r else stand_here (l + 1) n ls i r
  where
    c : Case
    c = record { before = stands_before s; label = l }

    cs : List Case
    cs = here n (numbered (l + 1) ls)

    by : (b : Bool) → ◌≡◌ {A = Code} (standing (if b then c ∷ cs else cs))
        (λ r. if b then instr.Label l ∷ standing cs r else standing cs r)
    by true = refl
    by false = refl

-- what waits stands at its statement
pub stood_here : {ls : List Label} {l n : ℕ} {cs : List Case} → Wait ls l cs n →
    standing (up_to n cs) ≡ stand_code l n ls
stood_here {ls = ls} {l = l} {n = n} {cs = cs} h =
    ap standing (up_is_here n cs h.rise ∙ h.same n (omega arith)) ∙ stand_here l n ls

pub wait_past : {ls : List Label} {l n : ℕ} {cs ds : List Case} → Wait ls l cs n → ds ≡ past n cs →
    Wait ls l ds (n + 1)
wait_past {ls = ls} {l = l} {n = n} {cs = cs} h e = subst (λ z. Wait ls l z (n + 1)) (sym e) (record {
  rise = past_rises n cs h.rise;
  same = λ m le. past_keeps n m cs (omega (arith, le)) h.rise ∙ h.same m (omega (arith, le));
})

-- behind the last statement all of them stand
among_none : (l n m : ℕ) (ls : List Label) → AreAmong ls n → n < m → here m (numbered l ls) ≡ []
among_none l n m [] h lt = refl
among_none l n m (s ∷ ls) h lt =
    ap {B = List Case} (λ b. if b then c ∷ here m (numbered (l + 1) ls) else here m (numbered (l + 1) ls)) not_here
    ∙ among_none (l + 1) n m ls h.1 lt
  where
    c : Case
    c = record { before = stands_before s; label = l }

    not_here : (stands_before s == m) ≡ false
    not_here = let q : stands_before s ≤ n = h.0 in grind (arith, nat_tests)

all_here : (n : ℕ) (cs : List Case) → Rise n cs → ((m : ℕ) → n < m → here m cs ≡ []) → here n cs ≡ cs
all_here n [] h none = refl
all_here n (c ∷ cs) h none = either n c.before h.0
    (λ e. here_first n c cs (sym e) ∙ ap (λ z. c ∷ z) (all_here n cs (rises_at n c.before cs h.0 h.1)
    (λ m lt. sym (ap {B = List Case} (λ b. if b then c ∷ here m cs else here m cs) (before_not e m lt))
    ∙ none m lt)))
    (λ l. absurd (let q : c ∷ here c.before cs ≡ [] = sym (here_first c.before c cs refl) ∙ none c.before l in cc))
  where
    before_not : n ≡ c.before → (m : ℕ) → n < m → (c.before == m) ≡ false
    before_not e m lt = grind (arith, nat_tests)

pub stood_behind : {ls : List Label} {l n : ℕ} {cs : List Case} → Wait ls l cs n → AreAmong ls n →
    standing cs ≡ stand_code l n ls
stood_behind {ls = ls} {l = l} {n = n} {cs = cs} h among =
    let none : (m : ℕ) → n < m → here m cs ≡ [] =
    λ m lt. h.same m (omega (arith, lt)) ∙ among_none l n m ls among lt in
    ap standing (sym (all_here n cs h.rise none) ∙ h.same n (omega arith)) ∙ stand_here l n ls

-- ---- the sort

rises_from : (cs : List Case) (n : ℕ) → IsNonDecreasingBy (λ (c : Case). c.before) cs →
    ((d : Case) → 0 < length cs → n ≤ (slice_index_or cs 0 d).before) → Rise n cs
rises_from [] n h f = tt
rises_from (c ∷ cs) n h f = (
  f c (omega arith),
  rises_from cs c.before
      (λ i j d le lt. h (suc i) (suc j) d (omega (arith, le)) (omega (arith, lt)))
      (λ d lt. h 0 1 d (omega arith) (omega (arith, lt))),
)

tied : (n m : ℕ) → (not (is_lt (nat_cmp n m)) && not (is_lt (nat_cmp m n))) ≡ (m == n)
tied n m = by (nat_lt n m) refl
  where
    by : (b : Bool) → nat_lt n m ≡ b → (not (is_lt (nat_cmp n m)) && not (is_lt (nat_cmp m n))) ≡ (m == n)
    by b e = grind (arith, nat_tests)

ties_are : (n : ℕ) → ties (λ (x y : Case). is_lt (nat_cmp x.before y.before)) (record { before = n; label = 0 })
    ≡ (λ (c : Case). c.before == n)
ties_are n i c = tied n c.before i

pub waits_sorted : (ls : List Label) (l : ℕ) (cs ds : List Case) → ds ≡ numbered l ls →
    IsNonDecreasingBy (λ (c : Case). c.before) cs → IsStableByKey (λ (c : Case). c.before) nat_cmp ds cs →
    Wait ls l cs 0
waits_sorted ls l cs ds e sorted stable = record {
  rise = rises_from cs 0 sorted (λ d lt. omega arith);
  same = λ m le. sym (ap (λ z. filter z cs) (ties_are m)) ∙ stable (record { before = m; label = 0 })
      ∙ ap (λ z. filter z ds) (ties_are m) ∙ ap (here m) e;
}

-- ---- a comparison

pub compare_emits : {a b e f : Emitter} (s : Switched) (n label : ℕ) {kept : ℕ} → kept ≡ kept_number s.kind n →
    Emits a b 0 (one (instr.Const s.value s.kind kept)) →
    Emits b e 0 (one (instr.Cmp Eq s.kind s.answer s.temp s.value)) →
    Emits e f 0 (one (instr.Branch s.answer true label)) → Emits a f 0 (compare_code s (Some n) label)
compare_emits {a = a} {b = b} s n label is constant compared branch =
    let first : Emits a b 0 (one (instr.Const s.value s.kind (kept_number s.kind n))) =
    subst (λ z. Emits a b 0 (one (instr.Const s.value s.kind z))) is constant in
    emits_and (emits_and first compared) branch

pub compared_none : {a b e : Emitter} {k : TacKind} {at t u : ℕ} (end : ℕ) → t ≡ length a.kinds.items →
    u ≡ length b.kinds.items → HasKind e u (kinds.Int int.I32) → Emits a b 1 none → Emits b e 1 none →
    Compared [] k at end (record { temp = at; kind = k; value = t; answer = u }) end [] a e
compared_none end value answer integer first second =
    let all = emits_then first second in
    record {
      temp = refl;
      kind = refl;
      value = value;
      answer = answer ∙ first.temps;
      integer = integer;
      added = all.added;
      keeps = all.keeps;
      temps = omega (arith, all.temps);
      labels = omega (arith, all.labels);
      last_is = refl;
      cases = refl;
    }

-- one label more
module _ {k : TacKind} {at end last : ℕ} {s : Switched} {ls : List Label} {cs : List Case} {a b e : Emitter}
    (h : Compared ls k at end s last cs a b) {l : ℕ} (made : Labelled b e l) where
  next : l ≡ a.labels + count_labels ls
  next = made.label ∙ h.labels

  compares_with : (v : Option ℕ) (before : ℕ) → compare_code s v l
      ≡ cases_code k at (length a.kinds.items) (a.labels + count_labels ls) (label_of v before ∷ [])
  compares_with None before i r = r
  compares_with (Some n) before i r =
      instr.Const (h.value i) (h.kind i) (kept_number (h.kind i) n)
      ∷ instr.Cmp Eq (h.kind i) (h.answer i) (h.temp i) (h.value i) ∷ instr.Branch (h.answer i) true (next i) ∷ r

  last_with : (v : Option ℕ) (before to : ℕ) → (v ≡ None → to ≡ l) → ((n : ℕ) → v ≡ Some n → to ≡ last) →
      to ≡ otherwise (a.labels + count_labels ls) (otherwise a.labels end ls) (label_of v before ∷ [])
  last_with None before to none some = none refl ∙ next
  last_with (Some n) before to none some = some n refl ∙ h.last_is

  pub compared_more : (v : Option ℕ) (before to : ℕ) {f : Emitter} {ms : List Label} {ds : List Case} →
      Emits e f 0 (compare_code s v l) → (v ≡ None → to ≡ l) → ((n : ℕ) → v ≡ Some n → to ≡ last) →
      ms ≡ ls ++ label_of v before ∷ [] → ds ≡ cs ++ record { before = before; label = l } ∷ [] →
      Compared ms k at end s to ds a f
  compared_more v before to {f = f} {ms = ms} emits none some more pushed =
      let ns = label_of v before ∷ [] in
      let first : Added b e (λ r. r) = record { is = λ r. ap (λ z. z ++ r) made.code } in
      let one : Emits e f 0 (cases_code k at (length a.kinds.items) (a.labels + count_labels ls) ns) =
      subst (λ z. Emits e f 0 z) (compares_with v before) emits in
      let code : (λ (r : List TacInstr). cases_code k at (length a.kinds.items) a.labels ls
      (cases_code k at (length a.kinds.items) (a.labels + count_labels ls) ns r))
      ≡ cases_code k at (length a.kinds.items) a.labels ms =
      (λ i r. sym (cases_both k at (length a.kinds.items) a.labels ls ns r) i)
      ∙ ap (cases_code k at (length a.kinds.items) a.labels) (sym more) in
      let as_long : length e.kinds.items ≡ length b.kinds.items = ap length made.kinds in
      let kept : Keeps b.kinds.items f.kinds.items =
      subst (λ z. Keeps z f.kinds.items) made.kinds emits.keeps in
      let count : count_labels ms ≡ count_labels ls + 1 = ap count_labels more ∙ count_both ls ns in
      record {
        temp = h.temp;
        kind = h.kind;
        value = h.value;
        answer = h.answer;
        integer = record { there = kept.kept s.answer (kinds.Int int.I32) h.integer.there };
        added = subst (λ z. Added a f z) code (added_then h.added (added_then first one.added));
        keeps = keeps_then a.kinds.items b.kinds.items f.kinds.items h.keeps kept;
        temps = omega (arith, emits.temps, as_long, h.temps);
        labels = omega (arith, emits.labels, made.labels, h.labels, count);
        last_is = last_with v before to none some ∙ sym (otherwise_both a.labels end ls ns)
            ∙ ap (otherwise a.labels end) (sym more);
        cases = pushed ∙ ap (λ z. z ++ record { before = before; label = l } ∷ []) h.cases
            ∙ ap (λ z. numbered a.labels ls ++ z) (numbered_with v before)
            ∙ sym (numbered_both a.labels ls ns) ∙ ap (numbered a.labels) (sym more);
      }
    where
      numbered_with : (v : Option ℕ) (before : ℕ) → ◌≡◌ {A = List Case} (record { before = before; label = l } ∷ [])
          (numbered (a.labels + count_labels ls) (label_of v before ∷ []))
      numbered_with None before i = record { before = before; label = next i } ∷ []
      numbered_with (Some n) before i = record { before = before; label = next i } ∷ []

-- the jump behind the comparisons, and the sort of the labels
pub shows_cases : {k : TacKind} {at end last : ℕ} {s : Switched} {ls ms : List Label} {cs : List Case} (c : Cases)
    {a b e : Emitter} → Compared ls k at end s last cs a b → ms ≡ ls → Emits b e 0 (one (instr.Jump last)) →
    IsNonDecreasingBy (λ (c : Case). c.before) c.cases.items →
    IsStableByKey (λ (c : Case). c.before) nat_cmp cs c.cases.items → ShowsCases ms k at end c a e
shows_cases {k = k} {at = at} {end = end} {s = s} {ls = ls} c {a = a} {b = b} {e = e} h same jump sorted stable =
    subst (λ z. ShowsCases z k at end c a e) (sym same) (record {
      compares = record {
        integer = record {
          there = jump.keeps.kept (length a.kinds.items + 1) (kinds.Int int.I32)
              (subst (λ t. slice_get b.kinds.items t ≡ Some (kinds.Int int.I32)) h.answer h.integer.there);
        };
        added = added_then h.added (subst (λ z. Added b e (one (instr.Jump z))) h.last_is jump.added);
        keeps = keeps_then a.kinds.items b.kinds.items e.kinds.items h.keeps jump.keeps;
        temps = omega (arith, h.temps, jump.temps);
        labels = jump.labels ∙ h.labels;
      };
      waits = waits_sorted ls a.labels c.cases.items _ h.cases sorted stable;
    })
