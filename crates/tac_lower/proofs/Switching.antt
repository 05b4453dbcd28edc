-- Labels that wait in any order, and the labels of a `switch`.
use Rattle.std.proofs.Common.{◌≡◌, ℕ, ◌+◌, ◌≤◌, zero, suc, Bool, true, false, List, [], ◌∷◌, ◌++◌, length, cond, drop}
use Rattle.std.proofs.Common.{Some, None, refl, sym, ap, ◌∙◌, subst, arith}
use Rattle.std.specs.Prelude.{◌==◌, ◌||◌, nat_lt, sum_by, slice_get}
use Rattle.std.specs.List.Sorted.{IsPermutation}
use Rattle.std.proofs.lemmas.Bool.Decides.{nat_tests}
use Rattle.std.proofs.lemmas.List.Sums.{sum_by-cons}
use Rattle.std.proofs.lemmas.List.Sorted.{sum_by-IsPermutation}
use Rattle.c_tree.specs.declared.typed.FunDef.{FunDef}
use Rattle.c_tree.specs.declared.typed.Typed.{Typed}
use Rattle.ck_int.specs.declared.kinds.IntKind.TheVariants as int
use Rattle.tac_ir.specs.declared.code.TacInstr.TheVariants as instr
use Rattle.tac_ir.specs.declared.code.TacKind.TheVariants as kinds
use Rattle.tac_lower.specs.declared.context.Home.{Home}
use Rattle.tac_emit.specs.declared.emitter.Emitter.{Emitter}
use Rattle.tac_lower.specs.declared.switches.Case.{Case}
use Rattle.tac_lower.specs.declared.switches.Switched.{Switched}
use Rattle.tac_lower.specs.declared.types.TypeFacts.{TypeFacts}
use Rattle.tac_emit.specs.Emitted.{Keeps, IsOpen, Grown, Labelled, Pushed, Adds, with_open, AreNew, open_labels}
use Rattle.tac_lower.specs.Scenes.{Scene, Opened}
use Rattle.tac_lower.specs.Statements.{labels_of, IsSwitched, StandUpTo}
use Rattle.tac_emit.proofs.Labels as labels
use Rattle.tac_lower.proofs.Scening as scening
use Rattle.tac_emit.proofs.Wells.{or_left, or_right, same_number, extensional, keeps_then}

-- ---- how often a label is among some

times : ℕ → List ℕ → ℕ
times k [] = 0
times k (l ∷ ls) = cond (l == k) 1 0 + times k ls

times_sum : (k : ℕ) (ls : List ℕ) → times k ls ≡ sum_by (λ l. cond (l == k) 1 0) ls
unfolding times
times_sum k [] = refl
times_sum k (l ∷ ls) = ap (λ z. cond (l == k) 1 0 + z) (times_sum k ls)
    ∙ sym (sum_by-cons (λ l. cond (l == k) 1 0) l ls)

times_permuted : (k : ℕ) (ls ms : List ℕ) → IsPermutation ls ms → times k ms ≡ times k ls
times_permuted k ls ms h = times_sum k ms ∙ sum_by-IsPermutation (λ l. cond (l == k) 1 0) ls ms h ∙ sym (times_sum k ls)

-- a label is among some, or in a set
among : (b w g : Bool) (t : ℕ) → w ≡ (nat_lt 0 t || g) → (b || w) ≡ (nat_lt 0 (cond b 1 0 + t) || g)
among true w g t e = let q : nat_lt 0 (1 + t) ≡ true = grind (arith, nat_tests) in sym (ap (λ z. z || g) q)
among false w g t e = let q : 0 + t ≡ t = omega arith in e ∙ sym (ap (λ z. nat_lt 0 z || g) q)

open_by_times : (f : ℕ → Bool) (ls : List ℕ) (k : ℕ) → with_open ls f k ≡ (nat_lt 0 (times k ls) || f k)
unfolding times
open_by_times f [] k = refl
open_by_times f (l ∷ ls) k = among (l == k) (with_open ls f k) (f k) (times k ls) (open_by_times f ls k)

-- none of them is another, and none is in the set
not_among : (w g : Bool) (t : ℕ) → w ≡ (nat_lt 0 t || g) → w ≡ false → (t ≡ 0) × (g ≡ false)
not_among w g zero e h = (refl, sym e ∙ h)
not_among w g (suc t) e h =
    let q : nat_lt 0 (suc t) ≡ true = grind (arith, nat_tests) in
    absurd (let z : false ≡ true = sym h ∙ e ∙ ap (λ z. z || g) q in cc)

few_by : (b g w : Bool) (s t : ℕ) → t + cond g 1 0 ≤ 1 → (b ≡ true → (t ≡ 0) × (g ≡ false))
    → (cond b 1 0 + t) + cond g 1 0 ≤ 1
few_by false g w s t h n = omega (arith, h)
few_by true g w s t h n = let q = n refl in let e : t ≡ 0 = q.0 in
    subst (λ z. (cond true 1 0 + t) + cond z 1 0 ≤ 1) (sym q.1) (omega (arith, e))

same_if : (l k : ℕ) → (l == k) ≡ true → l ≡ k
same_if l k e = grind (arith, nat_tests)

few : (f : ℕ → Bool) (ls : List ℕ) → AreNew ls f → (k : ℕ) → times k ls + cond (f k) 1 0 ≤ 1
unfolding times
few f [] h k = start (f k)
  where
    start : (g : Bool) → 0 + cond g 1 0 ≤ 1
    start true = omega arith
    start false = omega arith
few f (l ∷ ls) h k =
    few_by (l == k) (f k) true 0 (times k ls) (few f ls h.1 k)
    (λ e. let q = same_if l k e in not_among (with_open ls f k) (f k) (times k ls) (open_by_times f ls k)
    (subst (λ z. with_open ls f z ≡ false) q h.0))

new_by : (w g : Bool) (t : ℕ) → w ≡ (nat_lt 0 t || g) → (1 + t) + cond g 1 0 ≤ 1 → w ≡ false
new_by w true t e h = absurd (omega (arith, h))
new_by w false zero e h = e
new_by w false (suc t) e h = absurd (omega (arith, h))

are_new : (f : ℕ → Bool) (ls : List ℕ) → ((k : ℕ) → times k ls + cond (f k) 1 0 ≤ 1) → AreNew ls f
unfolding times
are_new f [] h = tt
are_new f (l ∷ ls) h =
    let same : (l == l) ≡ true = grind (arith, nat_tests) in
    let own : (1 + times l ls) + cond (f l) 1 0 ≤ 1 =
    subst (λ z. (cond z 1 0 + times l ls) + cond (f l) 1 0 ≤ 1) same (h l) in (
      new_by (with_open ls f l) (f l) (times l ls) (open_by_times f ls l) own,
      are_new f ls
          (λ k. let q = h k in omega (arith, q)),
    )

-- ---- labels that wait

with_both : (ms ls : List ℕ) (f : ℕ → Bool) (k : ℕ) → with_open (ms ++ ls) f k ≡ with_open ms (with_open ls f) k
with_both [] ls f k = refl
with_both (m ∷ ms) ls f k = ap (λ z. m == k || z) (with_both ms ls f k)

new_both : (ms ls : List ℕ) (f : ℕ → Bool) → AreNew ms (with_open ls f) → AreNew ls f → AreNew (ms ++ ls) f
new_both [] ls f h g = g
new_both (m ∷ ms) ls f h g = (with_both ms ls f m ∙ h.0, new_both ms ls f h.1 g)

last_of : (ls : List ℕ) (l : ℕ) (f : ℕ → Bool) → with_open (ls ++ l ∷ []) f l ≡ true
last_of [] l f = or_left (l == l) (f l) (same_number l)
last_of (m ∷ ls) l f = or_right (m == l) (with_open (ls ++ l ∷ []) f l) (last_of ls l f)

module _ {p : Typed} {d : FunDef} {types : List TypeFacts} {homes : List Home} where
  -- in any order
  pub opened_permuted : {a b : Emitter} {n : ℕ} (ls ms : List ℕ) → Opened p d types homes a b ls n
      → IsPermutation ls ms → Opened p d types homes a b ms n
  opened_permuted {a = a} {b = b} {n = n} ls ms f h =
      let g = open_labels a in
      let same : with_open ls g ≡ with_open ms g =
      extensional (with_open ls g) (with_open ms g)
      (λ k. open_by_times g ls k ∙ ap (λ z. nat_lt 0 z || g k) (sym (times_permuted k ls ms h))
      ∙ sym (open_by_times g ms k)) in
      record {
        pending = record {
          keeps = f.pending.keeps;
          stands = f.pending.stands;
          opens = f.pending.opens ∙ same;
          are_new = are_new g ms (λ k. let q = few g ls f.pending.are_new k in
              subst (λ z. z + cond (g k) 1 0 ≤ 1) (sym (times_permuted k ls ms h)) q);
          well = f.pending.well;
        };
        scene = f.scene;
        adds = f.adds;
      }

  -- beside others
  pub opened_beside : {a b c : Emitter} {m n : ℕ} (ls ms : List ℕ) → Opened p d types homes a b ls m
      → Opened p d types homes b c ms n → Opened p d types homes a c (ms ++ ls) (m + n)
  opened_beside {a = a} {b = b} {c = c} {m = m} {n = n} ls ms f h =
      let g = open_labels a in
      record {
        pending = record {
          keeps = keeps_then a.kinds.items b.kinds.items c.kinds.items f.pending.keeps h.pending.keeps;
          stands = λ l s. h.pending.stands l (f.pending.stands l s);
          opens =
              h.pending.opens ∙ ap (λ z. with_open ms z) f.pending.opens
              ∙ extensional (with_open ms (with_open ls g)) (with_open (ms ++ ls) g) (λ k. sym (with_both ms ls g k));
          are_new = new_both ms ls g (subst (λ z. AreNew ms z) f.pending.opens h.pending.are_new) f.pending.are_new;
          well = h.pending.well;
        };
        scene = h.scene;
        adds = record {
          temps = omega (arith, f.adds.temps, h.adds.temps);
          labels =
              omega (arith, f.adds.labels, h.adds.labels);
        };
      }

  pub opened_at_most : {a b : Emitter} {ls : List ℕ} {m q : ℕ} → Opened p d types homes a b ls m → m ≤ q
      → Opened p d types homes a b ls q
  opened_at_most f l =
      record {
        pending = f.pending;
        scene = f.scene;
        adds =
            record { temps = omega (arith, f.adds.temps, l); labels = omega (arith, f.adds.labels, l) };
      }

  -- the last of them is open
  pub open_last : {a b : Emitter} {n : ℕ} (ls : List ℕ) (l : ℕ) → Opened p d types homes a b (ls ++ l ∷ []) n
      → IsOpen b l
  open_last {a = a} ls l f = record { is = ap (λ z. z l) f.pending.opens ∙ last_of ls l (open_labels a) }

  -- code that names no part of the program is added
  pub opened_grown : {a b c : Emitter} {ls : List ℕ} {n : ℕ} → Opened p d types homes a b ls n → Grown b c
      → Adds b c 0 0 → Opened p d types homes a c ls n
  opened_grown {a = a} {b = b} {c = c} {ls = ls} {n = n} f g h =
      opened_at_most
      (scening.opened_then p d types homes a b c ls n 0 f
      (scening.grown_lowered p d types homes b c 0 0 0 f.scene g h (omega arith) (omega arith))) (omega arith)

  pub opened_label : {a b c : Emitter} {ls : List ℕ} {l n : ℕ} → Opened p d types homes a b ls n → Labelled b c l
      → Opened p d types homes a c (l ∷ ls) (n + 1)
  opened_label {a = a} {b = b} {c = c} {ls = ls} {l = l} {n = n} f h =
      scening.opened_more p d types homes a b c ls l n f h

  -- what is open stays so where a label is made
  pub open_beside : {a b : Emitter} {k l : ℕ} → Scene p d types homes a → IsOpen a k → Labelled a b l → IsOpen b k
  open_beside {a = a} {b = b} {k = k} {l = l} s o h =
      labels.pending_others p d a b k (l ∷ []) (scening.label_made p d types homes a b l s h).pending o

  pub open_here : {a b : Emitter} {l : ℕ} → Scene p d types homes a → Labelled a b l → IsOpen b l
  open_here {a = a} {b = b} {l = l} s h =
      scening.fork_end p d types homes a b [] l 1 (scening.label_made p d types homes a b l s h)

pub open_grown : {a b : Emitter} {l : ℕ} → IsOpen a l → Grown a b → IsOpen b l
open_grown {l = l} o g = record { is = ap (λ z. z l) g.opens ∙ o.is }

-- ---- the labels of a `switch` stand one after another

drop_at : (ls : List ℕ) (i l : ℕ) → slice_get ls i ≡ Some l → drop i ls ≡ l ∷ drop (i + 1) ls
drop_at [] i l e = absurd cc
drop_at (x ∷ ls) zero l e = let q : x ≡ l = cc in ap (λ z. z ∷ ls) q
drop_at (x ∷ ls) (suc i) l e = let q : suc (i + 1) ≡ suc i + 1 = omega arith in drop_at ls i l e
    ∙ ap (λ z. l ∷ drop z (x ∷ ls)) q

drop_past : (ls : List ℕ) (i : ℕ) → length ls ≤ i → drop i ls ≡ []
drop_past [] zero h = refl
drop_past [] (suc i) h = refl
drop_past (x ∷ ls) zero h = absurd (omega arith)
drop_past (x ∷ ls) (suc i) h = drop_past ls i (omega arith)

label_at : (cs : List Case) (i : ℕ) (c : Case) → slice_get cs i ≡ Some c → slice_get (labels_of cs) i ≡ Some c.label
label_at [] i c e = absurd cc
label_at (x ∷ cs) zero c e = let q : x ≡ c = cc in ap (λ (z : Case). Some z.label) q
label_at (x ∷ cs) (suc i) c e = label_at cs i c e

labels_length : (cs : List Case) → length (labels_of cs) ≡ length cs
labels_length [] = refl
labels_length (c ∷ cs) = ap suc (labels_length cs)

pub stand_none : (ls : List ℕ) (i : ℕ) (a : Emitter) → StandUpTo ls i i a a
stand_none ls i a = record { opened = λ p d types homes o ks n f. f }

pub stand_more : (cs : List Case) (first i : ℕ) (a b e : Emitter) (c : Case) → StandUpTo (labels_of cs) first i a b
    → slice_get cs i ≡ Some c → Pushed b e (instr.Label c.label) → StandUpTo (labels_of cs) first (i + 1) a e
stand_more cs first i a b e c h there push = record {
  opened = λ p d types homes o ks n f.
      scening.opened_stands p d types homes o b e (drop (i + 1) (labels_of cs) ++ ks) c.label n
      (subst (λ z. Opened p d types homes o b (z ++ ks) n)
      (drop_at (labels_of cs) i c.label (label_at cs i c there)) (h.opened p d types homes o ks n f)) push;
}

-- past the last one, all of them do
pub stand_all : (cs : List Case) (first i : ℕ) (a b : Emitter) → StandUpTo (labels_of cs) first i a b
    → length cs ≤ i → StandUpTo (labels_of cs) first (length cs) a b
stand_all cs first i a b h le = record {
  opened = λ p d types homes o ks n f.
      let n1 = labels_length cs in
      subst (λ z. Opened p d types homes o b (z ++ ks) n) (drop_past (labels_of cs) i (omega arith)
      ∙ sym (drop_past (labels_of cs) (length cs) (omega arith)))
      (h.opened p d types homes o ks n f);
}

pub items_end : (cs : List Case) (i : ℕ) → None ≡ slice_get cs i → length cs ≤ i
items_end [] i e = omega arith
items_end (c ∷ cs) zero e = absurd cc
items_end (c ∷ cs) (suc i) e = let q = items_end cs i e in omega arith

pub none_behind : (cs : List Case) → drop (length cs) (labels_of cs) ≡ []
none_behind cs = let n = labels_length cs in drop_past (labels_of cs) (length cs) (omega arith)

-- one more label
pub labels_pushed : (cs : List Case) (c : Case) → labels_of (cs ++ c ∷ []) ≡ labels_of cs ++ c.label ∷ []
labels_pushed [] c = refl
labels_pushed (x ∷ cs) c = ap (λ z. x.label ∷ z) (labels_pushed cs c)

pub switched_kept : (a b : Emitter) (s : Switched) → Keeps a.kinds.items b.kinds.items → IsSwitched a s → IsSwitched b s
switched_kept a b s g h = record {
  temp = record { there = g.kept s.temp s.kind h.temp.there };
  value = record { there = g.kept s.value s.kind h.value.there };
  answer = record { there = g.kept s.answer (kinds.Int int.I32) h.answer.there };
}
