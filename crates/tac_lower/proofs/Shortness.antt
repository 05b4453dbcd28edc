-- A function's code has few instructions: each of them takes a word, but for labels, of which each stands once, and for
-- turns, behind each of which a jump stands.
use Rattle.std.proofs.Common.{◌≡◌, ℕ, suc, ◌+◌, ◌*◌, ◌<◌, ◌≤◌, Bool, true, false, not, eqb, List, [], ◌∷◌, ◌++◌, length}
use Rattle.std.proofs.Common.{◌⊎◌, inl, inr, ⊎_elim, Option, refl, sym, ap, ◌∙◌, subst, arith}
use Rattle.std.specs.Prelude.{◌^◌, ◌==◌, ◌&&◌, ◌||◌, if◌then◌else◌}
use Rattle.std.specs.List.{sum_by, IsDistinct, AllByRecursion, list_any}
use Rattle.std.proofs.lemmas.Bool.Decides.{nat_tests}
use Rattle.std.proofs.lemmas.List.Sums.{sum_by-cons}
use Rattle.std.proofs.lemmas.Map.Keys.{IsDistinct-cons}
use Rattle.std.proofs.lemmas.Map.Steps.{length-le_from_distinct_below}
use Rattle.ck_int.specs.declared.kinds.IntKind.{IntKind}
use Rattle.ck_int.specs.declared.kinds.IntKind.TheVariants as int
use Rattle.tac_ir.specs.Costs.{cost, operation_cost, conversion_cost, load_cost, service_cost, is_wide}
use Rattle.tac_ir.specs.Meaning.{is_label}
use Rattle.tac_ir.specs.WellFormed.{has_label, label_is_new, labels_differ, is_turn, turn_fits, turns_fit}
use Rattle.tac_ir.specs.declared.code.LibOp.{LibOp}
use Rattle.tac_ir.specs.declared.code.LibOp.TheVariants as lib
use Rattle.tac_ir.specs.declared.code.TacInstr.{TacInstr}
use Rattle.tac_ir.specs.declared.code.TacInstr.TheVariants as instr
use Rattle.tac_ir.specs.declared.code.TacKind.{TacKind}
use Rattle.tac_ir.specs.declared.code.TacKind.TheVariants as kind
use Rattle.c_tree.specs.TreeWeight.{function_limit}
use Rattle.c_tree.specs.declared.typed.FunDef.{FunDef}
use Rattle.tac_ir.specs.Within.{FunctionCosts}
use Rattle.tac_ir.specs.declared.code.TacFun.{TacFun}
use Rattle.tac_emit.specs.declared.emitter.Emitter.{Emitter}
use Rattle.tac_emit.specs.Emitted.{Pushed, Stands}
use Rattle.tac_lower.specs.Functions.{Makes}
use Rattle.tac_emit.proofs.Wells.{and_both, pushed_has}

-- ---- the labels of code

abbrev label_list : TacInstr → List ℕ
label_list (instr.Label l) = l ∷ []
label_list i = []

abbrev labels_of : List TacInstr → List ℕ
labels_of [] = []
labels_of (i ∷ is) = label_list i ++ labels_of is

abbrev bit : Bool → ℕ
bit b = if b then 1 else 0

-- ---- each instruction that is no label takes a word, or it is a turn

record Takes (i : TacInstr) : Type 0 where
  none : label_list i ≡ []
  never : (q : ℕ) → is_label i q ≡ false
  new : (is : List TacInstr) → label_is_new i is ≡ true
  costs : (b : Bool) (is : List TacInstr) → turn_fits b i is ≡ true → 1 + bit b ≤ 2 * cost i + bit (is_turn i)

some : (b : Bool) (m n : ℕ) → 0 < m → 0 < n → 0 < (if b then m else n)
some true m n h j = h
some false m n h j = j

operation_some : (k : IntKind) → 0 < operation_cost k
operation_some int.Bool = omega arith
operation_some int.I8 = omega arith
operation_some int.U8 = omega arith
operation_some int.I16 = omega arith
operation_some int.U16 = omega arith
operation_some int.I32 = omega arith
operation_some int.U32 = omega arith
operation_some int.I64 = omega arith
operation_some int.U64 = omega arith

conversion_some : (j k : TacKind) → 0 < conversion_cost j k
conversion_some (kind.Int j) (kind.Int k) = some (is_wide j && is_wide k) 11 8 (omega arith) (omega arith)
conversion_some (kind.Cap s) (kind.Int k) = some (is_wide k) 7 8 (omega arith) (omega arith)
conversion_some (kind.Int j) (kind.Cap s) = omega arith
conversion_some (kind.Cap j) (kind.Cap s) = omega arith

load_some : (k : TacKind) → 0 < load_cost k
load_some (kind.Cap s) = omega arith
load_some (kind.Int int.Bool) = omega arith
load_some (kind.Int int.I8) = omega arith
load_some (kind.Int int.U8) = omega arith
load_some (kind.Int int.I16) = omega arith
load_some (kind.Int int.U16) = omega arith
load_some (kind.Int int.I32) = omega arith
load_some (kind.Int int.U32) = omega arith
load_some (kind.Int int.I64) = omega arith
load_some (kind.Int int.U64) = omega arith

service_some : (op : LibOp) → 0 < service_cost op
service_some lib.PutChar = omega arith
service_some lib.GetChar = omega arith
service_some lib.Malloc = omega arith
service_some lib.Exit = omega arith

-- no turn stands before it
alone : (n : ℕ) → 0 < n → (b : Bool) → not b ≡ true → 1 + bit b ≤ 2 * n + 0
alone n h true e = absurd cc
alone n h false e = omega arith

-- a turn may stand before it
behind : (n : ℕ) → 0 < n → (b : Bool) → 1 + bit b ≤ 2 * n + 0
behind n h true = omega arith
behind n h false = omega arith

turn_alone : (b : Bool) → not b ≡ true → 1 + bit b ≤ 2 * 0 + 1
turn_alone true e = absurd cc
turn_alone false e = omega arith

abbrev Viewed : TacInstr → Type 0
Viewed i = ((l : ℕ) × (i ≡ instr.Label l)) ⊎ Takes i

word : {i : TacInstr} → 0 < cost i → label_list i ≡ [] → ((q : ℕ) → is_label i q ≡ false) →
    ((is : List TacInstr) → label_is_new i is ≡ true) → is_turn i ≡ false →
    ((b : Bool) (is : List TacInstr) → turn_fits b i is ≡ not b) → Viewed i
word {i = i} h none never new turn fits = inr (record {
  none = none;
  never = never;
  new = new;
  costs = λ b is e.
      subst (λ z. 1 + bit b ≤ 2 * cost i + bit z) (sym turn) (alone (cost i) h b (sym (fits b is) ∙ e));
})

view : (i : TacInstr) → Viewed i
view (instr.Label l) = inl (l, refl)
view (instr.Const to k v) = word (omega arith) refl (λ q. refl) (λ is. refl) refl (λ b is. refl)
view (instr.Copy to from) = word (omega arith) refl (λ q. refl) (λ is. refl) refl (λ b is. refl)
view (instr.Int op k to a b) = word (operation_some k) refl (λ q. refl) (λ is. refl) refl (λ b is. refl)
view (instr.Cmp op k to a b) = word (omega arith) refl (λ q. refl) (λ is. refl) refl (λ b is. refl)
view (instr.Convert to from old new) = word (conversion_some old new) refl (λ q. refl) (λ is. refl) refl (λ b is. refl)
view (instr.Cap op to a b) = word (omega arith) refl (λ q. refl) (λ is. refl) refl (λ b is. refl)
view (instr.Offset to base by) = word (omega arith) refl (λ q. refl) (λ is. refl) refl (λ b is. refl)
view (instr.Narrow to base length exact) = word (omega arith) refl (λ q. refl) (λ is. refl) refl (λ b is. refl)
view (instr.Load to from k pos) = word (load_some k) refl (λ q. refl) (λ is. refl) refl (λ b is. refl)
view (instr.Store at v k pos) = word (omega arith) refl (λ q. refl) (λ is. refl) refl (λ b is. refl)
view (instr.Local to var) = word (omega arith) refl (λ q. refl) (λ is. refl) refl (λ b is. refl)
view (instr.Global to number literal) = word (omega arith) refl (λ q. refl) (λ is. refl) refl (λ b is. refl)
view (instr.Function to fun) = word (omega arith) refl (λ q. refl) (λ is. refl) refl (λ b is. refl)
view (instr.Zero var) = word (omega arith) refl (λ q. refl) (λ is. refl) refl (λ b is. refl)
view (instr.CopyUnits from to bytes unit from_pos to_pos) =
    word (omega arith) refl (λ q. refl) (λ is. refl) refl (λ b is. refl)
view (instr.Jump l) = inr (record {
  none = refl;
  never = λ q. refl;
  new = λ is. refl;
  costs = λ b is e. behind (cost (instr.Jump l)) (omega arith) b;
})
view (instr.Branch on when l) = inr (record {
  none = refl;
  never = λ q. refl;
  new = λ is. refl;
  costs = λ b is e. behind (cost (instr.Branch on when l)) (omega arith) b;
})
view (instr.Call to fun args) = word (omega arith) refl (λ q. refl) (λ is. refl) refl (λ b is. refl)
view (instr.CallValue to v of args pos) = word (omega arith) refl (λ q. refl) (λ is. refl) refl (λ b is. refl)
view (instr.Lib op to args) = word (service_some op) refl (λ q. refl) (λ is. refl) refl (λ b is. refl)
view instr.Turn = inr (record {
  none = refl;
  never = λ q. refl;
  new = λ is. refl;
  costs = λ b is e. turn_alone b e;
})
view (instr.Return v) = word (omega arith) refl (λ q. refl) (λ is. refl) refl (λ b is. refl)

-- ---- no more labels than were made

no_either : (a b : Bool) → (a || b) ≡ false → (a ≡ false) × (b ≡ false)
no_either true b e = absurd cc
no_either false b e = (refl, e)

same_test : (k l : ℕ) → (k == l) ≡ eqb l k
same_test k l = grind (arith, nat_tests)

any_label : (is : List TacInstr) (q : ℕ) → list_any (eqb q) (labels_of is) ≡ has_label is q
any_label [] q = refl
any_label (i ∷ is) q = ⊎_elim
    (λ (h : (l : ℕ) × (i ≡ instr.Label l)). subst
    (λ z. list_any (eqb q) (label_list z ++ labels_of is) ≡ (is_label z q || has_label is q)) (sym h.1)
    (rw (same_test h.0 q, any_label is q) refl))
    (λ (h : Takes i). rw (h.none, h.never q) (any_label is q)) (view i)

apart : (k : ℕ) (ks : List ℕ) → list_any (eqb k) ks ≡ false → AllByRecursion (λ y. eqb k y ≡ false) ks
apart k [] f = tt
apart k (j ∷ ks) f = let e = no_either (eqb k j) (list_any (eqb k) ks) f in (e.0, apart k ks e.1)

not_false : (b : Bool) → not b ≡ true → b ≡ false
not_false true e = absurd cc
not_false false e = refl

distinct : (is : List TacInstr) → labels_differ is ≡ true → IsDistinct eqb (labels_of is)
unfolding IsDistinct
distinct [] e = tt
distinct (i ∷ is) e =
    let both = and_both (label_is_new i is) (labels_differ is) e in
    ⊎_elim
    (λ (h : (l : ℕ) × (i ≡ instr.Label l)).
    let new : not (has_label is h.0) ≡ true = subst (λ z. label_is_new z is ≡ true) h.1 both.0 in
    subst (λ z. IsDistinct eqb (label_list z ++ labels_of is)) (sym h.1)
    (IsDistinct-cons eqb h.0 (labels_of is)
    (apart h.0 (labels_of is) (any_label is h.0 ∙ not_false (has_label is h.0) new)) (distinct is both.1)))
    (λ (h : Takes i). subst (λ z. IsDistinct eqb (z ++ labels_of is)) (sym h.none) (distinct is both.1)) (view i)

few_labels : (is : List TacInstr) (n : ℕ) → labels_differ is ≡ true → ((l : ℕ) → has_label is l ≡ true → l < n) →
    length (labels_of is) ≤ n
few_labels is n differ made =
    length-le_from_distinct_below (labels_of is) n (distinct is differ) (λ q e. made q (sym (any_label is q) ∙ e))

-- ---- no more instructions than twice the words, and the labels

counted : (b : Bool) (is : List TacInstr) → turns_fit b is ≡ true →
    length is + bit b ≤ 2 * sum_by cost is + length (labels_of is)
counted true [] e = absurd cc
counted false [] e = omega arith
counted b (i ∷ is) e =
    let both = and_both (turn_fits b i is) (turns_fit (is_turn i) is) e in
    let more : length is + bit (is_turn i) ≤ 2 * sum_by cost is + length (labels_of is) =
    counted (is_turn i) is both.1 in
    ⊎_elim
    (λ (h : (l : ℕ) × (i ≡ instr.Label l)). labelled h both.0 more)
    (λ (h : Takes i). let one : 1 + bit b ≤ 2 * cost i + bit (is_turn i) = h.costs b is both.0 in
    let none : length (labels_of (i ∷ is)) ≡ length (labels_of is) = ap (λ z. length (z ++ labels_of is)) h.none in
    let words : sum_by cost (i ∷ is) ≡ cost i + sum_by cost is = sum_by-cons cost i is in
    let all : length (i ∷ is) ≡ suc (length is) = refl in
    omega (arith, one, none, words, all, more)) (view i)
  where
    labelled : (h : (l : ℕ) × (i ≡ instr.Label l)) → turn_fits b i is ≡ true →
        length is + bit (is_turn i) ≤ 2 * sum_by cost is + length (labels_of is) →
        length (i ∷ is) + bit b ≤ 2 * sum_by cost (i ∷ is) + length (labels_of (i ∷ is))
    labelled (l, q) f m = subst
        (λ z. length (z ∷ is) + bit b ≤ 2 * sum_by cost (z ∷ is) + length (labels_of (z ∷ is))) (sym q)
        (at b (subst (λ z. turn_fits b z is ≡ true) q f) (subst (λ z. length is + bit (is_turn z) ≤
        2 * sum_by cost is + length (labels_of is)) q m))
      where
        at : (c : Bool) → not c ≡ true → length is + 0 ≤ 2 * sum_by cost is + length (labels_of is) →
            length (instr.Label l ∷ is) + bit c
            ≤ 2 * sum_by cost (instr.Label l ∷ is) + length (labels_of (instr.Label l ∷ is))
        at true g m = absurd cc
        at false g m =
            let one : length (instr.Label l ∷ is) ≡ suc (length is) = refl in
            let none : sum_by cost (instr.Label l ∷ is) ≡ 0 + sum_by cost is = sum_by-cons cost (instr.Label l) is in
            let more : length (labels_of (instr.Label l ∷ is)) ≡ suc (length (labels_of is)) = refl in
            omega (arith, one, none, more, m)

pub few_instructions : (is : List TacInstr) (n : ℕ) → labels_differ is ≡ true → turns_fit false is ≡ true →
    ((l : ℕ) → has_label is l ≡ true → l < n) → length is ≤ 2 * sum_by cost is + n
few_instructions is n differ turns made =
    let few = few_labels is n differ made in
    let all : length is + 0 ≤ 2 * sum_by cost is + length (labels_of is) = counted false is turns in
    omega arith

-- ---- the code of a function

no_more : (a : Bool) → (a || (false || false)) ≡ true → a ≡ true
no_more true e = refl
no_more false e = absurd cc

-- behind a Return no other label stands
pub made_returned : (a b : Emitter) (v : Option ℕ) → ((l : ℕ) → Stands a l → l < a.labels) →
    Pushed a b (instr.Return v) → (l : ℕ) → Stands b l → l < b.labels
made_returned a b v made h l s = subst (λ z. l < z) (sym h.labels)
    (made l (record { is = no_more (has_label a.code.items l) (sym (pushed_has a b (instr.Return v) h l) ∙ s.is) }))

-- its instructions are counted in 32 bits
pub short_code : {d : FunDef} {e : Emitter} {f : TacFun} (w : ℕ) → w ≤ function_limit → Makes d e f →
    FunctionCosts w f → labels_differ e.code.items ≡ true → turns_fit false e.code.items ≡ true →
    ((l : ℕ) → Stands e l → l < e.labels) → e.labels < 2 ^ 31 → length f.code < 2 ^ 32
short_code {e = e} {f = f} w light m costs differ turns made few =
    let all : length e.code.items ≤ 2 * sum_by cost e.code.items + e.labels =
    few_instructions e.code.items e.labels differ turns (λ l q. made l (record { is = q })) in
    omega (arith, costs.cost, ap length m.code, ap (sum_by cost) m.code)
