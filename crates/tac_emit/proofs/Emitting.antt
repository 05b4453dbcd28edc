-- The code of an operation is added: instruction by instruction, and code behind code.
use Rattle.std.proofs.Common.{◌≡◌, ℕ, ◌+◌, ◌≤◌, Bool, true, false, List, [], ◌∷◌, ◌++◌, length, refl, sym, ap, ◌∙◌}
use Rattle.std.proofs.Common.{subst, arith, append_assoc, length-append, if◌then◌else◌}
use Rattle.std.proofs.lemmas.List.{append-nil}
use Rattle.std.proofs.lemmas.Option.{get_or_from_slice_get}
use Rattle.ck_int.specs.declared.kinds.IntKind.{IntKind}
use Rattle.ck_int.specs.declared.kinds.IntKind.TheVariants as int
use Rattle.ck_int.specs.declared.kinds.IntOp.{IntOp}
use Rattle.cheri_c_sem.specs.Types.{is_shift}
use Rattle.tac_ir.specs.Effects.{kind_of, kind_at}
use Rattle.tac_ir.specs.WellFormed.{is_int}
use Rattle.cap_concentrate.specs.Rounding.{owned}
use Rattle.c_tree.specs.Layout.{size_limit}
use Rattle.tac_ir.specs.declared.code.Amount.TheVariants as amount
use Rattle.tac_ir.specs.declared.code.TacInstr.{TacInstr}
use Rattle.tac_ir.specs.declared.code.TacInstr.TheVariants as instr
use Rattle.tac_ir.specs.declared.code.TacKind.{TacKind}
use Rattle.tac_ir.specs.declared.code.TacKind.TheVariants as kind
use Rattle.tac_emit.specs.declared.emitter.Emitter.{Emitter}
use Rattle.tac_emit.specs.Emitted.{Keeps, HasKind, CountFits, is_capability, Pushed, Made, Entered}
use Rattle.lower_runs.specs.Operating.{Code, AreInts}
use Rattle.tac_emit.specs.Adding.{Added, Emits, NarrowsTo, none, one}
use Rattle.tac_emit.proofs.Wells.{keeps_same, keeps_then, keeps_more, pushed_rest}

-- ---- one instruction

-- it has no right operand
abbrev pub is_simple : TacInstr → Bool
is_simple (instr.Int op k to a b) = false
is_simple i = true

simple_ints : (i : TacInstr) (kinds : List TacKind) → is_simple i ≡ true → AreInts kinds (i ∷ [])
simple_ints (instr.Int op k to a b) kinds h = absurd cc
simple_ints i kinds h = tt

pushed_emits : (a b : Emitter) (i : TacInstr)
    → ((kinds : List TacKind) → Keeps a.kinds.items kinds → AreInts kinds (i ∷ [])) → Pushed a b i →
    Emits a b 0 (one i)
pushed_emits a b i ints h = record {
  added = record { is = pushed_rest a b i h };
  temps = omega (arith, ap length h.kinds);
  labels = h.labels;
  keeps = keeps_same a.kinds.items b.kinds.items h.kinds;
  ints = λ kinds k. ints kinds (keeps_then a.kinds.items b.kinds.items kinds
      (keeps_same a.kinds.items b.kinds.items h.kinds) k);
}

pub one_emits : (a b : Emitter) (i : TacInstr) → is_simple i ≡ true → Pushed a b i → Emits a b 0 (one i)
one_emits a b i s h = pushed_emits a b i (λ kinds k. simple_ints i kinds s) h

int_by : (k : TacKind) → is_capability k ≡ false → is_int (kind_of k) ≡ true
int_by (kind.Int k) h = refl
int_by (kind.Cap s) h = absurd cc

pub kind_in_end : (a : Emitter) (t : ℕ) (k : TacKind) → HasKind a t k → (kinds : List TacKind) →
    Keeps a.kinds.items kinds → kind_at kinds t ≡ kind_of k
kind_in_end a t k h kinds keeps =
    ap kind_of (get_or_from_slice_get kinds t k (kind.Int int.I32) (keeps.kept t k h.there))

count_is_int : (a : Emitter) (shift : Bool) (k : IntKind) (t : ℕ) → CountFits a shift k t → (kinds : List TacKind) →
    Keeps a.kinds.items kinds → is_int (kind_at kinds t) ≡ true
count_is_int a true k t h kinds keeps =
    ap is_int (kind_in_end a t h.kind h.has kinds keeps) ∙ int_by h.kind h.is
count_is_int a false k t h kinds keeps = ap is_int (kind_in_end a t (kind.Int k) h kinds keeps)

pub int_emits : (a b : Emitter) (op : IntOp) (k : IntKind) (to x y : ℕ) → CountFits a (is_shift op) k y →
    Pushed a b (instr.Int op k to x y) → Emits a b 0 (one (instr.Int op k to x y))
int_emits a b op k to x y f h =
    pushed_emits a b (instr.Int op k to x y) (λ kinds keeps. (count_is_int a (is_shift op) k y f kinds keeps, tt)) h

pub made_emits : (a b : Emitter) (k : TacKind) → Made a b k → Emits a b 1 none
made_emits a b k h = record {
  added = record { is = λ rest. ap (λ z. z ++ rest) h.code };
  temps = omega (arith, ap length h.kinds, length-append a.kinds.items (k ∷ []));
  labels = h.labels;
  keeps = subst (λ z. Keeps a.kinds.items z) (sym h.kinds) (keeps_more a.kinds.items k);
  ints = λ kinds keeps. tt;
}

-- ---- no instruction, and code behind code

pub none_emits : (a : Emitter) → Emits a a 0 none
none_emits a = record {
  added = record { is = λ rest. refl };
  temps = omega arith;
  labels = refl;
  keeps = keeps_same a.kinds.items a.kinds.items refl;
  ints = λ kinds keeps. tt;
}

ints_append : (kinds : List TacKind) (is js : List TacInstr) → AreInts kinds is → AreInts kinds js →
    AreInts kinds (is ++ js)
ints_append kinds [] js h g = g
ints_append kinds (instr.Int op k to a b ∷ is) js h g = (h.0, ints_append kinds is js h.1 g)
ints_append kinds (i ∷ is) js h g = ints_append kinds is js h g

front_is : (xs ys zs : List TacInstr) → xs ++ ys ≡ xs ++ zs → ys ≡ zs
front_is [] ys zs h = h
front_is (x ∷ xs) ys zs h = front_is xs ys zs cc

-- the code is the same instructions, whatever follows
pub fixed_code : {a b : Emitter} {c : Code} → Added a b c → (rest : List TacInstr) → c rest ≡ c [] ++ rest
fixed_code {a = a} {b = b} {c = c} h rest =
    let e : a.code.items ++ c rest ≡ a.code.items ++ (c [] ++ rest) =
    sym (h.is rest) ∙ (ap (λ z. z ++ rest) (sym (append-nil b.code.items) ∙ h.is [])
    ∙ append_assoc a.code.items (c []) rest) in front_is a.code.items (c rest) (c [] ++ rest) e

pub added_then : {a b e : Emitter} {c d : Code} → Added a b c → Added b e d → Added a e (λ r. c (d r))
added_then {d = d} f g = record { is = λ rest. g.is rest ∙ f.is (d rest) }

pub emits_then : {a b e : Emitter} {m n : ℕ} {c d : Code} → Emits a b m c → Emits b e n d →
    Emits a e (m + n) (λ r. c (d r))
emits_then {a = a} {b = b} {e = e} {c = c} {d = d} f g = record {
  added = added_then f.added g.added;
  temps = omega (arith, f.temps, g.temps);
  labels = g.labels ∙ f.labels;
  keeps = keeps_then a.kinds.items b.kinds.items e.kinds.items f.keeps g.keeps;
  ints = λ kinds keeps. subst (λ z. AreInts kinds z) (sym (fixed_code f.added (d [])))
      (ints_append kinds (c []) (d [])
      (f.ints kinds (keeps_then b.kinds.items e.kinds.items kinds g.keeps keeps)) (g.ints kinds keeps));
}

-- ---- the next temp, and one of two codes

pub at_next : {a b : Emitter} {n t : ℕ} (code : ℕ → Code) → t ≡ length a.kinds.items → Emits a b n (code t) →
    Emits a b n (code (length a.kinds.items))
at_next {a = a} {b = b} {n = n} code e h = subst (λ z. Emits a b n (code z)) e h

-- ---- the same, by other words

pub emits_count : {a b : Emitter} {m n : ℕ} {c : Code} → m ≡ n → Emits a b m c → Emits a b n c
emits_count {a = a} {b = b} {c = c} e h = subst (λ z. Emits a b z c) e h

pub emits_code : {a b : Emitter} {n : ℕ} {c d : Code} → ((r : List TacInstr) → c r ≡ d r) → Emits a b n c →
    Emits a b n d
emits_code {a = a} {b = b} {n = n} {c = c} {d = d} e h =
    let same : c ≡ d = λ i r. e r i in subst (λ z. Emits a b n z) same h

-- an instruction behind code
pub emits_and : {a b e : Emitter} {n : ℕ} {c d : Code} → Emits a b n c → Emits b e 0 d → Emits a e n (λ r. c (d r))
emits_and f g = emits_count (omega arith) (emits_then f g)

pub then_code : (x : Bool) {a b : Emitter} {n : ℕ} {c : Code} (d : Code) → x ≡ true → Emits a b n c →
    Emits a b n (λ r. if x then c r else d r)
then_code true d h f = f
then_code false d h f = absurd cc

pub else_code : (x : Bool) {a b : Emitter} {n : ℕ} (c : Code) {d : Code} → x ≡ false → Emits a b n d →
    Emits a b n (λ r. if x then c r else d r)
else_code true c h f = absurd cc
else_code false c h f = f

-- a jump, and a label
pub turn_emits : (a b e : Emitter) (l m : ℕ) → Emits a b 0 (one (instr.Jump m)) → Pushed b e (instr.Label l) →
    Emits a e 0 (λ r. instr.Jump m ∷ instr.Label l ∷ r)
turn_emits a b e l m f h = emits_then f (one_emits b e (instr.Label l) refl h)

-- a turn, and a jump back
pub back_emits : (a b e : Emitter) (l : ℕ) → Pushed a b instr.Turn → Pushed b e (instr.Jump l) →
    Emits a e 0 (λ r. instr.Turn ∷ instr.Jump l ∷ r)
back_emits a b e l f h = emits_then (one_emits a b instr.Turn refl f) (one_emits b e (instr.Jump l) refl h)

-- an object is entered
pub entered_emits : {a b : Emitter} {to v : ℕ} → Entered a b to v →
    Emits a b 0 (λ r. instr.Zero v ∷ instr.Local to v ∷ r)
entered_emits h = emits_then (one_emits _ _ _ refl h.zero) (one_emits _ _ _ refl h.points)

-- a pointer to a member is narrowed
pub narrows_to : (a b : Emitter) (to size n : ℕ) → (size ≤ size_limit → n ≡ owned size) →
    Emits a b 0 (one (instr.Narrow to to (amount.Number n) true)) → NarrowsTo a b to size
narrows_to a b to size n e h = record { length = n; owns = e; emits = h }
