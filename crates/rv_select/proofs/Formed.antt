-- What is appended for most instructions has their form.
use Rattle.std.proofs.Common.{◌≡◌, ℕ, ℤ, ◌*◌, ◌^◌, ◌<◌, List, [], ◌∷◌, ◌++◌, refl, ap, subst, sym, arith}
use Rattle.std.specs.Prelude.{Result, Ok, Err, IfOk, Option, Some, slice_get}
use Rattle.rv_instr.specs.declared.instr.Instr.{Instr}
use Rattle.rv_instr.specs.declared.ops.CapGetOp.{CapGetOp}
use Rattle.rv_instr.specs.declared.ops.CapRegOp.{CapRegOp}
use Rattle.select_words.specs.Selecting.{Selecting}
use Rattle.select_words.specs.Emitted.{Operand, Target, Keep}
use Rattle.purecap_abi.specs.Words.{load_code}
use Rattle.tac_ir.specs.Temps.{in_option}
use Rattle.tac_ir.specs.declared.code.Amount.{Amount}
use Rattle.tac_ir.specs.declared.code.Amount.TheVariants as amount
use Rattle.select_words.specs.Forms.{Makes, OfOne, OfTwo, Amounts, Temps, Numbers}
use Rattle.select_words.specs.Words.{Bring}
use Rattle.select_words.specs.Services.{Argument, KeepSome}
use Rattle.select_words.specs.Capabilities as capabilities
use Rattle.select_words.specs.Capabilities.{OneOfOne, OneOfTwo, Seconds, IntrinsicWords, Entry, EntryWords}
use Rattle.select_words.specs.Capabilities.{Advance, Offsets, Near, NearTemp}
use Rattle.cap_machine.specs.Integers.{extended}
use Rattle.rv_select.specs.declared.memory.Intrinsic.TheVariants as intrinsic
use Rattle.rv_select.specs.Work.{IsOfForm, IsAmount}
use Rattle.rv_select.specs.declared.function.Function.{Function}
use Rattle.rv_select.specs.Choosing.{chosen, Chooses, ChoosesFirst}
use Rattle.rv_emit.specs.Growing.{Size, Puts, IsLongNumber, reach}
use Rattle.rv_emit.proofs.Appended.{puts_then, puts_map, puts_all}

pub if_ok : {T E : Type 0} (r : Result T E) (P Q : T → Type 0) → IfOk r P → ((x : T) → P x → Q x) → IfOk r Q
if_ok (Ok x) P Q p f = f x p
if_ok (Err e) P Q p f = p

module _ (s : Selecting) (to : ℕ) where
  pub makes_of : (Work : (r : ℕ) → List Instr → Type 0) (old mid new : Size) (r : ℕ) → Target s to r
      → Puts (Work r) old mid → Puts (Keep s to r) mid new → Puts (Makes s to Work) old new
  makes_of Work old mid new r t w k = puts_then (Work r) (Keep s to r) (Makes s to Work) old mid new w k
      (λ ws ks v h. record { r = r; target = t; work = ws; works = v; keep = ks; kept = h; are = refl })

  pub of_one : (from : ℕ) (Work : (r a : ℕ) → List Instr → Type 0) (old found mid new : Size) (r a left : ℕ)
      → left ≡ 28 → Target s to r → Puts (λ ws. Operand s from left ws a) old found → Puts (Work r a) found mid
      → Puts (Keep s to r) mid new → Puts (OfOne s to from Work) old new
  of_one from Work old found mid new r a left e t o w k =
      puts_then (λ ws. Operand s from left ws a) (Makes s to (λ q. Work q a)) (OfOne s to from Work) old found new o
      (makes_of (λ q. Work q a) found mid new r t w k)
      (λ fs ms f m. record {
        a = a;
        finds = fs;
        found = subst (λ y. Operand s from y fs a) e f;
        then_on = ms;
        makes = m;
        are = refl;
      })

  pub of_two : (from : ℕ) (Second : List Instr → ℕ → Type 0) (Work : (r a b : ℕ) → List Instr → Type 0)
      (old found second mid new : Size) (r a b left : ℕ) → left ≡ 28 → Target s to r
      → Puts (λ ws. Operand s from left ws a) old found → Puts (λ ws. Second ws b) found second
      → Puts (Work r a b) second mid → Puts (Keep s to r) mid new → Puts (OfTwo s to from Second Work) old new
  of_two from Second Work old found second mid new r a b left e t o n w k =
      puts_then (λ ws. Operand s from left ws a) (λ ws. Then ws) (OfTwo s to from Second Work) old found new o
      (puts_then (λ ws. Second ws b) (Makes s to (λ q. Work q a b)) (λ ws. Then ws) found second new n
      (makes_of (λ q. Work q a b) second mid new r t w k) (λ ss ms g m. (ss, ms, g, m, refl)))
      (λ fs ts f then. record {
        a = a;
        b = b;
        finds = fs;
        found = subst (λ y. Operand s from y fs a) e f;
        others = then.0;
        second = then.2;
        then_on = then.1;
        makes = then.3;
        are = ap (λ x. fs ++ x) then.4;
      })
    where
      Then : List Instr → Type 0
      Then ws = (ss : List Instr) × (ms : List Instr) × Second ss b × Makes s to (λ q. Work q a b) ms × (ws ≡ ss ++ ms)

-- ---- amounts

module _ (s : Selecting) (by : Amount) (old new : Size) where
  pub amount_temp : (t x b : ℕ) → by ≡ amount.Temp t → x ≡ 29 → Puts (λ ws. Operand s t x ws b) old new
      → Puts (λ ws. Amounts s by ws b) old new
  amount_temp t x b e is p = puts_map (λ ws. Operand s t x ws b) (λ ws. Amounts s by ws b) old new
      (λ ws o. Temps t e (subst (λ y. Operand s t y ws b) is o)) p

  pub amount_number : (n x y : ℕ) → by ≡ amount.Number n → n < 2 ^ 64 → x ≡ 29 → y ≡ 29
      → (0 < x → Puts (IsLongNumber x n) old new) → Puts (λ ws. Amounts s by ws y) old new
  amount_number n x y e lt is same p =
      puts_map (IsLongNumber x n) (λ ws. Amounts s by ws y) old new
      (λ ws l. let m = subst (λ z. IsLongNumber z n ws) is l in Numbers n e lt m.makes m.few same)
      (p (omega (arith, is)))

-- ---- intrinsics

module _ (s : Selecting) (to x : ℕ) (b : Option ℕ) (old new : Size) where
  pub intrinsic_one : (form : capabilities.Intrinsic) (op : CapGetOp) → IsOfForm form (intrinsic.OfOne op)
      → Puts (OfOne s to x (OneOfOne op)) old new → Puts (IntrinsicWords s to x b form) old new
  intrinsic_one (capabilities.One o) op e p = subst (λ y. Puts (OfOne s to x (OneOfOne y)) old new) e p
  intrinsic_one (capabilities.Two o) op e p = absurd e

  pub intrinsic_two : (form : capabilities.Intrinsic) (op : CapRegOp) → IsOfForm form (intrinsic.OfTwo op)
      → Puts (OfTwo s to x (Seconds s b) (OneOfTwo op)) old new → Puts (IntrinsicWords s to x b form) old new
  intrinsic_two (capabilities.One o) op e p = absurd e
  intrinsic_two (capabilities.Two o) op e p = subst (λ y. Puts (OfTwo s to x (Seconds s b) (OneOfTwo y)) old new) e p

pub second_some : (s : Selecting) (b : Option ℕ) (old new : Size) (t x r : ℕ) → b ≡ Some t → x ≡ 29
    → Puts (λ ws. Operand s t x ws r) old new → Puts (λ ws. Seconds s b ws r) old new
second_some s b old new t x r e is p =
    subst (λ o. Puts (λ ws. Seconds s o ws r) old new) (sym e)
    (subst (λ y. Puts (λ ws. Operand s t y ws r) old new) is p)

-- ---- entries of the table

pub entry_of : (s : Selecting) (to number : ℕ) (old mid new : Size) (r : ℕ) → 16 * number < reach → Target s to r
    → (16 * number < reach → mid.text ≡ old.text ++ load_code r 3 (16 * number) r) → Puts (Keep s to r) mid new
    → Puts (EntryWords s to number) old new
entry_of s to number old mid new r lt t e k =
    puts_map (Makes s to (Entry (16 * number))) (EntryWords s to number) old new (λ ws m. (lt, m))
    (makes_of s to (Entry (16 * number)) old mid new r t
    (puts_all (Entry (16 * number) r) old mid (load_code r 3 (16 * number) r) (e lt) refl) k)

-- ---- calls of the library

pub keep_some_of : (s : Selecting) (o : Option ℕ) (t from : ℕ) (old new : Size) → o ≡ Some t → from ≡ 10
    → Puts (Keep s t from) old new → Puts (KeepSome s o) old new
keep_some_of s o t from old new e is p = subst (λ x. Puts (KeepSome s x) old new) (sym e)
    (subst (λ y. Puts (Keep s t y) old new) is p)

pub argument_of : (f : Function) (args : List ℕ) (t : ℕ) (old new : Size) → Some t ≡ slice_get args 0
    → (Chooses f t → Puts (Bring (chosen f) t 10) old new) → ChoosesFirst f args →
    Puts (Argument (chosen f) args) old new
argument_of f [] t old new e p h = absurd cc
argument_of f (x ∷ xs) t old new e p h =
    let same : t ≡ x = cc in
    subst (λ y. Puts (Bring (chosen f) y 10) old new) same (p (subst (Chooses f) (sym same) h))

-- ---- returns

pub result_of : (s : Selecting) (o : Option ℕ) (t : ℕ) (old new : Size) → o ≡ Some t → Puts (Bring s t 10) old new
    → Puts (Argument s (in_option o)) old new
result_of s o t old new e p = subst (λ x. Puts (Argument s (in_option x)) old new) (sym e) p

-- ---- moves

pub offset_of : (s : Selecting) (to base : ℕ) (by : Amount) (z : ℤ) (old new : Size) → IsAmount s by z
    → Puts (OfOne s to base (Advance (extended z))) old new → Puts (Offsets s to base by) old new
offset_of s to base (amount.Temp t) z old new is p =
    puts_map (OfOne s to base (Advance (extended z))) (Offsets s to base (amount.Temp t)) old new
    (λ ws o. NearTemp t (extended z) refl is o) p
offset_of s to base (amount.Number n) z old new is p =
    puts_map (OfOne s to base (Advance (extended z))) (Offsets s to base (amount.Number n)) old new
    (λ ws o. Near (extended z) (ap amount.Number (sym is)) o) p
