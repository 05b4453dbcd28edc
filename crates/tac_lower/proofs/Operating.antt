-- The code of each operation on values that are in temps, of the codes of its steps.
use Rattle.std.proofs.Common.{◌≡◌, ℕ, ◌+◌, Bool, true, false, List, ◌∷◌, length, refl, sym, ap, ◌∙◌}
use Rattle.std.proofs.Common.{subst}
use Rattle.std.proofs.Common.{arith, Some, if◌then◌else◌}
use Rattle.std.specs.Prelude.{◌==◌}
use Rattle.ck_int.specs.declared.kinds.CmpOp.TheVariants.{Eq}
use Rattle.ck_int.specs.declared.kinds.IntKind.{IntKind}
use Rattle.ck_int.specs.declared.kinds.IntKind.TheVariants as int
use Rattle.ck_int.specs.declared.kinds.IntOp.{IntOp}
use Rattle.ck_int.specs.declared.kinds.IntOp.TheVariants.{Add, Sub, Mul, Div, Xor}
use Rattle.cheri_c_sem.specs.Tree.{Operation, Whole, Sign, Negative, Complement}
use Rattle.tac_ir.specs.Effects.{kind_of}
use Rattle.tac_ir.specs.WellFormed.{same_kind}
use Rattle.tac_ir.specs.declared.code.Amount.{Amount}
use Rattle.tac_ir.specs.declared.code.Amount.TheVariants as amount
use Rattle.tac_ir.specs.declared.code.CapWork.TheVariants.{SetAddress}
use Rattle.tac_ir.specs.declared.code.TacInstr.{TacInstr}
use Rattle.tac_ir.specs.declared.code.TacInstr.TheVariants as instr
use Rattle.tac_ir.specs.declared.code.TacKind.{TacKind}
use Rattle.tac_ir.specs.declared.code.TacKind.TheVariants as kind
use Rattle.lower_runs.specs.Operating.{Code, is_capability, word, long, all_ones, negated, signed_integer, sign_temps}
use Rattle.lower_runs.specs.Operating.{signed, signed_temps, right_operand, right_temp, right_temps, whole}
use Rattle.lower_runs.specs.Operating.{address_kind, keeps_count, address_operand, address_temp, address_temps}
use Rattle.lower_runs.specs.Operating.{computed_address, origin, derived, wide_kind, is_wide, scaled, scaled_temp}
use Rattle.lower_runs.specs.Operating.{moved}
use Rattle.lower_runs.specs.Operating.{moved_temps, difference, changed_whole, changed_capability, changed_temps}
use Rattle.lower_runs.specs.Operating.{stepped, stepped_temps}
use Rattle.tac_emit.specs.declared.emitter.Emitter.{Emitter}
use Rattle.tac_lower.specs.declared.operations.Pace.{Pace}
use Rattle.tac_emit.specs.Adding.{Emits, one, none}
use Rattle.tac_lower.specs.Shown.{bytes_code, bytes_temp, address_more, Paces}
use Rattle.tac_emit.proofs.Emitting.{emits_then, emits_and, emits_count, emits_code, then_code, else_code}

-- the temp behind the next one
behind : {a b : Emitter} {t u : ℕ} {c : Code} → t ≡ length a.kinds.items → Emits a b 1 c → u ≡ length b.kinds.items →
    u ≡ t + 1
behind e f h = omega (arith, e, f.temps, h)

more_is : (x : Bool) → 1 + (if x then 0 else 1) ≡ (if x then 1 else 2)
more_is true = refl
more_is false = refl

moved_is : (x y : Bool) (v : TacInstr) (o : ℕ → TacInstr) (m n t : ℕ) (s : Code) (r : List TacInstr) →
    let u = if x then (if y then m else n) else t in
    (if x then (if y then v ∷ o u ∷ r else o u ∷ r) else s (o u ∷ r))
    ≡ (if x then (if y then v ∷ o m ∷ r else o n ∷ r) else s (o t ∷ r))
moved_is true true v o m n t s r = refl
moved_is true false v o m n t s r = refl
moved_is false y v o m n t s r = refl

zero_more : (x : Bool) (n : ℕ) → x ≡ true → n ≡ n + (if x then 0 else 1)
zero_more true n h = omega arith
zero_more false n h = absurd cc

one_more : (x : Bool) (n : ℕ) → x ≡ false → n + 1 ≡ n + (if x then 0 else 1)
one_more true n h = absurd cc
one_more false n h = refl

module _ {a b e : Emitter} where
  -- ---- unary operations

  pub negated_emits : {k : TacKind} {to x t : ℕ} → t ≡ length a.kinds.items → Emits a b 1 (one (instr.Const t k 0)) →
      Emits b e 0 (one (instr.Cmp Eq k to x t)) → Emits a e 1 (negated k to x (length a.kinds.items))
  negated_emits {k = k} {to = to} {x = x} h f g = subst (λ z. Emits a e 1 (negated k to x z)) h (emits_then f g)

  pub negative_emits : {k : IntKind} {to x t : ℕ} → t ≡ length a.kinds.items →
      Emits a b 1 (one (instr.Const t (kind.Int k) 0)) → Emits b e 0 (one (instr.Int Sub k to t x)) →
      Emits a e 1 (signed_integer Negative k to x (length a.kinds.items))
  negative_emits {k = k} {to = to} {x = x} h f g =
      subst (λ z. Emits a e 1 (signed_integer Negative k to x z)) h (emits_then f g)

  pub complement_emits : {k : IntKind} {to x t v : ℕ} → t ≡ length a.kinds.items → v ≡ all_ones k →
      Emits a b 1 (one (instr.Const t (kind.Int k) v)) → Emits b e 0 (one (instr.Int Xor k to x t)) →
      Emits a e 1 (signed_integer Complement k to x (length a.kinds.items))
  complement_emits {k = k} {to = to} {x = x} {t = t} h v f g =
      let ones = subst (λ z. Emits a b 1 (one (instr.Const t (kind.Int k) z))) v f in
      subst (λ z. Emits a e 1 (signed_integer Complement k to x z)) h (emits_then ones g)

  pub signed_emits : (s : Sign) {c : Emitter} (k : TacKind) {to x t : ℕ} → is_capability k ≡ true →
      t ≡ length a.kinds.items → Emits a b 1 (one (instr.Convert t x k word)) →
      Emits b e (sign_temps s) (signed_integer s int.U64 t t (length b.kinds.items)) →
      Emits e c 0 (one (instr.Cap SetAddress to x (Some t))) →
      Emits a c (signed_temps s k) (signed s k to x (length a.kinds.items))
  signed_emits s (kind.Int k) i h f g j = absurd cc
  signed_emits s {c = c} (kind.Cap z) {to = to} {x = x} {t = t} i h f g j =
      let next : length b.kinds.items ≡ t + 1 = behind h f refl in
      let middle = subst (λ n. Emits b e (sign_temps s) (signed_integer s int.U64 t t n)) next g in
      subst (λ n. Emits a c (signed_temps s (kind.Cap z)) (signed s (kind.Cap z) to x n)) h
      (emits_and (emits_then f middle) j)

  -- ---- operations on integers

  pub whole_emits : (k : TacKind) (y : ℕ) {op : IntOp} {j : IntKind} {to x t : ℕ}
      → t ≡ right_temp op k y (length a.kinds.items) →
      Emits a b (right_temps op k) (right_operand op k y (length a.kinds.items)) →
      Emits b e 0 (one (instr.Int op j to x t)) →
      Emits a e (right_temps op k) (whole op j k to x y (length a.kinds.items))
  whole_emits k y {op = op} {j = j} {to = to} {x = x} h f g =
      emits_and f (subst (λ z. Emits b e 0 (one (instr.Int op j to x z))) h g)

  -- ---- operations on capability integers

  pub computed_emits : (s : Bool) (k : TacKind) (y : ℕ) {c : Emitter} {op : IntOp} {i : IntKind} {j : TacKind}
      {x t u : ℕ}
      → i ≡ address_kind op s → t ≡ length a.kinds.items → u ≡ address_temp op k y (length b.kinds.items) →
      Emits a b 1 (one (instr.Convert t x j (kind.Int i))) →
      Emits b e (address_more op k) (address_operand op i k y (length b.kinds.items)) →
      Emits e c 0 (one (instr.Int op i t t u)) →
      Emits a c (address_temps op k) (computed_address op s j k x y (length a.kinds.items))
  computed_emits s k y {c = c} {op = op} {i = i} {j = j} {x = x} {t = t} ie h v f g l =
      let next : length b.kinds.items ≡ t + 1 = behind h f refl in
      let middle = subst (λ n. Emits b e (address_more op k) (address_operand op i k y n)) next g in
      let last = subst (λ n. Emits e c 0 (one (instr.Int op i t t n))) (v ∙ ap (address_temp op k y) next) l in
      let all : Emits a c (address_temps op k) (λ r. instr.Convert t x j (kind.Int i)
      ∷ address_operand op i k y (t + 1) (instr.Int op i t t (address_temp op k y (t + 1)) ∷ r)) =
      emits_count (more_is (keeps_count op k)) (emits_and (emits_then f middle) last) in
      let kept = subst (λ m. Emits a c (address_temps op k) (λ r. instr.Convert t x j (kind.Int m)
      ∷ address_operand op m k y (t + 1) (instr.Int op m t t (address_temp op k y (t + 1)) ∷ r))) ie all in
      subst (λ n. Emits a c (address_temps op k) (computed_address op s j k x y n)) h kept

  pub derived_emits : (op : IntOp) (right : Bool) (k : TacKind) (y : ℕ) {s : Bool} {j : TacKind} {to x t u : ℕ}
      → j ≡ kind.Cap s → t ≡ length a.kinds.items → u ≡ origin right j k x y →
      Emits a b (address_temps op k) (computed_address op s j k x y (length a.kinds.items)) →
      Emits b e 0 (one (instr.Cap SetAddress to u (Some t))) →
      Emits a e (address_temps op k) (derived op s right k to x y (length a.kinds.items))
  derived_emits op right k y {s = s} {j = j} {to = to} {x = x} {t = t} je h v f g =
      let there = subst (λ n. Emits b e 0 (one (instr.Cap SetAddress to n (Some t)))) v g in
      let at = subst (λ n. Emits b e 0 (one (instr.Cap SetAddress to (origin right j k x y) (Some n)))) h there in
      subst (λ m. Emits a e (address_temps op k) (λ r. computed_address op s m k x y (length a.kinds.items)
      (instr.Cap SetAddress to (origin right m k x y) (Some (length a.kinds.items)) ∷ r))) je (emits_and f at)

  -- ---- pointers

  pub scaled_wide_emits : (k : TacKind) {c : Emitter} {i : IntKind} {by x t u : ℕ} → i ≡ wide_kind k →
      is_wide k ≡ true → t ≡ length a.kinds.items → u ≡ length b.kinds.items →
      Emits a b 1 (one (instr.Const t (kind.Int i) by)) → Emits b e 1 none → Emits e c 0 (one (instr.Int Mul i u x t)) →
      Emits a c 2 (scaled k by x (length a.kinds.items))
  scaled_wide_emits k {c = c} {i = i} {by = by} {x = x} {t = t} ie w h v f g l =
      let last = subst (λ n. Emits e c 0 (one (instr.Int Mul i n x t))) (behind h f v) l in
      let kept = subst (λ m. Emits a c 2 (λ r. instr.Const t (kind.Int m) by ∷ instr.Int Mul m (t + 1) x t ∷ r)) ie
      (emits_then (emits_then f g) last) in
      subst (λ n. Emits a c 2 (scaled k by x n)) h (then_code (is_wide k) _ w kept)

  pub scaled_emits : (k : TacKind) {c : Emitter} {i : IntKind} {by x t u : ℕ} → i ≡ wide_kind k →
      is_wide k ≡ false → t ≡ length a.kinds.items → u ≡ length b.kinds.items →
      Emits a b 1 (one (instr.Convert t x k (kind.Int i))) → Emits b e 1 (one (instr.Const u (kind.Int i) by)) →
      Emits e c 0 (one (instr.Int Mul i t t u)) → Emits a c 2 (scaled k by x (length a.kinds.items))
  scaled_emits k {c = c} {i = i} {by = by} {x = x} {t = t} ie w h v f g l =
      let second = subst (λ n. Emits b e 1 (one (instr.Const n (kind.Int i) by))) (behind h f v) g in
      let last = subst (λ n. Emits e c 0 (one (instr.Int Mul i t t n))) (behind h f v) l in
      let kept = subst (λ m. Emits a c 2 (λ r. instr.Convert t x k (kind.Int m) ∷ instr.Const (t + 1) (kind.Int m) by
      ∷ instr.Int Mul m t t (t + 1) ∷ r)) ie (emits_then (emits_then f second) last) in
      subst (λ n. Emits a c 2 (scaled k by x n)) h (else_code (is_wide k) _ w kept)

  pub moved_emits : (k : TacKind) (by : ℕ) (i : ℕ) {to base : ℕ} {q : Amount}
      → q ≡ amount.Temp (bytes_temp k by i (length a.kinds.items)) →
      Emits a b (moved_temps k by) (bytes_code k by i (length a.kinds.items)) →
      Emits b e 0 (one (instr.Offset to base q)) →
      Emits a e (moved_temps k by) (moved k by to base i (length a.kinds.items))
  moved_emits k by i {to = to} {base = base} h f g =
      let n = length a.kinds.items in
      emits_code (λ r. moved_is (by == 1) (is_capability k) (instr.Convert n i k word)
      (λ z. instr.Offset to base (amount.Temp z)) n i (scaled_temp k n) (scaled k by i n) r)
      (emits_and f (subst (λ z. Emits b e 0 (one (instr.Offset to base z))) h g))

  pub one_apart_emits : (size : ℕ) {c : Emitter} {to x y t u : ℕ} → (size == 1) ≡ true → t ≡ length a.kinds.items →
      u ≡ length b.kinds.items → Emits a b 1 (one (instr.Convert t x (kind.Cap false) long)) →
      Emits b e 1 (one (instr.Convert u y (kind.Cap false) long)) → Emits e c 0 (one (instr.Int Sub int.I64 to t u)) →
      Emits a c 2 (difference size to x y (length a.kinds.items))
  one_apart_emits size {c = c} {to = to} {x = x} {y = y} {t = t} w h v f g l =
      let second = subst (λ n. Emits b e 1 (one (instr.Convert n y (kind.Cap false) long))) (behind h f v) g in
      let last = subst (λ n. Emits e c 0 (one (instr.Int Sub int.I64 to t n))) (behind h f v) l in
      subst (λ n. Emits a c 2 (difference size to x y n)) h
      (emits_then (emits_then f second) (then_code (size == 1) _ w last))

  pub apart_emits : (size : ℕ) {c d i : Emitter} {to x y t u : ℕ} → (size == 1) ≡ false → t ≡ length a.kinds.items →
      u ≡ length b.kinds.items → Emits a b 1 (one (instr.Convert t x (kind.Cap false) long)) →
      Emits b e 1 (one (instr.Convert u y (kind.Cap false) long)) → Emits e c 0 (one (instr.Int Sub int.I64 t t u)) →
      Emits c d 0 (one (instr.Const u long size)) → Emits d i 0 (one (instr.Int Div int.I64 to t u)) →
      Emits a i 2 (difference size to x y (length a.kinds.items))
  apart_emits size {c = c} {d = d} {i = i} {to = to} {x = x} {y = y} {t = t} {u = u} w h v f g j k l =
      let part : (n : ℕ) → Code = λ n r. instr.Int Sub int.I64 t t n ∷ instr.Const n long size
      ∷ instr.Int Div int.I64 to t n ∷ r in
      let last : Emits e i 0 (part u) = emits_then (emits_then j k) l in
      let second = subst (λ n. Emits b e 1 (one (instr.Convert n y (kind.Cap false) long))) (behind h f v) g in
      let third = subst (λ n. Emits e i 0 (part n)) (behind h f v) last in
      subst (λ n. Emits a i 2 (difference size to x y n)) h
      (emits_then (emits_then f second) (else_code (size == 1) _ w third))

  -- ---- changes

  pub changed_alike_emits : (j : TacKind) (k : TacKind) (y : ℕ) {op : IntOp} {i : IntKind} {to x t : ℕ}
      → same_kind (kind_of j) (kind_of (kind.Int i)) ≡ true → t ≡ right_temp op k y (length a.kinds.items) →
      Emits a b (right_temps op k) (right_operand op k y (length a.kinds.items)) →
      Emits b e 0 (one (instr.Int op i to x t)) →
      Emits a e (changed_temps (Whole op i (kind_of k)) j k) (changed_whole op i j k to x y (length a.kinds.items))
  changed_alike_emits j k y {op = op} {i = i} {to = to} {x = x} w h f g =
      emits_count (zero_more (same_kind (kind_of j) (kind_of (kind.Int i))) (right_temps op k) w)
      (emits_and f (then_code (same_kind (kind_of j) (kind_of (kind.Int i))) _ w
      (subst (λ z. Emits b e 0 (one (instr.Int op i to x z))) h g)))

  pub changed_apart_emits :
      (k : TacKind) (y : ℕ) {c d : Emitter} {op : IntOp} {i : IntKind} {j : TacKind} {to x t u : ℕ}
      → same_kind (kind_of j) (kind_of (kind.Int i)) ≡ false → t ≡ right_temp op k y (length a.kinds.items) →
      u ≡ length b.kinds.items → Emits a b (right_temps op k) (right_operand op k y (length a.kinds.items)) →
      Emits b e 1 (one (instr.Convert u x j (kind.Int i))) → Emits e c 0 (one (instr.Int op i u u t)) →
      Emits c d 0 (one (instr.Convert to u (kind.Int i) j)) →
      Emits a d (changed_temps (Whole op i (kind_of k)) j k) (changed_whole op i j k to x y (length a.kinds.items))
  changed_apart_emits k y {d = d} {op = op} {i = i} {j = j} {to = to} {x = x} {t = t} {u = u}
      w h v f g l o =
      let part : (s n : ℕ) → Code = λ s n r. instr.Convert s x j (kind.Int i) ∷ instr.Int op i s s n
      ∷ instr.Convert to s (kind.Int i) j ∷ r in
      let all : Emits b d 1 (part u t) = emits_then (emits_then g l) o in
      let there = subst (λ n. Emits b d 1 (part u n)) h all in
      let at : u ≡ length a.kinds.items + right_temps op k = v ∙ f.temps in
      let last = subst (λ n. Emits b d 1 (part n (right_temp op k y (length a.kinds.items)))) at there in
      emits_count (one_more (same_kind (kind_of j) (kind_of (kind.Int i))) (right_temps op k) w)
      (emits_then f (else_code (same_kind (kind_of j) (kind_of (kind.Int i))) _ w last))

  pub changed_address_emits : (op : IntOp) (s : Bool) (k : TacKind) (y : ℕ) {j : TacKind} {to x t : ℕ}
      → is_capability j ≡ true → t ≡ length a.kinds.items →
      Emits a b (address_temps op k) (computed_address op s j k x y (length a.kinds.items)) →
      Emits b e 0 (one (instr.Cap SetAddress to x (Some t))) →
      Emits a e (address_temps op k) (changed_capability op s j k to x y (length a.kinds.items))
  changed_address_emits op s k y {j = j} {to = to} {x = x} w h f g =
      emits_and f (then_code (is_capability j) _ w
      (subst (λ z. Emits b e 0 (one (instr.Cap SetAddress to x (Some z)))) h g))

  pub changed_back_emits : (op : IntOp) (s : Bool) (k : TacKind) (y : ℕ) {i j : TacKind} {to x t : ℕ}
      → is_capability j ≡ false → t ≡ length a.kinds.items → i ≡ kind.Int (address_kind op s) →
      Emits a b (address_temps op k) (computed_address op s j k x y (length a.kinds.items)) →
      Emits b e 0 (one (instr.Convert to t i j)) →
      Emits a e (address_temps op k) (changed_capability op s j k to x y (length a.kinds.items))
  changed_back_emits op s k y {i = i} {j = j} {to = to} w h v f g =
      let there = subst (λ z. Emits b e 0 (one (instr.Convert to z i j))) h g in
      let last = subst (λ z. Emits b e 0 (one (instr.Convert to (length a.kinds.items) z j))) v there in
      emits_and f (else_code (is_capability j) _ w last)

  stepped_by : (q : Pace) {k : IntKind} {op : IntOp} {to x t : ℕ} (o : Operation)
      → (q.up ≡ true → op ≡ Add) → (q.up ≡ false → op ≡ Sub) → Emits a b 1 (one (instr.Const t (kind.Int k) 1)) →
      Emits b e 0 (one (instr.Int op k to x t)) → Paces q (kind.Int k) o →
      Emits a e (stepped_temps o) (stepped o (kind.Int k) to x t)
  stepped_by q {k = k} {to = to} {x = x} {t = t} (Whole Add i count) up down f g p =
      emits_then f (subst (λ z. Emits b e 0 (one (instr.Int z k to x t))) (up p) g)
  stepped_by q {k = k} {to = to} {x = x} {t = t} (Whole Sub i count) up down f g p =
      emits_then f (subst (λ z. Emits b e 0 (one (instr.Int z k to x t))) (down p) g)
  stepped_by q o up down f g p = absurd p

  pub stepped_emits : (q : Pace) {j : TacKind} {k : IntKind} {op : IntOp} {to x t : ℕ} (o : Operation)
      → j ≡ kind.Int k → t ≡ length a.kinds.items → (q.up ≡ true → op ≡ Add) → (q.up ≡ false → op ≡ Sub) →
      Emits a b 1 (one (instr.Const t j 1)) → Emits b e 0 (one (instr.Int op k to x t)) → Paces q j o →
      Emits a e (stepped_temps o) (stepped o j to x (length a.kinds.items))
  stepped_emits q {k = k} {to = to} {x = x} {t = t} o je h up down f g p =
      let first = subst (λ z. Emits a b 1 (one (instr.Const t z 1))) je f in
      let paces = subst (λ z. Paces q z o) je p in
      let at = subst (λ n. Emits a e (stepped_temps o) (stepped o (kind.Int k) to x n)) h
      (stepped_by q o up down first g paces) in
      subst (λ z. Emits a e (stepped_temps o) (stepped o z to x (length a.kinds.items))) (sym je) at
