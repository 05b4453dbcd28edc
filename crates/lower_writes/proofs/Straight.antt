-- Code of operations, which neither jumps nor has labels: what it reads, and what it leaves written.
use Rattle.std.proofs.Common.{◌≡◌, ℕ, zero, suc, ◌+◌, Bool, true, false, List, [], ◌∷◌, Option, Some}
use Rattle.std.proofs.Common.{None, inl, inr, refl, subst, arith}
use Rattle.std.specs.Prelude.{slice_get, if◌then◌else◌, ◌==◌, ◌&&◌}
use Rattle.std.proofs.lemmas.Bool.Decides.{nat_tests}
use Rattle.ck_int.specs.declared.kinds.CmpOp.TheVariants.{Eq}
use Rattle.ck_int.specs.declared.kinds.IntKind.{IntKind}
use Rattle.ck_int.specs.declared.kinds.IntKind.TheVariants as int
use Rattle.ck_int.specs.declared.kinds.IntOp.{IntOp}
use Rattle.ck_int.specs.declared.kinds.IntOp.TheVariants.{Add, Sub, Mul, Div, Xor}
use Rattle.cheri_c_sem.specs.Tree.{Operation, Whole, Derived, Moved, Apart, Sign, Positive, Negative, Complement}
use Rattle.cheri_c_sem.specs.Kinds.{Kind, Plain}
use Rattle.cheri_c_sem.specs.Operations as work
use Rattle.cheri_c_sem.specs.Operations.{Work}
use Rattle.cheri_c_sem.specs.Tree.{Service, Put_char, Get_char, Malloc, Exit, Address, Bounds, Works}
use Rattle.tac_ir.specs.Effects.{kind_of}
use Rattle.tac_ir.specs.WellFormed.{same_kind}
use Rattle.tac_ir.specs.Temps.{in_option, reads, writes, behind}
use Rattle.tac_ir.specs.declared.code.Amount.TheVariants as amount
use Rattle.tac_ir.specs.declared.code.CapWork.TheVariants.{SetAddress}
use Rattle.tac_ir.specs.declared.code.LibOp.TheVariants as lib
use Rattle.tac_ir.specs.declared.code.TacInstr.{TacInstr}
use Rattle.tac_ir.specs.declared.code.TacInstr.TheVariants as instr
use Rattle.tac_ir.specs.declared.code.TacKind.{TacKind}
use Rattle.tac_ir.specs.declared.code.TacKind.TheVariants as kind
use Rattle.lower_runs.specs.Operating as operating
use Rattle.lower_runs.specs.Operating.{Code, transfer, give, word, long, address_kind, is_capability, is_wide}
use Rattle.lower_runs.specs.Operating.{wide_kind}
use Rattle.lower_runs.specs.Calling.{IsAsked}
use Rattle.lower_runs.specs.Expressions.{served, IsStep, Takes, serves, first_kind, intrinsic, within, within_temp}
use Rattle.lower_runs.specs.Expressions.{Target, Reaches, Within, target_temp, target_code, Mark, cap_of}
use Rattle.lower_writes.proofs.Waiting.{Have, HaveAll, joined, joined_more, joined_has, joined_least, all_more, Only}
use Rattle.lower_writes.proofs.Waiting.{only_more, step, IsPlain, IsUnlabelled}

unlabelled : (i : TacInstr) → IsUnlabelled i → (l : ℕ) (r : List TacInstr) → behind l (i ∷ r) ≡ behind l r
unlabelled (instr.Label k) h l r = absurd h
unlabelled i h l r = refl

-- no capability is moved as an integer
no_step : (op : IntOp) (i : IntKind) (count : Kind) (z : Bool) (c : Kind) →
    IsStep (Whole op i count) (kind.Cap z) c → ⊥
no_step Add i (Plain int.I32) z c h = h
no_step Sub i (Plain int.I32) z c h = h
no_step op i count z c h = h

-- where a struct or union is copied to, the temp with the pointer to the object
abbrev pub base_of : Target → ℕ
base_of (Reaches t) = t
base_of (Within base offset) = base

-- arguments have these kinds, as many as there are
abbrev pub AreAsMany : List TacKind → List ℕ → Type 0
AreAsMany [] [] = Unit {0}
AreAsMany [] (t ∷ ts) = ⊥
AreAsMany (k ∷ ks) [] = ⊥
AreAsMany (k ∷ ks) (t ∷ ts) = AreAsMany ks ts

-- an intrinsic takes an argument
some_taken : (w : Work) → Takes (Works w) [] → ⊥
some_taken work.Base h = h
some_taken work.Offset h = h
some_taken work.Length h = h
some_taken work.Tag h = h
some_taken work.Perms h = h
some_taken work.Clear h = h
some_taken work.Set_address h = h
some_taken work.And_perms h = h
some_taken work.Equal_exact h = h
some_taken work.Rounded h = h
some_taken work.Mask h = h

-- what is there, and what is written besides
both_have : (params : ℕ) (mid ins ws : List ℕ) → HaveAll params ws ins →
    HaveAll params (joined params mid ws) (joined params mid ins)
both_have params [] ins ws h = h
both_have params (t ∷ mid) ins ws h =
    both_have params mid (t ∷ ins) (t ∷ ws) (inl refl, all_more params ws (t ∷ ws) ins (λ u g. inr g) h)

module _ (params : ℕ) (whole : List TacInstr) (n : ℕ) where
  abbrev pub Awaits_only : List ℕ → List TacInstr → Type 0
  Awaits_only = Only params whole n

  -- code that reads some temps, and writes others
  pub record IsStraight (ins outs : List ℕ) (c : Code) : Type 0 where
    pub plain : (l : ℕ) (r : List TacInstr) → behind l (c r) ≡ behind l r
    pub only : (ws : List ℕ) (r : List TacInstr) → HaveAll params ws ins → Awaits_only (joined params outs ws) r →
        Awaits_only ws (c r)

module _ {params : ℕ} {whole : List TacInstr} {n : ℕ} where
  pub one : (i : TacInstr) → IsPlain i → IsUnlabelled i → IsStraight params whole n (reads i) (writes i) (λ r. i ∷ r)
  one i h g = record {
    plain = unlabelled i g;
    only = λ ws r has next. step params whole n ws i r h has next;
  }

  pub nothing : (ins : List ℕ) → IsStraight params whole n ins [] (λ r. r)
  nothing ins = record { plain = λ l r. refl; only = λ ws r has next. next }

  pub choose : {ins outs : List ℕ} {c d : Code} (b : Bool) → IsStraight params whole n ins outs c →
      IsStraight params whole n ins outs d →
      IsStraight params whole n ins outs (λ r. if b then c r else d r)
  choose true c d = c
  choose false c d = d

  -- a temp that is written is there already
  pub given : {ins outs : List ℕ} {c : Code} → ((ws : List ℕ) → HaveAll params ws ins → HaveAll params ws outs) →
      IsStraight params whole n ins [] c → IsStraight params whole n ins outs c
  given {outs = outs} has a = record {
    plain = a.plain;
    only = λ ws r h next. a.only ws r h
        (only_more params whole n (joined params outs ws) ws r (joined_least params outs ws ws (λ t g. g) (has ws h))
        next);
  }

  -- one that is read is among others
  pub from_more : {ins all outs : List ℕ} {c : Code} → IsStraight params whole n ins outs c →
      ((ws : List ℕ) → HaveAll params ws all → HaveAll params ws ins) → IsStraight params whole n all outs c
  from_more a has = record { plain = a.plain; only = λ ws r h next. a.only ws r (has ws h) next }

  -- one behind the other
  pub follow : {ins mid outs : List ℕ} {c d : Code} → IsStraight params whole n ins mid c →
      IsStraight params whole n (joined params mid ins) outs d → IsStraight params whole n ins outs (λ r. c (d r))
  follow {ins = ins} {mid = mid} {outs = outs} {c = c} {d = d} a b = record {
    plain = λ l r. let e = a.plain l (d r) in let f = b.plain l r in cc;
    only = λ ws r has next. a.only ws (d r) has (b.only (joined params mid ws) r (both_have params mid ins ws has)
        (only_more params whole n (joined params outs ws) (joined params outs (joined params mid ws)) r
        (joined_least params outs ws (joined params outs (joined params mid ws))
        (λ t h. joined_more params outs (joined params mid ws) t (joined_more params mid ws t h))
        (joined_has params outs (joined params mid ws))) next));
  }

  pub first : {ins outs : List ℕ} {c : Code} (i : TacInstr) → IsPlain i → IsUnlabelled i →
      ((ws : List ℕ) → HaveAll params ws ins → HaveAll params ws (reads i)) →
      IsStraight params whole n (joined params (writes i) ins) outs c →
      IsStraight params whole n ins outs (λ r. i ∷ c r)
  first i h g has b = follow (from_more (one i h g) has) b

  pub done : {ins outs : List ℕ} → ((ws : List ℕ) → HaveAll params ws ins → HaveAll params ws outs) →
      IsStraight params whole n ins outs (λ r. r)
  done {ins = ins} has = given has (nothing ins)

  -- ---- copies

  pub transfers : (to from : ℕ) → IsStraight params whole n (from ∷ []) (to ∷ []) (transfer to from)
  transfers to from = by (to == from) refl
    where
      by : (b : Bool) → (to == from) ≡ b →
          IsStraight params whole n (from ∷ []) (to ∷ []) (λ r. if b then r else instr.Copy to from ∷ r)
      by true e = let same : from ≡ to = grind (arith, nat_tests) in
          given (λ ws h. (subst (Have params ws) same h.0, tt)) (nothing (from ∷ []))
      by false e = one (instr.Copy to from) tt tt

  pub gives : (to : Option ℕ) (from : ℕ) → IsStraight params whole n (from ∷ []) (in_option to) (give to from)
  gives None from = nothing (from ∷ [])
  gives (Some to) from = transfers to from

  -- ---- unary operations

  pub negates : (k : TacKind) (to x t : ℕ) → IsStraight params whole n (x ∷ []) (to ∷ []) (operating.negated k to x t)
  negates k to x t = first (instr.Const t k 0) tt tt (λ ws h. tt)
      (first (instr.Cmp Eq k to x t) tt tt (λ ws h. (h.1.0, (h.0, tt))) (done (λ ws h. (h.0, tt))))

  signs_integer : (sign : Sign) (k : IntKind) (to x t : ℕ) →
      IsStraight params whole n (x ∷ []) (to ∷ []) (operating.signed_integer sign k to x t)
  signs_integer Positive k to x t = transfers to x
  signs_integer Negative k to x t = first (instr.Const t (kind.Int k) 0) tt tt (λ ws h. tt)
      (first (instr.Int Sub k to t x) tt tt (λ ws h. h) (done (λ ws h. (h.0, tt))))
  signs_integer Complement k to x t = first (instr.Const t (kind.Int k) (operating.all_ones k)) tt tt (λ ws h. tt)
      (first (instr.Int Xor k to x t) tt tt (λ ws h. (h.1.0, (h.0, tt))) (done (λ ws h. (h.0, tt))))

  pub signs : (sign : Sign) (k : TacKind) (to x t : ℕ) →
      IsStraight params whole n (x ∷ []) (to ∷ []) (operating.signed sign k to x t)
  signs sign (kind.Int k) to x t = signs_integer sign k to x t
  signs sign (kind.Cap s) to x t = first (instr.Convert t x (kind.Cap s) word) tt tt (λ ws h. h)
      (follow (from_more (signs_integer sign int.U64 t t (t + 1)) (λ ws h. (h.0, tt)))
      (first (instr.Cap SetAddress to x (Some t)) tt tt (λ ws h. (h.1.1.0, (h.0, tt))) (done (λ ws h. (h.0, tt)))))

  -- ---- operations on two temps

  pub computes : (op : IntOp) (j : IntKind) (k : TacKind) (to x y t : ℕ) →
      IsStraight params whole n (x ∷ y ∷ []) (to ∷ []) (operating.whole op j k to x y t)
  computes op j k to x y t = by (operating.is_converted op k)
    where
      by : (b : Bool) → IsStraight params whole n (x ∷ y ∷ []) (to ∷ []) (λ r.
          if b then instr.Convert t y k word ∷ instr.Int op j to x (if b then t else y) ∷ r
          else instr.Int op j to x (if b then t else y) ∷ r)
      by true = first (instr.Convert t y k word) tt tt (λ ws h. h.1)
          (first (instr.Int op j to x t) tt tt (λ ws h. (h.1.0, (h.0, tt))) (done (λ ws h. (h.0, tt))))
      by false = first (instr.Int op j to x y) tt tt (λ ws h. h) (done (λ ws h. (h.0, tt)))

  addresses : (op : IntOp) (s : Bool) (j k : TacKind) (x y t : ℕ) →
      IsStraight params whole n (x ∷ y ∷ []) (t ∷ []) (operating.computed_address op s j k x y t)
  addresses op s j k x y t = first (instr.Convert t x j (kind.Int (address_kind op s))) tt tt (λ ws h. (h.0, tt))
      (by (operating.keeps_count op k))
    where
      by : (b : Bool) → IsStraight params whole n (t ∷ x ∷ y ∷ []) (t ∷ []) (λ r.
          if b then instr.Int op (address_kind op s) t t (if b then y else t + 1) ∷ r
          else instr.Convert (t + 1) y k (kind.Int (address_kind op s))
          ∷ instr.Int op (address_kind op s) t t (if b then y else t + 1) ∷ r)
      by true = first (instr.Int op (address_kind op s) t t y) tt tt (λ ws h. (h.0, (h.1.1.0, tt)))
          (done (λ ws h. (h.0, tt)))
      by false = first (instr.Convert (t + 1) y k (kind.Int (address_kind op s))) tt tt (λ ws h. h.1.1)
          (first (instr.Int op (address_kind op s) t t (t + 1)) tt tt (λ ws h. (h.1.0, (h.0, tt)))
          (done (λ ws h. (h.0, tt))))

  pub derives : (op : IntOp) (s right : Bool) (k : TacKind) (to x y t : ℕ) →
      IsStraight params whole n (x ∷ y ∷ []) (to ∷ []) (operating.derived op s right k to x y t)
  derives op s right k to x y t = follow (addresses op s (kind.Cap s) k x y t)
      (first (instr.Cap SetAddress to (operating.origin right (kind.Cap s) k x y) (Some t)) tt tt
      (λ ws h. (by ws (right && same_kind (kind_of k) (kind_of (kind.Cap s))) h.1, (h.0, tt)))
      (done (λ ws h. (h.0, tt))))
    where
      by : (ws : List ℕ) (b : Bool) → HaveAll params ws (x ∷ y ∷ []) → Have params ws (if b then y else x)
      by ws true h = h.1.0
      by ws false h = h.0

  pub moves : (k : TacKind) (by to base i t : ℕ) → IsStraight params whole n (base ∷ i ∷ []) (to ∷ [])
      (operating.moved k by to base i t)
  moves k size to base i t = which (size == 1) (is_capability k) (is_wide k)
    where
      which : (b c w : Bool) → IsStraight params whole n (base ∷ i ∷ []) (to ∷ []) (λ r.
          if b then (if c then instr.Convert t i k word ∷ instr.Offset to base (amount.Temp t) ∷ r
          else instr.Offset to base (amount.Temp i) ∷ r)
          else (if w then instr.Const t (kind.Int (wide_kind k)) size ∷ instr.Int Mul (wide_kind k) (t + 1) i t
          ∷ instr.Offset to base (amount.Temp (if w then t + 1 else t)) ∷ r
          else instr.Convert t i k (kind.Int (wide_kind k)) ∷ instr.Const (t + 1) (kind.Int (wide_kind k)) size
          ∷ instr.Int Mul (wide_kind k) t t (t + 1) ∷ instr.Offset to base (amount.Temp (if w then t + 1 else t)) ∷ r))
      which true true w = first (instr.Convert t i k word) tt tt (λ ws h. h.1)
          (first (instr.Offset to base (amount.Temp t)) tt tt (λ ws h. (h.1.0, (h.0, tt))) (done (λ ws h. (h.0, tt))))
      which true false w = first (instr.Offset to base (amount.Temp i)) tt tt (λ ws h. h) (done (λ ws h. (h.0, tt)))
      which false c true = first (instr.Const t (kind.Int (wide_kind k)) size) tt tt (λ ws h. tt)
          (first (instr.Int Mul (wide_kind k) (t + 1) i t) tt tt (λ ws h. (h.1.1.0, (h.0, tt)))
          (first (instr.Offset to base (amount.Temp (t + 1))) tt tt (λ ws h. (h.1.1.0, (h.0, tt)))
          (done (λ ws h. (h.0, tt)))))
      which false c false = first (instr.Convert t i k (kind.Int (wide_kind k))) tt tt (λ ws h. h.1)
          (first (instr.Const (t + 1) (kind.Int (wide_kind k)) size) tt tt (λ ws h. tt)
          (first (instr.Int Mul (wide_kind k) t t (t + 1)) tt tt (λ ws h. (h.1.0, (h.0, tt)))
          (first (instr.Offset to base (amount.Temp t)) tt tt (λ ws h. (h.1.1.1.0, (h.0, tt)))
          (done (λ ws h. (h.0, tt))))))

  pub differs : (size to x y t : ℕ) →
      IsStraight params whole n (x ∷ y ∷ []) (to ∷ []) (operating.difference size to x y t)
  differs size to x y t = first (instr.Convert t x (kind.Cap false) long) tt tt (λ ws h. (h.0, tt))
      (first (instr.Convert (t + 1) y (kind.Cap false) long) tt tt (λ ws h. h.1.1)
      (choose (size == 1)
      (first (instr.Int Sub int.I64 to t (t + 1)) tt tt (λ ws h. (h.1.0, (h.0, tt))) (done (λ ws h. (h.0, tt))))
      (first (instr.Int Sub int.I64 t t (t + 1)) tt tt (λ ws h. (h.1.0, (h.0, tt)))
      (first (instr.Const (t + 1) long size) tt tt (λ ws h. tt)
      (first (instr.Int Div int.I64 to t (t + 1)) tt tt (λ ws h. (h.1.0, (h.0, tt))) (done (λ ws h. (h.0, tt))))))))

  -- ---- a value in a temp is changed

  changes_whole : (op : IntOp) (i : IntKind) (j k : TacKind) (to x y t : ℕ) →
      IsStraight params whole n (x ∷ y ∷ []) (to ∷ []) (operating.changed_whole op i j k to x y t)
  changes_whole op i j k to x y t =
      by (operating.is_converted op k) (same_kind (kind_of j) (kind_of (kind.Int i))) (t + operating.right_temps op k)
    where
      last : (ins : List ℕ) (same : Bool) (m z : ℕ) → ((ws : List ℕ) → HaveAll params ws ins →
          HaveAll params ws (x ∷ z ∷ [])) → IsStraight params whole n ins (to ∷ []) (λ r.
          if same then instr.Int op i to x z ∷ r
          else instr.Convert m x j (kind.Int i) ∷ instr.Int op i m m z ∷ instr.Convert to m (kind.Int i) j ∷ r)
      last ins true m z has = first (instr.Int op i to x z) tt tt has (done (λ ws h. (h.0, tt)))
      last ins false m z has = from_more {ins = x ∷ z ∷ []} (first (instr.Convert m x j (kind.Int i)) tt tt (λ ws h.
          (h.0, tt))
          (first (instr.Int op i m m z) tt tt (λ ws h. (h.0, (h.1.1.0, tt)))
          (first (instr.Convert to m (kind.Int i) j) tt tt (λ ws h. (h.0, tt)) (done (λ ws h. (h.0, tt)))))) has

      by : (b same : Bool) (m : ℕ) → IsStraight params whole n (x ∷ y ∷ []) (to ∷ []) (λ r.
          if b then instr.Convert t y k word ∷ (if same then instr.Int op i to x (if b then t else y) ∷ r
          else instr.Convert m x j (kind.Int i) ∷ instr.Int op i m m (if b then t else y)
          ∷ instr.Convert to m (kind.Int i) j ∷ r)
          else (if same then instr.Int op i to x (if b then t else y) ∷ r
          else instr.Convert m x j (kind.Int i) ∷ instr.Int op i m m (if b then t else y)
          ∷ instr.Convert to m (kind.Int i) j ∷ r))
      by true same m = first (instr.Convert t y k word) tt tt (λ ws h. h.1)
          (last (t ∷ x ∷ y ∷ []) same m t (λ ws h. (h.1.0, (h.0, tt))))
      by false same m = last (x ∷ y ∷ []) same m y (λ ws h. h)

  changes_capability : (op : IntOp) (s : Bool) (j k : TacKind) (to x y t : ℕ) →
      IsStraight params whole n (x ∷ y ∷ []) (to ∷ []) (operating.changed_capability op s j k to x y t)
  changes_capability op s j k to x y t = follow (addresses op s j k x y t)
      (choose (is_capability j)
      (first (instr.Cap SetAddress to x (Some t)) tt tt (λ ws h. (h.1.0, (h.0, tt))) (done (λ ws h. (h.0, tt))))
      (first (instr.Convert to t (kind.Int (address_kind op s)) j) tt tt (λ ws h. (h.0, tt))
      (done (λ ws h. (h.0, tt)))))

  pub changes : (op : Operation) (j k : TacKind) (at y t : ℕ) →
      IsStraight params whole n (at ∷ y ∷ []) (at ∷ []) (operating.changed op j k at at y t)
  changes (Whole op i count) j k at y t = changes_whole op i j k at at y t
  changes (Derived op s count right plain) j k at y t = changes_capability op s j k at at y t
  changes (Moved size minus left count) j k at y t = moves k (operating.stride size minus) at at y t
  changes (Apart size) j k at y t = done (λ ws h. (h.0, tt))

  pub steps : (op : Operation) (j : TacKind) (c : Kind) (to x t : ℕ) → IsStep op j c →
      IsStraight params whole n (x ∷ []) (to ∷ []) (operating.stepped op j to x t)
  steps (Whole op i count) (kind.Int k) c to x t h = first (instr.Const t (kind.Int k) 1) tt tt (λ ws h. tt)
      (first (instr.Int op k to x t) tt tt (λ ws h. (h.1.0, (h.0, tt))) (done (λ ws h. (h.0, tt))))
  steps (Whole op i count) (kind.Cap z) c to x t h = absurd (no_step op i count z c h)
  steps (Derived Add s count right plain) j c to x t h =
      first (instr.Offset to x (amount.Number 1)) tt tt (λ ws h. h) (done (λ ws h. (h.0, tt)))
  steps (Derived op s count right plain) j c to x t h =
      first (instr.Offset to x (amount.Number (operating.stride 1 true))) tt tt (λ ws h. h) (done (λ ws h. (h.0, tt)))
  steps (Moved size minus left count) j c to x t h =
      first (instr.Offset to x (amount.Number (operating.stride size minus))) tt tt (λ ws h. h)
      (done (λ ws h. (h.0, tt)))
  steps (Apart size) j c to x t h = absurd h

  -- ---- copies of structs and unions

  pub reaches_within : (base offset : ℕ) (m : Mark) →
      IsStraight params whole n (base ∷ []) (within_temp base offset m ∷ []) (within base offset m)
  reaches_within base zero m = done (λ ws h. h)
  reaches_within base (suc n) m = first (instr.Offset m.temps base (amount.Number (suc n))) tt tt (λ ws h. h)
      (done (λ ws h. (h.0, tt)))

  pub reaches : (to : Target) (m : Mark) →
      IsStraight params whole n (base_of to ∷ []) (target_temp to m ∷ []) (target_code to m)
  reaches (Reaches t) m = done (λ ws h. h)
  reaches (Within base offset) m = reaches_within base offset m

  -- ---- services

  serves_by : (w : Work) (to t : ℕ) (ts : List ℕ) (k : TacKind) → IsStraight params whole n (t ∷ ts) (to ∷ [])
      (intrinsic (Works w) (Some to) k t (slice_get ts 0))
  serves_by w to t [] k = first (instr.Cap (cap_of w) to t None) tt tt (λ ws h. h) (done (λ ws h. (h.0, tt)))
  serves_by w to t (u ∷ ts) k =
      first (instr.Cap (cap_of w) to t (Some u)) tt tt (λ ws h. (h.0, (h.1.0, tt))) (done (λ ws h. (h.0, tt)))

  pub serving : (service : Service) (to : Option ℕ) (ks : List TacKind) (ts : List ℕ) → Takes service ks →
      AreAsMany ks ts → IsAsked to (served service (first_kind ks)) →
      IsStraight params whole n ts (in_option to) (serves service to (first_kind ks) ts)
  serving Put_char to ks ts takes many asked = one (instr.Lib lib.PutChar to ts) tt tt
  serving Get_char to ks ts takes many asked = one (instr.Lib lib.GetChar to ts) tt tt
  serving Malloc to ks ts takes many asked = one (instr.Lib lib.Malloc to ts) tt tt
  serving Exit None ks ts takes many asked = one (instr.Lib lib.Exit None ts) tt tt
  serving Exit (Some to) ks ts takes many asked = absurd asked
  serving Address None ks ts takes many asked = nothing ts
  serving Address (Some to) [] ts takes many asked = absurd takes
  serving Address (Some to) (k ∷ ks) [] takes many asked = absurd many
  serving Address (Some to) (k ∷ ks) (t ∷ ts) takes many asked =
      first (instr.Convert to t k word) tt tt (λ ws h. (h.0, tt)) (done (λ ws h. (h.0, tt)))
  serving (Bounds exact) None ks ts takes many asked = nothing ts
  serving (Bounds exact) (Some to) [] ts takes many asked = absurd takes
  serving (Bounds exact) (Some to) (k ∷ ks) [] takes many asked = absurd many
  serving (Bounds exact) (Some to) (kind.Int i ∷ []) (t ∷ ts) takes many asked = absurd takes
  serving (Bounds exact) (Some to) (kind.Cap s ∷ []) (t ∷ ts) takes many asked = absurd takes
  serving (Bounds exact) (Some to) (k ∷ j ∷ ks) (t ∷ []) takes many asked = absurd many
  serving (Bounds exact) (Some to) (k ∷ j ∷ ks) (t ∷ u ∷ ts) takes many asked =
      first (instr.Narrow to t (amount.Temp u) exact) tt tt (λ ws h. (h.0, (h.1.0, tt))) (done (λ ws h. (h.0, tt)))
  serving (Works w) None ks ts takes many asked = nothing ts
  serving (Works w) (Some to) [] ts takes many asked = absurd (some_taken w takes)
  serving (Works w) (Some to) (k ∷ ks) [] takes many asked = absurd many
  serving (Works w) (Some to) (k ∷ ks) (t ∷ ts) takes many asked = serves_by w to t ts k
