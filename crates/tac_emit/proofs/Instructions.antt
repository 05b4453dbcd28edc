-- Which instructions are well formed, each by the kinds of the temps that it names.
use Rattle.std.proofs.Common.{◌≡◌, ℕ, ◌<◌, Bool, true, false, List, length, Some, None, Option, refl, ap, ◌∙◌, arith}
use Rattle.std.proofs.Common.{if◌then◌else◌}
use Rattle.std.specs.Prelude.{◌&&◌}
use Rattle.std.proofs.lemmas.Bool.Decides.{nat_tests}
use Rattle.std.proofs.lemmas.Option.{slice_get_within, get_or_from_slice_get}
use Rattle.ck_base.specs.declared.positions.Pos.{Pos}
use Rattle.ck_int.specs.declared.kinds.IntKind.{IntKind}
use Rattle.ck_int.specs.declared.kinds.IntKind.TheVariants as int
use Rattle.ck_int.specs.declared.kinds.IntOp.{IntOp}
use Rattle.ck_int.specs.declared.kinds.CmpOp.{CmpOp}
use Rattle.c_tree.specs.declared.typed.FunDef.{FunDef}
use Rattle.c_tree.specs.declared.typed.Typed.{Typed}
use Rattle.cheri_c_sem.specs.Compatible.{kind_number, same_bool}
use Rattle.cheri_c_sem.specs.Kinds.{Kind, Plain, Capability}
use Rattle.cheri_c_sem.specs.Types.{is_shift}
use Rattle.tac_ir.specs.Effects.{kind_of, kind_at}
use Rattle.tac_ir.specs.WellFormed as wf
use Rattle.tac_ir.specs.WellFormed.{same_kind, constant_fits, units_fit, has, has_int, has_capability, is_temp}
use Rattle.tac_ir.specs.WellFormed.{amount_fits}
use Rattle.tac_ir.specs.declared.code.Amount.{Amount}
use Rattle.tac_ir.specs.declared.code.Amount.TheVariants as amount
use Rattle.tac_ir.specs.declared.code.CapWork.{CapWork}
use Rattle.tac_ir.specs.declared.code.CapWork.TheVariants as cap
use Rattle.tac_ir.specs.declared.code.TacInstr.{TacInstr}
use Rattle.tac_ir.specs.declared.code.TacInstr.TheVariants as instr
use Rattle.tac_ir.specs.declared.code.TacKind.{TacKind}
use Rattle.tac_ir.specs.declared.code.TacKind.TheVariants as kind
use Rattle.tac_emit.specs.declared.emitter.Emitter.{Emitter}
use Rattle.tac_emit.specs.Emitted.{HasKind, is_capability, HasInt, HasCapability, Keeps, AmountFits, CountFits}
use Rattle.tac_emit.specs.Emitted.{SameKind, SameCapability, IsWide, WorkFits, Pushed, Grown}
use Rattle.tac_emit.proofs.Wells.{and_true, or_left, or_right, same_number, LastsAnywhere, pushed_grown}

and_three : (a b c : Bool) → a ≡ true → b ≡ true → c ≡ true → (a && b && c) ≡ true
and_three true b c x y z = and_true b c y z
and_three false b c x y z = absurd cc

same_bool_same : (b : Bool) → same_bool b b ≡ true
same_bool_same true = refl
same_bool_same false = refl

pub same_kind_same : (k : Kind) → same_kind k k ≡ true
same_kind_same (Plain j) = same_number (kind_number j)
same_kind_same (Capability s) = same_bool_same s

module _ (e : Emitter) (p : Typed) (d : FunDef) (kinds : List TacKind) (whole : List TacInstr)
    (keeps : Keeps e.kinds.items kinds) where
  pub temp_of : (t : ℕ) (k : TacKind) → HasKind e t k → is_temp p d kinds whole t ≡ true
  temp_of t k h = let lt : t < length kinds = slice_get_within kinds t k (keeps.kept t k h.there) in
      grind (arith, nat_tests)

  pub kind_of_temp : (t : ℕ) (k : TacKind) → HasKind e t k → kind_at kinds t ≡ kind_of k
  kind_of_temp t k h = ap kind_of (get_or_from_slice_get kinds t k (kind.Int int.I32) (keeps.kept t k h.there))

  pub has_of : (t : ℕ) (k : TacKind) → HasKind e t k → has p d kinds whole t (kind_of k) ≡ true
  has_of t k h =
      and_true (is_temp p d kinds whole t) (same_kind (kind_at kinds t) (kind_of k)) (temp_of t k h)
      (ap (λ z. same_kind z (kind_of k)) (kind_of_temp t k h) ∙ same_kind_same (kind_of k))

  -- a temp has the kind of another one
  pub has_as : (t u : ℕ) (k : TacKind) → HasKind e t k → HasKind e u k → has p d kinds whole t (kind_at kinds u) ≡ true
  has_as t u k h g = ap (λ z. has p d kinds whole t z) (kind_of_temp u k g) ∙ has_of t k h

  int_by : (k : TacKind) → is_capability k ≡ false → wf.is_int (kind_of k) ≡ true
  int_by (kind.Int k) h = refl
  int_by (kind.Cap s) h = absurd cc

  capability_by : (k : TacKind) → is_capability k ≡ true → wf.is_capability (kind_of k) ≡ true
  capability_by (kind.Int k) h = absurd cc
  capability_by (kind.Cap s) h = refl

  pub int_of : (t : ℕ) → HasInt e t → has_int p d kinds whole t ≡ true
  int_of t h =
      and_true (is_temp p d kinds whole t) (wf.is_int (kind_at kinds t)) (temp_of t h.kind h.has)
      (ap wf.is_int (kind_of_temp t h.kind h.has) ∙ int_by h.kind h.is)

  pub capability_of : (t : ℕ) → HasCapability e t → has_capability p d kinds whole t ≡ true
  capability_of t h =
      and_true (is_temp p d kinds whole t) (wf.is_capability (kind_at kinds t)) (temp_of t h.kind h.has)
      (ap wf.is_capability (kind_of_temp t h.kind h.has) ∙ capability_by h.kind h.is)

  amount_of : (a : Amount) → AmountFits e a → amount_fits p d kinds whole a ≡ true
  amount_of (amount.Temp t) h = int_of t h
  amount_of (amount.Number n) h = refl

  count_of : (op : IntOp) (k : IntKind) (t : ℕ) (b : Bool) → CountFits e b k t →
      (if b then has_int p d kinds whole t else has p d kinds whole t (Plain k)) ≡ true
  count_of op k t true h = int_of t h
  count_of op k t false h = has_of t (kind.Int k) h

  capability_is : (t : ℕ) (s : Bool) → HasKind e t (kind.Cap s) → has_capability p d kinds whole t ≡ true
  capability_is t s h = capability_of t (record { kind = kind.Cap s; has = h; is = refl })

-- ---- one by one

module _ (e : Emitter) where
  pub const_lasts : (to : ℕ) (k : TacKind) (v : ℕ) → HasKind e to k → constant_fits k v ≡ true →
      LastsAnywhere e (instr.Const to k v)
  const_lasts to k v h c = record {
    plain = refl;
    fits = λ p d kinds whole keeps. and_true (has p d kinds whole to (kind_of k)) (constant_fits k v)
        (has_of e p d kinds whole keeps to k h) c;
  }

  pub copy_lasts : (to from : ℕ) → SameKind e to from → LastsAnywhere e (instr.Copy to from)
  copy_lasts to from h = record {
    plain = refl;
    fits = λ p d kinds whole keeps.
        and_true (has p d kinds whole to (kind_at kinds from)) (is_temp p d kinds whole from)
        (has_as e p d kinds whole keeps to from h.kind h.to h.from)
        (temp_of e p d kinds whole keeps from h.kind h.from);
  }

  pub int_lasts : (op : IntOp) (k : IntKind) (to a b : ℕ) → HasKind e to (kind.Int k) → HasKind e a (kind.Int k) →
      CountFits e (is_shift op) k b → LastsAnywhere e (instr.Int op k to a b)
  int_lasts op k to a b h f g = record {
    plain = refl;
    fits = λ p d kinds whole keeps.
        and_three (has p d kinds whole to (Plain k)) (has p d kinds whole a (Plain k))
        (if is_shift op then has_int p d kinds whole b else has p d kinds whole b (Plain k))
        (has_of e p d kinds whole keeps to (kind.Int k) h) (has_of e p d kinds whole keeps a (kind.Int k) f)
        (count_of e p d kinds whole keeps op k b (is_shift op) g);
  }

  pub compare_lasts : (op : CmpOp) (k : TacKind) (to a b : ℕ) → HasKind e to (kind.Int int.I32) → HasKind e a k →
      HasKind e b k → LastsAnywhere e (instr.Cmp op k to a b)
  compare_lasts op k to a b h f g = record {
    plain = refl;
    fits = λ p d kinds whole keeps.
        and_three (has p d kinds whole to wf.int_result) (has p d kinds whole a (kind_of k))
        (has p d kinds whole b (kind_of k))
        (has_of e p d kinds whole keeps to (kind.Int int.I32) h) (has_of e p d kinds whole keeps a k f)
        (has_of e p d kinds whole keeps b k g);
  }

  pub convert_lasts : (to from : ℕ) (old new : TacKind) → HasKind e to new → HasKind e from old →
      LastsAnywhere e (instr.Convert to from old new)
  convert_lasts to from old new h g = record {
    plain = refl;
    fits = λ p d kinds whole keeps.
        and_true (has p d kinds whole to (kind_of new)) (has p d kinds whole from (kind_of old))
        (has_of e p d kinds whole keeps to new h) (has_of e p d kinds whole keeps from old g);
  }

  pub offset_lasts : (to base : ℕ) (by : Amount) → SameCapability e to base → AmountFits e by →
      LastsAnywhere e (instr.Offset to base by)
  offset_lasts to base by h g = record {
    plain = refl;
    fits = λ p d kinds whole keeps.
        and_three (has p d kinds whole to (kind_at kinds base)) (has_capability p d kinds whole base)
        (amount_fits p d kinds whole by)
        (has_as e p d kinds whole keeps to base h.kind h.to h.from)
        (capability_of e p d kinds whole keeps base (record { kind = h.kind; has = h.from; is = h.is }))
        (amount_of e p d kinds whole keeps by g);
  }

  pub narrow_lasts : (to base : ℕ) (by : Amount) (exact : Bool) → SameCapability e to base → AmountFits e by →
      LastsAnywhere e (instr.Narrow to base by exact)
  narrow_lasts to base by exact h g = record {
    plain = refl;
    fits = λ p d kinds whole keeps.
        and_three (has p d kinds whole to (kind_at kinds base)) (has_capability p d kinds whole base)
        (amount_fits p d kinds whole by)
        (has_as e p d kinds whole keeps to base h.kind h.to h.from)
        (capability_of e p d kinds whole keeps base (record { kind = h.kind; has = h.from; is = h.is }))
        (amount_of e p d kinds whole keeps by g);
  }

  pub load_lasts : (to from : ℕ) (k : TacKind) (at : Pos) → HasKind e to k → HasCapability e from →
      LastsAnywhere e (instr.Load to from k at)
  load_lasts to from k at h g = record {
    plain = refl;
    fits = λ p d kinds whole keeps.
        and_true (has p d kinds whole to (kind_of k)) (has_capability p d kinds whole from)
        (has_of e p d kinds whole keeps to k h) (capability_of e p d kinds whole keeps from g);
  }

  pub store_lasts : (at v : ℕ) (k : TacKind) (place : Pos) → HasCapability e at → HasKind e v k →
      LastsAnywhere e (instr.Store at v k place)
  store_lasts at v k place h g = record {
    plain = refl;
    fits = λ p d kinds whole keeps.
        and_true (has_capability p d kinds whole at) (has p d kinds whole v (kind_of k))
        (capability_of e p d kinds whole keeps at h) (has_of e p d kinds whole keeps v k g);
  }

  pub copy_units_lasts : (from to bytes unit : ℕ) (from_pos to_pos : Pos) → HasCapability e from → HasCapability e to →
      units_fit bytes unit ≡ true → LastsAnywhere e (instr.CopyUnits from to bytes unit from_pos to_pos)
  copy_units_lasts from to bytes unit from_pos to_pos h g u = record {
    plain = refl;
    fits = λ p d kinds whole keeps.
        and_three (has_capability p d kinds whole from) (has_capability p d kinds whole to) (units_fit bytes unit)
        (capability_of e p d kinds whole keeps from h) (capability_of e p d kinds whole keeps to g) u;
  }

  pub work_lasts : (op : CapWork) (to a : ℕ) (b : Option ℕ) → WorkFits e op to a b →
      LastsAnywhere e (instr.Cap op to a b)
  work_lasts op to a b h = record {
    plain = refl;
    fits = λ p d kinds whole keeps. work_by p d kinds whole keeps op a b h;
  }
    where
      asked : (p : Typed) (d : FunDef) (kinds : List TacKind) (whole : List TacInstr) → Keeps e.kinds.items kinds →
          (k : TacKind) (a : ℕ) → HasKind e to k → HasCapability e a →
          (has p d kinds whole to (kind_of k) && has_capability p d kinds whole a && true) ≡ true
      asked p d kinds whole keeps k a f g =
          and_three (has p d kinds whole to (kind_of k)) (has_capability p d kinds whole a) true
          (has_of e p d kinds whole keeps to k f) (capability_of e p d kinds whole keeps a g) refl

      made : (p : Typed) (d : FunDef) (kinds : List TacKind) (whole : List TacInstr) → Keeps e.kinds.items kinds →
          (a : ℕ) (c : Bool) → SameCapability e to a → c ≡ true →
          (has p d kinds whole to (kind_at kinds a) && has_capability p d kinds whole a && c) ≡ true
      made p d kinds whole keeps a c h x =
          and_three (has p d kinds whole to (kind_at kinds a)) (has_capability p d kinds whole a) c
          (has_as e p d kinds whole keeps to a h.kind h.to h.from)
          (capability_of e p d kinds whole keeps a (record { kind = h.kind; has = h.from; is = h.is })) x

      words : (p : Typed) (d : FunDef) (kinds : List TacKind) (whole : List TacInstr) → Keeps e.kinds.items kinds →
          (a : ℕ) → HasKind e to (kind.Int int.U64) → HasKind e a (kind.Int int.U64) →
          (has p d kinds whole to wf.word && has p d kinds whole a wf.word && true) ≡ true
      words p d kinds whole keeps a f g =
          and_three (has p d kinds whole to wf.word) (has p d kinds whole a wf.word) true
          (has_of e p d kinds whole keeps to (kind.Int int.U64) f)
          (has_of e p d kinds whole keeps a (kind.Int int.U64) g) refl

      address : (p : Typed) (d : FunDef) (kinds : List TacKind) (whole : List TacInstr) → Keeps e.kinds.items kinds →
          (b : ℕ) (k : TacKind) → IsWide k → HasKind e b k → wf.second_is_address p d kinds whole (Some b) ≡ true
      address p d kinds whole keeps b (kind.Int int.U64) w h =
          or_left (has p d kinds whole b wf.word) (has p d kinds whole b (Plain int.I64))
          (has_of e p d kinds whole keeps b (kind.Int int.U64) h)
      address p d kinds whole keeps b (kind.Int int.I64) w h =
          or_right (has p d kinds whole b wf.word) (has p d kinds whole b (Plain int.I64))
          (has_of e p d kinds whole keeps b (kind.Int int.I64) h)
      address p d kinds whole keeps b k w h = absurd w

      work_by : (p : Typed) (d : FunDef) (kinds : List TacKind) (whole : List TacInstr) → Keeps e.kinds.items kinds →
          (op : CapWork) (a : ℕ) (b : Option ℕ) → WorkFits e op to a b → wf.work_fits p d kinds whole op to a b ≡ true
      work_by p d kinds whole keeps cap.Base a None h = asked p d kinds whole keeps (kind.Int int.U64) a h.0 h.1
      work_by p d kinds whole keeps cap.Offset a None h = asked p d kinds whole keeps (kind.Int int.U64) a h.0 h.1
      work_by p d kinds whole keeps cap.Length a None h = asked p d kinds whole keeps (kind.Int int.U64) a h.0 h.1
      work_by p d kinds whole keeps cap.Perms a None h = asked p d kinds whole keeps (kind.Int int.U64) a h.0 h.1
      work_by p d kinds whole keeps cap.Tag a None h = asked p d kinds whole keeps (kind.Int int.Bool) a h.0 h.1
      work_by p d kinds whole keeps cap.Clear a None h = made p d kinds whole keeps a true h refl
      work_by p d kinds whole keeps cap.SetAddress a (Some b) h =
          made p d kinds whole keeps a (wf.second_is_address p d kinds whole (Some b)) h.0
          (address p d kinds whole keeps b h.1.kind h.1.wide h.1.has)
      work_by p d kinds whole keeps cap.AndPerms a (Some b) h =
          made p d kinds whole keeps a (has p d kinds whole b wf.word) h.0
          (has_of e p d kinds whole keeps b (kind.Int int.U64) h.1)
      work_by p d kinds whole keeps cap.EqualExact a (Some b) h =
          and_three (has p d kinds whole to (Plain int.Bool)) (has_capability p d kinds whole a)
          (has_capability p d kinds whole b)
          (has_of e p d kinds whole keeps to (kind.Int int.Bool) h.0) (capability_of e p d kinds whole keeps a h.1)
          (capability_of e p d kinds whole keeps b h.2)
      work_by p d kinds whole keeps cap.Rounded a None h = words p d kinds whole keeps a h.0 h.1
      work_by p d kinds whole keeps cap.Mask a None h = words p d kinds whole keeps a h.0 h.1
      work_by p d kinds whole keeps op a b h = absurd h

-- ---- one by one, where they are added

pub const_grown : (a b : Emitter) (to : ℕ) (k : TacKind) (v : ℕ) → HasKind a to k → constant_fits k v ≡ true →
    Pushed a b (instr.Const to k v) → Grown a b
const_grown a b to k v f g q = pushed_grown a b (instr.Const to k v) q (const_lasts a to k v f g)

pub copy_grown : (a b : Emitter) (to from : ℕ) → SameKind a to from → Pushed a b (instr.Copy to from) → Grown a b
copy_grown a b to from f q = pushed_grown a b (instr.Copy to from) q (copy_lasts a to from f)

pub int_grown : (a b : Emitter) (op : IntOp) (k : IntKind) (to x y : ℕ) → HasKind a to (kind.Int k) →
    HasKind a x (kind.Int k) → CountFits a (is_shift op) k y → Pushed a b (instr.Int op k to x y) → Grown a b
int_grown a b op k to x y f g h q = pushed_grown a b (instr.Int op k to x y) q (int_lasts a op k to x y f g h)

pub compare_grown : (a b : Emitter) (op : CmpOp) (k : TacKind) (to x y : ℕ) → HasKind a to (kind.Int int.I32) →
    HasKind a x k → HasKind a y k → Pushed a b (instr.Cmp op k to x y) → Grown a b
compare_grown a b op k to x y f g h q = pushed_grown a b (instr.Cmp op k to x y) q (compare_lasts a op k to x y f g h)

pub convert_grown : (a b : Emitter) (to from : ℕ) (old new : TacKind) → HasKind a to new → HasKind a from old →
    Pushed a b (instr.Convert to from old new) → Grown a b
convert_grown a b to from old new f g q =
    pushed_grown a b (instr.Convert to from old new) q (convert_lasts a to from old new f g)

pub offset_grown : (a b : Emitter) (to base : ℕ) (by : Amount) → SameCapability a to base → AmountFits a by →
    Pushed a b (instr.Offset to base by) → Grown a b
offset_grown a b to base by f g q = pushed_grown a b (instr.Offset to base by) q (offset_lasts a to base by f g)

pub narrow_grown : (a b : Emitter) (to base : ℕ) (by : Amount) (exact : Bool) → SameCapability a to base →
    AmountFits a by → Pushed a b (instr.Narrow to base by exact) → Grown a b
narrow_grown a b to base by exact f g q =
    pushed_grown a b (instr.Narrow to base by exact) q (narrow_lasts a to base by exact f g)

pub load_grown : (a b : Emitter) (to from : ℕ) (k : TacKind) (at : Pos) → HasKind a to k → HasCapability a from →
    Pushed a b (instr.Load to from k at) → Grown a b
load_grown a b to from k at f g q = pushed_grown a b (instr.Load to from k at) q (load_lasts a to from k at f g)

pub store_grown : (a b : Emitter) (at v : ℕ) (k : TacKind) (place : Pos) → HasCapability a at → HasKind a v k →
    Pushed a b (instr.Store at v k place) → Grown a b
store_grown a b at v k place f g q = pushed_grown a b (instr.Store at v k place) q (store_lasts a at v k place f g)

pub copy_units_grown : (a b : Emitter) (from to bytes unit : ℕ) (from_pos to_pos : Pos) → HasCapability a from →
    HasCapability a to → units_fit bytes unit ≡ true → Pushed a b (instr.CopyUnits from to bytes unit from_pos to_pos) →
    Grown a b
copy_units_grown a b from to bytes unit from_pos to_pos f g h q =
    pushed_grown a b (instr.CopyUnits from to bytes unit from_pos to_pos) q
    (copy_units_lasts a from to bytes unit from_pos to_pos f g h)

pub work_grown : (a b : Emitter) (op : CapWork) (to x : ℕ) (y : Option ℕ) → WorkFits a op to x y →
    Pushed a b (instr.Cap op to x y) → Grown a b
work_grown a b op to x y f q = pushed_grown a b (instr.Cap op to x y) q (work_lasts a op to x y f)
