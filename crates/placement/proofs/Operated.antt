-- Operations that are made of those that a relation keeps.
use Rattle.std.proofs.Common.{◌≡◌, ℕ, ◌-◌, ◌*◌, ◌^◌, Bool, true, false, List, Result, Ok, Err, refl, sym, subst, arith}
use Rattle.std.specs.Prelude.{if◌then◌else◌, pos}
use Rattle.ck_int.specs.declared.kinds.IntKind.{IntKind}
use Rattle.ck_int.specs.declared.kinds.IntKind.TheVariants as int
use Rattle.ck_int.specs.declared.kinds.IntOp.{IntOp}
use Rattle.ck_int.specs.declared.kinds.IntOp.TheVariants.{Add, Sub, Mul, Div, Rem, And, Or, Xor, Shl, Shr}
use Rattle.ck_int.specs.declared.kinds.CmpOp.{CmpOp}
use Rattle.ck_int.specs.declared.kinds.CmpOp.TheVariants.{Ne}
use Rattle.ck_int.specs.Kinds.{wrapped}
use Rattle.ck_int.proofs.Laws.{wrapped-below, converted-below, IsKept-below, IsKept-binary_of}
use Rattle.obj_mem.specs.Values.{Value, Int}
use Rattle.obj_mem.specs.declared.ending.Fault.{Fault}
use Rattle.obj_mem.specs.declared.ending.Fault.TheVariants as F
use Rattle.obj_mem.specs.Agreement.{Answers}
use Rattle.cheri_c_sem.specs.Kinds.{Kind, Plain, Capability, pointer, zero_of, nothing, truth, number_of, null_at}
use Rattle.cheri_c_sem.specs.Kinds.{read_as, address_kind, int_kind}
use Rattle.cheri_c_sem.specs.Operations.{Operations, Set_address, on_ok, compare_by, is_true, to_int, convert_by}
use Rattle.cheri_c_sem.specs.Operations.{number_by, int_by, derive_by, move_by, is_live, steps_of, capability_by}
use Rattle.cheri_c_sem.specs.Operations.{plus_by, difference_by}
use Rattle.cheri_c_sem.specs.Tree.{Operation, Whole, Derived, Moved, Apart, Sign, Positive, Negative, Complement}
use Rattle.cheri_c_sem.specs.Tree as tree
use Rattle.cheri_c_sem.specs.Meaning.{operate_by, sign_by}
use Rattle.ck_base.specs.World.{World}
use Rattle.placement.specs.Relations.{IsWord, Both, Relation, Keeps}

-- both answers agree, and then so do those that are made of them
pub on_both : {M N A B : Type 0} (ops : Operations M) (pops : Operations N) (P : A → Type 0) (Q : B → Type 0)
    (x y : Result A Fault) (f g : A → Result B Fault) → Answers (Both P) x y
    → ((v : A) → P v → Answers (Both Q) (f v) (g v)) → Answers (Both Q) (on_ok ops f x) (on_ok pops g y)
on_both ops pops P Q (Ok v) (Ok w) f g h q = subst (λ z. Answers (Both Q) (f v) (g z)) h.0 (q v h.1)
on_both ops pops P Q (Ok v) (Err e) f g h q = absurd h
on_both ops pops P Q (Err (F.Cause c)) y f g h q = subst (λ z. Answers (Both Q) (Err (F.Cause c)) (on_ok pops g z))
    (sym h) refl
on_both ops pops P Q (Err F.Outside) y f g h q = tt
on_both ops pops P Q (Err (F.Unspecified u)) y f g h q = tt

-- where nothing is asked of the answer
abbrev pub Anything : {A : Type 0} → A → Type 0
Anything x = Unit {0}

pub unasked : {A : Type 0} (x y : Result A Fault) → Answers ◌≡◌ x y → Answers (Both Anything) x y
unasked (Ok v) (Ok w) h = (h, tt)
unasked (Ok v) (Err e) h = absurd h
unasked (Err (F.Cause c)) y h = h
unasked (Err F.Outside) y h = tt
unasked (Err (F.Unspecified u)) y h = tt

module _ {M N : Type 0} {r : Relation M N} {ops : Operations M} {pops : Operations N} {globals functions : ℕ}
    {funs : List tree.Fun} (k : Keeps r ops pops globals functions funs) (m : M) where
  abbrev Good : Value → Type 0
  Good v = r.good m v

  zero_good : (j : Kind) → Good (zero_of j)
  zero_good (Plain i) = k.words m 0 (omega arith)
  zero_good (Capability signed) = k.nulls m 0 (omega arith)

  pub nothing_good : Good nothing
  nothing_good = k.words m 0 (omega arith)

  pub truth_good : (b : Bool) → Good (truth b)
  truth_good true = k.words m 1 (omega arith)
  truth_good false = k.words m 0 (omega arith)

  pub read_good : (j : Kind) (x : Value) → Good x → Good (read_as j x)
  read_good (Plain i) x g = k.words m _ (wrapped-below i (pos (number_of x)))
  read_good (Capability signed) x g = g

  module _ (w : World) (objects first frame : ℕ) (n : N) (e : r.stand objects first frame m n) where
    pub compared : (op : CmpOp) (j : Kind) (x y : Value) → Good x → Good y
        → Answers ◌≡◌ (compare_by ops m op j x y) (compare_by pops n op j x y)
    compared op (Plain i) x y g h = refl
    compared op (Capability signed) x y g h = k.comparisons objects first frame m n e op signed x y g h

    pub tested : (j : Kind) (x : Value) → Good x → Answers ◌≡◌ (is_true ops m j x) (is_true pops n j x)
    tested j x g = compared Ne j x (zero_of j) g (zero_good j)

    wrapped_answer : (i : IntKind) (x : Value) → Good x
        → Answers (Both Good) (on_ok ops (λ a. Ok (Int (wrapped i (pos a)))) (ops.address m x))
        (on_ok pops (λ a. Ok (Int (wrapped i (pos a)))) (pops.address n x))
    wrapped_answer i x g = on_both ops pops IsWord Good _ _ _ _ (k.addresses objects first frame m n e x g)
        (λ a h. (refl, k.words m _ (wrapped-below i (pos a))))

    to_int_answer : (i : IntKind) (x : Value) → Good x → Answers (Both Good) (to_int ops m i x) (to_int pops n i x)
    to_int_answer int.Bool x g = on_both ops pops Anything Good _ _ _ _ (unasked _ _ (tested pointer x g))
        (λ b h. (refl, truth_good b))
    to_int_answer int.I8 x g = wrapped_answer int.I8 x g
    to_int_answer int.U8 x g = wrapped_answer int.U8 x g
    to_int_answer int.I16 x g = wrapped_answer int.I16 x g
    to_int_answer int.U16 x g = wrapped_answer int.U16 x g
    to_int_answer int.I32 x g = wrapped_answer int.I32 x g
    to_int_answer int.U32 x g = wrapped_answer int.U32 x g
    to_int_answer int.I64 x g = wrapped_answer int.I64 x g
    to_int_answer int.U64 x g = wrapped_answer int.U64 x g

    pub converts : (old new : Kind) (x : Value) → Good x → Answers (Both Good) (convert_by ops m old new x)
        (convert_by pops n old new x)
    converts (Plain i) (Plain j) x g = (refl, k.words m _ (converted-below i j (number_of x)))
    converts (Plain i) (Capability signed) x g = (refl, k.nulls m _ (k.word m x g))
    converts (Capability signed) (Plain j) x g = to_int_answer j x g
    converts (Capability signed) (Capability signed') x g = (refl, g)

    numbered : (j : Kind) (x : Value) → Good x → Answers (Both IsWord) (number_by ops m j x) (number_by pops n j x)
    numbered (Plain i) x g = (refl, k.word m x g)
    numbered (Capability signed) x g = k.addresses objects first frame m n e x g

    integers : (op : IntOp) (i : IntKind) (count : Kind) (x y : Value) → Good x → Good y
        → Answers (Both Good) (int_by ops m op i count x y) (int_by pops n op i count x y)
    integers op i count x y g h = on_both ops pops IsWord Good _ _ _ _ (numbered count y h) (λ b q.
        on_both ops pops IsWord Good _ _ _ _ (k.ints op i (int_kind count) (number_of x) b)
        (λ v z. (refl, k.words m v z)))

    of_two : (right : Bool) (x y : Value) → Good x → Good y → Good (if right then y else x)
    of_two true x y g h = h
    of_two false x y g h = g

    derives : (op : IntOp) (signed : Bool) (count : Kind) (right : Bool) (x y : Value) → Good x → Good y
        → Answers (Both Good) (derive_by ops m op signed count right x y) (derive_by pops n op signed count right x y)
    derives op signed count right x y g h =
        on_both ops pops IsWord Good _ _ _ _ (k.addresses objects first frame m n e x g) (λ a p.
        on_both ops pops IsWord Good _ _ _ _ (numbered count y h) (λ b q.
        on_both ops pops IsWord Good _ _ _ _ (k.ints op (address_kind signed) (int_kind count) a b) (λ v z.
        k.works objects first frame m n e Set_address (if right then y else x) (Int v) (of_two right x y g h)
        (k.words m v z))))

    -- a pointer that is moved where it points to an object, and a result that derives from it elsewhere
    moves_or_derives : (live : Bool) (minus : Bool) (by : Value) (to : Value) (count : Kind) (op : IntOp)
        (signed right : Bool) (x y : Value) → Good by → Good to → Good x → Good y
        → Answers (Both Good) (if live then on_ok ops (move_by ops m minus to) (number_by ops m count by)
        else derive_by ops m op signed count right x y)
        (if live then on_ok pops (move_by pops n minus to) (number_by pops n count by) else derive_by pops n op
        signed count right x y)
    moves_or_derives true minus by to count op signed right x y gb gt gx gy =
        on_both ops pops IsWord Good _ _ _ _ (numbered count by gb)
        (λ a p. k.offsets objects first frame m n e to (steps_of ops minus a) gt)
    moves_or_derives false minus by to count op signed right x y gb gt gx gy = derives op signed count right x y gx gy

    addressed_or_derives : (live : Bool) (by : Value) (to : Value) (count : Kind) (op : IntOp) (signed right : Bool)
        (x y : Value) → Good by → Good to → Good x → Good y
        → Answers (Both Good) (if live then on_ok ops (move_by ops m false to) (ops.address m by) else derive_by ops
        m op signed count right x y)
        (if live then on_ok pops (move_by pops n false to) (pops.address n by) else derive_by pops n op signed count
        right x y)
    addressed_or_derives true by to count op signed right x y gb gt gx gy =
        on_both ops pops IsWord Good _ _ _ _ (k.addresses objects first frame m n e by gb)
        (λ a p. k.offsets objects first frame m n e to (steps_of ops false a) gt)
    addressed_or_derives false by to count op signed right x y gb gt gx gy = derives op signed count right x y gx gy

    capabilities : (op : IntOp) (signed : Bool) (count : Kind) (right plain : Bool) (x y : Value) → Good x → Good y
        → Answers (Both Good) (capability_by ops m op signed count right plain x y)
        (capability_by pops n op signed count right plain x y)
    capabilities Add signed count false true x y g h = moves_or_derives (is_live ops x) false y x count Add signed
        false x y h g g h
    capabilities Add signed count true true x y g h = addressed_or_derives (is_live ops y) x y count Add signed true
        x y g h g h
    capabilities Add signed count false false x y g h = derives Add signed count false x y g h
    capabilities Add signed count true false x y g h = derives Add signed count true x y g h
    capabilities Sub signed count false true x y g h = moves_or_derives (is_live ops x) true y x count Sub signed
        false x y h g g h
    capabilities Sub signed count false false x y g h = derives Sub signed count false x y g h
    capabilities Sub signed count true plain x y g h = derives Sub signed count true x y g h
    capabilities Mul signed count right plain x y g h = derives Mul signed count right x y g h
    capabilities Div signed count right plain x y g h = derives Div signed count right x y g h
    capabilities Rem signed count right plain x y g h = derives Rem signed count right x y g h
    capabilities And signed count right plain x y g h = derives And signed count right x y g h
    capabilities Or signed count right plain x y g h = derives Or signed count right x y g h
    capabilities Xor signed count right plain x y g h = derives Xor signed count right x y g h
    capabilities Shl signed count right plain x y g h = derives Shl signed count right x y g h
    capabilities Shr signed count right plain x y g h = derives Shr signed count right x y g h

    sums : (size : ℕ) (minus : Bool) (index : Kind) (x y : Value) → Good x → Good y
        → Answers (Both Good) (plus_by ops m size minus index x y) (plus_by pops n size minus index x y)
    sums size minus index x y g h = on_both ops pops IsWord Good _ _ _ _ (numbered index y h)
        (λ a p. k.offsets objects first frame m n e x (steps_of ops minus (a * size)) g)

    distances : (size : ℕ) (x y : Value) → Good x → Good y → Answers (Both Good) (difference_by ops m size x y)
        (difference_by pops n size x y)
    distances size x y g h =
        on_both ops pops Anything Good _ _ _ _ (unasked _ _ (k.differences objects first frame m n e x y g h)) (λ d p.
        (refl, k.words m _ (IsKept-below int.I64 _ (IsKept-binary_of Div int.I64 d size))))

    pub operates : (op : Operation) (x y : Value) → Good x → Good y → Answers (Both Good) (operate_by ops w op m x y)
        (operate_by pops w op n x y)
    operates (Whole op i count) x y g h = integers op i count x y g h
    operates (Derived op signed count right plain) x y g h = capabilities op signed count right plain x y g h
    operates (Moved size minus false index) x y g h = sums size minus index x y g h
    operates (Moved size minus true index) x y g h = sums size minus index y x h g
    operates (Apart size) x y g h = distances size x y g h

    pub signs : (sign : Sign) (j : Kind) (x : Value) → Good x → Answers (Both Good) (sign_by ops w sign j m x)
        (sign_by pops w sign j n x)
    signs Positive (Plain i) x g = (refl, g)
    signs Negative (Plain i) x g = integers Sub i (Plain i) (Int 0) x (k.words m 0 (omega arith)) g
    signs Complement (Plain i) x g = integers Xor i (Plain i) (Int (2 ^ 64 - 1)) x (k.words m _ (omega arith)) g
    signs Positive (Capability signed) x g = derives Xor signed (Capability signed) true (null_at 0) x
        (k.nulls m 0 (omega arith)) g
    signs Negative (Capability signed) x g = derives Sub signed (Capability signed) true (null_at 0) x
        (k.nulls m 0 (omega arith)) g
    signs Complement (Capability signed) x g = derives Xor signed (Capability signed) true (null_at (2 ^ 64 - 1)) x
        (k.nulls m _ (omega arith)) g
