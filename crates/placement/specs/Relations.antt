-- What a relation of two memories has to keep for two runs of one program over them to agree.
use Rattle.std.specs.Prelude.{◌≡◌, ℕ, ◌+◌, ◌<◌, ◌^◌, Bool, List, [], ◌∷◌, length, Option, Some, None, slice_get}
use Rattle.ck_int.specs.declared.kinds.IntKind.{IntKind}
use Rattle.ck_int.specs.declared.kinds.IntOp.{IntOp}
use Rattle.ck_int.specs.declared.kinds.CmpOp.{CmpOp}
use Rattle.ck_int.specs.declared.kinds.CmpOp.TheVariants.{Eq}
use Rattle.cap_ops.specs.Permissions.{data_permissions}
use Rattle.obj_mem.specs.Values.{Value, Int, Fun}
use Rattle.obj_mem.specs.Agreement.{Answers, CopyAnswers}
use Rattle.cheri_c_sem.specs.Kinds.{Kind, bytes_of, null_at, number_of}
use Rattle.cheri_c_sem.specs.Operations.{Operations, Work}
use Rattle.cheri_c_sem.specs.Calls.{add_locals, end_locals}
use Rattle.cheri_c_sem.specs.Tree as tree

abbrev pub IsWord : ℕ → Type 0
IsWord n = n < 2 ^ 64

-- both runs have the same, and it is P
abbrev pub Both : {A : Type 0} → (A → Type 0) → A → A → Type 0
Both P x y = (x ≡ y) × P x

-- Between two memories: what values a run over the first one has; that the two stand for one another in a call whose
-- objects are so many from a number on, and whose frame has this address in the second one; and that the second two
-- come of the first two by running on in one call
pub record Relation (M N : Type 0) : Type 1 where
  pub good : M → Value → Type 0
  pub stand : (objects first frame : ℕ) → M → N → Type 0
  pub later : M → N → M → N → Type 0

-- running on is an order, and what is good stays good
pub record Order {M N : Type 0} (r : Relation M N) : Type 0 where
  pub same : (m : M) (n : N) → r.later m n m n
  pub twice : (m m' m'' : M) (n n' n'' : N) → r.later m n m' n' → r.later m' n' m'' n'' → r.later m n m'' n''
  pub climbs : (m m' : M) (n n' : N) (v : Value) → r.later m n m' n' → r.good m v → r.good m' v

module _ {M N : Type 0} (r : Relation M N) where
  abbrev pub AllGood : M → List Value → Type 0
  AllGood m [] = Unit {0}
  AllGood m (v ∷ vs) = r.good m v × AllGood m vs

  -- the values of variables
  abbrev pub VarsGood : M → List (Option Value) → Type 0
  VarsGood m [] = Unit {0}
  VarsGood m (None ∷ vs) = VarsGood m vs
  VarsGood m (Some v ∷ vs) = r.good m v × VarsGood m vs

  -- what a step that changes memories makes of them
  abbrev pub Moved : (objects first frame : ℕ) → M → N → M → N → Type 0
  Moved objects first frame m n m' n' = r.stand objects first frame m' n' × r.later m n m' n'

  module _ (ops : Operations M) (pops : Operations N) (globals functions : ℕ) where
    abbrev pub Standing : ((objects first frame : ℕ) → M → N → Type 0) → Type 0
    Standing Q = (objects first frame : ℕ) (m : M) (n : N) → r.stand objects first frame m n → Q objects first frame m n

    -- a call of function i, which has objects of these lengths, where the second run has a frame for it: the memories
    -- stand for one another in the call, and when its objects end they do so in the caller again
    pub record Entry (objects first frame : ℕ) (m : M) (n : N) (i : ℕ) (lengths : List ℕ) (at here : ℕ) : Type 0 where
      pub number : ops.count m ≡ pops.count n
      pub stand : r.stand (length lengths) (ops.count m) here (add_locals ops m at i 0 lengths)
          (add_locals pops n here i 0 lengths)
      pub climbs : (v : Value) → r.good m v → r.good (add_locals ops m at i 0 lengths) v
      pub leaves : (m' : M) (n' : N) → r.stand (length lengths) (ops.count m) here m' n'
          → r.later (add_locals ops m at i 0 lengths) (add_locals pops n here i 0 lengths) m' n'
          → Moved objects first frame m n (end_locals ops m' (ops.count m) lengths)
          (end_locals pops n' (ops.count m) lengths)
      pub keeps : (m' : M) (v : Value) → r.good m' v → r.good (end_locals ops m' (ops.count m) lengths) v

    pub record Keeps (funs : List tree.Fun) : Type 0 where
      pub order : Order r
      -- values
      pub words : (m : M) (x : ℕ) → IsWord x → r.good m (Int x)
      pub word : (m : M) (v : Value) → r.good m v → IsWord (number_of v)
      pub nulls : (m : M) (x : ℕ) → IsWord x → r.good m (null_at x)
      pub sentries : (m : M) (f : ℕ) → f < functions → r.good m (Fun f)
      -- operations on values
      pub ints : (op : IntOp) (k count : IntKind) (x y : ℕ) → Answers (Both IsWord) (ops.int op k count x y)
          (pops.int op k count x y)
      pub addresses : Standing
          (λ _ _ _ m n. (v : Value) → r.good m v → Answers (Both IsWord) (ops.address m v) (pops.address n v))
      pub comparisons : Standing (λ _ _ _ m n. (op : CmpOp) (signed : Bool) (v w : Value) → r.good m v → r.good m w
          → Answers ◌≡◌ (ops.compare m op signed v w) (pops.compare n op signed v w))
      -- with the label of a `switch`, whatever it is
      pub labels : Standing (λ _ _ _ m n. (signed : Bool) (v : Value) (c : ℕ) → r.good m v
          → Answers ◌≡◌ (ops.compare m Eq signed v (null_at c)) (pops.compare n Eq signed v (null_at c)))
      pub differences : Standing
          (λ _ _ _ m n. (v w : Value) → r.good m v → r.good m w
          → Answers ◌≡◌ (ops.difference m v w) (pops.difference n v w))
      pub offsets : Standing (λ _ _ _ m n. (v : Value) (by : ℕ) → r.good m v
          → Answers (Both (r.good m)) (ops.offset m v by) (pops.offset n v by))
      pub narrows : Standing (λ _ _ _ m n. (v : Value) (length : ℕ) (exact : Bool) → r.good m v
          → Answers (Both (r.good m)) (ops.narrow m v length exact) (pops.narrow n v length exact))
      pub works : Standing (λ _ _ _ m n. (work : Work) (v w : Value) → r.good m v → r.good m w
          → Answers (Both (r.good m)) (ops.work m work v w) (pops.work n work v w))
      pub overlaps : (v w : Value) (bytes : ℕ) → Answers ◌≡◌ (ops.overlap v w bytes) (pops.overlap v w bytes)
      pub unset : (m : M) (k : Kind) → Answers (Both (r.good m)) (ops.unset k) (pops.unset k)
      pub falls : (m : M) (k : Kind) → Answers (Both (r.good m)) (ops.falls k) (pops.falls k)
      -- pointers to objects
      pub local_pointers : Standing
          (λ objects first _ m n. (i : ℕ) → i < objects → Both (r.good m) (ops.whole m (first + i) data_permissions)
          (pops.whole n (first + i) data_permissions))
      pub global_pointers : Standing (λ _ _ _ m n. (i permissions : ℕ) → i < globals → permissions < 4096
          → Both (r.good m) (ops.whole m i permissions) (pops.whole n i permissions))
      -- operations on memory
      pub loads : Standing (λ _ _ _ m n. (v : Value) (j : Kind)
          → Answers (Both (r.good m)) (ops.load m v (bytes_of j)) (pops.load n v (bytes_of j)))
      pub stores : Standing (λ objects first frame m n. (v x : Value) (k : ℕ) → r.good m x
          → Answers (Moved objects first frame m n) (ops.store m v k x) (pops.store n v k x))
      pub copies : Standing (λ objects first frame m n. (v w : Value) (k : ℕ)
          → CopyAnswers (Moved objects first frame m n) (ops.copy_unit m v w k) (pops.copy_unit n v w k))
      pub notes : Standing (λ objects first frame m n. (v : Value) (own : ℕ)
          → Moved objects first frame m n (ops.note_member m v own) (pops.note_member n v own))
      pub zeros : Standing (λ objects first frame m n. (i : ℕ) → i < objects
          → Moved objects first frame m n (ops.zero m (first + i)) (pops.zero n (first + i)))
      pub leaves : Standing (λ objects first frame m n. (i : ℕ) → i < objects
          → Moved objects first frame m n (ops.leave m (first + i)) (pops.leave n (first + i)))
      pub allocations : Standing (λ objects first frame m n. (length : ℕ) → IsWord length
          → Answers (λ x y. (x.0 ≡ y.0) × r.good x.1 x.0 × Moved objects first frame m n x.1 y.1)
          (ops.allocate m length) (pops.allocate n length))
      -- calls: the first run has always room for a frame
      pub rooms : (i at : ℕ) → (here : ℕ) × (ops.enter i at ≡ Some here)
      pub entries : Standing (λ objects first frame m n. (i : ℕ) (f : tree.Fun) → slice_get funs i ≡ Some f
          → (at here : ℕ) → pops.enter i frame ≡ Some here → Entry objects first frame m n i f.objects at here)
