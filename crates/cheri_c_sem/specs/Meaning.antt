-- What expressions mean: values and places.
use Rattle.std.specs.Prelude.{ℕ, zero, suc, ◌+◌, ◌-◌, ◌/◌, ◌%◌, ◌^◌, Bool, true, false, not, List, [], ◌∷◌, Option}
use Rattle.std.specs.Prelude.{Some, None, Result, Ok, if◌then◌else◌, slice_get, slice_index_or}
use Rattle.ck_base.specs.World.{World}
use Rattle.ck_base.specs.declared.positions.Pos.{Pos}
use Rattle.ck_int.specs.declared.kinds.IntOp.TheVariants.{Sub, Xor}
use Rattle.cap_ops.specs.Permissions.{data_permissions}
use Rattle.cap_ops.specs.declared.access.Cause.TheVariants as cause
use Rattle.obj_mem.specs.Values.{Value}
use Rattle.obj_mem.specs.Values as value
use Rattle.obj_mem.specs.declared.ending.Ending.TheVariants as ending
use Rattle.obj_mem.specs.declared.ending.Fault.{Fault}
use Rattle.cheri_c_sem.specs.Kinds.{Kind, Plain, Capability, bytes_of, null_at, nothing, number_of, truth, read_as}
use Rattle.cheri_c_sem.specs.Operations.{Operations, on_ok, compare_by, is_true, convert_by, int_by, capability_by}
use Rattle.cheri_c_sem.specs.Operations.{derive_by, plus_by, difference_by}
use Rattle.cheri_c_sem.specs.Steps.{Then, ◌>>=◌, ◌>>◌, give, ends, answer, unit_answer, ask, choose, turn, set_memory}
use Rattle.cheri_c_sem.specs.Steps.{change_memory, set_variable, put, get, byte_or_end}
use Rattle.cheri_c_sem.specs.Tree.{Operation, Whole, Derived, Moved, Apart, Sign, Positive, Negative, Complement}
use Rattle.cheri_c_sem.specs.Tree.{Narrowing, Service, Put_char, Get_char, Malloc, Exit, Address, Bounds, Works, Ex}
use Rattle.cheri_c_sem.specs.Tree.{Number, Null, Load, Aggregate, Pointer_to, Convert, Discard, Unary, Not, Binary}
use Rattle.cheri_c_sem.specs.Tree.{Compare, And, Or, Conditional, Comma, Assign, Copy, Compound, Call, Library}
use Rattle.cheri_c_sem.specs.Tree.{Variable, Local, Object, Function, Deref, Member, Exs, Nil, Cons}

-- A place, with the position of the node that designates it: a variable, by its number, or what a capability points to.
pub data Place : Type 0 where
  In : Pos → ℕ → Place
  At : Pos → Value → Place

abbrev pub position_of : Place → Pos
position_of (In p x) = p
position_of (At p v) = p

-- the capability of a place; a variable has none
abbrev pub capability_of : Place → Value
capability_of (In p x) = null_at 0
capability_of (At p v) = v

-- what stands for the place of an expression that designates none
abbrev pub nowhere : Place
nowhere = At (record { line = 0; col = 0 }) (null_at 0)

-- the pointer a number of bytes further on in what it points to
abbrev pub further : Value → ℕ → Value
further (value.Live object low high offset permissions) n =
    value.Live object low high ((offset + n) % 2 ^ 64) permissions
further (value.Int v) n = value.Int v
further (value.Fun f) n = value.Fun f
further (value.Raw address upper) n = value.Raw address upper

-- the first and the second of the values
abbrev pub first_of : List Value → Value
first_of [] = nothing
first_of (v ∷ vs) = v

abbrev pub second_of : List Value → Value
second_of [] = nothing
second_of (v ∷ vs) = first_of vs

module _ {M : Type 0} (ops : Operations M) (w : World) where
  -- ---- reading and writing a place

  abbrev pub given : Pos → Kind → Option (Option Value) → Then M Value
  given p k (Some (Some v)) = give v
  given p k (Some None) = answer p (ops.unset k)
  given p k None = answer p (ops.unset k)

  abbrev pub load : Kind → Place → Then M Value
  load k (In p x) = λ s. given p k (slice_get s.vars x) s
  load k (At p v) = do
    r ← ask p (λ m. ops.load m v (bytes_of k))
    give (read_as k r)

  abbrev pub store : Kind → Place → Value → Then M (Unit {0})
  store k (In p x) v = set_variable x (Some v)
  store k (At p to) v = do
    m ← ask p (λ m. ops.store m to (bytes_of k) v)
    set_memory m

  -- a struct copy from the lowest address on: so many units of a length, from a place in both
  abbrev pub copy_units : ℕ → (unit at : ℕ) → Place → Place → Then M (Unit {0})
  copy_units zero unit at from to = give tt
  copy_units (suc n) unit at from to = do
    m ← λ s. unit_answer (position_of from) (position_of to)
        (ops.copy_unit s.mem (further (capability_of from) at) (further (capability_of to) at) unit) s
    set_memory m
    copy_units n unit (at + unit) from to

  abbrev pub copy : Pos → (bytes unit : ℕ) → Place → Place → Then M (Unit {0})
  copy p bytes unit from to = do
    answer p (ops.overlap (capability_of from) (capability_of to) bytes)
    copy_units (bytes / unit) unit 0 from to

  -- ---- single operations

  abbrev pub test : Pos → Kind → Value → Then M Bool
  test p k v = ask p (λ m. is_true ops m k v)

  abbrev pub operate_by : Operation → M → Value → Value → Result Value Fault
  operate_by (Whole op k count) m x y = int_by ops m op k count x y
  operate_by (Derived op signed count right plain) m x y = capability_by ops m op signed count right plain x y
  operate_by (Moved size minus false index) m x y = plus_by ops m size minus index x y
  operate_by (Moved size minus true index) m x y = plus_by ops m size minus index y x
  operate_by (Apart size) m x y = difference_by ops m size x y

  -- A sign is the operation on the whole number 0, or -1, and the operand; of a capability integer it derives from this
  abbrev pub sign_by : Sign → Kind → M → Value → Result Value Fault
  sign_by Positive (Plain k) m x = Ok x
  sign_by Negative (Plain k) m x = int_by ops m Sub k (Plain k) (value.Int 0) x
  sign_by Complement (Plain k) m x = int_by ops m Xor k (Plain k) (value.Int (2 ^ 64 - 1)) x
  sign_by Positive (Capability signed) m x = derive_by ops m Xor signed (Capability signed) true (null_at 0) x
  sign_by Negative (Capability signed) m x = derive_by ops m Sub signed (Capability signed) true (null_at 0) x
  sign_by Complement (Capability signed) m x =
      derive_by ops m Xor signed (Capability signed) true (null_at (2 ^ 64 - 1)) x

  -- the pointer to a place; the one to a member is narrowed, and its length is noted
  abbrev pub point_to : Pos → Option Narrowing → Place → Then M Value
  point_to p None to = give (capability_of to)
  point_to p (Some n) to = do
    r ← ask p (λ m. ops.narrow m (capability_of to) n.owned true)
    change_memory (λ m. ops.note_member m r n.own)
    give r

  -- the function that a call calls: it is called by its sentry, and with a type compatible with its own
  abbrev pub compatible : Pos → ℕ → Bool → Then M ℕ
  compatible p f fits = choose fits (give f) (ends (ending.Outside p))

  abbrev pub called : Pos → List Bool → Value → Then M ℕ
  called p fits (value.Fun f) = compatible p f (slice_index_or fits f false)
  called p fits (value.Live object low high offset permissions) = ends (ending.Trap cause.Execute p)
  called p fits (value.Raw address upper) = ends (ending.Trap cause.Tag p)
  called p fits (value.Int n) = ends (ending.Trap cause.Tag p)

  -- ---- library functions and intrinsics

  abbrev pub allocate : Pos → ℕ → Then M Value
  allocate p n = do
    r ← ask p (λ m. ops.allocate m n)
    set_memory r.1
    give r.0

  abbrev pub serve : Pos → Service → List Value → Then M Value
  serve p Put_char vs = do
    put w (number_of (first_of vs) % 256)
    give (value.Int (number_of (first_of vs) % 256))
  serve p Get_char vs = do
    b ← get w
    give (byte_or_end b)
  serve p Malloc vs = allocate p (number_of (first_of vs))
  serve p Exit vs = ends (ending.Exit (number_of (first_of vs) % 256))
  serve p Address vs = ask p (λ m. on_ok ops (λ a. Ok (value.Int a)) (ops.address m (first_of vs)))
  serve p (Bounds exact) vs = ask p (λ m. ops.narrow m (first_of vs) (number_of (second_of vs)) exact)
  serve p (Works work) vs = ask p (λ m. ops.work m work (first_of vs) (second_of vs))

  -- ---- expressions, over the meaning of calls

  module _ (call : ℕ → List Value → Then M Value) where
    abbrev mutual
      pub value_of : Ex → Then M Value
      value_of (Number n) = give (value.Int n)
      value_of (Null n) = give (null_at n)
      value_of (Load k e) = do
        from ← place_of e
        load k from
      value_of (Aggregate e) = do
        place_of e
        give nothing
      value_of (Pointer_to p narrowing e) = do
        to ← place_of e
        point_to p narrowing to
      value_of (Convert p old new plain e) = do
        v ← value_of e
        ask p (λ m. convert_by ops m old new v)
      value_of (Discard e) = do
        value_of e
        give nothing
      value_of (Unary p sign k e) = do
        v ← value_of e
        ask p (λ m. sign_by sign k m v)
      value_of (Not p k e) = do
        v ← value_of e
        b ← test p k v
        give (truth (not b))
      value_of (Binary p op a b) = do
        x ← value_of a
        y ← value_of b
        ask p (λ m. operate_by op m x y)
      value_of (Compare p op k a b) = do
        x ← value_of a
        y ← value_of b
        r ← ask p (λ m. compare_by ops m op k x y)
        give (truth r)
      value_of (And p j k a b) = do
        x ← value_of a
        c ← test p j x
        choose c (do
          y ← value_of b
          d ← test p k y
          give (truth d)) (give (truth false))
      value_of (Or p j k a b) = do
        x ← value_of a
        c ← test p j x
        choose c (give (truth true)) (do
          y ← value_of b
          d ← test p k y
          give (truth d))
      value_of (Conditional p k c a b) = do
        x ← value_of c
        d ← test p k x
        choose d (value_of a) (value_of b)
      value_of (Comma a b) = do
        value_of a
        value_of b
      value_of (Assign k a b) = do
        to ← place_of a
        v ← value_of b
        store k to v
        give v
      value_of (Copy p bytes unit a b) = do
        to ← place_of a
        from ← place_of b
        copy p bytes unit from to
        give nothing
      value_of (Compound p op kind computed old a b) = do
        to ← place_of a
        y ← value_of b
        x ← load kind to
        v ← ask p (λ m. convert_by ops m kind computed x)
        r ← ask p (λ m. operate_by op m v y)
        z ← ask p (λ m. convert_by ops m computed kind r)
        store kind to z
        give (if old then x else z)
      value_of (Call p fits e args) = do
        c ← value_of e
        vs ← values_of args
        f ← called p fits c
        turn
        v ← call f vs
        turn
        give v
      value_of (Library p service args) = do
        vs ← values_of args
        serve p service vs
      value_of (Variable p x) = give nothing
      value_of (Local p n) = give nothing
      value_of (Object p object permissions) = give nothing
      value_of (Function p f) = give (value.Fun f)
      value_of (Deref p e) = do
        value_of e
        give nothing
      value_of (Member p offset e) = do
        place_of e
        give nothing

      pub place_of : Ex → Then M Place
      place_of (Variable p x) = give (In p x)
      place_of (Local p n) = λ s k. k (At p (ops.whole s.mem (s.first + n) data_permissions)) s
      place_of (Object p object permissions) = λ s k. k (At p (ops.whole s.mem object permissions)) s
      place_of (Function p f) = give (At p (value.Fun f))
      place_of (Deref p e) = do
        v ← value_of e
        give (At p v)
      place_of (Member p offset e) = do
        from ← place_of e
        v ← ask p (λ m. ops.offset m (capability_of from) offset)
        give (At p v)
      place_of (Aggregate e) = place_of e
      place_of (Conditional p k c a b) = do
        x ← value_of c
        d ← test p k x
        choose d (place_of a) (place_of b)
      place_of (Comma a b) = do
        value_of a
        place_of b
      place_of (Copy p bytes unit a b) = do
        to ← place_of a
        from ← place_of b
        copy p bytes unit from to
        give to
      place_of _ = give nowhere

      pub values_of : Exs → Then M (List Value)
      values_of Nil = give []
      values_of (Cons e es) = do
        v ← value_of e
        vs ← values_of es
        give (v ∷ vs)
