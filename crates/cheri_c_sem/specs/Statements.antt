-- What statements mean.
use Rattle.std.specs.Prelude.{ℕ, zero, suc, ◌+◌, Bool, true, List, [], ◌∷◌, Option, Some, None}
use Rattle.ck_base.specs.World.{World}
use Rattle.ck_base.specs.declared.positions.Pos.{Pos}
use Rattle.ck_int.specs.declared.kinds.CmpOp.TheVariants.{Eq}
use Rattle.cap_ops.specs.Permissions.{data_permissions}
use Rattle.obj_mem.specs.Values.{Value}
use Rattle.obj_mem.specs.Values as value
use Rattle.obj_mem.specs.declared.ending.Ending.TheVariants as ending
use Rattle.cheri_c_sem.specs.Kinds.{Kind, Plain, Capability, null_at, nothing}
use Rattle.cheri_c_sem.specs.Operations.{Operations, compare_by}
use Rattle.cheri_c_sem.specs.Steps.{Then, ◌>>=◌, ◌>>◌, give, ends, ask, choose, turn, set_variable}
use Rattle.cheri_c_sem.specs.Tree.{Ex, Declared, Simple, Objects, Label, Case, Default, St, Do, Give, Init, Fill, Block}
use Rattle.cheri_c_sem.specs.Tree.{If, While, Do_while, For, Switch, Break, Continue, Return, Empty, Sts, End, Seq}
use Rattle.cheri_c_sem.specs.Meaning.{Place, At, test, store, copy, value_of, place_of}

-- where a statement was left: at its end, or by a jump (C11 6.8.6)
pub data Flow : Type 0 where
  Goes : Flow
  Breaks : Flow
  Continues : Flow
  Returns : Value → Flow

module _ {M : Type 0} where
  -- a statement was left so, and the statements after it follow
  abbrev pub after : Flow → Then M Flow → Then M Flow
  after Goes next = next
  after Breaks next = give Breaks
  after Continues next = give Continues
  after (Returns v) next = give (Returns v)

  -- a loop's body was left so, and what follows it where the loop goes on
  abbrev pub after_body : Flow → Then M Flow → Then M Flow
  after_body Goes next = next
  after_body Continues next = next
  after_body Breaks next = give Goes
  after_body (Returns v) next = give (Returns v)

  -- the body of a `switch` was left so
  abbrev pub after_switch : Flow → Then M Flow
  after_switch Goes = give Goes
  after_switch Breaks = give Goes
  after_switch Continues = give Continues
  after_switch (Returns v) = give (Returns v)

  -- its statements behind the first so many; with no label to go to, none of them
  abbrev pub jump : Option ℕ → (ℕ → Then M Flow) → Then M Flow
  jump None from = give Goes
  jump (Some n) from = do
    f ← from n
    after_switch f

  -- A `while` or `for` loop of at most so many turns (C11 6.8.5.1, 6.8.5.3). The turn comes after the step
  abbrev pub loop : ℕ → Then M Bool → Then M Flow → Then M (Unit {0}) → Then M Flow
  loop zero test body step = ends ending.Turns
  loop (suc n) test body step = do
    c ← test
    choose c (do
      f ← body
      after_body f (do
        step
        turn
        loop n test body step)) (give Goes)

  -- A `do` loop of at most so many turns (C11 6.8.5.2). The turn comes after a true test
  abbrev pub repeat : ℕ → Then M Flow → Then M Bool → Then M Flow
  repeat zero body test = ends ending.Turns
  repeat (suc n) body test = do
    f ← body
    after_body f (do
      c ← test
      choose c (do
        turn
        repeat n body test) (give Goes))

-- where the `default` label stands, if there is one
abbrev pub default_of : List Label → Option ℕ
default_of [] = None
default_of (Default n ∷ ls) = Some n
default_of (Case v n ∷ ls) = default_of ls

-- a label's value at a kind
abbrev pub label_value : Kind → ℕ → Value
label_value (Plain k) n = value.Int n
label_value (Capability signed) n = null_at n

module _ {M : Type 0} (ops : Operations M) (w : World) where
  -- ---- blocks (C11 6.2.4p6)

  -- A block is entered: a variable has no value given, and an object is zero bytes
  abbrev pub enter_one : Declared → Then M (Unit {0})
  enter_one (Simple x) = set_variable x None
  enter_one (Objects n) = λ s k. k tt (record s { mem = ops.zero s.mem (s.first + n) })

  abbrev pub enter : List Declared → Then M (Unit {0})
  enter [] = give tt
  enter (d ∷ ds) = do
    enter_one d
    enter ds

  -- it is left
  abbrev pub leave_one : Declared → Then M (Unit {0})
  leave_one (Simple x) = give tt
  leave_one (Objects n) = λ s k. k tt (record s { mem = ops.leave s.mem (s.first + n) })

  abbrev pub leave : List Declared → Then M (Unit {0})
  leave [] = give tt
  leave (d ∷ ds) = do
    leave_one d
    leave ds

  -- the variables of a block around its statements, however they are left
  abbrev pub in_block : List Declared → Then M Flow → Then M Flow
  in_block ds body = do
    enter ds
    f ← body
    leave ds
    give f

  -- ---- `switch` (C11 6.8.4.2)

  -- where a `switch` goes on: at the first label with the value, and else at `default`
  abbrev pub find_label : Pos → Kind → Value → List Label → Option ℕ → Then M (Option ℕ)
  find_label p k v [] otherwise = give otherwise
  find_label p k v (Default n ∷ ls) otherwise = find_label p k v ls otherwise
  find_label p k v (Case c n ∷ ls) otherwise = do
    same ← ask p (λ m. compare_by ops m Eq k v (label_value k c))
    choose same (give (Some n)) (find_label p k v ls otherwise)

  -- Its block is entered before the labels are compared, and left whether or not one matches
  abbrev pub switch_on : Pos → Kind → Value → List Declared → List Label → (ℕ → Then M Flow) → Then M Flow
  switch_on p k v ds ls from = in_block ds (do
    to ← find_label p k v ls (default_of ls)
    jump to from)

  -- the place at an offset in a local of the current call
  abbrev pub part_of_local : Pos → (local offset : ℕ) → Then M Place
  part_of_local p local offset = λ s. (do
    v ← ask p (λ m. ops.offset m (ops.whole m (s.first + local) data_permissions) offset)
    give (At p v)) s

  module _ (call : ℕ → List Value → Then M Value) where
    abbrev pub test_of : Option (Pos × Kind × Ex) → Then M Bool
    test_of None = give true
    test_of (Some t) = do
      v ← value_of ops w call t.2
      test ops w t.0 t.1 v

    abbrev pub step_of : Option Ex → Then M (Unit {0})
    step_of None = give tt
    step_of (Some e) = do
      value_of ops w call e
      give tt

    abbrev mutual
      pub exec : St → Then M Flow
      exec (Do e) = do
        value_of ops w call e
        give Goes
      exec (Give x e) = do
        v ← value_of ops w call e
        set_variable x (Some v)
        give Goes
      exec (Init p local offset k e) = do
        v ← value_of ops w call e
        to ← part_of_local p local offset
        store ops w k to v
        give Goes
      exec (Fill p local offset bytes unit e) = do
        from ← place_of ops w call e
        to ← part_of_local p local offset
        copy ops w p bytes unit from to
        give Goes
      exec (Block ds ss) = in_block ds (execs ss)
      exec (If p k e a b) = do
        v ← value_of ops w call e
        c ← test ops w p k v
        choose c (exec a) (exec b)
      exec (While p k e b) = λ s. loop (suc s.left) (test_of (Some (p, k, e))) (exec b) (give tt) s
      exec (Do_while p k b e) = λ s. repeat (suc s.left) (exec b) (test_of (Some (p, k, e))) s
      exec (For ds first t step b) = in_block ds (do
        f ← execs first
        after f (λ s. loop (suc s.left) (test_of t) (exec b) (step_of step) s))
      exec (Switch p k e ds ls ss) = do
        v ← value_of ops w call e
        switch_on p k v ds ls (λ n. execs_from ss n)
      exec Break = give Breaks
      exec Continue = give Continues
      exec (Return None) = give (Returns nothing)
      exec (Return (Some e)) = do
        v ← value_of ops w call e
        give (Returns v)
      exec Empty = give Goes

      pub execs : Sts → Then M Flow
      execs End = give Goes
      execs (Seq a ss) = do
        f ← exec a
        after f (execs ss)

      -- the statements behind the first so many
      pub execs_from : Sts → ℕ → Then M Flow
      execs_from End n = give Goes
      execs_from (Seq a ss) zero = do
        f ← exec a
        after f (execs ss)
      execs_from (Seq a ss) (suc n) = execs_from ss n
