-- How many acts work may take before a turn is used.
use Rattle.std.specs.Prelude.{ℕ, zero, suc, ◌+◌, List, [], ◌∷◌, Option, Some, None}
use Rattle.ck_base.specs.declared.positions.Pos.{Pos}
use Rattle.cheri_c_sem.specs.Kinds.{Kind}
use Rattle.cheri_c_sem.specs.Tree.{Ex, Load, Aggregate, Pointer_to, Convert, Discard, Unary, Not, Binary, Compare, And}
use Rattle.cheri_c_sem.specs.Tree.{Or, Conditional, Comma, Assign, Copy, Compound, Call, Library, Deref, Member, Exs}
use Rattle.cheri_c_sem.specs.Tree.{Nil, Cons, St, Do, Give, Init, Fill, Block, If, While, Do_while, For, Switch, Break}
use Rattle.cheri_c_sem.specs.Tree.{Continue, Return, Empty, Sts, End, Seq, Fun}
use Rattle.mean_steps.specs.Machine.{Loop, Before, Behind, Item, Evaluate, Designate, Choose, Choose_place, Begin}
use Rattle.mean_steps.specs.Machine.{Execute, Rest, Branch, Test, Tested, Again, Choose_label, Moment}

-- ---- trees

abbrev mutual
  pub ex_size : Ex → ℕ
  ex_size (Load k e) = 4 + ex_size e
  ex_size (Aggregate e) = 4 + ex_size e
  ex_size (Pointer_to p n e) = 4 + ex_size e
  ex_size (Convert p old new plain e) = 4 + ex_size e
  ex_size (Discard e) = 4 + ex_size e
  ex_size (Unary p sign k e) = 4 + ex_size e
  ex_size (Not p k e) = 4 + ex_size e
  ex_size (Binary p op a b) = 4 + ex_size a + ex_size b
  ex_size (Compare p op k a b) = 4 + ex_size a + ex_size b
  ex_size (And p j k a b) = 4 + ex_size a + ex_size b
  ex_size (Or p j k a b) = 4 + ex_size a + ex_size b
  ex_size (Conditional p k c a b) = 4 + ex_size c + ex_size a + ex_size b
  ex_size (Comma a b) = 4 + ex_size a + ex_size b
  ex_size (Assign k a b) = 4 + ex_size a + ex_size b
  ex_size (Copy p bytes unit a b) = 4 + ex_size a + ex_size b
  ex_size (Compound p op kind computed old a b) = 4 + ex_size a + ex_size b
  ex_size (Call p fits e args) = 4 + ex_size e + exs_size args
  ex_size (Library p service args) = 4 + exs_size args
  ex_size (Deref p e) = 4 + ex_size e
  ex_size (Member p offset e) = 4 + ex_size e
  ex_size _ = 1

  pub exs_size : Exs → ℕ
  exs_size Nil = 0
  exs_size (Cons e es) = ex_size e + exs_size es

abbrev pub step_size : Option Ex → ℕ
step_size None = 0
step_size (Some e) = ex_size e

abbrev pub test_size : Option (Pos × Kind × Ex) → ℕ
test_size None = 0
test_size (Some t) = ex_size t.2

abbrev mutual
  pub st_size : St → ℕ
  st_size (Do e) = 4 + ex_size e
  st_size (Give x e) = 4 + ex_size e
  st_size (Init p local offset k e) = 4 + ex_size e
  st_size (Fill p local offset bytes unit e) = 4 + ex_size e
  st_size (Block ds ss) = 4 + sts_size ss
  st_size (If p k e a b) = 4 + ex_size e + st_size a + st_size b
  st_size (While p k e b) = 12 + ex_size e + st_size b
  st_size (Do_while p k b e) = 12 + ex_size e + st_size b
  st_size (For ds first t step b) = 12 + sts_size first + test_size t + step_size step + st_size b
  st_size (Switch p k e ds ls ss) = 12 + ex_size e + sts_size ss
  st_size (Return a) = 4 + step_size a
  st_size Break = 1
  st_size Continue = 1
  st_size Empty = 1

  pub sts_size : Sts → ℕ
  sts_size End = 1
  sts_size (Seq a ss) = 1 + st_size a + sts_size ss

abbrev pub loop_size : Loop → ℕ
loop_size (Before t u b) = 8 + test_size t + step_size u + st_size b
loop_size (Behind p k e b) = 8 + ex_size e + st_size b

-- more than any function's body takes
abbrev pub all_sizes : List Fun → ℕ
all_sizes [] = 4
all_sizes (f ∷ fs) = 4 + st_size f.body + all_sizes fs

-- ---- work

abbrev pub choice_weight : Ex → ℕ
choice_weight (And p j k a b) = 2 + ex_size b
choice_weight (Or p j k a b) = 2 + ex_size b
choice_weight (Conditional p k c a b) = 1 + ex_size a + ex_size b
choice_weight _ = 1

abbrev pub branch_weight : St → ℕ
branch_weight (If p k e a b) = 1 + st_size a + st_size b
branch_weight _ = 1

abbrev pub label_weight : St → ℕ
label_weight (Switch p k e ds ls ss) = 4 + sts_size ss
label_weight _ = 1

abbrev pub again_weight : Loop → ℕ
again_weight (Before t u b) = 4 + step_size u
again_weight (Behind p k e b) = 3 + ex_size e

abbrev pub tested_weight : Loop → ℕ
tested_weight (Before t u b) = 5 + step_size u + st_size b
tested_weight (Behind p k e b) = 1

abbrev pub test_weight : Loop → ℕ
test_weight (Before t u b) = 6 + test_size t + step_size u + st_size b
test_weight (Behind p k e b) = 2 + ex_size e

-- where a turn allows so many acts
module _ (most : ℕ) where
  abbrev pub item_weight : Item → ℕ
  item_weight (Evaluate e) = ex_size e
  item_weight (Designate e) = ex_size e
  item_weight (Choose e) = choice_weight e
  item_weight (Choose_place e) = choice_weight e
  item_weight (Begin f) = suc most
  item_weight (Execute a) = st_size a
  item_weight (Rest ss) = sts_size ss
  item_weight (Branch a) = branch_weight a
  item_weight (Test l) = test_weight l
  item_weight (Tested l) = tested_weight l
  item_weight (Again l) = again_weight l
  item_weight (Choose_label a) = label_weight a
  item_weight _ = 1

  abbrev pub work_weight : List Item → ℕ
  work_weight [] = 0
  work_weight (i ∷ is) = item_weight i + work_weight is

  -- the acts that so many turns allow
  abbrev pub by_turns : ℕ → ℕ
  by_turns zero = 0
  by_turns (suc n) = most + by_turns n

-- a bound of the acts that are left
abbrev pub acts_left : {M : Type 0} → List Fun → Moment M → ℕ
acts_left funs m = by_turns (all_sizes funs) m.now.left + work_weight (all_sizes funs) m.work
