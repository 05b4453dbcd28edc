-- Statements come to the same over calls that do; loops of enough turns come to the same.
use Rattle.std.proofs.Common.{ℕ, zero, suc, ◌+◌, ◌<◌, Bool, true, List, [], ◌∷◌, Option, Some, None, arith}
use Rattle.ck_base.specs.World.{World}
use Rattle.ck_base.specs.declared.positions.Pos.{Pos}
use Rattle.ck_int.specs.declared.kinds.CmpOp.TheVariants.{Eq}
use Rattle.obj_mem.specs.Values.{Value}
use Rattle.cheri_c_sem.specs.Kinds.{Kind, nothing}
use Rattle.cheri_c_sem.specs.Operations.{Operations, compare_by}
use Rattle.cheri_c_sem.specs.Steps.{Then}
use Rattle.cheri_c_sem.specs.Tree.{Ex, Declared, Simple, Objects, Label, Case, Default, St, Do, Give, Init, Fill, Block}
use Rattle.cheri_c_sem.specs.Tree.{If, While, Do_while, For, Switch, Break, Continue, Return, Empty, Sts, End, Seq}
use Rattle.cheri_c_sem.specs.Meaning.{At}
use Rattle.cheri_c_sem.specs.Statements.{Flow, Goes, Breaks, Continues, Returns, after, after_body, after_switch, loop}
use Rattle.cheri_c_sem.specs.Statements.{repeat, default_of, label_value, enter_one, enter, leave_one, leave, in_block}
use Rattle.cheri_c_sem.specs.Statements.{find_label, switch_on, jump, part_of_local, test_of, step_of, exec, execs}
use Rattle.cheri_c_sem.specs.Statements.{execs_from}
use Rattle.cheri_c_sem.proofs.Same.{Same, same_give, same_bind, same_then, same_ask, same_choose, same_set_variable}
use Rattle.cheri_c_sem.proofs.Same.{same_turn, same_below}
use Rattle.cheri_c_sem.proofs.SameExpressions.{same_value, same_place, same_test, same_store, same_copy}

module _ {M : Type 0} where
  same_after : (n : ℕ) (f : Flow) (c d : Then M Flow) → Same n c d → Same n (after f c) (after f d)
  same_after n Goes c d h = h
  same_after n Continues c d h = same_give n Continues
  same_after n Breaks c d h = same_give n Breaks
  same_after n (Returns v) c d h = same_give n (Returns v)

  pub same_after_body : (n : ℕ) (f : Flow) (c d : Then M Flow) → Same n c d → Same n (after_body f c) (after_body f d)
  same_after_body n Goes c d h = h
  same_after_body n Continues c d h = h
  same_after_body n Breaks c d h = same_give n Goes
  same_after_body n (Returns v) c d h = same_give n (Returns v)

  same_after_switch : (n : ℕ) (f : Flow) → Same {M = M} n (after_switch f) (after_switch f)
  same_after_switch n Goes = same_give n Goes
  same_after_switch n Continues = same_give n Continues
  same_after_switch n Breaks = same_give n Goes
  same_after_switch n (Returns v) = same_give n (Returns v)

  same_jump : (n : ℕ) (o : Option ℕ) (f g : ℕ → Then M Flow) → ((i : ℕ) → Same n (f i) (g i)) →
      Same n (jump o f) (jump o g)
  same_jump n None f g h = same_give n Goes
  same_jump n (Some i) f g h = same_bind n _ _ _ _ (h i) (λ flow. same_after_switch n flow)

  -- loops of enough further turns
  pub same_loop : (a b n : ℕ) → n < a → n < b → (t t' : Then M Bool) (c c' : Then M Flow) (u u' : Then M (Unit {0})) →
      Same n t t' → Same n c c' → Same n u u' → Same n (loop a t c u) (loop b t' c' u')
  same_loop zero b n la lb t t' c c' u u' ht hc hu = absurd (omega arith)
  same_loop (suc a) zero n la lb t t' c c' u u' ht hc hu = absurd (omega arith)
  same_loop (suc a) (suc b) n la lb t t' c c' u u' ht hc hu =
      same_bind n t t' _ _ ht (λ v. same_choose n v _ _ _ _
      (same_bind n c c' _ _ hc (λ f. same_after_body n f _ _
      (same_then n u u' _ _ hu (same_turn n _ _
      (λ m lm. same_loop a b m (omega arith) (omega arith) t t' c c' u u' (same_below n m t t' (omega arith) ht)
      (same_below n m c c' (omega arith) hc) (same_below n m u u' (omega arith) hu))))))
      (same_give n Goes))

  pub same_repeat : (a b n : ℕ) → n < a → n < b → (c c' : Then M Flow) (t t' : Then M Bool) → Same n c c' →
      Same n t t' → Same n (repeat a c t) (repeat b c' t')
  same_repeat zero b n la lb c c' t t' hc ht = absurd (omega arith)
  same_repeat (suc a) zero n la lb c c' t t' hc ht = absurd (omega arith)
  same_repeat (suc a) (suc b) n la lb c c' t t' hc ht =
      same_bind n c c' _ _ hc (λ f. same_after_body n f _ _
      (same_bind n t t' _ _ ht (λ v. same_choose n v _ _ _ _
      (same_turn n _ _ (λ m lm. same_repeat a b m (omega arith) (omega arith) c c' t t'
      (same_below n m c c' (omega arith) hc) (same_below n m t t' (omega arith) ht)))
      (same_give n Goes))))

module _ {M : Type 0} (ops : Operations M) (w : World) where
  same_enter_one : (n : ℕ) (d : Declared) → Same n (enter_one ops w d) (enter_one ops w d)
  same_enter_one n (Simple x) = same_set_variable n x None
  same_enter_one n (Objects o) =
      record { at = λ s le k l h. h tt (record s { mem = ops.zero s.mem (s.first + o) }) (omega arith) }

  same_enter : (n : ℕ) (ds : List Declared) → Same n (enter ops w ds) (enter ops w ds)
  same_enter n [] = same_give n tt
  same_enter n (d ∷ ds) = same_then n _ _ _ _ (same_enter_one n d) (same_enter n ds)

  same_leave_one : (n : ℕ) (d : Declared) → Same n (leave_one ops w d) (leave_one ops w d)
  same_leave_one n (Simple x) = same_give n tt
  same_leave_one n (Objects o) =
      record { at = λ s le k l h. h tt (record s { mem = ops.leave s.mem (s.first + o) }) (omega arith) }

  same_leave : (n : ℕ) (ds : List Declared) → Same n (leave ops w ds) (leave ops w ds)
  same_leave n [] = same_give n tt
  same_leave n (d ∷ ds) = same_then n _ _ _ _ (same_leave_one n d) (same_leave n ds)

  same_in_block : (n : ℕ) (ds : List Declared) (c d : Then M Flow) → Same n c d →
      Same n (in_block ops w ds c) (in_block ops w ds d)
  same_in_block n ds c d h =
      same_then n _ _ _ _ (same_enter n ds) (same_bind n _ _ _ _ h
      (λ f. same_then n _ _ _ _ (same_leave n ds) (same_give n f)))

  same_find : (n : ℕ) (p : Pos) (k : Kind) (v : Value) (ls : List Label) (o : Option ℕ) →
      Same n (find_label ops w p k v ls o) (find_label ops w p k v ls o)
  same_find n p k v [] o = same_give n o
  same_find n p k v (Default before ∷ ls) o = same_find n p k v ls o
  same_find n p k v (Case c before ∷ ls) o =
      same_bind n _ _ _ _ (same_ask n p (λ m. compare_by ops m Eq k v (label_value k c)))
      (λ b. same_choose n b _ _ _ _ (same_give n (Some before)) (same_find n p k v ls o))

  same_switch_on : (n : ℕ) (p : Pos) (k : Kind) (v : Value) (ds : List Declared) (ls : List Label)
      (f g : ℕ → Then M Flow) → ((i : ℕ) → Same n (f i) (g i)) →
      Same n (switch_on ops w p k v ds ls f) (switch_on ops w p k v ds ls g)
  same_switch_on n p k v ds ls f g h =
      same_in_block n ds _ _ (same_bind n _ _ _ _ (same_find n p k v ls (default_of ls)) (λ to. same_jump n to f g h))

  same_part : (n : ℕ) (p : Pos) (local offset : ℕ) →
      Same n (part_of_local ops w p local offset) (part_of_local ops w p local offset)
  same_part n p local offset =
      record {
        at = λ s le k l h. (same_bind n _ _ _ _
            (same_ask n p (λ m. ops.offset m (ops.whole m (s.first + local) 125) offset))
            (λ v. same_give n (At p v))).at s le k l h;
      }

  module _ (call call' : ℕ → List Value → Then M Value) (n : ℕ)
      (calls_same : (m : ℕ) → m < n → (f : ℕ) (vs : List Value) → Same m (call f vs) (call' f vs)) where
    pub same_test_of : (o : Option (Pos × Kind × Ex)) → Same n (test_of ops w call o) (test_of ops w call' o)
    same_test_of None = same_give n true
    same_test_of (Some t) = same_bind n _ _ _ _ (same_value ops w call call' n calls_same t.2)
        (λ v. same_test ops w n t.0 t.1 v)

    pub same_step_of : (o : Option Ex) → Same n (step_of ops w call o) (step_of ops w call' o)
    same_step_of None = same_give n tt
    same_step_of (Some e) = same_then n _ _ _ _ (same_value ops w call call' n calls_same e) (same_give n tt)

    mutual
      pub same_exec : (a : St) → Same n (exec ops w call a) (exec ops w call' a)
      same_exec (Do e) = same_then n _ _ _ _ (same_value ops w call call' n calls_same e) (same_give n Goes)
      same_exec (Give x e) = same_bind n _ _ _ _ (same_value ops w call call' n calls_same e)
          (λ v. same_then n _ _ _ _ (same_set_variable n x (Some v)) (same_give n Goes))
      same_exec (Init p local offset k e) =
          same_bind n _ _ _ _ (same_value ops w call call' n calls_same e)
          (λ v. same_bind n _ _ _ _ (same_part n p local offset)
          (λ to. same_then n _ _ _ _ (same_store ops w n k to v) (same_give n Goes)))
      same_exec (Fill p local offset bytes unit e) =
          same_bind n _ _ _ _ (same_place ops w call call' n calls_same e)
          (λ from. same_bind n _ _ _ _ (same_part n p local offset)
          (λ to. same_then n _ _ _ _ (same_copy ops w n p bytes unit from to) (same_give n Goes)))
      same_exec (Block ds ss) = same_in_block n ds _ _ (same_execs ss)
      same_exec (If p k e a b) =
          same_bind n _ _ _ _ (same_value ops w call call' n calls_same e)
          (λ v. same_bind n _ _ _ _ (same_test ops w n p k v)
          (λ c. same_choose n c _ _ _ _ (same_exec a) (same_exec b)))
      same_exec (While p k e b) = record {
        at = λ s le k' l h.
            (same_loop (suc s.left) (suc s.left) s.left (omega arith) (omega arith) _ _ _ _ _ _
            (same_below n s.left _ _ le (same_test_of (Some (p, k, e))))
            (same_below n s.left _ _ le (same_exec b)) (same_give s.left tt)).at s (omega arith) k' l h;
      }
      same_exec (Do_while p k b e) = record {
        at = λ s le k' l h.
            (same_repeat (suc s.left) (suc s.left) s.left (omega arith) (omega arith) _ _ _ _
            (same_below n s.left _ _ le (same_exec b))
            (same_below n s.left _ _ le (same_test_of (Some (p, k, e))))).at s (omega arith) k' l h;
      }
      same_exec (For ds first t step b) =
          same_in_block n ds _ _ (same_bind n _ _ _ _ (same_execs first) (λ f. same_after n f _ _ (record {
            at = λ s le k' l h.
                (same_loop (suc s.left) (suc s.left) s.left (omega arith) (omega arith) _ _ _ _ _ _
                (same_below n s.left _ _ le (same_test_of t)) (same_below n s.left _ _ le (same_exec b))
                (same_below n s.left _ _ le (same_step_of step))).at s (omega arith) k' l h;
          })))
      same_exec (Switch p k e ds ls ss) =
          same_bind n _ _ _ _ (same_value ops w call call' n calls_same e)
          (λ v. same_switch_on n p k v ds ls _ _ (λ i. same_execs_from ss i))
      same_exec Break = same_give n Breaks
      same_exec Continue = same_give n Continues
      same_exec (Return None) = same_give n (Returns nothing)
      same_exec (Return (Some e)) =
          same_bind n _ _ _ _ (same_value ops w call call' n calls_same e) (λ v. same_give n (Returns v))
      same_exec Empty = same_give n Goes

      pub same_execs : (ss : Sts) → Same n (execs ops w call ss) (execs ops w call' ss)
      same_execs End = same_give n Goes
      same_execs (Seq a ss) = same_bind n _ _ _ _ (same_exec a) (λ f. same_after n f _ _ (same_execs ss))

      pub same_execs_from : (ss : Sts) (i : ℕ) → Same n (execs_from ops w call ss i) (execs_from ops w call' ss i)
      same_execs_from End i = same_give n Goes
      same_execs_from (Seq a ss) zero = same_bind n _ _ _ _ (same_exec a) (λ f. same_after n f _ _ (same_execs ss))
      same_execs_from (Seq a ss) (suc i) = same_execs_from ss i
