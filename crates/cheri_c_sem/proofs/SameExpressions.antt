-- Expressions come to the same over calls that do.
use Rattle.std.proofs.Common.{ℕ, zero, suc, ◌+◌, ◌%◌, ◌<◌, Bool, true, false, List, [], ◌∷◌, Option, Some, None, Ok}
use Rattle.std.proofs.Common.{arith}
use Rattle.std.specs.Prelude.{slice_get, slice_index_or, ◌/◌, not}
use Rattle.ck_base.specs.World.{World}
use Rattle.ck_base.specs.declared.positions.Pos.{Pos}
use Rattle.cap_ops.specs.declared.access.Cause.TheVariants as cause
use Rattle.obj_mem.specs.declared.ending.Ending.TheVariants as ending
use Rattle.obj_mem.specs.Values.{Value, Int, Live, Fun, Raw}
use Rattle.cheri_c_sem.specs.Kinds.{Kind, bytes_of, nothing, null_at, number_of, truth, read_as}
use Rattle.cheri_c_sem.specs.Operations.{Operations, convert_by, compare_by, is_true, on_ok}
use Rattle.cheri_c_sem.specs.Steps.{Then, byte_or_end}
use Rattle.cheri_c_sem.specs.Tree.{Service, Put_char, Get_char, Malloc, Exit, Address, Bounds, Works, Narrowing, Ex}
use Rattle.cheri_c_sem.specs.Tree.{Number, Null, Load, Aggregate, Pointer_to, Convert, Discard, Unary, Not, Binary}
use Rattle.cheri_c_sem.specs.Tree.{Compare, And, Or, Conditional, Comma, Assign, Copy, Compound, Call, Library}
use Rattle.cheri_c_sem.specs.Tree.{Variable, Local, Object, Function, Deref, Member, Exs, Nil, Cons}
use Rattle.cheri_c_sem.specs.Meaning.{Place, In, At, position_of, capability_of, further, first_of, second_of, nowhere}
use Rattle.cheri_c_sem.specs.Meaning.{given, load, store, copy_units, copy, test, operate_by, sign_by, point_to, called}
use Rattle.cheri_c_sem.specs.Meaning.{serve, value_of, place_of, values_of}
use Rattle.cheri_c_sem.proofs.Same.{Same, same_give, same_ends, same_bind, same_then, same_answer, same_unit_answer}
use Rattle.cheri_c_sem.proofs.Same.{same_ask, same_choose, same_set_memory, same_change_memory, same_set_variable}
use Rattle.cheri_c_sem.proofs.Same.{same_turn, same_put, same_get}

module _ {M : Type 0} (ops : Operations M) (w : World) where
  same_given : (n : ℕ) (p : Pos) (k : Kind) (v : Option (Option Value)) → Same n (given ops w p k v) (given ops w p k v)
  same_given n p k (Some (Some v)) = same_give n v
  same_given n p k (Some None) = same_answer n p (ops.unset k)
  same_given n p k None = same_answer n p (ops.unset k)

  pub same_load : (n : ℕ) (k : Kind) (p : Place) → Same n (load ops w k p) (load ops w k p)
  same_load n k (In p x) = record { at = λ s le k' l h. (same_given n p k (slice_get s.vars x)).at s le k' l h }
  same_load n k (At p v) = same_bind n _ _ _ _ (same_ask n p (λ m. ops.load m v (bytes_of k)))
      (λ r. same_give n (read_as k r))

  pub same_store : (n : ℕ) (k : Kind) (p : Place) (v : Value) → Same n (store ops w k p v) (store ops w k p v)
  same_store n k (In p x) v = same_set_variable n x (Some v)
  same_store n k (At p to) v =
      same_bind n _ _ _ _ (same_ask n p (λ m. ops.store m to (bytes_of k) v)) (λ m. same_set_memory n m)

  same_units : (n count unit at : ℕ) (from to : Place) →
      Same n (copy_units ops w count unit at from to) (copy_units ops w count unit at from to)
  same_units n zero unit at from to = same_give n tt
  same_units n (suc count) unit at from to = same_bind n _ _ _ _
      (record {
        at = λ s le k l h. (same_unit_answer n (position_of from) (position_of to)
            (ops.copy_unit s.mem (further (capability_of from) at) (further (capability_of to) at) unit)).at s le k
            l h;
      })
      (λ m. same_then n _ _ _ _ (same_set_memory n m) (same_units n count unit (at + unit) from to))

  pub same_copy : (n : ℕ) (p : Pos) (bytes unit : ℕ) (from to : Place) →
      Same n (copy ops w p bytes unit from to) (copy ops w p bytes unit from to)
  same_copy n p bytes unit from to =
      same_then n _ _ _ _ (same_answer n p (ops.overlap (capability_of from) (capability_of to) bytes))
      (same_units n (bytes / unit) unit 0 from to)

  pub same_test : (n : ℕ) (p : Pos) (k : Kind) (v : Value) → Same n (test ops w p k v) (test ops w p k v)
  same_test n p k v = same_ask n p (λ m. is_true ops m k v)

  same_point_to : (n : ℕ) (p : Pos) (o : Option Narrowing) (to : Place) →
      Same n (point_to ops w p o to) (point_to ops w p o to)
  same_point_to n p None to = same_give n (capability_of to)
  same_point_to n p (Some o) to = same_bind n _ _ _ _ (same_ask n p (λ m. ops.narrow m (capability_of to) o.owned true))
      (λ r. same_then n _ _ _ _ (same_change_memory n (λ m. ops.note_member m r o.own)) (same_give n r))

  same_called : (n : ℕ) (p : Pos) (fits : List Bool) (v : Value) →
      Same n (called ops w p fits v) (called ops w p fits v)
  same_called n p fits (Fun f) =
      same_choose n (slice_index_or fits f false) _ _ _ _ (same_give n f) (same_ends n (ending.Outside p))
  same_called n p fits (Live o low high at permissions) = same_ends n (ending.Trap cause.Execute p)
  same_called n p fits (Raw address upper) = same_ends n (ending.Trap cause.Tag p)
  same_called n p fits (Int v) = same_ends n (ending.Trap cause.Tag p)

  same_serve : (n : ℕ) (p : Pos) (service : Service) (vs : List Value) →
      Same n (serve ops w p service vs) (serve ops w p service vs)
  same_serve n p Put_char vs =
      same_then n _ _ _ _ (same_put w n (number_of (first_of vs) % 256))
      (same_give n (Int (number_of (first_of vs) % 256)))
  same_serve n p Get_char vs = same_bind n _ _ _ _ (same_get w n) (λ b. same_give n (byte_or_end b))
  same_serve n p Malloc vs =
      same_bind n _ _ _ _ (same_ask n p (λ m. ops.allocate m (number_of (first_of vs))))
      (λ r. same_then n _ _ _ _ (same_set_memory n r.1) (same_give n r.0))
  same_serve n p Exit vs = same_ends n (ending.Exit (number_of (first_of vs) % 256))
  same_serve n p Address vs = same_ask n p (λ m. on_ok ops (λ a. Ok (Int a)) (ops.address m (first_of vs)))
  same_serve n p (Bounds exact) vs = same_ask n p (λ m. ops.narrow m (first_of vs) (number_of (second_of vs)) exact)
  same_serve n p (Works work) vs = same_ask n p (λ m. ops.work m work (first_of vs) (second_of vs))

  module _ (call call' : ℕ → List Value → Then M Value) (n : ℕ)
      (calls_same : (m : ℕ) → m < n → (f : ℕ) (vs : List Value) → Same m (call f vs) (call' f vs)) where
    mutual
      pub same_value : (e : Ex) → Same n (value_of ops w call e) (value_of ops w call' e)
      same_value (Number v) = same_give n (Int v)
      same_value (Null v) = same_give n (null_at v)
      same_value (Load k e) = same_bind n _ _ _ _ (same_place e) (λ from. same_load n k from)
      same_value (Aggregate e) = same_then n _ _ _ _ (same_place e) (same_give n nothing)
      same_value (Pointer_to p o e) = same_bind n _ _ _ _ (same_place e) (λ to. same_point_to n p o to)
      same_value (Convert p old new plain e) =
          same_bind n _ _ _ _ (same_value e) (λ v. same_ask n p (λ m. convert_by ops m old new v))
      same_value (Discard e) = same_then n _ _ _ _ (same_value e) (same_give n nothing)
      same_value (Unary p sign k e) =
          same_bind n _ _ _ _ (same_value e) (λ v. same_ask n p (λ m. sign_by ops w sign k m v))
      same_value (Not p k e) = same_bind n _ _ _ _ (same_value e)
          (λ v. same_bind n _ _ _ _ (same_test n p k v) (λ b. same_give n (truth (not b))))
      same_value (Binary p op a b) =
          same_bind n _ _ _ _ (same_value a) (λ x.
          same_bind n _ _ _ _ (same_value b) (λ y. same_ask n p (λ m. operate_by ops w op m x y)))
      same_value (Compare p op k a b) =
          same_bind n _ _ _ _ (same_value a) (λ x.
          same_bind n _ _ _ _ (same_value b) (λ y.
          same_bind n _ _ _ _ (same_ask n p (λ m. compare_by ops m op k x y)) (λ r. same_give n (truth r))))
      same_value (And p j k a b) =
          same_bind n _ _ _ _ (same_value a) (λ x. same_bind n _ _ _ _ (same_test n p j x) (λ c. same_choose n c _ _ _ _
          (same_bind n _ _ _ _ (same_value b) (λ y.
          same_bind n _ _ _ _ (same_test n p k y) (λ d. same_give n (truth d)))) (same_give n (truth false))))
      same_value (Or p j k a b) =
          same_bind n _ _ _ _ (same_value a) (λ x. same_bind n _ _ _ _ (same_test n p j x) (λ c. same_choose n c _ _ _ _
          (same_give n (truth true)) (same_bind n _ _ _ _ (same_value b)
          (λ y. same_bind n _ _ _ _ (same_test n p k y) (λ d. same_give n (truth d))))))
      same_value (Conditional p k c a b) =
          same_bind n _ _ _ _ (same_value c) (λ x.
          same_bind n _ _ _ _ (same_test n p k x) (λ d. same_choose n d _ _ _ _ (same_value a) (same_value b)))
      same_value (Comma a b) = same_then n _ _ _ _ (same_value a) (same_value b)
      same_value (Assign k a b) =
          same_bind n _ _ _ _ (same_place a) (λ to.
          same_bind n _ _ _ _ (same_value b) (λ v. same_then n _ _ _ _ (same_store n k to v) (same_give n v)))
      same_value (Copy p bytes unit a b) =
          same_bind n _ _ _ _ (same_place a) (λ to.
          same_bind n _ _ _ _ (same_place b) (λ from.
          same_then n _ _ _ _ (same_copy n p bytes unit from to) (same_give n nothing)))
      same_value (Compound p op kind computed old a b) =
          same_bind n _ _ _ _ (same_place a) (λ to.
          same_bind n _ _ _ _ (same_value b) (λ y. same_bind n _ _ _ _ (same_load n kind to) (λ x.
          same_bind n _ _ _ _ (same_ask n p (λ m. convert_by ops m kind computed x))
          (λ v. same_bind n _ _ _ _ (same_ask n p (λ m. operate_by ops w op m v y)) (λ r.
          same_bind n _ _ _ _ (same_ask n p (λ m. convert_by ops m computed kind r))
          (λ z. same_then n _ _ _ _ (same_store n kind to z) (same_give n _)))))))
      same_value (Call p fits e args) =
          same_bind n _ _ _ _ (same_value e) (λ c.
          same_bind n _ _ _ _ (same_values args) (λ vs. same_bind n _ _ _ _ (same_called n p fits c) (λ f.
          same_turn n _ _ (λ m lm. same_bind m _ _ _ _ (calls_same m lm f vs)
          (λ v. same_turn m _ _ (λ j lj. same_give j v))))))
      same_value (Library p service args) = same_bind n _ _ _ _ (same_values args) (λ vs. same_serve n p service vs)
      same_value (Variable p x) = same_give n nothing
      same_value (Local p x) = same_give n nothing
      same_value (Object p object permissions) = same_give n nothing
      same_value (Function p f) = same_give n (Fun f)
      same_value (Deref p e) = same_then n _ _ _ _ (same_value e) (same_give n nothing)
      same_value (Member p offset e) = same_then n _ _ _ _ (same_place e) (same_give n nothing)

      pub same_place : (e : Ex) → Same n (place_of ops w call e) (place_of ops w call' e)
      same_place (Variable p x) = same_give n (In p x)
      same_place (Local p x) = record {
        at = λ s le k l h.
            h (At p (ops.whole s.mem (s.first + x) 125)) s (omega arith);
      }
      same_place (Object p object permissions) =
          record { at = λ s le k l h. h (At p (ops.whole s.mem object permissions)) s (omega arith) }
      same_place (Function p f) = same_give n (At p (Fun f))
      same_place (Deref p e) = same_bind n _ _ _ _ (same_value e) (λ v. same_give n (At p v))
      same_place (Member p offset e) =
          same_bind n _ _ _ _ (same_place e) (λ from.
          same_bind n _ _ _ _ (same_ask n p (λ m. ops.offset m (capability_of from) offset))
          (λ v. same_give n (At p v)))
      same_place (Aggregate e) = same_place e
      same_place (Conditional p k c a b) =
          same_bind n _ _ _ _ (same_value c) (λ x.
          same_bind n _ _ _ _ (same_test n p k x) (λ d. same_choose n d _ _ _ _ (same_place a) (same_place b)))
      same_place (Comma a b) = same_then n _ _ _ _ (same_value a) (same_place b)
      same_place (Copy p bytes unit a b) =
          same_bind n _ _ _ _ (same_place a) (λ to.
          same_bind n _ _ _ _ (same_place b) (λ from.
          same_then n _ _ _ _ (same_copy n p bytes unit from to) (same_give n to)))
      same_place (Number v) = same_give n nowhere
      same_place (Null v) = same_give n nowhere
      same_place (Load k e) = same_give n nowhere
      same_place (Pointer_to p o e) = same_give n nowhere
      same_place (Convert p old new plain e) = same_give n nowhere
      same_place (Discard e) = same_give n nowhere
      same_place (Unary p sign k e) = same_give n nowhere
      same_place (Not p k e) = same_give n nowhere
      same_place (Binary p op a b) = same_give n nowhere
      same_place (Compare p op k a b) = same_give n nowhere
      same_place (And p j k a b) = same_give n nowhere
      same_place (Or p j k a b) = same_give n nowhere
      same_place (Assign k a b) = same_give n nowhere
      same_place (Compound p op kind computed old a b) = same_give n nowhere
      same_place (Call p fits e args) = same_give n nowhere
      same_place (Library p service args) = same_give n nowhere

      pub same_values : (es : Exs) → Same n (values_of ops w call es) (values_of ops w call' es)
      same_values Nil = same_give n []
      same_values (Cons e es) =
          same_bind n _ _ _ _ (same_value e) (λ v. same_bind n _ _ _ _ (same_values es) (λ vs. same_give n (v ∷ vs)))
