-- What the code of expressions and statements takes, added up.
use Rattle.std.proofs.Common.{◌≡◌, ℕ, ◌+◌, ◌*◌, ◌<◌, ◌≤◌, Bool, true, false, []}
use Rattle.std.proofs.Common.{length, Option, Some, None, IfSome, Result, Ok, Err, IfOk, ⊎_elim, inl, inr}
use Rattle.std.proofs.Common.{refl, sym, ap, ◌∙◌, subst, arith}
use Rattle.std.specs.Prelude.{nat_lt, if◌then◌else◌}
use Rattle.std.proofs.lemmas.Bool.Decides.{nat_tests}
use Rattle.tac_ir.specs.Costs.{cost, outgoing_by}
use Rattle.tac_ir.specs.Temps.{locals, zeros}
use Rattle.tac_ir.specs.Within.{copied_parts}
use Rattle.tac_ir.specs.declared.code.TacInstr.{TacInstr}
use Rattle.tac_emit.proofs.Spending.{pushed_spent, labelled_spent, forked_spent, spent_same, spent_then, spent_within}
use Rattle.tac_emit.proofs.Spending.{takes_then, takes_within, taken_enters, enters_then, enters_within}
use Rattle.tac_emit.specs.declared.emitter.Emitter.{Emitter}
use Rattle.tac_emit.specs.Emitted.{Pushed}
use Rattle.tac_lower.specs.declared.statements.Circle.{Circle}
use Rattle.tac_lower.specs.Statements.{Begun}
use Rattle.tac_emit.specs.Spent.{Takes, Spent, no_zeros, Enters}
use Rattle.tac_lower.specs.Spent.{extra}
use Rattle.tac_lower.specs.Spent.{Spends, Consumes, Owns}

-- a loop begins
pub begun_spent : {a b : Emitter} {c : Circle} → Begun a b c → Spent a b 0 0
begun_spent h =
    spent_within (spent_then (spent_then (labelled_spent h.top) (pushed_spent _ _ _ h.stands refl refl))
    (forked_spent h.others))
    (omega arith) (omega arith)

-- ---- in a function whose first temps belong to its variables

pub extra_small : (f : ℕ) (to : Option ℕ) → extra f to ≤ 1
unfolding extra
extra_small f None = omega arith
extra_small f (Some t) = by (nat_lt t f)
  where
    by : (b : Bool) → (if b then 1 else 0) ≤ 1
    by true = omega arith
    by false = omega arith

pub extra_none : (f : ℕ) → extra f None ≡ 1
unfolding extra
extra_none f = refl

module _ {f : ℕ} where
  pub nothing : {a : Emitter} → Spends f a a 0 0 0
  nothing {a = a} = record { spent = λ s. spent_same a 0 }

  pub plainly : {a b : Emitter} {m n u : ℕ} → Takes a b m n u → Spends f a b m n u
  plainly h = record { spent = λ s. h }

  pub after : {a b c : Emitter} {m n u k l v : ℕ} → Spends f a b m n u → Spends f b c k l v →
      Spends f a c (m + k) (n + l) (u + v)
  after g h = record { spent = λ s. takes_then (g.spent s) (h.spent (omega (arith, s, (g.spent s).grows))) }

  pub within : {a b : Emitter} {m n u k l v : ℕ} → Spends f a b m n u → m ≤ k → n ≤ l → u ≤ v → Spends f a b k l v
  within h i j q = record { spent = λ s. takes_within (h.spent s) i j q }

  -- with code that copies nothing
  pub and : {a b c : Emitter} {m n u k l : ℕ} → Spends f a b m n u → Spent b c k l → Spends f a c (m + k) (n + l) u
  and g h = within (after g (plainly h)) (omega arith) (omega arith) (omega arith)

  -- a new temp belongs to an expression
  pub fresh : (t : ℕ) → f ≤ t → extra f (Some t) ≡ 0
  unfolding extra
  fresh t h = let no : nat_lt t f ≡ false = grind (arith, nat_tests) in ap (λ b. if b then 1 else 0) no

  pub in_fresh : {a b c : Emitter} {t n u : ℕ} (m : ℕ) → t ≡ length a.kinds.items → Spent a b 1 0
      → Spends f b c (m + extra f (Some t)) (n + 6 * extra f (Some t)) u → Spends f a c (m + 1) n u
  in_fresh {t = t} m e g h = record {
    spent = λ s.
        let none : extra f (Some t) ≡ 0 = fresh t (omega (arith, e, s)) in
        let rest = h.spent (omega (arith, s, g.grows)) in
        let both = takes_then g rest in
        takes_within both (omega (arith, none)) (omega (arith, none)) (omega arith);
  }

  -- ---- where the last call's result is handed on

  pub last : {T E : Type 0} {a b : Emitter} {m n u k l v : ℕ} (c : Emitter) (y z x : ℕ) (r : Result T E)
      → Spends f a b m n u → IfOk r (λ _. Spends f b c y z x) → m + y ≤ k → n + z ≤ l → u + x ≤ v →
      IfOk r (λ _. Spends f a c k l v)
  last c y z x (Ok t) g h i j q = within (after g h) i j q
  last c y z x (Err e) g h i j q = tt

  pub last_and : {T E : Type 0} {a b : Emitter} {m n u k l v : ℕ} (c : Emitter) (y z x : ℕ) (r : Result T E)
      → Spends f a b m n u → IfOk r (λ _. Takes b c y z x) → m + y ≤ k → n + z ≤ l → u + x ≤ v →
      IfOk r (λ _. Spends f a c k l v)
  last_and c y z x (Ok t) g h i j q = within (after g (plainly h)) i j q
  last_and c y z x (Err e) g h i j q = tt

  pub last_pushed : {T E : Type 0} {a b : Emitter} {m n u k l v : ℕ} (c : Emitter) (i : TacInstr) (r : Result T E)
      → Spends f a b m n u → IfOk r (λ _. Pushed b c i) → m + outgoing_by i ≤ k → n + cost i ≤ l →
      u + copied_parts i ≤ v → locals i ≡ [] → zeros i ≡ [] → IfOk r (λ _. Spends f a c k l v)
  last_pushed {b = b} c i (Ok x) g h o p q d e = within (after g (plainly (pushed_spent b c i h d e))) o p q
  last_pushed c i (Err x) g h o p q d e = tt

  -- ---- statements, which may enter objects

  pub of_code : {a b : Emitter} {m n u : ℕ} → Takes a b m n u → Consumes f a b m n u no_zeros
  of_code h = record { spent = λ s. taken_enters h }

  pub of_entry : {a b : Emitter} {m n u : ℕ} {x : ℕ → ℕ} → Enters a b m n u x → Consumes f a b m n u x
  of_entry h = record { spent = λ s. h }

  pub of_expression : {a b : Emitter} {m n u : ℕ} → Spends f a b m n u → Consumes f a b m n u no_zeros
  of_expression h = record { spent = λ s. taken_enters (h.spent s) }

  pub parts_after : {a b c : Emitter} {m n u k l v : ℕ} {x y : ℕ → ℕ} → Consumes f a b m n u x →
      Consumes f b c k l v y → Consumes f a c (m + k) (n + l) (u + v) (λ w. x w + y w)
  parts_after g h = record { spent = λ s. enters_then (g.spent s) (h.spent (omega (arith, s, (g.spent s).grows))) }

  pub parts_within : {a b : Emitter} {m n u k l v : ℕ} {x y : ℕ → ℕ} → Consumes f a b m n u x → m ≤ k → n ≤ l →
      u ≤ v → ((w : ℕ) → x w ≤ y w) → Consumes f a b k l v y
  parts_within h i j q z = record { spent = λ s. enters_within (h.spent s) i j q z }

  pub parts_last : {T E : Type 0} {a b : Emitter} {m n u k l v : ℕ} {x z : ℕ → ℕ} (c : Emitter) (g h e : ℕ)
      (y : ℕ → ℕ) (r : Result T E) → Consumes f a b m n u x → IfOk r (λ _. Consumes f b c g h e y) → m + g ≤ k →
      n + h ≤ l →
      u + e ≤ v → ((w : ℕ) → x w + y w ≤ z w) → IfOk r (λ _. Consumes f a c k l v z)
  parts_last c g h e y (Ok t) d s i j q o = parts_within (parts_after d s) i j q o
  parts_last c g h e y (Err t) d s i j q o = tt

  pub parts_last_of : {T E : Type 0} {a b : Emitter} {m n u k l v : ℕ} {x z : ℕ → ℕ} (c : Emitter) (g h e : ℕ)
      (r : Result T E) → Consumes f a b m n u x → IfOk r (λ _. Spends f b c g h e) → m + g ≤ k → n + h ≤ l →
      u + e ≤ v → ((w : ℕ) → x w ≤ z w) → IfOk r (λ _. Consumes f a c k l v z)
  parts_last_of c g h e (Ok t) d s i j q o =
      parts_within (parts_after d (of_expression s)) i j q (λ w. omega (arith, o w))
  parts_last_of c g h e (Err t) d s i j q o = tt

  pub parts_last_and : {T E : Type 0} {a b : Emitter} {m n u k l v : ℕ} {x z : ℕ → ℕ} (c : Emitter) (g h e : ℕ)
      (r : Result T E) → Consumes f a b m n u x → IfOk r (λ _. Takes b c g h e) → m + g ≤ k → n + h ≤ l →
      u + e ≤ v → ((w : ℕ) → x w ≤ z w) → IfOk r (λ _. Consumes f a c k l v z)
  parts_last_and c g h e (Ok t) d s i j q o = parts_within (parts_after d (of_code s)) i j q (λ w. omega (arith, o w))
  parts_last_and c g h e (Err t) d s i j q o = tt

  pub parts_last_pushed : {T E : Type 0} {a b : Emitter} {m n u k l v : ℕ} {x z : ℕ → ℕ} (c : Emitter) (i : TacInstr)
      (r : Result T E) → Consumes f a b m n u x → IfOk r (λ _. Pushed b c i) → m + outgoing_by i ≤ k → n + cost i ≤ l →
      u + copied_parts i ≤ v → ((w : ℕ) → x w ≤ z w) → locals i ≡ [] → zeros i ≡ [] →
      IfOk r (λ _. Consumes f a c k l v z)
  parts_last_pushed {b = b} c i (Ok t) g h o p q y d e =
      parts_within (parts_after g (of_code (pushed_spent b c i h d e))) o p q (λ w. omega (arith, y w))
  parts_last_pushed c i (Err t) g h o p q y d e = tt

  -- ---- a temp for a value that is changed in steps

  pub owned : {a b c : Emitter} {to : Option ℕ} {t m n u : ℕ} → Spends f a b m n u → Owns f to b c t →
      Spends f a c (m + extra f to) n u
  owned g h = record {
    spent = λ s.
        takes_within (takes_then (g.spent s) (h.spent (omega (arith, s, (g.spent s).grows)))) (omega arith)
        (omega arith) (omega arith);
  }

  pub in_own : {a b c : Emitter} {to : Option ℕ} {t n u : ℕ} (m : ℕ) → Owns f to a b t
      → Spends f b c (m + extra f (Some t)) (n + 6 * extra f (Some t)) u → Spends f a c (m + extra f to) n u
  in_own {to = to} {t = t} m g h = record {
    spent = λ s.
        let none : extra f (Some t) ≡ 0 = g.own s in
        let mine = g.spent s in
        takes_within (takes_then mine (h.spent (omega (arith, s, mine.grows)))) (omega (arith, none))
        (omega (arith, none)) (omega arith);
  }

  pub other : (t : ℕ) → t < f → extra f (Some t) ≡ 1
  unfolding extra
  other t h = let yes : nat_lt t f ≡ true = grind (arith, nat_tests) in ap (λ b. if b then 1 else 0) yes

  pub own_given : {a : Emitter} {to : Option ℕ} {t : ℕ} → to ≡ Some t → f ≤ t → Owns f to a a t
  own_given {a = a} {to = to} {t = t} e h = record {
    spent = λ s. spent_within (spent_same a 0) (omega arith) (omega arith);
    own = λ s. fresh t h;
    given = inr e;
  }

  pub own_new : {a b : Emitter} {to : Option ℕ} {t : ℕ} → extra f to ≡ 1 → t ≡ length a.kinds.items → Spent a b 1 0 →
      Owns f to a b t
  own_new {t = t} e next h = record {
    spent = λ s. spent_within h (omega (arith, e)) (omega arith);
    own = λ s. fresh t (omega (arith, s, next));
    given = inl e;
  }

  -- the value is handed on to where it is asked for
  pub last_given : {T E : Type 0} {a b d g : Emitter} {to : Option ℕ} {t m n u k l v : ℕ} (c : Emitter) (r : Result T E)
      → Owns f to d g t → Spends f a b m n u → IfOk r (λ _. Spent b c 0 6)
      → (IfSome to (λ u. u ≡ t) → IfOk r (λ _. Spent b c 0 0)) → m ≤ k → n + 6 * extra f to ≤ l → u ≤ v →
      IfOk r (λ _. Spends f a c k l v)
  last_given {to = to} {t = t} c (Ok x) o g h there i j q =
      ⊎_elim (λ (e : extra f to ≡ 1). within (and g h) (omega (arith, i)) (omega (arith, e, j)) q)
      (λ (e : to ≡ Some t). within (and g (there (subst (λ z. IfSome z (λ u. u ≡ t)) (sym e) refl))) (omega (arith, i))
      (omega (arith, j)) q) o.given
  last_given c (Err x) o g h there i j q = tt

module _ (f : ℕ) {T : Type 0} (a b : Emitter) {to : Option ℕ} where
  pub own_none : (r : Result ℕ T) → to ≡ None → IfOk r (λ t. t ≡ length a.kinds.items) → IfOk r (λ _. Spent a b 1 0)
      → IfOk r (λ t. Owns f to a b t)
  own_none (Ok t) e next h = own_new (ap (extra f) e ∙ extra_none f) next h
  own_none (Err x) e next h = tt

  pub own_other : (r : Result ℕ T) (u : ℕ) → to ≡ Some u → u < f → IfOk r (λ t. t ≡ length a.kinds.items)
      → IfOk r (λ _. Spent a b 1 0) → IfOk r (λ t. Owns f to a b t)
  own_other (Ok t) u e lt next h = own_new (ap (extra f) e ∙ other u lt) next h
  own_other (Err x) u e lt next h = tt

-- the last call has its value in a new temp
pub last_fresh : {T E : Type 0} {a b : Emitter} {t n u k l v : ℕ} (f m : ℕ) (c : Emitter) (r : Result T E) →
    t ≡ length a.kinds.items → Spent a b 1 0 →
    IfOk r (λ _. Spends f b c (m + extra f (Some t)) (n + 6 * extra f (Some t)) u) → m + 1 ≤ k → n ≤ l → u ≤ v →
    IfOk r (λ _. Spends f a c k l v)
last_fresh f m c (Ok x) e g h i j q = within (in_fresh m e g h) i j q
last_fresh f m c (Err x) e g h i j q = tt
