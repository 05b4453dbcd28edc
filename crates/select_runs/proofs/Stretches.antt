-- Stretches of words that change several registers.
use Rattle.std.proofs.Common.{◌≡◌, ℕ, suc, ◌+◌, cond, Bool, true, false, List, ◌∷◌, ◌++◌, length, sym}
use Rattle.std.proofs.Common.{ap}
use Rattle.std.proofs.Common.{◌∙◌, subst, arith, Some, None, inl, inr, refl}
use Rattle.std.specs.Prelude.{nat_lt, position}
use Rattle.std.specs.Option.{option_map}
use Rattle.std.specs.List.{position_or_len}
use Rattle.std.proofs.lemmas.Bool.{cases_lt, le-ltb, lt-ltb}
use Rattle.std.proofs.lemmas.List.{length-append}
use Rattle.cap_ops.specs.declared.capability.Cap.{Cap}
use Rattle.rv_instr.specs.declared.instr.Instr.{Instr}
use Rattle.cap_machine.specs.declared.machine.Machine.{Machine}
use Rattle.cap_machine.specs.State.{register}
use Rattle.select_runs.specs.Acts.{Ground, HasText, Holds, IsThere, Leads, counter_at}
use Rattle.select_runs.proofs.Acts.{join}

-- So many acts lead to a word, memory is as it was, and something holds of the machine there
pub record Gone (g : Ground) (m : Machine) (count at : ℕ) (Has : Machine → Type 0) : Type 0 where
  pub to : Machine
  pub leads : Leads count m to
  pub counter : to.pc ≡ counter_at g at
  pub registers : length to.regs ≡ 32
  pub memory : to.mem ≡ m.mem
  pub has : Has to

-- one register has a capability, and of the others no more than one changed
abbrev pub Sets : (m : Machine) (changed r : ℕ) → Cap → Machine → Type 0
Sets m changed r c to = (register to r ≡ c) × ((q : ℕ) → (q ≡ changed → ⊥) → register to q ≡ register m q)

module _ (g : Ground) where
  pub stays_there : (m n : Machine) (from at : ℕ) → IsThere g m from → n.pc ≡ counter_at g at → length n.regs ≡ 32
      → n.mem ≡ m.mem → IsThere g n at
  stays_there m n from at there counter registers memory = record {
    counter = counter;
    registers = registers;
    text = subst (HasText g) (sym memory) there.text;
  }

  pub gone_on : (m : Machine) (n k mid end : ℕ) (Has Then : Machine → Type 0) → (h : Gone g m n mid Has)
      → Gone g h.to k end Then → Gone g m (n + k) end Then
  gone_on m n k mid end Has Then h w = record {
    to = w.to;
    leads = join n k m h.to w.to h.leads w.leads;
    counter = w.counter;
    registers = w.registers;
    memory = w.memory ∙ h.memory;
    has = w.has;
  }

  -- no words
  pub gone_nowhere : (m : Machine) (at : ℕ) (Has : Machine → Type 0) → IsThere g m at → Has m → Gone g m 0 (at + 0) Has
  gone_nowhere m at Has there h =
      let e : at ≡ at + 0 = omega arith in
      record {
        to = m;
        leads = refl;
        counter = there.counter ∙ ap (counter_at g) e;
        registers = there.registers;
        memory = refl;
        has = h;
      }

  pub gone : (m : Machine) (n at changed r : ℕ) (c : Cap) → Holds g m n at changed r c
      → Gone g m n at (Sets m changed r c)
  gone m n at changed r c h = record {
    to = h.to;
    leads = h.leads;
    counter = h.counter;
    registers = h.registers;
    memory = h.memory;
    has = (h.holds, h.others);
  }

  pub gone_as : (m : Machine) (n at : ℕ) (Has Then : Machine → Type 0) → Gone g m n at Has
      → ((to : Machine) → Has to → Then to) → Gone g m n at Then
  gone_as m n at Has Then h y = record {
    to = h.to;
    leads = h.leads;
    counter = h.counter;
    registers = h.registers;
    memory = h.memory;
    has = y h.to h.has;
  }

  -- two stretches of words, each of which is gone through once
  pub gone_both : (m : Machine) (at : ℕ) → IsThere g m at → (a b : List Instr) (Has Then : Machine → Type 0)
      → Gone g m (length a) (at + length a) Has
      → ((n : Machine) → IsThere g n (at + length a) → n.mem ≡ m.mem → Has n
      → Gone g n (length b) (at + length a + length b) Then)
      → Gone g m (length (a ++ b)) (at + length (a ++ b)) Then
  gone_both m at there a b Has Then h rest =
      let e = length-append a b in
      let f : at + length a + length b ≡ at + length (a ++ b) = omega (arith, e) in
      let w = rest h.to (stays_there m h.to at (at + length a) there h.counter h.registers h.memory) h.memory h.has in
      subst (λ n. Gone g m n (at + length (a ++ b)) Then) (sym e)
      (subst (λ n. Gone g m (length a + length b) n Then) f
      (gone_on m (length a) (length b) (at + length a) (at + length a + length b) Has Then h w))

-- ---- stretches that change memory

-- So many acts lead to a word, the code stands there still, and something holds of the machine
pub record Reached (g : Ground) (m : Machine) (count at : ℕ) (Has : Machine → Type 0) : Type 0 where
  pub to : Machine
  pub leads : Leads count m to
  pub there : IsThere g to at
  pub has : Has to

module _ (g : Ground) where
  pub reached_as : (m : Machine) (n at : ℕ) (Has Then : Machine → Type 0) → Reached g m n at Has
      → ((to : Machine) → Has to → Then to) → Reached g m n at Then
  reached_as m n at Has Then h y = record { to = h.to; leads = h.leads; there = h.there; has = y h.to h.has }

  pub reached : (m : Machine) (from n at : ℕ) → IsThere g m from → (Has Then : Machine → Type 0) → Gone g m n at Has
      → ((to : Machine) → to.mem ≡ m.mem → Has to → Then to) → Reached g m n at Then
  reached m from n at there Has Then h y = record {
    to = h.to;
    leads = h.leads;
    there = stays_there g m h.to from at there h.counter h.registers h.memory;
    has = y h.to h.memory h.has;
  }

  -- with what is known of the machine there
  pub reached_with : (m : Machine) (n at : ℕ) (Has Then : Machine → Type 0) → Reached g m n at Has
      → ((to : Machine) → IsThere g to at → Has to → Then to) → Reached g m n at Then
  reached_with m n at Has Then h y =
      record { to = h.to; leads = h.leads; there = h.there; has = y h.to h.there h.has }

  pub reached_full : (m : Machine) (from n at : ℕ) → IsThere g m from → (Has Then : Machine → Type 0)
      → Gone g m n at Has → ((to : Machine) → length to.regs ≡ 32 → to.mem ≡ m.mem → Has to → Then to)
      → Reached g m n at Then
  reached_full m from n at there Has Then h y = record {
    to = h.to;
    leads = h.leads;
    there = stays_there g m h.to from at there h.counter h.registers h.memory;
    has = y h.to h.registers h.memory h.has;
  }

  pub reached_nowhere : (m : Machine) (at : ℕ) (Has : Machine → Type 0) → IsThere g m at → Has m
      → Reached g m 0 (at + 0) Has
  reached_nowhere m at Has there h =
      let e : at ≡ at + 0 = omega arith in
      record { to = m; leads = refl; there = subst (IsThere g m) e there; has = h }

  pub reached_on : (m : Machine) (n k mid end : ℕ) (Has Then : Machine → Type 0) → Reached g m n mid Has
      → ((a : Machine) → IsThere g a mid → Has a → Reached g a k end Then) → Reached g m (n + k) end Then
  reached_on m n k mid end Has Then h rest =
      let w = rest h.to h.there h.has in
      record { to = w.to; leads = join n k m h.to w.to h.leads w.leads; there = w.there; has = w.has }

  pub reached_both : (m : Machine) (at : ℕ) (a b : List Instr) (Has Then : Machine → Type 0)
      → Reached g m (length a) (at + length a) Has
      → ((n : Machine) → IsThere g n (at + length a) → Has n
      → Reached g n (length b) (at + length a + length b) Then)
      → Reached g m (length (a ++ b)) (at + length (a ++ b)) Then
  reached_both m at a b Has Then h rest =
      let e = length-append a b in
      let f : at + length a + length b ≡ at + length (a ++ b) = omega (arith, e) in
      subst (λ n. Reached g m n (at + length (a ++ b)) Then) (sym e)
      (subst (λ n. Reached g m (length a + length b) n Then) f
      (reached_on m (length a) (length b) (at + length a) (at + length a + length b) Has Then h rest))

-- ---- the place of an element

pub place_here : (test : ℕ → Bool) (x : ℕ) (xs : List ℕ) → test x ≡ true → position test (x ∷ xs) ≡ Some 0
place_here test x xs e = rw (e, lt-ltb 0 (suc (length xs)) (omega arith)) refl

pub place_later : (test : ℕ → Bool) (x : ℕ) (xs : List ℕ) → test x ≡ false
    → position test (x ∷ xs) ≡ option_map (λ k. 1 + k) (position test xs)
place_later test x xs e =
    let k = position_or_len test xs in
    rw e (elim (cases_lt k (length xs)) as (λ _. cond (nat_lt (1 + k) (length (x ∷ xs))) (Some (1 + k)) None
    ≡ option_map (λ j. 1 + j) (cond (nat_lt k (length xs)) (Some k) None)) [
      | inl l ↦ rw (lt-ltb k (length xs) l, lt-ltb (1 + k) (length (x ∷ xs)) (omega arith)) refl
      | inr l ↦ rw (le-ltb k (length xs) l, le-ltb (1 + k) (length (x ∷ xs)) (omega arith)) refl
    ])
