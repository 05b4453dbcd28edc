-- Acts at the words of code in its text: a word is fetched, and its row is done.
use Rattle.std.proofs.Common.{◌≡◌, ◌≢◌, ℕ, zero, suc, ◌+◌, ◌%◌, ◌^◌, ◌<◌, ◌≤◌, Bool, true, false, eqb, List, [], ◌∷◌}
use Rattle.std.proofs.Common.{length, Some, Ok, refl, sym, ap, ◌∙◌, subst, arith, eq-eqb, if◌then◌else◌}
use Rattle.std.specs.Prelude.{nat_lt, nat_eq, slice_get, slice_set, slice_index_or, ◌++◌}
use Rattle.std.proofs.lemmas.Bool.{le-ltb, ne_eqb}
use Rattle.std.proofs.lemmas.List.{get_or-set_same, get_or-set_other, length-set}
use Rattle.std.proofs.lemmas.Option.{slice_get_within}
use Rattle.ck_base.specs.Runs.{Goes}
use Rattle.cap_concentrate.specs.Encoding.{with_bounds}
use Rattle.cap_concentrate.specs.Rounding.{Encodable}
use Rattle.cap_ops.specs.declared.capability.Cap.{Cap}
use Rattle.cap_ops.specs.declared.capability.TheConstants.{UNSEALED}
use Rattle.cap_ops.specs.Capability.{base, top, moved, added, null_at}
use Rattle.cap_ops.specs.Bounded.{bounded}
use Rattle.cap_ops.specs.Access.{checked}
use Rattle.cap_ops.specs.declared.access.Access.TheVariants as access
use Rattle.cap_ops.proofs.Laws.{bounded_bounds, bounded_moved}
use Rattle.rv_instr.specs.declared.instr.Instr.{Instr}
use Rattle.rv_instr.specs.declared.instr.Instr.TheVariants.{Ecall}
use Rattle.rv_code.specs.Formats.{word_of}
use Rattle.rv_code.specs.Encoding.{fields_of, Encodes}
use Rattle.rv_code.proofs.Laws.{decode_of-encoded}
use Rattle.tag_mem.specs.Areas.{Area}
use Rattle.cap_machine.specs.declared.machine.Machine.{Machine}
use Rattle.cap_machine.specs.State.{register, with_register, next, counter}
use Rattle.cap_machine.specs.Rows.{row, set}
use Rattle.cap_machine.specs.Step.{act, fetched, fetch_checked, read, decoded, act_of, act_on, act_fetched, is_call}
use Rattle.select_words.specs.Standing.{HasAt}
use Rattle.select_runs.specs.Acts.{Ground, Laid, place, counter_at, HasText, Leads, Holds, IsThere}

-- ---- capabilities

checked_jump : (low high a : ℕ) → nat_lt a (base (bounded low high 3 UNSEALED a)) ≡ false
    → nat_lt (top (bounded low high 3 UNSEALED a)) (a + 4) ≡ false → eqb (a % 4) 0 ≡ true
    → checked (bounded low high 3 UNSEALED a) a access.Jump ≡ Ok a
unfolding checked with_bounds
checked_jump low high a x y z = rw (x, y, z) refl

address_is : (low high perms a : ℕ) → (bounded low high perms UNSEALED a).fields.address ≡ a
unfolding with_bounds
address_is low high perms a = refl

-- the address of the word at the counter
pub counter_place : (g : Ground) (m : Machine) (at : ℕ) → m.pc ≡ counter_at g at → counter m ≡ place g at
counter_place g m at e = ap (λ (c : Cap). c.fields.address) e ∙ address_is g.text g.text_end 3 (place g at)

-- a capability with exact bounds, moved inside them
pub added_is : (low high perms a b by : ℕ) → Encodable low high → low < 2 ^ 64 → low ≤ a → a ≤ high → low ≤ b → b ≤ high
    → (a + by) % 2 ^ 64 ≡ b → added (bounded low high perms UNSEALED a) by ≡ bounded low high perms UNSEALED b
unfolding with_bounds
added_is low high perms a b by enc small a_from a_to b_from b_to sum =
    let x = bounded_bounds low high perms UNSEALED a enc small a_from a_to in
    let y = bounded_bounds low high perms UNSEALED b enc small b_from b_to in
    ap (moved (bounded low high perms UNSEALED a)) sum ∙ bounded_moved low high perms a b x.0 x.1 y.0 y.1

-- ---- registers

pub with_is : (m : Machine) (r : ℕ) (c : Cap) → 0 < r → with_register m r c ≡ record m { regs = slice_set m.regs r c }
with_is m r c h = ap (λ b. if b then m else record m { regs = slice_set m.regs r c }) (ne_eqb r 0 (omega arith))

pub register_some : (m : Machine) (r : ℕ) → 0 < r → register m r ≡ slice_index_or m.regs r (null_at 0)
register_some m r h = ap (λ b. if b then null_at 0 else slice_index_or m.regs r (null_at 0)) (ne_eqb r 0 (omega arith))

-- a register after one of them was set
pub set_same : (m : Machine) (pc : Cap) (mem : List Area) (r : ℕ) (c : Cap) → length m.regs ≡ 32 → 0 < r → r < 32
    → register (record { regs = slice_set m.regs r c; pc = pc; mem = mem }) r ≡ c
set_same m pc mem r c long some below =
    register_some (record { regs = slice_set m.regs r c; pc = pc; mem = mem }) r some
    ∙ get_or-set_same m.regs r c (null_at 0) (omega arith)

pub set_other : (m : Machine) (pc : Cap) (mem : List Area) (r q : ℕ) (c : Cap) → q ≢ r
    → register (record { regs = slice_set m.regs r c; pc = pc; mem = mem }) q ≡ register m q
set_other m pc mem r q c other = by (nat_eq q 0)
  where
    by : (b : Bool) → (if b then null_at 0 else slice_index_or (slice_set m.regs r c) q (null_at 0))
        ≡ (if b then null_at 0 else slice_index_or m.regs q (null_at 0))
    by true = refl
    by false = get_or-set_other m.regs r q c (null_at 0) other

-- ---- stretches

pub join : (j k : ℕ) (l m n : Machine) → Leads j l m → Leads k m n → Leads (j + k) l n
join zero k l m n r q = let e : k ≡ 0 + k = omega arith in
    subst (λ i. Leads i l n) e (subst (λ v. Leads k v n) (sym r) q)
join (suc j) k l m n r q =
    let e : suc (j + k) ≡ suc j + k = omega arith in
    let x : Leads (suc (j + k)) l n = (r.0, r.1, join j k r.0 m n r.2 q) in
    subst (λ i. Leads i l n) e x

pub act_on_row : (m : Machine) (i : Instr) → is_call i ≡ false → act_on m i ≡ act_of (row m i)
act_on_row m Ecall h = cc
act_on_row m i h = refl

-- ---- words

pub has_front : (code : List Instr) (at : ℕ) (a b : List Instr) → HasAt code at (a ++ b) → HasAt code at a
has_front code at [] b h = tt
has_front code at (i ∷ a) b h = (h.0, has_front code (at + 1) a b h.1)

pub has_back : (code : List Instr) (at : ℕ) (a b : List Instr) → HasAt code at (a ++ b)
    → HasAt code (at + length a) b
has_back code at [] b h = let q : at ≡ at + 0 = omega arith in subst (λ m. HasAt code m b) q h
has_back code at (i ∷ a) b h =
    let q : at + 1 + length a ≡ at + suc (length a) = omega arith in
    subst (λ m. HasAt code m b) q (has_back code (at + 1) a b h.1)

module _ (g : Ground) (laid : Laid g) where
  text_small : g.text < 2 ^ 64
  text_small = let a = laid.below in let b = laid.room in omega arith

  pub counter_moved : (at to by : ℕ) → at ≤ length g.code → to ≤ length g.code
      → (place g at + by) % 2 ^ 64 ≡ place g to → added (counter_at g at) by ≡ counter_at g to
  counter_moved at to by h j sum =
      let room = laid.room in
      added_is g.text g.text_end 3 (place g at) (place g to) by laid.exact text_small (omega arith) (omega arith)
      (omega arith) (omega arith) sum

  next_counter : (at : ℕ) → at < length g.code → added (counter_at g at) 4 ≡ counter_at g (at + 1)
  next_counter at h =
      let room = laid.room in let below = laid.below in
      counter_moved at (at + 1) 4 (omega arith) (omega arith) (omega arith)

  fetch_here : (at : ℕ) → at < length g.code → checked (counter_at g at) (place g at) access.Jump ≡ Ok (place g at)
  fetch_here at h =
      let room = laid.room in let aligned = laid.aligned in
      let b = bounded_bounds g.text g.text_end 3 UNSEALED (place g at) laid.exact text_small (omega arith)
      (omega arith) in
      checked_jump g.text g.text_end (place g at)
      (ap (λ n. nat_lt (place g at) n) b.0 ∙ le-ltb (place g at) g.text (omega arith))
      (ap (λ n. nat_lt n (place g at + 4)) b.1 ∙ le-ltb g.text_end (place g at + 4) (omega arith))
      (eq-eqb (place g at % 4) 0 (omega arith))

  -- the machine at a word of the code
  pub fetched_here : (m : Machine) (at : ℕ) (i : Instr) → m.pc ≡ counter_at g at → HasText g m.mem
      → slice_get g.code at ≡ Some i → act m ≡ act_on m i
  unfolding act fetched
  fetched_here m at i pc text has =
      let within = slice_get_within g.code at i has in
      let word = word_of (fields_of i) in
      let encodes : Encodes word i = record { in_range = laid.in_range at i has; word = refl } in
      let here : counter m ≡ place g at =
      ap (λ (c : Cap). c.fields.address) pc ∙ address_is g.text g.text_end 3 (place g at) in
      ap (λ c. act_fetched m (fetch_checked m (checked c (counter m) access.Jump))) pc
      ∙ ap (λ a. act_fetched m (fetch_checked m (checked (counter_at g at) a access.Jump))) here
      ∙ ap (λ r. act_fetched m (fetch_checked m r)) (fetch_here at within)
      ∙ ap (λ r. act_fetched m (read m r)) (text at i has)
      ∙ ap (λ r. act_fetched m (decoded m r)) (decode_of-encoded word i encodes)

  pub next_is : (m : Machine) (at : ℕ) → m.pc ≡ counter_at g at → at < length g.code
      → next m ≡ record m { pc = counter_at g (at + 1) }
  next_is m at pc h = ap (λ (c : Cap). record m { pc = c }) (ap (λ c. added c 4) pc ∙ next_counter at h)

  -- ---- words that set registers

  pub begins : (m : Machine) (at changed r : ℕ) → IsThere g m at → Holds g m 0 at changed r (register m r)
  begins m at changed r there = record {
    to = m;
    leads = refl;
    counter = there.counter;
    registers = there.registers;
    holds = refl;
    others = λ q d. refl;
    memory = refl;
  }

  -- what is reached stands there
  pub still : (m : Machine) (at from changed r n : ℕ) (c : Cap) → IsThere g m from → (h : Holds g m n at changed r c)
      → IsThere g h.to at
  still m at from changed r n c there h = record {
    counter = h.counter;
    registers = h.registers;
    text = subst (HasText g) (sym h.memory) there.text;
  }

  -- one word that sets the register
  pub one_set : (m : Machine) (at : ℕ) (there : IsThere g m at) (i : Instr) (r : ℕ) (c : Cap)
      → slice_get g.code at ≡ Some i
      → is_call i ≡ false → 0 < r → r < 32 → row m i ≡ set m r c → Holds g m 1 (at + 1) r r c
  one_set m at there i r c has plain some below does =
      let within = slice_get_within g.code at i has in
      let long = there.registers in
      let u : Machine = record m { regs = slice_set m.regs r c } in
      let v : Machine = record u { pc = counter_at g (at + 1) } in
      let is : next (with_register m r c) ≡ v = ap next (with_is m r c some) ∙ next_is u at there.counter within in
      let goes : act m ≡ Goes v = fetched_here m at i there.counter there.text has ∙ act_on_row m i plain
      ∙ ap act_of does ∙ ap Goes is in
      record {
        to = v;
        leads = (v, goes, refl);
        counter = refl;
        registers = length-set m.regs r c ∙ long;
        holds = set_same m (counter_at g (at + 1)) m.mem r c long some below;
        others = λ q d. set_other m (counter_at g (at + 1)) m.mem r q c d;
        memory = refl;
      }

  -- behind a stretch that changed the same register
  pub after : (m : Machine) (at mid end changed r s n k : ℕ) (c d : Cap) (h : Holds g m n mid changed r c)
      → Holds g h.to k end changed s d → Holds g m (n + k) end changed s d
  after m at mid end changed r s n k c d h w = record {
    to = w.to;
    leads = join n k m h.to w.to h.leads w.leads;
    counter = w.counter;
    registers = w.registers;
    holds = w.holds;
    others = λ q e. w.others q e ∙ h.others q e;
    memory = w.memory ∙ h.memory;
  }
