-- Operands come to registers, words compute of them, and the result goes home.
use Rattle.std.proofs.Common.{◌≡◌, ◌≢◌, ℕ, ◌+◌, ◌<◌, ◌≤◌, ◌⊎◌, true, false, List, [], ◌∷◌, ◌++◌, length, Some, refl}
use Rattle.std.proofs.Common.{sym, ap, ◌∙◌, subst, arith, inl, inr}
use Rattle.std.specs.Prelude.{slice_get, slice_set}
use Rattle.std.proofs.lemmas.Bool.{and_parts, ltb-true}
use Rattle.std.proofs.lemmas.List.{length-append}
use Rattle.cap_ops.specs.declared.capability.Cap.{Cap}
use Rattle.cap_ops.specs.Capability.{null_at}
use Rattle.rv_instr.specs.declared.instr.Instr.{Instr}
use Rattle.cap_machine.specs.declared.machine.Machine.{Machine}
use Rattle.cap_machine.specs.State.{register}
use Rattle.cap_machine.specs.Rows.{row, set}
use Rattle.cap_machine.specs.Step.{is_call}
use Rattle.c_tree.specs.declared.typed.Typed.{Typed}
use Rattle.obj_mem.specs.Objects.{base_in}
use Rattle.obj_mem.specs.Table.{addresses_of}
use Rattle.obj_mem.specs.Values.{Value, Int, Live, Fun, Raw, Addresses, capability_of}
use Rattle.cheri_c_sem.specs.Kinds.{Kind, Plain, Capability, number_of}
use Rattle.cheri_c_sem.specs.Modes as modes
use Rattle.cheri_c_sem.specs.Steps.{State}
use Rattle.tac_ir.specs.Costs.{number_cost}
use Rattle.tac_ir.specs.Effects.{kind_at, temp_in}
use Rattle.tac_ir.specs.Meaning.{Running}
use Rattle.tac_ir.specs.Temps.{IsIn as IsAmong, falls, reads, writes, now}
use Rattle.tac_ir.specs.WellFormed.{has_int, is_temp, is_int, amount_fits}
use Rattle.tac_ir.specs.declared.code.Amount.{Amount}
use Rattle.tac_ir.specs.declared.code.Amount.TheVariants as amount
use Rattle.tac_ir.specs.declared.code.TacInstr.{TacInstr}
use Rattle.place_inject.specs.Values.{IsKnown}
use Rattle.place_inject.specs.Frames.{Setting, Point, IsLive, functions_of}
use Rattle.place_inject.specs.Spills.{StackIsThere}
use Rattle.select_words.specs.Standing.{HasAt}
use Rattle.select_words.specs.Numbers.{MakesNumber}
use Rattle.select_words.specs.Emitted as emitted
use Rattle.select_words.specs.Emitted.{Operand, Target, Keep}
use Rattle.select_words.specs.Forms.{Makes, OfOne, OfTwo, Other, Amounts, Temps, Numbers}
use Rattle.select_runs.specs.Acts.{Ground, HasText, IsThere, Holds, Leads, counter_at}
use Rattle.select_runs.specs.Kinds.{IsOfKind, AreOfKinds}
use Rattle.select_runs.specs.Operands.{ground_of, IsText, IsAtPoint}
use Rattle.select_runs.specs.Results.{Computed, MayTake, Arrives, before, behind, kinds_in, code_in, IsConstant}
use Rattle.select_runs.specs.Results.{IsSelectable}
use Rattle.select_runs.proofs.Acts.{has_front, has_back, one_set, join}
use Rattle.select_runs.proofs.Numbers.{numbers_are_made_law}
use Rattle.select_runs.proofs.Points.{laid, there, text_there, scratched}
use Rattle.select_runs.proofs.Operands.{holds_by}
use Rattle.select_runs.proofs.Results.{reads_no_more, results_go_home_law, target_may}
use Rattle.select_runs.proofs.Simple.{keep_few, operand_few, among_one, may_take}
use Rattle.select_runs.specs.Selecting.{selecting}

-- ---- values by their kinds

pub integer_of : (k : Kind) (v : Value) → is_int k ≡ true → IsOfKind k v → v ≡ Int (number_of v)
integer_of (Plain k) (Int n) i o = refl
integer_of (Plain k) (Live object low high offset permissions) i o = absurd o
integer_of (Plain k) (Fun f) i o = absurd o
integer_of (Plain k) (Raw address upper) i o = absurd o
integer_of (Capability signed) v i o = cc

pub integer_bits : (a : Addresses) (base : ℕ → ℕ) (n : ℕ) → capability_of a base (Int n) ≡ null_at n
unfolding capability_of
integer_bits a base n = refl

-- ---- amounts

abbrev pub amount_in : State modes.Store → Amount → ℕ
amount_in t (amount.Temp k) = number_of (temp_in t k)
amount_in t (amount.Number n) = n

-- the words that one takes at most
abbrev pub amount_words : Amount → ℕ
amount_words (amount.Temp k) = 3
amount_words (amount.Number n) = number_cost n

-- ---- words behind a point

-- A machine that still stands for the state at the point, so many acts on, where a register has a capability. No
-- register but one
-- changed since
pub record Got (s : Setting) (code : List Instr) (p : Point) (t : State modes.Store) (m from : Machine)
    (count mid changed r : ℕ)
    (c : Cap) : Type 0 where
  pub to : Machine
  pub leads : Leads count m to
  pub point : IsAtPoint s code p mid t to
  pub holds : register to r ≡ c
  pub others : (q : ℕ) → (q ≡ changed → ⊥) → register to q ≡ register from q

module _ (s : Setting) (code : List Instr) (x : IsText s code) (p : Point) (t : State modes.Store) where
  abbrev g : Ground
  g = ground_of s code

  abbrev pub bits : Value → Cap
  bits = capability_of (addresses_of s.map) (base_in t.mem.memory.shapes)

  pub got : (m n : Machine) (count at : ℕ) → Leads count m n → IsAtPoint s code p at t n
      → (scratch r size : ℕ) (c : Cap)
      → 28 ≤ scratch
      → Holds g n size (at + size) scratch r c → Got s code p t m n (count + size) (at + size) scratch r c
  got m n count at leads point scratch r size c above h = record {
    to = h.to;
    leads = join count size m n h.to leads h.leads;
    point = scratched s code x p at size (at + size) scratch r c t n point above h;
    holds = h.holds;
    others = h.others;
  }

  pub operand_got : (m n : Machine) (count at : ℕ) → Leads count m n → IsAtPoint s code p at t n → (temp scratch r : ℕ)
      → IsLive s p temp → 28 ≤ scratch → scratch < 32 → (words : List Instr)
      → Operand (selecting s p.running.fun) temp scratch words r
      → HasAt code at words
      → Got s code p t m n (count + length words) (at + length words) scratch r (bits (temp_in t temp))
  operand_got m n count at leads point temp scratch r live above below words o has =
      got m n count at leads point scratch r (length words) (bits (temp_in t temp)) above
      (holds_by s code x p at t n point temp scratch r live above below words has o)

  pub number_got : (m n : Machine) (count at : ℕ) → Leads count m n → IsAtPoint s code p at t n → (scratch value : ℕ)
      → 28 ≤ scratch → scratch < 32 → (words : List Instr) → MakesNumber scratch value words → HasAt code at words
      → Got s code p t m n (count + length words) (at + length words) scratch scratch (null_at value)
  number_got m n count at leads point scratch value above below words makes has =
      got m n count at leads point scratch scratch (length words) (null_at value) above
      (numbers_are_made_law g (laid s code x) n at (there s code x p at t n point) scratch value
      (omega arith) below words makes has)

  -- ---- words that compute

  one_word : (n : Machine) (at : ℕ) → IsThere g n at → (i : Instr) (r : ℕ) (c : Cap) → slice_get code at ≡ Some i
      → is_call i ≡ false → (4 < r) × (r < 29) → row n i ≡ set n r c → Holds g n 1 (at + 1) r r c
  one_word n at here i r c has plain range does =
      let from = range.0 in let to = range.1 in
      one_set g (laid s code x) n at here i r c has plain (omega arith) (omega arith) does

  -- what was computed stands in the text
  pub computed_there : (n : Machine) (at count mid changed r : ℕ) (c : Cap) → IsAtPoint s code p at t n
      → (h : Computed s code n count mid changed r c) → IsThere g h.to mid
  computed_there n at count mid changed r c point h = record {
    counter = h.counter;
    registers = h.registers;
    text = subst (HasText g) (sym h.memory) (text_there s code x (Some p) t n point.fits);
  }

  unchanged : (changed also y : ℕ) → y < 28 → (y ≡ changed → ⊥) → ((also ≡ changed) ⊎ (28 ≤ also)) → y ≡ also → ⊥
  unchanged changed also y l ne (inl e) same = ne (same ∙ e)
  unchanged changed also y l ne (inr above) same = absurd (omega (arith, l, above, same))

  -- a stretch that changes one register or a scratch register
  pub stretch : (n : Machine) (at changed size also q : ℕ) (d : Cap) → ((also ≡ changed) ⊎ (28 ≤ also))
      → Holds g n size (at + size) also q d → Computed s code n size (at + size) changed q d
  stretch n at changed size also q d may k = record {
    to = k.to;
    leads = k.leads;
    counter = k.counter;
    registers = k.registers;
    holds = k.holds;
    others = λ y l ne. k.others y (unchanged changed also y l ne may);
    memory = k.memory;
  }

  -- one more stretch, which changes the same register or a scratch register
  pub and_then : (n : Machine) (count mid changed r size also q : ℕ) (c d : Cap)
      (h : Computed s code n count mid changed r c)
      → ((also ≡ changed) ⊎ (28 ≤ also)) → Holds g h.to size (mid + size) also q d
      → Computed s code n (count + size) (mid + size) changed q d
  and_then n count mid changed r size also q c d h may k = record {
    to = k.to;
    leads = join count size n h.to k.to h.leads k.leads;
    counter = k.counter;
    registers = k.registers;
    holds = k.holds;
    others = λ y l ne. k.others y (unchanged changed also y l ne may) ∙ h.others y l ne;
    memory = k.memory ∙ h.memory;
  }

  -- a stretch that changes a scratch register alone keeps what was computed
  pub and_scratch : (n : Machine) (count mid r size also : ℕ) (c d : Cap) (h : Computed s code n count mid r r c)
      → 28 ≤ also
      → (also ≡ r → ⊥) → Holds g h.to size (mid + size) also also d
      → (e : Computed s code n (count + size) (mid + size) r r c) × (register e.to also ≡ d)
  and_scratch n count mid r size also c d h above other k = (
    record {
      to = k.to;
      leads = join count size n h.to k.to h.leads k.leads;
      counter = k.counter;
      registers = k.registers;
      holds = k.others r (λ e. other (sym e)) ∙ h.holds;
      others = λ y l ne. k.others y (unchanged r also y l ne (inr above)) ∙ h.others y l ne;
      memory = k.memory ∙ h.memory;
    },
    k.holds,
  )

  -- the first word, and a word that reads what the words before it computed
  pub first_word : (n : Machine) (at : ℕ) → IsAtPoint s code p at t n → (i : Instr) (r : ℕ) (c : Cap)
      → slice_get code at ≡ Some i
      → is_call i ≡ false → (4 < r) × (r < 29) → row n i ≡ set n r c → Computed s code n 1 (at + 1) r r c
  first_word n at point i r c has plain range does =
      stretch n at r 1 r r c (inl refl) (one_word n at (there s code x p at t n point) i r c has plain range does)

  pub next_word : (n : Machine) (at count mid r : ℕ) (c d : Cap) → IsAtPoint s code p at t n
      → (h : Computed s code n count mid r r c) → (i : Instr) → slice_get code mid ≡ Some i
      → is_call i ≡ false → (4 < r) × (r < 29) → ((u : Machine) → register u r ≡ c → row u i ≡ set u r d)
      → Computed s code n (count + 1) (mid + 1) r r d
  next_word n at count mid r c d point h i has plain range does =
      and_then n count mid r r 1 r r c d h (inl refl)
      (one_word h.to mid (computed_there n at count mid r r c point h) i r d has plain range (does h.to h.holds))

  -- one word alone
  pub one_only : (n : Machine) (at : ℕ) → IsAtPoint s code p at t n → (i : Instr) (r : ℕ) (c : Cap) (words : List Instr)
      → words ≡ i ∷ [] → HasAt code at words → is_call i ≡ false → (4 < r) × (r < 29) → row n i ≡ set n r c
      → Computed s code n (length words) (at + length words) r r c
  one_only n at point i r c words e has plain range does =
      let q = subst (HasAt code at) e has in
      subst (λ y. Computed s code n (length y) (at + length y) r r c) (sym e)
      (first_word n at point i r c q.0 plain range does)

  -- two, the second of which reads what the first computed
  pub two_words : (n : Machine) (at : ℕ) → IsAtPoint s code p at t n → (i j : Instr) (r : ℕ) (c d : Cap)
      (words : List Instr)
      → words ≡ i ∷ j ∷ [] → HasAt code at words → is_call i ≡ false → is_call j ≡ false → (4 < r) × (r < 29)
      → row n i ≡ set n r c
      → ((u : Machine) → register u r ≡ c → row u j ≡ set u r d)
      → Computed s code n (length words) (at + length words) r r d
  two_words n at point i j r c d words e has plain plain' range first second =
      let q = subst (HasAt code at) e has in
      let a = first_word n at point i r c q.0 plain range first in
      let size : at + 1 + 1 ≡ at + 2 = omega arith in
      subst (λ y. Computed s code n (length y) (at + length y) r r d) (sym e)
      (subst (λ y. Computed s code n 2 y r r d) size
      (next_word n at 1 (at + 1) r c d point a j q.1.0 plain' range second))

-- ---- an instruction that writes one temp

-- at most so many acts are at most more
pub within : (s : Setting) (code : List Instr) (p : Point) (least most more at : ℕ) (t : State modes.Store)
    (m : Machine) → most ≤ more
    → Arrives s code p least most at t m → Arrives s code p least more at t m
within s code p least most more at t m le a = let al = a.le in record {
  count = a.count;
  to = a.to;
  ge = a.ge;
  le = omega arith;
  leads = a.leads;
  point = a.point;
}

pub target_range : (s : Setting) (fun to r : ℕ) → ((q : ℕ) → emitted.IsIn (selecting s fun) to q → (5 ≤ q) × (q ≤ 27))
    → Target (selecting s fun) to r
    → (4 < r) × (r < 29)
target_range s fun to r usable (emitted.Own i) =
    let u = usable r i in let low_is = u.0 in let high_is = u.1 in (omega arith, omega arith)
target_range s fun to r usable (emitted.Number n is e) = (omega (arith, e), omega (arith, e))
target_range s fun to r usable (emitted.Spilled offset i e) = (omega (arith, e), omega (arith, e))

-- the register of an operand is not the second scratch register
pub unsecond : (s : Setting) (code : List Instr) → IsText s code → (fun t : ℕ) (words : List Instr) (a : ℕ)
    → Operand (selecting s fun) t 28 words a → a ≢ 29
unsecond s code x fun t words a (emitted.Nothing n e q) = λ z. absurd (omega (arith, q, z))
unsecond s code x fun t words a (emitted.Made v n makes few e) = λ z. absurd (omega (arith, e, z))
unsecond s code x fun t words a (emitted.AtHome i e) = let l : a < 28 = x.usable fun t a i.home in λ z. absurd (omega
    (arith, l, z))
unsecond s code x fun t words a (emitted.Loaded offset i e q) = λ z. absurd (omega (arith, q, z))

module _ (s : Setting) (code : List Instr) (x : IsText s code) (stack : StackIsThere s) (p : Typed) (running : Running)
    (i : TacInstr) (rest : List TacInstr) (to : ℕ) (falls_on : falls i ≡ true) (wrote : writes i ≡ to ∷ [])
    (no_constant : (n : ℕ) → IsConstant i n → ⊥) (sel : IsSelectable s p running i rest) (t : State modes.Store)
    (m : Machine) where
  abbrev here : Point
  here = before running i rest

  take : MayTake s (behind running rest) to
  take = may_take s p running i rest to sel (subst (IsAmong to) (sym wrote) (among_one to)) no_constant

  -- so many acts at most lead to the words behind, where the temp has the value
  abbrev pub After : (most end : ℕ) → Value → Type 0
  After most end v = Arrives s code (behind running rest) 0 most end (record t {
    vars = slice_set t.vars to
        (Some v);
  }) m

  -- what words compute, from a machine that stands for the state
  abbrev pub Does : Machine → ℕ → Value → (ℕ → List Instr → Type 0) → Type 0
  Does n mid v Work = (r : ℕ) (words : List Instr) → Work r words → (4 < r) × (r < 29) → HasAt code mid words
      → Computed s code n (length words) (mid + length words) r r (bits s code x here t v)

  -- They make the value, and it goes home
  pub makes_home : (n : Machine) (count mid : ℕ) → Leads count m n → IsAtPoint s code here mid t n
      → (v : Value) → IsKnown t.mem.memory.shapes (functions_of s) v → (Work : ℕ → List Instr → Type 0)
      → Does n mid v Work
      → (few : ℕ) → ((r : ℕ) (words : List Instr) → Work r words → length words ≤ few)
      → (words : List Instr) → Makes (selecting s running.fun) to Work words → HasAt code mid words
      → After (count + few + 3) (mid + length words) v
  makes_home n count mid leads point v known Work does few short words o has =
      let q = subst (HasAt code mid) o.are has in
      let may = target_may s code x running.fun to o.r o.target in
      let range = target_range s running.fun to o.r (λ r j. (take.register r j.home).usable) o.target in
      let c = does o.r o.work o.works range (has_front code mid o.work o.keep q) in
      let a = results_go_home_law s code x stack here mid t n point rest to take
      (reads_no_more s running i rest to falls_on wrote) v known (length o.work)
      (mid + length o.work) o.r o.r may.0 may.1 c
      o.keep o.kept (has_back code mid o.work o.keep q) in
      let al = a.le in
      let wl = short o.r o.work o.works in
      let kl = keep_few s running.fun to o.r o.keep o.kept in
      let size : mid + length o.work + length o.keep ≡ mid + length (o.work ++ o.keep) =
      omega (arith, length-append o.work o.keep) in
      subst (λ y. After (count + few + 3) (mid + length y) v) (sym o.are) (record {
        count = count + a.count;
        to = a.to;
        ge = omega arith;
        le = omega arith;
        leads = join count a.count m n a.to leads a.leads;
        point = record { fits = a.point.fits; counter = a.point.counter ∙ ap (counter_at (ground_of s code)) size };
      })

  -- ---- from the point on

  module _ (at : ℕ) (point : IsAtPoint s code here at t m) where
    pub of_none : (v : Value) → IsKnown t.mem.memory.shapes (functions_of s) v → (Work : ℕ → List Instr → Type 0)
        → Does m at v Work → (few : ℕ) → ((r : ℕ) (words : List Instr) → Work r words → length words ≤ few)
        → (words : List Instr) → Makes (selecting s running.fun) to Work words → HasAt code at words → After (few + 3)
        (at + length words) v
    of_none v known Work does few short words o has =
        let e : 0 + few + 3 ≡ few + 3 = omega arith in
        subst (λ k. After k (at + length words) v) e (makes_home m 0 at refl point v known Work does few short words o
        has)

    -- the first operand
    module _ (from : ℕ) (read : IsAmong from (reads i)) where
      first : (words : List Instr) (a : ℕ) → Operand (selecting s running.fun) from 28 words a → HasAt code at words
          → Got s code here t m m (length words) (at + length words) 28 a (bits s code x here t (temp_in t from))
      first words a found has =
          let e : 0 + length words ≡ length words = omega arith in
          subst (λ k. Got s code here t m m k (at + length words) 28 a (bits s code x here t (temp_in t from))) e
          (operand_got s code x here t m m 0 at refl point from 28 a (now read) (omega arith)
          (omega arith) words found has)

      pub of_one : (v : Value) → IsKnown t.mem.memory.shapes (functions_of s) v → (Work : (r a : ℕ) → List Instr
          → Type 0)
          → ((n : Machine) (mid a : ℕ) → IsAtPoint s code here mid t n → register n a ≡ bits s code x here t
          (temp_in t from)
          → Does n mid v (λ r. Work r a))
          → (few : ℕ) → ((r a : ℕ) (words : List Instr) → Work r a words → length words ≤ few)
          → (words : List Instr) → OfOne (selecting s running.fun) to from Work words → HasAt code at words
          → After (few + 6) (at + length words) v
      of_one v known Work does few short words o has =
          let q = subst (HasAt code at) o.are has in
          let f = first o.finds o.a o.found (has_front code at o.finds o.then_on q) in
          let k = makes_home f.to (length o.finds) (at + length o.finds) f.leads f.point v known (λ r. Work r o.a)
          (does f.to (at + length o.finds) o.a f.point f.holds) few (λ r. short r o.a) o.then_on o.makes
          (has_back code at o.finds o.then_on q) in
          let fl = operand_few s running.fun from 28 o.finds o.a o.found in
          let kl = k.le in
          let size : at + length o.finds + length o.then_on ≡ at + length (o.finds ++ o.then_on) =
          omega (arith, length-append o.finds o.then_on) in
          subst (λ y. After (few + 6) (at + length y) v) (sym o.are) (record {
            count = k.count;
            to = k.to;
            ge = omega arith;
            le = omega arith;
            leads = k.leads;
            point = record { fits = k.point.fits; counter = k.point.counter ∙ ap (counter_at (ground_of s code)) size };
          })

      -- what the second words bring
      abbrev pub Brings : (Second : List Instr → ℕ → Type 0) → Cap → ℕ → Type 0
      Brings Second d most = (n : Machine) (count mid : ℕ) → Leads count m n → IsAtPoint s code here mid t n →
          (words : List Instr) (b : ℕ)
          → Second words b → HasAt code mid words
          → Got s code here t m n (count + length words) (mid + length words) 29 b d × (length words ≤ most)

      pub of_two : (v : Value) → IsKnown t.mem.memory.shapes (functions_of s) v → (Second : List Instr → ℕ → Type 0)
          (d : Cap)
          (most : ℕ) → Brings Second d most → (Work : (r a b : ℕ) → List Instr → Type 0)
          → ((n : Machine) (mid a b : ℕ) → IsAtPoint s code here mid t n → register n a ≡ bits s code x here t
          (temp_in t from)
          → register n b ≡ d → Does n mid v (λ r. Work r a b))
          → (few : ℕ) → ((r a b : ℕ) (words : List Instr) → Work r a b words → length words ≤ few)
          → (words : List Instr) → OfTwo (selecting s running.fun) to from Second Work words → HasAt code at words
          → After (most + few + 6) (at + length words) v
      of_two v known Second d most brings Work does few short words o has =
          let q = subst (HasAt code at) o.are has in
          let f = first o.finds o.a o.found (has_front code at o.finds (o.others ++ o.then_on) q) in
          let mid : ℕ = at + length o.finds in
          let r = has_back code at o.finds (o.others ++ o.then_on) q in
          let e = brings f.to (length o.finds) mid f.leads f.point o.others o.b o.second
          (has_front code mid o.others o.then_on r) in
          let late : ℕ = mid + length o.others in
          let k = makes_home e.0.to (length o.finds + length o.others) late e.0.leads e.0.point v known
          (λ y. Work y o.a o.b)
          (does e.0.to late o.a o.b e.0.point
          (e.0.others o.a (unsecond s code x running.fun from o.finds o.a o.found) ∙ f.holds) e.0.holds)
          few (λ y. short y o.a o.b) o.then_on o.makes (has_back code mid o.others o.then_on r) in
          let fl = operand_few s running.fun from 28 o.finds o.a o.found in
          let el = e.1 in
          let kl = k.le in
          let size : late + length o.then_on ≡ at + length (o.finds ++ (o.others ++ o.then_on)) =
          omega (arith, length-append o.finds (o.others ++ o.then_on), length-append o.others o.then_on) in
          subst (λ y. After (most + few + 6) (at + length y) v) (sym o.are) (record {
            count = k.count;
            to = k.to;
            ge = omega arith;
            le = omega arith;
            leads = k.leads;
            point = record { fits = k.point.fits; counter = k.point.counter ∙ ap (counter_at (ground_of s code)) size };
          })

      -- a second operand, and an amount
      pub other_comes : (temp : ℕ) → IsAmong temp (reads i) →
          Brings (Other (selecting s running.fun) temp) (bits s code x here t
          (temp_in t temp)) 3
      other_comes temp also n count mid leads here_now words b o has = (
        operand_got s code x here t m n count mid leads here_now temp 29 b (now also) (omega arith)
            (omega arith) words o has,
        operand_few s running.fun temp 29 words b o,
      )

      pub amount_comes : AreOfKinds (kinds_in s running) t.vars → (by : Amount)
          → amount_fits p sel.d (kinds_in s running) (code_in s running) by ≡ true
          → ((k : ℕ) → by ≡ amount.Temp k → IsAmong k (reads i))
          → Brings (Amounts (selecting s running.fun) by) (null_at (amount_in t by)) (amount_words by)
      amount_comes kinded by fits read_too n count mid leads here_now words b (Temps k e o) has =
          let f : has_int p sel.d (kinds_in s running) (code_in s running) k ≡ true =
          subst (λ y. amount_fits p sel.d (kinds_in s running) (code_in s running) y ≡ true) e fits in
          let parts = and_parts (is_temp p sel.d (kinds_in s running) (code_in s running) k) (is_int (kind_at
          (kinds_in s running) k)) f in
          let v_is = integer_of (kind_at (kinds_in s running) k) (temp_in t k) parts.1
          (kinded.each k (ltb-true k (length (kinds_in s running)) parts.0)) in
          let is : bits s code x here t (temp_in t k) ≡ null_at (amount_in t by) =
          ap (bits s code x here t) v_is ∙ integer_bits (addresses_of s.map) (base_in t.mem.memory.shapes) (number_of
          (temp_in t k))
          ∙ sym (ap (λ y. null_at (amount_in t y)) e) in
          let w = other_comes k (read_too k e) n count mid leads here_now words b o has in
          let wl = w.1 in (
            subst (Got s code here t m n (count + length words) (mid + length words) 29 b) is w.0,
            subst (λ y. length words ≤ amount_words y) (sym e) (omega arith),
          )
      amount_comes kinded by fits read_too n count mid leads here_now words b (Numbers k e small makes few q) has = (
        subst (λ y. Got s code here t m n (count + length words) (mid + length words) 29 y (null_at (amount_in t by)))
            (sym q)
            (subst (λ y. Got s code here t m n (count + length words) (mid + length words) 29 29 (null_at
            (amount_in t y))) (sym e)
            (number_got s code x here t m n count mid leads here_now 29 k (omega arith) (omega arith) words makes has)),
        subst (λ y. length words ≤ amount_words y) (sym e) (omega (arith, few)),
      )
