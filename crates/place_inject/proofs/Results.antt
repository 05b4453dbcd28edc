-- A result in the register of its temp.
use Rattle.std.proofs.Common.{◌≡◌, ◌⊎◌, ℕ, zero, suc, ◌+◌, ◌-◌, ◌*◌, ◌<◌, ◌==◌, ◌||◌, Bool, true, false, not, List, []}
use Rattle.std.proofs.Common.{◌∷◌, length, refl, sym, ap, ◌∙◌, subst, arith, Option, Some, None, inl, inr}
use Rattle.std.specs.Prelude.{slice_get, slice_set, position, nat_lt, if◌then◌else◌}
use Rattle.std.specs.Option.{option_map}
use Rattle.std.specs.List.{filter, position_or_len}
use Rattle.std.proofs.lemmas.Bool.{cond_both, eq-eqb, lt-ltb}
use Rattle.std.proofs.lemmas.Option.{same_Some, none-some}
use Rattle.cap_ops.specs.declared.capability.Cap.{Cap}
use Rattle.cap_ops.specs.Capability.{null_at}
use Rattle.cap_machine.specs.declared.machine.Machine.{Machine}
use Rattle.obj_mem.specs.Objects.{base_in}
use Rattle.obj_mem.specs.Table.{addresses_of}
use Rattle.obj_mem.specs.Values.{Value, capability_of}
use Rattle.cheri_c_sem.specs.Modes.{Store}
use Rattle.cheri_c_sem.specs.Steps.{State}
use Rattle.reg_alloc.specs.declared.places.Home.{Home}
use Rattle.reg_alloc.specs.declared.places.Home.TheVariants.{Register, Slot}
use Rattle.reg_alloc.specs.Placed.{IsKept}
use Rattle.purecap_abi.specs.Saving.{kept_registers, is_register, is_home, kept_homes, registers_at}
use Rattle.tac_ir.specs.declared.code.TacInstr.{TacInstr}
use Rattle.tac_ir.specs.Effects.{held}
use Rattle.tac_ir.specs.Meaning.{Caller}
use Rattle.placement.proofs.Shapes.{same_place}
use Rattle.place_inject.specs.Values.{IsKnown}
use Rattle.place_inject.specs.Frames.{Setting, Point, IsLive, homes_of, functions_of, stack_top, slots_from, at_home}
use Rattle.place_inject.specs.Frames.{HomesFit, from_place, behind_return, FrameFits, FramesFit}
use Rattle.place_inject.specs.Fits.{Fits, HomesAreUsable, registers_in}
use Rattle.place_inject.specs.Registers.{CallersUseOnly}
use Rattle.place_inject.specs.Homes.{CallersKeep, HomeIsFree, onward, ReadsNoMore, HasResult, ResultsFit, NumbersFit}
use Rattle.place_inject.specs.Homes.{MovesOnFit, NumbersReadBack, RegistersReadBack}
use Rattle.place_inject.proofs.FramesKept.{frames_behind}
use Rattle.place_inject.proofs.StoresKeep.{same_memory}

-- ---- a kept register that is a home is saved

module _ (test : ℕ → Bool) (r : ℕ) (passes : test r ≡ true) where
  abbrev Among : List ℕ → Type 0
  Among zs = position_or_len (λ x. x == r) zs < length zs

  first : (zs : List ℕ) → Among (r ∷ zs)
  first zs = let e : (r == r) ≡ true = eq-eqb r r refl in rw e (omega arith)

  more : (y : ℕ) (zs : List ℕ) → Among zs → Among (y ∷ zs)
  more y zs l = cond_both (not (y == r)) (1 + position_or_len (λ x. x == r) zs) 0 (λ n. n < suc (length zs))
      (λ e. omega (arith, l)) (λ e. omega arith)

  among : (xs : List ℕ) (i : ℕ) → slice_get xs i ≡ Some r → Among (filter test xs)
  among [] i e = absurd cc
  among (y ∷ ys) zero e =
      let q : y ≡ r = same_Some y r e in
      subst (λ z. Among (if test z then z ∷ filter test ys else filter test ys)) (sym q)
      (subst (λ b. Among (if b then r ∷ filter test ys else filter test ys)) (sym passes) (first (filter test ys)))
  among (y ∷ ys) (suc i) e = by (test y) (among ys i e) where
    by : (b : Bool) → Among (filter test ys) → Among (if b then y ∷ filter test ys else filter test ys)
    by true l = more y (filter test ys) l
    by false l = l

at_kept : (j : ℕ) → j < 10 → slice_get kept_registers (2 + j) ≡ Some (18 + j)
at_kept zero l = refl
at_kept (suc zero) l = refl
at_kept (suc (suc zero)) l = refl
at_kept (suc (suc (suc zero))) l = refl
at_kept (suc (suc (suc (suc zero)))) l = refl
at_kept (suc (suc (suc (suc (suc zero))))) l = refl
at_kept (suc (suc (suc (suc (suc (suc zero)))))) l = refl
at_kept (suc (suc (suc (suc (suc (suc (suc zero))))))) l = refl
at_kept (suc (suc (suc (suc (suc (suc (suc (suc zero)))))))) l = refl
at_kept (suc (suc (suc (suc (suc (suc (suc (suc (suc zero))))))))) l = refl
at_kept (suc (suc (suc (suc (suc (suc (suc (suc (suc (suc j)))))))))) l = absurd (omega arith)

kept_place : (r : ℕ) → IsKept r → (i : ℕ) × (slice_get kept_registers i ≡ Some r)
kept_place r (inl e) = (0, ap Some (sym e))
kept_place r (inr (inl e)) = (1, ap Some (sym e))
kept_place r (inr (inr l)) =
    let from = l.0 in
    let to = l.1 in
    let e : 18 + (r - 18) ≡ r = omega (arith, from) in
    (2 + (r - 18), at_kept (r - 18) (omega (arith, from, to)) ∙ ap Some e)

home_is : (homes : List Home) (t r : ℕ) → slice_get homes t ≡ Some (Register r) → is_home homes r ≡ true
home_is [] t r e = absurd (none-some (Register r) e)
home_is (h ∷ hs) zero r e =
    let q : h ≡ Register r = same_Some h (Register r) e in
    let own : is_register r h ≡ true = ap (is_register r) q ∙ eq-eqb r r refl in
    ap (λ b. b || is_home hs r) own
home_is (h ∷ hs) (suc t) r e = ap (λ b. is_register r h || b) (home_is hs t r e) ∙ or_true (is_register r h) where
  or_true : (b : Bool) → (b || true) ≡ true
  or_true true = refl
  or_true false = refl

pub saved : (homes : List Home) (t r : ℕ) → slice_get homes t ≡ Some (Register r) → IsKept r
    → position (λ x. x == r) (kept_homes homes) ≡ None → ⊥
unfolding kept_homes
saved homes t r e k none =
    let place = kept_place r k in
    let l = among (is_home homes) r (home_is homes t r e) kept_registers place.0 place.1 in
    let xs = filter (is_home homes) kept_registers in
    let at = position_or_len (λ x. x == r) xs in
    let b : nat_lt at (length xs) ≡ true = lt-ltb at (length xs) l in
    none-some at (sym none ∙ ap (λ b. if b then Some at else None) b)

-- ---- temps

pub set_same : {A : Type 0} (xs : List A) (i : ℕ) (x y : A) → slice_get xs i ≡ Some y →
    slice_get (slice_set xs i x) i ≡ Some x
set_same [] i x y e = absurd (none-some y e)
set_same (z ∷ xs) zero x y e = refl
set_same (z ∷ xs) (suc i) x y e = set_same xs i x y e

pub set_apart : {A : Type 0} (xs : List A) (i k : ℕ) (x : A) → (k ≡ i → ⊥) →
    slice_get (slice_set xs i x) k ≡ slice_get xs k
set_apart [] i k x d = refl
set_apart (z ∷ xs) zero zero x d = absurd (d refl)
set_apart (z ∷ xs) zero (suc k) x d = refl
set_apart (z ∷ xs) (suc i) zero x d = refl
set_apart (z ∷ xs) (suc i) (suc k) x d = set_apart xs i k x (λ e. d (ap suc e))

pub set_length : {A : Type 0} (xs : List A) (i : ℕ) (x : A) → length (slice_set xs i x) ≡ length xs
set_length [] i x = refl
set_length (z ∷ xs) zero x = refl
set_length (z ∷ xs) (suc i) x = ap suc (set_length xs i x)

pub there_too : {A B : Type 0} (xs : List A) (ys : List B) (i : ℕ) (x : A) → length xs ≡ length ys →
    slice_get xs i ≡ Some x
    → (y : B) × (slice_get ys i ≡ Some y)
there_too [] ys i x l e = absurd (none-some x e)
there_too (a ∷ xs) [] i x l e = absurd (omega (arith, l))
there_too (a ∷ xs) (b ∷ ys) zero x l e = (b, refl)
there_too (a ∷ xs) (b ∷ ys) (suc i) x l e = let d : length xs ≡ length ys = omega (arith, l) in there_too xs ys i x d e

-- ---- the state behind the result

module _ (s : Setting) (usable : HomesAreUsable s) (p : Point) (t : State Store) (m : Machine) (f : Fits s (Some p) t m)
    (rest : List TacInstr) (temp r : ℕ) (free : HomeIsFree s (onward p rest) temp r) (reads : ReadsNoMore s p rest temp)
    (v : Value)
    (known : IsKnown t.mem.memory.shapes (functions_of s) v) (after : Machine) (has : HasResult m after s t r v) where
  abbrev homes : List Home
  homes = homes_of s p.running.fun

  abbrev slots : ℕ
  slots = slots_from (slice_get s.map.frames p.running.fun) homes t.frame

  abbrev vars : List (Option Value)
  vars = slice_set t.vars temp (Some v)

  long : length homes ≡ length t.vars
  long = f.calls.1.one_each

  own_value : held (slice_get vars temp) ≡ v
  own_value = let o = there_too homes t.vars temp (Register r) long free.home in
      ap held (set_same t.vars temp (Some v) o.0 o.1)

  other_value : (k : ℕ) → (k ≡ temp → ⊥) → held (slice_get vars k) ≡ held (slice_get t.vars k)
  other_value k d = ap held (set_apart t.vars temp k (Some v) d)

  same_home : (k : ℕ) (h : Home) → IsLive s (onward p rest) k → (k ≡ temp → ⊥) → slice_get homes k ≡ Some h
      → at_home m.mem (registers_in after) slots h ≡ at_home m.mem (registers_in m) slots h
  same_home k (Slot j) l d e = refl
  same_home k (Register x) l d e = ap (λ c. Some c) (has.others x (usable p.running.fun k x e)
      (λ q. free.alone k l d (e ∙ ap (λ y. Some (Register y)) q)))

  kept_in : (k : ℕ) (h : Home) → IsLive s (onward p rest) k → s.numbers p.running.fun k ≡ None
      → slice_get homes k ≡ Some h → ((k ≡ temp) ⊎ (k ≡ temp → ⊥))
      → at_home m.mem (registers_in after) slots h
      ≡ Some (capability_of (addresses_of s.map) (base_in t.mem.memory.shapes) (held (slice_get vars k)))
  kept_in k h l n e (inl q) =
      let c : Value → Option Cap = λ x. Some (capability_of (addresses_of s.map) (base_in t.mem.memory.shapes) x) in
      let own : h ≡ Register r = same_Some h (Register r) (sym e ∙ ap (slice_get homes) q ∙ free.home) in
      ap (at_home m.mem (registers_in after) slots) own ∙ ap (λ x. Some x) has.result
      ∙ ap c (sym own_value ∙ ap (λ x. held (slice_get vars x)) (sym q))
  kept_in k h l n e (inr d) =
      let c : Value → Option Cap = λ x. Some (capability_of (addresses_of s.map) (base_in t.mem.memory.shapes) x) in
      same_home k h l d e ∙ f.calls.1.kept k h (reads k l d) n e ∙ ap c (sym (other_value k d))

  numbered_in : (k n : ℕ) → IsLive s (onward p rest) k → s.numbers p.running.fun k ≡ Some n
      → ((k ≡ temp) ⊎ (k ≡ temp → ⊥))
      → capability_of (addresses_of s.map) (base_in t.mem.memory.shapes) (held (slice_get vars k)) ≡ null_at n
  numbered_in k n l e (inl q) =
      absurd (none-some n (sym free.stands ∙ ap (s.numbers p.running.fun) (sym q) ∙ e))
  numbered_in k n l e (inr d) =
      ap (capability_of (addresses_of s.map) (base_in t.mem.memory.shapes)) (other_value k d)
      ∙ f.calls.1.numbered k n (reads k l d) e

  known_in : (k : ℕ) → IsLive s (onward p rest) k → ((k ≡ temp) ⊎ (k ≡ temp → ⊥))
      → IsKnown t.mem.memory.shapes (functions_of s) (held (slice_get vars k))
  known_in k l (inl q) =
      subst (IsKnown t.mem.memory.shapes (functions_of s))
      (sym own_value ∙ ap (λ x. held (slice_get vars x)) (sym q)) known
  known_in k l (inr d) =
      subst (IsKnown t.mem.memory.shapes (functions_of s)) (sym (other_value k d)) (f.calls.1.known k (reads k l d))

  homes_fit : HomesFit (functions_of s) (addresses_of s.map) t.mem.memory.shapes m.mem (registers_in after) homes
      (s.numbers p.running.fun) slots (IsLive s (onward p rest)) vars
  homes_fit = record {
    one_each = long ∙ sym (set_length t.vars temp (Some v));
    kept = λ k h l n e. kept_in k h l n e (same_place k temp);
    numbered = λ k n l e. numbered_in k n l e (same_place k temp);
    known = λ k l. known_in k l (same_place k temp);
  }

  -- registers that functions keep are as they were, but for the result's, which is saved
  alike : (x : ℕ) → IsKept x → (x ≡ r → ⊥) → registers_in after x ≡ registers_in m x
  alike x k d = ap (λ c. Some c) (has.others x (below k) d) where
    below : IsKept x → x < 28
    below (inl e) = omega (arith, e)
    below (inr (inl e)) = omega (arith, e)
    below (inr (inr l)) = let to = l.1 in omega (arith, to)

  module _ (above link : ℕ) (g : FrameFits s t.mem.memory.shapes m.mem p.running.fun t.first t.frame above link) where
    by_place : (x : ℕ) → IsKept x → (w : Option ℕ) → position (λ y. y == x) (kept_homes homes) ≡ w
        → from_place m.mem (option_map (λ j. t.frame + registers_at homes g.frame + 16 * j) w) (registers_in after x)
        ≡ from_place m.mem (option_map (λ j. t.frame + registers_at homes g.frame + 16 * j) w) (registers_in m x)
    by_place x k (Some j) e = refl
    by_place x k None e = alike x k
        (λ q. saved homes temp r free.home (subst IsKept q k)
        (subst (λ z. position (λ y. y == z) (kept_homes homes) ≡ None) q e))

    behind : (x : ℕ) → IsKept x
        → behind_return s m.mem p.running.fun t.frame (registers_in after) x
        ≡ behind_return s m.mem p.running.fun t.frame (registers_in m) x
    behind x k = rw g.is (by_place x k (position (λ y. y == x) (kept_homes homes)) refl)

  newest_behind : (cs : List Caller)
      → FramesFit s t.mem.memory.shapes m.mem (registers_in m) p.running.fun t.first t.frame cs
      → (x : ℕ) → IsKept x
      → behind_return s m.mem p.running.fun t.frame (registers_in after) x
      ≡ behind_return s m.mem p.running.fun t.frame (registers_in m) x
  newest_behind [] g = behind (stack_top s) s.stub g
  newest_behind (c ∷ cs) g = behind c.frame (s.back c.fun c.rest) g.0

  callers_use : (cs : List Caller) → CallersKeep s cs → CallersUseOnly s IsKept cs
  callers_use [] k = tt
  callers_use (c ∷ cs) k = (k.0, callers_use cs k.1)

  frames_fit : FramesFit s t.mem.memory.shapes m.mem
      (registers_in after) p.running.fun t.first t.frame p.running.callers
  frames_fit =
      frames_behind s t.mem.memory.shapes m.mem m.mem f.objects.areas f.objects.areas
      0 (λ fun first at above link g up. same_memory at g.frame.saved m.mem) IsKept (registers_in m)
      (registers_in after)
      p.running.fun t.first t.frame (omega arith) p.running.callers (newest_behind p.running.callers f.calls.2)
      (callers_use p.running.callers free.callers) f.calls.2

  not_low : (x : ℕ) → x < 5 → x ≡ r → ⊥
  not_low x l q = let from = free.usable.0 in absurd (omega (arith, l, q, from))

  fits : Fits s (Some (onward p rest)) (record t { vars = vars }) after
  fits =
      let mem = has.memory in
      record {
        registers = has.registers;
        objects = rw mem f.objects;
        globals = f.globals;
        text = rw mem f.text;
        table = rw mem f.table;
        heap = rw mem f.heap;
        stack = record {
          stack = has.others 2 (omega arith) (not_low 2 (omega arith)) ∙ f.stack.stack;
          table = has.others 3 (omega arith) (not_low 3 (omega arith)) ∙ f.stack.table;
          clear = f.stack.clear;
        };
        calls = rw mem (f.calls.0, homes_fit, frames_fit);
        places = rw mem f.places;
      }

-- ---- a temp that is a number

get_inside : {A : Type 0} (xs : List A) (i : ℕ) → i < length xs → (y : A) × (slice_get xs i ≡ Some y)
get_inside [] i l = absurd (omega (arith, l))
get_inside (x ∷ xs) zero l = (x, refl)
get_inside (x ∷ xs) (suc i) l = get_inside xs i (omega (arith, l))

module _ (s : Setting) (p : Point) (t : State Store) (m : Machine) (f : Fits s (Some p) t m) (rest : List TacInstr)
    (temp n : ℕ) (within : temp < length t.vars) (number : s.numbers p.running.fun temp ≡ Some n)
    (reads : ReadsNoMore s p rest temp) (v : Value) (known : IsKnown t.mem.memory.shapes (functions_of s) v)
    (is : capability_of (addresses_of s.map) (base_in t.mem.memory.shapes) v ≡ null_at n) where
  abbrev number_vars : List (Option Value)
  number_vars = slice_set t.vars temp (Some v)

  abbrev bits : Value → Cap
  bits = capability_of (addresses_of s.map) (base_in t.mem.memory.shapes)

  number_there : held (slice_get number_vars temp) ≡ v
  number_there = let o = get_inside t.vars temp within in ap held (set_same t.vars temp (Some v) o.0 o.1)

  beside : (k : ℕ) → (k ≡ temp → ⊥) → held (slice_get number_vars k) ≡ held (slice_get t.vars k)
  beside k d = ap held (set_apart t.vars temp k (Some v) d)

  at_it : (k : ℕ) → k ≡ temp → held (slice_get number_vars k) ≡ v
  at_it k q = ap (λ x. held (slice_get number_vars x)) q ∙ number_there

  number_kept : (k : ℕ) (h : Home) → IsLive s (onward p rest) k → s.numbers p.running.fun k ≡ None
      → slice_get (homes_of s p.running.fun) k ≡ Some h → ((k ≡ temp) ⊎ (k ≡ temp → ⊥))
      → at_home m.mem (registers_in m)
      (slots_from (slice_get s.map.frames p.running.fun) (homes_of s p.running.fun) t.frame) h
      ≡ Some (bits (held (slice_get number_vars k)))
  number_kept k h l none e (inl q) =
      absurd (none-some n (sym none ∙ ap (s.numbers p.running.fun) q ∙ number))
  number_kept k h l none e (inr d) =
      f.calls.1.kept k h (reads k l d) none e ∙ ap (λ x. Some (bits x)) (sym (beside k d))

  number_is : (k i : ℕ) → IsLive s (onward p rest) k → s.numbers p.running.fun k ≡ Some i
      → ((k ≡ temp) ⊎ (k ≡ temp → ⊥)) → bits (held (slice_get number_vars k)) ≡ null_at i
  number_is k i l e (inl q) =
      let same : n ≡ i = same_Some n i (sym number ∙ ap (s.numbers p.running.fun) (sym q) ∙ e) in
      ap bits (at_it k q) ∙ is ∙ ap null_at same
  number_is k i l e (inr d) = ap bits (beside k d) ∙ f.calls.1.numbered k i (reads k l d) e

  number_known : (k : ℕ) → IsLive s (onward p rest) k → ((k ≡ temp) ⊎ (k ≡ temp → ⊥))
      → IsKnown t.mem.memory.shapes (functions_of s) (held (slice_get number_vars k))
  number_known k l (inl q) = subst (IsKnown t.mem.memory.shapes (functions_of s)) (sym (at_it k q)) known
  number_known k l (inr d) =
      subst (IsKnown t.mem.memory.shapes (functions_of s)) (sym (beside k d)) (f.calls.1.known k (reads k l d))

  number_fits : Fits s (Some (onward p rest)) (record t { vars = number_vars }) m
  number_fits = record {
    registers = f.registers;
    objects = f.objects;
    globals = f.globals;
    text = f.text;
    table = f.table;
    heap = f.heap;
    stack = record { stack = f.stack.stack; table = f.stack.table; clear = f.stack.clear };
    calls = (
      f.calls.0,
      record {
        one_each = f.calls.1.one_each ∙ sym (set_length t.vars temp (Some v));
        kept = λ k h l none e. number_kept k h l none e (same_place k temp);
        numbered = λ k i l e. number_is k i l e (same_place k temp);
        known = λ k l. number_known k l (same_place k temp);
      },
      f.calls.2,
    );
    places = f.places;
  }

pub numbers_fit_law : NumbersFit
numbers_fit_law s p t m f rest temp n within number reads v known is =
    number_fits s p t m f rest temp n within number reads v known is

pub results_fit_law : ResultsFit
results_fit_law s usable p t m f rest temp r free reads v known after has =
    fits s usable p t m f rest temp r free reads v known after has

pub registers_read_back_law : RegistersReadBack
registers_read_back_law s p t m f temp r l n e =
    (same_Some _ _ (f.calls.1.kept temp (Register r) l n e), f.calls.1.known temp l)

pub numbers_read_back_law : NumbersReadBack
numbers_read_back_law s p t m f temp n l e = (f.calls.1.numbered temp n l e, f.calls.1.known temp l)

pub moves_on_law : MovesOnFit
moves_on_law s p t m f rest reads = record {
  registers = f.registers;
  objects = f.objects;
  globals = f.globals;
  text = f.text;
  table = f.table;
  heap = f.heap;
  stack = f.stack;
  calls = (
    f.calls.0,
    record {
      one_each = f.calls.1.one_each;
      kept = λ k h l n e. f.calls.1.kept k h (reads k l) n e;
      numbered = λ k n l e. f.calls.1.numbered k n (reads k l) e;
      known = λ k l. f.calls.1.known k (reads k l);
    },
    f.calls.2,
  );
  places = f.places;
}
