-- A legal map, and for each condition of a legal map one that breaks it.
use Rattle.std.proofs.Common.{◌≡◌, ℕ, zero, suc, ◌+◌, ◌*◌, ◌/◌, ◌%◌, ◌^◌, ◌<◌, ◌≤◌, [], ◌∷◌, length, Some, None, false}
use Rattle.std.proofs.Common.{cond, subst, refl, sym, ap, ◌∙◌, arith, inl, inr}
use Rattle.std.specs.Prelude.{slice_get, ◌⊎◌, ◌==◌}
use Rattle.std.proofs.lemmas.Bool.Decides.{nat_tests}
use Rattle.std.proofs.lemmas.Nat.{pow-add, div-add-mod'}
use Rattle.cap_concentrate.specs.Rounding.{Encodable, FitsExponent, alignment, owned}
use Rattle.obj_mem.specs.declared.map.Map.{Map}
use Rattle.obj_mem.specs.declared.map.Frame.{Frame}
use Rattle.obj_mem.specs.declared.map.Slot.{Slot}
use Rattle.obj_mem.specs.Legal.{ObjectNeed, FunctionNeed, Needs, slot_of, IsSlot, HasSlot, IsFrame, IsEntry, IsLegal}

-- ---- the program: a global of 4,095 bytes, a literal of two, and two functions, the first with a local of 100 bytes

object : ℕ → ObjectNeed
object n = record { length = n; align = 1; permissions = 125 }

local_need : ObjectNeed
local_need = object 100

with_local : FunctionNeed
with_local = record { locals = local_need ∷ []; weight = 10 }

without : FunctionNeed
without = record { locals = []; weight = 10 }

asked : Needs
asked = record { globals = object 4095 ∷ []; literals = object 2 ∷ []; functions = with_local ∷ without ∷ [] }

-- ---- the map

slot : Slot
slot = record { var = 0; at = 16; length = 100 }

frame : Frame
frame = record { size = 128; align = 16; slots = slot ∷ []; saved = 16 }

bare_frame : Frame
bare_frame = record { size = 32; align = 16; slots = []; saved = 32 }

map : Map
map = record {
  text = (65536, 64);
  entries = 65536 ∷ 65564 ∷ [];
  globals = 131184 ∷ [];
  literals = 135280 ∷ [];
  table = (131072, 96);
  heap = (16777216, 16777216);
  stack = (33554432, 1048576);
  frames = frame ∷ bare_frame ∷ [];
}

is_slot : IsSlot local_need frame slot
unfolding local_need object frame slot owned alignment
is_slot = record {
  length = refl;
  aligned = refl;
  alignment = omega arith;
  past_saved = omega arith;
  within = omega arith;
}

only_slot : (var : ℕ) (s : Slot) → slot_of frame var ≡ Some s → var ≡ 0
unfolding frame slot
only_slot zero s e = refl
only_slot (suc var) s e =
    let z : (0 == suc var) ≡ false = grind (arith, nat_tests) in
    let n : slot_of frame (suc var) ≡ None = ap (λ b. cond b (Some slot) None) z in
    absurd cc

local_slot : (var : ℕ) (o : ObjectNeed) → slice_get with_local.locals var ≡ Some o → HasSlot o frame var
unfolding with_local frame slot
local_slot zero o e = let s : local_need ≡ o = cc in subst (λ v. HasSlot v frame 0) s (slot, refl, is_slot)
local_slot (suc var) o e = absurd cc

is_frame : IsFrame with_local frame
unfolding with_local frame local_need object slot owned alignment
is_frame = record {
  slots = refl;
  has_slot = local_slot;
  apart = λ var var' s s' e e' differ. absurd (differ (only_slot var s e ∙ sym (only_slot var' s' e')));
  power = (4, refl);
  align = omega arith;
  size_multiple = refl;
  saved = omega arith;
  least = omega arith;
  most = omega arith;
}

is_bare : IsFrame without bare_frame
unfolding without bare_frame
is_bare = record {
  slots = refl;
  has_slot = λ var o e. absurd cc;
  apart = λ var var' s s' e e' differ. absurd cc;
  power = (4, refl);
  align = omega arith;
  size_multiple = refl;
  saved = omega arith;
  least = omega arith;
  most = omega arith;
}

each_in_text : (f entry : ℕ) → slice_get map.entries f ≡ Some entry → IsEntry map.text entry
unfolding map
each_in_text zero entry e =
    let s : 65536 ≡ entry = cc in
    subst (IsEntry (65536, 64)) s (record { multiple = refl; from = omega arith; below = omega arith })
each_in_text (suc zero) entry e =
    let s : 65564 ≡ entry = cc in
    subst (IsEntry (65536, 64)) s (record { multiple = refl; from = omega arith; below = omega arith })
each_in_text (suc (suc f)) entry e = absurd cc

both_are : (a b entry : ℕ) → Some a ≡ Some entry → Some b ≡ Some entry → a ≡ b
both_are a b entry e h = cc

all_distinct : (f g entry : ℕ) → slice_get map.entries f ≡ Some entry → slice_get map.entries g ≡ Some entry → f ≡ g
unfolding map
all_distinct zero zero entry e h = refl
all_distinct zero (suc zero) entry e h = let s = both_are 65536 65564 entry e h in absurd (omega arith)
all_distinct zero (suc (suc g)) entry e h = absurd cc
all_distinct (suc zero) zero entry e h = let s = both_are 65564 65536 entry e h in absurd (omega arith)
all_distinct (suc zero) (suc zero) entry e h = refl
all_distinct (suc zero) (suc (suc g)) entry e h = absurd cc
all_distinct (suc (suc f)) g entry e h = absurd cc

short : (base length : ℕ) → length ≤ 4095 → base + length ≤ 2 ^ 64 → Encodable base (base + length)
short base length h t = record { ordered = omega arith; within = t; form = inl (omega arith) }

legal : IsLegal asked map
unfolding asked map object owned alignment
legal = record {
  entries = refl;
  frames = (is_frame, (is_bare, tt));
  globals = (refl, tt);
  literals = (refl, tt);
  in_range = (
    omega arith,
    omega arith,
    (
      omega arith,
      omega arith,
      (
        omega arith,
        omega arith,
        (omega arith, omega arith, (omega arith, omega arith, (omega arith, omega arith, tt))),
      ),
    ),
  );
  apart = (
    (inl (omega arith), (inl (omega arith), (inl (omega arith), (inl (omega arith), (inl (omega arith), tt))))),
    (
      (inl (omega arith), (inl (omega arith), (inl (omega arith), (inl (omega arith), tt)))),
      (
        (inl (omega arith), (inr (omega arith), (inr (omega arith), tt))),
        ((inr (omega arith), (inr (omega arith), tt)), ((inl (omega arith), tt), (tt, tt))),
      ),
    ),
  );
  text_aligned = refl;
  text_exact = short 65536 64 (omega arith) (omega arith);
  table_aligned = refl;
  table_exact = short 131072 96 (omega arith) (omega arith);
  in_text = each_in_text;
  distinct = all_distinct;
  heap_length = refl;
  heap_least = omega arith;
  heap_most = omega arith;
  heap_base = refl;
  large_heap = λ h. absurd (omega arith);
  stack_base = refl;
  stack_length = refl;
  stack_least = omega arith;
  stack_most = omega arith;
}

-- ---- maps that are not legal

-- no map with these parts is legal for the program
abbrev Breaks : Map → Type 0
Breaks m = IsLegal asked m → ⊥

-- one entry too few, one frame too few, one base too many, none
few_entries : Breaks (record map { entries = 65536 ∷ [] })
unfolding asked map
few_entries l = absurd (let e = l.entries in omega arith)

few_frames : Breaks (record map { frames = frame ∷ [] })
unfolding asked map
few_frames l = l.frames.1

many_globals : Breaks (record map { globals = 131184 ∷ 139264 ∷ [] })
unfolding asked map
many_globals l = l.globals.1

no_literal : Breaks (record map { literals = [] })
unfolding asked map
no_literal l = l.literals

-- bases off their objects' alignments
skew_global : Breaks (record map { globals = 131192 ∷ [] })
unfolding asked map object owned alignment
skew_global l = let e = l.globals.0 in absurd (omega arith)

skew_literal : Breaks (record map { literals = 135297 ∷ [] })
unfolding asked map object owned alignment
skew_literal l = let e = l.literals.0 in absurd (omega arith)

-- extents below 65,536 and past 2^40
low_text : Breaks (record map { text = (65520, 80) })
unfolding asked map
low_text l = let e = l.in_range.0 in absurd (omega arith)

high_stack : Breaks (record map { stack = (1099511562240, 1048576) })
unfolding asked map
high_stack l = let e = l.in_range.2.2.2.1 in absurd (omega arith)

-- extents with bytes in common
both_below : (a b c d : ℕ) → (a ≤ b) ⊎ (c ≤ d) → b < a → d < c → ⊥
both_below a b c d (inl h) x y = omega arith
both_below a b c d (inr h) x y = omega arith

global_over_table : Breaks (record map { globals = 131152 ∷ [] })
unfolding asked map object owned alignment
global_over_table l = both_below _ _ _ _ l.apart.1.0.1.1.0 (omega arith) (omega arith)

literal_over_global : Breaks (record map { literals = 135264 ∷ [] })
unfolding asked map object owned alignment
literal_over_global l = both_below _ _ _ _ l.apart.1.1.1.1.0.0 (omega arith) (omega arith)

heap_over_stack : Breaks (record map { heap = (16842752, 16777216) })
unfolding asked map
heap_over_stack l = both_below _ _ _ _ l.apart.1.1.0.0 (omega arith) (omega arith)

table_over_text : Breaks (record map { table = (65552, 96) })
unfolding asked map
table_over_text l = both_below _ _ _ _ l.apart.0.0 (omega arith) (omega arith)

-- text and table off 16 bytes, and without bounds of their own
skew_text : Breaks (record map { text = (65544, 64) })
unfolding asked map
skew_text l = let e = l.text_aligned in absurd (omega arith)

skew_table : Breaks (record map { table = (131080, 96) })
unfolding asked map
skew_table l = let e = l.table_aligned in absurd (omega arith)

odd_end : (base : ℕ) → base % 2 ≡ 0 → Encodable base (base + 4097) → ⊥
odd_end base h e = by_form e.form where
  by_form : (base + 4097 ≤ base + 4095) ⊎ ((x : ℕ) × FitsExponent base (base + 4097) x) → ⊥
  by_form (inl s) = absurd (omega arith)
  by_form (inr (x, f)) =
      let t = f.top_multiple in
      let p : 2 ^ (x + 3) ≡ 2 ^ x * 2 ^ 3 = pow-add 2 x 3 in
      let q = div-add-mod' (base + 4097) (2 ^ (x + 3)) in
      let u = ap (λ v. (base + 4097) / 2 ^ (x + 3) * v) p in
      let r : base + 4097 ≡ (base + 4097) / 2 ^ (x + 3) * 2 ^ x * 4 * 2 = omega arith in
      absurd (omega arith)

long_text : Breaks (record map { text = (65552, 4097) })
unfolding asked map
long_text l = odd_end 65552 refl l.text_exact

long_table : Breaks (record map { table = (131072, 4097) })
unfolding asked map
long_table l = odd_end 131072 refl l.table_exact

-- an entry off 4 bytes, one before the text, one at its end, and one twice
skew_entry : Breaks (record map { entries = 65536 ∷ 65566 ∷ [] })
unfolding asked map
skew_entry l = let e = (l.in_text 1 65566 refl).multiple in absurd (omega arith)

early_entry : Breaks (record map { entries = 65532 ∷ 65564 ∷ [] })
unfolding asked map
early_entry l = let e = (l.in_text 0 65532 refl).from in absurd (omega arith)

late_entry : Breaks (record map { entries = 65536 ∷ 65600 ∷ [] })
unfolding asked map
late_entry l = let e = (l.in_text 1 65600 refl).below in absurd (omega arith)

same_entries : Breaks (record map { entries = 65564 ∷ 65564 ∷ [] })
unfolding asked map
same_entries l = absurd (let e = l.distinct 0 1 65564 refl refl in cc)

-- the heap
odd_heap : Breaks (record map { heap = (16777216, 16777232) })
unfolding asked map
odd_heap l = let e = l.heap_length in absurd (omega arith)

small_heap : Breaks (record map { heap = (16777216, 16711680) })
unfolding asked map
small_heap l = let e = l.heap_least in absurd (omega arith)

great_heap : Breaks (record map { heap = (67108864, 67174400) })
unfolding asked map
great_heap l = let e = l.heap_most in absurd (omega arith)

skew_heap : Breaks (record map { heap = (67108880, 16777216) })
unfolding asked map
skew_heap l = let e = l.heap_base in absurd (omega arith)

skew_large_heap : Breaks (record map { heap = (67174400, 16842752) })
unfolding asked map
skew_large_heap l = let e = l.large_heap (omega arith) in absurd (omega arith)

-- the stack
skew_stack : Breaks (record map { stack = (33554448, 1048576) })
unfolding asked map
skew_stack l = let e = l.stack_base in absurd (omega arith)

odd_stack : Breaks (record map { stack = (33554432, 1048592) })
unfolding asked map
odd_stack l = let e = l.stack_length in absurd (omega arith)

no_stack : Breaks (record map { stack = (33554432, 0) })
unfolding asked map
no_stack l = let e = l.stack_least in absurd (omega arith)

great_stack : Breaks (record map { stack = (33554432, 33619968) })
unfolding asked map
great_stack l = let e = l.stack_most in absurd (omega arith)

-- ---- frames that keep no rules

-- no frame of the first function
abbrev Spoils : Frame → Type 0
Spoils f = IsFrame with_local f → ⊥

slotless : Spoils (record frame { slots = [] })
unfolding with_local frame
slotless f = absurd (let e = f.slots in omega arith)

power_below : (k : ℕ) → 24 ≡ 2 ^ k → ⊥
power_below zero e = absurd (omega arith)
power_below (suc zero) e = absurd (omega arith)
power_below (suc (suc zero)) e = absurd (omega arith)
power_below (suc (suc (suc zero))) e = absurd (omega arith)
power_below (suc (suc (suc (suc k)))) e =
    let p : 2 ^ (k + 4) ≡ 2 ^ k * 2 ^ 4 = pow-add 2 k 4 in let q : suc (suc (suc (suc k))) ≡ k + 4 = omega arith in
    let r = ap (λ v. 2 ^ v) q in absurd (omega arith)

no_power : Spoils (record frame { align = 24; size = 120 })
unfolding with_local frame
no_power f = power_below f.power.0 f.power.1

small_alignment : Spoils (record frame { align = 8 })
unfolding with_local frame
small_alignment f = let e = f.align in absurd (omega arith)

odd_size : Spoils (record frame { size = 120 })
unfolding with_local frame
odd_size f = let e = f.size_multiple in absurd (omega arith)

much_saved : Spoils (record frame { saved = 144 })
unfolding with_local frame
much_saved f = let e = f.saved in absurd (omega arith)

empty_frame : IsFrame without (record bare_frame { size = 0; saved = 0 }) → ⊥
unfolding without bare_frame
empty_frame f = let e = f.least in absurd (omega arith)

great_frame : IsFrame without (record bare_frame { size = 848 }) → ⊥
unfolding without bare_frame
great_frame f = let e = f.most in absurd (omega arith)

-- slots: short, off the alignment, among what is saved, and past the frame's end
abbrev Misplaces : Slot → Type 0
Misplaces s = IsSlot local_need frame s → ⊥

short_slot : Misplaces (record slot { length = 99 })
unfolding local_need object frame slot owned alignment
short_slot s = let e = s.length in absurd (omega arith)

skew_slot : Misplaces (record slot { at = 17 })
unfolding local_need object frame slot owned alignment
skew_slot s = let e = s.aligned in absurd (omega arith)

saved_slot : Misplaces (record slot { at = 0 })
unfolding local_need object frame slot owned alignment
saved_slot s = let e = s.past_saved in absurd (omega arith)

late_slot : Misplaces (record slot { at = 32 })
unfolding local_need object frame slot owned alignment
late_slot s = let e = s.within in absurd (omega arith)

-- a local that asks for a greater alignment than the frame's
low_frame : IsSlot (record local_need { align = 32 }) frame (record slot { at = 32 }) → ⊥
unfolding local_need object frame slot owned alignment
low_frame s = let e = s.alignment in absurd (omega arith)

-- two slots with bytes in common
slots_over : IsFrame (record with_local { locals = local_need ∷ local_need ∷ [] })
    (record frame { size = 208; slots = slot ∷ record slot { var = 1; at = 100 } ∷ [] }) → ⊥
unfolding frame slot
slots_over f = both_below _ _ _ _ (f.apart 0 1 slot (record slot { var = 1; at = 100 }) refl refl
    (λ e. absurd (omega arith))) (omega arith) (omega arith)
