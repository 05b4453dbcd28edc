-- The map is legal.
use Rattle.std.proofs.Common.{◌≡◌, ℕ, zero, suc, ◌+◌, ◌-◌, ◌*◌, ◌/◌, ◌%◌, ◌^◌, ◌<◌, ◌≤◌, List, [], ◌∷◌, map, length}
use Rattle.std.proofs.Common.{Option, Some, None, Bool, true, false, ◌||◌, nat_lt, refl, sym, ap, ◌∙◌, arith, subst}
use Rattle.std.proofs.Common.{inl, inr}
use Rattle.std.specs.Prelude.{slice_get, option_map, sum_by}
use Rattle.std.specs.List.{All, list_any}
use Rattle.std.proofs.lemmas.Bool.Decides.{nat_tests}
use Rattle.std.proofs.lemmas.Bool.{cases_lt}
use Rattle.std.proofs.lemmas.List.{length-map}
use Rattle.std.proofs.lemmas.List.Sums.{sum_by-cons}
use Rattle.std.proofs.lemmas.Option.{slice_get-map}
use Rattle.cap_concentrate.specs.Rounding.{Encodable, alignment, owned}
use Rattle.cap_concentrate.proofs.Owned.{owned_encodable}
use Rattle.c_tree.specs.Layout.{size_limit}
use Rattle.c_tree.specs.declared.typed.Typed.{Typed}
use Rattle.c_tree.specs.declared.typed.CType.{CType}
use Rattle.c_tree.specs.declared.typed.FunDef.{FunDef}
use Rattle.obj_mem.specs.declared.map.Map.{Map}
use Rattle.obj_mem.specs.declared.map.Frame.{Frame}
use Rattle.obj_mem.specs.Legal.{ObjectNeed, FunctionNeed, owned_of, alignment_of, room_of, AreFrames, IsEntry, IsLegal}
use Rattle.obj_mem.specs.Needs.{global_need, literal_need, function_needs, needs_of}
use Rattle.program_needs.specs.declared.needs.Need.{Need}
use Rattle.bounds_place.specs.declared.sizes.Sizes.{Sizes}
use Rattle.bounds_place.specs.Rows.{need, room, bases_from, end_from}
use Rattle.bounds_place.specs.Parts.{IsTable, AreData, HasParts}
use Rattle.bounds_place.specs.Placing.{AreOffsets, AllWithin, IsStretch, weightless, IsPlacing, locals_exceed, exceeds}
use Rattle.bounds_place.specs.Sizes.{in_range}
use Rattle.bounds_place.proofs.Ranges.{heap_ranged, stack_ranged}
use Rattle.bounds_place.proofs.Lengths.{divides_power, divides_short}
use Rattle.bounds_place.proofs.Behind.{alignment_from, row_aligned, objects_at, objects_end, objects_apart}
use Rattle.bounds_place.proofs.Behind.{objects_within, objects_most, within_more, within_most, apart_from_all}
use Rattle.bounds_place.proofs.Behind.{all_in_range}

-- ---- bounds that are exact

pub exact_at : (base k n : ℕ) → base ≡ 2 ^ k → k ≤ 40 → n ≤ 2 ^ (k + 8) → base + owned n ≤ 2 ^ 64 →
    Encodable base (base + owned n)
exact_at base k n is h most fits =
    elim (cases_lt n 4096) as (λ _. Encodable base (base + owned n)) [
      | inl small ↦ owned_encodable base n fits (divides_short base n small)
      | inr long ↦ owned_encodable base n fits
          (subst (λ b. b % alignment n ≡ 0) (sym is) (divides_power n k long most (omega arith)))
    ]

-- ---- entries

entry_at : (text : ℕ) (entries : List ℕ) → AreOffsets entries text → (f entry : ℕ) (o : Option ℕ) →
    slice_get entries f ≡ o → option_map (λ at. 1073741824 + at) o ≡ Some entry → IsEntry (1073741824, text) entry
entry_at text entries w f entry None e q = absurd cc
entry_at text entries w f entry (Some at) e q =
    let s : 1073741824 + at ≡ entry = cc in
    let a = w.multiple f at e in
    let b = w.below f at e in
    record { multiple = omega arith; from = omega arith; below = omega arith }

entries_differ : (text : ℕ) (entries : List ℕ) → AreOffsets entries text → (f g entry : ℕ) (o o' : Option ℕ) →
    slice_get entries f ≡ o → slice_get entries g ≡ o'
    → option_map (λ at. 1073741824 + at) o ≡ Some entry → option_map (λ at. 1073741824 + at) o' ≡ Some entry → f ≡ g
entries_differ text entries w f g entry None o' e e' q q' = absurd cc
entries_differ text entries w f g entry (Some at) None e e' q q' = absurd cc
entries_differ text entries w f g entry (Some at) (Some at') e e' q q' =
    let s : 1073741824 + at ≡ entry = cc in
    let s' : 1073741824 + at' ≡ entry = cc in
    let same : at' ≡ at = omega arith in
    w.distinct f g at e (subst (λ x. slice_get entries g ≡ Some x) same e')

-- ---- the map of the parts

pub whole_map : (table : ℕ) (globals literals : List ℕ) (frames : List Frame) (entries : List ℕ) (text : ℕ)
    (sizes : Sizes) → Map
whole_map table globals literals frames entries text sizes = record {
  text = (1073741824, text);
  entries = map (λ at. 1073741824 + at) entries;
  globals = globals;
  literals = literals;
  table = (4294967296, table);
  heap = (16777216, sizes.heap);
  stack = (16777216 + sizes.heap, sizes.stack);
  frames = frames;
}

is_whole : (table : ℕ) (globals literals : List ℕ) (frames : List Frame) (entries : List ℕ) (text : ℕ) (sizes : Sizes)
    (m : Map) → HasParts table globals literals frames entries text sizes m →
    m ≡ whole_map table globals literals frames entries text sizes
unfolding whole_map
is_whole table globals literals frames entries text sizes m h = λ i. record {
  text = (h.text_base i, h.text_length i);
  entries = h.entries_are i;
  globals = h.globals_are i;
  literals = h.literals_are i;
  table = (h.table_base i, h.table_length i);
  heap = (h.heap_base i, h.heap_length i);
  stack = (h.stack_base i, h.stack_length i);
  frames = h.frames_are i;
}

module _ (gs ls : List ObjectNeed) (frames : List Frame) (entries : List ℕ) (text table count : ℕ)
    (t : IsTable count table) (few : count ≤ 536870912) (within : room_of gs + room_of ls ≤ size_limit)
    (offsets : AreOffsets entries text) (own : owned text ≡ text) (most : text ≤ 2 ^ 30)
    (sizes : Sizes) (ranged : in_range sizes ≡ true) where
  pub legal : (functions : List FunctionNeed) → length entries ≡ length functions → AreFrames functions frames
      → IsLegal (record { globals = gs; literals = ls; functions = functions })
      (whole_map table (bases_from (4294967296 + table) (map need gs))
      (bases_from (end_from (4294967296 + table) (map need gs)) (map need ls)) frames entries text sizes)
  unfolding whole_map objects_at
  legal functions ne af =
      let small = t.small in
      let heap = heap_ranged sizes ranged in
      let stack = stack_ranged sizes ranged in
      let heap_low = heap.least in
      let heap_high = heap.most in
      let stack_high = stack.most in
      let fin = objects_end (4294967296 + table) gs ls in
      let w : AllWithin (4294967296 + table) fin (objects_at (4294967296 + table) gs ls) =
      objects_within (4294967296 + table) gs ls in
      let e = objects_most (4294967296 + table) gs ls in
      record {
        entries = length-map entries (λ at. 1073741824 + at) ∙ ne;
        frames = af;
        globals = row_aligned (4294967296 + table) gs;
        literals = row_aligned (end_from (4294967296 + table) (map need gs)) ls;
        in_range = (
          omega arith,
          omega arith,
          (
            omega arith,
            omega arith,
            (
              omega arith,
              omega arith,
              (omega arith, omega arith, all_in_range (4294967296 + table) fin _ (omega arith) (omega arith) w),
            ),
          ),
        );
        apart = (
          (
            inl (omega arith),
            (
              inr (omega arith),
              (inr (omega arith), apart_from_all (1073741824, text) (4294967296 + table) fin _ (omega arith) w),
            ),
          ),
          (
            (
              inr (omega arith),
              (
                inr (omega arith),
                apart_from_all (4294967296, table) (4294967296 + table) fin _ (omega arith) w,
              ),
            ),
            (
              (inl (omega arith), apart_from_all (16777216, sizes.heap) (4294967296 + table) fin _ (omega arith) w),
              (
                apart_from_all (16777216 + sizes.heap, sizes.stack) (4294967296 + table) fin _ (omega arith) w,
                objects_apart (4294967296 + table) gs ls,
              ),
            ),
          ),
        );
        text_aligned = refl;
        text_exact = subst (λ x. Encodable 1073741824 (1073741824 + x)) own
            (exact_at 1073741824 30 text refl (omega arith) (omega arith) (omega (arith, own)));
        table_aligned = refl;
        table_exact = subst (λ x. Encodable 4294967296 (4294967296 + x)) (sym t.is)
            (exact_at 4294967296 32 (16 * count) refl (omega arith) (omega arith) (omega (arith, t.is)));
        in_text = λ f entry q. entry_at text entries offsets f entry (slice_get entries f) refl
            (sym (slice_get-map (λ at. 1073741824 + at) entries f) ∙ q);
        distinct = λ f g entry q q'. entries_differ text entries offsets f g entry (slice_get entries f)
            (slice_get entries g) refl refl
            (sym (slice_get-map (λ at. 1073741824 + at) entries f) ∙ q)
            (sym (slice_get-map (λ at. 1073741824 + at) entries g) ∙ q');
        heap_length = heap.multiple;
        heap_least = heap.least;
        heap_most = heap.most;
        heap_base = refl;
        large_heap = λ h. refl;
        stack_base = let even = heap.multiple in omega arith;
        stack_length = stack.multiple;
        stack_least = stack.least;
        stack_most = stack.most;
      }

  pub stretch : (functions : List FunctionNeed)
      → (size : ℕ) × IsStretch (record { globals = gs; literals = ls; functions = functions })
      (whole_map table (bases_from (4294967296 + table) (map need gs))
      (bases_from (end_from (4294967296 + table) (map need gs)) (map need ls)) frames entries text sizes) size
  unfolding whole_map objects_at
  stretch functions =
      let small = t.small in
      let heap = heap_ranged sizes ranged in
      let stack = stack_ranged sizes ranged in
      let heap_low = heap.least in
      let heap_high = heap.most in
      let stack_high = stack.most in
      let fin = objects_end (4294967296 + table) gs ls in
      let w : AllWithin (4294967296 + table) fin (objects_at (4294967296 + table) gs ls) =
      objects_within (4294967296 + table) gs ls in
      let e = objects_most (4294967296 + table) gs ls in
      let size = (fin - 4294967296 + 15) / 16 * 16 in (
        size,
        record {
          multiple = omega arith;
          most = omega arith;
          table = omega arith;
          objects = within_more (4294967296 + table) 4294967296 _ _ (omega arith)
              (within_most (4294967296 + table) fin (4294967296 + size) _ (omega arith) w);
          off_text = inr (omega arith);
          off_heap = inr (omega arith);
          off_stack = inr (omega arith);
        },
      )

-- ---- of a program

length-functions : (types : List CType) (weight : ℕ → ℕ) (f : ℕ) (ds : List FunDef) →
    length (function_needs types weight f ds) ≡ length ds
length-functions types weight f [] = refl
length-functions types weight f (d ∷ ds) = ap suc (length-functions types weight (suc f) ds)

pub sum_room : (ns : List ObjectNeed) → sum_by room (map need ns) ≡ room_of ns
sum_room [] = refl
sum_room (n ∷ ns) = sum_by-cons room (need n) (map need ns) ∙ ap (λ v. owned_of n + alignment_of n + v) (sum_room ns)

pub placing_law : (p : Typed) (frames : List Frame) (entries : List ℕ) (text table : ℕ) (sizes : Sizes) (m : Map)
    → HasParts table (bases_from (4294967296 + table) (map need (map (global_need p.types) p.globals)))
    (bases_from (end_from (4294967296 + table) (map need (map (global_need p.types) p.globals)))
    (map need (map literal_need p.literals))) frames entries text sizes m
    → IsTable (length p.globals + length p.literals + length p.funs + 2) table →
    length p.globals + length p.literals + length p.funs + 2 ≤ 536870912
    → room_of (map (global_need p.types) p.globals) + room_of (map literal_need p.literals) ≤ size_limit
    → length entries ≡ length p.funs → AreOffsets entries text → owned text ≡ text → text ≤ 2 ^ 30 →
    in_range sizes ≡ true
    → IsPlacing p frames entries text sizes m
placing_law p frames entries text table sizes m h t few within ne offsets own most ranged =
    let gs = map (global_need p.types) p.globals in
    let ls = map literal_need p.literals in
    let count = length p.globals + length p.literals + length p.funs + 2 in
    let lg : length gs ≡ length p.globals = length-map p.globals (global_need p.types) in
    let ll : length ls ≡ length p.literals = length-map p.literals literal_need in
    let zeros : length (function_needs p.types (λ f. zero) 0 p.funs) ≡ length p.funs =
    length-functions p.types (λ f. zero) 0 p.funs in
    let same : length gs + length ls + length (function_needs p.types (λ f. zero) 0 p.funs) + 2 ≡ count = omega arith in
    let is = is_whole table (bases_from (4294967296 + table) (map need gs))
    (bases_from (end_from (4294967296 + table) (map need gs)) (map need ls)) frames entries text sizes m h in
    record {
      legal = λ weight af. subst (λ x. IsLegal (needs_of weight p) x) (sym is)
          (legal gs ls frames entries text table count t few within offsets own most sizes ranged
          (function_needs p.types weight 0 p.funs) (ne ∙ sym (length-functions p.types weight 0 p.funs)) af);
      frames_are = h.frames_are;
      text_is = h.text_length;
      entries_are = subst (λ b. m.entries ≡ map (λ at. b + at) entries) (sym h.text_base) h.entries_are;
      table_is = h.table_length ∙ t.is ∙ ap (λ c. owned (16 * c)) (sym same);
      heap_is = h.heap_length;
      stack_is = h.stack_length;
      stretch = subst (λ x. (size : ℕ) × IsStretch (weightless p) x size) (sym is)
          (stretch gs ls frames entries text table count t few within offsets own most sizes ranged
          (function_needs p.types (λ f. zero) 0 p.funs));
    }

-- ---- what objects ask for

nothing_is_less : (k : ℕ) → k < 0 → ⊥
nothing_is_less k h = omega arith

all_positive : (ns : List ObjectNeed) → All (λ n. 0 < n.align) (map need ns)
all_positive [] k d h = absurd (nothing_is_less k h)
all_positive (n ∷ ns) zero d h = omega (arith, alignment_from n)
all_positive (n ∷ ns) (suc k) d h = all_positive ns k d (omega arith)

length_most : (ns : List ObjectNeed) → length ns ≤ room_of ns
length_most [] = omega arith
length_most (n ∷ ns) = omega (arith, alignment_from n, length_most ns)

pub data_law : (gs ls : List ObjectNeed) (xs ys : List Need) → xs ≡ map need gs → ys ≡ map need ls →
    sum_by room xs + sum_by room ys ≤ size_limit → AreData xs ys
data_law gs ls xs ys e f h =
    let h' : sum_by room (map need gs) + sum_by room (map need ls) ≤ size_limit = rw (← e, ← f) h in
    let g : AreData (map need gs) (map need ls) = record {
      globals_positive = all_positive gs;
      literals_positive = all_positive ls;
      within = h';
      count = omega (
        arith,
        sum_room gs,
        sum_room ls,
        length-map gs need,
        length-map ls need,
        length_most gs,
        length_most ls,
      );
    } in
    subst (λ v. AreData v ys) (sym e) (subst (λ v. AreData (map need gs) v) (sym f) g)

pub room_law : (gs ls : List ObjectNeed) (xs ys : List Need) → xs ≡ map need gs → ys ≡ map need ls →
    sum_by room xs + sum_by room ys ≡ room_of gs + room_of ls
room_law gs ls xs ys e f = omega (arith, ap (sum_by room) e ∙ sum_room gs, ap (sum_by room) f ∙ sum_room ls)

-- the parts of the map where what the rows were made of is known
pub placed_law : (p : Typed) (frames : List Frame) (entries : List ℕ) (text table : ℕ) (sizes : Sizes) (m : Map)
    (xs ys : List Need) (bs cs : List ℕ)
    → xs ≡ map need (map (global_need p.types) p.globals) → ys ≡ map need (map literal_need p.literals)
    → bs ≡ bases_from (4294967296 + table) xs → cs ≡ bases_from (end_from (4294967296 + table) xs) ys
    → HasParts table bs cs frames entries text sizes m
    → IsTable (length xs + length ys + length p.funs + 2) table → length p.funs ≤ 268435456
    → sum_by room xs + sum_by room ys ≤ size_limit
    → length entries ≡ length p.funs → AreOffsets entries text → owned text ≡ text → text ≤ 2 ^ 30 →
    in_range sizes ≡ true
    → IsPlacing p frames entries text sizes m
placed_law p frames entries text table sizes m xs ys bs cs ex ey eb ec h t few within ne offsets own most ranged =
    let gs = map (global_need p.types) p.globals in
    let ls = map literal_need p.literals in
    let lx : length xs ≡ length p.globals =
    ap length ex ∙ length-map gs need ∙ length-map p.globals (global_need p.types) in
    let ly : length ys ≡ length p.literals = ap length ey ∙ length-map ls need ∙ length-map p.literals literal_need in
    let r = room_law gs ls xs ys ex ey in
    let kb : bs ≡ bases_from (4294967296 + table) (map need gs) = eb ∙ ap (bases_from (4294967296 + table)) ex in
    let kc : cs ≡ bases_from (end_from (4294967296 + table) (map need gs)) (map need ls) =
    ec ∙ ap (λ v. bases_from (end_from (4294967296 + table) v) ys) ex
    ∙ ap (bases_from (end_from (4294967296 + table) (map need gs))) ey in
    let h' = subst (λ v. HasParts table v (bases_from (end_from (4294967296 + table) (map need gs)) (map need ls))
    frames entries text sizes m) kb (subst (λ v. HasParts table bs v frames entries text sizes m) kc h) in
    let same : length xs + length ys + length p.funs + 2 ≡ length p.globals + length p.literals + length p.funs + 2 =
    omega arith in
    let t' = subst (λ v. IsTable v table) same t in
    let a = data_law gs ls xs ys ex ey within in
    let count = a.count in
    placing_law p frames entries text table sizes m h' t' (omega arith) (omega arith) ne offsets own most ranged

-- ---- the limit

pub exceeds_law : (p : Typed) (xs ys : List Need) → xs ≡ map need (map (global_need p.types) p.globals) →
    ys ≡ map need (map literal_need p.literals)
    → (nat_lt size_limit (sum_by room xs + sum_by room ys) || list_any (locals_exceed p.types) p.funs) ≡ exceeds p
exceeds_law p xs ys e f =
    ap (λ n. nat_lt size_limit n || list_any (locals_exceed p.types) p.funs)
    (room_law (map (global_need p.types) p.globals) (map literal_need p.literals) xs ys e f)

neither : (b c : Bool) → (b || c) ≡ false → b ≡ false
neither true c e = e
neither false c e = refl

not_over : (n : ℕ) → nat_lt size_limit n ≡ false → n ≤ size_limit
not_over n e = grind (arith, nat_tests)

pub within_law : (p : Typed) (xs ys : List Need) → xs ≡ map need (map (global_need p.types) p.globals) →
    ys ≡ map need (map literal_need p.literals) → exceeds p ≡ false → sum_by room xs + sum_by room ys ≤ size_limit
within_law p xs ys e f h = not_over _ (neither _ _ (exceeds_law p xs ys e f ∙ h))

pub exceeds_by : (p : Typed) (xs ys : List Need) (over some : Bool) →
    over ≡ nat_lt size_limit (sum_by room xs + sum_by room ys) → some ≡ list_any (locals_exceed p.types) p.funs
    → xs ≡ map need (map (global_need p.types) p.globals) → ys ≡ map need (map literal_need p.literals) →
    (over || some) ≡ exceeds p
exceeds_by p xs ys over some d l e f =
    ap (λ b. b || some) d ∙ ap (λ b. nat_lt size_limit (sum_by room xs + sum_by room ys) || b) l
    ∙ exceeds_law p xs ys e f
