-- One object more.
use Rattle.std.proofs.Common.{◌≡◌, ℕ, zero, suc, ◌+◌, ◌-◌, ◌*◌, ◌/◌, ◌%◌, ◌^◌, ◌<◌, ◌≤◌, true, false, nat_lt, List, []}
use Rattle.std.proofs.Common.{◌∷◌, ◌++◌, length, refl, sym, ap, ◌∙◌, subst, arith, Option, Some, None, inl, inr}
use Rattle.std.specs.Prelude.{slice_get, slice_set, if◌then◌else◌}
use Rattle.std.proofs.lemmas.Bool.{cases_lt, cond_both, ltb-false, eq-eqb, and_from}
use Rattle.std.proofs.lemmas.Option.{slice_get_within, same_Some}
use Rattle.std.proofs.Math.Nat.{mul-mod_left, mul_assoc}
use Rattle.cap_concentrate.specs.Decoding.{base_of, top_of}
use Rattle.cap_concentrate.specs.Encoding.{encoded_internal, encoded_t, encoded_b}
use Rattle.cap_concentrate.specs.Rounding.{alignment, owned, rounded_up}
use Rattle.cap_concentrate.proofs.Encoded.{encoded_decodes}
use Rattle.cap_concentrate.proofs.Least.{rounded_up_ge}
use Rattle.cap_concentrate.proofs.Owned.{alignment_power, owned_encodable}
use Rattle.cap_ops.specs.Permissions.{data_permissions}
use Rattle.tag_mem.specs.Areas.{Area, tag_at}
use Rattle.tag_mem.proofs.Reading.{tag_at-granule}
use Rattle.obj_mem.specs.Values.{Addresses}
use Rattle.obj_mem.specs.Objects.{Life, Active, Inactive, Shape, Content, Memory, Placed, add, blank, rest}
use Rattle.obj_mem.specs.Pointers.{keeps}
use Rattle.obj_mem.specs.Heap.{allocation_alignment, allocated, refused, placed_allocate}
use Rattle.obj_mem.specs.Legal.{Apart}
use Rattle.obj_mem.specs.Standing.{IsBased}
use Rattle.obj_mem.proofs.Powers.{power_one, length_aligned}
use Rattle.placement.specs.Memories.{IsClear}
use Rattle.placement.proofs.Shapes.{swap, smaller, clear_part}
use Rattle.placement.proofs.Added.{get_front, last_is, spread_add, clear_add}
use Rattle.place_inject.specs.Values.{IsHeld}
use Rattle.place_inject.specs.Objects.{IsSound, Stands, ObjectsFit}
use Rattle.place_inject.specs.Parts.{HeapFits}
use Rattle.place_inject.specs.Growing.{HeapLies, Allocated, AllocationsFit, LocalsFitIn}
use Rattle.place_inject.proofs.Reshaped.{Same, sound_later, stands_later, blank_sound, blank_stands}

-- ---- lists with one item more

data Last {A : Type 0} (xs : List A) (x : A) (i : ℕ) (y : A) : Type 0 where
  old : slice_get xs i ≡ Some y → Last xs x i y
  new : i ≡ length xs → x ≡ y → Last xs x i y

last_of : {A : Type 0} (xs : List A) (x : A) (i : ℕ) (y : A) → slice_get (xs ++ x ∷ []) i ≡ Some y → Last xs x i y
last_of [] x zero y e = new refl (same_Some x y e)
last_of [] x (suc i) y e = absurd (let q : ◌≡◌ {A = Option _} None (Some y) = e in cc)
last_of (z ∷ xs) x zero y e = old e
last_of (z ∷ xs) x (suc i) y e = elim (last_of xs x i y e) [ old q ↦ old q | new q r ↦ new (ap suc q) r ]

length_more : {A : Type 0} (xs : List A) (x : A) → length (xs ++ x ∷ []) ≡ suc (length xs)
length_more [] x = refl
length_more (y ∷ xs) x = ap suc (length_more xs x)

pub set_last : (xs : List Shape) (x y : Shape) → slice_set (xs ++ x ∷ []) (length xs) y ≡ xs ++ y ∷ []
set_last [] x y = refl
set_last (z ∷ xs) x y = ap (λ r. z ∷ r) (set_last xs x y)

-- ---- alignments and bounds

pub power_sixteen : (k : ℕ) → 16 ≤ 2 ^ k → 2 ^ k % 16 ≡ 0
power_sixteen zero h = absurd (omega arith)
power_sixteen (suc zero) h = absurd (omega arith)
power_sixteen (suc (suc zero)) h = absurd (omega arith)
power_sixteen (suc (suc (suc zero))) h = absurd (omega arith)
power_sixteen (suc (suc (suc (suc k)))) h = omega arith

alignment_sixteen : (n : ℕ) → allocation_alignment n % 16 ≡ 0
alignment_sixteen n =
    let p = alignment_power n in
    let is = p.2 in
    elim (cases_lt (alignment n) 16) as (λ _. allocation_alignment n % 16 ≡ 0) [
      | inl small ↦ let e : allocation_alignment n ≡ 16 = omega arith in ap (λ x. x % 16) e
      | inr large ↦
          let e : allocation_alignment n ≡ 2 ^ p.0 = omega arith in
          ap (λ x. x % 16) e ∙ power_sixteen p.0 (omega arith)
    ]

pub keeps_by : (base top a : ℕ)
    → (base_of (encoded_internal base top) (encoded_t base top) (encoded_b base top) a ≡ base)
    × (top_of (encoded_internal base top) (encoded_t base top) (encoded_b base top) a ≡ top)
    → keeps base top a ≡ true
unfolding keeps
keeps_by base top a d = and_from _ _ (eq-eqb _ _ d.0) (eq-eqb _ _ d.1)

module _ (functions : ℕ) (a : Addresses) (m : Memory) (memory : List Area) (f : ObjectsFit functions a m memory) where
  same_more : (h : Shape) → Same m.shapes (m.shapes ++ h ∷ [])
  same_more h = record {
    forth = λ i g e. (
      g,
      get_front m.shapes
          (h ∷ []) i g e,
      record { base = refl; owned = refl; length = refl; stayed = λ x. x },
    );
  }

  grown : (h : Shape) → IsBased h.base h.owned h.length → h.base % 16 ≡ 0 → IsClear m.shapes h.base h.owned
      → Apart h.base h.owned a.text (a.text_end - a.text)
      → (h.life ≡ Active → Stands a (m.shapes ++ h ∷ []) h (blank (Placed a) h.owned) memory)
      → ObjectsFit functions a
      (record m { shapes = m.shapes ++ h ∷ []; contents = m.contents ++ blank (Placed a) h.owned ∷ [] }) memory
  grown h based aligned clear off stands =
      let t : List Shape = m.shapes ++ h ∷ [] in
      let b : Content = blank (Placed a) h.owned in
      let same = same_more h in
      let ones = f.one_each in
      record {
        areas = f.areas;
        spread = spread_add m.shapes functions a h f.spread based clear off;
        aligned = λ i g e. elim
            (last_of m.shapes h i g e) as (λ _. g.base % 16 ≡ 0) [
              | old q ↦ f.aligned i g q
              | new q r ↦ subst
                  (λ (z : Shape). z.base % 16 ≡ 0) r aligned
            ];
        one_each = length_more m.contents b ∙ ap suc ones ∙ sym (length_more m.shapes h);
        sound = λ i g c e x. elim (last_of m.shapes h i g e) as (λ _. IsSound t functions g c) [
          | old q ↦ elim (last_of m.contents b i c x) as (λ _. IsSound t functions g c) [
            | old y ↦ sound_later m.shapes t same functions g g c refl (f.sound i g c q y)
            | new y z ↦ absurd (let l = slice_get_within m.shapes i g q in omega arith)
          ]
          | new q r ↦ elim (last_of m.contents b i c x) as (λ _. IsSound t functions g c) [
            | old y ↦ absurd (let l = slice_get_within m.contents i c y in omega arith)
            | new y z ↦ rw (← r, ← z) (blank_sound functions a m memory f t h)
          ]
        ];
        stands = λ i g c e x l. elim (last_of m.shapes h i g e) as (λ _. Stands a t g c memory) [
          | old q ↦ elim (last_of m.contents b i c x) as (λ _. Stands a t g c memory) [
            | old y ↦ stands_later m.shapes t same functions a g c memory (f.sound i g c q y) (f.stands i g c q y l)
            | new y z ↦ absurd (let w = slice_get_within m.shapes i g q in omega arith)
          ]
          | new q r ↦ elim (last_of m.contents b i c x) as (λ _. Stands a t g c memory) [
            | old y ↦ absurd (let w = slice_get_within m.contents i c y in omega arith)
            | new y z ↦ rw (← r, ← z) (stands (ap (λ (u : Shape). u.life) r ∙ l))
          ]
        ];
      }

  -- ---- locals

  abbrev New : Life → ℕ → ℕ → Shape
  New l n base = record { length = n; owned = owned n; life = l; base = base }

  local : (n base : ℕ) → IsBased base (owned n) n → base % 16 ≡ 0 → IsClear m.shapes base (owned n)
      → Apart base (owned n) a.text (a.text_end - a.text)
      → ObjectsFit functions a (rest (add (Placed a) m n base) (length m.shapes)) memory
  local n base based aligned clear off =
      let fit = grown (New Inactive n base) based aligned clear off
      (λ e. absurd (let q : Inactive ≡ Active = e in cc)) in
      rw (last_is m.shapes (New Active n base), set_last m.shapes (New Active n base) (New Inactive n base)) fit

  -- ---- the heap

  module _ (next : ℕ) (lies : HeapLies a) (heap : HeapFits a next m.shapes memory) where
    module _ (n : ℕ) (room : rounded_up next (allocation_alignment n) + owned n ≤ a.heap_end) where
      abbrev start : ℕ
      start = rounded_up next (allocation_alignment n)

      from_next : next ≤ start
      from_next = let al : 16 ≤ allocation_alignment n = omega arith in rounded_up_ge next (allocation_alignment n)
          (omega arith)

      own_aligned : start % alignment n ≡ 0
      own_aligned = length_aligned (record { length = n; align = 1; permissions = 125 }) power_one start
          (mul-mod_left ((next + (allocation_alignment n - 1)) / allocation_alignment n) (allocation_alignment n))

      sixteen : start % 16 ≡ 0
      sixteen =
          let q : ℕ = (next + (allocation_alignment n - 1)) / allocation_alignment n in
          let k : ℕ = allocation_alignment n / 16 in
          let e : allocation_alignment n ≡ k * 16 = let z = alignment_sixteen n in omega arith in
          let s : start ≡ q * k * 16 = ap (λ x. q * x) e ∙ sym (mul_assoc q k 16) in
          ap (λ x. x % 16) s ∙ mul-mod_left (q * k) 16

      based : IsBased start (owned n) n
      based =
          let low = heap.from in
          let from = lies.from in
          let to = lies.to in
          let over = from_next in
          record { from = omega arith; to = omega arith; owned_is = refl; aligned = own_aligned }

      off : Apart start (owned n) a.text (a.text_end - a.text)
      off =
          let low = heap.from in
          let over = from_next in
          swap a.text (a.text_end - a.text) start (owned n)
          (smaller a.text (a.text_end - a.text) a.heap (a.heap_end - a.heap) start (owned n) (omega arith) (omega arith)
          (swap a.heap (a.heap_end - a.heap) a.text (a.text_end - a.text) lies.off_text))

      clear : IsClear m.shapes start (owned n)
      clear = let over = from_next in clear_part m.shapes next (a.heap_end - next) start (owned n) over
          (omega arith) heap.clear

      zero_tag : (i : ℕ) → i < owned n → tag_at memory (start + i) ≡ Some false
      zero_tag i l =
          let over = from_next in
          let own = sixteen in
          let end = lies.aligned in
          let g : ℕ = (start + i) / 16 in
          tag_at-granule memory (start + i) (16 * g) f.areas (omega arith) ∙ heap.untagged g (omega arith) (omega arith)

      pointer : IsHeld (m.shapes ++ New Active n start ∷ []) (length m.shapes) 0 (owned n) 0 data_permissions
      pointer =
          let b = based in
          let to = b.to in
          let enc = owned_encodable start n (omega arith) own_aligned in
          let d = encoded_decodes start (start + owned n) start enc (omega arith) (omega arith) (omega arith) in
          let here : start + 0 ≡ start = omega arith in
          let at : start % 2 ^ 64 ≡ start = omega arith in
          record {
            shape = New Active n start;
            there = last_is m.shapes (New Active n start);
            ordered = omega arith;
            inside = omega arith;
            kept = rw (here, at) (keeps_by start (start + owned n) start d);
            word = omega arith;
            twelve_bits = omega arith;
            no_execute = refl;
          }

      allocated_fits : Allocated functions a memory (allocated (Placed a) m n start (start + owned n))
      allocated_fits =
          let over = from_next in
          let low = heap.from in
          let h = New Active n start in
          record {
            objects = grown h based sixteen clear off
                (λ e. blank_stands functions a m memory f (m.shapes ++ h ∷ []) h memory
                (λ i l. heap.zeros (start + i) (omega arith) (omega arith)) zero_tag);
            heap = record {
              from = omega arith;
              to = room;
              zeros = λ x l u. heap.zeros x (omega arith) u;
              untagged = λ g l u. heap.untagged g (omega arith) u;
              clear = clear_add m.shapes h (start + owned n) (a.heap_end - (start + owned n))
                  (clear_part m.shapes next (a.heap_end - next) (start + owned n) (a.heap_end - (start + owned n))
                  (omega arith) (omega arith) heap.clear) (inl (omega arith));
            };
            pointer = pointer;
          }

    refused_fits : Allocated functions a memory (refused m next)
    refused_fits = record { objects = f; heap = heap; pointer = (omega arith, omega arith) }

    allocation : (n : ℕ) → Allocated functions a memory (placed_allocate a m next n)
    allocation n =
        cond_both (nat_lt (a.heap_end - a.heap) n) (refused m next)
        (if nat_lt a.heap_end (rounded_up next (allocation_alignment n) + owned n) then refused m next
        else allocated (Placed a) m n (rounded_up next (allocation_alignment n))
        (rounded_up next (allocation_alignment n) + owned n))
        (λ r. Allocated functions a memory r) (λ e. refused_fits)
        (λ e. cond_both (nat_lt a.heap_end (rounded_up next (allocation_alignment n) + owned n)) (refused m next)
        (allocated (Placed a) m n (rounded_up next (allocation_alignment n))
        (rounded_up next (allocation_alignment n) + owned n))
        (λ r. Allocated functions a memory r) (λ e. refused_fits)
        (λ g. allocated_fits n (ltb-false a.heap_end (rounded_up next (allocation_alignment n) + owned n) g)))

pub allocations_fit_law : AllocationsFit
allocations_fit_law functions a m memory next lies f heap n = allocation functions a m memory f next lies heap n

pub locals_fit_law : LocalsFitIn
locals_fit_law functions a m memory f n base based aligned clear off =
    local functions a m memory f n base based aligned clear off
