-- A load of the meaning and a load of the machine.
use Rattle.std.proofs.Common.{◌≡◌, ℕ, ◌+◌, ◌*◌, ◌/◌, ◌^◌, ◌==◌, ◌&&◌, Bool, true, false, List, take, drop, refl, sym}
use Rattle.std.proofs.Common.{ap, ◌∙◌, arith, Option, Some, None, inl, inr}
use Rattle.std.specs.Prelude.{pos, Result, Ok}
use Rattle.std.proofs.lemmas.Bool.{and_right, cond-false}
use Rattle.cap_concentrate.specs.Packing.{bits_of, fields_of, flipped}
use Rattle.cap_concentrate.proofs.Packed.{bits_of_below}
use Rattle.cap_ops.specs.declared.capability.Cap.{Cap}
use Rattle.cap_ops.specs.declared.capability.TheConstants.{LOAD_CAPABILITY}
use Rattle.cap_ops.specs.Capability.{permits}
use Rattle.cap_ops.specs.declared.access.Access.TheVariants as A
use Rattle.cap_ops.specs.Access.{IsAccess}
use Rattle.rv_instr.specs.declared.ops.LoadOp.{LoadOp}
use Rattle.rv_instr.specs.declared.ops.LoadOp.TheVariants.{Lb, Lh, Lw, Ld, Lbu, Lhu, Lwu}
use Rattle.tag_mem.specs.Areas.{tag_at}
use Rattle.tag_mem.proofs.Reading.{capability_at-from_parts}
use Rattle.cap_machine.specs.declared.machine.Machine.{Machine}
use Rattle.cap_machine.specs.Integers.{loaded_bytes}
use Rattle.cap_machine.specs.State.{register}
use Rattle.cap_machine.specs.Rows as row
use Rattle.cap_machine.specs.Rows.{plus, set, set_integer, load_checked, load_row, clc_checked, cap_loaded, clc_row}
use Rattle.obj_mem.specs.declared.ending.Fault.{Fault}
use Rattle.obj_mem.specs.Values.{Value, Int, Live, Fun, Raw, Addresses, is_tagged, capability_of, memory_bits, bits}
use Rattle.obj_mem.specs.Objects.{Shape, Content, Memory, Placed, base_in, value_at, bytes_at, Cell}
use Rattle.obj_mem.specs.Access.{Spot, onward, Tagged, Plain, piece_of, number_of, loaded, load}
use Rattle.place_inject.specs.Values.{IsKnown}
use Rattle.place_inject.specs.Objects.{IsSound, Stands, ObjectsFit}
use Rattle.place_inject.specs.Steps.{is_integer, LoadAnswers, CapabilityLoadAnswers, LoadsFitWhereObjectsDo}
use Rattle.place_inject.proofs.Bits.{flipped_small, fields_back}
use Rattle.place_inject.proofs.Checked.{size_is, in_granule, perms_same}
use Rattle.place_inject.proofs.Kept.{tag_of}
use Rattle.place_inject.proofs.Known.{points, pointer_is, capability_word, capability_tag}
use Rattle.place_inject.proofs.Numbered.{Numbered, number_here, number_read, number_split, bytes_take, bytes_drop}
use Rattle.place_inject.proofs.Numbered.{value_read}
use Rattle.place_inject.proofs.Reached.{Reached, spot_of, through}

no_sixteen : (op : LoadOp) → (loaded_bytes op == 16) ≡ false
no_sixteen Lb = refl
no_sixteen Lh = refl
no_sixteen Lw = refl
no_sixteen Ld = refl
no_sixteen Lbu = refl
no_sixteen Lhu = refl
no_sixteen Lwu = refl

load_is : (op : LoadOp) → IsAccess (A.Load (loaded_bytes op))
load_is Lb = inl refl
load_is Lh = inr (inl refl)
load_is Lw = inr (inr (inl refl))
load_is Ld = inr (inr (inr refl))
load_is Lbu = inl refl
load_is Lhu = inr (inl refl)
load_is Lwu = inr (inr (inl refl))

module _ (functions : ℕ) (a : Addresses) (objects : Memory) (m : Machine)
    (f : ObjectsFit functions a objects m.mem) where
  -- ---- integers

  plain_piece : (p : Spot) (n : ℕ) (c : Content) (w : Option Value) → (n == 16) ≡ false
      → piece_of (Placed a) objects c p n w ≡ Plain (bytes_at (Placed a) objects.shapes c p.at n)
  plain_piece p n c None h = refl
  plain_piece p n c (Some v) h = cond-false _ (Tagged v) (Plain (bytes_at (Placed a) objects.shapes c p.at n))
      (and_right p.carries (n == 16) h)

  module _ (op : LoadOp) (to : ℕ) (p : Spot) (s : Shape) (c : Content)
      (r : Reached objects (loaded_bytes op) p s c) where
    cells : List Cell
    cells = bytes_at (Placed a) objects.shapes c p.at (loaded_bytes op)

    here : Numbered (Placed a) objects.shapes c p.at (loaded_bytes op)
        (bytes_at (Placed a) objects.shapes c p.at (loaded_bytes op))
    here = number_here a objects.shapes functions s c m.mem f.areas (f.sound p.object s c r.there r.has)
        (f.stands p.object s c r.there r.has r.active) (f.aligned p.object s r.there) p.at (loaded_bytes op) r.room

    as_value : loaded (loaded_bytes op) (Plain (bytes_at (Placed a) objects.shapes c p.at (loaded_bytes op))) ≡ Ok
        (Int (number_of (bytes_at (Placed a) objects.shapes c p.at (loaded_bytes op))))
    as_value = let h = here in rw (h.written, h.whole, no_sixteen op) refl

    pub integer_loaded : LoadAnswers m op to (onward
        (Ok (piece_of (Placed a) objects c p (loaded_bytes op) (value_at c (p.at / 16)))) (loaded (loaded_bytes op)))
        (load_checked m op to (Ok (s.base + p.at)))
    integer_loaded =
        let g = in_granule p.at (loaded_bytes op) (size_is (A.Load (loaded_bytes op)) (load_is op)) r.whole in
        let x : ℕ = number_of (bytes_at (Placed a) objects.shapes c p.at (loaded_bytes op)) in
        let got = number_read a objects.shapes functions s c m.mem f.areas (f.sound p.object s c r.there r.has)
        (f.stands p.object s c r.there r.has r.active) (f.aligned p.object s r.there) p.at
        (loaded_bytes op) r.room g.0 g.1 in
        let small = here.small in
        let answer : LoadAnswers m op to (Ok (Int x)) (load_checked m op to (Ok (s.base + p.at))) =
        (x, refl, small, ap (row.loaded m op to) got) in
        rw (plain_piece p (loaded_bytes op) c (value_at c (p.at / 16)) (no_sixteen op), as_value) answer

  integers : (op : LoadOp) (to from : ℕ) (p : Value) → IsKnown objects.shapes functions p
      → register m from ≡ capability_of a (base_in objects.shapes) p
      → LoadAnswers m op to (load (Placed a) objects p (loaded_bytes op)) (load_row m op to from (pos 0))
  unfolding load load_row
  integers op to from p known holds =
      let n = loaded_bytes op in
      rw (holds, no_sixteen op)
      (through functions a objects m f (λ r step. LoadAnswers m op to (onward r (loaded n)) step) (λ c. refl)
      (λ s. tt) n (A.Load n) (load_is op) refl
      (λ q c. Ok (piece_of (Placed a) objects c q n (value_at c (q.at / 16)))) (load_checked m op to)
      (λ c. refl) p known
      (λ o low high at permissions held same s c r. integer_loaded op to (spot_of o low high at permissions) s c r))

  -- ---- capabilities

  module _ (to : ℕ) (p : Spot) (s : Shape) (c : Content) (r : Reached objects 16 p s c) (authority : Cap)
      (carries : permits authority.fields.perms LOAD_CAPABILITY ≡ p.carries) where
    abbrev Answers : Result Value Fault → Type 0
    Answers x = CapabilityLoadAnswers functions a objects.shapes m to x
        (clc_checked m to authority (Ok (s.base + p.at)))

    st : Stands a objects.shapes s c m.mem
    st = f.stands p.object s c r.there r.has r.active

    sound : IsSound objects.shapes functions s c
    sound = f.sound p.object s c r.there r.has

    tag_here : tag_at m.mem (s.base + p.at) ≡ tag_of (value_at c (p.at / 16))
    tag_here = let room = r.room in st.tags p.at (omega arith)

    abbrev as_raw : ℕ → ℕ → Result Value Fault
    as_raw y z = Ok (Raw y z)

    -- bytes, without a tag
    without_tag : (tag : Bool) → tag_at m.mem (s.base + p.at) ≡ Some tag
        → (tag && permits authority.fields.perms LOAD_CAPABILITY) ≡ false
        → Answers (loaded 16 (Plain (bytes_at (Placed a) objects.shapes c p.at 16)))
    unfolding capability_of
    without_tag tag e none =
        let room = r.room in
        let low : ℕ = number_of (bytes_at (Placed a) objects.shapes c p.at 8) in
        let high : ℕ = number_of (bytes_at (Placed a) objects.shapes c (p.at + 8) 8) in
        let x : ℕ = number_of (bytes_at (Placed a) objects.shapes c p.at 16) in
        let at = number_here a objects.shapes functions s c m.mem f.areas sound st (f.aligned p.object s r.there) in
        let whole = at p.at 16 room in
        let lows = at p.at 8 (omega arith) in
        let highs = at (p.at + 8) 8 (omega arith) in
        let low_small = lows.small in
        let high_small = highs.small in
        let lower : number_of (take 8 (bytes_at (Placed a) objects.shapes c p.at 16)) ≡ low =
        ap number_of (bytes_take (Placed a) objects.shapes c 8 16 p.at (omega arith)) in
        let upper : number_of (drop 8 (bytes_at (Placed a) objects.shapes c p.at 16)) ≡ high =
        ap number_of (bytes_drop (Placed a) objects.shapes c 8 16 8 p.at refl) in
        let split = number_split 8 (bytes_at (Placed a) objects.shapes c p.at 16) in
        let sum : x ≡ high * 2 ^ 64 + low = omega arith in
        let read = number_read a objects.shapes functions s c m.mem f.areas sound st
        (f.aligned p.object s r.there) p.at 16 room (let w = r.whole in omega arith) (omega arith) in
        let found = capability_at-from_parts m.mem (s.base + p.at) x tag read e in
        let value : loaded 16 (Plain (bytes_at (Placed a) objects.shapes c p.at 16)) ≡ Ok (Raw low high) =
        rw (whole.written, whole.whole) (ap
        (λ y. as_raw y (number_of (drop 8 (bytes_at (Placed a) objects.shapes c p.at 16)))) lower
        ∙ ap (as_raw low) upper) in
        let step : clc_checked m to authority (Ok (s.base + p.at)) ≡ set m to
        (capability_of a (base_in objects.shapes) (Raw low high)) =
        ap (cap_loaded m to authority) found
        ∙ ap (λ t. set m to (record { tag = t; fields = fields_of (flipped x) })) none
        ∙ ap (λ y. set m to (record { tag = false; fields = fields_of (flipped y) })) sum in
        let answer : Answers (Ok (Raw low high)) = (refl, (low_small, high_small), step) in
        rw value answer

    -- a value with its tag
    with_tag : (v : Value) → value_at c (p.at / 16) ≡ Some v → permits authority.fields.perms LOAD_CAPABILITY ≡ true
        → Answers (Ok v)
    unfolding bits
    with_tag v e may =
        let tagged = sound.tagged (p.at / 16) v e in
        let known = sound.known (p.at / 16) v e in
        let own = capability_of a (base_in objects.shapes) v in
        let word = capability_word functions a objects m.mem f v tagged known in
        let small = flipped_small (bits_of own.fields) (bits_of_below own.fields word) in
        let read = value_read a objects.shapes functions s c m.mem f.areas sound st
        (f.aligned p.object s r.there) p.at v r.whole r.room e small in
        let found = capability_at-from_parts m.mem (s.base + p.at)
        (memory_bits a (base_in objects.shapes) v) true read (tag_here ∙ ap tag_of e) in
        let tag : true ≡ own.tag = sym (capability_tag functions a objects m.mem f v tagged) in
        let fields = fields_back own.fields word in
        let same : ◌≡◌ {A = Cap}
        (record { tag = true; fields = fields_of (flipped (flipped (bits_of own.fields))) }) own =
        λ i. record { tag = tag i; fields = fields i } in (
          not_integer v tagged,
          known,
          ap (cap_loaded m to authority) found
              ∙ ap (λ t. set m to (record { tag = t; fields = fields_of (flipped (flipped (bits_of own.fields))) })) may
              ∙ ap (set m to) same,
        ) where
          not_integer : (v : Value) → is_tagged v ≡ true → is_integer v ≡ false
          not_integer (Int n) t = absurd cc
          not_integer (Live o low high at permissions) t = refl
          not_integer (Fun g) t = refl
          not_integer (Raw y z) t = refl

    no_tag : (tag : Bool) → (tag && false) ≡ false
    no_tag true = refl
    no_tag false = refl

    by_value : (w : Option Value) → value_at c (p.at / 16) ≡ w → (b : Bool) → p.carries ≡ b
        → Answers (onward (Ok (piece_of (Placed a) objects c p 16 w)) (loaded 16))
    by_value None e b k = without_tag false (tag_here ∙ ap tag_of e) refl
    by_value (Some v) e true k =
        let may = carries ∙ k in
        rw k (with_tag v e may)
    by_value (Some v) e false k =
        let may = carries ∙ k in
        rw k (without_tag true (tag_here ∙ ap tag_of e) (ap (λ b. true && b) may))

  capabilities : (to from : ℕ) (p : Value) → IsKnown objects.shapes functions p
      → register m from ≡ capability_of a (base_in objects.shapes) p
      → CapabilityLoadAnswers functions a objects.shapes m to (load (Placed a) objects p 16) (clc_row m to from (pos 0))
  unfolding load clc_row
  capabilities to from p known holds =
      let own = capability_of a (base_in objects.shapes) p in
      rw holds
      (through functions a objects m f (λ r step. CapabilityLoadAnswers functions a objects.shapes m to
      (onward r (loaded 16)) step) (λ c. refl) (λ s. tt) 16 A.LoadCap tt refl
      (λ q c. Ok (piece_of (Placed a) objects c q 16 (value_at c (q.at / 16)))) (clc_checked m to own)
      (λ c. refl) p known
      (λ o low high at permissions held same s c r.
      let pts = points functions a objects m.mem f o low high at permissions held in
      let perms = ap (λ (d : Cap). d.fields.perms) (ap (capability_of a (base_in objects.shapes)) same
      ∙ pointer_is a objects.shapes o low high at permissions held.shape held.there)
      ∙ perms_same held.shape.base low high at permissions pts in
      by_value to (spot_of o low high at permissions) s c r own (ap (λ y. permits y LOAD_CAPABILITY) perms)
      (value_at c (at / 16)) refl (permits permissions LOAD_CAPABILITY) refl))

pub loads_fit_law : LoadsFitWhereObjectsDo
loads_fit_law functions a objects m f = record {
  integers = integers functions a objects m f;
  capabilities =
      capabilities functions a objects m f;
}
