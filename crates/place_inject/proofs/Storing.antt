-- A store of the meaning and a store of the machine.
use Rattle.std.proofs.Common.{◌≡◌, ℕ, ◌+◌, ◌*◌, ◌/◌, ◌%◌, ◌^◌, ◌<◌, ◌≤◌, Bool, true, false, cond, List, ◌++◌, length}
use Rattle.std.proofs.Common.{refl, sym, ap, ◌∙◌, subst, arith, Some, inl, inr}
use Rattle.std.specs.Prelude.{slice_get, slice_set, is_some, pos, Ok}
use Rattle.std.proofs.lemmas.Bool.{cases_eq, eq-eqb, ne_eqb}
use Rattle.cap_ops.specs.declared.capability.Cap.{Cap}
use Rattle.cap_ops.specs.declared.access.Access.TheVariants as A
use Rattle.cap_ops.specs.Access.{size, IsAccess, checked}
use Rattle.rv_instr.specs.declared.ops.StoreOp.{StoreOp}
use Rattle.rv_instr.specs.declared.ops.StoreOp.TheVariants.{Sb, Sh, Sw, Sd, Csc}
use Rattle.tag_mem.specs.Areas.{is_inside}
use Rattle.tag_mem.specs.Memory.{written}
use Rattle.tag_mem.specs.Numbers.{little_bytes}
use Rattle.tag_mem.proofs.Reading.{is_some-tag_at}
use Rattle.cap_machine.specs.declared.machine.Machine.{Machine}
use Rattle.cap_machine.specs.Integers.{stored_bytes}
use Rattle.cap_machine.specs.State.{register}
use Rattle.cap_machine.specs.Rows.{store_checked, store_row}
use Rattle.obj_mem.specs.Values.{Value, Int, Live, Fun, Raw, Addresses, is_tagged, capability_of, memory_bits}
use Rattle.obj_mem.specs.Objects.{Active, Shape, Content, Memory, Placed, base_in, with_bytes, with_value}
use Rattle.obj_mem.specs.Access.{Piece, Tagged, Plain, store_access, with_piece, put, bytes_of, store}
use Rattle.place_inject.specs.Values.{IsHeld, IsKnown}
use Rattle.place_inject.specs.Objects.{IsSound, Stands, ObjectsFit}
use Rattle.place_inject.specs.Steps.{is_integer, stores_integer, Stored, StoreAnswers, StoresFit}
use Rattle.place_inject.proofs.Wrote.{Wrote, wrote}
use Rattle.place_inject.proofs.Kept.{bytes_kept, value_kept, wrote_inside}
use Rattle.place_inject.proofs.Changed.{changed}
use Rattle.place_inject.proofs.Checked.{IsSize, size_is, in_granule}
use Rattle.place_inject.proofs.Sound.{number_sound, value_sound}
use Rattle.cap_machine.specs.Rows.{plus}
use Rattle.cap_machine.specs.State.{integer}
use Rattle.place_inject.proofs.Bits.{bytes_joined}
use Rattle.place_inject.proofs.Reached.{through}
use Rattle.place_inject.proofs.Known.{integer_address, raw_tag, sentry_tag, live_tag, raw_bits}
use Rattle.obj_mem.specs.Values.{bits}

-- what n bytes of a piece are as a number, and the tag that they have
pub data Spelled (a : Addresses) (shapes : List Shape) (functions n : ℕ) : Piece → ℕ → Bool → Type 0 where
  plain : (x : ℕ) → Spelled a shapes functions n (Plain (bytes_of n x)) x false
  value : (v : Value) → n ≡ 16 → is_tagged v ≡ true → IsKnown shapes functions v
      → Spelled a shapes functions n (Tagged v) (memory_bits a (base_in shapes) v) true

pub store_size : (n : ℕ) (u : Piece) → size (store_access n u) ≡ n
store_size n (Tagged v) = elim (cases_eq n 16) as (λ _. size (store_access n (Tagged v)) ≡ n) [
  | inl e ↦ ap (λ b. size (cond b (A.StoreCap true) (A.Store n))) (eq-eqb n 16 e) ∙ sym e
  | inr d ↦ ap (λ b. size (cond b (A.StoreCap true) (A.Store n))) (ne_eqb n 16 d)
]
store_size n (Plain cs) = elim (cases_eq n 16) as (λ _. size (store_access n (Plain cs)) ≡ n) [
  | inl e ↦ ap (λ b. size (cond b (A.StoreCap false) (A.Store n))) (eq-eqb n 16 e) ∙ sym e
  | inr d ↦ ap (λ b. size (cond b (A.StoreCap false) (A.Store n))) (ne_eqb n 16 d)
]

module _ (functions : ℕ) (a : Addresses) (objects : Memory) (m : Machine)
    (f : ObjectsFit functions a objects m.mem) where
  module _ (o at n : ℕ) (s : Shape) (c : Content) (there : slice_get objects.shapes o ≡ Some s)
      (has : slice_get objects.contents o ≡ Some c) (active : s.life ≡ Active) (whole : at % n ≡ 0) (sized : IsSize n)
      (room : at + n ≤ s.owned) where
    after : Piece → Memory
    after u = record objects { contents = slice_set objects.contents o (with_piece (Placed a) objects.shapes c at u) }

    address : ℕ
    address = s.base + at

    stands : Stands a objects.shapes s c m.mem
    stands = f.stands o s c there has active

    sound : IsSound objects.shapes functions s c
    sound = f.sound o s c there has

    pub lies : is_inside m.mem (s.base + at) ≡ true
    lies = let some = (in_granule at n sized whole).1 in sym (is_some-tag_at m.mem (s.base + at))
        ∙ ap is_some (stands.tags at (omega arith))

    writes : (x : ℕ) (tag : Bool) → Wrote m.mem (written m.mem (s.base + at) (little_bytes n x) tag)
        (s.base + at) n x tag
    writes x tag =
        let g = in_granule at n sized whole in
        let aligned = f.aligned o s there in
        wrote m.mem (s.base + at) n x tag f.areas lies (omega arith) g.1

    fits : (u : Piece) (x : ℕ) (tag : Bool) → Spelled a objects.shapes functions n u x tag
        → ObjectsFit functions a
        (record objects { contents = slice_set objects.contents o (with_piece (Placed a) objects.shapes c at u) })
        (written m.mem (s.base + at) (little_bytes n x) tag)
    fits u x tag (plain y) =
        let w = writes y false in
        let g = in_granule at n sized whole in
        changed functions a objects m.mem (written m.mem (s.base + at) (little_bytes n y) false) f o s c
        (with_bytes (Placed a) objects.shapes c at (bytes_of n y)) w.areas there has active
        (number_sound a objects.shapes functions s c at n y sound)
        (bytes_kept a objects.shapes s c at n m.mem (written m.mem (s.base + at) (little_bytes n y) false)
        (f.aligned o s there) sound.cells y g.0 room stands w)
        (wrote_inside s.base s.owned (s.base + at) n y false m.mem
        (written m.mem (s.base + at) (little_bytes n y) false) (omega arith) (omega arith) g.1 w)
    fits u x tag (value v sixteen tagged known) =
        let bits = memory_bits a (base_in objects.shapes) v in
        let new = written m.mem (s.base + at) (little_bytes n bits) true in
        let w = writes bits true in
        let whole' : at % 16 ≡ 0 = rw sixteen at whole in
        let room' : at + 16 ≤ s.owned = rw sixteen at room in
        let granules = sound.granules in
        let here : at / 16 < length c.values = omega arith in
        let w' : Wrote m.mem new (s.base + at) 16 bits true =
        subst (λ k. Wrote m.mem new (s.base + at) k bits true) sixteen w in
        changed functions a objects m.mem new f o s c (with_value c at v) w.areas there has active
        (value_sound a objects.shapes functions s c at v here tagged known sound)
        (value_kept a objects.shapes s c at 16 m.mem new
        (f.aligned o s there) sound.cells v whole' room' here stands w')
        (wrote_inside s.base s.owned (s.base + at) 16 bits true m.mem new (omega arith) (omega arith) (omega arith) w')

    pub goes_on : (u : Piece) (x : ℕ) (tag : Bool) → Spelled a objects.shapes functions n u x tag
        → Stored functions a objects
        (record objects {
          contents = slice_set objects.contents o (with_piece
              (Placed a) objects.shapes c at u);
        }) m (store_checked m n x tag (Ok (s.base + at)))
    goes_on u x tag p =
        let g = in_granule at n sized whole in
        let w = writes x tag in
        record {
          memory = written m.mem (s.base + at) (little_bytes n x) tag;
          goes = rw lies refl;
          fit = fits u x tag p;
          shapes = refl;
          inside = record {
            object = o;
            shape = s;
            there = there;
            active = active;
            same = wrote_inside s.base s.owned (s.base + at) n x tag m.mem
                (written m.mem (s.base + at) (little_bytes n x) tag) (omega arith) (omega arith) g.1 w;
          };
        }

  -- through any value
  pub stores_by : (p : Value) → IsKnown objects.shapes functions p → (n : ℕ) (u : Piece) (x : ℕ) (tag : Bool)
      → Spelled a objects.shapes functions n u x tag → IsAccess (store_access n u)
      → StoreAnswers functions a objects m (put (Placed a) objects p n u)
      (store_checked m n x tag (checked (capability_of a (base_in objects.shapes) p)
      (plus (capability_of a (base_in objects.shapes) p).fields.address (pos 0)) (store_access n u)))
  stores_by p known n u x tag spelled is =
      through functions a objects m f (StoreAnswers functions a objects m) (λ c. refl) (λ s. tt) n
      (store_access n u) is (store_size n u)
      (λ q c. Ok (record objects {
        contents = slice_set objects.contents q.object (with_piece
            (Placed a) objects.shapes c q.at u);
      })) (store_checked m n x tag) (λ c. refl) p known
      (λ o low high at permissions held same s c r.
      goes_on o at n s c r.there r.has r.active r.whole (subst IsSize (store_size n u)
      (size_is (store_access n u) is)) r.room u x tag spelled)

  -- ---- the instructions

  module _ (from to : ℕ) (p : Value) (known : IsKnown objects.shapes functions p)
      (holds : register m to ≡ capability_of a (base_in objects.shapes) p) where
    integer_is : (y : ℕ) → register m from ≡ capability_of a (base_in objects.shapes) (Int y) → integer m from ≡ y
    integer_is y e = ap (λ (c : Cap). c.fields.address) e ∙ integer_address a (base_in objects.shapes) y

    abbrev Answers : StoreOp → Value → Type 0
    Answers op v = StoreAnswers functions a objects m (store (Placed a) objects p (stored_bytes op) v)
        (store_row m op from to (pos 0))

    byte_stored : (y : ℕ) → register m from ≡ capability_of a (base_in objects.shapes) (Int y) → Answers Sb (Int y)
    unfolding store store_row
    byte_stored y e = rw (holds, integer_is y e) (stores_by p known 1 (Plain (bytes_of 1 y)) y false (plain y)
        (inl refl))

    half_stored : (y : ℕ) → register m from ≡ capability_of a (base_in objects.shapes) (Int y) → Answers Sh (Int y)
    unfolding store store_row
    half_stored y e = rw (holds, integer_is y e) (stores_by p known 2 (Plain (bytes_of 2 y)) y false (plain y)
        (inr (inl refl)))

    word_stored : (y : ℕ) → register m from ≡ capability_of a (base_in objects.shapes) (Int y) → Answers Sw (Int y)
    unfolding store store_row
    word_stored y e = rw (holds, integer_is y e) (stores_by p known 4 (Plain (bytes_of 4 y)) y false (plain y)
        (inr (inr (inl refl))))

    double_stored : (y : ℕ) → register m from ≡ capability_of a (base_in objects.shapes) (Int y) → Answers Sd (Int y)
    unfolding store store_row
    double_stored y e = rw (holds, integer_is y e) (stores_by p known 8 (Plain (bytes_of 8 y)) y false (plain y)
        (inr (inr (inr refl))))

    pointer_stored : (o low high at permissions : ℕ) → IsHeld objects.shapes o low high at permissions
        → register m from ≡ capability_of a (base_in objects.shapes) (Live o low high at permissions)
        → Answers Csc (Live o low high at permissions)
    unfolding store store_row bits
    pointer_stored o low high at permissions held e =
        let v = Live o low high at permissions in
        rw (holds, e, live_tag a (base_in objects.shapes) o low high at permissions)
        (stores_by p known 16 (Tagged v) (memory_bits a (base_in objects.shapes) v) true
        (value v refl refl held) tt)

    sentry_stored : (g : ℕ) → g < functions → register m from ≡ capability_of a (base_in objects.shapes) (Fun g)
        → Answers Csc (Fun g)
    unfolding store store_row bits
    sentry_stored g k e =
        rw (holds, e, sentry_tag a (base_in objects.shapes) g)
        (stores_by p known 16 (Tagged (Fun g)) (memory_bits a (base_in objects.shapes) (Fun g)) true
        (value (Fun g) refl refl k) tt)

    raw_put : (y z : ℕ) → (y < 2 ^ 64) × (z < 2 ^ 64) → register m from ≡ capability_of a (base_in objects.shapes)
        (Raw y z) → Answers Csc (Raw y z)
    unfolding store store_row
    raw_put y z k e =
        let x : ℕ = z * 2 ^ 64 + y in
        let bytes : bytes_of 8 y ++ bytes_of 8 z ≡ bytes_of 16 x = bytes_joined 8 8 16 y z x refl refl k.0 in
        let bits_are = raw_bits a (base_in objects.shapes) y z k in
        let c = capability_of a (base_in objects.shapes) p in
        rw (holds, e, raw_tag a (base_in objects.shapes) y z, bits_are)
        (subst (λ cs. StoreAnswers functions a objects m (put (Placed a) objects p 16 (Plain cs))
        (store_checked m 16 x false (checked c (plus c.fields.address (pos 0)) (A.StoreCap false))))
        (sym bytes) (stores_by p known 16 (Plain (bytes_of 16 x)) x false (plain x) tt))

  stores_fit : (op : StoreOp) (from to : ℕ) (p v : Value) → stores_integer op ≡ is_integer v
      → IsKnown objects.shapes functions p → IsKnown objects.shapes functions v
      → register m to ≡ capability_of a (base_in objects.shapes) p
      → register m from ≡ capability_of a (base_in objects.shapes) v
      → StoreAnswers functions a objects m (store (Placed a) objects p (stored_bytes op) v)
      (store_row m op from to (pos 0))
  stores_fit Sb from to p (Int y) k kp kv hp hv = byte_stored from to p kp hp y hv
  stores_fit Sh from to p (Int y) k kp kv hp hv = half_stored from to p kp hp y hv
  stores_fit Sw from to p (Int y) k kp kv hp hv = word_stored from to p kp hp y hv
  stores_fit Sd from to p (Int y) k kp kv hp hv = double_stored from to p kp hp y hv
  stores_fit Csc from to p (Live o low high at permissions) k kp kv hp hv =
      pointer_stored from to p kp hp o low high at permissions kv hv
  stores_fit Csc from to p (Fun g) k kp kv hp hv = sentry_stored from to p kp hp g kv hv
  stores_fit Csc from to p (Raw y z) k kp kv hp hv = raw_put from to p kp hp y z kv hv
  stores_fit Csc from to p (Int y) k kp kv hp hv = absurd (let q : false ≡ true = k in cc)
  stores_fit Sb from to p (Live o low high at permissions) k kp kv hp hv = absurd (let q : true ≡ false = k in cc)
  stores_fit Sh from to p (Live o low high at permissions) k kp kv hp hv = absurd (let q : true ≡ false = k in cc)
  stores_fit Sw from to p (Live o low high at permissions) k kp kv hp hv = absurd (let q : true ≡ false = k in cc)
  stores_fit Sd from to p (Live o low high at permissions) k kp kv hp hv = absurd (let q : true ≡ false = k in cc)
  stores_fit Sb from to p (Fun g) k kp kv hp hv = absurd (let q : true ≡ false = k in cc)
  stores_fit Sh from to p (Fun g) k kp kv hp hv = absurd (let q : true ≡ false = k in cc)
  stores_fit Sw from to p (Fun g) k kp kv hp hv = absurd (let q : true ≡ false = k in cc)
  stores_fit Sd from to p (Fun g) k kp kv hp hv = absurd (let q : true ≡ false = k in cc)
  stores_fit Sb from to p (Raw y z) k kp kv hp hv = absurd (let q : true ≡ false = k in cc)
  stores_fit Sh from to p (Raw y z) k kp kv hp hv = absurd (let q : true ≡ false = k in cc)
  stores_fit Sw from to p (Raw y z) k kp kv hp hv = absurd (let q : true ≡ false = k in cc)
  stores_fit Sd from to p (Raw y z) k kp kv hp hv = absurd (let q : true ≡ false = k in cc)

pub stores_fit_law : StoresFit
stores_fit_law functions a objects m f op from to p v k kp kv hp hv =
    stores_fit functions a objects m f op from to p v k kp kv hp hv
