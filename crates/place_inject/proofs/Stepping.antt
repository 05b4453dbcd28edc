-- A pointer moves past bytes that were reached through it, and keeps its tag.
use Rattle.std.proofs.Common.{◌≡◌, ℕ, ◌+◌, ◌%◌, ◌^◌, ◌≤◌, ◌==◌, Bool, true, false, List, refl, sym, ap, ◌∙◌, arith}
use Rattle.std.proofs.Common.{subst, Option, Some, None, if◌then◌else◌}
use Rattle.std.specs.Prelude.{find, Result, Ok, Err}
use Rattle.std.proofs.lemmas.Bool.{eqb-true}
use Rattle.cap_concentrate.specs.Encoding.{with_bounds}
use Rattle.cap_ops.specs.declared.access.Access.{Access}
use Rattle.cap_ops.specs.declared.access.Access.TheVariants as A
use Rattle.cap_ops.specs.declared.access.Cause.{Cause}
use Rattle.cap_ops.specs.declared.capability.TheConstants.{UNSEALED}
use Rattle.cap_ops.specs.Access.{size, in_order}
use Rattle.cap_ops.specs.Bounded.{bounded}
use Rattle.cap_ops.specs.Capability.{added, moved}
use Rattle.cap_ops.proofs.Laws.{bounded_moved}
use Rattle.obj_mem.specs.declared.ending.Fault.{Fault}
use Rattle.obj_mem.specs.Access.{Spot, Piece, Tagged, Plain, misses, unless, reach, onward, load_access, store_access}
use Rattle.obj_mem.specs.Access.{fetch, loaded, stored_piece, load, store}
use Rattle.obj_mem.specs.Objects.{Mode, Shape, Memory, base_in}
use Rattle.obj_mem.specs.Pointers.{keeps}
use Rattle.obj_mem.specs.Standing.{IsSpread}
use Rattle.obj_mem.specs.Values.{Value, Int, Live, Fun, Raw, Addresses, capability_of}
use Rattle.place_inject.specs.Values.{IsKnown}
use Rattle.place_inject.proofs.Checked.{passed}
use Rattle.place_inject.proofs.Known.{pointer_is}
use Rattle.place_inject.proofs.Reached.{spot_of}
use Rattle.place_inject.proofs.Reaching.{kept_bounds, keeps_near}

-- ---- bytes that were reached

-- so many bytes from a pointer's address on lie in its bounds
abbrev pub Spans : Value → (n : ℕ) → Type 0
Spans (Live object low high offset permissions) n = (low ≤ offset) × (offset + n ≤ high)
Spans (Int y) n = ⊥
Spans (Fun f) n = ⊥
Spans (Raw address upper) n = ⊥

reaches : {A : Type 0} (x : Access) (p : Value) (f : Spot → Result A Fault) (y : A) → onward (reach x p) f ≡ Ok y
    → Spans p (size x)
reaches x (Int n) f y e = absurd cc
reaches x (Raw address upper) f y e = absurd cc
reaches x (Fun g) f y e = absurd cc
reaches x (Live object low high offset permissions) f y e =
    by (find (misses low high offset permissions x) in_order) refl e
  where
    by : (r : Option Cause) → find (misses low high offset permissions x) in_order ≡ r
        → onward (unless r (Ok (spot_of object low high offset permissions))) f ≡ Ok y
        → (low ≤ offset) × (offset + size x ≤ high)
    by (Some c) q h = absurd cc
    by None q h = let i = passed low high offset permissions x q in (i.from, i.to)

came : {A B : Type 0} (r : Result A Fault) (f : A → Result B Fault) (y : B) → onward r f ≡ Ok y → (u : A) × (r ≡ Ok u)
came (Ok u) f y e = (u, refl)
came (Err g) f y e = absurd cc

load_size : (n : ℕ) → size (load_access n) ≡ n
load_size n = by (n == 16) refl
  where
    by : (b : Bool) → (n == 16) ≡ b → size (if b then A.LoadCap else A.Load n) ≡ n
    by true e = sym (eqb-true n 16 e)
    by false e = refl

store_size : (n : ℕ) (u : Piece) → size (store_access n u) ≡ n
store_size n (Tagged v) = by (n == 16) refl
  where
    by : (b : Bool) → (n == 16) ≡ b → size (if b then A.StoreCap true else A.Store n) ≡ n
    by true e = sym (eqb-true n 16 e)
    by false e = refl
store_size n (Plain cs) = by (n == 16) refl
  where
    by : (b : Bool) → (n == 16) ≡ b → size (if b then A.StoreCap false else A.Store n) ≡ n
    by true e = sym (eqb-true n 16 e)
    by false e = refl

pub loads_span : (d : Mode) (m : Memory) (p : Value) (n : ℕ) (v : Value) → load d m p n ≡ Ok v → Spans p n
unfolding load
loads_span d m p n v e =
    let u = came (fetch d m p n) (loaded n) v e in
    subst (Spans p) (load_size n) (reaches (load_access n) p _ u.0 u.1)

pub stores_span : (d : Mode) (m : Memory) (p : Value) (n : ℕ) (v : Value) (after : Memory) → store d m p n v ≡ Ok after
    → Spans p n
unfolding store
stores_span d m p n v after e =
    subst (Spans p) (store_size n (stored_piece n v)) (reaches (store_access n (stored_piece n v)) p _ after e)

-- ---- the move

-- the pointer so many bytes on, where its bounds hold them
abbrev pub stepped : Value → (n : ℕ) → Value
stepped (Live object low high offset permissions) n = Live object low high (offset + n) permissions
stepped (Int y) n = Int y
stepped (Fun f) n = Fun f
stepped (Raw address upper) n = Raw address upper

bounded_step : (low high perms y z n : ℕ) → keeps low high y ≡ true → keeps low high z ≡ true → (y + n) % 2 ^ 64 ≡ z
    → added (bounded low high perms UNSEALED y) n ≡ bounded low high perms UNSEALED z
unfolding with_bounds
bounded_step low high perms y z n ky kz sum =
    let b = kept_bounds low high perms y ky in
    let c = kept_bounds low high perms z kz in
    ap (moved (bounded low high perms UNSEALED y)) sum ∙ bounded_moved low high perms y z b.0 b.1 c.0 c.1

pub steps_on : (functions : ℕ) (a : Addresses) (shapes : List Shape) → IsSpread shapes functions a → (v : Value) (n : ℕ)
    → IsKnown shapes functions v → Spans v n
    → IsKnown shapes functions (stepped v n)
    × (added (capability_of a (base_in shapes) v) n ≡ capability_of a (base_in shapes) (stepped v n))
steps_on functions a shapes spread (Live object low high offset permissions) n held spans =
    let s = held.shape in
    let placed = spread.placed object s held.there in
    let from = placed.from in
    let to = placed.to in
    let inside = held.inside in
    let ordered = held.ordered in
    let low_is = spans.0 in
    let high_is = spans.1 in
    let y : ℕ = (s.base + offset) % 2 ^ 64 in
    let z : ℕ = (s.base + (offset + n)) % 2 ^ 64 in
    let kept = keeps_near (s.base + low) (s.base + high) y z held.kept (omega arith) (omega arith) (omega arith)
    (omega arith) (omega arith) in (
      record {
        shape = s;
        there = held.there;
        ordered = held.ordered;
        inside = held.inside;
        kept = kept;
        word = omega arith;
        twelve_bits = held.twelve_bits;
        no_execute = held.no_execute;
      },
      ap (λ c. added c n) (pointer_is a shapes object low high offset permissions s held.there)
          ∙ bounded_step (s.base + low) (s.base + high) permissions y z n held.kept kept (omega arith)
          ∙ sym (pointer_is a shapes object low high (offset + n) permissions s held.there),
    )
steps_on functions a shapes spread (Int y) n known spans = absurd spans
steps_on functions a shapes spread (Fun f) n known spans = absurd spans
steps_on functions a shapes spread (Raw address upper) n known spans = absurd spans
