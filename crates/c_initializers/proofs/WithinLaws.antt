-- How far addresses are from the beginning of what they point to.
use mir.Syntax.{w128}
use mir.Val.{SFits, of_z, to_z}
use Rattle.std.proofs.Common.{◌≡◌, ℕ, ◌+◌, ◌*◌, ◌<◌, ◌≤◌, ◌^◌, Option, Some, None, Result, Ok, Err, sym, subst, arith}
use Rattle.std.specs.Prelude.{ℤ, pos, neg_ℤ, ◌≤ℤ◌, ◌+ℤ◌, IfOk}
use Rattle.std.proofs.lemmas.Int.{ints, to_z-of_z}
use Rattle.ck_base.specs.declared.refusal.NoMemory.{NoMemory}
use Rattle.c_elaborator.specs.declared.work.Bounds.{Bounds}
use Rattle.c_elaborator.specs.declared.work.Bounds.TheVariants.{Whole, Part}
use Rattle.c_initializers.specs.declared.starts.Known.{Known}
use Rattle.c_initializers.specs.declared.starts.Pointer.{Pointer}
use Rattle.c_initializers.specs.declared.starts.Value.{Value}
use Rattle.c_initializers.specs.declared.starts.Value.TheVariants.{Number, There, Entry}
use Rattle.c_initializers.specs.Starts.{BoundsWithin, IsWithin, AreWithin, PointsAt, Points}

pub bounds-more : (m n : ℕ) (b : Bounds) → m ≤ n → BoundsWithin m b → BoundsWithin n b
bounds-more m n Whole l h = tt
bounds-more m n (Part low length) l h = omega arith

below : (m n : ℕ) (z : ℤ) → m ≤ n → z ≤ℤ pos m → z ≤ℤ pos n
below m n z l h = omega (arith, ints)

above : (m n : ℕ) (z : ℤ) → m ≤ n → neg_ℤ (pos m) ≤ℤ z → neg_ℤ (pos n) ≤ℤ z
above m n z l h = omega (arith, ints)

pub within-more : (m n : ℕ) (v : Value) → m ≤ n → IsWithin m v → IsWithin n v
within-more m n (Number v) l h = tt
within-more m n (There p) l h = (bounds-more m n p.bounds l h.0, above m n p.offset l h.1, below m n p.offset l h.2)
within-more m n (Entry k) l h = tt

pub are-more : (m n : ℕ) (r : Option Known) → m ≤ n → AreWithin m r → AreWithin n r
are-more m n None l h = tt
are-more m n (Some k) l h = within-more m n k.value l h

pub ok-more : (m n : ℕ) (o : Result (Option Known) NoMemory) → m ≤ n → IfOk o (AreWithin m) → IfOk o (AreWithin n)
ok-more m n (Ok r) l h = are-more m n r l h
ok-more m n (Err e) l h = tt

-- a place within
at-within : (n : ℕ) (b : Bounds) (z : ℤ) (v : Value) → BoundsWithin n b → neg_ℤ (pos n) ≤ℤ z → z ≤ℤ pos n →
    PointsAt b z v → IsWithin n v
at-within n b z (Number v) i l h p = absurd p
at-within n b z (Entry k) i l h p = absurd p
at-within n b z (There q) i l h p = (
  subst (BoundsWithin n) (sym p.0) i,
  subst (λ y. neg_ℤ (pos n) ≤ℤ y) (sym p.1) l,
  subst (λ y. y ≤ℤ pos n) (sym p.1) h,
)

pub points-within : (n : ℕ) (b : Bounds) (z : ℤ) (o : Result (Option Known) NoMemory) → BoundsWithin n b →
    neg_ℤ (pos n) ≤ℤ z → z ≤ℤ pos n → IfOk o (Points b z) → IfOk o (AreWithin n)
points-within n b z (Ok None) i l h p = tt
points-within n b z (Ok (Some k)) i l h p = at-within n b z k.value i l h p
points-within n b z (Err e) i l h p = tt

-- a place that is moved
pub moved-within : (n : ℕ) (p : Pointer) (by : ℤ) (o : Result (Option Known) NoMemory) →
    neg_ℤ (pos (2 ^ 64)) ≤ℤ by → by ≤ℤ pos (2 ^ 64) → IsWithin n (There p) → IfOk o (Points p.bounds (p.offset +ℤ by)) →
    IfOk o (AreWithin (n + 2 ^ 64))
moved-within n p by o l h w i =
    let a = w.1 in
    let b = w.2 in
    let low : neg_ℤ (pos (n + 2 ^ 64)) ≤ℤ (p.offset +ℤ by) = omega (arith, ints) in
    let high : (p.offset +ℤ by) ≤ℤ pos (n + 2 ^ 64) = omega (arith, ints) in
    points-within (n + 2 ^ 64) p.bounds (p.offset +ℤ by) o (bounds-more n (n + 2 ^ 64) p.bounds (omega arith) w.0) low
    high i

-- ---- sums of offsets

pub offset-fits : (z : ℤ) → neg_ℤ (pos (2 ^ 100)) ≤ℤ z → z ≤ℤ pos (2 ^ 100) → SFits w128 z
offset-fits z l h = omega (arith, ints)

sum-fits : (y z : ℤ) → neg_ℤ (pos (2 ^ 100)) ≤ℤ y → y ≤ℤ pos (2 ^ 100) → neg_ℤ (pos (2 ^ 64)) ≤ℤ z →
    z ≤ℤ pos (2 ^ 64) → SFits w128 (y +ℤ z)
sum-fits y z l h i k = omega (arith, ints)

pub sum-low : (y z : ℤ) → neg_ℤ (pos (2 ^ 100)) ≤ℤ y → neg_ℤ (pos (2 ^ 64)) ≤ℤ z → neg_ℤ (pos (2 ^ 101)) ≤ℤ (y +ℤ z)
sum-low y z l i = omega (arith, ints)

pub sum-high : (y z : ℤ) → y ≤ℤ pos (2 ^ 100) → z ≤ℤ pos (2 ^ 64) → (y +ℤ z) ≤ℤ pos (2 ^ 101)
sum-high y z h k = omega (arith, ints)

read : (y z : ℤ) → SFits w128 y → SFits w128 z → SFits w128 (y +ℤ z) →
    to_z w128 (of_z w128 (to_z w128 (of_z w128 y) +ℤ to_z w128 (of_z w128 z))) ≡ y +ℤ z
read y z f g h = rw (to_z-of_z w128 y f, to_z-of_z w128 z g) (to_z-of_z w128 (y +ℤ z) h)

pub sum-read : (p : Pointer) (z : ℤ) → IsWithin (2 ^ 100) (There p) → neg_ℤ (pos (2 ^ 64)) ≤ℤ z → z ≤ℤ pos (2 ^ 64) →
    SFits w128 z → to_z w128 (of_z w128 (to_z w128 (of_z w128 p.offset) +ℤ to_z w128 (of_z w128 z))) ≡ p.offset +ℤ z
sum-read p z w l h f = read p.offset z (offset-fits p.offset w.1 w.2) f (sum-fits p.offset z w.1 w.2 l h)

-- ---- an expression is further than its operands by at most one move

pub up : (a node : ℕ) (r : Option Known) → a < node → AreWithin ((a + 1) * 2 ^ 64) r → AreWithin (node * 2 ^ 64) r
up a node r l h = are-more ((a + 1) * 2 ^ 64) (node * 2 ^ 64) r (omega arith) h

pub next : (node : ℕ) (r : Option Known) → AreWithin (node * 2 ^ 64) r → AreWithin ((node + 1) * 2 ^ 64) r
next node r h = are-more (node * 2 ^ 64) ((node + 1) * 2 ^ 64) r (omega arith) h

pub ok-next : (node : ℕ) (o : Result (Option Known) NoMemory) → IfOk o (AreWithin (node * 2 ^ 64)) →
    IfOk o (AreWithin ((node + 1) * 2 ^ 64))
ok-next node o h = ok-more (node * 2 ^ 64) ((node + 1) * 2 ^ 64) o (omega arith) h

pub ok-moved : (node : ℕ) (o : Result (Option Known) NoMemory) → IfOk o (AreWithin (node * 2 ^ 64 + 2 ^ 64)) →
    IfOk o (AreWithin ((node + 1) * 2 ^ 64))
ok-moved node o h = ok-more (node * 2 ^ 64 + 2 ^ 64) ((node + 1) * 2 ^ 64) o (omega arith) h

pub wide : (node : ℕ) (r : Option Known) → node < 2 ^ 32 → AreWithin (node * 2 ^ 64) r → AreWithin (2 ^ 100) r
wide node r l h = are-more (node * 2 ^ 64) (2 ^ 100) r (omega arith) h
