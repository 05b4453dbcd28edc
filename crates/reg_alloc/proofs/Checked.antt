-- What the check tests.
use Rattle.std.proofs.Common.{ℕ, ◌≡◌, ◌<◌, ◌≤◌, ◌↔◌, ◌⊎◌, List, length, sym, inl, inr, arith}
use Rattle.std.specs.Prelude.{Bool, IsTrue}
use Rattle.std.proofs.lemmas.Option.{slice_get_within}
use Rattle.std.proofs.lemmas.Bool.{cases_lt}
use Rattle.reg_alloc.specs.declared.intervals.Interval.{Interval}
use Rattle.reg_alloc.specs.declared.places.Home.{Home}
use Rattle.reg_alloc.specs.Placed.{FitsAt, ApartAt, IsPlaced}

pub apart_back : (live : List Interval) (homes : List Home) (i j : ℕ) → ApartAt live homes i j → ApartAt live homes j i
apart_back live homes i j h v w a b m e = h w v b a (m.0, m.3, m.4, m.1, m.2) (sym e)

apart_by_order : (live : List Interval) (homes : List Home) →
    ((i j : ℕ) → j < i → i < length live → ApartAt live homes i j) → (i j : ℕ) → (i ≡ j → ⊥) → (i < j) ⊎ (j ≤ i) →
    ApartAt live homes i j
apart_by_order live homes h i j ne (inl l) v w a b =
    apart_back live homes j i (h j i l (slice_get_within live j w b)) v w a b
apart_by_order live homes h i j ne (inr l) v w a b = h i j (omega arith) (slice_get_within live i v a) v w a b

pub placed_iff : (live : List Interval) (calls : List ℕ) (homes : List Home) (r : Bool) → length homes ≡ length live →
    ((i : ℕ) → FitsAt live calls homes i) →
    (IsTrue r ↔ ((i j : ℕ) → j < i → i < length live → ApartAt live homes i j)) → IsTrue r ↔ IsPlaced live calls homes
placed_iff live calls homes r one fit apart = (
  λ t. record {
    one_each = one;
    fit = fit;
    apart = λ i j ne. apart_by_order live homes (apart.0 t) i j ne (cases_lt i j);
  },
  λ p. apart.1 (λ i j l b. p.apart i j (λ e. omega arith)),
)
