-- Operations on pointers agree in both modes.
use Rattle.std.proofs.Common.{◌≡◌, ℕ, ◌^◌, ◌<◌, Bool, not, List, Result, Ok, refl, ap, arith}
use Rattle.ck_int.specs.declared.kinds.CmpOp.{CmpOp}
use Rattle.ck_int.specs.declared.kinds.CmpOp.TheVariants.{Lt, Le, Gt, Ge, Eq, Ne}
use Rattle.ck_int.specs.declared.kinds.IntKind.TheVariants as kind
use Rattle.ck_int.specs.declared.kinds.IntOp.TheVariants as op
use Rattle.ck_int.specs.Arithmetic.{binary_of}
use Rattle.obj_mem.specs.declared.ending.Fault.{Fault}
use Rattle.obj_mem.specs.Values.{Value, Int, Live, Fun, Raw, Addresses}
use Rattle.obj_mem.specs.Objects.{Shape, Placed, Strict}
use Rattle.obj_mem.specs.Pointers.{clear, mask, get_address, set_address, get_base, get_length, get_offset}
use Rattle.obj_mem.specs.Comparisons.{equal, is_true, negated, less, compare, distance, difference}
use Rattle.obj_mem.specs.Agreement.{Paired, SameShape, Answers}
use Rattle.obj_mem.specs.Standing.{IsGood, IsSpread, PointersAgree, PointersAgreeEverywhere}
use Rattle.obj_mem.proofs.Units.{onward_both}
use Rattle.obj_mem.proofs.Moves.{moves_agree_law, narrows_agree_law}
use Rattle.obj_mem.proofs.Equality.{equal_agrees_law}
use Rattle.obj_mem.proofs.Order.{less_agrees_law, distance_agrees_law}
use Rattle.obj_mem.proofs.Identity.{identical_agrees_law}

negated_same : (r q : Result Bool Fault) → Answers ◌≡◌ r q → Answers ◌≡◌ (negated r) (negated q)
negated_same r q h = onward_both ◌≡◌ ◌≡◌ r q _ _ h (λ x y e. ap not e)

module _ (s t : List Shape) (functions : ℕ) (a : Addresses) (same : Paired SameShape s t)
    (sp : IsSpread t functions a) where
  clears : (v : Value) → Answers ◌≡◌ (clear Strict s v) (clear (Placed a) t v)
  clears (Int n) = refl
  clears (Raw x u) = refl
  clears (Fun f) = tt
  clears (Live o l h at p) = tt

  masks : (v : Value) (bits : ℕ) → Answers ◌≡◌ (mask Strict s v bits) (mask (Placed a) t v bits)
  masks (Int n) bits = refl
  masks (Raw x u) bits = refl
  masks (Fun f) bits = tt
  masks (Live o l h at p) bits = refl

  addresses : (v : Value) → Answers ◌≡◌ (get_address Strict s v) (get_address (Placed a) t v)
  addresses (Int n) = refl
  addresses (Raw x u) = refl
  addresses (Fun f) = tt
  addresses (Live o l h at p) = tt

  sets : (v : Value) (to : ℕ) → Answers ◌≡◌ (set_address Strict s v to) (set_address (Placed a) t v to)
  sets (Int n) to = refl
  sets (Raw x u) to = refl
  sets (Fun f) to = tt
  sets (Live o l h at p) to = tt

  bases : (v : Value) → Answers ◌≡◌ (get_base Strict s v) (get_base (Placed a) t v)
  bases (Int n) = refl
  bases (Raw x u) = refl
  bases (Fun f) = tt
  bases (Live o l h at p) = tt

  lengths : (v : Value) → Answers ◌≡◌ (get_length Strict s v) (get_length (Placed a) t v)
  lengths (Int n) = refl
  lengths (Raw x u) = refl
  lengths (Fun f) = tt
  lengths (Live o l h at p) = refl

  offsets : (v : Value) → Answers ◌≡◌ (get_offset Strict s v) (get_offset (Placed a) t v)
  offsets (Int n) = refl
  offsets (Raw x u) = refl
  offsets (Fun f) = tt
  offsets (Live o l h at p) = refl

  equalities : (v w : Value) → IsGood s functions v → IsGood s functions w →
      Answers ◌≡◌ (equal Strict s v w) (equal (Placed a) t v w)
  equalities = equal_agrees_law s t functions a same sp

  orders : (signed : Bool) (v w : Value) → IsGood s functions v → IsGood s functions w →
      Answers ◌≡◌ (less Strict s signed v w) (less (Placed a) t signed v w)
  orders = less_agrees_law s t functions a same sp

  comparisons : (signed : Bool) (o : CmpOp) (v w : Value) → IsGood s functions v → IsGood s functions w →
      Answers ◌≡◌ (compare Strict s signed o v w) (compare (Placed a) t signed o v w)
  comparisons signed Lt v w g h = orders signed v w g h
  comparisons signed Le v w g h = negated_same _ _ (orders signed w v h g)
  comparisons signed Gt v w g h = orders signed w v h g
  comparisons signed Ge v w g h = negated_same _ _ (orders signed v w g h)
  comparisons signed Eq v w g h = equalities v w g h
  comparisons signed Ne v w g h = negated_same _ _ (equalities v w g h)

  differences : (size : ℕ) (v w : Value) → IsGood s functions v → IsGood s functions w →
      Answers ◌≡◌ (difference Strict s size v w) (difference (Placed a) t size v w)
  differences size v w g h =
      let f : ℕ → Result ℕ Fault = λ n. Ok (binary_of op.Div kind.I64 n size) in
      onward_both ◌≡◌ ◌≡◌ (distance Strict s v w) (distance (Placed a) t v w) f f
      (distance_agrees_law s t functions a same sp v w g h) (λ x y e. ap (λ n. binary_of op.Div kind.I64 n size) e)

  conditions : (v : Value) → IsGood s functions v → Answers ◌≡◌ (is_true Strict s v) (is_true (Placed a) t v)
  conditions v g = let z : 0 < 2 ^ 64 = omega arith in negated_same _ _ (equalities v (Raw 0 0) g (z, z))

  all_agree : PointersAgree s t functions a
  all_agree = record {
    moves = moves_agree_law s t functions a same sp;
    narrows = narrows_agree_law s t functions a same sp;
    clears = clears;
    masks = masks;
    addresses = addresses;
    sets = sets;
    bases = bases;
    lengths = lengths;
    offsets = offsets;
    equalities = equalities;
    conditions = conditions;
    orders = orders;
    comparisons = comparisons;
    distances = distance_agrees_law s t functions a same sp;
    differences = differences;
    identities = identical_agrees_law s t functions a same sp;
  }

pub pointers_agree_law : PointersAgreeEverywhere
pointers_agree_law s t functions a same sp = all_agree s t functions a same sp
