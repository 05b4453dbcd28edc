-- What is known of pairs of types.
use Rattle.std.specs.Prelude.{◌≡◌, ℕ, ◌-◌, ◌^◌, ◌<◌, Bool, false, ◌||◌, ◌==◌, List, [], ◌∷◌, ◌++◌, length, map, All}
use Rattle.std.specs.Prelude.{Some}
use Rattle.std.specs.Prelude.{is_some}
use Rattle.std.specs.Map.{lookup}
use Rattle.c_tree.specs.declared.typed.CType.{CType}
use Rattle.c_tree.specs.Types.{Ty, Void, agree}
use Rattle.c_tree.specs.Views.{type_at, types_of}
use Rattle.c_interner.specs.declared.agreement.Agreements.{Agreements}
use Rattle.c_interner.specs.declared.composites.Composites.{Composites}
use Rattle.c_type_levels.specs.Agreement.{lengths_of}
use Rattle.c_type_levels.specs.Levels.{pair_composite}
use Rattle.c_interner.specs.Levels.{rank, same_pair}

-- the type that a number names in a list
abbrev pub type_in : List CType → ℕ → Ty
type_in types k = type_at (types_of types) k

-- a pair has an answer: that of equal numbers is plain, others are kept
abbrev pub has_answer : {V : Type 0} → List ((ℕ × ℕ) × V) → ℕ × ℕ → Bool
has_answer es q = q.0 == q.1 || is_some (lookup (same_pair q) es)

-- how many more answers may be kept
abbrev pub answers_left : {V : Type 0} → List ((ℕ × ℕ) × V) → ℕ
answers_left es = 2 ^ 63 - length es

-- The last of some pairs has no answer, and nests less deep than a number says
pub record LastIsOpen {V : Type 0} (es : List ((ℕ × ℕ) × V)) (void n : ℕ) (qs : List (ℕ × ℕ)) : Type 0 where
  pub others : List (ℕ × ℕ)
  pub last : ℕ × ℕ
  pub are : qs ≡ others ++ last ∷ []
  pub unknown : has_answer es last ≡ false
  pub below : rank void last.0 < n

-- the answers that are kept are right
pub record AreRight (a : Agreements) : Type 0 where
  pub void : type_in a.types.now a.void ≡ Void
  pub known : (q : ℕ × ℕ) (r : Bool) → lookup (same_pair q) a.known.entries ≡ Some r →
      agree (lengths_of a.how) (type_in a.types.now q.0) (type_in a.types.now q.1) ≡ r

-- a number is that of the composite of two types of the list
pub record IsComposite (types : List CType) (q : ℕ × ℕ) (k : ℕ) : Type 0 where
  pub first : q.0 < length types
  pub second : q.1 < length types
  pub there : k < length types
  pub is : type_in types k ≡ pair_composite (type_in types) q

-- the composites that are kept are those of their pairs
pub record AreComposites (types : List CType) (c : Composites) : Type 0 where
  pub there : c.void < length types
  pub void : type_in types c.void ≡ Void
  pub known : (q : ℕ × ℕ) (k : ℕ) → lookup (same_pair q) c.known.entries ≡ Some k → IsComposite types q k

-- numbers of the composites of pairs, in order
pub record NamesComposites (types : List CType) (qs : List (ℕ × ℕ)) (ks : List ℕ) : Type 0 where
  pub there : All (λ k. k < length types) ks
  pub are : map (type_in types) ks ≡ map (pair_composite (type_in types)) qs
