-- Types that are added without tags.
use Rattle.std.proofs.Common.{◌≡◌, ℕ, zero, suc, ◌<◌, ◌≤◌, List, [], ◌∷◌, ◌++◌, length, take, Some, refl, sym, ap}
use Rattle.std.proofs.Common.{subst, ◌∙◌, arith, inl, inr}
use Rattle.std.specs.Prelude.{◌⊎◌, slice_get, All}
use Rattle.std.proofs.lemmas.Bool.{cases_lt}
use Rattle.std.proofs.lemmas.Option.{slice_get_within, get_or_from_slice_get}
use Rattle.c_tree.specs.declared.typed.CType.{CType}
use Rattle.c_tree.specs.declared.typed.CType.TheVariants as ctypes
use Rattle.c_tree.specs.Types.{Ty, Tagged, Void}
use Rattle.c_tree.specs.Views.{type_from, type_at, types_of}
use Rattle.c_interner.specs.Numbers.{IsPlain}
use Rattle.c_interner.proofs.Growing.{length-types_of, type_at-level}
use Rattle.c_types.specs.declared.scopes.TagInfo.{TagInfo}
use Rattle.c_types.specs.Stands.{named, AreTagged}

pub there_is : {A : Type 0} (xs : List A) (k : ℕ) → k < length xs → (x : A) × (slice_get xs k ≡ Some x)
there_is [] k lt = absurd (omega arith)
there_is (a ∷ xs) zero lt = (a, refl)
there_is (a ∷ xs) (suc k) lt = there_is xs k (omega arith)

pub slice_get-front : {A : Type 0} (xs ys : List A) (k : ℕ) → k < length xs → slice_get (xs ++ ys) k ≡ slice_get xs k
slice_get-front [] ys k lt = absurd (omega arith)
slice_get-front (a ∷ xs) ys zero lt = refl
slice_get-front (a ∷ xs) ys (suc k) lt = slice_get-front xs ys k (omega arith)

plain_form : (c : CType) (go : ℕ → Ty) (n : ℕ) → IsPlain c → type_from c go ≡ Tagged n → ⊥
plain_form ctypes.Void go n h e = absurd cc
plain_form (ctypes.Int k m) go n h e = absurd cc
plain_form (ctypes.Cap s) go n h e = absurd cc
plain_form (ctypes.Pointer t) go n h e = absurd cc
plain_form (ctypes.Array t m) go n h e = absurd cc
plain_form (ctypes.Struct m ms) go n h e = h
plain_form (ctypes.Union m ms) go n h e = h
plain_form (ctypes.Function t ps) go n h e = absurd cc
plain_form (ctypes.Const t) go n h e = absurd cc
plain_form (ctypes.Incomplete m) go n h e = h

behind_plain : (cs added : List CType) (k : ℕ) (c : CType) → length cs ≤ k → slice_get (cs ++ added) k ≡ Some c →
    All IsPlain added → IsPlain c
behind_plain [] added k c le e h =
    subst IsPlain (get_or_from_slice_get added k c c e) (h k c (slice_get_within added k c e))
behind_plain (x ∷ cs) added zero c le e h = absurd (omega arith)
behind_plain (x ∷ cs) added (suc k) c le e h = behind_plain cs added k c (omega arith) e h

-- each struct or union among the types is that of a tag, as types are added that are none
pub added_tagged : (cs added : List CType) (more : List Ty) (is : List TagInfo) →
    types_of (cs ++ added) ≡ types_of cs ++ more → All IsPlain added → AreTagged (types_of cs) is →
    AreTagged (types_of cs ++ more) is
added_tagged cs added more is e p h k n f = by_place (cases_lt k (length cs))
  where
    all : List CType
    all = cs ++ added

    at : named (types_of all) k ≡ Some (Tagged n)
    at = rw e f

    by_place : (k < length cs) ⊎ (length cs ≤ k) → (i : TagInfo) × (slice_get is n ≡ Some i) × (i.of ≡ k)
    by_place (inl lt) =
        h k n (sym (slice_get-front (types_of cs) more k (omega (arith, length-types_of cs))) ∙ f)
    by_place (inr le) =
        let c = there_is all k (omega (arith, slice_get_within (types_of all) k (Tagged n) at, length-types_of all)) in
        let t : type_at (types_of all) k ≡ Tagged n = get_or_from_slice_get (types_of all) k (Tagged n) Void at in
        absurd (plain_form c.0 (type_at (types_of (take k all))) n (behind_plain cs added k c.0 le c.1 p)
        (sym (type_at-level all k c.0 c.1) ∙ t))
