-- The objects with which a program begins.
use Rattle.std.proofs.Common.{◌≡◌, ℕ, suc, List, [], ◌∷◌, ◌++◌, length, map, refl, sym, ap, ◌∙◌, subst, arith}
use Rattle.std.proofs.Common.{append_assoc}
use Rattle.cap_concentrate.specs.Rounding.{owned}
use Rattle.obj_mem.specs.Values.{Addresses}
use Rattle.obj_mem.specs.Objects.{Active, Shape, Placed, Strict, add, blank}
use Rattle.obj_mem.specs.Agreement.{SameMemory}
use Rattle.obj_mem.proofs.Units.{memory_agrees_law}
use Rattle.cheri_c_sem.specs.Modes.{Store, Plan, with_object, operations}
use Rattle.cheri_c_sem.specs.Tree.{Global}
use Rattle.cheri_c_sem.specs.Calls.{add_globals, add_literals}
use Rattle.placement.specs.Memories.{ContentsGood}
use Rattle.placement.proofs.Stored.{blank_content, content_more}

-- objects of these lengths, the first of which has this number in a list of bases
abbrev pub object_shape : ℕ → ℕ → Shape
object_shape n base = record { length = n; owned = owned n; life = Active; base = base }

abbrev pub shapes_from : (ℕ → ℕ) → ℕ → List ℕ → List Shape
shapes_from base k [] = []
shapes_from base k (n ∷ ns) = object_shape n (base k) ∷ shapes_from base (suc k) ns

abbrev pub length_of : Global → ℕ
length_of g = g.length

-- what adding objects gives
pub record Adds (more : List Shape) (s t : Store) : Type 0 where
  pub shapes : t.memory.shapes ≡ s.memory.shapes ++ more
  pub notes : t.memory.notes ≡ s.memory.notes
  pub heap : t.heap ≡ s.heap
  pub as_many : length s.memory.contents ≡ length s.memory.shapes → length t.memory.contents ≡ length t.memory.shapes

one_longer : {A B : Type 0} (xs : List A) (ys : List B) (x : A) (y : B) → length xs ≡ length ys
    → length (xs ++ x ∷ []) ≡ length (ys ++ y ∷ [])
one_longer [] [] x y e = refl
one_longer [] (v ∷ ys) x y e = absurd (omega arith)
one_longer (u ∷ xs) [] x y e = absurd (omega arith)
one_longer (u ∷ xs) (v ∷ ys) x y e = let d : length xs ≡ length ys = omega arith in ap suc (one_longer xs ys x y d)

adds_more : (d : Plan) (n base : ℕ) (more : List Shape) (s t : Store) → Adds more (with_object d s n base) t
    → Adds (object_shape n base ∷ more) s t
adds_more d n base more s t a = record {
  shapes = a.shapes ∙ append_assoc s.memory.shapes (object_shape n base ∷ []) more;
  notes = a.notes;
  heap = a.heap;
  as_many = λ e. a.as_many
      (one_longer s.memory.contents s.memory.shapes (blank d.mode (owned n)) (object_shape n base) e);
}

adds_none : (s : Store) → Adds [] s s
adds_none s = record { shapes = sym (nothing s.memory.shapes); notes = refl; heap = refl; as_many = λ e. e }
  where
    nothing : (xs : List Shape) → xs ++ [] ≡ xs
    nothing [] = refl
    nothing (x ∷ xs) = ap (λ v. x ∷ v) (nothing xs)

module _ (d : Plan) where
  pub globals_added : (gs : List Global) (s : Store) (k : ℕ) → Adds (shapes_from d.global k (map length_of gs)) s
      (add_globals (operations d) s k gs)
  unfolding operations
  globals_added [] s k = adds_none s
  globals_added (g ∷ gs) s k =
      adds_more d g.length (d.global k) _ s _ (globals_added gs (with_object d s g.length (d.global k)) (suc k))

  pub literals_added : (ls : List (List ℕ)) (s : Store) (k : ℕ) → Adds (shapes_from d.literal k (map length ls)) s
      (add_literals (operations d) s k ls)
  unfolding operations
  literals_added [] s k = adds_none s
  literals_added (bs ∷ ls) s k = adds_more d (length bs) (d.literal k) _ s _
      (literals_added ls (with_object d s (length bs) (d.literal k)) (suc k))

-- both modes
module _ (a : Addresses) (d e : Plan) (strict : d.mode ≡ Strict) (placed : e.mode ≡ Placed a) where
  one_same : (s p : Store) (n b b' : ℕ) → SameMemory s.memory p.memory
      → SameMemory (with_object d s n b).memory (with_object e p n b').memory
  one_same s p n b b' h =
      subst (λ x. SameMemory (add x s.memory n b) (add e.mode p.memory n b')) (sym strict)
      (subst (λ x. SameMemory (add Strict s.memory n b) (add x p.memory n b')) (sym placed)
      ((memory_agrees_law a).adds s.memory p.memory h n b b'))

  pub globals_same : (gs : List Global) (s p : Store) (k : ℕ) → SameMemory s.memory p.memory
      → SameMemory (add_globals (operations d) s k gs).memory (add_globals (operations e) p k gs).memory
  unfolding operations
  globals_same [] s p k h = h
  globals_same (g ∷ gs) s p k h = globals_same gs (with_object d s g.length (d.global k))
      (with_object e p g.length (e.global k)) (suc k) (one_same s p g.length (d.global k) (e.global k) h)

  pub literals_same : (ls : List (List ℕ)) (s p : Store) (k : ℕ) → SameMemory s.memory p.memory
      → SameMemory (add_literals (operations d) s k ls).memory (add_literals (operations e) p k ls).memory
  unfolding operations
  literals_same [] s p k h = h
  literals_same (bs ∷ ls) s p k h = literals_same ls (with_object d s (length bs) (d.literal k))
      (with_object e p (length bs) (e.literal k)) (suc k) (one_same s p (length bs) (d.literal k) (e.literal k) h)

-- nothing is written so far
module _ (shapes : List Shape) (functions : ℕ) (d : Plan) (strict : d.mode ≡ Strict) where
  one_blank : (s : Store) (n b : ℕ) → ContentsGood shapes functions s.memory.contents
      → ContentsGood shapes functions (with_object d s n b).memory.contents
  one_blank s n b g = subst (λ x. ContentsGood shapes functions (s.memory.contents ++ blank x (owned n) ∷ []))
      (sym strict) (content_more shapes functions s.memory.contents (blank Strict (owned n)) g
      (blank_content shapes functions (owned n)))

  pub globals_blank : (gs : List Global) (s : Store) (k : ℕ) → ContentsGood shapes functions s.memory.contents
      → ContentsGood shapes functions (add_globals (operations d) s k gs).memory.contents
  unfolding operations
  globals_blank [] s k g = g
  globals_blank (x ∷ gs) s k g = globals_blank gs (with_object d s x.length (d.global k)) (suc k)
      (one_blank s x.length (d.global k) g)

  pub literals_blank : (ls : List (List ℕ)) (s : Store) (k : ℕ) → ContentsGood shapes functions s.memory.contents
      → ContentsGood shapes functions (add_literals (operations d) s k ls).memory.contents
  unfolding operations
  literals_blank [] s k g = g
  literals_blank (bs ∷ ls) s k g = literals_blank ls (with_object d s (length bs) (d.literal k)) (suc k)
      (one_blank s (length bs) (d.literal k) g)
