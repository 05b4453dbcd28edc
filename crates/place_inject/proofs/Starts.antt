-- The first state fits the machine as it was loaded.
use Rattle.std.proofs.Common.{◌≡◌, ℕ, zero, suc, ◌+◌, List, [], ◌∷◌, ◌++◌, length, map, Some, None, refl, sym, ap, ◌∙◌}
use Rattle.std.proofs.Common.{subst, arith}
use Rattle.std.specs.Prelude.{slice_get, slice_index_or}
use Rattle.obj_mem.specs.Objects.{Shape}
use Rattle.obj_mem.specs.Legal.{ObjectNeed, owned_of, AreApart, IsApartFrom, placed_at, AreAligned, objects_of}
use Rattle.obj_mem.specs.Standing.{IsSpread}
use Rattle.obj_mem.specs.Table.{addresses_of}
use Rattle.cheri_c_sem.specs.Calls.{start, first_state}
use Rattle.cheri_c_sem.specs.Modes.{Store, operations, placed_plan}
use Rattle.cheri_c_sem.specs.Tree.{Program}
use Rattle.placement.specs.Memories.{IsClear}
use Rattle.placement.proofs.Shapes.{swap}
use Rattle.placement.proofs.Objects.{object_shape, shapes_from}
use Rattle.placement.proofs.Lawful.{length_needed, placed_shapes, spread, heap_clear, stack_clear}
use Rattle.place_inject.specs.Frames.{Setting, GlobalsFit, functions_of}
use Rattle.place_inject.specs.Fits.{Fits}
use Rattle.place_inject.specs.Starts.{IsMapOf, IsLoaded, StartFits}
use Rattle.place_inject.proofs.StoresKeep.{same_memory}
use Rattle.place_inject.proofs.Starting.{begun}

-- ---- objects that are needed, at their bases

objects_at : List ObjectNeed → List ℕ → List Shape
objects_at [] bs = []
objects_at (n ∷ ns) [] = []
objects_at (n ∷ ns) (b ∷ bs) = object_shape n.length b ∷ objects_at ns bs

from_base : (ns : List ObjectNeed) (bs : List ℕ) (base : ℕ → ℕ) (j : ℕ) →
    ((i : ℕ) → base (j + i) ≡ slice_index_or bs i 0)
    → AreAligned ns bs → shapes_from base j (map length_needed ns) ≡ objects_at ns bs
unfolding objects_at
from_base [] bs base j h al = refl
from_base (n ∷ ns) [] base j h al = absurd al
from_base (n ∷ ns) (b ∷ bs) base j h al =
    let z : j + 0 ≡ j = omega arith in
    let is : base j ≡ b = ap base (sym z) ∙ h 0 in
    let behind = from_base ns bs base (suc j) (λ i. ap base (next j i) ∙ h (suc i)) al.1 in
    rw (is, behind) refl
  where
    next : (j i : ℕ) → suc j + i ≡ j + suc i
    next j i = omega arith

from_list : (ns : List ObjectNeed) (bs : List ℕ) → AreAligned ns bs
    → shapes_from (λ k. slice_index_or bs k 0) 0 (map length_needed ns) ≡ objects_at ns bs
from_list ns bs al = from_base ns bs (λ k. slice_index_or bs k 0) 0 front al where
  front : (i : ℕ) → slice_index_or bs (0 + i) 0 ≡ slice_index_or bs i 0
  front i = let z : 0 + i ≡ i = omega arith in ap (λ k. slice_index_or bs k 0) z

module _ (more : List ObjectNeed) (others : List ℕ) where
  join : (ns : List ObjectNeed) (bs : List ℕ) → AreAligned ns bs
      → objects_at ns bs ++ objects_at more others ≡ objects_at (ns ++ more) (bs ++ others)
  unfolding objects_at
  join [] [] al = refl
  join [] (b ∷ bs) al = absurd al
  join (n ∷ ns) [] al = absurd al
  join (n ∷ ns) (b ∷ bs) al = ap (λ t. object_shape n.length b ∷ t) (join ns bs al.1)

  join_placed : (ns : List ObjectNeed) (bs : List ℕ) → AreAligned ns bs
      → placed_at ns bs ++ placed_at more others ≡ placed_at (ns ++ more) (bs ++ others)
  join_placed [] [] al = refl
  join_placed [] (b ∷ bs) al = absurd al
  join_placed (n ∷ ns) [] al = absurd al
  join_placed (n ∷ ns) (b ∷ bs) al = ap (λ t. (b, owned_of n) ∷ t) (join_placed ns bs al.1)

object_get : (ns : List ObjectNeed) (bs : List ℕ) (k b : ℕ) (n : ObjectNeed) → slice_get bs k ≡ Some b
    → slice_get ns k ≡ Some n → slice_get (objects_at ns bs) k ≡ Some (object_shape n.length b)
unfolding objects_at
object_get [] bs k b n e f = absurd cc
object_get (m ∷ ns) [] k b n e f = absurd cc
object_get (m ∷ ns) (c ∷ bs) zero b n e f =
    let p : m ≡ n = cc in
    let q : c ≡ b = cc in
    rw (p, q) refl
object_get (m ∷ ns) (c ∷ bs) (suc k) b n e f = object_get ns bs k b n e f

-- its base, and its extent
object_from : (ns : List ObjectNeed) (bs : List ℕ) (k : ℕ) (g : Shape) → slice_get (objects_at ns bs) k ≡ Some g
    → (slice_get bs k ≡ Some g.base) × (slice_get (placed_at ns bs) k ≡ Some (g.base, g.owned))
unfolding objects_at
object_from [] bs k g e = absurd cc
object_from (n ∷ ns) [] k g e = absurd cc
object_from (n ∷ ns) (b ∷ bs) zero g e =
    let q : object_shape n.length b ≡ g = cc in
    subst (λ (x : Shape). (slice_get (b ∷ bs) 0 ≡ Some x.base)
    × (slice_get (placed_at (n ∷ ns) (b ∷ bs)) 0 ≡ Some (x.base, x.owned))) q (refl, refl)
object_from (n ∷ ns) (b ∷ bs) (suc k) g e = object_from ns bs k g e

apart_from : (x y : ℕ × ℕ) (es : List (ℕ × ℕ)) (k : ℕ) → IsApartFrom x es → slice_get es k ≡ Some y → AreApart x y
apart_from x y [] k h e = absurd cc
apart_from x y (z ∷ es) zero h e = let q : z ≡ y = cc in subst (AreApart x) q h.0
apart_from x y (z ∷ es) (suc k) h e = apart_from x y es k h.1 e

-- ---- the first state

module _ (s : Setting) (p : Program) (is : IsMapOf s p) where
  abbrev needs : List ObjectNeed
  needs = s.needs.globals ++ s.needs.literals

  abbrev bases : List ℕ
  bases = s.map.globals ++ s.map.literals

  abbrev first : Store
  first = start (operations (placed_plan s.map)) p

  abbrev u : List Shape
  u = placed_shapes s.needs s.map is.legal is.exact_globals is.exact_literals

  placed_is : u ≡ objects_at needs bases
  placed_is =
      ap (λ t. t ++ shapes_from (λ k. slice_index_or s.map.literals k 0) 0 (map length_needed s.needs.literals))
      (from_list s.needs.globals s.map.globals is.legal.globals)
      ∙ ap (λ t. objects_at s.needs.globals s.map.globals ++ t)
      (from_list s.needs.literals s.map.literals is.legal.literals)
      ∙ join s.needs.literals s.map.literals s.needs.globals s.map.globals is.legal.globals

  first_is : first.memory.shapes ≡ u
  first_is =
      let b = begun s.map p in
      b.shapes
      ∙ ap (λ v. shapes_from (placed_plan s.map).global 0 v ++ shapes_from (placed_plan s.map).literal 0
      (map length p.literals)) is.globals
      ∙ ap (λ v. shapes_from (placed_plan s.map).global 0 (map length_needed s.needs.globals) ++ shapes_from
      (placed_plan s.map).literal 0 v) is.literals

  from : (k : ℕ) (g : Shape) → slice_get first.memory.shapes k ≡ Some g
      → (slice_get bases k ≡ Some g.base) × (slice_get (objects_of s.needs s.map) k ≡ Some (g.base, g.owned))
  from k g e =
      let x = object_from needs bases k g (subst (λ t. slice_get t k ≡ Some g) (first_is ∙ placed_is) e) in (
        x.0,
        subst (λ t. slice_get t k ≡ Some (g.base, g.owned)) (sym
            (join_placed s.needs.literals s.map.literals s.needs.globals s.map.globals is.legal.globals)) x.1,
      )

  globals : GlobalsFit s first.memory.shapes
  globals = record {
    each = λ k base need e f. record {
      shape = object_shape need.length base;
      there = subst (λ t. slice_get t k ≡ Some (object_shape need.length base)) (sym (first_is ∙ placed_is))
          (object_get needs bases k base need e f);
      length = refl;
      base_is = refl;
      stays = tt;
    };
  }

  table_clear : IsClear first.memory.shapes s.map.table.0 s.map.table.1
  table_clear = record {
    clear = λ k g e x. swap s.map.table.0 s.map.table.1 g.base g.owned
        (apart_from s.map.table (g.base, g.owned) (objects_of s.needs s.map) k is.legal.apart.1.0.1.1 (from k g e).1);
  }

  module _ (l : IsLoaded s first.memory) (turns : ℕ) where
    started : Fits s None (first_state (operations (placed_plan s.map)) p turns) s.loaded
    unfolding operations
    started =
        let b = begun s.map p in
        record {
          registers = l.registers;
          objects = record {
            areas = l.areas;
            spread = subst (λ t. IsSpread t (functions_of s) (addresses_of s.map)) (sym first_is)
                (spread s.needs s.map is.legal is.exact_globals is.exact_literals);
            aligned = λ k g e. is.aligned k g.base (from k g e).0;
            one_each = b.as_many;
            sound = l.sound;
            stands = λ k g c e f a. l.stands k g c e f;
          };
          globals = globals;
          text = same_memory s.map.text.0 s.map.text.1 s.loaded.mem;
          table = record {
            room = is.table;
            before = same_memory _ _ s.loaded.mem;
            behind = same_memory _ _ s.loaded.mem;
            heap = rw b.heap l.heap;
            clear = table_clear;
          };
          heap = rw b.heap (record {
            from = omega arith;
            to = omega arith;
            zeros = l.zeros;
            untagged = l.untagged;
            clear = rw first_is (heap_clear s.needs s.map is.legal is.exact_globals is.exact_literals);
          });
          stack = record {
            stack = l.stack;
            table = refl;
            clear = rw first_is (stack_clear s.needs s.map is.legal is.exact_globals is.exact_literals);
          };
          calls = refl;
          places = λ x. refl;
        }

pub start_fits_law : StartFits
start_fits_law s p is l turns = started s p is l turns
