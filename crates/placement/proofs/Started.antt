-- Memories stand for one another at the start of a program, and so its runs agree.
use Rattle.std.proofs.Common.{◌≡◌, ℕ, suc, ◌+◌, ◌-◌, ◌^◌, ◌<◌, ◌≤◌, true, List, [], ◌∷◌, ◌++◌, length, map, Some, refl}
use Rattle.std.proofs.Common.{sym, ap, ◌∙◌, subst, inl, inr, arith, length-append}
use Rattle.std.specs.Prelude.{slice_get, slice_index_or}
use Rattle.std.specs.List.{AllByRecursion}
use Rattle.cap_concentrate.specs.Rounding.{owned}
use Rattle.cap_concentrate.proofs.Owned.{owned_ge}
use Rattle.ck_base.specs.World.{World}
use Rattle.obj_mem.specs.declared.map.Map.{Map}
use Rattle.obj_mem.specs.Values.{Value, Int, Live, Fun, Raw, Addresses}
use Rattle.obj_mem.specs.Objects.{Active, Shape, no_objects}
use Rattle.obj_mem.specs.Pointers.{is_near}
use Rattle.obj_mem.specs.Legal.{Needs, IsLegal}
use Rattle.obj_mem.specs.Table.{addresses_of}
use Rattle.obj_mem.specs.Agreement.{SameMemory}
use Rattle.obj_mem.specs.Standing.{IsFitted, IsGood, IsSpread, HaveBounds}
use Rattle.cheri_c_sem.specs.Modes.{Store, operations, placed_plan, strict_plan}
use Rattle.cheri_c_sem.specs.Steps.{Fate, outcome_of}
use Rattle.cheri_c_sem.specs.Tree.{Global, Starting, Program}
use Rattle.cheri_c_sem.specs.Calls.{start, add_globals, add_literals, first_state, fate}
use Rattle.cheri_c_sem.specs.Runs.{placed_run, strict_run}
use Rattle.placement.specs.Endings.{Agrees, Follows}
use Rattle.placement.specs.Relations.{IsWord}
use Rattle.placement.specs.Trees.{FunctionsFit}
use Rattle.placement.specs.Memories.{IsThere, IsClear, ContentsGood, FramesFit, Stand, memories}
use Rattle.placement.proofs.Lists.{map_get, map_from, map_join, map_length, front_get, back_get, below_get}
use Rattle.placement.proofs.SimCalls.{runs_agree}
use Rattle.placement.proofs.Instance.{keeps}
use Rattle.placement.proofs.Objects.{object_shape, shapes_from, length_of, globals_added, literals_added, globals_same}
use Rattle.placement.proofs.Objects.{literals_same, globals_blank, literals_blank}
use Rattle.placement.proofs.Filled.{Ready, IsOf, LinksFit, GlobalsFit, LiteralsFit, globals_filled, literals_filled}
use Rattle.placement.proofs.Filled.{globals_linked}
use Rattle.placement.proofs.Lawful.{length_needed, placed_shapes, laid, spread, heap_clear, stack_clear}

-- ---- what a program's initial data asks

-- the pointers with which objects begin, where objects of these lengths and so many functions are there
abbrev pub PointerFits : List ℕ → ℕ → Value → Type 0
PointerFits lengths functions (Live object low high offset permissions) =
    (n : ℕ) × (slice_get lengths object ≡ Some n) × IsFitted (owned n) low high × (is_near low high offset ≡ true)
    × (offset < 2 ^ 64) × (permissions < 4096)
PointerFits lengths functions (Fun f) = f < functions
PointerFits lengths functions (Int n) = n < 2 ^ 64
PointerFits lengths functions (Raw address upper) = (address < 2 ^ 64) × (upper < 2 ^ 64)

pub record GlobalFit (lengths : List ℕ) (functions : ℕ) (g : Global) : Type 0 where
  pub bytes : length g.bytes ≤ g.length
  pub links : (j : ℕ) (l : Starting) → slice_get g.links j ≡ Some l
      → (l.at + 16 ≤ g.length) × PointerFits lengths functions l.value

abbrev pub lengths_of : Program → List ℕ
lengths_of p = map length_of p.globals ++ map length p.literals

-- ---- the strict objects

abbrev strict_object : ℕ → Shape
strict_object n = object_shape n 0

abbrev no_base : ℕ → ℕ
no_base k = 0

strict_from : (k : ℕ) (ns : List ℕ) → shapes_from no_base k ns ≡ map strict_object ns
strict_from k [] = refl
strict_from k (n ∷ ns) = ap (λ v. strict_object n ∷ v) (strict_from (suc k) ns)

lengths_from : (base : ℕ → ℕ) (k : ℕ) (ns : List ℕ) → map (λ (s : Shape). s.length) (shapes_from base k ns) ≡ ns
lengths_from base k [] = refl
lengths_from base k (n ∷ ns) = ap (λ v. n ∷ v) (lengths_from base (suc k) ns)

module _ (pr : Program) (n : Needs) (m : Map) (legal : IsLegal n m) (exact_globals : HaveBounds n.globals m.globals)
    (exact_literals : HaveBounds n.literals m.literals)
    (globals_are : map length_of pr.globals ≡ map length_needed n.globals)
    (literals_are : map length pr.literals ≡ map length_needed n.literals)
    (functions_are : length pr.funs ≡ length n.functions)
    (fits : (i : ℕ) (g : Global) → slice_get pr.globals i ≡ Some g → GlobalFit (lengths_of pr) (length pr.funs) g) where
  abbrev a : Addresses
  a = addresses_of m

  abbrev functions : ℕ
  functions = length pr.funs

  abbrev t : List Shape
  t = map strict_object (lengths_of pr)

  abbrev u : List Shape
  u = placed_shapes n m legal exact_globals exact_literals

  active : (k : ℕ) (h : Shape) → slice_get t k ≡ Some h → h.life ≡ Active
  active k h e = let x = map_from strict_object (lengths_of pr) k h e in ap (λ (s : Shape). s.life) (sym x.2)

  is_spread : IsSpread u functions a
  is_spread = subst (λ f. IsSpread u f a) (sym functions_are) (spread n m legal exact_globals exact_literals)

  -- lengths of objects are those of the placed ones
  placed_lengths : map (λ (s : Shape). s.length) u ≡ lengths_of pr
  placed_lengths =
      map_join (λ (s : Shape). s.length)
      (shapes_from (λ k. slice_index_or m.globals k 0) 0 (map length_needed n.globals))
      (shapes_from (λ k. slice_index_or m.literals k 0) 0 (map length_needed n.literals))
      ∙ ap (λ v. v ++ map (λ (s : Shape). s.length)
      (shapes_from (λ k. slice_index_or m.literals k 0) 0 (map length_needed n.literals)))
      (lengths_from (λ k. slice_index_or m.globals k 0) 0 (map length_needed n.globals) ∙ sym globals_are)
      ∙ ap (λ v. map length_of pr.globals ++ v)
      (lengths_from (λ k. slice_index_or m.literals k 0) 0 (map length_needed n.literals) ∙ sym literals_are)

  small : (k len : ℕ) → slice_get (lengths_of pr) k ≡ Some len → len ≤ 2 ^ 40
  small k len e =
      let x = map_from (λ (s : Shape). s.length) u k len
      (subst (λ v. slice_get v k ≡ Some len) (sym placed_lengths) e) in
      let b = is_spread.placed k x.0 x.1 in
      let to = b.to in
      let is = b.owned_is in
      let ge = owned_ge x.0.length in
      let q = x.2 in
      omega (arith, to, is, ge, q)

  is_of : (k len : ℕ) → slice_get (lengths_of pr) k ≡ Some len → IsOf functions m t u active k len
  is_of k len e = record {
    shape = strict_object len;
    there = map_get strict_object (lengths_of pr) k len e;
    length = refl;
    small = small k len e;
  }

  pointer_good : (v : Value) → PointerFits (lengths_of pr) functions v → IsGood t functions v
  pointer_good (Live o low high at p) f =
      record {
        shape = strict_object f.0;
        there = map_get strict_object (lengths_of pr) o f.0 f.1;
        fitted = f.2;
        near = f.3;
        word = f.4;
        twelve_bits = f.5;
      }
  pointer_good (Fun f) h = h
  pointer_good (Int x) h = h
  pointer_good (Raw x y) h = h

  links_fit : (len : ℕ) (ls : List Starting)
      → ((j : ℕ) (l : Starting) → slice_get ls j ≡ Some l → (l.at + 16 ≤ len) × PointerFits (lengths_of pr) functions
      l.value) → LinksFit functions m t u active len ls
  links_fit len [] h = tt
  links_fit len (l ∷ ls) h = let x = h 0 l refl in
      (x.0, pointer_good l.value x.1, links_fit len ls (λ j k e. h (suc j) k e))

  globals_from : (gs : List Global) (k : ℕ)
      → ((i : ℕ) (g : Global) → slice_get gs i ≡ Some g → (slice_get (lengths_of pr) (k + i) ≡ Some g.length)
      × GlobalFit (lengths_of pr) functions g) → GlobalsFit functions m t u active k gs
  globals_from [] k h = tt
  globals_from (g ∷ gs) k h =
      let x = h 0 g refl in
      let z : k + 0 ≡ k = omega arith in
      let f = x.1 in (
        is_of k g.length (subst (λ i. slice_get (lengths_of pr) i ≡ Some g.length) z x.0),
        f.bytes,
        links_fit g.length g.links f.links,
        globals_from gs (suc k) (λ i y e. let w = h (suc i) y e in
            (subst (λ i. slice_get (lengths_of pr) i ≡ Some y.length) (next k i) w.0, w.1)),
      )
    where
      next : (k i : ℕ) → k + suc i ≡ suc k + i
      next k i = omega arith

  literals_from : (ls : List (List ℕ)) (k : ℕ)
      → ((i : ℕ) (bs : List ℕ) → slice_get ls i ≡ Some bs → slice_get (lengths_of pr) (k + i) ≡ Some (length bs))
      → LiteralsFit functions m t u active k ls
  literals_from [] k h = tt
  literals_from (bs ∷ ls) k h =
      let z : k + 0 ≡ k = omega arith in (
        is_of k (length bs) (subst (λ i. slice_get (lengths_of pr) i ≡ Some (length bs)) z (h 0 bs refl)),
        literals_from ls (suc k)
            (λ i y e. subst (λ i. slice_get (lengths_of pr) i ≡ Some (length y)) (next k i) (h (suc i) y e)),
      )
    where
      next : (k i : ℕ) → k + suc i ≡ suc k + i
      next k i = omega arith

  all_globals : GlobalsFit functions m t u active 0 pr.globals
  all_globals = globals_from pr.globals 0
      (λ i g e. (
        subst (λ k. slice_get (lengths_of pr) k ≡ Some g.length) (zero_plus i)
            (front_get (map length_of pr.globals) (map length pr.literals) i g.length
            (map_get length_of pr.globals i g e)),
        fits i g e,
      ))
    where
      zero_plus : (i : ℕ) → i ≡ 0 + i
      zero_plus i = omega arith

  all_literals : LiteralsFit functions m t u active (length pr.globals) pr.literals
  all_literals = literals_from pr.literals (length pr.globals) (λ i bs e.
      subst (λ k. slice_get (lengths_of pr) (k + i) ≡ Some (length bs)) (map_length length_of pr.globals)
      (back_get (map length_of pr.globals) (map length pr.literals) i ∙ map_get length pr.literals i bs e))

  -- ---- the start

  abbrev strict_empty : Store
  strict_empty = record { memory = no_objects; heap = 0 }

  abbrev placed_empty : Store
  placed_empty = record { memory = no_objects; heap = a.heap }

  abbrev strict_objects : Store
  strict_objects = add_literals (operations strict_plan)
      (add_globals (operations strict_plan) strict_empty 0 pr.globals) 0 pr.literals

  abbrev placed_objects : Store
  placed_objects = add_literals (operations (placed_plan m))
      (add_globals (operations (placed_plan m)) placed_empty 0 pr.globals) 0 pr.literals

  strict_shapes_are : strict_objects.memory.shapes ≡ t
  strict_shapes_are =
      let g = globals_added strict_plan pr.globals strict_empty 0 in
      let l = literals_added strict_plan pr.literals (add_globals (operations strict_plan) strict_empty 0 pr.globals)
      0 in
      l.shapes ∙ ap (λ v. v ++ shapes_from no_base 0 (map length pr.literals)) g.shapes
      ∙ ap (λ v. v ++ shapes_from no_base 0 (map length pr.literals)) (strict_from 0 (map length_of pr.globals))
      ∙ ap (λ v. map strict_object (map length_of pr.globals) ++ v) (strict_from 0 (map length pr.literals))
      ∙ sym (map_join strict_object (map length_of pr.globals) (map length pr.literals))

  placed_shapes_are : placed_objects.memory.shapes ≡ u
  placed_shapes_are =
      let g = globals_added (placed_plan m) pr.globals placed_empty 0 in
      let l = literals_added (placed_plan m) pr.literals
      (add_globals (operations (placed_plan m)) placed_empty 0 pr.globals) 0 in
      l.shapes ∙ ap (λ v. v ++ shapes_from (placed_plan m).literal 0 (map length pr.literals)) g.shapes
      ∙ ap (λ v. shapes_from (placed_plan m).global 0 v ++ shapes_from (placed_plan m).literal 0
      (map length pr.literals)) globals_are
      ∙ ap (λ v. shapes_from (placed_plan m).global 0 (map length_needed n.globals) ++ shapes_from
      (placed_plan m).literal 0 v) literals_are

  objects_ready : Ready functions m t u active strict_objects placed_objects
  objects_ready =
      let g = globals_added strict_plan pr.globals strict_empty 0 in
      let l = literals_added strict_plan pr.literals (add_globals (operations strict_plan) strict_empty 0 pr.globals)
      0 in
      let g' = globals_added (placed_plan m) pr.globals placed_empty 0 in
      let l' = literals_added (placed_plan m) pr.literals
      (add_globals (operations (placed_plan m)) placed_empty 0 pr.globals) 0 in
      let empty : SameMemory no_objects no_objects = record { shapes = tt; contents = tt } in
      record {
        same = literals_same a strict_plan (placed_plan m) refl refl pr.literals _ _ 0
            (globals_same a strict_plan (placed_plan m) refl refl pr.globals strict_empty placed_empty 0 empty);
        strict = strict_shapes_are;
        placed = placed_shapes_are;
        notes = l.notes ∙ g.notes;
        strict_heap = l.heap ∙ g.heap;
        placed_heap = l'.heap ∙ g'.heap;
        as_many = l.as_many (g.as_many refl) ∙ ap length strict_shapes_are;
        contents = literals_blank t functions strict_plan refl pr.literals _ 0
            (globals_blank t functions strict_plan refl pr.globals strict_empty 0 tt);
      }

  started : Ready functions m t u active (start (operations strict_plan) pr) (start (operations (placed_plan m)) pr)
  unfolding start operations
  started =
      let r = globals_filled functions m t u active pr.globals _ _ objects_ready 0 all_globals in
      let r' = literals_filled functions m t u active pr.literals _ _ r (length pr.globals) all_literals in
      globals_linked functions m t u active pr.globals _ _ r' 0 all_globals

  -- how many objects there are
  abbrev many : ℕ
  many = length pr.globals + length pr.literals

  there : (i : ℕ) → i < many → IsThere t i
  there i l =
      let e : length (lengths_of pr) ≡ many =
      omega (
        arith,
        length-append (map length_of pr.globals) (map length pr.literals),
        map_length length_of pr.globals,
        map_length length pr.literals,
      ) in
      let x = below_get (lengths_of pr) i (omega (arith, e, l)) in
      (strict_object x.0, map_get strict_object (lengths_of pr) i x.0 x.1)

  stands : Stand many functions a m.stack.0 m.stack.1 0 0 (m.stack.0 + m.stack.1) (start (operations strict_plan) pr)
      (start (operations (placed_plan m)) pr)
  stands =
      let r = started in
      let hs = r.strict_heap in
      let hp = r.placed_heap in
      let la = laid n m legal exact_globals exact_literals in
      let enough = la.enough in
      record {
        same = r.same;
        spread = subst (λ v. IsSpread v functions a) (sym r.placed) is_spread;
        contents = subst (λ v. ContentsGood v functions (start (operations strict_plan) pr).memory.contents)
            (sym r.strict) r.contents;
        globals_there = λ i l. subst (λ v. IsThere v i) (sym r.strict) (there i l);
        locals_alive = λ i l. absurd (omega arith);
        heap_from = omega (arith, hp);
        heap_least = omega (arith, hp);
        heap_to = omega (arith, hp, enough);
        heap_clear = subst (λ v. IsClear v (start (operations (placed_plan m)) pr).heap
            (a.heap_end - (start (operations (placed_plan m)) pr).heap)) (sym r.placed)
            (subst (λ h. IsClear u h (a.heap_end - h)) (sym hp) (heap_clear n m legal exact_globals exact_literals));
        frame_to = omega arith;
        stack_clear = subst (λ v. IsClear v m.stack.0 (m.stack.0 + m.stack.1 - m.stack.0)) (sym r.placed)
            (stack_clear n m legal exact_globals exact_literals);
      }

  module _ (frames : FramesFit pr.funs m.frames) (trees : FunctionsFit many pr.funs) (w : World)
      (bytes : AllByRecursion IsWord w.bytes) (turns : ℕ) where
    fates_agree : Agrees (fate (operations strict_plan) pr w turns) (fate (operations (placed_plan m)) pr w turns)
    unfolding fate operations
    fates_agree =
        runs_agree (memories many functions a m.stack.0 m.stack.1) (operations strict_plan)
        (operations (placed_plan m)) many pr.funs
        (keeps many pr.funs m (laid n m legal exact_globals exact_literals) frames) trees w bytes
        0 (m.stack.0 + m.stack.1) (suc turns) pr.main [] (first_state (operations strict_plan) pr turns)
        (start (operations (placed_plan m)) pr) stands tt tt

    outcomes : (o p : Fate) → Agrees o p → Follows (outcome_of w o) (outcome_of w p)
    outcomes o p (inl x) = inl x
    outcomes o p (inr (inl e)) = inr (inl (ap (outcome_of w) e))
    outcomes o p (inr (inr x)) = inr (inr x)

    pub follows : Follows (strict_run pr w turns) (placed_run pr m w turns)
    follows = outcomes (fate (operations strict_plan) pr w turns) (fate (operations (placed_plan m)) pr w turns)
        fates_agree
