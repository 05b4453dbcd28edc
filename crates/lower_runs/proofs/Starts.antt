-- The memory with which a program begins is sound, under a legal map.
use Rattle.std.proofs.Common.{◌≡◌, ℕ, zero, suc, ◌+◌, ◌^◌, ◌≤◌, ◌<◌, Bool, true, false, List, [], ◌∷◌, length}
use Rattle.std.proofs.Common.{map, Option, Some, None, Result, Ok, Err, refl, sym, ap, subst, ◌∙◌, arith}
use Rattle.std.specs.Prelude.{slice_get, slice_index_or, if◌then◌else◌}
use Rattle.cap_concentrate.specs.Rounding.{owned}
use Rattle.cap_concentrate.proofs.Owned.{owned_small}
use Rattle.cap_ops.specs.Permissions.{data_permissions, const_permissions}
use Rattle.c_tree.specs.Layout.{extent}
use Rattle.c_tree.specs.WellTyped.{WellTyped, OwnsBytes}
use Rattle.c_tree.specs.declared.typed.GlobalDef.{GlobalDef}
use Rattle.c_tree.specs.declared.typed.Link.{Link}
use Rattle.c_tree.specs.declared.typed.Literal.{Literal}
use Rattle.c_tree.specs.declared.typed.Target.{Target}
use Rattle.c_tree.specs.declared.typed.Target.TheVariants as target
use Rattle.c_tree.specs.declared.typed.Typed.{Typed}
use Rattle.obj_mem.specs.Access.{stored_piece}
use Rattle.obj_mem.specs.Legal.{ObjectNeed, Needs}
use Rattle.obj_mem.specs.Needs.{Legal, is_const, global_need, literal_need, needs_of, weight_in}
use Rattle.obj_mem.specs.Objects.{Active, Placed, blank}
use Rattle.obj_mem.specs.Standing.{HasBounds, HaveBounds}
use Rattle.obj_mem.specs.Values.{Value, Int}
use Rattle.obj_mem.specs.declared.ending.Fault.{Fault}
use Rattle.obj_mem.specs.declared.map.Map.{Map}
use Rattle.obj_mem.proofs.Spread.{objects_are_exact_law}
use Rattle.cheri_c_sem.specs.Calls.{add_globals, add_literals, memory_or, written, with_bytes, with_links, fill_globals}
use Rattle.cheri_c_sem.specs.Calls.{all_bytes, link_globals, fill_literals, start}
use Rattle.cheri_c_sem.specs.Expressions.{permissions_of}
use Rattle.cheri_c_sem.specs.Kinds.{Capability}
use Rattle.cheri_c_sem.specs.Meaning.{further}
use Rattle.cheri_c_sem.specs.Modes.{Store, operations, placed_plan, with_object}
use Rattle.cheri_c_sem.specs.Operations.{Operations}
use Rattle.cheri_c_sem.specs.Programs.{value_at, global_tree, program_tree}
use Rattle.cheri_c_sem.specs.Tree.{Global}
use Rattle.lower_runs.specs.Sound.{IsPointer, IsSound}
use Rattle.lower_runs.specs.States.{IsOnward}
use Rattle.lower_runs.proofs.Agreement.{onward_same, onward_then}
use Rattle.lower_runs.proofs.Needs.{need_length}
use Rattle.lower_runs.proofs.Placed.{at_map, same_some, exact_at, IsPiece, bytes_all, stored_is, blank_filled}
use Rattle.lower_runs.proofs.Placed.{onward_added, onward_store}

literal_small : (ls : List Literal) (bs : List ℕ) → HaveBounds (map literal_need ls) bs → (k : ℕ) (l : Literal) →
    slice_get ls k ≡ Some l → owned (length l.bytes) ≤ 2 ^ 40
literal_small [] bs x k l e = absurd cc
literal_small (y ∷ ls) [] x k l e = absurd x
literal_small (y ∷ ls) (b ∷ bs) x zero l e =
    subst (λ z. owned (length z.bytes) ≤ 2 ^ 40) (same_some y l e) (let to = x.0.based.to in omega arith)
literal_small (y ∷ ls) (b ∷ bs) x (suc k) l e = literal_small ls bs x.1 k l e

module _ (p : Typed) (w : WellTyped p) (m : Map) (legal : Legal p m) where
  abbrev needs : Needs
  needs = needs_of (weight_in p) p

  abbrev ops : Operations Store
  ops = operations (placed_plan m)

  exact : HaveBounds needs.globals m.globals × HaveBounds needs.literals m.literals
  exact = objects_are_exact_law (weight_in p) p m legal

  -- ---- the objects

  added : (n : ObjectNeed) (base long : ℕ) → HasBounds n base → n.length ≡ long → (s : Store) →
      IsOnward ops s (with_object (placed_plan m) s long base)
  added n base long x is s =
      let low : base + owned long ≤ 2 ^ 40 = subst (λ z. base + owned z ≤ 2 ^ 40) is x.based.to in
      let aligned = x.based.aligned in
      onward_added needs m legal s (record { length = long; owned = owned long; life = Active; base = base })
      (blank (Placed (at_map needs m legal)) (owned long)) s.heap
      (record {
        low = low;
        exact = exact_at base long low (rw is at aligned);
      }) (blank_filled (at_map needs m legal) (owned long))

  globals_added : (gs : List GlobalDef) (bs : List ℕ) → HaveBounds (map (global_need p.types) gs) bs →
      ((i : ℕ) (g : GlobalDef) → slice_get gs i ≡ Some g → (k : ℕ) × (slice_get p.globals k ≡ Some g)) →
      (k : ℕ) → ((i : ℕ) → slice_index_or m.globals (k + i) 0 ≡ slice_index_or bs i 0) → (s : Store) →
      IsOnward ops s (add_globals ops s k (map (global_tree p) gs))
  unfolding operations
  globals_added [] bs x h k at s = onward_same ops s
  globals_added (g ∷ gs) [] x h k at s = absurd x
  globals_added (g ∷ gs) (b ∷ bs) x h k at s =
      let there = h 0 g refl in
      let fits = w.globals there.0 g there.1 in
      let none : k + 0 ≡ k = omega arith in
      let long = (global_tree p g).length in
      let here : slice_index_or m.globals k 0 ≡ b = ap (λ z. slice_index_or m.globals z 0) (sym none) ∙ at 0 in
      let new = with_object (placed_plan m) s long (slice_index_or m.globals k 0) in
      onward_then ops s new (add_globals ops new (suc k) (map (global_tree p) gs))
      (subst (λ z. IsOnward ops s (with_object (placed_plan m) s long z)) (sym here)
      (added (global_need p.types g) b long x.0
      (need_length (extent p.types g.of) fits.extent
      (if is_const p.types g.of then const_permissions else data_permissions) fits.own fits.complete.within) s))
      (globals_added gs bs x.1 (λ i. h (suc i)) (suc k)
      (λ i. ap (λ z. slice_index_or m.globals z 0) (next k i) ∙ at (suc i)) new)
    where
      next : (k i : ℕ) → suc k + i ≡ k + suc i
      next k i = omega arith

  literals_added : (ls : List Literal) (bs : List ℕ) → HaveBounds (map literal_need ls) bs → (k : ℕ) →
      ((i : ℕ) → slice_index_or m.literals (k + i) 0 ≡ slice_index_or bs i 0) → (s : Store) →
      IsOnward ops s (add_literals ops s k (map (λ (l : Literal). l.bytes) ls))
  unfolding operations
  literals_added [] bs x k at s = onward_same ops s
  literals_added (l ∷ ls) [] x k at s = absurd x
  literals_added (l ∷ ls) (b ∷ bs) x k at s =
      let none : k + 0 ≡ k = omega arith in
      let here : slice_index_or m.literals k 0 ≡ b = ap (λ z. slice_index_or m.literals z 0) (sym none) ∙ at 0 in
      let new = with_object (placed_plan m) s (length l.bytes) (slice_index_or m.literals k 0) in
      onward_then ops s new (add_literals ops new (suc k) (map (λ (l : Literal). l.bytes) ls))
      (subst (λ z. IsOnward ops s (with_object (placed_plan m) s (length l.bytes) z)) (sym here)
      (added (literal_need l) b (length l.bytes) x.0 refl s))
      (literals_added ls bs x.1 (suc k)
      (λ i. ap (λ z. slice_index_or m.literals z 0) (next k i) ∙ at (suc i)) new)
    where
      next : (k i : ℕ) → suc k + i ≡ k + suc i
      next k i = omega arith

  -- ---- what stands in them

  put : (s : Store) (object at n : ℕ) (v : Value) → IsPiece (at_map needs m legal) (stored_piece n v) →
      IsOnward ops s (written ops s object at n v)
  put s object at n v h = by (ops.store s (further (ops.whole s object data_permissions) at) n v) refl
    where
      by : (r : Result Store Fault) → ops.store s (further (ops.whole s object data_permissions) at) n v ≡ r →
          IsOnward ops s (memory_or ops s r)
      by (Ok new) e = onward_store needs m legal s new (further (ops.whole s object data_permissions) at) v n h e
      by (Err f) e = onward_same ops s

  bytes_put : (bs : List ℕ) (s : Store) (object at : ℕ) → IsOnward ops s (with_bytes ops s object at bs)
  bytes_put [] s object at = onward_same ops s
  bytes_put (b ∷ bs) s object at =
      let new = written ops s object at 1 (Int b) in
      onward_then ops s new (with_bytes ops new object (suc at) bs)
      (put s object at 1 (Int b) (bytes_all (at_map needs m legal) 1 b)) (bytes_put bs new object (suc at))

  globals_put : (gs : List Global) (s : Store) (object : ℕ) → IsOnward ops s (fill_globals ops s object gs)
  globals_put [] s object = onward_same ops s
  globals_put (g ∷ gs) s object =
      let new = with_bytes ops s object 0 (all_bytes ops g) in
      onward_then ops s new (fill_globals ops new (suc object) gs) (bytes_put (all_bytes ops g) s object 0)
      (globals_put gs new (suc object))

  literals_put : (ls : List (List ℕ)) (s : Store) (object : ℕ) → IsOnward ops s (fill_literals ops s object ls)
  literals_put [] s object = onward_same ops s
  literals_put (bs ∷ ls) s object =
      let new = with_bytes ops s object 0 bs in
      onward_then ops s new (fill_literals ops new (suc object) ls) (bytes_put bs s object 0)
      (literals_put ls new (suc object))

  -- ---- the pointers in them

  permissions_below : (o : Option GlobalDef) → permissions_of p [] o < 4096
  permissions_below None = omega arith
  permissions_below (Some g) = by (is_const p.types g.of)
    where
      by : (b : Bool) → (if b then const_permissions else data_permissions) < 4096
      by true = omega arith
      by false = omega arith

  link_pointer : (l : Link) (t : Target) (n : ℕ) → OwnsBytes p t n → l.low + l.length ≤ n →
      IsPointer (value_at p l t)
  link_pointer l (target.Global g) n owns inside =
      let within = owns.3.within in
      let small = owned_small owns.1.size (omega arith) in
      let size = owns.4 in
      (omega arith, omega arith, permissions_below (slice_get p.globals g))
  link_pointer l (target.Literal k) n owns inside =
      let small = literal_small p.literals m.literals exact.1 k owns.0 owns.1 in
      let size = owns.2 in
      (omega arith, omega arith, omega arith)
  link_pointer l (target.Fun f) n owns inside = tt

  links_put : (ls : List Link) → ((j : ℕ) (l : Link) → slice_get ls j ≡ Some l → IsPointer (value_at p l l.target)) →
      (s : Store) (object : ℕ) → IsOnward ops s (with_links ops s object
      (map (λ (l : Link). record { at = l.at; value = value_at p l l.target }) ls))
  links_put [] h s object = onward_same ops s
  links_put (l ∷ ls) h s object =
      let new = written ops s object l.at 16 (value_at p l l.target) in
      onward_then ops s new (with_links ops new object
      (map (λ (l : Link). record { at = l.at; value = value_at p l l.target }) ls))
      (put s object l.at 16 (value_at p l l.target)
      (stored_is (at_map needs m legal) (Capability false) 16 (value_at p l l.target) (h 0 l refl)))
      (links_put ls (λ j. h (suc j)) new object)

  globals_linked : (gs : List GlobalDef) →
      ((i : ℕ) (g : GlobalDef) → slice_get gs i ≡ Some g → (k : ℕ) × (slice_get p.globals k ≡ Some g)) →
      (s : Store) (object : ℕ) → IsOnward ops s (link_globals ops s object (map (global_tree p) gs))
  globals_linked [] h s object = onward_same ops s
  globals_linked (g ∷ gs) h s object =
      let new = with_links ops s object (global_tree p g).links in
      let there = h 0 g refl in
      onward_then ops s new (link_globals ops new (suc object) (map (global_tree p) gs))
      (links_put g.links (λ j l e.
      let fits = (w.globals there.0 g there.1).links j l e in
      link_pointer l l.target fits.target fits.owns fits.bounds) s object)
      (globals_linked gs (λ i. h (suc i)) new (suc object))

  -- ---- the start

  nothing_sound : IsSound ops.empty
  unfolding operations
  nothing_sound = record { shapes = tt; contents = tt }

  pub start_sound : IsSound (start ops (program_tree p))
  unfolding start program_tree
  start_sound =
      let globals = map (global_tree p) p.globals in
      let literals = map (λ (l : Literal). l.bytes) p.literals in
      let one = add_globals ops ops.empty 0 globals in
      let two = add_literals ops one 0 literals in
      let three = fill_globals ops two 0 globals in
      let four = fill_literals ops three (length globals) literals in
      (globals_linked p.globals (λ i g e. (i, e)) four 0).sound
      ((literals_put literals three (length globals)).sound
      ((globals_put globals two 0).sound
      ((literals_added p.literals m.literals exact.1 0
      (λ i. ap (λ z. slice_index_or m.literals z 0) (from i)) one).sound
      ((globals_added p.globals m.globals exact.0 (λ i g e. (i, e)) 0
      (λ i. ap (λ z. slice_index_or m.globals z 0) (from i)) ops.empty).sound nothing_sound))))
    where
      from : (i : ℕ) → 0 + i ≡ i
      from i = omega arith
