-- In the moment with which a run under a map begins, bounds are low.
use Rattle.std.proofs.Common.{◌≡◌, ℕ, suc, ◌+◌, ◌^◌, ◌<◌, ◌≤◌, List, [], ◌∷◌, length, map, Some, Result, Ok, Err, refl}
use Rattle.std.proofs.Common.{arith}
use Rattle.std.specs.Prelude.{IfOk, slice_get, slice_index_or}
use Rattle.std.proofs.lemmas.Option.{none-some}
use Rattle.cap_concentrate.specs.Rounding.{owned}
use Rattle.cap_concentrate.proofs.Owned.{owned_small}
use Rattle.cap_ops.specs.Permissions.{data_permissions}
use Rattle.c_tree.specs.Layout.{size_limit}
use Rattle.c_tree.specs.declared.typed.GlobalDef.{GlobalDef}
use Rattle.c_tree.specs.declared.typed.Link.{Link}
use Rattle.c_tree.specs.declared.typed.Literal.{Literal}
use Rattle.c_tree.specs.declared.typed.Target.{Target}
use Rattle.c_tree.specs.declared.typed.Target.TheVariants as target
use Rattle.c_tree.specs.declared.typed.Typed.{Typed}
use Rattle.obj_mem.specs.declared.ending.Fault.{Fault}
use Rattle.obj_mem.specs.declared.map.Map.{Map}
use Rattle.obj_mem.specs.Objects.{Placed}
use Rattle.obj_mem.specs.Table.{addresses_of}
use Rattle.obj_mem.specs.Values.{Value}
use Rattle.obj_mem.specs.Values as value
use Rattle.cheri_c_sem.specs.Calls.{add_globals, add_literals, memory_or, written, with_bytes, with_links, all_bytes}
use Rattle.cheri_c_sem.specs.Calls.{fill_globals, fill_literals, link_globals, start}
use Rattle.cheri_c_sem.specs.Meaning.{further}
use Rattle.cheri_c_sem.specs.Modes.{Store, operations, placed_plan}
use Rattle.cheri_c_sem.specs.Operations.{Operations}
use Rattle.cheri_c_sem.specs.Programs.{global_tree, program_tree, value_at}
use Rattle.cheri_c_sem.specs.Tree.{Fun, Global}
use Rattle.mean_bases.specs.Laws.{HasFrames}
use Rattle.mean_bases.specs.Moments.{IsLow, IsLowStore, IsLowFrame, IsLowMoment}
use Rattle.mean_bases.proofs.Keeps.{keeps}
use Rattle.mean_bases.proofs.Objects.{add_low}
use Rattle.mean_bases.proofs.Stays.{Keeps}
use Rattle.mean_run.specs.Views.{funs_of}
use Rattle.mean_steps.specs.Machine.{first_moment}
use Rattle.c_mean.specs.Starting.{IsSized, IsStartable, starting}

kept : (ops : Operations Store) (m : Store) (r : Result Store Fault) → IsLowStore m → IfOk r IsLowStore →
    IsLowStore (memory_or ops m r)
kept ops m (Ok n) h i = i
kept ops m (Err e) h i = h

module _ (p : Typed) (m : Map) (frames : HasFrames (funs_of p) m) (startable : IsStartable p)
    (globals_at : (k : ℕ) → slice_index_or m.globals k 0 ≤ 2 ^ 40)
    (literals_at : (k : ℕ) → slice_index_or m.literals k 0 ≤ 2 ^ 40)
    (links : (k : ℕ) (g : GlobalDef) → slice_get p.globals k ≡ Some g → (j : ℕ) (l : Link) →
    slice_get g.links j ≡ Some l → l.low + l.length ≤ size_limit) where
  abbrev ops : Operations Store
  ops = operations (placed_plan m)

  keep : Keeps (operations (placed_plan m)) (funs_of p) IsLow IsLowStore IsLowFrame
  keep = keeps (funs_of p) m frames

  -- ---- objects

  few : (n : ℕ) → n ≤ size_limit → owned n < 2 ^ 63
  few n h = omega (arith, owned_small n (omega (arith, h)))

  global_added : (s : Store) (k n : ℕ) → IsLowStore s → n ≤ size_limit → IsLowStore (ops.add_global s k n)
  unfolding operations
  global_added s k n low h =
      let base = globals_at k in
      add_low (Placed (addresses_of m)) s.memory low n (slice_index_or m.globals k 0) (omega arith) (few n h)

  literal_added : (s : Store) (k n : ℕ) → IsLowStore s → n ≤ size_limit → IsLowStore (ops.add_literal s k n)
  unfolding operations
  literal_added s k n low h =
      let base = literals_at k in
      add_low (Placed (addresses_of m)) s.memory low n (slice_index_or m.literals k 0) (omega arith) (few n h)

  globals_added : (gs : List GlobalDef) (s : Store) (k : ℕ) →
      ((j : ℕ) (g : GlobalDef) → slice_get gs j ≡ Some g → IsSized p g) → IsLowStore s →
      IsLowStore (add_globals ops s k (map (global_tree p) gs))
  globals_added [] s k h low = low
  globals_added (g ∷ gs) s k h low =
      globals_added gs (ops.add_global s k (global_tree p g).length) (suc k) (λ j. h (suc j))
      (global_added s k (global_tree p g).length low (h 0 g refl))

  abbrev bytes_of : Literal → List ℕ
  bytes_of l = l.bytes

  literals_added : (ls : List Literal) (s : Store) (k : ℕ) →
      ((j : ℕ) (l : Literal) → slice_get ls j ≡ Some l → length l.bytes ≤ size_limit) → IsLowStore s →
      IsLowStore (add_literals ops s k (map bytes_of ls))
  literals_added [] s k h low = low
  literals_added (l ∷ ls) s k h low =
      literals_added ls (ops.add_literal s k (length l.bytes)) (suc k) (λ j. h (suc j))
      (literal_added s k (length l.bytes) low (h 0 l refl))

  -- ---- what stands in them

  written_low : (s : Store) (o at n : ℕ) (v : Value) → IsLowStore s → IsLow v → IsLowStore (written ops s o at n v)
  written_low s o at n v low h =
      let to = further (ops.whole s o data_permissions) at in
      kept ops s (ops.store s to n v) low (keep.store s to v n low h)

  bytes_low : (bs : List ℕ) (s : Store) (o at : ℕ) → IsLowStore s → IsLowStore (with_bytes ops s o at bs)
  bytes_low [] s o at low = low
  bytes_low (b ∷ bs) s o at low =
      bytes_low bs (written ops s o at 1 (value.Int b)) o (suc at) (written_low s o at 1 (value.Int b) low tt)

  globals_filled : (gs : List Global) (s : Store) (o : ℕ) → IsLowStore s → IsLowStore (fill_globals ops s o gs)
  globals_filled [] s o low = low
  globals_filled (g ∷ gs) s o low =
      globals_filled gs (with_bytes ops s o 0 (all_bytes ops g)) (suc o) (bytes_low (all_bytes ops g) s o 0 low)

  literals_filled : (ls : List (List ℕ)) (s : Store) (o : ℕ) → IsLowStore s → IsLowStore (fill_literals ops s o ls)
  literals_filled [] s o low = low
  literals_filled (l ∷ ls) s o low = literals_filled ls (with_bytes ops s o 0 l) (suc o) (bytes_low l s o 0 low)

  link_low : (l : Link) (t : Target) → l.low + l.length ≤ size_limit → IsLow (value_at p l t)
  link_low l (target.Global k) h = (omega arith, omega arith)
  link_low l (target.Literal k) h = (omega arith, omega arith)
  link_low l (target.Fun f) h = tt

  links_low : (ls : List Link) (s : Store) (o : ℕ) →
      ((j : ℕ) (l : Link) → slice_get ls j ≡ Some l → l.low + l.length ≤ size_limit) → IsLowStore s →
      IsLowStore (with_links ops s o (map (starting p) ls))
  links_low [] s o h low = low
  links_low (l ∷ ls) s o h low =
      links_low ls (written ops s o l.at 16 (value_at p l l.target)) o (λ j. h (suc j))
      (written_low s o l.at 16 (value_at p l l.target) low (link_low l l.target (h 0 l refl)))

  globals_linked : (gs : List GlobalDef) (s : Store) (o : ℕ) →
      ((k : ℕ) (g : GlobalDef) → slice_get gs k ≡ Some g → (j : ℕ) (l : Link) → slice_get g.links j ≡ Some l →
      l.low + l.length ≤ size_limit) → IsLowStore s →
      IsLowStore (link_globals ops s o (map (global_tree p) gs))
  globals_linked [] s o h low = low
  globals_linked (g ∷ gs) s o h low =
      globals_linked gs (with_links ops s o (map (starting p) g.links)) (suc o) (λ k. h (suc k))
      (links_low g.links s o (h 0 g refl) low)

  -- ---- the start of a program

  nothing_low : IsLowStore ops.empty
  unfolding operations
  nothing_low = record {
    bases = λ k. omega arith;
    owned = λ k s e. absurd (none-some s e);
    values = λ k g c v e f. absurd (none-some c e);
  }

  started : IsLowStore (start ops (program_tree p))
  unfolding start program_tree
  started =
      globals_linked p.globals _ 0 links
      (literals_filled (map bytes_of p.literals) _ _
      (globals_filled (map (global_tree p) p.globals) _ 0
      (literals_added p.literals _ 0 startable.literals
      (globals_added p.globals ops.empty 0 startable.sizes nothing_low))))

  top_low : m.stack.0 + m.stack.1 < 2 ^ 63 → IsLowFrame ops.stack_top
  unfolding operations
  top_low h = h

  pub first_low : m.stack.0 + m.stack.1 < 2 ^ 63 → (turns : ℕ) →
      IsLowMoment (first_moment (operations (placed_plan m)) (program_tree p) turns)
  unfolding first_moment
  first_low h turns = (tt, tt, tt, (tt, started, top_low h))
