-- The bases of the pointers that a run has.
use Rattle.std.proofs.Common.{ℕ, ◌+◌, ◌^◌, ◌<◌, List, [], ◌∷◌, arith}
use Rattle.cap_concentrate.specs.Decoding.{base_of}
use Rattle.obj_mem.specs.declared.map.Map.{Map}
use Rattle.obj_mem.specs.Pointers.{raw_base}
use Rattle.obj_mem.specs.Values.{Value, Int, Live, Fun, Raw}
use Rattle.cheri_c_sem.specs.Kinds.{nothing}
use Rattle.cheri_c_sem.specs.Modes.{Store, operations, placed_plan, strict_plan}
use Rattle.cheri_c_sem.specs.Tree as tree
use Rattle.mean_bases.specs.Bases.{HasBase, HaveBases}
use Rattle.mean_bases.specs.Laws.{HasFrames, PlacedRunsHaveBases, StrictRunsHaveBases}
use Rattle.mean_bases.specs.Moments.{IsLow, IsLowStore, Each}
use Rattle.mean_bases.proofs.Keeps.{keeps}
use Rattle.mean_bases.proofs.Stays.{reached}

raw_word : (address upper : ℕ) → raw_base address upper < 2 ^ 64
unfolding base_of
raw_word address upper = omega arith

module _ (funs : List tree.Fun) (m : Map) (frames : HasFrames funs m) (s : Store) (low : IsLowStore s) where
  has_base : (v : Value) → IsLow v → HasBase (operations (placed_plan m)) s v
  unfolding operations
  has_base (Live o bottom top at p) h = let base = low.bases o in let small = h.0 in omega arith
  has_base (Int n) h = omega arith
  has_base (Fun f) h = frames.text
  has_base (Raw y z) h = raw_word y z

  have_bases : (vs : List Value) → Each IsLow vs → HaveBases (operations (placed_plan m)) s vs
  have_bases [] h = has_base nothing tt
  have_bases (v ∷ vs) h = (has_base v h.0, have_bases vs h.1)

pub placed_runs_law : PlacedRunsHaveBases
placed_runs_law m funs from to frames first r =
    let low = reached (operations (placed_plan m)) funs _ _ _ (keeps funs m frames) from to first r in
    have_bases funs m frames to.now.mem low.3.1 to.values low.0

not_told : (s : Store) (v : Value) → HasBase (operations strict_plan) s v
unfolding operations
not_told s (Live o bottom top at p) = tt
not_told s (Int n) = omega arith
not_told s (Fun f) = tt
not_told s (Raw y z) = raw_word y z

none_told : (s : Store) (vs : List Value) → HaveBases (operations strict_plan) s vs
none_told s [] = not_told s nothing
none_told s (v ∷ vs) = (not_told s v, none_told s vs)

pub strict_runs_law : StrictRunsHaveBases
strict_runs_law t = none_told t.now.mem t.values
