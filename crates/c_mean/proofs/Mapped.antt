-- What a legal map gives.
use Rattle.std.proofs.Common.{◌≡◌, ℕ, zero, suc, ◌^◌, ◌≤◌, List, [], ◌∷◌, subst, arith}
use Rattle.std.specs.Borrow.{Bor}
use Rattle.std.specs.Prelude.{slice_index_or}
use Rattle.c_tree.specs.Typing.{Sound}
use Rattle.c_tree.specs.declared.typed.Typed.{Typed}
use Rattle.typing_laws.proofs.Sound.{well_typed}
use Rattle.obj_mem.specs.declared.map.Map.{Map}
use Rattle.obj_mem.specs.declared.map.Mode as known
use Rattle.obj_mem.specs.declared.map.Mode.TheVariants as mode
use Rattle.obj_mem.specs.Legal.{ObjectNeed}
use Rattle.obj_mem.specs.Needs.{Legal, needs_of, weight_in}
use Rattle.obj_mem.specs.Standing.{HaveBounds}
use Rattle.obj_mem.proofs.Spread.{objects_are_exact_law}
use Rattle.placement.proofs.TypedFits.{frames_fit}
use Rattle.mean_bases.specs.Laws.{HasFrames}
use Rattle.mean_run.specs.Views.{funs_of}
use Rattle.c_mean.specs.HeldMemory.{IsRoomy, IsRoomyIn}
use Rattle.c_mean.specs.Modes.{IsLegalIn}
use Rattle.c_mean.proofs.Slots.{places_begin}

base_small : (ns : List ObjectNeed) (bs : List ℕ) → HaveBounds ns bs → (k : ℕ) → slice_index_or bs k 0 ≤ 2 ^ 40
base_small [] [] x k = omega arith
base_small [] (b ∷ bs) x k = absurd x
base_small (n ∷ ns) [] x k = absurd x
base_small (n ∷ ns) (b ∷ bs) x zero = let to = x.0.based.to in omega arith
base_small (n ∷ ns) (b ∷ bs) x (suc k) = base_small ns bs x.1 k

module _ (p : Typed) (m : Map) (legal : Legal p m) where
  pub global_small : (k : ℕ) → slice_index_or m.globals k 0 ≤ 2 ^ 40
  global_small k =
      base_small (needs_of (weight_in p) p).globals m.globals (objects_are_exact_law (weight_in p) p m legal).0 k

  pub literal_small : (k : ℕ) → slice_index_or m.literals k 0 ≤ 2 ^ 40
  literal_small k =
      base_small (needs_of (weight_in p) p).literals m.literals (objects_are_exact_law (weight_in p) p m legal).1 k

  roomy : IsRoomy m
  roomy =
      let range = legal.in_range in
      let heap = range.2.2.1 in
      let stack = range.2.2.2.1 in
      (omega arith, omega arith, places_begin (needs_of (weight_in p) p).functions m.frames legal.frames)

  pub has_frames : Sound p → HasFrames (funs_of p) m
  has_frames sound =
      let t = sound.types.types in
      let range = legal.in_range in
      let text = range.1 in
      let heap = range.2.2.1 in
      let fit = frames_fit p t.program t.ordered t.shows (well_typed p sound) (weight_in p) m legal in
      record {
        text = omega arith;
        heap = omega arith;
        locals = λ f k l g r e q there. ((fit f g r e q).locals k l there).within;
      }

pub roomy_in : (p : Typed) (d : known.Mode) → IsLegalIn p d → IsRoomyIn d
roomy_in p (mode.Placed m) legal k e =
    let same : m ≡ k = cc in subst (λ (b : Bor Map). IsRoomy b.now) same (roomy p m.now legal)
roomy_in p mode.Strict legal k e = absurd cc
