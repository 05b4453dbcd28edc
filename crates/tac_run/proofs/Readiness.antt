-- Typing and a legal map give what a run asks of a program.
use Rattle.std.proofs.Common.{◌≡◌, ℕ, zero, suc, ◌+◌, ◌^◌, ◌<◌, ◌≤◌, List, [], ◌∷◌, length, map, Option, Some, None}
use Rattle.std.proofs.Common.{refl, ap, subst, arith}
use Rattle.std.specs.Prelude.{slice_get, slice_index_or}
use Rattle.std.proofs.lemmas.Option.{none-some}
use Rattle.cap_concentrate.specs.Rounding.{owned}
use Rattle.cap_concentrate.proofs.Owned.{owned_ge, owned_small}
use Rattle.c_tree.specs.Layout.{Extent, size_limit}
use Rattle.c_tree.specs.Terms.{Program}
use Rattle.c_tree.specs.Typing.{Sound}
use Rattle.c_tree.specs.Views.{Shows, IsOrdered}
use Rattle.c_tree.specs.WellTyped.{WellTyped, HasExtent, OwnsBytes, type_in}
use Rattle.c_tree.specs.declared.typed.FunDef.{FunDef}
use Rattle.c_tree.specs.declared.typed.GlobalDef.{GlobalDef}
use Rattle.c_tree.specs.declared.typed.Link.{Link}
use Rattle.c_tree.specs.declared.typed.Literal.{Literal}
use Rattle.c_tree.specs.declared.typed.Target.{Target}
use Rattle.c_tree.specs.declared.typed.Target.TheVariants as target
use Rattle.c_tree.specs.declared.typed.Typed.{Typed}
use Rattle.typing_laws.proofs.Sound.{well_typed}
use Rattle.obj_mem.specs.declared.map.Frame.{Frame}
use Rattle.obj_mem.specs.declared.map.Map.{Map}
use Rattle.obj_mem.specs.Legal.{ObjectNeed}
use Rattle.obj_mem.specs.Needs.{Legal, literal_need, needs_of, weight_in}
use Rattle.obj_mem.specs.Standing.{HaveBounds}
use Rattle.obj_mem.proofs.Spread.{objects_are_exact_law}
use Rattle.cheri_c_sem.specs.Modes.{local_offset}
use Rattle.cheri_c_sem.specs.Programs.{function_trees, program_tree}
use Rattle.cheri_c_sem.specs.Tree as tree
use Rattle.cheri_c_sem.specs.Types.{size_in, size_of_extent}
use Rattle.placement.proofs.Lists.{below_get}
use Rattle.placement.proofs.TypedFits.{own_is, frames_fit}
use Rattle.tac_ir.specs.Meaning.{objects_of}
use Rattle.tac_run.specs.Lists.{vars_of}
use Rattle.tac_run.specs.Ready.{AreSmall, AreShort, IsLinkBased, IsGlobalReady, IsReady, objects_by}

there : {A : Type 0} (xs : List A) (k : ℕ) (x : A) → slice_get xs k ≡ Some x → k < length xs
there [] k x e = absurd (none-some x e)
there (y ∷ xs) zero x e = omega arith
there (y ∷ xs) (suc k) x e = let l = there xs k x e in omega arith

base_small : (ns : List ObjectNeed) (bs : List ℕ) → HaveBounds ns bs → (k : ℕ) → slice_index_or bs k 0 ≤ 2 ^ 40
base_small [] [] x k = omega arith
base_small [] (b ∷ bs) x k = absurd x
base_small (n ∷ ns) [] x k = absurd x
base_small (n ∷ ns) (b ∷ bs) x zero = let to = x.0.based.to in omega arith
base_small (n ∷ ns) (b ∷ bs) x (suc k) = base_small ns bs x.1 k

literal_owned : (ls : List Literal) (bs : List ℕ) → HaveBounds (map literal_need ls) bs → (k : ℕ) (l : Literal) →
    slice_get ls k ≡ Some l → owned (length l.bytes) ≤ 2 ^ 40
literal_owned [] bs x k l e = absurd (none-some l e)
literal_owned (y ∷ ls) [] x k l e = absurd x
literal_owned (y ∷ ls) (b ∷ bs) x zero l e =
    let same : y ≡ l = cc in
    let to = x.0.based.to in
    subst (λ z. owned (length z.bytes) ≤ 2 ^ 40) same (omega (arith, to))
literal_owned (y ∷ ls) (b ∷ bs) x (suc k) l e = literal_owned ls bs x.1 k l e

module _ (p : Typed) (q : Program) (o : IsOrdered p) (s : Shows p q) (w : WellTyped p) (m : Map)
    (legal : Legal p m) where
  exact : HaveBounds (needs_of (weight_in p) p).globals m.globals ×
      HaveBounds (needs_of (weight_in p) p).literals m.literals
  exact = objects_are_exact_law (weight_in p) p m legal

  size_small : (t : ℕ) → t < length p.types → (x : Extent) → HasExtent p (type_in p t) x →
      size_in p.types t ≤ size_limit
  size_small t lt x h =
      let is : size_in p.types t ≡ x.size = ap size_of_extent (own_is p q o s w t lt x h) in
      let within = h.within in
      omega arith

  -- ---- links

  owns_small : (t : Target) (n : ℕ) → OwnsBytes p t n → n ≤ 2 ^ 40
  owns_small (target.Global g) n owns =
      let within = owns.3.within in
      let small = owned_small owns.1.size (omega (arith, within)) in
      let size = owns.4 in
      omega arith
  owns_small (target.Literal k) n owns =
      let small = literal_owned p.literals m.literals exact.1 k owns.0 owns.1 in
      let size = owns.2 in
      omega arith
  owns_small (target.Fun f) n owns = let none = owns.1 in omega arith

  link_based : (l : Link) (t : Target) (n : ℕ) → OwnsBytes p t n → l.low + l.length ≤ n → IsLinkBased p m l.low t
  link_based l (target.Global g) n owns inside =
      let base = base_small _ _ exact.0 g in
      let most = owns_small (target.Global g) n owns in
      (there p.globals g owns.0 owns.2, omega arith)
  link_based l (target.Literal k) n owns inside =
      let base = base_small _ _ exact.1 k in
      let most = owns_small (target.Literal k) n owns in
      (there p.literals k owns.0 owns.1, omega arith)
  link_based l (target.Fun f) n owns inside = tt

  global_ready : (k : ℕ) (g : GlobalDef) → slice_get p.globals k ≡ Some g → IsGlobalReady p m g
  global_ready k g e =
      let fits = w.globals k g e in
      record {
        small = size_small g.of (o.globals k g e) fits.extent fits.complete;
        bounded = λ j l r.
            let link = fits.links j l r in
            let most = owns_small l.target link.target link.owns in
            let inside = link.bounds in
            omega arith;
        based = λ j l r. let link = fits.links j l r in link_based l l.target link.target link.owns link.bounds;
      }

  -- ---- functions

  locals_small : (f : ℕ) (d : Option FunDef) → slice_get p.funs f ≡ d → AreSmall p.types (vars_of d)
  locals_small f None e k v r = absurd (none-some v r)
  locals_small f (Some d) e k v r =
      let complete = (w.funs f d e).vars_complete k v r in
      size_small v.of (o.vars f k d v e r) complete.0 complete.1

  frame_room : (f k : ℕ) (g : Frame) (x : Option tree.Fun) → slice_get (function_trees p 0 p.funs) f ≡ x →
      slice_get m.frames f ≡ Some g → k < length (objects_of x) → local_offset (Some g) k ≤ g.size
  frame_room f k g None e r l = absurd (omega arith)
  frame_room f k g (Some x) e r l =
      let at = below_get x.objects k l in
      let within = ((frames_fit p q o s w (weight_in p) m legal f x g e r).locals k at.0 at.1).within in
      omega (arith, within)

  frames_room : (f k : ℕ) (g : Frame) → slice_get m.frames f ≡ Some g → k < length (objects_by p f) →
      local_offset (Some g) k ≤ g.size
  unfolding program_tree
  frames_room f k g r l = frame_room f k g (slice_get (function_trees p 0 p.funs) f) refl r l

  literals_short : AreShort p.literals
  literals_short k l e =
      omega (arith, owned_ge (length l.bytes), literal_owned p.literals m.literals exact.1 k l e)

  ready : IsReady p m
  ready =
      let range = legal.in_range in
      let heap = range.2.2.1 in
      let stack = range.2.2.2.1 in
      record {
        roomy = record { heap = omega arith; stack = omega arith; frames = frames_room };
        locals = λ f. locals_small f (slice_get p.funs f) refl;
        globals = global_ready;
        literals = literals_short;
        global_bases = λ k. let base = base_small _ _ exact.0 k in omega arith;
        literal_bases = λ k. let base = base_small _ _ exact.1 k in omega arith;
      }

pub sound_is_ready : (p : Typed) (m : Map) → Sound p → Legal p m → IsReady p m
sound_is_ready p m sound legal =
    let t = sound.types.types in
    ready p t.program t.ordered t.shows (well_typed p sound) m legal
