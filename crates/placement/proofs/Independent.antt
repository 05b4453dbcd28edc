-- Placement independence.
use Rattle.std.proofs.Common.{◌≡◌, ℕ, zero, suc, ◌+◌, ◌^◌, ◌<◌, ◌≤◌, true, List, [], ◌∷◌, ◌++◌, length, map, Some, refl}
use Rattle.std.proofs.Common.{sym, ap, ◌∙◌, subst, inl, inr, arith}
use Rattle.std.specs.Prelude.{slice_get}
use Rattle.std.specs.List.{AllByRecursion}
use Rattle.cap_concentrate.specs.Rounding.{owned}
use Rattle.cap_concentrate.proofs.Owned.{owned_small}
use Rattle.ck_base.specs.World.{World, Outcome}
use Rattle.cap_ops.specs.Permissions.{const_permissions}
use Rattle.c_tree.specs.declared.typed.FunDef.{FunDef}
use Rattle.c_tree.specs.declared.typed.GlobalDef.{GlobalDef}
use Rattle.c_tree.specs.declared.typed.Link.{Link}
use Rattle.c_tree.specs.declared.typed.Literal.{Literal}
use Rattle.c_tree.specs.declared.typed.Target.{Target}
use Rattle.c_tree.specs.declared.typed.Target.TheVariants as target
use Rattle.c_tree.specs.declared.typed.Typed.{Typed}
use Rattle.c_tree.specs.Statics.{is_exact, is_near}
use Rattle.c_tree.specs.Terms as terms
use Rattle.c_tree.specs.Views.{Shows, IsOrdered}
use Rattle.c_tree.specs.WellTyped.{WellTyped, OwnsBytes, outside}
use Rattle.c_tree.specs.Types.{bare}
use Rattle.typing_laws.proofs.Sound.{well_typed}
use Rattle.obj_mem.specs.declared.map.Map.{Map}
use Rattle.obj_mem.specs.declared.ending.Ending.{Ending}
use Rattle.obj_mem.specs.declared.ending.Ending.TheVariants as ending
use Rattle.obj_mem.specs.Legal.{IsLegal}
use Rattle.obj_mem.specs.Needs.{literal_need, needs_of, weight_in}
use Rattle.obj_mem.specs.Standing.{IsFitted, HaveBounds}
use Rattle.obj_mem.proofs.Spread.{objects_are_exact_law}
use Rattle.cheri_c_sem.specs.Types.{size_of_extent, size_in}
use Rattle.cheri_c_sem.specs.Programs.{function_tree, function_trees, value_at, global_tree, program_tree}
use Rattle.cheri_c_sem.specs.Tree as tree
use Rattle.cheri_c_sem.specs.Tree.{Starting, Global, Program}
use Rattle.cheri_c_sem.specs.Runs.{placed, strict, placed_run, strict_run}
use Rattle.placement.specs.Endings.{IsOpen, IsDefined, IsAsMeant, Follows}
use Rattle.placement.specs.Independence.{PlacementIndependence}
use Rattle.placement.specs.Relations.{IsWord}
use Rattle.placement.specs.Trees.{FunctionFit, FunctionsFit}
use Rattle.placement.proofs.Lists.{map_get, map_from, map_length, front_get, back_get}
use Rattle.placement.proofs.Objects.{length_of}
use Rattle.placement.proofs.Started.{PointerFits, GlobalFit, follows}
use Rattle.placement.proofs.Initial.{exact_fitted, near_kept, kept_word}
use Rattle.placement.proofs.FitExpressions.{permitted}
use Rattle.placement.proofs.FitStatements.{parameters_fit, statement_fit}
use Rattle.placement.proofs.TypedFits.{own_is, globals_same_lengths, literals_lengths, functions_count, frames_fit}

-- ---- lists

trees_count : (p : Typed) (fs : List FunDef) (j : ℕ) → length (function_trees p j fs) ≡ length fs
trees_count p [] j = refl
trees_count p (f ∷ fs) j = ap suc (trees_count p fs (suc j))

-- the definition of function i of the tree
record Behind (p : Typed) (fs : List FunDef) (i : ℕ) (f : tree.Fun) : Type 0 where
  number : ℕ
  def : FunDef
  there : slice_get fs i ≡ Some def
  is : function_tree p number def ≡ f

behind : (p : Typed) (fs : List FunDef) (j i : ℕ) (f : tree.Fun) → slice_get (function_trees p j fs) i ≡ Some f
    → Behind p fs i f
behind p [] j i f e = absurd cc
behind p (d ∷ fs) j zero f e = record { number = j; def = d; there = refl; is = cc }
behind p (d ∷ fs) j (suc i) f e = let b = behind p fs (suc j) i f e in
    record { number = b.number; def = b.def; there = b.there; is = b.is }

-- a literal is no longer than the map has room for it
literal_small : (ls : List Literal) (bs : List ℕ) → HaveBounds (map literal_need ls) bs → (k : ℕ) (l : Literal)
    → slice_get ls k ≡ Some l → owned (length l.bytes) ≤ 2 ^ 40
literal_small [] bs x k l e = absurd cc
literal_small (y ∷ ls) [] x k l e = absurd x
literal_small (y ∷ ls) (b ∷ bs) x zero l e = let q : y ≡ l = cc in let t = x.0.based.to in subst
    (λ z. owned (length z.bytes) ≤ 2 ^ 40) q (omega (arith, t))
literal_small (y ∷ ls) (b ∷ bs) x (suc k) l e = literal_small ls bs x.1 k l e

module _ (p : Typed) (q : terms.Program) (o : IsOrdered p) (s : Shows p q) (w : WellTyped p) (m : Map)
    (legal : IsLegal (needs_of (weight_in p) p) m) where
  exact : HaveBounds (needs_of (weight_in p) p).globals m.globals × HaveBounds (needs_of (weight_in p) p).literals
      m.literals
  exact = objects_are_exact_law (weight_in p) p m legal

  abbrev lengths : List ℕ
  lengths = map length_of (map (global_tree p) p.globals) ++ map length (map (λ (l : Literal). l.bytes) p.literals)

  -- ---- initial pointers

  global_length : (g : ℕ) (d : GlobalDef) → slice_get p.globals g ≡ Some d
      → slice_get lengths g ≡ Some (size_in p.types d.of)
  global_length g d e = front_get _ _ g (size_in p.types d.of)
      (map_get length_of (map (global_tree p) p.globals) g (global_tree p d) (map_get (global_tree p) p.globals g d e))

  literal_length : (k : ℕ) (l : Literal) → slice_get p.literals k ≡ Some l
      → slice_get lengths (length p.globals + k) ≡ Some (length l.bytes)
  literal_length k l e =
      let c : length (map length_of (map (global_tree p) p.globals)) ≡ length p.globals = map_length length_of
      (map (global_tree p) p.globals) ∙ map_length (global_tree p) p.globals in
      subst (λ n. slice_get lengths (n + k) ≡ Some (length l.bytes)) c
      (back_get (map length_of (map (global_tree p) p.globals))
      (map length (map (λ (l : Literal). l.bytes) p.literals)) k
      ∙ map_get length (map (λ (l : Literal). l.bytes) p.literals) k l.bytes
      (map_get (λ (l : Literal). l.bytes) p.literals k l e))

  pointer_fits : (k : Link) (t : Target) (n : ℕ) → OwnsBytes p t n → k.low + k.length ≤ n
      → is_exact k.low k.length ≡ true → is_near k.low k.length k.offset ≡ true
      → PointerFits lengths (length p.funs) (value_at p k t)
  pointer_fits k (target.Global g) n owns inside ex near =
      let x = owns.1 in
      let is : size_in p.types owns.0.of ≡ x.size =
      ap size_of_extent (own_is p q o s w owns.0.of (o.globals g owns.0 owns.2) x owns.3) in
      let own : n ≡ owned (size_in p.types owns.0.of) = owns.4 ∙ ap owned (sym is) in
      let within = owns.3.within in
      let small : owned x.size ≤ 2 ^ 26 = owned_small x.size (omega (arith, within)) in
      let size = owns.4 in (
        size_in p.types owns.0.of,
        global_length g owns.0 owns.2,
        subst (λ v. IsFitted v k.low (k.low + k.length)) own
            (exact_fitted n k.low k.length inside (omega (arith, inside, size, small)) ex),
        near_kept k.low k.length k.offset (omega (arith, inside, size, small)) near,
        kept_word k.offset,
        permitted p [] (slice_get p.globals g),
      )
  pointer_fits k (target.Literal l) n owns inside ex near =
      let small = literal_small p.literals m.literals exact.1 l owns.0 owns.1 in
      let size = owns.2 in (
        length owns.0.bytes,
        literal_length l owns.0 owns.1,
        subst (λ v. IsFitted v k.low (k.low + k.length)) size
            (exact_fitted n k.low k.length inside (omega (arith, inside, size, small)) ex),
        near_kept k.low k.length k.offset (omega (arith, inside, size, small)) near,
        kept_word k.offset,
        let z : const_permissions < 4096 = omega arith in z,
      )
  pointer_fits k (target.Fun f) n owns inside ex near = owns.0

  global_fits : (i : ℕ) (g : Global) → slice_get (map (global_tree p) p.globals) i ≡ Some g
      → GlobalFit lengths (length p.funs) g
  global_fits i g e =
      let b = map_from (global_tree p) p.globals i g e in
      let f = w.globals i b.0 b.1 in
      let size : size_in p.types b.0.of ≡ f.extent.size = ap size_of_extent f.own in
      let bytes = f.bytes in
      subst (GlobalFit lengths (length p.funs)) b.2 (record {
        bytes = omega (arith, size, bytes);
        links = λ j l r.
            let k = map_from (λ (k : Link). record { at = k.at; value = value_at p k k.target }) b.0.links j l r in
            let h = f.links j k.0 k.1 in
            let inside = h.inside in
            subst (λ (z : Starting). (z.at + 16 ≤ size_in p.types b.0.of) × PointerFits lengths (length p.funs)
            z.value) k.2
            (omega (arith, inside, size), pointer_fits k.0 k.0.target h.target h.owns h.bounds h.exact h.near);
      })

  -- ---- functions

  function_fit : (i : ℕ) (f : tree.Fun) → slice_get (function_trees p 0 p.funs) i ≡ Some f
      → FunctionFit (length p.globals + length p.literals) (length p.funs) f
  function_fit i f e =
      let b = behind p p.funs 0 i f e in
      let d = b.def in
      let h = w.funs i d b.there in
      subst (FunctionFit (length p.globals + length p.literals) (length p.funs)) b.is
      (record {
        params = parameters_fit p d.vars d.params;
        body = statement_fit p d.vars o (bare h.result) d.body
            (o.funs i d b.there).1 outside h.body;
      })

  abbrev pr : Program
  pr = program_tree p

  counted : length (function_trees p 0 p.funs) ≡ length p.funs
  counted = trees_count p p.funs 0

  functions_fit : FunctionsFit (length p.globals + length p.literals) (function_trees p 0 p.funs)
  functions_fit i f e = subst (λ n. FunctionFit (length p.globals + length p.literals) n f) (sym counted)
      (function_fit i f e)

  same_globals : length (map (global_tree p) p.globals) ≡ length p.globals
  same_globals = map_length (global_tree p) p.globals

  same_literals : length (map (λ (l : Literal). l.bytes) p.literals) ≡ length p.literals
  same_literals = map_length (λ (l : Literal). l.bytes) p.literals

  pub runs_follow : (world : World) → AllByRecursion IsWord world.bytes → (turns : ℕ)
      → Follows (strict_run (program_tree p) world turns) (placed_run (program_tree p) m world turns)
  unfolding program_tree
  runs_follow world bytes turns =
      follows pr (needs_of (weight_in p) p) m legal exact.0 exact.1 (globals_same_lengths p q o s w)
      (literals_lengths p.literals) (functions_count p (weight_in p) p.funs 0 0)
      (λ i g e. subst (λ n. GlobalFit lengths n g) (sym counted) (global_fits i g e))
      (frames_fit p q o s w (weight_in p) m legal)
      (subst (λ n. FunctionsFit (n + length (map (λ (l : Literal). l.bytes) p.literals)) (function_trees p 0 p.funs))
      (sym same_globals)
      (subst (λ n. FunctionsFit (length p.globals + n) (function_trees p 0 p.funs)) (sym same_literals) functions_fit))
      world bytes turns

-- ---- the law

all_words : (bs : List ℕ) → ((k b : ℕ) → slice_get bs k ≡ Some b → b < 256) → AllByRecursion IsWord bs
all_words [] h = tt
all_words (b ∷ bs) h = let x = h 0 b refl in (omega (arith, x), all_words bs (λ k. h (suc k)))

not_open : (e : Ending) → IsOpen e → IsDefined e → ⊥
not_open (ending.Unspecified r pos) h d = d
not_open (ending.Outside pos) h d = d
not_open (ending.Exit n) h d = h
not_open (ending.Trap c pos) h d = h
not_open (ending.Stack pos) h d = h
not_open ending.ReadFault h d = h
not_open ending.WriteFault h d = h
not_open ending.Turns h d = h

as_meant : (o p : Outcome Ending) → Follows o p → IsDefined o.ending → IsAsMeant o p
as_meant o p (inl h) d = absurd (not_open o.ending h d)
as_meant o p (inr h) d = h

pub placement_independence_law : PlacementIndependence
placement_independence_law p sound m legal w bytes turns defined =
    let t = sound.types.types in
    as_meant (strict p w turns) (placed p m w turns)
    (runs_follow p t.program t.ordered t.shows (well_typed p sound) m legal w (all_words w.bytes bytes) turns)
    defined
