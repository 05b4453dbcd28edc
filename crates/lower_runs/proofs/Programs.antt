-- Programs run as their trees mean.
use Rattle.std.proofs.Common.{◌≡◌, ℕ, zero, suc, ◌+◌, ◌%◌, ◌<◌, ◌==◌, true, List, [], ◌∷◌, length, Option, Some}
use Rattle.std.proofs.Common.{None, refl, sym, ap, subst, ◌∙◌, arith}
use Rattle.std.specs.Prelude.{slice_get}
use Rattle.std.proofs.lemmas.Bool.Decides.{nat_tests}
use Rattle.std.proofs.lemmas.List.{length-map}
use Rattle.std.proofs.lemmas.Option.{slice_get_within}
use Rattle.ck_base.specs.World.{World, GivesBytes}
use Rattle.ck_base.specs.declared.positions.Pos.{Pos}
use Rattle.typing_laws.proofs.Sound.{well_typed}
use Rattle.c_tree.specs.Types.{Ty, Tys, Function, no_types, count}
use Rattle.c_tree.specs.Typing.{Sound}
use Rattle.c_tree.specs.WellTyped.{WellTyped}
use Rattle.c_tree.specs.declared.typed.FunDef.{FunDef}
use Rattle.c_tree.specs.declared.typed.Typed.{Typed}
use Rattle.obj_mem.specs.Needs.{Legal, needs_of, weight_in}
use Rattle.obj_mem.specs.declared.ending.Ending.TheVariants as ending
use Rattle.obj_mem.specs.declared.map.Map.{Map}
use Rattle.cheri_c_sem.specs.Calls as meaning
use Rattle.cheri_c_sem.specs.Depth.{deep}
use Rattle.cheri_c_sem.specs.Kinds.{number_of}
use Rattle.cheri_c_sem.specs.Modes.{Store, operations, placed_plan}
use Rattle.cheri_c_sem.specs.Operations.{Operations}
use Rattle.cheri_c_sem.specs.Programs.{parameter_of, function_tree, function_trees, program_tree}
use Rattle.cheri_c_sem.specs.Steps.{over, outcome_of}
use Rattle.cheri_c_sem.specs.Tree.{Parameter, Gives_zero, Fun, Program}
use Rattle.placement.proofs.Lists.{below_get}
use Rattle.tac_ir.specs.Meaning as code
use Rattle.tac_ir.specs.Meaning.{objects_of, objects_in, first_entry}
use Rattle.tac_ir.specs.declared.code.Tac.{Tac}
use Rattle.tac_ir.specs.declared.code.TacFun.{TacFun}
use Rattle.tac_ir.specs.declared.code.TacKind.{TacKind}
use Rattle.lower_runs.specs.Calling.{AreOf, entered}
use Rattle.lower_runs.specs.Expressions.{Signature, int_kind}
use Rattle.lower_runs.specs.Following.{given_back}
use Rattle.lower_runs.specs.Frames.{HasFrames}
use Rattle.lower_runs.specs.Functions.{AreTaken, IsEnd, IsFunction}
use Rattle.lower_runs.specs.Functions as taken
use Rattle.lower_runs.specs.Operating.{Code}
use Rattle.lower_runs.specs.Programs.{AreCodeOf, IsProgram, ProgramsRun}
use Rattle.lower_runs.specs.Shortened.{AreShort}
use Rattle.lower_runs.specs.States.{Scene}
use Rattle.lower_runs.proofs.Called.{calls_are_run}
use Rattle.lower_runs.proofs.Frames.{frames_legal}
use Rattle.lower_runs.proofs.Needs.{objects_needed}
use Rattle.lower_runs.proofs.Placed.{same_some, operations_placed}
use Rattle.lower_runs.proofs.Shortened.{short_code_runs}
use Rattle.lower_runs.proofs.Starts.{start_sound}

-- ---- the functions, whole

module _ (p : Typed) (signs : ℕ → Signature) where
  wholes : (n : ℕ) (ds : List FunDef) (fs : List TacFun) → AreCodeOf p signs n ds fs → List TacFun
  wholes n [] fs h = []
  wholes n (d ∷ ds) [] h = absurd h
  wholes n (d ∷ ds) (f ∷ fs) h = h.0.whole ∷ wholes (suc n) ds fs h.1

  are_short : (n : ℕ) (ds : List FunDef) (fs : List TacFun) (h : AreCodeOf p signs n ds fs) →
      AreShort fs (wholes n ds fs h)
  unfolding wholes
  are_short n [] [] h = tt
  are_short n [] (f ∷ fs) h = absurd h
  are_short n (d ∷ ds) [] h = absurd h
  are_short n (d ∷ ds) (f ∷ fs) h = (h.0.short, are_short (suc n) ds fs h.1)

  are_functions : (n : ℕ) (ds : List FunDef) (fs : List TacFun) (h : AreCodeOf p signs n ds fs) (i k : ℕ)
      (d : FunDef) → slice_get ds i ≡ Some d → k ≡ n + i → (limit : ℕ) →
      IsFunction p signs (slice_get (wholes n ds fs h) i) k (function_tree p k d) limit
  unfolding wholes
  are_functions n [] fs h i k d e at limit = absurd cc
  are_functions n (c ∷ ds) [] h i k d e at limit = absurd h
  are_functions n (c ∷ ds) (f ∷ fs) h zero k d e at limit =
      let same : n ≡ k = omega arith in
      subst (λ z. IsFunction p signs (Some h.0.whole) k (function_tree p k z) limit) (same_some c d e)
      (subst (λ z. IsFunction p signs (Some h.0.whole) z (function_tree p z c) limit) same (h.0.function limit))
  are_functions n (c ∷ ds) (f ∷ fs) h (suc i) k d e at limit =
      are_functions (suc n) ds fs h.1 i k d e (omega arith) limit

  tree_of : (n : ℕ) (ds : List FunDef) (i k : ℕ) (d : FunDef) → slice_get ds i ≡ Some d → k ≡ n + i →
      slice_get (function_trees p n ds) i ≡ Some (function_tree p k d)
  tree_of n [] i k d e at = absurd cc
  tree_of n (c ∷ ds) zero k d e at =
      let same : n ≡ k = omega arith in
      ap (λ z. Some (function_tree p z c)) same ∙ ap (λ z. Some (function_tree p k z)) (same_some c d e)
  tree_of n (c ∷ ds) (suc i) k d e at = tree_of (suc n) ds i k d e (omega arith)

-- ---- `main` takes nothing, and gives an `int`

takes_nothing : (q : Pos) (g h : Scene) (i : ℕ) (ps : List Parameter) (ks : List TacKind) (c : Code) →
    AreTaken q g i ps ks h c → length ps ≡ 0 → AreOf ks []
takes_nothing q g h i ps ks c taken.none e = tt
takes_nothing q g h i ps ks c (taken.variable more d) e = absurd (omega arith)
takes_nothing q g h i ps ks c (taken.object more le d) e = absurd (omega arith)

gives_int : (o : Option TacKind) → IsEnd o Gives_zero → o ≡ Some int_kind
gives_int None h = absurd h
gives_int (Some k) h = ap Some h

module _ (p : Typed) (sound : Sound p) (t : Tac) (is : IsProgram p t) (m : Map) (legal : Legal p m) (w : World)
    (bytes : GivesBytes w) where
  abbrev signs : ℕ → Signature
  signs = is.signs

  abbrev ops : Operations Store
  ops = operations (placed_plan m)

  abbrev tree : Program
  tree = program_tree p

  abbrev objects : ℕ → List ℕ
  objects = objects_in tree

  abbrev whole : Tac
  whole = record { funs = wholes p signs 0 p.funs t.funs is.functions }

  typed : WellTyped p
  typed = well_typed p sound

  frames : HasFrames ops objects
  frames =
      let s = sound.types.types in
      frames_legal (needs_of (weight_in p) p) m objects legal
      (objects_needed p s.program s.ordered s.shows typed (weight_in p))

  function : (limit n : ℕ) (d : FunDef) → slice_get p.funs n ≡ Some d →
      IsFunction p signs (slice_get whole.funs n) n (function_tree p n d) limit
  function limit n d e = are_functions p signs 0 p.funs t.funs is.functions n n d e (omega arith) limit

  each : (limit n : ℕ) → n < length p.funs → (f : Fun) × (slice_get tree.funs n ≡ Some f) × (f.objects ≡ objects n) ×
      IsFunction p signs (slice_get whole.funs n) n f limit
  unfolding program_tree
  each limit n lt =
      let d = below_get p.funs n lt in
      let e = tree_of p signs 0 p.funs n n d.0 d.1 (omega arith) in
      (function_tree p n d.0, e, sym (ap objects_of e), function limit n d.0 d.1)

  main_params : length typed.main.main.params ≡ 0
  main_params =
      let fits = typed.funs p.main typed.main.main typed.main.there in
      let e : no_types ≡ fits.takes = same_takes (sym typed.main.type_is ∙ fits.type_is) in
      fits.params_count ∙ ap count (sym e)
    where
      same_takes : {r s : Ty} {ts us : Tys} → Function r ts ≡ Function s us → ts ≡ us
      same_takes e = cc

  takes : AreOf (signs p.main).takes []
  takes =
      let f = function 0 p.main typed.main.main typed.main.there in
      takes_nothing _ _ _ _ _ _ _ f.taken
      (length-map typed.main.main.params (parameter_of p typed.main.main.vars) ∙ main_params)

  gives : (signs p.main).gives ≡ Some int_kind
  gives =
      let f = function 0 p.main typed.main.main typed.main.there in
      let e : (p.main == p.main) ≡ true = grind (arith, nat_tests) in
      gives_int (signs p.main).gives (rw e at f.ends)

  main_there : p.main < length p.funs
  main_there = slice_get_within p.funs p.main typed.main.main typed.main.there

  fates_same : (turns : ℕ) → meaning.fate ops tree w turns ≡ code.fate ops w whole p objects tree turns
  unfolding meaning.fate code.fate program_tree
  fates_same turns =
      (calls_are_run ops (operations_placed (needs_of (weight_in p) p) m legal) w bytes whole p objects frames signs
      tree.funs each (suc turns)).runs p.main [] (meaning.first_state ops tree turns) []
      (λ v. over (ending.Exit (number_of v % 256))) main_there (omega arith) (start_sound p typed m legal)
      (omega arith) takes
      (λ v u given back. ap (λ z. over (ending.Exit (number_of (given_back z v) % 256)) u) (sym gives))
      ∙ by (ops.enter p.main ops.stack_top)
    where
      by : (o : Option ℕ) →
          entered ops w whole p objects (deep ops w tree.funs) signs o p.main []
          (record { fun = p.main; callers = [] }) (meaning.first_state ops tree turns)
          ≡ first_entry ops w whole p objects turns o p.main (code.first_state ops w whole p objects tree turns)
      by None = refl
      by (Some address) = refl

pub programs_run : ProgramsRun
programs_run p sound t is m legal w bytes turns =
    short_code_runs t (whole p sound t is m legal w bytes)
    (are_short p is.signs 0 p.funs t.funs is.functions) p m w turns
    ∙ ap (outcome_of w) (sym (fates_same p sound t is m legal w bytes turns))
