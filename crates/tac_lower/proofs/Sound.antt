-- A sound program is what the lowering asks.
use Rattle.std.proofs.Common.{◌+◌, arith, map, ◌≡◌, ℕ, suc, ◌<◌, ◌≤◌, true, false, List, [], ◌∷◌, length, Some}
use Rattle.std.proofs.Common.{refl, sym, ap, subst, ◌∙◌, inl, inr, ⊎_elim}
use Rattle.std.specs.Prelude.{slice_get, sum_by}
use Rattle.std.proofs.lemmas.Bool.{false≢true}
use Rattle.std.proofs.lemmas.Option.{same_Some, slice_get_within}
use Rattle.ck_int.specs.declared.kinds.IntKind.TheVariants as int
use Rattle.c_tree.specs.Types.{Tys, no_types, also, count, adjusted, in_signature, Ty, is_scalar}
use Rattle.c_tree.specs.Types as ty
use Rattle.c_tree.specs.Typing.{Sound}
use Rattle.c_tree.specs.Counts.{copies}
use Rattle.c_tree.specs.Views.{IsOrdered}
use Rattle.c_tree.specs.WellTyped.{ParametersFit, outside, type_in, WellTyped}
use Rattle.c_tree.specs.declared.typed.ExprKind.{ExprKind}
use Rattle.c_tree.specs.declared.typed.ExprKind.TheVariants as exprs
use Rattle.c_tree.specs.declared.typed.FunDef.{FunDef}
use Rattle.c_tree.specs.declared.typed.Typed.{Typed}
use Rattle.c_tree.specs.declared.typed.VarDef.{VarDef}
use Rattle.typing_laws.proofs.Sound.{well_typed}
use Rattle.typing_laws.proofs.values.Whole.{parameters_fit}
use Rattle.cheri_c_sem.specs.Expressions.{expr_tree}
use Rattle.cheri_c_sem.specs.Order.{Ordered}
use Rattle.cheri_c_sem.specs.Programs.{stmt_tree}
use Rattle.tac_ir.specs.WellFormed.{type_of_param, is_well_formed}
use Rattle.tac_ir.specs.Within.{Within, WithinCosts, function_copies}
use Rattle.tac_ir.specs.declared.code.Tac.{Tac}
use Rattle.tac_ir.specs.declared.code.TacFun.{TacFun}
use Rattle.tac_ir.specs.declared.code.TacKind.{TacKind}
use Rattle.tac_ir.specs.declared.code.TacKind.TheVariants as kinds
use Rattle.placement.proofs.Ordering.{ordered_of}
use Rattle.lower_runs.specs.Expressions.{Signature, position_in}
use Rattle.lower_runs.specs.Programs.{IsProgram}
use Rattle.lower_runs.specs.States.{Scene}
use Rattle.lower_runs.specs.Trees as runs
use Rattle.lower_runs.proofs.Fitting.{sound_calls_fit}
use Rattle.lower_runs.proofs.Programs.{programs_run}
use Rattle.lower_writes.proofs.Functions.{named_code_writes}
use Rattle.lower_writes.proofs.Scopes.{bodies_name}
use Rattle.value_trees.specs.Nodes as laws
use Rattle.value_trees.specs.Standing.{HaveSpots}
use Rattle.value_trees.proofs.Fitting.{nodes_fit}
use Rattle.value_trees.proofs.Limits.{are_small}
use Rattle.value_trees.proofs.Places.{are_placed}
use Rattle.value_trees.proofs.Records.{types_agree}
use Rattle.value_trees.proofs.Blocks.{among_at}
use Rattle.value_trees.proofs.Statements.{bodies_do}
use Rattle.tac_lower.specs.Functions.{AreTypedFunctions}
use Rattle.tac_lower.specs.Nodes.{or_int, kept_as}
use Rattle.tac_lower.specs.Programs.{gives_in, HasParameters, Stands, Standing}
use Rattle.tac_lower.specs.Runs.{RunsAs}
use Rattle.tac_lower.specs.Signed.{kept_parameter}
use Rattle.tac_lower.specs.Stating.{Routine, Does}
use Rattle.tac_lower.specs.Zeroed.{ZeroesOnce}
use Rattle.tac_lower.specs.Trees.{HasScalar, IsNode, Takes, taken, handed_on, pos_in, pos_of, signature_by}
use Rattle.tac_lower.specs.Trees.{signature_of, signatures, kinds_taken}
use Rattle.tac_lower.proofs.Nodes.{agree_kept}

-- ---- nodes

node_as : (p : Typed) (k : ℕ) (kd : ExprKind) → IsNode p k kd → laws.IsExpr p k kd
node_as p k kd n = record { node = n.node; there = n.there; is = n.is }

scalar_kept : (t : Ty) → is_scalar t ≡ true → (j : TacKind) × (kept_as t ≡ Some j)
scalar_kept (ty.Int k n) e = (kinds.Int k, refl)
scalar_kept (ty.Cap s) e = (kinds.Cap s, refl)
scalar_kept (ty.Pointer t) e = (kinds.Cap false, refl)
scalar_kept t e = absurd (false≢true e)

scalar_as : (p : Typed) (k : ℕ) → laws.HasScalar p k → HasScalar p k
scalar_as p k h = let j = scalar_kept _ h in record { kind = j.0; is = record { is = j.1 } }

taken_as : (kd : ExprKind) (a : ℕ) → taken kd ≡ Some a → laws.taken kd ≡ Some a
taken_as (exprs.Load b) a e = e
taken_as (exprs.Assign b c) a e = e
taken_as (exprs.Compound op b c t) a e = e
taken_as (exprs.Step b adds front) a e = e
taken_as kd a e = absurd cc

handed_as : (kd : ExprKind) (j a : ℕ) → slice_get (handed_on kd) j ≡ Some a → slice_get (laws.handed_on kd) j ≡ Some a
handed_as (exprs.Member b m) j a e = e
handed_as (exprs.Comma b c) j a e = e
handed_as (exprs.Conditional c b d) j a e = e
handed_as kd j a e = absurd cc

-- ---- functions

next : (i k : ℕ) → i + suc k ≡ i + 1 + k
next i k = omega arith

none_before : (k : ℕ) → 0 + k ≡ k
none_before k = omega arith

bare_kept : (t : Ty) → kept_as (ty.bare t) ≡ kept_as t
bare_kept (ty.Const t) = refl
bare_kept t = refl

signature_kept : (t : Ty) → adjusted t ≡ t → kept_as (in_signature t) ≡ kept_as t
signature_kept t e = ap (λ u. kept_as (ty.bare u)) e ∙ bare_kept t

module _ (p : Typed) (h : Sound p) where
  abbrev w : WellTyped p
  w = well_typed p h

  module _ (n : ℕ) (d : FunDef) (there : slice_get p.funs n ≡ Some d) where
    parameters : (g : Scene) → HasParameters d g → HaveSpots d.vars g d.params
    parameters g s x i e =
        let z = among_at d.params x i in
        let l = slice_get_within d.params z.0 x z.1 in
        let q : z.0 ≡ x = same_Some z.0 x (sym ((w.funs n d there).params_first z.0 l) ∙ z.1) in
        s x (subst (λ m. m < length d.params) q l) e

    does : (r : Routine) → r.setting.vars ≡ d.vars → r.params ≡ length d.params → (g : Scene) → HasParameters d g →
        Does r outside g (stmt_tree p d.vars d.body)
    does r e f g s =
        subst (λ m. runs.Does r.setting.vars m outside g (stmt_tree p d.vars d.body)) (sym f)
        (subst (λ vs. runs.Does vs (length d.params) outside g (stmt_tree p d.vars d.body)) (sym e)
        (bodies_do p h n d there g (parameters g s)))

    placed : (k a : ℕ) → Takes p k a → position_in (expr_tree p d.vars a) ≡ Some (pos_in p a)
    placed k a t =
        let z = are_placed p h d.vars k a t.names.node t.names.there
        (ap laws.taken t.names.is ∙ taken_as t.of a t.place) in z.is ∙ sym (ap (λ m. Some (pos_of m)) z.there)

    main : n ≡ p.main → gives_in p d ≡ Some (kinds.Int int.I32)
    main e =
        let m = w.main in
        let s = same_Some d m.main (sym there ∙ ap (slice_get p.funs) e ∙ m.there) in
        ap (λ (d : FunDef). gives_in p d) s ∙ ap (λ t. let z : Signature = signature_by t in z.gives) m.type_is

    -- parameters are kept as the function's type says
    kept_all : (ps : Tys) (vs : List VarDef) (xs : List ℕ) (i : ℕ) → ParametersFit p ps vs → length xs ≡ count ps →
        ((k : ℕ) → k < length xs → slice_get xs k ≡ Some (i + k)) →
        ((k : ℕ) → slice_get d.vars (i + k) ≡ slice_get vs k) →
        ((k : ℕ) (v : VarDef) → k < length xs → slice_get vs k ≡ Some v → adjusted (type_in p v.of) ≡ type_in p v.of) →
        kinds_taken ps ≡ map (kept_parameter p d) xs
    kept_all no_types vs [] i f e at is plain = refl
    kept_all no_types vs (x ∷ xs) i f e at is plain = absurd (omega (arith, e))
    kept_all (also t ts) [] xs i f e at is plain = absurd f
    kept_all (also t ts) (v ∷ vs) [] i f e at is plain = absurd (omega (arith, e))
    kept_all (also t ts) (v ∷ vs) (x ∷ xs) i f e at is plain =
        let a : x ≡ i + 0 = same_Some x (i + 0) (at 0 (omega arith)) in
        let b : slice_get d.vars x ≡ Some v = ap (slice_get d.vars) a ∙ is 0 in
        let c = agree_kept _ t (in_signature (type_in p v.of)) f.0
        ∙ signature_kept (type_in p v.of) (plain 0 v (omega arith) refl)
        ∙ ap (λ o. kept_as (type_in p (type_of_param o))) (sym b) in
        let r = kept_all ts vs xs (i + 1) f.1 (omega (arith, e))
        (λ k l. at (suc k) (omega (arith, l)) ∙ ap Some (next i k))
        (λ k. ap (slice_get d.vars) (sym (next i k)) ∙ is (suc k)) (λ k w l g. plain (suc k) w (omega (arith, l)) g) in
        ap (λ z. or_int z ∷ kinds_taken ts) c ∙ ap (λ z. kept_parameter p d x ∷ z) r

    takes : (let g : Signature = signatures p n in g.takes) ≡ map (kept_parameter p d) d.params
    takes =
        let f = w.funs n d there in
        ap (λ o. let g : Signature = signature_of p o in g.takes) there
        ∙ ap (λ t. let g : Signature = signature_by t in g.takes) f.type_is
        ∙ kept_all f.takes d.vars d.params 0 f.params_fit f.params_count
        (λ k l. f.params_first k l ∙ ap Some (sym (none_before k))) (λ k. ap (slice_get d.vars) (none_before k))
        (λ k v l e. parameters_fit p h n d there k v l e)

    function_stands : Stands p n d
    function_stands = record {
      small = λ t k i. (are_small p h).nodes d.vars t k i.fits;
      placed = placed;
      located = λ t k x i r m. (nodes_fit p h).located n d there k x
          (record { gives = t; fits = i.fits; names = node_as p k (exprs.Var x) m }) r;
      handed = λ t k a j x of i m e y. (nodes_fit p h).handed n d there k a j x of
          (record { gives = t; fits = i.fits; names = node_as p a (exprs.Var x) y }) (node_as p k of m)
          (handed_as of j a e);
      does = does;
      main = main;
      takes = takes;
    }

  pub stands : Standing p
  stands = record {
    calls = sound_calls_fit p h;
    types = record {
      sizes = (types_agree p h).sizes;
      records = (types_agree p h).records;
      members = λ k a m i j n e. (are_small p h).members k a m (node_as p k (exprs.Member a m) i) j n e;
    };
    records = λ k t. (nodes_fit p h).records k t.tagged t.complete;
    passed = λ k f args i j a e. scalar_as p a
        ((nodes_fit p h).passed k f args (node_as p k (exprs.Call f args) i) j a e);
    initial = λ k x offset a i. ⊎_elim (λ s. inl (scalar_as p a s)) (λ s. inr s)
        ((nodes_fit p h).initial k x offset a i.node i.there i.is);
    functions = function_stands;
  }

-- ---- its lists

pub listed : (p : Typed) → Sound p → IsOrdered p
listed p h = (well_typed p h).ordered

pub ordered : (p : Typed) → Sound p → Ordered p
ordered p h = ordered_of p (listed p h)

pub functions_typed : (p : Typed) → Sound p → AreTypedFunctions p
functions_typed p h = record { each = (well_typed p h).funs }

-- ---- what its code does

pub runs_as : (p : Typed) → Sound p → (t : Tac) → (Standing p → IsProgram p t) → RunsAs p t
runs_as p h t is m l w b n = programs_run p h t (is (stands p h)) m l w b n

-- and that it is within the program
pub is_within : (p : Typed) → Sound p → (t : Tac) → (Standing p → IsProgram p t) → is_well_formed t p ≡ true →
    WithinCosts t p → sum_by function_copies t.funs ≤ copies p
    → ((k : ℕ) (f : TacFun) → slice_get t.funs k ≡ Some f → ZeroesOnce f) → Within t p
is_within p h t is formed costs few zeros = record {
  costs = costs;
  functions = λ k f e.
      let once = zeros k f e in
      record {
        zeros = once.zeros;
        writes_first = named_code_writes p (bodies_name p h) t (is (stands p h)) formed k f e;
        zeroes_first = once.first;
      };
  copies = few;
}
