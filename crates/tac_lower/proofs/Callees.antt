-- Code is shown to be that of a call of a function, by its name or by a value.
use Rattle.std.proofs.Common.{◌≡◌, ℕ, ◌<◌, true, false, List, [], ◌∷◌, length, map, Option, Some, None}
use Rattle.std.proofs.Common.{refl, sym, ap, ◌∙◌, subst, ⊎_elim}
use Rattle.std.specs.Prelude.{slice_get, slice_index_or, ◌==◌, ◌||◌}
use Rattle.std.proofs.lemmas.Option.{slice_get_within}
use Rattle.ck_base.specs.declared.positions.Pos.{Pos}
use Rattle.c_tree.specs.Layout.{bare}
use Rattle.c_tree.specs.Terms.{terms}
use Rattle.c_tree.specs.Terms as term
use Rattle.c_tree.specs.Types as ty
use Rattle.c_tree.specs.Types.{Ty, Tys, no_types, also, Function, Pointer}
use Rattle.c_tree.specs.WellTyped.{type_in, ArgumentsFit, Decays, holds}
use Rattle.c_tree.specs.declared.typed.CType.{CType}
use Rattle.c_tree.specs.declared.typed.CType.TheVariants as ctypes
use Rattle.c_tree.specs.declared.typed.Expr.{Expr}
use Rattle.c_tree.specs.declared.typed.ExprKind.TheVariants as exprs
use Rattle.c_tree.specs.declared.typed.FunDef.{FunDef}
use Rattle.c_tree.specs.declared.typed.Typed.{Typed}
use Rattle.cheri_c_sem.specs.Expressions as sem
use Rattle.cheri_c_sem.specs.Expressions.{arguments, fits}
use Rattle.cheri_c_sem.specs.Order.{Ordered}
use Rattle.cheri_c_sem.specs.Tree.{Call, Pointer_to, Function as Named}
use Rattle.cheri_c_sem.specs.Types.{pointee_of}
use Rattle.tac_ir.specs.Effects.{kind_of}
use Rattle.tac_ir.specs.WellFormed.{signature_of_function, signature_of_def}
use Rattle.tac_ir.specs.WellFormed as wf
use Rattle.tac_ir.specs.declared.code.TacInstr.TheVariants as instr
use Rattle.tac_ir.specs.declared.code.TacKind.{TacKind}
use Rattle.tac_ir.specs.declared.code.TacKind.TheVariants as kind
use Rattle.tac_emit.specs.declared.emitter.Emitter.{Emitter}
use Rattle.tac_lower.specs.declared.types.TypeFacts.{TypeFacts}
use Rattle.tac_lower.specs.declared.writes.Written.{Written}
use Rattle.lower_runs.specs.Operating.{Code}
use Rattle.lower_runs.specs.Expressions.{Signature, pointer_kind, IsCall, call_named as named_rule}
use Rattle.lower_runs.specs.Expressions.{call_by_value as value_rule}
use Rattle.lower_runs.specs.Trees.{AllValues, Values}
use Rattle.tac_lower.specs.Callees.{NamesFunction}
use Rattle.tac_lower.specs.Nodes.{kept_as, or_int, kind_in, scalar_in, expression, IsTyped, IsScalar, CallNode}
use Rattle.tac_lower.specs.Scenes.{Ready, frame_of}
use Rattle.tac_emit.specs.Adding.{mark, Emits, one}
use Rattle.tac_lower.specs.Signed.{given_kind, taken_kinds, signature_as}
use Rattle.tac_lower.specs.Tables.{target_by}
use Rattle.tac_lower.specs.Trees.{Setting, tree, signatures, signature_by, kinds_taken, IsNode}
use Rattle.tac_lower.specs.Trees.{SparesAll, pos_in, pos_of, ShowsOperand, ShowsArguments, ShowsCall}
use Rattle.tac_lower.proofs.Calling.{no_array}
use Rattle.tac_lower.proofs.Deriving.{node_tree, mark_same}
use Rattle.tac_emit.proofs.Emitting.{added_then}
use Rattle.tac_lower.proofs.Nodes.{decays, decay_node, fun_node}
use Rattle.tac_lower.proofs.Passing.{covers_all}
use Rattle.tac_lower.proofs.Signatures.{pointed, signature_is}
use Rattle.tac_lower.proofs.Typings.{type_past, expression_type, expression_past}
use Rattle.tac_emit.proofs.Wells.{keeps_then}

-- ---- signatures, by the kinds of temps

kind_same : (j k : TacKind) → kind_of j ≡ kind_of k → j ≡ k
kind_same (kind.Int j) (kind.Int k) h = let e : j ≡ k = cc in ap kind.Int e
kind_same (kind.Cap s) (kind.Cap z) h = let e : s ≡ z = cc in ap kind.Cap e
kind_same (kind.Int j) (kind.Cap z) h = absurd cc
kind_same (kind.Cap s) (kind.Int k) h = absurd cc

given_same : (j k : Option TacKind) → given_kind j ≡ given_kind k → j ≡ k
given_same None None h = refl
given_same (Some j) (Some k) h = let e : kind_of j ≡ kind_of k = cc in ap Some (kind_same j k e)
given_same None (Some k) h = absurd cc
given_same (Some j) None h = absurd cc

taken_same : (ps qs : Tys) → taken_kinds ps ≡ taken_kinds qs → kinds_taken ps ≡ kinds_taken qs
taken_same no_types no_types h = refl
taken_same (also s ss) (also t ts) h =
    let e : kind_of (or_int (kept_as s)) ≡ kind_of (or_int (kept_as t)) = cc in
    let rest : taken_kinds ss ≡ taken_kinds ts = cc in
    ap (λ z. z ∷ kinds_taken ss) (kind_same (or_int (kept_as s)) (or_int (kept_as t)) e)
    ∙ ap (λ z. or_int (kept_as t) ∷ z) (taken_same ss ts rest)
taken_same no_types (also t ts) h = absurd cc
taken_same (also s ss) no_types h = absurd cc

-- what is passed has the kinds of the parameters
pub passed_kinds : (p : Typed) (ps : Tys) (args : List ℕ) → ArgumentsFit ps (terms (map (expression p) args)) →
    map (kind_in p) args ≡ kinds_taken ps
passed_kinds p no_types [] h = refl
passed_kinds p no_types (a ∷ args) h = absurd h
passed_kinds p (also t ts) [] h = absurd h
passed_kinds p (also t ts) (a ∷ args) h =
    ap (λ z. or_int (kept_as z) ∷ map (kind_in p) args) h.0
    ∙ ap (λ z. or_int (kept_as t) ∷ z) (passed_kinds p ts args h.1)

function_is : (t : Ty) → ty.is_function t ≡ true → (r : Ty) × (ps : Tys) × (t ≡ Function r ps)
function_is (Function r ps) h = (r, ps, refl)
function_is t h = absurd cc

signature_same : (r s : Ty) (ps qs : Tys) → Some (signature_as r ps) ≡ Some (signature_as s qs) →
    signature_by (Function r ps) ≡ signature_by (Function s qs)
signature_same r s ps qs h =
    let e : signature_as r ps ≡ signature_as s qs = cc in
    let gives : given_kind (kept_as r) ≡ given_kind (kept_as s) = ap (λ (z : wf.Signature). z.gives) e in
    let takes : taken_kinds ps ≡ taken_kinds qs = ap (λ (z : wf.Signature). z.params) e in
    ap (λ z. signed_by z (kinds_taken ps)) (given_same (kept_as r) (kept_as s) gives)
    ∙ ap (λ z. signed_by (kept_as s) z) (taken_same ps qs takes)
  where
    signed_by : Option TacKind → List TacKind → Signature
    signed_by gives takes = record { gives = gives; takes = takes }

module _ (p : Typed) {types : List TypeFacts} (ready : Ready p types) where
  -- a function of a signature gives and takes values of its kinds
  pub signed_same : (n : ℕ) (r : Ty) (ps : Tys) → signature_of_function p n ≡ Some (signature_as r ps) →
      signatures p n ≡ record { gives = kept_as r; takes = kinds_taken ps }
  signed_same n r ps h = by (slice_get p.funs n) refl
    where
      by : (d : Option FunDef) → slice_get p.funs n ≡ d →
          signatures p n ≡ record { gives = kept_as r; takes = kinds_taken ps }
      by None e = absurd (let q : None ≡ Some (signature_as r ps) = sym (ap (signature_of_def p) e) ∙ h in cc)
      by (Some d) e =
          let f = function_is (type_in p d.of) (ready.funs n d e) in
          let is = signature_is p ready.ordered d.of f.0 f.1 f.2 in
          let same : Some (signature_as f.0 f.1) ≡ Some (signature_as r ps) =
          sym is ∙ sym (ap (signature_of_def p) e) ∙ h in
          ap (Rattle.tac_lower.specs.Trees.signature_of p) e ∙ ap signature_by f.2
          ∙ signature_same f.0 r f.1 ps same

  -- the type of a pointer to a function, by its number
  pointer_by : (c : Option CType) (t : ℕ) → target_by c ≡ Some t → pointee_of c ≡ t
  pointer_by (Some (ctypes.Pointer u)) t h = cc
  pointer_by None t h = absurd cc
  pointer_by (Some c) t h = absurd cc

  pub record IsPointed (f : ℕ) (r : Ty) (ps : Tys) : Type 0 where
    pub node : Expr
    pub there : slice_get p.exprs f ≡ Some node
    pub names : type_in p (pointee_of (bare p.types node.of)) ≡ Function r ps

  pub is_pointed : (f : ℕ) (r : Ty) (ps : Tys) → term.type_of (expression p f) ≡ Pointer (Function r ps) →
      IsPointed f r ps
  is_pointed f r ps h = by (slice_get p.exprs f) refl
    where
      by : (e : Option Expr) → slice_get p.exprs f ≡ e → IsPointed f r ps
      by None g = absurd (let q : ty.Void ≡ Pointer (Function r ps) =
          sym (ap term.type_of (expression_past p ready.ordered f g)) ∙ h in cc)
      by (Some e) g =
          let w = pointed p ready.ordered e.of (Function r ps) (sym (expression_type p ready.ordered f e g) ∙ h) in
          record {
            node = e;
            there = g;
            names = ap (type_in p) (pointer_by (bare p.types e.of) w.type w.is) ∙ w.names;
          }

  function_there : (t : ℕ) (r : Ty) (ps : Tys) → type_in p t ≡ Function r ps → t < length p.types
  function_there t r ps h = by (slice_get p.types t) refl
    where
      by : (c : Option CType) → slice_get p.types t ≡ c → t < length p.types
      by None g = absurd (let q : ty.Void ≡ Function r ps = sym (type_past p ready.ordered t g) ∙ h in cc)
      by (Some c) g = slice_get_within p.types t c g

  -- a function that is named has a type that agrees with the call's
  pub record IsCallee (f n : ℕ) (r : Ty) (ps : Tys) : Type 0 where
    pub fun : FunDef
    pub there : slice_get p.funs n ≡ Some fun
    pub agrees : ty.compatible (Function r ps) (type_in p fun.of) ≡ true

  pointer_same : (s t : Ty) → Pointer s ≡ Pointer t → s ≡ t
  pointer_same s t e = cc

  callee_by : (f n : ℕ) (g : FunDef) (s of r : Ty) (ps : Tys) → slice_get p.funs n ≡ Some g →
      ty.compatible s (type_in p g.of) ≡ true → Decays s of → of ≡ Pointer (Function r ps) → IsCallee f n r ps
  callee_by f n g s of r ps there agrees w is =
      ⊎_elim (λ (x : (u : Ty) × (m : ℕ) × (s ≡ ty.Array u m) × (of ≡ Pointer u)).
      absurd (no_array (λ m n. m == n || m == 0 || n == 0) x.0 (type_in p g.of) x.1 (ready.funs n g there)
      (subst (λ z. ty.compatible z (type_in p g.of) ≡ true) x.2 agrees)))
      (λ (x : holds (ty.is_function s) × (of ≡ Pointer s)). record {
        fun = g;
        there = there;
        agrees = subst (λ z. ty.compatible z (type_in p g.of) ≡ true)
            (pointer_same s (Function r ps) (sym x.1 ∙ is)) agrees;
      }) w

  pub callee : (d : FunDef) (f n : ℕ) (r : Ty) (ps : Tys) → IsTyped (frame_of p d) f → NamesFunction p f n →
      term.type_of (expression p f) ≡ Pointer (Function r ps) → IsCallee f n r ps
  callee d f n r ps w h of =
      let o = ready.ordered in
      let node = decay_node (frame_of p d) o f h.decays.node h.decays.there w h.name h.decays.is in
      let fun = fun_node (frame_of p d) o h.name h.is.node h.is.there node.operands.operand n h.is.is in
      callee_by f n fun.fun (term.type_of (expression p h.name)) (term.type_of (expression p f)) r ps fun.there
      fun.agrees (decays (frame_of p d) o f h.decays.node h.decays.there w h.name h.decays.is) of

-- ---- calls

module _ (s : Setting) (o : Ordered s.program) {types : List TypeFacts} (ready : Ready s.program types) (d : FunDef)
    (k f : ℕ) (args : List ℕ) (n : IsNode s.program k (exprs.Call f args))
    (node : CallNode (frame_of s.program d) k f args) where
  abbrev p : Typed
  p = s.program

  place : IsPointed p ready f node.result node.takes
  place = is_pointed p ready f node.result node.takes node.of

  -- the type of what is called, by its number
  abbrev of : ℕ
  of = pointee_of (bare p.types place.node.of)

  call_tree : tree s k ≡ Call n.node.pos (fits p [] of) (tree s f) (arguments (tree s) args)
  call_tree = node_tree s o ready.ordered n
      ∙ ap (λ z. Call n.node.pos (fits p s.vars (pointee_of (bare p.types (sem.type_of z)))) (tree s f)
      (arguments (tree s) args)) place.there

  abbrev kinds_of : List TacKind
  kinds_of = map (kind_in p) args

  -- a function of this signature gives and takes what the call asks for
  signs_as : (m : ℕ) → signature_of_function p m ≡ Some (signature_as node.result node.takes) →
      signatures p m ≡ record { gives = scalar_in p k; takes = kinds_of }
  signs_as m h = signed_same p ready m node.result node.takes h
      ∙ ap (λ z. signing z (kinds_taken node.takes)) (sym node.gives)
      ∙ ap (λ z. signing (scalar_in p k) z) (sym (passed_kinds p node.takes args node.fit))
    where
      signing : Option TacKind → List TacKind → Signature
      signing gives takes = record { gives = gives; takes = takes }

  function_tree : (m : ℕ) (h : NamesFunction p f m) →
      tree s f ≡ Pointer_to h.decays.node.pos None (Named h.is.node.pos m)
  function_tree m h = node_tree s o ready.ordered h.decays
      ∙ ap (λ z. Pointer_to h.decays.node.pos (sem.narrowing_of p s.vars z) (tree s h.name)) h.is.there
      ∙ ap (λ z. Pointer_to h.decays.node.pos (sem.narrowing_by p s.vars z h.is.node.of) (tree s h.name)) h.is.is
      ∙ ap (Pointer_to h.decays.node.pos None) (node_tree s o ready.ordered h.is)

  pub call_named : (m : ℕ) {to : Option ℕ} {ts : List ℕ} {a b c : Emitter} → NamesFunction p f m →
      signature_of_function p m ≡ Some (signature_as node.result node.takes) → ShowsArguments s args ts a b →
      Emits b c 0 (one (instr.Call to m ts)) → ShowsCall s k to a c
  call_named m {to = to} {ts = ts} {a = a} {b = b} {c = c} h signs e g = record {
    code = λ r. e.code (instr.Call to m ts ∷ r);
    added = added_then e.added g.added;
    keeps = keeps_then a.kinds.items b.kinds.items c.kinds.items e.keeps g.keeps;
    is = λ scene kinds suits keeps means.
        let callee = callee p ready d f m node.result node.takes node.called h node.of in
        let fitting = suits.calls.compatibles m of callee.fun callee.there
        (function_there p ready of node.result node.takes place.names)
        (subst (λ z. ty.compatible z (type_in p callee.fun.of) ≡ true) (sym place.names) callee.agrees) in
        let values : Values scene (tree s f) × AllValues scene (arguments (tree s) args) =
        subst (λ z. Values scene z) call_tree means in
        let kept = keeps_then b.kinds.items c.kinds.items kinds g.keeps keeps in
        let passed = e.is scene kinds suits kept (suits.passed k f args n) values.1 in
        let whole = named_rule {q = n.node.pos} {s = h.decays.node.pos} {u = h.is.node.pos} fitting
        (slice_get_within p.funs m callee.fun callee.there) (signs_as m signs) passed in
        let is = call_tree ∙ ap (λ z. Call n.node.pos (fits p [] of) z (arguments (tree s) args)) (function_tree m h) in
        let there = subst (λ z. IsCall p (signatures p) kinds scene (scalar_in p k) z to (mark a) (mark b)
        (λ r. e.code (instr.Call to m ts ∷ r))) (sym is) whole in
        subst (λ z. IsCall p (signatures p) kinds scene (scalar_in p k) (tree s k) to (mark a) z
        (λ r. e.code (instr.Call to m ts ∷ r))) (sym (mark_same g)) there;
  }

  called_scalar : IsScalar p f pointer_kind
  called_scalar = record { is = ap kept_as node.of }

  pub call_by_value : {w : Written} {to : Option ℕ} {v t : ℕ} {q : Pos} {ts : List ℕ} {a b c e : Emitter} →
      SparesAll s.writes w args → ((e : Expr) → slice_get p.exprs f ≡ Some e → t ≡ pointee_of (bare p.types e.of))
      → q ≡ pos_in p k → ShowsOperand s w f v a b → ShowsArguments s args ts b c →
      Emits c e 0 (one (instr.CallValue to v t ts q)) → ShowsCall s k to a e
  call_by_value {w = w} {to = to} {v = v} {t = t} {q = q} {ts = ts} {a = a} {b = b} {c = c} {e = e} spared target at
      operand passed g =
      let type : t ≡ of = target place.node place.there in
      let pos : q ≡ n.node.pos = at ∙ ap pos_of n.there in
      let typed = subst (λ z. Emits c e 0 (one (instr.CallValue to v z ts q))) type g in
      let done = subst (λ z. Emits c e 0 (one (instr.CallValue to v of ts z))) pos typed in
      record {
        code = λ r. operand.code (passed.code (instr.CallValue to v of ts n.node.pos ∷ r));
        added = added_then operand.added (added_then passed.added done.added);
        keeps = keeps_then a.kinds.items b.kinds.items e.kinds.items operand.keeps
            (keeps_then b.kinds.items c.kinds.items e.kinds.items passed.keeps g.keeps);
        is = λ scene kinds suits keeps means.
            let code : Code = λ r. operand.code (passed.code (instr.CallValue to v of ts n.node.pos ∷ r)) in
            let values : Values scene (tree s f) × AllValues scene (arguments (tree s) args) =
            subst (λ z. Values scene z) call_tree means in
            let in_c = keeps_then c.kinds.items e.kinds.items kinds g.keeps keeps in
            let in_b = keeps_then b.kinds.items c.kinds.items kinds passed.keeps in_c in
            let signs : (m : ℕ) → slice_index_or (fits p [] of) m false ≡ true →
            signatures p m ≡ record { gives = scalar_in p k; takes = kinds_of } = λ m h. signs_as m
            (suits.calls.signatures m of h ∙ signature_is p ready.ordered of node.result node.takes place.names) in
            let first = operand.is scene kinds suits in_b (arguments (tree s) args) pointer_kind
            (covers_all s w args scene spared suits) called_scalar values.0 in
            let rest = passed.is scene kinds suits in_c (suits.passed k f args n) values.1 in
            let whole = value_rule {to = to} {q = n.node.pos} signs first rest in
            let there = subst (λ z. IsCall p (signatures p) kinds scene (scalar_in p k) z to (mark a) (mark c) code)
            (sym call_tree) whole in
            subst (λ z. IsCall p (signatures p) kinds scene (scalar_in p k) (tree s k) to (mark a) z code)
            (sym (mark_same g)) there;
      }
