-- Instructions that name parts of the program: calls, objects, functions and locals.
use Rattle.std.proofs.Common.{◌≡◌, ℕ, ◌<◌, true, false, List, [], ◌∷◌, map, length, Option, Some, None, refl, sym, ap}
use Rattle.std.proofs.Common.{◌∙◌, arith}
use Rattle.std.specs.Prelude.{nat_lt}
use Rattle.std.proofs.lemmas.Bool.Decides.{nat_tests}
use Rattle.ck_base.specs.declared.positions.Pos.{Pos}
use Rattle.ck_int.specs.declared.kinds.IntKind.TheVariants as int
use Rattle.c_tree.specs.declared.typed.FunDef.{FunDef}
use Rattle.c_tree.specs.declared.typed.Typed.{Typed}
use Rattle.c_tree.specs.Terms.{terms}
use Rattle.c_tree.specs.Types.{Ty, Tys, no_types, also}
use Rattle.c_tree.specs.WellTyped.{ArgumentsFit}
use Rattle.cheri_c_sem.specs.Programs.{lengths_of}
use Rattle.tac_ir.specs.Effects.{kind_of}
use Rattle.tac_ir.specs.WellFormed as wf
use Rattle.tac_ir.specs.WellFormed.{all_have, has, has_capability, result_fits, call_fits, service_fits, return_by}
use Rattle.tac_ir.specs.WellFormed.{return_fits, signature_of, signature_of_function}
use Rattle.tac_ir.specs.declared.code.LibOp.{LibOp}
use Rattle.tac_ir.specs.declared.code.LibOp.TheVariants as lib
use Rattle.tac_ir.specs.declared.code.TacInstr.{TacInstr}
use Rattle.tac_ir.specs.declared.code.TacInstr.TheVariants as instr
use Rattle.tac_ir.specs.declared.code.TacKind.{TacKind}
use Rattle.tac_ir.specs.declared.code.TacKind.TheVariants as kind
use Rattle.tac_lower.specs.declared.context.Home.{Home}
use Rattle.tac_emit.specs.declared.emitter.Emitter.{Emitter}
use Rattle.tac_lower.specs.declared.types.TypeFacts.{TypeFacts}
use Rattle.tac_emit.specs.Emitted.{HasCapability, Keeps, Pushed}
use Rattle.tac_lower.specs.Nodes.{expression, kept_as, or_int, kind_in}
use Rattle.tac_lower.specs.Scenes.{Scene, Lowered}
use Rattle.tac_lower.specs.Signed.{given_kind, taken_kinds, signature_as, HaveKinds, ResultFits, ServiceFits}
use Rattle.tac_lower.specs.Signed.{ReturnFits, ProgramFits}
use Rattle.tac_emit.proofs.Instructions.{has_of, capability_of}
use Rattle.tac_lower.proofs.Scening.{scene_built}
use Rattle.tac_emit.proofs.Wells.{and_true, Lasts, pushed_built}

-- ---- arguments

-- the values of arguments have the kinds of the parameters
pub taken : (p : Typed) (ps : Tys) (args : List ℕ) → ArgumentsFit ps (terms (map (expression p) args)) →
    map kind_of (map (kind_in p) args) ≡ taken_kinds ps
taken p no_types [] h = refl
taken p no_types (a ∷ args) h = absurd h
taken p (also t ts) [] h = absurd h
taken p (also t ts) (a ∷ args) h =
    ap (λ z. kind_of (or_int (kept_as z)) ∷ map kind_of (map (kind_in p) args)) h.0
    ∙ ap (λ z. kind_of (or_int (kept_as t)) ∷ z) (taken p ts args h.1)

module _ (e : Emitter) (p : Typed) (d : FunDef) (kinds : List TacKind) (whole : List TacInstr)
    (keeps : Keeps e.kinds.items kinds) where
  all_have_of : (ts : List ℕ) (ks : List TacKind) → HaveKinds e ts ks →
      all_have (has p d kinds whole) ts (map kind_of ks) ≡ true
  all_have_of [] [] h = refl
  all_have_of [] (k ∷ ks) h = absurd h
  all_have_of (t ∷ ts) [] h = absurd h
  all_have_of (t ∷ ts) (k ∷ ks) h =
      and_true (has p d kinds whole t (kind_of k)) (all_have (has p d kinds whole) ts (map kind_of ks))
      (has_of e p d kinds whole keeps t k h.0) (all_have_of ts ks h.1)

  result_of : (to : Option ℕ) (g : Option TacKind) → ResultFits e to g →
      result_fits p d kinds whole to (given_kind g) ≡ true
  result_of None g h = refl
  result_of (Some t) None h = absurd h
  result_of (Some t) (Some k) h = has_of e p d kinds whole keeps t k h

  returned_of : (g : Option TacKind) (v : Option ℕ) → ReturnFits e g v →
      return_by p d kinds whole (given_kind g) v ≡ true
  returned_of None None h = refl
  returned_of None (Some t) h = absurd h
  returned_of (Some k) None h = absurd h
  returned_of (Some k) (Some t) h = has_of e p d kinds whole keeps t k h

  calls : (to : Option ℕ) (args : List ℕ) (ks : List TacKind) (r : Ty) (ps : Tys) → HaveKinds e args ks →
      map kind_of ks ≡ taken_kinds ps → ResultFits e to (kept_as r)
      → call_fits p d kinds whole (Some (signature_as r ps)) to args ≡ true
  calls to args ks r ps h q g =
      and_true (all_have (has p d kinds whole) args (taken_kinds ps))
      (result_fits p d kinds whole to (given_kind (kept_as r)))
      (ap (λ z. all_have (has p d kinds whole) args z) (sym q) ∙ all_have_of args ks h) (result_of to (kept_as r) g)

  services : (op : LibOp) (to : Option ℕ) (args : List ℕ) → ServiceFits e op to args →
      service_fits p d kinds whole op to args ≡ true
  services lib.PutChar to args h =
      and_true (all_have (has p d kinds whole) args (wf.int_result ∷ []))
      (result_fits p d kinds whole to (Some wf.int_result)) (all_have_of args (kind.Int int.I32 ∷ []) h.0)
      (result_of to (Some (kind.Int int.I32)) h.1)
  services lib.GetChar to args h =
      and_true (all_have (has p d kinds whole) args []) (result_fits p d kinds whole to (Some wf.int_result))
      (all_have_of args [] h.0) (result_of to (Some (kind.Int int.I32)) h.1)
  services lib.Malloc to args h =
      and_true (all_have (has p d kinds whole) args (wf.word ∷ [])) (result_fits p d kinds whole to (Some wf.pointer))
      (all_have_of args (kind.Int int.U64 ∷ []) h.0) (result_of to (Some (kind.Cap false)) h.1)
  services lib.Exit to args h =
      and_true (all_have (has p d kinds whole) args (wf.int_result ∷ [])) (result_fits p d kinds whole to None)
      (all_have_of args (kind.Int int.I32 ∷ []) h.0) (result_of to None h.1)

-- ---- one by one

module _ (p : Typed) (d : FunDef) (e : Emitter) where
  call_lasts : (to : Option ℕ) (n : ℕ) (args : List ℕ) (ks : List TacKind) (r : Ty) (ps : Tys) →
      signature_of_function p n ≡ Some (signature_as r ps) → HaveKinds e args ks → map kind_of ks ≡ taken_kinds ps
      → ResultFits e to (kept_as r) → Lasts p d e (instr.Call to n args)
  call_lasts to n args ks r ps s h q g =
      record {
        plain = refl;
        fits = λ kinds whole keeps. ap (λ z. call_fits p d kinds whole z to args) s
            ∙ calls e p d kinds whole keeps to args ks r ps h q g;
      }

  call_value_lasts : (to : Option ℕ) (v t : ℕ) (args : List ℕ) (at : Pos) (ks : List TacKind) (r : Ty) (ps : Tys) →
      HasCapability e v → signature_of p t ≡ Some (signature_as r ps) → HaveKinds e args ks
      → map kind_of ks ≡ taken_kinds ps → ResultFits e to (kept_as r) → Lasts p d e (instr.CallValue to v t args at)
  call_value_lasts to v t args at ks r ps c s h q g = record {
    plain = refl;
    fits = λ kinds whole keeps.
        and_true (has_capability p d kinds whole v) (call_fits p d kinds whole (signature_of p t) to args)
        (capability_of e p d kinds whole keeps v c)
        (ap (λ z. call_fits p d kinds whole z to args) s ∙ calls e p d kinds whole keeps to args ks r ps h q g);
  }

  service_lasts : (op : LibOp) (to : Option ℕ) (args : List ℕ) → ServiceFits e op to args →
      Lasts p d e (instr.Lib op to args)
  service_lasts op to args h =
      record { plain = refl; fits = λ kinds whole keeps. services e p d kinds whole keeps op to args h }

  pub return_lasts : (v : Option ℕ) (r : Ty) (ps : Tys) → signature_of p d.of ≡ Some (signature_as r ps) →
      ReturnFits e (kept_as r) v → Lasts p d e (instr.Return v)
  return_lasts v r ps s h =
      record {
        plain = refl;
        fits = λ kinds whole keeps. ap (λ z. return_fits p d kinds whole z v) s
            ∙ returned_of e p d kinds whole keeps (kept_as r) v h;
      }

  below : (m n : ℕ) → m < n → nat_lt m n ≡ true
  below m n lt = grind (arith, nat_tests)

  program_lasts : (i : TacInstr) → ProgramFits p d e i → Lasts p d e i
  program_lasts (instr.Global to n true) h = record {
    plain = refl;
    fits = λ kinds whole keeps. and_true (has p d kinds whole to wf.pointer) (nat_lt n (length p.literals))
        (has_of e p d kinds whole keeps to (kind.Cap false) h.0) (below n (length p.literals) h.1);
  }
  program_lasts (instr.Global to n false) h = record {
    plain = refl;
    fits = λ kinds whole keeps. and_true (has p d kinds whole to wf.pointer) (nat_lt n (length p.globals))
        (has_of e p d kinds whole keeps to (kind.Cap false) h.0) (below n (length p.globals) h.1);
  }
  program_lasts (instr.Function to n) h = record {
    plain = refl;
    fits = λ kinds whole keeps. and_true (has p d kinds whole to wf.pointer) (nat_lt n (length p.funs))
        (has_of e p d kinds whole keeps to (kind.Cap false) h.0) (below n (length p.funs) h.1);
  }
  program_lasts (instr.Local to v) h = record {
    plain = refl;
    fits = λ kinds whole keeps.
        and_true (has p d kinds whole to wf.pointer) (nat_lt v (length (lengths_of p d.vars)))
        (has_of e p d kinds whole keeps to (kind.Cap false) h.0) (below v (length (lengths_of p d.vars)) h.1);
  }
  program_lasts (instr.Zero v) h =
      record { plain = refl; fits = λ kinds whole keeps. below v (length (lengths_of p d.vars)) h }
  program_lasts i h = absurd h

-- ---- where they are added

module _ (p : Typed) (d : FunDef) (types : List TypeFacts) (homes : List Home) (a b : Emitter)
    (s : Scene p d types homes a) where
  pushed_lowered : (i : TacInstr) → Pushed a b i → Lasts p d a i → Lowered p d types homes a b 0
  pushed_lowered i h l =
      let g = pushed_built p d a b i s.well h l in
      record {
        built = g;
        scene = scene_built p d types homes a b s g;
        adds = record { temps = omega (arith, ap (λ z. length z) h.kinds); labels = omega (arith, h.labels) };
      }

  pub call_lowered : (to : Option ℕ) (n : ℕ) (args : List ℕ) (ks : List TacKind) (r : Ty) (ps : Tys) →
      signature_of_function p n ≡ Some (signature_as r ps) → HaveKinds a args ks
      → map kind_of ks ≡ taken_kinds ps → ResultFits a to (kept_as r) → Pushed a b (instr.Call to n args) →
      Lowered p d types homes a b 0
  call_lowered to n args ks r ps f h q g push =
      pushed_lowered (instr.Call to n args) push (call_lasts p d a to n args ks r ps f h q g)

  pub call_value_lowered : (to : Option ℕ) (v t : ℕ) (args : List ℕ) (at : Pos) (ks : List TacKind) (r : Ty)
      (ps : Tys) → HasCapability a v → signature_of p t ≡ Some (signature_as r ps) → HaveKinds a args ks
      → map kind_of ks ≡ taken_kinds ps → ResultFits a to (kept_as r) → Pushed a b (instr.CallValue to v t args at) →
      Lowered p d types homes a b 0
  call_value_lowered to v t args at ks r ps c f h q g push =
      pushed_lowered (instr.CallValue to v t args at) push (call_value_lasts p d a to v t args at ks r ps c f h q g)

  pub service_lowered : (op : LibOp) (to : Option ℕ) (args : List ℕ) → ServiceFits a op to args →
      Pushed a b (instr.Lib op to args) → Lowered p d types homes a b 0
  service_lowered op to args h push = pushed_lowered (instr.Lib op to args) push (service_lasts p d a op to args h)

  pub return_lowered : (v : Option ℕ) (r : Ty) (ps : Tys) → signature_of p d.of ≡ Some (signature_as r ps) →
      ReturnFits a (kept_as r) v → Pushed a b (instr.Return v) → Lowered p d types homes a b 0
  return_lowered v r ps f h push = pushed_lowered (instr.Return v) push (return_lasts p d a v r ps f h)

  pub program_lowered : (i : TacInstr) → ProgramFits p d a i → Pushed a b i → Lowered p d types homes a b 0
  program_lowered i h push = pushed_lowered i push (program_lasts p d a i h)
