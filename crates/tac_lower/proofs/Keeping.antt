-- What stays true while code is added: which temps have values of which kinds, and where structs and unions are copied
-- to.
use Rattle.std.proofs.Common.{◌≡◌, ℕ, ◌≤◌, ◌⊎◌, ⊎_elim, Bool, true, false, List, Option, Some, None, IfSome}
use Rattle.std.proofs.Common.{Result, Ok, Err, IfOk, refl, sym, ap, ◌∙◌, subst, arith}
use Rattle.std.specs.Option.{is_some as has_some}
use Rattle.std.specs.Prelude.{slice_get}
use Rattle.ck_int.specs.declared.kinds.IntKind.{IntKind}
use Rattle.ck_int.specs.declared.kinds.IntOp.{IntOp}
use Rattle.c_tree.specs.Terms.{type_of}
use Rattle.c_tree.specs.WellTyped.{Frame, type_in}
use Rattle.c_tree.specs.declared.typed.Expr.{Expr}
use Rattle.c_tree.specs.declared.typed.ExprKind.{ExprKind}
use Rattle.c_tree.specs.declared.typed.FunDef.{FunDef}
use Rattle.c_tree.specs.declared.typed.Typed.{Typed}
use Rattle.c_tree.specs.declared.typed.UnaryOp.{UnaryOp}
use Rattle.c_tree.specs.declared.typed.UnaryOp.TheVariants as unary
use Rattle.tac_ir.specs.declared.code.TacInstr.{TacInstr}
use Rattle.tac_ir.specs.declared.code.TacKind.{TacKind}
use Rattle.tac_ir.specs.declared.code.TacKind.TheVariants as kinds
use Rattle.tac_lower.specs.declared.context.Home.{Home}
use Rattle.tac_emit.specs.declared.emitter.Emitter.{Emitter}
use Rattle.tac_lower.specs.declared.operations.Change.{Change}
use Rattle.tac_lower.specs.declared.places.Destination.{Destination}
use Rattle.tac_lower.specs.declared.places.Target.{Target}
use Rattle.tac_lower.specs.declared.places.Target.TheVariants as target
use Rattle.tac_lower.specs.declared.types.TypeFacts.{TypeFacts}
use Rattle.tac_lower.specs.Destinations.{TargetFits, DestinationFits}
use Rattle.tac_emit.specs.Emitted.{HasKind, HasCapability, IsTemp, SameKind, SameCapability, Keeps, Pushed}
use Rattle.tac_emit.specs.Emitted.{is_capability}
use Rattle.tac_lower.specs.Operands.{RightFits, ComputedFits, ElementFits, ChangeFits}
use Rattle.tac_lower.specs.Nodes.{IsTyped, IsScalar, NodeFits, HasOne, SumNode, UnaryNode, NotNode, expression, points}
use Rattle.tac_lower.specs.Nodes.{kept_as, kind_in, or_int}
use Rattle.tac_lower.specs.Scenes.{Ready, Lowered, Opened, frame_of}
use Rattle.tac_lower.specs.Signed.{ResultFits, ProgramFits}
use Rattle.tac_lower.specs.Tables.{is_some}
use Rattle.tac_lower.proofs.Called.{program_lowered}
use Rattle.tac_lower.proofs.Nodes.{node_fits}
use Rattle.tac_lower.proofs.Steps.{at_most, both, still}

-- ---- an expression by its kind

pub node_at : {p : Typed} (d : FunDef) {types : List TypeFacts} {k : ℕ} {e : Expr} {of : ExprKind} → Ready p types →
    IsTyped (frame_of p d) k → slice_get p.exprs k ≡ Some e → e.kind ≡ of
    → NodeFits (frame_of p d) k of
node_at {p = p} d {k = k} {e = e} r w there is =
    subst (λ z. NodeFits (frame_of p d) k z) is (node_fits (frame_of p d) r.ordered k e there w)

pub scalar_kind : {p : Typed} {k : ℕ} {j : TacKind} → IsScalar p k j → kind_in p k ≡ j
scalar_kind s = ap or_int s.is

-- the pointer of a sum
module _ (f : Frame) (k a b : ℕ) (n : SumNode f k a b) where
  abbrev IsLeft : Type 0
  IsLeft = (points (type_of (expression f.program a)) ≡ true) × IsScalar f.program a (kinds.Cap false)

  abbrev IsRight : Type 0
  IsRight = (points (type_of (expression f.program a)) ≡ false) × IsScalar f.program b (kinds.Cap false)

  pub first_pointer : points (type_of (expression f.program a)) ≡ true → IsScalar f.program a (kinds.Cap false)
  first_pointer e = ⊎_elim (λ (x : IsLeft). x.1)
      (λ (x : IsRight). absurd (let q : true ≡ false = sym e ∙ x.0 in cc)) n.pointer

  pub second_pointer : points (type_of (expression f.program a)) ≡ false → IsScalar f.program b (kinds.Cap false)
  second_pointer e = ⊎_elim (λ (x : IsLeft). absurd (let q : true ≡ false = sym x.0 ∙ e in cc))
      (λ (x : IsRight). x.1) n.pointer

-- a compound assignment, by its type
module _ (p : Typed) (o : IntOp) (a b t : ℕ) where
  abbrev Moves : Type 0
  Moves = (points (type_in p t) ≡ true) × IsScalar p a (kinds.Cap false)

  abbrev Computes : Type 0
  Computes = (points (type_in p t) ≡ false) × ComputedFits o (or_int (kept_as (type_in p t))) (kind_in p b)

  pub change_fits : (change : Change) → change.op ≡ o → change.computed ≡ or_int (kept_as (type_in p t)) →
      is_some change.element ≡ points (type_in p t) → Moves ⊎ Computes → ChangeFits change (kind_in p a) (kind_in p b)
  change_fits change op computed element fits = by change.element element
    where
      by : (size : Option ℕ) → is_some size ≡ points (type_in p t) →
          ElementFits size change.op change.computed (kind_in p a) (kind_in p b)
      by (Some size) e = ⊎_elim (λ (x : Moves). ap is_capability (scalar_kind x.1))
          (λ (x : Computes). absurd (let q : true ≡ false = e ∙ x.0 in cc)) fits
      by None e =
          ⊎_elim (λ (x : Moves). absurd (let q : false ≡ true = e ∙ x.0 in cc))
          (λ (x : Computes). subst (λ z. ComputedFits z change.computed (kind_in p b)) (sym op)
          (subst (λ z. ComputedFits o z (kind_in p b)) (sym computed) x.1)) fits

pub right_as : (shift : Bool) (i j : IntKind) (k l : TacKind) → i ≡ j → k ≡ l → RightFits shift i k →
    RightFits shift j l
right_as shift i j k l e q h = subst (λ z. RightFits shift j z) q (subst (λ z. RightFits shift z k) e h)

pub change_as : (c : Change) (i j k l : TacKind) → i ≡ j → k ≡ l → ChangeFits c i k → ChangeFits c j l
change_as c i j k l e q h = subst (λ z. ChangeFits c j z) q (subst (λ z. ChangeFits c z k) e h)

pub not_node : (f : Frame) (k a : ℕ) (o : UnaryOp) → o ≡ unary.LogicalNot → UnaryNode f k o a → NotNode f k a
not_node f k a o e n = subst (λ z. UnaryNode f k z a) e n

pub unary_operand : (f : Frame) (k a : ℕ) (o : UnaryOp) → UnaryNode f k o a → HasOne f k a
unary_operand f k a unary.LogicalNot n = n.operands
unary_operand f k a unary.Plus n = n.operands
unary_operand f k a unary.Minus n = n.operands
unary_operand f k a unary.Complement n = n.operands

-- ---- pointers

pub pointer : {e : Emitter} {t : ℕ} → HasKind e t (kinds.Cap false) → HasCapability e t
pointer h = record { kind = kinds.Cap false; has = h; is = refl }

pub two_pointers : {e : Emitter} {t u : ℕ} → HasKind e t (kinds.Cap false) → HasKind e u (kinds.Cap false) →
    SameCapability e t u
two_pointers h g = record { kind = kinds.Cap false; to = h; from = g; is = refl }

pub two_values : {e : Emitter} {t u : ℕ} {k : TacKind} → HasKind e t k → HasKind e u k → SameKind e t u
two_values {k = k} h g = record { kind = k; to = h; from = g }

pub some_temp : {e : Emitter} {t : ℕ} {k : TacKind} → HasKind e t k → IsTemp e t
some_temp {k = k} h = record { kind = k; has = h }

-- ---- temps that may be given

pub maybe_kept : {p : Typed} {d : FunDef} {types : List TypeFacts} {homes : List Home} {a b : Emitter} {n : ℕ}
    (k : TacKind) (to : Option ℕ) → Lowered p d types homes a b n → IfSome to (λ t. HasKind a t k) →
    IfSome to (λ t. HasKind b t k)
maybe_kept k None g h = tt
maybe_kept k (Some t) g h = still h g

pub maybe_kind : (e : Emitter) (to : Option ℕ) (j k : TacKind) → j ≡ k → IfSome to (λ t. HasKind e t j) →
    IfSome to (λ t. HasKind e t k)
maybe_kind e None j k q h = tt
maybe_kind e (Some t) j k q h = subst (λ z. HasKind e t z) q h

pub maybe_same : (e : Emitter) (to : Option ℕ) (v : ℕ) (k : TacKind) → IfSome to (λ t. HasKind e t k) → HasKind e v k →
    IfSome to (λ t. SameKind e t v)
maybe_same e None v k h g = tt
maybe_same e (Some t) v k h g = record { kind = k; to = h; from = g }

pub result_as : {p : Typed} {d : FunDef} {types : List TypeFacts} {homes : List Home} {a b : Emitter} {n : ℕ}
    (to : Option ℕ) (g h : Option TacKind) → Lowered p d types homes a b n → g ≡ h → ResultFits a to g →
    ResultFits b to h
result_as {a = a} {b = b} to g h l q r = subst (λ z. ResultFits b to z) q (by to g r)
  where
    by : (to : Option ℕ) (g : Option TacKind) → ResultFits a to g → ResultFits b to g
    by None g r = tt
    by (Some t) None r = absurd r
    by (Some t) (Some k) r = still r l

-- where a value is asked for
pub asked_some : (e : Emitter) (to : ℕ) (s : Option TacKind) → has_some s ≡ true → HasKind e to (or_int s) →
    ResultFits e (Some to) s
asked_some e to None q h = absurd cc
asked_some e to (Some k) q h = h

-- ---- where structs and unions are copied to

target_kept : (a b : Emitter) (x : Target) → Keeps a.kinds.items b.kinds.items → TargetFits a x → TargetFits b x
target_kept a b (target.At t) f h = record { there = f.kept t (kinds.Cap false) h.there }
target_kept a b (target.Within base offset) f h = record { there = f.kept base (kinds.Cap false) h.there }

pub destination_kept : {p : Typed} {d : FunDef} {types : List TypeFacts} {homes : List Home} {a b : Emitter} {n : ℕ}
    {x : Destination} → Lowered p d types homes a b n → DestinationFits a x → DestinationFits b x
destination_kept {a = a} {b = b} {x = x} f h =
    record { target = target_kept a b x.to f.built.keeps h.target; units = h.units }

pub destination_opened : {p : Typed} {d : FunDef} {types : List TypeFacts} {homes : List Home} {a b : Emitter}
    {ls : List ℕ} {n : ℕ} {x : Destination} → Opened p d types homes a b ls n → DestinationFits a x
    → DestinationFits b x
destination_opened {a = a} {b = b} {x = x} f h =
    record { target = target_kept a b x.to f.pending.keeps h.target; units = h.units }

-- ---- an instruction is added at the end

module _ {T E : Type 0} where
  pub tail_pushed : {p : Typed} {d : FunDef} {types : List TypeFacts} {homes : List Home} {a b : Emitter} {m q : ℕ}
      (c : Emitter) (r : Result T E) (i : TacInstr)
      → Lowered p d types homes a b m → IfOk r (λ _. Pushed b c i) → (Pushed b c i → Lowered p d types homes b c 0) →
      m ≤ q → IfOk r (λ _. Lowered p d types homes a c q)
  tail_pushed c (Ok x) i f g h l = at_most (both f (h g)) (omega arith)
  tail_pushed c (Err e) i f g h l = tt

  -- which names a part of the program
  pub tail_part : {p : Typed} {d : FunDef} {types : List TypeFacts} {homes : List Home} {a b : Emitter} {m q : ℕ}
      (c : Emitter) (r : Result T E) (i : TacInstr)
      → Lowered p d types homes a b m → ProgramFits p d b i → IfOk r (λ _. Pushed b c i) → m ≤ q →
      IfOk r (λ _. Lowered p d types homes a c q)
  tail_part {p = p} {d = d} {types = types} {homes = homes} {b = b} c (Ok x) i f g h l =
      at_most (both f (program_lowered p d types homes b c f.scene i g h)) (omega arith)
  tail_part c (Err e) i f g h l = tt
