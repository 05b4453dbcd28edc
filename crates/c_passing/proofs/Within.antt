-- What expressions and statements name is there.
use Rattle.std.proofs.Common.{◌≡◌, ℕ, zero, suc, ◌<◌, List, [], ◌∷◌, length, get_or, take, drop, Some, sym, ap}
use Rattle.std.proofs.Common.{subst, ◌∙◌, arith}
use Rattle.std.specs.Prelude.{slice_get}
use Rattle.std.proofs.lemmas.Option.{slice_get-get_or}
use Rattle.c_tree.specs.declared.typed.Expr.{Expr}
use Rattle.c_tree.specs.declared.typed.ExprKind.{ExprKind}
use Rattle.c_tree.specs.declared.typed.ExprKind.TheVariants as exprs
use Rattle.c_tree.specs.declared.typed.Stmt.{Stmt}
use Rattle.c_tree.specs.declared.typed.FunDef.{FunDef}
use Rattle.c_tree.specs.Types.{Ty}
use Rattle.c_tree.specs.Views.{operands, values, parts}
use Rattle.c_copy.specs.Copying.{AllBelow, expr_shape, stmt_form}
use Rattle.c_copy.specs.Standing.{ActionStandsIn}
use Rattle.c_copy.proofs.Standing.{term_there, shape_stands, operand_stands, form_stands, value_stands, part_stands}
use Rattle.passing_steps.specs.Source.{Source}
use Rattle.c_passing.specs.Passes.{VarWithin, KindWithin, FormWithin, TermWithin, TermsWithin, ActionWithin}
use Rattle.c_passing.specs.Passes.{ActionsWithin}
use Rattle.c_passing.specs.Routines.{HasBody}
use Rattle.c_passing.proofs.Least.{least_above, item_below}

-- ---- items of lists

pub taken : {A : Type 0} (n : ℕ) (xs : List A) (k : ℕ) (x : A) → slice_get (take n xs) k ≡ Some x →
    slice_get xs k ≡ Some x
taken zero xs k x e = absurd cc
taken (suc n) [] k x e = absurd cc
taken (suc n) (y ∷ ys) zero x e = e
taken (suc n) (y ∷ ys) (suc k) x e = taken n ys k x e

pub dropped : {A : Type 0} (n : ℕ) (xs : List A) (k : ℕ) (x : A) → slice_get (drop n xs) k ≡ Some x →
    (j : ℕ) × (slice_get xs j ≡ Some x)
dropped zero xs k x e = (k, e)
dropped (suc n) [] k x e = absurd cc
dropped (suc n) (y ∷ ys) k x e = let r = dropped n ys k x e in (suc r.0, r.1)

-- ---- expressions

pub term_within : (s : Source) (k : ℕ) → TermWithin s k → k < length s.program.now.exprs
term_within s k h = term_there (VarWithin (length s.numbers.now)) s.program.now.exprs k h

pub terms_there : (s : Source) (ks : List ℕ) → TermsWithin s ks → AllBelow (length s.program.now.exprs) ks
terms_there s ks h = λ j a q. term_within s a (h j a q)

pub operands_within : (s : Source) (k : ℕ) (e : Expr) (ks : List ℕ) → TermWithin s k →
    slice_get s.program.now.exprs k ≡ Some e → ks ≡ operands e.kind → TermsWithin s ks
operands_within s k e ks h g same = λ j a q.
    (operand_stands (VarWithin (length s.numbers.now)) s.program.now.exprs k e h g j a
    (ap (λ zs. slice_get zs j) (sym same) ∙ q)).1

pub operands_below : (s : Source) (k : ℕ) (e : Expr) → TermWithin s k → slice_get s.program.now.exprs k ≡ Some e →
    AllBelow k (operands e.kind)
operands_below s k e h g =
    λ j a q. (operand_stands (VarWithin (length s.numbers.now)) s.program.now.exprs k e h g j a q).0

-- an operand that stands at a place
pub operand_at : (s : Source) (k : ExprKind) (ks : List ℕ) (i a : ℕ) → operands k ≡ ks → i < length ks →
    get_or ks i 0 ≡ a → TermsWithin s (operands k) → (a < least_above (operands k)) × TermWithin s a
operand_at s k ks i a e l g h = (
  subst (λ b. b < least_above (operands k)) g
      (subst (λ zs. get_or ks i 0 < least_above zs) (sym e) (item_below ks i l)),
  h i a (ap (λ zs. slice_get zs i) e ∙ slice_get-get_or ks i 0 l ∙ ap Some g),
)

var_within : (n : ℕ) (ts : List Ty) (k : ExprKind) → VarWithin n (expr_shape ts k) → KindWithin n k
var_within n ts (exprs.Var k) h = h
var_within n ts _ h = tt

pub kind_within : (s : Source) (k : ℕ) (e : Expr) → TermWithin s k → slice_get s.program.now.exprs k ≡ Some e →
    KindWithin (length s.numbers.now) e.kind
kind_within s k e h g =
    var_within (length s.numbers.now) h.types e.kind
    (shape_stands (VarWithin (length s.numbers.now)) s.program.now.exprs k e h g)

-- ---- statements

pub form_within : (s : Source) (k : ℕ) (d : Stmt) → ActionWithin s k → slice_get s.program.now.stmts k ≡ Some d →
    FormWithin (length s.numbers.now) (stmt_form d.kind)
form_within s k d h g =
    form_stands (VarWithin (length s.numbers.now)) (FormWithin (length s.numbers.now)) s.program.now.exprs
    s.program.now.stmts k d h.stands g

pub values_within : (s : Source) (k : ℕ) (d : Stmt) (ks : List ℕ) → ActionWithin s k →
    slice_get s.program.now.stmts k ≡ Some d → ks ≡ values d.kind → TermsWithin s ks
values_within s k d ks h g same = λ j a q.
    value_stands (VarWithin (length s.numbers.now)) (FormWithin (length s.numbers.now)) s.program.now.exprs
    s.program.now.stmts k d h.stands g j a (ap (λ zs. slice_get zs j) (sym same) ∙ q)

pub parts_within : (s : Source) (k : ℕ) (d : Stmt) → ActionWithin s k → slice_get s.program.now.stmts k ≡ Some d →
    ActionsWithin s k (parts d.kind)
parts_within s k d h g = λ j a q lt.
    record {
      there = let l = h.there in omega arith;
      stands = part_stands (VarWithin (length s.numbers.now)) (FormWithin (length s.numbers.now)) s.program.now.exprs
          s.program.now.stmts k d h.stands g j a q lt;
    }

pub front_within : (s : Source) (k n : ℕ) (ks fs : List ℕ) → fs ≡ take n ks → ActionsWithin s k ks →
    ActionsWithin s k fs
front_within s k n ks fs e h = λ j a q. h j a (taken n ks j a (ap (λ zs. slice_get zs j) (sym e) ∙ q))

pub back_within : (s : Source) (k n : ℕ) (ks fs : List ℕ) → fs ≡ drop n ks → ActionsWithin s k ks →
    ActionsWithin s k fs
back_within s k n ks fs e h = λ j a q.
    let r = dropped n ks j a (ap (λ zs. slice_get zs j) (sym e) ∙ q) in h r.0 a r.1

-- ---- bodies

pub body_within : (s : Source) (f : FunDef) → HasBody s.program.now f → length s.numbers.now ≡ length f.vars →
    ActionWithin s f.body
body_within s f h e = record {
  there = h.there;
  stands = subst (λ n. ActionStandsIn (VarWithin n) (FormWithin n) s.program.now.exprs s.program.now.stmts f.body)
      (sym e) h.stands;
}
