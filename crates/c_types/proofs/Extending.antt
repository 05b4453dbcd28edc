-- What stays of a program as it goes on.
use Rattle.std.proofs.Common.{◌≡◌, ℕ, zero, suc, true, List, [], ◌∷◌, ◌++◌, set, Some, refl, sym, ap, subst, ◌∙◌, arith}
use Rattle.std.proofs.Common.{length-append}
use Rattle.std.specs.Prelude.{slice_get}
use Rattle.std.proofs.lemmas.List.{length-set}
use Rattle.std.proofs.lemmas.Option.{same_Some, none-some}
use Rattle.c_tree.specs.declared.syntax.RecordKind.{RecordKind}
use Rattle.c_tree.specs.declared.typed.CType.{CType}
use Rattle.c_tree.specs.declared.typed.Typed.{Typed}
use Rattle.c_tree.specs.declared.typed.GlobalDef.{GlobalDef}
use Rattle.c_tree.specs.declared.typed.FunDef.{FunDef}
use Rattle.c_tree.specs.Views.{type_at, types_of}
use Rattle.c_tree.specs.declared.typed.Member.{Member}
use Rattle.c_tree.specs.Scopes.{changed_at}
use Rattle.c_interner.specs.Numbers.{AddsTypes}
use Rattle.c_interner.proofs.Growing.{type_at-longer}
use Rattle.c_types.specs.Sizes.{has_tag, completed_type}
use Rattle.c_types.specs.Calls.{EachKept, IsSameGlobal, IsSameFun, Extends}
use Rattle.c_types.proofs.Growth.{slice_get-longer}
use Rattle.c_types.proofs.Records.{types_of-completed}
use Rattle.c_types.proofs.Changing.{changed_cons}

-- ---- lists

module _ {A : Type 0} (Kept : A → A → Type 0) where
  pub each_same : (xs : List A) → ((x : A) → Kept x x) → EachKept Kept xs xs
  each_same xs r = λ k x e. (x, e, r x)

  pub each_after : (xs ys zs : List A) → ((x y z : A) → Kept x y → Kept y z → Kept x z) → EachKept Kept xs ys →
      EachKept Kept ys zs → EachKept Kept xs zs
  each_after xs ys zs t a b = λ k x e. let f = a k x e in let g = b k f.0 f.1 in (g.0, g.1, t x f.0 g.0 f.2 g.2)

  pub each_pushed : (xs : List A) (y : A) → ((x : A) → Kept x x) → EachKept Kept xs (xs ++ y ∷ [])
  each_pushed xs y r = λ k x e. (x, slice_get-longer xs (y ∷ []) k x e, r x)

  pub each_changed : (f : A → A) (xs : List A) (k : ℕ) → ((x : A) → Kept x x) → ((x : A) → Kept x (f x)) →
      EachKept Kept xs (changed_at f xs k)
  each_changed f [] k r h j y e = absurd (none-some y e)
  each_changed f (x ∷ xs) zero r h zero y e = (f x, refl, subst (λ z. Kept z (f x)) (same_Some x y e) (h x))
  each_changed f (x ∷ xs) zero r h (suc j) y e = (y, e, r y)
  each_changed f (x ∷ xs) (suc k) r h zero y e = (y, ap (λ ys. slice_get ys zero) (changed_cons f x xs k) ∙ e, r y)
  each_changed f (x ∷ xs) (suc k) r h (suc j) y e =
      let g = each_changed f xs k r h j y e in
      (g.0, ap (λ ys. slice_get ys (suc j)) (changed_cons f x xs k) ∙ g.1, g.2)

same_global : (x : GlobalDef) → IsSameGlobal x x
same_global x = refl

same_fun : (x : FunDef) → IsSameFun x x
same_fun x = refl

global_after : (x y z : GlobalDef) → IsSameGlobal x y → IsSameGlobal y z → IsSameGlobal x z
global_after x y z e f = f ∙ ap (λ (g : GlobalDef). record g { of = z.of }) e

fun_after : (x y z : FunDef) → IsSameFun x y → IsSameFun y z → IsSameFun x z
fun_after x y z e f = f ∙ ap (λ (g : FunDef). record g { name = z.name; pos = z.pos; of = z.of }) e

-- ---- programs

pub extends_same : (p q : Typed) → q ≡ p → Extends p q
extends_same p q e = subst (λ x. Extends p x) (sym e) (record {
  exprs = refl;
  stmts = refl;
  literals = refl;
  main = refl;
  count = omega arith;
  types = λ k lt. refl;
  globals = each_same IsSameGlobal p.globals same_global;
  funs = each_same IsSameFun p.funs same_fun;
})

pub extends_after : (p q r : Typed) → Extends p q → Extends q r → Extends p r
extends_after p q r a b = record {
  exprs = b.exprs ∙ a.exprs;
  stmts = b.stmts ∙ a.stmts;
  literals = b.literals ∙ a.literals;
  main = b.main ∙ a.main;
  count = omega (arith, a.count, b.count);
  types = λ k lt. b.types k (omega (arith, a.count)) ∙ a.types k lt;
  globals = each_after IsSameGlobal p.globals q.globals r.globals global_after a.globals b.globals;
  funs = each_after IsSameFun p.funs q.funs r.funs fun_after a.funs b.funs;
}

pub extends_longer : (p q : Typed) (added : List CType) → q.types ≡ p.types ++ added →
    q ≡ record p { types = q.types } → Extends p q
extends_longer p q added e r = record {
  exprs = ap (λ (x : Typed). x.exprs) r;
  stmts = ap (λ (x : Typed). x.stmts) r;
  literals = ap (λ (x : Typed). x.literals) r;
  main = ap (λ (x : Typed). x.main) r;
  count = rw e (omega (arith, length-append p.types added));
  types = λ k lt. ap (λ ts. type_at (types_of ts) k) e ∙ type_at-longer p.types added k lt;
  globals = subst (λ gs. EachKept IsSameGlobal p.globals gs) (sym (ap (λ (x : Typed). x.globals) r))
      (each_same IsSameGlobal p.globals same_global);
  funs = subst (λ fs. EachKept IsSameFun p.funs fs) (sym (ap (λ (x : Typed). x.funs) r))
      (each_same IsSameFun p.funs same_fun);
}

pub extends_types : (p q : Typed) → AddsTypes p q → Extends p q
extends_types p q a = extends_longer p q a.added a.types a.rest

extends_lists : (p : Typed) (gs : List GlobalDef) (fs : List FunDef) → EachKept IsSameGlobal p.globals gs →
    EachKept IsSameFun p.funs fs → Extends p (record p { globals = gs; funs = fs })
extends_lists p gs fs g f = record {
  exprs = refl;
  stmts = refl;
  literals = refl;
  main = refl;
  count = omega arith;
  types = λ k lt. refl;
  globals = g;
  funs = f;
}

pub extends_globals : (p : Typed) (gs : List GlobalDef) → EachKept IsSameGlobal p.globals gs →
    Extends p (record p { globals = gs })
extends_globals p gs g = extends_lists p gs p.funs g (each_same IsSameFun p.funs same_fun)

pub extends_funs : (p : Typed) (fs : List FunDef) → EachKept IsSameFun p.funs fs → Extends p (record p { funs = fs })
extends_funs p fs f = extends_lists p p.globals fs (each_same IsSameGlobal p.globals same_global) f

pub global_added : (p : Typed) (gs : List GlobalDef) (x : GlobalDef) → gs ≡ p.globals ++ x ∷ [] →
    Extends p (record p { globals = gs })
global_added p gs x e = extends_globals p gs
    (subst (λ xs. EachKept IsSameGlobal p.globals xs) (sym e) (each_pushed IsSameGlobal p.globals x same_global))

pub fun_added : (p : Typed) (fs : List FunDef) (x : FunDef) → fs ≡ p.funs ++ x ∷ [] → Extends p (record p { funs = fs })
fun_added p fs x e = extends_funs p fs (subst (λ xs. EachKept IsSameFun p.funs xs) (sym e)
    (each_pushed IsSameFun p.funs x same_fun))

pub global_changed : (p : Typed) (gs : List GlobalDef) (f : GlobalDef → GlobalDef) (k : ℕ) →
    gs ≡ changed_at f p.globals k → ((x : GlobalDef) → IsSameGlobal x (f x)) → Extends p (record p { globals = gs })
global_changed p gs f k e h =
    extends_globals p gs (subst (λ xs. EachKept IsSameGlobal p.globals xs) (sym e)
    (each_changed IsSameGlobal f p.globals k same_global h))

pub fun_changed : (p : Typed) (fs : List FunDef) (f : FunDef → FunDef) (k : ℕ) → fs ≡ changed_at f p.funs k →
    ((x : FunDef) → IsSameFun x (f x)) → Extends p (record p { funs = fs })
fun_changed p fs f k e h =
    extends_funs p fs (subst (λ xs. EachKept IsSameFun p.funs xs) (sym e)
    (each_changed IsSameFun f p.funs k same_fun h))

-- a struct or union gets its members
pub completed_extends : (p : Typed) (of n : ℕ) (k : RecordKind) (ms : List Member) →
    has_tag (slice_get p.types of) n ≡ true → Extends p (record p { types = set p.types of (completed_type k n ms) })
completed_extends p of n k ms e = record {
  exprs = refl;
  stmts = refl;
  literals = refl;
  main = refl;
  count = omega (arith, length-set p.types of (completed_type k n ms));
  types = λ j lt. ap (λ ts. type_at ts j) (types_of-completed p.types of n k ms e);
  globals = each_same IsSameGlobal p.globals same_global;
  funs = each_same IsSameFun p.funs same_fun;
}
