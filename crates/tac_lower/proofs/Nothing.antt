-- A program with nothing in it.
use Rattle.std.proofs.Common.{◌≡◌, ℕ, ◌≤◌, List, [], length, Some, None, sym, ap, ◌∙◌, arith}
use Rattle.std.specs.Prelude.{slice_get}
use Rattle.c_tree.specs.Views.{IsOrdered}
use Rattle.c_tree.specs.TreeWeight.{HasLightFunctions}
use Rattle.c_tree.specs.declared.typed.Typed.{Typed}
use Rattle.cheri_c_sem.specs.Order.{Ordered}
use Rattle.tac_lower.specs.Functions.{AreTypedFunctions}

no_item : {A : Type 0} (xs : List A) (k : ℕ) (x : A) → xs ≡ [] → slice_get xs k ≡ Some x → ⊥
no_item xs k x e h = let q : None ≡ Some x = sym (ap (λ z. slice_get z k) e) ∙ h in cc

module _ (p : Typed) (types : p.types ≡ []) (globals : p.globals ≡ []) (funs : p.funs ≡ []) (exprs : p.exprs ≡ [])
    (stmts : p.stmts ≡ []) where
  pub nothing_follows : Ordered p
  nothing_follows = record {
    exprs = λ k e is. absurd (no_item p.exprs k e exprs is);
    stmts = λ k s is. absurd (no_item p.stmts k s stmts is);
  }

  pub nothing_ordered : IsOrdered p
  nothing_ordered = record {
    types = λ k c is. absurd (no_item p.types k c types is);
    typed = λ k e is. absurd (no_item p.exprs k e exprs is);
    operands_before = λ k j a e is. absurd (no_item p.exprs k e exprs is);
    values_there = λ k j a s is. absurd (no_item p.stmts k s stmts is);
    parts_before = λ k j a s is. absurd (no_item p.stmts k s stmts is);
    globals = λ k g is. absurd (no_item p.globals k g globals is);
    funs = λ k f is. absurd (no_item p.funs k f funs is);
    vars = λ k j f v is. absurd (no_item p.funs k f funs is);
    expressions_once = λ k lt. absurd (let none = ap (λ z. length z) exprs in omega arith);
    statements_once = λ k lt. absurd (let none = ap (λ z. length z) stmts in omega arith);
  }

  pub nothing_typed : AreTypedFunctions p
  nothing_typed = record { each = λ k d is. absurd (no_item p.funs k d funs is) }

  pub nothing_light : HasLightFunctions p
  nothing_light = record { each = λ k d is. absurd (no_item p.funs k d funs is) }
