-- Types, expressions and statements of which nothing is asked.
use Rattle.std.proofs.Common.{◌≡◌, ℕ, List, Option, refl}
use Rattle.c_tree.specs.declared.typed.CType.{CType}
use Rattle.c_tree.specs.declared.typed.CType.TheVariants as ctypes
use Rattle.c_tree.specs.declared.typed.ExprKind.{ExprKind}
use Rattle.c_tree.specs.declared.typed.ExprKind.TheVariants as exprs
use Rattle.c_tree.specs.declared.typed.StmtKind.{StmtKind}
use Rattle.c_tree.specs.declared.typed.StmtKind.TheVariants as stmts
use Rattle.c_tree.specs.declared.typed.Typed.{Typed}
use Rattle.plain_programs.specs.Plain.{TypePlain, CallPlain, ReturnPlain}

pub other_type : (types : List CType) (c : CType) → ((t : ℕ) (ps : List ℕ) → c ≡ ctypes.Function t ps → ⊥) →
    TypePlain types c
other_type types (ctypes.Function t ps) h = absurd (h t ps refl)
other_type types c h = tt

pub other_kind : (p : Typed) (k : ExprKind) (of : ℕ) → ((f : ℕ) (xs : List ℕ) → k ≡ exprs.Call f xs → ⊥) →
    CallPlain p k of
other_kind p (exprs.Call f xs) of h = absurd (h f xs refl)
other_kind p k of h = tt

pub other_statement : (p : Typed) (k : StmtKind) → ((a : Option ℕ) → k ≡ stmts.Return a → ⊥) → ReturnPlain p k
other_statement p (stmts.Return a) h = absurd (h a refl)
other_statement p k h = tt
