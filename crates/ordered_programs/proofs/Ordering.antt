-- A program whose nodes are in order.
use Rattle.std.proofs.Common.{◌≡◌, Bool, false, List, [], ◌∷◌, ◌++◌, length, refl, sym, ap, subst, ◌∙◌}
use Rattle.std.specs.Prelude.{replicate, flat_map}
use Rattle.std.proofs.lemmas.List.{length-replicate}
use Rattle.c_tree.specs.declared.typed.Expr.{Expr}
use Rattle.c_tree.specs.declared.typed.Stmt.{Stmt}
use Rattle.c_tree.specs.declared.typed.FunDef.{FunDef}
use Rattle.c_tree.specs.declared.typed.Typed.{Typed}
use Rattle.c_tree.specs.Views.{operands, parts, expression_uses, statement_uses, IsOrdered}
use Rattle.ordered_programs.specs.Uses.{HasMarks, AllMarked}
use Rattle.ordered_programs.specs.Ordered.{GlobalsTyped, TypesOrdered, ExprsOrdered, StmtsOrdered, FunctionsOrdered}
use Rattle.ordered_programs.proofs.Marking.{no_marks, once, bodies_listed}

-- the marks of the expressions and of the statements, behind each list
pub record Marked (p : Typed) (exprs exprs_mid exprs_end stmts stmts_mid stmts_end : List Bool) : Type 0 where
  pub no_exprs : exprs ≡ replicate (length p.exprs) false
  pub no_stmts : stmts ≡ replicate (length p.stmts) false
  pub exprs_ordered : ExprsOrdered (length p.types) p.exprs exprs exprs_mid
  pub stmts_ordered : StmtsOrdered (length p.exprs) p.stmts exprs_mid exprs_end stmts stmts_mid
  pub funs_ordered : FunctionsOrdered (length p.types) (length p.stmts) p.funs stmts_mid stmts_end
  pub all_exprs : AllMarked exprs_end
  pub all_stmts : AllMarked stmts_end

pub nodes_ordered : (p : Typed) (xs ys zs ss ts us : List Bool) → Marked p xs ys zs ss ts us → TypesOrdered p.types →
    GlobalsTyped (length p.types) p.globals → IsOrdered p
nodes_ordered p xs ys zs ss ts us m types globals =
    let es = m.exprs_ordered in
    let vs = m.stmts_ordered in
    let fs = m.funs_ordered in
    let first : HasMarks xs [] = subst (λ ms. HasMarks ms []) (sym m.no_exprs) (no_marks (length p.exprs)) in
    let start : HasMarks ss [] = subst (λ ms. HasMarks ms []) (sym m.no_stmts) (no_marks (length p.stmts)) in
    let used : HasMarks zs (expression_uses p) =
    vs.values.adds (flat_map (λ (e : Expr). operands e.kind) p.exprs) (es.operands.adds [] first) in
    let held : HasMarks us (flat_map (λ (s : Stmt). parts s.kind) p.stmts
    ++ flat_map (λ (f : FunDef). f.body ∷ []) p.funs) =
    fs.bodies.adds (flat_map (λ (s : Stmt). parts s.kind) p.stmts) (vs.parts.adds [] start) in
    let taken : HasMarks us (statement_uses p) =
    subst (λ ks. HasMarks us (flat_map (λ (s : Stmt). parts s.kind) p.stmts ++ ks))
    (bodies_listed (λ (f : FunDef). f.body) p.funs) held in
    let exprs_count : length zs ≡ length p.exprs =
    vs.values.count ∙ es.operands.count ∙ ap length m.no_exprs ∙ length-replicate (length p.exprs) false in
    let stmts_count : length us ≡ length p.stmts =
    fs.bodies.count ∙ vs.parts.count ∙ ap length m.no_stmts ∙ length-replicate (length p.stmts) false in
    record {
      types = types;
      typed = es.typed;
      operands_before = es.operands.below;
      values_there = vs.values.below;
      parts_before = vs.parts.below;
      globals = globals;
      funs = λ k f e. ((fs.typed k f e).of, fs.bodies.below k 0 f.body f e refl);
      vars = λ k j f v e g. (fs.typed k f e).vars j v g;
      expressions_once = once (length p.exprs) zs (expression_uses p) exprs_count used m.all_exprs;
      statements_once = once (length p.stmts) us (statement_uses p) stmts_count taken m.all_stmts;
    }
