use Rattle.std.proofs.lemmas.Result.{IfOk-weaker}
use Rattle.std.proofs.Common.{List, refl, ap, sym, ◌∙◌, Some, arith}
use Rattle.ck_base.specs.Tokens.{Lexeme}
use Rattle.c_tree.specs.declared.syntax.NodeKind.TheVariants as Kinds
use Rattle.c_tree.specs.Syntax.{Syn, node, nil}
use Rattle.c_tree.specs.Grammar.{Expression}
use Rattle.c_phrases.specs.Reading.{read, bracketed}
use Rattle.c_externals.specs.Statements.{declare, state, optional}
use Rattle.c_phrases.specs.Got.{in_force, is_mark}
use Rattle.c_phrases.proofs.Made.{grows_same, grows_to, then_is, else_is}
use Rattle.c_externals.proofs.Parted.{leaf_reads, reads_same}
use Rattle.c_phrases.proofs.Paying.{took_past, noded, then_owed}
use Rattle.c_externals.proofs.statements.optional.Goals as goal

pub returns-in_default-clause-tree : goal.returns-in_default-clause-tree
unfolding optional
returns-in_default-clause-tree c =
    ap (λ v. optional (read c.args.below) (declare c.args.below) (state c.args.below) (is_mark c.args.closing)
    (in_force c.args.types.now) v) c.in_default.ensures

pub returns-then-is_marked : goal.returns-then-is_marked
unfolding optional
returns-then-is_marked c = record {
  size = IfOk-weaker c.leaf.result _ _
      (λ p e. then_owed (took_past c.args.cursor.now c.advance.new.self c.in-Some.ensures
      c.advance.ensures.nodes c.advance.ensures.rest)
      (noded c.advance.new.self c.leaf.new.self e c.leaf.ensures.rest) refl) c.leaf.ensures.size;
  low = IfOk-weaker c.leaf.result _ _
      (λ p e. omega (arith, e)) c.leaf.ensures.low;
  tree = leaf_reads _ c.advance.new.self _ c.leaf.result c.leaf.ensures.tree c.leaf.ensures.grows c.leaf.ensures.rest
      (grows_to grows_same (sym c.advance.ensures.nodes)) refl
      (ap (λ v. optional (read c.args.below) (declare c.args.below) (state c.args.below) (is_mark c.args.closing)
      (in_force c.args.types.now) v) c.in-Some.ensures
      ∙ then_is _ (ap (λ v. is_mark c.args.closing v) (sym c.symbol.ensures) ∙ sym c.is_marked.ensures
      ∙ c.if-is_marked.true) ∙ ap (λ v. let q : Syn × List Lexeme = (node Kinds.Absent c.in-Some.item nil, v) in
      Some q) (sym c.advance.ensures.rest));
}

pub returns-clause-tree : goal.returns-clause-tree
unfolding optional
returns-clause-tree c =
    reads_same _ _ c.bracketed.result (ap (λ v.
    optional (read c.args.below) (declare c.args.below) (state c.args.below) (is_mark c.args.closing)
    (in_force c.args.types.now) v) c.in-Some.ensures
    ∙ else_is _ (ap (λ v. is_mark c.args.closing v) (sym c.symbol.ensures) ∙ sym c.is_marked.ensures
    ∙ c.if-is_marked.false) ∙ ap (λ v. bracketed (read c.args.below) (Expression 0) (is_mark c.args.closing)
    (in_force c.args.types.now) v) (sym c.in-Some.ensures)) c.bracketed.ensures.tree
