use Rattle.std.proofs.Common.{List, refl, ap, sym, ◌∙◌, Some, arith}
use Rattle.std.proofs.lemmas.Result.{err_from_is_err_and, IfOk-weaker}
use Rattle.ck_base.specs.Tokens.{Lexeme}
use Rattle.c_tree.specs.declared.syntax.NodeKind.TheVariants as Kinds
use Rattle.c_tree.specs.Syntax.{Syn, node, nil}
use Rattle.c_tree.specs.Grammar.{Expression}
use Rattle.c_phrases.specs.Reading.{read, bracketed, is_semicolon}
use Rattle.c_externals.specs.Statements.{return_from}
use Rattle.c_phrases.specs.Got.{in_force}
use Rattle.c_phrases.proofs.Made.{grows_same, grows_on, grows_to, bind_is, then_is, else_is, fails_bind, fails_same}
use Rattle.c_externals.proofs.Parted.{joined_reads, leaf_reads}
use Rattle.c_phrases.proofs.Paying.{took, stayed, noded, then_owed, owed_paid, owes, room_paid}
use Rattle.c_externals.proofs.statements.return_statement.Goals as goal

pub returns-then-takes : goal.returns-then-takes
unfolding return_from
returns-then-takes c = record {
  size = IfOk-weaker c.leaf.result _ _
      (λ p e. owes (then_owed {m = 0} (took c.args.cursor.now c.takes.new.self c.takes.ensures.nodes
      (c.takes.ensures.shorter c.if-takes.true))
      (noded c.takes.new.self c.leaf.new.self e c.leaf.ensures.rest) refl)) c.leaf.ensures.size;
  low = IfOk-weaker c.leaf.result _ _
      (λ p e. omega (arith, e)) c.leaf.ensures.low;
  tree = leaf_reads _ c.takes.new.self _ c.leaf.result c.leaf.ensures.tree c.leaf.ensures.grows c.leaf.ensures.rest
      (grows_to grows_same (sym c.takes.ensures.nodes)) refl
      (then_is _ (sym c.takes.ensures.found ∙ c.if-takes.true)
      ∙ ap (λ v. let q : Syn × List Lexeme = (node Kinds.Return c.args.own.now nil, v) in Some q)
      (sym (c.takes.ensures.taken c.if-takes.true)));
}

pub returns-in_err-value-clause-tree : goal.returns-in_err-value-clause-tree
unfolding return_from
returns-in_err-value-clause-tree c =
    let p = err_from_is_err_and c.from_residual.result c.from_residual.ensures.1 in rw (p.1, p.2)
    (fails_same _ (else_is _ (sym c.takes.ensures.found ∙ c.if-takes.false))
    (fails_bind _ _ _ (fails_same _ (ap (λ v.
    bracketed (read c.args.below) (Expression 0) is_semicolon (in_force c.args.types.now) v)
    (sym (c.takes.ensures.left c.if-takes.false))) c.in_err-value.ensures.tree)))

pub returns : goal.returns
unfolding return_from
returns c = record {
  size = IfOk-weaker c.join.result _ _
      (λ p e. owes (then_owed {m = 0} (owed_paid {m = 8}
      (stayed c.args.cursor.now c.takes.new.self c.takes.ensures.nodes
      (c.takes.ensures.left c.if-takes.false)) c.in_ok-value.ensures.size refl)
      (noded c.bracketed.new.cursor c.join.new.self e c.join.ensures.rest) refl)) c.join.ensures.size;
  low = IfOk-weaker c.join.result _ _
      (λ p e. omega (arith, e, c.in_ok-parts.ensures.size, c.in_ok-value.ensures.low)) c.join.ensures.low;
  tree = (let a = c.in_ok-value.ensures.tree in
      joined_reads _ c.bracketed.new.cursor _ c.join.result c.join.ensures.tree c.join.ensures.grows c.join.ensures.rest
      (c.in_ok-parts.ensures.one a.tree a.means)
      (grows_on (grows_to grows_same (sym c.takes.ensures.nodes)) a.grows)
      (else_is _ (sym c.takes.ensures.found ∙ c.if-takes.false)
      ∙ bind_is _ ((ap (λ v. bracketed (read c.args.below) (Expression 0) is_semicolon
      (in_force c.args.types.now) v) (sym (c.takes.ensures.left c.if-takes.false))) ∙ a.reads))
      c.place.ensures refl);
}

pub join-requires : goal.join-requires
join-requires c = record {
  room = room_paid (owed_paid {m = 8} (stayed c.args.cursor.now c.takes.new.self c.takes.ensures.nodes
      (c.takes.ensures.left c.if-takes.false)) c.in_ok-value.ensures.size refl) c.requires.room;
  height = omega (arith, c.in_ok-parts.ensures.size, c.in_ok-value.ensures.low, c.requires.height);
}
