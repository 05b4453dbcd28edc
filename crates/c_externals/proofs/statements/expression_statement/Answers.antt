use Rattle.std.proofs.Common.{refl, arith}
use Rattle.std.proofs.lemmas.Result.{err_from_is_err_and, IfOk-weaker}
use Rattle.c_tree.specs.Syntax.{one, first_token}
use Rattle.c_externals.specs.Statements.{expression_from}
use Rattle.c_phrases.proofs.Made.{bind_is, fails_bind}
use Rattle.c_externals.proofs.Parted.{made_reads}
use Rattle.c_phrases.proofs.Paying.{noded, then_owed, room_paid}
use Rattle.c_externals.proofs.statements.expression_statement.Goals as goal

pub returns-in_err-whole-clause-tree : goal.returns-in_err-whole-clause-tree
unfolding expression_from
returns-in_err-whole-clause-tree c =
    let p = err_from_is_err_and c.from_residual.result c.from_residual.ensures.1 in rw (p.1, p.2)
    (fails_bind _ _ _ c.in_err-whole.ensures.tree)

pub returns : goal.returns
unfolding expression_from
returns c = record {
  size = IfOk-weaker c.make.result _ _
      (λ p e. then_owed c.in_ok-whole.ensures.size
      (noded c.bracketed.new.cursor c.make.new.self e.0 c.make.ensures.rest) refl) c.make.ensures.size;
  low = IfOk-weaker c.make.result _ _
      (λ p e. omega (arith, e, c.in_ok-parts.ensures.size, c.in_ok-whole.ensures.low)) c.make.ensures.low;
  tree = (let a = c.in_ok-whole.ensures.tree in
      made_reads _ c.bracketed.new.cursor _ (first_token a.tree)
      (one a.tree) c.make.result c.make.ensures.tree c.make.ensures.rest
      (record { kind = refl; own = a.means.root.first; first = a.means.root.first; names = refl })
      (c.in_ok-parts.ensures.one a.tree a.means)
      a.grows
      (bind_is _ a.reads));
}

pub make-requires : goal.make-requires
make-requires c = record {
  room = room_paid c.in_ok-whole.ensures.size c.requires.room;
  height = omega (arith, c.in_ok-parts.ensures.size, c.in_ok-whole.ensures.low, c.requires.height);
}
