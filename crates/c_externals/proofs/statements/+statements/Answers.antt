use Rattle.std.proofs.Common.{◌-◌, ◌∷◌, Ok, List, length, subst, refl, arith, ap, sym, ◌∙◌, Some}
use Rattle.std.proofs.lemmas.Result.{err_from_is_err_and, IfOk-weaker}
use Rattle.ck_base.specs.Tokens.{Lexeme}
use Rattle.c_tree.specs.declared.syntax.NodeKind.TheVariants as Kinds
use Rattle.c_tree.specs.Syntax.{Syn, node, nil, one, two}
use Rattle.c_tree.specs.Symbols.{symbol}
use Rattle.c_phrases.specs.Reading.{read, starts_with, begins_type, past}
use Rattle.c_externals.specs.Statements.{condition, declare, state, while_from, do_from, if_from, for_behind, for_from}
use Rattle.c_externals.specs.Statements.{block_from, switch_from}
use Rattle.c_phrases.specs.Got.{rest_of, in_force, Holds}
use Rattle.c_externals.specs.declared.statements.Label.TheVariants as Labels
use Rattle.c_externals.specs.Blocks.{opening_of, label_of, labelled_by, none, next}
use Rattle.c_phrases.proofs.Made.{grows_same, grows_on, grows_to, means_on, holds_on, holds_more, bind_is, then_is}
use Rattle.c_phrases.proofs.Made.{else_is, fails_bind, fails_after, fails_memory, fails_same}
use Rattle.c_externals.proofs.Parted.{joined_reads, meant_reads, reads_same, reads_after}
use Rattle.c_externals.proofs.Declared.{unafter, fails_unafter}
use Rattle.c_externals.proofs.Entered.{labelled_is, state_none, state_end, state_opens, state_expression, after_nil}
use Rattle.c_externals.proofs.Entered.{extends_on, enters_step, enters_fail, enters_end, enters_none}
use Rattle.c_phrases.proofs.Paying.{took, took_past, stayed, noded, then_paid, then_owed, owed_owed, owes, room_paid}
use Rattle.c_phrases.proofs.Paying.{room_owed, roomy_paid}
use Rattle.c_externals.proofs.statements.+statements.Goals as goal

pub while_statement-returns-in_err-test : goal.while_statement-returns-in_err-test
unfolding while_from
while_statement-returns-in_err-test t c =
    let p = err_from_is_err_and c.from_residual.result c.from_residual.ensures.1 in
    rw (p.1, p.2) (record { size = tt; low = tt; names = tt; tree = (fails_bind _ _ _ c.in_err-test.ensures.tree) })

pub while_statement-returns-in_err-body : goal.while_statement-returns-in_err-body
unfolding while_from
while_statement-returns-in_err-body t c =
    let p = err_from_is_err_and c.from_residual-in_err-body.result c.from_residual-in_err-body.ensures.1 in
    rw (p.1, p.2) (record {
      size = tt;
      low = tt;
      names = tt;
      tree =
          (fails_after _ _ _ _ c.in_ok-test.ensures.tree.reads (fails_bind _ _ _ c.in_err-body.ensures.tree));
    })

pub while_statement-returns : goal.while_statement-returns
unfolding while_from
while_statement-returns t c = record {
  size = IfOk-weaker c.node_of.result _ _
      (λ p e. owes (then_owed {m = 0} (then_paid c.in_ok-test.ensures.size c.in_ok-body.ensures.size)
      (noded c.statement.new.cursor c.node_of.new.cursor e c.node_of.ensures.rest) refl)) c.node_of.ensures.size;
  low = c.node_of.ensures.low;
  names = IfOk-weaker c.node_of.result _ _ (λ p e. c.in_ok-body.ensures.names) c.node_of.ensures.size;
  tree = let a = c.in_ok-test.ensures.tree in let b = c.in_ok-body.ensures.tree in
      meant_reads _ c.statement.new.cursor _ c.node_of.result c.node_of.ensures.tree
      c.node_of.ensures.grows c.node_of.ensures.rest
      (next (means_on b.grows a.means) (next b.means none))
      (grows_on a.grows b.grows)
      (bind_is _ a.reads ∙ bind_is _ b.reads)
      refl refl;
}

pub do_statement-returns-in_err-body : goal.do_statement-returns-in_err-body
unfolding do_from
do_statement-returns-in_err-body t c =
    let p = err_from_is_err_and c.from_residual.result c.from_residual.ensures.1 in
    rw (p.1, p.2) (record { size = tt; low = tt; names = tt; tree = (fails_bind _ _ _ c.in_err-body.ensures.tree) })

pub do_statement-returns-in_err-expect : goal.do_statement-returns-in_err-expect
unfolding do_from
do_statement-returns-in_err-expect t c =
    let p = err_from_is_err_and c.from_residual-in_err-expect.result c.from_residual-in_err-expect.ensures.1 in
    rw (p.1, p.2) (record {
      size = tt;
      low = tt;
      names = tt;
      tree =
          (fails_after _ _ _ _ c.in_ok-body.ensures.tree.reads (fails_bind _ _ _ c.in_err-expect.ensures.found));
    })

pub do_statement-returns-in_err-test : goal.do_statement-returns-in_err-test
unfolding do_from
do_statement-returns-in_err-test t c =
    let p = err_from_is_err_and c.from_residual-in_err-test.result c.from_residual-in_err-test.ensures.1 in
    rw (p.1, p.2) (record {
      size = tt;
      low = tt;
      names = tt;
      tree =
          (fails_after _ _ _ _ c.in_ok-body.ensures.tree.reads
          (fails_after _ _ _ _ c.in_ok-expect.ensures.found
          (fails_bind _ _ _ (fails_same _ (ap (λ v.
          condition (read c.args.below) (declare c.args.below) (state c.args.below) v (rest_of c.expect.new.self))
          (sym c.in_ok-body.ensures.names)) c.in_err-test.ensures.tree))));
    })

pub do_statement-returns-in_err-expect-2 : goal.do_statement-returns-in_err-expect-2
unfolding do_from
do_statement-returns-in_err-expect-2 t c =
    let p = err_from_is_err_and c.from_residual-in_err-expect-2.result c.from_residual-in_err-expect-2.ensures.1 in
    rw (p.1, p.2) (record {
      size = tt;
      low = tt;
      names = tt;
      tree =
          (fails_after _ _ _ _ c.in_ok-body.ensures.tree.reads
          (fails_after _ _ _ _ c.in_ok-expect.ensures.found
          (fails_after _ _ _ _ ((ap (λ v. condition (read c.args.below) (declare c.args.below) (state c.args.below) v
          (rest_of c.expect.new.self)) (sym c.in_ok-body.ensures.names)) ∙ c.in_ok-test.ensures.tree.reads)
          (fails_bind _ _ _ c.in_err-expect-2.ensures.found))));
    })

pub do_statement-returns : goal.do_statement-returns
unfolding do_from
do_statement-returns t c = record {
  size = IfOk-weaker c.node_of.result _ _
      (λ p e. owes (then_owed {m = 0} (then_paid (then_paid (then_paid c.in_ok-body.ensures.size
      (took c.statement.new.cursor c.expect.new.self c.expect.ensures.nodes c.in_ok-expect.ensures.size))
      c.in_ok-test.ensures.size) (took c.condition.new.cursor c.expect-2.new.self c.expect-2.ensures.nodes
      c.in_ok-expect-2.ensures.size))
      (noded c.expect-2.new.self c.node_of.new.cursor e c.node_of.ensures.rest) refl)) c.node_of.ensures.size;
  low = c.node_of.ensures.low;
  names = IfOk-weaker c.node_of.result _ _ (λ p e. c.in_ok-body.ensures.names) c.node_of.ensures.size;
  tree = let a = c.in_ok-body.ensures.tree in let b = c.in_ok-test.ensures.tree in
      let kept = grows_to grows_same (sym c.in_ok-expect-2.ensures.nodes) in
      let grown = grows_to b.grows (sym c.in_ok-expect-2.ensures.nodes) in
      meant_reads _ c.expect-2.new.self _ c.node_of.result c.node_of.ensures.tree
      c.node_of.ensures.grows c.node_of.ensures.rest
      (next (means_on (grows_on (grows_to grows_same (sym c.in_ok-expect.ensures.nodes)) grown) a.means)
      (next (means_on kept b.means) none))
      (grows_on (grows_to a.grows (sym c.in_ok-expect.ensures.nodes)) grown)
      (bind_is _ a.reads ∙ bind_is _ c.in_ok-expect.ensures.found
      ∙ bind_is _ ((ap (λ v. condition (read c.args.below) (declare c.args.below) (state c.args.below) v
      (rest_of c.expect.new.self)) (sym c.in_ok-body.ensures.names)) ∙ b.reads)
      ∙ bind_is _ c.in_ok-expect-2.ensures.found)
      refl refl;
}

pub if_statement-returns-in_err-test : goal.if_statement-returns-in_err-test
unfolding if_from
if_statement-returns-in_err-test t c =
    let p = err_from_is_err_and c.from_residual.result c.from_residual.ensures.1 in
    rw (p.1, p.2) (record { size = tt; low = tt; names = tt; tree = (fails_bind _ _ _ c.in_err-test.ensures.tree) })

pub if_statement-returns-in_err-yes : goal.if_statement-returns-in_err-yes
unfolding if_from
if_statement-returns-in_err-yes t c =
    let p = err_from_is_err_and c.from_residual-in_err-yes.result c.from_residual-in_err-yes.ensures.1 in
    rw (p.1, p.2) (record {
      size = tt;
      low = tt;
      names = tt;
      tree = (fails_after _ _ _ _ c.in_ok-test.ensures.tree.reads (fails_bind _ _ _ c.in_err-yes.ensures.tree));
    })

pub if_statement-returns-in_err-no : goal.if_statement-returns-in_err-no
unfolding if_from
if_statement-returns-in_err-no t c =
    let p = err_from_is_err_and c.from_residual-in_err-no.result c.from_residual-in_err-no.ensures.1 in
    rw (p.1, p.2) (record {
      size = tt;
      low = tt;
      names = tt;
      tree = (fails_after _ _ _ _ c.in_ok-test.ensures.tree.reads
          (fails_after _ _ _ _ c.in_ok-yes.ensures.tree.reads
          (fails_same _ (then_is _ (sym c.takes.ensures.found ∙ c.if-takes.true))
          (fails_bind _ _ _ (fails_same _ (ap (λ v. state c.args.below (in_force c.args.types.now) v)
          (sym (c.takes.ensures.taken c.if-takes.true))
          ∙ ap (λ v. state c.args.below v (rest_of c.takes.new.self)) (sym c.in_ok-yes.ensures.names))
          c.in_err-no.ensures.tree)))));
    })

pub if_statement-returns-then-takes : goal.if_statement-returns-then-takes
unfolding if_from
if_statement-returns-then-takes t c = record {
  size = IfOk-weaker c.node_of.result _ _
      (λ p e. owes (then_owed {m = 0} (then_paid
      (then_paid (then_paid c.in_ok-test.ensures.size c.in_ok-yes.ensures.size)
      (took c.statement.new.cursor c.takes.new.self c.takes.ensures.nodes
      (c.takes.ensures.shorter c.if-takes.true))) c.in_ok-no.ensures.size)
      (noded c.statement-then-takes.new.cursor c.node_of.new.cursor e c.node_of.ensures.rest) refl))
      c.node_of.ensures.size;
  low = c.node_of.ensures.low;
  names = IfOk-weaker c.node_of.result _ _
      (λ p e. c.in_ok-no.ensures.names ∙ c.in_ok-yes.ensures.names) c.node_of.ensures.size;
  tree = let a = c.in_ok-test.ensures.tree in let b = c.in_ok-yes.ensures.tree in
      let d = c.in_ok-no.ensures.tree in
      let grown = grows_on (grows_to grows_same (sym c.takes.ensures.nodes)) d.grows in
      meant_reads _ c.statement-then-takes.new.cursor _ c.node_of.result c.node_of.ensures.tree
      c.node_of.ensures.grows c.node_of.ensures.rest
      (next (means_on (grows_on b.grows grown) a.means) (next (means_on grown b.means) (next d.means none)))
      (grows_on (grows_on a.grows b.grows) grown)
      (bind_is _ a.reads ∙ bind_is _ b.reads ∙ then_is _ (sym c.takes.ensures.found ∙ c.if-takes.true)
      ∙ bind_is _ ((ap (λ v. state c.args.below (in_force c.args.types.now) v)
      (sym (c.takes.ensures.taken c.if-takes.true))
      ∙ ap (λ v. state c.args.below v (rest_of c.takes.new.self)) (sym c.in_ok-yes.ensures.names)) ∙ d.reads))
      refl refl;
}

pub if_statement-returns : goal.if_statement-returns
unfolding if_from
if_statement-returns t c = record {
  size = IfOk-weaker c.node_of-2.result _ _
      (λ p e. owes (then_owed {m = 0} (then_owed {m = 16} (then_paid c.in_ok-test.ensures.size c.in_ok-yes.ensures.size)
      (stayed c.statement.new.cursor c.takes.new.self c.takes.ensures.nodes
      (c.takes.ensures.left c.if-takes.false)) refl)
      (noded c.takes.new.self c.node_of-2.new.cursor e c.node_of-2.ensures.rest) refl)) c.node_of-2.ensures.size;
  low = c.node_of-2.ensures.low;
  names = IfOk-weaker c.node_of-2.result _ _ (λ p e. c.in_ok-yes.ensures.names) c.node_of-2.ensures.size;
  tree = let a = c.in_ok-test.ensures.tree in let b = c.in_ok-yes.ensures.tree in
      let grown = grows_to grows_same (sym c.takes.ensures.nodes) in
      meant_reads _ c.takes.new.self _ c.node_of-2.result c.node_of-2.ensures.tree
      c.node_of-2.ensures.grows c.node_of-2.ensures.rest
      (next (means_on (grows_on b.grows grown) a.means) (next (means_on grown b.means) none))
      (grows_on (grows_on a.grows b.grows) grown)
      (bind_is _ a.reads ∙ bind_is _ b.reads ∙ else_is _ (sym c.takes.ensures.found ∙ c.if-takes.false)
      ∙ ap (λ v. let q : Syn × List Lexeme = (node Kinds.If c.args.own.now (two a.tree b.tree), v) in Some q)
      (sym (c.takes.ensures.left c.if-takes.false)))
      refl refl;
}

pub for_behind-returns-in_err-second : goal.for_behind-returns-in_err-second
unfolding for_behind
for_behind-returns-in_err-second t c =
    let p = err_from_is_err_and c.from_residual.result c.from_residual.ensures.1 in
    rw (p.1, p.2) (record {
      size = tt;
      low = tt;
      names = tt;
      tree = λ x m. (fails_bind _ _ _ c.in_err-second.ensures.tree);
    })

pub for_behind-returns-in_err-third : goal.for_behind-returns-in_err-third
unfolding for_behind
for_behind-returns-in_err-third t c =
    let p = err_from_is_err_and c.from_residual-in_err-third.result c.from_residual-in_err-third.ensures.1 in
    rw (p.1, p.2) (record {
      size = tt;
      low = tt;
      names = tt;
      tree = λ x m. (fails_after _ _ _ _ c.in_ok-second.ensures.tree.reads
          (fails_bind _ _ _ c.in_err-third.ensures.tree));
    })

pub for_behind-returns-in_err-body : goal.for_behind-returns-in_err-body
unfolding for_behind
for_behind-returns-in_err-body t c =
    let p = err_from_is_err_and c.from_residual-in_err-body.result c.from_residual-in_err-body.ensures.1 in
    rw (p.1, p.2) (record {
      size = tt;
      low = tt;
      names = tt;
      tree = λ x m. (fails_after _ _ _ _ c.in_ok-second.ensures.tree.reads
          (fails_after _ _ _ _ c.in_ok-third.ensures.tree.reads (fails_bind _ _ _ c.in_err-body.ensures.tree)));
    })

pub for_behind-returns : goal.for_behind-returns
unfolding for_behind
for_behind-returns t c = record {
  size = IfOk-weaker c.node_of.result _ _
      (λ p e. owes (then_owed {m = 0} (then_paid (then_paid c.in_ok-second.ensures.size c.in_ok-third.ensures.size)
      c.in_ok-body.ensures.size)
      (noded c.statement.new.cursor c.node_of.new.cursor e c.node_of.ensures.rest) refl)) c.node_of.ensures.size;
  low = c.node_of.ensures.low;
  names = IfOk-weaker c.node_of.result _ _ (λ p e. c.in_ok-body.ensures.names) c.node_of.ensures.size;
  tree = λ x m.
      let a = c.in_ok-second.ensures.tree in let b = c.in_ok-third.ensures.tree in let d = c.in_ok-body.ensures.tree in
      let last = grows_on b.grows d.grows in let all = grows_on a.grows last in
      meant_reads _ c.statement.new.cursor _ c.node_of.result c.node_of.ensures.tree
      c.node_of.ensures.grows c.node_of.ensures.rest
      (next (means_on all m) (next (means_on last a.means) (next (means_on d.grows b.means) (next d.means none))))
      all
      (bind_is _ a.reads ∙ bind_is _ b.reads ∙ bind_is _ d.reads)
      refl refl;
}

pub for_statement-returns-in_err-expect : goal.for_statement-returns-in_err-expect
unfolding for_from
for_statement-returns-in_err-expect t c =
    let p = err_from_is_err_and c.from_residual.result c.from_residual.ensures.1 in
    rw (p.1, p.2) (record { size = tt; low = tt; names = tt; tree = (fails_bind _ _ _ c.in_err-expect.ensures.found) })

pub for_statement-returns-in_err-first : goal.for_statement-returns-in_err-first
unfolding for_from
for_statement-returns-in_err-first t c =
    let p = err_from_is_err_and c.from_residual-in_err-first.result c.from_residual-in_err-first.ensures.1 in
    rw (p.1, p.2) (record {
      size = tt;
      low = tt;
      names = tt;
      tree =
          (fails_after _ _ _ _ c.in_ok-expect.ensures.found
          (fails_same _ (else_is _ (ap (λ v. starts_with (begins_type (in_force c.args.types.now)) v)
          (sym c.rest.ensures) ∙ sym c.start.ensures ∙ c.if-not-start.true))
          (fails_bind _ _ _ c.in_err-first.ensures.tree)));
    })

pub for_statement-returns-then-not-start : goal.for_statement-returns-then-not-start
unfolding for_from
for_statement-returns-then-not-start t c = record {
  size = IfOk-weaker c.for_behind.result _ _
      (λ p q. owes (then_owed {m = 0} (then_paid
      (took c.args.cursor.now c.expect.new.self c.expect.ensures.nodes c.in_ok-expect.ensures.size)
      c.in_ok-first.ensures.size) q refl)) c.for_behind.ensures.size;
  low = c.for_behind.ensures.low;
  names = c.for_behind.ensures.names;
  tree = (let a = c.in_ok-first.ensures.tree in
      reads_after _ c.optional.new.cursor _ c.for_behind.result
      (bind_is _ c.in_ok-expect.ensures.found
      ∙ else_is _ (ap (λ v. starts_with (begins_type (in_force c.args.types.now)) v) (sym c.rest.ensures)
      ∙ sym c.start.ensures ∙ c.if-not-start.true) ∙ bind_is _ a.reads)
      (grows_on (grows_to grows_same (sym c.in_ok-expect.ensures.nodes)) a.grows)
      (c.for_behind.ensures.tree a.tree a.means));
}

pub for_statement-returns-in_err-declaration-clause-tree : goal.for_statement-returns-in_err-declaration-clause-tree
unfolding for_from
for_statement-returns-in_err-declaration-clause-tree t c =
    let p = err_from_is_err_and c.from_residual-in_err-declaration.result c.from_residual-in_err-declaration.ensures.1
    in rw (p.1, p.2)
    (fails_after _ _ _ _ c.in_ok-expect.ensures.found
    (fails_same _ (then_is _ (ap (λ v. starts_with (begins_type (in_force c.args.types.now)) v)
    (sym c.rest.ensures) ∙ sym c.start.ensures ∙ c.if-not-start.false))
    (fails_bind _ _ _ c.in_err-declaration.ensures.tree)))

pub for_statement-returns-in_err-part : goal.for_statement-returns-in_err-part
unfolding for_from
for_statement-returns-in_err-part t c =
    let p = err_from_is_err_and c.from_residual-in_err-part.result c.from_residual-in_err-part.ensures.1 in
    rw (p.1, p.2) (record {
      size = tt;
      low = tt;
      names = tt;
      tree =
          (let d = c.in_ok-declaration.ensures.tree in
          fails_after _ _ _ _ c.in_ok-expect.ensures.found
          (fails_same _ (then_is _ (ap (λ v. starts_with (begins_type (in_force c.args.types.now)) v)
          (sym c.rest.ensures)
          ∙ sym c.start.ensures ∙ c.if-not-start.false))
          (fails_after _ _ _ _ d.reads (fails_same _
          (ap (λ v. for_behind (read c.args.below) (declare c.args.below) (state c.args.below) c.args.own.now d.tree v
          (rest_of c.declare.new.cursor)) (sym d.names)) (c.in_err-part.ensures.tree d.tree d.means)))));
    })

pub for_statement-returns-clause-tree : goal.for_statement-returns-clause-tree
unfolding for_from
for_statement-returns-clause-tree t c =
    let d = c.in_ok-declaration.ensures.tree in
    reads_after _ c.declare.new.cursor c.for_behind-2.new.cursor (Ok c.in_ok-part.part)
    (bind_is _ c.in_ok-expect.ensures.found
    ∙ then_is _ (ap (λ v. starts_with (begins_type (in_force c.args.types.now)) v) (sym c.rest.ensures)
    ∙ sym c.start.ensures ∙ c.if-not-start.false) ∙ bind_is _ d.reads
    ∙ ap (λ v. for_behind (read c.args.below) (declare c.args.below) (state c.args.below) c.args.own.now d.tree v
    (rest_of c.declare.new.cursor)) (sym d.names))
    (grows_on (grows_to grows_same (sym c.in_ok-expect.ensures.nodes)) d.grows)
    (c.in_ok-part.ensures.tree d.tree d.means)

pub labelled-returns-in-Case-clause-tree : goal.labelled-returns-in-Case-clause-tree
labelled-returns-in-Case-clause-tree t c =
    reads_after _ c.advance.new.self _ c.case_label.result
    (labelled_is (read c.args.below) (declare c.args.below) (state c.args.below) c.args.item.now
    (in_force c.args.types.now) (past (rest_of c.args.cursor.now)) c.args.in_switch (symbol c.args.item.now)
    ∙ ap (λ l. labelled_by (read c.args.below) (declare c.args.below) (state c.args.below) l c.args.item.now
    (in_force c.args.types.now) (past (rest_of c.args.cursor.now)))
    (ap (λ v. label_of c.args.in_switch v) (sym c.symbol.ensures) ∙ sym c.in-Case.ensures)
    ∙ ap (λ v. labelled_by (read c.args.below) (declare c.args.below) (state c.args.below) Labels.Case c.args.item.now
    (in_force c.args.types.now) v) (sym c.advance.ensures.rest))
    (grows_to grows_same (sym c.advance.ensures.nodes)) c.case_label.ensures.tree

pub labelled-returns-in-Default-clause-tree : goal.labelled-returns-in-Default-clause-tree
labelled-returns-in-Default-clause-tree t c =
    reads_after _ c.advance-in-Default.new.self _ c.default_label.result
    (labelled_is (read c.args.below) (declare c.args.below) (state c.args.below) c.args.item.now
    (in_force c.args.types.now) (past (rest_of c.args.cursor.now)) c.args.in_switch (symbol c.args.item.now)
    ∙ ap (λ l. labelled_by (read c.args.below) (declare c.args.below) (state c.args.below) l c.args.item.now
    (in_force c.args.types.now) (past (rest_of c.args.cursor.now)))
    (ap (λ v. label_of c.args.in_switch v) (sym c.symbol.ensures) ∙ sym c.in-Default.ensures)
    ∙ ap (λ v. labelled_by (read c.args.below) (declare c.args.below)
    (state c.args.below) Labels.Default c.args.item.now (in_force c.args.types.now) v)
    (sym c.advance-in-Default.ensures.rest))
    (grows_to grows_same (sym c.advance-in-Default.ensures.nodes))
    (c.default_label.ensures.tree c.args.below (in_force c.args.types.now))

pub items-returns-then-takes-clause-tree : goal.items-returns-then-takes-clause-tree
items-returns-then-takes-clause-tree t c =
    λ ys h. enters_end c.takes.new.self (c.loop-item.invariant.enters ys h)
    (sym c.takes.ensures.found ∙ c.if-takes.true) c.takes.ensures.nodes (c.takes.ensures.taken c.if-takes.true)

pub items-returns-in_err-part : goal.items-returns-in_err-part
items-returns-in_err-part t c =
    let p = err_from_is_err_and c.from_residual.result c.from_residual.ensures.1 in
    rw (p.1, p.2) (record {
      size = tt;
      low = tt;
      names = tt;
      tree = λ ys h. (enters_fail c.takes.new.self _ (c.loop-item.invariant.enters ys h) c.in-Some.ensures
          (sym c.takes.ensures.found ∙ c.if-takes.false)
          (c.takes.ensures.left c.if-takes.false) c.in_err-part.ensures.tree);
    })

pub items-loop-item-preserved : goal.items-loop-item-preserved
items-loop-item-preserved t c =
    let s = c.loop-item.invariant.size in
    let room = s.room in let shorter = s.shorter in let grows = s.grows in
    let q = c.in_ok-part.ensures.size in
    let room' = q.room in let shorter' = q.shorter in let grows' = q.grows in
    let left = ap length (c.takes.ensures.left c.if-takes.false) in
    let nodes = ap length c.takes.ensures.nodes in
    record {
      size = record { room = omega arith; shorter = omega arith; grows = omega arith };
      low = let a = c.in_ok-part.ensures.low in let b = c.loop-item.invariant.low in
          let tall = c.in_ok-push.ensures.size in omega arith;
      extends = extends_on c.in_ok-part.ensures.tree.extends c.loop-item.invariant.extends;
      enters = λ ys h. enters_step (c.loop-item.invariant.enters ys h) c.in-Some.ensures
          (sym c.takes.ensures.found ∙ c.if-takes.false) c.takes.ensures.nodes (c.takes.ensures.left c.if-takes.false)
          c.in_ok-part.ensures.tree shorter' c.in_ok-push.ensures.kids c.in_ok-push.ensures.size;
    }

pub items-returns-clause-tree : goal.items-returns-clause-tree
items-returns-clause-tree t c = λ ys h. enters_none (c.loop-item.invariant.enters ys h) c.in_default.ensures

pub block-returns-in_err-parts : goal.block-returns-in_err-parts
unfolding block_from
block-returns-in_err-parts t c =
    let p = err_from_is_err_and c.from_residual.result c.from_residual.ensures.1 in
    rw (p.1, p.2) (record {
      size = tt;
      low = tt;
      names = tt;
      tree = (fails_bind _ _ _ (fails_unafter _ nil _
          (c.in_err-parts.ensures.tree nil c.no_parts-none.ensures.none)));
    })

pub block-returns : goal.block-returns
unfolding block_from
block-returns t c = record {
  size = IfOk-weaker c.join.result _ _
      (λ p e. owed_owed c.in_ok-parts.ensures.size (noded c.items.new.cursor c.join.new.self e c.join.ensures.rest))
      c.join.ensures.size;
  low = IfOk-weaker c.join.result _ _
      (λ p e. omega (arith, e, c.in_ok-parts.ensures.low)) c.join.ensures.low;
  names = IfOk-weaker c.join.result _ _
      (λ p e. c.in_ok-parts.ensures.names) c.join.ensures.size;
  tree = (let g = c.in_ok-parts.ensures.tree nil c.no_parts-none.ensures.none in
      joined_reads _ c.items.new.cursor _ c.join.result c.join.ensures.tree c.join.ensures.grows c.join.ensures.rest
      g.holds g.grows (bind_is _ (sym (after_nil _) ∙ g.reads)) c.place.ensures refl);
}

pub switch_statement-returns-in_err-value : goal.switch_statement-returns-in_err-value
unfolding switch_from
switch_statement-returns-in_err-value t c =
    let p = err_from_is_err_and c.from_residual.result c.from_residual.ensures.1 in
    rw (p.1, p.2) (record { size = tt; low = tt; names = tt; tree = (fails_bind _ _ _ c.in_err-value.ensures.tree) })

pub switch_statement-returns-in_err-expect : goal.switch_statement-returns-in_err-expect
unfolding switch_from
switch_statement-returns-in_err-expect t c =
    let p = err_from_is_err_and c.from_residual-in_err-expect.result c.from_residual-in_err-expect.ensures.1 in
    rw (p.1, p.2) (record {
      size = tt;
      low = tt;
      names = tt;
      tree =
          (fails_after _ _ _ _ c.in_ok-value.ensures.tree.reads (fails_bind _ _ _ c.in_err-expect.ensures.found));
    })

pub switch_statement-returns-in_err-parts : goal.switch_statement-returns-in_err-parts
unfolding switch_from
switch_statement-returns-in_err-parts t c =
    let p = err_from_is_err_and c.from_residual-in_err-parts.result c.from_residual-in_err-parts.ensures.1 in
    rw (p.1, p.2) (record {
      size = tt;
      low = tt;
      names = tt;
      tree =
          (let a = c.in_ok-value.ensures.tree in
          fails_after _ _ _ _ a.reads (fails_after _ _ _ _ c.in_ok-expect.ensures.found
          (fails_bind _ _ _ (fails_unafter _ (one a.tree) _
          (c.in_err-parts.ensures.tree (one a.tree)
          (c.in_ok-start.ensures.one a.tree (means_on
          (grows_to grows_same (sym c.in_ok-expect.ensures.nodes)) a.means)))))));
    })

pub switch_statement-returns : goal.switch_statement-returns
unfolding switch_from
switch_statement-returns t c = record {
  size = IfOk-weaker c.join.result _ _
      (λ p e. owes (then_owed {m = 0} (then_owed {m = 24} (then_paid c.in_ok-value.ensures.size
      (took c.condition.new.cursor c.expect.new.self c.expect.ensures.nodes c.in_ok-expect.ensures.size))
      c.in_ok-parts.ensures.size refl)
      (noded c.items.new.cursor c.join.new.self e c.join.ensures.rest) refl)) c.join.ensures.size;
  low = IfOk-weaker c.join.result _ _
      (λ p e. omega (arith, e, c.in_ok-parts.ensures.low)) c.join.ensures.low;
  names = IfOk-weaker c.join.result _ _
      (λ p e. c.in_ok-parts.ensures.names) c.join.ensures.size;
  tree = (let a = c.in_ok-value.ensures.tree in
      let kept = grows_to grows_same (sym c.in_ok-expect.ensures.nodes) in
      let g = c.in_ok-parts.ensures.tree (one a.tree) (c.in_ok-start.ensures.one a.tree (means_on kept a.means)) in
      let u = unafter (one a.tree) _ g.trees (rest_of c.items.new.cursor) g.reads in
      joined_reads _ c.items.new.cursor _ c.join.result c.join.ensures.tree c.join.ensures.grows c.join.ensures.rest
      (subst (λ v. Holds c.items.new.cursor.nodes.items c.in_ok-parts.parts v) u.2 g.holds)
      (grows_on (grows_on a.grows kept) g.grows)
      (bind_is _ a.reads ∙ bind_is _ c.in_ok-expect.ensures.found ∙ bind_is _ u.1)
      c.place.ensures refl);
}

pub statement-returns-then-budget-eq0 : goal.statement-returns-then-budget-eq0
statement-returns-then-budget-eq0 t c = record {
  size = tt;
  low = tt;
  names = tt;
  tree = state_none _ _ _ c.if-budget-eq0.true;
}

pub statement-returns-in_default : goal.statement-returns-in_default
statement-returns-in_default t c = record {
  size = tt;
  low = tt;
  names = tt;
  tree = state_end c.args.budget (c.args.budget - 1) _ _
      (let n = c.if-budget-eq0.false in omega arith) c.in_default.ensures;
}

pub statement-returns-in-Some-opening_of : goal.statement-returns-in-Some-opening_of
statement-returns-in-Some-opening_of t c = record {
  size = IfOk-weaker c.open.result _ _
      (λ p q. then_owed (took_past c.args.cursor.now c.advance.new.self c.in-Some.ensures
      c.advance.ensures.nodes c.advance.ensures.rest) q refl) c.open.ensures.size;
  low = IfOk-weaker c.open.result _ _
      (λ p e. omega (arith, e, c.if-budget-eq0.false)) c.open.ensures.low;
  names = c.open.ensures.names;
  tree = reads_after _ c.advance.new.self _ c.open.result
      (state_opens c.args.budget (c.args.budget - 1) (in_force c.args.types.now) (rest_of c.args.cursor.now)
      (rest_of c.advance.new.self) c.in-Some.item _ (let n = c.if-budget-eq0.false in omega arith)
      (c.in-Some.ensures ∙ ap (λ v. c.in-Some.item ∷ v) (sym c.advance.ensures.rest))
      (ap opening_of (sym c.symbol.ensures) ∙ sym c.in-Some-opening_of.ensures))
      (grows_to grows_same (sym c.advance.ensures.nodes)) c.open.ensures.tree;
}

pub statement-returns-in-None-clause-tree : goal.statement-returns-in-None-clause-tree
statement-returns-in-None-clause-tree t c =
    reads_same _ _ c.expression_statement.result
    (state_expression c.args.budget (c.args.budget - 1) (in_force c.args.types.now)
    (rest_of c.args.cursor.now) _ c.in-Some.item (let n = c.if-budget-eq0.false in omega arith) c.in-Some.ensures
    (ap opening_of (sym c.symbol.ensures) ∙ sym c.in-None.ensures))
    c.expression_statement.ensures.tree

pub while_statement-node_of-requires : goal.while_statement-node_of-requires
while_statement-node_of-requires t c = record {
  room = roomy_paid (then_paid c.in_ok-test.ensures.size c.in_ok-body.ensures.size) c.requires.room;
  height = c.requires.height;
  low = (c.in_ok-test.ensures.low, (c.in_ok-body.ensures.low, tt));
}

pub do_statement-node_of-requires : goal.do_statement-node_of-requires
do_statement-node_of-requires t c = record {
  room = roomy_paid (then_paid (then_paid (then_paid c.in_ok-body.ensures.size
      (took c.statement.new.cursor c.expect.new.self c.expect.ensures.nodes c.in_ok-expect.ensures.size))
      c.in_ok-test.ensures.size) (took c.condition.new.cursor c.expect-2.new.self c.expect-2.ensures.nodes
      c.in_ok-expect-2.ensures.size)) c.requires.room;
  height = c.requires.height;
  low = (c.in_ok-body.ensures.low, (c.in_ok-test.ensures.low, tt));
}

pub if_statement-node_of-requires : goal.if_statement-node_of-requires
if_statement-node_of-requires t c = record {
  room = roomy_paid (then_paid (then_paid (then_paid c.in_ok-test.ensures.size c.in_ok-yes.ensures.size)
      (took c.statement.new.cursor c.takes.new.self c.takes.ensures.nodes
      (c.takes.ensures.shorter c.if-takes.true))) c.in_ok-no.ensures.size) c.requires.room;
  height = c.requires.height;
  low = (c.in_ok-test.ensures.low, (c.in_ok-yes.ensures.low, (c.in_ok-no.ensures.low, tt)));
}

pub if_statement-node_of-requires-2 : goal.if_statement-node_of-requires-2
if_statement-node_of-requires-2 t c = record {
  room = roomy_paid (then_owed {m = 16} (then_paid c.in_ok-test.ensures.size c.in_ok-yes.ensures.size)
      (stayed c.statement.new.cursor c.takes.new.self c.takes.ensures.nodes
      (c.takes.ensures.left c.if-takes.false)) refl) c.requires.room;
  height = c.requires.height;
  low = (c.in_ok-test.ensures.low, (c.in_ok-yes.ensures.low, tt));
}

pub for_behind-node_of-requires : goal.for_behind-node_of-requires
for_behind-node_of-requires t c = record {
  room = roomy_paid (then_paid (then_paid c.in_ok-second.ensures.size c.in_ok-third.ensures.size)
      c.in_ok-body.ensures.size) c.requires.room;
  height = c.requires.height;
  low = (c.requires.low, (c.in_ok-second.ensures.low, (c.in_ok-third.ensures.low, (c.in_ok-body.ensures.low, tt))));
}

pub switch_statement-join-requires : goal.switch_statement-join-requires
switch_statement-join-requires t c = record {
  room = room_paid (then_owed {m = 24} (then_paid c.in_ok-value.ensures.size
      (took c.condition.new.cursor c.expect.new.self c.expect.ensures.nodes c.in_ok-expect.ensures.size))
      c.in_ok-parts.ensures.size refl) c.requires.room;
  height = omega (arith, c.in_ok-parts.ensures.low, c.requires.height);
}

pub block-join-requires : goal.block-join-requires
block-join-requires t c = record {
  room = room_owed c.in_ok-parts.ensures.size refl c.requires.room;
  height = omega (arith, c.in_ok-parts.ensures.low, c.requires.height);
}

pub labelled-returns-in-Case-clause-size : goal.labelled-returns-in-Case-clause-size
labelled-returns-in-Case-clause-size t c = IfOk-weaker c.case_label.result _ _
    (λ p q. then_owed (took_past c.args.cursor.now c.advance.new.self c.requires.first
    c.advance.ensures.nodes c.advance.ensures.rest) q refl) c.case_label.ensures.size

pub labelled-returns-in-Case-clause-low : goal.labelled-returns-in-Case-clause-low
labelled-returns-in-Case-clause-low t c = c.case_label.ensures.low

pub labelled-returns-in-Default-clause-size : goal.labelled-returns-in-Default-clause-size
labelled-returns-in-Default-clause-size t c = IfOk-weaker c.default_label.result _ _
    (λ p q. then_owed
    (took_past c.args.cursor.now c.advance-in-Default.new.self c.requires.first c.advance-in-Default.ensures.nodes
    c.advance-in-Default.ensures.rest) q refl) c.default_label.ensures.size

pub labelled-returns-in-Default-clause-low : goal.labelled-returns-in-Default-clause-low
labelled-returns-in-Default-clause-low t c = IfOk-weaker c.default_label.result _ _
    (λ p e. omega (arith, e)) c.default_label.ensures.low

pub labelled-returns-in-Unlabelled-clause-size : goal.labelled-returns-in-Unlabelled-clause-size
labelled-returns-in-Unlabelled-clause-size t c = c.statement.ensures.size

pub labelled-returns-in-Unlabelled-clause-low : goal.labelled-returns-in-Unlabelled-clause-low
labelled-returns-in-Unlabelled-clause-low t c = c.statement.ensures.low

pub labelled-returns-in-Unlabelled-clause-names : goal.labelled-returns-in-Unlabelled-clause-names
labelled-returns-in-Unlabelled-clause-names t c = c.statement.ensures.names

pub items-returns-then-takes-clause-size : goal.items-returns-then-takes-clause-size
items-returns-then-takes-clause-size t c = owed_owed c.loop-item.invariant.size
    (owes {d = 0} (took c.loop-item.cursor c.takes.new.self c.takes.ensures.nodes
    (c.takes.ensures.shorter c.if-takes.true)))

pub items-returns-then-takes-clause-low : goal.items-returns-then-takes-clause-low
items-returns-then-takes-clause-low t c = c.loop-item.invariant.low

pub open-returns-in-Block-clause-size : goal.open-returns-in-Block-clause-size
open-returns-in-Block-clause-size t c = c.block.ensures.size

pub open-returns-in-Block-clause-low : goal.open-returns-in-Block-clause-low
open-returns-in-Block-clause-low t c = c.block.ensures.low

pub open-returns-in-Block-clause-names : goal.open-returns-in-Block-clause-names
open-returns-in-Block-clause-names t c = c.block.ensures.names

pub open-returns-in-If-clause-size : goal.open-returns-in-If-clause-size
open-returns-in-If-clause-size t c = c.if_statement.ensures.size

pub open-returns-in-If-clause-low : goal.open-returns-in-If-clause-low
open-returns-in-If-clause-low t c = c.if_statement.ensures.low

pub open-returns-in-If-clause-names : goal.open-returns-in-If-clause-names
open-returns-in-If-clause-names t c = c.if_statement.ensures.names

pub open-returns-in-Switch-clause-size : goal.open-returns-in-Switch-clause-size
open-returns-in-Switch-clause-size t c = c.switch_statement.ensures.size

pub open-returns-in-Switch-clause-low : goal.open-returns-in-Switch-clause-low
open-returns-in-Switch-clause-low t c = c.switch_statement.ensures.low

pub open-returns-in-Switch-clause-names : goal.open-returns-in-Switch-clause-names
open-returns-in-Switch-clause-names t c = c.switch_statement.ensures.names

pub open-returns-in-While-clause-size : goal.open-returns-in-While-clause-size
open-returns-in-While-clause-size t c = c.while_statement.ensures.size

pub open-returns-in-While-clause-low : goal.open-returns-in-While-clause-low
open-returns-in-While-clause-low t c = c.while_statement.ensures.low

pub open-returns-in-While-clause-names : goal.open-returns-in-While-clause-names
open-returns-in-While-clause-names t c = c.while_statement.ensures.names

pub open-returns-in-Do-clause-size : goal.open-returns-in-Do-clause-size
open-returns-in-Do-clause-size t c = c.do_statement.ensures.size

pub open-returns-in-Do-clause-low : goal.open-returns-in-Do-clause-low
open-returns-in-Do-clause-low t c = c.do_statement.ensures.low

pub open-returns-in-Do-clause-names : goal.open-returns-in-Do-clause-names
open-returns-in-Do-clause-names t c = c.do_statement.ensures.names

pub open-returns-in-For-clause-size : goal.open-returns-in-For-clause-size
open-returns-in-For-clause-size t c = c.for_statement.ensures.size

pub open-returns-in-For-clause-low : goal.open-returns-in-For-clause-low
open-returns-in-For-clause-low t c = c.for_statement.ensures.low

pub open-returns-in-For-clause-names : goal.open-returns-in-For-clause-names
open-returns-in-For-clause-names t c = c.for_statement.ensures.names

pub open-returns-in-Return-clause-size : goal.open-returns-in-Return-clause-size
open-returns-in-Return-clause-size t c = c.return_statement.ensures.size

pub open-returns-in-Return-clause-low : goal.open-returns-in-Return-clause-low
open-returns-in-Return-clause-low t c = c.return_statement.ensures.low

pub open-returns-in-Empty-clause-size : goal.open-returns-in-Empty-clause-size
open-returns-in-Empty-clause-size t c = IfOk-weaker c.leaf.result _ _
    (λ p e. noded c.args.cursor.now c.leaf.new.self e c.leaf.ensures.rest) c.leaf.ensures.size

pub open-returns-in-Empty-clause-low : goal.open-returns-in-Empty-clause-low
open-returns-in-Empty-clause-low t c = IfOk-weaker c.leaf.result _ _
    (λ p e. omega (arith, e)) c.leaf.ensures.low

pub open-returns-in-Break-clause-size : goal.open-returns-in-Break-clause-size
open-returns-in-Break-clause-size t c = c.jump.ensures.size

pub open-returns-in-Break-clause-low : goal.open-returns-in-Break-clause-low
open-returns-in-Break-clause-low t c = IfOk-weaker c.jump.result _ _
    (λ p e. omega (arith, e)) c.jump.ensures.low

pub open-returns-in-Continue-clause-size : goal.open-returns-in-Continue-clause-size
open-returns-in-Continue-clause-size t c = c.jump-in-Continue.ensures.size

pub open-returns-in-Continue-clause-low : goal.open-returns-in-Continue-clause-low
open-returns-in-Continue-clause-low t c = IfOk-weaker c.jump-in-Continue.result _ _
    (λ p e. omega (arith, e)) c.jump-in-Continue.ensures.low

pub statement-returns-in-None-clause-size : goal.statement-returns-in-None-clause-size
statement-returns-in-None-clause-size t c = c.expression_statement.ensures.size

pub statement-returns-in-None-clause-low : goal.statement-returns-in-None-clause-low
statement-returns-in-None-clause-low t c = IfOk-weaker c.expression_statement.result _ _
    (λ p e. omega (arith, e, c.if-budget-eq0.false)) c.expression_statement.ensures.low

pub for_statement-returns-clause-size : goal.for_statement-returns-clause-size
for_statement-returns-clause-size t c = owes (then_owed {m = 0}
    (then_paid (took c.args.cursor.now c.expect.new.self c.expect.ensures.nodes c.in_ok-expect.ensures.size)
    c.in_ok-declaration.ensures.size) c.in_ok-part.ensures.size refl)

pub for_statement-returns-clause-low : goal.for_statement-returns-clause-low
for_statement-returns-clause-low t c = c.in_ok-part.ensures.low
