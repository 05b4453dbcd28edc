use Rattle.std.proofs.lemmas.Result.{IfOk-weaker}
use Rattle.std.proofs.Common.{ap, sym, ◌∙◌, arith}
use Rattle.c_tree.specs.Syntax.{one}
use Rattle.c_tree.specs.Grammar.{Initializer}
use Rattle.c_phrases.specs.Reading.{read}
use Rattle.c_phrases.specs.Got.{in_force}
use Rattle.c_phrases.proofs.Made.{grows_same, grows_on, grows_to, holds_on, bind_is, then_is}
use Rattle.c_externals.proofs.Declared.{with_reads}
use Rattle.c_phrases.proofs.Paying.{took, stayed, then_paid, owes, roomy_paid}
use Rattle.c_externals.proofs.declarations.valued_declarator.Goals as goal

pub returns : goal.returns
returns c = record {
  size = IfOk-weaker c.with.result _ _
      (λ p e. owes (then_paid (took c.args.cursor.now c.takes.new.self c.takes.ensures.nodes
      (c.takes.ensures.shorter c.if-not-takes.false))
      c.in_ok-initializer.ensures.size)) c.with.ensures.size;
  low = IfOk-weaker c.with.result _ _
      (λ p e. omega (
        arith,
        e,
        c.in_ok-parts.ensures.size,
        c.in_ok-initializer.ensures.low,
        c.requires.low,
      )) c.with.ensures.size;
  tree = (λ x m.
      let i = c.in_ok-initializer.ensures.tree in
      let grown = grows_on (grows_to grows_same (sym c.takes.ensures.nodes)) i.grows in
      with_reads _ c.read.new.cursor _ _ c.with.result c.with.ensures.size c.with.ensures.kids c.with.ensures.full
      (one x) i.tree
      (holds_on grown (c.in_ok-parts.ensures.one x m)) i.means grown
      (then_is _ (sym c.takes.ensures.found ∙ c.if-not-takes.false)
      ∙ bind_is _ (ap (λ v. read c.args.below Initializer (in_force c.args.types.now) v)
      (sym (c.takes.ensures.taken c.if-not-takes.false)) ∙ i.reads)));
}

pub read-requires-clause-room : goal.read-requires-clause-room
read-requires-clause-room c =
    roomy_paid (took c.args.cursor.now c.takes.new.self c.takes.ensures.nodes
    (c.takes.ensures.shorter c.if-not-takes.false)) c.requires.room

pub returns-then-not-takes-clause-size : goal.returns-then-not-takes-clause-size
returns-then-not-takes-clause-size c =
    stayed c.args.cursor.now c.takes.new.self c.takes.ensures.nodes (c.takes.ensures.left c.if-not-takes.true)
