use Rattle.std.proofs.Common.{refl, ◌∙◌, arith}
use Rattle.std.proofs.lemmas.Result.{err_from_is_err_and, IfOk-weaker}
use Rattle.c_tree.specs.Syntax.{three, own_token}
use Rattle.c_phrases.specs.Got.{rest_of, in_force}
use Rattle.c_phrases.proofs.Made.{means_on, holds_more, bind_is, fails_bind, fails_same}
use Rattle.c_externals.proofs.Parted.{made_reads}
use Rattle.c_externals.proofs.Outer.{definition_is}
use Rattle.c_phrases.proofs.Paying.{noded, owed_owed, room_owed}
use Rattle.c_externals.proofs.externals.definition.Goals as goal

pub returns-in_err-body-clause-tree : goal.returns-in_err-body-clause-tree
returns-in_err-body-clause-tree c =
    λ s d ms md. let p = err_from_is_err_and c.from_residual.result c.from_residual.ensures.1 in rw (p.1, p.2)
    (fails_same _ (definition_is s d c.args.brace.now (in_force c.args.types.now) (rest_of c.args.cursor.now))
    (fails_bind _ _ _ c.in_err-body.ensures.tree))

pub returns-clause-tree : goal.returns-clause-tree
returns-clause-tree c = λ s d ms md.
    let b = c.in_ok-body.ensures.tree in
    made_reads _ c.block.new.cursor _ (own_token s)
    (three s d b.tree) c.make.result c.make.ensures.tree c.make.ensures.rest
    (record { kind = refl; own = ms.root.own; first = ms.root.own; names = refl })
    (holds_more {new = c.push-2.new.self} (holds_more {new = c.push.new.self}
    (c.in_ok-parts.ensures.one s (means_on b.grows ms))
    (means_on b.grows md) c.in_ok-push.ensures.kids c.in_ok-push.ensures.size) b.means
    c.in_ok-push-2.ensures.kids c.in_ok-push-2.ensures.size)
    b.grows
    (definition_is s d c.args.brace.now (in_force c.args.types.now) (rest_of c.args.cursor.now) ∙ bind_is _ b.reads)

pub returns-clause-size : goal.returns-clause-size
returns-clause-size c = IfOk-weaker c.make.result _ _
    (λ p e. owed_owed c.in_ok-body.ensures.size
    (noded c.block.new.cursor c.make.new.self e.0 c.make.ensures.rest)) c.make.ensures.size

pub returns-clause-low : goal.returns-clause-low
returns-clause-low c = IfOk-weaker c.make.result _ _
    (λ p e. omega (
      arith,
      e,
      c.in_ok-push-2.ensures.size,
      c.in_ok-push.ensures.size,
      c.in_ok-parts.ensures.size,
      c.in_ok-body.ensures.low,
      c.requires.specifiers,
      c.requires.low,
    )) c.make.ensures.low

pub make-requires : goal.make-requires
make-requires c = record {
  room = room_owed c.in_ok-body.ensures.size refl c.requires.room;
  height = omega (
    arith,
    c.in_ok-push-2.ensures.size,
    c.in_ok-push.ensures.size,
    c.in_ok-parts.ensures.size,
    c.in_ok-body.ensures.low,
    c.requires.specifiers,
    c.requires.low,
  );
}
