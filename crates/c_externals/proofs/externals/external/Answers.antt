use Rattle.std.proofs.Common.{ap, sym, ◌∙◌, Some, refl}
use Rattle.std.proofs.lemmas.Result.{err_from_is_err_and, IfOk-weaker}
use Rattle.c_tree.specs.declared.syntax.NodeKind.TheVariants as Kinds
use Rattle.c_tree.specs.Syntax.{node, one, own_token}
use Rattle.c_externals.specs.Statements.{external}
use Rattle.c_phrases.specs.Got.{in_force}
use Rattle.c_externals.specs.Blocks.{declared_externally}
use Rattle.c_phrases.proofs.Made.{bind_is, then_is, else_is, fails_bind, grows_same, grows_to, grows_on, means_on}
use Rattle.c_externals.proofs.Declared.{specifies_of, specifies_on, naming_after, naming_alone}
use Rattle.c_phrases.proofs.Paying.{took, stayed, noded, then_paid, then_owed, pays, roomy_paid, room_within}
use Rattle.c_externals.proofs.externals.external.Goals as goal

pub returns-in_err-specified-clause-tree : goal.returns-in_err-specified-clause-tree
unfolding external
returns-in_err-specified-clause-tree c =
    let p = err_from_is_err_and c.from_residual.result c.from_residual.ensures.1 in rw (p.1, p.2)
    (fails_bind _ _ _ c.in_err-specified.ensures.tree)

pub returns-then-takes : goal.returns-then-takes
unfolding external
returns-then-takes c = record {
  size = IfOk-weaker c.specifiers_only.result _ _
      (λ p e. then_owed (then_paid c.in_ok-specified.ensures.size
      (took c.specifiers.new.cursor c.takes.new.self c.takes.ensures.nodes (c.takes.ensures.shorter c.if-takes.true)))
      (noded c.takes.new.self c.specifiers_only.new.cursor e c.specifiers_only.ensures.rest) refl)
      c.specifiers_only.ensures.size;
  low = c.specifiers_only.ensures.low;
  tree = (let g = c.in_ok-specified.ensures.tree in
      let grown = grows_to grows_same (sym c.takes.ensures.nodes) in
      naming_alone _ c.takes.new.self _ _ g.part.tree c.specifiers_only.result
      (c.specifiers_only.ensures.tree g.part.tree (means_on grown g.part.means)) c.specifiers_only.ensures.grows
      c.specifiers_only.ensures.rest
      (grows_on g.part.grows grown)
      (bind_is _ g.part.reads ∙ then_is _ (sym c.takes.ensures.found ∙ c.if-takes.true)
      ∙ ap (λ v. Some (node Kinds.Declaration (own_token g.part.tree) (one g.part.tree), v))
      (sym (c.takes.ensures.taken c.if-takes.true))));
}

pub returns : goal.returns
unfolding external
returns c = record {
  size = IfOk-weaker c.external_behind.result _ _
      (λ p q. pays (then_paid (then_owed {m = 5} c.in_ok-specified.ensures.size
      (stayed c.specifiers.new.cursor c.takes.new.self c.takes.ensures.nodes (c.takes.ensures.left c.if-takes.false))
      refl) q) refl) c.external_behind.ensures.size;
  low = c.external_behind.ensures.low;
  tree = (let g = c.in_ok-specified.ensures.tree in
      let grown = grows_to grows_same (sym c.takes.ensures.nodes) in
      naming_after _ c.takes.new.self _ _ _ c.external_behind.result
      (bind_is _ g.part.reads ∙ else_is _ (sym c.takes.ensures.found ∙ c.if-takes.false)
      ∙ ap (λ v. declared_externally g.part.tree (in_force c.args.types.now) v)
      (sym (c.takes.ensures.left c.if-takes.false)))
      (grows_on g.part.grows grown)
      (c.external_behind.ensures.tree g.part.tree (specifies_on grown (specifies_of _ _ _ g))));
}

pub specifiers_only-requires-clause-room : goal.specifiers_only-requires-clause-room
specifiers_only-requires-clause-room c =
    room_within (then_paid c.in_ok-specified.ensures.size
    (took c.specifiers.new.cursor c.takes.new.self c.takes.ensures.nodes (c.takes.ensures.shorter c.if-takes.true)))
    c.requires.room

pub external_behind-requires-clause-room : goal.external_behind-requires-clause-room
external_behind-requires-clause-room c =
    roomy_paid (then_owed {m = 5} c.in_ok-specified.ensures.size
    (stayed c.specifiers.new.cursor c.takes.new.self c.takes.ensures.nodes (c.takes.ensures.left c.if-takes.false))
    refl) c.requires.room
