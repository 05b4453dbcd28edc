use Rattle.std.proofs.Common.{◌++◌, suc, length, reverse, refl, ap, sym, subst, ◌∙◌, arith}
use Rattle.std.proofs.lemmas.Result.{err_from_is_err_and, IfOk-weaker}
use Rattle.std.proofs.lemmas.List.{reverse-reverse}
use Rattle.c_tree.specs.Syntax.{more, one, own_token}
use Rattle.c_phrases.specs.Reading.{read}
use Rattle.c_externals.specs.Statements.{initialized, declaration_behind}
use Rattle.c_phrases.specs.Got.{rest_of, in_force, naming_of, Holds}
use Rattle.c_externals.specs.Blocks.{added}
use Rattle.c_phrases.proofs.Made.{bind_is, fails_bind, fails_after, fails_same, grows_to}
use Rattle.c_phrases.proofs.Climbing.{holds_at}
use Rattle.c_externals.proofs.Declared.{unafter, fails_unafter, added_plain, adds_new, naming_made}
use Rattle.c_phrases.proofs.Paying.{took, noded, then_owed, owed_paid, room_paid}
use Rattle.c_externals.proofs.declarations.declaration_behind.Goals as goal

pub returns-in_err-parts-clause-tree : goal.returns-in_err-parts-clause-tree
unfolding declaration_behind
returns-in_err-parts-clause-tree c =
    λ s x p m. let q = err_from_is_err_and c.from_residual-in_err-parts.result c.from_residual-in_err-parts.ensures.1 in
    rw (q.1, q.2)
    (fails_bind _ _ _ (fails_same _ (ap (λ b.
    initialized (read c.args.below) c.args.below (suc (length (rest_of c.args.cursor.now)))
    (naming_of c.args.naming) b x (in_force c.args.types.now) (rest_of c.args.cursor.now)) (sym p.defines))
    (fails_unafter _ (one s) _ (c.in_err-parts.ensures.tree (one s) x (c.in_ok-start.ensures.one s p.means) m))))

pub returns-in_err-expect-clause-tree : goal.returns-in_err-expect-clause-tree
unfolding declaration_behind
returns-in_err-expect-clause-tree c =
    λ s x p m. let q = err_from_is_err_and c.from_residual-in_err-expect.result c.from_residual-in_err-expect.ensures.1
    in rw (q.1, q.2)
    (let g = c.in_ok-parts.ensures.tree (one s) x (c.in_ok-start.ensures.one s p.means) m in
    let u = unafter (one s) _ g.trees (rest_of c.declarators.new.cursor) g.reads in
    fails_after _ _ _ _ (ap (λ b. initialized (read c.args.below) c.args.below
    (suc (length (rest_of c.args.cursor.now))) (naming_of c.args.naming) b x (in_force c.args.types.now)
    (rest_of c.args.cursor.now)) (sym p.defines) ∙ u.1)
    (fails_bind _ _ _ c.in_err-expect.ensures.found))

pub reverse_from-requires : goal.reverse_from-requires
reverse_from-requires c = let more = c.in_ok-parts.ensures.more in let same = c.len-before.ensures in omega arith

pub returns : goal.returns
unfolding declaration_behind
returns c = record {
  size = IfOk-weaker c.make.result _ _
      (λ p e. then_owed (owed_paid {m = 7} c.in_ok-parts.ensures.size
      (took c.declarators.new.cursor c.expect.new.self c.expect.ensures.nodes c.in_ok-expect.ensures.size) refl)
      (noded c.expect.new.self c.make.new.self e.0 c.make.ensures.rest) refl) c.make.ensures.size;
  low = IfOk-weaker c.make.result _ _
      (λ p e. omega (arith, e, c.in_ok-parts.ensures.low)) c.make.ensures.low;
  tree = (λ s x p m.
      let g = c.in_ok-parts.ensures.tree (one s) x (c.in_ok-start.ensures.one s p.means) m in
      let u = unafter (one s) _ g.trees (rest_of c.declarators.new.cursor) g.reads in
      let nodes = c.in_ok-expect.ensures.nodes in
      naming_made _ c.expect.new.self _ _ (in_force c.reverse_from.new.self) (own_token s)
      (more s u.0) c.make.result c.make.ensures.tree c.make.ensures.rest
      (record { kind = refl; own = p.means.root.own; first = p.means.root.own; names = refl })
      (holds_at nodes (subst (λ v. Holds c.declarators.new.cursor.nodes.items c.in_ok-parts.parts v) u.2 g.holds))
      (grows_to g.grows (sym nodes))
      (bind_is _ (ap (λ b. initialized (read c.args.below) c.args.below (suc (length (rest_of c.args.cursor.now)))
      (naming_of c.args.naming) b x (in_force c.args.types.now) (rest_of c.args.cursor.now)) (sym p.defines)
      ∙ u.1) ∙ bind_is _ c.in_ok-expect.ensures.found)
      (c.reverse_from.ensures (reverse (added c.args.specified.defines g.trees)) (in_force c.args.types.now)
      (g.names (added_plain c.args.specified.defines s p.nameless)) (sym c.len-before.ensures)
      ∙ ap (λ v. v ++ in_force c.args.types.now)
      (reverse-reverse (added c.args.specified.defines g.trees) ∙ ap (λ v. added c.args.specified.defines v) u.2
      ∙ ap (λ b. added b (more s u.0)) p.defines ∙ adds_new s u.0 (own_token s) p.nameless)));
}

pub make-requires : goal.make-requires
make-requires c = record {
  room = room_paid (owed_paid {m = 7} c.in_ok-parts.ensures.size
      (took c.declarators.new.cursor c.expect.new.self c.expect.ensures.nodes c.in_ok-expect.ensures.size) refl)
      c.requires.room;
  height = omega (arith, c.in_ok-parts.ensures.low, c.requires.height);
}
