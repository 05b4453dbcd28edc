use Rattle.std.proofs.Common.{◌-◌, ap, sym, ◌∙◌, arith, Some, refl}
use Rattle.std.proofs.lemmas.Result.{err_from_is_err_and, IfOk-weaker}
use Rattle.c_tree.specs.declared.syntax.NodeKind.TheVariants as Kinds
use Rattle.c_tree.specs.Syntax.{node, one, own_token}
use Rattle.c_tree.specs.Grammar.{Declarator, Plain}
use Rattle.c_phrases.specs.Reading.{read}
use Rattle.c_externals.specs.Statements.{declaration}
use Rattle.c_phrases.specs.Got.{rest_of, in_force}
use Rattle.c_phrases.proofs.Made.{bind_is, then_is, else_is, fails_bind, fails_after, fails_same, grows_same, grows_to}
use Rattle.c_phrases.proofs.Made.{grows_on, means_on}
use Rattle.c_externals.proofs.Declared.{declare_at, declare_none, specifies_of, specifies_on, naming_after}
use Rattle.c_externals.proofs.Declared.{naming_alone}
use Rattle.c_phrases.proofs.Paying.{took, stayed, noded, then_paid, then_owed, pays, roomy_paid, room_within}
use Rattle.c_externals.proofs.declarations.declare.Goals as goal

pub returns-then-budget-eq0-clause-tree : goal.returns-then-budget-eq0-clause-tree
returns-then-budget-eq0-clause-tree c = declare_none _ _ _ c.if-budget-eq0.true

pub returns-in_err-specified-clause-tree : goal.returns-in_err-specified-clause-tree
unfolding declaration
returns-in_err-specified-clause-tree c =
    let p = err_from_is_err_and c.from_residual.result c.from_residual.ensures.1 in rw (p.1, p.2)
    (fails_same _ (declare_at c.args.budget (c.args.budget - 1) (in_force c.args.types.now) (rest_of c.args.cursor.now)
    (let n = c.if-budget-eq0.false in omega arith)) (fails_bind _ _ _ c.in_err-specified.ensures.tree))

pub returns-then-takes : goal.returns-then-takes
unfolding declaration
returns-then-takes c = record {
  size = IfOk-weaker c.specifiers_only.result _ _
      (λ p e. then_owed (then_paid c.in_ok-specified.ensures.size
      (took c.specifiers.new.cursor c.takes.new.self c.takes.ensures.nodes (c.takes.ensures.shorter c.if-takes.true)))
      (noded c.takes.new.self c.specifiers_only.new.cursor e c.specifiers_only.ensures.rest) refl)
      c.specifiers_only.ensures.size;
  low = IfOk-weaker c.specifiers_only.result _ _
      (λ p e. omega (arith, e, c.if-budget-eq0.false)) c.specifiers_only.ensures.low;
  tree = (let g = c.in_ok-specified.ensures.tree in
      let grown = grows_to grows_same (sym c.takes.ensures.nodes) in
      naming_alone _ c.takes.new.self _ _ g.part.tree c.specifiers_only.result
      (c.specifiers_only.ensures.tree g.part.tree (means_on grown g.part.means)) c.specifiers_only.ensures.grows
      c.specifiers_only.ensures.rest
      (grows_on g.part.grows grown)
      (declare_at c.args.budget (c.args.budget - 1) (in_force c.args.types.now) (rest_of c.args.cursor.now)
      (let n = c.if-budget-eq0.false in omega arith) ∙ bind_is _ g.part.reads
      ∙ then_is _ (sym c.takes.ensures.found ∙ c.if-takes.true)
      ∙ ap (λ v. Some (node Kinds.Declaration (own_token g.part.tree) (one g.part.tree), v))
      (sym (c.takes.ensures.taken c.if-takes.true))));
}

pub returns-in_err-first-clause-tree : goal.returns-in_err-first-clause-tree
unfolding declaration
returns-in_err-first-clause-tree c =
    let p = err_from_is_err_and c.from_residual-in_err-first.result c.from_residual-in_err-first.ensures.1 in
    rw (p.1, p.2)
    (let g = c.in_ok-specified.ensures.tree in
    fails_same _ (declare_at c.args.budget (c.args.budget - 1) (in_force c.args.types.now) (rest_of c.args.cursor.now)
    (let n = c.if-budget-eq0.false in omega arith))
    (fails_after _ _ _ _ g.part.reads (fails_same _ (else_is _ (sym c.takes.ensures.found ∙ c.if-takes.false))
    (fails_bind _ _ _ (fails_same _ (ap (λ v. read (c.args.budget - 1) (Declarator Plain) (in_force c.args.types.now) v)
    (sym (c.takes.ensures.left c.if-takes.false))) c.in_err-first.ensures.tree)))))

pub returns : goal.returns
unfolding declaration
returns c = record {
  size = IfOk-weaker c.declaration_behind.result _ _
      (λ p q. pays (then_paid (then_paid (then_owed {m = 5} c.in_ok-specified.ensures.size
      (stayed c.specifiers.new.cursor c.takes.new.self c.takes.ensures.nodes (c.takes.ensures.left c.if-takes.false))
      refl)
      c.in_ok-first.ensures.size) q) refl) c.declaration_behind.ensures.size;
  low = IfOk-weaker c.declaration_behind.result _ _
      (λ p e. omega (arith, e, c.if-budget-eq0.false)) c.declaration_behind.ensures.low;
  tree = (let g = c.in_ok-specified.ensures.tree in
      let d = c.in_ok-first.ensures.tree in
      let grown = grows_on (grows_to grows_same (sym c.takes.ensures.nodes)) d.grows in
      naming_after _ c.read.new.cursor _ _ _ c.declaration_behind.result
      (declare_at c.args.budget (c.args.budget - 1) (in_force c.args.types.now) (rest_of c.args.cursor.now)
      (let n = c.if-budget-eq0.false in omega arith) ∙ bind_is _ g.part.reads
      ∙ else_is _ (sym c.takes.ensures.found ∙ c.if-takes.false)
      ∙ bind_is _ (ap (λ v. read (c.args.budget - 1) (Declarator Plain) (in_force c.args.types.now) v)
      (sym (c.takes.ensures.left c.if-takes.false)) ∙ d.reads))
      (grows_on g.part.grows grown)
      (c.declaration_behind.ensures.tree g.part.tree d.tree (specifies_on grown (specifies_of _ _ _ g)) d.means));
}

pub declaration_behind-requires-clause-room : goal.declaration_behind-requires-clause-room
declaration_behind-requires-clause-room c =
    roomy_paid (then_paid (then_owed {m = 5} c.in_ok-specified.ensures.size
    (stayed c.specifiers.new.cursor c.takes.new.self c.takes.ensures.nodes (c.takes.ensures.left c.if-takes.false))
    refl)
    c.in_ok-first.ensures.size) c.requires.room

pub declaration_behind-requires-clause-specifiers : goal.declaration_behind-requires-clause-specifiers
declaration_behind-requires-clause-specifiers c = c.in_ok-specified.ensures.low

pub declaration_behind-requires-clause-low : goal.declaration_behind-requires-clause-low
declaration_behind-requires-clause-low c = c.in_ok-first.ensures.low

pub read-requires-clause-room : goal.read-requires-clause-room
read-requires-clause-room c =
    roomy_paid (then_owed {m = 5} c.in_ok-specified.ensures.size
    (stayed c.specifiers.new.cursor c.takes.new.self c.takes.ensures.nodes (c.takes.ensures.left c.if-takes.false))
    refl) c.requires.room

pub specifiers_only-requires-clause-specifiers : goal.specifiers_only-requires-clause-specifiers
specifiers_only-requires-clause-specifiers c = c.in_ok-specified.ensures.low

pub specifiers_only-requires-clause-room : goal.specifiers_only-requires-clause-room
specifiers_only-requires-clause-room c =
    room_within (then_paid c.in_ok-specified.ensures.size
    (took c.specifiers.new.cursor c.takes.new.self c.takes.ensures.nodes (c.takes.ensures.shorter c.if-takes.true)))
    c.requires.room
