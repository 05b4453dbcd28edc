use Rattle.std.proofs.Common.{ap, sym, ◌∙◌, Some}
use Rattle.c_tree.specs.declared.syntax.NodeKind.TheVariants as Kinds
use Rattle.c_tree.specs.Syntax.{Syn, node, nil}
use Rattle.ck_base.specs.Tokens.{Lexeme}
use Rattle.std.specs.Prelude.{List}
use Rattle.c_externals.specs.Statements.{external}
use Rattle.c_phrases.specs.Got.{rest_of, in_force}
use Rattle.c_phrases.proofs.Made.{grows_same, grows_to}
use Rattle.c_externals.proofs.Declared.{naming_after, naming_leaf}
use Rattle.c_externals.proofs.Outer.{outer_empty, outer_other}
use Rattle.c_externals.proofs.externals.outer_item.Goals as goal

pub returns-then-takes-clause-tree : goal.returns-then-takes-clause-tree
returns-then-takes-clause-tree c =
    naming_leaf _ c.takes.new.self _ _ c.args.item.now c.leaf.result c.leaf.ensures.tree c.leaf.ensures.grows
    c.leaf.ensures.rest (grows_to grows_same (sym c.takes.ensures.nodes))
    (outer_empty 199 (in_force c.args.types.now) (rest_of c.args.cursor.now) c.args.item.now c.requires.first
    (sym c.takes.ensures.found ∙ c.if-takes.true)
    ∙ ap (λ v. let q : Syn × List Lexeme = (node Kinds.EmptyExternal c.args.item.now nil, v) in Some q)
    (sym (c.takes.ensures.taken c.if-takes.true)))

pub returns-clause-tree : goal.returns-clause-tree
returns-clause-tree c =
    naming_after _ c.takes.new.self _ _ _ c.external.result
    (outer_other 199 (in_force c.args.types.now) (rest_of c.args.cursor.now) c.args.item.now c.requires.first
    (sym c.takes.ensures.found ∙ c.if-takes.false)
    ∙ ap (λ v. external 199 (in_force c.args.types.now) v) (sym (c.takes.ensures.left c.if-takes.false)))
    (grows_to grows_same (sym c.takes.ensures.nodes)) c.external.ensures.tree
