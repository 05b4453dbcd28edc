use Rattle.std.proofs.Common.{refl, ap, sym, ◌∙◌, suc, length}
use Rattle.std.proofs.lemmas.Result.{err_from_is_err_and, MatchResult-weaker}
use Rattle.c_tree.specs.declared.syntax.NodeKind.TheVariants as Kinds
use Rattle.c_tree.specs.Syntax.{node}
use Rattle.c_tree.specs.Parses.{file_start}
use Rattle.c_externals.specs.Statements.{externals, read_file}
use Rattle.c_phrases.specs.Got.{rest_of}
use Rattle.c_phrases.proofs.Made.{bind_is, fails_bind, fails_same, fails_memory}
use Rattle.c_externals.proofs.externals.file.Goals as goal

pub returns-in_err-parts-clause-tree : goal.returns-in_err-parts-clause-tree
unfolding read_file
returns-in_err-parts-clause-tree c =
    let p = err_from_is_err_and c.from_residual.result c.from_residual.ensures.1 in rw (p.1, p.2)
    (fails_bind _ _ _ (fails_same _ (ap (λ v.
    externals 199 (suc (length (rest_of c.args.cursor.now))) v (rest_of c.args.cursor.now))
    (sym c.requires.names)) c.in_err-parts.ensures.tree))

pub returns-clause-tree : goal.returns-clause-tree
unfolding read_file
returns-clause-tree c =
    let g = c.in_ok-parts.ensures.tree in
    MatchResult-weaker c.make.result c.make.ensures.tree
    (λ part made. record {
      tree = node Kinds.File file_start g.trees;
      means = made.means file_start g.trees (record {
        kind = refl;
        own = record { pos = refl; text = refl };
        first = record { pos = refl; text = refl };
        names = refl;
      }) g.holds;
      reads = bind_is _ (ap (λ v. externals 199 (suc (length (rest_of c.args.cursor.now))) v
          (rest_of c.args.cursor.now)) (sym c.requires.names) ∙ g.reads);
    })
    (λ e same. fails_memory e _ same)
