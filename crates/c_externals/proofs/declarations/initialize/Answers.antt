use Rattle.std.proofs.Common.{◌++◌, refl, ap, sym, ◌∙◌, arith, None}
use Rattle.std.proofs.lemmas.Result.{err_from_is_err_and, IfOk-weaker}
use Rattle.std.proofs.lemmas.Bool.{le-leb}
use Rattle.c_tree.specs.declared.syntax.NodeKind.TheVariants as Kinds
use Rattle.c_tree.specs.Syntax.{node, first_token, height}
use Rattle.c_tree.specs.Grammar.{names_of_first}
use Rattle.c_phrases.specs.Reading.{◌>>=◌, read}
use Rattle.c_externals.specs.Statements.{fitting}
use Rattle.c_phrases.specs.Got.{rest_of, in_force}
use Rattle.c_externals.specs.Blocks.{valued}
use Rattle.c_phrases.proofs.Tools.{given, shut_le}
use Rattle.c_phrases.proofs.Made.{bind_is, then_is, else_is, fails_bind, fails_same}
use Rattle.c_externals.proofs.Parted.{made_reads}
use Rattle.c_externals.proofs.Declared.{initialize_by, valued_begins, adds_are}
use Rattle.c_phrases.proofs.Paying.{noded, owed_owed}
use Rattle.c_externals.proofs.declarations.initialize.Goals as goal

pub returns-in_err-parts-clause-tree : goal.returns-in_err-parts-clause-tree
returns-in_err-parts-clause-tree c =
    λ x m. let p = err_from_is_err_and c.from_residual-in_err-parts.result c.from_residual-in_err-parts.ensures.1 in
    rw (p.1, p.2)
    (let types = c.in_ok-define.ensures.names ∙ ap (λ v. v ++ in_force c.args.types.now) (adds_are c.args.defines m) in
    fails_same _ (initialize_by (read c.args.below) c.args.below c.args.defines x (in_force c.args.types.now)
    (rest_of c.args.cursor.now)
    ∙ ap (λ v. valued (read c.args.below) x v (rest_of c.args.cursor.now)
    >>= λ a. fitting (read c.args.below) c.args.below (node Kinds.InitDeclarator (first_token x) a.0) a.1)
    (sym types))
    (fails_bind _ _ _ (c.in_err-parts.ensures.tree x m)))

pub returns-then-parts-below-clause-tree : goal.returns-then-parts-below-clause-tree
returns-then-parts-below-clause-tree c = λ x m.
    let types = c.in_ok-define.ensures.names ∙ ap (λ v. v ++ in_force c.args.types.now) (adds_are c.args.defines m) in
    let got = c.in_ok-parts.ensures.tree x m in
    initialize_by (read c.args.below) c.args.below c.args.defines x (in_force c.args.types.now)
    (rest_of c.args.cursor.now)
    ∙ ap (λ v. valued (read c.args.below) x v (rest_of c.args.cursor.now)
    >>= λ a. fitting (read c.args.below) c.args.below (node Kinds.InitDeclarator (first_token x) a.0) a.1)
    (sym types)
    ∙ bind_is _ got.reads ∙ else_is _ (shut_le
    (height (node Kinds.InitDeclarator (first_token x) got.trees)) c.args.below
    (let t = got.holds.tall in let high = c.if-parts-below.true in omega arith))

pub returns-clause-tree : goal.returns-clause-tree
returns-clause-tree c = λ x m.
    let types = c.in_ok-define.ensures.names ∙ ap (λ v. v ++ in_force c.args.types.now) (adds_are c.args.defines m) in
    let got = c.in_ok-parts.ensures.tree x m in
    let begins = given (valued_begins (read c.args.below) x (in_force c.define.new.types) (rest_of c.args.cursor.now))
    got.reads in
    made_reads _ c.valued_declarator.new.cursor _
    (first_token x) got.trees c.make.result c.make.ensures.tree c.make.ensures.rest
    (record {
      kind = refl;
      own = m.root.first;
      first = m.root.first;
      names = m.root.names
          ∙ sym (ap names_of_first begins.1);
    })
    got.holds got.grows
    (initialize_by (read c.args.below) c.args.below c.args.defines x (in_force c.args.types.now)
    (rest_of c.args.cursor.now)
    ∙ ap (λ v. valued (read c.args.below) x v (rest_of c.args.cursor.now)
    >>= λ a. fitting (read c.args.below) c.args.below (node Kinds.InitDeclarator (first_token x) a.0) a.1)
    (sym types)
    ∙ bind_is _ got.reads ∙ then_is None (le-leb
    (height (node Kinds.InitDeclarator (first_token x) got.trees)) c.args.below
    (let t = got.holds.tall in let low = c.if-parts-below.false in omega arith)))

pub returns-clause-size : goal.returns-clause-size
returns-clause-size c = IfOk-weaker c.make.result _ _
    (λ p e. owed_owed c.in_ok-parts.ensures.size (noded c.valued_declarator.new.cursor c.make.new.self e.0
    c.make.ensures.rest)) c.make.ensures.size

pub returns-clause-low : goal.returns-clause-low
returns-clause-low c = IfOk-weaker c.make.result _ _
    (λ p e. omega (arith, e, c.if-parts-below.false)) c.make.ensures.low
