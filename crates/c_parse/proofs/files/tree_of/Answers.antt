use Rattle.std.proofs.Common.{◌≡◌, ◌<◌, length, ap, sym, subst, ◌∙◌, arith, None}
use Rattle.c_tree.specs.Syntax.{StandsAt}
use Rattle.c_externals.specs.Statements.{read_file}
use Rattle.c_phrases.specs.Got.{rest_of}
use Rattle.c_parse.specs.Parsed.{no_tree}
use Rattle.c_parse.proofs.Answering.{tree_made, none_made, some_token, fails_none}
use Rattle.c_parse.proofs.files.tree_of.Goals as goal
use Rattle.c_parse.proofs.files.tree_of.Goals.{After-new-cursor}

-- what is left at first are the tokens
whole : (c : After-new-cursor) → rest_of c.new-cursor.result ≡ c.args.tokens.now
whole c = c.new-cursor.ensures.rest ∙ c.new.ensures

pub file-requires : goal.file-requires
file-requires c =
    let none = ap length c.new-cursor.ensures.nodes in
    let all = ap length (whole (goal.at.file-requires c).After-new-cursor) in
    record { room = omega (arith, all, c.requires); names = c.in_ok-types.ensures }

pub returns-in-Ok : goal.returns-in-Ok
returns-in-Ok c = λ file checked.
    let f = c.in-Ok.ensures.tree in
    let size = c.in-Ok.ensures.size in
    let none = ap length c.new-cursor.ensures.nodes in
    let at = whole (goal.at.returns-in-Ok c).After-new-cursor in
    let all = ap length at in
    let same = ap length c.from_vec.ensures in
    tree_made file c.args.tokens.now
    (rest_of c.new-cursor.result) f.tree _ checked.cut at f.reads
    (subst (λ v. StandsAt v c.in-Ok.part.number f.tree) (sym c.from_vec.ensures) f.means.stands)
    (omega (arith, all, c.requires))

pub stopped-requires : goal.stopped-requires
stopped-requires c =
    some_token c.args.tokens.now (subst (λ v. read_file 199 v ≡ None)
    (whole (goal.at.stopped-requires c).After-new-cursor)
    (fails_none _ _ c.in-Err-NoTree.field-0-is c.in-Err-NoTree.ensures.tree))

pub returns-in-Err-NoTree : goal.returns-in-Err-NoTree
returns-in-Err-NoTree c = λ file checked.
    no_tree c.args.tokens.now checked.cut
    (none_made c.args.tokens.now (rest_of c.new-cursor.result) (whole (goal.at.returns-in-Err-NoTree c).After-new-cursor)
    (fails_none _ _ c.in-Err-NoTree.field-0-is c.in-Err-NoTree.ensures.tree))
    (c.stopped.ensures file)
