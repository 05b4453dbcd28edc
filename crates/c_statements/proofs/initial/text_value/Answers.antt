use Rattle.c_expressions.specs.Nodes.{type_in}
use Rattle.c_elaborator.specs.Parts.{token_of}
use Rattle.c_statements.proofs.Plain.{text_given}
use Rattle.c_statements.proofs.initial.text_value.Goals as goal

pub returns : goal.returns
returns c = λ xs p.
    let u = c.args.work.now in
    text_given u c.string.new.work (token_of u c.args.name) xs c.in_ok-bytes.bytes.items c.as_slice.result.now
    c.args.goal.whole (type_in u.nodes c.args.goal.of) c.args.goal.at c.string.result c.as_slice.ensures.value
    (c.in_ok-bytes.ensures xs p) c.string.ensures
