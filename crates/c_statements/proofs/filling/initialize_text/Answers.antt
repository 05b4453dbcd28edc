use Rattle.std.proofs.lemmas.Result.{err_from_is_err_and}
use Rattle.c_expressions.specs.Nodes.{type_in}
use Rattle.c_elaborator.specs.Parts.{token_of}
use Rattle.c_statements.proofs.Initializing.{text_refused, text_filled_so}
use Rattle.c_statements.proofs.filling.initialize_text.Goals as goal

pub returns-in_err-fill_text : goal.returns-in_err-fill_text
returns-in_err-fill_text c =
    let e = err_from_is_err_and c.from_residual-in_err-fill_text.result c.from_residual-in_err-fill_text.ensures.1
    in λ xs first p.
    let u = c.args.work.now in
    rw (e.1, e.2) (text_refused u c.fill_text.new.work c.args.k (token_of u c.args.text) xs c.in_ok-bytes.bytes.items
    c.as_slice.result.now c.args.name.pos first (type_in u.nodes c.args.of) _ c.as_slice.ensures.value
    (c.in_ok-bytes.ensures xs p) (c.in_err-fill_text.ensures first))

pub returns : goal.returns
returns c = λ xs first p.
    let u = c.args.work.now in
    text_filled_so u c.fill_text.new.work c.args.k (token_of u c.args.text) xs c.in_ok-bytes.bytes.items
    c.as_slice.result.now c.args.name.pos first (type_in u.nodes c.args.of) c.no_items.result c.as_slice.ensures.value
    (c.in_ok-bytes.ensures xs p) (c.in_ok-fill_text.ensures first) c.no_items.ensures.vars c.no_items.ensures.actions
