use Rattle.std.proofs.Common.{◌≡◌, ◌<◌, true, false, length, sym, ap, ◌∙◌, arith}
use Rattle.c_tree.specs.Programs.{is_there}
use Rattle.c_plain_parts.proofs.Faulting.{uses_same}
use Rattle.c_plain_parts.proofs.Shown.{body_there}
use Rattle.c_plain_parts.proofs.faults.function_fault.Goals as goal

pub returns-in-None : goal.returns-in-None
returns-in-None c = λ s f h e.
    c.undefined.ensures ∙ uses_same false (is_there f.body) c.function-used.result f.used _
    (ap is_there (rw c.in-None.is at c.definition-found.ensures)
    ∙ sym (body_there c.args.work.now s c.args.k f h e))
    (c.requires.uses.uses.functions c.args.k c.function-used.result c.function-used.ensures
    ∙ sym (h.used_functions c.args.k f e))

pub returns-in-Some : goal.returns-in-Some
returns-in-Some c = λ s f h e.
    c.undefined-in-Some.ensures
    ∙ uses_same true (is_there f.body) c.function-used.result f.used _
    (ap is_there (rw c.in-Some.is at c.definition-found.ensures)
    ∙ sym (body_there c.args.work.now s c.args.k f h e))
    (c.requires.uses.uses.functions c.args.k c.function-used.result c.function-used.ensures
    ∙ sym (h.used_functions c.args.k f e))

pub function-used-requires : goal.function-used-requires
function-used-requires c =
    let e : length c.args.uses.now.functions.items ≡ length c.args.work.now.nodes.p.funs = c.requires.uses.functions in
    let h : c.args.k < length c.args.work.now.nodes.p.funs = c.requires.there in
    omega arith
