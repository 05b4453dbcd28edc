use Rattle.reg_alloc.proofs.NextCall.{has_iff}
use Rattle.reg_alloc.proofs.calls.Calls.has.Goals as goal

pub returns : goal.returns
returns c =
    let found = rw c.as_slice.ensures.value at c.binary_search.ensures.position in
    rw c.is_ok.ensures.value (has_iff c.args.self.now.numbers.items c.args.number c.binary_search.result
    c.args.self.now.ordered found)
