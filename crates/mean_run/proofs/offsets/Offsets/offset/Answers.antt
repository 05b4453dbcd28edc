use Rattle.std.proofs.Common.{arith}
use Rattle.mean_run.proofs.Members.{not_missing, not_past, offset_found}
use Rattle.mean_run.proofs.Nodes.{past, there}
use Rattle.mean_run.proofs.offsets.Offsets.offset.Goals as goal

pub returns-in-None : goal.returns-in-None
returns-in-None c = λ types known has.
    let l = rw (c.deref.ensures.value, c.self.view_is) at c.in-None.ensures.lookup in
    absurd (not_missing types c.args.self.now known c.args.t c.args.member (omega arith) has
    (past c.args.self.now c.args.t l.0))

pub returns-in-None-get : goal.returns-in-None-get
returns-in-None-get c = λ types known has.
    let l = rw (c.deref.ensures.value, c.self.view_is) at c.in-Some.ensures.lookup in
    let n = rw c.as_slice.ensures at c.in-None-get.ensures.lookup in
    absurd (not_past types c.args.self.now known c.args.t c.args.member (omega arith) has c.in-Some.offsets.now
    (there c.args.self.now c.args.t _ l.0 l.1) (past c.in-Some.offsets.now c.args.member n.0))

pub returns-in-Some-get : goal.returns-in-Some-get
returns-in-Some-get c = λ types known has.
    let l = rw (c.deref.ensures.value, c.self.view_is) at c.in-Some.ensures.lookup in
    let m = rw c.as_slice.ensures at c.in-Some-get.ensures.lookup in
    offset_found types c.args.self.now known c.args.t c.args.member (omega arith) has c.in-Some.offsets.now _
    (there c.args.self.now c.args.t _ l.0 l.1) (there c.in-Some.offsets.now c.args.member _ m.0 m.1)
