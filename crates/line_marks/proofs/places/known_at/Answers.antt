use Rattle.std.proofs.Common.{◌-◌, ◌∙◌, arith}
use Rattle.line_marks.specs.Known.{known_of}
use Rattle.line_marks.proofs.Passing.{pass, pass_last, split_here}
use Rattle.line_marks.proofs.places.known_at.Goals as goal

pub loop-n-preserved : goal.loop-n-preserved
loop-n-preserved c =
    let split = split_here c.split_at.ensures.front c.split_at.ensures.back c.line_length.ensures.value in record {
      counted = omega (arith, c.behind-known.ensures.counted, c.loop-n.invariant.counted);
      same = rw c.behind-known.ensures.known (pass (known_of c.loop-n.known) _ (c.args.line - c.loop-n._n) _ _ _ split
          c.in-len1-up.len_at_least (omega arith) ∙ c.loop-n.invariant.same);
    }

pub returns-in-empty : goal.returns-in-empty
returns-in-empty c =
    let split = split_here c.split_at.ensures.front c.split_at.ensures.back c.line_length.ensures.value in
    c.behind-known.ensures.known ∙ pass_last (known_of c.loop-n.known) (c.args.line - c.loop-n._n) _ _ _ split
    c.in-empty.len_below (omega arith) ∙ c.loop-n.invariant.same
