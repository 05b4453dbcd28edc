use Rattle.std.proofs.Common.{◌≡◌, ◌-◌, ◌<◌, ◌∙◌, ap, length, arith, length-drop}
use Rattle.c_phrases.specs.Got.{in_force}
use Rattle.c_phrases.proofs.Force.{dropped_more}
use Rattle.c_phrases.proofs.names.TypeNames.truncate.Goals as goal

pub loop-self-preserved : goal.loop-self-preserved
loop-self-preserved c =
    let now = in_force c.loop-self.self in
    let there : c.args.count < length now = omega (arith, c.loop-self-test.true, c.len.ensures) in
    let some : 0 < length now = omega (arith, there) in
    let shorter : length (in_force c.pop.new.self) ≡ length now - 1 = ap length c.pop.ensures ∙ length-drop 1 now in
    record {
      rest = dropped_more (in_force c.args.self.now) now
          (in_force c.pop.new.self) c.loop-self.invariant.rest some c.loop-self.invariant.fewer c.pop.ensures;
      enough = λ h. omega (arith, there, shorter);
      fewer = omega (arith, shorter, c.loop-self.invariant.fewer);
    }
