use Rattle.std.proofs.Common.{map}
use Rattle.c_elaborator.specs.Work.{aiming_of}
use Rattle.c_initializers.proofs.FoundLaws.{add-number, add-no-start}
use Rattle.c_initializers.proofs.statics.add_start.Goals as goal

pub returns-in_ok-push-in-Number : goal.returns-in_ok-push-in-Number
returns-in_ok-push-in-Number c = record {
  numbers = λ s f h. add-number c.args.work.now s c.args.x c.args.v.now c.size_of-width.result c.in-Number.number
      c.args.found.now.numbers.items c.push.new.self.items f c.in-Number.is
      (c.size_of-width.ensures.is s h) c.in_ok-push-in-Number.ensures.items;
  starts = λ s f h. add-no-start c.args.work.now s c.args.x c.args.v.now c.in-Number.number
      (map aiming_of c.args.found.now.starts.items) f c.in-Number.is;
}
