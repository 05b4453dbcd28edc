use Rattle.c_initializers.proofs.ObjectLaws.{pushed_filling, pushed_below}
use Rattle.c_initializers.proofs.objects.add_filling.Goals as goal

pub returns : goal.returns
returns c =
    let fs = c.args.fillings.now.items in
    let gs = c.push.new.self.items in
    record {
      is = λ j. pushed_filling fs gs c.args.filling j c.in_ok-push.ensures.items;
      below = λ n l h. pushed_below fs gs c.args.filling n c.in_ok-push.ensures.items l h;
    }
