use Rattle.c_initializers.specs.Objects.{counted}
use Rattle.c_initializers.proofs.ObjectLaws.{no_object, retyped_extended, object_completed}
use Rattle.c_initializers.proofs.objects.complete_object.Goals as goal

pub returns-in-None : goal.returns-in-None
returns-in-None c = no_object c.args.work.now c.args.k (counted c.args.count) c.requires c.in-None.ensures.is

pub returns-in_ok-counted-in-Some : goal.returns-in_ok-counted-in-Some
returns-in_ok-counted-in-Some c =
    let n = c.with_count.new.nodes in
    let m = c.retype.new.nodes in
    object_completed c.args.work.now n m c.args.k c.in-Some.of c.in_ok-counted-in-Some.counted c.args.count c.requires
    c.in-Some.ensures.is c.in_ok-counted-in-Some.ensures
    (retyped_extended n m c.retype.ensures.rest c.retype.ensures.extends) c.retype.ensures.stands
