use Rattle.image_load.proofs.Sorted.{judged_well}
use Rattle.image_load.proofs.loading.counter_of.Goals as goal

pub bounded-requires-clause-exact : goal.bounded-requires-clause-exact
bounded-requires-clause-exact c = rw c.text_of.ensures ((judged_well c.args.view.now c.requires).text)
