use Rattle.std.proofs.Common.{◌<◌, ◌∙◌, subst}
use Rattle.std.specs.Prelude.{All}
use Rattle.image_load.proofs.Sorted.{judged_well, regions_lie}
use Rattle.image_load.proofs.loading.memory_of.Goals as goal

pub new-requires : goal.new-requires
new-requires c = rw c.in_ok-regions.ensures (regions_lie c.args.view.now c.requires)

pub fill-requires : goal.fill-requires
fill-requires c = rw c.text_of.ensures ((judged_well c.args.view.now c.requires).spread.text.base)

pub fill-requires-2 : goal.fill-requires-2
fill-requires-2 c = rw c.initial_of.ensures ((judged_well c.args.view.now c.requires).spread.initial.base)

pub returns-clause-text : goal.returns-clause-text
returns-clause-text c = subst (All (λ b. b < 256)) (c.bytes.ensures.value ∙ c.text.ensures) c.bytes.ensures.small

pub returns-clause-initial : goal.returns-clause-initial
returns-clause-initial c =
    subst (All (λ b. b < 256)) (c.bytes-2.ensures.value ∙ c.initial.ensures) c.bytes-2.ensures.small
