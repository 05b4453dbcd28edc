-- What a jump meets in the work that is left.
use Rattle.mean_run.specs.declared.blocks.Met.{Met}
use Rattle.mean_run.specs.declared.blocks.Met.TheVariants as met
use Rattle.mean_work.specs.declared.work.Work.{Work}
use Rattle.mean_work.specs.declared.work.Work.TheVariants as work

abbrev pub met_of : Work → Met
met_of (work.Leave f k) = met.Block f k
met_of (work.Again f k) = met.Loop
met_of work.SwitchEnd = met.Switch
met_of (work.Return g first) = met.Function g first
met_of w = met.Other
