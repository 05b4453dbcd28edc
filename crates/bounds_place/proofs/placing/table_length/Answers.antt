use Rattle.bounds_place.proofs.Lengths.{table_fits}
use Rattle.bounds_place.proofs.placing.table_length.Goals as goal

pub returns : goal.returns
returns c = table_fits c.args.entries c.rounded_length.result c.requires.some c.requires.few c.rounded_length.ensures
