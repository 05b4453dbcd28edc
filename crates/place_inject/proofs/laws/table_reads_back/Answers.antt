use Rattle.place_inject.proofs.Tables.{table_reads_back_law}
use Rattle.place_inject.proofs.laws.table_reads_back.Goals as goal

pub returns : goal.returns
returns c = table_reads_back_law
