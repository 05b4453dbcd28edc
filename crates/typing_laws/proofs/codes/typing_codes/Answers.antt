use Rattle.typing_laws.proofs.codes.Files.{coded}
use Rattle.typing_laws.proofs.codes.typing_codes.Goals as goal

pub returns : goal.returns
returns c = record { coded = coded }
