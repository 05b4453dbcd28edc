use Rattle.written_programs.proofs.Tagged.{typed_tags}
use Rattle.written_programs.proofs.typed_types_have_tags.Goals as goal

pub returns : goal.returns
returns c = record { tags = typed_tags }
