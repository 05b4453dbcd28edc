use Rattle.c_tree.specs.Types.{int}
use Rattle.c_tree.specs.Scopes.{give}
use Rattle.c_elaborator.specs.Answers.{quietly, TypeThere, IsType}
use Rattle.c_elaborator.specs.Parts.{token_of}
use Rattle.c_elaborator.proofs.Sequencing.{quiet_law, also_then}
use Rattle.c_declarators.specs.Steps.{named_enumeration_of}
use Rattle.c_readings.proofs.rules.named_enum.Goals as goal

pub returns : goal.returns
returns c =
    let u = c.args.work.now in
    also_then quietly quiet_law u u c.int_type.new.work (named_enumeration_of (token_of u c.args.name))
    (give int) _ _ TypeThere IsType c.int_type.result c.in_ok-named_enumeration.ensures c.int_type.ensures
