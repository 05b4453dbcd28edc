use Rattle.c_phrases.proofs.Made.{bind_is}
use Rattle.c_externals.proofs.Parted.{reads_after}
use Rattle.std.proofs.lemmas.Result.{IfOk-weaker}
use Rattle.std.proofs.Common.{refl}
use Rattle.c_phrases.proofs.Paying.{then_owed, roomy_paid}
use Rattle.c_externals.proofs.declarations.declarator.Goals as goal

pub returns-clause-tree : goal.returns-clause-tree
returns-clause-tree c = let a = c.in_ok-declarator.ensures.tree in
    reads_after _ c.read.new.cursor _ c.initialize.result (bind_is _ a.reads) a.grows
    (c.initialize.ensures.tree a.tree a.means)

pub returns-clause-size : goal.returns-clause-size
returns-clause-size c = IfOk-weaker c.initialize.result _ _
    (λ p q. then_owed c.in_ok-declarator.ensures.size q refl) c.initialize.ensures.size

pub initialize-requires-clause-room : goal.initialize-requires-clause-room
initialize-requires-clause-room c = roomy_paid c.in_ok-declarator.ensures.size c.requires.room

pub initialize-requires-clause-low : goal.initialize-requires-clause-low
initialize-requires-clause-low c = c.in_ok-declarator.ensures.low
