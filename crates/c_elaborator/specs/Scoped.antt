-- The innermost scope is dropped.
use Rattle.c_tree.specs.Scopes.{leave}
use Rattle.c_elaborator.specs.declared.work.Work.{Work}
use Rattle.c_elaborator.specs.Answers.{Done, freely}

abbrev pub Leaves : Work → Work → Type 0
Leaves u v = Done freely u v leave (Unit {0}) (λ s a. Unit {0})
