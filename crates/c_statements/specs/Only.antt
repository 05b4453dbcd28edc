-- What declarations and statements give: a statement gives one action.
use Rattle.std.specs.Prelude.{◌≡◌, length}
use Rattle.c_tree.specs.Syntax.{Syn}
use Rattle.c_elaborator.specs.declared.work.Work.{Work}
use Rattle.c_elaborator.specs.declared.items.Items.{Items}
use Rattle.c_elaborator.specs.Items.{ItemsThere}
use Rattle.c_elaborator.specs.Parts.{IsStatement}

abbrev pub ItemThere : Syn → Work → Items → Type 0
ItemThere x w i = ItemsThere w i × (IsStatement x → length i.actions.items ≡ 1)
