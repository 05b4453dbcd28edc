-- Structs and unions from the end of their members.
use Rattle.std.proofs.Common.{◌≡◌, ℕ, Bool, List, Option, Result, Err, ap, subst, ◌∙◌}
use Rattle.c_tree.specs.Layout.{Extent, members, no_members, whole, with_extent}
use Rattle.c_tree.specs.declared.typed.Member.{Member}
use Rattle.cap_layout.specs.Answers.{Exceeds, IsLayout}
use Rattle.cap_layout.specs.declared.answers.Layout.{Layout}
use Rattle.cap_layout.specs.Walks.{placing}
use Rattle.cap_layout.specs.declared.answers.LayoutFault.{LayoutFault}
use Rattle.cap_layout.specs.declared.answers.LayoutFault.TheVariants.{TooLarge}
use Rattle.cap_layout.proofs.Steps.{whole_fault}

pub room_over : (shared : Bool) (go : ℕ → Option Extent) (ms : List Member) (end : Result Layout LayoutFault)
    (f : LayoutFault) → end ≡ Err f → f ≡ TooLarge → IsLayout (members (placing shared) go ms no_members) end →
    Exceeds (with_extent (members (placing shared) go ms no_members) whole)
room_over shared go ms end f e g h =
    whole_fault shared go ms TooLarge
    (subst (λ r. IsLayout (members (placing shared) go ms no_members) r) (e ∙ ap Err g) h)
