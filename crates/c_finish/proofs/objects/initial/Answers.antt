use Rattle.std.proofs.Common.{◌≡◌, map, Option, sym, ap, subst}
use Rattle.std.specs.Borrow.{Bor}
use Rattle.std.specs.Prelude.{option_map}
use Rattle.c_tree.specs.Views as views
use Rattle.c_tree.specs.Programs.{initial_of}
use Rattle.c_elaborator.specs.declared.work.Filling.{Filling}
use Rattle.c_finish.specs.Finished.{AreNear, filled}
use Rattle.c_finish.proofs.Globals.{initial_is}
use Rattle.c_finish.proofs.objects.initial.Goals as goal

pub returns-in_ok-links-in-Some : goal.returns-in_ok-links-in-Some
returns-in_ok-links-in-Some c = λ s h.
    subst (λ (o : Option (Bor Filling)). initial_of s (option_map filled (option_map (λ (f : Bor Filling). f.now) o))
    ≡ (c.in_ok-bytes-in-Some.bytes.items, map views.pointing_of c.in_ok-links-in-Some.links.items))
    (sym c.in-Some.is)
    (initial_is s c.in-Some.f.now c.in_ok-bytes-in-Some.bytes.items c.in_ok-links-in-Some.links.items
    c.as_slice.result.now c.as_slice-in-Some.result.now c.as_slice.ensures.value c.as_slice-in-Some.ensures.value
    c.in_ok-bytes-in-Some.ensures.items (c.in_ok-links-in-Some.ensures s h))

pub links_of-requires-clause-near : goal.links_of-requires-clause-near
links_of-requires-clause-near c =
    let f = c.in-Some.f.now in
    subst AreNear (sym c.as_slice-in-Some.ensures.value)
    (c.requires.near f (ap (option_map (λ (f : Bor Filling). f.now)) c.in-Some.is))
