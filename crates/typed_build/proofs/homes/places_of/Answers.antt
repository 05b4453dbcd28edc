use Rattle.std.proofs.Common.{◌≡◌, ◌<◌, [], ◌∷◌, length, length-append, Some, refl, sym, ap, ◌∙◌, arith}
use Rattle.std.specs.Prelude.{slice_get}
use Rattle.std.proofs.lemmas.Option.{slice_get_read}
use Rattle.typed_build.specs.Frames.{HasHomes}
use Rattle.typed_build.specs.Registers.{ArePlacesOf}
use Rattle.typed_build.proofs.Growing.{grown}
use Rattle.typed_build.proofs.homes.places_of.Goals as goal

pub homes_of-requires-clause-countable : goal.homes_of-requires-clause-countable
homes_of-requires-clause-countable c =
    let funs = c.as_slice-funs.result.now in
    let lt : c.loop-f.f-index < length funs = omega (arith, c.loop-f-test.true) in
    c.requires c.loop-f.f-index c.f-item.result
    (ap (λ xs. slice_get xs c.loop-f.f-index) (sym c.as_slice-funs.ensures)
    ∙ slice_get_read funs (length funs) c.loop-f.f-index c.f-item.result refl lt c.f-item.is)

pub loop-f-preserved : goal.loop-f-preserved
loop-f-preserved c =
    let funs = c.as_slice-funs.result.now in
    let lt : c.loop-f.f-index < length funs = omega (arith, c.loop-f-test.true) in
    let at : slice_get funs (length c.loop-f.places.items) ≡ Some c.f-item.result =
    ap (slice_get funs) c.loop-f.invariant.len
    ∙ slice_get_read funs (length funs) c.loop-f.f-index c.f-item.result refl lt c.f-item.is in
    record {
      len = omega (
        arith,
        c.loop-f.invariant.len,
        ap length c.in_ok-push.ensures.items,
        length-append c.loop-f.places.items (c.in_ok-homes_of.field-0 ∷ []),
      );
      homes = λ k f l e g. grown (λ f l. HasHomes f l.homes) funs c.loop-f.places.items c.f-item.result
          c.in_ok-homes_of.field-0 c.loop-f.invariant.homes at c.in_ok-homes_of.ensures.homes k f l e
          (ap (λ xs. slice_get xs k) (sym c.in_ok-push.ensures.items) ∙ g);
      checked = λ k f l e g. grown (λ f l. ArePlacesOf f l.homes) funs c.loop-f.places.items c.f-item.result
          c.in_ok-homes_of.field-0 c.loop-f.invariant.checked at c.in_ok-homes_of.ensures.checked k f l e
          (ap (λ xs. slice_get xs k) (sym c.in_ok-push.ensures.items) ∙ g);
    }

pub returns-clause-homes : goal.returns-clause-homes
returns-clause-homes c k f l e g =
    c.loop-f.invariant.homes k f l (ap (λ xs. slice_get xs k) c.as_slice-funs.ensures ∙ e) g

pub returns-clause-checked : goal.returns-clause-checked
returns-clause-checked c k f l e g =
    c.loop-f.invariant.checked k f l (ap (λ xs. slice_get xs k) c.as_slice-funs.ensures ∙ e) g
