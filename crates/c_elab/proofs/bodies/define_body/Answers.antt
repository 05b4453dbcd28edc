use Rattle.std.proofs.Common.{Some, sym, ◌∙◌}
use Rattle.c_elaborator.specs.declared.work.Work.{Work}
use Rattle.c_readings.proofs.Kids.{part_kept}
use Rattle.c_elaborator.proofs.Going.{context_kept, context_there}
use Rattle.c_elab.proofs.Defining.{body_defined, defines_at}
use Rattle.c_readings.proofs.Within.{still_within}
use Rattle.c_elab.proofs.bodies.define_body.Goals as goal

pub type_body-requires : goal.type_body-requires
type_body-requires c =
    let u : Work = c.args.work.now in
    let v : Work = c.open_body.new.work in
    let o = c.in_ok-open_body.ensures in
    record {
      whole = o.whole;
      context = context_there u v c.context_of-context.result o.keeps c.context_of-context.ensures.there;
      part = still_within u v c.args.block o.keeps c.requires.part;
    }

pub returns-in-Some : goal.returns-in-Some
returns-in-Some c = λ z p s h q i.
    let u : Work = c.args.work.now in
    defines_at u c.args.p c.args.k z (Some c.in-Some.place) s q
    (sym c.in-Some.is ∙ (rw c.as_slice-2.ensures.value at c.first_incomplete.ensures) s h) i

pub returns : goal.returns
returns c = λ z p.
    let u : Work = c.args.work.now in
    let v : Work = c.open_body.new.work in
    let o = c.in_ok-open_body.ensures in
    body_defined u v c.type_body.new.work c.args.p c.args.k c.in_ok-count.count c.context_of-context.result z
    c.type_body.result c.requires.there (λ s h. sym c.in_default.is
    ∙ (rw c.as_slice-2.ensures.value at c.first_incomplete.ensures) s h) c.context_of-context.ensures.is
    (context_kept u v c.context_of-context.result o.keeps c.context_of-context.ensures.there)
    (rw c.as_slice.ensures.value at c.in_ok-count.ensures) o
    (c.type_body.ensures z (part_kept u v c.args.block z o.keeps p))
