use Rattle.std.proofs.Common.{◌-◌, length, drop, refl, sym, ap, subst, ◌∙◌}
use Rattle.std.specs.Prelude.{slice_get}
use Rattle.c_plain_rules.specs.Tables.{HasUses}
use Rattle.c_finish.proofs.Firsts.{no_uses, at_end, one_back, at_begin, use_fits}
use Rattle.c_finish.proofs.tables.first_uses.Goals as goal

pub loop-i-init : goal.loop-i-init
loop-i-init c = record {
  uses = at_end (λ us. HasUses us (record {
    objects = c.in_ok-objects.objects;
    functions = c.in_ok-functions.functions;
  })) c.as_slice-uses.result.now
      (length c.as_slice-uses.result.now) refl
      (no_uses _ c.in_ok-objects.ensures.blank c.in_ok-functions.ensures.blank);
  objects = c.in_ok-objects.ensures.count ∙ ap length c.as_slice.ensures;
  functions = c.in_ok-functions.ensures.count ∙ ap length c.as_slice-2.ensures;
}

pub set_use-requires : goal.set_use-requires
set_use-requires c =
    let w = c.args.work.now in
    let i = length c.as_slice-uses.result.now - 1 - c.loop-i.i in
    let h = c.requires in
    use_fits w h.state _ _ c.use_at-u.result.what h.shows c.loop-i.invariant.objects c.loop-i.invariant.functions
    (h.shows.closed.uses i c.use_at-u.result (ap (λ us. slice_get us i) (sym c.as_slice-uses.ensures.value)
    ∙ c.use_at-u.ensures))

pub loop-i-preserved : goal.loop-i-preserved
loop-i-preserved c =
    let us = c.as_slice-uses.result.now in
    record {
      uses = one_back (λ vs. HasUses vs c.set_use.new.table) us
          (length us) c.loop-i.i c.use_at-u.result c.loop-i-test.true c.use_at-u.ensures
          (c.set_use.ensures.adds (drop (length us - c.loop-i.i) us) c.loop-i.invariant.uses);
      objects = c.set_use.ensures.objects ∙ c.loop-i.invariant.objects;
      functions = c.set_use.ensures.functions ∙ c.loop-i.invariant.functions;
    }

pub returns : goal.returns
returns c =
    let us = c.as_slice-uses.result.now in
    record {
      uses = subst (λ vs. HasUses vs c.loop-i.table) c.as_slice-uses.ensures.value
          (at_begin (λ vs. HasUses vs c.loop-i.table) us
          (length us) c.loop-i.i c.loop-i-test.false c.loop-i.invariant.uses);
      objects = c.loop-i.invariant.objects;
      functions = c.loop-i.invariant.functions;
    }
