use Rattle.std.proofs.Common.{◌≡◌, suc, ◌+◌, ◌<◌, None, length, get_or, take, drop, ◌++◌, sym, subst, ap, refl, ◌∙◌}
use Rattle.std.proofs.Common.{true, false, arith}
use Rattle.tac_ir.specs.Intervals.{is_control}
use Rattle.tac_ir.specs.Temps.{reads, writes}
use Rattle.tac_live.proofs.Numbers.{all_from_in, at_item, is_in_left, is_in_right}
use Rattle.tac_live.proofs.Pushes.{written_back}
use Rattle.tac_live.proofs.UseSteps.{IsLastControl, control_here, control_before, uses_step}
use Rattle.tac_live.specs.Uses.{MatchUses, noted}
use Rattle.tac_live.specs.declared.uses.Place.{Place}
use Rattle.tac_live.proofs.uses.uses_of.Goals as goal
use Rattle.tac_live.proofs.uses.uses_of.Goals.{then-is_control, else-is_control}

pub note_instruction-requires-clause-reads : goal.note_instruction-requires-clause-reads
note_instruction-requires-clause-reads c =
    let i = c.i-item.result in
    let here = at_item c.args.code.now c.loop-i.i-index i (c.loop-i.i-index + 1) c.loop-i-test.true c.i-item.is refl in
    all_from_in (λ k. k < length c.deref_mut.result.now) (reads i) (λ t h.
    let lt = c.requires.named t (c.loop-i.i-index + 1) (i, here, is_in_right t (writes i) (reads i) h) in
    let l = c.deref_mut.ensures.len in
    let n = c.loop-i.invariant.len in
    omega arith)

pub note_instruction-requires-clause-writes : goal.note_instruction-requires-clause-writes
note_instruction-requires-clause-writes c =
    let i = c.i-item.result in
    let here = at_item c.args.code.now c.loop-i.i-index i (c.loop-i.i-index + 1) c.loop-i-test.true c.i-item.is refl in
    all_from_in (λ k. k < length c.deref_mut.result.now) (writes i) (λ t h.
    let lt = c.requires.named t (c.loop-i.i-index + 1) (i, here, is_in_left t (writes i) (reads i) h) in
    let l = c.deref_mut.ensures.len in
    let n = c.loop-i.invariant.len in
    omega arith)

pub loop-i-preserved : goal.loop-i-preserved
loop-i-preserved c =
    let code = c.args.code.now in
    let i = c.i-item.result in
    let upto = c.loop-i.place.at in
    let at = upto + 1 in
    let place : Place = record { at = at; control = c.loop-i.place.control } in
    let after = c.if-is_control.place in
    let at_index = c.loop-i.invariant.at in
    let here = at_item code c.loop-i.i-index i at c.loop-i-test.true c.i-item.is (omega arith) in
    let next : at ≡ suc upto = omega arith in
    let same : after.at ≡ at =
    elim c.if-is_control.branch [
      | then-is_control w ↦ ap
          (λ (q : Place). q.at) w.place-is
      | else-is_control w ↦ ap (λ (q : Place). q.at) w.place-is
    ] in
    let last : IsLastControl code at after.control = elim c.if-is_control.branch [
      | then-is_control w ↦
          let e : is_control i ≡ true = cc in
          subst (λ (q : Place). IsLastControl code at q.control) (sym w.place-is)
          (control_here code upto at c.loop-i.place.control i next here e)
      | else-is_control w ↦
          let e : is_control i ≡ false = cc in
          subst (λ (q : Place). IsLastControl code at q.control) (sym w.place-is)
          (control_before code upto at c.loop-i.place.control i next here e c.loop-i.invariant.control)
    ] in
    let items = c.loop-i.uses.items in
    let len = c.deref_mut.ensures.len in
    let kept = c.note_instruction.auto.uses in
    let vec = c.loop-i.invariant.len in
    let written = c.note_instruction.new.uses in
    let after_items = take c.loop-i.uses.len (written ++ drop (length written) items) in
    let back : after_items ≡ written =
    written_back written (drop (length written) items) c.loop-i.uses.len (omega arith) in
    record {
      at = omega arith;
      control = subst (λ n. IsLastControl code n after.control) (sym same) last;
      len = c.loop-i.invariant.len;
      uses = λ t lt.
          let step = uses_step code upto at t next place i (get_or items t None) refl c.loop-i.invariant.control here
          (c.loop-i.invariant.uses t lt) in
          let noted_now : get_or written t None ≡ noted place true (writes i) t
          (noted place false (reads i) t (get_or items t None)) =
          c.note_instruction.ensures t (omega arith)
          ∙ ap (λ xs. noted place true (writes i) t (noted place false (reads i) t (get_or xs t None)))
          c.deref_mut.ensures.value in
          let now : get_or after_items t None ≡ noted place true (writes i) t
          (noted place false (reads i) t (get_or items t None)) =
          ap (λ xs. get_or xs t None) back ∙ noted_now in
          subst (λ n. MatchUses code n t (get_or after_items t None)) (sym same)
          (subst (λ o. MatchUses code at t o) (sym now) step);
    }

pub returns-clause-uses : goal.returns-clause-uses
returns-clause-uses c =
    let e : c.loop-i.place.at ≡ length c.args.code.now = let a = c.loop-i.invariant.at in omega arith in
    λ t lt. subst (λ n. MatchUses c.args.code.now n t (get_or c.loop-i.uses.items t None)) e
    (c.loop-i.invariant.uses t lt)
