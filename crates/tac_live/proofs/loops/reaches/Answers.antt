use Rattle.std.proofs.Common.{◌≡◌, ℕ, suc, ◌+◌, ◌++◌, [], ◌∷◌, drop, length, sym, subst, ap, ◌∙◌, arith}
use Rattle.std.specs.BTreeMap.{get}
use Rattle.std.specs.Ordering.{nat_cmp}
use Rattle.tac_ir.specs.Temps.{goes_to}
use Rattle.tac_ir.specs.declared.code.TacInstr.TheVariants as instr
use Rattle.tac_ir.specs.Intervals.{IsAt}
use Rattle.tac_live.specs.Loops.{ArePlaces, AreReaches}
use Rattle.tac_live.proofs.LoopSteps.{places_same, places_more, other_key, none_ends, reaches_other, goes_nowhere}
use Rattle.tac_live.proofs.LoopSteps.{jump_arm}
use Rattle.tac_live.proofs.Numbers.{at_item}
use Rattle.tac_live.proofs.Pushes.{written_back}
use Rattle.tac_live.proofs.loops.reaches.Goals as goal
use Rattle.tac_live.proofs.loops.reaches.Goals.{in-Label+in_ok-insert-in-Label, in-Jump, in-Branch, in_default}

pub note_jump-requires : goal.note_jump-requires
note_jump-requires c x e =
    let b = (c.loop-i.invariant.places.sound c.in-Jump.l x e).0 in
    let l = c.deref_mut.ensures.len in
    let n = c.loop-i.invariant.reach.len in
    let ok = c.loop-i.reach.ok.0 in
    let p = c.in_ok-push-2.ensures.len in
    omega arith

pub note_jump-requires-in-Branch : goal.note_jump-requires-in-Branch
note_jump-requires-in-Branch c x e =
    let b = (c.loop-i.invariant.places.sound c.in-Branch.label x e).0 in
    let l = c.deref_mut-in-Branch.ensures.len in
    let n = c.loop-i.invariant.reach.len in
    let ok = c.loop-i.reach.ok.0 in
    let p = c.in_ok-push-2.ensures.len in
    omega arith

pub loop-i-preserved : goal.loop-i-preserved
loop-i-preserved c =
    let code = c.args.code.now in
    let i = c.i-item.result in
    let upto = c.loop-i.at in
    let at = upto + 1 in
    let at_index = c.loop-i.invariant.at in
    let here = at_item code c.loop-i.i-index i at c.loop-i-test.true c.i-item.is (omega arith) in
    let next : at ≡ suc upto = omega arith in
    let place : ℕ → _ = λ k. get nat_cmp c.loop-i.places k in
    let before = c.loop-i.invariant.places in
    let reach = c.loop-i.reach.items in
    let reaches = c.loop-i.invariant.reach in
    let pushed : c.push-in-loop-i.new.self.items ≡ reach ++ at ∷ [] = c.in_ok-push-2.ensures.items in
    elim c.match-i.branch [
      | in-Label+in_ok-insert-in-Label w ↦
          let l = w.in-Label.l in
          let label : IsAt code at (instr.Label l) = subst (λ j. IsAt code at j) w.in-Label.is here in
          let updates = w.in_ok-insert-in-Label.ensures.updates in
          record {
            at = omega arith;
            places = subst (λ m. ArePlaces code at (λ k. get nat_cmp m k)) (sym w.places-is)
                (places_more code upto at next place (λ k. get nat_cmp w.insert.new.self k) l c.requires.labels label
                updates.1 (λ q ne. updates.2 q (other_key l q ne)) before);
            reach = subst (λ xs. AreReaches code at xs) (sym (ap (λ v. v.items) w.reach-is ∙ pushed))
                (reaches_other code upto at reach next reaches
                (none_ends code upto at place i next here before (ap goes_to w.in-Label.is)));
          }
      | in-Jump w ↦
          let other : (m : ℕ) → i ≡ instr.Label m → ⊥ = λ m e. (let s = w.in-Jump.is in cc) in
          let kept = w.note_jump.auto.reach in
          let len = w.deref_mut.ensures.len in
          let back = written_back w.note_jump.new.reach
          (drop (length w.note_jump.new.reach) c.push-in-loop-i.new.self.items) c.push-in-loop-i.new.self.len
          (omega arith) in
          record {
            at = omega arith;
            places = subst (λ m. ArePlaces code at (λ k. get nat_cmp m k)) (sym w.places-is)
                (places_same code upto at next place i here other before);
            reach = subst (λ xs. AreReaches code at xs) (sym (ap (λ v. v.items) w.reach-is ∙ back))
                (jump_arm code upto at reach place i w.in-Jump.l w.deref_mut.result.now w.note_jump.new.reach next
                reaches before here (ap goes_to w.in-Jump.is) other
                (w.deref_mut.ensures.value ∙ pushed) w.note_jump.ensures);
          }
      | in-Branch w ↦
          let other : (m : ℕ) → i ≡ instr.Label m → ⊥ = λ m e. (let s = w.in-Branch.is in cc) in
          let kept = w.note_jump-in-Branch.auto.reach in
          let len = w.deref_mut-in-Branch.ensures.len in
          let back = written_back w.note_jump-in-Branch.new.reach
          (drop (length w.note_jump-in-Branch.new.reach) c.push-in-loop-i.new.self.items)
          c.push-in-loop-i.new.self.len (omega arith) in
          record {
            at = omega arith;
            places = subst (λ m. ArePlaces code at (λ k. get nat_cmp m k)) (sym w.places-is)
                (places_same code upto at next place i here other before);
            reach = subst (λ xs. AreReaches code at xs) (sym (ap (λ v. v.items) w.reach-is ∙ back))
                (jump_arm code upto at reach place i w.in-Branch.label w.deref_mut-in-Branch.result.now
                w.note_jump-in-Branch.new.reach next reaches before here (ap goes_to w.in-Branch.is) other
                (w.deref_mut-in-Branch.ensures.value ∙ pushed) w.note_jump-in-Branch.ensures);
          }
      | in_default w ↦
          record {
            at = omega arith;
            places = subst (λ m. ArePlaces code at (λ k. get nat_cmp m k)) (sym w.places-is)
                (places_same code upto at next place i here w.in_default.not-Label before);
            reach = subst (λ xs. AreReaches code at xs) (sym (ap (λ v. v.items) w.reach-is ∙ pushed))
                (reaches_other code upto at reach next reaches
                (none_ends code upto at place i next here before
                (goes_nowhere i w.in_default.not-Jump w.in_default.not-Branch)));
          }
    ]
