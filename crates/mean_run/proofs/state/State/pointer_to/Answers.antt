use Rattle.std.proofs.Common.{Some, sym, ap, subst, ◌∙◌}
use Rattle.std.specs.Prelude.{map}
use Rattle.cheri_c_sem.specs.Types.{narrowing_to, size_in}
use Rattle.mean_steps.specs.Machine.{first_place}
use Rattle.mean_run.specs.Sizes.{IsSmall}
use Rattle.mean_work.specs.Places.{place_of}
use Rattle.mean_run.proofs.Finishing.{pointer_at, same_act}
use Rattle.mean_run.proofs.state.State.pointer_to.Goals as goal

pub returns-then-is_member-clause-does : goal.returns-then-is_member-clause-does
returns-then-is_member-clause-does g c = λ vars small x.
    let ops = g.B.Operations.meaning c.args.m.now in
    let held = g.B.Operations.held c.args.m.now in
    let p = c.args.s.now.p.now in
    let few = subst (IsSmall p) (sym c.type_of.ensures) small in
    let size = c.facts.ensures.size few in
    let own = c.within_limit-own.ensures.is (rw size few) ∙ size in
    let narrowing = rw c.if-is_member.true at c.is_member.ensures vars in
    let narrowed = ap (λ n. Some (narrowing_to n)) (own ∙ ap (size_in p.types) c.type_of.ensures) ∙ sym narrowing in
    same_act _ _ _ c.point_to_member.result
    (pointer_at ops p held c.args.self.now c.take_place.new.self c.args.self.now c.args.pos _ _ x narrowed
    c.take_place.ensures.state)
    (c.point_to_member.ensures.does p (first_place (map place_of c.args.self.now.places))
    (rw c.take_place.ensures.place at c.capability-to.ensures))
