use Rattle.std.proofs.Common.{ap, sym, ◌∙◌}
use Rattle.c_tree.specs.Layout.{bare, extent, members_of, offset_of_member, no_members}
use Rattle.std.specs.Prelude.{slice_get}
use Rattle.cheri_c_sem.specs.Types.{offset_or_zero}
use Rattle.tac_lower.proofs.Tabled.{none_before}
use Rattle.tac_lower.proofs.types.struct_members.Goals as goal

pub returns-in-None-clause-offset : goal.returns-in-None-clause-offset
returns-in-None-clause-offset c = λ k.
    let go = extent c.args.p.now.types in
    ap (λ o. offset_or_zero (offset_of_member o go k))
    (ap (λ z. bare z c.args.t) (sym c.as_slice.ensures) ∙ c.in-None.ensures)
    ∙ sym (ap offset_or_zero (none_before go k no_members))

pub returns-in-Some : goal.returns-in-Some
returns-in-Some c =
    record {
      offset = (λ k.
          let go = extent c.args.p.now.types in
          ap (λ o. offset_or_zero (offset_of_member o go k))
          (ap (λ z. bare z c.args.t) (sym c.as_slice.ensures) ∙ c.in-Some.ensures)
          ∙ c.members_of.ensures.offset go k);
      among = (λ k m h.
          ap (λ o. slice_get (members_of o) k) (ap (λ z. bare z c.args.t) (sym c.as_slice.ensures) ∙ c.in-Some.ensures)
          ∙ c.members_of.ensures.among k m h);
    }
