use Rattle.std.proofs.Common.{◌≡◌, ◌∙◌, ap, sym, refl}
use Rattle.c_tree.specs.Terms.{type_of}
use Rattle.c_tree.specs.Types.{Void, Pointer}
use Rattle.std.proofs.lemmas.Option.{none-some}
use Rattle.tac_lower.proofs.Tabled.{units_are, fits_node, target_is}
use Rattle.tac_lower.proofs.Copying.{copied_is, copied_past}
use Rattle.tac_lower.proofs.Signatures.{pointed}
use Rattle.tac_lower.proofs.Typings.{expression_past, expression_type, facts_kept, facts_point, none_kept, none_points}
use Rattle.tac_lower.proofs.context.Context.facts.Goals as goal

pub returns-in-None : goal.returns-in-None
returns-in-None c =
    record {
      kept = (λ r. sym (none_kept _ r.ordered _ c.in-None.ensures));
      points = (λ r. sym (none_points _ r.ordered _ c.in-None.ensures));
      pointed = (λ t r e. absurd (let q : Void ≡ Pointer t = sym (ap type_of (expression_past _ r.ordered _
          c.in-None.ensures)) ∙ e
          in cc));
      copied = (λ r. copied_past _ _ c.in-None.ensures);
      target = (λ e r h. absurd (none-some e (sym c.in-None.ensures ∙ h)));
      «record» = (λ e r h. absurd (none-some e (sym c.in-None.ensures ∙ h)));
      units = (λ r. refl);
      fits = (λ e r h. absurd (none-some e (sym c.in-None.ensures ∙ h)));
    }

pub returns-in-Some : goal.returns-in-Some
returns-in-Some c =
    record {
      kept = (λ r. facts_kept _ r.ordered _ _ _ c.in-Some.ensures (c.facts_at.ensures _ r.table).kept);
      points = (λ r. facts_point _ r.ordered _ _ _ c.in-Some.ensures (c.facts_at.ensures _ r.table).points);
      pointed = (λ t r e.
          let n = pointed _ r.ordered _ t (sym (expression_type _ r.ordered _ _ c.in-Some.ensures) ∙ e) in
          record { type = n.type; is = (c.facts_at.ensures _ r.table).points ∙ n.is; names = n.names });
      copied = (λ r. copied_is _ _ _ c.in-Some.ensures ∙ (c.facts_at.ensures _ r.table).copied);
      target = (λ e r h. target_is (fits_node c.args.self.p.now c.args.k e _ c.facts_at.result
          c.in-Some.ensures (c.facts_at.ensures _ r.table) h));
      «record» = (λ e r h. (fits_node c.args.self.p.now c.args.k e _ c.facts_at.result
          c.in-Some.ensures (c.facts_at.ensures _ r.table) h).is_record);
      units = (λ r. units_are (c.facts_at.ensures _ r.table));
      fits = (λ e r h. fits_node c.args.self.p.now c.args.k e _ c.facts_at.result c.in-Some.ensures
          (c.facts_at.ensures _ r.table) h);
    }
