use Rattle.std.proofs.Common.{◌≡◌, true, false, subst, ap, ◌∙◌, sym}
use Rattle.std.specs.Prelude.{slice_get}
use Rattle.tac_lower.specs.Tables.{is_some, IsPointed}
use Rattle.cheri_c_sem.specs.Expressions.{type_of}
use Rattle.tac_lower.proofs.Tabled.{pointed_is, node_there}
use Rattle.tac_lower.proofs.Typings.{none_points}
use Rattle.tac_lower.proofs.context.Context.pointed_size.Goals as goal

pub returns-in-None-clause-is : goal.returns-in-None-clause-is
returns-in-None-clause-is c = λ r. ap is_some (sym c.in-None.is) ∙ c.facts.ensures.points r

pub returns-in-Some : goal.returns-in-Some
returns-in-Some c =
    record {
      is = (λ r. ap is_some (sym c.in-Some.is) ∙ c.facts.ensures.points r);
      size = (λ r.
          let p = c.args.self.p.now in
          let k = c.args.k in
          let n = node_there (slice_get p.exprs k) (λ none. let e : true ≡ false = ap is_some (sym c.in-Some.is)
          ∙ c.facts.ensures.points r ∙ none_points p r.ordered k none in cc) in
          subst (λ z. IsPointed p.types (type_of z) c.facts_at.result.size) (sym n.1)
          (pointed_is (c.facts.ensures.fits n.0 r n.1) c.in-Some.is (c.facts_at.ensures _ r.table)));
    }
