use Rattle.std.proofs.Common.{◌≡◌, ℕ, ◌∙◌, Some, sym}
use Rattle.std.proofs.lemmas.Option.{none-some}
use Rattle.c_tree.specs.Types.{Ty, composite}
use Rattle.c_tree.specs.Views.{types_of}
use Rattle.c_types.specs.Stands.{named}
use Rattle.c_types.proofs.Looking.{if_ok}
use Rattle.c_types.proofs.Judged.{named_past}
use Rattle.c_types.proofs.Seeing.{composite_named}
use Rattle.c_types.proofs.scopes.Scopes.merged.Goals as goal

pub returns-else-is_err-clause-ok : goal.returns-else-is_err-clause-ok
returns-else-is_err-clause-ok c =
    if_ok c.composite-merged.result _ (λ (k : ℕ). (t u : Ty) → named (types_of c.args.p.now.types) c.args.a ≡ Some t →
    named (types_of c.args.p.now.types) c.args.b ≡ Some u →
    named (types_of c.composite-merged.new.p.types) k ≡ Some (composite t u)) c.composite-merged.ensures.ok
    (λ k e t u f g. composite_named c.args.p.now c.composite-merged.new.p k c.args.a c.args.b t u e.0 e.1 f g)

pub returns-else-b-count-clause-ok : goal.returns-else-b-count-clause-ok
returns-else-b-count-clause-ok c t u f g =
    let n : c.as_slice-count.result.now ≡ c.args.p.now.types = c.as_slice-count.ensures in
    absurd (none-some u (sym (named_past c.args.p.now c.args.b (rw n at c.if-b-count.false)) ∙ g))

pub returns-else-a-count-clause-ok : goal.returns-else-a-count-clause-ok
returns-else-a-count-clause-ok c t u f g =
    let n : c.as_slice-count.result.now ≡ c.args.p.now.types = c.as_slice-count.ensures in
    absurd (none-some t (sym (named_past c.args.p.now c.args.a (rw n at c.if-a-count.false)) ∙ f))
