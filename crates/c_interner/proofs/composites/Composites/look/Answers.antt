use Rattle.std.proofs.Common.{ℕ, ◌<◌, List, length, sym, ◌∙◌}
use Rattle.c_tree.specs.declared.typed.CType.{CType}
use Rattle.c_interner.specs.Known.{IsComposite, AreComposites}
use Rattle.c_interner.proofs.Keeping.{if_some, self_composite, answer_plain, answer_kept}
use Rattle.c_interner.proofs.composites.Composites.look.Goals as goal

pub returns-then-pair-clause-known : goal.returns-then-pair-clause-known
returns-then-pair-clause-known c = sym (answer_plain c.args.self.now.known.entries c.args.pair c.if-pair.true)

pub returns-then-pair-clause-is : goal.returns-then-pair-clause-is
returns-then-pair-clause-is c types a l = self_composite types c.args.pair c.if-pair.true l

pub returns-clause-known : goal.returns-clause-known
returns-clause-known c =
    answer_kept c.args.self.now.known.entries c.args.pair c.copied.result c.if-pair.false
    (c.copied.ensures ∙ c.get.ensures.value)

pub returns-clause-is : goal.returns-clause-is
returns-clause-is c =
    if_some c.copied.result (λ (k : ℕ). (types : List CType) → AreComposites types c.args.self.now →
    c.args.pair.0 < length types → IsComposite types c.args.pair k)
    (λ k e types a l. a.known c.args.pair k (sym (c.copied.ensures ∙ c.get.ensures.value) ∙ e))
