use Rattle.std.proofs.Common.{◌≡◌, ℕ, Bool, true, sym, subst, ◌∙◌}
use Rattle.c_tree.specs.Types.{agree}
use Rattle.c_type_levels.specs.Agreement.{lengths_of}
use Rattle.c_interner.specs.Known.{type_in}
use Rattle.c_interner.proofs.Keeping.{if_some, lengths_self, answer_plain, answer_kept}
use Rattle.c_interner.proofs.Pairing.{agree_self}
use Rattle.c_interner.proofs.agreement.Agreements.look.Goals as goal

pub returns-then-pair-clause-agree : goal.returns-then-pair-clause-agree
returns-then-pair-clause-agree c =
    let types = c.args.self.now.types.now in
    let first = type_in types c.args.pair.0 in
    subst (λ (k : ℕ). agree (lengths_of c.args.self.now.how) first (type_in types k) ≡ true) c.if-pair.true
    (agree_self (lengths_of c.args.self.now.how) (lengths_self c.args.self.now.how) first)

pub returns-then-pair-clause-known : goal.returns-then-pair-clause-known
returns-then-pair-clause-known c = sym (answer_plain c.args.self.now.known.entries c.args.pair c.if-pair.true)

pub returns-clause-known : goal.returns-clause-known
returns-clause-known c =
    answer_kept c.args.self.now.known.entries c.args.pair c.copied.result c.if-pair.false
    (c.copied.ensures ∙ c.get.ensures.value)

pub returns-clause-agree : goal.returns-clause-agree
returns-clause-agree c =
    let types = c.args.self.now.types.now in
    if_some c.copied.result (λ (r : Bool). agree (lengths_of c.args.self.now.how) (type_in types c.args.pair.0)
    (type_in types c.args.pair.1) ≡ r) (λ r e.
    c.requires.known c.args.pair r (sym (c.copied.ensures ∙ c.get.ensures.value) ∙ e))
