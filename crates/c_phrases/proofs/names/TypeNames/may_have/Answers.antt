use Rattle.std.proofs.Common.{◌∙◌, sym, ap, arith, length, leb-false}
use Rattle.ck_base.specs.Tokens.{is_among}
use Rattle.c_phrases.specs.Got
use Rattle.c_phrases.proofs.Counting.{none_counted}
use Rattle.c_phrases.proofs.names.TypeNames.may_have.Goals as goal

pub returns-then-self-count : goal.returns-then-self-count
unfolding Got.in_force
returns-then-self-count c = λ outside.
    sym (ap (λ v. is_among v c.args.text.now) c.self.view_is)
    ∙ none_counted c.self.inside.counts c.self.inside.names.items c.args.text.now c.self.invariant.counted (λ some.
    let lengths = c.self.invariant.lengths c.args.text.now some in
    omega (arith, leb-false (length c.args.text.now) c.self.inside.longest outside, lengths.1))

pub returns-else-self-count : goal.returns-else-self-count
unfolding Got.in_force
returns-else-self-count c = λ outside.
    sym (ap (λ v. is_among v c.args.text.now) c.self.view_is)
    ∙ none_counted c.self.inside.counts c.self.inside.names.items c.args.text.now c.self.invariant.counted (λ some.
    let lengths = c.self.invariant.lengths c.args.text.now some in omega (arith, c.if-self-count.false, lengths.0))
