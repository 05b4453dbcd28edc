use Rattle.std.proofs.Common.{◌∙◌, sym, ap}
use Rattle.std.specs.Prelude.{nat_lt, bytes_eq}
use Rattle.ck_base.specs.Tokens.{is_among}
use Rattle.c_phrases.specs.Got
use Rattle.c_phrases.proofs.Force.{reversed_any}
use Rattle.c_phrases.proofs.Counting.{positive_any}
use Rattle.c_phrases.proofs.names.TypeNames.contains.Goals as goal

pub returns-then-may_have : goal.returns-then-may_have
unfolding Got.in_force
returns-then-may_have c =
    let text = c.args.text.now in
    let names = c.self.inside.names.items in
    ap (nat_lt 0) (c.count.ensures ∙ c.self.invariant.counted.each text)
    ∙ positive_any (λ name. bytes_eq name.now text) names
    ∙ sym (reversed_any (λ name. bytes_eq name text) (λ name. name.now) names)
    ∙ ap (λ v. is_among v text) c.self.view_is
