use Rattle.std.proofs.Common.{◌≡◌, true, false, sym, ◌∙◌, arith, eq-eqb}
use Rattle.std.specs.Prelude.{◌==◌}
use Rattle.std.proofs.lemmas.Bool.{ne_eqb}
use Rattle.c_declarators.specs.Words.{type_words}
use Rattle.c_declarators.proofs.Specifying.{no_type, some_type, one_alone, one_and_words, many_named}
use Rattle.c_declarators.proofs.specifiers.type_of.Goals as goal

pub returns-then-type_words-eq0 : goal.returns-then-type_words-eq0
returns-then-type_words-eq0 c =
    let b : (type_words c.args.words == 0) ≡ true =
    eq-eqb (type_words c.args.words) 0 (sym c.type_words.ensures ∙ c.if-type_words-eq0.true) in
    some_type c.args.nodes.now _ _ c.requires.whole (c.requires.there 0 0 (omega arith))
    (one_alone c.args.words c.args.nodes.now c.args.named.now c.in-len1.len_at_least c.in-len1.len_below b)

pub returns-else-type_words-eq0 : goal.returns-else-type_words-eq0
returns-else-type_words-eq0 c =
    let b : (type_words c.args.words == 0) ≡ false =
    ne_eqb (type_words c.args.words) 0 (λ e. c.if-type_words-eq0.false (c.type_words.ensures ∙ e)) in
    no_type c.args.nodes.now _ c.requires.whole
    (one_and_words c.args.words c.args.nodes.now c.args.named.now c.in-len1.len_at_least c.in-len1.len_below b)

pub returns-in_default : goal.returns-in_default
returns-in_default c = no_type c.args.nodes.now _ c.requires.whole
    (many_named c.args.words c.args.nodes.now c.args.named.now c.in_default.len_at_least)
