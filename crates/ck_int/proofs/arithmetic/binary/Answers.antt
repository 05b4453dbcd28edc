use Rattle.std.proofs.Common.{◌∙◌, sym, ap, pos, subst}
use Rattle.ck_int.specs.Kinds.{IsKept, wrapped}
use Rattle.ck_int.specs.Words.{word_result_of}
use Rattle.ck_int.proofs.Laws.{IsKept-binary_of}
use Rattle.ck_int.proofs.WordLaws.{binary_of-word}
use Rattle.ck_int.proofs.arithmetic.binary.Goals as goal

pub returns-clause-value : goal.returns-clause-value
returns-clause-value c =
    let word = c.word_result.ensures
    ∙ (λ i. word_result_of c.args.op c.args.kind (c.reduce-left.ensures i) (c.reduce-right.ensures i)) in
    c.reduce.ensures ∙ ap (λ n. wrapped c.args.kind (pos n)) word
    ∙ sym (binary_of-word c.args.op c.args.kind c.args.a c.args.b)

pub returns-clause-kept : goal.returns-clause-kept
returns-clause-kept c =
    subst (IsKept c.args.kind) (sym (returns-clause-value c)) (IsKept-binary_of c.args.op c.args.kind c.args.a c.args.b)
