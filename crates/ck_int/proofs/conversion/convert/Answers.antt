use Rattle.std.proofs.Common.{◌≡◌, ◌∙◌, sym, ap, pos, subst}
use Rattle.ck_int.specs.Kinds.{IsKept, converted, value_of, wrapped, form_of}
use Rattle.ck_int.proofs.Laws.{IsKept-wrapped, value_of-represented, wrapped-below}
use Rattle.ck_int.proofs.WordLaws.{wrapped-word_of, value_of-word}
use Rattle.ck_int.proofs.conversion.convert.Goals as goal

is_converted : (c : goal.After-reduce-2) → c.reduce-2.result ≡ wrapped c.args.to (value_of c.args.from c.args.v)
is_converted c =
    c.reduce-2.ensures ∙ ap (λ n. wrapped c.args.to (pos n)) c.reduce.ensures
    ∙ sym (wrapped-word_of (form_of c.args.from) c.args.to _ (wrapped-below c.args.from (pos c.args.v)))
    ∙ ap (wrapped c.args.to) (sym (value_of-word c.args.from c.args.v))

pub returns-clause-value : goal.returns-clause-value
unfolding converted
returns-clause-value c = is_converted c

pub returns-clause-kept : goal.returns-clause-kept
returns-clause-kept c = subst (IsKept c.args.to) (sym (is_converted c)) (IsKept-wrapped c.args.to _)

pub returns-clause-unchanged : goal.returns-clause-unchanged
returns-clause-unchanged c h = ap (value_of c.args.to) (is_converted c) ∙ value_of-represented c.args.to _ h
