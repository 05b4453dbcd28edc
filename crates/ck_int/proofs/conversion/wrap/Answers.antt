use Rattle.std.proofs.Common.{◌≡◌, ◌∙◌, sym, ap, subst}
use Rattle.std.proofs.lemmas.Int.{to_z-of_z}
use Rattle.std.specs.Int.{w128}
use Rattle.ck_int.specs.Kinds.{IsKept, value_of, wrapped}
use Rattle.ck_int.proofs.Laws.{IsKept-wrapped, value_of-represented}
use Rattle.ck_int.proofs.conversion.wrap.Goals as goal

is_wrapped : (c : goal.After-reduce) → c.reduce.result ≡ wrapped c.args.kind c.args.v
is_wrapped c = c.reduce.ensures ∙ c.representative.ensures
    ∙ ap (wrapped c.args.kind) (to_z-of_z w128 c.args.v c.ranges.v)

pub returns-clause-value : goal.returns-clause-value
returns-clause-value c = is_wrapped c

pub returns-clause-kept : goal.returns-clause-kept
returns-clause-kept c = subst (IsKept c.args.kind) (sym (is_wrapped c)) (IsKept-wrapped c.args.kind c.args.v)

pub returns-clause-unchanged : goal.returns-clause-unchanged
returns-clause-unchanged c h = ap (value_of c.args.kind) (is_wrapped c) ∙ value_of-represented c.args.kind c.args.v h
