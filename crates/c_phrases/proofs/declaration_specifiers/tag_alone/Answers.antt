use Rattle.std.proofs.Common.{ap, sym, subst, ◌∙◌, length, Some, arith}
use Rattle.std.proofs.lemmas.Bool.{eqb-true, eqb-false}
use Rattle.std.proofs.lemmas.Result.{MatchResult-weaker}
use Rattle.c_tree.specs.Syntax.{node}
use Rattle.c_phrases.specs.Got.{IsPlaceOf, rest_of}
use Rattle.c_phrases.proofs.Made.{fails_memory}
use Rattle.c_phrases.proofs.Specifying.{no_items, holds_none, holds_some, with_parts_none, with_parts_some}
use Rattle.c_phrases.proofs.declaration_specifiers.tag_alone.Goals as goal

pub returns-then-is_empty-clause-tree : goal.returns-then-is_empty-clause-tree
returns-then-is_empty-clause-tree c = λ ys first names h.
    let none = eqb-true c.args.tag.kids.len 0 (sym c.is_empty.ensures ∙ c.if-is_empty.true) in
    let held = c.args.tag.kids.ok.0 in
    with_parts_none (node c.args.kind c.args.keyword.now) ys _ (holds_none h (no_items _ (omega arith)))

pub returns-clause-tree : goal.returns-clause-tree
returns-clause-tree c = λ ys first names h. MatchResult-weaker c.join.result c.join.ensures.tree
    (λ part made. record {
      tree = node c.args.kind c.args.keyword.now ys;
      means = made.means ys (subst (λ v. IsPlaceOf c.place.result v) (sym first) c.place.ensures) names h;
      reads = with_parts_some (node c.args.kind c.args.keyword.now) ys (rest_of c.args.cursor.now)
          (holds_some h (λ e. eqb-false c.args.tag.kids.len 0 (sym c.is_empty.ensures ∙ c.if-is_empty.false)
          (let l = ap length e in let held = c.args.tag.kids.ok.0 in omega arith)))
          ∙ ap (λ v. Some (node c.args.kind c.args.keyword.now ys, v)) (sym c.join.ensures.rest);
      grows = made.grows;
    })
    (λ e same. fails_memory e _ same)
