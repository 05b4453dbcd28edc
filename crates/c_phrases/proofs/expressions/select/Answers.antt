use Rattle.std.proofs.Common.{suc, length, refl, ap, sym, ◌∙◌, Some, arith}
use Rattle.std.proofs.lemmas.Result.{MatchResult-weaker, IfOk-weaker, err_from_is_err_and}
use Rattle.c_tree.specs.declared.syntax.NodeKind.TheVariants.{MemberName, Select}
use Rattle.c_tree.specs.Syntax.{node, nil, more, one}
use Rattle.c_phrases.specs.Reading
use Rattle.c_phrases.specs.Got.{rest_of}
use Rattle.c_phrases.proofs.Made.{fails_memory, holds_more, holds_on, grows_on}
use Rattle.c_phrases.proofs.Climbing.{grows_from}
use Rattle.c_phrases.proofs.Specifying.{select_low, select_not, select_is}
use Rattle.c_phrases.proofs.Paying.{took, noded, then_owed, owed_owed, owes}
use Rattle.c_phrases.proofs.expressions.select.Goals as goal

pub returns-then-below-eq0-clause-tree : goal.returns-then-below-eq0-clause-tree
returns-then-below-eq0-clause-tree c =
    λ x first h. select_low (Reading.read c.args.below) (suc c.args.below) c.args.selection x c.args.item.now
    (let n = c.if-below-eq0.true in omega arith) (rest_of c.args.cursor.now)

pub returns-in_default-clause-tree : goal.returns-in_default-clause-tree
returns-in_default-clause-tree c =
    λ x first h. select_not (Reading.read c.args.below) (suc c.args.below) c.args.selection x c.args.item.now
    (rest_of c.args.cursor.now) c.in_default.ensures.other

pub returns : goal.returns
returns c = record {
  size = IfOk-weaker c.join.result _ _
      (λ p e. owes (then_owed {m = 0} (took c.args.cursor.now c.take_if.new.self c.in-Some.ensures.nodes
      c.in-Some.ensures.size)
      (owed_owed (noded c.take_if.new.self c.leaf.new.self c.in_ok-member.ensures.size c.in_ok-member.ensures.rest)
      (noded c.leaf.new.self c.join.new.self e c.join.ensures.rest)) refl)) c.join.ensures.size;
  low = IfOk-weaker c.join.result _ _
      (λ p e. omega (
        arith,
        c.in_ok-parts.ensures.size,
        c.in_ok-member.ensures.low,
        c.requires.start,
        c.if-below-eq0.false,
      ))
      c.join.ensures.low;
  taller = IfOk-weaker c.join.result _ _ (λ p e. omega (arith, c.in_ok-parts.ensures.size))
      c.join.ensures.low;
  tree = (λ x first h. MatchResult-weaker c.join.result c.join.ensures.tree
      (λ part made.
      let leaf = c.in_ok-member.ensures in
      let grown = grows_from c.in-Some.ensures.nodes leaf.grows in
      record {
        tree = node (Select c.args.selection) c.args.item.now (more x (one (node MemberName c.in-Some.name nil)));
        means = made.means (more x (one (node MemberName c.in-Some.name nil))) first refl
            (holds_more (holds_on grown h) (leaf.tree refl) c.in_ok-parts.ensures.kids c.in_ok-parts.ensures.size);
        reads = select_is (Reading.read c.args.below)
            (suc c.args.below) c.args.selection x c.args.item.now c.in-Some.ensures.rest c.in-Some.ensures.found
            (let t = h.tall in let n = c.if-below-eq0.false in let l = c.requires.start in omega arith)
            ∙ ap (λ v. Some (
              node (Select c.args.selection) c.args.item.now
                  (more x (one (node MemberName c.in-Some.name nil))),
              v,
            )) (sym (c.join.ensures.rest ∙ leaf.rest));
        grows = grows_on grown made.grows;
      })
      (λ e same. fails_memory e _ same));
}

pub returns-in_err-member : goal.returns-in_err-member
returns-in_err-member c =
    let p = err_from_is_err_and c.from_residual.result c.from_residual.ensures.1 in
    rw (p.1, p.2) (record {
      size = tt;
      low = tt;
      taller = tt;
      tree =
          λ x first h. fails_memory _ _ c.in_err-member.ensures.tree;
    })

pub returns-in_err-parts : goal.returns-in_err-parts
returns-in_err-parts c =
    let p = err_from_is_err_and c.from_residual-in_err-parts.result c.from_residual-in_err-parts.ensures.1 in
    rw (p.1, p.2) (record {
      size = tt;
      low = tt;
      taller = tt;
      tree =
          λ x first h. fails_memory _ _ c.in_err-parts.ensures.full;
    })

pub join-requires : goal.join-requires
join-requires c = record {
  room = let same = ap length c.in-Some.ensures.nodes in
      omega (arith, same, c.in_ok-member.ensures.size, c.requires.room);
  height = omega (
    arith,
    c.in_ok-parts.ensures.size,
    c.in_ok-member.ensures.low,
    c.requires.start,
    c.requires.height,
  );
}
