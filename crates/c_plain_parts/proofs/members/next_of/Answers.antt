use Rattle.std.proofs.Common.{ap, arith}
use Rattle.cap_layout.specs.Answers.{extent_is}
use Rattle.c_tree.specs.Scopes.{type_extent}
use Rattle.c_expressions.specs.Nodes.{type_in}
use Rattle.c_types.proofs.Sizing.{next_past, next_failed, next_fits}
use Rattle.c_plain_parts.proofs.members.next_of.Goals as goal

pub returns-then-end-gt-LIMIT-clause-is : goal.returns-then-end-gt-LIMIT-clause-is
returns-then-end-gt-LIMIT-clause-is c = λ s h.
    next_past (extent_is c.args.end) (type_extent s.tags (type_in c.args.work.now.nodes c.args.of)) (omega arith)

pub returns-in-Err-clause-is : goal.returns-in-Err-clause-is
returns-in-Err-clause-is c = λ s h.
    next_failed (extent_is c.args.end) _ c.in-Err.field-0 (c.in-Err.ensures.is s h.stands)

pub returns-in-Ok : goal.returns-in-Ok
returns-in-Ok c = record {
  is = (
    c.requires,
    λ s h. (
      extent_is c.in-Ok.m,
      next_fits (extent_is c.args.end) _ c.in-Ok.m (omega arith) (c.in-Ok.ensures.is s h.stands),
      ap (λ n. (n, type_in c.args.work.now.nodes c.args.of)) c.start_of-at.ensures.is,
      c.behind.ensures,
    ),
  );
  close = omega (arith, c.start_of-at.ensures.bound);
}
