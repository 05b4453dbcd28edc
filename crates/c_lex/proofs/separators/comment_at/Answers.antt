use Rattle.std.proofs.Common.{sym, ◌∙◌, arith}
use Rattle.std.proofs.lemmas.List.{take_rest}
use Rattle.ck_base.specs.Lexes.{line, block}
use Rattle.c_lex.proofs.Stands.{block_within}
use Rattle.c_lex.proofs.separators.comment_at.Goals as goal

pub returns-then-starts_with : goal.returns-then-starts_with
returns-then-starts_with c = rw c.line_length.ensures (line (sym c.starts_with.ensures.value ∙ c.if-starts_with.true))

pub overflow_add-result : goal.overflow_add-result
overflow_add-result c =
    let closes = rw (take_rest c.args.bytes.now 2) at c.in-Some.ensures.found in
    let within = block_within c.args.bytes.now c.in-Some.n closes in
    omega arith

pub returns-in-None : goal.returns-in-None
returns-in-None c = (
  sym c.starts_with-else-starts_with.ensures.value ∙ c.if-starts_with-2.true,
  rw (take_rest c.args.bytes.now 2) at c.in-None.ensures.none,
)

pub returns-in-Some : goal.returns-in-Some
returns-in-Some c =
    block (sym c.starts_with-else-starts_with.ensures.value ∙ c.if-starts_with-2.true)
    (rw (take_rest c.args.bytes.now 2) at c.in-Some.ensures.found)
