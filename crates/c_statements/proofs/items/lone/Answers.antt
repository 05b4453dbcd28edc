use Rattle.std.proofs.Common.{refl, sym, ◌∙◌}
use Rattle.c_expressions.specs.Nodes.{type_in}
use Rattle.c_statements.proofs.Reading.{one_part, lone_text, lone_other}
use Rattle.c_statements.proofs.items.lone.Goals as goal

pub returns-then-takes_string : goal.returns-then-takes_string
returns-then-takes_string c =
    let w = c.args.work.now in (
      refl,
      λ xs p. let o = one_part w c.args.k xs p in
          lone_text xs o.0 (type_in w.nodes c.args.of) o.1 ((c.part-part.ensures o.0 o.2).kind ∙ c.in-Text.is)
          (c.takes_string.ensures ∙ c.if-takes_string.true),
    )

pub returns-in_default : goal.returns-in_default
returns-in_default c = λ xs p.
    let w = c.args.work.now in
    let o = one_part w c.args.k xs p in
    lone_other xs o.0 (type_in w.nodes c.args.of) o.1
    (λ e. c.in_default.not-Text (sym (c.part-part.ensures o.0 o.2).kind ∙ e))
