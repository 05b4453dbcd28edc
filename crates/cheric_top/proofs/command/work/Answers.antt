use Rattle.std.proofs.Common.{◌∙◌, ℕ, List, Option, Some, inl, inr, refl, ap, map, subst, String, Global}
use Rattle.std.specs.Prelude.{MatchOption, string_bytes}
use Rattle.command_line.specs.Asked.{line_of, mode_of}
use Rattle.command_line.specs.Lines as lines
use Rattle.command_line.specs.Lines.{IsLine}
use Rattle.command_line.specs.declared.line.Line.{Line}
use Rattle.cheric_top.proofs.command.work.Goals as goal

pub returns-in-Ok-Some-OfFile : goal.returns-in-Ok-Some-OfFile
returns-in-Ok-Some-OfFile g c =
    let read = c.in-Ok-Some-OfFile in
    let words = map (λ s. string_bytes s) c.as_slice.result.now in
    let line = lines.OfFile read.name.now (mode_of read.name.now read.mode) in
    let found = subst (λ (r : Option Line). MatchOption r ((line : lines.Line) → IsLine words line → ⊥)
    (λ line. IsLine words (line_of line))) (read.field-0-is ∙ ap Some read.field-0-0-is) read.ensures.is in
    inr (
      line,
      subst (λ (ws : List (String Global)). IsLine (map (λ s. string_bytes s) ws) line)
          c.as_slice.ensures.value found,
      c.work_on_name.ensures,
    )

pub returns-in-Ok-Some-Generate : goal.returns-in-Ok-Some-Generate
returns-in-Ok-Some-Generate g c =
    let read = c.in-Ok-Some-Generate in
    let words = map (λ s. string_bytes s) c.as_slice.result.now in
    let line = lines.Generate read.functions read.steps read.sizes in
    let found = subst (λ (r : Option Line). MatchOption r ((line : lines.Line) → IsLine words line → ⊥)
    (λ line. IsLine words (line_of line))) (read.field-0-is ∙ ap Some read.field-0-0-is) read.ensures.is in
    inr (
      line,
      subst (λ (ws : List (String Global)). IsLine (map (λ s. string_bytes s) ws) line)
          c.as_slice.ensures.value found,
      (
        refl,
        c.show_generated.ensures (g.I.Source.left c.args.input.now) (g.I.Source.faults c.args.input.now),
        c.new-none.ensures.items,
      ),
    )

pub returns-in-Ok-None : goal.returns-in-Ok-None
returns-in-Ok-None g c =
    let read = c.in-Ok-None in
    let words = map (λ s. string_bytes s) c.as_slice.result.now in
    let none = subst (λ (r : Option Line). MatchOption r ((line : lines.Line) → IsLine words line → ⊥)
    (λ line. IsLine words (line_of line))) read.field-0-is read.ensures.is in
    inl (
      (
        subst (λ (ws : List (String Global)). (line : lines.Line) → IsLine (map (λ s. string_bytes s) ws) line → ⊥)
            c.as_slice.ensures.value none,
        refl,
        refl,
      ),
      c.new-none.ensures.items,
    )
