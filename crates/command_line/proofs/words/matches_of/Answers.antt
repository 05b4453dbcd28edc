use Rattle.std.proofs.Common.{◌∙◌, List, ap, sym, map}
use Rattle.std.specs.Prelude.{string_bytes}
use Rattle.std.proofs.lemmas.Bool.{false≢true}
use Rattle.clap.specs.Faults.{fault_of, is_simple_and_free}
use Rattle.clap.specs.Words.{App, Text, app_of, first_of, found_of, is_simple, matches_of}
use Rattle.clap.proofs.WalkLemmas.{first_value-rows}
use Rattle.command_line.proofs.Simple.{simple, simple_and_free, one_of_none}
use Rattle.command_line.proofs.words.matches_of.Goals as goal

pub returns-in-Ok : goal.returns-in-Ok
returns-in-Ok c =
    let words : List Text = map (λ s. string_bytes s) c.args.words.now in
    let app = c.in_ok-command.ensures in
    let fine = c.in-Ok.ensures.kinds (ap is_simple_and_free app ∙ simple_and_free) in
    let rows = c.in-Ok.ensures.matches (ap is_simple app ∙ simple) in (
      ap (λ (a : App). fault_of a words) (sym app) ∙ fine,
      λ id. first_value-rows (found_of c.in-Ok.matches) id
          ∙ ap (first_of id) (rows.0 ∙ ap (λ (a : App). matches_of a words) app),
    )

pub returns : goal.returns
returns c =
    let words : List Text = map (λ s. string_bytes s) c.args.words.now in
    let app = c.in_ok-command.ensures in
    λ takes.
    one_of_none (fault_of (app_of c.in_ok-command.field-0) words) c.in-Err.e (λ memory.
    let kind = c.kind.ensures ∙ memory in
    let same = rw kind at c.eq.ensures in
    false≢true (sym c.if-eq.false ∙ same)) (ap (λ (a : App). fault_of a words) app ∙ takes)
    (c.in-Err.ensures.kinds (ap is_simple_and_free app ∙ simple_and_free))
