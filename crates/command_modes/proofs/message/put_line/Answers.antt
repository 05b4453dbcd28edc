use Rattle.std.proofs.Common.{◌≡◌, ℕ, List, [], ◌∷◌, ◌++◌, sym, ap, subst, ◌∙◌}
use Rattle.std.specs.Prelude.{codes, OnOk, OnErr}
use Rattle.std.specs.Io.KnownBytes.{Appends}
use Rattle.ck_base.specs.Outside.{AppendsPart}
use Rattle.command_modes.specs.Answers.{text_of}
use Rattle.command_modes.proofs.Puts.{ended_at, named_pieces}
use Rattle.command_modes.proofs.message.put_line.Goals as goal

pub returns-clause-whole : goal.returns-clause-whole
returns-clause-whole g c =
    let place = c.marked-place.result in
    let end = c.as_bytes-3.ensures.value ∙ c.as_str-3.ensures.value ∙ c.end_at-2.ensures
    ∙ ap (λ front. ended_at front place.line place.col)
    (c.push_str-2.ensures.bytes ∙ ap (λ bytes. bytes ++ codes ":") c.new-end.ensures) in
    let same = named_pieces c.args.file.now c.args.answer c.in-Some.pos c.as_bytes-2.result.now place.name.now
    c.as_bytes-3.result.now place.line place.col (sym c.pos_of.ensures ∙ c.in-Some.is)
    (c.as_bytes-2.ensures.value ∙ c.as_str-2.ensures.value ∙ c.words_of-words.ensures.bytes) c.marked-place.ensures.name
    c.marked-place.ensures.line c.marked-place.ensures.col (sym c.is_empty.ensures ∙ c.if-is_empty.false) end in
    subst (λ (piece : List ℕ). OnOk c.put_three.result (Appends (g.N.Sink.held c.args.notes.now)
    (g.N.Sink.held c.put_three.new.notes) piece)) same c.put_three.ensures.whole

pub returns-clause-part : goal.returns-clause-part
returns-clause-part g c =
    let place = c.marked-place.result in
    let end = c.as_bytes-3.ensures.value ∙ c.as_str-3.ensures.value ∙ c.end_at-2.ensures
    ∙ ap (λ front. ended_at front place.line place.col)
    (c.push_str-2.ensures.bytes ∙ ap (λ bytes. bytes ++ codes ":") c.new-end.ensures) in
    let same = named_pieces c.args.file.now c.args.answer c.in-Some.pos c.as_bytes-2.result.now place.name.now
    c.as_bytes-3.result.now place.line place.col (sym c.pos_of.ensures ∙ c.in-Some.is)
    (c.as_bytes-2.ensures.value ∙ c.as_str-2.ensures.value ∙ c.words_of-words.ensures.bytes) c.marked-place.ensures.name
    c.marked-place.ensures.line c.marked-place.ensures.col (sym c.is_empty.ensures ∙ c.if-is_empty.false) end in
    subst (λ (piece : List ℕ). OnErr c.put_three.result (AppendsPart (g.N.Sink.held c.args.notes.now)
    (g.N.Sink.held c.put_three.new.notes) piece)) same c.put_three.ensures.part
