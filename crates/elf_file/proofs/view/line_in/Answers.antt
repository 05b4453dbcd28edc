use Rattle.std.proofs.Common.{◌-◌, Ok, Err, Some, map, sym, ap, ◌∙◌, arith, rules}
use Rattle.std.proofs.lemmas.List.Sorted.{answers_always}
use Rattle.elf_file.specs.declared.image.Line.{Line}
use Rattle.elf_file.specs.Image.{line_of}
use Rattle.elf_file.proofs.Lines.{none_before, found}
use Rattle.elf_file.proofs.view.line_in.Goals as goal

pub returns-then-pc-base : goal.returns-then-pc-base
returns-then-pc-base c size ordered =
    sym (none_before (map line_of c.args.lines.now) c.args.base c.args.pc c.if-pc-base.true)

pub returns-in-Ok : goal.returns-in-Ok
returns-in-Ok c size ordered =
    let by_key = c.in-Ok.ensures.position (λ b. (line_of b).at)
    (answers_always _ _ _ (λ f a r g called. search rules)) in
    ap (λ (l : Line). Some l) c.line_of.ensures
    ∙ sym (found c.args.lines.now size c.args.base c.args.pc (c.args.pc - c.args.base) ordered (omega arith)
    (Ok c.in-Ok.place) c.in-Ok.ensures.bound by_key)

pub returns-in-Err : goal.returns-in-Err
returns-in-Err c size ordered =
    let by_key = c.in-Err.ensures.position (λ b. (line_of b).at)
    (answers_always _ _ _ (λ f a r g called. search rules)) in
    sym (found c.args.lines.now size c.args.base c.args.pc (c.args.pc - c.args.base) ordered (omega arith)
    (Err c.in-Err.field-0) c.in-Err.ensures.bound by_key)
