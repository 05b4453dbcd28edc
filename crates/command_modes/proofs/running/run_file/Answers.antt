use Rattle.std.proofs.Common.{◌≡◌, ◌∙◌, inl, inr, ap, sym, subst, Ok, Err, Result}
use Rattle.ck_base.specs.Calls.{seen}
use Rattle.elf_file.specs.Reading.{reading}
use Rattle.elf_file.specs.declared.image.Image.{Image}
use Rattle.elf_file.specs.declared.refusal.ElfRefusal.{ElfRefusal}
use Rattle.image_load.specs.Loading.{Loaded}
use Rattle.command_modes.specs.Modes.{NotBuilt, RanLoaded}
use Rattle.command_modes.specs.declared.answer.Answer.{Answer}
use Rattle.command_modes.proofs.Said.{image_read, not_built_says, same_loaded}
use Rattle.command_modes.proofs.running.run_file.Goals as goal

pub unreachable-requires : goal.unreachable-requires
unreachable-requires g c =
    let b = c.in-Ok.ensures.built.built.image in
    let r = image_read c.in-Ok.built.elf.items b.loaded b.loads in
    let e : ◌≡◌ {A = Result Image ElfRefusal} (Err c.in_default.field-0) (Ok b.loaded.image) =
    sym c.in_default.is ∙ c.read.ensures.exact ∙ ap reading c.deref.ensures.value ∙ r.0 in
    cc

pub returns-in-Ok-run_image : goal.returns-in-Ok-run_image
returns-in-Ok-run_image g c =
    let before = seen (g.I.Source.left c.args.input.now) (g.I.Source.faults c.args.input.now)
    (g.O.Sink.held c.args.out.now) (g.O.Sink.faults c.args.out.now) in
    let after = seen (g.I.Source.left c.run_image.new.input) (g.I.Source.faults c.run_image.new.input)
    (g.O.Sink.held c.run_image.new.out) (g.O.Sink.faults c.run_image.new.out) in
    let b = c.in-Ok.ensures.built.built.image in
    let r = image_read c.in-Ok.built.elf.items b.loaded b.loads in
    let read : ◌≡◌ {A = Result Image ElfRefusal} (Ok c.in-Ok-read.view) (Ok b.loaded.image) =
    sym c.in-Ok-read.is ∙ c.read.ensures.exact ∙ ap reading c.deref.ensures.value ∙ r.0 in
    let same : b.loaded.image ≡ c.in-Ok-read.view = cc in
    inr (
      record {
        elf = c.in-Ok.built.elf.items;
        map = c.in-Ok.built.map;
        count = c.in-Ok.built.count;
        built = c.in-Ok.ensures.built;
        sized = c.in-Ok.ensures.sized;
      },
      subst (λ (l : Loaded). RanLoaded before after l c.args.limit.0 c.in-Ok-run_image.answer)
          (same_loaded b.loaded c.in-Ok-read.view same r.1) c.in-Ok-run_image.ensures.1,
    )

pub returns-in-Err : goal.returns-in-Err
returns-in-Err g c =
    let now = seen (g.I.Source.left c.args.input.now) (g.I.Source.faults c.args.input.now)
    (g.O.Sink.held c.args.out.now) (g.O.Sink.faults c.args.out.now) in
    inl (subst (λ (answer : Answer). NotBuilt now now c.args.file.now answer) (sym c.not_built.ensures)
    (not_built_says now c.args.file.now c.in-Err.refusal c.in-Err.ensures.refused))
