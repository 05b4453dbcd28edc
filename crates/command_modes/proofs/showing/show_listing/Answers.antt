use Rattle.std.proofs.Common.{◌≡◌, ◌∙◌, ℕ, List, inl, inr, ap, ap₂, sym, subst, Ok, Err, Result}
use Rattle.ck_base.specs.Calls.{seen}
use Rattle.elf_file.specs.Reading.{reading}
use Rattle.elf_file.specs.declared.image.Image.{Image}
use Rattle.elf_file.specs.declared.refusal.ElfRefusal.{ElfRefusal}
use Rattle.build_text.specs.Listing.{listing_text}
use Rattle.command_modes.specs.Modes.{NotBuilt}
use Rattle.command_modes.specs.Shown.{PutSays}
use Rattle.command_modes.specs.declared.answer.Answer.{Answer}
use Rattle.command_modes.proofs.Said.{image_read, not_built_says}
use Rattle.command_modes.proofs.showing.show_listing.Goals as goal

pub returns-in-Err : goal.returns-in-Err
returns-in-Err g c = λ left faults.
    let now = seen left faults (g.O.Sink.held c.args.out.now) (g.O.Sink.faults c.args.out.now) in
    inl (subst (λ (answer : Answer). NotBuilt now now c.args.file.now answer) (sym c.not_built.ensures)
    (not_built_says now c.args.file.now c.in-Err.refusal c.in-Err.ensures.refused))

pub unreachable-requires : goal.unreachable-requires
unreachable-requires g c =
    let b = c.in-Ok.ensures.built.built.image in
    let r = image_read c.in-Ok.built.elf.items b.loaded b.loads in
    let e : ◌≡◌ {A = Result Image ElfRefusal} (Err c.in_default.field-0) (Ok b.loaded.image) =
    sym c.in_default.is ∙ c.read.ensures.exact ∙ ap reading c.deref.ensures.value ∙ r.0 in
    cc

pub returns-in-Ok-listing_of : goal.returns-in-Ok-listing_of
returns-in-Ok-listing_of g c = λ left faults.
    let before = seen left faults (g.O.Sink.held c.args.out.now) (g.O.Sink.faults c.args.out.now) in
    let after = seen left faults (g.O.Sink.held c.put.new.out) (g.O.Sink.faults c.put.new.out) in
    let b = c.in-Ok.ensures.built.built.image in
    let r = image_read c.in-Ok.built.elf.items b.loaded b.loads in
    let read : ◌≡◌ {A = Result Image ElfRefusal} (Ok c.in-Ok-read.view) (Ok b.loaded.image) =
    sym c.in-Ok-read.is ∙ c.read.ensures.exact ∙ ap reading c.deref.ensures.value ∙ r.0 in
    let same : c.in-Ok-read.view ≡ b.loaded.image = cc in
    let base = ap (λ (extent : ℕ × ℕ). extent.0) (sym b.extents.text) in
    let text = c.text.ensures ∙ ap (λ (i : Image). i.text) same in
    inr (
      record {
        elf = c.in-Ok.built.elf.items;
        map = c.in-Ok.built.map;
        count = c.in-Ok.built.count;
        built = c.in-Ok.ensures.built;
        sized = c.in-Ok.ensures.sized;
      },
      subst (λ (t : List ℕ). PutSays before after t c.put.result)
          (c.as_bytes.ensures.value ∙ c.in-Ok-listing_of.ensures ∙ ap₂ listing_text base text)
          (c.put.ensures left faults),
    )
