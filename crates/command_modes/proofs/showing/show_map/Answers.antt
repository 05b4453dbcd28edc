use Rattle.std.proofs.Common.{ℕ, List, inl, inr, subst, sym, ◌∙◌}
use Rattle.ck_base.specs.Calls.{seen}
use Rattle.command_modes.specs.Modes.{NotBuilt}
use Rattle.command_modes.specs.Shown.{PutSays}
use Rattle.command_modes.specs.declared.answer.Answer.{Answer}
use Rattle.command_modes.proofs.Said.{not_built_says}
use Rattle.command_modes.proofs.showing.show_map.Goals as goal

pub returns-in-Err : goal.returns-in-Err
returns-in-Err g c = λ left faults.
    let now = seen left faults (g.O.Sink.held c.args.out.now) (g.O.Sink.faults c.args.out.now) in
    inl (subst (λ (answer : Answer). NotBuilt now now c.args.file.now answer) (sym c.not_built.ensures)
    (not_built_says now c.args.file.now c.in-Err.refusal c.in-Err.ensures.refused))

pub returns-in-Ok-map_of : goal.returns-in-Ok-map_of
returns-in-Ok-map_of g c = λ left faults.
    let before = seen left faults (g.O.Sink.held c.args.out.now) (g.O.Sink.faults c.args.out.now) in
    let after = seen left faults (g.O.Sink.held c.put.new.out) (g.O.Sink.faults c.put.new.out) in
    let built = c.in-Ok.made.1 in
    inr (
      c.in-Ok.made.0,
      record {
        elf = built.elf.items;
        map = built.map;
        count = built.count;
        built = c.in-Ok.ensures.built;
        sized = c.in-Ok.ensures.sized;
      },
      c.in-Ok.ensures.program,
      subst (λ (text : List ℕ). PutSays before after text c.put.result) (c.deref.ensures.value ∙ c.in-Ok-map_of.ensures)
          (c.put.ensures left faults),
    )
