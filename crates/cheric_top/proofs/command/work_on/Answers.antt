use Rattle.std.proofs.Common.{ℕ, List, refl, sym, subst}
use Rattle.std.specs.Prelude.{string_bytes}
use Rattle.ck_base.specs.Calls.{seen}
use Rattle.command_line.specs.Asked.{mode_of}
use Rattle.command_line.specs.Lines as lines
use Rattle.command_line.specs.declared.line.Mode.{Mode}
use Rattle.command_modes.specs.Modes.{files_seen, BuildSays}
use Rattle.cheric_top.specs.Command.{around, ModeSays}
use Rattle.cheric_top.proofs.command.work_on.Goals as goal

pub returns-in-Run : goal.returns-in-Run
returns-in-Run g c =
    let files = files_seen (g.F.Files.told c.args.files.now) (g.F.Files.faults c.args.files.now) in
    let after = seen (g.I.Source.left c.run_file.new.input) (g.I.Source.faults c.run_file.new.input)
    (g.O.Sink.held c.run_file.new.out) (g.O.Sink.faults c.run_file.new.out) in
    let a = around files files (seen (g.I.Source.left c.args.input.now) (g.I.Source.faults c.args.input.now)
    (g.O.Sink.held c.args.out.now) (g.O.Sink.faults c.args.out.now)) after in
    subst (λ (m : Mode). ModeSays a c.args.file.now (mode_of c.args.name.now m) c.run_file.result) (sym c.in-Run.is)
    (refl, c.run_file.ensures)

pub returns-in-Ok : goal.returns-in-Ok
returns-in-Ok g c =
    let files = files_seen (g.F.Files.told c.args.files.now) (g.F.Files.faults c.args.files.now) in
    let built = files_seen (g.F.Files.told c.build_file.new.files) (g.F.Files.faults c.build_file.new.files) in
    let now = seen (g.I.Source.left c.args.input.now) (g.I.Source.faults c.args.input.now)
    (g.O.Sink.held c.args.out.now) (g.O.Sink.faults c.args.out.now) in
    let a = around files built now now in
    let file = c.args.file.now in
    let answer = c.build_file.result in
    let named = subst (λ (l : List ℕ). BuildSays files built file l c.in-Build.sizes answer) c.deref.ensures
    c.build_file.ensures in
    let by_name = subst (λ (m : lines.Mode). ModeSays a file m answer) (sym (c.in-Ok.ensures c.in-Build.sizes))
    (refl, named) in
    subst (λ (m : Mode). ModeSays a file (mode_of c.args.name.now m) answer) (sym c.in-Build.is) by_name

pub returns-in-ShowMap : goal.returns-in-ShowMap
returns-in-ShowMap g c =
    let files = files_seen (g.F.Files.told c.args.files.now) (g.F.Files.faults c.args.files.now) in
    let after = seen (g.I.Source.left c.args.input.now) (g.I.Source.faults c.args.input.now)
    (g.O.Sink.held c.show_map.new.out) (g.O.Sink.faults c.show_map.new.out) in
    let a = around files files (seen (g.I.Source.left c.args.input.now) (g.I.Source.faults c.args.input.now)
    (g.O.Sink.held c.args.out.now) (g.O.Sink.faults c.args.out.now)) after in
    subst (λ (m : Mode). ModeSays a c.args.file.now (mode_of c.args.name.now m) c.show_map.result) (sym c.in-ShowMap.is)
    (refl, c.show_map.ensures (g.I.Source.left c.args.input.now) (g.I.Source.faults c.args.input.now))

pub returns-in-ShowListing : goal.returns-in-ShowListing
returns-in-ShowListing g c =
    let files = files_seen (g.F.Files.told c.args.files.now) (g.F.Files.faults c.args.files.now) in
    let after = seen (g.I.Source.left c.args.input.now) (g.I.Source.faults c.args.input.now)
    (g.O.Sink.held c.show_listing.new.out) (g.O.Sink.faults c.show_listing.new.out) in
    let a = around files files (seen (g.I.Source.left c.args.input.now) (g.I.Source.faults c.args.input.now)
    (g.O.Sink.held c.args.out.now) (g.O.Sink.faults c.args.out.now)) after in
    subst (λ (m : Mode). ModeSays a c.args.file.now (mode_of c.args.name.now m) c.show_listing.result)
    (sym c.in-ShowListing.is) (
      refl,
      c.show_listing.ensures (g.I.Source.left c.args.input.now) (g.I.Source.faults c.args.input.now),
    )
