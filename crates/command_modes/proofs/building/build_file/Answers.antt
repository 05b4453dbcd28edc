use Rattle.std.proofs.Common.{ℕ, List, subst, sym, arith, rules}
use Rattle.ck_base.specs.Files.{HasFile}
use Rattle.command_modes.specs.Modes.{BuildSays, Compiled, files_seen}
use Rattle.command_modes.specs.declared.answer.Answer.{Answer}
use Rattle.command_modes.proofs.Said.{not_put}
use Rattle.command_modes.proofs.building.build_file.Goals as goal

pub returns-in-Ok-put : goal.returns-in-Ok-put
returns-in-Ok-put g c =
    let put = c.in-Ok-put.ensures in (
      record {
        elf = c.in-Ok.built.elf.items;
        map = c.in-Ok.built.map;
        count = c.in-Ok.built.count;
        built = c.in-Ok.ensures.built;
        sized = c.in-Ok.ensures.sized;
      },
      record {
        under = subst (λ (l : List ℕ). HasFile (g.F.Files.told c.put.new.self) c.args.elf.now l)
            c.deref.ensures.value put.done;
        others = put.others;
        counted = put.counted.same (λ h. cc);
      },
      omega (arith, c.len.ensures, c.in-Ok.built.elf.ok),
    )

pub returns-in-Err : goal.returns-in-Err
returns-in-Err g c =
    let now = files_seen (g.F.Files.told c.args.files.now) (g.F.Files.faults c.args.files.now) in
    subst (λ (answer : Answer). BuildSays now now c.args.file.now c.args.elf.now c.args.sizes answer)
    (sym c.not_built.ensures) (not_put now c.args.file.now c.args.elf.now c.args.sizes c.in-Err.refusal
    c.in-Err.ensures.refused)

pub returns : goal.returns
returns g c =
    let made : Compiled c.args.file.now c.args.sizes =
    record {
      elf = c.in-Ok.built.elf.items;
      map = c.in-Ok.built.map;
      count = c.in-Ok.built.count;
      built = c.in-Ok.ensures.built;
      sized = c.in-Ok.ensures.sized;
    } in
    search rules
