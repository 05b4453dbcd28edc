use Rattle.std.proofs.Common.{arith}
use Rattle.tac_live.proofs.Numbered.{numbered}
use Rattle.typed_build.proofs.Meaning.{is_built}
use Rattle.typed_build.proofs.Used.{is_text}
use Rattle.typed_build.proofs.whole.build_whole.Goals as goal

pub code_of-requires-clause-light : goal.code_of-requires-clause-light
code_of-requires-clause-light c = c.requires.light.each

pub count_of-count-requires-clause-light : goal.count_of-count-requires-clause-light
count_of-count-requires-clause-light c = c.requires.light.all

pub places_of-requires : goal.places_of-requires
places_of-requires c k f e = record {
  numbered = numbered c.in_ok-code.code c.args.p.now k f c.in_ok-code.ensures.formed e;
  short = c.in_ok-code.ensures.short k f e;
}

pub returns-clause-built : goal.returns-clause-built
returns-clause-built c =
    let w = c.in_ok-elf.field-0 in
    let given = c.in_ok-selected.ensures in
    is_built c.images_fit.ensures c.args.p.now c.requires.sound c.in_ok-code.code c.in_ok-places.places.items
    c.in_ok-selected.selected given.selects given.contained given.program c.args.sizes c.requires.sizes w.map
    w.elf.items c.in_ok-elf.ensures.written c.count_of-count.result c.count_of-count.ensures

pub returns-clause-registers : goal.returns-clause-registers
returns-clause-registers c =
    let w = c.in_ok-elf.field-0 in
    let given = c.in_ok-selected.ensures in
    let code = c.in_ok-code.ensures in
    let places = c.in_ok-places.places in
    record {
      formed = code.formed;
      within = code.within;
      same = code.same;
      each = omega (arith, c.in_ok-places.ensures.len, places.ok);
      homes = c.in_ok-places.ensures.checked;
      text = is_text c.args.p.now c.requires.sound c.in_ok-code.code places.items c.in_ok-selected.selected
          given.selects
          given.contained given.program c.args.sizes c.requires.sizes w.map w.elf.items c.in_ok-elf.ensures.written;
    }

pub returns-clause-sized : goal.returns-clause-sized
returns-clause-sized c =
    let placing = c.in_ok-elf.ensures.written.placing in record { heap = placing.heap_is; stack = placing.stack_is }
