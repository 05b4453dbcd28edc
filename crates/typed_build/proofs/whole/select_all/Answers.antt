use Rattle.std.proofs.Common.{◌≡◌, ◌+◌, ◌*◌, ◌≤◌, length, subst, arith}
use Rattle.typing_laws.proofs.Sound.{well_typed}
use Rattle.c_tree.specs.Weight.{weight}
use Rattle.rv_emit.specs.Growing.{AreEntries}
use Rattle.typed_build.proofs.Coding.{coded_of, some_word}
use Rattle.lower_forms.proofs.Running.{code_has_form}
use Rattle.typed_build.proofs.Framing.{are_frames, framed}
use Rattle.typed_build.proofs.Selecting.{are_kept, are_selectable, heap_small, reaches_first}
use Rattle.typed_build.proofs.Weighing.{same_count, one_within, few_functions, total}
use Rattle.typed_build.proofs.whole.select_all.Goals as goal

pub frames_of-requires-clause-funs : goal.frames_of-requires-clause-funs
frames_of-requires-clause-funs c = same_count c.args.code.now c.args.p.now c.requires.code.formed

pub frames_of-requires-clause-few : goal.frames_of-requires-clause-few
frames_of-requires-clause-few c =
    omega (arith, few_functions c.args.p.now (well_typed c.args.p.now c.requires.sound).ordered c.requires.light.all)

pub frames_of-requires-clause-costs : goal.frames_of-requires-clause-costs
frames_of-requires-clause-costs c =
    let code = c.requires.code in
    one_within c.args.p.now (well_typed c.args.p.now c.requires.sound).ordered c.requires.light.each c.args.code.now
    code.within.costs code.formed

pub frames_of-requires-clause-places : goal.frames_of-requires-clause-places
frames_of-requires-clause-places c =
    omega (arith, c.requires.places, same_count c.args.code.now c.args.p.now c.requires.code.formed)

pub select-requires-clause-frames : goal.select-requires-clause-frames
select-requires-clause-frames c =
    omega (arith, c.in_ok-frames.ensures.len, same_count c.args.code.now c.args.p.now c.requires.code.formed)

pub select-requires-clause-costs : goal.select-requires-clause-costs
select-requires-clause-costs c =
    let p = c.args.p.now in
    let code = c.requires.code in
    let ordered = (well_typed p c.requires.sound).ordered in
    omega (
      arith,
      c.requires.light.all,
      total p ordered c.requires.light.each c.args.code.now code.within.costs code.formed,
    )

pub select-requires-clause-framed : goal.select-requires-clause-framed
select-requires-clause-framed c =
    let p = c.args.p.now in
    let t = c.args.code.now in
    let places = c.args.places.now in
    let count = same_count t p c.requires.code.formed in
    let each : length places.items ≡ length p.funs = omega (arith, c.requires.places, places.ok, count) in
    framed p t.funs places.items c.in_ok-frames.frames.items count each c.in_ok-frames.ensures.fit

pub returns-clause-selects : goal.returns-clause-selects
returns-clause-selects c =
    let p = c.args.p.now in
    let given_code = c.requires.code in
    let typed = well_typed p c.requires.sound in
    let items = c.in_ok-code.field-0 in
    let code = items.code in
    let entries = items.entries in
    let given = c.in_ok-code.ensures in
    let places = c.args.places.now in
    let frames = c.in_ok-frames.frames in
    let count = same_count c.args.code.now p given_code.formed in
    let each : length entries.items ≡ length p.funs = omega (arith, given.each, entries.ok, count) in
    let words : code.len ≡ length code.items = omega (arith, code.ok) in
    let there = subst (λ n. AreEntries n entries.items) words given.entries in
    let some = some_word p typed (length code.items) entries.items each there in
    let cost = total p typed.ordered c.requires.light.each c.args.code.now given_code.within.costs given_code.formed in
    let size : 4 * length code.items ≤ 128 * weight p + 4096 = omega (arith, words, given.size, cost) in
    record {
      coded =
          coded_of p code.items items.start items.lines.items c.requires.light.all size given.text given.start
          some;
      frames =
          are_frames p c.args.code.now.funs places.items frames.items count
          (omega (arith, c.requires.places, places.ok, count)) c.in_ok-frames.ensures.fit
          (omega (arith, c.in_ok-frames.ensures.len, frames.ok, count));
      each = each;
      entries = there;
    }

pub returns-clause-program : goal.returns-clause-program
returns-clause-program c =
    let p = c.args.p.now in
    let t = c.args.code.now in
    let code = c.requires.code in
    let places = c.args.places.now in
    let frames = c.in_ok-frames.frames.items in
    let sound = c.requires.sound in
    let light = c.requires.light in
    let within = c.requires.within in
    let given = c.in_ok-code.ensures in
    let fit = c.in_ok-frames.ensures.fit in
    let count = same_count t p code.formed in
    let form = code_has_form p sound light.each t code.is code.formed code.within in
    let keeps = are_kept p t places.items form count code.within c.requires.homes in
    record {
      each = omega (arith, c.requires.places, places.ok);
      start = given.start;
      is_code = code;
      keeps = keeps;
      frames = fit;
      selected = given.selected (heap_small p sound within light) (reaches_first p sound within light)
          (are_selectable p sound within light t places.items frames form code.within.costs count keeps fit);
    }
