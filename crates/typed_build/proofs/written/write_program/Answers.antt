use Rattle.std.proofs.Common.{◌≡◌, ◌%◌, length, Ok, sym, ap, ◌∙◌, subst, arith}
use Rattle.bounds_place.specs.Placing.{AreOffsets, IsPlacing}
use Rattle.typing_laws.proofs.Sound.{well_typed}
use Rattle.cap_concentrate.specs.Rounding.{owned}
use Rattle.elf_file.specs.File.{file_of}
use Rattle.elf_file.specs.Image.{KeepsRules}
use Rattle.elf_file.specs.Reading.{reading}
use Rattle.elf_file.specs.declared.image.Image.{Image}
use Rattle.typed_build.specs.Image.{image_of}
use Rattle.typed_build.specs.Text.{text_of}
use Rattle.typed_build.specs.Written.{Begins, image_with}
use Rattle.typed_build.proofs.Writes.{long, offsets, is_sized, legal, table_long, entry_below, keeps_rules, fine}
use Rattle.typed_build.proofs.written.write_program.Goals as goal

pub place-requires : goal.place-requires
place-requires c =
    let p = c.args.p.now in
    let s = c.args.selected in
    let given = c.requires.selects in
    let text = c.in_ok-text.text in
    let count : c.len.result ≡ length text.items = omega (arith, c.len.ensures, text.ok) in
    let is = long p s given c.len.result text.items c.deref.result.now count c.in_ok-text.ensures c.deref.ensures.value
    in
    let sized = is_sized p s given in
    record {
      entries = given.each;
      offsets = subst (AreOffsets s.entries.items) (sym is) (offsets p s given);
      whole = ap (λ n. n % 16) is ∙ sized.whole;
      owned = subst (λ n. owned n ≡ n) (sym is) sized.owned;
      most = omega (arith, is, sized.most);
      sizes = c.requires.sizes;
    }

pub table-requires : goal.table-requires
table-requires c =
    let p = c.args.p.now in
    let s = c.args.selected in
    let m = c.in_ok-map.map in
    let given = c.requires.selects in
    let text = c.in_ok-text.text in
    let count : c.len.result ≡ length text.items = omega (arith, c.len.ensures, text.ok) in
    let is = long p s given c.len.result text.items c.deref.result.now count c.in_ok-text.ensures c.deref.ensures.value
    in
    let placing = subst (λ n. IsPlacing p s.frames.items s.entries.items n c.args.sizes m) is c.in_ok-map.ensures.placed
    in
    record {
      sound = c.requires.sound;
      legal = legal p s given c.args.sizes c.requires.sizes m placing;
      length = table_long p s given c.args.sizes c.requires.sizes m placing;
    }

pub image_of-image-requires : goal.image_of-image-requires
image_of-image-requires c =
    let p = c.args.p.now in
    let s = c.args.selected in
    let m = c.in_ok-map.map in
    let given = c.requires.selects in
    let text = c.in_ok-text.text in
    let count : c.len.result ≡ length text.items = omega (arith, c.len.ensures, text.ok) in
    let is = long p s given c.len.result text.items c.deref.result.now count c.in_ok-text.ensures c.deref.ensures.value
    in
    let placing = subst (λ n. IsPlacing p s.frames.items s.entries.items n c.args.sizes m) is c.in_ok-map.ensures.placed
    in
    entry_below p s given c.args.sizes c.requires.sizes m placing

pub returns-clause-written : goal.returns-clause-written
returns-clause-written c =
    let p = c.args.p.now in
    let s = c.args.selected in
    let m = c.in_ok-map.map in
    let given = c.requires.selects in
    let text = c.in_ok-text.text in
    let count : c.len.result ≡ length text.items = omega (arith, c.len.ensures, text.ok) in
    let is = long p s given c.len.result text.items c.deref.result.now count c.in_ok-text.ensures c.deref.ensures.value
    in
    let placing = subst (λ n. IsPlacing p s.frames.items s.entries.items n c.args.sizes m) is c.in_ok-map.ensures.placed
    in
    let t = c.in_ok-contents.contents in
    let base = t.base in
    let bytes = t.bytes.items in
    let relocs = t.relocs.items in
    let given_data = c.in_ok-contents.ensures in
    let begins : Begins p m base bytes relocs = record {
      relocates = given_data.relocs;
      inside = given_data.places;
      pointers = given_data.pointers;
      initial = given_data.bytes;
      objects = given_data.objects;
      small = c.image_of-image.ensures.small;
    } in
    let image : c.image_of-image.result ≡ image_with p s m base bytes relocs =
    c.image_of-image.ensures.value
    ∙ ap (λ x. image_of m s.start x base bytes relocs s.lines.items c.args.count)
    (c.in_ok-text.ensures ∙ ap text_of c.deref.ensures.value)
    ∙ ap (λ n. image_of m s.start (text_of s.code.items) base bytes relocs s.lines.items n) c.requires.count in
    let elf = c.in_ok-elf.elf.items in
    let rules = keeps_rules p s given c.args.sizes c.requires.sizes m placing base bytes relocs begins in
    let ordered = (well_typed p c.requires.sound).ordered in
    record {
      placing = placing;
      base = base;
      bytes = bytes;
      relocs = relocs;
      begins = begins;
      whole = c.in_ok-elf.ensures.bytes ∙ ap file_of image;
      read = subst (λ (i : Image). KeepsRules i → reading elf ≡ Ok i) image c.in_ok-elf.ensures.read_back rules;
      fine = fine p s given c.args.sizes c.requires.sizes m placing base bytes relocs begins ordered
          c.in_ok-map.ensures.within;
    }
