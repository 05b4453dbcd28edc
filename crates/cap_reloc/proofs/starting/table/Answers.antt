use Rattle.std.proofs.Common.{◌≡◌, ℕ, List, ◌+◌, ◌^◌, ◌<◌, ◌≤◌, ◌++◌, length, map, sym, ap, ◌∙◌, subst, arith}
use Rattle.std.specs.List.{All, zip, flat_map}
use Rattle.cap_concentrate.specs.Rounding.{rounded_up}
use Rattle.c_tree.specs.declared.typed.GlobalDef.{GlobalDef}
use Rattle.c_tree.specs.declared.typed.Link.{Link}
use Rattle.obj_mem.specs.Agreement.{Paired}
use Rattle.cap_reloc.specs.declared.whole_pointers.Pointer.{Pointer}
use Rattle.cap_reloc.specs.Begins.{beginning, IsRelocation, IsInside}
use Rattle.c_tree.specs.declared.typed.Typed.{Typed}
use Rattle.typing_laws.proofs.Sound.{well_typed}
use Rattle.obj_mem.specs.declared.map.Map.{Map}
use Rattle.obj_mem.specs.Needs.{Legal}
use Rattle.cap_reloc.specs.Initial.{contents, byte_of, lowest, highest, AreInitial}
use Rattle.cap_reloc.proofs.Inside.{all_inside}
use Rattle.cap_reloc.proofs.Objects.{objects_begin}
use Rattle.cap_reloc.proofs.Pointing.{all_point}
use Rattle.cap_reloc.specs.Stored.{IsPointer}
use Rattle.std.specs.Prelude.{slice_index}
use Rattle.cap_reloc.specs.Pointers.{extent_of, entries, entry_of, link_relocs, object_pointers}
use Rattle.cap_reloc.proofs.Under.{globals_length, literals_length, objects_below, all_there, few, all_extents}
use Rattle.cap_reloc.proofs.Under.{globals_lie, literals_lie, relocations_are}
use Rattle.cap_reloc.proofs.starting.table.Goals as goal

pub stretch_of-stretch-requires-clause-objects : goal.stretch_of-stretch-requires-clause-objects
stretch_of-stretch-requires-clause-objects c =
    let e = c.deref.ensures.value ∙ c.in_ok-pointers.ensures in
    subst (λ cs. All (λ (c : Pointer). c.base + c.length ≤ 2 ^ 40) cs) (sym e)
    (objects_below c.args.p.now c.args.m.now c.requires.legal)

pub relocations-requires-clause-few : goal.relocations-requires-clause-few
relocations-requires-clause-few c = few c.args.p.now c.args.m.now c.requires.legal c.requires.length

pub relocations-requires-clause-bases : goal.relocations-requires-clause-bases
relocations-requires-clause-bases c = globals_length c.args.p.now c.args.m.now c.requires.legal

pub relocations-requires-clause-there : goal.relocations-requires-clause-there
relocations-requires-clause-there c =
    let e = c.deref-2.ensures.value ∙ c.in_ok-put_functions.ensures c.in_ok-pointers.ensures in
    subst (λ cs. All (λ (g : GlobalDef). All (λ (l : Link). entry_of c.args.p.now l.target < length cs) g.links)
    c.args.p.now.globals) (sym e)
    (all_there c.args.p.now c.args.m.now c.requires.legal (well_typed c.args.p.now c.requires.sound))

pub initial_bytes-requires-clause-global_bases : goal.initial_bytes-requires-clause-global_bases
initial_bytes-requires-clause-global_bases c = globals_length c.args.p.now c.args.m.now c.requires.legal

pub initial_bytes-requires-clause-literal_bases : goal.initial_bytes-requires-clause-literal_bases
initial_bytes-requires-clause-literal_bases c = literals_length c.args.p.now c.args.m.now c.requires.legal

pub initial_bytes-requires-clause-globals : goal.initial_bytes-requires-clause-globals
initial_bytes-requires-clause-globals c =
    let m = c.args.m.now in
    let e = c.deref.ensures.value ∙ c.in_ok-pointers.ensures in
    globals_lie c.args.p.now m c.requires.legal c.stretch_of-stretch.result.base c.stretch_of-stretch.result.length
    (c.stretch_of-stretch.ensures.from ∙ ap (λ cs. lowest m.table.0 (map extent_of cs)) e)
    (c.stretch_of-stretch.ensures.to ∙ ap (λ cs. rounded_up (highest (m.table.0 + m.table.1) (map extent_of cs)) 16) e)
    (well_typed c.args.p.now c.requires.sound)

pub initial_bytes-requires-clause-literals : goal.initial_bytes-requires-clause-literals
initial_bytes-requires-clause-literals c =
    let m = c.args.m.now in
    let e = c.deref.ensures.value ∙ c.in_ok-pointers.ensures in
    literals_lie c.args.p.now m c.requires.legal c.stretch_of-stretch.result.base c.stretch_of-stretch.result.length
    (c.stretch_of-stretch.ensures.from ∙ ap (λ cs. lowest m.table.0 (map extent_of cs)) e)
    (c.stretch_of-stretch.ensures.to ∙ ap (λ cs. rounded_up (highest (m.table.0 + m.table.1) (map extent_of cs)) 16) e)

pub returns-clause-relocs : goal.returns-clause-relocs
returns-clause-relocs c =
    let p = c.args.p.now in
    let m = c.args.m.now in
    let e = c.deref-2.ensures.value ∙ c.in_ok-put_functions.ensures c.in_ok-pointers.ensures in
    let is = c.in_ok-relocs.ensures
    ∙ ap (λ cs. entries m.table.0 cs ++ flat_map (link_relocs p cs) (zip p.globals m.globals)) e in
    subst (λ rs. Paired (IsRelocation m) (beginning p m) rs) (sym is)
    (relocations_are p m c.requires.legal (well_typed c.args.p.now c.requires.sound))

initial : (p : Typed) (m : Map) (l : Legal p m) (cs : List Pointer) (base size : ℕ) (bytes : List ℕ) →
    cs ≡ object_pointers p m → base ≡ lowest m.table.0 (map extent_of cs)
    → base + size ≡ rounded_up (highest (m.table.0 + m.table.1) (map extent_of cs)) 16 → length bytes ≡ size →
    ((k : ℕ) → k < size → slice_index bytes k ≡ byte_of 0 (contents p m) (base + k)) → AreInitial p m base bytes
initial p m l cs base size bytes e low to n each =
    let is = ap (map extent_of) e ∙ all_extents p m l in
    record {
      from = low ∙ ap (lowest m.table.0) is;
      to = ap (λ n. base + n) n ∙ to ∙ ap (λ es. rounded_up (highest (m.table.0 + m.table.1) es) 16) is;
      each = λ k h. each k (omega arith);
    }

pub returns-clause-bytes : goal.returns-clause-bytes
returns-clause-bytes c =
    let e = c.deref.ensures.value ∙ c.in_ok-pointers.ensures in
    initial c.args.p.now c.args.m.now c.requires.legal c.deref.result.now c.stretch_of-stretch.result.base
    c.stretch_of-stretch.result.length c.in_ok-bytes.bytes.items e
    c.stretch_of-stretch.ensures.from c.stretch_of-stretch.ensures.to c.in_ok-bytes.ensures.length
    c.in_ok-bytes.ensures.each

pub returns-clause-objects : goal.returns-clause-objects
returns-clause-objects c =
    let e = c.deref.ensures.value ∙ c.in_ok-pointers.ensures in
    let i = initial c.args.p.now c.args.m.now c.requires.legal c.deref.result.now c.stretch_of-stretch.result.base
    c.stretch_of-stretch.result.length c.in_ok-bytes.bytes.items e
    c.stretch_of-stretch.ensures.from c.stretch_of-stretch.ensures.to c.in_ok-bytes.ensures.length
    c.in_ok-bytes.ensures.each in
    objects_begin c.args.p.now c.args.m.now c.requires.legal
    (well_typed c.args.p.now c.requires.sound) c.stretch_of-stretch.result.base c.in_ok-bytes.bytes.items i

pub returns-clause-places : goal.returns-clause-places
returns-clause-places c =
    let p = c.args.p.now in
    let m = c.args.m.now in
    let e = c.deref-2.ensures.value ∙ c.in_ok-put_functions.ensures c.in_ok-pointers.ensures in
    let d = c.deref.ensures.value ∙ c.in_ok-pointers.ensures in
    let is = c.in_ok-relocs.ensures
    ∙ ap (λ cs. entries m.table.0 cs ++ flat_map (link_relocs p cs) (zip p.globals m.globals)) e in
    let i = initial p m c.requires.legal c.deref.result.now c.stretch_of-stretch.result.base
    c.stretch_of-stretch.result.length c.in_ok-bytes.bytes.items d
    c.stretch_of-stretch.ensures.from c.stretch_of-stretch.ensures.to c.in_ok-bytes.ensures.length
    c.in_ok-bytes.ensures.each in
    subst (λ rs. All (IsInside c.stretch_of-stretch.result.base (length c.in_ok-bytes.bytes.items)) rs) (sym is)
    (all_inside p m c.requires.legal (well_typed c.args.p.now c.requires.sound) c.requires.length
    c.stretch_of-stretch.result.base c.in_ok-bytes.bytes.items i)

pub returns-clause-pointers : goal.returns-clause-pointers
returns-clause-pointers c =
    let p = c.args.p.now in
    let m = c.args.m.now in
    let e = c.deref-2.ensures.value ∙ c.in_ok-put_functions.ensures c.in_ok-pointers.ensures in
    let is = c.in_ok-relocs.ensures
    ∙ ap (λ cs. entries m.table.0 cs ++ flat_map (link_relocs p cs) (zip p.globals m.globals)) e in
    let typed = c.requires.sound.types.types in
    subst (All (IsPointer m)) (sym is) (all_point p typed.program typed.shows
    (well_typed p c.requires.sound) m c.requires.legal)
