use Rattle.std.proofs.Common.{◌<◌, length, subst, ◌∙◌}
use Rattle.c_tree.specs.Layout.{extent, bare}
use Rattle.cap_layout.specs.declared.records.Record.TheVariants.{Struct, Union}
use Rattle.cap_layout.specs.Walks.{IsRecord}
use Rattle.cap_layout.proofs.Places.{struct_answer, union_place}
use Rattle.cap_layout.proofs.offsets.offset_of.Goals as goal

pub returns-in-Struct : goal.returns-in-Struct
returns-in-Struct c =
    let types = c.args.p.now.types in
    let t = c.args.t in
    let h = subst (λ ts. IsRecord ts (bare ts t) (extent ts t) (Struct c.in-Struct.ms)) c.as_slice-types.ensures
    c.in-Struct.ensures in
    struct_answer types t c.args.member c.in-Struct.ms.now h.depth c.in_ok-_whole._whole c.struct_offset.result
    (h.shows.offset (extent types) c.args.member) h.extent c.in_ok-_whole.ensures c.struct_offset.ensures

pub returns-in-Union : goal.returns-in-Union
returns-in-Union c =
    let types = c.args.p.now.types in
    let t = c.args.t in
    let k = c.args.member in
    let h = subst (λ ts. IsRecord ts (bare ts t) (extent ts t) (Union c.in-Union.field-0)) c.as_slice-types.ensures
    c.in-Union.ensures in
    let lt = subst (λ ms. k < length ms) h.shows.members c.requires in (
      h.shows.offset (extent types) k ∙ union_place c.in-Union.field-0.now k lt,
      (c.in_ok-_whole._whole, c.in_ok-_whole.ensures),
    )
