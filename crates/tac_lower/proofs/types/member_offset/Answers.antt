use Rattle.std.proofs.Common.{◌≡◌, ◌+◌, ◌<◌, get_or, sym, ap, ◌∙◌, arith, max}
use Rattle.cap_concentrate.specs.Rounding.{rounded_up}
use Rattle.c_tree.specs.declared.typed.Member.{Member}
use Rattle.c_tree.specs.Layout.{Extent, extent, member_offset}
use Rattle.cheri_c_sem.specs.Types.{offset_or_zero}
use Rattle.std.proofs.lemmas.Option.{slice_get-get_or}
use Rattle.cap_layout.proofs.Steps.{item}
use Rattle.cap_layout.proofs.Places.{offset_here}
use Rattle.tac_lower.proofs.Tabled.{end_at, offset_missing, offset_past, offset_on, missing_by, laid_by}
use Rattle.tac_lower.proofs.types.member_offset.Goals as goal

abbrev no_member : Member
no_member = record { name = record { start = 0; end = 0 }; of = 0 }

pub returns-then-not-f : goal.returns-then-not-f
returns-then-not-f c = λ small.
    let ms = c.struct_members-members.result.now in
    let i = c.loop-m.m-index in
    let f = c.facts_at-f.ensures _ c.requires in
    sym (c.struct_members-members.ensures.offset c.args.member ∙ ap offset_or_zero (c.loop-m.invariant.offset
    ∙ offset_missing (extent c.args.p.now.types) ms i c.loop-m.left c.loop-m.end (get_or ms i no_member)
    c.loop-m-test.true (item ms i no_member c.loop-m-test.true)
    (missing_by _ f c.if-not-f.true (small i (get_or ms i no_member)
    (c.struct_members-members.ensures.among i _ (slice_get-get_or ms i no_member c.loop-m-test.true))))))

pub returns-then-left-eq0 : goal.returns-then-left-eq0
returns-then-left-eq0 c = λ small.
    let ms = c.struct_members-members.result.now in
    let i = c.loop-m.m-index in
    let f = c.facts_at-f.result in
    let x : Extent = record { size = f.size; align = f.align } in
    let h = laid_by f (c.facts_at-f.ensures _ c.requires) c.if-not-f.false in
    let start : c.aligned-start.result ≡ member_offset x (end_at c.loop-m.end) = c.aligned-start.ensures.is
    ∙ ap (rounded_up c.loop-m.end) (c.max.ensures ∙ ap (max f.align) c.owned-own.ensures.align) in
    start
    ∙ sym (c.struct_members-members.ensures.offset c.args.member ∙ ap offset_or_zero (c.loop-m.invariant.offset
    ∙ offset_here (extent c.args.p.now.types) ms i c.loop-m.left (get_or ms i no_member) (end_at c.loop-m.end) x
    c.loop-m-test.true (item ms i no_member c.loop-m-test.true) h.is c.if-left-eq0.true))

pub loop-m-preserved : goal.loop-m-preserved
loop-m-preserved c =
    let ms = c.struct_members-members.result.now in
    let i = c.loop-m.m-index in
    let f = c.facts_at-f.result in
    let x : Extent = record { size = f.size; align = f.align } in
    let h = laid_by f (c.facts_at-f.ensures _ c.requires) c.if-not-f.false in
    let start : c.aligned-start.result ≡ member_offset x (end_at c.loop-m.end) = c.aligned-start.ensures.is
    ∙ ap (rounded_up c.loop-m.end) (c.max.ensures ∙ ap (max f.align) c.owned-own.ensures.align) in
    let left : 0 < c.loop-m.left = omega (arith, c.if-left-eq0.false) in
    let own = c.owned-own.ensures in
    record {
      count = omega (arith, c.loop-m.invariant.count);
      end = omega (
        arith,
        c.loop-m.invariant.end,
        c.aligned-start.ensures.below,
        c.max.ensures,
        h.align,
        h.size,
        own.greatest,
        own.padding,
      );
      offset = c.loop-m.invariant.offset
          ∙ offset_on (extent c.args.p.now.types) ms i c.loop-m.left c.loop-m.end _ (get_or ms i no_member) x
          c.loop-m-test.true (item ms i no_member c.loop-m-test.true) h.is left
          (ap (λ n. n + c.owned-own.result.length) start
          ∙ ap (λ n. member_offset x (end_at c.loop-m.end) + n) own.length);
    }

pub returns : goal.returns
returns c = λ small.
    sym (c.struct_members-members.ensures.offset c.args.member ∙ ap offset_or_zero (c.loop-m.invariant.offset
    ∙ offset_past (extent c.args.p.now.types) c.struct_members-members.result.now c.loop-m.m-index c.loop-m.left
    c.loop-m.end c.loop-m-test.false))
