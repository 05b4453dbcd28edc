use Rattle.std.proofs.Common.{◌+◌, get_or, length, sym, ap, subst, ◌∙◌, arith}
use Rattle.std.proofs.lemmas.List.{length_push}
use Rattle.c_tree.specs.Layout.{extent}
use Rattle.c_tree.specs.declared.typed.Member.{Member}
use Rattle.cap_layout.proofs.Steps.{item}
use Rattle.mean_run.specs.Offsets.{AreStarts}
use Rattle.mean_run.proofs.Members.{Begun, begun_more, begun_none, started}
use Rattle.mean_run.proofs.offsets.of_struct.Goals as goal

pub members-init : goal.members-init
members-init c =
    let go = extent c.args.p.now.types in
    let ms = c.args.members.now in
    record {
      count = ap length c.in_ok-offsets.ensures.items;
      begun = λ w. subst (λ row. Begun go ms row 0 0) (sym c.in_ok-offsets.ensures.items) (begun_none go ms w);
    }

pub members-preserved : goal.members-preserved
members-preserved c =
    let go = extent c.args.p.now.types in
    let ms = c.args.members.now in
    let i = c.members.m-index in
    let none : Member = record { name = record { start = 0; end = 0 }; of = 0 } in
    record {
      count = ap length c.in_ok-push.ensures.items ∙ (length_push c.members.offsets.items _
          ∙ ap (λ n. n + 1) c.members.invariant.count);
      begun = λ w. subst (λ row. Begun go ms row c.place-placed.result.1 (i + 1)) (sym c.in_ok-push.ensures.items)
          (begun_more go ms c.members.offsets.items c.members.end c.place-placed.result.0 c.place-placed.result.1 i
          (get_or ms i none) c.members-test.true (item ms i none c.members-test.true) c.members.invariant.count
          (c.members.invariant.begun w) c.place-placed.ensures);
    }

pub returns : goal.returns
returns c =
    let go = extent c.args.p.now.types in
    subst (AreStarts go c.args.members.now) (sym c.from_vec.ensures)
    (started go c.args.members.now c.members.offsets.items c.members.end c.members.m-index c.members.invariant.count
    c.members.invariant.begun (omega arith))
