use Rattle.std.proofs.Common.{◌≡◌, true, false, refl, sym, ap, ◌∙◌, arith, if◌then◌else◌}
use Rattle.std.proofs.lemmas.Result.{IfOk-weaker}
use Rattle.c_tree.specs.Layout.{bare}
use Rattle.cheri_c_sem.specs.Expressions.{type_of}
use Rattle.cheri_c_sem.specs.Types.{is_record}
use Rattle.tac_lower.specs.Scenes.{frame_of}
use Rattle.tac_lower.specs.Stating.{routine}
use Rattle.tac_lower.specs.Trees.{HasRecord}
use Rattle.tac_lower.proofs.Beginning.{typed_there, init_copy, init_sized, init_part}
use Rattle.c_tree.specs.Counts.{parts}
use Rattle.tac_lower.specs.Nodes.{expression}
use Rattle.tac_lower.proofs.Spending.{nothing, and, last, last_and}
use Rattle.tac_lower.proofs.Steps.{heavy, grew, still, as_kind, room, less_room, tail_grew}
use Rattle.tac_emit.proofs.Wells.{kept, as_capability}
use Rattle.tac_lower.proofs.statements.initialise_object.Goals as goal

pub struct_copy-requires-clause-destination : goal.struct_copy-requires-clause-destination
struct_copy-requires-clause-destination c = record {
  target = c.requires.base;
  units = rw (c.record_size-bytes.ensures, c.unit.ensures) (c.facts-facts.ensures.units c.requires.scene.ready);
}

pub operand-requires-clause-room : goal.operand-requires-clause-room
operand-requires-clause-room c = less_room c.requires.room (omega arith)

pub within-requires-clause-base : goal.within-requires-clause-base
within-requires-clause-base c = still c.requires.base c.in_ok-v.ensures.lowered

pub within-requires-clause-room : goal.within-requires-clause-room
within-requires-clause-room c = room c.requires.room c.in_ok-v.ensures.lowered (omega arith)

pub store-requires-clause-at : goal.store-requires-clause-at
store-requires-clause-at c = as_capability _ _ _ c.in_ok-at.ensures.has refl

pub store-requires-clause-value : goal.store-requires-clause-value
store-requires-clause-value c = as_kind (kept _ _ _ _ c.in_ok-v.ensures.has c.in_ok-at.ensures.grown)
    (sym (c.kind.ensures c.requires.scene.ready))

pub returns : goal.returns
returns c =
    record {
      lowered = tail_grew _ _ c.store.result (grew c.in_ok-v.ensures.lowered c.in_ok-at.ensures.grown
          c.in_ok-at.ensures.adds)
          c.store.ensures.grown c.store.ensures.adds (omega arith);
      spends = last_and _ _ _ _ c.store.result (and c.in_ok-v.ensures.spends c.in_ok-at.ensures.spent)
          c.store.ensures.spent
          (omega (arith, heavy (expression c.args.cx.p.now c.args.a)))
          (omega (arith, heavy (expression c.args.cx.p.now c.args.a))) (omega arith);
      is = (let r = c.requires.scene.ready in
          let there = typed_there (frame_of c.args.cx.p.now c.args.cx.d.now) c.args.a r.ordered c.requires.typed in
          let fits = c.facts-facts.ensures.fits there.0 r there.1 in
          IfOk-weaker c.store.result _ _
          (λ q h x n at. init_part (routine c.args.cx) c.requires.ordered r.ordered x c.args.offset c.args.a at
          (λ is. absurd (let no : true ≡ false = sym is
          ∙ ap (λ z. is_record (bare c.args.cx.p.now.types (type_of z))) there.1 ∙ sym fits.is_record ∙
          c.if-facts.false
          in cc)) c.in_ok-v.ensures.is c.in_ok-at.ensures.is (c.kind.ensures r) h) c.store.ensures.emits);
    }

pub returns-then-facts-clause-spends : goal.returns-then-facts-clause-spends
returns-then-facts-clause-spends c =
    last _ _ _ _ c.struct_copy.result nothing c.struct_copy.ensures.spends (omega arith) (omega arith)
    (omega (arith, c.facts-facts.ensures.copied c.requires.scene.ready, ap parts c.record_size-bytes.ensures))

pub returns-then-facts-clause-is : goal.returns-then-facts-clause-is
returns-then-facts-clause-is c =
    let r = c.requires.scene.ready in
    let there = typed_there (frame_of c.args.cx.p.now c.args.cx.d.now) c.args.a r.ordered c.requires.typed in
    let fits = c.facts-facts.ensures.fits there.0 r there.1 in
    let is : HasRecord c.args.cx.p.now c.args.a =
    ap (λ z. is_record (bare c.args.cx.p.now.types (type_of z))) there.1 ∙ sym fits.is_record
    ∙ c.if-facts.true in
    IfOk-weaker c.struct_copy.result _ _
    (λ q h x n at. init_copy (routine c.args.cx) c.requires.ordered r.ordered x c.args.offset c.args.a at is
    (λ small. let sized = init_sized (routine c.args.cx) c.requires.ordered r.ordered c.args.a there.1 fits small in (
      c.record_size-bytes.ensures ∙ ap (λ b. if b then c.facts-facts.result.size else 0) c.if-facts.true ∙ sized.0,
      c.unit.ensures ∙ sized.1,
    )) h)
    c.struct_copy.ensures.is
