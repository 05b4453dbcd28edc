use Rattle.std.proofs.Common.{◌≡◌, length, subst, ap, arith}
use Rattle.tac_live.specs.Loops.{AreTops, AreStarts, AreEnds}
use Rattle.tac_live.proofs.BlockEnds.{all_blocks}
use Rattle.tac_live.proofs.loops.blocks_of.Goals as goal

pub returns : goal.returns
returns c =
    let code = c.args.code.now in
    let reach = c.in_ok-reach.reach.items in
    let tops = c.in_ok-tops.tops.items in
    let starts = c.in_ok-starts.field-0.items in
    let ends = c.in_ok-ends.field-0.items in
    let tops_ok = c.in_ok-tops.tops.ok.0 in
    let starts_ok = c.in_ok-starts.field-0.ok.0 in
    let ends_ok = c.in_ok-ends.field-0.ok.0 in
    let tops_len = c.in_ok-tops.ensures.len in
    let starts_len = c.in_ok-starts.ensures.len in
    let ends_len = c.in_ok-ends.ensures.len in
    let same : length tops ≡ length reach = omega (arith, ap length c.deref.ensures.value) in
    let same_starts : length starts ≡ length tops = omega (arith, ap length c.deref-2.ensures.value) in
    let same_ends : length ends ≡ length tops = omega (arith, ap length c.deref-3.ensures.value) in
    let are_tops : AreTops reach tops = subst (λ xs. AreTops xs tops) c.deref.ensures.value c.in_ok-tops.ensures.tops in
    let are_starts : AreStarts tops starts =
    subst (λ xs. AreStarts xs starts) c.deref-2.ensures.value c.in_ok-starts.ensures.starts in
    let are_ends : AreEnds tops ends =
    subst (λ xs. AreEnds xs ends) c.deref-3.ensures.value c.in_ok-ends.ensures.ends in
    all_blocks code reach tops c.in_ok-reach.ensures same are_tops starts ends same_starts same_ends are_starts are_ends
