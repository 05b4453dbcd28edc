use Rattle.std.proofs.Common.{ap, ◌∙◌, length, min, arith, append_assoc, ◌<◌, ◌≤◌, ◌∷◌, ◌++◌, [], take, get_or}
use Rattle.std.proofs.lemmas.List.{get_or_default}
use Rattle.c_type_levels.specs.Levels.{pairs_of}
use Rattle.c_interner.proofs.Pairing.{pairs-more, pairs_whole}
use Rattle.c_interner.proofs.levels.add_pairs.Goals as goal

pub loop-k-preserved : goal.loop-k-preserved
loop-k-preserved c =
    let k = c.loop-k.k in
    let p : k < length c.args.ps.now = omega arith in
    let q : k < length c.args.qs.now = omega arith in
    let more = pairs-more c.args.ps.now c.args.qs.now k _ _ p q (get_or_default c.args.ps.now k 0 _ p)
    (get_or_default c.args.qs.now k 0 _ q) in
    c.in_ok-push.ensures.items
    ∙ rw (
      c.loop-k.invariant,
      more,
    ) (append_assoc c.args.pairs.now.items (pairs_of (take k c.args.ps.now) (take k c.args.qs.now))
    ((get_or c.args.ps.now k 0, get_or c.args.qs.now k 0) ∷ []))

pub returns : goal.returns
returns c =
    let shorter : min (length c.args.ps.now) (length c.args.qs.now) ≤ c.loop-k.k = omega arith in
    c.loop-k.invariant ∙ ap (λ r. c.args.pairs.now.items ++ r)
    (pairs_whole c.args.ps.now c.args.qs.now c.loop-k.k shorter)
