use Rattle.std.proofs.Common.{[], ◌∷◌, ◌++◌, get_or, take, map, refl, sym, ap, subst, ◌∙◌}
use Rattle.std.proofs.lemmas.List.{take_all}
use Rattle.passing_steps.proofs.blocks.variables.Goals as goal
use Rattle.passing_nodes.specs.Steps.{AreVariables}
use Rattle.passing_nodes.proofs.Counting.{map_turn, at_index}

pub variable-v-requires : goal.variable-v-requires
variable-v-requires c =
    let i = c.loop-k.k-index in
    c.requires i (get_or c.args.ks.now i 0) (at_index c.args.ks.now i c.loop-k-test.true)

pub loop-k-preserved : goal.loop-k-preserved
loop-k-preserved c =
    let l = c.loop-k in
    let ks = c.args.ks.now in
    let i = l.k-index in
    let k = get_or ks i 0 in
    let v = c.variable-v.result in
    record {
      are = λ ts e fits.
          c.in_ok-push.ensures.items ∙ ap (λ zs. zs ++ v ∷ []) (l.invariant.are ts e fits)
          ∙ ap (λ n. map e.number (take i ks) ++ n ∷ []) (sym (fits.numbers k v c.variable-v.ensures))
          ∙ sym (map_turn e.number ks i k c.loop-k-test.true refl);
    }

pub returns : goal.returns
returns c =
    subst (λ ks. AreVariables c.args.source.now ks c.loop-k.list.items)
    (take_all c.loop-k.k-index c.args.ks.now c.loop-k-test.false) c.loop-k.invariant
