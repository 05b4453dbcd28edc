use Rattle.std.proofs.Common.{◌+◌, ◌*◌, ◌<◌, ap, ◌∙◌, ◌++◌, [], ◌∷◌, arith, refl, rules}
use Rattle.rv_instr.specs.declared.instr.Instr.{Instr}
use Rattle.rv_instr.specs.declared.instr.Instr.TheVariants.{Store}
use Rattle.rv_instr.specs.declared.ops.StoreOp.TheVariants.{Csc}
use Rattle.rv_memory.proofs.Zeroes.{store_next, small_again}
use Rattle.rv_memory.proofs.memory.zero_each.Goals as goal

pub loop-k-preserved : goal.loop-k-preserved
loop-k-preserved c =
    let a = c.args in
    let l = c.loop-k in
    let lt : l.k < a.parts = search rules in
    let few = c.requires.few in
    let near = c.requires.near in
    let g = l.invariant.grown in
    let n = c.in_ok-put.ensures.size in
    let small : a.at + 16 * l.k < 2048 = omega (arith, few, near, lt) in
    let z = c.store.ensures.is ∙ ap (Store Csc 0 2) (small_again (a.at + 16 * l.k) _ refl small) in
    record {
      grown = (omega (arith, g, n), omega (arith, g, n), n.1 ∙ g.2);
      text = store_next a.at l.k a.code.now.text l.code.text c.put.new.self.text l.invariant.text
          (c.in_ok-put.ensures.text ∙ ap (λ (i : Instr). l.code.text ++ i ∷ []) z);
    }
