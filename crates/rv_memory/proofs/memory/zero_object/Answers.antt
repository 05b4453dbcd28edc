use Rattle.std.proofs.Common.{◌≡◌, ◌+◌, ◌/◌, subst, arith, rules}
use Rattle.purecap_abi.proofs.Ranges.{on_ok}
use Rattle.select_words.specs.Zeroing.{Zeroes}
use Rattle.rv_emit.specs.Growing.{Puts}
use Rattle.rv_memory.proofs.memory.zero_object.Goals as goal

pub returns-then-at-gt1984-clause-words : goal.returns-then-at-gt1984-clause-words
returns-then-at-gt1984-clause-words c =
    let a = c.args in
    let many = c.if-parts-eq0.false in
    let parts : a.length / 16 + c.from.result ≡ (a.length + 15) / 16 = search rules in
    on_ok c.zero_loop.result _ _ c.zero_loop.ensures.words
    (λ p near few. subst (λ n. Puts (Zeroes a.at n) a.code.now c.zero_loop.new.code) parts
    (p near (omega (arith, many)) (omega (arith, parts, few))))
