use Rattle.std.proofs.Common.{◌≡◌, ◌∙◌, ap, max, length, get_or, arith}
use Rattle.std.specs.Prelude.{replicate}
use Rattle.std.proofs.lemmas.Grind.{common_steps}
use Rattle.c_plain_parts.specs.Placing.{greatest_end, written_at}
use Rattle.c_plain_parts.proofs.ByteLaws.{bytes_of_all, front-all, zeros}
use Rattle.c_plain_rules.proofs.bytes.initial_bytes.Goals as goal

pub returns : goal.returns
returns c = λ ls p.
    let n : length c.put_all.new.bytes ≡ max (greatest_end c.args.numbers.now) c.args.end =
    grind (arith, common_steps) in
    let l : c.in_ok-bytes.bytes.len ≡ length c.put_all.new.bytes = grind (arith, common_steps) in
    let m : length c.put_all.new.bytes ≡ length c.deref_mut.result.now = c.put_all.ensures.length in
    let e : c.deref_mut.result.now ≡ replicate c.max.result 0 =
    c.deref_mut.ensures.value ∙ c.in_ok-bytes.ensures in
    front-all c.in_ok-bytes.bytes.len c.put_all.new.bytes _ l ∙
    bytes_of_all c.put_all.new.bytes c.args.numbers.now ls c.args.end p n
    (λ k h. c.put_all.ensures.each k (omega (arith, m, h))
    ∙ ap (λ b. written_at k b c.args.numbers.now) (ap (λ xs. get_or xs k 0) e ∙ zeros c.max.result k 0))
