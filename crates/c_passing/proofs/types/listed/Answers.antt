use Rattle.std.proofs.Common.{◌≡◌, ◌<◌, ◌∷◌, [], ◌++◌, length, get_or, take, ap, sym, subst, ◌∙◌, arith}
use Rattle.std.proofs.Common.{length-append}
use Rattle.std.proofs.lemmas.List.{take_more, length-take-le}
use Rattle.c_passing.specs.Numbered.{AreListed}
use Rattle.c_passing.proofs.Numbering.{listed_push}
use Rattle.c_passing.proofs.types.listed.Goals as goal

pub loop-c-preserved : goal.loop-c-preserved
loop-c-preserved c =
    let list = c.args.types.now.list.items in
    let i = c.loop-c.c-index in
    let item = c.c-item.result in
    let inv = c.loop-c.invariant in
    let lt : i < length list = subst (λ zs. i < length zs) c.as_slice-c-items.ensures.value c.loop-c-test.true in
    let read : item ≡ get_or list i item = c.c-item.is ∙ ap (λ zs. get_or zs i item) c.as_slice-c-items.ensures.value in
    let count : length c.loop-c.whole.items ≡ i = inv.count in
    let l : length (take i list) ≡ i = length-take-le i list (omega arith) in
    record {
      count = ap length c.in_ok-push.ensures.items
          ∙ omega (arith, length-append c.loop-c.whole.items (c.in_ok-c.c ∷ []));
      are = subst (λ zs. AreListed c.args.types.now.numbers.items zs c.push.new.self.items)
          (sym (take_more list i item lt ∙ ap (λ x. take i list ++ x ∷ []) (sym read)))
          (listed_push c.args.types.now.numbers.items
          (take i list) c.loop-c.whole.items c.push.new.self.items item c.in_ok-c.c (l ∙ sym count) inv.are
          (rw (← c.as_slice.ensures.value) c.in_ok-c.ensures) c.in_ok-push.ensures.items);
    }
