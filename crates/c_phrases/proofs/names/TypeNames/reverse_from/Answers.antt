use Rattle.std.proofs.Common.{ap, ◌∙◌, reverse, map, length, arith}
use Rattle.std.proofs.lemmas.List.{with_items_is}
use Rattle.c_phrases.specs.Got
use Rattle.c_phrases.proofs.Force.{reversed_turn, turned_part, turned_length}
use Rattle.c_phrases.proofs.Counting.{counted_along, counted_turn}
use Rattle.c_phrases.proofs.names.TypeNames.reverse_from.Goals as goal

pub invariant_of-self : goal.invariant_of-self
invariant_of-self c =
    let xs = c.self.inside.names.items in
    let same = turned_part xs c.as_mut_slice-names.result.now c.reverse.new.self c.args.count
    c.as_mut_slice-names.ensures.value c.reverse.ensures.after in
    let whole = turned_length xs c.args.count in
    let long = ap length same in
    let held = c.self.inside.names.ok.0 in
    record {
      counted = counted_along _ _ c.self.inside.counts (with_items_is c.self.inside.names _ (omega arith) ∙ same)
          (counted_turn xs c.args.count c.self.inside.counts c.self.invariant.counted);
      lengths = c.self.invariant.lengths;
    }

pub returns : goal.returns
unfolding Got.in_force
returns c = λ ys zs e l.
    let xs = c.self.inside.names.items in
    let same = turned_part xs c.as_mut_slice-names.result.now c.reverse.new.self c.args.count
    c.as_mut_slice-names.ensures.value c.reverse.ensures.after in
    let whole = turned_length xs c.args.count in
    let long = ap length same in
    let held = c.self.inside.names.ok.0 in
    ap (λ v. reverse (map (λ name. name.now) v)) (with_items_is c.self.inside.names _ (omega arith) ∙ same)
    ∙ reversed_turn (λ name. name.now) xs c.args.count ys zs (c.self.view_is ∙ e) l
