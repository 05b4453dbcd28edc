use Rattle.std.proofs.Common.{◌≡◌, suc, ◌+◌, ◌-◌, ◌≤◌, refl, ap, sym, ◌∙◌, ⊎_elim, ◌++◌, arith, append_assoc}
use Rattle.std.proofs.Common.{append-nil, [], ◌∷◌}
use Rattle.std.proofs.lemmas.Bool.{cases_lt}
use Rattle.c_tree.specs.Terms.{numbers_from}
use Rattle.passing_steps.proofs.blocks.add_numbers.Goals as goal
use Rattle.passing_nodes.proofs.Counting.{numbers_more}

pub loop-k-init : goal.loop-k-init
loop-k-init c =
    let z : c.args.from - c.args.from ≡ 0 = omega arith in
    record {
      items = sym (ap (λ n. c.args.list.now.items ++ numbers_from c.args.from n) z
          ∙ append-nil c.args.list.now.items);
      none = λ le. refl;
    }

pub loop-k-preserved : goal.loop-k-preserved
loop-k-preserved c =
    let a = c.args.from in
    let k = c.loop-k.k in
    let old = c.args.list.now.items in
    let le : a ≤ k = c.loop-k.auto.k in
    let lt = c.loop-k-test.true in
    let one : numbers_from a (k - a) ++ k ∷ [] ≡ numbers_from a (suc (k - a)) =
    sym (numbers_more a (k - a) k (omega arith)) in
    let next : suc (k - a) ≡ k + 1 - a = omega arith in
    record {
      items = c.in_ok-push.ensures.items ∙ ap (λ zs. zs ++ k ∷ []) c.loop-k.invariant.items
          ∙ append_assoc old (numbers_from a (k - a)) (k ∷ []) ∙ ap (λ zs. old ++ zs) (one ∙ ap (numbers_from a) next);
      none = λ back. absurd (omega arith);
    }

pub returns : goal.returns
returns c =
    let a = c.args.from in
    let b = c.args.to in
    let k = c.loop-k.k in
    let past = c.loop-k-test.false in
    let same : k - a ≡ b - a =
    ⊎_elim (λ lt. let e : k ≤ b = c.loop-k.auto.k-end (omega arith) in omega arith)
    (λ le. let e : k ≡ a = c.loop-k.invariant.none le in omega arith) (cases_lt a b) in
    c.loop-k.invariant.items ∙ ap (λ n. c.args.list.now.items ++ numbers_from a n) same
