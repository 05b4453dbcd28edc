use Rattle.std.proofs.Common.{◌≡◌, true, false, not, ◌+◌, [], ◌∷◌, ◌++◌, ap, sym, ◌∙◌, subst, arith}
use Rattle.std.proofs.lemmas.List.Sorted.{IsPermutation-sym, IsPermutation-to_front, IsPermutation-map}
use Rattle.std.specs.Option.{is_some}
use Rattle.std.proofs.Common.{rules}
use Rattle.std.proofs.lemmas.List.{take_more, take_all}
use Rattle.std.proofs.lemmas.List.Sorted.{IsNonDecreasingBy-from_sort_by_key, answers_always}
use Rattle.tac_lower.specs.Cases.{Compared, labels_as}
use Rattle.tac_lower.proofs.Cases.{labels_both, compared_more, shows_cases}
use Rattle.tac_lower.specs.declared.switches.Case.{Case}
use Rattle.tac_emit.specs.Emitted.{IsOpen}
use Rattle.tac_lower.specs.Scenes.{Opened}
use Rattle.tac_lower.specs.Statements.{labels_of}
use Rattle.tac_lower.proofs.Scening.{opened_none, opened_then, grown_lowered}
use Rattle.tac_emit.proofs.Spending.{spent_then, spent_within, labelled_spent}
use Rattle.tac_lower.proofs.Switching.{opened_permuted, opened_at_most, opened_grown, opened_label, open_beside}
use Rattle.tac_lower.proofs.Switching.{open_here, open_grown, labels_pushed, switched_kept}
use Rattle.tac_emit.proofs.Wells.{keeps_same, keeps_then}
use Rattle.tac_lower.proofs.switches.compared_cases.Goals as goal
use Rattle.tac_lower.proofs.switches.compared_cases.Goals.{then-is_none, else-is_none}

pub loop-l-init : goal.loop-l-init
loop-l-init c =
    let p = c.args.cx.p.now in
    let d = c.args.cx.d.now in
    let types = c.args.cx.types.now in
    let homes = c.args.cx.homes.now in
    let a = c.args.out.now in
    let b = c.comparison_temps.new.out in
    let made = c.in_ok-switched.ensures in
    let grew = grown_lowered p d types homes a b 2 0 2 c.requires.scene made.grown made.adds (omega arith)
    (omega arith) in
    let begun : Opened p d types homes a b [] 2 =
    opened_then p d types homes a a b [] 0 2 (opened_none p d types homes a c.requires.scene) grew in
    record {
      opened = subst (λ z. Opened p d types homes a b (labels_of z) 2) (sym c.new-cases.ensures.items) begun;
      spent = spent_within made.spent (omega arith) (omega arith);
      switched = made.switched;
      otherwise = open_grown c.requires.end made.grown;
      is = subst (λ z. Compared [] c.args.kind c.args.temp c.args.end c.in_ok-switched.switched c.args.end z a b)
          (sym c.new-cases.ensures.items) (made.is c.args.end);
    }

pub compare_label-requires-clause-open : goal.compare_label-requires-clause-open
compare_label-requires-clause-open c = open_here c.loop-l.invariant.opened.scene c.label-label.ensures.labelled

pub loop-l-preserved : goal.loop-l-preserved
loop-l-preserved c =
    let p = c.args.cx.p.now in
    let d = c.args.cx.d.now in
    let types = c.args.cx.types.now in
    let homes = c.args.cx.homes.now in
    let a = c.args.out.now in
    let b = c.compare_label.new.out in
    let so_far = c.loop-l.invariant.opened in
    let made = c.label-label.ensures.labelled in
    let grown = c.in_ok-compare_label.ensures.grown in
    let l = c.label-label.result in
    let ls = labels_of c.loop-l.cases.items in
    let more = opened_grown (opened_label so_far made) grown c.in_ok-compare_label.ensures.adds in
    let last = opened_permuted (l ∷ ls) (ls ++ l ∷ []) more
    (IsPermutation-sym (ls ++ l ∷ []) (l ∷ ls) (IsPermutation-to_front ls l)) in
    let same = ap labels_of c.in_ok-push.ensures.items ∙ labels_pushed c.loop-l.cases.items _ in
    record {
      opened = opened_at_most (subst (λ z. Opened p d types homes a b z (c.loop-l.l-index + 2 + 1)) (sym same) last)
          (omega arith);
      spent = spent_within (spent_then (spent_then c.loop-l.invariant.spent (labelled_spent made))
          c.in_ok-compare_label.ensures.spent) (omega arith) (omega arith);
      switched = switched_kept _ _ _ (keeps_then _ _ _ (keeps_same _ _ made.kinds) grown.keeps)
          c.loop-l.invariant.switched;
      otherwise = elim c.if-is_none.branch [
        | then-is_none w ↦ subst (λ z. IsOpen b z) (sym w.otherwise-is) (open_grown (open_here so_far.scene made)
            grown)
        | else-is_none w ↦ subst (λ z. IsOpen b z) (sym w.otherwise-is)
            (open_grown (open_beside so_far.scene c.loop-l.invariant.otherwise made) grown)
      ];
      is = compared_more c.loop-l.invariant.is made _ _ _ c.in_ok-compare_label.ensures.emits
          (λ none. elim c.if-is_none.branch [
            | then-is_none w ↦ w.otherwise-is
            | else-is_none w ↦ absurd (let q : false ≡ true = ap is_some (sym none) ∙ c.is_none.ensures
                ∙ ap not w.if-is_none.false in cc)
          ])
          (λ n some. elim c.if-is_none.branch [
            | then-is_none w ↦ absurd (let q : true ≡ false = ap is_some (sym some) ∙ c.is_none.ensures
                ∙ ap not w.if-is_none.true in cc)
            | else-is_none w ↦ w.otherwise-is
          ])
          (ap labels_as (take_more c.args.labels.now c.loop-l.l-index _ (omega arith)) ∙ labels_both _ _)
          c.in_ok-push.ensures.items;
    }

pub returns : goal.returns
returns c =
    record {
      opened = (let at_end = opened_grown c.loop-l.invariant.opened c.in_ok-jump.ensures.grown
          c.in_ok-jump.ensures.adds in
          opened_at_most
          (opened_permuted _ _ at_end (IsPermutation-map (λ (k : Case). k.label) _ _
          c.in_ok-sort_by_key.ensures.permutation))
          (omega arith));
      spent = spent_within (spent_then c.loop-l.invariant.spent c.in_ok-jump.ensures.spent) (omega arith)
          (omega arith);
      is = shows_cases _ c.loop-l.invariant.is
          (ap labels_as (sym (take_all c.loop-l.l-index c.args.labels.now (omega arith)))) c.in_ok-jump.ensures.emits
          (IsNonDecreasingBy-from_sort_by_key (λ (c : Case). c.before) _ c.in_ok-sort_by_key.ensures.sorted
          (λ a r q k. search rules))
          (c.sort_by_key.ensures.stable (λ (c : Case). c.before) (answers_always _ _ _ (λ f a r g h. search rules)));
    }
