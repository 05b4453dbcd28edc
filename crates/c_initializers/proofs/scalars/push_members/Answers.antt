use Rattle.std.proofs.Common.{◌≡◌, ◌+◌, ◌-◌, ◌*◌, ◌<◌, ◌≤◌, ◌++◌, List, get_or, length, drop, map, refl, sym}
use Rattle.std.proofs.Common.{ap, subst, ◌∙◌, arith}
use Rattle.std.specs.List.{All}
use Rattle.std.proofs.Math.Nat.{zero-mul}
use Rattle.std.proofs.lemmas.List.Elements.{All-push}
use Rattle.c_tree.specs.Initializers.{all_scalars, scalars_of, tag_scalars}
use Rattle.c_tree.specs.Types.{Tagged}
use Rattle.c_expressions.specs.Nodes.{type_in}
use Rattle.c_plain_rules.specs.Place.{Place}
use Rattle.c_initializers.specs.declared.scalars.Row.{Row}
use Rattle.c_plain_rules.specs.Members.{place_in, IsClose}
use Rattle.c_initializers.specs.Rows.{IsRowThere, rows_scalars, row_steps, rows_steps}
use Rattle.c_initializers.proofs.FitLaws.{member-at, member-there}
use Rattle.c_initializers.proofs.PlaceLaws.{no-depth, one-depth}
use Rattle.c_initializers.proofs.RowLaws.{adds-no-row, member-row, single-row}
use Rattle.c_initializers.proofs.StepLaws.{member_steps, member-steps, members-steps, one-less, steps-push}
use Rattle.c_initializers.proofs.scalars.push_members.Goals as goal

pub returns-then-tags-eq0 : goal.returns-then-tags-eq0
returns-then-tags-eq0 c = adds-no-row c.args.work.now c.args.rows.now.items _ _
    (λ s. ap (λ d. tag_scalars d s c.args.tag c.args.at) c.if-tags-eq0.true ∙ no-depth s c.args.tag c.args.at)

pub loop-left-preserved : goal.loop-left-preserved
loop-left-preserved c =
    let w = c.args.work.now in
    let ms = c.in_ok-members.members.items in
    let i = c.loop-left.left - 1 in
    let m = c.index-m.result.now in
    let q : m ≡ get_or ms i m = c.index-m.ensures in
    let e = c.in_ok-push_row.ensures in
    let a = c.in_ok-members.ensures in
    let sum = c.saturating_add.result in
    let some : 0 < c.args.tags = omega (arith, c.if-tags-eq0.false) in
    let l : i < length ms = omega (arith, c.loop-left.invariant.within, c.loop-left-test.true) in
    let z : i + 1 ≡ c.loop-left.left = omega (arith, c.loop-left-test.true) in
    record {
      within = omega (arith, c.loop-left.invariant.within);
      there = λ h. subst (λ (x : List Row). All (IsRowThere w) x) (sym e)
          (All-push (IsRowThere w) c.loop-left.rows.items _ (c.loop-left.invariant.there h)
          (member-there w c.args.tag c.args.at c.args.tags i sum ms m c.single.result c.requires.fits some a.are a.close
          l q c.saturating_add.ensures c.single.ensures));
      are = λ s h.
          let go = tag_scalars (c.args.tags - 1) s in
          member-row w s go ms i m c.args.at c.loop-left.rows.items c.push_row.new.rows.items c.args.rows.now.items _ l
          e
          (single-row w s c.single.result m.of sum (c.args.tags - 1) c.single.ensures
          ∙ ap (scalars_of s go (type_in w.nodes m.of))
          (member-at w s (Tagged c.args.tag) c.args.at c.args.tags m.at sum c.requires.fits h some
          (subst IsClose (sym q) (a.close i m l)) c.saturating_add.ensures)
          ∙ ap (λ (p : Place). scalars_of s go (type_in w.nodes p.of) (c.args.at + p.at)) q)
          (subst (λ n. rows_scalars w s c.loop-left.rows.items
          ≡ all_scalars s go (map (place_in w) (drop n ms)) c.args.at
          ++ rows_scalars w s c.args.rows.now.items) (sym z) (c.loop-left.invariant.are s h));
      steps =
          let p = steps-push w c.loop-left.rows.items c.single.result in
          let q : row_steps w c.single.result ≤ member_steps w c.args.tags =
          subst (λ (x : Row). row_steps w x ≤ member_steps w c.args.tags) (sym c.single.ensures)
          (member-steps w c.args.tags m.of (omega (arith, c.if-tags-eq0.false))) in
          let f = ap (rows_steps w) e in
          let g = one-less c.loop-left.left (member_steps w c.args.tags) (omega (arith, c.loop-left-test.true)) in
          let h = c.loop-left.invariant.steps in
          omega arith;
    }

pub returns : goal.returns
returns c =
    let w = c.args.work.now in
    let ms = c.in_ok-members.members.items in
    let z : c.loop-left.left ≡ 0 = omega (arith, c.loop-left-test.false) in
    record {
      there = c.loop-left.invariant.there;
      are = λ s h.
          let go = tag_scalars (c.args.tags - 1) s in
          c.loop-left.invariant.are s h
          ∙ ap (λ n. all_scalars s go (map (place_in w) (drop n ms)) c.args.at
          ++ rows_scalars w s c.args.rows.now.items) z
          ∙ ap (λ x. x ++ rows_scalars w s c.args.rows.now.items)
          (ap (λ ps. all_scalars s go ps c.args.at) (c.in_ok-members.ensures.are.are s h)
          ∙ sym (one-depth c.args.tags (c.args.tags - 1) s c.args.tag c.args.at
          (omega (arith, c.if-tags-eq0.false)) refl));
      steps =
          let g : c.loop-left.left * member_steps w c.args.tags ≡ 0 =
          ap (λ n. n * member_steps w c.args.tags) z ∙ zero-mul (member_steps w c.args.tags) in
          let f = members-steps w (length ms) c.args.tags c.args.tag (omega arith)
          (omega (arith, c.if-tags-eq0.false)) in
          let h = c.loop-left.invariant.steps in
          omega arith;
    }
