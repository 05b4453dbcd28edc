use Rattle.std.proofs.Common.{◌≡◌, ◌-◌, ◌<◌, [], ◌∷◌, lit<, sym, ap, subst, ◌∙◌, arith}
use Rattle.c_tree.specs.Types.{Tagged}
use Rattle.std.proofs.lemmas.Result.{on_ok_weaker}
use Rattle.c_tree.specs.Scopes.{State}
use Rattle.c_tree.specs.Initializers.{scalars_of, tag_scalars}
use Rattle.c_expressions.specs.Nodes.{type_in}
use Rattle.c_initializers.specs.Rows.{FitsAt, type_steps, row_steps}
use Rattle.c_initializers.proofs.FitLaws.{elements-there, inner-fits, single-there}
use Rattle.c_initializers.proofs.StepLaws.{lower-row, some-steps}
use Rattle.c_initializers.proofs.RowLaws.{adds-row, adds-parts, array-row, single-row, scalar-alone, walks-rows}
use Rattle.c_initializers.proofs.RowLaws.{walks-place}
use Rattle.c_initializers.proofs.scalars.push_parts.Goals as goal

pub push_members-requires-clause-fits : goal.push_members-requires-clause-fits
push_members-requires-clause-fits c = λ s h.
    subst (λ t. FitsAt s t c.args.at c.args.tags) c.in-Tagged.ensures.is (c.requires.fits s h)

pub returns-in_ok-check_room-in-Array-clause-walks : goal.returns-in_ok-check_room-in-Array-clause-walks
returns-in_ok-check_room-in-Array-clause-walks c =
    let w = c.args.work.now in
    let parts = λ (s : State). scalars_of s (tag_scalars c.args.tags s) (type_in w.nodes c.args.of) c.args.at in
    on_ok_weaker c.push_row.result (λ e. walks-rows w c.args.cursor.now.extents.now c.args.rows.now.items
    c.push_row.new.rows.items
    c.args.places.now.items _ _ parts
    (adds-row w c.args.rows.now.items c.push_row.new.rows.items _ _ parts e
    (elements-there w (type_in w.nodes c.args.of) c.in-Array.element c.in-Array.count c.size_of-step.result c.args.at
    c.args.tags c.in-Array.ensures.is c.in-Array.ensures.there c.size_of-step.ensures.is c.requires.fits)
    (λ s k. array-row w s (type_in w.nodes c.args.of) c.in-Array.element c.in-Array.count c.size_of-step.result
    c.args.at c.args.tags c.in-Array.ensures.is (c.size_of-step.ensures.is s k)) (omega arith))
    (lower-row w c.in-Array.count c.args.tags c.args.tags (type_in w.nodes c.in-Array.element)
    (type_in w.nodes c.args.of) (omega arith) (rw c.in-Array.ensures.is (omega arith)))) c.push_row.ensures

pub returns-in-Tagged-clause-walks : goal.returns-in-Tagged-clause-walks
returns-in-Tagged-clause-walks c =
    let w = c.args.work.now in
    let parts = λ (s : State). scalars_of s (tag_scalars c.args.tags s) (type_in w.nodes c.args.of) c.args.at in
    let n = type_steps w c.args.tags (Tagged c.in-Tagged.tag) in
    let l : 0 < n = some-steps w c.args.tags (Tagged c.in-Tagged.tag) in
    on_ok_weaker c.push_members.result (λ a. walks-rows w c.args.cursor.now.extents.now c.args.rows.now.items
    c.push_members.new.rows.items
    c.args.places.now.items (n - 1) _ parts
    (adds-parts w c.args.rows.now.items c.push_members.new.rows.items (n - 1) _ parts
    (λ s. ap (λ t. scalars_of s (tag_scalars c.args.tags s) t c.args.at) (sym c.in-Tagged.ensures.is)) a)
    (rw c.in-Tagged.ensures.is (omega arith))) c.push_members.ensures

pub returns-in-Const-clause-walks : goal.returns-in-Const-clause-walks
returns-in-Const-clause-walks c =
    let w = c.args.work.now in
    let parts = λ (s : State). scalars_of s (tag_scalars c.args.tags s) (type_in w.nodes c.args.of) c.args.at in
    on_ok_weaker c.push_row-in-Const.result (λ e.
    walks-rows w c.args.cursor.now.extents.now c.args.rows.now.items c.push_row-in-Const.new.rows.items
    c.args.places.now.items _ _ parts
    (adds-row w c.args.rows.now.items c.push_row-in-Const.new.rows.items c.single.result _ parts e
    (single-there w c.single.result c.in-Const.inner c.args.at c.args.tags c.single.ensures c.in-Const.ensures.there
    (λ s h. inner-fits s (type_in w.nodes c.in-Const.inner) c.args.at c.args.tags
    (subst (λ t. FitsAt s t c.args.at c.args.tags) c.in-Const.ensures.is (c.requires.fits s h))))
    (λ s k. single-row w s c.single.result c.in-Const.inner c.args.at c.args.tags c.single.ensures
    ∙ ap (λ t. scalars_of s (tag_scalars c.args.tags s) t c.args.at) (sym c.in-Const.ensures.is))
    (let r : row_steps w c.single.result ≡ _ = ap (row_steps w) c.single.ensures in omega arith))
    (lower-row w 1 c.args.tags c.args.tags (type_in w.nodes c.in-Const.inner) (type_in w.nodes c.args.of)
    (lit< tt) (rw c.in-Const.ensures.is (omega arith)))) c.push_row-in-Const.ensures

pub returns-in_default-clause-walks : goal.returns-in_default-clause-walks
returns-in_default-clause-walks c =
    let w = c.args.work.now in
    let e = c.class.ensures.is in
    let parts = λ (s : State). scalars_of s (tag_scalars c.args.tags s) (type_in w.nodes c.args.of) c.args.at in
    on_ok_weaker c.push_needed.result (λ p. walks-place w c.args.cursor.now.extents.now c.args.rows.now.items
    c.args.places.now.items
    c.push_needed.new.places.items (record { at = c.args.at; of = c.args.of }) _ parts p c.requires.there
    (λ s. ap (λ t. scalars_of s (tag_scalars c.args.tags s) t c.args.at) e
    ∙ scalar-alone s (tag_scalars c.args.tags s) c.class.result (type_in w.nodes) c.class.ensures.params c.args.at
    c.in_default.not-Array c.in_default.not-Tagged c.in_default.not-Const ∙ ap (λ t. (c.args.at, t) ∷ []) (sym e))
    (some-steps w c.args.tags (type_in w.nodes c.args.of)))
    c.push_needed.ensures.places
