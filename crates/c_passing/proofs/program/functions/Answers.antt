use Rattle.std.proofs.Common.{◌≡◌, ◌+◌, ◌<◌, ◌≤◌, [], ◌∷◌, ◌++◌, Some, length, get_or, take, map, sym, ap, subst, ◌∙◌}
use Rattle.std.proofs.lemmas.Option.{slice_get-get_or}
use Rattle.std.proofs.lemmas.List.{take_more, take_all, map-append}
use Rattle.c_passing.specs.Routines.{written_routine, AreFunctions}
use Rattle.c_passing.proofs.Bodies.{no_functions, functions_push}
use Rattle.c_passing.proofs.program.functions.Goals as goal

pub loop-f-init : goal.loop-f-init
loop-f-init c = rw (c.new-list.ensures.items) (no_functions c.args.whole.now c.args.out.now)

pub loop-f-preserved : goal.loop-f-preserved
loop-f-preserved c =
    let w = c.args.whole.now in
    let fs = w.program.now.funs in
    let i = c.loop-f.f-index in
    let f = c.f-item.result in
    let slice = c.as_slice-f-items.ensures in
    let lt : i < length fs = subst (λ zs. i < length zs) slice c.loop-f-test.true in
    let read : f ≡ get_or fs i f = c.f-item.is ∙ ap (λ zs. get_or zs i f) slice in
    let turn : map (written_routine w) (take (i + 1) fs) ≡ map (written_routine w) (take i fs) ++ written_routine w f
    ∷ [] =
    ap (map (written_routine w)) (take_more fs i f lt ∙ ap (λ z. take i fs ++ z ∷ []) (sym read))
    ∙ map-append (written_routine w) (take i fs) (f ∷ []) in
    subst (λ rs. AreFunctions w rs c.args.out.now c.function.new.out c.push.new.self.items) (sym turn)
    (functions_push w (map (written_routine w) (take i fs))
    (written_routine w f) c.args.out.now c.loop-f.out c.function.new.out c.loop-f.list.items c.push.new.self.items
    c.in_ok-f.f
    c.loop-f.invariant c.in_ok-f.ensures c.in_ok-push.ensures.items)

pub returns : goal.returns
returns c =
    let w = c.args.whole.now in
    let fs = w.program.now.funs in
    let i = c.loop-f.f-index in
    let past : length fs ≤ i = subst (λ zs. length zs ≤ i) c.as_slice-f-items.ensures c.loop-f-test.false in
    subst (λ zs. AreFunctions w (map (written_routine w) zs) c.args.out.now c.loop-f.out c.loop-f.list.items)
    (take_all i fs past) c.loop-f.invariant

pub function-requires : goal.function-requires
function-requires c =
    let fs = c.args.whole.now.program.now.funs in
    let i = c.loop-f.f-index in
    let f = c.f-item.result in
    let slice = c.as_slice-f-items.ensures in
    let lt : i < length fs = subst (λ zs. i < length zs) slice c.loop-f-test.true in
    let read : get_or fs i f ≡ f = sym (c.f-item.is ∙ ap (λ zs. get_or zs i f) slice) in
    c.requires i f (slice_get-get_or fs i f lt ∙ ap (λ z. Some z) read)
