use Rattle.std.proofs.Common.{◌≡◌, ℕ, ◌+◌, length, ap, ◌∙◌, arith}
use Rattle.rv_select.specs.Selected.{Before}
use Rattle.rv_select.proofs.selection.entries_of.Goals as goal

abbrev table : (literals functions heap : ℕ) → Before
table literals functions heap = record { literals = literals; functions = functions; heap = heap }

same : (a b c x y z : ℕ) → a ≡ x → b ≡ y → c ≡ z → table a b c ≡ table x y z
same a b c x y z p q r = ap (λ n. table n b c) p ∙ ap (λ n. table x n c) q ∙ ap (λ n. table x y n) r

pub returns : goal.returns
returns c = λ small.
    let p = c.args.p.now in
    let g = ap length c.as_slice.ensures in
    let l = ap length c.as_slice-2.ensures in
    let f = ap length c.as_slice-3.ensures in
    let plus = c.saturating_add-functions.ensures in
    let more = c.saturating_add-heap.ensures in
    let functions : c.saturating_add-functions.result ≡ length p.globals + length p.literals =
    omega (arith, plus, g, l, small) in
    same (length c.as_slice.result.now) c.saturating_add-functions.result c.saturating_add-heap.result
    (length p.globals)
    (length p.globals + length p.literals) (length p.globals + length p.literals + length p.funs) g functions
    (omega (arith, more, functions, f, small))
