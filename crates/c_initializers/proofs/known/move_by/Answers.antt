use Rattle.std.proofs.Common.{sym, subst, ap, ◌∙◌}
use Rattle.std.specs.Prelude.{ℤ, pos, neg_ℤ, ◌≤ℤ◌, ◌^◌, reverse, IfOk}
use Rattle.std.proofs.lemmas.Result.{IfOk-weaker}
use Rattle.c_tree.specs.Statics as meant
use Rattle.c_tree.specs.Views.{aim_of}
use Rattle.c_elaborator.specs.Work.{reach_of}
use Rattle.c_initializers.specs.declared.starts.Value.{Value}
use Rattle.c_initializers.specs.Starts.{start_of, IsWithin, Points}
use Rattle.c_initializers.proofs.WithinLaws.{moved-within, sum-read, sum-low, sum-high}
use Rattle.c_initializers.proofs.known.move_by.Goals as goal

pub moved_to-requires-clause-low : goal.moved_to-requires-clause-low
moved_to-requires-clause-low c =
    let p = c.in-There.p in
    let w = subst (IsWithin 1267650600228229401496703205376) c.in-There.is c.requires.within in
    let e = sum-read p c.args.by w c.requires.low c.requires.high c.ranges.by in
    subst (λ (z : ℤ). neg_ℤ (pos (2 ^ 101)) ≤ℤ z) (sym e) (sum-low p.offset c.args.by w.1 c.requires.low)

pub moved_to-requires-clause-high : goal.moved_to-requires-clause-high
moved_to-requires-clause-high c =
    let p = c.in-There.p in
    let w = subst (IsWithin 1267650600228229401496703205376) c.in-There.is c.requires.within in
    let e = sum-read p c.args.by w c.requires.low c.requires.high c.ranges.by in
    subst (λ (z : ℤ). z ≤ℤ pos (2 ^ 101)) (sym e) (sum-high p.offset c.args.by w.2 c.requires.high)

pub returns-in-There-clause-is : goal.returns-in-There-clause-is
returns-in-There-clause-is c =
    let p = c.in-There.p in
    let w = subst (IsWithin 1267650600228229401496703205376) c.in-There.is c.requires.within in
    let e = sum-read p c.args.by w c.requires.low c.requires.high c.ranges.by in
    let asks = reverse c.args.x.asks.items in
    IfOk-weaker c.moved_to.result _ _ (λ r g s h.
    ap (λ (v : Value). meant.move_by s c.args.by (start_of v, asks)) c.in-There.is
    ∙ ap (λ (z : ℤ). meant.moved_to s (aim_of p.target) (reach_of p.bounds) z asks) (sym e) ∙ g s h)
    c.moved_to.ensures.is

pub returns-in-There-clause-within : goal.returns-in-There-clause-within
returns-in-There-clause-within c = λ n v.
    let p = c.in-There.p in
    let w = subst (IsWithin 1267650600228229401496703205376) c.in-There.is c.requires.within in
    let e = sum-read p c.args.by w c.requires.low c.requires.high c.ranges.by in
    moved-within n p c.args.by c.moved_to.result c.requires.low c.requires.high (subst (IsWithin n) c.in-There.is v)
    (subst (λ (z : ℤ). IfOk c.moved_to.result (Points p.bounds z)) e c.moved_to.ensures.points)
