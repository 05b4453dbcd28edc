use Rattle.std.proofs.Common.{List, ℕ, get_or, drop, drop-cons, subst, add-one, suc}
use Rattle.std.proofs.lemmas.List.{drop_all}
use Rattle.c_elaborator.proofs.Parting.{Written, none_written, one_written, all_written, text_at_number}
use Rattle.c_elaborator.proofs.work.Work.append_pieces.Goals as goal

pub append_piece-requires : goal.append_piece-requires
append_piece-requires c =
    text_at_number c.args.self.now c.args.kids.now c.loop-k.k-index 0 c.requires c.loop-k-test.true

pub loop-k-init : goal.loop-k-init
loop-k-init c = λ xs h. none_written c.args.self.now c.args.into.now.items xs c.args.kids.now h

pub loop-k-preserved : goal.loop-k-preserved
loop-k-preserved c xs h =
    let w = c.args.self.now in
    let ks = c.args.kids.now in
    let i = c.loop-k.k-index in
    let before = c.args.into.now.items in
    let now = c.loop-k.into.items in
    rw (add-one i)
    (one_written w before xs now c.append_piece.new.into.items (get_or ks i 0)
    (drop (suc i) ks) c.in_ok-append_piece.ensures
    (subst (λ (js : List ℕ). Written w before xs now js) (drop-cons ks i 0 c.loop-k-test.true)
    (c.loop-k.invariant xs h)))

pub returns : goal.returns
returns c xs h = all_written c.args.self.now c.args.into.now.items xs c.loop-k.into.items
    (drop c.loop-k.k-index c.args.kids.now) (drop_all c.loop-k.k-index c.args.kids.now c.loop-k-test.false)
    (c.loop-k.invariant xs h)
