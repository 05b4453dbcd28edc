use Rattle.std.proofs.Common.{◌≡◌, ℕ, Bool, true, false, List, refl, sym, ap, subst, ◌∙◌}
use Rattle.c_tree.specs.Types.{agree}
use Rattle.c_type_levels.specs.Agreement.{lengths_of}
use Rattle.c_interner.specs.Known.{type_in, LastIsOpen}
use Rattle.c_interner.specs.Levels.{pairs_agree, rank, RankBelow}
use Rattle.c_interner.proofs.Keeping.{if_ok_some, if_ok_none, judged}
use Rattle.c_interner.proofs.Pairing.{parts_fall}
use Rattle.c_interner.proofs.agreement.Agreements.judge.Goals as goal

pub returns-then-not-levels_agree-clause-agree : goal.returns-then-not-levels_agree-clause-agree
returns-then-not-levels_agree-clause-agree c =
    judged (lengths_of c.args.self.now.how) (type_in c.args.self.now.types.now) c.args.pair.0 c.args.pair.1
    c.in_ok-c.c.head c.in_ok-c.c.params.items c.in_ok-d.d.head c.in_ok-d.d.params.items false false
    c.in_ok-c.ensures.is c.in_ok-d.ensures.is (c.levels_agree.ensures ∙ c.if-not-levels_agree.true) refl

pub returns-clause-agree : goal.returns-clause-agree
returns-clause-agree c =
    let lengths = lengths_of c.args.self.now.how in
    let go = type_in c.args.self.now.types.now in
    if_ok_some c.look_all.result (λ (r : Bool). pairs_agree lengths go c.as_slice.result.now ≡ r)
    (λ (r : Bool). agree lengths (go c.args.pair.0) (go c.args.pair.1) ≡ r)
    (λ r h.
    judged lengths go c.args.pair.0 c.args.pair.1 c.in_ok-c.c.head c.in_ok-c.c.params.items c.in_ok-d.d.head
    c.in_ok-d.d.params.items true r c.in_ok-c.ensures.is c.in_ok-d.ensures.is
    (c.levels_agree.ensures ∙ c.if-not-levels_agree.false)
    (ap (pairs_agree lengths go) (sym (c.as_slice.ensures.value ∙ c.in_ok-parts.ensures)) ∙ h))
    c.look_all.ensures.agree

pub returns-clause-last : goal.returns-clause-last
returns-clause-last c =
    let es = c.args.self.now.known.entries in
    let void = c.args.self.now.void in
    let n = rank void c.args.pair.0 in
    let ws = c.look_all.new.waiting.items in
    let fall : RankBelow void n c.as_slice.result.now =
    subst (λ (qs : List (ℕ × ℕ)). RankBelow void n qs) (sym (c.as_slice.ensures.value ∙ c.in_ok-parts.ensures))
    (parts_fall c.args.self.now.types.now void c.args.pair.0 c.args.pair.1 c.in_ok-c.c.head c.in_ok-c.c.params.items
    c.in_ok-d.d.head c.in_ok-d.d.params.items c.requires.void c.in_ok-c.ensures.is c.in_ok-c.ensures.part
    c.in_ok-c.ensures.params c.in_ok-d.ensures.part c.in_ok-d.ensures.params) in
    if_ok_none c.look_all.result ((v m : ℕ) → RankBelow v m c.as_slice.result.now → LastIsOpen es v m ws)
    (LastIsOpen es void n ws) (λ h. h void n fall) c.look_all.ensures.last
