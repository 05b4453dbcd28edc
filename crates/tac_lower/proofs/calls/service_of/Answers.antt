use Rattle.std.proofs.Common.{Some, subst, arith, inl, inr, ⊎_elim, ◌≡◌, ◌<◌, ◌≤◌, ◌⊎◌}
use Rattle.std.proofs.lemmas.Bool.{cases_lt}
use Rattle.std.specs.Prelude.{slice_get}
use Rattle.c_tree.specs.Libraries.{services}
use Rattle.tac_lower.proofs.Services.{asks_0, asks_1, asks_2, asks_4, asks_5, asks_6, asks_7, asks_8, asks_9, asks_10}
use Rattle.tac_lower.proofs.Services.{asks_11, asks_12, asks_13, asks_14, asks_15, asks_16, asks_17, asks_other}
use Rattle.tac_lower.proofs.calls.service_of.Goals as goal

pub returns-in-0-clause-asks : goal.returns-in-0-clause-asks
returns-in-0-clause-asks c = λ s h. asks_0 s (subst (λ z. slice_get services z ≡ Some s) c.in-0.is h)

pub returns-in-1-clause-asks : goal.returns-in-1-clause-asks
returns-in-1-clause-asks c = λ s h. asks_1 s (subst (λ z. slice_get services z ≡ Some s) c.in-1.is h)

pub returns-in-2-clause-asks : goal.returns-in-2-clause-asks
returns-in-2-clause-asks c = λ s h. asks_2 s (subst (λ z. slice_get services z ≡ Some s) c.in-2.is h)

pub returns-in-4-clause-asks : goal.returns-in-4-clause-asks
returns-in-4-clause-asks c = λ s h. asks_4 s (subst (λ z. slice_get services z ≡ Some s) c.in-4.is h)

pub returns-in-5-clause-asks : goal.returns-in-5-clause-asks
returns-in-5-clause-asks c = λ s h. asks_5 s (subst (λ z. slice_get services z ≡ Some s) c.in-5.is h)

pub returns-in-6-clause-asks : goal.returns-in-6-clause-asks
returns-in-6-clause-asks c = λ s h. asks_6 s (subst (λ z. slice_get services z ≡ Some s) c.in-6.is h)

pub returns-in-7-clause-asks : goal.returns-in-7-clause-asks
returns-in-7-clause-asks c = λ s h. asks_7 s (subst (λ z. slice_get services z ≡ Some s) c.in-7.is h)

pub returns-in-8-clause-asks : goal.returns-in-8-clause-asks
returns-in-8-clause-asks c = λ s h. asks_8 s (subst (λ z. slice_get services z ≡ Some s) c.in-8.is h)

pub returns-in-9-clause-asks : goal.returns-in-9-clause-asks
returns-in-9-clause-asks c = λ s h. asks_9 s (subst (λ z. slice_get services z ≡ Some s) c.in-9.is h)

pub returns-in-10-clause-asks : goal.returns-in-10-clause-asks
returns-in-10-clause-asks c = λ s h. asks_10 s (subst (λ z. slice_get services z ≡ Some s) c.in-10.is h)

pub returns-in-11-clause-asks : goal.returns-in-11-clause-asks
returns-in-11-clause-asks c = λ s h. asks_11 s (subst (λ z. slice_get services z ≡ Some s) c.in-11.is h)

pub returns-in-12-clause-asks : goal.returns-in-12-clause-asks
returns-in-12-clause-asks c = λ s h. asks_12 s (subst (λ z. slice_get services z ≡ Some s) c.in-12.is h)

pub returns-in-13-clause-asks : goal.returns-in-13-clause-asks
returns-in-13-clause-asks c = λ s h. asks_13 s (subst (λ z. slice_get services z ≡ Some s) c.in-13.is h)

pub returns-in-14-clause-asks : goal.returns-in-14-clause-asks
returns-in-14-clause-asks c = λ s h. asks_14 s (subst (λ z. slice_get services z ≡ Some s) c.in-14.is h)

pub returns-in-15-clause-asks : goal.returns-in-15-clause-asks
returns-in-15-clause-asks c = λ s h. asks_15 s (subst (λ z. slice_get services z ≡ Some s) c.in-15.is h)

pub returns-in-16-clause-asks : goal.returns-in-16-clause-asks
returns-in-16-clause-asks c = λ s h. asks_16 s (subst (λ z. slice_get services z ≡ Some s) c.in-16.is h)

pub returns-in-17-clause-asks : goal.returns-in-17-clause-asks
returns-in-17-clause-asks c = λ s h. asks_17 s (subst (λ z. slice_get services z ≡ Some s) c.in-17.is h)

pub returns-in_default-clause-asks : goal.returns-in_default-clause-asks
returns-in_default-clause-asks c = λ s h.
    let d = c.in_default in
    let w : (c.args.number ≡ 3) ⊎ (18 ≤ c.args.number) =
    ⊎_elim (λ (lt : c.args.number < 4). inl (omega arith)) (λ (ge : 4 ≤ c.args.number). inr (omega arith))
    (cases_lt c.args.number 4) in
    asks_other c.args.number s w h
