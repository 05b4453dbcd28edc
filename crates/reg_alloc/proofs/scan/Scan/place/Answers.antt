use Rattle.reg_alloc.proofs.Steps.{place_register, place_slot, place_nothing}
use Rattle.reg_alloc.proofs.scan.Scan.place.Goals as goal

pub returns-then-e : goal.returns-then-e
returns-then-e c = λ live done s next. place_nothing live _ done _ _ _ c.args.e c.if-e.true s next

pub returns-in-Some : goal.returns-in-Some
returns-in-Some c = λ live done s next.
    rw (c.take_register.ensures.homes, c.take_register.ensures.free, c.take_register.ensures.slots)
    (place_register live _ done _ _ _ c.args.e c.in-Some.rank c.if-e.false c.in-Some.ensures.choice s next)

pub returns-in-None : goal.returns-in-None
returns-in-None c = λ live done s next.
    rw (c.take_slot.ensures.homes, c.take_slot.ensures.free, c.take_slot.ensures.slots)
    (place_slot live _ done _ _ _ c.args.e c.if-e.false c.in-None.ensures.none s next)
