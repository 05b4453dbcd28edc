use Rattle.std.proofs.Common.{◌<◌, ◌≤◌, Ok, Err, refl, arith}
use Rattle.std.proofs.lemmas.Result.{err_from_is_err_and}
use Rattle.c_tree.specs.Programs.{reading}
use Rattle.c_expressions.specs.Nodes.{type_in, type_count}
use Rattle.c_elaborator.specs.Answers.{operand_in}
use Rattle.c_initializers.specs.declared.slots.Filled.{Filled}
use Rattle.c_statements.specs.Initial.{asked_by}
use Rattle.c_initializers.specs.Slots.{slot_in}
use Rattle.c_statements.proofs.Plain.{value_steps, value_fails, slot_steps, slot_fails, ask_steps, ask_fails}
use Rattle.c_statements.proofs.initial.plain_value.Goals as goal

pub plain-requires-clause-whole : goal.plain-requires-clause-whole
plain-requires-clause-whole c = (c.in_ok-x.ensures c.requires.part.syntax c.requires.part.is).whole

pub plain-requires-clause-there : goal.plain-requires-clause-there
plain-requires-clause-there c =
    let m : type_count c.args.work.now.nodes ≤ type_count c.value_of.new.work.nodes =
    (c.in_ok-x.ensures c.requires.part.syntax c.requires.part.is).grows.keeps.more_types in
    let l : c.args.goal.of < type_count c.args.work.now.nodes = c.requires.there in
    omega arith

pub plain-requires-clause-operand : goal.plain-requires-clause-operand
plain-requires-clause-operand c = (c.in_ok-x.ensures c.requires.part.syntax c.requires.part.is).there

pub returns-in_err-x : goal.returns-in_err-x
returns-in_err-x c =
    let q = err_from_is_err_and c.from_residual.result c.from_residual.ensures.1 in
    λ y p.
    let u = c.args.work.now in
    let g = c.args.goal in
    rw (q.1, q.2) (value_fails u c.value_of.new.work (reading y).operand (asked_by g.asked) g.whole
    (type_in u.nodes g.of) g.at c.in_err-x.field-0.0 (c.in_err-x.ensures y p))

pub returns-in_err-slot : goal.returns-in_err-slot
returns-in_err-slot c =
    let q = err_from_is_err_and c.from_residual-in_err-slot.result c.from_residual-in_err-slot.ensures.1 in
    λ y p.
    let u = c.args.work.now in
    let v = c.value_of.new.work in
    let w = c.plain.new.work in
    let g = c.args.goal in
    let x = c.in_ok-x.x in
    let e = c.in_err-slot.field-0.0 in
    rw (q.1, q.2)
    (value_steps u v w (reading y).operand x (asked_by g.asked) g.whole g.of g.at (Err e) c.requires.there
    (c.in_ok-x.ensures y p)
    (slot_fails v w (asked_by g.asked) (type_in v.nodes g.of) g.at (operand_in v x) e c.in_err-slot.ensures))

pub returns-in_err-ask : goal.returns-in_err-ask
returns-in_err-ask c =
    let q = err_from_is_err_and c.from_residual-in_err-ask.result c.from_residual-in_err-ask.ensures.1 in
    λ y p.
    let u = c.args.work.now in
    let v = c.value_of.new.work in
    let w = c.plain.new.work in
    let g = c.args.goal in
    let x = c.in_ok-x.x in
    let slot = c.in_ok-slot.slot in
    let e = c.in_err-ask.field-0.0 in
    rw (q.1, q.2)
    (value_steps u v w (reading y).operand x (asked_by g.asked) g.whole g.of g.at (Err e) c.requires.there
    (c.in_ok-x.ensures y p)
    (slot_steps v w w (asked_by g.asked) (type_in v.nodes g.of) g.at (operand_in v x) slot (Err e)
    (c.in_ok-slot.ensures {u = tt})
    (ask_fails w (asked_by g.asked) (slot_in w.nodes slot) e c.in_err-ask.ensures)))

pub returns : goal.returns
returns c = λ y p.
    let u = c.args.work.now in
    let v = c.value_of.new.work in
    let w = c.plain.new.work in
    let x = c.in_ok-x.x in
    let slot = c.in_ok-slot.slot in
    let asked = asked_by c.args.goal.asked in
    let f : Filled = record { slots = c.in_ok-slots.slots; count = 0 } in
    value_steps u v w (reading y).operand x asked c.args.goal.whole c.args.goal.of c.args.goal.at
    (Ok f) c.requires.there (c.in_ok-x.ensures y p)
    (slot_steps v w w asked (type_in v.nodes c.args.goal.of) c.args.goal.at (operand_in v x) slot (Ok f)
    (c.in_ok-slot.ensures {u = tt})
    (ask_steps w asked slot f (c.in_ok-ask.ensures {u = tt}) (c.in_ok-slot.ensures {u = tt}).there
    (c.in_ok-slots.ensures {u = tt}) refl))
