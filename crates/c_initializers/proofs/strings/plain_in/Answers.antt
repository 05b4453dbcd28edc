use Rattle.std.proofs.Common.{◌≡◌, ◌<◌, sym, ap, ◌∙◌}
use Rattle.c_tree.specs.Types.{bare}
use Rattle.c_tree.specs.Readings as meant
use Rattle.c_tree.specs.Conversions.{assigned}
use Rattle.c_tree.specs.Scopes.{give}
use Rattle.c_expressions.specs.Nodes.{Keeps, IsTerm, operand_in, type_in, term_in, type_count}
use Rattle.c_expressions.proofs.Keeping.{answers_err, bind_refuses, bind_gives}
use Rattle.c_initializers.specs.Slots.{IsSlotIn, slot_of, plain_slot}
use Rattle.c_initializers.proofs.strings.plain_in.Goals as goal

pub returns-in-Err : goal.returns-in-Err
returns-in-Err c =
    let n = c.args.nodes.now in
    let m = c.assigned.new.self in
    let t = type_in n c.args.of in
    let x = operand_in n c.args.x in
    answers_err n m n m (assigned t x) (plain_slot t c.args.at x) IsTerm IsSlotIn c.in-Err.refusal
    (λ code p h. bind_refuses (assigned t x) (λ y. give (slot_of c.args.at t y x.first)) code p h) c.in-Err.ensures

pub returns-in-Ok : goal.returns-in-Ok
returns-in-Ok c =
    let n = c.args.nodes.now in
    let m = c.assigned.new.self in
    let t = type_in n c.args.of in
    let x = operand_in n c.args.x in
    let a = c.in-Ok.ensures in
    let b = c.bare.ensures in
    let k : Keeps n m = a.keeps in
    let u = type_in m c.bare.result in
    let e : u ≡ bare t = b.is ∙ ap bare (k.types c.args.of c.requires.there) in
    record {
      value = slot_of c.args.at t a.value x.first;
      is = λ s. bind_gives (assigned t x) (λ y. give (slot_of c.args.at t y x.first)) a.value s (a.is s);
      keeps = k;
      shows = record {
        there = record { of = b.there; value = a.shows.there };
        is = ap (λ u. (let y : meant.Slot = record { at = c.args.at; of = u; value = a.value; first = x.first } in
            y)) (sym e) ∙ ap (λ v.
            (let y : meant.Slot = record { at = c.args.at; of = u; value = v; first = x.first } in y))
            (sym a.shows.is);
      };
    }
