use Rattle.std.proofs.Common.{length, refl}
use Rattle.c_expressions.specs.Nodes.{type_in}
use Rattle.c_initializers.specs.declared.slots.Filled.{Filled}
use Rattle.c_initializers.specs.Texts.{room_for}
use Rattle.c_initializers.proofs.FillLaws.{string-given, string-refused}
use Rattle.c_initializers.proofs.strings.string_in.Goals as goal

pub returns-in-None : goal.returns-in-None
returns-in-None c =
    let n = c.args.nodes.now in
    let bytes = c.args.bytes.now in
    let t = type_in n c.args.of in
    string-refused bytes c.args.pos c.args.whole t c.args.at (room_for (length bytes) t) refl c.in-None.ensures

pub returns-in_ok-slots-in-Some : goal.returns-in_ok-slots-in-Some
returns-in_ok-slots-in-Some c =
    let n = c.args.nodes.now in
    let bytes = c.args.bytes.now in
    let t = type_in n c.args.of in
    let f : Filled = record { slots = c.in_ok-slots-in-Some.slots; count = length bytes } in
    string-given n c.byte_slots.new.nodes bytes c.args.pos c.args.whole t c.args.at f c.row_of-element.result.0
    (room_for (length bytes) t) c.in-Some.most refl c.in-Some.ensures.0 c.in-Some.ensures.1
    c.row_of-element.ensures.element c.in_ok-slots-in-Some.ensures refl
