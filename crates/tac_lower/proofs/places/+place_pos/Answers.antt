use Rattle.std.proofs.Common.{refl}
use Rattle.tac_lower.specs.Trees.{setting, frame_in}
use Rattle.tac_lower.proofs.Nodes.{load_node, comma_node, assign_node}
use Rattle.tac_lower.proofs.Structs.{at_read, at_stored, at_behind, at_own}
use Rattle.tac_lower.proofs.Unplaced.{none_place}
use Rattle.tac_lower.proofs.places.+place_pos.Goals as goal

pub returns-in-None : goal.returns-in-None
returns-in-None t c = λ u r w.
    record {
      is = λ g means one_way. absurd (none_place
          (setting c.args.cx) c.requires.ordered r c.args.k c.in-None.ensures g means);
    }

pub returns-in-Load : goal.returns-in-Load
returns-in-Load t c = λ u r w.
    let f = frame_in (setting c.args.cx) u in
    at_read _ c.requires.ordered r (record { node = _; there = c.in-Some.ensures; is = c.in-Load.is })
    (c.place_pos.ensures u r
    (load_node f r c.args.k _ c.in-Some.ensures w c.in-Load.a c.in-Load.is).operands.operand)

pub returns-in-Assign : goal.returns-in-Assign
returns-in-Assign t c = λ u r w.
    let f = frame_in (setting c.args.cx) u in
    at_stored _ c.requires.ordered r (record { node = _; there = c.in-Some.ensures; is = c.in-Assign.is })
    (c.place_pos-in-Assign.ensures u r
    (assign_node f r c.args.k _ c.in-Some.ensures w c.in-Assign.a _ c.in-Assign.is).operands.left)

pub returns-in-Comma : goal.returns-in-Comma
returns-in-Comma t c = λ u r w.
    let f = frame_in (setting c.args.cx) u in
    at_behind _ c.requires.ordered r (record { node = _; there = c.in-Some.ensures; is = c.in-Comma.is })
    (c.place_pos-in-Comma.ensures u r
    (comma_node f r c.args.k _ c.in-Some.ensures w _ c.in-Comma.b c.in-Comma.is).operands.right)

pub returns-in_default : goal.returns-in_default
returns-in_default t c = λ u r w.
    at_own (setting c.args.cx) c.requires.ordered r u c.in-Some.e.now.kind w
    (record { node = _; there = c.in-Some.ensures; is = refl }) c.in_default.not-Load c.in_default.not-Comma
    c.in_default.not-Assign
