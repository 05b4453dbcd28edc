use Rattle.c_types.proofs.Looking.{there_at}
use Rattle.c_elaborator.proofs.Reading.{part_read, part_there}
use Rattle.c_elaborator.proofs.work.Work.part.Goals as goal

pub unreachable-requires : goal.unreachable-requires
unreachable-requires c =
    part_there c.args.self.now.tree.now.nodes c.args.k c.requires.syntax
    (rw c.as_slice.ensures at c.in-None.ensures.lookup.3)
    c.requires.is.stands

pub returns : goal.returns
returns c x h =
    let w = c.args.self.now in
    part_read w c.args.k c.in-Some.node.now c.as_slice-in-Some.result x
    (there_at w.tree.now.nodes _ c.args.k c.in-Some.node.now c.as_slice.ensures c.in-Some.ensures.lookup.0
    c.in-Some.ensures.lookup.1) c.as_slice-in-Some.ensures h
