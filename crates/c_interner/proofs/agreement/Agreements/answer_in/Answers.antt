use Rattle.c_interner.specs.Levels.{rank}
use Rattle.c_interner.proofs.Keeping.{last_there, last_taken}
use Rattle.c_interner.proofs.agreement.Agreements.answer_in.Goals as goal

pub take_last-part-requires : goal.take_last-part-requires
take_last-part-requires c =
    last_there c.args.self.now.known.entries c.args.self.now.void (rank c.args.self.now.void c.parts.part.0)
    c.judge.new.waiting.items (rw c.in-None.is at c.in_ok-agree.ensures.last)

pub parts-preserved : goal.parts-preserved
parts-preserved c =
    (last_taken c.args.self.now.known.entries c.args.self.now.void (rank c.args.self.now.void c.parts.part.0)
    c.judge.new.waiting.items c.take_last-part.new.pairs.items c.take_last-part.result
    (rw c.in-None.is at c.in_ok-agree.ensures.last) c.take_last-part.ensures).0

pub parts-smaller : goal.parts-smaller
parts-smaller c =
    (last_taken c.args.self.now.known.entries c.args.self.now.void (rank c.args.self.now.void c.parts.part.0)
    c.judge.new.waiting.items c.take_last-part.new.pairs.items c.take_last-part.result
    (rw c.in-None.is at c.in_ok-agree.ensures.last) c.take_last-part.ensures).1

pub returns-in-Some-clause-agree : goal.returns-in-Some-clause-agree
returns-in-Some-clause-agree c = rw c.in-Some.is at c.in_ok-agree.ensures.agree
