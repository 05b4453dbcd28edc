use Rattle.c_elab.proofs.bodies.end_body.Goals as goal

pub leave_body-requires : goal.leave_body-requires
leave_body-requires c = record {
  whole = c.requires.whole;
  none = rw c.in-None.is at c.function_type.ensures.is;
}

pub define_end-requires : goal.define_end-requires
define_end-requires c = record {
  whole = c.requires.whole;
  there = c.requires.there;
  known = λ s h. let g = (rw c.in-Some.is at c.function_type.ensures.is) s h in (g.0, g.1);
}
