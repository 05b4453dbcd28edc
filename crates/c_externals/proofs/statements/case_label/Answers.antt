use Rattle.std.proofs.lemmas.Result.{IfOk-weaker}
use Rattle.std.proofs.Common.{refl, arith}
use Rattle.c_phrases.proofs.Made.{bind_is}
use Rattle.c_externals.proofs.Parted.{joined_reads}
use Rattle.c_phrases.proofs.Paying.{noded, then_owed, owes, room_paid}
use Rattle.c_externals.proofs.statements.case_label.Goals as goal

pub returns : goal.returns
returns c = record {
  size = IfOk-weaker c.join.result _ _
      (λ p e. owes (then_owed {m = 0} c.in_ok-value.ensures.size
      (noded c.bracketed.new.cursor c.join.new.self e c.join.ensures.rest) refl)) c.join.ensures.size;
  low = IfOk-weaker c.join.result _ _
      (λ p e. omega (arith, e, c.in_ok-parts.ensures.size, c.in_ok-value.ensures.low)) c.join.ensures.low;
  tree = (let a = c.in_ok-value.ensures.tree in
      joined_reads _ c.bracketed.new.cursor _ c.join.result c.join.ensures.tree c.join.ensures.grows c.join.ensures.rest
      (c.in_ok-parts.ensures.one a.tree a.means) a.grows (bind_is _ a.reads) c.place.ensures refl);
}

pub join-requires : goal.join-requires
join-requires c = record {
  room = room_paid c.in_ok-value.ensures.size c.requires.room;
  height = omega (arith, c.in_ok-parts.ensures.size, c.in_ok-value.ensures.low, c.requires.height);
}
