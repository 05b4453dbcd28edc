use Rattle.std.proofs.lemmas.Result.{on_ok_weaker}
use Rattle.c_elaborator.proofs.Parting.{piece_accepted, piece_is}
use Rattle.c_elaborator.proofs.work.Work.append_piece.Goals as goal

pub append_text-requires : goal.append_text-requires
append_text-requires c = rw c.text.ensures
    (piece_accepted c.args.self.now c.part-part.result c.requires.syntax c.requires.text
    (c.part-part.ensures c.requires.syntax c.requires.is))

pub returns : goal.returns
returns c =
    on_ok_weaker c.append_text.result (λ e x h.
    piece_is c.args.self.now c.part-part.result c.args.into.now.items c.append_text.new.into.items x
    (rw c.text.ensures at e) (c.part-part.ensures x h)) c.append_text.ensures
