use Rattle.std.proofs.Common.{◌<◌, length, refl, arith}
use Rattle.std.proofs.lemmas.Option.{slice_get_read}
use Rattle.c_parse.proofs.Checking.{place_of, IsAmong}
use Rattle.c_parse.proofs.files.stopped.Goals as goal

pub loop-item-init : goal.loop-item-init
loop-item-init c = λ some. absurd (omega (arith, some))

-- the place is that of the token that was looked at last
at_item : (c : goal.Else-text-at) → IsAmong c.place.result.pos c.args.tokens.now
at_item c = record {
  k = c.loop-item.item-index;
  token = c.item-item.result;
  there = slice_get_read c.args.tokens.now (length c.args.tokens.now) c.loop-item.item-index c.item-item.result refl
      c.loop-item-test.true c.item-item.is;
  same = c.place.ensures.pos;
}

pub loop-item-preserved : goal.loop-item-preserved
loop-item-preserved c = λ _. at_item c

pub returns-then-text-at : goal.returns-then-text-at
returns-then-text-at c = λ bytes. place_of bytes _ _ record {
  k = c.loop-item.item-index;
  token = c.item-item.result;
  there = slice_get_read c.args.tokens.now (length c.args.tokens.now) c.loop-item.item-index c.item-item.result refl
      c.loop-item-test.true c.item-item.is;
  same = c.place.ensures.pos;
}

pub returns : goal.returns
returns c = λ bytes.
    place_of bytes _ _ (c.loop-item.invariant (omega (arith, c.loop-item-test.false, c.requires)))
