use Rattle.std.proofs.Common.{◌≡◌, length}
use Rattle.typed_build.specs.Frames.{FramesFit}
use Rattle.typed_build.proofs.frames.frames_of.Given as goal

abbrev pub invariant-loop-k : goal.invariant-loop-k
invariant-loop-k l = record {
  len : length l.frames.items ≡ l.k;
  fit : FramesFit l.p l.t.funs l.places.items l.frames.items;
}
