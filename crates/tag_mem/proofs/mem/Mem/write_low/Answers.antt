use Rattle.std.proofs.Common.{◌≡◌, false, length, take, ap, ◌∙◌}
use Rattle.tag_mem.specs.Memory.{written}
use Rattle.tag_mem.specs.Numbers.{little_bytes}
use Rattle.tag_mem.proofs.LittleEndian.{length-little_bytes, take-little_bytes}
use Rattle.tag_mem.proofs.Sizes.{in_granule}
use Rattle.tag_mem.proofs.mem.Mem.write_low.Goals as goal

pub store-requires : goal.store-requires
unfolding little_bytes
store-requires c =
    let part = in_granule c.args.at c.args.n c.requires.size c.requires.aligned in
    let low : take c.args.n c.to_le_bytes.result ≡ little_bytes c.args.n c.args.v =
    ap (take c.args.n) c.to_le_bytes.ensures ∙ take-little_bytes 8 c.args.n c.args.v part.most in
    let size : length (take c.args.n c.to_le_bytes.result) ≡ c.args.n =
    ap length low ∙ length-little_bytes c.args.n c.args.v in
    record { some = rw size part.some; granule = rw size part.granule }

pub returns : goal.returns
unfolding little_bytes
returns c =
    let part = in_granule c.args.at c.args.n c.requires.size c.requires.aligned in
    let low : take c.args.n c.to_le_bytes.result ≡ little_bytes c.args.n c.args.v =
    ap (take c.args.n) c.to_le_bytes.ensures ∙ take-little_bytes 8 c.args.n c.args.v part.most in
    record {
      inside = c.store.ensures.inside;
      value = c.store.ensures.value ∙ ap (λ bytes. written c.args.self.now c.args.at bytes false) low;
      by_address = rw (← low) c.store.ensures.by_address;
      outside = c.store.ensures.outside;
    }
