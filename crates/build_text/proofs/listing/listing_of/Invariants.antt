use Rattle.std.proofs.Common.{◌≡◌, [], ◌++◌, ◌+◌, ◌*◌, string_bytes}
use Rattle.build_text.specs.Lines.{lines}
use Rattle.tag_mem.specs.Numbers.{word_in}
use Rattle.build_text.specs.Listing.{word_line}
use Rattle.build_text.proofs.listing.listing_of.Given as goal

abbrev pub invariant-loop-k : goal.invariant-loop-k
invariant-loop-k l = string_bytes l.listing ≡ [] ++ lines (λ k. word_line (l.base + 4 * k) (word_in l.text k)) l.k
