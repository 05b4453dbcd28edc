use Rattle.std.proofs.Common.{ℕ, List, [], ◌++◌, ◌+◌, ◌*◌, ◌∙◌, ap, string_bytes}
use Rattle.build_text.proofs.Grown.{no_lines, one_line}
use Rattle.tag_mem.specs.Numbers.{word_in}
use Rattle.build_text.specs.Listing.{word_line}
use Rattle.build_text.proofs.listing.listing_of.Goals as goal

pub loop-k-init : goal.loop-k-init
loop-k-init c = c.new-listing.ensures.bytes ∙ no_lines [] _

pub loop-k-preserved : goal.loop-k-preserved
loop-k-preserved c =
    one_line [] _ _ (λ k. word_line (c.args.base + 4 * k) (word_in c.args.text.now k)) c.loop-k.k c.loop-k.invariant
    (c.in_ok-push_word.ensures
    ∙ ap (λ (w : ℕ). string_bytes c.loop-k.listing ++ word_line (c.args.base + 4 * c.loop-k.k) w)
    c.word_in.ensures)
