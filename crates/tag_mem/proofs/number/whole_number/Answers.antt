use Rattle.std.proofs.Common.{◌<◌, List, ℕ, sym, ap, ◌∙◌}
use Rattle.std.proofs.lemmas.List.Elements.{All-from_get_or}
use Rattle.tag_mem.specs.Numbers.{little_number}
use Rattle.tag_mem.proofs.LittleEndian.{number-whole}
use Rattle.tag_mem.proofs.Granules.{same_granule}
use Rattle.tag_mem.proofs.number.whole_number.Goals as goal

pub returns : goal.returns
returns c =
    let bytes : List ℕ = c.args.bytes.now in
    c.from_le_bytes.ensures ∙ number-whole bytes c.told-bytes
    ∙ ap little_number (sym (same_granule bytes c.told-bytes
    (All-from_get_or (λ b. b < 256) bytes 0 (λ k _. c.fits-bytes k))))
