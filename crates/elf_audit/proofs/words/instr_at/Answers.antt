use Rattle.std.proofs.Common.{List, ℕ, ◌+◌, ◌*◌, ◌∷◌, [], ◌∙◌, ap, arith, get_or}
use Rattle.std.specs.Int.{from_le_bytes, w32}
use Rattle.elf_audit.proofs.Sizes.{word_is}
use Rattle.elf_audit.proofs.words.instr_at.Goals as goal

pub returns : goal.returns
returns c =
    let at = 4 * c.args.k in
    let read = c.from_le_bytes.ensures
    ∙ ap (λ (bs : List ℕ). from_le_bytes w32
    (get_or bs at 0 ∷ get_or bs (at + 1) 0 ∷ get_or bs (at + 2) 0 ∷ get_or bs (at + 3) 0 ∷ []))
    c.text-text.ensures in
    c.decode.ensures.value ∙ word_is c.args.view.now c.args.k c.from_le_bytes.result (omega (arith, c.requires)) read
