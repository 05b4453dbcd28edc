use Rattle.std.proofs.Common.{◌≡◌, ℕ, List, take, slice_get, ap, ◌∙◌, arith}
use Rattle.std.proofs.lemmas.Grind.{common_steps}
use Rattle.std.proofs.lemmas.Option.{gets}
use Rattle.elf_file.specs.declared.image.Image.{Image}
use Rattle.elf_file.specs.Image.{words_of}
use Rattle.elf_file.proofs.view.View.word.Goals as goal

pub returns : goal.returns
returns c =
    let all : List ℕ = c.words-words.result in
    let read : c.copied.result ≡ slice_get (take c.number_of_words.result all) c.args.k =
    grind (arith, common_steps, gets) in
    read
    ∙ ap (λ (n : ℕ). slice_get (take n all) c.args.k) c.number_of_words.ensures
    ∙ ap (λ (words : List ℕ). slice_get words c.args.k) c.words-words.ensures
    ∙ ap (λ (i : Image). slice_get (words_of i) c.args.k) c.self.view_is
