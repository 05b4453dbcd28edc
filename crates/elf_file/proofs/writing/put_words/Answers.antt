use Rattle.std.proofs.Common.{◌≡◌, ℕ, List, ◌++◌, append_assoc, Bool, subst, refl, sym, ap, ◌∙◌}
use Rattle.std.specs.Prelude.{OnOk}
use Rattle.elf_file.specs.declared.field.Field.{Field}
use Rattle.elf_file.specs.declared.headers.Headers.{Headers}
use Rattle.elf_file.specs.declared.image.Image.{Image}
use Rattle.elf_file.specs.Fields.{spelled}
use Rattle.elf_file.specs.File.{headers_of, words_fields, padding}
use Rattle.elf_file.specs.Headers.{words_size, image_words, count_words}
use Rattle.elf_file.proofs.Runs.{spelled_both}
use Rattle.elf_file.proofs.writing.put_words.Goals as goal

-- the words, the count and the zero bytes, put one after the other
abbrev put : Headers → Image → List ℕ → List ℕ
put h i out =
    ((out ++ spelled (image_words i.version i.table h)) ++ spelled (count_words h.counted i.count))
    ++ padding (words_size h.counted)

put_is : (i : Image) (out : List ℕ) →
    put (headers_of i) i out ≡ out ++ spelled (words_fields i) ++ padding (words_size (headers_of i).counted)
put_is i out =
    let h = headers_of i in
    let both = spelled_both (image_words i.version i.table h) (count_words h.counted i.count) in
    simp (append_assoc, both)

pub returns-clause-bytes : goal.returns-clause-bytes
returns-clause-bytes c =
    let i : Image = c.args.i.now in
    let h : Headers = c.headers_of-h.result in
    let out : List ℕ = c.args.out.now.items in
    let count = spelled (count_words h.counted i.count) in
    let P : List ℕ → Type 0 = λ whole. OnOk c.put_padding.result (c.put_padding.new.out.items ≡ whole) in
    let words = c.in_ok-put.ensures ∙ ap (λ (fs : List Field). out ++ spelled fs) c.image_words.ensures.value in
    subst P
    (ap (λ (n : ℕ). c.put_count.new.out.items ++ padding n) c.words_size.ensures.value
    ∙ ap (λ (x : List ℕ). x ++ padding (words_size h.counted))
    (c.in_ok-put_count.ensures.bytes ∙ ap (λ (x : List ℕ). x ++ count) words)
    ∙ ap (λ (h : Headers). put h i out) c.headers_of-h.ensures
    ∙ put_is i out)
    c.put_padding.ensures
