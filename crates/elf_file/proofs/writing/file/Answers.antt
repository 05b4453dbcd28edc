use Rattle.std.proofs.Common.{◌≡◌, ℕ, List, [], ◌++◌, append_assoc, ap, ◌∙◌}
use Rattle.std.proofs.lemmas.List.{append-nil}
use Rattle.elf_file.specs.declared.headers.Headers.{Headers}
use Rattle.elf_file.specs.declared.image.Image.{Image}
use Rattle.elf_file.specs.Fields.{spelled}
use Rattle.elf_file.specs.File.{headers_of, words_fields, relocs_bytes, lines_bytes, padding, file_of}
use Rattle.elf_file.specs.Headers.{e_ident, section_names, words_size, file_header, program_headers, section_headers}
use Rattle.elf_file.proofs.writing.file.Goals as goal

-- the pieces as they are put, one after the other
abbrev put : Headers → Image → List ℕ → List ℕ
put h i out =
    ((out ++ e_ident ++ spelled (file_header h.entry 0) ++ spelled (program_headers h) ++ spelled (section_headers h))
    ++ i.text ++ padding h.text_size ++ i.initial ++ padding h.initial_size ++ relocs_bytes i.relocs
    ++ padding h.relocs_size ++ lines_bytes i.lines ++ padding h.lines_size)
    ++ spelled (words_fields i) ++ padding (words_size (headers_of i).counted) ++ section_names

put_is_file : (i : Image) → put (headers_of i) i [] ≡ file_of i
put_is_file i = simp (append_assoc, append-nil)

pub returns-clause-bytes : goal.returns-clause-bytes
returns-clause-bytes c =
    let i : Image = c.args.i.now in
    let h : Headers = c.headers_of-h.result in
    let parts = λ (out : List ℕ). out ++ i.text ++ padding h.text_size ++ i.initial ++ padding h.initial_size
    ++ relocs_bytes i.relocs ++ padding h.relocs_size ++ lines_bytes i.lines ++ padding h.lines_size in
    c.in_ok-put_names.ensures
    ∙ ap (λ (out : List ℕ). out ++ section_names) (c.in_ok-put_words.ensures.bytes
    ∙ ap (λ (out : List ℕ). out ++ spelled (words_fields i) ++ padding (words_size (headers_of i).counted))
    (c.in_ok-put_parts.ensures.bytes ∙ ap parts c.in_ok-put_headers.ensures))
    ∙ ap (put h i) c.new-out.ensures.items
    ∙ ap (λ (h : Headers). put h i []) c.headers_of-h.ensures
    ∙ put_is_file i
