-- The headers of an image's file, field by field as in the ELF64 object file format, and where its six parts stand.
use Rattle.std.specs.Prelude.{ℕ, ◌+◌, ◌*◌, ◌/◌, Bool, List, [], ◌∷◌, ◌++◌, if◌then◌else◌}
use Rattle.elf_file.specs.declared.field.Field.{Field}
use Rattle.elf_file.specs.declared.field.Field.TheVariants.{Half, Word, Xword}
use Rattle.elf_file.specs.declared.headers.Headers.{Headers}
unfoldable pub use Rattle.elf_file.specs.Count.{count_words}

-- ---- where the parts stand

-- the next multiple of 16
abbrev pub rounded : ℕ → ℕ
rounded place = (place + 15) / 16 * 16

-- The text stands behind the headers, and each further part at the next multiple of 16.
abbrev pub text_at : ℕ
text_at = 736

abbrev pub initial_at : Headers → ℕ
initial_at h = rounded (text_at + h.text_size)

abbrev pub relocs_at : Headers → ℕ
relocs_at h = rounded (initial_at h + h.initial_size)

abbrev pub lines_at : Headers → ℕ
lines_at h = rounded (relocs_at h + h.relocs_size)

abbrev pub words_at : Headers → ℕ
words_at h = rounded (lines_at h + h.lines_size)

-- twelve words of eight bytes, and a thirteenth where the count stands behind them
abbrev pub words_size : Bool → ℕ
words_size counted = if counted then 104 else 96

abbrev pub names_at : Headers → ℕ
names_at h = rounded (words_at h + words_size h.counted)

abbrev pub end_of : Headers → ℕ
end_of h = names_at h + 54

-- ---- the file header

-- e_ident: the magic number, 64 bits (ELFCLASS64), little endian (ELFDATA2LSB), version 1 (EV_CURRENT), and zeros
unfoldable pub e_ident : List ℕ
e_ident = 0x7f ∷ 0x45 ∷ 0x4c ∷ 0x46 ∷ 2 ∷ 1 ∷ 1 ∷ 0 ∷ 0 ∷ 0 ∷ 0 ∷ 0 ∷ 0 ∷ 0 ∷ 0 ∷ 0 ∷ []

-- what follows e_ident
unfoldable pub file_header : ℕ → ℕ → List Field
file_header entry flags =
    Half 2  -- e_type: ET_EXEC
    ∷ Half 243  -- e_machine: EM_RISCV
    ∷ Word 1  -- e_version: EV_CURRENT
    ∷ Xword entry  -- e_entry
    ∷ Xword 64  -- e_phoff
    ∷ Xword 288  -- e_shoff
    ∷ Word flags  -- e_flags
    ∷ Half 64  -- e_ehsize
    ∷ Half 56  -- e_phentsize
    ∷ Half 4  -- e_phnum
    ∷ Half 64  -- e_shentsize
    ∷ Half 7  -- e_shnum
    ∷ Half 6  -- e_shstrndx
    ∷ []

-- ---- the program headers

abbrev pub program_header : ℕ → ℕ → ℕ → ℕ → ℕ → List Field
program_header flags offset base file_size memory_size =
    Word 1  -- p_type: PT_LOAD
    ∷ Word flags  -- p_flags
    ∷ Xword offset  -- p_offset
    ∷ Xword base  -- p_vaddr
    ∷ Xword base  -- p_paddr
    ∷ Xword file_size  -- p_filesz
    ∷ Xword memory_size  -- p_memsz
    ∷ Xword 16  -- p_align
    ∷ []

-- text (PF_R and PF_X), and initial data, heap and stack (PF_R and PF_W)
unfoldable pub program_headers : Headers → List Field
program_headers h =
    program_header 5 text_at h.text_base h.text_size h.text_size
    ++ program_header 6 (initial_at h) h.initial_base h.initial_size h.initial_size
    ++ program_header 6 0 h.heap.0 0 h.heap.1
    ++ program_header 6 0 h.stack.0 0 h.stack.1

-- ---- the section headers

abbrev pub section_header : ℕ → ℕ → ℕ → ℕ → ℕ → ℕ → ℕ → List Field
section_header name kind flags base offset size align =
    Word name  -- sh_name: where the name begins in the names
    ∷ Word kind  -- sh_type
    ∷ Xword flags  -- sh_flags
    ∷ Xword base  -- sh_addr
    ∷ Xword offset  -- sh_offset
    ∷ Xword size  -- sh_size
    ∷ Word 0  -- sh_link
    ∷ Word 0  -- sh_info
    ∷ Xword align  -- sh_addralign
    ∷ Xword 0  -- sh_entsize
    ∷ []

-- SHT_NULL; .text (SHF_ALLOC and SHF_EXECINSTR), .data (SHF_WRITE and SHF_ALLOC), .ck_relocs, .ck_lines and .ck_image
-- (SHT_PROGBITS); .shstrtab (SHT_STRTAB)
unfoldable pub section_headers : Headers → List Field
section_headers h =
    section_header 0 0 0 0 0 0 0
    ++ section_header 1 1 6 h.text_base text_at h.text_size 16
    ++ section_header 7 1 3 h.initial_base (initial_at h) h.initial_size 16
    ++ section_header 13 1 0 0 (relocs_at h) h.relocs_size 16
    ++ section_header 24 1 0 0 (lines_at h) h.lines_size 16
    ++ section_header 34 1 0 0 (words_at h) (words_size h.counted) 16
    ++ section_header 44 3 0 0 (names_at h) 54 16

-- ---- the words of .ck_image

-- version, entry, then base and length of text, data, table, heap and stack; behind these may stand the count
unfoldable pub image_words : ℕ → ℕ × ℕ → Headers → List Field
image_words version table h =
    Xword version ∷ Xword h.entry
    ∷ Xword h.text_base ∷ Xword h.text_size
    ∷ Xword h.initial_base ∷ Xword h.initial_size
    ∷ Xword table.0 ∷ Xword table.1
    ∷ Xword h.heap.0 ∷ Xword h.heap.1
    ∷ Xword h.stack.0 ∷ Xword h.stack.1
    ∷ []

-- ---- the names of the sections

-- a zero byte; then .text, .data, .ck_relocs, .ck_lines, .ck_image and .shstrtab, each with a zero byte
unfoldable pub section_names : List ℕ
section_names =
    0 ∷ 46 ∷ 116 ∷ 101 ∷ 120 ∷ 116 ∷ 0
    ∷ 46 ∷ 100 ∷ 97 ∷ 116 ∷ 97 ∷ 0
    ∷ 46 ∷ 99 ∷ 107 ∷ 95 ∷ 114 ∷ 101 ∷ 108 ∷ 111 ∷ 99 ∷ 115 ∷ 0
    ∷ 46 ∷ 99 ∷ 107 ∷ 95 ∷ 108 ∷ 105 ∷ 110 ∷ 101 ∷ 115 ∷ 0
    ∷ 46 ∷ 99 ∷ 107 ∷ 95 ∷ 105 ∷ 109 ∷ 97 ∷ 103 ∷ 101 ∷ 0
    ∷ 46 ∷ 115 ∷ 104 ∷ 115 ∷ 116 ∷ 114 ∷ 116 ∷ 97 ∷ 98 ∷ 0 ∷ []
