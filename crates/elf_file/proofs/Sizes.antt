-- How many bytes the headers and the image's words have.
use Rattle.std.proofs.Common.{◌≡◌, ℕ, ◌≤◌, Bool, true, false, ◌++◌, refl, arith}
use Rattle.elf_file.specs.declared.headers.Headers.{Headers}
use Rattle.elf_file.specs.Fields.{size_of}
use Rattle.elf_file.specs.Headers.{words_size, file_header, program_headers, section_headers, image_words, count_words}

pub size_of_file_header : (entry flags : ℕ) → size_of (file_header entry flags) ≡ 48
unfolding size_of file_header
size_of_file_header entry flags = refl

pub size_of_program_headers : (h : Headers) → size_of (program_headers h) ≡ 224
unfolding size_of program_headers
size_of_program_headers h = refl

pub size_of_section_headers : (h : Headers) → size_of (section_headers h) ≡ 448
unfolding size_of section_headers
size_of_section_headers h = refl

pub size_of_image_words : (version : ℕ) (table : ℕ × ℕ) (h : Headers) → size_of (image_words version table h) ≡ 96
unfolding size_of image_words
size_of_image_words version table h = refl

-- the words with the count, or without it
pub size_of_words : (version : ℕ) (table : ℕ × ℕ) (h : Headers) (counted : Bool) (count : ℕ) →
    size_of (image_words version table h ++ count_words counted count) ≡ words_size counted
unfolding size_of image_words count_words
size_of_words version table h true count = refl
size_of_words version table h false count = refl

pub words_size_most : (counted : Bool) → words_size counted ≤ 104
words_size_most true = omega arith
words_size_most false = omega arith

pub words_size_least : (counted : Bool) → 96 ≤ words_size counted
words_size_least true = omega arith
words_size_least false = omega arith
