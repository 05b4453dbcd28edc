-- The bytes of a code's words.
use Rattle.std.specs.Prelude.{ℕ, List}
use Rattle.std.specs.List.{flat_map}
use Rattle.rv_instr.specs.declared.instr.Instr.{Instr}
use Rattle.rv_code.specs.Formats.{word_of}
use Rattle.rv_code.specs.Encoding.{fields_of}
use Rattle.tag_mem.specs.Numbers.{little_bytes}

-- of an instruction's word, the lowest first
abbrev pub instr_bytes : Instr → List ℕ
instr_bytes i = little_bytes 4 (word_of (fields_of i))

abbrev pub code_bytes : List Instr → List ℕ
code_bytes code = flat_map instr_bytes code
