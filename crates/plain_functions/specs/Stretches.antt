-- The words of a text that are a function's, and how many of them store and load.
use Rattle.std.specs.Prelude.{ℕ, ◌+◌, ◌-◌, ◌*◌, ◌/◌, nat_lt, min, Bool, true, false, List, [], ◌∷◌, length, take, drop}
use Rattle.std.specs.Prelude.{if◌then◌else◌}
use Rattle.std.specs.List.{count_by}
use Rattle.rv_instr.specs.declared.instr.Instr.{Instr}
use Rattle.rv_instr.specs.declared.instr.Instr.TheVariants.{Load, Clc}
use Rattle.purecap_abi.specs.Ends.{is_store}

-- the least of some entries that is greater than a place, or the end
abbrev pub next_entry : (place end : ℕ) → (entries : List ℕ) → ℕ
next_entry place end [] = end
next_entry place end (e ∷ es) =
    if nat_lt place e then min e (next_entry place end es) else next_entry place end es

-- The stretch of the function that is entered at a place of a text, whose first word stands at its base: the words from
-- the entry up to the next greater entry, or to the text's end
abbrev pub stretch : (base : ℕ) → (text : List Instr) → (entries : List ℕ) → (entry : ℕ) → List Instr
stretch base text entries entry =
    let next = next_entry entry (base + 4 * length text) entries in
    take ((next - entry) / 4) (drop ((entry - base) / 4) text)

-- a word that loads an integer or a capability; `csc` is one of the words that store
abbrev pub is_load : Instr → Bool
is_load (Load op to at offset) = true
is_load (Clc to at offset) = true
is_load i = false

abbrev pub loads_in : List Instr → ℕ
loads_in words = count_by is_load words

abbrev pub stores_in : List Instr → ℕ
stores_in words = count_by is_store words
