-- Contained images: a contained text, and relocations that give no other way into it.
use Rattle.std.specs.Prelude.{◌≡◌, ℕ, ◌+◌, ◌<◌, ◌≤◌, Bool, true, false, List, ◌∷◌, length, map, All}
use Rattle.std.specs.List.{filter}
use Rattle.cap_ops.specs.declared.capability.TheConstants.{EXECUTE}
use Rattle.cap_ops.specs.Capability.{permits}
use Rattle.elf_file.specs.declared.image.Image.{Image}
use Rattle.elf_file.specs.declared.image.Reloc.{Reloc}
use Rattle.image_load.specs.Judging.{is_sentry, address_of}
use Rattle.cap_machine.specs.ContainedText.{Text, end_of, IsPlace, IsContainedText}

-- a relocation with Execute
abbrev pub executes : Reloc → Bool
executes r = permits r.perms EXECUTE

-- the entry places: the entry, and the addresses of the relocations with Execute
abbrev pub entries_of : Image → List ℕ
entries_of i = i.entry ∷ map address_of (filter executes i.relocs)

abbrev pub text_in : Image → Text
text_in i = record { base = i.text_base; bytes = i.text; entries = entries_of i }

-- a sentry with the text's bounds, at a multiple of 4 inside the text
pub record IsEntryReloc (t : Text) (r : Reloc) : Type 0 where
  pub sentry : is_sentry r.perms ≡ true
  pub base : r.base ≡ t.base
  pub length : r.length ≡ length t.bytes
  pub place : IsPlace t (address_of r)

-- no address lies both in its extent and in the text
abbrev pub LiesApart : Text → Reloc → Type 0
LiesApart t r = (x : ℕ) → r.base ≤ x → x < r.base + r.length → t.base ≤ x → x < end_of t → ⊥

pub record IsContainedReloc (t : Text) (r : Reloc) : Type 0 where
  pub entry : executes r ≡ true → IsEntryReloc t r
  pub other : executes r ≡ false → LiesApart t r

pub record Contained (i : Image) : Type 0 where
  pub text : IsContainedText (text_in i)
  pub relocs : All (IsContainedReloc (text_in i)) i.relocs
