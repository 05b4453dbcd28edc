-- Why a word or a relocation breaks a rule of contained images, and the first that does.
use Rattle.std.specs.Prelude.{◌≡◌, ℕ, zero, suc, ◌+◌, ◌-◌, ◌*◌, ◌/◌, ◌%◌, ◌<◌, ◌==◌, ◌&&◌, ◌||◌, not, nat_le, nat_lt}
use Rattle.std.specs.Prelude.{Bool, true, false, List, [], ◌∷◌, length, take, slice_get, Option, Some, None, All}
use Rattle.std.specs.Prelude.{if◌then◌else◌}
use Rattle.std.specs.Option.{option_map}
use Rattle.rv_instr.specs.declared.instr.Instr.{Instr}
use Rattle.elf_file.specs.declared.image.Image.{Image}
use Rattle.elf_file.specs.declared.image.Reloc.{Reloc}
use Rattle.cap_machine.specs.Step.{is_call}
use Rattle.cap_machine.specs.ContainedText.{Text, end_of, IsPlace, instr_at, is_allowed, target, is_plain_jump}
use Rattle.cap_machine.specs.ContainedText.{sets_service}
use Rattle.image_load.specs.Judging.{is_sentry, address_of, overlap}
use Rattle.image_load.specs.Contained.{executes, text_in}

-- ---- words

abbrev pub holds : (Instr → Bool) → Option Instr → Bool
holds test None = false
holds test (Some i) = test i

abbrev pub is_place : Text → ℕ → Bool
is_place t x = nat_le t.base x && nat_lt x (end_of t) && x % 4 == 0

-- it leads nowhere, or to a place of the text
abbrev pub leads_inside : Text → Option ℕ → Bool
leads_inside t None = true
leads_inside t (Some y) = is_place t y

abbrev pub leads_to : Option ℕ → ℕ → Bool
leads_to None y = false
leads_to (Some z) y = z == y

-- a branch or `cjal` among the first n words leads to y
unfoldable pub is_target : Text → ℕ → ℕ → Bool
is_target t zero y = false
is_target t (suc n) y = holds (λ i. leads_to (target i (t.base + 4 * n)) y) (instr_at t (t.base + 4 * n))
    || is_target t n y

unfoldable pub is_among : List ℕ → ℕ → Bool
is_among [] x = false
is_among (y ∷ ys) x = y == x || is_among ys x

-- a branch, a `cjal` or an entry place leads to it
abbrev pub is_reached : Text → ℕ → Bool
is_reached t x = is_target t (length t.bytes / 4) x || is_among t.entries x

-- it stands directly after `addi x17,x0,k`
abbrev pub follows_service : Text → ℕ → Bool
follows_service t x = nat_le (t.base + 4) x && holds sets_service (instr_at t (x - 4))

-- the least reason why the word at a place breaks a rule, and 0 where it breaks none
abbrev pub reason_by : Text → ℕ → Option Instr → ℕ
reason_by t x None = 1
reason_by t x (Some i) =
    if not (is_allowed i) then 2
    else if not (leads_inside t (target i x)) then 3
    else if is_call i && not (follows_service t x) then 4
    else if is_call i && is_reached t x then 5
    else if x + 4 == end_of t && not (is_plain_jump i) then 6
    else 0

abbrev pub reason_at : Text → ℕ → ℕ
reason_at t x = reason_by t x (instr_at t x)

-- ---- relocations

-- a sentry with the text's bounds, at a place of the text
abbrev pub is_entry_reloc : Text → Reloc → Bool
is_entry_reloc t r = is_sentry r.perms && r.base == t.base && r.length == length t.bytes && is_place t (address_of r)

-- why a relocation breaks a rule, and 0 where it breaks none
abbrev pub reloc_reason : Text → Reloc → ℕ
reloc_reason t r =
    if executes r then (if is_entry_reloc t r then 0 else 7)
    else if overlap (t.base, length t.bytes) (r.base, r.length) then 8
    else 0

-- ---- the first that breaks a rule: the words by ascending address, then the relocations in their order

pub record IsFirstWord (t : Text) (x reason : ℕ) : Type 0 where
  pub place : IsPlace t x
  pub is : reason_at t x ≡ reason
  pub some : 0 < reason
  pub before : (y : ℕ) → IsPlace t y → y < x → reason_at t y ≡ 0

abbrev pub NoWord : Text → Type 0
NoWord t = (x : ℕ) → IsPlace t x → reason_at t x ≡ 0

pub record IsFirstReloc (i : Image) (k reason : ℕ) : Type 0 where
  pub words : NoWord (text_in i)
  pub is : option_map (reloc_reason (text_in i)) (slice_get i.relocs k) ≡ Some reason
  pub some : 0 < reason
  pub before : All (λ r. reloc_reason (text_in i) r ≡ 0) (take k i.relocs)
