-- The relocations of a program's image give no way into its text but its entries.
use Rattle.std.proofs.Common.{◌≡◌, ℕ, ◌+◌, ◌^◌, true, false, List, length, refl, sym, ap, ◌∙◌, arith, inl, inr}
use Rattle.std.specs.Prelude.{slice_get, Some}
use Rattle.std.specs.List.{All}
use Rattle.std.proofs.lemmas.Bool.{false≢true}
use Rattle.std.proofs.lemmas.List.Elements.{All-weaker}
use Rattle.cap_ops.specs.Capability.{permits}
use Rattle.cap_ops.specs.declared.capability.TheConstants.{EXECUTE}
use Rattle.cap_ops.specs.Permissions.{code_permissions}
use Rattle.c_tree.specs.declared.typed.Typed.{Typed}
use Rattle.cap_machine.specs.ContainedText.{Text}
use Rattle.cap_reloc.specs.Stored.{IsSentry, IsDataWord, IsData, IsPointer}
use Rattle.elf_file.specs.declared.image.Reloc.{Reloc}
use Rattle.image_load.specs.Contained.{text_in, IsContainedReloc}
use Rattle.image_load.specs.Judging.{address_of, is_sentry}
use Rattle.obj_mem.specs.declared.map.Map.{Map}
use Rattle.typed_build.specs.Built.{EntersFunction}
use Rattle.typed_build.specs.Coded.{Selects}
use Rattle.typed_build.specs.Written.{IsWritten, image_in}
use Rattle.typed_build.specs.declared.written.Selected.{Selected}
use Rattle.bounds_place.specs.declared.sizes.Sizes.{Sizes}
use Rattle.typed_build.proofs.Writes.{sized}

sentry_executes : permits (2 ^ 63 + code_permissions) EXECUTE ≡ true
sentry_executes = refl

pub data_does_not : (word : ℕ) → IsDataWord word → permits word EXECUTE ≡ false
data_does_not word (inl e) = rw e refl
data_does_not word (inr e) = rw e refl

module _ (t : Text) (m : Map) (base : t.base ≡ m.text.0) (size : length t.bytes ≡ m.text.1) (r : Reloc) where
  by_sentry : IsSentry m r → IsContainedReloc t r
  by_sentry s =
      let e = s.entry in
      let from = e.from in
      let below = e.below in
      record {
        entry = λ x. record {
          sentry = ap is_sentry s.word;
          base = s.base ∙ sym base;
          length = s.length ∙ sym size;
          place = record { from = omega arith; below = omega arith; even = e.multiple };
        };
        other = λ x. absurd (false≢true (sym x ∙ ap (λ word. permits word EXECUTE) s.word ∙ sentry_executes));
      }

  by_data : IsData m r → IsContainedReloc t r
  by_data d = record {
    entry = λ x. absurd (false≢true (sym (data_does_not r.perms d.word) ∙ x));
    other = λ x at from below in_text to.
        elim d.apart as (λ _. ⊥) [ inl before ↦ omega arith | inr behind ↦ omega arith ];
  }

  contained : IsPointer m r → IsContainedReloc t r
  contained h = elim h.kind as (λ _. IsContainedReloc t r) [ inl s ↦ by_sentry s | inr d ↦ by_data d ]

pub relocs_contained : (p : Typed) (s : Selected) (given : Selects p s)
    → (sizes : Sizes) (m : Map) (file : List ℕ) (w : IsWritten p s sizes m file)
    → All (IsContainedReloc (text_in (image_in p s sizes m file w))) w.relocs
relocs_contained p s given sizes m file w =
    let t = text_in (image_in p s sizes m file w) in
    let size = sized p s given ∙ sym w.placing.text_is in
    All-weaker (IsPointer m) (IsContainedReloc t) (contained t m refl size) w.relocs w.begins.pointers

-- ---- what has Execute is the sentry of a function

enters_function : (m : Map) (r : Reloc) → IsPointer m r → EntersFunction m r
enters_function m r h x =
    elim h.kind as (λ _. (function : ℕ) × (slice_get m.entries function ≡ Some (address_of r))) [
      | inl s ↦ (s.function, s.entered)
      | inr d ↦ absurd (false≢true (sym (data_does_not r.perms d.word) ∙ x))
    ]

pub relocs_enter : (m : Map) (relocs : List Reloc) → All (IsPointer m) relocs → All (EntersFunction m) relocs
relocs_enter m relocs h = All-weaker (IsPointer m) (EntersFunction m) (enters_function m) relocs h
