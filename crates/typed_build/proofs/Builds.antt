-- What is written of a program's contained code is built of it.
use Rattle.std.proofs.Common.{◌≡◌, ℕ, zero, suc, ◌+◌, true, List, [], ◌∷◌, map, Some, refl, sym, ap, ◌∙◌, subst, arith}
use Rattle.std.proofs.Common.{inl, inr}
use Rattle.std.specs.Prelude.{slice_get, Contains}
use Rattle.std.specs.List.{All}
use Rattle.std.proofs.lemmas.Bool.{false≢true}
use Rattle.std.proofs.lemmas.List.Elements.{All-weaker}
use Rattle.bounds_place.specs.Sizes.{in_range}
use Rattle.bounds_place.specs.declared.sizes.Sizes.{Sizes}
use Rattle.c_tree.specs.declared.typed.Typed.{Typed}
use Rattle.cap_reloc.specs.Stored.{IsPointer, IsSentry, IsData}
use Rattle.elf_file.specs.declared.image.Image.{Image}
use Rattle.elf_file.specs.declared.image.Reloc.{Reloc}
use Rattle.image_load.specs.Contained.{Contained, executes, text_in}
use Rattle.image_load.specs.Judging.{address_of}
use Rattle.image_load.specs.Loading.{Loaded}
use Rattle.obj_mem.specs.Counted.{count_of}
use Rattle.obj_mem.specs.declared.map.Map.{Map}
use Rattle.typed_build.specs.Built.{EntersFunction, IsBuilt, RunsAsMeant}
use Rattle.typed_build.specs.Coded.{Selects, HasContainedCode}
use Rattle.typed_build.specs.Written.{IsWritten, image_in}
use Rattle.typed_build.specs.declared.written.Selected.{Selected}
use Rattle.typed_build.proofs.Contained.{relocs_contained, relocs_enter, data_does_not}
use Rattle.typed_build.proofs.ContainedCode.{IsEnteredAt, contained_text, entered_places}
use Rattle.typed_build.proofs.Writes.{loaded_of, is_image, legal, sized}

-- ---- the entries of a map are those of the code, from the text's base on

record EntryIn (base : ℕ) (entries : List ℕ) (x : ℕ) : Type 0 where
  offset : ℕ
  is : x ≡ base + offset
  among : Contains entries offset

among_mapped : (base : ℕ) (entries : List ℕ) (f x : ℕ) → slice_get (map (λ at. base + at) entries) f ≡ Some x
    → EntryIn base entries x
among_mapped base [] f x e = absurd cc
among_mapped base (at ∷ entries) zero x e =
    let same : base + at ≡ x = cc in record { offset = at; is = sym same; among = (0, omega arith, refl) }
among_mapped base (at ∷ entries) (suc f) x e =
    let r = among_mapped base entries f x e in
    let lt = r.among.1 in
    record { offset = r.offset; is = r.is; among = (suc r.among.0, omega arith, r.among.2) }

entry_in : (base : ℕ) (entries entered : List ℕ) → entered ≡ map (λ at. base + at) entries
    → (f x : ℕ) → slice_get entered f ≡ Some x → EntryIn base entries x
entry_in base entries entered same f x e = among_mapped base entries f x (sym (ap (λ es. slice_get es f) same) ∙ e)

-- ---- what is built

module _ (p : Typed) (s : Selected) (given : Selects p s) (code : HasContainedCode s) (sizes : Sizes)
    (chosen : in_range sizes ≡ true) (m : Map) (file : List ℕ) (w : IsWritten p s sizes m file) where
  abbrev image : Image
  image = image_in p s sizes m file w

  abbrev Entered : Reloc → Type 0
  Entered r = executes r ≡ true → IsEnteredAt m.text.0 s.entries.items s.start (address_of r)

  by_sentry : (r : Reloc) → IsSentry m r → Entered r
  by_sentry r h x =
      let e = entry_in m.text.0 s.entries.items m.entries w.placing.entries_are h.function (address_of r) h.entered in
      record { offset = e.offset; is = e.is; among = inr e.among }

  by_data : (r : Reloc) → IsData m r → Entered r
  by_data r d x = absurd (false≢true (sym (data_does_not r.perms d.word) ∙ x))

  enters : (r : Reloc) → IsPointer m r → Entered r
  enters r h = elim h.kind as (λ _. Entered r) [ inl i ↦ by_sentry r i | inr d ↦ by_data r d ]

  pub contained : Contained image
  contained =
      let l = legal p s given sizes chosen m w.placing in
      let high = l.in_range.1 in
      record {
        text =
            contained_text s.code.items s.entries.items
            (text_in image).entries s.start m.text.0 code given.coded.in_range
            l.text_aligned (omega (arith, sized p s given, w.placing.text_is, high))
            (entered_places image s.entries.items s.start refl
            (All-weaker (IsPointer m) Entered enters w.relocs w.begins.pointers));
        relocs = relocs_contained p s given sizes m file w;
      }

  pub is_built : (count : ℕ) → count ≡ count_of p → RunsAsMeant p m (loaded_of image) count → IsBuilt p file m count
  is_built count counted runs =
      let i = is_image p s given sizes chosen m file w in
      record {
        image = i.0;
        counted = counted;
        says = ap (λ (l : Loaded). l.image.count) i.1 ∙ sym counted;
        contained = subst (λ (l : Loaded). Contained l.image) (sym i.1) contained;
        entered = subst (λ (l : Loaded). All (EntersFunction m) l.image.relocs) (sym i.1)
            (relocs_enter m w.relocs w.begins.pointers);
        runs = subst (λ l. RunsAsMeant p m l count) (sym i.1) runs;
      }
