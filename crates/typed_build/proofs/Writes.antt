-- A program's machine code that is placed and written with the program's initial data loads, as the image of the
-- program.
use Rattle.std.proofs.Common.{◌≡◌, ℕ, ◌+◌, ◌*◌, ◌%◌, ◌^◌, ◌<◌, ◌≤◌, true, false, List, length, Ok, inr, refl, sym, ap}
use Rattle.std.proofs.Common.{◌∙◌, subst, arith}
use Rattle.std.proofs.lemmas.List.Elements.{All-weaker}
use Rattle.c_tree.specs.Views.{IsOrdered}
use Rattle.c_tree.specs.declared.typed.Typed.{Typed}
use Rattle.cap_concentrate.specs.Rounding.{Encodable}
use Rattle.obj_mem.specs.Legal.{AreApart}
use Rattle.obj_mem.specs.Needs.{Legal, weight_in}
use Rattle.obj_mem.specs.Table.{table_length}
use Rattle.obj_mem.specs.declared.map.Map.{Map}
use Rattle.bounds_place.specs.Placing.{exceeds, AreOffsets, IsPlacing}
use Rattle.bounds_place.specs.Sizes.{in_range}
use Rattle.bounds_place.specs.declared.sizes.Sizes.{Sizes}
use Rattle.cap_reloc.specs.Begins.{asked_by}
use Rattle.cap_reloc.specs.Stored.{IsPointer}
use Rattle.rv_instr.specs.declared.instr.Instr.{Instr}
use Rattle.elf_file.specs.declared.image.Image.{Image}
use Rattle.elf_file.specs.declared.image.Line.{Line}
use Rattle.elf_file.specs.declared.image.Reloc.{Reloc}
use Rattle.elf_file.specs.Image.{KeepsRules}
use Rattle.image_load.specs.Judging.{Extent, text_of as text_extent, initial_of, is_capability, judged}
use Rattle.image_load.specs.Loading.{Loaded, loading, loaded_as, after_reading}
use Rattle.image_load.specs.State.{machine_of}
use Rattle.typed_build.specs.Built.{HasExtents, IsImage}
use Rattle.typed_build.specs.Coded.{Selects}
use Rattle.typed_build.specs.Text.{code_limit, text_length, text_of}
use Rattle.typed_build.specs.Written.{Begins, image_with, IsWritten, image_in}
use Rattle.typed_build.specs.declared.written.Selected.{Selected}
use Rattle.typed_build.proofs.Coding.{offsets_of}
use Rattle.typed_build.proofs.Extents.{even_exact, exact, lies, fit, free, none_overlap, inside, entry, capable}
use Rattle.typed_build.proofs.Extents.{all_judged, judged_by}
use Rattle.typed_build.proofs.Initial.{Stand, stand, same_table, table_most}
use Rattle.typed_build.proofs.Locals.{data_within}
use Rattle.typed_build.proofs.Texts.{IsText, is_text, length-text_of, all_decode}
use Rattle.typed_build.proofs.Weighing.{few_functions}

abbrev pub code_of : Selected → List Instr
code_of s = s.code.items

abbrev pub size_of : Selected → ℕ
size_of s = text_length (length (code_of s))

abbrev pub loaded_of : Image → Loaded
loaded_of i = record { image = i; machine = machine_of i }

-- ---- the text

module _ (p : Typed) (s : Selected) (given : Selects p s) where
  pub short : 4 * length (code_of s) ≤ code_limit
  short = omega (arith, given.coded.size, given.coded.light)

  pub is_sized : IsText (length (code_of s)) (size_of s)
  is_sized = is_text (length (code_of s)) short

  pub sized : length (text_of (code_of s)) ≡ size_of s
  sized = length-text_of (code_of s) is_sized

  -- its text has so many bytes
  pub long : (n : ℕ) (text : List ℕ) (code : List Instr) → n ≡ length text → text ≡ text_of code → code ≡ code_of s
      → n ≡ size_of s
  long n text code e f g = e ∙ ap length f ∙ ap (λ c. length (text_of c)) g ∙ sized

  pub offsets : AreOffsets s.entries.items (size_of s)
  offsets = offsets_of (length (code_of s)) (size_of s) s.entries.items given.entries is_sized.room

  -- ---- under a map

  module _ (sizes : Sizes) (chosen : in_range sizes ≡ true) (m : Map)
      (placing : IsPlacing p s.frames.items s.entries.items (size_of s) sizes m) where
    pub legal : Legal p m
    legal = placing.legal (weight_in p) given.frames

    pub table_long : m.table.1 ≡ table_length (asked_by p)
    table_long = placing.table_is ∙ same_table p

    pub entry_below : m.text.0 + s.start < 2 ^ 64
    entry_below = omega (arith, given.coded.start_in, legal.in_range.1, placing.text_is, is_sized.room)

    text_size : length (text_of (code_of s)) ≡ m.text.1
    text_size = sized ∙ sym placing.text_is

    text_off : (e : Extent) → AreApart m.text e → AreApart (m.text.0, length (text_of (code_of s))) e
    text_off e h = subst (λ n. AreApart (m.text.0, n) e) (sym text_size) h

    -- ---- with its initial data

    module _ (base : ℕ) (bytes : List ℕ) (relocs : List Reloc) (begins : Begins p m base bytes relocs) where
      abbrev image : Image
      image = image_with p s m base bytes relocs

      pub keeps_rules : KeepsRules image
      keeps_rules = record {
        version = inr refl;
        text = omega (arith, sized, is_sized.whole);
        ascend = given.coded.ascend;
        in_text =
            All-weaker (λ (l : Line). l.at < 4 * length (code_of s)) (λ (l : Line). l.at < length (text_of (code_of s)))
            (λ l below. omega (arith, below, sized, is_sized.room)) s.lines.items given.coded.in_text;
        kinds = given.coded.kinds;
      }

      extents : HasExtents m image
      extents = record { text = ap (λ n. (m.text.0, n)) text_size; table = refl; heap = refl; stack = refl }

      stands : Stand m base (length bytes)
      stands = stand p m legal placing.stretch.0 placing.stretch.1 base bytes begins.initial

      -- no test of the loader refuses it
      pub fine : IsOrdered p → exceeds p ≡ false → judged image ≡ Ok tt
      fine ordered within =
          let sz = is_sized in
          let d = stands in
          let heap = legal.heap_length in
          let stack = legal.stack_length in
          let heap_most = legal.heap_most in
          let stack_most = legal.stack_most in
          let table = table_most p (data_within p within) (few_functions p ordered given.coded.light) in
          let many : m.table.1 ≤ 67900000 = omega (arith, table_long, table) in
          let whole : length (text_of (code_of s)) % 16 ≡ 0 = omega (arith, sized, sz.whole) in
          let long : length (text_of (code_of s)) ≤ 32014336 = omega (arith, sized, sz.most) in
          let from = d.from in
          let most = d.most in
          let holds = d.table in
          let room : m.text.0 + length (text_of (code_of s)) ≤ 2 ^ 40 = omega (arith, text_size, legal.in_range.1) in
          let range = legal.in_range in
          let th = legal.heap_base in
          let sh = legal.stack_base in
          judged_by image
          (fit (text_extent image) (initial_of image) m.heap m.stack
          (lies (text_extent image) legal.text_aligned whole range.0 room)
          (lies (initial_of image) (omega (arith, from, legal.table_aligned)) d.whole (omega (arith, from, range.2.0))
          d.below)
          (lies m.heap (omega arith) (omega (arith, heap)) range.2.2.0 range.2.2.1)
          (lies m.stack (omega arith) (omega (arith, stack)) range.2.2.2.0 range.2.2.2.1)
          (omega (arith, long)) (omega (arith, long, most, many, heap_most, stack_most)))
          (none_overlap (text_extent image) (initial_of image) m.heap m.stack
          (free (text_extent image) (initial_of image) (text_off (initial_of image) d.off_text))
          (free (text_extent image) m.heap (text_off m.heap legal.apart.0.1.0))
          (free (text_extent image) m.stack (text_off m.stack legal.apart.0.1.1.0))
          (free (initial_of image) m.heap d.off_heap)
          (free (initial_of image) m.stack d.off_stack)
          (free m.heap m.stack legal.apart.1.1.0.0))
          (inside m.table (initial_of image) (omega (arith, from)) (omega (arith, from, holds)))
          (entry image.entry (text_extent image) (omega arith) (omega (arith, given.coded.start_in, sized, sz.room))
          (omega (arith, given.coded.start_even, legal.text_aligned)))
          (all_judged (initial_of image) relocs begins.inside
          (All-weaker (IsPointer m) (λ r. is_capability r ≡ true) (capable m) relocs begins.pointers))
          (exact (text_extent image) (subst (λ n. Encodable m.text.0 (m.text.0 + n)) (sym text_size) legal.text_exact))
          (exact m.table legal.table_exact)
          (exact m.stack
          (even_exact m.stack.0 m.stack.1 legal.stack_base legal.stack_length legal.stack_most range.2.2.2.1))

  -- ---- written

  module _ (sizes : Sizes) (chosen : in_range sizes ≡ true) (m : Map) (file : List ℕ)
      (w : IsWritten p s sizes m file) where
    pub is_image : (i : IsImage p file m) × (i.loaded ≡ loaded_of (image_in p s sizes m file w))
    unfolding loading
    is_image = (
      record {
        legal = legal sizes chosen m w.placing;
        table = table_long sizes chosen m w.placing;
        loaded = loaded_of (image_in p s sizes m file w);
        loads = ap after_reading w.read ∙ ap (loaded_as (image_in p s sizes m file w)) w.fine;
        version = refl;
        whole = w.whole;
        extents = extents sizes chosen m w.placing w.base w.bytes w.relocs w.begins;
        filled = record { code = code_of s; is = refl; size = given.coded.size };
        words = all_decode (code_of s) given.coded.in_range;
        relocates = w.begins.relocates;
        begins = w.begins.objects;
      },
      refl,
    )
