-- The words and the stack of an image stand in the machine to which it loads.
use Rattle.std.proofs.Common.{◌≡◌, ℕ, ◌+◌, ◌*◌, ◌<◌, ◌≤◌, true, List, length, Some, refl, sym, ap, ◌∙◌, subst, arith}
use Rattle.std.proofs.Common.{length-append}
use Rattle.std.specs.Prelude.{slice_get, slice_index}
use Rattle.std.proofs.lemmas.Option.{slice_get_within}
use Rattle.rv_instr.specs.declared.instr.Instr.{Instr}
use Rattle.rv_code.specs.Formats.{word_of}
use Rattle.rv_code.specs.Encoding.{fields_of}
use Rattle.tag_mem.specs.Areas.{IsMemory, is_inside}
use Rattle.tag_mem.specs.Memory.{number_at}
use Rattle.cap_machine.specs.declared.machine.Machine.{Machine}
use Rattle.elf_file.specs.declared.image.Image.{Image}
use Rattle.image_load.specs.State.{machine_of, memory_of}
use Rattle.c_tree.specs.declared.typed.Typed.{Typed}
use Rattle.obj_mem.specs.Legal.{IsLegal}
use Rattle.place_inject.specs.Frames.{Setting, stack_top}
use Rattle.image_starts.specs.Images.{IsImageOf, ImagesHaveStacks}
use Rattle.image_starts.specs.Words.{code_bytes}
use Rattle.image_starts.proofs.Coded.{length-code_bytes, word_below, code_byte}
use Rattle.image_starts.proofs.Memory.{is_memory, stack_inside, text_word}

memory_is : (i : Image) → (machine_of i).mem ≡ memory_of i
unfolding machine_of
memory_is i = refl

module _ (p : Typed) (s : Setting) (code : List Instr) (i : Image) (h : IsImageOf p s code i) where
  pub loaded_memory : s.loaded.mem ≡ memory_of i
  loaded_memory = ap (λ (m : Machine). m.mem) h.loaded ∙ memory_is i

  pub is_legal : IsLegal s.needs s.map
  is_legal = subst (λ n. IsLegal n s.map) (sym h.needs) h.legal

  pub base : i.text_base ≡ s.map.text.0
  base = ap (λ (e : ℕ × ℕ). e.0) h.text

  pub long : length i.text ≡ s.map.text.1
  long = ap (λ (e : ℕ × ℕ). e.1) h.text

  pub room : 4 * length code ≤ length i.text
  room = omega (
    arith,
    ap length h.begins_with,
    length-append (code_bytes code) h.behind,
    length-code_bytes code,
  )

  pub areas : IsMemory s.loaded.mem
  areas = subst IsMemory (sym loaded_memory) (is_memory i h.fine h.bytes)

  pub word : (k : ℕ) (x : Instr) → slice_get code k ≡ Some x
      → number_at s.loaded.mem (s.map.text.0 + 4 * k) 4 ≡ Some (word_of (fields_of x))
  word k x e =
      let lt = slice_get_within code k x e in
      ap (λ m. number_at m (s.map.text.0 + 4 * k) 4) loaded_memory
      ∙ ap (λ b. number_at (memory_of i) (b + 4 * k) 4) (sym base)
      ∙ text_word i h.fine h.bytes k (word_of (fields_of x)) (omega (arith, lt, room))
      (word_below x (h.in_range k x e))
      (λ j lj. ap (λ bs. slice_index bs (4 * k + j)) h.begins_with ∙ code_byte code h.behind k j x e lj)

  stack : (x : ℕ) → s.map.stack.0 ≤ x → x < stack_top s → is_inside s.loaded.mem x ≡ true
  stack x from to =
      ap (λ m. is_inside m x) loaded_memory
      ∙ stack_inside i h.fine h.bytes x (subst (λ (e : ℕ × ℕ). e.0 ≤ x) (sym h.stack) from)
      (subst (λ (e : ℕ × ℕ). x < e.0 + e.1) (sym h.stack) to)

pub images_have_stacks_law : ImagesHaveStacks
images_have_stacks_law p s code i h x from to = stack p s code i h x from to
