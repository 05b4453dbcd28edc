-- The code of an image is the text of the machine to which it loads, and the counter is at its entry.
use Rattle.std.proofs.Common.{◌≡◌, ℕ, ◌+◌, refl, ap, ◌∙◌, arith}
use Rattle.cap_ops.specs.Bounded.{bounded}
use Rattle.cap_ops.specs.Permissions.{code_permissions}
use Rattle.cap_ops.specs.declared.capability.TheConstants.{UNSEALED}
use Rattle.cap_machine.specs.declared.machine.Machine.{Machine}
use Rattle.elf_file.specs.declared.image.Image.{Image}
use Rattle.image_load.specs.Judging.{text_of}
use Rattle.image_load.specs.State.{machine_of, of_extent}
use Rattle.image_starts.specs.Running.{ImagesAreText, ImagesBegin}
use Rattle.image_starts.proofs.Loaded.{is_legal, long, room, areas, word}

pub images_are_text_law : ImagesAreText
images_are_text_law p s code i h usable = record {
  legal = is_legal p s code i h;
  usable = usable;
  room = omega (arith, room p s code i h, long p s code i h);
  in_range = h.in_range;
  areas = areas p s code i h;
  words = word p s code i h;
}

counter_of : (i : Image) → (machine_of i).pc ≡ of_extent (text_of i) code_permissions i.entry
unfolding machine_of
counter_of i = refl

pub images_begin_law : ImagesBegin
images_begin_law p s code i h at e =
    ap (λ (m : Machine). m.pc) h.loaded ∙ counter_of i
    ∙ ap (λ (x : ℕ × ℕ). of_extent x code_permissions i.entry) h.text
    ∙ ap (bounded s.map.text.0 (s.map.text.0 + s.map.text.1) code_permissions UNSEALED) e
