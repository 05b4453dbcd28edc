-- What is written of a program's selected code has its words as text, in which plain functions keep to registers.
use Rattle.std.proofs.Common.{◌≡◌, ℕ, true, List, ◌++◌, length, sym, ap, ◌∙◌, subst}
use Rattle.bounds_place.specs.Sizes.{in_range}
use Rattle.bounds_place.specs.declared.sizes.Sizes.{Sizes}
use Rattle.c_tree.specs.Typing.{Sound}
use Rattle.c_tree.specs.declared.typed.Typed.{Typed}
use Rattle.image_load.specs.Loading.{Loaded}
use Rattle.obj_mem.specs.declared.map.Map.{Map}
use Rattle.plain_functions.proofs.Stretched.{plain_functions_keep}
use Rattle.plain_functions.specs.Keeping.{PlainFunctionsKeep}
use Rattle.reg_alloc.specs.declared.places.Places.{Places}
use Rattle.rv_select.specs.Selectable.{before}
use Rattle.rv_select.specs.Selected.{IsSelected}
use Rattle.tac_ir.specs.declared.code.Tac.{Tac}
use Rattle.typed_build.specs.Coded.{HasContainedCode, Selects}
use Rattle.typed_build.specs.Frames.{FramesFit}
use Rattle.typed_build.specs.Programs.{HasProgram}
use Rattle.typed_build.specs.Registers.{IsTextOf}
use Rattle.typed_build.specs.Text.{filler, missing}
use Rattle.typed_build.specs.Written.{IsWritten}
use Rattle.typed_build.specs.declared.written.Selected.{Selected}
use Rattle.typed_build.proofs.LowFrames.{plain_low}
use Rattle.typed_build.proofs.Weighing.{same_count}
use Rattle.typed_build.proofs.Writes.{is_image}

pub is_text : (p : Typed) → Sound p → (t : Tac) (places : List Places) (s : Selected) → Selects p s → HasContainedCode s
    → HasProgram p t places s → (sizes : Sizes) → in_range sizes ≡ true → (m : Map) (file : List ℕ)
    → IsWritten p s sizes m file → IsTextOf p t places file m
is_text p sound t places s given contained has sizes chosen m file w =
    let i = is_image p s given sizes chosen m file w in
    let frames : m.frames ≡ s.frames.items = w.placing.frames_are in
    let lines : i.0.loaded.image.lines ≡ s.lines.items = ap (λ (l : Loaded). l.image.lines) i.1 in
    let more = missing (length s.code.items) in
    let plain = plain_functions_keep t.funs places s.frames.items (before p) p.main s.code.items s.lines.items
    s.entries.items has.selected (given.each ∙ sym (same_count t p has.is_code.formed)) given.entries contained.last
    (plain_low p sound t places s given has) m.text.0 more in
    record {
      loaded = i.0.loaded;
      loads = i.0.loads;
      words = s.code.items;
      entries = s.entries.items;
      frames = subst (λ fs. FramesFit p t.funs places fs) (sym frames) has.frames;
      selected =
          subst (λ fs. IsSelected t.funs places fs
          (before p) p.main s.code.items i.0.loaded.image.lines s.entries.items)
          (sym frames)
          (subst (λ ls. IsSelected t.funs places s.frames.items (before p) p.main s.code.items ls s.entries.items)
          (sym lines) has.selected);
      text = ap (λ (l : Loaded). l.image.text) i.1;
      entered = w.placing.entries_are;
      plain =
          subst (λ es. PlainFunctionsKeep m.text.0 (s.code.items ++ filler more) es t.funs places)
          (sym w.placing.entries_are) plain;
    }
