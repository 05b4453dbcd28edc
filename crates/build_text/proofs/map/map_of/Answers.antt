use Rattle.std.proofs.Common.{ℕ, List, length, slice_get, refl, ap, ap₂}
use Rattle.c_tree.specs.declared.typed.FunDef.{FunDef}
use Rattle.c_tree.specs.declared.typed.Literal.{Literal}
use Rattle.obj_mem.specs.declared.map.Frame.{Frame}
use Rattle.build_text.specs.Lines.{lines}
use Rattle.build_text.specs.Map.{function_line, global_line, literal_line, frame_lines}
use Rattle.build_text.proofs.Grown.{appended}
use Rattle.build_text.proofs.map.map_of.Goals as goal

pub returns : goal.returns
returns c =
    let file = c.args.file.now in
    let p = c.args.p.now in
    let functions = ap₂ (λ (fs : List FunDef) (es : List ℕ).
    lines (λ k. function_line file (slice_get fs k) (slice_get es k)) (length fs)) c.as_slice-functions.ensures
    c.as_slice.ensures in
    let globals = ap (λ (bs : List ℕ). lines (λ k. global_line file p.types (slice_get p.globals k) (slice_get bs k))
    (length p.globals)) c.as_slice-2.ensures in
    let literals = ap₂ (λ (ls : List Literal) (bs : List ℕ).
    lines (λ k. literal_line (slice_get ls k) (slice_get bs k)) (length ls)) c.as_slice-3.ensures
    c.as_slice-4.ensures in
    let frames = ap₂ (λ (fs : List FunDef) (gs : List Frame).
    lines (λ k. frame_lines file (slice_get fs k) (slice_get gs k)) (length fs)) c.as_slice-functions.ensures
    c.as_slice-5.ensures in
    let text = appended _ _ _ _ _ c.in_ok-push_part.ensures c.new-text.ensures.items refl in
    let with_functions = appended _ _ _ _ _ c.in_ok-push_functions.ensures text functions in
    let with_globals = appended _ _ _ _ _ c.in_ok-push_globals.ensures with_functions globals in
    let with_literals = appended _ _ _ _ _ c.in_ok-push_literals.ensures with_globals literals in
    let with_table = appended _ _ _ _ _ c.in_ok-push_part-2.ensures with_literals refl in
    let with_heap = appended _ _ _ _ _ c.in_ok-push_part-3.ensures with_table refl in
    let with_stack = appended _ _ _ _ _ c.in_ok-push_part-4.ensures with_heap refl in
    appended _ _ _ _ _ c.in_ok-push_frames.ensures with_stack frames
