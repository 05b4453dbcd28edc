-- A program whose one function has no locals, under a map that places a frame of 16 bytes for it.
use Rattle.std.proofs.Common.{◌≡◌, ℕ, ◌*◌, ◌<◌, ◌≤◌, List, [], ◌∷◌, length, get_or, refl, sym, ap, subst, ◌∙◌, arith}
use Rattle.cap_concentrate.specs.Rounding.{owned}
use Rattle.c_tree.specs.declared.typed.FunDef.{FunDef}
use Rattle.c_tree.specs.declared.typed.Typed.{Typed}
use Rattle.c_tree.specs.declared.typed.VarDef.{VarDef}
use Rattle.obj_mem.specs.declared.map.Frame.{Frame}
use Rattle.obj_mem.specs.declared.map.Map.{Map}
use Rattle.obj_mem.specs.Legal.{IsFrame, AreFrames}
use Rattle.obj_mem.specs.Needs.{Legal, local_needs, function_needs, weight_in, needs_of}
use Rattle.obj_mem.specs.Table.{entry_count, table_length}
use Rattle.bounds_place.specs.Placing.{IsPlacing, weightless}
use Rattle.bounds_place.specs.declared.sizes.Sizes.{Sizes}
use Rattle.cap_reloc.specs.Begins.{asked_by}
use Rattle.cheric_rows.specs.OneFunction.{frame}

-- ---- the one function

pub only_item : (xs : List FunDef) (x : FunDef) → 1 ≤ length xs → length xs < 2 → x ≡ get_or xs 0 x → xs ≡ x ∷ []
only_item [] x a b e = absurd (omega arith)
only_item (y ∷ []) x a b e = ap (λ z. z ∷ []) (sym e)
only_item (y ∷ z ∷ xs) x a b e = absurd (omega arith)

pub no_item : (vs : List VarDef) → length vs ≡ 0 → vs ≡ []
no_item [] e = refl
no_item (v ∷ vs) e = absurd (omega arith)

-- ---- the map

is_frame : (w : ℕ) → IsFrame (record { locals = []; weight = w }) frame
is_frame w = record {
  slots = refl;
  has_slot = λ var o e. absurd cc;
  apart = λ var other s t e. absurd cc;
  power = (4, refl);
  align = omega arith;
  size_multiple = refl;
  saved = omega arith;
  least = omega arith;
  most = omega arith;
}

are_frames : (p : Typed) (d : FunDef) (w : ℕ → ℕ) → p.funs ≡ d ∷ [] → d.vars ≡ [] →
    AreFrames (function_needs p.types w 0 p.funs) (frame ∷ [])
are_frames p d w e f =
    let one : IsFrame (record { locals = local_needs p.types d; weight = w 0 }) frame =
    subst (λ (vs : List VarDef). IsFrame (record
    { locals = local_needs p.types (record d { vars = vs }); weight = w 0 }) frame) (sym f)
    (is_frame (w 0)) in
    subst (λ fs. AreFrames (function_needs p.types w 0 fs) (frame ∷ [])) (sym e) (one, tt)

pub legal_of : (p : Typed) (d : FunDef) (m : Map) (frames : List Frame) (entries : List ℕ) (text : ℕ) {sizes : Sizes} →
    p.funs ≡ d ∷ [] → d.vars ≡ [] → frames ≡ frame ∷ [] → IsPlacing p frames entries text sizes m → Legal p m
legal_of p d m frames entries text e f g h =
    h.legal (weight_in p) (subst (λ fs. AreFrames (function_needs p.types (weight_in p) 0 p.funs) fs) (sym g)
    (are_frames p d (weight_in p) e f))

pub table_of : (p : Typed) (d : FunDef) (m : Map) (frames : List Frame) (entries : List ℕ) (text : ℕ) {sizes : Sizes} →
    p.funs ≡ d ∷ [] → IsPlacing p frames entries text sizes m → m.table.1 ≡ table_length (asked_by p)
table_of p d m frames entries text e h =
    let same : length (function_needs p.types (λ f. 0) 0 p.funs)
    ≡ length (function_needs p.types (weight_in p) 0 p.funs) = rw e refl in
    let count : entry_count (weightless p) ≡ entry_count (asked_by p) = omega (arith, same) in
    h.table_is ∙ ap (λ n. owned (16 * n)) count
