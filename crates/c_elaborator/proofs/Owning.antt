-- The bytes that objects own.
use Rattle.std.proofs.Common.{◌≡◌, ℕ, Option, Some, None, refl, sym, ap, ◌∙◌}
use Rattle.std.specs.Prelude.{slice_get, if◌then◌else◌}
use Rattle.cap_concentrate.specs.Rounding.{owned}
use Rattle.cap_layout.specs.Answers.{Fits, Exceeds}
use Rattle.cap_layout.specs.declared.answers.Layout.{Layout}
use Rattle.c_tree.specs.Layout.{Extent, size_of}
use Rattle.c_tree.specs.Scopes.{State, type_extent, has_extent}
use Rattle.c_tree.specs.Statics.{static_length}
use Rattle.c_types.proofs.Sizing.{size_fits, size_over}
use Rattle.c_expressions.specs.Nodes.{type_in}
use Rattle.c_elaborator.specs.declared.work.Work.{Work}
use Rattle.c_elaborator.specs.Work.{Shows}
use Rattle.c_elaborator.proofs.Knowing.{OfObject, no_object, object_known}

-- ---- by an extent

abbrev pub owned_of : Option Extent → Option ℕ
owned_of o = (if has_extent o then Some (owned (size_of o)) else None)

complete : (o : Option Extent) (e : Extent) → o ≡ Some e → owned_of o ≡ Some (owned (size_of o))
complete o e h = ap (λ (x : Option Extent). if has_extent x then Some (owned (size_of o)) else None) h

pub owned_fits : (o : Option Extent) (l : Layout) → Fits o l → owned_of o ≡ Some (owned l.size)
owned_fits o l h = complete o _ h.is ∙ ap (λ n. Some (owned n)) (size_fits o l h)

pub owned_over : (o : Option Extent) → Exceeds o → owned_of o ≡ Some (owned 0)
owned_over o h = complete o _ h.is ∙ ap (λ n. Some (owned n)) (size_over o h)

-- ---- of an object

pub no_length : (w : Work) (k : ℕ) → OfObject w k None → (s : State) → Shows w s →
    static_length s (slice_get s.statics k) ≡ None
no_length w k o s h = ap (static_length s) (no_object w k o s h)

pub some_length : (w : Work) (k of : ℕ) → OfObject w k (Some of) → (s : State) → Shows w s →
    static_length s (slice_get s.statics k) ≡ owned_of (type_extent s.tags (type_in w.nodes of))
some_length w k of o s h =
    let g = object_known w k of of refl o s h in
    ap (static_length s) g.1 ∙ ap (λ t. owned_of (type_extent s.tags t)) (sym g.2)
