-- Layouts that are kept.
use Rattle.std.proofs.Common.{◌≡◌, ℕ, suc, List, length, Option, Some, None, sym, subst}
use Rattle.std.specs.Prelude.{slice_get, IfSome}
use Rattle.c_tree.specs.declared.typed.CType.{CType}
use Rattle.c_tree.specs.Layout.{Extent, extent, extent_of, extent_within}
use Rattle.c_tree.proofs.Depth.{depth_enough}
use Rattle.cap_layout.specs.Answers.{Layout, Fits, extent_is}

fits_at : (o p : Option Extent) (l : Layout) → o ≡ p → Fits p l → Fits o l
fits_at o p l e h = subst (λ q. Fits q l) (sym e) h

-- one level over the extents of a list is the extent
one_level : (types : List CType) (t : ℕ) (l : Layout) → Fits (extent_of (slice_get types t) (extent types)) l →
    Fits (extent types t) l
unfolding extent_within
one_level types t l h =
    record {
      is = depth_enough types (suc (length types)) t (extent_is l) h.is;
      size = h.size;
      positive = h.positive;
      align = h.align;
    }

-- the same of an answer that may be missing
pub all_by : (types : List CType) (t : ℕ) (o : Option Extent) (r : Option Layout) →
    extent_of (slice_get types t) (extent types) ≡ o → IfSome r (λ l. Fits o l) →
    IfSome r (λ l. Fits (extent types t) l)
all_by types t o None e h = h
all_by types t o (Some l) e h = one_level types t l (fits_at _ o l e h)
