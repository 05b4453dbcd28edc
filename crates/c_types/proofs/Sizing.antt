-- Sizes within the limit, and a member behind others.
use Rattle.std.proofs.Common.{◌≡◌, ◌<◌, ◌≤◌, Bool, true, false, Option, Some, None, Err, refl, sym, ◌∙◌}
use Rattle.std.specs.Prelude.{nat_le, if◌then◌else◌}
use Rattle.std.proofs.lemmas.Bool.{le-leb, lt-leb}
use Rattle.std.proofs.lemmas.Option.{none-some}
use Rattle.cap_layout.specs.Answers.{extent_is, Fits, Exceeds, IsLayout}
use Rattle.cap_layout.specs.declared.answers.Layout.{Layout}
use Rattle.cap_layout.specs.declared.answers.LayoutFault.{LayoutFault}
use Rattle.cap_layout.specs.declared.answers.LayoutFault.TheVariants as faults
use Rattle.c_tree.specs.Initializers.{next_within}
use Rattle.c_tree.specs.Layout.{Extent, size_limit, size_of, within}

pub size_fits : (o : Option Extent) (l : Layout) → Fits o l → size_of o ≡ l.size
size_fits o l h = rw (h.is, le-leb l.size size_limit h.size) refl

pub size_over : (o : Option Extent) → Exceeds o → size_of o ≡ 0
size_over o h = rw (h.is, lt-leb h.extent.size size_limit h.over) refl

pub size_failed : (o : Option Extent) (f : LayoutFault) → IsLayout o (Err f) → size_of o ≡ 0
size_failed o faults.TooLarge h = size_over o h
size_failed o faults.Incomplete h = rw h refl

-- ---- a member behind others

pub next_past : (x : Extent) (o : Option Extent) → size_limit < x.size → next_within x o ≡ None
next_past x o h = rw (lt-leb x.size size_limit h) refl

pub next_none : (x : Extent) → next_within x None ≡ None
next_none x = by_test (nat_le x.size size_limit)
  where
    by_test : (b : Bool) → (if b then within None else None) ≡ None
    by_test true = refl
    by_test false = refl

pub next_over : (x : Extent) (o : Option Extent) → Exceeds o → next_within x o ≡ None
next_over x o h = rw (h.is, lt-leb h.extent.size size_limit h.over) (next_none x)

pub next_failed : (x : Extent) (o : Option Extent) (f : LayoutFault) → IsLayout o (Err f) → next_within x o ≡ None
next_failed x o faults.TooLarge h = next_over x o h
next_failed x o faults.Incomplete h = rw h (next_none x)

pub next_fits : (x : Extent) (o : Option Extent) (l : Layout) → x.size ≤ size_limit → Fits o l →
    next_within x o ≡ Some (extent_is l)
next_fits x o l g h = rw (h.is, le-leb x.size size_limit g, le-leb l.size size_limit h.size) refl

pub next_stays : (x y : Extent) (o q : Option Extent) → next_within x o ≡ Some y →
    ((z : Extent) → o ≡ Some z → q ≡ Some z) → next_within x q ≡ Some y
next_stays x y None q e g = absurd (none-some y (sym (next_none x) ∙ e))
next_stays x y (Some z) q e g = rw (g z refl) e
