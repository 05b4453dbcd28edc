-- The counts of a program by which its steps are bounded, as sums over its trees. The parts of its types lie at most d
-- levels deep in one another.
use Rattle.std.specs.Prelude.{ℕ, List, sum_by, if◌then◌else◌}
use Rattle.cap_concentrate.specs.Rounding.{owned}
use Rattle.c_tree.specs.Counts.{parts}
use Rattle.c_tree.specs.Layout.{size_of}
use Rattle.c_tree.specs.Types.{Ty}
use Rattle.c_tree.specs.Terms as tree
use Rattle.c_tree.specs.Terms.{Tag, Shape, Term, term, Terms, no_terms, with_term, type_of, Form, Action, action}
use Rattle.c_tree.specs.Terms.{Variable, Routine, Program}
use Rattle.c_tree.specs.TreeLayout.{tree_extent}
use Rattle.same_programs.specs.Types.{peeled, is_tree_record}
use Rattle.same_programs.specs.Totals.{action_total}

module _ (d : ℕ) (tags : List Tag) where
  abbrev pub variable_granules : Variable → ℕ
  variable_granules v = (if v.simple then 0 else parts (owned (size_of (tree_extent d tags v.of))))

  abbrev pub routine_granules : Routine → ℕ
  routine_granules r = sum_by variable_granules r.vars

  abbrev pub tree_copied : Ty → ℕ
  tree_copied t = (if is_tree_record tags (peeled t) then parts (size_of (tree_extent d tags t)) else 0)

  abbrev pub shape_copies : Shape → Ty → ℕ
  shape_copies tree.Assign t = tree_copied t
  shape_copies tree.Conditional t = tree_copied t
  shape_copies n t = 0

  abbrev pub term_copies : Term → ℕ
  term_copies (term n xs t p) = shape_copies n t

  abbrev pub first_copies : Terms → ℕ
  first_copies no_terms = 0
  first_copies (with_term x xs) = tree_copied (type_of x)

  abbrev pub form_copies : Form → Terms → ℕ
  form_copies (tree.Init x offset) xs = first_copies xs
  form_copies f xs = 0

  abbrev pub action_copies : Action → ℕ
  action_copies (action f xs ys p) = form_copies f xs

abbrev pub tree_granules : ℕ → Program → ℕ
tree_granules d q = sum_by (routine_granules d q.tags) q.routines

abbrev pub tree_copies : ℕ → Program → ℕ
tree_copies d q =
    sum_by (λ (r : Routine). action_total (term_copies d q.tags) (action_copies d q.tags) r.body) q.routines
