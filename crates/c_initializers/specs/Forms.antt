-- How an address that is known before the program runs is made.
use Rattle.std.specs.Prelude.{◌≡◌, ℕ, pos, ◌<◌, List, [], Option, Some, None}
use Rattle.ck_base.specs.declared.positions.Pos.{Pos}
use Rattle.c_tree.specs.declared.typed.ExprKind.{ExprKind}
use Rattle.c_tree.specs.Types.{Ty, bare}
use Rattle.c_tree.specs.Terms.{Term, type_of}
use Rattle.c_tree.specs.Scopes.{State, All}
use Rattle.c_tree.specs.Constants.{constant_of}
use Rattle.c_tree.specs.Statics as meant
use Rattle.c_tree.specs.Statics.{Known, start_of, or_number, with_known, by_offset, member_offset, pointed_at}
use Rattle.c_tree.specs.Statics.{cast_start, summed, derived_sum}
use Rattle.c_tree.specs.Views.{kind_term, aim_of}
use Rattle.c_expressions.specs.declared.nodes.Nodes.{Nodes}
use Rattle.c_expressions.specs.Nodes.{term_in}
use Rattle.c_initializers.specs.declared.forms.Form.{Form}
use Rattle.c_initializers.specs.declared.forms.Form.TheVariants.{Whole, Entry, Member, Pointed, Same, Converted, Plus}
use Rattle.c_initializers.specs.declared.forms.Form.TheVariants.{Derived, Other}

-- what is known of an expression of a type, by what is known of its operands
abbrev pub form_start : State → (ℕ → Term) → Ty → Form → Known
form_start s go t (Whole a) = Some (meant.There (aim_of a) All (pos 0), [])
form_start s go t (Entry k) = Some (meant.Entry k, [])
form_start s go t (Member a k) =
    with_known (start_of s (go a)) (by_offset s (member_offset s (bare (type_of (go a))) k))
form_start s go t (Pointed a) = with_known (start_of s (go a)) (pointed_at s (go a))
form_start s go t (Same a) = start_of s (go a)
form_start s go t (Converted a) = cast_start (bare t) (start_of s (go a))
form_start s go t (Plus a b minus) = summed s (bare t) minus (go a, start_of s (go a)) (go b, start_of s (go b))
form_start s go t (Derived a b minus right) =
    derived_sum s minus right (go a, start_of s (go a)) (go b, start_of s (go b))
form_start s go t Other = None

-- expressions of a kind have the form
abbrev pub IsFormOf : ExprKind → Form → Type 0
IsFormOf k f =
    (s : State) (ts : List Ty) (t : Ty) (p : Pos) (go : ℕ → Term) →
    start_of s (kind_term ts k t p go) ≡ or_number (constant_of (kind_term ts k t p go)) (form_start s go t f)

-- the operands stand before an expression
abbrev pub StandsBefore : Form → ℕ → Type 0
StandsBefore (Member a k) n = a < n
StandsBefore (Pointed a) n = a < n
StandsBefore (Same a) n = a < n
StandsBefore (Converted a) n = a < n
StandsBefore (Plus a b minus) n = (a < n) × (b < n)
StandsBefore (Derived a b minus right) n = (a < n) × (b < n)
StandsBefore f n = Unit {0}

-- an expression of the list has the form
pub record IsForm (n : Nodes) (node : ℕ) (f : Form) : Type 0 where
  pub before : StandsBefore f node
  pub is : (s : State) → start_of s (term_in n node)
      ≡ or_number (constant_of (term_in n node)) (form_start s (term_in n) (type_of (term_in n node)) f)
