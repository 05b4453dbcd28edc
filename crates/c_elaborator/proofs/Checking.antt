-- Rules that begin with a test.
use Rattle.std.proofs.Common.{◌≡◌, ℕ, Bool, true, false, Option, Result, Ok, Err, refl, sym, ap, subst}
use Rattle.std.proofs.Common.{◌∙◌}
use Rattle.std.specs.Prelude.{◌&&◌, not}
use Rattle.ck_int.specs.declared.kinds.IntOp.{IntOp}
use Rattle.c_tree.specs.declared.syntax.StepOperator.{StepOperator}
use Rattle.c_operators.specs.Rules.{compound_of, stepped_of}
use Rattle.ck_base.specs.declared.positions.Pos.{Pos}
use Rattle.ck_base.specs.declared.refusal.Refusal.{Refusal}
use Rattle.c_tree.specs.Types.{Ty, bare, is_scalar, unsigned_long}
use Rattle.cap_layout.specs.Answers.{Fits, Exceeds, IsLayout}
use Rattle.cap_layout.specs.declared.answers.Layout.{Layout}
use Rattle.cap_layout.specs.declared.answers.LayoutFault.{LayoutFault}
use Rattle.cap_layout.specs.declared.answers.LayoutFault.TheVariants.{TooLarge}
use Rattle.c_tree.specs.Layout.{Extent}
use Rattle.c_tree.specs.Terms.{leaf, Constant, Term, Compound, Step, Deref, join, step}
use Rattle.c_tree.specs.Conversions as meant
use Rattle.c_tree.specs.Conversions.{operand_type}
use Rattle.c_tree.specs.Scopes.{State, Doing, need, give, ◌>>=◌, ◌>>◌, type_extent, has_extent, size}
use Rattle.c_tree.specs.Expressions.{gives, sized, compound, compounds, computed_in, right_of}
use Rattle.c_tree.specs.Expressions.{is_modifiable, stepped, increments, points_to_function, is_counted, sum, sum_of}
use Rattle.c_tree.specs.Expressions.{difference, difference_of}
use Rattle.c_types.specs.Stands.{Stands}
use Rattle.c_types.proofs.Sizing.{size_fits, size_over}
use Rattle.c_expressions.specs.declared.nodes.Nodes.{Nodes}
use Rattle.c_expressions.specs.declared.nodes.Operand.{Operand}
use Rattle.c_expressions.specs.Nodes.{HasTerm, IsType, type_in}
use Rattle.c_elaborator.specs.declared.work.Work.{Work}
use Rattle.c_elaborator.specs.Work.{Shows}
use Rattle.c_elaborator.specs.Answers.{Way, quietly, Answers, OperandThere, IsOperand}
use Rattle.c_operand_rules.specs.Complete.{sum_counted, difference_counted, compound_counted, is_sized}
use Rattle.c_elaborator.specs.Rules.{dereferencing}
use Rattle.c_elaborator.proofs.Growing.{quiet_nodes, shows_nodes}
use Rattle.c_elaborator.proofs.Sequencing.{answers_at, need_true, still_same}

-- the test holds, and the rest answers
pub checked : {A X : Type 0} (y : Way) (u v : Work) (d e : Doing A) (test : State → Bool) (code : ℕ) (place : Pos)
    (There : Work → X → Type 0) (Is : Work → X → State → A → Type 0) (r : Result X Refusal) →
    ((s : State) → d s ≡ (need (test s) code place >> e) s) → ((s : State) → Shows u s → test s ≡ true) →
    Answers y u v e There Is r → Answers y u v d There Is r
checked y u v d e test code place There Is r h t a =
    answers_at y u v d e There Is r (λ s k. h s ∙ need_true (test s) code place e s (t s k)) a

pub need_both : {B : Type 0} (x y : Bool) (code : ℕ) (p : Pos) (d : Doing B) (s : State) →
    (need x code p >> need y code p >> d) s ≡ (need (x && y) code p >> d) s
need_both true y code p d s = refl
need_both false y code p d s = refl

pub need_then : {A B : Type 0} (x : Bool) (code : ℕ) (p : Pos) (d : Doing A) (f : A → Doing B) (s : State) →
    (need x code p >> d >>= f) s ≡ (need x code p >> (d >>= f)) s
need_then true code p d f s = refl
need_then false code p d f s = refl

pub compound_checked : (o : IntOp) (a b : meant.Operand) (p : Pos) (s : State) →
    compound o a b p s ≡ (need (compound_counted s o (bare (operand_type a)) (operand_type b)) 132 a.first
    >> compound_of o a b p) s
compound_checked o a b p s =
    let t = bare (operand_type a) in
    need_then (compound_counted s o t (operand_type b)) 132 a.first
    (need (is_modifiable a.is && compounds o t (operand_type b)) 133 a.first)
    (λ x. gives (join (Compound o (computed_in o t (operand_type b))) a.is (right_of o t b.is) t p) a.first) s

pub stepped_checked : (o : StepOperator) (in_front : Bool) (a : meant.Operand) (p first : Pos) (s : State) →
    stepped o in_front a p first s ≡ (need (is_counted s (bare (operand_type a))) 132 first
    >> stepped_of o in_front a p first) s
stepped_checked o in_front a p first s =
    let t = bare (operand_type a) in
    need_then (is_counted s t) 132 first (need
    (is_modifiable a.is && is_scalar t && not (points_to_function t)) 133 first)
    (λ x. gives (step (Step (increments o) in_front) a.is t p) first) s

pub sum_checked : (a b : meant.Operand) (p : Pos) (s : State) →
    sum a b p s ≡ (need (sum_counted s (operand_type a) (operand_type b)) 132 a.first >> sum_of a b p) s
sum_checked a b p s = need_both _ _ 132 a.first (sum_of a b p) s

pub difference_checked : (a b : meant.Operand) (p : Pos) (s : State) →
    difference a b p s ≡ (need (difference_counted s (operand_type a) (operand_type b)) 132 a.first
    >> difference_of a b p) s
difference_checked a b p s = need_both _ _ 132 a.first (difference_of a b p) s

-- a new expression is answered
pub built : (w : Work) (n : Nodes) (d : Doing meant.Operand) (x : Term) (o : Operand) → HasTerm w.nodes n o.node x →
    ((s : State) → Shows w s → d s ≡ Ok ((let y : meant.Operand = record { is = x; first = o.first } in y), s)) →
    Answers quietly w (record w { nodes = n }) d OperandThere IsOperand (Ok o)
built w n d x o h e = record {
  whole = h.keeps.whole;
  grows = quiet_nodes w n h.keeps;
  there = h.is.there;
  gives = λ s t. record {
    value = record { is = x; first = o.first };
    state = s;
    is = e s t;
    stays = still_same s;
    shows = shows_nodes w n s h.keeps t;
    fits = ap (λ (z : Term). (let y : meant.Operand = record { is = z; first = o.first } in y)) (sym h.is.is);
  };
}

pub type_is : (n : Nodes) (k : ℕ) (t u : Ty) → IsType n k t → t ≡ u → IsType n k u
type_is n k t u h e = record { there = h.there; is = h.is ∙ e }

-- what is known of the types of two operands
pub two_told : (f : State → Ty → Ty → Bool) (w : Work) (s t : ℕ) (x y : Ty) (r v : Bool) → IsType w.nodes s x →
    IsType w.nodes t y →
    ((st : State) → Stands w.nodes.scopes w.nodes.p st → f st (type_in w.nodes s) (type_in w.nodes t) ≡ r) → r ≡ v →
    (st : State) → Shows w st → f st x y ≡ v
two_told f w s t x y r v h k e d st q =
    ap (λ z. f st z y) (sym h.is) ∙ ap (λ z. f st (type_in w.nodes s) z) (sym k.is) ∙ e st q.stands ∙ d

pub one_told : (f : State → Ty → Bool) (w : Work) (s : ℕ) (x : Ty) (r v : Bool) → IsType w.nodes s x →
    ((st : State) → Shows w st → f st (type_in w.nodes s) ≡ r) → r ≡ v → (st : State) → Shows w st → f st x ≡ v
one_told f w s x r v h e d st q = ap (f st) (sym h.is) ∙ e st q ∙ d

-- ---- what a pointer points to

pub dereferencing_is : (u : Ty) (x : Term) (p first : Pos) (s : State) →
    dereferencing u x p first s ≡ (need (is_sized s u) 132 first >> gives (step Deref x u p) first) s
dereferencing_is u x p first s = need_then (is_sized s u) 132 first (give u) (λ t. gives (step Deref x t p) first) s

-- ---- sizes

pub sized_is : (s : State) (t : Ty) (l : Layout) (p : Pos) → Fits (type_extent s.tags t) l →
    sized t p s ≡ gives (leaf (Constant l.size) unsigned_long p) p s
sized_is s t l p h =
    ap (λ (o : Option Extent). (need (has_extent o) 132 p >> gives (leaf (Constant (size s t)) unsigned_long p) p) s)
    h.is
    ∙ ap (λ n. gives (leaf (Constant n) unsigned_long p) p s) (size_fits _ l h)

pub sized_over : (s : State) (t : Ty) (p : Pos) (f : LayoutFault) → f ≡ TooLarge →
    IsLayout (type_extent s.tags t) (Err f) → sized t p s ≡ gives (leaf (Constant 0) unsigned_long p) p s
sized_over s t p f e l =
    let h : Exceeds (type_extent s.tags t) = subst (λ g. IsLayout (type_extent s.tags t) (Err g)) e l in
    ap (λ (o : Option Extent). (need (has_extent o) 132 p >> gives (leaf (Constant (size s t)) unsigned_long p) p) s)
    h.is
    ∙ ap (λ n. gives (leaf (Constant n) unsigned_long p) p s) (size_over _ h)
