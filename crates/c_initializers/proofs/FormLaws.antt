-- How an address that is known before the program runs is made.
use Rattle.std.proofs.Common.{◌≡◌, ℕ, ◌<◌, Bool, List, get_or, Some, refl, sym, ap, subst, ◌∙◌}
use Rattle.std.specs.Prelude.{slice_get}
use Rattle.ck_base.specs.declared.positions.Pos.{Pos}
use Rattle.c_tree.specs.declared.typed.Expr.{Expr}
use Rattle.c_tree.specs.Types.{Ty, bare}
use Rattle.c_tree.specs.Terms.{Term, type_of}
use Rattle.c_tree.specs.Scopes.{State}
use Rattle.c_tree.specs.Constants.{constant_of}
use Rattle.c_tree.specs.Statics.{is_value_start, start_of, or_number, with_known, by_offset, member_offset, pointed_at}
use Rattle.c_tree.specs.Statics.{cast_start, summed, derived_sum}
use Rattle.c_tree.specs.Views.{kind_term, expr_from, types_of, no_term}
use Rattle.c_tree.proofs.Forest.{forest_reads}
use Rattle.c_expressions.specs.declared.nodes.Nodes.{Nodes}
use Rattle.c_expressions.specs.Nodes.{type_in, term_in}
use Rattle.c_expressions.proofs.Levels.{expr_shows}
use Rattle.c_initializers.specs.declared.forms.Form.{Form}
use Rattle.c_initializers.specs.declared.forms.Form.TheVariants.{Whole, Entry, Member, Pointed, Same, Converted, Plus}
use Rattle.c_initializers.specs.declared.forms.Form.TheVariants.{Derived, Other}
use Rattle.c_initializers.specs.Forms.{form_start, IsFormOf, StandsBefore, IsForm}

form_alike : (s : State) (f : Form) (n : ℕ) (seen go : ℕ → Term) (t : Ty) → StandsBefore f n →
    ((j : ℕ) → j < n → seen j ≡ go j) → form_start s seen t f ≡ form_start s go t f
form_alike s (Whole a) n seen go t b h = refl
form_alike s (Entry k) n seen go t b h = refl
form_alike s (Member a k) n seen go t b h =
    ap (λ x. with_known (start_of s x) (by_offset s (member_offset s (bare (type_of x)) k))) (h a b)
form_alike s (Pointed a) n seen go t b h = ap (λ x. with_known (start_of s x) (pointed_at s x)) (h a b)
form_alike s (Same a) n seen go t b h = ap (λ x. start_of s x) (h a b)
form_alike s (Converted a) n seen go t b h = ap (λ x. cast_start (bare t) (start_of s x)) (h a b)
form_alike s (Plus a c m) n seen go t b h =
    ap (λ x. summed s (bare t) m (x, start_of s x) (seen c, start_of s (seen c))) (h a b.0)
    ∙ ap (λ x. summed s (bare t) m (go a, start_of s (go a)) (x, start_of s x)) (h c b.1)
form_alike s (Derived a c m r) n seen go t b h =
    ap (λ x. derived_sum s m r (x, start_of s x) (seen c, start_of s (seen c))) (h a b.0)
    ∙ ap (λ x. derived_sum s m r (go a, start_of s (go a)) (x, start_of s x)) (h c b.1)
form_alike s Other n seen go t b h = refl

pub form-is : (n : Nodes) (node : ℕ) (x : Expr) (f : Form) → slice_get n.p.exprs node ≡ Some x → IsFormOf x.kind f →
    StandsBefore f node → IsForm n node f
form-is n node x f at h b =
    let r = forest_reads (expr_from (types_of n.p.types)) no_term n.p.exprs node x at in
    let seen : ℕ → Term = λ j. get_or r.seen j no_term in
    let t = type_in n x.of in
    let k = kind_term (types_of n.p.types) x.kind t x.pos seen in
    let e : term_in n node ≡ k = r.is in
    record {
      before = b;
      is = λ s.
          ap (start_of s) e ∙ h s (types_of n.p.types) t x.pos seen
          ∙ ap (or_number (constant_of k)) (form_alike s f node seen (term_in n) t b r.before
          ∙ ap (λ u. form_start s (term_in n) u f) (sym (expr_shows n node x at).0))
          ∙ ap (λ z. or_number (constant_of z) (form_start s (term_in n) (type_of (term_in n node)) f)) (sym e);
    }

pub value-is : (n : Nodes) (node : ℕ) (x : Expr) (b : Bool) → slice_get n.p.exprs node ≡ Some x →
    ((ts : List Ty) (t : Ty) (p : Pos) (go : ℕ → Term) → is_value_start (kind_term ts x.kind t p go) ≡ b) →
    is_value_start (term_in n node) ≡ b
value-is n node x b at h =
    let r = forest_reads (expr_from (types_of n.p.types)) no_term n.p.exprs node x at in
    ap is_value_start r.is ∙ h (types_of n.p.types) (type_in n x.of) x.pos (λ j. get_or r.seen j no_term)
