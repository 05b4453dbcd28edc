-- What is known of a node, by what is known of its operands.
use Rattle.std.proofs.Common.{◌≡◌, ℕ, Bool, true, false, [], ◌∷◌, Option, Some, None, refl, sym, ap, ◌∙◌}
use Rattle.std.specs.Prelude.{◌&&◌, ◌||◌, ◌==◌, if◌then◌else◌}
use Rattle.ck_base.specs.declared.positions.Pos.{Pos}
use Rattle.c_tree.specs.Types as types
use Rattle.c_tree.specs.Types.{Ty, bare, is_integer}
use Rattle.c_tree.specs.Terms as tree
use Rattle.c_tree.specs.Terms.{Term, Terms, term, leaf, step, join, join_three, type_of}
use Rattle.c_tree.specs.Constants.{kind_of, is_constant_shape, is_constant, value_of, node_value, with_value}
use Rattle.c_tree.specs.Constants.{constant_of, is_null_constant, is_zero}
use Rattle.c_tree.specs.Conversions.{is_place, is_member}
use Rattle.c_tree.specs.Expressions.{from_plain, plain_source}
use Rattle.ck_int.specs.Kinds.{converted}
use Rattle.c_node_facts.specs.declared.facts.Fact.{Fact}
use Rattle.c_node_facts.specs.declared.facts.Evaluation.{Evaluation}
use Rattle.c_node_facts.specs.declared.facts.Conversion.{Conversion}
use Rattle.c_node_facts.specs.declared.facts.Step.{Step}
use Rattle.c_node_facts.specs.declared.facts.Step.TheVariants as steps
use Rattle.c_node_facts.specs.declared.facts.Join.{Join}
use Rattle.c_node_facts.specs.declared.facts.Join.TheVariants as joins
use Rattle.c_node_facts.specs.Facts.{fact_of, evaluation_of, step_shape, join_shape, is_plain, is_cap, IsConversion}

-- a constant, by its value and its type
abbrev null_at : Bool → Bool → Option ℕ → Bool
null_at constant integer value = is_zero (if constant && integer then value else None)

abbrev pub known : (place member plain constant : Bool) → Option ℕ → Option ℕ → Bool → Fact
known place member plain constant local value null =
    record {
      place = place;
      member = member;
      local = local;
      plain = plain;
      constant = constant;
      value = value;
      null = null;
    }

known_is : (place member plain c constant : Bool) (local v value : Option ℕ) (i integer null : Bool) → c ≡ constant →
    v ≡ value → i ≡ integer → null_at constant integer value ≡ null →
    known place member plain c local v (null_at c i v) ≡ known place member plain constant local value null
known_is place member plain c constant local v value i integer null a b d e = rw (a, b, d, e) refl

-- ---- without operands

pub leaf_known : (k : ℕ) (t : Ty) (p : Pos) →
    fact_of (leaf (tree.Literal k) t p) ≡ known true false false false None None false
unfolding constant_of is_null_constant
leaf_known k t p = refl

pub global_known : (k : ℕ) (t : Ty) (p : Pos) →
    fact_of (leaf (tree.Global k) t p) ≡ known true false false false None None false
unfolding constant_of is_null_constant
global_known k t p = refl

pub var_known : (k : ℕ) (t : Ty) (p : Pos) →
    fact_of (leaf (tree.Var k) t p) ≡ known true false false false (Some k) None false
unfolding constant_of is_null_constant
var_known k t p = refl

pub fun_known : (k : ℕ) (t : Ty) (p : Pos) →
    fact_of (leaf (tree.Fun k) t p) ≡ known false false false false None None false
unfolding constant_of is_null_constant
fun_known k t p = refl

pub constant_known : (n : ℕ) (t : Ty) (p : Pos) (e : Evaluation) (null : Bool) → evaluation_of t ≡ e →
    null ≡ null_at true e.integer (Some n) →
    fact_of (leaf (tree.Constant n) t p) ≡ known false false false true None (Some n) null
unfolding constant_of is_null_constant
constant_known n t p e null h z =
    known_is false false false true true None (Some n) (Some n) (is_integer (bare t)) e.integer null refl refl
    (ap (λ (x : Evaluation). x.integer) h) (sym z)

-- ---- with one

pub step_known : (k : Step) (x : Term) (t : Ty) (p : Pos) (a : Fact) (e : Evaluation) (place member constant : Bool)
    (value : Option ℕ) (null : Bool) →
    fact_of x ≡ a → evaluation_of t ≡ e →
    is_place (step (step_shape k) x t p) ≡ place → is_member (step (step_shape k) x t p) ≡ member →
    is_constant_shape (step_shape k) t && (a.constant && true) ≡ constant →
    node_value (step_shape k) (bare t) ((bare (type_of x), a.value) ∷ []) ≡ value →
    null ≡ null_at constant e.integer value →
    fact_of (step (step_shape k) x t p) ≡ known place member false constant None value null
unfolding constant_of is_null_constant
step_known k x t p a e place member constant value null fx ft hp hm hc hv hn =
    by_shape k
    (ap (λ (f : Fact). is_constant_shape (step_shape k) t && (f.constant && true)) fx ∙ hc)
    (ap (λ (f : Fact). node_value (step_shape k) (bare t) ((bare (type_of x), f.value) ∷ [])) fx ∙ hv)
    (ap (λ (x : Evaluation). x.integer) ft) hp hm
  where
    by_shape : (k : Step) → is_constant_shape (step_shape k) t && (is_constant x && true) ≡ constant →
        node_value (step_shape k) (bare t) ((bare (type_of x), value_of x) ∷ []) ≡ value →
        is_integer (bare t) ≡ e.integer → is_place (step (step_shape k) x t p) ≡ place →
        is_member (step (step_shape k) x t p) ≡ member →
        fact_of (step (step_shape k) x t p) ≡ known place member false constant None value null
    by_shape steps.Load c v i l m =
        rw (← l, ← m) (known_is false false false _ constant None _ value _ e.integer null c v i (sym hn))
    by_shape steps.Decay c v i l m =
        rw (← l, ← m) (known_is false false false _ constant None _ value _ e.integer null c v i (sym hn))
    by_shape steps.Deref c v i l m =
        rw (← l, ← m) (known_is true false false _ constant None _ value _ e.integer null c v i (sym hn))
    by_shape (steps.Member j) c v i l m =
        rw (← l, ← m) (known_is (is_place x) true false _ constant None _ value _ e.integer null c v i (sym hn))
    by_shape steps.Address c v i l m =
        rw (← l, ← m) (known_is false false false _ constant None _ value _ e.integer null c v i (sym hn))
    by_shape (steps.Unary o) c v i l m =
        rw (← l, ← m) (known_is false false false _ constant None _ value _ e.integer null c v i (sym hn))
    by_shape (steps.Move b d) c v i l m =
        rw (← l, ← m) (known_is false false false _ constant None _ value _ e.integer null c v i (sym hn))

plain_from : (s : Ty) (a : Bool) → plain_source s a ≡ (is_plain s || (is_cap s && a))
plain_from (types.Int k n) a = refl
plain_from (types.Cap s) a = refl
plain_from _ a = refl

from_plain_at : (x : Term) (t : Ty) (p : Pos) →
    from_plain (step tree.Convert x t p) ≡ (is_cap t
    && (is_plain (bare (type_of x)) || (is_cap (bare (type_of x)) && from_plain x)))
from_plain_at x (types.Cap s) p = plain_from (bare (type_of x)) (from_plain x)
from_plain_at x _ p = refl

pub plain_known : (c : Conversion) (x : Term) (t : Ty) (p : Pos) (a r : Bool) → from_plain x ≡ a →
    IsConversion c (type_of x) t →
    (c.to_capability && (c.from_plain || (c.from_capability && a))) ≡ r → from_plain (step tree.Convert x t p) ≡ r
plain_known c x t p a r e h z =
    from_plain_at x t p ∙ rw (h.to_capability, h.from_plain, h.from_capability, e) z

pub conversion_known : (c : Conversion) (x : Term) (t : Ty) (p : Pos) (a : Fact) (plain constant : Bool)
    (value : Option ℕ) (zero of_zero null : Bool) →
    fact_of x ≡ a → IsConversion c (type_of x) t → from_plain (step tree.Convert x t p) ≡ plain →
    c.to.integer && (a.constant && true) ≡ constant →
    with_value a.value (λ v. Some (converted c.from.kind c.to.kind v)) ≡ value →
    zero ≡ null_at constant c.to.integer value → of_zero ≡ null_at a.constant c.from.integer a.value →
    (zero || (c.to_void_pointer && of_zero)) ≡ null →
    fact_of (step tree.Convert x t p) ≡ known false false plain constant None value null
unfolding constant_of is_null_constant
conversion_known c x t p a plain constant value zero of_zero null fx h hp hc hv hz ho hn =
    let integer : is_integer (bare t) ≡ c.to.integer = ap (λ (e : Evaluation). e.integer) h.to in
    let from_integer : is_integer (bare (type_of x)) ≡ c.from.integer = ap (λ (e : Evaluation). e.integer) h.from in
    let kind : kind_of (bare t) ≡ c.to.kind = ap (λ (e : Evaluation). e.kind) h.to in
    let from_kind : kind_of (bare (type_of x)) ≡ c.from.kind = ap (λ (e : Evaluation). e.kind) h.from in
    let v : value_of x ≡ a.value = ap (λ (f : Fact). f.value) fx in
    let k : is_constant x ≡ a.constant = ap (λ (f : Fact). f.constant) fx in
    let kc : (is_integer (bare t) && (is_constant x && true)) ≡ constant = rw (integer, k) hc in
    let vc : with_value (value_of x) (λ w. Some (converted (kind_of (bare (type_of x))) (kind_of (bare t)) w)) ≡ value =
    rw (kind, from_kind, v) hv in
    let z : null_at (is_integer (bare t) && (is_constant x && true)) (is_integer (bare t))
    (with_value (value_of x) (λ w. Some (converted (kind_of (bare (type_of x))) (kind_of (bare t)) w))) ≡ zero =
    rw (kc, vc, integer) (sym hz) in
    let o : null_at (is_constant x) (is_integer (bare (type_of x))) (value_of x) ≡ of_zero =
    rw (k, from_integer, v) (sym ho) in
    rw (hp, kc, vc, integer, k, from_integer, v, ← hz, ← ho, h.to_void_pointer, hn) refl

-- ---- with two and three

pub join_known : (go : ℕ → Ty) (k : Join) (x y : Term) (t : Ty) (p : Pos) (a b : Fact) (e l : Evaluation)
    (constant : Bool) (value : Option ℕ) (null : Bool) →
    fact_of x ≡ a → fact_of y ≡ b → evaluation_of t ≡ e →
    is_constant_shape (join_shape go k) t && (a.constant && (b.constant && true)) ≡ constant →
    node_value (join_shape go k) (bare t) ((bare (type_of x), a.value) ∷ (bare (type_of y), b.value) ∷ []) ≡ value →
    null ≡ null_at constant e.integer value →
    fact_of (join (join_shape go k) x y t p) ≡ known false false false constant None value null
unfolding constant_of is_null_constant
join_known go k x y t p a b e l constant value null fx fy ft hc hv hn =
    by_shape k
    (rw (ap (λ (f : Fact). f.constant) fx, ap (λ (f : Fact). f.constant) fy) hc)
    (rw (ap (λ (f : Fact). f.value) fx, ap (λ (f : Fact). f.value) fy) hv)
    (ap (λ (x : Evaluation). x.integer) ft)
  where
    by_shape : (k : Join) → is_constant_shape (join_shape go k) t && (is_constant x && (is_constant y && true))
        ≡ constant →
        node_value (join_shape go k) (bare t) ((bare (type_of x), value_of x) ∷ (bare (type_of y), value_of y) ∷ [])
        ≡ value →
        is_integer (bare t) ≡ e.integer →
        fact_of (join (join_shape go k) x y t p) ≡ known false false false constant None value null
    by_shape (joins.Int o) c v i = known_is false false false _ constant None _ value _ e.integer null c v i (sym hn)
    by_shape _ c v i = known_is false false false _ constant None _ value _ e.integer null c v i (sym hn)

pub choice_known : (x y z : Term) (t : Ty) (p : Pos) (a b c : Fact) (e : Evaluation) (constant : Bool)
    (value : Option ℕ) (null : Bool) →
    fact_of x ≡ a → fact_of y ≡ b → fact_of z ≡ c → evaluation_of t ≡ e →
    a.constant && (b.constant && (c.constant && true)) ≡ constant →
    with_value a.value (λ v. (if v == 0 then c.value else b.value)) ≡ value →
    null ≡ null_at constant e.integer value →
    fact_of (join_three tree.Conditional x y z t p) ≡ known false false false constant None value null
unfolding constant_of is_null_constant
choice_known x y z t p a b c e constant value null fx fy fz ft hc hv hn =
    known_is false false false _ constant None _ value _ e.integer null
    (rw (ap (λ (f : Fact). f.constant) fx, ap (λ (f : Fact). f.constant) fy, ap (λ (f : Fact). f.constant) fz) hc)
    (rw (ap (λ (f : Fact). f.value) fx, ap (λ (f : Fact). f.value) fy, ap (λ (f : Fact). f.value) fz) hv)
    (ap (λ (x : Evaluation). x.integer) ft) (sym hn)

pub call_known : (xs : Terms) (t : Ty) (p : Pos) →
    fact_of (term tree.Call xs t p) ≡ known false false false false None None false
unfolding constant_of is_null_constant
call_known xs t p = refl

pub library_known : (k : ℕ) (xs : Terms) (t : Ty) (p : Pos) →
    fact_of (term (tree.Library k) xs t p) ≡ known false false false false None None false
unfolding constant_of is_null_constant
library_known k xs t p = refl
