-- The numbers that an expression or a statement names, where its term stands.
use Rattle.std.proofs.Common.{◌≡◌, ℕ, zero, suc, ◌<◌, ◌≤◌, List, [], ◌∷◌, ◌++◌, length, get_or, take, drop, map, Some}
use Rattle.std.proofs.Common.{sym, ap, subst, ◌∙◌, ⊎_elim, arith}
use Rattle.std.proofs.Math.Path.{fun_ext}
use Rattle.std.specs.Prelude.{slice_get}
use Rattle.std.proofs.lemmas.Bool.{cases_lt}
use Rattle.std.proofs.lemmas.List.{length-take-le, get_or-take, get_or_past}
use Rattle.std.proofs.lemmas.Option.{slice_get_within}
use Rattle.c_tree.specs.declared.typed.Expr.{Expr}
use Rattle.c_tree.specs.declared.typed.Stmt.{Stmt}
use Rattle.c_tree.specs.Terms.{Shape, Form, Term, terms, term, Action, action, actions}
use Rattle.c_tree.specs.Views.{forest, type_at, expr_from, no_term, term_at, stmt_from, no_action, operands}
use Rattle.c_tree.specs.Views.{values, parts}
use Rattle.c_copy.specs.Copying.{expr_shape, stmt_form, terms_in}
use Rattle.c_copy.specs.Standing.{Stands, StandAll, ActionStands, ActionsStand, StandsIn, ActionStandsIn}
use Rattle.c_copy.proofs.Copies.{length-grow, at_seam, forest_front, split_there, past_end, kind_is, action_is}

-- ---- an item and those before it

-- it is made from those before it, and from nothing else
record MadeOf {N T : Type 0} (make : N → (ℕ → T) → T) (bad : T) (ns : List N) (k : ℕ) (n : N) : Type 0 where
  seen : List T
  is : get_or (forest make bad ns) k bad ≡ make n (λ j. get_or seen j bad)
  before : (j : ℕ) → j < k → get_or seen j bad ≡ get_or (forest make bad ns) j bad
  past : (j : ℕ) → k ≤ j → get_or seen j bad ≡ bad

made_of : {N T : Type 0} (make : N → (ℕ → T) → T) (bad : T) (ns : List N) (k : ℕ) (n : N) → slice_get ns k ≡ Some n →
    MadeOf make bad ns k n
made_of make bad ns k n e =
    let xs = take k ns in
    let ys = drop (suc k) ns in
    let whole : ns ≡ xs ++ n ∷ ys = split_there ns k n e in
    let lt : k < length ns = slice_get_within ns k n e in
    let count : length xs ≡ k = length-take-le k ns (omega arith) in
    record {
      seen = forest make bad xs;
      is = ap (λ zs. get_or (forest make bad zs) k bad) whole
          ∙ ap (λ i. get_or (forest make bad (xs ++ n ∷ ys)) i bad) (sym count) ∙ at_seam make bad xs n ys;
      before = λ j l. sym (ap (λ zs. get_or (forest make bad zs) j bad) whole
          ∙ forest_front make bad xs (n ∷ ys) j (omega arith));
      past = λ j l. past_end make bad xs j (omega arith);
    }

-- those before it are the first of all
pub made_of_front : {N T : Type 0} (make : N → (ℕ → T) → T) (bad : T) (ns : List N) (k : ℕ) (n : N) →
    slice_get ns k ≡ Some n →
    get_or (forest make bad ns) k bad ≡ make n (λ j. get_or (take k (forest make bad ns)) j bad)
made_of_front make bad ns k n e =
    let m = made_of make bad ns k n e in
    let ts = forest make bad ns in
    let count : length ts ≡ length ns = length-grow make bad ns [] ∙ omega arith in
    let long : length (take k ts) ≡ k = length-take-le k ts (omega (arith, slice_get_within ns k n e)) in
    let same : (λ (j : ℕ). get_or m.seen j bad) ≡ (λ (j : ℕ). get_or (take k ts) j bad) =
    fun_ext (λ j.
    ⊎_elim (λ lt. m.before j lt ∙ sym (get_or-take k ts j bad lt))
    (λ le. m.past j le ∙ sym (get_or_past (take k ts) j bad (omega arith))) (cases_lt j k)) in
    m.is ∙ ap (make n) same

not_past : (j k : ℕ) → (k ≤ j → ⊥) → j < k
not_past j k f = ⊎_elim (λ l. l) (λ l. absurd (f l)) (cases_lt j k)

-- ---- lists of terms

one_stands : (P : Shape → Type 0) (go : ℕ → Term) (ks : List ℕ) (j a : ℕ) → StandAll P (terms (map go ks)) →
    slice_get ks j ≡ Some a → Stands P (go a)
one_stands P go [] j a h e = absurd cc
one_stands P go (k ∷ ks) zero a h e = let same : k ≡ a = cc in subst (λ i. Stands P (go i)) same h.0
one_stands P go (k ∷ ks) (suc j) a h e = one_stands P go ks j a h.1 e

one_action : (P : Shape → Type 0) (Q : Form → Type 0) (go : ℕ → Action) (ks : List ℕ) (j a : ℕ) →
    ActionsStand P Q (actions (map go ks)) → slice_get ks j ≡ Some a → ActionStands P Q (go a)
one_action P Q go [] j a h e = absurd cc
one_action P Q go (k ∷ ks) zero a h e = let same : k ≡ a = cc in subst (λ i. ActionStands P Q (go i)) same h.0
one_action P Q go (k ∷ ks) (suc j) a h e = one_action P Q go ks j a h.1 e

no_term_stands : (P : Shape → Type 0) (x : Term) → Stands P x → x ≡ no_term → ⊥
no_term_stands P (term n xs t p) h e = h.2 e

-- ---- expressions

pub term_there : (P : Shape → Type 0) (es : List Expr) (k : ℕ) → StandsIn P es k → k < length es
term_there P es k s = not_past k (length es)
    (λ l. no_term_stands P (term_at (terms_in s.types es) k) s.stands (past_end (expr_from s.types) no_term es k l))

node_stands : (P : Shape → Type 0) (es : List Expr) (k : ℕ) (e : Expr) (s : StandsIn P es k)
    (m : MadeOf (expr_from s.types) no_term es k e) →
    Stands P (term (expr_shape s.types e.kind) (terms (map (λ j. get_or m.seen j no_term) (operands e.kind)))
    (type_at s.types e.of) e.pos)
node_stands P es k e s m =
    subst (Stands P) (m.is ∙ kind_is s.types e.kind (type_at s.types e.of) e.pos (λ j. get_or m.seen j no_term))
    s.stands

pub shape_stands : (P : Shape → Type 0) (es : List Expr) (k : ℕ) (e : Expr) (s : StandsIn P es k) →
    slice_get es k ≡ Some e → P (expr_shape s.types e.kind)
shape_stands P es k e s g = (node_stands P es k e s (made_of (expr_from s.types) no_term es k e g)).0

pub operand_stands : (P : Shape → Type 0) (es : List Expr) (k : ℕ) (e : Expr) → StandsIn P es k →
    slice_get es k ≡ Some e → (j a : ℕ) → slice_get (operands e.kind) j ≡ Some a → (a < k) × StandsIn P es a
operand_stands P es k e s g = λ j a q.
    let m = made_of (expr_from s.types) no_term es k e g in
    let h = one_stands P (λ i. get_or m.seen i no_term) (operands e.kind) j a (node_stands P es k e s m).1 q in
    let lt = not_past a k (λ l. no_term_stands P (get_or m.seen a no_term) h (m.past a l)) in
    (lt, record { types = s.types; stands = subst (Stands P) (m.before a lt) h })

-- ---- statements

body_stands : (P : Shape → Type 0) (Q : Form → Type 0) (es : List Expr) (ss : List Stmt) (k : ℕ) (x : Stmt)
    (s : ActionStandsIn P Q es ss k) (m : MadeOf (stmt_from (terms_in s.types es)) no_action ss k x) →
    ActionStands P Q (action (stmt_form x.kind) (terms (map (term_at (terms_in s.types es)) (values x.kind)))
    (actions (map (λ j. get_or m.seen j no_action) (parts x.kind))) x.pos)
body_stands P Q es ss k x s m =
    subst (ActionStands P Q) (m.is ∙ action_is (terms_in s.types es) x.kind x.pos (λ j. get_or m.seen j no_action))
    s.stands

pub form_stands : (P : Shape → Type 0) (Q : Form → Type 0) (es : List Expr) (ss : List Stmt) (k : ℕ) (x : Stmt) →
    ActionStandsIn P Q es ss k → slice_get ss k ≡ Some x → Q (stmt_form x.kind)
form_stands P Q es ss k x s g =
    (body_stands P Q es ss k x s (made_of (stmt_from (terms_in s.types es)) no_action ss k x g)).0

pub value_stands : (P : Shape → Type 0) (Q : Form → Type 0) (es : List Expr) (ss : List Stmt) (k : ℕ) (x : Stmt) →
    ActionStandsIn P Q es ss k → slice_get ss k ≡ Some x → (j a : ℕ) → slice_get (values x.kind) j ≡ Some a →
    StandsIn P es a
value_stands P Q es ss k x s g = λ j a q.
    let m = made_of (stmt_from (terms_in s.types es)) no_action ss k x g in
    record {
      types = s.types;
      stands = one_stands P (term_at (terms_in s.types es)) (values x.kind) j a (body_stands P Q es ss k x s m).1 q;
    }

pub part_stands : (P : Shape → Type 0) (Q : Form → Type 0) (es : List Expr) (ss : List Stmt) (k : ℕ) (x : Stmt) →
    ActionStandsIn P Q es ss k → slice_get ss k ≡ Some x → (j a : ℕ) → slice_get (parts x.kind) j ≡ Some a → a < k →
    ActionStandsIn P Q es ss a
part_stands P Q es ss k x s g = λ j a q lt.
    let m = made_of (stmt_from (terms_in s.types es)) no_action ss k x g in
    record {
      types = s.types;
      stands = subst (ActionStands P Q) (m.before a lt)
          (one_action P Q (λ i. get_or m.seen i no_action) (parts x.kind) j a (body_stands P Q es ss k x s m).2 q);
    }
