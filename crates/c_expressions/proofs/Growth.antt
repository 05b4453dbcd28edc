-- How the lists of nodes grow, and what they are read as.
use Rattle.std.proofs.Common.{◌≡◌, ℕ, zero, suc, ◌+◌, ◌<◌, ◌≤◌, List, [], ◌∷◌, ◌++◌, length, map, Some, refl, sym, ap}
use Rattle.std.proofs.Common.{◌∙◌, ◌⊎◌, inl, inr, ⊎_elim, arith, length-append}
use Rattle.std.specs.Prelude.{slice_get, slice_index_or}
use Rattle.std.proofs.Math.Seq.{get_or-append_seam}
use Rattle.std.proofs.Math.ListN.{get_or-append}
use Rattle.std.proofs.lemmas.List.{append-nil}
use Rattle.ck_base.specs.declared.positions.Pos.{Pos}
use Rattle.c_tree.specs.declared.typed.CType.{CType}
use Rattle.c_tree.specs.declared.typed.CType.TheVariants as ctypes
use Rattle.c_tree.specs.declared.typed.Expr.{Expr}
use Rattle.c_tree.specs.declared.typed.ExprKind.{ExprKind}
use Rattle.c_tree.specs.declared.typed.ExprKind.TheVariants as exprs
use Rattle.c_tree.specs.declared.typed.Typed.{Typed}
use Rattle.c_tree.specs.Types.{Ty}
use Rattle.c_tree.specs.Terms as tree
use Rattle.c_tree.specs.Terms.{Term, Terms, join, type_of, pos_of}
use Rattle.c_tree.specs.Views.{grow, type_from, type_at, types_of, kind_term, expr_from, terms_of, term_at, no_term}
use Rattle.c_interner.proofs.Growing.{grow-append, length-grow, type_at-longer}
use Rattle.c_interner.specs.Numbers.{AddsTypes, IsNumberOf}
use Rattle.c_types.specs.Stands.{Stands}
use Rattle.c_types.specs.declared.scopes.Scopes.{Scopes}
use Rattle.c_tree.specs.Scopes.{State}
use Rattle.c_node_facts.specs.declared.facts.Fact.{Fact}
use Rattle.c_expressions.specs.declared.nodes.Nodes.{Nodes}
use Rattle.c_node_facts.specs.Facts.{fact_of}
use Rattle.c_expressions.specs.Nodes.{IsWhole, IsTyped, KindIsTyped, Keeps, HasType, HasTerm, type_in, term_in}
use Rattle.c_expressions.specs.Nodes.{type_count}

-- ---- expressions over types

-- types that look alike where a node names them
AreAlike : List Ty → List Ty → ExprKind → Type 0
AreAlike ts us (exprs.Compound o a b of) = type_at us of ≡ type_at ts of
AreAlike ts us k = Unit {0}

kind_alike : (ts us : List Ty) (k : ExprKind) (t : Ty) (p : Pos) (go : ℕ → Term) → AreAlike ts us k →
    kind_term us k t p go ≡ kind_term ts k t p go
unfolding AreAlike
kind_alike ts us (exprs.Compound o a b of) t p go e = ap (λ u. join (tree.Compound o u) (go a) (go b) t p) e
kind_alike ts us _ t p go e = refl

expr_alike : (ts us : List Ty) (x : Expr) (go : ℕ → Term) → type_at us x.of ≡ type_at ts x.of → AreAlike ts us x.kind →
    expr_from us x go ≡ expr_from ts x go
expr_alike ts us x go e h =
    ap (λ t. kind_term us x.kind t x.pos go) e ∙ kind_alike ts us x.kind (type_at ts x.of) x.pos go h

grow-alike : (ts us : List Ty) (es : List Expr) (acc : List Term) →
    ((k : ℕ) (x : Expr) → slice_get es k ≡ Some x → (type_at us x.of ≡ type_at ts x.of) × AreAlike ts us x.kind) →
    grow (expr_from us) no_term es acc ≡ grow (expr_from ts) no_term es acc
unfolding grow
grow-alike ts us [] acc h = refl
grow-alike ts us (x ∷ es) acc h =
    let a = h 0 x refl in
    let go : ℕ → Term = λ k. slice_index_or acc k no_term in
    ap (λ y. grow (expr_from us) no_term es (acc ++ y ∷ [])) (expr_alike ts us x go a.0 a.1)
    ∙ grow-alike ts us es (acc ++ expr_from ts x go ∷ []) (λ k y g. h (suc k) y g)

typed_alike : (cs more : List CType) (k : ExprKind) → KindIsTyped (length cs) k →
    AreAlike (types_of cs) (types_of (cs ++ more)) k
unfolding AreAlike
typed_alike cs more (exprs.Compound o a b of) h = type_at-longer cs more of h
typed_alike cs more _ h = tt

-- more types leave the expressions as they are
terms-more_types : (p : Typed) (more : List CType) →
    ((k : ℕ) (x : Expr) → slice_get p.exprs k ≡ Some x → IsTyped (length p.types) k x) →
    terms_of (record p { types = p.types ++ more }) ≡ terms_of p
terms-more_types p more h =
    grow-alike (types_of p.types) (types_of (p.types ++ more)) p.exprs []
    (λ k x g. let t = h k x g in (type_at-longer p.types more x.of t.of, typed_alike p.types more x.kind t.kind))

kind_more : (m n : ℕ) (k : ExprKind) → m ≤ n → KindIsTyped m k → KindIsTyped n k
kind_more m n (exprs.Compound o a b of) le h = omega arith
kind_more m n _ le h = tt

typed_more : (m n k : ℕ) (x : Expr) → m ≤ n → IsTyped m k x → IsTyped n k x
typed_more m n k x le h = record {
  of = let f : x.of < m = h.of in omega arith;
  kind = kind_more m n x.kind le h.kind;
  before = h.before;
}

pub length-terms_of : (p : Typed) → length (terms_of p) ≡ length p.exprs
length-terms_of p = length-grow (expr_from (types_of p.types)) no_term p.exprs [] ∙ omega arith

-- more types were added, and what is declared stands still
pub record MoreTypes (n m : Nodes) (more : List CType) : Type 0 where
  pub is : m.p ≡ record n.p { types = n.p.types ++ more }
  pub stands : (s : State) → Stands n.scopes n.p s → Stands m.scopes m.p s
  pub file : m.scopes.file.now ≡ n.scopes.file.now

pub keeps_types : (n m : Nodes) (more : List CType) → IsWhole n → MoreTypes n m more → m.facts ≡ n.facts →
    m.void ≡ n.void → Keeps n m
keeps_types n m more w d f v =
    let e = d.is in
    let te : m.p.types ≡ n.p.types ++ more = ap (λ (q : Typed). q.types) e in
    let xe : m.p.exprs ≡ n.p.exprs = ap (λ (q : Typed). q.exprs) e in
    let le : type_count n ≤ type_count m = rw te (omega (arith, length-append n.p.types more)) in
    let same : (k : ℕ) → k < type_count n → type_in m k ≡ type_in n k =
    λ k h. rw te (type_at-longer n.p.types more k h) in
    let terms : terms_of m.p ≡ terms_of n.p = ap terms_of e ∙ terms-more_types n.p more w.typed in
    let vt : n.void < type_count n = w.void_there in
    record {
      whole = record {
        facts = ap (λ x. x.items) f ∙ w.facts ∙ ap (map fact_of) (sym terms);
        typed = λ k x g. typed_more (type_count n) (type_count m) k x le (w.typed k x (rw xe at g));
        void_there = rw v (omega arith);
        void = rw v (same n.void vt ∙ w.void);
      };
      more_types = le;
      more_terms = rw xe (omega arith);
      types = same;
      terms = λ k h. ap (λ xs. term_at xs k) terms;
      grows = record { types = more; exprs = []; is = rw (append-nil) e };
      stands = d.stands;
      file = d.file;
    }

pub number_has : (n m : Nodes) (k : ℕ) (c : CType) → IsWhole n → m.facts ≡ n.facts → m.void ≡ n.void →
    AddsTypes n.p m.p → IsNumberOf n.p m.p k c → ((s : State) → Stands n.scopes n.p s → Stands m.scopes m.p s) →
    m.scopes.file.now ≡ n.scopes.file.now →
    HasType n m k (type_from c (type_in n))
number_has n m k c w f v a i st fl =
    record {
      keeps = keeps_types n m a.added w (record
          { is = a.rest ∙ ap (λ ts. record n.p { types = ts }) a.types; stands = st; file = fl }) f v;
      is = record { there = i.there; is = i.is };
    }

pub added_has : (n m : Nodes) (k : ℕ) (t : Ty) → IsWhole n → m.facts ≡ n.facts → m.void ≡ n.void → AddsTypes n.p m.p →
    k < type_count m → type_in m k ≡ t → ((s : State) → Stands n.scopes n.p s → Stands m.scopes m.p s) →
    m.scopes.file.now ≡ n.scopes.file.now → HasType n m k t
added_has n m k t w f v a lt e st fl =
    record {
      keeps = keeps_types n m a.added w (record
          { is = a.rest ∙ ap (λ ts. record n.p { types = ts }) a.types; stands = st; file = fl }) f v;
      is = record { there = lt; is = e };
    }

-- ---- a new expression

-- what is declared does not look at expressions
stands-exprs : (sc : Scopes) (p : Typed) (xs : List Expr) (s : State) → Stands sc p s →
    Stands sc (record p { exprs = xs }) s
stands-exprs sc p xs s h = record {
  scopes = h.scopes;
  tags = h.tags;
  tag_types = h.tag_types;
  kinds = h.kinds;
  tagged = h.tagged;
  members = h.members;
  objects = h.objects;
  globals = h.globals;
  begun = h.begun;
  routines = h.routines;
  locals = h.locals;
  int = h.int;
  linked = h.linked;
}

stands-more : (n m : Nodes) (xs : List Expr) (s : State) → m.scopes ≡ n.scopes → m.p ≡ record n.p { exprs = xs } →
    Stands n.scopes n.p s → Stands m.scopes m.p s
stands-more n m xs s c e h = rw (c, e) (stands-exprs n.scopes n.p xs s h)

one_more : (p : Typed) (x : Expr) (ts : List Term) →
    grow (expr_from (types_of p.types)) no_term (x ∷ []) ts ≡ ts ++ expr_from (types_of p.types) x (term_at ts) ∷ []
unfolding grow
one_more p x ts = refl

terms-push : (p : Typed) (x : Expr) →
    terms_of (record p { exprs = p.exprs ++ x ∷ [] })
    ≡ terms_of p ++ expr_from (types_of p.types) x (term_at (terms_of p)) ∷ []
terms-push p x = grow-append (expr_from (types_of p.types)) no_term p.exprs (x ∷ []) [] ∙ one_more p x (terms_of p)

-- an item of a longer list
slice_get-push : {A : Type 0} (xs : List A) (y : A) (k : ℕ) (x : A) → slice_get (xs ++ y ∷ []) k ≡ Some x →
    (slice_get xs k ≡ Some x) ⊎ ((k ≡ length xs) × (x ≡ y))
slice_get-push [] y zero x e = inr (refl, cc)
slice_get-push [] y (suc k) x e = absurd cc
slice_get-push (z ∷ xs) y zero x e = inl e
slice_get-push (z ∷ xs) y (suc k) x e =
    ⊎_elim (λ a. inl a) (λ b. inr (ap suc b.0, b.1)) (slice_get-push xs y k x e)

map-push : {A B : Type 0} (f : A → B) (xs : List A) (y : A) → map f (xs ++ y ∷ []) ≡ map f xs ++ f y ∷ []
map-push f [] y = refl
map-push f (x ∷ xs) y = ap (λ zs. f x ∷ zs) (map-push f xs y)

pub add_has : (n m : Nodes) (k : ℕ) (x : Expr) (known : Fact) → IsWhole n →
    IsTyped (type_count n) (length n.p.exprs) x →
    known ≡ fact_of (expr_from (types_of n.p.types) x (term_in n)) →
    m.p ≡ record n.p { exprs = n.p.exprs ++ x ∷ [] } → m.facts.items ≡ n.facts.items ++ known ∷ [] → m.void ≡ n.void →
    k ≡ length n.p.exprs → m.scopes ≡ n.scopes →
    HasTerm n m k (expr_from (types_of n.p.types) x (term_in n))
add_has n m k x known w t h e f v z sc =
    let y : Term = expr_from (types_of n.p.types) x (term_in n) in
    let te : m.p.types ≡ n.p.types = ap (λ (q : Typed). q.types) e in
    let xe : m.p.exprs ≡ n.p.exprs ++ x ∷ [] = ap (λ (q : Typed). q.exprs) e in
    let terms : terms_of m.p ≡ terms_of n.p ++ y ∷ [] = ap terms_of e ∙ terms-push n.p x in
    let len : length (terms_of n.p) ≡ length n.p.exprs = length-terms_of n.p in
    let longer : length m.p.exprs ≡ length n.p.exprs + 1 = rw xe (length-append n.p.exprs (x ∷ [])) in
    record {
      keeps = record {
        whole = record {
          facts = f ∙ ap (λ a. a ++ known ∷ []) w.facts ∙ ap (λ a. map fact_of (terms_of n.p) ++ a ∷ []) h
              ∙ sym (map-push fact_of (terms_of n.p) y) ∙ ap (map fact_of) (sym terms);
          typed = λ j a g. rw te (⊎_elim (λ b. w.typed j a b)
              (λ b. rw (b.0, b.1) t)
              (slice_get-push n.p.exprs x j a (rw xe at g)));
          void_there = rw (v, te) w.void_there;
          void = rw (v, te) w.void;
        };
        more_types = rw te (omega arith);
        more_terms = omega arith;
        types = λ j l. rw te refl;
        terms = λ j l. rw terms (get_or-append (terms_of n.p) (y ∷ []) no_term j (rw len l));
        grows = record { types = []; exprs = x ∷ []; is = rw (append-nil) e };
        stands = λ s. stands-more n m (n.p.exprs ++ x ∷ []) s sc e;
        file = ap (λ (c : Scopes). c.file.now) sc;
      };
      is = record { there = omega arith; is = rw (terms, z, ← len) (get_or-append_seam (terms_of n.p) y [] no_term) };
    }

-- ---- no expressions

no_terms : (p : Typed) → p.exprs ≡ [] → terms_of p ≡ []
unfolding grow
no_terms p e = rw e refl

pub nothing_whole : (p : Typed) (n : Nodes) → p.exprs ≡ [] → AddsTypes p n.p → IsNumberOf p n.p n.void ctypes.Void →
    n.facts.items ≡ [] → IsWhole n
nothing_whole p n e a i f =
    let x : n.p.exprs ≡ [] = ap (λ (q : Typed). q.exprs) a.rest ∙ e in
    record {
      facts = f ∙ ap (map fact_of) (sym (no_terms n.p x));
      typed = λ k y g. absurd (nothing_at k y (rw x at g));
      void_there = i.there;
      void = i.is;
    }
  where
    nothing_at : (k : ℕ) (y : Expr) → slice_get [] k ≡ Some y → ⊥
    nothing_at k y g = cc
