-- What stands in nodes that grow.
use Rattle.std.proofs.Common.{◌≡◌, ℕ, ◌<◌, Bool, true, false, [], ◌++◌, Result, Ok, Err, refl, sym, ap, subst, ◌∙◌}
use Rattle.std.proofs.Common.{arith, append_assoc}
use Rattle.std.proofs.lemmas.List.{append-nil}
use Rattle.ck_base.specs.declared.positions.Pos.{Pos}
use Rattle.c_tree.specs.declared.typed.Typed.{Typed}
use Rattle.c_tree.specs.Types.{Ty}
use Rattle.c_tree.specs.Terms.{Term}
use Rattle.c_tree.specs.Scopes.{State, Doing, need, continued, ◌>>=◌, ◌>>◌}
use Rattle.c_tree.specs.Conversions as meant
use Rattle.c_expressions.specs.declared.nodes.Nodes.{Nodes}
use Rattle.c_expressions.specs.declared.nodes.Operand.{Operand}
use Rattle.ck_base.specs.declared.refusal.Refusal.{Refusal}
use Rattle.ck_base.specs.declared.refusal.Refusal.TheVariants.{Code, NoMemory}
use Rattle.c_expressions.specs.Answers.{Given, Refuses, Answers}
use Rattle.c_expressions.specs.Nodes.{IsWhole, Keeps, Grows, IsType, IsTerm, IsOperand, HasType, HasTerm, Tells}
use Rattle.c_expressions.specs.Nodes.{operand_in}
use Rattle.c_expressions.specs.Nodes.{type_in, term_in, type_count, term_count}

same_program : (p : Typed) → p ≡ record p { types = p.types ++ []; exprs = p.exprs ++ [] }
same_program p = simp append-nil

pub keeps_same : (n : Nodes) → IsWhole n → Keeps n n
keeps_same n w = record {
  whole = w;
  more_types = omega arith;
  more_terms = omega arith;
  types = λ k h. refl;
  terms = λ k h. refl;
  grows = record { types = []; exprs = []; is = same_program n.p };
  stands = λ s h. h;
  file = refl;
}

grows_then : (p q r : Typed) → Grows p q → Grows q r → Grows p r
grows_then p q r a b = record {
  types = a.types ++ b.types;
  exprs = a.exprs ++ b.exprs;
  is = b.is ∙ ap (λ (x : Typed). record x { types = x.types ++ b.types; exprs = x.exprs ++ b.exprs }) a.is
      ∙ (simp append_assoc);
}

pub keeps_then : (a b c : Nodes) → Keeps a b → Keeps b c → Keeps a c
keeps_then a b c k l = record {
  whole = l.whole;
  more_types = let x = k.more_types in let y = l.more_types in omega arith;
  more_terms = let x = k.more_terms in let y = l.more_terms in omega arith;
  types = λ j h. let x = k.more_types in l.types j (omega arith) ∙ k.types j h;
  terms = λ j h. let x = k.more_terms in l.terms j (omega arith) ∙ k.terms j h;
  grows = grows_then a.p b.p c.p k.grows l.grows;
  stands = λ s h. l.stands s (k.stands s h);
  file = l.file ∙ k.file;
}

pub term_kept : (a b : Nodes) (j : ℕ) (x : Term) → Keeps a b → IsTerm a j x → IsTerm b j x
term_kept a b j x k h = record {
  there = let y = k.more_terms in let z = h.there in
      omega arith;
  is = k.terms j h.there ∙ h.is;
}

pub type_kept : (a b : Nodes) (j : ℕ) (t : Ty) → Keeps a b → IsType a j t → IsType b j t
type_kept a b j t k h = record {
  there = let y = k.more_types in let z = h.there in
      omega arith;
  is = k.types j h.there ∙ h.is;
}

pub term_here : (n : Nodes) (j : ℕ) → j < term_count n → IsTerm n j (term_in n j)
term_here n j h = record { there = h; is = refl }

pub type_here : (n : Nodes) (j : ℕ) → j < type_count n → IsType n j (type_in n j)
type_here n j h = record { there = h; is = refl }

pub has_type_same : (n : Nodes) (k : ℕ) (t : Ty) → IsWhole n → k < type_count n → type_in n k ≡ t → HasType n n k t
has_type_same n k t w h e = record { keeps = keeps_same n w; is = record { there = h; is = e } }

pub has_term_same : (n : Nodes) (k : ℕ) (x : Term) → IsWhole n → k < term_count n → term_in n k ≡ x → HasTerm n n k x
has_term_same n k x w h e = record { keeps = keeps_same n w; is = record { there = h; is = e } }

pub has_type_then : (a b c : Nodes) (k : ℕ) (t u : Ty) → Keeps a b → HasType b c k t → t ≡ u → HasType a c k u
has_type_then a b c k t u l h e =
    record { keeps = keeps_then a b c l h.keeps; is = record { there = h.is.there; is = h.is.is ∙ e } }

pub has_term_then : (a b c : Nodes) (k : ℕ) (x y : Term) → Keeps a b → HasTerm b c k x → x ≡ y → HasTerm a c k y
has_term_then a b c k x y l h e =
    record { keeps = keeps_then a b c l h.keeps; is = record { there = h.is.there; is = h.is.is ∙ e } }

-- ---- one and two operands

pub has_one : (f : Term → Ty → Term) (m n : Nodes) (k a of : ℕ) (x : Term) (t : Ty) →
    HasTerm m n k (f (term_in m a) (type_in m of)) → IsTerm m a x → IsType m of t → HasTerm m n k (f x t)
has_one f m n k a of x t h hx ht = record {
  keeps = h.keeps;
  is = record { there = h.is.there; is = h.is.is ∙ ap (λ y. f y (type_in m of)) hx.is ∙ ap (f x) ht.is };
}

pub has_two : (f : Term → Term → Ty → Term) (m n : Nodes) (k a b of : ℕ) (x y : Term) (t : Ty) →
    HasTerm m n k (f (term_in m a) (term_in m b) (type_in m of)) → IsTerm m a x → IsTerm m b y → IsType m of t →
    HasTerm m n k (f x y t)
has_two f m n k a b of x y t h hx hy ht = record {
  keeps = h.keeps;
  is = record {
    there = h.is.there;
    is = h.is.is ∙ ap (λ z. f z (term_in m b) (type_in m of)) hx.is
        ∙ ap (λ z. f x z (type_in m of)) hy.is ∙ ap (f x y) ht.is;
  };
}

-- ---- tests and answers

pub needed : {A : Type 0} (b : Bool) (code : ℕ) (p : Pos) (d : Doing A) (s : State) → b ≡ true →
    (need b code p >> d) s ≡ d s
needed b code p d s e = ap (λ x. (need x code p >> d) s) e

pub refused : {A : Type 0} (b : Bool) (code : ℕ) (p : Pos) (d : Doing A) → b ≡ false →
    Refuses (need b code p >> d) code p
refused b code p d e s = ap (λ x. (need x code p >> d) s) e

pub given_operand : (old new : Nodes) (d : Doing meant.Operand) (x : Term) (o : Operand) → HasTerm old new o.node x →
    ((s : State) → d s ≡ Ok (record { is = x; first = o.first }, s)) → Given old new d IsOperand o
given_operand old new d x o h e = record {
  value = record { is = x; first = o.first };
  is = e;
  keeps = h.keeps;
  shows = record { there = h.is.there; is = ap (λ y. record { is = y; first = o.first }) h.is.is };
}

pub given_term : (old new : Nodes) (d : Doing Term) (x : Term) (k : ℕ) → HasTerm old new k x →
    ((s : State) → d s ≡ Ok (x, s)) → Given old new d IsTerm k
given_term old new d x k h e = record { value = x; is = e; keeps = h.keeps; shows = h.is }

pub tells_same : (n : Nodes) (test outcome : Bool) → IsWhole n → test ≡ outcome → Tells n n test outcome
tells_same n test outcome w e = record { keeps = keeps_same n w; is = e }

-- ---- what is asked of types

pub one_type : {A : Type 0} (f : Ty → A) (n : Nodes) (s : ℕ) (t : Ty) (r v : A) → IsType n s t → f (type_in n s) ≡ r →
    r ≡ v → f t ≡ v
one_type f n s t r v h e d = ap f (sym h.is) ∙ e ∙ d

pub two_types : {A : Type 0} (f : Ty → Ty → A) (n : Nodes) (s t : ℕ) (x y : Ty) (r v : A) → IsType n s x →
    IsType n t y → f (type_in n s) (type_in n t) ≡ r → r ≡ v → f x y ≡ v
two_types f n s t x y r v h k e d = ap (λ z. f z y) (sym h.is) ∙ ap (λ z. f (type_in n s) z) (sym k.is) ∙ e ∙ d

pub two_at : {A : Type 0} (f : Ty → Ty → A) (n : Nodes) (s t : ℕ) (x y : Ty) → IsType n s x → IsType n t y →
    f (type_in n s) (type_in n t) ≡ f x y
two_at f n s t x y h k = ap (λ z. f z (type_in n t)) h.is ∙ ap (f x) k.is

pub has_term_is : (n m : Nodes) (k : ℕ) (x y : Term) → HasTerm n m k x → x ≡ y → HasTerm n m k y
has_term_is n m k x y h e = record { keeps = h.keeps; is = record { there = h.is.there; is = h.is.is ∙ e } }

pub type_is : (n : Nodes) (k : ℕ) (t u : Ty) → IsType n k t → t ≡ u → IsType n k u
type_is n k t u h e = record { there = h.there; is = h.is ∙ e }

pub has_type_is : (n m : Nodes) (k : ℕ) (t u : Ty) → HasType n m k t → t ≡ u → HasType n m k u
has_type_is n m k t u h e = record { keeps = h.keeps; is = record { there = h.is.there; is = h.is.is ∙ e } }

-- ---- nodes over nodes that are new themselves

-- over one operand, with a new type
pub typed_step : (f : Term → Ty → Term) (a b c : Nodes) (x of node : ℕ) (t : Ty) → x < term_count a → HasType a b of t →
    HasTerm b c node (f (term_in b x) (type_in b of)) → HasTerm a c node (f (term_in a x) t)
typed_step f a b c x of node t lt h k =
    has_term_then a b c node _ _ h.keeps (has_one f b c node x of (term_in a x) t k
    (term_kept a b x (term_in a x) h.keeps (term_here a x lt)) h.is) refl

-- over two
pub typed_join : (f : Term → Term → Ty → Term) (a b c : Nodes) (x y of node : ℕ) (t : Ty) → x < term_count a →
    y < term_count a → HasType a b of t → HasTerm b c node (f (term_in b x) (term_in b y) (type_in b of)) →
    HasTerm a c node (f (term_in a x) (term_in a y) t)
typed_join f a b c x y of node t lx ly h k =
    has_term_then a b c node _ _ h.keeps
    (has_two f b c node x y of (term_in a x) (term_in a y) t k
    (term_kept a b x (term_in a x) h.keeps (term_here a x lx))
    (term_kept a b y (term_in a y) h.keeps (term_here a y ly)) h.is) refl

-- over one operand that was converted
pub converted_step : (f : Term → Ty → Term) (g : Ty → Term → Term) (a b c d : Nodes) (x of operand node : ℕ) (t : Ty) →
    x < term_count a → HasType a b of t →
    HasTerm b c operand (g (type_in b of) (term_in b x)) → HasTerm c d node (f (term_in c operand) (type_in c of)) →
    HasTerm a d node (f (g t (term_in a x)) t)
converted_step f g a b c d x of operand node t lt h k l =
    let o = has_one (λ y u. g u y) b c operand x of (term_in a x) t k
    (term_kept a b x (term_in a x) h.keeps (term_here a x lt)) h.is in
    has_term_then a c d node _ _ (keeps_then a b c h.keeps k.keeps)
    (has_one f c d node operand of (g t (term_in a x)) t l o.is (type_kept b c of t k.keeps h.is)) refl

-- over two
pub converted_join : (f : Term → Term → Ty → Term) (g h : Ty → Term → Term) (a b c d e : Nodes)
    (x y of left right node : ℕ) (t : Ty) → x < term_count a → y < term_count a → HasType a b of t →
    HasTerm b c left (g (type_in b of) (term_in b x)) → HasTerm c d right (h (type_in c of) (term_in c y)) →
    HasTerm d e node (f (term_in d left) (term_in d right) (type_in d of)) →
    HasTerm a e node (f (g t (term_in a x)) (h t (term_in a y)) t)
converted_join f g h a b c d e x y of left right node t lx ly ht hl hr hn =
    let u = term_in a x in
    let v = term_in a y in
    let ac = keeps_then a b c ht.keeps hl.keeps in
    let tc = type_kept b c of t hl.keeps ht.is in
    let l = has_one (λ z w. g w z) b c left x of u t hl (term_kept a b x u ht.keeps (term_here a x lx)) ht.is in
    let r = has_one (λ z w. h w z) c d right y of v t hr (term_kept a c y v ac (term_here a y ly)) tc in
    has_term_then a d e node _ _ (keeps_then a c d ac hr.keeps)
    (has_two f d e node left right of (g t u) (h t v) t hn (term_kept c d left (g t u) hr.keeps l.is) r.is
    (type_kept c d of t hr.keeps tc)) refl

-- over two, the second of which is new, with a type that was there
pub join_right : (f : Term → Term → Term) (a b c : Nodes) (x right node : ℕ) (v : Term) → x < term_count a →
    HasTerm a b right v → HasTerm b c node (f (term_in b x) (term_in b right)) → HasTerm a c node (f (term_in a x) v)
join_right f a b c x right node v lt h k =
    has_term_then a b c node _ _ h.keeps k (ap (λ y. f y (term_in b right)) (h.keeps.terms x lt)
    ∙ ap (f (term_in a x)) h.is.is)

-- over two, the first of which is new
pub join_left : (f : Term → Term → Term) (a b c : Nodes) (x left node : ℕ) (v : Term) → x < term_count a →
    HasTerm a b left v → HasTerm b c node (f (term_in b left) (term_in b x)) → HasTerm a c node (f v (term_in a x))
join_left f a b c x left node v lt h k =
    has_term_then a b c node _ _ h.keeps k (ap (λ y. f y (term_in b x)) h.is.is ∙ ap (f v) (h.keeps.terms x lt))

pub typed_right : (f : Term → Term → Ty → Term) (a b c : Nodes) (x right node of : ℕ) (v : Term) (t : Ty) →
    x < term_count a → IsType a of t → HasTerm a b right v →
    HasTerm b c node (f (term_in b x) (term_in b right) (type_in b of)) → HasTerm a c node (f (term_in a x) v t)
typed_right f a b c x right node of v t lt ht h k =
    join_right (λ y z. f y z t) a b c x right node v lt h
    (has_term_is b c node _ _ k (ap (f (term_in b x) (term_in b right)) (h.keeps.types of ht.there ∙ ht.is)))

pub typed_left : (f : Term → Term → Ty → Term) (a b c : Nodes) (x left node of : ℕ) (v : Term) (t : Ty) →
    x < term_count a → IsType a of t → HasTerm a b left v →
    HasTerm b c node (f (term_in b left) (term_in b x) (type_in b of)) → HasTerm a c node (f v (term_in a x) t)
typed_left f a b c x left node of v t lt ht h k =
    join_left (λ y z. f y z t) a b c x left node v lt h
    (has_term_is b c node _ _ k (ap (f (term_in b left) (term_in b x)) (h.keeps.types of ht.there ∙ ht.is)))

-- with another type, made before
pub computed_right : (f : Ty → Term → Term → Ty → Term) (g : Ty → Term → Term) (a b c d : Nodes)
    (of s x y right node : ℕ) (u t : Ty) → x < term_count a → y < term_count a → IsType a s t → HasType a b of u →
    HasTerm b c right (g (type_in b s) (term_in b y)) →
    HasTerm c d node (f (type_in c of) (term_in c x) (term_in c right) (type_in c s)) →
    HasTerm a d node (f u (term_in a x) (g t (term_in a y)) t)
computed_right f g a b c d of s x y right node u t lx ly hs ho hr hn =
    let ts = type_kept a b s t ho.keeps hs in
    let r = has_one (λ z w. g w z) b c right y s (term_in a y) t hr
    (term_kept a b y (term_in a y) ho.keeps (term_here a y ly)) ts in
    let xs = term_kept a c x (term_in a x) (keeps_then a b c ho.keeps hr.keeps) (term_here a x lx) in
    let oc = type_kept b c of u hr.keeps ho.is in
    let sc = type_kept b c s t hr.keeps ts in
    has_term_then a c d node _ _ (keeps_then a b c ho.keeps hr.keeps) hn
    (ap (λ z. f z (term_in c x) (term_in c right) (type_in c s)) oc.is
    ∙ ap (λ z. f u z (term_in c right) (type_in c s)) xs.is
    ∙ ap (λ z. f u (term_in a x) z (type_in c s)) r.is.is ∙ ap (f u (term_in a x) (g t (term_in a y))) sc.is)

-- ---- answers

pub operand_kept : (n m : Nodes) (a : Operand) → Keeps n m → a.node < term_count n → operand_in m a ≡ operand_in n a
operand_kept n m a k lt = ap (λ x. record { is = x; first = a.first }) (k.terms a.node lt)

pub answers_is : {A X : Type 0} (n m : Nodes) (d e : Doing A) (Shows : Nodes → X → A → Type 0) (r : Result X Refusal) →
    e ≡ d → Answers n m d Shows r → Answers n m e Shows r
answers_is n m d e Shows r h x = subst (λ f. Answers n m f Shows r) (sym h) x

pub answers_after : {A X : Type 0} (n m l : Nodes) (d : Doing A) (Shows : Nodes → X → A → Type 0)
    (r : Result X Refusal) → Keeps n m → Answers m l d Shows r → Answers n l d Shows r
answers_after n m l d Shows (Ok x) k h =
    record { value = h.value; is = h.is; keeps = keeps_then n m l k h.keeps; shows = h.shows }
answers_after n m l d Shows (Err (Code c p)) k h = h
answers_after n m l d Shows (Err NoMemory) k h = tt

pub answers_two_after : (D : meant.Operand → meant.Operand → Doing meant.Operand) (n m l : Nodes) (a b : Operand)
    (r : Result Operand Refusal) → Keeps n m → a.node < term_count n → b.node < term_count n →
    Answers m l (D (operand_in m a) (operand_in m b)) IsOperand r →
    Answers n l (D (operand_in n a) (operand_in n b)) IsOperand r
answers_two_after D n m l a b r k la lb h =
    answers_after n m l _ IsOperand r k (answers_is m l _ _ IsOperand r
    (ap (λ x. D x (operand_in n b)) (sym (operand_kept n m a k la))
    ∙ ap (D (operand_in m a)) (sym (operand_kept n m b k lb))) h)

-- a step that refuses, within a longer one that refuses where this one does
pub answers_err : {A B X Y : Type 0} (n m k l : Nodes) (d : Doing A) (e : Doing B) (S : Nodes → X → A → Type 0)
    (T : Nodes → Y → B → Type 0) (r : Refusal) →
    ((code : ℕ) (p : Pos) → Refuses d code p → Refuses e code p) → Answers n m d S (Err r) → Answers k l e T (Err r)
answers_err n m k l d e S T (Code c p) f h = f c p h
answers_err n m k l d e S T NoMemory f h = tt

pub bind_refuses : {A B : Type 0} (d : Doing A) (f : A → Doing B) (code : ℕ) (p : Pos) → Refuses d code p →
    Refuses (d >>= f) code p
bind_refuses d f code p h s = ap (λ r. continued r f) (h s)

pub bind_gives : {A B : Type 0} (d : Doing A) (f : A → Doing B) (v : A) (s : State) → d s ≡ Ok (v, s) →
    (d >>= f) s ≡ f v s
bind_gives d f v s h = ap (λ r. continued r f) h

-- a choice between two operands that were converted
pub choice_join : (f : Term → Term → Term → Ty → Term) (g : Ty → Term → Term) (a b c d : Nodes)
    (x y z of left right node : ℕ) → x < term_count a → y < term_count a → z < term_count a → of < type_count a →
    HasTerm a b left (g (type_in a of) (term_in a y)) → HasTerm b c right (g (type_in b of) (term_in b z)) →
    HasTerm c d node (f (term_in c x) (term_in c left) (term_in c right) (type_in c of)) →
    HasTerm a d node (f (term_in a x) (g (type_in a of) (term_in a y)) (g (type_in a of) (term_in a z)) (type_in a of))
choice_join f g a b c d x y z of left right node lx ly lz lo hl hr hn =
    let t = type_in a of in
    let ac = keeps_then a b c hl.keeps hr.keeps in
    let r = has_one (λ u v. g v u) b c right z of (term_in a z) t hr
    (term_kept a b z (term_in a z) hl.keeps (term_here a z lz))
    (type_kept a b of t hl.keeps (type_here a of lo)) in
    let xs = term_kept a c x (term_in a x) ac (term_here a x lx) in
    let ls = term_kept b c left (g t (term_in a y)) hr.keeps hl.is in
    let ts = type_kept a c of t ac (type_here a of lo) in
    has_term_then a c d node _ _ ac hn
    (ap (λ u. f u (term_in c left) (term_in c right) (type_in c of)) xs.is
    ∙ ap (λ u. f (term_in a x) u (term_in c right) (type_in c of)) ls.is
    ∙ ap (λ u. f (term_in a x) (g t (term_in a y)) u (type_in c of)) r.is.is
    ∙ ap (f (term_in a x) (g t (term_in a y)) (g t (term_in a z))) ts.is)
