-- Lists whose items name earlier items, and what an expression and a statement are beside what they name.
use Rattle.std.proofs.Common.{◌≡◌, ℕ, zero, suc, ◌+◌, ◌<◌, ◌≤◌, List, [], ◌∷◌, ◌++◌, length, get_or, take, drop, map}
use Rattle.std.proofs.Common.{Option, Some, None}
use Rattle.std.proofs.Common.{Result, Ok, Err, refl, sym, ap, ◌∙◌, arith, length-append, append_assoc}
use Rattle.std.specs.Prelude.{slice_get, slice_index_or, IfOk, OnOk}
use Rattle.std.proofs.lemmas.List.{get_or_past}
use Rattle.ck_base.specs.declared.refusal.NoMemory.{NoMemory}
use Rattle.std.proofs.Math.Seq.{get_or-append_seam}
use Rattle.std.proofs.Math.ListN.{get_or-append}
use Rattle.std.proofs.lemmas.List.{append-nil, map-append}
use Rattle.ck_base.specs.declared.positions.Pos.{Pos}
use Rattle.c_tree.specs.declared.typed.ExprKind.{ExprKind}
use Rattle.c_tree.specs.declared.typed.ExprKind.TheVariants as exprs
use Rattle.c_tree.specs.declared.typed.StmtKind.{StmtKind}
use Rattle.c_tree.specs.declared.typed.StmtKind.TheVariants as stmts
use Rattle.c_tree.specs.Types.{Ty}
use Rattle.c_tree.specs.Terms.{Shape, Form, Term, Terms, term, terms, Action, Actions, action, actions}
use Rattle.c_tree.specs.Views.{grow, forest, kind_term, term_at, kind_action}
use Rattle.c_tree.specs.Views.{operands, values, parts, listed, same_number}
use Rattle.c_copy.specs.Copying.{AllBelow, expr_shape, stmt_form, Extends}

-- ---- lists whose items name earlier items

pub grow-append : {N T : Type 0} (make : N → (ℕ → T) → T) (bad : T) (ns ms : List N) (ts : List T) →
    grow make bad (ns ++ ms) ts ≡ grow make bad ms (grow make bad ns ts)
unfolding grow
grow-append make bad [] ms ts = refl
grow-append make bad (n ∷ ns) ms ts = grow-append make bad ns ms (ts ++ make n (λ k. slice_index_or ts k bad) ∷ [])

pub length-grow : {N T : Type 0} (make : N → (ℕ → T) → T) (bad : T) (ns : List N) (ts : List T) →
    length (grow make bad ns ts) ≡ length ts + length ns
unfolding grow
length-grow make bad [] ts = omega arith
length-grow make bad (n ∷ ns) ts =
    let v = make n (λ k. slice_index_or ts k bad) in
    length-grow make bad ns (ts ++ v ∷ []) ∙ omega (arith, length-append ts (v ∷ []))

pub grow-front : {N T : Type 0} (make : N → (ℕ → T) → T) (bad : T) (ns : List N) (ts : List T) (k : ℕ) → k < length ts →
    get_or (grow make bad ns ts) k bad ≡ get_or ts k bad
unfolding grow
grow-front make bad [] ts k lt = refl
grow-front make bad (n ∷ ns) ts k lt =
    let v = make n (λ j. slice_index_or ts j bad) in
    let longer : k < length (ts ++ v ∷ []) = omega (arith, length-append ts (v ∷ [])) in
    grow-front make bad ns (ts ++ v ∷ []) k longer ∙ get_or-append ts (v ∷ []) bad k lt

one_more : {N T : Type 0} (make : N → (ℕ → T) → T) (bad : T) (x : N) (ys : List N) (ts : List T) →
    grow make bad (x ∷ ys) ts ≡ grow make bad ys (ts ++ make x (λ k. slice_index_or ts k bad) ∷ [])
unfolding grow
one_more make bad x ys ts = refl

-- an item's tree is made from the trees of those before it
pub at_seam : {N T : Type 0} (make : N → (ℕ → T) → T) (bad : T) (xs : List N) (x : N) (ys : List N) →
    get_or (forest make bad (xs ++ x ∷ ys)) (length xs) bad ≡ make x (λ k. slice_index_or (forest make bad xs) k bad)
at_seam {N} {T} make bad xs x ys =
    let ts : List T = forest make bad xs in
    let v : T = make x (λ k. slice_index_or ts k bad) in
    let l : length ts ≡ length xs = length-grow make bad xs [] ∙ omega arith in
    let lt : length ts < length (ts ++ v ∷ []) = omega (arith, length-append ts (v ∷ [])) in
    ap (λ zs. get_or zs (length xs) bad) (grow-append make bad xs (x ∷ ys) [] ∙ one_more make bad x ys ts)
    ∙ ap (λ n. get_or (grow make bad ys (ts ++ v ∷ [])) n bad) (sym l)
    ∙ grow-front make bad ys (ts ++ v ∷ []) (length ts) lt
    ∙ get_or-append_seam ts v [] bad

-- an item's tree stays as more items come
pub forest_front : {N T : Type 0} (make : N → (ℕ → T) → T) (bad : T) (xs ys : List N) (k : ℕ) → k < length xs →
    get_or (forest make bad (xs ++ ys)) k bad ≡ get_or (forest make bad xs) k bad
forest_front {N} {T} make bad xs ys k lt =
    let ts : List T = forest make bad xs in
    let l : length ts ≡ length xs = length-grow make bad xs [] ∙ omega arith in
    ap (λ zs. get_or zs k bad) (grow-append make bad xs ys []) ∙ grow-front make bad ys ts k (omega arith)

-- ---- lists

pub map_seen : {T : Type 0} (f g : ℕ → T) (ks : List ℕ) (k : ℕ) → AllBelow k ks → ((j : ℕ) → j < k → f j ≡ g j) →
    map f ks ≡ map g ks
map_seen f g [] k h e = refl
map_seen f g (a ∷ ks) k h e =
    let x = e a (h 0 a refl) in
    let y = map_seen f g ks k (λ j q i. h (suc j) q i) e in
    cc

pub extends_same : {A : Type 0} (xs : List A) → Extends xs xs
extends_same xs = ([], sym (append-nil xs))

pub extends_then : {A : Type 0} (xs ys zs : List A) → Extends xs ys → Extends ys zs → Extends xs zs
extends_then xs ys zs a b = (a.0 ++ b.0, b.1 ∙ ap (λ ws. ws ++ b.0) a.1 ∙ append_assoc xs a.0 b.0)

pub extends_push : {A : Type 0} (xs ys zs : List A) (x : A) → Extends xs ys → zs ≡ ys ++ x ∷ [] → Extends xs zs
extends_push xs ys zs x a e = extends_then xs ys zs a (x ∷ [], e)

pub longer : {A : Type 0} (new newer more : List A) (e : Extends new newer) → newer ++ more ≡ new ++ (e.0 ++ more)
longer new newer more e = ap (λ ws. ws ++ more) e.1 ∙ append_assoc new e.0 more

-- ---- nodes

pub kind_is : (ts : List Ty) (k : ExprKind) (t : Ty) (p : Pos) (go : ℕ → Term) →
    kind_term ts k t p go ≡ term (expr_shape ts k) (terms (map go (operands k))) t p
kind_is ts (exprs.Constant n) t p go = refl
kind_is ts (exprs.Literal k) t p go = refl
kind_is ts (exprs.Var k) t p go = refl
kind_is ts (exprs.Global k) t p go = refl
kind_is ts (exprs.Fun k) t p go = refl
kind_is ts (exprs.Load a) t p go = refl
kind_is ts (exprs.Decay a) t p go = refl
kind_is ts (exprs.Deref a) t p go = refl
kind_is ts (exprs.Member a k) t p go = refl
kind_is ts (exprs.Address a) t p go = refl
kind_is ts (exprs.Convert a) t p go = refl
kind_is ts (exprs.Unary o a) t p go = refl
kind_is ts (exprs.Int o a b) t p go = refl
kind_is ts (exprs.Capability o a b r) t p go = refl
kind_is ts (exprs.Plus a b m) t p go = refl
kind_is ts (exprs.Difference a b) t p go = refl
kind_is ts (exprs.Compare o a b) t p go = refl
kind_is ts (exprs.And a b) t p go = refl
kind_is ts (exprs.Or a b) t p go = refl
kind_is ts (exprs.Conditional a b c) t p go = refl
kind_is ts (exprs.Comma a b) t p go = refl
kind_is ts (exprs.Assign a b) t p go = refl
kind_is ts (exprs.Compound o a b of) t p go = refl
kind_is ts (exprs.Step a adds in_front) t p go = refl
kind_is ts (exprs.Call f xs) t p go = refl
kind_is ts (exprs.Library k xs) t p go = refl

pub two_listed : {T : Type 0} (f : ℕ → T) (a b : Option ℕ) →
    listed f a ++ listed f b ≡ map f (listed same_number a ++ listed same_number b)
two_listed f None None = refl
two_listed f None (Some b) = refl
two_listed f (Some a) None = refl
two_listed f (Some a) (Some b) = refl

pub one_listed : {T : Type 0} (f : ℕ → T) (a : Option ℕ) → listed f a ≡ map f (listed same_number a)
one_listed f None = refl
one_listed f (Some a) = refl

pub action_is : (es : List Term) (k : StmtKind) (p : Pos) (go : ℕ → Action) →
    kind_action es k p go ≡ action (stmt_form k) (terms (map (term_at es) (values k))) (actions (map go (parts k))) p
action_is es (stmts.If a x y) p go =
    ap (λ ys. action (stmt_form (stmts.If a x y)) (terms (term_at es a ∷ [])) (actions (go x ∷ ys)) p) (one_listed go y)
action_is es (stmts.For vars first a b x) p go =
    let u = two_listed (term_at es) a b in
    let v = map-append go first (x ∷ []) in
    ap (λ xs. action (stmt_form (stmts.For vars first a b x)) (terms xs) (actions (map go first ++ go x ∷ [])) p) u
    ∙ ap (λ ys. action (stmt_form (stmts.For vars first a b x))
    (terms (map (term_at es) (listed same_number a ++ listed same_number b))) (actions ys) p) (sym v)
action_is es (stmts.Return a) p go =
    ap (λ xs. action (stmt_form (stmts.Return a)) (terms xs) (actions []) p) (one_listed (term_at es) a)
action_is es _ p go = refl

pub term_same : (m n : Shape) (xs ys : Terms) (s t : Ty) (p q : Pos) → m ≡ n → xs ≡ ys → s ≡ t → p ≡ q →
    term m xs s p ≡ term n ys t q
term_same m n xs ys s t p q a b c d = cc

pub action_same : (f g : Form) (xs ys : Terms) (us ws : Actions) (p q : Pos) → f ≡ g → xs ≡ ys → us ≡ ws → p ≡ q →
    action f xs us p ≡ action g ys ws q
action_same f g xs ys us ws p q a b c d = cc

-- an item and those before it
pub split_there : {A : Type 0} (xs : List A) (k : ℕ) (x : A) → slice_get xs k ≡ Some x →
    xs ≡ take k xs ++ x ∷ drop (suc k) xs
split_there [] k x e = absurd cc
split_there (y ∷ xs) zero x e = let same : y ≡ x = cc in ap (λ z. z ∷ xs) same
split_there (y ∷ xs) (suc k) x e = ap (λ zs. y ∷ zs) (split_there xs k x e)

pub past_end : {N T : Type 0} (make : N → (ℕ → T) → T) (bad : T) (ns : List N) (k : ℕ) → length ns ≤ k →
    get_or (forest make bad ns) k bad ≡ bad
past_end make bad ns k l =
    let e : length (forest make bad ns) ≡ length ns = length-grow make bad ns [] ∙ omega arith in
    get_or_past (forest make bad ns) k bad (omega arith)

-- ---- answers

-- a number at the end of a list
pub pushed : (r : Result ℕ NoMemory) (P : ℕ → Type 0) (E : Type 0) (n : ℕ) → OnOk r E → IfOk r (λ k. k ≡ n) →
    (E → P n) → IfOk r P
pushed (Ok k) P E n e f g = rw f (g e)
pushed (Err x) P E n e f g = tt
