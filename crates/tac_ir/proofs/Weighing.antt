-- The weight of a node is its own and those of the nodes that it names.
use Rattle.std.proofs.Common.{◌≡◌, ℕ, zero, suc, ◌+◌, ◌^◌, ◌<◌, ◌≤◌, List, [], ◌∷◌, ◌++◌, length, take, get_or, Some}
use Rattle.std.proofs.Common.{None, Bool, true, false, refl, sym, ap, subst, inl, inr, ◌∙◌, arith, add-one}
use Rattle.std.proofs.Common.{length-append}
use Rattle.std.specs.Prelude.{slice_get, slice_index_or, map, nat_lt}
use Rattle.std.specs.List.{sum_by}
use Rattle.std.proofs.Math.Seq.{get_or-append_seam}
use Rattle.std.proofs.Math.Nat.{eq-or-lt_of_le}
use Rattle.std.proofs.Math.ListN.{get_or-append}
use Rattle.std.proofs.lemmas.List.{map_push}
use Rattle.std.proofs.lemmas.List.Sums.{sum_by-cons}
use Rattle.std.proofs.lemmas.Bool.Decides.{nat_tests}
use Rattle.ck_base.specs.declared.positions.Pos.{Pos}
use Rattle.c_tree.specs.declared.typed.Expr.{Expr}
use Rattle.c_tree.specs.declared.typed.ExprKind.{ExprKind}
use Rattle.c_tree.specs.declared.typed.ExprKind.TheVariants as exprs
use Rattle.c_tree.specs.declared.typed.Stmt.{Stmt}
use Rattle.c_tree.specs.declared.typed.StmtKind.{StmtKind}
use Rattle.c_tree.specs.declared.typed.StmtKind.TheVariants as stmts
use Rattle.c_tree.specs.declared.typed.FunDef.{FunDef}
use Rattle.c_tree.specs.declared.typed.Typed.{Typed}
use Rattle.c_tree.specs.Types.{Ty}
use Rattle.c_tree.specs.Terms.{Term, terms, Action, actions}
use Rattle.c_tree.specs.Weight.{kind_weight, labels_of}
use Rattle.c_tree.specs.TreeWeight.{term_weight, terms_weight, action_weight, actions_weight, function_weight}
use Rattle.c_tree.specs.Views.{grow, forest, types_of, type_at, kind_term, expr_from, no_term, terms_of, term_at}
use Rattle.c_tree.specs.Views.{kind_action, stmt_from, label_of, no_action, actions_of, operands, values, parts}
use Rattle.obj_mem.specs.Needs.{weight_in}
use Rattle.tac_ir.specs.Costs.{function_cost, outgoing}
use Rattle.tac_ir.specs.Weights.{capped, expression_weight, statement_weight, before}
use Rattle.tac_ir.specs.Within.{FunctionCosts}
use Rattle.tac_ir.specs.declared.code.TacFun.{TacFun}

-- ---- sums

sum_next : (f : ℕ → ℕ) (xs : List ℕ) (i x : ℕ) → slice_get xs i ≡ Some x →
    sum_by f (take (suc i) xs) ≡ sum_by f (take i xs) + f x
sum_next f [] i x e = absurd cc
sum_next f (y ∷ xs) zero x e = let q : y ≡ x = cc in rw q (omega (arith, sum_by-cons f x []))
sum_next f (y ∷ xs) (suc i) x e =
    omega (arith, sum_by-cons f y (take (suc i) xs), sum_by-cons f y (take i xs), sum_next f xs i x e)

pub sum_one_more : (f : ℕ → ℕ) (xs : List ℕ) (i x : ℕ) → slice_get xs i ≡ Some x →
    sum_by f (take (i + 1) xs) ≡ sum_by f (take i xs) + f x
sum_one_more f xs i x e = rw add-one (sum_next f xs i x e)

pub sum_of_all : (f : ℕ → ℕ) (xs : List ℕ) (n : ℕ) → n ≡ length xs → sum_by f (take n xs) ≡ sum_by f xs
sum_of_all f [] n e = rw e refl
sum_of_all f (x ∷ xs) zero e = absurd (omega arith)
sum_of_all f (x ∷ xs) (suc n) e =
    omega (arith, sum_by-cons f x (take n xs), sum_by-cons f x xs, sum_of_all f xs n (omega arith))

-- ---- the tree of an item is made from those before it

record Made {N T : Type 0} (make : N → (ℕ → T) → T) (bad : T) (trees : List T) (k : ℕ) (n : N) : Type 0 where
  seen : List T
  until : length seen ≡ k
  same : (j : ℕ) → j < k → get_or seen j bad ≡ get_or trees j bad
  is : get_or trees k bad ≡ make n (λ j. get_or seen j bad)

stays : {N T : Type 0} (make : N → (ℕ → T) → T) (bad : T) (ns : List N) (ts : List T) (k : ℕ) → k < length ts →
    get_or (grow make bad ns ts) k bad ≡ get_or ts k bad
unfolding grow
stays make bad [] ts k lt = refl
stays make bad (n ∷ ns) ts k lt =
    let v = make n (λ j. slice_index_or ts j bad) in
    let longer : k < length (ts ++ v ∷ []) = omega (arith, length-append ts (v ∷ [])) in
    stays make bad ns (ts ++ v ∷ []) k longer ∙ get_or-append ts (v ∷ []) bad k lt

some_is : {A : Type 0} (x y : A) → Some x ≡ Some y → x ≡ y
some_is x y e = cc

made_from : {N T : Type 0} (make : N → (ℕ → T) → T) (bad : T) (ns : List N) (ts : List T) (k : ℕ) (n : N) →
    slice_get ns k ≡ Some n → Made make bad (grow make bad ns ts) (length ts + k) n
unfolding grow
made_from make bad [] ts k n e = absurd cc
made_from make bad (x ∷ ns) ts zero n e =
    let v = make x (λ j. slice_index_or ts j bad) in
    let lt : length ts < length (ts ++ v ∷ []) = omega (arith, length-append ts (v ∷ [])) in
    let z : length ts + 0 ≡ length ts = omega arith in
    let at : get_or (grow make bad ns (ts ++ v ∷ [])) (length ts) bad ≡ v =
    stays make bad ns (ts ++ v ∷ []) (length ts) lt ∙ get_or-append_seam ts v [] bad in
    record {
      seen = ts;
      until = omega arith;
      same = λ j h. sym (stays make bad ns (ts ++ v ∷ []) j (omega (arith, length-append ts (v ∷ [])))
          ∙ get_or-append ts (v ∷ []) bad j (omega arith));
      is = rw z (at ∙ ap (λ m. make m (λ j. slice_index_or ts j bad)) (some_is x n e));
    }
made_from make bad (x ∷ ns) ts (suc k) n e =
    let v = make x (λ j. slice_index_or ts j bad) in
    let r = made_from make bad ns (ts ++ v ∷ []) k n e in
    let z : length ts + suc k ≡ length (ts ++ v ∷ []) + k = omega (arith, length-append ts (v ∷ [])) in
    rw z r

made : {N T : Type 0} (make : N → (ℕ → T) → T) (bad : T) (ns : List N) (k : ℕ) (n : N) → slice_get ns k ≡ Some n →
    Made make bad (forest make bad ns) k n
made make bad ns k n e = let z : 0 + k ≡ k = omega arith in rw (← z) (made_from make bad ns [] k n e)

-- there are as many trees as items
grown : {N T : Type 0} (make : N → (ℕ → T) → T) (bad : T) (ns : List N) (ts : List T) →
    length (grow make bad ns ts) ≡ length ts + length ns
unfolding grow
grown make bad [] ts = omega arith
grown make bad (n ∷ ns) ts =
    let v = make n (λ j. slice_index_or ts j bad) in
    omega (arith, length-append ts (v ∷ []), grown make bad ns (ts ++ v ∷ []))

past : {A : Type 0} (xs : List A) (k : ℕ) (bad : A) → length xs ≤ k → get_or xs k bad ≡ bad
past [] k bad h = refl
past (x ∷ xs) zero bad h = absurd (omega arith)
past (x ∷ xs) (suc k) bad h = past xs k bad (omega arith)

none_past : {A : Type 0} (xs : List A) (k : ℕ) → slice_get xs k ≡ None → length xs ≤ k
none_past [] k e = omega arith
none_past (x ∷ xs) zero e = absurd cc
none_past (x ∷ xs) (suc k) e = omega (arith, none_past xs k e)

some_below : {A : Type 0} (xs : List A) (k : ℕ) (a : A) → slice_get xs k ≡ Some a → k < length xs
some_below [] k a e = absurd cc
some_below (x ∷ xs) zero a e = omega arith
some_below (x ∷ xs) (suc k) a e = omega (arith, some_below xs k a e)

-- ---- one node

terms_map : (go : ℕ → Term) (xs : List ℕ) → terms_weight (terms (map go xs)) ≡ sum_by (λ j. term_weight (go j)) xs
terms_map go [] = refl
terms_map go (x ∷ xs) = omega (arith, sum_by-cons (λ j. term_weight (go j)) x xs, terms_map go xs)

actions_map : (go : ℕ → Action) (xs : List ℕ) →
    actions_weight (actions (map go xs)) ≡ sum_by (λ j. action_weight (go j)) xs
actions_map go [] = refl
actions_map go (x ∷ xs) = omega (arith, sum_by-cons (λ j. action_weight (go j)) x xs, actions_map go xs)

kind_weighs : (ts : List Ty) (k : ExprKind) (t : Ty) (p : Pos) (go : ℕ → Term) →
    term_weight (kind_term ts k t p go) ≡ kind_weight k + sum_by (λ j. term_weight (go j)) (operands k)
kind_weighs ts (exprs.Constant n) t p go = omega arith
kind_weighs ts (exprs.Literal k) t p go = omega arith
kind_weighs ts (exprs.Var k) t p go = omega arith
kind_weighs ts (exprs.Global k) t p go = omega arith
kind_weighs ts (exprs.Fun k) t p go = omega arith
kind_weighs ts (exprs.Load a) t p go = omega arith
kind_weighs ts (exprs.Decay a) t p go = omega arith
kind_weighs ts (exprs.Deref a) t p go = omega arith
kind_weighs ts (exprs.Member a k) t p go = omega arith
kind_weighs ts (exprs.Address a) t p go = omega arith
kind_weighs ts (exprs.Convert a) t p go = omega arith
kind_weighs ts (exprs.Unary o a) t p go = omega arith
kind_weighs ts (exprs.Int o a b) t p go = omega arith
kind_weighs ts (exprs.Capability o a b r) t p go = omega arith
kind_weighs ts (exprs.Plus a b m) t p go = omega arith
kind_weighs ts (exprs.Difference a b) t p go = omega arith
kind_weighs ts (exprs.Compare o a b) t p go = omega arith
kind_weighs ts (exprs.And a b) t p go = omega arith
kind_weighs ts (exprs.Or a b) t p go = omega arith
kind_weighs ts (exprs.Conditional a b c) t p go = omega arith
kind_weighs ts (exprs.Comma a b) t p go = omega arith
kind_weighs ts (exprs.Assign a b) t p go = omega arith
kind_weighs ts (exprs.Compound o a b of) t p go = omega arith
kind_weighs ts (exprs.Step a adds in_front) t p go = omega arith
kind_weighs ts (exprs.Call f xs) t p go = omega (arith, sum_by-cons (λ j. term_weight (go j)) f xs, terms_map go xs)
kind_weighs ts (exprs.Library k xs) t p go = omega (arith, terms_map go xs)

abbrev value_sum : List Term → List ℕ → ℕ
value_sum es xs = sum_by (λ j. term_weight (term_at es j)) xs

abbrev part_sum : (ℕ → Action) → List ℕ → ℕ
part_sum go xs = sum_by (λ j. action_weight (go j)) xs

firsts : (go : ℕ → Action) (first : List ℕ) (x : ℕ) →
    actions_weight (actions (map go first ++ go x ∷ [])) ≡ part_sum go (first ++ x ∷ [])
firsts go first x = ap (λ xs. actions_weight (actions xs)) (sym (map_push go first x))
    ∙ actions_map go (first ++ x ∷ [])

length_map : {A B : Type 0} (f : A → B) (xs : List A) → length (map f xs) ≡ length xs
length_map f [] = refl
length_map f (x ∷ xs) = omega (arith, length_map f xs)

stmt_weighs : (es : List Term) (k : StmtKind) (p : Pos) (go : ℕ → Action) →
    action_weight (kind_action es k p go) ≡ 1 + labels_of k + value_sum es (values k) + part_sum go (parts k)
stmt_weighs es (stmts.Expr a) p go = omega arith
stmt_weighs es (stmts.Init var offset a) p go = omega arith
stmt_weighs es (stmts.Block vars body) p go = omega (arith, actions_map go body)
stmt_weighs es (stmts.If a x None) p go = omega arith
stmt_weighs es (stmts.If a x (Some y)) p go = omega arith
stmt_weighs es (stmts.While a x) p go = omega arith
stmt_weighs es (stmts.Do x a) p go = omega arith
stmt_weighs es (stmts.For vars first None None x) p go = omega (arith, firsts go first x)
stmt_weighs es (stmts.For vars first None (Some b) x) p go = omega (arith, firsts go first x)
stmt_weighs es (stmts.For vars first (Some a) None x) p go = omega (arith, firsts go first x)
stmt_weighs es (stmts.For vars first (Some a) (Some b) x) p go = omega (arith, firsts go first x)
stmt_weighs es (stmts.Switch a vars labels body) p go = omega (arith, actions_map go body, length_map label_of labels)
stmt_weighs es stmts.Break p go = omega arith
stmt_weighs es stmts.Continue p go = omega arith
stmt_weighs es (stmts.Return None) p go = omega arith
stmt_weighs es (stmts.Return (Some a)) p go = omega arith
stmt_weighs es stmts.Empty p go = omega arith

-- the values of a statement may be any expressions; its parts and the operands of an expression stand before it
swap : (f g : ℕ → ℕ) (xs : List ℕ) → ((j : ℕ) → f j ≡ g j) → sum_by f xs ≡ sum_by g xs
swap f g [] h = refl
swap f g (x ∷ xs) h = omega (arith, sum_by-cons f x xs, sum_by-cons g x xs, h x, swap f g xs h)

lt_true : (k limit : ℕ) → nat_lt k limit ≡ true → k < limit
lt_true k limit e = grind (arith, nat_tests)

lt_false : (k limit : ℕ) → nat_lt k limit ≡ false → limit ≤ k
lt_false k limit e = grind (arith, nat_tests)

pub before_true : (weight : ℕ → ℕ) (limit k : ℕ) → k < limit → before weight limit k ≡ weight k
before_true weight limit k h = grind (arith, nat_tests)

pub before_false : (weight : ℕ → ℕ) (limit k : ℕ) → limit ≤ k → before weight limit k ≡ 1
before_false weight limit k h = grind (arith, nat_tests)

before_by : (weight : ℕ → ℕ) (limit k n : ℕ) (b : Bool) → nat_lt k limit ≡ b → (k < limit → n ≡ weight k) →
    (limit ≤ k → n ≡ 1) → n ≡ before weight limit k
before_by weight limit k n true e inside outside =
    let h = lt_true k limit e in inside h ∙ sym (before_true weight limit k h)
before_by weight limit k n false e inside outside =
    let h = lt_false k limit e in outside h ∙ sym (before_false weight limit k h)

is_before : (weight : ℕ → ℕ) (limit k n : ℕ) → (k < limit → n ≡ weight k) → (limit ≤ k → n ≡ 1) →
    n ≡ before weight limit k
is_before weight limit k n inside outside = before_by weight limit k n (nat_lt k limit) refl inside outside

pub expression_node : (p : Typed) (k : ℕ) (e : Expr) → slice_get p.exprs k ≡ Some e →
    expression_weight p k ≡ kind_weight e.kind + sum_by (before (expression_weight p) k) (operands e.kind)
unfolding expression_weight
expression_node p k e g =
    let ts = types_of p.types in
    let r = made (expr_from ts) no_term p.exprs k e g in
    let go : ℕ → Term = λ j. slice_index_or r.seen j no_term in
    let w = kind_weighs ts e.kind (type_at ts e.of) e.pos go in
    let is : expression_weight p k ≡ term_weight (expr_from ts e go) = ap term_weight r.is in
    let each = swap (λ j. term_weight (go j)) (before (expression_weight p) k) (operands e.kind)
    (λ j. is_before (expression_weight p) k j (term_weight (go j)) (λ h. ap term_weight (r.same j h))
    (λ h. ap term_weight (past r.seen j no_term (omega (arith, r.until))))) in
    omega (arith, w, is, each)

pub expression_nowhere : (p : Typed) (k : ℕ) → slice_get p.exprs k ≡ None → expression_weight p k ≡ 1
unfolding expression_weight
expression_nowhere p k e =
    let n = grown (expr_from (types_of p.types)) no_term p.exprs [] in
    ap term_weight (past (terms_of p) k no_term (omega (arith, n, none_past p.exprs k e)))

pub statement_node : (p : Typed) (k : ℕ) (s : Stmt) → slice_get p.stmts k ≡ Some s →
    statement_weight p k ≡ 1 + labels_of s.kind + sum_by (expression_weight p) (values s.kind)
    + sum_by (before (statement_weight p) k) (parts s.kind)
unfolding expression_weight statement_weight
statement_node p k s g =
    let es = terms_of p in
    let r = made (stmt_from es) no_action p.stmts k s g in
    let go : ℕ → Action = λ j. slice_index_or r.seen j no_action in
    let w = stmt_weighs es s.kind s.pos go in
    let is : statement_weight p k ≡ action_weight (stmt_from es s go) = ap action_weight r.is in
    let each = swap (λ j. action_weight (go j)) (before (statement_weight p) k) (parts s.kind)
    (λ j. is_before (statement_weight p) k j (action_weight (go j)) (λ h. ap action_weight (r.same j h))
    (λ h. ap action_weight (past r.seen j no_action (omega (arith, r.until))))) in
    omega (arith, w, is, each)

pub statement_nowhere : (p : Typed) (k : ℕ) → slice_get p.stmts k ≡ None → statement_weight p k ≡ 1
unfolding statement_weight
statement_nowhere p k e =
    let n = grown (stmt_from (terms_of p)) no_action p.stmts [] in
    ap action_weight (past (actions_of p) k no_action (omega (arith, n, none_past p.stmts k e)))

-- a number past the last node names none
pub expression_within : (p : Typed) (n k : ℕ) → n ≡ length p.exprs →
    before (expression_weight p) n k ≡ expression_weight p k
unfolding expression_weight
expression_within p n k e =
    let all = grown (expr_from (types_of p.types)) no_term p.exprs [] in
    sym (is_before (expression_weight p) n k (expression_weight p k) (λ h. refl)
    (λ h. ap term_weight (past (terms_of p) k no_term (omega (arith, all)))))

pub statement_within : (p : Typed) (n k : ℕ) → n ≡ length p.stmts →
    before (statement_weight p) n k ≡ statement_weight p k
unfolding statement_weight
statement_within p n k e =
    let all = grown (stmt_from (terms_of p)) no_action p.stmts [] in
    sym (is_before (statement_weight p) n k (statement_weight p k) (λ h. refl)
    (λ h. ap action_weight (past (actions_of p) k no_action (omega (arith, all)))))

pub function_is : (p : Typed) (f : FunDef) → function_weight p f ≡ 8 + length f.vars + statement_weight p f.body
unfolding statement_weight
function_is p f = refl

-- ---- weights that 128 bits count

pub costs_counted : (w : ℕ) (f : TacFun) → FunctionCosts (capped w) f → FunctionCosts w f
costs_counted w f h = record { cost = omega (arith, h.cost); temps = omega (arith, h.temps) }

pub costs_uncounted : (w : ℕ) (f : TacFun) → function_cost f < 2 ^ 128 → f.temps + outgoing f.code < 2 ^ 128 →
    FunctionCosts w f → FunctionCosts (capped w) f
costs_uncounted w f c t h = record { cost = omega (arith, c, h.cost); temps = omega (arith, t, h.temps) }

-- of the functions up to the next
at_next : (p : Typed) (fs : List TacFun) (k : ℕ) (g : TacFun) → slice_get fs k ≡ Some g →
    FunctionCosts (weight_in p k) g → (j : ℕ) (f : TacFun) → j ≡ k → slice_get fs j ≡ Some f →
    FunctionCosts (weight_in p j) f
at_next p fs k g at new j f q e =
    let r : g ≡ f = some_is g f (sym at ∙ ap (slice_get fs) (sym q) ∙ e) in
    rw q (subst (FunctionCosts (weight_in p k)) r new)

pub one_more : (p : Typed) (fs : List TacFun) (k : ℕ) (g : TacFun) → slice_get fs k ≡ Some g →
    FunctionCosts (weight_in p k) g →
    ((j : ℕ) (f : TacFun) → j < k → slice_get fs j ≡ Some f → FunctionCosts (weight_in p j) f) → (j : ℕ) (f : TacFun) →
    j < k + 1 → slice_get fs j ≡ Some f → FunctionCosts (weight_in p j) f
one_more p fs k g at new old j f lt e =
    let le : j ≤ k = omega arith in
    elim (eq-or-lt_of_le le) [ inl q ↦ at_next p fs k g at new j f q e | inr h ↦ old j f h e ]
