-- How often numbers are named, as expressions and statements are added.
use Rattle.std.proofs.Common.{◌≡◌, ℕ, zero, suc, ◌+◌, ◌<◌, ◌≤◌, Bool, true, false, List, [], ◌∷◌, ◌++◌, length, Some}
use Rattle.std.proofs.Common.{refl, sym, ap, subst, ◌∙◌, ⊎_elim, arith, length-append, append_assoc}
use Rattle.std.specs.Prelude.{slice_get, flat_map, if◌then◌else◌, ◌==◌}
use Rattle.std.proofs.lemmas.Bool.{cases_lt, eq-eqb, eqb-true, ne_eqb}
use Rattle.std.proofs.lemmas.Grind.{flat_map-append}
use Rattle.std.proofs.lemmas.List.{append-nil}
use Rattle.std.proofs.lemmas.List.Sums.{sum_by-append, sum_by-cons}
use Rattle.std.proofs.lemmas.Option.{slice_get_within}
use Rattle.c_tree.specs.declared.typed.Expr.{Expr}
use Rattle.c_tree.specs.declared.typed.Stmt.{Stmt}
use Rattle.c_tree.specs.declared.typed.VarDef.{VarDef}
use Rattle.c_tree.specs.Views.{operands, values, parts, times_in}
use Rattle.c_copy.specs.Copying.{AllBelow}
use Rattle.c_copy.proofs.Items.{get-push}
use Rattle.c_copy.proofs.Order.{parts_push}
use Rattle.passing_nodes.specs.declared.nodes.Made.{Made}
use Rattle.passing_nodes.specs.Ordered.{operand_uses, value_uses, part_uses, Ordered, TakesIn, VarsThere}

-- ---- how often a number is named

pub counts_append : (k : ℕ) (xs ys : List ℕ) → times_in k (xs ++ ys) ≡ times_in k xs + times_in k ys
counts_append k xs ys = sum_by-append (λ j. if j == k then 1 else 0) xs ys

abbrev once_if : Bool → ℕ
once_if b = if b then 1 else 0

counts_first : (k x : ℕ) (xs : List ℕ) → times_in k (x ∷ xs) ≡ once_if (x == k) + times_in k xs
counts_first k x xs = sum_by-cons (λ j. once_if (j == k)) x xs

counts_here : (x : ℕ) (xs : List ℕ) → times_in x (x ∷ xs) ≡ 1 + times_in x xs
counts_here x xs = counts_first x x xs ∙ ap (λ b. once_if b + times_in x xs) (eq-eqb x x refl)

counts_past : (k x : ℕ) (xs : List ℕ) → (x ≡ k → ⊥) → times_in k (x ∷ xs) ≡ times_in k xs
counts_past k x xs h = counts_first k x xs ∙ ap (λ b. once_if b + times_in k xs) (ne_eqb x k h) ∙ omega arith

named : (xs : List ℕ) (j a : ℕ) → slice_get xs j ≡ Some a → 1 ≤ times_in a xs
named [] j a e = absurd cc
named (x ∷ xs) zero a e =
    let same : x ≡ a = cc in subst (λ y. 1 ≤ times_in y (x ∷ xs)) same (omega (arith, counts_here x xs))
named (x ∷ xs) (suc j) a e = let h : 1 ≤ times_in a xs = named xs j a e in omega (arith, counts_first a x xs)

there : (n k : ℕ) (xs : List ℕ) → AllBelow n xs → 1 ≤ times_in k xs → k < n
there n k [] h e = absurd (omega arith)
there n k (x ∷ xs) h e = by (x == k) refl (λ f. there n k xs (λ j a r. h (suc j) a r) f)
  where
    by : (b : Bool) → (x == k) ≡ b → (1 ≤ times_in k xs → k < n) → k < n
    by true q go = let same : x ≡ k = eqb-true x k q in let lt : x < n = h 0 x refl in omega arith
    by false q go =
        let f : times_in k (x ∷ xs) ≡ once_if false + times_in k xs =
        counts_first k x xs ∙ ap (λ b. once_if b + times_in k xs) q in
        go (omega arith)

unnamed : (n k : ℕ) (xs : List ℕ) → AllBelow n xs → n ≤ k → times_in k xs ≡ 0
unnamed n k xs h le =
    ⊎_elim (λ l. absurd (let lt : k < n = there n k xs h (omega arith) in omega arith)) (λ l. omega arith)
    (cases_lt 0 (times_in k xs))

-- numbers of which each is named no more often than by others
same_below : (n : ℕ) (xs ys : List ℕ) → AllBelow n ys → ((k : ℕ) → times_in k xs ≤ times_in k ys) → AllBelow n xs
same_below n xs ys h f = λ j a q.
    let one : 1 ≤ times_in a xs = named xs j a q in
    let le : times_in a xs ≤ times_in a ys = f a in
    there n a ys h (omega arith)

flat_unnamed : {A : Type 0} (f : A → List ℕ) (xs : List A) (k : ℕ) →
    ((j : ℕ) (x : A) → slice_get xs j ≡ Some x → times_in k (f x) ≡ 0) → times_in k (flat_map f xs) ≡ 0
flat_unnamed f [] k h = refl
flat_unnamed f (x ∷ xs) k h =
    let a : times_in k (f x) ≡ 0 = h 0 x refl in
    let b : times_in k (flat_map f xs) ≡ 0 = flat_unnamed f xs k (λ j y e. h (suc j) y e) in
    counts_append k (f x) (flat_map f xs) ∙ omega arith

flat_push : {A : Type 0} (f : A → List ℕ) (xs : List A) (x : A) (k : ℕ) →
    times_in k (flat_map f (xs ++ x ∷ [])) ≡ times_in k (flat_map f xs) + times_in k (f x)
flat_push f xs x k =
    ap (times_in k) (flat_map-append f xs (x ∷ []) ∙ ap (λ ys. flat_map f xs ++ ys) (append-nil (f x)))
    ∙ counts_append k (flat_map f xs) (f x)

-- ---- the same numbers in another order

reordered : (n : ℕ) (es : List Expr) (ss : List Stmt) (us vs xs ys : List ℕ) → Ordered n es ss us vs →
    ((k : ℕ) → times_in k xs ≡ times_in k us) → ((k : ℕ) → times_in k ys ≡ times_in k vs) → Ordered n es ss xs ys
reordered n es ss us vs xs ys h f g = record {
  typed = h.typed;
  operands = h.operands;
  values = h.values;
  parts = h.parts;
  exprs_there = same_below (length es) xs us h.exprs_there (λ k. let e = f k in omega arith);
  stmts_there = same_below (length ss) ys vs h.stmts_there (λ k. let e = g k in omega arith);
  exprs_once = λ k lt. ap (λ m. operand_uses es k + value_uses ss k + m) (f k) ∙ h.exprs_once k lt;
  stmts_once = λ k lt. ap (λ m. part_uses ss k + m) (g k) ∙ h.stmts_once k lt;
}

moved : (k x : ℕ) (xs us : List ℕ) → times_in k (xs ++ x ∷ us) ≡ times_in k (x ∷ (xs ++ us))
moved k x xs us =
    let a = counts_append k xs (x ∷ us) in
    let b = counts_first k x us in
    let c = counts_first k x (xs ++ us) in
    let d = counts_append k xs us in
    omega arith

pub expr_first : (n : ℕ) (es : List Expr) (ss : List Stmt) (x : ℕ) (xs us vs : List ℕ) →
    Ordered n es ss (xs ++ x ∷ us) vs → Ordered n es ss (x ∷ (xs ++ us)) vs
expr_first n es ss x xs us vs h =
    reordered n es ss (xs ++ x ∷ us) vs (x ∷ (xs ++ us)) vs h (λ k. sym (moved k x xs us)) (λ k. refl)

pub expr_later : (n : ℕ) (es : List Expr) (ss : List Stmt) (x : ℕ) (xs us vs : List ℕ) →
    Ordered n es ss (x ∷ (xs ++ us)) vs → Ordered n es ss ((xs ++ x ∷ []) ++ us) vs
expr_later n es ss x xs us vs h =
    subst (λ zs. Ordered n es ss zs vs) (sym (append_assoc xs (x ∷ []) us))
    (reordered n es ss (x ∷ (xs ++ us)) vs (xs ++ x ∷ us) vs h (λ k. moved k x xs us) (λ k. refl))

pub stmt_first : (n : ℕ) (es : List Expr) (ss : List Stmt) (x : ℕ) (us ys vs : List ℕ) →
    Ordered n es ss us (ys ++ x ∷ vs) → Ordered n es ss us (x ∷ (ys ++ vs))
stmt_first n es ss x us ys vs h =
    reordered n es ss us (ys ++ x ∷ vs) us (x ∷ (ys ++ vs)) h (λ k. refl) (λ k. sym (moved k x ys vs))

pub stmt_later : (n : ℕ) (es : List Expr) (ss : List Stmt) (x : ℕ) (us ys vs : List ℕ) →
    Ordered n es ss us (x ∷ (ys ++ vs)) → Ordered n es ss us ((ys ++ x ∷ []) ++ vs)
stmt_later n es ss x us ys vs h =
    subst (λ zs. Ordered n es ss us zs) (sym (append_assoc ys (x ∷ []) vs))
    (reordered n es ss us (x ∷ (ys ++ vs)) us (ys ++ x ∷ vs) h (λ k. refl) (λ k. moved k x ys vs))

-- ---- one more

first_there : (m o j : ℕ) (xs : List ℕ) → j < o → m ≤ o → AllBelow m xs → AllBelow o (j ∷ xs)
first_there m o j xs lt le g zero a r = let same : j ≡ a = cc in subst (λ z. z < o) same lt
first_there m o j xs lt le g (suc i) a r = let w : a < m = g i a r in omega arith

-- an expression, whose operands were named before, is named now
expr_pushed : (n : ℕ) (es fs : List Expr) (ss : List Stmt) (us vs : List ℕ) (d : Expr) (j : ℕ) →
    Ordered n es ss (operands d.kind ++ us) vs → fs ≡ es ++ d ∷ [] → j ≡ length es → d.of < n →
    Ordered n fs ss (j ∷ us) vs
expr_pushed n es fs ss us vs d j h e q of =
    let m = length es in
    let ops = operands d.kind in
    let f : (k : ℕ) → times_in k (ops ++ us) ≡ times_in k ops + times_in k us = λ k. counts_append k ops us in
    let l : length fs ≡ m + 1 = ap length e ∙ length-append es (d ∷ []) in
    let ops_there : AllBelow m ops = same_below m ops (ops ++ us) h.exprs_there (λ k. let z = f k in omega arith) in
    let rest_there : AllBelow m us = same_below m us (ops ++ us) h.exprs_there (λ k. let z = f k in omega arith) in
    let uses : (k : ℕ) → operand_uses fs k ≡ operand_uses es k + times_in k ops =
    λ k. ap (λ zs. operand_uses zs k) e ∙ flat_push (λ (x : Expr). operands x.kind) es d k in
    record {
      typed = λ k x g. ⊎_elim (λ a. h.typed k x a) (λ a. subst (λ (y : Expr). y.of < n) a.1 of)
          (get-push es d k x (ap (λ zs. slice_get zs k) (sym e) ∙ g));
      operands = λ k i a x g r. ⊎_elim (λ b. h.operands k i a x b r)
          (λ b. rw (b.0) (ops_there i a (ap (λ (y : Expr). slice_get (operands y.kind) i) b.1 ∙ r)))
          (get-push es d k x (ap (λ zs. slice_get zs k) (sym e) ∙ g));
      values = λ k i a s g r. let lt : a < m = h.values k i a s g r in omega arith;
      parts = h.parts;
      exprs_there = first_there m (length fs) j us (omega arith) (omega arith) rest_there;
      stmts_there = h.stmts_there;
      exprs_once = λ k lt. ⊎_elim
          (λ a.
          let z = f k in
          let u = uses k in
          let o : operand_uses es k + value_uses ss k + times_in k (ops ++ us) ≡ 1 = h.exprs_once k a in
          let b = counts_past k j us (λ x. absurd (omega arith)) in
          omega arith)
          (λ a.
          let u = uses k in
          let same : j ≡ k = omega arith in
          let b : times_in k (j ∷ us) ≡ 1 + times_in k us =
          subst (λ y. times_in y (j ∷ us) ≡ 1 + times_in y us) same (counts_here j us) in
          let none : operand_uses es k ≡ 0 =
          flat_unnamed (λ (x : Expr). operands x.kind) es k (λ i x g. unnamed i k (operands x.kind)
          (λ c y r. h.operands i c y x g r) (let w : i < m = slice_get_within es i x g in omega arith)) in
          let no_values : value_uses ss k ≡ 0 =
          flat_unnamed (λ (s : Stmt). values s.kind) ss k (λ i s g. unnamed m k (values s.kind)
          (λ c y r. h.values i c y s g r) a) in
          let no_ops : times_in k ops ≡ 0 = unnamed m k ops ops_there a in
          let no_rest : times_in k us ≡ 0 = unnamed m k us rest_there a in
          omega arith)
          (cases_lt k m);
      stmts_once = h.stmts_once;
    }

-- a statement, whose expressions and parts were named before, is named now
stmt_pushed : (n : ℕ) (es : List Expr) (ss ts : List Stmt) (us vs : List ℕ) (d : Stmt) (j : ℕ) →
    Ordered n es ss (values d.kind ++ us) (parts d.kind ++ vs) → ts ≡ ss ++ d ∷ [] → j ≡ length ss →
    Ordered n es ts us (j ∷ vs)
stmt_pushed n es ss ts us vs d j h e q =
    let m = length ss in
    let o = length es in
    let vals = values d.kind in
    let pts = parts d.kind in
    let f : (k : ℕ) → times_in k (vals ++ us) ≡ times_in k vals + times_in k us = λ k. counts_append k vals us in
    let g : (k : ℕ) → times_in k (pts ++ vs) ≡ times_in k pts + times_in k vs = λ k. counts_append k pts vs in
    let l : length ts ≡ m + 1 = ap length e ∙ length-append ss (d ∷ []) in
    let vals_there : AllBelow o vals = same_below o vals (vals ++ us) h.exprs_there (λ k. let z = f k in omega arith) in
    let rest_there : AllBelow o us = same_below o us (vals ++ us) h.exprs_there (λ k. let z = f k in omega arith) in
    let parts_there : AllBelow m pts = same_below m pts (pts ++ vs) h.stmts_there (λ k. let z = g k in omega arith) in
    let left_there : AllBelow m vs = same_below m vs (pts ++ vs) h.stmts_there (λ k. let z = g k in omega arith) in
    let value_more : (k : ℕ) → value_uses ts k ≡ value_uses ss k + times_in k vals =
    λ k. ap (λ zs. value_uses zs k) e ∙ flat_push (λ (x : Stmt). values x.kind) ss d k in
    let part_more : (k : ℕ) → part_uses ts k ≡ part_uses ss k + times_in k pts =
    λ k. ap (λ zs. part_uses zs k) e ∙ flat_push (λ (x : Stmt). parts x.kind) ss d k in
    record {
      typed = h.typed;
      operands = h.operands;
      values = λ k i a s x r. ⊎_elim (λ b. h.values k i a s b r)
          (λ b. vals_there i a (ap (λ (y : Stmt). slice_get (values y.kind) i) b.1 ∙ r))
          (get-push ss d k s (ap (λ zs. slice_get zs k) (sym e) ∙ x));
      parts = parts_push ss ts d h.parts parts_there e;
      exprs_there = rest_there;
      stmts_there = first_there m (length ts) j vs (omega arith) (omega arith) left_there;
      exprs_once = λ k lt.
          let z = f k in
          let u = value_more k in
          let c : operand_uses es k + value_uses ss k + times_in k (vals ++ us) ≡ 1 = h.exprs_once k lt in
          omega arith;
      stmts_once = λ k lt. ⊎_elim
          (λ a.
          let z = g k in
          let u = part_more k in
          let c : part_uses ss k + times_in k (pts ++ vs) ≡ 1 = h.stmts_once k a in
          let b = counts_past k j vs (λ x. absurd (omega arith)) in
          omega arith)
          (λ a.
          let u = part_more k in
          let same : j ≡ k = omega arith in
          let b : times_in k (j ∷ vs) ≡ 1 + times_in k vs =
          subst (λ y. times_in y (j ∷ vs) ≡ 1 + times_in y vs) same (counts_here j vs) in
          let none : part_uses ss k ≡ 0 =
          flat_unnamed (λ (x : Stmt). parts x.kind) ss k (λ i x w. unnamed i k (parts x.kind)
          (λ c y r. h.parts i c y x w r) (let v : i < m = slice_get_within ss i x w in omega arith)) in
          let no_parts : times_in k pts ≡ 0 = unnamed m k pts parts_there a in
          let no_left : times_in k vs ≡ 0 = unnamed m k vs left_there a in
          omega arith)
          (cases_lt k m);
    }

-- ---- variables

pub vars_push : (n : ℕ) (xs ys : List VarDef) (v : VarDef) → VarsThere n xs → v.of < n → ys ≡ xs ++ v ∷ [] →
    VarsThere n ys
vars_push n xs ys v h of e = λ k x g.
    ⊎_elim (λ a. h k x a) (λ a. subst (λ (y : VarDef). y.of < n) a.1 of)
    (get-push xs v k x (ap (λ zs. slice_get zs k) (sym e) ∙ g))

-- ---- what is made in steps

pub rest_then : (a b c : Made) → b ≡ record a { exprs = b.exprs } → c ≡ record b { exprs = c.exprs } →
    c ≡ record a { exprs = c.exprs }
rest_then a b c p q = q ∙ ap (λ (m : Made). record m { exprs = c.exprs }) p

pub in_push : (n : ℕ) (a b : Made) (d : Expr) (j : ℕ) (xs : List ℕ) → b.exprs.items ≡ a.exprs.items ++ d ∷ [] →
    b.stmts.items ≡ a.stmts.items → j ≡ length a.exprs.items → d.of < n → operands d.kind ≡ xs →
    TakesIn n a b xs [] (j ∷ []) []
in_push n a b d j xs e s q of ops = λ us vs o.
    subst (λ ss. Ordered n b.exprs.items ss (j ∷ us) vs) (sym s)
    (expr_pushed n a.exprs.items b.exprs.items a.stmts.items us vs d j
    (subst (λ zs. Ordered n a.exprs.items a.stmts.items (zs ++ us) vs) (sym ops) o) e q of)

pub in_stmt : (n : ℕ) (a b : Made) (d : Stmt) (j : ℕ) (xs ys : List ℕ) → b.stmts.items ≡ a.stmts.items ++ d ∷ [] →
    b.exprs.items ≡ a.exprs.items → j ≡ length a.stmts.items → values d.kind ≡ xs → parts d.kind ≡ ys →
    TakesIn n a b xs ys [] (j ∷ [])
in_stmt n a b d j xs ys e s q vals pts = λ us vs o.
    subst (λ es. Ordered n es b.stmts.items us (j ∷ vs)) (sym s)
    (stmt_pushed n a.exprs.items a.stmts.items b.stmts.items us vs d j
    (subst (λ zs. Ordered n a.exprs.items a.stmts.items (zs ++ us) (parts d.kind ++ vs)) (sym vals)
    (subst (λ zs. Ordered n a.exprs.items a.stmts.items (xs ++ us) (zs ++ vs)) (sym pts) o)) e q)

pub in_then : (n : ℕ) (a b c : Made) (xs ys js ks ls ms : List ℕ) → TakesIn n a b xs ys js ks →
    TakesIn n b c js ks ls ms → TakesIn n a c xs ys ls ms
in_then n a b c xs ys js ks ls ms f g = λ us vs o. g us vs (f us vs o)

-- the same lists
pub in_from : (n : ℕ) (a b c : Made) (xs ys js ks : List ℕ) → b.exprs.items ≡ a.exprs.items →
    b.stmts.items ≡ a.stmts.items → TakesIn n b c xs ys js ks → TakesIn n a c xs ys js ks
in_from n a b c xs ys js ks e s f = λ us vs o. f us vs (rw (e, s) o)

-- an expression more, and a statement more
pub in_more : (n : ℕ) (a b c : Made) (xs ys js ks ls : List ℕ) (j : ℕ) → TakesIn n a b xs ys js ks →
    TakesIn n b c [] [] (j ∷ []) [] → ls ≡ js ++ j ∷ [] → TakesIn n a c xs ys ls ks
in_more n a b c xs ys js ks ls j f g e = λ us vs o.
    subst (λ zs. Ordered n c.exprs.items c.stmts.items (zs ++ us) (ks ++ vs)) (sym e)
    (expr_later n c.exprs.items c.stmts.items j js us (ks ++ vs) (g (js ++ us) (ks ++ vs) (f us vs o)))

pub in_stmts : (n : ℕ) (a b c : Made) (xs ys js ks ls : List ℕ) (j : ℕ) → TakesIn n a b xs ys js ks →
    TakesIn n b c [] [] [] (j ∷ []) → ls ≡ ks ++ j ∷ [] → TakesIn n a c xs ys js ls
in_stmts n a b c xs ys js ks ls j f g e = λ us vs o.
    subst (λ zs. Ordered n c.exprs.items c.stmts.items (js ++ us) (zs ++ vs)) (sym e)
    (stmt_later n c.exprs.items c.stmts.items j (js ++ us) ks vs (g (js ++ us) (ks ++ vs) (f us vs o)))

-- what was named before these is named with them
pub in_first : (n : ℕ) (a b c : Made) (x : ℕ) (xs js ks : List ℕ) → TakesIn n a b [] [] xs [] →
    TakesIn n b c (x ∷ xs) [] js ks → TakesIn n a c (x ∷ []) [] js ks
in_first n a b c x xs js ks f g = λ us vs o.
    g us vs (expr_first n b.exprs.items b.stmts.items x xs us vs (f (x ∷ us) vs o))
