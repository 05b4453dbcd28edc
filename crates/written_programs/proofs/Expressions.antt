-- Expressions are written behind their operands, each used once.
use Rattle.std.proofs.Common.{◌≡◌, ℕ, suc, ◌+◌, ◌<◌, List, [], ◌∷◌, ◌++◌, length, map, Some, refl, sym, ap, ◌∙◌, arith}
use Rattle.std.proofs.Common.{subst, length-append, append_assoc}
use Rattle.std.specs.Prelude.{slice_get, flat_map}
use Rattle.std.proofs.lemmas.List.{append-nil}
use Rattle.std.proofs.lemmas.List.Concat.{flat_map-append}
use Rattle.std.proofs.lemmas.List.Sums.{sum_by-append}
use Rattle.c_tree.specs.declared.typed.CType.{CType}
use Rattle.c_tree.specs.declared.typed.Expr.{Expr}
use Rattle.c_tree.specs.declared.typed.ExprKind.{ExprKind}
use Rattle.c_tree.specs.declared.typed.ExprKind.TheVariants as exprs
use Rattle.c_tree.specs.Types.{Ty}
use Rattle.c_tree.specs.Terms as tree
use Rattle.c_tree.specs.Terms.{Shape, Term, Terms, term, terms, no_terms, with_term}
use Rattle.c_tree.specs.Views.{types_of, type_at, expr_from, no_term, term_at, operands, times_in}
use Rattle.c_copy.specs.Copying.{Extends, expr_shape, terms_in}
use Rattle.c_copy.proofs.Copies.{at_seam, extends_same, extends_then, extends_push, kind_is, term_same}
use Rattle.written_programs.specs.Writable.{Every, HasOperands, AreWhole, shape_types, term_types, all_term_types}
use Rattle.written_programs.proofs.Lists.{every_split, push_each, under, is_one, under_more, times_cons}
use Rattle.written_programs.proofs.Types.{Has}

-- ---- a node

record KindOf (ts : List Ty) (n : Shape) (ks : List ℕ) : Type 0 where
  pub kind : ExprKind
  pub shape : expr_shape ts kind ≡ n
  pub operands : operands kind ≡ ks

made : (ts : List Ty) (kind : ExprKind) → KindOf ts (expr_shape ts kind) (operands kind)
made ts kind = record { kind = kind; shape = refl; operands = refl }

write_kind : (cs : List CType) (n : Shape) (ks : List ℕ) (go : ℕ → Term) → HasOperands n (terms (map go ks)) →
    Every (Has cs) (shape_types n) → KindOf (types_of cs) n ks
write_kind cs (tree.Constant n) [] go h t = made (types_of cs) (exprs.Constant n)
write_kind cs (tree.Literal k) [] go h t = made (types_of cs) (exprs.Literal k)
write_kind cs (tree.Var k) [] go h t = made (types_of cs) (exprs.Var k)
write_kind cs (tree.Global k) [] go h t = made (types_of cs) (exprs.Global k)
write_kind cs (tree.Fun k) [] go h t = made (types_of cs) (exprs.Fun k)
write_kind cs tree.Load (a ∷ []) go h t = made (types_of cs) (exprs.Load a)
write_kind cs tree.Decay (a ∷ []) go h t = made (types_of cs) (exprs.Decay a)
write_kind cs tree.Deref (a ∷ []) go h t = made (types_of cs) (exprs.Deref a)
write_kind cs (tree.Member k) (a ∷ []) go h t = made (types_of cs) (exprs.Member a k)
write_kind cs tree.Address (a ∷ []) go h t = made (types_of cs) (exprs.Address a)
write_kind cs tree.Convert (a ∷ []) go h t = made (types_of cs) (exprs.Convert a)
write_kind cs (tree.Unary o) (a ∷ []) go h t = made (types_of cs) (exprs.Unary o a)
write_kind cs (tree.Step adds in_front) (a ∷ []) go h t = made (types_of cs) (exprs.Step a adds in_front)
write_kind cs (tree.Arithmetic o) (a ∷ b ∷ []) go h t = made (types_of cs) (exprs.Int o a b)
write_kind cs (tree.Capability o r) (a ∷ b ∷ []) go h t = made (types_of cs) (exprs.Capability o a b r)
write_kind cs (tree.Plus minus) (a ∷ b ∷ []) go h t = made (types_of cs) (exprs.Plus a b minus)
write_kind cs tree.Difference (a ∷ b ∷ []) go h t = made (types_of cs) (exprs.Difference a b)
write_kind cs (tree.Compare o) (a ∷ b ∷ []) go h t = made (types_of cs) (exprs.Compare o a b)
write_kind cs tree.And (a ∷ b ∷ []) go h t = made (types_of cs) (exprs.And a b)
write_kind cs tree.Or (a ∷ b ∷ []) go h t = made (types_of cs) (exprs.Or a b)
write_kind cs tree.Comma (a ∷ b ∷ []) go h t = made (types_of cs) (exprs.Comma a b)
write_kind cs tree.Assign (a ∷ b ∷ []) go h t = made (types_of cs) (exprs.Assign a b)
write_kind cs (tree.Compound o u) (a ∷ b ∷ []) go h t = record {
  kind = exprs.Compound o a b t.0.number;
  shape = ap (tree.Compound o) t.0.is;
  operands = refl;
}
write_kind cs tree.Conditional (a ∷ b ∷ c ∷ []) go h t = made (types_of cs) (exprs.Conditional a b c)
write_kind cs tree.Call (f ∷ ks) go h t = made (types_of cs) (exprs.Call f ks)
write_kind cs (tree.Library k) ks go h t = made (types_of cs) (exprs.Library k ks)
write_kind cs n ks go h t = absurd h

-- ---- lists of expressions

abbrev pub expr_uses : List Expr → List ℕ
expr_uses es = flat_map (λ (e : Expr). operands e.kind) es

-- an expression has a type and names expressions before it
pub record ExprFine (n k : ℕ) (e : Expr) : Type 0 where
  pub typed : e.of < n
  pub before : Every (λ a. a < k) (operands e.kind)

abbrev pub AreExprs : ℕ → List Expr → Type 0
AreExprs n es = (k : ℕ) (e : Expr) → slice_get es k ≡ Some e → ExprFine n k e

-- the list goes on to one with these expressions
pub record ExprsIn (cs : List CType) (es : List Expr) (xs : Terms) : Type 0 where
  pub new : List Expr
  pub more : Extends es new
  pub fine : AreExprs (length cs) new
  pub numbers : List ℕ
  pub here : Every (λ a. a < length new) numbers
  pub are : (zs : List Expr) → terms (map (term_at (terms_in (types_of cs) (new ++ zs))) numbers) ≡ xs
  pub once : (k : ℕ) → times_in k (expr_uses new) + times_in k numbers + under (length es) k
      ≡ times_in k (expr_uses es) + under (length new) k

pub uses_push : {A : Type 0} (f : A → List ℕ) (xs : List A) (x : A) (k : ℕ) →
    times_in k (flat_map f (xs ++ x ∷ [])) ≡ times_in k (flat_map f xs) + times_in k (f x)
uses_push f xs x k =
    ap (times_in k) (flat_map-append f xs (x ∷ []) ∙ ap (λ ys. flat_map f xs ++ ys) (append-nil (f x)))
    ∙ sum_by-append (λ j. is_one j k) (flat_map f xs) (f x)

with_same : (x y : Term) (xs ys : Terms) → x ≡ y → xs ≡ ys → with_term x xs ≡ with_term y ys
with_same x y xs ys e f = cc

pub still_there : {A : Type 0} (k : ℕ) (xs ys : List A) → Extends xs ys → k < length xs → k < length ys
still_there k xs ys x l = omega (arith, l, ap length x.1, length-append xs x.0)

pub write_terms : (cs : List CType) (xs : Terms) (es : List Expr) → AreExprs (length cs) es → AreWhole xs →
    Every (Has cs) (all_term_types xs) → ExprsIn cs es xs
write_terms cs no_terms es f w h = record {
  new = es;
  more = extends_same es;
  fine = f;
  numbers = [];
  here = tt;
  are = λ zs. refl;
  once = λ k. omega arith;
}
write_terms cs (with_term (term n xs t p) ys) es f w h =
    let s = every_split (Has cs) (term_types (term n xs t p)) (all_term_types ys) h in
    let u = every_split (Has cs) (t ∷ shape_types n) (all_term_types xs) s.0 in
    let a = write_terms cs xs es f w.0.1 u.1 in
    let ts : List Ty = types_of cs in
    let go : ℕ → Term = term_at (terms_in ts a.new) in
    let are : terms (map go a.numbers) ≡ xs =
    ap (λ zs. terms (map (term_at (terms_in ts zs)) a.numbers)) (sym (append-nil a.new)) ∙ a.are [] in
    let d = write_kind cs n a.numbers go (subst (HasOperands n) (sym are) w.0.0) u.0.1 in
    let e : Expr = record { kind = d.kind; of = u.0.0.number; pos = p } in
    let mid : List Expr = a.new ++ e ∷ [] in
    let fine : AreExprs (length cs) mid = push_each (ExprFine (length cs)) a.new e a.fine
    (record { typed = u.0.0.here; before = subst (Every (λ i. i < length a.new)) (sym d.operands) a.here }) in
    let b = write_terms cs ys mid fine w.1 s.1 in
    let long = length-append a.new (e ∷ []) in
    record {
      new = b.new;
      more = extends_then es mid b.new (extends_push es a.new mid e a.more refl) b.more;
      fine = b.fine;
      numbers = length a.new ∷ b.numbers;
      here = (still_there (length a.new) mid b.new b.more (omega (arith, long)), b.here);
      are = λ zs.
          with_same (term_at (terms_in ts (b.new ++ zs)) (length a.new)) (term n xs t p)
          (terms (map (term_at (terms_in ts (b.new ++ zs))) b.numbers)) ys
          (ap (λ ws. term_at (terms_in ts ws) (length a.new)) (ap (λ ws. ws ++ zs) b.more.1
          ∙ append_assoc mid b.more.0 zs ∙ append_assoc a.new (e ∷ []) (b.more.0 ++ zs))
          ∙ at_seam (expr_from ts) no_term a.new e (b.more.0 ++ zs)
          ∙ kind_is ts d.kind (type_at ts e.of) p go
          ∙ term_same (expr_shape ts d.kind) n (terms (map go (operands d.kind))) xs (type_at ts e.of) t p p d.shape
          (ap (λ ks. terms (map go ks)) d.operands ∙ are) u.0.0.is refl)
          (b.are zs);
      once = λ k.
          let o = uses_push (λ (e : Expr). operands e.kind) a.new e k in
          let q = ap (times_in k) d.operands in
          let l : length mid ≡ suc (length a.new) = omega (arith, long) in
          let m = ap (λ j. under j k) l ∙ under_more (length a.new) k in
          omega (arith, a.once k, b.once k, o, q, m, times_cons k (length a.new) b.numbers);
    }
