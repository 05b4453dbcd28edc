-- Statements are written behind their parts, each used once.
use Rattle.std.proofs.Common.{◌≡◌, ℕ, suc, ◌+◌, ◌<◌, Bool, true, false, List, [], ◌∷◌, ◌++◌, length, map, Some, None}
use Rattle.std.proofs.Common.{refl, sym, ap, ◌∙◌, arith, subst, length-append, append_assoc}
use Rattle.std.specs.Prelude.{slice_get, flat_map}
use Rattle.std.proofs.lemmas.List.{append-nil}
use Rattle.c_tree.specs.declared.typed.CType.{CType}
use Rattle.c_tree.specs.declared.typed.Expr.{Expr}
use Rattle.c_tree.specs.declared.typed.Stmt.{Stmt}
use Rattle.c_tree.specs.declared.typed.StmtKind.{StmtKind}
use Rattle.c_tree.specs.declared.typed.StmtKind.TheVariants as stmts
use Rattle.c_tree.specs.declared.typed.SwitchLabel.{SwitchLabel}
use Rattle.c_tree.specs.Types.{Ty}
use Rattle.c_tree.specs.Terms as tree
use Rattle.c_tree.specs.Terms.{Term, terms, Label, Form, Action, Actions, action, actions, no_actions, with_action}
use Rattle.c_tree.specs.Views.{types_of, term_at, stmt_from, no_action, action_at, values, parts, label_of, times_in}
use Rattle.c_copy.specs.Copying.{Extends, stmt_form, terms_in, actions_in}
use Rattle.c_copy.proofs.Copies.{at_seam, extends_same, extends_then, extends_push, action_is, action_same, longer}
use Rattle.written_programs.specs.Writable.{Every, HasTests, HasMore, HasParts, AreWholeActions, all_term_types}
use Rattle.written_programs.specs.Writable.{action_types, all_action_types}
use Rattle.written_programs.proofs.Lists.{every_more, every_split, push_each, under, under_more, times_cons}
use Rattle.written_programs.proofs.Types.{Has}
use Rattle.written_programs.proofs.Expressions.{AreExprs, expr_uses, uses_push, still_there, write_terms}

-- ---- a statement

record FormOf (f : Form) (vs ks : List ℕ) : Type 0 where
  pub kind : StmtKind
  pub form : stmt_form kind ≡ f
  pub values : values kind ≡ vs
  pub parts : parts kind ≡ ks

formed : (kind : StmtKind) → FormOf (stmt_form kind) (values kind) (parts kind)
formed kind = record { kind = kind; form = refl; values = refl; parts = refl }

label_back : Label → SwitchLabel
label_back l = record { value = l.value; before = l.before }

labels_back : (ls : List Label) → map label_of (map label_back ls) ≡ ls
unfolding label_back
labels_back [] = refl
labels_back (l ∷ ls) = ap (λ zs. l ∷ zs) (labels_back ls)

-- those that begin a `for`, and its body
record Split (n : ℕ) (ks : List ℕ) : Type 0 where
  pub first : List ℕ
  pub last : ℕ
  pub are : ks ≡ first ++ last ∷ []
  pub count : length first ≡ n

split_more : (n : ℕ) (ks : List ℕ) (to : ℕ → Action) → HasMore n (actions (map to ks)) → Split n ks
split_more n [] to h = absurd h
split_more n (k ∷ []) to h = record { first = []; last = k; are = refl; count = sym h }
split_more n (k ∷ j ∷ ks) to h =
    let r = split_more h.0 (j ∷ ks) to h.2 in
    record {
      first = k ∷ r.first;
      last = r.last;
      are = ap (λ zs. k ∷ zs) r.are;
      count = omega (arith, r.count, h.1);
    }

write_for : (vars : List ℕ) (n : ℕ) (a b : Bool) (vs ks : List ℕ) (go : ℕ → Term) → HasTests a b (terms (map go vs)) →
    Split n ks → FormOf (tree.For vars n a b) vs ks
write_for vars n false false [] ks go h s = record {
  kind = stmts.For vars s.first None None s.last;
  form = ap (λ m. tree.For vars m false false) s.count;
  values = refl;
  parts = sym s.are;
}
write_for vars n false true (w ∷ []) ks go h s = record {
  kind = stmts.For vars s.first None (Some w) s.last;
  form = ap (λ m. tree.For vars m false true) s.count;
  values = refl;
  parts = sym s.are;
}
write_for vars n true false (v ∷ []) ks go h s = record {
  kind = stmts.For vars s.first (Some v) None s.last;
  form = ap (λ m. tree.For vars m true false) s.count;
  values = refl;
  parts = sym s.are;
}
write_for vars n true true (v ∷ w ∷ []) ks go h s = record {
  kind = stmts.For vars s.first (Some v) (Some w) s.last;
  form = ap (λ m. tree.For vars m true true) s.count;
  values = refl;
  parts = sym s.are;
}
write_for vars n a b vs ks go h s = absurd h

write_form : (f : Form) (vs ks : List ℕ) (go : ℕ → Term) (to : ℕ → Action) →
    HasParts f (terms (map go vs)) (actions (map to ks)) → FormOf f vs ks
write_form tree.Evaluate (a ∷ []) [] go to h = formed (stmts.Expr a)
write_form (tree.Init var offset) (a ∷ []) [] go to h = formed (stmts.Init var offset a)
write_form (tree.Block vars) [] ks go to h = formed (stmts.Block vars ks)
write_form tree.If (a ∷ []) (x ∷ []) go to h = formed (stmts.If a x None)
write_form tree.If (a ∷ []) (x ∷ y ∷ []) go to h = formed (stmts.If a x (Some y))
write_form tree.While (a ∷ []) (x ∷ []) go to h = formed (stmts.While a x)
write_form tree.Do (a ∷ []) (x ∷ []) go to h = formed (stmts.Do x a)
write_form (tree.For vars n a b) vs ks go to h = write_for vars n a b vs ks go h.0 (split_more n ks to h.1)
write_form (tree.Switch vars labels) (a ∷ []) ks go to h = record {
  kind = stmts.Switch a vars (map label_back labels) ks;
  form = ap (tree.Switch vars) (labels_back labels);
  values = refl;
  parts = refl;
}
write_form tree.Break [] [] go to h = formed stmts.Break
write_form tree.Continue [] [] go to h = formed stmts.Continue
write_form tree.Return [] [] go to h = formed (stmts.Return None)
write_form tree.Return (a ∷ []) [] go to h = formed (stmts.Return (Some a))
write_form tree.Empty [] [] go to h = formed stmts.Empty
write_form f vs ks go to h = absurd h

-- ---- lists of statements

abbrev pub value_uses : List Stmt → List ℕ
value_uses ss = flat_map (λ (s : Stmt). values s.kind) ss

abbrev pub part_uses : List Stmt → List ℕ
part_uses ss = flat_map (λ (s : Stmt). parts s.kind) ss

-- a statement names expressions that are there, and statements before it
pub record StmtFine (n k : ℕ) (s : Stmt) : Type 0 where
  pub there : Every (λ a. a < n) (values s.kind)
  pub before : Every (λ a. a < k) (parts s.kind)

abbrev pub AreStmts : ℕ → List Stmt → Type 0
AreStmts n ss = (k : ℕ) (s : Stmt) → slice_get ss k ≡ Some s → StmtFine n k s

stmts_kept : (es ds : List Expr) (ss : List Stmt) → Extends es ds → AreStmts (length es) ss → AreStmts (length ds) ss
stmts_kept es ds ss x h k s e =
    let f = h k s e in
    record {
      there =
          every_more (λ a. a < length es) (λ a. a < length ds) (values s.kind) (λ a l. still_there a es ds x l) f.there;
      before = f.before;
    }

-- the lists go on to some with these statements
pub record StmtsIn (cs : List CType) (es : List Expr) (ss : List Stmt) (ys : Actions) : Type 0 where
  pub exprs : List Expr
  pub new : List Stmt
  pub more : Extends es exprs
  pub further : Extends ss new
  pub fine : AreExprs (length cs) exprs
  pub stand : AreStmts (length exprs) new
  pub numbers : List ℕ
  pub here : Every (λ a. a < length new) numbers
  pub are : (zs : List Expr) (ws : List Stmt) →
      actions (map (action_at (actions_in (types_of cs) (exprs ++ zs) (new ++ ws))) numbers) ≡ ys
  pub exprs_once : (k : ℕ) → times_in k (expr_uses exprs) + times_in k (value_uses new) + under (length es) k
      ≡ times_in k (expr_uses es) + times_in k (value_uses ss) + under (length exprs) k
  pub stmts_once : (k : ℕ) → times_in k (part_uses new) + times_in k numbers + under (length ss) k
      ≡ times_in k (part_uses ss) + under (length new) k

with_same : (x y : Action) (xs ys : Actions) → x ≡ y → xs ≡ ys → with_action x xs ≡ with_action y ys
with_same x y xs ys e f = cc

pub write_actions : (cs : List CType) (ys : Actions) (es : List Expr) (ss : List Stmt) → AreExprs (length cs) es →
    AreStmts (length es) ss → AreWholeActions ys → Every (Has cs) (all_action_types ys) → StmtsIn cs es ss ys
write_actions cs no_actions es ss f g w h = record {
  exprs = es;
  new = ss;
  more = extends_same es;
  further = extends_same ss;
  fine = f;
  stand = g;
  numbers = [];
  here = tt;
  are = λ zs ws. refl;
  exprs_once = λ k. refl;
  stmts_once = λ k. omega arith;
}
write_actions cs (with_action (action m xs ys p) zs) es ss f g w h =
    let s = every_split (Has cs) (action_types (action m xs ys p)) (all_action_types zs) h in
    let u = every_split (Has cs) (all_term_types xs) (all_action_types ys) s.0 in
    let ts : List Ty = types_of cs in
    let a = write_terms cs xs es f w.0.0 u.0 in
    let b = write_actions cs ys a.new ss a.fine (stmts_kept es a.new ss a.more g) w.0.2 u.1 in
    let d = write_form m a.numbers b.numbers (term_at (terms_in ts (a.new ++ [])))
    (action_at (actions_in ts (b.exprs ++ []) (b.new ++ [])))
    (subst (HasParts m (terms (map (term_at (terms_in ts (a.new ++ []))) a.numbers))) (sym (b.are [] []))
    (subst (λ vs. HasParts m vs ys) (sym (a.are [])) w.0.1)) in
    let e : Stmt = record { kind = d.kind; pos = p } in
    let mid : List Stmt = b.new ++ e ∷ [] in
    let there : Every (λ i. i < length b.exprs) a.numbers =
    every_more (λ i. i < length a.new) (λ i. i < length b.exprs) a.numbers
    (λ i l. still_there i a.new b.exprs b.more l) a.here in
    let stand : AreStmts (length b.exprs) mid = push_each (StmtFine (length b.exprs)) b.new e b.stand (record {
      there = subst (Every (λ i. i < length b.exprs)) (sym d.values) there;
      before = subst (Every (λ i. i < length b.new)) (sym d.parts) b.here;
    }) in
    let c = write_actions cs zs b.exprs mid b.fine stand w.1 s.1 in
    let x : Extends a.new c.exprs = extends_then a.new b.exprs c.exprs b.more c.more in
    let long = length-append b.new (e ∷ []) in
    record {
      exprs = c.exprs;
      new = c.new;
      more = extends_then es a.new c.exprs a.more x;
      further = extends_then ss mid c.new (extends_push ss b.new mid e b.further refl) c.further;
      fine = c.fine;
      stand = c.stand;
      numbers = length b.new ∷ c.numbers;
      here = (still_there (length b.new) mid c.new c.further (omega (arith, long)), c.here);
      are = λ vs ws.
          let all : List Term = terms_in ts (c.exprs ++ vs) in
          let go : ℕ → Action = action_at (actions_in ts (c.exprs ++ vs) b.new) in
          let terms_are : terms (map (term_at all) a.numbers) ≡ xs =
          ap (λ zs. terms (map (term_at (terms_in ts zs)) a.numbers)) (longer a.new c.exprs vs x) ∙ a.are (x.0 ++ vs) in
          let parts_are : actions (map go b.numbers) ≡ ys =
          ap (λ zs. actions (map (action_at (actions_in ts zs b.new)) b.numbers)) (longer b.exprs c.exprs vs c.more)
          ∙ ap (λ zs. actions (map (action_at (actions_in ts (b.exprs ++ (c.more.0 ++ vs)) zs)) b.numbers))
          (sym (append-nil b.new))
          ∙ b.are (c.more.0 ++ vs) [] in
          with_same (action_at (actions_in ts (c.exprs ++ vs) (c.new ++ ws)) (length b.new)) (action m xs ys p)
          (actions (map (action_at (actions_in ts (c.exprs ++ vs) (c.new ++ ws))) c.numbers)) zs
          (ap (λ zs. action_at (actions_in ts (c.exprs ++ vs) zs) (length b.new)) (longer mid c.new ws c.further
          ∙ append_assoc b.new (e ∷ []) (c.further.0 ++ ws))
          ∙ at_seam (stmt_from all) no_action b.new e (c.further.0 ++ ws)
          ∙ action_is all d.kind p go
          ∙ action_same (stmt_form d.kind) m (terms (map (term_at all) (values d.kind))) xs
          (actions (map go (parts d.kind))) ys p p d.form
          (ap (λ ks. terms (map (term_at all) ks)) d.values ∙ terms_are)
          (ap (λ ks. actions (map go ks)) d.parts ∙ parts_are) refl)
          (c.are vs ws);
      exprs_once = λ k.
          let o = uses_push (λ (s : Stmt). values s.kind) b.new e k in
          let q = ap (times_in k) d.values in
          omega (arith, a.once k, b.exprs_once k, c.exprs_once k, o, q);
      stmts_once = λ k.
          let o = uses_push (λ (s : Stmt). parts s.kind) b.new e k in
          let q = ap (times_in k) d.parts in
          let l : length mid ≡ suc (length b.new) = omega (arith, long) in
          let n = ap (λ j. under j k) l ∙ under_more (length b.new) k in
          omega (arith, b.stmts_once k, c.stmts_once k, o, q, n, times_cons k (length b.new) c.numbers);
    }
