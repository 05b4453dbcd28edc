-- Expressions as they are run.
use Rattle.std.proofs.Common.{◌≡◌, ℕ, ◌+◌, Bool, true, false, List, [], ◌∷◌, ◌++◌, length, get_or, map, Some, refl}
use Rattle.std.proofs.Common.{sym, ap, subst, ◌∙◌, arith, length-append, append_assoc}
use Rattle.std.specs.Prelude.{slice_get}
use Rattle.ck_base.specs.declared.positions.Pos.{Pos}
use Rattle.ck_int.specs.declared.kinds.IntOp.{IntOp}
use Rattle.c_tree.specs.declared.typed.Expr.{Expr}
use Rattle.c_tree.specs.declared.typed.ExprKind.{ExprKind}
use Rattle.c_tree.specs.declared.typed.ExprKind.TheVariants as exprs
use Rattle.c_tree.specs.Types.{Ty, bare, is_tagged}
use Rattle.c_tree.specs.Terms as tree
use Rattle.c_tree.specs.Terms.{Shape, Variable, Term, Terms, terms, with_term, term, leaf, step}
use Rattle.c_tree.specs.Views.{type_at, types_of, expr_from, no_term, term_at, operands}
use Rattle.c_tree.specs.Passed.{Names, Passing, by_pointer, hidden_in, all_hidden_in, hidden_for, for_arguments}
use Rattle.c_tree.specs.Passed.{for_call, passed, passed_shape, passed_term, passed_arguments, address_of, by_result}
use Rattle.c_tree.specs.Passed.{call_with}
use Rattle.c_tree.proofs.Forest.{forest_reads}
use Rattle.c_tree.specs.Programs.{shape_with}
use Rattle.c_tree.specs.Programs as programs
use Rattle.c_copy.specs.Copying.{Extends, AllBelow, expr_shape, terms_in, IsPlainWith}
use Rattle.c_copy.proofs.Copies.{kind_is, map_seen, term_same, extends_then, extends_push}
use Rattle.passing_steps.specs.Source.{Source}
use Rattle.passing_steps.specs.Made.{Made}
use Rattle.c_passing.specs.Lists.{hidden_in_each, hidden_for_each, passed_each, passed_each_argument}
use Rattle.c_passing.specs.Passes.{written_term, written_call, AddsTerms, IsKindPassed, IsPassed, ArePassed}
use Rattle.c_passing.specs.Passes.{ArePassedArguments, IsByResult, IsPlainCall, IsCallByResult}
use Rattle.c_passing.proofs.Hiding.{hidden_terms, hidden_arguments, passed_list, passed_arguments_list}
use Rattle.c_passing.proofs.Calling.{call_made}
use Rattle.passing_steps.specs.Steps.{written_type, Fits, HasTerm, HasTerms, Hides, IsHidden, Makes}
use Rattle.passing_steps.specs.Ordered.{TakesIn, Takes}
use Rattle.passing_steps.proofs.Ordering.{in_push, in_then, in_from, in_first}
use Rattle.passing_steps.proofs.Trees.{term_more, term_end, no_terms_have, terms_push}
use Rattle.passing_steps.proofs.Calling.{hides_then, hides_vars, hides_count, number_same, pointer_same}

-- ---- written expressions

-- a written expression is made of its operands
pub written_is : (s : Source) (k : ℕ) (e : Expr) → slice_get s.program.now.exprs k ≡ Some e →
    AllBelow k (operands e.kind) →
    written_term s k ≡ term (expr_shape (types_of s.program.now.types) e.kind)
    (terms (map (written_term s) (operands e.kind))) (written_type s e.of) e.pos
written_is s k e g b =
    let ts = types_of s.program.now.types in
    let r = forest_reads (expr_from ts) no_term s.program.now.exprs k e g in
    let seen : ℕ → Term = λ j. get_or r.seen j no_term in
    r.is ∙ kind_is ts e.kind (type_at ts e.of) e.pos seen
    ∙ ap (λ xs. term (expr_shape ts e.kind) (terms xs) (type_at ts e.of) e.pos)
    (map_seen seen (written_term s) (operands e.kind) k b r.before)

-- ---- expressions that are no calls

abbrev pub calls : Shape → Bool
calls tree.Call = true
calls x = false

pub shape_calls : (ts : List Ty) (k : ExprKind) → ((f : ℕ) (xs : List ℕ) → k ≡ exprs.Call f xs → ⊥) →
    calls (expr_shape ts k) ≡ false
shape_calls ts (exprs.Call f xs) h = absurd (h f xs refl)
shape_calls ts _ h = refl

pub passed_other : (e : Passing) (n : ℕ) (x : Shape) (xs : List Term) (t : Ty) (p : Pos) → calls x ≡ false →
    passed_term e n (term x (terms xs) t p) ≡ term (passed_shape e x) (terms (passed_each e n xs)) (passed t) p
passed_other e n tree.Call xs t p h = absurd cc
passed_other e n x xs t p h = ap (λ ys. term (passed_shape e x) ys (passed t) p) (passed_list e n xs)

pub hidden_other : (names : Names) (x : Shape) (xs : List Term) (t : Ty) (p : Pos) → calls x ≡ false →
    hidden_in names (term x (terms xs) t p) ≡ hidden_in_each names xs
hidden_other names tree.Call xs t p h = absurd cc
hidden_other names _ xs t p h = hidden_terms names xs

expression_hides : (s : Source) (old mid new : Made) (k : ℕ) (e : Expr) → slice_get s.program.now.exprs k ≡ Some e →
    AllBelow k (operands e.kind) → calls (expr_shape (types_of s.program.now.types) e.kind) ≡ false →
    Hides s old mid (λ names. hidden_in_each names (map (written_term s) (operands e.kind))) → new.vars ≡ mid.vars →
    Hides s old new (λ names. hidden_in names (written_term s k))
expression_hides s old mid new k e g b c h q =
    hides_vars s old mid old new (λ names. hidden_in_each names (map (written_term s) (operands e.kind)))
    (λ names. hidden_in names (written_term s k)) refl q
    (λ names. sym (ap (hidden_in names) (written_is s k e g b)
    ∙ hidden_other names (expr_shape (types_of s.program.now.types) e.kind)
    (map (written_term s) (operands e.kind)) (written_type s e.of) e.pos c)) h

-- an expression that is no call, behind its operands
pub expression_passed : (s : Source) (old mid new : Made) (k : ℕ) (e d : Expr) (js : List ℕ) (j : ℕ) →
    slice_get s.program.now.exprs k ≡ Some e → AllBelow k (operands e.kind) →
    calls (expr_shape (types_of s.program.now.types) e.kind) ≡ false →
    AddsTerms s old mid (λ names. hidden_in_each names (map (written_term s) (operands e.kind)))
    (ArePassed s old mid (map (written_term s) (operands e.kind)) js) → IsKindPassed s e.kind js d.kind →
    get_or s.types.now.numbers.items e.of 0 ≡ d.of → d.pos ≡ e.pos →
    new.exprs.items ≡ mid.exprs.items ++ d ∷ [] → new ≡ record mid { exprs = new.exprs } →
    j ≡ length mid.exprs.items →
    AddsTerms s old new (λ names. hidden_in names (written_term s k)) (IsPassed s old new (written_term s k) j)
expression_passed s old mid new k e d js j g b c all w t p q rest r =
    let h = all.is in
    record {
      extends = extends_push old.exprs.items mid.exprs.items new.exprs.items d all.extends q;
      stmts = ap (λ (m : Made). m.stmts) rest ∙ all.stmts;
      hides = expression_hides s old mid new k e g b c all.hides (ap (λ (m : Made). m.vars) rest);
      is = record {
        is = λ ts f fits.
            let n = length old.vars.items in
            let xs = map (written_term s) (operands e.kind) in
            let x = expr_shape (types_of s.program.now.types) e.kind in
            let made = term_end ts mid.exprs.items new.exprs.items d j q r in
            let inner : map (term_at (terms_in ts mid.exprs.items)) (operands d.kind) ≡ passed_each f n xs =
            ap (map (term_at (terms_in ts mid.exprs.items))) w.operands ∙ (h.are ts f fits).are in
            record {
              there = made.there;
              is =
                  made.is
                  ∙ term_same (expr_shape ts d.kind) (passed_shape f x)
                  (terms (map (term_at (terms_in ts mid.exprs.items)) (operands d.kind))) (terms (passed_each f n xs))
                  (type_at ts d.of) (passed (written_type s e.of)) d.pos e.pos
                  (w.shape ts f fits) (ap terms inner) (fits.types.numbers e.of d.of t) p
                  ∙ sym (passed_other f n x xs (written_type s e.of) e.pos c)
                  ∙ ap (passed_term f n) (sym (written_is s k e g b));
            };
        ordered = λ z.
            let n = length s.types.now.list.items in
            in_then n old mid new [] [] js [] (j ∷ []) [] (h.ordered z)
            (in_push n mid new d j js q (ap (λ (m : Made). m.stmts.items) rest) r (z.numbers e.of d.of t) w.operands);
      };
    }

-- ---- calls

abbrev call_of : Term → List Term → Ty → Pos → Term
call_of f xs t p = term tree.Call (with_term f (terms xs)) t p

hidden_call : (names : Names) (f : Term) (xs : List Term) (t : Ty) (p : Pos) →
    hidden_in names (call_of f xs t p) ≡ ((hidden_in names f ++ hidden_for_each names p xs) ++ hidden_for names p t)
    ++ hidden_in_each names xs
hidden_call names f xs t p =
    ap (λ vs. (hidden_in names f ++ (vs ++ hidden_for names p t)) ++ all_hidden_in names (terms xs))
    (hidden_arguments names p xs)
    ∙ ap (λ vs. (hidden_in names f ++ (hidden_for_each names p xs ++ hidden_for names p t)) ++ vs)
    (hidden_terms names xs)
    ∙ ap (λ vs. vs ++ hidden_in_each names xs)
    (sym (append_assoc (hidden_in names f) (hidden_for_each names p xs) (hidden_for names p t)))

-- the numbers of a call's hidden locals
record Counts (e : Passing) (n : ℕ) (f : Term) (xs : List Term) (t : Ty) (p : Pos) (own hid inner : ℕ) : Type 0 where
  own_is : own ≡ n + length (hidden_in e.names f)
  hidden_is : hid ≡ own + length (hidden_for_each e.names p xs)
  inner_is : inner ≡ hid + length (hidden_for e.names p t)

passed_call : (e : Passing) (n : ℕ) (f : Term) (xs : List Term) (t : Ty) (p : Pos) (own hid inner : ℕ) →
    Counts e n f xs t p own hid inner →
    passed_term e n (call_of f xs t p) ≡ call_with hid (passed_term e n f)
    (terms (passed_each_argument e own inner p xs)) t p
passed_call e n f xs t p own hid inner c =
    let a = hidden_arguments e.names p xs in
    let first = n + length (hidden_in e.names f) in
    let h : first + length (for_arguments e.names p (terms xs)) ≡ hid =
    let x = c.own_is in let y = c.hidden_is in ap (λ vs. first + length vs) a ∙ omega arith in
    let i : first + length (for_call e.names p (terms xs) t) ≡ inner =
    let x = c.own_is in let y = c.hidden_is in let z = c.inner_is in
    ap (λ vs. first + length (vs ++ hidden_for e.names p t)) a
    ∙ omega (arith, length-append (hidden_for_each e.names p xs) (hidden_for e.names p t)) in
    ap (λ m. call_with m (passed_term e n f) (passed_arguments e first
    (first + length (for_call e.names p (terms xs) t)) (terms xs) p) t p) h
    ∙ ap (λ m. call_with hid (passed_term e n f) (passed_arguments e first m (terms xs) p) t p) i
    ∙ ap (λ m. call_with hid (passed_term e n f) (passed_arguments e m inner (terms xs) p) t p) (sym c.own_is)
    ∙ ap (λ ys. call_with hid (passed_term e n f) ys t p) (passed_arguments_list e own inner p xs)

plainly : (h : ℕ) (f : Term) (ys : Terms) (t : Ty) (p : Pos) → by_pointer t ≡ false →
    call_with h f ys t p ≡ term tree.Call (with_term f ys) (passed t) p
plainly h f ys t p e = rw e refl

by_pointer_call : (h : ℕ) (f : Term) (ys : Terms) (t : Ty) (p : Pos) → by_pointer t ≡ true →
    call_with h f ys t p ≡ by_result h f ys (bare t) p
by_pointer_call h f ys t p e = rw e refl

-- the steps of a call: what is called, the hidden locals of the arguments, and that of the result
pub record Steps (s : Source) (old a b c : Made) (e : Expr) (f : ℕ) (xs : List ℕ) (called : ℕ) : Type 0 where
  pub first : AddsTerms s old a (λ names. hidden_in names (written_term s f))
      (IsPassed s old a (written_term s f) called)
  pub second : Hides s a b (λ names. hidden_for_each names e.pos (map (written_term s) xs))
  pub second_rest : b ≡ record a { vars = b.vars }
  pub third : Hides s b c (λ names. hidden_for names e.pos (written_type s e.of))
  pub third_rest : c ≡ record b { vars = c.vars }

-- what is behind a call: the arguments with the call
abbrev CallBehind : Source → Made → Made → List ℕ → Type 0 → Type 0
CallBehind s c new xs P = AddsTerms s c new (λ names. hidden_in_each names (map (written_term s) xs)) P

call_hides : (s : Source) (old a b c new : Made) (e : Expr) (f : ℕ) (xs : List ℕ) (called : ℕ) →
    Steps s old a b c e f xs called → Hides s c new (λ names. hidden_in_each names (map (written_term s) xs)) →
    Hides s old new (λ names. hidden_in names (written_call s e f xs))
call_hides s old a b c new e f xs called st fourth =
    let ys = map (written_term s) xs in
    let p = e.pos in
    let t = written_type s e.of in
    let one = hides_then s old a b (λ names. hidden_in names (written_term s f))
    (λ names. hidden_for_each names p ys) st.first.hides st.second in
    let two = hides_then s old b c (λ names. hidden_in names (written_term s f) ++ hidden_for_each names p ys)
    (λ names. hidden_for names p t) one st.third in
    let all = hides_then s old c new (λ names. (hidden_in names (written_term s f) ++ hidden_for_each names p ys)
    ++ hidden_for names p t) (λ names. hidden_in_each names ys) two fourth in
    hides_vars s old new old new (λ names. ((hidden_in names (written_term s f) ++ hidden_for_each names p ys)
    ++ hidden_for names p t) ++ hidden_in_each names ys)
    (λ names. hidden_in names (written_call s e f xs)) refl refl
    (λ names. sym (hidden_call names (written_term s f) ys t p)) all

counted : (s : Source) (old a b c : Made) (e : Expr) (f : ℕ) (xs : List ℕ) (called : ℕ) (ts : List Ty)
    (g : Passing) → Steps s old a b c e f xs called → Fits s ts g →
    Counts g (length old.vars.items) (written_term s f) (map (written_term s) xs) (written_type s e.of) e.pos
    (length a.vars.items) (length b.vars.items) (length c.vars.items)
counted s old a b c e f xs called ts g st fits = record {
  own_is = hides_count s old a (λ names. hidden_in names (written_term s f)) ts g st.first.hides fits;
  hidden_is = hides_count s a b (λ names. hidden_for_each names e.pos (map (written_term s) xs)) ts g st.second fits;
  inner_is = hides_count s b c (λ names. hidden_for names e.pos (written_type s e.of)) ts g st.third fits;
}

-- the call, where the expression and its order are known
call_adds : (s : Source) (old a b c new : Made) (e : Expr) (f : ℕ) (xs : List ℕ) (called j : ℕ) (P : Type 0) →
    Steps s old a b c e f xs called → CallBehind s c new xs P →
    Takes s.types.now c new (called ∷ []) [] (j ∷ []) [] →
    ((ts : List Ty) (g : Passing) → Fits s ts g →
    HasTerm ts c.exprs.items called (passed_term g (length old.vars.items) (written_term s f)) →
    HasTerm ts new.exprs.items j (passed_term g (length old.vars.items) (written_call s e f xs))) →
    AddsTerms s old new (λ names. hidden_in names (written_call s e f xs))
    (IsPassed s old new (written_call s e f xs) j)
call_adds s old a b c new e f xs called j P st h takes is =
    let exprs_same : c.exprs ≡ a.exprs =
    ap (λ (m : Made). m.exprs) st.third_rest ∙ ap (λ (m : Made). m.exprs) st.second_rest in
    let stmts_same : c.stmts ≡ a.stmts =
    ap (λ (m : Made). m.stmts) st.third_rest ∙ ap (λ (m : Made). m.stmts) st.second_rest in
    record {
      extends = extends_then old.exprs.items a.exprs.items new.exprs.items st.first.extends
          (subst (λ es. Extends es.items new.exprs.items) exprs_same h.extends);
      stmts = h.stmts ∙ stmts_same ∙ st.first.stmts;
      hides = call_hides s old a b c new e f xs called st h.hides;
      is = record {
        is = λ ts g fits.
            let x = st.first.is.is ts g fits in
            is ts g fits (rw exprs_same x);
        ordered = λ z.
            let n = length s.types.now.list.items in
            in_then n old a new [] [] (called ∷ []) [] (j ∷ []) [] (st.first.is.ordered z)
            (in_from n a c new (called ∷ []) [] (j ∷ []) [] (ap (λ vs. vs.items) exprs_same)
            (ap (λ vs. vs.items) stmts_same) (takes z));
      };
    }

pub plain_call_passed : (s : Source) (old a b c new : Made) (e : Expr) (f : ℕ) (xs : List ℕ) (called j : ℕ) →
    Steps s old a b c e f xs called → by_pointer (written_type s e.of) ≡ false →
    CallBehind s c new xs (IsPlainCall s c new e called (length a.vars.items) xs j) →
    AddsTerms s old new (λ names. hidden_in names (written_call s e f xs))
    (IsPassed s old new (written_call s e f xs) j)
plain_call_passed s old a b c new e f xs called j st n h =
    call_adds s old a b c new e f xs called j
    (IsPlainCall s c new e called (length a.vars.items) xs j) st h h.is.ordered
    (λ ts g fits y.
    let z = h.is.is ts g (passed_term g (length old.vars.items) (written_term s f)) fits y in
    let ys = map (written_term s) xs in
    record {
      there = z.there;
      is =
          z.is
          ∙ sym (passed_call g (length old.vars.items) (written_term s f) ys (written_type s e.of) e.pos
          (length a.vars.items) (length b.vars.items) (length c.vars.items)
          (counted s old a b c e f xs called ts g st fits)
          ∙ plainly (length b.vars.items) (passed_term g (length old.vars.items) (written_term s f))
          (terms (passed_each_argument g (length a.vars.items) (length c.vars.items) e.pos ys))
          (written_type s e.of) e.pos n);
    })

pub result_call_passed : (s : Source) (old a b c new : Made) (e : Expr) (f : ℕ) (xs : List ℕ) (called t j : ℕ) →
    Steps s old a b c e f xs called → IsHidden s e.of (Some t) →
    CallBehind s c new xs (IsCallByResult s c new e called (length a.vars.items) (length b.vars.items) t xs j) →
    AddsTerms s old new (λ names. hidden_in names (written_call s e f xs))
    (IsPassed s old new (written_call s e f xs) j)
result_call_passed s old a b c new e f xs called t j st n h =
    call_adds s old a b c new e f xs called j
    (IsCallByResult s c new e called (length a.vars.items) (length b.vars.items) t xs j) st h h.is.ordered
    (λ ts g fits y.
    let m = length old.vars.items in
    let z = h.is.is ts g (passed_term g m (written_term s f)) fits y in
    let ys = terms (passed_each_argument g (length a.vars.items) (length c.vars.items) e.pos
    (map (written_term s) xs)) in
    record {
      there = z.there;
      is =
          z.is ∙ ap (λ u. by_result (length b.vars.items) (passed_term g m (written_term s f)) ys u e.pos) n.1
          ∙ sym (passed_call g m (written_term s f) (map (written_term s) xs) (written_type s e.of) e.pos
          (length a.vars.items) (length b.vars.items) (length c.vars.items)
          (counted s old a b c e f xs called ts g st fits)
          ∙ by_pointer_call (length b.vars.items) (passed_term g m (written_term s f)) ys
          (written_type s e.of) e.pos n.0);
    })

-- ---- the steps of one

pub written_call_is : (s : Source) (k : ℕ) (e : Expr) (f : ℕ) (xs : List ℕ) → slice_get s.program.now.exprs k ≡ Some e →
    AllBelow k (operands e.kind) → e.kind ≡ exprs.Call f xs → written_term s k ≡ written_call s e f xs
written_call_is s k e f xs g b q =
    let ts = types_of s.program.now.types in
    written_is s k e g b ∙ ap (λ z. term (expr_shape ts z) (terms (map (written_term s) (operands z)))
    (written_type s e.of) e.pos) q

pub plain_call_made : (s : Source) (old a new : Made) (e : Expr) (called own of : ℕ) (xs list : List ℕ) (j : ℕ) →
    get_or s.types.now.numbers.items e.of 0 ≡ of →
    CallBehind s old a xs (ArePassedArguments s old a own e.pos (map (written_term s) xs) [] list) →
    new.exprs.items ≡ a.exprs.items ++ record { kind = exprs.Call called list; of = of; pos = e.pos } ∷ [] →
    new ≡ record a { exprs = new.exprs } → j ≡ length a.exprs.items →
    CallBehind s old new xs (IsPlainCall s old new e called own xs j)
plain_call_made s old a new e called own of xs list j g args q rest r =
    let d : Expr = record { kind = exprs.Call called list; of = of; pos = e.pos } in
    let hidden : Names → List Variable = λ names. hidden_in_each names (map (written_term s) xs) in
    record {
      extends = extends_push old.exprs.items a.exprs.items new.exprs.items d args.extends q;
      stmts = ap (λ (m : Made). m.stmts) rest ∙ args.stmts;
      hides = hides_vars s old a old new hidden hidden refl (ap (λ (m : Made). m.vars) rest) (λ names. refl) args.hides;
      is = record {
        is = λ ts p f fits hf.
            let ys = passed_each_argument p own (length old.vars.items) e.pos (map (written_term s) xs) in
            let made =
            call_made ts a.exprs.items new.exprs.items called of j list e.pos f ys q r
            (term_more ts old.exprs.items a.exprs.items called f args.extends hf)
            (args.is.are ts p [] fits (no_terms_have ts old.exprs.items)) in
            record {
              there = made.there;
              is = made.is
                  ∙ ap (λ t. term tree.Call (with_term f (terms ys)) t e.pos) (fits.types.numbers e.of of g);
            };
        ordered = λ z.
            let n = length s.types.now.list.items in
            in_first n old a new called list (j ∷ []) [] (args.is.ordered z)
            (in_push n a new d j (called ∷ list) q (ap (λ (m : Made). m.stmts.items) rest) r
            (z.numbers e.of of g) refl);
      };
    }

pub result_call_made : (s : Source) (old a b new : Made) (e : Expr) (called own hid t n m address : ℕ)
    (xs first list : List ℕ) (j : ℕ) → is_tagged (written_type s t) ≡ true →
    get_or s.types.now.numbers.items t 0 ≡ n → get_or s.types.now.pointers.items t 0 ≡ m →
    Makes old a m n (λ ts. step tree.Address (leaf (tree.Var hid) (type_at ts n) e.pos) (type_at ts m) e.pos) address →
    first ≡ address ∷ [] →
    CallBehind s a b xs (ArePassedArguments s a b own e.pos (map (written_term s) xs) first list) →
    IsByResult s b new hid called list t e.pos j →
    CallBehind s old new xs (IsCallByResult s old new e called own hid t xs j)
result_call_made s old a b new e called own hid t n m address xs first list j tag g u made q args r =
    let hidden : Names → List Variable = λ names. hidden_in_each names (map (written_term s) xs) in
    let vars : a.vars ≡ old.vars = ap (λ (z : Made). z.vars) made.rest in
    record {
      extends = extends_then old.exprs.items b.exprs.items new.exprs.items
          (extends_then old.exprs.items a.exprs.items b.exprs.items made.extends args.extends) r.extends;
      stmts = ap (λ (z : Made). z.stmts) r.rest ∙ args.stmts ∙ ap (λ (z : Made). z.stmts) made.rest;
      hides = hides_vars s a b old new hidden hidden (sym vars) (ap (λ (z : Made). z.vars) r.rest) (λ names. refl)
          args.hides;
      is = record {
        is = λ ts p f fits hf.
            let w = written_type s t in
            let ys = passed_each_argument p own (length a.vars.items) e.pos (map (written_term s) xs) in
            let f-b = term_more ts a.exprs.items b.exprs.items called f args.extends
            (term_more ts old.exprs.items a.exprs.items called f made.extends hf) in
            let tn = number_same s ts p t n fits tag g in
            let tm = pointer_same s ts p t m fits tag u in
            let there : HasTerm ts a.exprs.items address (address_of hid w e.pos) =
            record { there = (made.is ts).there; is = (made.is ts).is ∙ rw (tn, tm) refl } in
            let one : HasTerms ts a.exprs.items first (address_of hid w e.pos ∷ []) =
            terms_push ts a.exprs.items [] first address [] (address_of hid w e.pos) q
            (no_terms_have ts a.exprs.items) there in
            let all = r.is ts p f (address_of hid w e.pos ∷ ys) fits f-b
            (args.is.are ts p (address_of hid w e.pos ∷ []) fits one) in
            let count : length a.vars.items ≡ length old.vars.items = ap (λ z. length z.items) vars in
            subst (λ (z : ℕ). HasTerm ts new.exprs.items j
            (by_result hid f (terms (passed_each_argument p own z e.pos (map (written_term s) xs))) w e.pos)) count all;
        ordered = λ z.
            let k = length s.types.now.list.items in
            in_first k old b new called list (j ∷ []) []
            (in_then k old a b [] [] (address ∷ []) [] list [] (made.ordered k (z.pointers t m u) (z.numbers t n g))
            (subst (λ zs. TakesIn k a b zs [] list []) q (args.is.ordered z))) (r.ordered z);
      };
    }

-- ---- expressions of a kind with operands

inner_shape : (ts us : List Ty) (e : Passing) (n : programs.Numbers) (k : ExprKind) →
    ((m : ℕ) → k ≡ exprs.Constant m → ⊥) → ((m : ℕ) → k ≡ exprs.Literal m → ⊥) → ((m : ℕ) → k ≡ exprs.Var m → ⊥) →
    ((m : ℕ) → k ≡ exprs.Global m → ⊥) →
    ((m : ℕ) → k ≡ exprs.Fun m → ⊥) → ((o : IntOp) (x y t : ℕ) → k ≡ exprs.Compound o x y t → ⊥) →
    shape_with n (expr_shape ts k) ≡ passed_shape e (expr_shape us k)
inner_shape ts us e n (exprs.Constant m) a b c d f g = absurd (a m refl)
inner_shape ts us e n (exprs.Literal m) a b c d f g = absurd (b m refl)
inner_shape ts us e n (exprs.Var m) a b c d f g = absurd (c m refl)
inner_shape ts us e n (exprs.Global m) a b c d f g = absurd (d m refl)
inner_shape ts us e n (exprs.Fun m) a b c d f g = absurd (f m refl)
inner_shape ts us e n (exprs.Compound o x y t) a b c d f g = absurd (g o x y t refl)
inner_shape ts us e n _ a b c d f g = refl

-- an expression that is no leaf and no compound assignment stays what it is
pub kind_kept : (s : Source) (old new : ExprKind) (xs : List ℕ) → ((m : ℕ) → old ≡ exprs.Constant m → ⊥) →
    ((m : ℕ) → old ≡ exprs.Literal m → ⊥) → ((m : ℕ) → old ≡ exprs.Var m → ⊥) → ((m : ℕ) → old ≡ exprs.Global m → ⊥) →
    ((m : ℕ) → old ≡ exprs.Fun m → ⊥) → ((o : IntOp) (x y t : ℕ) → old ≡ exprs.Compound o x y t → ⊥) →
    IsPlainWith old xs new → IsKindPassed s old xs new
kind_kept s old new xs a b c d f g h = record {
  operands = h.operands;
  shape = λ ts e fits. h.shape (λ k. k, λ k. k) ts
      ∙ inner_shape ts (types_of s.program.now.types) e (λ k. k, λ k. k) old a b c d f g;
}
