-- Written types, and calls.
use Rattle.std.proofs.Common.{◌≡◌, ℕ, true, List, [], ◌∷◌, ◌++◌, length, get_or, map, Some, refl, ap, ◌∙◌}
use Rattle.std.specs.Prelude.{slice_get}
use Rattle.ck_base.specs.declared.positions.Pos.{Pos}
use Rattle.c_tree.specs.declared.typed.Expr.{Expr}
use Rattle.c_tree.specs.declared.typed.ExprKind.TheVariants as exprs
use Rattle.c_tree.specs.Types.{Ty, Void, is_tagged}
use Rattle.c_tree.specs.Terms as tree
use Rattle.c_tree.specs.Terms.{Term, terms, with_term, term, leaf, join, type_of}
use Rattle.c_tree.specs.Views.{type_at, types_of, expr_from, no_term, term_at}
use Rattle.c_tree.specs.Passed.{Passing}
use Rattle.c_tree.proofs.Forest.{forest_reads}
use Rattle.c_copy.specs.Copying.{terms_in}
use Rattle.c_copy.proofs.Copies.{kind_is}
use Rattle.passing_steps.specs.Source.{Source}
use Rattle.passing_steps.specs.Made.{Made}
use Rattle.passing_steps.specs.Types.{Types}
use Rattle.c_passing.specs.Passes.{written_term}
use Rattle.passing_steps.specs.Ordered.{Takes}
use Rattle.passing_steps.specs.Steps.{written_type, Fits, HasTerm, HasTerms}
use Rattle.passing_steps.proofs.Ordering.{expr_first, in_push}
use Rattle.passing_steps.proofs.Trees.{term_more, term_end}
use Rattle.passing_steps.proofs.Calling.{number_same, var_made, join_made}

-- ---- what is written

pub void_same : (s : Source) (ts : List Ty) (e : Passing) → Fits s ts e → type_at ts 0 ≡ Void
void_same s ts e fits = fits.types.void

-- the type of a written expression is that of its node
pub written_of : (s : Source) (k : ℕ) (e : Expr) → slice_get s.program.now.exprs k ≡ Some e →
    type_of (written_term s k) ≡ written_type s e.of
written_of s k e g =
    let ts = types_of s.program.now.types in
    let r = forest_reads (expr_from ts) no_term s.program.now.exprs k e g in
    ap type_of (r.is ∙ kind_is ts e.kind (type_at ts e.of) e.pos (λ j. get_or r.seen j no_term))

-- ---- what is made

-- a call of what is there, with arguments that are there
pub call_made : (ts : List Ty) (es fs : List Expr) (called of j : ℕ) (list : List ℕ) (p : Pos) (f : Term)
    (ys : List Term) → fs ≡ es ++ record { kind = exprs.Call called list; of = of; pos = p } ∷ [] → j ≡ length es →
    HasTerm ts es called f →
    HasTerms ts es list ys → HasTerm ts fs j (term tree.Call (with_term f (terms ys)) (type_at ts of) p)
call_made ts es fs called of j list p f ys q r h i =
    let t = term_end ts es fs (record { kind = exprs.Call called list; of = of; pos = p }) j q r in
    record {
      there = t.there;
      is =
          t.is ∙ ap (λ x. term tree.Call (with_term x (terms (map (term_at (terms_in ts es)) list))) (type_at ts of) p)
          h.is
          ∙ ap (λ zs. term tree.Call (with_term f (terms zs)) (type_at ts of) p) i.are;
    }

-- a call with a result by a pointer: the call, the hidden local's place, and both together
pub result_made : (s : Source) (ts : List Ty) (e : Passing) (a b c d : List Expr) (h called t n : ℕ) (list : List ℕ)
    (p : Pos) (k l j : ℕ) (f : Term) (ys : List Term) → Fits s ts e → is_tagged (written_type s t) ≡ true →
    get_or s.types.now.numbers.items t 0 ≡ n → HasTerm ts a called f → HasTerms ts a list ys →
    b ≡ a ++ record { kind = exprs.Call called list; of = 0; pos = p } ∷ [] → k ≡ length a →
    c ≡ b ++ record { kind = exprs.Var h; of = n; pos = p } ∷ [] → l ≡ length b →
    d ≡ c ++ record { kind = exprs.Comma k l; of = n; pos = p } ∷ [] → j ≡ length c →
    HasTerm ts d j (join tree.Comma (term tree.Call (with_term f (terms ys)) Void p)
    (leaf (tree.Var h) (written_type s t) p) (written_type s t) p)
result_made s ts e a b c d h called t n list p k l j f ys fits g u hf hl bq kq cq lq dq jq =
    let tn = number_same s ts e t n fits g u in
    let tv = void_same s ts e fits in
    let call = call_made ts a b called 0 k list p f ys bq kq hf hl in
    let call-c = term_more ts b c k (term tree.Call (with_term f (terms ys)) (type_at ts 0) p) (_, cq) call in
    let place = var_made ts b c h n p l cq lq in
    let comma =
    join_made ts c d (record { kind = exprs.Comma k l; of = n; pos = p }) k l j
    (term tree.Call (with_term f (terms ys)) (type_at ts 0) p)
    (leaf (tree.Var h) (type_at ts n) p) dq jq refl call-c place in
    record { there = comma.there; is = comma.is ∙ rw (tn, tv) refl }

-- ---- in order

pub result_ordered : (s : Types) (a b c d : Made) (h called t n : ℕ) (list : List ℕ) (p : Pos) (k l j : ℕ) →
    get_or s.numbers.items t 0 ≡ n →
    b.exprs.items ≡ a.exprs.items ++ record { kind = exprs.Call called list; of = 0; pos = p } ∷ [] →
    b ≡ record a { exprs = b.exprs } → k ≡ length a.exprs.items →
    c.exprs.items ≡ b.exprs.items ++ record { kind = exprs.Var h; of = n; pos = p } ∷ [] →
    c ≡ record b { exprs = c.exprs } → l ≡ length b.exprs.items →
    d.exprs.items ≡ c.exprs.items ++ record { kind = exprs.Comma k l; of = n; pos = p } ∷ [] →
    d ≡ record c { exprs = d.exprs } → j ≡ length c.exprs.items → Takes s a d (called ∷ list) [] (j ∷ []) []
result_ordered s a b c d h called t n list p k l j u bq br kq cq cr lq dq dr jq = λ z us vs o.
    let w = length s.list.items in
    let tn = z.numbers t n u in
    let one = in_push w a b (record { kind = exprs.Call called list; of = 0; pos = p }) k (called ∷ list) bq
    (ap (λ (y : Made). y.stmts.items) br) kq z.void refl us vs o in
    let two = in_push w b c (record { kind = exprs.Var h; of = n; pos = p }) l [] cq
    (ap (λ (y : Made). y.stmts.items) cr) lq tn refl (k ∷ us) vs one in
    let three = expr_first w c.exprs.items c.stmts.items k (l ∷ []) us vs two in
    in_push w c d (record { kind = exprs.Comma k l; of = n; pos = p }) j (k ∷ l ∷ []) dq
    (ap (λ (y : Made). y.stmts.items) dr) jq tn refl us vs three
