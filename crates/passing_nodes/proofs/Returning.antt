-- What a pointer points to, and a value that is given back there.
use Rattle.std.proofs.Common.{◌≡◌, ℕ, true, List, [], ◌∷◌, ◌++◌, length, get_or, None, refl, sym, ap, subst, ◌∙◌}
use Rattle.std.proofs.lemmas.List.{append-nil}
use Rattle.ck_base.specs.declared.positions.Pos.{Pos}
use Rattle.c_tree.specs.declared.typed.Expr.{Expr}
use Rattle.c_tree.specs.declared.typed.ExprKind.TheVariants as exprs
use Rattle.c_tree.specs.declared.typed.Stmt.{Stmt}
use Rattle.c_tree.specs.declared.typed.StmtKind.TheVariants as stmts
use Rattle.c_tree.specs.Types.{Ty, is_tagged}
use Rattle.c_tree.specs.Terms as tree
use Rattle.c_tree.specs.Terms.{Term, leaf, step, join, Action}
use Rattle.c_tree.specs.Views.{type_at}
use Rattle.c_tree.specs.Passed.{Passing, behind}
use Rattle.c_copy.specs.Copying.{Extends}
use Rattle.c_copy.proofs.Copies.{extends_push}
use Rattle.passing_nodes.specs.declared.nodes.Source.{Source}
use Rattle.passing_nodes.specs.declared.nodes.Made.{Made}
use Rattle.passing_nodes.specs.Steps.{written_type, Fits, HasTerm, HasTerms, HasAction, HasActions, Makes}
use Rattle.passing_nodes.specs.Steps.{IsGivenBack}
use Rattle.passing_nodes.proofs.Calling.{number_same, pointer_same, join_made}
use Rattle.passing_nodes.proofs.Ordering.{stmt_first, in_push, in_stmt}
use Rattle.passing_nodes.proofs.Trees.{term_more, no_terms_have, terms_push, action_more, action_made}
use Rattle.passing_nodes.proofs.Trees.{no_actions_have, actions_push}

-- what a variable points to, that has the type of the pointer to a struct or union
abbrev pub pointed : (k pointer of : ℕ) → Pos → List Ty → Term
pointed k pointer of p = λ ts. step tree.Deref
    (step tree.Load (leaf (tree.Var k) (type_at ts pointer) p) (type_at ts pointer) p) (type_at ts of) p

pub behind_made : (s : Source) (ts : List Ty) (e : Passing) (old a : Made) (k t n m : ℕ) (p : Pos) (j : ℕ) →
    Fits s ts e →
    is_tagged (written_type s t) ≡ true → get_or s.types.now.numbers.items t 0 ≡ n →
    get_or s.types.now.pointers.items t 0 ≡ m → Makes old a m n (pointed k m n p) j →
    HasTerm ts a.exprs.items j (behind k (written_type s t) p)
behind_made s ts e old a k t n m p j fits g u v h =
    let tn = number_same s ts e t n fits g u in
    let tm = pointer_same s ts e t m fits g v in
    record { there = (h.is ts).there; is = (h.is ts).is ∙ rw (tn, tm) refl }

pub one_has : (ts : List Ty) (es : List Expr) (j : ℕ) (x : Term) → HasTerm ts es j x → HasTerms ts es (j ∷ []) (x ∷ [])
one_has ts es j x h = terms_push ts es [] (j ∷ []) j [] x refl (no_terms_have ts es) h

two_have : (ts : List Ty) (es : List Expr) (ss : List Stmt) (i j : ℕ) (x y : Action) → HasAction ts es ss i x →
    HasAction ts es ss j y → HasActions ts es ss (i ∷ j ∷ []) (x ∷ y ∷ [])
two_have ts es ss i j x y h g =
    actions_push ts es ss (i ∷ []) (i ∷ j ∷ []) j (x ∷ []) y refl
    (actions_push ts es ss [] (i ∷ []) i [] x refl (no_actions_have ts es ss) h) g

-- the place, the assignment, and the three statements
pub record GivesBack (s : Source) (old a b c d new : Made) (value t n m place assigned first second j : ℕ) (p : Pos) :
    Type 0 where
  pub number : get_or s.types.now.numbers.items t 0 ≡ n
  pub pointer : get_or s.types.now.pointers.items t 0 ≡ m
  pub behind : Makes old a m n (pointed 0 m n p) place
  pub assign : b.exprs.items ≡ a.exprs.items ++ record { kind = exprs.Assign place value; of = n; pos = p } ∷ []
  pub assigned_is : assigned ≡ length a.exprs.items
  pub evaluate : c.stmts.items ≡ b.stmts.items ++ record { kind = stmts.Expr assigned; pos = p } ∷ []
  pub first_is : first ≡ length b.stmts.items
  pub leave : d.stmts.items ≡ c.stmts.items ++ record { kind = stmts.Return None; pos = p } ∷ []
  pub second_is : second ≡ length c.stmts.items
  pub block : new.stmts.items ≡ d.stmts.items ++ record { kind = stmts.Block [] (first ∷ second ∷ []); pos = p } ∷ []
  pub number_is : j ≡ length d.stmts.items
  pub assign_rest : b ≡ record a { exprs = b.exprs }
  pub first_rest : c ≡ record b { stmts = c.stmts }
  pub second_rest : d ≡ record c { stmts = d.stmts }
  pub block_rest : new ≡ record d { stmts = new.stmts }

pub given_back_made : (s : Source) (old a b c d new : Made) (value t n m place assigned first second j : ℕ) (p : Pos) →
    is_tagged (written_type s t) ≡ true →
    GivesBack s old a b c d new value t n m place assigned first second j p → IsGivenBack s old new value t p j
given_back_made s old a b c d new value t n m place assigned first second j p g st =
    let in_exprs : Made → List Expr = λ x. x.exprs.items in
    let in_stmts : Made → List Stmt = λ x. x.stmts.items in
    let same_c : c.exprs.items ≡ b.exprs.items = ap in_exprs st.first_rest in
    let same_d : d.exprs.items ≡ c.exprs.items = ap in_exprs st.second_rest in
    let same_new : new.exprs.items ≡ d.exprs.items = ap in_exprs st.block_rest in
    let same : new.exprs.items ≡ b.exprs.items = same_new ∙ same_d ∙ same_c in
    let kept : b.stmts.items ≡ a.stmts.items = ap in_stmts st.assign_rest in
    record {
      exprs = subst (Extends old.exprs.items) (sym same)
          (extends_push old.exprs.items a.exprs.items b.exprs.items _ st.behind.extends st.assign);
      stmts =
          extends_push old.stmts.items d.stmts.items new.stmts.items _
          (extends_push old.stmts.items c.stmts.items d.stmts.items _
          (extends_push old.stmts.items b.stmts.items c.stmts.items _
          ([], kept ∙ ap in_stmts st.behind.rest ∙ sym (append-nil old.stmts.items)) st.evaluate) st.leave) st.block;
      vars = ap (λ (x : Made). x.vars) st.block_rest ∙ ap (λ (x : Made). x.vars) st.second_rest
          ∙ ap (λ (x : Made). x.vars) st.first_rest ∙ ap (λ (x : Made). x.vars) st.assign_rest
          ∙ ap (λ (x : Made). x.vars) st.behind.rest;
      is = λ ts e y fits hv.
          let es = b.exprs.items in
          let w = written_type s t in
          let value-a = term_more ts old.exprs.items a.exprs.items value y st.behind.extends hv in
          let place-a = behind_made s ts e old a 0 t n m p place fits g st.number st.pointer st.behind in
          let made = join_made ts a.exprs.items es
          (record { kind = exprs.Assign place value; of = n; pos = p }) place value assigned
          (behind 0 w p) y st.assign st.assigned_is refl place-a value-a in
          let assign : HasTerm ts es assigned (join tree.Assign (behind 0 w p) y w p) =
          record {
            there = made.there;
            is = made.is
                ∙ ap (λ u. join tree.Assign (behind 0 w p) y u p) (number_same s ts e t n fits g st.number);
          } in
          let one =
          action_made ts es b.stmts.items c.stmts.items (record { kind = stmts.Expr assigned; pos = p }) first
          (join tree.Assign (behind 0 w p) y w p ∷ []) [] st.evaluate st.first_is
          (one_has ts es assigned (join tree.Assign (behind 0 w p) y w p) assign)
          (no_actions_have ts es b.stmts.items) in
          let two = action_made ts es c.stmts.items d.stmts.items (record { kind = stmts.Return None; pos = p })
          second []
          [] st.leave st.second_is (no_terms_have ts es) (no_actions_have ts es c.stmts.items) in
          let one-d = action_more ts es es c.stmts.items d.stmts.items first _ ([], sym (append-nil es))
          (_, st.leave) one in
          let all =
          action_made ts es d.stmts.items new.stmts.items
          (record { kind = stmts.Block [] (first ∷ second ∷ []); pos = p }) j [] (_ ∷ _ ∷ []) st.block st.number_is
          (no_terms_have ts es)
          (two_have ts es d.stmts.items first second _ _ one-d two) in
          rw same all;
      ordered = λ z us vs o.
          let k = length s.types.now.list.items in
          let tn = z.numbers t n st.number in
          let one = in_push k a b (record { kind = exprs.Assign place value; of = n; pos = p }) assigned
          (place ∷ value ∷ []) st.assign kept st.assigned_is tn refl us vs
          (st.behind.ordered k (z.pointers t m st.pointer) tn (value ∷ us) vs o) in
          let two = in_stmt k b c (record { kind = stmts.Expr assigned; pos = p }) first (assigned ∷ []) [] st.evaluate
          same_c st.first_is refl refl us vs one in
          let three = in_stmt k c d (record { kind = stmts.Return None; pos = p }) second [] [] st.leave same_d
          st.second_is refl refl us (first ∷ vs) two in
          let four = stmt_first k d.exprs.items d.stmts.items first us (second ∷ []) vs three in
          in_stmt k d new (record { kind = stmts.Block [] (first ∷ second ∷ []); pos = p }) j [] (first ∷ second ∷ [])
          st.block same_new st.number_is refl refl us vs four;
    }
