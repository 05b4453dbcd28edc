-- A statement as it is run, from its parts.
use Rattle.std.proofs.Common.{◌≡◌, ℕ, ◌+◌, ◌<◌, ◌≤◌, false, List, [], ◌∷◌, ◌++◌, length, take, drop, map, Option, Some}
use Rattle.std.proofs.Common.{None, refl, sym, ap, subst, ◌∙◌, arith}
use Rattle.std.specs.Prelude.{slice_get}
use Rattle.std.proofs.lemmas.List.{append-nil, take-map, drop-map, length-take, get_or-take, get_or_past}
use Rattle.c_tree.specs.declared.typed.Stmt.{Stmt}
use Rattle.c_tree.specs.declared.typed.StmtKind.{StmtKind}
use Rattle.c_tree.specs.declared.typed.StmtKind.TheVariants as stmts
use Rattle.c_tree.specs.Types.{Ty, bare}
use Rattle.c_tree.specs.Terms as tree
use Rattle.c_tree.specs.Terms.{Variable, Term, terms, type_of, action, actions}
use Rattle.c_tree.specs.Views.{values, parts, nowhere, no_action, actions_of}
use Rattle.c_tree.specs.Passed.{Names, Passing, by_pointer, hidden_in, hidden_of, ahead, passed_form, passed_term}
use Rattle.c_tree.specs.Passed.{passed_action, given_back}
use Rattle.c_copy.specs.Copying.{Extends, stmt_form}
use Rattle.c_copy.proofs.Copies.{action_same, extends_same, extends_then, extends_push}
use Rattle.passing_steps.specs.Source.{Source}
use Rattle.passing_steps.specs.Made.{Made}
use Rattle.c_passing.specs.Lists.{hidden_in_each, hidden_of_each, passed_each, passed_each_action}
use Rattle.c_passing.specs.Passes.{written_term, written_action, written_before, AddsTerms, IsPassed, ArePassed}
use Rattle.c_passing.specs.Passes.{AddsActions, IsGivenValue, IsReturned, IsPassedAction, ArePassedActions}
use Rattle.c_passing.proofs.Stating.{written_action_is, hidden_action, GivesPlainly, action_passed_is}
use Rattle.c_passing.proofs.Stating.{return_by_pointer}
use Rattle.c_passing.proofs.Each.{one_term, no_statements_add}
use Rattle.passing_steps.specs.Steps.{written_type, Fits, HasTerms, HasAction, HasActions, Hides, IsGivenBack}
use Rattle.passing_steps.proofs.Calling.{hides_none, hides_then, hides_vars, hides_count}
use Rattle.passing_steps.proofs.Ordering.{in_then, in_stmt}
use Rattle.passing_steps.proofs.Trees.{no_terms_have, terms_more, action_made, no_actions_have, actions_more}

-- ---- a statement that gives nothing back by a pointer

form_returns : (k : StmtKind) → stmt_form k ≡ tree.Return → (o : Option ℕ) × (k ≡ stmts.Return o)
form_returns (stmts.Return o) e = (o, refl)
form_returns (stmts.Expr a) e = absurd cc
form_returns (stmts.Init var offset a) e = absurd cc
form_returns (stmts.Block vars body) e = absurd cc
form_returns (stmts.If a x y) e = absurd cc
form_returns (stmts.While a x) e = absurd cc
form_returns (stmts.Do x a) e = absurd cc
form_returns (stmts.For vars first a b x) e = absurd cc
form_returns (stmts.Switch a vars labels body) e = absurd cc
form_returns stmts.Break e = absurd cc
form_returns stmts.Continue e = absurd cc
form_returns stmts.Empty e = absurd cc

gives_plainly : (s : Source) (k : StmtKind) → IsReturned s k None →
    GivesPlainly (stmt_form k) (map (written_term s) (values k))
gives_plainly s k h = λ x e q.
    let r = form_returns k e in
    by r.0 r.1 x q
  where
    by : (o : Option ℕ) → k ≡ stmts.Return o → (x : Term) → map (written_term s) (values k) ≡ x ∷ [] →
        by_pointer (type_of x) ≡ false
    by None e x q =
        absurd (let z : map (written_term s) (values (stmts.Return None)) ≡ x ∷ [] =
        ap (λ z. map (written_term s) (values z)) (sym e) ∙ q in cc)
    by (Some a) e x q =
        let z : map (written_term s) (values (stmts.Return (Some a))) ≡ x ∷ [] =
        ap (λ z. map (written_term s) (values z)) (sym e) ∙ q in
        let is : written_term s a ≡ x = cc in
        subst (λ y. by_pointer (type_of y) ≡ false) is (h a e)

pub record Built (s : Source) (old a b c new : Made) (k j : ℕ) (d r : Stmt) (vs js ls : List ℕ) : Type 0 where
  pub there : slice_get s.program.now.stmts k ≡ Some d
  pub plainly : IsReturned s d.kind None
  pub front : AddsActions s old a
      (λ names. hidden_of_each names (map (written_before s k) (take (ahead (stmt_form d.kind)) (parts d.kind))))
      (ArePassedActions s old a (map (written_before s k) (take (ahead (stmt_form d.kind)) (parts d.kind))) [] js)
  pub mid : AddsTerms s a b (λ names. hidden_in_each names (map (written_term s) (values d.kind)))
      (ArePassed s a b (map (written_term s) (values d.kind)) vs)
  pub back : AddsActions s b c
      (λ names. hidden_of_each names (map (written_before s k) (drop (ahead (stmt_form d.kind)) (parts d.kind))))
      (ArePassedActions s b c (map (written_before s k) (drop (ahead (stmt_form d.kind)) (parts d.kind))) js ls)
  pub values_are : values r.kind ≡ vs
  pub parts_are : parts r.kind ≡ ls
  pub form : (ts : List Ty) (e : Passing) → Fits s ts e → stmt_form r.kind ≡ passed_form e (stmt_form d.kind)
  pub place : r.pos ≡ d.pos
  pub pushed : new.stmts.items ≡ c.stmts.items ++ r ∷ []
  pub number : j ≡ length c.stmts.items
  pub rest : new ≡ record c { stmts = new.stmts }

statement_hides : (s : Source) (old a b c new : Made) (k j : ℕ) (d r : Stmt) (vs js ls : List ℕ) →
    Built s old a b c new k j d r vs js ls → Hides s old new (λ names. hidden_of names (written_action s k))
statement_hides s old a b c new k j d r vs js ls h =
    let n = ahead (stmt_form d.kind) in
    let ps = parts d.kind in
    let first : Names → List Variable = λ names. hidden_of_each names (map (written_before s k) (take n ps)) in
    let mid : Names → List Variable = λ names. hidden_in_each names (map (written_term s) (values d.kind)) in
    let last : Names → List Variable = λ names. hidden_of_each names (map (written_before s k) (drop n ps)) in
    let both = hides_then s old a b first mid h.front.hides h.mid.hides in
    let all = hides_then s old b c (λ names. first names ++ mid names) last both h.back.hides in
    hides_vars s old c old new (λ names. (first names ++ mid names) ++ last names)
    (λ names. hidden_of names (written_action s k)) refl (ap (λ (m : Made). m.vars) h.rest)
    (λ names.
    sym (ap (hidden_of names) (written_action_is s k d h.there)
    ∙ hidden_action names (stmt_form d.kind) (map (written_term s) (values d.kind)) (map (written_before s k) ps) d.pos
    ∙ ap (λ ys. (hidden_of_each names ys ++ mid names) ++ hidden_of_each names (drop n (map (written_before s k) ps)))
    (take-map (written_before s k) n ps)
    ∙ ap (λ ys. (first names ++ mid names) ++ hidden_of_each names ys) (drop-map (written_before s k) n ps)))
    all

statement_passed : (s : Source) (old a b c new : Made) (k j : ℕ) (d r : Stmt) (vs js ls : List ℕ) →
    Built s old a b c new k j d r vs js ls → IsPassedAction s old new (written_action s k) j
statement_passed s old a b c new k j d r vs js ls h = record {
  is = λ ts e fits.
      let f = stmt_form d.kind in
      let n = ahead f in
      let ps = parts d.kind in
      let xs = map (written_term s) (values d.kind) in
      let ys = map (written_before s k) ps in
      let front = map (written_before s k) (take n ps) in
      let back = map (written_before s k) (drop n ps) in
      let u = length old.vars.items in
      let v = length a.vars.items in
      let w = length b.vars.items in
      let v_is : v ≡ u + length (hidden_of_each e.names front) =
      hides_count s old a (λ names. hidden_of_each names front) ts e h.front.hides fits in
      let w_is : w ≡ v + length (hidden_in_each e.names xs) =
      hides_count s a b (λ names. hidden_in_each names xs) ts e h.mid.hides fits in
      let one = h.front.is.are ts e [] fits (no_actions_have ts old.exprs.items old.stmts.items) in
      let one-b = actions_more ts a.exprs.items b.exprs.items a.stmts.items b.stmts.items js
      (passed_each_action e u front) h.mid.extends
      ([], ap (λ z. z.items) h.mid.stmts ∙ sym (append-nil a.stmts.items)) one in
      let two = h.back.is.are ts e (passed_each_action e u front) fits one-b in
      let terms-c = terms_more ts b.exprs.items c.exprs.items vs (passed_each e v xs) h.back.exprs
      (h.mid.is.are ts e fits) in
      let zs = passed_each_action e u front ++ passed_each_action e w back in
      let made =
      action_made ts c.exprs.items c.stmts.items new.stmts.items r j (passed_each e v xs) zs h.pushed h.number
      (subst (λ ks. HasTerms ts c.exprs.items ks (passed_each e v xs)) (sym h.values_are) terms-c)
      (subst (λ ks. HasActions ts c.exprs.items c.stmts.items ks zs) (sym h.parts_are) two) in
      let is : action (stmt_form r.kind) (terms (passed_each e v xs)) (actions zs) r.pos
      ≡ passed_action e u (written_action s k) =
      action_same (stmt_form r.kind) (passed_form e f) (terms (passed_each e v xs)) (terms (passed_each e v xs))
      (actions zs) (actions zs) r.pos d.pos (h.form ts e fits) refl refl h.place
      ∙ sym (ap (passed_action e u) (written_action_is s k d h.there)
      ∙ action_passed_is e u f xs ys d.pos (gives_plainly s d.kind h.plainly)
      ∙ rw (take-map (written_before s k) n ps, drop-map (written_before s k) n ps, ← v_is, ← w_is) refl) in
      subst (λ z. HasAction ts new.exprs.items new.stmts.items j z) is (rw (ap (λ (m : Made). m.exprs) h.rest) made);
  ordered = λ t us ws o.
      in_stmt (length s.types.now.list.items) c new r j vs ls h.pushed
      (ap (λ (m : Made). m.exprs.items) h.rest) h.number
      h.values_are h.parts_are us ws
      (h.back.is.ordered t (vs ++ us) ws (h.mid.is.ordered t us (js ++ ws) (h.front.is.ordered t us ws o)));
}

pub statement_made : (s : Source) (old a b c new : Made) (k j : ℕ) (d r : Stmt) (vs js ls : List ℕ) →
    Built s old a b c new k j d r vs js ls →
    AddsActions s old new (λ names. hidden_of names (written_action s k))
    (IsPassedAction s old new (written_action s k) j)
statement_made s old a b c new k j d r vs js ls h = record {
  exprs = subst (λ es. Extends old.exprs.items es) (sym (ap (λ (m : Made). m.exprs.items) h.rest))
      (extends_then old.exprs.items b.exprs.items c.exprs.items
      (extends_then old.exprs.items a.exprs.items b.exprs.items h.front.exprs h.mid.extends) h.back.exprs);
  stmts =
      extends_push old.stmts.items c.stmts.items new.stmts.items r
      (extends_then old.stmts.items a.stmts.items c.stmts.items h.front.stmts
      (subst (λ ss. Extends ss.items c.stmts.items) h.mid.stmts h.back.stmts)) h.pushed;
  hides = statement_hides s old a b c new k j d r vs js ls h;
  is = statement_passed s old a b c new k j d r vs js ls h;
}

-- an expression that is a statement
pub expression_made : (s : Source) (old mid new : Made) (k a v j : ℕ) (d : Stmt) →
    slice_get s.program.now.stmts k ≡ Some d → d.kind ≡ stmts.Expr a →
    AddsTerms s old mid (λ names. hidden_in names (written_term s a)) (IsPassed s old mid (written_term s a) v) →
    new.stmts.items ≡ mid.stmts.items ++ record { kind = stmts.Expr v; pos = d.pos } ∷ [] →
    new ≡ record mid { stmts = new.stmts } → j ≡ length mid.stmts.items →
    AddsActions s old new (λ names. hidden_of names (written_action s k))
    (IsPassedAction s old new (written_action s k) j)
expression_made s old mid new k a v j d there is h items rest number =
    let shown : Stmt = record { kind = stmts.Expr a; pos = d.pos } in
    let same : d ≡ shown = λ i. record { kind = is i; pos = d.pos } in
    let made : Stmt = record { kind = stmts.Expr v; pos = d.pos } in
    let built : Built s old old mid mid new k j shown made (v ∷ []) [] [] = record {
      there = there ∙ ap Some same;
      plainly = λ b e. cc;
      front = no_statements_add s old [];
      mid = one_term s old mid a v h;
      back = no_statements_add s mid [];
      values_are = refl;
      parts_are = refl;
      form = λ ts e fits. refl;
      place = refl;
      pushed = items;
      number = number;
      rest = rest;
    } in
    statement_made s old old mid mid new k j shown made (v ∷ []) [] [] built

-- ---- and one that does

returned_is : (s : Source) (k x : ℕ) (d : Stmt) → slice_get s.program.now.stmts k ≡ Some d →
    d.kind ≡ stmts.Return (Some x) →
    written_action s k ≡ action tree.Return (terms (written_term s x ∷ [])) (actions []) d.pos
returned_is s k x d g q =
    written_action_is s k d g
    ∙ ap (λ z. action (stmt_form z) (terms (map (written_term s) (values z)))
    (actions (map (written_before s k) (parts z))) d.pos) q

returned_hides : (s : Source) (old a new : Made) (k x : ℕ) (d : Stmt) → slice_get s.program.now.stmts k ≡ Some d →
    d.kind ≡ stmts.Return (Some x) → Hides s old a (λ names. hidden_in names (written_term s x)) → new.vars ≡ a.vars →
    Hides s old new (λ names. hidden_of names (written_action s k))
returned_hides s old a new k x d g q h v =
    hides_vars s old a old new (λ names. hidden_in names (written_term s x))
    (λ names. hidden_of names (written_action s k)) refl v
    (λ names. sym (ap (hidden_of names) (returned_is s k x d g q)
    ∙ append-nil (hidden_in names (written_term s x) ++ []) ∙ append-nil (hidden_in names (written_term s x))))
    h

returned_passed : (s : Source) (old a new : Made) (k x t value j : ℕ) (d : Stmt) →
    slice_get s.program.now.stmts k ≡ Some d → IsReturned s d.kind (Some (x, t)) →
    IsPassed s old a (written_term s x) value → IsGivenBack s a new value t d.pos j →
    IsPassedAction s old new (written_action s k) j
returned_passed s old a new k x t value j d g r p h = record {
  is = λ ts e fits.
      let n = length old.vars.items in
      let y = passed_term e n (written_term s x) in
      let is : given_back y (written_type s t) d.pos ≡ passed_action e n (written_action s k) =
      ap (λ u. given_back y u d.pos) r.2
      ∙ sym (ap (passed_action e n) (returned_is s k x d g r.0)
      ∙ return_by_pointer e n (written_term s x) d.pos r.1) in
      subst (λ z. HasAction ts new.exprs.items new.stmts.items j z) is (h.is ts e y fits (p.is ts e fits));
  ordered = λ z. in_then (length s.types.now.list.items) old a new [] [] (value ∷ []) [] [] (j ∷ []) (p.ordered z)
      (h.ordered z);
}

pub returned_made : (s : Source) (old a new : Made) (k x t value j : ℕ) (d : Stmt) →
    slice_get s.program.now.stmts k ≡ Some d → IsReturned s d.kind (Some (x, t)) →
    AddsTerms s old a (λ names. hidden_in names (written_term s x)) (IsPassed s old a (written_term s x) value) →
    IsGivenBack s a new value t d.pos j →
    AddsActions s old new (λ names. hidden_of names (written_action s k))
    (IsPassedAction s old new (written_action s k) j)
returned_made s old a new k x t value j d g r p h = record {
  exprs = extends_then old.exprs.items a.exprs.items new.exprs.items p.extends h.exprs;
  stmts = subst (λ ss. Extends ss.items new.stmts.items) p.stmts h.stmts;
  hides = returned_hides s old a new k x d g r.0 p.hides h.vars;
  is = returned_passed s old a new k x t value j d g r p.is h;
}

-- ---- a part of a statement

pub written_before_is : (s : Source) (n k : ℕ) → k < n → written_before s n k ≡ written_action s k
written_before_is s n k lt = get_or-take n (actions_of s.program.now) k no_action lt

-- where its number names none
pub written_past : (s : Source) (n k : ℕ) → n ≤ k → written_before s n k ≡ no_action
written_past s n k le =
    let all = actions_of s.program.now in
    get_or_past (take n all) k no_action (omega (arith, length-take n all))

pub empty_made : (s : Source) (old new : Made) (j : ℕ) →
    new.stmts.items ≡ old.stmts.items ++ record { kind = stmts.Empty; pos = nowhere } ∷ [] →
    new ≡ record old { stmts = new.stmts } → j ≡ length old.stmts.items →
    AddsActions s old new (λ names. hidden_of names no_action) (IsPassedAction s old new no_action j)
empty_made s old new j items rest number =
    let d : Stmt = record { kind = stmts.Empty; pos = nowhere } in
    let same : new.exprs.items ≡ old.exprs.items = ap (λ (m : Made). m.exprs.items) rest in
    record {
      exprs = subst (Extends old.exprs.items) (sym same) (extends_same old.exprs.items);
      stmts = extends_push old.stmts.items old.stmts.items new.stmts.items d (extends_same old.stmts.items) items;
      hides = hides_none s old new (ap (λ (m : Made). m.vars) rest);
      is = record {
        is = λ ts e fits. action_made ts new.exprs.items old.stmts.items new.stmts.items d j [] [] items number
            (no_terms_have ts new.exprs.items) (no_actions_have ts new.exprs.items old.stmts.items);
        ordered = λ t. in_stmt (length s.types.now.list.items) old new d j [] [] items same number refl refl;
      };
    }

-- ---- what is returned

pub value_returned : (s : Source) (a : ℕ) (o : Option (ℕ × ℕ)) → IsGivenValue s a o →
    IsReturned s (stmts.Return (Some a)) o
value_returned s a None h =
    λ x q. let same : a ≡ x = cc in subst (λ y. by_pointer (type_of (written_term s y)) ≡ false) same h
value_returned s a (Some x) h = (
  ap (λ y. stmts.Return (Some y)) h.0,
  ap (λ y. by_pointer (type_of (written_term s y))) (sym h.0) ∙ h.1,
  h.2
      ∙ ap (λ y. bare (type_of (written_term s y))) h.0,
)
