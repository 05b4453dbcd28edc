-- Expressions and statements of lists that grow at their ends.
use Rattle.std.proofs.Common.{◌≡◌, ℕ, ◌<◌, ◌≤◌, List, [], ◌∷◌, ◌++◌, length, map, refl, sym, ap, ◌∙◌, ⊎_elim, arith}
use Rattle.std.proofs.Common.{length-append}
use Rattle.std.specs.Prelude.{slice_get}
use Rattle.std.proofs.lemmas.List.{map-append}
use Rattle.c_tree.specs.declared.typed.Expr.{Expr}
use Rattle.c_tree.specs.declared.typed.Stmt.{Stmt}
use Rattle.c_tree.specs.Types.{Ty}
use Rattle.c_tree.specs.Terms.{Term, terms, term, Action, actions, action}
use Rattle.c_tree.specs.Views.{type_at, expr_from, no_term, term_at, stmt_from, no_action, action_at, operands}
use Rattle.c_tree.specs.Views.{values, parts}
use Rattle.c_copy.specs.Copying.{AllBelow, Extends, expr_shape, stmt_form, terms_in, actions_in}
use Rattle.c_copy.proofs.Copies.{at_seam, forest_front, map_seen, kind_is, action_is, longer}
use Rattle.c_copy.proofs.Items.{get-push}
use Rattle.passing_nodes.specs.Steps.{HasTerm, HasTerms, HasAction, HasActions}

-- ---- expressions

pub term_more : (ts : List Ty) (es fs : List Expr) (j : ℕ) (x : Term) → Extends es fs → HasTerm ts es j x →
    HasTerm ts fs j x
term_more ts es fs j x e h =
    rw (e.1) (record {
      there = let l = h.there in
          omega (arith, length-append es e.0);
      is = forest_front (expr_from ts) no_term es e.0 j h.there ∙ h.is;
    })

-- the expression at the end of a list
pub term_end : (ts : List Ty) (es fs : List Expr) (d : Expr) (j : ℕ) → fs ≡ es ++ d ∷ [] → j ≡ length es →
    HasTerm ts fs j (term (expr_shape ts d.kind) (terms (map (term_at (terms_in ts es)) (operands d.kind)))
    (type_at ts d.of) d.pos)
term_end ts es fs d j e k =
    rw (e, k) (record {
      there = omega (arith, length-append es (d ∷ []));
      is = at_seam (expr_from ts) no_term es d []
          ∙ kind_is ts d.kind (type_at ts d.of) d.pos (term_at (terms_in ts es));
    })

terms_seen : (ts : List Ty) (es more : List Expr) (js : List ℕ) → AllBelow (length es) js →
    map (term_at (terms_in ts (es ++ more))) js ≡ map (term_at (terms_in ts es)) js
terms_seen ts es more js b =
    map_seen (term_at (terms_in ts (es ++ more))) (term_at (terms_in ts es)) js (length es) b
    (λ j lt. forest_front (expr_from ts) no_term es more j lt)

below_more : (m n : ℕ) (js : List ℕ) → m ≤ n → AllBelow m js → AllBelow n js
below_more m n js le b = λ k a e. let l = b k a e in omega arith

pub terms_more : (ts : List Ty) (es fs : List Expr) (js : List ℕ) (xs : List Term) → Extends es fs →
    HasTerms ts es js xs → HasTerms ts fs js xs
terms_more ts es fs js xs e h =
    rw (e.1) (record {
      there = below_more (length es) (length (es ++ e.0)) js
          (omega (arith, length-append es e.0)) h.there;
      are = terms_seen ts es e.0 js h.there ∙ h.are;
    })

pub no_terms_have : (ts : List Ty) (es : List Expr) → HasTerms ts es [] []
no_terms_have ts es = record { there = λ k a e. absurd cc; are = refl }

below_push : (n : ℕ) (js ls : List ℕ) (j : ℕ) → ls ≡ js ++ j ∷ [] → AllBelow n js → j < n → AllBelow n ls
below_push n js ls j e b lt =
    λ k a g. ⊎_elim (λ h. b k a h) (λ h. rw (← h.1) lt) (get-push js j k a (ap (λ zs. slice_get zs k) (sym e) ∙ g))

map_push : {A B : Type 0} (f : A → B) (xs : List A) (ys : List B) (x : A) (y : B) → map f xs ≡ ys → f x ≡ y →
    map f (xs ++ x ∷ []) ≡ ys ++ y ∷ []
map_push f xs ys x y e h = map-append f xs (x ∷ []) ∙ ap (λ zs. zs ++ f x ∷ []) e ∙ ap (λ z. ys ++ z ∷ []) h

pub terms_push : (ts : List Ty) (es : List Expr) (js ls : List ℕ) (j : ℕ) (xs : List Term) (x : Term) →
    ls ≡ js ++ j ∷ [] → HasTerms ts es js xs → HasTerm ts es j x → HasTerms ts es ls (xs ++ x ∷ [])
terms_push ts es js ls j xs x e h i = record {
  there = below_push (length es) js ls j e h.there i.there;
  are = ap (map (term_at (terms_in ts es))) e ∙ map_push (term_at (terms_in ts es)) js xs j x h.are i.is;
}

-- ---- statements

pub action_more : (ts : List Ty) (es fs : List Expr) (ss us : List Stmt) (j : ℕ) (x : Action) → Extends es fs →
    Extends ss us → HasAction ts es ss j x → HasAction ts fs us j x
action_more ts es fs ss us j x e g h =
    rw (g.1) (record {
      there = let l = h.there in omega (arith, length-append ss g.0);
      is = λ more.
          forest_front (stmt_from (terms_in ts (fs ++ more))) no_action ss g.0 j h.there
          ∙ ap (λ zs. action_at (actions_in ts zs ss) j) (longer es fs more e) ∙ h.is (e.0 ++ more);
    })

-- the statement at the end of a list
pub action_end : (ts : List Ty) (es more : List Expr) (ss us : List Stmt) (d : Stmt) (j : ℕ) → us ≡ ss ++ d ∷ [] →
    j ≡ length ss →
    action_at (actions_in ts (es ++ more) us) j
    ≡ action (stmt_form d.kind) (terms (map (term_at (terms_in ts (es ++ more))) (values d.kind)))
    (actions (map (action_at (actions_in ts (es ++ more) ss)) (parts d.kind))) d.pos
action_end ts es more ss us d j e k =
    rw (e, k) (at_seam (stmt_from (terms_in ts (es ++ more))) no_action ss d []
    ∙ action_is (terms_in ts (es ++ more)) d.kind d.pos (action_at (actions_in ts (es ++ more) ss)))

-- a statement of expressions and statements that are there
pub action_made : (ts : List Ty) (es : List Expr) (ss us : List Stmt) (d : Stmt) (j : ℕ) (xs : List Term)
    (ys : List Action) → us ≡ ss ++ d ∷ [] → j ≡ length ss →
    HasTerms ts es (values d.kind) xs → HasActions ts es ss (parts d.kind) ys →
    HasAction ts es us j (action (stmt_form d.kind) (terms xs) (actions ys) d.pos)
action_made ts es ss us d j xs ys e k h i = record {
  there = rw (e, k) (omega (arith, length-append ss (d ∷ [])));
  is = λ more.
      action_end ts es more ss us d j e k
      ∙ ap (λ zs. action (stmt_form d.kind) (terms zs)
      (actions (map (action_at (actions_in ts (es ++ more) ss)) (parts d.kind))) d.pos)
      (terms_seen ts es more (values d.kind) h.there ∙ h.are)
      ∙ ap (λ zs. action (stmt_form d.kind) (terms xs) (actions zs) d.pos) (i.are more);
}

actions_seen : (ts : List Ty) (es : List Expr) (ss more : List Stmt) (js : List ℕ) → AllBelow (length ss) js →
    map (action_at (actions_in ts es (ss ++ more))) js ≡ map (action_at (actions_in ts es ss)) js
actions_seen ts es ss more js b =
    map_seen (action_at (actions_in ts es (ss ++ more))) (action_at (actions_in ts es ss)) js (length ss) b
    (λ j lt. forest_front (stmt_from (terms_in ts es)) no_action ss more j lt)

pub actions_more : (ts : List Ty) (es fs : List Expr) (ss us : List Stmt) (js : List ℕ) (xs : List Action) →
    Extends es fs → Extends ss us → HasActions ts es ss js xs → HasActions ts fs us js xs
actions_more ts es fs ss us js xs e g h =
    rw (g.1) (record {
      there = below_more (length ss) (length (ss ++ g.0)) js (omega (arith, length-append ss g.0)) h.there;
      are = λ more. actions_seen ts (fs ++ more) ss g.0 js h.there
          ∙ ap (λ zs. map (action_at (actions_in ts zs ss)) js) (longer es fs more e) ∙ h.are (e.0 ++ more);
    })

pub no_actions_have : (ts : List Ty) (es : List Expr) (ss : List Stmt) → HasActions ts es ss [] []
no_actions_have ts es ss = record { there = λ k a e. absurd cc; are = λ more. refl }

pub actions_push : (ts : List Ty) (es : List Expr) (ss : List Stmt) (js ls : List ℕ) (j : ℕ) (xs : List Action)
    (x : Action) → ls ≡ js ++ j ∷ [] → HasActions ts es ss js xs → HasAction ts es ss j x →
    HasActions ts es ss ls (xs ++ x ∷ [])
actions_push ts es ss js ls j xs x e h i = record {
  there = below_push (length ss) js ls j e h.there i.there;
  are = λ more.
      ap (map (action_at (actions_in ts (es ++ more) ss))) e
      ∙ map_push (action_at (actions_in ts (es ++ more) ss)) js xs j x (h.are more) (i.is more);
}
