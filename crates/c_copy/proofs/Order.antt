-- Statements that name statements before them.
use Rattle.std.proofs.Common.{◌≡◌, ℕ, ◌<◌, ◌≤◌, List, [], ◌∷◌, ◌++◌, length, sym, ap, ◌∙◌, ⊎_elim}
use Rattle.std.proofs.Common.{arith, length-append}
use Rattle.std.specs.Prelude.{slice_get}
use Rattle.c_tree.specs.declared.typed.Stmt.{Stmt}
use Rattle.c_tree.specs.Views.{parts}
use Rattle.c_copy.specs.Copying.{AllBelow}
use Rattle.c_copy.specs.Order.{PartsBefore}
use Rattle.c_copy.proofs.Items.{get-push}

pub wider : (n m : ℕ) (ks : List ℕ) → n ≤ m → AllBelow n ks → AllBelow m ks
wider n m ks le h = λ j a q. let lt : a < n = h j a q in omega arith

pub below_push : (n m : ℕ) (ks ls : List ℕ) (k : ℕ) → n ≤ m → AllBelow n ks → k < m → ls ≡ ks ++ k ∷ [] → AllBelow m ls
below_push n m ks ls k le h lt e = λ j a q.
    ⊎_elim (λ g. wider n m ks le h j a g) (λ g. let same : k ≡ a = g.1 in omega arith)
    (get-push ks k j a (ap (λ zs. slice_get zs j) (sym e) ∙ q))

pub parts_push : (ss ts : List Stmt) (d : Stmt) → PartsBefore ss → AllBelow (length ss) (parts d.kind) →
    ts ≡ ss ++ d ∷ [] → PartsBefore ts
parts_push ss ts d h b e = λ k j a s g q.
    ⊎_elim (λ x. h k j a s x q)
    (λ x. rw (x.0) (b j a (ap (λ (z : Stmt). slice_get (parts z.kind) j) x.1 ∙ q)))
    (get-push ss d k s (ap (λ zs. slice_get zs k) (sym e) ∙ g))

pub at_end : {A : Type 0} (xs ys : List A) (x : A) (k : ℕ) → k ≡ length xs → ys ≡ xs ++ x ∷ [] → k < length ys
at_end xs ys x k n e =
    let l : length ys ≡ length (xs ++ x ∷ []) = ap length e in omega (arith, length-append xs (x ∷ []))
