-- Calls (C11 6.5.2.2).
use Rattle.std.proofs.Common.{◌≡◌, ℕ, List, [], ◌∷◌, length, Option, Some, None, refl, sym, ap, subst, ◌∙◌}
use Rattle.ck_base.specs.declared.positions.Pos.{Pos}
use Rattle.ck_base.specs.Tokens.{Lexeme}
use Rattle.c_tree.specs.declared.syntax.NodeKind.{NodeKind}
use Rattle.c_tree.specs.declared.syntax.NodeKind.TheVariants as Kinds
use Rattle.c_tree.specs.Syntax.{Syn, Syns, node, nil, more}
use Rattle.c_tree.specs.Scopes.{State, refuse}
use Rattle.c_tree.specs.Readings.{Reading}
use Rattle.c_tree.specs.Expressions.{expression_of, called, called_library, called_name, first_of}
use Rattle.c_tree.specs.Programs.{reading, readings}
use Rattle.c_elaborator.specs.declared.work.Work.{Work}
use Rattle.c_elaborator.specs.Parts.{IsPart, AreParts}
use Rattle.c_readings.specs.Gathered.{called_service, called_value}
use Rattle.c_readings.proofs.Kids.{cut, no_parts, count, counted}
use Rattle.c_readings.proofs.Gathering.{readings_more}

pub no_call : (w : Work) (t : Lexeme) (p : Pos) → t.pos ≡ p → (ks : List ℕ) → ks ≡ [] → (xs : Syns) → AreParts w ks xs →
    (s : State) → expression_of Kinds.Call t xs (readings xs) s ≡ refuse 120 p s
no_call w t p e ks n xs k s =
    ap (λ (z : Syns). expression_of Kinds.Call t z (readings xs) s)
    (no_parts w xs (subst (λ (z : List ℕ). AreParts w z xs) n k)) ∙ ap (λ (q : Pos). refuse 120 q s) e

-- the call of what the first part is
pub call_is : (t : Lexeme) (x : Syn) (zs xs : Syns) (o : Option ℕ) (s : State) → zs ≡ more x xs →
    called_library s (called_name x) ≡ o →
    expression_of Kinds.Call t zs (readings zs) s ≡ called o x t (reading x) (readings xs) s
call_is t x zs xs o s z e =
    ap (λ (ys : Syns). expression_of Kinds.Call t ys (readings ys) s) z
    ∙ ap (λ (rs : List Reading). expression_of Kinds.Call t (more x xs) rs s) (readings_more x xs)
    ∙ ap (λ (c : Option ℕ). called c x t (reading x) (readings xs) s) e

pub service_is : (t : Lexeme) (p first : Pos) (x : Syn) (k : ℕ) (rs : List Reading) (s : State) → t.pos ≡ p →
    first ≡ first_of x → called (Some k) x t (reading x) rs s ≡ called_service k p first rs s
service_is t p first x k rs s e f =
    ap (λ (q : Pos). called_service k q (first_of x) rs s) e ∙ ap (λ (q : Pos). called_service k p q rs s) (sym f)

pub value_is : (t : Lexeme) (p : Pos) (x : Syn) (rs : List Reading) (s : State) → t.pos ≡ p →
    called None x t (reading x) rs s ≡ called_value p (reading x) rs s
value_is t p x rs s e = ap (λ (q : Pos). called_value q (reading x) rs s) e

-- ---- names before the parenthesis

pub named_alone : (w : Work) (t : Lexeme) (ks : List ℕ) → length ks ≡ 0 → (xs : Syns) → AreParts w ks xs →
    called_name (node Kinds.Name t xs) ≡ Some t
named_alone w t ks e xs k = at xs (counted w ks xs k ∙ e)
  where
    at : (xs : Syns) → count xs ≡ 0 → called_name (node Kinds.Name t xs) ≡ Some t
    at nil h = refl
    at (more x xs) h = absurd cc

pub named_with : (w : Work) (t : Lexeme) (ks : List ℕ) → (length ks ≡ 0 → ⊥) → (xs : Syns) → AreParts w ks xs →
    called_name (node Kinds.Name t xs) ≡ None
named_with w t ks e xs k = at xs (λ q. e (sym (counted w ks xs k) ∙ q))
  where
    at : (xs : Syns) → (count xs ≡ 0 → ⊥) → called_name (node Kinds.Name t xs) ≡ None
    at nil h = absurd (h refl)
    at (more x xs) h = refl

pub enclosed : (w : Work) (t : Lexeme) (ks : List ℕ) (a : ℕ) → ks ≡ a ∷ [] → (xs : Syns) → AreParts w ks xs →
    (x : Syn) × (called_name (node Kinds.Parenthesized t xs) ≡ called_name x) × IsPart w a x
enclosed w t ks a e xs k =
    let c = cut w a [] xs (subst (λ (z : List ℕ). AreParts w z xs) e k) in (
      c.head,
      ap (λ (z : Syns). called_name (node Kinds.Parenthesized t z))
          (c.is ∙ ap (more c.head) (no_parts w c.tail c.others)),
      c.first,
    )

pub not_enclosed : (w : Work) (t : Lexeme) (ks : List ℕ) → (length ks ≡ 1 → ⊥) → (xs : Syns) → AreParts w ks xs →
    called_name (node Kinds.Parenthesized t xs) ≡ None
not_enclosed w t ks e xs k = at xs (λ q. e (sym (counted w ks xs k) ∙ q))
  where
    at : (xs : Syns) → (count xs ≡ 1 → ⊥) → called_name (node Kinds.Parenthesized t xs) ≡ None
    at nil h = refl
    at (more x nil) h = absurd (h refl)
    at (more x (more y ys)) h = refl

pub no_name : (k : NodeKind) (t : Lexeme) (xs : Syns) → (k ≡ Kinds.Name → ⊥) → (k ≡ Kinds.Parenthesized → ⊥) →
    called_name (node k t xs) ≡ None
no_name Kinds.Name t xs n p = absurd (n refl)
no_name Kinds.Parenthesized t xs n p = absurd (p refl)
no_name k t xs n p = refl
