-- Declarators, by the production that each is (C11 6.7.6).
use Rattle.std.proofs.Common.{◌≡◌, ℕ, List, [], ◌∷◌, Some, refl, sym, ap}
use Rattle.std.proofs.Common.{subst, ◌∙◌}
use Rattle.ck_base.specs.declared.positions.Pos.{Pos}
use Rattle.ck_base.specs.Tokens.{Lexeme}
use Rattle.c_tree.specs.declared.syntax.NodeKind.{NodeKind}
use Rattle.c_tree.specs.declared.syntax.NodeKind.TheVariants as Kinds
use Rattle.c_tree.specs.Syntax.{Syn, Syns, more}
use Rattle.c_tree.specs.Scopes.{State, refuse, give, ◌>>=◌}
use Rattle.c_tree.specs.Readings.{Reading, Point, Row, Derived}
use Rattle.c_tree.specs.Declarators.{declarator_of, parts_const, wrapped}
use Rattle.c_tree.specs.Programs.{reading, readings}
use Rattle.c_elaborator.specs.declared.work.Work.{Work}
use Rattle.c_elaborator.specs.Parts.{IsPart, AreParts}
use Rattle.c_readings.specs.Kids.{HasEnds}
use Rattle.c_readings.specs.Specifying.{within, row_of, function_of}
use Rattle.c_readings.proofs.Kids.{cut, no_parts}
use Rattle.c_readings.proofs.Gathering.{readings_more, readings_nil}

-- ---- lists of readings

pub no_readings : (w : Work) (ks : List ℕ) → ks ≡ [] → (xs : Syns) → AreParts w ks xs → readings xs ≡ []
no_readings w ks e xs p = ap readings (no_parts w xs (subst (λ (z : List ℕ). AreParts w z xs) e p)) ∙ readings_nil

pub record Behind (w : Work) (k : ℕ) (js : List ℕ) (xs : Syns) : Type 0 where
  pub head : Syn
  pub tail : Syns
  pub is : xs ≡ more head tail
  pub read : readings xs ≡ reading head ∷ readings tail
  pub first : IsPart w k head
  pub others : AreParts w js tail

pub behind : (w : Work) (ks : List ℕ) (k : ℕ) (js : List ℕ) → ks ≡ k ∷ js → (xs : Syns) → AreParts w ks xs →
    Behind w k js xs
behind w ks k js e xs p =
    let c = cut w k js xs (subst (λ (z : List ℕ). AreParts w z xs) e p) in
    record {
      head = c.head;
      tail = c.tail;
      is = c.is;
      read = ap readings c.is ∙ readings_more c.head c.tail;
      first = c.first;
      others = c.others;
    }

-- ---- the productions

pub declared_name_is : (t : Lexeme) (xs : Syns) (rs : List Reading) (s : State) →
    declarator_of Kinds.DeclaredName t xs rs s ≡ give (let d : Derived = record { name = Some t; wraps = [] } in d) s
unfolding declarator_of
declared_name_is t xs rs s = refl

pub enclosed_is : (t : Lexeme) (xs : Syns) (r : Reading) (rs qs : List Reading) (s : State) → qs ≡ r ∷ rs →
    declarator_of Kinds.ParenthesizedDeclarator t xs qs s ≡ r.derived s
unfolding declarator_of
enclosed_is t xs r rs qs s e = ap (λ (z : List Reading). declarator_of Kinds.ParenthesizedDeclarator t xs z s) e

pub not_enclosed : (t : Lexeme) (p : Pos) (xs : Syns) (qs : List Reading) (s : State) → t.pos ≡ p → qs ≡ [] →
    declarator_of Kinds.ParenthesizedDeclarator t xs qs s ≡ refuse 120 p s
unfolding declarator_of
not_enclosed t p xs qs s e h =
    ap (λ (z : List Reading). declarator_of Kinds.ParenthesizedDeclarator t xs z s) h
    ∙ ap (λ (q : Pos). refuse 120 q s) e

pub pointer_is : (t : Lexeme) (xs : Syns) (r : Reading) (rs qs : List Reading) (s : State) → qs ≡ r ∷ rs →
    declarator_of Kinds.Pointer t xs qs s ≡ (within rs >>= λ d. give (wrapped (Point (parts_const xs)) d)) s
unfolding declarator_of
pointer_is t xs r rs qs s e = ap (λ (z : List Reading). declarator_of Kinds.Pointer t xs z s) e ∙ at rs
  where
    at : (rs : List Reading) →
        declarator_of Kinds.Pointer t xs (r ∷ rs) s ≡ (within rs >>= λ d. give (wrapped (Point (parts_const xs)) d)) s
    at [] = refl
    at (q ∷ qs) = refl

pub no_pointer : (t : Lexeme) (p : Pos) (xs : Syns) (qs : List Reading) (s : State) → t.pos ≡ p → qs ≡ [] →
    declarator_of Kinds.Pointer t xs qs s ≡ refuse 120 p s
unfolding declarator_of
no_pointer t p xs qs s e h =
    ap (λ (z : List Reading). declarator_of Kinds.Pointer t xs z s) h ∙ ap (λ (q : Pos). refuse 120 q s) e

pub open_array_is : (t : Lexeme) (xs : Syns) (rs : List Reading) (s : State) →
    declarator_of Kinds.OpenArray t xs rs s ≡ (within rs >>= λ d. give (wrapped (Row 0) d)) s
unfolding declarator_of
open_array_is t xs [] s = refl
open_array_is t xs (r ∷ rs) s = refl

pub no_array : (t : Lexeme) (p : Pos) (xs : Syns) (qs : List Reading) (s : State) → t.pos ≡ p → qs ≡ [] →
    declarator_of Kinds.Array t xs qs s ≡ refuse 120 p s
unfolding declarator_of
no_array t p xs qs s e h =
    ap (λ (z : List Reading). declarator_of Kinds.Array t xs z s) h ∙ ap (λ (q : Pos). refuse 120 q s) e

pub no_function : (t : Lexeme) (p : Pos) (xs : Syns) (qs : List Reading) (s : State) → t.pos ≡ p → qs ≡ [] →
    declarator_of Kinds.Function t xs qs s ≡ refuse 120 p s
unfolding declarator_of
no_function t p xs qs s e h =
    ap (λ (z : List Reading). declarator_of Kinds.Function t xs z s) h ∙ ap (λ (q : Pos). refuse 120 q s) e

array_alone : (t : Lexeme) (xs : Syns) (r : Reading) (s : State) →
    declarator_of Kinds.Array t xs (r ∷ []) s ≡ row_of [] r s
unfolding declarator_of
array_alone t xs r s = refl

array_behind : (t : Lexeme) (xs : Syns) (r q : Reading) (rs : List Reading) (s : State) →
    declarator_of Kinds.Array t xs (r ∷ q ∷ rs) s ≡ row_of (r ∷ q ∷ rs) q s
unfolding declarator_of
array_behind t xs r q rs s = refl

function_alone : (t : Lexeme) (xs : Syns) (r : Reading) (s : State) →
    declarator_of Kinds.Function t xs (r ∷ []) s ≡ function_of [] r s
unfolding declarator_of
function_alone t xs r s = refl

function_behind : (t : Lexeme) (xs : Syns) (r q : Reading) (rs : List Reading) (s : State) →
    declarator_of Kinds.Function t xs (r ∷ q ∷ rs) s ≡ function_of (r ∷ q ∷ rs) q s
unfolding declarator_of
function_behind t xs r q rs s = refl

-- the part that is read last, and those before it
pub record Ended (w : Work) (before : List ℕ) (last : ℕ) (xs : Syns) : Type 0 where
  pub first : Syns
  pub part : Syn
  pub are : AreParts w before first
  pub is : IsPart w last part
  pub array : (t : Lexeme) (s : State) →
      declarator_of Kinds.Array t xs (readings xs) s ≡ row_of (readings first) (reading part) s
  pub function : (t : Lexeme) (s : State) →
      declarator_of Kinds.Function t xs (readings xs) s ≡ function_of (readings first) (reading part) s

pub ended : (w : Work) (ks before : List ℕ) (last : ℕ) → HasEnds ks before last → (xs : Syns) → AreParts w ks xs →
    Ended w before last xs
ended w [] before last h xs p = absurd h
ended w (k ∷ []) before last h xs p =
    let c = behind w (k ∷ []) k [] refl xs p in
    let none : readings c.tail ≡ [] = no_readings w [] refl c.tail c.others in
    record {
      first = c.tail;
      part = c.head;
      are = subst (λ (z : List ℕ). AreParts w z c.tail) (sym h.0) c.others;
      is = subst (λ (z : ℕ). IsPart w z c.head) (sym h.1) c.first;
      array = λ t s. ap (λ (rs : List Reading). declarator_of Kinds.Array t xs rs s)
          (c.read ∙ ap (λ (rs : List Reading). reading c.head ∷ rs) none)
          ∙ array_alone t xs (reading c.head) s ∙ ap (λ (rs : List Reading). row_of rs (reading c.head) s) (sym none);
      function = λ t s. ap (λ (rs : List Reading). declarator_of Kinds.Function t xs rs s)
          (c.read ∙ ap (λ (rs : List Reading). reading c.head ∷ rs) none)
          ∙ function_alone t xs (reading c.head) s
          ∙ ap (λ (rs : List Reading). function_of rs (reading c.head) s) (sym none);
    }
ended w (j ∷ k ∷ ks) before last h xs p =
    let c = behind w (j ∷ k ∷ ks) j (k ∷ ks) refl xs p in
    let d = behind w (k ∷ ks) k ks refl c.tail c.others in
    let all : readings xs ≡ reading c.head ∷ reading d.head ∷ readings d.tail =
    c.read ∙ ap (λ (rs : List Reading). reading c.head ∷ rs) d.read in
    record {
      first = xs;
      part = d.head;
      are = subst (λ (z : List ℕ). AreParts w z xs) (sym h.0) p;
      is = subst (λ (z : ℕ). IsPart w z d.head) (sym h.1) d.first;
      array = λ t s. ap (λ (rs : List Reading). declarator_of Kinds.Array t xs rs s) all
          ∙ array_behind t xs (reading c.head) (reading d.head) (readings d.tail) s
          ∙ ap (λ (rs : List Reading). row_of rs (reading d.head) s) (sym all);
      function = λ t s. ap (λ (rs : List Reading). declarator_of Kinds.Function t xs rs s) all
          ∙ function_behind t xs (reading c.head) (reading d.head) (readings d.tail) s
          ∙ ap (λ (rs : List Reading). function_of rs (reading d.head) s) (sym all);
    }

-- ---- other productions

pub no_declarator : (k : NodeKind) (t : Lexeme) (p : Pos) → t.pos ≡ p → (xs : Syns) (rs : List Reading) (s : State) →
    (k ≡ Kinds.DeclaredName → ⊥) → (k ≡ Kinds.ParenthesizedDeclarator → ⊥) → (k ≡ Kinds.Pointer → ⊥) →
    (k ≡ Kinds.OpenArray → ⊥) → (k ≡ Kinds.Array → ⊥) → (k ≡ Kinds.Function → ⊥) →
    declarator_of k t xs rs s ≡ refuse 120 p s
unfolding declarator_of
no_declarator Kinds.DeclaredName t p e xs rs s a b c d f g = absurd (a refl)
no_declarator Kinds.ParenthesizedDeclarator t p e xs rs s a b c d f g = absurd (b refl)
no_declarator Kinds.Pointer t p e xs rs s a b c d f g = absurd (c refl)
no_declarator Kinds.OpenArray t p e xs rs s a b c d f g = absurd (d refl)
no_declarator Kinds.Array t p e xs rs s a b c d f g = absurd (f refl)
no_declarator Kinds.Function t p e xs rs s a b c d f g = absurd (g refl)
no_declarator k t p e xs rs s a b c d f g = ap (λ (q : Pos). refuse 120 q s) e
