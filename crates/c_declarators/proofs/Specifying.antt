-- Specifiers.
use Rattle.std.proofs.Common.{◌≡◌, ℕ, ◌<◌, ◌≤◌, true, false, List, [], ◌∷◌, length, map, get_or, Option, Some, None, Ok}
use Rattle.std.proofs.Common.{Err, refl, ap, ◌∙◌, arith}
use Rattle.std.specs.Prelude.{nat_le, nat_lt, if◌then◌else◌, ◌==◌}
use Rattle.ck_base.specs.declared.positions.Pos.{Pos}
use Rattle.ck_base.specs.Tokens.{Lexeme}
use Rattle.c_tree.specs.Types.{Ty}
use Rattle.c_tree.specs.Scopes.{State}
use Rattle.c_expressions.specs.declared.nodes.Nodes.{Nodes}
use Rattle.c_expressions.specs.Nodes.{IsWhole, IsType, IsMaybeType, HasMaybe, type_in, type_count}
use Rattle.c_expressions.proofs.Keeping.{keeps_same}
use Rattle.c_declarators.specs.declared.words.Words.{Words}
use Rattle.c_declarators.specs.Words.{type_words, storage_words}
use Rattle.c_declarators.specs.Steps.{specified_type, specified_by, with_const, storage_of}

-- ---- a type that there may be

pub no_type : (n : Nodes) (t : Option Ty) → IsWhole n → t ≡ None → HasMaybe n n None t
no_type n t w e = record { keeps = keeps_same n w; is = rw e tt }

pub some_type : (n : Nodes) (k : ℕ) (t : Option Ty) → IsWhole n → k < type_count n → t ≡ Some (type_in n k) →
    HasMaybe n n (Some k) t
some_type n k t w lt e = record { keeps = keeps_same n w; is = rw e (record { there = lt; is = refl }) }

pub is_none : (n : Nodes) (t : Option Ty) → IsMaybeType n None t → t ≡ None
is_none n None h = refl
is_none n (Some t) h = absurd h

-- what it is, where it is there
pub record IsThere (n : Nodes) (k : ℕ) (t : Option Ty) : Type 0 where
  pub of : Ty
  pub is : t ≡ Some of
  pub type : IsType n k of

pub is_some : (n : Nodes) (k : ℕ) (t : Option Ty) → IsMaybeType n (Some k) t → IsThere n k t
is_some n k None h = absurd h
is_some n k (Some t) h = record { of = t; is = refl; type = h }

-- ---- the types among the specifiers

one_named : (x : Words) (n : Nodes) (ks : List ℕ) → 1 ≤ length ks → length ks < 2 →
    specified_type x (map (type_in n) ks) ≡ (if type_words x == 0 then Some (type_in n (get_or ks 0 0)) else None)
one_named x n [] a b = absurd (omega arith)
one_named x n (k ∷ []) a b = refl
one_named x n (k ∷ j ∷ ks) a b = absurd (omega arith)

pub one_alone : (x : Words) (n : Nodes) (ks : List ℕ) → 1 ≤ length ks → length ks < 2 → (type_words x == 0) ≡ true →
    specified_type x (map (type_in n) ks) ≡ Some (type_in n (get_or ks 0 0))
one_alone x n ks a b e = one_named x n ks a b ∙ ap (λ q. if q then Some (type_in n (get_or ks 0 0)) else None) e

pub one_and_words : (x : Words) (n : Nodes) (ks : List ℕ) → 1 ≤ length ks → length ks < 2 →
    (type_words x == 0) ≡ false → specified_type x (map (type_in n) ks) ≡ None
one_and_words x n ks a b e = one_named x n ks a b ∙ ap (λ q. if q then Some (type_in n (get_or ks 0 0)) else None) e

pub many_named : (x : Words) (n : Nodes) (ks : List ℕ) → 2 ≤ length ks → specified_type x (map (type_in n) ks) ≡ None
many_named x n [] a = absurd (omega arith)
many_named x n (k ∷ []) a = absurd (omega arith)
many_named x n (k ∷ j ∷ ks) a = refl

-- ---- the step

pub stored_twice : (x : Words) (t : Lexeme) (ts : List Ty) (p : Pos) (s : State) → t.pos ≡ p →
    nat_le (storage_words x) 1 ≡ false → specified_by x t ts s ≡ Err (record { code = 133; place = p })
stored_twice x t ts p s e b = rw (b, e) refl

pub of_no_type : (x : Words) (t : Lexeme) (ts : List Ty) (p : Pos) (s : State) → t.pos ≡ p →
    nat_le (storage_words x) 1 ≡ true → specified_type x ts ≡ None →
    specified_by x t ts s ≡ Err (record { code = 133; place = p })
of_no_type x t ts p s e b o = rw (b, o, e) refl

pub of_type : (x : Words) (t : Lexeme) (ts : List Ty) (of : Ty) (s : State) → nat_le (storage_words x) 1 ≡ true →
    specified_type x ts ≡ Some of →
    specified_by x t ts s ≡ Ok (
      record {
        first = t;
        stored = nat_lt x.registers (storage_words x);
        storage = storage_of x;
        of = with_const x of;
      },
      s,
    )
of_type x t ts of s b o = rw (b, o) refl
