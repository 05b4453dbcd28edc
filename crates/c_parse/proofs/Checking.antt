-- Reading all tokens of a file once.
use Rattle.std.proofs.Common.{◌≡◌, ℕ, zero, suc, ◌+◌, ◌≤◌, ◌<◌, List, [], ◌∷◌, ◌++◌, length, Some, refl}
use Rattle.std.proofs.Common.{ap, sym, subst, ◌∙◌, arith, length-append, append_assoc, append-nil, inl}
use Rattle.std.specs.Prelude.{slice_get}
use Rattle.ck_base.specs.declared.positions.Pos.{Pos}
use Rattle.ck_base.specs.Tokens.{Lexeme}
use Rattle.ck_base.specs.Lexes.{Reads, NextToken}
use Rattle.c_lex.proofs.OneReading.{Reads-push}
use Rattle.c_tree.specs.File.{IsTokenPlace}
use Rattle.c_parse.specs.Checked.{HasRead}

-- one token more was read
pub read_more : (file : List ℕ) (i j : ℕ) (tokens : List Lexeme) (token : Lexeme) → HasRead file i tokens →
    NextToken file i token → j ≡ token.span.end → i < j → j ≤ length file →
    HasRead file j (tokens ++ token ∷ [])
read_more file i j tokens token read next at forward within =
    let long = length-append tokens (token ∷ []) in
    record {
      few = omega (arith, read.few, forward, long);
      within = within;
      reads = subst (λ v. Reads file 0 (tokens ++ token ∷ []) v) (sym at)
          (Reads-push file 0 tokens i token read.reads next);
    }

-- the place is that of one of these tokens
pub record IsAmong (place : Pos) (tokens : List Lexeme) : Type 0 where
  pub k : ℕ
  pub token : Lexeme
  pub there : slice_get tokens k ≡ Some token
  pub same : place ≡ token.pos

last_there : (tokens : List Lexeme) (token : Lexeme) → slice_get (tokens ++ token ∷ []) (length tokens) ≡ Some token
last_there [] token = refl
last_there (t ∷ tokens) token = last_there tokens token

-- a token that was just added stands there
pub among_last : (tokens : List Lexeme) (token : Lexeme) (place : Pos) → place ≡ token.pos →
    IsAmong place (tokens ++ token ∷ [])
among_last tokens token place same =
    record { k = length tokens; token = token; there = last_there tokens token; same = same }

still_there : (tokens more : List Lexeme) (k : ℕ) (t : Lexeme) → slice_get tokens k ≡ Some t →
    slice_get (tokens ++ more) k ≡ Some t
still_there [] more k t there = cc
still_there (x ∷ tokens) more zero t there = there
still_there (x ∷ tokens) more (suc k) t there = still_there tokens more k t there

-- tokens that follow change no place
pub among_more : {place : Pos} {tokens : List Lexeme} (more : List Lexeme) → IsAmong place tokens →
    IsAmong place (tokens ++ more)
among_more {place} {tokens} more among = record {
  k = among.k;
  token = among.token;
  there = still_there tokens more among.k among.token among.there;
  same = among.same;
}

pub none_among : {place : Pos} {before : List Lexeme} → before ≡ [] → 0 < length before → IsAmong place before
none_among none some = let long = ap length none in absurd (omega (arith, some, long))

-- the first of the tokens that are left goes to those that were passed
pub passed : {all left : List Lexeme} (before : List Lexeme) (token : Lexeme) (rest : List Lexeme) →
    all ≡ before ++ left → left ≡ token ∷ rest → all ≡ (before ++ token ∷ []) ++ rest
passed before token rest same first = same ∙ ap (λ v. before ++ v) first ∙ sym (append_assoc before (token ∷ []) rest)

pub all_passed : {all left : List Lexeme} (before : List Lexeme) → all ≡ before ++ left → left ≡ [] → before ≡ all
all_passed before same none = sym (same ∙ ap (λ v. before ++ v) none ∙ append-nil before)

pub place_of : (file : List ℕ) (all : List Lexeme) (place : Pos) → IsAmong place all → IsTokenPlace file all place
place_of file all place among = inl (among.k, among.token, among.there, among.same)
