-- A file is accepted or refused, rule by rule.
use Rattle.std.proofs.Common.{◌≡◌, ℕ, zero, suc, ◌<◌, ◌≤◌, List, [], ◌∷◌, length, Option, Some, None, Result, Ok, Err}
use Rattle.std.proofs.Common.{refl, sym, subst, ◌∙◌, ◌⊎◌, inl, inr, arith}
use Rattle.std.specs.Prelude.{slice_get, IfOk, IfErr}
use Rattle.std.proofs.lemmas.Bool.{cases_lt}
use Rattle.std.proofs.lemmas.Option.{none-some, same_Some}
use Rattle.ck_base.specs.declared.positions.Pos.{Pos}
use Rattle.ck_base.specs.Tokens.{Lexeme}
use Rattle.ck_base.specs.Lexes.{Lexes, Refuses, position_after}
use Rattle.c_tree.specs.declared.typed.FunDef.{FunDef}
use Rattle.c_tree.specs.declared.typed.Typed.{Typed}
use Rattle.c_tree.specs.Syntax.{Syn, height}
use Rattle.c_tree.specs.Terms.{Program}
use Rattle.c_tree.specs.Scopes.{Fault}
use Rattle.c_tree.specs.Programs.{typing}
use Rattle.c_tree.specs.Brackets.{excess}
use Rattle.c_tree.specs.TreeWeight.{function_weight, function_limit}
use Rattle.c_tree.specs.Weight.{weight}
use Rattle.c_tree.specs.Parses.{DerivesFile}
use Rattle.c_tree.specs.Typing.{AreBytes, TypesSyntax, RefusesSyntax}
use Rattle.c_tree.specs.File.{file_limit, room_limit, static_room, local_room, HasRoom, IsCut, IsRead}
use Rattle.accepted_files.specs.Accepted.{weight_limit, IsLight, beginning, too_long, lexical, brackets, no_tree}
use Rattle.accepted_files.specs.Accepted.{typing as refused_typing, room, too_heavy, OneFile}
use Rattle.c_externals.specs.Statements.{read_file}
use Rattle.typing_laws.proofs.Accepted.{fit_of_tokens}
use Rattle.written_programs.proofs.Written.{written}
use Rattle.written_programs.proofs.Whole.{typed_whole}
use Rattle.written_programs.proofs.Tagged.{typed_tags}
use Rattle.typing_laws.specs.Codes.{IsTypingCode}
use Rattle.each_file.specs.Each.{IsAccepted, IsRefused, EachFile}

-- ---- a number of each function, at most a limit

abbrev AreWithin : (FunDef → ℕ) → ℕ → List FunDef → Type 0
AreWithin size limit fs = (k : ℕ) (f : FunDef) → slice_get fs k ≡ Some f → size f ≤ limit

are_within : (size : FunDef → ℕ) (limit : ℕ) (fs : List FunDef) →
    AreWithin size limit fs ⊎ (AreWithin size limit fs → ⊥)
are_within size limit [] = inl (λ k f e. absurd (none-some f e))
are_within size limit (g ∷ fs) = by_first (cases_lt limit (size g)) (are_within size limit fs)
  where
    all : size g ≤ limit → AreWithin size limit fs → AreWithin size limit (g ∷ fs)
    all le h zero f e = subst (λ (x : FunDef). size x ≤ limit) (same_Some g f e) le
    all le h (suc k) f e = h k f e

    by_first : (limit < size g) ⊎ (size g ≤ limit) → AreWithin size limit fs ⊎ (AreWithin size limit fs → ⊥) →
        AreWithin size limit (g ∷ fs) ⊎ (AreWithin size limit (g ∷ fs) → ⊥)
    by_first (inl lt) r = inr (λ h. let le = h 0 g refl in absurd (omega arith))
    by_first (inr le) (inl h) = inl (all le h)
    by_first (inr le) (inr n) = inr (λ h. n (λ k f e. h (suc k) f e))

-- ---- the limits

has_room : (p : Typed) → HasRoom p ⊎ (HasRoom p → ⊥)
has_room p = by_statics (cases_lt room_limit (static_room p)) (are_within (local_room p.types) room_limit p.funs)
  where
    by_statics : (room_limit < static_room p) ⊎ (static_room p ≤ room_limit) →
        AreWithin (local_room p.types) room_limit p.funs ⊎ (AreWithin (local_room p.types) room_limit p.funs → ⊥) →
        HasRoom p ⊎ (HasRoom p → ⊥)
    by_statics (inl lt) r = inr (λ h. let le = h.statics in absurd (omega arith))
    by_statics (inr le) (inl h) = inl (record { statics = le; locals = λ f k. h k f })
    by_statics (inr le) (inr n) = inr (λ h. n (λ k f. h.locals f k))

is_light : (p : Typed) → IsLight p ⊎ (IsLight p → ⊥)
is_light p = by_all (cases_lt weight_limit (weight p)) (are_within (function_weight p) function_limit p.funs)
  where
    by_all : (weight_limit < weight p) ⊎ (weight p ≤ weight_limit) →
        AreWithin (function_weight p) function_limit p.funs
        ⊎ (AreWithin (function_weight p) function_limit p.funs → ⊥) →
        IsLight p ⊎ (IsLight p → ⊥)
    by_all (inl lt) r = inr (λ h. let le = h.all in absurd (omega arith))
    by_all (inr le) (inl h) = inl (record { each = record { each = h }; all = le })
    by_all (inr le) (inr n) = inr (λ h. n h.each.each)

-- ---- rule by rule

module _ (bytes : List ℕ) (small : AreBytes bytes)
    (sound : (h : ℕ) (tokens : List Lexeme) (x : Syn) → read_file h tokens ≡ Some x →
    DerivesFile tokens x × (height x ≤ suc h))
    (complete : (h : ℕ) (tokens : List Lexeme) (x : Syn) → DerivesFile tokens x → height x ≤ suc h →
    read_file h tokens ≡ Some x) where
  abbrev Answer : Type 0
  Answer = IsAccepted bytes ⊎ IsRefused bytes

  of_program : (tokens : List Lexeme) (x : Syn) (p : Typed) → IsRead bytes tokens x → TypesSyntax x p → Answer
  of_program tokens x p r t = by_room (has_room p)
    where
      by_weight : HasRoom p → IsLight p ⊎ (IsLight p → ⊥) → Answer
      by_weight h (inr heavy) = inr (142, beginning, too_heavy tokens x p r t h heavy)
      by_weight h (inl light) =
          inl (p, record { tokens = tokens; syntax = x; reads = r; types = t; room = h; light = light })

      by_room : HasRoom p ⊎ (HasRoom p → ⊥) → Answer
      by_room (inl h) = by_weight h (is_light p)
      by_room (inr n) = inr (141, beginning, room tokens x p r t n)

  of_typing : (tokens : List Lexeme) (x : Syn) (q : Program) → IsRead bytes tokens x → typing x ≡ Ok q → Answer
  of_typing tokens x q r e =
      let fit = fit_of_tokens bytes tokens x small r.cut.lexes r.derives in
      let w = written q (record { tags = typed_tags x q fit e; bodies = typed_whole x q fit e }) in
      of_program tokens x w.0 r (record { program = q; given = e; shows = w.1; ordered = w.2 })

  of_syntax : (tokens : List Lexeme) (x : Syn) → IsRead bytes tokens x → Answer
  of_syntax tokens x r = by_typing (typing x) refl
    where
      by_typing : (o : Result Program Fault) → typing x ≡ o → Answer
      by_typing (Ok q) e = of_typing tokens x q r e
      by_typing (Err f) e = inr (f.code, f.place, refused_typing tokens x r e)

  of_tokens : (tokens : List Lexeme) → IsCut bytes tokens → Answer
  of_tokens tokens cut = by_tree (read_file 199 tokens) refl
    where
      by_tree : (o : Option Syn) → read_file 199 tokens ≡ o → Answer
      by_tree (Some x) e =
          let found = sound 199 tokens x e in
          of_syntax tokens x (record { cut = cut; derives = found.0; low = found.1 })
      by_tree None e = inr (
        120,
        position_after bytes,
        no_tree tokens cut (λ x d l. none-some x (sym e ∙ complete 199 tokens x d l)) (inr refl),
      )

  of_lexes : (tokens : List Lexeme) → length bytes ≤ file_limit → Lexes bytes tokens → Answer
  of_lexes tokens le l = by_excess (excess tokens) refl
    where
      by_excess : (o : Option Pos) → excess tokens ≡ o → Answer
      by_excess (Some place) e = inr (121, place, brackets tokens le l e)
      by_excess None e = of_tokens tokens (record { short = le; lexes = l; brackets = e })

  pub of_short : (r : Result ℕ (ℕ × Pos)) → length bytes ≤ file_limit →
      IfOk r (λ n. (tokens : List Lexeme) × Lexes bytes tokens × (length tokens ≡ n)) →
      IfErr r (λ e. Refuses bytes e.0 e.1) → Answer
  of_short (Ok n) le l e = of_lexes l.0 le l.1
  of_short (Err f) le l e = inr (f.0, f.1, lexical le e)

pub of_long : (bytes : List ℕ) → file_limit < length bytes → IsAccepted bytes ⊎ IsRefused bytes
of_long bytes lt = inr (143, beginning, too_long lt)

-- ---- exactly one

pub each_file : (bytes : List ℕ) → OneFile bytes →
    ((tokens : List Lexeme) (x : Syn) (code : ℕ) (place : Pos) → DerivesFile tokens x → RefusesSyntax x code place →
    IsTypingCode code) →
    IsAccepted bytes ⊎ IsRefused bytes → EachFile bytes
each_file bytes one codes either = record {
  either = either;
  apart = λ a r. one.apart a.0 r.0 r.1 a.1 r.2;
  typing = λ tokens x code place r t. codes tokens x code place r.derives t;
}
