-- A file has one answer.
use Rattle.std.proofs.Common.{◌≡◌, ℕ, List, Option, Some, None, refl, ap, sym, subst, ◌∙◌, ◌⊎◌, inl, inr}
use Rattle.std.proofs.lemmas.Option.{none-some}
use Rattle.ck_base.specs.declared.positions.Pos.{Pos}
use Rattle.ck_base.specs.Tokens.{Lexeme}
use Rattle.ck_base.specs.Lexes.{Lexes, Refuses}
use Rattle.c_tree.specs.declared.syntax.Tree.{Tree}
use Rattle.c_tree.specs.Parses.{DerivesFile}
use Rattle.c_tree.specs.Brackets.{excess}
use Rattle.c_parse.specs.Parsed.{IsTreeOf, IsRefused, lexical, brackets, no_tree}
use Rattle.c_externals.proofs.StatementsComplete.{one_tree}

-- what is known of the tokens of a file
pub record ReadsOnce (file : List ℕ) : Type 0 where
  pub tokens : (a b : List Lexeme) → Lexes file a → Lexes file b → a ≡ b
  pub refusal : (code other : ℕ) (pos place : Pos) → Refuses file code pos → Refuses file other place →
      (code ≡ other) × (pos ≡ place)
  pub apart : (a : List Lexeme) (code : ℕ) (pos : Pos) → Lexes file a → Refuses file code pos → ⊥

module _ (file : List ℕ) (o : ReadsOnce file) where
  pub same_tree : (a b : Tree) (s : IsTreeOf file a) (t : IsTreeOf file b) → s.parses.syntax ≡ t.parses.syntax
  same_tree a b s t = one_tree (subst (λ v. DerivesFile v s.parses.syntax)
      (o.tokens s.tokens t.tokens s.cut.lexes t.cut.lexes) s.parses.derives) t.parses.derives

  some_is : (p q : Pos) → Some p ≡ Some q → p ≡ q
  some_is p q e = let out : Option Pos → Pos = elim [ None ↦ p | Some v ↦ v ] in ap out e

  open_twice : (a b : List Lexeme) (p q : Pos) → Lexes file a → Lexes file b → excess a ≡ Some p → excess b ≡ Some q →
      p ≡ q
  open_twice a b p q s t e f = some_is p q (sym e ∙ ap excess (o.tokens a b s t) ∙ f)

  open_or_shut : (a b : List Lexeme) (p : Pos) → Lexes file a → Lexes file b → excess a ≡ Some p → excess b ≡ None → ⊥
  open_or_shut a b p s t e f = none-some p (sym f ∙ ap excess (o.tokens b a t s) ∙ e)

  pub apart : (a : Tree) (code : ℕ) (place : Pos) → IsTreeOf file a → IsRefused file code place → ⊥
  apart a code place s (lexical r) = o.apart s.tokens code place s.cut.lexes r
  apart a code place s (brackets ts l e) = open_or_shut ts s.tokens place l s.cut.lexes e s.cut.brackets
  apart a code place s (no_tree ts cut none at) =
      none s.parses.syntax (subst (λ v. DerivesFile v s.parses.syntax)
      (o.tokens s.tokens ts s.cut.lexes cut.lexes) s.parses.derives) s.low

  pub same_refusal : (code other : ℕ) (place elsewhere : Pos) → IsRefused file code place →
      IsRefused file other elsewhere → (code ≡ other) × ((code ≡ 120) ⊎ (place ≡ elsewhere))
  same_refusal code other place elsewhere (lexical r) (lexical q) =
      let e = o.refusal code other place elsewhere r q in (e.0, inr e.1)
  same_refusal code other place elsewhere (lexical r) (brackets ts l e) = absurd (o.apart ts code place l r)
  same_refusal code other place elsewhere (lexical r) (no_tree ts cut none at) =
      absurd (o.apart ts code place cut.lexes r)
  same_refusal code other place elsewhere (brackets ts l e) (lexical q) = absurd (o.apart ts other elsewhere l q)
  same_refusal code other place elsewhere (brackets ts l e) (brackets us m f) =
      (refl, inr (open_twice ts us place elsewhere l m e f))
  same_refusal code other place elsewhere (brackets ts l e) (no_tree us cut none at) =
      absurd (open_or_shut ts us place l cut.lexes e cut.brackets)
  same_refusal code other place elsewhere (no_tree ts cut none at) (lexical q) =
      absurd (o.apart ts other elsewhere cut.lexes q)
  same_refusal code other place elsewhere (no_tree ts cut none at) (brackets us m f) =
      absurd (open_or_shut us ts elsewhere m cut.lexes f cut.brackets)
  same_refusal code other place elsewhere (no_tree ts cut none at) (no_tree us cut' none' at') = (refl, inl refl)
