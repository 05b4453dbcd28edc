-- What names and literals are, by their tokens.
use Rattle.std.proofs.Common.{◌≡◌, ℕ, List, sym, ap, subst, ◌∙◌}
use Rattle.ck_base.specs.declared.tokens.TokenKind.{TokenKind}
use Rattle.ck_base.specs.declared.tokens.TokenKind.TheVariants.{Word, Number, Char, Text}
use Rattle.ck_base.specs.Tokens.{Lexeme}
use Rattle.ck_base.specs.Lexes.{IsAccepted}
use Rattle.c_types.specs.Stands.{text_at}
use Rattle.c_operators.specs.Rules.{number_at, character_at}
use Rattle.c_elaborator.specs.declared.work.Name.{Name}
use Rattle.c_tree.specs.declared.syntax.Node.{Node}
use Rattle.c_tree.specs.declared.syntax.NodeKind.{NodeKind}
use Rattle.c_tree.specs.declared.syntax.NodeKind.TheVariants as Kinds
use Rattle.c_tree.specs.Syntax.{Syns}
use Rattle.c_tree.specs.Expressions.{number, character, text}
use Rattle.c_elaborator.specs.declared.work.Work.{Work}
use Rattle.c_elaborator.specs.Parts.{TokenFits, PartsFit, AreParts, HaveTexts, token_of}
use Rattle.c_readings.specs.Kids.{HasNode, IsNode, name_of}

-- the token, but for its kind
abbrev as_kind : TokenKind → Lexeme → Lexeme
as_kind k t = record { kind = k; text = t.text; span = t.span; pos = t.pos }

token_is : (w : Work) (n : Node) (t : Lexeme) (xs : Syns) (k : TokenKind) → IsNode w n t xs →
    as_kind k t ≡ as_kind k (token_of w (name_of n))
token_is w n t xs k h =
    ap (λ x. (let l : Lexeme = record { kind = k; text = x; span = t.span; pos = t.pos } in l)) h.text
    ∙ ap (λ x. (let l : Lexeme = record { kind = k; text = (token_of w (name_of n)).text; span = x; pos = t.pos } in l))
    h.span
    ∙ ap (λ x. (let l : Lexeme = record { kind = k; text = (token_of w (name_of n)).text; span = n.text; pos = x } in
    l)) h.place

pub word_is : (w : Work) (n : Node) (t : Lexeme) (xs : Syns) → IsNode w n t xs → t.kind ≡ Word →
    t ≡ token_of w (name_of n)
word_is w n t xs h e = ap (λ k. as_kind k t) e ∙ token_is w n t xs Word h

pub fits_name : (w : Work) (n : Node) (t : Lexeme) (xs : Syns) → IsNode w n t xs → n.kind ≡ Kinds.Name → t.kind ≡ Word
fits_name w n t xs h e = subst (λ (k : NodeKind). TokenFits k t) e h.fits

pub fits_number : (w : Work) (n : Node) (m : Name) → m ≡ name_of n → n.kind ≡ Kinds.Number → HasNode w n →
    IsAccepted Number (text_at w.file.now m.span)
fits_number w n m e k h =
    subst (λ (x : List ℕ). IsAccepted Number x) (h.is.text ∙ ap (λ (z : Name). text_at w.file.now z.span) (sym e))
    (subst (λ (d : NodeKind). TokenFits d h.token) k h.is.fits)

pub fits_character : (w : Work) (n : Node) (m : Name) → m ≡ name_of n → n.kind ≡ Kinds.Character → HasNode w n →
    IsAccepted Char (text_at w.file.now m.span)
fits_character w n m e k h =
    subst (λ (x : List ℕ). IsAccepted Char x) (h.is.text ∙ ap (λ (z : Name). text_at w.file.now z.span) (sym e))
    (subst (λ (d : NodeKind). TokenFits d h.token) k h.is.fits)

pub number_is : (w : Work) (n : Node) (m : Name) (t : Lexeme) (xs : Syns) → m ≡ name_of n → IsNode w n t xs →
    number t ≡ number_at (text_at w.file.now m.span) m.pos
number_is w n m t xs e h =
    ap (λ (x : List ℕ). number_at x t.pos) (h.text ∙ ap (λ (z : Name). text_at w.file.now z.span) (sym e))
    ∙ ap (number_at (text_at w.file.now m.span)) (h.place ∙ ap (λ (z : Name). z.pos) (sym e))

pub character_is : (w : Work) (n : Node) (m : Name) (t : Lexeme) (xs : Syns) → m ≡ name_of n → IsNode w n t xs →
    character t ≡ character_at (text_at w.file.now m.span) m.pos
character_is w n m t xs e h =
    ap (λ (x : List ℕ). character_at x t.pos) (h.text ∙ ap (λ (z : Name). text_at w.file.now z.span) (sym e))
    ∙ ap (character_at (text_at w.file.now m.span)) (h.place ∙ ap (λ (z : Name). z.pos) (sym e))

pub literal_is : (w : Work) (n : Node) (t : Lexeme) (xs : Syns) → IsNode w n t xs →
    text t xs ≡ text (token_of w (name_of n)) xs
unfolding text
literal_is w n t xs h = ap (λ l. text l xs) (token_is w n t xs t.kind h)

pub fits_text : (w : Work) (n : Node) (m : Name) → m ≡ name_of n → n.kind ≡ Kinds.Text → HasNode w n →
    IsAccepted Text (text_at w.file.now m.span)
fits_text w n m e k h = subst (λ (x : List ℕ). IsAccepted Text x)
    (h.is.text ∙ ap (λ (z : Name). text_at w.file.now z.span) (sym e))
    (subst (λ (d : NodeKind). TokenFits d h.token) k h.is.fits)

pub texts_of : (w : Work) (n : Node) (ks : List ℕ) → n.kind ≡ Kinds.Text → ks ≡ n.kids → HasNode w n → HaveTexts w ks
texts_of w n ks k e h = record {
  syntax = h.syntax;
  are = subst (λ (z : List ℕ). AreParts w z h.syntax) (sym e) h.is.parts;
  texts = subst (λ (d : NodeKind). PartsFit d h.syntax) k h.is.kinds;
}

-- tokens of nodes that are words
pub tag_is : (w : Work) (n : Node) (t : Lexeme) (xs : Syns) → IsNode w n t xs → n.kind ≡ Kinds.Tag →
    t ≡ token_of w (name_of n)
tag_is w n t xs h e = word_is w n t xs h (subst (λ (k : NodeKind). TokenFits k t) e h.fits)

pub typedef_is : (w : Work) (n : Node) (t : Lexeme) (xs : Syns) → IsNode w n t xs → n.kind ≡ Kinds.TypedefName →
    t ≡ token_of w (name_of n)
typedef_is w n t xs h e = word_is w n t xs h (subst (λ (k : NodeKind). TokenFits k t) e h.fits)

pub declared_is : (w : Work) (n : Node) (t : Lexeme) (xs : Syns) → IsNode w n t xs → n.kind ≡ Kinds.DeclaredName →
    t ≡ token_of w (name_of n)
declared_is w n t xs h e = word_is w n t xs h (subst (λ (k : NodeKind). TokenFits k t) e h.fits)

pub enumerator_is : (w : Work) (n : Node) (t : Lexeme) (xs : Syns) → IsNode w n t xs → n.kind ≡ Kinds.Enumerator →
    t ≡ token_of w (name_of n)
enumerator_is w n t xs h e = word_is w n t xs h (subst (λ (k : NodeKind). TokenFits k t) e h.fits)

pub parameter_is : (w : Work) (n : Node) (t : Lexeme) (xs : Syns) → IsNode w n t xs → n.kind ≡ Kinds.Parameter →
    t ≡ token_of w (name_of n)
parameter_is w n t xs h e = word_is w n t xs h (subst (λ (k : NodeKind). TokenFits k t) e h.fits)
