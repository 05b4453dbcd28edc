-- Readings of runs of tokens, step by step.
use Rattle.std.proofs.Common.{◌≡◌, true, false, List, [], ◌∷◌, refl, ap, ◌∙◌}
use Rattle.ck_base.specs.Tokens.{Lexeme}
use Rattle.c_tree.specs.declared.syntax.NodeKind.TheVariants as Kinds
use Rattle.c_tree.specs.Syntax.{node, nil, more, one}
use Rattle.c_tree.specs.Symbols.{symbol}
use Rattle.c_tree.specs.Grammar.{is_word}
use Rattle.c_phrases.specs.Reading.{tag, pieces, is_text, starts}
use Rattle.c_phrases.proofs.Made.{then_is, else_is}

pub tag_is : {ts r : List Lexeme} {t : Lexeme} → ts ≡ t ∷ r → is_word (symbol t) ≡ true →
    tag ts ≡ (one (node Kinds.Tag t nil), r)
tag_is e word = ap tag e ∙ then_is _ word

pub pieces_more : {ts r : List Lexeme} {t : Lexeme} → ts ≡ t ∷ r → is_text (symbol t) ≡ true →
    pieces ts ≡ (more (node Kinds.Text t nil) (pieces r).0, (pieces r).1)
pieces_more e text = ap pieces e ∙ then_is _ text

pub pieces_end : (ts : List Lexeme) → starts is_text ts ≡ false → pieces ts ≡ (nil, ts)
pieces_end [] e = refl
pieces_end (t ∷ ts) e = else_is _ e
