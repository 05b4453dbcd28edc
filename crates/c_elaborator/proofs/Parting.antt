-- The parts of a construct, one after another.
use Rattle.std.proofs.Common.{◌≡◌, ℕ, zero, suc, ◌<◌, List, [], ◌∷◌, ◌++◌, length, get_or, refl, sym, ap, subst, ◌∙◌}
use Rattle.std.proofs.Common.{arith, append_assoc}
use Rattle.std.proofs.lemmas.List.{append-nil}
use Rattle.ck_base.specs.declared.tokens.TokenKind.TheVariants.{Text}
use Rattle.ck_base.specs.Lexes.{IsAccepted}
use Rattle.c_tree.specs.declared.syntax.Node.{Node}
use Rattle.c_tree.specs.declared.syntax.NodeKind.{NodeKind}
use Rattle.c_tree.specs.declared.syntax.NodeKind.TheVariants as Kinds
use Rattle.c_tree.specs.Syntax.{Syn, Syns, node, nil, more, own_token, StandsAt, StandAt, none, next}
use Rattle.c_tree.specs.Typing.{IsSpelled, AreSpelled}
use Rattle.c_tree.specs.Values.{characters_of}
use Rattle.c_tree.specs.Expressions.{pieces}
use Rattle.c_types.specs.Stands.{text_at}
use Rattle.c_elaborator.specs.declared.work.Part.{Part}
use Rattle.c_elaborator.specs.declared.work.Work.{Work}
use Rattle.c_elaborator.specs.Nodes.{IsNode, syns_of}
use Rattle.c_elaborator.specs.Parts.{TokenFits, PartsFit, IsOf, AreOf, IsWritten, AreWritten, IsPart, AreParts, HasText}
use Rattle.c_elaborator.specs.Parts.{HasPart, HaveParts, HaveTexts}

-- the first of them, and the others
pub record Cut (w : Work) (k : ℕ) (ks : List ℕ) (xs : Syns) : Type 0 where
  pub head : Syn
  pub tail : Syns
  pub is : xs ≡ more head tail
  pub first : IsPart w k head
  pub others : AreParts w ks tail

spelled_more : (f : List ℕ) (x : Syn) (xs : Syns) → AreSpelled f (more x xs) → IsSpelled f x × AreSpelled f xs
unfolding AreSpelled
spelled_more f x xs h = h

written_more : (x : Syn) (xs : Syns) → AreWritten (more x xs) → IsWritten x × AreWritten xs
unfolding AreWritten
written_more x xs h = h

stand_more : (nodes : List Node) (k : ℕ) (ks : List ℕ) (xs : Syns) → StandAt nodes (k ∷ ks) xs →
    (x : Syn) × (ys : Syns) × (xs ≡ more x ys) × StandsAt nodes k x × StandAt nodes ks ys
stand_more nodes k ks xs (next a b) = (_, _, refl, a, b)

pub cut : (w : Work) (k : ℕ) (ks : List ℕ) (xs : Syns) → AreParts w (k ∷ ks) xs → Cut w k ks xs
cut w k ks xs p =
    let m = stand_more w.tree.now.nodes k ks xs p.stand in
    let s = spelled_more w.file.now m.0 m.1 (subst (λ (z : Syns). AreSpelled w.file.now z) m.2 p.spelled) in
    let r = written_more m.0 m.1 (subst (λ (z : Syns). AreWritten z) m.2 p.written) in
    record {
      head = m.0;
      tail = m.1;
      is = m.2;
      first = record { stands = m.3; spelled = s.0; written = r.0 };
      others = record { stand = m.4; spelled = s.1; written = r.1 };
    }

pub no_parts : (w : Work) (xs : Syns) → AreParts w [] xs → xs ≡ nil
no_parts w xs p = empty w.tree.now.nodes xs p.stand
  where
    empty : (nodes : List Node) (xs : Syns) → StandAt nodes [] xs → xs ≡ nil
    empty nodes xs none = refl

pub have_at : (w : Work) (ks : List ℕ) (i d : ℕ) → HaveParts w ks → i < length ks → HasPart w (get_or ks i d)
have_at w [] i d h lt = absurd (omega arith)
have_at w (k ∷ ks) zero d h lt = let c = cut w k ks h.syntax h.are in record { syntax = c.head; is = c.first }
have_at w (k ∷ ks) (suc i) d h lt =
    let c = cut w k ks h.syntax h.are in have_at w ks i d (record { syntax = c.tail; are = c.others }) (omega arith)

-- ---- adjacent string literals

text_kind : (w : Work) (p : Part) (x : Syn) → IsOf Kinds.Text x → IsNode w p x → p.kind ≡ Kinds.Text
text_kind w p (node k t xs) e n = sym n.kind ∙ e

pub piece_accepted : (w : Work) (p : Part) (x : Syn) → IsOf Kinds.Text x → IsNode w p x →
    IsAccepted Text (text_at w.file.now p.name.span)
piece_accepted w p x o n =
    let e = text_kind w p x o n in
    let fits : TokenFits Kinds.Text (own_token x) = subst (λ (k : NodeKind). TokenFits k (own_token x)) e n.fits in
    subst (λ (bs : List ℕ). IsAccepted Text bs) n.text fits

pub piece_is : (w : Work) (p : Part) (before later : List ℕ) (x : Syn) →
    later ≡ before ++ characters_of (text_at w.file.now p.name.span) → IsNode w p x →
    later ≡ before ++ characters_of (own_token x).text
piece_is w p before later x e n = e ∙ ap (λ bs. before ++ characters_of bs) (sym n.text)

pub text_at_number : (w : Work) (ks : List ℕ) (i d : ℕ) → HaveTexts w ks → i < length ks → HasText w (get_or ks i d)
text_at_number w [] i d h lt = absurd (omega arith)
text_at_number w (k ∷ ks) zero d h lt =
    let c = cut w k ks h.syntax h.are in
    let t = subst (λ (xs : Syns). AreOf Kinds.Text xs) c.is h.texts in
    record { syntax = c.head; is = c.first; text = t.0 }
text_at_number w (k ∷ ks) (suc i) d h lt =
    let c = cut w k ks h.syntax h.are in
    let t = subst (λ (xs : Syns). AreOf Kinds.Text xs) c.is h.texts in
    text_at_number w ks i d (record { syntax = c.tail; are = c.others; texts = t.1 }) (omega arith)

-- the literals behind a string literal
pub texts_of : (w : Work) (p : Part) (x : Syn) → p.kind ≡ Kinds.Text → IsNode w p x → HaveTexts w p.kids.now
texts_of w p x e n = record {
  syntax = syns_of x;
  are = n.parts;
  texts = subst (λ (k : NodeKind). PartsFit k (syns_of x)) e n.kinds;
}

-- what was written of them, and what is left
pub record Written (w : Work) (before : List ℕ) (xs : Syns) (now : List ℕ) (ks : List ℕ) : Type 0 where
  pub rest : Syns
  pub parts : AreParts w ks rest
  pub is : now ++ pieces rest ≡ before ++ pieces xs

pub none_written : (w : Work) (before : List ℕ) (xs : Syns) (ks : List ℕ) → AreParts w ks xs →
    Written w before xs before ks
none_written w before xs ks h = record { rest = xs; parts = h; is = refl }

-- the bytes of a literal come first
pieces_more : (x : Syn) (xs : Syns) → pieces (more x xs) ≡ characters_of (own_token x).text ++ pieces xs
pieces_more (node k t ys) xs = refl

pub one_written : (w : Work) (before : List ℕ) (xs : Syns) (now : List ℕ) (later : List ℕ) (k : ℕ) (ks : List ℕ) →
    ((x : Syn) → IsPart w k x → later ≡ now ++ characters_of (own_token x).text) → Written w before xs now (k ∷ ks) →
    Written w before xs later ks
one_written w before xs now later k ks h g =
    let c = cut w k ks g.rest g.parts in
    let bytes = characters_of (own_token c.head).text in
    record {
      rest = c.tail;
      parts = c.others;
      is = ap (λ bs. bs ++ pieces c.tail) (h c.head c.first) ∙ append_assoc now bytes (pieces c.tail)
          ∙ ap (λ bs. now ++ bs) (sym (ap pieces c.is ∙ pieces_more c.head c.tail)) ∙ g.is;
    }

pub all_written : (w : Work) (before : List ℕ) (xs : Syns) (now : List ℕ) (ks : List ℕ) → ks ≡ [] →
    Written w before xs now ks → now ≡ before ++ pieces xs
all_written w before xs now ks e h =
    let none : h.rest ≡ nil = no_parts w h.rest (subst (λ (js : List ℕ). AreParts w js h.rest) e h.parts) in
    sym (append-nil now) ∙ ap (λ (ys : Syns). now ++ pieces ys) (sym none) ∙ h.is
