-- Nodes go on being what they are, and constructs by their kinds and at their places.
use Rattle.std.proofs.Common.{◌≡◌, ℕ, List, Result, sym, subst}
use Rattle.ck_base.specs.declared.positions.Pos.{Pos}
use Rattle.ck_base.specs.declared.refusal.Refusal.{Refusal}
use Rattle.ck_base.specs.Tokens.{Lexeme}
use Rattle.c_tree.specs.Syntax.{Syns}
use Rattle.c_tree.specs.declared.syntax.Node.{Node}
use Rattle.c_tree.specs.Readings as meant
use Rattle.c_tree.specs.Scopes.{State, Doing}
use Rattle.c_types.specs.Stands.{text_at}
use Rattle.c_elaborator.specs.declared.work.Work.{Work}
use Rattle.c_elaborator.specs.Answers.{Way, Keeps, freely, Answers}
use Rattle.c_readings.specs.Kids.{IsNode}
use Rattle.c_readings.specs.Within.{NodeWithin}
use Rattle.c_readings.proofs.Kids.{parts_kept}
use Rattle.c_elaborator.specs.declared.items.Items.{Items}
use Rattle.c_elaborator.specs.Items.{IsItems}

pub node_kept : (u v : Work) (n : Node) (t : Lexeme) (xs : Syns) → Keeps u v → IsNode u n t xs → IsNode v n t xs
node_kept u v n t xs k h =
    record {
      place = h.place;
      span = h.span;
      text = subst (λ (f : List ℕ). t.text ≡ text_at f n.text) (sym k.file) h.text;
      fits = h.fits;
      kinds = h.kinds;
      parts =
          parts_kept u v n.kids xs k h.parts;
    }

pub node_within_kept : {d : ℕ} (u v : Work) (n : Node) → Keeps u v → NodeWithin u d n → NodeWithin v d n
node_within_kept u v n k h =
    record { token = h.token; syntax = h.syntax; is = node_kept u v n h.token h.syntax k h.is; within = h.within }

-- ---- a construct, by its kind and at its place

pub at_place : (u w : Work) (d : Pos → Doing meant.Items) (There : Work → Items → Type 0) (q p : Pos)
    (r : Result Items Refusal) → q ≡ p → Answers freely u w (d p) There IsItems r →
    Answers freely u w (d q) There IsItems r
at_place u w d There q p r e a = subst (λ (i : Pos). Answers freely u w (d i) There IsItems r) (sym e) a

-- the same of what is the same
pub at_same : {A E X : Type 0} (y : Way) (u v : Work) (f : E → Doing A) (There : Work → X → Type 0)
    (Is : Work → X → State → A → Type 0) (r : Result X Refusal) (a b : E) → a ≡ b → Answers y u v (f a) There Is r →
    Answers y u v (f b) There Is r
at_same {A} {E} y u v f There Is r a b e h = subst (λ (o : E). Answers y u v (f o) There Is r) e h
