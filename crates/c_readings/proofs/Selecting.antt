-- Members that are named (C11 6.5.2.3).
use Rattle.std.proofs.Common.{◌≡◌, ℕ, List, [], ◌∷◌, Some, refl, sym, ap, subst, ◌∙◌}
use Rattle.std.specs.Prelude.{slice_get}
use Rattle.ck_base.specs.declared.positions.Pos.{Pos}
use Rattle.ck_base.specs.Tokens.{Lexeme}
use Rattle.c_tree.specs.declared.syntax.Node.{Node}
use Rattle.c_tree.specs.declared.syntax.NodeKind.{NodeKind}
use Rattle.c_tree.specs.declared.syntax.NodeKind.TheVariants as Kinds
use Rattle.c_tree.specs.declared.syntax.Selection.{Selection}
use Rattle.c_tree.specs.declared.syntax.Selection.TheVariants.{Direct, Indirect}
use Rattle.c_tree.specs.Syntax.{Syn, Syns, node, nil, more}
use Rattle.c_tree.specs.Scopes.{State, refuse, ◌>>=◌}
use Rattle.c_tree.specs.Readings.{Reading}
use Rattle.c_tree.specs.Expressions.{read_value, expression_of, selected, member, member_behind}
use Rattle.c_tree.specs.Programs.{reading, readings}
use Rattle.c_types.specs.Stands.{text_at}
use Rattle.c_elaborator.specs.declared.work.Work.{Work}
use Rattle.c_elaborator.specs.Parts.{IsPart, AreParts}
use Rattle.c_readings.specs.Kids.{HasNot}
use Rattle.c_readings.proofs.Kids.{opened, cut, no_parts, count, counted}
use Rattle.c_readings.proofs.Gathering.{readings_more}

pub direct_is : (t word : Lexeme) (p : Pos) (name : List ℕ) → t.pos ≡ p → word.text ≡ name → (r : Reading) (s : State) →
    selected Direct t word r s ≡ (r.operand >>= λ a. member a name p) s
direct_is t word p name e n r s =
    ap (λ (x : List ℕ). (r.operand >>= λ a. member a x t.pos) s) n
    ∙ ap (λ (q : Pos). (r.operand >>= λ a. member a name q) s) e

pub indirect_is : (t word : Lexeme) (p : Pos) (name : List ℕ) → t.pos ≡ p → word.text ≡ name →
    (r : Reading) (s : State) → selected Indirect t word r s ≡ (read_value r >>= λ a. member_behind a name p) s
indirect_is t word p name e n r s =
    ap (λ (x : List ℕ). (read_value r >>= λ a. member_behind a x t.pos) s) n
    ∙ ap (λ (q : Pos). (read_value r >>= λ a. member_behind a name q) s) e

pub record Selects (w : Work) (a : ℕ) (m : Node) (o : Selection) (t : Lexeme) (xs : Syns) : Type 0 where
  pub head : Syn
  pub name : Lexeme
  pub is : expression_of (Kinds.Select o) t xs (readings xs) ≡ selected o t name (reading head)
  pub part : IsPart w a head
  pub text : name.text ≡ text_at w.file.now m.text

at_two : (o : Selection) (t : Lexeme) (x y : Syn) (k : NodeKind) (name : Lexeme) (ys : Syns) (rs : List Reading) →
    y ≡ node k name ys → expression_of (Kinds.Select o) t (more x (more y nil)) (reading x ∷ rs)
    ≡ selected o t name (reading x)
at_two o t x y k name ys rs e =
    ap (λ (z : Syn). expression_of (Kinds.Select o) t (more x (more z nil)) (reading x ∷ rs)) e

pub selects : (w : Work) (ks : List ℕ) (a b : ℕ) (m : Node) (o : Selection) (t : Lexeme) → ks ≡ a ∷ b ∷ [] →
    slice_get w.tree.now.nodes b ≡ Some m → (xs : Syns) → AreParts w ks xs → Selects w a m o t xs
selects w ks a b m o t e g xs p =
    let c = cut w a (b ∷ []) xs (subst (λ (z : List ℕ). AreParts w z xs) e p) in
    let d = cut w b [] c.tail c.others in
    let f = opened w b d.head m d.first g in
    let two : xs ≡ more c.head (more d.head nil) =
    c.is ∙ ap (more c.head) (d.is ∙ ap (more d.head) (no_parts w d.tail d.others)) in
    let read : readings xs ≡ reading c.head ∷ readings c.tail = ap readings c.is ∙ readings_more c.head c.tail in
    record {
      head = c.head;
      name = f.token;
      is = ap (λ (rs : List Reading). expression_of (Kinds.Select o) t xs rs) read
          ∙ ap (λ (z : Syns). expression_of (Kinds.Select o) t z (reading c.head ∷ readings c.tail)) two
          ∙ at_two o t c.head d.head m.kind f.token f.parts (readings c.tail) f.is;
      part = c.first;
      text = f.node.text;
    }

not_two : (o : Selection) (t : Lexeme) (xs : Syns) (rs : List Reading) (s : State) → (count xs ≡ 2 → ⊥) →
    expression_of (Kinds.Select o) t xs rs s ≡ refuse 120 t.pos s
not_two o t nil rs s h = refl
not_two o t (more x nil) rs s h = refl
not_two o t (more x (more (node k n ys) nil)) rs s h = absurd (h refl)
not_two o t (more x (more (node k n ys) (more z zs))) rs s h = refl

pub not_selected : (w : Work) (ks : List ℕ) (o : Selection) (t : Lexeme) (p : Pos) → t.pos ≡ p → HasNot 2 ks →
    (xs : Syns) → AreParts w ks xs → (s : State) → expression_of (Kinds.Select o) t xs (readings xs) s ≡ refuse 120 p s
not_selected w ks o t p e h xs k s =
    not_two o t xs (readings xs) s (λ q. h (sym (counted w ks xs k) ∙ q)) ∙ ap (λ (q : Pos). refuse 120 q s) e
