-- A file has one answer, where it is read in one way.
use Rattle.std.proofs.Common.{◌≡◌, ℕ, ◌<◌, ◌≤◌, List, length, Option, Some, refl, sym, ap, subst, ◌∙◌, ◌⊎◌, inl, inr}
use Rattle.std.proofs.Common.{arith}
use Rattle.std.proofs.lemmas.Option.{none-some}
use Rattle.ck_base.specs.declared.positions.Pos.{Pos}
use Rattle.ck_base.specs.Tokens.{Lexeme}
use Rattle.ck_base.specs.Lexes.{Lexes}
use Rattle.c_tree.specs.declared.typed.Typed.{Typed}
use Rattle.c_tree.specs.Syntax.{Syn, height}
use Rattle.c_tree.specs.Parses.{DerivesFile}
use Rattle.c_tree.specs.Typing.{TypesSyntax, RefusesSyntax, Alike}
use Rattle.c_tree.specs.Brackets.{height_limit, excess}
use Rattle.c_tree.specs.File.{file_limit, HasRoom, IsCut, IsRead}
use Rattle.c_tree.proofs.OneAnswer.{one_answer}
use Rattle.c_tree.proofs.ViewRoom.{same_room}
use Rattle.accepted_files.specs.Accepted.{IsLight, Accepts, Refused, too_long, lexical, brackets, no_tree, typing}
use Rattle.accepted_files.specs.Accepted.{room, too_heavy, ReadsOnce, OneFile}
use Rattle.accepted_files.proofs.Light.{same_light}

same_syntax : (bytes : List ℕ) (o : ReadsOnce bytes) (a b : List Lexeme) (x y : Syn) → IsRead bytes a x →
    IsRead bytes b y → x ≡ y
same_syntax bytes o a b x y s t =
    let e = o.tokens a b s.cut.lexes t.cut.lexes in
    o.syntax b x y (subst (λ ts. DerivesFile ts x) e s.derives) t.derives

alike : (bytes : List ℕ) (o : ReadsOnce bytes) (a b : List Lexeme) (x y : Syn) (p q : Typed) → IsRead bytes a x →
    IsRead bytes b y → TypesSyntax x p → TypesSyntax y q → Alike p q
alike bytes o a b x y p q s t u v =
    (one_answer y).typed p q (subst (λ z. TypesSyntax z p) (same_syntax bytes o a b x y s t) u) v

-- ---- each rule holds where those before it do not apply

not_long : (bytes : List ℕ) → file_limit < length bytes → length bytes ≤ file_limit → ⊥
not_long bytes h k = omega arith

not_open : (bytes : List ℕ) (o : ReadsOnce bytes) (a b : List Lexeme) (place : Pos) → Lexes bytes a →
    excess a ≡ Some place → IsCut bytes b → ⊥
not_open bytes o a b place s e t =
    let f = o.tokens a b s t.lexes in
    none-some place (sym t.brackets ∙ sym (ap excess f) ∙ e)

not_without : (bytes : List ℕ) (o : ReadsOnce bytes) (a b : List Lexeme) (y : Syn) → IsCut bytes a →
    ((x : Syn) → DerivesFile a x → height x ≤ height_limit → ⊥) → IsRead bytes b y → ⊥
not_without bytes o a b y s h t =
    let f = o.tokens b a t.cut.lexes s.lexes in
    h y (subst (λ ts. DerivesFile ts y) f t.derives) t.low

not_typed : (bytes : List ℕ) (o : ReadsOnce bytes) (a b : List Lexeme) (x y : Syn) (code : ℕ) (place : Pos)
    (q : Typed) → IsRead bytes a x → RefusesSyntax x code place → IsRead bytes b y → TypesSyntax y q → ⊥
not_typed bytes o a b x y code place q s r t u =
    let f = same_syntax bytes o a b x y s t in
    (one_answer y).apart q code place u (subst (λ z. RefusesSyntax z code place) f r)

not_roomy : (bytes : List ℕ) (o : ReadsOnce bytes) (a b : List Lexeme) (x y : Syn) (p q : Typed) → IsRead bytes a x →
    TypesSyntax x p → (HasRoom p → ⊥) → IsRead bytes b y → TypesSyntax y q → HasRoom q → ⊥
not_roomy bytes o a b x y p q s u h t v r =
    let f = same_syntax bytes o b a y x t s in
    let w = subst (λ z. TypesSyntax z q) f v in
    let k = (one_answer x).typed q p w u in
    h (same_room q p k.program w.ordered u.ordered k.first k.second r)

not_heavy : (bytes : List ℕ) (o : ReadsOnce bytes) (a b : List Lexeme) (x y : Syn) (p q : Typed) → IsRead bytes a x →
    TypesSyntax x p → (IsLight p → ⊥) → IsRead bytes b y → TypesSyntax y q → IsLight q → ⊥
not_heavy bytes o a b x y p q s u h t v l =
    let f = same_syntax bytes o b a y x t s in
    let w = subst (λ z. TypesSyntax z q) f v in
    let k = (one_answer x).typed q p w u in
    h (same_light q p k.program w.ordered u.ordered k.first k.second l)

apart : (bytes : List ℕ) (o : ReadsOnce bytes) (p : Typed) (c : ℕ) (q : Pos) → Accepts bytes p → Refused bytes c q → ⊥
apart bytes o p c q a (too_long h) = not_long bytes h a.reads.cut.short
apart bytes o p c q a (lexical s r) = o.unrefused a.tokens c q a.reads.cut.lexes r
apart bytes o p c q a (brackets ts s l e) = not_open bytes o ts a.tokens q l e a.reads.cut
apart bytes o p c q a (no_tree ts s h w) = not_without bytes o ts a.tokens a.syntax s h a.reads
apart bytes o p c q a (typing ts x s r) = not_typed bytes o ts a.tokens x a.syntax c q p s r a.reads a.types
apart bytes o p c q a (room ts x r s u h) = not_roomy bytes o ts a.tokens x a.syntax r p s u h a.reads a.types a.room
apart bytes o p c q a (too_heavy ts x r s u h w) =
    not_heavy bytes o ts a.tokens x a.syntax r p s u w a.reads a.types a.light

same_place : (o r : Option Pos) (p q : Pos) → o ≡ r → o ≡ Some p → r ≡ Some q → p ≡ q
same_place o r p q e f g = let h : Some p ≡ Some q = sym f ∙ e ∙ g in cc

same_refusal : (bytes : List ℕ) (o : ReadsOnce bytes) (c d : ℕ) (p q : Pos) → Refused bytes c p → Refused bytes d q →
    (c ≡ d) × ((c ≡ 120) ⊎ (p ≡ q))
same_refusal bytes o c d p q (too_long h1) (too_long h2) = (refl, inr refl)
same_refusal bytes o c d p q (too_long h1) (lexical s2 r2) = absurd (not_long bytes h1 s2)
same_refusal bytes o c d p q (too_long h1) (brackets ts2 s2 l2 e2) = absurd (not_long bytes h1 s2)
same_refusal bytes o c d p q (too_long h1) (no_tree ts2 s2 h2 w2) = absurd (not_long bytes h1 s2.short)
same_refusal bytes o c d p q (too_long h1) (typing ts2 x2 s2 r2) = absurd (not_long bytes h1 s2.cut.short)
same_refusal bytes o c d p q (too_long h1) (room ts2 x2 p2 s2 u2 h2) = absurd (not_long bytes h1 s2.cut.short)
same_refusal bytes o c d p q (too_long h1) (too_heavy ts2 x2 p2 s2 u2 h2 w2) = absurd (not_long bytes h1 s2.cut.short)
same_refusal bytes o c d p q (lexical s1 r1) (too_long h2) = absurd (not_long bytes h2 s1)
same_refusal bytes o c d p q (lexical s1 r1) (lexical s2 r2) = let e = o.refused c d p q r1 r2 in (e.0, inr e.1)
same_refusal bytes o c d p q (lexical s1 r1) (brackets ts2 s2 l2 e2) = absurd (o.unrefused ts2 c p l2 r1)
same_refusal bytes o c d p q (lexical s1 r1) (no_tree ts2 s2 h2 w2) = absurd (o.unrefused ts2 c p s2.lexes r1)
same_refusal bytes o c d p q (lexical s1 r1) (typing ts2 x2 s2 r2) = absurd (o.unrefused ts2 c p s2.cut.lexes r1)
same_refusal bytes o c d p q (lexical s1 r1) (room ts2 x2 p2 s2 u2 h2) = absurd (o.unrefused ts2 c p s2.cut.lexes r1)
same_refusal bytes o c d p q (lexical s1 r1) (too_heavy ts2 x2 p2 s2 u2 h2 w2) =
    absurd (o.unrefused ts2 c p s2.cut.lexes r1)
same_refusal bytes o c d p q (brackets ts1 s1 l1 e1) (too_long h2) = absurd (not_long bytes h2 s1)
same_refusal bytes o c d p q (brackets ts1 s1 l1 e1) (lexical s2 r2) = absurd (o.unrefused ts1 d q l1 r2)
same_refusal bytes o c d p q (brackets ts1 s1 l1 e1) (brackets ts2 s2 l2 e2) =
    (refl, inr (same_place (excess ts1) (excess ts2) p q (ap excess (o.tokens ts1 ts2 l1 l2)) e1 e2))
same_refusal bytes o c d p q (brackets ts1 s1 l1 e1) (no_tree ts2 s2 h2 w2) =
    absurd (not_open bytes o ts1 ts2 p l1 e1 s2)
same_refusal bytes o c d p q (brackets ts1 s1 l1 e1) (typing ts2 x2 s2 r2) =
    absurd (not_open bytes o ts1 ts2 p l1 e1 s2.cut)
same_refusal bytes o c d p q (brackets ts1 s1 l1 e1) (room ts2 x2 p2 s2 u2 h2) =
    absurd (not_open bytes o ts1 ts2 p l1 e1 s2.cut)
same_refusal bytes o c d p q (brackets ts1 s1 l1 e1) (too_heavy ts2 x2 p2 s2 u2 h2 w2) =
    absurd (not_open bytes o ts1 ts2 p l1 e1 s2.cut)
same_refusal bytes o c d p q (no_tree ts1 s1 h1 w1) (too_long h2) = absurd (not_long bytes h2 s1.short)
same_refusal bytes o c d p q (no_tree ts1 s1 h1 w1) (lexical s2 r2) = absurd (o.unrefused ts1 d q s1.lexes r2)
same_refusal bytes o c d p q (no_tree ts1 s1 h1 w1) (brackets ts2 s2 l2 e2) =
    absurd (not_open bytes o ts2 ts1 q l2 e2 s1)
same_refusal bytes o c d p q (no_tree ts1 s1 h1 w1) (no_tree ts2 s2 h2 w2) = (refl, inl refl)
same_refusal bytes o c d p q (no_tree ts1 s1 h1 w1) (typing ts2 x2 s2 r2) =
    absurd (not_without bytes o ts1 ts2 x2 s1 h1 s2)
same_refusal bytes o c d p q (no_tree ts1 s1 h1 w1) (room ts2 x2 p2 s2 u2 h2) =
    absurd (not_without bytes o ts1 ts2 x2 s1 h1 s2)
same_refusal bytes o c d p q (no_tree ts1 s1 h1 w1) (too_heavy ts2 x2 p2 s2 u2 h2 w2) =
    absurd (not_without bytes o ts1 ts2 x2 s1 h1 s2)
same_refusal bytes o c d p q (typing ts1 x1 s1 r1) (too_long h2) = absurd (not_long bytes h2 s1.cut.short)
same_refusal bytes o c d p q (typing ts1 x1 s1 r1) (lexical s2 r2) = absurd (o.unrefused ts1 d q s1.cut.lexes r2)
same_refusal bytes o c d p q (typing ts1 x1 s1 r1) (brackets ts2 s2 l2 e2) =
    absurd (not_open bytes o ts2 ts1 q l2 e2 s1.cut)
same_refusal bytes o c d p q (typing ts1 x1 s1 r1) (no_tree ts2 s2 h2 w2) =
    absurd (not_without bytes o ts2 ts1 x1 s2 h2 s1)
same_refusal bytes o c d p q (typing ts1 x1 s1 r1) (typing ts2 x2 s2 r2) =
    let e = same_syntax bytes o ts1 ts2 x1 x2 s1 s2 in
    let f = (one_answer x2).refused c d p q (subst (λ z. RefusesSyntax z c p) e r1) r2 in (f.0, inr f.1)
same_refusal bytes o c d p q (typing ts1 x1 s1 r1) (room ts2 x2 p2 s2 u2 h2) =
    absurd (not_typed bytes o ts1 ts2 x1 x2 c p p2 s1 r1 s2 u2)
same_refusal bytes o c d p q (typing ts1 x1 s1 r1) (too_heavy ts2 x2 p2 s2 u2 h2 w2) =
    absurd (not_typed bytes o ts1 ts2 x1 x2 c p p2 s1 r1 s2 u2)
same_refusal bytes o c d p q (room ts1 x1 p1 s1 u1 h1) (too_long h2) = absurd (not_long bytes h2 s1.cut.short)
same_refusal bytes o c d p q (room ts1 x1 p1 s1 u1 h1) (lexical s2 r2) = absurd (o.unrefused ts1 d q s1.cut.lexes r2)
same_refusal bytes o c d p q (room ts1 x1 p1 s1 u1 h1) (brackets ts2 s2 l2 e2) =
    absurd (not_open bytes o ts2 ts1 q l2 e2 s1.cut)
same_refusal bytes o c d p q (room ts1 x1 p1 s1 u1 h1) (no_tree ts2 s2 h2 w2) =
    absurd (not_without bytes o ts2 ts1 x1 s2 h2 s1)
same_refusal bytes o c d p q (room ts1 x1 p1 s1 u1 h1) (typing ts2 x2 s2 r2) =
    absurd (not_typed bytes o ts2 ts1 x2 x1 d q p1 s2 r2 s1 u1)
same_refusal bytes o c d p q (room ts1 x1 p1 s1 u1 h1) (room ts2 x2 p2 s2 u2 h2) = (refl, inr refl)
same_refusal bytes o c d p q (room ts1 x1 p1 s1 u1 h1) (too_heavy ts2 x2 p2 s2 u2 h2 w2) =
    absurd (not_roomy bytes o ts1 ts2 x1 x2 p1 p2 s1 u1 h1 s2 u2 h2)
same_refusal bytes o c d p q (too_heavy ts1 x1 p1 s1 u1 h1 w1) (too_long h2) = absurd (not_long bytes h2 s1.cut.short)
same_refusal bytes o c d p q (too_heavy ts1 x1 p1 s1 u1 h1 w1) (lexical s2 r2) =
    absurd (o.unrefused ts1 d q s1.cut.lexes r2)
same_refusal bytes o c d p q (too_heavy ts1 x1 p1 s1 u1 h1 w1) (brackets ts2 s2 l2 e2) =
    absurd (not_open bytes o ts2 ts1 q l2 e2 s1.cut)
same_refusal bytes o c d p q (too_heavy ts1 x1 p1 s1 u1 h1 w1) (no_tree ts2 s2 h2 w2) =
    absurd (not_without bytes o ts2 ts1 x1 s2 h2 s1)
same_refusal bytes o c d p q (too_heavy ts1 x1 p1 s1 u1 h1 w1) (typing ts2 x2 s2 r2) =
    absurd (not_typed bytes o ts2 ts1 x2 x1 d q p1 s2 r2 s1 u1)
same_refusal bytes o c d p q (too_heavy ts1 x1 p1 s1 u1 h1 w1) (room ts2 x2 p2 s2 u2 h2) =
    absurd (not_roomy bytes o ts2 ts1 x2 x1 p2 p1 s2 u2 h2 s1 u1 h1)
same_refusal bytes o c d p q (too_heavy ts1 x1 p1 s1 u1 h1 w1) (too_heavy ts2 x2 p2 s2 u2 h2 w2) = (refl, inr refl)

pub one_file : (bytes : List ℕ) → ReadsOnce bytes → OneFile bytes
one_file bytes o = record {
  accepted = λ p q a b. alike bytes o a.tokens b.tokens a.syntax b.syntax p q a.reads b.reads a.types b.types;
  refused = same_refusal bytes o;
  apart = apart bytes o;
}
