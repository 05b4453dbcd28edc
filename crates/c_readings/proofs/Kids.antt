-- The parts of a node from those of the tree.
use Rattle.std.proofs.Common.{◌≡◌, ℕ, zero, suc, ◌-◌, ◌<◌, ◌≤◌, List, [], ◌∷◌, length, Some, take}
use Rattle.std.proofs.Common.{drop, refl, sym, ap, subst, ◌∙◌, arith, length-drop, ⊎_elim}
use Rattle.std.proofs.lemmas.List.{take_min, drop_all}
use Rattle.std.proofs.lemmas.Bool.{cases_lt}
use Rattle.std.specs.Prelude.{slice_get, slice_range, min}
use Rattle.ck_base.specs.Tokens.{Lexeme}
use Rattle.c_tree.specs.declared.syntax.Node.{Node}
use Rattle.c_tree.specs.Expressions.{first_of}
use Rattle.c_tree.specs.Syntax.{first_token, Syn, Syns, node, nil, more, StandsAt, StandAt, stands, none, next}
use Rattle.c_tree.specs.Typing.{IsSpelled, AreSpelled, bytes_at}
use Rattle.c_types.specs.Stands.{text_at}
use Rattle.c_elaborator.specs.declared.work.Work.{Work}
use Rattle.c_elaborator.specs.Answers.{Keeps}
use Rattle.c_elaborator.specs.Parts.{TokenFits, PartsFit, IsWritten, AreWritten, IsPart, AreParts, HasPart}
use Rattle.c_elaborator.specs.Parts.{HaveParts}
use Rattle.c_readings.specs.Kids.{IsNode}

-- ---- a part stays one while the work grows

pub part_kept : (u v : Work) (k : ℕ) (x : Syn) → Keeps u v → IsPart u k x → IsPart v k x
part_kept u v k x h p = record {
  stands = subst (λ (t : _). StandsAt t.nodes k x) (sym h.tree) p.stands;
  spelled = subst (λ (f : List ℕ). IsSpelled f x) (sym h.file) p.spelled;
  written = p.written;
}

pub parts_kept : (u v : Work) (ks : List ℕ) (xs : Syns) → Keeps u v → AreParts u ks xs → AreParts v ks xs
parts_kept u v ks xs h p = record {
  stand = subst (λ (t : _). StandAt t.nodes ks xs) (sym h.tree) p.stand;
  spelled = subst (λ (f : List ℕ). AreSpelled f xs) (sym h.file) p.spelled;
  written = p.written;
}

-- ---- one of them and the others

pub record Cut (w : Work) (k : ℕ) (ks : List ℕ) (xs : Syns) : Type 0 where
  pub head : Syn
  pub tail : Syns
  pub is : xs ≡ more head tail
  pub first : IsPart w k head
  pub others : AreParts w ks tail

spelled_more : (f : List ℕ) (x : Syn) (xs : Syns) → AreSpelled f (more x xs) → IsSpelled f x × AreSpelled f xs
unfolding AreSpelled
spelled_more f x xs h = h

written_more : (x : Syn) (xs : Syns) → AreWritten (more x xs) → IsWritten x × AreWritten xs
unfolding AreWritten
written_more x xs h = h

stand_more : (nodes : List Node) (k : ℕ) (ks : List ℕ) (xs : Syns) → StandAt nodes (k ∷ ks) xs →
    (x : Syn) × (ys : Syns) × (xs ≡ more x ys) × StandsAt nodes k x × StandAt nodes ks ys
stand_more nodes k ks xs (next a b) = (_, _, refl, a, b)

pub cut : (w : Work) (k : ℕ) (ks : List ℕ) (xs : Syns) → AreParts w (k ∷ ks) xs → Cut w k ks xs
cut w k ks xs p =
    let m = stand_more w.tree.now.nodes k ks xs p.stand in
    let s = spelled_more w.file.now m.0 m.1 (subst (λ (z : Syns). AreSpelled w.file.now z) m.2 p.spelled) in
    let r = written_more m.0 m.1 (subst (λ (z : Syns). AreWritten z) m.2 p.written) in
    record {
      head = m.0;
      tail = m.1;
      is = m.2;
      first = record { stands = m.3; spelled = s.0; written = r.0 };
      others = record { stand = m.4; spelled = s.1; written = r.1 };
    }

pub no_parts : (w : Work) (xs : Syns) → AreParts w [] xs → xs ≡ nil
no_parts w xs p = empty w.tree.now.nodes xs p.stand
  where
    empty : (nodes : List Node) (xs : Syns) → StandAt nodes [] xs → xs ≡ nil
    empty nodes xs none = refl

-- as many as there are numbers
abbrev pub count : Syns → ℕ
count nil = 0
count (more x xs) = suc (count xs)

pub counted : (w : Work) (ks : List ℕ) (xs : Syns) → AreParts w ks xs → count xs ≡ length ks
counted w [] xs p = ap count (no_parts w xs p)
counted w (k ∷ ks) xs p = let c = cut w k ks xs p in ap count c.is ∙ ap suc (counted w ks c.tail c.others)

-- ---- some parts

pub have_first : (w : Work) (k : ℕ) (ks : List ℕ) → HaveParts w (k ∷ ks) → HasPart w k
have_first w k ks h = let c = cut w k ks h.syntax h.are in record { syntax = c.head; is = c.first }

-- ---- a node

pub record Opened (w : Work) (n : Node) (x : Syn) : Type 0 where
  pub token : Lexeme
  pub parts : Syns
  pub is : x ≡ node n.kind token parts
  pub first : n.first ≡ first_of x
  pub node : IsNode w n token parts

stands_open : (nodes : List Node) (k : ℕ) (x : Syn) (n : Node) → StandsAt nodes k x → slice_get nodes k ≡ Some n →
    (t : Lexeme) × (xs : Syns) × (x ≡ node n.kind t xs) × (t.pos ≡ n.pos) × (t.span ≡ n.text) ×
    StandAt nodes n.kids xs × (n.first ≡ (first_token (node n.kind t xs)).pos)
stands_open nodes k x n (stands {n = m} {t = t} {xs = xs} e p s f a) g =
    let same : m ≡ n = cc in (
      t,
      xs,
      ap (λ (z : Node). node z.kind t xs) same,
      sym p ∙ ap (λ (z : Node). z.pos) same,
      sym s
          ∙ ap (λ (z : Node). z.text) same,
      subst (λ (z : Node). StandAt nodes z.kids xs) same a,
      subst (λ (z : Node). z.first ≡ (first_token (node z.kind t xs)).pos) same f,
    )

spelled_node : (f : List ℕ) (k : _) (t : Lexeme) (xs : Syns) → IsSpelled f (node k t xs) →
    (t.text ≡ bytes_at f t) × AreSpelled f xs
unfolding IsSpelled
spelled_node f k t xs h = h

written_node : (k : _) (t : Lexeme) (xs : Syns) → IsWritten (node k t xs) →
    TokenFits k t × PartsFit k xs × AreWritten xs
unfolding IsWritten
written_node k t xs h = h

-- the bytes of a token
text_is : (f : List ℕ) (t : Lexeme) → bytes_at f t ≡ text_at f t.span
text_is f t =
    let s = t.span.start in
    let e = t.span.end in
    ⊎_elim (past f s e) (within f s e) (cases_lt (min e (length f)) s)
  where
    within : (f : List ℕ) (s e : ℕ) → s ≤ min e (length f) →
        take (e - s) (drop s f) ≡ slice_range f (min s (min e (length f))) (min e (length f))
    within f s e h =
        let n : length (drop s f) ≡ length f - s = length-drop s f in
        let q : min (e - s) (length (drop s f)) ≡ min e (length f) - s = omega arith in
        let r : s ≡ min s (min e (length f)) = omega arith in
        sym (take_min (e - s) (drop s f)) ∙ ap (λ (n : ℕ). take n (drop s f)) q
        ∙ ap (λ (i : ℕ). take (min e (length f) - i) (drop i f)) r

    take_none : (n : ℕ) (xs : List ℕ) → n ≡ 0 → take n xs ≡ []
    take_none n xs e = ap (λ (k : ℕ). take k xs) e

    from_none : (n : ℕ) (xs : List ℕ) → xs ≡ [] → take n xs ≡ []
    from_none zero xs e = refl
    from_none (suc n) xs e = ap (take (suc n)) e

    past : (f : List ℕ) (s e : ℕ) → min e (length f) < s →
        take (e - s) (drop s f) ≡ slice_range f (min s (min e (length f))) (min e (length f))
    past f s e h =
        let none : min e (length f) - min s (min e (length f)) ≡ 0 = omega arith in
        ⊎_elim
        (λ (l : e < s). take_none (e - s) (drop s f) (omega arith))
        (λ (l : s ≤ e). let m : length f ≤ s = omega arith in from_none (e - s) (drop s f) (drop_all s f m))
        (cases_lt e s)
        ∙ sym (take_none (min e (length f) - min s (min e (length f))) (drop (min s (min e (length f))) f) none)

pub opened : (w : Work) (k : ℕ) (x : Syn) (n : Node) → IsPart w k x → slice_get w.tree.now.nodes k ≡ Some n →
    Opened w n x
opened w k x n p g =
    let m = stands_open w.tree.now.nodes k x n p.stands g in
    let s = spelled_node w.file.now n.kind m.0 m.1 (subst (λ (z : Syn). IsSpelled w.file.now z) m.2 p.spelled) in
    let r = written_node n.kind m.0 m.1 (subst (λ (z : Syn). IsWritten z) m.2 p.written) in
    record {
      token = m.0;
      parts = m.1;
      is = m.2;
      first = m.6 ∙ ap first_of (sym m.2);
      node = record {
        place = m.3;
        span = m.4;
        text = s.0 ∙ text_is w.file.now m.0 ∙ ap (text_at w.file.now) m.4;
        fits = r.0;
        kinds = r.1;
        parts = record { stand = m.5; spelled = s.1; written = r.2 };
      };
    }
