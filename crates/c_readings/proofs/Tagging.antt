-- Structs, unions and enumerations, by the tag that stands first (C11 6.7.2.1 to 6.7.2.3).
use Rattle.std.proofs.Common.{◌≡◌, ℕ, List, [], ◌∷◌, length, Bool, true, Some, None, refl}
use Rattle.std.proofs.Common.{sym, ap, subst, ◌∙◌}
use Rattle.std.proofs.lemmas.Option.{none-some}
use Rattle.std.specs.Prelude.{slice_get, pos}
use Rattle.ck_base.specs.declared.positions.Pos.{Pos}
use Rattle.ck_base.specs.Tokens.{Lexeme}
use Rattle.c_tree.specs.declared.syntax.Node.{Node}
use Rattle.c_tree.specs.declared.syntax.NodeKind.{NodeKind}
use Rattle.c_tree.specs.declared.syntax.NodeKind.TheVariants as Kinds
use Rattle.c_tree.specs.declared.syntax.RecordKind.{RecordKind}
use Rattle.c_tree.specs.Syntax.{Syn, Syns, node, nil, more}
use Rattle.c_tree.specs.Types.{int}
use Rattle.c_tree.specs.Scopes.{State, give, ◌>>=◌, ◌>>◌}
use Rattle.c_tree.specs.Readings.{Reading}
use Rattle.c_tree.specs.Declarators.{record_specifier, enum_specifier, enumerators, named_tag}
use Rattle.c_tree.specs.Programs.{reading, readings}
use Rattle.c_elaborator.specs.declared.work.Work.{Work}
use Rattle.c_elaborator.specs.declared.work.Name.{Name}
use Rattle.c_elaborator.specs.Parts.{AreParts, token_of}
use Rattle.c_declarators.specs.Steps.{new_enumeration_of}
use Rattle.c_readings.specs.Kids.{tag_of, tail_of, name_of}
use Rattle.c_readings.specs.Specifying.{untagged, filled, tagged_record, listed, tagged_enumeration}
use Rattle.c_readings.proofs.Kids.{opened, cut, no_parts}
use Rattle.c_readings.proofs.Leaves.{tag_is}
use Rattle.c_readings.proofs.Among.{also_also}
use Rattle.c_readings.proofs.Gathering.{readings_more, readings_nil}

-- ---- what stands first

pub no_first : (w : Work) (ks : List ℕ) → ks ≡ [] → (xs : Syns) → AreParts w ks xs → tag_of xs ≡ None
no_first w ks e xs p = ap tag_of (no_parts w xs (subst (λ (z : List ℕ). AreParts w z xs) e p))

no_tag : (k : NodeKind) (t : Lexeme) (ys xs : Syns) → (k ≡ Kinds.Tag → ⊥) → tag_of (more (node k t ys) xs) ≡ None
no_tag Kinds.Tag t ys xs h = absurd (h refl)
no_tag k t ys xs h = refl

pub other_first : (w : Work) (ks js : List ℕ) (k : ℕ) (n : Node) → ks ≡ k ∷ js → slice_get w.tree.now.nodes k ≡ Some n →
    (n.kind ≡ Kinds.Tag → ⊥) → (xs : Syns) → AreParts w ks xs → tag_of xs ≡ None
other_first w ks js k n e g h xs p =
    let c = cut w k js xs (subst (λ (z : List ℕ). AreParts w z xs) e p) in
    let o = opened w k c.head n c.first g in
    ap tag_of c.is ∙ ap (λ (x : Syn). tag_of (more x c.tail)) o.is ∙ no_tag n.kind o.token o.parts c.tail h

pub tag_first : (w : Work) (ks js : List ℕ) (k : ℕ) (n : Node) (m : Name) → ks ≡ k ∷ js →
    slice_get w.tree.now.nodes k ≡ Some n → n.kind ≡ Kinds.Tag → m ≡ name_of n → (xs : Syns) → AreParts w ks xs →
    (tag_of xs ≡ Some (token_of w m)) × AreParts w js (tail_of xs)
tag_first w ks js k n m e g h i xs p =
    let c = cut w k js xs (subst (λ (z : List ℕ). AreParts w z xs) e p) in
    let o = opened w k c.head n c.first g in (
      ap tag_of c.is ∙ ap (λ (x : Syn). tag_of (more x c.tail)) (o.is ∙ ap (λ (z : NodeKind). node z o.token o.parts) h)
          ∙ ap (λ (t : Lexeme). Some t) (tag_is w n o.token o.parts o.node h ∙ ap (token_of w) (sym i)),
      subst (λ (z : Syns). AreParts w js (tail_of z)) (sym c.is) c.others,
    )

-- ---- a list of readings behind the first

-- ---- records

pub record_untagged : (k : RecordKind) (alone : Bool) (t : Lexeme) (p : Pos) (xs : Syns) (rs : List Reading)
    (s : State) → t.pos ≡ p → tag_of xs ≡ None → record_specifier k alone t xs rs s ≡ untagged k rs p s
unfolding record_specifier
record_untagged k alone t p xs rs s e h = at xs h ∙ ap (λ (q : Pos). untagged k rs q s) e
  where
    at : (xs : Syns) → tag_of xs ≡ None → record_specifier k alone t xs rs s ≡ untagged k rs t.pos s
    at nil h = refl
    at (more (node Kinds.Tag n ys) xs) h = absurd cc
    at (more (node j n ys) xs) h = refl

pub record_tagged : (k : RecordKind) (alone : Bool) (t n : Lexeme) (p : Pos) (xs : Syns) (s : State) → t.pos ≡ p →
    tag_of xs ≡ Some n → record_specifier k alone t xs (readings xs) s
    ≡ tagged_record k alone n (readings (tail_of xs)) p s
unfolding record_specifier
record_tagged k alone t n p xs s e h = at xs h ∙ ap (λ (q : Pos). tagged_record k alone n (readings (tail_of xs)) q s) e
  where
    same : {A : Type 0} (a b : A) → Some a ≡ Some b → a ≡ b
    same a b i = cc

    alone_is : (m : Lexeme) (ys : Syns) (rs qs : List Reading) → m ≡ n → qs ≡ [] →
        record_specifier k alone t (more (node Kinds.Tag m ys) nil) rs s ≡ tagged_record k alone n qs t.pos s
    alone_is m ys rs qs i j =
        ap (λ (l : Lexeme). tagged_record k alone l [] t.pos s) i
        ∙ ap (λ (z : List Reading). tagged_record k alone n z t.pos s) (sym j)

    behind_is : (m : Lexeme) (ys : Syns) (x : Syn) (xs : Syns) (r q : Reading) (rs qs : List Reading) → m ≡ n →
        qs ≡ q ∷ rs → record_specifier k alone t (more (node Kinds.Tag m ys) (more x xs)) (r ∷ qs) s
        ≡ tagged_record k alone n qs t.pos s
    behind_is m ys x xs r q rs qs i j =
        ap (λ (z : List Reading). record_specifier k alone t (more (node Kinds.Tag m ys) (more x xs)) (r ∷ z) s) j
        ∙ ap (λ (l : Lexeme). tagged_record k alone l (q ∷ rs) t.pos s) i
        ∙ ap (λ (z : List Reading). tagged_record k alone n z t.pos s) (sym j)

    at : (xs : Syns) → tag_of xs ≡ Some n →
        record_specifier k alone t xs (readings xs) s ≡ tagged_record k alone n (readings (tail_of xs)) t.pos s
    at nil h = absurd (none-some n h)
    at (more (node Kinds.Tag m ys) nil) h =
        alone_is m ys (readings (more (node Kinds.Tag m ys) nil)) (readings nil) (same m n h) readings_nil
    at (more (node Kinds.Tag m ys) (more x xs)) h =
        ap (λ (z : List Reading). record_specifier k alone t (more (node Kinds.Tag m ys) (more x xs)) z s)
        (readings_more (node Kinds.Tag m ys) (more x xs))
        ∙ behind_is m ys x xs (reading (node Kinds.Tag m ys)) (reading x) (readings xs) (readings (more x xs))
        (same m n h) (readings_more x xs)
    at (more (node j m ys) xs) h = absurd (none-some n h)

-- ---- enumerations

pub enum_untagged : (xs : Syns) (rs : List Reading) (s : State) → tag_of xs ≡ None →
    enum_specifier xs rs s ≡ listed rs s
unfolding enum_specifier
enum_untagged nil rs s h = refl
enum_untagged (more (node Kinds.Tag n ys) xs) rs s h = absurd cc
enum_untagged (more (node j n ys) xs) rs s h = refl

pub enum_tagged : (n : Lexeme) (xs : Syns) (s : State) → tag_of xs ≡ Some n →
    enum_specifier xs (readings xs) s ≡ tagged_enumeration n (readings (tail_of xs)) s
unfolding enum_specifier
enum_tagged n xs s h = at xs h
  where
    same : {A : Type 0} (a b : A) → Some a ≡ Some b → a ≡ b
    same a b i = cc

    alone_is : (m : Lexeme) (ys : Syns) (rs qs : List Reading) → m ≡ n → qs ≡ [] →
        enum_specifier (more (node Kinds.Tag m ys) nil) rs s ≡ tagged_enumeration n qs s
    alone_is m ys rs qs i j =
        ap (λ (l : Lexeme). tagged_enumeration l [] s) i ∙ ap (λ (z : List Reading). tagged_enumeration n z s) (sym j)

    behind_is : (m : Lexeme) (ys : Syns) (x : Syn) (xs : Syns) (r q : Reading) (rs qs : List Reading) → m ≡ n →
        qs ≡ q ∷ rs → enum_specifier (more (node Kinds.Tag m ys) (more x xs)) (r ∷ qs) s ≡ tagged_enumeration n qs s
    behind_is m ys x xs r q rs qs i j =
        ap (λ (z : List Reading). enum_specifier (more (node Kinds.Tag m ys) (more x xs)) (r ∷ z) s) j
        ∙ also_also (new_enumeration_of m) (enumerators (q ∷ rs) (pos 0)) (give int) s
        ∙ ap (λ (l : Lexeme). tagged_enumeration l (q ∷ rs) s) i
        ∙ ap (λ (z : List Reading). tagged_enumeration n z s) (sym j)

    at : (xs : Syns) → tag_of xs ≡ Some n →
        enum_specifier xs (readings xs) s ≡ tagged_enumeration n (readings (tail_of xs)) s
    at nil h = absurd (none-some n h)
    at (more (node Kinds.Tag m ys) nil) h =
        alone_is m ys (readings (more (node Kinds.Tag m ys) nil)) (readings nil) (same m n h) readings_nil
    at (more (node Kinds.Tag m ys) (more x xs)) h =
        ap (λ (z : List Reading). enum_specifier (more (node Kinds.Tag m ys) (more x xs)) z s)
        (readings_more (node Kinds.Tag m ys) (more x xs))
        ∙ behind_is m ys x xs (reading (node Kinds.Tag m ys)) (reading x) (readings xs) (readings (more x xs))
        (same m n h) (readings_more x xs)
    at (more (node j m ys) xs) h = absurd (none-some n h)

-- ---- a tag with parts behind it

pub record_behind : (k : RecordKind) (alone : Bool) (n : Lexeme) (rs : List Reading) (p : Pos) (s : State) →
    (length rs ≡ 0 → ⊥) → tagged_record k alone n rs p s ≡ (named_tag true k n >>= λ m. filled k m rs n.pos p) s
record_behind k alone n [] p s h = absurd (h refl)
record_behind k alone n (r ∷ rs) p s h = refl

pub enum_behind : (n : Lexeme) (rs : List Reading) (s : State) → (length rs ≡ 0 → ⊥) →
    tagged_enumeration n rs s ≡ (new_enumeration_of n >> listed rs) s
enum_behind n [] s h = absurd (h refl)
enum_behind n (r ∷ rs) s h = refl
