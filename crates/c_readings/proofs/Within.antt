-- Parts of the tree that go at most so deep.
use Rattle.std.proofs.Common.{◌≡◌, ℕ, zero, suc, ◌-◌, ◌<◌, ◌≤◌, List, [], ◌∷◌, length, get_or, refl, sym, ap}
use Rattle.std.proofs.Common.{subst, ◌∙◌, arith}
use Rattle.std.proofs.lemmas.Option.{none-some, slice_get_within}
use Rattle.std.specs.Prelude.{slice_get, max, Some, None}
use Rattle.ck_base.specs.Tokens.{Lexeme}
use Rattle.c_tree.specs.declared.syntax.Node.{Node}
use Rattle.c_tree.specs.declared.syntax.NodeKind.{NodeKind}
use Rattle.c_tree.specs.declared.syntax.NodeKind.TheVariants as Kinds
use Rattle.c_tree.specs.Syntax.{Syn, Syns, node, nil, more, StandsAt, stands}
use Rattle.c_elaborator.specs.declared.work.Work.{Work}
use Rattle.c_elaborator.specs.Answers.{Keeps}
use Rattle.c_elaborator.specs.Parts.{HasPart, AreParts, HaveParts, IsOf, AreOf, AreEnumerators, HasParameters, PartsFit}
use Rattle.c_readings.specs.Kids.{HasNode, HasEnds, tag_of, tail_of}
use Rattle.c_readings.specs.Within.{depth, depths, PartWithin, PartsWithin, PartThat, PartsThat, NodeWithin}
use Rattle.c_readings.proofs.Kids.{part_kept, parts_kept, cut, no_parts, opened}

-- ---- what they are without regard to how deep they go

pub have_parts : {d : ℕ} (w : Work) (ks : List ℕ) → PartsWithin w d ks → HaveParts w ks
have_parts w ks h = record { syntax = h.syntax; are = h.are }

stands_there : (nodes : List Node) (k : ℕ) (x : Syn) → StandsAt nodes k x → k < length nodes
stands_there nodes k x (stands {n = n} e p s f a) = slice_get_within nodes k n e

pub has_there : (w : Work) (k : ℕ) → HasPart w k → k < length w.tree.now.nodes
has_there w k h = stands_there w.tree.now.nodes k h.syntax h.is.stands

pub part_there : {d : ℕ} (w : Work) (k : ℕ) → PartWithin w d k → k < length w.tree.now.nodes
part_there w k h = stands_there w.tree.now.nodes k h.syntax h.is.stands

depth_some : (x : Syn) → 0 < depth x
depth_some (node k t xs) = omega arith

pub deep : {d : ℕ} (w : Work) (k : ℕ) → PartWithin w d k → 0 < d
deep w k h = let some = depth_some h.syntax in let le = h.within in omega arith

-- ---- they stay so while the work grows

pub still_within : {d : ℕ} (u v : Work) (k : ℕ) → Keeps u v → PartWithin u d k → PartWithin v d k
still_within u v k h p =
    record { syntax = p.syntax; is = part_kept u v k p.syntax h p.is; within = p.within }

pub within_kept : {d : ℕ} (u v : Work) (ks : List ℕ) → Keeps u v → PartsWithin u d ks → PartsWithin v d ks
within_kept u v ks h p =
    record { syntax = p.syntax; are = parts_kept u v ks p.syntax h p.are; within = p.within }

-- ---- one of them and the others

pub first_within : {d : ℕ} (w : Work) (k : ℕ) (ks : List ℕ) → PartsWithin w d (k ∷ ks) → PartWithin w d k
first_within w k ks h =
    let c = cut w k ks h.syntax h.are in
    let e : depths h.syntax ≡ max (depth c.head) (depths c.tail) = ap depths c.is in
    let le = h.within in
    record { syntax = c.head; is = c.first; within = omega arith }

pub others_within : {d : ℕ} (w : Work) (k : ℕ) (ks : List ℕ) → PartsWithin w d (k ∷ ks) → PartsWithin w d ks
others_within w k ks h =
    let c = cut w k ks h.syntax h.are in
    let e : depths h.syntax ≡ max (depth c.head) (depths c.tail) = ap depths c.is in
    let le = h.within in
    record { syntax = c.tail; are = c.others; within = omega arith }

low_tail : (xs : Syns) → depths (tail_of xs) ≤ depths xs
low_tail nil = omega arith
low_tail (more x xs) = omega arith

pub behind_within : {d : ℕ} (w : Work) (ks js : List ℕ) → (h : PartsWithin w d ks) → AreParts w js (tail_of h.syntax) →
    PartsWithin w d js
behind_within w ks js h are =
    let low = low_tail h.syntax in
    let le = h.within in
    record { syntax = tail_of h.syntax; are = are; within = omega arith }

pub one_within : {d : ℕ} (w : Work) (ks : List ℕ) (a : ℕ) → ks ≡ a ∷ [] → PartsWithin w d ks → PartWithin w d a
one_within {d} w ks a e h = first_within w a [] (subst (λ (z : List ℕ). PartsWithin w d z) e h)

pub two_within : {d : ℕ} (w : Work) (ks : List ℕ) (a b : ℕ) → ks ≡ a ∷ b ∷ [] → PartsWithin w d ks →
    PartWithin w d a × PartWithin w d b
two_within {d} w ks a b e h =
    let k = subst (λ (z : List ℕ). PartsWithin w d z) e h in
    (first_within w a (b ∷ []) k, first_within w b [] (others_within w a (b ∷ []) k))

pub three_within : {d : ℕ} (w : Work) (ks : List ℕ) (a b c : ℕ) → ks ≡ a ∷ b ∷ c ∷ [] → PartsWithin w d ks →
    PartWithin w d a × PartWithin w d b × PartWithin w d c
three_within {d} w ks a b c e h =
    let k = subst (λ (z : List ℕ). PartsWithin w d z) e h in
    let l = others_within w a (b ∷ c ∷ []) k in (
      first_within w a (b ∷ c ∷ []) k,
      first_within w b (c ∷ []) l,
      first_within w c [] (others_within w b (c ∷ []) l),
    )

pub ends_within : {d : ℕ} (w : Work) (ks before : List ℕ) (last : ℕ) → HasEnds ks before last → PartsWithin w d ks →
    PartsWithin w d before × PartWithin w d last
ends_within w [] before last h p = absurd h
ends_within {d} w (k ∷ []) before last h p = (
  subst (λ (z : List ℕ). PartsWithin w d z) (sym h.0) (others_within w k [] p),
  subst (λ (z : ℕ). PartWithin w d z) (sym h.1) (first_within w k [] p),
)
ends_within {d} w (j ∷ k ∷ ks) before last h p = (
  subst (λ (z : List ℕ). PartsWithin w d z) (sym h.0) p,
  subst (λ (z : ℕ). PartWithin w d z) (sym h.1) (first_within w k ks (others_within w j (k ∷ ks) p)),
)

-- ---- a node

pub kids_within : {d : ℕ} (w : Work) (k : ℕ) (n : Node) → PartWithin w d k → slice_get w.tree.now.nodes k ≡ Some n →
    PartsWithin w (d - 1) n.kids
kids_within w k n h g =
    let o = opened w k h.syntax n h.is g in
    let e : depth h.syntax ≡ suc (depths o.parts) = ap depth o.is in
    let le = h.within in
    record { syntax = o.parts; are = o.node.parts; within = omega arith }

pub node_within : {d : ℕ} (w : Work) (k : ℕ) (n : Node) → PartWithin w d k → slice_get w.tree.now.nodes k ≡ Some n →
    HasNode w n
node_within w k n h g =
    let o = opened w k h.syntax n h.is g in record { token = o.token; syntax = o.parts; is = o.node }

pub node_of : {d : ℕ} (w : Work) (k : ℕ) (n : Node) → PartWithin w d k → slice_get w.tree.now.nodes k ≡ Some n →
    NodeWithin w (d - 1) n
node_of w k n h g =
    let o = opened w k h.syntax n h.is g in
    let e : depth h.syntax ≡ suc (depths o.parts) = ap depth o.is in
    let le = h.within in
    record { token = o.token; syntax = o.parts; is = o.node; within = omega arith }

pub node_low : {d : ℕ} (w : Work) (k : ℕ) (n : Node) → PartWithin w d k → slice_get w.tree.now.nodes k ≡ Some n →
    NodeWithin w d n
node_low w k n h g =
    let o = node_of w k n h g in
    let le = o.within in
    record { token = o.token; syntax = o.syntax; is = o.is; within = omega arith }

pub kids_in : {d : ℕ} (w : Work) (n : Node) (ks : List ℕ) → NodeWithin w d n → ks ≡ n.kids → PartsWithin w d ks
kids_in w n ks h e =
    let are = subst (λ (z : List ℕ). AreParts w z h.syntax) (sym e) h.is.parts in
    record { syntax = h.syntax; are = are; within = h.within }

pub kids_low : {d : ℕ} (w : Work) (k : ℕ) (n : Node) → PartWithin w d k → slice_get w.tree.now.nodes k ≡ Some n →
    PartsWithin w d n.kids
kids_low w k n h g = kids_in w n n.kids (node_low w k n h g) refl

-- ---- of which kinds they are

pub kinds_in : {d : ℕ} (w : Work) (n : Node) (ks : List ℕ) (kind : NodeKind) → NodeWithin w d n → ks ≡ n.kids →
    n.kind ≡ kind → PartsThat (PartsFit kind) w d ks
kinds_in w n ks kind h e i = record {
  parts = record {
    syntax = h.syntax;
    are = subst (λ (z : List ℕ). AreParts w z h.syntax) (sym e) h.is.parts;
    within = h.within;
  };
  have = subst (λ (z : NodeKind). PartsFit z h.syntax) i h.is.kinds;
}

pub kind_is : {d : ℕ} (w : Work) (k : ℕ) (n : Node) (kind : NodeKind) → PartThat (IsOf kind) w d k →
    slice_get w.tree.now.nodes k ≡ Some n → n.kind ≡ kind
kind_is w k n kind h g = let o = opened w k h.part.syntax n h.part.is g in subst (IsOf kind) o.is h.has

pub kinds_kept : {Are : Syns → Type 0} {d : ℕ} (u v : Work) (ks : List ℕ) → Keeps u v → PartsThat Are u d ks →
    PartsThat Are v d ks
kinds_kept u v ks h p = record {
  parts = record {
    syntax = p.parts.syntax;
    are = parts_kept u v ks p.parts.syntax h p.parts.are;
    within = p.parts.within;
  };
  have = p.have;
}

pub kind_kept : {Is : Syn → Type 0} {d : ℕ} (u v : Work) (k : ℕ) → Keeps u v → PartThat Is u d k → PartThat Is v d k
kind_kept u v k h p = record {
  part = record {
    syntax = p.part.syntax;
    is = part_kept u v k p.part.syntax h p.part.is;
    within = p.part.within;
  };
  has = p.has;
}

pub first_of_kind : {d : ℕ} (w : Work) (kind : NodeKind) (k : ℕ) (ks : List ℕ) →
    PartsThat (AreOf kind) w d (k ∷ ks) → PartThat (IsOf kind) w d k
first_of_kind w kind k ks h =
    let c = cut w k ks h.parts.syntax h.parts.are in
    let e : depths h.parts.syntax ≡ max (depth c.head) (depths c.tail) = ap depths c.is in
    let le = h.parts.within in
    record {
      part = record { syntax = c.head; is = c.first; within = omega arith };
      has = (subst (AreOf kind) c.is h.have).0;
    }

pub others_of_kind : {d : ℕ} (w : Work) (kind : NodeKind) (k : ℕ) (ks : List ℕ) →
    PartsThat (AreOf kind) w d (k ∷ ks) → PartsThat (AreOf kind) w d ks
others_of_kind w kind k ks h =
    let c = cut w k ks h.parts.syntax h.parts.are in
    let e : depths h.parts.syntax ≡ max (depth c.head) (depths c.tail) = ap depths c.is in
    let le = h.parts.within in
    record {
      parts = record { syntax = c.tail; are = c.others; within = omega arith };
      have = (subst (AreOf kind) c.is h.have).1;
    }

-- an enumeration's constants stand behind its tag
no_tag_before : (xs : Syns) → tag_of xs ≡ None → AreEnumerators xs → AreOf Kinds.Enumerator xs
no_tag_before nil e h = h
no_tag_before (more (node Kinds.Tag t ys) xs) e h = absurd cc
no_tag_before (more (node k t ys) xs) e h = h

tag_before : (t : Lexeme) (xs : Syns) → tag_of xs ≡ Some t → AreEnumerators xs → AreOf Kinds.Enumerator (tail_of xs)
tag_before t nil e h = absurd (none-some t e)
tag_before t (more (node Kinds.Tag n ys) xs) e h = h
tag_before t (more (node k n ys) xs) e h = absurd (none-some t e)

pub untagged_kind : {d : ℕ} (w : Work) (ks : List ℕ) → (h : PartsThat AreEnumerators w d ks) →
    tag_of h.parts.syntax ≡ None → PartsThat (AreOf Kinds.Enumerator) w d ks
untagged_kind w ks h e = record { parts = h.parts; have = no_tag_before h.parts.syntax e h.have }

pub tagged_kind : {d : ℕ} (w : Work) (ks js : List ℕ) (t : Lexeme) → (h : PartsThat AreEnumerators w d ks) →
    tag_of h.parts.syntax ≡ Some t → AreParts w js (tail_of h.parts.syntax) →
    PartsThat (AreOf Kinds.Enumerator) w d js
tagged_kind w ks js t h e are =
    let low = low_tail h.parts.syntax in
    let le = h.parts.within in
    record {
      parts = record { syntax = tail_of h.parts.syntax; are = are; within = omega arith };
      have = tag_before t h.parts.syntax e h.have;
    }

-- the parameters of a function declarator are the part that is read last
pub last_kind : {d : ℕ} (w : Work) (ks before : List ℕ) (last : ℕ) → HasEnds ks before last →
    PartsThat HasParameters w d ks → PartThat (IsOf Kinds.Parameters) w d last
last_kind w [] before last h p = absurd h
last_kind {d} w (k ∷ []) before last h p =
    let c = cut w k [] p.parts.syntax p.parts.are in
    let is : p.parts.syntax ≡ more c.head nil = c.is ∙ ap (more c.head) (no_parts w c.tail c.others) in
    let e : depths p.parts.syntax ≡ max (depth c.head) 0 = ap depths is in
    let le = p.parts.within in
    subst (λ (z : ℕ). PartThat (IsOf Kinds.Parameters) w d z) (sym h.1) (record {
      part = record { syntax = c.head; is = c.first; within = omega arith };
      has = subst HasParameters is p.have;
    })
last_kind {d} w (j ∷ k ∷ ks) before last h p =
    let b = cut w j (k ∷ ks) p.parts.syntax p.parts.are in
    let c = cut w k ks b.tail b.others in
    let is : p.parts.syntax ≡ more b.head (more c.head c.tail) = b.is ∙ ap (more b.head) c.is in
    let e : depths p.parts.syntax ≡ max (depth b.head) (max (depth c.head) (depths c.tail)) = ap depths is in
    let le = p.parts.within in
    subst (λ (z : ℕ). PartThat (IsOf Kinds.Parameters) w d z) (sym h.1) (record {
      part = record { syntax = c.head; is = c.first; within = omega arith };
      has = subst HasParameters is p.have;
    })

-- ---- one of them by its place

pub at_within : {d : ℕ} (w : Work) (ks : List ℕ) (i n : ℕ) → i < length ks → PartsWithin w d ks →
    PartWithin w d (get_or ks i n)
at_within w [] i n lt h = absurd (omega arith)
at_within w (k ∷ ks) zero n lt h = first_within w k ks h
at_within w (k ∷ ks) (suc i) n lt h = at_within w ks i n (omega arith) (others_within w k ks h)
