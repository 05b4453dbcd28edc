-- What an initializer stands for, by its kind.
use Rattle.std.proofs.Common.{◌≡◌, ℕ, Bool, true, false, List, [], ◌∷◌, ◌++◌, length, get_or}
use Rattle.std.proofs.Common.{◌≤◌, ◌-◌, refl, sym, ap, subst, ◌∙◌, arith}
use Rattle.std.specs.Prelude.{◌&&◌, if◌then◌else◌}
use Rattle.ck_base.specs.declared.positions.Pos.{Pos}
use Rattle.ck_base.specs.Tokens.{Lexeme}
use Rattle.c_tree.specs.declared.syntax.NodeKind.{NodeKind}
use Rattle.c_tree.specs.declared.syntax.NodeKind.TheVariants as Kinds
use Rattle.c_tree.specs.Syntax.{Syn, Syns, node, nil, more, own_token}
use Rattle.c_tree.specs.Types.{Ty}
use Rattle.c_tree.specs.Values.{characters_of}
use Rattle.c_tree.specs.Scopes.{Doing}
use Rattle.c_tree.specs.Readings.{Slot, Reading}
use Rattle.c_tree.specs.Expressions.{expression_of, pieces, text_bytes}
use Rattle.c_tree.specs.Initializers.{takes_string, string_initializer, plain_initializer, braced_initializer}
use Rattle.c_tree.specs.Programs.{reading, readings, initializer_of, is_text}
use Rattle.c_elaborator.specs.declared.work.Work.{Work}
use Rattle.ck_base.specs.declared.tokens.TokenKind.TheVariants.{Text}
use Rattle.ck_base.specs.Lexes.{IsAccepted}
use Rattle.c_types.specs.Stands.{text_at}
use Rattle.c_elaborator.specs.declared.work.Part.{Part}
use Rattle.c_elaborator.specs.Nodes.{IsNode, kind_of, syns_of}
use Rattle.c_elaborator.specs.Parts.{TokenFits, IsPart, AreParts}
use Rattle.c_elaborator.proofs.Parting.{cut, no_parts}
use Rattle.c_initializers.specs.Slots.{string_filled}
use Rattle.c_statements.specs.Initial.{gives_items}
use Rattle.c_readings.specs.Within.{depth, depths, PartWithin, PartsWithin}

pub reads_braces : (x : Syn) (asked : Slot → Doing Unit) (whole : Pos) (of : Ty) (at : ℕ) →
    kind_of x ≡ Kinds.BracedInitializer →
    (reading x).initializer asked whole of at
    ≡ braced_initializer (own_token x) (is_text (syns_of x)) (readings (syns_of x)) asked whole of at
unfolding reading
reads_braces (node k t xs) asked whole of at e =
    ap (λ (j : NodeKind). initializer_of j t xs (readings xs) asked whole of at) e

pub reads_string : (x : Syn) (asked : Slot → Doing Unit) (whole : Pos) (of : Ty) (at : ℕ) → kind_of x ≡ Kinds.Text →
    takes_string of ≡ true → (reading x).initializer asked whole of at
    ≡ string_initializer (own_token x) (syns_of x) whole of at
unfolding reading
reads_string (node k t xs) asked whole of at e h =
    ap (λ (j : NodeKind). initializer_of j t xs (readings xs) asked whole of at) e
    ∙ ap (λ (b : Bool). if b then string_initializer t xs whole of at
    else plain_initializer (expression_of Kinds.Text t xs (readings xs)) asked whole of at) h

pub reads_text : (x : Syn) (asked : Slot → Doing Unit) (whole : Pos) (of : Ty) (at : ℕ) → kind_of x ≡ Kinds.Text →
    takes_string of ≡ false →
    (reading x).initializer asked whole of at ≡ plain_initializer (reading x).operand asked whole of at
unfolding reading
reads_text (node k t xs) asked whole of at e h =
    ap (λ (j : NodeKind). initializer_of j t xs (readings xs) asked whole of at) e
    ∙ ap (λ (b : Bool). if b then string_initializer t xs whole of at
    else plain_initializer (expression_of Kinds.Text t xs (readings xs)) asked whole of at) h
    ∙ ap (λ (j : NodeKind). plain_initializer (expression_of j t xs (readings xs)) asked whole of at) (sym e)

other : (k : NodeKind) (t : Lexeme) (xs : Syns) (rs : List Reading) (asked : Slot → Doing Unit) (whole : Pos) (of : Ty)
    (at : ℕ) → (k ≡ Kinds.BracedInitializer → ⊥) → (k ≡ Kinds.Text → ⊥) →
    initializer_of k t xs rs asked whole of at ≡ plain_initializer (expression_of k t xs rs) asked whole of at
other Kinds.BracedInitializer t xs rs asked whole of at g h = absurd (g refl)
other Kinds.Text t xs rs asked whole of at g h = absurd (h refl)
other _ t xs rs asked whole of at g h = refl

pub reads_value : (x : Syn) (asked : Slot → Doing Unit) (whole : Pos) (of : Ty) (at : ℕ) →
    (kind_of x ≡ Kinds.BracedInitializer → ⊥) → (kind_of x ≡ Kinds.Text → ⊥) →
    (reading x).initializer asked whole of at ≡ plain_initializer (reading x).operand asked whole of at
unfolding reading
reads_value (node k t xs) asked whole of at g h = other k t xs (readings xs) asked whole of at g h

-- ---- strings

pub string_is : (t : Lexeme) (xs : Syns) (whole : Pos) (of : Ty) (at : ℕ) →
    string_initializer t xs whole of at ≡ string_filled (text_bytes t xs) t.pos whole of at
unfolding string_initializer
string_is t xs whole of at = refl

-- the token's bytes and its place alone count
pub string_same : (t u : Lexeme) (xs : Syns) (whole : Pos) (of : Ty) (at : ℕ) → t.text ≡ u.text → t.pos ≡ u.pos →
    string_initializer t xs whole of at ≡ string_initializer u xs whole of at
string_same t u xs whole of at e f =
    string_is t xs whole of at
    ∙ ap (λ (bs : List ℕ). string_filled (characters_of bs ++ pieces xs ++ 0 ∷ []) t.pos whole of at) e
    ∙ ap (λ (p : Pos). string_filled (text_bytes u xs) p whole of at) f
    ∙ sym (string_is u xs whole of at)

-- ---- braces

pub readings_more : (x : Syn) (xs : Syns) → readings (more x xs) ≡ reading x ∷ readings xs
unfolding readings
readings_more x xs = refl

pub readings_nil : readings nil ≡ []
unfolding readings
readings_nil = refl

pub braced_lone : (t : Lexeme) (b : Bool) (r : Reading) (asked : Slot → Doing Unit) (whole : Pos) (of : Ty) (at : ℕ) →
    (b && takes_string of) ≡ true → braced_initializer t b (r ∷ []) asked whole of at ≡ r.initializer asked whole of at
unfolding braced_initializer
braced_lone t b r asked whole of at h =
    ap (λ (z : Bool). if z then r.initializer asked whole of at else gives_items (r ∷ []) asked whole of at t.pos) h

pub braced_listed : (t : Lexeme) (b : Bool) (rs : List Reading) (asked : Slot → Doing Unit) (whole : Pos) (of : Ty)
    (at : ℕ) → (b && takes_string of) ≡ false →
    braced_initializer t b rs asked whole of at ≡ gives_items rs asked whole of at t.pos
unfolding braced_initializer
braced_listed t b [] asked whole of at h = refl
braced_listed t b (r ∷ []) asked whole of at h =
    ap (λ (z : Bool). if z then r.initializer asked whole of at else gives_items (r ∷ []) asked whole of at t.pos) h
braced_listed t b (r ∷ q ∷ rs) asked whole of at h = refl

text_alone : (x : Syn) → kind_of x ≡ Kinds.Text → is_text (more x nil) ≡ true
text_alone (node k t ys) e = ap (λ (j : NodeKind). is_text (more (node j t ys) nil)) e

other_alone : (x : Syn) → (kind_of x ≡ Kinds.Text → ⊥) → is_text (more x nil) ≡ false
other_alone (node Kinds.Text t ys) h = absurd (h refl)
other_alone (node _ t ys) h = refl

several : (x y : Syn) (xs : Syns) → is_text (more x (more y xs)) ≡ false
several (node Kinds.Text t ys) y xs = refl
several (node _ t ys) y xs = refl

-- the only part
pub one_part : (w : Work) (k : ℕ) (xs : Syns) → AreParts w (k ∷ []) xs → (x : Syn) × (xs ≡ more x nil) × IsPart w k x
one_part w k xs p = let c = cut w k [] xs p in (c.head, c.is ∙ ap (more c.head) (no_parts w c.tail c.others), c.first)

pub lone_given : (t : Lexeme) (xs : Syns) (x : Syn) (asked : Slot → Doing Unit) (whole : Pos) (of : Ty) (at : ℕ) →
    xs ≡ more x nil → (is_text xs && takes_string of) ≡ true →
    braced_initializer t (is_text xs) (readings xs) asked whole of at ≡ (reading x).initializer asked whole of at
lone_given t xs x asked whole of at e h =
    ap (λ (rs : List Reading). braced_initializer t (is_text xs) rs asked whole of at)
    (ap readings e ∙ readings_more x nil ∙ ap (λ (rs : List Reading). reading x ∷ rs) readings_nil)
    ∙ braced_lone t (is_text xs) (reading x) asked whole of at h

pub lone_text : (xs : Syns) (x : Syn) (of : Ty) → xs ≡ more x nil → kind_of x ≡ Kinds.Text → takes_string of ≡ true →
    (is_text xs && takes_string of) ≡ true
lone_text xs x of e k h = rw e (rw (text_alone x k) h)

pub lone_other : (xs : Syns) (x : Syn) (of : Ty) → xs ≡ more x nil → (kind_of x ≡ Kinds.Text → ⊥) →
    (is_text xs && takes_string of) ≡ false
lone_other xs x of e k = rw e (rw (other_alone x k) refl)

pub not_alone : (w : Work) (ks : List ℕ) (xs : Syns) (of : Ty) → AreParts w ks xs → (length ks ≡ 1 → ⊥) →
    (is_text xs && takes_string of) ≡ false
not_alone w [] xs of p h = rw (no_parts w xs p) refl
not_alone w (k ∷ []) xs of p h = absurd (h refl)
not_alone w (k ∷ j ∷ ks) xs of p h =
    let c = cut w k (j ∷ ks) xs p in
    let d = cut w j ks c.tail c.others in
    let e : xs ≡ more c.head (more d.head d.tail) = c.is ∙ ap (more c.head) d.is in
    rw e (rw (several c.head d.head d.tail) refl)

pub one_alone : (ks : List ℕ) (d : ℕ) → length ks ≡ 1 → ks ≡ get_or ks 0 d ∷ []
one_alone [] d e = absurd (omega arith)
one_alone (k ∷ []) d e = refl
one_alone (k ∷ j ∷ ks) d e = absurd (omega arith)

-- ---- nodes

pub text_accepted : (w : Work) (p : Part) (x : Syn) → IsNode w p x → p.kind ≡ Kinds.Text →
    IsAccepted Text (text_at w.file.now p.name.span)
text_accepted w p x n e =
    subst (λ (bs : List ℕ). IsAccepted Text bs) n.text (subst (λ (k : NodeKind). TokenFits k (own_token x)) e n.fits)

low_parts : (x : Syn) → depths (syns_of x) ≤ depth x - 1
low_parts (node k t xs) = omega arith

pub node_parts : {d : ℕ} (w : Work) (k : ℕ) (p : Part) → ((x : Syn) → IsPart w k x → IsNode w p x) →
    PartWithin w d k → PartsWithin w (d - 1) p.kids.now
node_parts w k p h a =
    let low = low_parts a.syntax in
    let le = a.within in
    record { syntax = syns_of a.syntax; are = (h a.syntax a.is).parts; within = omega arith }
