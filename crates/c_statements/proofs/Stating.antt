-- Constructs and the number of their parts, and steps that are made of others.
use Rattle.std.proofs.Common.{◌≡◌, ℕ, suc, List, [], ◌∷◌, length, Result, Ok, Err, refl, sym, ap, subst, ◌∙◌}
use Rattle.ck_base.specs.declared.positions.Pos.{Pos}
use Rattle.ck_base.specs.declared.refusal.Refusal.{Refusal}
use Rattle.ck_base.specs.Tokens.{Lexeme}
use Rattle.c_tree.specs.declared.syntax.NodeKind.{NodeKind}
use Rattle.c_tree.specs.Syntax.{Syn, Syns, node, nil, more}
use Rattle.c_tree.specs.Readings.{Reading}
use Rattle.c_tree.specs.Scopes.{State, Doing, Fault, give, refuse, leave, in_scope, continued, ◌>>=◌, ◌>>◌}
use Rattle.c_tree.specs.Programs.{reading, readings, reading_of}
use Rattle.c_elaborator.specs.declared.work.Work.{Work}
use Rattle.c_elaborator.specs.Work.{Shows}
use Rattle.c_elaborator.specs.Answers.{Way, Answers}
use Rattle.c_elaborator.specs.Parts.{IsPart, AreParts}
use Rattle.c_readings.specs.Kids.{HasNot}
use Rattle.c_statements.specs.Arity.{with_one, with_two, with_three}
use Rattle.c_readings.proofs.Kids.{cut, no_parts, count, counted}

-- ---- what parts are read

pub reading_node : (k : NodeKind) (t : Lexeme) (xs : Syns) → reading (node k t xs) ≡ reading_of k t xs (readings xs)
unfolding reading
reading_node k t xs = refl

pub readings_more : (x : Syn) (xs : Syns) → readings (more x xs) ≡ reading x ∷ readings xs
unfolding readings
readings_more x xs = refl

pub readings_nil : readings nil ≡ []
unfolding readings
readings_nil = refl

pub read_count : (xs : Syns) → length (readings xs) ≡ count xs
unfolding readings
read_count nil = refl
read_count (more x xs) = ap suc (read_count xs)

pub readings_not : (w : Work) (n : ℕ) (ks : List ℕ) (xs : Syns) → AreParts w ks xs → HasNot n ks →
    length (readings xs) ≡ n → ⊥
readings_not w n ks xs p h e = h (sym (counted w ks xs p) ∙ sym (read_count xs) ∙ e)

pub one_part : (w : Work) (a : ℕ) (xs : Syns) → AreParts w (a ∷ []) xs →
    (x : Syn) × (readings xs ≡ reading x ∷ []) × IsPart w a x
one_part w a xs p =
    let c = cut w a [] xs p in (
      c.head,
      ap readings c.is ∙ readings_more c.head c.tail
          ∙ ap (λ z. reading c.head ∷ z) (ap readings (no_parts w c.tail c.others) ∙ readings_nil),
      c.first,
    )

pub two_parts : (w : Work) (a b : ℕ) (xs : Syns) → AreParts w (a ∷ b ∷ []) xs →
    (x : Syn) × (y : Syn) × (readings xs ≡ reading x ∷ reading y ∷ []) × IsPart w a x × IsPart w b y
two_parts w a b xs p =
    let c = cut w a (b ∷ []) xs p in
    let e = one_part w b c.tail c.others in
    (c.head, e.0, ap readings c.is ∙ readings_more c.head c.tail ∙ ap (λ z. reading c.head ∷ z) e.1, c.first, e.2)

pub three_parts : (w : Work) (a b c : ℕ) (xs : Syns) → AreParts w (a ∷ b ∷ c ∷ []) xs →
    (x : Syn) × (y : Syn) × (z : Syn) × (readings xs ≡ reading x ∷ reading y ∷ reading z ∷ []) × IsPart w a x ×
    IsPart w b y × IsPart w c z
three_parts w a b c xs p =
    let d = cut w a (b ∷ c ∷ []) xs p in
    let e = two_parts w b c d.tail d.others in (
      d.head,
      e.0,
      e.1,
      ap readings d.is ∙ readings_more d.head d.tail ∙ ap (λ z. reading d.head ∷ z) e.2,
      d.first,
      e.3,
      e.4,
    )

-- ---- as many parts as a construct has, else 120

one_not : {A : Type 0} (d : Reading → Doing A) (p : Pos) (rs : List Reading) → (length rs ≡ 1 → ⊥) →
    with_one d p rs ≡ refuse 120 p
one_not d p [] h = refl
one_not d p (r ∷ []) h = absurd (h refl)
one_not d p (r ∷ q ∷ rs) h = refl

two_not : {A : Type 0} (d : Reading → Reading → Doing A) (p : Pos) (rs : List Reading) → (length rs ≡ 2 → ⊥) →
    with_two d p rs ≡ refuse 120 p
two_not d p [] h = refl
two_not d p (r ∷ []) h = refl
two_not d p (r ∷ q ∷ []) h = absurd (h refl)
two_not d p (r ∷ q ∷ o ∷ rs) h = refl

three_not : {A : Type 0} (d : Reading → Reading → Reading → Doing A) (p : Pos) (rs : List Reading) →
    (length rs ≡ 3 → ⊥) → with_three d p rs ≡ refuse 120 p
three_not d p [] h = refl
three_not d p (r ∷ []) h = refl
three_not d p (r ∷ q ∷ []) h = refl
three_not d p (r ∷ q ∷ o ∷ []) h = absurd (h refl)
three_not d p (r ∷ q ∷ o ∷ z ∷ rs) h = refl

pub not_one : {A : Type 0} (w : Work) (ks : List ℕ) (d : Reading → Doing A) (p : Pos) → HasNot 1 ks → (xs : Syns) →
    AreParts w ks xs → (s : State) → Shows w s → with_one d p (readings xs) s ≡ refuse 120 p s
not_one w ks d p h xs a s t = ap (λ (e : Doing _). e s) (one_not d p (readings xs) (readings_not w 1 ks xs a h))

pub not_two : {A : Type 0} (w : Work) (ks : List ℕ) (d : Reading → Reading → Doing A) (p : Pos) → HasNot 2 ks →
    (xs : Syns) → AreParts w ks xs → (s : State) → Shows w s → with_two d p (readings xs) s ≡ refuse 120 p s
not_two w ks d p h xs a s t = ap (λ (e : Doing _). e s) (two_not d p (readings xs) (readings_not w 2 ks xs a h))

pub not_three : {A : Type 0} (w : Work) (ks : List ℕ) (d : Reading → Reading → Reading → Doing A) (p : Pos) →
    HasNot 3 ks → (xs : Syns) → AreParts w ks xs → (s : State) → Shows w s →
    with_three d p (readings xs) s ≡ refuse 120 p s
not_three w ks d p h xs a s t = ap (λ (e : Doing _). e s) (three_not d p (readings xs) (readings_not w 3 ks xs a h))

pub from_one : {A X : Type 0} (y : Way) (u v : Work) (ks : List ℕ) (a : ℕ) (d : Reading → Doing A) (p : Pos)
    (There : Work → X → Type 0) (Is : Work → X → State → A → Type 0) (r : Result X Refusal) → ks ≡ a ∷ [] →
    ((x : Syn) → IsPart u a x → Answers y u v (d (reading x)) There Is r) → (xs : Syns) → AreParts u ks xs →
    Answers y u v (with_one d p (readings xs)) There Is r
from_one y u v ks a d p There Is r e h xs q =
    let m = one_part u a xs (subst (λ (z : List ℕ). AreParts u z xs) e q) in
    subst (λ (rs : List Reading). Answers y u v (with_one d p rs) There Is r) (sym m.1) (h m.0 m.2)

pub from_two : {A X : Type 0} (y : Way) (u v : Work) (ks : List ℕ) (a b : ℕ) (d : Reading → Reading → Doing A) (p : Pos)
    (There : Work → X → Type 0) (Is : Work → X → State → A → Type 0) (r : Result X Refusal) → ks ≡ a ∷ b ∷ [] →
    ((x z : Syn) → IsPart u a x → IsPart u b z → Answers y u v (d (reading x) (reading z)) There Is r) → (xs : Syns) →
    AreParts u ks xs → Answers y u v (with_two d p (readings xs)) There Is r
from_two y u v ks a b d p There Is r e h xs q =
    let m = two_parts u a b xs (subst (λ (z : List ℕ). AreParts u z xs) e q) in
    subst (λ (rs : List Reading). Answers y u v (with_two d p rs) There Is r) (sym m.2) (h m.0 m.1 m.3 m.4)

pub from_three : {A X : Type 0} (y : Way) (u v : Work) (ks : List ℕ) (a b c : ℕ)
    (d : Reading → Reading → Reading → Doing A) (p : Pos) (There : Work → X → Type 0)
    (Is : Work → X → State → A → Type 0) (r : Result X Refusal) → ks ≡ a ∷ b ∷ c ∷ [] →
    ((x z o : Syn) → IsPart u a x → IsPart u b z → IsPart u c o →
    Answers y u v (d (reading x) (reading z) (reading o)) There Is r) → (xs : Syns) → AreParts u ks xs →
    Answers y u v (with_three d p (readings xs)) There Is r
from_three y u v ks a b c d p There Is r e h xs q =
    let m = three_parts u a b c xs (subst (λ (z : List ℕ). AreParts u z xs) e q) in
    subst (λ (rs : List Reading). Answers y u v (with_three d p rs) There Is r) (sym m.3) (h m.0 m.1 m.2 m.4 m.5 m.6)

-- ---- scopes

-- what is made of a step's result may be made in the step's scope
pub scope_then : {A B : Type 0} (d : Doing A) (f : A → B) (s : State) →
    (in_scope d >>= λ a. give (f a)) s ≡ in_scope (d >>= λ a. give (f a)) s
scope_then {A} {B} d f s = after (d (record s { scopes = record { names = []; tags = [] } ∷ s.scopes }))
  where
    after : (o : Result (A × State) Fault) →
        continued (continued o (λ a. leave >> give a)) (λ a. give (f a))
        ≡ continued (continued o (λ a. give (f a))) (λ b. leave >> give b)
    after (Ok x) = refl
    after (Err e) = refl
