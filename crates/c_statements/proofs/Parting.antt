-- Constructs whose parts are looked at themselves.
use Rattle.std.proofs.Common.{◌≡◌, ℕ, List, [], ◌∷◌, length, None, Result, refl, sym, ap, subst, ◌∙◌}
use Rattle.ck_base.specs.declared.positions.Pos.{Pos}
use Rattle.ck_base.specs.declared.refusal.Refusal.{Refusal}
use Rattle.c_tree.specs.Syntax.{Syn, Syns, nil, more}
use Rattle.c_tree.specs.Readings as meant
use Rattle.c_tree.specs.Readings.{Reading}
use Rattle.c_tree.specs.Scopes.{State, Doing, give, refuse}
use Rattle.c_tree.specs.Types.{Ty}
use Rattle.c_tree.specs.Statements.{case_label}
use Rattle.c_tree.specs.Programs.{reading, readings}
use Rattle.c_elaborator.specs.declared.work.Work.{Work}
use Rattle.c_elaborator.specs.Work.{Shows}
use Rattle.c_elaborator.specs.Answers.{Way, Answers, freely}
use Rattle.c_elaborator.specs.Parts.{IsPart, AreParts}
use Rattle.c_readings.specs.Kids.{HasNot}
use Rattle.c_elaborator.specs.Items.{OnlyThere, IsItems}
use Rattle.c_elaborator.specs.declared.items.Items.{Items}
use Rattle.c_statements.specs.Statements.{for_in, for_with, switch_in, switch_with, case_of}
use Rattle.c_readings.proofs.Kids.{cut, no_parts}
use Rattle.c_statements.proofs.Stating.{readings_more, readings_nil, readings_not}

-- ---- for

for_not : (c : meant.Context) (p : Pos) (xs : Syns) (rs : List Reading) → (length rs ≡ 4 → ⊥) →
    for_in c p xs rs ≡ refuse 120 p
for_not c p nil rs h = refl
for_not c p (more x nil) rs h = refl
for_not c p (more x (more y nil)) rs h = refl
for_not c p (more x (more y (more z ws))) [] h = refl
for_not c p (more x (more y (more z ws))) (r ∷ []) h = refl
for_not c p (more x (more y (more z ws))) (r ∷ q ∷ []) h = refl
for_not c p (more x (more y (more z ws))) (r ∷ q ∷ o ∷ []) h = refl
for_not c p (more x (more y (more z ws))) (r ∷ q ∷ o ∷ b ∷ []) h = absurd (h refl)
for_not c p (more x (more y (more z ws))) (r ∷ q ∷ o ∷ b ∷ a ∷ rs) h = refl

pub for_refused : (w : Work) (ks : List ℕ) (c : meant.Context) (p : Pos) → HasNot 4 ks → (xs : Syns) →
    AreParts w ks xs → (s : State) → Shows w s → for_in c p xs (readings xs) s ≡ refuse 120 p s
for_refused w ks c p h xs a s t =
    ap (λ (d : Doing meant.Items). d s) (for_not c p xs (readings xs) (readings_not w 4 ks xs a h))

pub for_answers : (u v : Work) (ks : List ℕ) (i j k l : ℕ) (c : meant.Context) (p : Pos) (r : Result Items Refusal) →
    ks ≡ i ∷ j ∷ k ∷ l ∷ [] →
    ((x1 x2 x3 x4 : Syn) → IsPart u i x1 → IsPart u j x2 → IsPart u k x3 → IsPart u l x4 →
    Answers freely u v (for_with c p x1 x2 x3 (reading x1) (reading x2) (reading x3) (reading x4)) OnlyThere
    IsItems r) →
    (xs : Syns) → AreParts u ks xs → Answers freely u v (for_in c p xs (readings xs)) OnlyThere IsItems r
for_answers u v ks i j k l c p r e h xs q =
    let m1 = cut u i (j ∷ k ∷ l ∷ []) xs (subst (λ (z : List ℕ). AreParts u z xs) e q) in
    let m2 = cut u j (k ∷ l ∷ []) m1.tail m1.others in
    let m3 = cut u k (l ∷ []) m2.tail m2.others in
    let m4 = cut u l [] m3.tail m3.others in
    let is : xs ≡ more m1.head (more m2.head (more m3.head (more m4.head nil))) =
    m1.is ∙ ap (more m1.head) (m2.is
    ∙ ap (more m2.head) (m3.is ∙ ap (more m3.head) (m4.is ∙ ap (more m4.head) (no_parts u m4.tail m4.others)))) in
    let read : readings (more m1.head (more m2.head (more m3.head (more m4.head nil))))
    ≡ reading m1.head ∷ reading m2.head ∷ reading m3.head ∷ reading m4.head ∷ [] =
    readings_more m1.head (more m2.head (more m3.head (more m4.head nil)))
    ∙ ap (λ (z : List Reading). reading m1.head ∷ z) (readings_more m2.head (more m3.head (more m4.head nil))
    ∙ ap (λ (z : List Reading). reading m2.head ∷ z) (readings_more m3.head (more m4.head nil)
    ∙ ap (λ (z : List Reading). reading m3.head ∷ z)
    (readings_more m4.head nil ∙ ap (λ (z : List Reading). reading m4.head ∷ z) readings_nil))) in
    subst (λ (ys : Syns). Answers freely u v (for_in c p ys (readings ys)) OnlyThere IsItems r) (sym is)
    (subst (λ (rs : List Reading). Answers freely u v
    (for_in c p (more m1.head (more m2.head (more m3.head (more m4.head nil)))) rs) OnlyThere IsItems r)
    (sym read)
    (h m1.head m2.head m3.head m4.head m1.first m2.first m3.first m4.first))

-- ---- switch

pub switch_refused : (w : Work) (ks : List ℕ) (c : meant.Context) (p : Pos) → ks ≡ [] → (xs : Syns) → AreParts w ks xs →
    (s : State) → Shows w s → switch_in c p xs (readings xs) s ≡ refuse 120 p s
switch_refused w ks c p e xs a s t =
    ap (λ (ys : Syns). switch_in c p ys (readings ys) s) (no_parts w xs (subst (λ (z : List ℕ). AreParts w z xs) e a))

pub switch_answers : (u v : Work) (ks : List ℕ) (k : ℕ) (others : List ℕ) (c : meant.Context) (p : Pos)
    (r : Result Items Refusal) → ks ≡ k ∷ others →
    ((x : Syn) (xs : Syns) → IsPart u k x → AreParts u others xs →
    Answers freely u v (switch_with c p xs (reading x) (readings xs)) OnlyThere IsItems r) → (xs : Syns) →
    AreParts u ks xs → Answers freely u v (switch_in c p xs (readings xs)) OnlyThere IsItems r
switch_answers u v ks k others c p r e h xs q =
    let m = cut u k others xs (subst (λ (z : List ℕ). AreParts u z xs) e q) in
    subst (λ (ys : Syns). Answers freely u v (switch_in c p ys (readings ys)) OnlyThere IsItems r) (sym m.is)
    (subst (λ (rs : List Reading). Answers freely u v (switch_in c p (more m.head m.tail) rs) OnlyThere IsItems r)
    (sym (readings_more m.head m.tail)) (h m.head m.tail m.first m.others))

-- ---- the first part, if there is one

pub at_none : {A X : Type 0} (y : Way) (u v : Work) (d : List Reading → Doing A) (There : Work → X → Type 0)
    (Is : Work → X → State → A → Type 0) (r : Result X Refusal) (ks : List ℕ) → ks ≡ [] →
    Answers y u v (d []) There Is r →
    (xs : Syns) → AreParts u ks xs → Answers y u v (d (readings xs)) There Is r
at_none y u v d There Is r ks e a xs q =
    subst (λ (rs : List Reading). Answers y u v (d rs) There Is r)
    (sym (ap readings (no_parts u xs (subst (λ (z : List ℕ). AreParts u z xs) e q)) ∙ readings_nil)) a

pub at_some : {A X : Type 0} (y : Way) (u v : Work) (d : List Reading → Doing A) (There : Work → X → Type 0)
    (Is : Work → X → State → A → Type 0) (r : Result X Refusal) (ks : List ℕ) (k : ℕ) (others : List ℕ) →
    ks ≡ k ∷ others →
    ((x : Syn) (xs : Syns) → IsPart u k x → AreParts u others xs →
    Answers y u v (d (reading x ∷ readings xs)) There Is r) → (xs : Syns) → AreParts u ks xs →
    Answers y u v (d (readings xs)) There Is r
at_some y u v d There Is r ks k others e h xs q =
    let m = cut u k others xs (subst (λ (z : List ℕ). AreParts u z xs) e q) in
    subst (λ (rs : List Reading). Answers y u v (d rs) There Is r)
    (sym (ap readings m.is ∙ readings_more m.head m.tail)) (h m.head m.tail m.first m.others)

pub label_none_is : (of : Ty) → case_label [] of ≡ give None
unfolding case_label
label_none_is of = refl

pub label_some_is : (of : Ty) (r : Reading) (rs : List Reading) → case_label (r ∷ rs) of ≡ case_of of r
unfolding case_label
label_some_is of r rs = refl
