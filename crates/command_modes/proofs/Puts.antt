-- Pieces that are put one after another, and the lines that they make.
use Rattle.std.proofs.Common.{◌≡◌, ℕ, zero, suc, nat_eq, List, [], ◌∷◌, ◌++◌, length, take, Option, Some, None, refl, sym, ap}
use Rattle.std.proofs.Common.{subst, ◌∙◌, append_assoc}
use Rattle.std.specs.Prelude.{codes, decimal, false, Result, Ok, Err, OnErr}
use Rattle.std.specs.Io.KnownBytes.{Appends}
use Rattle.ck_base.specs.Outside.{AppendsPart}
use Rattle.ck_base.specs.declared.positions.Pos.{Pos}
use Rattle.line_marks.specs.Marks.{Place, marked}
use Rattle.line_marks.proofs.Plain.{nowhere_marked}
use Rattle.command_modes.specs.Answers.{name_text, marked_text, place_text, words_of, pos_of, is_silent}
use Rattle.command_modes.specs.Answers.{text_of, line_of}
use Rattle.command_modes.specs.declared.answer.Answer.{Answer}

-- ---- two pieces

pub both : (a b c : Option (List ℕ)) (x y : List ℕ) → Appends a b x → Appends b c y → Appends a c (x ++ y)
both None b c x y f g = tt
both (Some xs) None c x y f g = absurd f
both (Some xs) (Some ys) None x y f g = absurd g
both (Some xs) (Some ys) (Some zs) x y f g = g ∙ ap (λ l. l ++ y) f ∙ append_assoc xs x y

front_of : (n : ℕ) (x y : List ℕ) → (m : ℕ) × (take m (x ++ y) ≡ take n x)
front_of zero x y = (0, refl)
front_of (suc n) [] y = (0, refl)
front_of (suc n) (b ∷ x) y = let m = front_of n x y in (suc m.0, ap (λ l. b ∷ l) m.1)

-- a front of the first
pub a_front : (a b : Option (List ℕ)) (x y : List ℕ) → AppendsPart a b x → AppendsPart a b (x ++ y)
a_front a b x y part =
    let m = front_of part.0 x y in
    (m.0, subst (Appends a b) (sym m.1) part.1)

front_behind : (n : ℕ) (x y : List ℕ) → (m : ℕ) × (take m (x ++ y) ≡ x ++ take n y)
front_behind n [] y = (n, refl)
front_behind n (b ∷ x) y = let m = front_behind n x y in (suc m.0, ap (λ l. b ∷ l) m.1)

-- the first, and a front of the second
pub and_front : (a b c : Option (List ℕ)) (x y : List ℕ) → Appends a b x → AppendsPart b c y → AppendsPart a c (x ++ y)
and_front a b c x y whole part =
    let m = front_behind part.0 x y in
    (m.0, subst (Appends a c) (sym m.1) (both a b c x (take part.0 y) whole part.1))

-- what holds of an error
pub on_err : {T E : Type 0} {P : Type 0} (r : Result T E) → P → OnErr r P
on_err (Ok x) p = tt
on_err (Err e) p = p

pub map_err : {T E : Type 0} {P Q : Type 0} (r : Result T E) → (P → Q) → OnErr r P → OnErr r Q
map_err (Ok x) f p = tt
map_err (Err e) f p = f p

-- ---- lines

nonempty : (name : List ℕ) → name ≡ [] → nat_eq (length name) 0 ≡ false → ⊥
nonempty [] none some = cc
nonempty (b ∷ bs) none some = cc

-- a front, a line and a column, and the end of the line
abbrev pub ended_at : List ℕ → ℕ → ℕ → List ℕ
ended_at front line col = front ++ decimal line ++ codes ":" ++ decimal col ++ 10 ∷ []

unnamed_text : (words : List ℕ) (place : Place) → place.name ≡ [] →
    ended_at words place.line place.col ≡ (words ++ marked_text place) ++ 10 ∷ []
unnamed_text words place none = rw none (simp append_assoc refl)

named_text : (words : List ℕ) (name : List ℕ) (line col : ℕ) → (name ≡ [] → ⊥) →
    words ++ name ++ ended_at (codes ":") line col
    ≡ (words ++ marked_text (record { name = name; line = line; col = col })) ++ 10 ∷ []
named_text words [] line col some = absurd (some refl)
named_text words (b ∷ bs) line col some = simp append_assoc refl

-- the line of an answer with a place, whose file has a name
named_line : (file : List ℕ) (answer : Answer) (pos : Pos) → pos_of answer ≡ Some pos →
    ((marked file pos).name ≡ [] → ⊥) →
    words_of answer ++ (marked file pos).name ++ ended_at (codes ":") (marked file pos).line (marked file pos).col
    ≡ text_of file answer ++ 10 ∷ []
named_line file answer pos at some =
    rw at (named_text (words_of answer) (marked file pos).name (marked file pos).line (marked file pos).col some)

-- of an answer without a file
own_line : (answer : Answer) (pos : Pos) → pos_of answer ≡ Some pos →
    ended_at (words_of answer) pos.line pos.col ≡ text_of [] answer ++ 10 ∷ []
own_line answer pos at =
    rw at (unnamed_text (words_of answer) (record { name = []; line = pos.line; col = pos.col }) refl
    ∙ ap (λ place. (words_of answer ++ marked_text place) ++ 10 ∷ []) (sym (nowhere_marked pos)))

pub own_said : (answer : Answer) (pos : Pos) (words text : List ℕ) (line : ℕ) → is_silent answer ≡ false →
    pos_of answer ≡ Some pos → words ≡ words_of answer → line ≡ pos.line → text ≡ ended_at words line pos.col →
    text ≡ line_of [] answer
own_said answer pos words text line silent at w l t =
    t ∙ (λ i. ended_at (w i) (l i) pos.col) ∙ own_line answer pos at ∙ rw silent refl

-- the pieces of a line with a name
pub named_pieces : (file : List ℕ) (answer : Answer) (pos : Pos) (words name end : List ℕ) (line col : ℕ) →
    pos_of answer ≡ Some pos → words ≡ words_of answer → name ≡ (marked file pos).name →
    line ≡ (marked file pos).line → col ≡ (marked file pos).col → nat_eq (length name) 0 ≡ false →
    end ≡ ended_at (codes ":") line col → words ++ name ++ end ≡ text_of file answer ++ 10 ∷ []
named_pieces file answer pos words name end line col at w n l k some e =
    (λ i. w i ++ n i ++ e i) ∙ (λ i. words_of answer ++ (marked file pos).name ++ ended_at (codes ":") (l i) (k i))
    ∙ named_line file answer pos at (λ none. nonempty name (n ∙ none) some)
