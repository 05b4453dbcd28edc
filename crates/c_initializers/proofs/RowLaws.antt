-- Parts whose scalars are to be listed.
use Rattle.std.proofs.Common.{◌≡◌, ℕ, zero, suc, ◌+◌, ◌-◌, ◌<◌, ◌≤◌, Bool, true, false, List, [], ◌∷◌, ◌++◌, get_or}
use Rattle.std.proofs.Common.{length, drop, map, refl}
use Rattle.std.proofs.Common.{sym, ap, subst, ◌∙◌, arith, append_assoc, length-append}
use Rattle.std.specs.Prelude.{if◌then◌else◌}
use Rattle.std.specs.List.{All}
use Rattle.std.proofs.Math.Seq.{get_or-append_seam}
use Rattle.std.proofs.lemmas.List.{map_push, append-nil, get_or_append_left}
use Rattle.std.proofs.lemmas.List.Elements.{All-push}
use Rattle.c_tree.specs.Types.{Ty, Tys, Array}
use Rattle.c_tree.specs.Scopes.{State, size}
use Rattle.c_tree.specs.Initializers.{repeat, scalars_of, all_scalars, tag_scalars, scalars}
use Rattle.c_expressions.specs.Nodes.{type_in}
use Rattle.c_node_facts.specs.declared.classes.Class.{Class}
use Rattle.c_node_facts.specs.declared.classes.Class.TheVariants as classes
use Rattle.c_expressions.specs.Classes.{class_type}
use Rattle.c_elaborator.specs.declared.work.Work.{Work}
use Rattle.c_elaborator.specs.Work.{Shows}
use Rattle.c_plain_rules.specs.Place.{Place}
use Rattle.c_initializers.specs.declared.scalars.Row.{Row}
use Rattle.c_plain_rules.specs.Members.{place_in, IsPlaceThere, IsTagCount}
use Rattle.c_initializers.specs.Rows.{IsRowThere, row_scalars, rows_scalars, row_steps, rows_steps, AddsRows, Walks}
use Rattle.c_initializers.specs.declared.covering.Extent.{Extent}
use Rattle.c_initializers.specs.Slots.{is_needed, needed}
use Rattle.c_initializers.proofs.StepLaws.{steps-push}
use Rattle.c_plain_rules.proofs.MemberLaws.{drop-next}
use Rattle.c_initializers.proofs.PlaceLaws.{scalars-all, all-none}

pub first-part : (n step at : ℕ) (f : ℕ → List (ℕ × Ty)) → 0 < n →
    repeat n step f at ≡ f at ++ repeat (n - 1) step f (at + step)
first-part zero step at f l = absurd (omega arith)
first-part (suc n) step at f l = let z : suc n - 1 ≡ n = omega arith in rw z refl

pub no-parts : (n step at : ℕ) (f : ℕ → List (ℕ × Ty)) → n ≡ 0 → repeat n step f at ≡ []
no-parts n step at f e = ap (λ k. repeat k step f at) e

pub single-row : (w : Work) (s : State) (r : Row) (of at tags : ℕ) →
    r ≡ record { at = at; of = of; count = 1; step = 0; tags = tags } →
    row_scalars w s r ≡ scalars_of s (tag_scalars tags s) (type_in w.nodes of) at
single-row w s r of at tags e =
    ap (row_scalars w s) e ∙ append-nil (scalars_of s (tag_scalars tags s) (type_in w.nodes of) at)

pub array-row : (w : Work) (s : State) (t : Ty) (of count step at tags : ℕ) → t ≡ Array (type_in w.nodes of) count →
    size s (type_in w.nodes of) ≡ step →
    row_scalars w s (record { at = at; of = of; count = count; step = step; tags = tags })
    ≡ scalars_of s (tag_scalars tags s) t at
array-row w s t of count step at tags e f =
    let go = tag_scalars tags s in
    ap (λ n. repeat count n (scalars_of s go (type_in w.nodes of)) at) (sym f)
    ∙ ap (λ u. scalars_of s go u at) (sym e)

rows-push : (w : Work) (s : State) (rows : List Row) (r : Row) →
    rows_scalars w s (rows ++ r ∷ []) ≡ row_scalars w s r ++ rows_scalars w s rows
rows-push w s [] r = sym (append-nil (row_scalars w s r))
rows-push w s (x ∷ xs) r =
    ap (λ l. l ++ row_scalars w s x) (rows-push w s xs r)
    ∙ append_assoc (row_scalars w s r) (rows_scalars w s xs) (row_scalars w s x)

-- what has no parts is a scalar
pub scalar-alone : (s : State) (go : ℕ → ℕ → List (ℕ × Ty)) (c : Class) (f : ℕ → Ty) (ps : Tys) (at : ℕ) →
    ((e m : ℕ) → c ≡ classes.Array e m → ⊥) → ((n : ℕ) → c ≡ classes.Tagged n → ⊥) →
    ((e : ℕ) → c ≡ classes.Const e → ⊥) → scalars_of s go (class_type c f ps) at ≡ (at, class_type c f ps) ∷ []
scalar-alone s go classes.Void f ps at a b d = refl
scalar-alone s go (classes.Int k m) f ps at a b d = refl
scalar-alone s go (classes.Cap k) f ps at a b d = refl
scalar-alone s go (classes.Pointer t) f ps at a b d = refl
scalar-alone s go (classes.Array t m) f ps at a b d = absurd (a t m refl)
scalar-alone s go (classes.Tagged m) f ps at a b d = absurd (b m refl)
scalar-alone s go (classes.Function t) f ps at a b d = refl
scalar-alone s go (classes.Const t) f ps at a b d = absurd (d t refl)

-- one row more
pub adds-row : (w : Work) (old new : List Row) (r : Row) (most : ℕ) (parts : State → List (ℕ × Ty)) →
    new ≡ old ++ r ∷ [] → IsRowThere w r → ((s : State) → Shows w s → row_scalars w s r ≡ parts s) →
    row_steps w r ≤ most → AddsRows w old new most parts
adds-row w old new r most parts e h f l = record {
  there = λ a. subst (λ (l : List Row). All (IsRowThere w) l) (sym e) (All-push (IsRowThere w) old r a h);
  are = λ s k. ap (rows_scalars w s) e ∙ rows-push w s old r ∙ ap (λ l. l ++ rows_scalars w s old) (f s k);
  steps = let i = ap (rows_steps w) e ∙ steps-push w old r in omega arith;
}

-- the same parts
pub adds-parts : (w : Work) (old new : List Row) (most : ℕ) (parts others : State → List (ℕ × Ty)) →
    ((s : State) → parts s ≡ others s) → AddsRows w old new most parts → AddsRows w old new most others
adds-parts w old new most parts others e a = record {
  there = a.there;
  are = λ s k. a.are s k ∙ ap (λ l. l ++ rows_scalars w s old) (e s);
  steps = a.steps;
}

pub adds-no-row : (w : Work) (rows : List Row) (most : ℕ) (parts : State → List (ℕ × Ty)) →
    ((s : State) → parts s ≡ []) → AddsRows w rows rows most parts
adds-no-row w rows most parts f = record {
  there = λ a. a;
  are = λ s k. ap (λ l. l ++ rows_scalars w s rows) (sym (f s));
  steps = omega arith;
}

-- one member more, from the last one on
pub member-row : (w : Work) (s : State) (go : ℕ → ℕ → List (ℕ × Ty)) (ms : List Place) (i : ℕ) (d : Place) (at : ℕ)
    (old new fn : List Row) (r : Row) → i < length ms → new ≡ old ++ r ∷ [] →
    row_scalars w s r ≡ scalars_of s go (type_in w.nodes (get_or ms i d).of) (at + (get_or ms i d).at) →
    rows_scalars w s old ≡ all_scalars s go (map (place_in w) (drop (i + 1) ms)) at ++ rows_scalars w s fn →
    rows_scalars w s new ≡ all_scalars s go (map (place_in w) (drop i ms)) at ++ rows_scalars w s fn
member-row w s go ms i d at old new fn r l e f h =
    let m = get_or ms i d in
    let one = scalars_of s go (type_in w.nodes m.of) (at + m.at) in
    let rest = all_scalars s go (map (place_in w) (drop (i + 1) ms)) at in
    ap (rows_scalars w s) e ∙ rows-push w s old r ∙ ap (λ x. x ++ rows_scalars w s old) f ∙ ap (λ x. one ++ x) h
    ∙ sym (append_assoc one rest (rows_scalars w s fn))
    ∙ ap (λ x. all_scalars s go (map (place_in w) x) at ++ rows_scalars w s fn) (sym (drop-next ms i d l))

-- ---- one step

pub walks-rows : (w : Work) (es : List Extent) (rows new : List Row) (places : List Place) (n most : ℕ)
    (parts : State → List (ℕ × Ty)) → AddsRows w rows new n parts → n < most →
    Walks w es rows places new places most parts
walks-rows w es rows new places n most parts a l = record {
  rows_there = a.there;
  places_there = λ h. h;
  are = λ s k. ap (λ l. map (place_in w) places ++ needed es l) (a.are s k);
  steps = let i = a.steps in omega arith;
}

pub walks-place : (w : Work) (es : List Extent) (rows : List Row) (places new : List Place) (p : Place) (most : ℕ)
    (parts : State → List (ℕ × Ty)) →
    new ≡ places ++ (if is_needed es p.at then p ∷ [] else []) → IsPlaceThere w p →
    ((s : State) → parts s ≡ place_in w p ∷ []) → 0 < most → Walks w es rows places rows new most parts
walks-place w es rows places new p most parts e h f l = record {
  rows_there = λ a. a;
  places_there = λ a. subst (λ (l : List Place). All (IsPlaceThere w) l) (sym e) (all (is_needed es p.at) a);
  are = λ s k. ap (λ l. map (place_in w) l ++ needed es (rows_scalars w s rows)) e
      ∙ listed (is_needed es p.at) (needed es (rows_scalars w s rows))
      ∙ ap (λ l. map (place_in w) places ++ needed es (l ++ rows_scalars w s rows)) (sym (f s));
  steps = omega arith;
}
  where
    all : (b : Bool) → All (IsPlaceThere w) places → All (IsPlaceThere w) (places ++ (if b then p ∷ [] else []))
    all true a = All-push (IsPlaceThere w) places p a h
    all false a = subst (λ (l : List Place). All (IsPlaceThere w) l) (sym (append-nil places)) a

    listed : (b : Bool) (rest : List (ℕ × Ty)) → map (place_in w) (places ++ (if b then p ∷ [] else [])) ++ rest
        ≡ map (place_in w) places ++ (if b then place_in w p ∷ rest else rest)
    listed true rest = ap (λ l. l ++ rest) (map_push (place_in w) places p)
        ∙ append_assoc (map (place_in w) places) (place_in w p ∷ []) rest
    listed false rest = ap (λ l. map (place_in w) l ++ rest) (append-nil places)

pub walks-none : (w : Work) (es : List Extent) (rows : List Row) (places : List Place) (most : ℕ)
    (parts : State → List (ℕ × Ty)) → ((s : State) → parts s ≡ []) → 0 < most →
    Walks w es rows places rows places most parts
walks-none w es rows places most parts f l = record {
  rows_there = λ a. a;
  places_there = λ a. a;
  are = λ s k. ap (λ x. map (place_in w) places ++ needed es (x ++ rows_scalars w s rows)) (sym (f s));
  steps = omega arith;
}

-- the first part of a row, and then the rest
pub walks-both : (w : Work) (es : List Extent) (rows mid new : List Row) (places others : List Place)
    (m n : ℕ) (rest first parts : State → List (ℕ × Ty)) → AddsRows w rows mid m rest →
    Walks w es mid places new others n first → ((s : State) → parts s ≡ first s ++ rest s) →
    Walks w es rows places new others (m + n) parts
walks-both w es rows mid new places others m n rest first parts a b f = record {
  rows_there = λ h. b.rows_there (a.there h);
  places_there = b.places_there;
  are = λ s k. b.are s k ∙ ap (λ l. map (place_in w) places ++ needed es (first s ++ l)) (a.are s k)
      ∙ ap (λ l. map (place_in w) places ++ needed es l)
      (sym (append_assoc (first s) (rest s) (rows_scalars w s rows))
      ∙ ap (λ l. l ++ rows_scalars w s rows) (sym (f s)));
  steps = let i = a.steps in let j = b.steps in omega arith;
}

-- what is listed, and what is to be listed
pub record AllWalked (w : Work) (es : List Extent) (rows : List Row) (places : List Place)
    (all : State → List (ℕ × Ty)) : Type 0 where
  pub rows_there : All (IsRowThere w) rows
  pub places_there : All (IsPlaceThere w) places
  pub are : (s : State) → Shows w s → map (place_in w) places ++ needed es (rows_scalars w s rows) ≡ needed es (all s)

front-all : (w : Work) (old rest : List Row) (r : Row) → old ≡ rest ++ r ∷ [] → All (IsRowThere w) old →
    All (IsRowThere w) rest
front-all w old rest r e h = λ k d l.
    let a = subst (λ (x : List Row). All (IsRowThere w) x) e h in
    let n : k < length (rest ++ r ∷ []) = omega (arith, length-append rest (r ∷ [])) in
    subst (IsRowThere w) (get_or_append_left rest (r ∷ []) d k l) (a k d n)

pub last-there : (w : Work) (old rest : List Row) (r : Row) → old ≡ rest ++ r ∷ [] → All (IsRowThere w) old →
    IsRowThere w r
last-there w old rest r e h =
    let a = subst (λ (x : List Row). All (IsRowThere w) x) e h in
    let n : length rest < length (rest ++ r ∷ []) = omega (arith, length-append rest (r ∷ [])) in
    subst (IsRowThere w) (get_or-append_seam rest r [] r) (a (length rest) r n)

pub walked-on : (w : Work) (es : List Extent) (old rest new : List Row) (places others : List Place) (r : Row)
    (most : ℕ)
    (all : State → List (ℕ × Ty)) → old ≡ rest ++ r ∷ [] → AllWalked w es old places all →
    Walks w es rest places new others most (λ s. row_scalars w s r) → AllWalked w es new others all
walked-on w es old rest new places others r most all e a b = record {
  rows_there = b.rows_there (front-all w old rest r e a.rows_there);
  places_there = b.places_there a.places_there;
  are = λ s k. b.are s k
      ∙ ap (λ l. map (place_in w) places ++ needed es l) (sym (ap (rows_scalars w s) e ∙ rows-push w s rest r))
      ∙ a.are s k;
}

-- a whole type is one row
pub walked-first : (w : Work) (es : List Extent) (rows : List Row) (r : Row) (places : List Place) (of tags : ℕ) →
    rows ≡ r ∷ [] → IsRowThere w r → places ≡ [] → r ≡ record { at = 0; of = of; count = 1; step = 0; tags = tags } →
    IsTagCount w tags → AllWalked w es rows places (λ s. scalars s (type_in w.nodes of))
walked-first w es rows r places of tags e l p q k = record {
  rows_there = subst (λ (x : List Row). All (IsRowThere w) x) (sym e)
      (All-push (IsRowThere w) [] r (λ i d h. absurd (omega arith)) l);
  places_there = all-none (IsPlaceThere w) places p;
  are = λ s h. ap (λ x. map (place_in w) x ++ needed es (rows_scalars w s rows)) p
      ∙ ap (λ x. needed es (rows_scalars w s x)) e ∙ ap (needed es) (single-row w s r of 0 tags q)
      ∙ ap (needed es) (scalars-all w s (type_in w.nodes of) tags [] refl (k s h));
}

-- fewer steps are left
pub fewer-steps : (w : Work) (es : List Extent) (old rest new : List Row) (places others : List Place) (r : Row)
    (parts : State → List (ℕ × Ty)) → old ≡ rest ++ r ∷ [] → Walks w es rest places new others (row_steps w r) parts →
    rows_steps w new < rows_steps w old
fewer-steps w es old rest new places others r parts e b =
    let i = ap (rows_steps w) e ∙ steps-push w rest r in let j = b.steps in omega arith
