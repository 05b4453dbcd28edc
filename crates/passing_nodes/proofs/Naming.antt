-- Names in the order of their places, and one name more.
use Rattle.std.proofs.Common.{◌≡◌, ℕ, zero, suc, ◌+◌, ◌-◌, ◌<◌, ◌≤◌, ◌⊎◌, Bool, true, false, cond, eqb, ltb, List, []}
use Rattle.std.proofs.Common.{◌∷◌, ◌++◌, length, get_or, Option, Some, None, refl, sym, ap, subst, ◌∙◌, inl, inr, arith}
use Rattle.std.proofs.Common.{is_some, not, option_copied}
use Rattle.std.specs.Prelude.{◌&&◌, slice_get}
use Rattle.std.specs.Map.{lookup}
use Rattle.std.specs.Option.{option_or}
use Rattle.std.specs.Slice.{IsGetResult}
use Rattle.std.specs.List.Sorted.{IsPartitionPoint, IsPartitionedBy}
use denote.Ref.{Bor}
use Rattle.std.proofs.lemmas.Bool.{cases_lt, eqb-true, eqb-false, ltb-true, ltb-false, lt-ltb, eq-eqb, ne_eqb}
use Rattle.std.proofs.lemmas.Option.{slice_get-get_or, slice_get_past}
use Rattle.ck_base.specs.declared.positions.Pos.{Pos}
use Rattle.ck_base.specs.declared.positions.Span.{Span}
use Rattle.c_tree.specs.Passed.{same_place}
use Rattle.passing_nodes.specs.declared.names.Name.{Name}
use Rattle.passing_nodes.specs.declared.names.Names.{Names}
use Rattle.passing_nodes.specs.Named.{same_pair, other_at, known_at, AddsName}
use Rattle.passing_nodes.specs.Places.{is_before, IsAscending, IsBehind, first_name}

-- ---- places

before_is : (p q : Pos) → is_before p q ≡ true → (p.line < q.line) ⊎ ((p.line ≡ q.line) × (p.col < q.col))
before_is p q e = by (eqb p.line q.line) refl e
  where
    by : (b : Bool) → eqb p.line q.line ≡ b → cond b (ltb p.col q.col) (ltb p.line q.line) ≡ true →
        (p.line < q.line) ⊎ ((p.line ≡ q.line) × (p.col < q.col))
    by true i h = inr (eqb-true p.line q.line i, ltb-true p.col q.col h)
    by false i h = inl (ltb-true p.line q.line h)

before_by_line : (p q : Pos) → p.line < q.line → is_before p q ≡ true
before_by_line p q l =
    ap (λ b. cond b (ltb p.col q.col) (ltb p.line q.line)) (ne_eqb p.line q.line (λ e. absurd (omega arith)))
    ∙ lt-ltb p.line q.line l

before_by_column : (p q : Pos) → p.line ≡ q.line → p.col < q.col → is_before p q ≡ true
before_by_column p q e l =
    ap (λ b. cond b (ltb p.col q.col) (ltb p.line q.line)) (eq-eqb p.line q.line e) ∙ lt-ltb p.col q.col l

before_then : (p q r : Pos) → is_before p q ≡ true → is_before q r ≡ true → is_before p r ≡ true
before_then p q r e f = by (before_is p q e) (before_is q r f)
  where
    by : (p.line < q.line) ⊎ ((p.line ≡ q.line) × (p.col < q.col)) →
        (q.line < r.line) ⊎ ((q.line ≡ r.line) × (q.col < r.col)) → is_before p r ≡ true
    by (inl a) (inl b) = before_by_line p r (omega arith)
    by (inl a) (inr b) = let c = b.0 in before_by_line p r (omega arith)
    by (inr a) (inl b) = let c = a.0 in before_by_line p r (omega arith)
    by (inr a) (inr b) = let c = a.1 in let d = b.1 in before_by_column p r (a.0 ∙ b.0) (omega arith)

pub same_pos : (p q : Pos) → same_place p q ≡ true → p ≡ q
same_pos p q e = by (eqb p.line q.line) (eqb p.col q.col) refl refl e
  where
    by : (a b : Bool) → eqb p.line q.line ≡ a → eqb p.col q.col ≡ b → (a && b) ≡ true → p ≡ q
    by true true i j h = ap (λ k. record p { line = k }) (eqb-true p.line q.line i)
        ∙ ap (λ k. record q { col = k }) (eqb-true p.col q.col j)
    by true false i j h = absurd cc
    by false b i j h = absurd cc

not_before_itself : (p : Pos) → is_before p p ≡ true → ⊥
not_before_itself p e = by (before_is p p e)
  where
    by : (p.line < p.line) ⊎ ((p.line ≡ p.line) × (p.col < p.col)) → ⊥
    by (inl a) = absurd (omega arith)
    by (inr a) = let c = a.1 in absurd (omega arith)

-- what stands before a place stands at another one
before_differs : (p q : Pos) → is_before p q ≡ true → same_place p q ≡ false
before_differs p q e = by (same_place p q) refl
  where
    by : (b : Bool) → same_place p q ≡ b → b ≡ false
    by true i = absurd (not_before_itself q (subst (λ r. is_before r q ≡ true) (same_pos p q i) e))
    by false i = refl

behind_differs : (p q : Pos) → is_before q p ≡ true → same_place p q ≡ false
behind_differs p q e = by (same_place p q) refl
  where
    by : (b : Bool) → same_place p q ≡ b → b ≡ false
    by true i = absurd (not_before_itself q (subst (λ r. is_before q r ≡ true) (same_pos p q i) e))
    by false i = refl

-- of two places that differ, one stands before the other
other_before : (p q : Pos) → is_before p q ≡ false → same_place p q ≡ false → is_before q p ≡ true
other_before p q e f = by (eqb p.line q.line) (eqb p.col q.col) refl refl e f
  where
    by : (a b : Bool) → eqb p.line q.line ≡ a → eqb p.col q.col ≡ b →
        cond a (ltb p.col q.col) (ltb p.line q.line) ≡ false → (a && b) ≡ false → is_before q p ≡ true
    by true true i j g h = absurd cc
    by true false i j g h =
        let l = eqb-true p.line q.line i in
        let c = ltb-false p.col q.col g in
        let d = eqb-false p.col q.col j in
        before_by_column q p (sym l) (omega arith)
    by false b i j g h =
        let c = ltb-false p.line q.line g in
        let d = eqb-false p.line q.line i in
        before_by_line q p (omega arith)

-- ---- names in order

abbrev pub own : Name → Pos → Option Span
own n p = cond (same_place n.pos p) (Some n.span) None

none_there : (ns : List Name) (p : Pos) →
    ((i : ℕ) (d : Name) → i < length ns → same_place (get_or ns i d).pos p ≡ false) → first_name ns p ≡ None
none_there [] p h = refl
none_there (n ∷ ns) p h =
    ap (λ b. cond b (Some n.span) (first_name ns p)) (h 0 n (omega arith))
    ∙ none_there ns p (λ i d l. h (suc i) d (omega arith))

behind_all : (ns : List Name) (p : Pos) → IsBehind ns p → first_name ns p ≡ None
behind_all ns p h = none_there ns p (λ i d l. before_differs (get_or ns i d).pos p (h i d l))

abbrev pub at_name : Option Name → Pos → Option Span
at_name None p = None
at_name (Some n) p = own n p

found_at : (ns : List Name) (p : Pos) (i : ℕ) → IsAscending ns →
    IsPartitionPoint (λ n. is_before n.pos p ≡ true) (λ n. is_before n.pos p ≡ false) ns i →
    first_name ns p ≡ at_name (slice_get ns i) p
found_at [] p i up point = refl
found_at (n ∷ ns) p zero up point = by (same_place n.pos p) refl
  where
    rest : same_place n.pos p ≡ false → first_name ns p ≡ None
    rest e = none_there ns p (λ i d l.
        let after : is_before p n.pos ≡ true =
        other_before n.pos p (point.1 0 n (omega arith) (omega arith)) e in
        behind_differs (get_or ns i d).pos p
        (before_then p n.pos (get_or ns i d).pos after (up 0 (suc i) d (omega arith) (omega arith))))

    by : (b : Bool) → same_place n.pos p ≡ b → cond b (Some n.span) (first_name ns p) ≡ cond b (Some n.span) None
    by true e = refl
    by false e = rest e
found_at (n ∷ ns) p (suc i) up point =
    ap (λ b. cond b (Some n.span) (first_name ns p))
    (before_differs n.pos p (point.0 0 n (omega arith) (omega arith)))
    ∙ found_at ns p i (λ j k d l m. up (suc j) (suc k) d (omega arith) (omega arith))
    (λ k d l m. point.0 (suc k) d (omega arith) (omega arith), λ k d l m. point.1 (suc k) d (omega arith) (omega arith))

-- an order cuts its names in two at a place
pub cut_in_two : (ns : List Name) (p : Pos) → IsAscending ns → IsPartitionedBy (λ n. is_before n.pos p) ns
cut_in_two ns p up i j d le lt e = by (cases_lt i j)
  where
    by : (i < j) ⊎ (j ≤ i) → is_before (get_or ns i d).pos p ≡ true
    by (inl l) = before_then (get_or ns i d).pos (get_or ns j d).pos p (up i j d l lt) e
    by (inr m) = let same : i ≡ j = omega arith in rw same e

item_is : (ns : List Name) (i : ℕ) (r : Option (Bor Name)) → IsGetResult ns i i r → option_copied r ≡ slice_get ns i
item_is ns i None h = sym (slice_get_past ns i h.3)
item_is ns i (Some x) h = ap Some (h.3.1 x.now) ∙ sym (slice_get-get_or ns i x.now h.3.0)

pub found : (ns : List Name) (p : Pos) (i : ℕ) (r : Option (Bor Name)) (o : Option Name) → IsAscending ns →
    IsPartitionPoint (λ n. is_before n.pos p ≡ true) (λ n. is_before n.pos p ≡ false) ns i →
    IsGetResult ns i i r → o ≡ option_copied r → first_name ns p ≡ at_name o p
found ns p i r o up point item e =
    found_at ns p i up point ∙ ap (λ x. at_name x p) (sym (e ∙ item_is ns i r item))

pub behind_last : (ns : List Name) (n : Name) (p : Pos) → IsAscending ns → slice_get ns (length ns - 1) ≡ Some n →
    is_before n.pos p ≡ true → IsBehind ns p
behind_last ns n p up e b i d l = by (cases_lt i (length ns - 1))
  where
    last : get_or ns (length ns - 1) d ≡ n
    last = let g = slice_get-get_or ns (length ns - 1) d (omega arith) in cc

    by : (i < length ns - 1) ⊎ (length ns - 1 ≤ i) → is_before (get_or ns i d).pos p ≡ true
    by (inl m) = before_then (get_or ns i d).pos n.pos p
        (subst (λ (x : Name). is_before (get_or ns i d).pos x.pos ≡ true) last
        (up i (length ns - 1) d m (omega arith))) b
    by (inr m) = let same : i ≡ length ns - 1 = omega arith in rw (same, last) b

-- ---- one name more

first-append : (ns ms : List Name) (p : Pos) →
    first_name (ns ++ ms) p ≡ option_or (first_name ns p) (first_name ms p)
first-append [] ms p = refl
first-append (n ∷ ns) ms p = by (same_place n.pos p) (first-append ns ms p)
  where
    by : (b : Bool) → first_name (ns ++ ms) p ≡ option_or (first_name ns p) (first_name ms p) →
        cond b (Some n.span) (first_name (ns ++ ms) p)
        ≡ option_or (cond b (Some n.span) (first_name ns p)) (first_name ms p)
    by true h = refl
    by false h = h

pub alone : (o : Option Span) → option_or o None ≡ o
alone None = refl
alone (Some s) = refl

pub none_is : (o : Option Span) (b : Bool) → is_some o ≡ not b → b ≡ true → o ≡ None
none_is None b e f = refl
none_is (Some s) b e f = absurd cc

abbrev one_name : Pos → Span → List Name
one_name p s = record { pos = p; span = s } ∷ []

none_left : (a b : Option Span) → option_or a b ≡ None → a ≡ None
none_left None b e = refl
none_left (Some s) b e = absurd cc

-- it stands behind the others, and no other one is at its place
pub name_pushed : (old new : Names) (p : Pos) (s : Span) → IsBehind old.ascending.items p → other_at old p ≡ None →
    new.ascending.items ≡ old.ascending.items ++ record { pos = p; span = s } ∷ [] → new.others ≡ old.others →
    AddsName old new p s
name_pushed old new p s behind absent e f = record { are = λ q. by q (same_place p q) refl }
  where
    ns : List Name
    ns = old.ascending.items

    is : (q : Pos) → known_at new q
        ≡ option_or (option_or (first_name ns q) (cond (same_place p q) (Some s) None)) (other_at old q)
    is q = ap (λ xs. option_or (first_name xs q) (other_at new q)) e
        ∙ ap (λ o. option_or o (other_at new q)) (first-append ns (one_name p s) q)
        ∙ ap (λ m. option_or (option_or (first_name ns q) (cond (same_place p q) (Some s) None))
        (lookup (same_pair (q.line, q.col)) m.entries)) f

    by : (q : Pos) (b : Bool) → same_place p q ≡ b →
        known_at new q ≡ option_or (known_at old q) (cond (same_place p q) (Some s) None)
    by q true i =
        let none : first_name ns q ≡ None = ap (first_name ns) (sym (same_pos p q i)) ∙ behind_all ns p behind in
        let other : other_at old q ≡ None = ap (other_at old) (sym (same_pos p q i)) ∙ absent in
        is q
        ∙ ap (λ b. option_or (option_or (first_name ns q) (cond b (Some s) None)) (other_at old q)) i
        ∙ ap (λ o. option_or (option_or o (Some s)) (other_at old q)) none
        ∙ sym (ap (λ b. option_or (known_at old q) (cond b (Some s) None)) i
        ∙ ap (λ o. option_or (option_or o (other_at old q)) (Some s)) none
        ∙ ap (λ o. option_or o (Some s)) other)
    by q false i =
        is q
        ∙ ap (λ b. option_or (option_or (first_name ns q) (cond b (Some s) None)) (other_at old q)) i
        ∙ ap (λ o. option_or o (other_at old q)) (alone (first_name ns q))
        ∙ sym (ap (λ b. option_or (known_at old q) (cond b (Some s) None)) i ∙ alone (known_at old q))

-- no name is known at its place
pub name_inserted : (old new : Names) (p : Pos) (s : Span) → known_at old p ≡ None → new.ascending ≡ old.ascending →
    ((q : ℕ × ℕ) → lookup (same_pair q) new.others.entries
    ≡ cond (same_pair (p.line, p.col) q) (Some s) (lookup (same_pair q) old.others.entries)) →
    AddsName old new p s
name_inserted old new p s absent e u = record { are = λ q. by q (same_place p q) refl }
  where
    ns : List Name
    ns = old.ascending.items

    is : (q : Pos) → known_at new q ≡ option_or (first_name ns q) (cond (same_place p q) (Some s) (other_at old q))
    is q = ap (λ v. option_or (first_name v.items q) (other_at new q)) e
        ∙ ap (λ o. option_or (first_name ns q) o) (u (q.line, q.col))

    by : (q : Pos) (b : Bool) → same_place p q ≡ b →
        known_at new q ≡ option_or (known_at old q) (cond (same_place p q) (Some s) None)
    by q true i =
        let known : known_at old q ≡ None = ap (known_at old) (sym (same_pos p q i)) ∙ absent in
        is q
        ∙ ap (λ b. option_or (first_name ns q) (cond b (Some s) (other_at old q))) i
        ∙ ap (λ o. option_or o (Some s)) (none_left (first_name ns q) (other_at old q) known)
        ∙ sym (ap (λ b. option_or (known_at old q) (cond b (Some s) None)) i ∙ ap (λ o. option_or o (Some s)) known)
    by q false i =
        is q
        ∙ ap (λ b. option_or (first_name ns q) (cond b (Some s) (other_at old q))) i
        ∙ sym (ap (λ b. option_or (known_at old q) (cond b (Some s) None)) i ∙ alone (known_at old q))
