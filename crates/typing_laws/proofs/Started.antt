-- The addresses with which objects begin: what they point to stands in the state, and their bounds are within it, or
-- are asked for at the end.
use Rattle.std.proofs.Common.{arith, ◌≡◌, ℕ, ◌+◌, ◌≤◌, Bool, true, false, List, [], ◌∷◌, length, Option, Some, None}
use Rattle.std.proofs.Common.{⊎_elim, inl, inr, refl, sym, ap, subst, ◌∙◌}
use Rattle.std.specs.Prelude.{◌⊎◌, ℤ, pos, ◌+ℤ◌, ◌-ℤ◌, int_lt, slice_get, ◌&&◌, ◌||◌, nat_le}
use Rattle.cap_concentrate.specs.Rounding.{owned}
use Rattle.ck_int.specs.declared.kinds.IntOp.TheVariants as intops
use Rattle.c_tree.specs.Types.{Ty, Int, Cap, Pointer, Function, bare, is_pointer, is_scalar, is_function, is_capability}
use Rattle.c_tree.specs.Terms as tree
use Rattle.c_tree.specs.Terms.{Shape, Term, Terms, term, no_terms, with_term, type_of, Aim, To_global, To_literal}
use Rattle.c_tree.specs.Terms.{To_function, Text}
use Rattle.c_tree.specs.Scopes.{Reach, All, Within, TagState, StaticState, RoutineState, State, size, type_extent}
use Rattle.c_tree.specs.Constants.{constant_of}
use Rattle.c_tree.specs.Statics.{Start, Number, There, Entry, Known, aim_length, is_near, near_all, moved_to, is_exact}
use Rattle.c_tree.specs.Statics.{inside, narrowed_in, narrowed, text_length, with_known, move_by, member_offset}
use Rattle.c_tree.specs.Statics.{by_offset, is_member_shape, pointed_at, target_size, number_in, bytes_moved, by_number}
use Rattle.c_tree.specs.Statics.{Operand, summed, derived_sum, shape_start, or_number, start_of, starts_of, known_value}
use Rattle.c_tree.specs.Statics.{is_value_start}
use Rattle.typing_laws.proofs.Facts.{IsUsed, TermOk, TermsOk, ShapeOk, IsValue, scalar, nothing, tagged, ValueOk}
use Rattle.typing_laws.proofs.Facts.{TypeOk}
use Rattle.typing_laws.proofs.Scalars.{branched}
use Rattle.std.proofs.lemmas.Int.{ints}
use Rattle.std.proofs.lemmas.Bool.{and_parts, leb-true, false≢true, or_right}
use Rattle.std.proofs.lemmas.Option.{none-some}
use Rattle.ck_base.specs.declared.positions.Pos.{Pos}
use Rattle.c_tree.specs.Layout.{Extent, size_limit, fitting}
use Rattle.c_tree.specs.Conversions.{is_place, designates}
use Rattle.c_tree.specs.WellTyped.{holds}
use Rattle.typing_laws.proofs.Agreeing.{refines}

-- what an address points to is there, and is used
abbrev pub IsThere : State → Aim → Type 0
IsThere s (To_global k) = (g : StaticState) × (slice_get s.statics k ≡ Some g) × IsUsed g.used
IsThere s (To_literal k) = (x : Text) × (slice_get s.texts k ≡ Some x) × (length x.bytes ≤ size_limit)
IsThere s (To_function k) = ⊥

abbrev pub IsAsked : List ℤ → ℤ → Type 0
IsAsked [] z = ⊥
IsAsked (x ∷ xs) z = (x ≡ z) ⊎ IsAsked xs z

-- of an object whose length is not known yet
abbrev pub Asks : Aim → List ℤ → ℤ → Type 0
Asks (To_global k) zs z = IsAsked zs z
Asks a zs z = ⊥

-- Bounds are exact and end within the bytes of the target, and the address is near them; or as much is asked for
abbrev pub Reached : State → (ℤ → Type 0) → Aim → Reach → ℤ → Type 0
Reached s asked a All z =
    holds (is_near 0 0 z) ⊎ (((m : ℕ) × (aim_length s a ≡ Some m) × holds (is_near 0 m z)) ⊎
    (holds (int_lt (pos 0) (z +ℤ pos 1024)) × asked (z -ℤ pos 1023)))
Reached s asked a (Within low n) z =
    holds (is_exact low n) × holds (is_near low n z) ×
    ((m : ℕ) × (low + n ≤ m) × ((aim_length s a ≡ Some m) ⊎ asked (pos m)))

pub reached_on : (s r : State) (asked awaited : ℤ → Type 0) (a : Aim) (w : Reach) (z : ℤ) →
    ((n : ℕ) → aim_length s a ≡ Some n → aim_length r a ≡ Some n) → ((y : ℤ) → asked y → awaited y) →
    Reached s asked a w z → Reached r awaited a w z
reached_on s r asked awaited a All z f g h =
    ⊎_elim (λ e. inl e) (λ k. inr (⊎_elim (λ e. inl (e.0, f e.0 e.1, e.2)) (λ q. inr (q.0, g (z -ℤ pos 1023) q.1)) k)) h
reached_on s r asked awaited a (Within low n) z f g h =
    (h.0, h.1, (h.2.0, h.2.1, ⊎_elim (λ e. inl (f h.2.0 e)) (λ q. inr (g (pos h.2.0) q)) h.2.2))

abbrev pub InTarget : State → Aim → Reach → ℤ → List ℤ → Type 0
InTarget s a r z asks = Reached s (Asks a asks) a r z

abbrev pub StartOk : State → Start → List ℤ → Type 0
StartOk s (Number v) asks = Unit {0}
StartOk s (There a r z) asks = IsThere s a × InTarget s a r z asks
StartOk s (Entry k) asks = (f : RoutineState) × (slice_get s.routines k ≡ Some f) × IsUsed f.used

abbrev pub KnownOk : State → Known → Type 0
KnownOk s None = Unit {0}
KnownOk s (Some x) = StartOk s x.0 x.1

with_ok : (s : State) (k : Known) (f : Start × List ℤ → Known) → KnownOk s k →
    ((x : Start × List ℤ) → StartOk s x.0 x.1 → KnownOk s (f x)) → KnownOk s (with_known k f)
with_ok s None f h g = tt
with_ok s (Some x) f h g = g x h

near_ok : (s : State) (a : Aim) (at : ℤ) (o : Option ℕ) (asks : List ℤ) → aim_length s a ≡ o → IsThere s a →
    KnownOk s (near_all a at o asks)
near_ok s a at (Some n) asks e h =
    branched (KnownOk s) (is_near 0 n at) (Some (There a All at, asks)) None (λ l. (h, inr (inl (n, e, l)))) (λ _. tt)
near_ok s (To_global k) at None asks e h =
    branched (KnownOk s) (int_lt (pos 0) (at +ℤ pos 1024))
    (Some (There (To_global k) All at, (at -ℤ pos 1023) ∷ asks)) None (λ l. (h, inr (inr (l, inl refl)))) (λ _. tt)
near_ok s (To_literal k) at None asks e h =
    absurd (none-some (owned (fitting (length h.0.bytes))) (sym e ∙ ap text_length h.1))
near_ok s (To_function k) at None asks e h = absurd h

moved_ok : (s : State) (a : Aim) (r : Reach) (from at : ℤ) (asks : List ℤ) → IsThere s a → InTarget s a r from asks →
    KnownOk s (moved_to s a r at asks)
moved_ok s a All from at asks h i = near_ok s a at (aim_length s a) asks refl h
moved_ok s a (Within low n) from at asks h i =
    branched (KnownOk s) (is_near low n at) (Some (There a (Within low n) at, asks)) None (λ l. (h, (i.0, l, i.2)))
    (λ _. tt)

move_ok : (s : State) (z : ℤ) (x : Start × List ℤ) → StartOk s x.0 x.1 → KnownOk s (move_by s z x)
move_ok s z (Number v, asks) h = tt
move_ok s z (There a r at, asks) h = moved_ok s a r at (at +ℤ z) asks h.0 h.1
move_ok s z (Entry k, asks) h = tt

-- the address of bounds is near them
near_self : (low n : ℕ) → is_near low n (pos low) ≡ true
near_self low n = grind (arith, ints)

inside_ok : (s : State) (o : Option ℕ) (at n : ℕ) (asks : List ℤ) (a : Aim) → is_exact at n ≡ true →
    aim_length s a ≡ o → IsThere s a → KnownOk s (inside o at n asks a)
inside_ok s (Some m) at n asks a x e h =
    branched (KnownOk s) (nat_le (at + n) m) (Some (There a (Within at n) (pos at), asks)) None
    (λ l. (h, (x, near_self at n, (m, leb-true (at + n) m l, inl e)))) (λ _. tt)
inside_ok s None at n asks (To_global k) x e h = (h, (x, near_self at n, (at + n, omega arith, inr (inl refl))))
inside_ok s None at n asks (To_literal k) x e h =
    absurd (none-some (owned (fitting (length h.0.bytes))) (sym e ∙ ap text_length h.1))
inside_ok s None at n asks (To_function k) x e h = absurd h

narrowed_in_ok : (s : State) (a : Aim) (r : Reach) (from : ℤ) (at n : ℕ) (asks : List ℤ) → is_exact at n ≡ true →
    IsThere s a → InTarget s a r from asks → KnownOk s (narrowed_in s a r at n asks)
narrowed_in_ok s a All from at n asks x h i = inside_ok s (aim_length s a) at n asks a x refl h
narrowed_in_ok s a (Within low m) from at n asks x h i =
    branched (KnownOk s) (nat_le low at && nat_le (at + n) (low + m)) (Some (There a (Within at n) (pos at), asks)) None
    (λ l. let e = (and_parts (nat_le low at) (nat_le (at + n) (low + m)) l).1 in
    let l = leb-true (at + n) (low + m) e in (h, (x, near_self at n, (i.2.0, omega (arith, l, i.2.1), i.2.2))))
    (λ _. tt)

narrowed_ok : (s : State) (n : ℕ) (x : Start × List ℤ) → StartOk s x.0 x.1 → KnownOk s (narrowed s n x)
narrowed_ok s n (There a r (pos at), asks) h =
    branched (KnownOk s) (is_exact at n) (narrowed_in s a r at n asks) None
    (λ x. narrowed_in_ok s a r (pos at) at n asks x h.0 h.1) (λ _. tt)
narrowed_ok s n x h = tt

pointed_ok : (s : State) (x : Term) (v : Start × List ℤ) → StartOk s v.0 v.1 → KnownOk s (pointed_at s x v)
pointed_ok s x v h = branched (KnownOk s) (is_member_shape x) (narrowed s (owned (size s (type_of x))) v) (Some v)
    (λ _. narrowed_ok s (owned (size s (type_of x))) v h) (λ _. h)

by_offset_ok : (s : State) (o : Option ℕ) (x : Start × List ℤ) → StartOk s x.0 x.1 → KnownOk s (by_offset s o x)
by_offset_ok s None x h = tt
by_offset_ok s (Some n) x h = move_ok s (pos n) x h

by_number_ok : (s : State) (minus : Bool) (n : ℕ) (o : Option ℤ) (k : Known) → KnownOk s k →
    KnownOk s (by_number s minus n o k)
by_number_ok s minus n None k h = tt
by_number_ok s minus n (Some z) k h =
    with_ok s k (move_by s (bytes_moved minus n z)) h (λ x. move_ok s (bytes_moved minus n z) x)

derived_ok : (s : State) (minus r : Bool) (a b : Operand) → KnownOk s a.1 → KnownOk s b.1 →
    KnownOk s (derived_sum s minus r a b)
derived_ok s false true a b h i = by_number_ok s false 1 (number_in a.0 (constant_of a.0)) b.1 i
derived_ok s true true a b h i = tt
derived_ok s minus false a b h i = by_number_ok s minus 1 (number_in b.0 (constant_of b.0)) a.1 h

summed_ok : (s : State) (t : Ty) (minus : Bool) (a b : Operand) → KnownOk s a.1 → KnownOk s b.1 →
    KnownOk s (summed s t minus a b)
summed_ok s t minus a b h i = branched (KnownOk s) (is_pointer (bare (type_of a.0)))
    (by_number s minus (target_size s t) (number_in b.0 (constant_of b.0)) a.1)
    (by_number s minus (target_size s t) (number_in a.0 (constant_of a.0)) b.1)
    (λ _. by_number_ok s minus (target_size s t) (number_in b.0 (constant_of b.0)) a.1 h)
    (λ _. by_number_ok s minus (target_size s t) (number_in a.0 (constant_of a.0)) b.1 i)

-- ---- terms

abbrev AllKnown : State → List Operand → Type 0
AllKnown s [] = Unit {0}
AllKnown s (x ∷ xs) = KnownOk s x.1 × AllKnown s xs

-- a name stands for what is there
abbrev Names : State → Shape → Type 0
Names s (tree.Literal k) = IsThere s (To_literal k)
Names s (tree.Global k) = IsThere s (To_global k)
Names s (tree.Fun k) = StartOk s (Entry k) []
Names s n = Unit {0}

names_ok : (s : State) (n : Shape) (xs : Terms) (t : Ty) → ShapeOk true s n xs t → Names s n
names_ok s (tree.Literal k) no_terms t h = (h.3.0, h.3.1, subst (λ n. n ≤ size_limit) h.3.2 h.2)
names_ok s (tree.Global k) no_terms t h = (h.0, h.1, h.3)
names_ok s (tree.Fun k) no_terms t h = (h.0, h.1, h.3)
names_ok s (tree.Literal k) (with_term x xs) t h = absurd h
names_ok s (tree.Global k) (with_term x xs) t h = absurd h
names_ok s (tree.Fun k) (with_term x xs) t h = absurd h
names_ok s n xs t h = tt

shape_ok : (s : State) (n : Shape) (t : Ty) (xs : List Operand) → Names s n → AllKnown s xs →
    KnownOk s (shape_start s n t xs)
shape_ok s (tree.Literal k) t [] h i = (h, inl refl)
shape_ok s (tree.Global k) t [] h i = (h, inl refl)
shape_ok s (tree.Fun k) t [] h i = h
shape_ok s (tree.Member k) t (a ∷ []) h i =
    with_ok s a.1 (by_offset s (member_offset s (bare (type_of a.0)) k)) i.0
    (λ x. by_offset_ok s (member_offset s (bare (type_of a.0)) k) x)
shape_ok s tree.Address t (a ∷ []) h i = with_ok s a.1 (pointed_at s a.0) i.0 (pointed_ok s a.0)
shape_ok s tree.Decay t (a ∷ []) h i = with_ok s a.1 (pointed_at s a.0) i.0 (pointed_ok s a.0)
shape_ok s tree.Deref t (a ∷ []) h i = i.0
shape_ok s (tree.Plus minus) t (a ∷ b ∷ []) h i = summed_ok s (bare t) minus a b i.0 i.1.0
shape_ok s (tree.Capability intops.Add r) t (a ∷ b ∷ []) h i = derived_ok s false r a b i.0 i.1.0
shape_ok s (tree.Capability intops.Sub r) t (a ∷ b ∷ []) h i = derived_ok s true r a b i.0 i.1.0
shape_ok s tree.Convert t (a ∷ []) h i = branched (KnownOk s) (is_capability (bare t)) a.1 None (λ _. i.0) (λ _. tt)
shape_ok s n t xs h i = tt

or_ok : (s : State) (o : Option ℕ) (k : Known) → KnownOk s k → KnownOk s (or_number o k)
or_ok s None k h = h
or_ok s (Some v) k h = tt

mutual
  -- the address that a term is
  pub start_ok : (s : State) (x : Term) → TermOk true s x → KnownOk s (start_of s x)
  start_ok s (term n xs t p) h =
      or_ok s (constant_of (term n xs t p)) (shape_start s n t (starts_of s xs))
      (shape_ok s n t (starts_of s xs) (names_ok s n xs t h.1) (starts_ok s xs h.0))

  starts_ok : (s : State) (xs : Terms) → TermsOk true s xs → AllKnown s (starts_of s xs)
  starts_ok s no_terms h = tt
  starts_ok s (with_term x xs) h = (start_ok s x h.0, starts_ok s xs h.1)

pub known_ok : (s : State) (x : Term) → TermOk true s x → KnownOk s (known_value s x)
known_ok s x h = branched (KnownOk s) (is_value_start x) (start_of s x) None (λ _. start_ok s x h) (λ _. tt)

-- ---- what is placed is a value

-- functions have types of functions
abbrev pub Callable : State → Type 0
Callable s = (k : ℕ) (f : RoutineState) → slice_get s.routines k ≡ Some f →
    TypeOk s.tags f.of × holds (is_function f.of)

-- an address is a place, or has a type that holds one, or is a function
abbrev Holds : Bool → Ty → Known → Type 0
Holds d t None = Unit {0}
Holds d t (Some (Number v, asks)) = Unit {0}
Holds d t (Some x) = (d ≡ true) ⊎ (holds (is_capability (bare t)) ⊎ holds (is_function t))

held : (d : Bool) (t : Ty) (k : Known) → (d ≡ true) ⊎ (holds (is_capability (bare t)) ⊎ holds (is_function t)) →
    Holds d t k
held d t None h = tt
held d t (Some (Number v, asks)) h = tt
held d t (Some (There a r z, asks)) h = h
held d t (Some (Entry k, asks)) h = h

pointer_held : (d : Bool) (t u : Ty) (k : Known) → t ≡ Pointer u → Holds d t k
pointer_held d t u k e = held d t k (inr (inl (ap (λ t. is_capability (bare t)) e)))

cap_held : (d : Bool) (t : Ty) (b : Bool) (k : Known) → t ≡ Cap b → Holds d t k
cap_held d t b k e = held d t k (inr (inl (ap (λ t. is_capability (bare t)) e)))

refines_function : (t u : Ty) → refines t u ≡ true → is_function u ≡ true → is_function t ≡ true
refines_function (Function r ps) u e f = refl
refines_function t (Function r ps) e f = absurd (false≢true e)
refines_function t u e f = absurd (false≢true f)

shape_held : (s : State) → Callable s → (n : Shape) (xs : Terms) (t : Ty) (p : Pos) → ShapeOk true s n xs t →
    Holds (designates (term n xs t p)) t (shape_start s n t (starts_of s xs))
shape_held s i (tree.Literal k) no_terms t p h = inl refl
shape_held s i (tree.Global k) no_terms t p h = inl refl
shape_held s i (tree.Fun k) no_terms t p h = inr (inr (refines_function t h.0.of h.2 (i k h.0 h.1).1))
shape_held s i (tree.Member k) (with_term a no_terms) t p h =
    held (is_place a || true) t (shape_start s (tree.Member k) t ((a, start_of s a) ∷ []))
    (inl (or_right (is_place a) true refl))
shape_held s i tree.Address (with_term a no_terms) t p h =
    pointer_held false t (type_of a) (shape_start s tree.Address t ((a, start_of s a) ∷ [])) h.1
shape_held s i tree.Decay (with_term a no_terms) t p h = ⊎_elim
    (λ d. pointer_held false t d.0 (shape_start s tree.Decay t ((a, start_of s a) ∷ [])) d.3)
    (λ d. pointer_held false t (type_of a) (shape_start s tree.Decay t ((a, start_of s a) ∷ [])) d.1) h
shape_held s i tree.Deref (with_term a no_terms) t p h = held true t (start_of s a) (inl refl)
shape_held s i (tree.Plus minus) (with_term a (with_term b no_terms)) t p h =
    pointer_held false t h.0.0 (shape_start s (tree.Plus minus) t ((a, start_of s a) ∷ (b, start_of s b) ∷ [])) h.0.1
shape_held s i (tree.Capability o r) (with_term a (with_term b no_terms)) t p h =
    cap_held false t h.0.0 (shape_start s (tree.Capability o r) t ((a, start_of s a) ∷ (b, start_of s b) ∷ [])) h.0.1
shape_held s i tree.Convert (with_term a no_terms) t p h =
    branched (Holds false t) (is_capability (bare t)) (start_of s a) None
    (λ c. held false t (start_of s a) (inr (inl c))) (λ _. tt)
shape_held s i (tree.Capability o r) no_terms t p h = absurd h
shape_held s i (tree.Capability o r) (with_term a no_terms) t p h = absurd h
shape_held s i (tree.Capability o r) (with_term a (with_term b (with_term c xs))) t p h = absurd h
shape_held s i n xs t p h = tt

term_held : (s : State) → Callable s → (x : Term) → TermOk true s x → Holds (designates x) (type_of x) (start_of s x)
term_held s i (term n xs t p) h =
    numbered (constant_of (term n xs t p)) (shape_start s n t (starts_of s xs)) (shape_held s i n xs t p h.1)
  where
    numbered : (o : Option ℕ) (k : Known) → Holds (designates (term n xs t p)) t k →
        Holds (designates (term n xs t p)) t (or_number o k)
    numbered None k h = h
    numbered (Some v) k h = tt

-- a capability has 16 bytes at a multiple of 16
abbrev pub wide : Extent
wide = record { size = 16; align = 16 }

wide_type : (tags : List TagState) (t : Ty) → IsValue tags t →
    (holds (is_capability (bare t)) ⊎ holds (is_function t)) → type_extent tags t ≡ Some wide
wide_type tags t (nothing e) h =
    absurd (⊎_elim (λ c. false≢true (ap (λ t. is_capability (bare t)) (sym e) ∙ c))
    (λ c. false≢true (ap is_function (sym e) ∙ c)) h)
wide_type tags t (tagged n e x) h =
    absurd (⊎_elim (λ c. false≢true (ap (λ t. is_capability (bare t)) (sym e) ∙ c))
    (λ c. false≢true (ap is_function (sym e) ∙ c)) h)
wide_type tags t (scalar e) h = by t e h
  where
    by : (t : Ty) → is_scalar t ≡ true → (holds (is_capability (bare t)) ⊎ holds (is_function t)) →
        type_extent tags t ≡ Some wide
    by (Cap b) e h = refl
    by (Pointer t) e h = refl
    by (Int k n) e h = absurd (⊎_elim false≢true false≢true h)
    by t e h = absurd (false≢true e)

-- what is no number is as wide as a capability
abbrev pub IsWide : List TagState → Ty → Start → Type 0
IsWide tags t (Number v) = Unit {0}
IsWide tags t x = type_extent tags t ≡ Some wide

pub known_wide : (s : State) → Callable s → (x : Term) → ValueOk true s x → designates x ≡ false →
    (v : Start × List ℤ) → known_value s x ≡ Some v → StartOk s v.0 v.1 × IsWide s.tags (type_of x) v.0
known_wide s i x h d v e = (
  subst (KnownOk s) e (known_ok s x h.fits),
  is_wide v (subst (Holds (designates x) (type_of x)) e
      (branched (Holds (designates x) (type_of x)) (is_value_start x) (start_of s x) None
      (λ _. term_held s i x h.fits) (λ _. tt))),
)
  where
    no_place : (designates x ≡ true) ⊎ (holds (is_capability (bare (type_of x))) ⊎ holds (is_function (type_of x))) →
        type_extent s.tags (type_of x) ≡ Some wide
    no_place h' = ⊎_elim (λ a. absurd (false≢true (sym d ∙ a))) (wide_type s.tags (type_of x) h.value) h'

    is_wide : (v : Start × List ℤ) → Holds (designates x) (type_of x) (Some v) → IsWide s.tags (type_of x) v.0
    is_wide (Number n, asks) h = tt
    is_wide (There a r z, asks) h = no_place h
    is_wide (Entry k, asks) h = no_place h
