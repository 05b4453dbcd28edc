-- The function `main`.
use Rattle.std.proofs.Common.{◌≡◌, ℕ, zero, suc, ◌+◌, ◌-◌, ◌<◌, ◌≤◌, Bool, true, false, List, [], ◌∷◌, length, drop}
use Rattle.std.proofs.Common.{map, take, Option, Some, None, refl, sym, ap, subst, ◌∙◌, arith}
use Rattle.std.specs.Prelude.{slice_get, bytes_eq, codes, ◌&&◌, ◌||◌, ◌==◌, not, if◌then◌else◌}
use Rattle.std.proofs.lemmas.Bool.{eqb-true, false≢true}
use Rattle.std.specs.List.{position_or_len}
use Rattle.c_tree.specs.declared.typed.CType.{CType}
use Rattle.c_tree.specs.declared.typed.CType.TheVariants as ctypes
use Rattle.c_tree.specs.Types.{Ty, Void, Function, no_types, int, same}
use Rattle.c_tree.specs.Scopes.{RoutineState, State}
use Rattle.c_tree.specs.Views.{types_of, type_at, type_from, tys}
use Rattle.c_tree.specs.Programs.{is_there, is_main, has_main}
use Rattle.c_interner.proofs.Growing.{type_at-level, type_at-past, sees_before}
use Rattle.c_elaborator.specs.declared.work.Work.{Work}
use Rattle.c_elaborator.specs.Work.{Shows}
use Rattle.c_plain_parts.specs.MainFunction.{IsMain}
use Rattle.c_plain_parts.proofs.Backwards.{drop_step, drop_past}

pub same_past : (cs : List CType) (k : ℕ) (u : Ty) → length cs ≤ k → same (type_at (types_of cs) k) u ≡ same Void u
same_past cs k u le = ap (λ t. same t u) (type_at-past cs k le)

pub same_level : (cs : List CType) (k : ℕ) (c : CType) (u : Ty) → slice_get cs k ≡ Some c →
    same (type_at (types_of cs) k) u ≡ same (type_from c (type_at (types_of (take k cs)))) u
same_level cs k c u e = ap (λ t. same t u) (type_at-level cs k c e)

and_false : (b : Bool) → (b && false) ≡ false
and_false true = refl
and_false false = refl

and_true : (b : Bool) → (b && true) ≡ b
and_true true = refl
and_true false = refl

-- any other type
pub not_function : (c : CType) (go : ℕ → Ty) → ((r : ℕ) (ps : List ℕ) → c ≡ ctypes.Function r ps → ⊥) →
    same (type_from c go) (Function int no_types) ≡ false
not_function ctypes.Void go h = refl
not_function (ctypes.Int k n) go h = refl
not_function (ctypes.Cap s) go h = refl
not_function (ctypes.Pointer t) go h = refl
not_function (ctypes.Array t n) go h = refl
not_function (ctypes.Struct tag ms) go h = refl
not_function (ctypes.Union tag ms) go h = refl
not_function (ctypes.Function r ps) go h = absurd (h r ps refl)
not_function (ctypes.Const t) go h = refl
not_function (ctypes.Incomplete tag) go h = refl

-- a function with parameters
pub more_params : (cs : List CType) (k r : ℕ) (ps : List ℕ) → slice_get cs k ≡ Some (ctypes.Function r ps) →
    0 < length ps → same (type_at (types_of cs) k) (Function int no_types) ≡ false
more_params cs k r [] e lt = absurd (omega arith)
more_params cs k r (p ∷ ps) e lt =
    same_level cs k (ctypes.Function r (p ∷ ps)) (Function int no_types) e
    ∙ and_false (same (type_at (types_of (take k cs)) r) int)

no_params : (cs : List CType) (k r : ℕ) (ps : List ℕ) → slice_get cs k ≡ Some (ctypes.Function r ps) → length ps ≡ 0 →
    same (type_at (types_of cs) k) (Function int no_types) ≡ same (type_at (types_of (take k cs)) r) int
no_params cs k r [] e l =
    same_level cs k (ctypes.Function r []) (Function int no_types) e
    ∙ and_true (same (type_at (types_of (take k cs)) r) int)
no_params cs k r (p ∷ ps) e l = absurd (omega arith)

-- one that gives what stands behind it
pub gives_past : (cs : List CType) (k r : ℕ) (ps : List ℕ) → slice_get cs k ≡ Some (ctypes.Function r ps) →
    k ≤ length cs → k ≤ r → same (type_at (types_of cs) k) (Function int no_types) ≡ false
gives_past cs k r ps e w le =
    let go = type_at (types_of (take k cs)) in
    same_level cs k (ctypes.Function r ps) (Function int no_types) e
    ∙ ap (λ t. same (Function t (tys (map go ps))) (Function int no_types)) ((sees_before cs k w).past r le)

pub is_empty : (n : ℕ) (b : Bool) → b ≡ (n == 0) → b ≡ true → n ≡ 0
is_empty n b e t = eqb-true n 0 (sym e ∙ t)

pub has_some : (n : ℕ) (b : Bool) → b ≡ (n == 0) → b ≡ false → 0 < n
has_some zero b e f = absurd (false≢true (sym f ∙ e))
has_some (suc n) b e f = omega arith

pub gives_before : (cs : List CType) (k r : ℕ) (ps : List ℕ) → slice_get cs k ≡ Some (ctypes.Function r ps) →
    length ps ≡ 0 → k ≤ length cs → r < k →
    same (type_at (types_of cs) k) (Function int no_types) ≡ same (type_at (types_of cs) r) int
gives_before cs k r ps e l w lt = no_params cs k r ps e l ∙ ap (λ t. same t int) ((sees_before cs k w).below r lt)

-- ---- one function

pub no_body_no_main : (r : RoutineState) → is_there r.body ≡ false → is_main r ≡ false
no_body_no_main r e = ap (λ (b : Bool). b && bytes_eq r.name.text (codes "main") && same r.of (Function int no_types)) e

pub main_parts : (r : RoutineState) (n y : Bool) → is_there r.body ≡ true → bytes_eq r.name.text (codes "main") ≡ n →
    same r.of (Function int no_types) ≡ y → is_main r ≡ (n && y)
main_parts r n y e f g =
    ap (λ (b : Bool). b && bytes_eq r.name.text (codes "main") && same r.of (Function int no_types)) e
    ∙ ap (λ (b : Bool). b && same r.of (Function int no_types)) f ∙ ap (λ (b : Bool). n && b) g

-- ---- from the last to the first

abbrev pub MainFrom : List RoutineState → ℕ → Option ℕ → Type 0
MainFrom rs j None = has_main rs ≡ false
MainFrom rs j (Some k) = (has_main rs ≡ true) × (position_or_len is_main rs + j ≡ k)

pub no_main_yet : (xs : List RoutineState) (n : ℕ) → n ≡ length xs → MainFrom (drop (n - 0) xs) (n - 0) None
no_main_yet xs n e = ap has_main (drop_past xs (n - 0) (omega arith))

first_place : (x : RoutineState) (xs : List RoutineState) → is_main x ≡ true → position_or_len is_main (x ∷ xs) ≡ 0
first_place x xs e = ap (λ (b : Bool). if not b then 1 + position_or_len is_main xs else 0) e

later_place : (x : RoutineState) (xs : List RoutineState) (j k : ℕ) → is_main x ≡ false →
    position_or_len is_main xs + (j + 1) ≡ k → position_or_len is_main (x ∷ xs) + j ≡ k
later_place x xs j k e h =
    let n = position_or_len is_main xs in
    let p : position_or_len is_main (x ∷ xs) ≡ 1 + n = ap (λ (b : Bool). if not b then 1 + n else 0) e in omega arith

one_first : (x : RoutineState) (xs : List RoutineState) (b : Bool) → is_main x ≡ b →
    has_main (x ∷ xs) ≡ (b || has_main xs)
one_first x xs b e = ap (λ (a : Bool). a || has_main xs) e

main_cons : (x : RoutineState) (xs : List RoutineState) (j : ℕ) (b : Bool) (o : Option ℕ) → is_main x ≡ b →
    MainFrom xs (j + 1) o → MainFrom (x ∷ xs) j (if b then Some j else o)
main_cons x xs j true o e h = (one_first x xs true e, let p = first_place x xs e in omega arith)
main_cons x xs j false None e h = one_first x xs false e ∙ h
main_cons x xs j false (Some k) e h = (one_first x xs false e ∙ h.0, later_place x xs j k e h.1)

pub main_turn : (xs : List RoutineState) (n i : ℕ) (x : RoutineState) (b : Bool) (o q : Option ℕ) → i < n →
    slice_get xs (n - 1 - i) ≡ Some x → is_main x ≡ b → q ≡ (if b then Some (n - 1 - i) else o) →
    MainFrom (drop (n - i) xs) (n - i) o → MainFrom (drop (n - (i + 1)) xs) (n - (i + 1)) q
main_turn xs n i x b o q lt e t f h =
    let a : n - 1 - i ≡ n - (i + 1) = omega arith in
    let c : n - i ≡ (n - 1 - i) + 1 = omega arith in
    let m : MainFrom (drop (n - i) xs) ((n - 1 - i) + 1) o = subst (λ j. MainFrom (drop (n - i) xs) j o) c h in
    let g : MainFrom (x ∷ drop (n - i) xs) (n - 1 - i) (if b then Some (n - 1 - i) else o) =
    main_cons x (drop (n - i) xs) (n - 1 - i) b o t m in
    let z : suc (n - 1 - i) ≡ n - i = omega arith in
    let d : drop (n - 1 - i) xs ≡ x ∷ drop (n - i) xs = drop_step xs (n - 1 - i) x e ∙ ap (λ j. x ∷ drop j xs) z in
    subst (λ j. MainFrom (drop j xs) j q) a (subst (λ ys. MainFrom ys (n - 1 - i) q) (sym d)
    (subst (MainFrom (x ∷ drop (n - i) xs) (n - 1 - i)) (sym f) g))

main_says : (w : Work) (o : Option ℕ) → ((s : State) → Shows w s → MainFrom s.routines 0 o) → IsMain w o
main_says w None f = f
main_says w (Some k) f = λ s h. let g = f s h in
    (g.0, let a : position_or_len is_main s.routines + 0 ≡ k = g.1 in omega arith)

pub main_is : (w : Work) (o : Option ℕ) (n i : ℕ) → n ≤ i →
    ((s : State) → Shows w s → MainFrom (drop (n - i) s.routines) (n - i) o) → IsMain w o
main_is w o n i le f = main_says w o (λ s h. let z : n - i ≡ 0 = omega arith in
    subst (λ j. MainFrom (drop j s.routines) j o) z (f s h))

-- the number of a `main` that is there is that of a function
pub place_there : (xs : List RoutineState) → has_main xs ≡ true → position_or_len is_main xs < length xs
place_there [] e = absurd cc
place_there (x ∷ xs) e = here (is_main x) refl (place_there xs)
  where
    here : (b : Bool) → is_main x ≡ b → (has_main xs ≡ true → position_or_len is_main xs < length xs) →
        position_or_len is_main (x ∷ xs) < length (x ∷ xs)
    here true h f = let p : position_or_len is_main (x ∷ xs) ≡ 0 = first_place x xs h in omega arith
    here false h f =
        let q : position_or_len is_main xs < length xs = f (sym (one_first x xs false h) ∙ e) in
        let p : position_or_len is_main (x ∷ xs) + 0 ≡ position_or_len is_main xs + (0 + 1) =
        later_place x xs 0 _ h refl in
        omega arith
