-- Types that are const, and types that are not there.
use Rattle.std.proofs.Common.{◌≡◌, ℕ, zero, suc, ◌+◌, ◌-◌, ◌%◌, ◌^◌, ◌<◌, ◌≤◌, [], ◌∷◌, ◌++◌, true, false, ltb, List}
use Rattle.std.proofs.Common.{length, get_or, Option, Some, None, refl, sym, ap, subst, ◌⊎◌, inl, inr, ◌∙◌, arith}
use Rattle.std.specs.Prelude.{slice_get}
use Rattle.std.proofs.lemmas.Bool.{ltb-true, ltb-false}
use Rattle.std.proofs.lemmas.Option.{slice_get-get_or, slice_get_past, same_Some}
use Rattle.c_tree.specs.declared.typed.CType.{CType}
use Rattle.c_tree.specs.Layout.{bare_of, bare_within, bare, extent_of, extent_within}
use Rattle.obj_mem.specs.Needs.{is_const_of, is_const_within}
use Rattle.cheri_c_sem.specs.Types.{size_of_extent, align_of_extent}
use Rattle.mean_types.specs.declared.types.TypeFacts.{TypeFacts}
use Rattle.mean_types.specs.Facts.{AreOwn, AreFactsOf, AreTypesOf}
use Rattle.std.proofs.lemmas.List.{length_push}

pub const_step : (types : List CType) (d t : ℕ) → 0 < d →
    is_const_within d types t ≡ is_const_of (slice_get types t) (is_const_within (d - 1) types)
unfolding is_const_within
const_step types zero t h = absurd (omega arith)
const_step types (suc d) t h = let e : suc d - 1 ≡ d = omega arith in rw e refl

pub const_zero : (types : List CType) (d t : ℕ) → d ≤ 0 → is_const_within d types t ≡ false
unfolding is_const_within
const_zero types zero t h = refl
const_zero types (suc d) t h = absurd (omega arith)

pub there : {A : Type 0} (xs : List A) (k : ℕ) (x : A) → true ≡ ltb k (length xs) → x ≡ get_or xs k x →
    slice_get xs k ≡ Some x
there xs k x lt e = slice_get-get_or xs k x (ltb-true k (length xs) (sym lt)) ∙ ap Some (sym e)

pub past : {A : Type 0} (xs : List A) (k : ℕ) → false ≡ ltb k (length xs) → slice_get xs k ≡ None
past xs k lt = slice_get_past xs k (ltb-false k (length xs) (sym lt))

-- ---- types that are not there

bare_nowhere : (d : ℕ) (types : List CType) (t : ℕ) → slice_get types t ≡ None → bare_within d types t ≡ None
unfolding bare_within
bare_nowhere zero types t h = refl
bare_nowhere (suc d) types t h = ap (λ o. bare_of o (bare_within d types)) h

const_nowhere : (d : ℕ) (types : List CType) (t : ℕ) → slice_get types t ≡ None → is_const_within d types t ≡ false
unfolding is_const_within
const_nowhere zero types t h = refl
const_nowhere (suc d) types t h = ap (λ o. is_const_of o (is_const_within d types)) h

extent_nowhere : (d : ℕ) (types : List CType) (t : ℕ) → slice_get types t ≡ None → extent_within d types t ≡ None
unfolding extent_within
extent_nowhere zero types t h = refl
extent_nowhere (suc d) types t h = ap (λ o. extent_of o (extent_within d types)) h

own_none : (o : Option CType) (f : TypeFacts) → o ≡ None → AreOwn None f → AreOwn o f
own_none o f e h = rw e h

-- what is known of a type that is not there
pub facts_nowhere : (types : List CType) (t : ℕ) (f : TypeFacts) → slice_get types t ≡ None → AreOwn None f →
    f.constant ≡ false → f.size ≡ 0 → f.align ≡ 1 → AreFactsOf types t f
facts_nowhere types t f none own constant size align = record {
  own = own_none (bare types t) f (bare_nowhere (length types) types t none) own;
  constant = constant ∙ sym (const_nowhere (length types) types t none);
  size = λ h. size ∙ sym (ap size_of_extent (extent_nowhere (length types) types t none));
  align = λ h. align ∙ sym (ap align_of_extent (extent_nowhere (length types) types t none));
}

-- ---- the table

pub facts_missing : (types : List CType) (facts : List TypeFacts) (t : ℕ) (f : TypeFacts) → AreTypesOf types facts →
    false ≡ ltb t (length facts) → AreOwn None f → f.constant ≡ false → f.size ≡ 0 → f.align ≡ 1 → AreFactsOf types t f
facts_missing types facts t f all lt own constant size align =
    let e = all.count in
    let le = ltb-false t (length facts) (sym lt) in
    facts_nowhere types t f (slice_get_past types t (omega arith)) own constant size align

pub facts_found : (types : List CType) (facts : List TypeFacts) (t : ℕ) (f : TypeFacts) → AreTypesOf types facts →
    t < 2 ^ 32 → true ≡ ltb t (length facts) → f ≡ get_or facts t f → AreFactsOf types t f
facts_found types facts t f all small lt e = all.each t f small (there facts t f lt e)

get_push : {A : Type 0} (xs : List A) (x : A) (k : ℕ) (y : A) → slice_get (xs ++ x ∷ []) k ≡ Some y →
    (slice_get xs k ≡ Some y) ⊎ ((k ≡ length xs) × (y ≡ x))
get_push [] x zero y e = inr (refl, sym (same_Some x y e))
get_push [] x (suc k) y e = inl e
get_push (z ∷ xs) x zero y e = inl e
get_push (z ∷ xs) x (suc k) y e = behind_first (get_push xs x k y e)
  where
    behind_first : (slice_get xs k ≡ Some y) ⊎ ((k ≡ length xs) × (y ≡ x)) →
        (slice_get xs k ≡ Some y) ⊎ ((suc k ≡ suc (length xs)) × (y ≡ x))
    behind_first (inl q) = inl q
    behind_first (inr q) = inr (ap suc q.0, q.1)

-- the table so far
pub record IsBegun (types : List CType) (facts : List TypeFacts) (n : ℕ) : Type 0 where
  pub count : length facts ≡ n
  pub each : (t : ℕ) (f : TypeFacts) → t < 2 ^ 32 → slice_get facts t ≡ Some f → AreFactsOf types t f

pub begun_none : (types : List CType) → IsBegun types [] 0
begun_none types = record { count = refl; each = λ t f h e. absurd (let g : None ≡ Some f = e in cc) }

pushed_each : (types : List CType) (facts : List TypeFacts) (n : ℕ) (g : TypeFacts) → IsBegun types facts n →
    AreFactsOf types (n % 2 ^ 32) g → (t : ℕ) (f : TypeFacts) → t < 2 ^ 32 → slice_get (facts ++ g ∷ []) t ≡ Some f →
    AreFactsOf types t f
pushed_each types facts n g b h t f small e = by_place (get_push facts g t f e)
  where
    by_place : (slice_get facts t ≡ Some f) ⊎ ((t ≡ length facts) × (f ≡ g)) → AreFactsOf types t f
    by_place (inl q) = b.each t f small q
    by_place (inr q) =
        let c = b.count in
        let k = q.0 in
        let m : n % 2 ^ 32 ≡ t = omega arith in
        subst (λ x. AreFactsOf types t x) (sym q.1) (subst (λ x. AreFactsOf types x g) m h)

pub begun_more : (types : List CType) (facts : List TypeFacts) (n : ℕ) (g : TypeFacts) → IsBegun types facts n →
    AreFactsOf types (n % 2 ^ 32) g → IsBegun types (facts ++ g ∷ []) (n + 1)
begun_more types facts n g b h =
    record { count = length_push facts g ∙ ap (λ k. k + 1) b.count; each = pushed_each types facts n g b h }
