-- The types and the names before a file.
use Rattle.std.proofs.Common.{◌≡◌, ℕ, zero, suc, ◌+◌, ◌<◌, ◌≤◌, Bool, true, false, ◌&&◌, List, [], ◌∷◌, ◌++◌, length}
use Rattle.std.proofs.Common.{get_or, take, map, Some, refl, sym, ap, subst, ◌∙◌, arith, length-append}
use Rattle.std.proofs.Common.{inl, inr}
use Rattle.std.specs.Prelude.{slice_get, slice_index, nat_lt, bytes_eq, if◌then◌else◌}
use Rattle.std.proofs.lemmas.Bool.{ltb-true, false≢true, cases_lt}
use Rattle.std.specs.Prelude.{◌⊎◌, reverse}
use Rattle.std.proofs.lemmas.List.{take_more, reverse-append}
use Rattle.c_types.specs.declared.scopes.Scope.{Scope}
use Rattle.c_types.specs.declared.scopes.Scopes.{Scopes}
use Rattle.c_types.proofs.Binding.{scope_bound}
use Rattle.std.proofs.lemmas.Option.{slice_get-get_or, get_or_from_slice_get, none-some}
use Rattle.std.proofs.Math.ListN.{get_or-append}
use Rattle.std.proofs.Math.Seq.{get_or-append_seam}
use Rattle.c_tree.specs.declared.typed.CType.{CType}
use Rattle.c_tree.specs.declared.typed.Typed.{Typed}
use Rattle.c_tree.specs.Types as types
use Rattle.c_tree.specs.Types.{Ty, Tys}
use Rattle.c_tree.specs.Views.{grow, type_from, type_at, types_of}
use Rattle.c_tree.specs.Scopes as meant
use Rattle.c_tree.specs.Scopes.{Named}
use Rattle.c_tree.specs.Libraries.{aliases, services}
use Rattle.c_tree.specs.Programs.{file_scope, beginning}
use Rattle.c_tree.proofs.Forest.{forest_reads}
use Rattle.c_types.specs.declared.beginning.Recipe.{Recipe}
use Rattle.c_types.specs.declared.beginning.Recipe.TheVariants as recipes
use Rattle.c_types.specs.declared.beginning.Known.{Known}
use Rattle.c_types.specs.declared.beginning.Known.TheVariants as knowns
use Rattle.c_types.specs.declared.beginning.TheConstants.{RECIPES, NAMES}
use Rattle.c_interner.specs.Numbers.{AddsTypes, IsNumberOf}
use Rattle.c_types.specs.Stands.{Stands, AreTagged, named, ShowsScope, name_in, tag_in, entity_kept, entity_seen}
use Rattle.c_types.specs.Stands.{alias, library}
use Rattle.c_types.specs.Beginning.{Row, recipe_type, recipe_entity, known, KnowsTypes, meaning, row_name, names_scope}
use Rattle.c_types.specs.Beginning.{refers_within, all_refer_within}
use Rattle.c_interner.proofs.Growing.{types_longer, length-types_of}
use Rattle.c_types.proofs.Plain.{added_tagged}
use Rattle.c_types.proofs.Growth.{slice_get-longer}

-- ---- types

abbrev refers_before : Recipe → ℕ → Bool
refers_before (recipes.Pointer t) k = nat_lt t k
refers_before (recipes.Nullary r) k = nat_lt r k
refers_before (recipes.Unary r t) k = nat_lt r k && nat_lt t k
refers_before r k = true

abbrev all_refer_before : ℕ → List Recipe → Bool
all_refer_before k [] = true
all_refer_before k (r ∷ rs) = refers_before r k && all_refer_before (suc k) rs

both_first : (a b : Bool) → (a && b) ≡ true → a ≡ true
both_first true b e = refl
both_first false b e = e

both_second : (a b : Bool) → (a && b) ≡ true → b ≡ true
both_second true b e = e
both_second false b e = absurd (false≢true e)

refers_at : (k : ℕ) (rs : List Recipe) (i : ℕ) (r : Recipe) → all_refer_before k rs ≡ true → slice_get rs i ≡ Some r →
    refers_before r (k + i) ≡ true
refers_at k [] i r t e = absurd cc
refers_at k (x ∷ rs) zero r t e =
    let s : x ≡ r = cc in
    let z : k + 0 ≡ k = omega arith in
    rw (z, ← s) (both_first (refers_before x k) (all_refer_before (suc k) rs) t)
refers_at k (x ∷ rs) (suc i) r t e =
    let z : k + suc i ≡ suc k + i = omega arith in
    rw z (refers_at (suc k) rs i r (both_second (refers_before x k) (all_refer_before (suc k) rs) t) e)

recipes_refer : all_refer_before 0 RECIPES ≡ true
recipes_refer = refl

-- a recipe makes the same of types that agree before it
recipe_same : (r : Recipe) (k : ℕ) (f g : ℕ → Ty) → refers_before r k ≡ true → ((j : ℕ) → j < k → f j ≡ g j) →
    recipe_type r f ≡ recipe_type r g
recipe_same recipes.Void k f g t e = refl
recipe_same (recipes.Int i n) k f g t e = refl
recipe_same (recipes.Cap s) k f g t e = refl
recipe_same (recipes.Pointer x) k f g t e = ap types.Pointer (e x (ltb-true x k t))
recipe_same (recipes.Nullary x) k f g t e = ap (λ y. types.Function y types.no_types) (e x (ltb-true x k t))
recipe_same (recipes.Unary x y) k f g t e =
    let a = e x (ltb-true x k (both_first (nat_lt x k) (nat_lt y k) t)) in
    let b = e y (ltb-true y k (both_second (nat_lt x k) (nat_lt y k) t)) in
    cc

-- the first so many of the recipes' types have these numbers
pub record KnowsFirst (ts : List Ty) (ns : List ℕ) : Type 0 where
  pub types : (k : ℕ) → k < length ns → named ts (slice_index ns k) ≡ Some (type_at known k)

pub knows_none : (ts : List Ty) → KnowsFirst ts []
knows_none ts = record { types = λ k lt. absurd (omega arith) }

known_at : (r : Recipe) (i : ℕ) (f : ℕ → Ty) → slice_get RECIPES i ≡ Some r →
    ((j : ℕ) → j < i → f j ≡ type_at known j) → recipe_type r f ≡ type_at known i
known_at r i f e h =
    let d = forest_reads recipe_type types.Void RECIPES i r e in
    let z : 0 + i ≡ i = omega arith in
    recipe_same r i f (λ j. get_or d.seen j types.Void) (rw z at (refers_at 0 RECIPES i r recipes_refer e))
    (λ j lt. h j lt ∙ sym (d.before j lt)) ∙ sym d.is

pub knows_more : (p q : Typed) (ns : List ℕ) (r : Recipe) (c : CType) (k i : ℕ) → i ≡ length ns →
    slice_get RECIPES i ≡ Some r → AddsTypes p q → IsNumberOf p q k c →
    ((go : ℕ → Ty) → type_from c go ≡ recipe_type r (λ j. go (slice_index ns j))) → KnowsFirst (types_of p.types) ns →
    KnowsFirst (types_of q.types) (ns ++ k ∷ [])
knows_more p q ns r c k i l e a n m h = record { types = at }
  where
    more : (more : List Ty) × (types_of q.types ≡ types_of p.types ++ more)
    more = let x = types_longer p.types a.added in (x.0, ap types_of a.types ∙ x.1)

    now : type_at (types_of q.types) k ≡ type_at known i
    now = n.is ∙ m (type_at (types_of p.types))
        ∙ known_at r i (λ j. type_at (types_of p.types) (slice_index ns j)) e
        (λ j lt. get_or_from_slice_get (types_of p.types) (slice_index ns j) (type_at known j) types.Void
        (h.types j (omega arith)))

    before : (j : ℕ) → j < length ns → named (types_of q.types) (slice_index ns j) ≡ Some (type_at known j)
    before j lt = rw more.1 (slice_get-longer (types_of p.types) more.0 (slice_index ns j) (type_at known j)
        (h.types j lt))

    at : (j : ℕ) → j < length (ns ++ k ∷ []) →
        named (types_of q.types) (slice_index (ns ++ k ∷ []) j) ≡ Some (type_at known j)
    at j lt = by_place (cases_lt j (length ns))
      where
        by_place : (j < length ns) ⊎ (length ns ≤ j) →
            named (types_of q.types) (slice_index (ns ++ k ∷ []) j) ≡ Some (type_at known j)
        by_place (inl w) = rw (get_or-append ns (k ∷ []) 0 j w) (before j w)
        by_place (inr w) =
            let s : j ≡ length ns = omega (arith, length-append ns (k ∷ [])) in
            let there : k < length (types_of q.types) = omega (arith, n.there, length-types_of q.types) in
            rw (s, get_or-append_seam ns k [] 0) (slice_get-get_or (types_of q.types) k types.Void there
            ∙ ap (λ y. Some y) (now ∙ ap (type_at known) l))

-- ---- names

pub entity_is : (ts : List Ty) (ns : List ℕ) (k : Known) → KnowsTypes ts ns → refers_within k ≡ true →
    entity_kept ts (recipe_entity k ns) ≡ entity_seen (meaning k)
entity_is ts ns (knowns.Alias t) h w = ap alias (h.types t (omega (arith, ltb-true t 18 w, h.count)))
entity_is ts ns (knowns.Typed k t) h w =
    ap (λ o. library k (Some o)) (h.types t (omega (arith, ltb-true t 18 w, h.count)))
entity_is ts ns (knowns.Untyped k) h w = refl

within_at : (rs : List Row) (i : ℕ) (d : Row) → all_refer_within rs ≡ true → i < length rs →
    refers_within (get_or rs i d).1 ≡ true
within_at [] i d t lt = absurd (omega arith)
within_at (r ∷ rs) zero d t lt = both_first (refers_within r.1) (all_refer_within rs) t
within_at (r ∷ rs) (suc i) d t lt =
    within_at rs i d (both_second (refers_within r.1) (all_refer_within rs) t) (omega arith)

reversed_next : {X : Type 0} (xs : List X) (i : ℕ) (d : X) → i < length xs →
    reverse (take (i + 1) xs) ≡ get_or xs i d ∷ reverse (take i xs)
reversed_next xs i d lt = ap reverse (take_more xs i d lt) ∙ reverse-append (take i xs) (get_or xs i d ∷ [])

pub bind_row : (ts : List Ty) (ns : List ℕ) (rs : List Row) (i : ℕ) (d : Row) (c e : Scope) → i < length rs →
    KnowsTypes ts ns → all_refer_within rs ≡ true →
    ((n : List ℕ) → name_in e n ≡ (if bytes_eq (get_or rs i d).0.now n then Some (recipe_entity (get_or rs i d).1 ns)
    else name_in c n)) → ((n : List ℕ) → tag_in e n ≡ tag_in c n) → ShowsScope ts 0 c (names_scope (take i rs)) →
    ShowsScope ts 0 e (names_scope (take (i + 1) rs))
bind_row ts ns rs i d c e lt h all b t s =
    let r = get_or rs i d in
    let w = entity_is ts ns r.1 h (within_at rs i d all lt) in
    let x : map row_name (reverse (take (i + 1) rs)) ≡ row_name r ∷ map row_name (reverse (take i rs)) =
    ap (map row_name) (reversed_next rs i d lt) in
    subst (λ ms. ShowsScope ts 0 e (record { names = ms; tags = [] })) (sym x)
    (scope_bound ts 0 c e (names_scope (take i rs)) r.0.now (recipe_entity r.1 ns) (meaning r.1) b t w s)

pub all_bound : (ts : List Ty) (rs : List Row) (i : ℕ) (c : Scope) → length rs ≤ i →
    ShowsScope ts 0 c (names_scope (take i rs)) → ShowsScope ts 0 c (names_scope rs)
all_bound ts rs i c le s = subst (λ xs. ShowsScope ts 0 c (names_scope xs)) (take-all-le rs i le) s
  where
    take-all-le : (rs : List Row) (i : ℕ) → length rs ≤ i → take i rs ≡ rs
    take-all-le [] zero le = refl
    take-all-le [] (suc i) le = refl
    take-all-le (r ∷ rs) zero le = absurd (omega arith)
    take-all-le (r ∷ rs) (suc i) le = ap (λ x. r ∷ x) (take-all-le rs i (omega arith))

-- the names before a file
abbrev pub text_name : record { now : List ℕ } × Known → Named meant.Entity
text_name r = record { name = r.0.now; is = meaning r.1 }

pub rows_are : record { names = map text_name (reverse NAMES); tags = [] } ≡ file_scope
unfolding file_scope aliases services grow
rows_are = refl

int_is : type_at known 0 ≡ types.int
unfolding grow
int_is = refl

pub first_is_int : (ts : List Ty) (ns : List ℕ) → KnowsTypes ts ns → named ts (slice_index ns 0) ≡ Some types.int
first_is_int ts ns h = h.types 0 (omega (arith, h.count)) ∙ ap (λ x. Some x) int_is

-- no struct or union is among the types that are added first
pub none_tagged : (p q : Typed) → p.types ≡ [] → AddsTypes p q → AreTagged (types_of q.types) []
unfolding grow
none_tagged p q e a =
    let l = types_longer [] a.added in
    let t : q.types ≡ a.added = a.types ∙ ap (λ cs. cs ++ a.added) e in
    rw (t, l.1) (added_tagged [] a.added l.0 [] l.1 a.plain (λ k n f. absurd (none-some (types.Tagged n) f)))

pub stands_beginning : (sc : Scopes) (p : Typed) (c : Scope) → sc.scopes.items ≡ c ∷ [] → sc.tags.items ≡ [] →
    sc.named.entries ≡ [] →
    sc.objects.items ≡ [] → sc.begun.items ≡ [] → sc.linked.entries ≡ [] → sc.locals.items ≡ [] → p.globals ≡ [] →
    p.funs ≡ [] → ShowsScope (types_of p.types) 0 c file_scope → named (types_of p.types) sc.int ≡ Some types.int →
    AreTagged (types_of p.types) [] → Stands sc p beginning
stands_beginning sc p c s t m o b l f g u h i are = record {
  scopes = rw (t, s) (h, tt);
  tags = rw t refl;
  tag_types = λ n x e. absurd (none-some x (rw t at e));
  kinds = λ n x e. absurd (none-some x (rw t at e));
  tagged = rw t are;
  members = rw m (record {
    numbers = λ n name. refl;
    offsets = λ f n k z e. absurd (none-some z e);
    sizes = λ n u e. absurd (none-some u e);
    few = omega arith;
  });
  objects = rw o refl;
  globals = rw g refl;
  begun = rw b refl;
  routines = rw u refl;
  locals = rw f refl;
  int = i;
  linked = λ n. rw l refl;
}
