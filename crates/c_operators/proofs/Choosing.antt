-- The conditional operator.
use Rattle.std.proofs.Common.{◌≡◌, ℕ, ◌<◌, Bool, true, false, Option, Some, None, refl, sym, ap, subst, ◌∙◌}
use Rattle.std.specs.Prelude.{◌&&◌, ◌||◌, if◌then◌else◌}
use Rattle.ck_base.specs.declared.positions.Pos.{Pos}
use Rattle.c_tree.specs.Types.{Ty, Void, Pointer, is_integer, is_void, is_tagged, is_pointer, is_scalar, is_const}
use Rattle.c_tree.specs.Types.{target_of, same, common, qualified, bare, bare_elements, compatible_bare, composite}
use Rattle.c_tree.specs.Constants.{is_null_constant}
use Rattle.c_tree.specs.Scopes.{State, Doing, need, some_or, ◌>>=◌, ◌>>◌}
use Rattle.c_tree.specs.Conversions as meant
use Rattle.c_tree.specs.Conversions.{operand_type}
use Rattle.c_tree.specs.Expressions.{with_const_of, pointer_arms, arms_type, conditional}
use Rattle.c_operators.specs.declared.choices.Arms.{Arms}
use Rattle.c_operators.specs.declared.choices.Arms.TheVariants as arms
use Rattle.c_expressions.specs.declared.nodes.Nodes.{Nodes}
use Rattle.c_expressions.specs.Answers.{Refuses}
use Rattle.c_expressions.specs.Nodes.{IsWhole, Keeps, HasType, IsType, IsMaybeType, HasMaybe, operand_in, type_in}
use Rattle.c_expressions.specs.Nodes.{type_count}
use Rattle.c_expressions.specs.Nodes.{term_count}
use Rattle.c_operators.specs.Choices.{arms_where, arms_as, target_arms, conditional_with}
use Rattle.c_expressions.specs.declared.nodes.Operand.{Operand}
use Rattle.c_expressions.proofs.Keeping.{keeps_then, type_kept, has_type_then, operand_kept}
use Rattle.c_operators.proofs.Comparing.{first_of, second_of}

-- ---- a type or none

pub maybe_none : (n : Nodes) (t : Option Ty) → IsMaybeType n None t → t ≡ None
maybe_none n None h = refl
maybe_none n (Some t) h = absurd h

pub record IsFound (n : Nodes) (k : ℕ) (t : Option Ty) : Type 0 where
  pub found : Ty
  pub is : t ≡ Some found
  pub type : IsType n k found

pub maybe_some : (n : Nodes) (k : ℕ) (t : Option Ty) → IsMaybeType n (Some k) t → IsFound n k t
maybe_some n k None h = absurd h
maybe_some n k (Some u) h = record { found = u; is = refl; type = h }

pub maybe_has : (n m : Nodes) (k : ℕ) (t : Ty) (o : Option Ty) → HasType n m k t → o ≡ Some t → HasMaybe n m (Some k) o
maybe_has n m k t o h e = record { keeps = h.keeps; is = subst (λ x. IsMaybeType m (Some k) x) (sym e) h.is }

pub maybe_nothing : (n m : Nodes) (o : Option Ty) → Keeps n m → o ≡ None → HasMaybe n m None o
maybe_nothing n m o k e = record { keeps = k; is = subst (λ x. IsMaybeType m None x) (sym e) tt }

pub maybe_is : (n m : Nodes) (k : Option ℕ) (t u : Option Ty) → HasMaybe n m k t → u ≡ t → HasMaybe n m k u
maybe_is n m k t u h e = record { keeps = h.keeps; is = subst (λ x. IsMaybeType m k x) (sym e) h.is }

-- ---- pointers

pub const_of : (s t u : Ty) (b : Bool) → (is_const s || is_const t) ≡ b → b ≡ true → with_const_of s t u ≡ qualified u
const_of s t u b e d = rw (e ∙ d) refl

pub const_of-plain : (s t u : Ty) (b : Bool) → (is_const s || is_const t) ≡ b → b ≡ false → with_const_of s t u ≡ u
const_of-plain s t u b e d = rw (e ∙ d) refl

pub arms_left : (s t : Ty) → target_of s ≡ None → pointer_arms s t ≡ None
arms_left (Pointer a) t e = absurd cc
arms_left _ t e = refl

pub arms_right : (s t : Ty) → target_of t ≡ None → pointer_arms s t ≡ None
arms_right (Pointer a) (Pointer b) e = absurd cc
arms_right (Pointer a) _ e = refl
arms_right _ t e = refl

pub composite_pointer_is : (n m l k o : Nodes) (s t a b of node : ℕ) → s < type_count n → t < type_count n →
    HasType n m a (bare_elements (type_in n s)) → HasType m l b (bare_elements (type_in m t)) →
    HasType l k of (composite (type_in l a) (type_in l b)) →
    HasType k o node (Pointer (with_const_of (type_in k s) (type_in k t) (type_in k of))) →
    HasType n o node (Pointer (with_const_of (type_in n s) (type_in n t)
    (composite (bare_elements (type_in n s)) (bare_elements (type_in n t)))))
composite_pointer_is n m l k o s t a b of node ls lt ha hb hc hp =
    let nl = keeps_then n m l ha.keeps hb.keeps in
    let nk = keeps_then n l k nl hc.keeps in
    let ea : type_in l a ≡ bare_elements (type_in n s) = (type_kept m l a _ hb.keeps ha.is).is in
    let eb : type_in l b ≡ bare_elements (type_in n t) = hb.is.is ∙ ap bare_elements (ha.keeps.types t lt) in
    let ec : type_in k of ≡ composite (bare_elements (type_in n s)) (bare_elements (type_in n t)) =
    hc.is.is ∙ ap (λ u. composite u (type_in l b)) ea ∙ ap (composite (bare_elements (type_in n s))) eb in
    has_type_then n k o node _ _ nk hp
    (ap (λ u. Pointer (with_const_of u (type_in k t) (type_in k of))) (nk.types s ls)
    ∙ ap (λ u. Pointer (with_const_of (type_in n s) u (type_in k of))) (nk.types t lt)
    ∙ ap (λ u. Pointer (with_const_of (type_in n s) (type_in n t) u)) ec)

abbrev pub composite_of : Ty → Ty → Ty
composite_of s t = Pointer (with_const_of s t (composite (bare_elements s) (bare_elements t)))

abbrev pub void_of : Ty → Ty → Ty
void_of s t = Pointer (with_const_of s t Void)

-- a type that is made of two that were kept
kept_two : (f : Ty → Ty → Ty) (n m l : Nodes) (s t node : ℕ) → s < type_count n → t < type_count n → Keeps n m →
    HasType m l node (f (type_in m s) (type_in m t)) → HasType n l node (f (type_in n s) (type_in n t))
kept_two f n m l s t node ls lt k h =
    has_type_then n m l node _ _ k h (ap (λ u. f u (type_in m t)) (k.types s ls) ∙ ap (f (type_in n s)) (k.types t lt))

pub target_composite : (n m l : Nodes) (s t node : ℕ) → s < type_count n → t < type_count n → Keeps n m →
    compatible_bare (type_in n s) (type_in n t) ≡ true → HasType m l node (composite_of (type_in m s) (type_in m t)) →
    HasMaybe n l (Some node) (target_arms (type_in n s) (type_in n t))
target_composite n m l s t node ls lt k e h =
    maybe_has n l node (composite_of (type_in n s) (type_in n t)) _ (kept_two composite_of n m l s t node ls lt k h)
    (first_of (compatible_bare (type_in n s) (type_in n t)) _ _ e)

pub target_void : (n m l : Nodes) (s t node : ℕ) → s < type_count n → t < type_count n → Keeps n m →
    compatible_bare (type_in n s) (type_in n t) ≡ false →
    (is_void (bare (type_in n s)) || is_void (bare (type_in n t))) ≡ true →
    HasType m l node (void_of (type_in m s) (type_in m t)) →
    HasMaybe n l (Some node) (target_arms (type_in n s) (type_in n t))
target_void n m l s t node ls lt k e d h =
    maybe_has n l node (void_of (type_in n s) (type_in n t)) _ (kept_two void_of n m l s t node ls lt k h)
    (second_of (compatible_bare (type_in n s) (type_in n t)) _ _ e
    ∙ first_of (is_void (bare (type_in n s)) || is_void (bare (type_in n t))) _ _ d)

pub target_none : (n m : Nodes) (s t : ℕ) → Keeps n m → compatible_bare (type_in n s) (type_in n t) ≡ false →
    (is_void (bare (type_in n s)) || is_void (bare (type_in n t))) ≡ false →
    HasMaybe n m None (target_arms (type_in n s) (type_in n t))
target_none n m s t k e d =
    maybe_nothing n m _ k (second_of (compatible_bare (type_in n s) (type_in n t)) _ _ e
    ∙ second_of (is_void (bare (type_in n s)) || is_void (bare (type_in n t))) _ _ d)

-- ---- all types

voids : (s t : Ty) → (is_void s && is_void t) ≡ true → s ≡ Void
voids Void t e = refl
voids _ t e = absurd cc

falls : (i v g l r : Bool) (s t : Ty) → (v ≡ true → s ≡ Void) →
    (if i then Some (common s t)
    else (if v then Some Void
    else (if g then Some s else (if l then Some s else (if r then Some t else pointer_arms s t)))))
    ≡ arms_as (if i then arms.Common
    else (if v then arms.Second
    else (if g then arms.Second else (if l then arms.Second else (if r then arms.Third else arms.Pointers))))) s
    t
falls true v g l r s t h = refl
falls false true g l r s t h = ap (λ u. Some u) (sym (h refl))
falls false false true l r s t h = refl
falls false false false true r s t h = refl
falls false false false false true s t h = refl
falls false false false false false s t h = refl

pub arms_type-as : (b c : meant.Operand) →
    arms_type b c ≡ arms_as (arms_where (is_tagged (operand_type b) && same (operand_type b) (operand_type c))
    (operand_type b) (operand_type c) (is_null_constant b.is) (is_null_constant c.is)) (operand_type b)
    (operand_type c)
arms_type-as b c =
    let s = operand_type b in
    let t = operand_type c in
    falls (is_integer s && is_integer t) (is_void s && is_void t) (is_tagged s && same s t)
    (is_pointer s && is_null_constant c.is) (is_pointer t && is_null_constant b.is) s t (voids s t)

pub arms_type-found : (b c : meant.Operand) (s t : Ty) (g : Bool) (how : Arms) → s ≡ operand_type b →
    t ≡ operand_type c → (is_tagged s && same s t) ≡ g →
    arms_where g s t (is_null_constant b.is) (is_null_constant c.is) ≡ how →
    arms_type b c ≡ arms_as how s t
arms_type-found b c s t g how es et eg eh =
    let nb = is_null_constant b.is in
    let nc = is_null_constant c.is in
    arms_type-as b c
    ∙ ap (λ u. arms_as (arms_where (is_tagged u && same u (operand_type c)) u (operand_type c) nb nc) u
    (operand_type c)) (sym es)
    ∙ ap (λ u. arms_as (arms_where (is_tagged s && same s u) s u nb nc) s u) (sym et)
    ∙ ap (λ x. arms_as (arms_where x s t nb nc) s t) eg ∙ ap (λ x. arms_as x s t) eh

-- ---- the operator

no_type : {A B : Type 0} (b : Bool) (o : Option A) (code : ℕ) (p : Pos) (f : A → Doing B) → o ≡ None →
    Refuses (need b code p >> some_or o code p >>= f) code p
no_type true o code p f e s = ap (λ x. (need true code p >> some_or x code p >>= f) s) e
no_type false o code p f e s = refl

one_type : {A B : Type 0} (b : Bool) (o : Option A) (v : A) (code : ℕ) (p : Pos) (f : A → Doing B) → o ≡ Some v →
    (need b code p >> some_or o code p >>= f) ≡ (need b code p >> f v)
one_type true o v code p f e = ap (λ x. (need true code p >> some_or x code p >>= f)) e
one_type false o v code p f e = ap (λ x. (need false code p >> some_or x code p >>= f)) e

pub conditional_none : (a b c : meant.Operand) (p : Pos) → arms_type b c ≡ None →
    Refuses (conditional a b c p) 133 a.first
conditional_none a b c p e = no_type (is_scalar (operand_type a)) (arms_type b c) 133 a.first _ e

pub conditional_some : (a b c : meant.Operand) (p : Pos) (t : Ty) → arms_type b c ≡ Some t →
    conditional a b c p ≡ conditional_with t a b c p
conditional_some a b c p t e = one_type (is_scalar (operand_type a)) (arms_type b c) t 133 a.first _ e

pub conditional_is : (n m : Nodes) (a b c : Operand) (p : Pos) (of : ℕ) → Keeps n m → a.node < term_count n →
    b.node < term_count n → c.node < term_count n → IsFound m of (arms_type (operand_in n b) (operand_in n c)) →
    conditional (operand_in n a) (operand_in n b) (operand_in n c) p
    ≡ conditional_with (type_in m of) (operand_in m a) (operand_in m b) (operand_in m c) p
conditional_is n m a b c p of k la lb lc f =
    conditional_some (operand_in n a) (operand_in n b) (operand_in n c) p f.found f.is
    ∙ ap (λ t. conditional_with t (operand_in n a) (operand_in n b) (operand_in n c) p) (sym f.type.is)
    ∙ ap (λ x. conditional_with (type_in m of) x (operand_in n b) (operand_in n c) p) (sym (operand_kept n m a k la))
    ∙ ap (λ x. conditional_with (type_in m of) (operand_in m a) x (operand_in n c) p) (sym (operand_kept n m b k lb))
    ∙ ap (λ x. conditional_with (type_in m of) (operand_in m a) (operand_in m b) x p) (sym (operand_kept n m c k lc))
