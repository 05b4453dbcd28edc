-- The types of the program that is run, as they are added.
use Rattle.std.proofs.Common.{◌≡◌, ℕ, zero, suc, ◌+◌, ◌<◌, ◌≤◌, Bool, true, false, List, [], ◌∷◌, ◌++◌, length, take}
use Rattle.std.proofs.Common.{drop, get_or, map, Some, None, refl, sym, ap, subst, ◌∙◌, ◌⊎◌, inl, inr, ⊎_elim, arith}
use Rattle.std.proofs.Common.{length-append, append_assoc}
use Rattle.std.specs.Prelude.{slice_get, slice_index_or, Result, Ok, Err, IfOk}
use Rattle.ck_base.specs.declared.refusal.NoMemory.{NoMemory}
use Rattle.std.proofs.lemmas.List.{append-nil, map-append, length-take-le, take-append-drop, take_more, get_or_past}
use Rattle.std.proofs.lemmas.Option.{slice_get_within}
use Rattle.ck_int.specs.declared.kinds.IntKind.{IntKind}
use Rattle.c_tree.specs.declared.typed.CType.{CType}
use Rattle.c_tree.specs.declared.typed.CType.TheVariants as ctypes
use Rattle.c_tree.specs.declared.typed.Member.{Member}
use Rattle.c_tree.specs.Types.{Ty, Void, Int, Cap, Pointer, Array, Tagged, Function, Const, Tys, also, bare}
use Rattle.c_tree.specs.Types.{is_tagged}
use Rattle.c_tree.specs.Views.{grow, type_from, type_at, types_of, tys, member_of}
use Rattle.c_tree.specs.Passed.{by_pointer, passed, all_passed, passed_member, result_types}
use Rattle.c_copy.proofs.Copies.{grow-append}
use Rattle.c_copy.specs.Copying.{AllBelow}
use Rattle.c_copy.proofs.Items.{get-push}
use Rattle.c_copy.proofs.Order.{below_push}
use Rattle.passing_steps.specs.Types.{Types}
use Rattle.c_passing.specs.Numbered.{gives_of, IsGivenIn, IsNumber, IsPointer, StartsVoid, IsKept, IsBehind, Follows}
use Rattle.c_passing.specs.Numbered.{AddsType, Keeps, passed_parameter, AreParameters, AreRenumbered, IsWithMembers}
use Rattle.c_passing.specs.Numbered.{AreListed}
use Rattle.passing_steps.specs.Numbered.{type_in, TypesFit}
use Rattle.passing_steps.proofs.Tagging.{type_seam, type_kept, type_level, type_past, tagged_goes, tagged_bare}

-- ---- lists of types

get-append : {A : Type 0} (xs ys : List A) (k : ℕ) (x : A) → slice_get (xs ++ ys) k ≡ Some x →
    (slice_get xs k ≡ Some x) ⊎ ((j : ℕ) × (slice_get ys j ≡ Some x) × (k ≡ length xs + j))
get-append [] ys k x e = inr (k, e, omega arith)
get-append (z ∷ xs) ys zero x e = inl e
get-append (z ∷ xs) ys (suc k) x e =
    ⊎_elim (λ h. inl h) (λ h. inr (h.0, h.1, let q : k ≡ length xs + h.0 = h.2 in omega arith))
    (get-append xs ys k x e)

-- ---- what functions give

gives_is : (c : CType) (t : ℕ) → gives_of c ≡ Some t → (ps : List ℕ) × (c ≡ ctypes.Function t ps)
gives_is (ctypes.Function p ps) t e = let q : p ≡ t = cc in (ps, ap (λ n. ctypes.Function n ps) q)
gives_is ctypes.Void t e = absurd cc
gives_is (ctypes.Int k n) t e = absurd cc
gives_is (ctypes.Cap s) t e = absurd cc
gives_is (ctypes.Pointer p) t e = absurd cc
gives_is (ctypes.Array p n) t e = absurd cc
gives_is (ctypes.Struct tag ms) t e = absurd cc
gives_is (ctypes.Union tag ms) t e = absurd cc
gives_is (ctypes.Const p) t e = absurd cc
gives_is (ctypes.Incomplete tag) t e = absurd cc

gives_level : (types : List CType) (k : ℕ) (c : CType) (t : ℕ) → slice_get types k ≡ Some c → gives_of c ≡ Some t →
    (ps : Tys) × (type_in types k ≡ Function (type_in (take k types) t) ps)
gives_level types k c t e g =
    let r = gives_is c t g in (
      tys (map (type_in (take k types)) r.0),
      type_level types k c e
          ∙ ap (λ d. type_from d (type_in (take k types))) r.1,
    )

no_function : (c : CType) (go : ℕ → Ty) → gives_of c ≡ None → result_types (type_from c go) ≡ []
no_function (ctypes.Function p ps) go e = absurd cc
no_function ctypes.Void go e = refl
no_function (ctypes.Int k n) go e = refl
no_function (ctypes.Cap s) go e = refl
no_function (ctypes.Pointer p) go e = refl
no_function (ctypes.Array p n) go e = refl
no_function (ctypes.Struct tag ms) go e = refl
no_function (ctypes.Union tag ms) go e = refl
no_function (ctypes.Const p) go e = refl
no_function (ctypes.Incomplete tag) go e = refl

pub given_past : (types : List CType) (k : ℕ) → length types ≤ k → IsGivenIn types k None
given_past types k le = ap result_types (type_past types k le)

pub given_none : (types : List CType) (k : ℕ) (c : CType) → slice_get types k ≡ Some c → gives_of c ≡ None →
    IsGivenIn types k None
given_none types k c e g = ap result_types (type_level types k c e) ∙ no_function c (type_in (take k types)) g

plain_result : (r : Ty) (ps : Tys) → by_pointer r ≡ false → result_types (Function r ps) ≡ []
plain_result r ps e = rw e refl

pointed_result : (r : Ty) (ps : Tys) → by_pointer r ≡ true → result_types (Function r ps) ≡ Pointer (bare r) ∷ []
pointed_result r ps e = rw e refl

-- what it gives stands before it
given_level : (types : List CType) (k : ℕ) (c : CType) (t : ℕ) → slice_get types k ≡ Some c → gives_of c ≡ Some t →
    t < k → (ps : Tys) × (type_in types k ≡ Function (type_in types t) ps)
given_level types k c t e g lt =
    let r = gives_level types k c t e g in
    let within = slice_get_within types k c e in
    let l : length (take k types) ≡ k = length-take-le k types (omega arith) in
    let seen : type_in types t ≡ type_in (take k types) t =
    ap (λ ds. type_in ds t) (sym (take-append-drop k types))
    ∙ type_kept (take k types) (drop k types) t (omega arith) in
    (r.0, r.1 ∙ ap (λ x. Function x r.0) (sym seen))

pub given_plainly : (types : List CType) (k : ℕ) (c : CType) (t : ℕ) → slice_get types k ≡ Some c →
    gives_of c ≡ Some t → t < k → by_pointer (type_in types t) ≡ false → IsGivenIn types k None
given_plainly types k c t e g lt b =
    let r = given_level types k c t e g lt in ap result_types r.1 ∙ plain_result (type_in types t) r.0 b

pub given_pointed : (types : List CType) (k : ℕ) (c : CType) (t : ℕ) → slice_get types k ≡ Some c →
    gives_of c ≡ Some t → t < k → by_pointer (type_in types t) ≡ true → IsGivenIn types k (Some t)
given_pointed types k c t e g lt b =
    let r = given_level types k c t e g lt in (ap result_types r.1 ∙ pointed_result (type_in types t) r.0 b, b)

-- a number that names no earlier type
pub given_loose : (types : List CType) (k : ℕ) (c : CType) (t : ℕ) → slice_get types k ≡ Some c → gives_of c ≡ Some t →
    k ≤ t → IsGivenIn types k None
given_loose types k c t e g le =
    let r = gives_level types k c t e g in
    let within = slice_get_within types k c e in
    let l : length (take k types) ≡ k = length-take-le k types (omega arith) in
    ap result_types (r.1 ∙ ap (λ x. Function x r.0) (type_past (take k types) t (omega arith)))

-- ---- types that go by pointers

pub tagged_pointer : (t : Ty) → is_tagged t ≡ true → Pointer (bare t) ≡ passed (Pointer t)
tagged_pointer (Tagged n) e = refl
tagged_pointer Void e = absurd cc
tagged_pointer (Int k n) e = absurd cc
tagged_pointer (Cap s) e = absurd cc
tagged_pointer (Pointer t) e = absurd cc
tagged_pointer (Array t n) e = absurd cc
tagged_pointer (Function r ps) e = absurd cc
tagged_pointer (Const t) e = absurd cc

-- ---- one type more

get_front : {A : Type 0} (xs ys : List A) (k : ℕ) (x : A) → slice_get xs k ≡ Some x → slice_get (xs ++ ys) k ≡ Some x
get_front [] ys k x e = absurd cc
get_front (z ∷ xs) ys zero x e = e
get_front (z ∷ xs) ys (suc k) x e = get_front xs ys k x e

get_seam : {A : Type 0} (xs : List A) (x : A) → slice_get (xs ++ x ∷ []) (length xs) ≡ Some x
get_seam [] x = refl
get_seam (z ∷ xs) x = get_seam xs x

kept_more : (types more : List CType) (c : CType) → IsKept types c → IsKept (types ++ more) c
kept_more types more (ctypes.Struct tag ms) h = (h.0, get_front types more h.0 (ctypes.Struct tag ms) h.1)
kept_more types more (ctypes.Union tag ms) h = (h.0, get_front types more h.0 (ctypes.Union tag ms) h.1)
kept_more types more (ctypes.Incomplete tag) h = (h.0, get_front types more h.0 (ctypes.Incomplete tag) h.1)
kept_more types more _ h = tt

number_more : (types list new cs : List CType) (c : CType) (k n : ℕ) → k < length types → new ≡ list ++ cs →
    IsNumber types list k n → IsNumber (types ++ c ∷ []) new k n
number_more types list new cs c k n lt e h =
    rw e (record {
      there = let l = h.there in
          omega (arith, length-append list cs);
      is = type_kept list cs n h.there ∙ h.is ∙ ap passed (sym (type_kept types (c ∷ []) k lt));
    })

pointer_more : (types list new cs : List CType) (c : CType) (k n : ℕ) → k < length types → new ≡ list ++ cs →
    IsPointer types list k n → IsPointer (types ++ c ∷ []) new k n
pointer_more types list new cs c k n lt e h =
    let same = type_kept types (c ∷ []) k lt in
    rw e (record {
      there = let l = h.there in
          omega (arith, length-append list cs);
      is = λ b. type_kept list cs n h.there ∙ h.is (ap by_pointer (sym same) ∙ b)
          ∙ ap (λ t. Pointer (bare t)) (sym same);
    })

void_more : (list new cs : List CType) → new ≡ list ++ cs → StartsVoid list → StartsVoid new
void_more list new cs e h =
    rw e (record {
      there = let l = h.there in
          omega (arith, length-append list cs);
      is = type_kept list cs 0 h.there ∙ h.is;
    })

-- `void` stands for it, and it goes by no pointer
void_number : (types list : List CType) (k : ℕ) → type_in types k ≡ Void → StartsVoid list → IsNumber types list k 0
void_number types list k e v = record { there = v.there; is = v.is ∙ ap passed (sym e) }

no_pointer : (types list : List CType) (k n : ℕ) (t : Ty) → type_in types k ≡ t → by_pointer t ≡ false →
    n < length list → IsPointer types list k n
no_pointer types list k n t e b lt = record {
  there = lt;
  is = λ g. absurd (let q : by_pointer t ≡ true = ap by_pointer (sym e) ∙ g in cc);
}

past_more : (types : List CType) (c : CType) (k : ℕ) → length types < k → type_in (types ++ c ∷ []) k ≡ Void
past_more types c k lt = type_past (types ++ c ∷ []) k (omega (arith, length-append types (c ∷ [])))

pushed_count : (xs ys : List ℕ) (n : ℕ) (types : List CType) (c : CType) → ys ≡ xs ++ n ∷ [] →
    length xs ≡ length types → length ys ≡ length (types ++ c ∷ [])
pushed_count xs ys n types c e l =
    rw e (omega (arith, length-append xs (n ∷ []), length-append types (c ∷ [])))

-- a number of a list to which one was added
number_split : (xs : List ℕ) (n k m : ℕ) → get_or (xs ++ n ∷ []) k 0 ≡ m →
    ((k < length xs) × (get_or xs k 0 ≡ m)) ⊎ (((k ≡ length xs) × (n ≡ m)) ⊎ ((length xs < k) × (0 ≡ m)))
number_split [] n zero m e = inr (inl (refl, e))
number_split [] n (suc k) m e = inr (inr (omega arith, sym (get_or_past [] k 0 (omega arith)) ∙ e))
number_split (x ∷ xs) n zero m e = inl (omega arith, e)
number_split (x ∷ xs) n (suc k) m e =
    ⊎_elim (λ a. inl (let l : k < length xs = a.0 in omega arith, a.1))
    (λ b. inr (⊎_elim (λ a. inl (let q : k ≡ length xs = a.0 in omega arith, a.1))
    (λ a. inr (let l : length xs < k = a.0 in omega arith, a.1)) b))
    (number_split xs n k m e)

-- what holds of each number so far, of the one behind them and of 0 holds of all
each_number : (P : ℕ → ℕ → Type 0) (xs ys : List ℕ) (n i : ℕ) → ys ≡ xs ++ n ∷ [] → length xs ≡ i →
    ((k m : ℕ) → k < i → get_or xs k 0 ≡ m → P k m) → P i n → ((k : ℕ) → i < k → P k 0) → (k m : ℕ) →
    get_or ys k 0 ≡ m → P k m
each_number P xs ys n i e l h p q k m g =
    ⊎_elim (λ a. h k m (let z : k < length xs = a.0 in omega arith) a.1)
    (λ b. ⊎_elim (λ a. let z : k ≡ i = a.0 ∙ l in rw (z, ← a.1) p)
    (λ a. subst (P k) a.1 (q k (let z : length xs < k = a.0 in omega arith))) b)
    (number_split xs n k m (ap (λ zs. get_or zs k 0) (sym e) ∙ g))

pub follows_more : (types : List CType) (c : CType) (old new : Types) (cs : List CType) (n p : ℕ) → Follows types old →
    Keeps old new cs n p → IsNumber (types ++ c ∷ []) new.list.items (length types) n →
    IsPointer (types ++ c ∷ []) new.list.items (length types) p →
    ((k : ℕ) (d : CType) → slice_get cs k ≡ Some d → IsKept (types ++ c ∷ []) d) →
    ((k m : ℕ) (d : CType) → slice_get cs k ≡ Some d → m ≡ length old.list.items + k → IsBehind m d) →
    Follows (types ++ c ∷ []) new
follows_more types c old new cs n p f k a b h i =
    let list = old.list.items in
    let now = new.list.items in
    let void = void_more list now cs k.list f.void in
    record {
      void = void;
      number_count = pushed_count old.numbers.items new.numbers.items n types c k.numbers f.number_count;
      pointer_count = pushed_count old.pointers.items new.pointers.items p types c k.pointers f.pointer_count;
      numbers =
          each_number (IsNumber (types ++ c ∷ []) now) old.numbers.items new.numbers.items n (length types) k.numbers
          f.number_count (λ j m lt e. number_more types list now cs c j m lt k.list (f.numbers j m e)) a
          (λ j lt. void_number (types ++ c ∷ []) now j (past_more types c j lt) void);
      pointers =
          each_number (IsPointer (types ++ c ∷ []) now) old.pointers.items new.pointers.items p (length types)
          k.pointers f.pointer_count
          (λ j m lt e. pointer_more types list now cs c j m lt k.list (f.pointers j m e)) b
          (λ j lt. no_pointer (types ++ c ∷ []) now j 0 Void (past_more types c j lt) refl void.there);
      kept = λ j d e. ⊎_elim (λ g. kept_more types (c ∷ []) d (f.kept j d g)) (λ g. h g.0 d g.1)
          (get-append list cs j d (ap (λ zs. slice_get zs j) (sym k.list) ∙ e));
      behind = λ j d e. ⊎_elim (λ g. f.behind j d g) (λ g. i g.0 j d g.1 g.2)
          (get-append list cs j d (ap (λ zs. slice_get zs j) (sym k.list) ∙ e));
    }

none_kept : (types : List CType) (k : ℕ) (c : CType) → slice_get [] k ≡ Some c → IsKept types c
none_kept types k c e = absurd cc

one_kept : (types : List CType) (d : CType) → IsKept types d → (k : ℕ) (c : CType) → slice_get (d ∷ []) k ≡ Some c →
    IsKept types c
one_kept types d h zero c e = let q : d ≡ c = cc in subst (IsKept types) q h
one_kept types d h (suc k) c e = absurd cc

two_kept : (types : List CType) (d : CType) (n : ℕ) → IsKept types d → (k : ℕ) (c : CType) →
    slice_get (d ∷ ctypes.Pointer n ∷ []) k ≡ Some c → IsKept types c
two_kept types d n h zero c e = let q : d ≡ c = cc in subst (IsKept types) q h
two_kept types d n h (suc k) c e = one_kept types (ctypes.Pointer n) tt k c e

none_behind : (m k n : ℕ) (c : CType) → slice_get [] k ≡ Some c → n ≡ m + k → IsBehind n c
none_behind m k n c e q = absurd cc

one_behind : (m : ℕ) (d : CType) → IsBehind m d → (k n : ℕ) (c : CType) → slice_get (d ∷ []) k ≡ Some c → n ≡ m + k →
    IsBehind n c
one_behind m d h zero n c e q =
    let same : d ≡ c = cc in
    let here : m ≡ n = omega arith in
    subst (λ x. IsBehind x c) here (subst (IsBehind m) same h)
one_behind m d h (suc k) n c e q = absurd cc

two_behind : (m : ℕ) (d : CType) → IsBehind m d → (k n : ℕ) (c : CType) →
    slice_get (d ∷ ctypes.Pointer m ∷ []) k ≡ Some c → n ≡ m + k → IsBehind n c
two_behind m d h zero n c e q = one_behind m d h zero n c e q
two_behind m d h (suc k) n c e q =
    let lt : m < m + 1 = omega arith in one_behind (m + 1) (ctypes.Pointer m) lt k n c e (omega arith)

one_below : (n p : ℕ) → p < n → AllBelow n (p ∷ [])
one_below n p lt zero a q = let same : p ≡ a = cc in subst (λ x. x < n) same lt
one_below n p lt (suc j) a q = absurd cc

-- ---- what is kept in steps

pub kept_push : (a b d : Types) (c : CType) (n p : ℕ) → b.list.items ≡ a.list.items ++ c ∷ [] →
    b ≡ record a { list = b.list } → Keeps b d [] n p → Keeps a d (c ∷ []) n p
kept_push a b d c n p e q k = record {
  list = k.list ∙ append-nil b.list.items ∙ e;
  numbers = k.numbers ∙ ap (λ (t : Types). t.numbers.items ++ n ∷ []) q;
  pointers = k.pointers ∙ ap (λ (t : Types). t.pointers.items ++ p ∷ []) q;
}

pub kept_both : (a b d f : Types) (c e : CType) (n p : ℕ) → b.list.items ≡ a.list.items ++ c ∷ [] →
    b ≡ record a { list = b.list } → d.list.items ≡ b.list.items ++ e ∷ [] → d ≡ record b { list = d.list } →
    Keeps d f [] n p → Keeps a f (c ∷ e ∷ []) n p
kept_both a b d f c e n p g q h r k = record {
  list = k.list ∙ append-nil d.list.items ∙ h ∙ ap (λ zs. zs ++ e ∷ []) g ∙ append_assoc a.list.items (c ∷ []) (e ∷ []);
  numbers = k.numbers ∙ ap (λ (t : Types). t.numbers.items ++ n ∷ [])
      (r ∙ ap (λ (u : Types). record u { list = d.list }) q);
  pointers = k.pointers ∙ ap (λ (t : Types). t.pointers.items ++ p ∷ [])
      (r ∙ ap (λ (u : Types). record u { list = d.list }) q);
}

-- a new type, and the pointer to it
pub pointer_number : (a b d f : Types) (c : CType) (n p : ℕ) → b.list.items ≡ a.list.items ++ c ∷ [] →
    n ≡ length a.list.items → b ≡ record a { list = b.list } → d.list.items ≡ b.list.items ++ ctypes.Pointer n ∷ [] →
    p ≡ length b.list.items →
    d ≡ record b { list = d.list } → Keeps d f [] n p →
    Keeps a f (c ∷ ctypes.Pointer (length a.list.items) ∷ []) (length a.list.items) (length a.list.items + 1)
pointer_number a b d f c n p g i q h j r k =
    let m : length b.list.items ≡ length a.list.items + 1 =
    ap length g ∙ omega (arith, length-append a.list.items (c ∷ [])) in
    subst (λ z. Keeps a f (c ∷ ctypes.Pointer z ∷ []) z (length a.list.items + 1)) i
    (subst (λ z. Keeps a f (c ∷ ctypes.Pointer n ∷ []) n z) (j ∙ m)
    (kept_both a b d f c (ctypes.Pointer n) n p g q h r k))

pub if_ok : {V : Type 0} (r : Result V NoMemory) (P Q : V → Type 0) → ((v : V) → P v → Q v) → IfOk r P → IfOk r Q
if_ok (Ok v) P Q f h = f v h
if_ok (Err e) P Q f h = tt

-- a type that is no struct or union
pub plainly_follows : (types : List CType) (c : CType) (old new : Types) (d : CType) → Follows types old →
    Keeps old new (d ∷ []) (length old.list.items) (length old.list.items) →
    type_from d (type_in old.list.items) ≡ passed (type_from c (type_in types)) →
    by_pointer (type_from c (type_in types)) ≡ false → IsKept (types ++ c ∷ []) d →
    IsBehind (length old.list.items) d → Follows (types ++ c ∷ []) new
plainly_follows types c old new d f k is b h i =
    let list = old.list.items in
    let there : length list < length (list ++ d ∷ []) = omega (arith, length-append list (d ∷ [])) in
    let seam = type_seam types c [] in
    follows_more types c old new (d ∷ []) (length list) (length list) f k
    (rw (k.list) (record { there = there; is = type_seam list d [] ∙ is ∙ ap passed (sym seam) }))
    (rw (k.list) (no_pointer (types ++ c ∷ []) (list ++ d ∷ []) (length types) (length list)
    (type_from c (type_in types)) seam b there))
    (one_kept (types ++ c ∷ []) d h) (one_behind (length list) d i)

-- a struct or union
pub record_follows : (types : List CType) (c : CType) (old new : Types) (tag : ℕ) → Follows types old →
    Keeps old new (c ∷ ctypes.Pointer (length old.list.items) ∷ []) (length old.list.items)
    (length old.list.items + 1) →
    ((go : ℕ → Ty) → type_from c go ≡ Tagged tag) → IsKept (types ++ c ∷ []) c → ((m : ℕ) → IsBehind m c) →
    Follows (types ++ c ∷ []) new
record_follows types c old new tag f k is h i =
    let list = old.list.items in
    let n = length list in
    let p = ctypes.Pointer n in
    let e : type_in (types ++ c ∷ []) (length types) ≡ Tagged tag = type_seam types c [] ∙ is (type_in types) in
    let both : list ++ c ∷ p ∷ [] ≡ (list ++ c ∷ []) ++ p ∷ [] = sym (append_assoc list (c ∷ []) (p ∷ [])) in
    let m : length (list ++ c ∷ []) ≡ n + 1 = omega (arith, length-append list (c ∷ [])) in
    let l : length (list ++ c ∷ p ∷ []) ≡ n + 2 = omega (arith, length-append list (c ∷ p ∷ [])) in
    let first : type_in (list ++ c ∷ p ∷ []) n ≡ Tagged tag = type_seam list c (p ∷ []) ∙ is (type_in list) in
    let inner : type_in (list ++ c ∷ []) n ≡ Tagged tag = type_seam list c [] ∙ is (type_in list) in
    let second : type_in (list ++ c ∷ p ∷ []) (n + 1) ≡ Pointer (Tagged tag) =
    ap (λ zs. type_in zs (n + 1)) both ∙ ap (λ j. type_in ((list ++ c ∷ []) ++ p ∷ []) j) (sym m)
    ∙ type_seam (list ++ c ∷ []) p [] ∙ ap Pointer inner in
    follows_more types c old new (c ∷ p ∷ []) n (n + 1) f k
    (rw (k.list) (record { there = omega arith; is = first ∙ ap passed (sym e) }))
    (rw (k.list) (record { there = omega arith; is = λ g. second ∙ ap (λ t. Pointer (bare t)) (sym e) }))
    (two_kept (types ++ c ∷ []) c n h) (two_behind n c (i n))

same_list : (xs ys : List CType) → ys ≡ xs ++ [] → xs ≡ ys
same_list xs ys e = sym (e ∙ append-nil xs)

-- a type of which no new one is made
pub kept_follows : (types : List CType) (c : CType) (old new : Types) (n p : ℕ) → Follows types old →
    Keeps old new [] n p → IsNumber (types ++ c ∷ []) old.list.items (length types) n →
    IsPointer (types ++ c ∷ []) old.list.items (length types) p → Follows (types ++ c ∷ []) new
kept_follows types c old new n p f k a b =
    let same = same_list old.list.items new.list.items k.list in
    follows_more types c old new [] n p f k
    (subst (λ zs. IsNumber (types ++ c ∷ []) zs (length types) n) same a)
    (subst (λ zs. IsPointer (types ++ c ∷ []) zs (length types) p) same b) (none_kept (types ++ c ∷ []))
    (none_behind (length old.list.items))

-- ---- each kind of type

pub adds_void : (types : List CType) (old new : Types) → Keeps old new [] 0 0 → AddsType types old new ctypes.Void
adds_void types old new k = λ f.
    let seam = type_seam types ctypes.Void [] in
    kept_follows types ctypes.Void old new 0 0 f k
    (void_number (types ++ ctypes.Void ∷ []) old.list.items (length types) seam f.void)
    (no_pointer (types ++ ctypes.Void ∷ []) old.list.items (length types) 0 Void seam refl f.void.there)

pub adds_pointer : (types : List CType) (old new : Types) (t n : ℕ) → get_or old.numbers.items t 0 ≡ n →
    Keeps old new (ctypes.Pointer n ∷ []) (length old.list.items) (length old.list.items) →
    AddsType types old new (ctypes.Pointer t)
adds_pointer types old new t n g k = λ f.
    plainly_follows types (ctypes.Pointer t) old new (ctypes.Pointer n) f k (ap Pointer (f.numbers t n g).is) refl tt
    (f.numbers t n g).there

pub adds_tagged_pointer : (types : List CType) (old new : Types) (t n : ℕ) → get_or old.pointers.items t 0 ≡ n →
    is_tagged (type_in types t) ≡ true → Keeps old new [] n n → AddsType types old new (ctypes.Pointer t)
adds_tagged_pointer types old new t n g b k = λ f.
    let u = type_in types t in
    let seam = type_seam types (ctypes.Pointer t) [] in
    let p = f.pointers t n g in
    kept_follows types (ctypes.Pointer t) old new n n f k (record {
      there = p.there;
      is = p.is (tagged_goes u b) ∙ tagged_pointer u b
          ∙ ap passed (sym seam);
    })
    (no_pointer (types ++ ctypes.Pointer t ∷ []) old.list.items (length types) n (Pointer u) seam refl p.there)

pub adds_array : (types : List CType) (old new : Types) (t n m : ℕ) → get_or old.numbers.items t 0 ≡ n →
    Keeps old new (ctypes.Array n m ∷ []) (length old.list.items) (length old.list.items) →
    AddsType types old new (ctypes.Array t m)
adds_array types old new t n m g k = λ f.
    plainly_follows types (ctypes.Array t m) old new (ctypes.Array n m) f k
    (ap (λ x. Array x m) (f.numbers t n g).is) refl tt (f.numbers t n g).there

const_goes : (t s : Ty) → by_pointer (Const t) ≡ true → (by_pointer t ≡ true → s ≡ Pointer (bare t)) →
    s ≡ Pointer (bare (Const t))
const_goes t s e h = h (tagged_goes t e) ∙ ap Pointer (tagged_bare t e)

pub adds_const : (types : List CType) (old new : Types) (t n p : ℕ) → get_or old.numbers.items t 0 ≡ n →
    get_or old.pointers.items t 0 ≡ p → Keeps old new (ctypes.Const n ∷ []) (length old.list.items) p →
    AddsType types old new (ctypes.Const t)
adds_const types old new t n p g h k = λ f.
    let list = old.list.items in
    let d = ctypes.Const n in
    let is : type_in (types ++ ctypes.Const t ∷ []) (length types) ≡ Const (type_in types t) =
    type_seam types (ctypes.Const t) [] in
    let q = f.pointers t p h in
    let there : length list < length (list ++ d ∷ []) = omega (arith, length-append list (d ∷ [])) in
    let within : p < length (list ++ d ∷ []) = let l = q.there in omega (arith, length-append list (d ∷ [])) in
    follows_more types (ctypes.Const t) old new (d ∷ []) (length list) p f k
    (rw (k.list) (record {
      there = there;
      is = type_seam list d [] ∙ ap Const (f.numbers t n g).is
          ∙ ap passed (sym is);
    }))
    (rw (k.list) (record {
      there = within;
      is = λ b. type_kept list (d ∷ []) p q.there
          ∙ const_goes (type_in types t) (type_in list p) (ap by_pointer (sym is) ∙ b) q.is
          ∙ ap (λ x. Pointer (bare x)) (sym is);
    }))
    (one_kept (types ++ ctypes.Const t ∷ []) d tt) (one_behind (length list) d (f.numbers t n g).there)

-- ---- functions

pub tys_passed : (ts : List Ty) → tys (map passed_parameter ts) ≡ all_passed (tys ts)
tys_passed [] = refl
tys_passed (t ∷ ts) = ap (λ us. also (passed_parameter t) us) (tys_passed ts)

pub parameter_number : (types : List CType) (t : Types) (k n : ℕ) → get_or t.numbers.items k 0 ≡ n →
    by_pointer (type_in types k) ≡ false → AreParameters types t (k ∷ []) [] (n ∷ [])
parameter_number types t k n g b = record {
  are = λ f. ap (λ x. x ∷ []) ((f.numbers k n g).is ∙ sym (by (type_in types k) b));
  there = λ f h. one_below (length t.list.items) n (f.numbers k n g).there;
}
  where
    by : (u : Ty) → by_pointer u ≡ false → passed_parameter u ≡ passed u
    by u e = rw e refl

pub parameter_pointer : (types : List CType) (t : Types) (k n : ℕ) → get_or t.pointers.items k 0 ≡ n →
    by_pointer (type_in types k) ≡ true → AreParameters types t (k ∷ []) [] (n ∷ [])
parameter_pointer types t k n g b = record {
  are = λ f. ap (λ x. x ∷ []) ((f.pointers k n g).is b ∙ sym (by (type_in types k) b));
  there = λ f h. one_below (length t.list.items) n (f.pointers k n g).there;
}
  where
    by : (u : Ty) → by_pointer u ≡ true → passed_parameter u ≡ Pointer (bare u)
    by u e = rw e refl

pub no_parameters : (types : List CType) (t : Types) (ns : List ℕ) → AreParameters types t [] ns ns
no_parameters types t ns = record { are = λ f. sym (append-nil (map (type_in t.list.items) ns)); there = λ f h. h }

-- one parameter more
pub parameters_push : (types : List CType) (t : Types) (ks before now after : List ℕ) (k n : ℕ) →
    AreParameters types t ks before now → AreParameters types t (k ∷ []) [] (n ∷ []) → after ≡ now ++ n ∷ [] →
    AreParameters types t (ks ++ k ∷ []) before after
parameters_push types t ks before now after k n h i e = record {
  are = λ f.
      let go = type_in t.list.items in
      let old = map go before in
      let us = map passed_parameter (map (type_in types) ks) in
      ap (map go) e ∙ map-append go now (n ∷ []) ∙ ap (λ zs. zs ++ go n ∷ []) (h.are f)
      ∙ append_assoc old us (go n ∷ [])
      ∙ ap (λ zs. old ++ (us ++ zs)) (i.are f)
      ∙ ap (λ zs. old ++ zs) (sym (ap (map passed_parameter) (map-append (type_in types) ks (k ∷ []))
      ∙ map-append passed_parameter (map (type_in types) ks) (type_in types k ∷ [])));
  there = λ f b.
      let m = length t.list.items in
      below_push m m now after n (omega arith) (h.there f b) (i.there f (λ j a q. absurd cc) 0 n refl) e;
}

passed_plainly : (r : Ty) (ps : Tys) → by_pointer r ≡ false →
    passed (Function r ps) ≡ Function (passed r) (all_passed ps)
passed_plainly r ps e = rw e refl

passed_by_pointer : (r : Ty) (ps : Tys) → by_pointer r ≡ true →
    passed (Function r ps) ≡ Function Void (also (Pointer (bare r)) (all_passed ps))
passed_by_pointer r ps e = rw e refl

pub adds_function : (types : List CType) (old new : Types) (gives of : ℕ) (ts after : List ℕ) →
    get_or old.numbers.items gives 0 ≡ of → by_pointer (type_in types gives) ≡ false →
    AreParameters types old ts [] after →
    Keeps old new (ctypes.Function of after ∷ []) (length old.list.items) (length old.list.items) →
    AddsType types old new (ctypes.Function gives ts)
adds_function types old new gives of ts after g b h k = λ f.
    let go = type_in old.list.items in
    let us = map (type_in types) ts in
    plainly_follows types (ctypes.Function gives ts) old new (ctypes.Function of after) f k
    (ap (λ x. Function x (tys (map go after))) (f.numbers gives of g).is
    ∙ ap (λ zs. Function (passed (type_in types gives)) (tys zs)) (h.are f)
    ∙ ap (Function (passed (type_in types gives))) (tys_passed us)
    ∙ sym (passed_plainly (type_in types gives) (tys us) b))
    refl tt ((f.numbers gives of g).there, h.there f (λ j a q. absurd cc))

pub adds_result : (types : List CType) (old new : Types) (gives p : ℕ) (ts after : List ℕ) →
    get_or old.pointers.items gives 0 ≡ p → by_pointer (type_in types gives) ≡ true →
    AreParameters types old ts (p ∷ []) after →
    Keeps old new (ctypes.Function 0 after ∷ []) (length old.list.items) (length old.list.items) →
    AddsType types old new (ctypes.Function gives ts)
adds_result types old new gives p ts after g b h k = λ f.
    let go = type_in old.list.items in
    let us = map (type_in types) ts in
    plainly_follows types (ctypes.Function gives ts) old new (ctypes.Function 0 after) f k
    (ap (λ x. Function x (tys (map go after))) f.void.is ∙ ap (λ zs. Function Void (tys zs)) (h.are f)
    ∙ ap (λ x. Function Void (also x (tys (map passed_parameter us)))) ((f.pointers gives p g).is b)
    ∙ ap (λ zs. Function Void (also (Pointer (bare (type_in types gives))) zs)) (tys_passed us)
    ∙ sym (passed_by_pointer (type_in types gives) (tys us) b))
    refl tt
    (f.void.there, h.there f (one_below (length old.list.items) p (f.pointers gives p g).there))

-- ---- the other kinds

pub adds_struct : (types : List CType) (old new : Types) (tag : ℕ) (ms : List Member) →
    Keeps old new (ctypes.Struct tag ms ∷ ctypes.Pointer (length old.list.items) ∷ []) (length old.list.items)
    (length old.list.items + 1) → AddsType types old new (ctypes.Struct tag ms)
adds_struct types old new tag ms k =
    λ f. record_follows types (ctypes.Struct tag ms) old new tag f k (λ go. refl)
    (length types, get_seam types (ctypes.Struct tag ms)) (λ m. tt)

pub adds_union : (types : List CType) (old new : Types) (tag : ℕ) (ms : List Member) →
    Keeps old new (ctypes.Union tag ms ∷ ctypes.Pointer (length old.list.items) ∷ []) (length old.list.items)
    (length old.list.items + 1) → AddsType types old new (ctypes.Union tag ms)
adds_union types old new tag ms k =
    λ f. record_follows types (ctypes.Union tag ms) old new tag f k (λ go. refl)
    (length types, get_seam types (ctypes.Union tag ms)) (λ m. tt)

pub adds_incomplete : (types : List CType) (old new : Types) (tag : ℕ) →
    Keeps old new (ctypes.Incomplete tag ∷ ctypes.Pointer (length old.list.items) ∷ []) (length old.list.items)
    (length old.list.items + 1) → AddsType types old new (ctypes.Incomplete tag)
adds_incomplete types old new tag k =
    λ f. record_follows types (ctypes.Incomplete tag) old new tag f k (λ go. refl)
    (length types, get_seam types (ctypes.Incomplete tag)) (λ m. tt)

pub adds_int : (types : List CType) (old new : Types) (k : IntKind) (n : ℕ) →
    Keeps old new (ctypes.Int k n ∷ []) (length old.list.items) (length old.list.items) →
    AddsType types old new (ctypes.Int k n)
adds_int types old new k n q = λ f. plainly_follows types (ctypes.Int k n) old new (ctypes.Int k n) f q refl refl tt tt

pub adds_cap : (types : List CType) (old new : Types) (s : Bool) →
    Keeps old new (ctypes.Cap s ∷ []) (length old.list.items) (length old.list.items) →
    AddsType types old new (ctypes.Cap s)
adds_cap types old new s q = λ f. plainly_follows types (ctypes.Cap s) old new (ctypes.Cap s) f q refl refl tt tt

-- ---- all types

pub starts : (t : Types) → t.list.items ≡ ctypes.Void ∷ [] → t.numbers.items ≡ [] → t.pointers.items ≡ [] → Follows [] t
starts t l n p =
    let void : StartsVoid t.list.items = rw l (record { there = omega arith; is = type_seam [] ctypes.Void [] }) in
    let none : (k : ℕ) → type_in [] k ≡ Void = λ k. type_past [] k (omega arith) in
    record {
      void = void;
      number_count = ap length n;
      pointer_count = ap length p;
      numbers = λ k m e. subst (IsNumber [] t.list.items k) (nothing k m (ap (λ zs. get_or zs k 0) (sym n) ∙ e))
          (void_number [] t.list.items k (none k) void);
      pointers = λ k m e. subst (IsPointer [] t.list.items k) (nothing k m (ap (λ zs. get_or zs k 0) (sym p) ∙ e))
          (no_pointer [] t.list.items k 0 Void (none k) refl void.there);
      kept = λ k c e. one_kept [] ctypes.Void tt k c (ap (λ zs. slice_get zs k) (sym l) ∙ e);
      behind = λ k c e. one_behind 0 ctypes.Void tt k k c (ap (λ zs. slice_get zs k) (sym l) ∙ e) (omega arith);
    }
  where
    nothing : (k m : ℕ) → get_or [] k 0 ≡ m → 0 ≡ m
    nothing k m e = sym (get_or_past [] k 0 (omega arith)) ∙ e

-- one type more of the list
pub types_turn : (types before : List CType) (i : ℕ) (c : CType) (now new : Types) → i < length types →
    c ≡ get_or types i c → before ≡ take i types → AddsType before now new c → Follows (take i types) now →
    Follows (take (i + 1) types) new
types_turn types before i c now new lt e b add f =
    let more : take (i + 1) types ≡ take i types ++ c ∷ [] =
    take_more types i c lt ∙ ap (λ x. take i types ++ x ∷ []) (sym e) in
    subst (λ zs. Follows zs new) (ap (λ zs. zs ++ c ∷ []) b ∙ sym more) (add (subst (λ zs. Follows zs now) (sym b) f))

-- the list with members that have their types
pub types_fit : (types : List CType) (t : Types) (new : List CType) → Follows types t →
    AreListed t.numbers.items t.list.items new → TypesFit types t (types_of new)
types_fit types t new f a = record {
  void = ap (λ us. type_at us 0) a.types ∙ f.void.is;
  numbers = λ k n e. ap (λ us. type_at us n) a.types ∙ (f.numbers k n e).is;
  pointers = λ k n e b. ap (λ us. type_at us n) a.types ∙ (f.pointers k n e).is b;
}

-- ---- members

pub members_push : (numbers : List ℕ) (ms ns after : List Member) (m : Member) (n : ℕ) → AreRenumbered numbers ms ns →
    get_or numbers m.of 0 ≡ n → after ≡ ns ++ record { name = m.name; of = n } ∷ [] →
    AreRenumbered numbers (ms ++ m ∷ []) after
members_push numbers ms ns after m n h g e = record {
  are = λ types ts fits.
      let f = member_of ts in
      let old = map passed_member (map (member_of types) ms) in
      ap (map f) e ∙ map-append f ns (record { name = m.name; of = n } ∷ [])
      ∙ ap (λ zs. zs ++ (m.name, type_at ts n) ∷ []) (h.are types ts fits)
      ∙ ap (λ t. old ++ (m.name, t) ∷ []) (fits m.of n g)
      ∙ sym (ap (map passed_member) (map-append (member_of types) ms (m ∷ []))
      ∙ map-append passed_member (map (member_of types) ms) (member_of types m ∷ []));
  there = λ size z j x q.
      ⊎_elim (λ a. h.there size z j x a) (λ a. subst (λ (y : Member). y.of < size) a.1 (z m.of n g))
      (get-push ns (record { name = m.name; of = n }) j x (ap (λ zs. slice_get zs j) (sym e) ∙ q));
}

pub no_members : (numbers : List ℕ) → AreRenumbered numbers [] []
no_members numbers = record { are = λ types ts fits. refl; there = λ n z j m e. absurd cc }

one_type : (c : CType) (ts : List Ty) →
    grow type_from Void (c ∷ []) ts ≡ ts ++ type_from c (λ k. slice_index_or ts k Void) ∷ []
unfolding grow
one_type c ts = refl

types_push : (cs : List CType) (c : CType) → types_of (cs ++ c ∷ []) ≡ types_of cs ++ type_from c (type_in cs) ∷ []
types_push cs c = grow-append type_from Void cs (c ∷ []) [] ∙ one_type c (types_of cs)

with_members_same : (numbers : List ℕ) (c d : CType) (go : ℕ → Ty) → IsWithMembers numbers c d →
    type_from d go ≡ type_from c go
with_members_same numbers (ctypes.Struct tag ms) d go h = ap (λ x. type_from x go) h.1
with_members_same numbers (ctypes.Union tag ms) d go h = ap (λ x. type_from x go) h.1
with_members_same numbers ctypes.Void d go h = ap (λ x. type_from x go) h
with_members_same numbers (ctypes.Int k n) d go h = ap (λ x. type_from x go) h
with_members_same numbers (ctypes.Cap s) d go h = ap (λ x. type_from x go) h
with_members_same numbers (ctypes.Pointer t) d go h = ap (λ x. type_from x go) h
with_members_same numbers (ctypes.Array t n) d go h = ap (λ x. type_from x go) h
with_members_same numbers (ctypes.Function t ps) d go h = ap (λ x. type_from x go) h
with_members_same numbers (ctypes.Const t) d go h = ap (λ x. type_from x go) h
with_members_same numbers (ctypes.Incomplete tag) d go h = ap (λ x. type_from x go) h

-- one type more of the list
pub listed_push : (numbers : List ℕ) (cs ds after : List CType) (c d : CType) → length cs ≡ length ds →
    AreListed numbers cs ds → IsWithMembers numbers c d → after ≡ ds ++ d ∷ [] → AreListed numbers (cs ++ c ∷ []) after
listed_push numbers cs ds after c d l h i e = record {
  types =
      ap types_of e ∙ types_push ds d ∙ ap (λ us. us ++ type_from d (λ k. slice_index_or us k Void) ∷ []) h.types
      ∙ ap (λ t. types_of cs ++ t ∷ []) (with_members_same numbers c d (type_in cs) i) ∙ sym (types_push cs c);
  each = λ k x g.
      ⊎_elim (λ a. let y = h.each k x a in (y.0, get_front cs (c ∷ []) k y.0 y.1, y.2))
      (λ b. (c, rw (b.0, ← l) (get_seam cs c), subst (IsWithMembers numbers c) b.1 i))
      (get-push ds d k x (ap (λ zs. slice_get zs k) (sym e) ∙ g));
}
