-- What holds of statements, of the variables that they declare and of the functions so far.
use Rattle.std.proofs.Common.{◌≡◌, ℕ, zero, suc, ◌+◌, ◌<◌, ◌≤◌, Bool, true, false, cond, List, [], ◌∷◌, ◌++◌, length}
use Rattle.std.proofs.Common.{Option, Some, None, refl, sym, ap, subst, ◌∙◌, inl, inr, ◌⊎◌, ⊎_elim, arith}
use Rattle.std.specs.Prelude.{slice_get, ◌&&◌, ◌==◌, nat_lt, nat_le, if◌then◌else◌}
use Rattle.std.proofs.lemmas.Bool.{false≢true, cases_lt, cases_order, eq-eqb, ne_eqb, lt-ltb, le-ltb, le-leb, lt-leb}
use Rattle.std.proofs.lemmas.Option.{same_Some, slice_get_within}
use Rattle.std.proofs.lemmas.List.Sums.{sum_by-append}
use Rattle.c_tree.specs.Layout.{Extent}
use Rattle.c_tree.specs.Types.{Ty, Array, bare, is_integer, is_scalar, is_void, promoted}
use Rattle.c_tree.specs.Terms as tree
use Rattle.c_tree.specs.Terms.{Term, Terms, no_terms, with_term, type_of, Label, Form, Action, Actions, action, actions}
use Rattle.c_tree.specs.Terms.{no_actions, with_action}
use Rattle.c_tree.specs.Scopes.{LocalState, State, type_extent}
use Rattle.c_tree.specs.Readings.{Context, Items}
use Rattle.c_tree.specs.Declarations.{no_items, both, is_open}
use Rattle.c_tree.specs.Views.{times_in}
use Rattle.c_tree.specs.WellTyped.{holds, Inside, inside_of, LabelsFit, count_of, IsTest, TestsFit, declared}
use Rattle.c_tree.specs.WellTyped.{all_declared}
use Rattle.typing_laws.proofs.Agreeing.{refines}
use Rattle.typing_laws.proofs.Facts.{Complete, TermsOk, LocalGrows, Refers}
use Rattle.typing_laws.proofs.Growing.{extent_kept, refined_extent, terms_kept}

-- ---- statements

-- a scalar gets a value of its own type, as a whole
abbrev pub WholeOk : Ty → ℕ → Ty → Type 0
WholeOk u o t = holds (is_scalar (bare u)) → (o ≡ 0) × (t ≡ bare u)

abbrev pub InitOk : State → ℕ → ℕ → Ty → Type 0
InitOk s k o t =
    (v : LocalState) × (x : Extent) × (y : Extent) × (slice_get s.locals k ≡ Some v) ×
    (type_extent s.tags v.of ≡ Some x) × (type_extent s.tags t ≡ Some y) × (o + y.size ≤ x.size)
    × WholeOk v.of o t

abbrev pub AreLocals : State → List ℕ → Type 0
AreLocals s ks = (j k : ℕ) → slice_get ks j ≡ Some k → k < length s.locals

-- what a function gives, where the statement stands, the statement, its expressions and how many parts it has
abbrev pub FormOk : State → Ty → Inside → Form → Terms → ℕ → Type 0
FormOk s t i tree.Evaluate (with_term a no_terms) zero = Unit {0}
FormOk s t i (tree.Init k o) (with_term a no_terms) zero = InitOk s k o (type_of a)
FormOk s t i (tree.Block vars) no_terms n = AreLocals s vars
FormOk s t i tree.If xs n = IsTest xs × ((n ≡ 1) ⊎ (n ≡ 2))
FormOk s t i tree.While xs n = IsTest xs × (n ≡ 1)
FormOk s t i tree.Do xs n = IsTest xs × (n ≡ 1)
FormOk s t i (tree.For vars k a b) xs n = AreLocals s vars × TestsFit a b xs × (n ≡ k + 1)
FormOk s t i (tree.Switch vars labels) (with_term a no_terms) n =
    AreLocals s vars × holds (is_integer (type_of a)) × (promoted (type_of a) ≡ type_of a) × LabelsFit labels n
FormOk s t i tree.Break no_terms zero = holds i.breakable
FormOk s t i tree.Continue no_terms zero = holds i.loop
FormOk s t i tree.Return no_terms zero = holds (is_void t)
FormOk s t i tree.Return (with_term a no_terms) zero = type_of a ≡ t
FormOk s t i tree.Empty no_terms zero = Unit {0}
FormOk s t i x xs n = ⊥

abbrev mutual
  pub ActionOk : State → Ty → Inside → Action → Type 0
  ActionOk s t i (action x xs ys p) =
      TermsOk true s xs × FormOk s t i x xs (count_of ys) × ActionsOk s t (inside_of x i) ys

  pub ActionsOk : State → Ty → Inside → Actions → Type 0
  ActionsOk s t i no_actions = Unit {0}
  ActionsOk s t i (with_action x xs) = ActionOk s t i x × ActionsOk s t i xs

-- ---- they stay

pub at_number : {A : Type 0} (xs : List A) (k : ℕ) → k < length xs → (x : A) × (slice_get xs k ≡ Some x)
at_number [] k l = absurd (omega (arith, l))
at_number (x ∷ xs) zero l = (x, refl)
at_number (x ∷ xs) (suc k) l = at_number xs k (omega (arith, l))

pub locals_stay : (s r : State) → Refers s r → (k : ℕ) → k < length s.locals → k < length r.locals
locals_stay s r g k l = let v = at_number s.locals k l in let w = g.locals k v.0 v.1 in
    slice_get_within r.locals k w.0 w.1

-- an array whose length is not known becomes no scalar
open_not_scalar : (s t : Ty) → refines s t ≡ true → is_open s ≡ true → is_scalar (bare t) ≡ true → ⊥
open_not_scalar (Array e zero) (Array t n) r o c = false≢true c
open_not_scalar (Array e zero) t r o c = false≢true r
open_not_scalar s t r o c = false≢true o

whole_kept : (v w : LocalState) → LocalGrows v w → (o : ℕ) (t : Ty) → WholeOk v.of o t → WholeOk w.of o t
whole_kept v w g o t h = by (is_open v.of) refl
  where
    by : (b : Bool) → is_open v.of ≡ b → WholeOk w.of o t
    by false e c = let same = g.fixed e in
        subst (λ u. (o ≡ 0) × (t ≡ bare u)) (sym same) (h (ap (λ u. is_scalar (bare u)) (sym same) ∙ c))
    by true e c = absurd (open_not_scalar v.of w.of g.type e c)

init_kept : (s r : State) → Refers s r → (k o : ℕ) (t : Ty) → InitOk s k o t → InitOk r k o t
init_kept s r g k o t h =
    let w = g.locals k h.0 h.3 in (
      w.0,
      h.1,
      h.2,
      w.1,
      refined_extent r.tags h.0.of w.0.of h.1 w.2.type
          (extent_kept s.tags r.tags g.tags h.0.of h.1 h.4),
      extent_kept s.tags r.tags g.tags t h.2 h.5,
      h.6,
      whole_kept h.0 w.0 w.2 o t h.7,
    )

pub are_locals_kept : (s r : State) → Refers s r → (ks : List ℕ) → AreLocals s ks → AreLocals r ks
are_locals_kept s r g ks h j k e = locals_stay s r g k (h j k e)

form_kept : (s r : State) → Refers s r → (t : Ty) (i : Inside) (x : Form) (xs : Terms) (n : ℕ) → FormOk s t i x xs n →
    FormOk r t i x xs n
form_kept s r g t i tree.Evaluate (with_term a no_terms) zero h = tt
form_kept s r g t i (tree.Init k o) (with_term a no_terms) zero h = init_kept s r g k o (type_of a) h
form_kept s r g t i (tree.Block vars) no_terms n h = are_locals_kept s r g vars h
form_kept s r g t i tree.If xs n h = h
form_kept s r g t i tree.While xs n h = h
form_kept s r g t i tree.Do xs n h = h
form_kept s r g t i (tree.For vars k a b) xs n h = (are_locals_kept s r g vars h.0, h.1, h.2)
form_kept s r g t i (tree.Switch vars labels) (with_term a no_terms) n h =
    (are_locals_kept s r g vars h.0, h.1, h.2, h.3)
form_kept s r g t i tree.Break no_terms zero h = h
form_kept s r g t i tree.Continue no_terms zero h = h
form_kept s r g t i tree.Return no_terms zero h = h
form_kept s r g t i tree.Return (with_term a no_terms) zero h = h
form_kept s r g t i tree.Empty no_terms zero h = tt
form_kept s r g t i x xs n h = absurd h

mutual
  pub action_kept : (s r : State) → Refers s r → (t : Ty) (i : Inside) (x : Action) → ActionOk s t i x →
      ActionOk r t i x
  action_kept s r g t i (action x xs ys p) h = (
    terms_kept true s r g xs h.0,
    form_kept s r g t i x xs (count_of ys) h.1,
    actions_kept s r g t (inside_of x i) ys h.2,
  )

  pub actions_kept : (s r : State) → Refers s r → (t : Ty) (i : Inside) (xs : Actions) → ActionsOk s t i xs →
      ActionsOk r t i xs
  actions_kept s r g t i no_actions h = tt
  actions_kept s r g t i (with_action x xs) h = (action_kept s r g t i x h.0, actions_kept s r g t i xs h.1)

pub both_actions : (s : State) (t : Ty) (i : Inside) (xs ys : List Action) → ActionsOk s t i (actions xs) →
    ActionsOk s t i (actions ys) → ActionsOk s t i (actions (xs ++ ys))
both_actions s t i [] ys h k = k
both_actions s t i (x ∷ xs) ys h k = (h.0, both_actions s t i xs ys h.1 k)

-- ---- declared variables

-- 1 from a on and below b
unfoldable pub between : ℕ → ℕ → ℕ → ℕ
between a b k = (if nat_le a k && nat_lt k b then 1 else 0)

pub between_in : (a b k : ℕ) → a ≤ k → k < b → between a b k ≡ 1
unfolding between
between_in a b k l m = rw (le-leb a k l, lt-ltb k b m) refl

pub between_under : (a b k : ℕ) → k < a → between a b k ≡ 0
unfolding between
between_under a b k l = rw (lt-leb a k l) refl

pub between_none : (a k : ℕ) → between a a k ≡ 0
unfolding between
between_none a k =
    elim (cases_lt k a) as (λ _. between a a k ≡ 0) [
      | inl lt ↦ rw (lt-leb a k lt) refl
      | inr ge ↦ rw (le-leb a k ge, le-ltb k a ge) refl
    ]

pub between_sum : (a b c k : ℕ) → a ≤ b → b ≤ c → between a b k + between b c k ≡ between a c k
unfolding between
between_sum a b c k l m =
    elim (cases_lt k a) as (λ _. between a b k + between b c k ≡ between a c k) [
      | inl lt ↦ rw (lt-leb a k lt, lt-leb b k (omega arith)) refl
      | inr ge ↦ elim (cases_lt k b) as (λ _. between a b k + between b c k ≡ between a c k) [
        | inl lt ↦ rw (le-leb a k ge, lt-ltb k b lt, lt-leb b k lt, lt-ltb k c (omega arith)) refl
        | inr up ↦ rw (le-leb a k ge, le-ltb k b up, le-leb b k up) (omega arith)
      ]
    ]

pub between_one : (a k : ℕ) → between a (a + 1) k ≡ (if a == k then 1 else 0)
unfolding between
between_one a k =
    elim (cases_order a k) as (λ _. between a (a + 1) k ≡ (if a == k then 1 else 0)) [
      | inl e ↦ rw (le-leb a k (omega (arith, e)), lt-ltb k (a + 1) (omega (arith, e)), eq-eqb a k e) refl
      | inr w ↦ elim w as (λ _. between a (a + 1) k ≡ (if a == k then 1 else 0)) [
        | inl lt ↦ rw (
          le-leb a k (omega arith),
          le-ltb k (a + 1) (omega arith),
          ne_eqb a k (λ e. absurd (omega (arith, e, lt))),
        ) refl
        | inr gt ↦ rw (lt-leb a k gt, ne_eqb a k (λ e. absurd (omega (arith, e, gt)))) refl
      ]
    ]

-- how often a variable is declared by a block's variables and statements
abbrev pub times_declared : ℕ → List ℕ → List Action → ℕ
times_declared k vs xs = times_in k vs + times_in k (all_declared (actions xs))

-- ---- items of a block

abbrev pub inside_context : Context → Inside
inside_context c = record { loop = c.in_loop; breakable = c.breakable }

-- what a declaration or a statement gives, from one state to another: its statements fit, and the new variables are
-- complete and declared once
pub record ItemsOk (c : Context) (s r : State) (i : Items) : Type 0 where
  pub fits : ActionsOk r c.gives (inside_context c) (actions i.actions)
  pub vars : AreLocals r i.vars
  pub more : length s.locals ≤ length r.locals
  pub once : (k : ℕ) → times_declared k i.vars i.actions ≡ between (length s.locals) (length r.locals) k
  pub complete : (k : ℕ) (v : LocalState) → length s.locals ≤ k → slice_get r.locals k ≡ Some v → Complete r.tags v.of

-- one statement, and no variables outside of it
abbrev pub IsOne : Items → Type 0
IsOne i = (a : Action) × (i.actions ≡ a ∷ []) × (i.vars ≡ [])

all_declared-append : (xs ys : List Action) →
    all_declared (actions (xs ++ ys)) ≡ all_declared (actions xs) ++ all_declared (actions ys)
all_declared-append [] ys = refl
all_declared-append (x ∷ xs) ys =
    ap (λ zs. declared x ++ zs) (all_declared-append xs ys)
    ∙ sym (Rattle.std.proofs.Common.append_assoc (declared x) (all_declared (actions xs)) (all_declared (actions ys)))

pub times_in-append : (k : ℕ) (xs ys : List ℕ) → times_in k (xs ++ ys) ≡ times_in k xs + times_in k ys
times_in-append k xs ys = sum_by-append (λ j. if j == k then 1 else 0) xs ys

pub times_both : (k : ℕ) (a b : Items) →
    times_declared k (both a b).vars (both a b).actions
    ≡ times_declared k a.vars a.actions + times_declared k b.vars b.actions
times_both k a b =
    let e = ap (times_in k) (all_declared-append a.actions b.actions) in
    let f = times_in-append k (all_declared (actions a.actions)) (all_declared (actions b.actions)) in
    let g = times_in-append k a.vars b.vars in
    omega (arith, e, f, g)

locals_append : {P : ℕ → Type 0} (xs ys : List ℕ) → ((j k : ℕ) → slice_get xs j ≡ Some k → P k) →
    ((j k : ℕ) → slice_get ys j ≡ Some k → P k) → (j k : ℕ) → slice_get (xs ++ ys) j ≡ Some k → P k
locals_append [] ys f g j k e = g j k e
locals_append (x ∷ xs) ys f g zero k e = f 0 k e
locals_append (x ∷ xs) ys f g (suc j) k e = locals_append xs ys (λ i k q. f (suc i) k q) g j k e

-- a local that is complete stays so
pub complete_on : (r q : State) → Refers r q → (k : ℕ) (w : LocalState) → slice_get q.locals k ≡ Some w →
    k < length r.locals → ((v : LocalState) → slice_get r.locals k ≡ Some v → Complete r.tags v.of) →
    Complete q.tags w.of
complete_on r q g k w e l h =
    let v = at_number r.locals k l in
    let u = g.locals k v.0 v.1 in
    let c = h v.0 v.1 in
    let same : u.0 ≡ w = same_Some u.0 w (sym u.1 ∙ e) in (
      c.0,
      refined_extent q.tags v.0.of w.of c.0 (subst (λ (z : LocalState). refines v.0.of z.of ≡ true) same u.2.type)
          (extent_kept r.tags q.tags g.tags v.0.of c.0 c.1),
    )

pub items_both : (c : Context) (s r q : State) (a b : Items) → Refers r q → ItemsOk c s r a → ItemsOk c r q b →
    ItemsOk c s q (both a b)
items_both c s r q a b g h k = record {
  fits = both_actions q c.gives (inside_context c) a.actions b.actions
      (actions_kept r q g c.gives (inside_context c) (actions a.actions) h.fits) k.fits;
  vars = locals_append a.vars b.vars (are_locals_kept r q g a.vars h.vars) k.vars;
  more = omega (arith, h.more, k.more);
  once = λ j. let e = times_both j a b in
      let f = between_sum (length s.locals) (length r.locals) (length q.locals) j h.more k.more in
      omega (arith, e, f, h.once j, k.once j);
  complete = λ j v l e. ⊎_elim (λ lt. complete_on r q g j v e lt (λ w i. h.complete j w l i))
      (λ ge. k.complete j v ge e) (cases_lt j (length r.locals));
}

pub items_none : (c : Context) (s : State) → ItemsOk c s s no_items
items_none c s = record {
  fits = tt;
  vars = λ j k e. absurd cc;
  more = omega arith;
  once = λ k. sym (between_none (length s.locals) k);
  complete = λ k v l e. absurd (let w = slice_get_within s.locals k v e in omega (arith, l, w));
}

-- a state with the same number of locals
pub items_from : (c : Context) (s t r : State) (i : Items) → length s.locals ≡ length t.locals → ItemsOk c t r i →
    ItemsOk c s r i
items_from c s t r i e h = record {
  fits = h.fits;
  vars = h.vars;
  more = omega (arith, h.more, e);
  once = λ k. h.once k ∙ ap (λ n. between n (length r.locals) k) (sym e);
  complete = λ k v l q. h.complete k v (omega (arith, l, e)) q;
}
