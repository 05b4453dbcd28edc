-- Expressions as they are run fit in the state of the program that is run (C11 6.5).
use Rattle.std.proofs.Common.{◌≡◌, ℕ, ◌+◌, Bool, true, false, List, length, Some, refl, sym, ap, subst, ◌∙◌, inl, inr}
use Rattle.std.proofs.Common.{⊎_elim}
use Rattle.std.specs.Prelude.{slice_get, map, option_map, if◌then◌else◌}
use Rattle.std.proofs.lemmas.Bool.{false≢true}
use Rattle.std.proofs.lemmas.Option.{slice_get-map}
use Rattle.ck_base.specs.declared.positions.Pos.{Pos}
use Rattle.c_tree.specs.Types.{Ty, Void, Pointer, Tagged, Function, Tys, no_types, also, bare, is_integer, is_scalar}
use Rattle.c_tree.specs.Types.{is_void, is_function, is_tagged}
use Rattle.c_tree.specs.Terms as tree
use Rattle.c_tree.specs.Terms.{Shape, Term, Terms, term, no_terms, with_term, type_of, leaf, Variable}
use Rattle.c_tree.specs.Scopes.{TagState, LocalState, State}
use Rattle.c_tree.specs.Conversions.{is_place}
use Rattle.c_tree.specs.Expressions.{is_modifiable}
use Rattle.c_tree.specs.Libraries.{services}
use Rattle.c_tree.specs.WellTyped.{ArgumentsFit}
use Rattle.c_tree.specs.Passed.{Names, by_pointer, passed, all_passed, hidden, hidden_for, for_arguments, for_call}
use Rattle.c_tree.specs.Passed.{hidden_in, all_hidden_in, Passing, passed_shape, by_address, by_result, call_with}
use Rattle.c_tree.specs.Passed.{passed_term, passed_terms, passed_arguments}
use Rattle.typing_laws.proofs.Agreeing.{refines, refines_self}
use Rattle.typing_laws.proofs.Facts.{Complete, IsValue, nothing, PointsTo, LocalOk, AllTaken, ShapeOk, TermOk, TermsOk}
use Rattle.typing_laws.proofs.Scalars.{branched, void_is}
use Rattle.typing_laws.proofs.Wholes.{with_locals}
use Rattle.typing_laws.proofs.PassingTypes.{bare_passed, scalar_passed, integer_passed, void_passed, functions_passed}
use Rattle.typing_laws.proofs.PassingTypes.{tagged_passed, passed_tagged, passed_records, complete_passed, sized_passed}
use Rattle.typing_laws.proofs.PassingTypes.{points_passed, value_passed, type_passed, passed_refines}
use Rattle.typing_laws.proofs.PassingTerms.{Like, AllLike, designates_like, test_like, modifiable_like, services_plain}
use Rattle.typing_laws.proofs.PassingTerms.{plain_service, asked_like, given_like, constant_moves, unary_moves}
use Rattle.typing_laws.proofs.PassingTerms.{arithmetic_moves, decays_move, compares_move, sum_moves, compound_moves}
use Rattle.typing_laws.proofs.PassingTerms.{member_moves, value_bare, taken_moves}
use Rattle.typing_laws.proofs.PassedHidden.{Holds, holds_append, holds_hidden, holds_call}
use Rattle.typing_laws.proofs.PassedStates.{as_local, passed_static, passed_function, passed_state}

abbrev NotCall : Shape → Type 0
NotCall tree.Call = ⊥
NotCall m = Unit {0}

-- a type without the qualifiers of an operand's
bare_like : (x y : Term) (t : Ty) → Like x y → t ≡ bare (type_of x) → passed t ≡ bare (type_of y)
bare_like x y t l e = ap passed e ∙ sym (bare_passed (type_of x)) ∙ ap bare (sym l.type)

void_back : (t : Ty) → passed t ≡ Void → t ≡ Void
void_back t e = void_is t (sym (void_passed t) ∙ ap is_void e)

points_like : (ts : List TagState) (x y : Term) → Like x y → PointsTo ts (type_of x) →
    PointsTo (passed_records ts) (type_of y)
points_like ts x y l h = subst (PointsTo (passed_records ts)) (sym l.type) (points_passed ts (type_of x) h)

-- A state, the locals of a function there, and the variables that the function has as it is run, with the number there
-- of each local
module _ (names : Names) (s : State) (ls : List LocalState) (vars : List Variable) (number : ℕ → ℕ)
    (written : (k : ℕ) (v : LocalState) → slice_get ls k ≡ Some v →
    (w : Variable) × (slice_get vars (number k) ≡ Some w) × (w.of ≡ passed v.of)) where
  abbrev old : State
  old = with_locals s ls

  abbrev pub run : State
  run = with_locals (passed_state names s) (map as_local vars)

  abbrev e : Passing
  e = record { names = names; number = number }

  -- ---- what stays of an expression

  call_like : (h : ℕ) (f g : Term) (xs ys : Terms) (t : Ty) (p : Pos) → IsValue s.tags t →
      Like (term tree.Call (with_term f xs) t p) (call_with h g ys t p)
  call_like h f g xs ys t p v =
      branched (Like (term tree.Call (with_term f xs) t p)) (by_pointer t) (by_result h g ys (bare t) p)
      (term tree.Call (with_term g ys) (passed t) p)
      (λ b. record {
        type = sym (ap passed (sym (value_bare s.tags t v)) ∙ passed_tagged (bare t) b);
        place = refl;
        member = refl;
        named = refl;
      })
      (λ b. record { type = refl; place = refl; member = refl; named = refl })

  pub term_like : (n : ℕ) (x : Term) → TermOk true old x → Like x (passed_term e n x)
  term_like n (term tree.Call (with_term f xs) t p) h =
      let own = n + length (hidden_in names f) in
      call_like (own + length (for_arguments names p xs)) f (passed_term e n f) xs
      (passed_arguments e own (own + length (for_call names p xs t)) xs p) t p h.1.5
  term_like n (term tree.Call no_terms t p) h = absurd h.1
  term_like n (term (tree.Member k) (with_term a no_terms) t p) h =
      record { type = refl; place = (term_like n a h.0.0).place; member = refl; named = refl }
  term_like n (term m xs t p) h = record { type = refl; place = refl; member = refl; named = refl }

  pub terms_like : (n : ℕ) (xs : Terms) → TermsOk true old xs → AllLike xs (passed_terms e n xs)
  terms_like n no_terms h = tt
  terms_like n (with_term x xs) h = (term_like n x h.0, terms_like (n + length (hidden_in names x)) xs h.1)

  -- ---- the nodes but for calls

  pub local_there : (k : ℕ) (v : Variable) (t : Ty) → slice_get vars k ≡ Some v → refines t v.of ≡ true →
      LocalOk run k t
  local_there k v t g r = (as_local v, slice_get-map as_local vars k ∙ ap (option_map as_local) g, r)

  shape_passes : (n : ℕ) (m : Shape) (xs : Terms) (t : Ty) → NotCall m → AllLike xs (passed_terms e n xs) →
      ShapeOk true old m xs t → ShapeOk true run (passed_shape e m) (passed_terms e n xs) (passed t)
  shape_passes n tree.Call xs t c l h = absurd c
  shape_passes n (tree.Constant v) no_terms t c l h =
      let z = constant_moves t v (h.0, h.1) in
      (z.0, z.1, type_passed s.tags t h.2)
  shape_passes n (tree.Literal k) no_terms t c l h = (h.0, ap passed h.1, h.2, h.3)
  shape_passes n (tree.Var k) no_terms t c l h =
      let w = written k h.0 h.1 in
      local_there (number k) w.0 (passed t) w.1 (ap (refines (passed t)) w.2 ∙ passed_refines t h.0.of h.2)
  shape_passes n (tree.Global k) no_terms t c l h = (
    passed_static h.0,
    slice_get-map passed_static s.statics k ∙ ap (option_map passed_static) h.1,
    passed_refines t h.0.of h.2,
    h.3,
  )
  shape_passes n (tree.Fun k) no_terms t c l h = (
    passed_function names h.0,
    slice_get-map (passed_function names) s.routines k
        ∙ ap (option_map (passed_function names)) h.1,
    passed_refines t h.0.of h.2,
    h.3,
  )
  shape_passes n tree.Load (with_term a no_terms) t c l h = (
    designates_like a (passed_term e n a) l.0 ∙ h.0,
    bare_like a (passed_term e n a) t l.0 h.1,
    value_passed s.tags t h.2,
    λ v. l.0.named ∙ h.3 (void_back t v),
  )
  shape_passes n tree.Decay (with_term a no_terms) t c l h =
      decays_move (type_of a) (type_of (passed_term e n a)) t l.0.type h
  shape_passes n tree.Deref (with_term a no_terms) t c l h =
      (l.0.type ∙ ap passed h.0, ⊎_elim (λ z. inl (sized_passed s.tags t z)) (λ z. inr (functions_passed t ∙ z)) h.1)
  shape_passes n (tree.Member k) (with_term a no_terms) t c l h =
      member_moves s.tags (type_of a) (type_of (passed_term e n a)) k t l.0.type h
  shape_passes n tree.Address (with_term a no_terms) t c l h = (
    ⊎_elim (λ z. inl (l.0.place ∙ z)) (λ z.
        inr (test_like is_function functions_passed a (passed_term e n a) l.0 ∙ z)) h.0,
    ap passed h.1
        ∙ ap Pointer (sym l.0.type),
  )
  shape_passes n tree.Convert (with_term a no_terms) t c l h = (
    ⊎_elim (λ z. inl (void_passed t ∙ z)) (λ z.
        inr (scalar_passed t ∙ z.0, test_like is_scalar scalar_passed a (passed_term e n a) l.0 ∙ z.1)) h.0,
    type_passed s.tags t h.1,
  )
  shape_passes n (tree.Unary o) (with_term a no_terms) t c l h =
      unary_moves o (type_of a) (type_of (passed_term e n a)) t l.0.type h
  shape_passes n (tree.Step adds in_front) (with_term a no_terms) t c l h = (
    modifiable_like a (passed_term e n a) l.0 ∙ h.0,
    bare_like a (passed_term e n a) t l.0 h.1,
    ⊎_elim (λ z. inl (integer_passed t ∙ z)) (λ z. inr (points_passed s.tags t z)) h.2,
  )
  shape_passes n (tree.Arithmetic o) (with_term a (with_term b no_terms)) t c l h =
      let z = arithmetic_moves o (type_of a) (type_of b) t _ _ l.0.type l.1.0.type (ap is_integer h.0.2) h.1 h.2 in
      ((h.0.0, h.0.1, ap passed h.0.2), z.0, z.1)
  shape_passes n (tree.Capability o r) (with_term a (with_term b no_terms)) t c l h =
      let z = arithmetic_moves o (type_of a) (type_of b) t _ _ l.0.type l.1.0.type (ap is_integer h.0.1) h.1 h.2 in
      ((h.0.0, ap passed h.0.1), z.0, z.1)
  shape_passes n (tree.Plus minus) (with_term a (with_term b no_terms)) t c l h =
      sum_moves s.tags minus (type_of a) (type_of b) t _ _ l.0.type l.1.0.type h
  shape_passes n tree.Difference (with_term a (with_term b no_terms)) t c l h =
      (points_like s.tags a _ l.0 h.0, points_like s.tags b _ l.1.0 h.1, ap passed h.2)
  shape_passes n (tree.Compare o) (with_term a (with_term b no_terms)) t c l h =
      (ap passed h.0, compares_move (type_of a) (type_of b) _ _ l.0.type l.1.0.type h.1)
  shape_passes n tree.And (with_term a (with_term b no_terms)) t c l h = (
    ap passed h.0,
    test_like is_scalar scalar_passed a _ l.0 ∙ h.1,
    test_like is_scalar scalar_passed b _ l.1.0
        ∙ h.2,
  )
  shape_passes n tree.Or (with_term a (with_term b no_terms)) t c l h = (
    ap passed h.0,
    test_like is_scalar scalar_passed a _ l.0 ∙ h.1,
    test_like is_scalar scalar_passed b _ l.1.0
        ∙ h.2,
  )
  shape_passes n tree.Comma (with_term a (with_term b no_terms)) t c l h = ap passed h ∙ sym l.1.0.type
  shape_passes n tree.Assign (with_term a (with_term b no_terms)) t c l h = (
    modifiable_like a _ l.0 ∙ h.0,
    bare_like a _ t l.0 h.1,
    l.1.0.type ∙ ap passed h.2,
    ⊎_elim (λ z. inl (scalar_passed t ∙ z)) (λ z. inr (tagged_passed t ∙ z)) h.3,
    complete_passed s.tags t h.4,
  )
  shape_passes n (tree.Compound o of) (with_term a (with_term b no_terms)) t c l h = (
    modifiable_like a _ l.0 ∙ h.0,
    bare_like a _ t l.0 h.1,
    compound_moves s.tags o of (type_of b) t _ l.1.0.type h.2,
  )
  shape_passes n tree.Conditional (with_term a (with_term b (with_term d no_terms))) t c l h =
      (test_like is_scalar scalar_passed a _ l.0 ∙ h.0, l.1.0.type ∙ ap passed h.1, l.1.1.0.type ∙ ap passed h.2)
  shape_passes n (tree.Library k) xs t c l h =
      let p = plain_service services k h.0 services_plain h.1 in (
        h.0,
        h.1,
        asked_like h.0.takes xs (passed_terms e n xs) p.0 l h.2,
        ap passed h.3
            ∙ given_like h.0.gives xs (passed_terms e n xs) p.1 l,
      )
  shape_passes n m xs t c l h = absurd h

  -- ---- calls

  hidden_there : (k : ℕ) (p : Pos) (t : Ty) → by_pointer t ≡ true → Holds vars k (hidden_for names p t) →
      LocalOk run k (bare t)
  hidden_there k p t b h = local_there k (hidden names p t) (bare t) (holds_hidden names vars k p t b h)
      (refines_self (bare t))

  -- an object without a qualifier is assigned to
  pub assigned_ok : (x y : Term) (t : Ty) (p : Pos) → is_tagged t ≡ true → is_place x ≡ true → type_of x ≡ t →
      TermOk true run x → TermOk true run y → type_of y ≡ t → Complete (passed_records s.tags) t →
      TermOk true run (tree.join tree.Assign x y t p)
  assigned_ok x y (Tagged j) p b place i ok given q c =
      let m : is_modifiable x ≡ true = rw (place, i) refl in ((ok, (given, tt)), (m, ap bare (sym i), q, inr refl, c))
  assigned_ok x y t p b place i ok given q c = absurd (false≢true b)

  by_address_ok : (k : ℕ) (y : Term) (t : Ty) (p : Pos) → is_tagged t ≡ true → LocalOk run k t →
      Complete (passed_records s.tags) t → TermOk true run y → type_of y ≡ t → TermOk true run (by_address k y t p)
  by_address_ok k y t p b v c ok q = (
    (assigned_ok (leaf (tree.Var k) t p) y t p b refl refl (tt, v) ok q c, ((((tt, v), tt), (inl refl, refl)), tt)),
    refl,
  )

  by_result_ok : (k : ℕ) (g : Term) (ys : Terms) (t : Ty) (qs : Tys) (p : Pos) → LocalOk run k t → TermOk true run g →
      type_of g ≡ Pointer (Function Void (also (Pointer t) qs)) → TermsOk true run ys → ArgumentsFit qs ys →
      AllTaken (passed_records s.tags) qs → TermOk true run (by_result k g ys t p)
  by_result_ok k g ys t qs p v ok q all fit taken = (
    (
      (
        (ok, ((((tt, v), tt), (inl refl, refl)), all)),
        (Void, also (Pointer t) qs, q, (refl, fit), refl, nothing refl, (refl, (_, refl), taken)),
      ),
      ((tt, v), tt),
    ),
    refl,
  )

  -- a struct or union type without qualifiers
  pub tagged_self : (t : Ty) → bare t ≡ t → by_pointer t ≡ true → passed t ≡ bare t
  tagged_self t e b = ap passed (sym e) ∙ passed_tagged (bare t) b

  argument_by : (b : Bool) (k : ℕ) (x y : Term) (p : Pos) → by_pointer (type_of x) ≡ b → bare (type_of x) ≡ type_of x →
      Complete s.tags (type_of x) → Holds vars k (hidden_for names p (type_of x)) → TermOk true run y →
      type_of y ≡ passed (type_of x) →
      TermOk true run (if b then by_address k y (bare (type_of x)) p else y) ×
      (type_of (if b then by_address k y (bare (type_of x)) p else y)
      ≡ (if b then Pointer (bare (type_of x)) else passed (type_of x)))
  argument_by true k x y p i u c h ok q =
      let z = tagged_self (type_of x) u i in (
        by_address_ok k y (bare (type_of x)) p i (hidden_there k p (type_of x) i h)
            (subst (Complete (passed_records s.tags)) z (complete_passed s.tags (type_of x) c)) ok (q ∙ z),
        refl,
      )
  argument_by false k x y p i u c h ok q = (ok, q)

  -- an argument as it is run fits the parameter's type as it is run
  argument_ok : (k : ℕ) (x y : Term) (t : Ty) (p : Pos) → type_of x ≡ t → bare t ≡ t → Complete s.tags t →
      Holds vars k (hidden_for names p (type_of x)) → TermOk true run y → type_of y ≡ passed (type_of x) →
      TermOk true run (if by_pointer (type_of x) then by_address k y (bare (type_of x)) p else y) ×
      (type_of (if by_pointer (type_of x) then by_address k y (bare (type_of x)) p else y)
      ≡ (if by_pointer t then Pointer (bare t) else passed t))
  argument_ok k x y t p i u c h ok q =
      let z = argument_by (by_pointer (type_of x)) k x y p refl (ap bare i ∙ u ∙ sym i)
      (subst (Complete s.tags) (sym i) c) h ok q in
      (z.0, z.1 ∙ ap (λ t. if by_pointer t then Pointer (bare t) else passed t) i)

  -- what is called gives by a pointer where the call does
  result_by : (t r : Ty) → IsValue s.tags t → t ≡ bare r → by_pointer t ≡ by_pointer r
  result_by t r v i = ap is_tagged (value_bare s.tags t v ∙ i)

  call_ok : (k : ℕ) (g : Term) (ys : Terms) (r : Ty) (ps : Tys) (t : Ty) (p : Pos) →
      type_of g ≡ Pointer (passed (Function r ps)) → t ≡ bare r → IsValue s.tags t →
      Holds vars k (hidden_for names p t) → TermOk true run g → TermsOk true run ys → ArgumentsFit (all_passed ps) ys →
      AllTaken s.tags ps → TermOk true run (call_with k g ys t p)
  call_ok k g ys r ps t p q i v h ok all fit taken =
      let same = result_by t r v i in
      let u = value_bare s.tags t v in
      let given = taken_moves s.tags ps taken in
      branched (TermOk true run) (by_pointer t) (by_result k g ys (bare t) p)
      (term tree.Call (with_term g ys) (passed t) p)
      (λ b. by_result_ok k g ys (bare t) (all_passed ps) p (hidden_there k p t b h) ok
      (q ∙ ap (λ b. Pointer (if b then Function Void (also (Pointer (bare r)) (all_passed ps))
      else Function (passed r) (all_passed ps))) (sym same ∙ b)
      ∙ ap (λ t. Pointer (Function Void (also (Pointer t) (all_passed ps)))) (sym i ∙ sym u)) all fit given)
      (λ b. (
        (ok, all),
        (
          passed r,
          all_passed ps,
          q ∙ ap (λ b. Pointer (if b then Function Void (also (Pointer (bare r)) (all_passed ps))
              else Function (passed r) (all_passed ps))) (sym same ∙ b),
          fit,
          ap passed i ∙ sym (bare_passed r),
          value_passed s.tags t v,
          given,
        ),
      ))

  -- ---- expressions

  mutual
    pub term_passes : (n : ℕ) (x : Term) → TermOk true old x → Holds vars n (hidden_in names x) →
        TermOk true run (passed_term e n x)
    term_passes n (term tree.Call (with_term f xs) t p) h z =
        let own = n + length (hidden_in names f) in
        let inner = own + length (for_call names p xs t) in
        let c = holds_call names vars n f xs t p z in
        let a = arguments_pass own inner h.1.1 xs p h.0.1 h.1.3 h.1.6 c.own c.inner in
        call_ok (own + length (for_arguments names p xs)) (passed_term e n f)
        (passed_arguments e own inner xs p) h.1.0 h.1.1 t p
        ((term_like n f h.0.0).type ∙ ap passed h.1.2) h.1.4 h.1.5 c.result
        (term_passes n f h.0.0 c.called) a.0 a.1 h.1.6
    term_passes n (term tree.Call no_terms t p) h z = absurd h.1
    term_passes n (term m xs t p) h z = (terms_pass n xs h.0 z, shape_passes n m xs t tt (terms_like n xs h.0) h.1)

    pub terms_pass : (n : ℕ) (xs : Terms) → TermsOk true old xs → Holds vars n (all_hidden_in names xs) →
        TermsOk true run (passed_terms e n xs)
    terms_pass n no_terms h z = tt
    terms_pass n (with_term x xs) h z =
        let c = holds_append vars n (hidden_in names x) (all_hidden_in names xs) z in
        (term_passes n x h.0 c.0, terms_pass (n + length (hidden_in names x)) xs h.1 c.1)

    arguments_pass : (own n : ℕ) (ps : Tys) (xs : Terms) (p : Pos) → TermsOk true old xs → ArgumentsFit ps xs →
        AllTaken s.tags ps → Holds vars own (for_arguments names p xs) → Holds vars n (all_hidden_in names xs) →
        TermsOk true run (passed_arguments e own n xs p) × ArgumentsFit (all_passed ps) (passed_arguments e own n xs p)
    arguments_pass own n no_types no_terms p h fit taken a b = (tt, tt)
    arguments_pass own n (also t ts) (with_term x xs) p h fit taken a b =
        let c = holds_append vars own (hidden_for names p (type_of x)) (for_arguments names p xs) a in
        let d = holds_append vars n (hidden_in names x) (all_hidden_in names xs) b in
        let o = argument_ok own x (passed_term e n x) t p fit.0 taken.0 taken.1 c.0 (term_passes n x h.0 d.0)
        (term_like n x h.0).type in
        let r = arguments_pass (own + length (hidden_for names p (type_of x)))
        (n + length (hidden_in names x)) ts xs p h.1 fit.1 taken.2 c.1 d.1 in
        ((o.0, r.0), (o.1, r.1))
    arguments_pass own n no_types (with_term x xs) p h fit taken a b = absurd fit
    arguments_pass own n (also t ts) no_terms p h fit taken a b = absurd fit
