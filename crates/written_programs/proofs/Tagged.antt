-- The types of what typing gives name structs and unions that are there.
use Rattle.std.proofs.Common.{◌≡◌, ℕ, suc, ◌<◌, Bool, true, false, List, [], ◌∷◌, ◌++◌, length, map, Option, Some}
use Rattle.std.proofs.Common.{None, Ok, refl, sym, ap, subst, ◌∙◌, inl, inr, ⊎_elim}
use Rattle.std.specs.Prelude.{slice_get, flat_map, option_map, ◌==◌, ◌||◌, if◌then◌else◌}
use Rattle.std.proofs.lemmas.Bool.{false≢true, and_parts, eqb-true}
use Rattle.std.proofs.lemmas.List.{length-map}
use Rattle.std.proofs.lemmas.Option.{same_Some}
use Rattle.ck_base.specs.declared.positions.Span.{Span}
use Rattle.c_tree.specs.declared.typed.UnaryOp.{UnaryOp}
use Rattle.c_tree.specs.declared.typed.UnaryOp.TheVariants as unary
use Rattle.c_tree.specs.Syntax.{Syn}
use Rattle.c_tree.specs.Types.{Ty, Void, Int, Cap, Pointer, Array, Tagged, Function, Const, Tys, no_types, also, bare}
use Rattle.c_tree.specs.Types.{qualified, is_const, is_integer, is_function, all_agree}
use Rattle.c_tree.specs.Terms as tree
use Rattle.c_tree.specs.Terms.{Shape, Term, Terms, term, no_terms, with_term, type_of, Form, Action, Actions, action}
use Rattle.c_tree.specs.Terms.{no_actions, with_action, Variable, Object, Routine, Tag, Program}
use Rattle.c_tree.specs.Scopes.{Part, TagState, StaticState, LocalState, RoutineState, Body, State}
use Rattle.c_tree.specs.Expressions.{as_qualified, given_type}
use Rattle.c_tree.specs.Libraries.{Service, services, Given, Of, As_argument}
use Rattle.c_tree.specs.Programs.{shape_with, term_with, terms_with, action_with, actions_with, variable_of, tag_of}
use Rattle.c_tree.specs.Programs.{member_of_tag, members_of_tag, object_of, with_body, routine_of, numbers_of}
use Rattle.c_tree.specs.Programs.{program_of, typing}
use Rattle.c_tree.specs.Programs as programs
use Rattle.c_tree.specs.Passed.{Names, by_pointer, passed, passed_routine}
use Rattle.c_tree.specs.WellTyped.{holds, Inside, inside_of, outside, Decays, UnaryFits, list_of}
use Rattle.typing_laws.specs.Fitting.{IsFit}
use Rattle.typing_laws.proofs.Agreeing.{refines}
use Rattle.typing_laws.proofs.Facts.{Complete, TypeOk, TypesOk, CompoundOk, ShapeOk, TermOk, TermsOk, TagOk}
use Rattle.typing_laws.proofs.Growing.{complete_there}
use Rattle.typing_laws.proofs.Acts.{ActionOk, ActionsOk}
use Rattle.typing_laws.proofs.Wholes.{BodyOk, with_locals, mapped_from}
use Rattle.typing_laws.proofs.Standing.{Standing}
use Rattle.typing_laws.proofs.Ended.{AtEnd, typed_end}
use Rattle.typing_laws.proofs.PassingTypes.{passed_records, type_passed}
use Rattle.typing_laws.proofs.PassedVariables.{every_variable}
use Rattle.typing_laws.proofs.PassedHidden.{hidden_fit}
use Rattle.typing_laws.proofs.PassingActions.{action_calls}
use Rattle.typing_laws.proofs.PassedStates.{as_local, written, passed_whole, passed_function, passed_state}
use Rattle.typing_laws.proofs.PassingState.{passed_stands}
use Rattle.typing_laws.proofs.PassingShown.{passed_shown}
use Rattle.written_programs.specs.Writable.{Every, TagsBelow, AllTagsBelow, shape_types, term_types, all_term_types}
use Rattle.written_programs.specs.Writable.{action_types, all_action_types, member_types, tag_types, object_type}
use Rattle.written_programs.specs.Writable.{variable_type, routine_types, program_types}
use Rattle.written_programs.proofs.Lists.{every_at, every_split, every_both}
use Rattle.written_programs.proofs.Whole.{every_flat}

-- ---- types

mutual
  type_below : (ts : List TagState) (t : Ty) → TypeOk ts t → TagsBelow (length ts) t
  type_below ts Void h = tt
  type_below ts (Int k n) h = tt
  type_below ts (Cap s) h = tt
  type_below ts (Pointer t) h = type_below ts t h
  type_below ts (Array t n) h = type_below ts t h.0
  type_below ts (Tagged n) h = h
  type_below ts (Function r ps) h = (type_below ts r h.0, types_below ts ps h.2)
  type_below ts (Const t) h = type_below ts t h.0

  types_below : (ts : List TagState) (ps : Tys) → TypesOk ts ps → AllTagsBelow (length ts) ps
  types_below ts no_types h = tt
  types_below ts (also t ps) h = (type_below ts t h.0, types_below ts ps h.2)

module _ (n : ℕ) where
  bare_below : (t : Ty) → TagsBelow n t → TagsBelow n (bare t)
  bare_below (Const t) h = h
  bare_below Void h = h
  bare_below (Int k m) h = h
  bare_below (Cap s) h = h
  bare_below (Pointer t) h = h
  bare_below (Array t m) h = h
  bare_below (Tagged m) h = h
  bare_below (Function r ps) h = h

  qualified_below : (t : Ty) → TagsBelow n t → TagsBelow n (qualified t)
  qualified_below (Const t) h = h
  qualified_below Void h = h
  qualified_below (Int k m) h = h
  qualified_below (Cap s) h = h
  qualified_below (Pointer t) h = h
  qualified_below (Array t m) h = qualified_below t h
  qualified_below (Tagged m) h = h
  qualified_below (Function r ps) h = h

  as_qualified_below : (s t : Ty) → TagsBelow n t → TagsBelow n (as_qualified s t)
  as_qualified_below s t h = by (is_const s)
    where
      by : (b : Bool) → TagsBelow n (if b then qualified t else t)
      by true = qualified_below t h
      by false = h

  integer_below : (t : Ty) → is_integer t ≡ true → TagsBelow n t
  integer_below (Int k m) e = tt
  integer_below (Cap s) e = tt
  integer_below t e = absurd (false≢true e)

  -- more lengths leave the tags as they are
  mutual
    refined_below : (s t : Ty) → refines s t ≡ true → TagsBelow n t → TagsBelow n s
    refined_below Void t e h = tt
    refined_below (Int k m) t e h = tt
    refined_below (Cap b) t e h = tt
    refined_below (Pointer s) (Pointer t) e h = refined_below s t e h
    refined_below (Array s l) (Array t m) e h = refined_below s t (and_parts (refines s t) (l == m || l == 0) e).0 h
    refined_below (Tagged l) (Tagged m) e h = subst (λ k. k < n) (sym (eqb-true l m e)) h
    refined_below (Function r ps) (Function q qs) e h =
        let p = and_parts (refines r q) (all_agree (λ m n. m == n || m == 0) ps qs) e in
        (refined_below r q p.0 h.0, all_refined_below ps qs p.1 h.1)
    refined_below (Const s) (Const t) e h = refined_below s t e h
    refined_below s t e h = absurd (false≢true e)

    all_refined_below : (ps qs : Tys) → all_agree (λ m n. m == n || m == 0) ps qs ≡ true → AllTagsBelow n qs →
        AllTagsBelow n ps
    all_refined_below no_types qs e h = tt
    all_refined_below (also p ps) (also q qs) e h =
        let a = and_parts (refines p q) (all_agree (λ m n. m == n || m == 0) ps qs) e in
        (refined_below p q a.0 h.0, all_refined_below ps qs a.1 h.1)
    all_refined_below (also p ps) no_types e h = absurd (false≢true e)

-- ---- library functions

abbrev GivesBelow : ℕ → Given → Type 0
GivesBelow n (Of t) = TagsBelow n t
GivesBelow n As_argument = Unit {0}

services_below : (n : ℕ) → Every (λ (f : Service). GivesBelow n f.gives) services
unfolding services
services_below n =
    (tt, (tt, (tt, (tt, (tt, (tt, (tt, (tt, (tt, (tt, (tt, (tt, (tt, (tt, (tt, (tt, (tt, (tt, tt))))))))))))))))))

-- ---- expressions

module _ (s : State) (tags : (k : ℕ) (t : TagState) → slice_get s.tags k ≡ Some t → TagOk s.tags k t)
    (statics : (k : ℕ) (g : StaticState) → slice_get s.statics k ≡ Some g → TypeOk s.tags g.of)
    (routines : (k : ℕ) (f : RoutineState) → slice_get s.routines k ≡ Some f →
    TypeOk s.tags f.of × holds (is_function f.of))
    (locals : (k : ℕ) (v : LocalState) → slice_get s.locals k ≡ Some v → TagsBelow (length s.tags) v.of) where
  abbrev Below : Ty → Type 0
  Below t = TagsBelow (length s.tags) t

  abbrev AllBelow : List Ty → Type 0
  AllBelow ts = Every (TagsBelow (length s.tags)) ts

  -- the types of an operand, and of those behind it
  its_type : (x : Term) → AllBelow (term_types x) → Below (type_of x)
  its_type (term m xs t p) h = h.0

  first : (x : Term) (xs : Terms) → AllBelow (all_term_types (with_term x xs)) → Below (type_of x)
  first x xs h = its_type x (every_split Below (term_types x) (all_term_types xs) h).0

  others : (x : Term) (xs : Terms) → AllBelow (all_term_types (with_term x xs)) → AllBelow (all_term_types xs)
  others x xs h = (every_split Below (term_types x) (all_term_types xs) h).1

  given_below : (g : Given) (xs : Terms) → GivesBelow (length s.tags) g → AllBelow (all_term_types xs) →
      Below (given_type g (list_of xs))
  given_below (Of t) xs h ys = h
  given_below As_argument no_terms h ys = tt
  given_below As_argument (with_term x xs) h ys = first x xs ys

  unary_below : (o : UnaryOp) (u t : Ty) → UnaryFits o u t → Below u → Below t
  unary_below unary.LogicalNot u t h b = subst Below (sym h.1) tt
  unary_below o u t h b = subst Below h.1 b

  decayed_below : (u t : Ty) → Decays u t → Below u → Below t
  decayed_below u t (inl h) b = subst Below (sym h.3) (subst Below h.2 b)
  decayed_below u t (inr h) b = subst Below (sym h.1) b

  compound_below : (o : _) (of u t : Ty) → CompoundOk s.tags o of u t → Below t → Below of
  compound_below o of u t (inl h) b = subst Below (sym h.1) b
  compound_below o of u t (inr h) b = integer_below (length s.tags) of h.2

  -- the type of a node, and what it names beside it
  shape_below : (m : Shape) (xs : Terms) (t : Ty) → ShapeOk true s m xs t → AllBelow (all_term_types xs) →
      Below t × AllBelow (shape_types m)
  shape_below (tree.Constant v) no_terms t h ys = (type_below s.tags t h.2, tt)
  shape_below (tree.Literal k) no_terms t h ys = (subst Below (sym h.1) tt, tt)
  shape_below (tree.Var k) no_terms t h ys =
      (refined_below (length s.tags) t h.0.of h.2 (locals k h.0 h.1), tt)
  shape_below (tree.Global k) no_terms t h ys =
      (refined_below (length s.tags) t h.0.of h.2 (type_below s.tags h.0.of (statics k h.0 h.1)), tt)
  shape_below (tree.Fun k) no_terms t h ys =
      (refined_below (length s.tags) t h.0.of h.2 (type_below s.tags h.0.of (routines k h.0 h.1).0), tt)
  shape_below tree.Load (with_term a no_terms) t h ys =
      (subst Below (sym h.1) (bare_below (length s.tags) (type_of a) (first a no_terms ys)), tt)
  shape_below tree.Decay (with_term a no_terms) t h ys = (decayed_below (type_of a) t h (first a no_terms ys), tt)
  shape_below tree.Deref (with_term a no_terms) t h ys = (subst Below h.0 (first a no_terms ys), tt)
  shape_below (tree.Member k) (with_term a no_terms) t h ys = (
    subst Below (sym h.8) (as_qualified_below (length s.tags) (type_of a) h.3.of
        (type_below s.tags h.3.of ((tags h.0 h.1 h.5).parts h.2 k h.3 h.6 h.7).type)),
    tt,
  )
  shape_below tree.Address (with_term a no_terms) t h ys = (subst Below (sym h.1) (first a no_terms ys), tt)
  shape_below tree.Convert (with_term a no_terms) t h ys = (type_below s.tags t h.1, tt)
  shape_below (tree.Unary o) (with_term a no_terms) t h ys = (unary_below o (type_of a) t h (first a no_terms ys), tt)
  shape_below (tree.Step adds in_front) (with_term a no_terms) t h ys =
      (subst Below (sym h.1) (bare_below (length s.tags) (type_of a) (first a no_terms ys)), tt)
  shape_below (tree.Arithmetic o) (with_term a (with_term b no_terms)) t h ys = (subst Below (sym h.0.2) tt, tt)
  shape_below (tree.Capability o d) (with_term a (with_term b no_terms)) t h ys = (subst Below (sym h.0.1) tt, tt)
  shape_below (tree.Plus minus) (with_term a (with_term b no_terms)) t h ys = (
    ⊎_elim (λ z. subst Below z.0 (first a (with_term b no_terms) ys))
        (λ z. subst Below z.2 (first b no_terms (others a (with_term b no_terms) ys))) h.1,
    tt,
  )
  shape_below tree.Difference (with_term a (with_term b no_terms)) t h ys = (subst Below (sym h.2) tt, tt)
  shape_below (tree.Compare o) (with_term a (with_term b no_terms)) t h ys = (subst Below (sym h.0) tt, tt)
  shape_below tree.And (with_term a (with_term b no_terms)) t h ys = (subst Below (sym h.0) tt, tt)
  shape_below tree.Or (with_term a (with_term b no_terms)) t h ys = (subst Below (sym h.0) tt, tt)
  shape_below tree.Comma (with_term a (with_term b no_terms)) t h ys =
      (subst Below (sym h) (first b no_terms (others a (with_term b no_terms) ys)), tt)
  shape_below tree.Assign (with_term a (with_term b no_terms)) t h ys =
      (subst Below (sym h.1) (bare_below (length s.tags) (type_of a) (first a (with_term b no_terms) ys)), tt)
  shape_below (tree.Compound o of) (with_term a (with_term b no_terms)) t h ys =
      let z : Below t =
      subst Below (sym h.1) (bare_below (length s.tags) (type_of a) (first a (with_term b no_terms) ys)) in
      (z, (compound_below o of (type_of b) t h.2 z, tt))
  shape_below tree.Conditional (with_term a (with_term b (with_term c no_terms))) t h ys = (
    subst Below h.1 (first b (with_term c no_terms) (others a (with_term b (with_term c no_terms)) ys)),
    tt,
  )
  shape_below tree.Call (with_term f xs) t h ys =
      let z : Below (Pointer (Function h.0 h.1)) = subst Below h.2 (first f xs ys) in
      (subst Below (sym h.4) (bare_below (length s.tags) h.0 z.0), tt)
  shape_below (tree.Library k) xs t h ys =
      let g = every_at (λ (f : Service). GivesBelow (length s.tags) f.gives) services (services_below (length s.tags)) k
      h.0 h.1 in
      (subst Below (sym h.3) (given_below h.0.gives xs g ys), tt)
  shape_below m xs t h ys = absurd h

  mutual
    term_below : (x : Term) → TermOk true s x → AllBelow (term_types x)
    term_below (term m xs t p) h =
        let ys = terms_below xs h.0 in
        every_both Below (t ∷ shape_types m) (all_term_types xs) (shape_below m xs t h.1 ys) ys

    terms_below : (xs : Terms) → TermsOk true s xs → AllBelow (all_term_types xs)
    terms_below no_terms h = tt
    terms_below (with_term x xs) h =
        every_both Below (term_types x) (all_term_types xs) (term_below x h.0) (terms_below xs h.1)

  mutual
    action_below : (t : Ty) (j : Inside) (x : Action) → ActionOk s t j x → AllBelow (action_types x)
    action_below t j (action f xs ys p) h =
        every_both Below (all_term_types xs) (all_action_types ys) (terms_below xs h.0)
        (actions_below t (inside_of f j) ys h.2)

    actions_below : (t : Ty) (j : Inside) (xs : Actions) → ActionsOk s t j xs → AllBelow (all_action_types xs)
    actions_below t j no_actions h = tt
    actions_below t j (with_action x xs) h =
        every_both Below (action_types x) (all_action_types xs) (action_below t j x h.0) (actions_below t j xs h.1)

-- ---- the types stay where the names have other numbers

shape_types_with : (n : programs.Numbers) (m : Shape) → shape_types (shape_with n m) ≡ shape_types m
shape_types_with n (tree.Global k) = refl
shape_types_with n (tree.Fun k) = refl
shape_types_with n m = refl

joined : (t : Ty) (xs ys us vs : List Ty) → xs ≡ us → ys ≡ vs → (t ∷ xs) ++ ys ≡ (t ∷ us) ++ vs
joined t xs ys us vs e f = cc

both : (xs ys us vs : List Ty) → xs ≡ us → ys ≡ vs → xs ++ ys ≡ us ++ vs
both xs ys us vs e f = cc

mutual
  term_types_with : (n : programs.Numbers) (x : Term) → term_types (term_with n x) ≡ term_types x
  term_types_with n (term m xs t p) =
      joined t (shape_types (shape_with n m)) (all_term_types (terms_with n xs)) (shape_types m) (all_term_types xs)
      (shape_types_with n m) (terms_types_with n xs)

  terms_types_with : (n : programs.Numbers) (xs : Terms) → all_term_types (terms_with n xs) ≡ all_term_types xs
  terms_types_with n no_terms = refl
  terms_types_with n (with_term x xs) =
      both (term_types (term_with n x)) (all_term_types (terms_with n xs)) (term_types x) (all_term_types xs)
      (term_types_with n x) (terms_types_with n xs)

mutual
  action_types_with : (n : programs.Numbers) (x : Action) → action_types (action_with n x) ≡ action_types x
  action_types_with n (action f xs ys p) =
      both (all_term_types (terms_with n xs)) (all_action_types (actions_with n ys)) (all_term_types xs)
      (all_action_types ys) (terms_types_with n xs) (actions_types_with n ys)

  actions_types_with : (n : programs.Numbers) (xs : Actions) →
      all_action_types (actions_with n xs) ≡ all_action_types xs
  actions_types_with n no_actions = refl
  actions_types_with n (with_action x xs) =
      both (action_types (action_with n x)) (all_action_types (actions_with n xs)) (action_types x)
      (all_action_types xs) (action_types_with n x) (actions_types_with n xs)

-- ---- lists

every_from : {A : Type 0} (P : A → Type 0) (xs : List A) → ((k : ℕ) (x : A) → slice_get xs k ≡ Some x → P x) →
    Every P xs
every_from P [] h = tt
every_from P (x ∷ xs) h = (h 0 x refl, every_from P xs (λ k y e. h (suc k) y e))

every_map : {A B : Type 0} (P : B → Type 0) (f : A → B) (xs : List A) → Every (λ x. P (f x)) xs → Every P (map f xs)
every_map P f [] h = tt
every_map P f (x ∷ xs) h = (h.0, every_map P f xs h.1)

every_joined : {A B : Type 0} (P : B → Type 0) (f : A → List B) (xs : List A) → Every (λ x. Every P (f x)) xs →
    Every P (flat_map f xs)
every_joined P f [] h = tt
every_joined P f (x ∷ xs) h = every_both P (f x) (flat_map f xs) h.0 (every_joined P f xs h.1)

-- ---- variables

module _ (names : Names) (s : State) (a : AtEnd s) where
  abbrev count : ℕ
  count = length (passed_records s.tags)

  same_count : count ≡ length s.tags
  same_count = length-map s.tags _

  old_below : (t : Ty) → TypeOk s.tags t → TagsBelow count t
  old_below t h = rw same_count (type_below s.tags t h)

  taken_below : (t : Ty) → by_pointer t ≡ true → Complete s.tags t → TagsBelow count (bare t)
  taken_below (Tagged n) b c = rw same_count (complete_there s.tags n c)
  taken_below (Const (Tagged n)) b c = rw same_count (complete_there s.tags n c)
  taken_below t b c = absurd (false≢true b)

  module _ (f : RoutineState) (b : Body) (ok : BodyOk s f.of b) (signature : TypeOk s.tags f.of) where
    named : (k : ℕ) (v : Variable) → slice_get (map variable_of b.vars) k ≡ Some v → TypeOk s.tags v.of
    named k v e =
        let l = mapped_from variable_of b.vars k v e in
        subst (λ (w : Variable). TypeOk s.tags w.of) l.2 (ok.complete k l.0 l.1).1

    vars_below : (k : ℕ) (v : LocalState) → slice_get (passed_whole names f b).vars k ≡ Some v → TagsBelow count v.of
    vars_below k v e =
        let w = mapped_from as_local (passed_routine names (written f b)).vars k v e in
        let P : Variable → Type 0 = λ w. TagsBelow count w.of in
        let calls = action_calls s (TagsBelow count) taken_below b.vars ok.gives outside b.action ok.body in
        subst (λ (v : LocalState). TagsBelow count v.of) w.2 (every_variable P names (written f b)
        (λ r ps is. bare_below count r (subst (TagsBelow count) is (old_below f.of signature)).0)
        (λ j x g. type_below (passed_records s.tags) (passed x.of) (type_passed s.tags x.of (named j x g)))
        (λ j x g. bare_below count x.of (old_below x.of (named j x g)))
        (λ j x g. (hidden_fit (TagsBelow count) names b.action calls j x g).0) k w.0 w.1)

-- the variables of each function as it is run
vars_there : (names : Names) (s : State) → AtEnd s → (k : ℕ) (h : RoutineState) (c : Body) →
    slice_get (passed_state names s).routines k ≡ Some h → h.body ≡ Some c → (j : ℕ) (v : LocalState) →
    slice_get c.vars j ≡ Some v → TagsBelow (length (passed_records s.tags)) v.of
vars_there names s a k h c e q j v g =
    let f = mapped_from (passed_function names) s.routines k h e in
    let b = option_from (passed_whole names f.0) f.0.body c (ap (λ (h : RoutineState). h.body) f.2 ∙ q) in
    vars_below names s a f.0 b.0 (a.outside.strict.bodies k f.0 b.0 f.1 b.1) (a.outside.inv.routines k f.0 f.1).0 j v
    (ap (λ (c : Body). slice_get c.vars j) b.2 ∙ g)
  where
    option_from : {A B : Type 0} (f : A → B) (o : Option A) (y : B) → option_map f o ≡ Some y →
        (x : A) × (o ≡ Some x) × (f x ≡ y)
    option_from f None y e = absurd cc
    option_from f (Some x) y e = (x, refl, same_Some (f x) y e)

-- ---- programs

members_below : (ts : List TagState) (ms : List Part) →
    ((k : ℕ) (m : Part) → slice_get ms k ≡ Some m → TypeOk ts m.of) →
    Every (TagsBelow (length ts)) (map (λ (m : Span × Ty). m.1) (map member_of_tag ms))
members_below ts [] h = tt
members_below ts (m ∷ ms) h = (type_below ts m.of (h 0 m refl), members_below ts ms (λ k x e. h (suc k) x e))

module _ (s : State) (z : Standing s)
    (vars : (k : ℕ) (f : RoutineState) (b : Body) → slice_get s.routines k ≡ Some f → f.body ≡ Some b →
    (j : ℕ) (v : LocalState) → slice_get b.vars j ≡ Some v → TagsBelow (length s.tags) v.of) where
  abbrev There : Ty → Type 0
  There t = TagsBelow (length s.tags) t

  tag_below : (k : ℕ) (t : TagState) → slice_get s.tags k ≡ Some t → Every There (tag_types (tag_of t))
  tag_below k t e = by_members t.members refl
    where
      by_members : (o : Option (List Part)) → t.members ≡ o → Every There (member_types (members_of_tag o))
      by_members None q = tt
      by_members (Some ms) q = members_below s.tags ms (λ j m i. ((z.inv.tags k t e).parts ms j m q i).type)

  object_below : (k : ℕ) (g : StaticState) → slice_get s.statics k ≡ Some g →
      Every (λ (o : Object). There (object_type o)) (object_of s g)
  object_below k g e = by g.defined
    where
      by : (d : Bool) → Every (λ (o : Object). There (object_type o)) (object_of s (record g { defined = d }))
      by true = (type_below s.tags g.of (z.inv.statics k g e), tt)
      by false = tt

  routine_below : (k : ℕ) (f : RoutineState) → slice_get s.routines k ≡ Some f →
      Every (λ (r : Routine). Every There (routine_types r)) (routine_of s f)
  routine_below k f e = by_body f.body refl
    where
      by_body : (o : Option Body) → f.body ≡ o →
          Every (λ (r : Routine). Every There (routine_types r)) (with_body s f o)
      by_body None q = tt
      by_body (Some b) q =
          let w = vars k f b e q in
          let ok = z.bodies k f b e q in
          let is = every_from (λ (v : LocalState). There v.of) b.vars w in
          let own = with_locals s b.vars in
          let body : Every There (action_types b.action) =
          action_below own z.inv.tags z.inv.statics z.inv.routines w ok.gives outside b.action ok.body
          in (
            every_both There (f.of ∷ map variable_type (map variable_of b.vars))
                (action_types (action_with (numbers_of s) b.action)) (
                  type_below s.tags f.of (z.inv.routines k f e).0,
                  every_map There variable_type (map variable_of b.vars)
                      (every_map (λ (v : Variable). There v.of) variable_of b.vars is),
                )
                (subst (Every There) (sym (action_types_with (numbers_of s) b.action)) body),
            tt,
          )

  program_below : Every (TagsBelow (length (program_of s).tags)) (program_types (program_of s))
  unfolding program_of
  program_below =
      let all : Every There (program_types (program_of s)) =
      every_both There (flat_map tag_types (map tag_of s.tags))
      (map object_type (flat_map (object_of s) s.statics)
      ++ flat_map routine_types (flat_map (routine_of s) s.routines))
      (every_joined There tag_types (map tag_of s.tags)
      (every_map (λ (t : Tag). Every There (tag_types t)) tag_of s.tags
      (every_from (λ (t : TagState). Every There (tag_types (tag_of t))) s.tags tag_below)))
      (every_both There (map object_type (flat_map (object_of s) s.statics))
      (flat_map routine_types (flat_map (routine_of s) s.routines))
      (every_map There object_type (flat_map (object_of s) s.statics)
      (every_flat (λ (o : Object). There (object_type o)) (object_of s) s.statics object_below))
      (every_joined There routine_types (flat_map (routine_of s) s.routines)
      (every_flat (λ (r : Routine). Every There (routine_types r)) (routine_of s) s.routines routine_below))) in
      rw length-map all

pub typed_tags : (x : Syn) (q : Program) → IsFit x → typing x ≡ Ok q →
    Every (TagsBelow (length q.tags)) (program_types q)
typed_tags x q fit e =
    let t = typed_end x q fit e in
    let now = passed_state t.0 t.1 in
    subst (λ (r : Program). Every (TagsBelow (length r.tags)) (program_types r)) (passed_shown t.0 t.1 ∙ t.3)
    (program_below now (passed_stands t.0 t.1 t.2) (vars_there t.0 t.1 t.2))
