-- Specifiers, type names, members and parameters, by their parts (C11 6.7.2, 6.7.2.1, 6.7.6.3, 6.7.7).
use Rattle.std.proofs.Common.{◌≡◌, ℕ, ◌+◌, ℤ, Bool, true, false, List, [], ◌∷◌, ◌++◌, length}
use Rattle.std.proofs.Common.{Some, None, Result, Ok, Err, refl, sym, ap, ◌∙◌, arith, append_assoc}
use Rattle.std.specs.Prelude.{◌==◌, ◌&&◌, ◌||◌, not, if◌then◌else◌, pos}
use Rattle.std.proofs.lemmas.List.{append-nil}
use Rattle.ck_base.specs.declared.positions.Pos.{Pos}
use Rattle.ck_base.specs.Tokens.{Lexeme}
use Rattle.c_tree.specs.declared.syntax.NodeKind.{NodeKind}
use Rattle.c_tree.specs.declared.syntax.NodeKind.TheVariants as Kinds
use Rattle.c_tree.specs.Syntax.{Syn, Syns, node, nil, more}
use Rattle.c_tree.specs.Types.{Ty}
use Rattle.c_tree.specs.Scopes.{Part, State, Doing, Fault, give, refuse, need, change, continued, ◌>>=◌, ◌>>◌}
use Rattle.c_tree.specs.Readings.{Reading, Specified, Param, Derived}
use Rattle.c_tree.specs.Declarators as meant
use Rattle.c_tree.specs.Declarators.{names_type, named_types, specifiers, has_register, type_name, abstract, member_of}
use Rattle.c_tree.specs.Declarators.{member_declarators, all_members, add_member, parameter_of, parameter_from}
use Rattle.c_tree.specs.Declarators.{parameter_list, bind_parameter, enumerators, enumerator, constant, enumerate}
use Rattle.c_tree.specs.Programs.{reading, readings, type_of_kind}
use Rattle.c_declarators.specs.Steps as steps
use Rattle.c_plain_rules.specs.Specifiers.{names_kind, some_list}
use Rattle.c_readings.specs.Specifying.{types_on, type_behind, unstored, within}
use Rattle.c_readings.specs.Specifying.{members_on, members_of, declarators_on, declarator_at}
use Rattle.c_readings.specs.Specifying.{enumerators_on, enumerator_at, params_on, param_behind}
use Rattle.c_readings.proofs.Among.{bind_ext, bind_bind}
use Rattle.c_readings.proofs.Gathering.{readings_more, readings_nil}

-- ---- the types among specifiers

pub names_type_is : (k : NodeKind) (t : Lexeme) (xs : Syns) → names_type (node k t xs) ≡ names_kind k
names_type_is Kinds.TypedefName t xs = refl
names_type_is (Kinds.Record k) t xs = refl
names_type_is Kinds.Enum t xs = refl
names_type_is k t xs = refl

pub types_begin : (alone : Bool) (xs : Syns) (s : State) → named_types alone xs (readings xs) s ≡ types_on alone xs [] s
types_begin alone xs s = at (named_types alone xs (readings xs) s)
  where
    at : (o : Result (List Ty × State) Fault) → o ≡ continued o (λ us. give ([] ++ us))
    at (Ok x) = refl
    at (Err e) = refl

pub types_end : (alone : Bool) (ts : List Ty) (s : State) → types_on alone nil ts s ≡ Ok (ts, s)
types_end alone ts s = ap (λ (rs : List Reading). (named_types alone nil rs >>= λ us. give (ts ++ us)) s) readings_nil
    ∙ ap (λ (us : List Ty). (let o : Result (List Ty × State) Fault = Ok (us, s) in o)) (append-nil ts)

pub types_more : (alone : Bool) (x : Syn) (xs : Syns) (ts : List Ty) (s : State) →
    types_on alone (more x xs) ts s ≡ (type_behind alone x ts >>= types_on alone xs) s
types_more alone x xs ts s =
    ap (λ (rs : List Reading). (named_types alone (more x xs) rs >>= λ us. give (ts ++ us)) s) (readings_more x xs)
    ∙ at (names_type x)
  where
    third : (t : Ty) (o : Result (List Ty × State) Fault) →
        continued (continued o (λ us. give (t ∷ us))) (λ us. give (ts ++ us))
        ≡ continued o (λ us. give ((ts ++ t ∷ []) ++ us))
    third t (Ok y) = ap (λ (us : List Ty). (let o : Result (List Ty × State) Fault = Ok (us, y.1) in o))
        (sym (append_assoc ts (t ∷ []) y.0))
    third t (Err e) = refl

    second : (o : Result (Ty × State) Fault) →
        continued (continued o (λ t. named_types alone xs (readings xs) >>= λ us. give (t ∷ us)))
        (λ us. give (ts ++ us))
        ≡ continued (continued (continued o (λ t. give (Some t))) (λ o. give (ts ++ some_list o))) (types_on alone xs)
    second (Ok y) = third y.0 (named_types alone xs (readings xs) y.1)
    second (Err e) = refl

    at : (b : Bool) → ((if b then ((reading x).type alone >>= λ t. named_types alone xs (readings xs)
        >>= λ us. give (t ∷ us)) else named_types alone xs (readings xs)) >>= λ us. give (ts ++ us)) s
        ≡ (((if b then ((reading x).type alone >>= λ t. give (Some t)) else give None)
        >>= λ o. give (ts ++ some_list o)) >>= types_on alone xs) s
    at true = second ((reading x).type alone s)
    at false = ap (λ (us : List Ty). types_on alone xs us s) (sym (append-nil ts))

-- ---- specifiers

pub specifiers_are : (alone : Bool) (t : Lexeme) (xs : Syns) (rs : List Reading) (n : ℕ) (s : State) → length rs ≡ n →
    specifiers alone t xs rs s ≡ (named_types (alone && n == 1) xs rs >>= λ ts. steps.specified t xs ts) s
unfolding specifiers
specifiers_are alone t xs rs n s e =
    ap (λ (k : ℕ). (named_types (alone && k == 1) xs rs >>= λ ts. steps.specified t xs ts) s) e

-- a test on what was given, and what comes behind it
unstored_then : {B : Type 0} (r : Reading) (register : Bool) (p : Pos) (f : Specified → Doing B) (s : State) →
    (r.specified false >>= λ x. need (not (x.stored || register)) 133 p >> f x) s ≡ (unstored r register p >>= f) s
unstored_then {B} r register p f s = at (r.specified false s)
  where
    test : (b : Bool) (x : Specified) (t : State) → (need b 133 p >> f x) t ≡ continued ((need b 133 p >> give x) t) f
    test true x t = refl
    test false x t = refl

    at : (o : Result (Specified × State) Fault) →
        continued o (λ x. need (not (x.stored || register)) 133 p >> f x)
        ≡ continued (continued o (λ x. need (not (x.stored || register)) 133 p >> give x)) f
    at (Ok y) = test (not (y.0.stored || register)) y.0 y.1
    at (Err e) = refl

abstract_is : (r : Reading) (rs : List Reading) → abstract r rs ≡ within rs
abstract_is r [] = refl
abstract_is r (q ∷ qs) = refl

-- a test in front of two steps
need_bind : {A B : Type 0} (b : Bool) (p : Pos) (e : Doing A) (g : A → Doing B) (u : State) →
    (need b 133 p >> e >>= g) u ≡ (need b 133 p >> (e >>= g)) u
need_bind true p e g u = refl
need_bind false p e g u = refl

pub type_name_is : (t : Lexeme) (p : Pos) (xs : Syns) (r : Reading) (rs qs : List Reading) (b : Bool) (s : State) →
    t.pos ≡ p → qs ≡ r ∷ rs → has_register xs ≡ b →
    type_name t xs qs s ≡ (unstored r b p >>= λ x. within rs >>= λ d. steps.named_type x.of d.wraps p) s
unfolding type_name
type_name_is t p xs r rs qs b s e h g =
    ap (λ (z : List Reading). type_name t xs z s) h
    ∙ bind_ext (r.specified false) (λ x. need (not (x.stored || has_register xs)) 133 t.pos >> abstract r rs
    >>= λ d. steps.named_type x.of d.wraps t.pos)
    (λ x. need (not (x.stored || has_register xs)) 133 t.pos
    >> (abstract r rs >>= λ d. steps.named_type x.of d.wraps t.pos)) s
    (λ x u. need_bind (not (x.stored || has_register xs)) t.pos (abstract r rs)
    (λ d. steps.named_type x.of d.wraps t.pos) u)
    ∙ unstored_then r (has_register xs) t.pos (λ x. abstract r rs >>= λ d. steps.named_type x.of d.wraps t.pos) s
    ∙ ap (λ (z : Bool). (unstored r z t.pos >>= λ x. abstract r rs >>= λ d. steps.named_type x.of d.wraps t.pos) s) g
    ∙ ap (λ (q : Pos). (unstored r b q >>= λ x. abstract r rs >>= λ d. steps.named_type x.of d.wraps q) s) e
    ∙ ap (λ (a : Doing Derived). (unstored r b p >>= λ x. a >>= λ d. steps.named_type x.of d.wraps p) s)
    (abstract_is r rs)

pub no_type_name : (t : Lexeme) (p : Pos) (xs : Syns) (qs : List Reading) (s : State) → t.pos ≡ p → qs ≡ [] →
    type_name t xs qs s ≡ refuse 120 p s
unfolding type_name
no_type_name t p xs qs s e h = ap (λ (z : List Reading). type_name t xs z s) h ∙ ap (λ (q : Pos). refuse 120 q s) e

pub no_type : (k : NodeKind) (t : Lexeme) (p : Pos) (xs : Syns) (rs : List Reading) (alone : Bool) (s : State) →
    t.pos ≡ p → (k ≡ Kinds.TypedefName → ⊥) → ((o : _) → k ≡ Kinds.Record o → ⊥) → (k ≡ Kinds.Enum → ⊥) →
    (k ≡ Kinds.TypeName → ⊥) → type_of_kind k t xs rs alone s ≡ refuse 120 p s
no_type Kinds.TypedefName t p xs rs alone s e a b c d = absurd (a refl)
no_type (Kinds.Record o) t p xs rs alone s e a b c d = absurd (b o refl)
no_type Kinds.Enum t p xs rs alone s e a b c d = absurd (c refl)
no_type Kinds.TypeName t p xs rs alone s e a b c d = absurd (d refl)
no_type k t p xs rs alone s e a b c d = ap (λ (q : Pos). refuse 120 q s) e

-- ---- members

pub member_is : (t : Lexeme) (p : Pos) (xs : Syns) (r : Reading) (rs qs : List Reading) (ms : List Part) (b : Bool)
    (s : State) → t.pos ≡ p → qs ≡ r ∷ rs → has_register xs ≡ b →
    member_of t xs qs ms s ≡ (unstored r b p >>= λ x. member_declarators x rs ms) s
unfolding member_of
member_is t p xs r rs qs ms b s e h g =
    ap (λ (z : List Reading). member_of t xs z ms s) h
    ∙ unstored_then r (has_register xs) t.pos (λ x. member_declarators x rs ms) s
    ∙ ap (λ (z : Bool). (unstored r z t.pos >>= λ x. member_declarators x rs ms) s) g
    ∙ ap (λ (q : Pos). (unstored r b q >>= λ x. member_declarators x rs ms) s) e

pub no_member : (t : Lexeme) (p : Pos) (xs : Syns) (qs : List Reading) (ms : List Part) (s : State) → t.pos ≡ p →
    qs ≡ [] → member_of t xs qs ms s ≡ refuse 120 p s
unfolding member_of
no_member t p xs qs ms s e h = ap (λ (z : List Reading). member_of t xs z ms s) h ∙ ap (λ (q : Pos). refuse 120 q s) e

pub members_more : (x : Syn) (xs : Syns) (ms : List Part) (s : State) →
    members_on (more x xs) ms s ≡ (members_of x ms >>= members_on xs) s
members_more x xs ms s = ap (λ (rs : List Reading). all_members rs ms s) (readings_more x xs)

pub members_end : (ms : List Part) (s : State) → members_on nil ms s ≡ Ok (ms, s)
members_end ms s = ap (λ (rs : List Reading). all_members rs ms s) readings_nil

pub declarators_more : (y : Specified) (x : Syn) (xs : Syns) (ms : List Part) (s : State) →
    declarators_on y (more x xs) ms s ≡ (declarator_at y x ms >>= declarators_on y xs) s
declarators_more y x xs ms s =
    ap (λ (rs : List Reading). member_declarators y rs ms s) (readings_more x xs)
    ∙ sym (bind_bind (reading x).derived (λ d. add_member y y.stored d.name d.wraps ms) (declarators_on y xs) s)

pub declarators_end : (y : Specified) (ms : List Part) (s : State) → declarators_on y nil ms s ≡ Ok (ms, s)
declarators_end y ms s = ap (λ (rs : List Reading). member_declarators y rs ms s) readings_nil

-- ---- enumerators

pub enumerators_more : (x : Syn) (xs : Syns) (z : ℤ) (s : State) →
    enumerators_on (more x xs) z s ≡ (enumerator_at x z >>= enumerators_on xs) s
enumerators_more x xs z s = ap (λ (rs : List Reading). enumerators rs z s) (readings_more x xs)

pub enumerators_end : (z : ℤ) (s : State) → enumerators_on nil z s ≡ Ok (tt, s)
enumerators_end z s = ap (λ (rs : List Reading). enumerators rs z s) readings_nil

pub enumerator_alone : (t : Lexeme) (rs : List Reading) (next : ℤ) (s : State) → rs ≡ [] →
    enumerator t rs next s ≡ enumerate t next t.pos s
unfolding enumerator
enumerator_alone t rs next s e = ap (λ (qs : List Reading). enumerator t qs next s) e

pub enumerator_with : (t : Lexeme) (r : Reading) (rs qs : List Reading) (next : ℤ) (s : State) → rs ≡ r ∷ qs →
    enumerator t rs next s ≡ (constant r >>= λ c. enumerate t c.number c.first) s
unfolding enumerator
enumerator_with t r rs qs next s e = ap (λ (z : List Reading). enumerator t z next s) e

-- ---- parameters

pub parameter_is : (t : Lexeme) (r : Reading) (rs qs : List Reading) (only : Bool) (s : State) → qs ≡ r ∷ rs →
    parameter_of t qs only s ≡ (unstored r false t.pos >>= λ x. within rs >>= λ d. parameter_from only x t d) s
unfolding parameter_of
parameter_is t r rs qs only s h =
    ap (λ (z : List Reading). parameter_of t z only s) h
    ∙ bind_ext (r.specified false) (λ x. need (not x.stored) 133 t.pos >> abstract r rs
    >>= λ d. parameter_from only x t d) (λ x. need (not (x.stored || false)) 133 t.pos
    >> (abstract r rs >>= λ d. parameter_from only x t d)) s (λ x u. with_false x u x.stored)
    ∙ unstored_then r false t.pos (λ x. abstract r rs >>= λ d. parameter_from only x t d) s
    ∙ ap (λ (a : Doing Derived). (unstored r false t.pos >>= λ x. a >>= λ d. parameter_from only x t d) s)
    (abstract_is r rs)
  where
    with_false : (x : Specified) (u : State) (b : Bool) →
        (need (not b) 133 t.pos >> abstract r rs >>= λ d. parameter_from only x t d) u
        ≡ (need (not (b || false)) 133 t.pos >> (abstract r rs >>= λ d. parameter_from only x t d)) u
    with_false x u true = refl
    with_false x u false = refl

pub no_parameter : (t : Lexeme) (qs : List Reading) (only : Bool) (s : State) → qs ≡ [] →
    parameter_of t qs only s ≡ refuse 120 t.pos s
unfolding parameter_of
no_parameter t qs only s h = ap (λ (z : List Reading). parameter_of t z only s) h

pub params_begin : (only : Bool) (xs : Syns) (s : State) →
    parameter_list 0 only (readings xs) s ≡ params_on only xs [] s
params_begin only xs s = at (parameter_list 0 only (readings xs) s)
  where
    at : (o : Result (List Param × State) Fault) → o ≡ continued o (λ qs. give ([] ++ qs))
    at (Ok x) = refl
    at (Err e) = refl

pub params_end : (only : Bool) (ps : List Param) (s : State) → params_on only nil ps s ≡ Ok (ps, s)
params_end only ps s = ap (λ (rs : List Reading). (parameter_list (length ps) only rs >>= λ qs. give (ps ++ qs)) s)
    readings_nil ∙ ap (λ (qs : List Param). (let o : Result (List Param × State) Fault = Ok (qs, s) in o))
    (append-nil ps)

-- what comes behind a parameter
abbrev pub param_then : Bool → Syns → List Param → Param → Doing (List Param)
param_then only xs ps p = (if p.nothing then give ps else (param_behind ps p >>= params_on only xs))

length_more : {A : Type 0} (xs : List A) (x : A) → length xs + 1 ≡ length (xs ++ x ∷ [])
length_more [] x = refl
length_more (y ∷ ys) x = let e : length ys + 1 ≡ length (ys ++ x ∷ []) = length_more ys x in omega arith

pub params_more : (only : Bool) (x : Syn) (xs : Syns) (ps : List Param) (s : State) →
    params_on only (more x xs) ps s ≡ ((reading x).parameter only >>= param_then only xs ps) s
params_more only x xs ps s =
    ap (λ (rs : List Reading). (parameter_list (length ps) only rs >>= λ qs. give (ps ++ qs)) s) (readings_more x xs)
    ∙ first ((reading x).parameter only s)
  where
    fourth : (p : Param) (o : Result (List Param × State) Fault) →
        continued (continued o (λ qs. give (p ∷ qs))) (λ qs. give (ps ++ qs))
        ≡ continued o (λ qs. give ((ps ++ p ∷ []) ++ qs))
    fourth p (Ok y) = ap (λ (qs : List Param). (let o : Result (List Param × State) Fault = Ok (qs, y.1) in o))
        (sym (append_assoc ps (p ∷ []) y.0))
    fourth p (Err e) = refl

    third : (p : Param) (t : State) →
        continued ((change (bind_parameter (length ps) p) >> parameter_list (length ps + 1) only (readings xs)
        >>= λ qs. give (p ∷ qs)) t) (λ qs. give (ps ++ qs)) ≡ (param_behind ps p >>= params_on only xs) t
    third p t =
        fourth p (parameter_list (length ps + 1) only (readings xs) (bind_parameter (length ps) p t))
        ∙ ap (λ (n : ℕ). continued (parameter_list n only (readings xs) (bind_parameter (length ps) p t))
        (λ qs. give ((ps ++ p ∷ []) ++ qs))) (length_more ps p)

    second : (b : Bool) (p : Param) (t : State) →
        continued ((if b then give []
        else (change (bind_parameter (length ps) p) >> parameter_list (length ps + 1) only (readings xs)
        >>= λ qs. give (p ∷ qs))) t) (λ qs. give (ps ++ qs))
        ≡ (if b then give ps else (param_behind ps p >>= params_on only xs)) t
    second true p t = ap (λ (qs : List Param). (let o : Result (List Param × State) Fault = Ok (qs, t) in o))
        (append-nil ps)
    second false p t = third p t

    first : (o : Result (Param × State) Fault) →
        continued (continued o (λ p. (if p.nothing then give []
        else (change (bind_parameter (length ps) p) >> parameter_list (length ps + 1) only (readings xs)
        >>= λ qs. give (p ∷ qs))))) (λ qs. give (ps ++ qs)) ≡ continued o (param_then only xs ps)
    first (Ok y) = second y.0.nothing y.0 y.1
    first (Err e) = refl
