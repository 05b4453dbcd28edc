-- What is answered of specifiers, type names, members, enumerators and declarators, from the answers of their parts.
use Rattle.std.proofs.Common.{◌≡◌, ℕ, ◌<◌, Bool, true, false, List, [], ◌∷◌, ◌++◌, length, map, Option, Some}
use Rattle.std.proofs.Common.{None, Result, Ok, Err, refl, sym, ap, subst, ◌∙◌, arith}
use Rattle.std.specs.Prelude.{All, ℤ, if◌then◌else◌, not, ◌||◌, ◌==◌, option_map}
use Rattle.std.specs.Global.{Vec}
use Rattle.std.proofs.lemmas.List.{map-append, append-nil}
use Rattle.std.proofs.lemmas.List.Elements.{All-push}
use Rattle.ck_base.specs.declared.positions.Pos.{Pos}
use Rattle.ck_base.specs.declared.refusal.Refusal.{Refusal}
use Rattle.ck_base.specs.declared.refusal.Refusal.TheVariants.{Code}
use Rattle.c_tree.specs.Syntax.{Syn}
use Rattle.c_tree.specs.Types.{Ty}
use Rattle.c_tree.specs.Programs.{reading}
use Rattle.c_tree.specs.Scopes as scopes
use Rattle.c_tree.specs.Scopes.{State, Doing, give, need, enter, innermost, ◌>>=◌, ◌>>◌}
use Rattle.c_tree.specs.Readings as meant
use Rattle.c_tree.specs.Readings.{Reading}
use Rattle.c_tree.specs.Declarators.{names_type, wrapped, prototype_of, parameter_list}
use Rattle.c_types.specs.declared.scopes.Scope.{Scope}
use Rattle.c_expressions.specs.Nodes.{IsWhole, type_in, type_count}
use Rattle.c_elaborator.specs.declared.work.Work.{Work}
use Rattle.c_elaborator.specs.declared.work.Name.{Name}
use Rattle.c_elaborator.specs.Answers.{quietly, Keeps, Done, Answers, TypeThere, IsType, NothingThere, IsNothing}
use Rattle.c_elaborator.proofs.Sequencing.{quiet_law, also_then, failed, gave, told, answers_at, need_true, need_false}
use Rattle.c_declarators.specs.declared.parts.Specified.{Specified}
use Rattle.c_declarators.specs.declared.parts.Param.{Param}
use Rattle.c_declarators.specs.declared.parts.Prototype.{Prototype}
use Rattle.c_declarators.specs.declared.parts.Wrap.{Wrap}
use Rattle.c_declarators.specs.declared.parts.Derived.{Derived}
use Rattle.c_declarators.specs.Forming.{ParamIsThere, WrapIsThere}
use Rattle.c_declarators.specs.Parts.{in_any, SpecifiedThere, IsSpecified, DerivedThere, IsDerived, IsWrap}
use Rattle.c_declarators.specs.Parts.{ShowsDerived, shown_in, any_scope, name_token, param_in}
use Rattle.c_declarators.specs.Parts.{NumberThere, IsNumber, ScopeThere, ShowsScopeOf}
use Rattle.c_declarators.specs.Steps.{closing}
use Rattle.c_declarators.proofs.Lasting.{derived_lasts}
use Rattle.c_declarators.proofs.Deriving.{nothing_derived, part_derived, part_there}
use Rattle.c_elaborator.specs.Parts.{IsPart}
use Rattle.c_plain_rules.specs.Specifiers.{some_list}
use Rattle.c_readings.specs.Folding.{SoFar}
use Rattle.c_readings.proofs.Folding.{fold_more, fold_fails}
use Rattle.c_readings.proofs.Specifiers.{enumerators_more}
use Rattle.c_readings.specs.Specifying.{enumerators_on, enumerator_at, maybe_type, unstored}
use Rattle.c_readings.specs.Specifying.{MaybeTypeThere, IsMaybeType, ParamsThere, AreParams, PrototypeThere}
use Rattle.c_readings.specs.Specifying.{ShowsPrototype}
use Rattle.c_readings.proofs.Among.{bind_ext, then_shown, then_refused, then_failed, joined_done, made_done}
use Rattle.c_readings.proofs.Lasting.{types_there, types_kept, specified_kept}
use Rattle.c_readings.proofs.Lasting.{some_specified}
use Rattle.c_readings.proofs.Lasting.{some_derived, without_scopes, derived_there, params_kept, params_there}

-- ---- lists

pub empty_list : {A : Type 0} (xs : List A) → length xs ≡ 0 → xs ≡ []
empty_list [] e = refl
empty_list (x ∷ xs) e = absurd (omega arith)

pub none_there : {A : Type 0} (P : A → Type 0) (xs : List A) → xs ≡ [] → All P xs
none_there {A} P xs e = subst (λ (z : List A). All P z) (sym e) (λ k d l. absurd (omega arith))

pub types_grow : (v w : Work) (items longer : List ℕ) (of : Option ℕ) (b : List Ty) (o : Option Ty) → Keeps v w →
    All (λ k. k < type_count v.nodes) items → longer ≡ items ++ some_list of → b ≡ map (type_in v.nodes) items →
    o ≡ option_map (type_in w.nodes) of → b ++ some_list o ≡ map (type_in w.nodes) longer
types_grow v w items longer None b o k t e i j =
    ap (λ (x : Option Ty). b ++ some_list x) j ∙ append-nil b ∙ i ∙ sym (types_kept v w items k t)
    ∙ ap (map (type_in w.nodes)) (sym (e ∙ append-nil items))
types_grow v w items longer (Some n) b o k t e i j =
    ap (λ (x : Option Ty). b ++ some_list x) j
    ∙ ap (λ (xs : List Ty). xs ++ type_in w.nodes n ∷ []) (i ∙ sym (types_kept v w items k t))
    ∙ sym (map-append (type_in w.nodes) items (n ∷ [])) ∙ ap (map (type_in w.nodes)) (sym e)

pub types_grow_there : (v w : Work) (items longer : List ℕ) (of : Option ℕ) → Keeps v w →
    All (λ k. k < type_count v.nodes) items → longer ≡ items ++ some_list of → MaybeTypeThere w of →
    All (λ k. k < type_count w.nodes) longer
types_grow_there v w items longer None k t e m =
    subst (λ (z : List ℕ). All (λ j. j < type_count w.nodes) z) (sym (e ∙ append-nil items)) (types_there v w items k t)
types_grow_there v w items longer (Some n) k t e m =
    subst (λ (z : List ℕ). All (λ j. j < type_count w.nodes) z) (sym e)
    (All-push (λ j. j < type_count w.nodes) items n (types_there v w items k t) m)

-- ---- the type that a specifier names

pub type_found : (u v : Work) (alone : Bool) (x : Syn) (of : ℕ) → names_type x ≡ true →
    Done quietly u v ((reading x).type alone) (TypeThere v of) (IsType v of) →
    Answers quietly u v (maybe_type alone x) MaybeTypeThere IsMaybeType (Ok (Some of))
type_found u v alone x of e a =
    subst (λ (b : Bool). Done quietly u v (if b then ((reading x).type alone >>= λ y. give (Some y)) else give None)
    (MaybeTypeThere v (Some of)) (IsMaybeType v (Some of))) (sym e)
    (made_done u v ((reading x).type alone) (λ y. Some y) _ (MaybeTypeThere v (Some of)) (IsType v of)
    (IsMaybeType v (Some of)) a a.there (λ s y k i. ap (λ (z : Ty). Some z) i))

pub type_failed : (u v : Work) (alone : Bool) (x : Syn) (e : Refusal) → names_type x ≡ true →
    Answers quietly u v ((reading x).type alone) TypeThere IsType (Err e) →
    Answers quietly u v (maybe_type alone x) MaybeTypeThere IsMaybeType (Err e)
type_failed u v alone x e i a =
    subst (λ (b : Bool). Answers quietly u v (if b then ((reading x).type alone >>= λ y. give (Some y)) else give None)
    MaybeTypeThere IsMaybeType (Err e)) (sym i)
    (failed quietly u v v ((reading x).type alone) (λ y. give (Some y)) TypeThere IsType MaybeTypeThere IsMaybeType e a)

pub no_type_found : (u : Work) (alone : Bool) (x : Syn) → IsWhole u.nodes → names_type x ≡ false →
    Answers quietly u u (maybe_type alone x) MaybeTypeThere IsMaybeType (Ok None)
no_type_found u alone x w e =
    let none : Option Ty = None in
    subst (λ (b : Bool). Done quietly u u (if b then ((reading x).type alone >>= λ y. give (Some y)) else give None)
    (MaybeTypeThere u None) (IsMaybeType u None)) (sym e)
    (gave quietly quiet_law u none (MaybeTypeThere u None) w tt)

-- ---- specifiers without a storage class

pub unstored_refused : (u v : Work) (r : Reading) (b : Bool) (p : Pos) (s : Specified) → (s.stored || b) ≡ true →
    Done quietly u v (r.specified false) (SpecifiedThere v s) (in_any IsSpecified v s) →
    Answers quietly u v (unstored r b p) SpecifiedThere (in_any IsSpecified) (Err (Code 133 p))
unstored_refused u v r b p s e d =
    then_refused u v v (r.specified false) (λ x. need (not (x.stored || b)) 133 p >> give x) _
    (in_any IsSpecified v s) SpecifiedThere (in_any IsSpecified) SpecifiedThere (in_any IsSpecified) (Code 133 p) d
    (λ s' x k i. λ t z. need_false (not (x.stored || b)) 133 p (give x) t
    (ap (λ (c : Bool). not (c || b)) i.stored ∙ ap not e))

pub unstored_done : (u v : Work) (r : Reading) (b : Bool) (p : Pos) (s : Specified) → (s.stored || b) ≡ false →
    Done quietly u v (r.specified false) (SpecifiedThere v s) (in_any IsSpecified v s) →
    Answers quietly u v (unstored r b p) SpecifiedThere (in_any IsSpecified) (Ok s)
unstored_done u v r b p s e d =
    let a = some_specified v s in
    let each : (x : meant.Specified) → IsSpecified v s x →
    Answers quietly v v (need (not (x.stored || b)) 133 p >> give x) SpecifiedThere (in_any IsSpecified) (Ok s) =
    λ x i.
    answers_at quietly v v (need (not (x.stored || b)) 133 p >> give x) (give x) SpecifiedThere (in_any IsSpecified)
    (Ok s)
    (λ t z. need_true (not (x.stored || b)) 133 p (give x) t (ap (λ (c : Bool). not (c || b)) i.stored ∙ ap not e))
    (told quietly v v (give x) (SpecifiedThere v s) (SpecifiedThere v s) (λ t y. y ≡ x) (in_any IsSpecified v s)
    (λ t. t) (λ t y k q. subst (IsSpecified v s) (sym q) i)
    (gave quietly quiet_law v x (SpecifiedThere v s) d.whole d.there)) in
    then_shown u v v (r.specified false) (λ x. need (not (x.stored || b)) 133 p >> give x) _
    (in_any IsSpecified v s) a.0 SpecifiedThere (in_any IsSpecified) (Ok s) d (each a.0 a.1) (λ t x k i. each x i)

-- what comes behind specifiers
pub specified_then : {B Z : Type 0} (u v w : Work) (d : Doing meant.Specified) (s : Specified)
    (f : meant.Specified → Doing B) (There : Work → Z → Type 0) (Is : Work → Z → State → B → Type 0)
    (r : Result Z Refusal) →
    Done quietly u v d (SpecifiedThere v s) (in_any IsSpecified v s) →
    ((x : meant.Specified) → IsSpecified v s x → Answers quietly v w (f x) There Is r) →
    Answers quietly u w (d >>= f) There Is r
specified_then u v w d s f There Is r p h =
    let a = some_specified v s in
    then_shown u v w d f _ (in_any IsSpecified v s) a.0 There Is r p (h a.0 a.1) (λ t x k i. h x i)

-- what comes behind a declarator
pub derived_then : {B Z : Type 0} (u v w : Work) (e : Doing meant.Derived) (d : Derived) (f : meant.Derived → Doing B)
    (There : Work → Z → Type 0) (Is : Work → Z → State → B → Type 0) (r : Result Z Refusal) →
    Done quietly u v e (DerivedThere v d) (ShowsDerived v d) →
    ((y : meant.Derived) → IsDerived any_scope v d y → Answers quietly v w (f y) There Is r) →
    Answers quietly u w (e >>= f) There Is r
derived_then u v w e d f There Is r p h =
    let a = some_derived v d in
    then_shown u v w e f _ (ShowsDerived v d) a.0 There Is r p (h a.0 a.1) (λ s y k i. h y (without_scopes v d s y i))

-- and behind both
pub both_then : {B Z : Type 0} (u v z w : Work) (c : Doing meant.Specified) (e : Doing meant.Derived) (s : Specified)
    (d : Derived) (f : meant.Specified → meant.Derived → Doing B) (There : Work → Z → Type 0)
    (Is : Work → Z → State → B → Type 0) (r : Result Z Refusal) →
    Done quietly u v c (SpecifiedThere v s) (in_any IsSpecified v s) →
    Done quietly v z e (DerivedThere z d) (ShowsDerived z d) →
    ((x : meant.Specified) (y : meant.Derived) → IsSpecified z s x → IsDerived any_scope z d y →
    Answers quietly z w (f x y) There Is r) → Answers quietly u w (c >>= λ x. e >>= λ y. f x y) There Is r
both_then u v z w c e s d f There Is r p q h =
    specified_then u v w c s (λ x. e >>= f x) There Is r p
    (λ x i. derived_then v z w e d (f x) There Is r q (λ y j. h x y (specified_kept v z s x q.grows.keeps p.there i) j))

-- ---- enumerators

pub enumerators_go : (u v w : Work) (k : ℕ) (ks : List ℕ) (d : Doing (Unit {0})) (n m : ℤ) →
    SoFar u v (k ∷ ks) d enumerators_on (Unit {0}) (λ z. z ≡ n) →
    ((x : Syn) → IsPart v k x → Done quietly v w ((reading x).enumerator n) (Unit {0}) (λ s z. z ≡ m)) →
    SoFar u w ks d enumerators_on (Unit {0}) (λ z. z ≡ m)
enumerators_go u v w k ks d n m f h =
    fold_more u v w k ks d enumerators_on enumerator_at (Unit {0}) (Unit {0}) (λ z. z ≡ n)
    (λ z. z ≡ m) n enumerators_more refl f
    (λ x b p i. subst (λ (z : ℤ). Done quietly v w ((reading x).enumerator z) (Unit {0}) (λ s y. y ≡ m)) (sym i)
    (h x p))

pub enumerators_fail : (u v w : Work) (k : ℕ) (ks : List ℕ) (d : Doing (Unit {0})) (n : ℤ) (e : Refusal) →
    SoFar u v (k ∷ ks) d enumerators_on (Unit {0}) (λ z. z ≡ n) →
    ((x : Syn) → IsPart v k x → Answers quietly v w ((reading x).enumerator n) NumberThere (in_any IsNumber) (Err e)) →
    Answers quietly u w d NothingThere IsNothing (Err e)
enumerators_fail u v w k ks d n e f h =
    fold_fails u v w k ks d enumerators_on enumerator_at (Unit {0}) (λ z. z ≡ n) NumberThere
    (in_any IsNumber) NothingThere IsNothing e enumerators_more f
    (λ x b p i. subst (λ (z : ℤ). Answers quietly v w ((reading x).enumerator z) NumberThere (in_any IsNumber) (Err e))
    (sym i) (h x p))

-- ---- declarators

-- a name alone, or nothing
pub nothing_done : (w : Work) (d : Derived) (n : Option Name) (x : meant.Derived) →
    x ≡ record { name = name_token w n; wraps = [] } → IsWhole w.nodes → d.name ≡ n → d.wraps.items ≡ [] →
    Done quietly w w (give x) (DerivedThere w d) (ShowsDerived w d)
nothing_done w d n x q h e f =
    let T = DerivedThere w d in
    told quietly w w (give x) T T (λ s y. y ≡ x) (ShowsDerived w d) (λ t. t)
    (λ s y k i. subst (λ (z : meant.Derived). IsDerived (shown_in w s) w d z) (sym (i ∙ q))
    (nothing_derived (shown_in w s) w d n e f))
    (gave quietly quiet_law w x T h (none_there (WrapIsThere w.nodes) d.wraps.items f))

-- one more part
pub part_done : (u v : Work) (c : Doing meant.Derived) (d e : Derived) (a : Wrap) (b : meant.Wrap) → e.name ≡ d.name →
    e.wraps.items ≡ d.wraps.items ++ a ∷ [] → WrapIsThere v.nodes a → ((s : State) → IsWrap (shown_in v s) v a b) →
    Done quietly u v c (DerivedThere v d) (ShowsDerived v d) →
    Done quietly u v (c >>= λ y. give (wrapped b y)) (DerivedThere v e) (ShowsDerived v e)
part_done u v c d e a b n i t w p =
    made_done u v c (λ y. wrapped b y) _ (DerivedThere v e) (ShowsDerived v d) (ShowsDerived v e) p
    (part_there v d e a i p.there t) (λ s y k j. part_derived (shown_in v s) v d e a y b n i j (w s))

-- one more part behind a step that gives it
pub parts_done : {B : Type 0} (u v w : Work) (c : Doing meant.Derived) (f : Doing B) (d e : Derived) (a : Wrap)
    (b : B → meant.Wrap) (S : Type 0) (K : State → B → Type 0) → e.name ≡ d.name →
    e.wraps.items ≡ d.wraps.items ++ a ∷ [] → WrapIsThere w.nodes a →
    ((s : State) (x : B) → K s x → IsWrap (shown_in w s) w a (b x)) →
    Done quietly u v c (DerivedThere v d) (ShowsDerived v d) → Done quietly v w f S K →
    Done quietly u w (c >>= λ y. f >>= λ x. give (wrapped (b x) y)) (DerivedThere w e) (ShowsDerived w e)
parts_done u v w c f d e a b S K n i t g p q =
    joined_done u v w c f (λ y x. wrapped (b x) y) _ S (DerivedThere w e) (ShowsDerived v d) K (ShowsDerived w e) p q
    (part_there w d e a i (derived_there v w d q.grows.keeps p.there) t)
    (λ s z y x k j still m l. part_derived (shown_in w z) w d e a y (b x) n i
    (derived_lasts v w d s z y q.grows still p.there k j) (g z x l))

-- ---- parameters

prototype_is : (rs : List Reading) (s : State) →
    prototype_of rs s ≡ ((enter >> parameter_list 0 (length rs == 1) rs) >>= λ ps. closing
    >>= λ m. give (let p : meant.Prototype = record { params = ps; scope = m } in p)) s
unfolding prototype_of
prototype_is rs s =
    bind_ext (enter >> parameter_list 0 (length rs == 1) rs)
    (λ ps. scopes.look >>= λ t. scopes.leave
    >> give (let p : meant.Prototype = record { params = ps; scope = innermost t.scopes } in p))
    (λ ps. closing >>= λ m. give (let p : meant.Prototype = record { params = ps; scope = m } in p)) s
    (λ ps t. refl)

pub prototype_done : (u v w z : Work) (rs : List Reading) (params : Vec Param) (scope : Scope) (p : Prototype) →
    p.params ≡ params → p.scope ≡ scope → Done quietly u v enter (NothingThere v tt) (IsNothing v tt) →
    Done quietly v w (parameter_list 0 (length rs == 1) rs) (ParamsThere w params) (AreParams w params) →
    Done quietly w z closing (ScopeThere z scope) (ShowsScopeOf z scope) →
    Done quietly u z (prototype_of rs) (PrototypeThere z p) (ShowsPrototype z p)
prototype_done u v w z rs params scope p e f a b c =
    let make : List meant.Param → scopes.Scope → meant.Prototype = λ ps m. record { params = ps; scope = m } in
    let first : Done quietly u w (enter >> parameter_list 0 (length rs == 1) rs) (ParamsThere w params)
    (AreParams w params) = also_then quietly quiet_law u v w enter
    (parameter_list 0 (length rs == 1) rs) _ _ ParamsThere AreParams (Ok params) a b in
    let there : PrototypeThere z p =
    subst (λ (x : Vec Param). All (ParamIsThere z.nodes) x.items) (sym e)
    (params_there w z params.items c.grows.keeps b.there) in
    answers_at quietly u z (prototype_of rs) ((enter >> parameter_list 0 (length rs == 1) rs) >>= λ ps. closing
    >>= λ m. give (make ps m)) PrototypeThere ShowsPrototype (Ok p) (λ s k. prototype_is rs s)
    (joined_done u w z (enter >> parameter_list 0 (length rs == 1) rs) closing make _ _ (PrototypeThere z p)
    (AreParams w params) (ShowsScopeOf z scope) (ShowsPrototype z p) first c there
    (λ s t ps m k i still l j. record {
      params = i ∙ sym (params_kept w z params.items c.grows.keeps b.there)
          ∙ ap (λ (x : Vec Param). map (param_in z) x.items) (sym e);
      scope = subst (λ (x : Scope). shown_in z t x m) (sym f) j;
    }))

make_prototype : List meant.Param → scopes.Scope → meant.Prototype
make_prototype ps m = record { params = ps; scope = m }

pub prototype_failed : (u v w : Work) (rs : List Reading) (e : Refusal) →
    Done quietly u v enter (NothingThere v tt) (IsNothing v tt) →
    Answers quietly v w (parameter_list 0 (length rs == 1) rs) ParamsThere AreParams (Err e) →
    Answers quietly u w (prototype_of rs) PrototypeThere ShowsPrototype (Err e)
unfolding make_prototype
prototype_failed u v w rs e a b =
    let list = parameter_list 0 (length rs == 1) rs in
    answers_at quietly u w (prototype_of rs) ((enter >> list) >>= λ ps. closing >>= λ m. give (make_prototype ps m))
    PrototypeThere ShowsPrototype (Err e) (λ s k. prototype_is rs s)
    (failed quietly u w w (enter >> list) (λ ps. closing >>= λ m. give (make_prototype ps m)) ParamsThere AreParams
    PrototypeThere ShowsPrototype e (also_then quietly quiet_law u v w enter list _ _ ParamsThere AreParams
    (Err e) a b))

pub prototype_unclosed : (u v w z : Work) (rs : List Reading) (params : Vec Param) (e : Refusal) →
    Done quietly u v enter (NothingThere v tt) (IsNothing v tt) →
    Done quietly v w (parameter_list 0 (length rs == 1) rs) (ParamsThere w params) (AreParams w params) →
    Answers quietly w z closing ScopeThere ShowsScopeOf (Err e) →
    Answers quietly u z (prototype_of rs) PrototypeThere ShowsPrototype (Err e)
unfolding make_prototype
prototype_unclosed u v w z rs params e a b c =
    let list = parameter_list 0 (length rs == 1) rs in
    answers_at quietly u z (prototype_of rs) ((enter >> list) >>= λ ps. closing >>= λ m. give (make_prototype ps m))
    PrototypeThere ShowsPrototype (Err e) (λ s k. prototype_is rs s)
    (then_failed u w z (enter >> list) closing
    (λ ps m. give (make_prototype ps m)) _ _ ScopeThere ShowsScopeOf PrototypeThere ShowsPrototype e
    (also_then quietly quiet_law u v w enter list _ _ ParamsThere AreParams (Ok params) a b) c)
