-- What a declaration leaves of the state: it adds names, objects, functions and locals of which nothing is known yet,
-- and changes types.
use Rattle.std.proofs.Common.{◌≡◌, ℕ, Bool, true, false, ◌⊎◌, inl, inr, List, [], ◌∷◌, ◌++◌, length, map, Option, Some}
use Rattle.std.proofs.Common.{None, Result, Ok, Err, refl, ap, subst, ◌∙◌}
use Rattle.std.specs.Prelude.{not, ◌&&◌, ◌||◌, if◌then◌else◌, bytes_eq}
use Rattle.std.proofs.lemmas.List.{map-append}
use Rattle.ck_base.specs.declared.positions.Pos.{Pos}
use Rattle.ck_base.specs.Tokens.{Lexeme}
use Rattle.c_tree.specs.Types.{Ty, is_function}
use Rattle.c_tree.specs.Scopes.{Entity, Static, Routine, Local, Alias, Library, Enumerator, Aiming, StaticState}
use Rattle.c_tree.specs.Scopes.{RoutineState, LocalState, Body, State, Fault, Doing, give, need, look, change}
use Rattle.c_tree.specs.Scopes.{continued, ◌>>=◌, ◌>>◌, find_in, innermost, at_file_scope, bind_name, change_static}
use Rattle.c_tree.specs.Scopes.{change_routine, is_complete}
use Rattle.c_tree.specs.Readings.{Storage, Plain, Internal, External, Defining_type}
use Rattle.c_tree.specs.Declarators.{Formed, judge, is_new}
use Rattle.c_tree.specs.Declarations.{linked, named_function, object_agrees, definition_agrees, alias_agrees}
use Rattle.c_tree.specs.Declarations.{new_static, known_static, linked_static, new_routine, known_routine}
use Rattle.c_tree.specs.Declarations.{linked_routine, new_local, is_external}
use Rattle.c_tree.specs.Programs.{is_typedef}
use Rattle.c_types.specs.Declares.{declares_alias, declares_function, declares_definition, declares_global}
use Rattle.c_types.specs.Declares.{declares_external, declares_internal, declares_local, declares_in_block}
use Rattle.c_types.specs.Declares.{declares_object, declares_named, giving, function_of}
use Rattle.c_types.specs.Naming.{begins}
use Rattle.c_elaborator.proofs.Using.{changed_same}

-- what holds of a result and of the state that it leaves
abbrev pub Holds : {A : Type 0} → (A → State → Type 0) → Result (A × State) Fault → Type 0
Holds Q (Ok x) = Q x.0 x.1
Holds Q (Err e) = Unit {0}

-- ---- through tests

pub sound : (a b : Bool) → not (a || b) ≡ true → b ≡ false
sound a false e = refl
sound true true e = absurd cc
sound false true e = absurd cc

judged : {A : Type 0} (Q : A → State → Type 0) (a b c : Bool) (p : Pos) (k : Doing A) (s : State) →
    (b ≡ true → Holds Q (k s)) → Holds Q (((need a 132 p >> need b 133 p >> need c 140 p) >> k) s)
judged Q true true true p k s h = h refl
judged Q true true false p k s h = tt
judged Q true false c p k s h = tt
judged Q false b c p k s h = tt

pub holds_judge : {A : Type 0} (Q : A → State → Type 0) (f : Formed) (lacks misfits : Bool) (p : Pos) (k : Doing A)
    (s : State) → (misfits ≡ false → Holds Q (k s)) → Holds Q ((judge f lacks misfits p >> k) s)
holds_judge Q f lacks misfits p k s h =
    judged Q (not (f.lacks || lacks)) (not (f.misfits || misfits)) (not f.too_large) p k s
    (λ e. h (sound f.misfits misfits e))

-- a test, the rules on a type, and a step
pub holds_admitted : {A : Type 0} (Q : A → State → Type 0) (b : Bool) (f : Formed) (lacks misfits : Bool) (p : Pos)
    (k : Doing A) (s : State) → (b ≡ true → misfits ≡ false → Holds Q (k s)) →
    Holds Q ((need b 131 p >> judge f lacks misfits p >> k) s)
holds_admitted Q true f lacks misfits p k s h = holds_judge Q f lacks misfits p k s (h refl)
holds_admitted Q false f lacks misfits p k s h = tt

pub holds_if : {A : Type 0} (Q : A → State → Type 0) (b : Bool) (d e : Doing A) (s : State) → Holds Q (d s) →
    Holds Q (e s) → Holds Q ((if b then d else e) s)
holds_if Q true d e s x y = x
holds_if Q false d e s x y = y

-- ---- what is left

abbrev pub AddsFresh : {A B : Type 0} → (A → B) → B → List A → List A → Type 0
AddsFresh of none xs ys = (map of ys ≡ map of xs) ⊎ (map of ys ≡ map of xs ++ none ∷ [])

abbrev pub static_facts : StaticState → Option (List ℕ × List Aiming) × Option Pos
static_facts g = (g.initial, g.used)

abbrev pub no_static : Option (List ℕ × List Aiming) × Option Pos
no_static = (None, None)

abbrev pub routine_facts : RoutineState → Option Body × Option Pos
routine_facts f = (f.body, f.used)

abbrev pub no_routine : Option Body × Option Pos
no_routine = (None, None)

pub record Enters (s t : State) : Type 0 where
  pub tags : t.tags ≡ s.tags
  pub texts : t.texts ≡ s.texts
  pub pending : t.pending ≡ s.pending
  pub statics : AddsFresh static_facts no_static s.statics t.statics
  pub routines : AddsFresh routine_facts no_routine s.routines t.routines
  pub locals : AddsFresh (λ (v : LocalState). v.addressed) false s.locals t.locals

abbrev pub Leaves : {A : Type 0} → State → A → State → Type 0
Leaves s a t = Enters s t

enters_same : (s : State) → Enters s s
enters_same s = record {
  tags = refl;
  texts = refl;
  pending = refl;
  statics = inl refl;
  routines = inl refl;
  locals = inl refl;
}

enters_name : (name : List ℕ) (e : Entity) (s : State) → Enters s (bind_name name e s)
enters_name name e s = record {
  tags = refl;
  texts = refl;
  pending = refl;
  statics = inl refl;
  routines = inl refl;
  locals = inl refl;
}

left_static : (t : Lexeme) (of : Ty) (l d : Bool) (s : State) → Holds (Leaves s) (new_static t of l d s)
left_static t of l d s = record {
  tags = refl;
  texts = refl;
  pending = refl;
  statics = inr (map-append static_facts s.statics _);
  routines = inl refl;
  locals = inl refl;
}

left_known : (t : Lexeme) (k : ℕ) (of : Ty) (d : Bool) (s : State) → Holds (Leaves s) (known_static t k of d s)
left_known t k of d s = record {
  tags = refl;
  texts = refl;
  pending = refl;
  statics = inl (changed_same static_facts _ s.statics k (λ g. refl));
  routines = inl refl;
  locals = inl refl;
}

left_linked : (t : Lexeme) (of : Ty) (d : Bool) (o : Option ℕ) (s : State) → Holds (Leaves s) (linked_static t of d o s)
left_linked t of d (Some k) s = left_known t k of d s
left_linked t of d None s = left_static t of true d s

left_routine : (t : Lexeme) (of : Ty) (s : State) → Holds (Leaves s) (new_routine t of s)
left_routine t of s = record {
  tags = refl;
  texts = refl;
  pending = refl;
  statics = inl refl;
  routines = inr (map-append routine_facts s.routines _);
  locals = inl refl;
}

left_again : (k : ℕ) (of : Ty) (s : State) → Holds (Leaves s) (known_routine k of s)
left_again k of s = record {
  tags = refl;
  texts = refl;
  pending = refl;
  statics = inl refl;
  routines = inl (changed_same routine_facts _ s.routines k (λ g. refl));
  locals = inl refl;
}

left_function : (t : Lexeme) (of : Ty) (o : Option Entity) (s : State) → Holds (Leaves s) (linked_routine t of o s)
left_function t of (Some (Routine k)) s = left_again k of s
left_function t of (Some _) s = enters_same s
left_function t of None s = left_routine t of s

left_local : (t : Lexeme) (of : Ty) (s : State) → Holds (Leaves s) (new_local t of s)
left_local t of s = record {
  tags = refl;
  texts = refl;
  pending = refl;
  statics = inl refl;
  routines = inl refl;
  locals = inr (map-append (λ (v : LocalState). v.addressed) s.locals _);
}

-- an entity is given in place of a number
left_giving : (s : State) (d : Doing ℕ) (of : ℕ → Entity) → Holds (Leaves s) (d s) → Holds (Leaves s) (giving of d s)
left_giving s d of h = at (d s) h
  where
    at : (r : Result (ℕ × State) Fault) → Holds (Leaves s) r → Holds (Leaves s) (continued r (λ k. give (of k)))
    at (Ok x) k = k
    at (Err e) k = tt

-- ---- each declaration

left_alias : (t : Lexeme) (f : Formed) (b : Bool) (s : State) → Holds (Leaves s) (declares_alias t f b s)
left_alias t f b s =
    holds_admitted (Leaves s) _ f false b t.pos (change (bind_name t.text (Alias f.of)) >> give (Alias f.of)) s
    (λ p q. enters_name t.text (Alias f.of) s)

left_declared_function : (t : Lexeme) (f : Formed) (b : Bool) (s : State) → Holds (Leaves s) (declares_function t f b s)
left_declared_function t f b s =
    let o = find_in (innermost s.scopes).names t.text in
    holds_admitted (Leaves s) _ f false _ t.pos (giving (function_of o) (linked_routine t f.of o)) s
    (λ p q. left_giving s (linked_routine t f.of o) (function_of o) (left_function t f.of o s))

left_global : (st : Storage) (t : Lexeme) (f : Formed) (b : Bool) (s : State) →
    Holds (Leaves s) (declares_global st t f b s)
left_global st t f b s =
    let d = linked_static t f.of (b || not (is_external st)) (linked s t.text) in
    holds_admitted (Leaves s) _ f _ false t.pos (giving Static d) s
    (λ p q. left_giving s d Static (left_linked t f.of (b || not (is_external st)) (linked s t.text) s))

left_external : (t : Lexeme) (f : Formed) (b : Bool) (s : State) → Holds (Leaves s) (declares_external t f b s)
left_external t f b s =
    let d = linked_static t f.of false (linked s t.text) in
    holds_admitted (Leaves s) _ f false b t.pos (giving Static d) s
    (λ p q. left_giving s d Static (left_linked t f.of false (linked s t.text) s))

left_internal : (t : Lexeme) (f : Formed) (b : Bool) (s : State) → Holds (Leaves s) (declares_internal t f b s)
left_internal t f b s =
    holds_admitted (Leaves s) _ f _ false t.pos (giving Static (new_static t f.of false true)) s
    (λ p q. left_giving s (new_static t f.of false true) Static (left_static t f.of false true s))

left_declared_local : (t : Lexeme) (f : Formed) (b : Bool) (s : State) → Holds (Leaves s) (declares_local t f b s)
left_declared_local t f b s =
    holds_admitted (Leaves s) _ f _ false t.pos (giving (λ k. Local k f.of) (new_local t f.of)) s
    (λ p q. left_giving s (new_local t f.of) (λ k. Local k f.of) (left_local t f.of s))

left_in_block : (st : Storage) (t : Lexeme) (f : Formed) (b : Bool) (s : State) →
    Holds (Leaves s) (declares_in_block st t f b s)
left_in_block External t f b s = left_external t f b s
left_in_block Internal t f b s = left_internal t f b s
left_in_block Plain t f b s = left_declared_local t f b s
left_in_block Defining_type t f b s = left_declared_local t f b s

left_object : (st : Storage) (t : Lexeme) (f : Formed) (b : Bool) (s : State) →
    Holds (Leaves s) (declares_object st t f b s)
left_object st t f b s =
    holds_if (Leaves s) (is_function f.of) (declares_function t f b)
    (if at_file_scope s then declares_global st t f b else declares_in_block st t f b) s
    (left_declared_function t f b s)
    (holds_if (Leaves s) (at_file_scope s) (declares_global st t f b) (declares_in_block st t f b) s
    (left_global st t f b s) (left_in_block st t f b s))

left_named : (st : Storage) (t : Lexeme) (f : Formed) (b : Bool) (s : State) →
    Holds (Leaves s) (declares_named st t f b s)
left_named Defining_type t f b s = left_alias t f b s
left_named Plain t f b s = left_object Plain t f b s
left_named Internal t f b s = left_object Internal t f b s
left_named External t f b s = left_object External t f b s

pub holds_at : {A : Type 0} (Q : A → State → Type 0) (r : Result (A × State) Fault) (a : A) (t : State) →
    r ≡ Ok (a, t) → Holds Q r → Q a t
holds_at Q r a t e h = subst (Holds Q) e h

pub named_leaves : (st : Storage) (t : Lexeme) (f : Formed) (b : Bool) (s : State) (e : Entity) (u : State) →
    declares_named st t f b s ≡ Ok (e, u) → Enters s u
named_leaves st t f b s e u i = holds_at (Leaves s) (declares_named st t f b s) e u i (left_named st t f b s)

-- ---- definitions of functions

-- the same, but that there are no locals
pub record Begins (s t : State) : Type 0 where
  pub tags : t.tags ≡ s.tags
  pub texts : t.texts ≡ s.texts
  pub pending : t.pending ≡ s.pending
  pub statics : AddsFresh static_facts no_static s.statics t.statics
  pub routines : AddsFresh routine_facts no_routine s.routines t.routines
  pub locals : t.locals ≡ []

more_same : {A B : Type 0} (of : A → B) (none : B) (xs ys zs : List A) → AddsFresh of none xs ys →
    map of zs ≡ map of ys → AddsFresh of none xs zs
more_same of none xs ys zs (inl a) e = inl (e ∙ a)
more_same of none xs ys zs (inr a) e = inr (e ∙ a)

begun : (t : Lexeme) (s : State) (r : Result (ℕ × State) Fault) → Holds (Leaves s) r →
    Holds (λ (k : ℕ) u. Begins s u) (continued r (begins t))
begun t s (Ok x) h = record {
  tags = h.tags;
  texts = h.texts;
  pending = h.pending;
  statics = h.statics;
  routines = more_same routine_facts no_routine s.routines x.1.routines _ h.routines
      (changed_same routine_facts _ x.1.routines x.0 (λ g. refl));
  locals = refl;
}
begun t s (Err e) h = tt

pub definition_leaves : (st : Storage) (t : Lexeme) (f : Formed) (s : State) (k : ℕ) (u : State) →
    declares_definition st t f s ≡ Ok (k, u) → Begins s u
definition_leaves st t f s k u e =
    let o = find_in (innermost s.scopes).names t.text in
    holds_at (λ (k : ℕ) u. Begins s u) (declares_definition st t f s) k u e
    (after (need (definition_agrees s o t.text f.of) 131 t.pos
    >> judge f false (is_typedef st || not (is_function f.of)) t.pos >> linked_routine t f.of o)
    (holds_admitted (Leaves s) (definition_agrees s o t.text f.of) f false
    (is_typedef st || not (is_function f.of)) t.pos (linked_routine t f.of o) s
    (λ p q. left_function t f.of o s)))
  where
    after : (d : Doing ℕ) → Holds (Leaves s) (d s) → Holds (λ (k : ℕ) u. Begins s u) ((d >>= begins t) s)
    after d h = begun t s (d s) h
