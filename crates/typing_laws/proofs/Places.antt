-- Names, literals, places and addresses: what each gives has the facts of its node.
use Rattle.std.proofs.Common.{◌≡◌, ℕ, zero, suc, ◌+◌, ◌<◌, ◌≤◌, Bool, true, false, List, [], ◌∷◌, ◌++◌, length, Option}
use Rattle.std.proofs.Common.{Some, None, Ok, refl, sym, ap, subst, ◌∙◌, inl, inr, ◌⊎◌, ⊎_elim, arith}
use Rattle.std.specs.Prelude.{slice_get, nat_le, ◌&&◌, ◌||◌, if◌then◌else◌, bytes_eq, map}
use Rattle.std.proofs.lemmas.Bool.{false≢true, and_parts, or_cases, or_parts, leb-true}
use Rattle.std.proofs.lemmas.Option.{none-some, same_Some}
use Rattle.ck_base.specs.declared.positions.Pos.{Pos}
use Rattle.ck_base.specs.Tokens.{Lexeme}
use Rattle.ck_base.specs.Literals as literal
use Rattle.c_tree.specs.Layout.{size_limit}
use Rattle.c_tree.proofs.Sizes.{size_most}
use Rattle.c_tree.specs.Syntax.{Syns}
use Rattle.c_tree.specs.Types.{Ty, Void, Pointer, Array, Tagged, Function, char, unsigned_long, bare, is_scalar}
use Rattle.c_tree.specs.Types.{is_void, is_function}
use Rattle.c_tree.specs.Terms.{Constant, Literal, Var, Global, Fun, Deref, Member, Address, Convert, Term, term}
use Rattle.c_tree.specs.Terms.{type_of, leaf, step, Text}
use Rattle.c_tree.specs.Scopes.{Entity, Local, Static, Routine, Alias, Enumerator, Named, Scope, Part, TagState}
use Rattle.c_tree.specs.Scopes.{StaticState, LocalState, RoutineState, State, Doing, give, need, look, change, some_or}
use Rattle.c_tree.specs.Scopes.{◌>>=◌, ◌>>◌, find_in, find_name, or_else, first_use, changed_at, with_changed}
use Rattle.c_tree.specs.Scopes.{change_static, change_routine, use_static, use_routine, take_address, type_extent}
use Rattle.c_tree.specs.Scopes.{is_complete, size, type_extent}
use Rattle.c_tree.specs.Scopes as scopes
use Rattle.c_tree.specs.Values.{integer_of, number_type, character_value}
use Rattle.c_tree.specs.Conversions.{Operand, operand_type, is_place}
use Rattle.c_tree.specs.Expressions.{gives, static_type, routine_type, denoted, named, number, character, text_bytes}
use Rattle.c_tree.specs.Expressions.{text, taken, address, pointed, dereference, index, sum, member_from, parts_of}
use Rattle.c_tree.specs.Expressions.{members_in, as_qualified, member, member_behind, casts, cast, sized}
use Rattle.c_tree.specs.WellTyped.{holds}
use Rattle.typing_laws.proofs.Agreeing.{refines, refines_self}
use Rattle.typing_laws.proofs.Facts.{When, Complete, Sized, TypeOk, IsValue, scalar, nothing, IsUsed, StaticOk}
use Rattle.typing_laws.proofs.Facts.{RoutineOk}
use Rattle.typing_laws.proofs.Facts.{TermOk, OperandOk, ValueOk, EntityOk, AllNames, AllScopes, StaticGrows}
use Rattle.typing_laws.proofs.Facts.{RoutineGrows}
use Rattle.typing_laws.proofs.Facts.{Refers, none, unused_static, unused_routine, untaken_local, Inv, Grows}
use Rattle.typing_laws.proofs.Growing.{when_map, when_all, tags_self, local_kept, type_kept, operand_kept, refers_self}
use Rattle.typing_laws.proofs.Growing.{grows_self, scopes_more}
use Rattle.typing_laws.proofs.Steps.{given, needed, found, refused, first_then, needed_in, changed_from, changed_to}
use Rattle.typing_laws.proofs.Steps.{length-changed}
use Rattle.typing_laws.proofs.Scalars.{void_is, integer_scalar, integer_ok, integer_value, bare_ok}
use Rattle.typing_laws.proofs.Scalars.{complete_not_void, as_qualified_ok, as_qualified_extent}
use Rattle.typing_laws.proofs.Converted.{Operands, gave, made}
use Rattle.typing_laws.proofs.Operators.{onward, sum_ok}
use Rattle.typing_laws.proofs.Numbers.{enumerator_kept, character_kept, size_kept, number_fits}
use Rattle.typing_laws.proofs.Numbers.{sized_is}

-- ---- uses

used_kept : (u : Option Pos) (p : Pos) → IsUsed u → IsUsed (first_use u p)
used_kept (Some q) p h = (q, refl)
used_kept None p h = (p, refl)

used_now : (u : Option Pos) (p : Pos) → IsUsed (first_use u p)
used_now (Some q) p = (q, refl)
used_now None p = (p, refl)

-- the item that is changed
pub changed_here : {A : Type 0} (f : A → A) (xs : List A) (k : ℕ) (x : A) → slice_get xs k ≡ Some x →
    slice_get (changed_at f xs k) k ≡ Some (f x)
changed_here f [] k x e = absurd cc
changed_here f (y ∷ ys) zero x e = ap Some (ap f (same_Some y x e))
changed_here f (y ∷ ys) (suc k) x e = rw Rattle.typing_laws.proofs.Steps.changed-cons (changed_here f ys k x e)

-- a change that another function does not see
map_with : {A B : Type 0} (v : A → B) (f : A → A) (o : Option A) (xs : List A) (k : ℕ) → slice_get xs k ≡ o →
    ((x : A) → v (f x) ≡ v x) → map v (with_changed f o xs k) ≡ map v xs
map_with v f None xs k e h = refl
map_with v f (Some x) [] k e h = absurd cc
map_with v f (Some x) (y ∷ ys) zero e h = let i = same_Some y x e in ap (λ z. z ∷ map v ys) (h x ∙ ap v (sym i))
map_with v f (Some x) (y ∷ ys) (suc k) e h = ap (λ zs. v y ∷ zs) (map_with v f (Some x) ys k e h)

pub map_changed : {A B : Type 0} (v : A → B) (f : A → A) (xs : List A) (k : ℕ) → ((x : A) → v (f x) ≡ v x) →
    map v (changed_at f xs k) ≡ map v xs
map_changed v f xs k h = map_with v f (slice_get xs k) xs k refl h

-- what a name denotes does so in a state that has grown
pub entity_kept : (m : Bool) (s r : State) → Refers s r → length s.statics ≤ length r.statics →
    length s.routines ≤ length r.routines → (e : Entity) → EntityOk m s e → EntityOk m r e
entity_kept m s r g a b (Local k t) h =
    (type_kept s.tags r.tags g.tags t h.0, when_map m _ _ (local_kept s r g k t) h.1)
entity_kept m s r g a b (Static k) h =
    when_map m (k < length s.statics) (k < length r.statics) (λ l. omega (arith, l, a)) h
entity_kept m s r g a b (Routine k) h =
    when_map m (k < length s.routines) (k < length r.routines) (λ l. omega (arith, l, b)) h
entity_kept m s r g a b (Alias t) h = type_kept s.tags r.tags g.tags t h
entity_kept m s r g a b (Enumerator z) h = h
entity_kept m s r g a b (scopes.Library k t) h = tt

-- a change of the objects that leaves their types
pub record SameTypes (gs hs : List StaticState) : Type 0 where
  pub to : (k : ℕ) (g : StaticState) → slice_get gs k ≡ Some g →
      (h : StaticState) × (slice_get hs k ≡ Some h) × StaticGrows g h
  pub from : (k : ℕ) (h : StaticState) → slice_get hs k ≡ Some h →
      (g : StaticState) × (slice_get gs k ≡ Some g) × (h.of ≡ g.of)
  pub still : map unused_static hs ≡ map unused_static gs
  pub count : length hs ≡ length gs

pub statics_changed : (m e : Bool) (s : State) (hs : List StaticState) → SameTypes s.statics hs → Inv m s →
    Inv m (record s { statics = hs }) × Grows e s (record s { statics = hs })
statics_changed m e s hs c i =
    let r : State = record s { statics = hs } in
    let g : Refers s r = record {
      tags = tags_self s.tags;
      statics = c.to;
      routines = (refers_self s).routines;
      texts = λ k x q. q;
      locals = (refers_self s).locals;
    } in
    let l : length s.statics ≤ length hs = omega (arith, c.count) in (
      record {
        tags = i.tags;
        names = scopes_more (EntityOk m s) (EntityOk m r) (entity_kept m s r g l (omega arith)) s.scopes i.names;
        statics = λ k h q. let x = c.from k h q in subst (TypeOk s.tags) (sym x.2) (i.statics k x.0 x.1);
        routines = i.routines;
        locals = i.locals;
      },
      record {
        refers = g;
        opened = λ k t e b. e;
        outer = refl;
        deep = refl;
        names = when_all e _ none;
        count = when_all e _ refl;
        still =
            when_all e _ (record { locals = refl; statics = c.still; routines = refl; pending = refl });
        statics =
            l;
        routines = omega arith;
      },
    )

use_static_same : (s : State) (k : ℕ) (p : Pos) → SameTypes s.statics (use_static k p s).statics
use_static_same s k p = record {
  to = λ j g q. let y = changed_to (λ (g : StaticState). record g { used = first_use g.used p }) s.statics k j g q in (
    y.0,
    y.1,
    ⊎_elim
        (λ a. subst (StaticGrows g) (sym a) (record { type = refines_self g.of; used = λ u. u }))
        (λ b. subst (StaticGrows g) (sym b.1) (record { type = refines_self g.of; used = used_kept g.used p })) y.2,
  );
  from = λ j h q. let x = changed_from (λ (g : StaticState). record g { used = first_use g.used p }) s.statics k j h q
      in
      (x.0, x.1, ⊎_elim (λ a. ap (λ (z : StaticState). z.of) a) (λ b. ap (λ (z : StaticState). z.of) b.1) x.2);
  still = map_changed unused_static (λ (g : StaticState). record g { used = first_use g.used p }) s.statics k
      (λ g. refl);
  count = length-changed _ s.statics k;
}

pub record SameRoutines (gs hs : List RoutineState) : Type 0 where
  pub to : (k : ℕ) (g : RoutineState) → slice_get gs k ≡ Some g →
      (h : RoutineState) × (slice_get hs k ≡ Some h) × RoutineGrows g h
  pub from : (k : ℕ) (h : RoutineState) → slice_get hs k ≡ Some h →
      (g : RoutineState) × (slice_get gs k ≡ Some g) × (h.of ≡ g.of)
  pub still : map unused_routine hs ≡ map unused_routine gs
  pub count : length hs ≡ length gs

pub routines_changed : (m e : Bool) (s : State) (hs : List RoutineState) → SameRoutines s.routines hs → Inv m s →
    Inv m (record s { routines = hs }) × Grows e s (record s { routines = hs })
routines_changed m e s hs c i =
    let r : State = record s { routines = hs } in
    let g : Refers s r = record {
      tags = tags_self s.tags;
      statics = (refers_self s).statics;
      routines = c.to;
      texts = λ k x q. q;
      locals = (refers_self s).locals;
    } in
    let l : length s.routines ≤ length hs = omega (arith, c.count) in (
      record {
        tags = i.tags;
        names = scopes_more (EntityOk m s) (EntityOk m r) (entity_kept m s r g (omega arith) l) s.scopes i.names;
        statics = i.statics;
        routines = λ k h q. let x = c.from k h q in
            subst (λ t. TypeOk s.tags t × holds (is_function t)) (sym x.2) (i.routines k x.0 x.1);
        locals = i.locals;
      },
      record {
        refers = g;
        opened = λ k t e b. e;
        outer = refl;
        deep = refl;
        names = when_all e _ none;
        count = when_all e _ refl;
        still =
            when_all e _ (record { locals = refl; statics = refl; routines = c.still; pending = refl });
        statics =
            omega arith;
        routines = l;
      },
    )

use_routine_same : (s : State) (k : ℕ) (p : Pos) → SameRoutines s.routines (use_routine k p s).routines
use_routine_same s k p = record {
  to = λ j g q.
      let y = changed_to (λ (g : RoutineState). record g { used = first_use g.used p }) s.routines k j g q in (
        y.0,
        y.1,
        ⊎_elim
            (λ a. subst (RoutineGrows g) (sym a) (record { type = refines_self g.of; used = λ u. u }))
            (λ b. subst (RoutineGrows g) (sym b.1) (record { type = refines_self g.of; used = used_kept g.used p }))
            y.2,
      );
  from = λ j h q. let x = changed_from (λ (g : RoutineState). record g { used = first_use g.used p }) s.routines k j h q
      in
      (x.0, x.1, ⊎_elim (λ a. ap (λ (z : RoutineState). z.of) a) (λ b. ap (λ (z : RoutineState). z.of) b.1) x.2);
  still = map_changed unused_routine (λ (g : RoutineState). record g { used = first_use g.used p }) s.routines k
      (λ g. refl);
  count = length-changed _ s.routines k;
}

address_taken : (m e : Bool) (s : State) (k : ℕ) → Inv m s → Inv m (take_address k s) × Grows e s (take_address k s)
address_taken m e s k i =
    let f : LocalState → LocalState = λ v. record v { addressed = true } in
    let r : State = take_address k s in
    let g : Refers s r = record {
      tags = tags_self s.tags;
      statics = (refers_self s).statics;
      routines = (refers_self s).routines;
      texts = λ k x q. q;
      locals = λ j v q. let y = changed_to f s.locals k j v q in (
        y.0,
        y.1,
        record {
          type = ⊎_elim (λ a. ap (λ (z : LocalState). refines v.of z.of) a ∙ refines_self v.of)
              (λ b. ap (λ (z : LocalState). refines v.of z.of) b.1 ∙ refines_self v.of) y.2;
          fixed =
              λ _. ⊎_elim (λ a. ap (λ (z : LocalState). z.of) a) (λ b. ap (λ (z : LocalState). z.of) b.1) y.2;
        },
      );
    } in (
      record {
        tags = i.tags;
        names = scopes_more (EntityOk m s) (EntityOk m r)
            (entity_kept m s r g (omega arith) (omega arith)) s.scopes i.names;
        statics = i.statics;
        routines = i.routines;
        locals = λ j w q. let x = changed_from f s.locals k j w q in
            subst (TypeOk s.tags) (sym (⊎_elim (λ a. ap (λ (z : LocalState). z.of) a)
            (λ b. ap (λ (z : LocalState). z.of) b.1) x.2)) (i.locals j x.0 x.1);
      },
      record {
        refers = g;
        opened = λ k t e b. e;
        outer = refl;
        deep = refl;
        names = when_all e _ none;
        count = when_all e _ (length-changed f s.locals k);
        still =
            when_all e _ (record {
              locals = map_changed untaken_local f s.locals k (λ v. refl);
              statics = refl;
              routines = refl;
              pending = refl;
            });
        statics = omega arith;
        routines = omega arith;
      },
    )

-- ---- names (6.5.1)

named_by : (P : Entity → Type 0) (b : Bool) (x e : Entity) (o : Option Entity) → P x → (o ≡ Some e → P e) →
    (if b then Some x else o) ≡ Some e → P e
named_by P true x e o h f w = subst P (same_Some x e w) h
named_by P false x e o h f w = f w

pub find_in_ok : (P : Entity → Type 0) (xs : List (Named Entity)) (name : List ℕ) (e : Entity) → AllNames P xs →
    find_in xs name ≡ Some e → P e
find_in_ok P [] name e h q = absurd (none-some e q)
find_in_ok P (x ∷ xs) name e h q =
    named_by P (bytes_eq x.name name) x.is e (find_in xs name) h.0 (λ w. find_in_ok P xs name e h.1 w) q

first_named : (P : Entity → Type 0) (o r : Option Entity) (e : Entity) → (o ≡ Some e → P e) → (r ≡ Some e → P e) →
    or_else o r ≡ Some e → P e
first_named P (Some x) r e f g q = f q
first_named P None r e f g q = g q

pub find_name_ok : (P : Entity → Type 0) (cs : List Scope) (name : List ℕ) (e : Entity) → AllScopes P cs →
    find_name cs name ≡ Some e → P e
find_name_ok P [] name e h q = absurd (none-some e q)
find_name_ok P (c ∷ cs) name e h q =
    first_named P (find_in c.names name) (find_name cs name) e (λ w. find_in_ok P c.names name e h.0 w)
    (λ w. find_name_ok P cs name e h.1 w) q

static_type_ok : (ts : List TagState) (o : Option StaticState) → ((g : StaticState) → o ≡ Some g → TypeOk ts g.of) →
    TypeOk ts (static_type o)
static_type_ok ts None h = tt
static_type_ok ts (Some g) h = h g refl

routine_type_ok : (ts : List TagState) (o : Option RoutineState) →
    ((g : RoutineState) → o ≡ Some g → TypeOk ts g.of × holds (is_function g.of)) →
    TypeOk ts (routine_type o) × (holds (is_function (routine_type o)) ⊎ IsValue ts (routine_type o))
routine_type_ok ts None h = (tt, inr (nothing refl))
routine_type_ok ts (Some g) h = ((h g refl).0, inl (h g refl).1)

-- an item below the length
item_there : {A : Type 0} (xs : List A) (k : ℕ) → k < length xs → (x : A) × (slice_get xs k ≡ Some x)
item_there [] k l = absurd (omega (arith, l))
item_there (x ∷ xs) zero l = (x, refl)
item_there (x ∷ xs) (suc k) l = item_there xs k (omega (arith, l))

there_append : {A : Type 0} (xs ys : List A) (k : ℕ) (x : A) → slice_get xs k ≡ Some x → slice_get (xs ++ ys) k ≡ Some x
there_append [] ys k x e = absurd cc
there_append (y ∷ xs) ys zero x e = e
there_append (y ∷ xs) ys (suc k) x e = there_append xs ys k x e

at_end : {A : Type 0} (xs : List A) (y : A) → slice_get (xs ++ y ∷ []) (length xs) ≡ Some y
at_end [] y = refl
at_end (x ∷ xs) y = at_end xs y

function_not_void : (t : Ty) → is_function t ≡ true → bare t ≡ Void → ⊥
function_not_void (Function r ps) f e = absurd cc
function_not_void t f e = false≢true f

module _ (m : Bool) (s : State) (i : Inv m s) where
  static_node : (k : ℕ) (p q : Pos) → When m (k < length s.statics) →
      OperandOk m (use_static k p s) (leaf (Global k) (static_type (slice_get (use_static k p s).statics k)) q)
  static_node k p q h =
      let r : State = use_static k p s in
      let c = statics_changed m true s r.statics (use_static_same s k p) i in
      let f : StaticState → StaticState = λ g. record g { used = first_use g.used p } in
      let here : k < length s.statics → StaticOk r k (static_type (slice_get r.statics k)) = λ l.
      let x = item_there s.statics k l in
      let e = changed_here f s.statics k x.0 x.1 in
      (f x.0, e, ap (λ o. refines (static_type o) x.0.of) e ∙ refines_self x.0.of, used_now x.0.used p) in
      record {
        fits = (tt, when_map m _ _ here h);
        type = static_type_ok s.tags (slice_get r.statics k) (λ g e. c.0.statics k g e);
        valued = λ e. absurd (false≢true (sym e));
        placed = λ _ _. refl;
      }

  routine_node : (k : ℕ) (p q : Pos) → When m (k < length s.routines) →
      OperandOk m (use_routine k p s) (leaf (Fun k) (routine_type (slice_get (use_routine k p s).routines k)) q)
  routine_node k p q h =
      let r : State = use_routine k p s in
      let c = routines_changed m true s r.routines (use_routine_same s k p) i in
      let f : RoutineState → RoutineState = λ g. record g { used = first_use g.used p } in
      let here : k < length s.routines → RoutineOk r k (routine_type (slice_get r.routines k)) = λ l.
      let x = item_there s.routines k l in
      let e = changed_here f s.routines k x.0 x.1 in
      (f x.0, e, ap (λ o. refines (routine_type o) x.0.of) e ∙ refines_self x.0.of, used_now x.0.used p) in
      let t = routine_type_ok s.tags (slice_get r.routines k) (λ g e. c.0.routines k g e) in
      record {
        fits = (tt, when_map m _ _ here h);
        type = t.0;
        valued = λ _. t.1;
        placed = λ e. absurd (false≢true e);
      }

  denoted_ok : (o : Option Entity) → ((e : Entity) → o ≡ Some e → EntityOk m s e) → (t : Lexeme) (x : Operand × State) →
      denoted o t s ≡ Ok x → Operands m s x
  denoted_ok None h t x e = refused _ x e
  denoted_ok (Some (Local k of)) h t x e =
      let j = h (Local k of) refl in
      gave m s i _ t.pos (record {
        fits = (tt, j.1);
        type = j.0;
        valued = λ e. absurd (false≢true (sym e));
        placed = λ _ _. refl;
      }) x e
  denoted_ok (Some (Static k)) h t x e =
      let c = statics_changed m true s (use_static k t.pos s).statics (use_static_same s k t.pos) i in
      given (Operands m s) _ (use_static k t.pos s) x e
      (record { inv = c.0; grown = c.1; post = static_node k t.pos t.pos (h (Static k) refl) })
  denoted_ok (Some (Routine k)) h t x e =
      let c = routines_changed m true s (use_routine k t.pos s).routines (use_routine_same s k t.pos) i in
      given (Operands m s) _ (use_routine k t.pos s) x e
      (record { inv = c.0; grown = c.1; post = routine_node k t.pos t.pos (h (Routine k) refl) })
  denoted_ok (Some (Alias of)) h t x e = refused _ x e
  denoted_ok (Some (Enumerator z)) h t x e =
      gave m s i _ t.pos (made m s _ refl (record
      { fits = (tt, (enumerator_kept z (h (Enumerator z) refl), refl, tt)); type = tt; value = scalar refl })) x e
  denoted_ok (Some (scopes.Library k of)) h t x e = refused _ x e

  pub named_ok : (t : Lexeme) (x : Operand × State) → named t s ≡ Ok x → Operands m s x
  unfolding named
  named_ok t x e = denoted_ok (find_name s.scopes t.text)
      (λ f q. find_name_ok (EntityOk m s) s.scopes t.text f i.names q) t x e

  pub number_ok : (t : Lexeme) (n : literal.IntegerType) → literal.type_of (integer_of t.text) ≡ Some n →
      (x : Operand × State) → number t s ≡ Ok x → Operands m s x
  number_ok t n f x e =
      let k = number_fits t.text n f in
      gave m s i _ t.pos (made m s _ refl (record {
        fits = (tt, (k.0, integer_scalar (number_type t.text) k.1, integer_ok s.tags (number_type t.text) k.1));
        type = integer_ok s.tags (number_type t.text) k.1;
        value =
            integer_value s.tags (number_type t.text) k.1;
      })) x e

  pub character_ok : (t : Lexeme) → character_value t.text ≤ 255 → (x : Operand × State) → character t s ≡ Ok x →
      Operands m s x
  character_ok t f x e = gave m s i _ t.pos (made m s _ refl
      (record { fits = (tt, (character_kept (character_value t.text) f, refl, tt)); type = tt; value = scalar refl }))
      x e

  -- a literal is a new object (6.4.5)
  pub text_ok : (t : Lexeme) (xs : Syns) (x : Operand × State) → text t xs s ≡ Ok x → Operands m s x
  unfolding text
  text_ok t xs x e =
      let y : Text = record { place = t.pos; bytes = text_bytes t xs } in
      let r : State = record s { texts = s.texts ++ y ∷ [] } in
      let n = length (text_bytes t xs) in
      let v = needed_in (nat_le n size_limit) 140 t.pos (change (λ s. record s { texts = s.texts ++ y ∷ [] }))
      (λ _. gives (leaf (Literal (length s.texts)) (Array char n) t.pos) t.pos) s x e in
      let l : n ≤ size_limit = leb-true n size_limit v.0 in
      let g : Refers s r = record {
        tags = tags_self s.tags;
        statics = (refers_self s).statics;
        routines = (refers_self s).routines;
        texts = λ k z q. there_append s.texts (y ∷ []) k z q;
        locals =
            (refers_self s).locals;
      } in
      given (Operands m s) _ r x v.1 (record {
        inv = record {
          tags = i.tags;
          names = scopes_more (EntityOk m s) (EntityOk m r)
              (entity_kept m s r g (omega arith) (omega arith)) s.scopes i.names;
          statics = i.statics;
          routines = i.routines;
          locals = i.locals;
        };
        grown = record {
          refers = g;
          opened = λ k t e b. e;
          outer = refl;
          deep = refl;
          names = none;
          count = refl;
          still = record { locals = refl; statics = refl; routines = refl; pending = refl };
          statics =
              omega arith;
          routines = omega arith;
        };
        post = record {
          fits = (tt, (n, refl, l, when_all m _ (y, at_end s.texts y, refl)));
          type = (tt, _, refl, omega (arith, l));
          valued = λ e. absurd (false≢true (sym e));
          placed = λ _ e. absurd cc;
        };
      })

  -- ---- addresses (6.5.3.2)

  taken_kept : (a : Term) → Inv m (taken a s) × Grows true s (taken a s)
  taken_kept (term (Var k) xs t p) = address_taken m true s k i
  taken_kept a = (i, grows_self true s)

  pub address_ok : (a : Operand) (p : Pos) → OperandOk m s a.is → (x : Operand × State) → address a p s ≡ Ok x →
      Operands m s x
  address_ok a p h x e =
      let n = needed_in (is_place a.is || is_function (operand_type a)) 133 p (change (taken a.is))
      (λ _. gives (step Address a.is (Pointer (operand_type a)) p) p) s x e in
      let r : State = taken a.is s in
      let c = taken_kept a.is in
      let l = operand_kept m s r c.1.refers a.is h in
      given (Operands m s) _ r x n.1 (record {
        inv = c.0;
        grown = c.1;
        post = made m r _ refl (record {
          fits = (
            (l.fits, tt),
            (or_cases (is_place a.is) (is_function (operand_type a)) n.0, refl),
          );
          type = l.type;
          value =
              scalar refl;
        });
      })

  -- ---- places (6.5.3.2, 6.5.2.1, 6.5.2.3)

  dereference_by : (t : Ty) (a : Operand) (p first : Pos) → operand_type a ≡ t → TermOk m s a.is →
      TypeOk s.tags (operand_type a) → (x : Operand × State) →
      (pointed t first >>= λ t. gives (step Deref a.is t p) first) s ≡ Ok x → Operands m s x
  dereference_by (Pointer t) a p first q h l x e =
      let n = needed_in (is_function t || is_complete s t) 132 first (give t)
      (λ t. gives (step Deref a.is t p) first) s x e in
      let c : Sized s.tags t ⊎ holds (is_function t) =
      ⊎_elim (λ f. inr f) (λ k. inl (sized_is s i.tags t (subst (TypeOk s.tags) q l) k))
      (or_cases (is_function t) (is_complete s t) n.0) in
      gave m s i _ first (record {
        fits = ((h, tt), (q, c));
        type = subst (TypeOk s.tags) q l;
        valued = λ e. absurd (false≢true (sym e));
        placed = λ _ v. absurd (⊎_elim (λ k. complete_not_void s.tags t (k.0, k.1) v) (λ f. function_not_void t f v) c);
      }) x n.1
  dereference_by t a p first q h l x e = refused _ x e

  pub dereference_ok : (a : Operand) (p first : Pos) → TermOk m s a.is → TypeOk s.tags (operand_type a) →
      (x : Operand × State) → dereference a p first s ≡ Ok x → Operands m s x
  dereference_ok a p first h l x e = dereference_by (operand_type a) a p first refl h l x e

  -- ---- casts and sizes (6.5.4, 6.5.3.4)

  pub cast_ok : (t : Ty) (a : Operand) (p : Pos) → TypeOk s.tags t → ValueOk m s a.is → (x : Operand × State) →
      cast t a p s ≡ Ok x → Operands m s x
  cast_ok t a p k h x e =
      let u = bare t in
      let n = needed (casts u (operand_type a)) 133 p (gives (step Convert a.is u p) p) s x e in
      let c : holds (is_void u) ⊎ (holds (is_scalar u) × holds (is_scalar (operand_type a))) =
      ⊎_elim (λ v. inl v) (λ v. inr (and_parts (is_scalar u) (is_scalar (operand_type a)) v))
      (or_cases (is_void u) (is_scalar u && is_scalar (operand_type a)) n.0) in
      gave m s i _ p (made m s _ refl (record {
        fits = ((h.fits, tt), (c, bare_ok s.tags t k));
        type = bare_ok s.tags t k;
        value = ⊎_elim (λ v. nothing (void_is u v)) (λ v. scalar v.0) c;
      })) x n.1

  pub sized_ok : (t : Ty) (p : Pos) (x : Operand × State) → sized t p s ≡ Ok x → Operands m s x
  sized_ok t p x e =
      let n = needed (is_complete s t) 132 p (gives (leaf (Constant (size s t)) unsigned_long p) p) s x e in
      gave m s i _ p (made m s _ refl (record {
        fits = (tt, (size_kept (size s t) (size_most (type_extent s.tags t)), refl, tt));
        type = tt;
        value = scalar refl;
      })) x n.1

-- ---- members (6.5.2.3)

parts_there : (o : Option TagState) (ms : List Part) → parts_of o ≡ Some ms →
    (t : TagState) × (o ≡ Some t) × (t.members ≡ Some ms)
parts_there None ms e = absurd (none-some ms e)
parts_there (Some t) ms e = (t, refl, e)

pub record FoundMember (k : ℕ) (ms : List Part) (x : ℕ × Ty) : Type 0 where
  pub number : ℕ
  pub part : Part
  pub is : x.0 ≡ k + number
  pub there : slice_get ms number ≡ Some part
  pub type : x.1 ≡ part.of

found_member : (b : Bool) (k : ℕ) (m : Part) (ms : List Part) (o : Option (ℕ × Ty)) (x : ℕ × Ty) →
    (o ≡ Some x → FoundMember (k + 1) ms x) → (if b then Some (k, m.of) else o) ≡ Some x → FoundMember k (m ∷ ms) x
found_member true k m ms o x f e =
    let i = same_Some (k, m.of) x e in
    record {
      number = 0;
      part = m;
      is = ap (λ (y : ℕ × Ty). y.0) (sym i) ∙ omega arith;
      there = refl;
      type = ap (λ (y : ℕ × Ty). y.1) (sym i);
    }
found_member false k m ms o x f e =
    let r = f e in
    record { number = suc r.number; part = r.part; is = r.is ∙ omega arith; there = r.there; type = r.type }

member_found : (k : ℕ) (ms : List Part) (name : List ℕ) (x : ℕ × Ty) → member_from k ms name ≡ Some x →
    FoundMember k ms x
member_found k [] name x e = absurd (none-some x e)
member_found k (m ∷ ms) name x e =
    found_member (bytes_eq m.name.text name) k m ms (member_from (k + 1) ms name) x
    (λ q. member_found (k + 1) ms name x q) e

module _ (m : Bool) (s : State) (i : Inv m s) where
  member_node : (n : ℕ) (t : TagState) (ms : List Part) (y : ℕ × Ty) (a : Term) (p : Pos) →
      bare (type_of a) ≡ Tagged n → OperandOk m s a → slice_get s.tags n ≡ Some t → t.members ≡ Some ms →
      FoundMember 0 ms y →
      OperandOk m s (step (Member y.0) a (as_qualified (type_of a) y.1) p)
  member_node n t ms y a p q h e f r =
      let z : y.0 ≡ r.number = r.is ∙ omega arith in
      let there : slice_get ms y.0 ≡ Some r.part = rw z r.there in
      let k = (i.tags n t e).parts ms r.number r.part f r.there in
      let complete : Complete s.tags (as_qualified (type_of a) y.1) =
      (k.complete.0, as_qualified_extent s.tags (type_of a) y.1 ∙ ap (type_extent s.tags) r.type ∙ k.complete.1) in
      record {
        fits = ((h.fits, tt), (n, t, ms, r.part, q, e, f, there, ap (as_qualified (type_of a)) r.type));
        type = as_qualified_ok s.tags (type_of a) y.1 (subst (TypeOk s.tags) (sym r.type) k.type);
        valued = λ d. absurd (false≢true (sym (or_parts (is_place a) true d).1));
        placed = λ _ v. absurd (complete_not_void s.tags (as_qualified (type_of a) y.1) complete v);
      }

  member_by : (t : Ty) (a : Operand) (name : List ℕ) (p : Pos) → bare (operand_type a) ≡ t → OperandOk m s a.is →
      (x : Operand × State) →
      (members_in s t a.first >>= λ ms. some_or (member_from 0 ms name) 133 a.first
      >>= λ k. gives (step (Member k.0) a.is (as_qualified (operand_type a) k.1) p) a.first) s ≡ Ok x →
      Operands m s x
  member_by (Tagged n) a name p q h x e =
      let go : ℕ × Ty → Doing Operand =
      λ k. gives (step (Member k.0) a.is (as_qualified (operand_type a) k.1) p) a.first in
      let f = found (parts_of (slice_get s.tags n)) 132 a.first
      (λ ms. some_or (member_from 0 ms name) 133 a.first >>= go) s x e in
      let g = found (member_from 0 f.0 name) 133 a.first go s x f.2 in
      let t = parts_there (slice_get s.tags n) f.0 f.1 in
      gave m s i _ a.first (member_node n t.0 f.0 g.0 a.is p q h t.1 t.2 (member_found 0 f.0 name g.0 g.1)) x g.2
  member_by t a name p q h x e = refused _ x e

  pub member_ok : (a : Operand) (name : List ℕ) (p : Pos) → OperandOk m s a.is → (x : Operand × State) →
      member a name p s ≡ Ok x → Operands m s x
  member_ok a name p h x e = member_by (bare (operand_type a)) a name p refl h x e

module _ (m : Bool) (s : State) (i : Inv m s) where
  pub member_behind_ok : (a : Operand) (name : List ℕ) (p : Pos) → ValueOk m s a.is → (x : Operand × State) →
      member_behind a name p s ≡ Ok x → Operands m s x
  member_behind_ok a name p h x e =
      let f = first_then (dereference a p a.first s) (λ y. member y name p) x e in
      let k = dereference_ok m s i a p a.first h.fits h.type f.0 f.1 in
      onward m true s f.0 x k (member_ok m f.0.1 k.inv f.0.0 name p k.post x f.2)

  pub index_ok : (a b : Operand) (p : Pos) → ValueOk m s a.is → ValueOk m s b.is → (x : Operand × State) →
      index a b p s ≡ Ok x → Operands m s x
  index_ok a b p h j x e =
      let f = first_then (sum a b p s) (λ y. dereference y p a.first) x e in
      let k = sum_ok m s i a b p h j f.0 f.1 in
      onward m true s f.0 x k (dereference_ok m f.0.1 k.inv f.0.0 p a.first k.post.fits k.post.type x f.2)
