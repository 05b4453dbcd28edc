-- Declarations of objects, functions, variables and typedef names (C11 6.7, 6.9).
use Rattle.std.proofs.Common.{◌≡◌, ℕ, zero, suc, ◌+◌, ◌*◌, ◌<◌, ◌≤◌, max, Bool, true, false, List, [], ◌∷◌, ◌++◌}
use Rattle.std.proofs.Common.{length, Option, Some, None, Ok, refl, sym, ap, subst, ◌∙◌, inl, inr, ◌⊎◌, ⊎_elim, arith}
use Rattle.std.proofs.Common.{length-append}
use Rattle.std.specs.Prelude.{slice_get, map, option_map, not, ◌&&◌, ◌||◌, ◌==◌, nat_le, if◌then◌else◌, bytes_eq}
use Rattle.std.specs.Prelude.{sum_by}
use Rattle.std.proofs.lemmas.Bool.{false≢true, not-true, leb-true, and_parts, and_from, or_cases, or_parts, or_right}
use Rattle.std.proofs.lemmas.Bool.{eq-eqb}
use Rattle.std.proofs.lemmas.Option.{none-some, same_Some, slice_get_within, slice_get-map}
use Rattle.std.proofs.lemmas.List.Sums.{sum_by-cons}
use Rattle.std.specs.Bool.{Decides}
use Rattle.std.proofs.lemmas.Slice.Eq.{bytes_eq-Decides}
use Rattle.ck_base.specs.declared.positions.Pos.{Pos}
use Rattle.ck_base.specs.Tokens.{Lexeme}
use Rattle.c_tree.specs.Layout.{Extent, with_extent, times, size_limit}
use Rattle.c_tree.specs.Syntax.{Syns, nil, more, first_token}
use Rattle.c_tree.specs.Types.{Ty, Void, Int, Cap, Pointer, Array, Tagged, Function, Const, bare, compatible, composite}
use Rattle.c_tree.specs.Types.{is_function, is_scalar}
use Rattle.c_tree.specs.Terms.{no_terms, with_term, type_of, Init, Action, action, Actions, no_actions, actions}
use Rattle.c_tree.specs.Scopes.{Entity, Local, Static, Routine, Alias, Enumerator, Named, Scope, TagState, StaticState}
use Rattle.c_tree.specs.Scopes.{LocalState, RoutineState, Body, Pending, State, Doing, give, refuse, need, look, change}
use Rattle.c_tree.specs.Scopes.{some_or, ◌>>=◌, ◌>>◌, find_in, innermost, in_innermost, at_file_scope, bind_name}
use Rattle.c_tree.specs.Scopes.{changed_at, change_static, change_routine, is_complete, type_extent, extent_size}
use Rattle.c_tree.specs.Scopes as scopes
use Rattle.c_tree.specs.Readings.{Storage, Plain, Internal, External, Defining_type, Specified, Derived, Slot, Filled}
use Rattle.c_tree.specs.Readings.{Items, Context, Reading}
use Rattle.c_tree.specs.Declarators.{Formed, formed, judge, is_new}
use Rattle.c_tree.specs.Initializers.{every_slot, with_count}
use Rattle.c_tree.specs.Statics.{Start, There, Number, Entry, ask_for, start_slot, is_start, start_slots, known_value}
use Rattle.c_tree.specs.Statics.{initial_bytes, Found, nothing_found}
use Rattle.c_tree.specs.Declarations.{linked_from, linked, file_names, agrees_static, agrees_routine, agrees_linked}
use Rattle.c_tree.specs.Declarations.{object_agrees, function_agrees, alias_agrees, new_static, known_static}
use Rattle.c_tree.specs.Declarations.{linked_static, new_routine, known_routine, linked_routine, new_local, no_items}
use Rattle.c_tree.specs.Declarations.{Behind, has_any, complete_now, static_of, fill_static, init_static, init_action}
use Rattle.c_tree.specs.Declarations.{fill_local, init_local, is_open, declare_alias, declare_function, waits}
use Rattle.c_tree.specs.Declarations.{is_external, declare_global, declare_external, ready, declare_internal}
use Rattle.c_tree.specs.Declarations.{declare_local, declare_in_block, declare_object, declare, declare_named}
use Rattle.c_tree.specs.Declarations.{init_declarator, both, declare_all, is_alone, declaration, named_function}
use Rattle.c_tree.specs.Declarations.{may_be_external}
use Rattle.c_tree.specs.Views.{times_in}
use Rattle.c_tree.specs.WellTyped.{holds, all_declared}
use Rattle.typing_laws.proofs.Agreeing.{refines, refines_self, composite_left, composite_right}
use Rattle.typing_laws.proofs.Facts.{Complete, TypeOk, EntityOk, StaticGrows, RoutineGrows, LocalGrows, Refers}
use Rattle.typing_laws.proofs.Facts.{untaken_local, Still, Inv, Grows, Kept}
use Rattle.typing_laws.proofs.Growing.{complete_kept, type_kept, refined_extent, tags_self, refers_self, grows_self}
use Rattle.typing_laws.proofs.Growing.{grows_on, grows_loose, scopes_more}
use Rattle.typing_laws.proofs.Steps.{ok_is, given, needed, found, refused, first_then, needed_in, either, changed_from}
use Rattle.typing_laws.proofs.Steps.{changed_to, length-changed}
use Rattle.typing_laws.proofs.Scalars.{complete_is, composite_ok}
use Rattle.typing_laws.proofs.Places.{entity_kept, changed_here, map_changed}
use Rattle.typing_laws.proofs.Evaluated.{weaker, regain}
use Rattle.typing_laws.proofs.Tags.{AllWraps, ReadsDeclared, AllDeclared, name_bound, name_grows, there_in, last_of}
use Rattle.typing_laws.proofs.Tags.{there_from}
use Rattle.typing_laws.proofs.Formed.{formed_ok, Judged, judged}
use Rattle.typing_laws.proofs.Filled.{AllSlots, slots_kept, Fillable, AskedStill, Initializes, AllInit, every_ok, AllOf}
use Rattle.typing_laws.proofs.Filled.{AllWhole, every_whole, scalar_count}
use Rattle.typing_laws.proofs.Acts.{ActionsOk, between, between_one, inside_context, ItemsOk, items_both, items_none}
use Rattle.typing_laws.proofs.Acts.{items_from}
use Rattle.typing_laws.proofs.Placed.{More, waiting, FoundOk, slots_found, initial_ok, Follows, follows, Begun}
use Rattle.typing_laws.proofs.Placed.{begun_kept}
use Rattle.typing_laws.proofs.Placed.{Begins, InitialsFrom, begins_on, initials_self, more_same}
use Rattle.typing_laws.proofs.Wholes.{FileEntity, AllFiles, Strict, files_more, BodiesFrom, bodies_on, linked_still}
use Rattle.typing_laws.proofs.Wholes.{strict_still}

-- ---- states with other objects, functions and locals

pub statics_moved : (m : Bool) (s : State) (hs : List StaticState) →
    ((k : ℕ) (g : StaticState) → slice_get s.statics k ≡ Some g →
    (h : StaticState) × (slice_get hs k ≡ Some h) × StaticGrows g h) →
    ((k : ℕ) (h : StaticState) → slice_get hs k ≡ Some h → TypeOk s.tags h.of) → length s.statics ≤ length hs →
    Inv m s →
    Inv m (record s { statics = hs }) × Grows false s (record s { statics = hs })
statics_moved m s hs to from l i =
    let r : State = record s { statics = hs } in
    let g : Refers s r = record {
      tags = tags_self s.tags;
      statics = to;
      routines = (refers_self s).routines;
      texts = λ k x q. q;
      locals = (refers_self s).locals;
    } in (
      record {
        tags = i.tags;
        names = scopes_more (EntityOk m s) (EntityOk m r)
            (entity_kept m s r g l (omega arith)) s.scopes i.names;
        statics = from;
        routines = i.routines;
        locals =
            i.locals;
      },
      record {
        refers = g;
        opened = λ k t e b. e;
        outer = refl;
        deep = refl;
        names = tt;
        count = tt;
        still = tt;
        statics = l;
        routines = omega arith;
      },
    )

pub routines_moved : (m : Bool) (s : State) (hs : List RoutineState) →
    ((k : ℕ) (g : RoutineState) → slice_get s.routines k ≡ Some g →
    (h : RoutineState) × (slice_get hs k ≡ Some h) × RoutineGrows g h) →
    ((k : ℕ) (h : RoutineState) → slice_get hs k ≡ Some h → TypeOk s.tags h.of × holds (is_function h.of)) →
    length s.routines ≤ length hs → Inv m s →
    Inv m (record s { routines = hs }) × Grows false s (record s { routines = hs })
routines_moved m s hs to from l i =
    let r : State = record s { routines = hs } in
    let g : Refers s r = record {
      tags = tags_self s.tags;
      statics = (refers_self s).statics;
      routines = to;
      texts = λ k x q. q;
      locals = (refers_self s).locals;
    } in (
      record {
        tags = i.tags;
        names = scopes_more (EntityOk m s) (EntityOk m r)
            (entity_kept m s r g (omega arith) l) s.scopes i.names;
        statics = i.statics;
        routines = from;
        locals =
            i.locals;
      },
      record {
        refers = g;
        opened = λ k t e b. e;
        outer = refl;
        deep = refl;
        names = tt;
        count = tt;
        still = tt;
        statics = omega arith;
        routines = l;
      },
    )

pub locals_moved : (m : Bool) (s : State) (vs : List LocalState) →
    ((k : ℕ) (v : LocalState) → slice_get s.locals k ≡ Some v →
    (w : LocalState) × (slice_get vs k ≡ Some w) × LocalGrows v w) →
    ((k : ℕ) (w : LocalState) → slice_get vs k ≡ Some w → TypeOk s.tags w.of) → Inv m s →
    Inv m (record s { locals = vs }) × Grows false s (record s { locals = vs })
locals_moved m s vs to from i =
    let r : State = record s { locals = vs } in
    let g : Refers s r = record {
      tags = tags_self s.tags;
      statics = (refers_self s).statics;
      routines = (refers_self s).routines;
      texts = λ k x q. q;
      locals = to;
    } in (
      record {
        tags = i.tags;
        names = scopes_more (EntityOk m s) (EntityOk m r)
            (entity_kept m s r g (omega arith) (omega arith)) s.scopes i.names;
        statics = i.statics;
        routines =
            i.routines;
        locals = from;
      },
      record {
        refers = g;
        opened = λ k t e b. e;
        outer = refl;
        deep = refl;
        names = tt;
        count = tt;
        still = tt;
        statics = omega arith;
        routines = omega arith;
      },
    )

-- the functions stay, and with them what holds of the file
strict_with : (s r : State) → Strict s → Refers s r → r.pending ≡ s.pending → InitialsFrom s r →
    r.routines ≡ s.routines → AllFiles r (file_names r.scopes) → Strict r
strict_with s r h g p i e f = record {
  files = f;
  bodies = bodies_on s r h g (λ k x b q i. (x, ap (λ xs. slice_get xs k) (sym e) ∙ q, i, refines_self x.of));
  begins = begins_on s r (follows s r g (more_same s.pending r.pending p)) i h.begins;
}

-- a name that is bound at any place
files_bound : (s : State) (name : List ℕ) (e : Entity) (cs : List Scope) → (length cs ≡ 1 → FileEntity s name e) →
    AllFiles s (file_names cs) →
    AllFiles s (file_names (in_innermost (λ c. record c { names = record { name = name; is = e } ∷ c.names }) cs))
files_bound s name e [] f h = tt
files_bound s name e (c ∷ []) f h = (f refl, h)
files_bound s name e (c ∷ d ∷ cs) f h = h

pub bound_name : (s : State) (name : List ℕ) (e : Entity) → EntityOk true s e →
    (length s.scopes ≡ 1 → FileEntity s name e) → Inv true s → Strict s →
    Inv true (bind_name name e s) × Grows false s (bind_name name e s) × Strict (bind_name name e s)
bound_name s name e h f i k =
    let g = name_grows s name e in (
      name_bound true s name e h i,
      g,
      strict_with s (bind_name name e s) k g.refers refl (initials_self s (bind_name name e s) refl) refl
          (files_more s (bind_name name e s) (λ n j q. q) _ (files_bound s name e s.scopes f k.files)),
    )

-- ---- linkage

linkage_of : StaticState → StaticState
linkage_of g = record g { of = Void; defined = false; initial = None; used = None }

linked_by : (k : ℕ) (gs : List StaticState) (name : List ℕ) →
    linked_from k (map linkage_of gs) name ≡ linked_from k gs name
unfolding linkage_of
linked_by k [] name = refl
linked_by k (g ∷ gs) name =
    ap (λ (o : Option ℕ). if g.linked && bytes_eq g.name.text name then Some k else o) (linked_by (k + 1) gs name)

linked_same : (s r : State) → map linkage_of r.statics ≡ map linkage_of s.statics → (name : List ℕ) →
    linked r name ≡ linked s name
linked_same s r e name = sym (linked_by 0 r.statics name) ∙ ap (λ gs. linked_from 0 gs name) e
    ∙ linked_by 0 s.statics name

-- an object more
linked_step : (b : Bool) (j k : ℕ) (o r : Option ℕ) → ((i : ℕ) → o ≡ Some i → r ≡ Some i) →
    (if b then Some j else o) ≡ Some k → (if b then Some j else r) ≡ Some k
linked_step true j k o r f e = e
linked_step false j k o r f e = f k e

linked_more : (j : ℕ) (gs : List StaticState) (g : StaticState) (name : List ℕ) (k : ℕ) →
    linked_from j gs name ≡ Some k → linked_from j (gs ++ g ∷ []) name ≡ Some k
linked_more j [] g name k e = absurd (none-some k e)
linked_more j (h ∷ gs) g name k e =
    linked_step (h.linked && bytes_eq h.name.text name) j k (linked_from (j + 1) gs name)
    (linked_from (j + 1) (gs ++ g ∷ []) name) (λ i q. linked_more (j + 1) gs g name i q) e

not_step : (b : Bool) (j : ℕ) (o : Option ℕ) → (if b then Some j else o) ≡ None → (b ≡ false) × (o ≡ None)
not_step true j o e = absurd (none-some j (sym e))
not_step false j o e = (refl, e)

decided_yes : (b : Bool) (P : Type 0) → Decides b P → P → b ≡ true
decided_yes b P d p = d.1 p

decided_is : (b : Bool) (P : Type 0) → Decides b P → b ≡ true → P
decided_is b P d e = d.0 e

bytes_self : (xs : List ℕ) → bytes_eq xs xs ≡ true
bytes_self xs = decided_yes (bytes_eq xs xs) (xs ≡ xs) (bytes_eq-Decides xs xs) refl

bytes_are : (xs ys : List ℕ) → bytes_eq xs ys ≡ true → xs ≡ ys
bytes_are xs ys e = decided_is (bytes_eq xs ys) (xs ≡ ys) (bytes_eq-Decides xs ys) e

linked_last : (j : ℕ) (gs : List StaticState) (g : StaticState) (name : List ℕ) → linked_from j gs name ≡ None →
    (g.linked && bytes_eq g.name.text name) ≡ true → linked_from j (gs ++ g ∷ []) name ≡ Some (j + length gs)
linked_last j [] g name e h = ap (λ b. if b then Some j else None) h ∙ ap Some (omega arith)
linked_last j (f ∷ gs) g name e h =
    let p = not_step (f.linked && bytes_eq f.name.text name) j (linked_from (j + 1) gs name) e in
    ap (λ b. if b then Some j else linked_from (j + 1) (gs ++ g ∷ []) name) p.0 ∙ linked_last (j + 1) gs g name p.1 h
    ∙ ap Some (omega arith)

-- ---- objects of static storage duration

-- an object is there under a number, in a state that has the locals of another
pub record StaticAt (s : State) (of : Ty) (r : State) (k : ℕ) : Type 0 where
  pub object : StaticState
  pub there : slice_get r.statics k ≡ Some object
  pub fills : Fillable s.tags of → Fillable r.tags object.of
  pub locals : r.locals ≡ s.locals
  pub strict : Strict r

abbrev pub Declares : State → Ty → ℕ × State → Type 0
Declares s of x = Kept true false s (StaticAt s of) x

at_file : (s : State) → length s.scopes ≡ 1 → at_file_scope s ≡ true
at_file s e = eq-eqb (length s.scopes) 1 e

new_static_ok : (t : Lexeme) (of : Ty) (linkage defined : Bool) (s : State) → TypeOk s.tags of →
    (at_file_scope s ≡ true → (linkage ≡ true) × (linked s t.text ≡ None)) → Inv true s → Strict s → (x : ℕ × State) →
    new_static t of linkage defined s ≡ Ok x → Declares s of x
new_static_ok t of linkage defined s h f i k x e =
    let g : StaticState = record { name = t; of = of; linked = linkage; defined = defined; initial = None; used = None }
    in
    let hs = s.statics ++ g ∷ [] in
    let a : State = record s { statics = hs } in
    let n = length s.statics in
    let moved = statics_moved true s hs
    (λ j x q. (x, there_in s.statics (g ∷ []) j x q, record { type = refines_self x.of; used = λ u. u }))
    (λ j x q. ⊎_elim (λ c. i.statics j x c) (λ c. subst (λ (z : StaticState). TypeOk s.tags z.of) (sym c.1) h)
    (there_from s.statics g j x q)) (omega (arith, length-append s.statics (g ∷ []))) i in
    let b = strict_with s a k moved.1.refers refl
    (λ j y m q c. ⊎_elim (λ d. (y, d, c)) (λ d.
    absurd (none-some m (sym (ap (λ (z : StaticState). z.initial) d.1) ∙ c)))
    (there_from s.statics g j y q)) refl (files_more s a
    (λ name j q. linked_more 0 s.statics g name j q) _ k.files) in
    let file : length s.scopes ≡ 1 → linked a t.text ≡ Some n = λ l.
    let w = f (at_file s l) in
    linked_last 0 s.statics g t.text w.1 (and_from linkage (bytes_eq t.text t.text) w.0 (bytes_self t.text))
    ∙ ap Some (omega arith) in
    let l : n < length hs = omega (arith, length-append s.statics (g ∷ [])) in
    let c = bound_name a t.text (Static n) l file moved.0 b in
    given (Declares s of) n (bind_name t.text (Static n) a) x e (record {
      inv = c.0;
      grown = grows_on false s a (bind_name t.text (Static n) a) moved.1 c.1;
      post = record { object = g; there = last_of s.statics g; fills = λ q. q; locals = refl; strict = c.2 };
    })

-- what a composite type is filled by
array_fill : (ts : List TagState) (c : Ty) (n : ℕ) → Complete ts c → Fillable ts (Array c n)
array_fill ts c zero h = inr (c, refl)
array_fill ts c (suc n) h = inl (_, ap (λ o. with_extent o (times (suc n))) h.1)

composite_fill : (ts : List TagState) (s t : Ty) → compatible s t ≡ true → TypeOk ts t → Fillable ts t →
    Fillable ts (composite s t)
composite_fill ts s t e h (inl c) = inl (c.0, refined_extent ts t (composite s t) c.0 (composite_right s t e) c.1)
composite_fill ts s t e h (inr a) =
    subst (λ u. Fillable ts (composite s u)) (sym a.1)
    (open_fill s (ap (compatible s) (sym a.1) ∙ e) (subst (TypeOk ts) a.1 h))
  where
    open_fill : (s : Ty) → compatible s (Array a.0 0) ≡ true → TypeOk ts (Array a.0 0) →
        Fillable ts (composite s (Array a.0 0))
    open_fill (Array u n) q k =
        let p = and_parts (compatible u a.0) _ q in
        array_fill ts (composite u a.0) (max n 0)
        (k.1, refined_extent ts a.0 (composite u a.0) k.1 (composite_right u a.0 p.0) k.2)
    open_fill u q k = absurd (false≢true q)

abbrev made_known : Ty → Bool → StaticState → StaticState
made_known of defined g = record g { of = composite g.of of; defined = g.defined || defined }

known_links : (of : Ty) (defined : Bool) (y : StaticState) → linkage_of (made_known of defined y) ≡ linkage_of y
unfolding linkage_of
known_links of defined y = refl

known_static_ok : (t : Lexeme) (k : ℕ) (of : Ty) (defined : Bool) (s : State) (g : StaticState) →
    slice_get s.statics k ≡ Some g → compatible g.of of ≡ true → TypeOk s.tags of → linked s t.text ≡ Some k →
    Inv true s → Strict s → (x : ℕ × State) → known_static t k of defined s ≡ Ok x → Declares s of x
known_static_ok t k of defined s g there c h l i w x e =
    let f = made_known of defined in
    let hs = changed_at f s.statics k in
    let a : State = record s { statics = hs } in
    let same : (j : ℕ) (y : StaticState) → slice_get s.statics j ≡ Some y → j ≡ k → compatible y.of of ≡ true =
    λ j y q z. ap (λ (v : StaticState). compatible v.of of)
    (same_Some y g (sym q ∙ ap (slice_get s.statics) z ∙ there)) ∙ c in
    let moved = statics_moved true s hs
    (λ j y q. let v = changed_to f s.statics k j y q in (
      v.0,
      v.1,
      ⊎_elim (λ z. subst (StaticGrows y) (sym z) (record { type = refines_self y.of; used = λ u. u }))
          (λ z. subst (StaticGrows y) (sym z.1) (record
          { type = composite_left y.of of (same j y q z.0); used = λ u. u })) v.2,
    ))
    (λ j y q. let v = changed_from f s.statics k j y q in
    ⊎_elim (λ z. subst (λ (v : StaticState). TypeOk s.tags v.of) (sym z) (i.statics j v.0 v.1))
    (λ z. subst (λ (v : StaticState). TypeOk s.tags v.of) (sym z.1)
    (composite_ok s.tags v.0.of of (same j v.0 v.1 z.0) (i.statics j v.0 v.1) h)) v.2)
    (omega (arith, length-changed f s.statics k)) i in
    let links = linked_same s a (map_changed linkage_of f s.statics k (known_links of defined)) in
    let b = strict_with s a w moved.1.refers refl
    (λ j y m q c. let v = changed_from f s.statics k j y q in (
      v.0,
      v.1,
      ⊎_elim (λ z. ap (λ (v : StaticState). v.initial) (sym z) ∙ c)
          (λ z. ap (λ (v : StaticState). v.initial) (sym z.1) ∙ c) v.2,
    ))
    refl (files_more s a (λ name j q. links name ∙ q) _ w.files) in
    let m = slice_get_within s.statics k g there in
    let d = bound_name a t.text (Static k) (omega (arith, m, length-changed f s.statics k)) (λ _. links t.text ∙ l)
    moved.0 b in
    given (Declares s of) k (bind_name t.text (Static k) a) x e (record {
      inv = d.0;
      grown = grows_on false s a (bind_name t.text (Static k) a) moved.1 d.1;
      post = record {
        object = f g;
        there = changed_here f s.statics k g there;
        fills = λ q. composite_fill s.tags g.of of c h q;
        locals = refl;
        strict = d.2;
      };
    })

linked_static_ok : (t : Lexeme) (of : Ty) (defined : Bool) (o : Option ℕ) (s : State) → linked s t.text ≡ o →
    ((k : ℕ) → o ≡ Some k → (g : StaticState) × (slice_get s.statics k ≡ Some g) × (compatible g.of of ≡ true)) →
    TypeOk s.tags of → Inv true s → Strict s → (x : ℕ × State) → linked_static t of defined o s ≡ Ok x → Declares s of x
linked_static_ok t of defined (Some k) s l f h i w x e =
    let g = f k refl in known_static_ok t k of defined s g.0 g.1 g.2 h l i w x e
linked_static_ok t of defined None s l f h i w x e = new_static_ok t of true defined s h (λ _. (refl, l)) i w x e

-- ---- which declarations agree

static_agrees : (o : Option StaticState) (t : Ty) (defines : Bool) → agrees_static o t defines ≡ true →
    (g : StaticState) × (o ≡ Some g) × (compatible g.of t ≡ true)
static_agrees None t d e = absurd (false≢true e)
static_agrees (Some g) t d e = (g, refl, (and_parts (compatible g.of t) _ e).0)

linked_agrees : (s : State) (o : Option ℕ) (t : Ty) (d : Bool) → agrees_linked s o t d ≡ true → (k : ℕ) → o ≡ Some k →
    (g : StaticState) × (slice_get s.statics k ≡ Some g) × (compatible g.of t ≡ true)
linked_agrees s None t d e k i = absurd (none-some k i)
linked_agrees s (Some j) t d e k i =
    let g = static_agrees (slice_get s.statics j) t d e in
    (g.0, ap (slice_get s.statics) (same_Some k j (sym i)) ∙ g.1, g.2)

-- the object that a name of the file denotes is the linked one
file_by : (s : State) (b : Bool) (x : Named Entity) (name : List ℕ) (e : Entity) (o : Option Entity) →
    bytes_eq x.name name ≡ b → FileEntity s x.name x.is → (o ≡ Some e → FileEntity s name e) →
    (if b then Some x.is else o) ≡ Some e → FileEntity s name e
file_by s true x name e o i h f w =
    subst (FileEntity s name) (same_Some x.is e w) (subst (λ n. FileEntity s n x.is) (bytes_are x.name name i) h)
file_by s false x name e o i h f w = f w

file_entity : (s : State) (xs : List (Named Entity)) (name : List ℕ) (e : Entity) → AllFiles s xs →
    find_in xs name ≡ Some e → FileEntity s name e
file_entity s [] name e h q = absurd (none-some e q)
file_entity s (x ∷ xs) name e h q =
    file_by s (bytes_eq x.name name) x name e (find_in xs name) refl h.0 (λ w. file_entity s xs name e h.1 w) q

one_scope : (cs : List Scope) → length cs ≡ 1 → file_names cs ≡ (innermost cs).names
one_scope [] e = absurd (omega (arith, e))
one_scope (c ∷ []) e = refl
one_scope (c ∷ d ∷ cs) e = absurd (omega (arith, e))

-- so what agrees with a name of the file agrees with the linked object
object_linked : (s : State) (e : Option Entity) (name : List ℕ) (t : Ty) (d : Bool) →
    ((x : Entity) → e ≡ Some x → FileEntity s name x) → object_agrees s e name t d ≡ true → (k : ℕ) →
    linked s name ≡ Some k → (g : StaticState) × (slice_get s.statics k ≡ Some g) × (compatible g.of t ≡ true)
object_linked s (Some (Static j)) name t d f e k l =
    let g = static_agrees (slice_get s.statics j) t d e in
    (g.0, ap (slice_get s.statics) (same_Some k j (sym l ∙ f (Static j) refl)) ∙ g.1, g.2)
object_linked s None name t d f e k l = linked_agrees s (linked s name) t d e k l
object_linked s (Some x) name t d f e k l = absurd (false≢true e)

-- ---- initializers of objects

-- a step that changes no locals
pub record Quiet (s : State) (x : Unit {0} × State) : Type 0 where
  pub kept : Kept true false s (λ r _. length r.locals ≡ length s.locals) x
  pub strict : Strict x.1

-- what stands behind a declarator
abbrev pub BehindOk : Behind → Type 0
BehindOk None = Unit {0}
BehindOk (Some r) = Initializes r.0

-- what an initializer asks for waits for the end of the file, and nothing else changes
abbrev Waits : State → State → Type 0
Waits s r = (ps : List Pending) × (r ≡ waiting s ps)

waits_on : (s r q : State) → Waits s r → Waits r q → Waits s q
waits_on s r q h k = (k.0, k.1 ∙ ap (λ t. waiting t k.0) h.1)

ask_still : (p : Pos) (k : ℕ) (zs : List Rattle.std.specs.Prelude.ℤ) (s : State) (x : Unit × State) →
    ask_for p (Rattle.c_tree.specs.Terms.To_global k) zs s ≡ Ok x → Waits s x.1
ask_still p k [] s x e = given (λ (y : Unit × State). Waits s y.1) tt s x e (s.pending, refl)
ask_still p k (z ∷ zs) s x e =
    let r : State = record s { pending = s.pending ++ record { place = p; static = k; least = z } ∷ [] } in
    waits_on s r x.1 (r.pending, refl) (ask_still p k zs r x e)

asked_still : (p : Pos) (a : Rattle.c_tree.specs.Terms.Aim) (zs : List Rattle.std.specs.Prelude.ℤ) (s : State)
    (x : Unit × State) → ask_for p a zs s ≡ Ok x → Waits s x.1
asked_still p (Rattle.c_tree.specs.Terms.To_global k) zs s x e = ask_still p k zs s x e
asked_still p (Rattle.c_tree.specs.Terms.To_literal k) zs s x e =
    given (λ (y : Unit × State). Waits s y.1) tt s x e (s.pending, refl)
asked_still p (Rattle.c_tree.specs.Terms.To_function k) zs s x e =
    given (λ (y : Unit × State). Waits s y.1) tt s x e (s.pending, refl)

slot_still : (r : State) (y : Slot) (v : Start × List Rattle.std.specs.Prelude.ℤ) (f : Found) (s : State)
    (x : Found × State) → start_slot r y v f s ≡ Ok x → Waits s x.1
slot_still r y (Number n, asks) f s x e = given (λ (z : Found × State). Waits s z.1) _ s x e (s.pending, refl)
slot_still r y (There a w z, asks) f s x e =
    let g = first_then (ask_for y.first a asks s)
    (λ _. give (f.0, record { at = y.at; aim = a; reach = w; offset = z } ∷ f.1)) x e in
    given (λ (z : Found × State). Waits s z.1) _ g.0.1 x g.2 (asked_still y.first a asks s g.0 g.1)
slot_still r y (Entry k, asks) f s x e = given (λ (z : Found × State). Waits s z.1) _ s x e (s.pending, refl)

slots_still : (ys : List Slot) (s : State) (x : Found × State) → start_slots ys s ≡ Ok x → Waits s x.1
slots_still [] s x e = given (λ (z : Found × State). Waits s z.1) nothing_found s x e (s.pending, refl)
slots_still (y ∷ ys) s x e =
    let v = found (known_value s y.value) 134 y.first (λ v. start_slots ys >>= λ f. start_slot s y v f) s x e in
    let g = first_then (start_slots ys s) (λ f. start_slot s y v.0 f) x v.2 in
    waits_on s g.0.1 x.1 (slots_still ys s g.0 g.1) (slot_still s y v.0 g.0.0 g.0.1 x g.2)

start_asked : AskedStill is_start
start_asked y s x e =
    let v = found (known_value s y.value) 134 y.first (λ v. give tt) s x e in
    given (λ (z : Unit × State). z.1 ≡ s) tt s x v.2 refl

-- a type is complete and within the limit
completed_now : {A : Type 0} (of : Ty) (p : Pos) (d : Doing A) (s : State) (x : A × State) →
    (complete_now of p >> d) s ≡ Ok x →
    Complete s.tags of × (extent_size (type_extent s.tags of) ≤ size_limit) × (d s ≡ Ok x)
completed_now of p d s x e =
    let a = needed_in (is_complete s of) 132 p (need (nat_le (extent_size (type_extent s.tags of)) size_limit) 140 p)
    (λ _. d) s x e in
    let b = needed (nat_le (extent_size (type_extent s.tags of)) size_limit) 140 p d s x a.1 in
    (complete_is s of a.0, leb-true _ _ b.0, b.1)

count_ok : (ts : List TagState) (t : Ty) (n : ℕ) → TypeOk ts t →
    extent_size (type_extent ts (with_count t n)) ≤ size_limit → TypeOk ts (with_count t n)
count_ok ts (Array t zero) n h l =
    (h.0, h.1, h.2, counted n (subst (λ o. extent_size (with_extent o (times n)) ≤ size_limit) h.2 l))
  where
    counted : (n : ℕ) → extent_size (with_extent (Some h.1) (times n)) ≤ size_limit → n * h.1.size ≤ size_limit
    counted zero l = omega arith
    counted (suc n) l = l
count_ok ts (Array t (suc k)) n h l = h
count_ok ts Void n h l = h
count_ok ts (Int i k) n h l = h
count_ok ts (Cap b) n h l = h
count_ok ts (Pointer t) n h l = h
count_ok ts (Tagged k) n h l = h
count_ok ts (Function r ps) n h l = h
count_ok ts (Const t) n h l = h

count_refines : (t : Ty) (n : ℕ) → refines t (with_count t n) ≡ true
count_refines (Array t zero) n =
    and_from (refines t t) (0 == n || 0 == 0) (refines_self t) (or_right (0 == n) (0 == 0) refl)
count_refines (Array t (suc k)) n = refines_self (Array t (suc k))
count_refines Void n = refl
count_refines (Int i k) n = refines_self (Int i k)
count_refines (Cap b) n = refines_self (Cap b)
count_refines (Pointer t) n = refines_self t
count_refines (Tagged k) n = refines_self (Tagged k)
count_refines (Function r ps) n = refines_self (Function r ps)
count_refines (Const t) n = refines_self t

count_fixed : (t : Ty) (n : ℕ) → is_open t ≡ false → with_count t n ≡ t
count_fixed (Array t zero) n e = absurd (false≢true (sym e))
count_fixed (Array t (suc k)) n e = refl
count_fixed Void n e = refl
count_fixed (Int i k) n e = refl
count_fixed (Cap b) n e = refl
count_fixed (Pointer t) n e = refl
count_fixed (Tagged k) n e = refl
count_fixed (Function r ps) n e = refl
count_fixed (Const t) n e = refl

-- an object that gets its length and its bytes
abbrev lengthened : ℕ → StaticState → StaticState
lengthened n g = record g { of = with_count g.of n }

filled_links : (n : ℕ) (y : StaticState) → linkage_of (lengthened n y) ≡ linkage_of y
unfolding linkage_of
filled_links n y = refl

bytes_links : (i : List ℕ × List scopes.Aiming) (y : StaticState) →
    linkage_of (record y { initial = Some i }) ≡ linkage_of y
unfolding linkage_of
bytes_links i y = refl

-- an item of a list that is changed twice at a number
twice_from : {A : Type 0} (f h : A → A) (xs : List A) (k j : ℕ) (z : A) →
    slice_get (changed_at h (changed_at f xs k) k) j ≡ Some z →
    (x : A) × (slice_get xs j ≡ Some x) × (((z ≡ x) ⊎ (z ≡ h x)) ⊎ ((j ≡ k) × ((z ≡ f x) ⊎ (z ≡ h (f x)))))
twice_from f h xs k j z e =
    let y = changed_from h (changed_at f xs k) k j z e in
    let x = changed_from f xs k j y.0 y.1 in (
      x.0,
      x.1,
      ⊎_elim
          (λ a. ⊎_elim (λ b. inl (inl (a ∙ b))) (λ b. inr (b.0, inl (a ∙ b.1))) x.2)
          (λ a. ⊎_elim (λ b. inl (inr (a.1 ∙ ap h b))) (λ b. inr (b.0, inr (a.1 ∙ ap h b.1))) x.2) y.2,
    )

twice_to : {A : Type 0} (f h : A → A) (xs : List A) (k j : ℕ) (x : A) → slice_get xs j ≡ Some x →
    (z : A) × (slice_get (changed_at h (changed_at f xs k) k) j ≡ Some z) ×
    (((z ≡ x) ⊎ (z ≡ h x)) ⊎ ((z ≡ f x) ⊎ (z ≡ h (f x))))
twice_to f h xs k j x e =
    let y = changed_to f xs k j x e in
    let z = changed_to h (changed_at f xs k) k j y.0 y.1 in (
      z.0,
      z.1,
      ⊎_elim
          (λ a. ⊎_elim (λ b. inl (inl (a ∙ b))) (λ b. inr (inl (a ∙ b.1))) y.2)
          (λ a. ⊎_elim (λ b. inl (inr (a.1 ∙ ap h b))) (λ b. inr (inr (a.1 ∙ ap h b.1))) y.2) z.2,
    )

-- the state in which an object is filled
abbrev filled_state : State → ℕ → ℕ → (List ℕ × List scopes.Aiming) → List Pending → State
filled_state b k n i ps =
    record b {
      statics = changed_at (λ (g : StaticState). record g { initial = Some i })
          (changed_at (lengthened n) b.statics k) k;
      pending = ps;
    }

abbrev lengthened_state : State → ℕ → ℕ → List Pending → State
lengthened_state b k n ps = record b { statics = changed_at (lengthened n) b.statics k; pending = ps }

pending_refers : (b : State) (ps : List Pending) → Refers b (waiting b ps)
pending_refers b ps = record {
  tags = tags_self b.tags;
  statics = (refers_self b).statics;
  routines = (refers_self b).routines;
  texts = λ k x q. q;
  locals = (refers_self b).locals;
}

pending_grows : (b : State) (ps : List Pending) → Grows false b (waiting b ps)
pending_grows b ps = record {
  refers = pending_refers b ps;
  opened = λ k t e o. e;
  outer = refl;
  deep = refl;
  names = tt;
  count = tt;
  still = tt;
  statics = omega arith;
  routines = omega arith;
}

filled_ok : (b : State) (k n : ℕ) (i : List ℕ × List scopes.Aiming) (ps : List Pending) (g : StaticState) →
    slice_get b.statics k ≡ Some g → extent_size (type_extent b.tags (with_count g.of n)) ≤ size_limit → Inv true b →
    Strict b → More b.pending ps → Begun (lengthened_state b k n ps) (with_count g.of n) i →
    Inv true (filled_state b k n i ps) × Grows false b (filled_state b k n i ps) × Strict (filled_state b k n i ps)
filled_ok b k n i ps g there l inv strict waits begun =
    let f = lengthened n in
    let h : StaticState → StaticState = λ g. record g { initial = Some i } in
    let hs = changed_at h (changed_at f b.statics k) k in
    let c : State = record b { pending = ps } in
    let quiet : Inv true c = record {
      tags = inv.tags;
      names = scopes_more (EntityOk true b) (EntityOk true c)
          (entity_kept true b c (pending_refers b ps) (omega arith) (omega arith)) b.scopes inv.names;
      statics =
          inv.statics;
      routines = inv.routines;
      locals = inv.locals;
    } in
    let moved = statics_moved true c hs
    (λ j x q. let z = twice_to f h b.statics k j x q in (
      z.0,
      z.1,
      ⊎_elim (λ a. ⊎_elim (λ w. subst (StaticGrows x) (sym w) (same_grows x))
          (λ w. subst (StaticGrows x) (sym w) (record { type = refines_self x.of; used = λ u. u })) a)
          (λ a. ⊎_elim (λ w. subst (StaticGrows x) (sym w) (longer_grows x))
          (λ w. subst (StaticGrows x) (sym w) (record { type = count_refines x.of n; used = λ u. u })) a) z.2,
    ))
    (λ j z q. let x = twice_from f h b.statics k j z q in ⊎_elim
    (λ a. ⊎_elim (λ w. subst (λ (v : StaticState). TypeOk b.tags v.of) (sym w) (inv.statics j x.0 x.1))
    (λ w. subst (λ (v : StaticState). TypeOk b.tags v.of) (sym w) (inv.statics j x.0 x.1)) a)
    (λ a. let same : x.0 ≡ g = same_Some x.0 g (sym x.1 ∙ ap (slice_get b.statics) a.0 ∙ there) in
    let long : TypeOk b.tags (with_count x.0.of n) =
    subst (λ (v : StaticState). TypeOk b.tags (with_count v.of n)) (sym same)
    (count_ok b.tags g.of n (inv.statics k g there) l) in
    ⊎_elim (λ w. subst (λ (v : StaticState). TypeOk b.tags v.of) (sym w) long)
    (λ w. subst (λ (v : StaticState). TypeOk b.tags v.of) (sym w) long) a.1) x.2)
    (omega (arith, length-changed h (changed_at f b.statics k) k, length-changed f b.statics k)) quiet in
    let r = filled_state b k n i ps in
    let grown = grows_on false b c r (pending_grows b ps) moved.1 in
    let links = linked_same b r (map_changed linkage_of h (changed_at f b.statics k) k (bytes_links i)
    ∙ map_changed linkage_of f b.statics k (filled_links n)) in
    let mid : State = lengthened_state b k n ps in
    let after : Follows mid r = record {
      tags = tags_self b.tags;
      routines = (refers_self b).routines;
      texts = λ k x q. q;
      more = λ k z h. h;
      statics = λ j x q. let z = changed_to h mid.statics k j x q in (
        z.0,
        z.1,
        ⊎_elim (λ w. subst (StaticGrows x) (sym w) (same_grows x))
            (λ w. subst (StaticGrows x) (sym w.1) (record { type = refines_self x.of; used = λ u. u })) z.2,
      );
    } in
    let new : Begun r (with_count g.of n) i =
    begun_kept mid r after (with_count g.of n) (with_count g.of n) i (refines_self (with_count g.of n)) begun in
    let last = changed_here h mid.statics k (f g) (changed_here f b.statics k g there) in
    let old : InitialsFrom b mid = λ j y m q c. let v = changed_from f b.statics k j y q in (
      v.0,
      v.1,
      ⊎_elim (λ z. ap (λ (v : StaticState). v.initial) (sym z) ∙ c)
          (λ z. ap (λ (v : StaticState). v.initial) (sym z.1) ∙ c) v.2,
    ) in
    let all : Begins mid = begins_on b mid (record {
      tags = tags_self b.tags;
      routines = (refers_self b).routines;
      texts = λ k x q. q;
      more = waits;
      statics = λ j x q. let z = changed_to f b.statics k j x q in (
        z.0,
        z.1,
        ⊎_elim (λ w. subst (StaticGrows x) (sym w) (same_grows x))
            (λ w. subst (StaticGrows x) (sym w.1) (longer_grows x)) z.2,
      );
    }) old strict.begins in
    let begins : Begins r = λ j y m q c. let v = changed_from h mid.statics k j y q in ⊎_elim
    (λ z. begun_kept mid r after v.0.of y.of m (ap (λ (y : StaticState). refines v.0.of y.of) z ∙ refines_self v.0.of)
    (all j v.0 m v.1 (ap (λ (v : StaticState). v.initial) (sym z) ∙ c)))
    (λ z. let same : y ≡ h (f g) = same_Some y (h (f g)) (sym q ∙ ap (slice_get hs) z.0 ∙ last) in
    let im : i ≡ m = same_Some i m (ap (λ (v : StaticState). v.initial) (sym same) ∙ c) in
    subst (Begun r y.of) im (subst (λ u. Begun r u i) (ap (λ (v : StaticState). v.of) (sym same)) new)) v.2 in (
      moved.0,
      grown,
      record {
        files = files_more b r (λ name j q. links name ∙ q) _ strict.files;
        bodies = bodies_on b r strict grown.refers (λ k x b q i. (x, q, i, refines_self x.of));
        begins = begins;
      },
    )
  where
    same_grows : (x : StaticState) → StaticGrows x x
    same_grows x = record { type = refines_self x.of; used = λ u. u }

    longer_grows : (x : StaticState) → StaticGrows x (lengthened n x)
    longer_grows x = record { type = count_refines x.of n; used = λ u. u }

-- the type of an object behind a step that leaves it
object_still : (s r : State) → Still s r → (k : ℕ) (g : StaticState) → slice_get s.statics k ≡ Some g →
    k < length r.statics → (h : StaticState) × (slice_get r.statics k ≡ Some h) × (h.of ≡ g.of)
object_still s r t k g e l =
    let h = item_at r.statics k l in
    let f = Rattle.typing_laws.proofs.Wholes.static_still s r t.statics k h.0 h.1 in (
      h.0,
      h.1,
      ap (λ (z : StaticState). z.of) (sym f.2)
          ∙ ap (λ (z : StaticState). z.of) (same_Some f.0 g (sym f.1 ∙ e)),
    )
  where
    item_at : (xs : List StaticState) (k : ℕ) → k < length xs → (x : StaticState) × (slice_get xs k ≡ Some x)
    item_at xs k l = (Rattle.std.proofs.Common.get_or xs k g, Rattle.std.proofs.lemmas.Option.slice_get-get_or xs k g l)

fill_static_ok : (k : ℕ) (t : Lexeme) (r : Reading × Pos) (s : State) (g : StaticState) →
    slice_get s.statics k ≡ Some g → Fillable s.tags g.of → Initializes r.0 → Inv true s → Strict s →
    (x : Unit × State) → fill_static k t r s ≡ Ok x → Quiet s x
fill_static_ok k t r s g there f h i w x e =
    let T = static_of (slice_get s.statics k) in
    let is : T ≡ g.of = ap static_of there in
    let set : List ℕ × List scopes.Aiming → State → State =
    λ i. change_static k (λ (g : StaticState). record g { initial = Some i }) in
    let last : Found → Doing Unit =
    λ found. look >>= λ s. complete_now (static_of (slice_get s.statics k)) t.pos
    >> change (set (initial_bytes found.0 found.1, found.1)) in
    let go : Filled → Doing Unit =
    λ f. change (change_static k (λ (g : StaticState). record g { of = with_count g.of f.count }))
    >> start_slots f.slots >>= last in
    let y = first_then (r.0.initializer is_start r.1 T 0 s) go x e in
    let a = h is_start r.1 T 0 s start_asked i (subst (TypeOk s.tags) (sym is) (i.statics k g there))
    (subst (Fillable s.tags) (sym is) f) y.0 y.1 in
    let b = y.0.1 in let n = y.0.0.count in
    let b' : State = change_static k (lengthened n) b in
    let z = first_then (start_slots y.0.0.slots b') last x y.2 in
    let q = slots_still y.0.0.slots b' z.0 z.1 in
    let ini : List ℕ × List scopes.Aiming = (initial_bytes z.0.0.0 z.0.0.1, z.0.0.1) in
    let c : State = waiting b' q.0 in
    let now = subst (λ (v : State). (complete_now (static_of (slice_get v.statics k)) t.pos >> change (set ini)) v
    ≡ Ok x) q.1 z.2 in
    let d = completed_now (static_of (slice_get c.statics k)) t.pos (change (set ini)) c x now in
    let l : k < length b.statics = let m = slice_get_within s.statics k g there in omega (arith, m, a.grown.statics) in
    let o = object_still s b a.grown.still k g there l in
    let len : static_of (slice_get c.statics k) ≡ with_count o.0.of n =
    ap static_of (changed_here (lengthened n) b.statics k o.0 o.1) in
    let size : extent_size (type_extent b.tags (with_count o.0.of n)) ≤ size_limit =
    subst (λ u. extent_size (type_extent b.tags u) ≤ size_limit) len d.1 in
    let whole : Complete b.tags (with_count o.0.of n) = subst (Complete b.tags) len d.0 in
    let slots : AllSlots b 0 whole.0 y.0.0.slots =
    a.post.0 whole.0 (ap (λ t. type_extent b.tags (with_count t n)) (is ∙ sym o.2) ∙ whole.1) in
    let longer : Refers b b' = record {
      tags = tags_self b.tags;
      routines = (refers_self b).routines;
      texts = λ k x q. q;
      locals = (refers_self b).locals;
      statics = λ j x q. let z = changed_to (lengthened n) b.statics k j x q in (
        z.0,
        z.1,
        ⊎_elim (λ w. subst (StaticGrows x) (sym w) (record { type = refines_self x.of; used = λ u. u }))
            (λ w. subst (StaticGrows x) (sym w.1) (record { type = count_refines x.of n; used = λ u. u })) z.2,
      );
    } in
    let fo = slots_found y.0.0.slots b' whole.0 a.inv.routines
    (slots_kept b b' longer 0 whole.0 y.0.0.slots slots) z.0 z.1 in
    let waits : More b.pending q.0 = subst (More b.pending) (ap (λ (t : State). t.pending) (sym fo.0.1 ∙ q.1)) fo.0.2 in
    let begun : Begun c (with_count o.0.of n) ini = (
      whole.0,
      whole.1,
      initial_ok c whole.0.size z.0.0
          (subst (λ (t : State). FoundOk t whole.0.size z.0.0) q.1 fo.1),
    ) in
    let done = filled_ok b k n ini q.0 o.0 o.1 size a.inv (strict_still s b w a.grown) waits begun in
    subst (Quiet s) (ok_is (tt, set ini c) x d.2) (record {
      kept = record {
        inv = done.0;
        grown = grows_on false s b (set ini c) (grows_loose false s b a.grown) done.1;
        post = a.grown.count;
      };
      strict = done.2;
    })

init_static_ok : (k : ℕ) (t : Lexeme) (b : Behind) (s : State) (g : StaticState) → slice_get s.statics k ≡ Some g →
    (has_any b ≡ true → Fillable s.tags g.of) → BehindOk b → Inv true s → Strict s → (x : Unit × State) →
    init_static k t b s ≡ Ok x → Quiet s x
init_static_ok k t None s g there f h i w x e =
    given (Quiet s) tt s x e (record { kept = record { inv = i; grown = grows_self false s; post = refl }; strict = w })
init_static_ok k t (Some r) s g there f h i w x e = fill_static_ok k t r s g there (f refl) h i w x e

-- ---- what a declarator declares

-- items, and what holds of the file behind them
pub record Done (s : State) (x : Items × State) : Type 0 where
  pub kept : (c : Context) → Kept true false s (λ r i. ItemsOk c s r i) x
  pub strict : Strict x.1
  -- at file scope there are no variables
  pub file : at_file_scope s ≡ true → length x.1.locals ≡ length s.locals

nothing_done : (s r : State) → Inv true r → Grows false s r → length r.locals ≡ length s.locals → Strict r →
    (x : Items × State) → give no_items r ≡ Ok x → Done s x
nothing_done s r i g l w x e =
    given (Done s) no_items r x e (record {
      kept = λ c.
          record { inv = i; grown = g; post = items_from c s r r no_items (sym l) (items_none c r) };
      strict =
          w;
      file = λ _. l;
    })

-- tests in front of a declaration
pub checked : {A : Type 0} (b : Bool) (p : Pos) (f : Formed) (lacks misfits : Bool) (d : Doing A) (s : State)
    (x : A × State) → (need b 131 p >> judge f lacks misfits p >> d) s ≡ Ok x →
    (b ≡ true) × Judged f lacks misfits × (d s ≡ Ok x)
checked b p f lacks misfits d s x e =
    let a = needed_in b 131 p (judge f lacks misfits p) (λ _. d) s x e in
    let j = judged f lacks misfits p d s x a.1 in
    (a.0, j.0, j.1)

-- ---- functions

routine_agrees : (o : Option RoutineState) (t : Ty) (d : Bool) → agrees_routine o t d ≡ true →
    (f : RoutineState) × (o ≡ Some f) × (compatible f.of t ≡ true)
routine_agrees None t d e = absurd (false≢true e)
routine_agrees (Some f) t d e = (f, refl, (and_parts (compatible f.of t) _ e).0)

abbrev pub RoutineThere : State → ℕ → Ty → Type 0
RoutineThere r k t = (f : RoutineState) × (slice_get r.routines k ≡ Some f) × (refines t f.of ≡ true)

pub record RoutineAt (s : State) (of : Ty) (e : Option Entity) (r : State) (k : ℕ) : Type 0 where
  pub locals : r.locals ≡ s.locals
  pub strict : Strict r
  pub there : ((j : ℕ) (u : Option Ty) → e ≡ Some (scopes.Library j u) → ⊥) → RoutineThere r k of

function_refines : (t u : Ty) → refines t u ≡ true → is_function t ≡ true → is_function u ≡ true
function_refines (Function r ps) u e f = ap is_function (Rattle.typing_laws.proofs.Wholes.function_refined r ps u e).is
function_refines t u e f = absurd (false≢true f)

new_routine_ok : (t : Lexeme) (of : Ty) (s : State) → TypeOk s.tags of → is_function of ≡ true → Inv true s → Strict s →
    (x : ℕ × State) → new_routine t of s ≡ Ok x → Kept true false s (RoutineAt s of None) x
new_routine_ok t of s h f i w x e =
    let g : RoutineState = record { name = t; of = of; begun = false; body = None; used = None } in
    let hs = s.routines ++ g ∷ [] in
    let a : State = record s { routines = hs } in
    let n = length s.routines in
    let moved = routines_moved true s hs
    (λ j y q. (y, there_in s.routines (g ∷ []) j y q, record { type = refines_self y.of; used = λ u. u }))
    (λ j y q. ⊎_elim (λ c. i.routines j y c) (λ c.
    subst (λ (z : RoutineState). TypeOk s.tags z.of × holds (is_function z.of)) (sym c.1) (h, f))
    (there_from s.routines g j y q)) (omega (arith, length-append s.routines (g ∷ []))) i in
    let b : Strict a = record {
      files = files_more s a (λ name j q. q) _ w.files;
      bodies = bodies_on s a w moved.1.refers (λ j y b q m.
          ⊎_elim (λ c. (y, c, m, refines_self y.of))
          (λ c. absurd (none-some b (sym (ap (λ (z : RoutineState). z.body) c.1) ∙ m)))
          (there_from s.routines g j y q));
      begins = begins_on s a (follows s a moved.1.refers (λ k z h. h)) (initials_self s a refl) w.begins;
    } in
    let l : n < length hs = omega (arith, length-append s.routines (g ∷ [])) in
    let c = bound_name a t.text (Routine n) l (λ _. tt) moved.0 b in
    given (Kept true false s (RoutineAt s of None)) n (bind_name t.text (Routine n) a) x e (record {
      inv = c.0;
      grown = grows_on false s a (bind_name t.text (Routine n) a) moved.1 c.1;
      post = record { locals = refl; strict = c.2; there = λ _. (g, last_of s.routines g, refines_self of) };
    })

abbrev composed : Ty → RoutineState → RoutineState
composed of f = record f { of = composite f.of of }

known_routine_ok : (k : ℕ) (of : Ty) (s : State) (g : RoutineState) → slice_get s.routines k ≡ Some g →
    compatible g.of of ≡ true → TypeOk s.tags of → Inv true s → Strict s → (x : ℕ × State) →
    known_routine k of s ≡ Ok x → Kept true false s (RoutineAt s of (Some (Routine k))) x
known_routine_ok k of s g there c h i w x e =
    let f = composed of in
    let hs = changed_at f s.routines k in
    let a : State = record s { routines = hs } in
    let same : (j : ℕ) (y : RoutineState) → slice_get s.routines j ≡ Some y → j ≡ k → compatible y.of of ≡ true =
    λ j y q z. ap (λ (v : RoutineState). compatible v.of of)
    (same_Some y g (sym q ∙ ap (slice_get s.routines) z ∙ there)) ∙ c in
    let moved = routines_moved true s hs
    (λ j y q. let v = changed_to f s.routines k j y q in (
      v.0,
      v.1,
      ⊎_elim (λ z. subst (RoutineGrows y) (sym z) (record { type = refines_self y.of; used = λ u. u }))
          (λ z. subst (RoutineGrows y) (sym z.1) (record
          { type = composite_left y.of of (same j y q z.0); used = λ u. u })) v.2,
    ))
    (λ j y q. let v = changed_from f s.routines k j y q in let o = i.routines j v.0 v.1 in
    ⊎_elim (λ z. subst (λ (v : RoutineState). TypeOk s.tags v.of × holds (is_function v.of)) (sym z) o)
    (λ z. subst (λ (v : RoutineState). TypeOk s.tags v.of × holds (is_function v.of)) (sym z.1) (
      composite_ok s.tags v.0.of of (same j v.0 v.1 z.0) o.0 h,
      function_refines v.0.of (composite v.0.of of) (composite_left v.0.of of (same j v.0 v.1 z.0)) o.1,
    )) v.2)
    (omega (arith, length-changed f s.routines k)) i in
    let b : Strict a = record {
      files = files_more s a (λ name j q. q) _ w.files;
      bodies = bodies_on s a w moved.1.refers (λ j y b q m. let v = changed_from f s.routines k j y q in
          ⊎_elim (λ z. (
            v.0,
            v.1,
            ap (λ (z : RoutineState). z.body) (sym z) ∙ m,
            ap (λ (y : RoutineState). refines v.0.of y.of) z ∙ refines_self v.0.of,
          ))
          (λ z. (
            v.0,
            v.1,
            ap (λ (z : RoutineState). z.body) (sym z.1) ∙ m,
            ap (λ (y : RoutineState). refines v.0.of y.of) z.1 ∙ composite_left v.0.of of (same j v.0 v.1 z.0),
          ))
          v.2);
      begins = begins_on s a (follows s a moved.1.refers (λ k z h. h)) (initials_self s a refl) w.begins;
    } in
    given (Kept true false s (RoutineAt s of (Some (Routine k)))) k a x e (record {
      inv = moved.0;
      grown = moved.1;
      post = record {
        locals = refl;
        strict = b;
        there = λ _. (f g, changed_here f s.routines k g there, composite_right g.of of c);
      };
    })

pub linked_routine_ok : (t : Lexeme) (of : Ty) (e : Option Entity) (d : Bool) (s : State) →
    function_agrees s e t.text of d ≡ true → TypeOk s.tags of → is_function of ≡ true → Inv true s → Strict s →
    (x : ℕ × State) → linked_routine t of e s ≡ Ok x → Kept true false s (RoutineAt s of e) x
linked_routine_ok t of None d s a h f i w x e = new_routine_ok t of s h f i w x e
linked_routine_ok t of (Some (Routine k)) d s a h f i w x e =
    let g = routine_agrees (slice_get s.routines k) of d a in known_routine_ok k of s g.0 g.1 g.2 h i w x e
linked_routine_ok t of (Some (scopes.Library k u)) d s a h f i w x e =
    given (Kept true false s (RoutineAt s of (Some (scopes.Library k u)))) 0 s x e
    (record {
      inv = i;
      grown = grows_self false s;
      post = record { locals = refl; strict = w; there = λ g. absurd (g k u refl) };
    })
linked_routine_ok t of (Some y) d s a h f i w x e = absurd (false≢true a)

declare_function_ok : (t : Lexeme) (p : Specified) (ws : List Rattle.c_tree.specs.Readings.Wrap) (b : Behind)
    (s : State) → TypeOk s.tags p.of → AllWraps s.tags ws → is_function (formed s p.of ws).of ≡ true → Inv true s →
    Strict s → (x : Items × State) → declare_function t (formed s p.of ws) b s ≡ Ok x → Done s x
declare_function_ok t p ws b s h k f i w x e =
    let F = formed s p.of ws in
    let o = find_in (innermost s.scopes).names t.text in
    let test = (if at_file_scope s then function_agrees s o t.text F.of false else is_new s t.text) in
    let y = first_then ((need test 131 t.pos >> judge F false (has_any b || not (at_file_scope s)) t.pos
    >> linked_routine t F.of o) s) (λ k. give no_items) x e in
    let c = checked test t.pos F false (has_any b || not (at_file_scope s)) (linked_routine t F.of o) s y.0 y.1 in
    let here : at_file_scope s ≡ true =
    not_not (at_file_scope s) (or_parts (has_any b) (not (at_file_scope s)) c.1.fits).1 in
    let agrees : function_agrees s o t.text F.of false ≡ true =
    at_true (at_file_scope s) (function_agrees s o t.text F.of false) (is_new s t.text) here c.0 in
    let l = linked_routine_ok t F.of o false s agrees (formed_ok s p.of ws k c.1.passes h) f i w y.0 c.2 in
    nothing_done s y.0.1 l.inv l.grown (ap length l.post.locals) l.post.strict x y.2
  where
    not_not : (b : Bool) → not b ≡ false → b ≡ true
    not_not true e = refl
    not_not false e = absurd (false≢true (sym e))

    at_true : (b x y : Bool) → b ≡ true → (if b then x else y) ≡ true → x ≡ true
    at_true true x y e h = h
    at_true false x y e h = absurd (false≢true e)

-- ---- objects and typedef names

declare_alias_ok : (t : Lexeme) (p : Specified) (ws : List Rattle.c_tree.specs.Readings.Wrap) (b : Behind) (s : State) →
    TypeOk s.tags p.of → AllWraps s.tags ws → Inv true s → Strict s → (x : Items × State) →
    declare_alias t (formed s p.of ws) b s ≡ Ok x → Done s x
declare_alias_ok t p ws b s h k i w x e =
    let F = formed s p.of ws in
    let test = (if at_file_scope s then alias_agrees (find_in (innermost s.scopes).names t.text) F.of
    else is_new s t.text) in
    let bind : Doing Unit = change (bind_name t.text (Alias F.of)) in
    let y = first_then ((need test 131 t.pos >> judge F false (has_any b) t.pos >> bind) s) (λ _. give no_items) x e in
    let c = checked test t.pos F false (has_any b) bind s y.0 y.1 in
    let r = bind_name t.text (Alias F.of) s in
    let d = bound_name s t.text (Alias F.of) (formed_ok s p.of ws k c.1.passes h) (λ _. tt) i w in
    let same = ok_is (tt, r) y.0 c.2 in
    nothing_done s y.0.1 (subst (λ (z : Unit × State). Inv true z.1) same d.0)
    (subst (λ (z : Unit × State). Grows false s z.1) same d.1)
    (ap (λ (z : Unit × State). length z.1.locals) (sym same))
    (subst (λ (z : Unit × State). Strict z.1) same d.2) x y.2

-- an object that is declared, and then its initializer
object_then : (s : State) (of : Ty) (t : Lexeme) (b : Behind) (y : ℕ × State) → Declares s of y →
    (has_any b ≡ true → Fillable s.tags of) → BehindOk b → (x : Items × State) →
    (init_static y.0 t b >> give no_items) y.1 ≡ Ok x → Done s x
object_then s of t b y d f h x e =
    let z = first_then (init_static y.0 t b y.1) (λ _. give no_items) x e in
    let q = init_static_ok y.0 t b y.1 d.post.object d.post.there
    (λ a. d.post.fills (f a)) h d.inv d.post.strict z.0 z.1 in
    nothing_done s z.0.1 q.kept.inv (grows_on false s y.1 z.0.1 d.grown q.kept.grown)
    (q.kept.post ∙ ap length d.post.locals) q.strict x z.2

is_open_array : (t : Ty) → is_open t ≡ true → (u : Ty) × (t ≡ Array u 0)
is_open_array (Array t zero) e = (t, refl)
is_open_array (Array t (suc n)) e = absurd (false≢true e)
is_open_array t e = absurd (false≢true e)

not_lacking : (b : Bool) → not b ≡ false → b ≡ true
not_lacking true e = refl
not_lacking false e = absurd (false≢true (sym e))

waits_fill : (s : State) (of : Ty) (b : Behind) → waits s of b ≡ true → has_any b ≡ true → Fillable s.tags of
waits_fill s of b e a =
    ⊎_elim (λ w. ⊎_elim (λ c. inl (complete_is s of c)) (λ o. inr (is_open_array of o))
    (or_cases (is_complete s of) (is_open of) w))
    (λ n. absurd (false≢true (sym (not-true (has_any b) n) ∙ a)))
    (or_cases (is_complete s of || is_open of) (not (has_any b)) e)

declare_global_ok : (storage : Storage) (t : Lexeme) (p : Specified) (ws : List Rattle.c_tree.specs.Readings.Wrap)
    (b : Behind) (s : State) → TypeOk s.tags p.of → AllWraps s.tags ws → BehindOk b → at_file_scope s ≡ true →
    Inv true s → Strict s → (x : Items × State) → declare_global storage t (formed s p.of ws) b s ≡ Ok x → Done s x
declare_global_ok storage t p ws b s h k g here i w x e =
    let F = formed s p.of ws in
    let o = find_in (innermost s.scopes).names t.text in
    let defines = has_any b || not (is_external storage) in
    let y = first_then ((need (object_agrees s o t.text F.of (has_any b)) 131 t.pos
    >> judge F (not (waits s F.of b)) false t.pos >> linked_static t F.of defines (linked s t.text)) s)
    (λ k. init_static k t b >> give no_items) x e in
    let c = checked (object_agrees s o t.text F.of (has_any b)) t.pos F (not (waits s F.of b)) false
    (linked_static t F.of defines (linked s t.text)) s y.0 y.1 in
    let one = Rattle.std.proofs.lemmas.Bool.eqb-true (length s.scopes) 1 here in
    let names : AllFiles s (innermost s.scopes).names = subst (AllFiles s) (one_scope s.scopes one) w.files in
    let l = linked_static_ok t F.of defines (linked s t.text) s refl
    (λ k q. object_linked s o t.text F.of (has_any b)
    (λ v q. file_entity s (innermost s.scopes).names t.text v names q) c.0 k q)
    (formed_ok s p.of ws k c.1.passes h) i w y.0 c.2 in
    object_then s F.of t b y.0 l (waits_fill s F.of b (not_lacking _ c.1.complete)) g x y.2

declare_external_ok : (t : Lexeme) (p : Specified) (ws : List Rattle.c_tree.specs.Readings.Wrap) (b : Behind)
    (s : State) → TypeOk s.tags p.of → AllWraps s.tags ws → Inv true s → Strict s → (x : Items × State) →
    declare_external t (formed s p.of ws) b s ≡ Ok x → Done s x
declare_external_ok t p ws b s h k i w x e =
    let F = formed s p.of ws in
    let named = may_be_external s (find_in (innermost s.scopes).names t.text) in
    let test = named && not (named_function s t.text) && object_agrees s None t.text F.of false in
    let y = first_then ((need test 131 t.pos >> judge F false (has_any b) t.pos
    >> linked_static t F.of false (linked s t.text)) s) (λ k. give no_items) x e in
    let c = checked test t.pos F false (has_any b) (linked_static t F.of false (linked s t.text)) s y.0 y.1 in
    let a = (and_parts (named && not (named_function s t.text)) (object_agrees s None t.text F.of false) c.0).1 in
    let l = linked_static_ok t F.of false (linked s t.text) s refl
    (λ k q. linked_agrees s (linked s t.text) F.of false a k q)
    (formed_ok s p.of ws k c.1.passes h) i w y.0 c.2 in
    nothing_done s y.0.1 l.inv l.grown (ap length l.post.locals) l.post.strict x y.2

ready_fill : (s : State) (of : Ty) (b : Behind) → ready s of b ≡ true →
    Complete s.tags of ⊎ (((u : Ty) × (of ≡ Array u 0)) × (has_any b ≡ true))
ready_fill s of b e =
    ⊎_elim (λ c. inl (complete_is s of c)) (λ o. let p = and_parts (is_open of) (has_any b) o in
    inr (is_open_array of p.0, p.1)) (or_cases (is_complete s of) (is_open of && has_any b) e)

declare_internal_ok : (t : Lexeme) (p : Specified) (ws : List Rattle.c_tree.specs.Readings.Wrap) (b : Behind)
    (s : State) → TypeOk s.tags p.of → AllWraps s.tags ws → BehindOk b → at_file_scope s ≡ false → Inv true s →
    Strict s → (x : Items × State) → declare_internal t (formed s p.of ws) b s ≡ Ok x → Done s x
declare_internal_ok t p ws b s h k g inner i w x e =
    let F = formed s p.of ws in
    let y = first_then ((need (is_new s t.text) 131 t.pos >> judge F (not (ready s F.of b)) false t.pos
    >> new_static t F.of false true) s) (λ k. init_static k t b >> give no_items) x e in
    let c = checked (is_new s t.text) t.pos F (not (ready s F.of b)) false (new_static t F.of false true) s y.0 y.1 in
    let l = new_static_ok t F.of false true s (formed_ok s p.of ws k c.1.passes h)
    (λ q. absurd (false≢true (sym inner ∙ q))) i w y.0 c.2 in
    object_then s F.of t b y.0 l (λ _. ⊎_elim (λ c. inl c) (λ o. inr o.0)
    (ready_fill s F.of b (not_lacking _ c.1.complete))) g x y.2

-- ---- variables

-- a variable is there, in a state with one more
pub record LocalAt (s : State) (of : Ty) (r : State) (k : ℕ) : Type 0 where
  pub local : LocalState
  pub there : slice_get r.locals k ≡ Some local
  pub type : local.of ≡ of
  pub number : k ≡ length s.locals
  pub count : length r.locals ≡ length s.locals + 1
  pub strict : Strict r

new_local_ok : (t : Lexeme) (of : Ty) (s : State) → TypeOk s.tags of → Inv true s → Strict s → (x : ℕ × State) →
    new_local t of s ≡ Ok x → Kept true false s (LocalAt s of) x
new_local_ok t of s h i w x e =
    let v : LocalState = record { name = t; of = of; addressed = false } in
    let vs = s.locals ++ v ∷ [] in
    let a : State = record s { locals = vs } in
    let n = length s.locals in
    let moved = locals_moved true s vs
    (λ j y q. (y, there_in s.locals (v ∷ []) j y q, record { type = refines_self y.of; fixed = λ _. refl }))
    (λ j y q. ⊎_elim (λ c. i.locals j y c) (λ c. subst (λ (z : LocalState). TypeOk s.tags z.of) (sym c.1) h)
    (there_from s.locals v j y q)) i in
    let b = strict_with s a w moved.1.refers refl (initials_self s a refl) refl
    (files_more s a (λ name j q. q) _ w.files) in
    let c = bound_name a t.text (Local n of) (h, (v, last_of s.locals v, refines_self of)) (λ _. tt) moved.0 b in
    given (Kept true false s (LocalAt s of)) n (bind_name t.text (Local n of) a) x e (record {
      inv = c.0;
      grown = grows_on false s a (bind_name t.text (Local n of) a) moved.1 c.1;
      post = record {
        local = v;
        there = last_of s.locals v;
        type = refl;
        number = refl;
        count = length-append s.locals (v ∷ []) ∙ omega arith;
        strict = c.2;
      };
    })

-- its initialisations
inits_fit : (k : ℕ) (p : Pos) (r : State) (v : LocalState) (z : Extent) (gives : Ty)
    (i : Rattle.c_tree.specs.WellTyped.Inside) → slice_get r.locals k ≡ Some v → type_extent r.tags v.of ≡ Some z →
    (xs : List Slot) → AllInit r z xs → (is_scalar (bare v.of) ≡ true → AllWhole (bare v.of) xs) →
    ActionsOk r gives i (actions (map (init_action k p) xs))
inits_fit k p r v z gives i l e [] h w = tt
inits_fit k p r v z gives i l e (x ∷ xs) h w = (
  ((h.0.value.fits, tt), (v, z, h.0.extent, l, e, h.0.is, h.0.inside, λ c. ((w c).0.at, (w c).0.type)), tt),
  inits_fit k p r v z gives i l e xs h.1 (λ c. (w c).1),
)

inits_declare : (k : ℕ) (p : Pos) (xs : List Slot) → all_declared (actions (map (init_action k p) xs)) ≡ []
inits_declare k p [] = refl
inits_declare k p (x ∷ xs) = inits_declare k p xs

-- a new variable and its initialisations, from the state before it
pub record Started (s : State) (k : ℕ) (r : State) (xs : List Action) : Type 0 where
  pub fits : (gives : Ty) (i : Rattle.c_tree.specs.WellTyped.Inside) → ActionsOk r gives i (actions xs)
  pub declares : all_declared (actions xs) ≡ []
  pub count : length r.locals ≡ length s.locals
  pub complete : (v : LocalState) → slice_get r.locals k ≡ Some v → Complete r.tags v.of
  pub strict : Strict r

local_still : (s r : State) → Still s r → (k : ℕ) (v : LocalState) → slice_get s.locals k ≡ Some v →
    k < length r.locals → (w : LocalState) × (slice_get r.locals k ≡ Some w) × (w.of ≡ v.of)
local_still s r t k v e l =
    let w = Rattle.std.proofs.Common.get_or r.locals k v in
    let q = Rattle.std.proofs.lemmas.Option.slice_get-get_or r.locals k v l in
    let f = Rattle.typing_laws.proofs.Wholes.mapped_from untaken_local s.locals k (untaken_local w)
    (ap (λ xs. slice_get xs k) (sym t.locals) ∙ slice_get-map untaken_local r.locals k
    ∙ ap (option_map untaken_local) q) in
    (w, q, ap (λ (z : LocalState). z.of) (sym f.2) ∙ ap (λ (z : LocalState). z.of) (same_Some f.0 v (sym f.1 ∙ e)))

abbrev longer_local : Ty → LocalState → LocalState
longer_local u v = record v { of = u }

fill_local_ok : (k : ℕ) (t : Lexeme) (of : Ty) (r : Reading × Pos) (s : State) (v : LocalState) →
    slice_get s.locals k ≡ Some v → v.of ≡ of → Fillable s.tags of → TypeOk s.tags of → Initializes r.0 → Inv true s →
    Strict s → (x : List Action × State) → fill_local k t of r s ≡ Ok x → Kept true false s (Started s k) x
fill_local_ok k t of r s v there is f h ini i w x e =
    let bind : Ty → State → State =
    λ u s. bind_name t.text (Local k u) (record s { locals = changed_at (λ v. record v { of = u }) s.locals k })
    in
    let last : Filled → Doing (List Action) =
    λ f. change (bind (with_count of f.count)) >> complete_now (with_count of f.count) t.pos >> look
    >>= λ s. give (map (init_action k t.pos) (every_slot s r.1 (with_count of f.count) f.slots)) in
    let y = first_then (r.0.initializer (λ x. give tt) r.1 of 0 s) last x e in
    let a = ini (λ x. give tt) r.1 of 0 s (λ z q g c. given (λ (y : Unit × State). y.1 ≡ q) tt q g c refl) i h f y.0 y.1
    in
    let b = y.0.1 in let n = y.0.0.count in let slots = y.0.0.slots in
    let u = with_count of n in
    let c : State = bind u b in
    let acts : State → Doing (List Action) = λ s. give (map (init_action k t.pos) (every_slot s r.1 u slots)) in
    let d = first_then ((change (bind u) >> complete_now u t.pos >> look) b) acts x y.2 in
    let g = completed_now u t.pos look c d.0 d.1 in
    let m = slice_get_within s.locals k v there in
    let l : k < length b.locals = let q = a.grown.count in omega (arith, m, q) in
    let o = local_still s b a.grown.still k v there l in
    let ok : TypeOk b.tags u = count_ok b.tags of n (type_kept s.tags b.tags a.grown.refers.tags of h) g.1 in
    let same : (j : ℕ) (z : LocalState) → slice_get b.locals j ≡ Some z → j ≡ k → z.of ≡ of =
    λ j z q m. ap (λ (v : LocalState). v.of) (same_Some z o.0 (sym q ∙ ap (slice_get b.locals) m ∙ o.1)) ∙ o.2
    ∙ is in
    let vs = changed_at (longer_local u) b.locals k in
    let b' : State = record b { locals = vs } in
    let before_locals : (j : ℕ) (z : LocalState) → slice_get b.locals j ≡ Some z → TypeOk b.tags z.of =
    λ j z q. a.inv.locals j z q in
    let moved = locals_moved true b vs
    (λ j z q. let m = changed_to (longer_local u) b.locals k j z q in (
      m.0,
      m.1,
      record {
        type = ⊎_elim (λ a. ap (λ (w : LocalState). refines z.of w.of) a ∙ refines_self z.of)
            (λ a. ap (λ (w : LocalState). refines z.of w.of) a.1 ∙ ap (λ t. refines t u) (same j z q a.0)
            ∙ count_refines of n) m.2;
        fixed = λ d. ⊎_elim (λ a. ap (λ (w : LocalState). w.of) a)
            (λ a. let y = same j z q a.0 in
            ap (λ (w : LocalState). w.of) a.1 ∙ count_fixed of n (ap is_open (sym y) ∙ d) ∙ sym y) m.2;
      },
    ))
    (λ j z q. let m = changed_from (longer_local u) b.locals k j z q in
    ⊎_elim (λ a. subst (λ (w : LocalState). TypeOk b.tags w.of) (sym a) (before_locals j m.0 m.1))
    (λ a. subst (λ (w : LocalState). TypeOk b.tags w.of) (sym a.1) ok) m.2)
    a.inv in
    let kept = strict_still s b w a.grown in
    let here = changed_here (longer_local u) b.locals k o.0 o.1 in
    let q = bound_name b' t.text (Local k u) (ok, (longer_local u o.0, here, refines_self u)) (λ _. tt) moved.0
    (strict_with b b' kept moved.1.refers refl (initials_self b b' refl) refl
    (files_more b b' (λ name j q. q) _ kept.files)) in
    let grown = grows_on false b b' c moved.1 q.1 in
    let z = g.0 in
    let lasting = slots_kept b c grown.refers 0 z.0 slots (a.post.0 z.0 z.1) in
    let all = every_ok c r.1 u z.0 slots q.0.tags ok z.1 lasting in
    let own : is_scalar (bare u) ≡ true → AllOf (bare u) slots = λ m. let whole = scalar_count of n m in
    subst (λ t. AllOf (bare t) slots) (sym whole) (a.post.1 (ap (λ t. is_scalar (bare t)) (sym whole) ∙ m)) in
    let same_state = ok_is (c, c) d.0 g.2 in
    let now = subst (λ (w : State × State). acts w.0 w.1 ≡ Ok x) (sym same_state) d.2 in
    given (Kept true false s (Started s k)) (map (init_action k t.pos) (every_slot c r.1 u slots)) c x now (record {
      inv = q.0;
      grown = grows_on false s b c (grows_loose false s b a.grown) grown;
      post = record {
        fits = λ gives i. inits_fit k t.pos c (longer_local u o.0) z.0 gives i here z.1 (every_slot c r.1 u slots) all
            (λ m. every_whole c r.1 u z.0 slots lasting (own m) m);
        declares = inits_declare k t.pos (every_slot c r.1 u slots);
        count = length-changed (longer_local u) b.locals k ∙ a.grown.count;
        complete = λ w m. (
          z.0,
          ap (λ (v : LocalState). type_extent b.tags v.of)
              (same_Some w (longer_local u o.0) (sym m ∙ here)) ∙ z.1,
        );
        strict = q.2;
      };
    })

init_local_ok : (k : ℕ) (t : Lexeme) (of : Ty) (b : Behind) (s : State) (v : LocalState) →
    slice_get s.locals k ≡ Some v → v.of ≡ of →
    (Complete s.tags of ⊎ (((u : Ty) × (of ≡ Array u 0)) × (has_any b ≡ true))) → TypeOk s.tags of → BehindOk b →
    Inv true s → Strict s → (x : List Action × State) → init_local k t of b s ≡ Ok x → Kept true false s (Started s k) x
init_local_ok k t of None s v there is f h ini i w x e =
    let c : Complete s.tags of = ⊎_elim (λ c. c) (λ o. absurd (false≢true o.1)) f in
    given (Kept true false s (Started s k)) [] s x e (record {
      inv = i;
      grown = grows_self false s;
      post = record {
        fits = λ g n. tt;
        declares = refl;
        count = refl;
        complete = λ u m. (
          c.0,
          ap (type_extent s.tags)
              (ap (λ (z : LocalState). z.of) (same_Some u v (sym m ∙ there)) ∙ is) ∙ c.1,
        );
        strict = w;
      };
    })
init_local_ok k t of (Some r) s v there is f h ini i w x e =
    fill_local_ok k t of r s v there is (⊎_elim (λ c. inl c) (λ o. inr o.0) f) h ini i w x e

one_variable : (n k : ℕ) → times_in k (n ∷ []) ≡ (if n == k then 1 else 0)
one_variable n k = sum_by-cons (λ j. if j == k then 1 else 0) n [] ∙ omega arith

single : (P : ℕ → Type 0) (n : ℕ) → P n → (j k : ℕ) → slice_get (n ∷ []) j ≡ Some k → P k
single P n h zero k e = subst P (same_Some n k e) h
single P n h (suc j) k e = absurd cc

declare_local_ok : (t : Lexeme) (p : Specified) (ws : List Rattle.c_tree.specs.Readings.Wrap) (b : Behind) (s : State) →
    TypeOk s.tags p.of → AllWraps s.tags ws → BehindOk b → at_file_scope s ≡ false → Inv true s → Strict s →
    (x : Items × State) → declare_local t (formed s p.of ws) b s ≡ Ok x → Done s x
declare_local_ok t p ws b s h k g inner i w x e =
    let F = formed s p.of ws in
    let last : ℕ → List Action → Doing Items = λ k xs. give (record { vars = k ∷ []; actions = xs }) in
    let y = first_then ((need (is_new s t.text) 131 t.pos >> judge F (not (ready s F.of b)) false t.pos
    >> new_local t F.of) s) (λ k. init_local k t F.of b >>= last k) x e in
    let c = checked (is_new s t.text) t.pos F (not (ready s F.of b)) false (new_local t F.of) s y.0 y.1 in
    let ok = formed_ok s p.of ws k c.1.passes h in
    let l = new_local_ok t F.of s ok i w y.0 c.2 in
    let r = y.0.1 in let n = y.0.0 in
    let z = first_then (init_local n t F.of b r) (last n) x y.2 in
    let fill = ⊎_elim (λ c. inl (complete_kept s.tags r.tags l.grown.refers.tags F.of c)) (λ o. inr o)
    (ready_fill s F.of b (not_lacking _ c.1.complete)) in
    let m = init_local_ok n t F.of b r l.post.local l.post.there l.post.type fill
    (type_kept s.tags r.tags l.grown.refers.tags F.of ok) g l.inv l.post.strict z.0 z.1 in
    let q = z.0.1 in let xs = z.0.0 in
    let count : length q.locals ≡ length s.locals + 1 = m.post.count ∙ l.post.count in
    let below : n < length q.locals = omega (arith, count, l.post.number) in
    given (Done s) (record { vars = n ∷ []; actions = xs }) q x z.2 (record {
      kept = λ c. record {
        inv = m.inv;
        grown = grows_on false s r q l.grown m.grown;
        post = record {
          fits = m.post.fits c.gives (inside_context c);
          vars = single (λ k. k < length q.locals) n below;
          more = omega (arith, count);
          once = λ k. let a = one_variable n k in let d = between_one (length s.locals) k in
              let f : times_in k (all_declared (actions xs)) ≡ 0 = ap (times_in k) m.post.declares in
              let u : (if n == k then 1 else 0) ≡ between (length s.locals) (length q.locals) k =
              ap (λ j. if j == k then 1 else 0) l.post.number ∙ sym d
              ∙ ap (λ j. between (length s.locals) j k) (sym count) in
              omega (arith, a, f, u);
          complete = λ j v le there. let lt = slice_get_within q.locals j v there in
              let same : j ≡ n = omega (arith, lt, le, count, l.post.number) in
              m.post.complete v (ap (slice_get q.locals) (sym same) ∙ there);
        };
      };
      strict = m.post.strict;
      file = λ a. absurd (false≢true (sym inner ∙ a));
    })

in_block_ok : (storage : Storage) (t : Lexeme) (p : Specified) (ws : List Rattle.c_tree.specs.Readings.Wrap)
    (b : Behind) (s : State) → TypeOk s.tags p.of → AllWraps s.tags ws → BehindOk b → at_file_scope s ≡ false →
    Inv true s → Strict s → (x : Items × State) → declare_in_block storage t (formed s p.of ws) b s ≡ Ok x → Done s x
in_block_ok External t p ws b s h k g inner i w x e = declare_external_ok t p ws b s h k i w x e
in_block_ok Internal t p ws b s h k g inner i w x e = declare_internal_ok t p ws b s h k g inner i w x e
in_block_ok Plain t p ws b s h k g inner i w x e = declare_local_ok t p ws b s h k g inner i w x e
in_block_ok Defining_type t p ws b s h k g inner i w x e = declare_local_ok t p ws b s h k g inner i w x e

object_ok : (storage : Storage) (t : Lexeme) (p : Specified) (ws : List Rattle.c_tree.specs.Readings.Wrap) (b : Behind)
    (s : State) → TypeOk s.tags p.of → AllWraps s.tags ws → BehindOk b → Inv true s → Strict s → (x : Items × State) →
    declare_object s storage t (formed s p.of ws) b s ≡ Ok x → Done s x
object_ok storage t p ws b s h k g i w x e =
    let F = formed s p.of ws in
    either (is_function F.of) (declare_function t F b)
    (if at_file_scope s then declare_global storage t F b else declare_in_block storage t F b) s x (Done s x)
    (λ f q. declare_function_ok t p ws b s h k f i w x q)
    (λ _ q. either (at_file_scope s) (declare_global storage t F b) (declare_in_block storage t F b) s x (Done s x)
    (λ here q. declare_global_ok storage t p ws b s h k g here i w x q)
    (λ inner q. in_block_ok storage t p ws b s h k g inner i w x q) q) e

declare_ok : (storage : Storage) (t : Lexeme) (p : Specified) (ws : List Rattle.c_tree.specs.Readings.Wrap) (b : Behind)
    (s : State) → TypeOk s.tags p.of → AllWraps s.tags ws → BehindOk b → Inv true s → Strict s → (x : Items × State) →
    declare s storage t (formed s p.of ws) b s ≡ Ok x → Done s x
declare_ok Defining_type t p ws b s h k g i w x e = declare_alias_ok t p ws b s h k i w x e
declare_ok Plain t p ws b s h k g i w x e = object_ok Plain t p ws b s h k g i w x e
declare_ok Internal t p ws b s h k g i w x e = object_ok Internal t p ws b s h k g i w x e
declare_ok External t p ws b s h k g i w x e = object_ok External t p ws b s h k g i w x e

named_ok : (p : Specified) (d : Derived) (name : Option Lexeme) (b : Behind) (s : State) → TypeOk s.tags p.of →
    AllWraps s.tags d.wraps → BehindOk b → Inv true s → Strict s → (x : Items × State) →
    declare_named p d name b s ≡ Ok x → Done s x
named_ok p d None b s h k g i w x e = refused _ x e
named_ok p d (Some t) b s h k g i w x e = declare_ok p.storage t p d.wraps b s h k g i w x e

-- a step before it that declares nothing
pub done_behind : (s r : State) (x : Items × State) → Grows true s r → Done r x → Done s x
done_behind s r x g d = record {
  kept = λ c. let k = d.kept c in
      record {
        inv = k.inv;
        grown = grows_on false s r x.1 (grows_loose false s r g) k.grown;
        post = items_from c s r x.1 x.0 (sym g.count) k.post;
      };
  strict = d.strict;
  file = λ a. d.file (ap (λ n. n == 1) g.deep ∙ a) ∙ g.count;
}

-- a part of the syntax whose declarator and initializer are read
pub record ReadsInit (r : Reading) : Type 0 where
  pub declared : ReadsDeclared r
  pub initializer : Initializes r

abbrev pub AllInits : List Reading → Type 0
AllInits [] = Unit {0}
AllInits (r ∷ rs) = ReadsInit r × AllInits rs

derived_then : (r : Reading) (p : Specified) (b : Behind) (s : State) → ReadsDeclared r → BehindOk b →
    TypeOk s.tags p.of → Inv true s → Strict s → (x : Items × State) →
    (r.derived >>= λ d. declare_named p d d.name b) s ≡ Ok x → Done s x
derived_then r p b s h g k i w x e =
    let y = first_then (r.derived s) (λ d. declare_named p d d.name b) x e in
    let l = regain true s (λ q d. AllWraps q.tags d.wraps) y.0 i (h.derived s (weaker true s i) y.0 y.1) in
    done_behind s y.0.1 x l.grown (named_ok p y.0.0 y.0.0.name b y.0.1
    (type_kept s.tags y.0.1.tags l.grown.refers.tags p.of k) l.post g l.inv
    (strict_still s y.0.1 w l.grown) x y.2)

pub init_declarator_ok : (xs : Syns) (rs : List Reading) (p : Specified) (s : State) → AllInits rs →
    TypeOk s.tags p.of → Inv true s → Strict s → (x : Items × State) → init_declarator xs rs p s ≡ Ok x → Done s x
unfolding init_declarator
init_declarator_ok (more y nil) (r ∷ rs) p s h k i w x e = derived_then r p None s h.0.declared tt k i w x e
init_declarator_ok (more y (more z zs)) (r ∷ q ∷ rs) p s h k i w x e =
    derived_then r p (Some (q, (first_token z).pos)) s h.0.declared h.1.0.initializer k i w x e
init_declarator_ok xs rs p s h k i w x e = refused _ x e

-- ---- declarations

abbrev pub DeclaresAs : Reading → Type 0
DeclaresAs r = (p : Specified) (s : State) → TypeOk s.tags p.of → Inv true s → Strict s → (x : Items × State) →
    r.declared p s ≡ Ok x → Done s x

abbrev pub AllDeclareAs : List Reading → Type 0
AllDeclareAs [] = Unit {0}
AllDeclareAs (r ∷ rs) = DeclaresAs r × AllDeclareAs rs

declare_all_ok : (p : Specified) (rs : List Reading) (s : State) → AllDeclareAs rs → TypeOk s.tags p.of → Inv true s →
    Strict s → (x : Items × State) → declare_all p rs s ≡ Ok x → Done s x
declare_all_ok p [] s h k i w x e = nothing_done s s i (grows_self false s) refl w x e
declare_all_ok p (r ∷ rs) s h k i w x e =
    let y = first_then (r.declared p s) (λ a. declare_all p rs >>= λ b. give (both a b)) x e in
    let c0 : Context = record { gives = Void; in_loop = false; breakable = false } in
    let d = h.0 p s k i w y.0 y.1 in
    let a = y.0.1 in
    let g = (d.kept c0).grown in
    let z = first_then (declare_all p rs a) (λ b. give (both y.0.0 b)) x y.2 in
    let f = declare_all_ok p rs a h.1 (type_kept s.tags a.tags g.refers.tags p.of k) (d.kept c0).inv d.strict z.0 z.1 in
    given (Done s) (both y.0.0 z.0.0) z.0.1 x z.2 (record {
      kept = λ c. let u = d.kept c in let v = f.kept c in
          record {
            inv = v.inv;
            grown = grows_on false s a z.0.1 u.grown v.grown;
            post = items_both c s a z.0.1 y.0.0 z.0.0 v.grown.refers u.post v.post;
          };
      strict = f.strict;
      file = λ b. f.file (ap (λ n. n == 1) g.deep ∙ b) ∙ d.file b;
    })

pub declaration_ok : (at : Pos) (rs : List Reading) (s : State) → AllDeclared rs → AllDeclareAs rs → Inv true s →
    Strict s → (x : Items × State) → declaration at rs s ≡ Ok x → Done s x
unfolding declaration
declaration_ok at [] s h k i w x e = refused _ x e
declaration_ok at (r ∷ rs) s h k i w x e =
    let y = first_then (r.specified (is_alone rs) s) (λ p. declare_all p rs) x e in
    let l = regain true s (λ q p. TypeOk q.tags p.of) y.0 i (h.0.specified (is_alone rs) s (weaker true s i) y.0 y.1) in
    done_behind s y.0.1 x l.grown (declare_all_ok y.0.0 rs y.0.1 k.1 l.post l.inv
    (strict_still s y.0.1 w l.grown) x y.2)
