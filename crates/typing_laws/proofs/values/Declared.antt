-- Declarations and initializers as typing makes them (C11 6.7, 6.7.9).
use Rattle.std.proofs.Common.{zero, sym, ap, ◌∙◌, Result, Err, ◌≡◌, ℕ, ◌+◌, ℤ, Bool, true, false, List, [], ◌∷◌, ◌++◌}
use Rattle.std.proofs.Common.{length, Option, Some, None, Ok, subst, refl}
use Rattle.std.specs.Prelude.{slice_get, if◌then◌else◌, not, nat_le, ◌&&◌, ◌||◌, map, flat_map, find, ◌==◌}
use Rattle.std.proofs.lemmas.Option.{same_Some, none-some}
use Rattle.ck_base.specs.Tokens.{Lexeme}
use Rattle.ck_base.specs.declared.positions.Pos.{Pos}
use Rattle.c_tree.specs.Conversions.{Operand}
use Rattle.c_tree.specs.Declarations.{new_static, linked_static, linked_routine, new_local, no_items, Behind}
use Rattle.c_tree.specs.Declarations.{complete_now, init_static, init_action, init_local, declare_alias}
use Rattle.c_tree.specs.Declarations.{declare_function, declare_global, declare_external, declare_internal}
use Rattle.c_tree.specs.Declarations.{declare_local, declare_in_block, declare_object, declare, declare_named}
use Rattle.c_tree.specs.Declarations.{init_declarator, both, declare_all, declaration, static_of, has_any, alias_agrees}
use Rattle.c_tree.specs.Declarations.{function_agrees, object_agrees, waits, is_external, linked, may_be_external}
use Rattle.c_tree.specs.Declarations.{named_function, ready}
use Rattle.c_tree.specs.Declarators.{Formed, formed, judge, is_new}
use Rattle.c_tree.specs.Expressions.{expression_of}
use Rattle.c_tree.specs.Initializers.{byte_slots, string_initializer, plain_initializer, items, braced_initializer}
use Rattle.c_tree.specs.Initializers.{item_place, covers, scalar_slot, scalars, every_slot, with_count, takes_string}
use Rattle.c_tree.specs.Layout.{size_limit}
use Rattle.c_tree.specs.Programs.{initializer_of, is_text}
use Rattle.c_tree.specs.Readings.{Storage, Plain, Internal, External, Defining_type, Specified, Derived, Slot, Filled}
use Rattle.c_tree.specs.Readings.{Items, Reading}
use Rattle.c_tree.specs.Scopes.{LocalState, Fault, continued, Entity, Routine, Alias, State, Doing, give, change}
use Rattle.c_tree.specs.Scopes.{bind_name, at_file_scope, is_complete, type_extent, extent_size, need, ◌>>=◌, ◌>>◌}
use Rattle.c_tree.specs.Scopes.{find_in, innermost}
use Rattle.c_tree.specs.Statics.{Start, Number, There, Entry, Found, ask_for, start_slot, is_start, start_slots}
use Rattle.c_tree.specs.Statics.{known_value}
use Rattle.c_tree.specs.Syntax.{Syns, nil, more}
use Rattle.c_tree.specs.Terms.{Aim, To_global, To_literal, To_function}
use Rattle.c_tree.specs.Types.{Array, Ty, bare, is_function}
use Rattle.c_tree.specs.declared.syntax.NodeKind.{NodeKind}
use Rattle.c_tree.specs.declared.syntax.NodeKind.TheVariants as Kinds
use Rattle.typing_laws.proofs.Tags.{last_of}
use Rattle.typing_laws.proofs.values.Sorts.{is_stored}
use Rattle.typing_laws.proofs.values.Made.{TermWorth, InitsMade, inits_append, actions_append}
use Rattle.typing_laws.proofs.values.Stepping.{LocalsKept, changed_locals, pushed_locals, run_on, run_from, run_refuse}
use Rattle.typing_laws.proofs.values.Stepping.{still}
use Rattle.typing_laws.proofs.values.Stepping.{Runs, Keeps, Any, going, run_give, run_kept, run_need, run_then}
use Rattle.typing_laws.proofs.values.Stepping.{run_next}
use Rattle.typing_laws.proofs.values.Stepping.{BodiesMade, give_keeps, refuse_goes, goes_then, goes_next, need_keeps}
use Rattle.typing_laws.proofs.values.Stepping.{some_keeps}
use Rattle.typing_laws.proofs.values.Stepping.{if_goes, bodies_changed, bodies_added}
use Rattle.typing_laws.proofs.values.Expressions.{Made, value_keeps, assigned_keeps}
use Rattle.typing_laws.proofs.values.Readings.{SlotsMade, FilledMade, ItemsMade, ItemsBegin, Reads, AllReads}
use Rattle.typing_laws.proofs.values.Readings.{expression_keeps}
use Rattle.typing_laws.proofs.values.Declarators.{judge_keeps}

-- what is looked at
run_seen : {q : State} → BodiesMade q.routines → Runs {A = State} Any q.locals (Ok (q, q))
run_seen at = run_give still at tt

-- ---- initializers

alone_made : {B : Type 0} → B → B × Unit {0}
alone_made h = (h, tt)

slots_append : (xs ys : List Slot) → SlotsMade xs → SlotsMade ys → SlotsMade (xs ++ ys)
slots_append [] ys h k = k
slots_append (x ∷ xs) ys h k = (h.0, slots_append xs ys h.1 k)

bytes_made : (whole : Pos) (t : Ty) (at : ℕ) (bs : List ℕ) → SlotsMade (byte_slots whole t at bs)
bytes_made whole t at [] = tt
bytes_made whole t at (b ∷ bs) = (((tt, tt), refl), bytes_made whole t (at + 1) bs)

string_keeps : (t : Lexeme) (xs : Syns) (whole : Pos) (of : Ty) (at : ℕ) →
    Keeps FilledMade (string_initializer t xs whole of at)
unfolding string_initializer
string_keeps t xs whole of at = goes_next (need_keeps _ _ _) (give_keeps (bytes_made whole _ at _))

plain_keeps : (d : Doing Operand) (asked : Slot → Doing Unit) (whole : Pos) (of : Ty) (at : ℕ) →
    Keeps Made d → ((x : Slot) → Keeps Any (asked x)) →
    Keeps FilledMade (plain_initializer d asked whole of at)
unfolding plain_initializer
plain_keeps d asked whole of at h a =
    goes_then (goes_then h λ x i. value_keeps x i) λ x i. goes_then (assigned_keeps of x i) λ y j.
    goes_next (a (record { at = at; of = bare of; value = y; first = x.first })) (give_keeps (alone_made j))

items_keep : (s : State) (asked : Slot → Doing Unit) (whole : Pos) (of : Ty) (at : ℕ) (brace : Pos) (k : ℕ)
    (rs : List Reading) → AllReads rs → ((x : Slot) → Keeps Any (asked x)) →
    Keeps SlotsMade (items s asked whole of at brace k rs)
items_keep s asked whole of at brace k [] h a = give_keeps tt
items_keep s asked whole of at brace k (r ∷ rs) h a =
    goes_then (some_keeps (item_place s of k) 133 brace) λ p u.
    goes_then (h.0.initializer asked whole p.1 (at + p.0) a) λ f i.
    goes_then (items_keep s asked whole of at brace (k + 1) rs h.1 a) λ slots j.
    give_keeps (slots_append f.slots slots i j)

filled_keeps : (s : State) (asked : Slot → Doing Unit) (whole : Pos) (of : Ty) (at : ℕ) (brace : Pos) (n : ℕ)
    (rs : List Reading) → AllReads rs → ((x : Slot) → Keeps Any (asked x)) →
    Keeps {A = Filled} (FilledMade) (items s asked whole of at brace 0 rs
    >>= λ slots. give (record { slots = slots; count = n }))
filled_keeps s asked whole of at brace n rs h a =
    goes_then (items_keep s asked whole of at brace 0 rs h a) λ slots i. give_keeps i

braced_keeps : (brace : Lexeme) (text : Bool) (rs : List Reading) (asked : Slot → Doing Unit) (whole : Pos) (of : Ty)
    (at : ℕ) → AllReads rs → ((x : Slot) → Keeps Any (asked x)) →
    Keeps FilledMade (braced_initializer brace text rs asked whole of at)
unfolding braced_initializer
braced_keeps brace text (r ∷ []) asked whole of at h a =
    if_goes (text && takes_string of) _ _ (h.0.initializer asked whole of at a)
    (going λ s here. (filled_keeps s asked whole of at brace.pos 1 (r ∷ []) h a).run s here)
braced_keeps brace text [] asked whole of at h a =
    going λ s here. (filled_keeps s asked whole of at brace.pos 0 [] h a).run s here
braced_keeps brace text (r ∷ q ∷ rs) asked whole of at h a =
    going λ s here. (filled_keeps s asked whole of at brace.pos (length (r ∷ q ∷ rs)) (r ∷ q ∷ rs) h a).run s here

-- one expression
lone_keeps : (k : NodeKind) (t : Lexeme) (xs : Syns) (rs : List Reading) (asked : Slot → Doing Unit) (whole : Pos)
    (of : Ty) (at : ℕ) → AllReads rs → ((x : Slot) → Keeps Any (asked x)) →
    Keeps FilledMade (plain_initializer (expression_of k t xs rs) asked
    whole of at)
lone_keeps k t xs rs asked whole of at h a = plain_keeps _ asked whole of at (expression_keeps k t xs rs h) a

pub initializer_keeps : (k : NodeKind) (t : Lexeme) (xs : Syns) (rs : List Reading) (asked : Slot → Doing Unit)
    (whole : Pos) (of : Ty) (at : ℕ) → AllReads rs → ((x : Slot) → Keeps Any (asked x)) →
    Keeps FilledMade (initializer_of k t xs rs asked whole of at)
initializer_keeps Kinds.BracedInitializer t xs rs asked whole of at h a =
    braced_keeps t (is_text xs) rs asked whole of at h a
initializer_keeps Kinds.Text t xs rs asked whole of at h a =
    if_goes (takes_string of) _ _ (string_keeps t xs whole of at)
    (lone_keeps Kinds.Text t xs rs asked whole of at h a)
initializer_keeps k t xs rs asked whole of at h a = lone_keeps k t xs rs asked whole of at h a

abbrev pub BehindReads : Behind → Type 0
BehindReads None = Unit {0}
BehindReads (Some r) = Reads r.0

-- ---- every scalar of a local

found_or : (b : Bool) (y : Slot) (o : Option Slot) (x : Slot) → TermWorth y.value →
    (o ≡ Some x → TermWorth x.value) → (if b then Some y else o) ≡ Some x → TermWorth x.value
found_or true y o x h k e = subst (λ (z : Slot). TermWorth z.value) (same_Some y x e) h
found_or false y o x h k e = k e

found_made : (test : Slot → Bool) (slots : List Slot) (x : Slot) → SlotsMade slots →
    find test slots ≡ Some x → TermWorth x.value
found_made test [] x h e = absurd (none-some x e)
found_made test (y ∷ ys) x h e =
    found_or (test y) y (find test ys) x h.0 (λ q. found_made test ys x h.1 q) e

one_slot : (whole : Pos) (p : ℕ × Ty) (o : Option Slot) → ((x : Slot) → o ≡ Some x → TermWorth x.value) →
    SlotsMade (scalar_slot whole p o)
one_slot whole p None h = (((tt, tt), refl), tt)
one_slot whole p (Some x) h = by (x.at == p.0)
  where
    by : (b : Bool) → SlotsMade (if b then x ∷ [] else [])
    by true = (h x refl, tt)
    by false = tt

each_slot : (s : State) (whole : Pos) (slots : List Slot) → SlotsMade slots → (ps : List (ℕ × Ty)) →
    SlotsMade (flat_map (λ p. scalar_slot whole p (find (covers s p.0) slots)) ps)
each_slot s whole slots h [] = tt
each_slot s whole slots h (p ∷ ps) =
    slots_append (scalar_slot whole p (find (covers s p.0) slots)) _
    (one_slot whole p (find (covers s p.0) slots) (λ x e. found_made (covers s p.0) slots x h e))
    (each_slot s whole slots h ps)

every_made : (s : State) (whole : Pos) (t : Ty) (slots : List Slot) → SlotsMade slots →
    SlotsMade (every_slot s whole t slots)
unfolding every_slot
every_made s whole t slots h = each_slot s whole slots h (scalars s t)

inits_made : (k : ℕ) (p : Pos) (slots : List Slot) → SlotsMade slots →
    InitsMade (map (init_action k p) slots)
inits_made k p [] h = tt
inits_made k p (x ∷ xs) h = ((tt, (tt, (h.0, tt), tt)), inits_made k p xs h.1)

-- ---- objects of static storage duration

new_static_keeps : (t : Lexeme) (of : Ty) (linkage defined : Bool) → Keeps Any (new_static t of linkage defined)
new_static_keeps t of linkage defined =
    going λ s at. run_give still at tt

linked_static_keeps : (t : Lexeme) (of : Ty) (defined : Bool) (o : Option ℕ) →
    Keeps Any (linked_static t of defined o)
linked_static_keeps t of defined (Some k) =
    going λ s at. run_give still at tt
linked_static_keeps t of defined None = new_static_keeps t of true defined

start_keeps : (x : Slot) → Keeps Any (is_start x)
start_keeps x =
    going λ s at. run_then ((some_keeps (known_value s x.value) 134 x.first).run s at) λ v q at i. run_give still at tt

ask_keeps : (p : Pos) (a : Aim) (zs : List ℤ) → Keeps Any (ask_for p a zs)
ask_keeps p (To_global k) [] = give_keeps tt
ask_keeps p (To_global k) (z ∷ zs) = going λ s at. (ask_keeps p (To_global k) zs).run _ at
ask_keeps p (To_literal k) zs = give_keeps tt
ask_keeps p (To_function k) zs = give_keeps tt

start_slot_keeps : (s : State) (x : Slot) (v : Start × List ℤ) (f : Found) → Keeps Any (start_slot s x v f)
start_slot_keeps s x (Number v, asks) f = give_keeps tt
start_slot_keeps s x (There a r z, asks) f = goes_next (ask_keeps x.first a asks) (give_keeps tt)
start_slot_keeps s x (Entry k, asks) f = give_keeps tt

start_slots_keep : (xs : List Slot) → Keeps Any (start_slots xs)
start_slots_keep [] = give_keeps tt
start_slots_keep (x ∷ xs) =
    going λ s at. run_then ((some_keeps (known_value s x.value) 134 x.first).run s at) λ v q at i.
    (goes_then (start_slots_keep xs) λ f j. start_slot_keeps s x v f).run q at

complete_keeps : (of : Ty) (p : Pos) → Keeps Any (complete_now of p)
complete_keeps of p =
    going λ s at. run_next (run_need _ (is_complete s of) 132 p at) λ q at.
    run_need _ (nat_le (extent_size (type_extent s.tags of)) size_limit) 140 p at

init_static_keeps : (k : ℕ) (t : Lexeme) (b : Behind) → BehindReads b → Keeps Any (init_static k t b)
init_static_keeps k t None h = give_keeps tt
init_static_keeps k t (Some r) h =
    going λ s at. run_then ((h.initializer is_start r.1 (static_of (slice_get s.statics k)) 0 start_keeps).run s at) λ f
    q at i. run_then ((start_slots_keep f.slots).run _ at) λ found r at j.
    run_next ((complete_keeps (static_of (slice_get r.statics k)) t.pos).run r at) λ q at.
    run_kept still at

-- ---- functions

pub linked_routine_keeps : (t : Lexeme) (of : Ty) (o : Option Entity) → Keeps Any (linked_routine t of o)
linked_routine_keeps t of (Some (Routine k)) =
    going λ s at. run_give still (bodies_changed _ (λ r. refl) s.routines k at) tt
linked_routine_keeps t of (Some e) = give_keeps tt
linked_routine_keeps t of None =
    going λ s at. run_give still (bodies_added s.routines _ refl at) tt

-- ---- locals

counted_stored : (t : Ty) (n : ℕ) → is_stored (with_count t n) ≡ is_stored t
counted_stored (Array t zero) n = refl
counted_stored t n = refl

-- a local with a number is of a type, or of one with its length
Has : List LocalState → ℕ → Ty → Type 0
Has vs k t = (v : LocalState) → slice_get vs k ≡ Some v → is_stored v.of ≡ is_stored t

has_kept : {us vs : List LocalState} → LocalsKept us vs → (k : ℕ) (t : Ty) (v : LocalState) → slice_get us k ≡ Some v →
    v.of ≡ t → Has vs k t
unfolding Has
has_kept l k t v e i w q =
    let z = l.at k v e in
    ap (λ (v : LocalState). is_stored v.of) (same_Some w z.0 (sym q ∙ z.1)) ∙ z.2 ∙ ap is_stored i

init_local_runs : (k : ℕ) (t : Lexeme) (of : Ty) (b : Behind) → BehindReads b → (q : State) → BodiesMade q.routines →
    (v : LocalState) → slice_get q.locals k ≡ Some v → v.of ≡ of → Runs InitsMade q.locals (init_local k t of b q)
unfolding Has
init_local_runs k t of None h q at v e i = run_give still at tt
init_local_runs k t of (Some r) h q at v e i =
    run_on ((h.initializer (λ x. give tt) r.1 of 0 (λ x. give_keeps tt)).run q at) λ f s at w l.
    run_from (changed_locals (λ v. record v { of = with_count of f.count }) s.locals k
    (λ z g. counted_stored of f.count ∙ sym (has_kept l k of v e i z g)))
    (run_then (run_then ((complete_keeps (with_count of f.count) t.pos).run _ at) λ u q at v. run_seen at) λ s q at o.
    run_give still at (inits_made k t.pos _ (every_made s r.1 _ f.slots w)))

-- a step behind others that give nothing
run_behind : {A B : Type 0} {Q : B → Type 0} {vs : List LocalState} {r : Result (Unit × State) Fault} (d : Doing A)
    (g : A → Doing B) → Runs Any vs r → ((q : State) → BodiesMade q.routines → Runs Q q.locals (continued (d q) g)) →
    Runs Q vs (continued (continued r (λ _. d)) g)
run_behind {r = Ok y} d g h f = run_from (h.locals y refl) (f y.1 (h.bodies y refl))
run_behind {r = Err k} d g h f = run_refuse

-- ---- declarators with their initializers

-- what each declaration is tested for first
pub checked : {B : Type 0} {Q : B → Type 0} (q : State) (c : Bool) (p : Pos) (f : Formed) (lacks misfits : Bool)
    (d : Doing B) → Keeps Q d → BodiesMade q.routines →
    Runs Q q.locals ((need c 131 p >> judge f lacks misfits p >> d) q)
checked q c p f lacks misfits d h at =
    run_next (run_next (run_need _ c 131 p at) λ r at. (judge_keeps f lacks misfits p).run r at) λ r at. h.run r at

module _ (t : Lexeme) (f : Formed) (b : Behind) (h : BehindReads b) where
  abbrev there : State → Option Entity
  there s = find_in (innermost s.scopes).names t.text

  alias_keeps : Keeps Any (change (bind_name t.text (Alias f.of)))
  alias_keeps = going λ s at. run_kept still at

  alias_goes : Keeps ItemsBegin (declare_alias t f b)
  alias_goes =
      going λ s at. run_next (checked _ (if at_file_scope s then alias_agrees (there s) f.of else is_new s t.text) t.pos
      f
      false (has_any b) _ alias_keeps at) λ q at. run_give still at tt

  function_goes : Keeps ItemsBegin (declare_function t f b)
  function_goes =
      going λ s at. run_then (checked _ (if at_file_scope s then function_agrees s (there s) t.text f.of false
      else is_new s t.text) t.pos f false (has_any b || not (at_file_scope s)) _
      (linked_routine_keeps t f.of (there s)) at) λ k q at i. run_give still at tt

  initialised : (k : ℕ) → Keeps ItemsBegin (init_static k t b >> give no_items)
  initialised k = goes_next (init_static_keeps k t b h) (give_keeps tt)

  global_goes : (storage : Storage) → Keeps ItemsBegin (declare_global storage t f b)
  global_goes storage =
      going λ s at. run_then (checked _ (object_agrees s (there s) t.text f.of (has_any b)) t.pos f
      (not (waits s f.of b)) false _
      (linked_static_keeps t f.of (has_any b || not (is_external storage)) (linked s t.text)) at) λ k q at i.
      (initialised k).run q at

  external_goes : Keeps ItemsBegin (declare_external t f b)
  external_goes =
      going λ s at. run_then (checked _ (may_be_external s (there s) && not (named_function s t.text)
      && object_agrees s None t.text f.of false) t.pos f false (has_any b) _
      (linked_static_keeps t f.of false (linked s t.text)) at) λ k q at i. run_give still at tt

  internal_goes : Keeps ItemsBegin (declare_internal t f b)
  internal_goes =
      going λ s at. run_then (checked _ (is_new s t.text) t.pos f (not (ready s f.of b)) false _
      (new_static_keeps t f.of false true) at) λ k q at i. (initialised k).run q at

  local_goes : Keeps ItemsBegin (declare_local t f b)
  local_goes =
      going λ s at. run_behind (new_local t f.of) _ (run_next (run_need _ (is_new s t.text) 131 t.pos at) λ q at.
      (judge_keeps f (not (ready s f.of b)) false t.pos).run q at) λ q at.
      let v : LocalState = record { name = t; of = f.of; addressed = false } in
      run_from (pushed_locals q.locals v)
      (run_then (init_local_runs (length q.locals) t f.of b h _ at v (last_of q.locals v) refl) λ xs r at j.
      run_give still at j)

  in_block_goes : (storage : Storage) → Keeps ItemsBegin (declare_in_block storage t f b)
  in_block_goes External = external_goes
  in_block_goes Internal = internal_goes
  in_block_goes Plain = local_goes
  in_block_goes Defining_type = local_goes

  object_goes : (s : State) (storage : Storage) → Keeps ItemsBegin (declare_object s storage t f b)
  object_goes s storage = if_goes (is_function f.of) _ _ function_goes
      (if_goes (at_file_scope s) _ _ (global_goes storage) (in_block_goes storage))

  declare_goes : (s : State) (storage : Storage) → Keeps ItemsBegin (declare s storage t f b)
  declare_goes s Defining_type = alias_goes
  declare_goes s Plain = object_goes s Plain
  declare_goes s Internal = object_goes s Internal
  declare_goes s External = object_goes s External

declare_named_goes : (s : Specified) (d : Derived) (name : Option Lexeme) (b : Behind) → BehindReads b →
    Keeps ItemsBegin (declare_named s d name b)
declare_named_goes s d None b h = refuse_goes
declare_named_goes s d (Some t) b h =
    going λ st at. (declare_goes t (formed st s.of d.wraps) b h st s.storage).run st at

pub init_declarator_goes : (xs : Syns) (rs : List Reading) (s : Specified) → AllReads rs →
    Keeps ItemsBegin (init_declarator xs rs s)
unfolding init_declarator
init_declarator_goes (more x nil) (r ∷ rs) s h =
    goes_then h.0.derived λ d i. declare_named_goes s d d.name None tt
init_declarator_goes (more x (more y ys)) (r ∷ q ∷ rs) s h =
    goes_then h.0.derived λ d i. declare_named_goes s d d.name (Some (q, _)) h.1.0
init_declarator_goes xs rs s h = refuse_goes

pub both_made : (a b : Items) → ItemsMade a → ItemsMade b → ItemsMade (both a b)
both_made a b h g = actions_append a.actions b.actions h g

declare_all_goes : (s : Specified) (rs : List Reading) → AllReads rs → Keeps ItemsBegin (declare_all s rs)
declare_all_goes s [] h = give_keeps tt
declare_all_goes s (r ∷ rs) h =
    goes_then (h.0.declared s) λ a i. goes_then (declare_all_goes s rs h.1) λ b j.
    give_keeps (inits_append a.actions b.actions i j)

pub declaration_goes : (p : Pos) (rs : List Reading) → AllReads rs → Keeps ItemsBegin (declaration p rs)
unfolding declaration
declaration_goes p [] h = refuse_goes
declaration_goes p (r ∷ rs) h = goes_then (h.0.specified _) λ s i. declare_all_goes s rs h.1
