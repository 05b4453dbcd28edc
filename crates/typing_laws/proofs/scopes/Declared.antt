-- Declarations and initializers name what is in scope (C11 6.7, 6.7.9).
use Rattle.std.proofs.Common.{◌≡◌, ℕ, ◌+◌, ℤ, Bool, true, false, List, [], ◌∷◌, ◌++◌, length, Option, Some}
use Rattle.std.proofs.Common.{None, Ok, inl, inr, ⊎_elim, subst, refl}
use Rattle.std.specs.Prelude.{if◌then◌else◌, not, nat_le, ◌&&◌, ◌||◌, map, flat_map, find, slice_get, ◌==◌}
use Rattle.std.proofs.lemmas.Option.{none-some, same_Some}
use Rattle.ck_base.specs.declared.positions.Pos.{Pos}
use Rattle.ck_base.specs.Tokens.{Lexeme}
use Rattle.c_tree.specs.declared.syntax.NodeKind.{NodeKind}
use Rattle.c_tree.specs.declared.syntax.NodeKind.TheVariants as Kinds
use Rattle.c_tree.specs.Syntax.{Syns, nil, more}
use Rattle.c_tree.specs.Types.{Ty, bare, is_function}
use Rattle.c_tree.specs.Terms.{Aim, To_global, To_literal, To_function, actions}
use Rattle.c_tree.specs.Scopes.{Entity, Local, Static, Routine, Alias}
use Rattle.c_tree.specs.Scopes.{State, Doing, give, change, bind_name}
use Rattle.c_tree.specs.Scopes.{at_file_scope, is_complete, type_extent, extent_size, need, ◌>>=◌, ◌>>◌, find_in}
use Rattle.c_tree.specs.Scopes.{innermost}
use Rattle.c_tree.specs.Layout.{size_limit}
use Rattle.c_tree.specs.Conversions.{Operand}
use Rattle.c_tree.specs.Expressions.{expression_of}
use Rattle.c_tree.specs.Readings.{Storage, Plain, Internal, External, Defining_type, Specified, Derived, Slot, Filled}
use Rattle.c_tree.specs.Readings.{Items, Reading}
use Rattle.c_tree.specs.Declarators.{Formed, formed, judge, is_new}
use Rattle.c_tree.specs.Initializers.{byte_slots, string_initializer, plain_initializer, items, braced_initializer}
use Rattle.c_tree.specs.Initializers.{item_place, covers, scalar_slot, scalars, every_slot, with_count, takes_string}
use Rattle.c_tree.specs.Statics.{Start, Number, There, Entry, Found, ask_for, start_slot, is_start, start_slots}
use Rattle.c_tree.specs.Statics.{known_value}
use Rattle.c_tree.specs.Declarations.{new_static, linked_static}
use Rattle.c_tree.specs.Declarations.{linked_routine, new_local, no_items, Behind, complete_now}
use Rattle.c_tree.specs.Declarations.{init_static}
use Rattle.c_tree.specs.Declarations.{init_action, init_local, declare_alias, declare_function}
use Rattle.c_tree.specs.Declarations.{declare_global, declare_external, declare_internal, declare_local}
use Rattle.c_tree.specs.Declarations.{declare_in_block, declare_object, declare, declare_named, init_declarator, both}
use Rattle.c_tree.specs.Declarations.{declare_all, declaration, static_of, has_any, alias_agrees, function_agrees}
use Rattle.c_tree.specs.Declarations.{object_agrees, waits, is_external, linked, may_be_external, named_function, ready}
use Rattle.c_tree.specs.Programs.{initializer_of, is_text}
use Rattle.typing_laws.specs.Scoping.{IsAmong, TermScoped, ActionsScoped}
use Rattle.typing_laws.proofs.scopes.Stepping.{More, among_left, among_right, among_either, actions_more}
use Rattle.typing_laws.proofs.scopes.Stepping.{actions_append, At}
use Rattle.typing_laws.proofs.scopes.Stepping.{at_more, moved, Runs, Goes, Keeps, Any, going, on, run_give, run_kept}
use Rattle.typing_laws.proofs.scopes.Stepping.{run_need}
use Rattle.typing_laws.proofs.scopes.Stepping.{run_then, run_next, give_goes, give_keeps, refuse_goes, goes_then}
use Rattle.typing_laws.proofs.scopes.Stepping.{goes_next}
use Rattle.typing_laws.proofs.scopes.Stepping.{need_keeps, some_keeps, if_goes, bodies_changed, bodies_added, bound}
use Rattle.typing_laws.proofs.scopes.Expressions.{Scoped, value_keeps, assigned_keeps}
use Rattle.typing_laws.proofs.scopes.Readings.{SlotsScoped, FilledScoped, with_vars, ItemsScoped, Itemed, Reads}
use Rattle.typing_laws.proofs.scopes.Readings.{AllReads}
use Rattle.typing_laws.proofs.scopes.Readings.{expression_keeps}
use Rattle.typing_laws.proofs.scopes.Declarators.{judge_keeps}

-- what is looked at
run_seen : {js : List ℕ} {b q : State} → At js b q → Runs {A = State} (λ _. js) Any b (Ok (q, q))
run_seen at = run_give at tt

-- ---- initializers

alone_scoped : {B : Type 0} → B → B × Unit {0}
alone_scoped h = (h, tt)

slots_append : (js : List ℕ) (xs ys : List Slot) → SlotsScoped js xs → SlotsScoped js ys → SlotsScoped js (xs ++ ys)
slots_append js [] ys h k = k
slots_append js (x ∷ xs) ys h k = (h.0, slots_append js xs ys h.1 k)

module _ (js : List ℕ) where
  bytes_scoped : (whole : Pos) (t : Ty) (at : ℕ) (bs : List ℕ) → SlotsScoped js (byte_slots whole t at bs)
  bytes_scoped whole t at [] = tt
  bytes_scoped whole t at (b ∷ bs) = ((tt, tt), bytes_scoped whole t (at + 1) bs)

  string_keeps : (t : Lexeme) (xs : Syns) (whole : Pos) (of : Ty) (at : ℕ) →
      Keeps js (FilledScoped js) (string_initializer t xs whole of at)
  unfolding string_initializer
  string_keeps t xs whole of at = goes_next (need_keeps _ _ _) (give_keeps (bytes_scoped whole _ at _))

  plain_keeps : (d : Doing Operand) (asked : Slot → Doing Unit) (whole : Pos) (of : Ty) (at : ℕ) →
      Keeps js (Scoped js) d → ((x : Slot) → Keeps js Any (asked x)) →
      Keeps js (FilledScoped js) (plain_initializer d asked whole of at)
  unfolding plain_initializer
  plain_keeps d asked whole of at h a =
      goes_then (goes_then h λ x i. value_keeps js x i) λ x i. goes_then (assigned_keeps js of x i) λ y j.
      goes_next (a (record { at = at; of = bare of; value = y; first = x.first })) (give_keeps (alone_scoped j))

  items_keep : (s : State) (asked : Slot → Doing Unit) (whole : Pos) (of : Ty) (at : ℕ) (brace : Pos) (k : ℕ)
      (rs : List Reading) → AllReads rs → ((x : Slot) → Keeps js Any (asked x)) →
      Keeps js (SlotsScoped js) (items s asked whole of at brace k rs)
  items_keep s asked whole of at brace k [] h a = give_keeps tt
  items_keep s asked whole of at brace k (r ∷ rs) h a =
      goes_then (some_keeps (item_place s of k) 133 brace) λ p u.
      goes_then (h.0.initializer js asked whole p.1 (at + p.0) a) λ f i.
      goes_then (items_keep s asked whole of at brace (k + 1) rs h.1 a) λ slots j.
      give_keeps (slots_append js f.slots slots i j)

  filled_keeps : (s : State) (asked : Slot → Doing Unit) (whole : Pos) (of : Ty) (at : ℕ) (brace : Pos) (n : ℕ)
      (rs : List Reading) → AllReads rs → ((x : Slot) → Keeps js Any (asked x)) →
      Keeps {A = Filled} js (FilledScoped js) (items s asked whole of at brace 0 rs
      >>= λ slots. give (record { slots = slots; count = n }))
  filled_keeps s asked whole of at brace n rs h a =
      goes_then (items_keep s asked whole of at brace 0 rs h a) λ slots i. give_keeps i

  braced_keeps : (brace : Lexeme) (text : Bool) (rs : List Reading) (asked : Slot → Doing Unit) (whole : Pos) (of : Ty)
      (at : ℕ) → AllReads rs → ((x : Slot) → Keeps js Any (asked x)) →
      Keeps js (FilledScoped js) (braced_initializer brace text rs asked whole of at)
  unfolding braced_initializer
  braced_keeps brace text (r ∷ []) asked whole of at h a =
      if_goes (text && takes_string of) _ _ (h.0.initializer js asked whole of at a)
      (going λ b s here. (filled_keeps s asked whole of at brace.pos 1 (r ∷ []) h a).run b s here)
  braced_keeps brace text [] asked whole of at h a =
      going λ b s here. (filled_keeps s asked whole of at brace.pos 0 [] h a).run b s here
  braced_keeps brace text (r ∷ q ∷ rs) asked whole of at h a =
      going λ b s here. (filled_keeps s asked whole of at brace.pos (length (r ∷ q ∷ rs)) (r ∷ q ∷ rs) h a).run b s here

  -- one expression
  lone_keeps : (k : NodeKind) (t : Lexeme) (xs : Syns) (rs : List Reading) (asked : Slot → Doing Unit) (whole : Pos)
      (of : Ty) (at : ℕ) → AllReads rs → ((x : Slot) → Keeps js Any (asked x)) →
      Keeps js (FilledScoped js) (plain_initializer (expression_of k t xs rs) asked
      whole of at)
  lone_keeps k t xs rs asked whole of at h a = plain_keeps _ asked whole of at (expression_keeps js k t xs rs h) a

  pub initializer_keeps : (k : NodeKind) (t : Lexeme) (xs : Syns) (rs : List Reading) (asked : Slot → Doing Unit)
      (whole : Pos) (of : Ty) (at : ℕ) → AllReads rs → ((x : Slot) → Keeps js Any (asked x)) →
      Keeps js (FilledScoped js) (initializer_of k t xs rs asked whole of at)
  initializer_keeps Kinds.BracedInitializer t xs rs asked whole of at h a =
      braced_keeps t (is_text xs) rs asked whole of at h a
  initializer_keeps Kinds.Text t xs rs asked whole of at h a =
      if_goes (takes_string of) _ _ (string_keeps t xs whole of at)
      (lone_keeps Kinds.Text t xs rs asked whole of at h a)
  initializer_keeps k t xs rs asked whole of at h a = lone_keeps k t xs rs asked whole of at h a

abbrev pub BehindReads : Behind → Type 0
BehindReads None = Unit {0}
BehindReads (Some r) = Reads r.0

-- ---- every scalar of a local

module _ (js : List ℕ) where
  found_or : (b : Bool) (y : Slot) (o : Option Slot) (x : Slot) → TermScoped js y.value →
      (o ≡ Some x → TermScoped js x.value) → (if b then Some y else o) ≡ Some x → TermScoped js x.value
  found_or true y o x h k e = subst (λ (z : Slot). TermScoped js z.value) (same_Some y x e) h
  found_or false y o x h k e = k e

  found_scoped : (test : Slot → Bool) (slots : List Slot) (x : Slot) → SlotsScoped js slots →
      find test slots ≡ Some x → TermScoped js x.value
  found_scoped test [] x h e = absurd (none-some x e)
  found_scoped test (y ∷ ys) x h e =
      found_or (test y) y (find test ys) x h.0 (λ q. found_scoped test ys x h.1 q) e

  one_slot : (whole : Pos) (p : ℕ × Ty) (o : Option Slot) → ((x : Slot) → o ≡ Some x → TermScoped js x.value) →
      SlotsScoped js (scalar_slot whole p o)
  one_slot whole p None h = ((tt, tt), tt)
  one_slot whole p (Some x) h = by (x.at == p.0)
    where
      by : (b : Bool) → SlotsScoped js (if b then x ∷ [] else [])
      by true = (h x refl, tt)
      by false = tt

  each_slot : (s : State) (whole : Pos) (slots : List Slot) → SlotsScoped js slots → (ps : List (ℕ × Ty)) →
      SlotsScoped js (flat_map (λ p. scalar_slot whole p (find (covers s p.0) slots)) ps)
  each_slot s whole slots h [] = tt
  each_slot s whole slots h (p ∷ ps) =
      slots_append js (scalar_slot whole p (find (covers s p.0) slots)) _
      (one_slot whole p (find (covers s p.0) slots) (λ x e. found_scoped (covers s p.0) slots x h e))
      (each_slot s whole slots h ps)

  every_scoped : (s : State) (whole : Pos) (t : Ty) (slots : List Slot) → SlotsScoped js slots →
      SlotsScoped js (every_slot s whole t slots)
  unfolding every_slot
  every_scoped s whole t slots h = each_slot s whole slots h (scalars s t)

  inits_scoped : (k : ℕ) (p : Pos) → IsAmong js k → (slots : List Slot) → SlotsScoped js slots →
      ActionsScoped js (actions (map (init_action k p) slots))
  inits_scoped k p a [] h = tt
  inits_scoped k p a (x ∷ xs) h = ((a, (h.0, tt), tt), inits_scoped k p a xs h.1)

  -- ---- objects of static storage duration

  new_static_keeps : (t : Lexeme) (of : Ty) (linkage defined : Bool) → Keeps js Any (new_static t of linkage defined)
  new_static_keeps t of linkage defined =
      going λ b s at. run_give (bound t.text (Static (length s.statics)) at tt refl (λ c. c)) tt

  linked_static_keeps : (t : Lexeme) (of : Ty) (defined : Bool) (o : Option ℕ) →
      Keeps js Any (linked_static t of defined o)
  linked_static_keeps t of defined (Some k) =
      going λ b s at. run_give (bound t.text (Static k) at tt refl (λ c. c)) tt
  linked_static_keeps t of defined None = new_static_keeps t of true defined

  start_keeps : (x : Slot) → Keeps js Any (is_start x)
  start_keeps x =
      going λ b s at. run_then ((some_keeps (known_value s x.value) 134 x.first).run b s at) λ v q at i. run_give at tt

  ask_keeps : (p : Pos) (a : Aim) (zs : List ℤ) → Keeps js Any (ask_for p a zs)
  ask_keeps p (To_global k) [] = give_keeps tt
  ask_keeps p (To_global k) (z ∷ zs) = going λ b s at. (ask_keeps p (To_global k) zs).run b _ (moved at refl (λ c. c))
  ask_keeps p (To_literal k) zs = give_keeps tt
  ask_keeps p (To_function k) zs = give_keeps tt

  start_slot_keeps : (s : State) (x : Slot) (v : Start × List ℤ) (f : Found) → Keeps js Any (start_slot s x v f)
  start_slot_keeps s x (Number v, asks) f = give_keeps tt
  start_slot_keeps s x (There a r z, asks) f = goes_next (ask_keeps x.first a asks) (give_keeps tt)
  start_slot_keeps s x (Entry k, asks) f = give_keeps tt

  start_slots_keep : (xs : List Slot) → Keeps js Any (start_slots xs)
  start_slots_keep [] = give_keeps tt
  start_slots_keep (x ∷ xs) =
      going λ b s at. run_then ((some_keeps (known_value s x.value) 134 x.first).run b s at) λ v q at i.
      on (goes_then (start_slots_keep xs) λ f j. start_slot_keeps s x v f) at

  complete_keeps : (of : Ty) (p : Pos) → Keeps js Any (complete_now of p)
  complete_keeps of p =
      going λ b s at. run_next (run_need (is_complete s of) 132 p at) λ q at.
      run_need (nat_le (extent_size (type_extent s.tags of)) size_limit) 140 p at

  init_static_keeps : (k : ℕ) (t : Lexeme) (b : Behind) → BehindReads b → Keeps js Any (init_static k t b)
  init_static_keeps k t None h = give_keeps tt
  init_static_keeps k t (Some r) h =
      going λ b s at. run_then ((h.initializer js is_start r.1 (static_of (slice_get s.statics k)) 0 start_keeps).run b
      s at) λ f q at i. run_then ((start_slots_keep f.slots).run b _ (moved at refl (λ c. c))) λ found r at j.
      run_next ((complete_keeps (static_of (slice_get r.statics k)) t.pos).run b r at) λ q at.
      run_kept (moved at refl (λ c. c))

  -- ---- functions

  pub linked_routine_keeps : (t : Lexeme) (of : Ty) (o : Option Entity) → Keeps js Any (linked_routine t of o)
  linked_routine_keeps t of (Some (Routine k)) =
      going λ b s at. run_give (moved at refl (bodies_changed _ (λ r. refl) s.routines k)) tt
  linked_routine_keeps t of (Some e) = give_keeps tt
  linked_routine_keeps t of None =
      going λ b s at. run_give (bound t.text (Routine (length s.routines)) at tt refl
      (bodies_added s.routines _ refl)) tt

  -- ---- locals

  new_local_goes : (t : Lexeme) (of : Ty) → Goes js (λ k. k ∷ js) Any (new_local t of)
  new_local_goes t of =
      going λ b s at. run_give (bound t.text (Local (length s.locals) of) (at_more (λ i h. inr h) at) (inl refl) refl
      (λ c. c)) tt

  init_local_keeps : (k : ℕ) (t : Lexeme) (of : Ty) (b : Behind) → IsAmong js k → BehindReads b →
      Keeps js (λ xs. ActionsScoped js (actions xs)) (init_local k t of b)
  init_local_keeps k t of None a h = give_keeps tt
  init_local_keeps k t of (Some r) a h =
      goes_then (h.initializer js (λ x. give tt) r.1 of 0 (λ x. give_keeps tt)) λ f i. going λ b s at.
      run_then (run_then ((complete_keeps (with_count of f.count) t.pos).run b _
      (bound t.text (Local k (with_count of f.count)) at a refl (λ c. c))) λ u q at v. run_seen at) λ s q at o.
      run_give at (inits_scoped k t.pos a _ (every_scoped s r.1 _ f.slots i))

-- ---- declarators with their initializers

no_more : (js : List ℕ) → More js js
no_more js k h = h

-- what each declaration is tested for first
pub checked : {B : Type 0} {js : List ℕ} {new : B → List ℕ} {Q : B → Type 0} {b q : State} (c : Bool) (p : Pos)
    (f : Formed)
    (lacks misfits : Bool) (d : Doing B) → Goes js new Q d → At js b q →
    Runs new Q b ((need c 131 p >> judge f lacks misfits p >> d) q)
checked {js = js} {b = b} {q = q} c p f lacks misfits d h at =
    run_next (run_next (run_need c 131 p at) λ r at. (judge_keeps js f lacks misfits p).run b r at) λ r at. h.run b r at

module _ (js : List ℕ) (t : Lexeme) (f : Formed) (b : Behind) (h : BehindReads b) where
  abbrev there : State → Option Entity
  there s = find_in (innermost s.scopes).names t.text

  alias_keeps : Keeps js Any (change (bind_name t.text (Alias f.of)))
  alias_keeps = going λ c s at. run_kept (bound t.text (Alias f.of) at tt refl (λ c. c))

  alias_goes : Itemed js (declare_alias t f b)
  alias_goes =
      going λ c s at. run_next (checked (if at_file_scope s then alias_agrees (there s) f.of else is_new s t.text) t.pos
      f
      false (has_any b) _ alias_keeps at) λ q at. run_give at tt

  function_goes : Itemed js (declare_function t f b)
  function_goes =
      going λ c s at. run_then (checked (if at_file_scope s then function_agrees s (there s) t.text f.of false
      else is_new s t.text) t.pos f false (has_any b || not (at_file_scope s)) _
      (linked_routine_keeps js t f.of (there s)) at) λ k q at i. run_give at tt

  initialised : (k : ℕ) → Itemed js (init_static k t b >> give no_items)
  initialised k = goes_next (init_static_keeps js k t b h) (give_goes (no_more js) tt)

  global_goes : (storage : Storage) → Itemed js (declare_global storage t f b)
  global_goes storage =
      going λ c s at. run_then (checked (object_agrees s (there s) t.text f.of (has_any b)) t.pos f
      (not (waits s f.of b)) false _
      (linked_static_keeps js t f.of (has_any b || not (is_external storage)) (linked s t.text)) at) λ k q at i.
      (initialised k).run c q at

  external_goes : Itemed js (declare_external t f b)
  external_goes =
      going λ c s at. run_then (checked (may_be_external s (there s) && not (named_function s t.text)
      && object_agrees s None t.text f.of false) t.pos f false (has_any b) _
      (linked_static_keeps js t f.of false (linked s t.text)) at) λ k q at i. run_give at tt

  internal_goes : Itemed js (declare_internal t f b)
  internal_goes =
      going λ c s at. run_then (checked (is_new s t.text) t.pos f (not (ready s f.of b)) false _
      (new_static_keeps js t f.of false true) at) λ k q at i. (initialised k).run c q at

  with_local : (k : ℕ) → Goes (k ∷ js) (with_vars js) (ItemsScoped js)
      (init_local k t f.of b >>= λ xs. give (record { vars = k ∷ []; actions = xs }))
  with_local k =
      goes_then (init_local_keeps (k ∷ js) k t f.of b (inl refl) h) λ xs j. give_goes (no_more (k ∷ js)) j

  local_goes : Itemed js (declare_local t f b)
  local_goes =
      going λ c s at. run_then (checked (is_new s t.text) t.pos f (not (ready s f.of b)) false _
      (new_local_goes js t f.of) at) λ k q at i. (with_local k).run c q at

  in_block_goes : (storage : Storage) → Itemed js (declare_in_block storage t f b)
  in_block_goes External = external_goes
  in_block_goes Internal = internal_goes
  in_block_goes Plain = local_goes
  in_block_goes Defining_type = local_goes

  object_goes : (s : State) (storage : Storage) → Itemed js (declare_object s storage t f b)
  object_goes s storage = if_goes (is_function f.of) _ _ function_goes
      (if_goes (at_file_scope s) _ _ (global_goes storage) (in_block_goes storage))

  declare_goes : (s : State) (storage : Storage) → Itemed js (declare s storage t f b)
  declare_goes s Defining_type = alias_goes
  declare_goes s Plain = object_goes s Plain
  declare_goes s Internal = object_goes s Internal
  declare_goes s External = object_goes s External

module _ (js : List ℕ) where
  declare_named_goes : (s : Specified) (d : Derived) (name : Option Lexeme) (b : Behind) → BehindReads b →
      Itemed js (declare_named s d name b)
  declare_named_goes s d None b h = refuse_goes
  declare_named_goes s d (Some t) b h =
      going λ c st at. (declare_goes js t (formed st s.of d.wraps) b h st s.storage).run c st at

  pub init_declarator_goes : (xs : Syns) (rs : List Reading) (s : Specified) → AllReads rs →
      Itemed js (init_declarator xs rs s)
  unfolding init_declarator
  init_declarator_goes (more x nil) (r ∷ rs) s h =
      goes_then (h.0.derived js) λ d i. declare_named_goes s d d.name None tt
  init_declarator_goes (more x (more y ys)) (r ∷ q ∷ rs) s h =
      goes_then (h.0.derived js) λ d i. declare_named_goes s d d.name (Some (q, _)) h.1.0
  init_declarator_goes xs rs s h = refuse_goes

-- the variables of one declaration after another
pub around : (js ls bs : List ℕ) → More (bs ++ (ls ++ js)) ((ls ++ bs) ++ js)
around js ls bs k h =
    ⊎_elim (λ b. among_left (ls ++ bs) js k (among_right ls bs k b))
    (λ r. ⊎_elim (λ a. among_left (ls ++ bs) js k (among_left ls bs k a)) (λ j. among_right (ls ++ bs) js k j)
    (among_either ls js k r)) (among_either bs (ls ++ js) k h)

first_of : (js ls bs : List ℕ) → More (ls ++ js) ((ls ++ bs) ++ js)
first_of js ls bs k h =
    ⊎_elim (λ a. among_left (ls ++ bs) js k (among_left ls bs k a)) (λ j. among_right (ls ++ bs) js k j)
    (among_either ls js k h)

pub both_scoped : (js : List ℕ) (a b : Items) → ItemsScoped js a → ItemsScoped (with_vars js a) b →
    ItemsScoped js (both a b)
both_scoped js a b h g =
    actions_append ((a.vars ++ b.vars) ++ js) a.actions b.actions
    (actions_more (a.vars ++ js) ((a.vars ++ b.vars) ++ js) (first_of js a.vars b.vars) (actions a.actions) h)
    (actions_more (b.vars ++ (a.vars ++ js)) ((a.vars ++ b.vars) ++ js) (around js a.vars b.vars) (actions b.actions) g)

declare_all_goes : (js : List ℕ) (s : Specified) (rs : List Reading) → AllReads rs → Itemed js (declare_all s rs)
declare_all_goes js s [] h = give_goes (no_more js) tt
declare_all_goes js s (r ∷ rs) h =
    goes_then (h.0.declared js s) λ a i. goes_then (declare_all_goes (a.vars ++ js) s rs h.1) λ b j.
    give_goes (around js a.vars b.vars) (both_scoped js a b i j)

pub declaration_goes : (js : List ℕ) (p : Pos) (rs : List Reading) → AllReads rs → Itemed js (declaration p rs)
unfolding declaration
declaration_goes js p [] h = refuse_goes
declaration_goes js p (r ∷ rs) h = goes_then (h.0.specified js _) λ s i. declare_all_goes js s rs h.1
