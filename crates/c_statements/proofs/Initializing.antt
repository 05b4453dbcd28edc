-- What is declared gets its initial value.
use Rattle.std.proofs.Common.{◌≡◌, ℕ, ◌<◌, List, [], ◌∷◌, ◌++◌, map, Some, None, Result, Ok, Err}
use Rattle.std.proofs.Common.{refl, sym, ap, subst, ◌∙◌}
use Rattle.std.specs.Prelude.{slice_get}
use Rattle.std.specs.Global.{Vec}
use Rattle.std.proofs.lemmas.List.{map-append}
use Rattle.ck_base.specs.declared.positions.Pos.{Pos}
use Rattle.ck_base.specs.declared.refusal.Refusal.{Refusal}
use Rattle.ck_base.specs.declared.tokens.TokenKind.TheVariants.{Word}
use Rattle.ck_base.specs.Tokens.{Lexeme}
use Rattle.c_tree.specs.declared.typed.StmtKind.TheVariants as stmts
use Rattle.c_tree.specs.Syntax.{Syn, Syns}
use Rattle.c_tree.specs.Types.{Ty}
use Rattle.c_tree.specs.Terms.{Action, Init, Term, action, terms, actions}
use Rattle.c_tree.specs.Readings as meant
use Rattle.c_tree.specs.Readings.{Reading}
use Rattle.c_tree.specs.Scopes.{State, Doing, Fault, Local, give, look, change, continued, ◌>>=◌, ◌>>◌}
use Rattle.c_tree.specs.Scopes.{bind_name, changed_at}
use Rattle.c_tree.specs.Statics.{is_start}
use Rattle.c_tree.specs.Declarations.{Behind, no_items, static_of, init_action, complete_now}
use Rattle.c_tree.specs.Initializers.{every_slot, with_count, string_initializer}
use Rattle.c_tree.specs.Expressions.{text_bytes}
use Rattle.c_tree.specs.Programs.{reading}
use Rattle.c_tree.specs.Views.{terms_of, kind_action}
use Rattle.c_types.specs.Stands.{text_at}
use Rattle.c_expressions.specs.Nodes.{IsWhole, type_in, type_count, term_count}
use Rattle.c_elaborator.specs.declared.work.Name.{Name}
use Rattle.c_elaborator.specs.declared.work.Work.{Work}
use Rattle.c_elaborator.specs.Work.{Shows}
use Rattle.c_elaborator.specs.Answers.{Keeps, freely, quietly, Done, Answers, action_in, NothingThere}
use Rattle.c_elaborator.specs.Answers.{IsNothing}
use Rattle.c_elaborator.specs.Parts.{IsPart, token_of}
use Rattle.c_elaborator.proofs.Sequencing.{free_law, answers_at, then, also_then, failed, freed, gave, keeps_then}
use Rattle.c_initializers.specs.declared.slots.Slot.{Slot}
use Rattle.c_initializers.specs.declared.slots.Filled.{Filled}
use Rattle.c_initializers.specs.Slots.{slot_in, slots_in, filled_in, FilledThere, IsFilled, SlotsThere}
use Rattle.c_initializers.specs.Slots.{AreSlots, string_filled}
use Rattle.c_initializers.specs.Objects.{static_filled, local_filled}
use Rattle.c_initializers.specs.Texts.{fills_text}
use Rattle.c_elaborator.specs.declared.items.Items.{Items}
use Rattle.c_elaborator.specs.Items.{AddsAction, ActionsThere, ItemsThere, IsItems, items_in}
use Rattle.c_elaborator.proofs.Going.{items_kept, actions_there}
use Rattle.c_statements.specs.declared.declarations.Behind.{Behind as Standing}
use Rattle.c_statements.specs.Declaring.{IsBehind, fills_local, fills_static, local_initialized, static_initialized}
use Rattle.c_statements.specs.Declaring.{init_items, static_from}
use Rattle.c_statements.proofs.Gather.{there_both}
use Rattle.c_statements.proofs.Reading.{string_is}

-- ---- the statements that initialise a local

pub items_begin : (u : Work) (k : ℕ) (p : Pos) (i : Items) → IsWhole u.nodes → i.vars.items ≡ k ∷ [] →
    i.actions.items ≡ [] → Done freely u u (give (init_items k p [])) (ItemsThere u i) (IsItems u i)
items_begin u k p i w e f =
    let there : ItemsThere u i = subst (λ (ks : List ℕ). ActionsThere u ks) (sym f) tt in
    let same : init_items k p [] ≡ items_in u i =
    ap (λ vs. (let x : meant.Items = record { vars = vs; actions = [] } in x)) (sym e)
    ∙ ap (λ ks. (let x : meant.Items = record { vars = i.vars.items; actions = map (action_in u) ks } in x))
    (sym f) in
    subst (λ (a : meant.Items). Done freely u u (give (init_items k p [])) (ItemsThere u i) (λ s x. x ≡ a)) same
    (gave freely free_law u (init_items k p []) (ItemsThere u i) w there)

state_of : {A : Type 0} → State → Result (A × State) Fault → State
state_of s (Ok x) = x.1
state_of s (Err e) = s

value_of : {A : Type 0} → A → Result (A × State) Fault → A
value_of a (Ok x) = x.0
value_of a (Err e) = a

pub items_step : (u v w : Work) (k : ℕ) (p : Pos) (xs : List Slot) (x : Slot) (i j : Items) (n : ℕ) →
    Done freely u v (give (init_items k p (slots_in u.nodes xs))) (ItemsThere v i) (IsItems v i) →
    x.value < term_count u.nodes →
    AddsAction v w n (kind_action (terms_of v.nodes.p) (stmts.Init k x.at x.value) p (action_in v)) →
    j.vars.items ≡ i.vars.items → j.actions.items ≡ i.actions.items ++ n ∷ [] →
    Done freely u w (give (init_items k p (slots_in u.nodes (xs ++ x ∷ [])))) (ItemsThere w j) (IsItems w j)
unfolding state_of value_of
items_step u v w k p xs x i j n d l a e f = record {
  whole = a.whole;
  grows = keeps_then u v w d.grows a.keeps;
  there = subst (λ (ks : List ℕ). ActionsThere w ks) (sym f)
      (there_both w i.actions.items (n ∷ []) (actions_there v w i.actions.items a.keeps d.there) (a.there, tt));
  gives = λ s h.
      let m = d.gives s h in
      let state : s ≡ m.state = ap (state_of s) m.is in
      let shows : Shows v s = subst (Shows v) (sym state) m.shows in
      let sofar : init_items k p (slots_in u.nodes xs) ≡ items_in v i =
      ap (value_of (init_items k p (slots_in u.nodes xs))) m.is ∙ m.fits in
      let here : items_in v i ≡ items_in w i = sym (items_kept v w i a.keeps shows.closed.values d.there) in
      let vars : k ∷ [] ≡ j.vars.items = ap (λ (y : meant.Items). y.vars) sofar ∙ sym e in
      let first : map (init_action k p) (slots_in u.nodes xs) ≡ map (action_in w) i.actions.items =
      ap (λ (y : meant.Items). y.actions) (sofar ∙ here) in
      let last : init_action k p (slot_in u.nodes x) ≡ action_in w n =
      ap (λ (y : Term). action (Init k x.at) (terms (y ∷ [])) (actions []) p) (sym (d.grows.terms x.value l))
      ∙ sym a.is in
      let acts : map (init_action k p) (slots_in u.nodes (xs ++ x ∷ [])) ≡ map (action_in w) j.actions.items =
      ap (map (init_action k p)) (map-append (slot_in u.nodes) xs (x ∷ []))
      ∙ map-append (init_action k p) (slots_in u.nodes xs) (slot_in u.nodes x ∷ [])
      ∙ ap (λ (ys : List Action). ys ++ init_action k p (slot_in u.nodes x) ∷ []) first
      ∙ ap (λ (y : Action). map (action_in w) i.actions.items ++ y ∷ []) last
      ∙ sym (map-append (action_in w) i.actions.items (n ∷ [])) ∙ ap (map (action_in w)) (sym f) in
      record {
        value = init_items k p (slots_in u.nodes (xs ++ x ∷ []));
        state = s;
        is = refl;
        stays = tt;
        shows = a.shows s shows;
        fits = ap (λ vs.
            (let y : meant.Items = record {
              vars = vs;
              actions = map (init_action k p) (slots_in u.nodes (xs ++ x ∷ []));
            } in y)) vars
            ∙ ap (λ fs. (let y : meant.Items = record { vars = j.vars.items; actions = fs } in y)) acts;
      };
}

-- ---- a local

-- what follows a step may be done in it
then_there : {A B C : Type 0} (d : Doing A) (f : A → Doing B) (g : B → Doing C) (s : State) →
    ((d >>= f) >>= g) s ≡ (d >>= λ a. f a >>= g) s
then_there {A} {B} d f g s = at (d s)
  where
    at : (r : Result (A × State) Fault) → continued (continued r f) g ≡ continued r (λ a. f a >>= g)
    at (Ok x) = refl
    at (Err e) = refl

-- the statements from the values of all scalars
slots_first : (k : ℕ) (t : Lexeme) (whole : Pos) (u : Ty) (slots : List meant.Slot) (q : Result (Unit × State) Fault) →
    continued (continued (continued q (λ a. look)) (λ v. give (map (init_action k t.pos) (every_slot v whole u slots))))
    (λ xs. give (let i : meant.Items = record { vars = k ∷ []; actions = xs } in i))
    ≡ continued (continued (continued q (λ a. look)) (λ v. give (every_slot v whole u slots)))
    (λ xs. give (init_items k t.pos xs))
slots_first k t whole u slots (Ok x) = refl
slots_first k t whole u slots (Err e) = refl

abbrev after_filled : ℕ → Lexeme → Ty → Pos → meant.Filled → Doing meant.Items
after_filled k t of p f = local_filled k t of p f >>= λ xs. give (init_items k t.pos xs)

abbrev as_meant : ℕ → Lexeme → Ty → Pos → meant.Filled → Doing (List Action)
as_meant k t of p f =
    let u = with_count of f.count in
    change (λ s. bind_name t.text (Local k u) (record s { locals = changed_at (λ v. record v { of = u }) s.locals k }))
    >>
    complete_now u t.pos >> look >>= λ v. give (map (init_action k t.pos) (every_slot v p u f.slots))

local_is : (k : ℕ) (t : Lexeme) (of : Ty) (r : Reading) (p : Pos) (s : State) →
    fills_local k t of r p s ≡ (r.initializer (λ x. give tt) p of 0 >>= after_filled k t of p) s
local_is k t of r p s = at (r.initializer (λ x. give tt) p of 0 s)
  where
    at : (o : Result (meant.Filled × State) Fault) →
        continued (continued o (as_meant k t of p))
        (λ xs. give (let i : meant.Items = record { vars = k ∷ []; actions = xs } in i))
        ≡ continued o (after_filled k t of p)
    at (Ok x) =
        let u = with_count of x.0.count in
        slots_first k t p u x.0.slots (complete_now u t.pos
        (bind_name t.text (Local k u) (record x.1
        { locals = changed_at (λ v. record v { of = u }) x.1.locals k })))
    at (Err e) = refl

same_token : (u v : Work) (name : Name) → Keeps u v → token_of v name ≡ token_of u name
same_token u v name k = ap (λ (file : List ℕ).
    (let z : Lexeme = record { kind = Word; text = text_at file name.span; span = name.span; pos = name.pos } in z))
    k.file

abbrev initializing : Work → ℕ → Reading → Pos → Doing meant.Filled
initializing u of r p = r.initializer (λ x. give tt) p (type_in u.nodes of) 0

pub local_unfilled : (u v z : Work) (k : ℕ) (name : Name) (of : ℕ) (r : Reading) (p : Pos) (e : Refusal) →
    Answers quietly u v (initializing u of r p) FilledThere IsFilled (Err e) →
    Answers freely u z (fills_local k (token_of u name) (type_in u.nodes of) r p) ItemsThere IsItems (Err e)
local_unfilled u v z k name of r p e a =
    let t = token_of u name in
    let d = initializing u of r p in
    answers_at freely u z (fills_local k t (type_in u.nodes of) r p)
    (d >>= after_filled k t (type_in u.nodes of) p) ItemsThere IsItems (Err e)
    (λ s h. local_is k t (type_in u.nodes of) r p s)
    (failed freely u v z d (after_filled k t (type_in u.nodes of) p) FilledThere IsFilled ItemsThere IsItems e
    (freed u v d FilledThere IsFilled (Err e) a))

after_initializing : (u v z : Work) (k : ℕ) (name : Name) (of : ℕ) (r : Reading) (p : Pos) (filled : Filled)
    (x : Result Items Refusal) → of < type_count u.nodes →
    Done quietly u v (initializing u of r p) (FilledThere v filled) (IsFilled v filled) →
    Answers freely v z (after_filled k (token_of v name) (type_in v.nodes of) p (filled_in v.nodes filled)) ItemsThere
    IsItems x → Answers freely u z (fills_local k (token_of u name) (type_in u.nodes of) r p) ItemsThere IsItems x
after_initializing u v z k name of r p filled x l a b =
    let t = token_of u name in
    let d = initializing u of r p in
    let f = filled_in v.nodes filled in
    let type = a.grows.keeps.types of l in
    answers_at freely u z (fills_local k t (type_in u.nodes of) r p)
    (d >>= after_filled k t (type_in u.nodes of) p) ItemsThere IsItems x
    (λ s h. local_is k t (type_in u.nodes of) r p s)
    (then freely free_law u v z d (after_filled k t (type_in u.nodes of) p) f
    (FilledThere v filled) ItemsThere IsItems x (freed u v d FilledThere IsFilled (Ok filled) a)
    (subst (λ (y : Lexeme). Answers freely v z (after_filled k y (type_in u.nodes of) p f) ItemsThere IsItems x)
    (same_token u v name a.grows.keeps)
    (subst (λ (y : Ty). Answers freely v z (after_filled k (token_of v name) y p f) ItemsThere IsItems x) type b)))

pub local_incomplete : (u v w z : Work) (k : ℕ) (name : Name) (of : ℕ) (r : Reading) (p : Pos) (filled : Filled)
    (e : Refusal) → of < type_count u.nodes →
    Done quietly u v (initializing u of r p) (FilledThere v filled) (IsFilled v filled) →
    Answers freely v w (local_filled k (token_of v name) (type_in v.nodes of) p (filled_in v.nodes filled)) SlotsThere
    AreSlots (Err e) → Answers freely u z (fills_local k (token_of u name) (type_in u.nodes of) r p) ItemsThere
    IsItems (Err e)
local_incomplete u v w z k name of r p filled e l a b =
    after_initializing u v z k name of r p filled (Err e) l a
    (failed freely v w z (local_filled k (token_of v name) (type_in v.nodes of) p (filled_in v.nodes filled))
    (λ xs. give (init_items k name.pos xs)) SlotsThere AreSlots ItemsThere IsItems e b)

pub local_filled_so : (u v w z : Work) (k : ℕ) (name : Name) (of : ℕ) (r : Reading) (p : Pos) (filled : Filled)
    (slots : Vec Slot) (x : Result Items Refusal) → of < type_count u.nodes →
    Done quietly u v (initializing u of r p) (FilledThere v filled) (IsFilled v filled) →
    Done freely v w (local_filled k (token_of v name) (type_in v.nodes of) p (filled_in v.nodes filled))
    (SlotsThere w slots) (AreSlots w slots) →
    Answers freely w z (give (init_items k name.pos (slots_in w.nodes slots.items))) ItemsThere IsItems x →
    Answers freely u z (fills_local k (token_of u name) (type_in u.nodes of) r p) ItemsThere IsItems x
local_filled_so u v w z k name of r p filled slots x l a b c =
    after_initializing u v z k name of r p filled x l a
    (then freely free_law v w z (local_filled k (token_of v name) (type_in v.nodes of) p (filled_in v.nodes filled))
    (λ xs. give (init_items k name.pos xs)) (slots_in w.nodes slots.items)
    (SlotsThere w slots) ItemsThere IsItems x b c)

-- ---- an object of static storage duration

abbrev starting : Work → ℕ → Reading → Pos → Doing meant.Filled
starting u of r p = r.initializer is_start p (type_in u.nodes of) 0

abbrev after_start : ℕ → Pos → meant.Filled → Doing meant.Items
after_start k p f = static_filled k p f >> give no_items

-- the number names the type of an object, or void where there is none
abbrev IsStatic : Work → ℕ → ℕ → Type 0
IsStatic u k of = (s : State) → Shows u s → type_in u.nodes of ≡ static_of (slice_get s.statics k)

static_is : (u : Work) (k : ℕ) (name : Name) (of : ℕ) (r : Reading) (p : Pos) → IsStatic u k of → (s : State) →
    Shows u s → fills_static k (token_of u name) r p s ≡ (starting u of r p >>= after_start k name.pos) s
static_is u k name of r p i s h =
    let e : static_of (slice_get s.statics k) ≡ type_in u.nodes of = sym (i s h) in
    ap (λ (t : Ty). ((r.initializer is_start p t 0 >>= static_filled k name.pos) >> give no_items) s) e
    ∙ then_there (starting u of r p) (static_filled k name.pos) (λ a. give no_items) s

pub static_unfilled : (u v z : Work) (k : ℕ) (name : Name) (of : ℕ) (r : Reading) (p : Pos) (e : Refusal) →
    IsStatic u k of → Answers quietly u v (starting u of r p) FilledThere IsFilled (Err e) →
    Answers freely u z (fills_static k (token_of u name) r p) ItemsThere IsItems (Err e)
static_unfilled u v z k name of r p e i a =
    let d = starting u of r p in
    answers_at freely u z (fills_static k (token_of u name) r p) (d >>= after_start k name.pos) ItemsThere IsItems
    (Err e) (static_is u k name of r p i)
    (failed freely u v z d (after_start k name.pos) FilledThere IsFilled ItemsThere IsItems e
    (freed u v d FilledThere IsFilled (Err e) a))

pub static_incomplete : (u v w z : Work) (k : ℕ) (name : Name) (of : ℕ) (r : Reading) (p : Pos) (filled : Filled)
    (e : Refusal) → IsStatic u k of →
    Done quietly u v (starting u of r p) (FilledThere v filled) (IsFilled v filled) →
    Answers freely v w (static_filled k name.pos (filled_in v.nodes filled)) NothingThere IsNothing (Err e) →
    Answers freely u z (fills_static k (token_of u name) r p) ItemsThere IsItems (Err e)
static_incomplete u v w z k name of r p filled e i a b =
    let d = starting u of r p in
    answers_at freely u z (fills_static k (token_of u name) r p) (d >>= after_start k name.pos) ItemsThere IsItems
    (Err e) (static_is u k name of r p i)
    (then freely free_law u v z d (after_start k name.pos) (filled_in v.nodes filled)
    (FilledThere v filled) ItemsThere IsItems (Err e) (freed u v d FilledThere IsFilled (Ok filled) a)
    (failed freely v w z (static_filled k name.pos (filled_in v.nodes filled))
    (λ q. give no_items) NothingThere IsNothing ItemsThere IsItems e b))

pub nothing_given : (w : Work) (i : Items) → IsWhole w.nodes → i.vars.items ≡ [] → i.actions.items ≡ [] →
    Done freely w w (give no_items) (ItemsThere w i) (IsItems w i)
nothing_given w i h e f =
    let there : ItemsThere w i = subst (λ (ks : List ℕ). ActionsThere w ks) (sym f) tt in
    let same : no_items ≡ items_in w i =
    ap (λ vs. (let x : meant.Items = record { vars = vs; actions = [] } in x)) (sym e)
    ∙ ap (λ ks. (let x : meant.Items = record { vars = i.vars.items; actions = map (action_in w) ks } in x))
    (sym f) in
    subst (λ (a : meant.Items). Done freely w w (give no_items) (ItemsThere w i) (λ s x. x ≡ a)) same
    (gave freely free_law w no_items (ItemsThere w i) h there)

pub static_filled_so : (u v w : Work) (k : ℕ) (name : Name) (of : ℕ) (r : Reading) (p : Pos) (filled : Filled)
    (i : Items) → IsStatic u k of →
    Done quietly u v (starting u of r p) (FilledThere v filled) (IsFilled v filled) →
    Done freely v w (static_filled k name.pos (filled_in v.nodes filled)) (Unit {0}) (λ s a. Unit {0}) →
    i.vars.items ≡ [] → i.actions.items ≡ [] →
    Answers freely u w (fills_static k (token_of u name) r p) ItemsThere IsItems (Ok i)
static_filled_so u v w k name of r p filled i o a b e f =
    let d = starting u of r p in
    answers_at freely u w (fills_static k (token_of u name) r p) (d >>= after_start k name.pos) ItemsThere IsItems
    (Ok i) (static_is u k name of r p o)
    (then freely free_law u v w d (after_start k name.pos) (filled_in v.nodes filled)
    (FilledThere v filled) ItemsThere IsItems (Ok i) (freed u v d FilledThere IsFilled (Ok filled) a)
    (also_then freely free_law v w w (static_filled k name.pos (filled_in v.nodes filled)) (give no_items) (Unit {0})
    (λ s a. Unit {0}) ItemsThere IsItems (Ok i) b (nothing_given w i b.whole e f)))

-- ---- a string

-- what an initializer is read as
pub static_text : (u w : Work) (k : ℕ) (name : Name) (of : ℕ) (r : Reading) (p : Pos) (d : Doing meant.Filled)
    (x : Result Items Refusal) → IsStatic u k of → starting u of r p ≡ d →
    Answers freely u w (static_from k name.pos d) ItemsThere IsItems x →
    Answers freely u w (fills_static k (token_of u name) r p) ItemsThere IsItems x
static_text u w k name of r p d x i e a =
    answers_at freely u w (fills_static k (token_of u name) r p) (static_from k name.pos d) ItemsThere IsItems x
    (λ s h. static_is u k name of r p i s h ∙ ap (λ (y : Doing meant.Filled). static_from k name.pos y s) e) a

text_is : (k : ℕ) (t : Lexeme) (xs : Syns) (bytes other : List ℕ) (p first : Pos) (of : Ty) → other ≡ bytes →
    bytes ≡ text_bytes t xs → (s : State) → static_from k p (string_initializer t xs first of 0) s
    ≡ (fills_text k p other t.pos first of >> give no_items) s
text_is k t xs bytes other p first of h e s =
    ap (λ (d : Doing meant.Filled). static_from k p d s)
    (string_is t xs first of 0 ∙ ap (λ (bs : List ℕ). string_filled bs t.pos first of 0) (sym (h ∙ e)))
    ∙ sym (then_there (string_filled other t.pos first of 0) (static_filled k p) (λ a. give no_items) s)

pub text_refused : (u w : Work) (k : ℕ) (t : Lexeme) (xs : Syns) (bytes other : List ℕ) (p first : Pos) (of : Ty)
    (e : Refusal) → other ≡ bytes → bytes ≡ text_bytes t xs →
    Answers freely u w (fills_text k p other t.pos first of) NothingThere IsNothing (Err e) →
    Answers freely u w (static_from k p (string_initializer t xs first of 0)) ItemsThere IsItems (Err e)
text_refused u w k t xs bytes other p first of e h q a =
    let d = fills_text k p other t.pos first of in
    answers_at freely u w (static_from k p (string_initializer t xs first of 0)) (d >> give no_items) ItemsThere IsItems
    (Err e) (λ s g. text_is k t xs bytes other p first of h q s)
    (failed freely u w w d (λ x. give no_items) NothingThere IsNothing ItemsThere IsItems e a)

pub text_filled_so : (u w : Work) (k : ℕ) (t : Lexeme) (xs : Syns) (bytes other : List ℕ) (p first : Pos) (of : Ty)
    (i : Items) → other ≡ bytes → bytes ≡ text_bytes t xs →
    Done freely u w (fills_text k p other t.pos first of) (Unit {0}) (λ s a. Unit {0}) → i.vars.items ≡ [] →
    i.actions.items ≡ [] →
    Answers freely u w (static_from k p (string_initializer t xs first of 0)) ItemsThere IsItems (Ok i)
text_filled_so u w k t xs bytes other p first of i h q a e f =
    let d = fills_text k p other t.pos first of in
    answers_at freely u w (static_from k p (string_initializer t xs first of 0)) (d >> give no_items) ItemsThere IsItems
    (Ok i) (λ s g. text_is k t xs bytes other p first of h q s)
    (also_then freely free_law u w w d (give no_items) (Unit {0}) (λ s b. Unit {0}) ItemsThere IsItems (Ok i) a
    (nothing_given w i a.whole e f))

-- ---- by what is declared

pub variable_alone : (u w : Work) (k : ℕ) (t : Lexeme) (of : Ty) (b : Behind) (r : Result Items Refusal) →
    IsBehind u None b → ((p : Pos) → Answers freely u w (give (init_items k p [])) ItemsThere IsItems r) →
    Answers freely u w (local_initialized k t of b) ItemsThere IsItems r
variable_alone u w k t of None r h a = a t.pos
variable_alone u w k t of (Some q) r h a = absurd h

pub variable_given : (u w : Work) (k : ℕ) (t : Lexeme) (of : Ty) (x : Standing) (b : Behind)
    (r : Result Items Refusal) → IsBehind u (Some x) b →
    ((y : Syn) → IsPart u x.node y → Answers freely u w (fills_local k t of (reading y) x.first) ItemsThere IsItems r) →
    Answers freely u w (local_initialized k t of b) ItemsThere IsItems r
variable_given u w k t of x None r h a = absurd h
variable_given u w k t of x (Some q) r h a =
    subst (λ (z : Reading × Pos). Answers freely u w (local_initialized k t of (Some z)) ItemsThere IsItems r)
    (sym h.is) (a h.syntax h.part)

pub object_alone : (u : Work) (k : ℕ) (t : Lexeme) (i : Items) (b : Behind) → IsBehind u None b → IsWhole u.nodes →
    i.vars.items ≡ [] → i.actions.items ≡ [] → Done freely u u (static_initialized k t b) (ItemsThere u i) (IsItems u i)
object_alone u k t i None h w e f = nothing_given u i w e f
object_alone u k t i (Some r) h w e f = absurd h

pub object_given : (u w : Work) (k : ℕ) (t : Lexeme) (x : Standing) (b : Behind) (r : Result Items Refusal) →
    IsBehind u (Some x) b → ((y : Syn) → IsPart u x.node y →
    Answers freely u w (fills_static k t (reading y) x.first) ItemsThere IsItems r) →
    Answers freely u w (static_initialized k t b) ItemsThere IsItems r
object_given u w k t x None r h a = absurd h
object_given u w k t x (Some q) r h a =
    subst (λ (z : Reading × Pos). Answers freely u w (static_initialized k t (Some z)) ItemsThere IsItems r) (sym h.is)
    (a h.syntax h.part)
