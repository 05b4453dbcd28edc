-- Declarations agree with what their names denote, by what is seen of that.
use Rattle.std.proofs.Common.{◌≡◌, ℕ, suc, ◌<◌, Bool, true, false, List, [], ◌∷◌, ◌++◌, Option, Some, None, refl, sym}
use Rattle.std.proofs.Common.{ap, ◌∙◌, length, map}
use Rattle.std.specs.Prelude.{slice_get, option_map, not, ◌&&◌, if◌then◌else◌, reverse}
use Rattle.std.proofs.lemmas.Option.{slice_get-map, same_Some}
use Rattle.std.proofs.lemmas.List.{reverse-append, length-reverse}
use Rattle.ck_base.specs.Tokens.{Lexeme}
use Rattle.c_tree.specs.declared.typed.Typed.{Typed}
use Rattle.c_tree.specs.declared.typed.GlobalDef.{GlobalDef}
use Rattle.c_tree.specs.declared.typed.FunDef.{FunDef}
use Rattle.c_tree.specs.declared.typed.VarDef.{VarDef}
use Rattle.c_tree.specs.Types.{Ty, compatible, agree, composite, is_function}
use Rattle.c_tree.specs.Views.{types_of}
use Rattle.c_tree.specs.Scopes as meant
use Rattle.c_tree.specs.Scopes.{Entity, Local, Static, Routine, Alias, Enumerator, Library, State, StaticState}
use Rattle.c_tree.specs.Scopes.{RoutineState, LocalState, TagState, find_in}
use Rattle.c_tree.specs.Declarations.{alias_agrees, object_agrees, function_agrees, definition_agrees, agrees_static}
use Rattle.c_tree.specs.Declarations.{agrees_routine, agrees_library, is_there, is_routine, linked_routine, file_names}
use Rattle.c_tree.specs.Declarations.{named_function, has_linkage, may_be_external}
use Rattle.c_interner.specs.Numbers.{type_named}
use Rattle.c_interner.specs.Agreement.{lengths_of, Equal, Compatible}
use Rattle.c_types.specs.declared.scopes.Scope.{Scope}
use Rattle.c_types.specs.declared.scopes.Scopes.{Scopes}
use Rattle.c_types.specs.declared.scopes.TagInfo.{TagInfo}
use Rattle.c_types.specs.Members.{parts_of, is_defined, defined_at, linked_at}
use Rattle.c_types.specs.Fitting.{both_agree, same_alias, alias_seen, object_seen, function_seen, definition_seen}
use Rattle.c_types.specs.Fitting.{callee_seen, external_seen, routine_seen_by, joined}
use Rattle.c_types.specs.Naming.{given_at, begun_at}
use Rattle.c_types.specs.Stands.{Stands, Declared, ShowScopes, name_in, object_of, entity_kept, entity_seen}
use Rattle.c_types.specs.Stands.{static_seen, global_kept, routine_seen, fun_kept, local_seen, var_kept, named, SeenTag}
use Rattle.c_types.specs.Stands.{tag_seen, tag_kept, part_seen, members_kept}
use Rattle.c_types.proofs.Looking.{seen_at, seen_length, type_is}
use Rattle.c_types.proofs.Judged.{named_there}
use Rattle.c_types.proofs.Records.{seen_none}

-- ---- entities

pub alias_seen_is : (e : Option Entity) (t : Ty) → alias_agrees e t ≡ alias_seen (option_map entity_seen e) t
alias_seen_is None t = refl
alias_seen_is (Some (Local k u)) t = refl
alias_seen_is (Some (Static k)) t = refl
alias_seen_is (Some (Routine k)) t = refl
alias_seen_is (Some (Alias u)) t = refl
alias_seen_is (Some (Enumerator z)) t = refl
alias_seen_is (Some (Library k of)) t = refl

pub object_seen_is : (s : State) (e : Option Entity) (name : List ℕ) (t : Ty) (b : Bool) →
    object_agrees s e name t b ≡ object_seen s (option_map entity_seen e) name t b
object_seen_is s None name t b = refl
object_seen_is s (Some (Local k u)) name t b = refl
object_seen_is s (Some (Static k)) name t b = refl
object_seen_is s (Some (Routine k)) name t b = refl
object_seen_is s (Some (Alias u)) name t b = refl
object_seen_is s (Some (Enumerator z)) name t b = refl
object_seen_is s (Some (Library k of)) name t b = refl

pub external_seen_is : (s : State) (e : Option Entity) →
    may_be_external s e ≡ external_seen s (option_map entity_seen e)
external_seen_is s None = refl
external_seen_is s (Some (Local k u)) = refl
external_seen_is s (Some (Static k)) = refl
external_seen_is s (Some (Routine k)) = refl
external_seen_is s (Some (Alias u)) = refl
external_seen_is s (Some (Enumerator z)) = refl
external_seen_is s (Some (Library k of)) = refl

joined_seen : (o : Option Ty) → o ≡ joined (option_map (λ t. Some t) o)
joined_seen None = refl
joined_seen (Some t) = refl

pub function_seen_is : (s : State) (e : Option Entity) (name : List ℕ) (t : Ty) (b : Bool) →
    function_agrees s e name t b ≡ function_seen s (option_map entity_seen e) name t b
function_seen_is s None name t b = refl
function_seen_is s (Some (Local k u)) name t b = refl
function_seen_is s (Some (Static k)) name t b = refl
function_seen_is s (Some (Routine k)) name t b = refl
function_seen_is s (Some (Alias u)) name t b = refl
function_seen_is s (Some (Enumerator z)) name t b = refl
function_seen_is s (Some (Library k of)) name t b = ap (λ o. agrees_library o t b) (joined_seen of)

pub definition_seen_is : (s : State) (e : Option Entity) (name : List ℕ) (t : Ty) →
    definition_agrees s e name t ≡ definition_seen s (option_map entity_seen e) name t
definition_seen_is s e name t = by_form (is_function t)
  where
    by_form : (b : Bool) → (if b then function_agrees s e name t true else object_agrees s e name t true)
        ≡ (if b then function_seen s (option_map entity_seen e) name t true
        else object_seen s (option_map entity_seen e) name t true)
    by_form true = function_seen_is s e name t true
    by_form false = object_seen_is s e name t true

pub routine_seen_is : (t : Lexeme) (of : Ty) (e : Option Entity) →
    linked_routine t of e ≡ routine_seen_by t of (option_map entity_seen e)
routine_seen_is t of None = refl
routine_seen_is t of (Some (Local k u)) = refl
routine_seen_is t of (Some (Static k)) = refl
routine_seen_is t of (Some (Routine k)) = refl
routine_seen_is t of (Some (Alias u)) = refl
routine_seen_is t of (Some (Enumerator z)) = refl
routine_seen_is t of (Some (Library k l)) = refl

pub callee_seen_is : (e : Option Entity) → is_routine e ≡ callee_seen (option_map entity_seen e)
callee_seen_is None = refl
callee_seen_is (Some (Local k u)) = refl
callee_seen_is (Some (Static k)) = refl
callee_seen_is (Some (Routine k)) = refl
callee_seen_is (Some (Alias u)) = refl
callee_seen_is (Some (Enumerator z)) = refl
callee_seen_is (Some (Library k of)) = refl

-- ---- types

pub both_there : (lengths : ℕ → ℕ → Bool) (o q : Option Ty) (t u : Ty) → o ≡ Some t → q ≡ Some u →
    both_agree lengths o q ≡ agree lengths t u
both_there lengths o q t u e f = rw (e, f) refl

pub both_none : (lengths : ℕ → ℕ → Bool) (q : Option Ty) → both_agree lengths None q ≡ false
both_none lengths None = refl
both_none lengths (Some t) = refl

pub both_second : (lengths : ℕ → ℕ → Bool) (o : Option Ty) → both_agree lengths o None ≡ false
both_second lengths None = refl
both_second lengths (Some t) = refl

pub composite_named : (p q : Typed) (k a b : ℕ) (t u : Ty) → k < length q.types →
    type_named q k ≡ composite (type_named p a) (type_named p b) → named (types_of p.types) a ≡ Some t →
    named (types_of p.types) b ≡ Some u → named (types_of q.types) k ≡ Some (composite t u)
composite_named p q k a b t u lt e f g =
    named_there q k lt ∙ ap (λ x. Some x) (e ∙ ap (λ x. composite x (type_named p b)) (type_is p a t f)
    ∙ ap (λ x. composite t x) (type_is p b u g))

pub same_alias_is : (o q : Option Ty) (t : Ty) → q ≡ Some t → both_agree (lengths_of Equal) o q ≡ same_alias (Some o) t
same_alias_is None q t e = both_none (lengths_of Equal) q
same_alias_is (Some u) q t e = rw e refl

pub library_is : (o q : Option Ty) (t : Ty) (b defines : Bool) → q ≡ Some t →
    b ≡ both_agree (lengths_of Compatible) o q → (b && not (defines && true)) ≡ agrees_library o t defines
library_is None q t b true e f = rw (f, both_none (lengths_of Compatible) q) refl
library_is None q t b false e f = rw (f, both_none (lengths_of Compatible) q) refl
library_is (Some u) q t b true e f = rw (f, e) refl
library_is (Some u) q t b false e f = rw (f, e) refl

-- ---- what was declared

pub static_some : (sc : Scopes) (p : Typed) (s : State) (k : ℕ) (g : GlobalDef) (q : Option Ty) (t : Ty)
    (b given defines : Bool) → Stands sc p s → slice_get p.globals k ≡ Some g → q ≡ Some t →
    b ≡ both_agree (lengths_of Compatible) (named (types_of p.types) g.of) q →
    given ≡ given_at (slice_get sc.objects.items k) →
    (b && not (defines && given)) ≡ agrees_static (slice_get s.statics k) t defines
static_some sc p s k g q t b given defines h e f a i =
    let y = seen_at (global_kept sc.file.now (types_of p.types)) static_seen p.globals s.statics k g h.globals e in
    let n : named (types_of p.types) g.of ≡ Some y.0.of = ap (λ (d : Declared). d.of) y.2 in
    let c : b ≡ compatible y.0.of t = a ∙ both_there (lengths_of Compatible) _ q y.0.of t n f in
    let o : given ≡ is_there y.0.initial =
    i ∙ ap given_at (ap (λ xs. slice_get xs k) h.objects ∙ slice_get-map object_of s.statics k
    ∙ ap (option_map object_of) y.1) in
    rw (c, o, y.1) refl

pub routine_some : (sc : Scopes) (p : Typed) (s : State) (k : ℕ) (f : FunDef) (q : Option Ty) (t : Ty)
    (b begun defines : Bool) → Stands sc p s → slice_get p.funs k ≡ Some f → q ≡ Some t →
    b ≡ both_agree (lengths_of Compatible) (named (types_of p.types) f.of) q →
    begun ≡ begun_at (slice_get sc.begun.items k) →
    (b && not (defines && begun)) ≡ agrees_routine (slice_get s.routines k) t defines
routine_some sc p s k f q t b begun defines h e g a i =
    let y = seen_at (fun_kept sc.file.now (types_of p.types)) routine_seen p.funs s.routines k f h.routines e in
    let n : named (types_of p.types) f.of ≡ Some y.0.of = ap (λ (d : Declared). d.of) y.2 in
    let c : b ≡ compatible y.0.of t = a ∙ both_there (lengths_of Compatible) _ q y.0.of t n g in
    let bit : RoutineState → Bool = λ (r : RoutineState). r.begun in
    let o : begun ≡ y.0.begun =
    i ∙ ap begun_at (ap (λ xs. slice_get xs k) h.begun ∙ slice_get-map bit s.routines k
    ∙ ap (option_map bit) y.1) in
    rw (c, o, y.1) refl

-- ---- the types of what was declared

pub static_at : (sc : Scopes) (p : Typed) (s : State) (k : ℕ) (x : GlobalDef) → Stands sc p s →
    slice_get p.globals k ≡ Some x →
    Some (named (types_of p.types) x.of) ≡ option_map (λ (g : StaticState). Some g.of) (slice_get s.statics k)
static_at sc p s k x h e =
    let y = seen_at (global_kept sc.file.now (types_of p.types)) static_seen p.globals s.statics k x h.globals e in
    ap (λ (d : Declared). Some d.of) y.2 ∙ sym (ap (option_map (λ (g : StaticState). Some g.of)) y.1)

pub routine_at : (sc : Scopes) (p : Typed) (s : State) (k : ℕ) (x : FunDef) → Stands sc p s →
    slice_get p.funs k ≡ Some x →
    Some (named (types_of p.types) x.of) ≡ option_map (λ (f : RoutineState). Some f.of) (slice_get s.routines k)
routine_at sc p s k x h e =
    let y = seen_at (fun_kept sc.file.now (types_of p.types)) routine_seen p.funs s.routines k x h.routines e in
    ap (λ (d : Declared). Some d.of) y.2 ∙ sym (ap (option_map (λ (f : RoutineState). Some f.of)) y.1)

pub local_seen_at : (sc : Scopes) (p : Typed) (s : State) (k : ℕ) (x : VarDef) → Stands sc p s →
    slice_get sc.locals.items k ≡ Some x →
    Some (named (types_of p.types) x.of) ≡ option_map (λ (v : LocalState). Some v.of) (slice_get s.locals k)
local_seen_at sc p s k x h e =
    let y = seen_at (var_kept sc.file.now (types_of p.types)) local_seen sc.locals.items s.locals k x h.locals e in
    ap (λ (d : Declared). Some d.of) y.2 ∙ sym (ap (option_map (λ (v : LocalState). Some v.of)) y.1)

-- ---- members

pub members_at : (sc : Scopes) (p : Typed) (s : State) (n : ℕ) (i : TagInfo) → Stands sc p s →
    slice_get sc.tags.items n ≡ Some i →
    members_kept (types_of p.types) (slice_get p.types i.of)
    ≡ option_map (map part_seen) (parts_of (slice_get s.tags n))
members_at sc p s n i h e =
    let t = seen_at (tag_kept p.types (types_of p.types)) tag_seen sc.tags.items s.tags n i h.tags e in
    ap (λ (x : SeenTag). x.members) t.2 ∙ sym (ap (λ o. option_map (map part_seen) (parts_of o)) t.1)

pub kind_none : (sc : Scopes) (p : Typed) (s : State) (n : ℕ) → Stands sc p s → slice_get sc.tags.items n ≡ None →
    None ≡ option_map (λ (t : TagState). t.kind) (slice_get s.tags n)
kind_none sc p s n h e = sym (ap (option_map (λ (t : TagState). t.kind))
    (seen_none (tag_kept p.types (types_of p.types)) tag_seen sc.tags.items s.tags n h.tags e))

pub kind_some : (sc : Scopes) (p : Typed) (s : State) (n : ℕ) (i : TagInfo) → Stands sc p s →
    slice_get sc.tags.items n ≡ Some i → Some i.kind ≡ option_map (λ (t : TagState). t.kind) (slice_get s.tags n)
kind_some sc p s n i h e =
    let t = seen_at (tag_kept p.types (types_of p.types)) tag_seen sc.tags.items s.tags n i h.tags e in
    ap (λ (x : SeenTag). Some x.kind) t.2 ∙ sym (ap (option_map (λ (t : TagState). t.kind)) t.1)

pub tags_length : (sc : Scopes) (p : Typed) (s : State) → Stands sc p s → length sc.tags.items ≡ length s.tags
tags_length sc p s h = seen_length (tag_kept p.types (types_of p.types)) tag_seen sc.tags.items s.tags h.tags

defined_seen : (o : Option StaticState) → defined_at (option_map object_of o) ≡ is_defined o
defined_seen None = refl
defined_seen (Some g) = refl

pub defined_is : (sc : Scopes) (p : Typed) (s : State) (k : ℕ) → Stands sc p s →
    defined_at (slice_get sc.objects.items k) ≡ is_defined (slice_get s.statics k)
defined_is sc p s k h =
    ap defined_at (ap (λ xs. slice_get xs k) h.objects ∙ slice_get-map object_of s.statics k)
    ∙ defined_seen (slice_get s.statics k)

linked_seen : (o : Option StaticState) → linked_at (option_map object_of o) ≡ has_linkage o
linked_seen None = refl
linked_seen (Some g) = refl

pub linkage_is : (sc : Scopes) (p : Typed) (s : State) (k : ℕ) → Stands sc p s →
    linked_at (slice_get sc.objects.items k) ≡ has_linkage (slice_get s.statics k)
linkage_is sc p s k h =
    ap linked_at (ap (λ xs. slice_get xs k) h.objects ∙ slice_get-map object_of s.statics k)
    ∙ linked_seen (slice_get s.statics k)

-- ---- the scope of the file

shown_length : (ts : List Ty) (k : ℕ) (cs : List Scope) (ms : List meant.Scope) → ShowScopes ts k cs ms →
    length cs ≡ length ms
shown_length ts k [] [] h = refl
shown_length ts k [] (m ∷ ms) h = absurd h
shown_length ts k (c ∷ cs) [] h = absurd h
shown_length ts k (c ∷ cs) (m ∷ ms) h = ap suc (shown_length ts k cs ms h.1)

pub scopes_length : (sc : Scopes) (p : Typed) (s : State) → Stands sc p s → length sc.scopes.items ≡ length s.scopes
scopes_length sc p s h =
    sym (length-reverse sc.scopes.items)
    ∙ shown_length (types_of p.types) (length sc.tags.items) (reverse sc.scopes.items) s.scopes h.scopes

last_shown : (ts : List Ty) (k : ℕ) (cs : List Scope) (c : Scope) (ms : List meant.Scope) (n : List ℕ) →
    ShowScopes ts k (cs ++ c ∷ []) ms →
    option_map (entity_kept ts) (name_in c n) ≡ option_map entity_seen (find_in (file_names ms) n)
last_shown ts k [] c [] n h = absurd h
last_shown ts k [] c (m ∷ []) n h = h.0.names n
last_shown ts k [] c (m ∷ l ∷ ms) n h = absurd h.1
last_shown ts k (d ∷ cs) c [] n h = absurd h
last_shown ts k (d ∷ []) c (m ∷ []) n h = absurd h.1
last_shown ts k (d ∷ e ∷ cs) c (m ∷ []) n h = absurd h.1
last_shown ts k (d ∷ cs) c (m ∷ l ∷ ms) n h = last_shown ts k cs c (l ∷ ms) n h.1

file_shown : (ts : List Ty) (k : ℕ) (items : List Scope) (c : Scope) (ms : List meant.Scope) (n : List ℕ) →
    slice_get items 0 ≡ Some c → ShowScopes ts k (reverse items) ms →
    option_map (entity_kept ts) (name_in c n) ≡ option_map entity_seen (find_in (file_names ms) n)
file_shown ts k [] c ms n e h = absurd cc
file_shown ts k (d ∷ ds) c ms n e h =
    let i : d ≡ c = same_Some d c e in
    last_shown ts k (reverse ds) c ms n (rw i at (rw (reverse-append (d ∷ []) ds) at h))

pub callee_of : (sc : Scopes) (p : Typed) (s : State) (c : Scope) (n : List ℕ) → Stands sc p s →
    slice_get sc.scopes.items 0 ≡ Some c →
    callee_seen (option_map (entity_kept (types_of p.types)) (name_in c n)) ≡ named_function s n
callee_of sc p s c n h e =
    ap callee_seen (file_shown (types_of p.types) (length sc.tags.items) sc.scopes.items c s.scopes n e h.scopes)
    ∙ sym (callee_seen_is (find_in (file_names s.scopes) n))
