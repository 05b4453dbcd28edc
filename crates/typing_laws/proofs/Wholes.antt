-- What holds of the names of a file and of its functions so far, between its declarations.
use Rattle.std.proofs.Common.{◌≡◌, ℕ, zero, suc, ◌+◌, Bool, true, List, [], ◌∷◌, length, Option, Some, refl, sym, ap}
use Rattle.std.proofs.Common.{subst, ◌∙◌, arith}
use Rattle.std.specs.Prelude.{slice_get, map, option_map, ◌&&◌, ◌||◌, ◌==◌, if◌then◌else◌, bytes_eq}
use Rattle.std.proofs.lemmas.Bool.{false≢true, and_parts}
use Rattle.std.proofs.lemmas.Option.{same_Some, slice_get-map}
use Rattle.c_tree.specs.Types.{Ty, Function, Tys, no_types, also, bare, in_signature, all_agree, count}
use Rattle.c_tree.specs.Scopes.{Entity, Local, Static, Routine, Alias, Enumerator, Named, Scope, TagState, StaticState}
use Rattle.c_tree.specs.Scopes.{LocalState, Body, RoutineState, State, innermost, outer_scopes, in_innermost}
use Rattle.c_tree.specs.Scopes as scopes
use Rattle.c_tree.specs.Declarations.{linked_from, linked, file_names}
use Rattle.ck_base.specs.declared.positions.Pos.{Pos}
use Rattle.c_tree.specs.Terms.{Block, Action, action, Actions, no_terms, numbers_from}
use Rattle.c_tree.specs.Views.{times_in}
use Rattle.c_tree.specs.WellTyped.{holds, declared, outside}
use Rattle.typing_laws.proofs.Agreeing.{refines, refines_self, refines_on}
use Rattle.typing_laws.proofs.Facts.{Complete, TypeOk, IsValue, Refers, Adds, none, one, unused_static, unused_routine}
use Rattle.typing_laws.proofs.Facts.{Grows}
use Rattle.typing_laws.proofs.Pointers.{bare_agrees}
use Rattle.typing_laws.proofs.Growing.{complete_kept, type_kept, value_type_kept}
use Rattle.typing_laws.proofs.Placed.{Begins, begins_on, follows, more_same}
use Rattle.typing_laws.proofs.Acts.{ActionOk, action_kept, between}

-- ---- refined functions

abbrev refines_all : Tys → Tys → Bool
refines_all ps qs = all_agree (λ m n. m == n || m == 0) ps qs

pub record RefinedFunction (r : Ty) (ps : Tys) (u : Ty) : Type 0 where
  pub result : Ty
  pub takes : Tys
  pub is : u ≡ Function result takes
  pub gives : refines r result ≡ true
  pub params : refines_all ps takes ≡ true

pub function_refined : (r : Ty) (ps : Tys) (u : Ty) → refines (Function r ps) u ≡ true → RefinedFunction r ps u
function_refined r ps (Function q qs) e =
    let p = and_parts (refines r q) (refines_all ps qs) e in
    record { result = q; takes = qs; is = refl; gives = p.0; params = p.1 }
function_refined r ps u e = absurd (false≢true e)

pub bare_refines : (s t : Ty) → refines s t ≡ true → refines (bare s) (bare t) ≡ true
bare_refines s t e = bare_agrees (λ m n. m == n || m == 0) s t e

-- ---- functions with a body

-- the first variables are the parameters
abbrev pub ParamsFit : Tys → List LocalState → Type 0
ParamsFit no_types vs = Unit {0}
ParamsFit (also t ts) (v ∷ vs) = holds (refines (in_signature v.of) t) × ParamsFit ts vs
ParamsFit ts vs = ⊥

pub params_refined : (ps qs : Tys) (vs : List LocalState) → refines_all ps qs ≡ true → ParamsFit ps vs → ParamsFit qs vs
params_refined no_types no_types vs e h = tt
params_refined (also p ps) (also q qs) (v ∷ vs) e h =
    let a = and_parts (refines p q) (refines_all ps qs) e in
    (refines_on (in_signature v.of) p q h.0 a.0, params_refined ps qs vs a.1 h.1)
params_refined (also p ps) (also q qs) [] e h = absurd h
params_refined no_types (also q qs) vs e h = absurd (false≢true e)
params_refined (also p ps) no_types vs e h = absurd (false≢true e)

pub count_refined : (ps qs : Tys) → refines_all ps qs ≡ true → count ps ≡ count qs
count_refined no_types no_types e = refl
count_refined (also p ps) (also q qs) e =
    ap (λ n. n + 1) (count_refined ps qs (and_parts (refines p q) (refines_all ps qs) e).1)
count_refined no_types (also q qs) e = absurd (false≢true e)
count_refined (also p ps) no_types e = absurd (false≢true e)

abbrev pub with_locals : State → List LocalState → State
with_locals s vs = record s { locals = vs }

-- the body of a function is a block
abbrev pub IsBlock : Action → Type 0
IsBlock x = (vars : List ℕ) × (ys : Actions) × (p : Pos) × (x ≡ action (Block vars) no_terms ys p)

-- the body of a function of a type
pub record BodyOk (s : State) (t : Ty) (b : Body) : Type 0 where
  pub result : Ty
  pub takes : Tys
  pub is : t ≡ Function result takes
  pub params : b.params ≡ numbers_from 0 (count takes)
  pub fit : ParamsFit takes b.vars
  pub complete : (k : ℕ) (v : LocalState) → slice_get b.vars k ≡ Some v → Complete s.tags v.of × TypeOk s.tags v.of
  pub once : (k : ℕ) → times_in k (declared b.action) ≡ between (count takes) (length b.vars) k
  pub gives : Ty
  pub refined : holds (refines gives (bare result))
  pub value : IsValue s.tags gives
  pub block : IsBlock b.action
  pub body : ActionOk (with_locals s b.vars) gives outside b.action

with_refers : (s r : State) (vs : List LocalState) → Refers s r → Refers (with_locals s vs) (with_locals r vs)
with_refers s r vs g = record {
  tags = g.tags;
  statics = g.statics;
  routines = g.routines;
  texts = g.texts;
  locals = λ k v e. (v, e, record { type = refines_self v.of; fixed = λ _. refl });
}

pub body_kept : (s r : State) (t u : Ty) (b : Body) → Refers s r → refines t u ≡ true → BodyOk s t b → BodyOk r u b
body_kept s r t u b g e h =
    let f = function_refined h.result h.takes u (ap (λ t. refines t u) (sym h.is) ∙ e) in
    let c = count_refined h.takes f.takes f.params in
    record {
      result = f.result;
      takes = f.takes;
      is = f.is;
      params = h.params ∙ ap (numbers_from 0) c;
      fit = params_refined h.takes f.takes b.vars f.params h.fit;
      complete = λ k v q. let w = h.complete k v q in
          (complete_kept s.tags r.tags g.tags v.of w.0, type_kept s.tags r.tags g.tags v.of w.1);
      once = λ k. h.once k ∙ ap (λ n. between n (length b.vars) k) c;
      gives = h.gives;
      refined = refines_on h.gives (bare h.result) (bare f.result) h.refined (bare_refines h.result f.result f.gives);
      value = value_type_kept s.tags r.tags g.tags h.gives h.value;
      block = h.block;
      body = action_kept (with_locals s b.vars) (with_locals r b.vars)
          (with_refers s r b.vars g) h.gives outside b.action h.body;
    }

-- ---- the names of the file

-- an object that a name denotes at file scope is the one with linkage
abbrev pub FileEntity : State → List ℕ → Entity → Type 0
FileEntity s name (Static k) = linked s name ≡ Some k
FileEntity s name e = Unit {0}

abbrev pub AllFiles : State → List (Named Entity) → Type 0
AllFiles s [] = Unit {0}
AllFiles s (x ∷ xs) = FileEntity s x.name x.is × AllFiles s xs

pub record Strict (s : State) : Type 0 where
  pub files : AllFiles s (file_names s.scopes)
  pub bodies : (k : ℕ) (f : RoutineState) (b : Body) → slice_get s.routines k ≡ Some f → f.body ≡ Some b →
      BodyOk s f.of b
  pub begins : Begins s

entity_file : (s r : State) → ((name : List ℕ) (k : ℕ) → linked s name ≡ Some k → linked r name ≡ Some k) →
    (name : List ℕ) (e : Entity) → FileEntity s name e → FileEntity r name e
entity_file s r f name (Static k) h = f name k h
entity_file s r f name (Local k t) h = tt
entity_file s r f name (Routine k) h = tt
entity_file s r f name (Alias t) h = tt
entity_file s r f name (Enumerator z) h = tt
entity_file s r f name (scopes.Library k t) h = tt

pub files_more : (s r : State) → ((name : List ℕ) (k : ℕ) → linked s name ≡ Some k → linked r name ≡ Some k) →
    (xs : List (Named Entity)) → AllFiles s xs → AllFiles r xs
files_more s r f [] h = tt
files_more s r f (x ∷ xs) h = (entity_file s r f x.name x.is h.0, files_more s r f xs h.1)

files_added : (s : State) {xs ys : List (Named Entity)} → Adds xs ys → AllFiles s xs → AllFiles s ys
files_added s none h = h
files_added s (one name z i q) h = (tt, files_added s q h)

files_scopes : (s : State) (cs ds : List Scope) → outer_scopes ds ≡ outer_scopes cs → length ds ≡ length cs →
    Adds (innermost cs).names (innermost ds).names → AllFiles s (file_names cs) → AllFiles s (file_names ds)
files_scopes s [] [] o l a h = tt
files_scopes s [] (d ∷ ds) o l a h = absurd (omega (arith, l))
files_scopes s (c ∷ cs) [] o l a h = absurd (omega (arith, l))
files_scopes s (c ∷ []) (d ∷ []) o l a h = files_added s a h
files_scopes s (c ∷ []) (d ∷ e ∷ ds) o l a h = absurd (omega (arith, l))
files_scopes s (c ∷ b ∷ cs) (d ∷ []) o l a h = absurd (omega (arith, l))
files_scopes s (c ∷ b ∷ cs) (d ∷ e ∷ ds) o l a h = subst (λ xs. AllFiles s (file_names xs)) (sym o) h

-- the number of an object with linkage does not hang on uses
linked_unused : (k : ℕ) (gs : List StaticState) (name : List ℕ) →
    linked_from k (map unused_static gs) name ≡ linked_from k gs name
linked_unused k [] name = refl
linked_unused k (g ∷ gs) name =
    ap (λ (o : Option ℕ). if g.linked && bytes_eq g.name.text name then Some k else o) (linked_unused (k + 1) gs name)

pub linked_still : (s r : State) → map unused_static r.statics ≡ map unused_static s.statics → (name : List ℕ) →
    linked r name ≡ linked s name
linked_still s r e name =
    sym (linked_unused 0 r.statics name) ∙ ap (λ gs. linked_from 0 gs name) e ∙ linked_unused 0 s.statics name

pub mapped_from : {A B : Type 0} (v : A → B) (xs : List A) (k : ℕ) (y : B) → slice_get (map v xs) k ≡ Some y →
    (x : A) × (slice_get xs k ≡ Some x) × (v x ≡ y)
mapped_from v [] k y e = absurd cc
mapped_from v (x ∷ xs) zero y e = (x, refl, same_Some (v x) y e)
mapped_from v (x ∷ xs) (suc k) y e = mapped_from v xs k y e

pub routine_still : (s r : State) → map unused_routine r.routines ≡ map unused_routine s.routines →
    (k : ℕ) (h : RoutineState) → slice_get r.routines k ≡ Some h →
    (f : RoutineState) × (slice_get s.routines k ≡ Some f) × (unused_routine f ≡ unused_routine h)
routine_still s r e k h q =
    mapped_from unused_routine s.routines k (unused_routine h)
    (ap (λ xs. slice_get xs k) (sym e) ∙ slice_get-map unused_routine r.routines k
    ∙ ap (option_map unused_routine) q)

pub static_still : (s r : State) → map unused_static r.statics ≡ map unused_static s.statics →
    (k : ℕ) (h : StaticState) → slice_get r.statics k ≡ Some h →
    (f : StaticState) × (slice_get s.statics k ≡ Some f) × (unused_static f ≡ unused_static h)
static_still s r e k h q =
    mapped_from unused_static s.statics k (unused_static h)
    (ap (λ xs. slice_get xs k) (sym e) ∙ slice_get-map unused_static r.statics k ∙ ap (option_map unused_static) q)

-- functions come from the functions before, with their bodies and with types that are refined

abbrev pub BodiesFrom : State → State → Type 0
BodiesFrom s r = (k : ℕ) (h : RoutineState) (b : Body) → slice_get r.routines k ≡ Some h → h.body ≡ Some b →
    (f : RoutineState) × (slice_get s.routines k ≡ Some f) × (f.body ≡ Some b) × holds (refines f.of h.of)

pub bodies_on : (s r : State) → Strict s → Refers s r → BodiesFrom s r → (k : ℕ) (f : RoutineState) (b : Body) →
    slice_get r.routines k ≡ Some f → f.body ≡ Some b → BodyOk r f.of b
bodies_on s r h g f k x b e i = let y = f k x b e i in body_kept s r y.0.of x.of b g y.3 (h.bodies k y.0 b y.1 y.2)

pub strict_still : (s r : State) → Strict s → Grows true s r → Strict r
strict_still s r h g = record {
  files = files_scopes r s.scopes r.scopes g.outer g.deep g.names
      (files_more s r (λ name k e. linked_still s r g.still.statics name ∙ e) (file_names s.scopes) h.files);
  bodies = bodies_on s r h g.refers (λ k x b e i.
      let f = routine_still s r g.still.routines k x e in (
        f.0,
        f.1,
        ap (λ (z : RoutineState). z.body) f.2 ∙ i,
        ap (λ (z : RoutineState). refines f.0.of z.of) (sym f.2)
            ∙ refines_self f.0.of,
      ));
  begins = begins_on s r (follows s r g.refers (more_same s.pending r.pending g.still.pending)) (λ k x i e q.
      let f = static_still s r g.still.statics k x e in
      (f.0, f.1, ap (λ (z : StaticState). z.initial) f.2 ∙ q)) h.begins;
}
