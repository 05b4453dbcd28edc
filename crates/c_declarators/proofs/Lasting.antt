-- What stays of declarators as the work goes on.
use Rattle.std.proofs.Common.{◌≡◌, ℕ, suc, ◌<◌, ◌≤◌, List, [], ◌∷◌, ◌++◌, length, map, All, Option, Some, None, refl}
use Rattle.std.proofs.Common.{sym, ap, subst, ◌∙◌, arith}
use Rattle.std.specs.Prelude.{option_map, reverse}
use Rattle.std.proofs.lemmas.Grind.{reverse_onto}
use Rattle.std.proofs.lemmas.List.Elements.{All-push}
use Rattle.std.proofs.lemmas.Option.{slice_get-get_or, slice_get_within, get_or_from_slice_get}
use Rattle.ck_base.specs.declared.tokens.TokenKind.TheVariants.{Word}
use Rattle.ck_base.specs.Tokens.{Lexeme}
use Rattle.c_tree.specs.Types.{Ty, Void}
use Rattle.c_tree.specs.Views.{types_of}
use Rattle.c_tree.specs.Scopes as meant_scopes
use Rattle.c_tree.specs.Scopes.{State, find_in}
use Rattle.c_tree.specs.Readings as meant
use Rattle.c_interner.proofs.Growing.{length-types_of}
use Rattle.c_types.specs.declared.entries.Entity.{Entity}
use Rattle.c_types.specs.declared.entries.Entity.TheVariants.{Local, Static, Routine, Alias, Enumerator, Library}
use Rattle.c_types.specs.declared.scopes.Scope.{Scope}
use Rattle.c_types.specs.Stands.{ShowsScope, local, alias, library, entity_kept, entity_seen, name_in, named, text_at}
use Rattle.c_expressions.specs.Nodes.{type_in, type_count}
use Rattle.c_elaborator.specs.declared.work.Work.{Work}
use Rattle.c_elaborator.specs.declared.work.Name.{Name}
use Rattle.c_elaborator.specs.Work.{Shows}
use Rattle.c_elaborator.specs.Answers.{Keeps, Quiet, Still}
use Rattle.c_declarators.specs.declared.parts.Param.{Param}
use Rattle.c_declarators.specs.declared.parts.Wrap.{Wrap}
use Rattle.c_declarators.specs.declared.parts.Wrap.TheVariants.{Point, Row, Gives}
use Rattle.c_declarators.specs.declared.parts.Derived.{Derived}
use Rattle.c_declarators.specs.declared.parts.Specified.{Specified}
use Rattle.c_declarators.specs.Forming.{ParamIsThere, WrapIsThere}
use Rattle.c_declarators.specs.Parts.{SpecifiedThere, name_token, param_in, ParamThere, shown_in, IsWrap}
use Rattle.c_declarators.specs.Parts.{AreWraps, IsDerived, DerivedThere, ShowsDerived}
use Rattle.c_declarators.proofs.Making.{All_weaker}

-- ---- what names denote

-- types that are named still
abbrev AreNamed : List Ty → List Ty → Type 0
AreNamed ts us = (k : ℕ) (t : Ty) → named ts k ≡ Some t → named us k ≡ Some t

entity_later : (ts us : List Ty) (e : Entity) (x : meant_scopes.Entity) → AreNamed ts us →
    entity_kept ts e ≡ entity_seen x → entity_kept us e ≡ entity_seen x
entity_later ts us (Local k a) (meant_scopes.Local j b) h e =
    let g : named us a ≡ Some b = h a b cc in let i : k ≡ j = cc in ap (λ n. local n (named us a)) i ∙ ap (local j) g
entity_later ts us (Local k a) _ h e = absurd cc
entity_later ts us (Static k) x h e = e
entity_later ts us (Routine k) x h e = e
entity_later ts us (Alias a) (meant_scopes.Alias b) h e = let g : named us a ≡ Some b = h a b cc in ap alias g
entity_later ts us (Alias a) _ h e = absurd cc
entity_later ts us (Enumerator z) x h e = e
entity_later ts us (Library k None) x h e = e
entity_later ts us (Library k (Some a)) (meant_scopes.Library j (Some b)) h e =
    let g : named us a ≡ Some b = h a b cc in let i : k ≡ j = cc in
    ap (λ n. library n (Some (named us a))) i ∙ ap (λ o. library j (Some o)) g
entity_later ts us (Library k (Some a)) (meant_scopes.Library j None) h e = absurd cc
entity_later ts us (Library k (Some a)) _ h e = absurd cc

found_later : (ts us : List Ty) (o : Option Entity) (p : Option meant_scopes.Entity) → AreNamed ts us →
    option_map (entity_kept ts) o ≡ option_map entity_seen p → option_map (entity_kept us) o ≡ option_map entity_seen p
found_later ts us None None h e = refl
found_later ts us None (Some x) h e = absurd cc
found_later ts us (Some a) None h e = absurd cc
found_later ts us (Some a) (Some x) h e =
    let i : entity_kept ts a ≡ entity_seen x = cc in ap (λ y. Some y) (entity_later ts us a x h i)

scope_later : (ts us : List Ty) (k n : ℕ) (c : Scope) (m : meant_scopes.Scope) → AreNamed ts us → k ≤ n →
    ShowsScope ts k c m → ShowsScope us n c m
scope_later ts us k n c m h le s = record {
  names = λ x. found_later ts us (name_in c x) (find_in m.names x) h (s.names x);
  tags = s.tags;
  there = λ x j e. let lt : j < k = s.there x j e in omega arith;
}

named_later : (v w : Work) → Keeps v w → AreNamed (types_of v.nodes.p.types) (types_of w.nodes.p.types)
named_later v w k j t e =
    let ts : List Ty = types_of v.nodes.p.types in
    let us : List Ty = types_of w.nodes.p.types in
    let lv : length ts ≡ type_count v.nodes = length-types_of v.nodes.p.types in
    let lw : length us ≡ type_count w.nodes = length-types_of w.nodes.p.types in
    let more : type_count v.nodes ≤ type_count w.nodes = k.more_types in
    let lt : j < length ts = slice_get_within ts j t e in
    let was : type_in v.nodes j ≡ t = get_or_from_slice_get ts j t Void e in
    slice_get-get_or us j Void (omega arith) ∙ ap (λ u. Some u) (k.types j (omega arith) ∙ was)

-- ---- names, parameters, specifiers

-- a parameter, by the file and its type
param_of : List ℕ → Ty → Param → meant.Param
param_of file t p =
    let token : Name → Lexeme =
    λ (n : Name). record { kind = Word; text = text_at file n.span; span = n.span; pos = n.pos } in
    record { name = option_map token p.name; at = token p.at; of = t; nothing = p.nothing }

param_is : (w : Work) (p : Param) → param_in w p ≡ param_of w.file.now (type_in w.nodes p.of) p
unfolding param_of
param_is w p = refl

pub param_lasts : (v w : Work) (p : Param) → Keeps v w → ParamThere v p → param_in w p ≡ param_in v p
param_lasts v w p k h =
    param_is w p ∙ ap (λ f. param_of f (type_in w.nodes p.of) p) k.file
    ∙ ap (λ t. param_of v.file.now t p) (k.types p.of h) ∙ sym (param_is v p)

pub params_last : (v w : Work) (ps : List Param) → Keeps v w → All (ParamIsThere v.nodes) ps →
    map (param_in w) ps ≡ map (param_in v) ps
params_last v w [] k h = refl
params_last v w (p ∷ ps) k h =
    ap (λ x. x ∷ map (param_in w) ps) (param_lasts v w p k (h 0 p (omega arith)))
    ∙ ap (λ xs. param_in v p ∷ xs) (params_last v w ps k (λ i d l. h (suc i) d (omega arith)))

pub params_there : (v w : Work) (ps : List Param) → Keeps v w → All (ParamIsThere v.nodes) ps →
    All (ParamIsThere w.nodes) ps
params_there v w ps k h =
    All_weaker (ParamIsThere v.nodes) (ParamIsThere w.nodes) ps
    (λ p lt. let m : type_count v.nodes ≤ type_count w.nodes = k.more_types in omega arith) h

name_lasts : (v w : Work) (n : Option Name) → Keeps v w → name_token w n ≡ name_token v n
name_lasts v w None k = refl
name_lasts v w (Some n) k =
    ap (λ f. (let t : Lexeme = record { kind = Word; text = text_at f n.span; span = n.span; pos = n.pos } in Some t))
    k.file

pub specified_there : (v w : Work) (s : Specified) → Keeps v w → SpecifiedThere v s → SpecifiedThere w s
specified_there v w s k h = let m : type_count v.nodes ≤ type_count w.nodes = k.more_types in omega arith

-- ---- declarators

wrap_there : (v w : Work) (a : Wrap) → Keeps v w → WrapIsThere v.nodes a → WrapIsThere w.nodes a
wrap_there v w (Point q) k h = tt
wrap_there v w (Row n) k h = tt
wrap_there v w (Gives p) k h = params_there v w p.params.items k h

pub derived_there : (v w : Work) (d : Derived) → Keeps v w → DerivedThere v d → DerivedThere w d
derived_there v w d k h =
    All_weaker (WrapIsThere v.nodes) (WrapIsThere w.nodes) d.wraps.items (λ a. wrap_there v w a k) h

wrap_lasts : (R S : Scope → meant_scopes.Scope → Type 0) (v w : Work) (a : Wrap) (b : meant.Wrap) →
    ((c : Scope) (m : meant_scopes.Scope) → R c m → S c m) → Keeps v w → WrapIsThere v.nodes a → IsWrap R v a b →
    IsWrap S w a b
wrap_lasts R S v w (Point q) (meant.Point r) f k t h = h
wrap_lasts R S v w (Row n) (meant.Row m) f k t h = h
wrap_lasts R S v w (Gives p) (meant.Gives x) f k t h =
    record { params = h.params ∙ sym (params_last v w p.params.items k t); scope = f p.scope x.scope h.scope }
wrap_lasts R S v w (Point q) (meant.Row m) f k t h = absurd h
wrap_lasts R S v w (Point q) (meant.Gives x) f k t h = absurd h
wrap_lasts R S v w (Row n) (meant.Point r) f k t h = absurd h
wrap_lasts R S v w (Row n) (meant.Gives x) f k t h = absurd h
wrap_lasts R S v w (Gives p) (meant.Point r) f k t h = absurd h
wrap_lasts R S v w (Gives p) (meant.Row m) f k t h = absurd h

wraps_last : (R S : Scope → meant_scopes.Scope → Type 0) (v w : Work) (vs : List Wrap) (bs : List meant.Wrap) →
    ((c : Scope) (m : meant_scopes.Scope) → R c m → S c m) → Keeps v w → All (WrapIsThere v.nodes) vs →
    AreWraps R v vs bs → AreWraps S w vs bs
wraps_last R S v w [] [] f k t h = tt
wraps_last R S v w [] (b ∷ bs) f k t h = absurd h
wraps_last R S v w (a ∷ vs) [] f k t h = absurd h
wraps_last R S v w (a ∷ vs) (b ∷ bs) f k t h = (
  wrap_lasts R S v w a b f k (t 0 a (omega arith)) h.0,
  wraps_last R S v w vs bs f k (λ i d l. t (suc i) d (omega arith)) h.1,
)

All-reverse : {A : Type 0} (P : A → Type 0) (xs : List A) → All P xs → All P (reverse xs)
All-reverse P [] h = h
All-reverse P (x ∷ xs) h =
    let e : reverse (x ∷ xs) ≡ reverse xs ++ x ∷ [] = reverse_onto xs x [] in
    subst (λ ys. All P ys) (sym e) (All-push P (reverse xs) x (All-reverse P xs (λ i d l. h (suc i) d (omega arith)))
    (h 0 x (omega arith)))

-- with what is asked of scopes, which may be less then
pub declarator_lasts : (R S : Scope → meant_scopes.Scope → Type 0) (v w : Work) (d : Derived) (x : meant.Derived) →
    ((c : Scope) (m : meant_scopes.Scope) → R c m → S c m) → Keeps v w → DerivedThere v d → IsDerived R v d x →
    IsDerived S w d x
declarator_lasts R S v w d x f k t h = record {
  name = h.name ∙ sym (name_lasts v w d.name k);
  wraps = wraps_last R S v w (reverse d.wraps.items) x.wraps f k
      (All-reverse (WrapIsThere v.nodes) d.wraps.items t) h.wraps;
}

pub scope_lasts : (v w : Work) (s t : State) (c : Scope) (m : meant_scopes.Scope) → Keeps v w → Still s t →
    shown_in v s c m → shown_in w t c m
scope_lasts v w s t c m k st h =
    scope_later (types_of v.nodes.p.types) (types_of w.nodes.p.types) (length s.tags) (length t.tags) c m
    (named_later v w k) st.tags h

-- the scopes of parameters that were shown before are shown still
pub derived_lasts : (v w : Work) (d : Derived) (s t : State) (x : meant.Derived) → Quiet v w → Still s t →
    DerivedThere v d → Shows v s → ShowsDerived v d s x → ShowsDerived w d t x
derived_lasts v w d s t x q st h sh i =
    declarator_lasts (shown_in v s) (shown_in w t) v w d x (λ c m r. scope_lasts v w s t c m q.keeps st r) q.keeps h i
