-- The parameters of the function that is defined.
use Rattle.std.proofs.Common.{◌≡◌, ℕ, zero, suc, ◌<◌, ◌≤◌, List, [], ◌∷◌, ◌++◌, length, map, Option, Some, None, refl}
use Rattle.std.proofs.Common.{sym, ap, subst, ◌∙◌, arith}
use Rattle.std.specs.Prelude.{reverse, option_map, slice_get, All}
use Rattle.std.proofs.lemmas.List.{reverse-append}
use Rattle.ck_base.specs.declared.tokens.TokenKind.TheVariants.{Word}
use Rattle.ck_base.specs.Tokens.{Lexeme}
use Rattle.c_tree.specs.Types.{Ty}
use Rattle.c_tree.specs.Readings as meant
use Rattle.c_tree.specs.Programs.{own_prototype}
use Rattle.c_tree.specs.Scopes as scopes
use Rattle.c_tree.specs.Views.{types_of}
use Rattle.c_interner.proofs.Growing.{length-types_of}
use Rattle.c_types.specs.declared.scopes.Scope.{Scope}
use Rattle.c_types.specs.declared.entries.Entity.{Entity}
use Rattle.c_types.specs.declared.entries.Entity.TheVariants as entities
use Rattle.c_types.specs.Stands.{ShowsScope, named, entity_kept, entity_seen, name_in, text_at}
use Rattle.c_types.proofs.Judged.{named_there}
use Rattle.c_types.proofs.Looking.{type_is}
use Rattle.c_expressions.specs.Nodes.{type_in, type_count}
use Rattle.c_elaborator.specs.declared.work.Name.{Name}
use Rattle.c_elaborator.specs.declared.work.Work.{Work}
use Rattle.c_elaborator.specs.Answers.{Keeps}
use Rattle.c_declarators.specs.declared.parts.Param.{Param}
use Rattle.c_declarators.specs.declared.parts.Prototype.{Prototype}
use Rattle.c_declarators.specs.declared.parts.Wrap.{Wrap}
use Rattle.c_declarators.specs.declared.parts.Wrap.TheVariants.{Point, Row, Gives}
use Rattle.c_declarators.specs.Forming.{ParamIsThere, WrapIsThere}
use Rattle.c_declarators.specs.Parts.{param_in, IsPrototype, IsWrap, AreWraps, shown_in}
use Rattle.c_elab.specs.Functions.{first_prototype}

-- ---- what is made last

LastWrap : (Scope → scopes.Scope → Type 0) → Work → Wrap → List meant.Wrap → Type 0
LastWrap R w a ys = (b : meant.Wrap) × IsWrap R w a b × (own_prototype ys ≡ own_prototype (b ∷ []))

last_wrap : (R : Scope → scopes.Scope → Type 0) (w : Work) (xs : List Wrap) (a : Wrap) (ys : List meant.Wrap) →
    AreWraps R w (xs ++ a ∷ []) ys → LastWrap R w a ys
unfolding LastWrap
last_wrap R w [] a [] h = absurd h
last_wrap R w [] a (b ∷ []) h = (b, h.0, refl)
last_wrap R w [] a (b ∷ c ∷ bs) h = absurd h.1
last_wrap R w (x ∷ xs) a [] h = absurd h
last_wrap R w (x ∷ []) a (b ∷ []) h = absurd h.1
last_wrap R w (x ∷ z ∷ xs) a (b ∷ []) h = absurd h.1
last_wrap R w (x ∷ xs) a (b ∷ c ∷ bs) h = let m = last_wrap R w xs a (c ∷ bs) h.1 in (m.0, m.1, m.2)

-- what is known of the prototype
abbrev pub Owned : (Scope → scopes.Scope → Type 0) → Work → Option Prototype → Option meant.Prototype → Type 0
Owned R w None o = o ≡ None
Owned R w (Some p) o = (q : meant.Prototype) × (o ≡ Some q) × IsPrototype R w p q

one_owned : (R : Scope → scopes.Scope → Type 0) (w : Work) (a : Wrap) (ws : List Wrap) (b : meant.Wrap) →
    IsWrap R w a b → Owned R w (first_prototype (a ∷ ws)) (own_prototype (b ∷ []))
one_owned R w (Point q) ws (meant.Point r) h = refl
one_owned R w (Row n) ws (meant.Row m) h = refl
one_owned R w (Gives p) ws (meant.Gives q) h = (q, refl, h)
one_owned R w (Point q) ws (meant.Row m) h = absurd h
one_owned R w (Point q) ws (meant.Gives x) h = absurd h
one_owned R w (Row n) ws (meant.Point r) h = absurd h
one_owned R w (Row n) ws (meant.Gives x) h = absurd h
one_owned R w (Gives p) ws (meant.Point r) h = absurd h
one_owned R w (Gives p) ws (meant.Row m) h = absurd h

pub owned : (R : Scope → scopes.Scope → Type 0) (w : Work) (ws : List Wrap) (ys : List meant.Wrap) →
    AreWraps R w (reverse ws) ys → Owned R w (first_prototype ws) (own_prototype ys)
unfolding LastWrap
owned R w [] [] h = refl
owned R w [] (y ∷ ys) h = absurd h
owned R w (a ∷ ws) ys h =
    let r : reverse (a ∷ ws) ≡ reverse ws ++ a ∷ [] = reverse-append (a ∷ []) ws in
    let m = last_wrap R w (reverse ws) a ys (subst (λ (z : List Wrap). AreWraps R w z ys) r h) in
    subst (Owned R w (first_prototype (a ∷ ws))) (sym m.2) (one_owned R w a ws m.0 m.1)

pub own_there : (w : Work) (ws : List Wrap) (p : Prototype) → first_prototype ws ≡ Some p →
    All (WrapIsThere w.nodes) ws → All (ParamIsThere w.nodes) p.params.items
own_there w [] p e h = absurd cc
own_there w (Gives q ∷ ws) p e h =
    (let i : q ≡ p = cc in subst (λ (r : Prototype). All (ParamIsThere w.nodes) r.params.items) i
    (h 0 (Gives q) (omega arith)))
own_there w (Point q ∷ ws) p e h = absurd cc
own_there w (Row n ∷ ws) p e h = absurd cc

-- ---- a prototype is shown still

types_kept : (u w : Work) (k : ℕ) (t : Ty) → Keeps u w → named (types_of u.nodes.p.types) k ≡ Some t →
    named (types_of w.nodes.p.types) k ≡ Some t
types_kept u w k t h e =
    let l : k < type_count u.nodes =
    below (type_count u.nodes) (types_of u.nodes.p.types) k t e (length-types_of u.nodes.p.types) in
    let m : type_count u.nodes ≤ type_count w.nodes = h.more_types in
    named_there w.nodes.p k (omega arith) ∙ ap (λ (x : Ty). Some x) (h.types k l ∙ type_is u.nodes.p k t e)
  where
    at : (xs : List Ty) (k : ℕ) (x : Ty) → slice_get xs k ≡ Some x → k < length xs
    at [] k x e = absurd cc
    at (y ∷ xs) zero x e = omega arith
    at (y ∷ xs) (suc k) x e = let h = at xs k x e in omega arith

    below : (n : ℕ) (xs : List Ty) (k : ℕ) (x : Ty) → slice_get xs k ≡ Some x → length xs ≡ n → k < n
    below n xs k x e f = let h : k < length xs = at xs k x e in omega arith

entity_same : (ts us : List Ty) (e : Entity) (x : scopes.Entity) →
    ((k : ℕ) (t : Ty) → named ts k ≡ Some t → named us k ≡ Some t) → entity_kept ts e ≡ entity_seen x →
    entity_kept us e ≡ entity_seen x
entity_same ts us (entities.Local k t) (scopes.Local j v) h e =
    let a : k ≡ j = cc in let b : named us t ≡ Some v = h t v cc in cc
entity_same ts us (entities.Static k) (scopes.Static j) h e = e
entity_same ts us (entities.Routine k) (scopes.Routine j) h e = e
entity_same ts us (entities.Alias t) (scopes.Alias v) h e = let b : named us t ≡ Some v = h t v cc in cc
entity_same ts us (entities.Enumerator z) (scopes.Enumerator y) h e = e
entity_same ts us (entities.Library k None) (scopes.Library j None) h e = e
entity_same ts us (entities.Library k (Some t)) (scopes.Library j (Some v)) h e =
    let a : k ≡ j = cc in let b : named us t ≡ Some v = h t v cc in cc
entity_same ts us (entities.Library k None) (scopes.Library j (Some v)) h e = absurd cc
entity_same ts us (entities.Library k (Some t)) (scopes.Library j None) h e = absurd cc
entity_same ts us _ _ h e = absurd cc

option_same : (ts us : List Ty) (o : Option Entity) (q : Option scopes.Entity) →
    ((k : ℕ) (t : Ty) → named ts k ≡ Some t → named us k ≡ Some t) →
    option_map (entity_kept ts) o ≡ option_map entity_seen q → option_map (entity_kept us) o ≡ option_map entity_seen q
option_same ts us None None h e = refl
option_same ts us None (Some x) h e = absurd cc
option_same ts us (Some x) None h e = absurd cc
option_same ts us (Some x) (Some y) h e =
    let i : entity_kept ts x ≡ entity_seen y = cc in ap (λ z. Some z) (entity_same ts us x y h i)

scope_kept : (u w : Work) (n m : ℕ) (c : Scope) (k : scopes.Scope) → Keeps u w → n ≤ m →
    ShowsScope (types_of u.nodes.p.types) n c k → ShowsScope (types_of w.nodes.p.types) m c k
scope_kept u w n m c k h l s = record {
  names = λ x. option_same (types_of u.nodes.p.types) (types_of w.nodes.p.types) (name_in c x)
      (scopes.find_in k.names x) (λ j t e. types_kept u w j t h e) (s.names x);
  tags = s.tags;
  there = λ x j e. let lt = s.there x j e in omega arith;
}

param_at : List ℕ → Ty → Param → meant.Param
param_at file of p = record {
  name = option_map (λ (n :
      Name). (let t : Lexeme = record { kind = Word; text = text_at file n.span; span = n.span; pos = n.pos } in t))
      p.name;
  at = record { kind = Word; text = text_at file p.at.span; span = p.at.span; pos = p.at.pos };
  of = of;
  nothing = p.nothing;
}

param_kept : (u w : Work) (p : Param) → Keeps u w → ParamIsThere u.nodes p → param_in w p ≡ param_in u p
unfolding param_at
param_kept u w p k h = ap (λ f. param_at f (type_in w.nodes p.of) p) k.file
    ∙ ap (λ t. param_at u.file.now t p) (k.types p.of h)

pub params_kept : (u w : Work) (ps : List Param) → Keeps u w → All (ParamIsThere u.nodes) ps →
    map (param_in w) ps ≡ map (param_in u) ps
params_kept u w [] k h = refl
params_kept u w (p ∷ ps) k h =
    ap (λ a. a ∷ map (param_in w) ps) (param_kept u w p k (h 0 p (omega arith)))
    ∙ ap (λ qs. param_in u p ∷ qs) (params_kept u w ps k (λ i d l. h (suc i) d (omega arith)))

pub params_there : (u w : Work) (ps : List Param) → Keeps u w → All (ParamIsThere u.nodes) ps →
    All (ParamIsThere w.nodes) ps
params_there u w ps k h =
    λ i d l. (let m : type_count u.nodes ≤ type_count w.nodes = k.more_types in let n = h i d l in omega arith)

pub prototype_kept : (u w : Work) (s t : scopes.State) (p : Prototype) (q : meant.Prototype) → Keeps u w →
    length s.tags ≤ length t.tags → All (ParamIsThere u.nodes) p.params.items → IsPrototype (shown_in u s) u p q →
    IsPrototype (shown_in w t) w p q
prototype_kept u w s t p q k l h i =
    record {
      params = i.params ∙ sym (params_kept u w p.params.items k h);
      scope = scope_kept u w (length s.tags) (length t.tags) p.scope q.scope k l i.scope;
    }
