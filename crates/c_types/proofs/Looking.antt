-- What is found in scopes.
use Rattle.std.proofs.Common.{◌≡◌, ℕ, zero, suc, add-one, ◌-◌, ◌<◌, ◌≤◌, List, [], ◌∷◌, ◌++◌, length, map, get_or, take}
use Rattle.std.proofs.Common.{Option, Some, None, Result, Ok, Err, true, false, ltb, refl, sym, ap, subst, ◌∙◌, arith}
use Rattle.std.specs.Prelude.{reverse, slice_get, option_map, option_to_list, IsSome, OnOk, OnErr, IfOk, ◌↔◌}
use Rattle.std.specs.Global.{Vec}
use Rattle.std.proofs.lemmas.Option.{none-some}
use Rattle.c_types.specs.declared.scopes.Scopes.{Scopes}
use Rattle.std.proofs.lemmas.List.{take_more, reverse-append}
use Rattle.std.proofs.Math.Seq.{take-length}
use Rattle.c_tree.specs.declared.typed.Typed.{Typed}
use Rattle.c_tree.specs.Scopes as meant
use Rattle.c_tree.specs.Scopes.{State, TagState, tag_extent, or_else, find_name, find_tag, find_in, innermost}
use Rattle.c_tree.specs.Scopes.{outer_scopes}
use Rattle.c_types.specs.declared.entries.Tagging.{Tagging}
use Rattle.c_types.specs.declared.scopes.Scope.{Scope}
use Rattle.c_types.specs.Stands.{Stands, SeenTag, named, tag_kept, tag_seen, ShowsScope, ShowScopes, name_in, tag_in}
use Rattle.c_types.specs.Stands.{entity_kept, entity_seen, tagging_of}
use Rattle.std.proofs.lemmas.Bool.{false≢true, ltb-true, ltb-false}
use Rattle.std.proofs.lemmas.List.{length-map}
use Rattle.std.proofs.lemmas.Option.{get_or_from_slice_get, same_Some, slice_get-get_or, slice_get_past}
use Rattle.c_tree.specs.declared.syntax.RecordKind.{RecordKind}
use Rattle.c_tree.specs.declared.syntax.RecordKind.TheVariants as records
use Rattle.c_tree.specs.Types.{Ty, Void, Tagged}
use Rattle.c_tree.specs.Views.{types_of}
use Rattle.c_tree.specs.Declarators.{has_kind}
use Rattle.c_types.specs.declared.entries.Tagging.TheVariants.{Recorded, Enumerated}
use Rattle.c_types.specs.declared.entries.Entry.{Entry}
use Rattle.c_types.specs.declared.entries.Entry.TheVariants as entries
use Rattle.c_types.specs.declared.scopes.TagInfo.{TagInfo}
use Rattle.c_interner.specs.Numbers.{type_named}
use Rattle.c_type_sizes.specs.Sizes.{room_extent}
use Rattle.c_types.specs.Calls.{IsTag, Found}
use Rattle.c_types.specs.Looks.{tag_kind_of, IsThere, Numbered, name_among, tag_among}

-- ---- a list from its end

-- the first so many, the last of them first
pub reversed_turn : {X : Type 0} (xs : List X) (i : ℕ) (x : X) → 0 < i → i ≤ length xs → x ≡ get_or xs (i - 1) x →
    reverse (take i xs) ≡ x ∷ reverse (take (i - 1) xs)
reversed_turn xs zero x p le e = absurd (omega arith)
reversed_turn xs (suc j) x p le e =
    let s : suc j - 1 ≡ j = omega arith in
    let lt : j < length xs = omega arith in
    let t : take (suc j) xs ≡ take j xs ++ get_or xs j x ∷ [] = rw (← add-one) (take_more xs j x lt) in
    let g : get_or xs j x ≡ x = sym (rw s at e) in
    rw (s, t, g) (reverse-append (take j xs) (x ∷ []))

pub reversed_whole : {X : Type 0} (xs : List X) (i : ℕ) → i ≡ length xs → reverse (take i xs) ≡ reverse xs
reversed_whole xs i e = rw e (ap reverse (take-length xs))

pub reversed_none : {X : Type 0} (xs : List X) (i : ℕ) → i ≤ 0 → reverse (take i xs) ≡ []
reversed_none xs zero le = refl
reversed_none xs (suc i) le = absurd (omega arith)

pub or_else-some : {A : Type 0} (o p : Option A) (a : A) → o ≡ Some a → or_else o p ≡ Some a
or_else-some o p a e = ap (λ q. or_else q p) e

pub or_else-none : {A : Type 0} (o p : Option A) → o ≡ None → or_else o p ≡ p
or_else-none o p e = ap (λ q. or_else q p) e

-- ---- what is seen of it

either : {A B C : Type 0} (f : A → C) (g : B → C) (a c : Option A) (b d : Option B) → option_map f a ≡ option_map g b →
    option_map f c ≡ option_map g d → option_map f (or_else a c) ≡ option_map g (or_else b d)
either f g (Some a) c (Some b) d e h = e
either f g (Some a) c None d e h = absurd cc
either f g None c (Some b) d e h = absurd cc
either f g None c None d e h = h

pub names_seen : (types : List Ty) (k : ℕ) (cs : List Scope) (ms : List meant.Scope) (n : List ℕ) →
    ShowScopes types k cs ms →
    option_map (entity_kept types) (name_among cs n) ≡ option_map entity_seen (find_name ms n)
names_seen types k [] [] n h = refl
names_seen types k [] (m ∷ ms) n h = absurd h
names_seen types k (c ∷ cs) [] n h = absurd h
names_seen types k (c ∷ cs) (m ∷ ms) n h =
    either (entity_kept types) entity_seen (name_in c n) (name_among cs n) (find_in m.names n) (find_name ms n)
    (h.0.names n) (names_seen types k cs ms n h.1)

either_tag : (a c : Option Tagging) (b d : Option meant.Tagging) → option_map tagging_of a ≡ b →
    option_map tagging_of c ≡ d → option_map tagging_of (or_else a c) ≡ or_else b d
either_tag (Some a) c (Some b) d e h = e
either_tag (Some a) c None d e h = absurd cc
either_tag None c (Some b) d e h = absurd cc
either_tag None c None d e h = h

pub tags_seen : (types : List Ty) (k : ℕ) (cs : List Scope) (ms : List meant.Scope) (n : List ℕ) →
    ShowScopes types k cs ms → option_map tagging_of (tag_among cs n) ≡ find_tag ms n
tags_seen types k [] [] n h = refl
tags_seen types k [] (m ∷ ms) n h = absurd h
tags_seen types k (c ∷ cs) [] n h = absurd h
tags_seen types k (c ∷ cs) (m ∷ ms) n h =
    either_tag (tag_in c n) (tag_among cs n) (find_in m.tags n) (find_tag ms n) (h.0.tags n)
    (tags_seen types k cs ms n h.1)

-- ---- the innermost scope

pub last_reversed : {X : Type 0} (xs ys : List X) (x : X) → xs ≡ ys ++ x ∷ [] → reverse xs ≡ x ∷ reverse ys
last_reversed xs ys x e = ap reverse e ∙ reverse-append ys (x ∷ [])

pub dropped : (types : List Ty) (k n : ℕ) (items rest : List Scope) (r : Option Scope) (ms : List meant.Scope) →
    n ≡ length items → items ≡ rest ++ option_to_list r → (IsSome r ↔ (0 < n)) → ShowScopes types k (reverse items) ms →
    ShowScopes types k (reverse rest) (outer_scopes ms)
dropped types k n items rest (Some c) [] l e v h = absurd (rw (last_reversed items rest c e) at h)
dropped types k n items rest (Some c) (m ∷ ms) l e v h = let g = rw (last_reversed items rest c e) at h in g.1
dropped types k n [] [] None [] l e v h = h
dropped types k n [] [] None (m ∷ ms) l e v h = absurd h
dropped types k n [] (c ∷ cs) None ms l e v h = absurd cc
dropped types k n (c ∷ cs) rest None ms l e v h = let p : 0 < n = rw l (omega arith) in absurd (false≢true (v.1 p))

-- the same with other scopes
pub stands_scopes : (sc : Scopes) (v : Vec Scope) (p : Typed) (s : State) (ms : List meant.Scope) → Stands sc p s →
    ShowScopes (types_of p.types) (length sc.tags.items) (reverse v.items) ms →
    Stands (record sc { scopes = v }) p (record s { scopes = ms })
stands_scopes sc v p s ms h x =
    record {
      scopes = x;
      tags = h.tags;
      tag_types = h.tag_types;
      kinds = h.kinds;
      tagged = h.tagged;
      members = h.members;
      objects = h.objects;
      globals = h.globals;
      begun = h.begun;
      routines = h.routines;
      locals = h.locals;
      int = h.int;
      linked = h.linked;
    }

-- ---- lists that are seen alike

pub seen_at : {A B C : Type 0} (f : A → C) (g : B → C) (xs : List A) (ys : List B) (k : ℕ) (x : A) →
    map f xs ≡ map g ys → slice_get xs k ≡ Some x → (y : B) × (slice_get ys k ≡ Some y) × (f x ≡ g y)
seen_at f g [] ys k x e h = absurd cc
seen_at f g (a ∷ xs) [] k x e h = absurd cc
seen_at f g (a ∷ xs) (b ∷ ys) zero x e h = let i : a ≡ x = cc in let j : f a ≡ g b = cc in (b, refl, rw (← i) j)
seen_at f g (a ∷ xs) (b ∷ ys) (suc k) x e h = let i : map f xs ≡ map g ys = cc in seen_at f g xs ys k x i h

pub seen_length : {A B C : Type 0} (f : A → C) (g : B → C) (xs : List A) (ys : List B) → map f xs ≡ map g ys →
    length xs ≡ length ys
seen_length f g xs ys e = let h = simp length-map at (ap length e) in h

-- ---- the entry of a tag

pub type_is : (p : Typed) (t : ℕ) (x : Ty) → named (types_of p.types) t ≡ Some x → type_named p t ≡ x
type_is p t x e = get_or_from_slice_get (types_of p.types) t x Void e

pub record_tag : (sc : Scopes) (p : Typed) (s : State) (n : ℕ) (i : TagInfo) → Stands sc p s →
    slice_get sc.tags.items n ≡ Some i → IsTag p (entries.Tag i.of (tag_kind_of i.kind)) s (meant.Recorded n)
record_tag sc p s n i h e =
    let t = seen_at (tag_kept p.types (types_of p.types)) tag_seen sc.tags.items s.tags n i h.tags e in
    let y = type_is p i.of (Tagged n) (h.tag_types n i e) in
    of_kind i.kind t.0 y t.1 (ap (λ (x : SeenTag). x.kind) t.2)
  where
    of_kind : (k : RecordKind) (t : TagState) → type_named p i.of ≡ Tagged n → slice_get s.tags n ≡ Some t →
        k ≡ t.kind → IsTag p (entries.Tag i.of (tag_kind_of k)) s (meant.Recorded n)
    of_kind records.Struct t y g e =
        record { tag = n; is = refl; type = y; kind = ap (λ o. has_kind o records.Struct) g ∙ rw (← e) refl }
    of_kind records.Union t y g e =
        record { tag = n; is = refl; type = y; kind = ap (λ o. has_kind o records.Union) g ∙ rw (← e) refl }

first_there : (k : ℕ) (c : Scope) (o : Option Tagging) (j : ℕ) (t : Option Tagging) →
    ((n : ℕ) → t ≡ Some (Recorded n) → n < k) → (o ≡ Some (Recorded j) → j < k) → or_else t o ≡ Some (Recorded j) →
    j < k
first_there k c o j None d g e = g e
first_there k c o j (Some t) d g e = d j e

pub among_there : (types : List Ty) (k : ℕ) (cs : List Scope) (ms : List meant.Scope) (n : List ℕ) (j : ℕ) →
    ShowScopes types k cs ms → tag_among cs n ≡ Some (Recorded j) → j < k
among_there types k [] ms n j h e = absurd (none-some (Recorded j) e)
among_there types k (c ∷ cs) [] n j h e = absurd h
among_there types k (c ∷ cs) (m ∷ ms) n j h e =
    first_there k c (tag_among cs n) j (tag_in c n) (h.0.there n) (among_there types k cs ms n j h.1) e

pub found_there : (types : List Ty) (k : ℕ) (cs : List Scope) (ms : List meant.Scope) (n : List ℕ) (g : meant.Tagging) →
    ShowScopes types k cs ms → find_tag ms n ≡ Some g → Numbered k g
found_there types k cs ms n g h e =
    of_found (tag_among cs n) g (among_there types k cs ms n) (tags_seen types k cs ms n h ∙ e) refl
  where
    of_found : (o : Option Tagging) (g : meant.Tagging) →
        ((j : ℕ) → ShowScopes types k cs ms → o ≡ Some (Recorded j) → j < k) →
        option_map tagging_of (tag_among cs n) ≡ Some g → tag_among cs n ≡ o → Numbered k g
    of_found None g d e f = absurd (let x : None ≡ Some g = sym (ap (option_map tagging_of) f) ∙ e in none-some g x)
    of_found (Some Enumerated) g d e f =
        let x : meant.Enumerated ≡ g = same_Some _ _ (sym (ap (option_map tagging_of) f) ∙ e) in subst (Numbered k) x tt
    of_found (Some (Recorded j)) g d e f =
        let x : meant.Recorded j ≡ g = same_Some _ _ (sym (ap (option_map tagging_of) f) ∙ e) in
        subst (Numbered k) x (d j h refl)

pub there_at : {A : Type 0} (xs list : List A) (t : ℕ) (x : A) → list ≡ xs → true ≡ ltb t (length list) →
    x ≡ get_or list t x → slice_get xs t ≡ Some x
there_at xs list t x l lt e =
    ap (λ ys. slice_get ys t) (sym l) ∙ slice_get-get_or list t x (ltb-true t (length list) (sym lt)) ∙ ap Some (sym e)

pub none_at : {A : Type 0} (xs list : List A) (t : ℕ) → list ≡ xs → false ≡ ltb t (length list) → slice_get xs t ≡ None
none_at xs list t l e = ap (λ ys. slice_get ys t) (sym l) ∙ slice_get_past list t (ltb-false t (length list) (sym e))

pub found_tag : (sc : Scopes) (p : Typed) (s : State) (n : List ℕ) (o : Option Tagging) (t : Tagging)
    (x : Option Entry) → Stands sc p s → option_map tagging_of o ≡ find_tag s.scopes n → o ≡ Some t →
    (IsThere s (tagging_of t) → Found (λ y g. IsTag p y s g) x (Some (tagging_of t))) →
    Found (λ y g. IsTag p y s g) x (find_tag s.scopes n)
found_tag sc p s n o t x h e f g =
    let i : Some (tagging_of t) ≡ find_tag s.scopes n = sym (ap (option_map tagging_of) f) ∙ e in
    let there = found_there (types_of p.types) (length sc.tags.items) (reverse sc.scopes.items) s.scopes n
    (tagging_of t) h.scopes (sym i) in
    let l : length sc.tags.items ≡ length s.tags =
    seen_length (tag_kept p.types (types_of p.types)) tag_seen sc.tags.items s.tags h.tags in
    subst (Found (λ y g. IsTag p y s g) x) i (g (of_tags t (subst (λ k. Numbered k (tagging_of t)) l there)))
  where
    of_tags : (t : Tagging) → Numbered (length s.tags) (tagging_of t) → IsThere s (tagging_of t)
    of_tags (Recorded n) d = d
    of_tags Enumerated d = tt

-- ---- calls

pub on_ok : {T E : Type 0} (r : Result T E) {A B : Type 0} → OnOk r A → (A → B) → OnOk r B
on_ok (Ok x) a f = f a
on_ok (Err e) a f = tt

pub new_scope : (types : List Ty) (k : ℕ) (c : Scope) → ((n : List ℕ) → name_in c n ≡ None) →
    ((n : List ℕ) → tag_in c n ≡ None) → ShowsScope types k c (record { names = []; tags = [] })
new_scope types k c e t = record {
  names = λ n. ap (option_map (entity_kept types)) (e n);
  tags = λ n. ap (option_map tagging_of) (t n);
  there = λ n j h. absurd (none-some (Recorded j) (sym (t n) ∙ h));
}

pub kept_extent : (sc : Scopes) (p : Typed) (s : State) (n : ℕ) (i : TagInfo) → Stands sc p s →
    slice_get sc.tags.items n ≡ Some i → tag_extent (slice_get s.tags n) ≡ option_map room_extent i.room
kept_extent sc p s n i h e =
    let t = seen_at (tag_kept p.types (types_of p.types)) tag_seen sc.tags.items s.tags n i h.tags e in
    ap tag_extent t.1 ∙ sym (ap (λ (x : SeenTag). x.extent) t.2)

pub if_ok : {T E : Type 0} (r : Result T E) (P Q : T → Type 0) → IfOk r P → ((x : T) → P x → Q x) → IfOk r Q
if_ok (Ok x) P Q p f = f x p
if_ok (Err e) P Q p f = tt

pub on_err : {T E : Type 0} (r : Result T E) {A : Type 0} → A → OnErr r A
on_err (Ok x) a = tt
on_err (Err e) a = a
