-- A name is bound in a map.
use Rattle.std.proofs.Common.{◌≡◌, ℕ, zero, suc, ◌-◌, ◌++◌, length, set, take, get_or, arith, Bool, true, false}
use Rattle.std.proofs.Common.{cond, List, [], ◌∷◌, Option, Some, None, refl, sym, ap, subst, ◌∙◌}
use Rattle.std.specs.Prelude.{bytes_eq}
use Rattle.std.specs.Map.{lookup}
use Rattle.std.proofs.lemmas.Slice.Eq.{bytes_eq-Decides}
use Rattle.std.proofs.lemmas.Bool.{false≢true}
use Rattle.std.specs.Prelude.{◌<◌, option_map, reverse}
use Rattle.std.proofs.lemmas.List.{reverse-append}
use Rattle.std.proofs.lemmas.Option.{same_Some}
use Rattle.indexmap.specs.IndexMap.{insert_entry}
use Rattle.text_keys.specs.declared.TextKey.{TextKey}
use Rattle.c_tree.specs.Types.{Ty}
use Rattle.c_tree.specs.Scopes as meant
use Rattle.c_tree.specs.Scopes.{State, find_in, in_innermost, innermost, bind_name, bind_tag}
use Rattle.ck_base.specs.Tokens.{Lexeme}
use Rattle.std.specs.Global.{Vec}
use Rattle.std.specs.Prelude.{ℤ, not, is_some}
use Rattle.c_tree.specs.Declarators.{is_new, is_none}
use Rattle.c_tree.specs.declared.typed.Typed.{Typed}
use Rattle.c_tree.specs.Views.{types_of}
use Rattle.c_types.specs.declared.entries.Entry.TheVariants as entries
use Rattle.c_types.specs.declared.scopes.Scopes.{Scopes}
use Rattle.c_types.specs.Calls.{Given, IsDeclared}
use Rattle.c_types.specs.Declares.{declares_constant}
use Rattle.c_types.specs.declared.entries.Entity.{Entity}
use Rattle.c_types.specs.declared.entries.Tagging.{Tagging}
use Rattle.c_types.specs.declared.entries.Tagging.TheVariants.{Recorded}
use Rattle.c_types.specs.declared.scopes.Scope.{Scope}
use Rattle.c_types.specs.Stands.{Stands, ShowsScope, ShowScopes, name_in, tag_in, entity_kept, entity_seen, tagging_of}
use Rattle.c_types.specs.Looks.{Numbered}
use Rattle.c_types.proofs.Looking.{reversed_turn, reversed_whole, stands_scopes}

pub bytes_same : (xs ys : List ℕ) → bytes_eq xs ys ≡ true → xs ≡ ys
bytes_same xs ys = (bytes_eq-Decides xs ys).0

pub bytes_refl : (xs : List ℕ) → bytes_eq xs xs ≡ true
bytes_refl xs = (bytes_eq-Decides xs xs).1 refl

bytes_sym : (xs ys : List ℕ) → bytes_eq xs ys ≡ bytes_eq ys xs
bytes_sym xs ys = both (bytes_eq xs ys) (bytes_eq ys xs) refl refl
  where
    both : (a b : Bool) → bytes_eq xs ys ≡ a → bytes_eq ys xs ≡ b → bytes_eq xs ys ≡ bytes_eq ys xs
    both true b e f = e ∙ sym (bytes_refl xs) ∙ ap (λ zs. bytes_eq zs xs) (bytes_same xs ys e)
    both false true e f = absurd (false≢true (sym e ∙ ap (λ zs. bytes_eq xs zs) (bytes_same ys xs f) ∙ bytes_refl xs))
    both false false e f = e ∙ sym f

pub lookup_insert : {X : Type 0} (es : List (TextKey × X)) (k : TextKey) (v : X) (n : List ℕ) →
    lookup (λ x. bytes_eq n x.bytes.now) (insert_entry (λ x y. bytes_eq x.bytes.now y.bytes.now) es k v)
    ≡ cond (bytes_eq k.bytes.now n) (Some v) (lookup (λ x. bytes_eq n x.bytes.now) es)
lookup_insert {X = X} [] k v n = ap (λ b. cond {A = Option X} b (Some v) None) (bytes_sym n k.bytes.now)
lookup_insert {X = X} (e ∷ es) k v n =
    by_key (bytes_eq k.bytes.now e.0.bytes.now) (bytes_eq n e.0.bytes.now) refl refl (lookup_insert es k v n)
  where
    found : List (TextKey × X) → Option X
    found = lookup (λ x. bytes_eq n x.bytes.now)

    by_key : (a b : Bool) → bytes_eq k.bytes.now e.0.bytes.now ≡ a → bytes_eq n e.0.bytes.now ≡ b →
        found (insert_entry (λ x y. bytes_eq x.bytes.now y.bytes.now) es k v)
        ≡ cond (bytes_eq k.bytes.now n) (Some v) (found es) →
        found (cond a ((e.0, v) ∷ es) (e ∷ insert_entry (λ x y. bytes_eq x.bytes.now y.bytes.now) es k v))
        ≡ cond (bytes_eq k.bytes.now n) (Some v) (found (e ∷ es))
    by_key true b p q r =
        let same : bytes_eq n e.0.bytes.now ≡ bytes_eq k.bytes.now n =
        bytes_sym n e.0.bytes.now ∙ ap (λ zs. bytes_eq zs n) (sym (bytes_same k.bytes.now e.0.bytes.now p)) in
        at_once (bytes_eq n e.0.bytes.now) (bytes_eq k.bytes.now n) same
      where
        at_once : (c d : Bool) → c ≡ d → cond c (Some v) (found es) ≡ cond d (Some v) (cond c (Some e.1) (found es))
        at_once true true s = refl
        at_once false false s = refl
        at_once true false s = absurd (false≢true (sym s))
        at_once false true s = absurd (false≢true s)
    by_key false true p q r =
        let apart : bytes_eq k.bytes.now n ≡ false =
        ap (λ zs. bytes_eq k.bytes.now zs) (bytes_same n e.0.bytes.now q) ∙ p in
        rw (q, apart) refl
    by_key false false p q r = rw q r

-- ---- a scope with one more name

module _ {A B C : Type 0} (f : A → C) (g : B → C) where
  bound_alike : (t : Bool) (a : A) (b : B) (o : Option A) (q : Option B) → f a ≡ g b → option_map f o ≡ option_map g q →
      option_map f (cond t (Some a) o) ≡ option_map g (cond t (Some b) q)
  bound_alike true a b o q e h = ap (λ x. Some x) e
  bound_alike false a b o q e h = h

pub scope_bound : (ts : List Ty) (k : ℕ) (c d : Scope) (m : meant.Scope) (name : List ℕ) (e : Entity)
    (x : meant.Entity) → ((n : List ℕ) → name_in d n ≡ cond (bytes_eq name n) (Some e) (name_in c n)) →
    ((n : List ℕ) → tag_in d n ≡ tag_in c n) → entity_kept ts e ≡ entity_seen x → ShowsScope ts k c m →
    ShowsScope ts k d (record m { names = record { name = name; is = x } ∷ m.names })
scope_bound ts k c d m name e x b t i h = record {
  names = λ n. ap (option_map (entity_kept ts)) (b n)
      ∙ bound_alike (entity_kept ts) entity_seen (bytes_eq name n) e x (name_in c n) (find_in m.names n) i (h.names n);
  tags = λ n. ap (option_map tagging_of) (t n) ∙ h.tags n;
  there = λ n j g. h.there n j (sym (t n) ∙ g);
}

pub scope_tagged : (ts : List Ty) (k : ℕ) (c d : Scope) (m : meant.Scope) (name : List ℕ) (e : Tagging) →
    Numbered k (tagging_of e) → ((n : List ℕ) → tag_in d n ≡ cond (bytes_eq name n) (Some e) (tag_in c n)) →
    ((n : List ℕ) → name_in d n ≡ name_in c n) → ShowsScope ts k c m →
    ShowsScope ts k d (record m { tags = record { name = name; is = tagging_of e } ∷ m.tags })
scope_tagged ts k c d m name e l b t h = record {
  names = λ n. ap (option_map (entity_kept ts)) (t n) ∙ h.names n;
  tags = λ n. ap (option_map tagging_of) (b n) ∙ by_test (bytes_eq name n) (tag_in c n) (find_in m.tags n) (h.tags n);
  there = λ n j g. numbered (bytes_eq name n) (tag_in c n) j (h.there n j) (sym (b n) ∙ g);
}
  where
    by_test : (u : Bool) (o : Option Tagging) (q : Option meant.Tagging) → option_map tagging_of o ≡ q →
        option_map tagging_of (cond u (Some e) o) ≡ cond u (Some (tagging_of e)) q
    by_test true o q z = refl
    by_test false o q z = z

    numbered : (u : Bool) (o : Option Tagging) (j : ℕ) → (o ≡ Some (Recorded j) → j < k) →
        cond u (Some e) o ≡ Some (Recorded j) → j < k
    numbered true o j z g =
        let w : Numbered k (tagging_of (Recorded j)) = subst (λ y. Numbered k (tagging_of y)) (same_Some _ _ g) l in w
    numbered false o j z g = z g

-- ---- the innermost scope

last_set : {X : Type 0} (xs : List X) (n : ℕ) (d : X) → suc n ≡ length xs → set xs n d ≡ take n xs ++ d ∷ []
last_set [] n d e = absurd (omega arith)
last_set (x ∷ []) zero d e = refl
last_set (x ∷ y ∷ xs) zero d e = absurd (omega arith)
last_set (x ∷ xs) (suc n) d e = ap (λ ys. x ∷ ys) (last_set xs n d (omega arith))

innermost_changed : (ts : List Ty) (k : ℕ) (cs : List Scope) (c d : Scope) (f : meant.Scope → meant.Scope)
    (ms : List meant.Scope) → ((m : meant.Scope) → ShowsScope ts k c m → ShowsScope ts k d (f m)) →
    ShowScopes ts k (c ∷ cs) ms → ShowScopes ts k (d ∷ cs) (in_innermost f ms)
innermost_changed ts k cs c d f [] g h = absurd h
innermost_changed ts k cs c d f (m ∷ ms) g h = (g m h.0, h.1)

-- the innermost scope changes, and the others stay
pub scopes_changed : (ts : List Ty) (k : ℕ) (items : List Scope) (n : ℕ) (c d : Scope) (f : meant.Scope → meant.Scope)
    (ms : List meant.Scope) → 0 < n → n ≡ length items → c ≡ get_or items (n - 1) c →
    ((m : meant.Scope) → ShowsScope ts k c m → ShowsScope ts k d (f m)) → ShowScopes ts k (reverse items) ms →
    ShowScopes ts k (reverse (set items (n - 1) d)) (in_innermost f ms)
scopes_changed ts k items zero c d f ms p l e g h = absurd (omega arith)
scopes_changed ts k items (suc n) c d f ms p l e g h =
    let z : suc n - 1 ≡ n = omega arith in
    let a : reverse items ≡ c ∷ reverse (take n items) =
    sym (reversed_whole items (suc n) l) ∙ (rw z at (reversed_turn items (suc n) c p (omega arith) e)) in
    let b : reverse (set items n d) ≡ d ∷ reverse (take n items) =
    ap reverse (last_set items n d l) ∙ reverse-append (take n items) (d ∷ []) in
    rw (z, b) (innermost_changed ts k (reverse (take n items)) c d f ms g (rw a at h))

-- ---- names in force

abbrev pub with_name : List ℕ → meant.Entity → meant.Scope → meant.Scope
with_name name x m = record m { names = record { name = name; is = x } ∷ m.names }

abbrev pub with_tag : List ℕ → meant.Tagging → meant.Scope → meant.Scope
with_tag name t m = record m { tags = record { name = name; is = t } ∷ m.tags }

in_innermost_same : (ms : List meant.Scope) → in_innermost (λ m. m) ms ≡ ms
in_innermost_same [] = refl
in_innermost_same (m ∷ ms) = refl

pub bound_stands : (sc : Scopes) (v : Vec Scope) (p : Typed) (s : State) (n : ℕ) (c d : Scope) (name : List ℕ)
    (e : Entity) (x : meant.Entity) → Stands sc p s → 0 < n → n ≡ length sc.scopes.items →
    c ≡ get_or sc.scopes.items (n - 1) c → v.items ≡ set sc.scopes.items (n - 1) d →
    ((k : List ℕ) → name_in d k ≡ cond (bytes_eq name k) (Some e) (name_in c k)) →
    ((k : List ℕ) → tag_in d k ≡ tag_in c k) → entity_kept (types_of p.types) e ≡ entity_seen x →
    Stands (record sc { scopes = v }) p (bind_name name x s)
bound_stands sc v p s n c d name e x h lt l g w b t i =
    let ts = types_of p.types in
    let k = length sc.tags.items in
    stands_scopes sc v p s (in_innermost (with_name name x) s.scopes) h
    (rw w (scopes_changed ts k sc.scopes.items n c d (with_name name x) s.scopes lt l g
    (λ m q. scope_bound ts k c d m name e x b t i q) h.scopes))

pub tagged_stands : (sc : Scopes) (v : Vec Scope) (p : Typed) (s : State) (n : ℕ) (c d : Scope) (name : List ℕ)
    (e : Tagging) → Stands sc p s → 0 < n → n ≡ length sc.scopes.items → c ≡ get_or sc.scopes.items (n - 1) c →
    v.items ≡ set sc.scopes.items (n - 1) d →
    ((k : List ℕ) → tag_in d k ≡ cond (bytes_eq name k) (Some e) (tag_in c k)) →
    ((k : List ℕ) → name_in d k ≡ name_in c k) → Numbered (length sc.tags.items) (tagging_of e) →
    Stands (record sc { scopes = v }) p (bind_tag name (tagging_of e) s)
tagged_stands sc v p s n c d name e h lt l g w b t i =
    let ts = types_of p.types in
    let k = length sc.tags.items in
    stands_scopes sc v p s (in_innermost (with_tag name (tagging_of e)) s.scopes) h
    (rw w (scopes_changed ts k sc.scopes.items n c d (with_tag name (tagging_of e)) s.scopes lt l g
    (λ m q. scope_tagged ts k c d m name e i b t q) h.scopes))

pub alike_stands : (sc : Scopes) (v : Vec Scope) (p : Typed) (s : State) (n : ℕ) (c d : Scope) → Stands sc p s → 0 < n →
    n ≡ length sc.scopes.items → c ≡ get_or sc.scopes.items (n - 1) c → v.items ≡ set sc.scopes.items (n - 1) d →
    ((k : List ℕ) → name_in d k ≡ name_in c k) → ((k : List ℕ) → tag_in d k ≡ tag_in c k) →
    Stands (record sc { scopes = v }) p s
alike_stands sc v p s n c d h lt l g w b t =
    let ts = types_of p.types in
    let k = length sc.tags.items in
    let same = λ (m : meant.Scope) (q : ShowsScope ts k c m).
    let r : ShowsScope ts k d m = record {
      names = λ z. ap (option_map (entity_kept ts)) (b z) ∙ q.names z;
      tags = λ z. ap (option_map tagging_of) (t z) ∙ q.tags z;
      there = λ z j y. q.there z j (sym (t z) ∙ y);
    } in r in
    stands_scopes sc v p s s.scopes h
    (rw w (subst (λ ms. ShowScopes ts k (reverse (set sc.scopes.items (n - 1) d)) ms) (in_innermost_same s.scopes)
    (scopes_changed ts k sc.scopes.items n c d (λ m. m) s.scopes lt l g same h.scopes)))

-- ---- enumeration constants

pub constant_given : (sd : Scopes) (p : Typed) (s : State) (t : Lexeme) (z : ℤ) → is_new s t.text ≡ true →
    Stands sd p (bind_name t.text (meant.Enumerator z) s) →
    Given sd p (declares_constant t z s) (IsDeclared p (entries.Constant z))
constant_given sd p s t z e h = record {
  value = meant.Enumerator z;
  state = bind_name t.text (meant.Enumerator z) s;
  is = rw e refl;
  stands = h;
  fits = refl;
}

-- a name is new where the innermost scope does not keep it
pub new_name : (ts : List Ty) (o : Option Entity) (q : Option meant.Entity) (b : Bool) →
    option_map (entity_kept ts) o ≡ option_map entity_seen q → b ≡ is_some o → is_none q ≡ not b
new_name ts None None b e f = rw f refl
new_name ts None (Some x) b e f = absurd cc
new_name ts (Some y) None b e f = absurd cc
new_name ts (Some y) (Some x) b e f = rw f refl
