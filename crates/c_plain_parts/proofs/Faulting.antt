-- Faults one after another, from the last to the first.
use Rattle.std.proofs.Common.{◌≡◌, ℕ, suc, ◌+◌, ◌-◌, ◌<◌, ◌≤◌, Bool, true, false, List, [], ◌∷◌, ◌++◌, length, drop}
use Rattle.std.proofs.Common.{Option, Some, None, refl, sym, ap, ◌∙◌, arith, append_assoc}
use Rattle.std.specs.Prelude.{slice_get, flat_map, if◌then◌else◌}
use Rattle.ck_base.specs.declared.positions.Pos.{Pos}
use Rattle.c_tree.specs.Scopes.{Fault, StaticState, State, is_complete}
use Rattle.c_tree.specs.Programs.{fault, earlier, earliest, undefined_use, static_faults, routine_faults}
use Rattle.c_tree.specs.Programs.{pending_faults, last_faults}
use Rattle.c_plain_parts.specs.Faults.{onto}
use Rattle.c_plain_parts.proofs.Backwards.{drop_step, drop_past}

pub onto-append : (xs ys : List Fault) (o : Option Fault) → onto (xs ++ ys) o ≡ onto xs (onto ys o)
onto-append [] ys o = refl
onto-append (x ∷ xs) ys o = ap (earlier x) (onto-append xs ys o)

pub onto_none : (xs : List Fault) → onto xs None ≡ earliest xs
onto_none [] = refl
onto_none (x ∷ xs) = ap (earlier x) (onto_none xs)

pub begun : {A : Type 0} (f : A → List Fault) (xs : List A) (n : ℕ) (o : Option Fault) → n ≡ length xs →
    o ≡ onto (flat_map f (drop (n - 0) xs)) o
begun f xs n o e = ap (λ ys. onto (flat_map f ys) o) (sym (drop_past xs (n - 0) (omega arith)))

from_step : {A : Type 0} (f : A → List Fault) (xs : List A) (k m : ℕ) (x : A) (r : Option Fault) →
    slice_get xs k ≡ Some x → m ≡ suc k → onto (flat_map f (drop k xs)) r ≡ onto (f x) (onto (flat_map f (drop m xs)) r)
from_step f xs k m x r e h =
    ap (λ ys. onto (flat_map f ys) r) (drop_step xs k x e ∙ ap (λ j. x ∷ drop j xs) (sym h))
    ∙ onto-append (f x) (flat_map f (drop m xs)) r

pub turn_back : {A : Type 0} (f : A → List Fault) (xs : List A) (n i : ℕ) (x : A) (r o p : Option Fault) → i < n →
    slice_get xs (n - 1 - i) ≡ Some x → o ≡ onto (flat_map f (drop (n - i) xs)) r → p ≡ onto (f x) o →
    p ≡ onto (flat_map f (drop (n - (i + 1)) xs)) r
turn_back f xs n i x r o p lt e h q =
    let a : n - 1 - i ≡ n - (i + 1) = omega arith in
    q ∙ ap (onto (f x)) h ∙ sym (from_step f xs (n - (i + 1)) (n - i) x r (ap (slice_get xs) (sym a) ∙ e) (omega arith))

pub over : {A : Type 0} (f : A → List Fault) (xs : List A) (n i : ℕ) (r o : Option Fault) → n ≤ i →
    o ≡ onto (flat_map f (drop (n - i) xs)) r → o ≡ onto (flat_map f xs) r
over f xs n i r o le h = let z : n - i ≡ 0 = omega arith in h ∙ ap (λ k. onto (flat_map f (drop k xs)) r) z

-- ---- one object

with_complete : (b : Bool) (f : Fault) (us : List Fault) (r : Option Fault) →
    onto ((if b then [] else f ∷ []) ++ us) r ≡ (if b then onto us r else earlier f (onto us r))
with_complete true f us r = refl
with_complete false f us r = refl

pub uses_same : (b c : Bool) (u v : Option Pos) (r : Option Fault) → b ≡ c → u ≡ v →
    onto (undefined_use b u) r ≡ onto (undefined_use c v) r
uses_same b c u v r e f = rw (e, f) refl

pub fault_then : (s : State) (g : StaticState) (b : Bool) (u : Option Pos) (r o : Option Fault) → b ≡ g.defined →
    u ≡ g.used → is_complete s g.of ≡ true → o ≡ onto (undefined_use b u) r → o ≡ onto (static_faults s g) r
fault_then s g b u r o eb eu c q =
    let us = undefined_use g.defined g.used in
    let f = fault 132 g.name.pos in
    q ∙ uses_same b g.defined u g.used r eb eu
    ∙ sym (with_complete (is_complete s g.of) f us r ∙ ap (λ x. if x then onto us r else earlier f (onto us r)) c)

pub fault_else : (s : State) (g : StaticState) (b : Bool) (u : Option Pos) (r o p : Option Fault) (place : Pos) →
    b ≡ g.defined → u ≡ g.used → is_complete s g.of ≡ false → o ≡ onto (undefined_use b u) r →
    p ≡ earlier (fault 132 place) o → place ≡ g.name.pos → p ≡ onto (static_faults s g) r
fault_else s g b u r o p place eb eu c q e a =
    let us = undefined_use g.defined g.used in
    let f = fault 132 g.name.pos in
    e ∙ ap (λ z. earlier (fault 132 z) o) a ∙ ap (earlier f) (q ∙ uses_same b g.defined u g.used r eb eu)
    ∙ sym (with_complete (is_complete s g.of) f us r ∙ ap (λ x. if x then onto us r else earlier f (onto us r)) c)

-- ---- all of them

pub last_is : (s : State) (o p q : Option Fault) → o ≡ onto (flat_map (pending_faults s) s.pending) None →
    p ≡ onto (flat_map routine_faults s.routines) o → q ≡ onto (flat_map (static_faults s) s.statics) p →
    q ≡ earliest (last_faults s)
last_is s o p q a b c =
    let xs = flat_map (static_faults s) s.statics in
    let ys = flat_map routine_faults s.routines in
    let zs = flat_map (pending_faults s) s.pending in
    c ∙ ap (onto xs) (b ∙ ap (onto ys) a) ∙ ap (onto xs) (sym (onto-append ys zs None))
    ∙ sym (onto-append xs (ys ++ zs) None) ∙ ap (λ ws. onto ws None) (sym (append_assoc xs ys zs))
    ∙ onto_none ((xs ++ ys) ++ zs)
