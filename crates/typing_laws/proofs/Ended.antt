-- From the beginning of a file to its end, and what is known there.
use Rattle.std.proofs.Common.{◌≡◌, ℕ, zero, suc, ◌+◌, Bool, true, false, List, [], ◌∷◌, ◌++◌, Option, Some, None}
use Rattle.std.proofs.Common.{Result, Ok, Err, refl, sym, ap, ◌∙◌, ⊎_elim, subst}
use Rattle.std.specs.Prelude.{ℤ, slice_get, map, flat_map, nat_lt, if◌then◌else◌}
use Rattle.std.proofs.lemmas.Option.{none-some, same_Some}
use Rattle.c_tree.specs.Syntax.{Syn, node}
use Rattle.c_tree.specs.Types.{Ty}
use Rattle.c_tree.specs.Terms.{Program, To_global}
use Rattle.c_tree.specs.Scopes.{Entity, Library, Named, StaticState, RoutineState, Pending, State, Fault, is_complete}
use Rattle.c_tree.specs.Libraries.{Service, services, signature, aliases, builtin_name}
use Rattle.c_tree.specs.Programs.{alias_name, service_names, names_of_services, file_scope, beginning, undefined_use}
use Rattle.c_tree.specs.Programs.{static_faults, routine_faults, is_there, last_faults, earlier, earliest, program_of}
use Rattle.c_tree.specs.Programs.{has_main, ended, all_externals, finished, parts, readings, typing, stands_before}
use Rattle.c_tree.specs.Programs.{pending_faults}
use Rattle.c_tree.specs.Programs.{reaches}
use Rattle.c_tree.specs.Passed.{Names, passed_program, call_name, calls_in}
use Rattle.c_tree.specs.Statics.{aim_length}
use Rattle.typing_laws.proofs.Placed.{IsWaiting}
use Rattle.typing_laws.specs.Fitting.{IsFit, AreFit}
use Rattle.typing_laws.proofs.Facts.{Complete, EntityOk, AllNames, IsUsed}
use Rattle.typing_laws.proofs.Scalars.{branched, complete_is}
use Rattle.typing_laws.proofs.Wholes.{FileEntity, AllFiles}
use Rattle.typing_laws.proofs.Functions.{Outside}
use Rattle.typing_laws.proofs.Readable.{all_good, externals_ok}

-- ---- the beginning

-- what holds of a name and what it denotes
abbrev AllNamed : (Named Entity → Type 0) → List (Named Entity) → Type 0
AllNamed P [] = Unit {0}
AllNamed P (x ∷ xs) = P x × AllNamed P xs

both_named : (P : Named Entity → Type 0) (xs ys : List (Named Entity)) → AllNamed P xs → AllNamed P ys →
    AllNamed P (xs ++ ys)
both_named P [] ys h k = k
both_named P (x ∷ xs) ys h k = (h.0, both_named P xs ys h.1 k)

services_named : (P : Named Entity → Type 0) →
    ((name : List ℕ) (k : ℕ) (t : Option Ty) → P (record { name = name; is = Library k t })) →
    (k : ℕ) (fs : List Service) → AllNamed P (names_of_services k fs)
services_named P f k [] = tt
services_named P f k (s ∷ fs) =
    both_named P (service_names k s) (names_of_services (k + 1) fs) (
      f s.name k (signature s),
      branched (AllNamed P) (nat_lt k 4) [] (record { name = builtin_name s.name; is = Library k (signature s) }
          ∷ []) (λ _. tt) (λ _. (f (builtin_name s.name) k (signature s), tt)),
    )
    (services_named P f (k + 1) fs)

as_names : (P : Entity → Type 0) (xs : List (Named Entity)) → AllNamed (λ x. P x.is) xs → AllNames P xs
as_names P [] h = tt
as_names P (x ∷ xs) h = (h.0, as_names P xs h.1)

as_files : (s : State) (xs : List (Named Entity)) → AllNamed (λ x. FileEntity s x.name x.is) xs → AllFiles s xs
as_files s [] h = tt
as_files s (x ∷ xs) h = (h.0, as_files s xs h.1)

entities_begin : AllNamed (λ x. EntityOk true beginning x.is) file_scope.names
unfolding file_scope aliases
entities_begin = both_named (λ x. EntityOk true beginning x.is) (map alias_name aliases) (names_of_services 0 services)
    (tt, (tt, (tt, (tt, (tt, (tt, (tt, (tt, (tt, (tt, (tt, (tt, (tt, tt)))))))))))))
    (services_named (λ x. EntityOk true beginning x.is) (λ n k t. tt) 0 services)

files_begin : AllNamed (λ x. FileEntity beginning x.name x.is) file_scope.names
unfolding file_scope aliases
files_begin = both_named (λ x. FileEntity beginning x.name x.is) (map alias_name aliases) (names_of_services 0 services)
    (tt, (tt, (tt, (tt, (tt, (tt, (tt, (tt, (tt, (tt, (tt, (tt, (tt, tt)))))))))))))
    (services_named (λ x. FileEntity beginning x.name x.is) (λ n k t. tt) 0 services)

pub outside_beginning : Outside beginning
outside_beginning = record {
  inv = record {
    tags = λ k t e. absurd (none-some t e);
    names = (as_names (EntityOk true beginning) file_scope.names entities_begin, tt);
    statics =
        λ k g e. absurd (none-some g e);
    routines = λ k f e. absurd (none-some f e);
    locals =
        λ k v e. absurd (none-some v e);
  };
  strict = record {
    files = as_files beginning file_scope.names files_begin;
    bodies = λ k f b e. absurd (none-some f e);
    begins = λ k g i e. absurd (none-some g e);
  };
  locals = refl;
  one = refl;
}

-- ---- the end

-- nothing is used that is not defined, and each object is complete
pub record AtEnd (s : State) : Type 0 where
  pub outside : Outside s
  pub statics : (k : ℕ) (g : StaticState) → slice_get s.statics k ≡ Some g →
      Complete s.tags g.of × (IsUsed g.used → g.defined ≡ true)
  pub routines : (k : ℕ) (f : RoutineState) → slice_get s.routines k ≡ Some f → IsUsed f.used → is_there f.body ≡ true
  pub reached : (k : ℕ) (z : ℤ) → IsWaiting s.pending k z → reaches (aim_length s (To_global k)) z ≡ true
  pub main : has_main s.routines ≡ true

empty_left : {A : Type 0} (xs ys : List A) → xs ++ ys ≡ [] → (xs ≡ []) × (ys ≡ [])
empty_left [] ys e = (refl, e)
empty_left (x ∷ xs) ys e = absurd cc

none_flat : {A B : Type 0} (f : A → List B) (xs : List A) → flat_map f xs ≡ [] → (k : ℕ) (x : A) →
    slice_get xs k ≡ Some x → f x ≡ []
none_flat f [] e k x q = absurd cc
none_flat f (y ∷ ys) e zero x q = ap f (sym (same_Some y x q)) ∙ (empty_left (f y) (flat_map f ys) e).0
none_flat f (y ∷ ys) e (suc k) x q = none_flat f ys (empty_left (f y) (flat_map f ys) e).1 k x q

used_defined : (b : Bool) (u : Option Rattle.ck_base.specs.declared.positions.Pos.Pos) → undefined_use b u ≡ [] →
    IsUsed u → b ≡ true
used_defined true u e h = refl
used_defined false None e h = absurd (none-some h.0 h.1)
used_defined false (Some p) e h = absurd cc

complete_end : (s : State) (g : StaticState) (b : Bool) (f : Fault) → is_complete s g.of ≡ b →
    (if b then [] else f ∷ []) ≡ [] → Complete s.tags g.of
complete_end s g true f i e = complete_is s g.of i
complete_end s g false f i e = absurd cc

earliest_none : (fs : List Fault) → earliest fs ≡ None → fs ≡ []
earliest_none [] e = refl
earliest_none (f ∷ fs) e = absurd (not_none f (earliest fs) e)
  where
    not_none : (f : Fault) (o : Option Fault) → earlier f o ≡ None → ⊥
    not_none f None e = none-some f (sym e)
    not_none f (Some g) e = branch (stands_before g.place f.place) e
      where
        branch : (b : Bool) → (if b then Some g else Some f) ≡ None → ⊥
        branch true e = none-some g (sym e)
        branch false e = none-some f (sym e)

program_or : Program → Result Program Fault → Program
program_or d (Ok r) = r
program_or d (Err f) = d

ended_at : (names : Names) (o : Option Fault) (s : State) (q : Program) → ended names o s ≡ Ok q →
    (o ≡ None) × (has_main s.routines ≡ true) × (passed_program names (program_of s) ≡ q)
unfolding program_or
ended_at names None s q e = with_main (has_main s.routines) refl e
  where
    with_main : (b : Bool) → has_main s.routines ≡ b →
        (if b then Ok (passed_program names (program_of s))
        else Err (Rattle.c_tree.specs.Programs.fault 135 Rattle.c_tree.specs.Programs.file_begins)) ≡ Ok q →
        (◌≡◌ {A = Option Fault} None None) × (has_main s.routines ≡ true) × (passed_program names (program_of s) ≡ q)
    with_main true i e = (refl, i, ap (program_or q) e)
    with_main false i e = absurd cc
ended_at names (Some f) s q e = absurd cc

-- what waits is reached
pending_reached : (s : State) (ps : List Pending) → flat_map (pending_faults s) ps ≡ [] → (k : ℕ) (z : ℤ) →
    IsWaiting ps k z → reaches (aim_length s (To_global k)) z ≡ true
pending_reached s [] e k z h = absurd h
pending_reached s (p ∷ ps) e k z h =
    let w = empty_left (pending_faults s p) (flat_map (pending_faults s) ps) e in
    let r = no_fault (reaches (aim_length s (To_global p.static)) p.least)
    (Rattle.c_tree.specs.Programs.fault 134 p.place) w.0 in
    ⊎_elim (λ a. subst (λ k. reaches (aim_length s (To_global k)) z ≡ true) a.0
    (subst (λ z. reaches (aim_length s (To_global p.static)) z ≡ true) a.1 r)) (pending_reached s ps w.1 k z) h
  where
    no_fault : (b : Bool) (f : Fault) → (if b then [] else f ∷ []) ≡ [] → b ≡ true
    no_fault true f e = refl
    no_fault false f e = absurd cc

at_end : (names : Names) (s : State) (q : Program) → Outside s → ended names (earliest (last_faults s)) s ≡ Ok q →
    AtEnd s × (passed_program names (program_of s) ≡ q)
at_end names s q o e =
    let d = ended_at names (earliest (last_faults s)) s q e in
    let all = earliest_none (last_faults s) d.0 in
    let a = empty_left (flat_map (static_faults s) s.statics ++ flat_map routine_faults s.routines)
    (flat_map (pending_faults s) s.pending) all in
    let b = empty_left (flat_map (static_faults s) s.statics) (flat_map routine_faults s.routines) a.0 in (
      record {
        outside = o;
        statics = λ k g i. let f = none_flat (static_faults s) s.statics b.0 k g i in
            let h = empty_left _ (undefined_use g.defined g.used) f in
            (complete_end s g (is_complete s g.of) _ refl h.0, used_defined g.defined g.used h.1);
        routines = λ k f i u. used_defined (is_there f.body) f.used (none_flat routine_faults s.routines b.1 k f i) u;
        reached = pending_reached s s.pending a.1;
        main = d.1;
      },
      d.2,
    )

finished_at : (names : Names) (r : Result (Unit {0} × State) Fault) (q : Program) → finished names r ≡ Ok q →
    (y : Unit {0} × State) × (r ≡ Ok y) × (ended names (earliest (last_faults y.1)) y.1 ≡ Ok q)
finished_at names (Ok y) q e = (y, refl, e)
finished_at names (Err f) q e = absurd cc

pub typed_end : (x : Syn) (q : Program) → IsFit x → typing x ≡ Ok q →
    (names : Names) × (s : State) × AtEnd s × (passed_program names (program_of s) ≡ q)
unfolding typing IsFit AreFit
typed_end (node k t xs) q f e =
    let names = call_name (calls_in (node k t xs)) in
    let y = finished_at names (all_externals (readings xs) beginning) q e in
    let r = at_end names y.0.1 q (externals_ok xs (readings xs) beginning (all_good xs f.1) outside_beginning y.0 y.1)
    y.2 in
    (names, y.0.1, r.0, r.1)
