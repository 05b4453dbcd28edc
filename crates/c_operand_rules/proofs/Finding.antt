-- Members that are found by their names.
use Rattle.std.proofs.Common.{◌≡◌, ℕ, suc, ◌+◌, Bool, true, false, List, [], ◌∷◌, map, Option, Some, None, Result}
use Rattle.std.proofs.Common.{Ok, Err, refl, sym, ap, ◌∙◌, arith}
use Rattle.std.specs.Prelude.{option_map, slice_get, bytes_eq, if◌then◌else◌}
use Rattle.ck_base.specs.declared.positions.Pos.{Pos}
use Rattle.ck_base.specs.declared.positions.Span.{Span}
use Rattle.ck_base.specs.declared.refusal.Refusal.{Refusal}
use Rattle.ck_base.specs.declared.refusal.Refusal.TheVariants.{Code, NoMemory}
use Rattle.c_tree.specs.declared.typed.Member.{Member}
use Rattle.c_tree.specs.declared.typed.Typed.{Typed}
use Rattle.c_tree.specs.Views.{types_of, type_at}
use Rattle.c_types.proofs.Looking.{type_is, seen_at}
use Rattle.c_tree.specs.Types.{Ty, Tagged, bare, is_tagged}
use Rattle.c_tree.specs.Scopes.{Part, TagState, State, Doing, refuse, some_or, ◌>>=◌}
use Rattle.c_tree.specs.Expressions.{member_from, members_in, parts_of}
use Rattle.c_types.specs.Stands.{named, text_at, part_seen, member_kept, first_named, first_part}
use Rattle.c_types.specs.Members as theirs
use Rattle.c_expressions.specs.declared.nodes.Nodes.{Nodes}
use Rattle.c_operand_rules.specs.declared.members.Found.{Found}
use Rattle.c_operand_rules.specs.declared.members.Outcome.TheVariants.{Incomplete, Missing, At}
use Rattle.c_operand_rules.specs.Members.{MembersAreSpelled, found_in, sought, IsSought, told, finding, Finds}

-- members are named as the file has them
abbrev pub AreNamed : List ℕ → List Part → Type 0
AreNamed file ps = (k : ℕ) (m : Part) → slice_get ps k ≡ Some m → m.name.text ≡ text_at file m.name.span

-- the number of the first place of a name is that of the first member
first_is : (file : List ℕ) (k : ℕ) (ps : List Part) (name : List ℕ) → AreNamed file ps →
    first_named file k (map (λ (m : Part). m.name.span) ps) name
    ≡ option_map (λ (m : ℕ × Ty). m.0) (member_from k ps name)
first_is file k [] name h = refl
first_is file k (p ∷ ps) name h =
    rw (← h 0 p refl) (by_name (bytes_eq p.name.text name) (first_is file (k + 1) ps name (λ j x g. h (suc j) x g)))
  where
    by_name : (b : Bool) → first_named file (k + 1) (map (λ (m : Part). m.name.span) ps) name
        ≡ option_map (λ (m : ℕ × Ty). m.0) (member_from (k + 1) ps name) →
        (if b then Some k else first_named file (k + 1) (map (λ (m : Part). m.name.span) ps) name)
        ≡ option_map (λ (m : ℕ × Ty). m.0) (if b then Some (k, p.of) else member_from (k + 1) ps name)
    by_name true e = refl
    by_name false e = e

-- a member that is found stands at its number
member_there : (k : ℕ) (ps : List Part) (name : List ℕ) (m : ℕ × Ty) → member_from k ps name ≡ Some m →
    (i : ℕ) × (p : Part) × (m.0 ≡ k + i) × (slice_get ps i ≡ Some p) × (p.of ≡ m.1)
member_there k [] name m e = absurd cc
member_there k (p ∷ ps) name m e = by_name (λ f. member_there (k + 1) ps name m f) (bytes_eq p.name.text name) e
  where
    by_name : (member_from (k + 1) ps name ≡ Some m →
        (i : ℕ) × (q : Part) × (m.0 ≡ k + 1 + i) × (slice_get ps i ≡ Some q) × (q.of ≡ m.1)) → (b : Bool) →
        (if b then Some (k, p.of) else member_from (k + 1) ps name) ≡ Some m →
        (i : ℕ) × (q : Part) × (m.0 ≡ k + i) × (slice_get (p ∷ ps) i ≡ Some q) × (q.of ≡ m.1)
    by_name others true f =
        let g : (k, p.of) ≡ m = cc in
        (0, p, omega (arith, ap (λ (x : ℕ × Ty). x.0) (sym g)), refl, ap (λ (x : ℕ × Ty). x.1) g)
    by_name others false f =
        let r = others f in
        (suc r.0, r.1, omega (arith, r.2), r.3, r.4)

-- ---- of a struct or union

same_parts : (o : Option TagState) → theirs.parts_of o ≡ parts_of o
same_parts None = refl
same_parts (Some t) = refl

none_there : (ts : List Ty) (name : List ℕ) (o : Option (List Part)) → None ≡ option_map (map part_seen) o →
    IsSought ts Incomplete (option_map (λ ms. member_from 0 ms name) o)
none_there ts name None e = tt
none_there ts name (Some ps) e = absurd cc

outcome_is : (ts : List Ty) (ms : List Member) (ps : List Part) (name : List ℕ) (r : Option (ℕ × Ty)) →
    member_from 0 ps name ≡ r → map (member_kept ts) ms ≡ map part_seen ps →
    IsSought ts (found_in ms (option_map (λ (m : ℕ × Ty). m.0) r)) (Some r)
outcome_is ts ms ps name None e h = tt
outcome_is ts ms ps name (Some m) e h =
    let t = member_there 0 ps name m e in
    let n : m.0 ≡ t.0 = omega (arith, t.2) in
    let x = seen_at part_seen (member_kept ts) ps ms t.0 t.1 (sym h) t.3 in
    let same : named ts x.0.of ≡ Some t.1.of = sym (ap (λ (y : Span × Option Ty). y.1) x.2) in
    rw (n, x.1) (refl, same ∙ ap (λ y. Some y) t.4)

some_there : (file : List ℕ) (ts : List Ty) (name : List ℕ) (ms : List Member) (o : Option (List Part)) →
    Some (map (member_kept ts) ms) ≡ option_map (map part_seen) o →
    ((ps : List Part) → o ≡ Some ps → AreNamed file ps) →
    IsSought ts (found_in ms (first_part file o name)) (option_map (λ ps. member_from 0 ps name) o)
some_there file ts name ms None e h = absurd cc
some_there file ts name ms (Some ps) e h =
    let same : map (member_kept ts) ms ≡ map part_seen ps = cc in
    rw (first_is file 0 ps name (h ps refl)) (outcome_is ts ms ps name (member_from 0 ps name) refl same)

spelled_parts : (file : List ℕ) (s : State) (n : ℕ) (o : Option TagState) → slice_get s.tags n ≡ o →
    MembersAreSpelled file s → (ps : List Part) → parts_of o ≡ Some ps → AreNamed file ps
spelled_parts file s n None e h ps q = absurd cc
spelled_parts file s n (Some t) e h ps q = h n t ps e q

pub incomplete_is : (ts : List Ty) (s : State) (n : ℕ) (name : List ℕ) →
    None ≡ option_map (map part_seen) (theirs.parts_of (slice_get s.tags n)) → IsSought ts Incomplete (sought s n name)
incomplete_is ts s n name e =
    none_there ts name (parts_of (slice_get s.tags n))
    (e ∙ ap (option_map (map part_seen)) (same_parts (slice_get s.tags n)))

pub complete_is : (file : List ℕ) (ts : List Ty) (s : State) (n : ℕ) (name : List ℕ) (ms : List Member)
    (k : Option ℕ) → Some (map (member_kept ts) ms)
    ≡ option_map (map part_seen) (theirs.parts_of (slice_get s.tags n)) → MembersAreSpelled file s →
    k ≡ first_part file (theirs.parts_of (slice_get s.tags n)) name → IsSought ts (found_in ms k) (sought s n name)
complete_is file ts s n name ms k e h g =
    let same = same_parts (slice_get s.tags n) in
    rw (g, same)
    (some_there file ts name ms (parts_of (slice_get s.tags n)) (e ∙ ap (option_map (map part_seen)) same)
    (spelled_parts file s n (slice_get s.tags n) refl h))

-- ---- what is answered

-- what is found of a struct or union is the member of the name, or the rule that fails
pub told_is : (t : Ty) (name : List ℕ) (first : Pos) (n : ℕ) (s : State) → bare t ≡ Tagged n →
    finding t name first s ≡ told first (sought s n name) s
told_is t name first n s e =
    ap (λ (u : Ty). (members_in s u first >>= λ ms. some_or (member_from 0 ms name) 133 first) s) e
    ∙ by_parts (parts_of (slice_get s.tags n))
  where
    by_member : (o : Option (ℕ × Ty)) → some_or o 133 first s ≡ told first (Some o) s
    by_member None = refl
    by_member (Some m) = refl

    by_parts : (o : Option (List Part)) →
        (some_or o 132 first >>= λ ms. some_or (member_from 0 ms name) 133 first) s
        ≡ told first (option_map (λ ms. member_from 0 ms name) o) s
    by_parts None = refl
    by_parts (Some ms) = by_member (member_from 0 ms name)

-- what is no struct or union has no members
untagged : (t : Ty) (s : State) (first : Pos) → is_tagged t ≡ false → members_in s t first ≡ refuse 133 first
untagged (Tagged n) s first e = absurd cc
untagged t s first e = refl

pub none_found : (t u : Ty) (name : List ℕ) (first : Pos) (s : State) → u ≡ bare t → is_tagged u ≡ false →
    finding t name first s ≡ Err (record { code = 133; place = first })
none_found t u name first s e h =
    ap (λ (d : Doing (List Part)). (d >>= λ ms. some_or (member_from 0 ms name) 133 first) s)
    (ap (λ (x : Ty). members_in s x first) (sym e) ∙ untagged u s first h)

-- steps that give the same find the same
pub finds_at : (n : Nodes) (d e : Doing (ℕ × Ty)) (s : State) (r : Result Found Refusal) → d s ≡ e s →
    Finds n e s r → Finds n d s r
finds_at n d e s (Ok f) q h = q ∙ h
finds_at n d e s (Err (Code code place)) q h = q ∙ h
finds_at n d e s (Err NoMemory) q h = absurd h

pub sought_none : (ts : List Ty) (o : Option (Option (ℕ × Ty))) → IsSought ts Incomplete o → o ≡ None
sought_none ts None h = refl
sought_none ts (Some m) h = absurd h

pub sought_missing : (ts : List Ty) (o : Option (Option (ℕ × Ty))) → IsSought ts Missing o → o ≡ Some None
sought_missing ts None h = absurd h
sought_missing ts (Some None) h = refl
sought_missing ts (Some (Some m)) h = absurd h

pub sought_at : (p : Typed) (f : Found) (o : Option (Option (ℕ × Ty))) → IsSought (types_of p.types) (At f) o →
    o ≡ Some (Some (f.number, type_at (types_of p.types) f.of))
sought_at p f None h = absurd h
sought_at p f (Some None) h = absurd h
sought_at p f (Some (Some m)) h =
    ap (λ (k : ℕ). Some (Some (k, m.1))) (sym h.0)
    ∙ ap (λ (t : Ty). Some (Some (f.number, t))) (sym (type_is p f.of m.1 h.1))
