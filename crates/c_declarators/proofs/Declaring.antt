-- Steps that change the names and tags in force and what is known of tags, and nothing else.
use Rattle.std.proofs.Common.{◌≡◌, ℕ, zero, suc, ◌≤◌, Bool, true, false, List, [], ◌∷◌, ◌++◌, length, map, Some}
use Rattle.std.proofs.Common.{None, Result, Ok, Err, refl, sym, ap, subst, ◌∙◌, ⊎_elim, arith, length-append}
use Rattle.std.specs.Prelude.{slice_get}
use Rattle.std.proofs.lemmas.Option.{none-some}
use Rattle.ck_base.specs.declared.positions.Pos.{Pos}
use Rattle.c_tree.specs.declared.syntax.RecordKind.{RecordKind}
use Rattle.c_tree.specs.Declarators.{kind_at, has_kind, same_record}
use Rattle.c_tree.specs.Scopes as meant
use Rattle.c_tree.specs.Scopes.{State, TagState, Part, Doing, Fault, give, refuse, need, look, change, continued}
use Rattle.c_tree.specs.Scopes.{changed_at, ◌>>=◌, ◌>>◌}
use Rattle.c_types.proofs.Records.{push_cases}
use Rattle.c_types.proofs.Steps.{same_result}
use Rattle.c_types.specs.Stands.{text_at}
use Rattle.c_elaborator.specs.Work.{MembersAreSpelled}
use Rattle.c_elaborator.proofs.Extending.{each_changed, changed_length}
use Rattle.c_elaborator.proofs.Using.{changed_same}
use Rattle.c_elaborator.specs.Answers.{Still, unused_static, unused_routine, untaken_local}

-- ---- two states

-- all else is the same, no tag was lost and none is of another kind, and members are named as the file has them
pub record Declares (file : List ℕ) (s t : State) : Type 0 where
  pub is : t ≡ record s { scopes = t.scopes; tags = t.tags }
  pub tags : length s.tags ≤ length t.tags
  pub kinds : (n : ℕ) (k : RecordKind) → kind_at s n k ≡ true → kind_at t n k ≡ true
  pub members : MembersAreSpelled file s → MembersAreSpelled file t

pub declares_same : (file : List ℕ) (s : State) → Declares file s s
declares_same file s = record { is = refl; tags = omega arith; kinds = λ n k h. h; members = λ h. h }

pub declares_then : (file : List ℕ) (s t u : State) → Declares file s t → Declares file t u → Declares file s u
declares_then file s t u a b = record {
  is = b.is ∙ ap (λ (x : State). record x { scopes = u.scopes; tags = u.tags }) a.is;
  tags = omega (arith, a.tags, b.tags);
  kinds = λ n k h. b.kinds n k (a.kinds n k h);
  members = λ h. b.members (a.members h);
}

-- other scopes in force
pub declares_scopes : (file : List ℕ) (s : State) (cs : List meant.Scope) → Declares file s (record s { scopes = cs })
declares_scopes file s cs = record { is = refl; tags = omega arith; kinds = λ n k h. h; members = λ h. h }

-- it is known as much of objects, functions and locals
pub declares_still : (file : List ℕ) (s t : State) → Declares file s t → Still s t
declares_still file s t d = record {
  statics = ap (λ (x : State). map unused_static x.statics) d.is;
  routines = ap (λ (x : State). map unused_routine x.routines) d.is;
  locals = ap (λ (x : State). map untaken_local x.locals) d.is;
  pending = ap (λ (x : State). x.pending) d.is;
  tags = d.tags;
  kinds = d.kinds;
}

-- ---- tags

-- a tag's members are named as the file has them
abbrev pub IsSpelled : List ℕ → TagState → Type 0
IsSpelled file t = (ms : List Part) → t.members ≡ Some ms → (k : ℕ) (m : Part) → slice_get ms k ≡ Some m →
    m.name.text ≡ text_at file m.name.span

abbrev kind_of : TagState → RecordKind
kind_of t = t.kind

-- a list that has the kinds of another one
kinds_alike : (xs ys : List TagState) (n : ℕ) (k : RecordKind) → map kind_of ys ≡ map kind_of xs →
    has_kind (slice_get ys n) k ≡ has_kind (slice_get xs n) k
kinds_alike [] [] n k e = refl
kinds_alike [] (y ∷ ys) n k e = absurd cc
kinds_alike (x ∷ xs) [] n k e = absurd cc
kinds_alike (x ∷ xs) (y ∷ ys) zero k e = ap (λ j. same_record j k) (let a : y.kind ≡ x.kind = cc in a)
kinds_alike (x ∷ xs) (y ∷ ys) (suc n) k e =
    kinds_alike xs ys n k (let a : map kind_of ys ≡ map kind_of xs = cc in a)

kinds_changed : (f : TagState → TagState) (xs : List TagState) (n : ℕ) → ((t : TagState) → (f t).kind ≡ t.kind) →
    map kind_of (changed_at f xs n) ≡ map kind_of xs
kinds_changed f xs n h = changed_same kind_of f xs n h

-- one more
kinds_more : (xs : List TagState) (x : TagState) (n : ℕ) (k : RecordKind) → has_kind (slice_get xs n) k ≡ true →
    has_kind (slice_get (xs ++ x ∷ []) n) k ≡ true
kinds_more [] x zero k h = absurd cc
kinds_more [] x (suc n) k h = absurd cc
kinds_more (y ∷ ys) x zero k h = h
kinds_more (y ∷ ys) x (suc n) k h = kinds_more ys x n k h

-- one tag is changed
pub declares_changed : (file : List ℕ) (s : State) (f : TagState → TagState) (n : ℕ) →
    ((t : TagState) → (f t).kind ≡ t.kind) → ((t : TagState) → IsSpelled file t → IsSpelled file (f t)) →
    Declares file s (record s { tags = changed_at f s.tags n })
declares_changed file s f n kinds g = record {
  is = refl;
  tags = let e = changed_length f s.tags n in omega arith;
  kinds = λ j k h. kinds_alike s.tags (changed_at f s.tags n) j k (kinds_changed f s.tags n kinds) ∙ h;
  members = λ h. λ j t ms e. each_changed (λ i x. IsSpelled file x) f s.tags n (λ i x q ms. h i x ms q) g j t e ms;
}

-- one more tag, which has no members yet
pub declares_added : (file : List ℕ) (s : State) (x : TagState) → x.members ≡ None →
    Declares file s (record s { tags = s.tags ++ x ∷ [] })
declares_added file s x n = record {
  is = refl;
  tags = omega (arith, length-append s.tags (x ∷ []));
  kinds = λ j k. kinds_more s.tags x j k;
  members = λ h. λ j t ms e q. ⊎_elim (λ o. h j t ms o q)
      (λ o. absurd (none-some ms (sym n ∙ ap (λ (y : TagState). y.members) o.1 ∙ q))) (push_cases s.tags x t j e);
}

-- ---- steps

-- where the step is done, it only declares
abbrev pub IsDeclaring : {A : Type 0} → List ℕ → Doing A → Type 0
IsDeclaring {A} file d = (s t : State) (a : A) → d s ≡ Ok (a, t) → Declares file s t

-- to a state that is known
declares_to : {A : Type 0} (file : List ℕ) (s t u : State) (a b : A) (r : Result (A × State) Fault) →
    Declares file s u → r ≡ Ok (b, u) → r ≡ Ok (a, t) → Declares file s t
declares_to {A} file s t u a b r d e f =
    subst (λ x. Declares file s x) (ap (λ (p : A × State). p.1) (same_result (b, u) (a, t) r e f)) d

pub giving_declares : {A : Type 0} (file : List ℕ) (a : A) → IsDeclaring file (give a)
giving_declares file a s t b e = declares_to file s t s b a (give a s) (declares_same file s) refl e

pub refusing_declares : {A : Type 0} (file : List ℕ) (code : ℕ) (place : Pos) →
    IsDeclaring {A = A} file (refuse code place)
refusing_declares file code place s t b e = absurd cc

pub needing_declares : (file : List ℕ) (b : Bool) (code : ℕ) (place : Pos) → IsDeclaring file (need b code place)
needing_declares file true code place = giving_declares file tt
needing_declares file false code place = refusing_declares file code place

pub changing_declares : (file : List ℕ) (f : State → State) → ((s : State) → Declares file s (f s)) →
    IsDeclaring file (change f)
changing_declares file f h s t b e = declares_to file s t (f s) b tt (change f s) (h s) refl e

after : {A B : Type 0} (file : List ℕ) (s t : State) (r : Result (A × State) Fault) (f : A → Doing B) (b : B) →
    ((u : State) (a : A) → r ≡ Ok (a, u) → Declares file s u) → ((a : A) → IsDeclaring file (f a)) →
    continued r f ≡ Ok (b, t) → Declares file s t
after file s t (Ok x) f b h k e = declares_then file s x.1 t (h x.1 x.0 refl) (k x.0 x.1 t b e)
after file s t (Err z) f b h k e = absurd cc

pub then_declares : {A B : Type 0} (file : List ℕ) (d : Doing A) (f : A → Doing B) → IsDeclaring file d →
    ((a : A) → IsDeclaring file (f a)) → IsDeclaring file (d >>= f)
then_declares file d f h k s t b e = after file s t (d s) f b (h s) k e

pub looking_declares : {B : Type 0} (file : List ℕ) (f : State → Doing B) → ((s : State) → IsDeclaring file (f s)) →
    IsDeclaring file (look >>= f)
looking_declares file f k s t b e = k s s t b e
