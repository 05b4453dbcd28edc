-- Tags and scopes of parameters, step by step.
use Rattle.std.proofs.Common.{◌≡◌, ℕ, zero, suc, ◌<◌, Bool, true, false, List, [], ◌∷◌, ◌++◌, length, map, Option, Some}
use Rattle.std.proofs.Common.{None, Result, Ok, Err, refl, sym, ap, subst, ◌∙◌, arith}
use Rattle.std.specs.Prelude.{ℤ, pos, ◌+ℤ◌, not, nat_le, option_map, slice_get}
use Rattle.std.proofs.lemmas.Option.{slice_get-get_or}
use Rattle.ck_base.specs.declared.positions.Pos.{Pos}
use Rattle.ck_base.specs.declared.refusal.Refusal.{Refusal}
use Rattle.ck_base.specs.declared.refusal.Refusal.TheVariants.{Code, NoMemory}
use Rattle.ck_base.specs.declared.tokens.TokenKind.TheVariants.{Word}
use Rattle.ck_base.specs.Tokens.{Lexeme}
use Rattle.c_tree.specs.declared.syntax.RecordKind.{RecordKind}
use Rattle.c_tree.specs.declared.syntax.RecordKind.TheVariants as records
use Rattle.c_tree.specs.declared.typed.Member.{Member}
use Rattle.c_tree.specs.declared.typed.Typed.{Typed}
use Rattle.c_tree.specs.Layout.{size_limit}
use Rattle.c_tree.specs.Types.{Ty, Void}
use Rattle.c_tree.specs.Views.{types_of}
use Rattle.c_tree.specs.Scopes as meant
use Rattle.c_tree.specs.Scopes.{State, TagState, Part, Doing, Fault, Tagging, Recorded, Enumerated, Enumerator, give}
use Rattle.c_tree.specs.Scopes.{need, change, continued, leave, innermost, changed_at, find_in}
use Rattle.c_tree.specs.Scopes.{or_else, bind_name, bind_tag, ◌>>◌}
use Rattle.c_tree.specs.Readings as meant_parts
use Rattle.c_tree.specs.Declarators.{is_new, in_int, enumerate, new_tag, declare_tag, as_record, named_tag, kind_at}
use Rattle.c_tree.specs.Declarators.{has_kind, same_record, is_begun, begin_tag, complete_tag, completed}
use Rattle.c_tree.specs.Declarators.{record_extent, bind_local}
use Rattle.c_tree.specs.Declarators.{bind_parameter}
use Rattle.c_tree.specs.Declarators as meant_types
use Rattle.c_tree.specs.Scopes.{extent_size}
use Rattle.c_types.proofs.Steps.{same_result}
use Rattle.c_interner.proofs.Growing.{length-types_of}
use Rattle.c_types.specs.declared.entries.Decl.{Decl}
use Rattle.c_types.specs.declared.entries.TagKind.{TagKind}
use Rattle.c_types.specs.declared.entries.TagKind.TheVariants.{Enum}
use Rattle.c_types.specs.declared.scopes.Scope.{Scope}
use Rattle.c_types.specs.declared.scopes.Scopes.{Scopes}
use Rattle.c_types.specs.Calls.{Given, HasParts, Completes}
use Rattle.c_types.specs.Declares.{name_of, declares_tag}
use Rattle.c_types.specs.Looks.{tag_kind_of}
use Rattle.c_types.specs.Naming.{IsTagOf}
use Rattle.c_types.specs.Stands.{Stands, ShowsScope, named, part_seen, member_kept, text_at, name_in, tag_in}
use Rattle.c_types.specs.Stands.{entity_kept, tagging_of}
use Rattle.c_expressions.specs.declared.nodes.Nodes.{Nodes}
use Rattle.c_expressions.specs.Nodes.{IsWhole, type_in, type_count}
use Rattle.c_elaborator.specs.declared.work.Work.{Work}
use Rattle.c_elaborator.specs.declared.work.Name.{Name}
use Rattle.c_elaborator.specs.Work.{Shows}
use Rattle.c_elaborator.specs.Answers.{quietly, NothingThere, IsNothing}
use Rattle.c_elaborator.specs.Answers as work
use Rattle.c_elaborator.specs.Shown.{AnswersFor}
use Rattle.c_elaborator.specs.Parts.{token_of}
use Rattle.c_declarators.specs.Calling.{IsDeclared}
use Rattle.c_declarators.specs.declared.parts.Param.{Param}
use Rattle.c_declarators.specs.Parts.{AreMembers, MembersThere, param_in}
use Rattle.c_declarators.specs.Steps.{tag_there, new_enumeration_of, closing}
use Rattle.c_declarators.proofs.Declaring.{Declares, declares_same, declares_scopes, declares_changed, declares_added}
use Rattle.c_declarators.proofs.Declaring.{IsDeclaring, giving_declares, refusing_declares, needing_declares}
use Rattle.c_declarators.proofs.Declaring.{changing_declares, then_declares, looking_declares}
use Rattle.c_declarators.proofs.Lifting.{given_declared, whole_declared, quiet_declared}

-- ---- steps that only declare

pub new_tag_declares : (file : List ℕ) (k : RecordKind) → IsDeclaring file (new_tag k)
new_tag_declares file k =
    let x : TagState = record { kind = k; begun = false; members = None; extent = None } in
    let add : State → State = λ (s : State). record s { tags = s.tags ++ x ∷ [] } in
    looking_declares file (λ s. change add >> give (length s.tags)) (λ s.
    then_declares file (change add) (λ y. give (length s.tags))
    (changing_declares file add (λ u. declares_added file u x refl)) (λ y. giving_declares file (length s.tags)))

pub declare_tag_declares : (file : List ℕ) (k : RecordKind) (t : Lexeme) → IsDeclaring file (declare_tag k t)
declare_tag_declares file k t =
    then_declares file (new_tag k) (λ n. change (bind_tag t.text (Recorded n)) >> give n) (new_tag_declares file k)
    (λ n.
    then_declares file (change (bind_tag t.text (Recorded n))) (λ y. give n)
    (changing_declares file (bind_tag t.text (Recorded n))
    (λ u. declares_scopes file u (bind_tag t.text (Recorded n) u).scopes)) (λ y. giving_declares file n))

pub begin_tag_declares : (file : List ℕ) (n : ℕ) (p : Pos) → IsDeclaring file (begin_tag n p)
begin_tag_declares file n p =
    let open_it : TagState → TagState = λ (t : TagState). record t { begun = true } in
    let now : State → State = λ (s : State). record s { tags = changed_at open_it s.tags n } in
    looking_declares file (λ s. need (not (is_begun (slice_get s.tags n))) 131 p >> change now) (λ s.
    then_declares file (need (not (is_begun (slice_get s.tags n))) 131 p) (λ y. change now)
    (needing_declares file (not (is_begun (slice_get s.tags n))) 131 p) (λ y.
    changing_declares file now (λ u. declares_changed file u open_it n (λ t. refl) (λ t h. h))))

pub complete_tag_declares : (file : List ℕ) (k : RecordKind) (n : ℕ) (ms : List Part) (p : Pos) →
    ((j : ℕ) (m : Part) → slice_get ms j ≡ Some m → m.name.text ≡ text_at file m.name.span) →
    IsDeclaring file (complete_tag k n ms p)
complete_tag_declares file k n ms p h =
    let now : State → State = λ (s : State). record s { tags = changed_at (completed s.tags k ms) s.tags n } in
    let Spelled : List Part → Type 0 =
    λ ns. (j : ℕ) (m : Part) → slice_get ns j ≡ Some m → m.name.text ≡ text_at file m.name.span in
    let all : (ns : List Part) → Some ms ≡ Some ns → Spelled ns =
    λ ns e j m g. let i : ns ≡ ms = cc in h j m (ap (λ xs. slice_get xs j) (sym i) ∙ g) in
    looking_declares file (λ s. need (nat_le (extent_size (record_extent s.tags k ms)) size_limit) 140 p >> change now)
    (λ s.
    then_declares file (need (nat_le (extent_size (record_extent s.tags k ms)) size_limit) 140 p) (λ y. change now)
    (needing_declares file (nat_le (extent_size (record_extent s.tags k ms)) size_limit) 140 p) (λ y.
    changing_declares file now (λ u. declares_changed file u (completed u.tags k ms) n (λ t. refl) (λ t g. all))))

new_enumeration_declares : (file : List ℕ) (t : Lexeme) (o : Option Tagging) →
    IsDeclaring file (meant_types.new_enumeration t o)
new_enumeration_declares file t None =
    changing_declares file (bind_tag t.text Enumerated)
    (λ u. declares_scopes file u (bind_tag t.text Enumerated u).scopes)
new_enumeration_declares file t (Some Enumerated) = refusing_declares file 131 t.pos
new_enumeration_declares file t (Some (Recorded n)) = refusing_declares file 133 t.pos

pub enumeration_declares : (file : List ℕ) (t : Lexeme) → IsDeclaring file (new_enumeration_of t)
enumeration_declares file t =
    looking_declares file (λ s. meant_types.new_enumeration t (find_in (innermost s.scopes).tags t.text))
    (λ s. new_enumeration_declares file t (find_in (innermost s.scopes).tags t.text))

pub enumerate_declares : (file : List ℕ) (t : Lexeme) (z : ℤ) (p : Pos) → IsDeclaring file (enumerate t z p)
enumerate_declares file t z p =
    let bound : Doing Unit = change (bind_name t.text (Enumerator z)) in
    let rest : Doing ℤ = bound >> give (z +ℤ pos 1) in
    looking_declares file (λ s. need (is_new s t.text) 131 t.pos >> need (in_int z) 134 p >> bound >> give (z +ℤ pos 1))
    (λ s.
    then_declares file (need (is_new s t.text) 131 t.pos >> need (in_int z) 134 p >> bound) (λ y. give (z +ℤ pos 1))
    (then_declares file (need (is_new s t.text) 131 t.pos >> need (in_int z) 134 p) (λ y. bound)
    (then_declares file (need (is_new s t.text) 131 t.pos) (λ y. need (in_int z) 134 p)
    (needing_declares file (is_new s t.text) 131 t.pos) (λ y. needing_declares file (in_int z) 134 p))
    (λ y. changing_declares file (bind_name t.text (Enumerator z))
    (λ u. declares_scopes file u (bind_name t.text (Enumerator z) u).scopes)))
    (λ y. giving_declares file (z +ℤ pos 1)))

pub leave_declares : (file : List ℕ) → IsDeclaring file leave
leave_declares file = changing_declares file (λ (s : State). record s { scopes = meant.outer_scopes s.scopes })
    (λ u. declares_scopes file u (meant.outer_scopes u.scopes))

pub closing_declares : (file : List ℕ) → IsDeclaring file closing
closing_declares file =
    looking_declares file (λ s. leave >> give (innermost s.scopes))
    (λ s. then_declares file leave (λ y. give (innermost s.scopes)) (leave_declares file)
    (λ y. giving_declares file (innermost s.scopes)))

bind_local_declares : (file : List ℕ) (k : ℕ) (of : Ty) (o : Option Lexeme) (s : State) →
    Declares file s (bind_local k of o s)
bind_local_declares file k of None s = declares_same file s
bind_local_declares file k of (Some t) s = declares_scopes file s (bind_name t.text (meant.Local k of) s).scopes

pub parameter_declares : (file : List ℕ) (k : ℕ) (p : meant_parts.Param) →
    IsDeclaring file (change (bind_parameter k p))
parameter_declares file k p =
    changing_declares file (bind_parameter k p) (λ s. bind_local_declares file k p.of p.name s)

-- ---- the result that is known

-- what stands for one result of a step stands for the other
pub given_at : {A B : Type 0} (sc : Scopes) (q : Typed) (d : Doing A) (f : Doing B) (s t : State) (a : A) (b : B)
    (F : State → A → Type 0) (I : State → B → Type 0) → d s ≡ Ok (a, t) → f s ≡ Ok (b, t) → I t b → Given sc q (d s) F →
    Given sc q (f s) I
given_at {A} sc q d f s t a b F I e i k g =
    let same : g.state ≡ t = ap (λ (p : A × State). p.1) (same_result (g.value, g.state) (a, t) (d s) g.is e) in
    record { value = b; state = t; is = i; stands = subst (λ (u : State). Stands sc q u) same g.stands; fits = k }

-- ---- tags of structs and unions

new_state : RecordKind → Lexeme → State → State
new_state k t s = bind_tag t.text (Recorded (length s.tags))
    (record s { tags = s.tags ++ record { kind = k; begun = false; members = None; extent = None } ∷ [] })

tag_steps : (k : RecordKind) (t : Lexeme) (s : State) → find_in (innermost s.scopes).tags t.text ≡ None →
    declares_tag (tag_kind_of k) t false s ≡ Ok (Recorded (length s.tags), new_state k t s)
unfolding new_state
tag_steps records.Struct t s e = rw e refl
tag_steps records.Union t s e = rw e refl

declare_steps : (k : RecordKind) (t : Lexeme) (s : State) → declare_tag k t s ≡ Ok (length s.tags, new_state k t s)
unfolding new_state
declare_steps k t s = refl

-- a new tag is of its kind
same_kind : (k : RecordKind) → same_record k k ≡ true
same_kind records.Struct = refl
same_kind records.Union = refl

kind_last : (xs : List TagState) (x : TagState) → has_kind (slice_get (xs ++ x ∷ []) (length xs)) x.kind ≡ true
kind_last [] x = same_kind x.kind
kind_last (y ∷ ys) x = kind_last ys x

new_of_kind : (k : RecordKind) (t : Lexeme) (s : State) → kind_at (new_state k t s) (length s.tags) k ≡ true
unfolding new_state
new_of_kind k t s = kind_last s.tags (record { kind = k; begun = false; members = None; extent = None })

pub tag_added : (sc : Scopes) (q : Typed) (k : RecordKind) (s : State) (n : ℕ) →
    Given sc q (new_tag k s) (λ v m. m ≡ n) → Given sc q (new_tag k s) (IsTagOf k n)
tag_added sc q k s n g =
    let x : TagState = record { kind = k; begun = false; members = None; extent = None } in
    let t : State = record s { tags = s.tags ++ x ∷ [] } in
    let l : length s.tags ≡ n =
    sym (ap (λ (p : ℕ × State). p.0) (same_result (g.value, g.state) (length s.tags, t) (new_tag k s) g.is refl))
    ∙ g.fits in
    given_at sc q (new_tag k) (new_tag k) s t (length s.tags) (length s.tags) (λ v m. m ≡ n) (IsTagOf k n) refl refl
    (l, subst (λ j. kind_at t j k ≡ true) l (kind_last s.tags x)) g

-- a tag that the scope does not have is declared
pub tag_declared : (sc : Scopes) (q : Typed) (k : RecordKind) (j : TagKind) (t u : Lexeme) (b : Bool) (s : State)
    (n : ℕ) (F : State → Tagging → Type 0) → j ≡ tag_kind_of k → u ≡ t → b ≡ false →
    find_in (innermost s.scopes).tags t.text ≡ None → n ≡ length s.tags →
    Given sc q (declares_tag j u b s) F → Given sc q (declare_tag k t s) (IsTagOf k n)
tag_declared sc q k j t u b s n F kind name braces e l g =
    given_at sc q (declares_tag (tag_kind_of k) t false) (declare_tag k t) s (new_state k t s)
    (Recorded (length s.tags)) (length s.tags) F (IsTagOf k n) (tag_steps k t s e) (declare_steps k t s)
    (sym l, subst (λ i. kind_at (new_state k t s) i k ≡ true) (sym l) (new_of_kind k t s))
    (subst (λ i. Given sc q (declares_tag i t false s) F) kind
    (subst (λ c. Given sc q (declares_tag j t c s) F) braces
    (subst (λ x. Given sc q (declares_tag j x b s) F) name g)))

-- and that is not refused
pub tag_not_refused : (k : RecordKind) (j : TagKind) (t u : Lexeme) (b : Bool) (s : State) (z : Fault) →
    j ≡ tag_kind_of k → u ≡ t → b ≡ false → find_in (innermost s.scopes).tags t.text ≡ None →
    declares_tag j u b s ≡ Err z → ⊥
tag_not_refused k j t u b s z kind name braces e g =
    let h = subst (λ i. declares_tag i t false s ≡ Err z) kind
    (subst (λ c. declares_tag j t c s ≡ Err z) braces (subst (λ x. declares_tag j x b s ≡ Err z) name g)) in
    let o = tag_steps k t s e in
    absurd cc

-- what is not in force is not in the scope
first_none : {A : Type 0} (o p : Option A) → or_else o p ≡ None → o ≡ None
first_none None p e = refl
first_none (Some a) p e = absurd cc

pub named_is : (here : Bool) (k : RecordKind) (t : Lexeme) (s : State) (o : Option Tagging) → tag_there here t s ≡ o →
    named_tag here k t s ≡ as_record k t o s
named_is here k t s o e = ap (λ x. as_record k t x s) e

pub none_found : {A B : Type 0} (f : A → B) (o : Option B) → option_map f None ≡ o → o ≡ None
none_found f o e = sym e

pub of_kind : (k : RecordKind) (t : Lexeme) (n : ℕ) (s : State) → kind_at s n k ≡ true →
    as_record k t (Some (Recorded n)) s ≡ Ok (n, s)
of_kind k t n s e = rw e refl

-- ---- enumerations

before_give : {A : Type 0} (r : Result (Unit {0} × State) Fault) (a b : A) (s : State) →
    continued r (λ x. give a) ≡ Ok (b, s) → r ≡ Ok (tt, s)
before_give {A} (Ok x) a b s e = ap (λ (y : A × State). Ok (tt, y.1)) (same_result (a, x.1) (b, s) (Ok (a, x.1)) refl e)
before_give (Err z) a b s e = absurd cc

before_refusal : {A : Type 0} (r : Result (Unit {0} × State) Fault) (a : A) (z : Fault) →
    continued r (λ x. give a) ≡ Err z → r ≡ Err z
before_refusal (Ok x) a z e = absurd cc
before_refusal (Err y) a z e = cc

enumeration_at : (sc : Scopes) (q : Typed) (t : Lexeme) (s : State) (F : State → Tagging → Type 0) →
    Given sc q (declares_tag Enum t true s) F → Given sc q (new_enumeration_of t s) (λ u x. Unit {0})
enumeration_at sc q t s F g =
    record {
      value = tt;
      state = g.state;
      is = before_give (new_enumeration_of t s) Enumerated g.value g.state g.is;
      stands = g.stands;
      fits = tt;
    }

pub enumeration_given : (sc : Scopes) (q : Typed) (t u : Lexeme) (b : Bool) (s : State) (F : State → Tagging → Type 0) →
    u ≡ t → b ≡ true → Given sc q (declares_tag Enum u b s) F → Given sc q (new_enumeration_of t s) (λ v x. Unit {0})
enumeration_given sc q t u b s F name braces g =
    enumeration_at sc q t s F (subst (λ c. Given sc q (declares_tag Enum t c s) F) braces
    (subst (λ x. Given sc q (declares_tag Enum x b s) F) name g))

pub enumeration_refused : (t u : Lexeme) (b : Bool) (s : State) (z : Fault) → u ≡ t → b ≡ true →
    declares_tag Enum u b s ≡ Err z → new_enumeration_of t s ≡ Err z
enumeration_refused t u b s z name braces e =
    before_refusal (new_enumeration_of t s) Enumerated z
    (subst (λ c. declares_tag Enum t c s ≡ Err z) braces (subst (λ x. declares_tag Enum x b s ≡ Err z) name e))

-- the name that a declaration has
pub name_is : (w : Work) (x : Name) (d : Decl) (s : State) → d.name ≡ x.span → d.pos ≡ x.pos → Shows w s →
    name_of w.nodes.scopes.file.now d ≡ token_of w x
name_is w x d s e f h = λ i. record { kind = Word; text = text_at (h.closed.file i) (e i); span = e i; pos = f i }

-- ---- members

-- a type that is there
pub type_there : (w : Work) (t : ℕ) → t < type_count w.nodes →
    named (types_of w.nodes.p.types) t ≡ Some (type_in w.nodes t)
type_there w t lt =
    let ts : List Ty = types_of w.nodes.p.types in
    let len : length ts ≡ type_count w.nodes = length-types_of w.nodes.p.types in
    slice_get-get_or ts t Void (omega arith)

-- the members by their numbers
pub parts_there : (w : Work) (ms : List Member) (xs : List Part) → MembersThere w ms → AreMembers w ms xs →
    HasParts (types_of w.nodes.p.types) xs ms
parts_there w [] [] h a = refl
parts_there w [] (x ∷ xs) h a = absurd a
parts_there w (m ∷ ms) [] h a = absurd a
parts_there w (m ∷ ms) (x ∷ xs) h a =
    let ts : List Ty = types_of w.nodes.p.types in
    let g : named ts m.of ≡ Some (type_in w.nodes m.of) = type_there w m.of (h 0 m (omega arith)) in
    let e : part_seen x ≡ member_kept ts m =
    ap (λ n. (n, Some x.of)) a.0.span ∙ ap (λ t. (m.name, Some t)) a.0.of ∙ ap (λ o. (m.name, o)) (sym g) in
    ap (λ y. y ∷ map part_seen xs) e
    ∙ ap (λ ys. member_kept ts m ∷ ys) (parts_there w ms xs (λ i d l. h (suc i) d (omega arith)) a.1)

-- and they are named as the file has them
pub parts_spelled : (w : Work) (ms : List Member) (xs : List Part) → AreMembers w ms xs → (j : ℕ) (x : Part) →
    slice_get xs j ≡ Some x → x.name.text ≡ text_at w.file.now x.name.span
parts_spelled w [] [] a j x e = absurd cc
parts_spelled w [] (y ∷ ys) a j x e = absurd a
parts_spelled w (m ∷ ms) [] a j x e = absurd a
parts_spelled w (m ∷ ms) (y ∷ ys) a zero x e =
    let i : y ≡ x = cc in
    subst (λ (z : Part). z.name.text ≡ text_at w.file.now z.name.span) i
    (a.0.text ∙ ap (text_at w.file.now) (sym a.0.span))
parts_spelled w (m ∷ ms) (y ∷ ys) a (suc j) x e = parts_spelled w ms ys a.1 j x e

-- the members of a tag of the kind are answered
pub completes : (w : Work) (m : Nodes) (k : RecordKind) (n : ℕ) (parts : List Part) (place : Pos)
    (r : Result (Unit {0}) Refusal) → IsWhole w.nodes → IsDeclared w.nodes m →
    IsDeclaring w.file.now (complete_tag k n parts place) →
    Completes w.nodes.scopes w.nodes.p m.scopes m.p k n parts place r →
    AnswersFor quietly w (record w { nodes = m }) (IsTagOf k n) (λ i. complete_tag k i parts place) NothingThere
    IsNothing r
completes w m k n parts place (Ok x) whole d f a = record {
  whole = whole_declared w m whole d;
  grows = quiet_declared w m whole d;
  there = tt;
  gives = λ s h i e.
      subst (λ j. work.Given quietly (record w { nodes = m }) s (complete_tag k j parts place s) (λ t u. Unit {0}))
      (sym e.0) (given_declared w m (complete_tag k n parts place) s (λ t u. Unit {0}) (λ t u. Unit {0}) whole d f h
      (λ t u y. y) (a s h.stands e.1));
}
completes w m k n parts place (Err (Code code at)) whole d f a = λ s h i e.
    subst (λ j. complete_tag k j parts place s ≡ Err (record { code = code; place = at })) (sym e.0)
    (a.0 s h.stands e.1)
completes w m k n parts place (Err NoMemory) whole d f a = tt

-- ---- scopes of parameters

-- where none is in force, an empty one is closed
pub empty_shows : (ts : List Ty) (n : ℕ) (c : Scope) (ms : List meant.Scope) → ((x : List ℕ) → name_in c x ≡ None) →
    ((x : List ℕ) → tag_in c x ≡ None) → ms ≡ [] → ShowsScope ts n c (innermost ms)
empty_shows ts n c ms a b e =
    subst (λ (l : List meant.Scope). ShowsScope ts n c (innermost l)) (sym e) (record {
      names = λ x. ap (option_map (entity_kept ts)) (a x);
      tags = λ x. ap (option_map tagging_of) (b x);
      there = λ x k f. let g = b x in absurd cc;
    })

pub closing_given : (sc : Scopes) (q : Typed) (s : State) (F : State → Unit {0} → Type 0)
    (I : State → meant.Scope → Type 0) → I (record s { scopes = meant.outer_scopes s.scopes }) (innermost s.scopes) →
    Given sc q (leave s) F → Given sc q (closing s) I
closing_given sc q s F I k g =
    given_at sc q leave closing s (record s { scopes = meant.outer_scopes s.scopes }) tt
    (innermost s.scopes) F I refl refl k g

pub parameter_binds : (w : Work) (k : ℕ) (p : Param) (n : Name) (s : State) → p.name ≡ Some n →
    bind_parameter k (param_in w p) s ≡ bind_name (text_at w.file.now n.span) (meant.Local k (type_in w.nodes p.of)) s
parameter_binds w k p n s e =
    ap (λ (o : Option Name). bind_local k (type_in w.nodes p.of) (option_map (token_of w) o) s) e

pub nothing_binds : (w : Work) (k : ℕ) (p : Param) (s : State) → p.name ≡ None → bind_parameter k (param_in w p) s ≡ s
nothing_binds w k p s e = ap (λ (o : Option Name). bind_local k (type_in w.nodes p.of) (option_map (token_of w) o) s) e
