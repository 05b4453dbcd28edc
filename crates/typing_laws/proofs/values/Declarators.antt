-- Specifiers, tags and declarators keep the bodies so far (C11 6.7.1 to 6.7.7).
use Rattle.std.proofs.Common.{ℕ, ◌+◌, ℤ, Bool, true, false, List, [], ◌∷◌, length, Option, Some, None, Result, Ok, Err}
use Rattle.std.proofs.Common.{refl, ◌≡◌, subst}
use Rattle.std.specs.Prelude.{pos, if◌then◌else◌, not, ◌||◌, ◌==◌}
use Rattle.ck_base.specs.Tokens.{Lexeme}
use Rattle.ck_base.specs.declared.positions.Pos.{Pos}
use Rattle.c_tree.specs.Constants.{constant_of}
use Rattle.c_tree.specs.Declarators.{constant, named_types, specifiers, alias_type, new_tag, declare_tag, as_record}
use Rattle.c_tree.specs.Declarators.{named_tag, begin_tag, complete_tag, all_members, filled_tag, record_specifier}
use Rattle.c_tree.specs.Declarators.{enumerate, enumerator, enumerators, new_enumeration, named_enumeration}
use Rattle.c_tree.specs.Declarators.{enum_specifier, array_length, declarator_of, abstract, type_name, add_member}
use Rattle.c_tree.specs.Declarators.{member_declarators, member_of, parameter_from, Formed, kind_at, judge, formed}
use Rattle.c_tree.specs.Declarators.{specified_type, is_new, in_int, has_part, is_free, place_of, parameter_of}
use Rattle.c_tree.specs.Declarators.{bind_local, bind_parameter, parameter_list, prototype_of, names_type}
use Rattle.c_tree.specs.Programs.{type_of_kind}
use Rattle.c_tree.specs.Readings.{Specified, Param, Prototype, Wrap, Derived, Reading}
use Rattle.c_tree.specs.Scopes.{Entity, Alias, Tagging, Recorded, Enumerated, Part, State, Doing, give, look, leave}
use Rattle.c_tree.specs.Scopes.{innermost, Fault, continued, change, bind_tag, is_complete, find_in, find_name}
use Rattle.c_tree.specs.Scopes.{find_tag, ◌>>=◌, ◌>>◌, LocalState}
use Rattle.c_tree.specs.Syntax.{Syns, node, nil, more}
use Rattle.c_tree.specs.Types.{is_function}
use Rattle.c_tree.specs.declared.syntax.NodeKind.{NodeKind}
use Rattle.c_tree.specs.declared.syntax.NodeKind.TheVariants as Kinds
use Rattle.c_tree.specs.declared.syntax.RecordKind.{RecordKind}
use Rattle.typing_laws.proofs.values.Stepping.{still, BodiesMade, Runs, Keeps, Any, going, run_give, run_kept}
use Rattle.typing_laws.proofs.values.Stepping.{run_refuse}
use Rattle.typing_laws.proofs.values.Stepping.{run_need, run_then, run_next, give_keeps, refuse_goes, goes_then}
use Rattle.typing_laws.proofs.values.Stepping.{goes_next}
use Rattle.typing_laws.proofs.values.Stepping.{need_keeps, some_keeps, if_goes, entered}
use Rattle.typing_laws.proofs.values.Expressions.{unevaluated_keeps}
use Rattle.typing_laws.proofs.values.Readings.{DerivedMade, ParamMade, ParamsMade, PrototypeMade, Reads, AllReads}
use Rattle.typing_laws.proofs.values.Readings.{read_keeps}
use Rattle.typing_laws.proofs.values.Sorts.{adjusted_unstored}

pub constant_keeps : (r : Reading) → Reads r → Keeps Any (constant r)
constant_keeps r h =
    goes_then (unevaluated_keeps (read_keeps r h)) λ x i.
    goes_then (some_keeps (constant_of x.is) 134 x.first) λ v u. give_keeps tt

-- the rules on a declarator's type
pub judge_keeps : (f : Formed) (lacks misfits : Bool) (p : Pos) → Keeps Any (judge f lacks misfits p)
judge_keeps f lacks misfits p = goes_next (goes_next (need_keeps _ _ _) (need_keeps _ _ _)) (need_keeps _ _ _)

-- ---- specifiers

named_types_keep : (alone : Bool) (xs : Syns) (rs : List Reading) → AllReads rs →
    Keeps Any (named_types alone xs rs)
named_types_keep alone (more x xs) (r ∷ rs) h =
    if_goes (names_type x) _ _
    (goes_then (h.0.type alone) λ t i. goes_then (named_types_keep alone xs rs h.1) λ ts j. give_keeps tt)
    (named_types_keep alone xs rs h.1)
named_types_keep alone nil rs h = give_keeps tt
named_types_keep alone (more x xs) [] h = give_keeps tt

pub specifiers_keep : (alone : Bool) (t : Lexeme) (xs : Syns) (rs : List Reading) → AllReads rs →
    Keeps Any (specifiers alone t xs rs)
unfolding specifiers
specifiers_keep alone t xs rs h =
    goes_then (named_types_keep _ xs rs h) λ ts i.
    goes_then (goes_next (need_keeps _ _ _) (some_keeps (specified_type xs ts) 133 t.pos)) λ of j. give_keeps tt

alias_keeps : (e : Option Entity) (p : Pos) → Keeps Any (alias_type e p)
alias_keeps (Some (Alias t)) p = give_keeps tt
alias_keeps e p = refuse_goes

-- ---- structs and unions

new_tag_keeps : (k : RecordKind) → Keeps Any (new_tag k)
new_tag_keeps k =
    going λ s at. run_give still at tt

tag_keeps : (t : Lexeme) (n : ℕ) → Keeps Any (change (bind_tag t.text (Recorded n)) >> give n)
tag_keeps t n = going λ s at. run_give still at tt

declare_tag_keeps : (k : RecordKind) (t : Lexeme) → Keeps Any (declare_tag k t)
declare_tag_keeps k t = goes_then (new_tag_keeps k) λ n i. tag_keeps t n

as_record_keeps : (k : RecordKind) (t : Lexeme) (o : Option Tagging) → Keeps Any (as_record k t o)
as_record_keeps k t None = declare_tag_keeps k t
as_record_keeps k t (Some Enumerated) = refuse_goes
as_record_keeps k t (Some (Recorded n)) =
    going λ s at. run_next (run_need _ (kind_at s n k) 133 t.pos at) λ q at. run_give still at tt

named_tag_keeps : (here : Bool) (k : RecordKind) (t : Lexeme) → Keeps Any (named_tag here k t)
named_tag_keeps here k t = going λ s at. (as_record_keeps k t (if here
    then find_in (innermost s.scopes).tags t.text else find_tag s.scopes t.text)).run s at

begin_tag_keeps : (n : ℕ) (p : Pos) → Keeps Any (begin_tag n p)
begin_tag_keeps n p =
    going λ s at. run_next (run_need _ _ _ _ at) λ q at. run_kept still at

complete_tag_keeps : (k : RecordKind) (n : ℕ) (ms : List Part) (p : Pos) → Keeps Any (complete_tag k n ms p)
complete_tag_keeps k n ms p =
    going λ s at. run_next (run_need _ _ _ _ at) λ q at. run_kept still at

members_keep : (rs : List Reading) (ms : List Part) → AllReads rs → Keeps Any (all_members rs ms)
members_keep [] ms h = give_keeps tt
members_keep (r ∷ rs) ms h = goes_then (h.0.members ms) λ ns i. members_keep rs ns h.1

filled_tag_keeps : (k : RecordKind) (n : ℕ) (rs : List Reading) (t : Lexeme) (p : Pos) → AllReads rs →
    Keeps Any (filled_tag k n rs t p)
filled_tag_keeps k n rs t p h =
    goes_then (goes_next (begin_tag_keeps n p) (members_keep rs [] h)) λ ms i.
    goes_next (complete_tag_keeps k n ms t.pos) (give_keeps tt)

-- a struct or union of its own
own_record_keeps : (k : RecordKind) (t : Lexeme) (rs : List Reading) → AllReads rs →
    Keeps Any (new_tag k >>= λ m. filled_tag k m rs t t.pos)
own_record_keeps k t rs h = goes_then (new_tag_keeps k) λ m i. filled_tag_keeps k m rs t t.pos h

record_keeps : (k : RecordKind) (alone : Bool) (t : Lexeme) (xs : Syns) (rs : List Reading) → AllReads rs →
    Keeps Any (record_specifier k alone t xs rs)
unfolding record_specifier
record_keeps k alone t (more (node Kinds.Tag n ys) nil) rs h =
    goes_then (named_tag_keeps alone k n) λ m i. give_keeps tt
record_keeps k alone t (more (node Kinds.Tag n ys) (more x xs)) (r ∷ rs) h =
    goes_then (named_tag_keeps true k n) λ m i. filled_tag_keeps k m rs t n.pos h.1
record_keeps k alone t xs rs h = own_record_keeps k t rs h

-- ---- enumerations

enumerate_keeps : (t : Lexeme) (z : ℤ) (p : Pos) → Keeps Any (enumerate t z p)
enumerate_keeps t z p =
    going λ s at. run_next (run_next (run_next (run_need _ (is_new s t.text) 131 t.pos at) λ q at.
    run_need _ (in_int z) 134 p at) λ q at. run_kept still at) λ q at.
    run_give still at tt

pub enumerator_keeps : (t : Lexeme) (rs : List Reading) (z : ℤ) → AllReads rs → Keeps Any (enumerator t rs z)
unfolding enumerator
enumerator_keeps t (r ∷ rs) z h = goes_then (constant_keeps r h.0) λ c i. enumerate_keeps t c.number c.first
enumerator_keeps t [] z h = enumerate_keeps t z t.pos

enumerators_keep : (rs : List Reading) (z : ℤ) → AllReads rs → Keeps Any (enumerators rs z)
enumerators_keep [] z h = give_keeps tt
enumerators_keep (r ∷ rs) z h = goes_then (h.0.enumerator z) λ y i. enumerators_keep rs y h.1

new_enumeration_keeps : (t : Lexeme) (o : Option Tagging) → Keeps Any (new_enumeration t o)
new_enumeration_keeps t None = going λ s at. run_kept still at
new_enumeration_keeps t (Some Enumerated) = refuse_goes
new_enumeration_keeps t (Some (Recorded n)) = refuse_goes

named_enumeration_keeps : (t : Lexeme) (o : Option Tagging) → Keeps Any (named_enumeration t o)
named_enumeration_keeps t None = refuse_goes
named_enumeration_keeps t (Some Enumerated) = give_keeps tt
named_enumeration_keeps t (Some (Recorded n)) = refuse_goes

enum_keeps : (xs : Syns) (rs : List Reading) → AllReads rs → Keeps Any (enum_specifier xs rs)
unfolding enum_specifier
enum_keeps (more (node Kinds.Tag n ys) nil) rs h =
    going λ s at.
    run_next ((named_enumeration_keeps n (find_tag s.scopes n.text)).run s at) λ q at. run_give still at tt
enum_keeps (more (node Kinds.Tag n ys) (more x xs)) (r ∷ rs) h =
    going λ s at.
    run_next (run_next ((new_enumeration_keeps n (find_in (innermost s.scopes).tags n.text)).run s at) λ q at.
    (enumerators_keep rs (pos 0) h.1).run q at) λ q at. run_give still at tt
enum_keeps xs rs h = goes_next (enumerators_keep rs (pos 0) h) (give_keeps tt)

-- ---- declarators

array_length_keeps : (r : Reading) → Reads r → Keeps Any (array_length r)
array_length_keeps r h = goes_then (constant_keeps r h) λ c i. some_keeps _ _ _

pub declarator_keeps : (k : NodeKind) (t : Lexeme) (xs : Syns) (rs : List Reading) → AllReads rs →
    Keeps DerivedMade (declarator_of k t xs rs)
unfolding declarator_of
declarator_keeps Kinds.DeclaredName t xs rs h = give_keeps tt
declarator_keeps Kinds.ParenthesizedDeclarator t xs (r ∷ rs) h = h.0.derived
declarator_keeps Kinds.Pointer t xs (q ∷ []) h = give_keeps (tt, tt)
declarator_keeps Kinds.Pointer t xs (q ∷ r ∷ rs) h = goes_then h.1.0.derived λ d i. give_keeps (tt, i)
declarator_keeps Kinds.OpenArray t xs [] h = give_keeps (tt, tt)
declarator_keeps Kinds.OpenArray t xs (r ∷ rs) h = goes_then h.0.derived λ d i. give_keeps (tt, i)
declarator_keeps Kinds.Array t xs (r ∷ []) h = goes_then (array_length_keeps r h.0) λ n i. give_keeps (tt, tt)
declarator_keeps Kinds.Array t xs (r ∷ q ∷ rs) h =
    goes_then h.0.derived λ d i. goes_then (array_length_keeps q h.1.0) λ n j. give_keeps (tt, i)
declarator_keeps Kinds.Function t xs (r ∷ []) h = goes_then h.0.prototype λ p i. give_keeps (i, tt)
declarator_keeps Kinds.Function t xs (r ∷ q ∷ rs) h =
    goes_then h.0.derived λ d i. goes_then h.1.0.prototype λ p j. give_keeps (j, i)
declarator_keeps k t xs rs h = refuse_goes

-- ---- type names

abstract_keeps : (r : Reading) (rs : List Reading) → AllReads rs → Keeps Any (abstract r rs)
abstract_keeps r [] h = give_keeps tt
abstract_keeps r (q ∷ qs) h = going λ s at.
    let y = h.0.derived.run s at in record { bodies = y.bodies; post = λ x e. tt; locals = y.locals }

named_type_keeps : (t : Lexeme) (p : Specified) (d : Derived) → Keeps Any (look >>= λ st.
    let f = formed st p.of d.wraps in judge f false false t.pos >> give f.of)
named_type_keeps t p d =
    going λ s at. run_next ((judge_keeps (formed s p.of d.wraps) false false t.pos).run s at) λ q at.
    run_give still at tt

type_name_keeps : (t : Lexeme) (xs : Syns) (rs : List Reading) → AllReads rs → Keeps Any (type_name t xs rs)
unfolding type_name
type_name_keeps t xs [] h = refuse_goes
type_name_keeps t xs (r ∷ rs) h =
    goes_then (h.0.specified false) λ p i.
    goes_then (goes_next (need_keeps _ _ _) (abstract_keeps r rs h.1)) λ d j. named_type_keeps t p d

pub kind_keeps : (k : NodeKind) (t : Lexeme) (xs : Syns) (rs : List Reading) (alone : Bool) → AllReads rs →
    Keeps Any (type_of_kind k t xs rs alone)
kind_keeps Kinds.TypedefName t xs rs alone h =
    going λ s at. (alias_keeps (find_name s.scopes t.text) t.pos).run s at
kind_keeps (Kinds.Record k) t xs rs alone h = record_keeps k alone t xs rs h
kind_keeps Kinds.Enum t xs rs alone h = enum_keeps xs rs h
kind_keeps Kinds.TypeName t xs rs alone h = type_name_keeps t xs rs h
kind_keeps k t xs rs alone h = refuse_goes

-- ---- members

add_member_keeps : (s : Specified) (stored : Bool) (name : Option Lexeme) (ws : List Wrap) (ms : List Part) →
    Keeps Any (add_member s stored name ws ms)
add_member_keeps s stored None ws ms = refuse_goes
add_member_keeps s stored (Some t) ws ms =
    going λ st at. let f = formed st s.of ws in
    run_next (run_next (run_need _ (not (has_part ms t.text)) 131 t.pos at) λ q at.
    (judge_keeps f (not (is_function f.of || is_complete st f.of)) (is_function f.of) t.pos).run q at) λ q at.
    run_give still at tt

member_declarators_keep : (s : Specified) (rs : List Reading) (ms : List Part) → AllReads rs →
    Keeps Any (member_declarators s rs ms)
member_declarators_keep s [] ms h = give_keeps tt
member_declarators_keep s (r ∷ rs) ms h =
    goes_then h.0.derived λ d i.
    goes_then (add_member_keeps s s.stored d.name d.wraps ms) λ ns j. member_declarators_keep s rs ns h.1

pub member_of_keeps : (t : Lexeme) (xs : Syns) (rs : List Reading) (ms : List Part) → AllReads rs →
    Keeps Any (member_of t xs rs ms)
unfolding member_of
member_of_keeps t xs [] ms h = refuse_goes
member_of_keeps t xs (r ∷ rs) ms h =
    goes_then (h.0.specified false) λ s i.
    goes_next (need_keeps _ _ _) (member_declarators_keep s rs ms h.1)

-- ---- parameters

parameter_from_keeps : (only : Bool) (s : Specified) (first : Lexeme) (d : Derived) →
    Keeps ParamMade (parameter_from only s first d)
parameter_from_keeps only s first d =
    going λ st at. let f = formed st s.of d.wraps in let p = (place_of d.name first).pos in
    run_next (run_next (run_need _ (is_free st d.name) 131 p at) λ q at.
    (judge_keeps f false false p).run q at) λ q at. run_give still at (adjusted_unstored f.of)

pub parameter_of_keeps : (t : Lexeme) (rs : List Reading) (only : Bool) → AllReads rs →
    Keeps ParamMade (parameter_of t rs only)
unfolding parameter_of
parameter_of_keeps t [] only h = refuse_goes
parameter_of_keeps t (r ∷ rs) only h =
    goes_then (h.0.specified false) λ s i.
    goes_then (goes_next (need_keeps _ _ _) (abstract_keeps r rs h.1)) λ d j. parameter_from_keeps only s t d

at_parameter : (k : ℕ) (p : Param) (s : State) → BodiesMade s.routines → BodiesMade (bind_parameter k p s).routines
at_parameter k p s at = by p.name
  where
    by : (n : Option Lexeme) → BodiesMade (bind_local k p.of n s).routines
    by None = at
    by (Some t) = at

same_locals : (k : ℕ) (p : Param) (s : State) → (bind_parameter k p s).locals ≡ s.locals
same_locals k p s = by p.name
  where
    by : (n : Option Lexeme) → (bind_local k p.of n s).locals ≡ s.locals
    by None = refl
    by (Some t) = refl

-- the parameters from a number on
parameters_goes : (k : ℕ) (only : Bool) (rs : List Reading) → AllReads rs →
    Keeps ParamsMade (parameter_list k only rs)
parameters_goes k only [] h = give_keeps tt
parameters_goes k only (r ∷ rs) h =
    goes_then (h.0.parameter only) λ p i. if_goes p.nothing _ _ (give_keeps tt)
    (going λ s at. run_then (subst (λ vs. Runs ParamsMade vs (parameter_list (k + 1) only rs (bind_parameter k p s)))
    (same_locals k p s) ((parameters_goes (k + 1) only rs h.1).run (bind_parameter k p s)
    (at_parameter k p s at))) λ ps q at j. run_give still at (i, j))

-- what is made of the parameters
made_prototype : List Param → Doing Prototype
made_prototype ps = look >>= λ s. leave >> give (record { params = ps; scope = innermost s.scopes })

prototype_runs : {vs : List LocalState} (r : Result (List Param × State) Fault) → Runs ParamsMade vs r →
    Runs PrototypeMade vs (continued r made_prototype)
unfolding made_prototype
prototype_runs (Ok y) h = run_give (h.locals y refl) (h.bodies y refl) (h.post y refl)
prototype_runs (Err f) h = run_refuse

pub prototype_keeps : (rs : List Reading) → AllReads rs → Keeps PrototypeMade (prototype_of rs)
unfolding prototype_of made_prototype
prototype_keeps rs h =
    going λ q at. prototype_runs (parameter_list 0 (length rs == 1) rs (entered q))
    ((parameters_goes 0 (length rs == 1) rs h).run (entered q) at)
