-- Specifiers, tags, declarators and initializers (C11 6.7) are refused by codes of typing.
use Rattle.std.proofs.Common.{◌≡◌, ℕ, ◌+◌, ℤ, Bool, true, false, List, [], ◌∷◌, length, Option, Some, None, refl}
use Rattle.std.specs.Prelude.{◌||◌, ◌&&◌, not}
use Rattle.std.proofs.lemmas.Bool.{false≢true}
use Rattle.ck_base.specs.declared.positions.Pos.{Pos}
use Rattle.ck_base.specs.Tokens.{Lexeme}
use Rattle.c_tree.specs.declared.syntax.NodeKind.TheVariants as Kinds
use Rattle.c_tree.specs.declared.syntax.RecordKind.{RecordKind}
use Rattle.c_tree.specs.Syntax.{Syn, Syns, node, nil, more}
use Rattle.c_tree.specs.Types.{Ty, is_function}
use Rattle.c_tree.specs.Terms.{Aim, To_global, To_literal, To_function}
use Rattle.c_tree.specs.Scopes.{Entity, Alias, Tagging, Recorded}
use Rattle.c_tree.specs.Scopes.{Enumerated}
use Rattle.c_tree.specs.Scopes.{Part, State, Doing, give, change, bind_tag, ◌>>=◌, ◌>>◌, find_name, find_tag}
use Rattle.c_tree.specs.Scopes.{is_complete}
use Rattle.c_tree.specs.Readings.{Specified, Wrap, Derived, Slot, Filled, Reading}
use Rattle.c_tree.specs.Declarators.{constant, specified_type, names_type, named_types, specifiers, alias_type}
use Rattle.c_tree.specs.Declarators.{typedef_name, new_tag}
use Rattle.c_tree.specs.Declarators.{declare_tag, as_record, named_tag, begin_tag, complete_tag, all_members}
use Rattle.c_tree.specs.Declarators.{filled_tag}
use Rattle.c_tree.specs.Declarators.{record_specifier, enumerate, enumerator, enumerators, new_enumeration}
use Rattle.c_tree.specs.Declarators.{named_enumeration, enum_specifier, array_length, Formed, formed, judge, abstract}
use Rattle.c_tree.specs.Declarators.{is_free}
use Rattle.c_tree.specs.Constants.{constant_of}
use Rattle.c_tree.specs.Declarators.{type_name, has_part, add_member, member_declarators, member_of, place_of}
use Rattle.c_tree.specs.Declarators.{parameter_from, parameter_of, parameter_list, prototype_of}
use Rattle.c_tree.specs.Initializers.{item_place, string_initializer, plain_initializer, items, braced_initializer}
use Rattle.c_tree.specs.Initializers.{takes_string}
use Rattle.c_tree.specs.Statics.{Start, Number, There, Entry, Found, ask_for, start_slot, is_start, start_slots}
use Rattle.c_tree.specs.Statics.{known_value}
use Rattle.c_tree.specs.Conversions.{Operand}
use Rattle.c_tree.specs.Programs.{is_there}
use Rattle.typing_laws.proofs.codes.Stepping.{AllOf, Coded, Any, give_coded, refuse_coded, change_coded, then_coded}
use Rattle.typing_laws.proofs.codes.Stepping.{next_coded}
use Rattle.typing_laws.proofs.codes.Stepping.{look_coded, need_coded, some_coded, if_coded, where_coded, needs, weaker}
use Rattle.typing_laws.proofs.codes.Stepping.{going}
use Rattle.typing_laws.proofs.codes.Stepping.{fine_give}
use Rattle.typing_laws.proofs.codes.Stepping.{fine_then, fine_next}
use Rattle.typing_laws.proofs.codes.Expressions.{value_coded, assigned_coded, unevaluated_coded, IsOperand, read_coded}

-- ---- what parts are

abbrev pub IsType : Reading → Type 0
IsType r = (alone : Bool) → Coded Any (r.type alone)

abbrev pub IsSpecified : Reading → Type 0
IsSpecified r = (alone : Bool) → Coded Any (r.specified alone)

-- a declarator has a name, unless it may have none
abbrev pub Told : Bool → Derived → Type 0
Told nameless d = (nameless || is_there d.name) ≡ true

abbrev pub IsDeclarator : Bool → Reading → Type 0
IsDeclarator nameless r = Coded (Told nameless) r.derived

abbrev pub IsMember : Reading → Type 0
IsMember r = (ms : List Part) → Coded Any (r.members ms)

abbrev pub IsEnumerator : Reading → Type 0
IsEnumerator r = (z : ℤ) → Coded Any (r.enumerator z)

abbrev pub IsParameter : Reading → Type 0
IsParameter r = (only : Bool) → Coded Any (r.parameter only)

-- what is asked of each value is coded
abbrev pub Initializing : ((Slot → Doing Unit) → Pos → Ty → ℕ → Doing Filled) → Type 0
Initializing f = (asked : Slot → Doing Unit) (whole : Pos) (of : Ty) (at : ℕ) →
    ((x : Slot) → Coded Any (asked x)) → Coded Any (f asked whole of at)

abbrev pub IsInitializer : Reading → Type 0
IsInitializer r = Initializing r.initializer

-- those of the specifiers that name a type
abbrev pub NameTypes : Syns → List Reading → Type 0
NameTypes nil rs = Unit {0}
NameTypes (more x xs) [] = Unit {0}
NameTypes (more x xs) (r ∷ rs) = (names_type x ≡ true → IsType r) × NameTypes xs rs

-- ---- constants and specifiers

pub constant_coded : (r : Reading) → IsOperand r → Coded Any (constant r)
constant_coded r h =
    then_coded (unevaluated_coded (read_coded r h)) λ x u.
    then_coded (some_coded (constant_of x.is) 134 x.first refl) λ v u.
    give_coded tt

named_types_coded : (alone : Bool) (xs : Syns) (rs : List Reading) → NameTypes xs rs →
    Coded Any (named_types alone xs rs)
named_types_coded alone (more x xs) (r ∷ rs) h =
    where_coded (names_type x) _ _
    (λ e. then_coded (h.0 e alone) λ t u. then_coded (named_types_coded alone xs rs h.1) λ ts u. give_coded tt)
    (λ e. named_types_coded alone xs rs h.1)
named_types_coded alone nil rs h = give_coded tt
named_types_coded alone (more x xs) [] h = give_coded tt

pub specifiers_coded : (alone : Bool) (t : Lexeme) (xs : Syns) (rs : List Reading) → NameTypes xs rs →
    Coded Any (specifiers alone t xs rs)
unfolding specifiers
specifiers_coded alone t xs rs h =
    then_coded (named_types_coded _ xs rs h) λ ts u.
    then_coded (needs _ _ _ refl (some_coded (specified_type xs ts) 133 t.pos refl)) λ of u. give_coded tt

alias_coded : (e : Option Entity) (p : Pos) → Coded Any (alias_type e p)
alias_coded (Some (Alias t)) p = give_coded tt
alias_coded e p = refuse_coded refl

pub typedef_coded : (t : Lexeme) → Coded Any (typedef_name t)
typedef_coded t = look_coded λ s. alias_coded (find_name s.scopes t.text) t.pos

-- ---- structs and unions

new_tag_coded : (k : RecordKind) → Coded Any (new_tag k)
new_tag_coded k = going λ s. fine_give tt

tag_coded : (t : Lexeme) (n : ℕ) → Coded Any (change (bind_tag t.text (Recorded n)) >> give n)
tag_coded t n = going λ s. fine_give tt

declare_tag_coded : (k : RecordKind) (t : Lexeme) → Coded Any (declare_tag k t)
declare_tag_coded k t = then_coded (new_tag_coded k) λ n u. tag_coded t n

as_record_coded : (k : RecordKind) (t : Lexeme) (o : Option Tagging) → Coded Any (as_record k t o)
as_record_coded k t None = declare_tag_coded k t
as_record_coded k t (Some Enumerated) = refuse_coded refl
as_record_coded k t (Some (Recorded n)) = look_coded λ s. needs _ _ _ refl (give_coded tt)

pub named_tag_coded : (here : Bool) (k : RecordKind) (t : Lexeme) → Coded Any (named_tag here k t)
named_tag_coded here k t = look_coded λ s. as_record_coded k t _

begin_tag_coded : (n : ℕ) (p : Pos) → Coded Any (begin_tag n p)
begin_tag_coded n p = look_coded λ s. needs _ _ _ refl change_coded

complete_tag_coded : (k : RecordKind) (n : ℕ) (ms : List Part) (p : Pos) → Coded Any (complete_tag k n ms p)
complete_tag_coded k n ms p = look_coded λ s. needs _ _ _ refl change_coded

all_members_coded : (rs : List Reading) (ms : List Part) → AllOf IsMember rs → Coded Any (all_members rs ms)
all_members_coded [] ms h = give_coded tt
all_members_coded (r ∷ rs) ms h = then_coded (h.0 ms) λ ns u. all_members_coded rs ns h.1

filled_tag_coded : (k : RecordKind) (n : ℕ) (rs : List Reading) (t : Lexeme) (p : Pos) → AllOf IsMember rs →
    Coded Any (filled_tag k n rs t p)
filled_tag_coded k n rs t p h =
    then_coded (next_coded (begin_tag_coded n p) (all_members_coded rs [] h)) λ ms u.
    next_coded (complete_tag_coded k n ms t.pos) (give_coded tt)

pub tag_alone_coded : (k : RecordKind) (alone : Bool) (t n : Lexeme) (ys : Syns) (rs : List Reading) →
    Coded Any (record_specifier k alone t (more (node Kinds.Tag n ys) nil) rs)
unfolding record_specifier
tag_alone_coded k alone t n ys rs = then_coded (named_tag_coded alone k n) λ m u. give_coded tt

pub tagged_coded : (k : RecordKind) (alone : Bool) (t n : Lexeme) (ys : Syns) (x : Syn) (xs : Syns) (r : Reading)
    (rs : List Reading) → AllOf IsMember rs →
    Coded Any (record_specifier k alone t (more (node Kinds.Tag n ys) (more x xs)) (r ∷ rs))
unfolding record_specifier
tagged_coded k alone t n ys x xs r rs h =
    then_coded (named_tag_coded true k n) λ m u. filled_tag_coded k m rs t n.pos h

pub untagged_coded : (k : RecordKind) (alone : Bool) (t : Lexeme) (x : Syn) (xs : Syns) (r : Reading)
    (rs : List Reading) → AllOf IsMember (r ∷ rs) → Coded Any (record_specifier k alone t (more x xs) (r ∷ rs))
unfolding record_specifier
untagged_coded k alone t (node Kinds.Tag n ys) nil r rs h = tag_alone_coded k alone t n ys (r ∷ rs)
untagged_coded k alone t (node Kinds.Tag n ys) (more x xs) r rs h = tagged_coded k alone t n ys x xs r rs h.1
untagged_coded k alone t (node j n ys) xs r rs h =
    then_coded (new_tag_coded k) λ m u. filled_tag_coded k m (r ∷ rs) t t.pos h

-- ---- enumerations

enumerate_coded : (t : Lexeme) (z : ℤ) (p : Pos) → Coded Any (enumerate t z p)
enumerate_coded t z p =
    look_coded λ s. next_coded (next_coded (needs _ _ _ refl (need_coded _ _ _ refl)) change_coded) (give_coded tt)

pub enumerator_coded : (t : Lexeme) (z : ℤ) → Coded Any (enumerator t [] z)
unfolding enumerator
enumerator_coded t z = enumerate_coded t z t.pos

pub enumerator_value_coded : (t : Lexeme) (r : Reading) (z : ℤ) → IsOperand r → Coded Any (enumerator t (r ∷ []) z)
unfolding enumerator
enumerator_value_coded t r z h = then_coded (constant_coded r h) λ c u. enumerate_coded t c.number c.first

enumerators_coded : (rs : List Reading) (z : ℤ) → AllOf IsEnumerator rs → Coded Any (enumerators rs z)
enumerators_coded [] z h = give_coded tt
enumerators_coded (r ∷ rs) z h = then_coded (h.0 z) λ y u. enumerators_coded rs y h.1

new_enumeration_coded : (t : Lexeme) (o : Option Tagging) → Coded Any (new_enumeration t o)
new_enumeration_coded t None = change_coded
new_enumeration_coded t (Some Enumerated) = refuse_coded refl
new_enumeration_coded t (Some (Recorded n)) = refuse_coded refl

named_enumeration_coded : (t : Lexeme) (o : Option Tagging) → Coded Any (named_enumeration t o)
named_enumeration_coded t None = refuse_coded refl
named_enumeration_coded t (Some Enumerated) = give_coded tt
named_enumeration_coded t (Some (Recorded n)) = refuse_coded refl

pub enum_alone_coded : (n : Lexeme) (ys : Syns) (rs : List Reading) →
    Coded Any (enum_specifier (more (node Kinds.Tag n ys) nil) rs)
unfolding enum_specifier
enum_alone_coded n ys rs =
    look_coded λ s. next_coded (named_enumeration_coded n (find_tag s.scopes n.text)) (give_coded tt)

pub enum_none_coded : Coded Any (enum_specifier nil [])
unfolding enum_specifier
enum_none_coded = going λ s. fine_give tt

pub enum_tagged_coded : (n : Lexeme) (ys : Syns) (x : Syn) (xs : Syns) (r : Reading) (rs : List Reading) →
    AllOf IsEnumerator rs → Coded Any (enum_specifier (more (node Kinds.Tag n ys) (more x xs)) (r ∷ rs))
unfolding enum_specifier
enum_tagged_coded n ys x xs r rs h =
    look_coded λ s. next_coded (next_coded (new_enumeration_coded n _) (enumerators_coded rs _ h)) (give_coded tt)

pub enum_untagged_coded : (x : Syn) (xs : Syns) (r : Reading) (rs : List Reading) → AllOf IsEnumerator (r ∷ rs) →
    Coded Any (enum_specifier (more x xs) (r ∷ rs))
unfolding enum_specifier
enum_untagged_coded (node Kinds.Tag n ys) nil r rs h = enum_alone_coded n ys (r ∷ rs)
enum_untagged_coded (node Kinds.Tag n ys) (more x xs) r rs h = enum_tagged_coded n ys x xs r rs h.1
enum_untagged_coded (node j n ys) xs r rs h = next_coded (enumerators_coded (r ∷ rs) _ h) (give_coded tt)

-- ---- what a declarator makes

pub length_coded : (r : Reading) → IsOperand r → Coded Any (array_length r)
length_coded r h = then_coded (constant_coded r h) λ c u. some_coded _ _ _ refl

pub judge_coded : (f : Formed) (lacks misfits : Bool) (p : Pos) → Coded Any (judge f lacks misfits p)
judge_coded f lacks misfits p = next_coded (needs _ _ _ refl (need_coded _ _ _ refl)) (need_coded _ _ _ refl)

abstract_coded : (r : Reading) (rs : List Reading) → AllOf (IsDeclarator true) rs →
    Coded Any (abstract r rs)
abstract_coded r [] h = give_coded tt
abstract_coded r (q ∷ qs) h = weaker h.0

pub type_name_coded : (t : Lexeme) (xs : Syns) (r : Reading) (rs : List Reading) → IsSpecified r →
    AllOf (IsDeclarator true) rs → Coded Any (type_name t xs (r ∷ rs))
unfolding type_name
type_name_coded t xs r rs h g =
    then_coded (h false) λ s u. then_coded (needs _ _ _ refl (abstract_coded r rs g)) λ d u.
    going λ st. fine_next ((judge_coded (formed st s.of d.wraps) false false t.pos).at st) λ q. fine_give tt

add_member_coded : (s : Specified) (stored : Bool) (o : Option Lexeme) (ws : List Wrap) (ms : List Part) →
    is_there o ≡ true → Coded Any (add_member s stored o ws ms)
add_member_coded s stored None ws ms h = absurd (false≢true h)
add_member_coded s stored (Some t) ws ms h =
    going λ st. let f = formed st s.of ws in
    fine_next (fine_next ((need_coded (not (has_part ms t.text)) 131 t.pos refl).at st)
    (judge_coded f (not (is_function f.of || is_complete st f.of)) (is_function f.of) t.pos).at) λ q. fine_give tt

member_declarators_coded : (s : Specified) (rs : List Reading) (ms : List Part) → AllOf (IsDeclarator false) rs →
    Coded Any (member_declarators s rs ms)
member_declarators_coded s [] ms h = give_coded tt
member_declarators_coded s (r ∷ rs) ms h =
    then_coded h.0 λ d e. then_coded (add_member_coded s s.stored d.name d.wraps ms e) λ ns u.
    member_declarators_coded s rs ns h.1

pub member_coded : (t : Lexeme) (xs : Syns) (r : Reading) (rs : List Reading) (ms : List Part) → IsSpecified r →
    AllOf (IsDeclarator false) rs → Coded Any (member_of t xs (r ∷ rs) ms)
unfolding member_of
member_coded t xs r rs ms h g =
    then_coded (h false) λ s u. needs _ _ _ refl (member_declarators_coded s rs ms g)

parameter_from_coded : (only : Bool) (s : Specified) (t : Lexeme) (d : Derived) →
    Coded Any (parameter_from only s t d)
parameter_from_coded only s t d =
    going λ st. let p = (place_of d.name t).pos in
    fine_next (fine_next ((need_coded (is_free st d.name) 131 p refl).at st)
    (judge_coded (formed st s.of d.wraps) false false p).at) λ q. fine_give tt

pub parameter_coded : (t : Lexeme) (r : Reading) (rs : List Reading) (only : Bool) → IsSpecified r →
    AllOf (IsDeclarator true) rs → Coded Any (parameter_of t (r ∷ rs) only)
unfolding parameter_of
parameter_coded t r rs only h g =
    then_coded (h false) λ s u. then_coded (needs _ _ _ refl (abstract_coded r rs g)) λ d u.
    parameter_from_coded only s t d

parameter_list_coded : (k : ℕ) (only : Bool) (rs : List Reading) → AllOf IsParameter rs →
    Coded Any (parameter_list k only rs)
parameter_list_coded k only [] h = give_coded tt
parameter_list_coded k only (r ∷ rs) h =
    then_coded (h.0 only) λ p u. if_coded p.nothing _ _ (give_coded tt)
    (then_coded (next_coded change_coded (parameter_list_coded (k + 1) only rs h.1)) λ ps u. give_coded tt)

pub prototype_coded : (rs : List Reading) → AllOf IsParameter rs → Coded Any (prototype_of rs)
unfolding prototype_of
prototype_coded rs h =
    then_coded (next_coded change_coded (parameter_list_coded 0 _ rs h)) λ ps u.
    going λ s. fine_give tt

-- ---- initializers

pub string_coded : (t : Lexeme) (xs : Syns) (whole : Pos) (of : Ty) (at : ℕ) →
    Coded Any (string_initializer t xs whole of at)
unfolding string_initializer
string_coded t xs whole of at = needs _ _ _ refl (give_coded tt)

pub plain_coded : (d : Doing Operand) → Coded Any d →
    Initializing (plain_initializer d)
unfolding plain_initializer
plain_coded d h asked whole of at g =
    then_coded (then_coded h λ a u. value_coded a) λ x u. then_coded (assigned_coded of x) λ y u.
    next_coded (g _) (give_coded tt)

items_coded : (s : State) (asked : Slot → Doing Unit) (whole : Pos) (of : Ty) (at : ℕ) (brace : Pos) (k : ℕ)
    (rs : List Reading) → ((x : Slot) → Coded Any (asked x)) → AllOf IsInitializer rs →
    Coded Any (items s asked whole of at brace k rs)
items_coded s asked whole of at brace k [] g h = give_coded tt
items_coded s asked whole of at brace k (r ∷ rs) g h =
    then_coded (some_coded (item_place s of k) 133 brace refl) λ p u.
    then_coded (h.0 asked whole p.1 (at + p.0) g) λ f u.
    then_coded (items_coded s asked whole of at brace (k + 1) rs g h.1) λ slots u. give_coded tt

filled_coded : (s : State) (asked : Slot → Doing Unit) (whole : Pos) (of : Ty) (at : ℕ) (brace : Pos) (n : ℕ)
    (rs : List Reading) → ((x : Slot) → Coded Any (asked x)) → AllOf IsInitializer rs →
    Coded {A = Filled} Any (items s asked whole of at brace 0 rs
    >>= λ slots. give (record { slots = slots; count = n }))
filled_coded s asked whole of at brace n rs g h =
    then_coded (items_coded s asked whole of at brace 0 rs g h) λ slots u. give_coded tt

pub braced_coded : (brace : Lexeme) (text : Bool) (rs : List Reading) → AllOf IsInitializer rs →
    Initializing (braced_initializer brace text rs)
unfolding braced_initializer
braced_coded brace text [] h asked whole of at g =
    going λ s. (filled_coded s asked whole of at brace.pos 0 [] g h).at s
braced_coded brace text (r ∷ []) h asked whole of at g =
    if_coded (text && takes_string of) _ _ (h.0 asked whole of at g)
    (going λ s. (filled_coded s asked whole of at brace.pos 1 (r ∷ []) g h).at s)
braced_coded brace text (r ∷ q ∷ rs) h asked whole of at g =
    going λ s. (filled_coded s asked whole of at brace.pos (length (r ∷ q ∷ rs)) (r ∷ q ∷ rs) g h).at s

-- ---- initial bytes and pointers

ask_for_coded : (p : Pos) (a : Aim) (zs : List ℤ) → Coded Any (ask_for p a zs)
ask_for_coded p (To_global k) [] = give_coded tt
ask_for_coded p (To_global k) (z ∷ zs) = going λ s. (ask_for_coded p (To_global k) zs).at _
ask_for_coded p (To_literal k) zs = give_coded tt
ask_for_coded p (To_function k) zs = give_coded tt

start_slot_coded : (s : State) (x : Slot) (v : Start × List ℤ) (f : Found) → Coded Any (start_slot s x v f)
start_slot_coded s x (Number v, asks) f = give_coded tt
start_slot_coded s x (There a r z, asks) f = next_coded (ask_for_coded x.first a asks) (give_coded tt)
start_slot_coded s x (Entry k, asks) f = give_coded tt

pub is_start_coded : (x : Slot) → Coded Any (is_start x)
is_start_coded x =
    going λ s. fine_then ((some_coded (known_value s x.value) 134 x.first refl).at s) λ v q u. fine_give tt

pub start_slots_coded : (xs : List Slot) → Coded Any (start_slots xs)
start_slots_coded [] = give_coded tt
start_slots_coded (x ∷ xs) =
    going λ s. fine_then ((some_coded (known_value s x.value) 134 x.first refl).at s) λ v q u.
    fine_then ((start_slots_coded xs).at q) λ f r u. (start_slot_coded s x v f).at r
