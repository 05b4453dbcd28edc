-- The typing of specifiers, of tags and of declarators (C11 6.7.1 to 6.7.7).
use Rattle.std.specs.Prelude.{ℕ, zero, suc, ◌+◌, ◌-◌, ◌^◌, ℤ, pos, negsuc, ◌+ℤ◌, Bool, true, false, not, ◌&&◌, ◌||◌}
use Rattle.std.specs.Prelude.{◌==◌, nat_lt, nat_le, if◌then◌else◌, List, [], ◌∷◌, ◌++◌, length, Option, Some, None}
use Rattle.std.specs.Prelude.{bytes_eq, slice_get}
use Rattle.std.specs.Prelude.{int_le}
use Rattle.ck_base.specs.declared.positions.Pos.{Pos}
use Rattle.ck_base.specs.Tokens.{Lexeme}
use Rattle.ck_int.specs.declared.kinds.IntKind.TheVariants as kind
use Rattle.ck_int.specs.Kinds.{value_of}
use Rattle.c_tree.specs.declared.syntax.NodeKind.{NodeKind}
use Rattle.c_tree.specs.declared.syntax.NodeKind.TheVariants as Kinds
use Rattle.c_tree.specs.declared.syntax.SpecifierWord.{SpecifierWord}
use Rattle.c_tree.specs.declared.syntax.SpecifierWord.TheVariants as words
use Rattle.c_tree.specs.declared.syntax.RecordKind.{RecordKind}
use Rattle.c_tree.specs.declared.syntax.RecordKind.TheVariants.{Struct, Union}
use Rattle.c_tree.specs.Layout.{Extent, with_extent, behind, beside, no_members, whole, size_limit}
use Rattle.c_tree.specs.Syntax.{Syn, Syns, node, nil, more}
use Rattle.c_tree.specs.Types.{Ty, Void, Int, Cap, Pointer, Array, Tagged, Function, Const, Tys, no_types, also, bool}
use Rattle.c_tree.specs.Types.{char, signed_char, unsigned_char, int, long, unsigned_long, qualified, bare, is_function}
use Rattle.c_tree.specs.Types.{is_array, adjusted, in_signature}
use Rattle.c_tree.specs.Scopes.{Entity, Local, Alias, Enumerator, Tagging, Recorded, Enumerated, Part, TagState, State}
use Rattle.c_tree.specs.Scopes.{Doing, give, refuse, need, look, change, some_or, ◌>>=◌, ◌>>◌, find_in, find_name}
use Rattle.c_tree.specs.Scopes.{find_tag, innermost, bind_name, bind_tag, enter, leave, changed_at, type_extent}
use Rattle.c_tree.specs.Scopes.{extent_size, is_complete}
use Rattle.c_tree.specs.Constants.{kind_of, constant_of}
use Rattle.c_tree.specs.Conversions.{operand_type}
use Rattle.c_tree.specs.Readings.{Storage, Plain, Internal, External, Defining_type, Specified, Param, Prototype, Wrap}
use Rattle.c_tree.specs.Readings.{Point, Row, Gives, Derived, Reading}
use Rattle.c_tree.specs.Expressions.{unevaluated, read_value}

-- ---- constant expressions in declarations (6.6)

-- an integer constant expression, and the first byte of it
pub record Constant : Type 0 where
  pub number : ℤ
  pub first : Pos

abbrev pub number_of : Ty → ℕ → ℤ
number_of t v = value_of (kind_of t) v

-- It leaves nothing behind
abbrev pub constant : Reading → Doing Constant
constant r = unevaluated (read_value r) >>= λ x.
    some_or (constant_of x.is) 134 x.first
    >>= λ v. give (record { number = number_of (bare (operand_type x)) v; first = x.first })

-- ---- words among specifiers (6.7.1, 6.7.2)

abbrev pub is_word : SpecifierWord → SpecifierWord → Bool
is_word words.Typedef words.Typedef = true
is_word words.Static words.Static = true
is_word words.Extern words.Extern = true
is_word words.Auto words.Auto = true
is_word words.Register words.Register = true
is_word words.Const words.Const = true
is_word words.Void words.Void = true
is_word words.Char words.Char = true
is_word words.Short words.Short = true
is_word words.Int words.Int = true
is_word words.Long words.Long = true
is_word words.Signed words.Signed = true
is_word words.Unsigned words.Unsigned = true
is_word words.Bool words.Bool = true
is_word words.IntCap words.IntCap = true
is_word words.UintCap words.UintCap = true
is_word v w = false

-- how often a word stands there
abbrev pub times_there : SpecifierWord → Syns → ℕ
times_there w nil = 0
times_there w (more (node (Kinds.Specifier v) t ys) xs) =
    (if is_word w v then times_there w xs + 1 else times_there w xs)
times_there w (more x xs) = times_there w xs

abbrev pub has_word : SpecifierWord → Syns → Bool
has_word w xs = nat_lt 0 (times_there w xs)

-- how many of the words that stand for types
abbrev pub type_words : Syns → ℕ
type_words xs =
    times_there words.Void xs + times_there words.Char xs + times_there words.Short xs + times_there words.Int xs
    + times_there words.Long xs
    + times_there words.Signed xs + times_there words.Unsigned xs + times_there words.Bool xs
    + times_there words.IntCap xs + times_there words.UintCap xs

abbrev pub storage_words : Syns → ℕ
storage_words xs =
    times_there words.Typedef xs + times_there words.Static xs + times_there words.Extern xs + times_there words.Auto xs
    + times_there words.Register xs

abbrev pub storage_of : Syns → Storage
storage_of xs =
    (if has_word words.Typedef xs then Defining_type
    else (if has_word words.Static xs then Internal else (if has_word words.Extern xs then External else Plain)))

-- the numbers of `short`, `long`, `char` and `int` that stand for an integer type, and the type with a sign and without
-- one
abbrev pub signs : Syns → Ty → Ty → Option Ty
signs xs s u =
    (if nat_le (times_there words.Signed xs + times_there words.Unsigned xs) 1
    then Some (if has_word words.Unsigned xs then u else s) else None)

-- 6.7.2p2: the lists of words that are types, in any order
abbrev pub word_type : Syns → Option Ty
word_type xs =
    let n = type_words xs in
    let sign = times_there words.Signed xs + times_there words.Unsigned xs in
    let ints = times_there words.Int xs in
    (if n == 1 && has_word words.Void xs then Some Void
    else (if n == 1 && has_word words.Bool xs then Some bool
    else (if n == 1 && has_word words.IntCap xs then Some (Cap true)
    else (if n == 1 && has_word words.UintCap xs then Some (Cap false)
    else (if n == 1 && has_word words.Char xs then Some char
    else (if times_there words.Char xs == 1 && n == sign + 1 then signs xs signed_char unsigned_char
    else (if nat_lt 1 ints then None
    else (if times_there words.Short xs == 1 && n == sign + ints + 1 then signs xs (Int kind.I16 0) (Int kind.U16 0)
    else (if times_there words.Long xs == 1 && n == sign + ints + 1 then signs xs long unsigned_long
    else (if times_there words.Long xs == 2 && n == sign + ints + 2 then signs xs (Int kind.I64 1) (Int kind.U64 1)
    else (if nat_lt 0 n && n == sign + ints then signs xs int (Int kind.U32 0)
    else None)))))))))))

-- the type that specifiers name, by their words and by the types of the others among them
abbrev pub specified_type : Syns → List Ty → Option Ty
specified_type xs [] = word_type xs
specified_type xs (t ∷ []) = (if type_words xs == 0 then Some t else None)
specified_type xs (t ∷ u ∷ ts) = None

abbrev pub names_type : Syn → Bool
names_type (node Kinds.TypedefName t xs) = true
names_type (node (Kinds.Record k) t xs) = true
names_type (node Kinds.Enum t xs) = true
names_type x = false

-- typedef names, structs, unions and enumerations among the specifiers, in their order
abbrev pub named_types : Bool → Syns → List Reading → Doing (List Ty)
named_types alone (more x xs) (r ∷ rs) =
    (if names_type x then (r.type alone >>= λ t. named_types alone xs rs >>= λ ts. give (t ∷ ts))
    else named_types alone xs rs)
named_types alone xs rs = give []

abbrev pub with_const : Syns → Ty → Ty
with_const xs t = (if has_word words.Const xs then qualified t else t)

-- Specifiers: what stands among them, and then at most one storage-class specifier, and a type. Only `struct S` and
-- nothing else before the `;` declares a tag of this scope (6.7.2.3p7)
unfoldable pub specifiers : Bool → Lexeme → Syns → List Reading → Doing Specified
specifiers alone t xs rs =
    named_types (alone && length rs == 1) xs rs >>= λ ts.
    need (nat_le (storage_words xs) 1) 133 t.pos >>
    some_or (specified_type xs ts) 133 t.pos >>= λ of.
    give (record {
      first = t;
      stored = nat_lt (times_there words.Register xs) (storage_words xs);
      storage = storage_of xs;
      of = with_const xs of;
    })

-- a typedef name (6.7.8)
abbrev pub alias_type : Option Entity → Pos → Doing Ty
alias_type (Some (Alias t)) p = give t
alias_type e p = refuse 133 p

abbrev pub typedef_name : Lexeme → Doing Ty
typedef_name t = look >>= λ s. alias_type (find_name s.scopes t.text) t.pos

-- ---- structs and unions (6.7.2.1, 6.7.2.3)

abbrev pub same_record : RecordKind → RecordKind → Bool
same_record Struct Struct = true
same_record Union Union = true
same_record j k = false

abbrev pub has_kind : Option TagState → RecordKind → Bool
has_kind None k = false
has_kind (Some t) k = same_record t.kind k

abbrev pub kind_at : State → ℕ → RecordKind → Bool
kind_at s n k = has_kind (slice_get s.tags n) k

-- a new struct or union that is not complete, with this tag or without one
abbrev pub new_tag : RecordKind → Doing ℕ
new_tag k = look >>= λ s. change (λ s. record s
    { tags = s.tags ++ record { kind = k; begun = false; members = None; extent = None } ∷ [] })
    >> give (length s.tags)

abbrev pub declare_tag : RecordKind → Lexeme → Doing ℕ
declare_tag k t = new_tag k >>= λ n. change (bind_tag t.text (Recorded n)) >> give n

-- A tag that is in force must be of the kind named
abbrev pub as_record : RecordKind → Lexeme → Option Tagging → Doing ℕ
as_record k t None = declare_tag k t
as_record k t (Some Enumerated) = refuse 133 t.pos
as_record k t (Some (Recorded n)) = look >>= λ s. need (kind_at s n k) 133 t.pos >> give n

-- `struct S` names the one in force; where it stands alone, or with members, the one of this scope (6.7.2.3p7, p11)
abbrev pub named_tag : Bool → RecordKind → Lexeme → Doing ℕ
named_tag here k t = look >>= λ s.
    as_record k t (if here then find_in (innermost s.scopes).tags t.text else find_tag s.scopes t.text)

abbrev pub is_begun : Option TagState → Bool
is_begun None = false
is_begun (Some t) = t.begun

-- Its braces are opened, which happens once: a tag is declared from its name on, so also within them (6.2.1p7,
-- 6.7.2.3p1)
abbrev pub begin_tag : ℕ → Pos → Doing Unit
begin_tag n p = look >>= λ s.
    need (not (is_begun (slice_get s.tags n))) 131 p >>
    change (λ s. record s { tags = changed_at (λ (t : TagState). record t { begun = true }) s.tags n })

-- the layout of the members, in a struct or in a union
abbrev pub members_extent : List TagState → (Extent → Extent → Extent) → List Part → Extent → Option Extent
members_extent tags place [] x = whole x
members_extent tags place (m ∷ ms) x =
    with_extent (type_extent tags m.of) (λ y. members_extent tags place ms (place y x))

abbrev pub record_extent : List TagState → RecordKind → List Part → Option Extent
record_extent tags Struct ms = members_extent tags behind ms no_members
record_extent tags Union ms = members_extent tags beside ms no_members

abbrev pub completed : List TagState → RecordKind → List Part → TagState → TagState
completed tags k ms t = record t { members = Some ms; extent = record_extent tags k ms }

-- the members make it complete; it may be too large by itself
abbrev pub complete_tag : RecordKind → ℕ → List Part → Pos → Doing Unit
complete_tag k n ms p = look >>= λ s.
    need (nat_le (extent_size (record_extent s.tags k ms)) size_limit) 140 p >>
    change (λ s. record s { tags = changed_at (completed s.tags k ms) s.tags n })

abbrev pub all_members : List Reading → List Part → Doing (List Part)
all_members [] ms = give ms
all_members (r ∷ rs) ms = r.members ms >>= λ ns. all_members rs ns

-- the place of a tag, and of the keyword where there is none
abbrev pub filled_tag : RecordKind → ℕ → List Reading → Lexeme → Pos → Doing Ty
filled_tag k n rs keyword at =
    begin_tag n at >> all_members rs [] >>= λ ms. complete_tag k n ms keyword.pos >> give (Tagged n)

-- A struct or union: with a tag alone, with a tag and members, or with members alone
unfoldable pub record_specifier : RecordKind → Bool → Lexeme → Syns → List Reading → Doing Ty
record_specifier k alone t (more (node Kinds.Tag n ys) nil) rs = named_tag alone k n >>= λ m. give (Tagged m)
record_specifier k alone t (more (node Kinds.Tag n ys) (more x xs)) (r ∷ rs) =
    named_tag true k n >>= λ m. filled_tag k m rs t n.pos
record_specifier k alone t xs rs = new_tag k >>= λ m. filled_tag k m rs t t.pos

-- ---- enumerations (6.7.2.2)

abbrev pub in_int : ℤ → Bool
in_int z = int_le (negsuc (2 ^ 31 - 1)) z && int_le z (pos (2 ^ 31 - 1))

abbrev pub is_none : Option Entity → Bool
is_none None = true
is_none (Some e) = false

abbrev pub is_new : State → List ℕ → Bool
is_new s name = is_none (find_in (innermost s.scopes).names name)

-- An enumeration constant has its value from here on. It gives the value that the next one has without an expression
abbrev pub enumerate : Lexeme → ℤ → Pos → Doing ℤ
enumerate t z p = look >>= λ s.
    need (is_new s t.text) 131 t.pos >> need (in_int z) 134 p >> change (bind_name t.text (Enumerator z))
    >> give (z +ℤ pos 1)

unfoldable pub enumerator : Lexeme → List Reading → ℤ → Doing ℤ
enumerator t (r ∷ rs) next = constant r >>= λ c. enumerate t c.number c.first
enumerator t [] next = enumerate t next t.pos

abbrev pub enumerators : List Reading → ℤ → Doing Unit
enumerators [] next = give tt
enumerators (r ∷ rs) next = r.enumerator next >>= λ z. enumerators rs z

-- a tag with a list is new in its scope, and one without a list is in force
abbrev pub new_enumeration : Lexeme → Option Tagging → Doing Unit
new_enumeration t None = change (bind_tag t.text Enumerated)
new_enumeration t (Some Enumerated) = refuse 131 t.pos
new_enumeration t (Some (Recorded n)) = refuse 133 t.pos

abbrev pub named_enumeration : Lexeme → Option Tagging → Doing Unit
named_enumeration t None = refuse 132 t.pos
named_enumeration t (Some Enumerated) = give tt
named_enumeration t (Some (Recorded n)) = refuse 133 t.pos

-- its type is `int`
unfoldable pub enum_specifier : Syns → List Reading → Doing Ty
enum_specifier (more (node Kinds.Tag n ys) nil) rs =
    look >>= λ s. named_enumeration n (find_tag s.scopes n.text) >> give int
enum_specifier (more (node Kinds.Tag n ys) (more x xs)) (r ∷ rs) =
    look >>= λ s. new_enumeration n (find_in (innermost s.scopes).tags n.text) >> enumerators rs (pos 0) >> give int
enum_specifier xs rs = enumerators rs (pos 0) >> give int

-- ---- declarators (6.7.6)

abbrev pub wrapped : Wrap → Derived → Derived
wrapped w d = record d { wraps = w ∷ d.wraps }

abbrev pub no_derived : Derived
no_derived = record { name = None; wraps = [] }

-- the number of elements: at least 1
abbrev pub positive : ℤ → Option ℕ
positive (pos zero) = None
positive (pos (suc n)) = Some (suc n)
positive (negsuc n) = None

abbrev pub array_length : Reading → Doing ℕ
array_length r = constant r >>= λ c. some_or (positive c.number) 134 c.first

abbrev pub parts_const : Syns → Bool
parts_const (more (node k t ys) xs) = has_word words.Const ys
parts_const nil = false

-- A declarator's parts in the order of the source, and then itself: what is before `[` and `(` is made of an array or a
-- function, and what is behind `*` is made of a pointer
unfoldable pub declarator_of : NodeKind → Lexeme → Syns → List Reading → Doing Derived
declarator_of Kinds.DeclaredName t xs rs = give (record { name = Some t; wraps = [] })
declarator_of Kinds.ParenthesizedDeclarator t xs (r ∷ rs) = r.derived
declarator_of Kinds.Pointer t xs (q ∷ []) = give (wrapped (Point (parts_const xs)) no_derived)
declarator_of Kinds.Pointer t xs (q ∷ r ∷ rs) = r.derived >>= λ d. give (wrapped (Point (parts_const xs)) d)
declarator_of Kinds.OpenArray t xs [] = give (wrapped (Row 0) no_derived)
declarator_of Kinds.OpenArray t xs (r ∷ rs) = r.derived >>= λ d. give (wrapped (Row 0) d)
declarator_of Kinds.Array t xs (r ∷ []) = array_length r >>= λ n. give (wrapped (Row n) no_derived)
declarator_of Kinds.Array t xs (r ∷ q ∷ rs) = r.derived >>= λ d. array_length q >>= λ n. give (wrapped (Row n) d)
declarator_of Kinds.Function t xs (r ∷ []) = r.prototype >>= λ p. give (wrapped (Gives p) no_derived)
declarator_of Kinds.Function t xs (r ∷ q ∷ rs) = r.derived >>= λ d. q.prototype >>= λ p. give (wrapped (Gives p) d)
declarator_of k t xs rs = refuse 120 t.pos

-- ---- the type that a declarator makes

-- The type, and which rules it breaks: an array has elements of complete object type; a function gives no array and no
-- function, and what it gives has no qualifier of its own (6.7.6.3p5); an array is not over the limit
pub record Formed : Type 0 where
  pub of : Ty
  pub lacks : Bool
  pub misfits : Bool
  pub too_large : Bool

abbrev pub plainly : Ty → Formed
plainly t = record { of = t; lacks = false; misfits = false; too_large = false }

abbrev pub pointer_to : Bool → Ty → Ty
pointer_to true t = Const (Pointer t)
pointer_to false t = Pointer t

abbrev pub over_limit : State → Ty → Bool
over_limit s t = nat_lt size_limit (extent_size (type_extent s.tags t))

abbrev pub signature : List Param → Tys
signature [] = no_types
signature (p ∷ ps) = also (in_signature p.of) (signature ps)

abbrev pub is_given : Ty → Bool
is_given t = not (is_array t) && not (is_function t)

abbrev pub wrap_on : State → Wrap → Formed → Formed
wrap_on s (Point q) f = record f { of = pointer_to q f.of }
wrap_on s (Row n) f = record {
  of = Array f.of n;
  lacks = f.lacks || not (is_function f.of || is_complete s f.of);
  misfits = f.misfits || is_function f.of;
  too_large = f.too_large || over_limit s (Array f.of n);
}
wrap_on s (Gives p) f = record {
  of = Function (bare f.of) (signature p.params);
  lacks = f.lacks;
  misfits = f.misfits || not (is_given f.of);
  too_large = f.too_large;
}

abbrev pub form_on : State → List Wrap → Formed → Formed
form_on s [] f = f
form_on s (w ∷ ws) f = form_on s ws (wrap_on s w f)

unfoldable pub formed : State → Ty → List Wrap → Formed
formed s t ws = form_on s ws (plainly t)

-- the rules on the type itself, and others on what is declared, at one place, the lowest code first
abbrev pub judge : Formed → (lacks misfits : Bool) → Pos → Doing Unit
judge f lacks misfits p =
    need (not (f.lacks || lacks)) 132 p >> need (not (f.misfits || misfits)) 133 p >> need (not f.too_large) 140 p

-- ---- type names (6.7.7)

abbrev pub abstract : Reading → List Reading → Doing Derived
abstract r [] = give no_derived
abstract r (q ∷ qs) = q.derived

abbrev pub has_register : Syns → Bool
has_register nil = false
has_register (more (node k t xs) ys) = has_word words.Register xs

unfoldable pub type_name : Lexeme → Syns → List Reading → Doing Ty
type_name t xs [] = refuse 120 t.pos
type_name t xs (r ∷ rs) =
    r.specified false >>= λ s. need (not (s.stored || has_register xs)) 133 t.pos >> abstract r rs >>= λ d. look
    >>= λ st.
    let f = formed st s.of d.wraps in
    judge f false false t.pos >> give f.of

-- ---- members (6.7.2.1)

abbrev pub has_part : List Part → List ℕ → Bool
has_part [] name = false
has_part (m ∷ ms) name = bytes_eq m.name.text name || has_part ms name

-- a member has a name of its own, and a complete object type
abbrev pub add_member : Specified → Bool → Option Lexeme → List Wrap → List Part → Doing (List Part)
add_member s stored None ws ms = refuse 120 s.first.pos
add_member s stored (Some t) ws ms = look >>= λ st.
    let f = formed st s.of ws in
    need (not (has_part ms t.text)) 131 t.pos >>
    judge f (not (is_function f.of || is_complete st f.of)) (is_function f.of) t.pos >>
    give (ms ++ record { name = t; of = f.of } ∷ [])

abbrev pub member_declarators : Specified → List Reading → List Part → Doing (List Part)
member_declarators s [] ms = give ms
member_declarators s (r ∷ rs) ms =
    r.derived >>= λ d. add_member s s.stored d.name d.wraps ms >>= λ ns. member_declarators s rs ns

unfoldable pub member_of : Lexeme → Syns → List Reading → List Part → Doing (List Part)
member_of t xs [] ms = refuse 120 t.pos
member_of t xs (r ∷ rs) ms =
    r.specified false >>= λ s. need (not (s.stored || has_register xs)) 133 t.pos >> member_declarators s rs ms

-- ---- parameters (6.7.6.3)

abbrev pub place_of : Option Lexeme → Lexeme → Lexeme
place_of (Some t) first = t
place_of None first = first

abbrev pub is_free : State → Option Lexeme → Bool
is_free s None = true
is_free s (Some t) = is_new s t.text

abbrev pub is_nothing : Bool → Option Lexeme → List Wrap → Ty → Bool
is_nothing only None [] Void = only
is_nothing only name ws t = false

-- A parameter, with its type adjusted. That it is complete is asked where its function is defined or called
abbrev pub parameter_from : Bool → Specified → Lexeme → Derived → Doing Param
parameter_from only s first d = look >>= λ st.
    let f = formed st s.of d.wraps in
    let t = adjusted f.of in
    let at = place_of d.name first in
    let nothing = is_nothing only d.name d.wraps s.of in
    need (is_free st d.name) 131 at.pos >>
    judge f false false at.pos >>
    give (record { name = d.name; at = at; of = t; nothing = nothing })

unfoldable pub parameter_of : Lexeme → List Reading → Bool → Doing Param
parameter_of t [] only = refuse 120 t.pos
parameter_of t (r ∷ rs) only =
    r.specified false >>= λ s. need (not s.stored) 133 t.pos >> abstract r rs >>= λ d. parameter_from only s t d

abbrev pub bind_local : ℕ → Ty → Option Lexeme → State → State
bind_local k of None s = s
bind_local k of (Some t) s = bind_name t.text (Local k of) s

abbrev pub bind_parameter : ℕ → Param → State → State
bind_parameter k p s = bind_local k p.of p.name s

-- each name is in force behind its parameter
abbrev pub parameter_list : ℕ → Bool → List Reading → Doing (List Param)
parameter_list k only [] = give []
parameter_list k only (r ∷ rs) =
    r.parameter only >>= λ p.
    (if p.nothing then give []
    else change (bind_parameter k p) >> parameter_list (k + 1) only rs >>= λ ps. give (p ∷ ps))

-- the parameters are declared in a scope of their own (6.2.1p4), which a function's body goes on with
unfoldable pub prototype_of : List Reading → Doing Prototype
prototype_of rs =
    enter >> parameter_list 0 (length rs == 1) rs >>= λ ps. look >>= λ s. leave
    >> give (record { params = ps; scope = innermost s.scopes })
