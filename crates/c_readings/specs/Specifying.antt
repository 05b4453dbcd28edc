-- What is read of specifiers, tags, enumerations, declarators and parameters, and what is answered.
use Rattle.std.specs.Prelude.{◌≡◌, ℕ, ◌<◌, ◌+◌, ℤ, pos, Bool, true, false, not, ◌||◌, if◌then◌else◌, List, [], ◌∷◌}
use Rattle.std.specs.Prelude.{◌++◌, length, map, Option, Some, None, option_map, All}
use Rattle.std.specs.Global.{Vec}
use Rattle.ck_base.specs.declared.positions.Pos.{Pos}
use Rattle.ck_base.specs.Tokens.{Lexeme}
use Rattle.c_tree.specs.declared.syntax.RecordKind.{RecordKind}
use Rattle.c_tree.specs.Syntax.{Syn, Syns}
use Rattle.c_tree.specs.Types.{Ty, Tagged, int}
use Rattle.c_tree.specs.Scopes.{Part, State, Doing, give, need, ◌>>=◌, ◌>>◌}
use Rattle.c_tree.specs.Readings.{Reading, Specified, Param, Prototype, Row, Gives, Derived}
use Rattle.c_tree.specs.Declarators as meant
use Rattle.c_tree.specs.Declarators.{names_type, named_types, new_tag, named_tag, begin_tag, complete_tag, all_members}
use Rattle.c_tree.specs.Declarators.{add_member, member_declarators, enumerators, no_derived, wrapped, array_length}
use Rattle.c_tree.specs.Declarators.{parameter_list}
use Rattle.c_tree.specs.Programs.{reading, readings}
use Rattle.c_expressions.specs.Nodes.{type_in, type_count}
use Rattle.c_elaborator.specs.declared.work.Work.{Work}
use Rattle.c_declarators.specs.declared.parts.Param.{Param as Parameter}
use Rattle.c_declarators.specs.declared.parts.Prototype.{Prototype as Parameters}
use Rattle.c_declarators.specs.Forming.{ParamIsThere}
use Rattle.c_declarators.specs.Parts.{param_in, shown_in, IsPrototype}
use Rattle.c_declarators.specs.Steps.{new_enumeration_of}
use Rattle.c_plain_rules.specs.Specifiers.{some_list}
use Rattle.c_readings.specs.Naming.{named_record, named_enum, bound_behind}

-- ---- lists of types and of parameters

abbrev pub TypesThere : Work → Vec ℕ → Type 0
TypesThere w v = All (λ k. k < type_count w.nodes) v.items

abbrev pub AreTypes : Work → Vec ℕ → State → List Ty → Type 0
AreTypes w v s ts = ts ≡ map (type_in w.nodes) v.items

abbrev pub MaybeTypeThere : Work → Option ℕ → Type 0
MaybeTypeThere w None = Unit {0}
MaybeTypeThere w (Some k) = k < type_count w.nodes

abbrev pub IsMaybeType : Work → Option ℕ → State → Option Ty → Type 0
IsMaybeType w o s t = t ≡ option_map (type_in w.nodes) o

abbrev pub ParamsThere : Work → Vec Parameter → Type 0
ParamsThere w v = All (ParamIsThere w.nodes) v.items

abbrev pub AreParams : Work → Vec Parameter → State → List Param → Type 0
AreParams w v s ps = ps ≡ map (param_in w) v.items

abbrev pub PrototypeThere : Work → Parameters → Type 0
PrototypeThere w p = All (ParamIsThere w.nodes) p.params.items

abbrev pub ShowsPrototype : Work → Parameters → State → Prototype → Type 0
ShowsPrototype w p s x = IsPrototype (shown_in w s) w p x

-- ---- specifiers

-- the type that one of the specifiers names
abbrev pub maybe_type : Bool → Syn → Doing (Option Ty)
maybe_type alone x = (if names_type x then ((reading x).type alone >>= λ t. give (Some t)) else give None)

-- the types of the specifiers that are left, behind those of the others
abbrev pub types_on : Bool → Syns → List Ty → Doing (List Ty)
types_on alone xs ts = named_types alone xs (readings xs) >>= λ us. give (ts ++ us)

abbrev pub type_behind : Bool → Syn → List Ty → Doing (List Ty)
type_behind alone x ts = maybe_type alone x >>= λ o. give (ts ++ some_list o)

-- specifiers without a storage class
abbrev pub unstored : Reading → Bool → Pos → Doing Specified
unstored r register p = r.specified false >>= λ s. need (not (s.stored || register)) 133 p >> give s

-- ---- structs and unions

abbrev pub filled : RecordKind → ℕ → List Reading → Pos → Pos → Doing Ty
filled k n rs at keyword = begin_tag n at >> all_members rs [] >>= λ ms. complete_tag k n ms keyword >> give (Tagged n)

abbrev pub untagged : RecordKind → List Reading → Pos → Doing Ty
untagged k rs p = new_tag k >>= λ m. filled k m rs p p

-- a tag, and what is behind it
abbrev pub tagged_record : RecordKind → Bool → Lexeme → List Reading → Pos → Doing Ty
tagged_record k alone n [] p = named_record k alone n
tagged_record k alone n (r ∷ rs) p = named_tag true k n >>= λ m. filled k m (r ∷ rs) n.pos p

abbrev pub members_on : Syns → List Part → Doing (List Part)
members_on xs ms = all_members (readings xs) ms

abbrev pub members_of : Syn → List Part → Doing (List Part)
members_of x ms = (reading x).members ms

abbrev pub member_declarator : Specified → Reading → List Part → Doing (List Part)
member_declarator s r ms = r.derived >>= λ d. add_member s s.stored d.name d.wraps ms

abbrev pub declarators_on : Specified → Syns → List Part → Doing (List Part)
declarators_on s xs ms = member_declarators s (readings xs) ms

abbrev pub declarator_at : Specified → Syn → List Part → Doing (List Part)
declarator_at s x ms = member_declarator s (reading x) ms

-- ---- enumerations

abbrev pub listed : List Reading → Doing Ty
listed rs = enumerators rs (pos 0) >> give int

abbrev pub tagged_enumeration : Lexeme → List Reading → Doing Ty
tagged_enumeration n [] = named_enum n
tagged_enumeration n (r ∷ rs) = new_enumeration_of n >> listed (r ∷ rs)

abbrev pub enumerators_on : Syns → ℤ → Doing Unit
enumerators_on xs z = enumerators (readings xs) z

abbrev pub enumerator_at : Syn → ℤ → Doing ℤ
enumerator_at x z = (reading x).enumerator z

-- ---- declarators

-- the first of these, if there is one
abbrev pub within : List Reading → Doing Derived
within [] = give no_derived
within (r ∷ rs) = r.derived

abbrev pub row_of : List Reading → Reading → Doing Derived
row_of rs q = within rs >>= λ d. array_length q >>= λ n. give (wrapped (Row n) d)

abbrev pub function_of : List Reading → Reading → Doing Derived
function_of rs q = within rs >>= λ d. q.prototype >>= λ p. give (wrapped (Gives p) d)

-- ---- parameters

abbrev pub params_on : Bool → Syns → List Param → Doing (List Param)
params_on only xs ps = parameter_list (length ps) only (readings xs) >>= λ qs. give (ps ++ qs)

abbrev pub param_behind : List Param → Param → Doing (List Param)
param_behind ps p = bound_behind ps p >> give (ps ++ p ∷ [])
