-- What specifiers, parameters and declarators stand for.
use Rattle.std.specs.Prelude.{◌≡◌, ℕ, ◌<◌, List, [], ◌∷◌, length, map, reverse, Option, option_map, All, Result, Ok}
use Rattle.std.specs.Prelude.{Err, Bool, bytes_eq, is_some, ℤ}
use Rattle.std.specs.List.{list_any}
use Rattle.std.specs.Map.{lookup}
use Rattle.ck_base.specs.declared.refusal.Refusal.{Refusal}
use Rattle.ck_base.specs.declared.refusal.Refusal.TheVariants.{Code, NoMemory}
use Rattle.c_tree.specs.declared.syntax.RecordKind.{RecordKind}
use Rattle.c_tree.specs.declared.typed.Member.{Member}
use Rattle.ck_base.specs.Tokens.{Lexeme}
use Rattle.c_tree.specs.Views.{types_of}
use Rattle.c_tree.specs.Scopes as meant
use Rattle.c_tree.specs.Scopes.{State, Doing}
use Rattle.c_tree.specs.Readings as meant_parts
use Rattle.c_tree.specs.Declarators as meant_types
use Rattle.c_types.specs.declared.scopes.Scope.{Scope}
use Rattle.c_types.specs.declared.entries.Faults.{Faults}
use Rattle.c_types.specs.Declares.{storage_of}
use Rattle.c_types.specs.Naming.{IsTagOf}
use Rattle.c_types.specs.Stands.{ShowsScope, text_at}
use Rattle.c_expressions.specs.Nodes.{type_in, type_count}
use Rattle.c_elaborator.specs.declared.work.Work.{Work}
use Rattle.c_elaborator.specs.declared.work.Name.{Name}
use Rattle.c_elaborator.specs.Parts.{token_of}
pub use Rattle.c_plain_rules.specs.Constants.{in_any, ConstantThere, IsConstant, CountThere, IsCount}
use Rattle.c_declarators.specs.declared.parts.Specified.{Specified}
use Rattle.c_declarators.specs.declared.parts.Param.{Param}
use Rattle.c_declarators.specs.declared.parts.Prototype.{Prototype}
use Rattle.c_declarators.specs.declared.parts.Wrap.{Wrap}
use Rattle.c_declarators.specs.declared.parts.Wrap.TheVariants.{Point, Row, Gives}
use Rattle.c_declarators.specs.declared.parts.Derived.{Derived}
use Rattle.c_declarators.specs.declared.parts.Formed.{Formed}
use Rattle.c_declarators.specs.declared.members.Members.{Members}
use Rattle.c_declarators.specs.Forming.{WrapIsThere, formed_in}

-- ---- specifiers

abbrev pub SpecifiedThere : Work → Specified → Type 0
SpecifiedThere w s = s.of < type_count w.nodes

-- of the first token only the place is seen
pub record IsSpecified (w : Work) (s : Specified) (x : meant_parts.Specified) : Type 0 where
  pub first : x.first.pos ≡ s.first
  pub stored : x.stored ≡ s.stored
  pub storage : x.storage ≡ storage_of s.storage
  pub of : x.of ≡ type_in w.nodes s.of

-- ---- parameters

abbrev pub name_token : Work → Option Name → Option Lexeme
name_token w n = option_map (token_of w) n

abbrev pub param_in : Work → Param → meant_parts.Param
param_in w p = record {
  name = name_token w p.name;
  at = token_of w p.at;
  of = type_in w.nodes p.of;
  nothing = p.nothing;
}

abbrev pub ParamThere : Work → Param → Type 0
ParamThere w p = p.of < type_count w.nodes

abbrev pub IsParam : Work → Param → meant_parts.Param → Type 0
IsParam w p x = x ≡ param_in w p

-- ---- declarators. `Scoped` says what is asked of a scope of parameters

pub record IsPrototype (Scoped : Scope → meant.Scope → Type 0) (w : Work) (p : Prototype) (x : meant_parts.Prototype) :
    Type 0 where
  pub params : x.params ≡ map (param_in w) p.params.items
  pub scope : Scoped p.scope x.scope

abbrev pub IsWrap : (Scope → meant.Scope → Type 0) → Work → Wrap → meant_parts.Wrap → Type 0
IsWrap Scoped w (Point q) (meant_parts.Point r) = r ≡ q
IsWrap Scoped w (Row n) (meant_parts.Row m) = m ≡ n
IsWrap Scoped w (Gives p) (meant_parts.Gives x) = IsPrototype Scoped w p x
IsWrap Scoped w a b = ⊥

abbrev pub AreWraps : (Scope → meant.Scope → Type 0) → Work → List Wrap → List meant_parts.Wrap → Type 0
AreWraps Scoped w [] [] = Unit {0}
AreWraps Scoped w (a ∷ rest) (b ∷ bs) = IsWrap Scoped w a b × AreWraps Scoped w rest bs
AreWraps Scoped w xs bs = ⊥

-- what is made first stands last in the list
pub record IsDerived (Scoped : Scope → meant.Scope → Type 0) (w : Work) (d : Derived) (x : meant_parts.Derived) :
    Type 0 where
  pub name : x.name ≡ name_token w d.name
  pub wraps : AreWraps Scoped w (reverse d.wraps.items) x.wraps

abbrev pub DerivedThere : Work → Derived → Type 0
DerivedThere w d = All (WrapIsThere w.nodes) d.wraps.items

-- where the scopes are not looked at
abbrev pub any_scope : Scope → meant.Scope → Type 0
any_scope c m = Unit {0}

-- the scopes show what they stand for in a state
abbrev pub shown_in : Work → State → Scope → meant.Scope → Type 0
shown_in w s c m = ShowsScope (types_of w.nodes.p.types) (length s.tags) c m

abbrev pub ShowsDerived : Work → Derived → State → meant_parts.Derived → Type 0
ShowsDerived w d s x = IsDerived (shown_in w s) w d x

-- ---- types that declarators make

abbrev pub FormedThere : Work → Formed → Type 0
FormedThere w f = f.of < type_count w.nodes

abbrev pub IsFormed : Work → Formed → meant_types.Formed → Type 0
IsFormed w f x = x ≡ formed_in w.nodes f

-- the rules that a type breaks
pub record HasFaults (f : Faults) (x : meant_types.Formed) : Type 0 where
  pub lacks : x.lacks ≡ f.lacks
  pub misfits : x.misfits ≡ f.misfits
  pub too_large : x.too_large ≡ f.too_large

-- a test that does not look at the state
abbrev pub IsJudged : Doing Unit → Result Unit Refusal → Type 0
IsJudged d (Ok x) = (s : State) → d s ≡ Ok (tt, s)
IsJudged d (Err (Code code place)) = (s : State) → d s ≡ Err (record { code = code; place = place })
IsJudged d (Err NoMemory) = ⊥

-- ---- members

pub record IsMember (w : Work) (m : Member) (x : meant.Part) : Type 0 where
  pub text : x.name.text ≡ text_at w.file.now m.name
  pub span : x.name.span ≡ m.name
  pub of : x.of ≡ type_in w.nodes m.of

abbrev pub AreMembers : Work → List Member → List meant.Part → Type 0
AreMembers w [] [] = Unit {0}
AreMembers w (m ∷ ms) (x ∷ xs) = IsMember w m x × AreMembers w ms xs
AreMembers w ms xs = ⊥

abbrev pub MembersThere : Work → List Member → Type 0
MembersThere w ms = All (λ (m : Member). m.of < type_count w.nodes) ms

-- whether members so far have one with a name
abbrev pub has_name : Members → List ℕ → Bool
has_name v text = is_some (lookup (λ k. bytes_eq text k.bytes.now) v.names.entries)

-- the same of the members so far: their names are those that stand in the file
pub record AllMembersThere (w : Work) (v : Members) : Type 0 where
  pub there : MembersThere w v.all.items
  pub names : (text : List ℕ) →
      has_name v text ≡ list_any (λ (m : Member). bytes_eq (text_at w.file.now m.name) text) v.all.items

abbrev pub AreAllMembers : Work → Members → State → List meant.Part → Type 0
AreAllMembers w v s xs = AreMembers w v.all.items xs

-- ---- tags and enumeration constants

-- the number of a struct or union of this kind
abbrev pub IsRecord : RecordKind → Work → ℕ → State → ℕ → Type 0
IsRecord k w n s m = IsTagOf k n s m

-- a whole number
abbrev pub NumberThere : Work → ℤ → Type 0
NumberThere w z = Unit {0}

abbrev pub IsNumber : Work → ℤ → ℤ → Type 0
IsNumber w z x = x ≡ z

-- ---- scopes of parameters

abbrev pub ScopeThere : Work → Scope → Type 0
ScopeThere w c = Unit {0}

abbrev pub ShowsScopeOf : Work → Scope → State → meant.Scope → Type 0
ShowsScopeOf w c s m = shown_in w s c m
