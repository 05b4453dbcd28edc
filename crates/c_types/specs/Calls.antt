-- What a call answers, against a step of the typing.
use Rattle.std.specs.Prelude.{◌≡◌, ℕ, ◌<◌, ◌≤◌, Bool, true, List, length, map, Option, Some, None, Result, Ok, Err}
use Rattle.std.specs.Prelude.{if◌then◌else◌, slice_get}
use Rattle.ck_base.specs.declared.positions.Pos.{Pos}
use Rattle.ck_base.specs.declared.refusal.Refusal.{Refusal}
use Rattle.ck_base.specs.declared.refusal.Refusal.TheVariants.{Code, NoMemory}
use Rattle.ck_base.specs.Tokens.{Lexeme}
use Rattle.c_tree.specs.declared.syntax.RecordKind.TheVariants as records
use Rattle.c_tree.specs.declared.typed.GlobalDef.{GlobalDef}
use Rattle.c_tree.specs.declared.typed.FunDef.{FunDef}
use Rattle.c_tree.specs.declared.typed.Typed.{Typed}
use Rattle.c_tree.specs.Types.{Ty, Tagged, int}
use Rattle.c_tree.specs.Scopes as meant
use Rattle.c_tree.specs.Scopes.{Part, State, Doing, Fault}
use Rattle.c_tree.specs.declared.syntax.RecordKind.{RecordKind}
use Rattle.c_tree.specs.Readings.{Storage, Defining_type}
use Rattle.c_tree.specs.Declarators.{Formed, kind_at, complete_tag}
use Rattle.c_types.specs.declared.entries.Decl.{Decl}
use Rattle.c_types.specs.declared.entries.DeclKind.{DeclKind}
use Rattle.c_types.specs.declared.entries.DeclKind.TheVariants as kinds
use Rattle.c_types.specs.declared.entries.Entry.{Entry}
use Rattle.c_types.specs.declared.entries.Entry.TheVariants as entries
use Rattle.c_types.specs.declared.entries.TagKind.TheVariants as tag_kinds
use Rattle.c_types.specs.declared.scopes.Scopes.{Scopes}
use Rattle.c_interner.specs.Numbers.{type_named}
use Rattle.c_tree.specs.declared.typed.Member.{Member}
use Rattle.c_types.specs.Stands.{Stands, part_seen, member_kept}
use Rattle.c_types.specs.Declares.{storage_of, name_of, formed_of, declares_named, declares_definition}
use Rattle.c_types.specs.Declares.{giving, declares_constant, declares_tag}

-- a step gives this result and this state, for which the scopes and the program stand
pub record Given {A : Type 0} (sc : Scopes) (p : Typed) (r : Result (A × State) Fault) (Fits : State → A → Type 0) :
    Type 0 where
  pub value : A
  pub state : State
  pub is : r ≡ Ok (value, state)
  pub stands : Stands sc p state
  pub fits : Fits state value

-- from the scopes and the program before to those after, a step is done
abbrev pub Does : {A : Type 0} → (before : Scopes) (p : Typed) (after : Scopes) (q : Typed) → Doing A →
    (State → A → Type 0) → Type 0
Does before p after q d Fits = (s : State) → Stands before p s → Given after q (d s) Fits

-- nothing that is seen has changed
abbrev pub Keeps : (before after : Scopes) (p : Typed) → Type 0
Keeps before after p = (s : State) → Stands before p s → Stands after p s

pub record Fails {A : Type 0} (before : Scopes) (p : Typed) (after : Scopes) (q : Typed) (d : Doing A) (code : ℕ)
    (place : Pos) : Type 0 where
  pub refused : (s : State) → Stands before p s → d s ≡ Err (record { code = code; place = place })
  pub program : q ≡ p
  pub keeps : Keeps before after p

-- The answer is the step's: its result, or the refusal that it gives. After a refusal, and for want of memory, nothing
-- that is seen has changed
abbrev pub Answers : {A X : Type 0} → (before : Scopes) (p : Typed) (after : Scopes) (q : Typed) → Doing A →
    (X → State → A → Type 0) → Result X Refusal → Type 0
Answers before p after q d Fits (Ok x) = Does before p after q d (Fits x)
Answers before p after q d Fits (Err (Code code place)) = Fails before p after q d code place
Answers before p after q d Fits (Err NoMemory) = (q ≡ p) × Keeps before after p

-- ---- entries

abbrev pub IsEntity : Typed → Entry → meant.Entity → Type 0
IsEntity p (entries.Var k) e = (t : Ty) × (e ≡ meant.Local k t)
IsEntity p (entries.Global k) e = e ≡ meant.Static k
IsEntity p (entries.Fun k) e = e ≡ meant.Routine k
IsEntity p (entries.Typedef t) e = e ≡ meant.Alias (type_named p t)
IsEntity p (entries.Constant z) e = e ≡ meant.Enumerator z
IsEntity p (entries.Library k) e = (of : Option Ty) × (e ≡ meant.Library k of)
IsEntity p (entries.Tag t k) e = ⊥

-- a tag of this kind, whose type a number names
pub record IsRecordTag (p : Typed) (s : State) (t : ℕ) (k : RecordKind) (g : meant.Tagging) : Type 0 where
  pub tag : ℕ
  pub is : g ≡ meant.Recorded tag
  pub type : type_named p t ≡ Tagged tag
  pub kind : kind_at s tag k ≡ true

abbrev pub IsTag : Typed → Entry → State → meant.Tagging → Type 0
IsTag p (entries.Tag t tag_kinds.Struct) s g = IsRecordTag p s t records.Struct g
IsTag p (entries.Tag t tag_kinds.Union) s g = IsRecordTag p s t records.Union g
IsTag p (entries.Tag t tag_kinds.Enum) s g = (g ≡ meant.Enumerated) × (type_named p t ≡ int)
IsTag p e s g = ⊥

-- an entry for each thing that is there
abbrev pub Found : {A : Type 0} → (Entry → A → Type 0) → Option Entry → Option A → Type 0
Found Is None None = Unit {0}
Found Is (Some x) (Some a) = Is x a
Found Is x a = ⊥

-- ---- members

-- the members of a struct or union, by the numbers of their types
abbrev pub HasParts : List Ty → List Part → List Member → Type 0
HasParts ts parts ms = map part_seen parts ≡ map (member_kept ts) ms

-- the completion of a struct or union of this kind
abbrev pub Completes : Scopes → Typed → Scopes → Typed → RecordKind → ℕ → List Part → Pos → Result Unit Refusal → Type 0
Completes before p after q k n parts place (Ok x) =
    (s : State) → Stands before p s → kind_at s n k ≡ true →
    Given after q (complete_tag k n parts place s) (λ t a. Unit {0})
Completes before p after q k n parts place (Err (Code code at)) =
    ((s : State) → Stands before p s → kind_at s n k ≡ true →
    complete_tag k n parts place s ≡ Err (record { code = code; place = at })) × (q ≡ p) × Keeps before after p
Completes before p after q k n parts place (Err NoMemory) = (q ≡ p) × Keeps before after p

-- ---- declarations

-- the entry of what the name denotes from here on
abbrev pub IsDeclared : Typed → Entry → State → meant.Entity → Type 0
IsDeclared p x s e = IsEntity p x e

-- the step that a declaration is, by what it is of
abbrev pub declares_kind : DeclKind → Storage → Lexeme → Formed → Bool → Doing meant.Entity
declares_kind kinds.Object storage t f defines = declares_named storage t f defines
declares_kind kinds.Fun storage t f defines =
    (if defines then giving meant.Routine (declares_definition storage t f) else declares_named storage t f defines)
declares_kind (kinds.Constant z) storage t f defines = declares_constant t z
declares_kind k storage t f defines = declares_named Defining_type t f defines

abbrev pub DeclaresKind : DeclKind → List ℕ → Scopes → Typed → Scopes → Typed → Decl → Result Entry Refusal → Type 0
DeclaresKind (kinds.Tag k) file before p after q d r =
    Answers before p after q (declares_tag k (name_of file d) d.defines) (IsTag q) r
DeclaresKind k file before p after q d r =
    Answers before p after q (declares_kind k (storage_of d.storage) (name_of file d) (formed_of p d) d.defines)
    (IsDeclared q) r

-- a declaration of a type of the program
abbrev pub Declares : List ℕ → Scopes → Typed → Scopes → Typed → Decl → Result Entry Refusal → Type 0
Declares file before p after q d r = d.of < length p.types → DeclaresKind d.what file before p after q d r

-- ---- what stays of a program

-- each item of a list has one at its place in another list
abbrev pub EachKept : {A : Type 0} → (A → A → Type 0) → List A → List A → Type 0
EachKept {A} Kept xs ys = (k : ℕ) (x : A) → slice_get xs k ≡ Some x → (y : A) × (slice_get ys k ≡ Some y) × Kept x y

-- an object is the same but for its type
abbrev pub IsSameGlobal : GlobalDef → GlobalDef → Type 0
IsSameGlobal g h = h ≡ record g { of = h.of }

-- a function is the same but for its type, and for its name and place, which are those of its definition
abbrev pub IsSameFun : FunDef → FunDef → Type 0
IsSameFun f h = h ≡ record f { name = h.name; pos = h.pos; of = h.of }

-- A program goes on: its types, objects and functions keep their numbers, and expressions and statements stay
pub record Extends (old new : Typed) : Type 0 where
  pub exprs : new.exprs ≡ old.exprs
  pub stmts : new.stmts ≡ old.stmts
  pub literals : new.literals ≡ old.literals
  pub main : new.main ≡ old.main
  pub count : length old.types ≤ length new.types
  pub types : (k : ℕ) → k < length old.types → type_named new k ≡ type_named old k
  pub globals : EachKept IsSameGlobal old.globals new.globals
  pub funs : EachKept IsSameFun old.funs new.funs
