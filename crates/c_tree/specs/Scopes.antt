-- What has been declared so far: scopes, name spaces and linkage (C11 6.2.1 to 6.2.3), and how a step of typing goes on
-- from there.
use Rattle.std.specs.Prelude.{ℕ, ℤ, Bool, true, false, ◌==◌, if◌then◌else◌, List, [], ◌∷◌, length, Option, Some, None}
use Rattle.std.specs.Prelude.{Result, Ok, Err, bytes_eq, slice_get, slice_set}
use Rattle.ck_base.specs.declared.positions.Pos.{Pos}
use Rattle.ck_base.specs.Tokens.{Lexeme}
use Rattle.c_tree.specs.declared.syntax.RecordKind.{RecordKind}
use Rattle.c_tree.specs.Layout.{Extent, with_extent, scalar, times, bytes_of, size_of}
use Rattle.c_tree.specs.Types.{Ty, Void, Int, Cap, Pointer, Array, Tagged, Function, Const}
use Rattle.c_tree.specs.Terms.{Action, Aim, Text}

-- what a name denotes
pub data Entity : Type 0 where
  -- a parameter or another local of the function, by its number; its type
  Local : ℕ → Ty → Entity
  -- an object of static storage duration, a function: by its number
  Static : ℕ → Entity
  Routine : ℕ → Entity
  -- a typedef name, an enumeration constant
  Alias : Ty → Entity
  Enumerator : ℤ → Entity
  -- a library function or an intrinsic, by its number; its type, if it has one
  Library : ℕ → Option Ty → Entity

-- what a tag denotes: a struct or union, by its number, or an enumeration
pub data Tagging : Type 0 where
  Recorded : ℕ → Tagging
  Enumerated : Tagging

pub record Named (A : Type 0) : Type 0 where
  pub name : List ℕ
  pub is : A

-- the ordinary names and the tags of a scope, the newest first (6.2.3)
pub record Scope : Type 0 where
  pub names : List (Named Entity)
  pub tags : List (Named Tagging)

-- a member of a struct or union
pub record Part : Type 0 where
  pub name : Lexeme
  pub of : Ty

-- a struct or union: whether its braces were opened, and its members and its layout, once it is complete
pub record TagState : Type 0 where
  pub kind : RecordKind
  pub begun : Bool
  pub members : Option (List Part)
  pub extent : Option Extent

-- the bounds of an initial pointer: those of the object, or of a part of it
pub data Reach : Type 0 where
  All : Reach
  Within : (low length : ℕ) → Reach

-- a pointer with which an object begins: its place there, what it points to, its bounds, and its address from the base
pub record Aiming : Type 0 where
  pub at : ℕ
  pub aim : Aim
  pub reach : Reach
  pub offset : ℤ

-- An object of static storage duration: its first declaration, its type so far, whether it has linkage, whether it is
-- defined, its initial bytes and pointers, if there was an initializer, and where it was first used
pub record StaticState : Type 0 where
  pub name : Lexeme
  pub of : Ty
  pub linked : Bool
  pub defined : Bool
  pub initial : Option (List ℕ × List Aiming)
  pub used : Option Pos

pub record LocalState : Type 0 where
  pub name : Lexeme
  pub of : Ty
  pub addressed : Bool

-- what a function definition gives
pub record Body : Type 0 where
  pub params : List ℕ
  pub vars : List LocalState
  pub action : Action

pub record RoutineState : Type 0 where
  pub name : Lexeme
  pub of : Ty
  pub begun : Bool
  pub body : Option Body
  pub used : Option Pos

-- an initial pointer into an array whose length is not known yet: the least length with which its initializer is
-- accepted
pub record Pending : Type 0 where
  pub place : Pos
  pub static : ℕ
  pub least : ℤ

-- The scopes in force, the innermost first; the tags, the objects, the functions and the string literals so far; the
-- locals of the function so far; and what waits for the end of the file
pub record State : Type 0 where
  pub scopes : List Scope
  pub tags : List TagState
  pub statics : List StaticState
  pub routines : List RoutineState
  pub texts : List Text
  pub locals : List LocalState
  pub pending : List Pending

-- ---- a step of typing

-- the first rule that fails, by its code, and where
pub record Fault : Type 0 where
  pub code : ℕ
  pub place : Pos

-- A step goes on from a state to a result and a new state, or it fails
abbrev pub Doing : Type 0 → Type 0
Doing A = State → Result (A × State) Fault

abbrev pub give : {A : Type 0} → A → Doing A
give a s = Ok (a, s)

abbrev pub refuse : {A : Type 0} → ℕ → Pos → Doing A
refuse code place s = Err (record { code = code; place = place })

abbrev pub continued : {A B : Type 0} → Result (A × State) Fault → (A → Doing B) → Result (B × State) Fault
continued (Ok x) f = f x.0 x.1
continued (Err e) f = Err e

-- one step and then the next: what fails first decides
infixl 10 ◌>>=◌
abbrev pub ◌>>=◌ : {A B : Type 0} → Doing A → (A → Doing B) → Doing B
(d >>= f) s = continued (d s) f

-- a step, for its effect on the state alone
infixl 10 ◌>>◌
abbrev pub ◌>>◌ : {A B : Type 0} → Doing A → Doing B → Doing B
(d >> e) s = continued (d s) (λ a. e)

-- one construct must pass a test
abbrev pub need : Bool → ℕ → Pos → Doing Unit
need true code place = give tt
need false code place = refuse code place

abbrev pub look : Doing State
look s = Ok (s, s)

abbrev pub change : (State → State) → Doing Unit
change f s = Ok (tt, f s)

-- what there is, or a refusal
abbrev pub some_or : {A : Type 0} → Option A → ℕ → Pos → Doing A
some_or (Some a) code place = give a
some_or None code place = refuse code place

-- ---- names

abbrev pub find_in : {A : Type 0} → List (Named A) → List ℕ → Option A
find_in [] name = None
find_in (x ∷ xs) name = (if bytes_eq x.name name then Some x.is else find_in xs name)

abbrev pub or_else : {A : Type 0} → Option A → Option A → Option A
or_else (Some a) o = Some a
or_else None o = o

-- 6.2.1p4: the innermost scope decides
abbrev pub find_name : List Scope → List ℕ → Option Entity
find_name [] name = None
find_name (s ∷ ss) name = or_else (find_in s.names name) (find_name ss name)

abbrev pub find_tag : List Scope → List ℕ → Option Tagging
find_tag [] name = None
find_tag (s ∷ ss) name = or_else (find_in s.tags name) (find_tag ss name)

abbrev pub innermost : List Scope → Scope
innermost [] = record { names = []; tags = [] }
innermost (s ∷ ss) = s

-- whether the scope is that of the file
abbrev pub at_file_scope : State → Bool
at_file_scope s = length s.scopes == 1

abbrev pub in_innermost : (Scope → Scope) → List Scope → List Scope
in_innermost f [] = []
in_innermost f (s ∷ ss) = f s ∷ ss

-- 6.2.1p7: from here on the name denotes this
abbrev pub bind_name : List ℕ → Entity → State → State
bind_name name e s = record s {
  scopes = in_innermost
      (λ c. record c { names = record { name = name; is = e } ∷ c.names }) s.scopes;
}

abbrev pub bind_tag : List ℕ → Tagging → State → State
bind_tag name t s = record s {
  scopes = in_innermost
      (λ c. record c { tags = record { name = name; is = t } ∷ c.tags }) s.scopes;
}

abbrev pub outer_scopes : List Scope → List Scope
outer_scopes [] = []
outer_scopes (s ∷ ss) = ss

abbrev pub enter : Doing Unit
enter = change (λ s. record s { scopes = record { names = []; tags = [] } ∷ s.scopes })

abbrev pub leave : Doing Unit
leave = change (λ s. record s { scopes = outer_scopes s.scopes })

-- a step in a scope of its own
abbrev pub in_scope : {A : Type 0} → Doing A → Doing A
in_scope d = enter >> d >>= λ a. leave >> give a

-- ---- numbered things

abbrev pub with_changed : {A : Type 0} → (A → A) → Option A → List A → ℕ → List A
with_changed f None xs k = xs
with_changed f (Some x) xs k = slice_set xs k (f x)

-- the item at a number, changed
abbrev pub changed_at : {A : Type 0} → (A → A) → List A → ℕ → List A
changed_at f xs k = with_changed f (slice_get xs k) xs k

abbrev pub change_static : ℕ → (StaticState → StaticState) → State → State
change_static k f s = record s { statics = changed_at f s.statics k }

abbrev pub change_routine : ℕ → (RoutineState → RoutineState) → State → State
change_routine k f s = record s { routines = changed_at f s.routines k }

-- the first use of an object or function counts
abbrev pub first_use : Option Pos → Pos → Option Pos
first_use (Some p) q = Some p
first_use None q = Some q

abbrev pub use_static : ℕ → Pos → State → State
use_static k p s = change_static k (λ g. record g { used = first_use g.used p }) s

abbrev pub use_routine : ℕ → Pos → State → State
use_routine k p s = change_routine k (λ f. record f { used = first_use f.used p }) s

-- the address of a local is taken
abbrev pub take_address : ℕ → State → State
take_address k s = record s { locals = changed_at (λ v. record v { addressed = true }) s.locals k }

-- ---- sizes, by the layouts of complete structs and unions

abbrev pub tag_extent : Option TagState → Option Extent
tag_extent None = None
tag_extent (Some t) = t.extent

abbrev pub type_extent : List TagState → Ty → Option Extent
type_extent tags Void = None
type_extent tags (Int k n) = Some (scalar (bytes_of k))
type_extent tags (Cap s) = Some (scalar 16)
type_extent tags (Pointer t) = Some (scalar 16)
type_extent tags (Array t n) = with_extent (type_extent tags t) (times n)
type_extent tags (Tagged n) = tag_extent (slice_get tags n)
type_extent tags (Function r ps) = None
type_extent tags (Const t) = type_extent tags t

abbrev pub has_extent : Option Extent → Bool
has_extent None = false
has_extent (Some x) = true

-- 6.2.5p1: a complete object type
abbrev pub is_complete : State → Ty → Bool
is_complete s t = has_extent (type_extent s.tags t)

abbrev pub extent_size : Option Extent → ℕ
extent_size None = 0
extent_size (Some x) = x.size

-- the bytes of a type, within the limit
abbrev pub size : State → Ty → ℕ
size s t = size_of (type_extent s.tags t)
