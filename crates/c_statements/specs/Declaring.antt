-- A declared name, and its initializer.
use Rattle.std.specs.Prelude.{◌≡◌, ℕ, List, [], ◌∷◌, map, Option, Some, None, Result, ◌<◌, All}
use Rattle.ck_base.specs.declared.positions.Pos.{Pos}
use Rattle.ck_base.specs.declared.refusal.Refusal.{Refusal}
use Rattle.ck_base.specs.Tokens.{Lexeme}
use Rattle.c_tree.specs.Syntax.{Syn, Syns, nil, more, first_token}
use Rattle.c_tree.specs.Types.{Ty}
use Rattle.c_tree.specs.Readings as meant
use Rattle.c_tree.specs.Readings.{Reading}
use Rattle.c_tree.specs.Scopes as scopes
use Rattle.c_tree.specs.Scopes.{State, Doing, give, ◌>>=◌, ◌>>◌}
use Rattle.c_tree.specs.Declarations as declarations
use Rattle.c_tree.specs.Declarations.{no_items, init_action, init_static, init_local, fill_local, fill_static}
use Rattle.c_tree.specs.Declarations.{declare_named, declare_all, is_alone}
use Rattle.c_tree.specs.Programs.{reading, readings}
use Rattle.c_types.specs.Declares.{declares_named, declares_definition, storage_of, name_of, formed_of}
use Rattle.c_types.specs.Naming.{IsNumber}
use Rattle.c_types.specs.Calls.{Declares, IsDeclared}
use Rattle.c_types.specs.Calls as types
use Rattle.c_types.specs.declared.entries.Decl.{Decl}
use Rattle.c_types.specs.declared.entries.Entry.{Entry}
use Rattle.c_expressions.specs.declared.nodes.Nodes.{Nodes}
use Rattle.c_expressions.specs.Nodes.{type_count}
use Rattle.c_types.specs.declared.entries.Entry.TheVariants as entries
use Rattle.c_elaborator.specs.declared.work.Work.{Work}
use Rattle.c_elaborator.specs.Parts.{IsPart}
use Rattle.c_readings.specs.Within.{PartWithin}
use Rattle.c_declarators.specs.declared.parts.Wrap.{Wrap}
use Rattle.c_declarators.specs.Forming.{WrapIsThere}
use Rattle.c_initializers.specs.Objects.{static_filled}
use Rattle.c_statements.specs.declared.declarations.Behind.{Behind}

-- ---- what stands behind a declarator

abbrev pub HasBehind : Work → ℕ → Option Behind → Type 0
HasBehind w limit None = Unit {0}
HasBehind w limit (Some b) = PartWithin w limit b.node

-- an initializer, and its first byte
pub record IsInitializer (w : Work) (b : Behind) (r : Reading × Pos) : Type 0 where
  pub syntax : Syn
  pub part : IsPart w b.node syntax
  pub is : r ≡ (reading syntax, b.first)

abbrev pub IsBehind : Work → Option Behind → declarations.Behind → Type 0
IsBehind w None None = Unit {0}
IsBehind w (Some b) (Some r) = IsInitializer w b r
IsBehind w b r = ⊥

-- what stands behind the first part of a declarator
abbrev pub behind_in : Syns → declarations.Behind
behind_in nil = None
behind_in (more x xs) = Some (reading x, (first_token x).pos)

-- a declarator, and what stands behind it
abbrev pub declares_with : meant.Specified → Syn → Syns → Doing meant.Items
declares_with y x ys = (reading x).derived >>= λ d. declare_named y d d.name (behind_in ys)

-- specifiers, and then declarators
abbrev pub declares_list : Syn → Syns → Doing meant.Items
declares_list x ys = (reading x).specified (is_alone (readings ys)) >>= λ s. declare_all s (readings ys)

-- the types of parameters are there
abbrev pub WrapsThere : Work → List Wrap → Type 0
WrapsThere w ws = All (WrapIsThere w.nodes) ws

-- ---- declared names

-- the step that a declaration is, before its initializer
abbrev pub declares : Work → Decl → Doing scopes.Entity
declares w d = declares_named (storage_of d.storage) (name_of w.file.now d) (formed_of w.nodes.p d) d.defines

-- the same of a function with its body
abbrev pub begins : Work → Decl → Doing ℕ
begins w d = declares_definition (storage_of d.storage) (name_of w.file.now d) (formed_of w.nodes.p d)

-- the scopes and the program show a declaration
abbrev pub DeclaresIn : Nodes → Nodes → Decl → Result Entry Refusal → Type 0
DeclaresIn n m d r = Declares n.scopes.file.now n.scopes n.p m.scopes m.p d r

-- and that a definition is begun
abbrev pub BeginsIn : Nodes → Nodes → Decl → Result ℕ Refusal → Type 0
BeginsIn n m d r = d.of < type_count n →
    types.Answers n.scopes n.p m.scopes m.p (declares_definition (storage_of d.storage)
    (name_of n.scopes.file.now d) (formed_of n.p d)) IsNumber r

abbrev pub EntryThere : Work → Entry → Type 0
EntryThere w x = Unit {0}

-- the entry of what is declared
abbrev pub IsEntry : Work → Entry → State → scopes.Entity → Type 0
IsEntry w x s e = IsDeclared w.nodes.p x s e

abbrev pub FunctionThere : Work → ℕ → Type 0
FunctionThere w k = Unit {0}

abbrev pub IsFunction : Work → ℕ → State → ℕ → Type 0
IsFunction w k s j = j ≡ k

abbrev pub local_initialized : ℕ → Lexeme → Ty → declarations.Behind → Doing meant.Items
local_initialized k t of b = init_local k t of b >>= λ xs. give (record { vars = k ∷ []; actions = xs })

abbrev pub static_initialized : ℕ → Lexeme → declarations.Behind → Doing meant.Items
static_initialized k t b = init_static k t b >> give no_items

-- what was declared gets its value, by what it is
abbrev pub initializes : Entry → Lexeme → Ty → declarations.Behind → Doing meant.Items
initializes (entries.Var k) t of b = local_initialized k t of b
initializes (entries.Global k) t of b = static_initialized k t b
initializes x t of b = give no_items

abbrev pub fills_static : ℕ → Lexeme → Reading → Pos → Doing meant.Items
fills_static k t r first = fill_static k t (r, first) >> give no_items

-- the same from what an initializer gives
abbrev pub static_from : ℕ → Pos → Doing meant.Filled → Doing meant.Items
static_from k p d = d >>= λ f. static_filled k p f >> give no_items

abbrev pub fills_local : ℕ → Lexeme → Ty → Reading → Pos → Doing meant.Items
fills_local k t of r first = fill_local k t of (r, first) >>= λ xs. give (record { vars = k ∷ []; actions = xs })

-- the statements that give a local these values
abbrev pub init_items : ℕ → Pos → List meant.Slot → meant.Items
init_items k p xs = record { vars = k ∷ []; actions = map (init_action k p) xs }
