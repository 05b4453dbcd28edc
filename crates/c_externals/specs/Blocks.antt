-- What the functions for declarations, statements and files answer.
use Rattle.std.specs.Prelude.{◌≡◌, ℕ, suc, ◌≤◌, ◌<◌, Bool, true, false, List, [], ◌∷◌, ◌++◌, length, reverse, Option}
use Rattle.std.specs.Prelude.{Some, None, if◌then◌else◌}
use Rattle.ck_base.specs.Tokens.{Lexeme}
use Rattle.c_tree.specs.declared.syntax.Node.{Node}
use Rattle.c_tree.specs.declared.syntax.NodeKind.{NodeKind}
use Rattle.c_tree.specs.declared.syntax.NodeKind.TheVariants as Kinds
use Rattle.c_tree.specs.declared.syntax.Symbol.{Symbol}
use Rattle.c_tree.specs.declared.syntax.Symbol.TheVariants as Symbols
use Rattle.c_tree.specs.Syntax.{Syn, Syns, node, nil, more, one, two, joined, first_token}
use Rattle.c_tree.specs.Symbols.{symbol}
use Rattle.c_tree.specs.Grammar.{Naming, Expression, Declarator, Initializer, declared_names, all_names, new_types}
use Rattle.c_tree.specs.Grammar.{defines_types, names_a_type, naming}
use Rattle.c_phrases.specs.declared.cursor.Root.{Root}
use Rattle.c_phrases.specs.declared.cursor.Part.{Part}
use Rattle.c_phrases.specs.declared.cursor.Parts.{Parts}
use Rattle.c_phrases.specs.declared.cursor.Cursor.{Cursor}
use Rattle.c_phrases.specs.declared.steps.Specified.{Specified}
use Rattle.c_externals.specs.declared.statements.Opening.{Opening}
use Rattle.c_externals.specs.declared.statements.Opening.TheVariants as Openings
use Rattle.c_externals.specs.declared.statements.Label.{Label}
use Rattle.c_externals.specs.declared.statements.Label.TheVariants as Labels
use Rattle.c_phrases.specs.Reading.{◌>>=◌, Names, Parsed, ParsedParts, Reader, expect, past, starts, bracketed}
use Rattle.c_phrases.specs.Reading.{is_equals}
use Rattle.c_phrases.specs.Reading.{is_comma, is_semicolon, is_colon, begins_type, read}
use Rattle.c_externals.specs.Statements as Statements
use Rattle.c_externals.specs.Statements.{StatementReader, declare, state}
use Rattle.c_phrases.specs.Got.{Means, Holds, Grows, rest_of, names_of, after}

-- Declarations

-- the name that a declarator adds to the typedef names
abbrev pub adds : Bool → Root → Names
adds true root = names_of root
adds false root = []

-- the names that declarators add, in their order
abbrev pub added : Bool → Syns → Names
added true xs = all_names xs
added false xs = []

-- a declarator and its initializer, if there is one, as parts
abbrev pub valued : Reader → Syn → Names → List Lexeme → ParsedParts
valued rec d types ts = if starts is_equals ts then (rec Initializer types (past ts) >>= λ i. Some (two d i.0, i.1))
    else Some (one d, ts)

-- a declarator that was not read yet, with its initializer
abbrev pub declared : Reader → ℕ → Naming → Bool → Names → List Lexeme → Parsed
declared rec h m defines types ts =
    rec (Declarator m) types ts >>= λ e. Statements.initialize rec h defines e.0 types e.1

-- the rest of a list of declarators, behind the trees zs
abbrev pub declared_behind : ℕ → ℕ → Naming → Bool → Syns → Names → List Lexeme → ParsedParts
declared_behind h k m defines zs types ts =
    if starts is_comma ts then after zs (read h (Declarator m) types (past ts)
    >>= λ e. Statements.initialized (read h) h k m defines e.0 types e.1) else Some (zs, ts)

-- what the loop over a declaration's declarators keeps; `ys` stood before them
pub record Declares (old now : Cursor) (before behind : Names) (h : ℕ) (m : Naming) (defines : Bool) (x : Syn)
    (ys : Syns) (parts : Parts) : Type 0 where
  pub trees : Syns
  pub holds : Holds now.nodes.items parts trees
  pub turns : ℕ
  pub enough : length (rest_of now) ≤ turns
  pub same : after ys (Statements.initialized (read h) h (suc (length (rest_of old))) m defines x before (rest_of old))
      ≡ declared_behind h turns m defines trees behind (rest_of now)
  pub names : added defines ys ≡ [] → behind ≡ reverse (added defines trees) ++ before
  pub grows : Grows old.nodes.items now.nodes.items

pub record GotDeclared (old new : Cursor) (before behind : Names) (defines : Bool) (ys : Syns) (read : ParsedParts)
    (parts : Parts) : Type 0 where
  pub trees : Syns
  pub holds : Holds new.nodes.items parts trees
  pub reads : after ys read ≡ Some (trees, rest_of new)
  pub names : added defines ys ≡ [] → behind ≡ reverse (added defines trees) ++ before
  pub grows : Grows old.nodes.items new.nodes.items

-- what is known of specifiers
pub record Specifies (nodes : List Node) (specified : Specified) (s : Syn) : Type 0 where
  pub means : Means nodes specified.part s
  pub defines : specified.defines ≡ defines_types s
  pub names : specified.names_type ≡ names_a_type s
  pub nameless : declared_names s ≡ []

-- a tree that was read, and the names in force behind it
pub record GotNaming (old new : Cursor) (before behind : Names) (read : Parsed) (part : Part) : Type 0 where
  pub tree : Syn
  pub means : Means new.nodes.items part tree
  pub reads : read ≡ Some (tree, rest_of new)
  pub names : behind ≡ new_types tree ++ before
  pub grows : Grows old.nodes.items new.nodes.items

-- some names and then these
pub record Extends (behind before : Names) : Type 0 where
  pub latest : Names
  pub is : behind ≡ latest ++ before

-- Nodes over lists of parts

-- the parts stand for these trees
pub data AreMeant (nodes : List Node) : List Part → Syns → Type 0 where
  none : AreMeant nodes [] nil
  next : {part : Part} {parts : List Part} {x : Syn} {xs : Syns} → Means nodes part x → AreMeant nodes parts xs →
      AreMeant nodes (part ∷ parts) (more x xs)

-- none of the parts is higher
abbrev pub AreLow : ℕ → List Part → Type 0
AreLow h [] = Unit {0}
AreLow h (part ∷ parts) = (part.height ≤ h) × AreLow h parts

-- the part is a node over these parts, whose own token is t, which is the first too, and which declares nothing
abbrev pub JoinsAll : List Node → List Node → NodeKind → Lexeme → List Part → Part → Type 0
JoinsAll old new k t parts part =
    (xs : Syns) → AreMeant old parts xs → first_token (node k t xs) ≡ t → declared_names (node k t xs) ≡ [] →
    Means new part (node k t xs)

-- of these trees some are held, and the parts that are left stand for the others
pub record HoldsUpTo (nodes : List Node) (held : Parts) (left : List Part) (xs : Syns) : Type 0 where
  pub before : Syns
  pub behind : Syns
  pub holds : Holds nodes held before
  pub meant : AreMeant nodes left behind
  pub same : xs ≡ joined before behind

-- Statements

-- how a statement begins that is no expression
abbrev pub opening_of : Symbol → Option Opening
opening_of Symbols.OpenBrace = Some Openings.Block
opening_of Symbols.Semicolon = Some Openings.Empty
opening_of Symbols.If = Some Openings.If
opening_of Symbols.Switch = Some Openings.Switch
opening_of Symbols.While = Some Openings.While
opening_of Symbols.Do = Some Openings.Do
opening_of Symbols.For = Some Openings.For
opening_of Symbols.Break = Some Openings.Break
opening_of Symbols.Continue = Some Openings.Continue
opening_of Symbols.Return = Some Openings.Return
opening_of _ = None

-- a label, which a switch alone has
abbrev pub label_of : Bool → Symbol → Label
label_of true Symbols.Case = Labels.Case
label_of true Symbols.Default = Labels.Default
label_of _ _ = Labels.Unlabelled

module _ (rec : Reader) (declare : StatementReader) (state : StatementReader) where
  abbrev pub opened : Opening → Lexeme → Names → List Lexeme → Parsed
  opened Openings.Block t types ts = Statements.block_from rec declare state t types ts
  opened Openings.Empty t types ts = Some (node Kinds.EmptyStatement t nil, ts)
  opened Openings.If t types ts = Statements.if_from rec declare state t types ts
  opened Openings.Switch t types ts = Statements.switch_from rec declare state t types ts
  opened Openings.While t types ts = Statements.while_from rec declare state t types ts
  opened Openings.Do t types ts = Statements.do_from rec declare state t types ts
  opened Openings.For t types ts = Statements.for_from rec declare state t types ts
  opened Openings.Break t types ts = Statements.jump_from rec declare state (node Kinds.Break t nil) ts
  opened Openings.Continue t types ts = Statements.jump_from rec declare state (node Kinds.Continue t nil) ts
  opened Openings.Return t types ts = Statements.return_from rec declare state t types ts

  abbrev pub labelled_by : Label → Lexeme → Names → List Lexeme → Parsed
  labelled_by Labels.Case t types ts =
      bracketed rec (Expression 2) is_colon types ts >>= λ x. Some (node Kinds.Case t (one x.0), x.1)
  labelled_by Labels.Default t types ts = expect is_colon ts >>= λ rest. Some (node Kinds.Default t nil, rest)
  labelled_by Labels.Unlabelled t types ts = state types (t ∷ ts)

-- a declaration, a label or a statement, and the names in force behind it
abbrev pub Entry : Type 0
Entry = Option (Syn × List Lexeme × Names)

abbrev pub entry : ℕ → Bool → Names → Lexeme → List Lexeme → Entry
entry h in_switch types t ts =
    if begins_type types t
    then (declare h types (t ∷ ts) >>= λ a. Some (a.0, a.1, new_types a.0 ++ types))
    else (Statements.labelled (read h) (declare h) (state h) (symbol t) in_switch t types ts
    >>= λ a. Some (a.0, a.1, types))

pub record GotEntry (old new : Cursor) (before behind : Names) (read : Entry) (part : Part) : Type 0 where
  pub tree : Syn
  pub means : Means new.nodes.items part tree
  pub reads : read ≡ Some (tree, rest_of new, behind)
  pub extends : Extends behind before
  pub grows : Grows old.nodes.items new.nodes.items

-- what the loop over a block keeps; `ys` stood before it
pub record Enters (old now : Cursor) (before behind : Names) (h : ℕ) (in_switch : Bool) (ys : Syns) (parts : Parts) :
    Type 0 where
  pub trees : Syns
  pub holds : Holds now.nodes.items parts trees
  pub turns : ℕ
  pub enough : length (rest_of now) < turns
  pub same : after ys (Statements.items (read h) (declare h) (state h) (suc (length (rest_of old))) in_switch before
      (rest_of old)) ≡ after trees (Statements.items (read h) (declare h) (state h) turns in_switch behind
      (rest_of now))
  pub grows : Grows old.nodes.items now.nodes.items

-- External definitions

-- an external definition, or a semicolon
abbrev pub outer : ℕ → Names → List Lexeme → Parsed
outer h types [] = None
outer h types (t ∷ ts) = if is_semicolon (symbol t) then Some (node Kinds.EmptyExternal t nil, ts)
    else Statements.external h types (t ∷ ts)

-- behind specifiers
abbrev pub declared_externally : Syn → Names → List Lexeme → Parsed
declared_externally s types ts =
    read 199 (Declarator (naming true s)) types ts >>= λ d. Statements.external_behind 199 s d.0 types d.1

abbrev pub outers_behind : Syns → Option Syns → Option Syns
outers_behind zs read = read >>= λ xs. Some (joined zs xs)

-- what the loop over a file keeps
pub record Gathers (old now : Cursor) (before behind : Names) (h : ℕ) (parts : Parts) : Type 0 where
  pub trees : Syns
  pub holds : Holds now.nodes.items parts trees
  pub turns : ℕ
  pub enough : length (rest_of now) < turns
  pub same : Statements.externals h (suc (length (rest_of old))) before (rest_of old)
      ≡ outers_behind trees (Statements.externals h turns behind (rest_of now))
  pub grows : Grows old.nodes.items now.nodes.items

pub record GotExternals (new : Cursor) (read : Option Syns) (parts : Parts) : Type 0 where
  pub trees : Syns
  pub holds : Holds new.nodes.items parts trees
  pub reads : read ≡ Some trees

pub record GotFile (new : Cursor) (read : Option Syn) (part : Part) : Type 0 where
  pub tree : Syn
  pub means : Means new.nodes.items part tree
  pub reads : read ≡ Some tree
