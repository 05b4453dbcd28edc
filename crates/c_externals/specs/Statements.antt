-- Reading declarations, statements and files, with the typedef names that are in force.
use Rattle.std.specs.Prelude.{ℕ, zero, suc, Bool, true, false, not, List, [], ◌∷◌, ◌++◌, length, Option, Some, None}
use Rattle.std.specs.Prelude.{nat_le, if◌then◌else◌}
use Rattle.std.specs.List.{list_any}
use Rattle.ck_base.specs.Tokens.{Lexeme, is_among}
use Rattle.c_tree.specs.declared.syntax.Symbol.{Symbol}
use Rattle.c_tree.specs.declared.syntax.Symbol.TheVariants as Symbols
use Rattle.c_tree.specs.declared.syntax.NodeKind.TheVariants as Kinds
use Rattle.c_tree.specs.Syntax.{Syn, Syns, node, nil, more, one, two, three, four, own_token, first_token, height}
use Rattle.c_tree.specs.Symbols.{symbol}
use Rattle.c_tree.specs.Grammar.{predeclared, Naming, Plain, Expression, Declarator, Initializer, defines_types}
use Rattle.c_tree.specs.Grammar.{declared_names, added_names, new_types, naming}
use Rattle.c_tree.specs.Parses.{file_start}
use Rattle.c_phrases.specs.Reading.{◌>>=◌, Names, Parsed, ParsedParts, Reader, is_open_parenthesis}
use Rattle.c_phrases.specs.Reading.{is_close_parenthesis}
use Rattle.c_phrases.specs.Reading.{is_open_brace, is_close_brace, is_comma, is_semicolon, is_colon, is_equals, is_else}
use Rattle.c_phrases.specs.Reading.{is_while, starts_with, starts, past, expect, begins_type, bracketed, specifiers}
use Rattle.c_phrases.specs.Reading.{read}

abbrev pub StatementReader : Type 0
StatementReader = Names → List Lexeme → Parsed

-- the names that a declarator declares are no typedef names
abbrev pub are_plain : Names → Syn → Bool
are_plain types x = not (list_any (λ n. is_among types n) (declared_names x))

-- Declarations. What stands in an initialized declarator is read as if that had no height, which is judged when it is
-- made.
module _ (rec : Reader) (h : ℕ) where
  abbrev pub fitting : Syn → List Lexeme → Parsed
  fitting x ts = if nat_le (height x) h then Some (x, ts) else None

  -- behind a declarator: its initializer, if there is one
  unfoldable pub initialize : Bool → Syn → Names → List Lexeme → Parsed
  initialize defines d types ts =
      if starts is_equals ts
      then (rec Initializer (added_names defines d ++ types) (past ts)
      >>= λ i. fitting (node Kinds.InitDeclarator (first_token d) (two d i.0)) i.1)
      else fitting (node Kinds.InitDeclarator (first_token d) (one d)) ts

  -- behind the first declarator: the rest of a list of at most k of them
  unfoldable pub initialized : ℕ → Naming → Bool → Syn → Names → List Lexeme → ParsedParts
  initialized zero m defines d types ts = None
  initialized (suc k) m defines d types ts =
      initialize defines d types ts >>= λ a.
      if starts is_comma a.1
      then (rec (Declarator m) (added_names defines a.0 ++ types) (past a.1)
      >>= λ e. initialized k m defines e.0 (added_names defines a.0 ++ types) e.1
      >>= λ b. Some (more a.0 b.0, b.1))
      else Some (one a.0, a.1)

  -- behind specifiers and the first declarator: the rest of a declaration
  unfoldable pub declaration_behind : Naming → Syn → Syn → Names → List Lexeme → Parsed
  declaration_behind m s d types ts =
      initialized (suc (length ts)) m (defines_types s) d types ts >>= λ a. expect is_semicolon a.1
      >>= λ rest. Some (node Kinds.Declaration (own_token s) (more s a.0), rest)

  unfoldable pub declaration : Names → List Lexeme → Parsed
  declaration types ts =
      specifiers rec types ts >>= λ s.
      if starts is_semicolon s.1
      then Some (node Kinds.Declaration (own_token s.0) (one s.0), past s.1)
      else (rec (Declarator Plain) types s.1 >>= λ d. declaration_behind Plain s.0 d.0 types d.1)

unfoldable pub declare : ℕ → StatementReader
declare zero types ts = None
declare (suc h) types ts = declaration (read h) h types ts

-- Statements, over the readers of what is one lower.
module _ (rec : Reader) (declare : StatementReader) (state : StatementReader) where
  -- an expression in parentheses
  unfoldable pub condition : Names → List Lexeme → Parsed
  condition types ts = expect is_open_parenthesis ts >>= λ r. bracketed rec (Expression 0) is_close_parenthesis types r

  unfoldable pub if_from : Lexeme → Names → List Lexeme → Parsed
  if_from t types ts =
      condition types ts >>= λ x. state types x.1 >>= λ y.
      if starts is_else y.1
      then (state types (past y.1) >>= λ z. Some (node Kinds.IfElse t (three x.0 y.0 z.0), z.1))
      else Some (node Kinds.If t (two x.0 y.0), y.1)

  unfoldable pub while_from : Lexeme → Names → List Lexeme → Parsed
  while_from t types ts = condition types ts >>= λ x. state types x.1
      >>= λ y. Some (node Kinds.While t (two x.0 y.0), y.1)

  unfoldable pub do_from : Lexeme → Names → List Lexeme → Parsed
  do_from t types ts =
      state types ts >>= λ x. expect is_while x.1 >>= λ r. condition types r >>= λ y. expect is_semicolon y.1
      >>= λ rest. Some (node Kinds.Do t (two x.0 y.0), rest)

  -- an expression or nothing, up to and with the token behind it
  unfoldable pub optional : (Symbol → Bool) → Names → List Lexeme → Parsed
  optional closes types [] = None
  optional closes types (t ∷ ts) =
      if closes (symbol t) then Some (node Kinds.Absent t nil, ts)
      else bracketed rec (Expression 0) closes types (t ∷ ts)

  -- behind the first part of a `for`
  unfoldable pub for_behind : Lexeme → Syn → Names → List Lexeme → Parsed
  for_behind t x types ts =
      optional is_semicolon types ts >>= λ y. optional is_close_parenthesis types y.1 >>= λ z. state types z.1
      >>= λ w. Some (node Kinds.For t (four x y.0 z.0 w.0), w.1)

  unfoldable pub for_from : Lexeme → Names → List Lexeme → Parsed
  for_from t types ts =
      expect is_open_parenthesis ts >>= λ r.
      if starts_with (begins_type types) r
      then (declare types r >>= λ x. for_behind t x.0 (new_types x.0 ++ types) x.1)
      else (optional is_semicolon types r >>= λ x. for_behind t x.0 types x.1)

  unfoldable pub return_from : Lexeme → Names → List Lexeme → Parsed
  return_from t types ts =
      if starts is_semicolon ts
      then Some (node Kinds.Return t nil, past ts)
      else (bracketed rec (Expression 0) is_semicolon types ts >>= λ x. Some (node Kinds.Return t (one x.0), x.1))

  -- a word and a semicolon
  unfoldable pub jump_from : Syn → List Lexeme → Parsed
  jump_from x ts = expect is_semicolon ts >>= λ rest. Some (x, rest)

  unfoldable pub expression_from : Names → List Lexeme → Parsed
  expression_from types ts =
      bracketed rec (Expression 0) is_semicolon types ts
      >>= λ x. Some (node Kinds.ExpressionStatement (first_token x.0) (one x.0), x.1)

  -- a label of a switch, or a statement
  abbrev pub labelled : Symbol → Bool → Lexeme → Names → List Lexeme → Parsed
  labelled Symbols.Case true t types ts =
      bracketed rec (Expression 2) is_colon types ts >>= λ x. Some (node Kinds.Case t (one x.0), x.1)
  labelled Symbols.Default true t types ts = expect is_colon ts >>= λ rest. Some (node Kinds.Default t nil, rest)
  labelled _ in_switch t types ts = state types (t ∷ ts)

  -- what stands in braces, at most k - 1 times
  unfoldable pub items : ℕ → Bool → Names → List Lexeme → ParsedParts
  items zero in_switch types ts = None
  items (suc k) in_switch types [] = None
  items (suc k) in_switch types (t ∷ ts) =
      if is_close_brace (symbol t) then Some (nil, t ∷ ts)
      else (if begins_type types t
      then (declare types (t ∷ ts) >>= λ a. items k in_switch (new_types a.0 ++ types) a.1
      >>= λ b. Some (more a.0 b.0, b.1))
      else (labelled (symbol t) in_switch t types ts >>= λ a. items k in_switch types a.1
      >>= λ b. Some (more a.0 b.0, b.1)))

  -- and the closing brace
  unfoldable pub items_in_braces : Bool → Names → List Lexeme → ParsedParts
  items_in_braces in_switch types ts =
      items (suc (length ts)) in_switch types ts >>= λ a. expect is_close_brace a.1 >>= λ rest. Some (a.0, rest)

  unfoldable pub block_from : Lexeme → Names → List Lexeme → Parsed
  block_from o types ts = items_in_braces false types ts >>= λ a. Some (node Kinds.Block o a.0, a.1)

  unfoldable pub switch_from : Lexeme → Names → List Lexeme → Parsed
  switch_from t types ts =
      condition types ts >>= λ x. expect is_open_brace x.1 >>= λ r. items_in_braces true types r
      >>= λ a. Some (node Kinds.Switch t (more x.0 a.0), a.1)

  abbrev pub statement_by : Symbol → Lexeme → Names → List Lexeme → Parsed
  statement_by Symbols.OpenBrace t types ts = block_from t types ts
  statement_by Symbols.Semicolon t types ts = Some (node Kinds.EmptyStatement t nil, ts)
  statement_by Symbols.If t types ts = if_from t types ts
  statement_by Symbols.Switch t types ts = switch_from t types ts
  statement_by Symbols.While t types ts = while_from t types ts
  statement_by Symbols.Do t types ts = do_from t types ts
  statement_by Symbols.For t types ts = for_from t types ts
  statement_by Symbols.Break t types ts = jump_from (node Kinds.Break t nil) ts
  statement_by Symbols.Continue t types ts = jump_from (node Kinds.Continue t nil) ts
  statement_by Symbols.Return t types ts = return_from t types ts
  statement_by _ t types ts = expression_from types (t ∷ ts)

  unfoldable pub statement : StatementReader
  statement types [] = None
  statement types (t ∷ ts) = statement_by (symbol t) t types ts

-- a statement of at most this height
unfoldable pub state : ℕ → StatementReader
state zero types ts = None
state (suc h) types ts = statement (read h) (declare h) (state h) types ts

-- a block
unfoldable pub block : ℕ → Lexeme → Names → List Lexeme → Parsed
block zero o types ts = None
block (suc h) o types ts = block_from (read h) (declare h) (state h) o types ts

-- External definitions of at most the height h + 1

module _ (h : ℕ) where
  -- behind specifiers, a declarator and `{`: the body of a function
  unfoldable pub definition_from : Syn → Syn → Lexeme → Names → List Lexeme → Parsed
  definition_from s d o types ts =
      block h o types ts >>= λ b. Some (node Kinds.FunctionDefinition (own_token s) (three s d b.0), b.1)

  -- behind specifiers and a declarator
  unfoldable pub external_behind : Syn → Syn → Names → List Lexeme → Parsed
  external_behind s d types [] = None
  external_behind s d types (o ∷ ts) =
      if is_open_brace (symbol o)
      then (if are_plain types d then definition_from s d o types ts else None)
      else declaration_behind (read h) h (naming true s) s d types (o ∷ ts)

  unfoldable pub external : Names → List Lexeme → Parsed
  external types ts =
      specifiers (read h) types ts >>= λ s.
      if starts is_semicolon s.1
      then Some (node Kinds.Declaration (own_token s.0) (one s.0), past s.1)
      else (read h (Declarator (naming true s.0)) types s.1 >>= λ d. external_behind s.0 d.0 types d.1)

  -- at most k - 1 of them, to the end
  unfoldable pub externals : ℕ → Names → List Lexeme → Option Syns
  externals zero types ts = None
  externals (suc k) types [] = Some nil
  externals (suc k) types (t ∷ ts) =
      if is_semicolon (symbol t)
      then (externals k types ts >>= λ xs. Some (more (node Kinds.EmptyExternal t nil) xs))
      else (external types (t ∷ ts) >>= λ a. externals k (new_types a.0 ++ types) a.1 >>= λ xs. Some (more a.0 xs))

  unfoldable pub read_file : List Lexeme → Option Syn
  read_file ts = externals (suc (length ts)) predeclared ts >>= λ xs. Some (node Kinds.File file_start xs)
