-- Reading phrases of the grammar from left to right. What is read has at most a given height, and that bounds the
-- recursion.
use Rattle.std.specs.Prelude.{ℕ, zero, suc, ◌+◌, Bool, true, false, not, List, [], ◌∷◌, length, Option, Some, None}
use Rattle.std.specs.Prelude.{nat_le, if◌then◌else◌, ◌&&◌, ◌||◌}
use Rattle.ck_base.specs.Tokens.{Lexeme}
use Rattle.ck_int.specs.declared.kinds.IntOp.{IntOp}
use Rattle.c_tree.specs.declared.syntax.SpecifierWord.{SpecifierWord}
use Rattle.c_tree.specs.declared.syntax.RecordKind.{RecordKind}
use Rattle.c_tree.specs.declared.syntax.InfixOperator.{InfixOperator}
use Rattle.c_tree.specs.declared.syntax.PrefixOperator.{PrefixOperator}
use Rattle.c_tree.specs.declared.syntax.Selection.{Selection}
use Rattle.c_tree.specs.declared.syntax.Symbol.{Symbol}
use Rattle.c_tree.specs.declared.syntax.Symbol.TheVariants as Symbols
use Rattle.c_tree.specs.declared.syntax.Head.{Head}
use Rattle.c_tree.specs.declared.syntax.Head.TheVariants as Heads
use Rattle.c_tree.specs.declared.syntax.Tail.{Tail}
use Rattle.c_tree.specs.declared.syntax.Tail.TheVariants as Tails
use Rattle.c_tree.specs.declared.syntax.NodeKind.{NodeKind}
use Rattle.c_tree.specs.declared.syntax.NodeKind.TheVariants as Kinds
use Rattle.c_tree.specs.Syntax.{Syn, Syns, node, nil, more, one, two, three, joined, then_one, own_token, height}
use Rattle.c_tree.specs.Symbols.{symbol, head_of, tail_of, infix_level, operand_level, is_qualifier}
use Rattle.c_tree.specs.Grammar.{is_word, is_typedef_name, Naming, Plain, Any, Nameless, Either, is_declared_by}
use Rattle.c_tree.specs.Grammar.{may_be_nameless, names_type, is_agreed, Goal, Expression, Member, Enumerator}
use Rattle.c_tree.specs.Grammar.{Declarator, Parameter, Initializer}

infixl 10 ◌>>=◌
abbrev pub ◌>>=◌ : {A B : Type 0} → Option A → (A → Option B) → Option B
None >>= f = None
(Some x) >>= f = f x

abbrev pub Names : Type 0
Names = List (List ℕ)

-- what was read, and the tokens behind it
abbrev pub Parsed : Type 0
Parsed = Option (Syn × List Lexeme)

abbrev pub ParsedParts : Type 0
ParsedParts = Option (Syns × List Lexeme)

abbrev pub Reader : Type 0
Reader = Goal → Names → List Lexeme → Parsed

-- Tokens

abbrev pub is_open_parenthesis : Symbol → Bool
is_open_parenthesis Symbols.OpenParenthesis = true
is_open_parenthesis _ = false

abbrev pub is_close_parenthesis : Symbol → Bool
is_close_parenthesis Symbols.CloseParenthesis = true
is_close_parenthesis _ = false

abbrev pub is_open_bracket : Symbol → Bool
is_open_bracket Symbols.OpenBracket = true
is_open_bracket _ = false

abbrev pub is_close_bracket : Symbol → Bool
is_close_bracket Symbols.CloseBracket = true
is_close_bracket _ = false

abbrev pub is_open_brace : Symbol → Bool
is_open_brace Symbols.OpenBrace = true
is_open_brace _ = false

abbrev pub is_close_brace : Symbol → Bool
is_close_brace Symbols.CloseBrace = true
is_close_brace _ = false

abbrev pub is_comma : Symbol → Bool
is_comma Symbols.Comma = true
is_comma _ = false

abbrev pub is_semicolon : Symbol → Bool
is_semicolon Symbols.Semicolon = true
is_semicolon _ = false

abbrev pub is_colon : Symbol → Bool
is_colon Symbols.Colon = true
is_colon _ = false

abbrev pub is_star : Symbol → Bool
is_star Symbols.Star = true
is_star _ = false

abbrev pub is_text : Symbol → Bool
is_text Symbols.Text = true
is_text _ = false

-- `=` alone
abbrev pub is_equals : Symbol → Bool
is_equals (Symbols.Assignment None) = true
is_equals _ = false

abbrev pub is_else : Symbol → Bool
is_else Symbols.Else = true
is_else _ = false

abbrev pub is_while : Symbol → Bool
is_while Symbols.While = true
is_while _ = false

-- a token that begins a specifier, other than a typedef name
abbrev pub begins_specifier : Symbol → Bool
begins_specifier (Symbols.Specifier w) = true
begins_specifier (Symbols.Record k) = true
begins_specifier Symbols.Enum = true
begins_specifier _ = false

abbrev pub begins_declarator : Symbol → Bool
begins_declarator Symbols.Word = true
begins_declarator Symbols.Star = true
begins_declarator Symbols.OpenParenthesis = true
begins_declarator Symbols.OpenBracket = true
begins_declarator _ = false

abbrev pub qualifier_of : Symbol → Option SpecifierWord
qualifier_of (Symbols.Specifier w) = if is_qualifier w then Some w else None
qualifier_of _ = None

-- the first token passes the test
abbrev pub starts_with : (Lexeme → Bool) → List Lexeme → Bool
starts_with test [] = false
starts_with test (t ∷ ts) = test t

abbrev pub starts : (Symbol → Bool) → List Lexeme → Bool
starts test ts = starts_with (λ t. test (symbol t)) ts

abbrev pub past : List Lexeme → List Lexeme
past [] = []
past (t ∷ ts) = ts

-- behind a token that passes the test
abbrev pub expect : (Symbol → Bool) → List Lexeme → Option (List Lexeme)
expect test [] = None
expect test (t ∷ ts) = if test (symbol t) then Some ts else None

-- a token that begins specifiers
abbrev pub begins_type : Names → Lexeme → Bool
begins_type types t = begins_specifier (symbol t) || is_typedef_name types t

-- one that goes on with them, where perhaps one of them names a type already
abbrev pub goes_on_specifying : Names → Bool → Lexeme → Bool
goes_on_specifying types named t = begins_specifier (symbol t) || (not named && is_typedef_name types t)

-- an opening bracket and the start of a type
abbrev pub opens_type : Names → List Lexeme → Bool
opens_type types [] = false
opens_type types (b ∷ ts) = is_open_parenthesis (symbol b) && starts_with (begins_type types) ts

-- what follows an opening bracket is a list of parameters
abbrev pub opens_parameters : Names → List Lexeme → Bool
opens_parameters types ts = starts is_close_parenthesis ts || starts_with (begins_type types) ts

-- a comma that does not end a list in braces
abbrev pub goes_on_listing : List Lexeme → Bool
goes_on_listing [] = false
goes_on_listing (c ∷ ts) = is_comma (symbol c) && not (starts is_close_brace ts)

abbrev pub past_comma : List Lexeme → List Lexeme
past_comma ts = if starts is_comma ts then past ts else ts

-- Trees

-- the level of a tree, by its root
abbrev pub level_of : NodeKind → ℕ
level_of (Kinds.Infix p) = infix_level p
level_of Kinds.Cast = 13
level_of (Kinds.Prefix p) = 14
level_of Kinds.SizeofExpression = 14
level_of Kinds.SizeofType = 14
level_of Kinds.Conditional = 2
level_of (Kinds.Assignment p) = 1
level_of _ = 15

abbrev pub level : Syn → ℕ
level (node k t xs) = level_of k

-- whether a token goes on with a tree of the level m, where an expression of the level l is read
abbrev pub goes_on : Tail → ℕ → ℕ → Bool
goes_on (Tails.Joins p) l m = nat_le l (infix_level p) && nat_le (infix_level p) m
goes_on Tails.Asks l m = nat_le l 2 && nat_le 3 m
goes_on (Tails.Assigns p) l m = nat_le l 1 && nat_le 14 m
goes_on Tails.Ends l m = false
goes_on _ l m = nat_le 15 m

-- the declarator before a suffix, if there is one, as the parts of a node
abbrev pub parts_of : Option Syn → Syns
parts_of None = nil
parts_of (Some x) = one x

-- Texts and qualifiers, each as far as they go

abbrev pub pieces : List Lexeme → Syns × List Lexeme
pieces [] = (nil, [])
pieces (t ∷ ts) = if is_text (symbol t) then (more (node Kinds.Text t nil) (pieces ts).0, (pieces ts).1)
    else (nil, t ∷ ts)

abbrev pub qualified : Option SpecifierWord → Lexeme → List Lexeme → Syns × List Lexeme → Syns × List Lexeme
qualified None t ts qs = (nil, t ∷ ts)
qualified (Some w) t ts qs = (more (node (Kinds.Specifier w) t nil) qs.0, qs.1)

abbrev pub qualifiers : List Lexeme → Syns × List Lexeme
qualifiers [] = (nil, [])
qualifiers (t ∷ ts) = qualified (qualifier_of (symbol t)) t ts (qualifiers ts)

-- a tag, if there is one
abbrev pub tag : List Lexeme → Syns × List Lexeme
tag [] = (nil, [])
tag (n ∷ ts) = if is_word (symbol n) then (one (node Kinds.Tag n nil), ts) else (nil, n ∷ ts)

abbrev pub with_parts : (Syns → Syn) → Syns → List Lexeme → Parsed
with_parts make nil ts = None
with_parts make (more x xs) ts = Some (make (more x xs), ts)

-- Parts that have no height of their own, over the reader of what stands in them.
module _ (rec : Reader) where
  -- phrases with commas between them; at most k of them
  unfoldable pub separated : ℕ → Goal → Names → List Lexeme → ParsedParts
  separated zero g types ts = None
  separated (suc k) g types ts =
      rec g types ts >>= λ a. if goes_on_listing a.1
      then (separated k g types (past a.1) >>= λ b. Some (more a.0 b.0, b.1)) else Some (one a.0, a.1)

  abbrev pub list_of : Goal → Names → List Lexeme → ParsedParts
  list_of g types ts = separated (suc (length ts)) g types ts

  -- in parentheses
  unfoldable pub listed : Goal → Names → List Lexeme → ParsedParts
  listed g types ts = if starts is_close_parenthesis ts then Some (nil, ts) else list_of g types ts

  -- in braces, up to and with the closing one
  unfoldable pub listed_in_braces : Goal → Names → List Lexeme → ParsedParts
  listed_in_braces g types ts =
      list_of g types ts >>= λ a. expect is_close_brace (past_comma a.1) >>= λ rest. Some (a.0, rest)

  -- behind an opening bracket, up to and with what closes it
  abbrev pub bracketed : Goal → (Symbol → Bool) → Names → List Lexeme → Parsed
  bracketed g closes types ts = rec g types ts >>= λ a. expect closes a.1 >>= λ rest. Some (a.0, rest)

  -- at least one member and at most k, before a closing brace
  unfoldable pub members : ℕ → Names → List Lexeme → ParsedParts
  members zero types ts = None
  members (suc k) types ts =
      rec Member types ts >>= λ a. if starts is_close_brace a.1 then Some (one a.0, a.1)
      else (members k types a.1 >>= λ b. Some (more a.0 b.0, b.1))

  unfoldable pub record_from : RecordKind → Lexeme → Names → List Lexeme → Parsed
  record_from k t types ts =
      if starts is_open_brace (tag ts).1
      then (members (suc (length ts)) types (past (tag ts).1) >>= λ a. expect is_close_brace a.1
      >>= λ rest. Some (node (Kinds.Record k) t (joined (tag ts).0 a.0), rest))
      else with_parts (node (Kinds.Record k) t) (tag ts).0 (tag ts).1

  unfoldable pub enum_from : Lexeme → Names → List Lexeme → Parsed
  enum_from t types ts =
      if starts is_open_brace (tag ts).1
      then (listed_in_braces Enumerator types (past (tag ts).1)
      >>= λ a. Some (node Kinds.Enum t (joined (tag ts).0 a.0), a.1))
      else with_parts (node Kinds.Enum t) (tag ts).0 (tag ts).1

  -- a specifier that begins with a token
  abbrev pub specifier_by : Symbol → Lexeme → Names → List Lexeme → Parsed
  specifier_by (Symbols.Specifier w) t types ts = Some (node (Kinds.Specifier w) t nil, ts)
  specifier_by (Symbols.Record k) t types ts = record_from k t types ts
  specifier_by Symbols.Enum t types ts = enum_from t types ts
  specifier_by Symbols.Word t types ts = Some (node Kinds.TypedefName t nil, ts)
  specifier_by _ t types ts = None

  -- specifiers as far as they go, at most k - 1
  unfoldable pub specifier_list : ℕ → Bool → Names → List Lexeme → ParsedParts
  specifier_list zero named types ts = None
  specifier_list (suc k) named types [] = Some (nil, [])
  specifier_list (suc k) named types (t ∷ ts) =
      if goes_on_specifying types named t
      then (specifier_by (symbol t) t types ts >>= λ a. specifier_list k (named || names_type a.0) types a.1
      >>= λ b. Some (more a.0 b.0, b.1))
      else Some (nil, t ∷ ts)

  abbrev pub gathered : Syns → List Lexeme → Parsed
  gathered nil ts = None
  gathered (more x xs) ts =
      if is_agreed (more x xs) then Some (node Kinds.Specifiers (own_token x) (more x xs), ts) else None

  unfoldable pub specifiers : Names → List Lexeme → Parsed
  specifiers types ts = specifier_list (suc (length ts)) false types ts >>= λ a. gathered a.0 a.1

  -- a declarator, or nothing where it may be nameless
  unfoldable pub optional_declarator : Naming → Names → List Lexeme → ParsedParts
  optional_declarator m types ts =
      if starts begins_declarator ts then (rec (Declarator m) types ts >>= λ d. Some (one d.0, d.1))
      else (if may_be_nameless m then Some (nil, ts) else None)

  unfoldable pub type_name : Names → List Lexeme → Parsed
  type_name types ts =
      specifiers types ts >>= λ s. optional_declarator Nameless types s.1
      >>= λ d. Some (node Kinds.TypeName (own_token s.0) (more s.0 d.0), d.1)

-- Trees of at most the height h, over the reader of those that are one lower.
module _ (rec : Reader) (h : ℕ) where
  -- Expressions

  unfoldable pub in_parentheses : Lexeme → Names → List Lexeme → Parsed
  in_parentheses o types ts =
      bracketed rec (Expression 0) is_close_parenthesis types ts
      >>= λ a. Some (node Kinds.Parenthesized o (one a.0), a.1)

  unfoldable pub cast_from : Lexeme → Names → List Lexeme → Parsed
  cast_from o types ts =
      type_name rec types ts >>= λ a. expect is_close_parenthesis a.1 >>= λ rest. rec (Expression 13) types rest
      >>= λ b. Some (node Kinds.Cast o (two a.0 b.0), b.1)

  unfoldable pub prefix_from : PrefixOperator → Lexeme → Names → List Lexeme → Parsed
  prefix_from p o types ts =
      rec (Expression (operand_level p)) types ts >>= λ a. Some (node (Kinds.Prefix p) o (one a.0), a.1)

  unfoldable pub size_from : Lexeme → Names → List Lexeme → Parsed
  size_from o types ts = type_name rec types ts >>= λ a. expect is_close_parenthesis a.1
      >>= λ rest. Some (node Kinds.SizeofType o (one a.0), rest)

  -- behind `sizeof`
  unfoldable pub measure_from : Lexeme → Names → List Lexeme → Parsed
  measure_from o types ts =
      if opens_type types ts then size_from o types (past ts)
      else (rec (Expression 14) types ts >>= λ a. Some (node Kinds.SizeofExpression o (one a.0), a.1))

  -- the tree, where it is not too high
  abbrev pub grow : Syn → List Lexeme → Parsed
  grow x ts = if nat_le (height x) h then Some (x, ts) else None

  abbrev pub operand_by : Head → Lexeme → Names → List Lexeme → Parsed
  operand_by Heads.Name t types ts = if is_typedef_name types t then None else Some (node Kinds.Name t nil, ts)
  operand_by Heads.Number t types ts = Some (node Kinds.Number t nil, ts)
  operand_by Heads.Character t types ts = Some (node Kinds.Character t nil, ts)
  operand_by Heads.Text t types ts = grow (node Kinds.Text t (pieces ts).0) (pieces ts).1
  operand_by Heads.Opens t types ts =
      if starts_with (begins_type types) ts then cast_from t types ts else in_parentheses t types ts
  operand_by (Heads.Prefixes p) t types ts = prefix_from p t types ts
  operand_by Heads.Measures t types ts = measure_from t types ts
  operand_by Heads.NoHead t types ts = None

  unfoldable pub operand : Names → List Lexeme → Parsed
  operand types [] = None
  operand types (t ∷ ts) = operand_by (head_of (symbol t)) t types ts

  unfoldable pub index_from : Syn → Lexeme → Names → List Lexeme → Parsed
  index_from x o types ts =
      bracketed rec (Expression 0) is_close_bracket types ts >>= λ b. grow (node Kinds.Index o (two x b.0)) b.1

  unfoldable pub call_from : Syn → Lexeme → Names → List Lexeme → Parsed
  call_from x o types ts =
      listed rec (Expression 1) types ts >>= λ b. expect is_close_parenthesis b.1
      >>= λ rest. grow (node Kinds.Call o (more x b.0)) rest

  unfoldable pub select_from : Selection → Syn → Lexeme → List Lexeme → Parsed
  select_from s x o [] = None
  select_from s x o (n ∷ ts) =
      if is_word (symbol n) then grow (node (Kinds.Select s) o (two x (node Kinds.MemberName n nil))) ts else None

  unfoldable pub infix_from : InfixOperator → Syn → Lexeme → Names → List Lexeme → Parsed
  infix_from p x o types ts =
      rec (Expression (infix_level p + 1)) types ts >>= λ b. grow (node (Kinds.Infix p) o (two x b.0)) b.1

  unfoldable pub choice_from : Syn → Lexeme → Names → List Lexeme → Parsed
  choice_from x o types ts =
      bracketed rec (Expression 0) is_colon types ts >>= λ b. rec (Expression 2) types b.1
      >>= λ c. grow (node Kinds.Conditional o (three x b.0 c.0)) c.1

  unfoldable pub assign_from : Option IntOp → Syn → Lexeme → Names → List Lexeme → Parsed
  assign_from p x o types ts = rec (Expression 1) types ts >>= λ b. grow (node (Kinds.Assignment p) o (two x b.0)) b.1

  abbrev pub longer : Tail → Syn → Lexeme → Names → List Lexeme → Parsed
  longer Tails.Indexes x o types ts = index_from x o types ts
  longer Tails.Calls x o types ts = call_from x o types ts
  longer (Tails.Selects s) x o types ts = select_from s x o ts
  longer (Tails.Steps s) x o types ts = grow (node (Kinds.Postfix s) o (one x)) ts
  longer (Tails.Joins p) x o types ts = infix_from p x o types ts
  longer Tails.Asks x o types ts = choice_from x o types ts
  longer (Tails.Assigns p) x o types ts = assign_from p x o types ts
  longer Tails.Ends x o types ts = None

  -- what goes on with x, at most k - 1 times
  unfoldable pub climb : ℕ → ℕ → Names → Syn → List Lexeme → Parsed
  climb zero l types x ts = None
  climb (suc k) l types x [] = Some (x, [])
  climb (suc k) l types x (o ∷ ts) =
      if goes_on (tail_of (symbol o)) l (level x)
      then (longer (tail_of (symbol o)) x o types ts >>= λ b. climb k l types b.0 b.1) else Some (x, o ∷ ts)

  unfoldable pub expression : ℕ → Names → List Lexeme → Parsed
  expression l types ts = operand types ts >>= λ a. if nat_le l (level a.0) then climb (suc h) l types a.0 a.1 else None

  -- Declarators

  unfoldable pub pointer_from : Naming → Lexeme → Names → List Lexeme → Parsed
  pointer_from m o types ts =
      optional_declarator rec m types (qualifiers ts).1
      >>= λ d. Some (node Kinds.Pointer o (more (node Kinds.Qualifiers o (qualifiers ts).0) d.0), d.1)

  unfoldable pub enclosed_from : Naming → Lexeme → Names → List Lexeme → Parsed
  enclosed_from m o types ts =
      bracketed rec (Declarator m) is_close_parenthesis types ts
      >>= λ a. Some (node Kinds.ParenthesizedDeclarator o (one a.0), a.1)

  -- what the suffixes stand behind: a name, a declarator in parentheses, or nothing
  unfoldable pub core : Naming → Names → List Lexeme → Option (Option Syn × List Lexeme)
  core m types [] = None
  core m types (t ∷ ts) =
      if is_word (symbol t) then (if is_declared_by m types t then Some (Some (node Kinds.DeclaredName t nil), ts)
      else None)
      else (if is_open_parenthesis (symbol t) && not (may_be_nameless m && opens_parameters types ts)
      then (enclosed_from m t types ts >>= λ a. Some (Some a.0, a.1))
      else (if may_be_nameless m then Some (None, t ∷ ts) else None))

  unfoldable pub array_from : Option Syn → Lexeme → Names → List Lexeme → Parsed
  array_from x o types ts =
      if starts is_close_bracket ts
      then grow (node Kinds.OpenArray o (parts_of x)) (past ts)
      else (bracketed rec (Expression 2) is_close_bracket types ts
      >>= λ b. grow (node Kinds.Array o (then_one (parts_of x) b.0)) b.1)

  unfoldable pub function_from : Option Syn → Lexeme → Names → List Lexeme → Parsed
  function_from x o types ts =
      listed rec Parameter types ts >>= λ b. expect is_close_parenthesis b.1
      >>= λ rest. grow (node Kinds.Function o (then_one (parts_of x) (node Kinds.Parameters o b.0))) rest

  -- the suffixes behind x, at most k - 1
  unfoldable pub suffixes : ℕ → Names → Option Syn → List Lexeme → Option (Option Syn × List Lexeme)
  suffixes zero types x ts = None
  suffixes (suc k) types x [] = Some (x, [])
  suffixes (suc k) types x (o ∷ ts) =
      if is_open_bracket (symbol o) then (array_from x o types ts >>= λ b. suffixes k types (Some b.0) b.1)
      else (if is_open_parenthesis (symbol o) then (function_from x o types ts >>= λ b. suffixes k types (Some b.0) b.1)
      else Some (x, o ∷ ts))

  unfoldable pub direct : Naming → Names → List Lexeme → Parsed
  direct m types ts = core m types ts >>= λ a. suffixes (suc h) types a.0 a.1 >>= λ b. b.0 >>= λ x. Some (x, b.1)

  unfoldable pub declarator : Naming → Names → List Lexeme → Parsed
  declarator m types [] = None
  declarator m types (t ∷ ts) = if is_star (symbol t) then pointer_from m t types ts else direct m types (t ∷ ts)

  unfoldable pub parameter : Names → List Lexeme → Parsed
  parameter types ts =
      specifiers rec types ts >>= λ s. optional_declarator rec Either types s.1
      >>= λ d. Some (node Kinds.Parameter (own_token s.0) (more s.0 d.0), d.1)

  -- Members, enumerators, initializers

  unfoldable pub member : Names → List Lexeme → Parsed
  member types ts =
      specifiers rec types ts >>= λ s. list_of rec (Declarator Any) types s.1 >>= λ d. expect is_semicolon d.1
      >>= λ rest. Some (node Kinds.Member (own_token s.0) (more s.0 d.0), rest)

  unfoldable pub enumerator : Names → List Lexeme → Parsed
  enumerator types [] = None
  enumerator types (n ∷ ts) =
      if is_declared_by Plain types n
      then (if starts is_equals ts
      then (rec (Expression 2) types (past ts) >>= λ a. Some (node Kinds.Enumerator n (one a.0), a.1))
      else Some (node Kinds.Enumerator n nil, ts))
      else None

  unfoldable pub braces_from : Lexeme → Names → List Lexeme → Parsed
  braces_from o types ts =
      if starts is_close_brace ts
      then Some (node Kinds.BracedInitializer o nil, past ts)
      else (listed_in_braces rec Initializer types ts >>= λ a. Some (node Kinds.BracedInitializer o a.0, a.1))

  unfoldable pub initializer : Names → List Lexeme → Parsed
  initializer types [] = None
  initializer types (t ∷ ts) = if is_open_brace (symbol t) then braces_from t types ts else expression 1 types (t ∷ ts)

  abbrev pub one_lower : Reader
  one_lower (Expression l) types ts = expression l types ts
  one_lower (Declarator m) types ts = declarator m types ts
  one_lower Parameter types ts = parameter types ts
  one_lower Member types ts = member types ts
  one_lower Enumerator types ts = enumerator types ts
  one_lower Initializer types ts = initializer types ts
  one_lower _ types ts = None

-- a tree of at most this height
unfoldable pub read : ℕ → Reader
read zero g types ts = None
read (suc h) g types ts = one_lower (read h) (suc h) g types ts
