-- What a token is to the grammar, by its kind and its text alone, and what it can do in an expression.
use Rattle.std.specs.Prelude.{ℕ, Bool, true, false, if◌then◌else◌, List, [], ◌∷◌, Some, None, bytes_eq, codes}
use Rattle.ck_base.specs.declared.tokens.TokenKind.{TokenKind}
use Rattle.ck_base.specs.declared.tokens.TokenKind.TheVariants as Tokens
use Rattle.ck_base.specs.Tokens.{Lexeme, is_among, keywords}
use Rattle.ck_int.specs.declared.kinds.IntOp.TheVariants.{Add, Sub, Mul, Div, Rem, And, Or, Xor, Shl, Shr}
use Rattle.ck_int.specs.declared.kinds.CmpOp.TheVariants.{Lt, Le, Gt, Ge, Eq, Ne}
use Rattle.c_tree.specs.declared.typed.UnaryOp.TheVariants as Unaries
use Rattle.c_tree.specs.declared.syntax.SpecifierWord.{SpecifierWord}
use Rattle.c_tree.specs.declared.syntax.SpecifierWord.TheVariants as Words
use Rattle.c_tree.specs.declared.syntax.RecordKind.TheVariants.{Struct, Union}
use Rattle.c_tree.specs.declared.syntax.InfixOperator.{InfixOperator}
use Rattle.c_tree.specs.declared.syntax.InfixOperator.TheVariants.{Int, Compare}
use Rattle.c_tree.specs.declared.syntax.InfixOperator.TheVariants as Infixes
use Rattle.c_tree.specs.declared.syntax.StepOperator.TheVariants.{Increment, Decrement}
use Rattle.c_tree.specs.declared.syntax.PrefixOperator.{PrefixOperator}
use Rattle.c_tree.specs.declared.syntax.PrefixOperator.TheVariants as Prefixes
use Rattle.c_tree.specs.declared.syntax.Selection.TheVariants.{Direct, Indirect}
use Rattle.c_tree.specs.declared.syntax.Symbol.{Symbol}
use Rattle.c_tree.specs.declared.syntax.Symbol.TheVariants.{Word, Number, Character, Text, OpenParenthesis}
use Rattle.c_tree.specs.declared.syntax.Symbol.TheVariants.{CloseParenthesis, OpenBracket, CloseBracket, OpenBrace}
use Rattle.c_tree.specs.declared.syntax.Symbol.TheVariants.{CloseBrace, Selection, Step, Ampersand, Star, Plus, Minus}
use Rattle.c_tree.specs.declared.syntax.Symbol.TheVariants.{Tilde, Exclamation, Infix, Question, Colon, Semicolon}
use Rattle.c_tree.specs.declared.syntax.Symbol.TheVariants.{Comma, Assignment, Specifier, Record, Enum, Sizeof, If}
use Rattle.c_tree.specs.declared.syntax.Symbol.TheVariants.{Else, While, Do, For, Switch, Case, Default, Break}
use Rattle.c_tree.specs.declared.syntax.Symbol.TheVariants.{Continue, Return, Other}
use Rattle.c_tree.specs.declared.syntax.Head.{Head}
use Rattle.c_tree.specs.declared.syntax.Head.TheVariants as Heads
use Rattle.c_tree.specs.declared.syntax.Tail.{Tail}
use Rattle.c_tree.specs.declared.syntax.Tail.TheVariants as Tails

-- what a table says of a text
abbrev pub look_up : List (List ℕ × Symbol) → List ℕ → Symbol
look_up [] text = Other
look_up (entry ∷ table) text = if bytes_eq entry.0 text then entry.1 else look_up table text

-- 6.4.1
unfoldable pub keyword_symbols : List (List ℕ × Symbol)
keyword_symbols =
    (codes "auto", Specifier Words.Auto) ∷ (codes "break", Break) ∷ (codes "case", Case)
    ∷ (codes "char", Specifier Words.Char) ∷
    (codes "const", Specifier Words.Const) ∷ (codes "continue", Continue) ∷ (codes "default", Default)
    ∷ (codes "do", Do) ∷
    (codes "else", Else) ∷ (codes "enum", Enum) ∷ (codes "extern", Specifier Words.Extern) ∷ (codes "for", For)
    ∷ (codes "if", If) ∷
    (codes "inline", Specifier Words.Inline) ∷ (codes "int", Specifier Words.Int) ∷ (codes "long", Specifier Words.Long)
    ∷
    (codes "register", Specifier Words.Register) ∷ (codes "restrict", Specifier Words.Restrict)
    ∷ (codes "return", Return) ∷
    (codes "short", Specifier Words.Short) ∷ (codes "signed", Specifier Words.Signed) ∷ (codes "sizeof", Sizeof) ∷
    (codes "static", Specifier Words.Static) ∷ (codes "struct", Record Struct) ∷ (codes "switch", Switch) ∷
    (codes "typedef", Specifier Words.Typedef) ∷ (codes "union", Record Union)
    ∷ (codes "unsigned", Specifier Words.Unsigned) ∷
    (codes "void", Specifier Words.Void) ∷ (codes "volatile", Specifier Words.Volatile) ∷ (codes "while", While) ∷
    (codes "_Bool", Specifier Words.Bool) ∷ (codes "__intcap_t", Specifier Words.IntCap)
    ∷ (codes "__uintcap_t", Specifier Words.UintCap) ∷
    (codes "__restrict", Specifier Words.Restrict) ∷ (codes "__inline", Specifier Words.Inline) ∷ []

-- 6.4.6
unfoldable pub punctuator_symbols : List (List ℕ × Symbol)
punctuator_symbols =
    (codes "[", OpenBracket) ∷ (codes "]", CloseBracket) ∷ (codes "(", OpenParenthesis) ∷ (codes ")", CloseParenthesis)
    ∷
    (codes "{", OpenBrace) ∷ (codes "}", CloseBrace) ∷ (codes ".", Selection Direct) ∷ (codes "->", Selection Indirect)
    ∷
    (codes "++", Step Increment) ∷ (codes "--", Step Decrement) ∷ (codes "&", Ampersand) ∷ (codes "*", Star)
    ∷ (codes "+", Plus) ∷
    (codes "-", Minus) ∷ (codes "~", Tilde) ∷ (codes "!", Exclamation) ∷ (codes "/", Infix (Int Div))
    ∷ (codes "%", Infix (Int Rem)) ∷
    (codes "<<", Infix (Int Shl)) ∷ (codes ">>", Infix (Int Shr)) ∷ (codes "<", Infix (Compare Lt))
    ∷ (codes ">", Infix (Compare Gt)) ∷
    (codes "<=", Infix (Compare Le)) ∷ (codes ">=", Infix (Compare Ge)) ∷ (codes "==", Infix (Compare Eq)) ∷
    (codes "!=", Infix (Compare Ne)) ∷ (codes "^", Infix (Int Xor)) ∷ (codes "|", Infix (Int Or))
    ∷ (codes "&&", Infix Infixes.And) ∷
    (codes "||", Infix Infixes.Or) ∷ (codes "?", Question) ∷ (codes ":", Colon) ∷ (codes ";", Semicolon)
    ∷ (codes "=", Assignment None) ∷
    (codes "*=", Assignment (Some Mul)) ∷ (codes "/=", Assignment (Some Div)) ∷ (codes "%=", Assignment (Some Rem)) ∷
    (codes "+=", Assignment (Some Add)) ∷ (codes "-=", Assignment (Some Sub)) ∷ (codes "<<=", Assignment (Some Shl)) ∷
    (codes ">>=", Assignment (Some Shr)) ∷ (codes "&=", Assignment (Some And)) ∷ (codes "^=", Assignment (Some Xor)) ∷
    (codes "|=", Assignment (Some Or)) ∷ (codes ",", Comma) ∷ []

unfoldable pub symbol_of : TokenKind → List ℕ → Symbol
symbol_of Tokens.Word text = if is_among keywords text then look_up keyword_symbols text else Word
symbol_of Tokens.Number text = Number
symbol_of Tokens.Char text = Character
symbol_of Tokens.Text text = Text
symbol_of Tokens.Punct text = look_up punctuator_symbols text

abbrev pub symbol : Lexeme → Symbol
symbol t = symbol_of t.kind t.text

-- 6.5.1 to 6.5.4: how an expression begins
abbrev pub head_of : Symbol → Head
head_of Word = Heads.Name
head_of Number = Heads.Number
head_of Character = Heads.Character
head_of Text = Heads.Text
head_of OpenParenthesis = Heads.Opens
head_of (Step s) = Heads.Prefixes (Prefixes.Step s)
head_of Ampersand = Heads.Prefixes Prefixes.Address
head_of Star = Heads.Prefixes Prefixes.Indirection
head_of Plus = Heads.Prefixes (Prefixes.Unary Unaries.Plus)
head_of Minus = Heads.Prefixes (Prefixes.Unary Unaries.Minus)
head_of Tilde = Heads.Prefixes (Prefixes.Unary Unaries.Complement)
head_of Exclamation = Heads.Prefixes (Prefixes.Unary Unaries.LogicalNot)
head_of Sizeof = Heads.Measures
head_of _ = Heads.NoHead

-- 6.5.2, 6.5.5 to 6.5.17: how it goes on
abbrev pub tail_of : Symbol → Tail
tail_of OpenBracket = Tails.Indexes
tail_of OpenParenthesis = Tails.Calls
tail_of (Selection s) = Tails.Selects s
tail_of (Step s) = Tails.Steps s
tail_of Ampersand = Tails.Joins (Int And)
tail_of Star = Tails.Joins (Int Mul)
tail_of Plus = Tails.Joins (Int Add)
tail_of Minus = Tails.Joins (Int Sub)
tail_of (Infix o) = Tails.Joins o
tail_of Comma = Tails.Joins Infixes.Comma
tail_of Question = Tails.Asks
tail_of (Assignment o) = Tails.Assigns o
tail_of _ = Tails.Ends

-- Levels of expressions, the loosest first: 0 comma (6.5.17), 1 assignment (6.5.16), 2 conditional (6.5.15), 3 to 12
-- the operators of 6.5.14 down to 6.5.5, 13 cast (6.5.4), 14 unary (6.5.3), 15 postfix (6.5.2).
abbrev pub infix_level : InfixOperator → ℕ
infix_level Infixes.Comma = 0
infix_level Infixes.Or = 3
infix_level Infixes.And = 4
infix_level (Int Or) = 5
infix_level (Int Xor) = 6
infix_level (Int And) = 7
infix_level (Compare Eq) = 8
infix_level (Compare Ne) = 8
infix_level (Compare Lt) = 9
infix_level (Compare Gt) = 9
infix_level (Compare Le) = 9
infix_level (Compare Ge) = 9
infix_level (Int Shl) = 10
infix_level (Int Shr) = 10
infix_level (Int Add) = 11
infix_level (Int Sub) = 11
infix_level (Int Mul) = 12
infix_level (Int Div) = 12
infix_level (Int Rem) = 12

-- 6.5.3: behind `++` and `--` stands a unary expression, behind the others a cast
abbrev pub operand_level : PrefixOperator → ℕ
operand_level (Prefixes.Step s) = 14
operand_level _ = 13

-- 6.7.3: a qualifier
abbrev pub is_qualifier : SpecifierWord → Bool
is_qualifier Words.Const = true
is_qualifier Words.Volatile = true
is_qualifier Words.Restrict = true
is_qualifier _ = false

-- 6.7.2: a word that names a type, or a part of one
abbrev pub is_type_word : SpecifierWord → Bool
is_type_word Words.Void = true
is_type_word Words.Char = true
is_type_word Words.Short = true
is_type_word Words.Int = true
is_type_word Words.Long = true
is_type_word Words.Signed = true
is_type_word Words.Unsigned = true
is_type_word Words.Bool = true
is_type_word Words.IntCap = true
is_type_word Words.UintCap = true
is_type_word _ = false
