-- The steps of typing that stand for what comes once the parts of a construct are typed.
use Rattle.std.specs.Prelude.{Bool, false, not, ◌||◌, ◌&&◌, ◌++◌, length, is_none, ◌==◌, nat_lt, nat_le}
use Rattle.std.specs.Prelude.{if◌then◌else◌, List, [], ◌∷◌, Option, Some, None}
use Rattle.ck_base.specs.declared.positions.Pos.{Pos}
use Rattle.ck_base.specs.Tokens.{Lexeme}
use Rattle.c_tree.specs.declared.syntax.SpecifierWord.TheVariants as words
use Rattle.c_tree.specs.Syntax.{Syns}
use Rattle.c_tree.specs.Types.{Ty, qualified, is_function}
use Rattle.c_tree.specs.Scopes.{Part, Scope, State, Tagging, find_in, find_tag, innermost, leave, is_complete, Doing}
use Rattle.c_tree.specs.Scopes.{give, need, look, some_or, ◌>>=◌, ◌>>◌}
use Rattle.c_tree.specs.Readings.{Storage, Plain, Internal, External, Defining_type, Specified, Wrap}
use Rattle.c_tree.specs.Declarators as meant
use Rattle.c_tree.specs.Declarators.{formed, judge, Formed}
pub use Rattle.c_plain_rules.specs.Constants.{constant, array_length}
use Rattle.c_declarators.specs.declared.parts.Derived.{Derived}
use Rattle.c_declarators.specs.declared.words.Words.{Words}
use Rattle.c_declarators.specs.Words.{type_words, storage_words, word_type}

-- ---- specifiers, by their words and by the types of the others among them

abbrev pub storage_of : Words → Storage
storage_of x =
    (if nat_lt 0 x.typedefs then Defining_type
    else (if nat_lt 0 x.statics then Internal else (if nat_lt 0 x.externs then External else Plain)))

abbrev pub specified_type : Words → List Ty → Option Ty
specified_type x [] = word_type x
specified_type x (t ∷ []) = (if type_words x == 0 then Some t else None)
specified_type x (t ∷ u ∷ ts) = None

abbrev pub with_const : Words → Ty → Ty
with_const x t = (if nat_lt 0 x.consts then qualified t else t)

abbrev pub specified_by : Words → Lexeme → List Ty → Doing Specified
specified_by x t ts =
    need (nat_le (storage_words x) 1) 133 t.pos >>
    some_or (specified_type x ts) 133 t.pos >>= λ of.
    give (record {
      first = t;
      stored = nat_lt x.registers (storage_words x);
      storage = storage_of x;
      of = with_const x of;
    })

-- the end of specifiers
abbrev pub specified : Lexeme → Syns → List Ty → Doing Specified
specified t xs ts =
    need (nat_le (meant.storage_words xs) 1) 133 t.pos >>
    some_or (meant.specified_type xs ts) 133 t.pos >>= λ of.
    give (record {
      first = t;
      stored = nat_lt (meant.times_there words.Register xs) (meant.storage_words xs);
      storage = meant.storage_of xs;
      of = meant.with_const xs of;
    })

-- ---- type names

-- the type that a declarator makes of a type, now
abbrev pub forms : Ty → List Wrap → Doing Formed
forms t ws = look >>= λ s. give (formed s t ws)

-- the end of a type name
abbrev pub named_type : Ty → List Wrap → Pos → Doing Ty
named_type t ws p = look >>= λ s. let f = formed s t ws in judge f false false p >> give f.of

-- ---- members and parameters

abbrev pub named_member : Ty → List Wrap → Lexeme → List Part → Doing (List Part)
named_member of ws t ms = look >>= λ st.
    let f = formed st of ws in
    need (not (meant.has_part ms t.text)) 131 t.pos >>
    judge f (not (is_function f.of || is_complete st f.of)) (is_function f.of) t.pos >>
    give (ms ++ record { name = t; of = f.of } ∷ [])

abbrev pub has_no_parts : Derived → Bool
has_no_parts d = is_none d.name && length d.wraps.items == 0

-- ---- tags

-- what a tag denotes, in this scope or in force
abbrev pub tag_there : Bool → Lexeme → State → Option Tagging
tag_there here t s = (if here then find_in (innermost s.scopes).tags t.text else find_tag s.scopes t.text)

abbrev pub new_enumeration_of : Lexeme → Doing Unit
new_enumeration_of t = look >>= λ s. meant.new_enumeration t (find_in (innermost s.scopes).tags t.text)

abbrev pub named_enumeration_of : Lexeme → Doing Unit
named_enumeration_of t = look >>= λ s. meant.named_enumeration t (find_tag s.scopes t.text)

-- ---- scopes of parameters

-- the innermost scope is left, and what it declares is kept
abbrev pub closing : Doing Scope
closing = look >>= λ s. leave >> give (innermost s.scopes)
