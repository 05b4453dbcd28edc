-- Small files, and whether the grammar has a tree for them.
use Rattle.std.proofs.Common.{◌≡◌, ℕ, Bool, true, false, List, [], ◌∷◌, ◌++◌, Option, Some, None, refl}
use Rattle.std.specs.Prelude.{◌-◌, not, ◌&&◌, if◌then◌else◌, ◌==◌, codes}
use Rattle.std.specs.List.{list_all}
use Rattle.std.specs.Str.{byte}
use Rattle.std.specs.Char.{is_ascii_digit}
use Rattle.ck_base.specs.declared.tokens.TokenKind.{TokenKind}
use Rattle.ck_base.specs.declared.tokens.TokenKind.TheVariants as TokenKinds
use Rattle.ck_base.specs.Tokens
use Rattle.ck_base.specs.Tokens.{Lexeme, is_nondigit}
use Rattle.c_tree.specs.Syntax.{Syn}
use Rattle.c_tree.specs.Symbols
use Rattle.c_tree.specs.Grammar
use Rattle.c_phrases.specs.Reading
use Rattle.c_externals.specs.Statements

kind_at : ℕ → TokenKind
unfolding is_nondigit
kind_at b = if is_nondigit b then TokenKinds.Word
    else (if is_ascii_digit b then TokenKinds.Number
    else (if b == byte "'" then TokenKinds.Char else (if b == byte "\"" then TokenKinds.Text else TokenKinds.Punct)))

token : List ℕ → List Lexeme
token [] = []
token (b ∷ bs) = record {
  kind = kind_at b;
  text = b ∷ bs;
  span = record { start = 0; end = 0 };
  pos = record { line = 1; col = 1 };
} ∷ []

-- the tokens between spaces
split : List ℕ → List ℕ → List Lexeme
split text [] = token text
split text (b ∷ bs) = if b == byte " " then token text ++ split [] bs else split (text ++ (b ∷ [])) bs

is_tree : Option Syn → Bool
is_tree None = false
is_tree (Some x) = true

-- whether a text whose tokens stand between spaces has a tree of at most h + 1 levels
accepts_at : ℕ → List ℕ → Bool
accepts_at h text = is_tree (Statements.read_file h (split [] text))

accepts : List ℕ → Bool
accepts text = accepts_at 30 text

refuses : List ℕ → Bool
refuses text = not (accepts text)

-- whether it has a tree of so many levels, and of no fewer
has_levels : ℕ × List ℕ → Bool
has_levels x = accepts_at (x.0 - 1) x.1 && not (accepts_at (x.0 - 2) x.1)

abbrev accepted : List (List ℕ)
accepted =
    codes "" ∷
    codes ";" ∷
    codes "int x ;" ∷
    codes "int main ( void ) { return 0 ; }" ∷
    codes "int f ( ) ;" ∷
    codes "int * a [ 3 ] , b = 1 ;" ∷
    codes "typedef int T ; T x ; T * f ( T ) ;" ∷
    codes "typedef int A , B [ sizeof ( A ) ] ;" ∷
    codes "size_t n ;" ∷
    codes "struct S { int a ; char * b [ 4 ] ; } s = { 1 , { 2 , 3 } , } ;" ∷
    codes "struct S ; union U { int a ; } ; enum E { A , B = 2 , } ;" ∷
    codes "int ( * p ) ( int , char * ) ;" ∷
    codes "void f ( int ( int ) , int [ ] , int ( * ) [ 3 ] , const char * const s ) ;" ∷
    codes "int f ( void ) { if ( a ) if ( b ) c ; else d ; while ( x ) x -- ; do ; while ( 0 ) ; return ; }" ∷
    codes "int f ( void ) { for ( ; ; ) break ; for ( int i = 0 ; i < 3 ; i ++ ) continue ; }" ∷
    codes "int f ( void ) { switch ( x ) { case 1 : case 2 : y = 3 ; break ; int z ; default : ; } }" ∷
    codes "int x = a ? b , c : d ? e : f ;" ∷
    codes "int x = ( int ) y + sizeof ( int ) * sizeof y [ 2 ] . m -> n ( 1 , 2 ) ( ) ;" ∷
    codes "int f ( void ) { a = b += c <<= d ; - a = b ; 1 = x ; * p ++ = & q ; }" ∷
    codes "char * s = \"a\" \"b\" \"c\" ;" ∷
    codes "int c = 'x' ;" ∷
    codes "int f ( void ) { typedef int T ; { T x ; T * y ; } T z ; }" ∷
    codes "typedef int T ; typedef int T ; struct { int T ; int ( T ) ; } s ; struct T { T T ; } t ;" ∷
    codes "typedef int T ; int f ( T ) ; int x = s . T + p -> T ;" ∷
    codes "int char x ;" ∷
    codes "typedef int T ; int f ( int ( T ) , T ) ;" ∷
    codes "typedef int T ; const T x ; int g ( const T ) ;" ∷
    codes "int f ( int x ( ) , int ( ) , int ( ( x ) ) ) ;" ∷
    codes "static inline int f ( register int x ) { auto int y ; extern int z ; }" ∷
    codes "typedef struct Node Node ; struct Node { Node * next ; } ;" ∷
    codes "int x ; int f ( void ) { int x ; typedef int x ; x y ; }" ∷
    codes "int a [ ] = { } ;" ∷
    codes "__intcap_t a ; __uintcap_t b ; int * __restrict c ; __inline int f ( void ) { }" ∷
    codes "int f ( void ) { for ( T ; 0 ; ) ; }" ∷
    codes "int f ( void ) { ( ( x ) ) ; ( T ) ; }" ∷
    codes "struct { const T ; } s ;" ∷
    codes "int f ( void ) { for ( typedef int T ; ( T ) 0 ; ( T ) 1 ) ( T ) 2 ; }" ∷
    codes "int f ( void ) { switch ( x ) { typedef int T ; case ( T ) 1 : T y ; default : ; } }" ∷
    codes "int f ( void ) { if ( a ) do if ( b ) c ; while ( d ) ; else e ; }" ∷
    codes "int f ( void ) { if ( a ) for ( ; ; ) while ( b ) if ( c ) d ; else e ; else g ; }" ∷
    codes "int f ( void ) { if ( a ) switch ( b ) { case 1 : if ( c ) d ; } else e ; }" ∷
    codes "typedef int T ; struct { const ( T ) ; } s ;" ∷ []

abbrev refused : List (List ℕ)
refused =
    codes "int" ∷
    codes "int x" ∷
    codes "x ;" ∷
    codes "int int int2 x ;" ∷
    codes "T x ;" ∷
    codes "typedef int T ; T int x ;" ∷
    codes "typedef int T ; int T x ;" ∷
    codes "typedef int T ; T T x ;" ∷
    codes "typedef int T ; int T ;" ∷
    codes "typedef int T ; int ( T ) ;" ∷
    codes "typedef int T ; int f ( void ) { typedef int T ; }" ∷
    codes "int f ( void ) { typedef int T ; } T x ;" ∷
    codes "int f ( void ) { { typedef int T ; } T x ; }" ∷
    codes "int f ( void ) { else ; }" ∷
    codes "int f ( void ) { if ( a ) ; else ; else ; }" ∷
    codes "int f ( ( ) ) ;" ∷
    codes "int f ( int ( x ) y ) ;" ∷
    codes "int x = a + b = c ;" ∷
    codes "int x = ( int ) y = 1 ;" ∷
    codes "int x = a ? b : c = d ;" ∷
    codes "typedef int T ; int x = sizeof ( T ) x ;" ∷
    codes "typedef int T ; int x = T ;" ∷
    codes "int f ( void ) { case 1 : ; }" ∷
    codes "int f ( void ) { return 0 }" ∷
    codes "int f ( void ) { do x while ( 0 ) ; }" ∷
    codes "struct { } s ;" ∷
    codes "struct ;" ∷
    codes "enum { } ;" ∷
    codes "enum E { A B } ;" ∷
    codes "int * ;" ∷
    codes "int a [ 1 , 2 ] ;" ∷
    codes "int f ( int , ) ;" ∷
    codes "int x = f ( , ) ;" ∷
    codes "int x = f ( 1 , ) ;" ∷
    codes "struct { int a } s ;" ∷
    codes "typedef int T ; struct { const T ; } s ;" ∷
    codes "int x = ( ) ;" ∷
    codes "int x = { 1 , , } ;" ∷
    codes "int f ( void ) { break }" ∷
    codes "typedef int T ; enum { T } ;" ∷
    codes "typedef int T ; int f ( int T ) ;" ∷
    codes "typedef int T ; int T ( void ) { }" ∷
    codes "int f ( void ) { switch ( x ) case 1 : ; }" ∷
    codes "int f ( void ) { for ( ; ) ; }" ∷
    codes "int f ( void ) { for ( int i = 0 , i < 3 ; ) ; }" ∷
    codes "int f ( void ) { x : y ; }" ∷
    codes "{ }" ∷
    codes "int ( ) ;" ∷
    codes "int x , ;" ∷
    codes "int + x ;" ∷
    codes "int f ( void ) { } ; } " ∷
    codes "int f ( void ) { for ( typedef int T ; ; ) { } T x ; }" ∷
    codes "int f ( void ) { switch ( x ) { { case 1 : ; } } }" ∷
    codes "int f ( void ) { switch ( a ) { case 1 : if ( b ) c ; case 2 : else d ; } }" ∷
    codes "typedef int T ; typedef ( T ) ;" ∷
    codes "typedef int T ; typedef int T ( void ) { }" ∷
    codes "int x = sizeof ( int ) [ 2 ] ;" ∷
    codes "int x = ++ ( int ) y ;" ∷
    codes "int y = sizeof ( int ( x ) ) ;" ∷ []

-- Which operand belongs to which operator shows in the height
abbrev levels : List (ℕ × List ℕ)
levels =
    (6, codes "int x = a == b == c & d ;") ∷
    (6, codes "int x = a & b == c == d ;") ∷
    (5, codes "int x = a - b - ( c ) ;") ∷
    (6, codes "int x = a = b = ( c ) ;") ∷
    (4, codes "typedef int A , B [ sizeof ( A ) ] ;") ∷
    (5, codes "int ( * a ) ;") ∷
    (7, codes "int f ( void ) { if ( a ) if ( b ) c ; else ( d ) ; }") ∷ []

accepted_are : list_all accepts accepted ≡ true
unfolding kind_at token split is_tree accepts_at accepts refuses has_levels is_nondigit Reading.separated Reading.listed
    Reading.listed_in_braces Reading.members Reading.record_from Reading.enum_from Reading.specifier_list
    Reading.specifiers Reading.optional_declarator Reading.type_name Reading.in_parentheses Reading.cast_from
    Reading.prefix_from Reading.size_from Reading.measure_from Reading.operand Reading.index_from Reading.call_from
    Reading.select_from Reading.infix_from Reading.choice_from Reading.assign_from Reading.climb Reading.expression
    Reading.pointer_from Reading.enclosed_from Reading.core Reading.array_from Reading.function_from Reading.suffixes
    Reading.direct Reading.declarator Reading.parameter Reading.member Reading.enumerator Reading.braces_from
    Reading.initializer Reading.read Statements.initialize Statements.initialized Statements.declaration_behind
    Statements.declaration Statements.declare Statements.condition Statements.if_from Statements.while_from
    Statements.do_from Statements.optional Statements.for_behind Statements.for_from Statements.return_from
    Statements.jump_from Statements.expression_from Statements.items Statements.items_in_braces Statements.block_from
    Statements.switch_from Statements.statement Statements.state Statements.block Statements.definition_from
    Statements.external_behind Statements.external Statements.externals Statements.read_file Symbols.symbol_of
    Symbols.keyword_symbols Symbols.punctuator_symbols Tokens.keywords Grammar.predeclared
accepted_are = refl

refused_are : list_all refuses refused ≡ true
unfolding kind_at token split is_tree accepts_at accepts refuses has_levels is_nondigit Reading.separated Reading.listed
    Reading.listed_in_braces Reading.members Reading.record_from Reading.enum_from Reading.specifier_list
    Reading.specifiers Reading.optional_declarator Reading.type_name Reading.in_parentheses Reading.cast_from
    Reading.prefix_from Reading.size_from Reading.measure_from Reading.operand Reading.index_from Reading.call_from
    Reading.select_from Reading.infix_from Reading.choice_from Reading.assign_from Reading.climb Reading.expression
    Reading.pointer_from Reading.enclosed_from Reading.core Reading.array_from Reading.function_from Reading.suffixes
    Reading.direct Reading.declarator Reading.parameter Reading.member Reading.enumerator Reading.braces_from
    Reading.initializer Reading.read Statements.initialize Statements.initialized Statements.declaration_behind
    Statements.declaration Statements.declare Statements.condition Statements.if_from Statements.while_from
    Statements.do_from Statements.optional Statements.for_behind Statements.for_from Statements.return_from
    Statements.jump_from Statements.expression_from Statements.items Statements.items_in_braces Statements.block_from
    Statements.switch_from Statements.statement Statements.state Statements.block Statements.definition_from
    Statements.external_behind Statements.external Statements.externals Statements.read_file Symbols.symbol_of
    Symbols.keyword_symbols Symbols.punctuator_symbols Tokens.keywords Grammar.predeclared
refused_are = refl

levels_are : list_all has_levels levels ≡ true
unfolding kind_at token split is_tree accepts_at accepts refuses has_levels is_nondigit Reading.separated Reading.listed
    Reading.listed_in_braces Reading.members Reading.record_from Reading.enum_from Reading.specifier_list
    Reading.specifiers Reading.optional_declarator Reading.type_name Reading.in_parentheses Reading.cast_from
    Reading.prefix_from Reading.size_from Reading.measure_from Reading.operand Reading.index_from Reading.call_from
    Reading.select_from Reading.infix_from Reading.choice_from Reading.assign_from Reading.climb Reading.expression
    Reading.pointer_from Reading.enclosed_from Reading.core Reading.array_from Reading.function_from Reading.suffixes
    Reading.direct Reading.declarator Reading.parameter Reading.member Reading.enumerator Reading.braces_from
    Reading.initializer Reading.read Statements.initialize Statements.initialized Statements.declaration_behind
    Statements.declaration Statements.declare Statements.condition Statements.if_from Statements.while_from
    Statements.do_from Statements.optional Statements.for_behind Statements.for_from Statements.return_from
    Statements.jump_from Statements.expression_from Statements.items Statements.items_in_braces Statements.block_from
    Statements.switch_from Statements.statement Statements.state Statements.block Statements.definition_from
    Statements.external_behind Statements.external Statements.externals Statements.read_file Symbols.symbol_of
    Symbols.keyword_symbols Symbols.punctuator_symbols Tokens.keywords Grammar.predeclared
levels_are = refl
