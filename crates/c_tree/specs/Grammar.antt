-- The grammar of the language as a relation between tokens and finished trees, production by production (C11 6.5 to
-- 6.9).
--
-- A typedef name is never hidden, so the names in force are a list without scopes: a declaration adds to it, and the
-- end of a block, of a `for` or of a file goes back to the list before it. Expressions, specifiers, declarators and
-- initializers add nothing.
use Rattle.std.specs.Prelude.{◌≡◌, ℕ, ◌+◌, ◌≤◌, Bool, true, false, not, ◌&&◌, ◌||◌, if◌then◌else◌, ◌==◌, List, [], ◌∷◌}
use Rattle.std.specs.Prelude.{◌++◌, Option, None, codes}
use Rattle.ck_base.specs.Tokens.{Lexeme, is_among}
use Rattle.c_tree.specs.declared.syntax.SpecifierWord.{SpecifierWord}
use Rattle.c_tree.specs.declared.syntax.SpecifierWord.TheVariants as Words
use Rattle.c_tree.specs.declared.syntax.RecordKind.{RecordKind}
use Rattle.c_tree.specs.declared.syntax.InfixOperator.{InfixOperator}
use Rattle.c_tree.specs.declared.syntax.StepOperator.{StepOperator}
use Rattle.c_tree.specs.declared.syntax.PrefixOperator.{PrefixOperator}
use Rattle.c_tree.specs.declared.syntax.Selection.{Selection}
use Rattle.ck_int.specs.declared.kinds.IntOp.{IntOp}
use Rattle.c_tree.specs.declared.syntax.Symbol.{Symbol}
use Rattle.c_tree.specs.declared.syntax.Symbol.TheVariants as Symbols
use Rattle.c_tree.specs.declared.syntax.Head.TheVariants as Heads
use Rattle.c_tree.specs.declared.syntax.Tail.TheVariants as Tails
use Rattle.c_tree.specs.declared.syntax.NodeKind.TheVariants as Kinds
use Rattle.c_tree.specs.Syntax.{Syn, Syns, node, nil, more, one, two, three, four, joined, then_one, own_token}
use Rattle.c_tree.specs.Syntax.{first_token}
use Rattle.c_tree.specs.Symbols.{symbol, head_of, tail_of, infix_level, operand_level, is_qualifier, is_type_word}

-- Names

-- the names of types that are declared before a file
unfoldable pub predeclared : List (List ℕ)
predeclared =
    codes "size_t" ∷ codes "ptraddr_t" ∷ codes "ptrdiff_t" ∷ codes "intptr_t" ∷ codes "uintptr_t"
    ∷ codes "int8_t" ∷ codes "int16_t" ∷ codes "int32_t" ∷ codes "int64_t"
    ∷ codes "uint8_t" ∷ codes "uint16_t" ∷ codes "uint32_t" ∷ codes "uint64_t" ∷ []

abbrev pub is_word : Symbol → Bool
is_word Symbols.Word = true
is_word _ = false

-- 6.7.8: a word that is a typedef name, where these are the names in force
abbrev pub is_typedef_name : List (List ℕ) → Lexeme → Bool
is_typedef_name types t = is_word (symbol t) && is_among types t.text

-- What a declarator declares: a name that is no typedef name; any name; no name; or either a name that is no typedef
-- name, or none.
pub data Naming : Type 0 where
  Plain : Naming
  Any : Naming
  Nameless : Naming
  Either : Naming

abbrev pub is_declared_by : Naming → List (List ℕ) → Lexeme → Bool
is_declared_by Plain types t = is_word (symbol t) && not (is_typedef_name types t)
is_declared_by Any types t = is_word (symbol t)
is_declared_by Nameless types t = false
is_declared_by Either types t = is_word (symbol t) && not (is_typedef_name types t)

abbrev pub may_be_nameless : Naming → Bool
may_be_nameless Nameless = true
may_be_nameless Either = true
may_be_nameless _ = false

-- Specifiers

abbrev pub is_typedef_word : Syn → Bool
is_typedef_word (node (Kinds.Specifier Words.Typedef) t xs) = true
is_typedef_word _ = false

-- a specifier that names a type or a part of one
abbrev pub names_type : Syn → Bool
names_type (node (Kinds.Specifier w) t xs) = is_type_word w
names_type (node Kinds.TypedefName t xs) = true
names_type (node (Kinds.Record k) t xs) = true
names_type (node Kinds.Enum t xs) = true
names_type _ = false

abbrev pub is_typedef_node : Syn → Bool
is_typedef_node (node Kinds.TypedefName t xs) = true
is_typedef_node _ = false

abbrev pub has_any : (Syn → Bool) → Syns → Bool
has_any test nil = false
has_any test (more x xs) = test x || has_any test xs

abbrev pub count : (Syn → Bool) → Syns → ℕ
count test nil = 0
count test (more x xs) = if test x then count test xs + 1 else count test xs

-- 6.7.2p2: a typedef name is the only one of the specifiers that names a type
abbrev pub is_agreed : Syns → Bool
is_agreed xs = not (has_any is_typedef_node xs) || count names_type xs == 1

abbrev pub has_part : (Syn → Bool) → Syn → Bool
has_part test (node k t xs) = has_any test xs

-- specifiers with `typedef`, and such that name a type
abbrev pub defines_types : Syn → Bool
defines_types x = has_part is_typedef_word x

abbrev pub names_a_type : Syn → Bool
names_a_type x = has_part names_type x

abbrev pub begins_with_typedef_name : List (List ℕ) → List Lexeme → Bool
begins_with_typedef_name types [] = false
begins_with_typedef_name types (t ∷ ts) = is_typedef_name types t

-- 6.7.8p3: a typedef name that directly follows specifiers without a type is one of these specifiers, so nothing else
-- may begin with it
abbrev pub may_follow : List (List ℕ) → Syn → List Lexeme → Bool
may_follow types s ts = names_a_type s || not (begins_with_typedef_name types ts)

-- a tag, if there is one (6.7.2.3)
pub data Tags : List Lexeme → Syns → Type 0 where
  untagged : Tags [] nil
  tagged : (n : Lexeme) → symbol n ≡ Symbols.Word → Tags (n ∷ []) (one (node Kinds.Tag n nil))

-- a comma, if there is one
pub data Trails : List Lexeme → Type 0 where
  no_comma : Trails []
  comma : (t : Lexeme) → symbol t ≡ Symbols.Comma → Trails (t ∷ [])

-- What is derived. An expression has at least this level.
pub data Goal : Type 0 where
  Expression : ℕ → Goal
  Piece : Goal
  TypeName : Goal
  Specifiers : Goal
  Specifier : Goal
  Member : Goal
  Enumerator : Goal
  Qualifier : Goal
  Declarator : Naming → Goal
  Parameter : Goal
  Initializer : Goal

-- The tokens are a phrase of this class, with this tree, where these are the typedef names.
mutual
  pub data Derives (types : List (List ℕ)) : Goal → List Lexeme → Syn → Type 0 where
    -- 6.5.1: primary expressions
    name : {l : ℕ} (t : Lexeme) → l ≤ 15 → head_of (symbol t) ≡ Heads.Name → is_typedef_name types t ≡ false →
        Derives types (Expression l) (t ∷ []) (node Kinds.Name t nil)
    number : {l : ℕ} (t : Lexeme) → l ≤ 15 → head_of (symbol t) ≡ Heads.Number →
        Derives types (Expression l) (t ∷ []) (node Kinds.Number t nil)
    character : {l : ℕ} (t : Lexeme) → l ≤ 15 → head_of (symbol t) ≡ Heads.Character →
        Derives types (Expression l) (t ∷ []) (node Kinds.Character t nil)
    text : {l : ℕ} (t : Lexeme) (a : List Lexeme) {xs : Syns} → l ≤ 15 → head_of (symbol t) ≡ Heads.Text →
        Repeated types Piece a xs →
        Derives types (Expression l) (t ∷ a) (node Kinds.Text t xs)
    piece : (t : Lexeme) → symbol t ≡ Symbols.Text →
        Derives types Piece (t ∷ []) (node Kinds.Text t nil)
    parenthesized : {l : ℕ} (o c : Lexeme) (a : List Lexeme) {x : Syn} → l ≤ 15 → head_of (symbol o) ≡ Heads.Opens →
        symbol c ≡ Symbols.CloseParenthesis →
        Derives types (Expression 0) a x →
        Derives types (Expression l) (o ∷ (a ++ (c ∷ []))) (node Kinds.Parenthesized o (one x))
    -- 6.5.2: postfix expressions. Behind `.` and `->` may stand a typedef name.
    index : {l : ℕ} (o c : Lexeme) (a b : List Lexeme) {x y : Syn} → l ≤ 15 → tail_of (symbol o) ≡ Tails.Indexes →
        symbol c ≡ Symbols.CloseBracket →
        Derives types (Expression 15) a x → Derives types (Expression 0) b y →
        Derives types (Expression l) (a ++ (o ∷ (b ++ (c ∷ [])))) (node Kinds.Index o (two x y))
    call : {l : ℕ} (o c : Lexeme) (a b : List Lexeme) {x : Syn} {ys : Syns} → l ≤ 15 →
        tail_of (symbol o) ≡ Tails.Calls → symbol c ≡ Symbols.CloseParenthesis →
        Derives types (Expression 15) a x → Listed types (Expression 1) b ys →
        Derives types (Expression l) (a ++ (o ∷ (b ++ (c ∷ [])))) (node Kinds.Call o (more x ys))
    select : {l : ℕ} {s : Selection} (o n : Lexeme) (a : List Lexeme) {x : Syn} → l ≤ 15 →
        tail_of (symbol o) ≡ Tails.Selects s → symbol n ≡ Symbols.Word →
        Derives types (Expression 15) a x →
        Derives types (Expression l) (a ++ (o ∷ (n ∷ [])))
        (node (Kinds.Select s) o (two x (node Kinds.MemberName n nil)))
    postfix : {l : ℕ} {s : StepOperator} (o : Lexeme) (a : List Lexeme) {x : Syn} → l ≤ 15 →
        tail_of (symbol o) ≡ Tails.Steps s →
        Derives types (Expression 15) a x →
        Derives types (Expression l) (a ++ (o ∷ [])) (node (Kinds.Postfix s) o (one x))
    -- 6.5.3: unary operators
    prefix : {l : ℕ} {p : PrefixOperator} (o : Lexeme) (a : List Lexeme) {x : Syn} → l ≤ 14 →
        head_of (symbol o) ≡ Heads.Prefixes p →
        Derives types (Expression (operand_level p)) a x →
        Derives types (Expression l) (o ∷ a) (node (Kinds.Prefix p) o (one x))
    sizeof_expression : {l : ℕ} (o : Lexeme) (a : List Lexeme) {x : Syn} → l ≤ 14 →
        head_of (symbol o) ≡ Heads.Measures →
        Derives types (Expression 14) a x →
        Derives types (Expression l) (o ∷ a) (node Kinds.SizeofExpression o (one x))
    sizeof_type : {l : ℕ} (o b c : Lexeme) (a : List Lexeme) {x : Syn} → l ≤ 14 → head_of (symbol o) ≡ Heads.Measures →
        symbol b ≡ Symbols.OpenParenthesis → symbol c ≡ Symbols.CloseParenthesis →
        Derives types TypeName a x →
        Derives types (Expression l) (o ∷ (b ∷ (a ++ (c ∷ [])))) (node Kinds.SizeofType o (one x))
    -- 6.5.4: casts
    cast : {l : ℕ} (o c : Lexeme) (a b : List Lexeme) {x y : Syn} → l ≤ 13 → head_of (symbol o) ≡ Heads.Opens →
        symbol c ≡ Symbols.CloseParenthesis →
        Derives types TypeName a x → Derives types (Expression 13) b y →
        Derives types (Expression l) (o ∷ (a ++ (c ∷ b))) (node Kinds.Cast o (two x y))
    -- 6.5.5 to 6.5.14, 6.5.17: operators that group from left to right
    binary : {l : ℕ} {p : InfixOperator} (o : Lexeme) (a b : List Lexeme) {x y : Syn} → l ≤ infix_level p →
        tail_of (symbol o) ≡ Tails.Joins p →
        Derives types (Expression (infix_level p)) a x → Derives types (Expression (infix_level p + 1)) b y →
        Derives types (Expression l) (a ++ (o ∷ b)) (node (Kinds.Infix p) o (two x y))
    -- 6.5.15: the conditional operator
    conditional : {l : ℕ} (o m : Lexeme) (a b c : List Lexeme) {x y z : Syn} → l ≤ 2 → tail_of (symbol o) ≡ Tails.Asks →
        symbol m ≡ Symbols.Colon →
        Derives types (Expression 3) a x → Derives types (Expression 0) b y → Derives types (Expression 2) c z →
        Derives types (Expression l) (a ++ (o ∷ (b ++ (m ∷ c)))) (node Kinds.Conditional o (three x y z))
    -- 6.5.16: assignment, whose left side is any unary expression
    assignment : {l : ℕ} {p : Option IntOp} (o : Lexeme) (a b : List Lexeme) {x y : Syn} → l ≤ 1 →
        tail_of (symbol o) ≡ Tails.Assigns p →
        Derives types (Expression 14) a x → Derives types (Expression 1) b y →
        Derives types (Expression l) (a ++ (o ∷ b)) (node (Kinds.Assignment p) o (two x y))
    -- 6.7: declaration specifiers
    specifiers : (a : List Lexeme) {x : Syn} {xs : Syns} → Repeated types Specifier a (more x xs) →
        is_agreed (more x xs) ≡ true →
        Derives types Specifiers a (node Kinds.Specifiers (own_token x) (more x xs))
    -- 6.7.1 to 6.7.4: specifiers and qualifiers of one word; 6.7.8: a typedef name
    specifier_word : {w : SpecifierWord} (t : Lexeme) → symbol t ≡ Symbols.Specifier w →
        Derives types Specifier (t ∷ []) (node (Kinds.Specifier w) t nil)
    typedef_name : (t : Lexeme) → is_typedef_name types t ≡ true →
        Derives types Specifier (t ∷ []) (node Kinds.TypedefName t nil)
    -- 6.7.2.1: structs and unions. A tag and a member may have the name of a type.
    record_tag : {k : RecordKind} (t n : Lexeme) → symbol t ≡ Symbols.Record k → symbol n ≡ Symbols.Word →
        Derives types Specifier (t ∷ (n ∷ [])) (node (Kinds.Record k) t (one (node Kinds.Tag n nil)))
    record_members : {k : RecordKind} (t o c : Lexeme) (n a : List Lexeme) {ns : Syns} {x : Syn} {xs : Syns} →
        symbol t ≡ Symbols.Record k → Tags n ns → symbol o ≡ Symbols.OpenBrace → symbol c ≡ Symbols.CloseBrace →
        Repeated types Member a (more x xs) →
        Derives types Specifier (t ∷ (n ++ (o ∷ (a ++ (c ∷ []))))) (node (Kinds.Record k) t (joined ns (more x xs)))
    member : (c : Lexeme) (a b : List Lexeme) {s : Syn} {xs : Syns} → symbol c ≡ Symbols.Semicolon →
        Derives types Specifiers a s → Separated types (Declarator Any) b xs → may_follow types s b ≡ true →
        Derives types Member (a ++ (b ++ (c ∷ []))) (node Kinds.Member (own_token s) (more s xs))
    -- 6.7.2.2: enumerations
    enum_tag : (t n : Lexeme) → symbol t ≡ Symbols.Enum → symbol n ≡ Symbols.Word →
        Derives types Specifier (t ∷ (n ∷ [])) (node Kinds.Enum t (one (node Kinds.Tag n nil)))
    enum_list : (t o c : Lexeme) (n a e : List Lexeme) {ns xs : Syns} →
        symbol t ≡ Symbols.Enum → Tags n ns → symbol o ≡ Symbols.OpenBrace → symbol c ≡ Symbols.CloseBrace →
        Separated types Enumerator a xs → Trails e →
        Derives types Specifier (t ∷ (n ++ (o ∷ (a ++ (e ++ (c ∷ [])))))) (node Kinds.Enum t (joined ns xs))
    enumerator : (n : Lexeme) → is_declared_by Plain types n ≡ true →
        Derives types Enumerator (n ∷ []) (node Kinds.Enumerator n nil)
    enumerator_value : (n e : Lexeme) (a : List Lexeme) {x : Syn} → is_declared_by Plain types n ≡ true →
        symbol e ≡ Symbols.Assignment None →
        Derives types (Expression 2) a x →
        Derives types Enumerator (n ∷ (e ∷ a)) (node Kinds.Enumerator n (one x))
    -- 6.7.3: a qualifier behind `*`
    qualifier : {w : SpecifierWord} (t : Lexeme) → symbol t ≡ Symbols.Specifier w → is_qualifier w ≡ true →
        Derives types Qualifier (t ∷ []) (node (Kinds.Specifier w) t nil)
    -- 6.7.6: declarators that are not empty
    declarator : {m : Naming} (a : List Lexeme) {x : Syn} → Declares types m true a (one x) →
        Derives types (Declarator m) a x
    -- 6.7.6.3: a parameter, with a name or without one
    parameter : (a b : List Lexeme) {s : Syn} {xs : Syns} → Derives types Specifiers a s →
        Declares types Either true b xs →
        Derives types Parameter (a ++ b) (node Kinds.Parameter (own_token s) (more s xs))
    -- 6.7.7: type names
    type_name : (a b : List Lexeme) {s : Syn} {xs : Syns} → Derives types Specifiers a s →
        Declares types Nameless true b xs →
        Derives types TypeName (a ++ b) (node Kinds.TypeName (own_token s) (more s xs))
    -- 6.7.9: initializers
    plain_initializer : (a : List Lexeme) {x : Syn} → Derives types (Expression 1) a x →
        Derives types Initializer a x
    empty_braces : (o c : Lexeme) → symbol o ≡ Symbols.OpenBrace → symbol c ≡ Symbols.CloseBrace →
        Derives types Initializer (o ∷ (c ∷ [])) (node Kinds.BracedInitializer o nil)
    braces : (o c : Lexeme) (a e : List Lexeme) {xs : Syns} → symbol o ≡ Symbols.OpenBrace →
        symbol c ≡ Symbols.CloseBrace →
        Separated types Initializer a xs → Trails e →
        Derives types Initializer (o ∷ (a ++ (e ++ (c ∷ [])))) (node Kinds.BracedInitializer o xs)

  -- 6.7.6, 6.7.7: a declarator that declares so, or nothing, if it may be nameless. One that is not `starred` does not
  -- begin with `*`: what stands before `[` and `(`.
  pub data Declares (types : List (List ℕ)) : Naming → Bool → List Lexeme → Syns → Type 0 where
    empty : {m : Naming} {starred : Bool} → may_be_nameless m ≡ true →
        Declares types m starred [] nil
    declared : {m : Naming} {starred : Bool} (n : Lexeme) → is_declared_by m types n ≡ true →
        Declares types m starred (n ∷ []) (one (node Kinds.DeclaredName n nil))
    -- what stands in the parentheses is not empty: `()` is a list of parameters
    enclosed : {m : Naming} {starred : Bool} (o c : Lexeme) (a : List Lexeme) {x : Syn} →
        symbol o ≡ Symbols.OpenParenthesis → symbol c ≡ Symbols.CloseParenthesis →
        Declares types m true a (one x) →
        Declares types m starred (o ∷ (a ++ (c ∷ []))) (one (node Kinds.ParenthesizedDeclarator o (one x)))
    -- 6.7.6.2
    open_array : {m : Naming} {starred : Bool} (o c : Lexeme) (a : List Lexeme) {xs : Syns} →
        symbol o ≡ Symbols.OpenBracket → symbol c ≡ Symbols.CloseBracket →
        Declares types m false a xs →
        Declares types m starred (a ++ (o ∷ (c ∷ []))) (one (node Kinds.OpenArray o xs))
    array : {m : Naming} {starred : Bool} (o c : Lexeme) (a b : List Lexeme) {xs : Syns} {y : Syn} →
        symbol o ≡ Symbols.OpenBracket → symbol c ≡ Symbols.CloseBracket →
        Declares types m false a xs → Derives types (Expression 2) b y →
        Declares types m starred (a ++ (o ∷ (b ++ (c ∷ [])))) (one (node Kinds.Array o (then_one xs y)))
    -- 6.7.6.3
    function : {m : Naming} {starred : Bool} (o c : Lexeme) (a b : List Lexeme) {xs ys : Syns} →
        symbol o ≡ Symbols.OpenParenthesis → symbol c ≡ Symbols.CloseParenthesis →
        Declares types m false a xs → Listed types Parameter b ys →
        Declares types m starred (a ++ (o ∷ (b ++ (c ∷ []))))
        (one (node Kinds.Function o (then_one xs (node Kinds.Parameters o ys))))
    -- 6.7.6.1
    pointer : {m : Naming} (o : Lexeme) (a b : List Lexeme) {qs xs : Syns} → symbol o ≡ Symbols.Star →
        Repeated types Qualifier a qs → Declares types m true b xs →
        Declares types m true (o ∷ (a ++ b)) (one (node Kinds.Pointer o (more (node Kinds.Qualifiers o qs) xs)))

  -- phrases of one class one behind the other, any number
  pub data Repeated (types : List (List ℕ)) : Goal → List Lexeme → Syns → Type 0 where
    finished : {g : Goal} → Repeated types g [] nil
    repeated : {g : Goal} (a b : List Lexeme) {x : Syn} {xs : Syns} → Derives types g a x → Repeated types g b xs →
        Repeated types g (a ++ b) (more x xs)

  -- phrases of one class with commas between them, at least one
  pub data Separated (types : List (List ℕ)) : Goal → List Lexeme → Syns → Type 0 where
    last : {g : Goal} (a : List Lexeme) {x : Syn} → Derives types g a x → Separated types g a (one x)
    separated : {g : Goal} (c : Lexeme) (a b : List Lexeme) {x : Syn} {xs : Syns} → symbol c ≡ Symbols.Comma →
        Derives types g a x → Separated types g b xs → Separated types g (a ++ (c ∷ b)) (more x xs)

  -- the same, or nothing
  pub data Listed (types : List (List ℕ)) : Goal → List Lexeme → Syns → Type 0 where
    nothing : {g : Goal} → Listed types g [] nil
    listed : {g : Goal} (a : List Lexeme) {xs : Syns} → Separated types g a xs → Listed types g a xs

-- Declarations

-- the name that a declarator declares, if any
abbrev mutual
  pub declared_names : Syn → List (List ℕ)
  declared_names (node Kinds.DeclaredName t xs) = t.text ∷ []
  declared_names (node Kinds.Pointer t (more q xs)) = names_of_first xs
  declared_names (node Kinds.ParenthesizedDeclarator t xs) = names_of_first xs
  declared_names (node Kinds.OpenArray t xs) = names_of_first xs
  declared_names (node Kinds.Array t xs) = names_unless_last xs
  declared_names (node Kinds.Function t xs) = names_unless_last xs
  declared_names (node Kinds.InitDeclarator t xs) = names_of_first xs
  declared_names (node _ t xs) = []

  pub names_of_first : Syns → List (List ℕ)
  names_of_first nil = []
  names_of_first (more x xs) = declared_names x

  pub names_unless_last : Syns → List (List ℕ)
  names_unless_last nil = []
  names_unless_last (more x nil) = []
  names_unless_last (more x (more y ys)) = declared_names x

abbrev pub all_names : Syns → List (List ℕ)
all_names nil = []
all_names (more x xs) = declared_names x ++ all_names xs

-- 6.7.8: the names that a declarator adds to the typedef names, in a declaration with `typedef` or without it
abbrev pub added_names : Bool → Syn → List (List ℕ)
added_names true x = declared_names x
added_names false x = []

-- the names that a declaration adds; a statement adds none
abbrev pub new_types : Syn → List (List ℕ)
new_types (node Kinds.Declaration t (more s xs)) = if defines_types s then all_names xs else []
new_types _ = []

-- 6.7: a declarator, and its initializer if there is one. The name is in force from the end of its declarator on
-- (6.2.1p7).
pub data Initializes (types : List (List ℕ)) (m : Naming) (defines : Bool) : List Lexeme → Syn → Type 0 where
  uninitialized : (a : List Lexeme) {x : Syn} → Derives types (Declarator m) a x →
      Initializes types m defines a (node Kinds.InitDeclarator (first_token x) (one x))
  initialized : (e : Lexeme) (a b : List Lexeme) {x y : Syn} → symbol e ≡ Symbols.Assignment None →
      Derives types (Declarator m) a x → Derives (added_names defines x ++ types) Initializer b y →
      Initializes types m defines (a ++ (e ∷ b)) (node Kinds.InitDeclarator (first_token x) (two x y))

-- such with commas between them, at least one
pub data Initialized (m : Naming) (defines : Bool) : List (List ℕ) → List Lexeme → Syns → Type 0 where
  last_one : {types : List (List ℕ)} (a : List Lexeme) {x : Syn} → Initializes types m defines a x →
      Initialized m defines types a (one x)
  one_more : {types : List (List ℕ)} (c : Lexeme) (a b : List Lexeme) {x : Syn} {xs : Syns} → symbol c ≡ Symbols.Comma →
      Initializes types m defines a x → Initialized m defines (added_names defines x ++ types) b xs →
      Initialized m defines types (a ++ (c ∷ b)) (more x xs)

-- A declaration at file scope may declare the name of a type again, with `typedef` and a type (6.7p3).
abbrev pub naming : Bool → Syn → Naming
naming at_file_scope s = if at_file_scope && (defines_types s && names_a_type s) then Any else Plain

pub data Declaration (types : List (List ℕ)) (at_file_scope : Bool) : List Lexeme → Syn → Type 0 where
  specifiers_only : (c : Lexeme) (a : List Lexeme) {s : Syn} → symbol c ≡ Symbols.Semicolon →
      Derives types Specifiers a s →
      Declaration types at_file_scope (a ++ (c ∷ [])) (node Kinds.Declaration (own_token s) (one s))
  declaration : (c : Lexeme) (a b : List Lexeme) {s : Syn} {xs : Syns} → symbol c ≡ Symbols.Semicolon →
      Derives types Specifiers a s → Initialized (naming at_file_scope s) (defines_types s) types b xs →
      Declaration types at_file_scope (a ++ (b ++ (c ∷ []))) (node Kinds.Declaration (own_token s) (more s xs))

-- Statements

-- whether a statement ends in an `if` that an `else` behind it would belong to (6.8.4.1p3)
abbrev mutual
  pub ends_open : Syn → Bool
  ends_open (node Kinds.If t xs) = true
  ends_open (node Kinds.IfElse t xs) = last_ends_open xs
  ends_open (node Kinds.While t xs) = last_ends_open xs
  ends_open (node Kinds.For t xs) = last_ends_open xs
  ends_open (node _ t xs) = false

  pub last_ends_open : Syns → Bool
  last_ends_open nil = false
  last_ends_open (more x nil) = ends_open x
  last_ends_open (more x (more y ys)) = last_ends_open (more y ys)

-- an expression, or none, before this token
pub data Optional (types : List (List ℕ)) (before : Lexeme) : List Lexeme → Syn → Type 0 where
  absent : Optional types before [] (node Kinds.Absent before nil)
  present : (a : List Lexeme) {x : Syn} → Derives types (Expression 0) a x → Optional types before a x

mutual
  -- 6.8: statements
  pub data States : List (List ℕ) → List Lexeme → Syn → Type 0 where
    block : {types : List (List ℕ)} (o c : Lexeme) (a : List Lexeme) {xs : Syns} → symbol o ≡ Symbols.OpenBrace →
        symbol c ≡ Symbols.CloseBrace →
        Items false types a xs →
        States types (o ∷ (a ++ (c ∷ []))) (node Kinds.Block o xs)
    empty_statement : {types : List (List ℕ)} (c : Lexeme) → symbol c ≡ Symbols.Semicolon →
        States types (c ∷ []) (node Kinds.EmptyStatement c nil)
    expression_statement : {types : List (List ℕ)} (c : Lexeme) (a : List Lexeme) {x : Syn} →
        symbol c ≡ Symbols.Semicolon →
        Derives types (Expression 0) a x →
        States types (a ++ (c ∷ [])) (node Kinds.ExpressionStatement (first_token x) (one x))
    -- 6.8.4.1: an `else` belongs to the nearest `if`
    if_statement : {types : List (List ℕ)} (t o c : Lexeme) (a b : List Lexeme) {x y : Syn} →
        symbol t ≡ Symbols.If → symbol o ≡ Symbols.OpenParenthesis → symbol c ≡ Symbols.CloseParenthesis →
        Derives types (Expression 0) a x → States types b y →
        States types (t ∷ (o ∷ (a ++ (c ∷ b)))) (node Kinds.If t (two x y))
    if_else : {types : List (List ℕ)} (t o c e : Lexeme) (a b d : List Lexeme) {x y z : Syn} →
        symbol t ≡ Symbols.If → symbol o ≡ Symbols.OpenParenthesis → symbol c ≡ Symbols.CloseParenthesis →
        symbol e ≡ Symbols.Else →
        Derives types (Expression 0) a x → States types b y → ends_open y ≡ false → States types d z →
        States types (t ∷ (o ∷ (a ++ (c ∷ (b ++ (e ∷ d)))))) (node Kinds.IfElse t (three x y z))
    -- 6.8.4.2: a switch, whose body is in braces and alone has labels
    switch : {types : List (List ℕ)} (t o c p q : Lexeme) (a b : List Lexeme) {x : Syn} {ys : Syns} →
        symbol t ≡ Symbols.Switch → symbol o ≡ Symbols.OpenParenthesis → symbol c ≡ Symbols.CloseParenthesis →
        symbol p ≡ Symbols.OpenBrace → symbol q ≡ Symbols.CloseBrace →
        Derives types (Expression 0) a x → Items true types b ys →
        States types (t ∷ (o ∷ (a ++ (c ∷ (p ∷ (b ++ (q ∷ []))))))) (node Kinds.Switch t (more x ys))
    -- 6.8.5: loops
    while_statement : {types : List (List ℕ)} (t o c : Lexeme) (a b : List Lexeme) {x y : Syn} →
        symbol t ≡ Symbols.While → symbol o ≡ Symbols.OpenParenthesis → symbol c ≡ Symbols.CloseParenthesis →
        Derives types (Expression 0) a x → States types b y →
        States types (t ∷ (o ∷ (a ++ (c ∷ b)))) (node Kinds.While t (two x y))
    do_statement : {types : List (List ℕ)} (t w o c e : Lexeme) (a b : List Lexeme) {x y : Syn} →
        symbol t ≡ Symbols.Do → symbol w ≡ Symbols.While → symbol o ≡ Symbols.OpenParenthesis →
        symbol c ≡ Symbols.CloseParenthesis → symbol e ≡ Symbols.Semicolon →
        States types a x → Derives types (Expression 0) b y →
        States types (t ∷ (a ++ (w ∷ (o ∷ (b ++ (c ∷ (e ∷ []))))))) (node Kinds.Do t (two x y))
    for_statement : {types : List (List ℕ)} (t o p q c : Lexeme) (a b d e : List Lexeme) {x y z w : Syn} →
        symbol t ≡ Symbols.For → symbol o ≡ Symbols.OpenParenthesis → symbol p ≡ Symbols.Semicolon →
        symbol q ≡ Symbols.Semicolon → symbol c ≡ Symbols.CloseParenthesis →
        Optional types p a x → Optional types q b y → Optional types c d z → States types e w →
        States types (t ∷ (o ∷ (a ++ (p ∷ (b ++ (q ∷ (d ++ (c ∷ e)))))))) (node Kinds.For t (four x y z w))
    for_declaration : {types : List (List ℕ)} (t o q c : Lexeme) (a b d e : List Lexeme) {x y z w : Syn} →
        symbol t ≡ Symbols.For → symbol o ≡ Symbols.OpenParenthesis → symbol q ≡ Symbols.Semicolon →
        symbol c ≡ Symbols.CloseParenthesis →
        Declaration types false a x →
        Optional (new_types x ++ types) q b y → Optional (new_types x ++ types) c d z →
        States (new_types x ++ types) e w →
        States types (t ∷ (o ∷ (a ++ (b ++ (q ∷ (d ++ (c ∷ e))))))) (node Kinds.For t (four x y z w))
    -- 6.8.6: jumps
    break_statement : {types : List (List ℕ)} (t c : Lexeme) → symbol t ≡ Symbols.Break → symbol c ≡ Symbols.Semicolon →
        States types (t ∷ (c ∷ [])) (node Kinds.Break t nil)
    continue_statement : {types : List (List ℕ)} (t c : Lexeme) → symbol t ≡ Symbols.Continue →
        symbol c ≡ Symbols.Semicolon →
        States types (t ∷ (c ∷ [])) (node Kinds.Continue t nil)
    return_statement : {types : List (List ℕ)} (t c : Lexeme) → symbol t ≡ Symbols.Return →
        symbol c ≡ Symbols.Semicolon →
        States types (t ∷ (c ∷ [])) (node Kinds.Return t nil)
    return_value : {types : List (List ℕ)} (t c : Lexeme) (a : List Lexeme) {x : Syn} → symbol t ≡ Symbols.Return →
        symbol c ≡ Symbols.Semicolon →
        Derives types (Expression 0) a x →
        States types (t ∷ (a ++ (c ∷ []))) (node Kinds.Return t (one x))

  -- 6.8.2: what stands in braces, and behind a declaration with the typedef names that it adds. Labels stand in a
  -- switch only (6.8.1).
  pub data Items : Bool → List (List ℕ) → List Lexeme → Syns → Type 0 where
    no_item : {in_switch : Bool} {types : List (List ℕ)} →
        Items in_switch types [] nil
    declaration_item : {in_switch : Bool} {types : List (List ℕ)} (a b : List Lexeme) {x : Syn} {xs : Syns} →
        Declaration types false a x → Items in_switch (new_types x ++ types) b xs →
        Items in_switch types (a ++ b) (more x xs)
    statement_item : {in_switch : Bool} {types : List (List ℕ)} (a b : List Lexeme) {x : Syn} {xs : Syns} →
        States types a x → Items in_switch types b xs →
        Items in_switch types (a ++ b) (more x xs)
    case_item : {types : List (List ℕ)} (t c : Lexeme) (a b : List Lexeme) {x : Syn} {xs : Syns} →
        symbol t ≡ Symbols.Case → symbol c ≡ Symbols.Colon →
        Derives types (Expression 2) a x → Items true types b xs →
        Items true types (t ∷ (a ++ (c ∷ b))) (more (node Kinds.Case t (one x)) xs)
    default_item : {types : List (List ℕ)} (t c : Lexeme) (b : List Lexeme) {xs : Syns} → symbol t ≡ Symbols.Default →
        symbol c ≡ Symbols.Colon →
        Items true types b xs →
        Items true types (t ∷ (c ∷ b)) (more (node Kinds.Default t nil) xs)

-- 6.9: external definitions, one behind the other, any number
pub data Externals : List (List ℕ) → List Lexeme → Syns → Type 0 where
  no_external : {types : List (List ℕ)} →
      Externals types [] nil
  empty_external : {types : List (List ℕ)} (c : Lexeme) (b : List Lexeme) {xs : Syns} → symbol c ≡ Symbols.Semicolon →
      Externals types b xs →
      Externals types (c ∷ b) (more (node Kinds.EmptyExternal c nil) xs)
  external_declaration : {types : List (List ℕ)} (a b : List Lexeme) {x : Syn} {xs : Syns} →
      Declaration types true a x → Externals (new_types x ++ types) b xs →
      Externals types (a ++ b) (more x xs)
  -- 6.9.1
  function_definition : {types : List (List ℕ)} (o c : Lexeme) (a b d e : List Lexeme) {s x : Syn} {ys xs : Syns} →
      symbol o ≡ Symbols.OpenBrace → symbol c ≡ Symbols.CloseBrace →
      Derives types Specifiers a s → Derives types (Declarator Plain) b x → Items false types d ys →
      Externals types e xs →
      Externals types (a ++ (b ++ (o ∷ (d ++ (c ∷ e)))))
      (more (node Kinds.FunctionDefinition (own_token s) (three s x (node Kinds.Block o ys))) xs)
