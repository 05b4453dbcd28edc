-- What the grammar derives is read as what its place asks for, so it is refused by codes of typing.
use Rattle.std.proofs.Common.{◌≡◌, ℕ, Bool, true, false, List, [], ◌∷◌, refl}
use Rattle.std.specs.Prelude.{◌||◌}
use Rattle.std.proofs.lemmas.Bool.{false≢true}
use Rattle.ck_base.specs.declared.positions.Pos.{Pos}
use Rattle.ck_base.specs.Tokens.{Lexeme}
use Rattle.c_tree.specs.declared.syntax.NodeKind.{NodeKind}
use Rattle.c_tree.specs.declared.syntax.NodeKind.TheVariants as Kinds
use Rattle.c_tree.specs.Syntax.{Syn, Syns, node, nil, more, one, two, three, joined, then_one, own_token}
use Rattle.c_tree.specs.declared.syntax.RecordKind.{RecordKind}
use Rattle.c_tree.specs.Scopes.{refuse}
use Rattle.c_tree.specs.Readings.{Reading}
use Rattle.c_tree.specs.Expressions.{expression_of, called_library, called_name}
use Rattle.c_tree.specs.Declarators.{names_type, declarator_of, record_specifier, enum_specifier}
use Rattle.c_tree.specs.Initializers.{takes_string}
use Rattle.c_tree.specs.Statements.{is_declaration}
use Rattle.c_tree.specs.Programs.{initializer_of, is_text, reading_of, reading, readings, beginning}
use Rattle.c_tree.specs.Grammar as grammar
use Rattle.c_tree.specs.Grammar.{Naming, Nameless, Either, may_be_nameless, Goal, Expression, Piece, TypeName}
use Rattle.c_tree.specs.Grammar.{Specifiers}
use Rattle.c_tree.specs.Grammar.{Specifier, Member, Enumerator, Qualifier, Declarator, Parameter, Initializer}
use Rattle.c_tree.specs.Grammar.{Derives, Declares, Repeated, Separated, Listed, Tags, untagged, tagged, Initializes}
use Rattle.c_tree.specs.Grammar.{Initialized, Declaration, Optional, States, Items}
use Rattle.typing_laws.proofs.codes.Stepping.{AllOf, Coded, Any, give_coded, then_coded, if_coded, going}
use Rattle.typing_laws.proofs.codes.Expressions.{IsOperand, named_coded, text_coded, called_coded, prefixed_coded}
use Rattle.typing_laws.proofs.codes.Expressions.{postfixed_coded, assignment_coded, selected_coded, binary_coded}
use Rattle.typing_laws.proofs.codes.Expressions.{indexed_coded}
use Rattle.typing_laws.proofs.codes.Expressions.{chosen_coded, size_coded, type_size_coded, casts_coded}
use Rattle.typing_laws.proofs.codes.Declarators.{IsType, IsSpecified, IsDeclarator, IsMember}
use Rattle.typing_laws.proofs.codes.Declarators.{IsEnumerator, IsParameter, Initializing, IsInitializer}
use Rattle.typing_laws.proofs.codes.Declarators.{NameTypes, specifiers_coded, typedef_coded, tag_alone_coded}
use Rattle.typing_laws.proofs.codes.Declarators.{tagged_coded}
use Rattle.typing_laws.proofs.codes.Declarators.{untagged_coded, enumerator_coded, enumerator_value_coded}
use Rattle.typing_laws.proofs.codes.Declarators.{enum_alone_coded}
use Rattle.typing_laws.proofs.codes.Declarators.{enum_none_coded, enum_tagged_coded, enum_untagged_coded, length_coded}
use Rattle.typing_laws.proofs.codes.Declarators.{type_name_coded}
use Rattle.typing_laws.proofs.codes.Declarators.{member_coded, parameter_coded, prototype_coded, string_coded}
use Rattle.typing_laws.proofs.codes.Declarators.{plain_coded}
use Rattle.typing_laws.proofs.codes.Declarators.{braced_coded}

-- an expression, which is no declaration and no label
pub record IsExpression (x : Syn) (r : Reading) : Type 0 where
  pub operand : IsOperand r
  pub initializer : IsInitializer r
  pub undeclared : is_declaration x ≡ false

-- what a phrase of each class is
abbrev pub IsGood : Goal → Syn → Reading → Type 0
IsGood (Expression l) x r = IsExpression x r
IsGood Piece x r = Unit {0}
IsGood TypeName x r = IsType r
IsGood Specifiers x r = IsSpecified r
IsGood Specifier x r = names_type x ≡ true → IsType r
IsGood Member x r = IsMember r
IsGood Enumerator x r = IsEnumerator r
IsGood Qualifier x r = Unit {0}
IsGood (Declarator m) x r = IsDeclarator (may_be_nameless m) r
IsGood Parameter x r = IsParameter r
IsGood Initializer x r = IsInitializer r

abbrev pub AreGood : Goal → Syns → List Reading → Type 0
AreGood g nil [] = Unit {0}
AreGood g (more x xs) (r ∷ rs) = IsGood g x r × AreGood g xs rs
AreGood g xs rs = ⊥

-- what is declared there, or nothing
abbrev pub IsThere : Bool → Syns → List Reading → Type 0
IsThere nameless nil [] = nameless ≡ true
IsThere nameless (more x nil) (r ∷ []) = IsDeclarator nameless r
IsThere nameless xs rs = ⊥

-- ---- lists

all_of : (g : Goal) (P : Reading → Type 0) → ((x : Syn) (r : Reading) → IsGood g x r → P r) → (xs : Syns)
    (rs : List Reading) → AreGood g xs rs → AllOf P rs
all_of g P f nil [] h = tt
all_of g P f (more x xs) (r ∷ rs) h = (f x r h.0, all_of g P f xs rs h.1)
all_of g P f nil (r ∷ rs) h = absurd h
all_of g P f (more x xs) [] h = absurd h

name_types : (xs : Syns) (rs : List Reading) → AreGood Specifier xs rs → NameTypes xs rs
name_types nil [] h = tt
name_types (more x xs) (r ∷ rs) h = (h.0, name_types xs rs h.1)
name_types nil (r ∷ rs) h = absurd h
name_types (more x xs) [] h = absurd h

declarator_there : (nameless : Bool) (xs : Syns) (rs : List Reading) → IsThere nameless xs rs →
    AllOf (IsDeclarator nameless) rs
declarator_there nameless nil [] h = tt
declarator_there nameless (more x nil) (r ∷ []) h = (h, tt)
declarator_there nameless nil (r ∷ rs) h = absurd h
declarator_there nameless (more x nil) [] h = absurd h
declarator_there nameless (more x nil) (r ∷ q ∷ rs) h = absurd h
declarator_there nameless (more x (more y ys)) [] h = absurd h
declarator_there nameless (more x (more y ys)) (r ∷ rs) h = absurd h

-- ---- nodes

unrefused : {A : Type 0} (p : Pos) → Coded {A = A} Any (refuse 120 p) → ⊥
unrefused p h = false≢true ((h.at beginning).code (record { code = 120; place = p }) refl)

initializer_coded : (k : NodeKind) (t : Lexeme) (xs : Syns) (rs : List Reading) →
    Coded Any (expression_of k t xs rs) → Initializing (initializer_of k t xs rs)
initializer_coded Kinds.BracedInitializer t xs rs h asked whole of at g = absurd (unrefused t.pos h)
initializer_coded Kinds.Text t xs rs h asked whole of at g =
    if_coded (takes_string of) _ _ (string_coded t xs whole of at) (plain_coded _ h asked whole of at g)
initializer_coded k t xs rs h asked whole of at g = plain_coded _ h asked whole of at g

expression : (k : NodeKind) (t : Lexeme) (xs : Syns) (rs : List Reading) → is_declaration (node k t xs) ≡ false →
    Coded Any (expression_of k t xs rs) → IsExpression (node k t xs) (reading_of k t xs rs)
expression k t xs rs e h = record {
  operand = h;
  initializer = initializer_coded k t xs rs h;
  undeclared = e;
}

-- ---- declarators

or_false : (b : Bool) → b ≡ true → (b || false) ≡ true
or_false true h = refl
or_false false h = h

or_true : (b : Bool) → (b || true) ≡ true
or_true true = refl
or_true false = refl

module _ (nameless : Bool) where
  named_good : (t : Lexeme) → IsDeclarator nameless (reading (node Kinds.DeclaredName t nil))
  unfolding reading readings declarator_of
  named_good t = give_coded (or_true nameless)

  enclosed_good : (t : Lexeme) (x : Syn) → IsDeclarator nameless (reading x) →
      IsDeclarator nameless (reading (node Kinds.ParenthesizedDeclarator t (one x)))
  unfolding reading readings declarator_of
  enclosed_good t x h = h

  open_good : (t : Lexeme) (xs : Syns) → IsThere nameless xs (readings xs) →
      IsDeclarator nameless (reading (node Kinds.OpenArray t xs))
  unfolding reading readings declarator_of
  open_good t nil h = give_coded (or_false nameless h)
  open_good t (more x nil) h = then_coded h λ d e. give_coded e
  open_good t (more x (more y ys)) h = absurd h

  array_good : (t : Lexeme) (xs : Syns) (y : Syn) → IsThere nameless xs (readings xs) → IsOperand (reading y) →
      IsDeclarator nameless (reading (node Kinds.Array t (then_one xs y)))
  unfolding reading readings declarator_of
  array_good t nil y h g = then_coded (length_coded (reading y) g) λ n u. give_coded (or_false nameless h)
  array_good t (more x nil) y h g =
      then_coded h λ d e. then_coded (length_coded (reading y) g) λ n u. give_coded e
  array_good t (more x (more z zs)) y h g = absurd h

  function_good : (t : Lexeme) (xs : Syns) (ys : Syns) → IsThere nameless xs (readings xs) →
      AllOf IsParameter (readings ys) →
      IsDeclarator nameless (reading (node Kinds.Function t (then_one xs (node Kinds.Parameters t ys))))
  unfolding reading readings declarator_of
  function_good t nil ys h g =
      then_coded (prototype_coded (readings ys) g) λ p u. give_coded (or_false nameless h)
  function_good t (more x nil) ys h g =
      then_coded h λ d e. then_coded (prototype_coded (readings ys) g) λ p u. give_coded e
  function_good t (more x (more z zs)) ys h g = absurd h

  pointer_good : (t : Lexeme) (q : Syn) (xs : Syns) → IsThere nameless xs (readings xs) →
      IsDeclarator nameless (reading (node Kinds.Pointer t (more q xs)))
  unfolding reading readings declarator_of
  pointer_good t q nil h = give_coded (or_false nameless h)
  pointer_good t q (more x nil) h = then_coded h λ d e. give_coded e
  pointer_good t q (more x (more z zs)) h = absurd h

-- ---- tags

record_good : {n : List Lexeme} {ns : Syns} → Tags n ns → (k : RecordKind) (alone : Bool) (t : Lexeme) (x : Syn)
    (xs : Syns) → AllOf IsMember (readings (more x xs)) →
    Coded Any (record_specifier k alone t (joined ns (more x xs)) (readings (joined ns (more x xs))))
unfolding reading readings
record_good grammar.untagged k alone t x xs h = untagged_coded k alone t x xs (reading x) (readings xs) h
record_good (grammar.tagged n e) k alone t x xs h =
    tagged_coded k alone t n nil x xs (reading (node Kinds.Tag n nil)) (readings (more x xs)) h

enum_good : {n : List Lexeme} {ns : Syns} → Tags n ns → (xs : Syns) → AllOf IsEnumerator (readings xs) →
    Coded Any (enum_specifier (joined ns xs) (readings (joined ns xs)))
unfolding reading readings
enum_good grammar.untagged nil h = enum_none_coded
enum_good grammar.untagged (more x xs) h = enum_untagged_coded x xs (reading x) (readings xs) h
enum_good (grammar.tagged n e) nil h = enum_alone_coded n nil (readings (one (node Kinds.Tag n nil)))
enum_good (grammar.tagged n e) (more x xs) h =
    enum_tagged_coded n nil x xs (reading (node Kinds.Tag n nil)) (readings (more x xs)) h

-- ---- phrases

mutual
  unfolding reading readings

  pub good : {types : List (List ℕ)} {g : Goal} {a : List Lexeme} {x : Syn} → Derives types g a x →
      IsGood g x (reading x)
  good (grammar.name t l e f) = expression Kinds.Name t nil [] refl (named_coded t)
  good (grammar.number t l e) = expression Kinds.Number t nil [] refl (give_coded tt)
  good (grammar.character t l e) = expression Kinds.Character t nil [] refl (give_coded tt)
  good (grammar.text t a {xs = xs} l e ds) = expression Kinds.Text t xs (readings xs) refl (text_coded t xs)
  good (grammar.piece t e) = tt
  good (grammar.parenthesized o c a {x = x} l e f d) =
      expression Kinds.Parenthesized o (one x) (readings (one x)) refl
      (then_coded (good d).operand λ a u. give_coded tt)
  good (grammar.index o c a b {x = x} {y = y} l e f d q) =
      expression Kinds.Index o (two x y) (readings (two x y)) refl
      (indexed_coded o (reading x) (reading y) (good d).operand (good q).operand)
  good (grammar.call o c a b {x = x} {ys = ys} l e f d ds) =
      expression Kinds.Call o (more x ys) (readings (more x ys)) refl
      (going λ s. (called_coded (called_library s (called_name x)) x o (reading x) (readings ys) (good d).operand
      (all_of (Expression 1) IsOperand (λ x r h. h.operand) ys (readings ys) (listed_good ds))).at s)
  good (grammar.select {s = s} o n a {x = x} l e f d) =
      expression (Kinds.Select s) o (two x (node Kinds.MemberName n nil))
      (readings (two x (node Kinds.MemberName n nil))) refl (selected_coded s o n (reading x) (good d).operand)
  good (grammar.postfix {s = s} o a {x = x} l e d) =
      expression (Kinds.Postfix s) o (one x) (readings (one x)) refl
      (postfixed_coded s o (reading x) (good d).operand)
  good (grammar.prefix {p = p} o a {x = x} l e d) =
      expression (Kinds.Prefix p) o (one x) (readings (one x)) refl (prefixed_coded p o (reading x) (good d).operand)
  good (grammar.sizeof_expression o a {x = x} l e d) =
      expression Kinds.SizeofExpression o (one x) (readings (one x)) refl (size_coded o (reading x) (good d).operand)
  good (grammar.sizeof_type o b c a {x = x} l e f k d) =
      expression Kinds.SizeofType o (one x) (readings (one x)) refl (type_size_coded o (reading x) (good d))
  good (grammar.cast o c a b {x = x} {y = y} l e f d q) =
      expression Kinds.Cast o (two x y) (readings (two x y)) refl
      (casts_coded o (reading x) (reading y) (good d) (good q).operand)
  good (grammar.binary {p = p} o a b {x = x} {y = y} l e d q) =
      expression (Kinds.Infix p) o (two x y) (readings (two x y)) refl
      (binary_coded p o (reading x) (reading y) (good d).operand (good q).operand)
  good (grammar.conditional o m a b c {x = x} {y = y} {z = z} l e f d q k) =
      expression Kinds.Conditional o (three x y z) (readings (three x y z)) refl
      (chosen_coded o (reading x) (reading y) (reading z) (good d).operand (good q).operand (good k).operand)
  good (grammar.assignment {p = p} o a b {x = x} {y = y} l e d q) =
      expression (Kinds.Assignment p) o (two x y) (readings (two x y)) refl
      (assignment_coded p o (reading x) (reading y) (good d).operand (good q).operand)
  good (grammar.specifiers a {x = x} {xs = xs} ds e) =
      λ alone. specifiers_coded alone (own_token x) (more x xs) (readings (more x xs))
      (name_types (more x xs) (readings (more x xs)) (repeated_good ds))
  good (grammar.specifier_word t e) = λ i. absurd (false≢true i)
  good (grammar.typedef_name t e) = λ i alone. typedef_coded t
  good (grammar.record_tag {k = k} t n e f) =
      λ i alone. tag_alone_coded k alone t n nil (readings (one (node Kinds.Tag n nil)))
  good (grammar.record_members {k = k} t o c n a {ns = ns} {x = x} {xs = xs} e tags f j ds) =
      λ i alone. record_good tags k alone t x xs
      (all_of Member IsMember (λ x r h. h) (more x xs) (readings (more x xs)) (repeated_good ds))
  good (grammar.member c a b {s = s} {xs = xs} e d ds m) =
      λ ms. member_coded (own_token s) (more s xs) (reading s) (readings xs) ms (good d)
      (all_of (Declarator grammar.Any) (IsDeclarator false) (λ x r h. h) xs (readings xs) (separated_good ds))
  good (grammar.enum_tag t n e f) = λ i alone. enum_alone_coded n nil (readings (one (node Kinds.Tag n nil)))
  good (grammar.enum_list t o c n a z {ns = ns} {xs = xs} e tags f k ds w) =
      λ i alone. enum_good tags xs (all_of Enumerator IsEnumerator (λ x r h. h) xs (readings xs) (separated_good ds))
  good (grammar.enumerator n e) = λ z. enumerator_coded n z
  good (grammar.enumerator_value n o a {x = x} e f d) = λ z. enumerator_value_coded n (reading x) z (good d).operand
  good (grammar.qualifier t e f) = tt
  good (grammar.declarator a d) = declares_good d
  good (grammar.parameter a b {s = s} {xs = xs} d q) =
      λ only. parameter_coded (own_token s) (reading s) (readings xs) only (good d)
      (declarator_there true xs (readings xs) (declares_good q))
  good (grammar.type_name a b {s = s} {xs = xs} d q) =
      λ alone. type_name_coded (own_token s) (more s xs) (reading s) (readings xs) (good d)
      (declarator_there true xs (readings xs) (declares_good q))
  good (grammar.plain_initializer a d) = (good d).initializer
  good (grammar.empty_braces o c e f) = braced_coded o false [] tt
  good (grammar.braces o c a z {xs = xs} e f ds w) =
      braced_coded o (is_text xs) (readings xs)
      (all_of Initializer IsInitializer (λ x r h. h) xs (readings xs) (separated_good ds))

  declares_good : {types : List (List ℕ)} {m : Naming} {starred : Bool} {a : List Lexeme} {xs : Syns} →
      Declares types m starred a xs → IsThere (may_be_nameless m) xs (readings xs)
  declares_good (grammar.empty e) = e
  declares_good (grammar.declared {m = m} n e) = named_good (may_be_nameless m) n
  declares_good (grammar.enclosed {m = m} o c a {x = x} e f d) = enclosed_good (may_be_nameless m) o x (declares_good d)
  declares_good (grammar.open_array {m = m} o c a {xs = xs} e f d) =
      open_good (may_be_nameless m) o xs (declares_good d)
  declares_good (grammar.array {m = m} o c a b {xs = xs} {y = y} e f d q) =
      array_good (may_be_nameless m) o xs y (declares_good d) (good q).operand
  declares_good (grammar.function {m = m} o c a b {xs = xs} {ys = ys} e f d ds) =
      function_good (may_be_nameless m) o xs ys (declares_good d)
      (all_of Parameter IsParameter (λ x r h. h) ys (readings ys) (listed_good ds))
  declares_good (grammar.pointer {m = m} o a b {qs = qs} {xs = xs} e ds d) =
      pointer_good (may_be_nameless m) o (node Kinds.Qualifiers o qs) xs (declares_good d)

  repeated_good : {types : List (List ℕ)} {g : Goal} {a : List Lexeme} {xs : Syns} → Repeated types g a xs →
      AreGood g xs (readings xs)
  repeated_good grammar.finished = tt
  repeated_good (grammar.repeated a b d ds) = (good d, repeated_good ds)

  separated_good : {types : List (List ℕ)} {g : Goal} {a : List Lexeme} {xs : Syns} → Separated types g a xs →
      AreGood g xs (readings xs)
  separated_good (grammar.last a d) = (good d, tt)
  separated_good (grammar.separated c a b e d ds) = (good d, separated_good ds)

  listed_good : {types : List (List ℕ)} {g : Goal} {a : List Lexeme} {xs : Syns} → Listed types g a xs →
      AreGood g xs (readings xs)
  listed_good grammar.nothing = tt
  listed_good (grammar.listed a ds) = separated_good ds
