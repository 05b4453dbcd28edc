-- The tokens of a tree that is read from accepted tokens: names are words, literals are written as such, and each token
-- is one of those that were read (C11 6.4, 6.5 to 6.9).
use Rattle.std.proofs.Common.{◌≡◌, ℕ, suc, Bool, true, false, not, List, [], ◌∷◌, ◌++◌, Some, refl, sym, ap, subst, ◌∙◌}
use Rattle.std.specs.Prelude.{if◌then◌else◌, slice_get, bytes_eq}
use Rattle.std.specs.List.{list_all}
use Rattle.std.proofs.lemmas.Bool.{false≢true, and_parts}
use Rattle.ck_base.specs.declared.tokens.TokenKind.{TokenKind}
use Rattle.ck_base.specs.declared.tokens.TokenKind.TheVariants as Tokens
use Rattle.ck_base.specs.Tokens.{Lexeme, is_among, keywords}
use Rattle.ck_base.specs.Lexes.{IsAccepted}
use Rattle.c_tree.specs.declared.syntax.NodeKind.TheVariants as Kinds
use Rattle.c_tree.specs.declared.syntax.Symbol.{Symbol}
use Rattle.c_tree.specs.declared.syntax.Symbol.TheVariants as Symbols
use Rattle.c_tree.specs.declared.syntax.Head.{Head}
use Rattle.c_tree.specs.declared.syntax.Head.TheVariants as Heads
use Rattle.c_tree.specs.Syntax.{Syn, Syns, node, nil, more, one, joined, own_token, first_token, first_of_parts}
use Rattle.c_tree.specs.Syntax.{first_unless_last}
use Rattle.c_tree.specs.Symbols.{look_up, keyword_symbols, punctuator_symbols, symbol_of, symbol, head_of}
use Rattle.c_tree.specs.Grammar
use Rattle.c_tree.specs.Grammar.{Naming, Tags, Goal, Derives, Declares, Repeated, Separated, Listed, Initializes}
use Rattle.c_tree.specs.Grammar.{Initialized, Declaration, Optional, States, Items, Externals, is_word, is_typedef_name}
use Rattle.c_tree.specs.Grammar.{is_declared_by}
use Rattle.c_tree.specs.Parses
use Rattle.c_tree.specs.Parses.{DerivesFile, file_start}
use Rattle.c_elaborator.specs.Parts.{TokenFits, IsOf, AreOf, AreEnumerators, HasParameters, IsStatement, PartsFit}
use Rattle.c_elaborator.specs.Parts.{IsWritten, AreWritten}

-- ---- what kind of token a symbol is

chosen : {X : Type 0} (P : X → Type 0) (b : Bool) (x y : X) → P x → P y → P (if b then x else y)
chosen P true x y f g = f
chosen P false x y f g = g

looked_up : (test : Symbol → Bool) → test Symbols.Other ≡ false → (table : List (List ℕ × Symbol)) →
    list_all (λ (e : List ℕ × Symbol). not (test e.1)) table ≡ true → (text : List ℕ) →
    test (look_up table text) ≡ false
looked_up test other [] all text = other
looked_up test other (e ∷ table) all text =
    let p = and_parts (not (test e.1)) (list_all (λ (e : List ℕ × Symbol). not (test e.1)) table) all in
    chosen (λ s. test s ≡ false) (bytes_eq e.0 text) e.1 (look_up table text) (negated (test e.1) p.0)
    (looked_up test other table p.1 text)
  where
    negated : (b : Bool) → not b ≡ true → b ≡ false
    negated true h = absurd (false≢true h)
    negated false h = refl

-- a kind of symbol that no punctuator and no word has
pub record NoWord (test : Symbol → Bool) : Type 0 where
  other : test Symbols.Other ≡ false
  word : test Symbols.Word ≡ false
  words : list_all (λ (e : List ℕ × Symbol). not (test e.1)) keyword_symbols ≡ true
  punctuators : list_all (λ (e : List ℕ × Symbol). not (test e.1)) punctuator_symbols ≡ true

wordless : (test : Symbol → Bool) → NoWord test → (text : List ℕ) → test (symbol_of Tokens.Word text) ≡ false
unfolding symbol_of
wordless test n text = chosen (λ s. test s ≡ false) (is_among keywords text) (look_up keyword_symbols text) Symbols.Word
    (looked_up test n.other keyword_symbols n.words text) n.word

pointless : (test : Symbol → Bool) → test Symbols.Other ≡ false →
    list_all (λ (e : List ℕ × Symbol). not (test e.1)) punctuator_symbols ≡ true → (text : List ℕ) →
    test (symbol_of Tokens.Punct text) ≡ false
unfolding symbol_of
pointless test other all text = looked_up test other punctuator_symbols all text

is_number : Symbol → Bool
is_number Symbols.Number = true
is_number s = false

is_character : Symbol → Bool
is_character Symbols.Character = true
is_character s = false

is_text : Symbol → Bool
is_text Symbols.Text = true
is_text s = false

-- a word of the grammar that begins a specifier, and any other word
is_wordy : Symbol → Bool
is_wordy Symbols.Word = true
is_wordy (Symbols.Specifier w) = true
is_wordy (Symbols.Record k) = true
is_wordy Symbols.Enum = true
is_wordy s = false

no_number : NoWord is_number
unfolding keyword_symbols punctuator_symbols is_number
no_number = record { other = refl; word = refl; words = refl; punctuators = refl }

no_character : NoWord is_character
unfolding keyword_symbols punctuator_symbols is_character
no_character = record { other = refl; word = refl; words = refl; punctuators = refl }

no_text : NoWord is_text
unfolding keyword_symbols punctuator_symbols is_text
no_text = record { other = refl; word = refl; words = refl; punctuators = refl }

no_wordy_punctuator : list_all (λ (e : List ℕ × Symbol). not (is_wordy e.1)) punctuator_symbols ≡ true
unfolding punctuator_symbols is_wordy
no_wordy_punctuator = refl

number_token : (k : TokenKind) (text : List ℕ) → is_number (symbol_of k text) ≡ true → IsAccepted k text →
    IsAccepted Tokens.Number text
unfolding symbol_of is_number
number_token Tokens.Word text e h = absurd (false≢true (sym (wordless is_number no_number text) ∙ e))
number_token Tokens.Number text e h = h
number_token Tokens.Char text e h = absurd (false≢true e)
number_token Tokens.Text text e h = absurd (false≢true e)
number_token Tokens.Punct text e h =
    absurd (false≢true (sym (pointless is_number no_number.other no_number.punctuators text) ∙ e))

character_token : (k : TokenKind) (text : List ℕ) → is_character (symbol_of k text) ≡ true → IsAccepted k text →
    IsAccepted Tokens.Char text
unfolding symbol_of is_character
character_token Tokens.Word text e h = absurd (false≢true (sym (wordless is_character no_character text) ∙ e))
character_token Tokens.Number text e h = absurd (false≢true e)
character_token Tokens.Char text e h = h
character_token Tokens.Text text e h = absurd (false≢true e)
character_token Tokens.Punct text e h =
    absurd (false≢true (sym (pointless is_character no_character.other no_character.punctuators text) ∙ e))

text_token : (k : TokenKind) (text : List ℕ) → is_text (symbol_of k text) ≡ true → IsAccepted k text →
    IsAccepted Tokens.Text text
unfolding symbol_of is_text
text_token Tokens.Word text e h = absurd (false≢true (sym (wordless is_text no_text text) ∙ e))
text_token Tokens.Number text e h = absurd (false≢true e)
text_token Tokens.Char text e h = absurd (false≢true e)
text_token Tokens.Text text e h = h
text_token Tokens.Punct text e h =
    absurd (false≢true (sym (pointless is_text no_text.other no_text.punctuators text) ∙ e))

word_token : (k : TokenKind) (text : List ℕ) → is_wordy (symbol_of k text) ≡ true → k ≡ Tokens.Word
unfolding symbol_of is_wordy
word_token Tokens.Word text e = refl
word_token Tokens.Number text e = absurd (false≢true e)
word_token Tokens.Char text e = absurd (false≢true e)
word_token Tokens.Text text e = absurd (false≢true e)
word_token Tokens.Punct text e = absurd (false≢true (sym (pointless is_wordy refl no_wordy_punctuator text) ∙ e))

-- the symbols behind the heads that literals and names have
abbrev HeadIs : Head → Symbol → Type 0
HeadIs Heads.Name s = is_wordy s ≡ true
HeadIs Heads.Number s = is_number s ≡ true
HeadIs Heads.Character s = is_character s ≡ true
HeadIs Heads.Text s = is_text s ≡ true
HeadIs h s = Unit {0}

by_head : (s : Symbol) → HeadIs (head_of s) s
unfolding is_wordy is_number is_character is_text
by_head Symbols.Word = refl
by_head Symbols.Number = refl
by_head Symbols.Character = refl
by_head Symbols.Text = refl
by_head Symbols.OpenParenthesis = tt
by_head Symbols.CloseParenthesis = tt
by_head Symbols.OpenBracket = tt
by_head Symbols.CloseBracket = tt
by_head Symbols.OpenBrace = tt
by_head Symbols.CloseBrace = tt
by_head (Symbols.Selection s) = tt
by_head (Symbols.Step s) = tt
by_head Symbols.Ampersand = tt
by_head Symbols.Star = tt
by_head Symbols.Plus = tt
by_head Symbols.Minus = tt
by_head Symbols.Tilde = tt
by_head Symbols.Exclamation = tt
by_head (Symbols.Infix o) = tt
by_head Symbols.Question = tt
by_head Symbols.Colon = tt
by_head Symbols.Semicolon = tt
by_head Symbols.Comma = tt
by_head (Symbols.Assignment o) = tt
by_head (Symbols.Specifier w) = tt
by_head (Symbols.Record k) = tt
by_head Symbols.Enum = tt
by_head Symbols.Sizeof = tt
by_head Symbols.If = tt
by_head Symbols.Else = tt
by_head Symbols.While = tt
by_head Symbols.Do = tt
by_head Symbols.For = tt
by_head Symbols.Switch = tt
by_head Symbols.Case = tt
by_head Symbols.Default = tt
by_head Symbols.Break = tt
by_head Symbols.Continue = tt
by_head Symbols.Return = tt
by_head Symbols.Other = tt

from_head : (h : Head) (s : Symbol) → head_of s ≡ h → HeadIs h s
from_head h s e = subst (λ j. HeadIs j s) e (by_head s)

is_a_word : (s : Symbol) → is_word s ≡ true → is_wordy s ≡ true
unfolding is_wordy
is_a_word Symbols.Word e = refl
is_a_word s e = absurd (false≢true e)

typedef_wordy : (types : List (List ℕ)) (t : Lexeme) → is_typedef_name types t ≡ true → t.kind ≡ Tokens.Word
typedef_wordy types t e =
    word_token t.kind t.text (is_a_word (symbol t) (and_parts (is_word (symbol t)) (is_among types t.text) e).0)

declared_wordy : (m : Naming) (types : List (List ℕ)) (t : Lexeme) → is_declared_by m types t ≡ true →
    t.kind ≡ Tokens.Word
declared_wordy Grammar.Plain types t e =
    word_token t.kind t.text (is_a_word (symbol t) (and_parts (is_word (symbol t)) (not (is_typedef_name types t)) e).0)
declared_wordy Grammar.Any types t e = word_token t.kind t.text (is_a_word (symbol t) e)
declared_wordy Grammar.Nameless types t e = absurd (false≢true e)
declared_wordy Grammar.Either types t e =
    word_token t.kind t.text (is_a_word (symbol t) (and_parts (is_word (symbol t)) (not (is_typedef_name types t)) e).0)

wordy : (t : Lexeme) (s : Symbol) → is_wordy s ≡ true → symbol t ≡ s → t.kind ≡ Tokens.Word
wordy t s w e = word_token t.kind t.text (ap is_wordy e ∙ w)

-- ---- of what kinds parts are

are_pieces : {types : List (List ℕ)} {a : List Lexeme} {xs : Syns} → Repeated types Grammar.Piece a xs →
    AreOf Kinds.Text xs
are_pieces Grammar.finished = tt
are_pieces (Grammar.repeated a b d ds) = (is_piece d, are_pieces ds)
  where
    is_piece : {types : List (List ℕ)} {a : List Lexeme} {x : Syn} → Derives types Grammar.Piece a x → IsOf Kinds.Text x
    is_piece (Grammar.piece t e) = refl

are_enumerators : {types : List (List ℕ)} {a : List Lexeme} {xs : Syns} → Separated types Grammar.Enumerator a xs →
    AreOf Kinds.Enumerator xs
are_enumerators s = all s
  where
    is_enumerator : {types : List (List ℕ)} {a : List Lexeme} {x : Syn} → Derives types Grammar.Enumerator a x →
        IsOf Kinds.Enumerator x
    is_enumerator (Grammar.enumerator n e) = refl
    is_enumerator (Grammar.enumerator_value n o a e f d) = refl

    all : {types : List (List ℕ)} {a : List Lexeme} {xs : Syns} → Separated types Grammar.Enumerator a xs →
        AreOf Kinds.Enumerator xs
    all (Grammar.last a d) = (is_enumerator d, tt)
    all (Grammar.separated c a b e d ds) = (is_enumerator d, all ds)

behind_tag : {n : List Lexeme} {ns : Syns} → Tags n ns → (xs : Syns) → AreOf Kinds.Enumerator xs →
    AreEnumerators (joined ns xs)
behind_tag Grammar.untagged nil h = tt
behind_tag Grammar.untagged (more (node Kinds.Tag t ys) xs) h = absurd (let e = h.0 in cc)
behind_tag Grammar.untagged (more (node k t ys) xs) h = h
behind_tag (Grammar.tagged n e) xs h = h

are_parameters : {types : List (List ℕ)} {a : List Lexeme} {xs : Syns} → Listed types Grammar.Parameter a xs →
    AreOf Kinds.Parameter xs
are_parameters Grammar.nothing = tt
are_parameters (Grammar.listed a s) = all s
  where
    is_parameter : {types : List (List ℕ)} {a : List Lexeme} {x : Syn} → Derives types Grammar.Parameter a x →
        IsOf Kinds.Parameter x
    is_parameter (Grammar.parameter a b d q) = refl

    all : {types : List (List ℕ)} {a : List Lexeme} {xs : Syns} → Separated types Grammar.Parameter a xs →
        AreOf Kinds.Parameter xs
    all (Grammar.last a d) = (is_parameter d, tt)
    all (Grammar.separated c a b e d ds) = (is_parameter d, all ds)

-- a declarator is one part at most, and the parameters stand behind it
parameters_last : {types : List (List ℕ)} {m : Naming} {starred : Bool} {a : List Lexeme} {xs : Syns} →
    Declares types m starred a xs → (o : Lexeme) (ys : Syns) →
    HasParameters (joined xs (one (node Kinds.Parameters o ys)))
parameters_last (Grammar.empty e) o ys = refl
parameters_last (Grammar.declared n e) o ys = refl
parameters_last (Grammar.enclosed p c a e f d) o ys = refl
parameters_last (Grammar.open_array p c a e f d) o ys = refl
parameters_last (Grammar.array p c a b e f d q) o ys = refl
parameters_last (Grammar.function p c a b e f d ds) o ys = refl
parameters_last (Grammar.pointer p a b e ds d) o ys = refl

is_statement : {types : List (List ℕ)} {a : List Lexeme} {x : Syn} → States types a x → IsStatement x
is_statement (Grammar.block o c a e f is) = refl
is_statement (Grammar.empty_statement c e) = refl
is_statement (Grammar.expression_statement c a e d) = refl
is_statement (Grammar.if_statement t o c a b e f g d s) = refl
is_statement (Grammar.if_else t o c z a b d e f g k q s n r) = refl
is_statement (Grammar.switch t o c p q a b e f g k l d is) = refl
is_statement (Grammar.while_statement t o c a b e f g d s) = refl
is_statement (Grammar.do_statement t w o c z a b e f g k l s d) = refl
is_statement (Grammar.for_statement t o p q c a b d z e f g k l x y w s) = refl
is_statement (Grammar.for_declaration t o q c a b d z e f g k x y w s) = refl
is_statement (Grammar.break_statement t c e f) = refl
is_statement (Grammar.continue_statement t c e f) = refl
is_statement (Grammar.return_statement t c e f) = refl
is_statement (Grammar.return_value t c a e f d) = refl

-- ---- the tokens of a tree

module _ (Is : Lexeme → Type 0) where
  abbrev Known : Lexeme → Type 0
  Known t = IsAccepted t.kind t.text × Is t

  abbrev AllKnown : List Lexeme → Type 0
  AllKnown [] = Unit {0}
  AllKnown (t ∷ ts) = Known t × AllKnown ts

  pub all_known : (ts : List Lexeme) → ((k : ℕ) (t : Lexeme) → slice_get ts k ≡ Some t → Known t) → AllKnown ts
  all_known [] h = tt
  all_known (t ∷ ts) h = (h 0 t refl, all_known ts (λ k u e. h (suc k) u e))

  split : (a b : List Lexeme) → AllKnown (a ++ b) → AllKnown a × AllKnown b
  split [] b h = (tt, h)
  split (t ∷ a) b h = let r = split a b h.1 in ((h.0, r.0), r.1)

  abbrev mutual
    pub IsFrom : Syn → Type 0
    IsFrom (node k t xs) = (TokenFits k t × Is t × PartsFit k xs) × AreFrom xs

    pub AreFrom : Syns → Type 0
    AreFrom nil = Unit {0}
    AreFrom (more x xs) = IsFrom x × AreFrom xs

  own_is : (x : Syn) → IsFrom x → Is (own_token x)
  own_is (node k t xs) h = h.0.1

  mutual
    first_is : (x : Syn) → IsFrom x → Is (first_token x)
    first_is (node Kinds.Index t xs) h = first_part t xs h.0.1 h.1
    first_is (node Kinds.Call t xs) h = first_part t xs h.0.1 h.1
    first_is (node (Kinds.Select s) t xs) h = first_part t xs h.0.1 h.1
    first_is (node (Kinds.Postfix s) t xs) h = first_part t xs h.0.1 h.1
    first_is (node (Kinds.Infix o) t xs) h = first_part t xs h.0.1 h.1
    first_is (node Kinds.Conditional t xs) h = first_part t xs h.0.1 h.1
    first_is (node (Kinds.Assignment o) t xs) h = first_part t xs h.0.1 h.1
    first_is (node Kinds.OpenArray t xs) h = first_part t xs h.0.1 h.1
    first_is (node Kinds.Array t xs) h = first_not_last t xs h.0.1 h.1
    first_is (node Kinds.Function t xs) h = first_not_last t xs h.0.1 h.1
    first_is (node Kinds.File t xs) h = h.0.1
    first_is (node Kinds.FunctionDefinition t xs) h = h.0.1
    first_is (node Kinds.EmptyExternal t xs) h = h.0.1
    first_is (node Kinds.Declaration t xs) h = h.0.1
    first_is (node Kinds.InitDeclarator t xs) h = h.0.1
    first_is (node Kinds.BracedInitializer t xs) h = h.0.1
    first_is (node Kinds.Specifiers t xs) h = h.0.1
    first_is (node (Kinds.Specifier w) t xs) h = h.0.1
    first_is (node Kinds.TypedefName t xs) h = h.0.1
    first_is (node (Kinds.Record w) t xs) h = h.0.1
    first_is (node Kinds.Enum t xs) h = h.0.1
    first_is (node Kinds.Tag t xs) h = h.0.1
    first_is (node Kinds.Member t xs) h = h.0.1
    first_is (node Kinds.Enumerator t xs) h = h.0.1
    first_is (node Kinds.Pointer t xs) h = h.0.1
    first_is (node Kinds.Qualifiers t xs) h = h.0.1
    first_is (node Kinds.ParenthesizedDeclarator t xs) h = h.0.1
    first_is (node Kinds.DeclaredName t xs) h = h.0.1
    first_is (node Kinds.Parameters t xs) h = h.0.1
    first_is (node Kinds.Parameter t xs) h = h.0.1
    first_is (node Kinds.TypeName t xs) h = h.0.1
    first_is (node Kinds.Block t xs) h = h.0.1
    first_is (node Kinds.EmptyStatement t xs) h = h.0.1
    first_is (node Kinds.ExpressionStatement t xs) h = h.0.1
    first_is (node Kinds.If t xs) h = h.0.1
    first_is (node Kinds.IfElse t xs) h = h.0.1
    first_is (node Kinds.While t xs) h = h.0.1
    first_is (node Kinds.Do t xs) h = h.0.1
    first_is (node Kinds.For t xs) h = h.0.1
    first_is (node Kinds.Switch t xs) h = h.0.1
    first_is (node Kinds.Case t xs) h = h.0.1
    first_is (node Kinds.Default t xs) h = h.0.1
    first_is (node Kinds.Break t xs) h = h.0.1
    first_is (node Kinds.Continue t xs) h = h.0.1
    first_is (node Kinds.Return t xs) h = h.0.1
    first_is (node Kinds.Absent t xs) h = h.0.1
    first_is (node Kinds.Name t xs) h = h.0.1
    first_is (node Kinds.Number t xs) h = h.0.1
    first_is (node Kinds.Character t xs) h = h.0.1
    first_is (node Kinds.Text t xs) h = h.0.1
    first_is (node Kinds.Parenthesized t xs) h = h.0.1
    first_is (node Kinds.MemberName t xs) h = h.0.1
    first_is (node (Kinds.Prefix o) t xs) h = h.0.1
    first_is (node Kinds.SizeofExpression t xs) h = h.0.1
    first_is (node Kinds.SizeofType t xs) h = h.0.1
    first_is (node Kinds.Cast t xs) h = h.0.1

    first_part : (t : Lexeme) (xs : Syns) → Is t → AreFrom xs → Is (first_of_parts t xs)
    first_part t nil i h = i
    first_part t (more x xs) i h = first_is x h.0

    first_not_last : (t : Lexeme) (xs : Syns) → Is t → AreFrom xs → Is (first_unless_last t xs)
    first_not_last t nil i h = i
    first_not_last t (more x nil) i h = i
    first_not_last t (more x (more y ys)) i h = first_is x h.0

  joined_from : (xs ys : Syns) → AreFrom xs → AreFrom ys → AreFrom (joined xs ys)
  joined_from nil ys h k = k
  joined_from (more x xs) ys h k = (h.0, joined_from xs ys h.1 k)

  tags_from : {n : List Lexeme} {ns : Syns} → Tags n ns → AllKnown n → AreFrom ns
  unfolding is_wordy
  tags_from Grammar.untagged h = tt
  tags_from (Grammar.tagged n e) h = (((wordy n Symbols.Word refl e, h.0.1, tt), tt), tt)

  -- a specifier begins with a word
  specifier_wordy : {types : List (List ℕ)} {a : List Lexeme} {x : Syn} → Derives types Grammar.Specifier a x →
      (own_token x).kind ≡ Tokens.Word
  unfolding is_wordy
  specifier_wordy (Grammar.specifier_word {w = w} t e) = wordy t (Symbols.Specifier w) refl e
  specifier_wordy (Grammar.typedef_name t e) = typedef_wordy _ t e
  specifier_wordy (Grammar.record_tag {k = k} t n e f) = wordy t (Symbols.Record k) refl e
  specifier_wordy (Grammar.record_members {k = k} t o c n a e tags f g ds) = wordy t (Symbols.Record k) refl e
  specifier_wordy (Grammar.enum_tag t n e f) = wordy t Symbols.Enum refl e
  specifier_wordy (Grammar.enum_list t o c n a z e tags f k ds w) = wordy t Symbols.Enum refl e

  first_specifier_wordy : {types : List (List ℕ)} {a : List Lexeme} {x : Syn} {xs : Syns} →
      Repeated types Grammar.Specifier a (more x xs) → (own_token x).kind ≡ Tokens.Word
  first_specifier_wordy (Grammar.repeated a b d ds) = specifier_wordy d

  specifiers_wordy : {types : List (List ℕ)} {a : List Lexeme} {x : Syn} → Derives types Grammar.Specifiers a x →
      (own_token x).kind ≡ Tokens.Word
  specifiers_wordy (Grammar.specifiers a ds e) = first_specifier_wordy ds

  mutual
    unfolding is_wordy

    read : {types : List (List ℕ)} {g : Goal} {a : List Lexeme} {x : Syn} → Derives types g a x → AllKnown a → IsFrom x
    read (Grammar.name t l e f) h = ((word_token t.kind t.text (from_head Heads.Name (symbol t) e), h.0.1, tt), tt)
    read (Grammar.number t l e) h =
        ((number_token t.kind t.text (from_head Heads.Number (symbol t) e) h.0.0, h.0.1, tt), tt)
    read (Grammar.character t l e) h =
        ((character_token t.kind t.text (from_head Heads.Character (symbol t) e) h.0.0, h.0.1, tt), tt)
    read (Grammar.text t a l e ds) h = (
      (text_token t.kind t.text (from_head Heads.Text (symbol t) e) h.0.0, h.0.1, are_pieces ds),
      repeated_read ds h.1,
    )
    read (Grammar.piece t e) h =
        ((text_token t.kind t.text (from_head Heads.Text (symbol t) (ap head_of e)) h.0.0, h.0.1, tt), tt)
    read (Grammar.parenthesized o c a l e f d) h = ((tt, h.0.1, tt), (read d (split a (c ∷ []) h.1).0, tt))
    read (Grammar.index o c a b l e f d q) h =
        let p = split a (o ∷ (b ++ (c ∷ []))) h in
        ((tt, p.1.0.1, tt), (read d p.0, (read q (split b (c ∷ []) p.1.1).0, tt)))
    read (Grammar.call o c a b l e f d ds) h =
        let p = split a (o ∷ (b ++ (c ∷ []))) h in
        ((tt, p.1.0.1, tt), (read d p.0, listed_read ds (split b (c ∷ []) p.1.1).0))
    read (Grammar.select o n a l e f d) h =
        let p = split a (o ∷ (n ∷ [])) h in
        ((tt, p.1.0.1, tt), (read d p.0, (((wordy n Symbols.Word refl f, p.1.1.0.1, tt), tt), tt)))
    read (Grammar.postfix o a l e d) h = let p = split a (o ∷ []) h in ((tt, p.1.0.1, tt), (read d p.0, tt))
    read (Grammar.prefix o a l e d) h = ((tt, h.0.1, tt), (read d h.1, tt))
    read (Grammar.sizeof_expression o a l e d) h = ((tt, h.0.1, tt), (read d h.1, tt))
    read (Grammar.sizeof_type o b c a l e f k d) h = ((tt, h.0.1, tt), (read d (split a (c ∷ []) h.1.1).0, tt))
    read (Grammar.cast o c a b l e f d q) h =
        let p = split a (c ∷ b) h.1 in
        ((tt, h.0.1, tt), (read d p.0, (read q p.1.1, tt)))
    read (Grammar.binary o a b l e d q) h =
        let p = split a (o ∷ b) h in
        ((tt, p.1.0.1, tt), (read d p.0, (read q p.1.1, tt)))
    read (Grammar.conditional o m a b c l e f d q k) h =
        let p = split a (o ∷ (b ++ (m ∷ c))) h in
        let r = split b (m ∷ c) p.1.1 in
        ((tt, p.1.0.1, tt), (read d p.0, (read q r.0, (read k r.1.1, tt))))
    read (Grammar.assignment o a b l e d q) h =
        let p = split a (o ∷ b) h in
        ((tt, p.1.0.1, tt), (read d p.0, (read q p.1.1, tt)))
    read (Grammar.specifiers a {x = x} ds e) h = let r = repeated_read ds h in ((tt, own_is x r.0, tt), r)
    read (Grammar.specifier_word t e) h = ((tt, h.0.1, tt), tt)
    read (Grammar.typedef_name t e) h = ((typedef_wordy _ t e, h.0.1, tt), tt)
    read (Grammar.record_tag t n e f) h = ((tt, h.0.1, tt), (((wordy n Symbols.Word refl f, h.1.0.1, tt), tt), tt))
    read (Grammar.record_members t o c n a {ns = ns} {x = x} {xs = xs} e tags f k ds) h =
        let p = split n (o ∷ (a ++ (c ∷ []))) h.1 in
        ((tt, h.0.1, tt), joined_from ns (more x xs) (tags_from tags p.0) (repeated_read ds (split a (c ∷ []) p.1.1).0))
    read (Grammar.member c a b {s = s} e d ds m) h =
        let p = split a (b ++ (c ∷ [])) h in
        let r = read d p.0 in
        ((tt, own_is s r, tt), (r, separated_read ds (split b (c ∷ []) p.1).0))
    read (Grammar.enum_tag t n e f) h = ((tt, h.0.1, tt), (((wordy n Symbols.Word refl f, h.1.0.1, tt), tt), tt))
    read (Grammar.enum_list t o c n a z {ns = ns} {xs = xs} e tags f k ds w) h =
        let p = split n (o ∷ (a ++ (z ++ (c ∷ [])))) h.1 in (
          (tt, h.0.1, behind_tag tags xs (are_enumerators ds)),
          joined_from ns xs (tags_from tags p.0) (separated_read ds (split a (z ++ (c ∷ [])) p.1.1).0),
        )
    read (Grammar.enumerator n e) h = ((declared_wordy Grammar.Plain _ n e, h.0.1, tt), tt)
    read (Grammar.enumerator_value n o a e f d) h =
        ((declared_wordy Grammar.Plain _ n e, h.0.1, tt), (read d h.1.1, tt))
    read (Grammar.qualifier t e f) h = ((tt, h.0.1, tt), tt)
    read (Grammar.declarator a d) h = (declares_read d h).0
    read (Grammar.parameter a b {s = s} d q) h =
        let p = split a b h in
        let r = read d p.0 in
        ((specifiers_wordy d, own_is s r, tt), (r, declares_read q p.1))
    read (Grammar.type_name a b {s = s} d q) h =
        let p = split a b h in
        let r = read d p.0 in
        ((tt, own_is s r, tt), (r, declares_read q p.1))
    read (Grammar.plain_initializer a d) h = read d h
    read (Grammar.empty_braces o c e f) h = ((tt, h.0.1, tt), tt)
    read (Grammar.braces o c a z e f ds w) h = ((tt, h.0.1, tt), separated_read ds (split a (z ++ (c ∷ [])) h.1).0)

    declares_read : {types : List (List ℕ)} {m : Naming} {starred : Bool} {a : List Lexeme} {xs : Syns} →
        Declares types m starred a xs → AllKnown a → AreFrom xs
    declares_read (Grammar.empty e) h = tt
    declares_read (Grammar.declared {m = m} n e) h = (((declared_wordy m _ n e, h.0.1, tt), tt), tt)
    declares_read (Grammar.enclosed o c a e f d) h = (((tt, h.0.1, tt), declares_read d (split a (c ∷ []) h.1).0), tt)
    declares_read (Grammar.open_array o c a e f d) h =
        let p = split a (o ∷ (c ∷ [])) h in (((tt, p.1.0.1, tt), declares_read d p.0), tt)
    declares_read (Grammar.array o c a b {xs = xs} {y = y} e f d q) h =
        let p = split a (o ∷ (b ++ (c ∷ []))) h in
        (((tt, p.1.0.1, tt), joined_from xs (one y) (declares_read d p.0) (read q (split b (c ∷ []) p.1.1).0, tt)), tt)
    declares_read (Grammar.function o c a b {xs = xs} {ys = ys} e f d ds) h =
        let p = split a (o ∷ (b ++ (c ∷ []))) h in (
          (
            (tt, p.1.0.1, parameters_last d o ys),
            joined_from xs (one (node Kinds.Parameters o ys)) (declares_read d p.0)
                (((tt, p.1.0.1, are_parameters ds), listed_read ds (split b (c ∷ []) p.1.1).0), tt),
          ),
          tt,
        )
    declares_read (Grammar.pointer o a b e ds d) h =
        let p = split a b h.1 in
        (((tt, h.0.1, tt), (((tt, h.0.1, tt), repeated_read ds p.0), declares_read d p.1)), tt)

    repeated_read : {types : List (List ℕ)} {g : Goal} {a : List Lexeme} {xs : Syns} → Repeated types g a xs →
        AllKnown a → AreFrom xs
    repeated_read Grammar.finished h = tt
    repeated_read (Grammar.repeated a b d ds) h = let p = split a b h in (read d p.0, repeated_read ds p.1)

    separated_read : {types : List (List ℕ)} {g : Goal} {a : List Lexeme} {xs : Syns} → Separated types g a xs →
        AllKnown a → AreFrom xs
    separated_read (Grammar.last a d) h = (read d h, tt)
    separated_read (Grammar.separated c a b e d ds) h =
        let p = split a (c ∷ b) h in (read d p.0, separated_read ds p.1.1)

    listed_read : {types : List (List ℕ)} {g : Goal} {a : List Lexeme} {xs : Syns} → Listed types g a xs → AllKnown a →
        AreFrom xs
    listed_read Grammar.nothing h = tt
    listed_read (Grammar.listed a ds) h = separated_read ds h

  -- ---- declarations

  initializes_read : {types : List (List ℕ)} {m : Naming} {defines : Bool} {a : List Lexeme} {x : Syn} →
      Initializes types m defines a x → AllKnown a → IsFrom x
  initializes_read (Grammar.uninitialized a {x = x} d) h = let r = read d h in ((tt, first_is x r, tt), (r, tt))
  initializes_read (Grammar.initialized o a b {x = x} e d q) h =
      let p = split a (o ∷ b) h in
      let r = read d p.0 in
      ((tt, first_is x r, tt), (r, (read q p.1.1, tt)))

  initialized_read : {m : Naming} {defines : Bool} {types : List (List ℕ)} {a : List Lexeme} {xs : Syns} →
      Initialized m defines types a xs → AllKnown a → AreFrom xs
  initialized_read (Grammar.last_one a d) h = (initializes_read d h, tt)
  initialized_read (Grammar.one_more c a b e d ds) h =
      let p = split a (c ∷ b) h in (initializes_read d p.0, initialized_read ds p.1.1)

  declaration_read : {types : List (List ℕ)} {at_file_scope : Bool} {a : List Lexeme} {x : Syn} →
      Declaration types at_file_scope a x → AllKnown a → IsFrom x
  declaration_read (Grammar.specifiers_only c a {s = s} e d) h =
      let r = read d (split a (c ∷ []) h).0 in ((tt, own_is s r, tt), (r, tt))
  declaration_read (Grammar.declaration c a b {s = s} e d ds) h =
      let p = split a (b ++ (c ∷ [])) h in
      let r = read d p.0 in
      ((tt, own_is s r, tt), (r, initialized_read ds (split b (c ∷ []) p.1).0))

  optional_read : {types : List (List ℕ)} {before : Lexeme} {a : List Lexeme} {x : Syn} → Optional types before a x →
      AllKnown a → Is before → IsFrom x
  optional_read Grammar.absent h i = ((tt, i, tt), tt)
  optional_read (Grammar.present a d) h i = read d h

  -- ---- statements

  mutual
    states_read : {types : List (List ℕ)} {a : List Lexeme} {x : Syn} → States types a x → AllKnown a → IsFrom x
    states_read (Grammar.block o c a e f is) h = ((tt, h.0.1, tt), items_read is (split a (c ∷ []) h.1).0)
    states_read (Grammar.empty_statement c e) h = ((tt, h.0.1, tt), tt)
    states_read (Grammar.expression_statement c a {x = x} e d) h =
        let r = read d (split a (c ∷ []) h).0 in ((tt, first_is x r, tt), (r, tt))
    states_read (Grammar.if_statement t o c a b e f g d s) h =
        let p = split a (c ∷ b) h.1.1 in
        ((tt, h.0.1, is_statement s), (read d p.0, (states_read s p.1.1, tt)))
    states_read (Grammar.if_else t o c z a b d e f g k q s n r) h =
        let p = split a (c ∷ (b ++ (z ∷ d))) h.1.1 in
        let u = split b (z ∷ d) p.1.1 in
        ((tt, h.0.1, (is_statement s, is_statement r)), (read q p.0, (states_read s u.0, (states_read r u.1.1, tt))))
    states_read (Grammar.switch t o c p q a b e f g k l d is) h =
        let u = split a (c ∷ (p ∷ (b ++ (q ∷ [])))) h.1.1 in
        ((tt, h.0.1, tt), (read d u.0, items_read is (split b (q ∷ []) u.1.1.1).0))
    states_read (Grammar.while_statement t o c a b e f g d s) h =
        let p = split a (c ∷ b) h.1.1 in
        ((tt, h.0.1, is_statement s), (read d p.0, (states_read s p.1.1, tt)))
    states_read (Grammar.do_statement t w o c z a b e f g k l s d) h =
        let p = split a (w ∷ (o ∷ (b ++ (c ∷ (z ∷ []))))) h.1 in
        ((tt, h.0.1, is_statement s), (states_read s p.0, (read d (split b (c ∷ (z ∷ [])) p.1.1.1).0, tt)))
    states_read (Grammar.for_statement t o p q c a b d z e f g k l x y w s) h =
        let u = split a (p ∷ (b ++ (q ∷ (d ++ (c ∷ z))))) h.1.1 in
        let v = split b (q ∷ (d ++ (c ∷ z))) u.1.1 in
        let r = split d (c ∷ z) v.1.1 in (
          (tt, h.0.1, is_statement s),
          (
            optional_read x u.0 u.1.0.1,
            (optional_read y v.0 v.1.0.1, (optional_read w r.0 r.1.0.1, (states_read s r.1.1, tt))),
          ),
        )
    states_read (Grammar.for_declaration t o q c a b d z e f g k x y w s) h =
        let u = split a (b ++ (q ∷ (d ++ (c ∷ z)))) h.1.1 in
        let v = split b (q ∷ (d ++ (c ∷ z))) u.1 in
        let r = split d (c ∷ z) v.1.1 in (
          (tt, h.0.1, is_statement s),
          (
            declaration_read x u.0,
            (optional_read y v.0 v.1.0.1, (optional_read w r.0 r.1.0.1, (states_read s r.1.1, tt))),
          ),
        )
    states_read (Grammar.break_statement t c e f) h = ((tt, h.0.1, tt), tt)
    states_read (Grammar.continue_statement t c e f) h = ((tt, h.0.1, tt), tt)
    states_read (Grammar.return_statement t c e f) h = ((tt, h.0.1, tt), tt)
    states_read (Grammar.return_value t c a e f d) h = ((tt, h.0.1, tt), (read d (split a (c ∷ []) h.1).0, tt))

    items_read : {in_switch : Bool} {types : List (List ℕ)} {a : List Lexeme} {xs : Syns} → Items in_switch types a xs →
        AllKnown a → AreFrom xs
    items_read Grammar.no_item h = tt
    items_read (Grammar.declaration_item a b d is) h =
        let p = split a b h in (declaration_read d p.0, items_read is p.1)
    items_read (Grammar.statement_item a b s is) h = let p = split a b h in (states_read s p.0, items_read is p.1)
    items_read (Grammar.case_item t c a b e f d is) h =
        let p = split a (c ∷ b) h.1 in (((tt, h.0.1, tt), (read d p.0, tt)), items_read is p.1.1)
    items_read (Grammar.default_item t c b e f is) h = (((tt, h.0.1, tt), tt), items_read is h.1.1)

  -- ---- files

  externals_read : {types : List (List ℕ)} {a : List Lexeme} {xs : Syns} → Externals types a xs → AllKnown a →
      AreFrom xs
  externals_read Grammar.no_external h = tt
  externals_read (Grammar.empty_external c b e es) h = (((tt, h.0.1, tt), tt), externals_read es h.1)
  externals_read (Grammar.external_declaration a b d es) h =
      let p = split a b h in (declaration_read d p.0, externals_read es p.1)
  externals_read (Grammar.function_definition o c a b d z {s = s} e f k x is es) h =
      let u = split a (b ++ (o ∷ (d ++ (c ∷ z)))) h in
      let v = split b (o ∷ (d ++ (c ∷ z))) u.1 in
      let r = split d (c ∷ z) v.1.1 in
      let y = read k u.0 in
      (((tt, own_is s y, tt), (y, (read x v.0, (((tt, v.1.0.1, tt), items_read is r.0), tt)))), externals_read es r.1.1)

  -- each token of a file's tree is one of the file's tokens, or stands for its beginning
  pub file_read : {a : List Lexeme} {x : Syn} → DerivesFile a x → AllKnown a → Is file_start → IsFrom x
  file_read (Parses.file es) h i = ((tt, i, tt), externals_read es h)

  mutual
    unfolding IsWritten AreWritten

    pub written_from : (x : Syn) → IsFrom x → IsWritten x
    written_from (node k t xs) h = (h.0.0, h.0.2, all_written_from xs h.1)

    pub all_written_from : (xs : Syns) → AreFrom xs → AreWritten xs
    all_written_from nil h = tt
    all_written_from (more x xs) h = (written_from x h.0, all_written_from xs h.1)

-- names are words, and literals are written as such
pub written : (tokens : List Lexeme) (x : Syn) → DerivesFile tokens x →
    ((k : ℕ) (t : Lexeme) → slice_get tokens k ≡ Some t → IsAccepted t.kind t.text) → IsWritten x
written tokens x d h = written_from (λ t. Unit {0}) x
    (file_read (λ t. Unit {0}) d (all_known (λ t. Unit {0}) tokens (λ k t e. (h k t e, tt))) tt)
