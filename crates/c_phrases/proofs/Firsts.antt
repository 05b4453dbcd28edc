-- With which tokens phrases begin, and at which they stop.
use Rattle.std.proofs.Common.{◌≡◌, ℕ, suc, ◌+◌, ◌≤◌, Bool, true, false, List, [], ◌∷◌, ◌++◌, ◌⊎◌, inl, inr, refl, ap}
use Rattle.std.proofs.Common.{sym, ◌∙◌, arith, append_assoc}
use Rattle.std.specs.Prelude.{if◌then◌else◌, nat_le, ◌&&◌, ◌||◌, not, ◌==◌}
use Rattle.std.proofs.lemmas.Bool.{eqb-true}
use Rattle.ck_base.specs.Tokens.{Lexeme, is_among}
use Rattle.ck_int.specs.declared.kinds.IntOp.TheVariants.{Add}
use Rattle.ck_int.specs.declared.kinds.CmpOp.TheVariants.{Lt}
use Rattle.c_tree.specs.declared.syntax.InfixOperator.{InfixOperator}
use Rattle.c_tree.specs.declared.syntax.InfixOperator.TheVariants as Infixes
use Rattle.c_tree.specs.declared.syntax.PrefixOperator.{PrefixOperator}
use Rattle.c_tree.specs.declared.syntax.PrefixOperator.TheVariants as Prefixes
use Rattle.c_tree.specs.declared.syntax.Symbol.{Symbol}
use Rattle.c_tree.specs.declared.syntax.Symbol.TheVariants as Symbols
use Rattle.c_tree.specs.declared.syntax.Head.{Head}
use Rattle.c_tree.specs.declared.syntax.Head.TheVariants as Heads
use Rattle.c_tree.specs.declared.syntax.Tail.{Tail}
use Rattle.c_tree.specs.declared.syntax.Tail.TheVariants as Tails
use Rattle.c_tree.specs.declared.syntax.NodeKind.{NodeKind}
use Rattle.c_tree.specs.declared.syntax.NodeKind.TheVariants as Kinds
use Rattle.c_tree.specs.Syntax.{Syn, Syns, node, nil, more, one}
use Rattle.c_tree.specs.Symbols.{symbol, head_of, tail_of, infix_level, operand_level}
use Rattle.c_tree.specs.Grammar
use Rattle.c_tree.specs.Grammar.{is_word, is_typedef_name, Naming, Plain, Any, Nameless, Either, is_declared_by}
use Rattle.c_tree.specs.Grammar.{may_be_nameless, names_type, has_any, is_agreed}
use Rattle.c_tree.specs.Grammar.{is_typedef_node, count, Goal, Expression}
use Rattle.c_tree.specs.Grammar.{TypeName, Specifiers, Specifier, Member, Enumerator, Qualifier, Declarator, Parameter}
use Rattle.c_tree.specs.Grammar.{Initializer, Derives, Declares, Repeated}
use Rattle.c_phrases.specs.Reading.{Names, is_open_parenthesis, is_close_parenthesis, is_close_bracket, is_open_brace}
use Rattle.c_phrases.specs.Reading.{is_semicolon, is_star, is_text, begins_specifier, begins_declarator}
use Rattle.c_phrases.specs.Reading.{starts_with, starts, begins_type, goes_on_specifying, opens_type, level, goes_on}
use Rattle.c_phrases.proofs.Tools.{both_true, both_false, le_of, shut_le, behind}
use Rattle.c_phrases.proofs.Symbols.{word_is}
use Rattle.c_phrases.proofs.Sound.{infix_low, level_low}

-- Where expressions stop

-- one more than the tightest level at which a token goes on with an expression, or 0
abbrev pub pull_by : Tail → ℕ
pull_by (Tails.Joins p) = suc (infix_level p)
pull_by Tails.Asks = 3
pull_by (Tails.Assigns p) = 2
pull_by Tails.Ends = 0
pull_by _ = 16

-- a string literal goes on with no expression but one
abbrev pub pull : Symbol → ℕ
pull Symbols.Text = 17
pull s = pull_by (tail_of s)

abbrev pub pull_of : List Lexeme → ℕ
pull_of [] = 0
pull_of (t ∷ ts) = pull (symbol t)

-- where declarators stop
abbrev pub goes_on_declaring : Symbol → Bool
goes_on_declaring (Symbols.Specifier w) = true
goes_on_declaring s = begins_declarator s

abbrev pub ends_parameter : Symbol → Bool
ends_parameter Symbols.CloseParenthesis = true
ends_parameter Symbols.Comma = true
ends_parameter _ = false

abbrev pub ends_enumerator : Symbol → Bool
ends_enumerator Symbols.CloseBrace = true
ends_enumerator Symbols.Comma = true
ends_enumerator _ = false

-- what may follow, behind what is read from trees of one lower height
abbrev pub Stops : Goal → List Lexeme → Type 0
Stops (Expression l) r = pull_of r ≤ l
Stops (Declarator m) r = starts goes_on_declaring r ≡ false
Stops Parameter r = starts ends_parameter r ≡ true
Stops Enumerator r = starts ends_enumerator r ≡ true
Stops Initializer r = pull_of r ≤ 1
Stops Member r = Unit {0}
Stops _ r = ⊥

-- The level of the part at the right end, where no bracket closes the tree.
abbrev pub edge_of : NodeKind → ℕ
edge_of (Kinds.Infix p) = suc (infix_level p)
edge_of Kinds.Cast = 13
edge_of (Kinds.Prefix p) = operand_level p
edge_of Kinds.SizeofExpression = 14
edge_of Kinds.Conditional = 2
edge_of (Kinds.Assignment p) = 1
edge_of _ = 16

abbrev pub edge : Syn → ℕ
edge (node k t xs) = edge_of k

-- Tables

prefix_high : (p : PrefixOperator) → 13 ≤ operand_level p
prefix_high (Prefixes.Step s) = omega arith
prefix_high _ = omega arith

-- no operator of two sides has the level 1 or 2
infix_gap : (p : InfixOperator) → infix_level p ≤ 2 → infix_level p ≤ 0
infix_gap (Infixes.Int Add) e = omega arith
infix_gap (Infixes.Compare Lt) e = omega arith
infix_gap _ e = omega arith

-- no token goes on at the levels 13 and 14, and at 15 and 16 only one behind any expression
pull_gap : (s : Symbol) → pull s ≤ 15 → pull s ≤ 13
pull_gap (Symbols.Infix p) e = let k = infix_low p in omega arith
pull_gap Symbols.Text e = omega arith
pull_gap _ e = omega arith

-- one at which an expression goes on is no string literal
pull_is : (s : Symbol) (l m : ℕ) → goes_on (tail_of s) l m ≡ true → pull s ≡ pull_by (tail_of s)
pull_is Symbols.Text l m e = cc
pull_is _ l m e = refl

pub at_least : {types : Names} {l : ℕ} {a : List Lexeme} {x : Syn} → Derives types (Expression l) a x → l ≤ level x
at_least (Grammar.name t p q r) = omega arith
at_least (Grammar.number t p q) = omega arith
at_least (Grammar.character t p q) = omega arith
at_least (Grammar.text t a p q d) = omega arith
at_least (Grammar.parenthesized o c a p q r d) = omega arith
at_least (Grammar.index o c a b p q r d e) = omega arith
at_least (Grammar.call o c a b p q r d e) = omega arith
at_least (Grammar.select o n a p q r d) = omega arith
at_least (Grammar.postfix o a p q d) = omega arith
at_least (Grammar.prefix o a p q d) = omega arith
at_least (Grammar.sizeof_expression o a p q d) = omega arith
at_least (Grammar.sizeof_type o b c a p q r s d) = omega arith
at_least (Grammar.cast o c a b p q r d e) = omega arith
at_least (Grammar.binary o a b p q d e) = omega arith
at_least (Grammar.conditional o m a b c p q r d e f) = omega arith
at_least (Grammar.assignment o a b p q d e) = omega arith

-- how the right end of a tree is tied to its level
data Edges (x : Syn) : Type 0 where
  loose : 1 ≤ level x → level x ≤ 2 → level x ≤ edge x → edge x ≤ 16 → Edges x
  middle : level x ≤ 12 → edge x ≡ suc (level x) → Edges x
  tight : 13 ≤ level x → level x ≤ 14 → 13 ≤ edge x → edge x ≤ 16 → Edges x
  whole : level x ≡ 15 → edge x ≡ 16 → Edges x

prefix_low : (p : PrefixOperator) → operand_level p ≤ 14
prefix_low (Prefixes.Step s) = omega arith
prefix_low _ = omega arith

edges : (x : Syn) → Edges x
edges (node (Kinds.Infix p) t xs) = middle (infix_low p) refl
edges (node (Kinds.Prefix p) t xs) =
    let k = prefix_low p in tight (omega arith) (omega arith) (prefix_high p) (omega arith)
edges (node Kinds.SizeofExpression t xs) = tight (omega arith) (omega arith) (omega arith) (omega arith)
edges (node Kinds.SizeofType t xs) = tight (omega arith) (omega arith) (omega arith) (omega arith)
edges (node Kinds.Cast t xs) = tight (omega arith) (omega arith) (omega arith) (omega arith)
edges (node Kinds.Conditional t xs) = loose (omega arith) (omega arith) (omega arith) (omega arith)
edges (node (Kinds.Assignment p) t xs) = loose (omega arith) (omega arith) (omega arith) (omega arith)
edges (node _ t xs) = whole refl refl

joins_infix : (x : Syn) (p : ℕ) → p ≤ level x → (p ≤ 2 → p ≤ 0) → p ≤ 12 → suc p ≤ edge x
joins_infix x p le gap low =
    elim (edges x) [
      | loose e f g i ↦ (let k = gap (omega arith) in omega arith)
      | middle e f ↦ omega arith
      | tight e f g i ↦ omega arith
      | whole e f ↦ omega arith
    ]

joins_at : (x : Syn) (p k : ℕ) → p ≤ level x → ((p ≡ 3) × (k ≡ 3)) ⊎ (((p ≡ 14) × (k ≡ 2)) ⊎ ((p ≡ 15) × (k ≡ 16))) →
    k ≤ edge x
joins_at x p k le (inl a) =
    elim (edges x) [
      | loose e f g i ↦ omega arith
      | middle e f ↦ omega arith
      | tight e f g i ↦ omega arith
      | whole e f ↦
          omega arith
    ]
joins_at x p k le (inr (inl a)) =
    elim (edges x) [
      | loose e f g i ↦ omega arith
      | middle e f ↦ omega arith
      | tight e f g i ↦ omega arith
      | whole e f ↦
          omega arith
    ]
joins_at x p k le (inr (inr a)) =
    elim (edges x) [
      | loose e f g i ↦ omega arith
      | middle e f ↦ omega arith
      | tight e f g i ↦ omega arith
      | whole e f ↦
          omega arith
    ]

joins_by : (x : Syn) (k : Tail) (l : ℕ) → goes_on k l (level x) ≡ true → pull_by k ≤ edge x
joins_by x (Tails.Joins p) l on =
    joins_infix x (infix_level p) (le_of _ _ (both_true _ _ on).1) (infix_gap p) (infix_low p)
joins_by x Tails.Asks l on = joins_at x 3 3 (le_of _ _ (both_true _ _ on).1) (inl (refl, refl))
joins_by x (Tails.Assigns p) l on = joins_at x 14 2 (le_of _ _ (both_true _ _ on).1) (inr (inl (refl, refl)))
joins_by x Tails.Ends l on = omega arith
joins_by x _ l on = joins_at x 15 16 (le_of _ _ on) (inr (inr (refl, refl)))

-- a token that goes on at x is one at which x's right end stops
pub joins : (x : Syn) (s : Symbol) (l : ℕ) → goes_on (tail_of s) l (level x) ≡ true → pull s ≤ edge x
joins x s l on = let k = joins_by x (tail_of s) l on in let e = pull_is s l (level x) on in omega arith

-- a token at which an expression of level l stops is one at which its right end stops
pub stops_edge : (x : Syn) (s : Symbol) (l : ℕ) → l ≤ level x → pull s ≤ l → pull s ≤ edge x
stops_edge x s l le e =
    let k : pull s ≤ 13 = pull_gap s (let t = level_low x in omega arith) in
    elim (edges x) [
      | loose a b c d ↦ omega arith
      | middle a b ↦ omega arith
      | tight a b c d ↦ omega arith
      | whole a b ↦
          omega arith
    ]

stops_by : (k : Tail) (l m : ℕ) → l ≤ 15 → pull_by k ≤ l → goes_on k l m ≡ false
stops_by (Tails.Joins p) l m le e = ap (λ v. v && nat_le (infix_level p) m) (shut_le l (infix_level p) (omega arith))
stops_by Tails.Asks l m le e = ap (λ v. v && nat_le 3 m) (shut_le l 2 (omega arith))
stops_by (Tails.Assigns p) l m le e = ap (λ v. v && nat_le 14 m) (shut_le l 1 (omega arith))
stops_by Tails.Ends l m le e = refl
stops_by _ l m le e = absurd (omega arith)

pull_tail : (s : Symbol) (l : ℕ) → pull s ≤ l → pull_by (tail_of s) ≤ l
pull_tail Symbols.Text l e = omega arith
pull_tail _ l e = e

pub stops_here : (s : Symbol) (l m : ℕ) → l ≤ 15 → pull s ≤ l → goes_on (tail_of s) l m ≡ false
stops_here s l m le e = stops_by (tail_of s) l m le (pull_tail s l e)

pub no_text : (r : List Lexeme) → pull_of r ≤ 16 → starts is_text r ≡ false
no_text [] e = refl
no_text (t ∷ r) e = by (symbol t) e
  where
    by : (s : Symbol) → pull s ≤ 16 → is_text s ≡ false
    by Symbols.Text e = absurd (omega arith)
    by _ e = refl

-- Firsts of expressions

abbrev pub head_begins : Head → Bool → Bool
head_begins Heads.Name named = not named
head_begins Heads.NoHead named = false
head_begins _ named = true

abbrev pub begins_expression : Names → Lexeme → Bool
begins_expression types t = head_begins (head_of (symbol t)) (is_typedef_name types t)

headed : (types : Names) (t : Lexeme) (k : Head) → head_of (symbol t) ≡ k →
    head_begins k (is_typedef_name types t) ≡ true → begins_expression types t ≡ true
headed types t k e f = ap (λ k. head_begins k (is_typedef_name types t)) e ∙ f

pub first : {types : Names} {l : ℕ} {a : List Lexeme} {x : Syn} → Derives types (Expression l) a x → (r : List Lexeme) →
    starts_with (begins_expression types) (a ++ r) ≡ true
first {types} (Grammar.name t p q e) r = headed types t _ q (ap not e)
first {types} (Grammar.number t p q) r = headed types t _ q refl
first {types} (Grammar.character t p q) r = headed types t _ q refl
first {types} (Grammar.text t a p q d) r = headed types t _ q refl
first {types} (Grammar.parenthesized o c a p q e d) r = headed types o _ q refl
first {types} (Grammar.index o c a b p q e d f) r = rw (behind a (b ++ (c ∷ [])) r o) (first d _)
first {types} (Grammar.call o c a b p q e d f) r = rw (behind a (b ++ (c ∷ [])) r o) (first d _)
first {types} (Grammar.select o n a p q e d) r = rw (behind a (n ∷ []) r o) (first d _)
first {types} (Grammar.postfix o a p q d) r = rw (behind a [] r o) (first d _)
first {types} (Grammar.prefix o a p q d) r = headed types o _ q refl
first {types} (Grammar.sizeof_expression o a p q d) r = headed types o _ q refl
first {types} (Grammar.sizeof_type o b c a p q e f d) r = headed types o _ q refl
first {types} (Grammar.cast o c a b p q e d f) r = headed types o _ q refl
first {types} (Grammar.binary o a b p q d e) r = rw (behind a b r o) (first d _)
first {types} (Grammar.conditional o m a b c p q e d f g) r = rw (behind a (b ++ (m ∷ c)) r o) (first d _)
first {types} (Grammar.assignment o a b p q d e) r = rw (behind a b r o) (first d _)

-- what begins an expression begins no type, no closing bracket and no statement
no_type : (s : Symbol) (d : Bool) → head_begins (head_of s) (is_word s && d) ≡ true →
    (begins_specifier s || (is_word s && d)) ≡ false
no_type Symbols.Word true e = cc
no_type Symbols.Word false e = refl
no_type (Symbols.Specifier w) d e = cc
no_type (Symbols.Record k) d e = cc
no_type Symbols.Enum d e = cc
no_type _ d e = refl

pub expression_no_type : (types : Names) (ts : List Lexeme) → starts_with (begins_expression types) ts ≡ true →
    starts_with (begins_type types) ts ≡ false
expression_no_type types [] e = cc
expression_no_type types (t ∷ ts) e = no_type (symbol t) (is_among types t.text) e

-- a closing bracket or another token that begins no phrase
abbrev pub is_end : Symbol → Bool
is_end Symbols.CloseParenthesis = true
is_end Symbols.CloseBracket = true
is_end Symbols.CloseBrace = true
is_end Symbols.Semicolon = true
is_end Symbols.Else = true
is_end Symbols.OpenBrace = true
is_end _ = false

no_end : (s : Symbol) (d : Bool) → head_begins (head_of s) d ≡ true → is_end s ≡ false
no_end Symbols.Word d e = refl
no_end Symbols.CloseParenthesis d e = cc
no_end Symbols.CloseBracket d e = cc
no_end Symbols.CloseBrace d e = cc
no_end Symbols.Semicolon d e = cc
no_end Symbols.Else d e = cc
no_end Symbols.OpenBrace d e = cc
no_end _ d e = refl

pub expression_no_end : (types : Names) (ts : List Lexeme) → starts_with (begins_expression types) ts ≡ true →
    starts is_end ts ≡ false
expression_no_end types [] e = cc
expression_no_end types (t ∷ ts) e = no_end (symbol t) (is_typedef_name types t) e

-- what no end is, no such bracket is
pub not_end : (test : Symbol → Bool) → ((s : Symbol) → is_end s ≡ false → test s ≡ false) → (ts : List Lexeme) →
    starts is_end ts ≡ false → starts test ts ≡ false
not_end test shut [] e = refl
not_end test shut (t ∷ ts) e = shut (symbol t) e

pub no_close_parenthesis : (s : Symbol) → is_end s ≡ false → is_close_parenthesis s ≡ false
no_close_parenthesis Symbols.CloseParenthesis e = cc
no_close_parenthesis _ e = refl

pub no_close_bracket : (s : Symbol) → is_end s ≡ false → is_close_bracket s ≡ false
no_close_bracket Symbols.CloseBracket e = cc
no_close_bracket _ e = refl

pub no_open_brace : (s : Symbol) → is_end s ≡ false → is_open_brace s ≡ false
no_open_brace Symbols.OpenBrace e = cc
no_open_brace _ e = refl

pub no_semicolon : (s : Symbol) → is_end s ≡ false → is_semicolon s ≡ false
no_semicolon Symbols.Semicolon e = cc
no_semicolon _ e = refl

-- an expression of level 14 is no cast
and_shut : (a b : Bool) → b ≡ false → (a && b) ≡ false
and_shut true b e = e
and_shut false b e = refl

no_opens : (t : Lexeme) (k : Head) → head_of (symbol t) ≡ k → (k ≡ Heads.Opens → ⊥) →
    is_open_parenthesis (symbol t) ≡ false
no_opens t k e other = by (symbol t) (λ f. other (sym e ∙ f))
  where
    by : (s : Symbol) → (head_of s ≡ Heads.Opens → ⊥) → is_open_parenthesis s ≡ false
    by Symbols.OpenParenthesis f = absurd (f refl)
    by _ f = refl

no_bracket : (types : Names) (t : Lexeme) (ts : List Lexeme) → is_open_parenthesis (symbol t) ≡ false →
    opens_type types (t ∷ ts) ≡ false
no_bracket types t ts e = ap (λ v. v && starts_with (begins_type types) ts) e

pub no_cast : {types : Names} {l : ℕ} {a : List Lexeme} {x : Syn} → Derives types (Expression l) a x → 14 ≤ l →
    (r : List Lexeme) → opens_type types (a ++ r) ≡ false
no_cast {types} (Grammar.name t p q e) le r = no_bracket types t _ (no_opens t _ q (λ f. cc))
no_cast {types} (Grammar.number t p q) le r = no_bracket types t _ (no_opens t _ q (λ f. cc))
no_cast {types} (Grammar.character t p q) le r = no_bracket types t _ (no_opens t _ q (λ f. cc))
no_cast {types} (Grammar.text t a p q d) le r = no_bracket types t _ (no_opens t _ q (λ f. cc))
no_cast {types} (Grammar.parenthesized o c a p q e d) le r =
    and_shut (is_open_parenthesis (symbol o)) _
    (rw (behind a [] r c) (expression_no_type types (a ++ (c ∷ r)) (first d (c ∷ r))))
no_cast {types} (Grammar.index o c a b p q e d f) le r = rw (behind a (b ++ (c ∷ [])) r o) (no_cast d (omega arith) _)
no_cast {types} (Grammar.call o c a b p q e d f) le r = rw (behind a (b ++ (c ∷ [])) r o) (no_cast d (omega arith) _)
no_cast {types} (Grammar.select o n a p q e d) le r = rw (behind a (n ∷ []) r o) (no_cast d (omega arith) _)
no_cast {types} (Grammar.postfix o a p q d) le r = rw (behind a [] r o) (no_cast d (omega arith) _)
no_cast {types} (Grammar.prefix o a p q d) le r = no_bracket types o _ (no_opens o _ q (λ f. cc))
no_cast {types} (Grammar.sizeof_expression o a p q d) le r = no_bracket types o _ (no_opens o _ q (λ f. cc))
no_cast {types} (Grammar.sizeof_type o b c a p q e f d) le r =
    no_bracket types o (b ∷ ((a ++ (c ∷ [])) ++ r)) (no_opens o _ q (λ f. cc))
no_cast {types} (Grammar.cast o c a b p q e d f) le r = absurd (omega arith)
no_cast {types} (Grammar.binary {p = p} o a b q e d f) le r = let k = infix_low p in absurd (omega arith)
no_cast {types} (Grammar.conditional o m a b c p q e d f g) le r = absurd (omega arith)
no_cast {types} (Grammar.assignment o a b p q d e) le r = absurd (omega arith)

-- Firsts of the other phrases

pub begins_type_by : (types : Names) (t : Lexeme) (s : Symbol) → symbol t ≡ s → begins_specifier s ≡ true →
    begins_type types t ≡ true
begins_type_by types t s e f =
    ap (λ v. begins_specifier v || is_typedef_name types t) e ∙ ap (λ v. v || is_typedef_name types t) f

or_true : (a b : Bool) → b ≡ true → (a || b) ≡ true
or_true true b e = refl
or_true false b e = e

pub first_specifier : {types : Names} {a : List Lexeme} {x : Syn} → Derives types Specifier a x → (r : List Lexeme) →
    starts_with (begins_type types) (a ++ r) ≡ true
first_specifier {types} (Grammar.specifier_word t e) r = begins_type_by types t _ e refl
first_specifier {types} (Grammar.typedef_name t e) r = or_true (begins_specifier (symbol t)) _ e
first_specifier {types} (Grammar.record_tag t n e f) r = begins_type_by types t _ e refl
first_specifier {types} (Grammar.record_members t o c n a e g p q d) r = begins_type_by types t _ e refl
first_specifier {types} (Grammar.enum_tag t n e f) r = begins_type_by types t _ e refl
first_specifier {types} (Grammar.enum_list t o c n a b e g p q d f) r = begins_type_by types t _ e refl

pub first_specifiers : {types : Names} {a : List Lexeme} {x : Syn} → Derives types Specifiers a x → (r : List Lexeme) →
    starts_with (begins_type types) (a ++ r) ≡ true
first_specifiers {types} (Grammar.specifiers a (Grammar.repeated b c d ds) e) r =
    rw (append_assoc b c r) (first_specifier d (c ++ r))

pub first_type_name : {types : Names} {a : List Lexeme} {x : Syn} → Derives types TypeName a x → (r : List Lexeme) →
    starts_with (begins_type types) (a ++ r) ≡ true
first_type_name (Grammar.type_name a b d e) r = rw (append_assoc a b r) (first_specifiers d (b ++ r))

pub first_parameter : {types : Names} {a : List Lexeme} {x : Syn} → Derives types Parameter a x → (r : List Lexeme) →
    starts_with (begins_type types) (a ++ r) ≡ true
first_parameter (Grammar.parameter a b d e) r = rw (append_assoc a b r) (first_specifiers d (b ++ r))

pub first_member : {types : Names} {a : List Lexeme} {x : Syn} → Derives types Member a x → (r : List Lexeme) →
    starts_with (begins_type types) (a ++ r) ≡ true
first_member (Grammar.member c a b e d f g) r =
    rw (append_assoc a (b ++ (c ∷ [])) r) (first_specifiers d ((b ++ (c ∷ [])) ++ r))

type_no_end : (s : Symbol) (d : Bool) → (begins_specifier s || (is_word s && d)) ≡ true → is_end s ≡ false
type_no_end Symbols.CloseParenthesis d e = cc
type_no_end Symbols.CloseBracket d e = cc
type_no_end Symbols.CloseBrace d e = cc
type_no_end Symbols.Semicolon d e = cc
type_no_end Symbols.Else d e = cc
type_no_end Symbols.OpenBrace d e = cc
type_no_end _ d e = refl

pub types_no_end : (types : Names) (ts : List Lexeme) → starts_with (begins_type types) ts ≡ true →
    starts is_end ts ≡ false
types_no_end types [] e = cc
types_no_end types (t ∷ ts) e = type_no_end (symbol t) (is_among types t.text) e

pub first_enumerator : {types : Names} {a : List Lexeme} {x : Syn} → Derives types Enumerator a x → (r : List Lexeme) →
    starts is_word (a ++ r) ≡ true
first_enumerator (Grammar.enumerator n e) r = (both_true _ _ e).0
first_enumerator (Grammar.enumerator_value n e a f g d) r = (both_true _ _ f).0

-- an initializer begins with a brace or as an expression
abbrev pub begins_initializer : Names → Lexeme → Bool
begins_initializer types t = is_open_brace (symbol t) || begins_expression types t

pub first_initializer : {types : Names} {a : List Lexeme} {x : Syn} → Derives types Initializer a x →
    (r : List Lexeme) → starts_with (begins_initializer types) (a ++ r) ≡ true
first_initializer {types} (Grammar.plain_initializer a d) r = by (a ++ r) (first d r)
  where
    by : (ts : List Lexeme) → starts_with (begins_expression types) ts ≡ true →
        starts_with (begins_initializer types) ts ≡ true
    by [] e = cc
    by (t ∷ ts) e = or_true (is_open_brace (symbol t)) _ e
first_initializer {types} (Grammar.empty_braces o c e f) r = ap (λ s. is_open_brace s || begins_expression types o) e
first_initializer {types} (Grammar.braces o c a e p q d f) r = ap (λ s. is_open_brace s || begins_expression types o) p

-- the end of a list, other than an opening brace
abbrev pub is_close : Symbol → Bool
is_close Symbols.CloseParenthesis = true
is_close Symbols.CloseBrace = true
is_close _ = false

pub end_close : (s : Symbol) → is_end s ≡ false → is_close s ≡ false
end_close Symbols.CloseParenthesis e = cc
end_close Symbols.CloseBrace e = cc
end_close _ e = refl

word_no_close : (s : Symbol) → is_word s ≡ true → is_close s ≡ false
word_no_close Symbols.Word e = refl
word_no_close _ e = cc

pub words_no_close : (ts : List Lexeme) → starts is_word ts ≡ true → starts is_close ts ≡ false
words_no_close [] e = cc
words_no_close (t ∷ ts) e = word_no_close (symbol t) e

initializer_no_close : (s : Symbol) (d : Bool) → (is_open_brace s || head_begins (head_of s) d) ≡ true →
    is_close s ≡ false
initializer_no_close Symbols.CloseParenthesis d e = cc
initializer_no_close Symbols.CloseBrace d e = cc
initializer_no_close _ d e = refl

pub initializers_no_close : (types : Names) (ts : List Lexeme) → starts_with (begins_initializer types) ts ≡ true →
    starts is_close ts ≡ false
initializers_no_close types [] e = cc
initializers_no_close types (t ∷ ts) e = initializer_no_close (symbol t) (is_typedef_name types t) e

pub ends_no_close : (ts : List Lexeme) → starts is_end ts ≡ false → starts is_close ts ≡ false
ends_no_close [] e = refl
ends_no_close (t ∷ ts) e = end_close (symbol t) e

-- Firsts of declarators

-- no typedef name, where none may be declared
abbrev pub is_plain : Naming → Names → Lexeme → Bool
is_plain Any types t = true
is_plain _ types t = not (is_typedef_name types t)

-- A declarator is nothing, or begins with a token that is no specifier.
pub data Leading (types : Names) (m : Naming) (starred : Bool) : List Lexeme → Syns → Type 0 where
  no_token : may_be_nameless m ≡ true → Leading types m starred [] nil
  leading : (t : Lexeme) (a : List Lexeme) {xs : Syns} → begins_declarator (symbol t) ≡ true →
      is_plain m types t ≡ true → (is_star (symbol t) && not starred) ≡ false → Leading types m starred (t ∷ a) xs

plain_by : (m : Naming) (types : Names) (t : Lexeme) (s : Symbol) → symbol t ≡ s → is_word s ≡ false →
    is_plain m types t ≡ true
plain_by Plain types t s e f =
    ap (λ v. not (is_word v && is_among types t.text)) e ∙ ap (λ v. not (v && is_among types t.text)) f
plain_by Any types t s e f = refl
plain_by Nameless types t s e f =
    ap (λ v. not (is_word v && is_among types t.text)) e ∙ ap (λ v. not (v && is_among types t.text)) f
plain_by Either types t s e f =
    ap (λ v. not (is_word v && is_among types t.text)) e ∙ ap (λ v. not (v && is_among types t.text)) f

plain_declared : (m : Naming) (types : Names) (t : Lexeme) → is_declared_by m types t ≡ true → is_plain m types t ≡ true
plain_declared Plain types t e = (both_true _ _ e).1
plain_declared Any types t e = refl
plain_declared Nameless types t e = cc
plain_declared Either types t e = (both_true _ _ e).1

pub declared_word : (m : Naming) (types : Names) (t : Lexeme) → is_declared_by m types t ≡ true →
    is_word (symbol t) ≡ true
declared_word Plain types t e = (both_true _ _ e).0
declared_word Any types t e = e
declared_word Nameless types t e = cc
declared_word Either types t e = (both_true _ _ e).0

-- what stands before a suffix, or the suffix itself
leads : {types : Names} {m : Naming} {starred : Bool} {a : List Lexeme} {xs : Syns} → Leading types m false a xs →
    (o : Lexeme) (b : List Lexeme) (ys : Syns) → begins_declarator (symbol o) ≡ true → is_plain m types o ≡ true →
    is_star (symbol o) ≡ false → Leading types m starred (a ++ (o ∷ b)) ys
leads {types} {m} {starred} (no_token n) o b ys e p s = leading o b e p (ap (λ v. v && not starred) s)
leads {types} {m} {starred} (leading t a e p s) o b ys f q u = leading t (a ++ (o ∷ b)) e p (by (is_star (symbol t)) s)
  where
    by : (v : Bool) → (v && true) ≡ false → (v && not starred) ≡ false
    by true e = cc
    by false e = refl

pub lead : {types : Names} {m : Naming} {starred : Bool} {a : List Lexeme} {xs : Syns} → Declares types m starred a xs →
    Leading types m starred a xs
lead (Grammar.empty e) = no_token e
lead {types} {m} {starred} (Grammar.declared n e) =
    let w = word_is (symbol n) (declared_word m types n e) in
    leading n [] (ap begins_declarator w) (plain_declared m types n e) (ap (λ s. is_star s && not starred) w)
lead {types} {m} {starred} (Grammar.enclosed o c a p q d) =
    leading o (a ++ (c ∷ [])) (ap begins_declarator p) (plain_by m types o _ p refl)
    (ap (λ s. is_star s && not starred) p)
lead {types} {m} (Grammar.open_array o c a p q d) =
    leads (lead d) o (c ∷ []) _ (ap begins_declarator p) (plain_by m types o _ p refl) (ap is_star p)
lead {types} {m} (Grammar.array o c a b p q d e) =
    leads (lead d) o (b ++ (c ∷ [])) _ (ap begins_declarator p) (plain_by m types o _ p refl) (ap is_star p)
lead {types} {m} (Grammar.function o c a b p q d e) =
    leads (lead d) o (b ++ (c ∷ [])) _ (ap begins_declarator p) (plain_by m types o _ p refl) (ap is_star p)
lead {types} {m} (Grammar.pointer o a b p q d) =
    leading o (a ++ b) (ap begins_declarator p) (plain_by m types o _ p refl) (and_shut (is_star (symbol o)) _ refl)

-- a declarator is empty or one tree
pub data Shaped (types : Names) (m : Naming) (starred : Bool) : List Lexeme → Syns → Type 0 where
  bare : may_be_nameless m ≡ true → Shaped types m starred [] nil
  full : {a : List Lexeme} {x : Syn} → Declares types m starred a (one x) → Shaped types m starred a (one x)

pub shaped : {types : Names} {m : Naming} {starred : Bool} {a : List Lexeme} {xs : Syns} →
    Declares types m starred a xs → Shaped types m starred a xs
shaped (Grammar.empty e) = bare e
shaped (Grammar.declared n e) = full (Grammar.declared n e)
shaped (Grammar.enclosed o c a p q d) = full (Grammar.enclosed o c a p q d)
shaped (Grammar.open_array o c a p q d) = full (Grammar.open_array o c a p q d)
shaped (Grammar.array o c a b p q d e) = full (Grammar.array o c a b p q d e)
shaped (Grammar.function o c a b p q d e) = full (Grammar.function o c a b p q d e)
shaped (Grammar.pointer o a b p q d) = full (Grammar.pointer o a b p q d)

-- one with stars in front, or one without
pub data Split (types : Names) (m : Naming) : List Lexeme → Syns → Type 0 where
  unstarred : {a : List Lexeme} {xs : Syns} → Declares types m false a xs → Split types m a xs
  stars : (o : Lexeme) (a b : List Lexeme) {qs xs : Syns} → symbol o ≡ Symbols.Star → Repeated types Qualifier a qs →
      Declares types m true b xs →
      Split types m (o ∷ (a ++ b)) (one (node Kinds.Pointer o (more (node Kinds.Qualifiers o qs) xs)))

pub split : {types : Names} {m : Naming} {a : List Lexeme} {xs : Syns} → Declares types m true a xs → Split types m a xs
split (Grammar.empty e) = unstarred (Grammar.empty e)
split (Grammar.declared n e) = unstarred (Grammar.declared n e)
split (Grammar.enclosed o c a p q d) = unstarred (Grammar.enclosed o c a p q d)
split (Grammar.open_array o c a p q d) = unstarred (Grammar.open_array o c a p q d)
split (Grammar.array o c a b p q d e) = unstarred (Grammar.array o c a b p q d e)
split (Grammar.function o c a b p q d e) = unstarred (Grammar.function o c a b p q d e)
split (Grammar.pointer o a b p q d) = stars o a b p q d

declarator_no_specifier : (s : Symbol) → begins_declarator s ≡ true → begins_specifier s ≡ false
declarator_no_specifier (Symbols.Specifier w) e = cc
declarator_no_specifier (Symbols.Record k) e = cc
declarator_no_specifier Symbols.Enum e = cc
declarator_no_specifier _ e = refl

declarator_no_brace : (s : Symbol) → begins_declarator s ≡ true → is_open_brace s ≡ false
declarator_no_brace Symbols.OpenBrace e = cc
declarator_no_brace _ e = refl

declarator_no_close : (s : Symbol) → begins_declarator s ≡ true → is_close s ≡ false
declarator_no_close Symbols.CloseParenthesis e = cc
declarator_no_close Symbols.CloseBrace e = cc
declarator_no_close _ e = refl

pub declarators_no_close : (ts : List Lexeme) → starts begins_declarator ts ≡ true → starts is_close ts ≡ false
declarators_no_close [] e = cc
declarators_no_close (t ∷ ts) e = declarator_no_close (symbol t) e

-- where specifiers end
pub record EndsSpecifying (types : Names) (named : Bool) (r : List Lexeme) : Type 0 where
  pub off : starts_with (goes_on_specifying types named) r ≡ false
  pub no_brace : starts is_open_brace r ≡ false

-- at a token of a declarator
pub ends_at : (types : Names) (named : Bool) (t : Lexeme) (ts : List Lexeme) → begins_declarator (symbol t) ≡ true →
    (named || not (is_typedef_name types t)) ≡ true → EndsSpecifying types named (t ∷ ts)
ends_at types named t ts e f = record {
  off = ap (λ v. v || (not named && is_typedef_name types t)) (declarator_no_specifier (symbol t) e)
      ∙ by named (is_typedef_name types t) f;
  no_brace = declarator_no_brace (symbol t) e;
}
  where
    by : (n d : Bool) → (n || not d) ≡ true → (not n && d) ≡ false
    by true d f = refl
    by false true f = cc
    by false false f = refl

-- at a token that is no word and begins none
abbrev pub is_quiet : Symbol → Bool
is_quiet Symbols.CloseParenthesis = true
is_quiet Symbols.Comma = true
is_quiet Symbols.Semicolon = true
is_quiet _ = false

quiet_no_specifier : (s : Symbol) (d : Bool) → is_quiet s ≡ true → (begins_specifier s || (is_word s && d)) ≡ false
quiet_no_specifier Symbols.CloseParenthesis d e = refl
quiet_no_specifier Symbols.Comma d e = refl
quiet_no_specifier Symbols.Semicolon d e = refl
quiet_no_specifier _ d e = cc

quiet_no_brace : (s : Symbol) → is_quiet s ≡ true → is_open_brace s ≡ false
quiet_no_brace Symbols.OpenBrace e = cc
quiet_no_brace _ e = refl

pub ends_quietly : (types : Names) (named : Bool) (r : List Lexeme) → starts is_quiet r ≡ true →
    EndsSpecifying types named r
ends_quietly types named [] e = cc
ends_quietly types named (t ∷ ts) e = record {
  off = by (begins_specifier (symbol t)) named (is_typedef_name types t)
      (quiet_no_specifier (symbol t) (is_among types t.text) e);
  no_brace = quiet_no_brace (symbol t) e;
}
  where
    by : (g n d : Bool) → (g || d) ≡ false → (g || (not n && d)) ≡ false
    by true n d f = cc
    by false true d f = refl
    by false false d f = f

quiet_stops : (s : Symbol) → is_quiet s ≡ true → goes_on_declaring s ≡ false
quiet_stops Symbols.CloseParenthesis e = refl
quiet_stops Symbols.Comma e = refl
quiet_stops Symbols.Semicolon e = refl
quiet_stops _ e = cc

pub quiet_stop : (r : List Lexeme) → starts is_quiet r ≡ true → starts goes_on_declaring r ≡ false
quiet_stop [] e = cc
quiet_stop (t ∷ ts) e = quiet_stops (symbol t) e

parameter_quiet : (s : Symbol) → ends_parameter s ≡ true → is_quiet s ≡ true
parameter_quiet Symbols.CloseParenthesis e = refl
parameter_quiet Symbols.Comma e = refl
parameter_quiet _ e = cc

pub parameters_quiet : (r : List Lexeme) → starts ends_parameter r ≡ true → starts is_quiet r ≡ true
parameters_quiet [] e = cc
parameters_quiet (t ∷ ts) e = parameter_quiet (symbol t) e

-- at a declarator that may be nameless, and what follows it
pub ends_before : {types : Names} {m : Naming} {b : List Lexeme} {xs : Syns} → may_be_nameless m ≡ true →
    Declares types m true b xs → (named : Bool) (r : List Lexeme) → starts is_quiet r ≡ true →
    EndsSpecifying types named (b ++ r)
ends_before {types} {m} nameless d named r quiet = by (lead d)
  where
    plain : (m : Naming) (t : Lexeme) → may_be_nameless m ≡ true → is_plain m types t ≡ true →
        not (is_typedef_name types t) ≡ true
    plain Plain t n e = cc
    plain Any t n e = cc
    plain Nameless t n e = e
    plain Either t n e = e

    by : {b : List Lexeme} {xs : Syns} → Leading types m true b xs → EndsSpecifying types named (b ++ r)
    by (no_token e) = ends_quietly types named r quiet
    by (leading t a e p s) = ends_at types named t (a ++ r) e (or_true named _ (plain m t nameless p))

declaring_begins : (s : Symbol) → goes_on_declaring s ≡ false → begins_declarator s ≡ false
declaring_begins (Symbols.Specifier w) e = refl
declaring_begins _ e = e

pub declaring_off : (r : List Lexeme) → starts goes_on_declaring r ≡ false → starts begins_declarator r ≡ false
declaring_off [] e = refl
declaring_off (t ∷ ts) e = declaring_begins (symbol t) e

-- How many typedef names and other types there are among specifiers

abbrev pub fits : Bool → Syns → Bool
fits named nil = true
fits named (more x xs) = not (named && is_typedef_node x) && fits (named || names_type x) xs

typedef_names : (x : Syn) → names_type x ≡ false → is_typedef_node x ≡ false
typedef_names (node Kinds.TypedefName t xs) e = cc
typedef_names (node _ t xs) e = refl

none_named : (xs : Syns) → count names_type xs ≡ 0 → has_any is_typedef_node xs ≡ false
none_named nil e = refl
none_named (more x xs) e = by (names_type x) refl e (none_named xs)
  where
    by : (b : Bool) → names_type x ≡ b → (if b then count names_type xs + 1 else count names_type xs) ≡ 0 →
        (count names_type xs ≡ 0 → has_any is_typedef_node xs ≡ false) →
        (is_typedef_node x || has_any is_typedef_node xs) ≡ false
    by true f e k = absurd (omega arith)
    by false f e k = ap (λ v. v || has_any is_typedef_node xs) (typedef_names x f) ∙ k e

fits_none : (named : Bool) (xs : Syns) → has_any is_typedef_node xs ≡ false → fits named xs ≡ true
fits_none named nil e = refl
fits_none named (more x xs) e =
    let b = both_false _ _ e in
    ap (λ v. not (named && v) && fits (named || names_type x) xs) b.0
    ∙ by named (fits_none (named || names_type x) xs b.1)
  where
    by : (n : Bool) {f : Bool} → f ≡ true → (not (n && false) && f) ≡ true
    by true e = e
    by false e = e

fits_one : (xs : Syns) → count names_type xs ≤ 1 → fits false xs ≡ true
fits_one nil e = refl
fits_one (more x xs) e = by (names_type x) refl e (fits_one xs)
  where
    by : (b : Bool) → names_type x ≡ b → (if b then count names_type xs + 1 else count names_type xs) ≤ 1 →
        (count names_type xs ≤ 1 → fits false xs ≡ true) → fits (names_type x) xs ≡ true
    by true f e k = fits_none (names_type x) xs (none_named xs (omega arith))
    by false f e k = ap (λ v. fits v xs) f ∙ k e

pub fits_agreed : (xs : Syns) → is_agreed xs ≡ true → fits false xs ≡ true
fits_agreed xs e = by (has_any is_typedef_node xs) refl e
  where
    by : (b : Bool) → has_any is_typedef_node xs ≡ b → (not b || count names_type xs == 1) ≡ true → fits false xs ≡ true
    by true f e = fits_one xs (let k = eqb-true (count names_type xs) 1 e in omega arith)
    by false f e = fits_none false xs f
