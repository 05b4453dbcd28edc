-- What the steps of productions come to.
use Rattle.std.proofs.Common.{◌≡◌, ℕ, ◌+◌, ◌≤◌, List, [], ◌∷◌, Option, Some, None, refl, ap, sym, ◌∙◌}
use Rattle.std.proofs.lemmas.Bool.{le-leb}
use Rattle.ck_base.specs.Tokens.{Lexeme}
use Rattle.ck_int.specs.declared.kinds.IntOp.{IntOp}
use Rattle.c_tree.specs.declared.syntax.NodeKind.{NodeKind}
use Rattle.c_tree.specs.declared.syntax.NodeKind.TheVariants as Kinds
use Rattle.c_tree.specs.declared.syntax.InfixOperator.{InfixOperator}
use Rattle.c_tree.specs.declared.syntax.PrefixOperator.{PrefixOperator}
use Rattle.c_tree.specs.Syntax.{Syn, Syns, node, nil, more, one, joined, height}
use Rattle.c_tree.specs.Symbols.{infix_level, operand_level}
use Rattle.c_tree.specs.Grammar.{Expression}
use Rattle.c_phrases.specs.declared.cursor.Mark.{Mark}
use Rattle.c_phrases.specs.declared.cursor.Mark.TheVariants as Marks
use Rattle.c_phrases.specs.declared.steps.Phrase.{Phrase}
use Rattle.c_phrases.specs.declared.steps.Phrase.TheVariants as Phrases
use Rattle.c_phrases.specs.declared.steps.Step.{Step}
use Rattle.c_phrases.specs.declared.steps.Step.TheVariants as Steps
use Rattle.c_phrases.specs.Reading
use Rattle.c_phrases.specs.Reading.{◌>>=◌, Names, Parsed, ParsedParts, Reader, expect, bracketed, listed, type_name}
use Rattle.c_phrases.specs.Got.{is_mark, after}
use Rattle.c_phrases.specs.Steps.{goal_of, alone, follow_from, run, made_by}
use Rattle.c_phrases.specs.Runs.{grown}
use Rattle.c_phrases.proofs.Made.{then_is, bind_is, joined_nil, joined_assoc}
use Rattle.c_phrases.proofs.Tools.{Gives, nothing, gives, bind, also}

pub bind_same : {A B : Type 0} (o : Option A) {f g : A → Option B} → ((x : A) → f x ≡ g x) → (o >>= f) ≡ (o >>= g)
bind_same None e = refl
bind_same (Some x) e = e x

pub bind_bind : {A B C : Type 0} (o : Option A) (f : A → Option B) (g : B → Option C) →
    ((o >>= f) >>= g) ≡ (o >>= λ x. f x >>= g)
bind_bind None f g = refl
bind_bind (Some x) f g = refl

alone_bind : {C : Type 0} (o : Parsed) (k : Syns × List Lexeme → Option C) →
    (alone o >>= k) ≡ (o >>= λ a. k (one a.0, a.1))
alone_bind None k = refl
alone_bind (Some x) k = refl

after_bind : {C : Type 0} (ys : Syns) (o : ParsedParts) (k : Syns × List Lexeme → Option C) →
    (after ys o >>= k) ≡ (o >>= λ a. k (joined ys a.0, a.1))
after_bind ys None k = refl
after_bind ys (Some x) k = refl

pub grown_is : (h : ℕ) {read : Parsed} {x : Syn} {r : List Lexeme} → read ≡ Some (x, r) → height x ≤ h →
    grown h read ≡ Some (x, r)
grown_is h {read} {x} {r} e low = bind_is _ e ∙ then_is None (le-leb (height x) h low)

pub grown_none : (h : ℕ) {read : Parsed} → read ≡ None → grown h read ≡ None
grown_none h e = ap (λ v. grown h v) e

module _ (rec : Reader) (k : NodeKind) (t : Lexeme) (types : Names) where
  by_step : (s : Step) (ss : List Step) (ys : Syns) (ts : List Lexeme) →
      made_by rec k t (s ∷ ss) ys types ts ≡ (follow_from rec s types ts
      >>= λ a. made_by rec k t ss (joined ys a.0) types a.1)
  by_step s ss ys ts =
      bind_bind (after ys (follow_from rec s types ts)) (λ a. run rec ss a.0 types a.1) (λ a. Some (node k t a.0, a.1))
      ∙ after_bind ys (follow_from rec s types ts) (λ a. run rec ss a.0 types a.1 >>= λ a. Some (node k t a.0, a.1))

  pub by_read : (g : Phrase) (ss : List Step) (ys : Syns) (ts : List Lexeme) →
      made_by rec k t (Steps.Read g ∷ ss) ys types ts
      ≡ (rec (goal_of g) types ts >>= λ a. made_by rec k t ss (joined ys (one a.0)) types a.1)
  by_read g ss ys ts = by_step (Steps.Read g) ss ys ts
      ∙ alone_bind (rec (goal_of g) types ts) (λ a. made_by rec k t ss (joined ys a.0) types a.1)

  by_type : (ss : List Step) (ys : Syns) (ts : List Lexeme) →
      made_by rec k t (Steps.TypeName ∷ ss) ys types ts
      ≡ (type_name rec types ts >>= λ a. made_by rec k t ss (joined ys (one a.0)) types a.1)
  by_type ss ys ts = by_step Steps.TypeName ss ys ts
      ∙ alone_bind (type_name rec types ts) (λ a. made_by rec k t ss (joined ys a.0) types a.1)

  by_expect : (m : Mark) (ss : List Step) (ys : Syns) (ts : List Lexeme) →
      made_by rec k t (Steps.Expect m ∷ ss) ys types ts
      ≡ (expect (is_mark m) ts >>= λ rest. made_by rec k t ss (joined ys nil) types rest)
  by_expect m ss ys ts = by_step (Steps.Expect m) ss ys ts
      ∙ bind_bind (expect (is_mark m) ts) (λ rest. Some (nil, rest)) (λ a. made_by rec k t ss (joined ys a.0) types a.1)

  by_bracketed : (g : Phrase) (m : Mark) (ss : List Step) (ys : Syns) (ts : List Lexeme) →
      made_by rec k t (Steps.Read g ∷ (Steps.Expect m ∷ ss)) ys types ts
      ≡ (bracketed rec (goal_of g) (is_mark m) types ts
      >>= λ a. made_by rec k t ss (joined (joined ys (one a.0)) nil) types a.1)
  by_bracketed g m ss ys ts =
      by_read g (Steps.Expect m ∷ ss) ys ts
      ∙ bind_same (rec (goal_of g) types ts) (λ a. by_expect m ss (joined ys (one a.0)) a.1
      ∙ sym (bind_bind (expect (is_mark m) a.1) (λ rest. Some (a.0, rest))
      (λ b. made_by rec k t ss (joined (joined ys (one b.0)) nil) types b.1)))
      ∙ sym (bind_bind (rec (goal_of g) types ts) (λ a. expect (is_mark m) a.1 >>= λ rest. Some (a.0, rest))
      (λ b. made_by rec k t ss (joined (joined ys (one b.0)) nil) types b.1))

-- Each production, as its steps

module _ (rec : Reader) (h : ℕ) (o : Lexeme) (types : Names) (ts : List Lexeme) where
  pub parenthesized_is : Reading.in_parentheses rec h o types ts
      ≡ made_by rec Kinds.Parenthesized o (Steps.Read (Phrases.Expression 0)
      ∷ (Steps.Expect Marks.CloseParenthesis ∷ [])) nil types ts
  unfolding Reading.in_parentheses
  parenthesized_is = sym (by_bracketed rec Kinds.Parenthesized o types (Phrases.Expression 0) Marks.CloseParenthesis
      [] nil ts)

  pub cast_is : Reading.cast_from rec h o types ts
      ≡ made_by rec Kinds.Cast o (Steps.TypeName
      ∷ (Steps.Expect Marks.CloseParenthesis ∷ (Steps.Read (Phrases.Expression 13) ∷ []))) nil types ts
  unfolding Reading.cast_from
  cast_is = sym (by_type rec Kinds.Cast o types
      (Steps.Expect Marks.CloseParenthesis ∷ (Steps.Read (Phrases.Expression 13) ∷ [])) nil ts
      ∙ bind_same (type_name rec types ts) (λ a.
      by_expect rec Kinds.Cast o types Marks.CloseParenthesis (Steps.Read (Phrases.Expression 13) ∷ [])
      (one a.0) a.1
      ∙ bind_same (expect (is_mark Marks.CloseParenthesis) a.1)
      (λ r. by_read rec Kinds.Cast o types (Phrases.Expression 13) [] (one a.0) r)))

  pub prefix_is : (p : PrefixOperator) (l : ℕ) → l ≡ operand_level p →
      Reading.prefix_from rec h p o types ts ≡ made_by rec (Kinds.Prefix p) o
      (Steps.Read (Phrases.Expression l) ∷ []) nil types ts
  unfolding Reading.prefix_from
  prefix_is p l e = ap (λ v. rec (Expression v) types ts >>= λ a. Some (node (Kinds.Prefix p) o (one a.0), a.1)) (sym e)
      ∙ sym (by_read rec (Kinds.Prefix p) o types (Phrases.Expression l) [] nil ts)

  pub size_is : Reading.size_from rec h o types ts
      ≡ made_by rec Kinds.SizeofType o (Steps.TypeName ∷ (Steps.Expect Marks.CloseParenthesis ∷ [])) nil types ts
  unfolding Reading.size_from
  size_is = sym (by_type rec Kinds.SizeofType o types (Steps.Expect Marks.CloseParenthesis ∷ []) nil ts
      ∙ bind_same (type_name rec types ts) (λ a.
      by_expect rec Kinds.SizeofType o types Marks.CloseParenthesis [] (one a.0) a.1))

  pub measured_is : (rec (Expression 14) types ts >>= λ a. Some (node Kinds.SizeofExpression o (one a.0), a.1))
      ≡ made_by rec Kinds.SizeofExpression o (Steps.Read (Phrases.Expression 14) ∷ []) nil types ts
  measured_is = sym (by_read rec Kinds.SizeofExpression o types (Phrases.Expression 14) [] nil ts)

-- Those that go on with a tree, which may be too high then

grown_bind : {A : Type 0} (h : ℕ) (o : Option A) (f : A → Parsed) → grown h (o >>= f) ≡ (o >>= λ a. grown h (f a))
grown_bind h None f = refl
grown_bind h (Some x) f = refl

module _ (rec : Reader) (h : ℕ) (x : Syn) (o : Lexeme) (types : Names) (ts : List Lexeme) where
  pub index_is : Reading.index_from rec h x o types ts
      ≡ grown h (made_by rec Kinds.Index o (Steps.Read (Phrases.Expression 0) ∷ (Steps.Expect Marks.CloseBracket ∷ []))
      (one x) types ts)
  unfolding Reading.index_from
  index_is = sym (ap (λ v. grown h v) (by_bracketed rec Kinds.Index o types (Phrases.Expression 0) Marks.CloseBracket []
      (one x) ts)
      ∙ grown_bind h (bracketed rec (Expression 0) (is_mark Marks.CloseBracket) types ts)
      (λ a. Some (node Kinds.Index o (more x (more a.0 nil)), a.1)))

  pub infix_is : (p : InfixOperator) (l : ℕ) → l ≡ infix_level p + 1 →
      Reading.infix_from rec h p x o types ts ≡ grown h
      (made_by rec (Kinds.Infix p) o (Steps.Read (Phrases.Expression l) ∷ []) (one x) types ts)
  unfolding Reading.infix_from
  infix_is p l e = ap (λ v. rec (Expression v) types ts
      >>= λ b. Reading.grow rec h (node (Kinds.Infix p) o (more x (more b.0 nil))) b.1) (sym e)
      ∙ sym (ap (λ v. grown h v) (by_read rec (Kinds.Infix p) o types (Phrases.Expression l) [] (one x) ts)
      ∙ grown_bind h (rec (Expression l) types ts) (λ a. Some (node (Kinds.Infix p) o (more x (more a.0 nil)), a.1)))

  pub assign_is : (p : Option IntOp) →
      Reading.assign_from rec h p x o types ts
      ≡ grown h (made_by rec (Kinds.Assignment p) o (Steps.Read (Phrases.Expression 1) ∷ []) (one x) types ts)
  unfolding Reading.assign_from
  assign_is p = sym (ap (λ v. grown h v) (by_read rec (Kinds.Assignment p) o types (Phrases.Expression 1) [] (one x) ts)
      ∙ grown_bind h (rec (Expression 1) types ts)
      (λ a. Some (node (Kinds.Assignment p) o (more x (more a.0 nil)), a.1)))

  pub choice_is : Reading.choice_from rec h x o types ts
      ≡ grown h (made_by rec Kinds.Conditional o
      (Steps.Read (Phrases.Expression 0) ∷ (Steps.Expect Marks.Colon ∷ (Steps.Read (Phrases.Expression 2) ∷ [])))
      (one x) types ts)
  unfolding Reading.choice_from
  choice_is = sym (ap (λ v. grown h v) (by_bracketed rec Kinds.Conditional o types (Phrases.Expression 0) Marks.Colon
      (Steps.Read (Phrases.Expression 2) ∷ []) (one x) ts)
      ∙ grown_bind h (bracketed rec (Expression 0) (is_mark Marks.Colon) types ts)
      (λ a. made_by rec Kinds.Conditional o (Steps.Read (Phrases.Expression 2) ∷ [])
      (more x (more a.0 nil)) types a.1)
      ∙ bind_same (bracketed rec (Expression 0) (is_mark Marks.Colon) types ts)
      (λ a. ap (λ v. grown h v) (by_read rec Kinds.Conditional o types (Phrases.Expression 2) []
      (more x (more a.0 nil)) a.1)
      ∙ grown_bind h (rec (Expression 2) types a.1)
      (λ b. Some (node Kinds.Conditional o (more x (more a.0 (more b.0 nil))), b.1))))

  pub call_is : Reading.call_from rec h x o types ts
      ≡ grown h (made_by rec Kinds.Call o (Steps.Listed (Phrases.Expression 1)
      ∷ (Steps.Expect Marks.CloseParenthesis ∷ [])) (one x) types ts)
  unfolding Reading.call_from
  call_is = sym (ap (λ v. grown h v) (by_step rec Kinds.Call o types (Steps.Listed (Phrases.Expression 1))
      (Steps.Expect Marks.CloseParenthesis ∷ []) (one x) ts)
      ∙ grown_bind h (listed rec (Expression 1) types ts)
      (λ a. made_by rec Kinds.Call o (Steps.Expect Marks.CloseParenthesis ∷ []) (more x a.0) types a.1)
      ∙ bind_same (listed rec (Expression 1) types ts)
      (λ a. ap (λ v. grown h v) (by_expect rec Kinds.Call o types Marks.CloseParenthesis [] (more x a.0) a.1)
      ∙ grown_bind h (expect (is_mark Marks.CloseParenthesis) a.1)
      (λ r. Some (node Kinds.Call o (joined (more x a.0) nil), r))
      ∙ bind_same (expect (is_mark Marks.CloseParenthesis) a.1)
      (λ r. ap (λ v. grown h (Some (node Kinds.Call o (more x v), r))) (joined_nil a.0))))

-- What stood before the steps stands before what they read

after_begins : (ys : Syns) (o : ParsedParts) → Gives (λ p. (ws : Syns) × (p.0 ≡ joined ys ws)) (after ys o)
after_begins ys None = nothing
after_begins ys (Some a) = gives (a.0, refl)

pub run_begins : (rec : Reader) (ss : List Step) (ys : Syns) (types : Names) (ts : List Lexeme) →
    Gives (λ p. (ws : Syns) × (p.0 ≡ joined ys ws)) (run rec ss ys types ts)
run_begins rec [] ys types ts = gives (nil, sym (joined_nil ys))
run_begins rec (s ∷ ss) ys types ts =
    bind (λ a. run rec ss a.0 types a.1) (after_begins ys (follow_from rec s types ts))
    (λ a f. also (run_begins rec ss a.0 types a.1)
    (λ p g. (joined f.0 g.0, g.1 ∙ ap (λ v. joined v g.0) f.1 ∙ joined_assoc ys f.0 g.0)))
