-- What is derived of declarations, statements and files is read; and a file has one tree.
use Rattle.std.proofs.Common.{◌≡◌, ℕ, zero, suc, ◌+◌, ◌≤◌, max, Bool, true, false, List, [], ◌∷◌, ◌++◌, length, Option}
use Rattle.std.proofs.Common.{Some, None, ◌⊎◌, inl, inr, refl, ap, sym, subst, ◌∙◌, arith, append_assoc, append-nil}
use Rattle.std.proofs.Common.{length-append}
use Rattle.std.specs.Prelude.{if◌then◌else◌, ◌&&◌, ◌||◌, not}
use Rattle.std.proofs.lemmas.Bool.{le-leb}
use Rattle.ck_base.specs.Tokens.{Lexeme, is_among}
use Rattle.c_tree.specs.declared.syntax.Symbol.{Symbol}
use Rattle.c_tree.specs.declared.syntax.Symbol.TheVariants as Symbols
use Rattle.c_tree.specs.declared.syntax.NodeKind.TheVariants as Kinds
use Rattle.c_tree.specs.Syntax.{Syn, Syns, node, nil, more, one, three, four, own_token, height, highest}
use Rattle.c_tree.specs.Symbols.{symbol, head_of}
use Rattle.c_tree.specs.Grammar
use Rattle.c_tree.specs.Grammar.{is_word, is_typedef_name, Naming, Plain, Any}
use Rattle.c_tree.specs.Grammar.{Expression, Specifiers, Declarator, Initializer, Derives}
use Rattle.c_tree.specs.Grammar.{Declares, defines_types, names_a_type, names_of_first}
use Rattle.c_tree.specs.Grammar.{added_names, new_types, naming, Initializes, Initialized}
use Rattle.c_tree.specs.Grammar.{Declaration, ends_open, Optional, States, Items, Externals}
use Rattle.c_tree.specs.Parses.{DerivesFile, file}
use Rattle.c_phrases.specs.Reading
use Rattle.c_phrases.specs.Reading.{◌>>=◌, Names, Reader, is_open_parenthesis, is_close_parenthesis}
use Rattle.c_phrases.specs.Reading.{is_open_brace, is_close_brace, is_comma, is_semicolon, is_colon, is_equals, is_else}
use Rattle.c_phrases.specs.Reading.{is_while, starts_with, starts, begins_type, begins_specifier}
use Rattle.c_phrases.specs.Reading.{begins_declarator, read}
use Rattle.c_externals.specs.Statements
use Rattle.c_externals.specs.Statements.{StatementReader}
use Rattle.c_phrases.proofs.Tools.{both_true, behind, then_is, else_is, bind_is}
use Rattle.c_phrases.proofs.Sound.{opened}
use Rattle.c_phrases.proofs.Firsts
use Rattle.c_phrases.proofs.Complete.{Complete, number, bracketed_is, specifiers_are, expects_is, complete}
use Rattle.c_phrases.proofs.Complete.{declarator_begins, filled}
use Rattle.c_externals.proofs.StatementsSound.{naming_is, none_of, array_names}

abbrev pub CompleteDeclarations : StatementReader → ℕ → Type 0
CompleteDeclarations declare h =
    (types : Names) (a : List Lexeme) (x : Syn) (r : List Lexeme) → Declaration types false a x → height x ≤ h →
    declare types (a ++ r) ≡ Some (x, r)

abbrev pub CompleteStatements : StatementReader → ℕ → Type 0
CompleteStatements state h =
    (types : Names) (a : List Lexeme) (x : Syn) (r : List Lexeme) → States types a x → height x ≤ h →
    (ends_open x ≡ true → starts is_else r ≡ false) → state types (a ++ r) ≡ Some (x, r)

-- what goes on with a declaration behind a declarator, or ends it
abbrev pub goes_on_declaration : Symbol → Bool
goes_on_declaration Symbols.Comma = true
goes_on_declaration Symbols.Semicolon = true
goes_on_declaration (Symbols.Assignment None) = true
goes_on_declaration _ = false

on_stops : (s : Symbol) → goes_on_declaration s ≡ true →
    (Firsts.goes_on_declaring s ≡ false) × (is_open_brace s ≡ false)
on_stops Symbols.Comma e = (refl, refl)
on_stops Symbols.Semicolon e = (refl, refl)
on_stops (Symbols.Assignment None) e = (refl, refl)
on_stops _ e = cc

on_stop : (r : List Lexeme) → starts goes_on_declaration r ≡ true → starts Firsts.goes_on_declaring r ≡ false
on_stop [] e = cc
on_stop (t ∷ r) e = (on_stops (symbol t) e).0

-- a comma or a semicolon
abbrev ends_one : Symbol → Bool
ends_one Symbols.Comma = true
ends_one Symbols.Semicolon = true
ends_one _ = false

one_ends : (s : Symbol) → ends_one s ≡ true →
    (is_equals s ≡ false) × (Firsts.pull s ≤ 1) × (goes_on_declaration s ≡ true)
one_ends Symbols.Comma e = (refl, omega arith, refl)
one_ends Symbols.Semicolon e = (refl, omega arith, refl)
one_ends _ e = cc

no_equals : (r : List Lexeme) → starts ends_one r ≡ true → starts is_equals r ≡ false
no_equals [] e = cc
no_equals (t ∷ r) e = (one_ends (symbol t) e).0

low_pull : (r : List Lexeme) → starts ends_one r ≡ true → Firsts.pull_of r ≤ 1
low_pull [] e = cc
low_pull (t ∷ r) e = (one_ends (symbol t) e).1

one_goes_on : (r : List Lexeme) → starts ends_one r ≡ true → starts goes_on_declaration r ≡ true
one_goes_on [] e = cc
one_goes_on (t ∷ r) e = (one_ends (symbol t) e).2

-- behind specifiers stands a declarator, and none of them
pub ends_naming : {types : Names} (f : Bool) (s : Syn) {a : List Lexeme} {x : Syn} →
    Derives types (Declarator (naming f s)) a x → (r : List Lexeme) →
    Firsts.EndsSpecifying types (names_a_type s) (a ++ r)
ends_naming {types} f s d r = by (Firsts.lead (opened d))
  where
    plain : (t : Lexeme) (v n : Bool) → (v ≡ true → n ≡ true) →
        Firsts.is_plain (if v then Any else Plain) types t ≡ true → (n || not (is_typedef_name types t)) ≡ true
    plain t true n k p = ap (λ v. v || not (is_typedef_name types t)) (k refl)
    plain t false true k p = refl
    plain t false false k p = p

    named : (f && (defines_types s && names_a_type s)) ≡ true → names_a_type s ≡ true
    named e = (both_true (defines_types s) (names_a_type s) (both_true f (defines_types s && names_a_type s) e).1).1

    by : {a : List Lexeme} {x : Syn} → Firsts.Leading types (naming f s) true a (one x) →
        Firsts.EndsSpecifying types (names_a_type s) (a ++ r)
    by (Firsts.leading t a e p u) =
        Firsts.ends_at types (names_a_type s) t (a ++ r) e
        (plain t (f && (defines_types s && names_a_type s)) (names_a_type s) named p)

declarator_no_semicolon : (ts : List Lexeme) → starts begins_declarator ts ≡ true → starts is_semicolon ts ≡ false
declarator_no_semicolon [] e = cc
declarator_no_semicolon (t ∷ ts) e = by (symbol t) e
  where
    by : (s : Symbol) → begins_declarator s ≡ true → is_semicolon s ≡ false
    by Symbols.Semicolon e = cc
    by _ e = refl

module _ (rec : Reader) (h : ℕ) (whole : Complete rec h) where
  -- a declarator with its initializer, as it is read
  record OneIs (types : Names) (m : Naming) (defines : Bool) (a : List Lexeme) (x : Syn) (r : List Lexeme) :
      Type 0 where
    d : Syn
    front : List Lexeme
    back : List Lexeme
    split : a ≡ front ++ back
    declared : Derives types (Declarator m) front d
    low : height d ≤ h
    on : starts goes_on_declaration (back ++ r) ≡ true
    reads : Statements.initialize rec h defines d types (back ++ r) ≡ Some (x, r)

  one_is : {types : Names} {m : Naming} {defines : Bool} {a : List Lexeme} {x : Syn} → Initializes types m defines a x →
      height x ≤ h → (r : List Lexeme) → starts ends_one r ≡ true → OneIs types m defines a x r
  unfolding Statements.initialize
  one_is (Grammar.uninitialized a {x} d) low r ends = record {
    d = x;
    front = a;
    back = [];
    split = sym (append-nil a);
    declared = d;
    low = omega arith;
    on = one_goes_on r ends;
    reads = else_is _ (no_equals r ends) ∙ then_is None (le-leb _ _ low);
  }
  one_is {types} {m} {defines} (Grammar.initialized e a b {x} {y} p d i) low r ends = record {
    d = x;
    front = a;
    back = e ∷ b;
    split = refl;
    declared = d;
    low = omega arith;
    on = ap goes_on_declaration p;
    reads = then_is _ (ap is_equals p)
        ∙ bind_is _ (whole Initializer (added_names defines x ++ types) b y r i (omega arith) (low_pull r ends))
        ∙ then_is None (le-leb _ _ low);
  }

  -- a list of such, as it is read behind its first declarator
  pub record ListIs (types : Names) (m : Naming) (defines : Bool) (a : List Lexeme) (xs : Syns) (r : List Lexeme) :
      Type 0 where
    pub d : Syn
    pub front : List Lexeme
    pub back : List Lexeme
    pub split : a ≡ front ++ back
    pub declared : Derives types (Declarator m) front d
    pub low : height d ≤ h
    pub on : starts goes_on_declaration (back ++ r) ≡ true
    pub few : number xs ≤ suc (length back)
    pub reads : (k : ℕ) → number xs ≤ k → Statements.initialized rec h k m defines d types (back ++ r) ≡ Some (xs, r)

  pub list_is : {m : Naming} {defines : Bool} {types : Names} {a : List Lexeme} {xs : Syns} →
      Initialized m defines types a xs → highest xs ≤ h → (c : Lexeme) (r : List Lexeme) →
      symbol c ≡ Symbols.Semicolon → ListIs types m defines a xs (c ∷ r)
  unfolding Statements.initialized
  list_is {m} {defines} {types} (Grammar.last_one a {x} i) low c r e =
      made (one_is i (omega arith) (c ∷ r) (ap ends_one e))
    where
      made : OneIs types m defines a x (c ∷ r) → ListIs types m defines a (one x) (c ∷ r)
      made o = record {
        d = o.d;
        front = o.front;
        back = o.back;
        split = o.split;
        declared = o.declared;
        low = o.low;
        on = o.on;
        few = omega arith;
        reads = go;
      }
        where
          go : (k : ℕ) → number (one x) ≤ k →
              Statements.initialized rec h k m defines o.d types (o.back ++ (c ∷ r)) ≡ Some (one x, c ∷ r)
          go zero few = absurd (omega arith)
          go (suc k) few = bind_is _ o.reads ∙ else_is _ (ap is_comma e)
  list_is {m} {defines} {types} (Grammar.one_more p a b {x} {xs} f i is) low c r e =
      made (one_is i (omega arith) (p ∷ (b ++ (c ∷ r))) (ap ends_one f)) (list_is is (omega arith) c r e)
    where
      made : OneIs types m defines a x (p ∷ (b ++ (c ∷ r))) →
          ListIs (added_names defines x ++ types) m defines b xs (c ∷ r) →
          ListIs types m defines (a ++ (p ∷ b)) (more x xs) (c ∷ r)
      made o l = record {
        d = o.d;
        front = o.front;
        back = o.back ++ (p ∷ b);
        split = ap (λ v. v ++ (p ∷ b)) o.split ∙ append_assoc o.front o.back (p ∷ b);
        declared = o.declared;
        low = o.low;
        on = ap (λ v. starts goes_on_declaration v) (behind o.back b (c ∷ r) p) ∙ o.on;
        few = let u = l.few in let v = length-append o.back (p ∷ b) in
            let w = ap (λ v. length v) l.split ∙ length-append l.front l.back in omega arith;
        reads = go;
      }
        where
          go : (k : ℕ) → number (more x xs) ≤ k →
              Statements.initialized rec h k m defines o.d types ((o.back ++ (p ∷ b)) ++ (c ∷ r))
              ≡ Some (more x xs, c ∷ r)
          go zero few = absurd (omega arith)
          go (suc k) few =
              ap (λ v. Statements.initialized rec h (suc k) m defines o.d types v) (behind o.back b (c ∷ r) p)
              ∙ bind_is _ o.reads ∙ then_is _ (ap is_comma f)
              ∙ bind_is _ (ap (λ v. rec (Declarator m) (added_names defines x ++ types) v)
              (ap (λ v. v ++ (c ∷ r)) l.split ∙ append_assoc l.front l.back (c ∷ r))
              ∙ whole (Declarator m) (added_names defines x ++ types) l.front l.d (l.back ++ (c ∷ r)) l.declared l.low
              (on_stop _ l.on))
              ∙ bind_is _ (l.reads k (omega arith))

  pub declaration_behind_is :
      {types : Names} {m : Naming} {a : List Lexeme} {xs : Syns} (s : Syn) (c : Lexeme) (r : List Lexeme) →
      symbol c ≡ Symbols.Semicolon → (l : ListIs types m (defines_types s) a xs (c ∷ r)) →
      Statements.declaration_behind rec h m s l.d types (l.back ++ (c ∷ r))
      ≡ Some (node Kinds.Declaration (own_token s) (more s xs), r)
  unfolding Statements.declaration_behind
  declaration_behind_is {types} {m} {a} {xs} s c r e l =
      bind_is _ (l.reads (suc (length (l.back ++ (c ∷ r))))
      (let u = l.few in let v = length-append l.back (c ∷ r) in omega arith))
      ∙ expects_is is_semicolon c _ r (λ rest. Some (node Kinds.Declaration (own_token s) (more s xs), rest)) e refl

  only_is : (types : Names) (c : Lexeme) (a : List Lexeme) (s : Syn) (r : List Lexeme) → symbol c ≡ Symbols.Semicolon →
      Derives types Specifiers a s → height s ≤ h →
      Statements.declaration rec h types ((a ++ (c ∷ [])) ++ r) ≡ Some (node Kinds.Declaration (own_token s) (one s), r)
  unfolding Statements.declaration
  only_is types c a s r e d low =
      rw (behind a [] r c) (bind_is _ (specifiers_are types rec h whole d low (c ∷ r)
      (Firsts.ends_quietly types (names_a_type s) (c ∷ r) (ap Firsts.is_quiet e)))
      ∙ then_is _ (ap is_semicolon e))

  full_is : (types : Names) (c : Lexeme) (a b : List Lexeme) (s : Syn) (xs : Syns) (r : List Lexeme) →
      symbol c ≡ Symbols.Semicolon → Derives types Specifiers a s → height s ≤ h →
      ListIs types Plain (defines_types s) b xs (c ∷ r) →
      Statements.declaration rec h types ((a ++ (b ++ (c ∷ []))) ++ r)
      ≡ Some (node Kinds.Declaration (own_token s) (more s xs), r)
  unfolding Statements.declaration
  full_is types c a b s xs r e d low l =
      let tail = l.back ++ (c ∷ r) in
      let parts : (a ++ (b ++ (c ∷ []))) ++ r ≡ a ++ (l.front ++ (l.back ++ (c ∷ r))) =
      append_assoc a (b ++ (c ∷ [])) r
      ∙ ap (λ v. a ++ v) (behind b [] r c ∙ ap (λ v. v ++ (c ∷ r)) l.split ∙ append_assoc l.front l.back (c ∷ r)) in
      ap (λ v. Statements.declaration rec h types v) parts
      ∙ bind_is _ (specifiers_are types rec h whole d low (l.front ++ (l.back ++ (c ∷ r)))
      (ends_naming false s l.declared (l.back ++ (c ∷ r))))
      ∙ else_is _ (declarator_no_semicolon _ (declarator_begins l.declared (l.back ++ (c ∷ r))))
      ∙ bind_is _ (whole (Declarator Plain) types l.front l.d (l.back ++ (c ∷ r)) l.declared l.low (on_stop _ l.on))
      ∙ declaration_behind_is s c r e l

  declaration_is : (types : Names) (a : List Lexeme) (x : Syn) (r : List Lexeme) → Declaration types false a x →
      height x ≤ suc h → Statements.declaration rec h types (a ++ r) ≡ Some (x, r)
  declaration_is types a x r d low = by d low
    where
      by : {a : List Lexeme} {x : Syn} → Declaration types false a x → height x ≤ suc h →
          Statements.declaration rec h types (a ++ r) ≡ Some (x, r)
      by (Grammar.specifiers_only c a {s} e d) low = only_is types c a s r e d (omega arith)
      by (Grammar.declaration c a b {s} {xs} e d is) low =
          full_is types c a b s xs r e d (omega arith) (list_is is (omega arith) c r e)

tall_declaration : {types : Names} {f : Bool} {a : List Lexeme} {x : Syn} → Declaration types f a x → 1 ≤ height x
tall_declaration (Grammar.specifiers_only c a e d) = omega arith
tall_declaration (Grammar.declaration c a b e d is) = omega arith

pub declarations_complete : (h : ℕ) → CompleteDeclarations (Statements.declare h) h
unfolding Statements.declare
declarations_complete zero types a x r d low = let k = tall_declaration d in absurd (omega arith)
declarations_complete (suc h) types a x r d low = declaration_is (read h) h (complete h) types a x r d low

-- Firsts of statements

abbrev is_statement_word : Symbol → Bool
is_statement_word Symbols.OpenBrace = true
is_statement_word Symbols.Semicolon = true
is_statement_word Symbols.If = true
is_statement_word Symbols.Switch = true
is_statement_word Symbols.While = true
is_statement_word Symbols.Do = true
is_statement_word Symbols.For = true
is_statement_word Symbols.Break = true
is_statement_word Symbols.Continue = true
is_statement_word Symbols.Return = true
is_statement_word _ = false

abbrev pub begins_statement : Names → Lexeme → Bool
begins_statement types t = is_statement_word (symbol t) || Firsts.begins_expression types t

stated_by : (types : Names) (t : Lexeme) (s : Symbol) → symbol t ≡ s → is_statement_word s ≡ true →
    begins_statement types t ≡ true
stated_by types t s e f =
    ap (λ v. is_statement_word v || Firsts.begins_expression types t) e
    ∙ ap (λ v. v || Firsts.begins_expression types t) f

or_true : (a b : Bool) → b ≡ true → (a || b) ≡ true
or_true true b e = refl
or_true false b e = e

expression_states : (types : Names) (ts : List Lexeme) → starts_with (Firsts.begins_expression types) ts ≡ true →
    starts_with (begins_statement types) ts ≡ true
expression_states types [] e = cc
expression_states types (t ∷ ts) e = or_true (is_statement_word (symbol t)) _ e

pub first_statement : {types : Names} {a : List Lexeme} {x : Syn} → States types a x → (r : List Lexeme) →
    starts_with (begins_statement types) (a ++ r) ≡ true
first_statement {types} (Grammar.block o c a e f is) r = stated_by types o _ e refl
first_statement {types} (Grammar.empty_statement c e) r = stated_by types c _ e refl
first_statement {types} (Grammar.expression_statement c a e d) r =
    rw (behind a [] r c) (expression_states types (a ++ (c ∷ r)) (Firsts.first d (c ∷ r)))
first_statement {types} (Grammar.if_statement t o c a b e f g d s) r = stated_by types t _ e refl
first_statement {types} (Grammar.if_else t o c l a b d e f g i u s n v) r = stated_by types t _ e refl
first_statement {types} (Grammar.switch t o c p q a b e f g i j d is) r = stated_by types t _ e refl
first_statement {types} (Grammar.while_statement t o c a b e f g d s) r = stated_by types t _ e refl
first_statement {types} (Grammar.do_statement t w o c q a b e f g i j s d) r = stated_by types t _ e refl
first_statement {types} (Grammar.for_statement t o p q c a b d e f g i j k u v w s) r = stated_by types t _ f refl
first_statement {types} (Grammar.for_declaration t o q c a b d e f g i j u v w s) r = stated_by types t _ f refl
first_statement {types} (Grammar.break_statement t c e f) r = stated_by types t _ e refl
first_statement {types} (Grammar.continue_statement t c e f) r = stated_by types t _ e refl
first_statement {types} (Grammar.return_statement t c e f) r = stated_by types t _ e refl
first_statement {types} (Grammar.return_value t c a e f d) r = stated_by types t _ e refl

pub first_declaration : {types : Names} {f : Bool} {a : List Lexeme} {x : Syn} → Declaration types f a x →
    (r : List Lexeme) → starts_with (begins_type types) (a ++ r) ≡ true
first_declaration (Grammar.specifiers_only c a e d) r = rw (behind a [] r c) (Firsts.first_specifiers d (c ∷ r))
first_declaration (Grammar.declaration c a b e d is) r =
    rw (append_assoc a (b ++ (c ∷ [])) r) (Firsts.first_specifiers d ((b ++ (c ∷ [])) ++ r))

-- what begins a statement begins no declaration and no label, and ends nothing
abbrev head_begins : Symbol → Bool → Bool
head_begins s d = Firsts.head_begins (head_of s) (is_word s && d)

statement_token : (s : Symbol) (d : Bool) → (is_statement_word s || head_begins s d) ≡ true →
    (is_close_brace s ≡ false) × ((begins_specifier s || (is_word s && d)) ≡ false) × (is_else s ≡ false)
statement_token Symbols.Word true e = cc
statement_token Symbols.Word false e = (refl, refl, refl)
statement_token Symbols.CloseBrace d e = cc
statement_token Symbols.Else d e = cc
statement_token (Symbols.Specifier w) d e = cc
statement_token (Symbols.Record k) d e = cc
statement_token Symbols.Enum d e = cc
statement_token _ d e = (refl, refl, refl)

type_token : (s : Symbol) (d : Bool) → (begins_specifier s || (is_word s && d)) ≡ true →
    (is_close_brace s ≡ false) × (is_else s ≡ false) × (is_semicolon s ≡ false)
type_token Symbols.CloseBrace d e = cc
type_token Symbols.Else d e = cc
type_token Symbols.Semicolon d e = cc
type_token _ d e = (refl, refl, refl)

module _ (rec : Reader) (declare : StatementReader) (state : StatementReader) (h : ℕ) (whole : Complete rec h)
    (declares : CompleteDeclarations declare h) (states : CompleteStatements state h) where
  condition_is : (types : Names) (o c : Lexeme) (a : List Lexeme) (x : Syn) (r : List Lexeme) →
      symbol o ≡ Symbols.OpenParenthesis → symbol c ≡ Symbols.CloseParenthesis → Derives types (Expression 0) a x →
      height x ≤ h →
      Statements.condition rec declare state types (o ∷ (a ++ (c ∷ r))) ≡ Some (x, r)
  unfolding Statements.condition
  condition_is types o c a x r e f d low =
      expects_is is_open_parenthesis o _ (a ++ (c ∷ r))
      (λ r. Reading.bracketed rec (Expression 0) is_close_parenthesis types r) e refl
      ∙ bracketed_is types rec h whole (Expression 0) is_close_parenthesis _ a c x r d low
      (let k = ap Firsts.pull f in omega arith) f refl

  optional_is : (types : Names) (test : Symbol → Bool) (s : Symbol) (c : Lexeme) (a : List Lexeme) (x : Syn)
      (r : List Lexeme) → symbol c ≡ s → test s ≡ true → Firsts.pull s ≤ 0 →
      ((t : Symbol) → Firsts.is_end t ≡ false → test t ≡ false) →
      Optional types c a x → height x ≤ h →
      Statements.optional rec declare state test types (a ++ (c ∷ r)) ≡ Some (x, r)
  unfolding Statements.optional
  optional_is types test s c a x r e p low_pull off o low = by o low
    where
      nonempty : (ts : List Lexeme) → starts_with (Firsts.begins_expression types) ts ≡ true →
          Statements.optional rec declare state test types ts ≡ Reading.bracketed rec (Expression 0) test types ts
      nonempty [] f = cc
      nonempty (t ∷ ts) f = else_is _ (Firsts.not_end test off (t ∷ ts) (Firsts.expression_no_end types (t ∷ ts) f))

      by : {a : List Lexeme} {x : Syn} → Optional types c a x → height x ≤ h →
          Statements.optional rec declare state test types (a ++ (c ∷ r)) ≡ Some (x, r)
      by Grammar.absent low = then_is _ (ap test e ∙ p)
      by (Grammar.present a {x} d) low =
          nonempty (a ++ (c ∷ r)) (Firsts.first d (c ∷ r))
          ∙ bracketed_is types rec h whole (Expression 0) test s a c x r d low
          (let k = ap Firsts.pull e in omega arith) e p

  for_behind_is : (types : Names) (t q c : Lexeme) (b d e : List Lexeme) (x y z w : Syn) (r : List Lexeme) →
      symbol q ≡ Symbols.Semicolon → symbol c ≡ Symbols.CloseParenthesis →
      Optional types q b y → Optional types c d z → States types e w → height y ≤ h → height z ≤ h → height w ≤ h →
      (ends_open w ≡ true → starts is_else r ≡ false) →
      Statements.for_behind rec declare state t x types (b ++ (q ∷ (d ++ (c ∷ (e ++ r)))))
      ≡ Some (node Kinds.For t (four x y z w), r)
  unfolding Statements.for_behind
  for_behind_is types t q c b d e x y z w r f g u v s low lower lowest shut =
      bind_is _ (optional_is types is_semicolon _ q b y (d ++ (c ∷ (e ++ r))) f refl
      (omega arith) Firsts.no_semicolon u low)
      ∙ bind_is _ (optional_is types is_close_parenthesis _ c d z (e ++ r) g refl
      (omega arith) Firsts.no_close_parenthesis v lower)
      ∙ bind_is _ (states types e w r s lowest shut)

  for_parts : (b d e r : List Lexeme) (q c : Lexeme) →
      (b ++ (q ∷ (d ++ (c ∷ e)))) ++ r ≡ b ++ (q ∷ (d ++ (c ∷ (e ++ r))))
  for_parts b d e r q c = behind b (d ++ (c ∷ e)) r q ∙ ap (λ v. b ++ (q ∷ v)) (behind d e r c)

  optional_no_type : (types : Names) (p : Lexeme) (a : List Lexeme) (x : Syn) (r : List Lexeme) →
      symbol p ≡ Symbols.Semicolon → Optional types p a x → starts_with (begins_type types) (a ++ (p ∷ r)) ≡ false
  optional_no_type types p a x r e o = by o
    where
      by : {a : List Lexeme} {x : Syn} → Optional types p a x → starts_with (begins_type types) (a ++ (p ∷ r)) ≡ false
      by Grammar.absent = ap (λ s. begins_specifier s || (is_word s && is_among types p.text)) e
      by (Grammar.present a d) = Firsts.expression_no_type types (a ++ (p ∷ r)) (Firsts.first d (p ∷ r))

  -- what stands in braces, by its first token
  items_declared : (k : ℕ) (in_switch : Bool) (types : Names) (ts : List Lexeme) →
      starts_with (begins_type types) ts ≡ true →
      Statements.items rec declare state (suc k) in_switch types ts
      ≡ (declare types ts >>= λ a. Statements.items rec declare state k in_switch (new_types a.0 ++ types) a.1
      >>= λ b. let p : Syns × List Lexeme = (more a.0 b.0, b.1) in Some p)
  unfolding Statements.items
  items_declared k in_switch types [] e = cc
  items_declared k in_switch types (t ∷ ts) e =
      else_is _ (type_token (symbol t) (is_among types t.text) e).0 ∙ then_is _ e

  items_stated : (k : ℕ) (in_switch : Bool) (types : Names) (ts : List Lexeme) →
      starts_with (begins_statement types) ts ≡ true →
      Statements.items rec declare state (suc k) in_switch types ts
      ≡ (state types ts >>= λ a. Statements.items rec declare state k in_switch types a.1
      >>= λ b. let p : Syns × List Lexeme = (more a.0 b.0, b.1) in Some p)
  unfolding Statements.items
  items_stated k in_switch types [] e = cc
  items_stated k in_switch types (t ∷ ts) e =
      let f = statement_token (symbol t) (is_among types t.text) e in
      else_is _ f.0 ∙ else_is _ f.1
      ∙ ap (λ v. v >>= λ a. Statements.items rec declare state k in_switch types a.1
      >>= λ b. let p : Syns × List Lexeme = (more a.0 b.0, b.1) in Some p) (by (symbol t) in_switch e)
    where
      by : (s : Symbol) (in_switch : Bool) →
          (is_statement_word s || Firsts.head_begins (head_of s) (is_typedef_name types t)) ≡ true →
          Statements.labelled rec declare state s in_switch t types ts ≡ state types (t ∷ ts)
      by Symbols.Case true e = cc
      by Symbols.Default true e = cc
      by _ in_switch e = refl

  -- and it begins with no `else`
  items_no_else : {in_switch : Bool} {types : Names} {a : List Lexeme} {xs : Syns} → Items in_switch types a xs →
      (c : Lexeme) (r : List Lexeme) → symbol c ≡ Symbols.CloseBrace → starts is_else (a ++ (c ∷ r)) ≡ false
  items_no_else Grammar.no_item c r e = ap is_else e
  items_no_else {types = types} (Grammar.declaration_item a b d is) c r e =
      rw (append_assoc a b (c ∷ r)) (by (a ++ (b ++ (c ∷ r))) (first_declaration d (b ++ (c ∷ r))))
    where
      by : (ts : List Lexeme) → starts_with (begins_type types) ts ≡ true → starts is_else ts ≡ false
      by [] f = cc
      by (t ∷ ts) f = (type_token (symbol t) (is_among types t.text) f).1
  items_no_else {types = types} (Grammar.statement_item a b d is) c r e =
      rw (append_assoc a b (c ∷ r)) (by (a ++ (b ++ (c ∷ r))) (first_statement d (b ++ (c ∷ r))))
    where
      by : (ts : List Lexeme) → starts_with (begins_statement types) ts ≡ true → starts is_else ts ≡ false
      by [] f = cc
      by (t ∷ ts) f = (statement_token (symbol t) (is_among types t.text) f).2
  items_no_else (Grammar.case_item t p a b f g d is) c r e = ap is_else f
  items_no_else (Grammar.default_item t p b f g is) c r e = ap is_else f

  items_number : {in_switch : Bool} {types : Names} {a : List Lexeme} {xs : Syns} → Items in_switch types a xs →
      number xs ≤ length a
  items_number Grammar.no_item = omega arith
  items_number {types = types} (Grammar.declaration_item a b d is) =
      let k = items_number is in let l = length-append a b in
      let m = filled (begins_type types) a (first_declaration d []) in omega arith
  items_number {types = types} (Grammar.statement_item a b d is) =
      let k = items_number is in let l = length-append a b in
      let m = filled (begins_statement types) a (first_statement d []) in omega arith
  items_number (Grammar.case_item t p a b f g d is) =
      let k = items_number is in let l = length-append a (p ∷ b) in omega arith
  items_number (Grammar.default_item t p b f g is) = let k = items_number is in omega arith

  items_are : {in_switch : Bool} {types : Names} {a : List Lexeme} {xs : Syns} → Items in_switch types a xs →
      highest xs ≤ h → (c : Lexeme) (r : List Lexeme) → symbol c ≡ Symbols.CloseBrace → (k : ℕ) → number xs + 1 ≤ k →
      Statements.items rec declare state k in_switch types (a ++ (c ∷ r)) ≡ Some (xs, c ∷ r)
  unfolding Statements.items
  items_are is low c r e zero enough = absurd (omega arith)
  items_are Grammar.no_item low c r e (suc k) enough = then_is _ (ap is_close_brace e)
  items_are {in_switch} {types} (Grammar.declaration_item a b {x} d is) low c r e (suc k) enough =
      rw (append_assoc a b (c ∷ r)) (
      items_declared k in_switch types (a ++ (b ++ (c ∷ r))) (first_declaration d (b ++ (c ∷ r)))
      ∙ bind_is _ (declares types a x (b ++ (c ∷ r)) d (omega arith))
      ∙ bind_is _ (items_are is (omega arith) c r e k (omega arith)))
  items_are {in_switch} {types} (Grammar.statement_item a b {x} d is) low c r e (suc k) enough =
      rw (append_assoc a b (c ∷ r)) (
      items_stated k in_switch types (a ++ (b ++ (c ∷ r))) (first_statement d (b ++ (c ∷ r)))
      ∙ bind_is _ (states types a x (b ++ (c ∷ r)) d (omega arith) (λ o. items_no_else is c r e))
      ∙ bind_is _ (items_are is (omega arith) c r e k (omega arith)))
  items_are {types = types} (Grammar.case_item t p a b {x} {xs} f g d is) low c r e (suc k) enough =
      rw (behind a b (c ∷ r) p) (
      else_is _ (ap is_close_brace f)
      ∙ else_is _ (ap (λ s. begins_specifier s || (is_word s && is_among types t.text)) f)
      ∙ ap (λ s. Statements.labelled rec declare state s true t types (a ++ (p ∷ (b ++ (c ∷ r))))
      >>= λ a. Statements.items rec declare state k true types a.1
      >>= λ b. let q : Syns × List Lexeme = (more a.0 b.0, b.1) in Some q) f
      ∙ bind_is _ (bind_is _ (bracketed_is types rec h whole (Expression 2) is_colon _ a p x (b ++ (c ∷ r)) d
      (omega arith) (let k = ap Firsts.pull g in omega arith) g refl))
      ∙ bind_is _ (items_are is (omega arith) c r e k (omega arith)))
  items_are {types = types} (Grammar.default_item t p b {xs} f g is) low c r e (suc k) enough =
      else_is _ (ap is_close_brace f)
      ∙ else_is _ (ap (λ s. begins_specifier s || (is_word s && is_among types t.text)) f)
      ∙ ap (λ s. Statements.labelled rec declare state s true t types (p ∷ (b ++ (c ∷ r)))
      >>= λ a. Statements.items rec declare state k true types a.1
      >>= λ b. let q : Syns × List Lexeme = (more a.0 b.0, b.1) in Some q) f
      ∙ bind_is _ (expects_is is_colon p _ (b ++ (c ∷ r))
      (λ rest. let q : Syn × List Lexeme = (node Kinds.Default t nil, rest) in Some q) g refl)
      ∙ bind_is _ (items_are is (omega arith) c r e k (omega arith))

  pub braces_are : {in_switch : Bool} {types : Names} {a : List Lexeme} {xs : Syns} → Items in_switch types a xs →
      highest xs ≤ h → (c : Lexeme) (r : List Lexeme) → symbol c ≡ Symbols.CloseBrace →
      Statements.items_in_braces rec declare state in_switch types (a ++ (c ∷ r)) ≡ Some (xs, r)
  unfolding Statements.items_in_braces
  braces_are {a = a} {xs} is low c r e =
      bind_is _ (items_are is low c r e (suc (length (a ++ (c ∷ r))))
      (let k = items_number is in let l = length-append a (c ∷ r) in omega arith))
      ∙ expects_is is_close_brace c _ r (λ rest. Some (xs, rest)) e refl

  statement_by_is : (t : Lexeme) (s : Symbol) (types : Names) (ts : List Lexeme) → symbol t ≡ s →
      Statements.statement rec declare state types (t ∷ ts) ≡ Statements.statement_by rec declare state s t types ts
  unfolding Statements.statement
  statement_by_is t s types ts e = ap (λ s. Statements.statement_by rec declare state s t types ts) e

  expression_by_is : (types : Names) (ts : List Lexeme) → starts_with (Firsts.begins_expression types) ts ≡ true →
      Statements.statement rec declare state types ts ≡ Statements.expression_from rec declare state types ts
  unfolding Statements.statement
  expression_by_is types [] e = cc
  expression_by_is types (t ∷ ts) e = by (symbol t) e
    where
      by : (s : Symbol) → Firsts.head_begins (head_of s) (is_typedef_name types t) ≡ true →
          Statements.statement_by rec declare state s t types ts
          ≡ Statements.expression_from rec declare state types (t ∷ ts)
      by Symbols.OpenBrace e = cc
      by Symbols.Semicolon e = cc
      by Symbols.If e = cc
      by Symbols.Switch e = cc
      by Symbols.While e = cc
      by Symbols.Do e = cc
      by Symbols.For e = cc
      by Symbols.Break e = cc
      by Symbols.Continue e = cc
      by Symbols.Return e = cc
      by _ e = refl

  statement_is : (types : Names) (a : List Lexeme) (x : Syn) (r : List Lexeme) → States types a x → height x ≤ suc h →
      (ends_open x ≡ true → starts is_else r ≡ false) →
      Statements.statement rec declare state types (a ++ r) ≡ Some (x, r)
  unfolding Statements.block_from Statements.if_from Statements.while_from Statements.do_from Statements.for_from
      Statements.switch_from Statements.return_from Statements.jump_from Statements.expression_from
  statement_is types a x r d low shut = by d low shut
    where
      by : {a : List Lexeme} {x : Syn} → States types a x → height x ≤ suc h →
          (ends_open x ≡ true → starts is_else r ≡ false) →
          Statements.statement rec declare state types (a ++ r) ≡ Some (x, r)
      by (Grammar.block o c a e f is) low shut =
          statement_by_is o _ types ((a ++ (c ∷ [])) ++ r) e
          ∙ rw (behind a [] r c) (bind_is _ (braces_are is (omega arith) c r f))
      by (Grammar.empty_statement c e) low shut = statement_by_is c _ types r e
      by (Grammar.expression_statement c a {x} e d) low shut =
          rw (behind a [] r c) (expression_by_is types (a ++ (c ∷ r)) (Firsts.first d (c ∷ r))
          ∙ bind_is _ (bracketed_is types rec h whole (Expression 0) is_semicolon _ a c x r d (omega arith)
          (let k = ap Firsts.pull e in omega arith) e refl))
      by (Grammar.if_statement t o c a b {x} {y} e f g d s) low shut =
          statement_by_is t _ types (o ∷ ((a ++ (c ∷ b)) ++ r)) e ∙ rw (behind a b r c) (
          bind_is _ (condition_is types o c a x (b ++ r) f g d (omega arith))
          ∙ bind_is _ (states types b y r s (omega arith) (λ u. shut refl))
          ∙ else_is _ (shut refl))
      by (Grammar.if_else t o c l a b n {x} {y} {z} e f g i d s u v) low shut =
          statement_by_is t _ types (o ∷ ((a ++ (c ∷ (b ++ (l ∷ n)))) ++ r)) e
          ∙ rw (behind a (b ++ (l ∷ n)) r c, behind b n r l) (
          bind_is _ (condition_is types o c a x (b ++ (l ∷ (n ++ r))) f g d (omega arith))
          ∙ bind_is _ (states types b y (l ∷ (n ++ r)) s (omega arith) (λ w. cc))
          ∙ then_is _ (ap is_else i)
          ∙ bind_is _ (states types n z r v (omega arith) shut))
      by (Grammar.switch t o c p q a b {x} e f g i j d is) low shut =
          statement_by_is t _ types (o ∷ ((a ++ (c ∷ (p ∷ (b ++ (q ∷ []))))) ++ r)) e
          ∙ rw (behind a (p ∷ (b ++ (q ∷ []))) r c, behind b [] r q) (
          bind_is _ (condition_is types o c a x (p ∷ (b ++ (q ∷ r))) f g d (omega arith))
          ∙ bind_is _ (then_is None (ap is_open_brace i))
          ∙ bind_is _ (braces_are is (omega arith) q r j))
      by (Grammar.while_statement t o c a b {x} {y} e f g d s) low shut =
          statement_by_is t _ types (o ∷ ((a ++ (c ∷ b)) ++ r)) e ∙ rw (behind a b r c) (
          bind_is _ (condition_is types o c a x (b ++ r) f g d (omega arith))
          ∙ bind_is _ (states types b y r s (omega arith) shut))
      by (Grammar.do_statement t w o c q a b {x} {y} e f g i j s d) low shut =
          statement_by_is t _ types ((a ++ (w ∷ (o ∷ (b ++ (c ∷ (q ∷ [])))))) ++ r) e
          ∙ rw (behind a (o ∷ (b ++ (c ∷ (q ∷ [])))) r w, behind b (q ∷ []) r c) (
          bind_is _ (states types a x (w ∷ (o ∷ (b ++ (c ∷ (q ∷ r))))) s (omega arith) (λ u. ap is_else f))
          ∙ bind_is _ (then_is None (ap is_while f))
          ∙ bind_is _ (condition_is types o c b y (q ∷ r) g i d (omega arith))
          ∙ bind_is _ (then_is None (ap is_semicolon j)))
      by (Grammar.for_statement t o p q c a b d e {x} {y} {z} {w} f g i j k u v n s) low shut =
          statement_by_is t _ types (o ∷ ((a ++ (p ∷ (b ++ (q ∷ (d ++ (c ∷ e)))))) ++ r)) f
          ∙ rw (behind a (b ++ (q ∷ (d ++ (c ∷ e)))) r p, for_parts b d e r q c) (
          bind_is _ (then_is None (ap is_open_parenthesis g))
          ∙ else_is _ (optional_no_type types p a x (b ++ (q ∷ (d ++ (c ∷ (e ++ r))))) i u)
          ∙ bind_is _ (optional_is types is_semicolon _ p a x (b ++ (q ∷ (d ++ (c ∷ (e ++ r))))) i refl
          (omega arith) Firsts.no_semicolon u (omega arith))
          ∙ for_behind_is types t q c b d e x y z w r j k v n s (omega arith) (omega arith) (omega arith) shut)
      by (Grammar.for_declaration t o q c a b d e {x} {y} {z} {w} f g i j k v n s) low shut =
          statement_by_is t _ types (o ∷ ((a ++ (b ++ (q ∷ (d ++ (c ∷ e))))) ++ r)) f
          ∙ rw (append_assoc a (b ++ (q ∷ (d ++ (c ∷ e)))) r, for_parts b d e r q c) (
          bind_is _ (then_is None (ap is_open_parenthesis g))
          ∙ then_is _ (first_declaration k (b ++ (q ∷ (d ++ (c ∷ (e ++ r))))))
          ∙ bind_is _ (declares types a x (b ++ (q ∷ (d ++ (c ∷ (e ++ r))))) k (omega arith))
          ∙ for_behind_is (new_types x ++ types) t q c b d e x y z w r i j v n s (omega arith) (omega arith)
          (omega arith) shut)
      by (Grammar.break_statement t c e f) low shut =
          statement_by_is t _ types (c ∷ r) e ∙ bind_is _ (then_is None (ap is_semicolon f))
      by (Grammar.continue_statement t c e f) low shut =
          statement_by_is t _ types (c ∷ r) e ∙ bind_is _ (then_is None (ap is_semicolon f))
      by (Grammar.return_statement t c e f) low shut =
          statement_by_is t _ types (c ∷ r) e ∙ then_is _ (ap is_semicolon f)
      by (Grammar.return_value t c a {x} e f d) low shut =
          statement_by_is t _ types ((a ++ (c ∷ [])) ++ r) e ∙ rw (behind a [] r c) (
          else_is _ (Firsts.not_end is_semicolon Firsts.no_semicolon _
          (Firsts.expression_no_end types _ (Firsts.first d (c ∷ r))))
          ∙ bind_is _ (bracketed_is types rec h whole (Expression 0) is_semicolon _ a c x r d (omega arith)
          (let k = ap Firsts.pull f in omega arith) f refl))

tall_statement : {types : Names} {a : List Lexeme} {x : Syn} → States types a x → 1 ≤ height x
tall_statement (Grammar.block o c a e f is) = omega arith
tall_statement (Grammar.empty_statement c e) = omega arith
tall_statement (Grammar.expression_statement c a e d) = omega arith
tall_statement (Grammar.if_statement t o c a b e f g d s) = omega arith
tall_statement (Grammar.if_else t o c l a b d e f g i u s n v) = omega arith
tall_statement (Grammar.switch t o c p q a b e f g i j d is) = omega arith
tall_statement (Grammar.while_statement t o c a b e f g d s) = omega arith
tall_statement (Grammar.do_statement t w o c q a b e f g i j s d) = omega arith
tall_statement (Grammar.for_statement t o p q c a b d e f g i j k u v w s) = omega arith
tall_statement (Grammar.for_declaration t o q c a b d e f g i j u v w s) = omega arith
tall_statement (Grammar.break_statement t c e f) = omega arith
tall_statement (Grammar.continue_statement t c e f) = omega arith
tall_statement (Grammar.return_statement t c e f) = omega arith
tall_statement (Grammar.return_value t c a e f d) = omega arith

pub statements_complete : (h : ℕ) → CompleteStatements (Statements.state h) h
unfolding Statements.state
statements_complete zero types a x r d low shut = let k = tall_statement d in absurd (omega arith)
statements_complete (suc h) types a x r d low shut =
    statement_is (read h) (Statements.declare h) (Statements.state h) h (complete h) (declarations_complete h)
    (statements_complete h) types a x r d low shut

-- External definitions

loosen : {types : Names} {starred : Bool} {a : List Lexeme} {xs : Syns} → Declares types Plain starred a xs →
    Declares types Any starred a xs
loosen (Grammar.empty e) = cc
loosen (Grammar.declared n e) = Grammar.declared n (both_true _ _ e).0
loosen (Grammar.enclosed o c a p q d) = Grammar.enclosed o c a p q (loosen d)
loosen (Grammar.open_array o c a p q d) = Grammar.open_array o c a p q (loosen d)
loosen (Grammar.array o c a b p q d e) = Grammar.array o c a b p q (loosen d) e
loosen (Grammar.function o c a b p q d e) = Grammar.function o c a b p q (loosen d) e
loosen (Grammar.pointer o a b p q d) = Grammar.pointer o a b p q (loosen d)

plain_names : {types : Names} {starred : Bool} {a : List Lexeme} {xs : Syns} → Declares types Plain starred a xs →
    none_of types (names_of_first xs) ≡ true
plain_names (Grammar.empty e) = cc
plain_names {types} (Grammar.declared n e) = by (is_word (symbol n)) (is_among types n.text) e
  where
    by : (w b : Bool) → (w && not (w && b)) ≡ true → not (b || false) ≡ true
    by true true e = cc
    by true false e = refl
    by false b e = cc
plain_names (Grammar.enclosed o c a p q d) = plain_names d
plain_names (Grammar.open_array o c a p q d) = plain_names d
plain_names {types} (Grammar.array o c a b {y = y} p q d e) =
    ap (λ v. none_of types v) (array_names d y) ∙ plain_names d
plain_names {types} (Grammar.function o c a b {ys = ys} p q d e) =
    ap (λ v. none_of types v) (array_names d (node Kinds.Parameters o ys)) ∙ plain_names d
plain_names (Grammar.pointer o a b p q d) = plain_names d

renamed : {types : Names} (f : Bool) (s : Syn) {a : List Lexeme} {x : Syn} → Derives types (Declarator Plain) a x →
    Derives types (Declarator (naming f s)) a x
renamed {types} f s {a} {x} d = by (naming f s) (naming_is f s)
  where
    by : (m : Naming) → (m ≡ Plain) ⊎ (m ≡ Any) → Derives types (Declarator m) a x
    by m (inl e) = subst (λ v. Derives types (Declarator v) a x) (sym e) d
    by m (inr e) = subst (λ v. Derives types (Declarator v) a x) (sym e) (Grammar.declarator a (loosen (opened d)))

block_is : (h : ℕ) (types : Names) (o c : Lexeme) (a : List Lexeme) (ys : Syns) (r : List Lexeme) →
    symbol c ≡ Symbols.CloseBrace → Items false types a ys → highest ys + 1 ≤ h →
    Statements.block h o types (a ++ (c ∷ r)) ≡ Some (node Kinds.Block o ys, r)
unfolding Statements.block Statements.block_from
block_is zero types o c a ys r e is low = absurd (omega arith)
block_is (suc h) types o c a ys r e is low =
    bind_is _ (braces_are (read h) (Statements.declare h) (Statements.state h) h (complete h) (declarations_complete h)
    (statements_complete h) is (omega arith) c r e)

module _ (h : ℕ) where
  behind_declared : (types : Names) (s d : Syn) (ts : List Lexeme) → starts goes_on_declaration ts ≡ true →
      Statements.external_behind h s d types ts ≡ Statements.declaration_behind (read h) h (naming true s) s d types ts
  unfolding Statements.external_behind
  behind_declared types s d [] e = cc
  behind_declared types s d (t ∷ ts) e = else_is _ (on_stops (symbol t) e).1

  only_external : (types : Names) (c : Lexeme) (a : List Lexeme) (s : Syn) (r : List Lexeme) →
      symbol c ≡ Symbols.Semicolon → Derives types Specifiers a s → height s ≤ h →
      Statements.external h types ((a ++ (c ∷ [])) ++ r) ≡ Some (node Kinds.Declaration (own_token s) (one s), r)
  unfolding Statements.external
  only_external types c a s r e d low =
      rw (behind a [] r c) (bind_is _ (specifiers_are types (read h) h (complete h) d low (c ∷ r)
      (Firsts.ends_quietly types (names_a_type s) (c ∷ r) (ap Firsts.is_quiet e)))
      ∙ then_is _ (ap is_semicolon e))

  full_external : (types : Names) (c : Lexeme) (a b : List Lexeme) (s : Syn) (xs : Syns) (r : List Lexeme) →
      symbol c ≡ Symbols.Semicolon → Derives types Specifiers a s → height s ≤ h →
      ListIs (read h) h (complete h) types (naming true s) (defines_types s) b xs (c ∷ r) →
      Statements.external h types ((a ++ (b ++ (c ∷ []))) ++ r)
      ≡ Some (node Kinds.Declaration (own_token s) (more s xs), r)
  unfolding Statements.external
  full_external types c a b s xs r e d low l =
      let parts : (a ++ (b ++ (c ∷ []))) ++ r ≡ a ++ (l.front ++ (l.back ++ (c ∷ r))) =
      append_assoc a (b ++ (c ∷ [])) r
      ∙ ap (λ v. a ++ v) (behind b [] r c ∙ ap (λ v. v ++ (c ∷ r)) l.split ∙ append_assoc l.front l.back (c ∷ r)) in
      ap (λ v. Statements.external h types v) parts
      ∙ bind_is _ (specifiers_are types (read h) h (complete h) d low (l.front ++ (l.back ++ (c ∷ r)))
      (ends_naming true s l.declared (l.back ++ (c ∷ r))))
      ∙ else_is _ (declarator_no_semicolon _ (declarator_begins l.declared (l.back ++ (c ∷ r))))
      ∙ bind_is _ (complete h (Declarator (naming true s)) types l.front l.d (l.back ++ (c ∷ r)) l.declared l.low
      (on_stop _ l.on))
      ∙ behind_declared types s l.d (l.back ++ (c ∷ r)) l.on
      ∙ declaration_behind_is (read h) h (complete h) s c r e l

  declared_external : (types : Names) (a : List Lexeme) (x : Syn) (r : List Lexeme) → Declaration types true a x →
      height x ≤ suc h → Statements.external h types (a ++ r) ≡ Some (x, r)
  declared_external types a x r d low = by d low
    where
      by : {a : List Lexeme} {x : Syn} → Declaration types true a x → height x ≤ suc h →
          Statements.external h types (a ++ r) ≡ Some (x, r)
      by (Grammar.specifiers_only c a {s} e d) low = only_external types c a s r e d (omega arith)
      by (Grammar.declaration c a b {s} {xs} e d is) low =
          full_external types c a b s xs r e d (omega arith) (list_is (read h) h (complete h) is (omega arith) c r e)

  defined_external : (types : Names) (o c : Lexeme) (a b d : List Lexeme) (s x : Syn) (ys : Syns) (r : List Lexeme) →
      symbol o ≡ Symbols.OpenBrace → symbol c ≡ Symbols.CloseBrace → Derives types Specifiers a s →
      Derives types (Declarator Plain) b x → Items false types d ys →
      height s ≤ h → height x ≤ h → highest ys + 1 ≤ h →
      Statements.external h types (a ++ (b ++ (o ∷ (d ++ (c ∷ r)))))
      ≡ Some (node Kinds.FunctionDefinition (own_token s) (three s x (node Kinds.Block o ys)), r)
  unfolding Statements.external Statements.external_behind Statements.definition_from
  defined_external types o c a b d s x ys r e f specified declared is low lower lowest =
      bind_is _ (specifiers_are types (read h) h (complete h) specified low (b ++ (o ∷ (d ++ (c ∷ r))))
      (ends_naming true s (renamed true s declared) (o ∷ (d ++ (c ∷ r)))))
      ∙ else_is _ (declarator_no_semicolon _ (declarator_begins declared (o ∷ (d ++ (c ∷ r)))))
      ∙ bind_is _ (complete h (Declarator (naming true s)) types b x (o ∷ (d ++ (c ∷ r)))
      (renamed true s declared) lower (ap Firsts.goes_on_declaring e))
      ∙ then_is _ (ap is_open_brace e)
      ∙ then_is None (plain_names (opened declared))
      ∙ bind_is _ (block_is h types o c d ys r f is lowest)

  -- what begins with a type is no empty definition
  behind_external : (k : ℕ) (types : Names) (ts : List Lexeme) → starts_with (begins_type types) ts ≡ true →
      Statements.externals h (suc k) types ts ≡ (Statements.external h types ts
      >>= λ a. Statements.externals h k (new_types a.0 ++ types) a.1 >>= λ xs. Some (more a.0 xs))
  unfolding Statements.externals
  behind_external k types [] e = cc
  behind_external k types (t ∷ ts) e = else_is _ (type_token (symbol t) (is_among types t.text) e).2

  externals_number : {types : Names} {a : List Lexeme} {xs : Syns} → Externals types a xs → number xs ≤ length a
  externals_number Grammar.no_external = omega arith
  externals_number (Grammar.empty_external c b e is) = let k = externals_number is in omega arith
  externals_number {types} (Grammar.external_declaration a b d is) =
      let k = externals_number is in let l = length-append a b in
      let m = filled (begins_type types) a (first_declaration d []) in omega arith
  externals_number (Grammar.function_definition o c a b d e p q s x is es) =
      let k = externals_number es in let l = length-append a (b ++ (o ∷ (d ++ (c ∷ e)))) in
      let m = length-append b (o ∷ (d ++ (c ∷ e))) in let n = length-append d (c ∷ e) in omega arith

  externals_are : {types : Names} {a : List Lexeme} {xs : Syns} → Externals types a xs → highest xs ≤ suc h → (k : ℕ) →
      number xs + 1 ≤ k → Statements.externals h k types a ≡ Some xs
  unfolding Statements.externals
  externals_are is low zero enough = absurd (omega arith)
  externals_are Grammar.no_external low (suc k) enough = refl
  externals_are (Grammar.empty_external c b e is) low (suc k) enough =
      then_is _ (ap is_semicolon e) ∙ bind_is _ (externals_are is (omega arith) k (omega arith))
  externals_are {types} (Grammar.external_declaration a b {x} d is) low (suc k) enough =
      behind_external k types (a ++ b) (first_declaration d b)
      ∙ bind_is _ (declared_external types a x b d (omega arith))
      ∙ bind_is _ (externals_are is (omega arith) k (omega arith))
  externals_are {types} (Grammar.function_definition o c a b d e {s} {x} {ys} p q specified declared is es) low
      (suc k) enough =
      behind_external k types (a ++ (b ++ (o ∷ (d ++ (c ∷ e)))))
      (Firsts.first_specifiers specified (b ++ (o ∷ (d ++ (c ∷ e)))))
      ∙ bind_is _ (defined_external types o c a b d s x ys e p q specified declared is (omega arith) (omega arith)
      (omega arith))
      ∙ bind_is _ (externals_are es (omega arith) k (omega arith))

  -- a file that is derived, and is not too high, is read
  pub file_complete : {ts : List Lexeme} {x : Syn} → DerivesFile ts x → height x ≤ suc h →
      Statements.read_file h ts ≡ Some x
  unfolding Statements.read_file
  file_complete {ts} (file is) low =
      bind_is _ (externals_are is (omega arith) (suc (length ts)) (let k = externals_number is in omega arith))

-- A file has at most one tree.
pub one_tree : {ts : List Lexeme} {x y : Syn} → DerivesFile ts x → DerivesFile ts y → x ≡ y
one_tree {ts} {x} {y} d e =
    let h : ℕ = max (height x) (height y) in
    let tree : Option Syn → Syn = elim [ None ↦ x | Some v ↦ v ] in
    ap tree (sym (file_complete h d (omega arith)) ∙ file_complete h e (omega arith))
