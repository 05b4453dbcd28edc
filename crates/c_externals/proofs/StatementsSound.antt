-- What is read of declarations, statements and files is derived, and not too high.
use Rattle.std.proofs.Common.{◌≡◌, ℕ, zero, suc, ◌≤◌, Bool, true, false, List, [], ◌∷◌, ◌++◌, length, None, ◌⊎◌, inl}
use Rattle.std.proofs.Common.{inr, refl, ap, sym, subst, ◌∙◌, arith, append_assoc}
use Rattle.std.specs.Prelude.{if◌then◌else◌, nat_le, ◌&&◌, ◌||◌, not}
use Rattle.std.specs.List.{list_any}
use Rattle.ck_base.specs.Tokens.{Lexeme, is_among}
use Rattle.c_tree.specs.declared.syntax.Symbol.{Symbol}
use Rattle.c_tree.specs.declared.syntax.Symbol.TheVariants as Symbols
use Rattle.c_tree.specs.declared.syntax.NodeKind.TheVariants as Kinds
use Rattle.c_tree.specs.Syntax.{Syn, Syns, node, nil, more, one, two, three, four, then_one, own_token, first_token}
use Rattle.c_tree.specs.Syntax.{height, highest}
use Rattle.c_tree.specs.Symbols.{symbol}
use Rattle.c_tree.specs.Grammar
use Rattle.c_tree.specs.Grammar.{predeclared, is_word, Naming, Plain, Any}
use Rattle.c_tree.specs.Grammar.{Expression, Specifiers, Declarator, Initializer, Derives}
use Rattle.c_tree.specs.Grammar.{Declares, defines_types, names_a_type, names_of_first}
use Rattle.c_tree.specs.Grammar.{names_unless_last, added_names, new_types, naming, Initializes, Initialized}
use Rattle.c_tree.specs.Grammar.{Declaration, ends_open, Optional, States, Items, Externals}
use Rattle.c_tree.specs.Parses.{DerivesFile, file}
use Rattle.c_phrases.specs.Reading.{Names, Reader, is_open_parenthesis, is_close_parenthesis, is_open_brace}
use Rattle.c_phrases.specs.Reading.{is_close_brace, is_comma, is_semicolon, is_colon, is_equals, is_else, is_while}
use Rattle.c_phrases.specs.Reading.{starts_with, starts, past, begins_type, read}
use Rattle.c_externals.specs.Statements
use Rattle.c_externals.specs.Statements.{StatementReader, are_plain}
use Rattle.c_phrases.proofs.Tools.{Gives, nothing, gives, bind, guard, choose, also, le_of, expects, behind}
use Rattle.c_phrases.proofs.Symbols.{close_parenthesis_is, close_brace_is, open_parenthesis_is, open_brace_is, comma_is}
use Rattle.c_phrases.proofs.Symbols.{semicolon_is, colon_is, equals_is, else_is, while_is}
use Rattle.c_phrases.proofs.Sound.{ReadsParts, Sound, begins_with, Specifies, bracketed_reads, specifiers_read, opened}
use Rattle.c_phrases.proofs.Sound.{sound}
use Rattle.c_phrases.proofs.Firsts

-- one tree that D tells of was read from ts
pub record ReadsOne (D : List Lexeme → Syn → Type 0) (h : ℕ) (ts : List Lexeme) (x : Syn) (rest : List Lexeme) :
    Type 0 where
  pub front : List Lexeme
  pub split : ts ≡ front ++ rest
  pub derives : D front x
  pub low : height x ≤ h

-- a statement, behind which no `else` stands that would belong to it
pub record ReadsStatement (types : Names) (h : ℕ) (ts : List Lexeme) (x : Syn) (rest : List Lexeme) : Type 0 where
  pub front : List Lexeme
  pub split : ts ≡ front ++ rest
  pub derives : States types front x
  pub low : height x ≤ h
  pub shut : ends_open x ≡ true → starts is_else rest ≡ false

abbrev pub SoundDeclarations : StatementReader → ℕ → Type 0
SoundDeclarations declare h =
    (types : Names) (ts : List Lexeme) → Gives (λ p. ReadsOne (Declaration types false) h ts p.0 p.1) (declare types ts)

abbrev pub SoundStatements : StatementReader → ℕ → Type 0
SoundStatements state h =
    (types : Names) (ts : List Lexeme) → Gives (λ p. ReadsStatement types h ts p.0 p.1) (state types ts)

module _ (rec : Reader) (h : ℕ) (sound : Sound rec h) where
  initialize_reads : (m : Naming) (defines : Bool) (types : Names) (d : Syn) (a ts : List Lexeme) →
      Derives types (Declarator m) a d →
      Gives (λ p. ReadsOne (Initializes types m defines) h (a ++ ts) p.0 p.1)
      (Statements.initialize rec h defines d types ts)
  unfolding Statements.initialize
  initialize_reads m defines types d a ts t =
      choose (starts is_equals ts)
      (λ on. let e = begins_with is_equals (Symbols.Assignment None) equals_is ts on in
      bind _ (sound Initializer (added_names defines d ++ types) (past ts)) (λ i inner.
      guard (nat_le (height (node Kinds.InitDeclarator (first_token d) (two d i.0))) h) (λ low. gives (record {
        front = a ++ (e.token ∷ inner.front);
        split = ap (λ v. a ++ v) (e.split ∙ ap (λ v. e.token ∷ v) inner.split) ∙ sym (behind a inner.front i.1 e.token);
        derives = Grammar.initialized e.token a inner.front e.symbol_is t inner.derives;
        low = le_of _ _ low;
      }))))
      (λ off. guard (nat_le (height (node Kinds.InitDeclarator (first_token d) (one d))) h)
      (λ low. gives (record {
        front = a;
        split = refl;
        derives = Grammar.uninitialized a t;
        low = le_of _ _ low;
      })))

  initialized_reads : (k : ℕ) (m : Naming) (defines : Bool) (types : Names) (d : Syn) (a ts : List Lexeme) →
      Derives types (Declarator m) a d →
      Gives (λ p. ReadsParts (Initialized m defines types) h (a ++ ts) p.0 p.1)
      (Statements.initialized rec h k m defines d types ts)
  unfolding Statements.initialized
  initialized_reads zero m defines types d a ts t = nothing
  initialized_reads (suc k) m defines types d a ts t =
      bind _ (initialize_reads m defines types d a ts t) (λ i inner.
      choose (starts is_comma i.1)
      (λ on. let c = begins_with is_comma Symbols.Comma comma_is i.1 on in
      bind _ (sound (Declarator m) (added_names defines i.0 ++ types) (past i.1)) (λ e next.
      bind _ (initialized_reads k m defines (added_names defines i.0 ++ types) e.0 next.front e.1 next.derives)
      (λ b others. gives (record {
        front = inner.front ++ (c.token ∷ others.front);
        split = inner.split ∙ ap (λ v. inner.front ++ v) (c.split ∙ ap (λ v. c.token ∷ v) (next.split ∙ others.split))
            ∙ sym (behind inner.front others.front b.1 c.token);
        derives = Grammar.one_more c.token inner.front others.front c.symbol_is inner.derives others.derives;
        low = let k = inner.low in let l = others.low in omega arith;
      }))))
      (λ off. gives (record {
        front = inner.front;
        split = inner.split;
        derives = Grammar.last_one inner.front inner.derives;
        low = let k = inner.low in omega arith;
      })))

  pub declaration_behind_reads : (f : Bool) (types : Names) (s d : Syn) (b a ts : List Lexeme) →
      Derives types Specifiers b s → height s ≤ h → Derives types (Declarator (naming f s)) a d →
      Gives (λ p. ReadsOne (Declaration types f) (suc h) (b ++ (a ++ ts)) p.0 p.1)
      (Statements.declaration_behind rec h (naming f s) s d types ts)
  unfolding Statements.declaration_behind
  declaration_behind_reads f types s d b a ts specified low t =
      bind _ (initialized_reads (suc (length ts)) (naming f s) (defines_types s) types d a ts t) (λ i inner.
      bind _ (expects is_semicolon Symbols.Semicolon semicolon_is i.1) (λ rest end. gives (record {
        front = b ++ (inner.front ++ (end.0 ∷ []));
        split = ap (λ v. b ++ v) (inner.split ∙ ap (λ v. inner.front ++ v) end.2
            ∙ sym (behind inner.front [] rest end.0)) ∙ sym (append_assoc b (inner.front ++ (end.0 ∷ [])) rest);
        derives = Grammar.declaration end.0 b inner.front end.1 specified inner.derives;
        low = let k = inner.low in omega arith;
      })))

  pub specifiers_only_reads : (f : Bool) (types : Names) (ts : List Lexeme) (s : Syn) (rest : List Lexeme) →
      Specifies types h ts s rest → starts is_semicolon rest ≡ true →
      ReadsOne (Declaration types f) (suc h) ts (node Kinds.Declaration (own_token s) (one s)) (past rest)
  specifiers_only_reads f types ts s rest first on =
      let c = begins_with is_semicolon Symbols.Semicolon semicolon_is rest on in
      record {
        front = first.reads.front ++ (c.token ∷ []);
        split = first.reads.split ∙ ap (λ v. first.reads.front ++ v) c.split
            ∙ sym (behind first.reads.front [] (past rest) c.token);
        derives = Grammar.specifiers_only c.token first.reads.front c.symbol_is first.reads.derives;
        low = let k = first.reads.low in omega arith;
      }

  declaration_reads : (types : Names) (ts : List Lexeme) →
      Gives (λ p. ReadsOne (Declaration types false) (suc h) ts p.0 p.1) (Statements.declaration rec h types ts)
  unfolding Statements.declaration
  declaration_reads types ts =
      bind _ (specifiers_read rec h sound types ts) (λ s first.
      choose (starts is_semicolon s.1)
      (λ on. gives (specifiers_only_reads false types ts s.0 s.1 first on))
      (λ off. bind _ (sound (Declarator Plain) types s.1) (λ d inner.
      subst (λ w. Gives (λ p. ReadsOne (Declaration types false) (suc h) w p.0 p.1)
      (Statements.declaration_behind rec h Plain s.0 d.0 types d.1))
      (sym (first.reads.split ∙ ap (λ v. first.reads.front ++ v) inner.split))
      (declaration_behind_reads false types s.0 d.0 first.reads.front inner.front d.1 first.reads.derives
      first.reads.low inner.derives))))

pub declarations_sound : (h : ℕ) → SoundDeclarations (Statements.declare h) h
unfolding Statements.declare
declarations_sound zero types ts = nothing
declarations_sound (suc h) types ts = declaration_reads (read h) h (sound h) types ts

-- an expression in parentheses
record Conditions (types : Names) (h : ℕ) (ts : List Lexeme) (x : Syn) (rest : List Lexeme) : Type 0 where
  open_token : Lexeme
  close_token : Lexeme
  front : List Lexeme
  opens : symbol open_token ≡ Symbols.OpenParenthesis
  closes : symbol close_token ≡ Symbols.CloseParenthesis
  split : ts ≡ open_token ∷ (front ++ (close_token ∷ rest))
  derives : Derives types (Expression 0) front x
  low : height x ≤ h

-- what an optional expression and the token behind it are
record Options (types : Names) (s : Symbol) (h : ℕ) (ts : List Lexeme) (x : Syn) (rest : List Lexeme) : Type 0 where
  close_token : Lexeme
  front : List Lexeme
  closes : symbol close_token ≡ s
  split : ts ≡ front ++ (close_token ∷ rest)
  derives : Optional types close_token front x
  low : height x ≤ h

-- what stands in braces
pub record Braces (in_switch : Bool) (types : Names) (h : ℕ) (ts : List Lexeme) (xs : Syns) (rest : List Lexeme) :
    Type 0 where
  pub close_token : Lexeme
  pub front : List Lexeme
  pub closes : symbol close_token ≡ Symbols.CloseBrace
  pub split : ts ≡ front ++ (close_token ∷ rest)
  pub derives : Items in_switch types front xs
  pub low : highest xs ≤ h

-- a label or a statement, before what stands behind it in braces
record Extends (in_switch : Bool) (types : Names) (h : ℕ) (ts : List Lexeme) (x : Syn) (rest : List Lexeme) :
    Type 0 where
  front : List Lexeme
  split : ts ≡ front ++ rest
  extend : (b : List Lexeme) {xs : Syns} → Items in_switch types b xs → Items in_switch types (front ++ b) (more x xs)
  low : height x ≤ h

module _ (rec : Reader) (declare : StatementReader) (state : StatementReader) (h : ℕ) (sound : Sound rec h)
    (declares : SoundDeclarations declare h) (states : SoundStatements state h) where
  condition_reads : (types : Names) (ts : List Lexeme) →
      Gives (λ p. Conditions types h ts p.0 p.1) (Statements.condition rec declare state types ts)
  unfolding Statements.condition
  condition_reads types ts =
      bind _ (expects is_open_parenthesis Symbols.OpenParenthesis open_parenthesis_is ts) (λ r o.
      also (bracketed_reads rec h sound (Expression 0) is_close_parenthesis Symbols.CloseParenthesis
      close_parenthesis_is types r) (λ p inner. record {
        open_token = o.0;
        close_token = inner.close;
        front = inner.front;
        opens = o.1;
        closes = inner.closes;
        split = o.2 ∙ ap (λ v. o.0 ∷ v) inner.split;
        derives = inner.derives;
        low = inner.low;
      }))

  if_reads : (t : Lexeme) (types : Names) (ts : List Lexeme) → symbol t ≡ Symbols.If →
      Gives (λ p. ReadsStatement types (suc h) (t ∷ ts) p.0 p.1) (Statements.if_from rec declare state t types ts)
  unfolding Statements.if_from
  if_reads t types ts e =
      bind _ (condition_reads types ts) (λ x test.
      bind _ (states types x.1) (λ y yes.
      let before : ts ≡ test.open_token ∷ (test.front ++ (test.close_token ∷ (yes.front ++ y.1))) =
      test.split ∙ ap (λ v. test.open_token ∷ (test.front ++ (test.close_token ∷ v))) yes.split in
      choose (starts is_else y.1)
      (λ on. let l = begins_with is_else Symbols.Else else_is y.1 on in
      bind _ (states types (past y.1)) (λ z no. gives (record {
        front = t ∷ (test.open_token ∷ (test.front ++ (test.close_token ∷ (yes.front ++ (l.token ∷ no.front)))));
        split = ap (λ v. t ∷ v) (before
            ∙ ap (λ v. test.open_token ∷ (test.front ++ (test.close_token ∷ v)))
            (ap (λ v. yes.front ++ v) (l.split ∙ ap (λ v. l.token ∷ v) no.split)
            ∙ sym (behind yes.front no.front z.1 l.token))
            ∙ ap (λ v. test.open_token ∷ v) (sym (behind test.front
            (yes.front ++ (l.token ∷ no.front)) z.1 test.close_token)));
        derives = Grammar.if_else t test.open_token test.close_token l.token test.front yes.front no.front e test.opens
            test.closes l.symbol_is test.derives yes.derives (closed y.0 y.1 yes.shut on) no.derives;
        low = let k = test.low in let l = yes.low in let m = no.low in omega arith;
        shut = no.shut;
      })))
      (λ off. gives (record {
        front = t ∷ (test.open_token ∷ (test.front ++ (test.close_token ∷ yes.front)));
        split = ap (λ v. t ∷ v) (before
            ∙ ap (λ v. test.open_token ∷ v) (sym (behind test.front yes.front y.1 test.close_token)));
        derives = Grammar.if_statement t test.open_token test.close_token test.front yes.front e test.opens test.closes
            test.derives yes.derives;
        low = let k = test.low in let l = yes.low in omega arith;
        shut = λ o. off;
      }))))
    where
      closed : (y : Syn) (r : List Lexeme) → (ends_open y ≡ true → starts is_else r ≡ false) → starts is_else r ≡ true →
          ends_open y ≡ false
      closed y r shut on = by (ends_open y) refl
        where
          by : (b : Bool) → ends_open y ≡ b → ends_open y ≡ false
          by true f = let k = shut f in cc
          by false f = f

  while_reads : (t : Lexeme) (types : Names) (ts : List Lexeme) → symbol t ≡ Symbols.While →
      Gives (λ p. ReadsStatement types (suc h) (t ∷ ts) p.0 p.1) (Statements.while_from rec declare state t types ts)
  unfolding Statements.while_from
  while_reads t types ts e =
      bind _ (condition_reads types ts) (λ x test.
      bind _ (states types x.1) (λ y body. gives (record {
        front = t ∷ (test.open_token ∷ (test.front ++ (test.close_token ∷ body.front)));
        split = ap (λ v. t ∷ v) (test.split
            ∙ ap (λ v. test.open_token ∷ (test.front ++ (test.close_token ∷ v))) body.split
            ∙ ap (λ v. test.open_token ∷ v) (sym (behind test.front body.front y.1 test.close_token)));
        derives = Grammar.while_statement t test.open_token test.close_token test.front body.front e test.opens
            test.closes test.derives body.derives;
        low = let k = test.low in let l = body.low in omega arith;
        shut = body.shut;
      })))

  do_reads : (t : Lexeme) (types : Names) (ts : List Lexeme) → symbol t ≡ Symbols.Do →
      Gives (λ p. ReadsStatement types (suc h) (t ∷ ts) p.0 p.1) (Statements.do_from rec declare state t types ts)
  unfolding Statements.do_from
  do_reads t types ts e =
      bind _ (states types ts) (λ x body.
      bind _ (expects is_while Symbols.While while_is x.1) (λ r w.
      bind _ (condition_reads types r) (λ y test.
      bind _ (expects is_semicolon Symbols.Semicolon semicolon_is y.1) (λ rest end. gives (record {
        front = t ∷ (body.front ++ (w.0 ∷ (test.open_token ∷ (test.front ++ (test.close_token ∷ (end.0 ∷ []))))));
        split = ap (λ v. t ∷ v) (body.split
            ∙ ap (λ v. body.front ++ v) (w.2
            ∙ ap (λ v. w.0 ∷ v) (test.split
            ∙ ap (λ v. test.open_token ∷ (test.front ++ (test.close_token ∷ v))) end.2
            ∙ ap (λ v. test.open_token ∷ v) (sym (behind test.front (end.0 ∷ []) rest test.close_token))))
            ∙ sym (behind body.front (test.open_token ∷ (test.front ++ (test.close_token ∷ (end.0 ∷ [])))) rest w.0));
        derives = Grammar.do_statement t w.0 test.open_token test.close_token end.0 body.front test.front e w.1
            test.opens test.closes end.1 body.derives test.derives;
        low = let k = test.low in let l = body.low in omega arith;
        shut = λ o. cc;
      })))))

  optional_reads : (test : Symbol → Bool) (s : Symbol) → ((t : Symbol) → test t ≡ true → t ≡ s) →
      (types : Names) (ts : List Lexeme) →
      Gives (λ p. Options types s h ts p.0 p.1) (Statements.optional rec declare state test types ts)
  unfolding Statements.optional
  optional_reads test s only types [] = nothing
  optional_reads test s only types (t ∷ ts) =
      choose (test (symbol t))
      (λ e. gives (record {
        close_token = t;
        front = [];
        closes = only (symbol t) e;
        split = refl;
        derives = Grammar.absent;
        low = omega arith;
      }))
      (λ e. also (bracketed_reads rec h sound (Expression 0) test s only types (t ∷ ts)) (λ p inner. record {
        close_token = inner.close;
        front = inner.front;
        closes = inner.closes;
        split = inner.split;
        derives = Grammar.present inner.front inner.derives;
        low = inner.low;
      }))

  -- the second half of a `for`
  record Fors (types : Names) (t : Lexeme) (x : Syn) (ts : List Lexeme) (y : Syn) (rest : List Lexeme) : Type 0 where
    second : Syn
    third : Syn
    body : Syn
    semicolon : Lexeme
    close_token : Lexeme
    b : List Lexeme
    d : List Lexeme
    e : List Lexeme
    is : y ≡ node Kinds.For t (four x second third body)
    semicolon_symbol : symbol semicolon ≡ Symbols.Semicolon
    closes : symbol close_token ≡ Symbols.CloseParenthesis
    split : ts ≡ b ++ (semicolon ∷ (d ++ (close_token ∷ (e ++ rest))))
    second_derives : Optional types semicolon b second
    third_derives : Optional types close_token d third
    body_derives : States types e body
    low_second : height second ≤ h
    low_third : height third ≤ h
    low_body : height body ≤ h
    shut : ends_open body ≡ true → starts is_else rest ≡ false

  for_behind_reads : (t : Lexeme) (x : Syn) (types : Names) (ts : List Lexeme) →
      Gives (λ p. Fors types t x ts p.0 p.1) (Statements.for_behind rec declare state t x types ts)
  unfolding Statements.for_behind
  for_behind_reads t x types ts =
      bind _ (optional_reads is_semicolon Symbols.Semicolon semicolon_is types ts) (λ y second.
      bind _ (optional_reads is_close_parenthesis Symbols.CloseParenthesis close_parenthesis_is types y.1) (λ z third.
      bind _ (states types z.1) (λ w body. gives (record {
        second = y.0;
        third = z.0;
        body = w.0;
        semicolon = second.close_token;
        close_token = third.close_token;
        b = second.front;
        d = third.front;
        e = body.front;
        is = refl;
        semicolon_symbol = second.closes;
        closes = third.closes;
        split = second.split ∙ ap (λ v. second.front ++ (second.close_token ∷ v))
            (third.split ∙ ap (λ v. third.front ++ (third.close_token ∷ v)) body.split);
        second_derives = second.derives;
        third_derives = third.derives;
        body_derives = body.derives;
        low_second = second.low;
        low_third = third.low;
        low_body = body.low;
        shut = body.shut;
      }))))

  for_parts : (b d e rest : List Lexeme) (q c : Lexeme) →
      b ++ (q ∷ (d ++ (c ∷ (e ++ rest)))) ≡ (b ++ (q ∷ (d ++ (c ∷ e)))) ++ rest
  for_parts b d e rest q c = ap (λ v. b ++ (q ∷ v)) (sym (behind d e rest c)) ∙ sym (behind b (d ++ (c ∷ e)) rest q)

  for_reads : (t : Lexeme) (types : Names) (ts : List Lexeme) → symbol t ≡ Symbols.For →
      Gives (λ p. ReadsStatement types (suc h) (t ∷ ts) p.0 p.1) (Statements.for_from rec declare state t types ts)
  unfolding Statements.for_from
  for_reads t types ts s =
      bind _ (expects is_open_parenthesis Symbols.OpenParenthesis open_parenthesis_is ts) (λ r o.
      choose (starts_with (begins_type types) r)
      (λ on. bind _ (declares types r) (λ x first.
      also (for_behind_reads t x.0 (new_types x.0 ++ types) x.1) (λ p others. record {
        front = t ∷ (o.0 ∷ (first.front ++ (others.b
            ++ (others.semicolon ∷ (others.d ++ (others.close_token ∷ others.e))))));
        split = ap (λ v. t ∷ v) (o.2
            ∙ ap (λ v. o.0 ∷ v) (first.split
            ∙ ap (λ v. first.front ++ v) (others.split
            ∙ for_parts others.b others.d others.e p.1 others.semicolon others.close_token)
            ∙ sym (append_assoc first.front (others.b
            ++ (others.semicolon ∷ (others.d ++ (others.close_token ∷ others.e)))) p.1)));
        derives = subst (λ v. States types (t ∷ (o.0
            ∷ (first.front ++ (others.b ++ (others.semicolon ∷ (others.d ++ (others.close_token ∷ others.e)))))))
            v) (sym others.is)
            (Grammar.for_declaration t o.0 others.semicolon others.close_token first.front others.b others.d others.e s
            o.1 others.semicolon_symbol others.closes first.derives others.second_derives others.third_derives
            others.body_derives);
        low = let k = first.low in let l = others.low_second in let m = others.low_third in let n = others.low_body in
            let u = ap height others.is in omega arith;
        shut = λ u. others.shut (sym (ap ends_open others.is) ∙ u);
      })))
      (λ off. bind _ (optional_reads is_semicolon Symbols.Semicolon semicolon_is types r) (λ x first.
      also (for_behind_reads t x.0 types x.1) (λ p others. record {
        front = t ∷ (o.0 ∷ (first.front ++ (first.close_token
            ∷ (others.b ++ (others.semicolon ∷ (others.d ++ (others.close_token ∷ others.e)))))));
        split = ap (λ v. t ∷ v) (o.2
            ∙ ap (λ v. o.0 ∷ v) (first.split
            ∙ ap (λ v. first.front ++ (first.close_token ∷ v))
            (others.split ∙ for_parts others.b others.d others.e p.1 others.semicolon others.close_token)
            ∙ sym (behind first.front (others.b ++ (others.semicolon ∷ (others.d ++ (others.close_token ∷ others.e))))
            p.1 first.close_token)));
        derives = subst (λ v. States types (t ∷ (o.0
            ∷ (first.front ++ (first.close_token
            ∷ (others.b ++ (others.semicolon ∷ (others.d ++ (others.close_token ∷ others.e)))))))) v)
            (sym others.is)
            (Grammar.for_statement t o.0 first.close_token others.semicolon others.close_token first.front others.b
            others.d others.e s o.1 first.closes others.semicolon_symbol others.closes first.derives
            others.second_derives others.third_derives others.body_derives);
        low = let k = first.low in let l = others.low_second in let m = others.low_third in let n = others.low_body in
            let u = ap height others.is in omega arith;
        shut = λ u. others.shut (sym (ap ends_open others.is) ∙ u);
      }))))

  return_reads : (t : Lexeme) (types : Names) (ts : List Lexeme) → symbol t ≡ Symbols.Return →
      Gives (λ p. ReadsStatement types (suc h) (t ∷ ts) p.0 p.1) (Statements.return_from rec declare state t types ts)
  unfolding Statements.return_from
  return_reads t types ts e =
      choose (starts is_semicolon ts)
      (λ on. let c = begins_with is_semicolon Symbols.Semicolon semicolon_is ts on in
      gives (record {
        front = t ∷ (c.token ∷ []);
        split = ap (λ v. t ∷ v) c.split;
        derives = Grammar.return_statement t c.token e c.symbol_is;
        low = omega arith;
        shut = λ o. cc;
      }))
      (λ off. bind _ (bracketed_reads rec h sound (Expression 0) is_semicolon Symbols.Semicolon semicolon_is types ts)
      (λ x inner. gives (record {
        front = t ∷ (inner.front ++ (inner.close ∷ []));
        split = ap (λ v. t ∷ v) (inner.split ∙ sym (behind inner.front [] x.1 inner.close));
        derives = Grammar.return_value t inner.close inner.front e inner.closes inner.derives;
        low = let k = inner.low in omega arith;
        shut = λ o. cc;
      })))

  break_reads : (t : Lexeme) (types : Names) (ts : List Lexeme) → symbol t ≡ Symbols.Break →
      Gives (λ p. ReadsStatement types (suc h) (t ∷ ts) p.0 p.1)
      (Statements.jump_from rec declare state (node Kinds.Break t nil) ts)
  unfolding Statements.jump_from
  break_reads t types ts e =
      bind _ (expects is_semicolon Symbols.Semicolon semicolon_is ts)
      (λ rest c. gives (record {
        front = t ∷ (c.0 ∷ []);
        split = ap (λ v. t ∷ v) c.2;
        derives = Grammar.break_statement t c.0 e c.1;
        low = omega arith;
        shut = λ o. cc;
      }))

  continue_reads : (t : Lexeme) (types : Names) (ts : List Lexeme) → symbol t ≡ Symbols.Continue →
      Gives (λ p. ReadsStatement types (suc h) (t ∷ ts) p.0 p.1)
      (Statements.jump_from rec declare state (node Kinds.Continue t nil) ts)
  unfolding Statements.jump_from
  continue_reads t types ts e =
      bind _ (expects is_semicolon Symbols.Semicolon semicolon_is ts)
      (λ rest c. gives (record {
        front = t ∷ (c.0 ∷ []);
        split = ap (λ v. t ∷ v) c.2;
        derives = Grammar.continue_statement t c.0 e c.1;
        low = omega arith;
        shut = λ o. cc;
      }))

  expression_statement_reads : (types : Names) (ts : List Lexeme) →
      Gives (λ p. ReadsStatement types (suc h) ts p.0 p.1) (Statements.expression_from rec declare state types ts)
  unfolding Statements.expression_from
  expression_statement_reads types ts =
      bind _ (bracketed_reads rec h sound (Expression 0) is_semicolon Symbols.Semicolon semicolon_is types ts)
      (λ x inner. gives (record {
        front = inner.front ++ (inner.close ∷ []);
        split = inner.split ∙ sym (behind inner.front [] x.1 inner.close);
        derives = Grammar.expression_statement inner.close inner.front inner.closes inner.derives;
        low = let k = inner.low in omega arith;
        shut = λ o. cc;
      }))

  labelled_reads : (in_switch : Bool) (t : Lexeme) (types : Names) (ts : List Lexeme) →
      Gives (λ p. Extends in_switch types h (t ∷ ts) p.0 p.1)
      (Statements.labelled rec declare state (symbol t) in_switch t types ts)
  labelled_reads in_switch t types ts = by (symbol t) in_switch refl
    where
      by : (s : Symbol) (in_switch : Bool) → symbol t ≡ s →
          Gives (λ p. Extends in_switch types h (t ∷ ts) p.0 p.1)
          (Statements.labelled rec declare state s in_switch t types ts)
      by Symbols.Case true e =
          bind _ (bracketed_reads rec h sound (Expression 2) is_colon Symbols.Colon colon_is types ts)
          (λ x inner. gives (record {
            front = t ∷ (inner.front ++ (inner.close ∷ []));
            split = ap (λ v. t ∷ v) (inner.split ∙ sym (behind inner.front [] x.1 inner.close));
            extend = λ b {xs} items. subst (λ v. Items true types (t ∷ v) (more (node Kinds.Case t (one x.0)) xs))
                (sym (behind inner.front [] b inner.close))
                (Grammar.case_item t inner.close inner.front b e inner.closes inner.derives items);
            low = let k = inner.low in omega arith;
          }))
      by Symbols.Default true e =
          bind _ (expects is_colon Symbols.Colon colon_is ts) (λ rest c. gives (record {
            front = t ∷ (c.0 ∷ []);
            split = ap (λ v. t ∷ v) c.2;
            extend = λ b {xs} items. Grammar.default_item t c.0 b e c.1 items;
            low = omega arith;
          }))
      by _ in_switch e = also (states types (t ∷ ts))
          (λ p inner. record {
            front = inner.front;
            split = inner.split;
            extend = λ b {xs} items. Grammar.statement_item inner.front b inner.derives items;
            low = inner.low;
          })

  items_read : (k : ℕ) (in_switch : Bool) (types : Names) (ts : List Lexeme) →
      Gives (λ p. ReadsParts (Items in_switch types) h ts p.0 p.1)
      (Statements.items rec declare state k in_switch types ts)
  unfolding Statements.items
  items_read zero in_switch types ts = nothing
  items_read (suc k) in_switch types [] = nothing
  items_read (suc k) in_switch types (t ∷ ts) =
      choose (is_close_brace (symbol t))
      (λ shut. gives (record { front = []; split = refl; derives = Grammar.no_item; low = omega arith }))
      (λ off. choose (begins_type types t)
      (λ on. bind _ (declares types (t ∷ ts)) (λ a inner.
      bind _ (items_read k in_switch (new_types a.0 ++ types) a.1) (λ b others. gives (record {
        front = inner.front ++ others.front;
        split = inner.split ∙ ap (λ v. inner.front ++ v) others.split ∙ sym (append_assoc inner.front others.front b.1);
        derives = Grammar.declaration_item inner.front others.front inner.derives others.derives;
        low = let k = inner.low in let l = others.low in omega arith;
      }))))
      (λ none. bind _ (labelled_reads in_switch t types ts) (λ a inner.
      bind _ (items_read k in_switch types a.1) (λ b others. gives (record {
        front = inner.front ++ others.front;
        split = inner.split ∙ ap (λ v. inner.front ++ v) others.split ∙ sym (append_assoc inner.front others.front b.1);
        derives = inner.extend others.front others.derives;
        low = let k = inner.low in let l = others.low in omega arith;
      })))))

  pub items_in_braces_read : (in_switch : Bool) (types : Names) (ts : List Lexeme) →
      Gives (λ p. Braces in_switch types h ts p.0 p.1) (Statements.items_in_braces rec declare state in_switch types ts)
  unfolding Statements.items_in_braces
  items_in_braces_read in_switch types ts =
      bind _ (items_read (suc (length ts)) in_switch types ts) (λ a inner.
      bind _ (expects is_close_brace Symbols.CloseBrace close_brace_is a.1) (λ rest end. gives (record {
        close_token = end.0;
        front = inner.front;
        closes = end.1;
        split = inner.split ∙ ap (λ v. inner.front ++ v) end.2;
        derives = inner.derives;
        low = inner.low;
      })))

  block_reads : (o : Lexeme) (types : Names) (ts : List Lexeme) → symbol o ≡ Symbols.OpenBrace →
      Gives (λ p. ReadsStatement types (suc h) (o ∷ ts) p.0 p.1) (Statements.block_from rec declare state o types ts)
  unfolding Statements.block_from
  block_reads o types ts e =
      bind _ (items_in_braces_read false types ts) (λ a inner. gives (record {
        front = o ∷ (inner.front ++ (inner.close_token ∷ []));
        split = ap (λ v. o ∷ v) (inner.split ∙ sym (behind inner.front [] a.1 inner.close_token));
        derives = Grammar.block o inner.close_token inner.front e inner.closes inner.derives;
        low = let k = inner.low in omega arith;
        shut = λ o. cc;
      }))

  switch_reads : (t : Lexeme) (types : Names) (ts : List Lexeme) → symbol t ≡ Symbols.Switch →
      Gives (λ p. ReadsStatement types (suc h) (t ∷ ts) p.0 p.1) (Statements.switch_from rec declare state t types ts)
  unfolding Statements.switch_from
  switch_reads t types ts e =
      bind _ (condition_reads types ts) (λ x test.
      bind _ (expects is_open_brace Symbols.OpenBrace open_brace_is x.1) (λ r p.
      bind _ (items_in_braces_read true types r) (λ a inner. gives (record {
        front = t ∷ (test.open_token ∷ (test.front
            ++ (test.close_token ∷ (p.0 ∷ (inner.front ++ (inner.close_token ∷ []))))));
        split = ap (λ v. t ∷ v) (test.split
            ∙ ap (λ v. test.open_token ∷ (test.front ++ (test.close_token ∷ v)))
            (p.2 ∙ ap (λ v. p.0 ∷ v) (inner.split ∙ sym (behind inner.front [] a.1 inner.close_token)))
            ∙ ap (λ v. test.open_token ∷ v) (sym (behind test.front
            (p.0 ∷ (inner.front ++ (inner.close_token ∷ []))) a.1 test.close_token)));
        derives = Grammar.switch t test.open_token test.close_token p.0 inner.close_token test.front inner.front e
            test.opens test.closes p.1 inner.closes test.derives inner.derives;
        low = let k = test.low in let l = inner.low in omega arith;
        shut = λ o. cc;
      }))))

  statement_reads : (types : Names) (ts : List Lexeme) →
      Gives (λ p. ReadsStatement types (suc h) ts p.0 p.1) (Statements.statement rec declare state types ts)
  unfolding Statements.statement
  statement_reads types [] = nothing
  statement_reads types (t ∷ ts) = by (symbol t) refl
    where
      by : (s : Symbol) → symbol t ≡ s →
          Gives (λ p. ReadsStatement types (suc h) (t ∷ ts) p.0 p.1)
          (Statements.statement_by rec declare state s t types ts)
      by Symbols.OpenBrace e = block_reads t types ts e
      by Symbols.Semicolon e = gives (record {
        front = t ∷ [];
        split = refl;
        derives = Grammar.empty_statement t e;
        low = omega arith;
        shut = λ o. cc;
      })
      by Symbols.If e = if_reads t types ts e
      by Symbols.Switch e = switch_reads t types ts e
      by Symbols.While e = while_reads t types ts e
      by Symbols.Do e = do_reads t types ts e
      by Symbols.For e = for_reads t types ts e
      by Symbols.Break e = break_reads t types ts e
      by Symbols.Continue e = continue_reads t types ts e
      by Symbols.Return e = return_reads t types ts e
      by _ e = expression_statement_reads types (t ∷ ts)

pub statements_sound : (h : ℕ) → SoundStatements (Statements.state h) h
unfolding Statements.state
statements_sound zero types ts = nothing
statements_sound (suc h) types ts =
    statement_reads (read h) (Statements.declare h) (Statements.state h) h (sound h) (declarations_sound h)
    (statements_sound h) types ts

-- Names that are no typedef names

abbrev pub none_of : Names → List (List ℕ) → Bool
none_of types names = not (list_any (λ n. is_among types n) names)

pub array_names : {types : Names} {m : Naming} {starred : Bool} {a : List Lexeme} {xs : Syns} →
    Declares types m starred a xs → (y : Syn) → names_unless_last (then_one xs y) ≡ names_of_first xs
array_names {types} {m} {starred} d y = by (Firsts.shaped d)
  where
    by : {a : List Lexeme} {xs : Syns} → Firsts.Shaped types m starred a xs →
        names_unless_last (then_one xs y) ≡ names_of_first xs
    by (Firsts.bare e) = refl
    by (Firsts.full d) = refl

pub plainly : {types : Names} {starred : Bool} {a : List Lexeme} {xs : Syns} → Declares types Any starred a xs →
    none_of types (names_of_first xs) ≡ true → Declares types Plain starred a xs
plainly (Grammar.empty e) f = cc
plainly {types} (Grammar.declared n e) f = Grammar.declared n (by (is_word (symbol n)) (is_among types n.text) e f)
  where
    by : (w b : Bool) → w ≡ true → not (b || false) ≡ true → (w && not (w && b)) ≡ true
    by true true e f = cc
    by true false e f = refl
    by false b e f = cc
plainly (Grammar.enclosed o c a p q d) f = Grammar.enclosed o c a p q (plainly d f)
plainly (Grammar.open_array o c a p q d) f = Grammar.open_array o c a p q (plainly d f)
plainly {types} (Grammar.array o c a b {y = y} p q d e) f =
    Grammar.array o c a b p q (plainly d (ap (λ v. none_of types v) (sym (array_names d y)) ∙ f)) e
plainly {types} (Grammar.function o c a b {ys = ys} p q d e) f =
    Grammar.function o c a b p q (plainly d (ap (λ v. none_of types v)
    (sym (array_names d (node Kinds.Parameters o ys))) ∙ f)) e
plainly (Grammar.pointer o a b p q d) f = Grammar.pointer o a b p q (plainly d f)

pub plain_declarator : {types : Names} (m : Naming) {a : List Lexeme} {x : Syn} → Derives types (Declarator m) a x →
    (m ≡ Plain) ⊎ (m ≡ Any) → are_plain types x ≡ true → Derives types (Declarator Plain) a x
plain_declarator {types} m {a} {x} d (inl e) f = subst (λ v. Derives types (Declarator v) a x) e d
plain_declarator {types} m {a} {x} d (inr e) f =
    Grammar.declarator a (plainly (opened (subst (λ v. Derives types (Declarator v) a x) e d)) f)

pub naming_is : (f : Bool) (s : Syn) → (naming f s ≡ Plain) ⊎ (naming f s ≡ Any)
naming_is f s = by (f && (defines_types s && names_a_type s))
  where
    by : (b : Bool) → ((if b then Any else Plain) ≡ Plain) ⊎ ((if b then Any else Plain) ≡ Any)
    by true = inr refl
    by false = inl refl

-- External definitions

-- before what stands behind it
record ExtendsFile (types : Names) (h : ℕ) (ts : List Lexeme) (x : Syn) (rest : List Lexeme) : Type 0 where
  front : List Lexeme
  split : ts ≡ front ++ rest
  extend : (b : List Lexeme) {xs : Syns} → Externals (new_types x ++ types) b xs →
      Externals types (front ++ b) (more x xs)
  low : height x ≤ h

extends_declaration : {types : Names} {h : ℕ} {ts : List Lexeme} {x : Syn} {rest : List Lexeme} →
    ReadsOne (Declaration types true) h ts x rest → ExtendsFile types h ts x rest
extends_declaration r = record {
  front = r.front;
  split = r.split;
  extend = λ b {xs} others. Grammar.external_declaration r.front b r.derives others;
  low = r.low;
}

-- the body of a function
record Bodies (types : Names) (h : ℕ) (o : Lexeme) (ts : List Lexeme) (x : Syn) (rest : List Lexeme) : Type 0 where
  parts : Syns
  is : x ≡ node Kinds.Block o parts
  close_token : Lexeme
  front : List Lexeme
  closes : symbol close_token ≡ Symbols.CloseBrace
  split : ts ≡ front ++ (close_token ∷ rest)
  derives : Items false types front parts
  low : height x ≤ h

body_reads : (h : ℕ) (o : Lexeme) (types : Names) (ts : List Lexeme) →
    Gives (λ p. Bodies types h o ts p.0 p.1) (Statements.block h o types ts)
unfolding Statements.block Statements.block_from
body_reads zero o types ts = nothing
body_reads (suc h) o types ts =
    bind _ (items_in_braces_read (read h) (Statements.declare h) (Statements.state h) h (sound h) (declarations_sound h)
    (statements_sound h) false types ts) (λ a inner. gives (record {
      parts = a.0;
      is = refl;
      close_token = inner.close_token;
      front = inner.front;
      closes = inner.closes;
      split = inner.split;
      derives = inner.derives;
      low = let k = inner.low in omega arith;
    }))

-- external definitions up to the end
pub record ReadsExternals (types : Names) (h : ℕ) (ts : List Lexeme) (xs : Syns) : Type 0 where
  pub derives : Externals types ts xs
  pub low : highest xs ≤ h

module _ (h : ℕ) where
  definition_reads : (types : Names) (s d : Syn) (a b : List Lexeme) (o : Lexeme) (ts : List Lexeme) →
      symbol o ≡ Symbols.OpenBrace → Derives types Specifiers a s → height s ≤ h →
      Derives types (Declarator Plain) b d → height d ≤ h →
      Gives (λ p. ExtendsFile types (suc h) (a ++ (b ++ (o ∷ ts))) p.0 p.1)
      (Statements.definition_from h s d o types ts)
  unfolding Statements.definition_from
  definition_reads types s d a b o ts e specified low declared lower =
      bind _ (body_reads h o types ts) (λ x inner. gives (record {
        front = a ++ (b ++ (o ∷ (inner.front ++ (inner.close_token ∷ []))));
        split = ap (λ v. a ++ (b ++ (o ∷ v))) (inner.split ∙ sym (behind inner.front [] x.1 inner.close_token))
            ∙ ap (λ v. a ++ v) (sym (behind b (inner.front ++ (inner.close_token ∷ [])) x.1 o))
            ∙ sym (append_assoc a (b ++ (o ∷ (inner.front ++ (inner.close_token ∷ [])))) x.1);
        extend = λ r {xs} others. subst (λ v. Externals types v
            (more (node Kinds.FunctionDefinition (own_token s) (three s d x.0)) xs))
            (sym (append_assoc a (b ++ (o ∷ (inner.front ++ (inner.close_token ∷ [])))) r
            ∙ ap (λ v. a ++ v) (behind b (inner.front ++ (inner.close_token ∷ [])) r o
            ∙ ap (λ v. b ++ (o ∷ v)) (behind inner.front [] r inner.close_token))))
            (subst (λ v. Externals types (a ++ (b ++ (o ∷ (inner.front ++ (inner.close_token ∷ r)))))
            (more (node Kinds.FunctionDefinition (own_token s) (three s d v)) xs)) (sym inner.is)
            (Grammar.function_definition o inner.close_token a b inner.front r e inner.closes specified declared
            inner.derives others));
        low = let k = inner.low in omega arith;
      }))

  external_behind_reads : (types : Names) (s d : Syn) (a b ts : List Lexeme) → Derives types Specifiers a s →
      height s ≤ h → Derives types (Declarator (naming true s)) b d → height d ≤ h →
      Gives (λ p. ExtendsFile types (suc h) (a ++ (b ++ ts)) p.0 p.1) (Statements.external_behind h s d types ts)
  unfolding Statements.external_behind
  external_behind_reads types s d a b [] specified low declared lower = nothing
  external_behind_reads types s d a b (o ∷ ts) specified low declared lower =
      choose (is_open_brace (symbol o))
      (λ e. guard (are_plain types d) (λ plain.
      definition_reads types s d a b o ts (open_brace_is (symbol o) e) specified low
      (plain_declarator (naming true s) declared (naming_is true s) plain) lower))
      (λ e. also (declaration_behind_reads (read h) h (sound h) true types s d a b (o ∷ ts) specified low declared)
      (λ p inner. extends_declaration inner))

  external_reads : (types : Names) (ts : List Lexeme) →
      Gives (λ p. ExtendsFile types (suc h) ts p.0 p.1) (Statements.external h types ts)
  unfolding Statements.external
  external_reads types ts =
      bind _ (specifiers_read (read h) h (sound h) types ts) (λ s first.
      choose (starts is_semicolon s.1)
      (λ on. gives (extends_declaration (specifiers_only_reads (read h) h (sound h) true types ts s.0 s.1 first on)))
      (λ off. bind _ (sound h (Declarator (naming true s.0)) types s.1) (λ d inner.
      subst (λ w. Gives (λ p. ExtendsFile types (suc h) w p.0 p.1) (Statements.external_behind h s.0 d.0 types d.1))
      (sym (first.reads.split ∙ ap (λ v. first.reads.front ++ v) inner.split))
      (external_behind_reads types s.0 d.0 first.reads.front inner.front d.1 first.reads.derives first.reads.low
      inner.derives inner.low))))

  externals_read : (k : ℕ) (types : Names) (ts : List Lexeme) →
      Gives (λ xs. ReadsExternals types (suc h) ts xs) (Statements.externals h k types ts)
  unfolding Statements.externals
  externals_read zero types ts = nothing
  externals_read (suc k) types [] = gives (record { derives = Grammar.no_external; low = omega arith })
  externals_read (suc k) types (t ∷ ts) =
      choose (is_semicolon (symbol t))
      (λ e. bind _ (externals_read k types ts) (λ xs others. gives (record {
        derives = Grammar.empty_external t ts (semicolon_is (symbol t) e) others.derives;
        low = let k = others.low in omega arith;
      })))
      (λ e. bind _ (external_reads types (t ∷ ts)) (λ a inner.
      bind _ (externals_read k (new_types a.0 ++ types) a.1) (λ xs others. gives (record {
        derives = subst (λ v. Externals types v (more a.0 xs)) (sym inner.split) (inner.extend a.1 others.derives);
        low = let k = inner.low in let l = others.low in omega arith;
      }))))

  -- a file that is read is derived, and not too high
  pub file_sound : (ts : List Lexeme) → Gives (λ x. DerivesFile ts x × (height x ≤ suc h)) (Statements.read_file h ts)
  unfolding Statements.read_file
  file_sound ts = bind _ (externals_read (suc (length ts)) predeclared ts)
      (λ xs inner. gives (file inner.derives, let k = inner.low in omega arith))
