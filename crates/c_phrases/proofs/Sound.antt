-- What is read is derived, and not too high.
use Rattle.std.proofs.Common.{◌≡◌, ℕ, zero, suc, ◌+◌, ◌≤◌, max, Bool, true, false, List, [], ◌∷◌, ◌++◌, length, Option}
use Rattle.std.proofs.Common.{Some, None, refl, ap, sym, subst, ◌∙◌, arith, append_assoc, append-nil}
use Rattle.std.specs.Prelude.{if◌then◌else◌, nat_le, ◌&&◌, ◌||◌, not}
use Rattle.ck_base.specs.Tokens.{Lexeme}
use Rattle.ck_int.specs.declared.kinds.IntOp.{IntOp}
use Rattle.c_tree.specs.declared.syntax.SpecifierWord.{SpecifierWord}
use Rattle.c_tree.specs.declared.syntax.RecordKind.{RecordKind}
use Rattle.c_tree.specs.declared.syntax.InfixOperator.{InfixOperator}
use Rattle.c_tree.specs.declared.syntax.InfixOperator.TheVariants as Infixes
use Rattle.ck_int.specs.declared.kinds.IntOp.TheVariants.{Add}
use Rattle.ck_int.specs.declared.kinds.CmpOp.TheVariants.{Lt}
use Rattle.c_tree.specs.declared.syntax.PrefixOperator.{PrefixOperator}
use Rattle.c_tree.specs.declared.syntax.Selection.{Selection}
use Rattle.c_tree.specs.declared.syntax.Symbol.{Symbol}
use Rattle.c_tree.specs.declared.syntax.Symbol.TheVariants as Symbols
use Rattle.c_tree.specs.declared.syntax.Head.{Head}
use Rattle.c_tree.specs.declared.syntax.Head.TheVariants as Heads
use Rattle.c_tree.specs.declared.syntax.Tail.{Tail}
use Rattle.c_tree.specs.declared.syntax.Tail.TheVariants as Tails
use Rattle.c_tree.specs.declared.syntax.NodeKind.TheVariants as Kinds
use Rattle.c_tree.specs.Syntax.{Syn, Syns, node, nil, more, one, two, three, joined, then_one, height, highest}
use Rattle.c_tree.specs.Symbols.{symbol, head_of, tail_of, infix_level, operand_level, is_qualifier}
use Rattle.c_tree.specs.Grammar
use Rattle.c_tree.specs.Grammar.{is_word, is_typedef_name, Naming, Plain, Any, Nameless, Either, is_declared_by}
use Rattle.c_tree.specs.Grammar.{may_be_nameless, names_type, has_any, is_agreed, names_a_type}
use Rattle.c_tree.specs.Grammar.{may_follow, Tags, untagged, tagged, Trails, no_comma, comma}
use Rattle.c_tree.specs.Grammar.{Goal, Expression, Piece, TypeName, Specifiers, Specifier, Member, Enumerator}
use Rattle.c_tree.specs.Grammar.{Qualifier, Declarator, Parameter, Initializer, Derives, Declares, Repeated, Separated}
use Rattle.c_tree.specs.Grammar.{Listed, finished, repeated, last, separated, listed}
use Rattle.c_phrases.specs.Reading
use Rattle.c_phrases.specs.Reading.{◌>>=◌, Names, Reader, is_open_parenthesis, is_close_parenthesis}
use Rattle.c_phrases.specs.Reading.{is_open_bracket, is_close_bracket, is_open_brace, is_close_brace, is_comma}
use Rattle.c_phrases.specs.Reading.{is_semicolon, is_colon, is_star, is_text, is_equals, begins_specifier}
use Rattle.c_phrases.specs.Reading.{begins_declarator, qualifier_of, starts_with, starts, past, begins_type}
use Rattle.c_phrases.specs.Reading.{goes_on_specifying, opens_type, opens_parameters, goes_on_listing, past_comma}
use Rattle.c_phrases.specs.Reading.{level, goes_on, parts_of, pieces, qualified, qualifiers, tag, with_parts}
use Rattle.c_phrases.proofs.Tools.{Gives, nothing, gives, bind, guard, choose, also, both_true, or_false, or_assoc}
use Rattle.c_phrases.proofs.Tools.{le_of}
use Rattle.c_phrases.proofs.Tools.{expects, behind}
use Rattle.c_phrases.proofs.Symbols.{close_parenthesis_is, close_bracket_is, close_brace_is, open_parenthesis_is}
use Rattle.c_phrases.proofs.Symbols.{open_bracket_is, open_brace_is, comma_is, semicolon_is, colon_is, star_is, text_is}
use Rattle.c_phrases.proofs.Symbols.{word_is, equals_is}

-- x was read from ts, and rest is left
pub record Reads (types : Names) (g : Goal) (h : ℕ) (ts : List Lexeme) (x : Syn) (rest : List Lexeme) : Type 0 where
  pub front : List Lexeme
  pub split : ts ≡ front ++ rest
  pub derives : Derives types g front x
  pub low : height x ≤ h

-- the same of parts
pub record ReadsParts (D : List Lexeme → Syns → Type 0) (h : ℕ) (ts : List Lexeme) (xs : Syns) (rest : List Lexeme) :
    Type 0 where
  pub front : List Lexeme
  pub split : ts ≡ front ++ rest
  pub derives : D front xs
  pub low : highest xs ≤ h

abbrev pub Sound : Reader → ℕ → Type 0
Sound rec h = (g : Goal) (types : Names) (ts : List Lexeme) → Gives (λ p. Reads types g h ts p.0 p.1) (rec g types ts)

-- Small parts

-- a first token that passes a test
pub record Begins (s : Symbol) (ts : List Lexeme) : Type 0 where
  pub token : Lexeme
  pub symbol_is : symbol token ≡ s
  pub split : ts ≡ token ∷ past ts

pub begins_with : (test : Symbol → Bool) (s : Symbol) → ((t : Symbol) → test t ≡ true → t ≡ s) → (ts : List Lexeme) →
    starts test ts ≡ true → Begins s ts
begins_with test s only [] e = cc
begins_with test s only (t ∷ ts) e = record { token = t; symbol_is = only (symbol t) e; split = refl }

pub listing_on : (ts : List Lexeme) → goes_on_listing ts ≡ true → Begins Symbols.Comma ts
listing_on [] e = cc
listing_on (c ∷ ts) e = record { token = c; symbol_is = comma_is (symbol c) (both_true _ _ e).0; split = refl }

-- a comma, if there is one
pub record Passes (ts : List Lexeme) : Type 0 where
  pub front : List Lexeme
  pub split : ts ≡ front ++ past_comma ts
  pub trails : Trails front

pub passes : (ts : List Lexeme) → Passes ts
passes [] = record { front = []; split = refl; trails = no_comma }
passes (t ∷ ts) = by (is_comma (symbol t)) refl
  where
    by : (b : Bool) → is_comma (symbol t) ≡ b → Passes (t ∷ ts)
    by true e = record {
      front = t ∷ [];
      split = ap (λ b. t ∷ (if b then ts else t ∷ ts)) (sym e);
      trails = comma t (comma_is (symbol t) e);
    }
    by false e = record { front = []; split = ap (λ b. if b then ts else t ∷ ts) (sym e); trails = no_comma }

pub pieces_read : {types : Names} (ts : List Lexeme) →
    ReadsParts (Repeated types Piece) 1 ts (pieces ts).0 (pieces ts).1
pieces_read [] = record { front = []; split = refl; derives = finished; low = omega arith }
pieces_read {types} (t ∷ ts) = by (is_text (symbol t)) refl (pieces_read {types = types} ts)
  where
    by : (b : Bool) → is_text (symbol t) ≡ b → ReadsParts (Repeated types Piece) 1 ts (pieces ts).0 (pieces ts).1 →
        let p : Syns × List Lexeme =
        (if b then (more (node Kinds.Text t nil) (pieces ts).0, (pieces ts).1) else (nil, t ∷ ts)) in
        ReadsParts (Repeated types Piece) 1 (t ∷ ts) p.0 p.1
    by true e inner =
        record {
          front = (t ∷ []) ++ inner.front;
          split = ap (λ v. t ∷ v) inner.split;
          derives = repeated (t ∷ []) inner.front (Grammar.piece t (text_is (symbol t) e)) inner.derives;
          low = let k = inner.low in omega arith;
        }
    by false e inner = record { front = []; split = refl; derives = finished; low = omega arith }

qualifier_is : (s : Symbol) (w : SpecifierWord) → qualifier_of s ≡ Some w →
    (s ≡ Symbols.Specifier w) × (is_qualifier w ≡ true)
qualifier_is (Symbols.Specifier v) w e = by (is_qualifier v) refl e
  where
    word_of : Option SpecifierWord → SpecifierWord
    word_of None = w
    word_of (Some u) = u

    by : (b : Bool) → is_qualifier v ≡ b → (if b then Some v else None) ≡ Some w →
        (Symbols.Specifier v ≡ Symbols.Specifier w) × (is_qualifier w ≡ true)
    by true e f = (ap (λ u. Symbols.Specifier (word_of u)) f, sym (ap (λ u. is_qualifier (word_of u)) f) ∙ e)
    by false e f = cc
qualifier_is _ w e = cc

pub qualifiers_read : {types : Names} (ts : List Lexeme) →
    ReadsParts (Repeated types Qualifier) 0 ts (qualifiers ts).0 (qualifiers ts).1
qualifiers_read [] = record { front = []; split = refl; derives = finished; low = omega arith }
qualifiers_read {types} (t ∷ ts) = by (qualifier_of (symbol t)) refl (qualifiers_read {types = types} ts)
  where
    by : (q : Option SpecifierWord) → qualifier_of (symbol t) ≡ q →
        ReadsParts (Repeated types Qualifier) 0 ts (qualifiers ts).0 (qualifiers ts).1 →
        ReadsParts (Repeated types Qualifier) 0 (t ∷ ts) (qualified q t ts (qualifiers ts)).0
        (qualified q t ts (qualifiers ts)).1
    by None e inner = record { front = []; split = refl; derives = finished; low = omega arith }
    by (Some w) e inner =
        let is = qualifier_is (symbol t) w e in
        record {
          front = (t ∷ []) ++ inner.front;
          split = ap (λ v. t ∷ v) inner.split;
          derives = repeated (t ∷ []) inner.front (Grammar.qualifier t is.0 is.1) inner.derives;
          low = let k = inner.low in omega arith;
        }

-- a tag, if there is one
pub record ReadsTag (ts : List Lexeme) (ns : Syns) (rest : List Lexeme) : Type 0 where
  pub front : List Lexeme
  pub split : ts ≡ front ++ rest
  pub tags : Tags front ns
  pub low : highest ns ≤ 0

pub tag_read : (ts : List Lexeme) → ReadsTag ts (tag ts).0 (tag ts).1
tag_read [] = record { front = []; split = refl; tags = untagged; low = omega arith }
tag_read (n ∷ ts) = by (is_word (symbol n)) refl
  where
    by : (b : Bool) → is_word (symbol n) ≡ b →
        let p : Syns × List Lexeme = (if b then (one (node Kinds.Tag n nil), ts) else (nil, n ∷ ts)) in
        ReadsTag (n ∷ ts) p.0 p.1
    by true e = record { front = n ∷ []; split = refl; tags = tagged n (word_is (symbol n) e); low = omega arith }
    by false e = record { front = []; split = refl; tags = untagged; low = omega arith }

pub highest_joined : (ns xs : Syns) → highest (joined ns xs) ≡ max (highest ns) (highest xs)
highest_joined nil xs = omega arith
highest_joined (more n ns) xs = let k = highest_joined ns xs in omega arith

-- what a specifier that begins with a token is known by
by_name : (types : Names) (t : Lexeme) → begins_type types t ≡ true → symbol t ≡ Symbols.Word →
    is_typedef_name types t ≡ true
by_name types t e is = sym (ap (λ k. begins_specifier k || is_typedef_name types t) is) ∙ e

pub specifying_begins : (types : Names) (named : Bool) (t : Lexeme) → goes_on_specifying types named t ≡ true →
    begins_type types t ≡ true
specifying_begins types named t e = by (begins_specifier (symbol t)) named (is_typedef_name types t) e
  where
    by : (a b c : Bool) → (a || (not b && c)) ≡ true → (a || c) ≡ true
    by true b c e = refl
    by false true c e = cc
    by false false c e = e

-- an expression may stand where a looser one may
pub weaken : {types : Names} {l m : ℕ} {a : List Lexeme} {x : Syn} → l ≤ m → Derives types (Expression m) a x →
    Derives types (Expression l) a x
weaken le (Grammar.name t p q r) = Grammar.name t (omega arith) q r
weaken le (Grammar.number t p q) = Grammar.number t (omega arith) q
weaken le (Grammar.character t p q) = Grammar.character t (omega arith) q
weaken le (Grammar.text t a p q d) = Grammar.text t a (omega arith) q d
weaken le (Grammar.parenthesized o c a p q r d) = Grammar.parenthesized o c a (omega arith) q r d
weaken le (Grammar.index o c a b p q r d e) = Grammar.index o c a b (omega arith) q r d e
weaken le (Grammar.call o c a b p q r d e) = Grammar.call o c a b (omega arith) q r d e
weaken le (Grammar.select o n a p q r d) = Grammar.select o n a (omega arith) q r d
weaken le (Grammar.postfix o a p q d) = Grammar.postfix o a (omega arith) q d
weaken le (Grammar.prefix o a p q d) = Grammar.prefix o a (omega arith) q d
weaken le (Grammar.sizeof_expression o a p q d) = Grammar.sizeof_expression o a (omega arith) q d
weaken le (Grammar.sizeof_type o b c a p q r s d) = Grammar.sizeof_type o b c a (omega arith) q r s d
weaken le (Grammar.cast o c a b p q r d e) = Grammar.cast o c a b (omega arith) q r d e
weaken le (Grammar.binary o a b p q d e) = Grammar.binary o a b (omega arith) q d e
weaken le (Grammar.conditional o m a b c p q r d e f) = Grammar.conditional o m a b c (omega arith) q r d e f
weaken le (Grammar.assignment o a b p q d e) = Grammar.assignment o a b (omega arith) q d e

pub infix_low : (p : InfixOperator) → infix_level p ≤ 12
infix_low (Infixes.Int Add) = omega arith
infix_low (Infixes.Compare Lt) = omega arith
infix_low _ = omega arith

pub level_low : (x : Syn) → level x ≤ 15
level_low (node (Kinds.Infix p) t xs) = let k = infix_low p in omega arith
level_low (node _ t xs) = omega arith

pub opened : {types : Names} {m : Naming} {a : List Lexeme} {x : Syn} → Derives types (Declarator m) a x →
    Declares types m true a (one x)
opened (Grammar.declarator a d) = d

pub starred : {types : Names} {m : Naming} {a : List Lexeme} {xs : Syns} → Declares types m false a xs →
    Declares types m true a xs
starred (Grammar.empty e) = Grammar.empty e
starred (Grammar.declared n e) = Grammar.declared n e
starred (Grammar.enclosed o c a p q d) = Grammar.enclosed o c a p q d
starred (Grammar.open_array o c a p q d) = Grammar.open_array o c a p q d
starred (Grammar.array o c a b p q d e) = Grammar.array o c a b p q d e
starred (Grammar.function o c a b p q d e) = Grammar.function o c a b p q d e

-- what a bracketed part is
pub record Encloses (types : Names) (g : Goal) (s : Symbol) (h : ℕ) (ts : List Lexeme) (x : Syn) (rest : List Lexeme) :
    Type 0 where
  pub front : List Lexeme
  pub close : Lexeme
  pub closes : symbol close ≡ s
  pub split : ts ≡ front ++ (close ∷ rest)
  pub derives : Derives types g front x
  pub low : height x ≤ h

-- and bracketed parts
pub record EnclosesParts (D : List Lexeme → Syns → Type 0) (s : Symbol) (h : ℕ) (ts : List Lexeme) (xs : Syns)
    (rest : List Lexeme) : Type 0 where
  pub front : List Lexeme
  pub close : Lexeme
  pub closes : symbol close ≡ s
  pub split : ts ≡ front ++ (close ∷ rest)
  pub derives : D front xs
  pub low : highest xs ≤ h

-- specifiers, and that none follows
pub record Specifies (types : Names) (h : ℕ) (ts : List Lexeme) (x : Syn) (rest : List Lexeme) : Type 0 where
  pub reads : Reads types Specifiers h ts x rest
  pub stops : starts_with (goes_on_specifying types (names_a_type x)) rest ≡ false

record SpecifiesMore (types : Names) (named : Bool) (h : ℕ) (ts : List Lexeme) (xs : Syns) (rest : List Lexeme) :
    Type 0 where
  reads : ReadsParts (Repeated types Specifier) h ts xs rest
  stops : starts_with (goes_on_specifying types (named || has_any names_type xs)) rest ≡ false

data Some_parts : Syns → Type 0 where
  some : {x : Syn} {xs : Syns} → Some_parts (more x xs)

record ReadsSome (D : List Lexeme → Syns → Type 0) (h : ℕ) (ts : List Lexeme) (xs : Syns) (rest : List Lexeme) :
    Type 0 where
  reads : ReadsParts D h ts xs rest
  some : Some_parts xs

module _ (rec : Reader) (h : ℕ) (sound : Sound rec h) where
  pub bracketed_reads : (g : Goal) (test : Symbol → Bool) (s : Symbol) → ((t : Symbol) → test t ≡ true → t ≡ s) →
      (types : Names) (ts : List Lexeme) →
      Gives (λ p. Encloses types g s h ts p.0 p.1) (Reading.bracketed rec g test types ts)
  bracketed_reads g test s only types ts =
      bind _ (sound g types ts) (λ a inner.
      bind _ (expects test s only a.1) (λ rest end. gives (record {
        front = inner.front;
        close = end.0;
        closes = end.1;
        split = inner.split ∙ ap (λ v. inner.front ++ v) end.2;
        derives = inner.derives;
        low = inner.low;
      })))

  separated_reads : (k : ℕ) (g : Goal) (types : Names) (ts : List Lexeme) →
      Gives (λ p. ReadsParts (Separated types g) h ts p.0 p.1) (Reading.separated rec k g types ts)
  unfolding Reading.separated
  separated_reads zero g types ts = nothing
  separated_reads (suc k) g types ts =
      bind _ (sound g types ts) (λ a inner.
      choose (goes_on_listing a.1)
      (λ on. let c = listing_on a.1 on in
      bind _ (separated_reads k g types (past a.1)) (λ b others. gives (record {
        front = inner.front ++ (c.token ∷ others.front);
        split = inner.split ∙ ap (λ v. inner.front ++ v) (c.split ∙ ap (λ v. c.token ∷ v) others.split)
            ∙ sym (behind inner.front others.front b.1 c.token);
        derives = separated c.token inner.front others.front c.symbol_is inner.derives others.derives;
        low = let k = inner.low in let l = others.low in omega arith;
      })))
      (λ off. gives (record {
        front = inner.front;
        split = inner.split;
        derives = last inner.front inner.derives;
        low = let k = inner.low in omega arith;
      })))

  pub listed_reads : (g : Goal) (types : Names) (ts : List Lexeme) →
      Gives (λ p. ReadsParts (Listed types g) h ts p.0 p.1) (Reading.listed rec g types ts)
  unfolding Reading.listed
  listed_reads g types ts =
      choose (starts is_close_parenthesis ts)
      (λ e. gives (record { front = []; split = refl; derives = Grammar.nothing; low = omega arith }))
      (λ e. also (separated_reads (suc (length ts)) g types ts)
      (λ p inner. record {
        front = inner.front;
        split = inner.split;
        derives = listed inner.front inner.derives;
        low = inner.low;
      }))

  -- a list in braces, with what may trail
  pub record InBraces (types : Names) (g : Goal) (ts : List Lexeme) (xs : Syns) (rest : List Lexeme) : Type 0 where
    pub front : List Lexeme
    pub end : List Lexeme
    pub close : Lexeme
    pub trails : Trails end
    pub closes : symbol close ≡ Symbols.CloseBrace
    pub split : ts ≡ front ++ (end ++ (close ∷ rest))
    pub derives : Separated types g front xs
    pub low : highest xs ≤ h

  pub in_braces_reads : (g : Goal) (types : Names) (ts : List Lexeme) →
      Gives (λ p. InBraces types g ts p.0 p.1) (Reading.listed_in_braces rec g types ts)
  unfolding Reading.listed_in_braces
  in_braces_reads g types ts =
      bind _ (separated_reads (suc (length ts)) g types ts) (λ a inner.
      bind _ (expects is_close_brace Symbols.CloseBrace close_brace_is (past_comma a.1)) (λ rest end.
      let passed = passes a.1 in
      gives (record {
        front = inner.front;
        end = passed.front;
        close = end.0;
        trails = passed.trails;
        closes = end.1;
        split = inner.split ∙ ap (λ v. inner.front ++ v) (passed.split ∙ ap (λ v. passed.front ++ v) end.2);
        derives = inner.derives;
        low = inner.low;
      })))

  members_read : (k : ℕ) (types : Names) (ts : List Lexeme) →
      Gives (λ p. ReadsSome (Repeated types Member) h ts p.0 p.1) (Reading.members rec k types ts)
  unfolding Reading.members
  members_read zero types ts = nothing
  members_read (suc k) types ts =
      bind _ (sound Member types ts) (λ a inner.
      choose (starts is_close_brace a.1)
      (λ e. gives (record {
        reads = record {
          front = inner.front ++ [];
          split = inner.split ∙ ap (λ v. v ++ a.1) (sym (append-nil inner.front));
          derives = repeated inner.front [] inner.derives finished;
          low = let k = inner.low in omega arith;
        };
        some = some;
      }))
      (λ e. bind _ (members_read k types a.1) (λ b others. gives (record {
        reads = record {
          front = inner.front ++ others.reads.front;
          split = inner.split ∙ ap (λ v. inner.front ++ v) others.reads.split
              ∙ sym (append_assoc inner.front others.reads.front b.1);
          derives = repeated inner.front others.reads.front inner.derives others.reads.derives;
          low = let k = inner.low in let l = others.reads.low in omega arith;
        };
        some = some;
      }))))

  -- a tag alone
  record_tag_reads : (k : RecordKind) (t : Lexeme) (types : Names) (ts : List Lexeme) → symbol t ≡ Symbols.Record k →
      Gives (λ p. Reads types Specifier h (t ∷ ts) p.0 p.1) (with_parts (node (Kinds.Record k) t) (tag ts).0 (tag ts).1)
  record_tag_reads k t types [] e = nothing
  record_tag_reads k t types (n ∷ ts) e = by (is_word (symbol n)) refl
    where
      by : (b : Bool) → is_word (symbol n) ≡ b →
          let p : Syns × List Lexeme = (if b then (one (node Kinds.Tag n nil), ts) else (nil, n ∷ ts)) in
          Gives (λ p. Reads types Specifier h (t ∷ (n ∷ ts)) p.0 p.1) (with_parts (node (Kinds.Record k) t) p.0 p.1)
      by true f = gives (record {
        front = t ∷ (n ∷ []);
        split = refl;
        derives = Grammar.record_tag t n e (word_is (symbol n) f);
        low = omega arith;
      })
      by false f = nothing

  enum_tag_reads : (t : Lexeme) (types : Names) (ts : List Lexeme) → symbol t ≡ Symbols.Enum →
      Gives (λ p. Reads types Specifier h (t ∷ ts) p.0 p.1) (with_parts (node Kinds.Enum t) (tag ts).0 (tag ts).1)
  enum_tag_reads t types [] e = nothing
  enum_tag_reads t types (n ∷ ts) e = by (is_word (symbol n)) refl
    where
      by : (b : Bool) → is_word (symbol n) ≡ b →
          let p : Syns × List Lexeme = (if b then (one (node Kinds.Tag n nil), ts) else (nil, n ∷ ts)) in
          Gives (λ p. Reads types Specifier h (t ∷ (n ∷ ts)) p.0 p.1) (with_parts (node Kinds.Enum t) p.0 p.1)
      by true f = gives (record {
        front = t ∷ (n ∷ []);
        split = refl;
        derives = Grammar.enum_tag t n e (word_is (symbol n) f);
        low = omega arith;
      })
      by false f = nothing

  record_reads : (k : RecordKind) (t : Lexeme) (types : Names) (ts : List Lexeme) → symbol t ≡ Symbols.Record k →
      Gives (λ p. Reads types Specifier h (t ∷ ts) p.0 p.1) (Reading.record_from rec k t types ts)
  unfolding Reading.record_from
  record_reads k t types ts e =
      choose (starts is_open_brace (tag ts).1)
      (λ opens. let o = begins_with is_open_brace Symbols.OpenBrace open_brace_is (tag ts).1 opens in
      let g = tag_read ts in
      bind _ (members_read (suc (length ts)) types (past (tag ts).1)) (λ a inner.
      bind _ (expects is_close_brace Symbols.CloseBrace close_brace_is a.1) (λ rest end.
      made o.token g.front end.0 a.0 inner.reads.front rest inner.some inner.reads.derives g.tags o.symbol_is end.1
      g.low inner.reads.low
      (g.split ∙ ap (λ v. g.front ++ v) (o.split
      ∙ ap (λ v. o.token ∷ v) (inner.reads.split ∙ ap (λ v. inner.reads.front ++ v) end.2))))))
      (λ shut. record_tag_reads k t types ts e)
    where
      made : (o : Lexeme) (n : List Lexeme) (c : Lexeme) (xs : Syns) (a rest : List Lexeme) → Some_parts xs →
          Repeated types Member a xs → {ns : Syns} → Tags n ns → symbol o ≡ Symbols.OpenBrace →
          symbol c ≡ Symbols.CloseBrace →
          highest ns ≤ 0 → highest xs ≤ h → ts ≡ n ++ (o ∷ (a ++ (c ∷ rest))) →
          Gives {A = Syn × List Lexeme} (λ p. Reads types Specifier h (t ∷ ts) p.0 p.1)
          (Some (node (Kinds.Record k) t (joined ns xs), rest))
      made o n c nil a rest s d {ns} tags p q low lower split = elim s [ ]
      made o n c (more x xs) a rest some d {ns} tags p q low lower split = gives (record {
        front = t ∷ (n ++ (o ∷ (a ++ (c ∷ []))));
        split = ap (λ v. t ∷ v) (split
            ∙ sym (behind n (a ++ (c ∷ [])) rest o ∙ ap (λ v. n ++ (o ∷ v)) (behind a [] rest c)));
        derives = Grammar.record_members t o c n a e tags p q d;
        low = let k = highest_joined ns (more x xs) in omega arith;
      })

  enum_reads : (t : Lexeme) (types : Names) (ts : List Lexeme) → symbol t ≡ Symbols.Enum →
      Gives (λ p. Reads types Specifier h (t ∷ ts) p.0 p.1) (Reading.enum_from rec t types ts)
  unfolding Reading.enum_from
  enum_reads t types ts e =
      choose (starts is_open_brace (tag ts).1)
      (λ opens. let o = begins_with is_open_brace Symbols.OpenBrace open_brace_is (tag ts).1 opens in
      let g = tag_read ts in
      bind _ (in_braces_reads Enumerator types (past (tag ts).1)) (λ a inner. gives (record {
        front = t ∷ (g.front ++ (o.token ∷ (inner.front ++ (inner.end ++ (inner.close ∷ [])))));
        split = ap (λ v. t ∷ v) (g.split
            ∙ ap (λ v. g.front ++ v) (o.split
            ∙ ap (λ v. o.token ∷ v) (inner.split
            ∙ ap (λ v. inner.front ++ v) (sym (behind inner.end [] a.1 inner.close))
            ∙ sym (append_assoc inner.front (inner.end ++ (inner.close ∷ [])) a.1)))
            ∙ sym (behind g.front (inner.front ++ (inner.end ++ (inner.close ∷ []))) a.1 o.token));
        derives = Grammar.enum_list t o.token inner.close g.front inner.front inner.end e g.tags o.symbol_is
            inner.closes inner.derives inner.trails;
        low = let k = highest_joined (tag ts).0 a.0 in let l = g.low in let m = inner.low in omega arith;
      })))
      (λ shut. enum_tag_reads t types ts e)

  specifier_reads : (types : Names) (t : Lexeme) (ts : List Lexeme) → begins_type types t ≡ true →
      Gives (λ p. Reads types Specifier h (t ∷ ts) p.0 p.1) (Reading.specifier_by rec (symbol t) t types ts)
  specifier_reads types t ts begins = by (symbol t) refl
    where
      by : (s : Symbol) → symbol t ≡ s →
          Gives (λ p. Reads types Specifier h (t ∷ ts) p.0 p.1) (Reading.specifier_by rec s t types ts)
      by (Symbols.Specifier w) e =
          gives (record { front = t ∷ []; split = refl; derives = Grammar.specifier_word t e; low = omega arith })
      by (Symbols.Record k) e = record_reads k t types ts e
      by Symbols.Enum e = enum_reads t types ts e
      by Symbols.Word e = gives (record {
        front = t ∷ [];
        split = refl;
        derives = Grammar.typedef_name t (by_name types t begins e);
        low = omega arith;
      })
      by _ e = nothing

  specifier_list_reads : (k : ℕ) (named : Bool) (types : Names) (ts : List Lexeme) →
      Gives (λ p. SpecifiesMore types named h ts p.0 p.1) (Reading.specifier_list rec k named types ts)
  unfolding Reading.specifier_list
  specifier_list_reads zero named types ts = nothing
  specifier_list_reads (suc k) named types [] =
      gives (record {
        reads = record { front = []; split = refl; derives = finished; low = omega arith };
        stops = refl;
      })
  specifier_list_reads (suc k) named types (t ∷ ts) =
      choose (goes_on_specifying types named t)
      (λ on. bind _ (specifier_reads types t ts (specifying_begins types named t on)) (λ a inner.
      bind _ (specifier_list_reads k (named || names_type a.0) types a.1) (λ b others. gives (record {
        reads = record {
          front = inner.front ++ others.reads.front;
          split = inner.split ∙ ap (λ v. inner.front ++ v) others.reads.split
              ∙ sym (append_assoc inner.front others.reads.front b.1);
          derives = repeated inner.front others.reads.front inner.derives others.reads.derives;
          low = let k = inner.low in let l = others.reads.low in omega arith;
        };
        stops = ap (λ v. starts_with (goes_on_specifying types v) b.1)
            (sym (or_assoc named (names_type a.0) (has_any names_type b.0))) ∙ others.stops;
      }))))
      (λ off. gives (record {
        reads = record { front = []; split = refl; derives = finished; low = omega arith };
        stops = ap (λ v. goes_on_specifying types v t) (or_false named) ∙ off;
      }))

  pub specifiers_read : (types : Names) (ts : List Lexeme) →
      Gives (λ p. Specifies types h ts p.0 p.1) (Reading.specifiers rec types ts)
  unfolding Reading.specifiers
  specifiers_read types ts =
      bind _ (specifier_list_reads (suc (length ts)) false types ts) (λ a inner. by a.0 a.1 inner)
    where
      by : (xs : Syns) (rest : List Lexeme) → SpecifiesMore types false h ts xs rest →
          Gives (λ p. Specifies types h ts p.0 p.1) (Reading.gathered rec xs rest)
      by nil rest inner = nothing
      by (more x xs) rest inner = guard (is_agreed (more x xs)) (λ agreed. gives (record {
        reads = record {
          front = inner.reads.front;
          split = inner.reads.split;
          derives = Grammar.specifiers inner.reads.front inner.reads.derives agreed;
          low = let k = inner.reads.low in omega arith;
        };
        stops = inner.stops;
      }))

  pub optional_declarator_reads : (m : Naming) (types : Names) (ts : List Lexeme) →
      Gives (λ p. ReadsParts (Declares types m true) h ts p.0 p.1) (Reading.optional_declarator rec m types ts)
  unfolding Reading.optional_declarator
  optional_declarator_reads m types ts =
      choose (starts begins_declarator ts)
      (λ e. bind _ (sound (Declarator m) types ts)
      (λ d inner. gives (record {
        front = inner.front;
        split = inner.split;
        derives = opened inner.derives;
        low = let k = inner.low in omega arith;
      })))
      (λ e. guard (may_be_nameless m) (λ f. gives
      (record { front = []; split = refl; derives = Grammar.empty f; low = omega arith })))

  pub type_name_reads : (types : Names) (ts : List Lexeme) →
      Gives (λ p. Reads types TypeName h ts p.0 p.1) (Reading.type_name rec types ts)
  unfolding Reading.type_name
  type_name_reads types ts =
      bind _ (specifiers_read types ts) (λ s first.
      bind _ (optional_declarator_reads Nameless types s.1) (λ d inner. gives (record {
        front = first.reads.front ++ inner.front;
        split = first.reads.split ∙ ap (λ v. first.reads.front ++ v) inner.split
            ∙ sym (append_assoc first.reads.front inner.front d.1);
        derives = Grammar.type_name first.reads.front inner.front first.reads.derives inner.derives;
        low = let k = first.reads.low in let l = inner.low in omega arith;
      })))

-- the declarator before a suffix, and what was read from there
abbrev pub ReadsDirect : Names → Naming → ℕ → List Lexeme → Option Syn → List Lexeme → Type 0
ReadsDirect types m h ts x rest = ReadsParts (Declares types m false) h ts (parts_of x) rest

-- a longer tree, which may stand where an expression of level l is read
pub record Grows (types : Names) (h l : ℕ) (ts : List Lexeme) (x : Syn) (rest : List Lexeme) : Type 0 where
  pub reads : Reads types (Expression (level x)) h ts x rest
  pub loose : l ≤ level x

module _ (rec : Reader) (h : ℕ) (sound : Sound rec h) where
  parentheses_read : (o : Lexeme) (types : Names) (ts : List Lexeme) → head_of (symbol o) ≡ Heads.Opens →
      Gives (λ p. Reads types (Expression (level p.0)) (suc h) (o ∷ ts) p.0 p.1)
      (Reading.in_parentheses rec (suc h) o types ts)
  unfolding Reading.in_parentheses
  parentheses_read o types ts opens =
      bind _ (bracketed_reads rec h sound (Expression 0) is_close_parenthesis Symbols.CloseParenthesis
      close_parenthesis_is types ts) (λ a inner. gives (record {
        front = o ∷ (inner.front ++ (inner.close ∷ []));
        split = ap (λ v. o ∷ v) (inner.split ∙ sym (behind inner.front [] a.1 inner.close));
        derives = Grammar.parenthesized o inner.close inner.front (omega arith) opens inner.closes inner.derives;
        low = let k = inner.low in omega arith;
      }))

  cast_reads : (o : Lexeme) (types : Names) (ts : List Lexeme) → head_of (symbol o) ≡ Heads.Opens →
      Gives (λ p. Reads types (Expression (level p.0)) (suc h) (o ∷ ts) p.0 p.1)
      (Reading.cast_from rec (suc h) o types ts)
  unfolding Reading.cast_from
  cast_reads o types ts opens =
      bind _ (type_name_reads rec h sound types ts) (λ a inner.
      bind _ (expects is_close_parenthesis Symbols.CloseParenthesis close_parenthesis_is a.1) (λ rest end.
      bind _ (sound (Expression 13) types rest) (λ b operand. gives (record {
        front = o ∷ (inner.front ++ (end.0 ∷ operand.front));
        split = ap (λ v. o ∷ v) (inner.split ∙ ap (λ v. inner.front ++ v) (end.2 ∙ ap (λ v. end.0 ∷ v) operand.split)
            ∙ sym (behind inner.front operand.front b.1 end.0));
        derives = Grammar.cast o end.0 inner.front operand.front
            (omega arith) opens end.1 inner.derives operand.derives;
        low = let k = inner.low in let m = operand.low in omega arith;
      }))))

  prefix_reads : (p : PrefixOperator) (o : Lexeme) (types : Names) (ts : List Lexeme) →
      head_of (symbol o) ≡ Heads.Prefixes p →
      Gives (λ p. Reads types (Expression (level p.0)) (suc h) (o ∷ ts) p.0 p.1)
      (Reading.prefix_from rec (suc h) p o types ts)
  unfolding Reading.prefix_from
  prefix_reads p o types ts opens =
      bind _ (sound (Expression (operand_level p)) types ts) (λ a inner. gives (record {
        front = o ∷ inner.front;
        split = ap (λ v. o ∷ v) inner.split;
        derives = Grammar.prefix o inner.front (omega arith) opens inner.derives;
        low = let k = inner.low in omega arith;
      }))

  measure_reads : (o : Lexeme) (types : Names) (ts : List Lexeme) → head_of (symbol o) ≡ Heads.Measures →
      Gives (λ p. Reads types (Expression (level p.0)) (suc h) (o ∷ ts) p.0 p.1)
      (Reading.measure_from rec (suc h) o types ts)
  unfolding Reading.measure_from Reading.size_from
  measure_reads o types ts opens =
      choose (opens_type types ts)
      (λ e. by ts e)
      (λ e. bind _ (sound (Expression 14) types ts) (λ a inner. gives (record {
        front = o ∷ inner.front;
        split = ap (λ v. o ∷ v) inner.split;
        derives = Grammar.sizeof_expression o inner.front (omega arith) opens inner.derives;
        low = let k = inner.low in omega arith;
      })))
    where
      by : (ts : List Lexeme) → opens_type types ts ≡ true →
          Gives (λ p. Reads types (Expression (level p.0)) (suc h) (o ∷ ts) p.0 p.1)
          (Reading.size_from rec (suc h) o types (past ts))
      by [] e = cc
      by (b ∷ ts) e =
          bind _ (type_name_reads rec h sound types ts) (λ a inner.
          bind _ (expects is_close_parenthesis Symbols.CloseParenthesis close_parenthesis_is a.1)
          (λ rest end. gives (record {
            front = o ∷ (b ∷ (inner.front ++ (end.0 ∷ [])));
            split = ap (λ v. o ∷ (b ∷ v)) (inner.split ∙ ap (λ v. inner.front ++ v) end.2
                ∙ sym (behind inner.front [] rest end.0));
            derives = Grammar.sizeof_type o b end.0 inner.front (omega arith) opens
                (open_parenthesis_is (symbol b) (both_true _ _ e).0) end.1 inner.derives;
            low = let k = inner.low in omega arith;
          })))

  text_reads : (t : Lexeme) (types : Names) (ts : List Lexeme) → head_of (symbol t) ≡ Heads.Text →
      Gives (λ p. Reads types (Expression (level p.0)) (suc h) (t ∷ ts) p.0 p.1)
      (Reading.grow rec (suc h) (node Kinds.Text t (pieces ts).0) (pieces ts).1)
  text_reads t types ts e =
      let inner = pieces_read {types = types} ts in
      guard (nat_le (height (node Kinds.Text t (pieces ts).0)) (suc h)) (λ low. gives (record {
        front = t ∷ inner.front;
        split = ap (λ v. t ∷ v) inner.split;
        derives = Grammar.text t inner.front (omega arith) e inner.derives;
        low = le_of _ _ low;
      }))

  operand_reads : (types : Names) (ts : List Lexeme) →
      Gives (λ p. Reads types (Expression (level p.0)) (suc h) ts p.0 p.1) (Reading.operand rec (suc h) types ts)
  unfolding Reading.operand
  operand_reads types [] = nothing
  operand_reads types (t ∷ ts) = by (head_of (symbol t)) refl
    where
      by : (k : Head) → head_of (symbol t) ≡ k →
          Gives (λ p. Reads types (Expression (level p.0)) (suc h) (t ∷ ts) p.0 p.1)
          (Reading.operand_by rec (suc h) k t types ts)
      by Heads.Name e = choose (is_typedef_name types t) (λ b. nothing)
          (λ b. gives (record {
            front = t ∷ [];
            split = refl;
            derives = Grammar.name t (omega arith) e b;
            low = omega arith;
          }))
      by Heads.Number e = gives (record {
        front = t ∷ [];
        split = refl;
        derives = Grammar.number t (omega arith) e;
        low = omega arith;
      })
      by Heads.Character e = gives (record {
        front = t ∷ [];
        split = refl;
        derives = Grammar.character t (omega arith) e;
        low = omega arith;
      })
      by Heads.Text e = text_reads t types ts e
      by Heads.Opens e = choose (starts_with (begins_type types) ts) (λ b. cast_reads t types ts e)
          (λ b. parentheses_read t types ts e)
      by (Heads.Prefixes p) e = prefix_reads p t types ts e
      by Heads.Measures e = measure_reads t types ts e
      by Heads.NoHead e = nothing

  grow_reads : (l : ℕ) (types : Names) (y : Syn) (a ts whole : List Lexeme) → whole ≡ a ++ ts → l ≤ level y →
      Derives types (Expression (level y)) a y →
      Gives (λ p. Grows types (suc h) l whole p.0 p.1) (Reading.grow rec (suc h) y ts)
  grow_reads l types y a ts whole same le d =
      guard (nat_le (height y) (suc h)) (λ low.
      gives (record { reads = record { front = a; split = same; derives = d; low = le_of _ _ low }; loose = le }))

  infix_reads : (l : ℕ) (p : InfixOperator) (types : Names) →
      (x : Syn) (a : List Lexeme) (o : Lexeme) (ts : List Lexeme) → tail_of (symbol o) ≡ Tails.Joins p →
      l ≤ infix_level p → infix_level p ≤ level x → Derives types (Expression (level x)) a x →
      Gives (λ p. Grows types (suc h) l (a ++ (o ∷ ts)) p.0 p.1) (Reading.infix_from rec (suc h) p x o types ts)
  unfolding Reading.infix_from
  infix_reads l p types x a o ts tail le fits d =
      bind _ (sound (Expression (infix_level p + 1)) types ts) (λ b inner.
      grow_reads l types (node (Kinds.Infix p) o (two x b.0)) (a ++ (o ∷ inner.front)) b.1 (a ++ (o ∷ ts))
      (ap (λ v. a ++ (o ∷ v)) inner.split ∙ sym (behind a inner.front b.1 o))
      le
      (Grammar.binary o a inner.front (omega arith) tail (weaken fits d) inner.derives))

  index_reads : (l : ℕ) (types : Names) → (x : Syn) (a : List Lexeme) (o : Lexeme) (ts : List Lexeme) →
      tail_of (symbol o) ≡ Tails.Indexes → l ≤ 15 → 15 ≤ level x → Derives types (Expression (level x)) a x →
      Gives (λ p. Grows types (suc h) l (a ++ (o ∷ ts)) p.0 p.1) (Reading.index_from rec (suc h) x o types ts)
  unfolding Reading.index_from
  index_reads l types x a o ts tail le fits d =
      bind _ (bracketed_reads rec h sound (Expression 0) is_close_bracket Symbols.CloseBracket close_bracket_is types
      ts) (λ b inner.
      grow_reads l types (node Kinds.Index o (two x b.0)) (a ++ (o ∷ (inner.front ++ (inner.close ∷ [])))) b.1
      (a ++ (o ∷ ts))
      (ap (λ v. a ++ (o ∷ v)) (inner.split ∙ sym (behind inner.front [] b.1 inner.close)) ∙ sym (behind a _ b.1 o))
      (omega arith)
      (Grammar.index o inner.close a inner.front (omega arith) tail inner.closes (weaken fits d) inner.derives))

  call_reads : (l : ℕ) (types : Names) → (x : Syn) (a : List Lexeme) (o : Lexeme) (ts : List Lexeme) →
      tail_of (symbol o) ≡ Tails.Calls → l ≤ 15 → 15 ≤ level x → Derives types (Expression (level x)) a x →
      Gives (λ p. Grows types (suc h) l (a ++ (o ∷ ts)) p.0 p.1) (Reading.call_from rec (suc h) x o types ts)
  unfolding Reading.call_from
  call_reads l types x a o ts tail le fits d =
      bind _ (listed_reads rec h sound (Expression 1) types ts) (λ b inner.
      bind _ (expects is_close_parenthesis Symbols.CloseParenthesis close_parenthesis_is b.1) (λ rest end.
      grow_reads l types (node Kinds.Call o (more x b.0)) (a ++ (o ∷ (inner.front ++ (end.0 ∷ [])))) rest
      (a ++ (o ∷ ts))
      (ap (λ v. a ++ (o ∷ v)) (inner.split ∙ ap (λ v. inner.front ++ v) end.2 ∙ sym (behind inner.front [] rest end.0))
      ∙ sym (behind a _ rest o))
      (omega arith)
      (Grammar.call o end.0 a inner.front (omega arith) tail end.1 (weaken fits d) inner.derives)))

  select_reads : (l : ℕ) (s : Selection) (types : Names) → (x : Syn) (a : List Lexeme) (o : Lexeme) (ts : List Lexeme) →
      tail_of (symbol o) ≡ Tails.Selects s → l ≤ 15 → 15 ≤ level x → Derives types (Expression (level x)) a x →
      Gives (λ p. Grows types (suc h) l (a ++ (o ∷ ts)) p.0 p.1) (Reading.select_from rec (suc h) s x o ts)
  unfolding Reading.select_from
  select_reads l s types x a o [] tail le fits d = nothing
  select_reads l s types x a o (n ∷ ts) tail le fits d =
      guard (is_word (symbol n)) (λ e.
      grow_reads l types (node (Kinds.Select s) o (two x (node Kinds.MemberName n nil))) (a ++ (o ∷ (n ∷ []))) ts
      (a ++ (o ∷ (n ∷ ts)))
      (sym (behind a (n ∷ []) ts o))
      (omega arith)
      (Grammar.select o n a (omega arith) tail (word_is (symbol n) e) (weaken fits d)))

  choice_reads : (l : ℕ) (types : Names) → (x : Syn) (a : List Lexeme) (o : Lexeme) (ts : List Lexeme) →
      tail_of (symbol o) ≡ Tails.Asks → l ≤ 2 → 3 ≤ level x → Derives types (Expression (level x)) a x →
      Gives (λ p. Grows types (suc h) l (a ++ (o ∷ ts)) p.0 p.1) (Reading.choice_from rec (suc h) x o types ts)
  unfolding Reading.choice_from
  choice_reads l types x a o ts tail le fits d =
      bind _ (bracketed_reads rec h sound (Expression 0) is_colon Symbols.Colon colon_is types ts) (λ b inner.
      bind _ (sound (Expression 2) types b.1) (λ c last.
      grow_reads l types (node Kinds.Conditional o (three x b.0 c.0))
      (a ++ (o ∷ (inner.front ++ (inner.close ∷ last.front)))) c.1 (a ++ (o ∷ ts))
      (ap (λ v. a ++ (o ∷ v)) (inner.split ∙ ap (λ v. inner.front ++ (inner.close ∷ v)) last.split
      ∙ sym (behind inner.front last.front c.1 inner.close)) ∙ sym (behind a _ c.1 o))
      (omega arith)
      (Grammar.conditional o inner.close a inner.front last.front (omega arith) tail inner.closes
      (weaken fits d) inner.derives last.derives)))

  assign_reads : (l : ℕ) (p : Option IntOp) (types : Names) →
      (x : Syn) (a : List Lexeme) (o : Lexeme) (ts : List Lexeme) → tail_of (symbol o) ≡ Tails.Assigns p → l ≤ 1 →
      14 ≤ level x → Derives types (Expression (level x)) a x →
      Gives (λ p. Grows types (suc h) l (a ++ (o ∷ ts)) p.0 p.1) (Reading.assign_from rec (suc h) p x o types ts)
  unfolding Reading.assign_from
  assign_reads l p types x a o ts tail le fits d =
      bind _ (sound (Expression 1) types ts) (λ b inner.
      grow_reads l types (node (Kinds.Assignment p) o (two x b.0)) (a ++ (o ∷ inner.front)) b.1 (a ++ (o ∷ ts))
      (ap (λ v. a ++ (o ∷ v)) inner.split ∙ sym (behind a inner.front b.1 o))
      (omega arith)
      (Grammar.assignment o a inner.front (omega arith) tail (weaken fits d) inner.derives))

  longer_reads : (k : Tail) (l : ℕ) (types : Names) → (x : Syn) (a : List Lexeme) (o : Lexeme) (ts : List Lexeme) →
      tail_of (symbol o) ≡ k → l ≤ level x → level x ≤ 15 → goes_on k l (level x) ≡ true →
      Derives types (Expression (level x)) a x →
      Gives (λ p. Grows types (suc h) l (a ++ (o ∷ ts)) p.0 p.1) (Reading.longer rec (suc h) k x o types ts)
  longer_reads Tails.Indexes l types x a o ts tail le top on d =
      index_reads l types x a o ts tail (omega arith) (le_of _ _ on) d
  longer_reads Tails.Calls l types x a o ts tail le top on d =
      call_reads l types x a o ts tail (omega arith) (le_of _ _ on) d
  longer_reads (Tails.Selects s) l types x a o ts tail le top on d =
      select_reads l s types x a o ts tail (omega arith) (le_of _ _ on) d
  longer_reads (Tails.Steps s) l types x a o ts tail le top on d =
      grow_reads l types (node (Kinds.Postfix s) o (one x)) (a ++ (o ∷ [])) ts (a ++ (o ∷ ts)) (sym (behind a [] ts o))
      (omega arith) (Grammar.postfix o a (omega arith) tail (weaken (le_of _ _ on) d))
  longer_reads (Tails.Joins p) l types x a o ts tail le top on d =
      let b = both_true _ _ on in infix_reads l p types x a o ts tail (le_of _ _ b.0) (le_of _ _ b.1) d
  longer_reads Tails.Asks l types x a o ts tail le top on d =
      let b = both_true _ _ on in choice_reads l types x a o ts tail (le_of _ _ b.0) (le_of _ _ b.1) d
  longer_reads (Tails.Assigns p) l types x a o ts tail le top on d =
      let b = both_true _ _ on in assign_reads l p types x a o ts tail (le_of _ _ b.0) (le_of _ _ b.1) d
  longer_reads Tails.Ends l types x a o ts tail le top on d = nothing

  climb_reads : (k l : ℕ) (types : Names) (x : Syn) (a ts : List Lexeme) → l ≤ level x →
      Derives types (Expression (level x)) a x → height x ≤ suc h →
      Gives (λ p. Reads types (Expression l) (suc h) (a ++ ts) p.0 p.1) (Reading.climb rec (suc h) k l types x ts)
  unfolding Reading.climb
  climb_reads zero l types x a ts le d low = nothing
  climb_reads (suc k) l types x a [] le d low =
      gives (record { front = a; split = refl; derives = weaken le d; low = low })
  climb_reads (suc k) l types x a (o ∷ ts) le d low =
      choose (goes_on (tail_of (symbol o)) l (level x))
      (λ on. bind _ (longer_reads (tail_of (symbol o)) l types x a o ts refl le (level_low x) on d) (λ b inner.
      subst (λ w. Gives (λ p. Reads types (Expression l) (suc h) w p.0 p.1)
      (Reading.climb rec (suc h) k l types b.0 b.1)) (sym inner.reads.split)
      (climb_reads k l types b.0 inner.reads.front b.1 inner.loose inner.reads.derives inner.reads.low)))
      (λ off. gives (record { front = a; split = refl; derives = weaken le d; low = low }))

  expression_reads : (l : ℕ) (types : Names) (ts : List Lexeme) →
      Gives (λ p. Reads types (Expression l) (suc h) ts p.0 p.1) (Reading.expression rec (suc h) l types ts)
  unfolding Reading.expression
  expression_reads l types ts =
      bind _ (operand_reads types ts) (λ a inner. guard (nat_le l (level a.0)) (λ le.
      subst (λ w. Gives (λ p. Reads types (Expression l) (suc h) w p.0 p.1)
      (Reading.climb rec (suc h) (suc (suc h)) l types a.0 a.1)) (sym inner.split)
      (climb_reads (suc (suc h)) l types a.0 inner.front a.1 (le_of _ _ le) inner.derives inner.low)))

  -- Declarators

  pointer_reads : (m : Naming) (o : Lexeme) (types : Names) (ts : List Lexeme) → symbol o ≡ Symbols.Star →
      Gives (λ p. Reads types (Declarator m) (suc h) (o ∷ ts) p.0 p.1) (Reading.pointer_from rec (suc h) m o types ts)
  unfolding Reading.pointer_from
  pointer_reads m o types ts e =
      let q = qualifiers_read {types = types} ts in
      bind _ (optional_declarator_reads rec h sound m types (qualifiers ts).1) (λ d inner. gives (record {
        front = o ∷ (q.front ++ inner.front);
        split = ap (λ v. o ∷ v) (q.split ∙ ap (λ v. q.front ++ v) inner.split
            ∙ sym (append_assoc q.front inner.front d.1));
        derives = Grammar.declarator _ (Grammar.pointer o q.front inner.front e q.derives inner.derives);
        low = let k = q.low in let l = inner.low in omega arith;
      }))

  enclosed_reads : (m : Naming) (o : Lexeme) (types : Names) (ts : List Lexeme) → symbol o ≡ Symbols.OpenParenthesis →
      Gives (λ p. ReadsDirect types m (suc h) (o ∷ ts) (Some p.0) p.1) (Reading.enclosed_from rec (suc h) m o types ts)
  unfolding Reading.enclosed_from
  enclosed_reads m o types ts e =
      bind _ (bracketed_reads rec h sound (Declarator m) is_close_parenthesis Symbols.CloseParenthesis
      close_parenthesis_is types ts) (λ a inner. gives (record {
        front = o ∷ (inner.front ++ (inner.close ∷ []));
        split = ap (λ v. o ∷ v) (inner.split ∙ sym (behind inner.front [] a.1 inner.close));
        derives = Grammar.enclosed o inner.close inner.front e inner.closes (opened inner.derives);
        low = let k = inner.low in omega arith;
      }))

  core_reads : (m : Naming) (types : Names) (ts : List Lexeme) →
      Gives (λ p. ReadsDirect types m (suc h) ts p.0 p.1) (Reading.core rec (suc h) m types ts)
  unfolding Reading.core
  core_reads m types [] = nothing
  core_reads m types (t ∷ ts) =
      choose (is_word (symbol t))
      (λ word. guard (is_declared_by m types t)
      (λ e. gives (record { front = t ∷ []; split = refl; derives = Grammar.declared t e; low = omega arith })))
      (λ no_word. choose (is_open_parenthesis (symbol t) && not (may_be_nameless m && opens_parameters types ts))
      (λ e. bind _ (enclosed_reads m t types ts (open_parenthesis_is (symbol t) (both_true _ _ e).0))
      (λ a inner. gives inner))
      (λ e. guard (may_be_nameless m) (λ f. gives
      (record { front = []; split = refl; derives = Grammar.empty f; low = omega arith }))))

  array_reads : (m : Naming) (types : Names) (x : Option Syn) (a : List Lexeme) (o : Lexeme) (ts : List Lexeme) →
      symbol o ≡ Symbols.OpenBracket → Declares types m false a (parts_of x) →
      Gives (λ p. ReadsDirect types m (suc h) (a ++ (o ∷ ts)) (Some p.0) p.1)
      (Reading.array_from rec (suc h) x o types ts)
  unfolding Reading.array_from
  array_reads m types x a o ts e d =
      choose (starts is_close_bracket ts)
      (λ shut. let c = begins_with is_close_bracket Symbols.CloseBracket close_bracket_is ts shut in
      guard (nat_le (height (node Kinds.OpenArray o (parts_of x))) (suc h)) (λ low. gives (record {
        front = a ++ (o ∷ (c.token ∷ []));
        split = ap (λ v. a ++ (o ∷ v)) c.split ∙ sym (behind a (c.token ∷ []) (past ts) o);
        derives = Grammar.open_array o c.token a e c.symbol_is d;
        low = let k = le_of _ _ low in omega arith;
      })))
      (λ off. bind _ (bracketed_reads rec h sound
      (Expression 2) is_close_bracket Symbols.CloseBracket close_bracket_is types ts) (λ b inner.
      guard (nat_le (height (node Kinds.Array o (then_one (parts_of x) b.0))) (suc h)) (λ low. gives (record {
        front = a ++ (o ∷ (inner.front ++ (inner.close ∷ [])));
        split = ap (λ v. a ++ (o ∷ v)) (inner.split ∙ sym (behind inner.front [] b.1 inner.close))
            ∙ sym (behind a _ b.1 o);
        derives = Grammar.array o inner.close a inner.front e inner.closes d inner.derives;
        low = let k = le_of _ _ low in omega arith;
      }))))

  function_reads : (m : Naming) (types : Names) (x : Option Syn) (a : List Lexeme) (o : Lexeme) (ts : List Lexeme) →
      symbol o ≡ Symbols.OpenParenthesis → Declares types m false a (parts_of x) →
      Gives (λ p. ReadsDirect types m (suc h) (a ++ (o ∷ ts)) (Some p.0) p.1)
      (Reading.function_from rec (suc h) x o types ts)
  unfolding Reading.function_from
  function_reads m types x a o ts e d =
      bind _ (listed_reads rec h sound Parameter types ts) (λ b inner.
      bind _ (expects is_close_parenthesis Symbols.CloseParenthesis close_parenthesis_is b.1) (λ rest end.
      guard (nat_le (height (node Kinds.Function o (then_one (parts_of x) (node Kinds.Parameters o b.0)))) (suc h))
      (λ low. gives (record {
        front = a ++ (o ∷ (inner.front ++ (end.0 ∷ [])));
        split = ap (λ v. a ++ (o ∷ v)) (inner.split ∙ ap (λ v. inner.front ++ v) end.2
            ∙ sym (behind inner.front [] rest end.0)) ∙ sym (behind a _ rest o);
        derives = Grammar.function o end.0 a inner.front e end.1 d inner.derives;
        low = let k = le_of _ _ low in omega arith;
      }))))

  suffixes_read : (k : ℕ) (m : Naming) (types : Names) (x : Option Syn) (a ts : List Lexeme) →
      Declares types m false a (parts_of x) → highest (parts_of x) ≤ suc h →
      Gives (λ p. ReadsDirect types m (suc h) (a ++ ts) p.0 p.1) (Reading.suffixes rec (suc h) k types x ts)
  unfolding Reading.suffixes
  suffixes_read zero m types x a ts d low = nothing
  suffixes_read (suc k) m types x a [] d low = gives (record { front = a; split = refl; derives = d; low = low })
  suffixes_read (suc k) m types x a (o ∷ ts) d low =
      choose (is_open_bracket (symbol o))
      (λ e. bind _ (array_reads m types x a o ts (open_bracket_is (symbol o) e) d) (λ b inner.
      subst (λ w. Gives (λ p. ReadsDirect types m (suc h) w p.0 p.1)
      (Reading.suffixes rec (suc h) k types (Some b.0) b.1)) (sym inner.split)
      (suffixes_read k m types (Some b.0) inner.front b.1 inner.derives inner.low)))
      (λ off. choose (is_open_parenthesis (symbol o))
      (λ e. bind _ (function_reads m types x a o ts (open_parenthesis_is (symbol o) e) d) (λ b inner.
      subst (λ w. Gives (λ p. ReadsDirect types m (suc h) w p.0 p.1)
      (Reading.suffixes rec (suc h) k types (Some b.0) b.1)) (sym inner.split)
      (suffixes_read k m types (Some b.0) inner.front b.1 inner.derives inner.low)))
      (λ e. gives (record { front = a; split = refl; derives = d; low = low })))

  direct_reads : (m : Naming) (types : Names) (ts : List Lexeme) →
      Gives (λ p. Reads types (Declarator m) (suc h) ts p.0 p.1) (Reading.direct rec (suc h) m types ts)
  unfolding Reading.direct
  direct_reads m types ts =
      bind _ (core_reads m types ts) (λ a start.
      bind {P = λ p. ReadsDirect types m (suc h) ts p.0 p.1} _
      (subst (λ w. Gives (λ p. ReadsDirect types m (suc h) w p.0 p.1)
      (Reading.suffixes rec (suc h) (suc (suc h)) types a.0 a.1)) (sym start.split)
      (suffixes_read (suc (suc h)) m types a.0 start.front a.1 start.derives start.low))
      (λ b inner. by b.0 b.1 inner))
    where
      by : (x : Option Syn) (rest : List Lexeme) → ReadsDirect types m (suc h) ts x rest →
          Gives {A = Syn × List Lexeme} (λ p. Reads types (Declarator m) (suc h) ts p.0 p.1) (x >>= λ x. Some (x, rest))
      by None rest inner = nothing
      by (Some x) rest inner = gives (record {
        front = inner.front;
        split = inner.split;
        derives = Grammar.declarator _ (starred inner.derives);
        low = let k = inner.low in omega arith;
      })

  declarator_reads : (m : Naming) (types : Names) (ts : List Lexeme) →
      Gives (λ p. Reads types (Declarator m) (suc h) ts p.0 p.1) (Reading.declarator rec (suc h) m types ts)
  unfolding Reading.declarator
  declarator_reads m types [] = nothing
  declarator_reads m types (t ∷ ts) =
      choose (is_star (symbol t)) (λ e. pointer_reads m t types ts (star_is (symbol t) e))
      (λ e. direct_reads m types (t ∷ ts))

  parameter_reads : (types : Names) (ts : List Lexeme) →
      Gives (λ p. Reads types Parameter (suc h) ts p.0 p.1) (Reading.parameter rec (suc h) types ts)
  unfolding Reading.parameter
  parameter_reads types ts =
      bind _ (specifiers_read rec h sound types ts) (λ s first.
      bind _ (optional_declarator_reads rec h sound Either types s.1) (λ d inner. gives (record {
        front = first.reads.front ++ inner.front;
        split = first.reads.split ∙ ap (λ v. first.reads.front ++ v) inner.split
            ∙ sym (append_assoc first.reads.front inner.front d.1);
        derives = Grammar.parameter first.reads.front inner.front first.reads.derives inner.derives;
        low = let k = first.reads.low in let l = inner.low in omega arith;
      })))

  -- Members, enumerators, initializers

  -- what follows the specifiers is none of them
  may_follow_all : (types : Names) (s : Syn) (b r : List Lexeme) →
      starts_with (goes_on_specifying types (names_a_type s)) (b ++ r) ≡ false → may_follow types s b ≡ true
  may_follow_all types s [] r e = by (names_a_type s)
    where
      by : (n : Bool) → (n || true) ≡ true
      by true = refl
      by false = refl
  may_follow_all types s (t ∷ b) r e = by (names_a_type s) (begins_specifier (symbol t)) (is_typedef_name types t) e
    where
      by : (n g d : Bool) → (g || (not n && d)) ≡ false → (n || not d) ≡ true
      by true g d e = refl
      by false true d e = cc
      by false false true e = cc
      by false false false e = refl

  member_reads : (types : Names) (ts : List Lexeme) →
      Gives (λ p. Reads types Member (suc h) ts p.0 p.1) (Reading.member rec (suc h) types ts)
  unfolding Reading.member
  member_reads types ts =
      bind _ (specifiers_read rec h sound types ts) (λ s first.
      bind _ (separated_reads rec h sound (suc (length s.1)) (Declarator Any) types s.1) (λ d inner.
      bind _ (expects is_semicolon Symbols.Semicolon semicolon_is d.1) (λ rest end. gives (record {
        front = first.reads.front ++ (inner.front ++ (end.0 ∷ []));
        split = first.reads.split
            ∙ ap (λ v. first.reads.front ++ v) (inner.split ∙ ap (λ v. inner.front ++ v) end.2
            ∙ sym (behind inner.front [] rest end.0))
            ∙ sym (append_assoc first.reads.front (inner.front ++ (end.0 ∷ [])) rest);
        derives = Grammar.member end.0 first.reads.front inner.front end.1 first.reads.derives inner.derives
            (may_follow_all types s.0 inner.front d.1
            (ap (λ v. starts_with (goes_on_specifying types (names_a_type s.0)) v) (sym inner.split)
            ∙ first.stops));
        low = let k = first.reads.low in let l = inner.low in omega arith;
      }))))

  enumerator_reads : (types : Names) (ts : List Lexeme) →
      Gives (λ p. Reads types Enumerator (suc h) ts p.0 p.1) (Reading.enumerator rec (suc h) types ts)
  unfolding Reading.enumerator
  enumerator_reads types [] = nothing
  enumerator_reads types (n ∷ ts) =
      guard (is_declared_by Plain types n) (λ name.
      choose (starts is_equals ts)
      (λ on. let e = begins_with is_equals (Symbols.Assignment None) equals_is ts on in
      bind _ (sound (Expression 2) types (past ts)) (λ a inner. gives (record {
        front = n ∷ (e.token ∷ inner.front);
        split = ap (λ v. n ∷ v) (e.split ∙ ap (λ v. e.token ∷ v) inner.split);
        derives = Grammar.enumerator_value n e.token inner.front name e.symbol_is inner.derives;
        low = let k = inner.low in omega arith;
      })))
      (λ off. gives (record { front = n ∷ []; split = refl; derives = Grammar.enumerator n name; low = omega arith })))

  braces_read : (o : Lexeme) (types : Names) (ts : List Lexeme) → symbol o ≡ Symbols.OpenBrace →
      Gives (λ p. Reads types Initializer (suc h) (o ∷ ts) p.0 p.1) (Reading.braces_from rec (suc h) o types ts)
  unfolding Reading.braces_from
  braces_read o types ts e =
      choose (starts is_close_brace ts)
      (λ shut. let c = begins_with is_close_brace Symbols.CloseBrace close_brace_is ts shut in
      gives (record {
        front = o ∷ (c.token ∷ []);
        split = ap (λ v. o ∷ v) c.split;
        derives = Grammar.empty_braces o c.token e c.symbol_is;
        low = omega arith;
      }))
      (λ off. bind _ (in_braces_reads rec h sound Initializer types ts) (λ a inner. gives (record {
        front = o ∷ (inner.front ++ (inner.end ++ (inner.close ∷ [])));
        split = ap (λ v. o ∷ v) (inner.split ∙ ap (λ v. inner.front ++ v) (sym (behind inner.end [] a.1 inner.close))
            ∙ sym (append_assoc inner.front (inner.end ++ (inner.close ∷ [])) a.1));
        derives = Grammar.braces o inner.close inner.front inner.end e inner.closes inner.derives inner.trails;
        low = let k = inner.low in omega arith;
      })))

  initializer_reads : (types : Names) (ts : List Lexeme) →
      Gives (λ p. Reads types Initializer (suc h) ts p.0 p.1) (Reading.initializer rec (suc h) types ts)
  unfolding Reading.initializer
  initializer_reads types [] = nothing
  initializer_reads types (t ∷ ts) =
      choose (is_open_brace (symbol t))
      (λ e. braces_read t types ts (open_brace_is (symbol t) e))
      (λ e. also (expression_reads 1 types (t ∷ ts))
      (λ p inner. record {
        front = inner.front;
        split = inner.split;
        derives = Grammar.plain_initializer inner.front inner.derives;
        low = inner.low;
      }))

-- a tree that is read is one, and not too high
pub sound : (h : ℕ) → Sound (Reading.read h) h
unfolding Reading.read
sound zero g types ts = nothing
sound (suc h) (Expression l) types ts = expression_reads (Reading.read h) h (sound h) l types ts
sound (suc h) (Declarator m) types ts = declarator_reads (Reading.read h) h (sound h) m types ts
sound (suc h) Parameter types ts = parameter_reads (Reading.read h) h (sound h) types ts
sound (suc h) Member types ts = member_reads (Reading.read h) h (sound h) types ts
sound (suc h) Enumerator types ts = enumerator_reads (Reading.read h) h (sound h) types ts
sound (suc h) Initializer types ts = initializer_reads (Reading.read h) h (sound h) types ts
sound (suc h) _ types ts = nothing
