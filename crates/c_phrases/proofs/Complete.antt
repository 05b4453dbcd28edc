-- What is derived is read.
use Rattle.std.proofs.Common.{◌≡◌, ℕ, zero, suc, ◌+◌, ◌≤◌, ◌<◌, max, Bool, true, false, List, [], ◌∷◌, ◌++◌, length}
use Rattle.std.proofs.Common.{Option, Some, None, refl, ap, sym, subst, ◌∙◌, arith, append_assoc, append-nil}
use Rattle.std.proofs.Common.{length-append}
use Rattle.std.specs.Prelude.{if◌then◌else◌, nat_le, ◌&&◌, ◌||◌, not}
use Rattle.std.proofs.lemmas.Bool.{le-leb}
use Rattle.ck_base.specs.Tokens.{Lexeme}
use Rattle.c_tree.specs.declared.syntax.PrefixOperator.{PrefixOperator}
use Rattle.c_tree.specs.declared.syntax.Symbol.{Symbol}
use Rattle.c_tree.specs.declared.syntax.Symbol.TheVariants as Symbols
use Rattle.c_tree.specs.declared.syntax.Head.{Head}
use Rattle.c_tree.specs.declared.syntax.Head.TheVariants as Heads
use Rattle.c_tree.specs.declared.syntax.Tail.{Tail}
use Rattle.c_tree.specs.declared.syntax.NodeKind.TheVariants as Kinds
use Rattle.c_tree.specs.Syntax.{Syn, Syns, node, nil, more, one, two, three, joined, then_one, own_token, height}
use Rattle.c_tree.specs.Syntax.{highest}
use Rattle.c_tree.specs.Symbols.{symbol, head_of, tail_of, infix_level, operand_level}
use Rattle.c_tree.specs.Grammar
use Rattle.c_tree.specs.Grammar.{is_word, is_typedef_name, Naming, Plain, Any, Nameless, Either, is_declared_by}
use Rattle.c_tree.specs.Grammar.{may_be_nameless, names_type, has_any, names_a_type}
use Rattle.c_tree.specs.Grammar.{may_follow, is_typedef_node, Tags, Trails, Goal, Expression}
use Rattle.c_tree.specs.Grammar.{Piece, TypeName, Specifiers, Specifier, Member, Enumerator, Qualifier, Declarator}
use Rattle.c_tree.specs.Grammar.{Parameter, Initializer, Derives, Declares, Repeated, Separated, Listed}
use Rattle.c_phrases.specs.Reading
use Rattle.c_phrases.specs.Reading.{◌>>=◌, Names, Parsed, Reader, is_open_parenthesis, is_close_parenthesis}
use Rattle.c_phrases.specs.Reading.{is_open_bracket, is_close_bracket, is_open_brace, is_close_brace, is_comma}
use Rattle.c_phrases.specs.Reading.{is_semicolon, is_colon, is_star, is_text, is_equals, begins_specifier}
use Rattle.c_phrases.specs.Reading.{begins_declarator, qualifier_of, starts_with, starts, past, expect, begins_type}
use Rattle.c_phrases.specs.Reading.{goes_on_specifying, opens_parameters, goes_on_listing}
use Rattle.c_phrases.specs.Reading.{level, goes_on, parts_of, pieces, qualified, qualifiers, tag, with_parts}
use Rattle.c_phrases.proofs.Tools.{both_true, not_true, or_false, or_assoc, behind, then_is, else_is, bind_is}
use Rattle.c_phrases.proofs.Symbols.{word_is}
use Rattle.c_phrases.proofs.Sound.{level_low, opened, highest_joined}
use Rattle.c_phrases.proofs.Firsts
use Rattle.c_phrases.proofs.Firsts.{at_least}

abbrev pub Complete : Reader → ℕ → Type 0
Complete rec h = (g : Goal) (types : Names) (a : List Lexeme) (x : Syn) (r : List Lexeme) → Derives types g a x →
    height x ≤ h → Firsts.Stops g r → rec g types (a ++ r) ≡ Some (x, r)

-- Texts, qualifiers and tags

pieces_are : {types : Names} {a : List Lexeme} {xs : Syns} → Repeated types Piece a xs → (r : List Lexeme) →
    starts is_text r ≡ false → pieces (a ++ r) ≡ (xs, r)
pieces_are Grammar.finished [] e = refl
pieces_are Grammar.finished (t ∷ r) e = else_is _ e
pieces_are (Grammar.repeated b c (Grammar.piece t e) ds) r f =
    then_is _ (ap is_text e) ∙ ap (λ (p : Syns × List Lexeme).
    let q : Syns × List Lexeme = (more (node Kinds.Text t nil) p.0, p.1) in q) (pieces_are ds r f)

-- a specifier of one word
abbrev pub is_specifier_word : Symbol → Bool
is_specifier_word (Symbols.Specifier w) = true
is_specifier_word _ = false

no_qualifier : (s : Symbol) → is_specifier_word s ≡ false → qualifier_of s ≡ None
no_qualifier (Symbols.Specifier w) e = cc
no_qualifier _ e = refl

qualifiers_are : {types : Names} {a : List Lexeme} {xs : Syns} → Repeated types Qualifier a xs → (r : List Lexeme) →
    starts is_specifier_word r ≡ false → qualifiers (a ++ r) ≡ (xs, r)
qualifiers_are Grammar.finished [] e = refl
qualifiers_are Grammar.finished (t ∷ r) e = ap (λ q. qualified q t r (qualifiers r)) (no_qualifier (symbol t) e)
qualifiers_are (Grammar.repeated b c (Grammar.qualifier {w = w} t e f) ds) r g =
    ap (λ q. qualified q t (c ++ r) (qualifiers (c ++ r))) (ap qualifier_of e ∙ then_is None f)
    ∙ ap (λ (p : Syns × List Lexeme). qualified (Some w) t (c ++ r) p) (qualifiers_are ds r g)

tags_are : {n : List Lexeme} {ns : Syns} → Tags n ns → (o : Lexeme) (ts : List Lexeme) → symbol o ≡ Symbols.OpenBrace →
    tag (n ++ (o ∷ ts)) ≡ (ns, o ∷ ts)
tags_are Grammar.untagged o ts e = else_is _ (ap is_word e)
tags_are (Grammar.tagged n f) o ts e = then_is _ (ap is_word f)

tag_is : (n : Lexeme) (ts : List Lexeme) → symbol n ≡ Symbols.Word → tag (n ∷ ts) ≡ (one (node Kinds.Tag n nil), ts)
tag_is n ts e = then_is _ (ap is_word e)

-- Lists

abbrev pub number : Syns → ℕ
number nil = 0
number (more x xs) = number xs + 1

-- A class of phrases that begin with a token, and that end no list.
pub record Headed (types : Names) (g : Goal) : Type 0 where
  pub test : Lexeme → Bool
  pub begins : {a : List Lexeme} {x : Syn} → Derives types g a x → (r : List Lexeme) → starts_with test (a ++ r) ≡ true
  pub no_close : (ts : List Lexeme) → starts_with test ts ≡ true → starts Firsts.is_close ts ≡ false

-- which may stand in a list
pub record InLists (g : Goal) : Type 0 where
  pub at_comma : (c : Lexeme) (r : List Lexeme) → symbol c ≡ Symbols.Comma → Firsts.Stops g (c ∷ r)

pub filled : (test : Lexeme → Bool) (a : List Lexeme) → starts_with test (a ++ []) ≡ true → 1 ≤ length a
filled test [] e = cc
filled test (t ∷ a) e = omega arith

module _ (types : Names) (g : Goal) (headed : Headed types g) where
  pub separated_begins : {a : List Lexeme} {xs : Syns} → Separated types g a xs → (r : List Lexeme) →
      starts_with headed.test (a ++ r) ≡ true
  separated_begins (Grammar.last a d) r = headed.begins d r
  separated_begins (Grammar.separated c a b e d ds) r = rw (behind a b r c) (headed.begins d (c ∷ (b ++ r)))

  pub separated_number : {a : List Lexeme} {xs : Syns} → Separated types g a xs → number xs ≤ length a
  separated_number (Grammar.last a d) = filled headed.test a (headed.begins d [])
  separated_number (Grammar.separated c a b e d ds) =
      let k = separated_number ds in let l = length-append a (c ∷ b) in omega arith

  pub repeated_number : {a : List Lexeme} {xs : Syns} → Repeated types g a xs → number xs ≤ length a
  repeated_number Grammar.finished = omega arith
  repeated_number (Grammar.repeated a b d ds) =
      let k = repeated_number ds in let l = length-append a b in let m = filled headed.test a (headed.begins d []) in
      omega arith

close_brace_close : (s : Symbol) → Firsts.is_close s ≡ false → is_close_brace s ≡ false
close_brace_close Symbols.CloseBrace e = cc
close_brace_close _ e = refl

close_parenthesis_close : (s : Symbol) → Firsts.is_close s ≡ false → is_close_parenthesis s ≡ false
close_parenthesis_close Symbols.CloseParenthesis e = cc
close_parenthesis_close _ e = refl

no_brace : (ts : List Lexeme) → starts Firsts.is_close ts ≡ false → starts is_close_brace ts ≡ false
no_brace [] e = refl
no_brace (t ∷ ts) e = close_brace_close (symbol t) e

no_parenthesis : (ts : List Lexeme) → starts Firsts.is_close ts ≡ false → starts is_close_parenthesis ts ≡ false
no_parenthesis [] e = refl
no_parenthesis (t ∷ ts) e = close_parenthesis_close (symbol t) e

pub expressions_headed : (types : Names) (l : ℕ) → Headed types (Expression l)
expressions_headed types l =
    record {
      test = Firsts.begins_expression types;
      begins = λ d r. Firsts.first d r;
      no_close = λ ts e. Firsts.ends_no_close ts (Firsts.expression_no_end types ts e);
    }

pub parameters_headed : (types : Names) → Headed types Parameter
parameters_headed types =
    record {
      test = begins_type types;
      begins = λ d r. Firsts.first_parameter d r;
      no_close = λ ts e. Firsts.ends_no_close ts (Firsts.types_no_end types ts e);
    }

pub members_headed : (types : Names) → Headed types Member
members_headed types = record {
  test = begins_type types;
  begins = λ d r. Firsts.first_member d r;
  no_close = λ ts e. Firsts.ends_no_close ts (Firsts.types_no_end types ts e);
}

pub specifiers_headed : (types : Names) → Headed types Specifier
specifiers_headed types =
    record {
      test = begins_type types;
      begins = λ d r. Firsts.first_specifier d r;
      no_close = λ ts e. Firsts.ends_no_close ts (Firsts.types_no_end types ts e);
    }

pub enumerators_headed : (types : Names) → Headed types Enumerator
enumerators_headed types =
    record {
      test = λ t. is_word (symbol t);
      begins = λ d r. Firsts.first_enumerator d r;
      no_close = λ ts e. Firsts.words_no_close ts e;
    }

pub initializers_headed : (types : Names) → Headed types Initializer
initializers_headed types =
    record {
      test = Firsts.begins_initializer types;
      begins = λ d r. Firsts.first_initializer d r;
      no_close = λ ts e. Firsts.initializers_no_close types ts e;
    }

pub declarator_begins : {types : Names} {m : Naming} {a : List Lexeme} {x : Syn} → Derives types (Declarator m) a x →
    (r : List Lexeme) → starts begins_declarator (a ++ r) ≡ true
declarator_begins {types} {m} d r = by (Firsts.lead (opened d))
  where
    by : {a : List Lexeme} {x : Syn} → Firsts.Leading types m true a (one x) → starts begins_declarator (a ++ r) ≡ true
    by (Firsts.leading t a e p s) = e

pub declarators_headed : (types : Names) (m : Naming) → Headed types (Declarator m)
declarators_headed types m =
    record {
      test = λ t. begins_declarator (symbol t);
      begins = λ d r. declarator_begins d r;
      no_close = λ ts e. Firsts.declarators_no_close ts e;
    }

pub in_lists_1 : InLists (Expression 1)
in_lists_1 = record { at_comma = λ c r e. let k = ap Firsts.pull e in omega arith }

pub in_lists_parameter : InLists Parameter
in_lists_parameter = record { at_comma = λ c r e. ap Firsts.ends_parameter e }

pub in_lists_enumerator : InLists Enumerator
in_lists_enumerator = record { at_comma = λ c r e. ap Firsts.ends_enumerator e }

pub in_lists_initializer : InLists Initializer
in_lists_initializer = record { at_comma = λ c r e. let k = ap Firsts.pull e in omega arith }

pub in_lists_declarator : (m : Naming) → InLists (Declarator m)
in_lists_declarator m = record { at_comma = λ c r e. ap Firsts.goes_on_declaring e }

pub expects_is : {A : Type 0} (test : Symbol → Bool) (c : Lexeme) (s : Symbol) (r : List Lexeme)
    (f : List Lexeme → Option A) → symbol c ≡ s → test s ≡ true → (expect test (c ∷ r) >>= f) ≡ f r
expects_is test c s r f e p = bind_is f (then_is None (ap test e ∙ p))

not_listing : (c : Lexeme) (s : Symbol) (r : List Lexeme) → symbol c ≡ s → is_comma s ≡ false →
    goes_on_listing (c ∷ r) ≡ false
not_listing c s r e p = ap (λ s. is_comma s && not (starts is_close_brace r)) e
    ∙ ap (λ v. v && not (starts is_close_brace r)) p

module _ (types : Names) (rec : Reader) (h : ℕ) (whole : Complete rec h) where
  pub bracketed_is : (g : Goal) (test : Symbol → Bool) (s : Symbol) (a : List Lexeme) (c : Lexeme) (x : Syn)
      (r : List Lexeme) → Derives types g a x → height x ≤ h → Firsts.Stops g (c ∷ r) → symbol c ≡ s → test s ≡ true →
      Reading.bracketed rec g test types (a ++ (c ∷ r)) ≡ Some (x, r)
  bracketed_is g test s a c x r d low stop e p =
      bind_is _ (whole g types a x (c ∷ r) d low stop) ∙ expects_is test c s r (λ rest. Some (x, rest)) e p

  separated_is : (g : Goal) → Headed types g → InLists g → {a : List Lexeme} {xs : Syns} → Separated types g a xs →
      highest xs ≤ h → (r : List Lexeme) → Firsts.Stops g r → goes_on_listing r ≡ false → (k : ℕ) → number xs ≤ k →
      Reading.separated rec k g types (a ++ r) ≡ Some (xs, r)
  unfolding Reading.separated
  separated_is g headed inside (Grammar.last a d) low r stop off zero enough = absurd (omega arith)
  separated_is g headed inside (Grammar.last a {x} d) low r stop off (suc k) enough =
      bind_is _ (whole g types a x r d (omega arith) stop) ∙ else_is _ off
  separated_is g headed inside (Grammar.separated c a b e d ds) low r stop off zero enough = absurd (omega arith)
  separated_is g headed inside (Grammar.separated c a b {x} {xs} e d ds) low r stop off (suc k) enough =
      rw (behind a b r c) (
      let shut : starts is_close_brace (b ++ r) ≡ false =
      no_brace (b ++ r) (headed.no_close (b ++ r) (separated_begins types g headed ds r)) in
      let on : goes_on_listing (c ∷ (b ++ r)) ≡ true =
      ap (λ s. is_comma s && not (starts is_close_brace (b ++ r))) e ∙ ap not shut in
      bind_is _ (whole g types a x (c ∷ (b ++ r)) d (omega arith) (inside.at_comma c (b ++ r) e)) ∙ then_is _ on
      ∙ bind_is _ (separated_is g headed inside ds (omega arith) r stop off k (omega arith)))

  listed_is : (g : Goal) → Headed types g → InLists g → {a : List Lexeme} {xs : Syns} → Listed types g a xs →
      highest xs ≤ h → (c : Lexeme) (r : List Lexeme) → symbol c ≡ Symbols.CloseParenthesis → Firsts.Stops g (c ∷ r) →
      Reading.listed rec g types (a ++ (c ∷ r)) ≡ Some (xs, c ∷ r)
  unfolding Reading.listed
  listed_is g headed inside Grammar.nothing low c r e stop = then_is _ (ap is_close_parenthesis e)
  listed_is g headed inside (Grammar.listed a ds) low c r e stop =
      else_is _ (no_parenthesis (a ++ (c ∷ r))
      (headed.no_close (a ++ (c ∷ r)) (separated_begins types g headed ds (c ∷ r))))
      ∙ separated_is g headed inside ds low (c ∷ r) stop (not_listing c _ r e refl) (suc (length (a ++ (c ∷ r))))
      (let k = separated_number types g headed ds in let l = length-append a (c ∷ r) in omega arith)

  in_braces_is : (g : Goal) → Headed types g → InLists g → {a e : List Lexeme} {xs : Syns} → Separated types g a xs →
      highest xs ≤ h → Trails e → (c : Lexeme) (r : List Lexeme) → symbol c ≡ Symbols.CloseBrace →
      Firsts.Stops g (c ∷ r) →
      Reading.listed_in_braces rec g types (a ++ (e ++ (c ∷ r))) ≡ Some (xs, r)
  unfolding Reading.listed_in_braces
  in_braces_is g headed inside {a} {xs = xs} ds low Grammar.no_comma c r f stop =
      bind_is _ (separated_is g headed inside ds low (c ∷ r) stop (not_listing c _ r f refl)
      (suc (length (a ++ (c ∷ r)))) (let k = separated_number types g headed ds in
      let l = length-append a (c ∷ r) in omega arith))
      ∙ ap (λ v. expect is_close_brace v >>= λ rest. Some (xs, rest))
      (else_is {b = is_comma (symbol c)} r {y = c ∷ r} (ap is_comma f))
      ∙ expects_is is_close_brace c _ r (λ rest. Some (xs, rest)) f refl
  in_braces_is g headed inside {a} {xs = xs} ds low (Grammar.comma t e) c r f stop =
      bind_is _ (separated_is g headed inside ds low (t ∷ (c ∷ r)) (inside.at_comma t (c ∷ r) e) off
      (suc (length (a ++ (t ∷ (c ∷ r))))) (let k = separated_number types g headed ds in
      let l = length-append a (t ∷ (c ∷ r)) in omega arith))
      ∙ ap (λ v. expect is_close_brace v >>= λ rest. Some (xs, rest))
      (then_is {b = is_comma (symbol t)} {x = c ∷ r} (t ∷ (c ∷ r)) (ap is_comma e))
      ∙ expects_is is_close_brace c _ r (λ rest. Some (xs, rest)) f refl
    where
      off : goes_on_listing (t ∷ (c ∷ r)) ≡ false
      off = ap (λ s. is_comma s && not (is_close_brace (symbol c))) e ∙ ap (λ s. not (is_close_brace s)) f

  members_are : (k : ℕ) {b d : List Lexeme} {x : Syn} {xs : Syns} → Derives types Member b x →
      Repeated types Member d xs → height x ≤ h → highest xs ≤ h → (c : Lexeme) (r : List Lexeme) →
      symbol c ≡ Symbols.CloseBrace → number xs + 1 ≤ k →
      Reading.members rec k types (b ++ (d ++ (c ∷ r))) ≡ Some (more x xs, c ∷ r)
  unfolding Reading.members
  members_are zero m ds low lower c r e enough = absurd (omega arith)
  members_are (suc k) {b} {x = x} m Grammar.finished low lower c r e enough =
      bind_is _ (whole Member types b x (c ∷ r) m low tt) ∙ then_is _ (ap is_close_brace e)
  members_are (suc k) {b} {x = x} m (Grammar.repeated d f n ds) low lower c r e enough =
      rw (append_assoc d f (c ∷ r)) (
      bind_is _ (whole Member types b x (d ++ (f ++ (c ∷ r))) m low tt)
      ∙ else_is _ (no_brace _ ((members_headed types).no_close _ ((members_headed types).begins n (f ++ (c ∷ r)))))
      ∙ bind_is _ (members_are k n ds (omega arith) (omega arith) c r e (omega arith)))

  -- how a specifier is read from its first token
  record SpecifierIs (ts : List Lexeme) (x : Syn) (r : List Lexeme) : Type 0 where
    token : Lexeme
    rest : List Lexeme
    split : ts ≡ token ∷ rest
    on : (named : Bool) → not (named && is_typedef_node x) ≡ true → goes_on_specifying types named token ≡ true
    reads : Reading.specifier_by rec (symbol token) token types rest ≡ Some (x, r)

  on_by : (t : Lexeme) (s : Symbol) → symbol t ≡ s → begins_specifier s ≡ true → (named : Bool) →
      goes_on_specifying types named t ≡ true
  on_by t s e f named = ap (λ v. begins_specifier v || (not named && is_typedef_name types t)) e
      ∙ ap (λ v. v || (not named && is_typedef_name types t)) f

  specifier_is : {a : List Lexeme} {x : Syn} → Derives types Specifier a x → height x ≤ h → (r : List Lexeme) →
      starts is_open_brace r ≡ false → SpecifierIs (a ++ r) x r
  unfolding Reading.record_from Reading.enum_from
  specifier_is (Grammar.specifier_word t e) low r brace = record {
    token = t;
    rest = r;
    split = refl;
    on = λ named f. on_by t _ e refl named;
    reads = ap (λ s. Reading.specifier_by rec s t types r) e;
  }
  specifier_is (Grammar.typedef_name t e) low r brace = record {
    token = t;
    rest = r;
    split = refl;
    on = λ named f. on named (begins_specifier (symbol t)) f;
    reads = ap (λ s. Reading.specifier_by rec s t types r) (word_is (symbol t) (both_true _ _ e).0);
  }
    where
      on : (named b : Bool) → not (named && true) ≡ true → (b || (not named && is_typedef_name types t)) ≡ true
      on true b f = cc
      on false true f = refl
      on false false f = e
  specifier_is (Grammar.record_tag {k = k} t n e f) low r brace = record {
    token = t;
    rest = n ∷ r;
    split = refl;
    on = λ named g. on_by t _ e refl named;
    reads = ap (λ s. Reading.specifier_by rec s t types (n ∷ r)) e
        ∙ ap (λ (p : Syns × List Lexeme). if starts is_open_brace p.1
        then (Reading.members rec (suc (length (n ∷ r))) types (past p.1) >>= λ a. expect is_close_brace a.1
        >>= λ rest. Some (node (Kinds.Record k) t (joined p.0 a.0), rest))
        else with_parts (node (Kinds.Record k) t) p.0 p.1) (tag_is n r f)
        ∙ else_is _ brace;
  }
  specifier_is (Grammar.record_members {k = k} t o c n a {ns} {x} {xs} e tags p q (Grammar.repeated b d m ds)) low r
      brace = record {
        token = t;
        rest = n ++ (o ∷ ((b ++ d) ++ (c ∷ r)));
        split = ap (λ v. t ∷ v) (behind n ((b ++ d) ++ (c ∷ [])) r o ∙ ap (λ v. n ++ (o ∷ v)) (behind (b ++ d) [] r c));
        on = λ named g. on_by t _ e refl named;
        reads = ap (λ s. Reading.specifier_by rec s t types (n ++ (o ∷ ((b ++ d) ++ (c ∷ r))))) e
            ∙ ap (λ (p : Syns × List Lexeme). if starts is_open_brace p.1
            then (Reading.members rec (suc (length (n ++ (o ∷ ((b ++ d) ++ (c ∷ r)))))) types (past p.1)
            >>= λ a. expect is_close_brace a.1 >>= λ rest. Some (node (Kinds.Record k) t (joined p.0 a.0), rest))
            else with_parts (node (Kinds.Record k) t) p.0 p.1) (tags_are tags o ((b ++ d) ++ (c ∷ r)) p)
            ∙ then_is _ (ap is_open_brace p)
            ∙ bind_is _ (ap (λ v. Reading.members rec (suc (length (n ++ (o ∷ ((b ++ d) ++ (c ∷ r)))))) types v)
            (append_assoc b d (c ∷ r))
            ∙ members_are (suc (length (n ++ (o ∷ ((b ++ d) ++ (c ∷ r)))))) m ds
            (let j = highest_joined ns (more x xs) in omega arith)
            (let j = highest_joined ns (more x xs) in omega arith) c r q
            (let j = repeated_number types Member (members_headed types) ds in
            let l = length-append n (o ∷ ((b ++ d) ++ (c ∷ r))) in let u = length-append (b ++ d) (c ∷ r) in
            let v = length-append b d in omega arith))
            ∙ expects_is is_close_brace c _ r (λ rest. Some (node (Kinds.Record k) t (joined ns (more x xs)), rest)) q
            refl;
      }
  specifier_is (Grammar.enum_tag t n e f) low r brace = record {
    token = t;
    rest = n ∷ r;
    split = refl;
    on = λ named g. on_by t _ e refl named;
    reads = ap (λ s. Reading.specifier_by rec s t types (n ∷ r)) e
        ∙ ap (λ (p : Syns × List Lexeme). if starts is_open_brace p.1
        then (Reading.listed_in_braces rec Enumerator types (past p.1)
        >>= λ a. Some (node Kinds.Enum t (joined p.0 a.0), a.1))
        else with_parts (node Kinds.Enum t) p.0 p.1) (tag_is n r f)
        ∙ else_is _ brace;
  }
  specifier_is (Grammar.enum_list t o c n a b {ns} {xs} e tags p q ds trails) low r brace = record {
    token = t;
    rest = n ++ (o ∷ (a ++ (b ++ (c ∷ r))));
    split = ap (λ v. t ∷ v) (behind n (a ++ (b ++ (c ∷ []))) r o
        ∙ ap (λ v. n ++ (o ∷ v)) (append_assoc a (b ++ (c ∷ [])) r ∙ ap (λ v. a ++ v) (behind b [] r c)));
    on = λ named g. on_by t _ e refl named;
    reads = ap (λ s. Reading.specifier_by rec s t types (n ++ (o ∷ (a ++ (b ++ (c ∷ r)))))) e
        ∙ ap (λ (p : Syns × List Lexeme). if starts is_open_brace p.1
        then (Reading.listed_in_braces rec Enumerator types (past p.1)
        >>= λ a. Some (node Kinds.Enum t (joined p.0 a.0), a.1))
        else with_parts (node Kinds.Enum t) p.0 p.1) (tags_are tags o (a ++ (b ++ (c ∷ r))) p)
        ∙ then_is _ (ap is_open_brace p)
        ∙ bind_is _ (in_braces_is Enumerator (enumerators_headed types) in_lists_enumerator ds
        (let j = highest_joined ns xs in omega arith) trails c r q (ap Firsts.ends_enumerator q));
  }

  no_brace_before : {a : List Lexeme} {xs : Syns} → Repeated types Specifier a xs → (r : List Lexeme) →
      starts is_open_brace r ≡ false → starts is_open_brace (a ++ r) ≡ false
  no_brace_before Grammar.finished r brace = brace
  no_brace_before (Grammar.repeated b c d ds) r brace =
      rw (append_assoc b c r) (Firsts.not_end is_open_brace Firsts.no_open_brace _
      (Firsts.types_no_end types _ (Firsts.first_specifier d (c ++ r))))

  specifier_list_is : {a : List Lexeme} {xs : Syns} → Repeated types Specifier a xs → (named : Bool) →
      Firsts.fits named xs ≡ true → highest xs ≤ h → (r : List Lexeme) →
      Firsts.EndsSpecifying types (named || has_any names_type xs) r → (k : ℕ) → number xs + 1 ≤ k →
      Reading.specifier_list rec k named types (a ++ r) ≡ Some (xs, r)
  unfolding Reading.specifier_list
  specifier_list_is ds named fits low r ends zero enough = absurd (omega arith)
  specifier_list_is Grammar.finished named fits low [] ends (suc k) enough = refl
  specifier_list_is Grammar.finished named fits low (t ∷ r) ends (suc k) enough =
      else_is _ (ap (λ v. goes_on_specifying types v t) (sym (or_false named)) ∙ ends.off)
  specifier_list_is (Grammar.repeated b c {x} {xs} d ds) named fits low r ends (suc k) enough =
      let at = specifier_is d (omega arith) (c ++ r) (no_brace_before ds r ends.no_brace) in
      let f = both_true _ _ fits in
      ap (λ v. Reading.specifier_list rec (suc k) named types v) (append_assoc b c r ∙ at.split)
      ∙ then_is _ (at.on named f.0)
      ∙ bind_is _ at.reads
      ∙ bind_is _ (specifier_list_is ds (named || names_type x) f.1 (omega arith) r
      (record {
        off = ap (λ v. starts_with (goes_on_specifying types v) r)
            (or_assoc named (names_type x) (has_any names_type xs)) ∙ ends.off;
        no_brace = ends.no_brace;
      }) k
      (omega arith))

  pub specifiers_are : {a : List Lexeme} {x : Syn} → Derives types Specifiers a x → height x ≤ h → (r : List Lexeme) →
      Firsts.EndsSpecifying types (names_a_type x) r → Reading.specifiers rec types (a ++ r) ≡ Some (x, r)
  unfolding Reading.specifiers
  specifiers_are (Grammar.specifiers a {x} {xs} ds agreed) low r ends =
      bind_is _ (specifier_list_is ds false (Firsts.fits_agreed (more x xs) agreed) (omega arith) r ends
      (suc (length (a ++ r)))
      (let j = repeated_number types Specifier (specifiers_headed types) ds in let l = length-append a r in
      omega arith))
      ∙ then_is None agreed

  pub optional_declarator_is : (m : Naming) {a : List Lexeme} {xs : Syns} → Declares types m true a xs →
      highest xs ≤ h → (r : List Lexeme) → starts Firsts.goes_on_declaring r ≡ false →
      Reading.optional_declarator rec m types (a ++ r) ≡ Some (xs, r)
  unfolding Reading.optional_declarator
  optional_declarator_is m d low r stop = by (Firsts.shaped d) low
    where
      by : {a : List Lexeme} {xs : Syns} → Firsts.Shaped types m true a xs → highest xs ≤ h →
          Reading.optional_declarator rec m types (a ++ r) ≡ Some (xs, r)
      by (Firsts.bare e) low = else_is _ (Firsts.declaring_off r stop) ∙ then_is None e
      by (Firsts.full {a} {x} d) low =
          then_is _ (declarator_begins (Grammar.declarator a d) r)
          ∙ bind_is _ (whole (Declarator m) types a x r (Grammar.declarator a d) (omega arith) stop)

  pub type_name_is : {a : List Lexeme} {x : Syn} → Derives types TypeName a x → height x ≤ h →
      (c : Lexeme) (r : List Lexeme) → symbol c ≡ Symbols.CloseParenthesis →
      Reading.type_name rec types (a ++ (c ∷ r)) ≡ Some (x, c ∷ r)
  unfolding Reading.type_name
  type_name_is (Grammar.type_name a b {s} d e) low c r f =
      let quiet : starts Firsts.is_quiet (c ∷ r) ≡ true = ap Firsts.is_quiet f in
      rw (append_assoc a b (c ∷ r)) (
      bind_is _ (specifiers_are d (omega arith) (b ++ (c ∷ r))
      (Firsts.ends_before refl e (names_a_type s) (c ∷ r) quiet))
      ∙ bind_is _ (optional_declarator_is Nameless e (omega arith) (c ∷ r) (Firsts.quiet_stop (c ∷ r) quiet)))

-- the tree of a declarator, if it is one
abbrev pub first_part : Syns → Option Syn
first_part nil = None
first_part (more x xs) = Some x

kept : {types : Names} {m : Naming} {starred : Bool} {a : List Lexeme} {xs : Syns} → Declares types m starred a xs →
    parts_of (first_part xs) ≡ xs
kept {types} {m} {starred} d = by (Firsts.shaped d)
  where
    by : {a : List Lexeme} {xs : Syns} → Firsts.Shaped types m starred a xs → parts_of (first_part xs) ≡ xs
    by (Firsts.bare e) = refl
    by (Firsts.full d) = refl

-- what opens a suffix behind nothing
abbrev pub opens_suffix : Names → List Lexeme → Bool
opens_suffix types [] = false
opens_suffix types (t ∷ ts) =
    is_open_bracket (symbol t) || (is_open_parenthesis (symbol t) && opens_parameters types ts)

Follows : Names → Syns → List Lexeme → Type 0
Follows types nil r = opens_suffix types r ≡ true
Follows types (more x xs) r = Unit {0}

follows : (types : Names) (xs : Syns) (r : List Lexeme) → opens_suffix types r ≡ true → Follows types xs r
unfolding Follows
follows types nil r e = e
follows types (more x xs) r e = tt

highest_then_one : (xs : Syns) (y : Syn) → highest (then_one xs y) ≡ max (highest xs) (height y)
highest_then_one xs y = let k = highest_joined xs (one y) in omega arith

module _ (types : Names) (rec : Reader) (h : ℕ) (whole : Complete rec h) where
  -- an operand is read whole
  operand_by_is : (t : Lexeme) (k : Head) (ts : List Lexeme) → head_of (symbol t) ≡ k →
      Reading.operand rec (suc h) types (t ∷ ts) ≡ Reading.operand_by rec (suc h) k t types ts
  unfolding Reading.operand
  operand_by_is t k ts e = ap (λ k. Reading.operand_by rec (suc h) k t types ts) e

  text_is : (t : Lexeme) (a : List Lexeme) (xs : Syns) (r : List Lexeme) → head_of (symbol t) ≡ Heads.Text →
      Repeated types Piece a xs → height (node Kinds.Text t xs) ≤ suc h → Firsts.pull_of r ≤ 16 →
      Reading.operand rec (suc h) types ((t ∷ a) ++ r) ≡ Some (node Kinds.Text t xs, r)
  text_is t a xs r e ds low stop =
      operand_by_is t Heads.Text (a ++ r) e
      ∙ ap (λ (p : Syns × List Lexeme). Reading.grow rec (suc h) (node Kinds.Text t p.0) p.1)
      (pieces_are ds r (Firsts.no_text r stop))
      ∙ then_is None (le-leb _ _ low)

  paren_is : (o c : Lexeme) (a : List Lexeme) (x : Syn) (r : List Lexeme) → head_of (symbol o) ≡ Heads.Opens →
      symbol c ≡ Symbols.CloseParenthesis → Derives types (Expression 0) a x → height x ≤ h →
      Reading.operand rec (suc h) types ((o ∷ (a ++ (c ∷ []))) ++ r) ≡ Some (node Kinds.Parenthesized o (one x), r)
  unfolding Reading.in_parentheses
  paren_is o c a x r e close d low =
      let stop = ap Firsts.pull close in
      operand_by_is o Heads.Opens ((a ++ (c ∷ [])) ++ r) e
      ∙ rw (behind a [] r c) (else_is _ (Firsts.expression_no_type types (a ++ (c ∷ r)) (Firsts.first d (c ∷ r)))
      ∙ bind_is _ (bracketed_is types rec h whole (Expression 0) is_close_parenthesis _ a c x r d low
      (omega arith) close refl))

  cast_is : (o c : Lexeme) (a b : List Lexeme) (x y : Syn) (r : List Lexeme) → head_of (symbol o) ≡ Heads.Opens →
      symbol c ≡ Symbols.CloseParenthesis → Derives types TypeName a x → Derives types (Expression 13) b y →
      height x ≤ h → height y ≤ h → Firsts.pull_of r ≤ 13 →
      Reading.operand rec (suc h) types ((o ∷ (a ++ (c ∷ b))) ++ r) ≡ Some (node Kinds.Cast o (two x y), r)
  unfolding Reading.cast_from
  cast_is o c a b x y r e close d f low lower stop =
      operand_by_is o Heads.Opens ((a ++ (c ∷ b)) ++ r) e
      ∙ rw (behind a b r c) (then_is _ (Firsts.first_type_name d (c ∷ (b ++ r)))
      ∙ bind_is _ (type_name_is types rec h whole d low c (b ++ r) close)
      ∙ expects_is is_close_parenthesis c _ (b ++ r)
      (λ rest. rec (Expression 13) types rest >>= λ b. Some (node Kinds.Cast o (two x b.0), b.1)) close refl
      ∙ bind_is _ (whole (Expression 13) types b y r f lower stop))

  prefix_is : (p : PrefixOperator) (o : Lexeme) (a : List Lexeme) (x : Syn) (r : List Lexeme) →
      head_of (symbol o) ≡ Heads.Prefixes p → Derives types (Expression (operand_level p)) a x → height x ≤ h →
      Firsts.pull_of r ≤ operand_level p →
      Reading.operand rec (suc h) types ((o ∷ a) ++ r) ≡ Some (node (Kinds.Prefix p) o (one x), r)
  unfolding Reading.prefix_from
  prefix_is p o a x r e d low stop =
      operand_by_is o (Heads.Prefixes p) (a ++ r) e
      ∙ bind_is _ (whole (Expression (operand_level p)) types a x r d low stop)

  measure_is : (o : Lexeme) (a : List Lexeme) (x : Syn) (r : List Lexeme) → head_of (symbol o) ≡ Heads.Measures →
      Derives types (Expression 14) a x → height x ≤ h → Firsts.pull_of r ≤ 14 →
      Reading.operand rec (suc h) types ((o ∷ a) ++ r) ≡ Some (node Kinds.SizeofExpression o (one x), r)
  unfolding Reading.measure_from
  measure_is o a x r e d low stop =
      operand_by_is o Heads.Measures (a ++ r) e ∙ else_is _ (Firsts.no_cast d (omega arith) r)
      ∙ bind_is _ (whole (Expression 14) types a x r d low stop)

  measure_type_is : (o b c : Lexeme) (a : List Lexeme) (x : Syn) (r : List Lexeme) →
      head_of (symbol o) ≡ Heads.Measures → symbol b ≡ Symbols.OpenParenthesis → symbol c ≡ Symbols.CloseParenthesis →
      Derives types TypeName a x → height x ≤ h →
      Reading.operand rec (suc h) types ((o ∷ (b ∷ (a ++ (c ∷ [])))) ++ r) ≡ Some (node Kinds.SizeofType o (one x), r)
  unfolding Reading.measure_from Reading.size_from
  measure_type_is o b c a x r e opens close d low =
      operand_by_is o Heads.Measures (b ∷ ((a ++ (c ∷ [])) ++ r)) e
      ∙ rw (behind a [] r c) (then_is _ (ap (λ s. is_open_parenthesis s
      && starts_with (begins_type types) (a ++ (c ∷ r))) opens ∙ Firsts.first_type_name d (c ∷ r))
      ∙ bind_is _ (type_name_is types rec h whole d low c r close)
      ∙ expects_is is_close_parenthesis c _ r (λ rest. Some (node Kinds.SizeofType o (one x), rest)) close refl)

  -- the reading at level l of ts comes to the tree x with r left
  record Reaches (l : ℕ) (ts : List Lexeme) (x : Syn) (r : List Lexeme) : Type 0 where
    turns : ℕ
    enough : suc (suc h) ≤ turns + height x
    reads : Reading.expression rec (suc h) l types ts ≡ Reading.climb rec (suc h) turns l types x r

  starts_at : (l : ℕ) (ts : List Lexeme) (x : Syn) (r : List Lexeme) → l ≤ level x →
      Reading.operand rec (suc h) types ts ≡ Some (x, r) → Reaches l ts x r
  unfolding Reading.expression
  starts_at l ts x r le e = record {
    turns = suc (suc h);
    enough = omega arith;
    reads = bind_is _ e ∙ then_is None (le-leb l (level x) le);
  }

  -- one turn
  turn : (l : ℕ) (ts : List Lexeme) (x : Syn) (o : Lexeme) (rest : List Lexeme) (y : Syn) (r : List Lexeme) →
      Reaches l ts x (o ∷ rest) → goes_on (tail_of (symbol o)) l (level x) ≡ true → height x < height y →
      height y ≤ suc h →
      Reading.longer rec (suc h) (tail_of (symbol o)) x o types rest ≡ Reading.grow rec (suc h) y r → Reaches l ts y r
  unfolding Reading.climb
  turn l ts x o rest y r at on higher low longer_is = go at.turns at.enough at.reads
    where
      go : (k : ℕ) → suc (suc h) ≤ k + height x →
          Reading.expression rec (suc h) l types ts ≡ Reading.climb rec (suc h) k l types x (o ∷ rest) →
          Reaches l ts y r
      go zero enough reads = absurd (omega arith)
      go (suc k) enough reads = record {
        turns = k;
        enough = omega arith;
        reads = reads ∙ then_is _ on ∙ bind_is _ (longer_is ∙ then_is None (le-leb (height y) (suc h) low));
      }

  longer_by : (x : Syn) (o : Lexeme) (ts : List Lexeme) (k : Tail) → tail_of (symbol o) ≡ k →
      Reading.longer rec (suc h) (tail_of (symbol o)) x o types ts ≡ Reading.longer rec (suc h) k x o types ts
  longer_by x o ts k e = ap (λ k. Reading.longer rec (suc h) k x o types ts) e

  on_by_tail : (o : Lexeme) (k : Tail) (l m : ℕ) → tail_of (symbol o) ≡ k → goes_on k l m ≡ true →
      goes_on (tail_of (symbol o)) l m ≡ true
  on_by_tail o k l m e f = ap (λ k. goes_on k l m) e ∙ f

  on_between : (l p q m : ℕ) → l ≤ p → q ≤ m → (nat_le l p && nat_le q m) ≡ true
  on_between l p q m a b = ap (λ v. v && nat_le q m) (le-leb l p a) ∙ le-leb q m b

  -- every derivation is on the way of the reading, where its right end stops
  spine : {m : ℕ} {a : List Lexeme} {x : Syn} → Derives types (Expression m) a x → (l : ℕ) → l ≤ m → height x ≤ suc h →
      (r : List Lexeme) → Firsts.pull_of r ≤ Firsts.edge x → Reaches l (a ++ r) x r
  unfolding Reading.index_from Reading.call_from Reading.select_from Reading.infix_from Reading.choice_from
      Reading.assign_from
  spine (Grammar.name t p q e) l le low r stop =
      starts_at l _ _ r (omega arith) (operand_by_is t Heads.Name r q ∙ else_is None e)
  spine (Grammar.number t p q) l le low r stop = starts_at l _ _ r (omega arith) (operand_by_is t Heads.Number r q)
  spine (Grammar.character t p q) l le low r stop =
      starts_at l _ _ r (omega arith) (operand_by_is t Heads.Character r q)
  spine (Grammar.text t a p q d) l le low r stop = starts_at l _ _ r (omega arith) (text_is t a _ r q d low stop)
  spine (Grammar.parenthesized o c a p q e d) l le low r stop =
      starts_at l _ _ r (omega arith) (paren_is o c a _ r q e d (omega arith))
  spine (Grammar.prefix {p = p} o a e q d) l le low r stop =
      starts_at l _ _ r (omega arith) (prefix_is p o a _ r q d (omega arith) stop)
  spine (Grammar.sizeof_expression o a p q d) l le low r stop =
      starts_at l _ _ r (omega arith) (measure_is o a _ r q d (omega arith) stop)
  spine (Grammar.sizeof_type o b c a p q e f d) l le low r stop =
      starts_at l _ _ r (omega arith) (measure_type_is o b c a _ r q e f d (omega arith))
  spine (Grammar.cast o c a b p q e d f) l le low r stop =
      starts_at l _ _ r (omega arith) (cast_is o c a b _ _ r q e d f (omega arith) (omega arith) stop)
  spine (Grammar.postfix {s = s} o a {x} p q d) l le low r stop =
      rw (behind a [] r o) (
      let k = at_least d in
      let on = on_by_tail o _ l (level x) q (le-leb 15 (level x) k) in
      let at = spine d l (omega arith) (omega arith) (o ∷ r) (Firsts.joins x (symbol o) l on) in
      turn l _ x o r (node (Kinds.Postfix s) o (one x)) r at on (omega arith) low (longer_by x o r _ q))
  spine (Grammar.select {s = s} o n a {x} p q e d) l le low r stop =
      rw (behind a (n ∷ []) r o) (
      let k = at_least d in
      let on = on_by_tail o _ l (level x) q (le-leb 15 (level x) k) in
      let at = spine d l (omega arith) (omega arith) (o ∷ (n ∷ r)) (Firsts.joins x (symbol o) l on) in
      turn l _ x o (n ∷ r) (node (Kinds.Select s) o (two x (node Kinds.MemberName n nil))) r at on (omega arith) low
      (longer_by x o (n ∷ r) _ q ∙ then_is None (ap is_word e)))
  spine (Grammar.index o c a b {x} {y} p q e d f) l le low r stop =
      rw (behind a (b ++ (c ∷ [])) r o, behind b [] r c) (
      let k = at_least d in
      let on = on_by_tail o _ l (level x) q (le-leb 15 (level x) k) in
      let at = spine d l (omega arith) (omega arith) (o ∷ (b ++ (c ∷ r))) (Firsts.joins x (symbol o) l on) in
      turn l _ x o (b ++ (c ∷ r)) (node Kinds.Index o (two x y)) r at on (omega arith) low
      (longer_by x o (b ++ (c ∷ r)) _ q
      ∙ bind_is _ (bracketed_is types rec h whole (Expression 0) is_close_bracket _ b c y r f (omega arith)
      (let k = ap Firsts.pull e in omega arith) e refl)))
  spine (Grammar.call o c a b {x} {ys} p q e d f) l le low r stop =
      rw (behind a (b ++ (c ∷ [])) r o, behind b [] r c) (
      let k = at_least d in
      let on = on_by_tail o _ l (level x) q (le-leb 15 (level x) k) in
      let at = spine d l (omega arith) (omega arith) (o ∷ (b ++ (c ∷ r))) (Firsts.joins x (symbol o) l on) in
      turn l _ x o (b ++ (c ∷ r)) (node Kinds.Call o (more x ys)) r at on (omega arith) low
      (longer_by x o (b ++ (c ∷ r)) _ q
      ∙ bind_is _ (listed_is types rec h whole (Expression 1) (expressions_headed types 1) in_lists_1 f
      (omega arith) c r e (let k = ap Firsts.pull e in omega arith))
      ∙ expects_is is_close_parenthesis c _ r (λ rest. Reading.grow rec (suc h) (node Kinds.Call o (more x ys)) rest) e
      refl))
  spine (Grammar.binary {p = p} o a b {x} {y} q e d f) l le low r stop =
      rw (behind a b r o) (
      let k = at_least d in
      let on = on_by_tail o _ l (level x) e (on_between l (infix_level p) (infix_level p) (level x) (omega arith) k) in
      let at = spine d l (omega arith) (omega arith) (o ∷ (b ++ r)) (Firsts.joins x (symbol o) l on) in
      turn l _ x o (b ++ r) (node (Kinds.Infix p) o (two x y)) r at on (omega arith) low
      (longer_by x o (b ++ r) _ e
      ∙ bind_is _ (whole (Expression (infix_level p + 1)) types b y r f (omega arith) (omega arith))))
  spine (Grammar.conditional o m a b c {x} {y} {z} p q e d f g) l le low r stop =
      rw (behind a (b ++ (m ∷ c)) r o, behind b c r m) (
      let k = at_least d in
      let on = on_by_tail o _ l (level x) q (on_between l 2 3 (level x) (omega arith) k) in
      let at = spine d l (omega arith) (omega arith) (o ∷ (b ++ (m ∷ (c ++ r)))) (Firsts.joins x (symbol o) l on) in
      turn l _ x o (b ++ (m ∷ (c ++ r))) (node Kinds.Conditional o (three x y z)) r at on (omega arith) low
      (longer_by x o (b ++ (m ∷ (c ++ r))) _ q
      ∙ bind_is _ (bracketed_is types rec h whole (Expression 0) is_colon _ b m y (c ++ r) f (omega arith)
      (let k = ap Firsts.pull e in omega arith) e refl)
      ∙ bind_is _ (whole (Expression 2) types c z r g (omega arith) stop)))
  spine (Grammar.assignment {p = p} o a b {x} {y} e q d f) l le low r stop =
      rw (behind a b r o) (
      let k = at_least d in
      let on = on_by_tail o _ l (level x) q (on_between l 1 14 (level x) (omega arith) k) in
      let at = spine d l (omega arith) (omega arith) (o ∷ (b ++ r)) (Firsts.joins x (symbol o) l on) in
      turn l _ x o (b ++ r) (node (Kinds.Assignment p) o (two x y)) r at on (omega arith) low
      (longer_by x o (b ++ r) _ q ∙ bind_is _ (whole (Expression 1) types b y r f (omega arith) stop)))

  -- a whole expression is read, where it stops at what follows
  expression_is : (l : ℕ) (a : List Lexeme) (x : Syn) (r : List Lexeme) → Derives types (Expression l) a x →
      height x ≤ suc h → Firsts.pull_of r ≤ l → Reading.expression rec (suc h) l types (a ++ r) ≡ Some (x, r)
  unfolding Reading.climb
  expression_is l a x r d low stop =
      let at = spine d l (omega arith) low r (ends r stop) in go at.turns at.enough at.reads
    where
      ends : (r : List Lexeme) → Firsts.pull_of r ≤ l → Firsts.pull_of r ≤ Firsts.edge x
      ends [] e = omega arith
      ends (t ∷ ts) e = Firsts.stops_edge x (symbol t) l (at_least d) e

      stays : (k : ℕ) (r : List Lexeme) → Firsts.pull_of r ≤ l →
          Reading.climb rec (suc h) (suc k) l types x r ≡ Some (x, r)
      stays k [] e = refl
      stays k (t ∷ ts) e = else_is _ (Firsts.stops_here (symbol t) l (level x)
          (let n = at_least d in let m = level_low x in omega arith) e)

      go : (k : ℕ) → suc (suc h) ≤ k + height x →
          Reading.expression rec (suc h) l types (a ++ r) ≡ Reading.climb rec (suc h) k l types x r →
          Reading.expression rec (suc h) l types (a ++ r) ≡ Some (x, r)
      go zero enough reads = absurd (omega arith)
      go (suc k) enough reads = reads ∙ stays k r stop

  -- Declarators

  abbrev chosen : Option (Option Syn × List Lexeme) → Parsed
  chosen o = o >>= λ b. b.0 >>= λ x. Some (x, b.1)

  -- the reading of ts comes to the declarator x, or to nothing, with r left
  record Arrives (m : Naming) (ts : List Lexeme) (x : Option Syn) (r : List Lexeme) : Type 0 where
    turns : ℕ
    enough : suc (suc h) ≤ turns + highest (parts_of x)
    reads : Reading.direct rec (suc h) m types ts ≡ chosen (Reading.suffixes rec (suc h) turns types x r)

  arrives : (m : Naming) (ts : List Lexeme) (x : Option Syn) (r : List Lexeme) →
      Reading.core rec (suc h) m types ts ≡ Some (x, r) → Arrives m ts x r
  unfolding Reading.direct
  arrives m ts x r e = record { turns = suc (suc h); enough = omega arith; reads = bind_is _ e }

  -- one suffix
  suffixed : (m : Naming) (ts : List Lexeme) (x : Option Syn) (o : Lexeme) (rest : List Lexeme) (y : Syn)
      (r : List Lexeme) → Arrives m ts x (o ∷ rest) → highest (parts_of x) < height y → height y ≤ suc h →
      ((k : ℕ) → Reading.suffixes rec (suc h) (suc k) types x (o ∷ rest)
      ≡ Reading.suffixes rec (suc h) k types (Some y) r) → Arrives m ts (Some y) r
  suffixed m ts x o rest y r at higher low step = go at.turns at.enough at.reads
    where
      go : (k : ℕ) → suc (suc h) ≤ k + highest (parts_of x) →
          Reading.direct rec (suc h) m types ts ≡ chosen (Reading.suffixes rec (suc h) k types x (o ∷ rest)) →
          Arrives m ts (Some y) r
      go zero enough reads = absurd (omega arith)
      go (suc k) enough reads = record { turns = k; enough = omega arith; reads = reads ∙ ap chosen (step k) }

  array_step : (x : Option Syn) (o : Lexeme) (rest : List Lexeme) (y : Syn) (r : List Lexeme) →
      symbol o ≡ Symbols.OpenBracket → Reading.array_from rec (suc h) x o types rest ≡ Some (y, r) →
      (k : ℕ) → Reading.suffixes rec (suc h) (suc k) types x (o ∷ rest)
      ≡ Reading.suffixes rec (suc h) k types (Some y) r
  unfolding Reading.suffixes
  array_step x o rest y r e f k = then_is _ (ap is_open_bracket e) ∙ bind_is _ f

  function_step : (x : Option Syn) (o : Lexeme) (rest : List Lexeme) (y : Syn) (r : List Lexeme) →
      symbol o ≡ Symbols.OpenParenthesis → Reading.function_from rec (suc h) x o types rest ≡ Some (y, r) →
      (k : ℕ) → Reading.suffixes rec (suc h) (suc k) types x (o ∷ rest)
      ≡ Reading.suffixes rec (suc h) k types (Some y) r
  unfolding Reading.suffixes
  function_step x o rest y r e f k =
      else_is _ (ap is_open_bracket e) ∙ then_is _ (ap is_open_parenthesis e) ∙ bind_is _ f

  -- nothing stands before a suffix
  core_nothing : (m : Naming) (r : List Lexeme) → may_be_nameless m ≡ true → opens_suffix types r ≡ true →
      Reading.core rec (suc h) m types r ≡ Some (None, r)
  unfolding Reading.core
  core_nothing m [] nameless opens = cc
  core_nothing m (t ∷ ts) nameless opens =
      else_is _ (no_word (symbol t) opens)
      ∙ else_is _ (ap (λ v. is_open_parenthesis (symbol t) && not (v && opens_parameters types ts)) nameless
      ∙ shut (symbol t) opens)
      ∙ then_is None nameless
    where
      no_word : (s : Symbol) → (is_open_bracket s || (is_open_parenthesis s && opens_parameters types ts)) ≡ true →
          is_word s ≡ false
      no_word Symbols.Word e = cc
      no_word _ e = refl

      shut : (s : Symbol) → (is_open_bracket s || (is_open_parenthesis s && opens_parameters types ts)) ≡ true →
          (is_open_parenthesis s && not (opens_parameters types ts)) ≡ false
      shut Symbols.OpenParenthesis e = ap not e
      shut _ e = refl

  core_name : (m : Naming) (n : Lexeme) (r : List Lexeme) → is_declared_by m types n ≡ true →
      Reading.core rec (suc h) m types (n ∷ r) ≡ Some (Some (node Kinds.DeclaredName n nil), r)
  unfolding Reading.core
  core_name m n r e = then_is _ (Firsts.declared_word m types n e) ∙ then_is None e

  -- what stands in parentheses is no list of parameters
  no_parameters : (m : Naming) {a : List Lexeme} {x : Syn} → Declares types m true a (one x) → (r : List Lexeme) →
      (may_be_nameless m && opens_parameters types (a ++ r)) ≡ false
  no_parameters m d r = by m (Firsts.lead d)
    where
      quiet : (s : Symbol) → begins_declarator s ≡ true →
          (is_close_parenthesis s ≡ false) × (begins_specifier s ≡ false)
      quiet Symbols.CloseParenthesis e = cc
      quiet (Symbols.Specifier w) e = cc
      quiet (Symbols.Record w) e = cc
      quiet Symbols.Enum e = cc
      quiet _ e = (refl, refl)

      opens : (t : Lexeme) (a : List Lexeme) → begins_declarator (symbol t) ≡ true →
          not (is_typedef_name types t) ≡ true → opens_parameters types ((t ∷ a) ++ r) ≡ false
      opens t a e p = let q = quiet (symbol t) e in rw (q.0, q.1) (not_true _ p)

      by : (m : Naming) {a : List Lexeme} {x : Syn} → Firsts.Leading types m true a (one x) →
          (may_be_nameless m && opens_parameters types (a ++ r)) ≡ false
      by Plain l = refl
      by Any l = refl
      by Nameless (Firsts.leading t a e p s) = opens t a e p
      by Either (Firsts.leading t a e p s) = opens t a e p

  core_enclosed : (m : Naming) (o c : Lexeme) (a : List Lexeme) (x : Syn) (r : List Lexeme) →
      symbol o ≡ Symbols.OpenParenthesis → symbol c ≡ Symbols.CloseParenthesis → Declares types m true a (one x) →
      height x ≤ h →
      Reading.core rec (suc h) m types (o ∷ (a ++ (c ∷ r)))
      ≡ Some (Some (node Kinds.ParenthesizedDeclarator o (one x)), r)
  unfolding Reading.core Reading.enclosed_from
  core_enclosed m o c a x r p q d low =
      else_is _ (ap is_word p)
      ∙ then_is _ (ap (λ s. is_open_parenthesis s && not (may_be_nameless m && opens_parameters types (a ++ (c ∷ r)))) p
      ∙ ap not (no_parameters m d (c ∷ r)))
      ∙ bind_is _ (bind_is _ (bracketed_is types rec h whole (Declarator m) is_close_parenthesis _ a c x r
      (Grammar.declarator a d) low (ap Firsts.goes_on_declaring q) q refl))

  opens_bracket : (o : Lexeme) (ts : List Lexeme) → symbol o ≡ Symbols.OpenBracket → opens_suffix types (o ∷ ts) ≡ true
  opens_bracket o ts e = ap (λ s. is_open_bracket s || (is_open_parenthesis s && opens_parameters types ts)) e

  opens_list : {b : List Lexeme} {ys : Syns} (o c : Lexeme) (r : List Lexeme) → symbol o ≡ Symbols.OpenParenthesis →
      symbol c ≡ Symbols.CloseParenthesis → Listed types Parameter b ys → opens_suffix types (o ∷ (b ++ (c ∷ r))) ≡ true
  unfolding parameters_headed
  opens_list {b} o c r e f ds =
      ap (λ s. is_open_bracket s || (is_open_parenthesis s && opens_parameters types (b ++ (c ∷ r)))) e ∙ by ds
    where
      or_true : (a b : Bool) → b ≡ true → (a || b) ≡ true
      or_true true b e = refl
      or_true false b e = e

      by : {b : List Lexeme} {ys : Syns} → Listed types Parameter b ys → opens_parameters types (b ++ (c ∷ r)) ≡ true
      by Grammar.nothing = ap (λ s. is_close_parenthesis s || starts_with (begins_type types) (c ∷ r)) f
      by (Grammar.listed a ds) =
          or_true (starts is_close_parenthesis (a ++ (c ∷ r))) _
          (separated_begins types Parameter (parameters_headed types) ds (c ∷ r))

  -- every declarator without stars in front is on the way of the reading
  direct_spine : {m : Naming} {a : List Lexeme} {xs : Syns} → Declares types m false a xs → highest xs ≤ suc h →
      (r : List Lexeme) → Follows types xs r → Arrives m (a ++ r) (first_part xs) r
  unfolding Follows Reading.array_from Reading.function_from
  direct_spine {m} (Grammar.empty e) low r follow = arrives m r None r (core_nothing m r e follow)
  direct_spine {m} (Grammar.declared n e) low r follow =
      arrives m (n ∷ r) (Some (node Kinds.DeclaredName n nil)) r (core_name m n r e)
  direct_spine {m} (Grammar.enclosed o c a {x} p q d) low r follow =
      rw (behind a [] r c) (arrives m (o ∷ (a ++ (c ∷ r))) (Some (node Kinds.ParenthesizedDeclarator o (one x))) r
      (core_enclosed m o c a x r p q d (omega arith)))
  direct_spine {m} (Grammar.open_array o c a {xs} p q d) low r follow =
      rw (behind a (c ∷ []) r o) (
      let k : parts_of (first_part xs) ≡ xs = kept d in
      let at = direct_spine d (omega arith) (o ∷ (c ∷ r))
      (follows types xs (o ∷ (c ∷ r)) (opens_bracket o (c ∷ r) p)) in
      let same : highest (parts_of (first_part xs)) ≡ highest xs = ap highest k in
      suffixed m _ (first_part xs) o (c ∷ r) (node Kinds.OpenArray o xs) r at (omega arith) (omega arith)
      (array_step (first_part xs) o (c ∷ r) (node Kinds.OpenArray o xs) r p
      (then_is _ (ap is_close_bracket q) ∙ ap (λ v. Reading.grow rec (suc h) (node Kinds.OpenArray o v) r) k
      ∙ then_is None (le-leb _ _ (omega arith)))))
  direct_spine {m} (Grammar.array o c a b {xs} {y} p q d e) low r follow =
      rw (behind a (b ++ (c ∷ [])) r o, behind b [] r c) (
      let k : parts_of (first_part xs) ≡ xs = kept d in
      let t = highest_then_one xs y in
      let at = direct_spine d (omega arith) (o ∷ (b ++ (c ∷ r)))
      (follows types xs (o ∷ (b ++ (c ∷ r))) (opens_bracket o (b ++ (c ∷ r)) p)) in
      let same : highest (parts_of (first_part xs)) ≡ highest xs = ap highest k in
      suffixed m _ (first_part xs) o (b ++ (c ∷ r)) (node Kinds.Array o (then_one xs y)) r at (omega arith)
      (omega arith)
      (array_step (first_part xs) o (b ++ (c ∷ r)) (node Kinds.Array o (then_one xs y)) r p
      (else_is _ (Firsts.not_end is_close_bracket Firsts.no_close_bracket _
      (Firsts.expression_no_end types _ (Firsts.first e (c ∷ r))))
      ∙ bind_is _ (bracketed_is types rec h whole (Expression 2) is_close_bracket _ b c y r e (omega arith)
      (let j = ap Firsts.pull q in omega arith) q refl)
      ∙ ap (λ v. Reading.grow rec (suc h) (node Kinds.Array o (then_one v y)) r) k
      ∙ then_is None (le-leb _ _ (omega arith)))))
  direct_spine {m} (Grammar.function o c a b {xs} {ys} p q d e) low r follow =
      rw (behind a (b ++ (c ∷ [])) r o, behind b [] r c) (
      let k : parts_of (first_part xs) ≡ xs = kept d in
      let y : Syn = node Kinds.Parameters o ys in
      let t = highest_then_one xs (node Kinds.Parameters o ys) in
      let at = direct_spine d (omega arith) (o ∷ (b ++ (c ∷ r)))
      (follows types xs (o ∷ (b ++ (c ∷ r))) (opens_list o c r p q e)) in
      let same : highest (parts_of (first_part xs)) ≡ highest xs = ap highest k in
      suffixed m _ (first_part xs) o (b ++ (c ∷ r))
      (node Kinds.Function o (then_one xs (node Kinds.Parameters o ys))) r at (omega arith) (omega arith)
      (function_step (first_part xs) o (b ++ (c ∷ r))
      (node Kinds.Function o (then_one xs (node Kinds.Parameters o ys))) r p
      (bind_is _ (listed_is types rec h whole Parameter (parameters_headed types) in_lists_parameter e
      (omega arith) c r q (ap Firsts.ends_parameter q))
      ∙ expects_is is_close_parenthesis c _ r (λ rest.
      Reading.grow rec (suc h) (node Kinds.Function o
      (then_one (parts_of (first_part xs)) (node Kinds.Parameters o ys))) rest) q refl
      ∙ ap (λ v. Reading.grow rec (suc h) (node Kinds.Function o (then_one v (node Kinds.Parameters o ys))) r) k
      ∙ then_is None (le-leb _ _ (omega arith)))))

  direct_is : (m : Naming) {a : List Lexeme} {x : Syn} → Declares types m false a (one x) → height x ≤ suc h →
      (r : List Lexeme) → starts Firsts.goes_on_declaring r ≡ false →
      Reading.direct rec (suc h) m types (a ++ r) ≡ Some (x, r)
  unfolding Reading.suffixes Follows
  direct_is m {a} {x} d low r stop = let at = direct_spine d (omega arith) r tt in go at.turns at.enough at.reads
    where
      off : (s : Symbol) → Firsts.goes_on_declaring s ≡ false →
          (is_open_bracket s ≡ false) × (is_open_parenthesis s ≡ false)
      off Symbols.OpenBracket e = cc
      off Symbols.OpenParenthesis e = cc
      off _ e = (refl, refl)

      stays : (k : ℕ) (r : List Lexeme) → starts Firsts.goes_on_declaring r ≡ false →
          Reading.suffixes rec (suc h) (suc k) types (Some x) r ≡ Some (Some x, r)
      stays k [] e = refl
      stays k (t ∷ ts) e = let o = off (symbol t) e in else_is _ o.0 ∙ else_is _ o.1

      go : (k : ℕ) → suc (suc h) ≤ k + highest (one x) →
          Reading.direct rec (suc h) m types (a ++ r) ≡ chosen (Reading.suffixes rec (suc h) k types (Some x) r) →
          Reading.direct rec (suc h) m types (a ++ r) ≡ Some (x, r)
      go zero enough reads = absurd (omega arith)
      go (suc k) enough reads = reads ∙ ap chosen (stays k r stop)

  no_word_before : (s : Symbol) → Firsts.goes_on_declaring s ≡ false → is_specifier_word s ≡ false
  no_word_before (Symbols.Specifier w) e = cc
  no_word_before _ e = refl

  -- behind the qualifiers of a star stands none
  no_more_qualifiers : {m : Naming} {b : List Lexeme} {xs : Syns} → Declares types m true b xs → (r : List Lexeme) →
      starts Firsts.goes_on_declaring r ≡ false → starts is_specifier_word (b ++ r) ≡ false
  no_more_qualifiers {m} d r stop = by (Firsts.lead d)
    where
      off : (r : List Lexeme) → starts Firsts.goes_on_declaring r ≡ false → starts is_specifier_word r ≡ false
      off [] e = refl
      off (t ∷ r) e = no_word_before (symbol t) e

      shut : (s : Symbol) → begins_declarator s ≡ true → is_specifier_word s ≡ false
      shut (Symbols.Specifier w) e = cc
      shut _ e = refl

      by : {b : List Lexeme} {xs : Syns} → Firsts.Leading types m true b xs → starts is_specifier_word (b ++ r) ≡ false
      by (Firsts.no_token e) = off r stop
      by (Firsts.leading t a e p s) = shut (symbol t) e

  declarator_is : (m : Naming) (a : List Lexeme) (x : Syn) (r : List Lexeme) → Derives types (Declarator m) a x →
      height x ≤ suc h → starts Firsts.goes_on_declaring r ≡ false →
      Reading.declarator rec (suc h) m types (a ++ r) ≡ Some (x, r)
  unfolding Reading.declarator Reading.pointer_from
  declarator_is m a x r d low stop = by (Firsts.split (opened d)) low
    where
      star_off : (v : Bool) → (v && true) ≡ false → v ≡ false
      star_off true e = cc
      star_off false e = refl

      plain : {a : List Lexeme} {x : Syn} → Declares types m false a (one x) → Firsts.Leading types m false a (one x) →
          height x ≤ suc h → Reading.declarator rec (suc h) m types (a ++ r) ≡ Some (x, r)
      plain d (Firsts.leading t a e p s) low = else_is _ (star_off (is_star (symbol t)) s) ∙ direct_is m d low r stop

      by : {a : List Lexeme} {x : Syn} → Firsts.Split types m a (one x) → height x ≤ suc h →
          Reading.declarator rec (suc h) m types (a ++ r) ≡ Some (x, r)
      by (Firsts.unstarred d) low = plain d (Firsts.lead d) low
      by (Firsts.stars o a b {qs} {xs} e ds d) low =
          then_is _ (ap is_star e)
          ∙ ap (λ (p : Syns × List Lexeme). Reading.optional_declarator rec m types p.1
          >>= λ d. let q : Syn × List Lexeme = (node Kinds.Pointer o (more (node Kinds.Qualifiers o p.0) d.0), d.1) in
          Some q)
          (ap qualifiers (append_assoc a b r) ∙ qualifiers_are ds (b ++ r) (no_more_qualifiers d r stop))
          ∙ bind_is _ (optional_declarator_is types rec h whole m d (omega arith) r stop)

  parameter_is : (a : List Lexeme) (x : Syn) (r : List Lexeme) → Derives types Parameter a x → height x ≤ suc h →
      starts Firsts.ends_parameter r ≡ true → Reading.parameter rec (suc h) types (a ++ r) ≡ Some (x, r)
  unfolding Reading.parameter
  parameter_is a x r d low stop = by d low
    where
      quiet : starts Firsts.is_quiet r ≡ true
      quiet = Firsts.parameters_quiet r stop

      by : {a : List Lexeme} {x : Syn} → Derives types Parameter a x → height x ≤ suc h →
          Reading.parameter rec (suc h) types (a ++ r) ≡ Some (x, r)
      by (Grammar.parameter a b {s} d e) low =
          rw (append_assoc a b r) (
          bind_is _ (specifiers_are types rec h whole d (omega arith) (b ++ r)
          (Firsts.ends_before refl e (names_a_type s) r quiet))
          ∙ bind_is _ (optional_declarator_is types rec h whole Either e (omega arith) r (Firsts.quiet_stop r quiet)))

  -- Members, enumerators, initializers

  -- specifiers end before the declarators of a member
  ends_member : (s : Syn) {b : List Lexeme} {xs : Syns} → Separated types (Declarator Any) b xs →
      may_follow types s b ≡ true → (r : List Lexeme) → Firsts.EndsSpecifying types (names_a_type s) (b ++ r)
  ends_member s ds may r = by ds may
    where
      one_of : {b : List Lexeme} {x : Syn} (c : List Lexeme) → Firsts.Leading types Any true b (one x) →
          may_follow types s (b ++ c) ≡ true → Firsts.EndsSpecifying types (names_a_type s) ((b ++ c) ++ r)
      one_of c (Firsts.leading t a e p u) may = Firsts.ends_at types (names_a_type s) t ((a ++ c) ++ r) e may

      by : {b : List Lexeme} {xs : Syns} → Separated types (Declarator Any) b xs → may_follow types s b ≡ true →
          Firsts.EndsSpecifying types (names_a_type s) (b ++ r)
      by (Grammar.last a d) may =
          subst (λ v. Firsts.EndsSpecifying types (names_a_type s) (v ++ r)) (append-nil a)
          (one_of [] (Firsts.lead (opened d)) (ap (may_follow types s) (append-nil a) ∙ may))
      by (Grammar.separated c a b e d ds) may = one_of (c ∷ b) (Firsts.lead (opened d)) may

  member_is : (a : List Lexeme) (x : Syn) (r : List Lexeme) → Derives types Member a x → height x ≤ suc h →
      Reading.member rec (suc h) types (a ++ r) ≡ Some (x, r)
  unfolding Reading.member
  member_is a x r d low = by d low
    where
      by : {a : List Lexeme} {x : Syn} → Derives types Member a x → height x ≤ suc h →
          Reading.member rec (suc h) types (a ++ r) ≡ Some (x, r)
      by (Grammar.member c a b {s} {xs} e d ds may) low =
          rw (append_assoc a (b ++ (c ∷ [])) r, behind b [] r c) (
          bind_is _ (specifiers_are types rec h whole d (omega arith) (b ++ (c ∷ r)) (ends_member s ds may (c ∷ r)))
          ∙ bind_is _ (separated_is types rec h whole (Declarator Any) (declarators_headed types Any)
          (in_lists_declarator Any) ds (omega arith) (c ∷ r) (ap Firsts.goes_on_declaring e)
          (not_listing c _ r e refl) (suc (length (b ++ (c ∷ r))))
          (let k = separated_number types (Declarator Any) (declarators_headed types Any) ds in
          let l = length-append b (c ∷ r) in omega arith))
          ∙ expects_is is_semicolon c _ r (λ rest. Some (node Kinds.Member (own_token s) (more s xs), rest)) e refl)

  enumerator_is : (a : List Lexeme) (x : Syn) (r : List Lexeme) → Derives types Enumerator a x → height x ≤ suc h →
      starts Firsts.ends_enumerator r ≡ true → Reading.enumerator rec (suc h) types (a ++ r) ≡ Some (x, r)
  unfolding Reading.enumerator
  enumerator_is a x r d low stop = by d low
    where
      off : (s : Symbol) → Firsts.ends_enumerator s ≡ true → (is_equals s ≡ false) × (Firsts.pull s ≤ 2)
      off Symbols.CloseBrace e = (refl, omega arith)
      off Symbols.Comma e = (refl, omega arith)
      off _ e = cc

      no_equals : (r : List Lexeme) → starts Firsts.ends_enumerator r ≡ true → starts is_equals r ≡ false
      no_equals [] e = cc
      no_equals (t ∷ r) e = (off (symbol t) e).0

      no_pull : (r : List Lexeme) → starts Firsts.ends_enumerator r ≡ true → Firsts.pull_of r ≤ 2
      no_pull [] e = cc
      no_pull (t ∷ r) e = (off (symbol t) e).1

      by : {a : List Lexeme} {x : Syn} → Derives types Enumerator a x → height x ≤ suc h →
          Reading.enumerator rec (suc h) types (a ++ r) ≡ Some (x, r)
      by (Grammar.enumerator n e) low = then_is None e ∙ else_is _ (no_equals r stop)
      by (Grammar.enumerator_value n t a {x} e f d) low =
          then_is None e ∙ then_is _ (ap is_equals f)
          ∙ bind_is _ (whole (Expression 2) types a x r d (omega arith) (no_pull r stop))

  initializer_is : (a : List Lexeme) (x : Syn) (r : List Lexeme) → Derives types Initializer a x → height x ≤ suc h →
      Firsts.pull_of r ≤ 1 → Reading.initializer rec (suc h) types (a ++ r) ≡ Some (x, r)
  unfolding Reading.initializer Reading.braces_from
  initializer_is a x r d low stop = by d low
    where
      plain : (ts : List Lexeme) → starts_with (Firsts.begins_expression types) ts ≡ true →
          Reading.initializer rec (suc h) types ts ≡ Reading.expression rec (suc h) 1 types ts
      plain [] e = cc
      plain (t ∷ ts) e = else_is _ (Firsts.not_end is_open_brace Firsts.no_open_brace (t ∷ ts)
          (Firsts.expression_no_end types (t ∷ ts) e))

      by : {a : List Lexeme} {x : Syn} → Derives types Initializer a x → height x ≤ suc h →
          Reading.initializer rec (suc h) types (a ++ r) ≡ Some (x, r)
      by (Grammar.plain_initializer a {x} d) low = plain (a ++ r) (Firsts.first d r) ∙ expression_is 1 a x r d low stop
      by (Grammar.empty_braces o c e f) low = then_is _ (ap is_open_brace e) ∙ then_is _ (ap is_close_brace f)
      by (Grammar.braces o c a b {xs} e f ds trails) low =
          rw (append_assoc a (b ++ (c ∷ [])) r, behind b [] r c) (
          then_is _ (ap is_open_brace e)
          ∙ else_is _ (no_brace _ ((initializers_headed types).no_close _
          (separated_begins types Initializer (initializers_headed types) ds (b ++ (c ∷ r)))))
          ∙ bind_is _ (in_braces_is types rec h whole Initializer (initializers_headed types) in_lists_initializer ds
          (omega arith) trails c r f (let k = ap Firsts.pull f in omega arith)))

-- no phrase that counts has no height
tall_expression : {types : Names} {l : ℕ} {a : List Lexeme} {x : Syn} → Derives types (Expression l) a x → 1 ≤ height x
tall_expression (Grammar.name t p q e) = omega arith
tall_expression (Grammar.number t p q) = omega arith
tall_expression (Grammar.character t p q) = omega arith
tall_expression (Grammar.text t a p q d) = omega arith
tall_expression (Grammar.parenthesized o c a p q e d) = omega arith
tall_expression (Grammar.index o c a b p q e d f) = omega arith
tall_expression (Grammar.call o c a b p q e d f) = omega arith
tall_expression (Grammar.select o n a p q e d) = omega arith
tall_expression (Grammar.postfix o a p q d) = omega arith
tall_expression (Grammar.prefix o a p q d) = omega arith
tall_expression (Grammar.sizeof_expression o a p q d) = omega arith
tall_expression (Grammar.sizeof_type o b c a p q e f d) = omega arith
tall_expression (Grammar.cast o c a b p q e d f) = omega arith
tall_expression (Grammar.binary o a b p q d e) = omega arith
tall_expression (Grammar.conditional o m a b c p q e d f g) = omega arith
tall_expression (Grammar.assignment o a b p q d e) = omega arith

tall_declarator : {types : Names} {m : Naming} {a : List Lexeme} {x : Syn} → Declares types m true a (one x) →
    1 ≤ height x
tall_declarator (Grammar.declared n e) = omega arith
tall_declarator (Grammar.enclosed o c a p q d) = omega arith
tall_declarator (Grammar.open_array o c a p q d) = omega arith
tall_declarator (Grammar.array o c a b p q d e) = omega arith
tall_declarator (Grammar.function o c a b p q d e) = omega arith
tall_declarator (Grammar.pointer o a b p q d) = omega arith

tall : {types : Names} (g : Goal) {a : List Lexeme} {x : Syn} → Derives types g a x → (r : List Lexeme) →
    Firsts.Stops g r → 1 ≤ height x
tall (Expression l) d r stop = tall_expression d
tall (Declarator m) d r stop = tall_declarator (opened d)
tall Parameter (Grammar.parameter a b d e) r stop = omega arith
tall Member (Grammar.member c a b e d ds may) r stop = omega arith
tall Enumerator (Grammar.enumerator n e) r stop = omega arith
tall Enumerator (Grammar.enumerator_value n t a e f d) r stop = omega arith
tall Initializer (Grammar.plain_initializer a d) r stop = tall_expression d
tall Initializer (Grammar.empty_braces o c e f) r stop = omega arith
tall Initializer (Grammar.braces o c a b e f ds trails) r stop = omega arith
tall Piece d r stop = absurd stop
tall TypeName d r stop = absurd stop
tall Specifiers d r stop = absurd stop
tall Specifier d r stop = absurd stop
tall Qualifier d r stop = absurd stop

-- a tree that is derived, and is not too high, is read, where it stops at what follows
pub complete : (h : ℕ) → Complete (Reading.read h) h
unfolding Reading.read
complete zero g types a x r d low stop = let k = tall g d r stop in absurd (omega arith)
complete (suc h) (Expression l) types a x r d low stop =
    expression_is types (Reading.read h) h (complete h) l a x r d low stop
complete (suc h) (Declarator m) types a x r d low stop =
    declarator_is types (Reading.read h) h (complete h) m a x r d low stop
complete (suc h) Parameter types a x r d low stop = parameter_is types (Reading.read h) h (complete h) a x r d low stop
complete (suc h) Member types a x r d low stop = member_is types (Reading.read h) h (complete h) a x r d low
complete (suc h) Enumerator types a x r d low stop =
    enumerator_is types (Reading.read h) h (complete h) a x r d low stop
complete (suc h) Initializer types a x r d low stop =
    initializer_is types (Reading.read h) h (complete h) a x r d low stop
complete (suc h) Piece types a x r d low stop = absurd stop
complete (suc h) TypeName types a x r d low stop = absurd stop
complete (suc h) Specifiers types a x r d low stop = absurd stop
complete (suc h) Specifier types a x r d low stop = absurd stop
complete (suc h) Qualifier types a x r d low stop = absurd stop
