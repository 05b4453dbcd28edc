-- A tree that is read from accepted tokens fits (C11 6.4.4, 6.8).
use Rattle.std.proofs.Common.{◌≡◌, ℕ, zero, suc, ◌-◌, Bool, true, false, List, [], ◌∷◌, ◌++◌, take, drop, Some, refl}
use Rattle.std.proofs.Common.{sym, ap, subst, ◌∙◌}
use Rattle.std.specs.Prelude.{slice_get, bytes_eq}
use Rattle.std.specs.List.{list_all}
use Rattle.std.proofs.lemmas.Bool.{false≢true, and_parts}
use Rattle.ck_base.specs.declared.tokens.TokenKind.{TokenKind}
use Rattle.ck_base.specs.declared.tokens.TokenKind.TheVariants as Tokens
use Rattle.ck_base.specs.Tokens.{Lexeme, is_among, keywords}
use Rattle.ck_base.specs.Lexes.{IsAccepted, IsTokenOf, Lexes}
use Rattle.ck_base.specs.Lexes as lexing
use Rattle.std.proofs.lemmas.Option.{same_Some}
use Rattle.c_tree.specs.declared.syntax.Tree.{Tree}
use Rattle.c_tree.specs.declared.syntax.NodeKind.{NodeKind}
use Rattle.c_tree.specs.declared.syntax.NodeKind.TheVariants as Kinds
use Rattle.c_tree.specs.declared.syntax.Symbol.{Symbol}
use Rattle.c_tree.specs.declared.syntax.Symbol.TheVariants as Symbols
use Rattle.c_tree.specs.declared.syntax.Head.{Head}
use Rattle.c_tree.specs.declared.syntax.Head.TheVariants as Heads
use Rattle.c_tree.specs.Syntax.{Syn, Syns, node, nil, more, one, joined}
use Rattle.c_tree.specs.Symbols.{look_up, keyword_symbols, punctuator_symbols, symbol_of, head_of}
use Rattle.c_tree.specs.Grammar
use Rattle.c_tree.specs.Grammar.{Naming, Tags, Goal, Derives, Declares, Repeated, Separated, Listed, Initializes}
use Rattle.c_tree.specs.Grammar.{Initialized, Declaration, Optional, States, Items, Externals}
use Rattle.c_tree.specs.Parses
use Rattle.c_tree.specs.Parses.{DerivesFile}
use Rattle.c_tree.specs.Typing.{AreBytes, IsSpelled, AreSpelled, Reads}
use Rattle.typing_laws.specs.Fitting.{IsStatement, KindFits, IsFit, AreFit}
use Rattle.typing_laws.proofs.Scalars.{branched}
use Rattle.typing_laws.proofs.Literals.{number_typed, character_small, Small, small_from, small_take, small_drop}

-- ---- what a literal's token is

-- no word and no punctuator begins an expression as a number or a character constant does
is_plain : Head → Bool
is_plain Heads.Number = false
is_plain Heads.Character = false
is_plain _ = true

abbrev Plain : Symbol → Type 0
Plain s = is_plain (head_of s) ≡ true

looked_up : (table : List (List ℕ × Symbol)) (text : List ℕ) →
    list_all (λ (e : List ℕ × Symbol). is_plain (head_of e.1)) table ≡ true → Plain (look_up table text)
unfolding is_plain
looked_up [] text all = refl
looked_up (e ∷ table) text all =
    let p = and_parts (is_plain (head_of e.1)) (list_all (λ (e : List ℕ × Symbol). is_plain (head_of e.1)) table) all in
    branched Plain (bytes_eq e.0 text) e.1 (look_up table text) (λ _. p.0) (λ _. looked_up table text p.1)

word_plain : (text : List ℕ) → Plain (symbol_of Tokens.Word text)
unfolding symbol_of keyword_symbols is_plain
word_plain text = branched Plain (is_among keywords text) (look_up keyword_symbols text) Symbols.Word
    (λ _. looked_up keyword_symbols text refl) (λ _. refl)

punctuator_plain : (text : List ℕ) → Plain (symbol_of Tokens.Punct text)
unfolding symbol_of punctuator_symbols is_plain
punctuator_plain text = looked_up punctuator_symbols text refl

unlike : (s : Symbol) (h : Head) → Plain s → head_of s ≡ h → is_plain h ≡ false → ⊥
unlike s h p e f = false≢true (sym f ∙ ap is_plain (sym e) ∙ p)

number_token : (k : TokenKind) (text : List ℕ) → head_of (symbol_of k text) ≡ Heads.Number → IsAccepted k text →
    IsAccepted Tokens.Number text
unfolding symbol_of is_plain
number_token Tokens.Word text e h = absurd (unlike (symbol_of Tokens.Word text) Heads.Number (word_plain text) e refl)
number_token Tokens.Number text e h = h
number_token Tokens.Char text e h = absurd cc
number_token Tokens.Text text e h = absurd cc
number_token Tokens.Punct text e h =
    absurd (unlike (symbol_of Tokens.Punct text) Heads.Number (punctuator_plain text) e refl)

character_token : (k : TokenKind) (text : List ℕ) → head_of (symbol_of k text) ≡ Heads.Character → IsAccepted k text →
    IsAccepted Tokens.Char text
unfolding symbol_of is_plain
character_token Tokens.Word text e h =
    absurd (unlike (symbol_of Tokens.Word text) Heads.Character (word_plain text) e refl)
character_token Tokens.Number text e h = absurd cc
character_token Tokens.Char text e h = h
character_token Tokens.Text text e h = absurd cc
character_token Tokens.Punct text e h =
    absurd (unlike (symbol_of Tokens.Punct text) Heads.Character (punctuator_plain text) e refl)

module _ (S : Lexeme → Type 0) where
  -- ---- accepted tokens, of which more may be known

  abbrev AllAccepted : List Lexeme → Type 0
  AllAccepted [] = Unit {0}
  AllAccepted (t ∷ ts) = (IsAccepted t.kind t.text × S t) × AllAccepted ts

  all_from : (ts : List Lexeme) →
      ((k : ℕ) (t : Lexeme) → slice_get ts k ≡ Some t → IsAccepted t.kind t.text × S t) → AllAccepted ts
  all_from [] h = tt
  all_from (t ∷ ts) h = (h 0 t refl, all_from ts (λ k u e. h (suc k) u e))

  split : (a b : List Lexeme) → AllAccepted (a ++ b) → AllAccepted a × AllAccepted b
  split [] b h = (tt, h)
  split (t ∷ a) b h = let r = split a b h.1 in ((h.0, r.0), r.1)

  -- ---- what the grammar gives of a tree

  abbrev KindRead : NodeKind → Lexeme → Syns → Type 0
  KindRead Kinds.Number t xs = IsAccepted Tokens.Number t.text
  KindRead Kinds.Character t xs = IsAccepted Tokens.Char t.text × S t
  KindRead k t xs = KindFits k t xs

  abbrev mutual
    IsRead : Syn → Type 0
    IsRead (node k t xs) = KindRead k t xs × AreRead xs

    AreRead : Syns → Type 0
    AreRead nil = Unit {0}
    AreRead (more x xs) = IsRead x × AreRead xs

  joined_read : (xs ys : Syns) → AreRead xs → AreRead ys → AreRead (joined xs ys)
  joined_read nil ys h k = k
  joined_read (more x xs) ys h k = (h.0, joined_read xs ys h.1 k)

  tags_read : {n : List Lexeme} {ns : Syns} → Tags n ns → AreRead ns
  tags_read Grammar.untagged = tt
  tags_read (Grammar.tagged n e) = ((tt, tt), tt)

  mutual
    read : {types : List (List ℕ)} {g : Goal} {a : List Lexeme} {x : Syn} → Derives types g a x → AllAccepted a →
        IsRead x
    read (Grammar.name t l e f) h = (tt, tt)
    read (Grammar.number t l e) h = (number_token t.kind t.text e h.0.0, tt)
    read (Grammar.character t l e) h = ((character_token t.kind t.text e h.0.0, h.0.1), tt)
    read (Grammar.text t a l e ds) h = (tt, repeated_read ds h.1)
    read (Grammar.piece t e) h = (tt, tt)
    read (Grammar.parenthesized o c a l e f d) h = (tt, (read d (split a (c ∷ []) h.1).0, tt))
    read (Grammar.index o c a b l e f d q) h =
        let p = split a (o ∷ (b ++ (c ∷ []))) h in
        (tt, (read d p.0, (read q (split b (c ∷ []) p.1.1).0, tt)))
    read (Grammar.call o c a b l e f d ds) h =
        let p = split a (o ∷ (b ++ (c ∷ []))) h in
        (tt, (read d p.0, listed_read ds (split b (c ∷ []) p.1.1).0))
    read (Grammar.select o n a l e f d) h = (tt, (read d (split a (o ∷ (n ∷ [])) h).0, ((tt, tt), tt)))
    read (Grammar.postfix o a l e d) h = (tt, (read d (split a (o ∷ []) h).0, tt))
    read (Grammar.prefix o a l e d) h = (tt, (read d h.1, tt))
    read (Grammar.sizeof_expression o a l e d) h = (tt, (read d h.1, tt))
    read (Grammar.sizeof_type o b c a l e f k d) h = (tt, (read d (split a (c ∷ []) h.1.1).0, tt))
    read (Grammar.cast o c a b l e f d q) h =
        let p = split a (c ∷ b) h.1 in
        (tt, (read d p.0, (read q p.1.1, tt)))
    read (Grammar.binary o a b l e d q) h =
        let p = split a (o ∷ b) h in
        (tt, (read d p.0, (read q p.1.1, tt)))
    read (Grammar.conditional o m a b c l e f d q k) h =
        let p = split a (o ∷ (b ++ (m ∷ c))) h in
        let r = split b (m ∷ c) p.1.1 in
        (tt, (read d p.0, (read q r.0, (read k r.1.1, tt))))
    read (Grammar.assignment o a b l e d q) h =
        let p = split a (o ∷ b) h in
        (tt, (read d p.0, (read q p.1.1, tt)))
    read (Grammar.specifiers a ds e) h = (tt, repeated_read ds h)
    read (Grammar.specifier_word t e) h = (tt, tt)
    read (Grammar.typedef_name t e) h = (tt, tt)
    read (Grammar.record_tag t n e f) h = (tt, ((tt, tt), tt))
    read (Grammar.record_members t o c n a {ns = ns} {x = x} {xs = xs} e tags f k ds) h =
        let p = split n (o ∷ (a ++ (c ∷ []))) h.1 in
        (tt, joined_read ns (more x xs) (tags_read tags) (repeated_read ds (split a (c ∷ []) p.1.1).0))
    read (Grammar.member c a b e d ds m) h =
        let p = split a (b ++ (c ∷ [])) h in
        (tt, (read d p.0, separated_read ds (split b (c ∷ []) p.1).0))
    read (Grammar.enum_tag t n e f) h = (tt, ((tt, tt), tt))
    read (Grammar.enum_list t o c n a z {ns = ns} {xs = xs} e tags f k ds w) h =
        let p = split n (o ∷ (a ++ (z ++ (c ∷ [])))) h.1 in
        (tt, joined_read ns xs (tags_read tags) (separated_read ds (split a (z ++ (c ∷ [])) p.1.1).0))
    read (Grammar.enumerator n e) h = (tt, tt)
    read (Grammar.enumerator_value n o a e f d) h = (tt, (read d h.1.1, tt))
    read (Grammar.qualifier t e f) h = (tt, tt)
    read (Grammar.declarator a d) h = (declares_read d h).0
    read (Grammar.parameter a b d q) h =
        let p = split a b h in
        (tt, (read d p.0, declares_read q p.1))
    read (Grammar.type_name a b d q) h =
        let p = split a b h in
        (tt, (read d p.0, declares_read q p.1))
    read (Grammar.plain_initializer a d) h = read d h
    read (Grammar.empty_braces o c e f) h = (tt, tt)
    read (Grammar.braces o c a z e f ds w) h = (tt, separated_read ds (split a (z ++ (c ∷ [])) h.1).0)

    declares_read : {types : List (List ℕ)} {m : Naming} {starred : Bool} {a : List Lexeme} {xs : Syns} →
        Declares types m starred a xs → AllAccepted a → AreRead xs
    declares_read (Grammar.empty e) h = tt
    declares_read (Grammar.declared n e) h = ((tt, tt), tt)
    declares_read (Grammar.enclosed o c a e f d) h = ((tt, declares_read d (split a (c ∷ []) h.1).0), tt)
    declares_read (Grammar.open_array o c a e f d) h = ((tt, declares_read d (split a (o ∷ (c ∷ [])) h).0), tt)
    declares_read (Grammar.array o c a b {xs = xs} {y = y} e f d q) h =
        let p = split a (o ∷ (b ++ (c ∷ []))) h in
        ((tt, joined_read xs (one y) (declares_read d p.0) (read q (split b (c ∷ []) p.1.1).0, tt)), tt)
    declares_read (Grammar.function o c a b {xs = xs} {ys = ys} e f d ds) h =
        let p = split a (o ∷ (b ++ (c ∷ []))) h in (
          (
            tt,
            joined_read xs (one (node Kinds.Parameters o ys)) (declares_read d p.0)
                ((tt, listed_read ds (split b (c ∷ []) p.1.1).0), tt),
          ),
          tt,
        )
    declares_read (Grammar.pointer o a b e ds d) h =
        let p = split a b h.1 in
        ((tt, ((tt, repeated_read ds p.0), declares_read d p.1)), tt)

    repeated_read : {types : List (List ℕ)} {g : Goal} {a : List Lexeme} {xs : Syns} → Repeated types g a xs →
        AllAccepted a → AreRead xs
    repeated_read Grammar.finished h = tt
    repeated_read (Grammar.repeated a b d ds) h = let p = split a b h in (read d p.0, repeated_read ds p.1)

    separated_read : {types : List (List ℕ)} {g : Goal} {a : List Lexeme} {xs : Syns} → Separated types g a xs →
        AllAccepted a → AreRead xs
    separated_read (Grammar.last a d) h = (read d h, tt)
    separated_read (Grammar.separated c a b e d ds) h =
        let p = split a (c ∷ b) h in (read d p.0, separated_read ds p.1.1)

    listed_read : {types : List (List ℕ)} {g : Goal} {a : List Lexeme} {xs : Syns} → Listed types g a xs →
        AllAccepted a → AreRead xs
    listed_read Grammar.nothing h = tt
    listed_read (Grammar.listed a ds) h = separated_read ds h

  -- ---- declarations

  initializes_read : {types : List (List ℕ)} {m : Naming} {defines : Bool} {a : List Lexeme} {x : Syn} →
      Initializes types m defines a x → AllAccepted a → IsRead x
  initializes_read (Grammar.uninitialized a d) h = (tt, (read d h, tt))
  initializes_read (Grammar.initialized o a b e d q) h =
      let p = split a (o ∷ b) h in (tt, (read d p.0, (read q p.1.1, tt)))

  initialized_read : {m : Naming} {defines : Bool} {types : List (List ℕ)} {a : List Lexeme} {xs : Syns} →
      Initialized m defines types a xs → AllAccepted a → AreRead xs
  initialized_read (Grammar.last_one a d) h = (initializes_read d h, tt)
  initialized_read (Grammar.one_more c a b e d ds) h =
      let p = split a (c ∷ b) h in (initializes_read d p.0, initialized_read ds p.1.1)

  declaration_read : {types : List (List ℕ)} {at_file_scope : Bool} {a : List Lexeme} {x : Syn} →
      Declaration types at_file_scope a x → AllAccepted a → IsRead x
  declaration_read (Grammar.specifiers_only c a e d) h = (tt, (read d (split a (c ∷ []) h).0, tt))
  declaration_read (Grammar.declaration c a b e d ds) h =
      let p = split a (b ++ (c ∷ [])) h in
      (tt, (read d p.0, initialized_read ds (split b (c ∷ []) p.1).0))

  optional_read : {types : List (List ℕ)} {before : Lexeme} {a : List Lexeme} {x : Syn} → Optional types before a x →
      AllAccepted a → IsRead x
  optional_read Grammar.absent h = (tt, tt)
  optional_read (Grammar.present a d) h = read d h

  -- ---- statements

  mutual
    states_read : {types : List (List ℕ)} {a : List Lexeme} {x : Syn} → States types a x → AllAccepted a →
        IsRead x × IsStatement x
    states_read (Grammar.block o c a e f is) h = ((tt, items_read is (split a (c ∷ []) h.1).0), refl)
    states_read (Grammar.empty_statement c e) h = ((tt, tt), refl)
    states_read (Grammar.expression_statement c a e d) h = ((tt, (read d (split a (c ∷ []) h).0, tt)), refl)
    states_read (Grammar.if_statement t o c a b e f g d s) h =
        let p = split a (c ∷ b) h.1.1 in
        let y = states_read s p.1.1 in
        ((y.1, (read d p.0, (y.0, tt))), refl)
    states_read (Grammar.if_else t o c z a b d e f g k q s n r) h =
        let p = split a (c ∷ (b ++ (z ∷ d))) h.1.1 in
        let u = split b (z ∷ d) p.1.1 in
        let y = states_read s u.0 in
        let w = states_read r u.1.1 in
        (((y.1, w.1), (read q p.0, (y.0, (w.0, tt)))), refl)
    states_read (Grammar.switch t o c p q a b e f g k l d is) h =
        let u = split a (c ∷ (p ∷ (b ++ (q ∷ [])))) h.1.1 in
        ((tt, (read d u.0, items_read is (split b (q ∷ []) u.1.1.1).0)), refl)
    states_read (Grammar.while_statement t o c a b e f g d s) h =
        let p = split a (c ∷ b) h.1.1 in
        let y = states_read s p.1.1 in
        ((y.1, (read d p.0, (y.0, tt))), refl)
    states_read (Grammar.do_statement t w o c z a b e f g k l s d) h =
        let p = split a (w ∷ (o ∷ (b ++ (c ∷ (z ∷ []))))) h.1 in
        let y = states_read s p.0 in
        ((y.1, (y.0, (read d (split b (c ∷ (z ∷ [])) p.1.1.1).0, tt))), refl)
    states_read (Grammar.for_statement t o p q c a b d z e f g k l x y w s) h =
        let u = split a (p ∷ (b ++ (q ∷ (d ++ (c ∷ z))))) h.1.1 in
        let v = split b (q ∷ (d ++ (c ∷ z))) u.1.1 in
        let r = split d (c ∷ z) v.1.1 in
        let i = states_read s r.1.1 in
        ((i.1, (optional_read x u.0, (optional_read y v.0, (optional_read w r.0, (i.0, tt))))), refl)
    states_read (Grammar.for_declaration t o q c a b d z e f g k x y w s) h =
        let u = split a (b ++ (q ∷ (d ++ (c ∷ z)))) h.1.1 in
        let v = split b (q ∷ (d ++ (c ∷ z))) u.1 in
        let r = split d (c ∷ z) v.1.1 in
        let i = states_read s r.1.1 in
        ((i.1, (declaration_read x u.0, (optional_read y v.0, (optional_read w r.0, (i.0, tt))))), refl)
    states_read (Grammar.break_statement t c e f) h = ((tt, tt), refl)
    states_read (Grammar.continue_statement t c e f) h = ((tt, tt), refl)
    states_read (Grammar.return_statement t c e f) h = ((tt, tt), refl)
    states_read (Grammar.return_value t c a e f d) h = ((tt, (read d (split a (c ∷ []) h.1).0, tt)), refl)

    items_read : {in_switch : Bool} {types : List (List ℕ)} {a : List Lexeme} {xs : Syns} → Items in_switch types a xs →
        AllAccepted a → AreRead xs
    items_read Grammar.no_item h = tt
    items_read (Grammar.declaration_item a b d is) h =
        let p = split a b h in (declaration_read d p.0, items_read is p.1)
    items_read (Grammar.statement_item a b s is) h = let p = split a b h in ((states_read s p.0).0, items_read is p.1)
    items_read (Grammar.case_item t c a b e f d is) h =
        let p = split a (c ∷ b) h.1 in ((tt, (read d p.0, tt)), items_read is p.1.1)
    items_read (Grammar.default_item t c b e f is) h = ((tt, tt), items_read is h.1.1)

  -- ---- files

  externals_read : {types : List (List ℕ)} {a : List Lexeme} {xs : Syns} → Externals types a xs → AllAccepted a →
      AreRead xs
  externals_read Grammar.no_external h = tt
  externals_read (Grammar.empty_external c b e es) h = ((tt, tt), externals_read es h.1)
  externals_read (Grammar.external_declaration a b d es) h =
      let p = split a b h in (declaration_read d p.0, externals_read es p.1)
  externals_read (Grammar.function_definition o c a b d z e f s x is es) h =
      let u = split a (b ++ (o ∷ (d ++ (c ∷ z)))) h in
      let v = split b (o ∷ (d ++ (c ∷ z))) u.1 in
      let r = split d (c ∷ z) v.1.1 in
      ((tt, (read s u.0, (read x v.0, ((tt, items_read is r.0), tt)))), externals_read es r.1.1)

  file_read : {a : List Lexeme} {x : Syn} → DerivesFile a x → AllAccepted a → IsRead x
  file_read (Parses.file es) h = (tt, externals_read es h)

-- ---- a tree that is spelled in bytes, and one whose tokens are

abbrev Known : Lexeme → Type 0
Known t = Unit {0}

abbrev SmallText : Lexeme → Type 0
SmallText t = Small t.text

module _ (bytes : List ℕ) (small : Small bytes) where
  text_small : (t : Lexeme) → t.text ≡ take (t.span.end - t.span.start) (drop t.span.start bytes) → Small t.text
  text_small t e = subst Small (sym e) (small_take (t.span.end - t.span.start) (drop t.span.start bytes)
      (small_drop t.span.start bytes small))

  kind_spelled : (k : NodeKind) (t : Lexeme) (xs : Syns) → KindRead Known k t xs → Small t.text →
      KindRead SmallText k t xs
  kind_spelled Kinds.Character t xs r s = (r.0, s)
  kind_spelled k t xs r s = r

  mutual
    unfolding IsSpelled AreSpelled

    spelled : (x : Syn) → IsRead Known x → IsSpelled bytes x → IsRead SmallText x
    spelled (node k t xs) r s = (kind_spelled k t xs r.0 (text_small t s.0), all_spelled xs r.1 s.1)

    all_spelled : (xs : Syns) → AreRead Known xs → AreSpelled bytes xs → AreRead SmallText xs
    all_spelled nil r s = tt
    all_spelled (more x xs) r s = (spelled x r.0 s.0, all_spelled xs r.1 s.1)

kind_fits : (k : NodeKind) (t : Lexeme) (xs : Syns) → KindRead SmallText k t xs → KindFits k t xs
kind_fits Kinds.Number t xs r = number_typed t.text r.0 r.1
kind_fits Kinds.Character t xs r = character_small t.text r.0.0 r.0.1 r.1
kind_fits k t xs r = r

mutual
  unfolding IsFit AreFit

  fit : (x : Syn) → IsRead SmallText x → IsFit x
  fit (node k t xs) r = (kind_fits k t xs r.0, all_fit xs r.1)

  all_fit : (xs : Syns) → AreRead SmallText xs → AreFit xs
  all_fit nil r = tt
  all_fit (more x xs) r = (fit x r.0, all_fit xs r.1)

pub fit_of_reads : (tree : Tree) (bytes : List ℕ) (x : Syn) → Reads tree bytes x → IsFit x
fit_of_reads tree bytes x r =
    fit x (spelled bytes (small_from bytes r.small) x
    (file_read Known r.derives (all_from Known r.tokens (λ k t e. (r.accepted k t e, tt)))) r.spelled)

-- each token that was read is a token of the file
pub token_of : (file : List ℕ) (i : ℕ) (tokens : List Lexeme) (k : ℕ) → lexing.Reads file i tokens k →
    (j : ℕ) (t : Lexeme) → slice_get tokens j ≡ Some t → IsTokenOf file t
token_of file i [] k r j t e = absurd cc
token_of file i (u ∷ us) k r zero t e = subst (IsTokenOf file) (same_Some u t e) r.0.1
token_of file i (u ∷ us) k r (suc j) t e = token_of file u.span.end us k r.1 j t e

pub fit_of_tokens : (bytes : List ℕ) (tokens : List Lexeme) (x : Syn) → AreBytes bytes → Lexes bytes tokens →
    DerivesFile tokens x → IsFit x
fit_of_tokens bytes tokens x b l d =
    fit x (file_read SmallText d (all_from SmallText tokens (λ k t e.
    let o = token_of bytes 0 tokens l.0 l.1 k t e in
    (subst (IsAccepted t.kind) (sym o.text) o.begins.accepted, text_small bytes (small_from bytes b) t o.text))))
