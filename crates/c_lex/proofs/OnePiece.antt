-- At most one thing stands at a place.
use Rattle.std.proofs.Common.{◌≡◌, ℕ, zero, suc, ◌+◌, Bool, true, false, not, ◌&&◌, ◌||◌, ◌==◌, List, [], ◌∷◌, take}
use Rattle.std.proofs.Common.{drop, refl, sym, ap, subst, ◌∙◌, ◌⊎◌, inl, inr, arith}
use Rattle.std.specs.Prelude.{Option, Some, None, if◌then◌else◌, codes, bytes_eq, nat_eq}
use Rattle.std.proofs.Math.Bool.{and-false}
use Rattle.std.proofs.lemmas.Slice.Eq.{bytes_eq-Decides}
use Rattle.ck_base.specs.Literals.{are_digits}
use Rattle.std.specs.Char.{is_ascii_digit}
use Rattle.std.proofs.lemmas.Bool.{eqb-true, cases_lt, not-true, or_parts, or_cases}
use Rattle.ck_base.specs.declared.tokens.TokenKind.{TokenKind}
use Rattle.ck_base.specs.declared.tokens.TokenKind.TheVariants.{Word, Number, Char, Text, Punct}
use Rattle.ck_base.specs.Tokens.{is_among, is_nondigit, is_word, starts_number, is_number, is_quoted, punctuators}
use Rattle.ck_base.specs.Tokens.{has_form, left_out}
use Rattle.ck_base.specs.Lexes.{begins_with, starts_comment, is_blank, is_quote, is_literal, is_marker, is_pragma}
use Rattle.ck_base.specs.Lexes.{next_word, begins_skipped, begins_pack, line_length, ClosesBehind, NeverCloses}
use Rattle.ck_base.specs.Lexes.{BeginsWithComment, Separates, IsLongest, BeginsNoToken, IsAccepted, Breaks}
use Rattle.c_lex.specs.Fronts.{beginning}
use Rattle.c_lex.specs.declared.pieces.Found.{Found}
use Rattle.c_lex.specs.declared.pieces.Found.TheVariants as found
use Rattle.c_lex.specs.declared.pieces.Piece.{Piece}
use Rattle.c_lex.specs.declared.pieces.Piece.TheVariants as piece
use Rattle.c_lex.specs.Pieces.{StandsFound, Stands}
use Rattle.c_lex.proofs.Escapes.{some_injective}
use Rattle.c_lex.proofs.Longest.{kind_of_form, longest_some}
use Rattle.c_lex.proofs.Tables.{and_true, among_passes}

clash : {b : Bool} → b ≡ true → b ≡ false → ⊥
clash e f = let g = sym e ∙ f in cc

-- What the first bytes say

abbrev choose : Bool → Bool → Bool → Bool → ℕ
choose blank line block hash = if blank then 0 else (if line then 1 else (if block then 2 else (if hash then 3 else 4)))

pub sort : List ℕ → ℕ
sort [] = 5
sort (b ∷ bs) = choose (is_blank b) (begins_with (codes "//") (b ∷ bs)) (begins_with (codes "/*") (b ∷ bs)) (b == 35)

slash_first : (second b : ℕ) (bs : List ℕ) → begins_with (47 ∷ second ∷ []) (b ∷ bs) ≡ true → b ≡ 47
slash_first second b bs e = sym (eqb-true 47 b (and_true (nat_eq 47 b) _ e).0)

sort_blank : (b : ℕ) (bs : List ℕ) → is_blank b ≡ true → sort (b ∷ bs) ≡ 0
unfolding sort
sort_blank b bs e = rw e refl

sort_line : (bytes : List ℕ) → begins_with (codes "//") bytes ≡ true → sort bytes ≡ 1
unfolding sort is_blank
sort_line [] e = cc
sort_line (b ∷ bs) e = let slash = slash_first 47 b bs e in rw e (rw slash refl)

second_is : (second b c : ℕ) (bs : List ℕ) → begins_with (47 ∷ second ∷ []) (b ∷ c ∷ bs) ≡ true → c ≡ second
second_is second b c bs e = sym (eqb-true second c (and_true (nat_eq second c) true (and_true (nat_eq 47 b) _ e).1).0)

sort_block : (bytes : List ℕ) → begins_with (codes "/*") bytes ≡ true → sort bytes ≡ 2
unfolding sort is_blank
sort_block [] e = cc
sort_block (b ∷ []) e = let second = (and_true (nat_eq 47 b) false e).1 in cc
sort_block (b ∷ c ∷ bs) e =
    let slash = slash_first 42 b (c ∷ bs) e in let star = second_is 42 b c bs e in rw (slash, star) refl

sort_hash : (bs : List ℕ) → sort (35 ∷ bs) ≡ 3
unfolding sort is_blank
sort_hash bs = refl

-- other bytes, where no comment begins
sort_other : (b : ℕ) (bs : List ℕ) → is_blank b ≡ false → starts_comment (b ∷ bs) ≡ false →
    sort (b ∷ bs) ≡ (if b == 35 then 3 else 4)
unfolding sort
sort_other b bs no_blank no_comment =
    by_comment (begins_with (codes "//") (b ∷ bs)) (begins_with (codes "/*") (b ∷ bs)) no_comment
  where
    by_comment : (line block : Bool) → (line || block) ≡ false →
        choose (is_blank b) line block (b == 35) ≡ (if b == 35 then 3 else 4)
    by_comment true block e = cc
    by_comment false true e = cc
    by_comment false false e = rw no_blank refl

-- The first byte of a token

-- it is no blank and no `#`
outside : ℕ → Bool
outside b = is_blank b || b == 35

first_of : List ℕ → ℕ
first_of [] = 0
first_of (b ∷ bs) = b

form_first : (kind : TokenKind) (b : ℕ) (bs : List ℕ) → has_form kind (b ∷ bs) ≡ true → outside b ≡ false
unfolding has_form is_word is_number is_quoted starts_number is_nondigit is_blank outside punctuators first_of
form_first Word b bs form = let e = (and_true (is_nondigit b) _ form).0 in grind arith
form_first Number b bs form = elim (or_cases (is_ascii_digit b) _ (and_true (starts_number (b ∷ bs)) _ form).0) [
  | inl digit ↦ grind arith
  | inr dot ↦ (let is_dot = eqb-true b 46 (and_true (b == 46) _ dot).0 in rw is_dot refl)
]
form_first Char b bs form = let quote = eqb-true b 39 (and_true (b == 39) _ form).0 in rw quote refl
form_first Text b bs form = let quote = eqb-true b 34 (and_true (b == 34) _ form).0 in rw quote refl
form_first Punct b bs form =
    not-true (outside b) (among_passes (λ t. not (outside (first_of t))) punctuators (b ∷ bs) refl form)

-- where a token begins and no comment does
sort_token : (bytes : List ℕ) (kind : TokenKind) (n : ℕ) → has_form kind (take n bytes) ≡ true →
    starts_comment bytes ≡ false → sort bytes ≡ 4
unfolding outside
sort_token bytes kind zero form no_comment = let some = longest_some bytes kind zero form in absurd (omega arith)
sort_token [] kind (suc n) form no_comment = let some = longest_some [] kind zero form in absurd (omega arith)
sort_token (b ∷ bs) kind (suc n) form no_comment =
    let other = or_parts (is_blank b) (b == 35) (form_first kind b (take n bs) form) in
    sort_other b bs other.0 no_comment ∙ rw other.1 refl

-- where a comment begins, only a punctuator does
slash_kind : (second : ℕ) (bytes : List ℕ) (kind : TokenKind) (n : ℕ) → begins_with (47 ∷ second ∷ []) bytes ≡ true →
    has_form kind (take n bytes) ≡ true → (kind ≡ Punct) × (first_of (take n bytes) ≡ 47)
unfolding beginning is_nondigit starts_number first_of
slash_kind second bytes kind zero begins form = let some = longest_some bytes kind zero form in absurd (omega arith)
slash_kind second [] kind (suc n) begins form = let some = longest_some [] kind zero form in absurd (omega arith)
slash_kind second (b ∷ bs) kind (suc n) begins form =
    let slash = slash_first second b bs begins in
    (sym (kind_of_form kind (b ∷ take n bs) form) ∙ rw slash refl, slash)

comment_kind : (bytes : List ℕ) (kind : TokenKind) (n : ℕ) → starts_comment bytes ≡ true →
    has_form kind (take n bytes) ≡ true → (kind ≡ Punct) × (first_of (take n bytes) ≡ 47)
comment_kind bytes kind n comment form =
    elim (or_cases (begins_with (codes "//") bytes) _ comment)
    [ inl line ↦ slash_kind 47 bytes kind n line form | inr block ↦ slash_kind 42 bytes kind n block form ]

not_comment : (bytes : List ℕ) (b : Bool) → starts_comment bytes ≡ b → (starts_comment bytes ≡ true → ⊥) → b ≡ false
not_comment bytes true e never = absurd (never e)
not_comment bytes false e never = refl

literal_no_comment : (bytes : List ℕ) (kind : TokenKind) (n : ℕ) → has_form kind (take n bytes) ≡ true →
    is_literal kind ≡ true → starts_comment bytes ≡ false
literal_no_comment bytes kind n form literal =
    not_comment bytes _ refl (λ comment. clash literal (ap is_literal (comment_kind bytes kind n comment form).0))

left_out_no_comment : (bytes : List ℕ) (kind : TokenKind) (n : ℕ) → has_form kind (take n bytes) ≡ true →
    is_among left_out (take n bytes) ≡ true → starts_comment bytes ≡ false
unfolding left_out first_of
left_out_no_comment bytes kind n form among = not_comment bytes _ refl (λ comment.
    clash (among_passes (λ t. not (first_of t == 47)) left_out (take n bytes) refl among)
    (rw (comment_kind bytes kind n comment form).1 refl))

-- what is left out is no literal
left_out_no_literal : (kind : TokenKind) (text : List ℕ) → has_form kind text ≡ true → is_among left_out text ≡ true →
    is_literal kind ≡ true → ⊥
unfolding left_out beginning is_nondigit starts_number
left_out_no_literal kind text form among literal =
    clash (among_passes (λ t. not (is_literal (beginning t))) left_out text refl among)
    (rw (kind_of_form kind text form, literal) refl)

-- where no token begins and no blank stands, no comment begins: a slash is a token
no_token_no_comment : (bytes : List ℕ) → BeginsNoToken bytes → starts_comment bytes ≡ false
unfolding has_form punctuators
no_token_no_comment [] none = refl
no_token_no_comment (b ∷ bs) none = not_comment (b ∷ bs) _ refl (λ comment.
    let slash : b ≡ 47 = elim (or_cases (begins_with (codes "//") (b ∷ bs)) _ comment)
    [ inl line ↦ slash_first 47 b bs line | inr block ↦ slash_first 42 b bs block ] in
    clash (subst (λ c. has_form Punct (c ∷ []) ≡ true) (sym slash) refl) (none Punct 1 (omega arith)))

-- What stands, by the sort

-- where the sort says it all
fixed : ℕ → Bool → List ℕ → Option Piece
fixed zero first bytes = Some (piece.Separator 1)
fixed (suc zero) first bytes = Some (piece.Separator (line_length bytes))
fixed (suc (suc zero)) first bytes = None
fixed (suc (suc (suc zero))) first bytes =
    Some (if first && begins_skipped bytes then piece.Separator (line_length bytes)
    else piece.Other (found.Refused (if first && begins_pack bytes then 104 else 100)))
fixed (suc (suc (suc (suc zero)))) first bytes = None
fixed (suc (suc (suc (suc (suc n))))) first bytes = Some (piece.Other found.End)

-- a comment, closed or not
data InComment (bytes : List ℕ) : Piece → Type 0 where
  whole : {n : ℕ} → ClosesBehind (drop 2 bytes) n → InComment bytes (piece.Separator (n + 4))
  unclosed : NeverCloses (drop 2 bytes) → InComment bytes (piece.Other (found.Refused 101))

-- the longest token, good or not
data Judged (kind : TokenKind) (n : ℕ) (text : List ℕ) : Piece → Type 0 where
  good : IsAccepted kind text → Judged kind n text (piece.Other (found.Token kind n))
  literal : is_literal kind ≡ true → (IsAccepted kind text → ⊥) → Judged kind n text (piece.Other (found.Refused 102))
  word : is_among left_out text ≡ true → Judged kind n text (piece.Other (found.Refused 103))

data InToken (bytes : List ℕ) : Piece → Type 0 where
  nothing : BeginsNoToken bytes →
      InToken bytes (piece.Other (found.Refused (if is_quote (first_of bytes) then 101 else 100)))
  longest : {kind : TokenKind} {n : ℕ} {p : Piece} → IsLongest bytes kind n → Judged kind n (take n bytes) p →
      InToken bytes p

data Sorted (first : Bool) (bytes : List ℕ) (p : Piece) : Type 0 where
  plain : fixed (sort bytes) first bytes ≡ Some p → Sorted first bytes p
  comment : sort bytes ≡ 2 → InComment bytes p → Sorted first bytes p
  token : sort bytes ≡ 4 → InToken bytes p → Sorted first bytes p

separator_sorted : {first : Bool} {bytes : List ℕ} {n : ℕ} → Separates first bytes n →
    Sorted first bytes (piece.Separator n)
unfolding fixed begins_skipped
separator_sorted {first} {bytes} (Separates.blank b rest e is) = plain (rw (e, sort_blank b rest is) refl)
separator_sorted {first} {bytes} (Separates.comment (BeginsWithComment.line begins)) =
    plain (rw (sort_line bytes begins) refl)
separator_sorted {first} {bytes} (Separates.comment (BeginsWithComment.block begins closes)) =
    comment (sort_block bytes begins) (whole closes)
separator_sorted {first} {bytes} (Separates.directive is begins) =
    plain (rw (skipped_sort bytes begins) (rw (is, begins) refl))
  where
    skipped_sort : (bs : List ℕ) → begins_skipped bs ≡ true → sort bs ≡ 3
    skipped_sort [] h = cc
    skipped_sort (b ∷ bs) h = let hash = eqb-true b 35 (and_true (b == 35) _ h).0 in rw hash (sort_hash bs)

breaks_sorted : {first : Bool} {bytes : List ℕ} {code : ℕ} → Breaks first bytes code →
    Sorted first bytes (piece.Other (found.Refused code))
unfolding fixed begins_pack begins_skipped first_of sort is_blank
breaks_sorted {first} {bytes} (Breaks.stray b rest e no_blank no_quote no_directive none) = by_hash (b == 35) refl
  where
    no_comment : starts_comment (b ∷ rest) ≡ false
    no_comment = subst (λ v. starts_comment v ≡ false) e (no_token_no_comment bytes none)

    sort_is : sort bytes ≡ (if b == 35 then 3 else 4)
    sort_is = ap sort e ∙ sort_other b rest no_blank no_comment

    quote_is : is_quote (first_of bytes) ≡ false
    quote_is = subst (λ v. is_quote (first_of v) ≡ false) (sym e) no_quote

    neither : (f s p : Bool) → (f && (s || p)) ≡ false → ((f && s) ≡ false) × ((f && p) ≡ false)
    neither true s p h = or_parts s p h
    neither false s p h = (refl, refl)

    by_hash : (hash : Bool) → (b == 35) ≡ hash → Sorted first bytes (piece.Other (found.Refused 100))
    by_hash true h = let no = neither first (begins_skipped bytes) (begins_pack bytes) no_directive in
        plain (rw (sort_is, h) (rw (no.0, no.1) refl))
    by_hash false h = token (sort_is ∙ rw h refl)
        (subst (λ c. InToken bytes (piece.Other (found.Refused (if c then 101 else 100)))) quote_is (nothing none))
breaks_sorted {first} {bytes} (Breaks.quote b rest e is none) =
    token (ap sort e ∙ quote_sort b rest is) (subst
    (λ c. InToken bytes (piece.Other (found.Refused (if c then 101 else 100)))) quote_is (nothing none))
  where
    quote_is : is_quote (first_of bytes) ≡ true
    quote_is = subst (λ v. is_quote (first_of v) ≡ true) (sym e) is

    quote_sort : (c : ℕ) (bs : List ℕ) → is_quote c ≡ true → sort (c ∷ bs) ≡ 4
    quote_sort c bs h = elim (or_cases (c == 39) _ h) [
      | inl single ↦ (let c_is = eqb-true c 39 single in rw c_is refl)
      | inr double ↦
          (let c_is = eqb-true c 34 double in rw c_is refl)
    ]
breaks_sorted {first} {bytes} (Breaks.comment begins closes) = comment (sort_block bytes begins) (unclosed closes)
breaks_sorted {first} {bytes} (Breaks.literal {kind = kind} {n = n} longest_one is_one rejected) =
    token (sort_token bytes kind n longest_one.form (literal_no_comment bytes kind n longest_one.form is_one))
    (longest longest_one (literal is_one rejected))
breaks_sorted {first} {bytes} (Breaks.word {kind = kind} {n = n} longest_one among) =
    token (sort_token bytes kind n longest_one.form (left_out_no_comment bytes kind n longest_one.form among))
    (longest longest_one (word among))
breaks_sorted {first} {bytes} (Breaks.pack is begins) =
    plain (rw (pack_sort bytes begins) (rw (is, begins) (rw (pack_skipped bytes begins) refl)))
  where
    pack_sort : (bs : List ℕ) → begins_pack bs ≡ true → sort bs ≡ 3
    pack_sort [] h = cc
    pack_sort (b ∷ bs) h = let hash = eqb-true b 35 (and_true (b == 35) _ h).0 in rw hash (sort_hash bs)

    pack_skipped : (bs : List ℕ) → begins_pack bs ≡ true → begins_skipped bs ≡ false
    pack_skipped [] h = cc
    pack_skipped (b ∷ bs) h =
        let pack = (and_true (b == 35) _ h).1 in
        let pragma = (and_true (is_pragma bs) _ pack).0 in
        let word = (bytes_eq-Decides (next_word bs) (codes "pragma")).0 pragma in
        let no_marker : is_marker bs ≡ false = ap (λ w. bytes_eq w (codes "line") || are_digits 10 w) word in
        rw (no_marker, pack, pragma) (and-false (b == 35))

found_sorted : (first : Bool) (bytes : List ℕ) (f : Found) → StandsFound first bytes f →
    Sorted first bytes (piece.Other f)
unfolding fixed sort
found_sorted first bytes found.End stands = plain (rw stands refl)
found_sorted first bytes (found.Token kind n) stands =
    token (sort_token bytes kind n stands.longest.form stands.no_comment)
    (longest stands.longest (good stands.accepted))
found_sorted first bytes (found.Refused code) stands = breaks_sorted stands

sorted : (first : Bool) (bytes : List ℕ) (p : Piece) → Stands first bytes p → Sorted first bytes p
sorted first bytes (piece.Separator n) stands = separator_sorted stands
sorted first bytes (piece.Other f) stands = found_sorted first bytes f stands

-- At most one

one_close : (bytes : List ℕ) (n m : ℕ) → ClosesBehind bytes n → ClosesBehind bytes m → n ≡ m
one_close bytes n m here there = elim (cases_lt n m) [
  | inl less ↦ absurd (clash here.here (there.first n less))
  | inr more ↦ elim (cases_lt m n) [ inl less ↦ absurd (clash there.here (here.first m less)) | inr same ↦ omega arith ]
]

one_comment : (bytes : List ℕ) (p q : Piece) → InComment bytes p → InComment bytes q → p ≡ q
one_comment bytes p q (InComment.whole here) (InComment.whole there) =
    ap (λ n. piece.Separator (n + 4)) (one_close (drop 2 bytes) _ _ here there)
one_comment bytes p q (InComment.whole here) (InComment.unclosed never) = absurd (clash here.here (never _))
one_comment bytes p q (InComment.unclosed never) (InComment.whole there) = absurd (clash there.here (never _))
one_comment bytes p q (InComment.unclosed never) (InComment.unclosed again) = refl

one_longest : (bytes : List ℕ) (kind other : TokenKind) (n m : ℕ) → IsLongest bytes kind n → IsLongest bytes other m →
    (kind ≡ other) × (n ≡ m)
one_longest bytes kind other n m here there =
    let long : n ≡ m = omega (
      arith,
      here.longest other m there.within there.form,
      there.longest kind n here.within here.form,
    ) in (
      sym (kind_of_form kind (take n bytes) here.form) ∙ ap (λ k. beginning (take k bytes)) long
          ∙ kind_of_form other (take m bytes) there.form,
      long,
    )

accepted_not_left_out : (kind : TokenKind) (text : List ℕ) → has_form kind text ≡ true → IsAccepted kind text →
    is_among left_out text ≡ true → ⊥
accepted_not_left_out Word text form accepted among = clash among accepted
accepted_not_left_out Number text form accepted among = left_out_no_literal Number text form among refl
accepted_not_left_out Char text form accepted among = left_out_no_literal Char text form among refl
accepted_not_left_out Text text form accepted among = left_out_no_literal Text text form among refl
accepted_not_left_out Punct text form accepted among = clash among accepted

one_judged : (kind : TokenKind) (n : ℕ) (text : List ℕ) (p q : Piece) → has_form kind text ≡ true →
    Judged kind n text p → Judged kind n text q → p ≡ q
one_judged kind n text p q form (Judged.good accepted) (Judged.good again) = refl
one_judged kind n text p q form (Judged.good accepted) (Judged.literal is rejected) = absurd (rejected accepted)
one_judged kind n text p q form (Judged.good accepted) (Judged.word among) =
    absurd (accepted_not_left_out kind text form accepted among)
one_judged kind n text p q form (Judged.literal is rejected) (Judged.good accepted) = absurd (rejected accepted)
one_judged kind n text p q form (Judged.literal is rejected) (Judged.literal again rejected2) = refl
one_judged kind n text p q form (Judged.literal is rejected) (Judged.word among) =
    absurd (left_out_no_literal kind text form among is)
one_judged kind n text p q form (Judged.word among) (Judged.good accepted) =
    absurd (accepted_not_left_out kind text form accepted among)
one_judged kind n text p q form (Judged.word among) (Judged.literal is rejected) =
    absurd (left_out_no_literal kind text form among is)
one_judged kind n text p q form (Judged.word among) (Judged.word again) = refl

one_token : (bytes : List ℕ) (p q : Piece) → InToken bytes p → InToken bytes q → p ≡ q
one_token bytes p q (InToken.nothing none) (InToken.nothing again) = refl
one_token bytes p q (InToken.nothing none) (InToken.longest {kind = kind} {n = n} here judged) =
    absurd (clash here.form (none kind n here.within))
one_token bytes p q (InToken.longest {kind = kind} {n = n} here judged) (InToken.nothing none) =
    absurd (clash here.form (none kind n here.within))
one_token bytes p q (InToken.longest {kind = kind} {n = n} here judged)
    (InToken.longest {kind = other} {n = m} there judged_so) =
    let same = one_longest bytes kind other n m here there in
    one_judged kind n (take n bytes) p q here.form judged
    (subst (λ k. Judged kind k (take k bytes) q) (sym same.1)
    (subst (λ k. Judged k m (take m bytes) q) (sym same.0) judged_so))

-- the sorts don't meet
not_fixed : (s : ℕ) (first : Bool) (bytes : List ℕ) (p : Piece) → fixed s first bytes ≡ Some p → (s ≡ 2) ⊎ (s ≡ 4) → ⊥
unfolding fixed
not_fixed s first bytes p e (inl two) = let none = rw two at e in cc
not_fixed s first bytes p e (inr four) = let none = rw four at e in cc

one_sorted : (first : Bool) (bytes : List ℕ) (p q : Piece) → Sorted first bytes p → Sorted first bytes q → p ≡ q
one_sorted first bytes p q (Sorted.plain e) (Sorted.plain f) = some_injective p q (sym e ∙ f)
one_sorted first bytes p q (Sorted.plain e) (Sorted.comment two c) =
    absurd (not_fixed (sort bytes) first bytes p e (inl two))
one_sorted first bytes p q (Sorted.plain e) (Sorted.token four t) =
    absurd (not_fixed (sort bytes) first bytes p e (inr four))
one_sorted first bytes p q (Sorted.comment two c) (Sorted.plain f) =
    absurd (not_fixed (sort bytes) first bytes q f (inl two))
one_sorted first bytes p q (Sorted.comment two c) (Sorted.comment again d) = one_comment bytes p q c d
one_sorted first bytes p q (Sorted.comment two c) (Sorted.token four t) = absurd (omega arith)
one_sorted first bytes p q (Sorted.token four t) (Sorted.plain f) =
    absurd (not_fixed (sort bytes) first bytes q f (inr four))
one_sorted first bytes p q (Sorted.token four t) (Sorted.comment two c) = absurd (omega arith)
one_sorted first bytes p q (Sorted.token four t) (Sorted.token again u) = one_token bytes p q t u

pub one_piece : (first : Bool) (bytes : List ℕ) (p q : Piece) → Stands first bytes p → Stands first bytes q → p ≡ q
one_piece first bytes p q here there =
    one_sorted first bytes p q (sorted first bytes p here) (sorted first bytes q there)
