-- The place behind a token, in which no line ends.
use Rattle.std.proofs.Common.{◌≡◌, ◌≢◌, ℕ, ◌+◌, Bool, true, false, not, ◌&&◌, if◌then◌else◌, ◌==◌, List, [], ◌∷◌}
use Rattle.std.proofs.Common.{◌++◌, length, refl, sym, ap, subst, ◌∙◌, arith, add-zero, append-nil, append_assoc}
use Rattle.std.specs.Prelude.{bytes_eq}
use Rattle.std.specs.List.{list_all}
use Rattle.std.proofs.Math.Bool.{and-true, and-false}
use Rattle.std.proofs.lemmas.Bool.{eqb-true}
use Rattle.ck_base.specs.declared.tokens.TokenKind.{TokenKind}
use Rattle.ck_base.specs.declared.tokens.TokenKind.TheVariants.{Word, Number, Char, Text, Punct}
use Rattle.ck_base.specs.Tokens.{is_nondigit, is_word_byte, is_word, is_number_byte, starts_number, is_number}
use Rattle.ck_base.specs.Tokens.{closes, is_quoted, punctuators, has_form}
use Rattle.ck_base.specs.Lexes.{is_space, is_line_feed}
use Rattle.c_lex.specs.declared.places.Place.{Place}
use Rattle.c_lex.specs.Pieces.{place_behind, goes_on}
use Rattle.c_lex.proofs.Positions.{place-other}
use Rattle.c_lex.proofs.Tables.{and_true, among_passes}

abbrev stays : ℕ → Bool
stays c = not (is_line_feed c)

-- no byte of a list that passes a test is a line feed, if none that passes is
all_stay : (p : ℕ → Bool) → ((b : ℕ) → p b ≡ true → stays b ≡ true) → (bytes : List ℕ) → list_all p bytes ≡ true →
    list_all stays bytes ≡ true
all_stay p each [] all = refl
all_stay p each (b ∷ bs) all =
    let both = and_true (p b) _ all in rw (each b both.0) (all_stay p each bs both.1)

nondigit_goes : (b : ℕ) → is_nondigit b ≡ true → (is_space b ≡ false) × (stays b ≡ true)
unfolding is_nondigit is_space
nondigit_goes b e = (grind arith, grind arith)

word_stays : (b : ℕ) → is_word_byte b ≡ true → stays b ≡ true
unfolding is_word_byte is_nondigit
word_stays b e = grind arith

number_stays : (b : ℕ) → is_number_byte b ≡ true → stays b ≡ true
unfolding is_number_byte is_word_byte is_nondigit
number_stays b e = grind arith

number_no_space : (b : ℕ) → is_number_byte b ≡ true → is_space b ≡ false
unfolding is_number_byte is_word_byte is_nondigit is_space
number_no_space b e = grind arith

-- what stands behind an opening quote
last_stays : (bytes : List ℕ) → bytes_eq bytes [] ≡ true → list_all stays bytes ≡ true
last_stays [] e = refl
last_stays (b ∷ bs) e = cc

behind_quote : (quote : ℕ) (bs : List ℕ) →
    ((escaped : Bool) → closes quote escaped bs ≡ true → list_all stays bs ≡ true) → (escaped is_quote next : Bool) →
    (if escaped then closes quote false bs else (if is_quote then bytes_eq bs [] else closes quote next bs)) ≡ true →
    list_all stays bs ≡ true
behind_quote quote bs each true is_quote next e = each false e
behind_quote quote bs each false true next e = last_stays bs e
behind_quote quote bs each false false next e = each next e

closed_stays : (quote : ℕ) (escaped : Bool) (bytes : List ℕ) → closes quote escaped bytes ≡ true →
    list_all stays bytes ≡ true
closed_stays quote escaped [] e = refl
closed_stays quote escaped (b ∷ bs) e =
    let both = and_true (stays b) _ e in
    rw both.0 (behind_quote quote bs (λ kept. closed_stays quote kept bs) escaped (b == quote) (b == 92) both.1)

-- a token goes on
pub token_goes_on : (kind : TokenKind) (text : List ℕ) → has_form kind text ≡ true → goes_on text ≡ true
unfolding has_form is_word is_number is_quoted starts_number punctuators goes_on is_space
token_goes_on Word [] e = cc
token_goes_on Word (b ∷ bs) e =
    let both = and_true (is_nondigit b) _ e in
    let first = nondigit_goes b both.0 in
    rw (first.0, first.1) (all_stay is_word_byte word_stays bs both.1)
token_goes_on Number [] e = cc
token_goes_on Number (b ∷ bs) e =
    let all = (and_true (starts_number (b ∷ bs)) _ e).1 in
    let first = (and_true (is_number_byte b) _ all).0 in
    rw (number_no_space b first) (all_stay is_number_byte number_stays (b ∷ bs) all)
token_goes_on Char [] e = cc
token_goes_on Char (b ∷ bs) e =
    let both = and_true (b == 39) _ e in
    let quote : b ≡ 39 = eqb-true b 39 both.0 in
    rw quote (closed_stays 39 false bs both.1)
token_goes_on Text [] e = cc
token_goes_on Text (b ∷ bs) e =
    let both = and_true (b == 34) _ e in
    let quote : b ≡ 34 = eqb-true b 34 both.0 in
    rw quote (closed_stays 34 false bs both.1)
token_goes_on Punct text e = among_passes goes_on punctuators text refl e

-- The place behind it

both_more : (a b c : Bool) → (a && (b && c)) ≡ ((a && b) && c)
both_more true b c = refl
both_more false b c = refl

moved : (place : Place) (front text : List ℕ) → list_all stays text ≡ true → place ≡ place_behind front →
    record {
      at = place.at + length text;
      pos = record { line = place.pos.line; col = place.pos.col + length text };
      begins_line = place.begins_line && list_all is_space text;
    } ≡ place_behind (front ++ text)
moved place front [] stay is =
    let nothing : front ++ [] ≡ front = append-nil front in
    (λ i. record {
      at = add-zero place.at i;
      pos = record { line = place.pos.line; col = add-zero place.pos.col i };
      begins_line = and-true place.begins_line i;
    }) ∙ is ∙ ap place_behind (sym nothing)
moved place front (b ∷ bs) stay is =
    let both = and_true (stays b) _ stay in
    let other : b ≢ 10 = λ e. (let wrong : stays 10 ≡ true = subst (λ c. stays c ≡ true) e both.0 in cc) in
    let next : Place = record {
      at = place.at + 1;
      pos = record { line = place.pos.line; col = place.pos.col + 1 };
      begins_line = place.begins_line && is_space b;
    } in
    let step : next ≡ place_behind (front ++ b ∷ []) = place-other place front b other is in
    let at : place.at + length (b ∷ bs) ≡ next.at + length bs = omega arith in
    let col : place.pos.col + length (b ∷ bs) ≡ next.pos.col + length bs = omega arith in
    let begins = both_more place.begins_line (is_space b) (list_all is_space bs) in
    let long : (front ++ b ∷ []) ++ bs ≡ front ++ b ∷ bs = append_assoc front (b ∷ []) bs in
    (λ i. record { at = at i; pos = record { line = place.pos.line; col = col i }; begins_line = begins i })
    ∙ moved next (front ++ b ∷ []) bs both.1 step
    ∙ ap place_behind long

no_more : (b : Bool) → not b ≡ true → b ≡ false
no_more true e = cc
no_more false e = refl

pub token_place : (place : Place) (front text : List ℕ) → goes_on text ≡ true → place ≡ place_behind front →
    record {
      at = place.at + length text;
      pos = record { line = place.pos.line; col = place.pos.col + length text };
      begins_line = false;
    } ≡ place_behind (front ++ text)
unfolding goes_on
token_place place front [] goes is = cc
token_place place front (b ∷ bs) goes is =
    let both = and_true (not (is_space b)) _ goes in
    let no_space : is_space b ≡ false = no_more (is_space b) both.0 in
    let begins : (place.begins_line && list_all is_space (b ∷ bs)) ≡ false = rw no_space (and-false place.begins_line) in
    (λ i. record {
      at = place.at + length (b ∷ bs);
      pos = record { line = place.pos.line; col = place.pos.col + length (b ∷ bs) };
      begins_line = sym begins i;
    }) ∙ moved place front (b ∷ bs) both.1 is
