-- Characters one after another, between quotes.
use Rattle.std.proofs.Common.{◌≡◌, ℕ, Bool, true, ◌||◌, ◌==◌, List, [], ◌∷◌, ◌++◌, length, take, drop, refl}
use Rattle.std.proofs.Common.{sym, ap, subst, ◌∙◌, append_assoc, append-nil}
use Rattle.std.specs.Prelude.{Some, None}
use Rattle.std.specs.List.{list_all, prefix_len}
use Rattle.std.proofs.lemmas.List.{append_cancel_right, nil_from_length, take-append-drop}
use Rattle.std.proofs.lemmas.Bool.{eqb-true, eqb-false, eq-eqb, or_parts, not-true}
use Rattle.ck_base.specs.Literals.{BeginsWithCharacter, AreCharacters, in_quotes, IsString}
use Rattle.c_lex.specs.Spelled.{character_at, is_plain}
use Rattle.c_lex.proofs.Escapes.{character_found, character_only, some_injective}
use Rattle.c_lex.proofs.Runs.{run_passes}
use Rattle.c_lex.proofs.Tables.{and_true}

-- what stands between quotes is one thing
pub in_quotes-injective : (quote : ℕ) (xs ys : List ℕ) → in_quotes quote xs ≡ in_quotes quote ys → xs ≡ ys
in_quotes-injective quote xs ys e =
    let tails : xs ++ quote ∷ [] ≡ ys ++ quote ∷ [] = cc in
    append_cancel_right xs ys (quote ∷ []) tails

-- the first character, and the rest
pub characters_step : {quote : ℕ} {bytes values : List ℕ} (value n : ℕ) → AreCharacters quote bytes values →
    character_at quote bytes ≡ Some (value, n) →
    (rest : List ℕ) × (values ≡ value ∷ rest) × AreCharacters quote (drop n bytes) rest
unfolding character_at
characters_step value n AreCharacters.nothing at = cc
characters_step {quote} {bytes} value n (AreCharacters.more {value = v} {n = k} {values = vs} begins rest) at =
    let same = some_injective {A = ℕ × ℕ} (v, k) (value, n) (sym (character_only quote bytes v k begins) ∙ at) in
    (vs, ap (λ (p : ℕ × ℕ). p.0 ∷ vs) same, subst (λ (p : ℕ × ℕ). AreCharacters quote (drop p.1 bytes) vs) same rest)

-- where no character begins there are none
pub characters_end : {quote : ℕ} {bytes values : List ℕ} → AreCharacters quote bytes values →
    character_at quote bytes ≡ None → (bytes ≡ []) × (values ≡ [])
characters_end AreCharacters.nothing at = (refl, refl)
characters_end {quote} {bytes} (AreCharacters.more {value = v} {n = k} begins rest) at =
    let found = sym (character_only quote bytes v k begins) ∙ at in cc

-- all the bytes are characters exactly where the rest of them are
pub record SameRest (bytes rest : List ℕ) : Type 0 where
  pub forth : (values : List ℕ) → AreCharacters 34 bytes values → (others : List ℕ) × AreCharacters 34 rest others
  pub back : (others : List ℕ) → AreCharacters 34 rest others → (values : List ℕ) × AreCharacters 34 bytes values

pub same_rest-more : (bytes rest : List ℕ) (value n : ℕ) → SameRest bytes rest →
    Some (value, n) ≡ character_at 34 rest → SameRest bytes (drop n rest)
same_rest-more bytes rest value n same at = record {
  forth = λ values are.
      let others = same.forth values are in
      let step = characters_step value n others.1 (sym at) in
      (step.0, step.2);
  back = λ others are. same.back (value ∷ others)
      (AreCharacters.more (character_found 34 rest (value, n) (sym at)) are);
}

-- the values of the bytes are some, and those of the rest
abbrev pub Splits : List ℕ → List ℕ → List ℕ → Type 0
Splits bytes some rest = (values : List ℕ) → AreCharacters 34 bytes values →
    (others : List ℕ) × AreCharacters 34 rest others × (values ≡ some ++ others)

-- Bytes that stand for themselves

plain_begins : (b : ℕ) (rest : List ℕ) → is_plain b ≡ true → BeginsWithCharacter 34 (b ∷ rest) b 1
plain_begins b rest plain =
    let ends = or_parts (b == 92 || b == 34) (b == 10) (not-true _ plain) in
    let both = or_parts (b == 92) (b == 34) ends.0 in
    BeginsWithCharacter.itself b rest refl (eqb-false b 34 both.1) (eqb-false b 92 both.0) (eqb-false b 10 ends.1)

plain_more : (plain rest values : List ℕ) → list_all is_plain plain ≡ true → AreCharacters 34 rest values →
    AreCharacters 34 (plain ++ rest) (plain ++ values)
plain_more [] rest values all are = are
plain_more (b ∷ bs) rest values all are =
    let both = and_true (is_plain b) _ all in
    AreCharacters.more (plain_begins b (bs ++ rest) both.0) (plain_more bs rest values both.1 are)

plain_splits : (plain rest : List ℕ) → list_all is_plain plain ≡ true → Splits (plain ++ rest) plain rest
plain_splits [] rest all = λ values are. (values, are, refl)
plain_splits (b ∷ bs) rest all = λ values are.
    let both = and_true (is_plain b) _ all in
    let step = characters_step b 1 are (character_only 34 _ b 1 (plain_begins b (bs ++ rest) both.0)) in
    let others = plain_splits bs rest both.1 step.0 step.2 in
    (others.0, others.1, step.1 ∙ ap (λ v. b ∷ v) others.2)

-- the longest run of them at the front
plain_parts : {rest : List ℕ} (n : ℕ) (front back : List ℕ) → n ≡ prefix_len is_plain rest → front ≡ take n rest →
    back ≡ drop n rest → (list_all is_plain front ≡ true) × (front ++ back ≡ rest)
plain_parts {rest} n front back n_is front_is back_is = (
  subst (λ v. list_all is_plain v ≡ true) (sym (front_is ∙ ap (λ k. take k rest) n_is)) (run_passes is_plain rest),
  rw (front_is, back_is) (take-append-drop n rest),
)

pub same_rest-plain : {bytes rest : List ℕ} (n : ℕ) (front back : List ℕ) → SameRest bytes rest →
    n ≡ prefix_len is_plain rest → front ≡ take n rest → back ≡ drop n rest → SameRest bytes back
same_rest-plain n front back same n_is front_is back_is =
    let parts = plain_parts n front back n_is front_is back_is in
    record {
      forth = λ values are.
          let others = same.forth values are in
          let step = plain_splits front back parts.0 others.0
          (subst (λ v. AreCharacters 34 v others.0) (sym parts.1) others.1) in
          (step.0, step.1);
      back = λ others are. same.back (front ++ others)
          (subst (λ v. AreCharacters 34 v (front ++ others)) parts.1 (plain_more front back others parts.0 are));
    }

-- the values so far, and those of the rest, are the values of all
pub record Unescaped (old now bytes rest : List ℕ) : Type 0 where
  pub done : List ℕ
  pub pushed : now ≡ old ++ done
  pub left : Splits bytes done rest

unescaped-more : {old now bytes rest : List ℕ} (some behind : List ℕ) → Unescaped old now bytes rest →
    Splits rest some behind → Unescaped old (now ++ some) bytes behind
unescaped-more {old} some behind so_far splits = record {
  done = so_far.done ++ some;
  pushed = ap (λ v. v ++ some) so_far.pushed ∙ append_assoc old so_far.done some;
  left = λ values are.
      let others = so_far.left values are in
      let step = splits others.0 others.1 in (
        step.0,
        step.1,
        others.2 ∙ ap (λ v. so_far.done ++ v) step.2 ∙ sym (append_assoc so_far.done some step.0),
      );
}

pub unescaped-plain : {old now bytes rest : List ℕ} (n : ℕ) (front back : List ℕ) → Unescaped old now bytes rest →
    n ≡ prefix_len is_plain rest → front ≡ take n rest → back ≡ drop n rest → Unescaped old (now ++ front) bytes back
unescaped-plain n front back so_far n_is front_is back_is =
    let parts = plain_parts n front back n_is front_is back_is in
    unescaped-more front back so_far (subst (λ v. Splits v front back) parts.1 (plain_splits front back parts.0))

pub unescaped-value : {old now bytes rest : List ℕ} (value n : ℕ) → Unescaped old now bytes rest →
    Some (value, n) ≡ character_at 34 rest → Unescaped old (now ++ value ∷ []) bytes (drop n rest)
unescaped-value {rest = rest} value n so_far at =
    unescaped-more (value ∷ []) (drop n rest) so_far (λ values are.
    let step = characters_step value n are (sym at) in (step.0, step.2, step.1))

-- where no character begins any more, they are the values of all
pub all_unescaped : {old now bytes rest : List ℕ} → Unescaped old now bytes rest → None ≡ character_at 34 rest →
    (values : List ℕ) → AreCharacters 34 bytes values → now ≡ old ++ values
all_unescaped {old} so_far none values are =
    let others = so_far.left values are in
    let none_left = (characters_end others.1 (sym none)).1 in
    so_far.pushed ∙ ap (λ v. old ++ v) (sym (append-nil so_far.done) ∙ ap (λ v. so_far.done ++ v) (sym none_left)
    ∙ sym others.2)

-- a whole literal
pub string_end : (text contents rest : List ℕ) (at_end : Bool) → text ≡ in_quotes 34 contents → SameRest contents rest →
    None ≡ character_at 34 rest → at_end ≡ (length rest == 0) →
    (at_end ≡ true → (values : List ℕ) × IsString text values) ×
    ((values : List ℕ) × IsString text values → at_end ≡ true)
string_end text contents rest at_end quoted same none at_end_is = (
  λ ends.
      let empty : rest ≡ [] = nil_from_length rest (eqb-true (length rest) 0 (sym at_end_is ∙ ends)) in
      let values = same.back [] (subst (λ bytes. AreCharacters 34 bytes []) (sym empty) AreCharacters.nothing) in
      (values.0, (contents, quoted, values.1)),
  λ is.
      let contents_is = in_quotes-injective 34 is.1.0 contents (sym is.1.1 ∙ quoted) in
      let others = same.forth is.0 (subst (λ bytes. AreCharacters 34 bytes is.0) contents_is is.1.2) in
      at_end_is ∙ eq-eqb (length rest) 0 (ap length (characters_end others.1 (sym none)).0),
)
