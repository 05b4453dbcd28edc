use Rattle.std.proofs.Common.{◌≡◌, ℕ, List, take, refl, sym, ◌∙◌, arith}
use Rattle.std.specs.Prelude.{Option, Some, None}
use Rattle.ck_base.specs.declared.tokens.TokenKind.{TokenKind}
use Rattle.ck_base.specs.declared.tokens.TokenKind.TheVariants.{Char, Text}
use Rattle.ck_base.specs.Tokens.{is_quoted, has_form}
use Rattle.c_lex.specs.Fronts.{MeasuresFront, MeasuresQuoted}
use Rattle.c_lex.proofs.Longest.{word_front, number_front}
use Rattle.c_lex.proofs.Quotes.{one_quoted}
use Rattle.c_lex.proofs.forms.token_length.Goals as goal

pub returns-in-Word : goal.returns-in-Word
returns-in-Word c = rw (c.in-Word.is, c.word_length.ensures.value)
    (word_front c.args.bytes.now (c.requires ∙ c.in-Word.is))

pub returns-in-Number : goal.returns-in-Number
returns-in-Number c = rw (c.in-Number.is, c.number_length.ensures)
    (number_front c.args.bytes.now (c.requires ∙ c.in-Number.is))

quoted : (kind : TokenKind) (quote : ℕ) → ((text : List ℕ) → has_form kind text ≡ is_quoted quote text) →
    (bytes : List ℕ) (found : Option ℕ) → MeasuresQuoted quote bytes found → MeasuresFront kind bytes found
quoted kind quote same bytes None none = λ n within. same (take n bytes) ∙ none n within
quoted kind quote same bytes (Some n) found = record {
  within = found.0;
  form = same (take n bytes) ∙ found.1;
  longest = λ m within form. omega (
    arith,
    one_quoted quote bytes n m found.0 within found.1 (sym (same (take m bytes)) ∙ form),
  );
}

pub returns-in-Char : goal.returns-in-Char
unfolding has_form
returns-in-Char c = rw c.in-Char.is (quoted Char 39 (λ text. refl) c.args.bytes.now _ c.quoted_length.ensures)

pub returns-in-Text : goal.returns-in-Text
unfolding has_form
returns-in-Text c = rw c.in-Text.is (quoted Text 34 (λ text. refl) c.args.bytes.now _ c.quoted_length-in-Text.ensures)
