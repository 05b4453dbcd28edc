-- Which symbol passes each test.
use Rattle.std.proofs.Common.{◌≡◌, true, None, refl}
use Rattle.c_tree.specs.declared.syntax.Symbol.{Symbol}
use Rattle.c_tree.specs.declared.syntax.Symbol.TheVariants as Symbols
use Rattle.c_tree.specs.Grammar.{is_word}
use Rattle.c_phrases.specs.Reading.{is_close_parenthesis, is_close_bracket, is_close_brace, is_open_parenthesis}
use Rattle.c_phrases.specs.Reading.{is_open_bracket, is_open_brace, is_comma, is_semicolon, is_colon, is_star, is_text}
use Rattle.c_phrases.specs.Reading.{is_else, is_while, is_equals}

pub close_parenthesis_is : (s : Symbol) → is_close_parenthesis s ≡ true → s ≡ Symbols.CloseParenthesis
close_parenthesis_is Symbols.CloseParenthesis e = refl
close_parenthesis_is _ e = cc

pub close_bracket_is : (s : Symbol) → is_close_bracket s ≡ true → s ≡ Symbols.CloseBracket
close_bracket_is Symbols.CloseBracket e = refl
close_bracket_is _ e = cc

pub close_brace_is : (s : Symbol) → is_close_brace s ≡ true → s ≡ Symbols.CloseBrace
close_brace_is Symbols.CloseBrace e = refl
close_brace_is _ e = cc

pub open_parenthesis_is : (s : Symbol) → is_open_parenthesis s ≡ true → s ≡ Symbols.OpenParenthesis
open_parenthesis_is Symbols.OpenParenthesis e = refl
open_parenthesis_is _ e = cc

pub open_bracket_is : (s : Symbol) → is_open_bracket s ≡ true → s ≡ Symbols.OpenBracket
open_bracket_is Symbols.OpenBracket e = refl
open_bracket_is _ e = cc

pub open_brace_is : (s : Symbol) → is_open_brace s ≡ true → s ≡ Symbols.OpenBrace
open_brace_is Symbols.OpenBrace e = refl
open_brace_is _ e = cc

pub comma_is : (s : Symbol) → is_comma s ≡ true → s ≡ Symbols.Comma
comma_is Symbols.Comma e = refl
comma_is _ e = cc

pub semicolon_is : (s : Symbol) → is_semicolon s ≡ true → s ≡ Symbols.Semicolon
semicolon_is Symbols.Semicolon e = refl
semicolon_is _ e = cc

pub colon_is : (s : Symbol) → is_colon s ≡ true → s ≡ Symbols.Colon
colon_is Symbols.Colon e = refl
colon_is _ e = cc

pub star_is : (s : Symbol) → is_star s ≡ true → s ≡ Symbols.Star
star_is Symbols.Star e = refl
star_is _ e = cc

pub text_is : (s : Symbol) → is_text s ≡ true → s ≡ Symbols.Text
text_is Symbols.Text e = refl
text_is _ e = cc

pub else_is : (s : Symbol) → is_else s ≡ true → s ≡ Symbols.Else
else_is Symbols.Else e = refl
else_is _ e = cc

pub while_is : (s : Symbol) → is_while s ≡ true → s ≡ Symbols.While
while_is Symbols.While e = refl
while_is _ e = cc

pub word_is : (s : Symbol) → is_word s ≡ true → s ≡ Symbols.Word
word_is Symbols.Word e = refl
word_is _ e = cc

pub equals_is : (s : Symbol) → is_equals s ≡ true → s ≡ Symbols.Assignment None
equals_is (Symbols.Assignment None) e = refl
equals_is _ e = cc
