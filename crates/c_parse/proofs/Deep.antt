-- The excess of brackets, as two counts.
use Rattle.std.proofs.Common.{◌≡◌, ℕ, ◌+◌, ◌≤◌, List, [], ◌∷◌, ◌++◌, Option, Some, None, true, false, Bool, refl, ap}
use Rattle.std.proofs.Common.{sym, ◌∙◌, arith, append_assoc, append-nil, length-append, pos, negsuc, ◌+ℤ◌, ℤ}
use Rattle.std.specs.Prelude.{if◌then◌else◌}
use Rattle.std.specs.Ordering.{int_eq}
use Rattle.std.proofs.lemmas.Int.{ints}
use Rattle.std.proofs.lemmas.Bool.Decides.{Decides-int_eq}
use Rattle.ck_base.specs.declared.positions.Pos.{Pos}
use Rattle.ck_base.specs.Tokens.{Lexeme}
use Rattle.c_tree.specs.declared.syntax.Symbol.{Symbol}
use Rattle.c_tree.specs.declared.syntax.Symbol.TheVariants.{OpenParenthesis, CloseParenthesis, OpenBracket}
use Rattle.c_tree.specs.declared.syntax.Symbol.TheVariants.{CloseBracket, OpenBrace, CloseBrace}
use Rattle.c_tree.specs.Symbols.{symbol}
use Rattle.c_tree.specs.Brackets.{opens, excess, excess_from}
use Rattle.c_parse.specs.declared.files.Brackets.{Brackets}
use Rattle.c_parse.specs.Turns.{opening, closing, gap}
use Rattle.c_parse.specs.Checked.{Counts, first_of}

up : (o c : ℕ) → gap o c +ℤ pos 1 ≡ gap (o + 1) (c + 0)
up o c = omega (arith, ints)

down : (o c : ℕ) → gap o c +ℤ negsuc 0 ≡ gap (o + 0) (c + 1)
down o c = omega (arith, ints)

level : (o c : ℕ) → gap o c +ℤ pos 0 ≡ gap (o + 0) (c + 0)
level o c = omega (arith, ints)

turns : (o c : ℕ) (s : Symbol) → gap o c +ℤ opens s ≡ gap (o + opening s) (c + closing s)
turns o c OpenParenthesis = up o c
turns o c OpenBracket = up o c
turns o c OpenBrace = up o c
turns o c CloseParenthesis = down o c
turns o c CloseBracket = down o c
turns o c CloseBrace = down o c
turns o c _ = level o c

reached : (o c : ℕ) → o ≡ c + 201 → int_eq (gap o c) (pos 201) ≡ true
reached o c e = (Decides-int_eq (gap o c) (pos 201)).1 (omega (arith, ints, e))

pub opening_small : (s : Symbol) → opening s ≤ 1
opening_small OpenParenthesis = omega arith
opening_small OpenBracket = omega arith
opening_small OpenBrace = omega arith
opening_small _ = omega arith

pub closing_small : (s : Symbol) → closing s ≤ 1
closing_small CloseParenthesis = omega arith
closing_small CloseBracket = omega arith
closing_small CloseBrace = omega arith
closing_small _ = omega arith

by_turn : (b : Bool) (after : Option Pos) (place : Pos) (later found : Option Pos) →
    found ≡ (if b then Some place else later) →
    (b ≡ true → after ≡ Some place) → (b ≡ false → after ≡ None) → found ≡ first_of after later
by_turn true after place later found is here on = is ∙ ap (λ v. first_of v later) (sym (here refl))
by_turn false after place later found is here on = is ∙ ap (λ v. first_of v later) (sym (on refl))

gap_is : (o c : ℕ) → int_eq (gap o c) (pos 201) ≡ true → o ≡ c + 201
gap_is o c e = let same = (Decides-int_eq (gap o c) (pos 201)).0 e in omega (arith, ints, same)

off_true : {b : Bool} → b ≡ true → b ≡ false → ⊥
off_true e f = cc

by_deep : (now after : Option Pos) (z : ℤ) (place : Pos) (later found : Option Pos) →
    found ≡ (if int_eq z (pos 201) then Some place else later) →
    (now ≡ None → int_eq z (pos 201) ≡ true → after ≡ Some place) →
    (now ≡ None → int_eq z (pos 201) ≡ false → after ≡ None) →
    ((q : Pos) → now ≡ Some q → after ≡ Some q) → first_of now found ≡ first_of after later
by_deep (Some q) after z place later found is here on kept = ap (λ v. first_of v later) (sym (kept q refl))
by_deep None after z place later found is here on kept =
    by_turn (int_eq z (pos 201)) after place later found is (here refl) (on refl)

-- what a token does to what is found later
deep_step : (now after : Brackets) (t : Lexeme) (rest : List Lexeme) → after.opened ≡ now.opened + opening (symbol t) →
    after.closed ≡ now.closed + closing (symbol t) →
    (now.deep ≡ None → after.opened ≡ after.closed + 201 → after.deep ≡ Some t.pos) →
    (now.deep ≡ None → (after.opened ≡ after.closed + 201 → ⊥) → after.deep ≡ None) →
    ((place : Pos) → now.deep ≡ Some place → after.deep ≡ Some place) →
    first_of now.deep (excess_from (gap now.opened now.closed) (t ∷ rest))
    ≡ first_of after.deep (excess_from (gap after.opened after.closed) rest)
deep_step now after t rest opened closed found on kept =
    let turned : gap now.opened now.closed +ℤ opens (symbol t) ≡ gap after.opened after.closed =
    turns now.opened now.closed (symbol t) ∙ ap (λ v. gap v (now.closed + closing (symbol t))) (sym opened)
    ∙ ap (λ v. gap after.opened v) (sym closed) in
    let later : Option Pos = excess_from (gap after.opened after.closed) rest in
    let next : excess_from (gap now.opened now.closed) (t ∷ rest)
    ≡ (if int_eq (gap after.opened after.closed) (pos 201) then Some t.pos else later) =
    ap (λ v. if int_eq v (pos 201) then Some t.pos else excess_from v rest) turned in
    by_deep now.deep after.deep (gap after.opened after.closed) t.pos later _ next
    (λ none e. found none (gap_is after.opened after.closed e))
    (λ none e. on none (λ same. off_true (reached after.opened after.closed same) e)) kept

-- the brackets of one more token
pub counted : (now after : Brackets) (ts : List Lexeme) (t : Lexeme) → after.opened ≡ now.opened + opening (symbol t) →
    after.closed ≡ now.closed + closing (symbol t) →
    (now.deep ≡ None → after.opened ≡ after.closed + 201 → after.deep ≡ Some t.pos) →
    (now.deep ≡ None → (after.opened ≡ after.closed + 201 → ⊥) → after.deep ≡ None) →
    ((place : Pos) → now.deep ≡ Some place → after.deep ≡ Some place) →
    Counts now ts → Counts after (ts ++ t ∷ [])
counted now after ts t opened closed found on kept counts =
    let long = length-append ts (t ∷ []) in
    let small = opening_small (symbol t) in
    let few = closing_small (symbol t) in
    record {
      goes = λ rest. ap excess (append_assoc ts (t ∷ []) rest) ∙ counts.goes (t ∷ rest)
          ∙ deep_step now after t rest opened closed found on kept;
      opened = omega (arith, counts.opened, opened, long, small);
      closed = omega (arith, counts.closed, closed, long, few);
    }

-- all tokens were counted
pub whole : (b : Brackets) (ts : List Lexeme) → Counts b ts → excess ts ≡ first_of b.deep None
whole b ts counts = ap excess (sym (append-nil ts)) ∙ counts.goes []
