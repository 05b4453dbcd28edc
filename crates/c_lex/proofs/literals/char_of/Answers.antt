use Rattle.std.proofs.Common.{◌≡◌, ℕ, List, length, ap, subst, sym, ◌∙◌}
use Rattle.std.specs.Prelude.{Some}
use Rattle.std.proofs.lemmas.Option.{none-some, some_pair_parts}
use Rattle.ck_base.specs.Literals.{BeginsWithCharacter, in_quotes, IsCharacter}
use Rattle.c_lex.specs.Spelled.{character_at}
use Rattle.c_lex.proofs.Escapes.{character_found, character_only}
use Rattle.c_lex.proofs.Strings.{in_quotes-injective}
use Rattle.c_lex.proofs.literals.char_of.Goals as goal

-- the one character between the quotes
one : (text contents : List ℕ) (value : ℕ) → text ≡ in_quotes 39 contents → IsCharacter text value →
    character_at 39 contents ≡ Some (value, length contents)
one text contents value quoted is =
    let same = in_quotes-injective 39 is.0 contents (sym is.1 ∙ quoted) in
    character_only 39 contents value (length contents)
    (subst (λ bytes. BeginsWithCharacter 39 bytes value (length bytes)) same is.2)

pub returns-in_err-value-clause-only : goal.returns-in_err-value-clause-only
returns-in_err-value-clause-only c = λ value is.
    absurd (none-some (value, length c.in_ok-contents.contents.now)
    (c.in_err-value.ensures.value ∙ one _ _ value c.in_ok-contents.ensures.found is))

pub returns-then-n-contents-clause-found : goal.returns-then-n-contents-clause-found
returns-then-n-contents-clause-found c =
    let begins = character_found 39 c.in_ok-contents.contents.now (c.in_ok-value.value, c.in_ok-value.n)
    (sym c.in_ok-value.ensures.value) in
    (c.in_ok-contents.contents.now, c.in_ok-contents.ensures.found, rw (← c.if-n-contents.true) begins)

pub returns-then-n-contents-clause-only : goal.returns-then-n-contents-clause-only
returns-then-n-contents-clause-only c = λ value is.
    ap Some (some_pair_parts _ _ _ _ (c.in_ok-value.ensures.value
    ∙ one _ _ value c.in_ok-contents.ensures.found is)).0

pub returns-else-n-contents-clause-only : goal.returns-else-n-contents-clause-only
returns-else-n-contents-clause-only c = λ value is.
    absurd (c.if-n-contents.false (some_pair_parts _ _ _ _ (c.in_ok-value.ensures.value
    ∙ one _ _ value c.in_ok-contents.ensures.found is)).1)
