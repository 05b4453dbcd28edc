use Rattle.std.proofs.Common.{◌≡◌, ℕ, ◌≤◌, false, ◌||◌, List, [], ◌∷◌, length, drop, get_or, refl, arith}
use Rattle.std.proofs.lemmas.Bool.{eq-eqb, ne_eqb, or_parts}
use Rattle.std.proofs.lemmas.List.{take_rest}
use Rattle.ck_base.specs.Lexes.{is_marker, is_pragma, begins_skipped, begins_pack}
use Rattle.c_lex.specs.declared.separators.Directive.{Directive}
use Rattle.c_lex.specs.declared.separators.Directive.TheVariants.{Skipped, Pack, Missing}
use Rattle.c_lex.specs.Pieces.{DescribesNamed, DescribesDirective}
use Rattle.c_lex.proofs.separators.directive_at.Goals as goal

described : (bytes : List ℕ) → 1 ≤ length bytes → get_or bytes 0 0 ≡ 35 → (named : Directive) →
    DescribesNamed (drop 1 bytes) named → DescribesDirective bytes named
unfolding begins_skipped begins_pack
described [] some hash named says = absurd (omega arith)
described (b ∷ bs) some hash Skipped says = rw (eq-eqb b 35 hash) says
described (b ∷ bs) some hash Pack says = rw (eq-eqb b 35 hash) says
described (b ∷ bs) some hash Missing says =
    let neither = or_parts (is_marker bs) (is_pragma bs) says in
    rw (eq-eqb b 35 hash) (rw (neither.0, neither.1) refl)

missing : (bytes : List ℕ) → (1 ≤ length bytes → get_or bytes 0 0 ≡ 35 → ⊥) →
    (begins_skipped bytes || begins_pack bytes) ≡ false
unfolding begins_skipped begins_pack
missing [] other = refl
missing (b ∷ bs) other = rw (ne_eqb b 35 (other (omega arith))) refl

pub returns-in-len1-up : goal.returns-in-len1-up
returns-in-len1-up c = described c.args.bytes.now (omega arith) c.if-first-eq35.true _
    (rw (take_rest c.args.bytes.now 1) at c.directive_named.ensures)

pub returns-in_default : goal.returns-in_default
returns-in_default c = missing c.args.bytes.now (λ some. absurd (omega arith))

pub returns-in_default-2 : goal.returns-in_default-2
returns-in_default-2 c = missing c.args.bytes.now (λ some. c.if-first-eq35.false)
