use Rattle.std.proofs.Common.{◌≡◌, false, refl, sym, ◌∙◌}
use Rattle.std.specs.Prelude.{Option, Some, None, is_some}
use Rattle.c_lex.specs.Pieces.{Faults}
use Rattle.c_lex.proofs.Tables.{never}
use Rattle.c_lex.proofs.pieces.fault_of.Goals as goal

nothing : {A : Type 0} (found : Option A) (x : A) → is_some found ≡ false → found ≡ Some x → ⊥
nothing None x none e = cc
nothing (Some y) x none e = cc

pub returns-else-is_some : goal.returns-else-is_some
returns-else-is_some c = rw c.in-Number.is
    (Faults.literal refl (λ accepted. nothing c.integer_of.result accepted.0
    (sym c.is_some.ensures ∙ c.if-is_some.false) (c.integer_of.ensures.only accepted.0 accepted.1)))

pub returns-else-is_some-2 : goal.returns-else-is_some-2
returns-else-is_some-2 c =
    rw c.in-Char.is (Faults.literal refl (λ accepted.
    nothing c.char_of.result accepted.0 (sym c.is_some-in-Char.ensures ∙ c.if-is_some-2.false)
    (c.char_of.ensures.only accepted.0 accepted.1)))

pub returns-else-is_string : goal.returns-else-is_string
returns-else-is_string c =
    rw c.in-Text.is (Faults.literal refl (λ accepted.
    never c.is_string.result c.if-is_string.false (c.is_string.ensures.1 accepted)))

pub returns-then-is_left_out : goal.returns-then-is_left_out
returns-then-is_left_out c = Faults.word (sym c.is_left_out.ensures ∙ c.if-is_left_out.true)
