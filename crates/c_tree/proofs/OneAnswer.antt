-- Typing is single-valued.
use Rattle.std.proofs.Common.{◌≡◌, ℕ, Result, Ok, Err, sym, ap, subst, ◌∙◌}
use Rattle.ck_base.specs.declared.positions.Pos.{Pos}
use Rattle.c_tree.specs.declared.typed.Typed.{Typed}
use Rattle.c_tree.specs.Syntax.{Syn}
use Rattle.c_tree.specs.Terms.{Program}
use Rattle.c_tree.specs.Scopes.{Fault}
use Rattle.c_tree.specs.Programs.{typing}
use Rattle.c_tree.specs.Views.{Shows}
use Rattle.c_tree.specs.Typing.{TypesSyntax, Alike, OneAnswer}

abbrev program_or : Program → Result Program Fault → Program
program_or d (Ok q) = q
program_or d (Err f) = d

abbrev fault_or : Fault → Result Program Fault → Fault
fault_or d (Ok q) = d
fault_or d (Err f) = f

abbrev is_ok : Result Program Fault → Type 0
is_ok (Ok q) = Unit {0}
is_ok (Err f) = ⊥

alike : (x : Syn) (p q : Typed) → TypesSyntax x p → TypesSyntax x q → Alike p q
alike x p q s t =
    let e : t.program ≡ s.program = ap (program_or s.program) (sym t.given ∙ s.given) in
    record { program = s.program; first = s.shows; second = subst (λ r. Shows q r) e t.shows }

same_fault : (x : Syn) (f g : Fault) → typing x ≡ Err f → typing x ≡ Err g → f ≡ g
same_fault x f g e h = ap (fault_or f) (sym e ∙ h)

abbrev code_of : Fault → ℕ
code_of f = f.code

abbrev place_of : Fault → Pos
place_of f = f.place

pub one_answer : (x : Syn) → OneAnswer x
one_answer x = record {
  typed = alike x;
  refused = λ c d p q e h. (ap code_of (same_fault x _ _ e h), ap place_of (same_fault x _ _ e h));
  apart = λ p c q s e. subst is_ok (sym s.given ∙ e) tt;
}
