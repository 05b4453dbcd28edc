use Rattle.std.proofs.Common.{◌≡◌, ℕ, ◌≤◌, Bool, true, false, length, List, refl, arith}
use Rattle.ck_base.specs.Tokens.{is_among, punctuators}
use Rattle.c_lex.proofs.Tables.{punctuator_short}
use Rattle.c_lex.proofs.forms.is_punctuator.Goals as goal

long : (text : List ℕ) → ((1 ≤ length text) × (length text ≤ 3) → ⊥) → (b : Bool) → is_among punctuators text ≡ b →
    false ≡ b
long text other true e = absurd (other (punctuator_short text e))
long text other false e = refl

pub returns-in_default : goal.returns-in_default
returns-in_default c = long c.args.text.now (λ h. omega arith) _ refl

pub returns-in_default-2 : goal.returns-in_default-2
returns-in_default-2 c = long c.args.text.now (λ h. omega arith) _ refl
