use Rattle.std.specs.Prelude.{Option, Some, None, IfNone}
use Rattle.c_lex.proofs.Longest.{longest_of_all, none_of_any}
use Rattle.c_lex.proofs.forms.longest_token.Goals as goal

pub returns-clause-found : goal.returns-clause-found
returns-clause-found c = rw c.beginning-kind.ensures
    (longest_of_all c.args.bytes.now c.in_ok-n.n (rw c.beginning-kind.ensures at c.in_ok-n.ensures))

if_none : {A : Type 0} (o : Option A) {P : Type 0} → P → IfNone o P
if_none None p = p
if_none (Some x) p = tt

pub returns-in_err-n-clause-none : goal.returns-in_err-n-clause-none
returns-in_err-n-clause-none c =
    if_none c.from_residual.result (none_of_any c.args.bytes.now (rw c.beginning-kind.ensures at c.in_err-n.ensures))
