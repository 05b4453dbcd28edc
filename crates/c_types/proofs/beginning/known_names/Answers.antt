use Rattle.std.proofs.Common.{refl, subst, List}
use Rattle.c_tree.specs.Types.{Ty}
use Rattle.c_tree.specs.Programs.{file_scope}
use Rattle.c_types.specs.declared.scopes.Scope.{Scope}
use Rattle.c_types.specs.Stands.{ShowsScope}
use Rattle.c_types.specs.Beginning.{KnowsTypes}
use Rattle.c_types.proofs.Looking.{if_ok}
use Rattle.c_types.proofs.Start.{rows_are}
use Rattle.c_types.proofs.beginning.known_names.Goals as goal

pub returns : goal.returns
returns c = if_ok c.named_scope.result _ (λ (x : Scope). (ts : List Ty) → KnowsTypes ts c.args.numbers.now →
    ShowsScope ts 0 x file_scope) c.named_scope.ensures (λ x f ts h. subst (ShowsScope ts 0 x) rows_are (f ts h refl))
