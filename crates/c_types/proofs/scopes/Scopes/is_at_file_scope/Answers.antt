use Rattle.std.proofs.Common.{ℕ, ◌∙◌, ap}
use Rattle.std.specs.Prelude.{nat_eq}
use Rattle.c_types.proofs.Seeing.{scopes_length}
use Rattle.c_types.proofs.scopes.Scopes.is_at_file_scope.Goals as goal

pub returns : goal.returns
returns c p s h = ap (λ (n : ℕ). nat_eq n 1)
    (c.len.ensures ∙ c.args.self.now.scopes.ok.0 ∙ scopes_length c.args.self.now p s h)
