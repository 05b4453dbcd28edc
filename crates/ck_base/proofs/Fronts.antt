-- Lists that begin with others.
use Rattle.std.proofs.Common.{ℕ, List, [], ◌++◌, refl, sym, ap, ◌∙◌, append_assoc}
use Rattle.std.proofs.lemmas.List.{append-nil}
use Rattle.ck_base.specs.Calls.{BeginsWith}

pub begins_refl : (a : List ℕ) → BeginsWith a a
begins_refl a = ([], sym (append-nil a))

pub begins_more : (a b : List ℕ) → BeginsWith (a ++ b) a
begins_more a b = (b, refl)

pub begins_trans : (a b c : List ℕ) → BeginsWith b a → BeginsWith c b → BeginsWith c a
begins_trans a b c h k = (h.0 ++ k.0, k.1 ∙ ap (λ l. l ++ k.0) h.1 ∙ append_assoc a h.0 k.0)
