use Rattle.std.proofs.Common.{◌+◌, ◌∙◌, ap, Some}
use Rattle.std.specs.Prelude.{bytes_eq}
use Rattle.std.specs.Map.{lookup}
use Rattle.std.specs.Option.{unwrap_or}
use Rattle.std.proofs.lemmas.Map.Text.{hash_map_updates_str}
use Rattle.c_phrases.proofs.Counting.{one_more}
use Rattle.c_phrases.proofs.counts.Counts.add.Goals as goal

pub returns-clause-ok : goal.returns-clause-ok
returns-clause-ok c other =
    ap (λ o. unwrap_or o 0) (hash_map_updates_str c.args.text.now c.args.self.now.table c.insert.new.self
    (Some (c.count-count.result + 1)) c.in_ok-insert.ensures.updates other)
    ∙ one_more (λ t. lookup (λ k. bytes_eq t k.now) c.args.self.now.table.entries) c.args.text.now other
    c.count-count.result c.count-count.ensures
