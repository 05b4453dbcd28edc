use Rattle.std.proofs.Common.{◌∙◌, ap, Some, rules}
use Rattle.std.specs.Prelude.{bytes_eq}
use Rattle.std.specs.Map.{lookup}
use Rattle.std.specs.Option.{unwrap_or}
use Rattle.std.proofs.lemmas.Map.Text.{hash_map_updates_str}
use Rattle.c_phrases.proofs.Counting.{one_fewer}
use Rattle.c_phrases.proofs.counts.Counts.remove.Goals as goal

pub returns-in-Some : goal.returns-in-Some
returns-in-Some c = λ other.
    let w = c.saturating_sub.result in
    ap (λ o. unwrap_or o 0) (hash_map_updates_str c.args.text.now c.args.self.now.table (c.get_mut.follows.lender w)
    (Some w) ((c.get_mut.follows.holds w).3 (search rules)) other)
    ∙ one_fewer (λ t. lookup (λ k. bytes_eq t k.now) c.args.self.now.table.entries) c.args.text.now other
    c.in-Some.count.now w c.in-Some.ensures.value c.saturating_sub.ensures
