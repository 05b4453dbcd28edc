use Rattle.std.proofs.Common.{rules, sym, ◌∙◌}
use Rattle.std.proofs.lemmas.List.Sorted.{IsPartitionPoint-from_clause}
use Rattle.passing_nodes.specs.Places.{is_before}
use Rattle.passing_nodes.proofs.Naming.{cut_in_two, found}
use Rattle.passing_nodes.proofs.names.first_at.Goals as goal

pub returns-in-None : goal.returns-in-None
returns-in-None c =
    let p = c.args.pos in
    let point = IsPartitionPoint-from_clause (λ n. is_before n.pos p) _ _ c.partition_point-place.ensures.partitioned
    (cut_in_two c.args.names.now p c.requires) (λ a r f' k. search rules) in
    sym (found c.args.names.now p _ c.get.result _ c.requires point c.get.ensures.lookup
    (sym c.in-None.is ∙ c.copied.ensures))

pub returns-in-Some : goal.returns-in-Some
returns-in-Some c =
    let p = c.args.pos in
    let point = IsPartitionPoint-from_clause (λ n. is_before n.pos p) _ _ c.partition_point-place.ensures.partitioned
    (cut_in_two c.args.names.now p c.requires) (λ a r f' k. search rules) in
    c.at.ensures
    ∙ sym (found c.args.names.now p _ c.get.result _ c.requires point c.get.ensures.lookup
    (sym c.in-Some.is ∙ c.copied.ensures))
