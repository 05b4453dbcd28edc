use Rattle.std.proofs.Common.{◌++◌, ◌-◌, ap, ◌∙◌}
use Rattle.c_tree.specs.Terms.{numbers_from}
use Rattle.passing_steps.proofs.blocks.block_vars.Goals as goal

pub returns : goal.returns
returns c =
    let a = numbers_from c.args.copied.0 (c.args.copied.1 - c.args.copied.0) in
    let b = numbers_from c.args.hidden.0 (c.args.hidden.1 - c.args.hidden.0) in
    record {
      are = λ ts e fits.
          c.in_ok-add_numbers-2.ensures
          ∙ ap (λ zs. zs ++ b)
          (c.in_ok-extend_from_slice.ensures.items
          ∙ ap (λ zs. zs ++ c.as_slice.result.now)
          (c.in_ok-add_numbers.ensures ∙ ap (λ zs. zs ++ a) c.new-list.ensures.items)
          ∙ ap (λ zs. a ++ zs) (c.as_slice.ensures.value ∙ c.in_ok-declared.ensures.are ts e fits));
    }
