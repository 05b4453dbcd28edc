use Rattle.std.proofs.Common.{◌≡◌, ◌≤◌, ℕ, ◌^◌, ◌%◌, arith}
use Rattle.cap_concentrate.specs.Rounding.{owned}
use Rattle.c_tree.specs.Layout.{size_limit}
use Rattle.cap_layout.proofs.Lengths.{owns}
use Rattle.cap_layout.proofs.owning.owned.Goals as goal

length_is : (n r : ℕ) → n ≤ size_limit → r ≡ owned n % 2 ^ 64 → r ≡ owned n
length_is n r h e = let o = owns n h in let p = o.padding in let g = o.greatest in omega arith

pub overflow_add-result : goal.overflow_add-result
overflow_add-result c = let o = owns c.args.n c.requires in
    omega (arith, o.greatest, o.positive, c.alignment_mask.ensures)

pub returns-clause-length : goal.returns-clause-length
returns-clause-length c = length_is c.args.n _ c.requires c.rounded_length.ensures

pub returns-clause-greatest : goal.returns-clause-greatest
returns-clause-greatest c =
    let o = owns c.args.n c.requires in omega (arith, o.greatest, o.positive, c.alignment_mask.ensures)

pub returns-clause-holds : goal.returns-clause-holds
returns-clause-holds c = let o = owns c.args.n c.requires in
    omega (arith, o.holds, length_is c.args.n _ c.requires c.rounded_length.ensures)

pub returns-clause-padding : goal.returns-clause-padding
returns-clause-padding c =
    let o = owns c.args.n c.requires in
    omega (
      arith,
      o.padding,
      o.positive,
      o.greatest,
      c.alignment_mask.ensures,
      length_is c.args.n _ c.requires c.rounded_length.ensures,
    )
