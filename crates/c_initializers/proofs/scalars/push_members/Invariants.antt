use Rattle.std.proofs.Common.{◌≡◌, ◌+◌, ◌-◌, ◌*◌, ◌≤◌, ◌++◌, length, drop, map}
use Rattle.std.specs.List.{All}
use Rattle.c_tree.specs.Scopes.{State}
use Rattle.c_tree.specs.Initializers.{all_scalars, tag_scalars}
use Rattle.c_elaborator.specs.Work.{Shows}
use Rattle.c_plain_rules.specs.Members.{place_in}
use Rattle.c_initializers.specs.Rows.{IsRowThere, rows_scalars, rows_steps}
use Rattle.c_initializers.proofs.StepLaws.{member_steps}
use Rattle.c_initializers.proofs.scalars.push_members.Given as goal

abbrev pub invariant-loop-left : goal.invariant-loop-left
invariant-loop-left l =
    let w = l.work in
    record {
      within : l.left ≤ length l.members.items;
      there : All (IsRowThere w) l.fn.rows.items → All (IsRowThere w) l.rows.items;
      are : (s : State) → Shows w s →
          rows_scalars w s l.rows.items
          ≡ all_scalars s (tag_scalars (l.tags - 1) s) (map (place_in w) (drop l.left l.members.items)) l.at
          ++ rows_scalars w s l.fn.rows.items;
      steps : rows_steps w l.rows.items + l.left * member_steps w l.tags
          ≤ rows_steps w l.fn.rows.items + length l.members.items * member_steps w l.tags;
    }

abbrev pub decreases-loop-left : goal.decreases-loop-left
decreases-loop-left l = l.left
