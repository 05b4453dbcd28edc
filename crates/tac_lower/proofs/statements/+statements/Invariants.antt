use Rattle.std.proofs.Common.{◌≡◌, ◌+◌, ◌*◌, [], ◌∷◌, ◌++◌, drop, length, take}
use Rattle.tac_lower.specs.Copied.{copies_in, all_part_copies}
use Rattle.tac_lower.specs.Cases.{labels_as, ShowsSwitch}
use Rattle.tac_lower.specs.Nodes.{weight_in, kind_in}
use Rattle.tac_lower.specs.Parts.{hefts_in, entered, all_entered_in}
use Rattle.tac_lower.specs.Scenes.{Lowered, Opened}
use Rattle.tac_lower.specs.Spent.{Consumes, SpendsPart}
use Rattle.tac_lower.specs.Zeroed.{zeroed, all_zeroed_in}
use Rattle.tac_lower.specs.Statements.{labels_in}
use Rattle.tac_lower.specs.Stating.{ShowsStatements, exits_as, routine}
use Rattle.tac_lower.proofs.statements.+statements.Given as goal

abbrev pub decreases-loop_body : goal.decreases-loop_body
decreases-loop_body l = 8 * l.body + 5

abbrev pub decreases-tested_loop : goal.decreases-tested_loop
decreases-tested_loop l = 8 * l.body + 6

abbrev pub decreases-repeated_loop : goal.decreases-repeated_loop
decreases-repeated_loop l = 8 * l.body + 6

abbrev pub decreases-choice : goal.decreases-choice
decreases-choice l = 8 * l.k + 1

abbrev pub decreases-guarded : goal.decreases-guarded
decreases-guarded l = 8 * l.a + 6

abbrev pub decreases-statements : goal.decreases-statements
decreases-statements l = 8 * l.k + 1

abbrev pub decreases-block : goal.decreases-block
decreases-block l = 8 * l.k + 2

abbrev pub decreases-switch : goal.decreases-switch
decreases-switch l = 8 * l.k + 2

abbrev pub decreases-statement : goal.decreases-statement
decreases-statement l = 8 * l.k + 4

abbrev pub invariant-statements-loop-s : goal.invariant-statements-loop-s
invariant-statements-loop-s l = record {
  lowered : Lowered l.cx.p.now l.cx.d.now l.cx.types.now l.cx.homes.now l.fn.out l.out
      (4 * hefts_in l.cx.p.now (take l.s-index l.body));
  spends : SpendsPart l.cx.fixed (hefts_in l.cx.p.now (take l.s-index l.body))
      (all_part_copies l.cx.p.now (take l.s-index l.body))
      (all_entered_in l.cx.p.now l.cx.d.now (take l.s-index l.body))
      (all_zeroed_in l.cx.p.now l.cx.d.now l.cx.homes.now (take l.s-index l.body)) l.fn.out l.out;
  is : ShowsStatements (routine l.cx) (take l.s-index l.body) (exits_as l.exits) l.fn.out l.out;
}

abbrev pub invariant-switch-loop-s : goal.invariant-switch-loop-s
invariant-switch-loop-s l = record {
  opened : Opened l.cx.p.now l.cx.d.now l.cx.types.now l.cx.homes.now l.fn.out l.out
      (drop l.first (labels_in l.cases) ++ l.end ∷ [])
      (4 * weight_in l.cx.p.now l.fn.on + (length l.fn.labels + 3) + 4 * hefts_in l.cx.p.now (take l.s-index l.body));
  spends : Consumes l.cx.fixed l.fn.out l.out
      (2 * (weight_in l.cx.p.now l.fn.on + hefts_in l.cx.p.now (take l.s-index l.body)) + 1)
      (32 * (weight_in l.cx.p.now l.fn.on + hefts_in l.cx.p.now (take l.s-index l.body) + length l.fn.labels)
      + 19 * (entered l.cx.d.now l.fn.vars + all_entered_in l.cx.p.now l.cx.d.now (take l.s-index l.body)))
      (copies_in l.cx.p.now l.fn.on + all_part_copies l.cx.p.now (take l.s-index l.body))
      (λ v. zeroed l.cx.d.now l.cx.homes.now l.fn.vars v
      + all_zeroed_in l.cx.p.now l.cx.d.now l.cx.homes.now (take l.s-index l.body) v);
  count : l.before ≡ l.s-index;
  is : ShowsSwitch (routine l.cx) l.fn.on l.fn.vars (labels_as l.fn.labels) (exits_as l.fn.exits)
      (kind_in l.cx.p.now l.fn.on) l.v l.end (drop l.first l.cases.cases.items) (take l.s-index l.body) l.fn.out l.out;
}
