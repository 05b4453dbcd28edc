use Rattle.std.proofs.Common.{get_or, map, refl, ap, subst, ◌∙◌}
use Rattle.std.proofs.lemmas.List.{take_all}
use Rattle.passing_steps.specs.Made.{Made}
use Rattle.c_passing.specs.Lists.{hidden_for_each}
use Rattle.c_passing.specs.Passes.{written_term}
use Rattle.c_passing.proofs.Each.{hides_argument}
use Rattle.c_passing.proofs.Within.{term_within}
use Rattle.c_passing.proofs.calls.hide_arguments.Goals as goal
use Rattle.passing_steps.specs.Steps.{Hides}
use Rattle.passing_steps.proofs.Calling.{hides_none}
use Rattle.passing_steps.proofs.Counting.{at_index}

pub loop-x-preserved : goal.loop-x-preserved
loop-x-preserved c =
    let a = c.args in
    record {
      hides =
          hides_argument a.source.now a.out.now c.loop-x.out c.hide.new.out a.pos a.xs.now c.loop-x.x-index _
          c.expr-e.result.now c.loop-x-test.true refl c.expr-e.ensures c.loop-x.invariant.hides
          c.in_ok-hide.ensures.hides;
      rest = c.in_ok-hide.ensures.rest
          ∙ ap (λ (m : Made). record m { vars = c.hide.new.out.vars }) c.loop-x.invariant.rest;
    }

pub expr-e-requires : goal.expr-e-requires
expr-e-requires c =
    let xs = c.args.xs.now in
    let i = c.loop-x.x-index in
    term_within c.args.source.now (get_or xs i 0) (c.requires i (get_or xs i 0) (at_index xs i c.loop-x-test.true))

pub loop-x-init : goal.loop-x-init
loop-x-init c = record { hides = hides_none c.args.source.now c.args.out.now c.args.out.now refl; rest = refl }

pub returns-clause-hides : goal.returns-clause-hides
returns-clause-hides c =
    let s = c.args.source.now in
    let l = c.loop-x in
    subst (λ ks. Hides s c.args.out.now l.out (λ names. hidden_for_each names c.args.pos (map (written_term s) ks)))
    (take_all l.x-index c.args.xs.now c.loop-x-test.false) l.invariant.hides
