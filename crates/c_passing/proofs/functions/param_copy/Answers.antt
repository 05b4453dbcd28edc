use Rattle.std.proofs.Common.{refl, subst}
use Rattle.c_copy.proofs.Copies.{pushed}
use Rattle.c_passing.proofs.Returning.{param_copy_made}
use Rattle.c_passing.proofs.functions.param_copy.Goals as goal
use Rattle.passing_steps.specs.Numbered.{IsBare}
use Rattle.passing_steps.proofs.Results.{on_both}

pub returns : goal.returns
returns c =
    let a = c.args in
    pushed c.push_stmt.result _ _ _ (on_both c.push_stmt.result _ _ c.push_stmt.ensures.stmts c.push_stmt.ensures.rest)
    c.push_stmt.ensures.number
    (λ x.
    param_copy_made a.source.now a.out.now c.behind.new.self c.push_expr.new.self c.push_stmt.new.self a.v a.from a.to
    c.bare-t.result c.number-of.result c.pointer-pointer.result c.in_ok-place.place c.in_ok-value.value _ c.requires
    (record {
      bare = subst (λ ts. IsBare ts a.v.of c.bare-t.result) c.written_types.ensures c.bare-t.ensures;
      number = c.number-of.ensures;
      pointer = c.pointer-pointer.ensures;
      behind = c.in_ok-place.ensures;
      load = c.in_ok-value.ensures.exprs;
      value_is = c.in_ok-value.ensures.number;
      init = x.0;
      number_is = refl;
      load_rest = c.in_ok-value.ensures.rest;
      init_rest = x.1;
    }))
