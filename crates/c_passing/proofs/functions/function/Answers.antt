use Rattle.std.proofs.Common.{◌+◌, length, refl, ap, ◌∙◌}
use Rattle.c_tree.specs.Terms.{numbers_from}
use Rattle.c_tree.specs.declared.typed.FunDef.{FunDef}
use Rattle.passing_steps.specs.Source.{Source}
use Rattle.passing_steps.specs.Made.{Made}
use Rattle.c_passing.specs.Routines.{written_routine, IsFunction}
use Rattle.c_passing.proofs.Bodies.{function_made}
use Rattle.c_passing.proofs.functions.function.Goals as goal

pub returns : goal.returns
returns c =
    let w = c.args.whole.now in
    let f = c.args.f.now in
    let n = c.in_ok-before.field-0 in
    let s : Source = record {
      alloc = w.alloc;
      program = w.program;
      types = w.types;
      names = w.names;
      numbers = c.as_slice.result;
    } in
    let old : Made = record { exprs = c.args.out.now.exprs; stmts = c.args.out.now.stmts; vars = n.vars } in
    let g : FunDef = record {
      name = f.name;
      pos = f.pos;
      of = c.number-of.result;
      params = c.from_vec.result;
      vars = c.from_vec-2.result;
      body = c.in_ok-body.body;
    } in
    let made : IsFunction w (written_routine w f) old c.body.new.out g =
    function_made w s f g n old c.body.new.out (record {
      program = refl;
      types = refl;
      names = refl;
      numbers = c.as_slice.ensures.value;
      standing = c.in_ok-before.ensures;
      vars = refl;
      made = c.in_ok-body.ensures;
      name = refl;
      pos = refl;
      of = c.number-of.ensures;
      params = c.from_vec.ensures ∙ c.in_ok-params-2.ensures
          ∙ ap (numbers_from 0) (c.in_ok-params.ensures
          ∙ ap (λ m. m + n.before) (c.in_ok-written.ensures ∙ ap length c.as_slice-2.ensures));
      all = c.from_vec-2.ensures ∙ ap (λ z. z.items) c.replace-vars.ensures.value;
    }) in
    record {
      exprs = made.exprs;
      stmts = made.stmts;
      there = made.there;
      typed = made.typed;
      ordered = made.ordered;
      is = made.is;
    }

pub body-requires-clause-numbers : goal.body-requires-clause-numbers
body-requires-clause-numbers c = ap length c.as_slice.ensures.value ∙ c.in_ok-before.ensures.count
