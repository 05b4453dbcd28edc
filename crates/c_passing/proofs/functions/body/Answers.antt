use Rattle.std.proofs.Common.{◌≡◌, ℕ, ◌+◌, ◌∷◌, [], ◌++◌, length, map, refl, sym, ap, subst, ◌∙◌}
use Rattle.std.proofs.lemmas.List.{length-take-le}
use Rattle.c_tree.specs.declared.typed.StmtKind.TheVariants as stmts
use Rattle.c_copy.specs.Copying.{AllBelow}
use Rattle.c_copy.proofs.Copies.{pushed}
use Rattle.c_passing.specs.Lists.{hidden_of_each}
use Rattle.c_passing.specs.Passes.{written_before, ActionsWithin, AddsActions, ArePassedActions}
use Rattle.c_passing.specs.Routines.{source_variable, AreParamCopies}
use Rattle.c_passing.proofs.Bodies.{BodySteps, body_made}
use Rattle.c_passing.proofs.Within.{body_within, parts_within, form_within}
use Rattle.c_passing.proofs.functions.body.Goals.{After-push_stmt}
use Rattle.c_passing.proofs.functions.body.Goals as goal
use Rattle.passing_steps.specs.Steps.{AreBlockVars}
use Rattle.passing_steps.proofs.Results.{on_both}

steps : (c : After-push_stmt) (j : ℕ) →
    c.push_stmt.new.self.stmts.items ≡ c.statements.new.out.stmts.items
    ++ record { kind = stmts.Block c.from_vec.result c.from_vec-in-Block.result; pos = c.stmt-s.result.now.pos } ∷ [] →
    c.push_stmt.new.self ≡ record c.statements.new.out { stmts = c.push_stmt.new.self.stmts } →
    j ≡ length c.statements.new.out.stmts.items →
    BodySteps c.args.source.now c.args.f.now c.args.out.now c.param_copies.new.out c.statements.new.out
    c.push_stmt.new.self c.stmt-s.result.now c.in-Block.vars c.in-Block.body c.param_copies.new.body.items
    c.statements.new.js.items
    c.in_ok-vars-in-Block.vars.items c.written_vars.result.0.now c.args.before c.in_ok-local-in-Block.local
    c.in_ok-other-in-Block.other c.in_ok-hidden-in-Block.hidden c.in_ok-end-in-Block.end j
steps c j items rest n =
    let s = c.args.source.now in
    let f = c.args.f.now in
    let d = c.stmt-s.result.now in
    let old = c.args.out.now in
    let a = c.param_copies.new.out in
    let b = c.statements.new.out in
    let body = c.in-Block.body in
    let params = c.written_vars.ensures in
    let slice : c.as_slice.result.now ≡ body = c.as_slice.ensures in
    let ls = c.statements.new.js.items in
    let js = c.param_copies.new.body.items in
    record {
      there = c.stmt-s.ensures;
      is = c.in-Block.is;
      params_are = params.params;
      before_is = c.requires.before;
      local_is = c.in_ok-local-in-Block.ensures
          ∙ ap (λ m. m + c.args.before) (c.in_ok-written-in-Block.ensures ∙ ap length params.params
          ∙ length-take-le (length f.params) f.vars c.requires.fits.params);
      other_is = c.in_ok-other-in-Block.ensures ∙ ap (λ m. c.in_ok-local-in-Block.local + m) c.requires.copied;
      hidden_is = c.in_ok-hidden-in-Block.ensures;
      end_is = c.in_ok-end-in-Block.ensures;
      copies = subst (λ zs. AreParamCopies s old a c.args.before c.in_ok-local-in-Block.local
          (map (source_variable s) c.written_vars.result.0.now) zs js) c.new-list.ensures.items
          c.in_ok-param_copies-in-Block.ensures;
      inner = subst (λ zs. AddsActions s a b (λ names. hidden_of_each names (map (written_before s f.body) zs))
          (ArePassedActions s a b (map (written_before s f.body) zs) js ls)) slice c.in_ok-statements-in-Block.ensures;
      block_vars = subst (λ zs. AreBlockVars s (c.in_ok-local-in-Block.local, c.in_ok-other-in-Block.other) zs
          (c.in_ok-hidden-in-Block.hidden, c.in_ok-end-in-Block.end) c.in_ok-vars-in-Block.vars.items)
          c.as_slice-in-Block.ensures c.in_ok-vars-in-Block.ensures;
      pushed =
          items
          ∙ ap (λ zs. b.stmts.items ++ record { kind = stmts.Block zs c.from_vec-in-Block.result; pos = d.pos } ∷ [])
          c.from_vec.ensures
          ∙ ap (λ zs. b.stmts.items ++ record { kind = stmts.Block c.in_ok-vars-in-Block.vars.items zs; pos = d.pos }
          ∷ []) c.from_vec-in-Block.ensures;
      number = n;
      rest = rest;
    }

pub returns : goal.returns
returns c =
    pushed c.push_stmt.result _ _ _ (on_both c.push_stmt.result _ _ c.push_stmt.ensures.stmts c.push_stmt.ensures.rest)
    c.push_stmt.ensures.number
    (λ x. body_made _ _ _ _ _ _ _ _ _ _ _ _ _ _ _ _ _ _ _ (steps c _ x.0 x.1 refl))

pub stmt-s-requires : goal.stmt-s-requires
stmt-s-requires c = c.requires.fits.there

pub statements-requires : goal.statements-requires
statements-requires c =
    let s = c.args.source.now in
    let f = c.args.f.now in
    let w = body_within s f c.requires.fits c.requires.numbers in
    let all : ActionsWithin s f.body c.in-Block.body =
    rw c.in-Block.is at (parts_within s f.body c.stmt-s.result.now w c.stmt-s.ensures) in
    subst (ActionsWithin s f.body) (sym c.as_slice.ensures) all

pub block_vars-requires : goal.block_vars-requires
block_vars-requires c =
    let s = c.args.source.now in
    let f = c.args.f.now in
    let w = body_within s f c.requires.fits c.requires.numbers in
    let all : AllBelow (length s.numbers.now) c.in-Block.vars =
    rw c.in-Block.is at (form_within s f.body c.stmt-s.result.now w c.stmt-s.ensures) in
    subst (AllBelow (length s.numbers.now)) (sym c.as_slice-in-Block.ensures) all
