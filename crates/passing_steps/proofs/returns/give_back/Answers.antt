use Rattle.std.proofs.Common.{◌≡◌, [], ◌∷◌, ◌++◌, refl, ap, ◌∙◌}
use Rattle.c_tree.specs.declared.typed.StmtKind.TheVariants as stmts
use Rattle.c_copy.proofs.Copies.{pushed}
use Rattle.passing_steps.proofs.returns.give_back.Goals as goal
use Rattle.passing_nodes.proofs.Results.{on_both}
use Rattle.passing_nodes.proofs.Returning.{given_back_made}

pub returns : goal.returns
returns c =
    let p = c.args.pos in
    let first = c.in_ok-first.first in
    let second = c.in_ok-second.second in
    let d = c.push_stmt-2.new.self in
    let none : c.from_vec.result ≡ [] = c.from_vec.ensures ∙ c.new.ensures.items in
    let both : c.from_vec-2.result ≡ first ∷ second ∷ [] =
    c.from_vec-2.ensures ∙ c.in_ok-push-2.ensures.items
    ∙ ap (λ zs. zs ++ second ∷ []) (c.in_ok-push.ensures.items
    ∙ ap (λ zs. zs ++ first ∷ []) c.new-body.ensures.items) in
    pushed c.push_stmt-3.result _ _ _ (on_both c.push_stmt-3.result _ _ c.push_stmt-3.ensures.stmts
    c.push_stmt-3.ensures.rest) c.push_stmt-3.ensures.number
    (λ x.
    given_back_made c.args.source.now c.args.out.now c.behind.new.self c.push_expr.new.self c.push_stmt.new.self d
    c.push_stmt-3.new.self c.args.value c.args.t c.number-of.result c.pointer-pointer.result c.in_ok-place.place
    c.in_ok-assigned.assigned first second _ p c.requires
    (record {
      number = c.number-of.ensures;
      pointer = c.pointer-pointer.ensures;
      behind = c.in_ok-place.ensures;
      assign = c.in_ok-assigned.ensures.exprs;
      assigned_is = c.in_ok-assigned.ensures.number;
      evaluate = c.in_ok-first.ensures.stmts;
      first_is = c.in_ok-first.ensures.number;
      leave = c.in_ok-second.ensures.stmts;
      second_is = c.in_ok-second.ensures.number;
      block =
          x.0
          ∙ ap (λ zs. d.stmts.items ++ record { kind = stmts.Block zs c.from_vec-2.result; pos = p } ∷ []) none
          ∙ ap (λ zs. d.stmts.items ++ record { kind = stmts.Block [] zs; pos = p } ∷ []) both;
      number_is = refl;
      assign_rest = c.in_ok-assigned.ensures.rest;
      first_rest = c.in_ok-first.ensures.rest;
      second_rest = c.in_ok-second.ensures.rest;
      block_rest = x.1;
    }))
