use Rattle.std.proofs.Common.{ap, ◌∙◌}
use Rattle.c_tree.specs.declared.typed.Typed.{Typed}
use Rattle.c_types.proofs.Start.{first_is_int, none_tagged, stands_beginning}
use Rattle.c_types.proofs.scopes.Scopes.new.Goals as goal

pub returns-clause-ok : goal.returns-clause-ok
returns-clause-ok c e g f =
    stands_beginning _ c.known_types.new.p c.in_ok-scope.scope
    (rw c.new-scopes.ensures.items at c.in_ok-push.ensures.items) c.new.ensures.items c.new-2.ensures.empty
    c.new-3.ensures.items c.new-4.ensures.items c.new-5.ensures.empty c.new-6.ensures.items
    (ap (λ (x : Typed). x.globals) c.known_types.ensures.adds.rest ∙ g)
    (ap (λ (x : Typed). x.funs) c.known_types.ensures.adds.rest ∙ f)
    (c.in_ok-scope.ensures _ (rw c.as_slice.ensures.value c.in_ok-numbers.ensures.ok))
    (rw c.number_at.ensures (rw c.as_slice-2.ensures.value (first_is_int _ _ c.in_ok-numbers.ensures.ok)))
    (none_tagged c.args.p.now c.known_types.new.p e c.known_types.ensures.adds)
