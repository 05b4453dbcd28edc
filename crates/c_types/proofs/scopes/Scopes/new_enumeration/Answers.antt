use Rattle.std.proofs.Common.{◌≡◌, refl, sym, subst, Some, true}
use Rattle.std.proofs.lemmas.Result.{err_from_is_err_and}
use Rattle.c_tree.specs.Scopes.{find_in, innermost}
use Rattle.c_types.specs.Declares.{name_of, declares_enumeration}
use Rattle.c_types.specs.Stands.{tagging_of}
use Rattle.c_types.proofs.Steps.{fails_here}
use Rattle.c_types.proofs.scopes.Scopes.new_enumeration.Goals as goal

pub returns-in-Some-clause-is : goal.returns-in-Some-clause-is
returns-in-Some-clause-is c p =
    let t = name_of c.args.self.now.file.now c.args.d in
    fails_here c.args.self.now p (declares_enumeration t true) c.clash.result t.pos
    (λ s h. let e : find_in (innermost s.scopes).tags t.text ≡ Some (tagging_of c.in-Some.found) =
    subst (λ n. find_in (innermost s.scopes).tags n ≡ Some (tagging_of c.in-Some.found)) c.text-name.ensures
    (sym (c.in-Some.ensures p s h)) in
    rw e (c.clash.ensures t s))

pub returns-in_err-bind_tag-in-None-clause-is : goal.returns-in_err-bind_tag-in-None-clause-is
returns-in_err-bind_tag-in-None-clause-is c p =
    let q = err_from_is_err_and c.from_residual.result c.from_residual.ensures.1 in
    rw (q.1, q.2) (refl, c.in_err-bind_tag-in-None.ensures.err p)
