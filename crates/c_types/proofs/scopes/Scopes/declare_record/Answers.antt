use Rattle.std.proofs.Common.{◌≡◌, sym, subst, None, Some}
use Rattle.c_tree.specs.Scopes.{find_in, innermost}
use Rattle.c_types.specs.Declares.{name_of}
use Rattle.c_types.specs.Stands.{tagging_of}
use Rattle.c_types.specs.Naming.{IsTagOf, names_record}
use Rattle.c_types.proofs.Steps.{answers_as}
use Rattle.c_types.proofs.Tagged.{record_new, record_opened, record_there}
use Rattle.c_types.proofs.scopes.Scopes.declare_record.Goals as goal

pub returns-then-d-clause-answers : goal.returns-then-d-clause-answers
returns-then-d-clause-answers c s h =
    let t = name_of c.args.self.now.file.now c.args.d in
    record_opened c.new_named_tag.new.self c.open_tag.new.self _ s c.args.kind c.in_ok-tag-in-None.tag t
    c.args.d.defines c.if-d.true
    (subst (λ n. find_in (innermost s.scopes).tags n ≡ None) c.text-name.ensures (sym (c.in-None.ensures _ s h)))
    (c.in_ok-tag-in-None.ensures.ok t (sym c.text-name.ensures) s h) (λ u g e. c.open_tag.ensures.is _ u t.pos g e)

pub returns-else-d-clause-answers : goal.returns-else-d-clause-answers
returns-else-d-clause-answers c s h =
    let t = name_of c.args.self.now.file.now c.args.d in
    record_new c.new_named_tag.new.self _ s c.args.kind c.in_ok-tag-in-None.tag t c.args.d.defines c.if-d.false
    (subst (λ n. find_in (innermost s.scopes).tags n ≡ None) c.text-name.ensures (sym (c.in-None.ensures _ s h)))
    (c.in_ok-tag-in-None.ensures.ok t (sym c.text-name.ensures) s h)

pub returns-in-Some-clause-answers : goal.returns-in-Some-clause-answers
returns-in-Some-clause-answers c =
    let t = name_of c.args.self.now.file.now c.args.d in
    answers_as c.args.self.now c.args.p.now _ c.args.p.now
    (names_record c.args.kind t c.args.d.defines (tagging_of c.in-Some.found)) _
    (IsTagOf c.args.kind) c.name_tag.result
    (λ s h. record_there s c.args.kind t c.args.d.defines (tagging_of c.in-Some.found)
    (subst (λ n. find_in (innermost s.scopes).tags n ≡ Some (tagging_of c.in-Some.found)) c.text-name.ensures
    (sym (c.in-Some.ensures c.args.p.now s h))))
    (c.name_tag.ensures.is c.args.p.now)
