use Rattle.std.proofs.Common.{◌≡◌, true, refl, sym, ap, subst, ◌∙◌}
use Rattle.c_tree.specs.Types.{bare}
use Rattle.c_tree.specs.Terms.{type_of}
use Rattle.c_tree.specs.Passed.{by_pointer}
use Rattle.c_passing.specs.Passes.{written_term}
use Rattle.c_passing.proofs.Calling.{written_of}
use Rattle.c_passing.proofs.statements.given_back.Goals as goal
use Rattle.passing_steps.specs.Numbered.{type_in, IsBare}
use Rattle.passing_steps.specs.Steps.{written_type}

pub returns-then-by_pointer : goal.returns-then-by_pointer
returns-then-by_pointer c =
    let s = c.args.source.now in
    let a = c.args.a in
    let e = c.expr-e.result.now in
    let types = c.written_types-types.ensures in
    let type : type_of (written_term s a) ≡ written_type s e.of = written_of s a e c.expr-e.ensures in
    let pointed : by_pointer (written_type s e.of) ≡ true =
    ap (λ ts. by_pointer (type_in ts e.of)) (sym types) ∙ sym c.by_pointer.ensures ∙ c.if-by_pointer.true in
    let bared : IsBare s.program.now.types e.of c.bare.result =
    subst (λ ts. IsBare ts e.of c.bare.result) types c.bare.ensures in
    (refl, ap by_pointer type ∙ pointed, bared.is pointed ∙ ap bare (sym type))

pub returns-else-by_pointer : goal.returns-else-by_pointer
returns-else-by_pointer c =
    let s = c.args.source.now in
    let a = c.args.a in
    let e = c.expr-e.result.now in
    let types = c.written_types-types.ensures in
    let type : type_of (written_term s a) ≡ written_type s e.of = written_of s a e c.expr-e.ensures in
    ap by_pointer type ∙ ap (λ ts. by_pointer (type_in ts e.of)) (sym types) ∙ sym c.by_pointer.ensures
    ∙ c.if-by_pointer.false
