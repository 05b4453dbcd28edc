use Rattle.std.proofs.Common.{◌≡◌, ◌<◌, ◌∙◌, Bool, length, sym, ap}
use Rattle.c_tree.specs.Types.{agree}
use Rattle.c_tree.specs.Views.{types_of}
use Rattle.c_interner.specs.Agreement.{lengths_of}
use Rattle.c_interner.specs.Numbers.{type_named}
use Rattle.c_types.specs.Fitting.{both_agree}
use Rattle.c_types.specs.Stands.{named}
use Rattle.c_types.proofs.Looking.{if_ok}
use Rattle.c_types.proofs.Judged.{named_there, named_past}
use Rattle.c_types.proofs.Seeing.{both_there, both_none, both_second}
use Rattle.c_types.proofs.scopes.Scopes.agree.Goals as goal

pub returns-then-b-count : goal.returns-then-b-count
returns-then-b-count c =
    let p = c.args.p.now in
    let n : c.as_slice-count.result.now ≡ p.types = c.as_slice-count.ensures in
    let first : c.args.a < length p.types = rw n at c.if-a-count.true in
    let second : c.args.b < length p.types = rw n at c.if-b-count.true in
    if_ok c.agree.result (λ (r : Bool). agree (lengths_of c.args.how) (type_named p c.args.a) (type_named p c.args.b)
    ≡ r) (λ (r : Bool). r ≡ both_agree (lengths_of c.args.how) (named (types_of p.types) c.args.a)
    (named (types_of p.types) c.args.b)) c.agree.ensures
    (λ r e. sym e ∙ sym (both_there (lengths_of c.args.how) _ _ _ _ (named_there p c.args.a first)
    (named_there p c.args.b second)))

pub returns-else-b-count : goal.returns-else-b-count
returns-else-b-count c =
    let p = c.args.p.now in
    let n : c.as_slice-count.result.now ≡ p.types = c.as_slice-count.ensures in
    sym (ap (both_agree (lengths_of c.args.how) (named (types_of p.types) c.args.a))
    (named_past p c.args.b (rw n at c.if-b-count.false))
    ∙ both_second (lengths_of c.args.how) (named (types_of p.types) c.args.a))

pub returns-else-a-count : goal.returns-else-a-count
returns-else-a-count c =
    let p = c.args.p.now in
    let n : c.as_slice-count.result.now ≡ p.types = c.as_slice-count.ensures in
    sym (ap (λ o. both_agree (lengths_of c.args.how) o (named (types_of p.types) c.args.b))
    (named_past p c.args.a (rw n at c.if-a-count.false))
    ∙ both_none (lengths_of c.args.how) (named (types_of p.types) c.args.b))
