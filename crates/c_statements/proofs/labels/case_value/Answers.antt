use Rattle.std.proofs.Common.{◌≡◌, ◌∙◌, ℕ, Some, Ok, sym, ap}
use Rattle.ck_int.specs.Kinds.{wrapped}
use Rattle.c_tree.specs.Constants.{kind_of}
use Rattle.c_tree.specs.Declarators.{constant}
use Rattle.c_tree.specs.Programs.{reading}
use Rattle.c_tree.specs.Scopes.{give}
use Rattle.c_tree.specs.Statements.{case_value}
use Rattle.c_expressions.specs.Nodes.{type_in}
use Rattle.c_elaborator.specs.Answers.{quietly}
use Rattle.std.proofs.lemmas.Result.{err_from_is_err_and}
use Rattle.c_elaborator.proofs.Sequencing.{quiet_law, then_by, gave, failed, type_there}
use Rattle.c_declarators.specs.Parts.{ConstantThere, IsConstant, in_any}
use Rattle.c_statements.specs.Statements.{LabelThere, IsLabel}
use Rattle.c_statements.proofs.labels.case_value.Goals as goal

pub returns : goal.returns
returns c = λ x p.
    let u = c.args.work.now in
    let v = c.constant.new.work in
    let of = type_in u.nodes c.args.of in
    let a = c.in_ok-value.ensures x p in
    let kind : kind_of of ≡ c.kind-kind.result =
    ap kind_of (sym (a.grows.keeps.types c.args.of c.requires.there) ∙ c.class.ensures.is)
    ∙ c.kind-kind.ensures (type_in v.nodes) c.class.ensures.params in
    then_by quietly quiet_law u v v (constant (reading x)) (λ k. give (Some (case_value of k)))
    (give (Some c.kept_constant.result)) (ConstantThere v c.in_ok-value.value)
    (in_any IsConstant v c.in_ok-value.value) LabelThere IsLabel (Ok (Some c.kept_constant.result)) a
    (λ s k t e. ap (λ (n : ℕ). give (Some n) s)
    (ap (case_value of) e ∙ ap (λ j. wrapped j c.in_ok-value.value.number) kind ∙ sym c.kept_constant.ensures))
    (gave quietly quiet_law v (Some c.kept_constant.result) (LabelThere v (Some c.kept_constant.result)) a.whole tt)

pub class-requires : goal.class-requires
class-requires c =
    let a = c.in_ok-value.ensures c.requires.part.syntax c.requires.part.is in
    record {
      whole = a.whole;
      there = type_there c.args.work.now c.constant.new.work c.args.of a.grows.keeps c.requires.there;
    }

pub returns-in_err-value : goal.returns-in_err-value
returns-in_err-value c = let p = err_from_is_err_and c.from_residual.result c.from_residual.ensures.1 in λ x q.
    let u = c.args.work.now in
    let v = c.constant.new.work in
    rw (p.1, p.2) (failed quietly u v v (constant (reading x))
    (λ k. give (Some (case_value (type_in u.nodes c.args.of) k))) ConstantThere
    (in_any IsConstant) LabelThere IsLabel _ (c.in_err-value.ensures x q))
