use Rattle.std.proofs.Common.{Ok, sym, subst}
use Rattle.c_tree.specs.declared.syntax.NodeKind.{NodeKind}
use Rattle.c_tree.specs.Scopes.{Doing}
use Rattle.c_tree.specs.Programs.{readings, external_of}
use Rattle.c_elaborator.specs.declared.work.Work.{Work}
use Rattle.c_elaborator.specs.Answers.{Answers, freely, NothingThere, IsNothing}
use Rattle.c_elab.proofs.Shapes.{external_answers, other_external}
use Rattle.c_elab.proofs.Externals.{nothing_done}
use Rattle.c_readings.proofs.Within.{kids_low, part_there}
use Rattle.c_elab.proofs.elaboration.external.Goals as goal

pub node_at-node-requires : goal.node_at-node-requires
node_at-node-requires c = part_there c.args.work.now c.args.k c.requires.part

pub function_definition-requires : goal.function_definition-requires
function_definition-requires c =
    let u : Work = c.args.work.now in
    record {
      shown = c.requires.shown;
      whole = c.requires.whole;
      parts = rw c.as_slice.ensures (kids_low u c.args.k c.node_at-node.result.now c.requires.part
          c.node_at-node.ensures);
    }

pub declare-requires : goal.declare-requires
declare-requires c =
    let u : Work = c.args.work.now in
    record {
      whole = c.requires.whole;
      parts = rw c.as_slice-in-Declaration.ensures
          (kids_low u c.args.k c.node_at-node.result.now c.requires.part c.node_at-node.ensures);
    }

pub returns-in-FunctionDefinition : goal.returns-in-FunctionDefinition
returns-in-FunctionDefinition c = λ x p.
    let u : Work = c.args.work.now in
    let w : Work = c.function_definition.new.work in
    external_answers u w c.args.k x c.node_at-node.result.now c.function_definition.result p c.node_at-node.ensures
    (λ t xs e a. subst (λ (k : NodeKind). Answers freely u w
    (external_of k t xs (readings xs)) NothingThere IsNothing c.function_definition.result)
    (sym c.in-FunctionDefinition.is)
    (c.function_definition.ensures t xs e (rw c.as_slice.ensures a)))

pub returns-in-Declaration : goal.returns-in-Declaration
returns-in-Declaration c = λ x p.
    let u : Work = c.args.work.now in
    let w : Work = c.declare.new.work in
    external_answers u w c.args.k x c.node_at-node.result.now c.declare.result p c.node_at-node.ensures
    (λ t xs e a. subst (λ (k : NodeKind). Answers freely u w
    (external_of k t xs (readings xs)) NothingThere IsNothing c.declare.result) (sym c.in-Declaration.is)
    (c.declare.ensures t xs e (rw c.as_slice-in-Declaration.ensures a)))

pub returns-in_default : goal.returns-in_default
returns-in_default c = λ x p.
    let u : Work = c.args.work.now in
    external_answers u u c.args.k x c.node_at-node.result.now (Ok tt) p c.node_at-node.ensures
    (λ t xs e a. subst (λ (d : Doing Unit). Answers freely u u d NothingThere IsNothing (Ok tt))
    (sym (other_external c.node_at-node.result.now.kind t xs
    (readings xs) c.in_default.not-FunctionDefinition c.in_default.not-Declaration))
    (nothing_done u c.requires.whole))
