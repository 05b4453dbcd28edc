use Rattle.std.proofs.Common.{List, ℕ, Ok, sym, ap, subst, ◌∙◌}
use Rattle.ck_base.specs.declared.positions.Pos.{Pos}
use Rattle.c_tree.specs.declared.syntax.NodeKind.{NodeKind}
use Rattle.c_tree.specs.Declarations.{declaration}
use Rattle.c_tree.specs.Expressions.{first_of}
use Rattle.c_tree.specs.Programs.{reading, readings}
use Rattle.c_tree.specs.Readings as meant
use Rattle.c_tree.specs.Scopes.{Doing}
use Rattle.c_tree.specs.Statements.{first_part}
use Rattle.c_tree.specs.Syntax.{Syn, node}
use Rattle.c_elaborator.specs.Answers.{Answers, freely}
use Rattle.c_elaborator.specs.Parts.{AreParts}
use Rattle.c_readings.proofs.Kids.{opened}
use Rattle.c_elaborator.specs.Items.{context_in, ItemsThere, IsItems}
use Rattle.c_statements.specs.Statements.{evaluate_one}
use Rattle.c_statements.proofs.Inside.{declares_first, evaluates_first, is_expression}
use Rattle.c_statements.proofs.Placing.{at_place}
use Rattle.c_statements.proofs.Steps.{nothing_given}
use Rattle.c_readings.proofs.Within.{kids_in, node_low, part_there}
use Rattle.c_statements.proofs.Only.{of_one}
use Rattle.c_statements.proofs.heads.first_part.Goals as goal

pub node_at-node-requires : goal.node_at-node-requires
node_at-node-requires c = part_there c.args.work.now c.args.k c.requires.part

pub declaration-requires : goal.declaration-requires
declaration-requires c =
    let u = c.args.work.now in
    let n = c.node_at-node.result.now in
    record {
      whole = c.requires.whole;
      parts = kids_in u n c.as_slice.result.now
          (node_low u c.args.k n c.requires.part c.node_at-node.ensures) c.as_slice.ensures;
    }

pub returns-in-Declaration : goal.returns-in-Declaration
returns-in-Declaration c = λ x p.
    let u = c.args.work.now in
    let w = c.declaration.new.work in
    let n = c.node_at-node.result.now in
    let d = context_in u c.args.context in
    let o = opened u c.args.k x n p c.node_at-node.ensures in
    subst (λ (y : Syn). Answers freely u w (first_part d y (reading y)) ItemsThere IsItems c.declaration.result)
    (sym (o.is ∙ ap (λ (k : NodeKind). node k o.token o.parts) c.in-Declaration.is))
    (subst (λ (e : Doing meant.Items). Answers freely u w e ItemsThere IsItems c.declaration.result)
    (sym (declares_first d o.token o.parts))
    (at_place u w (λ q. declaration q (readings o.parts)) ItemsThere o.token.pos n.pos c.declaration.result o.node.place
    (c.declaration.ensures o.parts (subst (λ (ks : List ℕ). AreParts u ks o.parts)
    (sym c.as_slice.ensures) o.node.parts))))

pub returns-in-Absent : goal.returns-in-Absent
returns-in-Absent c = λ x p.
    let u = c.args.work.now in
    let n = c.node_at-node.result.now in
    let d = context_in u c.args.context in
    let o = opened u c.args.k x n p c.node_at-node.ensures in
    let i = c.no_items.result in
    subst (λ (y : Syn). Answers freely u u (first_part d y (reading x)) ItemsThere IsItems (Ok i))
    (sym (o.is ∙ ap (λ (k : NodeKind). node k o.token o.parts) c.in-Absent.is))
    (nothing_given u i c.requires.whole c.no_items.ensures.vars c.no_items.ensures.actions)

pub returns-in_default : goal.returns-in_default
returns-in_default c = λ x p.
    let u = c.args.work.now in
    let w = c.evaluate_one.new.work in
    let n = c.node_at-node.result.now in
    let d = context_in u c.args.context in
    let o = opened u c.args.k x n p c.node_at-node.ensures in
    let r = c.evaluate_one.result in
    subst (λ (y : Syn). Answers freely u w (first_part d y (reading x)) ItemsThere IsItems r) (sym o.is)
    (subst (λ (e : Doing meant.Items). Answers freely u w e ItemsThere IsItems r)
    (sym (evaluates_first d n.kind o.token o.parts (reading x)
    (is_expression n.kind c.in_default.not-Declaration c.in_default.not-Absent)))
    (subst (λ (q : Pos). Answers freely u w (evaluate_one (reading x) q) ItemsThere IsItems r)
    (o.first ∙ ap first_of o.is) (of_one u w (evaluate_one (reading x) n.first) r (c.evaluate_one.ensures x p))))
