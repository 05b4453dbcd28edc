use Rattle.std.proofs.Common.{◌≡◌, Some, None, List, ℕ, [], ◌∷◌, refl, sym, ap, subst, ◌∙◌}
use Rattle.c_tree.specs.Readings as meant
use Rattle.c_tree.specs.Readings.{Reading}
use Rattle.c_tree.specs.Syntax.{Syn, Syns, nil, more}
use Rattle.c_tree.specs.Scopes.{refuse}
use Rattle.c_tree.specs.Declarations.{init_declarator}
use Rattle.c_tree.specs.Programs.{reading, readings}
use Rattle.c_elaborator.specs.declared.work.Work.{Work}
use Rattle.c_elaborator.specs.Answers.{Answers, freely}
use Rattle.c_elaborator.specs.Parts.{AreParts}
use Rattle.c_readings.proofs.Kids.{opened, cut, no_parts}
use Rattle.c_elaborator.specs.Items.{ItemsThere, IsItems}
use Rattle.c_statements.specs.Declaring.{declares_with}
use Rattle.c_statements.proofs.Standing.{reading_node, declarator_is, declarator_none}
use Rattle.c_readings.specs.Within.{PartsWithin}
use Rattle.c_readings.proofs.Within.{first_within, kids_low, others_within, part_there}
use Rattle.c_statements.proofs.declarations.declared.Goals as goal

pub node_at-node-requires : goal.node_at-node-requires
node_at-node-requires c = part_there c.args.work.now c.args.k c.requires.part

pub declare_with-requires : goal.declare_with-requires
declare_with-requires c =
    let u : Work = c.args.work.now in
    let k = c.in-Some.x.first in
    let rest = c.in-Some.x.others.now in
    let h = subst (λ (ks : List ℕ). PartsWithin u c.args.depth ks) (sym c.as_slice.ensures ∙ c.in-Some.ensures)
    (kids_low u c.args.k c.node_at-node.result.now c.requires.part c.node_at-node.ensures) in
    record {
      whole = c.requires.whole;
      specified = c.requires.specified;
      part = first_within u k rest h;
      parts = others_within u k rest h;
    }

pub returns-in-None : goal.returns-in-None
returns-in-None c = λ y x hy hx.
    let u : Work = c.args.work.now in
    let n = c.node_at-node.result.now in
    let o = opened u c.args.k x n hx c.node_at-node.ensures in
    let e : o.parts ≡ nil = no_parts u o.parts
    (subst (λ (ks : List ℕ). AreParts u ks o.parts) (sym c.as_slice.ensures ∙ c.in-None.ensures) o.node.parts)
    in
    λ s h.
    ap (λ (r : Reading). r.declared y s) (ap reading o.is ∙ reading_node n.kind o.token o.parts)
    ∙ ap (λ (xs : Syns). init_declarator xs (readings xs) y s) e
    ∙ ap (λ (d : _). d s) (declarator_none y)
    ∙ ap (λ p. (let d : _ = refuse {A = meant.Items} 120 p in d) s) hy.first

pub returns-in-Some : goal.returns-in-Some
returns-in-Some c = λ y x hy hx.
    let u : Work = c.args.work.now in
    let n = c.node_at-node.result.now in
    let k = c.in-Some.x.first in
    let rest = c.in-Some.x.others.now in
    let o = opened u c.args.k x n hx c.node_at-node.ensures in
    let m = cut u k rest o.parts (subst (λ (ks : List ℕ). AreParts u ks o.parts)
    (sym c.as_slice.ensures ∙ c.in-Some.ensures) o.node.parts) in
    subst (λ (r : Reading). Answers freely u c.declare_with.new.work
    (r.declared y) ItemsThere IsItems c.declare_with.result)
    (sym (ap reading o.is ∙ reading_node n.kind o.token o.parts))
    (subst (λ (xs : Syns). Answers freely u c.declare_with.new.work
    (init_declarator xs (readings xs) y) ItemsThere IsItems c.declare_with.result) (sym m.is)
    (subst (λ d. Answers freely u c.declare_with.new.work d ItemsThere IsItems c.declare_with.result)
    (sym (declarator_is m.head m.tail y)) (c.declare_with.ensures y m.head m.tail hy m.first m.others)))
