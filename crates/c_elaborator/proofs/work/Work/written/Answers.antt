use Rattle.std.proofs.Common.{◌≡◌, ℕ, ◌≤◌, List, length, ap, sym, subst, ◌∙◌}
use Rattle.c_tree.specs.declared.typed.Literal.{Literal}
use Rattle.c_tree.specs.Types.{Array, char}
use Rattle.c_tree.specs.Layout.{size_limit}
use Rattle.c_expressions.proofs.Keeping.{has_type_is}
use Rattle.c_elaborator.specs.Answers.{Answers, quietly, OperandThere, IsOperand}
use Rattle.c_elaborator.specs.Rules.{writing}
use Rattle.c_elaborator.proofs.Writing.{written_answers}
use Rattle.c_elaborator.proofs.work.Work.written.Goals as goal

pub returns : goal.returns
returns c =
    let w = c.args.self.now in
    let n = c.chars.new.nodes in
    let p = c.args.pos in
    let x : Literal = record { pos = p; bytes = c.from_vec.result } in
    let count : c.count_of-count.result ≡ length x.bytes =
    c.count_of-count.ensures ∙ ap length (sym c.from_vec.ensures) in
    subst (λ (bs : List ℕ). Answers quietly w c.leaf.new.self (writing bs p) OperandThere IsOperand c.leaf.result)
    c.from_vec.ensures
    (written_answers w n c.push_literal.new.list x c.leaf.new.self c.in_ok-k.k c.in_ok-of.of c.leaf.result
    (has_type_is w.nodes n _ _ _ c.in_ok-of.ensures (ap (Array char) count)) c.in_ok-push_literal.ensures
    (c.in_ok-k.ensures ∙ ap length c.as_slice.ensures)
    (subst (λ (m : ℕ). m ≤ size_limit) count c.if-count-gt-LIMIT.false) c.leaf.ensures)
