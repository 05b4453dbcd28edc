-- Nodes that are no expressions.
use Rattle.std.proofs.Common.{◌≡◌, List, Option, refl, ap}
use Rattle.ck_base.specs.declared.positions.Pos.{Pos}
use Rattle.ck_base.specs.Tokens.{Lexeme}
use Rattle.ck_int.specs.declared.kinds.IntOp.{IntOp}
use Rattle.c_tree.specs.declared.syntax.NodeKind.{NodeKind}
use Rattle.c_tree.specs.declared.syntax.NodeKind.TheVariants as Kinds
use Rattle.c_tree.specs.declared.syntax.InfixOperator.{InfixOperator}
use Rattle.c_tree.specs.declared.syntax.PrefixOperator.{PrefixOperator}
use Rattle.c_tree.specs.declared.syntax.StepOperator.{StepOperator}
use Rattle.c_tree.specs.declared.syntax.Selection.{Selection}
use Rattle.c_tree.specs.Syntax.{Syns}
use Rattle.c_tree.specs.Scopes.{State, refuse}
use Rattle.c_tree.specs.Readings.{Reading}
use Rattle.c_tree.specs.Expressions.{expression_of}

pub no_expression : (k : NodeKind) (t : Lexeme) (p : Pos) → t.pos ≡ p → (xs : Syns) (rs : List Reading) (s : State) →
    (k ≡ Kinds.Name → ⊥) →
    (k ≡ Kinds.Number → ⊥) →
    (k ≡ Kinds.Character → ⊥) →
    (k ≡ Kinds.Text → ⊥) →
    (k ≡ Kinds.Parenthesized → ⊥) →
    (k ≡ Kinds.Index → ⊥) →
    (k ≡ Kinds.Call → ⊥) →
    ((o : Selection) → k ≡ Kinds.Select o → ⊥) →
    ((o : StepOperator) → k ≡ Kinds.Postfix o → ⊥) →
    ((o : PrefixOperator) → k ≡ Kinds.Prefix o → ⊥) →
    (k ≡ Kinds.SizeofExpression → ⊥) →
    (k ≡ Kinds.SizeofType → ⊥) →
    (k ≡ Kinds.Cast → ⊥) →
    ((o : InfixOperator) → k ≡ Kinds.Infix o → ⊥) →
    (k ≡ Kinds.Conditional → ⊥) →
    ((o : Option IntOp) → k ≡ Kinds.Assignment o → ⊥) →
    expression_of k t xs rs s ≡ refuse 120 p s
no_expression Kinds.Name t p e xs rs s n0 n1 n2 n3 n4 n5 n6 n7 n8 n9 n10 n11 n12 n13 n14 n15 = absurd (n0 refl)
no_expression Kinds.Number t p e xs rs s n0 n1 n2 n3 n4 n5 n6 n7 n8 n9 n10 n11 n12 n13 n14 n15 = absurd (n1 refl)
no_expression Kinds.Character t p e xs rs s n0 n1 n2 n3 n4 n5 n6 n7 n8 n9 n10 n11 n12 n13 n14 n15 = absurd (n2 refl)
no_expression Kinds.Text t p e xs rs s n0 n1 n2 n3 n4 n5 n6 n7 n8 n9 n10 n11 n12 n13 n14 n15 = absurd (n3 refl)
no_expression Kinds.Parenthesized t p e xs rs s n0 n1 n2 n3 n4 n5 n6 n7 n8 n9 n10 n11 n12 n13 n14 n15 = absurd (n4 refl)
no_expression Kinds.Index t p e xs rs s n0 n1 n2 n3 n4 n5 n6 n7 n8 n9 n10 n11 n12 n13 n14 n15 = absurd (n5 refl)
no_expression Kinds.Call t p e xs rs s n0 n1 n2 n3 n4 n5 n6 n7 n8 n9 n10 n11 n12 n13 n14 n15 = absurd (n6 refl)
no_expression (Kinds.Select o) t p e xs rs s n0 n1 n2 n3 n4 n5 n6 n7 n8 n9 n10 n11 n12 n13 n14 n15 = absurd (n7 o refl)
no_expression (Kinds.Postfix o) t p e xs rs s n0 n1 n2 n3 n4 n5 n6 n7 n8 n9 n10 n11 n12 n13 n14 n15 = absurd (n8 o refl)
no_expression (Kinds.Prefix o) t p e xs rs s n0 n1 n2 n3 n4 n5 n6 n7 n8 n9 n10 n11 n12 n13 n14 n15 = absurd (n9 o refl)
no_expression Kinds.SizeofExpression t p e xs rs s n0 n1 n2 n3 n4 n5 n6 n7 n8 n9 n10 n11 n12 n13 n14 n15 =
    absurd (n10 refl)
no_expression Kinds.SizeofType t p e xs rs s n0 n1 n2 n3 n4 n5 n6 n7 n8 n9 n10 n11 n12 n13 n14 n15 = absurd (n11 refl)
no_expression Kinds.Cast t p e xs rs s n0 n1 n2 n3 n4 n5 n6 n7 n8 n9 n10 n11 n12 n13 n14 n15 = absurd (n12 refl)
no_expression (Kinds.Infix o) t p e xs rs s n0 n1 n2 n3 n4 n5 n6 n7 n8 n9 n10 n11 n12 n13 n14 n15 = absurd (n13 o refl)
no_expression Kinds.Conditional t p e xs rs s n0 n1 n2 n3 n4 n5 n6 n7 n8 n9 n10 n11 n12 n13 n14 n15 = absurd (n14 refl)
no_expression (Kinds.Assignment o) t p e xs rs s n0 n1 n2 n3 n4 n5 n6 n7 n8 n9 n10 n11 n12 n13 n14 n15 =
    absurd (n15 o refl)
no_expression k t p e xs rs s n0 n1 n2 n3 n4 n5 n6 n7 n8 n9 n10 n11 n12 n13 n14 n15 = ap (λ (q : Pos). refuse 120 q s) e
