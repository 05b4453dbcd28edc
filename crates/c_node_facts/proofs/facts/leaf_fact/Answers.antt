use Rattle.c_node_facts.proofs.Known.{leaf_known, global_known, var_known, fun_known, constant_known}
use Rattle.c_node_facts.proofs.facts.leaf_fact.Goals as goal

pub returns-in-Constant : goal.returns-in-Constant
returns-in-Constant c = λ t p h. rw c.in-Constant.is (constant_known _ t p _ _ h c.is_null.ensures)

pub returns-in-Literal : goal.returns-in-Literal
returns-in-Literal c = λ t p h. rw c.in-Literal.is (leaf_known _ t p)

pub returns-in-Global : goal.returns-in-Global
returns-in-Global c = λ t p h. rw c.in-Global.is (global_known _ t p)

pub returns-in-Var : goal.returns-in-Var
returns-in-Var c = λ t p h. rw c.in-Var.is (var_known _ t p)

pub returns-in-Fun : goal.returns-in-Fun
returns-in-Fun c = λ t p h. rw c.in-Fun.is (fun_known _ t p)
