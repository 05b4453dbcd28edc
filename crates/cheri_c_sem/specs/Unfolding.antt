-- What calls and loops are over calls as deep as the turns allow: no count of calls or of rounds ends a run, but the
-- turns alone. And what the tree of a node is.
use Rattle.std.specs.Prelude.{◌≡◌, ℕ, suc, ◌<◌, Bool, List, Option, Some, slice_get}
use Rattle.ck_base.specs.World.{World}
use Rattle.ck_base.specs.declared.positions.Pos.{Pos}
use Rattle.c_tree.specs.declared.typed.Expr.{Expr}
use Rattle.c_tree.specs.declared.typed.Stmt.{Stmt}
use Rattle.c_tree.specs.declared.typed.Typed.{Typed}
use Rattle.c_tree.specs.declared.typed.VarDef.{VarDef}
use Rattle.obj_mem.specs.Values.{Value}
use Rattle.cheri_c_sem.specs.Kinds.{Kind}
use Rattle.cheri_c_sem.specs.Operations.{Operations}
use Rattle.cheri_c_sem.specs.Modes.{Store}
use Rattle.cheri_c_sem.specs.Steps.{State, Fate, Then, ◌>>=◌, ◌>>◌, give, choose, turn}
use Rattle.cheri_c_sem.specs.Tree.{Ex, St, While, Do_while, Fun}
use Rattle.cheri_c_sem.specs.Statements.{Flow, Goes, after_body, loop, test_of, step_of, exec}
use Rattle.cheri_c_sem.specs.Calls.{in_frame, calls}
use Rattle.cheri_c_sem.specs.Depth.{deep}
use Rattle.cheri_c_sem.specs.Expressions.{kind_tree, expr_tree}
use Rattle.cheri_c_sem.specs.Programs.{stmt_kind_tree, stmt_tree}

-- one round of a `while` or `for` loop, and what comes next
abbrev pub round : {M : Type 0} → Then M Bool → Then M Flow → Then M (Unit {0}) → Then M Flow → Then M Flow
round test body step next = test >>= λ c. choose c (body >>= λ f. after_body f (step >> (turn >> next))) (give Goes)

-- one round of a `do` loop
abbrev pub round_of_do : {M : Type 0} → Then M Flow → Then M Bool → Then M Flow → Then M Flow
round_of_do body test next = body >>= λ f. after_body f (test >>= λ c. choose c (turn >> next) (give Goes))

module _ (ops : Operations Store) (w : World) (funs : List Fun) where
  abbrev pub call : ℕ → List Value → Then Store Value
  call = deep ops w funs

  abbrev pub for_loop : Option (Pos × Kind × Ex) → Option Ex → St → Then Store Flow
  for_loop t u b = λ s. loop (suc s.left) (test_of ops w call t) (exec ops w call b) (step_of ops w call u) s

  pub record TurnsAlone : Type 0 where
    -- calls to any depth that the turns don't exceed are calls as deep as they allow
    pub enough : (a f : ℕ) (vs : List Value) (s : State Store) (k : Value → State Store → Fate) → s.left < a →
        calls ops w funs a f vs s k ≡ call f vs s k
    -- a call is the body of its function, in a frame, over such calls
    pub calls : (f : ℕ) (vs : List Value) (s : State Store) (k : Value → State Store → Fate) →
        call f vs s k ≡ in_frame ops w funs call f (slice_get funs f) vs s k
    -- a loop is one round of it, and then the loop
    pub whiles : (p : Pos) (j : Kind) (e : Ex) (b : St) (s : State Store) (k : Flow → State Store → Fate) →
        exec ops w call (While p j e b) s k ≡ round (test_of ops w call (Some (p, j, e))) (exec ops w call b) (give tt)
        (exec ops w call (While p j e b)) s k
    pub dos : (p : Pos) (j : Kind) (b : St) (e : Ex) (s : State Store) (k : Flow → State Store → Fate) →
        exec ops w call (Do_while p j b e) s k ≡ round_of_do (exec ops w call b) (test_of ops w call (Some (p, j, e)))
        (exec ops w call (Do_while p j b e)) s k
    pub fors : (t : Option (Pos × Kind × Ex)) (u : Option Ex) (b : St) (s : State Store)
        (k : Flow → State Store → Fate) →
        for_loop t u b s k ≡ round (test_of ops w call t) (exec ops w call b) (step_of ops w call u)
        (for_loop t u b) s k

-- A node's tree is made of those of its operands, and a statement's of those of its parts
pub record TreesOfOperands (p : Typed) (vars : List VarDef) : Type 0 where
  pub expressions : (k : ℕ) (e : Expr) → slice_get p.exprs k ≡ Some e →
      expr_tree p vars k ≡ kind_tree p vars (expr_tree p vars) e.of e.pos e.kind
  pub statements : (k : ℕ) (s : Stmt) → slice_get p.stmts k ≡ Some s →
      stmt_tree p vars k ≡ stmt_kind_tree p vars (expr_tree p vars) (stmt_tree p vars) s.pos s.kind
