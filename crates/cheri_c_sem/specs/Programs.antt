-- A typed program as a tree.
use Rattle.std.specs.Prelude.{ℕ, zero, suc, ◌+◌, ◌==◌, List, [], ◌∷◌, length, map, Option, Some, None, slice_get}
use Rattle.std.specs.Prelude.{if◌then◌else◌}
use Rattle.ck_base.specs.declared.positions.Pos.{Pos}
use Rattle.ck_int.specs.Kinds.{kept_of}
use Rattle.cap_ops.specs.Permissions.{const_permissions}
use Rattle.c_tree.specs.Layout.{bare}
use Rattle.c_tree.specs.declared.typed.CType.{CType}
use Rattle.c_tree.specs.declared.typed.FunDef.{FunDef}
use Rattle.c_tree.specs.declared.typed.GlobalDef.{GlobalDef}
use Rattle.c_tree.specs.declared.typed.Link.{Link}
use Rattle.c_tree.specs.declared.typed.Literal.{Literal}
use Rattle.c_tree.specs.declared.typed.Stmt.{Stmt}
use Rattle.c_tree.specs.declared.typed.StmtKind.{StmtKind}
use Rattle.c_tree.specs.declared.typed.StmtKind.TheVariants as stmts
use Rattle.c_tree.specs.declared.typed.SwitchLabel.{SwitchLabel}
use Rattle.c_tree.specs.declared.typed.Target.{Target}
use Rattle.c_tree.specs.declared.typed.Target.TheVariants as target
use Rattle.c_tree.specs.declared.typed.Typed.{Typed}
use Rattle.c_tree.specs.declared.typed.VarDef.{VarDef}
use Rattle.obj_mem.specs.Values as value
use Rattle.cheri_c_sem.specs.Kinds.{Kind}
use Rattle.cheri_c_sem.specs.Tree.{Ex, Declared, Simple, Objects, Label, Case, Default, St, Do, Give, Init, Fill, Block}
use Rattle.cheri_c_sem.specs.Tree.{If, While, Do_while, For, Switch, Break, Continue, Return, Empty, Sts, End, Seq}
use Rattle.cheri_c_sem.specs.Tree.{Parameter, In_variable, In_object, At_end, Gives_nothing, Gives_zero, Lacks, Fun}
use Rattle.cheri_c_sem.specs.Tree.{Global, Program}
use Rattle.cheri_c_sem.specs.Types.{size_in, align_in, kind_of, is_record, is_void, result_type_of, unit_of}
use Rattle.cheri_c_sem.specs.Types.{objects_before, is_simple, type_of_var}
use Rattle.cheri_c_sem.specs.Expressions.{type_of, permissions_of, kind_at, expr_tree}

abbrev pub statements : (ℕ → St) → List ℕ → Sts
statements t [] = End
statements t (k ∷ ks) = Seq (t k) (statements t ks)

-- the else branch, or nothing
abbrev pub statement_or_empty : (ℕ → St) → Option ℕ → St
statement_or_empty t None = Empty
statement_or_empty t (Some k) = t k

abbrev pub expression_of : (ℕ → Ex) → Option ℕ → Option Ex
expression_of e None = None
expression_of e (Some k) = Some (e k)

abbrev pub label_of : Option ℕ → ℕ → Label
label_of None before = Default before
label_of (Some v) before = Case v before

module _ (p : Typed) where
  -- ---- statements, of a function with these variables

  module _ (vars : List VarDef) where
    abbrev pub declared : ℕ → Declared
    declared x = if is_simple (slice_get vars x) then Simple x else Objects (objects_before vars x)

    abbrev pub test_in : Pos → (ℕ → Ex) → Option ℕ → Option (Pos × Kind × Ex)
    test_in pos e None = None
    test_in pos e (Some k) = Some (pos, kind_at p vars k, e k)

    -- a variable's value, an object's scalar, or an object's struct or union
    abbrev pub initialisation : Pos → ℕ → ℕ → ℕ → Ex → St
    initialisation pos x offset t v =
        if is_simple (slice_get vars x) then Give x v
        else if is_record (bare p.types t)
        then Fill pos (objects_before vars x) offset (size_in p.types t) (unit_of (align_in p.types t)) v
        else Init pos (objects_before vars x) offset (kind_of (bare p.types t)) v

    -- the tree of a statement, where e and t have those of the expressions and statements in it
    abbrev pub stmt_kind_tree : (ℕ → Ex) → (ℕ → St) → Pos → StmtKind → St
    stmt_kind_tree e t pos (stmts.Expr a) = Do (e a)
    stmt_kind_tree e t pos (stmts.Init x offset a) = initialisation pos x offset (type_of (slice_get p.exprs a)) (e a)
    stmt_kind_tree e t pos (stmts.Block xs ks) = Block (map declared xs) (statements t ks)
    stmt_kind_tree e t pos (stmts.If c a b) = If pos (kind_at p vars c) (e c) (t a) (statement_or_empty t b)
    stmt_kind_tree e t pos (stmts.While c a) = While pos (kind_at p vars c) (e c) (t a)
    stmt_kind_tree e t pos (stmts.Do a c) = Do_while pos (kind_at p vars c) (t a) (e c)
    stmt_kind_tree e t pos (stmts.For xs first test step a) =
        For (map declared xs) (statements t first) (test_in pos e test) (expression_of e step) (t a)
    stmt_kind_tree e t pos (stmts.Switch on xs labels ks) =
        Switch pos (kind_at p vars on) (e on) (map declared xs)
        (map (λ (s : SwitchLabel). label_of s.value s.before) labels) (statements t ks)
    stmt_kind_tree e t pos stmts.Break = Break
    stmt_kind_tree e t pos stmts.Continue = Continue
    stmt_kind_tree e t pos (stmts.Return a) = Return (expression_of e a)
    stmt_kind_tree e t pos stmts.Empty = Empty

    abbrev pub stmt_node_tree : (ℕ → Ex) → (ℕ → St) → Option Stmt → St
    stmt_node_tree e t None = Empty
    stmt_node_tree e t (Some s) = stmt_kind_tree e t s.pos s.kind

    abbrev pub stmt_levels : ℕ → ℕ → St
    stmt_levels zero k = Empty
    stmt_levels (suc n) k = stmt_node_tree (expr_tree p vars) (stmt_levels n) (slice_get p.stmts k)

    -- the tree of statement k
    unfoldable pub stmt_tree : ℕ → St
    stmt_tree k = stmt_levels (suc k) k

    -- ---- functions

    abbrev pub parameter_of : ℕ → Parameter
    parameter_of x =
        if is_simple (slice_get vars x) then In_variable x
        else In_object (objects_before vars x) (kind_of (bare p.types (type_of_var (slice_get vars x))))

  -- the lengths of the variables that are objects
  abbrev pub lengths_of : List VarDef → List ℕ
  lengths_of [] = []
  lengths_of (v ∷ vs) = if v.simple then lengths_of vs else size_in p.types v.of ∷ lengths_of vs

  abbrev pub end_of_type : Option CType → At_end
  end_of_type t = if is_void t then Gives_nothing else Lacks (kind_of t)

  -- 5.1.2.2.3: the end of `main` gives 0
  abbrev pub end_of : (number type : ℕ) → At_end
  end_of n t = if n == p.main then Gives_zero else end_of_type (bare p.types (result_type_of (bare p.types t)))

  abbrev pub function_tree : ℕ → FunDef → Fun
  function_tree n f = record {
    name = f.pos;
    params = map (parameter_of f.vars) f.params;
    vars = length f.vars;
    objects = lengths_of f.vars;
    at_end = end_of n f.of;
    body = stmt_tree f.vars f.body;
  }

  -- the functions from number n on
  abbrev pub function_trees : ℕ → List FunDef → List Fun
  function_trees n [] = []
  function_trees n (f ∷ fs) = function_tree n f ∷ function_trees (suc n) fs

  -- ---- globals

  -- the pointer with which a link's place begins
  abbrev pub value_by : ℕ → ℕ → Link → value.Value
  value_by object permissions k = value.Live object k.low (k.low + k.length) (kept_of k.offset) permissions

  abbrev pub value_at : Link → Target → value.Value
  value_at k (target.Global g) = value_by g (permissions_of p [] (slice_get p.globals g)) k
  value_at k (target.Literal n) = value_by (length p.globals + n) const_permissions k
  value_at k (target.Fun f) = value.Fun f

  abbrev pub global_tree : GlobalDef → Global
  global_tree g = record {
    length = size_in p.types g.of;
    bytes = g.bytes;
    links = map (λ (k : Link). record { at = k.at; value = value_at k k.target }) g.links;
  }

  -- ---- the program

  unfoldable pub program_tree : Program
  program_tree = record {
    globals = map global_tree p.globals;
    literals = map (λ (s : Literal). s.bytes) p.literals;
    funs = function_trees 0 p.funs;
    main = p.main;
  }
