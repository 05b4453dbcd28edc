-- The tree of a program, apart from the lists of its nodes and types. The parts of its types lie at most d levels deep
-- in one another.
use Rattle.std.specs.Prelude.{ℕ, zero, suc, ◌+◌, ◌==◌, not, Bool, true, false, List, [], ◌∷◌, length, map, Option, Some}
use Rattle.std.specs.Prelude.{None, slice_get, if◌then◌else◌}
use Rattle.ck_base.specs.declared.positions.Pos.{Pos}
use Rattle.ck_int.specs.declared.kinds.IntKind.TheVariants as int
use Rattle.ck_int.specs.declared.kinds.IntOp.{IntOp}
use Rattle.ck_int.specs.Kinds.{kept_of}
use Rattle.cap_ops.specs.Permissions.{data_permissions, const_permissions}
use Rattle.c_tree.specs.Types.{Ty, Void, Int, Cap, Pointer, Function, is_const}
use Rattle.c_tree.specs.Terms as tree
use Rattle.c_tree.specs.Terms.{Shape, Term, term, Terms, no_terms, with_term, type_of, Form, Action, action, Actions}
use Rattle.c_tree.specs.Terms.{no_actions, with_action, Aim, To_global, To_literal, To_function, Pointing, Variable}
use Rattle.c_tree.specs.Terms.{Routine}
use Rattle.obj_mem.specs.Values as value
use Rattle.cheri_c_sem.specs.Kinds.{Kind, Plain, Capability, int_kind}
use Rattle.cheri_c_sem.specs.Expressions.{from_plain, constant, sign_of}
use Rattle.cheri_c_sem.specs.Types.{unit_of, narrowing_to, promoted, takes_away, adds_or_takes, derived, service_of}
use Rattle.cheri_c_sem.specs.Types.{kind_or_int}
use Rattle.cheri_c_sem.specs.Programs.{label_of}
use Rattle.cheri_c_sem.specs.Tree as meant
use Rattle.cheri_c_sem.specs.Tree.{Operation, Whole, Derived, Moved, Apart, Narrowing, Ex, Exs, Nil, Cons, St, Sts, End}
use Rattle.cheri_c_sem.specs.Tree.{Seq, Declared, Parameter, At_end, Fun, Global, Program}
use Rattle.same_programs.specs.Types.{peeled, tree_scalar, tree_kind, is_tree_record, is_tree_void, is_tree_plain}
use Rattle.same_programs.specs.Types.{is_tree_pointer, is_tree_signed, tree_size, tree_align, tree_offset, tree_agree}

-- ---- variables

abbrev pub is_tree_simple : Option Variable → Bool
is_tree_simple None = true
is_tree_simple (Some v) = v.simple

abbrev pub tree_objects_before : List Variable → ℕ → ℕ
tree_objects_before [] x = 0
tree_objects_before (v ∷ vs) zero = 0
tree_objects_before (v ∷ vs) (suc x) = (if v.simple then 0 else 1) + tree_objects_before vs x

abbrev pub tree_variable_type : Option Variable → Ty
tree_variable_type None = Void
tree_variable_type (Some v) = v.of

-- ---- types

-- what a pointer points to
abbrev pub pointee : Ty → Ty
pointee (Pointer t) = t
pointee t = Void

abbrev pub result_of : Ty → Ty
result_of (Function t ps) = t
result_of t = Void

abbrev pub makes_from : Ty → Ty → Ex → Bool
makes_from (Int k n) (Cap signed) e = true
makes_from (Cap signed) (Cap signed') e = from_plain e
makes_from old new e = false

abbrev pub converted_by : Pos → Option Kind → Option Kind → Bool → Ex → Ex
converted_by p (Some old) (Some new) plain e = meant.Convert p old new plain e
converted_by p old new plain e = e

-- from and to types that are peeled
abbrev pub tree_conversion : Pos → Ty → Ty → Ex → Ex
tree_conversion p old new e =
    if is_tree_void new then meant.Discard e
    else converted_by p (tree_scalar old) (tree_scalar new) (makes_from old new e) e

abbrev pub stepped_kind : Kind → Kind
stepped_kind (Plain k) = Plain (promoted k)
stepped_kind (Capability signed) = Capability signed

abbrev pub tree_permissions : Option tree.Object → ℕ
tree_permissions None = data_permissions
tree_permissions (Some g) = if is_const g.of then const_permissions else data_permissions

module _ (d : ℕ) (q : tree.Program) where
  abbrev pub size : Ty → ℕ
  size t = tree_size d q.tags t

  abbrev pub is_record : Ty → Bool
  is_record t = is_tree_record q.tags (peeled t)

  abbrev pub element : Ty → ℕ
  element t = size (pointee (peeled t))

  abbrev pub narrowing : Term → Option Narrowing
  narrowing (term (tree.Member k) xs t p) = Some (narrowing_to (size t))
  narrowing x = None

  abbrev pub tree_sum : Pos → Bool → Ty → Ty → Ex → Ex → Ex
  tree_sum p minus a b x y =
      if is_tree_pointer (peeled a) then meant.Binary p (Moved (element a) minus false (tree_kind b)) x y
      else meant.Binary p (Moved (element b) minus true (tree_kind a)) x y

  abbrev pub tree_assignment : Pos → Ty → Ty → Ex → Ex → Ex
  tree_assignment p t a x y =
      if is_record t then meant.Copy p (size t) (unit_of (tree_align d q.tags t)) x y
      else meant.Assign (tree_kind a) x y

  -- computed in a type that is peeled
  abbrev pub tree_compound : IntOp → Ty → Ty → Ty → Ex → Operation
  tree_compound op (Pointer t) a b y = Moved (size t) (takes_away op) false (tree_kind b)
  tree_compound op (Cap signed) a b y =
      derived op signed (tree_kind b) (is_tree_plain (peeled a))
      (if is_tree_plain (peeled b) then true else from_plain y)
  tree_compound op t a b y = Whole op (int_kind (kind_or_int (tree_scalar t))) (tree_kind b)

  abbrev pub tree_step : Bool → Ty → Operation
  tree_step adds (Pointer t) = Moved (size t) (not adds) false (Plain int.I32)
  tree_step adds (Cap signed) = Derived (adds_or_takes adds) signed (Plain int.I32) false true
  tree_step adds t = Whole (adds_or_takes adds) (promoted (int_kind (kind_or_int (tree_scalar t)))) (Plain int.I32)

  abbrev pub tree_fits : Ty → List Bool
  tree_fits t = map (λ (r : tree.Routine). tree_agree d false t r.of) q.routines

  -- ---- expressions, of a function with these variables

  module _ (vars : List Variable) where
    abbrev pub variable_ex : Pos → ℕ → Ex
    variable_ex p x =
        if is_tree_simple (slice_get vars x) then meant.Variable p x else meant.Local p (tree_objects_before vars x)

    -- a node, its operands and their trees, its type and its place
    abbrev pub shape_ex : Shape → Terms → Exs → Ty → Pos → Ex
    shape_ex (tree.Constant n) xs es t p = constant n (tree_kind t)
    shape_ex (tree.Literal k) xs es t p = meant.Object p (length q.objects + k) const_permissions
    shape_ex (tree.Var x) xs es t p = variable_ex p x
    shape_ex (tree.Global g) xs es t p = meant.Object p g (tree_permissions (slice_get q.objects g))
    shape_ex (tree.Fun f) xs es t p = meant.Function p f
    shape_ex tree.Load xs (Cons e es) t p = if is_record t then meant.Aggregate e else meant.Load (tree_kind t) e
    shape_ex tree.Decay (with_term a xs) (Cons e es) t p = meant.Pointer_to p (narrowing a) e
    shape_ex tree.Deref xs (Cons e es) t p = meant.Deref p e
    shape_ex (tree.Member m) (with_term a xs) (Cons e es) t p = meant.Member p (tree_offset d q.tags (type_of a) m) e
    shape_ex tree.Address (with_term a xs) (Cons e es) t p = meant.Pointer_to p (narrowing a) e
    shape_ex tree.Convert (with_term a xs) (Cons e es) t p = tree_conversion p (peeled (type_of a)) (peeled t) e
    shape_ex (tree.Unary op) (with_term a xs) (Cons e es) t p = sign_of p (tree_kind (type_of a)) e op
    shape_ex (tree.Step adds front) (with_term a xs) (Cons e es) t p =
        meant.Compound p (tree_step adds (peeled (type_of a))) (tree_kind (type_of a))
        (stepped_kind (tree_kind (type_of a))) (not front) e (meant.Number 1)
    shape_ex (tree.Arithmetic op) (with_term a (with_term b xs)) (Cons e (Cons f es)) t p =
        meant.Binary p (Whole op (int_kind (tree_kind t)) (tree_kind (type_of b))) e f
    shape_ex (tree.Capability op right) (with_term a (with_term b xs)) (Cons e (Cons f es)) t p =
        meant.Binary p (Derived op (is_tree_signed (peeled t)) (tree_kind (type_of b)) right
        (from_plain (if right then e else f))) e f
    shape_ex (tree.Plus minus) (with_term a (with_term b xs)) (Cons e (Cons f es)) t p =
        tree_sum p minus (type_of a) (type_of b) e f
    shape_ex tree.Difference (with_term a (with_term b xs)) (Cons e (Cons f es)) t p =
        meant.Binary p (Apart (element (type_of a))) e f
    shape_ex (tree.Compare op) (with_term a (with_term b xs)) (Cons e (Cons f es)) t p =
        meant.Compare p op (tree_kind (type_of a)) e f
    shape_ex tree.And (with_term a (with_term b xs)) (Cons e (Cons f es)) t p =
        meant.And p (tree_kind (type_of a)) (tree_kind (type_of b)) e f
    shape_ex tree.Or (with_term a (with_term b xs)) (Cons e (Cons f es)) t p =
        meant.Or p (tree_kind (type_of a)) (tree_kind (type_of b)) e f
    shape_ex tree.Comma xs (Cons e (Cons f es)) t p = meant.Comma e f
    shape_ex tree.Assign (with_term a xs) (Cons e (Cons f es)) t p = tree_assignment p t (type_of a) e f
    shape_ex (tree.Compound op of) (with_term a (with_term b xs)) (Cons e (Cons f es)) t p =
        meant.Compound p (tree_compound op (peeled of) (type_of a) (type_of b) f) (tree_kind (type_of a))
        (tree_kind of) false e f
    shape_ex tree.Conditional (with_term a xs) (Cons c (Cons e (Cons f es))) t p =
        meant.Conditional p (tree_kind (type_of a)) c e f
    shape_ex tree.Call (with_term a xs) (Cons e es) t p = meant.Call p (tree_fits (pointee (peeled (type_of a)))) e es
    shape_ex (tree.Library n) xs es t p = meant.Library p (service_of n) es
    shape_ex n xs es t p = meant.Number 0

    abbrev mutual
      pub term_ex : Term → Ex
      term_ex (term n xs t p) = shape_ex n xs (terms_ex xs) t p

      pub terms_ex : Terms → Exs
      terms_ex no_terms = Nil
      terms_ex (with_term x xs) = Cons (term_ex x) (terms_ex xs)

    -- ---- statements

    abbrev pub tree_declared : ℕ → Declared
    tree_declared x =
        if is_tree_simple (slice_get vars x) then meant.Simple x else meant.Objects (tree_objects_before vars x)

    abbrev pub tree_initialisation : Pos → ℕ → ℕ → Ty → Ex → St
    tree_initialisation p x offset t v =
        if is_tree_simple (slice_get vars x) then meant.Give x v
        else if is_record t
        then meant.Fill p (tree_objects_before vars x) offset (size t) (unit_of (tree_align d q.tags t)) v
        else meant.Init p (tree_objects_before vars x) offset (tree_kind t) v

    -- the test and the step of a `for`, where it has them
    abbrev pub tree_test : Pos → Bool → Terms → Exs → Option (Pos × Kind × Ex)
    tree_test p true (with_term a xs) (Cons e es) = Some (p, tree_kind (type_of a), e)
    tree_test p b xs es = None

    abbrev pub tree_next : Bool → Bool → Exs → Option Ex
    tree_next true true (Cons e (Cons f es)) = Some f
    tree_next false true (Cons e es) = Some e
    tree_next a b es = None

    abbrev pub first_of : ℕ → Sts → Sts
    first_of zero ys = End
    first_of (suc n) End = End
    first_of (suc n) (Seq y ys) = Seq y (first_of n ys)

    abbrev pub statement_at : ℕ → Sts → St
    statement_at n End = meant.Empty
    statement_at zero (Seq y ys) = y
    statement_at (suc n) (Seq y ys) = statement_at n ys

    abbrev pub tree_label : tree.Label → meant.Label
    tree_label l = label_of l.value l.before

    abbrev pub form_st : Form → Terms → Exs → Sts → Pos → St
    form_st tree.Evaluate xs (Cons e es) ys p = meant.Do e
    form_st (tree.Init x offset) (with_term a xs) (Cons e es) ys p = tree_initialisation p x offset (type_of a) e
    form_st (tree.Block ks) xs es ys p = meant.Block (map tree_declared ks) ys
    form_st tree.If (with_term a xs) (Cons e es) (Seq x End) p = meant.If p (tree_kind (type_of a)) e x meant.Empty
    form_st tree.If (with_term a xs) (Cons e es) (Seq x (Seq y ys)) p = meant.If p (tree_kind (type_of a)) e x y
    form_st tree.While (with_term a xs) (Cons e es) (Seq x ys) p = meant.While p (tree_kind (type_of a)) e x
    form_st tree.Do (with_term a xs) (Cons e es) (Seq x ys) p = meant.Do_while p (tree_kind (type_of a)) x e
    form_st (tree.For ks n b c) xs es ys p =
        meant.For (map tree_declared ks) (first_of n ys) (tree_test p b xs es) (tree_next b c es) (statement_at n ys)
    form_st (tree.Switch ks labels) (with_term a xs) (Cons e es) ys p =
        meant.Switch p (tree_kind (type_of a)) e (map tree_declared ks) (map tree_label labels) ys
    form_st tree.Break xs es ys p = meant.Break
    form_st tree.Continue xs es ys p = meant.Continue
    form_st tree.Return xs Nil ys p = meant.Return None
    form_st tree.Return xs (Cons e es) ys p = meant.Return (Some e)
    form_st f xs es ys p = meant.Empty

    abbrev mutual
      pub action_st : Action → St
      action_st (action f xs ys p) = form_st f xs (terms_ex xs) (actions_st ys) p

      pub actions_st : Actions → Sts
      actions_st no_actions = End
      actions_st (with_action x xs) = Seq (action_st x) (actions_st xs)

    -- ---- functions

    abbrev pub tree_parameter : ℕ → Parameter
    tree_parameter x =
        if is_tree_simple (slice_get vars x) then meant.In_variable x
        else meant.In_object (tree_objects_before vars x) (tree_kind (tree_variable_type (slice_get vars x)))

  abbrev pub tree_lengths : List Variable → List ℕ
  tree_lengths [] = []
  tree_lengths (v ∷ vs) = if v.simple then tree_lengths vs else size v.of ∷ tree_lengths vs

  abbrev pub end_by : Ty → At_end
  end_by t = if is_tree_void t then meant.Gives_nothing else meant.Lacks (kind_or_int (tree_scalar t))

  abbrev pub tree_end : ℕ → Ty → At_end
  tree_end n t = if n == q.main then meant.Gives_zero else end_by (peeled (result_of (peeled t)))

  abbrev pub routine_fun : ℕ → Routine → Fun
  routine_fun n r = record {
    name = r.place;
    params = map (tree_parameter r.vars) r.params;
    vars = length r.vars;
    objects = tree_lengths r.vars;
    at_end = tree_end n r.of;
    body = action_st r.vars r.body;
  }

  abbrev pub routine_funs : ℕ → List Routine → List Fun
  routine_funs n [] = []
  routine_funs n (r ∷ rs) = routine_fun n r ∷ routine_funs (suc n) rs

  -- ---- objects

  abbrev pub pointed_by : ℕ → ℕ → Pointing → value.Value
  pointed_by object permissions k = value.Live object k.low (k.low + k.length) (kept_of k.offset) permissions

  abbrev pub pointed_at : Pointing → Aim → value.Value
  pointed_at k (To_global g) = pointed_by g (tree_permissions (slice_get q.objects g)) k
  pointed_at k (To_literal n) = pointed_by (length q.objects + n) const_permissions k
  pointed_at k (To_function f) = value.Fun f

  abbrev pub starting : Pointing → meant.Starting
  starting k = record { at = k.at; value = pointed_at k k.aim }

  abbrev pub object_global : tree.Object → Global
  object_global g = record { length = size g.of; bytes = g.bytes; links = map starting g.links }

  -- ---- the program

  abbrev pub meant_program : Program
  meant_program = record {
    globals = map object_global q.objects;
    literals = map (λ (t : tree.Text). t.bytes) q.texts;
    funs = routine_funs 0 q.routines;
    main = q.main;
  }
