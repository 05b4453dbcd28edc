-- Programs that stand for one program have one tree.
use Rattle.std.proofs.Common.{◌≡◌, ℕ, zero, suc, ◌+◌, ◌<◌, ◌≤◌, cond, List, [], ◌∷◌, length, map}
use Rattle.std.proofs.Common.{Option, Some, None, refl, sym, ap, subst, ◌∙◌, arith}
use Rattle.std.specs.Prelude.{slice_get, ◌==◌}
use Rattle.cap_ops.specs.Permissions.{const_permissions}
use Rattle.c_tree.specs.Layout.{bare}
use Rattle.c_tree.specs.declared.typed.CType.{CType}
use Rattle.c_tree.specs.declared.typed.CType.TheVariants as ctypes
use Rattle.c_tree.specs.declared.typed.FunDef.{FunDef}
use Rattle.c_tree.specs.declared.typed.GlobalDef.{GlobalDef}
use Rattle.c_tree.specs.declared.typed.Link.{Link}
use Rattle.c_tree.specs.declared.typed.Literal.{Literal}
use Rattle.c_tree.specs.declared.typed.Target.{Target}
use Rattle.c_tree.specs.declared.typed.Target.TheVariants as targets
use Rattle.c_tree.specs.declared.typed.Typed.{Typed}
use Rattle.c_tree.specs.declared.typed.VarDef.{VarDef}
use Rattle.c_tree.specs.Types.{Ty, Tys, Function}
use Rattle.c_tree.specs.Terms as tree
use Rattle.c_tree.specs.Terms.{Routine, Program}
use Rattle.c_tree.specs.Views.{type_from, types_of, type_at, actions_of, aim_of, pointing_of, object_of}
use Rattle.c_tree.specs.Views.{text_of}
use Rattle.c_tree.specs.Views.{variable_of, routine_of, Shows, IsOrdered}
use Rattle.cheri_c_sem.specs.Programs.{parameter_of, lengths_of, end_of_type, end_of, function_tree, function_trees}
use Rattle.cheri_c_sem.specs.Programs.{value_by, value_at, global_tree, program_tree, stmt_tree}
use Rattle.cheri_c_sem.specs.Tree as meant
use Rattle.cheri_c_sem.specs.Tree.{Parameter, At_end, Fun, Global, St}
use Rattle.cheri_c_sem.specs.Types.{size_in, kind_of, is_simple, objects_before, result_type_of, type_of_var}
use Rattle.same_programs.specs.Points.{RoutinePoints, ProgramPoints}
use Rattle.same_programs.specs.Trees.{is_tree_simple, tree_objects_before, tree_variable_type}
use Rattle.same_programs.specs.Trees.{tree_parameter}
use Rattle.same_programs.specs.Trees.{tree_lengths, end_by, result_of, tree_end, routine_fun, routine_funs}
use Rattle.same_programs.specs.Trees.{pointed_at, starting, object_global, meant_program}
use Rattle.same_programs.specs.Types.{peeled, tree_kind, tree_size, is_tree_void}
use Rattle.same_programs.proofs.Expressions.{simple_is, objects_are, permissions_are}
use Rattle.same_programs.proofs.Needs.{map_over, mapped_length}
use Rattle.same_programs.proofs.Statements.{map_alike, statement_same}
use Rattle.same_programs.proofs.Types.{kind_is, void_is, size_is, bare_is, Bared}

mapped_get : {A B : Type 0} (f : A → B) (xs : List A) (k : ℕ) (x : A) → slice_get xs k ≡ Some x →
    slice_get (map f xs) k ≡ Some (f x)
mapped_get f [] k x e = absurd cc
mapped_get f (y ∷ xs) zero x e = let z : y ≡ x = cc in ap (λ w. Some (f w)) z
mapped_get f (y ∷ xs) (suc k) x e = mapped_get f xs k x e

module _ (p : Typed) (o : IsOrdered p) (q : Program) (s : Shows p q) (d : ℕ) (deep : length p.types ≤ d) where
  abbrev ts : List Ty
  ts = types_of p.types

  -- ---- objects

  value_is : (k : Link) (t : Target) → value_at p k t ≡ pointed_at d q (pointing_of k) (aim_of t)
  value_is k (targets.Global g) = ap (λ n. value_by p g n k) (permissions_are p o q s d deep [] g)
  value_is k (targets.Literal n) =
      ap (λ m. value_by p (m + n) const_permissions k)
      (sym (mapped_length (object_of ts) p.globals) ∙ ap (λ (os : List tree.Object). length os) s.objects)
  value_is k (targets.Fun f) = refl

  global_is : (g : GlobalDef) → g.of < length p.types → global_tree p g ≡ object_global d q (object_of ts g)
  global_is g lt =
      let made : ℕ → List meant.Starting → Global = λ n ls. record { length = n; bytes = g.bytes; links = ls } in
      let own : Link → meant.Starting = λ k. record { at = k.at; value = value_at p k k.target } in
      let ls = map_over own (starting d q) pointing_of g.links
      (λ j k e. ap (λ v. record { at = k.at; value = v }) (value_is k k.target)) in
      ap (λ n. made n (map own g.links)) (size_is p o q s d deep g.of lt)
      ∙ ap (made (tree_size d q.tags (type_at ts g.of))) ls

  -- ---- functions

  parameter_is : (vs : List VarDef) → ((j : ℕ) (v : VarDef) → slice_get vs j ≡ Some v → v.of < length p.types) →
      (x : ℕ) → parameter_of p vs x ≡ tree_parameter d q (map (variable_of ts) vs) x
  parameter_is vs low x = by (slice_get vs x) refl
    where
      by : (v : Option VarDef) → slice_get vs x ≡ v →
          parameter_of p vs x ≡ tree_parameter d q (map (variable_of ts) vs) x
      by None e =
          let simple = sym (simple_is ts vs x) ∙ ap is_simple e in
          ap (λ v. cond (is_simple v) (meant.In_variable x) (meant.In_object (objects_before vs x)
          (kind_of (bare p.types (type_of_var v))))) e
          ∙ sym (ap (λ b. cond b (meant.In_variable x) (meant.In_object
          (tree_objects_before (map (variable_of ts) vs) x)
          (tree_kind (tree_variable_type (slice_get (map (variable_of ts) vs) x))))) simple)
      by (Some v) e =
          let k = kind_is p o v.of (low x v e) in
          let other = mapped_get (variable_of ts) vs x v e in
          ap (λ v. cond (is_simple v) (meant.In_variable x) (meant.In_object (objects_before vs x)
          (kind_of (bare p.types (type_of_var v))))) e
          ∙ ap (λ n. cond v.simple (meant.In_variable x) (meant.In_object n (kind_of (bare p.types v.of))))
          (objects_are ts vs x)
          ∙ ap (λ k. cond v.simple (meant.In_variable x) (meant.In_object
          (tree_objects_before (map (variable_of ts) vs) x) k)) k
          ∙ sym (ap (λ v. cond (is_tree_simple v) (meant.In_variable x) (meant.In_object
          (tree_objects_before (map (variable_of ts) vs) x) (tree_kind (tree_variable_type v)))) other)

  lengths_are : (vs : List VarDef) → ((j : ℕ) (v : VarDef) → slice_get vs j ≡ Some v → v.of < length p.types) →
      lengths_of p vs ≡ tree_lengths d q (map (variable_of ts) vs)
  lengths_are [] h = refl
  lengths_are (v ∷ vs) h =
      let n = size_is p o q s d deep v.of (h 0 v refl) in
      let r = lengths_are vs (λ j. h (suc j)) in
      ap (λ l. cond v.simple l (size_in p.types v.of ∷ l)) r
      ∙ ap (λ m. cond v.simple (tree_lengths d q (map (variable_of ts) vs))
      (m ∷ tree_lengths d q (map (variable_of ts) vs))) n

  record Gives (t : ℕ) (u : Ty) : Type 0 where
    pub number : ℕ
    pub takes : List ℕ
    pub there : number < length p.types
    pub is : bare p.types t ≡ Some (ctypes.Function number takes)
    pub tree : type_at ts number ≡ u

  gives_level : (t : ℕ) (u : Ty) (ps : Tys) (b : Bared p (length p.types) t) (c : CType) → t < length p.types →
      b.type ≡ c → type_from c (type_at ts) ≡ Function u ps → Gives t u
  gives_level t u ps b (ctypes.Function v vs) lt e h =
      let g : slice_get p.types b.number ≡ Some (ctypes.Function v vs) = b.there ∙ ap Some e in
      let l : v < b.number = (o.types b.number (ctypes.Function v vs) g).0 in
      record {
        number = v;
        takes = vs;
        there = omega (arith, b.no_later);
        is = b.is ∙ ap Some e;
        tree = cc;
      }
  gives_level t u ps b ctypes.Void lt e h = absurd cc
  gives_level t u ps b (ctypes.Int k n) lt e h = absurd cc
  gives_level t u ps b (ctypes.Cap signed) lt e h = absurd cc
  gives_level t u ps b (ctypes.Pointer v) lt e h = absurd cc
  gives_level t u ps b (ctypes.Array v n) lt e h = absurd cc
  gives_level t u ps b (ctypes.Struct tag ms) lt e h = absurd cc
  gives_level t u ps b (ctypes.Union tag ms) lt e h = absurd cc
  gives_level t u ps b (ctypes.Const v) lt e h = absurd cc
  gives_level t u ps b (ctypes.Incomplete tag) lt e h = absurd cc

  end_is : (n t : ℕ) → t < length p.types → (u : Ty) (ps : Tys) → peeled (type_at ts t) ≡ Function u ps →
      end_of p n t ≡ tree_end d q n (type_at ts t)
  end_is n t lt u ps h =
      let b = bare_is p o t lt in
      let r = gives_level t u ps b b.type lt refl (sym b.tree ∙ h) in
      let void = is_tree_void (peeled (type_at ts r.number)) in
      let end : end_of_type p (bare p.types (result_type_of (bare p.types t)))
      ≡ end_by d q (peeled (result_of (peeled (type_at ts t)))) =
      ap (λ c. end_of_type p (bare p.types (result_type_of c))) r.is
      ∙ ap (λ c. cond c meant.Gives_nothing (meant.Lacks (kind_of (bare p.types r.number))))
      (void_is p o r.number r.there)
      ∙ ap (λ k. cond void meant.Gives_nothing (meant.Lacks k)) (kind_is p o r.number r.there)
      ∙ ap (λ x. end_by d q (peeled x)) r.tree ∙ ap (λ x. end_by d q (peeled (result_of x))) (sym h) in
      ap (λ m. cond (n == m) meant.Gives_zero (end_of_type p (bare p.types (result_type_of (bare p.types t))))) s.main
      ∙ ap (λ y. cond (n == q.main) meant.Gives_zero y) end

  function_is : (n : ℕ) (f : FunDef) → slice_get p.funs n ≡ Some f → RoutinePoints (routine_of ts (actions_of p) f) →
      function_tree p n f ≡ routine_fun d q n (routine_of ts (actions_of p) f)
  function_is n f g z =
      let made : List Parameter → ℕ → List ℕ → At_end → St → Fun =
      λ ps m ls e b. record { name = f.pos; params = ps; vars = m; objects = ls; at_end = e; body = b } in
      let low : (j : ℕ) (v : VarDef) → slice_get f.vars j ≡ Some v → v.of < length p.types =
      λ j v e. o.vars n j f v g e in
      let vs = map (variable_of ts) f.vars in
      let ps = map (tree_parameter d q vs) f.params in
      let ls = tree_lengths d q vs in
      let there = o.funs n f g in
      ap (λ x. made x (length f.vars) (lengths_of p f.vars) (end_of p n f.of) (stmt_tree p f.vars f.body))
      (map_alike (parameter_of p f.vars) (tree_parameter d q vs) f.params (parameter_is f.vars low))
      ∙ ap (λ x. made ps x (lengths_of p f.vars) (end_of p n f.of) (stmt_tree p f.vars f.body))
      (sym (mapped_length (variable_of ts) f.vars))
      ∙ ap (λ x. made ps (length vs) x (end_of p n f.of) (stmt_tree p f.vars f.body)) (lengths_are f.vars low)
      ∙ ap (λ x. made ps (length vs) ls x (stmt_tree p f.vars f.body)) (end_is n f.of there.0 z.result z.takes z.of)
      ∙ ap (made ps (length vs) ls (tree_end d q n (type_at ts f.of)))
      (statement_same p o q s d deep f.vars f.body there.1 z.body)

  functions_are : (n : ℕ) (fs : List FunDef) →
      ((k : ℕ) (f : FunDef) → slice_get fs k ≡ Some f → slice_get p.funs (n + k) ≡ Some f) →
      ((k : ℕ) (r : Routine) → slice_get (map (routine_of ts (actions_of p)) fs) k ≡ Some r → RoutinePoints r) →
      function_trees p n fs ≡ routine_funs d q n (map (routine_of ts (actions_of p)) fs)
  functions_are n [] h z = refl
  functions_are n (f ∷ fs) h z =
      let e : n + 0 ≡ n = omega arith in
      let here = function_is n f (subst (λ m. slice_get p.funs m ≡ Some f) e (h 0 f refl)) (z 0 _ refl) in
      let rest = functions_are (suc n) fs
      (λ k g i. let y : suc n + k ≡ n + suc k = omega arith in rw y (h (suc k) g i)) (λ k. z (suc k)) in
      ap (λ x. x ∷ function_trees p (suc n) fs) here
      ∙ ap (λ xs. routine_fun d q n (routine_of ts (actions_of p) f) ∷ xs) rest

  pub program_is : ProgramPoints q → program_tree p ≡ meant_program d q
  unfolding program_tree
  program_is z =
      let made : List Global → List (List ℕ) → List Fun → ℕ → meant.Program =
      λ gs ls fs m. record { globals = gs; literals = ls; funs = fs; main = m } in
      let texts = map (λ (l : Literal). l.bytes) p.literals in
      let gs = map_over (global_tree p) (object_global d q) (object_of ts) p.globals
      (λ k g e. global_is g (o.globals k g e)) ∙ ap (map (object_global d q)) s.objects in
      let ls = map_over (λ (l : Literal). l.bytes) (λ (t : tree.Text). t.bytes) text_of p.literals (λ k l e. refl)
      ∙ ap (map (λ (t : tree.Text). t.bytes)) s.texts in
      let same : (k : ℕ) (f : FunDef) → slice_get p.funs k ≡ Some f → slice_get p.funs (0 + k) ≡ Some f =
      λ k f e. let y : 0 + k ≡ k = omega arith in rw y e in
      let fs = functions_are 0 p.funs same (λ k r e. z k r (subst (λ rs. slice_get rs k ≡ Some r) s.routines e))
      ∙ ap (routine_funs d q 0) s.routines in
      ap (λ x. made x texts (function_trees p 0 p.funs) p.main) gs
      ∙ ap (λ x. made (map (object_global d q) q.objects) x (function_trees p 0 p.funs) p.main) ls
      ∙ ap (λ x. made (map (object_global d q) q.objects) (map (λ (t : tree.Text). t.bytes) q.texts) x p.main) fs
      ∙ ap (made (map (object_global d q) q.objects) (map (λ (t : tree.Text). t.bytes) q.texts)
      (routine_funs d q 0 q.routines)) s.main

pub tree_same : (p p' : Typed) (q : Program) → IsOrdered p → IsOrdered p' → Shows p q → Shows p' q → ProgramPoints q →
    program_tree p ≡ program_tree p'
tree_same p p' q o o' s s' z =
    let d = length p.types + length p'.types in
    program_is p o q s d (omega arith) z ∙ sym (program_is p' o' q s' d (omega arith) z)
