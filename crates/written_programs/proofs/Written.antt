-- The lists of a program.
use Rattle.std.proofs.Common.{◌≡◌, ℕ, ◌<◌, List, [], ◌∷◌, ◌++◌, length, map, refl, sym, ap, ◌∙◌, arith}
use Rattle.std.specs.Prelude.{flat_map}
use Rattle.std.proofs.lemmas.Option.{none-some}
use Rattle.std.proofs.lemmas.List.{append-nil}
use Rattle.std.proofs.lemmas.List.Sums.{sum_by-append}
use Rattle.c_tree.specs.declared.typed.CType.{CType}
use Rattle.c_tree.specs.declared.typed.Target.{Target}
use Rattle.c_tree.specs.declared.typed.Target.TheVariants as targets
use Rattle.c_tree.specs.declared.typed.Link.{Link}
use Rattle.c_tree.specs.declared.typed.GlobalDef.{GlobalDef}
use Rattle.c_tree.specs.declared.typed.Literal.{Literal}
use Rattle.c_tree.specs.declared.typed.VarDef.{VarDef}
use Rattle.c_tree.specs.declared.typed.FunDef.{FunDef}
use Rattle.c_tree.specs.declared.typed.Typed.{Typed}
use Rattle.c_tree.specs.Types.{Ty}
use Rattle.c_tree.specs.Terms as tree
use Rattle.c_tree.specs.Terms.{Action, Actions, actions, with_action, Aim, Pointing, Variable, Object, Text, Routine}
use Rattle.c_tree.specs.Terms.{Program}
use Rattle.c_tree.specs.Views.{types_of, type_at, action_at, aim_of, pointing_of, object_of, text_of, variable_of}
use Rattle.c_tree.specs.Views.{routine_of, operands, values, parts, times_in, Shows, IsOrdered}
use Rattle.c_copy.specs.Copying.{actions_in}
use Rattle.written_programs.specs.Writable.{Every, IsWholeRoutine, AreWholeActions, action_types, all_action_types}
use Rattle.written_programs.specs.Writable.{object_type, variable_type, routine_types, IsWritable}
use Rattle.written_programs.proofs.Lists.{every_at, every_split, every_both, cons_same, is_one, under_zero, under_all}
use Rattle.written_programs.proofs.Types.{Has, write_program_types}
use Rattle.written_programs.proofs.Expressions.{AreExprs, expr_uses}
use Rattle.written_programs.proofs.Statements.{AreStmts, value_uses, part_uses, write_actions}

-- ---- objects and texts

target_back : Aim → Target
target_back (tree.To_global k) = targets.Global k
target_back (tree.To_literal k) = targets.Literal k
target_back (tree.To_function k) = targets.Fun k

aim_back : (a : Aim) → aim_of (target_back a) ≡ a
unfolding target_back
aim_back (tree.To_global k) = refl
aim_back (tree.To_literal k) = refl
aim_back (tree.To_function k) = refl

abbrev link_back : Pointing → Link
link_back l = record { at = l.at; target = target_back l.aim; low = l.low; length = l.length; offset = l.offset }

links_back : (ls : List Pointing) → map pointing_of (map link_back ls) ≡ ls
links_back [] = refl
links_back (l ∷ ls) = cons_same (pointing_of (link_back l)) l (map pointing_of (map link_back ls)) ls
    (ap (λ (a : Aim).
    let z : Pointing = record { at = l.at; aim = a; low = l.low; length = l.length; offset = l.offset } in z)
    (aim_back l.aim)) (links_back ls)

abbrev text_back : Text → Literal
text_back x = record { pos = x.place; bytes = x.bytes }

texts_back : (xs : List Text) → map text_of (map text_back xs) ≡ xs
texts_back [] = refl
texts_back (x ∷ xs) = ap (λ zs. x ∷ zs) (texts_back xs)

record ObjectsIn (cs : List CType) (os : List Object) : Type 0 where
  pub globals : List GlobalDef
  pub are : map (object_of (types_of cs)) globals ≡ os
  pub here : Every (λ (g : GlobalDef). g.of < length cs) globals

object_same : (o : Object) (t : Ty) (ls : List Pointing) → t ≡ o.of → ls ≡ o.links →
    ◌≡◌ {A = Object} (record { name = o.name; place = o.place; of = t; bytes = o.bytes; links = ls }) o
object_same o t ls e f = rw (e, f) refl

write_objects : (cs : List CType) (os : List Object) → Every (Has cs) (map object_type os) → ObjectsIn cs os
write_objects cs [] h = record { globals = []; are = refl; here = tt }
write_objects cs (o ∷ os) h =
    let r = write_objects cs os h.1 in
    let g : GlobalDef = record {
      name = o.name;
      pos = o.place;
      of = h.0.number;
      bytes = o.bytes;
      links = map link_back o.links;
    } in
    record {
      globals = g ∷ r.globals;
      are = cons_same (object_of (types_of cs) g) o (map (object_of (types_of cs)) r.globals) os
          (object_same o (type_at (types_of cs) h.0.number) (map pointing_of (map link_back o.links)) h.0.is
          (links_back o.links)) r.are;
      here = (h.0.here, r.here);
    }

-- ---- functions

record VarsIn (cs : List CType) (vs : List Variable) : Type 0 where
  pub vars : List VarDef
  pub are : map (variable_of (types_of cs)) vars ≡ vs
  pub here : Every (λ (v : VarDef). v.of < length cs) vars

variable_same : (v : Variable) (t : Ty) → t ≡ v.of →
    ◌≡◌ {A = Variable} (record { name = v.name; place = v.place; of = t; simple = v.simple }) v
variable_same v t e = rw e refl

write_vars : (cs : List CType) (vs : List Variable) → Every (Has cs) (map variable_type vs) → VarsIn cs vs
write_vars cs [] h = record { vars = []; are = refl; here = tt }
write_vars cs (v ∷ vs) h =
    let r = write_vars cs vs h.1 in
    let w : VarDef = record { name = v.name; pos = v.place; of = h.0.number; simple = v.simple } in
    record {
      vars = w ∷ r.vars;
      are = cons_same (variable_of (types_of cs) w) v (map (variable_of (types_of cs)) r.vars) vs
          (variable_same v (type_at (types_of cs) h.0.number) h.0.is) r.are;
      here = (h.0.here, r.here);
    }

record FunFine (n m : ℕ) (f : FunDef) : Type 0 where
  pub typed : f.of < n
  pub body : f.body < m
  pub vars : Every (λ (v : VarDef). v.of < n) f.vars

abbrev body_of : Routine → Action
body_of r = r.body

record FunsIn (cs : List CType) (acts : List Action) (n : ℕ) (rs : List Routine) (js : List ℕ) : Type 0 where
  pub funs : List FunDef
  pub are : map (routine_of (types_of cs) acts) funs ≡ rs
  pub bodies : map (λ (f : FunDef). f.body) funs ≡ js
  pub fine : Every (FunFine (length cs) n) funs

routine_same : (r : Routine) (t : Ty) (vs : List Variable) (b : Action) → t ≡ r.of → vs ≡ r.vars → b ≡ r.body →
    ◌≡◌ {A = Routine} (record { name = r.name; place = r.place; of = t; params = r.params; vars = vs; body = b }) r
routine_same r t vs b e f g = rw (e, f, g) refl

first_same : (x y : Action) (xs ys : Actions) → with_action x xs ≡ with_action y ys → x ≡ y
first_same x y xs ys e = cc

others_same : (x y : Action) (xs ys : Actions) → with_action x xs ≡ with_action y ys → xs ≡ ys
others_same x y xs ys e = cc

write_funs : (cs : List CType) (acts : List Action) (n : ℕ) (rs : List Routine) (js : List ℕ) →
    actions (map (action_at acts) js) ≡ actions (map body_of rs) → Every (Has cs) (flat_map routine_types rs) →
    Every (λ k. k < n) js → FunsIn cs acts n rs js
write_funs cs acts n [] [] e h l = record { funs = []; are = refl; bodies = refl; fine = tt }
write_funs cs acts n [] (j ∷ js) e h l = absurd cc
write_funs cs acts n (r ∷ rs) [] e h l = absurd cc
write_funs cs acts n (r ∷ rs) (j ∷ js) e h l =
    let s = every_split (Has cs) (routine_types r) (flat_map routine_types rs) h in
    let u = every_split (Has cs) (r.of ∷ map variable_type r.vars) (action_types r.body) s.0 in
    let v = write_vars cs r.vars u.0.1 in
    let same = first_same (action_at acts j) r.body (actions (map (action_at acts) js)) (actions (map body_of rs)) e in
    let o = write_funs cs acts n rs js
    (others_same (action_at acts j) r.body (actions (map (action_at acts) js)) (actions (map body_of rs)) e) s.1 l.1 in
    let f : FunDef = record {
      name = r.name;
      pos = r.place;
      of = u.0.0.number;
      params = r.params;
      vars = v.vars;
      body = j;
    } in
    record {
      funs = f ∷ o.funs;
      are = cons_same (routine_of (types_of cs) acts f) r (map (routine_of (types_of cs) acts) o.funs) rs
          (routine_same r (type_at (types_of cs) u.0.0.number) (map (variable_of (types_of cs)) v.vars)
          (action_at acts j) u.0.0.is v.are same) o.are;
      bodies = ap (λ ks. j ∷ ks) o.bodies;
      fine = (record { typed = u.0.0.here; body = l.0; vars = v.here }, o.fine);
    }

bodies_whole : (rs : List Routine) → Every IsWholeRoutine rs →
    AreWholeActions (actions (map body_of rs))
bodies_whole [] h = tt
bodies_whole (r ∷ rs) h = (h.0, bodies_whole rs h.1)

body_types : (cs : List CType) (rs : List Routine) → Every (Has cs) (flat_map routine_types rs) →
    Every (Has cs) (all_action_types (actions (map body_of rs)))
body_types cs [] h = tt
body_types cs (r ∷ rs) h =
    let s = every_split (Has cs) (routine_types r) (flat_map routine_types rs) h in
    let u = every_split (Has cs) (r.of ∷ map variable_type r.vars) (action_types r.body) s.0 in
    every_both (Has cs) (action_types r.body) (all_action_types (actions (map body_of rs))) u.1 (body_types cs rs s.1)

-- ---- the program

no_exprs : (n : ℕ) → AreExprs n []
no_exprs n k e g = absurd (none-some e g)

no_stmts : (n : ℕ) → AreStmts n []
no_stmts n k s g = absurd (none-some s g)

pub written : (q : Program) → IsWritable q → (p : Typed) × Shows p q × IsOrdered p
written q w =
    let t = write_program_types q.tags (map object_type q.objects ++ flat_map routine_types q.routines) w.tags in
    let cs : List CType = t.types in
    let s = every_split (Has cs) (map object_type q.objects) (flat_map routine_types q.routines) t.has in
    let o = write_objects cs q.objects s.0 in
    let b = write_actions cs (actions (map body_of q.routines)) [] [] (no_exprs (length cs)) (no_stmts 0)
    (bodies_whole q.routines w.bodies) (body_types cs q.routines s.1) in
    let acts : List Action = actions_in (types_of cs) b.exprs b.new in
    let are : actions (map (action_at acts) b.numbers) ≡ actions (map body_of q.routines) =
    ap (λ zs. actions (map (action_at (actions_in (types_of cs) zs b.new)) b.numbers)) (sym (append-nil b.exprs))
    ∙ ap (λ zs. actions (map (action_at (actions_in (types_of cs) (b.exprs ++ []) zs)) b.numbers))
    (sym (append-nil b.new))
    ∙ b.are [] [] in
    let f = write_funs cs acts (length b.new) q.routines b.numbers are s.1 b.here in
    let p : Typed = record {
      types = cs;
      globals = o.globals;
      literals = map text_back q.texts;
      funs = f.funs;
      exprs = b.exprs;
      stmts = b.new;
      main = q.main;
    } in (
      p,
      record { tags = t.agree; objects = o.are; texts = texts_back q.texts; routines = f.are; main = refl },
      record {
        types = t.below;
        typed = λ k e g. (b.fine k e g).typed;
        operands_before = λ k j a e g i. every_at (λ a. a < k) (operands e.kind) (b.fine k e g).before j a i;
        values_there = λ k j a x g i.
            every_at (λ a. a < length b.exprs) (values x.kind) (b.stand k x g).there j a i;
        parts_before = λ k j a x g i. every_at (λ a. a < k) (parts x.kind) (b.stand k x g).before j a i;
        globals = every_at (λ (g : GlobalDef). g.of < length cs) o.globals o.here;
        funs = λ k g i. let x = every_at (FunFine (length cs) (length b.new)) f.funs f.fine k g i in (x.typed, x.body);
        vars = λ k j g v i e. every_at (λ (v : VarDef). v.of < length cs) g.vars
            (every_at (FunFine (length cs) (length b.new)) f.funs f.fine k g i).vars j v e;
        expressions_once = λ k l.
            sum_by-append (λ j. is_one j k) (expr_uses b.exprs) (value_uses b.new)
            ∙ omega (arith, b.exprs_once k, under_zero k, under_all (length b.exprs) k l);
        statements_once = λ k l.
            ap (λ ks. times_in k (part_uses b.new ++ ks)) f.bodies
            ∙ sum_by-append (λ j. is_one j k) (part_uses b.new) b.numbers
            ∙ omega (arith, b.stmts_once k, under_zero k, under_all (length b.new) k l);
      },
    )
