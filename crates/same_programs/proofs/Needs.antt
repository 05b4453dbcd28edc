-- Programs that stand for one program ask the same of their map, and begin with the same pointers and bytes.
use Rattle.std.proofs.Common.{◌≡◌, ℕ, suc, ◌+◌, ◌<◌, ◌≤◌, Bool, true, false, List, [], ◌∷◌, ◌++◌, length, map}
use Rattle.std.proofs.Common.{Option, Some, None, refl, sym, ap, subst, ◌∙◌, arith}
use Rattle.std.specs.Prelude.{slice_get, slice_index, option_map}
use Rattle.std.specs.List.{All, filter, zip, flat_map}
use Rattle.std.proofs.lemmas.Option.{none-some, same_Some, slice_get-map}
use Rattle.cap_ops.specs.Permissions.{data_permissions}
use Rattle.c_tree.specs.declared.typed.FunDef.{FunDef}
use Rattle.c_tree.specs.declared.typed.GlobalDef.{GlobalDef}
use Rattle.c_tree.specs.declared.typed.Link.{Link}
use Rattle.c_tree.specs.declared.typed.Literal.{Literal}
use Rattle.c_tree.specs.declared.typed.Target.{Target}
use Rattle.c_tree.specs.declared.typed.Target.TheVariants as targets
use Rattle.c_tree.specs.declared.typed.Typed.{Typed}
use Rattle.c_tree.specs.declared.typed.VarDef.{VarDef}
use Rattle.c_tree.specs.Types.{Ty}
use Rattle.c_tree.specs.Terms.{Object, Text, Routine, Program}
use Rattle.c_tree.specs.TreeWeight.{function_weight, routine_weight}
use Rattle.c_tree.specs.Views.{types_of, actions_of, aim_of, pointing_of, object_of, text_of, variable_of}
use Rattle.c_tree.specs.Views.{routine_of, Shows, IsOrdered}
use Rattle.obj_mem.specs.declared.map.Map.{Map}
use Rattle.obj_mem.specs.Legal.{ObjectNeed, FunctionNeed, Needs}
use Rattle.obj_mem.specs.Needs.{need_by, global_need, literal_need, local_need, is_object, function_needs}
use Rattle.obj_mem.specs.Needs.{weight_in, weight_by}
use Rattle.obj_mem.specs.Table.{start_at, table_starts}
use Rattle.cap_reloc.specs.Begins.{asked_by, entries_from, link_begun, links_begun, beginning}
use Rattle.cap_reloc.specs.Initial.{lowest, highest, BeginsAs, IsOff, ObjectsBegin}
use Rattle.cap_concentrate.specs.Rounding.{rounded_up}
use Rattle.obj_mem.specs.Legal.{objects_of, owned_of}
use Rattle.same_programs.specs.Needs.{tree_global, tree_local, tree_literal, is_tree_object, routine_need}
use Rattle.same_programs.specs.Needs.{tree_needs, tree_start, pointing_begun, pointings_begun, tree_beginning}
use Rattle.same_programs.proofs.Types.{extent_same}
use Rattle.same_programs.proofs.Offsets.{const_is}

-- ---- lists

pub mapped_length : {A B : Type 0} (f : A → B) (xs : List A) → length (map f xs) ≡ length xs
mapped_length f [] = refl
mapped_length f (x ∷ xs) = omega (arith, mapped_length f xs)

pub map_over : {A B C : Type 0} (f : A → C) (g : B → C) (h : A → B) (xs : List A) →
    ((k : ℕ) (x : A) → slice_get xs k ≡ Some x → f x ≡ g (h x)) → map f xs ≡ map g (map h xs)
map_over f g h [] e = refl
map_over f g h (x ∷ xs) e =
    let a = e 0 x refl in
    let b = map_over f g h xs (λ k. e (suc k)) in
    cc

-- ---- needs

module _ (p : Typed) (o : IsOrdered p) (q : Program) (s : Shows p q) (d : ℕ) (deep : length p.types ≤ d) where
  abbrev ts : List Ty
  ts = types_of p.types

  global_same : (g : GlobalDef) → g.of < length p.types → global_need p.types g ≡ tree_global d q.tags (object_of ts g)
  global_same g lt =
      let x = extent_same p o q s d deep g.of lt in
      let c = const_is p o g.of lt in
      rw (x, c) refl

  locals_same : (vs : List VarDef) → ((j : ℕ) (v : VarDef) → slice_get vs j ≡ Some v → v.of < length p.types) →
      map (local_need p.types) (filter is_object vs)
      ≡ map (tree_local d q.tags) (filter is_tree_object (map (variable_of ts) vs))
  locals_same [] h = refl
  locals_same (v ∷ vs) h = by (locals_same vs (λ j. h (suc j))) v.simple refl
    where
      by : map (local_need p.types) (filter is_object vs)
          ≡ map (tree_local d q.tags) (filter is_tree_object (map (variable_of ts) vs)) →
          (b : Bool) → v.simple ≡ b → map (local_need p.types) (filter is_object (v ∷ vs))
          ≡ map (tree_local d q.tags) (filter is_tree_object (map (variable_of ts) (v ∷ vs)))
      by rest true e = rw e rest
      by rest false e =
          let x = ap (λ y. need_by y data_permissions) (extent_same p o q s d deep v.of (h 0 v refl)) in
          rw e (ap (λ n. n ∷ map (local_need p.types) (filter is_object vs)) x
          ∙ ap (λ ns. tree_local d q.tags (variable_of ts v) ∷ ns) rest)

  abbrev routine : FunDef → Routine
  routine f = routine_of ts (actions_of p) f

  weighs : (f : FunDef) → function_weight p f ≡ routine_weight (routine f)
  weighs f = omega (arith, mapped_length (variable_of ts) f.vars)

  functions_same : (weight : ℕ → ℕ) (n : ℕ) (fs : List FunDef) →
      ((k : ℕ) (f : FunDef) → slice_get fs k ≡ Some f → weight (n + k) ≡ function_weight p f) →
      ((k j : ℕ) (f : FunDef) (v : VarDef) → slice_get fs k ≡ Some f → slice_get f.vars j ≡ Some v →
      v.of < length p.types) → function_needs p.types weight n fs ≡ map (routine_need d q.tags) (map routine fs)
  functions_same weight n [] w h = refl
  functions_same weight n (f ∷ fs) w h =
      let z : n + 0 ≡ n = omega arith in
      let here : weight n ≡ routine_weight (routine f) =
      subst (λ m. weight m ≡ function_weight p f) z (w 0 f refl) ∙ weighs f in
      let locals = locals_same f.vars (λ j v e. h 0 j f v refl e) in
      let rest = functions_same weight (suc n) fs
      (λ k g e. let y : suc n + k ≡ n + suc k = omega arith in rw y (w (suc k) g e)) (λ k. h (suc k)) in
      let made : List ObjectNeed → ℕ → FunctionNeed = λ ls m. record { locals = ls; weight = m } in
      ap (λ ls. made ls (weight n) ∷ function_needs p.types weight (suc n) fs) locals
      ∙ ap (λ m. made (map (tree_local d q.tags) (filter is_tree_object (map (variable_of ts) f.vars))) m
      ∷ function_needs p.types weight (suc n) fs) here
      ∙ ap (λ ns. routine_need d q.tags (routine f) ∷ ns) rest

  pub needs_are : asked_by p ≡ tree_needs d q
  needs_are =
      let made : List ObjectNeed → List ObjectNeed → List FunctionNeed → Needs =
      λ gs ls fs. record { globals = gs; literals = ls; functions = fs } in
      let gs = map_over (global_need p.types) (tree_global d q.tags) (object_of ts) p.globals
      (λ k g e. global_same g (o.globals k g e)) ∙ ap (map (tree_global d q.tags)) s.objects in
      let ls = map_over literal_need tree_literal text_of p.literals (λ k l e. refl) ∙ ap (map tree_literal) s.texts in
      let weighed : (k : ℕ) (f : FunDef) → slice_get p.funs k ≡ Some f → weight_in p (0 + k) ≡ function_weight p f =
      λ k f e. let z : 0 + k ≡ k = omega arith in rw z (ap (weight_by p) e) in
      let fs = functions_same (weight_in p) 0 p.funs weighed o.vars
      ∙ ap (map (routine_need d q.tags)) s.routines in
      ap (λ x. made x (map literal_need p.literals) (function_needs p.types (weight_in p) 0 p.funs)) gs
      ∙ ap (λ x. made (map (tree_global d q.tags) q.objects) x (function_needs p.types (weight_in p) 0 p.funs)) ls
      ∙ ap (λ x. made (map (tree_global d q.tags) q.objects) (map tree_literal q.texts) x) fs

  -- ---- pointers

  link_same : (n : Needs) (base : ℕ) (l : Link) → link_begun n base l ≡ pointing_begun n base (pointing_of l)
  link_same n base l = ap (λ x. record { place = base + l.at; start = x }) (by l.target)
    where
      by : (t : Target) → start_at n l t ≡ tree_start n (pointing_of l) (aim_of t)
      by (targets.Global g) = refl
      by (targets.Literal k) = refl
      by (targets.Fun f) = refl

  begun_same : (n : Needs) (gs : List GlobalDef) (bases : List ℕ) →
      flat_map (links_begun n) (zip gs bases) ≡ flat_map (pointings_begun n) (zip (map (object_of ts) gs) bases)
  begun_same n [] bases = refl
  begun_same n (g ∷ gs) [] = refl
  begun_same n (g ∷ gs) (b ∷ bases) =
      let a = map_over (link_begun n b) (pointing_begun n b) pointing_of g.links (λ k l e. link_same n b l) in
      let r = begun_same n gs bases in
      ap (λ x. x ++ flat_map (links_begun n) (zip gs bases)) a
      ∙ ap (λ x. pointings_begun n (object_of ts g, b) ++ x) r

  pub beginning_is : (m : Map) → beginning p m ≡ tree_beginning d q m
  beginning_is m =
      ap (λ n. entries_from m.table.0 (table_starts n) ++ flat_map (links_begun n) (zip p.globals m.globals)) needs_are
      ∙ ap (λ x. entries_from m.table.0 (table_starts (tree_needs d q)) ++ x)
      (begun_same (tree_needs d q) p.globals m.globals
      ∙ ap (λ gs. flat_map (pointings_begun (tree_needs d q)) (zip gs m.globals)) s.objects)

-- ---- two programs

module _ (p p' : Typed) (o : IsOrdered p) (o' : IsOrdered p') (q : Program) (s : Shows p q) (s' : Shows p' q) where
  abbrev both : ℕ
  both = length p.types + length p'.types

  first : length p.types ≤ both
  first = omega arith

  second : length p'.types ≤ both
  second = omega arith

  pub needs_same : asked_by p ≡ asked_by p'
  needs_same = needs_are p o q s both first ∙ sym (needs_are p' o' q s' both second)

  pub beginning_same : (m : Map) → beginning p m ≡ beginning p' m
  beginning_same m = beginning_is p o q s both first m ∙ sym (beginning_is p' o' q s' both second m)

  -- a global of the one is one of the other's, which asks for the same and has the same bytes
  record IsGlobal (k : ℕ) (g : GlobalDef) : Type 0 where
    other : GlobalDef
    there : slice_get p.globals k ≡ Some other
    need : global_need p.types other ≡ global_need p'.types g
    bytes : other.bytes ≡ g.bytes

  global_there : (k : ℕ) (g : GlobalDef) → slice_get p'.globals k ≡ Some g → IsGlobal k g
  global_there k g e = by (slice_get p.globals k) refl
    where
      seen : option_map (object_of (types_of p.types)) (slice_get p.globals k) ≡ Some (object_of (types_of p'.types) g)
      seen = sym (slice_get-map (object_of (types_of p.types)) p.globals k)
          ∙ ap (λ xs. slice_get xs k) (s.objects ∙ sym s'.objects)
          ∙ slice_get-map (object_of (types_of p'.types)) p'.globals k
          ∙ ap (option_map (object_of (types_of p'.types))) e

      by : (r : Option GlobalDef) → slice_get p.globals k ≡ r → IsGlobal k g
      by None h = absurd (none-some _ (sym (ap (option_map (object_of (types_of p.types))) h) ∙ seen))
      by (Some x) h =
          let same : object_of (types_of p.types) x ≡ object_of (types_of p'.types) g =
          same_Some _ _ (sym (ap (option_map (object_of (types_of p.types))) h) ∙ seen) in
          record {
            other = x;
            there = h;
            need = global_same p o q s both first x (o.globals k x h) ∙ ap (tree_global both q.tags) same
                ∙ sym (global_same p' o' q s' both second g (o'.globals k g e));
            bytes = ap (λ (v : Object). v.bytes) same;
          }

  record IsText (k : ℕ) (l : Literal) : Type 0 where
    other : Literal
    there : slice_get p.literals k ≡ Some other
    bytes : other.bytes ≡ l.bytes

  text_there : (k : ℕ) (l : Literal) → slice_get p'.literals k ≡ Some l → IsText k l
  text_there k l e = by (slice_get p.literals k) refl
    where
      seen : option_map text_of (slice_get p.literals k) ≡ Some (text_of l)
      seen = sym (slice_get-map text_of p.literals k) ∙ ap (λ xs. slice_get xs k) (s.texts ∙ sym s'.texts)
          ∙ slice_get-map text_of p'.literals k ∙ ap (option_map text_of) e

      by : (r : Option Literal) → slice_get p.literals k ≡ r → IsText k l
      by None h = absurd (none-some _ (sym (ap (option_map text_of) h) ∙ seen))
      by (Some x) h =
          let same : text_of x ≡ text_of l = same_Some _ _ (sym (ap (option_map text_of) h) ∙ seen) in
          record { other = x; there = h; bytes = ap (λ (v : Text). v.bytes) same }

  pub begin_same : (m : Map) (base : ℕ) (all : List ℕ) → ObjectsBegin p m base all → ObjectsBegin p' m base all
  begin_same m base all h = record {
    from = subst (λ n. base ≡ lowest m.table.0 (objects_of n m)) needs_same h.from;
    to = subst (λ n. base + length all ≡ rounded_up (highest (m.table.0 + m.table.1) (objects_of n m)) 16)
        needs_same h.to;
    globals = λ k g e.
        let x = global_there k g e in
        subst (λ n. BeginsAs base all (slice_index m.globals k) (owned_of n) g.bytes) x.need
        (subst (BeginsAs base all (slice_index m.globals k) (owned_of (global_need p.types x.other))) x.bytes
        (h.globals k x.other x.there));
    literals = λ k l e.
        let x = text_there k l e in
        subst (λ b. BeginsAs base all (slice_index m.literals k) (owned_of (literal_need (record l { bytes = b }))) b)
        x.bytes (h.literals k x.other x.there);
    table = h.table;
    between = λ k lt off.
        h.between k lt (subst (λ n. All (IsOff (base + k)) (m.table ∷ objects_of n m)) (sym needs_same) off);
  }
