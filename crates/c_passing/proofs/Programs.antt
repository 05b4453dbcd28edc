-- The whole program as it is run.
use Rattle.std.proofs.Common.{◌≡◌, ℕ, ◌+◌, ◌<◌, List, [], ◌∷◌, ◌++◌, length, get_or, map, Some, refl, sym, ap, subst}
use Rattle.std.proofs.Common.{◌∙◌, ⊎_elim, arith}
use Rattle.std.specs.Prelude.{slice_get, option_map, flat_map}
use Rattle.std.proofs.lemmas.List.{append-nil, map-append}
use Rattle.std.proofs.lemmas.Option.{slice_get-map}
use Rattle.ck_base.specs.declared.positions.Pos.{Pos}
use Rattle.c_tree.specs.declared.syntax.RecordKind.TheVariants as record_kinds
use Rattle.c_tree.specs.declared.syntax.Tree.{Tree}
use Rattle.c_tree.specs.declared.typed.CType.{CType}
use Rattle.c_tree.specs.declared.typed.CType.TheVariants as ctypes
use Rattle.c_tree.specs.declared.typed.Member.{Member}
use Rattle.c_tree.specs.declared.typed.Expr.{Expr}
use Rattle.c_tree.specs.declared.typed.Stmt.{Stmt}
use Rattle.c_tree.specs.declared.typed.FunDef.{FunDef}
use Rattle.c_tree.specs.declared.typed.GlobalDef.{GlobalDef}
use Rattle.c_tree.specs.declared.typed.Typed.{Typed}
use Rattle.c_tree.specs.Syntax.{Syn, StandsAt}
use Rattle.c_tree.specs.Types.{Ty, Void}
use Rattle.c_tree.specs.Terms.{Tag, Program}
use Rattle.c_tree.specs.Views.{type_at, types_of, actions_of, routine_of, object_of, text_of, member_of, TagAgrees}
use Rattle.c_tree.specs.Views.{Shows, type_from, operands, values, parts, times_in, Below, IsOrdered}
use Rattle.c_tree.specs.Passed.{passed, passed_tag, passed_members, passed_object, passed_routine, passed_program}
use Rattle.c_tree.specs.Passed.{call_name, calls_in}
use Rattle.c_copy.specs.Copying.{actions_in}
use Rattle.c_copy.proofs.Copies.{length-grow}
use Rattle.c_copy.proofs.Items.{get-push}
use Rattle.passing_steps.specs.Types.{Types}
use Rattle.passing_steps.specs.Names as known
use Rattle.passing_steps.specs.Made.{Made}
use Rattle.c_passing.specs.declared.functions.Whole.{Whole}
use Rattle.c_passing.specs.Named.{Knows}
use Rattle.c_passing.specs.Numbered.{IsKept, IsBehind, Follows, AreRenumbered, IsWithMembers, AreListed}
use Rattle.c_passing.specs.Routines.{WholeFits, written_routine, AreFunctions, IsObject, AreObjects, IsPassedProgram}
use Rattle.c_passing.proofs.Naming.{named_by}
use Rattle.c_passing.proofs.Numbering.{types_fit}
use Rattle.passing_steps.specs.Named.{name_in}
use Rattle.passing_steps.specs.Numbered.{type_in}
use Rattle.passing_steps.specs.Ordered.{operand_uses, value_uses, Ordered, AreThere, VarsThere, TypesThere}
use Rattle.passing_steps.proofs.Ordering.{counts_append}

-- ---- objects

pub object_made : (numbers : List ℕ) (g h : GlobalDef) → get_or numbers g.of 0 ≡ h.of → h.name ≡ g.name →
    h.pos ≡ g.pos → h.bytes ≡ g.bytes → h.links ≡ g.links → IsObject numbers g h
object_made numbers g h e n p b l = record {
  is = λ types ts fits.
      let of : type_at ts h.of ≡ passed (type_at types g.of) = fits g.of h.of e in
      rw (n, p, b, l, of) refl;
  typed = λ m z. z g.of h.of e;
}

pub no_objects : (numbers : List ℕ) → AreObjects numbers [] []
no_objects numbers = record { are = λ types ts fits. refl; typed = λ n z k g e. absurd cc }

pub objects_push : (numbers : List ℕ) (gs hs after : List GlobalDef) (g h : GlobalDef) → AreObjects numbers gs hs →
    IsObject numbers g h → after ≡ hs ++ h ∷ [] → AreObjects numbers (gs ++ g ∷ []) after
objects_push numbers gs hs after g h x y e = record {
  are = λ types ts fits.
      ap (map (object_of ts)) e ∙ map-append (object_of ts) hs (h ∷ [])
      ∙ ap (λ zs. zs ++ object_of ts h ∷ []) (x.are types ts fits)
      ∙ ap (λ z. map passed_object (map (object_of types) gs) ++ z ∷ []) (y.is types ts fits)
      ∙ sym (ap (map passed_object) (map-append (object_of types) gs (g ∷ []))
      ∙ map-append passed_object (map (object_of types) gs) (object_of types g ∷ []));
  typed = λ n z k d q.
      ⊎_elim (λ a. x.typed n z k d a) (λ a. subst (λ (i : GlobalDef). i.of < n) a.1 (y.typed n z))
      (get-push hs h k d (ap (λ zs. slice_get zs k) (sym e) ∙ q));
}

-- ---- tags

with_tag : (tags : List Tag) (k : ℕ) (t : Tag) → slice_get tags k ≡ Some t →
    slice_get (map passed_tag tags) k ≡ Some (passed_tag t)
with_tag tags k t e = slice_get-map passed_tag tags k ∙ ap (option_map passed_tag) e

members_same : (numbers : List ℕ) (types ts : List Ty) (ms ns : List Member) → AreRenumbered numbers ms ns →
    ((k n : ℕ) → get_or numbers k 0 ≡ n → type_at ts n ≡ passed (type_at types k)) →
    passed_members (Some (map (member_of types) ms)) ≡ Some (map (member_of ts) ns)
members_same numbers types ts ms ns h fits = ap Some (sym (h.are types ts fits))

tag_agrees : (numbers : List ℕ) (types : List CType) (ts : List Ty) (tags : List Tag) (c d : CType) → IsKept types c →
    IsWithMembers numbers c d → ((k n : ℕ) → get_or numbers k 0 ≡ n → type_at ts n ≡ passed (type_in types k)) →
    ((j : ℕ) (x : CType) → slice_get types j ≡ Some x → TagAgrees (types_of types) tags x) →
    TagAgrees ts (map passed_tag tags) d
tag_agrees numbers types ts tags (ctypes.Struct tag ms) d (j, g) (ns, e, r) fits a =
    subst (TagAgrees ts (map passed_tag tags)) (sym e)
    (with_tag tags tag (record { kind = record_kinds.Struct; members = Some (map (member_of (types_of types)) ms) })
    (a j (ctypes.Struct tag ms) g)
    ∙ ap (λ m. Some (record { kind = record_kinds.Struct; members = m }))
    (members_same numbers (types_of types) ts ms ns r fits))
tag_agrees numbers types ts tags (ctypes.Union tag ms) d (j, g) (ns, e, r) fits a =
    subst (TagAgrees ts (map passed_tag tags)) (sym e)
    (with_tag tags tag (record { kind = record_kinds.Union; members = Some (map (member_of (types_of types)) ms) })
    (a j (ctypes.Union tag ms) g)
    ∙ ap (λ m. Some (record { kind = record_kinds.Union; members = m }))
    (members_same numbers (types_of types) ts ms ns r fits))
tag_agrees numbers types ts tags (ctypes.Incomplete tag) d (j, g) e fits a =
    let x = a j (ctypes.Incomplete tag) g in
    subst (TagAgrees ts (map passed_tag tags)) (sym e)
    (passed_tag x.0, with_tag tags tag x.0 x.1, ap passed_members x.2)
tag_agrees numbers types ts tags ctypes.Void d k e fits a = subst (TagAgrees ts (map passed_tag tags)) (sym e) tt
tag_agrees numbers types ts tags (ctypes.Int i n) d k e fits a = subst (TagAgrees ts (map passed_tag tags)) (sym e) tt
tag_agrees numbers types ts tags (ctypes.Cap s) d k e fits a = subst (TagAgrees ts (map passed_tag tags)) (sym e) tt
tag_agrees numbers types ts tags (ctypes.Pointer t) d k e fits a = subst (TagAgrees ts (map passed_tag tags)) (sym e) tt
tag_agrees numbers types ts tags (ctypes.Array t n) d k e fits a = subst (TagAgrees ts (map passed_tag tags)) (sym e) tt
tag_agrees numbers types ts tags (ctypes.Function t ps) d k e fits a =
    subst (TagAgrees ts (map passed_tag tags)) (sym e) tt
tag_agrees numbers types ts tags (ctypes.Const t) d k e fits a = subst (TagAgrees ts (map passed_tag tags)) (sym e) tt

-- ---- the program

pub record ProgramSteps (tree : Tree) (old new : Typed) (types : Types) (names : known.Names) (w : Whole)
    (first out : Made) : Type 0 where
  pub program : w.program.now ≡ old
  pub types_are : w.types.now ≡ types
  pub names_are : w.names.now ≡ names
  pub known : (x : Syn) → StandsAt tree.nodes tree.root x → Knows names (calls_in x)
  pub follows : Follows old.types types
  pub listed : AreListed types.numbers.items types.list.items new.types
  pub functions : AreFunctions w (map (written_routine w) old.funs) first out new.funs
  pub objects : AreObjects types.numbers.items old.globals new.globals
  pub literals : new.literals ≡ old.literals
  pub exprs : new.exprs ≡ out.exprs.items
  pub stmts : new.stmts ≡ out.stmts.items
  pub main : new.main ≡ old.main
  pub no_exprs : first.exprs.items ≡ []
  pub no_stmts : first.stmts.items ≡ []

shown : (tree : Tree) (old new : Typed) (types : Types) (names : known.Names) (w : Whole) (first out : Made) →
    ProgramSteps tree old new types names w first out → (x : Syn) (q : Program) → StandsAt tree.nodes tree.root x →
    Shows old q →
    Shows new (passed_program (call_name (calls_in x)) q)
unfolding passed_program
shown tree old new types names w first out h x q st sh =
    let ts = types_of new.types in
    let fit = types_fit old.types types new.types h.follows h.listed in
    let whole : WholeFits w ts = rw (h.program, h.types_are) (record { types = fit }) in
    let named : (p : Pos) → call_name (calls_in x) p ≡ name_in w.names.now p =
    λ p. named_by names (calls_in x) (h.known x st) p
    ∙ ap (λ (m : known.Names). name_in m p) (sym h.names_are) in
    record {
      tags = λ k d g.
          let y = h.listed.each k d g in
          tag_agrees types.numbers.items old.types ts q.tags y.0 d (h.follows.kept k y.0 y.1) y.2 fit.numbers sh.tags;
      objects = h.objects.are (types_of old.types) ts fit.numbers ∙ ap (map passed_object) sh.objects;
      texts = ap (map text_of) h.literals ∙ sh.texts;
      routines =
          ap (λ es. map (routine_of ts (actions_in ts es new.stmts)) new.funs)
          (h.exprs ∙ sym (append-nil out.exprs.items))
          ∙ ap (λ ss. map (routine_of ts (actions_in ts (out.exprs.items ++ []) ss)) new.funs) h.stmts
          ∙ h.functions.are ts (call_name (calls_in x)) [] whole named
          ∙ ap (λ (p : Typed). map (passed_routine (call_name (calls_in x)))
          (map (routine_of (types_of p.types) (actions_of p)) old.funs)) h.program
          ∙ ap (map (passed_routine (call_name (calls_in x)))) sh.routines;
      main = h.main ∙ sh.main;
    }

-- ---- in order

all_there : (types : List CType) (t : Types) → Follows types t → TypesThere t
all_there types t f = record {
  void = f.void.there;
  numbers = λ k n e. (f.numbers k n e).there;
  pointers = λ k n e. (f.pointers k n e).there;
}

none_ordered : (n : ℕ) → Ordered n [] [] [] []
none_ordered n = record {
  typed = λ k e g. absurd cc;
  operands = λ k j a e g q. absurd cc;
  values = λ k j a s g q. absurd cc;
  parts = λ k j a s g q. absurd cc;
  exprs_there = λ j a q. absurd cc;
  stmts_there = λ j a q. absurd cc;
  exprs_once = λ k lt. absurd (omega arith);
  stmts_once = λ k lt. absurd (omega arith);
}

type_ordered : (numbers : List ℕ) (n k : ℕ) (c d : CType) → IsBehind k c → IsWithMembers numbers c d →
    AreThere n numbers → Below n k d
type_ordered numbers n k (ctypes.Struct tag ms) d h e z = subst (Below n k) (sym e.1) (e.2.there n z)
type_ordered numbers n k (ctypes.Union tag ms) d h e z = subst (Below n k) (sym e.1) (e.2.there n z)
type_ordered numbers n k ctypes.Void d h e z = subst (Below n k) (sym e) tt
type_ordered numbers n k (ctypes.Int i m) d h e z = subst (Below n k) (sym e) tt
type_ordered numbers n k (ctypes.Cap s) d h e z = subst (Below n k) (sym e) tt
type_ordered numbers n k (ctypes.Pointer t) d h e z = subst (Below n k) (sym e) h
type_ordered numbers n k (ctypes.Array t m) d h e z = subst (Below n k) (sym e) h
type_ordered numbers n k (ctypes.Function t ps) d h e z = subst (Below n k) (sym e) h
type_ordered numbers n k (ctypes.Const t) d h e z = subst (Below n k) (sym e) h
type_ordered numbers n k (ctypes.Incomplete tag) d h e z = subst (Below n k) (sym e) tt

-- the list of types is as long as the one without the members' types
types_size : (numbers : List ℕ) (list new : List CType) → AreListed numbers list new → length list ≡ length new
types_size numbers list new h =
    let a = length-grow type_from Void list [] in
    let b = length-grow type_from Void new [] in
    let c : length (types_of new) ≡ length (types_of list) = ap length h.types in
    omega arith

ordered : (tree : Tree) (old new : Typed) (types : Types) (names : known.Names) (w : Whole) (first out : Made) →
    ProgramSteps tree old new types names w first out → IsOrdered new
ordered tree old new types names w first out h =
    let n = length new.types in
    let size : length types.list.items ≡ n = types_size types.numbers.items types.list.items new.types h.listed in
    let there = all_there old.types types h.follows in
    let whole : TypesThere w.types.now = subst TypesThere (sym h.types_are) there in
    let same : length w.types.now.list.items ≡ n = ap (λ (t : Types). length t.list.items) h.types_are ∙ size in
    let numbers : AreThere n types.numbers.items = subst (λ m. AreThere m types.numbers.items) size there.numbers in
    let bodies = map (λ (f : FunDef). f.body) new.funs in
    let none : Ordered (length w.types.now.list.items) first.exprs.items first.stmts.items [] [] =
    rw (h.no_exprs, h.no_stmts) (none_ordered (length w.types.now.list.items)) in
    let o : Ordered n new.exprs new.stmts [] bodies =
    rw (h.exprs, h.stmts, ← same, ← append-nil bodies) (h.functions.ordered whole [] [] none) in
    let typed : (k : ℕ) (f : FunDef) → slice_get new.funs k ≡ Some f → (f.of < n) × VarsThere n f.vars =
    λ k f e. subst (λ m. (f.of < m) × VarsThere m f.vars) same (h.functions.typed k f e whole) in
    record {
      types = λ k c e.
          let y = h.listed.each k c e in
          type_ordered types.numbers.items n k y.0 c (h.follows.behind k y.0 y.1) y.2 numbers;
      typed = o.typed;
      operands_before = o.operands;
      values_there = o.values;
      parts_before = o.parts;
      globals = h.objects.typed n numbers;
      funs = λ k f e.
          ((typed k f e).0, subst (λ (ss : List Stmt). f.body < length ss) (sym h.stmts) (h.functions.there k f e));
      vars = λ k j f v e g. (typed k f e).1 j v g;
      expressions_once = λ k lt.
          let all : operand_uses new.exprs k + value_uses new.stmts k + times_in k [] ≡ 1 = o.exprs_once k lt in
          counts_append k (flat_map (λ (e : Expr). operands e.kind) new.exprs)
          (flat_map (λ (s : Stmt). values s.kind) new.stmts) ∙ omega arith;
      statements_once = λ k lt. counts_append k (flat_map (λ (s : Stmt). parts s.kind) new.stmts) bodies
          ∙ o.stmts_once k lt;
    }

pub program_made : (tree : Tree) (old new : Typed) (types : Types) (names : known.Names) (w : Whole) (first out : Made)
    (fs : List FunDef) → AreFunctions w (map (written_routine w) w.program.now.funs) first out fs → new.funs ≡ fs →
    (AreFunctions w (map (written_routine w) old.funs) first out new.funs →
    ProgramSteps tree old new types names w first out) →
    w.program.now ≡ old → IsPassedProgram tree old new
program_made tree old new types names w first out fs a e h q =
    let steps = h (subst (λ (p : Typed). AreFunctions w (map (written_routine w) p.funs) first out new.funs) q
    (subst (λ zs. AreFunctions w (map (written_routine w) w.program.now.funs) first out zs) (sym e) a)) in
    record {
      shows = shown tree old new types names w first out steps;
      ordered = ordered tree old new types names w first out steps;
    }
