-- What a work shows of the objects and functions of its state.
use Rattle.std.proofs.Common.{◌≡◌, ℕ, length, Option, Some, None, refl, sym, ap, ◌∙◌}
use Rattle.std.specs.Prelude.{slice_get}
use Rattle.std.proofs.lemmas.Option.{get_or_from_slice_get, same_Some}
use Rattle.c_tree.specs.declared.typed.GlobalDef.{GlobalDef}
use Rattle.c_tree.specs.declared.typed.FunDef.{FunDef}
use Rattle.c_tree.specs.Types.{Void}
use Rattle.c_tree.specs.Scopes.{Body, StaticState, RoutineState, State}
use Rattle.c_tree.specs.Views.{types_of, actions_of}
use Rattle.c_tree.specs.Programs.{is_there}
use Rattle.c_types.specs.Stands.{Declared, named, global_kept, static_seen, fun_kept, routine_seen, text_at}
use Rattle.c_types.proofs.Looking.{seen_at, seen_length}
use Rattle.c_expressions.specs.Nodes.{type_in}
use Rattle.c_elaborator.specs.declared.work.Definition.{Definition}
use Rattle.c_elaborator.specs.declared.work.Work.{Work}
use Rattle.c_elaborator.specs.Work.{Shows, Seen, option_seen, body_seen, seen_of, definition_of}

pub statics_count : (w : Work) (s : State) → Shows w s → length w.nodes.p.globals ≡ length s.statics
statics_count w s h = seen_length (global_kept w.nodes.scopes.file.now (types_of w.nodes.p.types)) static_seen
    w.nodes.p.globals s.statics h.stands.globals

pub routines_count : (w : Work) (s : State) → Shows w s → length w.nodes.p.funs ≡ length s.routines
routines_count w s h = seen_length (fun_kept w.nodes.scopes.file.now (types_of w.nodes.p.types)) routine_seen
    w.nodes.p.funs s.routines h.stands.routines

same_items : {A : Type 0} (o : Option A) (x y : A) → o ≡ Some x → o ≡ Some y → x ≡ y
same_items o x y e f = same_Some x y (sym e ∙ f)

pub record IsStatic (w : Work) (d : GlobalDef) (g : StaticState) : Type 0 where
  pub of : type_in w.nodes d.of ≡ g.of
  pub place : d.pos ≡ g.name.pos
  pub name : d.name ≡ g.name.span

pub static_is : (w : Work) (s : State) (k : ℕ) (d : GlobalDef) (g : StaticState) → Shows w s →
    slice_get w.nodes.p.globals k ≡ Some d → slice_get s.statics k ≡ Some g → IsStatic w d g
static_is w s k d g h e f =
    let ts = types_of w.nodes.p.types in
    let t = seen_at (global_kept w.nodes.scopes.file.now ts) static_seen w.nodes.p.globals s.statics k d
    h.stands.globals e in
    let i : t.0 ≡ g = same_items (slice_get s.statics k) t.0 g t.1 f in
    let q : global_kept w.nodes.scopes.file.now ts d ≡ static_seen g = t.2 ∙ ap static_seen i in
    let n : named ts d.of ≡ Some g.of = ap (λ (x : Declared). x.of) q in
    record {
      of = get_or_from_slice_get ts d.of g.of Void n;
      place = ap (λ (x : Declared). x.place) q;
      name = ap (λ (x : Declared). x.span) q;
    }

pub record IsFunction (w : Work) (d : FunDef) (f : RoutineState) : Type 0 where
  pub of : type_in w.nodes d.of ≡ f.of
  pub place : d.pos ≡ f.name.pos
  pub name : d.name ≡ f.name.span
  pub text : text_at w.nodes.scopes.file.now d.name ≡ f.name.text

pub function_is : (w : Work) (s : State) (k : ℕ) (d : FunDef) (g : RoutineState) → Shows w s →
    slice_get w.nodes.p.funs k ≡ Some d → slice_get s.routines k ≡ Some g → IsFunction w d g
function_is w s k d g h e f =
    let ts = types_of w.nodes.p.types in
    let t = seen_at (fun_kept w.nodes.scopes.file.now ts) routine_seen w.nodes.p.funs s.routines k d h.stands.routines e
    in
    let i : t.0 ≡ g = same_items (slice_get s.routines k) t.0 g t.1 f in
    let q : fun_kept w.nodes.scopes.file.now ts d ≡ routine_seen g = t.2 ∙ ap routine_seen i in
    let n : named ts d.of ≡ Some g.of = ap (λ (x : Declared). x.of) q in
    record {
      of = get_or_from_slice_get ts d.of g.of Void n;
      place = ap (λ (x : Declared). x.place) q;
      name = ap (λ (x : Declared). x.span) q;
      text = ap (λ (x : Declared). x.text) q;
    }

there_seen : (o : Option Body) (d : Option Definition) (f : Definition → Seen) →
    option_seen body_seen o ≡ option_seen f d → is_there o ≡ is_there d
there_seen None None f e = refl
there_seen None (Some d) f e = absurd cc
there_seen (Some b) None f e = absurd cc
there_seen (Some b) (Some d) f e = refl

-- a function is defined where a definition of it was met
pub body_there : (w : Work) (s : State) (k : ℕ) (f : RoutineState) → Shows w s → slice_get s.routines k ≡ Some f →
    is_there f.body ≡ is_there (definition_of k w.definitions.items)
body_there w s k f h e = there_seen f.body (definition_of k w.definitions.items)
    (seen_of (types_of w.nodes.p.types) (actions_of w.nodes.p)) (h.definitions k f e)
