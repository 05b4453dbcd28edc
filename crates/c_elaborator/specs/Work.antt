-- What elaboration has built so far stands for: the state of the typing of a file.
use Rattle.std.specs.Prelude.{◌≡◌, ℕ, ◌<◌, Bool, false, ◌==◌, if◌then◌else◌, List, [], ◌∷◌, length, map, fold, Option}
use Rattle.std.specs.Prelude.{Some, None, slice_get}
use Rattle.std.specs.List.{list_any}
use Rattle.ck_base.specs.declared.positions.Pos.{Pos}
use Rattle.c_tree.specs.Types.{Ty}
use Rattle.c_tree.specs.Terms.{Action, Variable}
use Rattle.c_tree.specs.Scopes.{Reach, All, Within, Aiming, StaticState, LocalState, Body, RoutineState, Pending, State}
use Rattle.c_tree.specs.Programs as programs
use Rattle.c_tree.specs.declared.typed.Stmt.{Stmt}
use Rattle.c_tree.specs.declared.typed.VarDef.{VarDef}
use Rattle.c_tree.specs.Views.{types_of, text_of, aim_of, action_at, actions_of, values}
use Rattle.c_tree.specs.Views as views
use Rattle.c_types.specs.Stands.{Stands}
pub use Rattle.c_operand_rules.specs.Members.{MembersAreSpelled}
use Rattle.c_elaborator.specs.declared.work.Used.{Used}
use Rattle.c_elaborator.specs.declared.work.Used.TheVariants as used
use Rattle.c_elaborator.specs.declared.work.Use.{Use}
use Rattle.c_elaborator.specs.declared.work.Bounds.{Bounds}
use Rattle.c_elaborator.specs.declared.work.Bounds.TheVariants as bounds
use Rattle.c_elaborator.specs.declared.work.Start.{Start}
use Rattle.c_elaborator.specs.declared.work.Filling.{Filling}
use Rattle.c_elaborator.specs.declared.work.Definition.{Definition}
use Rattle.c_elaborator.specs.declared.work.Waiting.{Waiting}
use Rattle.c_elaborator.specs.declared.work.Work.{Work}

-- ---- uses

abbrev pub is_object : ℕ → Used → Bool
is_object k (used.Object j) = j == k
is_object k (used.Function j) = false

abbrev pub is_function : ℕ → Used → Bool
is_function k (used.Object j) = false
is_function k (used.Function j) = j == k

-- the place of the first use of this kind
abbrev pub first_place : (Used → Bool) → List Use → Option Pos
first_place test [] = None
first_place test (u ∷ us) = (if test u.what then Some u.pos else first_place test us)

abbrev pub is_among : ℕ → List ℕ → Bool
is_among k ks = list_any (λ j. j == k) ks

-- ---- initial values

abbrev pub reach_of : Bounds → Reach
reach_of bounds.Whole = All
reach_of (bounds.Part low length) = Within low length

abbrev pub aiming_of : Start → Aiming
aiming_of a = record { at = a.at; aim = aim_of a.target; reach = reach_of a.bounds; offset = a.offset }

-- the initial value of the object with a number, if it has been given one: the last that it was given
abbrev pub filling_of : ℕ → List Filling → Option (List ℕ × List Aiming)
filling_of k fs = fold (λ o (f : Filling). if f.object == k then Some (f.bytes.items, map aiming_of f.starts.items)
    else o) None fs

-- ---- functions

-- what a definition gives, as far as it is seen in the program
pub record Seen : Type 0 where
  pub params : List ℕ
  pub vars : List Variable
  pub body : Action

abbrev pub seen_of : List Ty → List Action → Definition → Seen
seen_of ts xs d = record {
  params = d.params.items;
  vars = map (views.variable_of ts) d.vars.items;
  body = action_at xs d.body;
}

-- the definition of the function with a number, if it has been given one: the last that it was given
abbrev pub definition_of : ℕ → List Definition → Option Definition
definition_of k ds = fold (λ o (d : Definition). if d.function == k then Some d else o) None ds

abbrev pub body_seen : Body → Seen
body_seen b = record { params = b.params; vars = map programs.variable_of b.vars; body = b.action }

-- ---- the end of the file

abbrev pub pending_of : Waiting → Pending
pending_of x = record { place = x.pos; static = x.object; least = x.least }

-- ---- all of it

abbrev pub option_seen : {A B : Type 0} → (A → B) → Option A → Option B
option_seen f None = None
option_seen f (Some a) = Some (f a)

abbrev pub UseIsThere : ℕ → ℕ → Used → Type 0
UseIsThere objects functions (used.Object k) = k < objects
UseIsThere objects functions (used.Function k) = k < functions

-- numbers name what is there
pub record DefinitionIsThere (w : Work) (s : State) (d : Definition) : Type 0 where
  pub function : d.function < length s.routines
  pub body : d.body < length w.nodes.p.stmts
  pub vars : (k : ℕ) (v : VarDef) → slice_get d.vars.items k ≡ Some v → v.of < length w.nodes.p.types

-- the expressions that statements name are there
abbrev pub ValuesAreThere : Work → Type 0
ValuesAreThere w = (k : ℕ) (x : Stmt) → slice_get w.nodes.p.stmts k ≡ Some x → (j a : ℕ) →
    slice_get (values x.kind) j ≡ Some a → a < length w.nodes.p.exprs

pub record IsClosed (w : Work) (s : State) : Type 0 where
  pub file : w.nodes.scopes.file.now ≡ w.file.now
  pub members : MembersAreSpelled w.file.now s
  pub values : ValuesAreThere w
  pub uses : (k : ℕ) (u : Use) → slice_get w.uses.items k ≡ Some u →
      UseIsThere (length s.statics) (length s.routines) u.what
  pub addressed : (k j : ℕ) → slice_get w.addressed.items k ≡ Some j → j < length s.locals
  pub fillings : (k : ℕ) (f : Filling) → slice_get w.fillings.items k ≡ Some f → f.object < length s.statics
  pub definitions : (k : ℕ) (d : Definition) → slice_get w.definitions.items k ≡ Some d → DefinitionIsThere w s d

-- The work stands for the state
pub record Shows (w : Work) (s : State) : Type 0 where
  pub stands : Stands w.nodes.scopes w.nodes.p s
  pub texts : map text_of w.nodes.p.literals ≡ s.texts
  pub used_objects : (k : ℕ) (g : StaticState) → slice_get s.statics k ≡ Some g →
      g.used ≡ first_place (is_object k) w.uses.items
  pub used_functions : (k : ℕ) (f : RoutineState) → slice_get s.routines k ≡ Some f →
      f.used ≡ first_place (is_function k) w.uses.items
  pub addressed : (k : ℕ) (v : LocalState) → slice_get s.locals k ≡ Some v → v.addressed ≡ is_among k w.addressed.items
  pub fillings : (k : ℕ) (g : StaticState) → slice_get s.statics k ≡ Some g → g.initial ≡ filling_of k w.fillings.items
  pub definitions :
      (k : ℕ) (f : RoutineState) → slice_get s.routines k ≡ Some f →
      option_seen body_seen f.body ≡ option_seen (seen_of (types_of w.nodes.p.types) (actions_of w.nodes.p))
      (definition_of k w.definitions.items)
  pub waiting : map pending_of w.waiting.items ≡ s.pending
  pub closed : IsClosed w s
