-- The parameters of functions, and their bodies.
use Rattle.std.specs.Prelude.{◌≡◌, ℕ, ◌<◌, ◌+◌, ◌++◌, ◌&&◌, not, Bool, false, List, [], ◌∷◌, length, map, Option, Some}
use Rattle.std.specs.Prelude.{None, All, reverse, slice_get}
use Rattle.ck_base.specs.declared.positions.Pos.{Pos}
use Rattle.ck_base.specs.Tokens.{Lexeme}
use Rattle.c_tree.specs.declared.typed.VarDef.{VarDef}
use Rattle.c_tree.specs.Syntax.{Syn, first_token}
use Rattle.c_tree.specs.Types.{bare, is_scalar}
use Rattle.c_tree.specs.Terms.{Action, Variable, numbers_from}
use Rattle.c_tree.specs.Readings as meant
use Rattle.c_tree.specs.Scopes.{State, Body, Doing, look, leave, change, change_routine, ◌>>=◌, ◌>>◌}
use Rattle.c_tree.specs.Statements.{block_action}
use Rattle.c_tree.specs.Expressions.{routine_type}
use Rattle.c_tree.specs.Programs.{reading, body_context, define_named, parameter_name, parameter_local}
use Rattle.c_tree.specs.Programs.{first_incomplete, refused_at}
use Rattle.c_tree.specs.Views.{types_of, variable_of}
use Rattle.c_types.specs.declared.scopes.Scopes.{Scopes}
use Rattle.c_types.specs.Stands.{Stands, text_at, var_kept, local_seen}
use Rattle.c_expressions.specs.Nodes.{IsWhole, type_in, type_count}
use Rattle.c_elaborator.specs.declared.work.Name.{Name}
use Rattle.c_elaborator.specs.declared.work.Work.{Work}
use Rattle.c_elaborator.specs.Work.{Shows, is_among}
use Rattle.c_elaborator.specs.Answers.{Keeps}
use Rattle.c_elaborator.specs.Parts.{token_of}
use Rattle.c_declarators.specs.declared.parts.Param.{Param}
use Rattle.c_declarators.specs.declared.parts.Prototype.{Prototype}
use Rattle.c_declarators.specs.declared.parts.Wrap.{Wrap}
use Rattle.c_declarators.specs.declared.parts.Wrap.TheVariants.{Gives}
use Rattle.c_declarators.specs.Forming.{ParamIsThere}
use Rattle.c_declarators.specs.Parts.{param_in, IsPrototype, AreWraps, shown_in}

-- the work stands for some state
pub record HasState (w : Work) : Type 0 where
  pub state : State
  pub shows : Shows w state

-- the parameters, where the declarator itself is that of a function: what is made last stands first
abbrev pub first_prototype : List Wrap → Option Prototype
first_prototype (Gives p ∷ ws) = Some p
first_prototype ws = None

-- a declarator of this name in a state, with the scopes of its parameters
abbrev pub IsDeclarator : Work → Name → List Wrap → State → meant.Derived → Type 0
IsDeclarator w n ws s e = (e.name ≡ Some (token_of w n)) × AreWraps (shown_in w s) w (reverse ws) e.wraps

-- ---- parameters

abbrev pub parameter_token : Work → Param → Lexeme
parameter_token w p = parameter_name (param_in w p) (param_in w p).name

pub record IsParameterName (w : Work) (p : Param) (n : Name) : Type 0 where
  pub text : text_at w.file.now n.span ≡ (parameter_token w p).text
  pub span : n.span ≡ (parameter_token w p).span
  pub place : n.pos ≡ (parameter_token w p).pos

-- the variable that a parameter is
abbrev pub IsParameter : Work → Param → VarDef → Type 0
IsParameter w p v = var_kept w.file.now (types_of w.nodes.p.types) v ≡ local_seen (parameter_local (param_in w p))

-- parameters stand behind the locals
pub record AddsParameters (sc sd : Scopes) (ps : List Param) : Type 0 where
  pub file : sd.file.now ≡ sc.file.now
  pub stands : (w : Work) (s : State) → All (ParamIsThere w.nodes) ps → w.file.now ≡ sc.file.now →
      Stands sc w.nodes.p s →
      Stands sd w.nodes.p (record s { locals = s.locals ++ map (λ (p : Param). parameter_local (param_in w p)) ps })

-- the parameters are the locals, and their scope is the innermost
abbrev pub opened : meant.Prototype → State → State
opened q s = record s { locals = map parameter_local q.params; scopes = q.scope ∷ s.scopes }

pub record Opens (u v : Work) (p : Prototype) : Type 0 where
  pub whole : IsWhole v.nodes
  pub keeps : Keeps u v
  pub shows : (s : State) (q : meant.Prototype) → All (ParamIsThere u.nodes) p.params.items → Shows u s →
      IsPrototype (shown_in u s) u p q → Shows v (opened q s)

-- ---- the variables of a function

-- for each number whether it is among the others
abbrev pub AreMarked : List ℕ → List Bool → Type 0
AreMarked ks ts = (k : ℕ) (b : Bool) → slice_get ts k ≡ Some b → b ≡ is_among k ks

-- a local holds a value and is no object where it is a scalar whose address is never taken
abbrev pub variable_in : Work → ℕ → VarDef → VarDef
variable_in w k v = record v { simple = is_scalar (bare (type_in w.nodes v.of)) && not (is_among k w.addressed.items) }

abbrev pub variables_from : Work → ℕ → List VarDef → List VarDef
variables_from w k [] = []
variables_from w k (v ∷ vs) = variable_in w k v ∷ variables_from w (k + 1) vs

-- a variable with its type
abbrev pub variable_seen : Work → VarDef → Variable
variable_seen w v = variable_of (types_of w.nodes.p.types) v

abbrev pub VariableThere : Work → VarDef → Type 0
VariableThere w v = v.of < type_count w.nodes

-- ---- the end of a body

-- the locals and a statement are the function's body, and its scope is left
abbrev pub ends : ℕ → ℕ → Action → Doing Unit
ends k count x = look >>= λ s.
    let body : Body = record { params = numbers_from 0 count; vars = s.locals; action = x } in
    leave >> change (λ s. change_routine k (λ f. record f { body = Some body }) (record s { locals = [] }))

abbrev pub finishes : ℕ → ℕ → meant.Items → Pos → Doing Unit
finishes k count i p = ends k count (block_action i p)

-- the statements of a body
abbrev pub types_body : ℕ → ℕ → meant.Context → Syn → Doing Unit
types_body k count c z = (reading z).body c >>= λ i. finishes k count i (first_token z).pos

-- the parameters and the body of a function whose definition was begun
abbrev pub defines : ℕ → meant.Prototype → Syn → Doing Unit
defines k q z = look >>= λ now. change (opened q) >> look >>= λ s. refused_at 132 (first_incomplete s.tags q.params)
    >> types_body k (length q.params) (body_context (routine_type (slice_get now.routines k))) z

-- specifiers, a declarator and a block
abbrev pub defines_from : Syn → Syn → Syn → Doing Unit
defines_from x y z = (reading x).specified false >>= λ s. (reading y).derived
    >>= λ d. define_named s d d.name z (reading z)
