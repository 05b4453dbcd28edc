-- The state whose program is the one that is run in place of a state's own.
use Rattle.std.specs.Prelude.{[], map, option_map, not}
use Rattle.ck_base.specs.declared.tokens.TokenKind.TheVariants.{Word}
use Rattle.ck_base.specs.Tokens.{Lexeme}
use Rattle.c_tree.specs.Terms.{Variable, Routine}
use Rattle.c_tree.specs.Scopes.{StaticState, LocalState, RoutineState, Body, State}
use Rattle.c_tree.specs.Programs.{variable_of}
use Rattle.c_tree.specs.Passed.{Names, passed, passed_routine}
use Rattle.typing_laws.proofs.PassingTypes.{passed_records}

-- the local that is a variable of the program
abbrev pub as_local : Variable → LocalState
as_local v = (let t : Lexeme = record { kind = Word; text = []; span = v.name; pos = v.place } in
    record { name = t; of = v.of; addressed = not v.simple })

abbrev pub passed_static : StaticState → StaticState
passed_static g = record g { of = passed g.of }

-- a function with its body, whose names have the numbers of the state
abbrev pub written : RoutineState → Body → Routine
written f b = record {
  name = f.name.span;
  place = f.name.pos;
  of = f.of;
  params = b.params;
  vars = map variable_of b.vars;
  body = b.action;
}

abbrev pub passed_whole : Names → RoutineState → Body → Body
passed_whole names f b = (let r = passed_routine names (written f b) in
    record { params = r.params; vars = map as_local r.vars; action = r.body })

abbrev pub passed_function : Names → RoutineState → RoutineState
passed_function names f = record f { of = passed f.of; body = option_map (passed_whole names f) f.body }

abbrev pub passed_state : Names → State → State
passed_state names s = record {
  scopes = [];
  tags = passed_records s.tags;
  statics = map passed_static s.statics;
  routines = map (passed_function names) s.routines;
  texts = s.texts;
  locals = [];
  pending = s.pending;
}
