-- The program that is run in the place of a typed one: structs and unions go to functions and come back by pointers.
-- Each argument of such a type is copied to a hidden local of the caller, and each result to another one, before its
-- value is used.
use Rattle.std.specs.Prelude.{ℕ, zero, suc, ◌+◌, Bool, true, false, ◌&&◌, ◌==◌, nat_lt, if◌then◌else◌, List, [], ◌∷◌}
use Rattle.std.specs.Prelude.{◌++◌, length, map, flat_map, take, drop, Option, Some, None, slice_get}
use Rattle.ck_base.specs.declared.positions.Pos.{Pos}
use Rattle.ck_base.specs.declared.positions.Span.{Span}
use Rattle.ck_base.specs.Tokens.{Lexeme}
use Rattle.c_tree.specs.declared.syntax.NodeKind.TheVariants as Kinds
use Rattle.c_tree.specs.Syntax.{Syn, Syns, node, nil, more}
use Rattle.c_tree.specs.Types.{Ty, Void, Pointer, Array, Function, Const, Tys, no_types, also, bare, is_tagged}
use Rattle.c_tree.specs.Terms.{Shape, Var, Load, Deref, Address, Comma, Assign, Compound, Call, Term, term, Terms}
use Rattle.c_tree.specs.Terms.{no_terms, with_term, type_of, leaf, step, join, Form, Evaluate, Init, Block, Do, For}
use Rattle.c_tree.specs.Terms.{Switch, Return, Action, action, Actions, no_actions, with_action, Variable, Object}
use Rattle.c_tree.specs.Terms.{Routine, Tag, Program, numbers_from}

-- ---- types

-- what goes by a pointer: a struct or a union, perhaps qualified
abbrev pub by_pointer : Ty → Bool
by_pointer t = is_tagged (bare t)

-- The type of a function as it is run: a pointer stands for each struct or union that it takes, and a first parameter
-- points to where it puts the one that it gives
abbrev mutual
  pub passed : Ty → Ty
  passed (Pointer t) = Pointer (passed t)
  passed (Array t n) = Array (passed t) n
  passed (Const t) = Const (passed t)
  passed (Function r ps) = (if by_pointer r then Function Void (also (Pointer (bare r)) (all_passed ps))
      else Function (passed r) (all_passed ps))
  passed t = t

  pub all_passed : Tys → Tys
  all_passed no_types = no_types
  all_passed (also t ts) = also (if by_pointer t then Pointer (bare t) else passed t) (all_passed ts)

-- ---- hidden locals

-- the name of the call at a place: its `(`
abbrev pub Names : Type 0
Names = Pos → Span

abbrev pub hidden : Names → Pos → Ty → Variable
hidden names p t = record { name = names p; place = p; of = bare t; simple = false }

-- of a call at a place: one for a value that goes by a pointer
abbrev pub hidden_for : Names → Pos → Ty → List Variable
hidden_for names p t = (if by_pointer t then hidden names p t ∷ [] else [])

abbrev pub for_arguments : Names → Pos → Terms → List Variable
for_arguments names p no_terms = []
for_arguments names p (with_term x xs) = hidden_for names p (type_of x) ++ for_arguments names p xs

-- one for each such argument, and then one for the result
abbrev pub for_call : Names → Pos → Terms → Ty → List Variable
for_call names p xs t = for_arguments names p xs ++ hidden_for names p t

-- the hidden locals of the calls in an expression, in the order of the calls' places: what is called stands before the
-- `(`, and the arguments stand behind it
abbrev mutual
  pub hidden_in : Names → Term → List Variable
  hidden_in names (term Call (with_term f xs) t p) =
      hidden_in names f ++ for_call names p xs t ++ all_hidden_in names xs
  hidden_in names (term x xs t p) = all_hidden_in names xs

  pub all_hidden_in : Names → Terms → List Variable
  all_hidden_in names no_terms = []
  all_hidden_in names (with_term x xs) = hidden_in names x ++ all_hidden_in names xs

-- how many of a statement's parts stand before its expressions: the body of a `do`, and what begins a `for`
abbrev pub ahead : Form → ℕ
ahead Do = 1
ahead (For vars n a b) = n
ahead f = 0

-- those of a statement: of the parts before its expressions, of these, and of the parts behind them
abbrev mutual
  pub hidden_of : Names → Action → List Variable
  hidden_of names (action f xs ys p) =
      first_hidden_of names (ahead f) ys ++ all_hidden_in names xs ++ last_hidden_of names (ahead f) ys

  -- of so many statements
  pub first_hidden_of : Names → ℕ → Actions → List Variable
  first_hidden_of names (suc k) (with_action y ys) = hidden_of names y ++ first_hidden_of names k ys
  first_hidden_of names k ys = []

  -- of the others
  pub last_hidden_of : Names → ℕ → Actions → List Variable
  last_hidden_of names k no_actions = []
  last_hidden_of names (suc k) (with_action y ys) = last_hidden_of names k ys
  last_hidden_of names zero (with_action y ys) = hidden_of names y ++ last_hidden_of names zero ys

-- ---- expressions

-- the names of calls, and the number of each variable of a function among those that it has in the end
pub record Passing : Type 0 where
  pub names : Names
  pub number : ℕ → ℕ

abbrev pub passed_shape : Passing → Shape → Shape
passed_shape e (Var k) = Var (e.number k)
passed_shape e (Compound o t) = Compound o (passed t)
passed_shape e x = x

abbrev pub address_of : ℕ → Ty → Pos → Term
address_of h t p = step Address (leaf (Var h) t p) (Pointer t) p

-- an argument that goes by a pointer is assigned to a hidden local, and the argument is its address
abbrev pub by_address : ℕ → Term → Ty → Pos → Term
by_address h y t p = join Comma (join Assign (leaf (Var h) t p) y t p) (address_of h t p) (Pointer t) p

-- a call whose result comes by a pointer takes the address of a hidden local first, and the local stands for what it
-- gives
abbrev pub by_result : ℕ → Term → Terms → Ty → Pos → Term
by_result h f ys t p = join Comma (term Call (with_term f (with_term (address_of h t p) ys)) Void p)
    (leaf (Var h) t p) t p

abbrev pub call_with : ℕ → Term → Terms → Ty → Pos → Term
call_with h f ys t p = (if by_pointer t then by_result h f ys (bare t) p else term Call (with_term f ys) (passed t) p)

-- An expression whose hidden locals are numbered from here on
abbrev mutual
  pub passed_term : Passing → ℕ → Term → Term
  passed_term e n (term Call (with_term f xs) t p) =
      let own = n + length (hidden_in e.names f) in
      let inner = own + length (for_call e.names p xs t) in
      call_with (own + length (for_arguments e.names p xs)) (passed_term e n f) (passed_arguments e own inner xs p) t p
  passed_term e n (term x xs t p) = term (passed_shape e x) (passed_terms e n xs) (passed t) p

  pub passed_terms : Passing → ℕ → Terms → Terms
  passed_terms e n no_terms = no_terms
  passed_terms e n (with_term x xs) =
      with_term (passed_term e n x) (passed_terms e (n + length (hidden_in e.names x)) xs)

  -- the arguments of a call at a place: the call's own hidden locals, and those of the calls in the arguments
  pub passed_arguments : Passing → (own n : ℕ) → Terms → Pos → Terms
  passed_arguments e own n no_terms p = no_terms
  passed_arguments e own n (with_term x xs) p =
      let y = passed_term e n x in
      with_term (if by_pointer (type_of x) then by_address own y (bare (type_of x)) p else y)
      (passed_arguments e (own + length (hidden_for e.names p (type_of x))) (n + length (hidden_in e.names x)) xs p)

-- ---- statements

abbrev pub passed_form : Passing → Form → Form
passed_form e (Init k offset) = Init (e.number k) offset
passed_form e (Block vars) = Block (map e.number vars)
passed_form e (For vars n a b) = For (map e.number vars) n a b
passed_form e (Switch vars labels) = Switch (map e.number vars) labels
passed_form e f = f

-- what variable k points to
abbrev pub behind : ℕ → Ty → Pos → Term
behind k t p = step Deref (step Load (leaf (Var k) (Pointer t) p) (Pointer t) p) t p

abbrev pub one_term : Term → Terms
one_term x = with_term x no_terms

-- `return` of a struct or union: it is put where the first parameter points to
abbrev pub given_back : Term → Ty → Pos → Action
given_back y t p =
    action (Block []) no_terms
    (with_action (action Evaluate (one_term (join Assign (behind 0 t p) y t p)) no_actions p)
    (with_action (action Return no_terms no_actions p) no_actions)) p

-- A statement whose hidden locals are numbered from here on
abbrev mutual
  pub passed_action : Passing → ℕ → Action → Action
  passed_action e n (action Return (with_term x no_terms) no_actions p) =
      let y = passed_term e n x in
      (if by_pointer (type_of x) then given_back y (bare (type_of x)) p else action Return (one_term y) no_actions p)
  passed_action e n (action f xs ys p) =
      action (passed_form e f) (passed_terms e (n + length (first_hidden_of e.names (ahead f) ys)) xs)
      (passed_actions e n (ahead f) (length (all_hidden_in e.names xs)) ys) p

  -- statements, where behind the first so many stand expressions with so many hidden locals
  pub passed_actions : Passing → ℕ → (first between : ℕ) → Actions → Actions
  passed_actions e n k m no_actions = no_actions
  passed_actions e n (suc k) m (with_action y ys) =
      with_action (passed_action e n y) (passed_actions e (n + length (hidden_of e.names y)) k m ys)
  passed_actions e n zero m (with_action y ys) =
      with_action (passed_action e (n + m) y) (passed_actions e (n + m + length (hidden_of e.names y)) zero 0 ys)

-- ---- functions

abbrev pub passed_variable : Variable → Variable
passed_variable v = record v { of = passed v.of }

-- the type of the parameter by which a function gives its result
abbrev pub result_types : Ty → List Ty
result_types (Function r ps) = (if by_pointer r then Pointer (bare r) ∷ [] else [])
result_types t = []

abbrev pub result_variable : Routine → Ty → Variable
result_variable f t = record { name = f.name; place = f.place; of = t; simple = true }

-- the parameter itself, with the function's name
abbrev pub result_pointer : Routine → List Variable
result_pointer f = map (result_variable f) (result_types f.of)

-- the parameters as they are written
abbrev pub written_params : Routine → List Variable
written_params f = take (length f.params) f.vars

-- a parameter as it is run, with the name of the written one
abbrev pub passed_param : Variable → Variable
passed_param v = (if by_pointer v.of then record v { of = Pointer (bare v.of); simple = true } else passed_variable v)

-- a parameter that comes by a pointer is a local beside it
abbrev pub copied_param : Variable → List Variable
copied_param v = (if by_pointer v.of then v ∷ [] else [])

abbrev pub copied_params : Routine → List Variable
copied_params f = flat_map copied_param (written_params f)

-- the parameters, those that are locals beside them, and the other locals
abbrev pub named_variables : Routine → List Variable
named_variables f =
    result_pointer f ++ map passed_param (written_params f) ++ copied_params f
    ++ map passed_variable (drop (length f.params) f.vars)

-- where a written parameter stands among them
abbrev pub param_number : Routine → ℕ → Option Variable → ℕ
param_number f k None = k
param_number f k (Some v) =
    length (result_pointer f)
    + (if by_pointer v.of then length f.params + length (flat_map copied_param (take k (written_params f))) else k)

-- and any written variable
abbrev pub variable_number : Routine → ℕ → ℕ
variable_number f k =
    (if nat_lt k (length f.params) then param_number f k (slice_get f.vars k)
    else length (result_pointer f) + length (copied_params f) + k)

abbrev pub passing : Names → Routine → Passing
passing names f = record { names = names; number = variable_number f }

-- a parameter, the one with this number as it is run, is copied to the local with that number
abbrev pub param_copy : (from to : ℕ) → Variable → Action
param_copy k j v = action (Init j 0) (one_term (step Load (behind k (bare v.of) v.place) (bare v.of) v.place))
    no_actions v.place

abbrev pub param_copies : (from to : ℕ) → List Variable → Actions → Actions
param_copies k j [] ys = ys
param_copies k j (v ∷ vs) ys =
    (if by_pointer v.of then with_action (param_copy k j v) (param_copies (k + 1) (j + 1) vs ys)
    else param_copies (k + 1) j vs ys)

-- the outermost block declares the copied parameters and the hidden locals too, and it copies the parameters first
abbrev pub opened : (copied : List ℕ) → (hidden : List ℕ) → (Actions → Actions) → Action → Action
opened copied hidden copies (action (Block vars) xs ys p) = action (Block (copied ++ vars ++ hidden)) xs (copies ys) p
opened copied hidden copies x = x

abbrev pub passed_body : Names → Routine → Action
passed_body names f =
    let result = length (result_pointer f) in
    let copied = result + length f.params in
    let hidden = length (named_variables f) in
    opened (numbers_from copied (length (copied_params f))) (numbers_from hidden (length (hidden_of names f.body)))
    (param_copies result copied (written_params f)) (passed_action (passing names f) hidden f.body)

abbrev pub passed_routine : Names → Routine → Routine
passed_routine names f = record {
  name = f.name;
  place = f.place;
  of = passed f.of;
  params = numbers_from 0 (length (result_pointer f) + length f.params);
  vars = named_variables f ++ hidden_of names f.body;
  body = passed_body names f;
}

-- ---- the program

abbrev pub passed_member : Span × Ty → Span × Ty
passed_member m = (m.0, passed m.1)

abbrev pub passed_members : Option (List (Span × Ty)) → Option (List (Span × Ty))
passed_members None = None
passed_members (Some ms) = Some (map passed_member ms)

abbrev pub passed_tag : Tag → Tag
passed_tag t = record { kind = t.kind; members = passed_members t.members }

abbrev pub passed_object : Object → Object
passed_object o = record o { of = passed o.of }

unfoldable pub passed_program : Names → Program → Program
passed_program names q = record {
  tags = map passed_tag q.tags;
  objects = map passed_object q.objects;
  texts = q.texts;
  routines = map (passed_routine names) q.routines;
  main = q.main;
}

-- ---- names of calls

-- the `(` of each call in a file
abbrev mutual
  pub calls_in : Syn → List Lexeme
  calls_in (node Kinds.Call t xs) = t ∷ all_calls_in xs
  calls_in (node k t xs) = all_calls_in xs

  pub all_calls_in : Syns → List Lexeme
  all_calls_in nil = []
  all_calls_in (more x xs) = calls_in x ++ all_calls_in xs

abbrev pub same_place : Pos → Pos → Bool
same_place p q = p.line == q.line && p.col == q.col

-- the one at a place
abbrev pub call_name : List Lexeme → Names
call_name [] p = record { start = 0; end = 0 }
call_name (t ∷ ts) p = (if same_place t.pos p then t.span else call_name ts p)
