-- What is read of the parts of a construct, before its rule is asked.
use Rattle.std.specs.Prelude.{◌≡◌, ℕ, List, [], ◌∷◌, map, false, Option, Some, None, slice_get, ◌++◌}
use Rattle.std.specs.Global.{Vec}
use Rattle.ck_base.specs.declared.positions.Pos.{Pos}
use Rattle.ck_int.specs.declared.kinds.IntOp.{IntOp}
use Rattle.c_tree.specs.Types.{Ty}
use Rattle.c_tree.specs.Scopes.{State, Doing, give, refuse, ◌>>=◌}
use Rattle.c_tree.specs.Conversions as meant
use Rattle.c_tree.specs.Readings.{Reading}
use Rattle.c_tree.specs.Expressions.{read_value, read_values, assign, compound, library_call, call}
use Rattle.c_tree.specs.Libraries.{services}
use Rattle.c_expressions.specs.declared.nodes.Operand.{Operand}
use Rattle.c_operators.specs.Called.{AreThere}
use Rattle.c_expressions.specs.Nodes.{term_count, type_in}
use Rattle.c_elaborator.specs.declared.work.Work.{Work}
use Rattle.c_elaborator.specs.Answers.{quietly, Done, OperandThere, operand_in, TypeThere}
use Rattle.c_elaborator.specs.Parts.{AreParts}
use Rattle.c_tree.specs.Syntax.{Syns}
use Rattle.c_tree.specs.Programs.{readings}
use Rattle.c_readings.specs.declared.parts.Pair.{Pair}
use Rattle.c_readings.specs.declared.parts.Triple.{Triple}
use Rattle.c_readings.specs.declared.parts.Casting.{Casting}

-- ---- what is read

-- there must be as many parts as a construct has
abbrev pub with_one : {A : Type 0} → (Reading → Doing A) → Pos → List Reading → Doing A
with_one d p (r ∷ []) = d r
with_one d p rs = refuse 120 p

abbrev pub with_two : {A : Type 0} → (Reading → Reading → Doing A) → Pos → List Reading → Doing A
with_two d p (r ∷ q ∷ []) = d r q
with_two d p rs = refuse 120 p

abbrev pub with_three : {A : Type 0} → (Reading → Reading → Reading → Doing A) → Pos → List Reading → Doing A
with_three d p (r ∷ q ∷ o ∷ []) = d r q o
with_three d p rs = refuse 120 p

pub record Two (A B : Type 0) : Type 0 where
  pub left : A
  pub right : B

-- one and then the other
abbrev pub both : {A B : Type 0} → Doing A → Doing B → Doing (Two A B)
both d e = d >>= λ a. e >>= λ b. give (record { left = a; right = b })

abbrev pub operand_of : Reading → Doing meant.Operand
operand_of r = r.operand

abbrev pub type_of : Reading → Doing Ty
type_of r = r.type false

abbrev pub one_operand : Pos → List Reading → Doing meant.Operand
one_operand p rs = with_one operand_of p rs

abbrev pub one_value : Pos → List Reading → Doing meant.Operand
one_value p rs = with_one read_value p rs

abbrev pub one_type : Pos → List Reading → Doing Ty
one_type p rs = with_one type_of p rs

abbrev pub two_values : Pos → List Reading → Doing (Two meant.Operand meant.Operand)
two_values p rs = with_two (λ r q. both (read_value r) (read_value q)) p rs

-- a place and a value
abbrev pub place_and_value : Pos → List Reading → Doing (Two meant.Operand meant.Operand)
place_and_value p rs = with_two (λ r q. both (operand_of r) (read_value q)) p rs

abbrev pub three_values : Pos → List Reading → Doing (Two meant.Operand (Two meant.Operand meant.Operand))
three_values p rs = with_three (λ r q o. both (read_value r) (both (read_value q) (read_value o))) p rs

abbrev pub type_and_value : Pos → List Reading → Doing (Two Ty meant.Operand)
type_and_value p rs = with_two (λ r q. both (type_of r) (read_value q)) p rs

-- the rule of an assignment
abbrev pub assigning : Option IntOp → Two meant.Operand meant.Operand → Pos → Doing meant.Operand
assigning None x p = assign x.left x.right p
assigning (Some o) x p = compound o x.left x.right p

-- a call of a library function, and of a value
abbrev pub called_service : ℕ → Pos → Pos → List Reading → Doing meant.Operand
called_service k p first rs = read_values rs >>= λ xs. library_call (slice_get services k) k xs p first

abbrev pub called_value : Pos → Reading → List Reading → Doing meant.Operand
called_value p r rs = read_value r >>= λ f. read_values rs >>= λ xs. call f xs p

-- ---- what is answered

abbrev pub PairThere : Work → Pair → Type 0
PairThere w x = OperandThere w x.left × OperandThere w x.right

abbrev pub two_in : Work → Pair → Two meant.Operand meant.Operand
two_in w x = record { left = operand_in w x.left; right = operand_in w x.right }

abbrev pub IsPair : Work → Pair → State → Two meant.Operand meant.Operand → Type 0
IsPair w x s a = a ≡ two_in w x

abbrev pub TripleThere : Work → Triple → Type 0
TripleThere w x = OperandThere w x.first × PairThere w x.pair

abbrev pub three_in : Work → Triple → Two meant.Operand (Two meant.Operand meant.Operand)
three_in w x = record { left = operand_in w x.first; right = two_in w x.pair }

abbrev pub IsTriple : Work → Triple → State → Two meant.Operand (Two meant.Operand meant.Operand) → Type 0
IsTriple w x s a = a ≡ three_in w x

abbrev pub CastThere : Work → Casting → Type 0
CastThere w x = TypeThere w x.of × OperandThere w x.operand

abbrev pub cast_in : Work → Casting → Two Ty meant.Operand
cast_in w x = record { left = type_in w.nodes x.of; right = operand_in w x.operand }

abbrev pub IsCast : Work → Casting → State → Two Ty meant.Operand → Type 0
IsCast w x s a = a ≡ cast_in w x

abbrev pub AllThere : Work → Vec Operand → Type 0
AllThere w v = AreThere (term_count w.nodes) v.items

abbrev pub AreOperands : Work → Vec Operand → State → List meant.Operand → Type 0
AreOperands w v s xs = xs ≡ map (operand_in w) v.items

-- the arguments that were read so far: the first of them, and what is left
pub record ReadSoFar (u v : Work) (xs : Syns) (ks : List ℕ) (found : Vec Operand) : Type 0 where
  pub rest : Syns
  pub parts : AreParts v ks rest
  pub before : Doing (List meant.Operand)
  pub done : Done quietly u v before (AllThere v found) (AreOperands v found)
  pub is : (s : State) → read_values (readings xs) s
      ≡ (before >>= λ ys. read_values (readings rest) >>= λ zs. give (ys ++ zs)) s
