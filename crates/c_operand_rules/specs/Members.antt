-- Members of structs and unions, and where they are found.
use Rattle.std.specs.Prelude.{◌≡◌, ℕ, List, Option, Some, None, Result, Ok, Err, option_map, slice_get}
use Rattle.ck_base.specs.declared.positions.Pos.{Pos}
use Rattle.ck_base.specs.declared.refusal.Refusal.{Refusal}
use Rattle.ck_base.specs.declared.refusal.Refusal.TheVariants.{Code, NoMemory}
use Rattle.c_tree.specs.declared.typed.Member.{Member}
use Rattle.c_tree.specs.Types.{Ty, bare}
use Rattle.c_tree.specs.Scopes.{Part, TagState, State, Doing, give, look, refuse, some_or, ◌>>=◌}
use Rattle.c_tree.specs.Expressions.{member_from, members_in, parts_of}
use Rattle.c_types.specs.Stands.{named, text_at}
use Rattle.c_expressions.specs.declared.nodes.Nodes.{Nodes}
use Rattle.c_expressions.specs.Nodes.{type_in}
use Rattle.c_operand_rules.specs.declared.members.Found.{Found}
use Rattle.c_operand_rules.specs.declared.members.Outcome.{Outcome}
use Rattle.c_operand_rules.specs.declared.members.Outcome.TheVariants.{Incomplete, Missing, At}

-- the members of structs and unions are named as the file has them
abbrev pub MembersAreSpelled : List ℕ → State → Type 0
MembersAreSpelled file s =
    (n : ℕ) (t : TagState) (ms : List Part) → slice_get s.tags n ≡ Some t → t.members ≡ Some ms → (k : ℕ) (m : Part) →
    slice_get ms k ≡ Some m → m.name.text ≡ text_at file m.name.span

-- a member by its number, if there is one
abbrev pub member_at : Option Member → ℕ → Outcome
member_at None k = Missing
member_at (Some m) k = At (record { number = k; of = m.of })

abbrev pub found_in : List Member → Option ℕ → Outcome
found_in ms None = Missing
found_in ms (Some k) = member_at (slice_get ms k) k

-- the number and the type of a member, of a complete struct or union, if it has one of that name
abbrev pub sought : State → ℕ → List ℕ → Option (Option (ℕ × Ty))
sought s n name = option_map (λ ms. member_from 0 ms name) (parts_of (slice_get s.tags n))

-- what is found of it, where a number names its type
abbrev pub IsSought : List Ty → Outcome → Option (Option (ℕ × Ty)) → Type 0
IsSought ts Incomplete None = Unit {0}
IsSought ts Missing (Some None) = Unit {0}
IsSought ts (At f) (Some (Some m)) = (f.number ≡ m.0) × (named ts f.of ≡ Some m.1)
IsSought ts f m = ⊥

-- the member where it was sought, or the rule that fails
abbrev pub told : Pos → Option (Option (ℕ × Ty)) → Doing (ℕ × Ty)
told first None = refuse 132 first
told first (Some None) = refuse 133 first
told first (Some (Some m)) = give m

-- the member of a name, of a type
abbrev pub finding : Ty → List ℕ → Pos → Doing (ℕ × Ty)
finding t name first = look >>= λ s.
    members_in s (bare t) first >>= λ ms.
    some_or (member_from 0 ms name) 133 first

-- The answer is the step's, by the number of a type. Want of memory is none
abbrev pub Finds : Nodes → Doing (ℕ × Ty) → State → Result Found Refusal → Type 0
Finds n d s (Ok f) = d s ≡ Ok ((f.number, type_in n f.of), s)
Finds n d s (Err (Code code place)) = d s ≡ Err (record { code = code; place = place })
Finds n d s (Err NoMemory) = ⊥
