-- Library functions and intrinsics that are called.
use Rattle.std.specs.Prelude.{◌≡◌, ℕ, ◌==◌, List, [], ◌∷◌, length, Option, Some, None}
use Rattle.ck_base.specs.declared.positions.Pos.{Pos}
use Rattle.c_tree.specs.Types.{Void, Pointer, int, bool, unsigned_long}
use Rattle.c_tree.specs.Terms.{Library, term, terms}
use Rattle.c_tree.specs.Scopes.{Doing, need, ◌>>=◌, ◌>>◌}
use Rattle.c_tree.specs.Conversions.{Operand}
use Rattle.c_tree.specs.Libraries as meant
use Rattle.c_tree.specs.Expressions.{gives, all_asked, given_type}
use Rattle.c_operators.specs.declared.services.Asked.{Asked}
use Rattle.c_operators.specs.declared.services.Asked.TheVariants as asks
use Rattle.c_operators.specs.declared.services.Given.{Given}
use Rattle.c_operators.specs.declared.services.Given.TheVariants as givens
use Rattle.c_operators.specs.declared.services.Service.{Service}
use Rattle.c_operators.specs.declared.services.Takes.{Takes}
use Rattle.c_operators.specs.declared.services.Takes.TheVariants as takings

abbrev pub asked_as : Asked → meant.Asked
asked_as asks.Capability = meant.Any_capability
asked_as asks.Int = meant.A int
asked_as asks.Size = meant.A unsigned_long

abbrev pub takes_as : Takes → List meant.Asked
takes_as takings.Nothing = []
takes_as takings.Int = meant.A int ∷ []
takes_as takings.Size = meant.A unsigned_long ∷ []
takes_as takings.Capability = meant.Any_capability ∷ []
takes_as takings.CapabilityAndSize = meant.Any_capability ∷ meant.A unsigned_long ∷ []
takes_as takings.Capabilities = meant.Any_capability ∷ meant.Any_capability ∷ []

abbrev pub given_as : Given → meant.Given
given_as givens.Void = meant.Of Void
given_as givens.Int = meant.Of int
given_as givens.Size = meant.Of unsigned_long
given_as givens.Bool = meant.Of bool
given_as givens.Pointer = meant.Of (Pointer Void)
given_as givens.Argument = meant.As_argument

-- what is asked for and given is the same
pub record Serves (f : Service) (g : meant.Service) : Type 0 where
  pub takes : g.takes ≡ takes_as f.takes
  pub gives : g.gives ≡ given_as f.gives

abbrev pub IsFound : Option Service → Option meant.Service → Type 0
IsFound None None = Unit {0}
IsFound (Some f) (Some g) = Serves f g
IsFound f g = ⊥

-- the call of what takes and gives these
abbrev pub library_as : List meant.Asked → meant.Given → ℕ → List Operand → Pos → Pos → Doing Operand
library_as takes given k xs p first =
    all_asked takes xs >>= λ ys.
    need (length xs == length takes) 136 first >>
    gives (term (Library k) (terms ys) (given_type given ys) p) first
