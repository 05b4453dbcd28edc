-- What is asked of the values of an initializer, and what a list in braces gives.
use Rattle.std.specs.Prelude.{◌≡◌, ℕ, ◌+◌, ◌*◌, ◌^◌, ◌≤◌, true, false, ◌&&◌, List, [], ◌∷◌, ◌++◌, length}
use Rattle.std.specs.Prelude.{Option, Some, None, Result, Ok, Err}
use Rattle.ck_base.specs.declared.positions.Pos.{Pos}
use Rattle.ck_base.specs.declared.refusal.Refusal.{Refusal}
use Rattle.ck_base.specs.declared.refusal.Refusal.TheVariants.{Code, NoMemory}
use Rattle.c_tree.specs.Types.{Ty}
use Rattle.c_tree.specs.Syntax.{Syns}
use Rattle.c_tree.specs.Scopes.{State, Doing, give, look, ◌>>=◌}
use Rattle.c_tree.specs.Readings.{Slot, Filled, Reading}
use Rattle.c_tree.specs.Initializers.{items, takes_string}
use Rattle.c_tree.specs.Programs.{is_text, readings}
use Rattle.c_tree.specs.Statics.{is_start}
use Rattle.c_expressions.specs.Nodes.{type_in}
use Rattle.c_elaborator.specs.declared.work.Work.{Work}
use Rattle.c_elaborator.specs.Work.{Shows}
use Rattle.c_elaborator.specs.Answers.{Done, quietly}
use Rattle.c_elaborator.specs.Parts.{AreParts}
use Rattle.c_plain_rules.specs.Place.{Place}
use Rattle.c_initializers.specs.declared.places.Places.{Places}
use Rattle.c_initializers.specs.declared.slots.Slot.{Slot as Kept}
use Rattle.c_initializers.specs.Places.{place_at}
use Rattle.c_initializers.specs.Slots.{AreSlotsThere, slots_in}
use Rattle.c_statements.specs.declared.initial.Asked.{Asked}
use Rattle.c_statements.specs.declared.initial.Asked.TheVariants as asks
use Rattle.c_statements.specs.declared.initial.Goal.{Goal}

abbrev pub asked_by : Asked → Slot → Doing Unit
asked_by asks.Nothing x = give tt
asked_by asks.Start x = is_start x

-- the values that the items from a number on give, where the state was this before the first of them
abbrev pub listing : Work → Goal → Pos → State → ℕ → List Reading → Doing (List Slot)
listing w g brace s k rs = items s (asked_by g.asked) g.whole (type_in w.nodes g.of) g.at brace k rs

-- as many elements as there are items
abbrev pub gives_items : List Reading → (Slot → Doing Unit) → Pos → Ty → ℕ → Pos → Doing Filled
gives_items rs asked whole of at brace =
    look >>= λ s. items s asked whole of at brace 0 rs >>= λ slots. give (record { slots = slots; count = length rs })

-- the only one of some parts, where it is a string literal for an array of characters
abbrev pub IsLone : Work → ℕ → List ℕ → Option ℕ → Type 0
IsLone w of ks None = (xs : Syns) → AreParts w ks xs → (is_text xs && takes_string (type_in w.nodes of)) ≡ false
IsLone w of ks (Some k) =
    (ks ≡ k ∷ []) × ((xs : Syns) → AreParts w ks xs → (is_text xs && takes_string (type_in w.nodes of)) ≡ true)

-- what is initialised lies at most 2 ^ 27 bytes further on for each item up to it
abbrev pub IsNear : Goal → Type 0
IsNear g = g.at ≤ g.items * 2 ^ 27

-- what the item with a number initialises
abbrev pub part_of : Goal → ℕ → Place → Goal
part_of g k p = record g { of = p.of; at = g.at + p.at; items = g.items + k + 1 }

abbrev pub IsNext : Places → ℕ → Goal → Pos → Result Goal Refusal → Type 0
IsNext places k g brace (Ok part) = (p : Place) × (place_at places k ≡ Some p) × (part ≡ part_of g k p)
IsNext places k g brace (Err (Code code place)) = (place_at places k ≡ None) × (code ≡ 133) × (place ≡ brace)
IsNext places k g brace (Err NoMemory) = Unit {0}

-- what was given so far: the parts that are left from a number on, and the step that has given what was given
pub record SoFar (u v : Work) (g : Goal) (brace : Pos) (xs : Syns) (i : ℕ) (ks : List ℕ) (given : List Kept) :
    Type 0 where
  pub rest : Syns
  pub parts : AreParts v ks rest
  pub before : Doing (List Slot)
  pub done : Done quietly u v before (AreSlotsThere v.nodes given) (λ s ys. ys ≡ slots_in v.nodes given)
  pub is : (s : State) → Shows u s →
      listing u g brace s 0 (readings xs) s ≡ (before >>= λ ys. listing u g brace s i (readings rest)
      >>= λ zs. give (ys ++ zs)) s
