-- What an object of static storage duration begins with.
use Rattle.std.specs.Prelude.{◌≡◌, pos, List, [], ◌∷◌, ◌++◌, length, map, Some, Result, Ok, Err}
use Rattle.ck_base.specs.declared.refusal.Refusal.{Refusal}
use Rattle.ck_base.specs.declared.refusal.Refusal.TheVariants.{Code, NoMemory}
use Rattle.std.specs.Prelude.{ℕ, ℤ}
use Rattle.ck_base.specs.declared.positions.Pos.{Pos}
use Rattle.std.specs.Global.{Vec}
use Rattle.c_tree.specs.Terms.{To_global, To_function}
use Rattle.c_tree.specs.Readings as meant
use Rattle.c_tree.specs.Scopes.{All, Pending, State, size}
use Rattle.c_tree.specs.Statics as statics
use Rattle.c_tree.specs.Statics.{Number, There, Entry, nothing_found, known_value, start_slots}
use Rattle.c_elaborator.specs.declared.work.Work.{Work}
use Rattle.c_elaborator.specs.Work.{Shows, aiming_of, pending_of}
use Rattle.c_initializers.specs.declared.slots.Slot.{Slot}
use Rattle.c_initializers.specs.declared.starts.Known.{Known}
use Rattle.c_initializers.specs.declared.statics.Found.{Found}
use Rattle.c_plain_rules.specs.Placing.{placed_of}
use Rattle.c_initializers.specs.Slots.{slot_in, slots_in}
use Rattle.c_initializers.specs.Starts.{known_of}

abbrev pub Start : Type 0
Start = statics.Start × List ℤ

-- ---- what each value is

abbrev pub with_found : State → meant.Slot → Start → statics.Found → statics.Found
with_found s x (Number v, asks) f = (record { at = x.at; width = size s x.of; number = v } ∷ f.0, f.1)
with_found s x (There a r z, asks) f = (f.0, record { at = x.at; aim = a; reach = r; offset = z } ∷ f.1)
with_found s x (Entry k, asks) f = (f.0, record { at = x.at; aim = To_function k; reach = All; offset = pos 0 } ∷ f.1)

abbrev pub found_of : State → List meant.Slot → List Start → statics.Found
found_of s (x ∷ xs) (v ∷ vs) = with_found s x v (found_of s xs vs)
found_of s xs vs = nothing_found

-- ---- what is asked of objects whose lengths are not known

abbrev pub pendings : Pos → ℕ → List ℤ → List Pending
pendings p k zs = map (λ (least : ℤ). (let q : Pending = record { place = p; static = k; least = least } in q)) zs

abbrev pub asked_of : meant.Slot → Start → List Pending
asked_of x (There (To_global k) r z, asks) = pendings x.first k asks
asked_of x v = []

-- the last value asks first
abbrev pub all_asked : List meant.Slot → List Start → List Pending
all_asked (x ∷ xs) (v ∷ vs) = all_asked xs vs ++ asked_of x v
all_asked xs vs = []

-- ---- answers

-- something is known of each value, or the first of which nothing is known is refused
abbrev pub Knows : Work → List Slot → Result (Vec Known) Refusal → Type 0
Knows w xs (Ok v) = (length v.items ≡ length xs) ×
    ((s : State) → Shows w s →
    map (λ (x : meant.Slot). known_value s x.value) (slots_in w.nodes xs) ≡ map (λ k. Some (known_of k)) v.items)
Knows w xs (Err (Code code place)) =
    (s : State) → Shows w s → start_slots (slots_in w.nodes xs) s ≡ Err (record { code = code; place = place })
Knows w xs (Err NoMemory) = Unit {0}

abbrev pub found_seen : Found → statics.Found
found_seen f = (map placed_of f.numbers.items, map aiming_of f.starts.items)

-- one more value stands behind those that were found
pub record AddsFound (w : Work) (x : Slot) (v : Known) (old new : Found) : Type 0 where
  pub numbers : (s : State) (f : statics.Found) → Shows w s →
      map placed_of new.numbers.items ++ f.0 ≡ map placed_of old.numbers.items
      ++ (with_found s (slot_in w.nodes x) (known_of v) f).0
  pub starts : (s : State) (f : statics.Found) → Shows w s →
      map aiming_of new.starts.items ++ f.1 ≡ map aiming_of old.starts.items
      ++ (with_found s (slot_in w.nodes x) (known_of v) f).1

-- the work waits for more
pub record Waits (old new : Work) (ps : List Pending) : Type 0 where
  pub rest : new ≡ record old { waiting = new.waiting }
  pub waiting : map pending_of new.waiting.items ≡ map pending_of old.waiting.items ++ ps

abbrev pub FoundThere : Work → Found → Type 0
FoundThere w f = Unit {0}

abbrev pub IsFound : Work → Found → State → statics.Found → Type 0
IsFound w f s y = y ≡ found_seen f
