-- The members of structs and unions at their places.
use Rattle.std.specs.Prelude.{◌≡◌, ℕ, ◌^◌, ◌<◌, ◌≤◌, List, [], ◌∷◌, length, map, Option, Some, None, option_map}
use Rattle.std.specs.Prelude.{slice_get}
use Rattle.std.specs.List.{All}
use Rattle.c_tree.specs.Types.{Ty}
use Rattle.c_tree.specs.Scopes.{State, TagState, type_extent}
use Rattle.c_tree.specs.Initializers.{or_none, next_within, tag_places}
use Rattle.c_tree.specs.Layout.{Extent, member_offset, behind, no_members, within}
use Rattle.c_tree.specs.declared.syntax.RecordKind.{RecordKind}
use Rattle.c_tree.specs.declared.syntax.RecordKind.TheVariants.{Struct, Union}
use Rattle.c_tree.specs.declared.typed.Member.{Member}
use Rattle.cap_layout.specs.Answers.{extent_is}
use Rattle.cap_layout.specs.declared.answers.Layout.{Layout}
use Rattle.c_expressions.specs.Nodes.{type_in, type_count}
use Rattle.c_elaborator.specs.declared.work.Work.{Work}
use Rattle.c_elaborator.specs.Work.{Shows}
use Rattle.c_plain_parts.specs.declared.members.Place.{Place}
use Rattle.c_plain_parts.specs.declared.members.Record.{Record}
use Rattle.c_plain_parts.specs.declared.members.Next.{Next}

abbrev pub place_in : Work → Place → ℕ × Ty
place_in w p = (p.at, type_in w.nodes p.of)

abbrev pub IsPlaceThere : Work → Place → Type 0
IsPlaceThere w p = p.of < type_count w.nodes

-- no member begins further on in a struct that is within the limit
abbrev pub IsClose : Place → Type 0
IsClose p = p.at ≤ 2 ^ 27

-- the members of a struct with their offsets, by the numbers of their types
abbrev pub numbered_places : Work → List TagState → List Member → Extent → List (ℕ × Ty)
numbered_places w tags [] x = []
numbered_places w tags (m ∷ ms) x =
    or_none (next_within x (type_extent tags (type_in w.nodes m.of)))
    (λ y. (member_offset y x, type_in w.nodes m.of) ∷ numbered_places w tags ms (behind y x))

abbrev pub first_place : Work → List TagState → List Member → List (ℕ × Ty)
first_place w tags [] = []
first_place w tags (m ∷ ms) =
    or_none (within (type_extent tags (type_in w.nodes m.of))) (λ y. (0, type_in w.nodes m.of) ∷ [])

abbrev pub places_in : Work → List TagState → RecordKind → List Member → List (ℕ × Ty)
places_in w tags Struct ms = numbered_places w tags ms no_members
places_in w tags Union ms = first_place w tags ms

-- what an initializer has values for in the struct or union with a tag
abbrev pub members_of : State → ℕ → List (ℕ × Ty)
members_of s tag = tag_places s.tags (slice_get s.tags tag)

-- these are the members that are kept of a struct or union
abbrev pub AreMembersOf : Work → ℕ → List Member → Type 0
AreMembersOf w tag ms = (s : State) → Shows w s → (t : TagState) → slice_get s.tags tag ≡ Some t →
    members_of s tag ≡ places_in w s.tags t.kind ms

pub record IsRecordOf (w : Work) (s : State) (tag : ℕ) (r : Record) : Type 0 where
  pub state : TagState
  pub is : slice_get s.tags tag ≡ Some state
  pub kind : state.kind ≡ r.kind
  pub places : members_of s tag ≡ places_in w s.tags r.kind r.members.now

abbrev pub IsRecord : Work → ℕ → Option Record → Type 0
IsRecord w tag None = (s : State) → Shows w s → slice_get s.tags tag ≡ None
IsRecord w tag (Some r) = (s : State) → Shows w s → IsRecordOf w s tag r

abbrev pub IsTagCount : Work → ℕ → Type 0
IsTagCount w n = (s : State) → Shows w s → n ≡ length s.tags

-- a member behind the end of those before it
abbrev pub IsNext : Work → ℕ → Layout → Option Next → Type 0
IsNext w of end None =
    (s : State) → Shows w s → next_within (extent_is end) (type_extent s.tags (type_in w.nodes of)) ≡ None
IsNext w of end (Some n) =
    (IsPlaceThere w n.place) ×
    ((s : State) → Shows w s →
    (y : Extent) × (next_within (extent_is end) (type_extent s.tags (type_in w.nodes of)) ≡ Some y) ×
    (place_in w n.place ≡ (member_offset y (extent_is end), type_in w.nodes of)) ×
    (extent_is n.end ≡ behind y (extent_is end)))

-- parts are those that stand in a list
pub record ArePartsOf (w : Work) (places : List Place) (parts : State → List (ℕ × Ty)) : Type 0 where
  pub there : All (IsPlaceThere w) places
  pub are : (s : State) → Shows w s → map (place_in w) places ≡ parts s

abbrev pub ArePlaced : Work → List Member → List Place → Type 0
ArePlaced w ms places = ArePartsOf w places (λ s. numbered_places w s.tags ms no_members)

abbrev pub AreMembers : Work → RecordKind → List Member → List Place → Type 0
AreMembers w k ms places = ArePartsOf w places (λ s. places_in w s.tags k ms)

abbrev pub AreAllMembers : Work → ℕ → List Place → Type 0
AreAllMembers w tag places = ArePartsOf w places (λ s. members_of s tag)

-- the parts of the first so many items
pub record AreFirstMembers (w : Work) (tag count : ℕ) (places : List Place) : Type 0 where
  pub there : All (IsPlaceThere w) places
  pub are : (s : State) → Shows w s → (k : ℕ) → k < count →
      slice_get (members_of s tag) k ≡ option_map (place_in w) (slice_get places k)
