-- The values that an initializer gives are named while the work grows.
use Rattle.std.proofs.Common.{◌≡◌, ℕ, suc, ◌<◌, ◌≤◌, List, [], ◌∷◌, map, refl, sym, ap, ◌∙◌, arith}
use Rattle.std.specs.List.{All}
use Rattle.c_expressions.specs.Nodes.{type_in, term_in, type_count, term_count}
use Rattle.c_elaborator.specs.declared.work.Work.{Work}
use Rattle.c_elaborator.specs.Answers.{Keeps}
use Rattle.c_initializers.specs.declared.slots.Slot.{Slot}
use Rattle.c_initializers.specs.Slots.{slot_in, slots_in, IsSlotThere, AreSlotsThere}

work-slot : (u v : Work) (x : Slot) → Keeps u v → IsSlotThere u.nodes x → slot_in v.nodes x ≡ slot_in u.nodes x
work-slot u v x k h =
    let a : type_in v.nodes x.of ≡ type_in u.nodes x.of = k.types x.of h.of in
    let b : term_in v.nodes x.value ≡ term_in u.nodes x.value = k.terms x.value h.value in
    cc

work-slot-there : (u v : Work) (x : Slot) → Keeps u v → IsSlotThere u.nodes x → IsSlotThere v.nodes x
work-slot-there u v x k h =
    let a : x.of < type_count u.nodes = h.of in
    let b : x.value < term_count u.nodes = h.value in
    let c : type_count u.nodes ≤ type_count v.nodes = k.more_types in
    let d : term_count u.nodes ≤ term_count v.nodes = k.more_terms in
    record { of = omega arith; value = omega arith }

pub work_slots_kept : (u v : Work) (xs : List Slot) → Keeps u v → AreSlotsThere u.nodes xs →
    slots_in v.nodes xs ≡ slots_in u.nodes xs
work_slots_kept u v [] k h = refl
work_slots_kept u v (x ∷ xs) k h =
    let a : slot_in v.nodes x ≡ slot_in u.nodes x = work-slot u v x k (h 0 x (omega arith)) in
    let b : slots_in v.nodes xs ≡ slots_in u.nodes xs = work_slots_kept u v xs k (λ i d l. h (suc i) d (omega arith)) in
    cc

pub work_slots_there : (u v : Work) (xs : List Slot) → Keeps u v → AreSlotsThere u.nodes xs → AreSlotsThere v.nodes xs
work_slots_there u v xs k h = λ i d l. work-slot-there u v _ k (h i d l)
