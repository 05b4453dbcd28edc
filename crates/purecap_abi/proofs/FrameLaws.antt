-- The frame of a function is one that a legal map may have.
use Rattle.std.proofs.Common.{◌≡◌, ℕ, zero, suc, ◌+◌, ◌*◌, ◌%◌, ◌<◌, ◌≤◌, max, Bool, true, false, List, [], ◌∷◌, length}
use Rattle.std.proofs.Common.{map, Some, refl, sym, ap, ◌∙◌, arith, subst, if◌then◌else◌}
use Rattle.std.specs.Prelude.{sum_by, ◌==◌, nat_lt, slice_get, slice_index, find}
use Rattle.std.specs.List.{All, filter}
use Rattle.std.proofs.lemmas.List.{length-map}
use Rattle.std.proofs.lemmas.Bool.Decides.{nat_tests}
use Rattle.std.proofs.lemmas.List.Sums.{sum_by-cons}
use Rattle.std.proofs.lemmas.Option.{slice_get_within, get_or_from_slice_get, slice_get-map, same_Some}
use Rattle.cap_layout.specs.declared.answers.Owned.{Owned}
use Rattle.reg_alloc.specs.declared.places.Home.{Home}
use Rattle.obj_mem.specs.declared.map.Frame.{Frame}
use Rattle.obj_mem.specs.declared.map.Slot.{Slot}
use Rattle.obj_mem.specs.Legal.{ObjectNeed, FunctionNeed, alignment_of, room_of, Apart, slot_of, HasSlot}
use Rattle.purecap_abi.specs.Saving.{kept_homes, kept_registers, is_home, stack_bytes, kept_bytes, saved_bytes}
use Rattle.purecap_abi.specs.Saving.{AreHomes, IsFor, most_outgoing}
use Rattle.purecap_abi.specs.Placing.{greatest_of, object, ArePlaced, IsAny, slot_at, AreSlots}
use Rattle.purecap_abi.specs.Frames.{AreLocals, room, asked, IsLegalFrame, HasFrame}
use Rattle.purecap_abi.proofs.Counts.{slot_count_most}
pub use Rattle.purecap_abi.proofs.Counts.{kept_most}
use Rattle.purecap_abi.proofs.Placing.{greatest_least, greatest_most, greatest_power}

-- ---- how much is saved

stack_most : (align : ℕ) → stack_bytes align ≤ 16
stack_most align = grind (arith, nat_tests)

pub kept_bytes_most : (align : ℕ) (homes : List Home) → AreHomes homes →
    kept_bytes align homes ≤ 208 + 16 * length homes
kept_bytes_most align homes h =
    omega (arith, kept_most homes, stack_most align, slot_count_most (length homes) homes h.slots)

-- ---- slots by their numbers

find_numbered : (ss : List Slot) (base v t : ℕ) → t ≡ base + v →
    ((k : ℕ) (s : Slot) → slice_get ss k ≡ Some s → s.var ≡ base + k) → find (λ s. s.var == t) ss ≡ slice_get ss v
find_numbered [] base v t e f = refl
find_numbered (s ∷ ss) base zero t e f =
    let g : s.var ≡ base + 0 = f zero s refl in
    let h : (s.var == t) ≡ true = grind (arith, nat_tests) in
    rw h refl
find_numbered (s ∷ ss) base (suc v) t e f =
    let g : s.var ≡ base + 0 = f zero s refl in
    let h : (s.var == t) ≡ false = grind (arith, nat_tests) in
    rw h (find_numbered ss (suc base) v t (omega arith)
    (λ k z j. let w : z.var ≡ base + suc k = f (suc k) z j in omega arith))

-- ---- what was made

pub record IsMade (os : List Owned) (homes : List Home) (outgoing : ℕ) (starts : List ℕ) (f : Frame) : Type 0 where
  pub align : f.align ≡ greatest_of os
  pub saved : f.saved ≡ saved_bytes outgoing f.align homes
  pub slots : AreSlots os starts f.slots
  pub placed : ArePlaced IsAny os starts f.saved f.size
  pub past : f.saved ≤ f.size
  pub multiple : f.size % greatest_of os ≡ 0
  pub most : f.size ≤ f.saved + sum_by room os + 8

slot_is : (os : List Owned) (homes : List Home) (outgoing : ℕ) (starts : List ℕ) (f : Frame) →
    IsMade os homes outgoing starts f → (k : ℕ) (s : Slot) → slice_get f.slots k ≡ Some s →
    (k < length os) × (s ≡ slot_at os starts k)
slot_is os homes outgoing starts f m k s e =
    let w = slice_get_within f.slots k s e in
    let l : k < length os = let c = m.slots.count in omega arith in
    (l, same_Some s (slot_at os starts k) (sym e ∙ m.slots.each k l))

slot_at_place : (os : List Owned) (homes : List Home) (outgoing : ℕ) (starts : List ℕ) (f : Frame) →
    IsMade os homes outgoing starts f → (var : ℕ) → slot_of f var ≡ slice_get f.slots var
slot_at_place os homes outgoing starts f m var =
    find_numbered f.slots 0 var var (omega arith)
    (λ k s e. let r = slot_is os homes outgoing starts f m k s e in ap (λ z. var_of z) r.1 ∙ omega arith)
  where
    var_of : Slot → ℕ
    var_of s = s.var

greatest_fits : (os : List Owned) → greatest_of os ≤ max 16 (sum_by room os)
unfolding greatest_of
greatest_fits [] = omega arith
greatest_fits (o ∷ os) = omega (arith, greatest_fits os, sum_by-cons room o os)

pub is_for : (os : List Owned) (homes : List Home) (outgoing : ℕ) (starts : List ℕ) (f : Frame) → AreLocals os →
    AreHomes homes → outgoing ≤ most_outgoing → IsMade os homes outgoing starts f → IsFor homes f
is_for os homes outgoing starts f l h few m =
    let g = greatest_least os in
    let p = greatest_power os l.each in
    let a = m.align in
    let fit = l.fit in
    record {
      outgoing = outgoing;
      few = few;
      saved = m.saved;
      inside = m.past;
      small = let s = m.saved in let t = m.most in let n = h.few in omega (arith, kept_bytes_most f.align homes h);
      multiple = subst (λ x. f.size % x ≡ 0) (sym a) m.multiple;
      least = omega arith;
      most = omega (arith, greatest_fits os);
      power = (p.0, a ∙ p.1);
    }

pub make : (os items : List Owned) (homes : List Home) (outgoing : ℕ) (starts' starts : List ℕ) (slots : List Slot)
    (f : Frame) → os ≡ items → starts' ≡ starts → f.slots ≡ slots → f.align ≡ greatest_of os
    → f.saved ≡ saved_bytes outgoing f.align homes → AreSlots os starts' slots →
    ArePlaced IsAny os starts f.saved f.size → f.saved ≤ f.size → f.size % greatest_of os ≡ 0 →
    f.size ≤ f.saved + sum_by room os + 8
    → IsMade items homes outgoing starts f
make os items homes outgoing starts' starts slots f e z i a s slotted p past m most =
    subst (λ xs. IsMade xs homes outgoing starts f) e
    (record {
      align = a;
      saved = s;
      slots = subst (λ zs. AreSlots os zs f.slots) z (subst (λ ss. AreSlots os starts' ss) (sym i) slotted);
      placed = p;
      past = past;
      multiple = m;
      most = most;
    })

-- ---- what a legal map asks

-- the locals of a function of which these are the objects
local_is : (os : List Owned) (n : FunctionNeed) → map asked n.locals ≡ os → (var : ℕ) (o : ObjectNeed) →
    slice_get n.locals var ≡ Some o → (var < length os) × (object os var ≡ asked o)
local_is os n e var o h =
    let g : slice_get (map asked n.locals) var ≡ Some (asked o) =
    slice_get-map asked n.locals var ∙ ap (λ v. Rattle.std.specs.Prelude.option_map asked v) h in
    let g' : slice_get os var ≡ Some (asked o) = subst (λ xs. slice_get xs var ≡ Some (asked o)) e g in
    (slice_get_within os var (asked o) g', get_or_from_slice_get os var (asked o) (record { length = 0; align = 0 }) g')

room_is : (ns : List ObjectNeed) → room_of ns ≡ sum_by room (map asked ns)
room_is [] = refl
room_is (n ∷ ns) = omega (arith, room_is ns, sum_by-cons room (asked n) (map asked ns))

has_slot : (os : List Owned) (homes : List Home) (outgoing : ℕ) (starts : List ℕ) (f : Frame) (n : FunctionNeed) →
    IsMade os homes outgoing starts f → map asked n.locals ≡ os → (var : ℕ) (o : ObjectNeed) →
    slice_get n.locals var ≡ Some o → HasSlot o f var
has_slot os homes outgoing starts f n m e var o h =
    let l = local_is os n e var o h in
    let at = m.placed.lies var l.0 tt in
    let same = l.1 in (
      slot_at os starts var,
      slot_at_place os homes outgoing starts f m var ∙ m.slots.each var l.0,
      record {
        length = ap (λ x. length_of x) same;
        aligned = subst (λ x. slice_index starts var % x ≡ 0) (ap (λ x. align_of x) same) at.aligned;
        alignment = let g = greatest_most os var l.0 in let a = m.align in
            let s : (object os var).align ≡ alignment_of o = ap (λ x. align_of x) same in omega arith;
        past_saved = at.past;
        within = at.within;
      },
    )
  where
    length_of : Owned → ℕ
    length_of x = x.length

    align_of : Owned → ℕ
    align_of x = x.align

slots_apart : (os : List Owned) (homes : List Home) (outgoing : ℕ) (starts : List ℕ) (f : Frame) →
    IsMade os homes outgoing starts f → (var var' : ℕ) (s s' : Slot) → slot_of f var ≡ Some s →
    slot_of f var' ≡ Some s' → (var ≡ var' → ⊥) → Apart s.at s.length s'.at s'.length
slots_apart os homes outgoing starts f m var var' s s' e e' n =
    let a = slot_is os homes outgoing starts f m var s (sym (slot_at_place os homes outgoing starts f m var) ∙ e) in
    let b = slot_is os homes outgoing starts f m var' s' (sym (slot_at_place os homes outgoing starts f m var') ∙ e') in
    subst (λ (z : Slot). Apart z.at z.length s'.at s'.length) (sym a.1)
    (subst (λ (z : Slot). Apart (slice_index starts var) (object os var).length z.at z.length) (sym b.1)
    (m.placed.apart var var' a.0 b.0 tt tt n))

size_most : (os : List Owned) (homes : List Home) (outgoing : ℕ) (starts : List ℕ) (f : Frame) → AreHomes homes →
    IsMade os homes outgoing starts f → f.size ≤ sum_by room os + 16 * length homes + 16 * outgoing + 512
size_most os homes outgoing starts f h m =
    let s = m.saved in let t = m.most in omega (arith, kept_bytes_most f.align homes h)

pub is_legal : (os : List Owned) (homes : List Home) (outgoing : ℕ) (starts : List ℕ) (f : Frame) → AreLocals os →
    AreHomes homes → outgoing ≤ most_outgoing → IsMade os homes outgoing starts f →
    IsLegalFrame os (16 * length homes + 16 * outgoing) f
is_legal os homes outgoing starts f l h few m n e weight =
    let i = is_for os homes outgoing starts f l h few m in
    record {
      slots = let c = m.slots.count in let g = ap (λ xs. length xs) e in omega (arith, length-map n.locals asked);
      has_slot = has_slot os homes outgoing starts f n m e;
      apart = slots_apart os homes outgoing starts f m;
      power = i.power;
      align = i.least;
      size_multiple = i.multiple;
      saved = i.inside;
      least = let s = m.saved in let p = m.past in omega arith;
      most = let s = size_most os homes outgoing starts f h m in
          let r = room_is n.locals ∙ ap (λ xs. sum_by room xs) e in omega arith;
    }

pub has_frame : (os : List Owned) (homes : List Home) (outgoing : ℕ) (starts : List ℕ) (f : Frame) → AreLocals os →
    AreHomes homes → outgoing ≤ most_outgoing → IsMade os homes outgoing starts f → HasFrame os homes outgoing f
has_frame os homes outgoing starts f l h few m = record {
  legal = is_legal os homes outgoing starts f l h few m;
  align = m.align;
  saved = m.saved;
  least = let s = m.saved in let p = m.past in omega arith;
  most = size_most os homes outgoing starts f h m;
  in_order = λ k s e. ap (λ z. var_of z) (slot_is os homes outgoing starts f m k s e).1;
  inside = λ k s e.
      let is = slot_is os homes outgoing starts f m k s e in
      subst (λ (z : Slot). z.at < f.size) (sym is.1) (m.placed.lies k is.0 tt).inside;
}
  where
    var_of : Slot → ℕ
    var_of s = s.var
