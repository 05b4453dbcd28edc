-- One expression as an initializer, step by step.
use Rattle.std.proofs.Common.{◌≡◌, ℕ, ◌<◌, List, [], ◌∷◌, Result, Ok, Err, refl, sym, ap, subst, ◌∙◌, arith}
use Rattle.ck_base.specs.declared.positions.Pos.{Pos}
use Rattle.ck_base.specs.declared.refusal.Refusal.{Refusal}
use Rattle.c_tree.specs.Types.{Ty}
use Rattle.c_tree.specs.Terms.{Term}
use Rattle.c_tree.specs.Scopes.{State, Fault, Doing, give, continued, ◌>>=◌, ◌>>◌}
use Rattle.c_tree.specs.Conversions as meant
use Rattle.c_tree.specs.Conversions.{value, assigned}
use Rattle.c_tree.specs.Readings as readings
use Rattle.c_tree.specs.Readings.{Reading}
use Rattle.ck_base.specs.Tokens.{Lexeme}
use Rattle.c_tree.specs.Syntax.{Syns}
use Rattle.c_tree.specs.Expressions.{text_bytes}
use Rattle.c_tree.specs.Initializers.{plain_initializer, string_initializer}
use Rattle.c_expressions.specs.declared.nodes.Operand.{Operand}
use Rattle.c_expressions.specs.Nodes.{IsWhole, type_in, type_count}
use Rattle.c_elaborator.specs.declared.work.Work.{Work}
use Rattle.c_elaborator.specs.Answers.{Done, Answers, quietly, OperandThere, IsOperand, operand_in, NothingThere}
use Rattle.c_elaborator.specs.Answers.{IsNothing}
use Rattle.c_elaborator.proofs.Sequencing.{quiet_law, answers_at, then, also_then, gave, failed, quiet_same, still_same}
use Rattle.c_statements.proofs.Reading.{string_is}
use Rattle.c_initializers.specs.declared.slots.Slot.{Slot}
use Rattle.c_initializers.specs.declared.slots.Filled.{Filled}
use Rattle.c_initializers.specs.Slots.{SlotThere, IsSlot, AreSlotsThere, slot_in, slots_in, slot_of}
use Rattle.c_initializers.specs.Slots.{plain_slot, string_filled, FilledThere, IsFilled, filled_in}

-- what comes behind the value, and behind the slot
abbrev pub one_filled : readings.Slot → readings.Filled
one_filled x = record { slots = x ∷ []; count = 0 }

abbrev pub slot_rest : (readings.Slot → Doing Unit) → readings.Slot → Doing readings.Filled
slot_rest asked x = asked x >> give (one_filled x)

abbrev pub value_rest : (readings.Slot → Doing Unit) → Ty → ℕ → meant.Operand → Doing readings.Filled
value_rest asked of at x = plain_slot of at x >>= slot_rest asked

pub plain_is : (d : Doing meant.Operand) (asked : readings.Slot → Doing Unit) (whole : Pos) (of : Ty) (at : ℕ)
    (s : State) → plain_initializer d asked whole of at s ≡ ((d >>= value) >>= value_rest asked of at) s
unfolding plain_initializer
plain_is d asked whole of at s = first ((d >>= value) s)
  where
    second : (x : meant.Operand) (o : Result (Term × State) Fault) →
        continued o (λ y. slot_rest asked (slot_of at of y x.first))
        ≡ continued (continued o (λ y. give (slot_of at of y x.first))) (slot_rest asked)
    second x (Ok y) = refl
    second x (Err e) = refl

    first : (o : Result (meant.Operand × State) Fault) →
        continued o (λ x. assigned of x >>= λ y. slot_rest asked (slot_of at of y x.first))
        ≡ continued o (value_rest asked of at)
    first (Ok x) = second x.0 (assigned of x.0 x.1)
    first (Err e) = refl

pub value_steps : (u v w : Work) (d : Doing meant.Operand) (a : Operand) (asked : readings.Slot → Doing Unit)
    (whole : Pos) (of at : ℕ) (r : Result Filled Refusal) → of < type_count u.nodes →
    Done quietly u v (d >>= value) (OperandThere v a) (IsOperand v a) →
    Answers quietly v w (value_rest asked (type_in v.nodes of) at (operand_in v a)) FilledThere IsFilled r →
    Answers quietly u w (plain_initializer d asked whole (type_in u.nodes of) at) FilledThere IsFilled r
value_steps u v w d a asked whole of at r l h k =
    answers_at quietly u w (plain_initializer d asked whole (type_in u.nodes of) at)
    ((d >>= value) >>= value_rest asked (type_in u.nodes of) at) FilledThere IsFilled r
    (λ s t. plain_is d asked whole (type_in u.nodes of) at s)
    ((then) quietly quiet_law u v w (d >>= value) (value_rest asked (type_in u.nodes of) at) (operand_in v a)
    (OperandThere v a) FilledThere IsFilled r h
    (subst (λ (t : Ty). Answers quietly v w (value_rest asked t at (operand_in v a)) FilledThere IsFilled r)
    (h.grows.keeps.types of l) k))

pub value_fails : (u v : Work) (d : Doing meant.Operand) (asked : readings.Slot → Doing Unit) (whole : Pos) (of : Ty)
    (at : ℕ) (e : Refusal) → Answers quietly u v (d >>= value) OperandThere IsOperand (Err e) →
    Answers quietly u v (plain_initializer d asked whole of at) FilledThere IsFilled (Err e)
value_fails u v d asked whole of at e h =
    answers_at quietly u v (plain_initializer d asked whole of at)
    ((d >>= value) >>= value_rest asked of at) FilledThere IsFilled (Err e) (λ s t. plain_is d asked whole of at s)
    (failed quietly u v v (d >>= value) (value_rest asked of at) OperandThere IsOperand FilledThere IsFilled e h)

pub slot_steps : (u v w : Work) (asked : readings.Slot → Doing Unit) (of : Ty) (at : ℕ) (x : meant.Operand)
    (slot : Slot) (r : Result Filled Refusal) →
    Done quietly u v (plain_slot of at x) (SlotThere v slot) (IsSlot v slot) →
    Answers quietly v w (slot_rest asked (slot_in v.nodes slot)) FilledThere IsFilled r →
    Answers quietly u w (value_rest asked of at x) FilledThere IsFilled r
slot_steps u v w asked of at x slot r h k =
    (then) quietly quiet_law u v w (plain_slot of at x) (slot_rest asked) (slot_in v.nodes slot)
    (SlotThere v slot) FilledThere IsFilled r h k

pub slot_fails : (u v : Work) (asked : readings.Slot → Doing Unit) (of : Ty) (at : ℕ) (x : meant.Operand)
    (e : Refusal) → Answers quietly u v (plain_slot of at x) SlotThere IsSlot (Err e) →
    Answers quietly u v (value_rest asked of at x) FilledThere IsFilled (Err e)
slot_fails u v asked of at x e h =
    failed quietly u v v (plain_slot of at x) (slot_rest asked) SlotThere IsSlot FilledThere IsFilled e h

pub ask_fails : (v : Work) (asked : readings.Slot → Doing Unit) (x : readings.Slot) (e : Refusal) →
    Answers quietly v v (asked x) NothingThere IsNothing (Err e) →
    Answers quietly v v (slot_rest asked x) FilledThere IsFilled (Err e)
ask_fails v asked x e h =
    failed quietly v v v (asked x) (λ y. give (one_filled x)) NothingThere IsNothing FilledThere IsFilled e h

pub ask_steps : (v : Work) (asked : readings.Slot → Doing Unit) (slot : Slot) (f : Filled) →
    Done quietly v v (asked (slot_in v.nodes slot)) (NothingThere v tt) (IsNothing v tt) → SlotThere v slot →
    f.slots.items ≡ slot ∷ [] → f.count ≡ 0 →
    Answers quietly v v (slot_rest asked (slot_in v.nodes slot)) FilledThere IsFilled (Ok f)
ask_steps v asked slot f h there e n =
    let one = one_filled (slot_in v.nodes slot) in
    let i : one ≡ filled_in v.nodes f =
    ap (λ (xs : List Slot). (let y : readings.Filled = record { slots = slots_in v.nodes xs; count = 0 } in y)) (sym e)
    ∙ ap (λ (c : ℕ). (let y : readings.Filled = record { slots = slots_in v.nodes f.slots.items; count = c } in y))
    (sym n) in
    also_then quietly quiet_law v v v (asked (slot_in v.nodes slot)) (give one) (NothingThere v tt)
    (IsNothing v tt) FilledThere IsFilled (Ok f) h
    (subst (λ (y : readings.Filled). Done quietly v v (give one) (FilledThere v f) (λ s x. x ≡ y)) i
    (gave quietly quiet_law v one (FilledThere v f) h.whole
    (subst (λ (xs : List Slot). AreSlotsThere v.nodes xs) (sym e) (alone v slot there))))
  where
    alone : (v : Work) (slot : Slot) → SlotThere v slot → AreSlotsThere v.nodes (slot ∷ [])
    alone v slot h = λ k d l. let z : k ≡ 0 = omega arith in rw z h

-- nothing is asked
pub nothing_asked : (w : Work) → IsWhole w.nodes →
    Done {A = Unit {0}} quietly w w (give tt) (NothingThere w tt) (IsNothing w tt)
nothing_asked w h = record {
  whole = h;
  grows = quiet_same w;
  there = tt;
  gives = λ s k. record { value = tt; state = s; is = refl; stays = still_same s; shows = k; fits = tt };
}

-- a string
pub text_given : (u w : Work) (t : Lexeme) (xs : Syns) (bytes other : List ℕ) (whole : Pos) (of : Ty) (at : ℕ)
    (r : Result Filled Refusal) → other ≡ bytes → bytes ≡ text_bytes t xs →
    Answers quietly u w (string_filled other t.pos whole of at) FilledThere IsFilled r →
    Answers quietly u w (string_initializer t xs whole of at) FilledThere IsFilled r
text_given u w t xs bytes other whole of at r h e a =
    answers_at quietly u w (string_initializer t xs whole of at)
    (string_filled other t.pos whole of at) FilledThere IsFilled r
    (λ s k. ap (λ (d : Doing readings.Filled). d s)
    (string_is t xs whole of at ∙ ap (λ (bs : List ℕ). string_filled bs t.pos whole of at) (sym (h ∙ e)))) a
