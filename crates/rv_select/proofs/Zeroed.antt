-- What is appended for objects in the frame has its form.
use Rattle.std.proofs.Common.{◌≡◌, ℕ, ◌^◌, ◌<◌, List, [], ◌∷◌, ◌++◌}
use Rattle.std.proofs.Common.{length, refl, ap, ◌∙◌, subst, sym}
use Rattle.std.specs.Prelude.{IfSome, Some, slice_get}
use Rattle.rv_instr.specs.declared.instr.Instr.{Instr}
use Rattle.rv_instr.specs.declared.instr.Instr.TheVariants.{CapReg}
use Rattle.rv_instr.specs.declared.ops.CapRegOp.TheVariants.{Csetboundsexact}
use Rattle.obj_mem.specs.declared.map.Slot.{Slot}
use Rattle.obj_mem.specs.Legal.{slot_of}
use Rattle.purecap_abi.specs.Words.{moved_code}
use Rattle.select_words.specs.Emitted.{Target, Keep}
use Rattle.select_words.specs.Capabilities.{Local, LocalWords}
use Rattle.select_words.specs.Zeroing.{Zeroes, granules, ZeroWords}
use Rattle.rv_select.specs.declared.function.Function.{Function}
use Rattle.rv_select.specs.Choosing.{chosen}
use Rattle.rv_emit.specs.Growing.{Size, Puts, IsWordNumber, reach}
use Rattle.rv_select.specs.Objects.{HasObject}
use Rattle.rv_emit.proofs.Appended.{puts_then, puts_map}
use Rattle.rv_select.proofs.Formed.{makes_of}

-- ---- slots

-- the slot that was looked up is the object's
slot_is : (f : Function) (var : ℕ) (found : Slot) → IfSome (slice_get f.frame.now.slots var) (λ s. found ≡ s)
    → (h : HasObject f.frame.now var) → found ≡ h.slot
slot_is f var found e h = subst (λ o. IfSome o (λ s. found ≡ s)) h.is e

module _ (f : Function) (var : ℕ) (found : Slot) (is : IfSome (slice_get f.frame.now.slots var) (λ s. found ≡ s))
    (h : HasObject f.frame.now var) where
  near : found.at < reach
  near = subst (λ (x : Slot). x.at < reach) (sym (slot_is f var found is h)) h.near

  short : found.length < 2 ^ 31
  short = subst (λ (x : Slot). x.length < 2 ^ 31) (sym (slot_is f var found is h)) h.short

-- ---- pointers

module _ (f : Function) (to var : ℕ) (old moved numbered narrowed new : Size) where
  pub local_of : (r : ℕ) (found : Slot) → IfSome (slice_get f.frame.now.slots var) (λ s. found ≡ s)
      → Target (chosen f) to r
      → (found.at < reach → moved.text ≡ old.text ++ moved_code r 2 found.at)
      → (found.length < 2 ^ 31 → Puts (IsWordNumber 29 found.length) moved numbered)
      → narrowed.text ≡ numbered.text ++ CapReg Csetboundsexact r r 29 ∷ [] → Puts (Keep (chosen f) to r) narrowed new
      → HasObject f.frame.now var → Puts (LocalWords (chosen f) to var) old new
  local_of r found is t m n c k h =
      let long = found.length in
      let at = found.at in
      let bounds = CapReg Csetboundsexact r r 29 ∷ [] in
      let Rest : List Instr → Type 0 = λ ws. (number : List Instr) × IsWordNumber 29 long number
      × (ws ≡ number ++ bounds) in
      let rest : Puts Rest moved narrowed = puts_then (IsWordNumber 29 long) (λ ws. ws ≡ bounds) Rest moved numbered
      narrowed
      (n (short f var found is h)) (record { added = bounds; is = c; are = refl })
      (λ ns ws p e. (ns, p, ap (λ x. ns ++ x) e)) in
      let work : Puts (Local at long r) old narrowed = puts_then (λ ws. ws ≡ moved_code r 2 at) Rest (Local at long r)
      old moved narrowed (record { added = moved_code r 2 at; is = m (near f var found is h); are = refl }) rest
      (λ ms ws e p. record {
        number = p.0;
        small = short f var found is h;
        makes = p.1.makes;
        few = p.1.few;
        are = ap (λ x. x ++ ws) e ∙ ap (λ x. moved_code r 2 at ++ x) p.2;
      }) in
      puts_map _ (LocalWords (chosen f) to var) old new
      (λ ws made. record {
        frame = f.frame.now;
        is = refl;
        slot = found;
        has = subst (λ (x : Slot). slot_of f.frame.now var ≡ Some x) (sym (slot_is f var found is h)) h.named;
        makes = made;
      })
      (makes_of (chosen f) to (Local at long) old narrowed new r t work k)

-- ---- zeros

pub zero_of : (f : Function) (var : ℕ) (found : Slot) (old new : Size)
    → IfSome (slice_get f.frame.now.slots var) (λ s. found ≡ s) → HasObject f.frame.now var
    → (found.at < reach → found.length < 2 ^ 31 → Puts (Zeroes found.at (granules found)) old new)
    → Puts (ZeroWords (chosen f) var) old new
zero_of f var found old new is h p =
    puts_map (Zeroes found.at (granules found)) (ZeroWords (chosen f) var) old new
    (λ ws z. record {
      frame = f.frame.now;
      is = refl;
      slot = found;
      has = subst (λ (x : Slot). slot_of f.frame.now var ≡ Some x) (sym (slot_is f var found is h)) h.named;
      zeroes = z;
    })
    (p (near f var found is h) (short f var found is h))
