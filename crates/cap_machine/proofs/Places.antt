-- Where control goes in a contained text.
use Rattle.std.proofs.Common.{◌≡◌, ℕ, ◌+◌, ◌⊎◌, ◌==◌, inl, inr, true, false, refl, sym, ap, ◌∙◌, subst, arith}
use Rattle.std.specs.Prelude.{Contains}
use Rattle.std.proofs.lemmas.Bool.{false≢true, not-true, cases_eq, both_ways}
use Rattle.std.proofs.lemmas.Option.{same_Some}
use Rattle.rv_instr.specs.declared.instr.Instr.{Instr}
use Rattle.rv_instr.specs.declared.instr.Instr.TheVariants.{Upper, Cjal, Cjalr, Branch, Load, Store, Clc, Imm, Shift}
use Rattle.rv_instr.specs.declared.instr.Instr.TheVariants.{Op, Ecall, Ebreak, CapImm, CapReg, CapGet}
use Rattle.cap_machine.specs.ContainedText.{Text, end_of, LiesWell, IsPlace, Stands, links, is_plain_jump, sets_service}
use Rattle.cap_machine.specs.ContainedText.{IsReturn, IsContainedText}

-- two instructions at one place are one
pub same_instr : (t : Text) (x : ℕ) (i j : Instr) → Stands t x i → Stands t x j → i ≡ j
same_instr t x i j a b = same_Some i j (sym a.is ∙ b.is)

-- a word that links is no plain jump, and sets no number
pub links_stays : (i : Instr) → links i ≡ true → (is_plain_jump i ≡ false) × (sets_service i ≡ false)
links_stays (Cjal rd z) h = (not-true (rd == 0) h, refl)
links_stays (Cjalr rd rs1 z) h = (not-true (rd == 0) h, refl)
links_stays (Upper op rd n) h = absurd (false≢true h)
links_stays (Branch op rs1 rs2 z) h = absurd (false≢true h)
links_stays (Load op rd rs1 z) h = absurd (false≢true h)
links_stays (Store op rs2 rs1 z) h = absurd (false≢true h)
links_stays (Clc rd rs1 z) h = absurd (false≢true h)
links_stays (Imm op rd rs1 z) h = absurd (false≢true h)
links_stays (Shift op rd rs1 n) h = absurd (false≢true h)
links_stays (Op op rd rs1 rs2) h = absurd (false≢true h)
links_stays (CapImm op rd rs1 z) h = absurd (false≢true h)
links_stays (CapReg op rd rs1 rs2) h = absurd (false≢true h)
links_stays (CapGet op rd rs1) h = absurd (false≢true h)
links_stays Ebreak h = absurd (false≢true h)
links_stays Ecall h = absurd (false≢true h)

module _ (t : Text) (well : LiesWell t) (text : IsContainedText t) where
  -- behind an instruction that is no plain jump there is another
  pub next_place : (x : ℕ) (i : Instr) → Stands t x i → is_plain_jump i ≡ false → IsPlace t (x + 4)
  next_place x i s stays =
      let place = s.place in
      let below = place.below in
      let from = place.from in
      let even = place.even in
      let last = text.last in
      let end = last.end in
      let low = well.base in
      let size = well.size in
      elim (cases_eq (x + 4) (end_of t)) as (λ _. IsPlace t (x + 4)) [
        | inl e ↦
            let at : last.at ≡ x = omega arith in
            let same : last.last ≡ i =
            same_instr t x last.last i (subst (λ y. Stands t y last.last) at last.stands) s in
            absurd (both_ways (is_plain_jump i) stays (sym (ap (λ j. is_plain_jump j) same) ∙ last.plain))
        | inr other ↦ record { from = omega arith; below = omega arith; even = omega arith }
      ]

  -- an `ecall` stands only behind the instruction that sets its number
  pub no_call_behind : (x : ℕ) (i : Instr) → Stands t x i → sets_service i ≡ false → Stands t (x + 4) Ecall → ⊥
  no_call_behind x i s none call =
      let follows = text.numbered (x + 4) call in
      let next = follows.next in
      let at : follows.before ≡ x = omega arith in
      let same : follows.sets ≡ i =
      same_instr t x follows.sets i (subst (λ y. Stands t y follows.sets) at follows.stands) s in
      both_ways (sets_service i) none (sym (ap (λ j. sets_service j) same) ∙ follows.service)

  -- where a sentry leads is a place, and no `ecall`
  pub sentry_place : (x : ℕ) → Contains t.entries x ⊎ IsReturn t x → IsPlace t x × (Stands t x Ecall → ⊥)
  sentry_place x (inl entry) = (well.entries x entry, text.no_entry x entry)
  sentry_place x (inr back) =
      let stays = links_stays back.call back.links in
      let at : back.before + 4 ≡ x = sym back.next in (
        subst (λ y. IsPlace t y) at (next_place back.before back.call back.stands stays.0),
        λ call. no_call_behind back.before back.call back.stands stays.1 (subst (λ y. Stands t y Ecall) back.next call),
      )
