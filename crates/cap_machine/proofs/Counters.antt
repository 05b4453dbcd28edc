-- The counter and the links.
use Rattle.std.proofs.Common.{◌≡◌, ℕ, ◌+◌, ◌%◌, ◌^◌, ◌⊎◌, ◌&&◌, ◌==◌, inl, inr, ℤ, Bool, true, false, cond, Ok, refl}
use Rattle.std.proofs.Common.{sym, ap, ◌∙◌, subst, arith}
use Rattle.std.specs.Prelude.{Contains}
use Rattle.std.proofs.lemmas.Bool.{both_ways, and_parts, and_from, eq-eqb, eqb-true, cond-true, not_from_true}
use Rattle.cap_concentrate.specs.Decoding.{same_bounds}
use Rattle.cap_concentrate.proofs.Laws.{same_bounds_near}
use Rattle.cap_ops.specs.declared.capability.Cap.{Cap}
use Rattle.cap_ops.specs.declared.capability.TheConstants.{UNSEALED, SENTRY, EXECUTE}
use Rattle.cap_ops.specs.Capability.{base, top, usable, permits, lacks, moved, added, with_otype, sealed, cleared}
use Rattle.cap_ops.specs.Access.{checked}
use Rattle.cap_ops.specs.declared.access.Access.TheVariants as access
use Rattle.cap_ops.proofs.Inside.{moved_bounds}
use Rattle.rv_instr.specs.declared.instr.Instr.{Instr}
use Rattle.rv_instr.specs.declared.instr.Instr.TheVariants.{Ecall}
use Rattle.cap_machine.specs.Integers.{extended}
use Rattle.cap_machine.specs.Rows.{plus, unsealed, entered}
use Rattle.cap_machine.specs.ContainedText.{Text, LiesWell, IsPlace, Stands, links, is_plain_jump, IsReturn}
use Rattle.cap_machine.specs.ContainedText.{IsContainedText}
use Rattle.cap_machine.specs.Containment.{IsCounter, IsConfined}
use Rattle.cap_machine.proofs.Passed.{Passes, checked_passes}
use Rattle.cap_machine.proofs.Places.{next_place, links_stays, sentry_place}

-- ---- the counter moves inside the text

moved_parts : (c : Cap) (a : ℕ) →
    ((moved c a).fields.otype ≡ c.fields.otype) × ((moved c a).fields.perms ≡ c.fields.perms) ×
    ((moved c a).fields.address ≡ a) × ((moved c a).tag ≡ (usable c && same_bounds c.fields a))
unfolding moved
moved_parts c a = (refl, refl, refl, refl)

pub moved_counter : (t : Text) (c : Cap) (a : ℕ) → LiesWell t → IsCounter t c → IsPlace t a → IsCounter t (moved c a)
moved_counter t c a well k place =
    let parts = moved_parts c a in
    let low = k.low in
    let high = k.high in
    let from = place.from in
    let below = place.below in
    let floor = well.low in
    let ceiling = well.high in
    let near : same_bounds c.fields a ≡ true =
    same_bounds_near c.fields a (omega arith) (omega arith) (omega arith) (omega arith) (omega arith) in
    let used : usable c ≡ true =
    and_from c.tag (c.fields.otype == UNSEALED) k.tagged (eq-eqb c.fields.otype UNSEALED k.unsealed) in
    let tag : (moved c a).tag ≡ true = parts.3 ∙ and_from (usable c) (same_bounds c.fields a) used near in
    let bounds = moved_bounds c a tag in
    record {
      tagged = tag;
      unsealed = parts.0 ∙ k.unsealed;
      execute = ap (λ p. permits p EXECUTE) parts.1 ∙ k.execute;
      low = bounds.0 ∙ low;
      high = bounds.1 ∙ high;
      place = subst (λ x. IsPlace t x) (sym parts.2) place;
    }

pub moved_address : (c : Cap) (a : ℕ) → (moved c a).fields.address ≡ a
moved_address c a = (moved_parts c a).2

module _ (t : Text) (well : LiesWell t) (text : IsContainedText t) where
  -- to the next instruction
  pub next_address : (c : Cap) → IsCounter t c → (c.fields.address + 4) % 2 ^ 64 ≡ c.fields.address + 4
  next_address c k = let below = k.place.below in let ceiling = well.high in omega arith

  pub next_counter : (c : Cap) (i : Instr) → IsCounter t c → Stands t c.fields.address i → is_plain_jump i ≡ false →
      IsCounter t (added c 4)
  next_counter c i k s stays =
      moved_counter t c ((c.fields.address + 4) % 2 ^ 64) well k
      (rw (next_address c k) (next_place t well text c.fields.address i s stays))

  -- ---- a link is a sentry at a return place

  sealed_confined : (c : Cap) → IsCounter t c → Contains t.entries c.fields.address ⊎ IsReturn t c.fields.address →
      IsConfined t (sealed c)
  unfolding sealed with_otype
  sealed_confined c k place =
      let used : usable c ≡ true =
      and_from c.tag (c.fields.otype == UNSEALED) k.tagged (eq-eqb c.fields.otype UNSEALED k.unsealed) in
      let below = k.place.below in
      let ceiling = well.high in
      let s : Cap = record c { fields = with_otype c.fields SENTRY } in
      rw (cond-true (usable c && permits c.fields.perms EXECUTE) s (cleared c)
      (and_from (usable c) (permits c.fields.perms EXECUTE) used k.execute))
      (record {
        address = omega arith;
        tagged = λ tag. inl (record { sentry = refl; execute = k.execute; low = k.low; high = k.high; place = place });
      })

  pub link_confined : (c : Cap) (i : Instr) → IsCounter t c → Stands t c.fields.address i → links i ≡ true →
      IsConfined t (sealed (added c 4))
  link_confined c i k s h =
      let to = next_counter c i k s (links_stays i h).0 in
      let at : (added c 4).fields.address ≡ c.fields.address + 4 =
      moved_address c ((c.fields.address + 4) % 2 ^ 64) ∙ next_address c k in
      sealed_confined (added c 4) to (inr (record
      { call = i; links = h; before = c.fields.address; next = at; stands = s }))

  -- ---- a jump through a confined capability enters the text by a sentry

  pub record Enters (d : Cap) (at : ℕ) : Type 0 where
    pub counter : IsCounter t (moved d at)
    pub no_call : Stands t at Ecall → ⊥

  -- through an unsealed capability there is none
  no_plain : (c : Cap) (at : ℕ) → IsConfined t c → Passes c at access.Jump → ⊥
  no_plain c at held p = elim (held.tagged p.tagged) [
    | inl gate ↦ let a = gate.sentry in let b = p.unsealed in omega arith
    | inr plain ↦ both_ways (lacks c.fields.perms EXECUTE)
        (not_from_true (permits c.fields.perms EXECUTE) (p.execute refl)) plain.no_execute
  ]

  unsealed_parts : (c : Cap) →
      ((unsealed c).tag ≡ c.tag) × ((unsealed c).fields.otype ≡ UNSEALED) ×
      ((unsealed c).fields.perms ≡ c.fields.perms) × ((unsealed c).fields.address ≡ c.fields.address) ×
      (base (unsealed c) ≡ base c) × (top (unsealed c) ≡ top c)
  unfolding unsealed with_otype
  unsealed_parts c = (refl, refl, refl, refl, refl, refl)

  -- through a sentry with the immediate 0
  by_sentry : (c : Cap) (z : ℤ) → IsConfined t c → extended z ≡ 0 →
      Passes (unsealed c) (plus (unsealed c).fields.address z) access.Jump →
      Enters (unsealed c) (plus (unsealed c).fields.address z)
  by_sentry c z held none p =
      let parts = unsealed_parts c in
      let execute : permits c.fields.perms EXECUTE ≡ true =
      sym (ap (λ q. permits q EXECUTE) parts.2) ∙ p.execute refl in
      elim (held.tagged (sym parts.0 ∙ p.tagged)) as (λ _. Enters (unsealed c) (plus (unsealed c).fields.address z)) [
        | inl gate ↦
            let below = held.address in
            let at : plus (unsealed c).fields.address z ≡ c.fields.address = omega (arith, parts.3) in
            let place = sentry_place t well text c.fields.address gate.place in
            let k : IsCounter t (unsealed c) = record {
              tagged = p.tagged;
              unsealed = parts.1;
              execute = p.execute refl;
              low = parts.4 ∙ gate.low;
              high = parts.5 ∙ gate.high;
              place = subst (λ x. IsPlace t x) (sym parts.3) place.0;
            } in
            record {
              counter = moved_counter t (unsealed c) (plus (unsealed c).fields.address z) well k
                  (subst (λ x. IsPlace t x) (sym at) place.0);
              no_call = λ call. place.1 (subst (λ x. Stands t x Ecall) at call);
            }
        | inr plain ↦ absurd (both_ways (lacks c.fields.perms EXECUTE)
            (not_from_true (permits c.fields.perms EXECUTE) execute) plain.no_execute)
      ]

  -- by the test of a sentry
  entered_by : (c : Cap) (z : ℤ) (b : Bool) → IsConfined t c → (b ≡ true → extended z ≡ 0) →
      Passes (cond b (unsealed c) c) (plus (cond b (unsealed c) c).fields.address z) access.Jump
      → Enters (cond b (unsealed c) c) (plus (cond b (unsealed c) c).fields.address z)
  entered_by c z true held none p = by_sentry c z held (none refl) p
  entered_by c z false held none p = absurd (no_plain c (plus c.fields.address z) held p)

  pub entered_text : (c : Cap) (z : ℤ) (at : ℕ) → IsConfined t c →
      checked (entered c z) (plus (entered c z).fields.address z) access.Jump ≡ Ok at → Enters (entered c z) at
  entered_text c z at held e =
      let p = checked_passes (entered c z) (plus (entered c z).fields.address z) at access.Jump e in
      subst (λ x. Enters (entered c z) x) p.0
      (entered_by c z (c.fields.otype == SENTRY && extended z == 0) held
      (λ h. eqb-true (extended z) 0 (and_parts (c.fields.otype == SENTRY) (extended z == 0) h).1) p.1)
