-- An image that is not refused is contained exactly where no word and no relocation breaks a rule.
use Rattle.std.proofs.Common.{◌≡◌, ℕ, ◌<◌, ◌≤◌, ◌&&◌, ◌==◌, inl, inr, Bool, true, false, cond, length, Ok, refl, ap}
use Rattle.std.proofs.Common.{subst, arith}
use Rattle.std.specs.Prelude.{All, nat_lt, slice_index_or}
use Rattle.std.proofs.lemmas.Bool.{both_ways, cases_lt, and_parts, and_from, eqb-true, eq-eqb, ltb-true}
use Rattle.std.proofs.lemmas.Bool.{false_from_ne_true}
use Rattle.elf_file.specs.declared.image.Image.{Image}
use Rattle.elf_file.specs.declared.image.Reloc.{Reloc}
use Rattle.image_load.specs.Judging.{Extent, is_sentry, address_of, overlap, judged}
use Rattle.image_load.specs.Judging as judging
use Rattle.cap_machine.specs.ContainedText.{Text}
use Rattle.elf_audit.proofs.Audited.{place_true, place_from, audited, no_reason}
use Rattle.image_load.specs.Contained.{executes, text_in, IsEntryReloc, IsContainedReloc, Contained}
use Rattle.elf_audit.specs.Rules.{is_place, is_entry_reloc, reloc_reason, NoWord}
use Rattle.elf_audit.proofs.Sizes.{fits}
use Rattle.image_load.proofs.Judged.{no_both}

-- two extents that overlap share an address
shared : (a b : Extent) → overlap a b ≡ true →
    (x : ℕ) × ((a.0 ≤ x) × (x < judging.end_of a) × (b.0 ≤ x) × (x < judging.end_of b))
unfolding overlap
shared a b h =
    let f = and_parts (nat_lt 0 a.1 && nat_lt 0 b.1 && nat_lt a.0 (judging.end_of b))
    (nat_lt b.0 (judging.end_of a)) h in
    let g = and_parts (nat_lt 0 a.1 && nat_lt 0 b.1) (nat_lt a.0 (judging.end_of b)) f.0 in
    let k = and_parts (nat_lt 0 a.1) (nat_lt 0 b.1) g.0 in
    let p = ltb-true 0 a.1 k.0 in
    let q = ltb-true 0 b.1 k.1 in
    let u = ltb-true a.0 (judging.end_of b) g.1 in
    let v = ltb-true b.0 (judging.end_of a) f.1 in
    elim (cases_lt a.0 b.0) as (λ _. (x : ℕ) ×
    ((a.0 ≤ x) × (x < judging.end_of a) × (b.0 ≤ x) × (x < judging.end_of b))) [
      | inl less ↦ (b.0, (omega arith, omega arith, omega arith, omega arith))
      | inr more ↦ (a.0, (omega arith, omega arith, omega arith, omega arith))
    ]

-- a relocation that breaks no rule
record IsFineReloc (t : Text) (r : Reloc) : Type 0 where
  entry : executes r ≡ true → is_entry_reloc t r ≡ true
  apart : executes r ≡ false → overlap (t.base, length t.bytes) (r.base, r.length) ≡ false

fine_by : (t : Text) (r : Reloc) → reloc_reason t r ≡ 0 → IsFineReloc t r
fine_by t r h = by (executes r) refl
  where
    entry_by : (b : Bool) → ◌≡◌ {A = ℕ} (cond b 0 7) 0 → b ≡ true
    entry_by true e = refl
    entry_by false e = absurd (omega arith)

    apart_by : (b : Bool) → ◌≡◌ {A = ℕ} (cond b 8 0) 0 → b ≡ false
    apart_by true e = absurd (omega arith)
    apart_by false e = refl

    by : (b : Bool) → executes r ≡ b → IsFineReloc t r
    by true e = record {
      entry = λ _. entry_by (is_entry_reloc t r)
          (subst (λ b. ◌≡◌ {A = ℕ} (cond b (cond (is_entry_reloc t r) 0 7)
          (cond (overlap (t.base, length t.bytes) (r.base, r.length)) 8 0)) 0) e h);
      apart =
          λ f. absurd (both_ways (executes r) f e);
    }
    by false e = record {
      entry = λ f. absurd (both_ways (executes r) e f);
      apart = λ _. apart_by (overlap (t.base, length t.bytes) (r.base, r.length))
          (subst (λ b. ◌≡◌ {A = ℕ} (cond b (cond (is_entry_reloc t r) 0 7)
          (cond (overlap (t.base, length t.bytes) (r.base, r.length)) 8 0)) 0) e h);
    }

entry_parts : (t : Text) (r : Reloc) → is_entry_reloc t r ≡ true → IsEntryReloc t r
entry_parts t r h =
    let a = and_parts (is_sentry r.perms && r.base == t.base && r.length == length t.bytes)
    (is_place t (address_of r)) h in
    let b = and_parts (is_sentry r.perms && r.base == t.base) (r.length == length t.bytes) a.0 in
    let c = and_parts (is_sentry r.perms) (r.base == t.base) b.0 in
    record { sentry = c.0; base = eqb-true _ _ c.1; length = eqb-true _ _ b.1; place = place_true t (address_of r) a.1 }

contained_by : (t : Text) (r : Reloc) → reloc_reason t r ≡ 0 → IsContainedReloc t r
contained_by t r h =
    let f = fine_by t r h in
    record {
      entry = λ e. entry_parts t r (f.entry e);
      other = λ e x from to low high. no_both (t.base, length t.bytes) (r.base, r.length)
          (f.apart e) x low high from to;
    }

no_reloc_reason : (t : Text) (r : Reloc) → IsContainedReloc t r → reloc_reason t r ≡ 0
no_reloc_reason t r c = by (executes r) refl
  where
    is_entry : IsEntryReloc t r → is_entry_reloc t r ≡ true
    is_entry e = and_from _ _ (and_from _ _ (and_from _ _ e.sentry (eq-eqb r.base t.base e.base))
        (eq-eqb r.length (length t.bytes) e.length)) (place_from t (address_of r) e.place)

    by : (b : Bool) → executes r ≡ b →
        ◌≡◌ {A = ℕ} (cond b (cond (is_entry_reloc t r) 0 7)
        (cond (overlap (t.base, length t.bytes) (r.base, r.length)) 8 0)) 0
    by true e = ap (λ (b : Bool). cond {A = ℕ} b 0 7) (is_entry (c.entry e))
    by false e = ap (λ (b : Bool). cond {A = ℕ} b 8 0)
        (false_from_ne_true (overlap (t.base, length t.bytes) (r.base, r.length))
        (λ h. let s = shared (t.base, length t.bytes) (r.base, r.length) h in c.other e s.0 s.1.2 s.1.3 s.1.0 s.1.1))

-- an image in which no word and no relocation breaks a rule is contained
pub contained_image : (i : Image) → judged i ≡ Ok tt → NoWord (text_in i) →
    All (λ r. reloc_reason (text_in i) r ≡ 0) i.relocs → Contained i
contained_image i fine words relocs =
    let f = fits i fine in
    record {
      text = audited (text_in i) f.base f.size f.some words;
      relocs = λ k d lt. contained_by (text_in i) (slice_index_or i.relocs k d) (relocs k d lt);
    }

-- and in a contained image none does
pub no_word : (i : Image) → judged i ≡ Ok tt → Contained i → NoWord (text_in i)
no_word i fine c = let f = fits i fine in no_reason (text_in i) f.base f.size f.some c.text

pub no_reloc : (i : Image) → Contained i → All (λ r. reloc_reason (text_in i) r ≡ 0) i.relocs
no_reloc i c k d lt = no_reloc_reason (text_in i) (slice_index_or i.relocs k d) (c.relocs k d lt)
