-- An image under a legal map is loaded: no test of the loader refuses it.
use Rattle.std.proofs.Common.{◌≡◌, ℕ, ◌+◌, ◌%◌, ◌^◌, ◌<◌, ◌≤◌, ◌⊎◌, Bool, true, false, List, [], ◌∷◌, length, Ok, refl}
use Rattle.std.proofs.Common.{ap, ◌∙◌, arith, eq-eqb, inl, inr}
use Rattle.std.specs.Prelude.{◌&&◌, nat_le, nat_eq, All, if◌then◌else◌}
use Rattle.std.proofs.lemmas.Bool.{le-leb, lt-ltb, le-ltb}
use Rattle.std.proofs.lemmas.List.Elements.{All-head, All-tail}
use Rattle.cap_concentrate.specs.Rounding.{Encodable}
use Rattle.cap_concentrate.proofs.Laws.{least_of_encodable}
use Rattle.cap_ops.specs.declared.capability.TheConstants.{UNSEALED, SENTRY}
use Rattle.cap_ops.specs.Capability.{base, top}
use Rattle.cap_ops.proofs.Laws.{bounded_near}
use Rattle.cap_ops.specs.Permissions.{code_permissions}
use Rattle.obj_mem.specs.Legal.{AreApart}
use Rattle.obj_mem.specs.declared.map.Map.{Map}
use Rattle.cap_reloc.specs.Begins.{IsInside}
use Rattle.cap_reloc.specs.Stored.{IsStorable, IsSentry, IsDataWord, IsData, IsPointer}
use Rattle.elf_file.specs.declared.image.Image.{Image}
use Rattle.elf_file.specs.declared.image.Reloc.{Reloc}
use Rattle.image_load.specs.Judging.{text_limit, segments_limit}
use Rattle.image_load.specs.Judging.{Extent, end_of, text_of, initial_of, lies_well, segments_fit, overlap}
use Rattle.image_load.specs.Judging.{some_overlap, lies_inside, is_entry, is_encodable, is_sentry, is_permission_word}
use Rattle.image_load.specs.Judging.{address_of, capability_of, keeps_extent, is_place, is_capability, judged_relocs}
use Rattle.image_load.specs.Judging.{judged}

-- ---- exact bounds

-- multiples of 65,536 below 2^26 bytes apart
pub even_exact : (base length : ℕ) → base % 65536 ≡ 0 → length % 65536 ≡ 0 → length ≤ 33554432
    → base + length ≤ 2 ^ 40 → Encodable base (base + length)
even_exact base length a b c e = record {
  ordered = omega arith;
  within = omega arith;
  form = inr (13, record { within = omega arith; base_multiple = a; top_multiple = omega arith; short = omega arith });
}

exact_by : (e : Extent) (low high : ℕ) → nat_le (end_of e) (2 ^ 64) ≡ true → low ≡ e.0 → high ≡ end_of e
    → (nat_le (end_of e) (2 ^ 64) && nat_eq low e.0 && nat_eq high (end_of e)) ≡ true
exact_by e low high a b c = rw (a, eq-eqb low e.0 b, eq-eqb high (end_of e) c) refl

pub exact : (e : Extent) → Encodable e.0 (end_of e) → is_encodable e ≡ true
unfolding is_encodable
exact e h = let least = least_of_encodable e.0 (end_of e) h in
    exact_by e _ _ (le-leb (end_of e) (2 ^ 64) h.within) least.0 least.1

-- ---- segments

pub lies : (e : Extent) → e.0 % 16 ≡ 0 → e.1 % 16 ≡ 0 → 65536 ≤ e.0 → end_of e ≤ 2 ^ 40 → lies_well e ≡ true
unfolding lies_well
lies e a b c d = rw (eq-eqb (e.0 % 16) 0 a, eq-eqb (e.1 % 16) 0 b, le-leb 65536 e.0 c, le-leb (end_of e) (2 ^ 40) d)
    refl

pub fit : (t d h s : Extent) → lies_well t ≡ true → lies_well d ≡ true → lies_well h ≡ true → lies_well s ≡ true
    → t.1 ≤ text_limit → t.1 + d.1 + h.1 + s.1 ≤ segments_limit → segments_fit t d h s ≡ true
unfolding segments_fit
fit t d h s a b c e m n =
    rw (a, b, c, e, le-leb t.1 text_limit m, le-leb (t.1 + d.1 + h.1 + s.1) segments_limit n) refl

and_false : (a b : Bool) → b ≡ false → (a && b) ≡ false
and_false true b h = h
and_false false b h = refl

false_and : (a b : Bool) → a ≡ false → (a && b) ≡ false
false_and true b h = absurd cc
false_and false b h = refl

pub free : (a b : Extent) → AreApart a b → overlap a b ≡ false
unfolding overlap
free a b (inl before) = and_false _ _ (le-ltb b.0 (end_of a) before)
free a b (inr behind) = false_and _ _ (and_false _ _ (le-ltb a.0 (end_of b) behind))

pub none_overlap : (t d h s : Extent) → overlap t d ≡ false → overlap t h ≡ false → overlap t s ≡ false
    → overlap d h ≡ false → overlap d s ≡ false → overlap h s ≡ false → some_overlap t d h s ≡ false
unfolding some_overlap
none_overlap t d h s a b c e f g = rw (a, b, c, e, f, g) refl

pub inside : (a b : Extent) → b.0 ≤ a.0 → end_of a ≤ end_of b → lies_inside a b ≡ true
unfolding lies_inside
inside a b h g = rw (le-leb b.0 a.0 h, le-leb (end_of a) (end_of b) g) refl

pub entry : (at : ℕ) (t : Extent) → t.0 ≤ at → at < end_of t → at % 4 ≡ 0 → is_entry at t ≡ true
unfolding is_entry
entry at t a b c = rw (le-leb t.0 at a, lt-ltb at (end_of t) b, eq-eqb (at % 4) 0 c) refl

-- ---- relocations

pub placed : (at : ℕ) (i : Extent) → at % 16 ≡ 0 → i.0 ≤ at → at + 16 ≤ end_of i → is_place at i ≡ true
unfolding is_place
placed at i a b c = rw (eq-eqb (at % 16) 0 a, le-leb i.0 at b, le-leb (at + 16) (end_of i) c) refl

-- one that can be stored has its own bounds at its address
keeps : (r : Reloc) → IsStorable r → keeps_extent r ≡ true
unfolding keeps_extent
keeps r s =
    let bounds =
    bounded_near r.base (r.base + r.length) (r.perms % 128) (if is_sentry r.perms then SENTRY else UNSEALED)
    (address_of r) s.exact s.from s.to s.above s.below in
    rw (eq-eqb (base (capability_of r)) r.base bounds.0, eq-eqb (top (capability_of r)) (r.base + r.length) bounds.1)
    refl

sentry_word : is_permission_word (2 ^ 63 + code_permissions) ≡ true
unfolding is_permission_word
sentry_word = refl

data_word : (word : ℕ) → IsDataWord word → is_permission_word word ≡ true
unfolding is_permission_word
data_word word (inl e) = rw e refl
data_word word (inr e) = rw e refl

is_word : (m : Map) (r : Reloc) → IsSentry m r ⊎ IsData m r → is_permission_word r.perms ≡ true
is_word m r (inl s) = ap is_permission_word s.word ∙ sentry_word
is_word m r (inr d) = data_word r.perms d.word

pub capable : (m : Map) (r : Reloc) → IsPointer m r → is_capability r ≡ true
unfolding is_capability
capable m r h = rw (is_word m r h.kind, exact (r.base, r.length) h.storable.exact, keeps r h.storable) refl

-- each has its place, and is a capability
pub all_judged : (i : Extent) (rs : List Reloc) → All (IsInside i.0 i.1) rs → All (λ r. is_capability r ≡ true) rs
    → judged_relocs i rs (Ok tt) ≡ Ok tt
unfolding judged_relocs
all_judged i [] there fine = refl
all_judged i (r ∷ rs) there fine =
    let at = All-head (IsInside i.0 i.1) r rs there in
    rw (placed r.place i at.aligned at.above at.below, All-head (λ r. is_capability r ≡ true) r rs fine)
    (all_judged i rs (All-tail (IsInside i.0 i.1) r rs there) (All-tail (λ r. is_capability r ≡ true) r rs fine))

-- ---- all together

pub judged_by : (i : Image) → segments_fit (text_of i) (initial_of i) i.heap i.stack ≡ true
    → some_overlap (text_of i) (initial_of i) i.heap i.stack ≡ false → lies_inside i.table (initial_of i) ≡ true
    → is_entry i.entry (text_of i) ≡ true → judged_relocs (initial_of i) i.relocs (Ok tt) ≡ Ok tt
    → is_encodable (text_of i) ≡ true → is_encodable i.table ≡ true → is_encodable i.stack ≡ true → judged i ≡ Ok tt
unfolding judged
judged_by i a b c d e f g h = rw (a, b, c, d, e, f, g, h) refl
