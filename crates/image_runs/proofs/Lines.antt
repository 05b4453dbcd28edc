-- In lines that ascend the one at a line's address is that line.
use Rattle.std.proofs.Common.{◌≡◌, ℕ, zero, suc, ◌+◌, ◌≤◌, true, List, [], ◌∷◌, Some, refl, ap, ◌∙◌}
use Rattle.std.proofs.Common.{arith, if◌then◌else◌, subst}
use Rattle.std.specs.Prelude.{◌==◌, ◌&&◌, nat_le, nat_lt, slice_get}
use Rattle.std.specs.List.{Contains, find}
use Rattle.std.proofs.lemmas.Bool.{and_parts, leb-true, eq-eqb, ne_eqb}
use Rattle.std.proofs.lemmas.Option.{slice_get-get_or}
use Rattle.elf_file.specs.Image.{lines_ok, position_of}
use Rattle.elf_file.specs.declared.image.Image.{Image}
use Rattle.elf_file.specs.declared.image.Line.{Line}

first_line : (least size : ℕ) (x : Line) (ls : List Line) → lines_ok least size (x ∷ ls) ≡ true
    → (least ≤ x.at) × (lines_ok (x.at + 1) size ls ≡ true)
first_line least size x ls ok =
    let parts = and_parts (nat_le least x.at && nat_lt x.at size && nat_lt x.kind 2) (lines_ok (x.at + 1) size ls) ok in
    let front = and_parts (nat_le least x.at && nat_lt x.at size) (nat_lt x.kind 2) parts.0 in
    (leb-true least x.at (and_parts (nat_le least x.at) (nat_lt x.at size) front.0).0, parts.1)

module _ (base : ℕ) where
  abbrev line_there : List Line → Line → Type 0
  line_there ls l = find (λ (x : Line). base + x.at == base + l.at) ls ≡ Some l

  found : (least size : ℕ) (ls : List Line) → lines_ok least size ls ≡ true → (k : ℕ) (l : Line)
      → slice_get ls k ≡ Some l → (least ≤ l.at) × line_there ls l
  found least size [] ok k l e = cc
  found least size (x ∷ ls) ok zero l e =
      let same : x ≡ l = cc in
      subst (λ (y : Line). (least ≤ y.at) × line_there (x ∷ ls) y) same (
        (first_line least size x ls ok).0,
        ap (λ b. if b then Some x else find (λ (y : Line). base + y.at == base + x.at) ls)
            (eq-eqb (base + x.at) (base + x.at) refl),
      )
  found least size (x ∷ ls) ok (suc k) l e =
      let parts = first_line least size x ls ok in
      let low = parts.0 in
      let later = found (x.at + 1) size ls parts.1 k l e in
      let high = later.0 in (
        omega arith,
        ap (λ b. if b then Some x else find (λ (y : Line). base + y.at == base + l.at) ls)
            (ne_eqb (base + x.at) (base + l.at) (λ same. omega (arith, same, high)))
            ∙ later.1,
      )

-- the line at its address in an image
pub line_found : (i : Image) (size : ℕ) → lines_ok 0 size i.lines ≡ true → (l : Line) → Contains i.lines l
    → position_of i (i.text_base + l.at) ≡ Some l
line_found i size ok l c =
    (found i.text_base 0 size i.lines ok c.0 l (slice_get-get_or i.lines c.0 l c.1 ∙ ap Some c.2)).1
