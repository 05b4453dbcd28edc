-- What selection gives is the code of a program.
use Rattle.std.proofs.Common.{◌≡◌, ℕ, zero, suc, ◌+◌, ◌*◌, ◌%◌, ◌<◌, ◌≤◌, List, [], ◌∷◌, length, Some, sym, ap, ◌∙◌}
use Rattle.std.proofs.Common.{subst, arith, inl, inr}
use Rattle.std.specs.Prelude.{slice_get, slice_index}
use Rattle.std.specs.List.{All}
use Rattle.std.proofs.lemmas.Bool.{cases_lt}
use Rattle.std.proofs.lemmas.Option.{slice_get_within, get_or_from_slice_get}
use Rattle.std.proofs.lemmas.List.Elements.{All-head, All-tail}
use Rattle.accepted_files.specs.Accepted.{weight_limit}
use Rattle.c_tree.specs.Weight.{weight}
use Rattle.c_tree.specs.WellTyped.{WellTyped}
use Rattle.c_tree.specs.declared.typed.Typed.{Typed}
use Rattle.bounds_place.specs.Placing.{AreOffsets}
use Rattle.elf_file.specs.declared.image.Line.{Line}
use Rattle.elf_file.proofs.Lines.{rules_from_test}
use Rattle.rv_instr.specs.Range.{InRange}
use Rattle.rv_instr.specs.declared.instr.Instr.{Instr}
use Rattle.rv_emit.specs.Growing.{IsText, AreEntries}
use Rattle.typed_build.specs.Coded.{IsCoded}

pub all_get : {A : Type 0} (P : A → Type 0) (xs : List A) → All P xs → (k : ℕ) (x : A) → slice_get xs k ≡ Some x → P x
all_get P [] h k x e = absurd cc
all_get P (y ∷ ys) h zero x e = let s : y ≡ x = cc in subst P s (All-head P y ys h)
all_get P (y ∷ ys) h (suc k) x e = all_get P ys (All-tail P y ys h) k x e

-- a program has a function, so its code has a word
some_function : (p : Typed) → WellTyped p → 0 < length p.funs
some_function p w = omega (arith, slice_get_within p.funs p.main w.main.main w.main.there)

pub some_word : (p : Typed) → WellTyped p → (words : ℕ) (entries : List ℕ) → length entries ≡ length p.funs
    → AreEntries words entries → 0 < words
some_word p w words entries n h = omega (arith, h.inside 0 (omega (arith, some_function p w, n)))

pub coded_of : (p : Typed) (code : List Instr) (start : ℕ) (lines : List Line) → weight p ≤ weight_limit
    → 4 * length code ≤ 128 * weight p + 4096 → IsText code lines → start ≡ 0 → 0 < length code
    → IsCoded p code start lines
coded_of p code start lines light size text at some =
    let rules = rules_from_test 0 (4 * length code) lines text.lines in
    record {
      light = light;
      size = size;
      in_range = all_get InRange code text.in_range;
      start_even = ap (λ n. n % 4) at;
      start_in = omega (arith, at, some);
      ascend = rules.0;
      in_text = rules.1;
      kinds = rules.2;
    }

pub offsets_of : (words size : ℕ) (entries : List ℕ) → AreEntries words entries → 4 * words ≤ size
    → AreOffsets entries size
offsets_of words size entries h room = record {
  multiple = λ f at e. let i = index f at e in ap (λ n. n % 4) (sym i.1) ∙ h.whole f i.0;
  below = λ f at e. let i = index f at e in omega (arith, i.1, h.inside f i.0, room);
  distinct = λ f g at e d.
      let i = index f at e in
      let j = index g at d in
      elim (cases_lt f g) as (λ _. f ≡ g) [
        | inl less ↦ absurd (omega (arith, h.ascend f g less j.0, i.1, j.1))
        | inr more ↦ elim (cases_lt g f) as (λ _. f ≡ g) [
          | inl less ↦ absurd (omega (arith, h.ascend g f less i.0, i.1, j.1))
          | inr other ↦ omega (arith, more, other)
        ]
      ];
}
  where
    index : (f at : ℕ) → slice_get entries f ≡ Some at → (f < length entries) × (slice_index entries f ≡ at)
    index f at e = (slice_get_within entries f at e, get_or_from_slice_get entries f at 0 e)
