-- What is appended for copies of structs has its form.
use Rattle.std.proofs.Common.{◌≡◌, ℕ, zero, suc, ◌+◌, ◌/◌, ◌^◌, ◌<◌, [], ◌++◌, length}
use Rattle.std.proofs.Common.{refl, sym, ap, ◌∙◌, subst, arith}
use Rattle.std.proofs.lemmas.List.{append-nil, length-append}
use Rattle.ck_base.specs.declared.positions.Pos.{Pos}
use Rattle.tac_ir.specs.declared.code.TacInstr.TheVariants as instr
use Rattle.select_words.specs.Selecting.{Selecting}
use Rattle.select_words.specs.Words.{Bring}
use Rattle.select_words.specs.Copying.{unit_words, Brings, Nothing, One, Round}
use Rattle.rv_emit.specs.Growing.{Size, Puts, both_trapping}
use Rattle.rv_idioms.specs.Copies.{Twice, RoundWords}
use Rattle.rv_select.specs.Noting.{noting, Selects}
use Rattle.rv_select.specs.Selected.{Ways, noted_copy}
use Rattle.rv_emit.proofs.Appended.{puts_then, more}
use Rattle.rv_idioms.proofs.Copied.{both_at}

-- ---- what is noted of a copy

noted_none : (y : Ways) (units skip : ℕ) (first second : Pos) → units ≡ 0 → y.Passes
    → noted_copy y units skip first second
noted_none y units skip first second e p = subst (λ n. noted_copy y n skip first second) (sym e) p

noted_some : (y : Ways) (units skip : ℕ) (first second : Pos) → 0 < units → y.TrapsTwice skip first second
    → noted_copy y units skip first second
noted_some y zero skip first second some t = absurd (omega arith)
noted_some y (suc n) skip first second some t = t

-- ---- whole

pub copied_nothing : (s : Selecting) (from to bytes unit : ℕ) (first second : Pos) (old : Size) → bytes / unit ≡ 0
    → Selects s (instr.CopyUnits from to bytes unit first second) old old
copied_nothing s from to bytes unit first second old none = record {
  added = [];
  is = sym (append-nil old.text);
  are = (0, Nothing none refl, noted_none (noting old old) (bytes / unit) 0 first second none refl);
}

module _ (s : Selecting) (from to bytes unit left right : ℕ) (first second : Pos) (old found both new : Size)
    (is : left ≡ 28) (same : right ≡ 29) (p : 0 < left → Puts (Bring s from left) old found)
    (q : 0 < right → Puts (Bring s to right) found both) (links : both.links ≡ old.links) where
  brings : Puts (Brings s from to) old both
  brings = puts_then (Bring s from 28) (Bring s to 29) (Brings s from to) old found both
      (subst (λ r. Puts (Bring s from r) old found) is (p (omega (arith, is))))
      (subst (λ r. Puts (Bring s to r) found both) same (q (omega (arith, same))))
      (λ fs os f o. record { finds = fs; others = os; first = f; second = o; are = refl })

  pub copied_one : bytes / unit ≡ 1 → new.text ≡ both.text ++ unit_words unit
      → new.links ≡ both_trapping both.links (length both.text) first second
      → Selects s (instr.CopyUnits from to bytes unit first second) old new
  copied_one one e twice = record {
    added = brings.added ++ unit_words unit;
    is = more old.text brings.added (unit_words unit) both.text new.text brings.is e;
    are = (
      length brings.added,
      One one brings.added brings.are refl refl,
      noted_some (noting old new) (bytes / unit) (length brings.added) first second (omega (arith, one))
          (both_at old.links both.links new.links (length both.text) (length old.text + length brings.added) first
          second twice links (ap length brings.is ∙ length-append old.text brings.added)),
    );
  }

  pub copied_round : 0 < bytes / unit → bytes / unit < 2 ^ 31
      → Puts (RoundWords (Twice both new first second) (bytes / unit) unit) both new
      → Selects s (instr.CopyUnits from to bytes unit first second) old new
  copied_round some few r =
      let size = ap length brings.is ∙ length-append old.text brings.added in
      record {
        added = brings.added ++ r.added;
        is = more old.text brings.added r.added both.text new.text brings.is r.is;
        are = (
          length brings.added + length r.are.number,
          Round some few brings.added r.are.number brings.are r.are.makes.makes r.are.makes.few refl
              (ap (λ x. brings.added ++ x) r.are.are),
          noted_some (noting old new) (bytes / unit) (length brings.added + length r.are.number) first second some
              (both_at old.links both.links new.links (length both.text + length r.are.number)
              (length old.text + (length brings.added + length r.are.number)) first second r.are.reports links
              (omega (arith, size))),
        );
      }
