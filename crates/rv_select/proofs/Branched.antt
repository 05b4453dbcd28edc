-- What is appended for branches to labels.
use Rattle.std.proofs.Common.{◌≡◌, ℕ, ◌+◌, pos, Bool, List, [], ◌∷◌, ◌++◌, length}
use Rattle.std.proofs.Common.{refl, ap, ◌∙◌, subst, arith, append_assoc}
use Rattle.std.proofs.lemmas.Int.{ints}
use Rattle.std.proofs.lemmas.List.{length-append}
use Rattle.rv_instr.specs.declared.instr.Instr.{Instr}
use Rattle.rv_instr.specs.declared.instr.Instr.TheVariants.{Branch, Cjal}
use Rattle.rv_instr.specs.declared.ops.BranchOp.{BranchOp}
use Rattle.select_words.specs.Selecting.{Selecting}
use Rattle.select_words.specs.Emitted.{Operand}
use Rattle.select_words.specs.Jumps.{inverted}
use Rattle.tac_ir.specs.declared.code.TacInstr.TheVariants as instr
use Rattle.rv_emit.specs.Growing.{Size, Links, Puts, jumping}
use Rattle.rv_emit.specs.Leading.{IsLedTo}
use Rattle.rv_select.specs.Noting.{Selects}
use Rattle.rv_emit.proofs.Landed.{landed}

module _ (s : Selecting) (on : ℕ) (when : Bool) (l : ℕ) (old found branched jumped new : Size) where
  pub branch_selected : (op : BranchOp) (r over left : ℕ) → left ≡ 28
      → Puts (λ ws. Operand s on left ws r) old found → found.links ≡ old.links → op ≡ inverted when
      → over ≡ length found.text → branched.text ≡ found.text ++ Branch op r 0 (pos 0) ∷ []
      → branched.links ≡ found.links → jumped.text ≡ branched.text ++ Cjal 0 (pos 0) ∷ []
      → jumped.links ≡ jumping branched.links (length branched.text) l
      → IsLedTo jumped.text new.text over (length jumped.text) → new.links ≡ jumped.links
      → Selects s (instr.Branch on when l) old new
  branch_selected op r over left e p k is at b m j n led q =
      let whole : jumped.text ≡ found.text ++ (Branch op r 0 (pos 0) ∷ Cjal 0 (pos 0) ∷ []) =
      j ∙ ap (λ x. x ++ Cjal 0 (pos 0) ∷ []) b
      ∙ append_assoc found.text (Branch op r 0 (pos 0) ∷ []) (Cjal 0 (pos 0) ∷ []) in
      let long : length jumped.text ≡ length found.text + 2 = ap length whole
      ∙ length-append found.text (Branch op r 0 (pos 0) ∷ Cjal 0 (pos 0) ∷ []) in
      let there = landed found.text (Cjal 0 (pos 0) ∷ []) jumped.text new.text (Branch op r 0 (pos 0)) over
      (length jumped.text) (pos 8) whole at led
      (record { ahead = omega (arith, at, long); back = omega (arith, at, long) }) (omega (arith, ints, at, long)) in
      let place : length branched.text ≡ length old.text + (length p.added + 1) =
      ap length (b ∙ ap (λ x. x ++ Branch op r 0 (pos 0) ∷ []) p.is) ∙ sized p.added in
      record {
        added = p.added ++ (Branch (inverted when) r 0 (pos 8) ∷ Cjal 0 (pos 0) ∷ []);
        is = there ∙ ap (λ x. x ++ (Branch op r 0 (pos 8) ∷ Cjal 0 (pos 0) ∷ [])) p.is
            ∙ append_assoc old.text p.added (Branch op r 0 (pos 8) ∷ Cjal 0 (pos 0) ∷ [])
            ∙ ap (λ (o : BranchOp). old.text ++ (p.added ++ (Branch o r 0 (pos 8) ∷ Cjal 0 (pos 0) ∷ []))) is;
        are = record {
          offset = pos 0;
          finds = p.added;
          branches = record { a = r; found = subst (λ y. Operand s on y p.added r) e p.are; are = refl };
          leads = (
            refl,
            q ∙ n ∙ ap (λ (x : Links). jumping x (length branched.text) l) (m ∙ k)
                ∙ ap (λ x. jumping old.links x l) place,
          );
        };
      }
    where
      sized : (fs : List Instr)
          → length ((old.text ++ fs) ++ Branch op r 0 (pos 0) ∷ []) ≡ length old.text + (length fs + 1)
      sized fs =
          let a = length-append (old.text ++ fs) (Branch op r 0 (pos 0) ∷ []) in
          let b = length-append old.text fs in
          omega (arith, a, b)
