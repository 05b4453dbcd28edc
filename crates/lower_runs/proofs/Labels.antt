-- Labels that are looked for.
use Rattle.std.proofs.Common.{◌≡◌, ◌≢◌, ℕ, ◌+◌, ◌≤◌, Bool, true, false, List, [], ◌∷◌, Option, refl, ap}
use Rattle.std.proofs.Common.{◌∙◌, arith, if◌then◌else◌}
use Rattle.std.specs.Prelude.{◌==◌}
use Rattle.std.proofs.lemmas.Bool.Decides.{nat_tests}
use Rattle.ck_base.specs.World.{World}
use Rattle.c_tree.specs.declared.typed.Typed.{Typed}
use Rattle.obj_mem.specs.Values.{Value}
use Rattle.cheri_c_sem.specs.Modes.{Store}
use Rattle.cheri_c_sem.specs.Operations.{Operations}
use Rattle.cheri_c_sem.specs.Steps.{State, Then}
use Rattle.tac_ir.specs.Meaning.{Running, Runs, Seeks, Again, pass, behind_turn, seek, is_label}
use Rattle.tac_ir.specs.Temps.{behind}
use Rattle.tac_ir.specs.declared.code.Tac.{Tac}
use Rattle.tac_ir.specs.declared.code.TacInstr.{TacInstr}
use Rattle.tac_ir.specs.declared.code.TacInstr.TheVariants as instr
use Rattle.lower_runs.specs.Operating.{Code}
use Rattle.lower_runs.specs.Expressions.{Mark, labelled, choice_code, guarded_code}
use Rattle.lower_runs.specs.Simulation.{IsPiece, goes}

pub pass_label : (k o : ℕ) (rest : List TacInstr) → k ≢ o → behind o (instr.Label k ∷ rest) ≡ behind o rest
pass_label k o rest ne = let e : (k == o) ≡ false = grind (arith, nat_tests) in
    ap (λ b. if b then rest else behind o rest) e

pub found_label : (k : ℕ) (rest : List TacInstr) → behind k (instr.Label k ∷ rest) ≡ rest
found_label k rest = let e : (k == k) ≡ true = grind (arith, nat_tests) in ap (λ b. if b then rest else behind k rest) e

-- ---- pieces one behind the other

pub nothing_own : (m : Mark) → IsPiece m m (λ r. r)
nothing_own m = record { temps = omega arith; labels = omega arith; own = λ o rest h. refl }

pub both_own : (l m n : Mark) (c d : Code) → IsPiece l m c → IsPiece m n d → IsPiece l n (λ r. c (d r))
both_own l m n c d a b = record {
  temps = let x = a.temps in let y = b.temps in omega arith;
  labels = let x = a.labels in let y = b.labels in omega arith;
  own = λ o rest h. a.own o (d rest) (λ le. let z = h le in let y = b.labels in omega arith)
      ∙ b.own o rest (λ le. let x = a.labels in h (omega arith));
}

-- instructions behind a piece that are no labels, and temps of their own
pub then_own : (m n o : Mark) (c d : Code) → n.temps ≤ o.temps → n.labels ≡ o.labels →
    ((l : ℕ) (rest : List TacInstr) → behind l (d rest) ≡ behind l rest) → IsPiece m n c → IsPiece m o (λ r. c (d r))
then_own m n o c d le same plain a =
    both_own m n o c d a (record { temps = le; labels = omega arith; own = λ l rest h. plain l rest })

-- the code of a choice, and of a condition that jumps over what follows it
pub choice_own : (l m n o : Mark) (c d f : Code) → IsPiece (labelled 2 l) m c → IsPiece m n d → IsPiece n o f →
    IsPiece l o (choice_code l.labels c d f)
choice_own l m n o c d f a b e = record {
  temps = let x = a.temps in let y = b.temps in let z = e.temps in omega arith;
  labels = let x = a.labels in let y = b.labels in let z = e.labels in omega arith;
  own = λ i rest h.
      let x = a.labels in let y = b.labels in let z = e.labels in
      a.own i (d (instr.Jump (l.labels + 1) ∷ instr.Label l.labels ∷ f (instr.Label (l.labels + 1) ∷ rest)))
      (λ le. let q = h (omega arith) in omega arith)
      ∙ b.own i (instr.Jump (l.labels + 1) ∷ instr.Label l.labels ∷ f (instr.Label (l.labels + 1) ∷ rest))
      (λ le. let q = h (omega arith) in omega arith)
      ∙ pass_label l.labels i (f (instr.Label (l.labels + 1) ∷ rest)) (λ q. let q2 = h (omega arith) in omega arith)
      ∙ e.own i (instr.Label (l.labels + 1) ∷ rest) (λ le. h (omega arith))
      ∙ pass_label (l.labels + 1) i rest (λ q. let q2 = h (omega arith) in omega arith);
}

pub guarded_own : (l m n : Mark) (c d : Code) → IsPiece (labelled 1 l) m c → IsPiece m n d →
    IsPiece l n (guarded_code l.labels c d)
guarded_own l m n c d a b = record {
  temps = let x = a.temps in let y = b.temps in omega arith;
  labels = let x = a.labels in let y = b.labels in omega arith;
  own = λ i rest h.
      let x = a.labels in let y = b.labels in
      a.own i (d (instr.Label l.labels ∷ rest)) (λ le. let q = h (omega arith) in omega arith)
      ∙ b.own i (instr.Label l.labels ∷ rest) (λ le. h (omega arith))
      ∙ pass_label l.labels i rest (λ q. let q2 = h (omega arith) in omega arith);
}

-- behind a choice's first way, and behind its second
pub to_other : (l m n o : Mark) (d f : Code) (rest : List TacInstr) → l.labels + 2 ≤ m.labels → IsPiece m n d
    → behind l.labels (d (instr.Jump (l.labels + 1) ∷ instr.Label l.labels ∷ f (instr.Label (l.labels + 1) ∷ rest)))
    ≡ f (instr.Label (l.labels + 1) ∷ rest)
to_other l m n o d f rest le b =
    b.own l.labels (instr.Jump (l.labels + 1) ∷ instr.Label l.labels ∷ f (instr.Label (l.labels + 1) ∷ rest))
    (λ q. absurd (omega arith))
    ∙ found_label l.labels (f (instr.Label (l.labels + 1) ∷ rest))

pub to_end : (l n o : Mark) (f : Code) (rest : List TacInstr) → l.labels + 2 ≤ n.labels → IsPiece n o f →
    behind (l.labels + 1) (instr.Label l.labels ∷ f (instr.Label (l.labels + 1) ∷ rest)) ≡ rest
to_end l n o f rest le e =
    pass_label l.labels (l.labels + 1) (f (instr.Label (l.labels + 1) ∷ rest)) (λ q. absurd (omega arith))
    ∙ e.own (l.labels + 1) (instr.Label (l.labels + 1) ∷ rest) (λ q. absurd (omega arith))
    ∙ found_label (l.labels + 1) rest

module _ (ops : Operations Store) (w : World) (t : Tac) (p : Typed) (objects : ℕ → List ℕ) where
  -- looking for a label leads behind it
  pub seeks : (again : Again ops w t p objects) (is : List TacInstr) (l : ℕ) (r : Running) (s : State Store) →
      pass ops w t p objects again is (Seeks l) r s ≡ pass ops w t p objects again (behind l is) Runs r s
  seeks again [] l r s = refl
  seeks again (i ∷ is) l r s = by (is_label i l) (seeks again is l r s)
    where
      by : (b : Bool) → pass ops w t p objects again is (Seeks l) r s
          ≡ pass ops w t p objects again (behind l is) Runs r s
          → pass ops w t p objects again is (seek b l) r s
          ≡ pass ops w t p objects again (if b then is else behind l is) Runs r s
      by true h = refl
      by false h = h

  module _ (r : Running) (call : ℕ → List Value → Then Store Value) where
    -- a jump ahead
    pub jumps : (g : Rattle.lower_runs.specs.States.Scene) (l : ℕ) (is : List TacInstr) (s : State Store)
        (ts : List (Option Value)) →
        goes ops w t p objects r call g (instr.Jump l ∷ is) s ts ≡ goes ops w t p objects r call g (behind l is) s ts
    jumps g l is s ts = seeks (behind_turn ops w t p objects s.left) is l r (record s { vars = ts })
